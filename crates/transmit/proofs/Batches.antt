-- 01's walk over PDUs joined back to back: their places, no answer of 1 to 6, and the end at the batch's length.
use Prim.Native.Nat.{ℕ, zero, suc, ◌+◌, ◌≤◌, ◌<◌}
use native.Mathlib.Omega.{arith}
use mathlib.Core.Bool.{Bool, true, false, ◌&&◌}
use mathlib.Core.List.{List, [], ◌∷◌, ◌++◌, flatten, append_assoc, append-nil}
use mathlib.Core.Logic.{◌⊎◌, inl, inr}
use mathlib.Core.Path.{◌≡◌, refl, ap, sym, ◌∙◌}
use lib.Dec.{leb}
use lib.ListN.{length, drop, length-append}
use lib.Seq.{drop_at}
use borrow.Author.Tests.{le-leb, lt-leb}
use Rattle.octets.specs.Numbers.{◌gives◌, ◌or_else◌}
use Rattle.octets.proofs.Numbering.{or_else_later}
use Rattle.pdu.specs.declared.Header.{Header}
use Rattle.pdu.specs.Header.{header_of}
use Rattle.pdu.specs.Sizes.{pdu_length}
use Rattle.pdu.specs.Reading.{reading_number, exactly_one}
use Rattle.pdu.proofs.Inversion.{shown}
use Rattle.pdu.proofs.Exact.{exact, exact_reads}
use Rattle.decision.specs.declared.Settings.{Settings}
use Rattle.decision.specs.Decision.{Node, echo_fault, pass_fault, drop_fault, delivery_fault, repeat_fault}
use Rattle.node.specs.Answers.{node_fault, node_or_reading_fault, stop_fault, delivery_number, repeat_number, taken, answer_of}
use Rattle.batch.proofs.Stepping.{not_too_long}
use Rattle.batch.specs.Walk.{batch_limit, Walk, before, walk_from, walk}
use Rattle.batch.proofs.Walking.{walk_end, walk_more}
use Rattle.queue.specs.Queue.{held_in, front, back}
use Rattle.queue.proofs.Runs.{AllExact, exact_long}
use Rattle.queue.proofs.Memory.{holds}
use Rattle.transmit.proofs.Laying.{held_split}
use Rattle.transmit.specs.History.{places, is_unreadable, all_readable}

-- 0, or above 6
abbrev High : ℕ → Type 0
High n = (n ≡ 0) ⊎ (6 < n)

high_gives : (test : Bool) (n : ℕ) → 6 < n → High (test gives n)
unfolding ◌gives◌
high_gives true n h = inr h
high_gives false n h = inl refl

high_else : (n later : ℕ) → High n → High later → High (n or_else later)
unfolding ◌or_else◌
high_else zero later h l = l
high_else (suc n) later h l = h

high_readable : (n : ℕ) → High n → is_unreadable n ≡ false
high_readable n (inl e) = rw (lt-leb 1 n (omega arith))
high_readable n (inr h) = above (leb 1 n) (lt-leb n 6 h)
  where
    above : (t : Bool) → leb n 6 ≡ false → (t && leb n 6) ≡ false
    above true e = e
    above false e = refl

module _ (node : Node) (header : Header) (received : List ℕ) where
  drop_high : High (drop_fault node header received)
  unfolding drop_fault echo_fault pass_fault
  drop_high =
      high_else _ _ (high_else _ _ (high_gives _ 30 (omega arith)) (high_gives _ 42 (omega arith)))
      (high_else _ _ (high_gives _ 31 (omega arith))
      (high_else _ _ (high_gives _ 32 (omega arith)) (high_else _ _ (high_gives _ 33 (omega arith)) (high_gives _ 34 (omega arith)))))

module _ (settings : Settings) (header : Header) where
  delivery_high : High (delivery_fault settings header)
  unfolding delivery_fault
  delivery_high = high_else _ _ (high_gives _ 39 (omega arith)) (high_gives _ 35 (omega arith))

  repeat_high : High (repeat_fault settings header)
  unfolding repeat_fault
  repeat_high =
      high_else _ _ (high_gives _ 41 (omega arith))
      (high_else _ _ (high_gives _ 36 (omega arith)) (high_else _ _ (high_gives _ 37 (omega arith)) (high_gives _ 38 (omega arith))))

-- the answer for a PDU that was read
module _ (node : Node) (room : ℕ) (received : List ℕ) (read : node_or_reading_fault node received ≡ 0) where
  stop_high : High (stop_fault node room received)
  unfolding stop_fault
  stop_high =
      high_else _ _ (inl read)
      (high_else _ _ (drop_high node (header_of received) received) (high_gives _ 40 (omega arith)))

  pub delivery_readable : is_unreadable (delivery_number node room received) ≡ false
  unfolding delivery_number
  delivery_readable = high_readable _ (high_else _ _ stop_high (delivery_high node.settings (header_of received)))

  pub repeat_readable : is_unreadable (repeat_number node room received) ≡ false
  unfolding repeat_number
  repeat_readable = high_readable _ (high_else _ _ stop_high (repeat_high node.settings (header_of received)))

-- what a walk finds in PDUs joined back to back
pub record Reads (walked : Walk) (offset : ℕ) (pdus : List (List ℕ)) (end : ℕ) : Type 0 where
  pub number : walked.number ≡ 0
  pub offsets : walked.offsets ≡ places offset pdus
  pub answers : all_readable walked.answers ≡ true
  pub ends : walked.end ≡ end

module _ (node : Node) (room : ℕ) (right : node_fault node ≡ 0) where
  -- one that is exactly a PDU, whatever follows it
  module _ (pdu rest : List ℕ) (one : exactly_one pdu ≡ true) where
    read_there : node_or_reading_fault node (pdu ++ rest) ≡ 0
    unfolding node_or_reading_fault
    read_there = or_else_later (node_fault node) _ right ∙ ap reading_number (exact_reads pdu one rest ∙ (exact pdu one).reads)

    takes_it : taken node (pdu ++ rest) ≡ length pdu
    unfolding taken
    takes_it =
        let is = (shown (pdu ++ rest) (header_of pdu) (exact_reads pdu one rest ∙ (exact pdu one).reads)).is in
        rw read_there (ap pdu_length (sym is) ∙ sym (exact pdu one).alone)

  -- one more before a walk
  reads_more : (offset : ℕ) (pdu received : List ℕ) (later : List (List ℕ)) (end : ℕ) (rest : Walk) → node_or_reading_fault node received ≡ 0
      → Reads rest (offset + length pdu) later end → Reads (before offset (answer_of node room received) rest) offset (pdu ∷ later) end
  unfolding places all_readable answer_of
  reads_more offset pdu received later end rest read r =
      record {
        number = r.number;
        offsets = ap (λ (l : List ℕ). offset ∷ l) r.offsets;
        answers = rw (delivery_readable node room received read, repeat_readable node room received read) r.answers;
        ends = r.ends;
      }

  -- the walk at one of them
  walks_on : (turns : ℕ) (first pdu rest : List ℕ) → exactly_one pdu ≡ true
      → walk_from (suc turns) node room (first ++ (pdu ++ rest)) (length first)
      ≡ before (length first) (answer_of node room (pdu ++ rest)) (walk_from turns node room (first ++ (pdu ++ rest)) (length first + length pdu))
  walks_on turns first pdu rest one =
      let batch = first ++ (pdu ++ rest) in
      let here : drop (length first) batch ≡ pdu ++ rest = drop_at first (pdu ++ rest) (length first) refl in
      let more : length first < length batch =
      omega (arith, length-append first (pdu ++ rest), length-append pdu rest, (exact pdu one).alone) in
      walk_more node room batch turns (length first) (lt-leb (length batch) (length first) more)
      ∙ rw (here, read_there pdu rest one, takes_it pdu rest one)

  reads_from : (turns : ℕ) (first : List ℕ) (pdus : List (List ℕ)) → AllExact pdus → length pdus ≤ turns
      → Reads (walk_from turns node room (first ++ flatten pdus) (length first)) (length first) pdus (length (first ++ flatten pdus))
  unfolding places all_readable flatten
  reads_from turns first [] all few =
      let same : length (first ++ []) ≡ length first = ap length (append-nil first) in
      let ended : leb (length (first ++ [])) (length first) ≡ true = le-leb (length (first ++ [])) (length first) (omega (arith, same)) in
      rw (walk_end node room (first ++ []) turns (length first) ended) (record { number = refl; offsets = refl; answers = refl; ends = sym same })
  reads_from zero first (pdu ∷ later) all few = absurd (omega arith)
  reads_from (suc turns) first (pdu ∷ later) all few =
      let rest = flatten later in
      let below = reads_from turns (first ++ pdu) later all.1 (omega arith) in
      rw (walks_on turns first pdu rest all.0)
      (reads_more (length first) pdu (pdu ++ rest) later (length (first ++ (pdu ++ rest)))
      (walk_from turns node room (first ++ (pdu ++ rest)) (length first + length pdu)) (read_there pdu rest all.0)
      (rw (← append_assoc first pdu rest, ← length-append first pdu) below))

  pub walk_reads : (pdus : List (List ℕ)) → AllExact pdus → length (flatten pdus) ≤ batch_limit
      → Reads (walk node room (flatten pdus)) 0 pdus (length (flatten pdus))
  unfolding walk
  walk_reads pdus all short =
      rw (not_too_long node (flatten pdus) short)
      (reads_from (length (flatten pdus)) [] pdus all (omega (arith, exact_long pdus all)))

-- a batch that was taken is no longer than a batch may be
pub front_short : (room : ℕ) (memory : List ℕ) → length (flatten (front room (held_in memory))) ≤ batch_limit
front_short room memory =
    omega (
      arith,
      (holds memory).short,
      ap length (held_split memory room),
      length-append (flatten (front room (held_in memory))) (flatten (back room (held_in memory))),
    )
