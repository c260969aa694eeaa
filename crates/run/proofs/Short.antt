-- How many characters a job prints: at most 6 for each byte of its batch, and 48 more.
use Prim.Native.Nat.{ℕ, zero, suc, ◌+◌, ◌*◌, ◌≤◌, ◌<◌}
use native.Mathlib.Omega.{arith}
use mathlib.Core.Bool.{Bool, true, false, cond}
use mathlib.Core.List.{List, [], ◌∷◌, ◌++◌, flatten}
use mathlib.Core.Path.{◌≡◌, refl, ap, ◌∙◌}
use lib.Dec.{leb, eqb}
use lib.ListN.{length, drop, length-append, length-drop}
use borrow.Author.Tests.{leb-false, eq-eqb, ne_eqb, eqb-true, eqb-false}
use Rattle.std.specs.Prelude.{Option, None, Some}
use Rattle.octets.specs.Numbers.{flag, ◌gives◌, ◌or_else◌}
use Rattle.octets.proofs.Numbering.{or_else_zero}
use Rattle.octets.specs.Octets.{AllBytes}
use Rattle.octets.proofs.Words.{bytes_take, bytes_drop}
use Rattle.octets.proofs.Tests.{flag_small}
use Rattle.pdu.specs.Header.{header_of}
use Rattle.pdu.specs.Sizes.{pdu_length}
use Rattle.pdu.specs.Reading.{read_of, reading_number}
use Rattle.pdu.specs.Parts.{path_in, last_or, last_sender}
use Rattle.pdu.proofs.Number.{reading_within}
use Rattle.pdu.proofs.Senders.{sender_small}
use Rattle.lists.specs.Lists.{fault_of, first_fault}
use Rattle.node.specs.declared.Answer.{Answer}
use Rattle.decision.specs.Decision.{Node, echo_fault, pass_fault, drop_fault, delivery_fault, repeat_fault}
use Rattle.node.specs.Repeat.{repeated, repeated_length}
use Rattle.node.specs.Answers.{node_fault, node_or_reading_fault, stop_fault, delivery_number, repeat_number, taken, heard_from}
use Rattle.node.proofs.Answering.{read_sender, unread_sender}
use Rattle.node.proofs.Heard.{repeats}
use Rattle.node.proofs.Repeating.{length_repeated}
use Rattle.batch.specs.Walk.{batch_limit, Walk, ending_at, before, walk_from, walk}
use Rattle.batch.proofs.Stepping.{taken_within, not_too_long}
use Rattle.batch.proofs.Walking.{answer, walk_none, walk_end, walk_more}
use Rattle.text.specs.Text.{decimal}
use Rattle.lines.specs.Lines.{shown, sender_shown, first_line, last_line, refused_line}
use Rattle.text.proofs.Decimal.{length_decimal, decimal_of_16_bits}
use Rattle.lines.proofs.Shown.{length_shown, shown_within}
use Rattle.lines.proofs.Lines.{first_line_at_most, refused_line_at_most, pdu_line_at_most, last_line_at_most}
use Rattle.job.specs.declared.Job.{Job}
use Rattle.std.specs.Prelude.{Ok, Err}
use Rattle.job.proofs.Results.{Read}
use Rattle.job.specs.Jobs.{job_refusal_number, job_of, batch_in, node_in}
use Rattle.job.proofs.Inversion.{job_in, own_small}
use Rattle.job.proofs.Within.{refusal_within}
use Rattle.run.specs.Run.{room_for_one, repeated_or_none, line_at, pdu_lines, walk_lines, batch_lines, job_lines, run_lines, printed, text_room}
use Rattle.run.proofs.Jobs.{batch_short, own_is}

-- numbers of at most so much
gives_within : (test : Bool) {n most : ℕ} → n ≤ most → (test gives n) ≤ most
unfolding ◌gives◌
gives_within true h = h
gives_within false h = omega arith

or_else_within : (n later : ℕ) {most : ℕ} → n ≤ most → later ≤ most → (n or_else later) ≤ most
unfolding ◌or_else◌
or_else_within zero later h k = k
or_else_within (suc n) later h k = h

-- the lines' characters together
abbrev characters : List (List ℕ) → ℕ
characters lines = length (flatten lines)

none : characters [] ≡ 0
unfolding flatten
none = refl

one_more : (line : List ℕ) (later : List (List ℕ)) → characters (line ∷ later) ≡ length line + characters later
unfolding flatten
one_more line later = length-append line (flatten later)

with_last : (lines : List (List ℕ)) (last : List ℕ) → characters (lines ++ (last ∷ [])) ≡ characters lines + length last
unfolding flatten
with_last [] last = omega (arith, one_more last [], none)
with_last (line ∷ later) last = one_more line (later ++ (last ∷ [])) ∙ omega (arith, with_last later last, one_more line later)

-- no number of a PDU's answer is above 42
fault_within : (list : List ℕ) → fault_of list ≤ 42
unfolding fault_of
fault_within list =
    or_else_within _ _ (gives_within _ (omega arith)) (or_else_within _ _ (gives_within _ (omega arith)) (gives_within _ (omega arith)))

first_within : (lists : List (List ℕ)) → first_fault lists ≤ 42
unfolding first_fault
first_within [] = omega arith
first_within (list ∷ lists) = or_else_within _ _ (fault_within list) (first_within lists)

module _ (node : Node) (received : List ℕ) where
  drop_within : drop_fault node (header_of received) received ≤ 42
  unfolding drop_fault echo_fault pass_fault
  drop_within =
      or_else_within _ _ (or_else_within _ _ (gives_within _ (omega arith)) (gives_within _ (omega arith)))
      (or_else_within _ _ (gives_within _ (omega arith))
      (or_else_within _ _ (gives_within _ (omega arith)) (or_else_within _ _ (gives_within _ (omega arith)) (gives_within _ (omega arith)))))

  stop_within : stop_fault node room_for_one received ≤ 42
  unfolding stop_fault node_or_reading_fault node_fault
  stop_within =
      let read : reading_number (read_of received) ≤ 42 = omega (arith, reading_within (read_of received)) in
      or_else_within _ _ (or_else_within _ _ (or_else_within _ _ (gives_within _ (omega arith)) (first_within _)) read)
      (or_else_within _ _ drop_within (gives_within _ (omega arith)))

  delivery_within : delivery_number node room_for_one received ≤ 42
  unfolding delivery_number delivery_fault
  delivery_within = or_else_within _ _ stop_within (or_else_within _ _ (gives_within _ (omega arith)) (gives_within _ (omega arith)))

  repeat_within : repeat_number node room_for_one received ≤ 42
  unfolding repeat_number repeat_fault
  repeat_within =
      or_else_within _ _ stop_within
      (or_else_within _ _ (gives_within _ (omega arith))
      (or_else_within _ _ (gives_within _ (omega arith)) (or_else_within _ _ (gives_within _ (omega arith)) (gives_within _ (omega arith)))))

-- how long a PDU is that was read
read_taken : (node : Node) (received : List ℕ) → node_or_reading_fault node received ≡ 0 → taken node received ≡ pdu_length (header_of received)
unfolding taken
read_taken node received z = rw (eq-eqb _ 0 z)

-- the last sender has at most 5 digits, and is `-` without the path bit
sender_within : (bytes : List ℕ) → AllBytes bytes
    → length (sender_shown (last_sender (header_of bytes) bytes)) ≤ 1 + 4 * flag (header_of bytes).path_bit
sender_within bytes small = go (header_of bytes).path_bit
  where
    go : (bit : Bool) → length (sender_shown (cond bit (Some (last_or (header_of bytes).source (path_in (header_of bytes) bytes))) None))
        ≤ 1 + 4 * flag bit
    go true = omega (arith, decimal_of_16_bits (last_or (header_of bytes).source (path_in (header_of bytes) bytes)) (sender_small bytes small))
    go false = omega arith

-- one line
module _ (node : Node) (batch : List ℕ) (bytes : AllBytes batch) (number offset : ℕ) (few : number < 10000) (near : offset < 100000) where
  abbrev received : List ℕ
  received = drop offset batch

  abbrev sender : Option ℕ
  sender = heard_from node received

  abbrev repeat_of : ℕ
  repeat_of = repeat_number node room_for_one received

  line_within : length (line_at node batch number offset)
      ≤ 17 + length (decimal repeat_of) + length (shown (repeated_or_none node received)) + length (sender_shown sender)
  line_within =
      let d : delivery_number node room_for_one received < 100 = omega (arith, delivery_within node received) in
      pdu_line_at_most number offset _ repeat_of (repeated_or_none node received) sender few near d

  line_not_repeated : eqb repeat_of 0 ≡ false → length (line_at node batch number offset) ≤ 20 + length (sender_shown sender)
  line_not_repeated e =
      let none : repeated_or_none node received ≡ [] = rw e in
      let digits = length_decimal 1 repeat_of (omega (arith, repeat_within node received)) in
      omega (arith, line_within, digits, ap length (ap shown none), length_shown [])

  sender_read : node_or_reading_fault node received ≡ 0 → length (sender_shown sender) ≤ 1 + 4 * flag (header_of received).path_bit
  sender_read z = rw (read_sender node received [] z) (sender_within received (bytes_drop offset batch bytes))

  -- a repeat is 2 bytes longer than what was received, with the path bit, and that has 7 bytes at least
  line_repeated : node_or_reading_fault node received ≡ 0 → eqb repeat_of 0 ≡ true
      → length (line_at node batch number offset) ≤ 6 * pdu_length (header_of received)
  line_repeated read e =
      let z = eqb-true repeat_of 0 e in
      let r = repeats node room_for_one received z in
      let s = r.ready.shown in
      let one : repeated_or_none node received ≡ repeated node.settings.own received = rw e in
      let long = ap length one ∙ length_repeated received [] node.settings.own r.header s.is s.ends ∙ ap repeated_length s.is in
      let hex = shown_within (repeated_or_none node received) (repeated_length (header_of received)) (omega (arith, long)) (omega arith) in
      omega (arith, line_within, hex, length_decimal 0 repeat_of (omega arith), sender_read read, flag_small (header_of received).path_bit)

  -- of a PDU that was read: 6 characters a byte
  line_of_read : node_or_reading_fault node received ≡ 0
      → (length (line_at node batch number offset) ≤ 6 * taken node received) × (6 ≤ taken node received)
  line_of_read z = (go (eqb repeat_of 0) refl, omega (arith, size))
    where
      size : taken node received ≡ pdu_length (header_of received)
      size = read_taken node received z

      go : (yes : Bool) → eqb repeat_of 0 ≡ yes → length (line_at node batch number offset) ≤ 6 * taken node received
      go true e = omega (arith, line_repeated z e, size)
      go false e = omega (arith, line_not_repeated e, sender_read z, flag_small (header_of received).path_bit, size)

  line_of_fault : (node_or_reading_fault node received ≡ 0 → ⊥) → length (line_at node batch number offset) ≤ 21
  unfolding repeat_number stop_fault
  line_of_fault h =
      let unknown : length (sender_shown sender) ≡ 1 = ap (λ (s : Option ℕ). length (sender_shown s)) (unread_sender node received [] h) in
      omega (arith, line_not_repeated (ne_eqb repeat_of 0 (λ z. h (or_else_zero _ _ (or_else_zero _ _ z).0).0)), unknown)

-- the lines of a walk
module _ (node : Node) (batch : List ℕ) (bytes : AllBytes batch) (short : length batch ≤ batch_limit) where
  record Few (printed offset : ℕ) (w : Walk) : Type 0 where
    all : characters (pdu_lines node batch (printed + 1) w.offsets) + 6 * offset ≤ 6 * w.end + 21
    within : w.end ≤ length batch
    lines : 6 * length w.offsets + offset ≤ w.end + 6

  few_none : (printed offset number : ℕ) → offset ≤ length batch → Few printed offset (ending_at number offset)
  unfolding pdu_lines flatten
  few_none printed offset number h = record { all = omega arith; within = h; lines = omega arith }

  -- one line more
  module _ (printed offset : ℕ) (behind : 6 * printed ≤ offset) (inside : offset < length batch) (answer : Answer) where
    few_read : node_or_reading_fault node (drop offset batch) ≡ 0 → (w : Walk) → Few (printed + 1) (offset + taken node (drop offset batch)) w
        → Few printed offset (before offset answer w)
    unfolding pdu_lines
    few_read z w f =
        let line = line_of_read node batch bytes (printed + 1) offset (omega arith) (omega arith) z in
        let all = one_more (line_at node batch (printed + 1) offset) (pdu_lines node batch (printed + 1 + 1) w.offsets) in
        record { all = omega (arith, all, line.0, f.all); within = f.within; lines = omega (arith, line.1, f.lines) }

    few_fault : (node_or_reading_fault node (drop offset batch) ≡ 0 → ⊥) → Few printed offset (before offset answer (ending_at 0 offset))
    unfolding pdu_lines flatten
    few_fault h =
        let line = line_of_fault node batch bytes (printed + 1) offset (omega arith) (omega arith) h in
        let all = one_more (line_at node batch (printed + 1) offset) [] in
        record { all = omega (arith, all, line); within = omega arith; lines = omega arith }

  abbrev walked : ℕ → ℕ → Walk
  walked n offset = walk_from n node room_for_one batch offset

  few_walk : (n printed offset : ℕ) → 6 * printed ≤ offset → offset ≤ length batch → Few printed offset (walked n offset)
  few_walk zero printed offset h k = rw (walk_none node room_for_one batch offset) (few_none printed offset 0 k)
  few_walk (suc n) printed offset h k =
      at_end (leb (length batch) offset) refl (λ a b. few_walk n (printed + 1) (offset + taken node (drop offset batch)) a b)
    where
      after : (t : Bool) → eqb (node_or_reading_fault node (drop offset batch)) 0 ≡ t → offset < length batch
          → (6 * (printed + 1) ≤ offset + taken node (drop offset batch) → offset + taken node (drop offset batch) ≤ length batch
          → Few (printed + 1) (offset + taken node (drop offset batch)) (walked n (offset + taken node (drop offset batch))))
          → Few printed offset
          (before offset (answer node room_for_one batch offset) (cond t (walked n (offset + taken node (drop offset batch))) (ending_at 0 offset)))
      after true e inside below =
          let z = eqb-true _ 0 e in
          let most = (taken_within node (drop offset batch)).within in
          few_read printed offset h inside _ z _
          (below (omega (arith, read_taken node (drop offset batch) z)) (omega (arith, most, length-drop offset batch)))
      after false e inside below = few_fault printed offset h inside _ (eqb-false _ 0 e)

      at_end : (t : Bool) → leb (length batch) offset ≡ t
          → (6 * (printed + 1) ≤ offset + taken node (drop offset batch) → offset + taken node (drop offset batch) ≤ length batch
          → Few (printed + 1) (offset + taken node (drop offset batch)) (walked n (offset + taken node (drop offset batch))))
          → Few printed offset (walked (suc n) offset)
      at_end true e below = rw (walk_end node room_for_one batch (suc n) offset e) (few_none printed offset 0 k)
      at_end false e below =
          rw (walk_more node room_for_one batch n offset e)
          (after (eqb (node_or_reading_fault node (drop offset batch)) 0) refl (leb-false (length batch) offset e) below)

  walk_is : walk node room_for_one batch ≡ walked (length batch) 0
  unfolding walk
  walk_is = rw (not_too_long node batch short)

  batch_within : node.settings.own < 65536 → characters (batch_lines node batch) ≤ text_room
  unfolding batch_lines walk_lines
  batch_within small =
      let w = walk node room_for_one batch in
      let f : Few 0 0 w = rw walk_is (few_walk (length batch) 0 0 (omega arith) (omega arith)) in
      let lines = pdu_lines node batch (0 + 1) w.offsets in
      let last = last_line (0 + length w.offsets) w.end in
      omega (
        arith,
        one_more (first_line node.settings.own) (lines ++ (last ∷ [])),
        with_last lines last,
        first_line_at_most node.settings.own small,
        f.all,
        f.within,
        last_line_at_most (0 + length w.offsets) w.end (omega (arith, f.lines, f.within)) (omega (arith, f.within)),
      )

batch_bytes : (bytes : List ℕ) → AllBytes bytes → (job : Job) → AllBytes (batch_in bytes job)
batch_bytes bytes small job =
    bytes_take job.batch.count (drop job.batch.place bytes) (bytes_drop job.batch.place bytes small)

-- all that a job prints has room in `text_room` characters
pub printed_within : (bytes : List ℕ) → AllBytes bytes → length (printed bytes) ≤ text_room
unfolding printed run_lines
printed_within bytes small = go (job_of bytes) refl
  where
    go : (read : Read Job) → job_of bytes ≡ read → characters (job_lines bytes read) ≤ text_room
    go (Err refusal) e =
        let number = job_refusal_number refusal in
        let known : number < 256 = omega (arith, refusal_within refusal) in
        omega (arith, one_more (refused_line number) [], refused_line_at_most number known, none)
    go (Ok job) e =
        batch_within (node_in bytes job) (batch_in bytes job) (batch_bytes bytes small job) (batch_short bytes job _ e refl)
        (omega (arith, own_is job, own_small bytes job small (job_in bytes job e)))
