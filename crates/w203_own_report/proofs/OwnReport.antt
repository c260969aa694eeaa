-- W-203 from its parts.
use Prim.Native.Nat.{ℕ, ◌≤◌}
use native.Mathlib.Omega.{arith}
use mathlib.Core.Bool.{Bool, true, false, ◌&&◌, and-false}
use mathlib.Core.List.{List, [], Nodup}
use mathlib.Core.Logic.{◌⊎◌, inl, inr, ⊎_elim}
use mathlib.Core.Path.{◌≡◌, refl, subst, ◌∙◌}
use lib.ListN.{length}
use borrow.Author.Tests.{eq-eqb, ne_eqb, eqb-true}
use Rattle.octets.specs.Numbers.{◌gives◌, ◌or_else◌}
use Rattle.octets.proofs.Numbering.{gives_here, gives_later, gives_none}
use Rattle.octets.proofs.Tests.{both}
use Rattle.pdu.specs.Header.{header_of}
use Rattle.pdu.specs.Sizes.{pdu_length}
use Rattle.pdu.specs.Reading.{read_of}
use Rattle.pdu.specs.Parts.{addresses_at, in_path, last_or, last_sender}
use Rattle.lists.specs.Lists.{low_above_high, fault_of, first_fault, holds}
use Rattle.writing.specs.Writing.{header_bytes, path_bytes, encode}
use Rattle.origin.specs.Origination.{fresh_header, fresh}
use Rattle.decision.specs.Decision.{Node, is_echo, is_own_report, echo_fault, pass_fault, drop_fault, delivery_fault, repeat_fault}
use Rattle.decision.proofs.Dropping.{drops_30, drops_42}
use Rattle.node.specs.Repeat.{repeated}
use Rattle.node.specs.Answers.{node_fault, node_or_reading_fault, stop_fault, delivery_number, repeat_number, delivered, taken, heard_from, answer_of, given_twice}
use Rattle.node.specs.Answers.{Hears}
use Rattle.node.proofs.Answering.{read_sender, given_twice_lem}
use Rattle.node.proofs.Chain.{holds_stop, holds_delivery, holds_repeat, unread_small}
use Rattle.node.proofs.Heard.{dropped_stop, dropped_delivery}
use Rattle.bound.specs.Bound.{falling_product, series, terms, bound}
use Rattle.flood.specs.Flood.{Reception, flood, answer, others}
use Rattle.flood.specs.Air.{address, sends, on_the_air}
use Rattle.flood.proofs.Demand.{begun_source}
use Rattle.flood.proofs.Examples.{begun}
use Rattle.flood.proofs.Examples as examples
use Rattle.flood.proofs.Others as others-law
use Rattle.flood.proofs.Sent.{originator_silent}
use Rattle.w203_own_report.specs.OwnReport.{OwnReport, report, network}

neither : (echo rest : Bool) → echo ≡ false → (echo && rest) ≡ false
neither echo rest off = rw off

module _ (node : Node) (received : List ℕ) where
  -- a number that drops the PDU, answered twice
  module _ (output : List ℕ) (read : node_or_reading_fault node received ≡ 0) where
    twice_given : (n : ℕ) → (n ≡ 0 → ⊥) → drop_fault node (header_of received) received ≡ n
        → Hears node received output (given_twice n (pdu_length (header_of received)) (last_sender (header_of received) received)) output
    unfolding taken
    twice_given n some drops =
        given_twice_lem node received output n _ _ some (dropped_stop node (length output) received read n some drops) (rw read)
        (read_sender node received output read)

    own_drops : node.settings.echo ≡ true → (header_of received).source ≡ node.settings.own
        → is_echo node.settings (header_of received) received ≡ false → drop_fault node (header_of received) received ≡ 42
    own_drops on same new = drops_42 node (header_of received) received new (rw (on, eq-eqb _ _ same))

    nothing_delivered : drop_fault node (header_of received) received ≡ 42 → delivered node (length output) received ≡ []
    unfolding delivered
    nothing_delivered drops = rw (dropped_delivery node (length output) received read 42 (omega arith) drops)

  -- 42, and where it comes from
  abbrev Place : Type 0
  Place =
      (node_or_reading_fault node received ≡ 0) × (node.settings.echo ≡ true) × ((header_of received).source ≡ node.settings.own)
      × (is_echo node.settings (header_of received) received ≡ false)

  abbrev Placed : ℕ → Type 0
  Placed n = n ≡ 42 → Place

  other : (n : ℕ) → (n ≡ 42 → ⊥) → Placed n
  other n not-42 e = absurd (not-42 e)

  from_echo : node_or_reading_fault node received ≡ 0 → Placed (echo_fault node.settings (header_of received) received)
  unfolding echo_fault
  from_echo read =
      go (is_echo node.settings (header_of received) received) (is_own_report node.settings (header_of received)) refl refl
    where
      go : (echo own : Bool) → is_echo node.settings (header_of received) received ≡ echo → is_own_report node.settings (header_of received) ≡ own
          → Placed (echo gives 30 or_else own gives 42)
      go true own f g e = absurd (omega (arith, gives_here true 30 (own gives 42) (omega arith) refl))
      go false true f g e = let (on, same) = both _ _ g in (read, on, eqb-true _ _ same, f)
      go false false f g e = absurd (omega (arith, gives_later false 30 (false gives 42) refl, gives_none false 42 refl))

  stop_placed : (room : ℕ) → Placed (stop_fault node room received)
  stop_placed room =
      holds_stop Placed (other 0 (omega arith)) node room received (other _ (λ e. omega (arith, unread_small node received))) from_echo
      (other 31 (omega arith)) (other 32 (omega arith)) (other 33 (omega arith)) (other 34 (omega arith)) (other 40 (omega arith))

  delivery_placed : (room : ℕ) → Placed (delivery_number node room received)
  delivery_placed room =
      holds_delivery Placed (other 0 (omega arith)) node room received (stop_placed room) (other 35 (omega arith)) (other 39 (omega arith))

  repeat_placed : (room : ℕ) → Placed (repeat_number node room received)
  repeat_placed room =
      holds_repeat Placed (other 0 (omega arith)) node room received (stop_placed room) (other 36 (omega arith)) (other 37 (omega arith))
      (other 38 (omega arith)) (other 41 (omega arith))

  -- with echo off, or of another source
  not_own : (node.settings.echo ≡ false) ⊎ ((header_of received).source ≡ node.settings.own → ⊥)
      → is_own_report node.settings (header_of received) ≡ false
  not_own (inl off) = neither _ _ off
  not_own (inr another) = rw (ne_eqb _ _ another) (and-false node.settings.echo)

  unchanged : is_own_report node.settings (header_of received) ≡ false
      → drop_fault node (header_of received) received
      ≡ (is_echo node.settings (header_of received) received gives 30 or_else pass_fault node (header_of received))
  unfolding drop_fault echo_fault ◌gives◌ ◌or_else◌
  unchanged own = rw own (go (is_echo node.settings (header_of received) received) (pass_fault node (header_of received)))
    where
      go : (echo : Bool) (later : ℕ) → ((echo gives 30 or_else false gives 42) or_else later) ≡ (echo gives 30 or_else later)
      go true later = refl
      go false later = refl

  -- with echo off
  module _ (off : node.settings.echo ≡ false) (room : ℕ) where
    abbrev Neither : ℕ → Type 0
    Neither n = (n ≡ 30 → ⊥) × (n ≡ 42 → ⊥)

    no_echo : echo_fault node.settings (header_of received) received ≡ 0
    unfolding echo_fault
    no_echo = gives_later _ 30 _ (neither _ _ off) ∙ gives_none _ 42 (neither _ _ off)

    stop_neither : Neither (stop_fault node room received)
    stop_neither =
        let unread = unread_small node received in
        holds_stop Neither (omega arith, omega arith) node room received (λ e. omega arith, λ e. omega arith)
        (λ read. rw no_echo (omega arith, omega arith)) (omega arith, omega arith) (omega arith, omega arith) (omega arith, omega arith)
        (omega arith, omega arith) (omega arith, omega arith)

    delivery_neither : Neither (delivery_number node room received)
    delivery_neither =
        holds_delivery Neither (omega arith, omega arith) node room received stop_neither (omega arith, omega arith) (omega arith, omega arith)

    repeat_neither : Neither (repeat_number node room received)
    repeat_neither =
        holds_repeat Neither (omega arith, omega arith) node room received stop_neither (omega arith, omega arith) (omega arith, omega arith)
        (omega arith, omega arith) (omega arith, omega arith)

-- the report is the one of flood's examples, and so are the nodes
report_is : begun true 2 ≡ report
unfolding fresh fresh_header encode header_bytes path_bytes
report_is = refl

never_three : (receptions : List Reception) → Nodup receptions → length (on_the_air (network true) report receptions) ≤ 2
never_three receptions once =
    subst (λ (first : List ℕ). length (on_the_air (network true) first receptions) ≤ 2) report_is (examples.never_three receptions once)

pub own_report : OwnReport
unfolding bound series falling_product terms others flood answer sends repeated repeat_number delivery_number stop_fault node_fault node_or_reading_fault first_fault
    fault_of low_above_high holds read_of header_of drop_fault echo_fault pass_fault delivery_fault repeat_fault taken heard_from answer_of addresses_at in_path
    last_or ◌gives◌ ◌or_else◌
own_report =
    record {
      dropped = λ node received output read on same new.
          let drops = own_drops node received output read on same new in
          (twice_given node received output read 42 (omega arith) drops, nothing_delivered node received output read drops);
      echo_first = λ node received output read echo.
          twice_given node received output read 30 (omega arith) (drops_30 node (header_of received) received echo);
      dropped_only = λ node room received. ⊎_elim (delivery_placed node received room) (repeat_placed node received room);
      echo_off = λ node room received off.
          let d = delivery_neither node received off room in
          let r = repeat_neither node received off room in
          (d.0, d.1, r.0, r.1);
      as_before = λ node received other. unchanged node received (not_own node received other);
      silent = originator_silent;
      source_kept = begun_source;
      all_count = λ nodes source none. others-law.all_count address source nodes none;
      originator_does_not = λ nodes all n m. others-law.all_but_one_count address (address n) nodes all.addresses_differ n m refl;
      two_bound = refl;
      two_sent = refl;
      never_three = never_three;
      three_with_echo_off = refl;
      without_path = refl;
      with_path_lem = refl;
      with_both = refl;
      before_lists = (refl, refl);
      cut_short = refl;
      off = refl;
      for_own_lem = refl;
    }
