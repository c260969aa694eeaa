-- What a node's answer says of a PDU: whether it was read, and whether echo dropped it.
use Prim.Native.Nat.{ℕ}
use native.Mathlib.Omega.{arith}
use mathlib.Core.Bool.{Bool, true, false, not, cond, ◌||◌}
use mathlib.Core.List.{List}
use mathlib.Core.Path.{◌≡◌, refl, ap, sym, subst, ◌∙◌}
use lib.Dec.{T, eqb}
use borrow.Author.Tests.{eqb-true, ne_eqb}
use Rattle.octets.proofs.Numbering.{gives_later, gives_none}
use Rattle.pdu.specs.Header.{header_of}
use Rattle.pdu.specs.Sizes.{pdu_length}
use Rattle.decision.specs.Decision.{Node, is_echo, is_own_report, echo_fault}
use Rattle.decision.proofs.Dropping.{drops_30, drops_42}
use Rattle.node.specs.Answers.{node_or_reading_fault, taken, answer_of}
use Rattle.node.proofs.Chain.{holds_stop, holds_delivery}
use Rattle.node.proofs.Heard.{dropped_delivery}
use Rattle.node_stations.specs.CountedAnswers.{was_read, is_echo_number, heard_of}

-- a PDU was read where the edition is known, no list is at fault and reading refused nothing, and nowhere else
pub read_judged : (node : Node) (room : ℕ) (received : List ℕ) → node_or_reading_fault node received ≡ 0 → was_read (answer_of node room received) ≡ true
unfolding answer_of taken
read_judged node room received e =
    let some : pdu_length (header_of received) ≡ 0 → ⊥ = λ z. omega arith in
    rw (e, ne_eqb (pdu_length (header_of received)) 0 some)

pub unread_judged : (node : Node) (room : ℕ) (received : List ℕ) → was_read (answer_of node room received) ≡ true → node_or_reading_fault node received ≡ 0
unfolding answer_of taken
unread_judged node room received = go (eqb (node_or_reading_fault node received) 0) refl
  where
    go : (t : Bool) → eqb (node_or_reading_fault node received) 0 ≡ t → not (eqb (cond t (pdu_length (header_of received)) 0) 0) ≡ true
        → node_or_reading_fault node received ≡ 0
    go true f e = eqb-true (node_or_reading_fault node received) 0 f
    go false f e = absurd (subst T (sym e) tt)

-- and an echo is one that echo dropped, by its path or by its source
pub echo_judged : (node : Node) (room : ℕ) (received : List ℕ) → node_or_reading_fault node received ≡ 0
    → (heard_of (answer_of node room received) received).echo
    ≡ (is_echo node.settings (header_of received) received || is_own_report node.settings (header_of received))
unfolding answer_of echo_fault
echo_judged node room received e =
    go (is_echo node.settings (header_of received) received) (is_own_report node.settings (header_of received)) refl refl
  where
    go : (echo own : Bool) → is_echo node.settings (header_of received) received ≡ echo → is_own_report node.settings (header_of received) ≡ own
        → is_echo_number (answer_of node room received).delivery ≡ (echo || own)
    go true own f g =
        ap is_echo_number (dropped_delivery node room received e 30 (omega arith) (drops_30 node (header_of received) received f))
    go false true f g =
        ap is_echo_number (dropped_delivery node room received e 42 (omega arith) (drops_42 node (header_of received) received f g))
    go false false f g =
        let none : echo_fault node.settings (header_of received) received ≡ 0 = gives_later _ 30 _ f ∙ gives_none _ 42 g in
        let P : ℕ → Type 0 = λ n. is_echo_number n ≡ false in
        let stop = holds_stop P refl node room received (rw e refl) (λ read. rw none refl) refl refl refl refl refl in
        holds_delivery P refl node room received stop refl refl
