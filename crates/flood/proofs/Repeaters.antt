-- The nodes that can repeat a message: what it is that one can, and that each that does is one of them. Assumes nothing.
use mathlib.Core.Path.{◌≡◌, refl, ap, sym, ◌∙◌}
use mathlib.Core.Logic.{◌≢◌}
use mathlib.Core.Bool.{Bool, true, false, not, ◌&&◌}
use mathlib.Core.List.{List, map, Memᴰ, Nodup}
use Prim.Native.Nat.{ℕ}
use native.Mathlib.Omega.{arith}
use borrow.Author.Tests.{eq-eqb, ne_eqb, eqb-true, eqb-false}
use lib.Dec.{eqb}
use Rattle.octets.specs.Numbers.{◌gives◌, ◌or_else◌}
use Rattle.octets.proofs.Numbering.{or_else_zero, gives_zero}
use Rattle.octets.proofs.Tests.{both}
use Rattle.pdu.specs.declared.Header.{Header}
use Rattle.decision.specs.Decision.{Node, is_for_own, pass_fault, repeat_fault}
use Rattle.decision.proofs.Chosen.{outside_none, in_none}
use Rattle.node.specs.Answers.{node_fault}
use Rattle.node.proofs.Faults.{no_fault}
use Rattle.flood.specs.Air.{Repeater, address, Open, can_repeat, repeaters}
use Rattle.flood.proofs.Kept.{kept, kept_are, kept_differ}

pub record Can (header : Header) (n : Repeater) : Type 0 where
  pub clean : node_fault n.node ≡ 0
  pub not_source : address n ≢ header.source
  pub lets_pass : pass_fault n.node header ≡ 0
  pub for_another : is_for_own (address n) header.destination ≡ false
  pub repeating_on : n.node.settings.repeating ≡ true

is_not : (t : Bool) → not t ≡ true → t ≡ false
is_not true e = sym e
is_not false e = refl

pub can_is : (header : Header) (n : Repeater) → can_repeat header n ≡ true → Can header n
unfolding can_repeat
can_is header n may =
    let (first, second) = both _ _ may in
    let (clean, other) = both (eqb (node_fault n.node) 0) _ first in
    let (pass, third) = both (eqb (pass_fault n.node header) 0) _ second in
    let (another, on) = both (not (is_for_own (address n) header.destination)) _ third in
    record {
      clean = eqb-true _ 0 clean;
      not_source = λ e. eqb-false header.source (address n) (is_not _ other) (sym e);
      lets_pass = eqb-true _ 0 pass;
      for_another = is_not _ another;
      repeating_on = on;
    }

all_five : (clean own pass for_own_lem on : Bool) → clean ≡ true → own ≡ false → pass ≡ true → for_own_lem ≡ false → on ≡ true
    → ((clean && not own) && (pass && (not for_own_lem && on))) ≡ true
all_five clean own pass for_own_lem on a b c d e = rw (a, b, c, d, e)

pub is_can : (header : Header) (n : Repeater) → Can header n → can_repeat header n ≡ true
unfolding can_repeat
is_can header n c =
    all_five _ _ _ _ _ (eq-eqb _ 0 c.clean) (ne_eqb _ _ (λ e. c.not_source (sym e))) (eq-eqb _ 0 c.lets_pass) c.for_another c.repeating_on

-- whether lists let a message pass goes by its source and its destination
pub same_pass : (node : Node) (one other : Header) → one.source ≡ other.source → one.destination ≡ other.destination
    → pass_fault node one ≡ pass_fault node other
unfolding pass_fault
same_pass node one other source to = rw (source, to)

-- the two tests that step 6 begins with
pub step_six : (n : Repeater) (header : Header) → repeat_fault n.node.settings header ≡ 0
    → (is_for_own (address n) header.destination ≡ false) × (n.node.settings.repeating ≡ true)
unfolding repeat_fault
step_six n header zero =
    let one = or_else_zero _ _ zero in
    let two = or_else_zero _ _ one.1 in
    (gives_zero _ 41 (omega arith) one.0, on n.node.settings.repeating (gives_zero _ 36 (omega arith) two.0))
  where
    on : (t : Bool) → not t ≡ false → t ≡ true
    on true e = refl
    on false e = sym e

-- an open node lets every message pass, and can repeat what is not its own and for another
pub open_passes : (node : Node) (header : Header) → Open node → pass_fault node header ≡ 0
unfolding pass_fault ◌gives◌ ◌or_else◌
open_passes node header free =
    rw (
      free.source_pass_off,
      free.source_reject_off,
      free.destination_pass_off,
      free.destination_reject_off,
      outside_none header.destination,
    )

pub open_can : (header : Header) (n : Repeater) → Open n.node → address n ≢ header.source → is_for_own (address n) header.destination ≡ false
    → Can header n
open_can header n free other another =
    record {
      clean = no_fault n.node free.edition_known free.no_list_fault;
      not_source = other;
      lets_pass = open_passes n.node header free;
      for_another = another;
      repeating_on = free.repeating_on;
    }

-- who counts: a node of the list that can repeat it
pub repeaters_are : (header : Header) (nodes : List Repeater) {n : Repeater} → Memᴰ n (repeaters header nodes) → Memᴰ n nodes × Can header n
unfolding repeaters
repeaters_are header nodes {n} m = let (n-in, can) = kept_are (can_repeat header) nodes m in (n-in, can_is header n can)

pub are_repeaters : (header : Header) (nodes : List Repeater) {n : Repeater} → Memᴰ n nodes → Can header n → Memᴰ n (repeaters header nodes)
unfolding repeaters
are_repeaters header nodes {n} m can = kept (can_repeat header) nodes m (is_can header n can)

pub repeaters_differ : (header : Header) (nodes : List Repeater) → Nodup (map address nodes) → Nodup (map address (repeaters header nodes))
unfolding repeaters
repeaters_differ header nodes d = kept_differ (can_repeat header) address nodes d
