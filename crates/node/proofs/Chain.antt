-- What is so of 0 and of every number that a node may give is so of the numbers that it gives.
use Prim.Native.Nat.{ℕ, zero, suc, ◌≤◌}
use native.Mathlib.Omega.{arith}
use mathlib.Core.Bool.{Bool, true, false}
use mathlib.Core.List.{List, [], ◌∷◌}
use mathlib.Core.Path.{◌≡◌, refl}
use Rattle.octets.specs.Numbers.{◌gives◌, ◌or_else◌}
use Rattle.pdu.specs.Header.{header_of}
use Rattle.pdu.specs.Reading.{read_of, reading_number}
use Rattle.pdu.proofs.Number.{reading_within}
use Rattle.lists.specs.Lists.{fault_of, first_fault}
use Rattle.decision.specs.Decision.{Node, echo_fault, pass_fault, drop_fault, delivery_fault, repeat_fault}
use Rattle.node.specs.Answers.{node_fault, node_or_reading_fault, stop_fault, delivery_number, repeat_number}

module _ (P : ℕ → Type 0) (none : P 0) where
  holds_gives : (test : Bool) (n : ℕ) → P n → P (test gives n)
  unfolding ◌gives◌
  holds_gives true n p = p
  holds_gives false n p = none

  holds_or_else : (n later : ℕ) → P n → (n ≡ 0 → P later) → P (n or_else later)
  unfolding ◌or_else◌
  holds_or_else zero later p q = q refl
  holds_or_else (suc n) later p q = p

  module _ (node : Node) (room : ℕ) (received : List ℕ) where
    holds_pass : P 31 → P 32 → P 33 → P 34 → P (pass_fault node (header_of received))
    unfolding pass_fault
    holds_pass a b c d =
        holds_or_else _ _ (holds_gives _ 31 a)
        (λ e. holds_or_else _ _ (holds_gives _ 32 b) (λ f. holds_or_else _ _ (holds_gives _ 33 c) (λ g. holds_gives _ 34 d)))

    pub holds_stop : P (node_or_reading_fault node received)
        → (node_or_reading_fault node received ≡ 0 → P (echo_fault node.settings (header_of received) received))
        → P 31 → P 32 → P 33 → P 34 → P 40 → P (stop_fault node room received)
    unfolding stop_fault drop_fault
    holds_stop unread echo a b c d e =
        holds_or_else _ _ unread
        (λ read. holds_or_else _ _ (holds_or_else _ _ (echo read) (λ f. holds_pass a b c d)) (λ g. holds_gives _ 40 e))

    pub holds_delivery : P (stop_fault node room received) → P 35 → P 39 → P (delivery_number node room received)
    unfolding delivery_number delivery_fault
    holds_delivery stop a b = holds_or_else _ _ stop (λ e. holds_or_else _ _ (holds_gives _ 39 b) (λ f. holds_gives _ 35 a))

    pub holds_repeat : P (stop_fault node room received) → P 36 → P 37 → P 38 → P 41 → P (repeat_number node room received)
    unfolding repeat_number repeat_fault
    holds_repeat stop a b c d =
        holds_or_else _ _ stop
        (λ e. holds_or_else _ _ (holds_gives _ 41 d)
        (λ f. holds_or_else _ _ (holds_gives _ 36 a) (λ g. holds_or_else _ _ (holds_gives _ 37 b) (λ h. holds_gives _ 38 c))))

-- the numbers of the lists and of reading are 1 to 22
abbrev Small : ℕ → Type 0
Small n = n ≤ 22

list_small : (list : List ℕ) → fault_of list ≤ 22
unfolding fault_of
list_small list =
    let some = holds_gives Small (omega arith) in
    holds_or_else Small (omega arith) _ _ (some _ 22 (omega arith))
    (λ e. holds_or_else Small (omega arith) _ _ (some _ 21 (omega arith)) (λ f. some _ 20 (omega arith)))

lists_small : (lists : List (List ℕ)) → first_fault lists ≤ 22
unfolding first_fault
lists_small [] = omega arith
lists_small (list ∷ lists) = holds_or_else Small (omega arith) _ _ (list_small list) (λ e. lists_small lists)

pub unread_small : (node : Node) (received : List ℕ) → node_or_reading_fault node received ≤ 22
unfolding node_or_reading_fault node_fault
unread_small node received =
    let read : reading_number (read_of received) ≤ 22 = omega (arith, reading_within (read_of received)) in
    holds_or_else Small (omega arith) _ _
    (holds_or_else Small (omega arith) _ _ (holds_gives Small (omega arith) _ 17 (omega arith)) (λ e. lists_small _)) (λ e. read)
