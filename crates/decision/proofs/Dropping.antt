-- Steps 3 and 4: which number drops a PDU, and what follows where none does.
use Prim.Native.Nat.{ℕ}
use native.Mathlib.Omega.{arith}
use mathlib.Core.Bool.{true, false}
use mathlib.Core.List.{List}
use mathlib.Core.Path.{◌≡◌, ap, ◌∙◌}
use Rattle.octets.specs.Numbers.{◌or_else◌}
use Rattle.octets.proofs.Numbering.{or_else_zero, gives_zero, gives_here, gives_later, gives_last, or_else_first}
use Rattle.pdu.specs.declared.Header.{Header}
use Rattle.decision.specs.Decision.{Node, is_echo, is_own_report, echo_fault, pass_fault, drop_fault}

module _ (node : Node) (header : Header) (received : List ℕ) where
  pub drops_30 : is_echo node.settings header received ≡ true → drop_fault node header received ≡ 30
  unfolding drop_fault echo_fault
  drops_30 echo = ap (λ (n : ℕ). n or_else pass_fault node header) (gives_here _ 30 _ (omega arith) echo) ∙ or_else_first 30 _ (omega arith)

  pub drops_42 : is_echo node.settings header received ≡ false → is_own_report node.settings header ≡ true → drop_fault node header received ≡ 42
  unfolding drop_fault echo_fault
  drops_42 echo own =
      ap (λ (n : ℕ). n or_else pass_fault node header) (gives_later _ 30 _ echo ∙ gives_last _ 42 own) ∙ or_else_first 42 _ (omega arith)

  pub passed : drop_fault node header received ≡ 0
      → (is_echo node.settings header received ≡ false) × (is_own_report node.settings header ≡ false) × (pass_fault node header ≡ 0)
  unfolding drop_fault echo_fault
  passed zero =
      let both = or_else_zero _ _ zero in
      let echo = or_else_zero _ _ both.0 in
      (gives_zero _ 30 (omega arith) echo.0, gives_zero _ 42 (omega arith) echo.1, both.1)
