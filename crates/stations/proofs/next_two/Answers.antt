use Rattle.stations.proofs.Places.{two_so, next_lower, next_not_lower}
use Rattle.stations.specs.Table.{table_in, addresses, next_place}
use mathlib.Core.Path.{ap, ◌∙◌}
use Prim.Native.Nat.{ℕ, ◌/◌}
use native.Mathlib.Omega.{arith}
use Rattle.stations.proofs.next_two.Goals.{then-over_far, else-over_far, then-over_near, else-over_near}
use Rattle.stations.proofs.next_two.Goals as goal

pub returns-then-over_middle : goal.returns-then-over_middle
returns-then-over_middle c =
    elim c.if-over_far.branch [
      | then-over_far w ↦
          rw w.behind-is (
            two_so _ _ _ _ _ _ _ (next_lower _ _ _ _ (omega arith) (omega arith) c.if-over_middle.true)
                (next_lower _ _ _ _ (omega arith) (omega arith) w.if-over_far.true),
            omega arith,
          )
      | else-over_far w ↦
          rw w.behind-is (
            two_so _ _ _ _ _ _ _ (next_lower _ _ _ _ (omega arith) (omega arith) c.if-over_middle.true)
                (next_not_lower _ _ _ _ (omega arith) (omega arith) w.if-over_far.false),
            omega arith,
          )
    ]

pub returns-else-over_middle : goal.returns-else-over_middle
returns-else-over_middle c =
    elim c.if-over_near.branch [
      | then-over_near w ↦
          rw w.before-is (
            two_so _ _ _ _ _ _ _ (next_not_lower _ _ _ _ (omega arith) (omega arith) c.if-over_middle.false)
                (next_lower _ _ _ _ (omega arith) (omega arith) w.if-over_near.true),
            omega arith,
          )
      | else-over_near w ↦
          rw w.before-is (
            two_so _ _ _ _ _ _ _ (next_not_lower _ _ _ _ (omega arith) (omega arith) c.if-over_middle.false)
                (next_not_lower _ _ _ _ (omega arith) (omega arith) w.if-over_near.false),
            omega arith,
          )
    ]

pub returns : goal.returns
returns c =
    let a = c.args in
    let known = addresses (table_in a.table.now) in (
      c.next_place.ensures.0 ∙ ap (λ (from : ℕ). next_place a.address known from (a.step / 2)) c.next_place-next.ensures.0,
      c.next_place.ensures.1,
    )
