-- A step and a walk of a node that 17 or a fault of the lists stops: that number twice, and the walk ends at the same place. 17 comes before 54.
use Prim.Native.Nat.{ℕ, ◌+◌}
use native.Mathlib.Omega.{arith}
use mathlib.Core.Bool.{Bool, true, false, cond, ◌||◌, ◌&&◌}
use mathlib.Core.List.{List, [], ◌∷◌}
use mathlib.Core.Path.{◌≡◌, refl, ap, ◌∙◌}
use lib.Dec.{ltb}
use lib.ListN.{length, drop}
use borrow.Author.Tests.{ne_eqb, lt-leb}
use Rattle.std.specs.Prelude.{None}
use Rattle.editions.specs.Editions.{known}
use Rattle.decision.specs.Decision.{Node}
use Rattle.node.specs.Answers.{node_fault, given_twice, output_after}
use Rattle.node.proofs.Faults.{fault_unread, fault_taken, fault_answer, fault_output}
use Rattle.batch.specs.declared.Cursor.{Cursor}
use Rattle.batch.specs.declared.Stepped.TheVariants.{Ended, Answered}
use Rattle.batch.specs.Walk.{batch_limit, is_too_long, is_done, step_of, step_output, walk_from, walk}
use Rattle.batch.proofs.Stepping.{not_too_long}
use Rattle.batch.proofs.Walking.{walk_more}

-- an edition that is not known is never told 54
pub unknown_not_long : (node : Node) (batch : List ℕ) → known node.settings.edition ≡ false → is_too_long node.settings.edition batch ≡ false
unknown_not_long node batch e = ap (λ (named : Bool). named && ltb batch_limit (length batch)) e

-- a step at a cursor that is done, with a fault or without one
pub done_step : (node : Node) (room : ℕ) (batch : List ℕ) (cursor : Cursor) (output : List ℕ) → is_too_long node.settings.edition batch ≡ false
    → is_done batch cursor ≡ true
    → (step_of node room batch cursor ≡ Ended) × (step_output node batch cursor output ≡ output)
unfolding step_of step_output
done_step node room batch cursor output short done = rw (short, done) (refl, refl)

module _ (node : Node) (n : ℕ) (some : n ≡ 0 → ⊥) (fault : node_fault node ≡ n) (batch : List ℕ)
    (short : is_too_long node.settings.edition batch ≡ false) where
  pub fault_step : (room : ℕ) (cursor : Cursor) → is_done batch cursor ≡ false
      → step_of node room batch cursor ≡ Answered (given_twice n 0 None) (record { place = cursor.place; ended = true })
  unfolding step_of
  fault_step room cursor more =
      let rest = drop cursor.place batch in
      let same : cursor.place + 0 ≡ cursor.place = omega arith in
      rw (short, more, fault_answer node n some fault rest room, fault_taken node n some fault rest, fault_unread node n some fault rest, ne_eqb n 0 some)
      (ap (λ (place : ℕ). Answered (given_twice n 0 None) (record { place = place; ended = true })) same)

  pub fault_step_output : (cursor : Cursor) (output : List ℕ) → step_output node batch cursor output ≡ output
  unfolding step_output
  fault_step_output cursor output = go (is_too_long node.settings.edition batch || is_done batch cursor)
    where
      go : (t : Bool) → cond t output (output_after node (drop cursor.place batch) output) ≡ output
      go true = refl
      go false = fault_output node n some fault (drop cursor.place batch) output

-- a walk: the one answer, at the first byte; an empty batch has none
module _ (node : Node) (n : ℕ) (some : n ≡ 0 → ⊥) (fault : node_fault node ≡ n) (room byte : ℕ) (bytes : List ℕ)
    (short : is_too_long node.settings.edition (byte ∷ bytes) ≡ false) where
  pub fault_walk : walk node room (byte ∷ bytes) ≡ record { number = 0; offsets = 0 ∷ []; answers = given_twice n 0 None ∷ []; end = 0 }
  unfolding walk
  fault_walk =
      rw short
      (walk_more node room (byte ∷ bytes) (length bytes) 0 (lt-leb (length (byte ∷ bytes)) 0 (omega arith))
      ∙ rw (fault_answer node n some fault (byte ∷ bytes) room, fault_unread node n some fault (byte ∷ bytes), ne_eqb n 0 some))

pub empty_walk : (node : Node) (room : ℕ) → walk node room [] ≡ record { number = 0; offsets = []; answers = []; end = 0 }
unfolding walk walk_from
empty_walk node room = rw (not_too_long node [] (omega arith))
