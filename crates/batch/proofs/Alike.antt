-- Nodes that answer alike step alike and walk alike. So only the first check reads the edition (document 02, W-209), and the lists chosen alone are read
-- where there is no fault (W-211).
use Prim.Native.Nat.{ℕ, zero, suc, ◌+◌}
use mathlib.Core.Bool.{Bool, true, ◌&&◌}
use mathlib.Core.List.{List}
use mathlib.Core.Path.{◌≡◌, refl, ap}
use lib.Dec.{ltb}
use lib.ListN.{length, drop}
use Rattle.editions.specs.Editions.{known}
use Rattle.decision.specs.Decision.{Node}
use Rattle.node.specs.Answers.{node_fault, taken}
use Rattle.node.proofs.Alike.{Alike, alike_unread, alike_taken, alike_answer, alike_output}
use Rattle.node.specs.Editions.{with_edition}
use Rattle.node.proofs.Editions.{edition_alike}
use Rattle.node.proofs.Choices.{SameChosen, chosen_alike}
use Rattle.batch.specs.declared.Cursor.{Cursor}
use Rattle.batch.specs.Walk.{batch_limit, is_too_long, step_of, step_output, walk_from, walk}

module _ (a b : Node) (alike : Alike a b) where
  long : (batch : List ℕ) → is_too_long a.settings.edition batch ≡ is_too_long b.settings.edition batch
  long batch = ap (λ (named : Bool). named && ltb batch_limit (length batch)) alike.edition

  pub alike_step : (room : ℕ) (batch : List ℕ) (cursor : Cursor) → step_of a room batch cursor ≡ step_of b room batch cursor
  unfolding step_of
  alike_step room batch cursor =
      rw (
        long batch,
        alike_answer a b alike (drop cursor.place batch) room,
        alike_taken a b alike (drop cursor.place batch),
        alike_unread a b alike (drop cursor.place batch),
      )

  pub alike_step_output : (batch : List ℕ) (cursor : Cursor) (output : List ℕ) → step_output a batch cursor output ≡ step_output b batch cursor output
  unfolding step_output
  alike_step_output batch cursor output = rw (long batch, alike_output a b alike (drop cursor.place batch) output)

  walks : (room : ℕ) (batch : List ℕ) (turns offset : ℕ) → walk_from turns a room batch offset ≡ walk_from turns b room batch offset
  unfolding walk_from
  walks room batch zero offset = refl
  walks room batch (suc turns) offset =
      let rest = drop offset batch in
      rw (
        alike_answer a b alike rest room,
        alike_unread a b alike rest,
        alike_taken a b alike rest,
        walks room batch turns (offset + taken b rest),
      )

  pub alike_walk : (room : ℕ) (batch : List ℕ) → walk a room batch ≡ walk b room batch
  unfolding walk
  alike_walk room batch = rw (long batch, walks room batch (length batch) 0)

-- W-209: under two editions that are known
module _ (edition other : ℕ) (node : Node) (is_Known : known edition ≡ true) (other-known : known other ≡ true) where
  pub edition_step : (room : ℕ) (batch : List ℕ) (cursor : Cursor)
      → step_of (with_edition edition node) room batch cursor ≡ step_of (with_edition other node) room batch cursor
  edition_step = alike_step _ _ (edition_alike edition other node is_Known other-known)

  pub edition_step_output : (batch : List ℕ) (cursor : Cursor) (output : List ℕ)
      → step_output (with_edition edition node) batch cursor output ≡ step_output (with_edition other node) batch cursor output
  edition_step_output = alike_step_output _ _ (edition_alike edition other node is_Known other-known)

  pub edition_walk : (room : ℕ) (batch : List ℕ) → walk (with_edition edition node) room batch ≡ walk (with_edition other node) room batch
  edition_walk = alike_walk _ _ (edition_alike edition other node is_Known other-known)

-- W-211: with the same lists chosen, and no fault
module _ (a b : Node) (clean : node_fault a ≡ 0) (other-clean : node_fault b ≡ 0) (same : SameChosen a b) where
  pub chosen_steps_alone : (room : ℕ) (batch : List ℕ) (cursor : Cursor) (output : List ℕ)
      → (step_of a room batch cursor ≡ step_of b room batch cursor) × (step_output a batch cursor output ≡ step_output b batch cursor output)
  chosen_steps_alone room batch cursor output =
      let alike = chosen_alike a b clean other-clean same in
      (alike_step a b alike room batch cursor, alike_step_output a b alike batch cursor output)

  pub chosen_walk_alone : (room : ℕ) (batch : List ℕ) → walk a room batch ≡ walk b room batch
  chosen_walk_alone = alike_walk a b (chosen_alike a b clean other-clean same)
