-- Stepping from the start gives exactly the walk; each answer in it is the node's for the bytes at its offset, and the offsets are the running sum of
-- what the PDUs take.
use Prim.Native.Nat.{ℕ, zero, suc, ◌+◌, ◌≤◌, ◌<◌}
use native.Mathlib.Omega.{arith}
use mathlib.Core.Bool.{Bool, true, false, not, cond}
use mathlib.Core.List.{List, [], ◌∷◌, map}
use mathlib.Core.Logic.{◌⊎◌, inl, inr}
use mathlib.Core.Path.{◌≡◌, refl, ap, sym, ◌∙◌}
use lib.Dec.{eqb, ltb, leb}
use lib.ListN.{length, drop}
use borrow.Author.Tests.{ltb-true, leb-true, eqb-true, eqb-false}
use Rattle.octets.proofs.Tests.{both}
use Rattle.editions.specs.Editions.{known}
use Rattle.node.specs.declared.Answer.{Answer}
use Rattle.decision.specs.Decision.{Node}
use Rattle.node.specs.Answers.{node_or_reading_fault, taken, answer_of}
use Rattle.batch.specs.declared.Cursor.{Cursor}
use Rattle.batch.specs.declared.Stepped.{Stepped}
use Rattle.batch.specs.declared.Stepped.TheVariants.{Ended, Answered}
use Rattle.batch.specs.Walk.{batch_limit, is_too_long, is_done, next_cursor, step_of, Walk, ending_at, before, walk_from, walk, continued, steps}
use Rattle.batch.proofs.Stepping.{taken_within}

abbrev pub nothing : ℕ → Walk
nothing offset = ending_at 0 offset

module _ (node : Node) (room : ℕ) (batch : List ℕ) where
  abbrev pub answer : ℕ → Answer
  answer offset = answer_of node room (drop offset batch)

  abbrev pub next : ℕ → ℕ
  next offset = offset + taken node (drop offset batch)

  abbrev running : ℕ → Cursor
  running offset = record { place = offset; ended = false }

  -- the walk, by its tests
  pub walk_none : (offset : ℕ) → walk_from 0 node room batch offset ≡ nothing offset
  unfolding walk_from
  walk_none offset = refl

  pub walk_end : (n offset : ℕ) → leb (length batch) offset ≡ true → walk_from n node room batch offset ≡ nothing offset
  unfolding walk_from
  walk_end zero offset e = refl
  walk_end (suc n) offset e = simp e

  pub walk_more : (n offset : ℕ) → leb (length batch) offset ≡ false
      → walk_from (suc n) node room batch offset
      ≡ before offset (answer offset)
      (cond (eqb (node_or_reading_fault node (drop offset batch)) 0) (walk_from n node room batch (next offset)) (nothing offset))
  unfolding walk_from
  walk_more n offset e = simp e

  pub not_taken : (offset : ℕ) → eqb (node_or_reading_fault node (drop offset batch)) 0 ≡ false → next offset ≡ offset
  not_taken offset e =
      omega (arith, eqb-true (taken node (drop offset batch)) 0 ((taken_within node (drop offset batch)).ended ∙ ap not e))

  module _ (short : is_too_long node.settings.edition batch ≡ false) where
    step_ended : (cursor : Cursor) → is_done batch cursor ≡ true → step_of node room batch cursor ≡ Ended
    unfolding step_of
    step_ended cursor e = rw (short, e)

    step_answered : (offset : ℕ) → leb (length batch) offset ≡ false
        → step_of node room batch (running offset) ≡ Answered (answer offset) (next_cursor node batch offset)
    unfolding step_of
    step_answered offset e = rw (short, e)

    stopped : (n offset : ℕ) → steps node room batch n (record { place = offset; ended = true }) ≡ nothing offset
    unfolding steps
    stopped zero offset = refl
    stopped (suc n) offset =
        ap (λ (s : Stepped). continued s offset (λ later. steps node room batch n later)) (step_ended (record { place = offset; ended = true }) refl)

    pub steps_walk : (n offset : ℕ) → steps node room batch n (running offset) ≡ walk_from n node room batch offset
    unfolding steps
    steps_walk zero offset = sym (walk_none offset)
    steps_walk (suc n) offset = at_end (leb (length batch) offset) refl (steps_walk n (next offset))
      where
        after : (t : Bool) → eqb (node_or_reading_fault node (drop offset batch)) 0 ≡ t
            → steps node room batch n (running (next offset)) ≡ walk_from n node room batch (next offset)
            → steps node room batch n (next_cursor node batch offset) ≡ cond t (walk_from n node room batch (next offset)) (nothing offset)
        after true e below = ap (λ (b : Bool). steps node room batch n (record { place = next offset; ended = not b })) e ∙ below
        after false e below =
            ap (λ (b : Bool). steps node room batch n (record { place = next offset; ended = not b })) e
            ∙ ap (λ (o : ℕ). steps node room batch n (record { place = o; ended = true })) (not_taken offset e) ∙ stopped n offset

        at_end : (t : Bool) → leb (length batch) offset ≡ t
            → steps node room batch n (running (next offset)) ≡ walk_from n node room batch (next offset)
            → continued (step_of node room batch (running offset)) offset (λ later. steps node room batch n later)
            ≡ walk_from (suc n) node room batch offset
        at_end true e below =
            ap (λ (s : Stepped). continued s offset (λ later. steps node room batch n later)) (step_ended (running offset) e)
            ∙ sym (walk_end (suc n) offset e)
        at_end false e below =
            ap (λ (s : Stepped). continued s offset (λ later. steps node room batch n later)) (step_answered offset e)
            ∙ ap (before offset (answer offset)) (after (eqb (node_or_reading_fault node (drop offset batch)) 0) refl below) ∙ sym (walk_more n offset e)

  -- the n-th answer is the node's answer for the bytes at the n-th offset
  pub answers_at : (n offset : ℕ) → (walk_from n node room batch offset).answers ≡ map answer (walk_from n node room batch offset).offsets
  answers_at zero offset = rw (walk_none offset)
  answers_at (suc n) offset = at_end (leb (length batch) offset) refl (answers_at n (next offset))
    where
      Right : Walk → Type 0
      Right w = w.answers ≡ map answer w.offsets

      after : (t : Bool) → Right (walk_from n node room batch (next offset))
          → Right (before offset (answer offset) (cond t (walk_from n node room batch (next offset)) (nothing offset)))
      after true below = ap (λ (l : List Answer). answer offset ∷ l) below
      after false below = refl

      at_end : (t : Bool) → leb (length batch) offset ≡ t → Right (walk_from n node room batch (next offset))
          → Right (walk_from (suc n) node room batch offset)
      at_end true e below = rw (walk_end (suc n) offset e)
      at_end false e below = rw (walk_more n offset e) (after (eqb (node_or_reading_fault node (drop offset batch)) 0) below)

  -- each offset is the last one and what its PDU takes, and so is the end
  abbrev pub Follows : ℕ → List ℕ → ℕ → Type 0
  Follows offset [] end = end ≡ offset
  Follows offset (o ∷ later) end = (o ≡ offset) × Follows (next offset) later end

  pub offsets_follow : (n offset : ℕ) → Follows offset (walk_from n node room batch offset).offsets (walk_from n node room batch offset).end
  offsets_follow zero offset = rw (walk_none offset)
  offsets_follow (suc n) offset = at_end (leb (length batch) offset) refl (offsets_follow n (next offset))
    where
      Right : ℕ → Walk → Type 0
      Right o w = Follows o w.offsets w.end

      after : (t : Bool) → eqb (node_or_reading_fault node (drop offset batch)) 0 ≡ t → Right (next offset) (walk_from n node room batch (next offset))
          → Right offset (before offset (answer offset) (cond t (walk_from n node room batch (next offset)) (nothing offset)))
      after true e below = (refl, below)
      after false e below = (refl, sym (not_taken offset e))

      at_end : (t : Bool) → leb (length batch) offset ≡ t → Right (next offset) (walk_from n node room batch (next offset))
          → Right offset (walk_from (suc n) node room batch offset)
      at_end true e below = rw (walk_end (suc n) offset e)
      at_end false e below = rw (walk_more n offset e) (after (eqb (node_or_reading_fault node (drop offset batch)) 0) refl below)

  -- the walk ends where no bytes are left, or at a PDU that can't be read
  abbrev pub Complete : ℕ → Type 0
  Complete end = (length batch ≤ end) ⊎ (node_or_reading_fault node (drop end batch) ≡ 0 → ⊥)

  pub walk_complete : (n offset : ℕ) → length batch ≤ offset + n → Complete (walk_from n node room batch offset).end
  walk_complete zero offset h = rw (walk_none offset) (inl (omega arith))
  walk_complete (suc n) offset h = at_end (leb (length batch) offset) refl (λ k. walk_complete n (next offset) k)
    where
      after : (t : Bool) → eqb (node_or_reading_fault node (drop offset batch)) 0 ≡ t
          → (length batch ≤ next offset + n → Complete (walk_from n node room batch (next offset)).end)
          → Complete (before offset (answer offset) (cond t (walk_from n node room batch (next offset)) (nothing offset))).end
      after true e below =
          let took : taken node (drop offset batch) ≡ 0 → ⊥ = eqb-false _ 0 ((taken_within node (drop offset batch)).ended ∙ ap not e) in
          below (omega arith)
      after false e below = inr (eqb-false _ 0 e)

      at_end : (t : Bool) → leb (length batch) offset ≡ t
          → (length batch ≤ next offset + n → Complete (walk_from n node room batch (next offset)).end)
          → Complete (walk_from (suc n) node room batch offset).end
      at_end true e below = rw (walk_end (suc n) offset e) (inl (leb-true _ _ e))
      at_end false e below = rw (walk_more n offset e) (after (eqb (node_or_reading_fault node (drop offset batch)) 0) refl below)

  -- stepping from the start, with as many steps as the batch has bytes, gives exactly the walk
  refused : is_too_long node.settings.edition batch ≡ true → (n : ℕ) → 0 < n → steps node room batch n (running 0) ≡ ending_at 54 0
  unfolding steps step_of
  refused e zero p = absurd (omega arith)
  refused e (suc n) p = simp e

  pub stepping_walks : steps node room batch (length batch) (running 0) ≡ walk node room batch
  unfolding walk
  stepping_walks = go (is_too_long node.settings.edition batch) refl
    where
      go : (t : Bool) → is_too_long node.settings.edition batch ≡ t
          → steps node room batch (length batch) (running 0) ≡ cond t (ending_at 54 0) (walk_from (length batch) node room batch 0)
      go true e =
          let long = (both (known node.settings.edition) (ltb batch_limit (length batch)) e).1 in
          refused e (length batch) (omega (arith, ltb-true batch_limit (length batch) long))
      go false e = steps_walk e (length batch) 0
