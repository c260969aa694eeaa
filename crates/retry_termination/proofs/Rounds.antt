-- So many rounds of steps, each a delay or more after the last, end a PDU: each round counts a moment at least.
use native.Mathlib.Omega.{arith}
use mathlib.Core.Path.{◌≡◌, refl, sym, ◌∙◌, ap, subst}
use Prim.Native.Nat.{ℕ, zero, suc, ◌+◌, ◌<◌, ◌≤◌}
use native.Mathlib.Nat.{le_refl, le_trans}
use mathlib.Core.Logic.{◌⊎◌, inl, inr}
use mathlib.Core.Bool.{Bool, true, false, cond, ◌&&◌}
use mathlib.Core.List.{List, [], ◌∷◌, ◌++◌}
use lib.Dec.{eqb, leb}
use lib.ListN.{length}
use borrow.Author.Tests.{eqb-true, ne_eqb, le-leb}
use Rattle.octets.proofs.Tests.{both}
use Rattle.retained.specs.declared.Names.{Names}
use Rattle.retained.specs.declared.Retained.{Retained}
use Rattle.retained.specs.declared.Outcome.{Outcome}
use Rattle.retained.specs.Records.{record_limit, is_due, pdu_of, names_of}
use Rattle.retained.specs.Table.{table_size, has, due_record, due, is_spent, sent, failed, number_alone, did, step_number, retry_step}
use Rattle.retry_termination.specs.History.{Fate, NotYet, Waiting, Lost, Arrived, is_waiting, RetrySettings, Operation, StepAt, Life, World, says, none_due}
use Rattle.retry_termination.specs.History.{watch}
use Rattle.retry_termination.specs.History.{outcome_of, world_after, history, start}
use Rattle.retry_termination.specs.Termination.{enough_steps, steps_at, round_at, rounds_at, Spaced, Rounds}
use Rattle.retry_termination.proofs.Holding.{never}
use Rattle.retry_termination.proofs.Good.{Good}
use Rattle.retry_termination.proofs.Settles.{settling}
use Rattle.retry_termination.proofs.Ends.{good_history, good_start, ended}

append : (s : RetrySettings) (names : Names) (xs ys : List Operation) (w : World) → history s names (xs ++ ys) w ≡ history s names ys (history s names xs w)
unfolding history
append s names [] ys w = refl
append s names (op ∷ xs) ys w = append s names xs ys (world_after s names op w)

-- a step at a time accepts no later one
step_time : (table : List Retained) (last now delay tries room : ℕ) → last ≤ now → (retry_step table last now delay tries room).last ≤ now
unfolding retry_step
step_time table last now delay tries room t =
    by (eqb number 0) (has (is_due now delay) table) (is_spent (due_record table now delay).count tries)
  where
    number : ℕ
    number = step_number table last now delay tries room

    by : (b d r : Bool) → (cond b (cond d (cond r (did failed now (due table now delay) (names_of (pdu_of (due_record table now delay))) 0)
        (did sent now (due table now delay) (names_of (pdu_of (due_record table now delay))) (due_record table now delay).length)) (number_alone 0 now))
        (number_alone number last)).last ≤ now
    by true true true = le_refl now
    by true true false = le_refl now
    by true false r = le_refl now
    by false d r = t

module _ (s : RetrySettings) (names : Names) (now : ℕ) where
  -- m moments and the mark of before, or one moment more and the mark now
  abbrev At : ℕ → ℕ → Life → Type 0
  At m mark l = ((m ≤ l.moments) × (l.mark ≡ mark)) ⊎ ((m + 1 ≤ l.moments) × (l.mark ≡ now))

  abbrev counted : Life → Life
  counted l = record { fate = l.fate; sent = l.sent; moments = l.moments + 1; mark = now }

  turn : (m mark : ℕ) (o : Outcome) (l : Life) → At m mark l → At m mark (watch s.delay names (StepAt now) o l)
  unfolding watch
  turn m mark o l a = by (says sent names o) (says failed names o) (none_due o && leb (l.mark + s.delay) now) a
    where
      by : (b c d : Bool) → At m mark l → At m mark (cond b (record { fate = l.fate; sent = l.sent + 1; moments = l.moments; mark = l.mark })
          (cond c (record { fate = Lost; sent = l.sent; moments = l.moments; mark = l.mark }) (cond d (counted l) l)))
      by true c d a = a
      by false true d a = a
      by false false true (inl (p, q)) = inr (omega (arith, p), refl)
      by false false true (inr (p, q)) = inr (omega (arith, p), refl)
      by false false false a = a

  turns : (k m mark : ℕ) (w : World) → At m mark w.life → At m mark (history s names (steps_at now k) w).life
  unfolding history world_after
  turns zero m mark w a = a
  turns (suc k) m mark w a = turns k m mark (world_after s names (StepAt now) w)
      (turn m mark (retry_step w.table w.last now s.delay s.tries s.room) w.life a)

  times : (k : ℕ) (w : World) → w.last ≤ now → (history s names (steps_at now k) w).last ≤ now
  unfolding history world_after
  times zero w t = t
  times (suc k) w t = times k (world_after s names (StepAt now) w) (step_time w.table w.last now s.delay s.tries s.room t)

  -- a step that is answered that none is due counts a moment, if none was counted at this time
  quiet : (deed : ℕ) (o : Outcome) → (0 ≡ deed → ⊥) → none_due o ≡ true → says deed names o ≡ false
  quiet deed o f n =
      let none : o.deed ≡ 0 = eqb-true o.deed 0 (both (eqb o.number 0) _ n).1 in
      simp (ne_eqb o.deed deed (λ e. f (sym none ∙ e)))

  watched : (o : Outcome) (l : Life) → none_due o ≡ true → watch s.delay names (StepAt now) o l ≡ cond (leb (l.mark + s.delay) now) (counted l) l
  unfolding watch
  watched o l n = simp (quiet sent o (λ e. absurd (omega arith)) n, quiet failed o (λ e. absurd (omega arith)) n, n)

  counts : (m mark : ℕ) (o : Outcome) (l : Life) → none_due o ≡ true → mark + s.delay ≤ now → At m mark l
      → (m + 1 ≤ (watch s.delay names (StepAt now) o l).moments) × ((watch s.delay names (StepAt now) o l).mark ≡ now)
  counts m mark o l n d a =
      subst (λ (x : Life). (m + 1 ≤ x.moments) × (x.mark ≡ now)) (sym (watched o l n)) (by (leb (l.mark + s.delay) now) refl a)
    where
      by : (b : Bool) → leb (l.mark + s.delay) now ≡ b → At m mark l → (m + 1 ≤ (cond b (counted l) l).moments) × ((cond b (counted l) l).mark ≡ now)
      by true e (inl (p, q)) = (omega (arith, p), refl)
      by true e (inr (p, q)) = (omega (arith, p), refl)
      by false e (inl (p, q)) = never (sym (le-leb (l.mark + s.delay) now (omega (arith, q, d))) ∙ e)
      by false e (inr (p, q)) = (p, q)

  last_step : (m mark : ℕ) (x : World) → mark + s.delay ≤ now → none_due (outcome_of s x.table x.last (StepAt now)) ≡ true → At m mark x.life
      → x.last ≤ now → let after = history s names (StepAt now ∷ []) x in
      (m + 1 ≤ after.life.moments) × (after.life.mark ≡ now) × (after.last ≤ now)
  unfolding history world_after
  last_step m mark x d n a e =
      let c = counts m mark (retry_step x.table x.last now s.delay s.tries s.room) x.life n d a in
      (c.0, c.1, step_time x.table x.last now s.delay s.tries s.room e)

  one : (m mark : ℕ) (w : World) → length w.table ≡ table_size → w.last ≤ now → record_limit ≤ s.room → mark + s.delay ≤ now
      → m ≤ w.life.moments → w.life.mark ≡ mark → let after = history s names (round_at s now) w in
      (m + 1 ≤ after.life.moments) × (after.life.mark ≡ now) × (after.last ≤ now)
  one m mark w l t room d h k =
      subst (λ (x : World). (m + 1 ≤ x.life.moments) × (x.life.mark ≡ now) × (x.last ≤ now))
      (sym (append s names (steps_at now (enough_steps s)) (StepAt now ∷ []) w)) (last_step m mark (history s names (steps_at now (enough_steps s)) w) d
      (settling s names w now l t room) (turns (enough_steps s) m mark w (inl (h, k))) (times (enough_steps s) w t))

module _ (s : RetrySettings) (names : Names) (room : record_limit ≤ s.room) where
  all : (times : List ℕ) (m last mark : ℕ) (w : World) → Good s names w → w.last ≤ last → m ≤ w.life.moments → w.life.mark ≡ mark
      → Spaced s.delay last mark times → m + length times ≤ (history s names (rounds_at s times) w).life.moments
  unfolding history
  all [] m last mark w g t h k sp = omega (arith, h)
  all (now ∷ later) m last mark w g t h k sp =
      let after = history s names (round_at s now) w in
      let o = one s names now m mark w g.sixteen (le_trans t sp.0) room sp.1 h k in
      let rest = all later (m + 1) now now after (good_history s names (round_at s now) w g) o.2 o.0 o.1 sp.2 in
      subst (λ (x : World). m + suc (length later) ≤ x.life.moments) (sym (append s names (round_at s now) (rounds_at s later) w)) (omega (arith, rest))

pub rounds_end : Rounds
rounds_end s names table last ops f room times n sp =
    let w = history s names ops (start table last) in
    let g = good_history s names ops (start table last) (good_start s names table last f) in
    let after = history s names (rounds_at s times) w in
    let many = all s names room times w.life.moments w.last w.life.mark w g (le_refl w.last) (le_refl w.life.moments) refl sp in
    by after.life.fate ((ended s names after (good_history s names (rounds_at s times) w g)).moments_end (omega (arith, many, n)))
  where
    by : (f : Fate) {X : Type 0} → (f ≡ NotYet) ⊎ (((f ≡ Lost) × X) ⊎ (f ≡ Arrived)) → is_waiting f ≡ false
    by f (inl e) = ap is_waiting e
    by f (inr (inl (e, x))) = ap is_waiting e
    by f (inr (inr e)) = ap is_waiting e
