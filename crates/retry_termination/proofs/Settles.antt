-- The steps at one moment end.
use native.Mathlib.Omega.{arith}
use mathlib.Core.Path.{◌≡◌, refl, sym, ◌∙◌, ap, subst}
use Prim.Native.Nat.{ℕ, zero, suc, ◌+◌, ◌*◌, ◌-◌, ◌<◌, ◌≤◌}
use native.Mathlib.Nat.{le_refl, le_trans, suc-mul}
use mathlib.Core.Logic.{◌⊎◌, inl, inr}
use mathlib.Core.Bool.{Bool, true, false, not, cond, ◌&&◌}
use mathlib.Core.List.{List, [], ◌∷◌}
use lib.Dec.{eqb, leb, ltb}
use lib.ListN.{length, set, length-set}
use borrow.Author.Tests.{eqb-false, eq-eqb, ltb-true, le-ltb, lt-leb, leb-true, not-false}
use Rattle.octets.specs.Numbers.{◌gives◌, ◌or_else◌}
use Rattle.octets.proofs.Tests.{both}
use Rattle.retained.specs.declared.Names.{Names}
use Rattle.retained.specs.declared.Retained.{Retained}
use Rattle.retained.specs.Records.{record_limit, is_used, is_due, pdu_of, names_of, sent_record, freed_record}
use Rattle.retained.specs.Table.{table_size, has, record_at, due, is_spent, stepped, number_alone, did, sent, failed, step_number, retry_step, table_stepped}
use Rattle.retry_termination.specs.History.{RetrySettings, StepAt, World, none_due, world_after, history}
use Rattle.retry_termination.specs.Termination.{steps_at, Settling}
use Rattle.retry_termination.proofs.First.{by_cases, has_hit, has_none}
use Rattle.retry_termination.proofs.Facts.{freed_free, due_used}

free_not_due : (now delay : ℕ) (r : Retained) → is_used r ≡ false → is_due now delay r ≡ false
unfolding is_due
free_not_due now delay r h = simp h

sent_not_due : (now delay : ℕ) (r : Retained) → 0 < delay → is_due now delay (sent_record now r) ≡ false
unfolding is_due
sent_not_due now delay r h = simp (lt-leb (now + delay) now (omega arith)) (last_no (is_used (sent_record now r)))
  where
    last_no : (b : Bool) → (b && false) ≡ false
    last_no true = refl
    last_no false = refl

-- the weights of all records together
total : (Retained → ℕ) → List Retained → ℕ
total weight [] = 0
total weight (r ∷ rs) = weight r + total weight rs

total_set : (weight : Retained → ℕ) (l : List Retained) (i : ℕ) (r : Retained) → i < length l → total weight (set l i r) + weight
    (record_at l i) ≡ total weight l + weight r
unfolding total
total_set weight [] i r h = absurd (omega arith)
total_set weight (x ∷ xs) zero r h = omega arith
total_set weight (x ∷ xs) (suc i) r h = omega (arith, total_set weight xs i r (omega arith))

total_most : (weight : Retained → ℕ) (m : ℕ) → ((r : Retained) → weight r ≤ m) → (l : List Retained) → total weight l ≤ length l * m
unfolding total
total_most weight m f [] = omega arith
total_most weight m f (r ∷ rs) = more (length rs) m (weight r) (total weight rs) (f r) (total_most weight m f rs)
  where
    more : (n m a b : ℕ) → a ≤ m → b ≤ n * m → a + b ≤ suc n * m
    more n m a b p q = subst (λ (k : ℕ). a + b ≤ k) (sym (suc-mul n m)) (omega arith)

total_none : (weight : Retained → ℕ) (l : List Retained) → ((p : ℕ) → p < length l → weight (record_at l p) ≡ 0) → total weight l ≡ 0
unfolding total
total_none weight [] f = refl
total_none weight (r ∷ rs) f = omega (arith, f 0 (omega arith), total_none weight rs (λ p h. f (suc p) (omega arith)))

last_false : (a b : Bool) → cond {A = ℕ} (a && (b && false)) 77 0 ≡ 0
last_false true true = refl
last_false true false = refl
last_false false b = refl

-- a step at a moment, with room: the first due record is stepped; nothing where there is none
module _ (s : RetrySettings) (now : ℕ) (room : record_limit ≤ s.room) where
  abbrev due_at : Retained → Bool
  due_at = is_due now s.delay

  short : (r : Retained) → due_at r ≡ true → r.length ≤ s.room
  unfolding is_used
  short r h = le_trans (leb-true r.length record_limit (both (leb r.length record_limit) _ (due_used now s.delay r h)).0) room

  passes : (table : List Retained) (last : ℕ) → length table ≡ table_size → last ≤ now → step_number table last now s.delay s.tries s.room ≡ 0
  unfolding step_number ◌gives◌ ◌or_else◌
  passes table last l t = simp (eq-eqb (length table) table_size l, le-ltb now last t) (by (by_cases (has due_at table)))
    where
      r : Retained
      r = record_at table (due table now s.delay)

      by : (has due_at table ≡ true) ⊎ (has due_at table ≡ false)
          → cond {A = ℕ} (has due_at table && (not (is_spent r.count s.tries) && ltb s.room r.length)) 77 0 ≡ 0
      by (inr e) = simp e
      by (inl e) = simp (le-ltb s.room r.length (short r (has_hit due_at table e).1)) (last_false (has due_at table) (not (is_spent r.count s.tries)))

  module _ (table : List Retained) (last : ℕ) (l : length table ≡ table_size) (t : last ≤ now) where
    abbrev n : ℕ
    n = step_number table last now s.delay s.tries s.room

    step_last : (retry_step table last now s.delay s.tries s.room).last ≡ now
    unfolding retry_step
    step_last = simp (eq-eqb n 0 (passes table last l t)) (by (has due_at table) (is_spent (record_at table (due table now s.delay)).count s.tries))
      where
        by : (a b : Bool) → (cond a (cond b (did failed now (due table now s.delay) (names_of (pdu_of (record_at table (due table now s.delay)))) 0)
            (did sent now (due table now s.delay) (names_of (pdu_of (record_at table (due table now s.delay))))
            (record_at table (due table now s.delay)).length)) (number_alone 0 now)).last ≡ now
        by true true = refl
        by true false = refl
        by false b = refl

    step_due : has due_at table ≡ true → table_stepped table last now s.delay s.tries s.room ≡ set table (due table now s.delay)
        (stepped (record_at table (due table now s.delay)) now s.tries)
    unfolding table_stepped
    step_due e = simp (eq-eqb n 0 (passes table last l t), e)

    step_rests : has due_at table ≡ false → table_stepped table last now s.delay s.tries s.room ≡ table
    unfolding table_stepped
    step_rests e = simp (eq-eqb n 0 (passes table last l t), e)

    step_none : has due_at table ≡ false → none_due (retry_step table last now s.delay s.tries s.room) ≡ true
    unfolding retry_step
    step_none e = simp (eq-eqb n 0 (passes table last l t), e)

  -- a weight that a record has only where it is due, and that falls with its step
  record Weighs (weight : Retained → ℕ) : Type 0 where
    light : (r : Retained) → due_at r ≡ false → weight r ≡ 0
    falls : (r : Retained) → due_at r ≡ true → weight (stepped r now s.tries) + 1 ≤ weight r

  module _ (names : Names) (weight : Retained → ℕ) (m : Weighs weight) where
    lighter : (table : List Retained) → has due_at table ≡ true
        → total weight (set table (due table now s.delay) (stepped (record_at table (due table now s.delay)) now s.tries)) + 1 ≤ total weight table
    lighter table e =
        let h = has_hit due_at table e in
        let d = due table now s.delay in
        omega (arith, total_set weight table d (stepped (record_at table d) now s.tries) h.0, m.falls (record_at table d) h.1)

    record Rests (w : World) : Type 0 where
      none : has due_at w.table ≡ false
      whole : length w.table ≡ table_size
      time : w.last ≤ now

    rests : (k : ℕ) (w : World) → length w.table ≡ table_size → w.last ≤ now → total weight w.table ≤ k → Rests (history s names (steps_at now k) w)
    unfolding history world_after
    rests zero w l t h = record { none = by (by_cases (has due_at w.table)); whole = l; time = t }
      where
        by : (has due_at w.table ≡ true) ⊎ (has due_at w.table ≡ false) → has due_at w.table ≡ false
        by (inr e) = e
        by (inl e) = absurd (omega (arith, lighter w.table e))
    rests (suc k) w l t h = by (by_cases (has due_at w.table)) (rests k (world_after s names (StepAt now) w))
      where
        after : List Retained
        after = table_stepped w.table w.last now s.delay s.tries s.room

        ends : (retry_step w.table w.last now s.delay s.tries s.room).last ≤ now
        ends = subst (λ (x : ℕ). x ≤ now) (sym (step_last w.table w.last l t)) (le_refl now)

        by : (has due_at w.table ≡ true) ⊎ (has due_at w.table ≡ false)
            → (length after ≡ table_size → (retry_step w.table w.last now s.delay s.tries s.room).last ≤ now → total weight after ≤ k
            → Rests (history s names (steps_at now k) (world_after s names (StepAt now) w)))
            → Rests (history s names (steps_at now k) (world_after s names (StepAt now) w))
        by (inl e) go =
            let q = step_due w.table w.last l t e in
            go (ap length q ∙ length-set w.table _ _ ∙ l) ends (subst (λ (x : List Retained). total weight x ≤ k) (sym q)
            (omega (arith, lighter w.table e)))
        by (inr e) go =
            let q = step_rests w.table w.last l t e in
            go (ap length q ∙ l) ends (subst (λ (x : List Retained). total weight x ≤ k) (sym q)
            (omega (arith, total_none weight w.table (λ p z. m.light (record_at w.table p) (has_none due_at w.table e p z)))))

    settles : (k : ℕ) (w : World) → length w.table ≡ table_size → w.last ≤ now → total weight w.table ≤ k
        → none_due (retry_step (history s names (steps_at now k) w).table (history s names (steps_at now k) w).last now s.delay s.tries s.room) ≡ true
    settles k w l t h = let r = rests k w l t h in step_none (history s names (steps_at now k) w).table (history s names (steps_at now k) w).last
        r.whole r.time r.none

  -- above delay 0 each record that is due weighs 1
  abbrev once : Retained → ℕ
  once r = cond (due_at r) 1 0

  once_weighs : 0 < s.delay → Weighs once
  once_weighs h = record { light = λ r e. simp e; falls = λ r e. simp e (by r (is_spent r.count s.tries)) }
    where
      by : (r : Retained) (b : Bool) → cond {A = ℕ} (due_at (cond b freed_record (sent_record now r))) 1 0 + 1 ≤ 1
      by r true = simp (free_not_due now s.delay freed_record freed_free) (omega arith)
      by r false = simp (sent_not_due now s.delay r h) (omega arith)

  once_most : (r : Retained) → once r ≤ 1
  once_most r = by (due_at r)
    where
      by : (b : Bool) → cond {A = ℕ} b 1 0 ≤ 1
      by true = omega arith
      by false = omega arith

  -- at delay 0 one weighs as many steps as it still takes
  abbrev often : Retained → ℕ
  often r = cond (due_at r) (s.tries - r.count + 1) 0

  often_most : (r : Retained) → often r ≤ s.tries + 1
  often_most r = by (due_at r)
    where
      by : (b : Bool) → cond {A = ℕ} b (s.tries - r.count + 1) 0 ≤ s.tries + 1
      by true = omega arith
      by false = omega arith

  often_weighs : Weighs often
  often_weighs = record { light = λ r e. simp e; falls = λ r e. simp e (by r (by_cases (is_spent r.count s.tries))) }
    where
      some : (b : Bool) (k m : ℕ) → k + 1 ≤ m → cond {A = ℕ} b (k + 1) 0 + 1 ≤ m + 1
      some true k m h = omega arith
      some false k m h = omega arith

      by : (r : Retained) → (is_spent r.count s.tries ≡ true) ⊎ (is_spent r.count s.tries ≡ false)
          → often (stepped r now s.tries) + 1 ≤ s.tries - r.count + 1
      by r (inl e) = subst (λ (b : Bool). often (cond b freed_record (sent_record now r)) + 1 ≤ s.tries - r.count + 1) (sym e)
          (simp (free_not_due now s.delay freed_record freed_free) (omega arith))
      by r (inr e) = subst (λ (b : Bool). often (cond b freed_record (sent_record now r)) + 1 ≤ s.tries - r.count + 1) (sym e)
          (some (due_at (sent_record now r)) (s.tries - (r.count + 1)) (s.tries - r.count) (omega (arith, ltb-true r.count s.tries (not-false _ e))))

above : (d : ℕ) → (d ≡ 0 → ⊥) → 0 < d
above d f = omega arith

pub settling : Settling
settling s names w now l t room = by (eqb s.delay 0) refl
  where
    by : (b : Bool) → eqb s.delay 0 ≡ b
        → none_due (retry_step (history s names (steps_at now (cond b (table_size * (s.tries + 1)) table_size)) w).table
        (history s names (steps_at now (cond b (table_size * (s.tries + 1)) table_size)) w).last now s.delay s.tries s.room) ≡ true
    by true e = settles s now room names (often s now room) (often_weighs s now room) (table_size * (s.tries + 1)) w l t
        (subst (λ (k : ℕ). total (often s now room) w.table ≤ k * (s.tries + 1)) l
        (total_most (often s now room) (s.tries + 1) (often_most s now room) w.table))
    by false e = settles s now room names (once s now room) (once_weighs s now room (above s.delay (eqb-false s.delay 0 e))) table_size w l t
        (subst (λ (k : ℕ). total (once s now room) w.table ≤ k * 1) l (total_most (once s now room) 1 (once_most s now room) w.table))
