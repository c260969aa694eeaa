-- What is decided on what the searches found, with what is done then, is what the table's definitions say.
use native.Mathlib.Omega.{arith}
use mathlib.Core.Path.{◌≡◌, refl, sym, ◌∙◌, ap}
use Prim.Native.Nat.{ℕ, suc, ◌+◌, ◌<◌, ◌≤◌}
use mathlib.Core.Bool.{Bool, true, false, not, cond, ◌&&◌}
use mathlib.Core.List.{List, [], ◌∷◌}
use lib.Dec.{eqb, ltb}
use lib.ListN.{length, set, length-take}
use lib.Seq.{set_out}
use native.Mathlib.Nat.{le_refl, le_trans}
use borrow.Author.Tests.{ltb-true, ltb-false, eqb-true, eqb-false}
use Rattle.octets.specs.Numbers.{◌gives◌, ◌or_else◌}
use Rattle.octets.specs.Octets.{over}
use Rattle.octets.proofs.Numbering.{or_else_zero, gives_zero}
use Rattle.octets.proofs.Placing.{placed_start}
use Rattle.retained.specs.declared.Retained.{Retained}
use Rattle.retained.specs.declared.Names.{Names}
use Rattle.retained.specs.declared.Outcome.{Outcome}
use Rattle.retained_operations.specs.declared.Kind.{Kind}
use Rattle.retained_operations.specs.declared.Kind.TheVariants.{Search, Answer, Nothing}
use Rattle.retained_operations.specs.declared.Ask.{Ask}
use Rattle.retained_operations.specs.declared.Effect.{Effect}
use Rattle.retained.specs.Records.{is_free, is_named, is_due, pdu_of, names_of, placed_names, retained_record, sent_record, freed_record}
use Rattle.retained.specs.Table.{first, has, record_at, due, is_spent, number_alone, did, kept, sent, failed}
use Rattle.retained.specs.Table.{retain_number, retain, table_retained, step_number, retry_step, table_stepped, output_stepped}
use Rattle.retained.proofs.Used.{names_are, due_used}
use Rattle.retained_operations.specs.Operations.{seeks, place_of, decide_number, stays, changes, decide_of, keep_number, retain_at, send_number, send_effect}
use Rattle.retained_operations.specs.Operations.{step_at}
use Rattle.retained_operations.specs.Operations.{effect_of, hear_at, retain_on, step_on, hear_on, ask_retain, ask_step, left_of, emitted, table_resent}
use Rattle.retained_operations.specs.Operations.{output_resent}
use Rattle.retained_operations.proofs.Laws.{not_16}

-- what a search found is the first record that passes, or it does not matter
looked : (a : Ask) (n : ℕ) (m : Bool → ℕ) (e : Bool → Effect) (b : Bool) → eqb n 16 ≡ b → decide_of a n (m b) (e b) ≡ decide_of a n (m true) (e true)
looked a n m e true h = refl
looked a n m e false h = not_16 a n (m false) (m true) (e false) (e true) (eqb-false n 16 h)

first_passes : (test : Retained → Bool) (rs : List Retained) → first test rs < length rs → test (record_at rs (first test rs)) ≡ true
unfolding first
first_passes test [] h = absurd (omega arith)
first_passes test (r ∷ rs) h = by (test r) refl h (first_passes test rs)
  where
    by : (b : Bool) → test r ≡ b → cond b 0 (suc (first test rs)) < suc (length rs)
        → (first test rs < length rs → test (record_at rs (first test rs)) ≡ true) → test (record_at (r ∷ rs) (cond b 0 (suc (first test rs)))) ≡ true
    by true e h k = e
    by false e h k = k (omega arith)

-- A PDU THAT WAS HEARD
module _ (a : Ask) (table : List Retained) where
  abbrev place_named : ℕ
  place_named = first (is_named a.names) table

  by_kind : (k : Kind) → decide_of a (length table) 0 (effect_of k a (length table) (cond (seeks k && eqb (length table) 16) place_named (length table)))
      ≡ decide_of a (length table) 0 (effect_of k a (length table) place_named)
  by_kind Search = looked a (length table) (λ b. 0) (λ b. effect_of Search a (length table) (cond b place_named (length table))) (eqb (length table) 16) refl
  by_kind Answer = refl
  by_kind Nothing = refl

  pub hear_first : hear_on a table ≡ hear_at a (length table) place_named
  unfolding hear_on place_of
  hear_first = by_kind a.kind

outcome_of : (b : Bool) (x y : Effect) → (cond b x y).outcome ≡ cond b x.outcome y.outcome
outcome_of true x y = refl
outcome_of false x y = refl

-- no record has the place past the last
past : (table : List Retained) (r : Retained) → set table (length table) r ≡ table
past table r = set_out table (length table) r (le_refl (length table))

-- RETAINING
module _ (table : List Retained) (last time : ℕ) (bytes : List ℕ) where
  abbrev stored : Effect → List Retained
  stored e = set table e.place (retained_record time bytes)

  stored_of : (b : Bool) (x : Effect) (number : ℕ) → stored (cond b x (stays number last (length table))) ≡ cond b (stored x) table
  stored_of true x number = refl
  stored_of false x number = past table (retained_record time bytes)

  abbrev kept_at : Effect
  kept_at = retain_at (ask_retain last time bytes) (length table) (first (is_named (names_of bytes)) table) (first is_free table)

  retain_first : retain_on (ask_retain last time bytes) table ≡ kept_at
  unfolding retain_on place_of
  retain_first =
      let n = length table in
      let named = first (is_named (names_of bytes)) table in
      let free = first is_free table in
      looked (ask_retain last time bytes) n (λ b. keep_number n (cond b named n) (cond b free n))
      (λ b. changes (cond b free n) 0 (did kept time (cond b free n) (names_of bytes) 0)) (eqb n 16) refl

  retain_told : kept_at.outcome ≡ retain table last time bytes
  unfolding decide_of decide_number retain retain_number ◌or_else◌
  retain_told = outcome_of (eqb (retain_number table last time bytes) 0) _ _

  retain_left : stored kept_at ≡ table_retained table last time bytes
  unfolding decide_of decide_number table_retained retain_number ◌or_else◌
  retain_left = stored_of (eqb (retain_number table last time bytes) 0) _ _

  pub retain_tied : (a : Ask) (e : Effect) (r : Retained) (after : List Retained) → a ≡ ask_retain last time bytes → e ≡ retain_on a table
      → r ≡ retained_record time bytes → after ≡ set table e.place r
      → (e.outcome ≡ retain table last time bytes) × (after ≡ table_retained table last time bytes)
  retain_tied a e r after p q k l = (
    ap (λ (x : Effect). x.outcome) is ∙ retain_told,
    l ∙ ap (set table e.place) k ∙ ap stored is ∙ retain_left,
  )
    where
      is : e ≡ kept_at
      is = q ∙ ap (λ (x : Ask). retain_on x table) p ∙ retain_first

-- A STEP'S effect, by three tests: no refusal; one is due; it is dropped
module _ (table : List Retained) (place time last number : ℕ) (names : Names) where
  abbrev f : Retained
  f = record_at table place

  abbrev drops : Effect
  drops = changes place 0 (did failed time place names 0)

  abbrev sends : Effect
  sends = changes place (f.count + 1) (did sent time place names f.length)

  abbrev the_step : Bool → Bool → Bool → Effect
  the_step b d r = cond b (cond d (cond r drops sends) (stays 0 time (length table))) (stays number last (length table))

  step_outcome : (b d r : Bool)
      → (the_step b d r).outcome ≡ cond b (cond d (cond r drops.outcome sends.outcome) (number_alone 0 time)) (number_alone number last)
  step_outcome true true true = refl
  step_outcome true true false = refl
  step_outcome true false r = refl
  step_outcome false d r = refl

  step_stored : (b d r : Bool) → table_resent (the_step b d r) table ≡ cond (b && d) (set table place (cond r freed_record (sent_record time f))) table
  unfolding left_of
  step_stored true true true = refl
  step_stored true true false = refl
  step_stored true false r = past table _
  step_stored false d r = past table _

  unless : (b : Bool) (output : List ℕ) → cond b output output ≡ output
  unless true output = refl
  unless false output = refl

  step_emitted : (b d r : Bool) (output : List ℕ) → (d ≡ true → ltb place (length table) ≡ true)
      → (b ≡ true → d ≡ true → r ≡ false → length (pdu_of f) ≤ length output)
      → output_resent (the_step b d r) table output ≡ cond (eqb (the_step b d r).outcome.deed sent) (over (pdu_of f) output) output
  unfolding emitted
  step_emitted true true true output g h = unless (ltb place (length table)) output
  step_emitted true true false output g h = simp (g refl) (placed_start (pdu_of f) output (h refl refl refl))
  step_emitted true false r output g h = unless (ltb (length table) (length table)) output
  step_emitted false d r output g h = unless (ltb (length table) (length table)) output

same_names : (table : List Retained) (place time last number : ℕ) (names names' : Names) (b d r : Bool) → (d ≡ true → names ≡ names')
    → the_step table place time last number names b d r ≡ the_step table place time last number names' b d r
same_names table place time last number names names' b true r e = ap (λ (x : Names). the_step table place time last number x b true r) (e refl)
same_names table place time last number names names' b false r e = refl

-- a record that is sent fits
fits : (d r : Bool) (a b : ℕ) (room : ℕ) (f : Retained) → eqb (a or_else b or_else (d && (not r && ltb room f.length)) gives 77) 0 ≡ true → d ≡ true
    → r ≡ false → length (pdu_of f) ≤ room
fits d r a b room f e p q = le_trans short (ltb-false room f.length (sym (joined d r (ltb room f.length) p q) ∙ gives_zero _ 77 (omega arith)
    (or_else_zero b _ (or_else_zero a _ (eqb-true _ 0 e)).1).1))
  where
    short : length (pdu_of f) ≤ f.length
    short = omega (arith, length-take f.length f.pdu)

    joined : (d r t : Bool) → d ≡ true → r ≡ false → (d && (not r && t)) ≡ t
    joined d r t p q = simp (p, q)

module _ (table : List Retained) (last time delay tries room : ℕ) where
  abbrev place : ℕ
  place = due table time delay

  abbrev number : ℕ
  number = step_number table last time delay tries room

  abbrev b : Bool
  b = eqb number 0

  abbrev d : Bool
  d = has (is_due time delay) table

  abbrev r : Bool
  r = is_spent (record_at table place).count tries

  abbrev due_record : Retained
  due_record = record_at table place

  abbrev named : Names
  named = names_of (pdu_of due_record)

  abbrev its : Effect
  its = the_step table place time last number named b d r

  abbrev asked : Ask
  asked = ask_step last time delay tries room

  step_first : step_on asked table ≡ step_at asked (length table) place due_record
  unfolding step_on place_of
  step_first =
      let n = length table in
      looked asked n (λ b. send_number asked n (cond b place n) (record_at table (cond b place n)))
      (λ b. send_effect asked n (cond b place n) (record_at table (cond b place n))) (eqb n 16) refl

  step_by_places : step_at asked (length table) place due_record ≡ the_step table place time last number (placed_names due_record) b d r
  unfolding decide_of decide_number step_number ◌or_else◌
  step_by_places = refl

  step_is : step_on asked table ≡ its
  step_is = step_first ∙ step_by_places ∙ same_names table place time last number (placed_names due_record) named b d r
      (λ e. names_are due_record (due_used time delay due_record (first_passes (is_due time delay) table (ltb-true place (length table) e))))

  step_told : its.outcome ≡ retry_step table last time delay tries room
  unfolding retry_step
  step_told = step_outcome table place time last number named b d r

  step_left : table_resent its table ≡ table_stepped table last time delay tries room
  unfolding table_stepped
  step_left = step_stored table place time last number named b d r

module _ (table : List Retained) (last time delay tries : ℕ) (output : List ℕ) where
  abbrev it : Effect
  it = its table last time delay tries (length output)

  step_shown : output_resent it table output ≡ output_stepped table last time delay tries output
  unfolding output_stepped step_number
  step_shown =
      let n = length output in
      let p = place table last time delay tries n in
      step_emitted table p time last (number table last time delay tries n) (named table last time delay tries n) (b table last time delay tries n)
      (d table last time delay tries n)
      (r table last time delay tries n) output (λ e. e) (λ e q s. fits (d table last time delay tries n) (r table last time delay tries n) _ _ n
      (record_at table p) e q s)
      ∙ ap (λ (x : Outcome). cond (eqb x.deed sent) (over (pdu_of (record_at table p)) output) output) (step_told table last time delay tries n)

  pub step_tied : (a : Ask) (e : Effect) (after : List Retained) (shown : List ℕ) → a ≡ ask_step last time delay tries (length output)
      → e ≡ step_on a table → (after ≡ table_resent e table) × (shown ≡ output_resent e table output)
      → (e.outcome ≡ retry_step table last time delay tries (length output)) × (after ≡ table_stepped table last time delay tries (length output))
      × (shown ≡ output_stepped table last time delay tries output)
  step_tied a e after shown p q o = (
    ap (λ (x : Effect). x.outcome) is ∙ step_told table last time delay tries (length output),
    o.0 ∙ ap (λ (x : Effect). table_resent x table) is ∙ step_left table last time delay tries (length output),
    o.1 ∙ ap (λ (x : Effect). output_resent x table output) is ∙ step_shown,
  )
    where
      is : e ≡ it
      is = q ∙ ap (λ (x : Ask). step_on x table) p ∙ step_is table last time delay tries (length output)
