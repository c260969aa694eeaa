-- The table asked what a PDU that was heard asks, with a record freed at the effect's place, does what the definitions say.
use native.Mathlib.Omega.{arith}
use mathlib.Core.Path.{◌≡◌, refl, sym, ◌∙◌, ap}
use Prim.Native.Nat.{ℕ}
use native.Mathlib.Nat.{le_refl}
use mathlib.Core.Bool.{Bool, true, false, not, cond, ◌&&◌}
use mathlib.Core.List.{List}
use lib.Dec.{eqb, ltb}
use lib.ListN.{length, set}
use lib.Seq.{set_out}
use borrow.Author.Tests.{le-ltb}
use Rattle.octets.specs.Numbers.{◌gives◌, ◌or_else◌}
use Rattle.octets.proofs.Numbering.{gives_later, or_else_none, or_else_assoc}
use Rattle.pdu.specs.Header.{header_of}
use Rattle.pdu.specs.Sizes.{pdu_length}
use Rattle.retained.specs.declared.Retained.{Retained}
use Rattle.retained.specs.declared.Outcome.{Outcome}
use Rattle.retained.specs.Records.{names_of, exchanged, is_named, freed_record}
use Rattle.retained.specs.Table.{table_fault, first, has, freed, answered, number_alone, did}
use Rattle.retained_operations.specs.declared.Ask.{Ask}
use Rattle.retained_operations.specs.declared.Effect.{Effect}
use Rattle.retained_operations.specs.declared.Kind.TheVariants.{Search, Answer, Nothing}
use Rattle.retained_operations.specs.Operations.{decide_number, stays, changes, effect_of, decide_of, hear_on, table_freed}
use Rattle.retained_operations.proofs.Tied.{hear_first}
use Rattle.acknowledgements.specs.declared.Sending.{Sending}
use Rattle.acknowledgements.specs.Delivered.{is_delivered_here, is_acknowledgement, is_answered, ack_header, acknowledge_number, matching, acknowledge}
use Rattle.acknowledgements.specs.Delivered.{table_acknowledged}
use Rattle.acknowledgements.specs.Responding.{early_number, late_number, ask_for, ask_acknowledge}

never : {A : Type 0} → true ≡ false → A
never e = absurd (let z : ◌≡◌ {A = ℕ} 0 1 = cc in omega arith)

module _ (table : List Retained) (last : ℕ) (sending : Sending) (room : ℕ) (received : List ℕ) where
  abbrev size : ℕ
  size = pdu_length (ack_header sending (names_of received))

  abbrev place : ℕ
  place = first (matching received) table

  -- what is asked where it is answered, or not, and frees, or not; and where it is found
  abbrev asked : Bool → Bool → Ask
  asked d k = ask_for d k last sending room (names_of received)

  abbrev found : Bool → Bool → ℕ
  found d k = first (is_named (asked d k).names) table

  -- the refusals
  abbrev number : Bool → ℕ
  number d = early_number d sending or_else (table_fault table or_else late_number d room size)

  number_is : (d k : Bool) → decide_number (asked d k) (length table) 0 ≡ number d
  unfolding decide_number
  number_is d k = ap (λ (x : ℕ). early_number d sending or_else (table_fault table or_else x)) tail
    where
      tail : ((ltb last last gives 73) or_else (late_number d room size or_else 0)) ≡ late_number d room size
      tail = gives_later (ltb last last) 73 _ (le-ltb last last (le_refl last)) ∙ or_else_none _

  -- by four tests: no refusal; it is answered; it is an acknowledgement; it matches
  abbrev frees : Bool → Effect
  frees m = cond m (changes place 0 (did freed last place (exchanged (names_of received)) 0)) (stays 0 last (length table))

  abbrev answers : Effect
  answers = record { place = length table; count = 0; outcome = did answered last 0 (names_of received) size }

  abbrev it : ℕ → Bool → Bool → Bool → Bool → Effect
  it n b d k m = cond b (cond d answers (cond k (frees m) (stays 0 last (length table)))) (stays n last (length table))

  kind_is : (d k : Bool) → effect_of (cond d Answer (cond k Search Nothing)) (asked d k) (length table) (found d k)
      ≡ cond d answers (cond k (frees (has (matching received) table)) (stays 0 last (length table)))
  kind_is true k = refl
  kind_is false true = refl
  kind_is false false = refl

  effect_is : (d k : Bool) → hear_on (asked d k) table ≡ it (number d) (eqb (number d) 0) d k (has (matching received) table)
  unfolding decide_of
  effect_is d k = hear_first (asked d k) table
      ∙ ap (λ (x : ℕ). cond (eqb x 0) (effect_of (cond d Answer (cond k Search Nothing)) (asked d k) (length table) (found d k)) (stays x last (length table)))
      (number_is d k)
      ∙ ap (λ (x : Effect). cond (eqb (number d) 0) x (stays (number d) last (length table))) (kind_is d k)

  outcome_is : (n : ℕ) (b d k m : Bool) → (it n b d k m).outcome
      ≡ cond b (cond d (did answered last 0 (names_of received) size) (cond (k && m) (did freed last place (exchanged (names_of received)) 0)
      (number_alone 0 last))) (number_alone n last)
  outcome_is n true true k m = refl
  outcome_is n true false true true = refl
  outcome_is n true false true false = refl
  outcome_is n true false false m = refl
  outcome_is n false d k m = refl

  past : set table (length table) freed_record ≡ table
  past = set_out table (length table) freed_record (le_refl (length table))

  table_is : (n : ℕ) (b d k m : Bool) → (d ≡ true → k ≡ true → ⊥)
      → table_freed (it n b d k m) table ≡ cond (b && (k && m)) (set table place freed_record) table
  table_is n true true true m apart = absurd (apart refl refl)
  table_is n true true false m apart = past
  table_is n true false true true apart = refl
  table_is n true false true false apart = past
  table_is n true false false m apart = past
  table_is n false d k m apart = past

  module _ (own delivery : ℕ) where
    abbrev D : Bool
    D = is_answered own delivery received

    abbrev K : Bool
    K = is_acknowledgement own delivery received

    apart : D ≡ true → K ≡ true → ⊥
    apart e f = bits (is_delivered_here own delivery received) (header_of received).ack e f
      where
        bits : (x a : Bool) → (x && not a) ≡ true → (x && a) ≡ true → ⊥
        bits true true e f = never (sym e)
        bits true false e f = never (sym f)
        bits false a e f = never (sym e)

    total : acknowledge_number (length table) own delivery sending room received ≡ number D
    unfolding acknowledge_number
    total = sym (or_else_assoc ((D && ltb 7 sending.hop_limit) gives 10) ((D && ltb 15 sending.port) gives 11) _)

    told : (it (number D) (eqb (number D) 0) D K (has (matching received) table)).outcome ≡ acknowledge table last own delivery sending room received
    unfolding acknowledge
    told = outcome_is (number D) (eqb (number D) 0) D K (has (matching received) table)
        ∙ ap (λ (n : ℕ). cond (eqb n 0) (cond D (did answered last 0 (names_of received) size) (cond (K && has (matching received) table)
        (did freed last place (exchanged (names_of received)) 0) (number_alone 0 last))) (number_alone n last)) (sym total)

    left : table_freed (it (number D) (eqb (number D) 0) D K (has (matching received) table)) table
        ≡ table_acknowledged table own delivery sending room received
    unfolding table_acknowledged
    left = table_is (number D) (eqb (number D) 0) D K (has (matching received) table) apart
        ∙ ap (λ (n : ℕ). cond (eqb n 0 && (K && has (matching received) table)) (set table place freed_record) table) (sym total)

    pub acknowledge_tied : (a : Ask) (r : Outcome) (after : List Retained) → a ≡ ask_acknowledge last own delivery sending room received
        → (r ≡ (hear_on a table).outcome) × (after ≡ table_freed (hear_on a table) table)
        → (r ≡ acknowledge table last own delivery sending room received) × (after ≡ table_acknowledged table own delivery sending room received)
    unfolding ask_acknowledge
    acknowledge_tied a r after p o =
        let is : hear_on a table ≡ it (number D) (eqb (number D) 0) D K (has (matching received) table) =
        ap (λ (x : Ask). hear_on x table) p ∙ effect_is D K in
        (o.0 ∙ ap (λ (x : Effect). x.outcome) is ∙ told, o.1 ∙ ap (λ (x : Effect). table_freed x table) is ∙ left)
