-- What a PDU heard is answered and leaves, case by case; the cases leave none out.
use mathlib.Core.Path.{◌≡◌, refl, sym, ◌∙◌, ap}
use Prim.Native.Nat.{ℕ, ◌<◌, ◌≤◌}
use mathlib.Core.Bool.{Bool, true, false, not, cond, ◌&&◌}
use mathlib.Core.List.{List}
use lib.Dec.{eqb, ltb}
use lib.ListN.{length, set}
use borrow.Author.Tests.{eq-eqb, ne_eqb, lt-ltb, le-ltb}
use Rattle.octets.specs.Numbers.{◌gives◌, ◌or_else◌}
use Rattle.octets.specs.Octets.{over}
use Rattle.octets.proofs.Numbering.{or_else_none}
use Rattle.pdu.specs.Header.{header_of}
use Rattle.pdu.specs.Sizes.{pdu_length}
use Rattle.retained.specs.declared.Retained.{Retained}
use Rattle.retained.specs.declared.Outcome.{Outcome}
use Rattle.retained.specs.Records.{names_of, exchanged, freed_record}
use Rattle.retained.specs.Table.{first, has, number_alone, did, freed, answered}
use Rattle.acknowledgements.specs.declared.Sending.{Sending}
use Rattle.acknowledgements.specs.Delivered.{is_delivered_here, is_answered, is_acknowledgement, matching, ack_header, acknowledgement}
use Rattle.acknowledgements.specs.Delivered.{acknowledge_number, acknowledge, table_acknowledged, output_acknowledged}
use Rattle.retry_termination.specs.First.{FirstAt, Nowhere}
use Rattle.retry_termination.proofs.First.{has_nowhere}
use Rattle.retry_termination.proofs.Lowest.{first_at, has_first, no_match, some}

module _ (table : List Retained) (last own delivery : ℕ) (sending : Sending) (received output : List ℕ) where
  abbrev room : ℕ
  room = length output

  abbrev Leaves : Outcome → Type 0
  Leaves outcome =
      (acknowledge table last own delivery sending room received ≡ outcome) × (table_acknowledged table own delivery sending room received ≡ table)
      × (output_acknowledged (length table) own delivery sending received output ≡ output)

  answered_not_ack : is_answered own delivery received ≡ true → is_acknowledgement own delivery received ≡ false
  answered_not_ack e = bits (is_delivered_here own delivery received) (header_of received).ack e
    where
      bits : (x a : Bool) → (x && not a) ≡ true → (x && a) ≡ false
      bits true true e = sym e
      bits true false e = refl
      bits false a e = refl

  pub ack_not_answered : is_acknowledgement own delivery received ≡ true → is_answered own delivery received ≡ false
  ack_not_answered e = bits (is_delivered_here own delivery received) (header_of received).ack e
    where
      bits : (x a : Bool) → (x && a) ≡ true → (x && not a) ≡ false
      bits true true e = refl
      bits true false e = sym e
      bits false a e = refl

  refused : (n : ℕ) → acknowledge_number (length table) own delivery sending room received ≡ n → (n ≡ 0 → ⊥) → Leaves (number_alone n last)
  unfolding acknowledge table_acknowledged output_acknowledged
  refused n e f = (simp (e, ne_eqb n 0 f), simp (e, ne_eqb n 0 f), simp (e, ne_eqb n 0 f))

  abbrev asked : Bool
  asked = is_answered own delivery received

  module _ (a : asked ≡ true) where
    number_10 : 7 < sending.hop_limit → acknowledge_number (length table) own delivery sending room received ≡ 10
    unfolding acknowledge_number ◌gives◌ ◌or_else◌
    number_10 h = simp (a, lt-ltb 7 sending.hop_limit h)

    pub answer_10 : 7 < sending.hop_limit → Leaves (number_alone 10 last)
    answer_10 h = refused 10 (number_10 h) some

    module _ (h : sending.hop_limit ≤ 7) where
      number_11 : 15 < sending.port → acknowledge_number (length table) own delivery sending room received ≡ 11
      unfolding acknowledge_number ◌gives◌ ◌or_else◌
      number_11 p = simp (a, le-ltb 7 sending.hop_limit h, lt-ltb 15 sending.port p)

      pub answer_11 : 15 < sending.port → Leaves (number_alone 11 last)
      answer_11 p = refused 11 (number_11 p) some

      module _ (p : sending.port ≤ 15) where
        number_74 : (length table ≡ 16 → ⊥) → acknowledge_number (length table) own delivery sending room received ≡ 74
        unfolding acknowledge_number ◌gives◌ ◌or_else◌
        number_74 s = simp (a, le-ltb 7 sending.hop_limit h, le-ltb 15 sending.port p, ne_eqb (length table) 16 s)

        pub answer_74 : (length table ≡ 16 → ⊥) → Leaves (number_alone 74 last)
        answer_74 s = refused 74 (number_74 s) some

        module _ (s : length table ≡ 16) where
          abbrev long : ℕ
          long = pdu_length (ack_header sending (names_of received))

          number_77 : room < long → acknowledge_number (length table) own delivery sending room received ≡ 77
          unfolding acknowledge_number ◌gives◌ ◌or_else◌
          number_77 l =
              simp (a, le-ltb 7 sending.hop_limit h, le-ltb 15 sending.port p, eq-eqb (length table) 16 s)
              (tested (ltb room long) (lt-ltb room long l))
            where
              tested : (b : Bool) → b ≡ true → cond {A = ℕ} b 77 0 ≡ 77
              tested b e = simp e

          pub answer_77 : room < long → Leaves (number_alone 77 last)
          answer_77 l = refused 77 (number_77 l) some

          number_0 : long ≤ room → acknowledge_number (length table) own delivery sending room received ≡ 0
          unfolding acknowledge_number ◌gives◌ ◌or_else◌
          number_0 l =
              simp (a, le-ltb 7 sending.hop_limit h, le-ltb 15 sending.port p, eq-eqb (length table) 16 s)
              (tested (ltb room long) (le-ltb room long l))
            where
              tested : (b : Bool) → b ≡ false → cond {A = ℕ} b 77 0 ≡ 0
              tested b e = simp e

          answer_is : long ≤ room → acknowledge table last own delivery sending room received ≡ did answered last 0 (names_of received) long
          unfolding acknowledge
          answer_is l = simp (number_0 l, a)

          answer_left : long ≤ room → table_acknowledged table own delivery sending room received ≡ table
          unfolding table_acknowledged
          answer_left l = simp (number_0 l, answered_not_ack a)

          answer_shown : long ≤ room → output_acknowledged (length table) own delivery sending received output
              ≡ over (acknowledgement sending (names_of received)) output
          unfolding output_acknowledged
          answer_shown l = simp (number_0 l, a)

          pub answer_sent : long ≤ room → (acknowledge table last own delivery sending room received ≡ did answered last 0 (names_of received) long)
              × (table_acknowledged table own delivery sending room received ≡ table)
              × (output_acknowledged (length table) own delivery sending received output ≡ over (acknowledgement sending (names_of received)) output)
          answer_sent l = (answer_is l, answer_left l, answer_shown l)

  module _ (a : asked ≡ false) where
    number_is : acknowledge_number (length table) own delivery sending room received ≡ cond (not (eqb (length table) 16)) 74 0
    unfolding acknowledge_number ◌gives◌ ◌or_else◌
    number_is = simp a (or_else_none (cond (not (eqb (length table) 16)) 74 0))

    other_74 : (length table ≡ 16 → ⊥) → acknowledge_number (length table) own delivery sending room received ≡ 74
    other_74 s = number_is ∙ simp (ne_eqb (length table) 16 s)

    pub heard_74 : (length table ≡ 16 → ⊥) → Leaves (number_alone 74 last)
    heard_74 s = refused 74 (other_74 s) some

    module _ (s : length table ≡ 16) where
      other_0 : acknowledge_number (length table) own delivery sending room received ≡ 0
      other_0 = number_is ∙ simp (eq-eqb (length table) 16 s)

      abbrev hits : Bool
      hits = is_acknowledgement own delivery received && has (matching received) table

      misses : hits ≡ false → Leaves (number_alone 0 last)
      unfolding acknowledge table_acknowledged output_acknowledged
      misses h = (simp (other_0, a, h), simp (other_0, h), simp (other_0, a))

      pub heard_other : is_acknowledgement own delivery received ≡ false → Leaves (number_alone 0 last)
      heard_other k = misses (ap (λ (b : Bool). b && has (matching received) table) k)

      pub unmatched : Nowhere (matching received) table → Leaves (number_alone 0 last)
      unmatched f = misses (no_match (is_acknowledgement own delivery received) (has (matching received) table) (has_nowhere (matching received) table f))

      frees : (place : ℕ) → first (matching received) table ≡ place → hits ≡ true
          → (acknowledge table last own delivery sending room received ≡ did freed last place (exchanged (names_of received)) 0)
          × (table_acknowledged table own delivery sending room received ≡ set table place freed_record)
          × (output_acknowledged (length table) own delivery sending received output ≡ output)
      unfolding acknowledge table_acknowledged output_acknowledged
      frees place e h = (
        simp (other_0, a, h) (ap (λ (p : ℕ). did freed last p (exchanged (names_of received)) 0) e),
        simp (other_0, h) (ap (λ (p : ℕ). set table p freed_record) e),
        simp (other_0, a),
      )

  pub acknowledged : length table ≡ 16 → is_acknowledgement own delivery received ≡ true → (place : ℕ) → FirstAt (matching received) table place
      → (acknowledge table last own delivery sending room received ≡ did freed last place (exchanged (names_of received)) 0)
      × (table_acknowledged table own delivery sending room received ≡ set table place freed_record)
      × (output_acknowledged (length table) own delivery sending received output ≡ output)
  acknowledged s k place f =
      frees (ack_not_answered k) s place (first_at (matching received) table place f)
      (ap (λ (b : Bool). b && has (matching received) table) k ∙ has_first (matching received) table place f)
