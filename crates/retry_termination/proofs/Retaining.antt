-- What retaining answers and leaves, case by case; the cases leave none out.
use mathlib.Core.Path.{◌≡◌}
use Prim.Native.Nat.{ℕ, suc, ◌<◌, ◌≤◌}
use mathlib.Core.Bool.{true, false}
use mathlib.Core.List.{List}
use lib.ListN.{length, set}
use borrow.Author.Tests.{eq-eqb, ne_eqb, lt-ltb, le-ltb}
use Rattle.octets.specs.Numbers.{◌gives◌, ◌or_else◌}
use Rattle.retained.specs.declared.Retained.{Retained}
use Rattle.retained.specs.Records.{is_retainable, retain_fault, is_free, is_named, names_of, retained_record}
use Rattle.retained.specs.Table.{first, has, record_at, number_alone, did, kept, retain_number, retain, table_retained}
use Rattle.retry_termination.specs.First.{FirstAt, Nowhere}
use Rattle.retry_termination.proofs.First.{has_at, has_nowhere}
use Rattle.retry_termination.proofs.Lowest.{first_at, has_first, some}

module _ (table : List Retained) (last now : ℕ) (bytes : List ℕ) where
  abbrev Refuses : ℕ → Type 0
  Refuses n = (retain table last now bytes ≡ number_alone n last) × (table_retained table last now bytes ≡ table)

  retain_refused : (n : ℕ) → retain_number table last now bytes ≡ n → (n ≡ 0 → ⊥) → Refuses n
  unfolding retain table_retained
  retain_refused n e f = (simp (e, ne_eqb n 0 f), simp (e, ne_eqb n 0 f))

  number_74 : (length table ≡ 16 → ⊥) → retain_number table last now bytes ≡ 74
  unfolding retain_number ◌gives◌ ◌or_else◌
  number_74 s = simp (ne_eqb (length table) 16 s)

  pub retain_74 : (length table ≡ 16 → ⊥) → Refuses 74
  retain_74 s = retain_refused 74 (number_74 s) some

  module _ (s : length table ≡ 16) where
    number_73 : now < last → retain_number table last now bytes ≡ 73
    unfolding retain_number ◌gives◌ ◌or_else◌
    number_73 t = simp (eq-eqb (length table) 16 s, lt-ltb now last t)

    pub retain_73 : now < last → Refuses 73
    retain_73 t = retain_refused 73 (number_73 t) some

    module _ (t : last ≤ now) where
      number_unfit : (n : ℕ) → retain_fault bytes ≡ suc n → retain_number table last now bytes ≡ suc n
      unfolding retain_number ◌gives◌ ◌or_else◌
      number_unfit n u = simp (eq-eqb (length table) 16 s, le-ltb now last t, u)

      is_75 : is_retainable bytes ≡ false → retain_fault bytes ≡ 75
      unfolding retain_fault ◌gives◌ ◌or_else◌
      is_75 r = simp r

      is_72 : is_retainable bytes ≡ true → 256 < length bytes → retain_fault bytes ≡ 72
      unfolding retain_fault ◌gives◌ ◌or_else◌
      is_72 r l = simp (r, lt-ltb 256 (length bytes) l)

      pub is_fit : is_retainable bytes ≡ true → length bytes ≤ 256 → retain_fault bytes ≡ 0
      unfolding retain_fault ◌gives◌ ◌or_else◌
      is_fit r l = simp (r, le-ltb 256 (length bytes) l)

      pub retain_75 : is_retainable bytes ≡ false → Refuses 75
      retain_75 r = retain_refused 75 (number_unfit 74 (is_75 r)) some

      pub retain_72 : is_retainable bytes ≡ true → 256 < length bytes → Refuses 72
      retain_72 r l = retain_refused 72 (number_unfit 71 (is_72 r l)) some

      module _ (u : retain_fault bytes ≡ 0) where
        number_71 : has (is_named (names_of bytes)) table ≡ true → retain_number table last now bytes ≡ 71
        unfolding retain_number ◌gives◌ ◌or_else◌
        number_71 h = simp (eq-eqb (length table) 16 s, le-ltb now last t, u, h)

        pub retain_71 : (place : ℕ) → place < length table → is_named (names_of bytes) (record_at table place) ≡ true → Refuses 71
        retain_71 place l h = retain_refused 71 (number_71 (has_at (is_named (names_of bytes)) table place l h)) some

        module _ (h : has (is_named (names_of bytes)) table ≡ false) where
          number_70 : has is_free table ≡ false → retain_number table last now bytes ≡ 70
          unfolding retain_number ◌gives◌ ◌or_else◌
          number_70 g = simp (eq-eqb (length table) 16 s, le-ltb now last t, u, h, g)

          number_0 : has is_free table ≡ true → retain_number table last now bytes ≡ 0
          unfolding retain_number ◌gives◌ ◌or_else◌
          number_0 g = simp (eq-eqb (length table) 16 s, le-ltb now last t, u, h, g)

          keeps : (place : ℕ) → first is_free table ≡ place → retain_number table last now bytes ≡ 0
              → (retain table last now bytes ≡ did kept now place (names_of bytes) 0)
              × (table_retained table last now bytes ≡ set table place (retained_record now bytes))
          unfolding retain table_retained
          keeps place e n = (simp (n, e), simp (n, e))

        pub retain_70 : Nowhere (is_named (names_of bytes)) table → Nowhere is_free table → Refuses 70
        retain_70 f g = retain_refused 70 (number_70 (has_nowhere (is_named (names_of bytes)) table f) (has_nowhere is_free table g)) some

        pub retain_kept : (place : ℕ) → Nowhere (is_named (names_of bytes)) table → FirstAt is_free table place
            → (retain table last now bytes ≡ did kept now place (names_of bytes) 0)
            × (table_retained table last now bytes ≡ set table place (retained_record now bytes))
        retain_kept place f g =
            let h = has_nowhere (is_named (names_of bytes)) table f in
            keeps h place (first_at is_free table place g) (number_0 h (has_first is_free table place g))
