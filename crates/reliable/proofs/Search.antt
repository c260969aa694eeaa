-- A search over the records, from place i on, for the first that passes a test.
use Rattle.std.proofs.Common.{◌≡◌, ℕ, suc, ◌+◌, ◌<◌, ◌≤◌, Bool, true, false, ◌&&◌, cond, eqb, List, length, drop, ◌∙◌, sym, ap, add-one, arith}
use Rattle.std.proofs.Math.Nat.{add-zero, zero-add}
use Rattle.std.proofs.Math.Seq.{drop-cons}
use Rattle.std.proofs.lemmas.List.{drop_all}
use Rattle.retained.specs.declared.Retained.{Retained}
use Rattle.retained.specs.Records.{freed_record}
use Rattle.retained.specs.Table.{first, record_at}
use Rattle.retained_operations.specs.Operations.{seeks, search_start, place_of}
use Rattle.retained_operations.specs.declared.Ask.{Ask}

module _ (test : Retained → Bool) (table : List Retained) where
  -- the place of the first that passes among those from place i on
  abbrev pub from : ℕ → ℕ
  from i = i + first test (drop i table)

  here_or_later : (i : ℕ) (b : Bool) → i < length table → test (record_at table i) ≡ b → from i ≡ i + cond b 0 (suc (first test (drop (suc i) table)))
  unfolding first
  here_or_later i b l e = ap (λ (rs : List Retained). i + first test rs) (drop-cons table i freed_record l)
      ∙ ap (λ (c : Bool). i + cond c 0 (suc (first test (drop (suc i) table)))) e

  pub here : (i : ℕ) (r : Retained) → i < length table → r ≡ record_at table i → true ≡ test r → from i ≡ i
  here i r l e h = here_or_later i true l (ap test (sym e) ∙ sym h) ∙ add-zero i

  pub later : (i : ℕ) (r : Retained) → i < length table → r ≡ record_at table i → false ≡ test r → from (i + 1) ≡ from i
  later i r l e h =
      let k = here_or_later i false l (ap test (sym e) ∙ sym h) in
      rw (add-one i) (omega (arith, k))

  pub none_left : (i : ℕ) → length table ≤ i → from i ≡ i
  unfolding first
  none_left i h = ap (λ (rs : List Retained). i + first test rs) (drop_all i table h) ∙ add-zero i

  -- where a search begins
  pub begun : (a : Ask) → from (search_start a (length table)) ≡ place_of test a table
  unfolding place_of
  begun a = from_here (seeks a.kind && eqb (length table) 16)
    where
      from_here : (b : Bool) → from (cond b 0 (length table)) ≡ cond b (first test table) (length table)
      from_here true = zero-add (first test table)
      from_here false = none_left (length table) (omega arith)
