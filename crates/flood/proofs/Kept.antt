-- Those of a list that pass a test: which they are, and that none is there twice. Assumes nothing.
use mathlib.Core.Path.{◌≡◌, refl, ap, sym, subst, ◌∙◌}
use mathlib.Core.Logic.{⊎_elim}
use mathlib.Core.Bool.{Bool, true, false, cond, false≢true}
use mathlib.Core.List.Memᴰ
use mathlib.Core.List.{List, [], ◌∷◌, ◌++◌, map, map-id, Memᴰ}
use mathlib.Core.List.{Nodup, Nodup-nil, Nodup-cons}
use Rattle.flood.specs.Flood.{keep}
use Rattle.flood.proofs.Lists.{apart, nodup_more}

module _ {A : Type 0} (test : A → Bool) where
  pub keep_here : (x : A) (l : List A) → test x ≡ true → keep test (x ∷ l) ≡ x ∷ keep test l
  unfolding keep
  keep_here x l e = rw e

  pub keep_not : (x : A) (l : List A) → test x ≡ false → keep test (x ∷ l) ≡ keep test l
  unfolding keep
  keep_not x l e = rw e

  pub keep_append : (l r : List A) → keep test (l ++ r) ≡ keep test l ++ keep test r
  unfolding keep
  keep_append [] r = refl
  keep_append (x ∷ l) r = go (test x) (keep_append l r)
    where
      go : (t : Bool) → keep test (l ++ r) ≡ keep test l ++ keep test r
          → cond t (x ∷ keep test (l ++ r)) (keep test (l ++ r)) ≡ cond t (x ∷ keep test l) (keep test l) ++ keep test r
      go true below = ap (λ (y : List A). x ∷ y) below
      go false below = below

  pub kept : (l : List A) {a : A} → Memᴰ a l → test a ≡ true → Memᴰ a (keep test l)
  unfolding keep
  kept [] m passes = absurd (Memᴰ.not-nil m)
  kept (x ∷ l) {a} m passes = go (test x) refl (λ k. kept l k passes)
    where
      go : (t : Bool) → test x ≡ t → (Memᴰ a l → Memᴰ a (keep test l)) → Memᴰ a (cond t (x ∷ keep test l) (keep test l))
      go true e below = ⊎_elim (λ same. Memᴰ.head same) (λ later. Memᴰ.tail (below later)) (Memᴰ.cases_cons m)
      go false e below = ⊎_elim (λ same. absurd (false≢true (sym e ∙ ap test (sym same) ∙ passes))) below (Memᴰ.cases_cons m)

  pub kept_are : (l : List A) {a : A} → Memᴰ a (keep test l) → Memᴰ a l × (test a ≡ true)
  unfolding keep
  kept_are [] m = absurd (Memᴰ.not-nil m)
  kept_are (x ∷ l) {a} m = go (test x) refl (λ k. kept_are l k) m
    where
      go : (t : Bool) → test x ≡ t → (Memᴰ a (keep test l) → Memᴰ a l × (test a ≡ true)) → Memᴰ a (cond t (x ∷ keep test l) (keep test l))
          → Memᴰ a (x ∷ l) × (test a ≡ true)
      go true e below k =
          ⊎_elim (λ same. (Memᴰ.head same, ap test same ∙ e)) (λ later. let (l-in, is) = below later in (Memᴰ.tail l-in, is))
          (Memᴰ.cases_cons k)
      go false e below k = let (l-in, is) = below k in (Memᴰ.tail l-in, is)

  pub kept_differ : {B : Type 0} (f : A → B) (l : List A) → Nodup (map f l) → Nodup (map f (keep test l))
  unfolding keep
  kept_differ f [] d = Nodup-nil
  kept_differ f (x ∷ l) d = go (test x) (kept_differ f l (Nodup-cons.0 d).1)
    where
      go : (t : Bool) → Nodup (map f (keep test l)) → Nodup (map f (cond t (x ∷ keep test l) (keep test l)))
      go true below =
          nodup_more (λ m. let (a, a_in, same) = Memᴰ.of_map f (keep test l) m in apart d (Memᴰ.map f (kept_are l a_in).0) same) below
      go false below = below

  pub kept_once : (l : List A) → Nodup l → Nodup (keep test l)
  kept_once l d = subst Nodup (map-id (keep test l)) (kept_differ (λ a. a) l (subst Nodup (sym (map-id l)) d))
