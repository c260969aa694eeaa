-- The fault that reading gives is the own fault of the faulty element that begins first.
use Prim.Native.Nat.{ℕ, zero, suc, ◌+◌, ◌-◌, ◌≤◌, ◌<◌}
use native.Mathlib.Omega.{arith}
use mathlib.Core.Bool.{Bool, true, false, not, cond, ◌&&◌}
use mathlib.Core.List.{List, [], ◌∷◌, ◌++◌}
use mathlib.Core.Path.{◌≡◌, refl, ap, sym, ◌∙◌}
use lib.Dec.{ltb, leb}
use borrow.Author.Tests.{le-leb, lt-leb, ltb-true, ltb-false, leb-true, leb-false}
use Rattle.octets.specs.Numbers.{◌gives◌, ◌or_else◌}
use Rattle.octets.proofs.Numbering.{or_else_none, or_else_assoc}
use Rattle.elements.specs.Elements.{type_at, value_place, element_end, beginnings, elements_in, is_run, first_of, element_fault, run_fault}
use Rattle.elements.specs.Order.{Standing, own_fault, each_of, reached_at, reached, first_own, Ordered}
use Rattle.elements.proofs.Runs.{end_after, value_after, value_within, nothing_left, none_left, one_more}

module _ (bytes : List ℕ) where
  own_append : (a b : List Standing) → first_own bytes (a ++ b) ≡ (first_own bytes a or_else first_own bytes b)
  unfolding first_own ◌or_else◌
  own_append [] b = refl
  own_append (e ∷ a) b = ap (λ (n : ℕ). own_fault bytes e.levels e.end e.place or_else n) (own_append a b)
      ∙ sym (or_else_assoc (own_fault bytes e.levels e.end e.place) (first_own bytes a) (first_own bytes b))

  each_own : (fault : ℕ → ℕ) (f : ℕ → List Standing) → ((place : ℕ) → fault place ≡ first_own bytes (f place)) → (places : List ℕ)
      → first_of fault places ≡ first_own bytes (each_of f places)
  unfolding first_of first_own each_of
  each_own fault f same [] = refl
  each_own fault f same (place ∷ places) = rw (same place, each_own fault f same places) (sym (own_append (f place) (each_of f places)))

  held_own : (cut run : Bool) (n : ℕ) (es : List Standing) → n ≡ first_own bytes es
      → ((cut gives 57) or_else cond run n 0) ≡ ((cut gives 57) or_else first_own bytes (cond (not cut && run) es []))
  unfolding ◌gives◌ ◌or_else◌ first_own
  held_own true run n es e = refl
  held_own false true n es e = e
  held_own false false n es e = refl

  test_same : (a b : ℕ) → leb b a ≡ not (ltb a b)
  test_same a b = go (ltb a b) refl
    where
      go : (t : Bool) → ltb a b ≡ t → leb b a ≡ not t
      go true e = lt-leb b a (ltb-true a b e)
      go false e = le-leb b a (ltb-false a b e)

  element_own : (levels end place : ℕ) → element_fault levels bytes end place ≡ first_own bytes (reached_at levels bytes end place)
  unfolding element_fault reached_at first_own own_fault
  element_own zero end place = sym (or_else_none 58)
  element_own (suc levels) end place =
      let after = element_end bytes place in
      let inner = elements_in bytes (value_place bytes place) after in
      rw (test_same end after)
      (held_own (ltb end after) (is_run (type_at bytes place)) (first_of (element_fault levels bytes after) inner) (each_of (reached_at levels bytes after) inner)
      (each_own (element_fault levels bytes after) (reached_at levels bytes after) (element_own levels after) inner))

  -- reading gives the first own fault of the elements reached
  pub run_own : (levels place end : ℕ) → run_fault levels bytes place end ≡ first_own bytes (reached levels bytes place end)
  unfolding run_fault reached
  run_own levels place end = each_own (element_fault levels bytes end) (reached_at levels bytes end) (element_own levels end) (elements_in bytes place end)

-- and these are in the order in which they begin
lower : (low less high : ℕ) (es : List Standing) → less ≤ low → Ordered low high es → Ordered less high es
unfolding Ordered
lower low less high [] h o = omega arith
lower low less high (e ∷ es) h o = (omega (arith, o.0), o.1)

higher : (low high more : ℕ) (es : List Standing) → high ≤ more → Ordered low high es → Ordered low more es
unfolding Ordered
higher low high more [] h o = omega arith
higher low high more (e ∷ es) h o = (o.0, higher (e.place + 1) high more es h o.1)

joined : (low middle high : ℕ) (a b : List Standing) → Ordered low middle a → Ordered middle high b → Ordered low high (a ++ b)
unfolding Ordered
joined low middle high [] b o p = lower middle low high b o p
joined low middle high (e ∷ a) b o p = (o.0, joined (e.place + 1) middle high a b o.1 p)

only_one : (low high place : ℕ) (e : Standing) → e.place ≡ place → low ≤ place → place + 1 ≤ high → Ordered low high (e ∷ [])
unfolding Ordered
only_one low high place e is h k = (omega arith, omega arith)

first_then : (low high place : ℕ) (e : Standing) (es : List Standing) → e.place ≡ place → low ≤ place → Ordered (place + 1) high es → Ordered low high (e ∷ es)
unfolding Ordered
first_then low high place e es is h o = (omega arith, rw is o)

none_there : (low high : ℕ) → low ≤ high → Ordered low high []
unfolding Ordered
none_there low high h = h

module _ (bytes : List ℕ) where
  alone : (levels end place : ℕ) → end < element_end bytes place → reached_at levels bytes end place ≡ record { levels = levels; end = end; place = place } ∷ []
  unfolding reached_at
  alone zero end place h = refl
  alone (suc levels) end place h = rw (lt-leb (element_end bytes place) end h)

  module _ (levels end : ℕ)
      (each : (place : ℕ) → element_end bytes place ≤ end → Ordered place (element_end bytes place) (reached_at levels bytes end place)) where
    each_none : each_of (reached_at levels bytes end) [] ≡ []
    unfolding each_of
    each_none = refl

    each_more : (place : ℕ) (places : List ℕ)
        → each_of (reached_at levels bytes end) (place ∷ places) ≡ reached_at levels bytes end place ++ each_of (reached_at levels bytes end) places
    unfolding each_of
    each_more place places = refl

    run_ordered : (n place : ℕ) → place ≤ end → Ordered place end (each_of (reached_at levels bytes end) (beginnings bytes end n place))
    run_ordered zero place h = rw (nothing_left bytes end place, each_none) (none_there place end h)
    run_ordered (suc n) place h = go (ltb place end) refl (leb (element_end bytes place) end) refl (run_ordered n (element_end bytes place))
      where
        go : (t : Bool) → ltb place end ≡ t → (u : Bool) → leb (element_end bytes place) end ≡ u
            → (element_end bytes place ≤ end → Ordered (element_end bytes place) end
            (each_of (reached_at levels bytes end) (beginnings bytes end n (element_end bytes place))))
            → Ordered place end (each_of (reached_at levels bytes end) (beginnings bytes end (suc n) place))
        go false e u f again = rw (none_left bytes end (suc n) place (ltb-false place end e), each_none) (none_there place end h)
        go true e true f again =
            let whole = leb-true (element_end bytes place) end f in
            let rest = beginnings bytes end n (element_end bytes place) in
            rw (one_more bytes end n place (ltb-true place end e), each_more place rest)
            (joined place (element_end bytes place) end (reached_at levels bytes end place) (each_of (reached_at levels bytes end) rest)
            (each place whole) (again whole))
        go true e false f again =
            let cut = leb-false (element_end bytes place) end f in
            let past : end ≤ element_end bytes place = omega arith in
            let here = ltb-true place end e in
            rw (
              one_more bytes end n place here,
              each_more place (beginnings bytes end n (element_end bytes place)),
              none_left bytes end n
                  (element_end bytes place) past,
              each_none,
              alone levels end place cut,
            )
            (only_one place end place (record { levels = levels; end = end; place = place }) refl (omega arith) (omega arith))

  run_inside : (levels end place : ℕ) → place ≤ end
      → ((place : ℕ) → element_end bytes place ≤ end → Ordered place (element_end bytes place) (reached_at levels bytes end place))
      → Ordered place end (each_of (reached_at levels bytes end) (elements_in bytes place end))
  unfolding elements_in
  run_inside levels end place h each = run_ordered levels end each (end - place) place h

  element_ordered : (levels end place : ℕ) → element_end bytes place ≤ end → Ordered place (element_end bytes place) (reached_at levels bytes end place)
  unfolding reached_at
  element_ordered zero end place h =
      only_one place (element_end bytes place) place (record { levels = 0; end = end; place = place }) refl (omega arith) (omega (arith, end_after bytes place))
  element_ordered (suc levels) end place h =
      let after = element_end bytes place in
      let inside = each_of (reached_at levels bytes after) (elements_in bytes (value_place bytes place) after) in
      first_then place after place (record { levels = suc levels; end = end; place = place })
      (cond (leb after end && is_run (type_at bytes place)) inside [])
      refl (omega arith)
      (either (leb after end && is_run (type_at bytes place)) inside
      (run_inside levels after (value_place bytes place) (value_within bytes place) (element_ordered levels after)))
    where
      either : (t : Bool) (es : List Standing) → Ordered (value_place bytes place) (element_end bytes place) es
          → Ordered (place + 1) (element_end bytes place) (cond t es [])
      either true es o = lower (value_place bytes place) (place + 1) (element_end bytes place) es (value_after bytes place) o
      either false es o = none_there (place + 1) (element_end bytes place) (omega (arith, end_after bytes place))

  -- the elements that reading comes to are in the order in which they begin, and all begin before the end
  pub run_in_order : (levels place end : ℕ) → place ≤ end → Ordered place end (reached levels bytes place end)
  unfolding reached
  run_in_order levels place end h = run_inside levels end place h (element_ordered levels end)
