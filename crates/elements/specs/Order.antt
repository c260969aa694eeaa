-- Document 02, W-202, "for whichever begins first": the elements that reading comes to, each with its own fault, in the order in which they begin.
use Rattle.std.specs.Prelude.{ℕ, zero, suc, ◌+◌, ◌≤◌, cond, ◌&&◌, List, [], ◌∷◌, ◌++◌, ltb, leb}
use Rattle.octets.specs.Numbers.{◌gives◌, ◌or_else◌}
use Rattle.elements.specs.Elements.{type_at, value_place, element_end, elements_in, is_run}

-- where an element stands: how many levels are left there, where its run ends, where it begins
pub record Standing : Type 0 where
  pub levels : ℕ
  pub end : ℕ
  pub place : ℕ

-- its own fault: 58 at level 5, else 57 where it is cut
unfoldable pub own_fault : List ℕ → ℕ → ℕ → ℕ → ℕ
own_fault bytes zero end place = 58
own_fault bytes (suc levels) end place = ltb end (element_end bytes place) gives 57

unfoldable pub each_of : (ℕ → List Standing) → List ℕ → List Standing
each_of f [] = []
each_of f (place ∷ places) = f place ++ each_of f places

-- an element, and if it is whole and of type 10, 11 or 20 those that it holds
unfoldable pub reached_at : ℕ → List ℕ → ℕ → ℕ → List Standing
reached_at zero bytes end place = record { levels = 0; end = end; place = place } ∷ []
reached_at (suc levels) bytes end place =
    record { levels = suc levels; end = end; place = place }
    ∷ cond (leb (element_end bytes place) end && is_run (type_at bytes place))
    (each_of (reached_at levels bytes (element_end bytes place)) (elements_in bytes (value_place bytes place) (element_end bytes place))) []

unfoldable pub reached : ℕ → List ℕ → ℕ → ℕ → List Standing
reached levels bytes place end = each_of (reached_at levels bytes end) (elements_in bytes place end)

-- the first own fault in a list
unfoldable pub first_own : List ℕ → List Standing → ℕ
first_own bytes [] = 0
first_own bytes (e ∷ es) = own_fault bytes e.levels e.end e.place or_else first_own bytes es

-- elements that begin one after the other, from a place on and before an end
unfoldable pub Ordered : ℕ → ℕ → List Standing → Type 0
Ordered low high [] = low ≤ high
Ordered low high (e ∷ es) = (low ≤ e.place) × Ordered (e.place + 1) high es
