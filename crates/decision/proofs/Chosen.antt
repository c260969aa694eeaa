-- The list that is chosen, by its place among the eight.
use Prim.Native.Nat.{ℕ, ◌+◌}
use mathlib.Core.Bool.{Bool, true, false, not, beq}
use mathlib.Core.List.{List}
use mathlib.Core.Logic.{◌⊎◌, inl, inr}
use mathlib.Core.Option.{none}
use mathlib.Core.Path.{◌≡◌, refl}
use Rattle.std.specs.Prelude.{Option, Some, None}
use Rattle.std.specs.Option.{option_eq}
use Rattle.pdu.specs.declared.Destination.{Destination}
use Rattle.pdu.specs.declared.Destination.TheVariants.{Everyone, Address}
use Rattle.lists.specs.Lists.{ListPair, two, holds, list_in}
use Rattle.decision.specs.declared.Choice.{Choice}
use Rattle.decision.specs.declared.Choice.TheVariants.{First, Second, Neither}
use Rattle.decision.specs.Decision.{chosen, is_outside, is_in, destination_is_outside, destination_is_in}

is_not : (x : Bool) → beq x false ≡ not x
is_not true = refl
is_not false = refl

is_so : (x : Bool) → beq x true ≡ x
is_so true = refl
is_so false = refl

module _ (block : List ℕ) (first address : ℕ) where
  -- whether the list that is chosen holds the address, if the kind's first list has place `first`
  abbrev Held : Choice → Option Bool → Type 0
  Held choice held =
      ((choice ≡ First) × (held ≡ Some (holds (list_in block first) address)))
      ⊎ ((choice ≡ Second) × (held ≡ Some (holds (list_in block (first + 1)) address)))
      ⊎ ((choice ≡ Neither) × (held ≡ None))

  abbrev pair : ListPair
  pair = two (list_in block first) (list_in block (first + 1))

  pub held_outside : {choice : Choice} {held : Option Bool} → Held choice held
      → option_eq beq held (Some false) ≡ is_outside (chosen choice pair) address
  held_outside (inl (e, is)) = rw (e, is) (is_not _)
  held_outside (inr (inl (e, is))) = rw (e, is) (is_not _)
  held_outside (inr (inr (e, is))) = rw (e, is)

  pub held_in : {choice : Choice} {held : Option Bool} → Held choice held → option_eq beq held (Some true) ≡ is_in (chosen choice pair) address
  held_in (inl (e, is)) = rw (e, is) (is_so _)
  held_in (inr (inl (e, is))) = rw (e, is) (is_so _)
  held_in (inr (inr (e, is))) = rw (e, is)

-- a kind with none chosen stops no destination
pub outside_none : (destination : Destination) → destination_is_outside none destination ≡ false
outside_none Everyone = refl
outside_none (Address address) = refl

pub in_none : (destination : Destination) → destination_is_in none destination ≡ false
in_none Everyone = refl
in_none (Address address) = refl
