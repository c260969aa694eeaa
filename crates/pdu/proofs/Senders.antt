-- The last sender, by the path: without one, with an empty one, and with entries.
use Prim.Native.Nat.{ℕ, zero, suc, ◌+◌, ◌<◌}
use native.Mathlib.Omega.{arith}
use mathlib.Core.Bool.{Bool, true, false, cond}
use mathlib.Core.List.{List, [], ◌∷◌, ◌++◌}
use mathlib.Core.Path.{◌≡◌, refl, ap, ◌∙◌}
use lib.ListN.{length, get_or}
use Rattle.std.specs.Prelude.{None, Some}
use Rattle.octets.specs.Octets.{AllBytes, word_at}
use Rattle.pdu.specs.declared.Header.{Header}
use Rattle.pdu.specs.Header.{source_place, header_of}
use Rattle.pdu.specs.Sizes.{path_start, path_entries}
use Rattle.pdu.specs.Parts.{addresses_at, path_in, path_address, last_or, last_sender}
use Rattle.pdu.proofs.Paths.{length_addresses}

-- the last of some addresses
pub last_none : (otherwise : ℕ) (addresses : List ℕ) → length addresses ≡ 0 → last_or otherwise addresses ≡ otherwise
unfolding last_or
last_none otherwise [] e = refl
last_none otherwise (address ∷ later) e = absurd (omega arith)

pub last_at : (otherwise : ℕ) (addresses : List ℕ) (i : ℕ) → length addresses ≡ i + 1 → last_or otherwise addresses ≡ get_or addresses i 0
unfolding last_or
last_at otherwise [] i e = absurd (omega arith)
last_at otherwise (address ∷ []) zero e = refl
last_at otherwise (address ∷ []) (suc i) e = absurd (omega arith)
last_at otherwise (address ∷ next ∷ later) zero e = absurd (omega arith)
last_at otherwise (address ∷ next ∷ later) (suc i) e = last_at address (next ∷ later) i (omega arith)

pub last_behind : (otherwise : ℕ) (addresses : List ℕ) (address : ℕ) → last_or otherwise (addresses ++ (address ∷ [])) ≡ address
unfolding last_or
last_behind otherwise [] address = refl
last_behind otherwise (first ∷ later) address = last_behind first later address

module _ (header : Header) (bytes : List ℕ) where
  pub sender_unknown : header.path_bit ≡ false → last_sender header bytes ≡ None
  sender_unknown none = rw none

  module _ (bit : header.path_bit ≡ true) where
    pub sender_known : (address : ℕ) → last_or header.source (path_in header bytes) ≡ address → last_sender header bytes ≡ Some address
    sender_known address last =
        ap (λ (t : Bool). cond t (Some (last_or header.source (path_in header bytes))) None) bit ∙ ap Some last

    pub sender_source : path_entries header ≡ 0 → last_sender header bytes ≡ Some header.source
    sender_source none =
        sender_known header.source
        (last_none header.source (path_in header bytes) (length_addresses bytes (path_start header) (path_entries header) ∙ none))

    pub sender_at : (i : ℕ) → path_entries header ≡ i + 1 → last_sender header bytes ≡ Some (path_address header bytes i)
    sender_at i some =
        sender_known (path_address header bytes i)
        (last_at header.source (path_in header bytes) i (length_addresses bytes (path_start header) (path_entries header) ∙ some))

    pub sender_empty : path_in header bytes ≡ [] → last_sender header bytes ≡ Some header.source
    sender_empty is = sender_known header.source (last_none header.source (path_in header bytes) (ap length is))

    pub sender_behind : (path : List ℕ) (address : ℕ) → path_in header bytes ≡ path ++ (address ∷ []) → last_sender header bytes ≡ Some address
    sender_behind path address is = sender_known address (ap (last_or header.source) is ∙ last_behind header.source path address)

-- of bytes, the last sender is a number of two bytes
module _ (bytes : List ℕ) (small : AllBytes bytes) where
  last_small : (otherwise place n : ℕ) → otherwise < 65536 → last_or otherwise (addresses_at bytes place n) < 65536
  unfolding last_or addresses_at
  last_small otherwise place zero h = h
  last_small otherwise place (suc n) h = last_small (word_at bytes place) (place + 2) n (omega (arith, small place, small (place + 1)))

  pub sender_small : last_or (header_of bytes).source (path_in (header_of bytes) bytes) < 65536
  unfolding header_of
  sender_small = last_small (word_at bytes source_place) _ _ (omega (arith, small source_place, small (source_place + 1)))
