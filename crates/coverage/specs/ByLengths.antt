-- What the lengths say that the function `find_lengths` of crate `chains` leaves (document 02, W-208), also where a node has failed. Assumes nothing.
use Rattle.std.specs.Prelude.{Bool, true, false, List, [], ◌∷◌, map, ◌≢◌, ◌≡◌, ℕ, zero, suc, ◌-◌, ◌<◌, length}
use Rattle.std.proofs.Math.Option.{some}
use Rattle.std.proofs.Math.ListN.{get_elem?}
use Rattle.octets.specs.Octets.{at}
use Rattle.chains.specs.Lengths.{is_heard}
use Rattle.chains.specs.Reach.{is_delivered}
use Rattle.origin.specs.declared.FreshSettings.{FreshSettings}
use Rattle.origin.specs.Origination.{fresh_header, fresh}
use Rattle.flood.specs.Air.{Repeater, address}
use Rattle.flood.specs.Flood.{Reception}
use Rattle.coverage.specs.Hearing.{ByNoOther}
use Rattle.coverage.specs.Delivery.{LetsIn, Delivered}

-- the pairs of places say who hears whom among the nodes
abbrev pub Says : List ℕ → (ℕ → ℕ → Bool) → List Repeater → Type 0
Says pairs hears nodes =
    (i j : ℕ) → i < length nodes → j < length nodes → is_heard pairs i j ≡ hears (at (map address nodes) i) (at (map address nodes) j)

-- the nodes that are left without the one at a place; all of them where no node has that place
unfoldable pub remaining : {A : Type 0} → ℕ → List A → List A
remaining place [] = []
remaining zero (node ∷ nodes) = nodes
remaining (suc place) (node ∷ nodes) = node ∷ remaining place nodes

-- by the lengths, a byte for each node, a node that lets the message in is delivered the payload, and with which path count; or a node is not, where no
-- node takes what it does not hear. The one at `failed` is not there, and a place that no node has says that none has failed
pub record DeliveredByLengths (hears : ℕ → ℕ → Bool) (nodes : List Repeater) (settings : FreshSettings) (payload : List ℕ) (failed : ℕ)
    (receptions : List Reception) (lengths : List ℕ) : Type 0 where
  pub delivered : (place : ℕ) (n : Repeater) → get_elem? nodes place ≡ some n → place ≢ failed → LetsIn (fresh_header settings (length payload)) n
      → is_delivered settings.hop_limit (at lengths place) ≡ true
      → Delivered (remaining failed nodes) (fresh settings payload) receptions n payload (at lengths place - 1)
  pub not_delivered : ByNoOther hears (remaining failed nodes) (fresh settings payload) receptions
      → (place : ℕ) (n : Repeater) → get_elem? nodes place ≡ some n → place ≢ failed
      → is_delivered settings.hop_limit (at lengths place) ≡ false
      → (what : List ℕ) (count : ℕ) → ¬ Delivered (remaining failed nodes) (fresh settings payload) receptions n what count
