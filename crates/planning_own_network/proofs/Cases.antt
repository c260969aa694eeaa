-- The count in small networks, by computing. Assumes nothing.
use mathlib.Core.Path.{◌≡◌, refl, sym, ap}
use mathlib.Core.Logic.{inr}
use mathlib.Core.List.Memᴰ
use mathlib.Core.List.{List, [], ◌∷◌, map}
use Prim.Native.Nat.{ℕ, ◌+◌, ◌*◌}
use native.Mathlib.Omega.{arith}
use lib.ListN.{length}
use Rattle.octets.specs.Numbers.{◌gives◌, ◌or_else◌}
use Rattle.pdu.specs.Parts.{in_path, last_or}
use Rattle.bound.specs.Bound.{bound, series, terms, falling_product}
use Rattle.writing.specs.Writing.{header_bytes, path_bytes, encode}
use Rattle.lists.specs.Lists.{first_fault, fault_of, low_above_high}
use Rattle.decision.specs.Decision.{pass_fault}
use Rattle.node.specs.Answers.{node_fault}
use Rattle.origin.specs.Origination.{fresh_header, fresh}
use Rattle.flood.specs.Air.{Repeater, can_repeat, repeaters}
use Rattle.flood.specs.Flood.{total, keep}
use Rattle.flood.proofs.Repeaters.{repeaters_are}
use Rattle.coverage.specs.Cases.{next_in_line, written, two_ways}
use Rattle.coverage.specs.Cases.{report_asked, reading, repeater, two_ways_addresses}
use Rattle.coverage.specs.Delivery.{Roomy}
use Rattle.airtime.specs.Airtime.{air_from, air_of, air_bytes, air_by, air_bytes_by}
use Rattle.planning_own_network.specs.OwnNetwork.{counting, times, every_other}

pub in_line : let line : List ℕ = 1001 ∷ 1002 ∷ 1003 ∷ 1004 ∷ 1005 ∷ 1006 ∷ 1007 ∷ [] in
    (air_of next_in_line line 1000 0 ≡ 1) × (air_of next_in_line line 1000 3 ≡ 4) × (air_of next_in_line line 1000 6 ≡ 7) × (air_of next_in_line line 1000 7 ≡ 8)
    × (bound 7 6 ≡ 8660)
unfolding air_of air_from total terms in_path bound series falling_product
in_line = (refl, refl, refl, refl, refl)

pub two_ways_lem : let these : List ℕ = 1 ∷ 2 ∷ 4 ∷ 9 ∷ [] in
    (air_of two_ways these 1000 6 ≡ 6) × (air_of two_ways these 1000 1 ≡ 3) × (air_bytes two_ways these 1000 6 20 ≡ 138)
    × (air_by two_ways these 1000 6 9 ≡ 2) × (air_by two_ways these 1000 6 1 ≡ 1) × (air_by two_ways these 1000 6 1000 ≡ 1)
    × (air_bytes_by two_ways these 1000 6 20 9 ≡ 50)
unfolding air_of air_bytes air_by air_bytes_by air_from total terms in_path last_or written
two_ways_lem = (refl, refl, refl, refl, refl, refl, refl)

pub all_three : let these : List ℕ = 1 ∷ 2 ∷ 3 ∷ [] in
    (air_of every_other these 1000 2 ≡ 10) × (air_of every_other these 1000 6 ≡ 16) × (air_of every_other these 1000 7 ≡ 16)
unfolding air_of air_from total terms in_path
all_three = (refl, refl, refl)

-- what the theorem asks holds of W-208's run
pub six : times two_ways (map repeater two_ways_addresses) (report_asked 6) reading ≡ 6
unfolding air_of air_from total terms in_path written fresh_header repeaters keep can_repeat node_fault first_fault fault_of low_above_high pass_fault ◌gives◌ ◌or_else◌
six = refl

sixteen : length (fresh (report_asked 6) reading) + 2 * terms (length (counting two_ways (map repeater two_ways_addresses) (report_asked 6) reading)) 6 ≡ 16
unfolding terms fresh_header fresh encode header_bytes path_bytes repeaters keep can_repeat node_fault first_fault fault_of low_above_high pass_fault ◌gives◌ ◌or_else◌
sixteen = refl

pub roomy : Roomy (map repeater two_ways_addresses) (report_asked 6) reading
roomy =
    record {
      roomy = λ n m.
          let (a, a_in, is) = Memᴰ.of_map repeater two_ways_addresses (repeaters_are _ (map repeater two_ways_addresses) m).0 in
          let room : n.room ≡ 100 = ap (λ (r : Repeater). r.room) (sym is) in
          omega (arith, sixteen);
      path_fits = inr (omega arith);
    }
