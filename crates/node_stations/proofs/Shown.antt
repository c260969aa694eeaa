-- What the PDUs heard from a station show of it, none, the first and one more; and what a table tells of each address.
use Prim.Native.Nat.{ℕ, suc, ◌+◌, min}
use native.Mathlib.Omega.{arith}
use mathlib.Core.Bool.{Bool, true, false, cond, not, ◌||◌}
use mathlib.Core.List.{List, [], ◌∷◌}
use mathlib.Core.Path.{◌≡◌, refl, ap, sym, ◌∙◌}
use lib.Dec.{eqb}
use lib.ListN.{length}
use borrow.Author.Tests.{ne_eqb}
use Rattle.octets.specs.Octets.{at}
use Rattle.stations.specs.declared.Station.{Station}
use Rattle.stations.specs.Table.{table_in, addresses, new_station, is_held}
use Rattle.stations.specs.Asking.{found_if, station_of}
use Rattle.stations_update.specs.declared.Heard.{Heard}
use Rattle.stations_update.specs.Counting.{counted, one_more}
use Rattle.node_stations.specs.History.{shown_by, Rises, echoes_of, path_counts, least_of}
use Rattle.stations.specs.declared.Found.{Found}

abbrev pub found : Station → Found
found station = record { number = 0; station = station }

-- one PDU more
has_more : (counts : List ℕ) (bit : Bool) (count : ℕ)
    → (not (eqb (length counts) 0) || bit) ≡ not (eqb (length (cond bit (count ∷ counts) counts)) 0)
has_more counts true count = go (not (eqb (length counts) 0))
  where
    go : (t : Bool) → (t || true) ≡ not (eqb (suc (length counts)) 0)
    go true = rw (ne_eqb (suc (length counts)) 0 (λ z. omega arith))
    go false = rw (ne_eqb (suc (length counts)) 0 (λ z. omega arith))
has_more counts false count = go (not (eqb (length counts) 0))
  where
    go : (t : Bool) → (t || false) ≡ t
    go true = refl
    go false = refl

shortest_more : (counts : List ℕ) (bit : Bool) (count : ℕ)
    → cond bit (cond (not (eqb (length counts) 0)) (min (least_of counts) count) count) (least_of counts) ≡ least_of (cond bit (count ∷ counts) counts)
unfolding least_of
shortest_more [] true count = refl
shortest_more (other ∷ others) true count = rw (ne_eqb (suc (length others)) 0 (λ z. omega arith)) (omega arith)
shortest_more counts false count = refl

echoes_more : (echo : Bool) (count : ℕ) → cond echo (one_more (min count 65535)) (min count 65535) ≡ min (cond echo (count + 1) count) 65535
echoes_more true count = omega arith
echoes_more false count = refl

-- what many PDUs show, once there is one more
pub shown_more : (address : ℕ) (heard : Heard) (before : List Heard) (station : Station) → shown_by address before ≡ found station
    → found (counted heard station) ≡ shown_by address (heard ∷ before)
unfolding counted echoes_of path_counts
shown_more address heard [] station e = let n : ◌≡◌ {A = ℕ} 56 0 = ap (λ (f : Found). f.number) e in absurd (omega arith)
shown_more address heard (first ∷ others) station e =
    let before = first ∷ others in
    let counts = path_counts before in
    let reads : one_more (min (length before) 65535) ≡ min (length (heard ∷ before)) 65535 = omega arith in
    ap (λ (f : Found). found (counted heard f.station)) (sym e)
    ∙ (λ i. record {
      number = 0;
      station = record {
        address = address;
        reads = reads i;
        echoes = echoes_more heard.echo (echoes_of before) i;
        has_path = has_more counts heard.path_bit heard.path_count i;
        shortest_path = shortest_more counts heard.path_bit heard.path_count i;
      };
    })

-- and of a station's first PDU
pub shown_first : (address : ℕ) (heard : Heard) → found (counted heard (new_station address)) ≡ shown_by address (heard ∷ [])
unfolding counted echoes_of path_counts least_of
shown_first address heard = go heard.echo heard.path_bit
  where
    go : (echo bit : Bool)
        → ◌≡◌ {A = Found}
        (record {
          number = 0;
          station = record {
            address = address;
            reads = 1;
            echoes = cond echo 1 0;
            has_path = bit;
            shortest_path = cond bit heard.path_count 0;
          };
        })
        (record {
          number = 0;
          station = record {
            address = address;
            reads = 1;
            echoes = min (cond echo 1 0) 65535;
            has_path = not (eqb (length (cond bit (heard.path_count ∷ []) [])) 0);
            shortest_path = least_of (cond bit (heard.path_count ∷ []) []);
          };
        })
    go true true = refl
    go true false = refl
    go false true = refl
    go false false = refl

-- where nothing is shown, nothing was heard
pub shown_none : (address : ℕ) (heards : List Heard) → found_if false [] 0 ≡ shown_by address heards → heards ≡ []
shown_none address [] e = refl
shown_none address (heard ∷ others) e = let n : ◌≡◌ {A = ℕ} 56 0 = ap (λ (f : Found). f.number) e in absurd (omega arith)

-- an address that is not held is not shown
pub not_shown : (address : ℕ) (table : List Station) → is_held address (addresses table) ≡ false → station_of address table ≡ found_if false [] 0
unfolding station_of
not_shown address table e = rw e

-- what a table shows, by a list of PDUs for each address
pub record Told (memory : List ℕ) (heards : ℕ → List Heard) : Type 0 where
  pub says : at memory 0 ≡ length (table_in memory)
  pub rises : Rises (addresses (table_in memory))
  pub told : (address : ℕ) → station_of address (table_in memory) ≡ shown_by address (heards address)
