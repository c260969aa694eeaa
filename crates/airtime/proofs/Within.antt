-- HOW OFTEN A REPORT GOES OUT where it is known who hears whom: any receptions that keep to it, none twice, make no more transmissions than there are
-- paths of hearings from the originator. Assumes nothing.
use mathlib.Core.Path.{ap, sym}
use mathlib.Core.Bool.{Bool, cond}
use mathlib.Core.List.Memᴰ
use mathlib.Core.List.{List, [], map, Memᴰ, Nodup}
use Prim.Native.Nat.{ℕ, ◌+◌, ◌*◌, ◌≤◌}
use native.Mathlib.Omega.{arith}
use lib.Dec.{eqb}
use lib.ListN.{length}
use Rattle.pdu.specs.Header.{header_of, source_of}
use Rattle.pdu.specs.Parts.{last_or}
use Rattle.bound.specs.Bound.{terms}
use Rattle.flood.specs.Air.{Repeater, address, path_of, hop_of, on_the_air, bytes_on_the_air, repeaters, Nodes, Begins}
use Rattle.flood.specs.Flood.{Reception, total}
use Rattle.flood.proofs.Sent.{Sound}
use Rattle.flood.proofs.Lists.{no_more, total_map, total_one, total_same}
use Rattle.coverage.specs.Hearing.{sender_of, ByNoOther}
use Rattle.coverage.proofs.Paths.{facts, fact, path_short, path_walk}
use Rattle.airtime.specs.Airtime.{air_from, air_of, air_bytes, air_by, air_bytes_by, sent_by, bytes_sent_by}
use Rattle.airtime.proofs.Walks.{walks, total_walks, listed}

module _ (hears : ℕ → ℕ → Bool) (nodes : List Repeater) (all : Nodes nodes) (first : List ℕ) (begins : Begins first)
    (receptions : List Reception) (once : Nodup receptions) where
  abbrev log : List (List ℕ)
  log = on_the_air nodes first receptions

  abbrev counted : List ℕ
  counted = map address (repeaters (header_of first) nodes)

  sound : (t : List ℕ) → Memᴰ t log → Sound first t
  sound t m = (fact hears nodes all first begins receptions once t m).is_sound.named.sound

  module _ (only : ByNoOther hears nodes first receptions) where
    -- every path on the air is a walk, so that they add up to no more than these
    pub weighed_within : (weight : List ℕ → ℕ)
        → total (λ t. weight (path_of t)) (on_the_air nodes first receptions)
        ≤ air_from weight hears (map address (repeaters (header_of first) nodes)) (terms (length (map address (repeaters (header_of first) nodes))) (hop_of first))
        (source_of first) []
    weighed_within weight =
        let m = terms (length counted) (hop_of first) in
        omega (
          arith,
          no_more weight (map path_of log) (walks hears counted m (source_of first) []) (facts hears nodes all first begins receptions once).1.all_differ
              (λ p k.
              let (t, t-in, e) = Memᴰ.of_map path_of log k in
              Memᴰ.cast {b = path_of t} (sym e) (listed hears counted m (source_of first) []
              (path_walk hears nodes all first begins receptions once only t t-in) (path_short hears nodes all first begins receptions once t t-in))),
          total_map path_of weight log,
          total_walks hears counted weight m (source_of first) [],
        )

    pub air_within : length (on_the_air nodes first receptions)
        ≤ air_of hears (map address (repeaters (header_of first) nodes)) (source_of first) (hop_of first)
    unfolding air_of
    air_within = omega (arith, weighed_within (λ p. 1), total_one log)

    pub bytes_within : bytes_on_the_air nodes first receptions
        ≤ air_bytes hears (map address (repeaters (header_of first) nodes)) (source_of first) (hop_of first) (length first)
    unfolding air_bytes
    bytes_within =
        omega (
          arith,
          weighed_within (λ p. length first + 2 * length p),
          total_same length (λ t. length first + 2 * length (path_of t)) log (λ t k. (sound t k).longer),
        )

    -- and each node makes no more than these
    pub by_within : (node : ℕ)
        → sent_by node (on_the_air nodes first receptions)
        ≤ air_by hears (map address (repeaters (header_of first) nodes)) (source_of first) (hop_of first) node
    unfolding sent_by air_by
    by_within node =
        omega (
          arith,
          weighed_within (λ p. cond (eqb (last_or (source_of first) p) node) 1 0),
          total_same (λ t. cond (eqb (sender_of t) node) 1 0) (λ t. cond (eqb (last_or (source_of first) (path_of t)) node) 1 0) log
              (λ t k. ap (λ (a : ℕ). cond (eqb (last_or a (path_of t)) node) 1 0) (sound t k).same_source),
        )

    pub bytes_by_within : (node : ℕ)
        → bytes_sent_by node (on_the_air nodes first receptions)
        ≤ air_bytes_by hears (map address (repeaters (header_of first) nodes)) (source_of first) (hop_of first) (length first) node
    unfolding bytes_sent_by air_bytes_by
    bytes_by_within node =
        omega (
          arith,
          weighed_within (λ p. cond (eqb (last_or (source_of first) p) node) (length first + 2 * length p) 0),
          total_same (λ t. cond (eqb (sender_of t) node) (length t) 0)
              (λ t. cond (eqb (last_or (source_of first) (path_of t)) node) (length first + 2 * length (path_of t)) 0) log
              (λ t k.
              let s = sound t k in
              (λ i. cond (eqb (last_or (s.same_source i) (path_of t)) node) (s.longer i) 0)),
        )
