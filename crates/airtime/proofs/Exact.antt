-- AND EXACTLY SO OFTEN where every node that hears a transmission takes it, and each that can repeat it lets it pass and has room. Assumes nothing.
use mathlib.Core.Path.{◌≡◌, ap, sym, ◌∙◌}
use mathlib.Core.Logic.{◌⊎◌}
use mathlib.Core.Bool.{Bool, cond}
use mathlib.Core.List.Memᴰ
use mathlib.Core.List.{List, [], map, Memᴰ}
use Prim.Native.Nat.{ℕ, ◌+◌, ◌*◌, ◌≤◌, ◌<◌}
use native.Mathlib.Omega.{arith}
use lib.Dec.{eqb}
use lib.ListN.{length, length-map}
use Rattle.pdu.specs.Header.{header_of, source_of}
use Rattle.pdu.specs.Parts.{last_or}
use Rattle.pdu.specs.Sizes.{path_limit}
use Rattle.bound.specs.Bound.{terms}
use Rattle.flood.specs.Air.{Repeater, address, sends, path_of, hop_of, on_the_air, bytes_on_the_air, repeaters, Nodes, Begins}
use Rattle.flood.specs.Flood.{Reception, total}
use Rattle.flood.proofs.Bounded.{flood_sound}
use Rattle.flood.proofs.Demand.{network}
use Rattle.flood.proofs.Lists.{no_more, total_map, total_one, total_same}
use Rattle.flood.proofs.Repeaters.{repeaters_differ}
use Rattle.flood.proofs.Sent.{Sound}
use Rattle.coverage.specs.Hearing.{sender_of, TakenByAll, ByNoOther}
use Rattle.coverage.proofs.Paths.{walk_sent}
use Rattle.airtime.specs.Airtime.{air_from, air_of, air_bytes, air_by, air_bytes_by, sent_by, bytes_sent_by}
use Rattle.airtime.proofs.Walks.{walks, total_walks, walked, nodup_walks}
use Rattle.airtime.proofs.Within.{weighed_within}

module _ (hears : ℕ → ℕ → Bool) (nodes : List Repeater) (all : Nodes nodes) (first : List ℕ) (begins : Begins first)
    (roomy : (n : Repeater) → Memᴰ n (repeaters (header_of first) nodes)
    → length first + 2 * terms (length (repeaters (header_of first) nodes)) (hop_of first) ≤ n.room)
    (fits : (length (repeaters (header_of first) nodes) ≤ path_limit) ⊎ (hop_of first < 7))
    (receptions : List Reception) (taken : TakenByAll hears nodes first receptions) where
  abbrev log : List (List ℕ)
  log = on_the_air nodes first receptions

  abbrev counted : List ℕ
  counted = map address (repeaters (header_of first) nodes)

  abbrev most : ℕ
  most = terms (length (repeaters (header_of first) nodes)) (hop_of first)

  same_most : terms (length counted) (hop_of first) ≡ most
  same_most = ap (λ (n : ℕ). terms n (hop_of first)) (length-map (repeaters (header_of first) nodes) address)

  -- no fewer
  pub weighed_least : (weight : List ℕ → ℕ)
      → air_from weight hears (map address (repeaters (header_of first) nodes)) (terms (length (map address (repeaters (header_of first) nodes))) (hop_of first))
      (source_of first) []
      ≤ total (λ t. weight (path_of t)) (on_the_air nodes first receptions)
  weighed_least weight =
      rw same_most
      (omega (
        arith,
        no_more weight (walks hears counted most (source_of first) []) (map path_of log)
            (nodup_walks hears counted (repeaters_differ (header_of first) nodes all.addresses_differ) most (source_of first) [])
            (λ q k.
            let b = walked hears counted most (source_of first) [] k in
            Memᴰ.cast b.is
            (walk_sent hears nodes all first begins receptions roomy fits taken b.walk b.short)),
        total_map path_of weight log,
        total_walks hears counted weight most (source_of first) [],
      ))

  pub air_least : air_of hears (map address (repeaters (header_of first) nodes)) (source_of first) (hop_of first) ≤ length (on_the_air nodes first receptions)
  unfolding air_of
  air_least = omega (arith, weighed_least (λ p. 1), total_one log)

  -- and no more, where no node takes what it does not hear
  module _ (only : ByNoOther hears nodes first receptions) where
    pub weighed_exact : (weight : List ℕ → ℕ)
        → total (λ t. weight (path_of t)) (on_the_air nodes first receptions)
        ≡ air_from weight hears (map address (repeaters (header_of first) nodes)) (terms (length (map address (repeaters (header_of first) nodes))) (hop_of first))
        (source_of first) []
    weighed_exact weight =
        let above = weighed_within hears nodes all first begins receptions taken.once only weight in
        let below = weighed_least weight in
        omega arith

    pub air_exact : length (on_the_air nodes first receptions) ≡ air_of hears (map address (repeaters (header_of first) nodes)) (source_of first) (hop_of first)
    unfolding air_of
    air_exact = sym (total_one log) ∙ weighed_exact (λ p. 1)

    pub bytes_exact : bytes_on_the_air nodes first receptions
        ≡ air_bytes hears (map address (repeaters (header_of first) nodes)) (source_of first) (hop_of first) (length first)
    unfolding air_bytes
    bytes_exact =
        total_same length (λ t. length first + 2 * length (path_of t)) log
        (λ t k. (flood_sound sends address (source_of first) (Sound first) path_of hop_of nodes first (network nodes all first begins) receptions
        taken.once t k).longer)
        ∙ weighed_exact (λ p. length first + 2 * length p)

    sound : (t : List ℕ) → Memᴰ t log → Sound first t
    sound =
        flood_sound sends address (source_of first) (Sound first) path_of hop_of nodes first (network nodes all first begins) receptions taken.once

    pub by_exact : (node : ℕ)
        → sent_by node (on_the_air nodes first receptions)
        ≡ air_by hears (map address (repeaters (header_of first) nodes)) (source_of first) (hop_of first) node
    unfolding sent_by air_by
    by_exact node =
        total_same (λ t. cond (eqb (sender_of t) node) 1 0) (λ t. cond (eqb (last_or (source_of first) (path_of t)) node) 1 0) log
        (λ t k. ap (λ (a : ℕ). cond (eqb (last_or a (path_of t)) node) 1 0) (sound t k).same_source)
        ∙ weighed_exact (λ p. cond (eqb (last_or (source_of first) p) node) 1 0)

    pub bytes_by_exact : (node : ℕ)
        → bytes_sent_by node (on_the_air nodes first receptions)
        ≡ air_bytes_by hears (map address (repeaters (header_of first) nodes)) (source_of first) (hop_of first) (length first) node
    unfolding bytes_sent_by air_bytes_by
    bytes_by_exact node =
        total_same (λ t. cond (eqb (sender_of t) node) (length t) 0)
        (λ t. cond (eqb (last_or (source_of first) (path_of t)) node) (length first + 2 * length (path_of t)) 0) log
        (λ t k. (λ i. cond (eqb (last_or ((sound t k).same_source i) (path_of t)) node) ((sound t k).longer i) 0))
        ∙ weighed_exact (λ p. cond (eqb (last_or (source_of first) p) node) (length first + 2 * length p) 0)
