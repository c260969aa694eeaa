-- DEMAND 3, over demand 2's rules: how often a PDU that begins a flood goes out on the air among the nodes, and how many bytes that is. The nodes that
-- count are those that can repeat it. Assumes nothing.
use mathlib.Core.Path.{◌≡◌, refl, ap, sym, subst, ◌∙◌}
use mathlib.Core.Logic.{by_cases, ⊎_elim}
use mathlib.Core.Option.{some}
use mathlib.Core.List.Memᴰ
use mathlib.Core.List.{List, [], ◌∷◌, map, Memᴰ}
use mathlib.Core.List.{Nodup}
use Prim.Native.Nat.{ℕ, ◌+◌, ◌*◌, ◌≤◌}
use native.Mathlib.Decide.{ℕ_discrete}
use native.Mathlib.Omega.{arith}
use lib.Dec.{eqb}
use lib.ListN.{length, length-map}
use Rattle.pdu.specs.declared.Header.{Header}
use Rattle.pdu.specs.declared.Destination.{Destination}
use Rattle.pdu.specs.declared.Destination.TheVariants.{Everyone, Address}
use Rattle.pdu.specs.Header.{header_of, source_of}
use Rattle.pdu.proofs.Inversion.{shown}
use Rattle.bound.specs.Bound.{bound, bytes_bound, series, terms}
use Rattle.bound.proofs.Series.{terms_seven, terms_below}
use Rattle.origin.specs.declared.FreshSettings.{FreshSettings}
use Rattle.origin.specs.Origination.{fresh_header, fresh}
use Rattle.decision.specs.Decision.{is_for_own}
use Rattle.decision.proofs.Dropping.{passed}
use Rattle.node.proofs.Heard.{repeats}
use Rattle.flood.specs.Air.{Repeater, address, sends, path_of, hop_of, on_the_air, bytes_on_the_air, repeaters}
use Rattle.flood.specs.Air.{Nodes, Begins, Originated}
use Rattle.flood.specs.Flood.{Reception, total, others, Bounded}
use Rattle.flood.proofs.Arrangements.{arrangements, arranged, total_arrangements}
use Rattle.flood.proofs.Bounded.{flood_sound, flood_bounded, bytes_by_paths}
use Rattle.flood.proofs.Demand.{network}
use Rattle.flood.proofs.Fresh.{originated_begins, fresh_hop, fresh_shows}
use Rattle.flood.proofs.Lists.{no_longer, no_more, total_map, total_one}
use Rattle.flood.proofs.Network.{Network}
use Rattle.flood.proofs.Repeaters.{Can, same_pass, step_six, are_repeaters}
use Rattle.flood.proofs.Sent.{Sound, sent_is, node_lawful}

-- a transmission whose path names only nodes of a list
pub record Named (first : List ℕ) (counted : List ℕ) (sent : List ℕ) : Type 0 where
  pub sound : Sound first sent
  pub named : (a : ℕ) → Memᴰ a (path_of sent) → Memᴰ a counted

module _ (nodes : List Repeater) (all : Nodes nodes) (first : List ℕ) (begins : Begins first) where
  abbrev those : List Repeater
  those = repeaters (header_of first) nodes

  is_counted : (n : Repeater) → Memᴰ n nodes → (received sent : List ℕ) → Sound first received → sends n received ≡ some sent
      → Memᴰ (address n) (map address those)
  is_counted n m received sent sound e =
      let (is, zero) = sent_is n received sent e in
      let r = repeats n.node n.room received zero in
      let header = (shown received r.header r.read).is in
      let from : r.header.source ≡ (header_of first).source = ap (λ (h : Header). h.source) header ∙ sound.same_source in
      let to : r.header.destination ≡ (header_of first).destination = ap (λ (h : Header). h.destination) header ∙ sound.same_place in
      let (another, on) = step_six n r.header r.repeats in
      let can : Can (header_of first) n =
      record {
        clean = r.clean;
        not_source = (node_lawful first n (all.addresses_fit n m) (all.echo_on n m) received sent sound e).1.not_own;
        lets_pass = same_pass n.node (header_of first) r.header (sym from) (sym to) ∙ (passed n.node r.header received r.passes).2;
        for_another = ap (λ (d : Destination). is_for_own (address n) d) (sym to) ∙ another;
        repeating_on = on;
      } in
      Memᴰ.map address (are_repeaters (header_of first) nodes m can)

  pub named_network : Network sends address (source_of first) (Named first (map address (repeaters (header_of first) nodes))) path_of hop_of nodes first
  named_network =
      let before = network nodes all first begins in
      record {
        addresses_differ = before.addresses_differ;
        lawful = λ n m received sent s e.
            let (sound, keeps) = node_lawful first n (all.addresses_fit n m) (all.echo_on n m) received sent s.sound e in (
              record {
                sound = sound;
                named = λ a k. ⊎_elim (s.named a)
                    (λ l. Memᴰ.cast (Memᴰ.eq_of_singleton l) (is_counted n m received sent s.sound e))
                    (Memᴰ.append_cases (path_of received) (subst (λ (p : List ℕ). Memᴰ a p) keeps.grown k));
              },
              keeps,
            );
        first_sound = record {
          sound = before.first_sound;
          named = λ a k. absurd (Memᴰ.not-nil (subst (λ (p : List ℕ). Memᴰ a p) begins.path_empty k));
        };
        fresh = before.fresh;
        hop_fits = before.hop_fits;
      }

  -- Whatever node hears whatever transmission, in whatever order, each at most once.
  module _ (receptions : List Reception) (once : Nodup receptions) where
    abbrev on_air : List (List ℕ)
    on_air = on_the_air nodes first receptions

    by_others : Bounded address path_of (others address (source_of first) nodes) (hop_of first) on_air
    by_others = flood_bounded sends address (source_of first) (Named first (map address those)) path_of hop_of nodes first named_network receptions once

    all_named : (t : List ℕ) → Memᴰ t on_air → Named first (map address those) t
    all_named = flood_sound sends address (source_of first) (Named first (map address those)) path_of hop_of nodes first named_network receptions once

    abbrev longest_path : ℕ
    longest_path = terms (length those) (hop_of first)

    path_few : (t : List ℕ) → Memᴰ t on_air → length (path_of t) ≤ length those
    path_few t k =
        omega (arith, length-map those address, no_longer (path_of t) (map address those) (by_others.nodes_differ t k) (all_named t k).named)

    path_fits : (t : List ℕ) → Memᴰ t on_air → length (path_of t) ≤ longest_path
    path_fits t k =
        by_cases (ℕ_discrete (hop_of first) 7)
        (λ e. omega (arith, path_few t k, terms_seven (length those) (hop_of first) e))
        (λ ne.
        let low = named_network.hop_fits in
        omega (arith, path_few t k, terms_below (length those) (hop_of first) ne, by_others.path_short (omega arith) t k))

    -- the transmissions add up to no more than the series, by any weight that goes by the path's length
    pub no_more_than : (weight : ℕ → ℕ)
        → total (λ t. weight (length (path_of t))) (on_the_air nodes first receptions)
        ≤ series weight (length (repeaters (header_of first) nodes))
        (terms (length (repeaters (header_of first) nodes)) (hop_of first))
    no_more_than weight =
        omega (
          arith,
          no_more (λ p. weight (length p)) (map path_of on_air) (arrangements longest_path (map address those)) by_others.paths_differ
              (λ p k.
              let (t, t-in, e) = Memᴰ.of_map path_of on_air k in
              Memᴰ.cast {b = path_of t} (sym e)
              (arranged longest_path (path_of t) (map address those) (by_others.nodes_differ t t-in) (all_named t t-in).named (path_fits t t-in))),
          total_map path_of (λ p. weight (length p)) on_air,
          total_arrangements weight longest_path (map address those),
          ap (λ (n : ℕ). series weight n longest_path) (length-map those address),
        )

    pub begun_bounded : Bounded address path_of (repeaters (header_of first) nodes) (hop_of first)
        (on_the_air nodes first receptions)
    unfolding bound
    begun_bounded =
        record {
          paths_differ = by_others.paths_differ;
          nodes_differ = by_others.nodes_differ;
          nodes_known = λ t k. (all_named t k).named;
          path_short = by_others.path_short;
          few = omega (arith, no_more_than (λ k. 1), total_one on_air);
        }

    pub begun_lengths : bytes_on_the_air nodes first receptions
        ≡ total (λ t. length first + 2 * length (path_of t)) (on_the_air nodes first receptions)
    begun_lengths =
        bytes_by_paths sends address (source_of first) (Named first (map address those)) path_of hop_of nodes first named_network receptions once length
        (λ t s. s.sound.longer)

    pub begun_bytes : bytes_on_the_air nodes first receptions
        ≤ bytes_bound (length (repeaters (header_of first) nodes)) (hop_of first) (length first)
    unfolding bytes_bound
    begun_bytes = omega (arith, no_more_than (λ k. length first + 2 * k), begun_lengths)

-- Any message that origination takes with the path bit. The hop limit h is the hop setting that origination was given.
module _ (nodes : List Repeater) (all : Nodes nodes) (settings : FreshSettings) (payload : List ℕ) (room : ℕ)
    (message : Originated settings payload room) where
  pub same_count : repeaters (header_of (fresh settings payload)) nodes
      ≡ repeaters (fresh_header settings (length payload)) nodes
  same_count = ap (λ (h : Header). repeaters h nodes) (sym (fresh_shows settings payload room message))

  module _ (receptions : List Reception) (once : Nodup receptions) where
    pub demand_3 : Bounded address path_of (repeaters (fresh_header settings (length payload)) nodes) settings.hop_limit
        (on_the_air nodes (fresh settings payload) receptions)
    demand_3 =
        subst (λ (h : ℕ). Bounded address path_of (repeaters (fresh_header settings (length payload)) nodes) h
        (on_the_air nodes (fresh settings payload) receptions)) (fresh_hop settings payload room message)
        (subst (λ (counted : List Repeater). Bounded address path_of counted (hop_of (fresh settings payload))
        (on_the_air nodes (fresh settings payload) receptions)) same_count
        (begun_bounded nodes all (fresh settings payload) (originated_begins settings payload room message) receptions once))

    pub demand_3_bytes : bytes_on_the_air nodes (fresh settings payload) receptions
        ≤ bytes_bound (length (repeaters (fresh_header settings (length payload)) nodes)) settings.hop_limit (length (fresh settings payload))
    demand_3_bytes =
        let as-set : bytes_bound (length (repeaters (header_of (fresh settings payload)) nodes))
        (hop_of (fresh settings payload)) (length (fresh settings payload))
        ≡ bytes_bound (length (repeaters (fresh_header settings (length payload)) nodes)) settings.hop_limit (length (fresh settings payload)) =
        λ i. bytes_bound (length (same_count i)) (fresh_hop settings payload room message i) (length (fresh settings payload)) in
        subst (λ (most : ℕ). bytes_on_the_air nodes (fresh settings payload) receptions ≤ most) as-set
        (begun_bytes nodes all (fresh settings payload) (originated_begins settings payload room message) receptions once)
