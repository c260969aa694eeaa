-- DEMAND 3, over any nodes that keep to the rules: how often a fresh message is sent in all. Assumes nothing.
use mathlib.Core.Path.{◌≡◌, sym, ap}
use mathlib.Core.Logic.{by_cases}
use mathlib.Core.Option.{Option}
use mathlib.Core.List.Memᴰ
use mathlib.Core.List.{List, [], ◌∷◌, map, Memᴰ, Nodup}
use Prim.Native.Nat.{ℕ, ◌+◌, ◌*◌, ◌≤◌}
use native.Mathlib.Decide.{ℕ_discrete}
use native.Mathlib.Omega.{arith}
use lib.ListN.{length, length-map}
use Rattle.bound.specs.Bound.{bound, series, terms}
use Rattle.bound.proofs.Series.{terms_seven, terms_below}
use Rattle.flood.specs.Flood.{Reception, flood, total, others, Bounded}
use Rattle.flood.proofs.Arrangements.{arrangements, arranged, total_arrangements}
use Rattle.flood.proofs.Invariant.{Invariant, flooded}
use Rattle.flood.proofs.Lists.{no_longer, no_more, total_map, total_one, total_same}
use Rattle.flood.proofs.Network.{Network}

module _ {Node Message : Type 0} (repeats : Node → Message → Option Message) (own : Node → ℕ) (source : ℕ)
    (Sound : Message → Type 0) (path : Message → List ℕ) (hop : Message → ℕ)
    (nodes : List Node) (first : Message) (net : Network repeats own source Sound path hop nodes first) where
  -- the nodes that count
  abbrev counting : List Node
  counting = others own source nodes

  module _ (heard : List Reception) (log : List Message) (inv : Invariant repeats own source Sound path hop nodes first heard log) where
    length_path : (t : Message) → Memᴰ t log → length (path t) ≤ length counting
    length_path t m = omega (arith, length-map counting own, no_longer (path t) (map own counting) (inv.each t m).differ (inv.each t m).known)

    fits : (t : Message) → Memᴰ t log → length (path t) ≤ terms (length counting) (hop first)
    fits t m =
        by_cases (ℕ_discrete (hop first) 7)
        (λ e. omega (arith, length_path t m, terms_seven (length counting) (hop first) e))
        (λ ne.
        let low = net.hop_fits in
        omega (arith, length_path t m, terms_below (length counting) (hop first) ne, (inv.each t m).steps (omega arith)))

    inside : (p : List ℕ) → Memᴰ p (map path log) → Memᴰ p (arrangements (terms (length counting) (hop first)) (map own counting))
    inside p k =
        let (t, t-in, e) = Memᴰ.of_map path log k in
        let f = inv.each t t-in in
        Memᴰ.cast {b = path t} (sym e) (arranged (terms (length counting) (hop first)) (path t) (map own counting) f.differ f.known (fits t t-in))

    weighed : (weight : ℕ → ℕ) → total (λ t. weight (length (path t))) log ≤ series weight (length counting) (terms (length counting) (hop first))
    weighed weight =
        let m = terms (length counting) (hop first) in
        omega (
          arith,
          no_more (λ p. weight (length p)) (map path log) (arrangements m (map own counting)) inv.all_differ inside,
          total_map path (λ p. weight (length p)) log,
          total_arrangements weight m (map own counting),
          ap (λ (n : ℕ). series weight n m) (length-map counting own),
        )

    bounded : Bounded own path counting (hop first) log
    unfolding bound
    bounded =
        record {
          paths_differ = inv.all_differ;
          nodes_differ = λ t m. (inv.each t m).differ;
          nodes_known = λ t m. (inv.each t m).known;
          path_short = λ low t m. omega (arith, (inv.each t m).steps low);
          few = omega (arith, weighed (λ k. 1), total_one log);
        }

  -- Any schedule with no reception twice.
  module _ (receptions : List Reception) (once : Nodup receptions) where
    pub flood_sound : (t : Message) → Memᴰ t (flood repeats nodes (first ∷ []) receptions) → Sound t
    flood_sound t m = ((flooded repeats own source Sound path hop nodes first net receptions once).1.each t m).is_sound

    pub flood_bounded : Bounded own path (others own source nodes) (hop first) (flood repeats nodes (first ∷ []) receptions)
    flood_bounded = let (heard, inv, among) = flooded repeats own source Sound path hop nodes first net receptions once in bounded heard _ inv

    -- the bytes on the air, where each transmission is longer than the first by 2 bytes for each entry of its path
    pub bytes_by_paths : (size : Message → ℕ) → ((t : Message) → Sound t → size t ≡ size first + 2 * length (path t))
        → total size (flood repeats nodes (first ∷ []) receptions)
        ≡ total (λ t. size first + 2 * length (path t)) (flood repeats nodes (first ∷ []) receptions)
    bytes_by_paths size sized = total_same size _ _ (λ t m. sized t (flood_sound t m))
