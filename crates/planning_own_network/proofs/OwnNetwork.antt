-- How often one message goes out on its network, of a message that origination wrote: the record, from its parts. Assumes nothing.
use mathlib.Core.Path.{◌≡◌, refl, sym, ap, subst, ◌∙◌}
use mathlib.Core.Bool.{Bool, true, false, cond}
use mathlib.Core.Logic.{◌⊎◌, by_cases}
use mathlib.Core.Option.{some}
use mathlib.Core.List.{List, map, Memᴰ, Nodup}
use Prim.Native.Nat.{ℕ, ◌+◌, ◌*◌, ◌≤◌, ◌<◌, min}
use native.Mathlib.Decide.{ℕ_discrete}
use native.Mathlib.Omega.{arith}
use borrow.Author.Tests.{lt-ltb, le-ltb}
use lib.Dec.{eqb}
use lib.ListN.{length, get_elem?, length-map}
use Rattle.octets.specs.Octets.{at}
use Rattle.pdu.specs.Header.{header_of, source_of}
use Rattle.pdu.specs.Parts.{last_or}
use Rattle.pdu.specs.Sizes.{path_limit}
use Rattle.bound.specs.Bound.{terms}
use Rattle.bound.proofs.Series.{terms_seven, terms_below}
use Rattle.chains.specs.Lengths.{node_limit}
use Rattle.ways.specs.declared.Airtime.{Airtime}
use Rattle.ways.specs.declared.Airtime.TheVariants.{Exactly, Enough}
use Rattle.ways.specs.Answer.{up_to, is_served, whether, ways, ways_answer, Counts}
use Rattle.ways.specs.Ways.{of_all}
use Rattle.ways.proofs.Answers.{Serves, below_enough, not_below}
use Rattle.origin.specs.declared.FreshSettings.{FreshSettings}
use Rattle.origin.specs.Origination.{fresh_header, fresh}
use Rattle.origin.proofs.Deciding.{accepted}
use Rattle.flood.specs.Air.{Repeater, address, on_the_air, bytes_on_the_air, repeaters, hop_of, Nodes, Begins, Originated}
use Rattle.flood.specs.Flood.{Reception}
use Rattle.flood.proofs.Counting.{same_count}
use Rattle.flood.proofs.Fresh.{originated_begins, fresh_source, fresh_hop}
use Rattle.flood.proofs.Lists.{no_longer}
use Rattle.coverage.specs.Hearing.{TakenByAll, ByNoOther}
use Rattle.coverage.specs.Delivery.{Roomy}
use Rattle.coverage.specs.Marks.{MarksSay}
use Rattle.coverage.specs.ByLengths.{Says}
use Rattle.coverage.specs.Cases.{report_asked, reading, repeater, two_ways, two_ways_addresses, longer_first}
use Rattle.coverage.proofs.Cases.{two_ways_planned, two_ways_taken}
use Rattle.coverage.proofs.Schedule.{taken_exists, at_within}
use Rattle.airtime.specs.Airtime.{air_over, air_of, air_bytes, air_by, air_bytes_by, sent_by, bytes_sent_by}
use Rattle.airtime.proofs.Exact.{air_exact, bytes_exact, by_exact, bytes_by_exact}
use Rattle.airtime.proofs.Same.{air_more}
use Rattle.airtime.proofs.Told.{times_told, bytes_told, times_by_told, bytes_by_told}
use Rattle.airtime.proofs.Within.{air_within, bytes_within, by_within, bytes_by_within}
use Rattle.airtime.proofs.Worst.{air_below, bytes_below, air_all, bytes_all}
use Rattle.boundary.specs.Boundary.{airtime_in_c}
use Rattle.planning_own_network.specs.OwnNetwork.{times, octets, times_by, octets_by, OwnNetwork}
use Rattle.planning_own_network.proofs.Cases as cases

module _ (hears : ℕ → ℕ → Bool) (nodes : List Repeater) (all : Nodes nodes) (settings : FreshSettings) (payload : List ℕ) (room : ℕ)
    (message : Originated settings payload room) where
  abbrev first : List ℕ
  first = fresh settings payload

  begins : Begins first
  begins = originated_begins settings payload room message

  from : source_of first ≡ settings.source
  from = fresh_source settings payload room message

  hop : hop_of first ≡ settings.hop_limit
  hop = fresh_hop settings payload room message

  same_nodes : repeaters (header_of first) nodes ≡ repeaters (fresh_header settings (length payload)) nodes
  same_nodes = same_count nodes all settings payload room message

  same_times : air_of hears (map address (repeaters (header_of first) nodes)) (source_of first) (hop_of first) ≡ times hears nodes settings payload
  same_times = λ i. air_of hears (map address (same_nodes i)) (from i) (hop i)

  same_octets : air_bytes hears (map address (repeaters (header_of first) nodes)) (source_of first) (hop_of first) (length first)
      ≡ octets hears nodes settings payload
  same_octets = λ i. air_bytes hears (map address (same_nodes i)) (from i) (hop i) (length first)

  same_by : (node : ℕ) → air_by hears (map address (repeaters (header_of first) nodes)) (source_of first) (hop_of first) node
      ≡ times_by hears nodes settings payload node
  same_by node = λ i. air_by hears (map address (same_nodes i)) (from i) (hop i) node

  same_bytes_by : (node : ℕ) → air_bytes_by hears (map address (repeaters (header_of first) nodes)) (source_of first) (hop_of first) (length first) node
      ≡ octets_by hears nodes settings payload node
  same_bytes_by node = λ i. air_bytes_by hears (map address (same_nodes i)) (from i) (hop i) (length first) node

  within : (receptions : List Reception) → Nodup receptions → ByNoOther hears nodes (fresh settings payload) receptions
      → (length (on_the_air nodes (fresh settings payload) receptions) ≤ times hears nodes settings payload)
      × (bytes_on_the_air nodes (fresh settings payload) receptions ≤ octets hears nodes settings payload)
      × ((node : ℕ) → (sent_by node (on_the_air nodes (fresh settings payload) receptions) ≤ times_by hears nodes settings payload node)
      × (bytes_sent_by node (on_the_air nodes (fresh settings payload) receptions) ≤ octets_by hears nodes settings payload node))
  within receptions once only = (
    subst (λ (n : ℕ). length (on_the_air nodes first receptions) ≤ n) same_times (air_within hears nodes all first begins receptions once only),
    subst (λ (n : ℕ). bytes_on_the_air nodes first receptions ≤ n) same_octets (bytes_within hears nodes all first begins receptions once only),
    λ node. (
      subst (λ (n : ℕ). sent_by node (on_the_air nodes first receptions) ≤ n) (same_by node)
          (by_within hears nodes all first begins receptions once only node),
      subst (λ (n : ℕ). bytes_sent_by node (on_the_air nodes first receptions) ≤ n) (same_bytes_by node)
          (bytes_by_within hears nodes all first begins receptions once only node),
    ),
  )

  module _ (each : Roomy nodes settings payload) where
    roomy : (n : Repeater) → Memᴰ n (repeaters (header_of first) nodes)
        → length first + 2 * terms (length (repeaters (header_of first) nodes)) (hop_of first) ≤ n.room
    roomy n m =
        subst (λ (k : ℕ). length first + 2 * k ≤ n.room) (sym (λ i. terms (length (same_nodes i)) (hop i)))
        (each.roomy n (subst (λ (l : List Repeater). Memᴰ n l) same_nodes m))

    fits : (length (repeaters (header_of first) nodes) ≤ path_limit) ⊎ (hop_of first < 7)
    fits =
        subst (λ (l : List Repeater). (length l ≤ path_limit) ⊎ (hop_of first < 7)) (sym same_nodes)
        (subst (λ (h : ℕ). (length (repeaters (fresh_header settings (length payload)) nodes) ≤ path_limit) ⊎ (h < 7)) (sym hop) each.path_fits)

    exact : (receptions : List Reception) → TakenByAll hears nodes (fresh settings payload) receptions
        → ByNoOther hears nodes (fresh settings payload) receptions
        → (length (on_the_air nodes (fresh settings payload) receptions) ≡ times hears nodes settings payload)
        × (bytes_on_the_air nodes (fresh settings payload) receptions ≡ octets hears nodes settings payload)
        × ((node : ℕ) → (sent_by node (on_the_air nodes (fresh settings payload) receptions) ≡ times_by hears nodes settings payload node)
        × (bytes_sent_by node (on_the_air nodes (fresh settings payload) receptions) ≡ octets_by hears nodes settings payload node))
    exact receptions taken only = (
      air_exact hears nodes all first begins roomy fits receptions taken only ∙ same_times,
      bytes_exact hears nodes all first begins roomy fits receptions taken only ∙ same_octets,
      λ node. (
        by_exact hears nodes all first begins roomy fits receptions taken only node ∙ same_by node,
        bytes_by_exact hears nodes all first begins roomy fits receptions taken only node ∙ same_bytes_by node,
      ),
    )

  -- what the functions return, told the network
  module _ (pairs : List ℕ) (says : Says pairs hears nodes) (few : length nodes ≤ node_limit) (marks : List ℕ)
      (marked : MarksSay marks (fresh_header settings (length payload)) nodes) (place : ℕ)
      (from_at : get_elem? (map address nodes) place ≡ some settings.source) (enough : ℕ) (counts table : List ℕ) (as_many : length counts ≡ length nodes)
      (long : length nodes * 256 ≤ length table) (answer : Airtime) (marksNow countsNow tableNow : List ℕ) where
    low : settings.hop_limit ≤ 7
    low = (accepted settings payload room message.taken).hop

    serves : Serves (length marks) place (length counts) (length table)
    serves =
        let inside = at_within (map address nodes) place from_at in
        let size = marked.size in
        record {
          few = omega arith;
          begins = omega (arith, length-map nodes address);
          places_are = as_many ∙ sym size;
          room_is = subst (λ (n : ℕ). n * 256 ≤ length table) (sym size) long;
        }

    told : Counts pairs marks place settings.hop_limit 1 0 enough counts table answer marksNow countsNow tableNow
        → (times hears nodes settings payload < enough → (answer ≡ Exactly (times hears nodes settings payload))
        × ((y : ℕ) → y < length nodes → at countsNow y ≡ times_by hears nodes settings payload (at (map address nodes) y)))
        × (enough ≤ times hears nodes settings payload → answer ≡ Enough)
    unfolding fresh_header
    told c =
        let is = times_told pairs hears nodes all says (fresh_header settings (length payload)) marks marked place from_at settings.hop_limit in
        let size = marked.size in (
          λ less.
              let (exactly, each) =
              below_enough pairs marks place settings.hop_limit 1 0 enough counts table answer marksNow countsNow tableNow c low serves
              (subst (λ (n : ℕ). n < enough) (sym is) less) in (
                exactly ∙ ap Exactly is,
                λ y inside.
                    each y (omega arith)
                    ∙ times_by_told pairs hears nodes all says (fresh_header settings (length payload)) marks marked place from_at y inside
                    settings.hop_limit,
              ),
          λ more.
              not_below pairs marks place settings.hop_limit 1 0 enough counts table answer marksNow countsNow tableNow c low serves
              (subst (λ (n : ℕ). enough ≤ n) (sym is) more),
        )

    told_bytes : Counts pairs marks place settings.hop_limit (length (fresh settings payload)) 2 enough counts table answer marksNow countsNow tableNow
        → (octets hears nodes settings payload < enough → (answer ≡ Exactly (octets hears nodes settings payload))
        × ((y : ℕ) → y < length nodes → at countsNow y ≡ octets_by hears nodes settings payload (at (map address nodes) y)))
        × (enough ≤ octets hears nodes settings payload → answer ≡ Enough)
    unfolding fresh_header
    told_bytes c =
        let long-first = length (fresh settings payload) in
        let is = bytes_told pairs hears nodes all says (fresh_header settings (length payload)) marks marked place from_at settings.hop_limit long-first in
        let size = marked.size in (
          λ less.
              let (exactly, each) =
              below_enough pairs marks place settings.hop_limit long-first 2 enough counts table answer marksNow countsNow tableNow c low serves
              (subst (λ (n : ℕ). n < enough) (sym is) less) in (
                exactly ∙ ap Exactly is,
                λ y inside.
                    each y (omega arith)
                    ∙ bytes_by_told pairs hears nodes all says (fresh_header settings (length payload)) marks marked place from_at y inside
                    settings.hop_limit long-first,
              ),
          λ more.
              not_below pairs marks place settings.hop_limit long-first 2 enough counts table answer marksNow countsNow tableNow c low serves
              (subst (λ (n : ℕ). enough ≤ n) (sym is) more),
        )

-- a higher hop limit allows as many hops
terms_more : (n m h k : ℕ) → n ≤ m → h ≤ k → k ≤ 7 → min (terms n h) n ≤ terms m k
terms_more n m h k more up top =
    by_cases (ℕ_discrete k 7)
    (λ e. omega (arith, terms_seven m k e))
    (λ ne. omega (arith, terms_below m k ne, terms_below n h (λ e. omega arith)))

no_fewer : (hears others : ℕ → ℕ → Bool) (these those : List ℕ) → Nodup these
    → ((a : ℕ) → Memᴰ a these → Memᴰ a those) → ((x y : ℕ) → hears x y ≡ true → others x y ≡ true)
    → (source h k : ℕ) → h ≤ k → k ≤ 7 → (weight : List ℕ → ℕ) → air_over hears these source h weight ≤ air_over others those source k weight
no_fewer hears others these those once inside also source h k up top weight =
    air_more hears others these those once inside also weight (terms (length these) h) (terms (length those) k) source
    (terms_more (length these) (length those) h k (no_longer these those once inside) up top)

two_ways_run : length (on_the_air (map repeater two_ways_addresses) (fresh (report_asked 6) reading) longer_first) ≡ 6
two_ways_run =
    (exact two_ways (map repeater two_ways_addresses) two_ways_planned.network (report_asked 6) reading 100 two_ways_planned.originated cases.roomy longer_first
    two_ways_taken.0 two_ways_taken.1).0
    ∙ cases.six

-- what C is told
in_c : (pairs marks : List ℕ) (from h price growth enough places room : ℕ)
    → let told = airtime_in_c (ways_answer pairs marks from h price growth enough places room) in
    let number = ways pairs marks from h price growth of_all in let so = is_served (length marks) from places room in
    (7 < h → told ≡ record { number = 10; served = false; enough = false; value = 0 })
    × (h ≤ 7 → so ≡ false → told ≡ record { number = 0; served = false; enough = false; value = 0 })
    × (h ≤ 7 → so ≡ true → enough ≤ number → told ≡ record { number = 0; served = true; enough = true; value = 0 })
    × (h ≤ 7 → so ≡ true → number < enough → told ≡ record { number = 0; served = true; enough = false; value = number })
unfolding ways_answer whether up_to
in_c pairs marks from h price growth enough places room = (
  λ above. rw (lt-ltb 7 h above),
  λ low no. rw (le-ltb 7 h low, no),
  λ low so past. rw (le-ltb 7 h low, so, le-ltb (ways pairs marks from h price growth of_all) enough past),
  λ low so less. rw (le-ltb 7 h low, so, lt-ltb (ways pairs marks from h price growth of_all) enough less),
)

served_limits : (is_served 255 254 255 65280 ≡ true) × (is_served 255 254 255 65279 ≡ false)
unfolding is_served
served_limits = (refl, refl)

pub own_network : OwnNetwork
unfolding air_of air_bytes air_by air_bytes_by
own_network =
    record {
      within = λ hears nodes all settings payload room message. within hears nodes all settings payload room message;
      exact = λ hears nodes all settings payload room message each. exact hears nodes all settings payload room message each;
      attained = λ hears nodes all settings payload room message.
          taken_exists hears nodes all (fresh settings payload) (originated_begins settings payload room message);
      worst = λ hears these once source h size. (air_below hears these once source h, bytes_below hears these once source h size);
      all_hear = λ hears these once source h size new all. (air_all hears these once source new all h, bytes_all hears these once source new all h size);
      more = λ hears others these those once inside also source h k size node up top. (
        no_fewer hears others these those once inside also source h k up top (λ q. 1),
        no_fewer hears others these those once inside also source h k up top (λ q. size + 2 * length q),
        no_fewer hears others these those once inside also source h k up top (λ q. cond (eqb (last_or source q) node) 1 0),
        no_fewer hears others these those once inside also source h k up top (λ q. cond (eqb (last_or source q) node) (size + 2 * length q) 0),
      );
      by_count = λ pairs hears nodes all says few settings payload room message marks marked place from_at enough counts table as_many long.
          told hears nodes all settings payload room message pairs says few marks marked place from_at enough counts table as_many long;
      bytes_by_count = λ pairs hears nodes all says few settings payload room message marks marked place from_at enough counts table as_many long.
          told_bytes hears nodes all settings payload room message pairs says few marks marked place from_at enough counts table as_many long;
      in_c = in_c;
      served_limits = served_limits;
      in_line = cases.in_line;
      two_ways_lem = cases.two_ways_lem;
      all_three = cases.all_three;
      two_ways_run = (cases.roomy, cases.six, two_ways_run);
      roomy_asked = λ nodes settings payload room fits. record { roomy = room; path_fits = fits };
      marks_asked = λ marks header nodes size says. record { size = size; says = says };
    }
