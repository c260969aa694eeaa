-- How often one message goes out on a network of which it is known who hears whom, as one record; `proofs/OwnNetwork.antt` gives it from its parts.
use Rattle.std.specs.Prelude.{Bool, true, false, not, ◌≢◌, ◌⊎◌, ◌≡◌, ℕ, ◌+◌, ◌*◌, ◌≤◌, ◌<◌, eqb, length}
use mathlib.Core.List.{List, [], ◌∷◌, map, Memᴰ, Nodup}
use Rattle.std.proofs.Math.Option.{some}
use Rattle.std.proofs.Math.ListN.{get_elem?}
use Rattle.octets.specs.Octets.{at}
use Rattle.pdu.specs.declared.Header.{Header}
use Rattle.pdu.specs.Sizes.{path_limit}
use Rattle.bound.specs.Bound.{bound, bytes_bound, terms}
use Rattle.chains.specs.Lengths.{node_limit, is_unmarked}
use Rattle.ways.specs.declared.Airtime.{Airtime}
use Rattle.ways.specs.declared.Airtime.TheVariants.{Exactly, Enough}
use Rattle.ways.specs.Answer.{is_served, ways, ways_answer, Counts}
use Rattle.ways.specs.Ways.{of_all}
use Rattle.origin.specs.declared.FreshSettings.{FreshSettings}
use Rattle.origin.specs.Origination.{fresh_header, fresh}
use Rattle.flood.specs.Air.{Repeater, address, can_repeat, on_the_air, bytes_on_the_air, repeaters, Nodes, Originated}
use Rattle.flood.specs.Flood.{Reception}
use Rattle.coverage.specs.Hearing.{TakenByAll, ByNoOther}
use Rattle.coverage.specs.Delivery.{Roomy}
use Rattle.coverage.specs.Marks.{MarksSay}
use Rattle.coverage.specs.ByLengths.{Says}
use Rattle.coverage.specs.Cases.{report_asked, reading, repeater, next_in_line, two_ways, two_ways_addresses, longer_first}
use Rattle.airtime.specs.Airtime.{air_of, air_bytes, air_by, air_bytes_by, sent_by, bytes_sent_by}
use Rattle.boundary.specs.Boundary.{airtime_in_c}

-- any nodes, and any message that origination wrote with a path
module _ (hears : ℕ → ℕ → Bool) (nodes : List Repeater) (settings : FreshSettings) (payload : List ℕ) where
  -- those that can repeat it, and their addresses
  abbrev pub counting : List Repeater
  counting = repeaters (fresh_header settings (length payload)) nodes

  abbrev pub addresses_counted : List ℕ
  addresses_counted = map address counting

  -- how often it goes out, how many bytes that is, and the same of one node
  abbrev pub times : ℕ
  times = air_of hears addresses_counted settings.source settings.hop_limit

  abbrev pub octets : ℕ
  octets = air_bytes hears addresses_counted settings.source settings.hop_limit (length (fresh settings payload))

  abbrev pub times_by : ℕ → ℕ
  times_by node = air_by hears addresses_counted settings.source settings.hop_limit node

  abbrev pub octets_by : ℕ → ℕ
  octets_by node = air_bytes_by hears addresses_counted settings.source settings.hop_limit (length (fresh settings payload)) node

-- who hears whom where every node hears every other
abbrev pub every_other : ℕ → ℕ → Bool
every_other sender node = not (eqb sender node)

pub record OwnNetwork : Type 0 where
  -- whatever receptions keep to who hears whom, each at most once: no more transmissions and bytes in all, and no more by any node. The nodes have
  -- different addresses and echo on; their lists, edition, repeating and room are as they may be
  pub within : (hears : ℕ → ℕ → Bool) (nodes : List Repeater) → Nodes nodes
      → (settings : FreshSettings) (payload : List ℕ) (room : ℕ) → Originated settings payload room
      → (receptions : List Reception) → Nodup receptions → ByNoOther hears nodes (fresh settings payload) receptions
      → let log = on_the_air nodes (fresh settings payload) receptions in
      (length log ≤ times hears nodes settings payload)
      × (bytes_on_the_air nodes (fresh settings payload) receptions ≤ octets hears nodes settings payload)
      × ((node : ℕ) → (sent_by node log ≤ times_by hears nodes settings payload node) × (bytes_sent_by node log ≤ octets_by hears nodes settings payload node))
  -- exactly so many where every node takes all that it hears and nothing else, and those that can repeat it have room (`Roomy`)
  pub exact : (hears : ℕ → ℕ → Bool) (nodes : List Repeater) → Nodes nodes
      → (settings : FreshSettings) (payload : List ℕ) (room : ℕ) → Originated settings payload room → Roomy nodes settings payload
      → (receptions : List Reception) → TakenByAll hears nodes (fresh settings payload) receptions
      → ByNoOther hears nodes (fresh settings payload) receptions
      → let log = on_the_air nodes (fresh settings payload) receptions in
      (length log ≡ times hears nodes settings payload)
      × (bytes_on_the_air nodes (fresh settings payload) receptions ≡ octets hears nodes settings payload)
      × ((node : ℕ) → (sent_by node log ≡ times_by hears nodes settings payload node) × (bytes_sent_by node log ≡ octets_by hears nodes settings payload node))
  -- there are such receptions
  pub attained : (hears : ℕ → ℕ → Bool) (nodes : List Repeater) → Nodes nodes
      → (settings : FreshSettings) (payload : List ℕ) (room : ℕ) → Originated settings payload room
      → (receptions : List Reception) × TakenByAll hears nodes (fresh settings payload) receptions
      × ByNoOther hears nodes (fresh settings payload) receptions
  -- demand 3's bound is that of the worst network: none has more, and where the nodes hear the originator and each other there are as many
  pub worst : (hears : ℕ → ℕ → Bool) (these : List ℕ) → Nodup these → (source h size : ℕ)
      → (air_of hears these source h ≤ bound (length these) h) × (air_bytes hears these source h size ≤ bytes_bound (length these) h size)
  pub all_hear : (hears : ℕ → ℕ → Bool) (these : List ℕ) → Nodup these → (source h size : ℕ) → ¬ Memᴰ source these
      → ((x y : ℕ) → (x ≡ source) ⊎ Memᴰ x these → Memᴰ y these → x ≢ y → hears x y ≡ true)
      → (air_of hears these source h ≡ bound (length these) h) × (air_bytes hears these source h size ≡ bytes_bound (length these) h size)
  -- with more nodes, more hearings or a higher hop limit there are no fewer: a hearing that is not certain is safely taken as one
  pub more : (hears others : ℕ → ℕ → Bool) (these those : List ℕ) → Nodup these
      → ((a : ℕ) → Memᴰ a these → Memᴰ a those) → ((x y : ℕ) → hears x y ≡ true → others x y ≡ true)
      → (source h k size node : ℕ) → h ≤ k → k ≤ 7
      → (air_of hears these source h ≤ air_of others those source k) × (air_bytes hears these source h size ≤ air_bytes others those source k size)
      × (air_by hears these source h node ≤ air_by others those source k node)
      × (air_bytes_by hears these source h size node ≤ air_bytes_by others those source k size node)
  -- what the functions `transmissions` and `bytes` of crate `ways` return, given the network by pairs and marks: exactly these numbers where they are
  -- below `enough`, and each node's own in its place; and `Enough` exactly where they are not
  pub by_count : (pairs : List ℕ) (hears : ℕ → ℕ → Bool) (nodes : List Repeater) → Nodes nodes → Says pairs hears nodes → length nodes ≤ node_limit
      → (settings : FreshSettings) (payload : List ℕ) (room : ℕ) → Originated settings payload room
      → (marks : List ℕ) → MarksSay marks (fresh_header settings (length payload)) nodes
      → (from : ℕ) → get_elem? (map address nodes) from ≡ some settings.source → (enough : ℕ)
      → (counts table : List ℕ) → length counts ≡ length nodes → length nodes * 256 ≤ length table
      → (answer : Airtime) (marksNow countsNow tableNow : List ℕ)
      → Counts pairs marks from settings.hop_limit 1 0 enough counts table answer marksNow countsNow tableNow
      → (times hears nodes settings payload < enough → (answer ≡ Exactly (times hears nodes settings payload))
      × ((place : ℕ) → place < length nodes → at countsNow place ≡ times_by hears nodes settings payload (at (map address nodes) place)))
      × (enough ≤ times hears nodes settings payload → answer ≡ Enough)
  pub bytes_by_count : (pairs : List ℕ) (hears : ℕ → ℕ → Bool) (nodes : List Repeater) → Nodes nodes → Says pairs hears nodes → length nodes ≤ node_limit
      → (settings : FreshSettings) (payload : List ℕ) (room : ℕ) → Originated settings payload room
      → (marks : List ℕ) → MarksSay marks (fresh_header settings (length payload)) nodes
      → (from : ℕ) → get_elem? (map address nodes) from ≡ some settings.source → (enough : ℕ)
      → (counts table : List ℕ) → length counts ≡ length nodes → length nodes * 256 ≤ length table
      → (answer : Airtime) (marksNow countsNow tableNow : List ℕ)
      → Counts pairs marks from settings.hop_limit (length (fresh settings payload)) 2 enough counts table answer marksNow countsNow tableNow
      → (octets hears nodes settings payload < enough → (answer ≡ Exactly (octets hears nodes settings payload))
      × ((place : ℕ) → place < length nodes → at countsNow place ≡ octets_by hears nodes settings payload (at (map address nodes) place)))
      × (enough ≤ octets hears nodes settings payload → answer ≡ Enough)
  -- what C gets: number 10 exactly if the hop limit is above 7; else whether the network is served; else that the number is enough, exactly if it is not
  -- below `enough`; else the number
  pub in_c : (pairs marks : List ℕ) (from h price growth enough places room : ℕ)
      → let returned = airtime_in_c (ways_answer pairs marks from h price growth enough places room) in
      let number = ways pairs marks from h price growth of_all in let so = is_served (length marks) from places room in
      (7 < h → returned ≡ record { number = 10; served = false; enough = false; value = 0 })
      × (h ≤ 7 → so ≡ false → returned ≡ record { number = 0; served = false; enough = false; value = 0 })
      × (h ≤ 7 → so ≡ true → enough ≤ number → returned ≡ record { number = 0; served = true; enough = true; value = 0 })
      × (h ≤ 7 → so ≡ true → number < enough → returned ≡ record { number = 0; served = true; enough = false; value = number })
  -- 255 nodes are served, the originator at the last place, with a table of 65,280 bytes, and not with a byte less
  pub served_limits : (is_served 255 254 255 65280 ≡ true) × (is_served 255 254 255 65279 ≡ false)
  -- no more is asked of room and marks than these conditions say
  pub roomy_asked : (nodes : List Repeater) (settings : FreshSettings) (payload : List ℕ)
      → let counting = repeaters (fresh_header settings (length payload)) nodes in
      ((n : Repeater) → Memᴰ n counting → length (fresh settings payload) + 2 * terms (length counting) settings.hop_limit ≤ n.room)
      → (length counting ≤ path_limit) ⊎ (settings.hop_limit < 7) → Roomy nodes settings payload
  pub marks_asked : (marks : List ℕ) (header : Header) (nodes : List Repeater) → length marks ≡ length nodes
      → ((place : ℕ) (n : Repeater) → get_elem? nodes place ≡ some n → address n ≢ header.source → is_unmarked marks place ≡ can_repeat header n)
      → MarksSay marks header nodes
  -- worked cases. W-208's line of eight: each hop lets it go one further, and 7 to the end; demand 3's bound for as many is 8,660 at hop limit 6
  pub in_line : let line : List ℕ = 1001 ∷ 1002 ∷ 1003 ∷ 1004 ∷ 1005 ∷ 1006 ∷ 1007 ∷ [] in
      (air_of next_in_line line 1000 0 ≡ 1) × (air_of next_in_line line 1000 3 ≡ 4) × (air_of next_in_line line 1000 6 ≡ 7) × (air_of next_in_line line 1000 7 ≡ 8)
      × (bound 7 6 ≡ 8660)
  -- W-208's two ways, by 1, 2, 9 and by 4, 9: six transmissions, of 20 bytes, twice 22, twice 24 and 26; 9 sends twice, and 1 once
  pub two_ways_lem : let these : List ℕ = 1 ∷ 2 ∷ 4 ∷ 9 ∷ [] in
      (air_of two_ways these 1000 6 ≡ 6) × (air_of two_ways these 1000 1 ≡ 3) × (air_bytes two_ways these 1000 6 20 ≡ 138)
      × (air_by two_ways these 1000 6 9 ≡ 2) × (air_by two_ways these 1000 6 1 ≡ 1) × (air_by two_ways these 1000 6 1000 ≡ 1)
      × (air_bytes_by two_ways these 1000 6 20 9 ≡ 50)
  -- where all three hear each other, the values that document 01 gives
  pub all_three : let these : List ℕ = 1 ∷ 2 ∷ 3 ∷ [] in
      (air_of every_other these 1000 2 ≡ 10) × (air_of every_other these 1000 6 ≡ 16) × (air_of every_other these 1000 7 ≡ 16)
  -- W-208's run over real bytes, the longer way first, is such as `exact` asks, and makes these six
  pub two_ways_run : Roomy (map repeater two_ways_addresses) (report_asked 6) reading
      × (times two_ways (map repeater two_ways_addresses) (report_asked 6) reading ≡ 6)
      × (length (on_the_air (map repeater two_ways_addresses) (fresh (report_asked 6) reading) longer_first) ≡ 6)
