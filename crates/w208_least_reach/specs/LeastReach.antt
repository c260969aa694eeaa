-- Document 02, W-208, as one record; `proofs/LeastReach.antt` gives it from its parts.
use Rattle.std.specs.Prelude.{ℕ, ◌+◌, ◌*◌, ◌-◌, ◌≤◌, ◌<◌, Bool, true, false, cond, ◌≢◌, ◌≡◌, eqb, length, take, drop}
use mathlib.Core.List.{List, [], ◌∷◌, map, Memᴰ, Nodup}
use Rattle.std.proofs.Math.Option.{none, some}
use Rattle.std.proofs.Math.ListN.{get_elem?}
use Rattle.octets.specs.Octets.{at}
use Rattle.pdu.specs.declared.Destination.TheVariants.{Everyone}
use Rattle.pdu.specs.Sizes.{pdu_limit}
use Rattle.editions.specs.Editions.{known}
use Rattle.chains.specs.Chains.{ends}
use Rattle.chains.specs.Lengths.{is_heard, is_unmarked, no_node, LengthsFound}
use Rattle.chains.specs.Reach.{is_delivered, missed, least_hop, AllDelivered, OutOfReach}
use Rattle.std.specs.Prelude.{Some, None}
use Rattle.origin.specs.declared.FreshSettings.{FreshSettings}
use Rattle.origin.specs.Origination.{fresh}
use Rattle.node.specs.declared.Answer.{Answer}
use Rattle.node.specs.Repeat.{repeated}
use Rattle.node.specs.Answers.{answer_of, Hears}
use Rattle.flood.specs.Flood.{Reception}
use Rattle.flood.specs.Air.{Repeater, Nodes, Open, Originated, address, sends, on_the_air}
use Rattle.flood.specs.Complete.{HasHeard}
use Rattle.coverage.specs.Hearing.{sender_of, InHearing, TakenByAll, ByNoOther}
use Rattle.coverage.specs.Delivery.{Planned, Delivers, Delivered}
use Rattle.coverage.specs.Reach.{Reach}
use Rattle.coverage.specs.ByLengths.{Says}
use Rattle.coverage.specs.Cases.{report_asked, reading, repeater, answers_of_each, next_in_line, line_addresses, line_receptions, line_air, line_answers}
use Rattle.coverage.specs.Cases.{two_ways, two_ways_addresses, longer_first}
use Rattle.boundary.specs.Boundary.{least_in_c}

pub record LeastReach : Type 0 where
  -- I. WHAT 02 ASKS
  -- whoever hears whom, and in whatever order the receptions happen
  pub reach : (hears : ℕ → ℕ → Bool) (nodes : List Repeater) (settings : FreshSettings) (payload : List ℕ) (room : ℕ)
      → Planned nodes settings payload room → (receptions : List Reception) → TakenByAll hears nodes (fresh settings payload) receptions
      → Reach hears nodes settings payload receptions
  -- an output of 4,615 bytes is always room enough for a node
  pub room_enough : (settings : FreshSettings) (payload : List ℕ) (room : ℕ) → Originated settings payload room → settings.hop_limit ≤ 6
      → length (fresh settings payload) + 2 * settings.hop_limit ≤ pdu_limit
  -- nothing more than this is asked of the network and of the receptions
  pub planned_asked : (nodes : List Repeater) (settings : FreshSettings) (payload : List ℕ) (room : ℕ) → Originated settings payload room
      → settings.destination ≡ Everyone → settings.hop_limit ≤ 6 → Nodes nodes
      → ((n : Repeater) → Memᴰ n nodes → address n ≢ settings.source
      → Open n.node × (length (fresh settings payload) + 2 * settings.hop_limit ≤ n.room))
      → Planned nodes settings payload room
  pub taken_asked : (hears : ℕ → ℕ → Bool) (nodes : List Repeater) (first : List ℕ) (receptions : List Reception) → Nodup receptions
      → ((reception : Reception) → InHearing hears nodes first receptions reception
      → HasHeard sends nodes (first ∷ []) receptions reception.node reception.transmission)
      → TakenByAll hears nodes first receptions
  pub hearing_asked : (hears : ℕ → ℕ → Bool) (nodes : List Repeater) (first : List ℕ) (receptions : List Reception) (reception : Reception)
      → (node : Repeater) → get_elem? nodes reception.node ≡ some node
      → (sent : List ℕ) → get_elem? (on_the_air nodes first receptions) reception.transmission ≡ some sent
      → hears (sender_of sent) (address node) ≡ true → InHearing hears nodes first receptions reception
  -- and such receptions exist
  pub schedule : (hears : ℕ → ℕ → Bool) (nodes : List Repeater) (settings : FreshSettings) (payload : List ℕ) (room : ℕ)
      → Planned nodes settings payload room → (receptions : List Reception) × TakenByAll hears nodes (fresh settings payload) receptions
      × ByNoOther hears nodes (fresh settings payload) receptions
  -- the lengths that the function `find_lengths` leaves, of pairs that say by places who hears whom, no node marked and none failed, say who is delivered
  -- it and with which path count, and who is not where no node takes what it does not hear
  pub by_lengths : (hears : ℕ → ℕ → Bool) (nodes : List Repeater) (settings : FreshSettings) (payload : List ℕ) (room : ℕ)
      → Planned nodes settings payload room
      → (receptions : List Reception) → TakenByAll hears nodes (fresh settings payload) receptions
      → (pairs : List ℕ) → Says pairs hears nodes → (from : ℕ) → get_elem? (map address nodes) from ≡ some settings.source
      → (marks : List ℕ) → length marks ≡ length nodes → ((place : ℕ) → is_unmarked marks place ≡ true)
      → (before lengths : List ℕ) → LengthsFound pairs marks from no_node before true lengths
      → (place : ℕ) (n : Repeater) → get_elem? nodes place ≡ some n
      → (is_delivered settings.hop_limit (at lengths place) ≡ true
      → Delivered nodes (fresh settings payload) receptions n payload (at lengths place - 1))
      × (ByNoOther hears nodes (fresh settings payload) receptions → is_delivered settings.hop_limit (at lengths place) ≡ false
      → (what : List ℕ) (count : ℕ) → ¬ Delivered nodes (fresh settings payload) receptions n what count)
  -- a hearing that the planner does not know of takes nothing away: what is taken by all that hear it is taken by all that are known to. So each delivery
  -- that is found, and its path count, holds also where more is heard
  pub more_heard : (hears known-hears : ℕ → ℕ → Bool) → ((sender node : ℕ) → known-hears sender node ≡ true → hears sender node ≡ true)
      → (nodes : List Repeater) (first : List ℕ) (receptions : List Reception)
      → TakenByAll hears nodes first receptions → TakenByAll known-hears nodes first receptions
  -- the number missed at a hop limit from 0 to 7 is that of the nodes out of reach; the least hop limit is the one at which all are delivered it and at
  -- every smaller one some are not; and none is given exactly where at none of 0 to 7 all are
  pub missed_counts : (h : ℕ) (lengths : List ℕ) → h ≤ 7 → (places : List ℕ) × OutOfReach h lengths places × (missed h lengths ≡ length places)
  pub least : (lengths : List ℕ) (h : ℕ) → least_hop lengths ≡ Some h
      → (h ≤ 7) × AllDelivered h lengths × ((less : ℕ) → less < h → ¬ AllDelivered less lengths)
  pub least_only : (lengths : List ℕ) (h : ℕ) → h ≤ 7 → AllDelivered h lengths → ((less : ℕ) → less < h → ¬ AllDelivered less lengths)
      → least_hop lengths ≡ Some h
  pub unreachable : (lengths : List ℕ) → least_hop lengths ≡ None → (h : ℕ) → h ≤ 7 → ¬ AllDelivered h lengths
  pub unreachable_only : (lengths : List ℕ) → ((h : ℕ) → h ≤ 7 → ¬ AllDelivered h lengths) → least_hop lengths ≡ None
  -- what C gets: 8 exactly if none reaches all, and else the least hop limit
  pub in_c : (lengths : List ℕ) → least_hop lengths ≡ None → least_in_c (least_hop lengths) ≡ 8
  pub in_c_only : (lengths : List ℕ) → least_in_c (least_hop lengths) ≡ 8 → least_hop lengths ≡ None
  pub in_c_least : (lengths : List ℕ) (h : ℕ) → least_hop lengths ≡ Some h → least_in_c (least_hop lengths) ≡ h
  -- a pair is a sender's place, and then the place of a node that hears it
  pub pair : (is_heard (1 ∷ 2 ∷ []) 1 2 ≡ true) × (is_heard (1 ∷ 2 ∷ []) 2 1 ≡ false)
  -- a node of the model delivers what its function `hear` returns: number 0, and the payload at the place that the answer names, and no other; and it sends
  -- where the repeat number is 0. It hears one PDU. A box walks batches, such as W-206's queue gives: what follows a PDU changes neither answer nor repeat
  -- (`behind` in demand 2). The node's edition is 1.1 or 1.2, which `Planned` asks of each node but the originator (W-209)
  pub answered : (n : Repeater) (received output left payload : List ℕ) (answer : Answer) → length output ≡ n.room
      → Hears n.node received output answer left → Delivers n received payload
      → (answer.delivery ≡ 0) × (take answer.delivered_length (drop answer.delivered_place received) ≡ payload)
  pub answered_only : (n : Repeater) (received output left : List ℕ) (answer : Answer) → length output ≡ n.room
      → Hears n.node received output answer left → answer.delivery ≡ 0
      → Delivers n received (take answer.delivered_length (drop answer.delivered_place received))
  pub sent : (n : Repeater) (received : List ℕ)
      → sends n received ≡ cond (eqb (answer_of n.node n.room received).repeat 0) (some (repeated (address n) received)) none
  pub edition_known : (nodes : List Repeater) (settings : FreshSettings) (payload : List ℕ) (room : ℕ) → Planned nodes settings payload room
      → (n : Repeater) → Memᴰ n nodes → address n ≢ settings.source → known n.node.settings.edition ≡ true
  -- IV. WORKED CASES
  -- a line of eight nodes, one-way, hop limits 0 to 6: the run is such as is asked, what goes out, who is delivered it and with what count. Hop limit h
  -- reaches h + 1 hearings and no further, which are h + 1 nodes here
  pub line_planned : (hop : ℕ) → hop ≤ 6 → Planned (map repeater line_addresses) (report_asked hop) reading 100
  pub line_taken : (hop : ℕ) → hop ≤ 6 → TakenByAll next_in_line (map repeater line_addresses) (fresh (report_asked hop) reading) (line_receptions hop)
      × ByNoOther next_in_line (map repeater line_addresses) (fresh (report_asked hop) reading) (line_receptions hop)
  pub line_air_lem : (hop : ℕ) → hop ≤ 6 → on_the_air (map repeater line_addresses) (fresh (report_asked hop) reading) (line_receptions hop) ≡ line_air hop
  pub line_answers_lem : (hop : ℕ) → hop ≤ 6 → answers_of_each (map repeater line_addresses) hop (line_receptions hop) ≡ line_answers hop
  pub line_ends : map (ends next_in_line line_addresses 1000) (0 ∷ 1 ∷ 2 ∷ 3 ∷ 4 ∷ 5 ∷ 6 ∷ 7 ∷ 8 ∷ [])
      ≡ (1000 ∷ []) ∷ (1001 ∷ []) ∷ (1002 ∷ []) ∷ (1003 ∷ []) ∷ (1004 ∷ []) ∷ (1005 ∷ []) ∷ (1006 ∷ []) ∷ (1007 ∷ []) ∷ [] ∷ []
  -- so at hop limit 2 the third node after the originator is delivered the payload, and the fourth nothing
  pub line_delivered : Delivered (map repeater line_addresses) (fresh (report_asked 2) reading) (line_receptions 2) (repeater 1003) reading 2
  pub line_beyond : (what : List ℕ) (count : ℕ)
      → ¬ Delivered (map repeater line_addresses) (fresh (report_asked 2) reading) (line_receptions 2) (repeater 1004) what count
  -- two ways of different length, the longer played first: 9 is delivered the payload with path count 2, and then with 1, one less than its shortest
  -- chain; the originator, which hears 1, answers 42, and 9 its own repeats 30
  pub two_ways_planned : Planned (map repeater two_ways_addresses) (report_asked 6) reading 100
  pub two_ways_taken : TakenByAll two_ways (map repeater two_ways_addresses) (fresh (report_asked 6) reading) longer_first
      × ByNoOther two_ways (map repeater two_ways_addresses) (fresh (report_asked 6) reading) longer_first
  pub two_ways_answers : answers_of_each (map repeater two_ways_addresses) 6 longer_first
      ≡ (1 ∷ 0 ∷ 0 ∷ reading) ∷ (1000 ∷ 42 ∷ 1 ∷ []) ∷ (2 ∷ 0 ∷ 1 ∷ reading) ∷ (9 ∷ 0 ∷ 2 ∷ reading) ∷ (4 ∷ 0 ∷ 0 ∷ reading) ∷ (9 ∷ 0 ∷ 1 ∷ reading)
      ∷ (9 ∷ 30 ∷ 3 ∷ []) ∷ (9 ∷ 30 ∷ 2 ∷ []) ∷ []
  pub two_ways_ends : map (ends two_ways two_ways_addresses 1000) (0 ∷ 1 ∷ 2 ∷ 3 ∷ [])
      ≡ (1000 ∷ []) ∷ (1 ∷ 4 ∷ []) ∷ (1000 ∷ 2 ∷ 9 ∷ []) ∷ (1 ∷ 4 ∷ 9 ∷ []) ∷ []
  -- so 9 is delivered it with the shorter way's count, and the originator nothing
  pub two_ways_delivered : Delivered (map repeater two_ways_addresses) (fresh (report_asked 6) reading) longer_first (repeater 9) reading 1
  pub two_ways_originator : (what : List ℕ) (count : ℕ)
      → ¬ Delivered (map repeater two_ways_addresses) (fresh (report_asked 6) reading) longer_first (repeater 1000) what count
