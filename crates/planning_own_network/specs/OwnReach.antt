-- Whom one message reaches on a network of which it is known who hears whom, and whom a failure cuts off, as one record; `proofs/OwnReach.antt` gives it
-- from its parts. W-208 is the special case in which all nodes repeat, no list is on, and the message has no destination and a hop limit below 7.
use Rattle.std.specs.Prelude.{Bool, true, false, ◌≢◌, ◌⊎◌, ◌≡◌, ℕ, ◌+◌, ◌≤◌, ◌<◌, length, replicate}
use mathlib.Core.List.{List, [], ◌∷◌, map, Memᴰ}
use Rattle.std.proofs.Math.Option.{some}
use Rattle.std.proofs.Math.ListN.{get_elem?}
use Rattle.octets.specs.Octets.{at}
use Rattle.pdu.specs.declared.Destination.{Destination}
use Rattle.pdu.specs.declared.Destination.TheVariants.{Address}
use Rattle.pdu.specs.declared.Header.{Header}
use Rattle.chains.specs.Chains.{ends, Along, Chain}
use Rattle.chains.specs.Lengths.{places_of_nodes, no_chain, no_node, usable_hearing, are_found, LengthsFound}
use Rattle.origin.specs.declared.FreshSettings.{FreshSettings}
use Rattle.origin.specs.Origination.{fresh_header, fresh}
use Rattle.decision.specs.Decision.{is_for_another, pass_fault}
use Rattle.node.specs.Answers.{node_fault}
use Rattle.flood.specs.Air.{Repeater, address, can_repeat, Nodes, Originated}
use Rattle.flood.specs.Flood.{Reception}
use Rattle.coverage.specs.Hearing.{TakenByAll, ByNoOther}
use Rattle.coverage.specs.Delivery.{LetsIn, Roomy, Delivered}
use Rattle.coverage.specs.Marks.{MarksSay}
use Rattle.coverage.specs.Reach.{hears_through, ReachThrough}
use Rattle.coverage.specs.ByLengths.{Says, remaining, DeliveredByLengths}
use Rattle.coverage.specs.Cases.{report_asked, reading, repeater, next_in_line, two_ways, two_ways_addresses, reception}
use Rattle.planning_own_network.specs.Cases.{answers_of, base_in_line, rejected_way, rejected_receptions, nine_addresses, nine_receptions, report_to, four_in_line}
use Rattle.planning_own_network.specs.Cases.{line_pairs, two_ways_pairs}

pub record OwnReach : Type 0 where
  -- any nodes of different addresses with echo on; any message that origination wrote with a path, of any destination and any hop limit from 0 to 7; and
  -- any receptions in which every transmission is taken once by every node that hears its sender. The nodes that can repeat the message have room
  pub reach : (hears : ℕ → ℕ → Bool) (nodes : List Repeater) → Nodes nodes
      → (settings : FreshSettings) (payload : List ℕ) (room : ℕ) → Originated settings payload room → Roomy nodes settings payload
      → (receptions : List Reception) → TakenByAll hears nodes (fresh settings payload) receptions
      → ReachThrough hears nodes settings payload receptions
  -- a hearing takes the message on exactly if its sender is the source or a node that can repeat it
  pub relayed_if : (hears : ℕ → ℕ → Bool) (header : Header) (nodes : List Repeater) (sender node : ℕ) → hears sender node ≡ true
      → (sender ≡ header.source) ⊎ ((n : Repeater) × Memᴰ n nodes × (address n ≡ sender) × (can_repeat header n ≡ true))
      → hears_through hears header nodes sender node ≡ true
  pub relayed_only : (hears : ℕ → ℕ → Bool) (header : Header) (nodes : List Repeater) (sender node : ℕ) → hears_through hears header nodes sender node ≡ true
      → (hears sender node ≡ true)
      × ((sender ≡ header.source) ⊎ ((n : Repeater) × Memᴰ n nodes × (address n ≡ sender) × (can_repeat header n ≡ true)))
  -- no more than this is asked of a node that lets it in
  pub let_in_asked : (header : Header) (n : Repeater) → node_fault n.node ≡ 0 → pass_fault n.node header ≡ 0
      → is_for_another (address n) header.destination ≡ false → LetsIn header n
  -- a message with a destination is for the node at that address, and is delivered to no other
  pub for_its_own : (n : Repeater) (to : Destination) → to ≡ Address (address n) → is_for_another (address n) to ≡ false
  pub for_no_other : (hears : ℕ → ℕ → Bool) (nodes : List Repeater) → Nodes nodes
      → (settings : FreshSettings) (payload : List ℕ) (room : ℕ) → Originated settings payload room → Roomy nodes settings payload
      → (receptions : List Reception) → TakenByAll hears nodes (fresh settings payload) receptions
      → (to : ℕ) → settings.destination ≡ Address to
      → (n : Repeater) (what : List ℕ) (count : ℕ) → Delivered nodes (fresh settings payload) receptions n what count → address n ≡ to
  -- what `find_lengths` of crate `chains` leaves says who of the nodes that are left is delivered it, and with which path count, at any hop limit from 0 to
  -- 7. The node at `failed` is not there. The marks say who can repeat the message
  pub by_lengths : (hears : ℕ → ℕ → Bool) (nodes : List Repeater) → Nodes nodes
      → (settings : FreshSettings) (payload : List ℕ) (room : ℕ) → Originated settings payload room
      → (failed : ℕ) → Roomy (remaining failed nodes) settings payload
      → (receptions : List Reception) → TakenByAll hears (remaining failed nodes) (fresh settings payload) receptions
      → (pairs : List ℕ) → Says pairs hears nodes → (marks : List ℕ) → MarksSay marks (fresh_header settings (length payload)) nodes
      → (from : ℕ) → get_elem? (map address nodes) from ≡ some settings.source → from ≢ failed
      → (before lengths : List ℕ) → LengthsFound pairs marks from failed before true lengths
      → DeliveredByLengths hears nodes settings payload failed receptions lengths
  -- 255 nodes are served, with the originator at the last place, and 256 are not; nor where the originator is at no node's place
  pub found_limits : (are_found 255 254 255 ≡ true) × (are_found 256 0 256 ≡ false) × (are_found 3 3 3 ≡ false)
  -- the nodes that are left are those at the other places; all of them where no node has that place
  pub left : (nodes : List Repeater) (failed place : ℕ) (n : Repeater) → get_elem? nodes place ≡ some n → place ≢ failed
      → Memᴰ n (remaining failed nodes)
  pub left_only : (nodes : List Repeater) (failed : ℕ) (n : Repeater) → Memᴰ n (remaining failed nodes)
      → (place : ℕ) × (place ≢ failed) × (get_elem? nodes place ≡ some n)
  pub none_failed : (nodes : List Repeater) (failed : ℕ) → length nodes ≤ failed → remaining failed nodes ≡ nodes
  -- a failure cuts a node off, so that no length is found for it, exactly if every chain from the originator to it goes by the failed node
  pub cut_off : (pairs marks : List ℕ) (from failed : ℕ) (before lengths : List ℕ) → LengthsFound pairs marks from failed before true lengths
      → (to : ℕ) → to < length marks → to ≢ failed
      → (at lengths to ≡ no_chain → (passed : List ℕ)
      → Along (usable_hearing pairs marks from no_node) (places_of_nodes (length marks)) from passed to → Memᴰ failed (from ∷ passed))
      × (((passed : List ℕ)
      → Along (usable_hearing pairs marks from no_node) (places_of_nodes (length marks)) from passed to → Memᴰ failed (from ∷ passed))
      → at lengths to ≡ no_chain)
  -- a chain of k hearings is one that passes k nodes
  pub by_nodes : (hears : ℕ → ℕ → Bool) (nodes : List ℕ) (from to k : ℕ)
      → (Chain hears nodes from to k → (passed : List ℕ) × (length passed ≡ k) × Along hears nodes from passed to)
      × ((passed : List ℕ) → length passed ≡ k → Along hears nodes from passed to → Chain hears nodes from to k)
  -- WORKED CASES
  -- a base station that does not repeat, third in a line of four: it is delivered the payload, and the node behind it nothing
  pub base_taken : TakenByAll next_in_line base_in_line (fresh (report_asked 6) reading) (reception 1 0 ∷ reception 2 1 ∷ [])
      × ByNoOther next_in_line base_in_line (fresh (report_asked 6) reading) (reception 1 0 ∷ reception 2 1 ∷ [])
  pub base_answers : answers_of base_in_line (report_asked 6) (reception 1 0 ∷ reception 2 1 ∷ []) ≡ (1001 ∷ 0 ∷ 0 ∷ reading) ∷ (1002 ∷ 0 ∷ 1 ∷ reading) ∷ []
  pub base_ends : map (ends (hears_through next_in_line (fresh_header (report_asked 6) 1) base_in_line) (map address base_in_line) 1000) (0 ∷ 1 ∷ 2 ∷ 3 ∷ [])
      ≡ (1000 ∷ []) ∷ (1001 ∷ []) ∷ (1002 ∷ []) ∷ [] ∷ []
  -- a node whose list rejects the source: 4 answers 32 and repeats nothing, so that 9 is delivered it by the longer way, with path count 2
  pub rejected_taken : TakenByAll two_ways rejected_way (fresh (report_asked 6) reading) rejected_receptions
      × ByNoOther two_ways rejected_way (fresh (report_asked 6) reading) rejected_receptions
  pub rejected_answers : answers_of rejected_way (report_asked 6) rejected_receptions
      ≡ (1 ∷ 0 ∷ 0 ∷ reading) ∷ (4 ∷ 32 ∷ 0 ∷ []) ∷ (1000 ∷ 42 ∷ 1 ∷ []) ∷ (2 ∷ 0 ∷ 1 ∷ reading) ∷ (9 ∷ 0 ∷ 2 ∷ reading) ∷ (9 ∷ 30 ∷ 3 ∷ []) ∷ []
  pub rejected_ends : map (ends (hears_through two_ways (fresh_header (report_asked 6) 1) rejected_way) two_ways_addresses 1000) (0 ∷ 1 ∷ 2 ∷ 3 ∷ [])
      ≡ (1000 ∷ []) ∷ (1 ∷ 4 ∷ []) ∷ (1000 ∷ 2 ∷ []) ∷ (1 ∷ 4 ∷ 9 ∷ []) ∷ []
  -- a line of nine, whose last node is 8 hearings away: at hop limit 7 it is delivered the payload with path count 7, at 6 nothing
  pub nine_taken : (TakenByAll next_in_line (map repeater nine_addresses) (fresh (report_asked 7) reading) (nine_receptions 7)
      × ByNoOther next_in_line (map repeater nine_addresses) (fresh (report_asked 7) reading) (nine_receptions 7))
      × (TakenByAll next_in_line (map repeater nine_addresses) (fresh (report_asked 6) reading) (nine_receptions 6)
      × ByNoOther next_in_line (map repeater nine_addresses) (fresh (report_asked 6) reading) (nine_receptions 6))
  pub nine_answers : answers_of (map repeater nine_addresses) (report_asked 7) (nine_receptions 7)
      ≡ map (λ hops. (1001 + hops) ∷ 0 ∷ hops ∷ reading) (0 ∷ 1 ∷ 2 ∷ 3 ∷ 4 ∷ 5 ∷ 6 ∷ 7 ∷ [])
  pub nine_delivered : Delivered (map repeater nine_addresses) (fresh (report_asked 7) reading) (nine_receptions 7) (repeater 1008) reading 7
  pub nine_missed : (what : List ℕ) (count : ℕ)
      → ¬ Delivered (map repeater nine_addresses) (fresh (report_asked 6) reading) (nine_receptions 6) (repeater 1008) what count
  -- a message for 1002 on a line of four: 1001 answers 39 and repeats, 1002 is delivered the payload and does not repeat, 1003 hears nothing
  pub addressed_taken : TakenByAll next_in_line four_in_line (fresh (report_to 1002) reading) (reception 1 0 ∷ reception 2 1 ∷ [])
      × ByNoOther next_in_line four_in_line (fresh (report_to 1002) reading) (reception 1 0 ∷ reception 2 1 ∷ [])
  pub addressed_answers : answers_of four_in_line (report_to 1002) (reception 1 0 ∷ reception 2 1 ∷ []) ≡ (1001 ∷ 39 ∷ 0 ∷ []) ∷ (1002 ∷ 0 ∷ 1 ∷ reading) ∷ []
  pub addressed_ends : map (ends (hears_through next_in_line (fresh_header (report_to 1002) 1) four_in_line) (map address four_in_line) 1000) (0 ∷ 1 ∷ 2 ∷ 3 ∷ [])
      ≡ (1000 ∷ []) ∷ (1001 ∷ []) ∷ (1002 ∷ []) ∷ [] ∷ []
  -- the pairs of the line of four, and of the two ways, say who hears whom there
  pub line_says : Says line_pairs next_in_line four_in_line
  pub two_ways_says : Says two_ways_pairs two_ways (map repeater two_ways_addresses)
  -- in the line of four the failure of the second node cuts off all behind it; in the two ways that of 4, at place 3, cuts off nobody: 9, at place 4, is
  -- then 3 hearings away, by 1 and 2, and not 2
  pub line_failure : map (ends (usable_hearing line_pairs (replicate 4 0) 0 1) (places_of_nodes 4) 0) (0 ∷ 1 ∷ 2 ∷ 3 ∷ []) ≡ (0 ∷ []) ∷ [] ∷ [] ∷ [] ∷ []
  pub two_ways_failure : (map (ends (usable_hearing two_ways_pairs (replicate 5 0) 0 no_node) (places_of_nodes 5) 0) (0 ∷ 1 ∷ 2 ∷ [])
      ≡ (0 ∷ []) ∷ (3 ∷ 1 ∷ []) ∷ (4 ∷ 2 ∷ 0 ∷ []) ∷ [])
      × (map (ends (usable_hearing two_ways_pairs (replicate 5 0) 0 3) (places_of_nodes 5) 0) (0 ∷ 1 ∷ 2 ∷ 3 ∷ [])
      ≡ (0 ∷ []) ∷ (1 ∷ []) ∷ (2 ∷ 0 ∷ []) ∷ (4 ∷ 1 ∷ []) ∷ [])
