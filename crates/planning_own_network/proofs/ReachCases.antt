-- Worked cases of whom a message reaches, computed over real bytes. Assumes nothing.
use mathlib.Core.Path.{◌≡◌, refl, sym, ap}
use mathlib.Core.Bool.{Bool, true, false, not}
use mathlib.Core.Logic.{inl}
use mathlib.Core.List.Memᴰ
use mathlib.Core.List.{List, [], ◌∷◌, map, Memᴰ}
use Prim.Native.Nat.{ℕ, ◌+◌, ◌*◌}
use native.Mathlib.Omega.{arith}
use lib.ListN.{length, replicate}
use Rattle.octets.specs.Numbers.{◌gives◌, ◌or_else◌}
use Rattle.octets.specs.Octets.{at}
use Rattle.pdu.specs.Header.{header_of}
use Rattle.pdu.specs.Reading.{read_of}
use Rattle.pdu.specs.Parts.{addresses_at, in_path, last_or}
use Rattle.bound.specs.Bound.{terms}
use Rattle.writing.specs.Writing.{header_bytes, path_bytes, encode}
use Rattle.lists.specs.Lists.{low_above_high, fault_of, first_fault, holds}
use Rattle.chains.specs.Chains.{hears_one, hearers, ends, Shortest}
use Rattle.chains.specs.Lengths.{is_heard, places_of_nodes, no_node, is_unmarked, is_usable, usable_hearing, are_found}
use Rattle.origin.specs.Origination.{fresh_header, fresh}
use Rattle.decision.specs.Decision.{echo_fault, pass_fault, drop_fault, delivery_fault, repeat_fault}
use Rattle.node.specs.Repeat.{repeated}
use Rattle.node.specs.Answers.{node_fault, node_or_reading_fault, stop_fault, delivery_number, repeat_number, taken, answer_of}
use Rattle.flood.specs.Air.{Repeater, address, sends, on_the_air, can_repeat, repeaters}
use Rattle.flood.specs.Flood.{flood, answer, keep}
use Rattle.flood.proofs.Examples.{asked_taken}
use Rattle.flood.proofs.Repeaters.{repeaters_are}
use Rattle.coverage.specs.Hearing.{TakenByAll, ByNoOther}
use Rattle.coverage.specs.Delivery.{Planned, LetsIn, Roomy, Delivered}
use Rattle.coverage.specs.Reach.{hears_through}
use Rattle.coverage.specs.Cases.{report_asked, reading, repeater, answer_line, answers_along, next_in_line, two_ways, two_ways_addresses, written, reception}
use Rattle.coverage.proofs.Cases.{differing, planned, no_chain, shortest_is}
use Rattle.coverage.specs.ByLengths.{Says}
use Rattle.coverage.proofs.Checked.{absent, distinct, all, below, below_pass, happens, are_taken, checked}
use Rattle.coverage.proofs.Covered.{by_shortest}
use Rattle.coverage.proofs.Planned.{reach}
use Rattle.coverage.proofs.Schedule.{within}
use Rattle.planning_own_network.specs.Cases.{answers_of, base_in_line, rejected_way, rejected_receptions, nine_addresses, nine_receptions, report_to, four_in_line}
use Rattle.planning_own_network.specs.Cases.{line_pairs, two_ways_pairs}

-- A BASE STATION that does not repeat
base_checked : are_taken base_in_line next_in_line (fresh (report_asked 6) reading) (reception 1 0 ∷ reception 2 1 ∷ [])
    (on_the_air base_in_line (fresh (report_asked 6) reading) (reception 1 0 ∷ reception 2 1 ∷ [])) ≡ true
unfolding are_taken distinct absent all below happens within last_or written flood answer sends fresh fresh_header encode header_bytes path_bytes repeated
    repeat_number stop_fault node_or_reading_fault node_fault first_fault fault_of low_above_high read_of header_of drop_fault echo_fault pass_fault repeat_fault
    addresses_at in_path ◌gives◌ ◌or_else◌
base_checked = refl

pub base_taken : TakenByAll next_in_line base_in_line (fresh (report_asked 6) reading) (reception 1 0 ∷ reception 2 1 ∷ [])
    × ByNoOther next_in_line base_in_line (fresh (report_asked 6) reading) (reception 1 0 ∷ reception 2 1 ∷ [])
base_taken =
    checked base_in_line next_in_line (fresh (report_asked 6) reading) (reception 1 0 ∷ reception 2 1 ∷ [])
    (on_the_air base_in_line (fresh (report_asked 6) reading) (reception 1 0 ∷ reception 2 1 ∷ [])) refl base_checked

pub base_answers : answers_of base_in_line (report_asked 6) (reception 1 0 ∷ reception 2 1 ∷ []) ≡ (1001 ∷ 0 ∷ 0 ∷ reading) ∷ (1002 ∷ 0 ∷ 1 ∷ reading) ∷ []
unfolding answers_along answer_line answer_of delivery_number taken delivery_fault flood answer sends fresh fresh_header encode header_bytes path_bytes repeated
    repeat_number stop_fault node_or_reading_fault node_fault first_fault fault_of low_above_high read_of header_of drop_fault echo_fault pass_fault repeat_fault addresses_at
    in_path ◌gives◌ ◌or_else◌
base_answers = refl

pub base_ends : map (ends (hears_through next_in_line (fresh_header (report_asked 6) 1) base_in_line) (map address base_in_line) 1000) (0 ∷ 1 ∷ 2 ∷ 3 ∷ [])
    ≡ (1000 ∷ []) ∷ (1001 ∷ []) ∷ (1002 ∷ []) ∷ [] ∷ []
unfolding ends hearers hears_one hears_through in_path repeaters keep can_repeat fresh_header node_fault first_fault fault_of low_above_high pass_fault ◌gives◌ ◌or_else◌
base_ends = refl

-- A LIST that rejects the source
rejected_checked : are_taken rejected_way two_ways (fresh (report_asked 6) reading) rejected_receptions
    (on_the_air rejected_way (fresh (report_asked 6) reading) rejected_receptions) ≡ true
unfolding are_taken distinct absent all below happens within last_or written flood answer sends fresh fresh_header encode header_bytes path_bytes repeated
    repeat_number stop_fault node_or_reading_fault node_fault first_fault fault_of low_above_high read_of header_of drop_fault echo_fault pass_fault repeat_fault
    addresses_at in_path holds ◌gives◌ ◌or_else◌
rejected_checked = refl

pub rejected_taken : TakenByAll two_ways rejected_way (fresh (report_asked 6) reading) rejected_receptions
    × ByNoOther two_ways rejected_way (fresh (report_asked 6) reading) rejected_receptions
rejected_taken =
    checked rejected_way two_ways (fresh (report_asked 6) reading) rejected_receptions
    (on_the_air rejected_way (fresh (report_asked 6) reading) rejected_receptions) refl rejected_checked

pub rejected_answers : answers_of rejected_way (report_asked 6) rejected_receptions
    ≡ (1 ∷ 0 ∷ 0 ∷ reading) ∷ (4 ∷ 32 ∷ 0 ∷ []) ∷ (1000 ∷ 42 ∷ 1 ∷ []) ∷ (2 ∷ 0 ∷ 1 ∷ reading) ∷ (9 ∷ 0 ∷ 2 ∷ reading) ∷ (9 ∷ 30 ∷ 3 ∷ []) ∷ []
unfolding answers_along answer_line answer_of delivery_number taken delivery_fault flood answer sends fresh fresh_header encode header_bytes path_bytes repeated
    repeat_number stop_fault node_or_reading_fault node_fault first_fault fault_of low_above_high read_of header_of drop_fault echo_fault pass_fault repeat_fault addresses_at
    in_path holds ◌gives◌ ◌or_else◌
rejected_answers = refl

pub rejected_ends : map (ends (hears_through two_ways (fresh_header (report_asked 6) 1) rejected_way) two_ways_addresses 1000) (0 ∷ 1 ∷ 2 ∷ 3 ∷ [])
    ≡ (1000 ∷ []) ∷ (1 ∷ 4 ∷ []) ∷ (1000 ∷ 2 ∷ []) ∷ (1 ∷ 4 ∷ 9 ∷ []) ∷ []
unfolding ends hearers hears_one hears_through written in_path repeaters keep can_repeat fresh_header node_fault first_fault fault_of low_above_high pass_fault holds
    ◌gives◌ ◌or_else◌
rejected_ends = refl

-- A LINE OF NINE, at hop limits 7 and 6
nine_checked : (are_taken (map repeater nine_addresses) next_in_line (fresh (report_asked 7) reading) (nine_receptions 7)
    (on_the_air (map repeater nine_addresses) (fresh (report_asked 7) reading) (nine_receptions 7)) ≡ true)
    × (are_taken (map repeater nine_addresses) next_in_line (fresh (report_asked 6) reading) (nine_receptions 6)
    (on_the_air (map repeater nine_addresses) (fresh (report_asked 6) reading) (nine_receptions 6)) ≡ true)
unfolding are_taken distinct absent all below happens within last_or written flood answer sends fresh fresh_header encode header_bytes path_bytes repeated
    repeat_number stop_fault node_or_reading_fault node_fault first_fault fault_of low_above_high read_of header_of drop_fault echo_fault pass_fault repeat_fault
    addresses_at in_path ◌gives◌ ◌or_else◌
nine_checked = (refl, refl)

pub nine_taken : (TakenByAll next_in_line (map repeater nine_addresses) (fresh (report_asked 7) reading) (nine_receptions 7)
    × ByNoOther next_in_line (map repeater nine_addresses) (fresh (report_asked 7) reading) (nine_receptions 7))
    × (TakenByAll next_in_line (map repeater nine_addresses) (fresh (report_asked 6) reading) (nine_receptions 6)
    × ByNoOther next_in_line (map repeater nine_addresses) (fresh (report_asked 6) reading) (nine_receptions 6))
nine_taken = (
  checked (map repeater nine_addresses) next_in_line (fresh (report_asked 7) reading) (nine_receptions 7)
      (on_the_air (map repeater nine_addresses) (fresh (report_asked 7) reading) (nine_receptions 7)) refl nine_checked.0,
  checked (map repeater nine_addresses) next_in_line (fresh (report_asked 6) reading) (nine_receptions 6)
      (on_the_air (map repeater nine_addresses) (fresh (report_asked 6) reading) (nine_receptions 6)) refl nine_checked.1,
)

pub nine_answers : answers_of (map repeater nine_addresses) (report_asked 7) (nine_receptions 7)
    ≡ map (λ hops. (1001 + hops) ∷ 0 ∷ hops ∷ reading) (0 ∷ 1 ∷ 2 ∷ 3 ∷ 4 ∷ 5 ∷ 6 ∷ 7 ∷ [])
unfolding answers_along answer_line answer_of delivery_number taken delivery_fault flood answer sends fresh fresh_header encode header_bytes path_bytes repeated
    repeat_number stop_fault node_or_reading_fault node_fault first_fault fault_of low_above_high read_of header_of drop_fault echo_fault pass_fault repeat_fault addresses_at
    in_path ◌gives◌ ◌or_else◌
nine_answers = refl

nine_planned : Planned (map repeater nine_addresses) (report_asked 6) reading 100
unfolding differing in_path all
nine_planned = planned nine_addresses refl refl 6 (omega arith)

-- eight can repeat it, and a path of eight entries fits
eight : (length (fresh (report_asked 7) reading) + 2 * terms (length (repeaters (fresh_header (report_asked 7) 1) (map repeater nine_addresses))) 7 ≡ 24)
    × (length (repeaters (fresh_header (report_asked 7) 1) (map repeater nine_addresses)) ≡ 8)
unfolding terms fresh_header fresh encode header_bytes path_bytes repeaters keep can_repeat node_fault first_fault fault_of low_above_high pass_fault ◌gives◌ ◌or_else◌
eight = (refl, refl)

nine_roomy : Roomy (map repeater nine_addresses) (report_asked 7) reading
nine_roomy =
    record {
      roomy = λ n m.
          let (a, a_in, is) = Memᴰ.of_map repeater nine_addresses (repeaters_are _ (map repeater nine_addresses) m).0 in
          let room : n.room ≡ 100 = ap (λ (r : Repeater). r.room) (sym is) in
          omega (arith, eight.0);
      path_fits = inl (omega (arith, eight.1));
    }

last_lets : LetsIn (fresh_header (report_asked 7) 1) (repeater 1008)
unfolding fresh_header node_fault first_fault fault_of low_above_high pass_fault ◌gives◌ ◌or_else◌
last_lets = record { no_fault = refl; lets_pass = refl; not_for_another = refl }

last_shortest : Shortest (hears_through next_in_line (fresh_header (report_asked 7) 1) (map repeater nine_addresses)) (map address (map repeater nine_addresses))
    1000 1008 8
unfolding below in_path ends hearers hears_one hears_through repeaters keep can_repeat fresh_header node_fault first_fault fault_of low_above_high pass_fault ◌gives◌
    ◌or_else◌
last_shortest =
    shortest_is (hears_through next_in_line (fresh_header (report_asked 7) 1) (map repeater nine_addresses)) nine_addresses 1008 8 refl (Memᴰ.head refl)

last_in : Memᴰ (repeater 1008) (map repeater nine_addresses)
last_in =
    Memᴰ.tail (Memᴰ.tail (Memᴰ.tail (Memᴰ.tail (Memᴰ.tail (Memᴰ.tail (Memᴰ.tail (Memᴰ.tail
    (Memᴰ.head refl))))))))

pub nine_delivered : Delivered (map repeater nine_addresses) (fresh (report_asked 7) reading) (nine_receptions 7) (repeater 1008) reading 7
nine_delivered =
    by_shortest next_in_line (map repeater nine_addresses) nine_planned.network (report_asked 7) reading 100 (asked_taken 7 (omega arith)) nine_roomy
    (nine_receptions 7) nine_taken.0.0 (repeater 1008) last_in (λ (e : 1008 ≡ 1000). omega arith) last_lets 8 (inl refl) last_shortest

nine_none : below (λ j. not (in_path 1008 (ends next_in_line nine_addresses 1000 j))) 8 ≡ true
unfolding below in_path ends hearers hears_one
nine_none = refl

pub nine_missed : (what : List ℕ) (count : ℕ)
    → ¬ Delivered (map repeater nine_addresses) (fresh (report_asked 6) reading) (nine_receptions 6) (repeater 1008) what count
nine_missed =
    (reach next_in_line (map repeater nine_addresses) (report_asked 6) reading 100 nine_planned (nine_receptions 6) nine_taken.1.0).beyond nine_taken.1.1
    (repeater 1008) (λ j few. no_chain next_in_line nine_addresses 1008 8 nine_none j (omega arith))

-- A DESTINATION
addressed_checked : are_taken four_in_line next_in_line (fresh (report_to 1002) reading) (reception 1 0 ∷ reception 2 1 ∷ [])
    (on_the_air four_in_line (fresh (report_to 1002) reading) (reception 1 0 ∷ reception 2 1 ∷ [])) ≡ true
unfolding are_taken distinct absent all below happens within last_or written flood answer sends fresh fresh_header encode header_bytes path_bytes repeated
    repeat_number stop_fault node_or_reading_fault node_fault first_fault fault_of low_above_high read_of header_of drop_fault echo_fault pass_fault repeat_fault
    addresses_at in_path ◌gives◌ ◌or_else◌
addressed_checked = refl

pub addressed_taken : TakenByAll next_in_line four_in_line (fresh (report_to 1002) reading) (reception 1 0 ∷ reception 2 1 ∷ [])
    × ByNoOther next_in_line four_in_line (fresh (report_to 1002) reading) (reception 1 0 ∷ reception 2 1 ∷ [])
addressed_taken =
    checked four_in_line next_in_line (fresh (report_to 1002) reading) (reception 1 0 ∷ reception 2 1 ∷ [])
    (on_the_air four_in_line (fresh (report_to 1002) reading) (reception 1 0 ∷ reception 2 1 ∷ [])) refl addressed_checked

pub addressed_answers : answers_of four_in_line (report_to 1002) (reception 1 0 ∷ reception 2 1 ∷ []) ≡ (1001 ∷ 39 ∷ 0 ∷ []) ∷ (1002 ∷ 0 ∷ 1 ∷ reading) ∷ []
unfolding answers_along answer_line answer_of delivery_number taken delivery_fault flood answer sends fresh fresh_header encode header_bytes path_bytes repeated
    repeat_number stop_fault node_or_reading_fault node_fault first_fault fault_of low_above_high read_of header_of drop_fault echo_fault pass_fault repeat_fault addresses_at
    in_path ◌gives◌ ◌or_else◌
addressed_answers = refl

pub addressed_ends : map (ends (hears_through next_in_line (fresh_header (report_to 1002) 1) four_in_line) (map address four_in_line) 1000) (0 ∷ 1 ∷ 2 ∷ 3 ∷ [])
    ≡ (1000 ∷ []) ∷ (1001 ∷ []) ∷ (1002 ∷ []) ∷ [] ∷ []
unfolding ends hearers hears_one hears_through in_path repeaters keep can_repeat fresh_header node_fault first_fault fault_of low_above_high pass_fault ◌gives◌ ◌or_else◌
addressed_ends = refl

-- FAILURES
pub line_failure : map (ends (usable_hearing line_pairs (replicate 4 0) 0 1) (places_of_nodes 4) 0) (0 ∷ 1 ∷ 2 ∷ 3 ∷ []) ≡ (0 ∷ []) ∷ [] ∷ [] ∷ [] ∷ []
unfolding ends hearers hears_one usable_hearing is_heard is_usable is_unmarked places_of_nodes
line_failure = refl

pub two_ways_failure : (map (ends (usable_hearing two_ways_pairs (replicate 5 0) 0 no_node) (places_of_nodes 5) 0) (0 ∷ 1 ∷ 2 ∷ [])
    ≡ (0 ∷ []) ∷ (3 ∷ 1 ∷ []) ∷ (4 ∷ 2 ∷ 0 ∷ []) ∷ [])
    × (map (ends (usable_hearing two_ways_pairs (replicate 5 0) 0 3) (places_of_nodes 5) 0) (0 ∷ 1 ∷ 2 ∷ 3 ∷ [])
    ≡ (0 ∷ []) ∷ (1 ∷ []) ∷ (2 ∷ 0 ∷ []) ∷ (4 ∷ 1 ∷ []) ∷ [])
unfolding ends hearers hears_one usable_hearing is_heard is_usable is_unmarked places_of_nodes
two_ways_failure = (refl, refl)

pub found_limits : (are_found 255 254 255 ≡ true) × (are_found 256 0 256 ≡ false) × (are_found 3 3 3 ≡ false)
unfolding are_found
found_limits = (refl, refl, refl)

-- THE PAIRS, place by place
agree : Bool → Bool → Bool
agree true there = there
agree false there = not there

agree_same : (here there : Bool) → agree here there ≡ true → here ≡ there
unfolding agree
agree_same true there e = sym e
agree_same false true e = e
agree_same false false e = refl

module _ (pairs : List ℕ) (hears : ℕ → ℕ → Bool) (nodes : List Repeater) where
  abbrev same_at : ℕ → ℕ → Bool
  same_at i j = agree (is_heard pairs i j) (hears (at (map address nodes) i) (at (map address nodes) j))

  says_all : below (λ i. below (λ j. same_at i j) (length nodes)) (length nodes) ≡ true → Says pairs hears nodes
  says_all e i j first second =
      agree_same _ _
      (below_pass (λ k. same_at i k) (length nodes) (below_pass (λ k. below (λ l. same_at k l) (length nodes)) (length nodes) e i first) j second)

line_checked : below (λ i. below (λ j. same_at line_pairs next_in_line four_in_line i j) 4) 4 ≡ true
unfolding below agree is_heard
line_checked = refl

pub line_says : Says line_pairs next_in_line four_in_line
line_says = says_all line_pairs next_in_line four_in_line line_checked

two_ways_checked : below (λ i. below (λ j. same_at two_ways_pairs two_ways (map repeater two_ways_addresses) i j) 5) 5 ≡ true
unfolding below agree is_heard written in_path
two_ways_checked = refl

pub two_ways_says : Says two_ways_pairs two_ways (map repeater two_ways_addresses)
two_ways_says = says_all two_ways_pairs two_ways (map repeater two_ways_addresses) two_ways_checked
