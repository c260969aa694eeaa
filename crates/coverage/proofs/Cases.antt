-- W-208's worked cases, computed over real bytes: the runs are such as the theorem asks, and what they come to. Assumes nothing.
use mathlib.Core.Path.{◌≡◌, refl, ap, sym, subst}
use mathlib.Core.Bool.{Bool, true, false, not, ◌&&◌}
use mathlib.Core.List.Memᴰ
use mathlib.Core.List.{List, [], ◌∷◌, map, Memᴰ, Nodup, Nodup-nil}
use Prim.Native.Nat.{ℕ, zero, suc, ◌+◌, ◌*◌, ◌≤◌, ◌<◌}
use native.Mathlib.Omega.{arith}
use borrow.Author.Tests.{ltb-true}
use lib.Dec.{ltb}
use lib.ListN.{length}
use Rattle.octets.specs.Numbers.{◌gives◌, ◌or_else◌}
use Rattle.octets.proofs.Tests.{both}
use Rattle.pdu.specs.Header.{header_of}
use Rattle.pdu.specs.Reading.{read_of}
use Rattle.pdu.specs.Parts.{addresses_at, in_path, last_or}
use Rattle.writing.specs.Writing.{header_bytes, path_bytes, encode}
use Rattle.lists.specs.Lists.{low_above_high, fault_of, first_fault}
use Rattle.chains.specs.Chains.{hears_one, hearers, ends, Chain, Shortest}
use Rattle.origin.specs.Origination.{fresh_header, fresh}
use Rattle.decision.specs.Decision.{echo_fault, pass_fault, drop_fault, delivery_fault, repeat_fault}
use Rattle.node.specs.Repeat.{repeated}
use Rattle.node.specs.Answers.{node_fault, node_or_reading_fault, stop_fault, delivery_number, repeat_number, taken, answer_of}
use Rattle.node.proofs.Heard.{not_in_path}
use Rattle.flood.specs.Air.{Repeater, Open, address, sends, on_the_air}
use Rattle.flood.specs.Flood.{flood, answer}
use Rattle.flood.proofs.Examples.{plain_nodes, plain_open, asked_taken}
use Rattle.flood.proofs.Lists.{nodup_more}
use Rattle.flood.proofs.Others.{others_are}
use Rattle.coverage.specs.Hearing.{TakenByAll, ByNoOther}
use Rattle.coverage.specs.Delivery.{Planned, Delivered}
use Rattle.coverage.specs.Cases.{report_asked, reading, repeater, answer_line, answers_along, answers_of_each, next_in_line, line_addresses, line_receptions}
use Rattle.coverage.specs.Cases.{line_air}
use Rattle.coverage.specs.Cases.{line_answers, written, two_ways, two_ways_addresses, longer_first}
use Rattle.coverage.proofs.Checked.{absent, distinct, all, all_pass, below, below_pass, happens, are_taken, checked}
use Rattle.coverage.proofs.Planned.{by_shortest, reach}
use Rattle.coverage.proofs.Schedule.{within}

not_true : (t : Bool) → not t ≡ true → t ≡ false
not_true true e = sym e
not_true false e = refl

-- addresses that differ
unfoldable pub differing : List ℕ → Bool
differing [] = true
differing (a ∷ later) = not (in_path a later) && differing later

differ : (addresses : List ℕ) → differing addresses ≡ true → Nodup addresses
unfolding differing
differ [] e = Nodup-nil
differ (a ∷ later) e =
    let (new, rest) = both _ _ e in
    nodup_more (not_in_path a later (not_true (in_path a later) new)) (differ later rest)

report_length : (hop : ℕ) → length (fresh (report_asked hop) reading) ≡ 8
unfolding fresh fresh_header encode header_bytes path_bytes
report_length hop = refl

-- what the theorem asks of the message and of the nodes
pub planned : (addresses : List ℕ) → differing addresses ≡ true → all (λ a. ltb a 65536) addresses ≡ true → (hop : ℕ) → hop ≤ 6
    → Planned (map repeater addresses) (report_asked hop) reading 100
planned addresses apart fit hop few =
    record {
      originated = asked_taken hop (omega arith);
      no_destination = refl;
      hops = few;
      network = plain_nodes addresses (differ addresses apart) (λ a m. ltb-true a 65536 (all_pass (λ a. ltb a 65536) addresses fit a m));
      others_open = λ n m. open_all n (others_are address 1000 (map repeater addresses) m).0;
      others_roomy = λ n m. roomy n (others_are address 1000 (map repeater addresses) m).0;
    }
  where
    open_all : (n : Repeater) → Memᴰ n (map repeater addresses) → Open n.node
    open_all n m = let (a, a_in, e) = Memᴰ.of_map repeater addresses m in subst (λ (x : Repeater). Open x.node) e (plain_open true a)

    roomy : (n : Repeater) → Memᴰ n (map repeater addresses) → length (fresh (report_asked hop) reading) + 2 * hop ≤ n.room
    roomy n m =
        let (a, a_in, e) = Memᴰ.of_map repeater addresses m in
        let hundred : n.room ≡ 100 = ap (λ (x : Repeater). x.room) (sym e) in
        omega (arith, hundred, report_length hop)

-- of each hop limit from 0 to 6
each_hop : (P : ℕ → Type 0) → P 0 → P 1 → P 2 → P 3 → P 4 → P 5 → P 6 → (hop : ℕ) → hop ≤ 6 → P hop
each_hop P a b c d e f g zero few = a
each_hop P a b c d e f g (suc zero) few = b
each_hop P a b c d e f g (suc (suc zero)) few = c
each_hop P a b c d e f g (suc (suc (suc zero))) few = d
each_hop P a b c d e f g (suc (suc (suc (suc zero)))) few = e
each_hop P a b c d e f g (suc (suc (suc (suc (suc zero))))) few = f
each_hop P a b c d e f g (suc (suc (suc (suc (suc (suc zero)))))) few = g
each_hop P a b c d e f g (suc (suc (suc (suc (suc (suc (suc hop))))))) few = absurd (omega arith)

-- THE LINE
pub line_planned : (hop : ℕ) → hop ≤ 6 → Planned (map repeater line_addresses) (report_asked hop) reading 100
unfolding differing in_path all
line_planned = planned line_addresses refl refl

pub line_air_lem : (hop : ℕ) → hop ≤ 6 → on_the_air (map repeater line_addresses) (fresh (report_asked hop) reading) (line_receptions hop) ≡ line_air hop
unfolding flood answer sends fresh fresh_header encode header_bytes path_bytes repeated repeat_number stop_fault node_or_reading_fault node_fault first_fault fault_of
    low_above_high read_of header_of drop_fault echo_fault pass_fault repeat_fault addresses_at in_path ◌gives◌ ◌or_else◌
line_air_lem =
    each_hop (λ hop. on_the_air (map repeater line_addresses) (fresh (report_asked hop) reading) (line_receptions hop) ≡ line_air hop) refl refl refl refl refl refl
    refl

pub line_answers_lem : (hop : ℕ) → hop ≤ 6 → answers_of_each (map repeater line_addresses) hop (line_receptions hop) ≡ line_answers hop
unfolding answers_along answer_line answer_of delivery_number taken delivery_fault flood answer sends fresh fresh_header encode header_bytes path_bytes repeated
    repeat_number stop_fault node_or_reading_fault node_fault first_fault fault_of low_above_high read_of header_of drop_fault echo_fault pass_fault repeat_fault addresses_at
    in_path ◌gives◌ ◌or_else◌
line_answers_lem =
    each_hop (λ hop. answers_of_each (map repeater line_addresses) hop (line_receptions hop) ≡ line_answers hop) refl refl refl refl refl refl refl

abbrev LineChecked : ℕ → Type 0
LineChecked hop = are_taken (map repeater line_addresses) next_in_line (fresh (report_asked hop) reading) (line_receptions hop) (line_air hop) ≡ true

line_checked : (hop : ℕ) → hop ≤ 6 → LineChecked hop
unfolding are_taken distinct absent all below happens within last_or written flood answer sends fresh fresh_header encode header_bytes path_bytes repeated
    repeat_number stop_fault node_or_reading_fault node_fault first_fault fault_of low_above_high read_of header_of drop_fault echo_fault pass_fault repeat_fault
    addresses_at in_path ◌gives◌ ◌or_else◌
line_checked = each_hop LineChecked refl refl refl refl refl refl refl

pub line_taken : (hop : ℕ) → hop ≤ 6 → TakenByAll next_in_line (map repeater line_addresses) (fresh (report_asked hop) reading) (line_receptions hop)
    × ByNoOther next_in_line (map repeater line_addresses) (fresh (report_asked hop) reading) (line_receptions hop)
line_taken hop few =
    checked (map repeater line_addresses) next_in_line (fresh (report_asked hop) reading) (line_receptions hop) (line_air hop)
    (line_air_lem hop few) (line_checked hop few)

-- TWO WAYS, the longer played first
pub two_ways_planned : Planned (map repeater two_ways_addresses) (report_asked 6) reading 100
unfolding differing in_path all
two_ways_planned = planned two_ways_addresses refl refl 6 (omega arith)

pub two_ways_answers : answers_of_each (map repeater two_ways_addresses) 6 longer_first
    ≡ (1 ∷ 0 ∷ 0 ∷ reading) ∷ (1000 ∷ 42 ∷ 1 ∷ []) ∷ (2 ∷ 0 ∷ 1 ∷ reading) ∷ (9 ∷ 0 ∷ 2 ∷ reading) ∷ (4 ∷ 0 ∷ 0 ∷ reading) ∷ (9 ∷ 0 ∷ 1 ∷ reading)
    ∷ (9 ∷ 30 ∷ 3 ∷ []) ∷ (9 ∷ 30 ∷ 2 ∷ []) ∷ []
unfolding answers_along answer_line answer_of delivery_number taken delivery_fault flood answer sends fresh fresh_header encode header_bytes path_bytes repeated
    repeat_number stop_fault node_or_reading_fault node_fault first_fault fault_of low_above_high read_of header_of drop_fault echo_fault pass_fault repeat_fault addresses_at
    in_path ◌gives◌ ◌or_else◌
two_ways_answers = refl

two_ways_checked : are_taken (map repeater two_ways_addresses) two_ways (fresh (report_asked 6) reading) longer_first
    (on_the_air (map repeater two_ways_addresses) (fresh (report_asked 6) reading) longer_first) ≡ true
unfolding are_taken distinct absent all below happens within last_or written flood answer sends fresh fresh_header encode header_bytes path_bytes repeated
    repeat_number stop_fault node_or_reading_fault node_fault first_fault fault_of low_above_high read_of header_of drop_fault echo_fault pass_fault repeat_fault
    addresses_at in_path ◌gives◌ ◌or_else◌
two_ways_checked = refl

pub two_ways_taken : TakenByAll two_ways (map repeater two_ways_addresses) (fresh (report_asked 6) reading) longer_first
    × ByNoOther two_ways (map repeater two_ways_addresses) (fresh (report_asked 6) reading) longer_first
two_ways_taken =
    checked (map repeater two_ways_addresses) two_ways (fresh (report_asked 6) reading) longer_first
    (on_the_air (map repeater two_ways_addresses) (fresh (report_asked 6) reading) longer_first) refl two_ways_checked

-- chains
pub line_ends : map (ends next_in_line line_addresses 1000) (0 ∷ 1 ∷ 2 ∷ 3 ∷ 4 ∷ 5 ∷ 6 ∷ 7 ∷ 8 ∷ [])
    ≡ (1000 ∷ []) ∷ (1001 ∷ []) ∷ (1002 ∷ []) ∷ (1003 ∷ []) ∷ (1004 ∷ []) ∷ (1005 ∷ []) ∷ (1006 ∷ []) ∷ (1007 ∷ []) ∷ [] ∷ []
unfolding ends hearers hears_one
line_ends = refl

pub two_ways_ends : map (ends two_ways two_ways_addresses 1000) (0 ∷ 1 ∷ 2 ∷ 3 ∷ [])
    ≡ (1000 ∷ []) ∷ (1 ∷ 4 ∷ []) ∷ (1000 ∷ 2 ∷ 9 ∷ []) ∷ (1 ∷ 4 ∷ 9 ∷ []) ∷ []
unfolding ends hearers hears_one written in_path
two_ways_ends = refl

-- THE THEOREM OF THESE RUNS. An address that no chain of so many hearings leads to, by computation.
module _ (hears : ℕ → ℕ → Bool) (addresses : List ℕ) (to : ℕ) where
  pub no_chain : (k : ℕ) → below (λ j. not (in_path to (ends hears addresses 1000 j))) k ≡ true → (j : ℕ) → j < k → ¬ Chain hears addresses 1000 to j
  no_chain k e j few =
      not_in_path to (ends hears addresses 1000 j)
      (not_true (in_path to (ends hears addresses 1000 j)) (below_pass (λ j. not (in_path to (ends hears addresses 1000 j))) k e j few))

  pub shortest_is : (k : ℕ) → below (λ j. not (in_path to (ends hears addresses 1000 j))) k ≡ true → Chain hears addresses 1000 to k
      → Shortest hears addresses 1000 to k
  shortest_is k e c = record { chain = c; none_shorter = no_chain k e }

line_shortest : Shortest next_in_line (map address (map repeater line_addresses)) 1000 1003 3
unfolding below in_path ends hearers hears_one
line_shortest = shortest_is next_in_line line_addresses 1003 3 refl (Memᴰ.head refl)

line_none : below (λ j. not (in_path 1004 (ends next_in_line line_addresses 1000 j))) 4 ≡ true
unfolding below in_path ends hearers hears_one
line_none = refl

two_ways_shortest : Shortest two_ways (map address (map repeater two_ways_addresses)) 1000 9 2
unfolding below in_path ends hearers hears_one written
two_ways_shortest = shortest_is two_ways two_ways_addresses 9 2 refl (Memᴰ.tail (Memᴰ.tail (Memᴰ.head refl)))

-- at hop limit 2 the third node of the line is delivered the payload, and the fourth nothing
pub line_delivered : Delivered (map repeater line_addresses) (fresh (report_asked 2) reading) (line_receptions 2) (repeater 1003) reading 2
line_delivered =
    by_shortest next_in_line (map repeater line_addresses) (report_asked 2) reading 100 (line_planned 2 (omega arith)) (line_receptions 2)
    (line_taken 2 (omega arith)).0 (repeater 1003) (Memᴰ.tail (Memᴰ.tail (Memᴰ.tail (Memᴰ.head refl))))
    (λ (e : 1003 ≡ 1000). omega arith) 3 (omega arith) line_shortest

pub line_beyond : (what : List ℕ) (count : ℕ)
    → ¬ Delivered (map repeater line_addresses) (fresh (report_asked 2) reading) (line_receptions 2) (repeater 1004) what count
line_beyond =
    (reach next_in_line (map repeater line_addresses) (report_asked 2) reading 100 (line_planned 2 (omega arith)) (line_receptions 2)
    (line_taken 2 (omega arith)).0).beyond (line_taken 2 (omega arith)).1 (repeater 1004)
    (λ j few. no_chain next_in_line line_addresses 1004 4 line_none j (omega arith))

-- 9 is delivered it with the shorter way's count, and the originator not at all
pub two_ways_delivered : Delivered (map repeater two_ways_addresses) (fresh (report_asked 6) reading) longer_first (repeater 9) reading 1
two_ways_delivered =
    by_shortest two_ways (map repeater two_ways_addresses) (report_asked 6) reading 100 two_ways_planned longer_first two_ways_taken.0
    (repeater 9) (Memᴰ.tail (Memᴰ.tail (Memᴰ.tail (Memᴰ.tail (Memᴰ.head refl))))) (λ (e : 9 ≡ 1000). omega arith) 2 (omega arith)
    two_ways_shortest

pub two_ways_originator : (what : List ℕ) (count : ℕ)
    → ¬ Delivered (map repeater two_ways_addresses) (fresh (report_asked 6) reading) longer_first (repeater 1000) what count
two_ways_originator =
    (reach two_ways (map repeater two_ways_addresses) (report_asked 6) reading 100 two_ways_planned longer_first two_ways_taken.0).originator (repeater 1000) refl
