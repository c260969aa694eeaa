-- Document 02, W-201, as one record; `proofs/StationsHeard.antt` gives it from its parts.
use Rattle.std.specs.Prelude.{ℕ, ◌≤◌, ◌<◌, true, false, ◌||◌, List, [], ◌≡◌, length}
use Rattle.octets.specs.Octets.{at}
use Rattle.pdu.specs.Header.{header_of}
use Rattle.decision.specs.Decision.{Node, is_echo, is_own_report}
use Rattle.node.specs.declared.Answer.{Answer}
use Rattle.node.specs.Answers.{node_or_reading_fault, answer_of, output_after}
use Rattle.stations.specs.Table.{memory_length, table_in, addresses, place_of, is_held}
use Rattle.stations.specs.Asking.{station_of, found_at}
use Rattle.stations_update.specs.declared.Heard.{Heard}
use Rattle.stations_update.specs.Counting.{count_number, memory_after_count}
use Rattle.stations_update.specs.Removing.{removal_number, memory_after_removal}
use Rattle.node_stations.specs.CountedAnswers.{was_read, heard_of, answer_number, memory_after_answer}
use Rattle.node_stations.specs.History.{TableOperation, table_memory, since, shown_by, Rises}
use Rattle.boundary.specs.declared.a_node.MantListened.{MantListened}
use Rattle.boundary.specs.Boundary.{answer_in_c, ListensInC}

pub record StationsHeard : Type 0 where
  -- I. WHAT 02 ASKS
  -- a PDU was read where the edition is known, no list is at fault and reading refused nothing, and nowhere else; it is an echo where echo dropped it,
  -- by its path or, W-203, by its source
  pub read : (node : Node) (room : ℕ) (received : List ℕ) → node_or_reading_fault node received ≡ 0
      → (was_read (answer_of node room received) ≡ true)
      × ((heard_of (answer_of node room received) received).echo
      ≡ (is_echo node.settings (header_of received) received || is_own_report node.settings (header_of received)))
  pub read_only : (node : Node) (room : ℕ) (received : List ℕ) → was_read (answer_of node room received) ≡ true → node_or_reading_fault node received ≡ 0
  -- where it was read, it is counted, by its source, its path bit and its path count
  pub counted : (answer : Answer) (received memory : List ℕ) → was_read answer ≡ true
      → (answer_number answer received memory ≡ count_number (heard_of answer received) memory)
      × (memory_after_answer answer received memory ≡ memory_after_count (heard_of answer received) memory)
  pub heard : (answer : Answer) (received : List ℕ) → let returned = heard_of answer received in
      (returned.source ≡ (header_of received).source) × (returned.path_bit ≡ (header_of received).path_bit)
      × (returned.path_count ≡ (header_of received).path_count)
  -- where it was not read, with 17 as with a fault of the lists or of reading, nothing is counted
  pub not_read : (node : Node) (room : ℕ) (received memory : List ℕ) → (node_or_reading_fault node received ≡ 0 → ⊥)
      → let answer = answer_of node room received in (answer_number answer received memory ≡ 0) × (memory_after_answer answer received memory ≡ memory)
  -- a memory is 513 words; any memory holds at most 128 stations, and none where its first word is 0
  pub sized : memory_length ≡ 513
  pub at_most_128 : (memory : List ℕ) → length (table_in memory) ≤ 128
  pub empty : (memory : List ℕ) → at memory 0 ≡ 0 → table_in memory ≡ []
  -- one from a station that is held, or while fewer than 128 are, is counted; any other is answered 55, and the table stays as it was
  pub counted_held : (heard : Heard) (memory : List ℕ) → is_held heard.source (addresses (table_in memory)) ≡ true → count_number heard memory ≡ 0
  pub counted_new : (heard : Heard) (memory : List ℕ) → length (table_in memory) < 128 → count_number heard memory ≡ 0
  pub full : (heard : Heard) (memory : List ℕ) → is_held heard.source (addresses (table_in memory)) ≡ false
      → length (table_in memory) ≡ 128 → (count_number heard memory ≡ 55) × (memory_after_count heard memory ≡ memory)
  -- so in 02's words: 55 exactly if the station is new and 128 are held
  pub fifty_five_exactly : (heard : Heard) (memory : List ℕ)
      → let full = (is_held heard.source (addresses (table_in memory)) ≡ false) × (length (table_in memory) ≡ 128) in
      (count_number heard memory ≡ 55 → full) × (full → count_number heard memory ≡ 55)
  pub full_unchanged : (answer : Answer) (received memory : List ℕ) → answer_number answer received memory ≡ 55
      → memory_after_answer answer received memory ≡ memory
  -- removing: 0 for a station that is held; else 56, and the table stays as it was
  pub removed : (address : ℕ) (memory : List ℕ) → is_held address (addresses (table_in memory)) ≡ true → removal_number address (table_in memory) ≡ 0
  pub not_removed : (address : ℕ) (memory : List ℕ) → is_held address (addresses (table_in memory)) ≡ false
      → (removal_number address (table_in memory) ≡ 56) × (memory_after_removal address memory ≡ memory)
  -- after any countings, hearings and removals from an empty table, whatever node heard: its first word says how many are held, at most 128
  pub limit : (memory : List ℕ) → at memory 0 ≡ 0 → (deeds : List TableOperation)
      → (at (table_memory memory deeds) 0 ≡ length (table_in (table_memory memory deeds))) × (at (table_memory memory deeds) 0 ≤ 128)
  -- the addresses rise strictly
  pub rises : (memory : List ℕ) → at memory 0 ≡ 0 → (deeds : List TableOperation) → Rises (addresses (table_in (table_memory memory deeds)))
  -- and every address shows what was counted from it since it was last taken in, or 56 where that is nothing
  pub shows : (memory : List ℕ) → at memory 0 ≡ 0 → (deeds : List TableOperation) (address : ℕ)
      → station_of address (table_in (table_memory memory deeds)) ≡ shown_by address (since memory address deeds)
  -- the listing has the stations in that order, each as its address shows it, and answers 56 past the last
  pub listed : (memory : List ℕ) → at memory 0 ≡ 0 → (deeds : List TableOperation) (i : ℕ)
      → let stations = table_in (table_memory memory deeds) in
      (i < length stations → found_at i stations ≡ station_of (at (addresses stations) i) stations)
      × (length stations ≤ i → (found_at i stations).number ≡ 56)
  -- II. CASE BY CASE, what the definitions say
  -- among addresses that rise, the place of one has all the lower ones before it and none of them behind it
  pub place : (address : ℕ) (known : List ℕ) → Rises known → length known ≤ 128
      → ((i : ℕ) → i < place_of address known → at known i < address)
      × ((i : ℕ) → place_of address known ≤ i → i < length known → address ≤ at known i)
      × (place_of address known ≤ length known)
  -- it is held where it stands, and not where it stands nowhere
  pub held : (address : ℕ) (known : List ℕ) → Rises known → length known ≤ 128 → (i : ℕ) → i < length known → at known i ≡ address
      → (place_of address known ≡ i) × (is_held address known ≡ true)
  pub not_held : (address : ℕ) (known : List ℕ) → Rises known → length known ≤ 128 → ((i : ℕ) → i < length known → at known i ≡ address → ⊥)
      → is_held address known ≡ false
  -- III. IN C
  -- where a PDU is heard and counted, C sees the node's answer and output, the number of counting it, and the table after it
  pub listened_in_c : (node : Node) (received output memory left after : List ℕ) (returned : MantListened)
      → ListensInC node received output memory returned left after
      → let answer = answer_of node (length output) received in
      (returned.answer ≡ answer_in_c answer) × (left ≡ output_after node received output)
      × (returned.table_number ≡ answer_number answer received memory) × (after ≡ memory_after_answer answer received memory)
