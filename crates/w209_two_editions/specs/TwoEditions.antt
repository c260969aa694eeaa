-- Document 02, W-209, as one record; `proofs/TwoEditions.antt` gives it from its parts. `edition` is any number that a caller gives for one. What holds under
-- both editions is stated once, with that number as a variable.
use Rattle.std.specs.Prelude.{Ok, Err, None, Some}
use Rattle.std.specs.Prelude.{ℕ, ◌+◌, ◌/◌, ◌%◌, ◌<◌, ◌≤◌, Bool, true, false, cond, ◌&&◌, List, [], ◌∷◌, ◌++◌, map, ◌⊎◌, ◌≡◌, eqb, length, take, drop, replicate}
use Rattle.octets.specs.Octets.{AllBytes, at, over}
use Rattle.pdu.specs.declared.Destination.TheVariants.{Everyone, Address}
use Rattle.pdu.specs.declared.Header.{Header}
use Rattle.pdu.specs.declared.Refusal.{Refusal}
use Rattle.pdu.specs.Sizes.{destination_flag, pdu_length}
use Rattle.pdu.specs.Reading.{read_of, refusal_number}
use Rattle.editions.specs.declared.Bits.{Bits}
use Rattle.editions.specs.declared.Bits.TheVariants.{Reserved, Flagged}
use Rattle.editions.specs.declared.Shown.{Shown}
use Rattle.editions.specs.Editions.{known, bits_under, shown_with, read_under, shown_number, wire_of, write_again_under, written_again_under}
use Rattle.view.specs.declared.Span.{Span}
use Rattle.view.specs.declared.Summary.{Summary}
use Rattle.view.specs.View.{path_address_in, path_has, summary_at}
use Rattle.origin.specs.declared.FreshSettings.{FreshSettings}
use Rattle.origin.specs.Origination.{fresh_header, fresh, origination_number, originated, originated_output}
use Rattle.list_block.specs.Laying.{eight}
use Rattle.decision.specs.Decision.{Node, node_of}
use Rattle.node.specs.Editions.{with_edition}
use Rattle.node.specs.Repeat.{repeated}
use Rattle.node.specs.Answers.{repeat_number, answer_of, given_twice, output_after}
use Rattle.batch.specs.declared.Cursor.{Cursor}
use Rattle.batch.specs.declared.Stepped.TheVariants.{Ended, Answered}
use Rattle.batch.specs.Walk.{is_done, step_of, step_output, walk}
use Rattle.job.specs.declared.Job.{Job}
use Rattle.job.specs.Jobs.{node_in}
use Rattle.run.specs.Run.{batch_lines}
use Rattle.node_stations.specs.CountedAnswers.{answer_number, memory_after_answer}
use Rattle.boundary.specs.declared.a_node.MantNode.{MantNode}
use Rattle.boundary.specs.declared.originating.MantFresh.{MantFresh}
use Rattle.boundary.specs.Boundary.{header_in_c, node_from_c, fresh_from_c}
use Rattle.base_worked_examples.specs.WorkedExamples.{node_at}

-- settings with another edition and another encrypted flag; all else in them is as it was
abbrev pub set_to : ℕ → Bool → FreshSettings → FreshSettings
set_to edition encrypted settings =
    record {
      edition = edition;
      source = settings.source;
      destination = settings.destination;
      hop_limit = settings.hop_limit;
      port = settings.port;
      time_stamp_request = settings.time_stamp_request;
      with_path = settings.with_path;
      reliable = settings.reliable;
      pdu_id = settings.pdu_id;
      encrypted = encrypted;
    }

-- For the worked cases: a PDU with every field; and one of 6 bytes whose three bits after the port are all set
abbrev pub every_field : List ℕ
every_field =
    0x0F ∷ 0x9D ∷ 0xD0 ∷ 0x02 ∷ 0x03 ∷ 0xE8 ∷ 0x06 ∷ 0x40 ∷ 0x55 ∷ 0x01 ∷ 0x07 ∷ 0xD0 ∷ 0xAA ∷ 0xBB ∷ []

abbrev pub all_set : List ℕ
all_set = 0x00 ∷ 0x0E ∷ 0x00 ∷ 0x00 ∷ 0x00 ∷ 0x05 ∷ []

-- a span that no PDU of theirs has, with that number
abbrev pub span_with : ℕ → Span
span_with number = record { number = number; path_count = 2; payload_length = 3; header_length = 1; pdu_length = 9 }

-- a batch one byte longer than a batch may be; a node with no list chosen, and one whose first source pass list has one value, which is fault 21
abbrev pub too_long : List ℕ
too_long = replicate 16385 0

abbrev pub at2000 : Node
at2000 = node_at 2000 true false

abbrev pub at_fault : Node
at_fault = node_of at2000.settings (eight (5 ∷ []) [] [] [] [] [] [] [])

-- settings with the edition, the encrypted flag, the hop limit and the reliable service that are asked, for everyone
abbrev pub settings_for : ℕ → Bool → ℕ → Bool → FreshSettings
settings_for edition encrypted hop reliable =
    record {
      edition = edition;
      source = 5;
      destination = Everyone;
      hop_limit = hop;
      port = 0;
      time_stamp_request = false;
      with_path = false;
      reliable = reliable;
      pdu_id = 0;
      encrypted = encrypted;
    }

pub record TwoEditions : Type 0 where
  -- I. WHAT 02 ASKS
  -- 11 is 1.1 and 12 is 1.2; no other number is an edition
  pub two : (known 11 ≡ true) × (known 12 ≡ true)
  pub only_two : (edition : ℕ) → known edition ≡ true → (edition ≡ 11) ⊎ (edition ≡ 12)
  -- reading: 17 for exactly those, before 1 to 6
  pub read_17 : (edition : ℕ) (bytes : List ℕ) → known edition ≡ false → read_under edition bytes ≡ Err 17
  pub read_17_only : (edition : ℕ) (bytes : List ℕ) → read_under edition bytes ≡ Err 17 → known edition ≡ false
  pub read_refused : (edition : ℕ) (bytes : List ℕ) (refusal : Refusal) → known edition ≡ true → read_of bytes ≡ Err refusal
      → read_under edition bytes ≡ Err (refusal_number refusal)
  -- 1.1 shows one reserved number, 0 to 7, and no flag; 1.2 the flag and a reserved number, 0 to 3; the other fields are the wire's in both
  pub read_11 : (bytes : List ℕ) (header : Header) → read_of bytes ≡ Ok header
      → read_under 11 bytes ≡ Ok (shown_with (Reserved (at bytes 1 / 2 % 8)) header)
  pub read_12 : (bytes : List ℕ) (header : Header) → read_of bytes ≡ Ok header
      → read_under 12 bytes ≡ Ok (shown_with (Flagged header.encrypted header.reserved) header)
  pub shown_as_11 : (bytes : List ℕ) (shown : Shown) → read_under 11 bytes ≡ Ok shown → (number : ℕ) × (shown.bits ≡ Reserved number) × (number ≤ 7)
  pub shown_as_12 : (bytes : List ℕ) (shown : Shown) → read_under 12 bytes ≡ Ok shown
      → (encrypted : Bool) × (number : ℕ) × (shown.bits ≡ Flagged encrypted number) × (number ≤ 3)
  -- what is shown under an edition is all that the wire says
  pub shows_the_wire : (edition : ℕ) (bytes : List ℕ) (shown : Shown) → read_under edition bytes ≡ Ok shown → read_of bytes ≡ Ok (wire_of shown)
  -- so what is read under an edition and written again under it is the same bytes; with a refusal of reading, and then with 14, nothing is written
  pub same_bytes : (edition : ℕ) (bytes output : List ℕ) (shown : Shown) → AllBytes bytes → read_under edition bytes ≡ Ok shown
      → pdu_length (wire_of shown) ≤ length output
      → (write_again_under edition bytes (length output) ≡ record { number = 0; length = pdu_length (wire_of shown) })
      × (written_again_under edition bytes output ≡ over (take (pdu_length (wire_of shown)) bytes) output)
  pub not_read : (edition : ℕ) (bytes output : List ℕ) (number : ℕ) → read_under edition bytes ≡ Err number
      → (write_again_under edition bytes (length output) ≡ record { number = number; length = 0 }) × (written_again_under edition bytes output ≡ output)
  pub no_room : (edition : ℕ) (bytes output : List ℕ) (shown : Shown) → read_under edition bytes ≡ Ok shown
      → length output < pdu_length (wire_of shown)
      → (write_again_under edition bytes (length output) ≡ record { number = 14; length = 0 }) × (written_again_under edition bytes output ≡ output)
  -- a node: 17 twice for exactly those editions, whatever its lists and the bytes are; nothing is taken and the output stays as it was
  pub hears_17 : (node : Node) (room : ℕ) (received output : List ℕ) → known node.settings.edition ≡ false
      → (answer_of node room received ≡ given_twice 17 0 None) × (output_after node received output ≡ output)
  pub hears_17_only : (node : Node) (room : ℕ) (received : List ℕ)
      → ((answer_of node room received).delivery ≡ 17) ⊎ ((answer_of node room received).repeat ≡ 17) → known node.settings.edition ≡ false
  -- a step: 17 ends the walk at the same place, also where the batch is too long; a cursor that is done has no answer
  pub steps_17 : (node : Node) (room : ℕ) (batch output : List ℕ) (cursor : Cursor) → known node.settings.edition ≡ false
      → is_done batch cursor ≡ false
      → (step_of node room batch cursor ≡ Answered (given_twice 17 0 None) (record { place = cursor.place; ended = true }))
      × (step_output node batch cursor output ≡ output)
  pub steps_done : (node : Node) (room : ℕ) (batch output : List ℕ) (cursor : Cursor) → known node.settings.edition ≡ false
      → is_done batch cursor ≡ true → (step_of node room batch cursor ≡ Ended) × (step_output node batch cursor output ≡ output)
  -- the whole walk: 17 is its only answer; an empty batch has none, whatever the edition
  pub walks_17 : (node : Node) (room byte : ℕ) (bytes : List ℕ) → known node.settings.edition ≡ false
      → walk node room (byte ∷ bytes) ≡ record { number = 0; offsets = 0 ∷ []; answers = given_twice 17 0 None ∷ []; end = 0 }
  pub walks_empty : (node : Node) (room : ℕ) → walk node room [] ≡ record { number = 0; offsets = []; answers = []; end = 0 }
  -- repeating is byte for byte the same under both: only that check, and 54 after it, read the edition, and under two that are known a node has the same
  -- answer, output, step and walk
  pub same : (node : Node) (edition other : ℕ) → known edition ≡ true → known other ≡ true
      → (room : ℕ) (received batch output : List ℕ) (cursor : Cursor) → let a = with_edition edition node in let b = with_edition other node in
      (answer_of a room received ≡ answer_of b room received) × (output_after a received output ≡ output_after b received output)
      × (step_of a room batch cursor ≡ step_of b room batch cursor) × (step_output a batch cursor output ≡ step_output b batch cursor output)
      × (walk a room batch ≡ walk b room batch)
  -- and the three bits of a repeat show as those received, whatever follows it and whichever edition the reader has
  pub bits_kept : (edition : ℕ) (node : Node) (room : ℕ) (received rest : List ℕ) (shown : Shown) → AllBytes received
      → read_under edition received ≡ Ok shown → repeat_number node room received ≡ 0
      → (again : Shown) × (read_under edition (repeated node.settings.own received ++ rest) ≡ Ok again) × (again.bits ≡ shown.bits)
  -- origination: 17 for exactly those editions, before 10 to 13; 16 where 1.1 is asked for the flag, after 13 and before 14, and nowhere else
  pub originated_17 : (settings : FreshSettings) (payload output : List ℕ) → known settings.edition ≡ false
      → (originated settings payload (length output) ≡ record { number = 17; length = 0 }) × (originated_output settings payload output ≡ output)
  pub originated_17_only : (settings : FreshSettings) (payload : List ℕ) (room : ℕ) → origination_number settings payload room ≡ 17
      → known settings.edition ≡ false
  pub originated_16 : (settings : FreshSettings) (payload output : List ℕ) → settings.edition ≡ 11 → settings.encrypted ≡ true
      → settings.hop_limit ≤ 7 → settings.port ≤ 15 → length payload ≤ 4095
      → (settings.reliable && eqb (destination_flag settings.destination) 0) ≡ false
      → (originated settings payload (length output) ≡ record { number = 16; length = 0 }) × (originated_output settings payload output ≡ output)
  pub originated_16_only : (settings : FreshSettings) (payload : List ℕ) (room : ℕ) → origination_number settings payload room ≡ 16
      → (settings.edition ≡ 11) × (settings.encrypted ≡ true) × (settings.hop_limit ≤ 7) × (settings.port ≤ 15) × (length payload ≤ 4095)
      × ((settings.reliable && eqb (destination_flag settings.destination) 0) ≡ false)
  -- without the flag, answer and output are the same under both; with it under 1.2, the answer is as without it, and byte 1 is larger by 8
  pub originated_same : (settings : FreshSettings) (payload output : List ℕ) (edition other : ℕ) → known edition ≡ true → known other ≡ true
      → (originated (set_to edition false settings) payload (length output) ≡ originated (set_to other false settings) payload (length output))
      × (originated_output (set_to edition false settings) payload output ≡ originated_output (set_to other false settings) payload output)
  pub flag_alone : (settings : FreshSettings) (payload : List ℕ) (room : ℕ) → let plain = fresh (set_to 12 false settings) payload in
      (originated (set_to 12 true settings) payload room ≡ originated (set_to 12 false settings) payload room)
      × (fresh (set_to 12 true settings) payload ≡ take 1 plain ++ (at plain 1 + 8) ∷ drop 2 plain)
  -- what was originated shows the flag as it was set under 1.2, and no reserved bit under 1.1
  pub fresh_12 : (settings : FreshSettings) (payload rest : List ℕ) (room : ℕ) → origination_number settings payload room ≡ 0
      → read_under 12 (fresh settings payload ++ rest) ≡ Ok (shown_with (Flagged settings.encrypted 0) (fresh_header settings (length payload)))
  pub fresh_11 : (settings : FreshSettings) (payload rest : List ℕ) (room : ℕ) → origination_number settings payload room ≡ 0 → settings.edition ≡ 11
      → read_under 11 (fresh settings payload ++ rest) ≡ Ok (shown_with (Reserved 0) (fresh_header settings (length payload)))
  -- II. CASE BY CASE, what the definitions say
  -- a header as it is shown: the three bits, and the other fields as the wire has them
  pub fields : (bits : Bits) (header : Header) → let shown = shown_with bits header in
      (shown.bits ≡ bits) × (shown.protocol ≡ header.protocol) × (shown.time_stamp_request ≡ header.time_stamp_request)
      × (shown.path_bit ≡ header.path_bit) × (shown.port ≡ header.port) × (shown.ack ≡ header.ack)
      × (shown.added_header ≡ header.added_header) × (shown.hop_limit ≡ header.hop_limit)
      × (shown.payload_length ≡ header.payload_length) × (shown.source ≡ header.source) × (shown.destination ≡ header.destination)
      × (shown.pdu_id ≡ header.pdu_id) × (shown.path_count ≡ header.path_count)
  -- the number of what reading under an edition shows
  pub numbers : (shown : Shown) (number : ℕ) → (shown_number (Ok shown) ≡ 0) × (shown_number (Err number) ≡ number)
  -- III. BESIDE OTHER REQUESTS, AND IN C
  -- `relay`, whose edition is 1.2, prints the same under both
  pub relay_edition : (bytes : List ℕ) (job : Job) → (node_in bytes job).settings.edition ≡ 12
  pub relays_same : (node : Node) (edition other : ℕ) (batch : List ℕ) → known edition ≡ true → known other ≡ true
      → batch_lines (with_edition edition node) batch ≡ batch_lines (with_edition other node) batch
  -- W-201: with 17 nothing is counted
  pub counts_nothing : (received memory : List ℕ)
      → (answer_number (given_twice 17 0 None) received memory ≡ 0) × (memory_after_answer (given_twice 17 0 None) received memory ≡ memory)
  -- C's header has the flag only where the edition shows one, and a reserved number as it shows it; with a refusal, neither and no length; a node's
  -- edition, and every setting of a fresh PDU, are those that C gives; a destination only with its flag
  pub in_c_reserved : (shown : Shown) (bytes : List ℕ) (number : ℕ) → shown.bits ≡ Reserved number → let header = header_in_c (Ok shown) bytes in
      (header.number ≡ 0) × (header.has_encrypted ≡ false) × (header.encrypted ≡ false) × (header.reserved ≡ number)
  pub in_c_flagged : (shown : Shown) (bytes : List ℕ) (encrypted : Bool) (number : ℕ) → shown.bits ≡ Flagged encrypted number
      → let header = header_in_c (Ok shown) bytes in
      (header.number ≡ 0) × (header.has_encrypted ≡ true) × (header.encrypted ≡ encrypted) × (header.reserved ≡ number)
  pub in_c_refused : (number : ℕ) (bytes : List ℕ) → header_in_c (Err number) bytes
      ≡ record {
        number = number;
        protocol = 0;
        time_stamp_request = false;
        path_bit = false;
        has_destination = false;
        port = 0;
        has_encrypted = false;
        encrypted = false;
        reserved = 0;
        ack = false;
        added_header = false;
        hop_limit = 0;
        payload_length = 0;
        source = 0;
        destination = 0;
        pdu_id = 0;
        path_count = 0;
        has_last_sender = false;
        last_sender = 0;
        header_length = 0;
        pdu_length = 0;
      }
  pub node_in_c : (node : MantNode) → (node_from_c node).edition ≡ node.edition
  pub fresh_in_c : (settings : MantFresh) → let fresh = fresh_from_c settings in
      (fresh.edition ≡ settings.edition) × (fresh.source ≡ settings.source) × (fresh.hop_limit ≡ settings.hop_limit)
      × (fresh.port ≡ settings.port) × (fresh.time_stamp_request ≡ settings.time_stamp_request) × (fresh.with_path ≡ settings.with_path)
      × (fresh.reliable ≡ settings.reliable) × (fresh.pdu_id ≡ settings.pdu_id) × (fresh.encrypted ≡ settings.encrypted)
      × (fresh.destination ≡ cond settings.has_destination (Address settings.destination) Everyone)
  -- IV. WORKED CASES
  -- no other number is an edition, also none that 32 bits would cut to 11
  pub no_other : (known 0 ≡ false) × (known 1 ≡ false) × (known 2 ≡ false) × (known 10 ≡ false) × (known 13 ≡ false) × (known 4294967307 ≡ false)
      × (known 18446744073709551615 ≡ false)
  -- the eight values of the three bits, and none of the bits beside them
  pub all_eight : let bytes : List ℕ = 0x00 ∷ 0x02 ∷ 0x04 ∷ 0x06 ∷ 0x08 ∷ 0x0A ∷ 0x0C ∷ 0x0E ∷ [] in
      (map (bits_under 11) bytes
      ≡ Reserved 0 ∷ Reserved 1 ∷ Reserved 2 ∷ Reserved 3 ∷ Reserved 4 ∷ Reserved 5 ∷ Reserved 6 ∷ Reserved 7 ∷ [])
      × (map (bits_under 12) bytes
      ≡ Flagged false 0 ∷ Flagged false 1 ∷ Flagged false 2 ∷ Flagged false 3 ∷ Flagged true 0 ∷ Flagged true 1 ∷ Flagged true 2 ∷ Flagged true 3 ∷ [])
  pub neighbours_not_shown : (bits_under 11 0xF1 ≡ Reserved 0) × (bits_under 12 0xF1 ≡ Flagged false 0)
  -- 17 before the lists, and before 54
  pub before_lists : (answer_of (with_edition 13 at_fault) 100 all_set ≡ given_twice 17 0 None)
      × (answer_of (with_edition 11 at_fault) 100 all_set ≡ given_twice 21 0 None)
  pub before_54 : ((walk (with_edition 13 at2000) 100 too_long).answers ≡ given_twice 17 0 None ∷ []) × ((walk (with_edition 11 at2000) 100 too_long).number ≡ 54)
  -- the order of origination's numbers; the flag as it is written; what C sees of three bits that are all set
  pub order : (origination_number (settings_for 13 true 8 true) [] 0 ≡ 17) × (origination_number (settings_for 11 true 8 true) [] 0 ≡ 10)
      × (origination_number (settings_for 11 true 7 true) [] 0 ≡ 13) × (origination_number (settings_for 11 true 7 false) [] 0 ≡ 16)
      × (origination_number (settings_for 11 false 7 false) [] 5 ≡ 14) × (origination_number (settings_for 11 false 7 false) [] 6 ≡ 0)
      × (origination_number (settings_for 12 true 7 false) [] 5 ≡ 14) × (origination_number (settings_for 12 true 7 false) [] 6 ≡ 0)
  pub fresh_set : fresh (settings_for 12 true 0 false) [] ≡ 0x00 ∷ 0x08 ∷ 0x00 ∷ 0x00 ∷ 0x00 ∷ 0x05 ∷ []
  pub in_c_11 : let header = header_in_c (read_under 11 all_set) all_set in
      (header.has_encrypted ≡ false) × (header.encrypted ≡ false) × (header.reserved ≡ 7)
  -- every field of a PDU that has all of them, each with a value of its own
  pub in_c_whole : header_in_c (read_under 12 every_field) every_field
      ≡ record {
        number = 0;
        protocol = 1;
        time_stamp_request = true;
        path_bit = true;
        has_destination = true;
        port = 9;
        has_encrypted = true;
        encrypted = true;
        reserved = 2;
        ack = true;
        added_header = true;
        hop_limit = 5;
        payload_length = 2;
        source = 1000;
        destination = 1600;
        pdu_id = 85;
        path_count = 1;
        has_last_sender = true;
        last_sender = 2000;
        header_length = 12;
        pdu_length = 14;
      }
  -- its path; and a view of it with a span that is not its own, and no number, then one with a number
  pub path_of : (path_address_in (read_of every_field) every_field 0 ≡ 2000) × (path_address_in (read_of every_field) every_field 1 ≡ 0)
      × (path_has (read_of every_field) every_field 2000 ≡ true) × (path_has (read_of every_field) every_field 1000 ≡ false)
  pub view_invented : (summary : Summary) × (summary_at every_field (span_with 0) 12 ≡ Ok summary)
      × (summary.header.path_count ≡ 2) × (summary.header.payload_length ≡ 2) × (summary.last_sender ≡ Some 0xAABB)
      × (summary.header_length ≡ 1) × (summary.pdu_length ≡ 9) × (summary_at every_field (span_with 77) 12 ≡ Err 77)
  pub in_c_12 : let header = header_in_c (read_under 12 all_set) all_set in
      (header.has_encrypted ≡ true) × (header.encrypted ≡ true) × (header.reserved ≡ 3)
