-- The three demands, each as one record; `proofs/Demands.antt` gives each of them and cites its parts.
use Rattle.std.specs.Prelude.{ℕ, ◌+◌, ◌*◌, ◌^◌, ◌<◌, ◌≤◌, true, false, cond, ◌≢◌, ◌⊎◌, ◌≡◌, eqb, length, take, drop, Ok, Err, None}
use mathlib.Core.List.{List, [], ◌∷◌, ◌++◌, map, Memᴰ, Nodup}
use Rattle.std.proofs.Math.Option.{none, some}
use Rattle.octets.specs.Octets.{AllBytes, at, over}
use Rattle.pdu.specs.declared.Destination.TheVariants.{Address}
use Rattle.pdu.specs.declared.Header.{Header}
use Rattle.pdu.specs.declared.Refusal.{Refusal}
use Rattle.pdu.specs.Header.{destination_in, pdu_id_in, header_with, header_of, source_of}
use Rattle.pdu.specs.Sizes.{path_limit, pdu_limit, path_entries, path_start, pdu_length}
use Rattle.pdu.specs.Reading.{read_of, exactly_one, refusal_number}
use Rattle.pdu.specs.Parts.{path_in, path_address, in_path, payload_in, last_sender}
use Rattle.writing.specs.Writing.{header_bytes, path_bytes, encode, header_written, header_output, write_again, written_again, WellFormed}
use Rattle.editions.specs.Editions.{known, bits_under, shown_with, read_under}
use Rattle.view.specs.declared.Span.{Span}
use Rattle.view.specs.View.{summary_of, path_address_in, path_has, span_of, header_in, summary_at}
use Rattle.origin.specs.declared.FreshSettings.{FreshSettings}
use Rattle.origin.specs.Origination.{fresh_header, fresh, origination_number, originated, originated_output}
use Rattle.lists.specs.Lists.{Lists, list_fault, lists_in, laid}
use Rattle.decision.specs.declared.Choice.TheVariants.{Neither}
use Rattle.decision.specs.Decision.{Node, pass_fault}
use Rattle.node.specs.declared.Answer.{Answer}
use Rattle.node.specs.Repeat.{repeated_header, repeated}
use Rattle.node.specs.Answers.{node_fault, node_or_reading_fault, repeat_number, delivered, answer_of, given_twice, output_after, Hears}
use Rattle.batch.specs.declared.Cursor.{Cursor}
use Rattle.batch.specs.declared.Stepped.TheVariants.{Answered}
use Rattle.batch.specs.Walk.{batch_limit, step_of, step_output, walk, steps}
use Rattle.bound.specs.Bound.{terms, bound, bytes_bound}
use Rattle.bound.specs.Answer.{bound_answer}
use Rattle.flood.specs.Flood.{Reception, Bounded}
use Rattle.flood.specs.Complete.{HasHeard, Complete}
use Rattle.boundary.specs.Boundary.{bound_in_c, limits_in_c}
use Rattle.flood.specs.Air.{Repeater, Nodes, Open, Originated, address, sends, path_of, on_the_air, bytes_on_the_air, repeaters, Begins, hop_of}

-- Demand 1, total. That every public function answers any input, and how, are its contract and the theorems of crate `promises`, one for each function,
-- in the files named by the crates. A node is any settings, of any edition number, and any eight lists.
pub record Demand1 : Type 0 where
  -- a hop setting above 7 is refused, whatever else is set, with nothing written: with 10 under the editions that there are, else with 17 (document 02,
  -- W-209)
  pub hop_refused : (settings : FreshSettings) (payload output : List ℕ) → 7 < settings.hop_limit
      → (originated settings payload (length output) ≡ record { number = cond (known settings.edition) 10 17; length = 0 })
      × (originated_output settings payload output ≡ output)
  -- with a number other than 0 no output is touched: at origination, in writing again, at a node, in a step of the walk; nor by a header that is not put
  pub origination_untouched : (settings : FreshSettings) (payload output : List ℕ) → (origination_number settings payload (length output) ≡ 0 → ⊥)
      → originated_output settings payload output ≡ output
  pub writing_untouched : (bytes output : List ℕ) → ((write_again bytes (length output)).number ≡ 0 → ⊥) → written_again bytes output ≡ output
  pub header_untouched : (header : Header) (output : List ℕ) → header_written header (length output) ≡ 0 → header_output header output ≡ output
  pub node_untouched : (node : Node) (received output : List ℕ) → (repeat_number node (length output) received ≡ 0 → ⊥)
      → output_after node received output ≡ output
  pub step_untouched : (node : Node) (batch : List ℕ) (cursor : Cursor) (output : List ℕ)
      → ((answer : Answer) (next : Cursor) → step_of node (length output) batch cursor ≡ Answered answer next → answer.repeat ≡ 0 → ⊥)
      → step_output node batch cursor output ≡ output
  -- an edition that is not known is refused with 17 whatever the lists are, and lists with a fault with its number, whatever is chosen: given twice, nothing
  -- is taken and the output is as it was (document 02, W-209 and W-211)
  pub edition_refused : (node : Node) (received output : List ℕ) → known node.settings.edition ≡ false
      → Hears node received output (given_twice 17 0 None) output
  pub lists_refused : (node : Node) (received output : List ℕ) → known node.settings.edition ≡ true → (list_fault node.lists ≡ 0 → ⊥)
      → Hears node received output (given_twice (list_fault node.lists) 0 None) output
  -- and so are bytes that cannot be read, with 1 to 6
  pub reading_refused : (node : Node) (received output : List ℕ) (refusal : Refusal) → known node.settings.edition ≡ true → list_fault node.lists ≡ 0
      → read_of received ≡ Err refusal → Hears node received output (given_twice (refusal_number refusal) 0 None) output
  -- any lent block holds eight lists, and any eight lists lie in some block; in 16-bit words, those of at most 65,535 values each
  pub any_lists : (lists : Lists) → lists_in (laid lists) ≡ lists

-- a header with a PDU ID and a path count only where called for (document 01, "Header, byte by byte", below the table); its other fields as they are
abbrev pub called_for : Header → Header
called_for header =
    record {
      protocol = header.protocol;
      time_stamp_request = header.time_stamp_request;
      path_bit = header.path_bit;
      port = header.port;
      encrypted = header.encrypted;
      reserved = header.reserved;
      ack = header.ack;
      added_header = header.added_header;
      hop_limit = header.hop_limit;
      payload_length = header.payload_length;
      source = header.source;
      destination = header.destination;
      pdu_id = cond (eqb header.protocol 1) header.pdu_id 0;
      path_count = path_entries header;
    }

-- Demand 2, exact. The contracts say that reading, writing and the node's decision are the definitions; these say that the definitions fit together.
pub record Demand2 : Type 0 where
  -- what is read and written again is the same bytes, at the start of an output that has room for them
  pub written_again_lem : (bytes output : List ℕ) (header : Header) → AllBytes bytes → read_of bytes ≡ Ok header → pdu_length header ≤ length output
      → (write_again bytes (length output) ≡ record { number = 0; length = pdu_length header })
      × (written_again bytes output ≡ over (take (pdu_length header) bytes) output)
  -- what is written reads back, whatever follows it
  pub reads_back : (header : Header) (path payload rest : List ℕ) → WellFormed header path payload
      → (read_of (encode header path payload ++ rest) ≡ Ok header) × (path_in header (encode header path payload ++ rest) ≡ path)
      × (payload_in header (encode header path payload ++ rest) ≡ payload)
  -- and so does what was originated, as it was set
  pub fresh_reads_back : (settings : FreshSettings) (payload rest : List ℕ) (room : ℕ) → origination_number settings payload room ≡ 0
      → (read_of (fresh settings payload ++ rest) ≡ Ok (fresh_header settings (length payload)))
      × (path_in (fresh_header settings (length payload)) (fresh settings payload ++ rest) ≡ [])
      × (payload_in (fresh_header settings (length payload)) (fresh settings payload ++ rest) ≡ payload)
  -- a header put on its own reads back once its path and payload follow it, a PDU ID and a path count that are not called for as 0; the output behind it
  -- is as it was. Every header that can stand in a PDU so, whatever those two are, is put where it fits
  pub put_reads_back : (header : Header) (path payload rest output : List ℕ) → let long = header_written header (length output) in
      (long ≡ 0 → ⊥) → length path ≡ path_entries header → length payload ≡ header.payload_length
      → let bytes = take long (header_output header output) ++ path_bytes path ++ payload ++ rest in
      (read_of bytes ≡ Ok (called_for header)) × (path_in (called_for header) bytes ≡ path) × (payload_in (called_for header) bytes ≡ payload)
      × (drop long (header_output header output) ≡ drop long output)
  pub well_formed_put : (header : Header) (path payload output : List ℕ) → WellFormed (called_for header) path payload → path_start header ≤ length output
      → (header_written header (length output) ≡ path_start header) × (header_output header output ≡ over (header_bytes header) output)
  -- what was read is well-formed, so that `reads_back` is about all of it
  pub read_well_formed : (bytes : List ℕ) (header : Header) → AllBytes bytes → read_of bytes ≡ Ok header
      → WellFormed header (path_in header bytes) (payload_in header bytes)
  -- the path that is asked of bytes: of what was read its address at a place, and whether it holds an address; of what was not read none
  pub path_asked : (bytes : List ℕ) (header : Header) (i address : ℕ) → read_of bytes ≡ Ok header
      → (path_address_in (read_of bytes) bytes i ≡ path_address header bytes i) × (path_has (read_of bytes) bytes address ≡ in_path address (path_in header bytes))
  pub no_path_asked : (bytes : List ℕ) (refusal : Refusal) (i address : ℕ) → read_of bytes ≡ Err refusal
      → (path_address_in (read_of bytes) bytes i ≡ 0) × (path_has (read_of bytes) bytes address ≡ false)
  -- a view made with any span: 17, then the span's number; else what its bytes show, with the span's path count and lengths
  pub view_17 : (bytes : List ℕ) (span : Span) (edition : ℕ) → known edition ≡ false → summary_at bytes span edition ≡ Err 17
  pub view_refused : (bytes : List ℕ) (span : Span) (edition : ℕ) → known edition ≡ true → (span.number ≡ 0 → ⊥)
      → summary_at bytes span edition ≡ Err span.number
  pub view_shows : (bytes : List ℕ) (span : Span) (edition : ℕ) → known edition ≡ true → span.number ≡ 0
      → let header = header_with bytes (destination_in bytes) (pdu_id_in bytes) span.path_count in summary_at bytes span edition
      ≡ Ok
      (record {
        header = shown_with (bits_under edition (at bytes 1)) header;
        last_sender = last_sender header bytes;
        header_length = span.header_length;
        pdu_length = span.pdu_length;
      })
  -- and one opened on bytes has the span of what is read there: it shows what reading under that edition shows, and the path that is asked of them
  pub opened_summary : (bytes : List ℕ) (edition : ℕ) → summary_at bytes (span_of (read_of bytes)) edition ≡ summary_of (read_under edition bytes) bytes
  pub opened_path : (bytes : List ℕ) (i address : ℕ) → let header = header_in bytes (span_of (read_of bytes)) in
      (path_address header bytes i ≡ path_address_in (read_of bytes) bytes i) × (in_path address (path_in header bytes) ≡ path_has (read_of bytes) bytes address)
  pub opened_payload : (bytes : List ℕ) (header : Header) → read_of bytes ≡ Ok header
      → (span_of (read_of bytes)).payload_length ≡ header.payload_length
  -- a repeat reads back as the received header with hop limit, count and path changed as said, the own address after the last path entry, and the
  -- same payload; it is never longer than a PDU may be
  pub repeat_reads_back : (node : Node) (room : ℕ) (received : List ℕ) (header : Header) → AllBytes received
      → read_of received ≡ Ok header → repeat_number node room received ≡ 0
      → (read_of (repeated node.settings.own received) ≡ Ok (repeated_header header))
      × (path_in (repeated_header header) (repeated node.settings.own received)
      ≡ path_in header received ++ cond header.path_bit (node.settings.own ∷ []) [])
      × (payload_in (repeated_header header) (repeated node.settings.own received) ≡ payload_in header received)
      × (length (repeated node.settings.own received) ≤ pdu_limit)
  -- the delivered payload is the part of the received bytes that the node's answer names
  pub delivered_part : (node : Node) (room : ℕ) (received : List ℕ)
      → take (answer_of node room received).delivered_length (drop (answer_of node room received).delivered_place received)
      ≡ delivered node room received
  -- what follows a PDU, as in a batch, changes neither the node's answer nor its output: a box that walks a batch hears each PDU as one that hears it alone
  pub behind : (node : Node) (pdu rest output left : List ℕ) (answer : Answer) → exactly_one pdu ≡ true → AllBytes pdu → AllBytes rest
      → Hears node pdu output answer left → Hears node (pdu ++ rest) output answer left
  -- stepping over a batch gives exactly its walk
  pub stepping_walks : (node : Node) (room : ℕ) (batch : List ℕ)
      → steps node room batch (length batch) (record { place = 0; ended = false }) ≡ walk node room batch
  -- each answer of a walk is the node's for the bytes at its offset, and it ends where no bytes are left, at a PDU that can't be read, or at
  -- the first one with 17 or a list fault
  pub walk_answers : (node : Node) (room : ℕ) (batch : List ℕ)
      → (walk node room batch).answers ≡ map (λ (offset : ℕ). answer_of node room (drop offset batch)) (walk node room batch).offsets
  pub walk_ends : (node : Node) (room : ℕ) (batch : List ℕ) → length batch ≤ batch_limit
      → (length batch ≤ (walk node room batch).end) ⊎ (node_or_reading_fault node (drop (walk node room batch).end batch) ≡ 0 → ⊥)
  -- 01's sizes as C gets them
  pub limits_in_c_lem : limits_in_c ≡ record { fixed = 6; payload = 4095; path = 255; header = 520; pdu = 4615; list = 128; batch = 16384 }

-- Demand 3, bounded, over demand 2's rules, as document 02, W-203 has it: any nodes of different addresses with echo on, whatever their lists, settings
-- and room, the originator among them or not; any message that origination wrote with a path; any receptions of transmissions already made, by the
-- originator too, none twice. N is the number of the nodes that can repeat the message. A node of the model hears one PDU; by `behind` above that is what
-- a box does at each PDU of a batch, as of those that W-206's queue gives.
pub record Demand3 : Type 0 where
  pub bounded : (nodes : List Repeater) → Nodes nodes → (settings : FreshSettings) (payload : List ℕ) (room : ℕ) → Originated settings payload room
      → (receptions : List Reception) → Nodup receptions
      → Bounded address path_of (repeaters (fresh_header settings (length payload)) nodes) settings.hop_limit
      (on_the_air nodes (fresh settings payload) receptions)
  -- the bytes on the air
  pub bytes_bounded : (nodes : List Repeater) → Nodes nodes → (settings : FreshSettings) (payload : List ℕ) (room : ℕ)
      → Originated settings payload room
      → (receptions : List Reception) → Nodup receptions
      → bytes_on_the_air nodes (fresh settings payload) receptions
      ≤ bytes_bound (length (repeaters (fresh_header settings (length payload)) nodes)) settings.hop_limit (length (fresh settings payload))
  -- nothing more than this is asked of the nodes and of the message
  pub nodes_asked : (nodes : List Repeater) → Nodup (map address nodes)
      → ((each : Repeater) → Memᴰ each nodes → (address each < 65536) × (each.node.settings.echo ≡ true)) → Nodes nodes
  pub message_asked : (settings : FreshSettings) (payload : List ℕ) (room : ℕ) → origination_number settings payload room ≡ 0
      → settings.with_path ≡ true → settings.source < 65536 → ((to : ℕ) → settings.destination ≡ Address to → to < 65536)
      → settings.pdu_id < 256 → AllBytes payload → Originated settings payload room
  -- nor of a node that repeats what it may, of what begins a flood, and of a transmission that was heard
  pub open_asked : (node : Node) → known node.settings.edition ≡ true → node.settings.repeating ≡ true
      → node.settings.source_pass ≡ Neither → node.settings.source_reject ≡ Neither
      → node.settings.destination_pass ≡ Neither → node.settings.destination_reject ≡ Neither → list_fault node.lists ≡ 0 → Open node
  pub begins_asked : (first : List ℕ) → AllBytes first → exactly_one first ≡ true → (header_of first).path_bit ≡ true → path_of first ≡ [] → Begins first
  pub heard_asked : (nodes : List Repeater) (first : List ℕ) (before after : List Reception) (node transmission : ℕ)
      → transmission < length (on_the_air nodes first before)
      → HasHeard sends nodes (first ∷ []) (before ++ (record { node = node; transmission = transmission } ∷ after)) node transmission
  -- both are exact where each of the repeaters has room, and every node hears every transmission
  pub reached : (nodes : List Repeater) → Nodes nodes → (settings : FreshSettings) (payload : List ℕ) (room : ℕ) → Originated settings payload room
      → let counted = repeaters (fresh_header settings (length payload)) nodes in
      ((n : Repeater) → Memᴰ n counted → length (fresh settings payload) + 2 * terms (length counted) settings.hop_limit ≤ n.room)
      → (length counted ≤ path_limit) ⊎ (settings.hop_limit < 7)
      → (receptions : List Reception) → Nodup receptions → Complete sends nodes (fresh settings payload ∷ []) receptions
      → (length (on_the_air nodes (fresh settings payload) receptions) ≡ bound (length counted) settings.hop_limit)
      × (bytes_on_the_air nodes (fresh settings payload) receptions
      ≡ bytes_bound (length counted) settings.hop_limit (length (fresh settings payload)))
  -- the bound's values that 01 checks by hand
  pub values : (bound 3 2 ≡ 10) × (bound 3 6 ≡ 16) × (bound 3 7 ≡ 16) × ((n : ℕ) → bound n 0 ≡ 1) × ((h : ℕ) → bound 0 h ≡ 1)
  -- among more nodes it is no smaller, so that whoever counts a node that cannot repeat the message gets too large a bound, never too small a one
  pub more_nodes : (n more h size : ℕ) → n ≤ more → (bound n h ≤ bound more h) × (bytes_bound n h size ≤ bytes_bound more h size)
  -- what C gets for a bound: 10 for a hop limit above 7; else the value, or that 64 bits do not hold it
  pub in_c : (hop value : ℕ)
      → (7 < hop → bound_in_c (bound_answer hop value) ≡ record { number = 10; too_large = false; value = 0 })
      × (hop ≤ 7 → value < 2 ^ 64 → bound_in_c (bound_answer hop value) ≡ record { number = 0; too_large = false; value = value })
      × (hop ≤ 7 → 2 ^ 64 ≤ value → bound_in_c (bound_answer hop value) ≡ record { number = 0; too_large = true; value = 0 })
  -- receptions by which each node hears each transmission exist
  pub schedule : (nodes : List Repeater) → Nodes nodes → (settings : FreshSettings) (payload : List ℕ) (room : ℕ)
      → Originated settings payload room
      → (receptions : List Reception) × Nodup receptions × Complete sends nodes (fresh settings payload ∷ []) receptions
  -- and of whatever else begins a flood, as an originated message does
  pub begun_bounded : (nodes : List Repeater) → Nodes nodes → (first : List ℕ) → Begins first
      → (receptions : List Reception) → Nodup receptions
      → let counted = repeaters (header_of first) nodes in
      Bounded address path_of counted (hop_of first) (on_the_air nodes first receptions)
      × (bytes_on_the_air nodes first receptions ≤ bytes_bound (length counted) (hop_of first) (length first))
  -- who the repeaters are: a node without a fault (17, or of a list), whose lists let the message pass, whose repeating is on, and which is neither the
  -- message's source nor its destination
  pub counted : (header : Header) (nodes : List Repeater) (n : Repeater) → Memᴰ n (repeaters header nodes)
      → Memᴰ n nodes × (node_fault n.node ≡ 0) × (address n ≢ header.source) × (pass_fault n.node header ≡ 0)
      × (header.destination ≢ Address (address n)) × (n.node.settings.repeating ≡ true)
  pub counted_only : (header : Header) (nodes : List Repeater) (n : Repeater) → Memᴰ n nodes → node_fault n.node ≡ 0 → address n ≢ header.source
      → pass_fault n.node header ≡ 0 → header.destination ≢ Address (address n) → n.node.settings.repeating ≡ true
      → Memᴰ n (repeaters header nodes)
  pub originated_begins : (settings : FreshSettings) (payload : List ℕ) (room : ℕ) → Originated settings payload room
      → Begins (fresh settings payload) × (source_of (fresh settings payload) ≡ settings.source) × (hop_of (fresh settings payload) ≡ settings.hop_limit)
      × ((header_of (fresh settings payload)).destination ≡ settings.destination) × (header_of (fresh settings payload) ≡ fresh_header settings (length payload))
  -- what a node of the model sends is what `hear` leaves at the start of its output; where it sends nothing, `hear` repeats nothing
  pub sent_is_left : (n : Repeater) (received output sent : List ℕ) → length output ≡ n.room → sends n received ≡ some sent
      → take (answer_of n.node (length output) received).repeated_length (output_after n.node received output) ≡ sent
  pub silent_is_left : (n : Repeater) (received output : List ℕ) → length output ≡ n.room → sends n received ≡ none
      → ((answer_of n.node (length output) received).repeated_length ≡ 0) × (output_after n.node received output ≡ output)
