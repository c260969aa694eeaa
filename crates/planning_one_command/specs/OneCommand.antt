-- Several messages at once, and what one command and its acknowledgements put on the air (document 02, W-210), as one record; `proofs/OneCommand.antt` gives
-- it from its parts.
use Rattle.std.specs.Prelude.{Bool, true, false, ◌≢◌, ◌⊎◌, ◌≡◌, ℕ, ◌+◌, ◌*◌, ◌≤◌, ◌<◌, max, length, replicate}
use mathlib.Core.List.{List, [], ◌∷◌, map, Memᴰ, Nodup}
use Rattle.std.proofs.Math.Option.{none, some}
use Rattle.octets.specs.Octets.{AllBytes, over}
use Rattle.pdu.specs.declared.Destination.TheVariants.{Address}
use Rattle.pdu.specs.Header.{header_of, source_of}
use Rattle.bound.specs.Answer.{bound_answer}
use Rattle.bound.specs.Bound.{bound, bytes_bound}
use Rattle.bound.specs.Command.{sendings_bound, command_bound}
use Rattle.origin.specs.declared.FreshSettings.{FreshSettings}
use Rattle.origin.specs.Origination.{fresh_header, fresh}
use Rattle.retained.specs.declared.Retained.{Retained}
use Rattle.retained.specs.Records.{retain_fault, names_of}
use Rattle.retained.specs.Table.{answered}
use Rattle.acknowledgements.specs.Delivered.{ack_header}
use Rattle.acknowledgements.specs.Hearing.{outcome_heard, output_heard}
use Rattle.retry_termination.specs.Termination.{FreeTable}
use Rattle.retry_termination.specs.History.{RetrySettings, Operation, history, start}
use Rattle.flood.specs.Air.{Repeater, address, hop_of, on_the_air, repeaters, Nodes, Begins, Originated}
use Rattle.flood.specs.Flood.{Reception, total}
use Rattle.coverage.specs.Cases.{next_in_line}
use Rattle.coverage.specs.Hearing.{ByNoOther}
use Rattle.airtime.specs.Airtime.{air_of, air_bytes}
use Rattle.boundary.specs.Boundary.{bound_in_c}
use Rattle.several_messages.specs.SeveralMessages.{Event, Sent, Heard, messages_in, receptions_in, all_on_the_air, OnlyHeard, counted_for}
use Rattle.several_messages.specs.SeveralMessages.{most_of, most_bytes_of, air_of_message, air_bytes_of_message}
use Rattle.planning_one_command.specs.Boxes.{Box, repeaters_of, is_acknowledging, responds, all_sent, commands_in, replies_in, Command, reply_to, asks}
use Rattle.planning_one_command.specs.Boxes.{replies_of}
use Rattle.planning_one_command.specs.Boxes.{Carried, Retried}
use Rattle.planning_one_command.specs.Worked.{three, box_at, order, both_answered, answered_again, one_try, all_hear}

-- What one command puts on the air, from the bounds of one sending of the command and of one acknowledgement, and from their bytes: all transmissions, those
-- that carry the command, those that carry an acknowledgement, and all bytes.
abbrev pub Within : ℕ → ℕ → ℕ → ℕ → ℕ → List (List ℕ) → Type 0
Within tries most answers bytes answerBytes log =
    (length log ≤ command_bound tries most answers) × (commands_in log ≤ (tries + 1) * most) × (replies_in log ≤ (tries + 1) * most * answers)
    × (total length log ≤ (tries + 1) * (bytes + most * answerBytes))

pub record OneCommand : Type 0 where
  -- SEVERAL MESSAGES, each sent at its time, in any order with all that the nodes repeat, no node taking a transmission twice: no more transmissions and
  -- bytes than the sum of the messages' bounds, demand 3's, and the network's own where it is known who hears whom
  pub together : (nodes : List Repeater) → Nodes nodes → (events : List (Event (List ℕ))) → ((m : List ℕ) → Memᴰ m (messages_in events) → Begins m)
      → Nodup (receptions_in events)
      → (length (all_on_the_air nodes events) ≤ total (most_of nodes) (messages_in events))
      × (total length (all_on_the_air nodes events) ≤ total (most_bytes_of nodes) (messages_in events))
  pub together_heard : (hears : ℕ → ℕ → Bool) (nodes : List Repeater) → Nodes nodes → (events : List (Event (List ℕ)))
      → ((m : List ℕ) → Memᴰ m (messages_in events) → Begins m) → Nodup (receptions_in events)
      → OnlyHeard hears nodes (all_on_the_air nodes events) (receptions_in events)
      → (length (all_on_the_air nodes events) ≤ total (λ m. air_of_message nodes m hears) (messages_in events))
      × (total length (all_on_the_air nodes events) ≤ total (λ m. air_bytes_of_message nodes m hears) (messages_in events))
  -- what origination wrote with a path is such a message, and its bound is demand 3's
  pub originated : (nodes : List Repeater) (settings : FreshSettings) (payload : List ℕ) (room : ℕ) → Originated settings payload room
      → Begins (fresh settings payload)
      × (most_of nodes (fresh settings payload) ≡ bound (length (repeaters (fresh_header settings (length payload)) nodes)) settings.hop_limit)
  -- and so are its bound of bytes, and those of a network of which it is known who hears whom
  pub originated_more : (hears : ℕ → ℕ → Bool) (nodes : List Repeater) (settings : FreshSettings) (payload : List ℕ) (room : ℕ)
      → Originated settings payload room
      → let first = fresh settings payload in let h = settings.hop_limit in
      let counted = repeaters (fresh_header settings (length payload)) nodes in
      (most_bytes_of nodes first ≡ bytes_bound (length counted) h (length first))
      × (air_of_message nodes first hears ≡ air_of hears (map address counted) settings.source h)
      × (air_bytes_of_message nodes first hears ≡ air_bytes hears (map address counted) settings.source h (length first))
  -- where no node takes what it does not hear (W-208), none does here
  pub only_heard : (hears : ℕ → ℕ → Bool) (nodes : List Repeater) (first : List ℕ) (taken : List Reception) → ByNoOther hears nodes first taken
      → OnlyHeard hears nodes (on_the_air nodes first taken) taken
  -- one message alone is demand 3's run
  pub one_message : (nodes : List Repeater) (first : List ℕ) (taken : List Reception)
      → all_on_the_air nodes (Sent first ∷ map Heard taken) ≡ on_the_air nodes first taken
  -- ALL TRAFFIC among boxes that acknowledge what they are delivered: each message's own bound, and for each of its transmissions the bound of the
  -- acknowledgement by the box that it is for; and the bytes
  pub traffic : (boxes : List Box) → Nodes (repeaters_of boxes) → (events : List (Event (List ℕ)))
      → ((m : List ℕ) → Memᴰ m (messages_in events) → Carried boxes m) → Nodup (receptions_in events)
      → let most = most_of (repeaters_of boxes) in let bytes = most_bytes_of (repeaters_of boxes) in
      (length (all_sent boxes events) ≤ total (λ m. most m + most m * replies_of most boxes m) (messages_in events))
      × (total length (all_sent boxes events) ≤ total (λ m. bytes m + most m * replies_of bytes boxes m) (messages_in events))
  pub traffic_heard : (hears : ℕ → ℕ → Bool) (boxes : List Box) → Nodes (repeaters_of boxes) → (events : List (Event (List ℕ)))
      → ((m : List ℕ) → Memᴰ m (messages_in events) → Carried boxes m) → Nodup (receptions_in events)
      → OnlyHeard hears (repeaters_of boxes) (all_sent boxes events) (receptions_in events)
      → let most : List ℕ → ℕ = λ m. air_of_message (repeaters_of boxes) m hears in
      let bytes : List ℕ → ℕ = λ m. air_bytes_of_message (repeaters_of boxes) m hears in
      (length (all_sent boxes events) ≤ total (λ m. most m + most m * replies_of most boxes m) (messages_in events))
      × (total length (all_sent boxes events) ≤ total (λ m. bytes m + most m * replies_of bytes boxes m) (messages_in events))
  -- ONE COMMAND, sent by a box that retains it and retries, among boxes that acknowledge what they are delivered
  pub command : (boxes : List Box) → Nodes (repeaters_of boxes) → (there : Box) (bytes : List ℕ) → Command boxes there bytes
      → (s : RetrySettings) (sendings : ℕ) → Retried s bytes sendings
      → (events : List (Event (List ℕ))) → messages_in events ≡ replicate sendings bytes → Nodup (receptions_in events)
      → let nodes = repeaters_of boxes in let reply = reply_to there bytes in
      Within s.tries (most_of nodes bytes) (most_of nodes reply) (most_bytes_of nodes bytes) (most_bytes_of nodes reply) (all_sent boxes events)
  pub command_heard : (hears : ℕ → ℕ → Bool) (boxes : List Box) → Nodes (repeaters_of boxes) → (there : Box) (bytes : List ℕ) → Command boxes there bytes
      → (s : RetrySettings) (sendings : ℕ) → Retried s bytes sendings
      → (events : List (Event (List ℕ))) → messages_in events ≡ replicate sendings bytes → Nodup (receptions_in events)
      → OnlyHeard hears (repeaters_of boxes) (all_sent boxes events) (receptions_in events)
      → let nodes = repeaters_of boxes in let reply = reply_to there bytes in
      Within s.tries (air_of_message nodes bytes hears) (air_of_message nodes reply hears) (air_bytes_of_message nodes bytes hears)
      (air_bytes_of_message nodes reply hears) (all_sent boxes events)
  -- the acknowledgement's own bound goes by the destination's settings
  pub reply_bound : (nodes : List Repeater) (there : Box) (bytes : List ℕ) → there.sending.hop_limit ≤ 7 → there.sending.port ≤ 15
      → most_of nodes (reply_to there bytes) ≡ bound (length (repeaters (ack_header there.sending (names_of bytes)) nodes)) there.sending.hop_limit
  -- neither the originator nor the destination counts among the nodes that can repeat the command
  pub both_apart : (boxes : List Box) (there : Box) (bytes : List ℕ) → Command boxes there bytes
      → (n : Repeater) → Memᴰ n (counted_for (repeaters_of boxes) bytes) → (address n ≢ source_of bytes) × (address n ≢ address there.repeater)
  -- nor do they among those that can repeat its acknowledgement
  pub reply_apart : (boxes : List Box) (there : Box) (bytes : List ℕ) → Command boxes there bytes
      → there.sending.hop_limit ≤ 7 → there.sending.port ≤ 15
      → (n : Repeater) → Memᴰ n (counted_for (repeaters_of boxes) (reply_to there bytes))
      → (address n ≢ address there.repeater) × (address n ≢ source_of bytes)
  -- a message asks for an acknowledgement by a box exactly if it is of protocol 1, for the box's address, and has ACK clear
  pub asks_is : (bytes : List ℕ) (box : Box) → (header_of bytes).protocol ≡ 1 → (header_of bytes).destination ≡ Address (address box.repeater)
      → (header_of bytes).ack ≡ false → asks bytes box ≡ true
  pub asks_only : (bytes : List ℕ) (box : Box) → asks bytes box ≡ true
      → ((header_of bytes).protocol ≡ 1) × ((header_of bytes).destination ≡ Address (address box.repeater)) × ((header_of bytes).ack ≡ false)
  -- what C gets for the bound: number 10 exactly if either hop limit is above 7
  pub in_c : (h k value : ℕ) → (7 < h) ⊎ (7 < k) → (bound_in_c (bound_answer (max h k) value)).number ≡ 10
  pub in_c_only : (h k value : ℕ) → (bound_in_c (bound_answer (max h k) value)).number ≡ 10 → (7 < h) ⊎ (7 < k)
  -- what such a box sends is what the node and the table together write, into an output of its room; and it answers where they say so
  pub box_writes : (box : Box) (received output : List ℕ) → length output ≡ box.repeater.room
      → output_heard box.repeater.node 16 box.sending received output ≡ elim (responds box received) [ none ↦ output | some sent ↦ over sent output ]
  pub box_answers : (box : Box) (table : List Retained) (last : ℕ) (received : List ℕ) → length table ≡ 16 → is_acknowledging box received ≡ true
      → (outcome_heard box.repeater.node table last box.sending box.repeater.room received).deed ≡ answered
  pub box_answers_only : (box : Box) (table : List Retained) (last : ℕ) (received : List ℕ) → length table ≡ 16
      → (outcome_heard box.repeater.node table last box.sending box.repeater.room received).deed ≡ answered → is_acknowledging box received ≡ true
  -- no more is asked than these conditions say
  pub command_asked : (boxes : List Box) (there : Box) (bytes : List ℕ) → AllBytes bytes → retain_fault bytes ≡ 0 → (header_of bytes).path_bit ≡ true
      → Memᴰ there boxes → (header_of bytes).destination ≡ Address (address there.repeater) → there.sending.with_path ≡ true
      → Command boxes there bytes
  pub carried_asked : (boxes : List Box) (bytes : List ℕ) → Begins bytes
      → ((box : Box) → Memᴰ box boxes → asks bytes box ≡ true → box.sending.with_path ≡ true) → Carried boxes bytes
  pub retried_asked : (s : RetrySettings) (bytes : List ℕ) (sendings : ℕ) (table : List Retained) (last : ℕ) (operations : List Operation) → FreeTable table
      → sendings ≤ (history s (names_of bytes) operations (start table last)).life.sent + 1 → Retried s bytes sendings
  -- WORKED CASES. One sending at hop limit 3 among 3 repeaters, and among 5; with three tries more; and what carries the command
  pub one_sending : (command_bound 0 (bound 3 3) (bound 3 3) ≡ 272) × (command_bound 0 (bound 5 3) (bound 5 3) ≡ 7482)
      × (command_bound 3 (bound 3 3) (bound 3 3) ≡ 1088) × (sendings_bound 3 3 3 ≡ 64)
  -- three sendings among 5 repeaters; and a command of bound 16 with an acknowledgement of 10 is not one of 10 with 16
  pub each_counts : (sendings_bound 2 5 3 ≡ 258) × (command_bound 0 16 10 ≡ 176) × (command_bound 0 10 16 ≡ 170)
  -- one repeater, hop limit 1: two transmissions carry the command, each is acknowledged and each acknowledgement repeated. The bound is reached
  pub reached : (all_sent three both_answered ≡ order ∷ (0x0B ∷ 0x40 ∷ 0x00 ∷ 0x00 ∷ 0x07 ∷ 0xD0 ∷ 0x03 ∷ 0xE8 ∷ 0x07 ∷ 0x01 ∷ 0x0B ∷ 0xB8 ∷ [])
      ∷ (0x0B ∷ 0x01 ∷ 0x10 ∷ 0x00 ∷ 0x03 ∷ 0xE8 ∷ 0x07 ∷ 0xD0 ∷ 0x07 ∷ 0x00 ∷ [])
      ∷ (0x0B ∷ 0x01 ∷ 0x10 ∷ 0x00 ∷ 0x03 ∷ 0xE8 ∷ 0x07 ∷ 0xD0 ∷ 0x07 ∷ 0x00 ∷ [])
      ∷ (0x0B ∷ 0x01 ∷ 0x00 ∷ 0x00 ∷ 0x03 ∷ 0xE8 ∷ 0x07 ∷ 0xD0 ∷ 0x07 ∷ 0x01 ∷ 0x0B ∷ 0xB8 ∷ [])
      ∷ (0x0B ∷ 0x01 ∷ 0x00 ∷ 0x00 ∷ 0x03 ∷ 0xE8 ∷ 0x07 ∷ 0xD0 ∷ 0x07 ∷ 0x01 ∷ 0x0B ∷ 0xB8 ∷ []) ∷ [])
      × (most_of (repeaters_of three) order ≡ 2) × (most_of (repeaters_of three) (reply_to (box_at 1000) order) ≡ 2) × (command_bound 0 2 2 ≡ 6)
  pub reached_asked : Nodes (repeaters_of three) × Command three (box_at 1000) order × Nodup (receptions_in both_answered)
  -- two of the six carry the command and four an acknowledgement; the command asks for one, by 1000, and an acknowledgement for none
  pub reached_split : (commands_in (all_sent three both_answered) ≡ 2) × (replies_in (all_sent three both_answered) ≡ 4)
      × (replies_of (most_of (repeaters_of three)) three order ≡ 2) × (replies_of (most_of (repeaters_of three)) three (reply_to (box_at 1000) order) ≡ 0)
  -- the command has 10 bytes and its repeat 12; in a line, 3000 does not hear 2000, and the command goes out once
  pub reached_bytes : (most_bytes_of (repeaters_of three) order ≡ 22)
      × (air_of_message (repeaters_of three) order all_hear ≡ 2) × (air_bytes_of_message (repeaters_of three) order all_hear ≡ 22)
      × (air_of_message (repeaters_of three) order next_in_line ≡ 1) × (air_bytes_of_message (repeaters_of three) order next_in_line ≡ 10)
  -- sent twice, as a box with one try more does: the bound of two sendings is reached
  pub reached_again : (length (all_sent three answered_again) ≡ 12) × (command_bound 1 2 2 ≡ 12) × Retried one_try order 2
      × (messages_in answered_again ≡ replicate 2 order) × Nodup (receptions_in answered_again)
