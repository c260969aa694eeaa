-- The answers of the layer as the values that C sees where the layer has an enum, and what C gives for one. `Written` and a walk's `Cursor` go
-- through as they are. What the values mean is defined below this crate.
use Rattle.std.specs.Prelude.{ℕ, ◌≤◌, ◌<◌, Bool, true, false, cond, List, ◌≡◌, eqb, ltb, length, Option, None, Some, Result, Ok, Err}
use Rattle.pdu.specs.declared.Destination.{Destination}
use Rattle.pdu.specs.declared.Destination.TheVariants.{Everyone, Address}
use Rattle.pdu.specs.Sizes.{fixed_length, payload_limit, path_limit, header_limit, pdu_limit}
use Rattle.editions.specs.declared.Bits.{Bits}
use Rattle.editions.specs.declared.Bits.TheVariants.{Reserved, Flagged}
use Rattle.editions.specs.declared.Shown.{Shown}
use Rattle.view.specs.declared.Summary.{Summary}
use Rattle.view.specs.View.{summary_of}
use Rattle.lists.specs.Lists.{value_limit}
use Rattle.decision.specs.declared.Choice.{Choice}
use Rattle.decision.specs.declared.Choice.TheVariants.{First, Second, Neither}
use Rattle.decision.specs.declared.Settings.{Settings}
use Rattle.decision.specs.Decision.{Node}
use Rattle.origin.specs.declared.FreshSettings.{FreshSettings}
use Rattle.node.specs.declared.Answer.{Answer}
use Rattle.node.specs.Answers.{answer_of, given_twice, output_after}
use Rattle.batch.specs.declared.Cursor.{Cursor}
use Rattle.batch.specs.declared.Numbers.{Numbers}
use Rattle.batch.specs.declared.Numbers.TheVariants.{Two, Alone, NoAnswer}
use Rattle.batch.specs.declared.Stepped.{Stepped}
use Rattle.batch.specs.declared.Stepped.TheVariants.{TooLong, Ended, Answered}
use Rattle.batch.specs.Walk.{batch_limit, step_of, step_output, numbers_of}
use Rattle.node_stations.specs.CountedAnswers.{answer_number, memory_after_answer}
use Rattle.retained.specs.declared.Retained.{Retained}
use Rattle.acknowledgements.specs.declared.Sending.{Sending}
use Rattle.acknowledgements.specs.Hearing.{outcome_heard, table_heard, output_heard}
use Rattle.bound.specs.declared.BoundError.{BoundError}
use Rattle.bound.specs.declared.BoundError.TheVariants.{TooLarge, HopRefused}
use Rattle.bound.specs.Answer.{bound_number}
use Rattle.ways.specs.declared.Airtime.{Airtime}
use Rattle.ways.specs.declared.Airtime.TheVariants as airtime
use Rattle.ways.specs.Answer.{ways_answer, Counts}
use Rattle.boundary.specs.declared.reading.MantHeader.{MantHeader}
use Rattle.boundary.specs.declared.originating.MantFresh.{MantFresh}
use Rattle.boundary.specs.declared.a_node.MantNode.{MantNode}
use Rattle.boundary.specs.declared.a_node.MantAnswer.{MantAnswer}
use Rattle.boundary.specs.declared.a_node.MantListened.{MantListened}
use Rattle.boundary.specs.declared.a_node.MantHeardReliably.{MantHeardReliably}
use Rattle.boundary.specs.declared.a_walk.MantStep.{MantStep}
use Rattle.boundary.specs.declared.planning.MantAirtime.{MantAirtime}
use Rattle.boundary.specs.declared.planning.MantBound.{MantBound}
use Rattle.boundary.specs.declared.planning.MantLimits.{MantLimits}

-- a destination as a flag and an address, the address 0 where there is none ("Header, byte by byte")
abbrev pub has_destination : Destination → Bool
has_destination Everyone = false
has_destination (Address address) = true

abbrev pub destination_address : Destination → ℕ
destination_address Everyone = 0
destination_address (Address address) = address

-- and back; an address without the flag does not count
abbrev pub destination_from_c : Bool → ℕ → Destination
destination_from_c present address = cond present (Address address) Everyone

-- a last sender as a flag and an address, the address 0 where it is unknown (document 02, W-205)
abbrev pub has_sender : Option ℕ → Bool
has_sender None = false
has_sender (Some address) = true

abbrev pub sender_address : Option ℕ → ℕ
sender_address None = 0
sender_address (Some address) = address

-- and back; an address without the flag does not count
abbrev pub sender_from_c : Bool → ℕ → Option ℕ
sender_from_c known address = cond known (Some address) None

-- the three bits after the port (document 02, W-209): whether there is an encrypted flag, the flag, false where there is none, and the reserved number
abbrev pub has_flag : Bits → Bool
has_flag (Reserved number) = false
has_flag (Flagged encrypted number) = true

abbrev pub flag_of : Bits → Bool
flag_of (Reserved number) = false
flag_of (Flagged encrypted number) = encrypted

abbrev pub reserved_shown : Bits → ℕ
reserved_shown (Reserved number) = number
reserved_shown (Flagged encrypted number) = number

-- all that a view says of a PDU, field by field ("Header, byte by byte"); of a refusal the number alone
abbrev pub shown_in_c : Summary → MantHeader
shown_in_c summary =
    record {
      number = 0;
      protocol = summary.header.protocol;
      time_stamp_request = summary.header.time_stamp_request;
      path_bit = summary.header.path_bit;
      has_destination = has_destination summary.header.destination;
      port = summary.header.port;
      has_encrypted = has_flag summary.header.bits;
      encrypted = flag_of summary.header.bits;
      reserved = reserved_shown summary.header.bits;
      ack = summary.header.ack;
      added_header = summary.header.added_header;
      hop_limit = summary.header.hop_limit;
      payload_length = summary.header.payload_length;
      source = summary.header.source;
      destination = destination_address summary.header.destination;
      pdu_id = summary.header.pdu_id;
      path_count = summary.header.path_count;
      has_last_sender = has_sender summary.last_sender;
      last_sender = sender_address summary.last_sender;
      header_length = summary.header_length;
      pdu_length = summary.pdu_length;
    }

abbrev pub refused_in_c : ℕ → MantHeader
refused_in_c number =
    record {
      number = number;
      protocol = 0;
      time_stamp_request = false;
      path_bit = false;
      has_destination = false;
      port = 0;
      has_encrypted = false;
      encrypted = false;
      reserved = 0;
      ack = false;
      added_header = false;
      hop_limit = 0;
      payload_length = 0;
      source = 0;
      destination = 0;
      pdu_id = 0;
      path_count = 0;
      has_last_sender = false;
      last_sender = 0;
      header_length = 0;
      pdu_length = 0;
    }

abbrev pub summary_in_c : Result Summary ℕ → MantHeader
summary_in_c (Ok summary) = shown_in_c summary
summary_in_c (Err number) = refused_in_c number

-- what reading under an edition shows for bytes (17, then "Numbers answered", 1 to 6)
abbrev pub header_in_c : Result Shown ℕ → List ℕ → MantHeader
header_in_c reading bytes = summary_in_c (summary_of reading bytes)

-- the settings of a fresh PDU, field by field ("Origination"; document 02, W-209)
abbrev pub fresh_from_c : MantFresh → FreshSettings
fresh_from_c settings =
    record {
      edition = settings.edition;
      source = settings.source;
      destination = destination_from_c settings.has_destination settings.destination;
      hop_limit = settings.hop_limit;
      port = settings.port;
      time_stamp_request = settings.time_stamp_request;
      with_path = settings.with_path;
      reliable = settings.reliable;
      pdu_id = settings.pdu_id;
      encrypted = settings.encrypted;
    }

-- which list of a kind is chosen (document 02, W-211): 0 none, 1 the first, 2 the second; any other number chooses none
abbrev pub choice_from_c : ℕ → Choice
choice_from_c number = cond (eqb number 1) First (cond (eqb number 2) Second Neither)

-- what a node is set to, each kind by itself
abbrev pub node_from_c : MantNode → Settings
node_from_c node =
    record {
      edition = node.edition;
      own = node.own;
      echo = node.echo;
      repeating = node.repeating;
      source_pass = choice_from_c node.source_pass;
      source_reject = choice_from_c node.source_reject;
      destination_pass = choice_from_c node.destination_pass;
      destination_reject = choice_from_c node.destination_reject;
    }

-- a change over: the same node, with every kind set to one choice; a number other than 1 and 2 sets 0
abbrev pub choice_number : ℕ → ℕ
choice_number choice = cond (eqb choice 1) 1 (cond (eqb choice 2) 2 0)

abbrev pub changed_over : MantNode → ℕ → MantNode
changed_over node choice =
    record {
      edition = node.edition;
      own = node.own;
      echo = node.echo;
      repeating = node.repeating;
      source_pass = choice_number choice;
      source_reject = choice_number choice;
      destination_pass = choice_number choice;
      destination_reject = choice_number choice;
    }

-- a node's answer ("One PDU at one node"), its last sender so, and back
abbrev pub answer_in_c : Answer → MantAnswer
answer_in_c answer =
    record {
      delivery = answer.delivery;
      repeat = answer.repeat;
      has_last_sender = has_sender answer.last_sender;
      last_sender = sender_address answer.last_sender;
      delivered_place = answer.delivered_place;
      delivered_length = answer.delivered_length;
      repeated_length = answer.repeated_length;
      taken = answer.taken;
    }

abbrev pub answer_from_c : MantAnswer → Answer
answer_from_c answer =
    record {
      delivery = answer.delivery;
      repeat = answer.repeat;
      delivered_place = answer.delivered_place;
      delivered_length = answer.delivered_length;
      repeated_length = answer.repeated_length;
      taken = answer.taken;
      last_sender = sender_from_c answer.has_last_sender answer.last_sender;
    }

-- what hearing a PDU answers and leaves in the output
abbrev pub HearsInC : Node → List ℕ → List ℕ → MantAnswer → List ℕ → Type 0
HearsInC node received output answer left =
    (answer ≡ answer_in_c (answer_of node (length output) received)) × (left ≡ output_after node received output)

-- and where it is counted too (document 02, W-201)
abbrev pub ListensInC : Node → List ℕ → List ℕ → List ℕ → MantListened → List ℕ → List ℕ → Type 0
ListensInC node received output memory listened left after =
    HearsInC node received output listened.answer left
    × (listened.table_number ≡ answer_number (answer_of node (length output) received) received memory)
    × (after ≡ memory_after_answer (answer_of node (length output) received) received memory)

-- and where it frees a retained PDU or is acknowledged (document 02, W-210)
abbrev pub HearsReliablyInC : Node → List Retained → ℕ → Sending → List ℕ → List ℕ → MantHeardReliably → List Retained → List ℕ → Type 0
HearsReliablyInC node table last sending received output heard after left =
    (heard.answer ≡ answer_in_c (answer_of node (length output) received))
    × (heard.outcome ≡ outcome_heard node table last sending (length output) received)
    × (after ≡ table_heard node table sending (length output) received)
    × (left ≡ output_heard node (length table) sending received output)

-- what C's two fields for numbers hold after a step without a PDU's answer: the number that it gives alone, or 255, which 01 gives to nothing. A PDU's two
-- numbers are its answer's, and are not asked for here
abbrev pub alone_in_c : Numbers → ℕ
alone_in_c (Alone number) = number
alone_in_c NoAnswer = 255
alone_in_c (Two delivery repeat) = 255

-- a step ("A batch"): kind 0 with a PDU's answer; 1 where the walk ends with no answer; 2 with a number alone. After 1 and 2 the cursor stays and has ended
abbrev pub step_in_c : Cursor → Stepped → MantStep
step_in_c cursor (Answered answer next) = record { kind = 0; answer = answer_in_c answer; next = next }
step_in_c cursor Ended =
    record { kind = 1; answer = answer_in_c (given_twice (alone_in_c (numbers_of Ended)) 0 None); next = record { place = cursor.place; ended = true } }
step_in_c cursor TooLong =
    record { kind = 2; answer = answer_in_c (given_twice (alone_in_c (numbers_of TooLong)) 0 None); next = record { place = cursor.place; ended = true } }

-- what a step answers and leaves in the output
abbrev pub StepsInC : Node → List ℕ → Cursor → List ℕ → MantStep → List ℕ → Type 0
StepsInC node batch cursor output step left =
    (step ≡ step_in_c cursor (step_of node (length output) batch cursor)) × (left ≡ step_output node batch cursor output)

-- a bound: the value, that it is too large, or number 10 ("Numbers answered"); the value is 0 where there is none
abbrev pub bound_in_c : Result ℕ BoundError → MantBound
bound_in_c (Ok value) = record { number = bound_number (Ok value); too_large = false; value = value }
bound_in_c (Err TooLarge) = record { number = bound_number (Err TooLarge); too_large = true; value = 0 }
bound_in_c (Err HopRefused) = record { number = bound_number (Err HopRefused); too_large = false; value = 0 }

-- how often a message goes out on a network: the value, or that it is enough, that the network is not served, or number 10; 0 where there is no value
abbrev pub no_airtime : ℕ → Bool → Bool → MantAirtime
no_airtime number served enough = record { number = number; served = served; enough = enough; value = 0 }

abbrev pub airtime_in_c : Airtime → MantAirtime
airtime_in_c (airtime.Exactly value) = record { number = 0; served = true; enough = false; value = value }
airtime_in_c airtime.Enough = no_airtime 0 true true
airtime_in_c airtime.HopRefused = no_airtime 10 false false
airtime_in_c airtime.NotServed = no_airtime 0 false false

-- and what marks, counts and table are after it, as crate `ways` has them
abbrev pub CountsInC : List ℕ → List ℕ → ℕ → ℕ → ℕ → ℕ → ℕ → List ℕ → List ℕ → MantAirtime → List ℕ → List ℕ → List ℕ → Type 0
CountsInC pairs marks from h price growth enough counts table returned marksNow countsNow tableNow =
    let answer = ways_answer pairs marks from h price growth enough (length counts) (length table) in
    (returned ≡ airtime_in_c answer) × Counts pairs marks from h price growth enough counts table answer marksNow countsNow tableNow

-- the same in bytes, for a fresh message of this size; a size above 65,535 is not served, and nothing is written
abbrev pub BytesInC : List ℕ → List ℕ → ℕ → ℕ → ℕ → ℕ → List ℕ → List ℕ → MantAirtime → List ℕ → List ℕ → List ℕ → Type 0
BytesInC pairs marks from h size enough counts table returned marksNow countsNow tableNow =
    (size ≤ 65535 → CountsInC pairs marks from h size 2 enough counts table returned marksNow countsNow tableNow)
    × (65535 < size → (returned ≡ airtime_in_c (cond (ltb 7 h) airtime.HopRefused airtime.NotServed))
    × (marksNow ≡ marks) × (countsNow ≡ counts) × (tableNow ≡ table))

-- a least hop limit (document 02, W-208); 8 where none reaches all
abbrev pub least_in_c : Option ℕ → ℕ
least_in_c (Some h) = h
least_in_c None = 8

-- "Sizes"; a list of 64 ranges has 128 values ("Numbers answered", 22)
abbrev pub limits_in_c : MantLimits
limits_in_c =
    record {
      fixed = fixed_length;
      payload = payload_limit;
      path = path_limit;
      header = header_limit;
      pdu = pdu_limit;
      list = value_limit;
      batch = batch_limit;
    }
