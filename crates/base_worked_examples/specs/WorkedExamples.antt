-- Document 01, "Checked by hand": the cases marked P, in one table; their answers carry the last sender too (document 02, W-205).
-- `proofs/WorkedExamples.antt` computes every line of it.
use Rattle.std.specs.Prelude.{ℕ, Bool, true, false, cond, List, [], ◌∷◌, ◌++◌, ◌≡◌, length, set, replicate, Ok, Err, Some}
use Rattle.pdu.specs.declared.Destination.TheVariants.{Everyone, Address}
use Rattle.pdu.specs.declared.Refusal.TheVariants.{TooShort, WrongVersion, UnknownProtocol, NoDestination, HeaderCut, PayloadCut}
use Rattle.pdu.specs.Reading.{read_of, refusal_number}
use Rattle.pdu.specs.Parts.{payload_in}
use Rattle.pdu.specs.Header.{header_of}
use Rattle.lists.specs.Lists.{two}
use Rattle.decision.specs.declared.Choice.TheVariants.{First, Neither}
use Rattle.decision.specs.Decision.{Node}
use Rattle.node.specs.declared.Answer.{Answer}
use Rattle.node.specs.Answers.{delivered, answer_of, given_twice, output_after}
use Rattle.origin.specs.declared.FreshSettings.{FreshSettings}
use Rattle.origin.specs.Origination.{fresh, originated}

-- the example of document 002
abbrev pub example : List ℕ
example =
    0x03 ∷ 0x00 ∷ 0x10 ∷ 0x0B ∷ 0x03 ∷ 0xE8 ∷ 0x06 ∷ 0x40 ∷ 0x00 ∷ 0x70 ∷ 0x01 ∷ 0x08 ∷ 0x12 ∷ 0x12 ∷ 0x03 ∷ 0x24 ∷ 0x13
    ∷ 0x22 ∷ 0x02 ∷ 0x76 ∷ []

-- settings that ask for a hop limit, and nothing else out of the way: source 5, port 0, best efforts to everyone, no path, no time stamp
abbrev pub asking : ℕ → FreshSettings
asking hop =
    record {
      edition = 12;
      source = 5;
      destination = Everyone;
      hop_limit = hop;
      port = 0;
      time_stamp_request = false;
      with_path = false;
      reliable = false;
      pdu_id = 0;
      encrypted = false;
    }

-- a node of edition 1.2 and that address, echo on or off, repeating; its first source pass list on or off, all other lists off, and all eight empty
abbrev pub node_at : ℕ → Bool → Bool → Node
node_at own echo pass =
    record {
      settings = record {
        edition = 12;
        own = own;
        echo = echo;
        repeating = true;
        source_pass = cond pass First Neither;
        source_reject = Neither;
        destination_pass = Neither;
        destination_reject = Neither;
      };
      lists = record { source_pass = two [] []; source_reject = two [] []; destination_pass = two [] []; destination_reject = two [] [] };
    }

-- the example repeated by node 2000, as document 01 prints it
abbrev pub example_repeated : List ℕ
example_repeated =
    0x03 ∷ 0x00 ∷ 0x00 ∷ 0x0B ∷ 0x03 ∷ 0xE8 ∷ 0x06 ∷ 0x40 ∷ 0x01 ∷ 0x07 ∷ 0xD0 ∷ 0x70 ∷ 0x01 ∷ 0x08 ∷ 0x12 ∷ 0x12 ∷ 0x03
    ∷ 0x24 ∷ 0x13 ∷ 0x22
    ∷ 0x02 ∷ 0x76 ∷ []

-- an output of 30 bytes
abbrev pub blank : List ℕ
blank = replicate 30 0xFF

-- what a node answers that has it
abbrev pub answers : Node → List ℕ → Answer
answers node received = answer_of node (length blank) received

pub record WorkedExamples : Type 0 where
  -- 5 bytes of zero: 1
  pub p1 : (read_of (0 ∷ 0 ∷ 0 ∷ 0 ∷ 0 ∷ []) ≡ Err TooShort) × (refusal_number TooShort ≡ 1)
  -- 000000000005: read, every field, payload empty
  pub p2 : read_of (0 ∷ 0 ∷ 0 ∷ 0 ∷ 0 ∷ 5 ∷ [])
      ≡ Ok
      (record {
        protocol = 0;
        time_stamp_request = false;
        path_bit = false;
        port = 0;
        encrypted = false;
        reserved = 0;
        ack = false;
        added_header = false;
        hop_limit = 0;
        payload_length = 0;
        source = 5;
        destination = Everyone;
        pdu_id = 0;
        path_count = 0;
      })
  pub p2_payload : payload_in (header_of (0 ∷ 0 ∷ 0 ∷ 0 ∷ 0 ∷ 5 ∷ [])) (0 ∷ 0 ∷ 0 ∷ 0 ∷ 0 ∷ 5 ∷ []) ≡ []
  -- first byte 40, rest zero, 6 bytes: 2
  pub p3 : (read_of (0x40 ∷ 0 ∷ 0 ∷ 0 ∷ 0 ∷ 0 ∷ []) ≡ Err WrongVersion) × (refusal_number WrongVersion ≡ 2)
  -- first byte 10: 3
  pub p4 : (read_of (0x10 ∷ 0 ∷ 0 ∷ 0 ∷ 0 ∷ 0 ∷ []) ≡ Err UnknownProtocol) × (refusal_number UnknownProtocol ≡ 3)
  -- first byte 08: 4
  pub p5 : (read_of (0x08 ∷ 0 ∷ 0 ∷ 0 ∷ 0 ∷ 0 ∷ []) ≡ Err NoDestination) × (refusal_number NoDestination ≡ 4)
  -- first byte 01, 6 bytes: 5
  pub p6 : (read_of (0x01 ∷ 0 ∷ 0 ∷ 0 ∷ 0 ∷ 0 ∷ []) ≡ Err HeaderCut) × (refusal_number HeaderCut ≡ 5)
  -- 000000010005: 6
  pub p7 : (read_of (0 ∷ 0 ∷ 0 ∷ 1 ∷ 0 ∷ 5 ∷ []) ≡ Err PayloadCut) × (refusal_number PayloadCut ≡ 6)
  -- the example of document 002, every field, and its payload
  pub example_header : read_of example
      ≡ Ok
      (record {
        protocol = 0;
        time_stamp_request = false;
        path_bit = true;
        port = 0;
        encrypted = false;
        reserved = 0;
        ack = false;
        added_header = false;
        hop_limit = 1;
        payload_length = 11;
        source = 1000;
        destination = Address 1600;
        pdu_id = 0;
        path_count = 0;
      })
  pub example_payload : payload_in (header_of example) example
      ≡ 0x70 ∷ 0x01 ∷ 0x08 ∷ 0x12 ∷ 0x12 ∷ 0x03 ∷ 0x24 ∷ 0x13 ∷ 0x22 ∷ 0x02 ∷ 0x76 ∷ []
  -- the example at node 2000: 39 and 0, nothing delivered, repeated as printed, and the output past the repeat kept
  pub p8 : answers (node_at 2000 true false) example
      ≡ record { delivery = 39; repeat = 0; delivered_place = 0; delivered_length = 0; repeated_length = 22; taken = 20; last_sender = Some 1000 }
  pub p8_output : output_after (node_at 2000 true false) example blank ≡ example_repeated ++ replicate 8 0xFF
  -- the same at node 1600: 0 and 41, the payload delivered, the output as it was
  pub p9 : answers (node_at 1600 true false) example
      ≡ record { delivery = 0; repeat = 41; delivered_place = 9; delivered_length = 11; repeated_length = 0; taken = 20; last_sender = Some 1000 }
  pub p9_delivered : delivered (node_at 1600 true false) (length blank) example
      ≡ 0x70 ∷ 0x01 ∷ 0x08 ∷ 0x12 ∷ 0x12 ∷ 0x03 ∷ 0x24 ∷ 0x13 ∷ 0x22 ∷ 0x02 ∷ 0x76 ∷ []
  pub p9_output : output_after (node_at 1600 true false) example blank ≡ blank
  -- P8's output at node 2000, echo on: 30 twice, although its hop limit is 0
  pub p10 : answers (node_at 2000 true false) example_repeated ≡ given_twice 30 22 (Some 2000)
  pub p10_output : output_after (node_at 2000 true false) example_repeated blank ≡ blank
  -- the same, echo off: 39 and 37
  pub p11 : answers (node_at 2000 false false) example_repeated
      ≡ record { delivery = 39; repeat = 37; delivered_place = 0; delivered_length = 0; repeated_length = 0; taken = 22; last_sender = Some 2000 }
  pub p11_output : output_after (node_at 2000 false false) example_repeated blank ≡ blank
  -- hop 7, otherwise the example: repeated with 7
  pub p12 : answers (node_at 2000 true false) (set example 2 0x70) ≡ answers (node_at 2000 true false) example
  pub p12_output : output_after (node_at 2000 true false) (set example 2 0x70) blank ≡ set example_repeated 2 0x70 ++ replicate 8 0xFF
  -- hop setting 15 refused with 10; so are 263 and 2^32 + 7, which a narrower number would have taken for 7; 7 taken, and on the air as 7
  pub p13_refused : originated (asking 15) [] 100 ≡ record { number = 10; length = 0 }
  pub p13_not_trimmed : (originated (asking 263) [] 100 ≡ record { number = 10; length = 0 })
      × (originated (asking 4294967303) [] 100 ≡ record { number = 10; length = 0 })
  pub p13_taken : originated (asking 7) [] 100 ≡ record { number = 0; length = 6 }
  pub p13_written : fresh (asking 7) [] ≡ 0x00 ∷ 0x00 ∷ 0x70 ∷ 0x00 ∷ 0x00 ∷ 0x05 ∷ []
  -- a source pass list on and empty: 31
  pub p14 : answers (node_at 2000 true true) example ≡ given_twice 31 20 (Some 1000)
