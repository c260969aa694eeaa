-- Document 01, "Origination", and "Numbers answered", 10 to 14; document 02, W-209: the edition, and the encrypted flag.
use Rattle.std.specs.Prelude.{ℕ, false, not, cond, ◌&&◌, List, [], eqb, ltb, length}
use Rattle.octets.specs.Numbers.{flag, ◌gives◌, ◌or_else◌}
use Rattle.octets.specs.Octets.{over}
use Rattle.pdu.specs.declared.Header.{Header}
use Rattle.pdu.specs.declared.Written.{Written}
use Rattle.pdu.specs.Sizes.{payload_limit, destination_flag, pdu_length}
use Rattle.writing.specs.Writing.{encode}
use Rattle.editions.specs.Editions.{known}
use Rattle.origin.specs.declared.FreshSettings.{FreshSettings}

-- the header of a PDU just originated: version 0; reserved, ACK and added header 0; the rest as set; with the path bit, the count byte is 0; the PDU ID
-- for reliable service only
unfoldable pub fresh_header : FreshSettings → ℕ → Header
fresh_header settings payload_length =
    record {
      protocol = flag settings.reliable;
      time_stamp_request = settings.time_stamp_request;
      path_bit = settings.with_path;
      port = settings.port;
      encrypted = settings.encrypted;
      reserved = 0;
      ack = false;
      added_header = false;
      hop_limit = settings.hop_limit;
      payload_length = payload_length;
      source = settings.source;
      destination = settings.destination;
      pdu_id = cond settings.reliable settings.pdu_id 0;
      path_count = 0;
    }

-- a PDU just originated is called fresh
unfoldable pub fresh : FreshSettings → List ℕ → List ℕ
fresh settings payload = encode (fresh_header settings (length payload)) [] payload

-- what settings and payload are refused for, whatever the output: 17, then 10 to 13 in that order, then 16, or 0
unfoldable pub settings_fault : FreshSettings → List ℕ → ℕ
settings_fault settings payload =
    not (known settings.edition) gives 17
    or_else ltb 7 settings.hop_limit gives 10
    or_else ltb 15 settings.port gives 11
    or_else ltb payload_limit (length payload) gives 12
    or_else (settings.reliable && eqb (destination_flag settings.destination) 0) gives 13
    or_else (settings.encrypted && eqb settings.edition 11) gives 16

-- what origination answers for an output of so many bytes: that, then 14; 0 where a PDU is written
unfoldable pub origination_number : FreshSettings → List ℕ → ℕ → ℕ
origination_number settings payload room =
    settings_fault settings payload or_else ltb room (pdu_length (fresh_header settings (length payload))) gives 14

-- the number, and the length of what was written: 0 with a refusal
unfoldable pub originated : FreshSettings → List ℕ → ℕ → Written
originated settings payload room =
    record {
      number = origination_number settings payload room;
      length = cond (eqb (origination_number settings payload room) 0) (pdu_length (fresh_header settings (length payload))) 0;
    }

-- the output changes only where a PDU is written
unfoldable pub originated_output : FreshSettings → List ℕ → List ℕ → List ℕ
originated_output settings payload output =
    cond (eqb (origination_number settings payload (length output)) 0) (over (fresh settings payload) output) output
