-- Document 02, W-210: what the worked cases are about.
use Rattle.std.specs.Prelude.{ℕ, true, List, [], ◌∷◌, replicate}
use Rattle.retained.specs.declared.Names.{Names}
use Rattle.retained.specs.declared.Retained.{Retained}
use Rattle.retained.specs.Records.{retained_record, freed_record}
use Rattle.acknowledgements.specs.declared.Sending.{Sending}
use Rattle.retry_termination.specs.History.{RetrySettings}

-- a command from 2000 to 1000 with hop limit 3 and an ID, and with ID 7; that with the path bit, a count and a path; and with 256 or
-- 257 bytes
abbrev pub command_of : ℕ → List ℕ
command_of id = 0x09 ∷ 0x40 ∷ 0x30 ∷ 0x00 ∷ 0x07 ∷ 0xD0 ∷ 0x03 ∷ 0xE8 ∷ id ∷ []

abbrev pub command : List ℕ
command = command_of 7

abbrev pub with_path : ℕ → List ℕ → List ℕ
with_path count path = 0x0B ∷ 0x40 ∷ 0x30 ∷ 0x00 ∷ 0x07 ∷ 0xD0 ∷ 0x03 ∷ 0xE8 ∷ 0x07 ∷ count ∷ path

abbrev pub of256 : List ℕ
of256 = 0x09 ∷ 0x40 ∷ 0x30 ∷ 0xF7 ∷ 0x07 ∷ 0xD0 ∷ 0x03 ∷ 0xE8 ∷ 0x07 ∷ replicate 247 0

abbrev pub of257 : List ℕ
of257 = 0x09 ∷ 0x40 ∷ 0x30 ∷ 0xF8 ∷ 0x07 ∷ 0xD0 ∷ 0x03 ∷ 0xE8 ∷ 0x07 ∷ replicate 248 0

-- its acknowledgement, hop limit 7, port 15, time stamp requested, with the path bit
abbrev pub reply : List ℕ
reply = 0x0F ∷ 0xF1 ∷ 0x70 ∷ 0x00 ∷ 0x03 ∷ 0xE8 ∷ 0x07 ∷ 0xD0 ∷ 0x07 ∷ 0x00 ∷ []

-- the same with a payload of two bytes
abbrev pub reply_with : List ℕ
reply_with = 0x0F ∷ 0xF1 ∷ 0x70 ∷ 0x02 ∷ 0x03 ∷ 0xE8 ∷ 0x07 ∷ 0xD0 ∷ 0x07 ∷ 0x00 ∷ 0xAB ∷ 0xCD ∷ []

-- the command with an added header
abbrev pub command_added : List ℕ
command_added = 0x09 ∷ 0x40 ∷ 0xB0 ∷ 0x00 ∷ 0x07 ∷ 0xD0 ∷ 0x03 ∷ 0xE8 ∷ 0x07 ∷ []

abbrev pub sending_most : Sending
sending_most = record { hop_limit = 7; port = 15; time_stamp_request = true; with_path = true }

abbrev pub command_names : Names
command_names = record { source = 2000; destination = 1000; pdu_id = 7 }

-- tables of 16: all free, and all holding the command as retained at second 10
abbrev pub empty : List Retained
empty = replicate 16 freed_record

abbrev pub full : List Retained
full = replicate 16 (retained_record 10 command)

-- delay 5, two more sendings
abbrev pub two_tries : RetrySettings
two_tries = record { delay = 5; tries = 2; room = 256 }
