-- Document 01, "The program `relay`", as one record, with W-205's sixth field; `proofs/RelayOutput.antt` gives it from its parts. `printed` is all that is
-- printed for the bytes of a job.
use Rattle.std.specs.Prelude.{ℕ, ◌≤◌, ◌≡◌, length, take, Ok, Err}
use mathlib.Core.List.{List, [], ◌∷◌, ◌++◌, flatten}
use Rattle.octets.specs.Octets.{AllBytes}
use Rattle.node.specs.Answers.{node_fault}
use Rattle.batch.specs.Walk.{walk}
use Rattle.text.specs.Text.{text, decimal}
use Rattle.lines.specs.Lines.{first_line, last_line}
use Rattle.job.specs.declared.Job.{Job}
use Rattle.job.specs.declared.JobRefusal.{JobRefusal}
use Rattle.job.specs.Jobs.{job_refusal_number, with_number, job_number, job_of, batch_in, node_in}
use Rattle.run.specs.Run.{room_for_one, pdu_lines, printed, Ran}

-- own address 2000, echo and repeating on, and four empty lists, as document 01's example begins
abbrev pub at_node2000 : List ℕ → List ℕ
at_node2000 rest = 0x07 ∷ 0xD0 ∷ 0x03 ∷ 0x00 ∷ 0x00 ∷ 0x00 ∷ 0x00 ∷ rest

-- document 01's example: a batch of 26 bytes, the PDU of document 002 and `000000000005`
abbrev pub example_job : List ℕ
example_job =
    at_node2000
    (0x00 ∷ 0x1A ∷ 0x03 ∷ 0x00 ∷ 0x10 ∷ 0x0B ∷ 0x03 ∷ 0xE8 ∷ 0x06 ∷ 0x40 ∷ 0x00 ∷ 0x70 ∷ 0x01 ∷ 0x08 ∷ 0x12 ∷ 0x12 ∷ 0x03 ∷ 0x24 ∷ 0x13 ∷ 0x22
    ∷ 0x02 ∷ 0x76 ∷ 0x00 ∷ 0x00 ∷ 0x00 ∷ 0x00 ∷ 0x00 ∷ 0x05 ∷ [])

-- the number that bytes are refused with, 0 where they are a job
abbrev pub fault : List ℕ → ℕ
fault bytes = job_number (with_number (job_of bytes))

pub record RelayOutput : Type 0 where
  -- a bad job prints only `refused` and the number
  pub refused : (bytes : List ℕ) (refusal : JobRefusal) → job_of bytes ≡ Err refusal
      → printed bytes ≡ text "refused " ++ decimal (job_refusal_number refusal) ++ text "\n"
  -- any other the own address, a line for each PDU of the walk, and the last line: how many these are, and the offset of the first byte not taken
  pub job_printed : (bytes : List ℕ) (job : Job) → job_of bytes ≡ Ok job
      → let node = node_in bytes job in let batch = batch_in bytes job in let found = walk node room_for_one batch in
      printed bytes ≡ first_line job.own ++ (flatten (pdu_lines node batch 1 found.offsets) ++ last_line (length found.offsets) found.end)
  -- its edition is known, none of its lists has a fault, and its walk is not 54
  pub no_fault : (bytes : List ℕ) (job : Job) → job_of bytes ≡ Ok job
      → (node_fault (node_in bytes job) ≡ 0) × ((walk (node_in bytes job) room_for_one (batch_in bytes job)).number ≡ 0)
  -- no job prints more than 98,352 characters, and in a text of that room `run::relay` leaves them all
  pub longest_text : (bytes : List ℕ) → AllBytes bytes → length (printed bytes) ≤ 98352
  pub whole : (bytes before after : List ℕ) (end : ℕ) → Ran bytes before after end → 98352 ≤ length before → take end after ≡ printed bytes
  -- of any input, however long, the first 17,418 bytes decide what is printed
  pub longest_input : (input : List ℕ) (room : ℕ) → 17418 ≤ room → printed (take room input) ≡ printed input
  -- document 01's example, whole; an empty batch; a PDU that can't be read has its line and isn't taken
  pub example : printed example_job
      ≡ text "relay 2000\n1 0 39 0 0300000B03E806400107D07001081212032413220276 1000\n2 20 0 37 - -\nend 2 26\n"
  pub empty_batch : printed (at_node2000 (0x00 ∷ 0x00 ∷ [])) ≡ text "relay 2000\nend 0 0\n"
  pub unread : printed (at_node2000 (0x00 ∷ 0x02 ∷ 0x40 ∷ 0x00 ∷ [])) ≡ text "relay 2000\n1 0 1 1 - -\nend 1 0\n"
  pub bad_job : printed [] ≡ text "refused 50\n"
  -- the first fault met: cut short, 50; flags, 51; a list count of 65, 52; a range that was read, 20, before one that is cut; a batch of 16,385, 54; bytes
  -- left over, 53
  pub cut_short : (fault (0x07 ∷ 0xD0 ∷ []) ≡ 50) × (fault (0x07 ∷ 0xD0 ∷ 0x03 ∷ []) ≡ 50) × (fault (0x07 ∷ 0xD0 ∷ 0x03 ∷ 0x01 ∷ 0x00 ∷ []) ≡ 50)
      × (fault (at_node2000 (0x00 ∷ [])) ≡ 50) × (fault (at_node2000 (0x00 ∷ 0x01 ∷ [])) ≡ 50)
  pub flags : (fault (0x07 ∷ 0xD0 ∷ 0x40 ∷ []) ≡ 51) × (fault (0x07 ∷ 0xD0 ∷ 0x80 ∷ []) ≡ 51)
  pub list_count : (fault (0x07 ∷ 0xD0 ∷ 0x03 ∷ 0x41 ∷ []) ≡ 52) × (fault (0x07 ∷ 0xD0 ∷ 0x03 ∷ 0x40 ∷ []) ≡ 50)
  pub range : fault (0x07 ∷ 0xD0 ∷ 0x03 ∷ 0x02 ∷ 0x00 ∷ 0x02 ∷ 0x00 ∷ 0x01 ∷ []) ≡ 20
  pub batch_length : (fault (at_node2000 (0x40 ∷ 0x01 ∷ [])) ≡ 54) × (fault (at_node2000 (0x40 ∷ 0x00 ∷ [])) ≡ 50)
  pub left_over : fault (at_node2000 (0x00 ∷ 0x00 ∷ 0x00 ∷ [])) ≡ 53
