-- Document 01, "The program `relay`": the lines that a job prints, and the room for them.
use Rattle.std.specs.Prelude.{ℕ, ◌+◌, ◌*◌, ◌≤◌, cond, ◌≡◌, eqb, length, take, drop, Result, Ok, Err}
use mathlib.Core.List.{List, [], ◌∷◌, ◌++◌, flatten}
use Rattle.octets.specs.Octets.{placed, place_after}
use Rattle.pdu.specs.Sizes.{pdu_limit}
use Rattle.decision.specs.Decision.{Node}
use Rattle.node.specs.Repeat.{repeated}
use Rattle.node.specs.Answers.{delivery_number, repeat_number, heard_from}
use Rattle.batch.specs.Walk.{batch_limit, Walk, walk}
use Rattle.job.specs.declared.JobRefusal.{JobRefusal}
use Rattle.job.specs.declared.Job.{Job}
use Rattle.job.specs.Jobs.{job_refusal_number, job_of, job_limit, batch_in, node_in}
use Rattle.lines.specs.Lines.{first_line, pdu_line, last_line, refused_line}

-- the program's output for one PDU has room for the longest, so that none is too long for it
abbrev pub room_for_one : ℕ
room_for_one = pdu_limit

-- the repeated PDU, or nothing
abbrev pub repeated_or_none : Node → List ℕ → List ℕ
repeated_or_none node received = cond (eqb (repeat_number node room_for_one received) 0) (repeated node.settings.own received) []

-- the line of the PDU at an offset
abbrev pub line_at : Node → List ℕ → ℕ → ℕ → List ℕ
line_at node batch number offset =
    pdu_line number offset (delivery_number node room_for_one (drop offset batch)) (repeat_number node room_for_one (drop offset batch))
    (repeated_or_none node (drop offset batch)) (heard_from node (drop offset batch))

-- a line for each offset, numbered from a number on
unfoldable pub pdu_lines : Node → List ℕ → ℕ → List ℕ → List (List ℕ)
pdu_lines node batch number [] = []
pdu_lines node batch number (offset ∷ later) = line_at node batch number offset ∷ pdu_lines node batch (number + 1) later

-- the PDU lines of a walk after so many were printed, and the last line
unfoldable pub walk_lines : Node → List ℕ → ℕ → Walk → List (List ℕ)
walk_lines node batch printed w =
    pdu_lines node batch (printed + 1) w.offsets ++ (last_line (printed + length w.offsets) w.end ∷ [])

-- a line for each PDU of a batch that is not too long, and the last line
abbrev pub lines_of : Node → List ℕ → List (List ℕ)
lines_of node batch = walk_lines node batch 0 (walk node room_for_one batch)

-- all lines of it: own address first
unfoldable pub batch_lines : Node → List ℕ → List (List ℕ)
batch_lines node batch = first_line node.settings.own ∷ lines_of node batch

-- lines put into a text one after another; one that does not fit is left out
unfoldable pub text_with : List ℕ → ℕ → List (List ℕ) → List ℕ
text_with text place [] = text
text_with text place (line ∷ later) = text_with (placed text place line) (place_after text place line) later

unfoldable pub place_with : List ℕ → ℕ → List (List ℕ) → ℕ
place_with text place [] = place
place_with text place (line ∷ later) = place_with (placed text place line) (place_after text place line) later

-- lines were put into a text from a place on: what stands in it after, and where they end
abbrev pub LinesPut : List ℕ → ℕ → List (List ℕ) → List ℕ → ℕ → Type 0
LinesPut before place lines after end = (end ≡ place_with before place lines) × (after ≡ text_with before place lines)

-- the lines of a job: a bad job prints only `refused` and the number
abbrev pub job_lines : List ℕ → Result Job JobRefusal → List (List ℕ)
job_lines bytes (Err refusal) = refused_line (job_refusal_number refusal) ∷ []
job_lines bytes (Ok job) = batch_lines (node_in bytes job) (batch_in bytes job)

-- what `relay` prints for the bytes of a job, line by line
unfoldable pub run_lines : List ℕ → List (List ℕ)
run_lines bytes = job_lines bytes (job_of bytes)

-- and all of it, its lines one after another
unfoldable pub printed : List ℕ → List ℕ
printed bytes = flatten (run_lines bytes)

-- room for all that a job prints: 6 characters for each byte of the longest batch, and 48 for own address, a PDU that can't be read, and the end
abbrev pub text_room : ℕ
text_room = 6 * batch_limit + 48

-- room for the start of the input that decides what is printed: one byte more than the longest job has, so that a longer one is told (53)
abbrev pub input_room : ℕ
input_room = job_limit + 1

-- what a run leaves in a text, and where its lines end there: each line that fits, and where the text has that room, all that is printed
pub record Ran (bytes before after : List ℕ) (end : ℕ) : Type 0 where
  pub lines : LinesPut before 0 (run_lines bytes) after end
  pub within : end ≤ length before
  pub whole : text_room ≤ length before → take end after ≡ printed bytes

-- what is printed, where so much of an input was read as there was room for: all that `relay` prints for the whole of it
abbrev pub PrintedForAll : List ℕ → ℕ → List ℕ → Type 0
PrintedForAll start room text = (input : List ℕ) → take room input ≡ start → text ≡ printed input
