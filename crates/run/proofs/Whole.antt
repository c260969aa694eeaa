-- A text with room for every job has all that is printed, whole; and input that is cut behind the longest job prints the same.
use Prim.Native.Nat.{ℕ, ◌+◌, ◌≤◌, ◌<◌}
use native.Mathlib.Omega.{arith}
use mathlib.Core.Bool.{Bool, true, false}
use mathlib.Core.List.{List, [], ◌∷◌, flatten}
use mathlib.Core.Path.{◌≡◌, refl, ap, sym, ◌∙◌}
use lib.Dec.{leb}
use lib.ListN.{length, take, length-append}
use lib.Seq.{take_all}
use borrow.Author.Tests.{leb-true, leb-false}
use Rattle.octets.specs.Octets.{AllBytes, placed, place_after}
use Rattle.octets.proofs.Placing.{is_after, length_placed, nothing_placed, placed_more, placed_start, take_over}
use Rattle.std.specs.Prelude.{Ok, Err}
use Rattle.job.specs.declared.Job.{Job}
use Rattle.job.proofs.Results.{Read}
use Rattle.job.specs.Jobs.{job_of, job_limit}
use Rattle.job.proofs.Inversion.{job_in}
use Rattle.job.proofs.Longest.{job_cut}
use Rattle.run.specs.Run.{job_lines, run_lines, text_with, place_with, LinesPut, printed, input_room, Ran, PrintedForAll}
use Rattle.run.proofs.Jobs.{place_within}
use Rattle.run.proofs.Short.{printed_within}

-- lines that all fit stand one after another
all_placed : (lines : List (List ℕ)) (text : List ℕ) (place : ℕ) → place + length (flatten lines) ≤ length text
    → (place_with text place lines ≡ place + length (flatten lines)) × (text_with text place lines ≡ placed text place (flatten lines))
unfolding place_with text_with flatten
all_placed [] text place h = (omega arith, nothing_placed text place)
all_placed (line ∷ later) text place h =
    let both = length-append line (flatten later) in
    let after = is_after text place line (omega (arith, both)) in
    let kept = length_placed text place line in
    let below = all_placed later (placed text place line) (place_after text place line) (omega (arith, both, after, kept)) in (
      omega (arith, below.0, after, both),
      below.1 ∙ placed_more text place line (flatten later) (place_after text place line) after (omega (arith, both, after)),
    )

-- what a run leaves
pub ran : (bytes before after : List ℕ) (end : ℕ) → AllBytes bytes → LinesPut before 0 (run_lines bytes) after end → Ran bytes before after end
unfolding printed
ran bytes before after end small e =
    record {
      lines = e;
      within = rw e.0 (place_within (run_lines bytes) before 0 (omega arith));
      whole = λ room.
          let fits = printed_within bytes small in
          let all = all_placed (run_lines bytes) before 0 (omega arith) in
          ap (take end) (e.1 ∙ all.1 ∙ placed_start (flatten (run_lines bytes)) before (omega arith))
          ∙ take_over (flatten (run_lines bytes)) before end (omega (arith, e.0, all.0));
    }

-- input longer than any job is refused, with a number that what stands behind the longest does not change
pub printed_cut : (input : List ℕ) (room : ℕ) → job_limit < room → printed (take room input) ≡ printed input
unfolding printed run_lines
printed_cut input room h = ap flatten (go (leb (length input) room) refl)
  where
    refused : (read : Read Job) → job_of input ≡ read → job_limit < length input → job_lines (take room input) read ≡ job_lines input read
    refused (Err refusal) e long = refl
    refused (Ok job) e long = absurd (omega (arith, (job_in input job e).short))

    go : (all : Bool) → leb (length input) room ≡ all → job_lines (take room input) (job_of (take room input)) ≡ job_lines input (job_of input)
    go true e = ap (λ (bytes : List ℕ). job_lines bytes (job_of bytes)) (take_all room input (leb-true (length input) room e))
    go false e =
        ap (job_lines (take room input)) (job_cut input room h) ∙ refused (job_of input) refl (omega (arith, leb-false (length input) room e))

pub printed_for_all : (start text : List ℕ) (room : ℕ) → input_room ≤ room → text ≡ printed start → PrintedForAll start room text
printed_for_all start text room h e input is = e ∙ ap printed (sym is) ∙ printed_cut input room (omega arith)
