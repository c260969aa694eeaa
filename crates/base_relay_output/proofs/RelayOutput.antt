-- What `relay` prints, from laws of a job and of its lines.
use Prim.Native.Nat.{ℕ, zero, suc, ◌+◌}
use native.Mathlib.Omega.{arith}
use mathlib.Core.Bool.{Bool, true, false, cond}
use mathlib.Core.List.{List, [], ◌∷◌, ◌++◌, flatten, append-nil, append_assoc}
use mathlib.Core.Path.{◌≡◌, refl, ap, sym, ◌∙◌}
use lib.Dec.{eqb, leb}
use lib.ListN.{length, drop}
use Rattle.octets.specs.Numbers.{◌gives◌, ◌or_else◌}
use Rattle.pdu.specs.Header.{header_of}
use Rattle.pdu.specs.Reading.{read_of}
use Rattle.pdu.specs.Parts.{addresses_at, in_path, last_or}
use Rattle.lists.specs.Lists.{low_above_high, fault_of, first_fault}
use Rattle.decision.specs.Decision.{Node, echo_fault, pass_fault, drop_fault, delivery_fault, repeat_fault}
use Rattle.node.specs.Repeat.{repeated}
use Rattle.node.specs.Answers.{node_fault, node_or_reading_fault, stop_fault, delivery_number, repeat_number, taken, heard_from, answer_of}
use Rattle.batch.specs.Walk.{Walk, ending_at, before, walk_from, walk}
use Rattle.batch.proofs.Stepping.{not_too_long}
use Rattle.text.specs.Text.{text, digit, decimal_within, decimal, hex}
use Rattle.lines.specs.Lines.{first_line, shown, pdu_line, last_line, refused_line}
use Rattle.job.specs.declared.Job.{Job}
use Rattle.std.specs.Prelude.{Ok, Err}
use Rattle.job.specs.declared.JobRefusal.{JobRefusal}
use Rattle.job.specs.Jobs.{job_refusal_number, job_head, ranges_read, list_section, batch_section, sections_of, job_of, settings_of, batch_in, node_in}
use Rattle.job.proofs.Inversion.{job_in, node_right}
use Rattle.run.specs.Run.{room_for_one, pdu_lines, walk_lines, batch_lines, run_lines, printed}
use Rattle.run.proofs.Jobs.{batch_short}
use Rattle.run.proofs.Short.{printed_within}
use Rattle.run.proofs.Whole.{printed_cut}
use Rattle.base_relay_output.specs.RelayOutput.{RelayOutput}

-- lines, and one behind them
with_last : (lines : List (List ℕ)) (last : List ℕ) → flatten (lines ++ (last ∷ [])) ≡ flatten lines ++ last
unfolding flatten
with_last [] last = append-nil last
with_last (line ∷ lines) last =
    ap (λ (characters : List ℕ). line ++ characters) (with_last lines last) ∙ sym (append_assoc line (flatten lines) last)

one_before : (line : List ℕ) (lines : List (List ℕ)) → flatten (line ∷ lines) ≡ line ++ flatten lines
unfolding flatten
one_before line lines = refl

refused : (bytes : List ℕ) (refusal : JobRefusal) → job_of bytes ≡ Err refusal
    → printed bytes ≡ text "refused " ++ decimal (job_refusal_number refusal) ++ text "\n"
unfolding printed run_lines refused_line flatten
refused bytes refusal e = rw e (with_last [] (refused_line (job_refusal_number refusal)))

-- a walk that is not too long has no number of its own
module _ (node : Node) (room : ℕ) (batch : List ℕ) where
  no_number : (turns offset : ℕ) → (walk_from turns node room batch offset).number ≡ 0
  unfolding walk_from
  no_number zero offset = refl
  no_number (suc turns) offset =
      go (leb (length batch) offset) (eqb (node_or_reading_fault node (drop offset batch)) 0)
      (no_number turns (offset + taken node (drop offset batch)))
    where
      go : (done read : Bool) → (walk_from turns node room batch (offset + taken node (drop offset batch))).number ≡ 0
          → (cond done (ending_at 0 offset)
          (before offset (answer_of node room (drop offset batch))
          (cond read (walk_from turns node room batch (offset + taken node (drop offset batch))) (ending_at 0 offset)))).number
          ≡ 0
      go true read below = refl
      go false true below = below
      go false false below = refl

module _ (bytes : List ℕ) (job : Job) (e : job_of bytes ≡ Ok job) where
  abbrev node : Node
  node = node_in bytes job

  abbrev batch : List ℕ
  batch = batch_in bytes job

  abbrev found : Walk
  found = walk node room_for_one batch

  job_printed : printed bytes
      ≡ first_line job.own ++ (flatten (pdu_lines node batch 1 found.offsets) ++ last_line (length found.offsets) found.end)
  unfolding printed run_lines batch_lines walk_lines settings_of
  job_printed =
      let lines = pdu_lines node batch 1 found.offsets in
      let last = last_line (0 + length found.offsets) found.end in
      let printed-first : 0 + length found.offsets ≡ length found.offsets = omega arith in
      rw e
      (one_before (first_line job.own) (lines ++ (last ∷ []))
      ∙ ap (λ (characters : List ℕ). first_line job.own ++ characters) (with_last lines last)
      ∙ ap (λ (count : ℕ). first_line job.own ++ (flatten lines ++ last_line count found.end)) printed-first)

  not_54 : found.number ≡ 0
  unfolding walk
  not_54 = rw (not_too_long node batch (batch_short bytes job batch e refl)) (no_number node room_for_one batch (length batch) 0)

pub relay_output : RelayOutput
unfolding printed run_lines batch_lines walk_lines pdu_lines flatten first_line pdu_line last_line refused_line shown hex decimal decimal_within digit
    job_of job_head sections_of list_section batch_section ranges_read settings_of walk walk_from delivery_number repeat_number stop_fault
    node_fault node_or_reading_fault drop_fault echo_fault pass_fault delivery_fault repeat_fault taken heard_from repeated read_of header_of
    addresses_at in_path last_or fault_of first_fault low_above_high ◌gives◌ ◌or_else◌
relay_output =
    record {
      refused = λ bytes refusal e. refused bytes refusal e;
      job_printed = λ bytes job e. job_printed bytes job e;
      no_fault = λ bytes job e. (node_right bytes job (job_in bytes job e), not_54 bytes job e);
      longest_text = λ bytes small. printed_within bytes small;
      whole = λ bytes before after end ran room. ran.whole room;
      longest_input = λ input room enough. printed_cut input room (omega arith);
      example = refl;
      empty_batch = refl;
      unread = refl;
      bad_job = refl;
      cut_short = (refl, refl, refl, refl, refl);
      flags = (refl, refl);
      list_count = (refl, refl);
      range = refl;
      batch_length = (refl, refl);
      left_over = refl;
    }
