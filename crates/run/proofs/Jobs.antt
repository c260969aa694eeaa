-- A job's lines, from what its parts promise.
use Prim.Native.Nat.{ℕ, ◌*◌, ◌≤◌}
use native.Mathlib.Omega.{arith}
use mathlib.Core.List.{List, [], ◌∷◌}
use mathlib.Core.Path.{◌≡◌, refl, ap, sym, ◌∙◌}
use lib.ListN.{length, take, drop, length-take}
use Rattle.octets.specs.Octets.{over, placed, place_after}
use Rattle.octets.proofs.Placing.{length_placed, after_within}
use Rattle.decision.specs.declared.Settings.{Settings}
use Rattle.lists.specs.Lists.{Lists, lists_in, laid}
use Rattle.list_block.specs.Laying.{cut_lists, eight}
use Rattle.list_block.proofs.Laws.{same_lists}
use Rattle.decision.specs.Decision.{Node, node_of}
use Rattle.batch.specs.Walk.{batch_limit, walk}
use Rattle.lines.specs.Lines.{first_line, refused_line}
use Rattle.job.specs.declared.Section.{Section}
use Rattle.job.specs.declared.Job.{Job}
use Rattle.std.specs.Prelude.{Ok, Err}
use Rattle.job.specs.declared.JobRefusal.{JobRefusal}
use Rattle.job.specs.Jobs.{job_refusal_number, job_of, settings_of, values_in, padded_values, job_lists, batch_in, node_in}
use Rattle.job.proofs.Inversion.{job_in, lists_right}
use Rattle.job.proofs.Padding.{values_start}
use Rattle.run.specs.Run.{room_for_one, walk_lines, batch_lines, run_lines, text_with, place_with}

pub batch_short : (bytes : List ℕ) (job : Job) (batch : List ℕ) → job_of bytes ≡ Ok job → batch ≡ batch_in bytes job
    → length batch ≤ batch_limit
batch_short bytes job batch e eb =
    let i = job_in bytes job e in
    omega (arith, ap length eb, length-take job.batch.count (drop job.batch.place bytes), i.batch_limit_lem)

-- the values of a list section, from the start of their array
module _ (bytes : List ℕ) (section : Section) (few : section.count ≤ 64) where
  pub list_is : (array list : List ℕ) → array ≡ padded_values (values_in bytes section) → list ≡ take (2 * section.count) array
      → list ≡ values_in bytes section
  list_is array list e el = el ∙ ap (take (2 * section.count)) e ∙ values_start bytes section few

-- a block into which a job's lists were laid holds them
pub lists_are : (bytes : List ℕ) (job : Job) (a b c d before block : List ℕ) → job_of bytes ≡ Ok job
    → a ≡ values_in bytes job.source_pass → b ≡ values_in bytes job.source_reject
    → c ≡ values_in bytes job.destination_pass → d ≡ values_in bytes job.destination_reject
    → block ≡ over (laid (cut_lists (eight a [] b [] c [] d []))) before → lists_in block ≡ job_lists bytes job
lists_are bytes job a b c d before block e ea eb ec ed el =
    let given : eight a [] b [] c [] d [] ≡ job_lists bytes job =
    λ j. eight (ea j) [] (eb j) [] (ec j) [] (ed j) [] in
    ap lists_in el ∙ ap (λ (lists : Lists). lists_in (over (laid (cut_lists lists)) before)) given
    ∙ same_lists (job_lists bytes job) before (lists_right bytes job (job_in bytes job e))

-- the first line, then those of the walk
pub own_is : (job : Job) → (settings_of job).own ≡ job.own
unfolding settings_of
own_is job = refl

place_first : (text line : List ℕ) (later : List (List ℕ))
    → place_with text 0 (line ∷ later) ≡ place_with (placed text 0 line) (place_after text 0 line) later
unfolding place_with
place_first text line later = refl

text_first : (text line : List ℕ) (later : List (List ℕ))
    → text_with text 0 (line ∷ later) ≡ text_with (placed text 0 line) (place_after text 0 line) later
unfolding text_with
text_first text line later = refl

batch_put : (node : Node) (batch text t1 t2 : List ℕ) (own p1 p2 : ℕ) → own ≡ node.settings.own
    → (p1 ≡ place_after text 0 (first_line own)) × (t1 ≡ placed text 0 (first_line own))
    → (p2 ≡ place_with t1 p1 (walk_lines node batch 0 (walk node room_for_one batch)))
    × (t2 ≡ text_with t1 p1 (walk_lines node batch 0 (walk node room_for_one batch)))
    → (p2 ≡ place_with text 0 (batch_lines node batch)) × (t2 ≡ text_with text 0 (batch_lines node batch))
unfolding batch_lines
batch_put node batch text t1 t2 own p1 p2 eo e1 e2 =
    let later = walk_lines node batch 0 (walk node room_for_one batch) in (
      e2.0 ∙ ap (λ (t : List ℕ). place_with t p1 later) e1.1 ∙ ap (λ (p : ℕ). place_with (placed text 0 (first_line own)) p later) e1.0
          ∙ sym (place_first text (first_line own) later) ∙ ap (λ (o : ℕ). place_with text 0 (first_line o ∷ later)) eo,
      e2.1 ∙ ap (λ (t : List ℕ). text_with t p1 later) e1.1 ∙ ap (λ (p : ℕ). text_with (placed text 0 (first_line own)) p later) e1.0
          ∙ sym (text_first text (first_line own) later) ∙ ap (λ (o : ℕ). text_with text 0 (first_line o ∷ later)) eo,
    )

pub job_put : (bytes : List ℕ) (job : Job) (settings : Settings) (lists : Lists) (batch text t1 t2 : List ℕ) (p1 p2 : ℕ)
    → settings ≡ settings_of job → lists ≡ job_lists bytes job → batch ≡ batch_in bytes job
    → (p1 ≡ place_after text 0 (first_line job.own)) × (t1 ≡ placed text 0 (first_line job.own))
    → (p2 ≡ place_with t1 p1 (walk_lines (node_of settings lists) batch 0 (walk (node_of settings lists) room_for_one batch)))
    × (t2 ≡ text_with t1 p1 (walk_lines (node_of settings lists) batch 0 (walk (node_of settings lists) room_for_one batch)))
    → (p2 ≡ place_with text 0 (batch_lines (node_in bytes job) (batch_in bytes job)))
    × (t2 ≡ text_with text 0 (batch_lines (node_in bytes job) (batch_in bytes job)))
job_put bytes job settings lists batch text t1 t2 p1 p2 es el eb e1 e2 =
    let own = sym (ap (λ (s : Settings). s.own) es ∙ own_is job) in
    rw (← es, ← el, ← eb) (batch_put (node_of settings lists) batch text t1 t2 job.own p1 p2 own e1 e2)

-- a job's lines by its reading
module _ (bytes text : List ℕ) where
  pub refused_put : (refusal : JobRefusal) (t : List ℕ) (p : ℕ) → job_of bytes ≡ Err refusal
      → (p ≡ place_after text 0 (refused_line (job_refusal_number refusal))) × (t ≡ placed text 0 (refused_line (job_refusal_number refusal)))
      → (p ≡ place_with text 0 (run_lines bytes)) × (t ≡ text_with text 0 (run_lines bytes))
  unfolding run_lines text_with place_with
  refused_put refusal t p e r = rw e r

  pub read_put : (job : Job) (t : List ℕ) (p : ℕ) → job_of bytes ≡ Ok job
      → (p ≡ place_with text 0 (batch_lines (node_in bytes job) (batch_in bytes job)))
      × (t ≡ text_with text 0 (batch_lines (node_in bytes job) (batch_in bytes job)))
      → (p ≡ place_with text 0 (run_lines bytes)) × (t ≡ text_with text 0 (run_lines bytes))
  unfolding run_lines
  read_put job t p e r = rw e r

-- lines never end past the text
pub place_within : (lines : List (List ℕ)) (text : List ℕ) (place : ℕ) → place ≤ length text → place_with text place lines ≤ length text
unfolding place_with
place_within [] text place h = h
place_within (line ∷ later) text place h =
    let long = length_placed text place line in
    omega (
      arith,
      long,
      place_within later (placed text place line) (place_after text place line)
          (omega (arith, long, after_within text place line h)),
    )
