use mathlib.Core.List.{List}
use mathlib.Core.Path.{ap, ap₂, ◌∙◌}
use Prim.Native.Nat.{ℕ}
use denote.Bor.{Bor}
use Rattle.view.specs.declared.Span.{Span}
use Rattle.view.specs.View.{summary_at}
use Rattle.view.proofs.Opened.{opened_summary}
use Rattle.view.proofs.summary_of.Goals as goal

pub returns : goal.returns
returns c =
    let edition = c.args.edition in
    c.summarize.ensures
    ∙ ap₂ (λ (b : List ℕ) (at : Span). summary_at b at edition) (ap (λ (b : Bor (List ℕ)). b.now) c.open.ensures.0) c.open.ensures.1
    ∙ opened_summary c.args.bytes.now edition
