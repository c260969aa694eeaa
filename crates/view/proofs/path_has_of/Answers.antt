use mathlib.Core.List.{List}
use mathlib.Core.Path.{ap, ap₂, ◌∙◌}
use Prim.Native.Nat.{ℕ}
use denote.Bor.{Bor}
use Rattle.view.specs.declared.Span.{Span}
use Rattle.pdu.specs.Parts.{in_path, path_in}
use Rattle.view.specs.View.{header_in}
use Rattle.view.proofs.Opened.{opened_has}
use Rattle.view.proofs.path_has_of.Goals as goal

pub returns : goal.returns
returns c =
    let address = c.args.address in
    c.path_has.ensures
    ∙ ap₂ (λ (b : List ℕ) (at : Span). in_path address (path_in (header_in b at) b)) (ap (λ (b : Bor (List ℕ)). b.now) c.open.ensures.0)
    c.open.ensures.1
    ∙ opened_has c.args.bytes.now address
