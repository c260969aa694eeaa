use mathlib.Core.List.{List}
use mathlib.Core.Path.{ap, ap₂, ◌∙◌}
use Prim.Native.Nat.{ℕ}
use denote.Bor.{Bor}
use Rattle.view.specs.declared.Span.{Span}
use Rattle.pdu.specs.Parts.{path_address}
use Rattle.view.specs.View.{header_in}
use Rattle.view.proofs.Opened.{opened_address}
use Rattle.view.proofs.path_address_of.Goals as goal

pub returns : goal.returns
returns c =
    let i = c.args.i in
    c.path_address.ensures
    ∙ ap₂ (λ (b : List ℕ) (at : Span). path_address (header_in b at) b i) (ap (λ (b : Bor (List ℕ)). b.now) c.open.ensures.0) c.open.ensures.1
    ∙ opened_address c.args.bytes.now i
