-- Every public function of `view`: its promise asks nothing of the caller and determines what the caller sees.
use Prim.Native.Nat.{ℕ}
use mathlib.Core.List.{List}
use mathlib.Core.Path.{◌≡◌, sym, ◌∙◌}
use base.Logic.{ent, sep, emp, id⊢, via, fst∗, snd∗}
use contract.Monad.{fact, fact_use, fact_mono}
use denote.Ref.{Bor}
use seplogic.Ra.Ura.{Ura}
use Rattle.view.specs.declared.Span.{Span}
use Rattle.view.specs.declared.Pdu.{Pdu}
use Rattle.promises.specs.Promise.{Promised, PromisedInLogic}
use Rattle.view.proofs.summary_of.Reads as summary-of-reads
use Rattle.view.proofs.summary_of.Kinds as summary-of-kinds
use Rattle.view.proofs.path_address_of.Reads as path-address-of-reads
use Rattle.view.proofs.path_address_of.Kinds as path-address-of-kinds
use Rattle.view.proofs.path_has_of.Reads as path-has-of-reads
use Rattle.view.proofs.path_has_of.Kinds as path-has-of-kinds
use Rattle.view.specs.contracts.open as open-contract
use Rattle.view.specs.contracts.summarize as summarize-contract
use Rattle.view.specs.contracts.path_address as path-address-contract
use Rattle.view.specs.contracts.path_has as path-has-contract

-- two facts give a third that follows from them
pub both : {M : Type 1} (𝓤 : Ura M) {φ ψ χ : Type 0} → (φ → ψ → χ) → ent 𝓤 (sep 𝓤 (fact 𝓤 φ) (fact 𝓤 ψ)) (fact 𝓤 χ)
both 𝓤 {φ} {ψ} {χ} f =
    fact_use 𝓤 φ (fst∗ 𝓤 (fact 𝓤 φ) (fact 𝓤 ψ))
    (λ p. via 𝓤 (fact 𝓤 ψ) (snd∗ 𝓤 (fact 𝓤 φ) (fact 𝓤 ψ)) (fact_mono 𝓤 ψ χ (λ q. f p q)))

-- two views that have the same bytes and span
same_view : {x y : Pdu} {bytes : Bor (List ℕ)} {span : Span} → (x.bytes ≡ bytes) × (x.at ≡ span)
    → (y.bytes ≡ bytes) × (y.at ≡ span) → x ≡ y
same_view p q = λ i. record { bytes = (p.0 ∙ sym q.0) i; at = (p.1 ∙ sym q.1) i }

pub opened : PromisedInLogic open-contract.ended (λ M 𝓤 𝓛. open-contract.clauses 𝓛) (λ κs x. x)
opened =
    record {
      unconditional = λ M 𝓤 𝓛 mem run κs a g. id⊢ 𝓤 (emp 𝓤);
      determined = λ M 𝓤 𝓛 mem run κs a g h x y s t. both 𝓤 (λ p q. same_view p q);
    }

pub summarize : PromisedInLogic summarize-contract.ended (λ M 𝓤 𝓛. summarize-contract.clauses 𝓛) (λ κs x. x)
summarize =
    record {
      unconditional = λ M 𝓤 𝓛 mem run κs a g. id⊢ 𝓤 (emp 𝓤);
      determined = λ M 𝓤 𝓛 mem run κs a g h x y s t. both 𝓤 (λ p q. p ∙ sym q);
    }

pub path_address_lem : PromisedInLogic path-address-contract.ended (λ M 𝓤 𝓛. path-address-contract.clauses 𝓛) (λ κs x. x)
path_address_lem =
    record {
      unconditional = λ M 𝓤 𝓛 mem run κs a g. id⊢ 𝓤 (emp 𝓤);
      determined = λ M 𝓤 𝓛 mem run κs a g h x y s t. both 𝓤 (λ p q. p ∙ sym q);
    }

pub path_has_lem : PromisedInLogic path-has-contract.ended (λ M 𝓤 𝓛. path-has-contract.clauses 𝓛) (λ κs x. x)
path_has_lem =
    record {
      unconditional = λ M 𝓤 𝓛 mem run κs a g. id⊢ 𝓤 (emp 𝓤);
      determined = λ M 𝓤 𝓛 mem run κs a g h x y s t. both 𝓤 (λ p q. p ∙ sym q);
    }

pub summary_of_lem : Promised 1 summary-of-kinds.ps summary-of-kinds.r summary-of-reads.Asked summary-of-reads.Post (λ κs x. x)
summary_of_lem = (λ κs a. tt, λ κs a x y s t p q. p ∙ sym q)

pub path_address_of_lem : Promised 1 path-address-of-kinds.ps path-address-of-kinds.r path-address-of-reads.Asked path-address-of-reads.Post (λ κs x. x)
path_address_of_lem = (λ κs a. tt, λ κs a x y s t p q. p ∙ sym q)

pub path_has_of_lem : Promised 1 path-has-of-kinds.ps path-has-of-kinds.r path-has-of-reads.Asked path-has-of-reads.Post (λ κs x. x)
path_has_of_lem = (λ κs a. tt, λ κs a x y s t p q. p ∙ sym q)
