-- Every public function that is lent records, of `reliable` and of `mant`: its promise asks nothing of the caller and determines what the caller sees.
use mathlib.Core.Path.{refl, sym, ◌∙◌}
use base.Logic.{emp, id⊢}
use Rattle.promises.specs.Promise.{both, PromisedInLogic, PromisedInLogicWithOutput}
use Rattle.promises.proofs.View.{both as both_facts}
use Rattle.reliable.specs.contracts.find_room as find-room-contract
use Rattle.reliable.specs.contracts.find_due as find-due-contract
use Rattle.reliable.specs.contracts.store as store-contract
use Rattle.reliable.specs.contracts.free as free-contract
use Rattle.reliable.specs.contracts.resend as resend-contract
use Rattle.mant.specs.contracts.reliable_messages.mant_retain as mant-retain-contract
use Rattle.mant.specs.contracts.reliable_messages.mant_retry as mant-retry-contract
use Rattle.mant.specs.contracts.reliable_messages.mant_acknowledge as mant-acknowledge-contract
use Rattle.mant.specs.contracts.reliable_messages.mant_hear_reliably as mant-hear-reliably-contract

pub find_room_lem : PromisedInLogic find-room-contract.ended (λ M 𝓤 𝓛. find-room-contract.clauses 𝓛) (λ κs x. x)
find_room_lem =
    record {
      unconditional = λ M 𝓤 𝓛 mem run κs a g. id⊢ 𝓤 (emp 𝓤);
      determined = λ M 𝓤 𝓛 mem run κs a g h x y s t. both_facts 𝓤 (λ p q. p ∙ sym q);
    }

pub find_due_lem : PromisedInLogic find-due-contract.ended (λ M 𝓤 𝓛. find-due-contract.clauses 𝓛) (λ κs x. x)
find_due_lem =
    record {
      unconditional = λ M 𝓤 𝓛 mem run κs a g. id⊢ 𝓤 (emp 𝓤);
      determined = λ M 𝓤 𝓛 mem run κs a g h x y s t. both_facts 𝓤 (λ p q. p ∙ sym q);
    }

pub store : PromisedInLogicWithOutput store-contract.ended (λ M 𝓤 𝓛. store-contract.clauses 𝓛) (λ κs s. s.0.now)
store =
    record {
      unconditional = λ M 𝓤 𝓛 mem run κs a g. id⊢ 𝓤 (emp 𝓤);
      determined = λ M 𝓤 𝓛 mem run κs a g h x y s t. both_facts 𝓤 (λ p q. (refl, p ∙ sym q));
    }

pub free : PromisedInLogicWithOutput free-contract.ended (λ M 𝓤 𝓛. free-contract.clauses 𝓛) (λ κs s. s.0.now)
free =
    record {
      unconditional = λ M 𝓤 𝓛 mem run κs a g. id⊢ 𝓤 (emp 𝓤);
      determined = λ M 𝓤 𝓛 mem run κs a g h x y s t. both_facts 𝓤 (λ p q. (p.0 ∙ sym q.0, p.1 ∙ sym q.1));
    }

pub resend : PromisedInLogicWithOutput resend-contract.ended (λ M 𝓤 𝓛. resend-contract.clauses 𝓛)
    (λ κs s. both s.0.now s.1.1.0.now)
resend =
    record {
      unconditional = λ M 𝓤 𝓛 mem run κs a g. id⊢ 𝓤 (emp 𝓤);
      determined = λ M 𝓤 𝓛 mem run κs a g h x y s t. both_facts 𝓤
          (λ p q. (refl, λ i. ((p.0 ∙ sym q.0) i, (p.1 ∙ sym q.1) i)));
    }

pub mant_retain_lem : PromisedInLogicWithOutput mant-retain-contract.ended (λ M 𝓤 𝓛. mant-retain-contract.clauses 𝓛) (λ κs s. s.0.now)
mant_retain_lem =
    record {
      unconditional = λ M 𝓤 𝓛 mem run κs a g. id⊢ 𝓤 (emp 𝓤);
      determined = λ M 𝓤 𝓛 mem run κs a g h x y s t. both_facts 𝓤 (λ p q. (p.0 ∙ sym q.0, p.1 ∙ sym q.1));
    }

pub mant_retry_lem : PromisedInLogicWithOutput mant-retry-contract.ended (λ M 𝓤 𝓛. mant-retry-contract.clauses 𝓛)
    (λ κs s. both s.0.now s.1.1.1.1.1.0.now)
mant_retry_lem =
    record {
      unconditional = λ M 𝓤 𝓛 mem run κs a g. id⊢ 𝓤 (emp 𝓤);
      determined = λ M 𝓤 𝓛 mem run κs a g h x y s t. both_facts 𝓤
          (λ p q. (p.0 ∙ sym q.0, λ i. ((p.1 ∙ sym q.1) i, (p.2 ∙ sym q.2) i)));
    }

pub mant_acknowledge_lem : PromisedInLogicWithOutput mant-acknowledge-contract.ended (λ M 𝓤 𝓛. mant-acknowledge-contract.clauses 𝓛)
    (λ κs s. both s.0.now s.1.1.1.1.1.1.0.now)
mant_acknowledge_lem =
    record {
      unconditional = λ M 𝓤 𝓛 mem run κs a g. id⊢ 𝓤 (emp 𝓤);
      determined = λ M 𝓤 𝓛 mem run κs a g h x y s t. both_facts 𝓤
          (λ p q. (p.0 ∙ sym q.0, λ i. ((p.1 ∙ sym q.1) i, (p.2 ∙ sym q.2) i)));
    }

pub mant_hear_reliably_lem : PromisedInLogicWithOutput mant-hear-reliably-contract.ended (λ M 𝓤 𝓛. mant-hear-reliably-contract.clauses 𝓛)
    (λ κs s. both s.1.1.0.now s.1.1.1.1.1.1.0.now)
mant_hear_reliably_lem =
    record {
      unconditional = λ M 𝓤 𝓛 mem run κs a g. id⊢ 𝓤 (emp 𝓤);
      determined = λ M 𝓤 𝓛 mem run κs a g h x y s t. both_facts 𝓤
          (λ p q. (
            λ i. record { answer = (p.0 ∙ sym q.0) i; outcome = (p.1 ∙ sym q.1) i },
            λ i. ((p.2 ∙ sym q.2) i, (p.3 ∙ sym q.3) i),
          ));
    }
