-- What is counted by an answer.
use Prim.Native.Nat.{ℕ}
use mathlib.Core.List.{List}
use mathlib.Core.Path.{◌≡◌, ap, ◌∙◌}
use borrow.Author.Tests.{eq-eqb, ne_eqb}
use Rattle.node.specs.declared.Answer.{Answer}
use Rattle.stations_update.specs.declared.Heard.{Heard}
use Rattle.stations_update.specs.Counting.{count_number, memory_after_count}
use Rattle.node_stations.specs.CountedAnswers.{heard_of, answer_number, memory_after_answer}

module _ (answer : Answer) (received memory : List ℕ) where
  pub counts_none : answer.taken ≡ 0
      → (◌≡◌ {A = ℕ} 0 (answer_number answer received memory)) × (memory ≡ memory_after_answer answer received memory)
  unfolding answer_number memory_after_answer
  counts_none e = (rw (eq-eqb answer.taken 0 e), rw (eq-eqb answer.taken 0 e))

  pub counts_one : (heard : Heard) (number : ℕ) (after : List ℕ) → (answer.taken ≡ 0 → ⊥) → heard ≡ heard_of answer received
      → (number ≡ count_number heard memory) × (after ≡ memory_after_count heard memory)
      → (number ≡ answer_number answer received memory) × (after ≡ memory_after_answer answer received memory)
  unfolding answer_number memory_after_answer
  counts_one heard number after e eh c =
      let some = ne_eqb answer.taken 0 e in
      (rw some (c.0 ∙ ap (λ (h : Heard). count_number h memory) eh), rw some (c.1 ∙ ap (λ (h : Heard). memory_after_count h memory) eh))
