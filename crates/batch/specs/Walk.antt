-- Document 01, "A batch"; document 02, W-209: 17 comes before every other number, so before 54, and it ends a walk.
use Rattle.std.specs.Prelude.{ℕ, zero, suc, ◌+◌, Bool, not, cond, ◌&&◌, ◌||◌, List, [], ◌∷◌, ◌≡◌, eqb, ltb, leb, length, drop}
use Rattle.editions.specs.Editions.{known}
use Rattle.node.specs.declared.Answer.{Answer}
use Rattle.decision.specs.Decision.{Node}
use Rattle.node.specs.Answers.{node_or_reading_fault, taken, answer_of, output_after}
use Rattle.batch.specs.declared.Cursor.{Cursor}
use Rattle.batch.specs.declared.Numbers.{Numbers}
use Rattle.batch.specs.declared.Numbers.TheVariants.{Two, Alone, NoAnswer}
use Rattle.batch.specs.declared.Stepped.{Stepped}
use Rattle.batch.specs.declared.Stepped.TheVariants.{TooLong, Ended, Answered}

-- a batch is 0 to 16,384 bytes ("Sizes")
abbrev pub batch_limit : ℕ
batch_limit = 16384

-- a batch over the size limit is answered 54 alone; 17 comes before it (W-209)
abbrev pub is_too_long : ℕ → List ℕ → Bool
is_too_long edition batch = known edition && ltb batch_limit (length batch)

-- no bytes are left at the cursor, or the walk has ended
abbrev pub is_done : List ℕ → Cursor → Bool
is_done batch cursor = cursor.ended || leb (length batch) cursor.place

-- where the next PDU starts: the byte after the last one's payload; at 17 (W-209), a list fault or 1 to 6 the walk ends
abbrev pub next_cursor : Node → List ℕ → ℕ → Cursor
next_cursor node batch place =
    record { place = place + taken node (drop place batch); ended = not (eqb (node_or_reading_fault node (drop place batch)) 0) }

-- one step of the walk
unfoldable pub step_of : Node → ℕ → List ℕ → Cursor → Stepped
step_of node room batch cursor =
    cond (is_too_long node.settings.edition batch) TooLong
    (cond (is_done batch cursor) Ended
    (Answered (answer_of node room (drop cursor.place batch)) (next_cursor node batch cursor.place)))

-- what the step leaves in the output: what the node leaves there
unfoldable pub step_output : Node → List ℕ → Cursor → List ℕ → List ℕ
step_output node batch cursor output =
    cond (is_too_long node.settings.edition batch || is_done batch cursor) output (output_after node (drop cursor.place batch) output)

-- what a step answers and leaves in the output
abbrev pub Steps : Node → List ℕ → Cursor → List ℕ → Stepped → List ℕ → Type 0
Steps node batch cursor output stepped left =
    (stepped ≡ step_of node (length output) batch cursor) × (left ≡ step_output node batch cursor output)

-- the numbers of each outcome: the PDU's two; 54 alone for a batch that is too long; no answer, and so no number, where the walk ends
abbrev pub numbers_of : Stepped → Numbers
numbers_of (Answered answer cursor) = Two answer.delivery answer.repeat
numbers_of TooLong = Alone 54
numbers_of Ended = NoAnswer

-- the whole walk: 54 for a batch that is too long, else 0; each PDU's offset and answer; the offset of the first byte not taken
pub record Walk : Type 0 where
  pub number : ℕ
  pub offsets : List ℕ
  pub answers : List Answer
  pub end : ℕ

-- a walk that ends at an offset without a further answer
abbrev pub ending_at : ℕ → ℕ → Walk
ending_at number offset = record { number = number; offsets = []; answers = []; end = offset }

-- one PDU's offset and answer before a walk
abbrev pub before : ℕ → Answer → Walk → Walk
before offset answer walk =
    record { number = walk.number; offsets = offset ∷ walk.offsets; answers = answer ∷ walk.answers; end = walk.end }

-- the walk from an offset on, for at most so many PDUs
unfoldable pub walk_from : ℕ → Node → ℕ → List ℕ → ℕ → Walk
walk_from zero node room batch offset = ending_at 0 offset
walk_from (suc turns) node room batch offset =
    cond (leb (length batch) offset) (ending_at 0 offset)
    (before offset (answer_of node room (drop offset batch))
    (cond (eqb (node_or_reading_fault node (drop offset batch)) 0)
    (walk_from turns node room batch (offset + taken node (drop offset batch)))
    (ending_at 0 offset)))

-- the walk of a batch; a PDU takes at least 6 bytes, so there are no more answers than bytes
unfoldable pub walk : Node → ℕ → List ℕ → Walk
walk node room batch = cond (is_too_long node.settings.edition batch) (ending_at 54 0) (walk_from (length batch) node room batch 0)

-- a walk from one step's answer on: the rest of it is what the next cursor gives
abbrev pub continued : Stepped → ℕ → (Cursor → Walk) → Walk
continued TooLong offset later = ending_at 54 offset
continued Ended offset later = ending_at 0 offset
continued (Answered answer next) offset later = before offset answer (later next)

-- what so many steps from a cursor on give
unfoldable pub steps : Node → ℕ → List ℕ → ℕ → Cursor → Walk
steps node room batch zero cursor = ending_at 0 cursor.place
steps node room batch (suc turns) cursor =
    continued (step_of node room batch cursor) cursor.place (λ next. steps node room batch turns next)
