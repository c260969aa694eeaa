-- Document 02, W-210: a node hears a PDU, and the table with it. Delivery is the node's own; it answers and repeats as without a table.
use Rattle.std.specs.Prelude.{ℕ, List, length}
use Rattle.decision.specs.Decision.{Node}
use Rattle.node.specs.Answers.{delivery_number, output_after}
use Rattle.retained.specs.declared.Retained.{Retained}
use Rattle.retained.specs.declared.Outcome.{Outcome}
use Rattle.acknowledgements.specs.declared.Sending.{Sending}
use Rattle.acknowledgements.specs.Delivered.{acknowledge, table_acknowledged, output_acknowledged}

-- what was done, and the table after it
abbrev pub outcome_heard : Node → List Retained → ℕ → Sending → ℕ → List ℕ → Outcome
outcome_heard node table last sending room received =
    acknowledge table last node.settings.own (delivery_number node room received) sending room received

abbrev pub table_heard : Node → List Retained → Sending → ℕ → List ℕ → List Retained
table_heard node table sending room received = table_acknowledged table node.settings.own (delivery_number node room received) sending room received

-- the output: the repeated PDU, if there is one; or the acknowledgement, if one is due
abbrev pub output_heard : Node → ℕ → Sending → List ℕ → List ℕ → List ℕ
output_heard node records sending received output =
    output_acknowledged records node.settings.own (delivery_number node (length output) received) sending received (output_after node received output)
