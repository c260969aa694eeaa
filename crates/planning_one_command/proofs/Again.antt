-- The worked cases of two sendings, and what each transmission of one carries, by computing.
use mathlib.Core.Path.{◌≡◌, refl, ap}
use mathlib.Core.Bool.{true, not}
use mathlib.Core.List.{List, [], ◌∷◌, Nodup, Nodup-nil}
use Prim.Native.Nat.{ℕ, ◌+◌, ◌*◌, ◌<◌}
use native.Mathlib.Omega.{arith}
use borrow.Author.Tests.{not-true}
use lib.ListN.{length, replicate}
use Rattle.octets.specs.Numbers.{◌gives◌, ◌or_else◌}
use Rattle.octets.specs.Octets.{placed}
use Rattle.pdu.specs.Header.{header_of}
use Rattle.pdu.specs.Parts.{in_path, addresses_at}
use Rattle.pdu.specs.Reading.{read_of, exactly_one}
use Rattle.writing.specs.Writing.{header_bytes, path_bytes, encode}
use Rattle.bound.specs.Bound.{bound, bytes_bound, series, terms, falling_product}
use Rattle.bound.specs.Command.{sendings_bound, command_bound}
use Rattle.lists.specs.Lists.{first_fault, fault_of, low_above_high}
use Rattle.decision.specs.Decision.{echo_fault, pass_fault, drop_fault, delivery_fault, repeat_fault}
use Rattle.node.specs.Repeat.{repeated}
use Rattle.node.specs.Answers.{node_fault, node_or_reading_fault, stop_fault, delivery_number, repeat_number}
use Rattle.node.proofs.Heard.{not_in_path}
use Rattle.retained.specs.Records.{retain_fault, is_retainable, is_used, is_named, is_due, names_of}
use Rattle.retained.specs.Table.{record_at, first, retain, retain_number, table_retained, retry_step, step_number, table_stepped}
use Rattle.acknowledgements.specs.Delivered.{is_delivered_here, acknowledgement, acknowledge_number}
use Rattle.retry_termination.specs.Termination.{FreeTable}
use Rattle.retry_termination.specs.History.{RetainAt, StepAt, watch, world_after, history, start}
use Rattle.flood.specs.Air.{sends, can_repeat, repeaters}
use Rattle.flood.specs.Flood.{Reception, answer, keep, total}
use Rattle.flood.proofs.Lists.{nodup_more}
use Rattle.coverage.specs.Cases.{next_in_line}
use Rattle.coverage.proofs.Checked.{below, below_pass}
use Rattle.airtime.specs.Airtime.{air_from, air_of, air_bytes}
use Rattle.several_messages.specs.SeveralMessages.{together, messages_in, receptions_in, most_of, most_bytes_of, air_of_message, air_bytes_of_message}
use Rattle.w210_reliable_messages.specs.Worked.{empty}
use Rattle.planning_one_command.specs.Boxes.{repeaters_of, is_acknowledging, acknowledges, responds, all_sent, commands_in, replies_in, reply_to, replies_of}
use Rattle.planning_one_command.specs.Boxes.{Retried}
use Rattle.planning_one_command.specs.Worked.{three, box_at, order, both_answered, answered_again, one_try, all_hear}
use Rattle.planning_one_command.proofs.Cases.{run, of_keys}

pub each_counts : (sendings_bound 2 5 3 ≡ 258) × (command_bound 0 16 10 ≡ 176) × (command_bound 0 10 16 ≡ 170)
unfolding bound series terms falling_product
each_counts = (refl, refl, refl)

pub carried : (commands_in (all_sent three both_answered) ≡ 2) × (replies_in (all_sent three both_answered) ≡ 4)
unfolding total header_of
carried = (ap (λ (log : List (List ℕ)). commands_in log) run, ap (λ (log : List (List ℕ)). replies_in log) run)

pub asked_for : (replies_of (most_of (repeaters_of three)) three order ≡ 2) × (replies_of (most_of (repeaters_of three)) three (reply_to (box_at 1000) order) ≡ 0)
unfolding total bound series terms falling_product repeaters keep can_repeat node_fault first_fault fault_of low_above_high pass_fault header_of acknowledgement names_of
    encode header_bytes path_bytes ◌gives◌ ◌or_else◌
asked_for = (refl, refl)

pub reached_bytes : (most_bytes_of (repeaters_of three) order ≡ 22)
    × (air_of_message (repeaters_of three) order all_hear ≡ 2) × (air_bytes_of_message (repeaters_of three) order all_hear ≡ 22)
    × (air_of_message (repeaters_of three) order next_in_line ≡ 1) × (air_bytes_of_message (repeaters_of three) order next_in_line ≡ 10)
unfolding air_of air_bytes air_from total in_path bytes_bound series terms falling_product repeaters keep can_repeat node_fault first_fault fault_of low_above_high
    pass_fault header_of ◌gives◌ ◌or_else◌
reached_bytes = (refl, refl, refl, refl, refl)

pub twelve : length (all_sent three answered_again) ≡ 12
unfolding together answer responds acknowledges is_acknowledging sends acknowledgement acknowledge_number is_delivered_here names_of encode header_bytes path_bytes
    repeated repeat_number delivery_number stop_fault node_or_reading_fault node_fault first_fault fault_of low_above_high read_of header_of drop_fault echo_fault pass_fault
    repeat_fault delivery_fault addresses_at in_path ◌gives◌ ◌or_else◌
twelve = refl

pub two_messages : messages_in answered_again ≡ replicate 2 order
unfolding messages_in
two_messages = refl

pub once_again : Nodup (receptions_in answered_again)
unfolding in_path receptions_in
once_again =
    of_keys (λ (r : Reception). r.node * 10 + r.transmission) (receptions_in answered_again)
    (nodup_more (not_in_path 10 (20 ∷ 21 ∷ 12 ∷ 13 ∷ 16 ∷ 26 ∷ 27 ∷ 18 ∷ 19 ∷ []) refl)
    (nodup_more (not_in_path 20 (21 ∷ 12 ∷ 13 ∷ 16 ∷ 26 ∷ 27 ∷ 18 ∷ 19 ∷ []) refl)
    (nodup_more (not_in_path 21 (12 ∷ 13 ∷ 16 ∷ 26 ∷ 27 ∷ 18 ∷ 19 ∷ []) refl)
    (nodup_more (not_in_path 12 (13 ∷ 16 ∷ 26 ∷ 27 ∷ 18 ∷ 19 ∷ []) refl)
    (nodup_more (not_in_path 13 (16 ∷ 26 ∷ 27 ∷ 18 ∷ 19 ∷ []) refl)
    (nodup_more (not_in_path 16 (26 ∷ 27 ∷ 18 ∷ 19 ∷ []) refl)
    (nodup_more (not_in_path 26 (27 ∷ 18 ∷ 19 ∷ []) refl)
    (nodup_more (not_in_path 27 (18 ∷ 19 ∷ []) refl)
    (nodup_more (not_in_path 18 (19 ∷ []) refl) (nodup_more (not_in_path 19 [] refl) Nodup-nil))))))))))

-- the box that retains the command at second 10 sends it again at second 15
all_free : below (λ place. not (is_used (record_at empty place))) 16 ≡ true
unfolding below is_used retain_fault is_retainable exactly_one read_of header_of ◌gives◌ ◌or_else◌
all_free = refl

is_free : FreeTable empty
is_free =
    record {
      sixteen = refl;
      free = λ place low. not-true (is_used (record_at empty place)) (below_pass (λ p. not (is_used (record_at empty p))) 16 all_free place low);
    }

sent_again : (history one_try (names_of order) (RetainAt 10 order ∷ StepAt 15 ∷ []) (start empty 0)).life.sent ≡ 1
unfolding history world_after watch retain retain_number table_retained retry_step step_number table_stepped first retain_fault is_retainable exactly_one is_used names_of
    is_named is_due read_of header_of placed ◌gives◌ ◌or_else◌
sent_again = refl

pub retried : Retried one_try order 2
retried =
    record {
      table = empty;
      last = 0;
      operations = RetainAt 10 order ∷ StepAt 15 ∷ [];
      free = is_free;
      as_sent = omega (arith, sent_again);
    }
