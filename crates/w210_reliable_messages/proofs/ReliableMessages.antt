-- W-210 from its parts.
use native.Mathlib.Omega.{arith}
use mathlib.Core.Bool.{true, false, not}
use mathlib.Core.List.{[], ◌∷◌, ◌++◌}
use mathlib.Core.Path.{◌≡◌, refl, ap}
use Rattle.octets.specs.Numbers.{◌gives◌, ◌or_else◌}
use Rattle.octets.specs.Octets.{placed}
use Rattle.pdu.specs.Header.{header_of}
use Rattle.pdu.specs.Reading.{read_of, exactly_one}
use Rattle.writing.specs.Writing.{header_bytes, path_bytes, encode}
use Rattle.pdu.specs.Parts.{addresses_at, in_path}
use Rattle.lists.specs.Lists.{low_above_high, fault_of, first_fault, holds}
use Rattle.decision.specs.Decision.{echo_fault, pass_fault, drop_fault, delivery_fault, repeat_fault}
use Rattle.node.specs.Answers.{node_fault, node_or_reading_fault, stop_fault, delivery_number, delivered}
use Rattle.retained.specs.Records.{is_retainable, retain_fault, is_used, names_of, is_named, is_due, retained_record, freed_record}
use Rattle.retained.specs.Table.{first, number_alone, retain_number, retain, table_retained, step_number, retry_step, table_stepped}
use Rattle.acknowledgements.specs.Delivered.{is_delivered_here, acknowledgement, acknowledge_number, acknowledge, table_acknowledged}
use Rattle.acknowledgements.specs.Hearing.{outcome_heard}
use Rattle.retry_termination.specs.History.{RetainAt, HearPdu, StepAt, Waiting, Lost, Arrived, watch, world_after, history, start}
use Rattle.retry_termination.specs.Termination.{rounds_at, Spaced}
use Rattle.retry_termination.proofs.Facts.{freed_free, is_due_lem, retained_pdu}
use Rattle.retry_termination.proofs.Lowest.{first_or_none}
use Rattle.retry_termination.proofs.Retaining.{retain_74, retain_73, retain_75, retain_72, retain_71, retain_70, retain_kept, is_fit}
use Rattle.retry_termination.proofs.Stepping.{step_74, step_73, step_none, step_dropped, step_77, step_sent}
use Rattle.retry_termination.proofs.Hearing.{answer_10, answer_11, answer_74, answer_77, answer_sent, heard_74, heard_other, unmatched, acknowledged}
use Rattle.retry_termination.proofs.Exchanged.{ack_reads, ack_names}
use Rattle.retry_termination.proofs.Ends.{ending, arrives}
use Rattle.retry_termination.proofs.Rounds.{rounds_end}
use Rattle.retry_termination.proofs.Settles.{settling}
use Rattle.flood.proofs.Fresh.{originated_begins}
use Rattle.flood.proofs.Counting.{begun_bounded}
use Rattle.base_worked_examples.specs.WorkedExamples.{node_at}
use Rattle.w210_reliable_messages.specs.Worked.{command_of, command, with_path, of256, of257, reply, reply_with, command_added, sending_most, command_names}
use Rattle.w210_reliable_messages.specs.Worked.{empty, full, two_tries}
use Rattle.w210_reliable_messages.specs.ReliableMessages.{ReliableMessages}
use Rattle.w210_reliable_messages.proofs.Tests.{used_is, is_used_lem, retainable_is, is_retainable_lem, names_there, named_there, is_named_lem, due_is}
use Rattle.w210_reliable_messages.proofs.Delivering.{answers_here, here_answers, frees_here, here_frees, node_answered, node_answered_only}
use Rattle.w210_reliable_messages.proofs.Delivering.{only_answered}
use Rattle.w210_reliable_messages.proofs.Delivering.{node_freed, node_freed_only}
use Rattle.w210_reliable_messages.proofs.Delivering.{payload_is, stays_whole, its_output, heard_so, refused_so, is_answered_lem, is_freed, is_ignored}
use Rattle.w210_reliable_messages.proofs.Exchange.{reply_same, repeated_same, exchanged_there, held_begins, reply_starts}

-- the cases that compute, each by itself
module _ where
  path_counts : (retain_fault (with_path 0 []) ≡ 0) × (retain_fault (with_path 1 (0x03 ∷ 0xE9 ∷ [])) ≡ 75)
  unfolding retain_fault is_retainable exactly_one read_of header_of ◌gives◌ ◌or_else◌
  path_counts = (refl, refl)

  longest_there : (retain_fault of256 ≡ 0) × (retain_fault of257 ≡ 72) × (retain_fault (of257 ++ (0 ∷ [])) ≡ 75)
  unfolding retain_fault is_retainable exactly_one read_of header_of ◌gives◌ ◌or_else◌
  longest_there = (refl, refl, refl)

  order : ((retain (freed_record ∷ full) 11 10 reply).number ≡ 74) × ((retain full 11 10 reply).number ≡ 73) × ((retain full 10 10 reply).number ≡ 75)
      × ((retain full 10 10 command).number ≡ 71) × ((retain full 10 10 (command_of 8)).number ≡ 70)
  unfolding retain retain_number first retain_fault is_retainable exactly_one is_used names_of is_named read_of header_of placed ◌gives◌ ◌or_else◌
  order = (refl, refl, refl, refl, refl)

  due_there : (is_due 14 5 (retained_record 10 command) ≡ false) × (is_due 15 5 (retained_record 10 command) ≡ true)
      × (is_due 9 0 (retained_record 10 command) ≡ false)
  unfolding is_due retain_fault is_retainable exactly_one is_used read_of header_of placed ◌gives◌ ◌or_else◌
  due_there = (refl, refl, refl)

  reply_there : acknowledgement sending_most command_names ≡ reply
  unfolding acknowledgement encode header_bytes path_bytes
  reply_there = refl

  delivered_at : (delivery_number (node_at 1000 true false) 100 command ≡ 0) × (delivery_number (node_at 2000 true false) 100 reply ≡ 0)
      × (delivery_number (node_at 3000 true false) 100 command ≡ 39)
  unfolding delivery_number stop_fault node_fault node_or_reading_fault low_above_high fault_of first_fault holds echo_fault pass_fault drop_fault delivery_fault repeat_fault
      addresses_at in_path read_of header_of ◌gives◌ ◌or_else◌
  delivered_at = (refl, refl, refl)

  lost_there : (history two_tries command_names
      (RetainAt 10 command ∷ StepAt 14 ∷ StepAt 15 ∷ StepAt 15 ∷ StepAt 20 ∷ StepAt 20 ∷ StepAt 25 ∷ StepAt 25 ∷ []) (start empty 0)).life
      ≡ record { fate = Lost; sent = 2; moments = 3; mark = 25 }
  unfolding history world_after watch retain retain_number table_retained retry_step step_number table_stepped first retain_fault is_retainable exactly_one is_used
      names_of is_named is_due read_of header_of placed ◌gives◌ ◌or_else◌
  lost_there = refl

  rounds_lost : (history two_tries command_names (RetainAt 10 command ∷ rounds_at two_tries (15 ∷ 20 ∷ 25 ∷ [])) (start empty 0)).life
      ≡ record { fate = Lost; sent = 2; moments = 3; mark = 25 }
  unfolding history world_after watch retain retain_number table_retained retry_step step_number table_stepped first retain_fault is_retainable exactly_one is_used
      names_of is_named is_due read_of header_of placed ◌gives◌ ◌or_else◌
  rounds_lost = refl

  apart : Spaced 5 10 10 (15 ∷ 20 ∷ 25 ∷ []) × (Spaced 5 10 10 (14 ∷ 20 ∷ 25 ∷ []) → ⊥)
  apart = ((omega arith, omega arith, (omega arith, omega arith, (omega arith, omega arith, tt))), λ s. absurd (omega (arith, s.1)))

  waiting_there : (history two_tries command_names (RetainAt 10 command ∷ StepAt 14 ∷ StepAt 15 ∷ StepAt 15 ∷ StepAt 20 ∷ StepAt 20 ∷ []) (start empty 0)).life
      ≡ record { fate = Waiting; sent = 2; moments = 2; mark = 20 }
  unfolding history world_after watch retain retain_number table_retained retry_step step_number table_stepped first retain_fault is_retainable exactly_one is_used
      names_of is_named is_due read_of header_of placed ◌gives◌ ◌or_else◌
  waiting_there = refl

  arrived_there : (history two_tries command_names (RetainAt 10 command ∷ StepAt 15 ∷ HearPdu 2000 0 sending_most 0 reply ∷ StepAt 20 ∷ []) (start empty 0)).life
      ≡ record { fate = Arrived; sent = 1; moments = 1; mark = 20 }
  unfolding history world_after watch retain retain_number table_retained retry_step step_number table_stepped acknowledge acknowledge_number is_delivered_here
      table_acknowledged first
      retain_fault is_retainable exactly_one is_used names_of is_named is_due read_of header_of placed ◌gives◌ ◌or_else◌
  arrived_there = refl

  not_for_this : (acknowledge empty 5 3000 0 sending_most 100 command ≡ number_alone 0 5)
      × (acknowledge empty 5 0 0 sending_most 100 (0x09 ∷ []) ≡ number_alone 0 5)
      × (acknowledge empty 5 1000 0 sending_most 100 command_added ≡ number_alone 0 5)
  unfolding acknowledge acknowledge_number is_delivered_here read_of header_of ◌gives◌ ◌or_else◌
  not_for_this = (refl, refl, refl)

  payload_given : (outcome_heard (node_at 2000 true false) empty 5 sending_most 100 reply_with ≡ number_alone 0 5)
      × (delivered (node_at 2000 true false) 100 reply_with ≡ (0xAB ∷ 0xCD ∷ []))
  unfolding acknowledge acknowledge_number is_delivered_here first is_used retain_fault is_retainable exactly_one names_of is_named delivery_number delivered stop_fault
      node_fault node_or_reading_fault low_above_high fault_of first_fault holds echo_fault pass_fault drop_fault delivery_fault repeat_fault addresses_at in_path read_of
      header_of ◌gives◌ ◌or_else◌
  payload_given = (refl, refl)

pub reliable_messages : ReliableMessages
reliable_messages =
    record {
      used = used_is;
      used_only = is_used_lem;
      freed_is_free = ap not freed_free;
      retainable = retainable_is;
      retainable_only = is_retainable_lem;
      names_are = names_there;
      named = named_there;
      named_only = is_named_lem;
      due = due_is;
      due_only = is_due_lem;
      held_bytes = retained_pdu;
      same_bytes = λ now r. refl;
      noted = λ now bytes. (refl, refl);
      noted_again = λ now r. (refl, refl);
      refusal_says = λ n last. (refl, refl, refl, refl, refl, refl);
      deed_says = λ deed last place names written. (refl, refl, refl, refl, refl, refl);
      deeds = (refl, refl, refl, refl, refl);
      first_or_none = first_or_none;
      retain_74 = retain_74;
      retain_73 = retain_73;
      retain_75 = retain_75;
      retain_72 = retain_72;
      retain_71 = λ table last now bytes s t r l. retain_71 table last now bytes s t (is_fit table last now bytes s t r l);
      retain_70 = λ table last now bytes s t r l. retain_70 table last now bytes s t (is_fit table last now bytes s t r l);
      retained = λ table last now bytes s t r l f place g. retain_kept table last now bytes s t (is_fit table last now bytes s t r l) place f g;
      step_74 = step_74;
      step_73 = step_73;
      none_due = step_none;
      dropped = step_dropped;
      step_77 = step_77;
      sent_again = step_sent;
      answers_it = answers_here;
      answers_it_only = here_answers;
      hear_10 = answer_10;
      hear_11 = answer_11;
      hear_74 = answer_74;
      hear_77 = answer_77;
      acknowledges = answer_sent;
      frees_it = frees_here;
      frees_it_only = here_frees;
      other_74 = heard_74;
      frees = acknowledged;
      matches_nothing = unmatched;
      ignores = heard_other;
      reads_back = λ sending names hop port rest. (ack_reads sending names hop port rest, ack_names sending names hop port rest);
      reply_is = reply_same;
      same_repeated = repeated_same;
      exchange = exchanged_there;
      ending = ending;
      settling = settling;
      rounds = rounds_end;
      free_asked = λ table sixteen free. record { sixteen = sixteen; free = free };
      arrives = arrives;
      node_answers = node_answered;
      node_answers_only = node_answered_only;
      node_frees = node_freed;
      node_frees_only = node_freed_only;
      answered_there = λ node table last sending received output d hop port s. is_answered_lem node received output sending table last s d hop port;
      answered_only = λ node table last sending received room. only_answered node room received table last sending;
      unanswered = λ node records sending received output. its_output node received output sending records;
      not_repeated = stays_whole;
      heard_as = λ node table last sending received output. heard_so node received output sending table last;
      refused_there = λ node table last sending received output. refused_so node received output sending table last;
      freed_there = λ node table last sending received output d s. is_freed node received output sending table last s d;
      ignored_there = λ node table last sending received output d s. is_ignored node received output sending table last s d;
      payload_there = payload_is;
      enough_is = (refl, refl);
      fresh_begins = originated_begins;
      retained_begins = held_begins;
      reply_begins = reply_starts;
      counted = λ nodes all first begins receptions once. begun_bounded nodes all first begins receptions once;
      path_count_lem = path_counts;
      longest = longest_there;
      in_order = order;
      due_at = due_there;
      reply_bytes = reply_there;
      delivered_there = delivered_at;
      lost = lost_there;
      spaced = apart;
      lost_by_rounds = rounds_lost;
      waiting = waiting_there;
      arrived = arrived_there;
      not_for_it = not_for_this;
      with_payload = payload_given;
    }
