-- The table of worked examples, computed.
use mathlib.Core.Path.{refl}
use Rattle.pdu.specs.Header.{header_of}
use Rattle.pdu.specs.Reading.{read_of}
use Rattle.octets.specs.Numbers.{◌gives◌, ◌or_else◌}
use Rattle.writing.specs.Writing.{header_bytes, path_bytes, encode}
use Rattle.origin.specs.Origination.{fresh_header, fresh, settings_fault, origination_number, originated}
use Rattle.octets.specs.Octets.{over}
use Rattle.pdu.specs.Parts.{addresses_at, in_path, last_or}
use Rattle.lists.specs.Lists.{low_above_high, fault_of, first_fault, holds}
use Rattle.decision.specs.Decision.{echo_fault, pass_fault, drop_fault, delivery_fault, repeat_fault}
use Rattle.node.specs.Repeat.{repeated}
use Rattle.node.specs.Answers.{node_fault, node_or_reading_fault, stop_fault, delivery_number, repeat_number, delivered, taken, heard_from, answer_of, output_after}
use Rattle.base_worked_examples.specs.WorkedExamples.{WorkedExamples}

pub worked_examples : WorkedExamples
unfolding read_of header_of originated settings_fault origination_number fresh_header fresh encode header_bytes path_bytes ◌gives◌ ◌or_else◌ over
    addresses_at in_path last_or low_above_high fault_of first_fault node_fault holds echo_fault pass_fault drop_fault delivery_fault repeat_fault node_or_reading_fault
    stop_fault delivery_number repeat_number delivered taken heard_from repeated answer_of output_after
worked_examples =
    record {
      p1 = (refl, refl);
      p2 = refl;
      p2_payload = refl;
      p3 = (refl, refl);
      p4 = (refl, refl);
      p5 = (refl, refl);
      p6 = (refl, refl);
      p7 = (refl, refl);
      example_header = refl;
      example_payload = refl;
      p8 = refl;
      p8_output = refl;
      p9 = refl;
      p9_delivered = refl;
      p9_output = refl;
      p10 = refl;
      p10_output = refl;
      p11 = refl;
      p11_output = refl;
      p12 = refl;
      p12_output = refl;
      p13_refused = refl;
      p13_not_trimmed = (refl, refl);
      p13_taken = refl;
      p13_written = refl;
      p14 = refl;
    }
