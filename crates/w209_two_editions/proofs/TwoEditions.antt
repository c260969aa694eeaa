-- W-209 from its parts.
use mathlib.Core.Bool.{true, false}
use mathlib.Core.List.{[], ◌∷◌}
use mathlib.Core.Path.{◌≡◌, refl, ap}
use lib.ListN.{replicate}
use Rattle.std.specs.Prelude.{None}
use Rattle.octets.specs.Numbers.{◌gives◌, ◌or_else◌}
use Rattle.pdu.specs.Header.{header_of}
use Rattle.pdu.specs.Reading.{read_of}
use Rattle.writing.specs.Writing.{header_bytes, path_bytes, encode}
use Rattle.pdu.specs.Parts.{addresses_at, in_path, last_or}
use Rattle.editions.specs.Editions.{shown_with, wire_of, read_under}
use Rattle.editions.proofs.Showing.{unknown_refused}
use Rattle.editions.proofs.Same.{wire_read, same_bytes}
use Rattle.origin.specs.Origination.{fresh_header, fresh, settings_fault, origination_number}
use Rattle.lists.specs.Lists.{fault_of, first_fault}
use Rattle.node.specs.Answers.{node_fault, node_or_reading_fault, stop_fault, delivery_number, repeat_number, taken, heard_from, answer_of, given_twice}
use Rattle.node.proofs.Editions.{edition_answer, edition_output}
use Rattle.batch.specs.Walk.{Walk, walk}
use Rattle.batch.proofs.Alike.{edition_step, edition_step_output, edition_walk}
use Rattle.batch.proofs.Faults.{empty_walk}
use Rattle.job.specs.Jobs.{settings_of}
use Rattle.node_stations.specs.CountedAnswers.{answer_number, memory_after_answer}
use Rattle.boundary.specs.Boundary.{has_flag, flag_of, reserved_shown}
use Rattle.node.specs.Editions.{with_edition}
use Rattle.w209_two_editions.specs.TwoEditions.{TwoEditions, all_set, too_long, at2000, at_fault, settings_for}
use Rattle.w209_two_editions.proofs.Reading.{only_two, read_17_only, read_refused, read_11, read_12, shown_as_11, shown_as_12, not_read, no_room}
use Rattle.w209_two_editions.proofs.Hearing.{hears_17, hears_17_only, steps_17, steps_done, walks_17, bits_kept}
use Rattle.w209_two_editions.proofs.Originating.{originated_17_only, originated_16_only, fresh_12, fresh_11, originated_17, originated_16}
use Rattle.w209_two_editions.proofs.Originating.{originated_same}
use Rattle.w209_two_editions.proofs.Originating.{flag_alone}
use Rattle.w209_two_editions.proofs.Relaying.{relays_same}

-- the cases that compute, each by itself
module _ where
  fault_after : (answer_of (with_edition 13 at_fault) 100 all_set ≡ given_twice 17 0 None)
      × (answer_of (with_edition 11 at_fault) 100 all_set ≡ given_twice 21 0 None)
  unfolding answer_of delivery_number repeat_number stop_fault node_or_reading_fault node_fault first_fault fault_of taken heard_from ◌gives◌ ◌or_else◌
  fault_after = (refl, refl)

  limit_after : ((walk (with_edition 13 at2000) 100 too_long).answers ≡ given_twice 17 0 None ∷ []) × ((walk (with_edition 11 at2000) 100 too_long).number ≡ 54)
  unfolding walk
  limit_after = (ap (λ (w : Walk). w.answers) (walks_17 (with_edition 13 at2000) refl 100 0 (replicate 16384 0)), refl)

  in_order : (origination_number (settings_for 13 true 8 true) [] 0 ≡ 17) × (origination_number (settings_for 11 true 8 true) [] 0 ≡ 10)
      × (origination_number (settings_for 11 true 7 true) [] 0 ≡ 13) × (origination_number (settings_for 11 true 7 false) [] 0 ≡ 16)
      × (origination_number (settings_for 11 false 7 false) [] 5 ≡ 14) × (origination_number (settings_for 11 false 7 false) [] 6 ≡ 0)
      × (origination_number (settings_for 12 true 7 false) [] 5 ≡ 14) × (origination_number (settings_for 12 true 7 false) [] 6 ≡ 0)
  unfolding origination_number settings_fault fresh_header ◌gives◌ ◌or_else◌
  in_order = (refl, refl, refl, refl, refl, refl, refl, refl)

  flag_written : fresh (settings_for 12 true 0 false) [] ≡ 0x00 ∷ 0x08 ∷ 0x00 ∷ 0x00 ∷ 0x00 ∷ 0x05 ∷ []
  unfolding fresh fresh_header encode header_bytes path_bytes
  flag_written = refl

pub two_editions : TwoEditions
unfolding read_under read_of header_of shown_with wire_of last_or addresses_at in_path settings_of answer_number memory_after_answer
two_editions =
    record {
      two = (refl, refl);
      only_two = only_two;
      no_other = (refl, refl, refl, refl, refl, refl, refl);
      read_17 = unknown_refused;
      read_17_only = read_17_only;
      read_refused = read_refused;
      read_11 = read_11;
      read_12 = read_12;
      shown_as_11 = shown_as_11;
      shown_as_12 = shown_as_12;
      fields = λ bits header. (refl, refl, refl, refl, refl, refl, refl, refl, refl, refl, refl, refl, refl);
      all_eight = (refl, refl);
      neighbours_not_shown = (refl, refl);
      shows_the_wire = wire_read;
      same_bytes = same_bytes;
      not_read = not_read;
      no_room = no_room;
      hears_17 = λ node room received output e. hears_17 node e room received output;
      hears_17_only = hears_17_only;
      steps_17 = λ node room batch output cursor e. steps_17 node e room batch output cursor;
      steps_done = λ node room batch output cursor e. steps_done node e room batch output cursor;
      walks_17 = λ node room byte bytes e. walks_17 node e room byte bytes;
      walks_empty = empty_walk;
      same = λ node edition other named also room received batch output cursor. (
        edition_answer edition other node named also room received,
        edition_output edition other node named also received output,
        edition_step edition other node named also room batch cursor,
        edition_step_output edition other node named also batch cursor output,
        edition_walk edition other node named also room batch,
      );
      bits_kept = bits_kept;
      before_lists = fault_after;
      before_54 = limit_after;
      relay_edition = λ bytes job. refl;
      relays_same = λ node edition other batch named also. relays_same edition other node named also batch;
      originated_17 = originated_17;
      originated_17_only = originated_17_only;
      originated_16 = originated_16;
      originated_16_only = originated_16_only;
      order = in_order;
      originated_same = originated_same;
      flag_alone = flag_alone;
      fresh_12 = λ settings payload rest room. fresh_12 settings payload room rest;
      fresh_11 = λ settings payload rest room. fresh_11 settings payload room rest;
      fresh_set = flag_written;
      in_c_reserved = λ seen bytes number is. (refl, ap has_flag is, ap flag_of is, ap reserved_shown is);
      in_c_flagged = λ seen bytes encrypted number is. (refl, ap has_flag is, ap flag_of is, ap reserved_shown is);
      in_c_refused = λ number bytes. refl;
      in_c_whole = refl;
      numbers = λ seen number. (refl, refl);
      path_of = (refl, refl, refl, refl);
      view_invented = (_, refl, refl, refl, refl, refl, refl, refl);
      node_in_c = λ node. refl;
      fresh_in_c = λ settings. (refl, refl, refl, refl, refl, refl, refl, refl, refl, refl);
      in_c_11 = (refl, refl, refl);
      in_c_12 = (refl, refl, refl);
      counts_nothing = λ received memory. (refl, refl);
    }
