-- Only for the functions that a PDU heard goes through: what it asks of the table.
use Rattle.std.specs.Prelude.{ℕ, Bool, cond, ◌&&◌, List, eqb, ltb}
use Rattle.octets.specs.Numbers.{◌gives◌, ◌or_else◌}
use Rattle.pdu.specs.Sizes.{pdu_length}
use Rattle.acknowledgements.specs.declared.Sending.{Sending}
use Rattle.retained_operations.specs.declared.Ask.{Ask}
use Rattle.retained_operations.specs.declared.Kind.TheVariants.{Search, Answer, Nothing}
use Rattle.retained.specs.declared.Names.{Names}
use Rattle.retained.specs.Records.{names_of, exchanged}
use Rattle.retained.specs.Table.{table_size}
use Rattle.acknowledgements.specs.Delivered.{is_answered, is_acknowledgement, ack_header}

abbrev pub early_number : Bool → Sending → ℕ
early_number due sending = (due && ltb 7 sending.hop_limit) gives 10 or_else (due && ltb 15 sending.port) gives 11

abbrev pub late_number : Bool → ℕ → ℕ → ℕ
late_number due room length = (due && ltb room length) gives 77

-- of a PDU with these names that is answered, or not, and frees a record, or not
abbrev pub ask_for : Bool → Bool → ℕ → Sending → ℕ → Names → Ask
ask_for due frees last sending room names =
    record {
      kind = cond due Answer (cond frees Search Nothing);
      early = early_number due sending;
      late = late_number due room (pdu_length (ack_header sending names));
      last = last;
      time = last;
      delay = 0;
      tries = 0;
      room = 0;
      names = cond due names (exchanged names);
      length = pdu_length (ack_header sending names);
    }

unfoldable pub ask_acknowledge : ℕ → ℕ → ℕ → Sending → ℕ → List ℕ → Ask
ask_acknowledge last own delivery sending room received =
    ask_for (is_answered own delivery received) (is_acknowledgement own delivery received) last sending room (names_of received)

-- the acknowledgement is written
abbrev pub is_written : ℕ → Bool → ℕ → ℕ → Bool
is_written records due early late = due && (eqb early 0 && (eqb records table_size && eqb late 0))
