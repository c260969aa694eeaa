-- A retained PDU and its acknowledgement: what goes back, that a repeat of either is the same PDU, the record freed by it, and the floods they begin.
use native.Mathlib.Omega.{arith}
use Prim.Native.Nat.{ℕ, ◌+◌, ◌*◌, ◌<◌, ◌≤◌}
use mathlib.Core.Bool.{true, false}
use mathlib.Core.List.{List, [], ◌++◌}
use mathlib.Core.Path.{◌≡◌, refl, sym, ◌∙◌, ap, subst}
use lib.ListN.{length, set, drop, replicate, length-set}
use Rattle.octets.specs.Octets.{AllBytes, over}
use Rattle.pdu.specs.declared.Destination.TheVariants.{Address}
use Rattle.pdu.specs.declared.Header.{Header}
use Rattle.pdu.specs.Header.{header_of, source_of}
use Rattle.pdu.specs.Sizes.{pdu_length}
use Rattle.pdu.proofs.Inversion.{shown}
use Rattle.writing.specs.Writing.{header_bytes, encode}
use Rattle.origin.specs.declared.FreshSettings.{FreshSettings}
use Rattle.origin.specs.Origination.{fresh_header, fresh}
use Rattle.decision.specs.Decision.{Node}
use Rattle.node.specs.Repeat.{repeated, repeated_header}
use Rattle.node.specs.Answers.{delivery_number, repeat_number}
use Rattle.node.proofs.Heard.{repeats}
use Rattle.node.proofs.Encoded.{repeat_reads}
use Rattle.retained.specs.declared.Names.{Names}
use Rattle.retained.specs.declared.Retained.{Retained}
use Rattle.retained.specs.Records.{retain_fault, is_free, address_of, names_of, exchanged, is_named, retained_record, freed_record}
use Rattle.retained.specs.Table.{did, freed, table_retained}
use Rattle.acknowledgements.specs.declared.Sending.{Sending}
use Rattle.acknowledgements.specs.Delivered.{is_answered, is_acknowledgement, ack_header, acknowledgement, output_acknowledged}
use Rattle.retry_termination.specs.First.{FirstAt, Nowhere}
use Rattle.retry_termination.proofs.Retaining.{retain_kept}
use Rattle.retry_termination.proofs.Hearing.{answer_sent, acknowledged}
use Rattle.retry_termination.proofs.Exchanged.{ack_shows, ack_names, retained_waits}
use Rattle.retry_termination.proofs.Sendings.{fit_is, no_entries, ack_alone_shows, ack_one, ack_path, ack_small}
use Rattle.flood.specs.Air.{Begins, hop_of}
use Rattle.w210_reliable_messages.specs.ReliableMessages.{Handles, SamePdu, sending_of}
use Rattle.w210_reliable_messages.proofs.Delivering.{node_answered, node_freed}

-- an acknowledgement beside a fresh PDU with the same settings
module _ (s : FreshSettings) (names : Names) where
  back : FreshSettings
  back =
      record {
        edition = s.edition;
        source = names.destination;
        destination = Address names.source;
        hop_limit = s.hop_limit;
        port = s.port;
        time_stamp_request = s.time_stamp_request;
        with_path = s.with_path;
        reliable = true;
        pdu_id = names.pdu_id;
        encrypted = false;
      }

  goes_back : s.reliable ≡ true → s.encrypted ≡ false → s.source ≡ names.destination → s.destination ≡ Address names.source
      → s.pdu_id ≡ names.pdu_id → s ≡ back
  unfolding back
  goes_back r e f t d = λ i.
      record {
        edition = s.edition;
        source = f i;
        destination = t i;
        hop_limit = s.hop_limit;
        port = s.port;
        time_stamp_request = s.time_stamp_request;
        with_path = s.with_path;
        reliable = r i;
        pdu_id = d i;
        encrypted = e i;
      }

  ack_set : acknowledgement (sending_of s) names ≡ set (fresh back []) 1 (s.port * 16 + 1)
  unfolding back acknowledgement fresh fresh_header encode header_bytes
  ack_set = let sum : s.port * 16 + 0 * 8 + 0 * 2 + 1 ≡ s.port * 16 + 1 = omega arith in ap (λ (x : ℕ). set (fresh back []) 1 x) sum

  pub reply_same : s.reliable ≡ true → s.encrypted ≡ false → s.source ≡ names.destination → s.destination ≡ Address names.source
      → s.pdu_id ≡ names.pdu_id → acknowledgement (sending_of s) names ≡ set (fresh s []) 1 (s.port * 16 + 1)
  reply_same r e f t d = ack_set ∙ ap (λ (x : FreshSettings). set (fresh x []) 1 (s.port * 16 + 1)) (sym (goes_back r e f t d))

pub repeated_same : (node : Node) (room : ℕ) (received rest : List ℕ) → AllBytes received → repeat_number node room received ≡ 0
    → SamePdu (repeated node.settings.own received ++ rest) received
unfolding names_of repeated_header
repeated_same node room received rest small again =
    let r = repeats node room received again in
    let copy = repeated node.settings.own received ++ rest in
    let reads = repeat_reads received r.header small r.read r.ready node.settings.own rest in
    let shows : header_of copy ≡ repeated_header r.header = sym (shown copy (repeated_header r.header) reads).is in
    let is : r.header ≡ header_of received = (shown received r.header r.read).is in
    let names : (h : Header) → Names = λ (h : Header). record { source = h.source; destination = address_of h.destination; pdu_id = h.pdu_id } in (
      ap names shows ∙ ap names is,
      ap (λ (h : Header). h.protocol) shows ∙ ap (λ (h : Header). h.protocol) is,
      ap (λ (h : Header). h.ack) shows ∙ ap (λ (h : Header). h.ack) is,
    )

module _ (near far : Node) (table : List Retained) (last now : ℕ) (bytes : List ℕ) (place : ℕ) (sixteen : length table ≡ 16) (later : last ≤ now)
    (fit : retain_fault bytes ≡ 0) (unnamed : Nowhere (is_named (names_of bytes)) table) (free : FirstAt is_free table place)
    (copy : List ℕ) (farRoom : ℕ) (same : SamePdu copy bytes) (delivered : delivery_number far farRoom copy ≡ 0)
    (sending : Sending) (output : List ℕ) (hop : sending.hop_limit ≤ 7)
    (port : sending.port ≤ 15) (roomy : pdu_length (ack_header sending (names_of copy)) ≤ length output) where
  abbrev heard : List ℕ
  heard = output_acknowledged 16 far.settings.own (delivery_number far farRoom copy) sending copy output

  abbrev waiting : List Retained
  waiting = table_retained table last now bytes

  abbrev rest : List ℕ
  rest = drop (length (acknowledgement sending (names_of copy))) output

  asked : is_answered far.settings.own (delivery_number far farRoom copy) copy ≡ true
  asked = let f = fit_is bytes fit in node_answered far farRoom copy (delivered, same.1 ∙ f.reliable, same.2 ∙ f.no_ack)

  heard_is : heard ≡ acknowledgement sending (names_of copy) ++ rest
  unfolding over
  heard_is = (answer_sent (replicate 16 freed_record) 0 far.settings.own (delivery_number far farRoom copy) sending copy output asked hop port refl roomy).2

  heard_shows : header_of heard ≡ ack_header sending (names_of copy)
  heard_shows = ap header_of heard_is ∙ ack_shows sending (names_of copy) hop port rest

  heard_names : names_of heard ≡ exchanged (names_of bytes)
  heard_names = ap names_of heard_is ∙ ack_names sending (names_of copy) hop port rest ∙ ap exchanged same.0

  waiting_is : waiting ≡ set table place (retained_record now bytes)
  waiting_is = (retain_kept table last now bytes sixteen later fit place unnamed free).1

  waits : FirstAt (is_named (names_of bytes)) waiting place
  waits = subst (λ (w : List Retained). FirstAt (is_named (names_of bytes)) w place) (sym waiting_is)
      (retained_waits table now bytes fit place free.within unnamed)

  module _ (back : List ℕ) (nearRoom : ℕ) (kept : SamePdu back heard) (arrived : delivery_number near nearRoom back ≡ 0)
      (nearSending : Sending) (second : List ℕ) where
    names_back : exchanged (names_of back) ≡ names_of bytes
    names_back = ap exchanged (kept.0 ∙ heard_names)

    is_ack : is_acknowledgement near.settings.own (delivery_number near nearRoom back) back ≡ true
    is_ack = node_freed near nearRoom back
        (arrived, kept.1 ∙ ap (λ (h : Header). h.protocol) heard_shows, kept.2 ∙ ap (λ (h : Header). h.ack) heard_shows)

    pub exchanged_there : Handles waiting now near.settings.own (delivery_number near nearRoom back) nearSending back second
        (did freed now place (names_of bytes) 0) (set waiting place freed_record) second
    exchanged_there =
        let a = acknowledged waiting now near.settings.own (delivery_number near nearRoom back) nearSending back second
        (ap length waiting_is ∙ length-set table place (retained_record now bytes) ∙ sixteen) is_ack place
        (subst (λ (n : Names). FirstAt (is_named n) waiting place) (sym names_back) waits) in
        (a.0 ∙ ap (λ (n : Names). did freed now place n 0) names_back, a.1, a.2)

pub held_begins : (bytes : List ℕ) → AllBytes bytes → retain_fault bytes ≡ 0 → (header_of bytes).path_bit ≡ true → Begins bytes
held_begins bytes small fit bit =
    let f = fit_is bytes fit in
    record { all_bytes = small; one_pdu = f.one; path_bit_lem = bit; path_empty = no_entries (header_of bytes) bytes f.no_path }

pub reply_starts : (sending : Sending) (names : Names) → sending.hop_limit ≤ 7 → sending.port ≤ 15 → sending.with_path ≡ true
    → names.source < 65536 → names.destination < 65536 → names.pdu_id < 256
    → Begins (acknowledgement sending names) × (hop_of (acknowledgement sending names) ≡ sending.hop_limit)
    × (source_of (acknowledgement sending names) ≡ names.destination)
reply_starts sending names hop port path s d i =
    let shows = ack_alone_shows sending names hop port in (
      record {
        all_bytes = ack_small sending names hop port s d i;
        one_pdu = ack_one sending names hop port;
        path_bit_lem = ap (λ (h : Header). h.path_bit) shows ∙ path;
        path_empty = ack_path sending names hop port;
      },
      ap (λ (h : Header). h.hop_limit) shows,
      ap (λ (h : Header). h.source) shows,
    )
