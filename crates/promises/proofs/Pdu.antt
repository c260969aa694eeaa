-- Every public function of `pdu`: its promise asks nothing of the caller and determines what the caller sees.
use mathlib.Core.Path.{sym, ◌∙◌}
use Rattle.octets.proofs.Parting.{one_part}
use Rattle.promises.specs.Promise.{slice, Promised}
use Rattle.pdu.proofs.Header.limits.Reads as header-limits-reads
use Rattle.pdu.proofs.Header.limits.Kinds as header-limits-kinds
use Rattle.pdu.proofs.Header.path_entries.Reads as header-path-entries-reads
use Rattle.pdu.proofs.Header.path_entries.Kinds as header-path-entries-kinds
use Rattle.pdu.proofs.Header.path_start.Reads as header-path-start-reads
use Rattle.pdu.proofs.Header.path_start.Kinds as header-path-start-kinds
use Rattle.pdu.proofs.Header.header_length.Reads as header-header-length-reads
use Rattle.pdu.proofs.Header.header_length.Kinds as header-header-length-kinds
use Rattle.pdu.proofs.Header.pdu_length.Reads as header-pdu-length-reads
use Rattle.pdu.proofs.Header.pdu_length.Kinds as header-pdu-length-kinds
use Rattle.pdu.proofs.read.Reads as read-reads
use Rattle.pdu.proofs.read.Kinds as read-kinds
use Rattle.pdu.proofs.fault.Reads as fault-reads
use Rattle.pdu.proofs.fault.Kinds as fault-kinds
use Rattle.pdu.proofs.extent_of.Reads as extent-of-reads
use Rattle.pdu.proofs.extent_of.Kinds as extent-of-kinds
use Rattle.pdu.proofs.Refusal.number.Reads as refusal-number-reads
use Rattle.pdu.proofs.Refusal.number.Kinds as refusal-number-kinds
use Rattle.pdu.proofs.reading_number.Reads as reading-number-reads
use Rattle.pdu.proofs.reading_number.Kinds as reading-number-kinds
use Rattle.pdu.proofs.header_of.Reads as header-of-reads
use Rattle.pdu.proofs.header_of.Kinds as header-of-kinds
use Rattle.pdu.proofs.pdu_length_in.Reads as pdu-length-in-reads
use Rattle.pdu.proofs.pdu_length_in.Kinds as pdu-length-in-kinds
use Rattle.pdu.proofs.fields.start_fault.Reads as fields-start-fault-reads
use Rattle.pdu.proofs.fields.start_fault.Kinds as fields-start-fault-kinds
use Rattle.pdu.proofs.fields.end_fault.Reads as fields-end-fault-reads
use Rattle.pdu.proofs.fields.end_fault.Kinds as fields-end-fault-kinds
use Rattle.pdu.proofs.fields.payload_length.Reads as fields-payload-length-reads
use Rattle.pdu.proofs.fields.payload_length.Kinds as fields-payload-length-kinds
use Rattle.pdu.proofs.fields.header_length_in.Reads as fields-header-length-in-reads
use Rattle.pdu.proofs.fields.header_length_in.Kinds as fields-header-length-in-kinds
use Rattle.pdu.proofs.fields.destination_in.Reads as fields-destination-in-reads
use Rattle.pdu.proofs.fields.destination_in.Kinds as fields-destination-in-kinds
use Rattle.pdu.proofs.fields.pdu_id_in.Reads as fields-pdu-id-in-reads
use Rattle.pdu.proofs.fields.pdu_id_in.Kinds as fields-pdu-id-in-kinds
use Rattle.pdu.proofs.fields.path_count_in.Reads as fields-path-count-in-reads
use Rattle.pdu.proofs.fields.path_count_in.Kinds as fields-path-count-in-kinds
use Rattle.pdu.proofs.fields.pdu_id_place.Reads as fields-pdu-id-place-reads
use Rattle.pdu.proofs.fields.pdu_id_place.Kinds as fields-pdu-id-place-kinds
use Rattle.pdu.proofs.fields.path_count_place.Reads as fields-path-count-place-reads
use Rattle.pdu.proofs.fields.path_count_place.Kinds as fields-path-count-place-kinds
use Rattle.pdu.proofs.fields.header_from.Reads as fields-header-from-reads
use Rattle.pdu.proofs.fields.header_from.Kinds as fields-header-from-kinds
use Rattle.pdu.proofs.parts.path_address.Reads as parts-path-address-reads
use Rattle.pdu.proofs.parts.path_address.Kinds as parts-path-address-kinds
use Rattle.pdu.proofs.parts.has_address.Reads as parts-has-address-reads
use Rattle.pdu.proofs.parts.has_address.Kinds as parts-has-address-kinds
use Rattle.pdu.proofs.parts.path_has.Reads as parts-path-has-reads
use Rattle.pdu.proofs.parts.path_has.Kinds as parts-path-has-kinds
use Rattle.pdu.proofs.parts.last_sender.Reads as parts-last-sender-reads
use Rattle.pdu.proofs.parts.last_sender.Kinds as parts-last-sender-kinds
use Rattle.pdu.proofs.parts.payload.Reads as parts-payload-reads
use Rattle.pdu.proofs.parts.payload.Kinds as parts-payload-kinds
use Rattle.pdu.proofs.destination_flag.Reads as destination-flag-reads
use Rattle.pdu.proofs.destination_flag.Kinds as destination-flag-kinds

pub header_limits : Promised 0 header-limits-kinds.ps header-limits-kinds.r header-limits-reads.Asked header-limits-reads.Post (λ κs x. x)
header_limits = (λ κs a. tt, λ κs a x y s t p q. p ∙ sym q)

pub header_path_entries : Promised 0 header-path-entries-kinds.ps header-path-entries-kinds.r header-path-entries-reads.Asked
    header-path-entries-reads.Post (λ κs x. x)
header_path_entries = (λ κs a. tt, λ κs a x y s t p q. p.0 ∙ sym q.0)

pub header_path_start : Promised 0 header-path-start-kinds.ps header-path-start-kinds.r header-path-start-reads.Asked
    header-path-start-reads.Post (λ κs x. x)
header_path_start = (λ κs a. tt, λ κs a x y s t p q. p.0 ∙ sym q.0)

pub header_header_length : Promised 0 header-header-length-kinds.ps header-header-length-kinds.r header-header-length-reads.Asked
    header-header-length-reads.Post (λ κs x. x)
header_header_length = (λ κs a. tt, λ κs a x y s t p q. p.0 ∙ sym q.0)

pub header_pdu_length : Promised 0 header-pdu-length-kinds.ps header-pdu-length-kinds.r header-pdu-length-reads.Asked
    header-pdu-length-reads.Post (λ κs x. x)
header_pdu_length = (λ κs a. tt, λ κs a x y s t p q. p.0 ∙ sym q.0)

pub read : Promised 1 read-kinds.ps read-kinds.r read-reads.Asked read-reads.Post (λ κs x. x)
read = (λ κs a. tt, λ κs a x y s t p q. p ∙ sym q)

pub fault : Promised 1 fault-kinds.ps fault-kinds.r fault-reads.Asked fault-reads.Post (λ κs x. x)
fault = (λ κs a. tt, λ κs a x y s t p q. p ∙ sym q)

pub extent_of_lem : Promised 1 extent-of-kinds.ps extent-of-kinds.r extent-of-reads.Asked extent-of-reads.Post (λ κs x. x)
extent_of_lem = (λ κs a. tt, λ κs a x y s t p q. p ∙ sym q)

pub refusal_number_lem : Promised 0 refusal-number-kinds.ps refusal-number-kinds.r refusal-number-reads.Asked refusal-number-reads.Post (λ κs x. x)
refusal_number_lem = (λ κs a. tt, λ κs a x y s t p q. p ∙ sym q)

pub reading_number_lem : Promised 0 reading-number-kinds.ps reading-number-kinds.r reading-number-reads.Asked reading-number-reads.Post (λ κs x. x)
reading_number_lem = (λ κs a. tt, λ κs a x y s t p q. p ∙ sym q)

pub header_of : Promised 1 header-of-kinds.ps header-of-kinds.r header-of-reads.Asked header-of-reads.Post (λ κs x. x)
header_of = (λ κs a. tt, λ κs a x y s t p q. p ∙ sym q)

pub pdu_length_in_lem : Promised 1 pdu-length-in-kinds.ps pdu-length-in-kinds.r pdu-length-in-reads.Asked pdu-length-in-reads.Post (λ κs x. x)
pdu_length_in_lem = (λ κs a. tt, λ κs a x y s t p q. p.0 ∙ sym q.0)

pub parts_path_address : Promised 1 parts-path-address-kinds.ps parts-path-address-kinds.r parts-path-address-reads.Asked
    parts-path-address-reads.Post (λ κs x. x)
parts_path_address = (λ κs a. tt, λ κs a x y s t p q. p ∙ sym q)

pub parts_has_address : Promised 1 parts-has-address-kinds.ps parts-has-address-kinds.r parts-has-address-reads.Asked parts-has-address-reads.Post (λ κs x. x)
parts_has_address = (λ κs a. tt, λ κs a x y s t p q. p ∙ sym q)

pub parts_path_has : Promised 1 parts-path-has-kinds.ps parts-path-has-kinds.r parts-path-has-reads.Asked parts-path-has-reads.Post (λ κs x. x)
parts_path_has = (λ κs a. tt, λ κs a x y s t p q. p ∙ sym q)

pub parts_last_sender : Promised 1 parts-last-sender-kinds.ps parts-last-sender-kinds.r parts-last-sender-reads.Asked
    parts-last-sender-reads.Post (λ κs x. x)
parts_last_sender = (λ κs a. tt, λ κs a x y s t p q. p ∙ sym q)

pub parts_payload : Promised 1 parts-payload-kinds.ps parts-payload-kinds.r parts-payload-reads.Asked parts-payload-reads.Post (λ κs x. slice x)
parts_payload = (λ κs a. tt, λ κs a x y s t p q. one_part _ _ _ x y p q)

pub destination_flag_lem : Promised 0 destination-flag-kinds.ps destination-flag-kinds.r destination-flag-reads.Asked
    destination-flag-reads.Post (λ κs x. x)
destination_flag_lem = (λ κs a. tt, λ κs a x y s t p q. p.0 ∙ sym q.0)

pub fields_start_fault : Promised 0 fields-start-fault-kinds.ps fields-start-fault-kinds.r fields-start-fault-reads.Asked
    fields-start-fault-reads.Post (λ κs x. x)
fields_start_fault = (λ κs a. tt, λ κs a x y s t p q. p ∙ sym q)

pub fields_end_fault : Promised 0 fields-end-fault-kinds.ps fields-end-fault-kinds.r fields-end-fault-reads.Asked
    fields-end-fault-reads.Post (λ κs x. x)
fields_end_fault = (λ κs a. tt, λ κs a x y s t p q. p ∙ sym q)

pub fields_payload_length : Promised 0 fields-payload-length-kinds.ps fields-payload-length-kinds.r fields-payload-length-reads.Asked
    fields-payload-length-reads.Post (λ κs x. x)
fields_payload_length = (λ κs a. tt, λ κs a x y s t p q. p ∙ sym q)

pub fields_header_length_in : Promised 0 fields-header-length-in-kinds.ps fields-header-length-in-kinds.r fields-header-length-in-reads.Asked
    fields-header-length-in-reads.Post (λ κs x. x)
fields_header_length_in = (λ κs a. tt, λ κs a x y s t p q. p.0 ∙ sym q.0)

pub fields_destination_in : Promised 1 fields-destination-in-kinds.ps fields-destination-in-kinds.r fields-destination-in-reads.Asked
    fields-destination-in-reads.Post (λ κs x. x)
fields_destination_in = (λ κs a. tt, λ κs a x y s t p q. p ∙ sym q)

pub fields_pdu_id_in : Promised 1 fields-pdu-id-in-kinds.ps fields-pdu-id-in-kinds.r fields-pdu-id-in-reads.Asked
    fields-pdu-id-in-reads.Post (λ κs x. x)
fields_pdu_id_in = (λ κs a. tt, λ κs a x y s t p q. p ∙ sym q)

pub fields_path_count_in : Promised 1 fields-path-count-in-kinds.ps fields-path-count-in-kinds.r fields-path-count-in-reads.Asked
    fields-path-count-in-reads.Post (λ κs x. x)
fields_path_count_in = (λ κs a. tt, λ κs a x y s t p q. p ∙ sym q)

pub fields_pdu_id_place : Promised 0 fields-pdu-id-place-kinds.ps fields-pdu-id-place-kinds.r fields-pdu-id-place-reads.Asked
    fields-pdu-id-place-reads.Post (λ κs x. x)
fields_pdu_id_place = (λ κs a. tt, λ κs a x y s t p q. p ∙ sym q)

pub fields_path_count_place : Promised 0 fields-path-count-place-kinds.ps fields-path-count-place-kinds.r fields-path-count-place-reads.Asked
    fields-path-count-place-reads.Post (λ κs x. x)
fields_path_count_place = (λ κs a. tt, λ κs a x y s t p q. p.0 ∙ sym q.0)

pub fields_header_from : Promised 1 fields-header-from-kinds.ps fields-header-from-kinds.r fields-header-from-reads.Asked
    fields-header-from-reads.Post (λ κs x. x)
fields_header_from = (λ κs a. tt, λ κs a x y s t p q. p ∙ sym q)
