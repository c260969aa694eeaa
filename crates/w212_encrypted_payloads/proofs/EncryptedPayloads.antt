-- W-212 from its parts.
use Prim.Native.Nat.{ℕ, ◌+◌, ◌*◌, ◌/◌, ◌<◌, min}
use native.Mathlib.Omega.{arith}
use mathlib.Core.Bool.{Bool, true, false, not, cond, ◌&&◌}
use mathlib.Core.List.{List, [], ◌∷◌, ◌++◌}
use mathlib.Core.Path.{◌≡◌, refl, ap, sym, ◌∙◌}
use lib.Dec.{leb}
use lib.ListN.{length}
use borrow.Author.Tests.{ne_eqb, le-leb, lt-leb, leb-true}
use Rattle.octets.specs.Numbers.{flag, ◌gives◌, ◌or_else◌}
use Rattle.octets.specs.Octets.{at, AllBytes}
use Rattle.octets.proofs.Words.{bytes_joined}
use Rattle.aes_field.specs.Field.{inverse, affine, sub_byte}
use Rattle.aes_field.proofs.Substitutes.{substituted}
use Rattle.pdu.specs.declared.Header.{Header}
use Rattle.pdu.specs.Header.{header_of}
use Rattle.pdu.specs.Reading.{read_of, reading_number}
use Rattle.pdu.proofs.Number.{read_0}
use Rattle.writing.specs.Writing.{only_if, header_bytes}
use Rattle.sources.specs.Sources.{Accepted, entries_from, record_in, place_of, is_held, last_number, number_fault, source_fault, memory_without}
use Rattle.sources.proofs.Laws.{length_record}
use Rattle.sources.proofs.Noting.{last_accepted, last_other}
use Rattle.sources.proofs.Forgotten.{record_without, removed_new, others_left}
use Rattle.message.specs.Protection.{hashed_header}
use Rattle.message.specs.Sealable.{seal_number}
use Rattle.message.proofs.Sealable as sealing
use Rattle.sealing.specs.Sealing.{sealed_header, sealed_pdu, seal_written, seal_output}
use Rattle.verify.specs.Verify.{message_number, plain_length}
use Rattle.opening.specs.Opening.{sealed_fault, numbered_as, genuine, open_number, open_written, open_output, memory_after_opening}
use Rattle.opening.proofs.Sealed as keyless
use Rattle.opening.proofs.Deciding as opening
use Rattle.protection.proofs.Bytes.{sealed_small}
use Rattle.protection.proofs.Hashed.{hashed_fields, hashed_shown}
use Rattle.protection.proofs.Repeats.{heard_alike, open_alike, plain_alike, memory_alike}
use Rattle.protection.proofs.RoundTrip.{header_sent, path_sent, number_sent, plain_back, opens}
use Rattle.protection.proofs.Replay.{record_after, no_replay}
use Rattle.protection.proofs.Answers.{genuine_only, genuine_where, seal_done, open_done, seal_answer, open_answer}
use Rattle.known_answers.proofs.Inverse.{inverse_is, inverse_zero}
use Rattle.known_answers.proofs.Counter as vector
use Rattle.known_answers.proofs.Sealed as worked
use Rattle.w212_encrypted_payloads.specs.EncryptedPayloads.{header002, hashed002, reliable, of4088, of4089, encrypted4089, hopless, fives}
use Rattle.w212_encrypted_payloads.specs.EncryptedPayloads.{IsTable, EncryptedPayloads}
use Rattle.w212_encrypted_payloads.proofs.Once.{blocks_once}

-- the record's answers
module _ (source number : ℕ) (held : List Accepted) where
  is_82 : is_held source held ≡ true → leb number (last_number source held) ≡ true → number_fault source number held ≡ 82
  unfolding number_fault ◌gives◌
  is_82 h l = rw (h, l)

  is_greater : is_held source held ≡ true → leb number (last_number source held) ≡ false → number_fault source number held ≡ 0
  unfolding number_fault ◌gives◌
  is_greater h l = rw (h, l)

  is_first : is_held source held ≡ false → number_fault source number held ≡ 0
  unfolding number_fault ◌gives◌
  is_first h = rw h

module _ (source : ℕ) (memory : List ℕ) where
  is_84 : is_held source (record_in memory) ≡ false → leb 64 (length (record_in memory)) ≡ true → source_fault source memory ≡ 84
  unfolding source_fault ◌gives◌
  is_84 h l = rw (h, l)

  has_room : leb 64 (length (record_in memory)) ≡ false → source_fault source memory ≡ 0
  unfolding source_fault ◌gives◌
  has_room l = rw l (go (is_held source (record_in memory)))
    where
      go : (held : Bool) → ◌≡◌ {A = ℕ} (cond (not held && false) 84 0) 0
      go true = refl
      go false = refl

  is_held_lem : is_held source (record_in memory) ≡ true → source_fault source memory ≡ 0
  unfolding source_fault ◌gives◌
  is_held_lem h = rw h

exactly_84 : (source : ℕ) (memory : List ℕ)
    → let full = (is_held source (record_in memory) ≡ false) × (length (record_in memory) ≡ 64) in
    (source_fault source memory ≡ 84 → full) × (full → source_fault source memory ≡ 84)
exactly_84 source memory =
    (λ e. go e (is_held source (record_in memory)) refl, λ f. is_84 source memory f.0 (le-leb 64 (length (record_in memory)) (omega (arith, f.1))))
  where
    filled : source_fault source memory ≡ 84 → (none_left : Bool) → leb 64 (length (record_in memory)) ≡ none_left → length (record_in memory) ≡ 64
    filled e true l = omega (arith, leb-true 64 (length (record_in memory)) l, length_record memory)
    filled e false l = absurd (omega (arith, e, has_room source memory l))

    go : source_fault source memory ≡ 84 → (held : Bool) → is_held source (record_in memory) ≡ held
        → (is_held source (record_in memory) ≡ false) × (length (record_in memory) ≡ 64)
    go e true h = absurd (omega (arith, e, is_held_lem source memory h))
    go e false h = (h, filled e (leb 64 (length (record_in memory))) refl)

none_held : (memory : List ℕ) → at memory 0 ≡ 0 → record_in memory ≡ []
unfolding record_in entries_from
none_held memory e = let z : min (at memory 0) 64 ≡ 0 = omega arith in rw z

seal_nothing : (key : List ℕ) (number : ℕ) (bytes output : List ℕ) → (seal_number number bytes (length output) ≡ 0 → ⊥)
    → ((seal_written number bytes (length output)).length ≡ 0) × (seal_output key number bytes output ≡ output)
unfolding seal_written seal_output
seal_nothing key number bytes output some = rw (ne_eqb (seal_number number bytes (length output)) 0 some) (refl, refl)

open_nothing : (key memory bytes output : List ℕ) → (open_number key memory bytes (length output) ≡ 0 → ⊥)
    → ((open_written key memory bytes (length output)).length ≡ 0) × (open_output key memory bytes output ≡ output)
    × (memory_after_opening key memory bytes (length output) ≡ memory)
unfolding open_written open_output memory_after_opening
open_nothing key memory bytes output some = rw (ne_eqb (open_number key memory bytes (length output)) 0 some) (refl, refl, refl)

fields_sent : (header : Header)
    → let sealed = sealed_header header in
    (sealed.encrypted ≡ true) × (sealed.time_stamp_request ≡ false) × (sealed.payload_length ≡ header.payload_length + 7)
    × (sealed.protocol ≡ header.protocol) × (sealed.path_bit ≡ header.path_bit) × (sealed.port ≡ header.port)
    × (sealed.reserved ≡ header.reserved) × (sealed.ack ≡ header.ack) × (sealed.added_header ≡ header.added_header)
    × (sealed.hop_limit ≡ header.hop_limit) × (sealed.source ≡ header.source) × (sealed.destination ≡ header.destination)
    × (sealed.pdu_id ≡ header.pdu_id) × (sealed.path_count ≡ header.path_count)
unfolding sealed_header
fields_sent header = (refl, refl, refl, refl, refl, refl, refl, refl, refl, refl, refl, refl, refl, refl)

hopless_hashed : (header : Header) → header_bytes (hopless header) ≡ hashed_fields header ++ only_if header.path_bit (header.path_count ∷ [])
unfolding header_bytes hashed_fields
hopless_hashed header =
    let high = flag header.added_header * 128 in
    let byte2 : high + 0 * 16 + header.payload_length / 256 ≡ high + header.payload_length / 256 = omega arith in
    rw byte2

hashed_header_is : (bytes : List ℕ) → AllBytes bytes → reading_number (read_of bytes) ≡ 0
    → header_bytes (hopless (header_of bytes)) ≡ hashed_header bytes ++ only_if (header_of bytes).path_bit ((header_of bytes).path_count ∷ [])
hashed_header_is bytes small read =
    let header = header_of bytes in
    let count = only_if header.path_bit (header.path_count ∷ []) in
    hopless_hashed header ∙ sym (ap (λ (l : List ℕ). l ++ count) (hashed_shown bytes header small (read_0 bytes read)))

is_substituted : (table : List ℕ) → IsTable table → (b : ℕ) → b < 256 → at table b ≡ affine (inverse b)
unfolding sub_byte
is_substituted table is b h = substituted b is h

early : (key memory bytes : List ℕ) (room fault : ℕ) → fault ≡ sealed_fault bytes → (fault ≡ 0 → ⊥) → open_number key memory bytes room ≡ fault
early key memory bytes room fault is some = opening.early_open key memory bytes room fault (keyless.early_refused memory bytes fault is some) some

not_there : (source : ℕ) (memory : List ℕ) → is_held source (record_in memory) ≡ false → memory_without source memory ≡ memory
unfolding memory_without
not_there source memory h = rw h

is_numbered : (bytes : List ℕ) → sealed_fault bytes ≡ 0 → numbered_as bytes ≡ record { number = 0; message = message_number bytes }
unfolding numbered_as
is_numbered bytes none = rw none

is_refused : (bytes : List ℕ) → (sealed_fault bytes ≡ 0 → ⊥) → numbered_as bytes ≡ record { number = sealed_fault bytes; message = 0 }
unfolding numbered_as
is_refused bytes some = rw (ne_eqb (sealed_fault bytes) 0 some)

-- the cases that compute, each by itself
module _ where
  hashed_there : (hashed_header header002 ≡ hashed002)
      × (hashed_header reliable ≡ 0x0B ∷ 0x09 ∷ 0x80 ∷ 0x07 ∷ 0x03 ∷ 0xE8 ∷ 0x06 ∷ 0x40 ∷ 0x55 ∷ [])
  unfolding hashed_header
  hashed_there = (refl, refl)

  seal_4088 : (seal_number 16777215 of4088 4101 ≡ 0) × (seal_number 16777215 of4088 4100 ≡ 87)
  unfolding seal_number read_of header_of ◌gives◌ ◌or_else◌
  seal_4088 = (refl, refl)

  seal_4089 : seal_number 16777216 of4089 0 ≡ 85
  unfolding seal_number read_of header_of ◌gives◌ ◌or_else◌
  seal_4089 = refl

  seal_16777216 : seal_number 16777216 of4088 0 ≡ 86
  unfolding seal_number read_of header_of ◌gives◌ ◌or_else◌
  seal_16777216 = refl

  seal_encrypted : seal_number 16777216 encrypted4089 0 ≡ 88
  unfolding seal_number read_of header_of ◌gives◌ ◌or_else◌
  seal_encrypted = refl

  entries : record_in (2 ∷ 1000 ∷ 850 ∷ 1600 ∷ 3 ∷ []) ≡ record { source = 1000; number = 850 } ∷ record { source = 1600; number = 3 } ∷ []
  unfolding record_in entries_from
  entries = refl

  held_64 : (source_fault 7 (fives 64) ≡ 84) × (source_fault 7 (fives 63) ≡ 0) × (source_fault 5 (fives 64) ≡ 0)
  unfolding source_fault record_in entries_from place_of ◌gives◌
  held_64 = (refl, refl, refl)

  same_number : (number_fault 5 5 (record_in (fives 64)) ≡ 82) × (number_fault 5 6 (record_in (fives 64)) ≡ 0) × (number_fault 7 0 (record_in (fives 64)) ≡ 0)
  unfolding number_fault record_in entries_from place_of ◌gives◌
  same_number = (refl, refl, refl)

pub encrypted_payloads : EncryptedPayloads
encrypted_payloads =
    record {
      sized = refl;
      at_most_64 = λ memory. omega (arith, length_record memory);
      empty = none_held;
      not_greater = λ source number held h l. is_82 source number held h (le-leb number (last_number source held) l);
      greater = λ source number held h l. is_greater source number held h (lt-leb number (last_number source held) l);
      first_number = is_first;
      full = λ source memory h l. is_84 source memory h (le-leb 64 (length (record_in memory)) (omega (arith, l)));
      not_full = λ source memory l. has_room source memory (lt-leb 64 (length (record_in memory)) l);
      held_already = is_held_lem;
      eighty_four_exactly = exactly_84;
      unread = λ number room bytes some. sym (sealing.reading_refused number room bytes _ refl some);
      encrypted_already = λ number room bytes read e. sym (sealing.encrypted_refused number room bytes (header_of bytes) refl read e);
      no_room_for_hash = λ number room bytes read e h. sym (sealing.long_refused number room bytes (header_of bytes) refl read e h);
      number_too_great = λ number room bytes read e s h. sym (sealing.number_refused number room bytes (header_of bytes) refl read e s h);
      sealed_too_long = λ number room bytes read e s n h. sym (sealing.room_refused number room bytes (header_of bytes) refl read e s n h);
      seals = λ number room bytes read e s n h. sym (sealing.none_refused number room bytes (header_of bytes) refl read e s n h);
      seal_refused = seal_nothing;
      seal_done = seal_done;
      seal_answer = seal_answer;
      header_sent = fields_sent;
      sent = λ key bytes behind number room small zero. (
        header_sent key bytes behind number room small zero,
        path_sent key bytes behind number room small zero,
        number_sent key bytes behind number room small zero,
      );
      unopened = λ key memory bytes room some. early key memory bytes room _ (keyless.reading_refused bytes _ refl some) some;
      not_encrypted = λ key memory bytes room read e.
          early key memory bytes room 80 (keyless.plain_refused bytes (header_of bytes) refl read e) (λ z. omega arith);
      too_short = λ key memory bytes room read e h.
          early key memory bytes room 81 (keyless.short_refused bytes (header_of bytes) refl read e h) (λ z. omega arith);
      replayed = λ key memory bytes room read e h f.
          opening.early_open key memory bytes room 82 (keyless.keyless_number memory bytes read e h 82 f) (λ z. omega arith);
      keyless = keyless.keyless_none;
      genuine_only = λ key bytes read long g. genuine_only bytes (read_0 bytes read) key long g;
      genuine_where = genuine_where;
      hash_differs = λ key memory bytes room none g.
          opening.open_late key memory bytes room none ∙ sym (opening.not_genuine memory bytes room _ (genuine key bytes) refl g);
      no_room_for_source = λ key memory bytes room none g f.
          opening.open_late key memory bytes room none
          ∙ sym (opening.source_refused memory bytes room _ (genuine key bytes) refl g (header_of bytes) 84 refl (sym f) (λ z. omega arith));
      no_room_for_payload = λ key memory bytes room none g f h.
          opening.open_late key memory bytes room none
          ∙ sym (opening.room_refused memory bytes room _ (genuine key bytes) refl g (header_of bytes) 0 refl (sym f) refl (plain_length bytes) refl h);
      opens = λ key memory bytes room none g f h.
          opening.open_late key memory bytes room none
          ∙ sym (opening.none_refused memory bytes room _ (genuine key bytes) refl g (header_of bytes) 0 refl (sym f) refl (plain_length bytes) refl h);
      open_refused = open_nothing;
      open_done = open_done;
      open_answer = open_answer;
      noted = record_after;
      last_noted = last_accepted;
      others_stay = last_other;
      round_trip = λ key bytes behind memory number room space small zero greater held wide.
          (opens key bytes behind number room small zero memory space greater held wide, plain_back key bytes behind number room small zero);
      after_repeats = λ key memory bytes room repeats small all.
          let same = heard_alike repeats bytes small all in
          (open_alike same key memory room, plain_alike same key, memory_alike same key memory room);
      repeat_asked = λ repeat received does narrow small. record { does = does; narrow = narrow; small = small };
      sealed_bytes = λ key bytes number room hk small zero. sealed_small key bytes number room hk small zero;
      sealed_repeated_opened = λ key bytes behind memory number room space repeats hk small hb zero greater held wide all.
          let sealed = sealed_pdu key number bytes ++ behind in
          let all_bytes = bytes_joined (sealed_pdu key number bytes) behind (sealed_small key bytes number room hk small zero) hb in
          let same = heard_alike repeats sealed all_bytes all in (
            open_alike same key memory space ∙ opens key bytes behind number room small zero memory space greater held wide,
            plain_alike same key ∙ plain_back key bytes behind number room small zero,
          );
      no_replay = no_replay;
      removed = record_without;
      removed_new = removed_new;
      others_left = others_left;
      none_removed = not_there;
      numbered = is_numbered;
      not_numbered = λ bytes some. (is_refused bytes some, λ key memory room. early key memory bytes room _ refl some);
      hashed_all = hashed_header_is;
      hashed = hashed_there;
      nonce = refl;
      counter_blocks = (refl, refl, refl);
      counted = vector.single;
      number_bytes_lem = (refl, refl);
      example = worked.seals;
      example_changed = worked.refused;
      inverse_is = inverse_is;
      inverse_of_0 = inverse_zero;
      substituted = is_substituted;
      counted_once = blocks_once;
      at_4088 = seal_4088;
      at_4089 = seal_4089;
      at_16777216 = seal_16777216;
      at_encrypted = seal_encrypted;
      two_held = entries;
      at_64 = held_64;
      at_same = same_number;
    }
