-- Document 02, W-212, as one record; `proofs/EncryptedPayloads.antt` gives it from its parts. "Any memory" is any words, put together by hand or not.
use Rattle.std.specs.Prelude.{ℕ, ◌+◌, ◌^◌, ◌≤◌, ◌<◌, true, false, List, [], ◌∷◌, ◌++◌, ◌≡◌, length, drop, replicate}
use Rattle.octets.specs.Octets.{at, AllBytes}
use Rattle.aes_field.specs.Field.{◌•◌, inverse, affine}
use Rattle.aes_field.proofs.all_substitutes.Reads as table-reads
use Rattle.aes.specs.Cipher.{key_expansion}
use Rattle.ctr.specs.Ctr.{counter_block, stream, added}
use Rattle.pdu.specs.declared.Header.{Header}
use Rattle.pdu.specs.Header.{header_of, source_of}
use Rattle.pdu.specs.Sizes.{pdu_length}
use Rattle.pdu.specs.Reading.{read_of, reading_number}
use Rattle.pdu.specs.Parts.{path_in, payload_in}
use Rattle.writing.specs.Writing.{only_if, header_bytes}
use Rattle.node.specs.Answers.{repeat_number}
use Rattle.sources.specs.Sources.{Accepted, memory_length, record_in, is_held, last_number, number_fault, source_fault, with_accepted}
use Rattle.sources.specs.Sources.{without_source, memory_without}
use Rattle.message.specs.Protection.{message_number_bytes, hashed_header, hash_bytes, nonce_of}
use Rattle.message.specs.Sealable.{seal_number}
use Rattle.sealing.specs.Sealing.{sealed_header, sealed_pdu, seal_written, seal_output}
use Rattle.verify.specs.Verify.{message_number, plain_length}
use Rattle.opening.specs.Opening.{sealed_fault, numbered_as, deciphered, plain_payload, genuine, keyless_fault}
use Rattle.opening.specs.Opening.{open_number, open_written, open_output, memory_after_opening}
use Rattle.protection.specs.Histories.{Repeat, heard_at_last, RepeatedBy, AllRepeat, Opening, memory_after_one, memory_after_all}

-- a header with its hop limit 0
abbrev pub hopless : Header → Header
hopless header =
    record {
      protocol = header.protocol;
      time_stamp_request = header.time_stamp_request;
      path_bit = header.path_bit;
      port = header.port;
      encrypted = header.encrypted;
      reserved = header.reserved;
      ack = header.ack;
      added_header = header.added_header;
      hop_limit = 0;
      payload_length = header.payload_length;
      source = header.source;
      destination = header.destination;
      pdu_id = header.pdu_id;
      path_count = header.path_count;
    }

-- a table that `aes_field::all_substitutes`, which has no argument, may return by its contract
abbrev pub IsTable : List ℕ → Type 0
IsTable table = table-reads.Post tt tt table tt

-- For the worked cases: document 002, "Examples", "Encryption": key, PDU given, PDU sealed, and that with its last byte changed
abbrev pub key002 : List ℕ
key002 = 0x6B ∷ 0x65 ∷ 0x65 ∷ 0x70 ∷ 0x20 ∷ 0x6D ∷ 0x65 ∷ 0x20 ∷ 0x73 ∷ 0x65 ∷ 0x63 ∷ 0x72 ∷ 0x65 ∷ 0x74 ∷ 0x21 ∷ 0x21 ∷ []

abbrev pub plain002 : List ℕ
plain002 =
    0x03 ∷ 0x00 ∷ 0x10 ∷ 0x0B ∷ 0x03 ∷ 0xE8 ∷ 0x06 ∷ 0x40 ∷ 0x00
    ∷ 0x70 ∷ 0x01 ∷ 0x08 ∷ 0x12 ∷ 0x12 ∷ 0x03 ∷ 0x24 ∷ 0x13 ∷ 0x22 ∷ 0x02 ∷ 0x76 ∷ []

abbrev pub ending_in : ℕ → List ℕ
ending_in last =
    0x03 ∷ 0x08 ∷ 0x10 ∷ 0x12 ∷ 0x03 ∷ 0xE8 ∷ 0x06 ∷ 0x40 ∷ 0x00 ∷ 0x00 ∷ 0x03 ∷ 0x52
    ∷ 0x11 ∷ 0x46 ∷ 0xDF ∷ 0x21 ∷ 0xA1 ∷ 0xE0 ∷ 0xFB ∷ 0x1E ∷ 0x42 ∷ 0x5C ∷ 0x93 ∷ 0x1A ∷ 0x7C ∷ 0x62 ∷ last ∷ []

-- RFC 3686, test vector 1: key, nonce, "Single block msg" and what it is enciphered to
abbrev pub key3686 : List ℕ
key3686 = 0xAE ∷ 0x68 ∷ 0x52 ∷ 0xF8 ∷ 0x12 ∷ 0x10 ∷ 0x67 ∷ 0xCC ∷ 0x4B ∷ 0xF7 ∷ 0xA5 ∷ 0x76 ∷ 0x55 ∷ 0x77 ∷ 0xF3 ∷ 0x9E ∷ []

abbrev pub nonce3686 : List ℕ
nonce3686 = 0x00 ∷ 0x00 ∷ 0x00 ∷ 0x30 ∷ 0x00 ∷ []

abbrev pub plain3686 : List ℕ
plain3686 = 0x53 ∷ 0x69 ∷ 0x6E ∷ 0x67 ∷ 0x6C ∷ 0x65 ∷ 0x20 ∷ 0x62 ∷ 0x6C ∷ 0x6F ∷ 0x63 ∷ 0x6B ∷ 0x20 ∷ 0x6D ∷ 0x73 ∷ 0x67 ∷ []

abbrev pub enciphered3686 : List ℕ
enciphered3686 = 0xE4 ∷ 0x09 ∷ 0x5D ∷ 0x4F ∷ 0xB7 ∷ 0xA7 ∷ 0xB3 ∷ 0x79 ∷ 0x2D ∷ 0x61 ∷ 0x75 ∷ 0xA3 ∷ 0x26 ∷ 0x13 ∷ 0x11 ∷ 0xB8 ∷ []

-- document 002's header as it is sent, with a path of two addresses besides; the bytes of it that enter the hash
abbrev pub header002 : List ℕ
header002 = 0x03 ∷ 0x08 ∷ 0x10 ∷ 0x12 ∷ 0x03 ∷ 0xE8 ∷ 0x06 ∷ 0x40 ∷ 0x02 ∷ 0x11 ∷ 0x12 ∷ 0x13 ∷ 0x14 ∷ []

abbrev pub hashed002 : List ℕ
hashed002 = 0x03 ∷ 0x08 ∷ 0x00 ∷ 0x12 ∷ 0x03 ∷ 0xE8 ∷ 0x06 ∷ 0x40 ∷ []

-- a reliable PDU with added header, ACK and hop limit 7: byte 2 keeps its bit 7, and the PDU ID enters the hash
abbrev pub reliable : List ℕ
reliable = 0x0B ∷ 0x09 ∷ 0xF0 ∷ 0x07 ∷ 0x03 ∷ 0xE8 ∷ 0x06 ∷ 0x40 ∷ 0x55 ∷ 0x00 ∷ []

-- PDUs with payloads of 4,088 and of 4,089 bytes
abbrev pub of4088 : List ℕ
of4088 = 0x00 ∷ 0x00 ∷ 0x0F ∷ 0xF8 ∷ 0x00 ∷ 0x05 ∷ replicate 4088 0

abbrev pub of4089 : List ℕ
of4089 = 0x00 ∷ 0x00 ∷ 0x0F ∷ 0xF9 ∷ 0x00 ∷ 0x05 ∷ replicate 4089 0

-- and the longer one with the encrypted bit set
abbrev pub encrypted4089 : List ℕ
encrypted4089 = 0x00 ∷ 0x08 ∷ 0x0F ∷ 0xF9 ∷ 0x00 ∷ 0x05 ∷ replicate 4089 0

-- a source and the number last accepted from it
abbrev pub last_from : ℕ → ℕ → Accepted
last_from source number = record { source = source; number = number }

-- a memory for 64 sources that says so many are held: source 5, with number 5, in each entry
abbrev pub fives : ℕ → List ℕ
fives count = count ∷ replicate 128 5

pub record EncryptedPayloads : Type 0 where
  -- I. WHAT 02 ASKS
  -- sealing then opening under one key gives the payload back, with room enough and a record that takes the number
  pub round_trip : (key bytes behind memory : List ℕ) (number room space : ℕ) → AllBytes bytes → seal_number number bytes room ≡ 0
      → number_fault (header_of bytes).source number (record_in memory) ≡ 0 → source_fault (header_of bytes).source memory ≡ 0
      → (header_of bytes).payload_length ≤ space
      → let sealed = sealed_pdu key number bytes ++ behind in
      (open_number key memory sealed space ≡ 0) × (plain_payload key sealed ≡ payload_in (header_of bytes) bytes)
  -- against the same record a PDU opens alike before repeats and after them: any number of repeats, by any nodes
  pub after_repeats : (key memory bytes : List ℕ) (room : ℕ) (repeats : List Repeat) → AllBytes bytes → AllRepeat repeats bytes
      → (open_number key memory (heard_at_last repeats bytes) room ≡ open_number key memory bytes room)
      × (plain_payload key (heard_at_last repeats bytes) ≡ plain_payload key bytes)
      × (memory_after_opening key memory (heard_at_last repeats bytes) room ≡ memory_after_opening key memory bytes room)
  -- nothing more than this is asked of a repeat
  pub repeat_asked : (repeat : Repeat) (received : List ℕ) → repeat_number repeat.node repeat.room received ≡ 0
      → repeat.node.settings.own < 65536 → AllBytes repeat.behind → RepeatedBy repeat received
  -- what is sealed are bytes, so the two make one: sealed, repeated by any nodes any number of times, and opened gives the payload back
  pub sealed_bytes : (key bytes : List ℕ) (number room : ℕ) → AllBytes key → AllBytes bytes → seal_number number bytes room ≡ 0
      → AllBytes (sealed_pdu key number bytes)
  pub sealed_repeated_opened : (key bytes behind memory : List ℕ) (number room space : ℕ) (repeats : List Repeat)
      → AllBytes key → AllBytes bytes → AllBytes behind → seal_number number bytes room ≡ 0
      → number_fault (header_of bytes).source number (record_in memory) ≡ 0 → source_fault (header_of bytes).source memory ≡ 0
      → (header_of bytes).payload_length ≤ space → AllRepeat repeats (sealed_pdu key number bytes ++ behind)
      → let heard = heard_at_last repeats (sealed_pdu key number bytes ++ behind) in
      (open_number key memory heard space ≡ 0) × (plain_payload key heard ≡ payload_in (header_of bytes) bytes)
  -- no replay: over any openings from any memory of that length, what is accepted from a source later has a greater number
  pub no_replay : (memory : List ℕ) → length memory ≡ memory_length → (first : Opening) (between : List Opening) (second : Opening)
      → open_number first.key memory first.bytes first.room ≡ 0 → source_of first.bytes ≡ source_of second.bytes
      → open_number second.key (memory_after_all (memory_after_one memory first) between) second.bytes second.room ≡ 0
      → message_number first.bytes < message_number second.bytes
  -- what enters the hash: of any PDU that reads, its header up to the path count, with the hop limit 0
  pub hashed_all : (bytes : List ℕ) → AllBytes bytes → reading_number (read_of bytes) ≡ 0
      → header_bytes (hopless (header_of bytes)) ≡ hashed_header bytes ++ only_if (header_of bytes).path_bit ((header_of bytes).path_count ∷ [])
  -- the substitution of a byte: the affine map of its inverse, {00} for {00} (FIPS 197, 5.1.1; computed in `crates/known_answers/proofs/Inverse.antt`)
  pub inverse_is : (b : ℕ) → 0 < b → b < 256 → b • inverse b ≡ 1
  pub inverse_of_0 : inverse 0 ≡ 0
  -- every entry of the table in the code, whatever `all_substitutes` may return by its contract, is the affine map of its place's inverse
  pub substituted : (table : List ℕ) → IsTable table → (b : ℕ) → b < 256 → at table b ≡ affine (inverse b)
  -- no key stream is used twice (000, 3.5.1): equal counter blocks are of one source, one message number and one block
  pub counted_once : (source other number later j k : ℕ) → number ≤ 16777215 → later ≤ 16777215 → j < 2 ^ 64 → k < 2 ^ 64
      → counter_block (nonce_of source number) j ≡ counter_block (nonce_of other later) k → (source ≡ other) × (number ≡ later) × (j ≡ k)
  -- II. CASE BY CASE, what the definitions of the record, of sealing and of opening say
  -- the record: its memory is 129 words; any memory holds at most 64 sources, and none where its first word is 0
  pub sized : memory_length ≡ 129
  pub at_most_64 : (memory : List ℕ) → length (record_in memory) ≤ 64
  pub empty : (memory : List ℕ) → at memory 0 ≡ 0 → record_in memory ≡ []
  -- 82 exactly where the source is held and the number is not greater than its last; of a new source any number is taken
  pub not_greater : (source number : ℕ) (held : List Accepted) → is_held source held ≡ true → number ≤ last_number source held
      → number_fault source number held ≡ 82
  pub greater : (source number : ℕ) (held : List Accepted) → is_held source held ≡ true → last_number source held < number
      → number_fault source number held ≡ 0
  pub first_number : (source number : ℕ) (held : List Accepted) → is_held source held ≡ false → number_fault source number held ≡ 0
  -- 84 where the source is new and 64 are held
  pub full : (source : ℕ) (memory : List ℕ) → is_held source (record_in memory) ≡ false → length (record_in memory) ≡ 64
      → source_fault source memory ≡ 84
  pub not_full : (source : ℕ) (memory : List ℕ) → length (record_in memory) < 64 → source_fault source memory ≡ 0
  pub held_already : (source : ℕ) (memory : List ℕ) → is_held source (record_in memory) ≡ true → source_fault source memory ≡ 0
  -- so in 02's words: 84 exactly if the source is new and 64 are held
  pub eighty_four_exactly : (source : ℕ) (memory : List ℕ)
      → let full = (is_held source (record_in memory) ≡ false) × (length (record_in memory) ≡ 64) in
      (source_fault source memory ≡ 84 → full) × (full → source_fault source memory ≡ 84)
  -- a source removed: the memory shows the others; it is new then, every other source is as before, and one that was not held changes no word
  pub removed : (source : ℕ) (memory : List ℕ) → record_in (memory_without source memory) ≡ without_source source (record_in memory)
  pub removed_new : (source : ℕ) (held : List Accepted) → is_held source (without_source source held) ≡ false
  pub others_left : (other source : ℕ) (held : List Accepted) → (source ≡ other → ⊥)
      → (is_held other (without_source source held) ≡ is_held other held)
      × (is_held other held ≡ true → last_number other (without_source source held) ≡ last_number other held)
  pub none_removed : (source : ℕ) (memory : List ℕ) → is_held source (record_in memory) ≡ false → memory_without source memory ≡ memory
  -- sealing: 1 to 6, 88, 85, 86, 87 in that order, and only there
  pub unread : (number room : ℕ) (bytes : List ℕ) → (reading_number (read_of bytes) ≡ 0 → ⊥) → seal_number number bytes room ≡ reading_number (read_of bytes)
  pub encrypted_already : (number room : ℕ) (bytes : List ℕ) → reading_number (read_of bytes) ≡ 0 → (header_of bytes).encrypted ≡ true
      → seal_number number bytes room ≡ 88
  pub no_room_for_hash : (number room : ℕ) (bytes : List ℕ) → reading_number (read_of bytes) ≡ 0 → (header_of bytes).encrypted ≡ false
      → 4095 < (header_of bytes).payload_length + 7 → seal_number number bytes room ≡ 85
  pub number_too_great : (number room : ℕ) (bytes : List ℕ) → reading_number (read_of bytes) ≡ 0 → (header_of bytes).encrypted ≡ false
      → (header_of bytes).payload_length + 7 ≤ 4095 → 16777215 < number → seal_number number bytes room ≡ 86
  pub sealed_too_long : (number room : ℕ) (bytes : List ℕ) → reading_number (read_of bytes) ≡ 0 → (header_of bytes).encrypted ≡ false
      → (header_of bytes).payload_length + 7 ≤ 4095 → number ≤ 16777215 → room < pdu_length (header_of bytes) + 7 → seal_number number bytes room ≡ 87
  pub seals : (number room : ℕ) (bytes : List ℕ) → reading_number (read_of bytes) ≡ 0 → (header_of bytes).encrypted ≡ false
      → (header_of bytes).payload_length + 7 ≤ 4095 → number ≤ 16777215 → pdu_length (header_of bytes) + 7 ≤ room → seal_number number bytes room ≡ 0
  -- with a refusal nothing is written
  pub seal_refused : (key : List ℕ) (number : ℕ) (bytes output : List ℕ) → (seal_number number bytes (length output) ≡ 0 → ⊥)
      → ((seal_written number bytes (length output)).length ≡ 0) × (seal_output key number bytes output ≡ output)
  -- with 0 the sealed PDU, 7 bytes longer than the one given, stands at the output's start, and the rest of the output stays
  pub seal_done : (key : List ℕ) (number : ℕ) (bytes output : List ℕ) → seal_number number bytes (length output) ≡ 0
      → ((seal_written number bytes (length output)).length ≡ pdu_length (header_of bytes) + 7)
      × (length (sealed_pdu key number bytes) ≡ pdu_length (header_of bytes) + 7)
      × (seal_output key number bytes output ≡ sealed_pdu key number bytes ++ drop (pdu_length (header_of bytes) + 7) output)
  pub seal_answer : (number room : ℕ) (bytes : List ℕ) → (seal_written number bytes room).number ≡ seal_number number bytes room
  -- the header as it is sent: encrypted, no time stamp request, the payload 7 bytes longer, and every other field as given
  pub header_sent : (header : Header)
      → let sealed = sealed_header header in
      (sealed.encrypted ≡ true) × (sealed.time_stamp_request ≡ false) × (sealed.payload_length ≡ header.payload_length + 7)
      × (sealed.protocol ≡ header.protocol) × (sealed.path_bit ≡ header.path_bit) × (sealed.port ≡ header.port)
      × (sealed.reserved ≡ header.reserved) × (sealed.ack ≡ header.ack) × (sealed.added_header ≡ header.added_header)
      × (sealed.hop_limit ≡ header.hop_limit) × (sealed.source ≡ header.source) × (sealed.destination ≡ header.destination)
      × (sealed.pdu_id ≡ header.pdu_id) × (sealed.path_count ≡ header.path_count)
  -- the sealed PDU reads back, whatever bytes follow it: the header as it is sent, the same path, the number
  pub sent : (key bytes behind : List ℕ) (number room : ℕ) → AllBytes bytes → seal_number number bytes room ≡ 0
      → let sealed = sealed_pdu key number bytes ++ behind in
      (header_of sealed ≡ sealed_header (header_of bytes)) × (path_in (header_of sealed) sealed ≡ path_in (header_of bytes) bytes)
      × (message_number sealed ≡ number)
  -- the message number by itself: what opening would note, with 0; with 1 to 6, 80 or 81, as opening refuses with them, 0
  pub numbered : (bytes : List ℕ) → sealed_fault bytes ≡ 0 → numbered_as bytes ≡ record { number = 0; message = message_number bytes }
  pub not_numbered : (bytes : List ℕ) → (sealed_fault bytes ≡ 0 → ⊥)
      → (numbered_as bytes ≡ record { number = sealed_fault bytes; message = 0 })
      × ((key memory : List ℕ) (room : ℕ) → open_number key memory bytes room ≡ sealed_fault bytes)
  -- opening: 1 to 6, 80, 81, 82 whatever the key, in that order
  pub unopened : (key memory bytes : List ℕ) (room : ℕ) → (reading_number (read_of bytes) ≡ 0 → ⊥)
      → open_number key memory bytes room ≡ reading_number (read_of bytes)
  pub not_encrypted : (key memory bytes : List ℕ) (room : ℕ) → reading_number (read_of bytes) ≡ 0 → (header_of bytes).encrypted ≡ false
      → open_number key memory bytes room ≡ 80
  pub too_short : (key memory bytes : List ℕ) (room : ℕ) → reading_number (read_of bytes) ≡ 0 → (header_of bytes).encrypted ≡ true
      → (header_of bytes).payload_length < 7 → open_number key memory bytes room ≡ 81
  pub replayed : (key memory bytes : List ℕ) (room : ℕ) → reading_number (read_of bytes) ≡ 0 → (header_of bytes).encrypted ≡ true
      → 7 ≤ (header_of bytes).payload_length → number_fault (source_of bytes) (message_number bytes) (record_in memory) ≡ 82
      → open_number key memory bytes room ≡ 82
  pub keyless : (memory bytes : List ℕ) → reading_number (read_of bytes) ≡ 0 → (header_of bytes).encrypted ≡ true → 7 ≤ (header_of bytes).payload_length
      → number_fault (source_of bytes) (message_number bytes) (record_in memory) ≡ 0 → keyless_fault memory bytes ≡ 0
  -- genuine exactly where the 4 bytes behind the plain payload are the hash of the header, the number and the plain payload
  pub genuine_only : (key bytes : List ℕ) → reading_number (read_of bytes) ≡ 0 → 7 ≤ (header_of bytes).payload_length → genuine key bytes ≡ true
      → drop (plain_length bytes) (deciphered key bytes) ≡ hash_bytes bytes (message_number bytes) (plain_payload key bytes)
  pub genuine_where : (key bytes : List ℕ)
      → drop (plain_length bytes) (deciphered key bytes) ≡ hash_bytes bytes (message_number bytes) (plain_payload key bytes) → genuine key bytes ≡ true
  -- then 83, 84, 87, and only there
  pub hash_differs : (key memory bytes : List ℕ) (room : ℕ) → keyless_fault memory bytes ≡ 0 → genuine key bytes ≡ false
      → open_number key memory bytes room ≡ 83
  pub no_room_for_source : (key memory bytes : List ℕ) (room : ℕ) → keyless_fault memory bytes ≡ 0 → genuine key bytes ≡ true
      → source_fault (source_of bytes) memory ≡ 84 → open_number key memory bytes room ≡ 84
  pub no_room_for_payload : (key memory bytes : List ℕ) (room : ℕ) → keyless_fault memory bytes ≡ 0 → genuine key bytes ≡ true
      → source_fault (source_of bytes) memory ≡ 0 → room < plain_length bytes → open_number key memory bytes room ≡ 87
  pub opens : (key memory bytes : List ℕ) (room : ℕ) → keyless_fault memory bytes ≡ 0 → genuine key bytes ≡ true
      → source_fault (source_of bytes) memory ≡ 0 → plain_length bytes ≤ room → open_number key memory bytes room ≡ 0
  -- with a refusal nothing is written, and the record stays
  pub open_refused : (key memory bytes output : List ℕ) → (open_number key memory bytes (length output) ≡ 0 → ⊥)
      → ((open_written key memory bytes (length output)).length ≡ 0) × (open_output key memory bytes output ≡ output)
      × (memory_after_opening key memory bytes (length output) ≡ memory)
  -- with 0 the plain payload, 7 bytes shorter than the one sent, stands at the output's start, and the rest of the output stays
  pub open_done : (key memory bytes output : List ℕ) → open_number key memory bytes (length output) ≡ 0
      → ((open_written key memory bytes (length output)).length ≡ plain_length bytes) × (length (plain_payload key bytes) ≡ plain_length bytes)
      × (open_output key memory bytes output ≡ plain_payload key bytes ++ drop (plain_length bytes) output)
  pub open_answer : (key memory bytes : List ℕ) (room : ℕ) → (open_written key memory bytes room).number ≡ open_number key memory bytes room
  -- with 0 the number is noted in the record
  pub noted : (key memory bytes : List ℕ) (room : ℕ) → open_number key memory bytes room ≡ 0 → length memory ≡ memory_length
      → record_in (memory_after_opening key memory bytes room) ≡ with_accepted (source_of bytes) (message_number bytes) (record_in memory)
  -- in a record so made the source is held with that number, and every other source as before
  pub last_noted : (source number : ℕ) (held : List Accepted)
      → (is_held source (with_accepted source number held) ≡ true) × (last_number source (with_accepted source number held) ≡ number)
  pub others_stay : (other source number : ℕ) (held : List Accepted) → (source ≡ other → ⊥)
      → (is_held other (with_accepted source number held) ≡ is_held other held)
      × (is_held other held ≡ true → last_number other (with_accepted source number held) ≡ last_number other held)
  -- IV. WORKED CASES
  -- of document 002's header, and of one with PDU ID, ACK and added header; the nonce and the number's bytes
  pub hashed : (hashed_header header002 ≡ hashed002)
      × (hashed_header reliable ≡ 0x0B ∷ 0x09 ∷ 0x80 ∷ 0x07 ∷ 0x03 ∷ 0xE8 ∷ 0x06 ∷ 0x40 ∷ 0x55 ∷ [])
  pub nonce : nonce_of 1000 850 ≡ 0x03 ∷ 0xE8 ∷ 0x00 ∷ 0x03 ∷ 0x52 ∷ []
  -- counter block 0 is document 002's initialization vector, the last byte counts up first
  pub counter_blocks : (counter_block (nonce_of 1000 850) 0 ≡ 0x03 ∷ 0xE8 ∷ 0x00 ∷ 0x03 ∷ 0x52 ∷ replicate 11 0)
      × (counter_block (nonce_of 1000 850) 255 ≡ 0x03 ∷ 0xE8 ∷ 0x00 ∷ 0x03 ∷ 0x52 ∷ replicate 10 0 ++ (0xFF ∷ []))
      × (counter_block (nonce_of 1000 850) 256 ≡ 0x03 ∷ 0xE8 ∷ 0x00 ∷ 0x03 ∷ 0x52 ∷ replicate 9 0 ++ (0x01 ∷ 0x00 ∷ []))
  -- RFC 3686's vector is of block 1, from place 16 of the stream on (computed in `crates/known_answers/proofs/Counter.antt`)
  pub counted : added (stream (key_expansion key3686) nonce3686) 16 plain3686 ≡ enciphered3686
  pub number_bytes_lem : (message_number_bytes 850 ≡ 0x00 ∷ 0x03 ∷ 0x52 ∷ []) × (message_number_bytes 16777215 ≡ 0xFF ∷ 0xFF ∷ 0xFF ∷ [])
  -- document 002's example, whole: sealed, and 83 for its last byte changed (computed in `crates/known_answers/proofs/Sealed.antt`)
  pub example : sealed_pdu key002 850 plain002 ≡ ending_in 0x50
  pub example_changed : open_number key002 (0 ∷ 0 ∷ 0 ∷ []) (ending_in 0x51) 11 ≡ 83
  -- 85 at a payload of 4,089 bytes and not at 4,088; 86 at 16,777,216 and not at 16,777,215; 87 with one byte too few; 85 before 86, 86 before 87, and
  -- 88 before them all
  pub at_4088 : (seal_number 16777215 of4088 4101 ≡ 0) × (seal_number 16777215 of4088 4100 ≡ 87)
  pub at_4089 : seal_number 16777216 of4089 0 ≡ 85
  pub at_16777216 : seal_number 16777216 of4088 0 ≡ 86
  pub at_encrypted : seal_number 16777216 encrypted4089 0 ≡ 88
  -- the words of a memory: how many sources, then each with its number
  pub two_held : record_in (2 ∷ 1000 ∷ 850 ∷ 1600 ∷ 3 ∷ []) ≡ last_from 1000 850 ∷ last_from 1600 3 ∷ []
  -- 84 for a new source with 64 held, not with 63 held, and not for a source that is held
  pub at_64 : (source_fault 7 (fives 64) ≡ 84) × (source_fault 7 (fives 63) ≡ 0) × (source_fault 5 (fives 64) ≡ 0)
  -- 82 at the same number and not at the next; a first number may be 0
  pub at_same : (number_fault 5 5 (record_in (fives 64)) ≡ 82) × (number_fault 5 6 (record_in (fives 64)) ≡ 0) × (number_fault 7 0 (record_in (fives 64)) ≡ 0)
