-- Document 002, "Examples", "Encryption": the PDU sealed, whole and by the definition; and opening it with its last byte changed.
-- Assumes nothing.
use mathlib.Core.Path.{◌≡◌, refl, ap, sym, ◌∙◌}
use mathlib.Core.Bool.{false}
use mathlib.Core.List.{List, [], ◌∷◌, ◌++◌}
use Prim.Native.Nat.{ℕ, ◌%◌}
use lib.ListN.{take, drop}
use Rattle.octets.specs.Numbers.{◌gives◌, ◌or_else◌}
use Rattle.octets.specs.Octets.{at}
use Rattle.aes_field.specs.Field.{xtime, field_product, ◌•◌, raised, inverse, affine_bit, gathered, affine, sub_byte}
use Rattle.aes_rounds.specs.Rounds.{mix_column, round, last_round}
use Rattle.aes.specs.Cipher.{round_key, rounds, cipher, power, temp, next_key_word, expansion, key_expansion}
use Rattle.sha1_block.specs.Sha1Block.{mixing, constant, block_word, words, schedule, hash_step, hash_steps, compressed}
use Rattle.sha1_digest.specs.Sha1.{padding, padded, hashed, sha1}
use Rattle.ctr.specs.Ctr.{counter_block, stream, added, counter_mode}
use Rattle.pdu.specs.Header.{header_of}
use Rattle.pdu.specs.Parts.{addresses_at}
use Rattle.pdu.specs.Reading.{read_of}
use Rattle.writing.specs.Writing.{header_bytes, path_bytes, encode}
use Rattle.sources.specs.Sources.{entries_from, record_in, place_of, number_fault}
use Rattle.message.specs.Protection.{hashed_header, hash_bytes}
use Rattle.sealing.specs.Sealing.{sealed_header, sealed_payload, sealed_pdu}
use Rattle.verify.specs.Verify.{message_number, deciphered_under, plain_under, same_four, genuine_under}
use Rattle.opening.specs.Opening.{deciphered, genuine, sealed_fault, keyless_fault, open_number}
use Rattle.opening.proofs.Deciding.{open_late, wrong_refused}

-- "keep me secret!!"
abbrev pub key : List ℕ
key = 0x6b ∷ 0x65 ∷ 0x65 ∷ 0x70 ∷ 0x20 ∷ 0x6d ∷ 0x65 ∷ 0x20 ∷ 0x73 ∷ 0x65 ∷ 0x63 ∷ 0x72 ∷ 0x65 ∷ 0x74 ∷ 0x21 ∷ 0x21 ∷ []

abbrev pub payload : List ℕ
payload = 0x70 ∷ 0x01 ∷ 0x08 ∷ 0x12 ∷ 0x12 ∷ 0x03 ∷ 0x24 ∷ 0x13 ∷ 0x22 ∷ 0x02 ∷ 0x76 ∷ []

-- the PDU given, the header as it is sent with the number behind it, and what follows that, enciphered
abbrev pub plain : List ℕ
plain = 0x03 ∷ 0x00 ∷ 0x10 ∷ 0x0b ∷ 0x03 ∷ 0xe8 ∷ 0x06 ∷ 0x40 ∷ 0x00 ∷ payload

abbrev pub front : List ℕ
front = 0x03 ∷ 0x08 ∷ 0x10 ∷ 0x12 ∷ 0x03 ∷ 0xe8 ∷ 0x06 ∷ 0x40 ∷ 0x00 ∷ 0x00 ∷ 0x03 ∷ 0x52 ∷ []

abbrev pub sealed : List ℕ
sealed = front ++ (0x11 ∷ 0x46 ∷ 0xdf ∷ 0x21 ∷ 0xa1 ∷ 0xe0 ∷ 0xfb ∷ 0x1e ∷ 0x42 ∷ 0x5c ∷ 0x93 ∷ 0x1a ∷ 0x7c ∷ 0x62 ∷ 0x50 ∷ [])

abbrev pub changed : List ℕ
changed = front ++ (0x11 ∷ 0x46 ∷ 0xdf ∷ 0x21 ∷ 0xa1 ∷ 0xe0 ∷ 0xfb ∷ 0x1e ∷ 0x42 ∷ 0x5c ∷ 0x93 ∷ 0x1a ∷ 0x7c ∷ 0x62 ∷ 0x51 ∷ [])

abbrev nonce : List ℕ
nonce = 0x03 ∷ 0xe8 ∷ 0x00 ∷ 0x03 ∷ 0x52 ∷ []

abbrev hash : List ℕ
hash = 0x72 ∷ 0x5d ∷ 0xb2 ∷ 0xb2 ∷ []

digest : take 4 (sha1 ((0x03 ∷ 0x08 ∷ 0x00 ∷ 0x12 ∷ 0x03 ∷ 0xe8 ∷ 0x06 ∷ 0x40 ∷ 0x00 ∷ 0x03 ∷ 0x52 ∷ []) ++ payload)) ≡ hash
unfolding mixing constant padding padded block_word words schedule hash_step hash_steps compressed hashed sha1
digest = refl

-- the first output block, and bytes with its own added
abbrev pad : List ℕ
pad = 0x61 ∷ 0x47 ∷ 0xd7 ∷ 0x33 ∷ 0xb3 ∷ 0xe3 ∷ 0xdf ∷ 0x0d ∷ 0x60 ∷ 0x5e ∷ 0xe5 ∷ 0x68 ∷ 0x21 ∷ 0xd0 ∷ 0xe2 ∷ 0x70 ∷ []

block : cipher (key_expansion key) (counter_block nonce 0) ≡ pad
unfolding xtime field_product ◌•◌ raised inverse affine_bit gathered affine sub_byte mix_column round_key round rounds last_round cipher
    power temp next_key_word expansion key_expansion
block = refl

enciphered : counter_mode key nonce (payload ++ hash) ≡ drop 12 sealed
unfolding stream added counter_mode
enciphered = ap (λ (b : List ℕ). added (λ i. at b (i % 16)) 0 (payload ++ hash)) block

pub seals : sealed_pdu key 850 plain ≡ sealed
unfolding header_of addresses_at header_bytes path_bytes encode hashed_header hash_bytes sealed_header sealed_payload sealed_pdu
seals = ap (λ (h : List ℕ). front ++ counter_mode key nonce (payload ++ h)) digest ∙ ap (λ (l : List ℕ). front ++ l) enciphered

-- an empty memory with room for one source
abbrev pub memory : List ℕ
memory = 0 ∷ 0 ∷ 0 ∷ []

taken : keyless_fault memory changed ≡ 0
unfolding header_of read_of ◌gives◌ ◌or_else◌ entries_from record_in place_of number_fault message_number sealed_fault keyless_fault
taken = refl

opened : deciphered key changed ≡ payload ++ (0x72 ∷ 0x5d ∷ 0xb2 ∷ 0xb3 ∷ [])
unfolding header_of message_number deciphered deciphered_under stream added counter_mode
opened = ap (λ (b : List ℕ). added (λ i. at b (i % 16)) 0 (drop 12 changed)) block

differs : genuine key changed ≡ false
unfolding header_of message_number hashed_header hash_bytes deciphered plain_under genuine_under genuine
differs =
    ap (λ (d : List ℕ). same_four (hash_bytes changed 850 (take 11 d)) (drop 11 d)) opened
    ∙ ap (λ (h : List ℕ). same_four h (0x72 ∷ 0x5d ∷ 0xb2 ∷ 0xb3 ∷ [])) digest

pub refused : open_number key memory changed 11 ≡ 83
refused = open_late key memory changed 11 taken ∙ sym (wrong_refused memory changed 11 (genuine key changed) differs)
