-- What sealing writes are bytes: so what holds of a PDU after repeats holds of a sealed one.
use Prim.Native.Nat.{ℕ, zero, suc, ◌+◌, ◌-◌, ◌*◌, ◌/◌, ◌%◌, ◌<◌}
use native.Mathlib.Nat.{mod-lt, zero-lt-suc}
use native.Mathlib.Omega.{arith}
use mathlib.Core.Bool.{Bool, true, false, cond}
use mathlib.Core.List.{List, [], ◌∷◌, ◌++◌}
use mathlib.Core.Path.{◌≡◌, subst, sym}
use lib.Bits.{xor_lt}
use lib.Dec.{eqb}
use lib.ListN.{length, drop}
use lib.Seq.{take-append_seam}
use Rattle.octets.specs.Octets.{at, AllBytes}
use Rattle.octets.proofs.Words.{bytes_none, bytes_more, bytes_four, bytes_joined, bytes_take, bytes_drop}
use Rattle.octets.proofs.Tests.{flag_small}
use Rattle.aes_field.specs.Field.{◌⊕◌, bit, xtime, inverse, affine_bit, gathered, affine, sub_byte}
use Rattle.aes_rounds.specs.Rounds.{listed, cell, word, sub_bytes, shift_rows, add_round_key, last_round}
use Rattle.aes.specs.Cipher.{round_key, rounds, cipher, plus, rot_word, sub_word, power, rcon, temp, next_key_word, expansion, key_expansion}
use Rattle.ctr.specs.Ctr.{counter_block, stream, added, counter_mode}
use Rattle.sha1_block.specs.declared.Five.{Five}
use Rattle.sha1_digest.specs.Sha1.{four_bytes, padded, hashed, digest, sha1}
use Rattle.pdu.specs.declared.Header.{Header}
use Rattle.pdu.specs.Header.{header_of}
use Rattle.pdu.specs.Sizes.{header_length, pdu_length}
use Rattle.pdu.specs.Parts.{path_in, payload_in}
use Rattle.pdu.proofs.Showing.{destination_small}
use Rattle.writing.specs.Writing.{header_bytes, path_bytes, encode, WellFormed}
use Rattle.writing.proofs.Same.{shown_well_formed, written_same}
use Rattle.message.specs.Protection.{message_number_bytes, hashed_header, hash_bytes, nonce_of}
use Rattle.message.specs.Sealable.{seal_number}
use Rattle.message.proofs.Sealable.{Sealable, sealable}
use Rattle.sealing.specs.Sealing.{sealed_header, sealed_payload, sealed_pdu}

-- elements of the field
eight : (f : ℕ → ℕ) → ((i : ℕ) → f i < 2) → gathered 8 f < 256
unfolding gathered
eight f h = omega (arith, h 0, h 1, h 2, h 3, h 4, h 5, h 6, h 7)

bit_small : (b i : ℕ) → affine_bit b i < 2
unfolding affine_bit
bit_small b i = mod-lt _ (zero-lt-suc 1)

sub_small : (b : ℕ) → sub_byte b < 256
unfolding sub_byte affine
sub_small b = eight (affine_bit (inverse b)) (bit_small (inverse b))

sum_small : (a b : ℕ) → a < 256 → b < 256 → a ⊕ b < 256
sum_small = xor_lt 8

xtime_small : (b : ℕ) → xtime b < 256
unfolding xtime
xtime_small b = sum_small (b * 2 % 256) (bit b 7 * 0x1b) (omega arith) (omega arith)

power_small : (n : ℕ) → power n < 256
unfolding power
power_small zero = omega arith
power_small (suc n) = xtime_small (power n)

listed_small : (count i : ℕ) (f : ℕ → ℕ) → ((k : ℕ) → f k < 256) → AllBytes (listed count i f)
listed_small zero i f h = bytes_none
listed_small (suc count) i f h = bytes_more (f i) (listed count (suc i) f) (h i) (listed_small count (suc i) f h)

-- the expanded key
plus_small : (v w : List ℕ) → AllBytes v → AllBytes w → AllBytes (plus v w)
plus_small v w hv hw = listed_small 4 0 (λ i. at v i ⊕ at w i) (λ k. sum_small (at v k) (at w k) (hv k) (hw k))

word_small : (w : List ℕ) (i : ℕ) → AllBytes w → AllBytes (word w i)
word_small w i h = listed_small 4 (4 * i) (at w) h

constant_small : (n : ℕ) → AllBytes (rcon n)
constant_small n = bytes_four (power (n - 1)) 0 0 0 [] (power_small (n - 1)) (omega arith) (omega arith) (omega arith) bytes_none

temp_small : (i : ℕ) (v : List ℕ) → AllBytes v → AllBytes (temp i v)
unfolding temp
temp_small i v h = go (eqb (i % 4) 0)
  where
    go : (test : Bool) → AllBytes (cond test (plus (sub_word (rot_word v)) (rcon (i / 4))) v)
    go true =
        plus_small (sub_word (rot_word v)) (rcon (i / 4)) (listed_small 4 0 (λ k. sub_byte (at (rot_word v) k)) (λ k. sub_small (at (rot_word v) k)))
        (constant_small (i / 4))
    go false = h

next_small : (w : List ℕ) (i : ℕ) → AllBytes w → AllBytes (next_key_word w i)
unfolding next_key_word
next_small w i h =
    plus_small (word w (i - 4)) (temp i (word w (i - 1))) (word_small w (i - 4) h) (temp_small i (word w (i - 1)) (word_small w (i - 1) h))

expansion_small : (key : List ℕ) (n : ℕ) → AllBytes key → AllBytes (expansion key n)
unfolding expansion
expansion_small key zero h = h
expansion_small key (suc n) h =
    let before = expansion_small key n h in
    bytes_joined (expansion key n) (next_key_word (expansion key n) (4 + n)) before (next_small (expansion key n) (4 + n) before)

-- a block, the stream, and what is put through it
shifted_small : (s : List ℕ) → AllBytes (shift_rows (sub_bytes s))
shifted_small s =
    listed_small 16 0 (λ i. cell (sub_bytes s) (i % 4) (i / 4 + i % 4))
    (λ i. listed_small 16 0 (λ k. sub_byte (cell s (k % 4) (k / 4))) (λ k. sub_small (cell s (k % 4) (k / 4))) (i % 4 % 4 + 4 * ((i / 4 + i % 4) % 4)))

round_key_small : (w : List ℕ) (n : ℕ) → AllBytes w → AllBytes (round_key w n)
unfolding round_key
round_key_small w n h = bytes_take 16 (drop (16 * n) w) (bytes_drop (16 * n) w h)

cipher_small : (w block : List ℕ) → AllBytes w → AllBytes (cipher w block)
unfolding cipher last_round
cipher_small w block h =
    let s = rounds w 9 (add_round_key block (round_key w 0)) in
    let k = round_key w 10 in
    listed_small 16 0 (λ i. cell (shift_rows (sub_bytes s)) (i % 4) (i / 4) ⊕ cell k (i % 4) (i / 4))
    (λ i.
    sum_small (cell (shift_rows (sub_bytes s)) (i % 4) (i / 4)) (cell k (i % 4) (i / 4)) (shifted_small s (i % 4 % 4 + 4 * (i / 4 % 4)))
    (round_key_small w 10 h (i % 4 % 4 + 4 * (i / 4 % 4))))

added_small : (s : ℕ → ℕ) → ((i : ℕ) → s i < 256) → (i : ℕ) (l : List ℕ) → AllBytes l → AllBytes (added s i l)
unfolding added
added_small s hs i [] h = bytes_none
added_small s hs i (b ∷ bs) h =
    bytes_more (b ⊕ s i) (added s (suc i) bs) (sum_small b (s i) (h 0) (hs i)) (added_small s hs (suc i) bs (λ k. h (suc k)))

mode_small : (key nonce bytes : List ℕ) → AllBytes key → AllBytes bytes → AllBytes (counter_mode key nonce bytes)
unfolding counter_mode key_expansion stream
mode_small key nonce bytes hk hb =
    added_small (stream (key_expansion key) nonce)
    (λ i. cipher_small (key_expansion key) (counter_block nonce (i / 16)) (expansion_small key 40 hk) (i % 16)) 0 bytes hb

-- the hash and the number
four_small : (x : ℕ) → AllBytes (four_bytes x)
four_small x = bytes_four _ _ _ _ [] (omega arith) (omega arith) (omega arith) (omega arith) bytes_none

digest_small : (h : Five) → AllBytes (digest h)
digest_small h =
    let a = four_bytes h.a in
    let b = four_bytes h.b in
    let c = four_bytes h.c in
    let d = four_bytes h.d in
    bytes_joined (a ++ b ++ c ++ d) (four_bytes h.e)
    (bytes_joined (a ++ b ++ c) d
    (bytes_joined (a ++ b) c (bytes_joined a b (four_small h.a) (four_small h.b)) (four_small h.c)) (four_small h.d))
    (four_small h.e)

sha1_small : (message : List ℕ) → AllBytes (sha1 message)
unfolding sha1
sha1_small message = digest_small (hashed (padded message) (length (padded message) / 64))

hash_small : (header : List ℕ) (number : ℕ) (plain : List ℕ) → AllBytes (hash_bytes header number plain)
unfolding hash_bytes
hash_small header number plain =
    let message = hashed_header header ++ message_number_bytes number ++ plain in
    bytes_take 4 (sha1 message) (sha1_small message)

number_small : (number : ℕ) → AllBytes (message_number_bytes number)
number_small number =
    let last = bytes_more (number % 256) [] (omega arith) bytes_none in
    bytes_more (number / 65536 % 256) (number / 256 % 256 ∷ number % 256 ∷ []) (omega arith)
    (bytes_more (number / 256 % 256) (number % 256 ∷ []) (omega arith) last)

payload_small : (key : List ℕ) (header : Header) (number : ℕ) (plain : List ℕ) → AllBytes key → AllBytes plain
    → AllBytes (sealed_payload key header number plain)
unfolding sealed_payload
payload_small key header number plain hk hp =
    let hash = hash_bytes (header_bytes header) number plain in
    bytes_joined (message_number_bytes number) (counter_mode key (nonce_of header.source number) (plain ++ hash)) (number_small number)
    (mode_small key (nonce_of header.source number) (plain ++ hash) hk
    (bytes_joined plain hash hp (hash_small (header_bytes header) number plain)))

module _ (key bytes : List ℕ) (number room : ℕ) (hk : AllBytes key) (small : AllBytes bytes) (zero : seal_number number bytes room ≡ 0) where
  abbrev header : Header
  header = header_of bytes

  abbrev plain : List ℕ
  plain = payload_in header bytes

  can : Sealable number room bytes
  can = sealable number room bytes zero

  formed : WellFormed header (path_in header bytes) plain
  formed = shown_well_formed bytes header small can.read

  abbrev front : Header → List ℕ
  front h = header_bytes h ++ path_bytes (path_in header bytes)

  front_small : AllBytes (front header)
  unfolding encode
  front_small =
      let same = written_same bytes header small can.read in
      subst AllBytes (take-append_seam (front header) plain)
      (bytes_take (length (front header)) (front header ++ plain) (subst AllBytes (sym same) (bytes_take (pdu_length header) bytes small)))

  -- the header as it is sent: four bytes of its own, the others as in the header given
  sent_small : AllBytes (front (sealed_header header))
  unfolding sealed_header header_bytes
  sent_small =
      bytes_four _ _ _ _ (drop 4 (front header))
      (omega (arith, formed.known, flag_small header.path_bit, destination_small header.destination))
      (omega (arith, formed.port, formed.reserved, flag_small header.ack))
      (omega (arith, formed.hop, can.short, flag_small header.added_header))
      (omega arith)
      (bytes_drop 4 (front header) front_small)

  pub sealed_small : AllBytes (sealed_pdu key number bytes)
  unfolding sealed_pdu encode
  sealed_small =
      bytes_joined (front (sealed_header header)) (sealed_payload key (sealed_header header) number plain) sent_small
      (payload_small key (sealed_header header) number plain hk
      (bytes_take header.payload_length (drop (header_length header) bytes) (bytes_drop (header_length header) bytes small)))
