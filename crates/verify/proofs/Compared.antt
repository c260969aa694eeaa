-- Four bytes compared as one number, and that this says whether the PDU is genuine.
use Prim.Native.Nat.{ℕ, ◌+◌, ◌-◌, ◌*◌, ◌/◌, ◌%◌, ◌^◌, ◌<◌}
use native.Mathlib.Omega.{arith}
use native.Mathlib.Decide.{ℕ_discrete}
use native.Mathlib.Nat.{zero-add, div-div-eq-div-mul}
use mathlib.Core.Bool.{Bool, true, false, ◌&&◌}
use mathlib.Core.List.{List, [], ◌∷◌, ◌++◌}
use mathlib.Core.Logic.{by_cases}
use mathlib.Core.Path.{◌≡◌, refl, ap, ap₂, sym, ◌∙◌}
use lib.Dec.{eqb}
use lib.ListN.{replicate, take, drop}
use lib.Seq.{drop-drop}
use borrow.Author.Tests.{eq-eqb, eqb-true, ne_eqb}
use Rattle.octets.specs.Octets.{at, over}
use Rattle.ctr.specs.Ctr.{stream, added}
use Rattle.sha1_block.specs.declared.Five.{Five}
use Rattle.sha1_digest.specs.declared.Running.{Running}
use Rattle.sha1_digest.specs.Sha1.{four_bytes, hash_begun, fed, final_hash, finished, sha1}
use Rattle.sha1_digest.proofs.Feeding.{fed_append, finished_fed}
use Rattle.pdu.specs.declared.Header.{Header}
use Rattle.pdu.specs.Header.{header_of, source_of}
use Rattle.pdu.specs.Parts.{payload_in}
use Rattle.message.specs.Protection.{number_in, message_number_bytes, added_length, hashed_header, hash_bytes, nonce_of}
use Rattle.verify.specs.Verify.{message_number, plain_length, deciphered_under, plain_under, same_four, genuine_under}
use Rattle.verify.proofs.Deciphering.{take_added, drop_added}

-- two words are equal exactly where their four bytes are
all_false : (p q r s : Bool) → (p ≡ true → q ≡ true → r ≡ true → s ≡ true → ⊥) → (p && (q && (r && s))) ≡ false
all_false false q r s h = refl
all_false true false r s h = refl
all_false true true false s h = refl
all_false true true true false h = refl
all_false true true true true h = absurd (h refl refl refl refl)

last_digit : (n rest digit : ℕ) → n / 256 ≡ rest → n % 256 ≡ digit → n ≡ 256 * rest + digit
last_digit n rest digit e h = omega (arith, e, h)

summed : (n p q r a b c d : ℕ) → n ≡ 256 * p + d → p ≡ 256 * q + c → q ≡ 256 * r + b → r ≡ a → n ≡ a * 16777216 + b * 65536 + c * 256 + d
summed n p q r a b c d en ep eq er = omega arith

module _ (word a b c d : ℕ) (small : word < 2 ^ 32) (sa : a < 256) (sb : b < 256) (sc : c < 256) (sd : d < 256) where
  alike : word ≡ a * 16777216 + b * 65536 + c * 256 + d
      → (word / 2 ^ 24 % 256 ≡ a) × (word / 2 ^ 16 % 256 ≡ b) × (word / 2 ^ 8 % 256 ≡ c) × (word % 256 ≡ d)
  alike e = (omega (arith, e), omega (arith, e), omega (arith, e), omega (arith, e))

  joined : word / 2 ^ 24 % 256 ≡ a → word / 2 ^ 16 % 256 ≡ b → word / 2 ^ 8 % 256 ≡ c → word % 256 ≡ d
      → word ≡ a * 16777216 + b * 65536 + c * 256 + d
  joined ea eb ec ed =
      let top : word / 16777216 ≡ a = omega (arith, ea) in
      let second : word / 65536 ≡ 256 * (word / 16777216) + b = last_digit (word / 65536) _ b (div-div-eq-div-mul word 65536 256) eb in
      let third : word / 256 ≡ 256 * (word / 65536) + c = last_digit (word / 256) _ c (div-div-eq-div-mul word 256 256) ec in
      summed word _ _ _ a b c d (last_digit word _ d refl ed) third second top

  compared : eqb word (a * 16777216 + b * 65536 + c * 256 + d)
      ≡ (eqb (word / 2 ^ 24 % 256) a && (eqb (word / 2 ^ 16 % 256) b && (eqb (word / 2 ^ 8 % 256) c && eqb (word % 256) d)))
  compared =
      let sum = a * 16777216 + b * 65536 + c * 256 + d in
      by_cases (ℕ_discrete word sum)
      (λ e.
      let same = alike e in
      eq-eqb word sum e
      ∙ sym (simp (eq-eqb _ _ same.0, eq-eqb _ _ same.1, eq-eqb _ _ same.2, eq-eqb _ _ same.3)))
      (λ n.
      ne_eqb word sum n
      ∙ sym (all_false _ _ _ _ (λ ea eb ec ed. n (joined (eqb-true _ _ ea) (eqb-true _ _ eb) (eqb-true _ _ ec) (eqb-true _ _ ed)))))

pub word_compared : (word : ℕ) (block : List ℕ) → word < 2 ^ 32 → ((i : ℕ) → at block i < 256)
    → eqb word (at block 0 * 16777216 + at block 1 * 65536 + at block 2 * 256 + at block 3) ≡ same_four (four_bytes word) block
word_compared word block small bytes =
    compared word (at block 0) (at block 1) (at block 2) (at block 3) small (bytes 0) (bytes 1) (bytes 2) (bytes 3)

-- the first word of the hash value of header, number and plain payload
pub expected_is : (bytes plain : List ℕ) (number : ℕ) (r0 r1 : Running) (hash : Five) → r0 ≡ fed hash_begun (hashed_header bytes ++ message_number_bytes number)
    → r1 ≡ fed r0 plain → hash ≡ final_hash r1 → hash.a ≡ (final_hash (fed hash_begun (hashed_header bytes ++ message_number_bytes number ++ plain))).a
expected_is bytes plain number r0 r1 hash e0 e1 eh = rw (eh, e1, e0, fed_append hash_begun (hashed_header bytes ++ message_number_bytes number) plain) refl

-- up to four bytes of a list, and zeros behind them
first_four : (expected l : List ℕ) → same_four expected (over (take 4 l) (replicate 16 0)) ≡ same_four expected l
unfolding over
first_four expected [] = refl
first_four expected (a ∷ []) = refl
first_four expected (a ∷ b ∷ []) = refl
first_four expected (a ∷ b ∷ c ∷ []) = refl
first_four expected (a ∷ b ∷ c ∷ d ∷ l) = refl

-- what the steps found: header, sealed payload, number, nonce, the plain payload's length, the hash and the block deciphered
module _ (w bytes : List ℕ) (header : Header) (sealed nonce : List ℕ) (number size : ℕ) (is : header ≡ header_of bytes)
    (es : sealed ≡ payload_in header bytes) (en : number ≡ number_in sealed) (ec : nonce ≡ nonce_of header.source number)
    (ez : size ≡ header.payload_length - added_length) where
  abbrev s : ℕ → ℕ
  s = stream w nonce

  abbrev behind : List ℕ
  behind = drop 3 sealed

  payload_is : sealed ≡ payload_in (header_of bytes) bytes
  payload_is = es ∙ ap (λ (h : Header). payload_in h bytes) is

  number_is : number ≡ message_number bytes
  unfolding message_number
  number_is = en ∙ ap number_in payload_is

  size_is : size ≡ plain_length bytes
  size_is = ez ∙ ap (λ (h : Header). h.payload_length - added_length) is

  nonce_is : nonce ≡ nonce_of (source_of bytes) (message_number bytes)
  nonce_is = ec ∙ ap₂ nonce_of (ap (λ (h : Header). h.source) is) number_is

  deciphered_is : added s 0 behind ≡ deciphered_under w bytes
  unfolding deciphered_under
  deciphered_is = ap₂ (λ (n l : List ℕ). added (stream w n) 0 (drop 3 l)) nonce_is payload_is

  plain_is : (part : List ℕ) → part ≡ take size behind → added s 0 part ≡ plain_under w bytes
  unfolding plain_under
  plain_is part e = ap (added s 0) e ∙ sym (take_added s 0 size behind) ∙ ap₂ (λ (n : ℕ) (l : List ℕ). take n l) size_is deciphered_is

  sent_is : (part : List ℕ) → part ≡ take 4 (drop (size + 3) sealed) → added s size part ≡ take 4 (drop (plain_length bytes) (deciphered_under w bytes))
  sent_is part e =
      let place : size + 3 ≡ 3 + size = omega arith in
      let four : part ≡ take 4 (drop size behind) = e ∙ ap (λ (n : ℕ). take 4 (drop n sealed)) place ∙ ap (take 4) (sym (drop-drop size 3 sealed)) in
      ap (added s size) four ∙ sym (take_added s size 4 (drop size behind))
      ∙ ap (take 4) (ap (λ (n : ℕ). added s n (drop size behind)) (sym (zero-add size)) ∙ sym (drop_added s 0 size behind)
      ∙ ap₂ (λ (n : ℕ) (l : List ℕ). drop n l) size_is deciphered_is)

  hash_is : (part : List ℕ) (hash : ℕ) → part ≡ take size behind
      → hash ≡ (final_hash (fed hash_begun (hashed_header bytes ++ message_number_bytes number ++ added s 0 part))).a
      → four_bytes hash ≡ hash_bytes bytes (message_number bytes) (plain_under w bytes)
  unfolding hash_bytes finished
  hash_is part hash e eh =
      let message = hashed_header bytes ++ message_number_bytes number ++ added s 0 part in
      ap four_bytes eh ∙ ap (take 4) (finished_fed message)
      ∙ ap₂ (λ (n : ℕ) (l : List ℕ). take 4 (sha1 (hashed_header bytes ++ message_number_bytes n ++ l))) number_is (plain_is part e)

  pub genuine_is : (first last sent : List ℕ) (hash : ℕ) (g : Bool) → first ≡ take size behind
      → hash ≡ (final_hash (fed hash_begun (hashed_header bytes ++ message_number_bytes number ++ added s 0 first))).a
      → last ≡ take 4 (drop (size + 3) sealed) → sent ≡ over (added s size last) (replicate 16 0) → g ≡ same_four (four_bytes hash) sent
      → g ≡ genuine_under w bytes
  unfolding genuine_under
  genuine_is first last sent hash g ef eh el et eg =
      eg
      ∙ ap₂ same_four (hash_is first hash ef eh) (et ∙ ap (λ (l : List ℕ). over l (replicate 16 0)) (sent_is last el))
      ∙ first_four (hash_bytes bytes (message_number bytes) (plain_under w bytes)) (drop (plain_length bytes) (deciphered_under w bytes))
