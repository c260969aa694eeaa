-- Sealing and then opening under one key gives the payload back, and the header as it was sent.
use Prim.Native.Nat.{ℕ, ◌+◌, ◌≤◌}
use native.Mathlib.Omega.{arith}
use native.Mathlib.Nat.{div-div-eq-div-mul}
use mathlib.Core.Bool.{true, false, not}
use mathlib.Core.List.{List, ◌++◌, append_assoc}
use mathlib.Core.Path.{◌≡◌, refl, ap, sym, ◌∙◌}
use lib.ListN.{length, take, length-append}
use lib.Seq.{take_at, drop_at}
use borrow.Author.Tests.{le-ltb, eq-eqb}
use Rattle.std.specs.Prelude.{Result, Ok}
use Rattle.octets.specs.Octets.{at, AllBytes}
use Rattle.octets.proofs.Numbering.{or_else_later, gives_later, gives_none}
use Rattle.aes.specs.Cipher.{key_expansion}
use Rattle.ctr.specs.Ctr.{stream, counter_mode}
use Rattle.ctr.proofs.Twice.{added_twice}
use Rattle.sha1_digest.specs.Sha1.{sha1}
use Rattle.pdu.specs.declared.Refusal.{Refusal}
use Rattle.pdu.specs.declared.Header.{Header}
use Rattle.pdu.specs.Header.{header_of, source_of}
use Rattle.pdu.specs.Reading.{read_of, reading_number}
use Rattle.pdu.specs.Parts.{path_in, payload_in}
use Rattle.pdu.proofs.Inversion.{shown}
use Rattle.writing.specs.Writing.{header_bytes, path_bytes, encode, WellFormed}
use Rattle.writing.proofs.Back.{read_encode, path_encode, payload_encode}
use Rattle.writing.proofs.Same.{shown_well_formed}
use Rattle.sources.specs.Sources.{record_in, number_fault, source_fault}
use Rattle.message.specs.Protection.{message_number_bytes, number_in, hashed_header, hash_bytes, nonce_of}
use Rattle.message.specs.Sealable.{seal_number}
use Rattle.message.proofs.Sealable.{Sealable, sealable}
use Rattle.sealing.specs.Sealing.{sealed_header, sealed_payload, sealed_pdu}
use Rattle.sealing.proofs.Laying.{length_hash, length_enciphered, hashed_header_lem}
use Rattle.verify.specs.Verify.{message_number, plain_length, deciphered_under, plain_under, same_four, genuine_under}
use Rattle.opening.proofs.Sealed as keyless
use Rattle.opening.specs.Opening.{deciphered, plain_payload, genuine, keyless_fault, open_number}

sealed_encrypted : (header : Header) → (sealed_header header).encrypted ≡ true
unfolding sealed_header
sealed_encrypted header = refl

sealed_size : (header : Header) → (sealed_header header).payload_length ≡ header.payload_length + 7
unfolding sealed_header
sealed_size header = refl

-- enciphered twice is as before
twice : (key nonce bytes : List ℕ) → counter_mode key nonce (counter_mode key nonce bytes) ≡ bytes
unfolding counter_mode
twice key nonce bytes = added_twice (stream (key_expansion key) nonce) 0 bytes

-- a number's three bytes
number_back : (number : ℕ) (behind : List ℕ) → number ≤ 16777215 → number_in (message_number_bytes number ++ behind) ≡ number
number_back number behind h = omega (arith, div-div-eq-div-mul number 256 256)

pub same_self : (bytes : List ℕ) → same_four bytes bytes ≡ true
same_self bytes =
    rw (
      eq-eqb (at bytes 0) (at bytes 0) refl,
      eq-eqb (at bytes 1) (at bytes 1) refl,
      eq-eqb (at bytes 2) (at bytes 2) refl,
      eq-eqb (at bytes 3) (at bytes 3) refl,
    )

module _ (key bytes behind : List ℕ) (number room : ℕ) (small : AllBytes bytes) (zero : seal_number number bytes room ≡ 0) where
  abbrev header : Header
  header = header_of bytes

  abbrev plain : List ℕ
  plain = payload_in header bytes

  abbrev path : List ℕ
  path = path_in header bytes

  abbrev sealed : Header
  sealed = sealed_header header

  abbrev payload : List ℕ
  payload = sealed_payload key sealed number plain

  abbrev heard : List ℕ
  heard = sealed_pdu key number bytes ++ behind

  can : Sealable number room bytes
  can = sealable number room bytes zero

  formed : WellFormed header path plain
  formed = shown_well_formed bytes header small can.read

  abbrev hash : List ℕ
  hash = hash_bytes (header_bytes sealed) number plain

  length_payload : length payload ≡ length plain + 7
  unfolding sealed_payload
  length_payload =
      omega (
        arith,
        length_enciphered key (nonce_of sealed.source number) (plain ++ hash),
        length-append plain hash,
        length_hash (header_bytes sealed) number plain,
      )

  sealed_formed : WellFormed sealed path payload
  unfolding sealed_header
  sealed_formed =
      record {
        known = formed.known;
        addressed = formed.addressed;
        port = formed.port;
        reserved = formed.reserved;
        hop = formed.hop;
        payload_short = can.short;
        payload_long = omega (arith, length_payload, formed.payload_long);
        no_id = formed.no_id;
        no_count = formed.no_count;
        path_long = formed.path_long;
      }

  pub sealed_reads : read_of heard ≡ Ok sealed
  unfolding sealed_pdu
  sealed_reads = read_encode sealed_formed behind

  pub header_sent : header_of heard ≡ sealed
  header_sent = sym (shown heard sealed sealed_reads).is

  pub path_sent : path_in (header_of heard) heard ≡ path
  unfolding sealed_pdu
  path_sent = ap (λ (h : Header). path_in h heard) header_sent ∙ path_encode sealed_formed behind

  payload_sent : payload_in (header_of heard) heard ≡ payload
  unfolding sealed_pdu
  payload_sent = ap (λ (h : Header). payload_in h heard) header_sent ∙ payload_encode sealed_formed behind

  pub number_sent : message_number heard ≡ number
  unfolding message_number sealed_payload
  number_sent = ap (λ (l : List ℕ). number_in l) payload_sent
      ∙ number_back number (counter_mode key (nonce_of sealed.source number) (plain ++ hash)) can.small

  source_sent : source_of heard ≡ header.source
  unfolding sealed_header
  source_sent = ap (λ (h : Header). h.source) header_sent

  size_sent : plain_length heard ≡ length plain
  unfolding sealed_header
  size_sent = omega (arith, ap (λ (h : Header). h.payload_length) header_sent, formed.payload_long)

  deciphered_back : deciphered key heard ≡ plain ++ hash
  unfolding deciphered deciphered_under counter_mode sealed_payload sealed_header
  deciphered_back =
      rw (source_sent, number_sent, payload_sent) (twice key (nonce_of header.source number) (plain ++ hash))

  pub plain_back : plain_payload key heard ≡ plain
  unfolding plain_payload plain_under deciphered
  plain_back = rw (deciphered_back) (take_at plain hash (plain_length heard) (sym size_sent))

  hash_sent : hash_bytes heard number plain ≡ hash
  unfolding hash_bytes sealed_pdu encode
  hash_sent =
      let tail = path_bytes path ++ (payload ++ behind) in
      let split : sealed_pdu key number bytes ++ behind ≡ header_bytes sealed ++ tail = simp append_assoc in
      ap (λ (l : List ℕ). take 4 (sha1 (l ++ message_number_bytes number ++ plain))) (ap hashed_header split ∙ hashed_header_lem sealed tail sealed_formed.known)

  genuine_back : genuine key heard ≡ true
  unfolding genuine genuine_under plain_payload deciphered
  genuine_back =
      rw (plain_back, number_sent, hash_sent, deciphered_back, drop_at plain hash (plain_length heard) (sym size_sent)) (same_self hash)

  module _ (memory : List ℕ) (space : ℕ) (greater : number_fault header.source number (record_in memory) ≡ 0) where
    keyless_none : keyless_fault memory heard ≡ 0
    keyless_none =
        let bit : (header_of heard).encrypted ≡ true = ap (λ (h : Header). h.encrypted) header_sent ∙ sealed_encrypted header in
        let long : 7 ≤ (header_of heard).payload_length = omega (arith, ap (λ (h : Header). h.payload_length) header_sent, sealed_size header) in
        let fault : number_fault (source_of heard) (message_number heard) (record_in memory) ≡ 0 = rw (source_sent, number_sent) greater in
        keyless.keyless_none memory heard (ap (λ (x : Result Header Refusal). reading_number x) sealed_reads) bit long fault

    pub opens : source_fault header.source memory ≡ 0 → header.payload_length ≤ space → open_number key memory heard space ≡ 0
    unfolding open_number
    opens held wide =
        let clear : not (genuine key heard) ≡ false = ap not genuine_back in
        let full : source_fault (source_of heard) memory ≡ 0 = rw source_sent held in
        let fits : plain_length heard ≤ space = omega (arith, size_sent, formed.payload_long) in
        or_else_later _ _ keyless_none ∙ gives_later _ 83 _ clear ∙ or_else_later _ _ full ∙ gives_none _ 87 (le-ltb _ _ fits)
