-- The sealed PDU, put part by part.
use Prim.Native.Nat.{ℕ, ◌+◌, ◌-◌, ◌*◌, ◌/◌, ◌%◌, ◌≤◌}
use native.Mathlib.Omega.{arith}
use native.Mathlib.Nat.{mod-eq_of_lt}
use mathlib.Core.Bool.{true}
use mathlib.Core.List.{List, [], ◌∷◌, ◌++◌, append_assoc}
use mathlib.Core.Path.{◌≡◌, refl, ap, ap₂, sym, ◌∙◌}
use lib.Dec.{eqb}
use lib.ListN.{length, take, drop, length-append}
use lib.Seq.{take_at, drop_at, take-add, take-take, length-take-le, take-append-le}
use borrow.Rule.Slice.PartMut.{put_mid}
use Rattle.std.specs.Prelude.{Ok}
use Rattle.octets.specs.Numbers.{flag}
use Rattle.octets.specs.Octets.{at, AllBytes, over, placed, place_after}
use Rattle.octets.proofs.Placing.{Begins, more, length_over}
use Rattle.octets.proofs.Tests.{flag_small}
use Rattle.aes.specs.Cipher.{key_expansion}
use Rattle.ctr.specs.Ctr.{stream, added, counter_mode}
use Rattle.ctr.proofs.Streams.{length_added}
use Rattle.sha1_digest.specs.Sha1.{sha1}
use Rattle.sha1_digest.proofs.Feeding.{twenty}
use Rattle.pdu.specs.declared.Header.{Header}
use Rattle.pdu.specs.Header.{header_of, source_place, path_count_place}
use Rattle.pdu.specs.Sizes.{destination_flag, path_entries, path_start, header_length, pdu_length}
use Rattle.pdu.specs.Reading.{read_of}
use Rattle.pdu.specs.Parts.{path_in, payload_in}
use Rattle.pdu.proofs.Inversion.{shown}
use Rattle.pdu.proofs.Showing.{destination_small}
use Rattle.writing.specs.Writing.{header_bytes, path_bytes, encode, writable, header_written, header_output}
use Rattle.writing.proofs.Encoding.{header_begins, length_header, length_path_in}
use Rattle.writing.proofs.Within.{within, all_within, shown_within}
use Rattle.writing.proofs.Same.{written_same, shown_well_formed}
use Rattle.message.specs.Protection.{message_number_bytes, hashed_header, hash_bytes, nonce_of}
use Rattle.message.specs.Sealable.{sealed_length}
use Rattle.sealing.specs.Sealing.{sealed_header, sealed_payload, sealed_pdu}

-- the hash sees nothing behind the header's path count
hashed_before : (header tail : List ℕ) → 4 ≤ length header → path_count_place (at header 0) ≤ length header
    → hashed_header (header ++ tail) ≡ hashed_header header
unfolding hashed_header
hashed_before [] tail h p = absurd (omega arith)
hashed_before (a ∷ []) tail h p = absurd (omega arith)
hashed_before (a ∷ b ∷ []) tail h p = absurd (omega arith)
hashed_before (a ∷ b ∷ c ∷ []) tail h p = absurd (omega arith)
hashed_before (a ∷ b ∷ c ∷ d ∷ rest) tail h p =
    let short : path_count_place a - source_place ≤ length rest = omega arith in
    rw (take-append-le (path_count_place a - source_place) rest tail short)

-- where the path count stands in a header's bytes
pub count_place : (header : Header) → header.protocol ≤ 1
    → path_count_place (at (header_bytes header) 0) + flag header.path_bit ≡ path_start header
unfolding header_bytes
count_place header known =
    let byte0 = at (header_bytes header) 0 in
    let stamp = flag_small header.time_stamp_request in
    let path = flag_small header.path_bit in
    let destination = destination_small header.destination in
    let bit : byte0 % 2 ≡ destination_flag header.destination = omega arith in
    let eighth : byte0 / 8 ≡ header.protocol = omega arith in
    let protocol : byte0 / 8 % 8 ≡ header.protocol = mod-eq_of_lt (omega (arith, eighth)) ∙ eighth in
    let reliable : flag (eqb (byte0 / 8 % 8) 1) ≡ flag (eqb header.protocol 1) = ap (λ (n : ℕ). flag (eqb n 1)) protocol in
    omega (arith, bit, reliable)

pub hashed_header_lem : (header : Header) (tail : List ℕ) → header.protocol ≤ 1
    → hashed_header (header_bytes header ++ tail) ≡ hashed_header (header_bytes header)
hashed_header_lem header tail known =
    hashed_before (header_bytes header) tail (omega (arith, length_header header)) (omega (arith, count_place header known, length_header header))

pub length_hash : (header : List ℕ) (number : ℕ) (plain : List ℕ) → length (hash_bytes header number plain) ≡ 4
unfolding hash_bytes
length_hash header number plain =
    let message = hashed_header header ++ message_number_bytes number ++ plain in
    length-take-le 4 (sha1 message) (omega (arith, twenty message))

pub length_enciphered : (key nonce bytes : List ℕ) → length (counter_mode key nonce bytes) ≡ length bytes
unfolding counter_mode
length_enciphered key nonce bytes = length_added (stream (key_expansion key) nonce) 0 bytes

pub enciphered : (key keys nonce output back : List ℕ) (place size : ℕ) → keys ≡ key_expansion key
    → back ≡ added (stream keys nonce) 0 (take size (drop place output))
    → put_mid place size output back ≡ take place output ++ (counter_mode key nonce (take size (drop place output)) ++ drop size (drop place output))
unfolding counter_mode
enciphered key keys nonce output back place size ek eb = rw (eb, ek)

-- a middle part put through a function that keeps its length
pub changed_over_lem : (front mid output before after : List ℕ) (place end : ℕ) (f : List ℕ → List ℕ) → length (f mid) ≡ length mid
    → length front ≡ place → length (front ++ mid) ≡ end → before ≡ over (front ++ mid) output
    → after ≡ take place before ++ (f (take (end - place) (drop place before)) ++ drop (end - place) (drop place before))
    → after ≡ over (front ++ f mid) output
unfolding over
changed_over_lem front mid output before after place end f same lf lm eb ea =
    let rest = drop (length (front ++ mid)) output in
    let is : before ≡ front ++ (mid ++ rest) = eb ∙ append_assoc front mid rest in
    let n : length mid ≡ end - place = omega (arith, length-append front mid) in
    let all : length (front ++ mid) ≡ length (front ++ f mid) = omega (arith, length-append front mid, length-append front (f mid)) in
    let behind : rest ≡ drop (length (front ++ f mid)) output = ap (λ (k : ℕ). drop k output) all in
    let d : drop place before ≡ mid ++ rest = ap (drop place) is ∙ drop_at front (mid ++ rest) place lf in
    let t : take place before ≡ front = ap (take place) is ∙ take_at front (mid ++ rest) place lf in
    ea
    ∙ rw (t, d, take_at mid rest (end - place) n, drop_at mid rest (end - place) n)
    (sym (append_assoc front (f mid) rest) ∙ ap (λ (l : List ℕ). front ++ f mid ++ l) behind)

-- what lies in an output once the hash was put: there is room to encipher from the place behind the number on, and what that gives is the sealed PDU
pub record Laid (bytes output : List ℕ) (header : Header) (number place end : ℕ) (before : List ℕ) : Type 0 where
  pub room : (place ≤ end) × (end ≤ length before)
  pub sealed : (key nonce after : List ℕ) → nonce ≡ nonce_of header.source number
      → after ≡ take place before ++ (counter_mode key nonce (take (end - place) (drop place before)) ++ drop (end - place) (drop place before))
      → (end ≡ sealed_length bytes) × (after ≡ over (sealed_pdu key number bytes) output)

module _ (bytes output : List ℕ) (header : Header) (small : AllBytes bytes) (read : read_of bytes ≡ Ok header) (short : header.payload_length ≤ 4088)
    (room : pdu_length header + 7 ≤ length output) where
  abbrev path : List ℕ
  path = path_bytes (path_in header bytes)

  abbrev head : List ℕ
  head = header_bytes (sealed_header header) ++ path

  sealed_writable : writable (sealed_header header) ≡ true
  unfolding sealed_header
  sealed_writable =
      let w = within header (shown_within bytes header small (shown bytes header read)) in
      all_within (sealed_header header)
      (record {
        protocol = w.protocol;
        addressed = w.addressed;
        hop = w.hop;
        port = w.port;
        reserved = w.reserved;
        payload = omega arith;
      })

  same_start : path_start (sealed_header header) ≡ path_start header
  unfolding sealed_header
  same_start = refl

  -- the path's bytes as they stand in the PDU
  path_part : path ≡ take (2 * path_entries header) (drop (path_start header) bytes)
  unfolding encode
  path_part =
      let start = path_start header in
      let size = 2 * path_entries header in
      let part = take size (drop start bytes) in
      let front = header_bytes header in
      let ends = (shown bytes header read).ends in
      let long : length (front ++ path) ≡ start + size = omega (arith, length-append front path, length_header header, length_path_in header bytes) in
      let begins : length (take start bytes) ≡ start = length-take-le start bytes (omega (arith, ends)) in
      let joined : take start bytes ++ part ≡ front ++ path =
      sym (take-add start size bytes) ∙ sym (take-take (start + size) (pdu_length header) bytes (omega arith))
      ∙ ap (take (start + size)) (sym (written_same bytes header small read)) ∙ take_at (front ++ path) (payload_in header bytes) (start + size) long in
      sym (drop_at front path start (length_header header)) ∙ ap (drop start) (sym joined) ∙ drop_at (take start bytes) part start begins

  pub head_put : (sealed : Header) (place : ℕ) (begun part now : List ℕ) (entries next : ℕ) → sealed ≡ sealed_header header
      → (place ≡ header_written sealed (length output)) × (begun ≡ header_output sealed output)
      → entries ≡ path_entries header → part ≡ take (2 * entries) (drop place bytes)
      → (next ≡ place_after begun place part) × (now ≡ placed begun place part)
      → (next ≡ header_length header) × (now ≡ over head output)
  head_put sealed place begun part now entries next is put_header_lem en ep put =
      let s = sealed_header header in
      let b = header_begins s output sealed_writable (omega (arith, same_start)) begun place (rw is at put_header_lem.0, rw is at put_header_lem.1) in
      let from : place ≡ path_start header = sym b.ends ∙ length_header s ∙ same_start in
      let is-part : part ≡ path = ep ∙ rw (from, en) (sym path_part) in
      let size = length_path_in header bytes in
      let all = more path begun now next b (omega (arith, b.ends, length_header s, same_start, size))
      (rw is-part at put.0) (rw is-part at put.1) in
      (omega (arith, all.ends, length-append (header_bytes s) path, length_header s, same_start, size), all.is)

  module _ (digits plain hash : List ℕ) (number n1 p2 p3 p4 : ℕ) (o1 o2 o3 o4 : List ℕ)
      (e1 : (n1 ≡ header_length header) × (o1 ≡ over head output)) (ed : digits ≡ message_number_bytes number)
      (e2 : (p2 ≡ place_after o1 n1 digits) × (o2 ≡ placed o1 n1 digits)) (ep : plain ≡ payload_in header bytes)
      (e3 : (p3 ≡ place_after o2 p2 plain) × (o3 ≡ placed o2 p2 plain)) (is : header ≡ header_of bytes)
      (eh : hash ≡ hash_bytes o3 number (payload_in (header_of bytes) bytes))
      (e4 : (p4 ≡ place_after o3 p3 hash) × (o4 ≡ placed o3 p3 hash)) where
    length_head : length head ≡ header_length header
    length_head =
        omega (arith, length-append (header_bytes (sealed_header header)) path, length_header (sealed_header header), same_start, length_path_in header bytes)

    length_plain : length plain ≡ header.payload_length
    length_plain = ap length ep ∙ (shown_well_formed bytes header small read).payload_long

    length_digits : length digits ≡ 3
    length_digits = ap length ed

    hash_long : length hash ≡ 4
    hash_long = ap length eh ∙ length_hash o3 number (payload_in (header_of bytes) bytes)

    b1 : Begins output o1 head n1
    b1 = record { is = e1.1; ends = length_head ∙ sym e1.0 }

    b2 : Begins output o2 (head ++ digits) p2
    b2 = more digits o1 o2 p2 b1 (omega (arith, e1.0, length_digits)) e2.0 e2.1

    place_2 : p2 ≡ header_length header + 3
    place_2 = omega (arith, b2.ends, length-append head digits, length_head, length_digits)

    b3 : Begins output o3 (head ++ digits ++ plain) p3
    b3 = more plain o2 o3 p3 b2 (omega (arith, place_2, length_plain)) e3.0 e3.1

    place_3 : p3 ≡ pdu_length header + 3
    place_3 = omega (arith, b3.ends, length-append (head ++ digits) plain, b2.ends, place_2, length_plain)

    b4 : Begins output o4 (head ++ digits ++ plain ++ hash) p4
    b4 = more hash o3 o4 p4 b3 (omega (arith, place_3, hash_long)) e4.0 e4.1

    place_4 : p4 ≡ pdu_length header + 7
    place_4 = omega (arith, b4.ends, length-append (head ++ digits ++ plain) hash, b3.ends, place_3, hash_long)

    encipher_room : (p2 ≤ p4) × (p4 ≤ length o4)
    encipher_room =
        let all = head ++ digits ++ plain ++ hash in
        let same : length o4 ≡ length output = ap length b4.is ∙ length_over all output (omega (arith, b4.ends, place_4)) in
        (omega (arith, place_2, place_4), omega (arith, place_4, same))

    -- the hash is that of the header alone
    hash_same : hash ≡ hash_bytes (header_bytes (sealed_header header)) number (payload_in header bytes)
    unfolding hash_bytes over
    hash_same =
        let s = header_bytes (sealed_header header) in
        let all = head ++ digits ++ plain in
        let rest = drop (length all) output in
        let tail = path ++ (digits ++ (plain ++ rest)) in
        let split : all ++ rest ≡ s ++ tail = simp append_assoc in
        let front : hashed_header o3 ≡ hashed_header s =
        ap hashed_header (b3.is ∙ split) ∙ hashed_header_lem (sealed_header header) tail (within (sealed_header header) sealed_writable).protocol in
        eh ∙ ap₂ (λ (l : List ℕ) (h : Header). take 4 (sha1 (l ++ message_number_bytes number ++ payload_in h bytes))) front (sym is)

    pub laid : Laid bytes output header number p2 p4 o4
    unfolding encode sealed_payload sealed_header sealed_pdu
    laid =
        let mid = plain ++ hash in
        let together : head ++ digits ++ plain ++ hash ≡ head ++ digits ++ mid = append_assoc (head ++ digits) plain hash in
        let before : o4 ≡ over (head ++ digits ++ mid) output = b4.is ∙ ap (λ (l : List ℕ). over l output) together in
        let long : length (head ++ digits ++ mid) ≡ p4 = ap length (sym together) ∙ b4.ends in
        record {
          room = encipher_room;
          sealed = λ key nonce o5 en e5.
              let put = changed_over_lem (head ++ digits) mid output o4 o5 p2 p4 (counter_mode key nonce) (length_enciphered key nonce mid) b2.ends long
              before e5 in
              let whole : head ++ digits ++ counter_mode key nonce mid
              ≡ head ++ (message_number_bytes number ++ counter_mode key (nonce_of header.source number) (payload_in header bytes
              ++ hash_bytes (header_bytes (sealed_header header)) number (payload_in header bytes))) =
              append_assoc head digits (counter_mode key nonce mid) ∙ rw (ed, en, hash_same, ep) in
              let sealed : over (encode (sealed_header header) (path_in header bytes) (sealed_payload key (sealed_header header) number (payload_in header bytes)))
              output ≡ over (sealed_pdu key number bytes) output =
              ap (λ (h : Header). over (encode (sealed_header h) (path_in h bytes) (sealed_payload key (sealed_header h) number (payload_in h bytes))) output) is in
              (place_4 ∙ ap (λ (h : Header). pdu_length h + 7) is, put ∙ ap (λ (l : List ℕ). over l output) whole ∙ sealed);
        }
