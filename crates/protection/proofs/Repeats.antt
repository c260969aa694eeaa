-- A PDU opens alike before repeats and after them.
use Prim.Native.Nat.{ℕ}
use mathlib.Core.List.{List, [], ◌∷◌}
use mathlib.Core.Path.{◌≡◌, refl, ap, sym, ◌∙◌}
use Rattle.std.specs.Prelude.{Result}
use Rattle.octets.specs.Octets.{AllBytes}
use Rattle.octets.proofs.Words.{bytes_joined}
use Rattle.pdu.specs.declared.Refusal.{Refusal}
use Rattle.pdu.specs.declared.Header.{Header}
use Rattle.pdu.specs.Header.{header_of}
use Rattle.pdu.specs.Reading.{read_of, reading_number}
use Rattle.pdu.specs.Parts.{payload_in}
use Rattle.pdu.proofs.Inversion.{shown}
use Rattle.node.specs.Repeat.{repeated, repeated_header}
use Rattle.node.proofs.Encoded.{repeat_reads, repeat_payload, repeat_bytes}
use Rattle.node.proofs.Heard.{repeats}
use Rattle.message.specs.Protection.{number_in, hashed_header, hash_bytes}
use Rattle.verify.specs.Verify.{message_number, deciphered_under, plain_under, genuine_under}
use Rattle.opening.specs.Opening.{deciphered, plain_payload, genuine, sealed_fault, keyless_fault, open_number, memory_after_opening}
use Rattle.protection.specs.Histories.{Repeat, heard_after, heard_at_last, RepeatedBy, AllRepeat}
use Rattle.protection.proofs.Hashed.{hashed_fields, hashed_shown}

-- what opening sees of a PDU
pub record Alike (a b : List ℕ) : Type 0 where
  pub reads : reading_number (read_of a) ≡ reading_number (read_of b)
  pub encrypted : (header_of a).encrypted ≡ (header_of b).encrypted
  pub size : (header_of a).payload_length ≡ (header_of b).payload_length
  pub source : (header_of a).source ≡ (header_of b).source
  pub payload : payload_in (header_of a) a ≡ payload_in (header_of b) b
  pub hashed : hashed_header a ≡ hashed_header b

pub alike_self : (a : List ℕ) → Alike a a
alike_self a = record { reads = refl; encrypted = refl; size = refl; source = refl; payload = refl; hashed = refl }

pub alike_then : {a b c : List ℕ} → Alike a b → Alike b c → Alike a c
alike_then p q =
    record {
      reads = p.reads ∙ q.reads;
      encrypted = p.encrypted ∙ q.encrypted;
      size = p.size ∙ q.size;
      source = p.source ∙ q.source;
      payload = p.payload ∙ q.payload;
      hashed = p.hashed ∙ q.hashed;
    }

module _ {a b : List ℕ} (same : Alike a b) where
  pub number_alike : message_number a ≡ message_number b
  unfolding message_number
  number_alike = ap (λ (l : List ℕ). number_in l) same.payload

  module _ (key : List ℕ) where
    deciphered_alike : deciphered key a ≡ deciphered key b
    unfolding deciphered deciphered_under
    deciphered_alike = rw (same.source, number_alike, same.payload)

    pub plain_alike : plain_payload key a ≡ plain_payload key b
    unfolding plain_payload plain_under deciphered
    plain_alike = rw (same.size, deciphered_alike)

    genuine_alike : genuine key a ≡ genuine key b
    unfolding genuine genuine_under plain_payload deciphered hash_bytes
    genuine_alike = rw (same.hashed, number_alike, plain_alike, same.size, deciphered_alike)

    module _ (memory : List ℕ) (room : ℕ) where
      keyless_alike : keyless_fault memory a ≡ keyless_fault memory b
      unfolding keyless_fault sealed_fault
      keyless_alike = rw (same.reads, same.encrypted, same.size, same.source, number_alike)

      pub open_alike : open_number key memory a room ≡ open_number key memory b room
      unfolding open_number
      open_alike = rw (keyless_alike, genuine_alike, same.source, same.size)

      pub memory_alike : memory_after_opening key memory a room ≡ memory_after_opening key memory b room
      unfolding memory_after_opening
      memory_alike = rw (open_alike, same.source, number_alike)

-- the fields that a repeat keeps
module _ (header : Header) where
  same_encrypted : (repeated_header header).encrypted ≡ header.encrypted
  unfolding repeated_header
  same_encrypted = refl

  same_size : (repeated_header header).payload_length ≡ header.payload_length
  unfolding repeated_header
  same_size = refl

  same_source : (repeated_header header).source ≡ header.source
  unfolding repeated_header
  same_source = refl

  same_fields : hashed_fields (repeated_header header) ≡ hashed_fields header
  unfolding repeated_header hashed_fields
  same_fields = refl

module _ (repeat : Repeat) (received : List ℕ) (small : AllBytes received) (by : RepeatedBy repeat received) where
  pub heard_small : AllBytes (heard_after repeat received)
  heard_small =
      let r = repeats repeat.node repeat.room received by.does in
      bytes_joined (repeated repeat.node.settings.own received) repeat.behind
      (repeat_bytes received r.header small r.read r.ready repeat.node.settings.own by.narrow) by.small

  pub repeat_alike : Alike (heard_after repeat received) received
  repeat_alike =
      let again = heard_after repeat received in
      let own = repeat.node.settings.own in
      let r = repeats repeat.node repeat.room received by.does in
      let header = r.header in
      let reads = repeat_reads received header small r.read r.ready own repeat.behind in
      let shows : header_of again ≡ repeated_header header = sym (shown again (repeated_header header) reads).is in
      let is : header ≡ header_of received = (shown received header r.read).is in
      record {
        reads = ap (λ (x : Result Header Refusal). reading_number x) reads ∙ sym (ap (λ (x : Result Header Refusal). reading_number x) r.read);
        encrypted = ap (λ (h : Header). h.encrypted) shows ∙ same_encrypted header ∙ ap (λ (h : Header). h.encrypted) is;
        size = ap (λ (h : Header). h.payload_length) shows ∙ same_size header ∙ ap (λ (h : Header). h.payload_length) is;
        source = ap (λ (h : Header). h.source) shows ∙ same_source header ∙ ap (λ (h : Header). h.source) is;
        payload =
            ap (λ (h : Header). payload_in h again) shows ∙ repeat_payload received header small r.read r.ready own repeat.behind
            ∙ ap (λ (h : Header). payload_in h received) is;
        hashed =
            hashed_shown again (repeated_header header) heard_small reads ∙ same_fields header ∙ sym (hashed_shown received header small r.read);
      }

-- any number of repeats, by any nodes
pub heard_alike : (steps : List Repeat) (sent : List ℕ) → AllBytes sent → AllRepeat steps sent → Alike (heard_at_last steps sent) sent
unfolding heard_at_last AllRepeat
heard_alike [] sent small all = alike_self sent
heard_alike (repeat ∷ later) sent small all =
    alike_then (heard_alike later (heard_after repeat sent) (heard_small repeat sent small all.0) all.1) (repeat_alike repeat sent small all.0)
