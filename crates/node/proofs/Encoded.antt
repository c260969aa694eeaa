-- The repeat is also the encoding of the changed header, of the path with the own address behind it and of the same payload, so it reads back to
-- these.
use Prim.Native.Nat.{ℕ, ◌+◌, ◌/◌, ◌≤◌, ◌<◌}
use native.Mathlib.Omega.{arith}
use mathlib.Core.Bool.{Bool, true, false, cond}
use mathlib.Core.List.{List, [], ◌∷◌, ◌++◌, append-nil}
use mathlib.Core.Path.{◌≡◌, refl, ap, sym, ◌∙◌}
use lib.ListN.{length, take, set, length-append}
use lib.Seq.{take_at, take-take, get_or-take}
use Rattle.std.specs.Prelude.{Ok}
use Rattle.octets.specs.Numbers.{flag}
use Rattle.octets.specs.Octets.{at, AllBytes, word_bytes}
use Rattle.octets.proofs.Words.{bytes_joined, bytes_set, bytes_take, bytes_drop, bytes_word}
use Rattle.pdu.specs.declared.Header.{Header}
use Rattle.pdu.specs.Header.{path_count_place, path_count_in, header_of}
use Rattle.pdu.specs.Sizes.{path_limit, pdu_limit, path_start, header_length, pdu_length}
use Rattle.pdu.specs.Reading.{read_of}
use Rattle.pdu.specs.Parts.{path_in, payload_in}
use Rattle.writing.specs.Writing.{only_if, header_bytes, path_bytes, encode, WellFormed}
use Rattle.pdu.proofs.Inversion.{Shown, shown}
use Rattle.writing.proofs.Encoding.{length_header, length_path_in}
use Rattle.writing.proofs.Back.{read_encode, path_encode, payload_encode}
use Rattle.writing.proofs.Same.{written_same, shown_well_formed}
use Rattle.node.specs.Repeat.{lowered_byte, lowered_header, repeated, repeated_length, repeated_header}
use Rattle.node.proofs.Repeating.{Ready, count_byte, count_place, length_repeated, ready_count, ready_small}
use Rattle.node.proofs.ChangedHeader.{lowered_small, byte_lowered, before_count, byte_two, header_parts, length_before, third_byte, changed_parts, grown}
use Rattle.node.proofs.ChangedHeader.{not_grown}

-- what the repeat's path has more than the received one
abbrev pub own_entry : Header → ℕ → List ℕ
own_entry header own = cond header.path_bit (own ∷ []) []

byte_small : (byte : ℕ) → byte < 256 → lowered_byte byte < 256
byte_small byte h = omega arith

path_joined : (path later : List ℕ) → path_bytes (path ++ later) ≡ path_bytes path ++ path_bytes later
unfolding path_bytes
path_joined [] later = refl
path_joined (address ∷ path) later = ap (λ (bytes : List ℕ). word_bytes address ++ bytes) (path_joined path later)

-- a PDU that was read
module _ (received : List ℕ) (header : Header) (small : AllBytes received) (read : read_of received ≡ Ok header) where
  abbrev path : List ℕ
  path = path_in header received

  abbrev payload : List ℕ
  payload = payload_in header received

  seen : Shown received header
  seen = shown received header read

  formed : WellFormed header path payload
  formed = shown_well_formed received header small read

  head_same : take (header_length header) received ≡ header_bytes header ++ path_bytes path
  unfolding encode
  head_same =
      let front = header_bytes header ++ path_bytes path in
      let long : length front ≡ header_length header =
      omega (arith, length-append (header_bytes header) (path_bytes path), length_header header, length_path_in header received) in
      sym (take-take (header_length header) (pdu_length header) received (omega arith))
      ∙ ap (take (header_length header)) (sym (written_same received header small read))
      ∙ take_at front payload (header_length header) long

  byte_two_lem : at received 2 ≡ byte_two header
  unfolding header_bytes
  byte_two_lem = sym (get_or-take (header_length header) received 2 0 (omega arith)) ∙ ap (λ (bytes : List ℕ). at bytes 2) head_same

  changed : (header.hop_limit ≡ 0 → ⊥)
      → header_bytes (repeated_header header)
      ≡ set (before_count header) 2 (lowered_byte (at received 2)) ++ only_if header.path_bit
      ((header.path_count + flag header.path_bit) ∷ [])
  changed positive =
      changed_parts header (lowered_byte (at received 2))
      (byte_lowered (flag header.added_header) header.hop_limit (header.payload_length / 256) formed.hop
      (omega (arith, formed.payload_short))
      ∙ ap (λ (b : ℕ). lowered_byte b) (sym byte_two_lem))

  header_small : AllBytes (lowered_header received)
  header_small =
      bytes_set (take (header_length (header_of received)) received) 2 (lowered_byte (at received 2))
      (bytes_take (header_length (header_of received)) received small)
      (byte_small (at received 2) (small 2))

  payload_small : AllBytes (payload_in (header_of received) received)
  payload_small = bytes_take (header_of received).payload_length _ (bytes_drop (header_length (header_of received)) received small)

  -- the repeat by its path bit
  abbrev by_bit : ℕ → Bool → Header → List ℕ
  by_bit own bit x =
      cond bit
      (set (set (take (header_length x) received) 2 (lowered_byte (at received 2))) (path_count_place (at received 0))
      (path_count_in received + 1) ++ word_bytes own ++ payload_in x received)
      (set (take (header_length x) received) 2 (lowered_byte (at received 2)) ++ payload_in x received)

  with_path_lem : (header.hop_limit ≡ 0 → ⊥) → (own : ℕ) → header.path_bit ≡ true
      → by_bit own true header ≡ header_bytes (repeated_header header) ++ (path_bytes path ++ word_bytes own) ++ payload
  with_path_lem positive own bit =
      let shown-bit : (header_of received).path_bit ≡ true = ap (λ (x : Header). x.path_bit) (sym seen.is) ∙ bit in
      let place : length (before_count header) ≡ path_count_place (at received 0) =
      omega (
        arith,
        length_before header,
        ap (λ (t : Bool). flag t) bit,
        ap (λ (x : Header). path_start x) seen.is,
        count_place received shown-bit,
      ) in
      let count : header.path_count ≡ path_count_in received = ap (λ (x : Header). x.path_count) seen.is ∙ count_byte received in
      grown (before_count header) (path_bytes path) (word_bytes own) payload (path_count_in received) (lowered_byte (at received 2))
      (third_byte header) place
      (head_same ∙ ap (λ (bytes : List ℕ). bytes ++ path_bytes path)
      (header_parts header ∙ ap (λ (t : Bool). before_count header ++ only_if t (header.path_count ∷ [])) bit
      ∙ ap (λ (n : ℕ). before_count header ++ (n ∷ [])) count))
      (changed positive ∙ ap
      (λ (t : Bool). set (before_count header) 2 (lowered_byte (at received 2)) ++ only_if t ((header.path_count + flag t) ∷ [])) bit
      ∙ ap (λ (n : ℕ). set (before_count header) 2 (lowered_byte (at received 2)) ++ ((n + 1) ∷ [])) count)

  without_path : (header.hop_limit ≡ 0 → ⊥) → (own : ℕ) → header.path_bit ≡ false
      → by_bit own false header ≡ header_bytes (repeated_header header) ++ path_bytes path ++ payload
  without_path positive own bit =
      not_grown (before_count header) (path_bytes path) payload (lowered_byte (at received 2)) (third_byte header)
      (head_same ∙ ap (λ (bytes : List ℕ). bytes ++ path_bytes path)
      (header_parts header ∙ ap (λ (t : Bool). before_count header ++ only_if t (header.path_count ∷ [])) bit))
      (changed positive ∙ ap
      (λ (t : Bool). set (before_count header) 2 (lowered_byte (at received 2)) ++ only_if t ((header.path_count + flag t) ∷ [])) bit)

  -- document 01's wording and the encoding of the changed header give the same bytes
  pub same_bytes : Ready received header → (own : ℕ)
      → repeated own received ≡ encode (repeated_header header) (path_in header received ++ own_entry header own) (payload_in header received)
  unfolding repeated encode path_bytes
  same_bytes ready own = ap (λ (x : Header). by_bit own x.path_bit x) (sym seen.is) ∙ go header.path_bit refl
    where
      go : (bit : Bool) → header.path_bit ≡ bit
          → by_bit own bit header ≡ header_bytes (repeated_header header) ++ path_bytes (path ++ cond bit (own ∷ []) []) ++ payload
      go true bit =
          with_path_lem ready.hop own bit
          ∙ ap (λ (bytes : List ℕ). header_bytes (repeated_header header) ++ bytes ++ payload) (sym (path_joined path (own ∷ [])))
      go false bit =
          without_path ready.hop own bit
          ∙ ap (λ (entries : List ℕ). header_bytes (repeated_header header) ++ path_bytes entries ++ payload) (sym (append-nil path))

  pub repeat_well_formed : (own : ℕ) → WellFormed (repeated_header header) (path_in header received ++ own_entry header own) (payload_in header received)
  unfolding repeated_header
  repeat_well_formed own =
      record {
        known = formed.known;
        addressed = formed.addressed;
        port = formed.port;
        reserved = formed.reserved;
        hop = lowered_small header.hop_limit formed.hop;
        payload_short = formed.payload_short;
        payload_long = formed.payload_long;
        no_id = formed.no_id;
        no_count = λ (none : header.path_bit ≡ false). omega (arith, formed.no_count none, ap (λ (t : Bool). flag t) none);
        path_long = length-append path (own_entry header own) ∙ omega (arith, formed.path_long, length_own header.path_bit);
      }
    where
      length_own : (bit : Bool) → length (cond bit (own ∷ []) []) ≡ flag bit
      length_own true = refl
      length_own false = refl

  -- the repeat reads back, whatever bytes come after it
  module _ (ready : Ready received header) (own : ℕ) (rest : List ℕ) where
    pub repeat_reads : read_of (repeated own received ++ rest) ≡ Ok (repeated_header header)
    repeat_reads = rw (same_bytes ready own) (read_encode (repeat_well_formed own) rest)

    pub repeat_path : path_in (repeated_header header) (repeated own received ++ rest) ≡ path_in header received ++ own_entry header own
    repeat_path = rw (same_bytes ready own) (path_encode (repeat_well_formed own) rest)

    pub repeat_payload : payload_in (repeated_header header) (repeated own received ++ rest) ≡ payload_in header received
    repeat_payload = rw (same_bytes ready own) (payload_encode (repeat_well_formed own) rest)

  module _ (ready : Ready received header) (own : ℕ) where
    -- the repeat alone
    pub alone_reads : read_of (repeated own received) ≡ Ok (repeated_header header)
    alone_reads = ap read_of (sym (append-nil (repeated own received))) ∙ repeat_reads ready own []

    pub alone_path : path_in (repeated_header header) (repeated own received) ≡ path_in header received ++ own_entry header own
    alone_path = ap (λ (bytes : List ℕ). path_in (repeated_header header) bytes) (sym (append-nil (repeated own received))) ∙ repeat_path ready own []

    pub alone_payload : payload_in (repeated_header header) (repeated own received) ≡ payload_in header received
    alone_payload =
        ap (λ (bytes : List ℕ). payload_in (repeated_header header) bytes) (sym (append-nil (repeated own received))) ∙ repeat_payload ready own []

    -- a repeat is no longer than the longest PDU
    pub repeat_long : length (repeated own received) ≡ repeated_length header
    repeat_long = length_repeated received [] own header seen.is seen.ends

    pub repeat_short : length (repeated own received) ≤ pdu_limit
    repeat_short = omega (arith, repeat_long, ready_small ready small)

    -- a repeat's bytes are bytes
    pub repeat_bytes : own < 65536 → AllBytes (repeated own received)
    unfolding repeated
    repeat_bytes narrow = go (header_of received).path_bit refl
      where
        go : (bit : Bool) → (header_of received).path_bit ≡ bit
            → AllBytes (cond bit
            (set (lowered_header received) (path_count_place (at received 0)) (path_count_in received + 1) ++ word_bytes own ++ payload_in
            (header_of received) received)
            (lowered_header received ++ payload_in (header_of received) received))
        go true bit =
            let count : path_count_in received < path_limit =
            omega (
              arith,
              count_byte received,
              ap (λ (x : Header). x.path_count) seen.is,
              ready_count ready small (ap (λ (x : Header). x.path_bit) seen.is ∙ bit),
            ) in
            let raised = set (lowered_header received) (path_count_place (at received 0)) (path_count_in received + 1) in
            bytes_joined (raised ++ word_bytes own) (payload_in (header_of received) received)
            (bytes_joined raised (word_bytes own)
            (bytes_set (lowered_header received) (path_count_place (at received 0)) (path_count_in received + 1) header_small (omega arith))
            (bytes_word own narrow))
            payload_small
        go false bit = bytes_joined (lowered_header received) (payload_in (header_of received) received) header_small payload_small
