-- W-202's laws: what is written reads back; what was read and is written again is one fixed encoding of the PDU; the longest exchange.
use Prim.Native.Nat.{ℕ, ◌+◌, ◌≤◌, ◌<◌}
use native.Mathlib.Omega.{arith}
use mathlib.Core.Bool.{Bool, true, false, not, cond, ◌&&◌}
use mathlib.Core.List.{List, [], ◌++◌, append-nil}
use mathlib.Core.Path.{◌≡◌, refl, ap, sym, ◌∙◌}
use lib.Dec.{eqb, ltb}
use lib.ListN.{length, take, drop, length-append, length-drop}
use lib.Seq.{take-add, length-take-le, take_at, drop_at, take_all}
use borrow.Author.Tests.{ltb-true, ltb-false, eqb-true, not-false}
use Rattle.std.specs.Prelude.{Ok}
use Rattle.octets.specs.Octets.{at}
use Rattle.octets.specs.Octets.{AllBytes}
use Rattle.octets.proofs.Numbering.{or_else_zero, gives_zero}
use Rattle.octets.proofs.Tests.{both, flag_small}
use Rattle.pdu.specs.declared.Header.{Header}
use Rattle.pdu.specs.Header.{is_set, protocol, path_bit, path_count_place, header_of}
use Rattle.pdu.specs.Sizes.{header_length, pdu_length}
use Rattle.pdu.specs.Reading.{read_of, reading_number}
use Rattle.pdu.specs.Parts.{payload_in}
use Rattle.pdu.proofs.Inversion.{shown}
use Rattle.pdu.proofs.Number.{read_0}
use Rattle.pdu.proofs.Showing.{length_shown}
use Rattle.pdu.proofs.Exact.{front_reads}
use Rattle.elements.specs.Elements.{type_at, length_at, value_place, element_end, elements_in, first_of, element_fault, run_fault}
use Rattle.exchange.specs.Encoding.{number_bytes, element}
use Rattle.exchange.proofs.Written.{written_short, written_long}
use Rattle.elements.proofs.Runs.{end_after, found_sound, fault_whole, fault_inside, first_sound}
use Rattle.exchange.proofs.Written.{length_element}
use Rattle.split_pdu.specs.SplitPdu.{is_split, joined_number}
use Rattle.exchange.specs.Exchange.{held, is_exchange, header_element, payload_element, header_part, payload_part, exchange_number}
use Rattle.exchange.specs.Encoding.{exchange_bytes, encoding, exchange_limit}
use Rattle.split_pdu.proofs.Joining.{is_joined}
use Rattle.exchange.proofs.Putting.{payload_short}
use Rattle.exchange.proofs.Back.{written_parts, written_back}

number_long : (number : ℕ) → length (number_bytes number) ≤ 2
number_long number = go (ltb number 128) refl
  where
    go : (t : Bool) → ltb number 128 ≡ t → length (number_bytes number) ≤ 2
    go true e = omega (arith, written_short number (ltb-true number 128 e))
    go false e = omega (arith, written_long number (ltb-false number 128 e))

count_le : (t : Bool) (count : ℕ) → count < 256 → cond t count 0 ≤ 255
count_le true count h = omega arith
count_le false count h = omega arith

header_short : (bytes : List ℕ) → AllBytes bytes → header_length (header_of bytes) ≤ 520
header_short bytes small =
    omega (
      arith,
      length_shown bytes,
      flag_small (eqb (protocol (at bytes 0)) 1),
      count_le (is_set (path_bit (at bytes 0)))
          (at bytes (path_count_place (at bytes 0))) (small (path_count_place (at bytes 0))),
    )

-- 1 + 2 + (2 + 2 + 520) + (2 + 2 + 4,095)
exchange_long : (header payload : List ℕ) → length header ≤ 520 → length payload ≤ 4095
    → (length (element 1024 header ++ element 1025 payload) ≤ 4623) × (length (exchange_bytes header payload) ≤ 4626)
unfolding exchange_bytes
exchange_long header payload h p =
    let together : length (element 1024 header ++ element 1025 payload) ≡ length (element 1024 header) + length (element 1025 payload) = length-append
    (element 1024 header) (element 1025 payload) in
    let one = length_element 1024 header in
    let two = length_element 1025 payload in
    let all = length_element 20 (element 1024 header ++ element 1025 payload) in
    let short = written_short 20 (omega arith) in (
      omega (arith, together, one, two, number_long 1024, number_long 1025, number_long (length header), number_long (length payload)),
      omega (
        arith,
        together,
        one,
        two,
        all,
        short,
        number_long 1024,
        number_long 1025,
        number_long (length header),
        number_long
            (length payload),
        number_long (length (element 1024 header ++ element 1025 payload)),
      ),
    )

-- a PDU at the start of bytes
module _ (bytes : List ℕ) (header : Header) (small : AllBytes bytes) (read : read_of bytes ≡ Ok header) where
  is : header ≡ header_of bytes
  is = (shown bytes header read).is

  ends : pdu_length header ≤ length bytes
  ends = (shown bytes header read).ends

  header_long : length (take (header_length header) bytes) ≡ header_length header
  header_long = length-take-le (header_length header) bytes (omega (arith, ends))

  payload_long : length (payload_in header bytes) ≡ header.payload_length
  payload_long = length-take-le header.payload_length (drop (header_length header) bytes) (simp length-drop (omega (arith, ends)))

  pub joined_is : take (header_length header) bytes ++ payload_in header bytes ≡ take (pdu_length header) bytes
  joined_is = sym (take-add (header_length header) header.payload_length bytes)

  encoding_parts : encoding bytes ≡ exchange_bytes (take (header_length header) bytes) (payload_in header bytes)
  unfolding encoding
  encoding_parts = rw is

  header_few : length (take (header_length header) bytes) ≤ 520
  header_few = omega (arith, header_long, ap (λ (h : Header). header_length h) is, header_short bytes small)

  payload_few : length (payload_in header bytes) ≤ 4095
  payload_few = omega (arith, payload_long, ap (λ (h : Header). h.payload_length) is, payload_short bytes small)

  few : length (element 1024 (take (header_length header) bytes) ++ element 1025 (payload_in header bytes)) < 32768
  few = omega (arith, (exchange_long (take (header_length header) bytes) (payload_in header bytes) header_few payload_few).0)

  joined_read : read_of (take (header_length header) bytes ++ payload_in header bytes) ≡ Ok header
  joined_read = rw (joined_is, ← append-nil (take (pdu_length header) bytes)) (front_reads bytes header read [])

  joined_header : header ≡ header_of (take (header_length header) bytes ++ payload_in header bytes)
  joined_header = (shown (take (header_length header) bytes ++ payload_in header bytes) header joined_read).is

  joined_0 : joined_number (take (header_length header) bytes) (payload_in header bytes) ≡ 0
  joined_0 =
      sym
      (is_joined (take (header_length header) bytes) (payload_in header bytes) (header_length header) (pdu_length header)
      (joined_read ∙ ap Ok joined_header)
      (ap (λ (h : Header). header_length h) joined_header)
      (ap (λ (h : Header). pdu_length h) joined_header)
      (sym header_long)
      (omega (arith, header_long, payload_long)))

  -- what is written reads back: number 0, and header and payload are the PDU's
  pub written_number : exchange_number (encoding bytes) ≡ 0
  written_number = written_back (take (header_length header) bytes) (payload_in header bytes) few (encoding bytes) encoding_parts ∙ joined_0

  pub written_header : header_part (encoding bytes) ≡ take (header_length header) bytes
  written_header = (written_parts (take (header_length header) bytes) (payload_in header bytes) few (encoding bytes) encoding_parts).0

  pub written_payload : payload_part (encoding bytes) ≡ payload_in header bytes
  written_payload = (written_parts (take (header_length header) bytes) (payload_in header bytes) few (encoding bytes) encoding_parts).1

  -- the longest exchange
  pub encoding_long : length (encoding bytes) ≤ exchange_limit
  encoding_long = rw encoding_parts (exchange_long (take (header_length header) bytes) (payload_in header bytes) header_few payload_few).1

-- an exchange that was read
module _ (x : List ℕ) (read : exchange_number x ≡ 0) where
  parts_0 : joined_number (header_part x) (payload_part x) ≡ 0
  unfolding exchange_number
  parts_0 = (or_else_zero _ _ (or_else_zero _ _ read).1).1

  read_split : (reading_number (read_of (header_part x ++ payload_part x)) ≡ 0) × (is_split (header_part x) (payload_part x) ≡ true)
  unfolding joined_number
  read_split = let two = or_else_zero _ _ parts_0 in (two.0, not-false _ (gives_zero (not (is_split (header_part x) (payload_part x))) 63 (omega arith) two.1))

  pub split_there : header_length (header_of (header_part x ++ payload_part x)) ≡ length (header_part x)
  split_there =
      eqb-true _ _
      (both (eqb (header_length (header_of (header_part x ++ payload_part x))) (length (header_part x)))
      (eqb (pdu_length (header_of (header_part x ++ payload_part x))) (length (header_part x ++ payload_part x))) read_split.1).0

  pub nothing_after : pdu_length (header_of (header_part x ++ payload_part x)) ≡ length (header_part x ++ payload_part x)
  nothing_after =
      eqb-true _ _
      (both (eqb (header_length (header_of (header_part x ++ payload_part x))) (length (header_part x)))
      (eqb (pdu_length (header_of (header_part x ++ payload_part x))) (length (header_part x ++ payload_part x))) read_split.1).1

  -- it holds a PDU and nothing else
  pub exchange_read : read_of (header_part x ++ payload_part x) ≡ Ok (header_of (header_part x ++ payload_part x))
  exchange_read = read_0 (header_part x ++ payload_part x) read_split.0

  -- and written again it is header first, then payload, whatever stood beside them and in whatever order and form
  pub rewritten : encoding (header_part x ++ payload_part x) ≡ exchange_bytes (header_part x) (payload_part x)
  unfolding encoding
  rewritten =
      let h = header_part x in
      let p = payload_part x in
      let n : (header_of (h ++ p)).payload_length ≡ length p = omega (arith, split_there, nothing_after, length-append h p) in
      rw (split_there, n, take_at h p (length h) refl, drop_at h p (length h) refl, take_all (length p) p (omega arith))

  -- the parts lie in the input, each whole
  pub no_run_fault : run_fault 4 x 0 (length x) ≡ 0
  unfolding exchange_number
  no_run_fault = (or_else_zero _ _ read).0

  shape : is_exchange x ≡ true
  unfolding exchange_number
  shape = not-false _ (gives_zero (not (is_exchange x)) 59 (omega arith) (or_else_zero _ _ (or_else_zero _ _ read).1).0)

  pub tests : (type_at x 0 ≡ 20) × (element_end x 0 ≡ length x) × (length (held 1024 x) ≡ 1) × (length (held 1025 x) ≡ 1)
  unfolding is_exchange
  tests =
      let c = both (eqb (type_at x 0) 20 && eqb (element_end x 0) (length x) && eqb (length (held 1024 x)) 1) (eqb (length (held 1025 x)) 1) shape in
      let b = both (eqb (type_at x 0) 20 && eqb (element_end x 0) (length x)) (eqb (length (held 1024 x)) 1) c.0 in
      let a = both (eqb (type_at x 0) 20) (eqb (element_end x 0) (length x)) b.0 in
      (eqb-true _ _ a.0, eqb-true _ _ a.1, eqb-true _ _ b.1, eqb-true _ _ c.1)

  pub inside_sound : first_of (element_fault 3 x (element_end x 0)) (elements_in x (value_place x 0) (element_end x 0)) ≡ 0
  inside_sound =
      let some : 0 < length x = omega (arith, end_after x 0, tests.1) in
      fault_inside 3 x (length x) 0 (first_sound 4 x 0 (length x) no_run_fault some) (rw tests.0)

  whole : (type : ℕ) → length (held type x) ≡ 1 → element_end x (at (held type x) 0) ≤ length x
  unfolding held
  whole type one =
      let ends =
      fault_whole 2 x (element_end x 0) (at (held type x) 0)
      (found_sound (element_fault 3 x (element_end x 0)) type x (elements_in x (value_place x 0) (element_end x 0)) inside_sound (omega (arith, one))) in
      omega (arith, ends, tests.1)

  pub header_inside : value_place x (header_element x) + length_at x (header_element x) ≤ length x
  unfolding element_end
  header_inside = whole 1024 tests.2

  pub payload_inside : value_place x (payload_element x) + length_at x (payload_element x) ≤ length x
  unfolding element_end
  payload_inside = whole 1025 tests.3

-- one encoding of a PDU: bytes after it are no concern, and any exchange that holds it is written again as the same
module _ (bytes : List ℕ) (header : Header) (small : AllBytes bytes) (read : read_of bytes ≡ Ok header) where
  encoding_prefix : encoding (take (header_length header) bytes ++ payload_in header bytes) ≡ encoding bytes
  encoding_prefix =
      let h = take (header_length header) bytes in
      let p = payload_in header bytes in
      let x = encoding bytes in
      ap encoding (sym (rw (written_header bytes header small read, written_payload bytes header small read)))
      ∙ rewritten x (written_number bytes header small read)
      ∙ rw (written_header bytes header small read, written_payload bytes header small read) (sym (encoding_parts bytes header small read))

  pub one_encoding : (x : List ℕ) → exchange_number x ≡ 0 → header_part x ++ payload_part x ≡ take (pdu_length header) bytes
      → encoding (header_part x ++ payload_part x) ≡ encoding bytes
  one_encoding x zero same = ap encoding (same ∙ sym (joined_is bytes header small read)) ∙ encoding_prefix

-- the bound is reached
pub longest : (header payload : List ℕ) → length header ≡ 520 → length payload ≡ 4095 → length (exchange_bytes header payload) ≡ exchange_limit
unfolding exchange_bytes
longest header payload h p =
    let two : length (element 1024 header ++ element 1025 payload) ≡ length (element 1024 header) + length (element 1025 payload) = length-append
    (element 1024 header) (element 1025 payload) in
    let one = length_element 1024 header in
    let other = length_element 1025 payload in
    let all = length_element 20 (element 1024 header ++ element 1025 payload) in
    let few = written_short 20 (omega arith) in
    let n1 = written_long 1024 (omega arith) in
    let n2 = written_long 1025 (omega arith) in
    let n3 = written_long (length header) (omega arith) in
    let n4 = written_long (length payload) (omega arith) in
    let n5 = written_long (length (element 1024 header ++ element 1025 payload)) (omega (arith, two, one)) in
    omega (arith, two, one, other, all, few, n1, n2, n3, n4, n5)
