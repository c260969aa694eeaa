-- An exchange put into an output, part by part.
use Prim.Native.Nat.{ℕ, ◌+◌, ◌≤◌, ◌<◌}
use native.Mathlib.Omega.{arith}
use native.Mathlib.Nat.{min-le_left}
use mathlib.Core.List.{List, ◌++◌, append_assoc}
use mathlib.Core.Path.{◌≡◌, refl, ap, ◌∙◌}
use lib.Dec.{ltb}
use lib.ListN.{length, take, drop, length-append, length-take}
use borrow.Author.Tests.{lt-ltb, le-ltb, ne_eqb}
use Rattle.octets.specs.Octets.{over, placed, place_after}
use Rattle.octets.proofs.Placing.{Begins, first, more, length_over}
use Rattle.octets.proofs.Numbering.{gives_last, gives_none, or_else_first, or_else_later}
use Rattle.pdu.specs.declared.Written.{Written}
use Rattle.octets.specs.Octets.{AllBytes}
use Rattle.pdu.specs.declared.Header.{Header}
use Rattle.pdu.specs.Header.{header_of}
use Rattle.pdu.specs.Sizes.{header_length}
use Rattle.pdu.specs.Parts.{payload_in}
use Rattle.pdu.specs.Reading.{read_of, reading_number}
use Rattle.exchange.specs.Encoding.{number_bytes, element}
use Rattle.exchange.proofs.Written.{length_element}
use Rattle.exchange.specs.Encoding.{exchange_bytes, encoding, room_number, write_number, written_by, output_by, written_exchange, exchange_output}

-- lengths from the sizes found
module _ (header payload : List ℕ) where
  pub inside_long : (a b : ℕ) → a ≡ length (number_bytes 1024) + length (number_bytes (length header)) + length header
      → b ≡ length (number_bytes 1025) + length (number_bytes (length payload)) + length payload → a + b ≡ length (element 1024 header ++ element 1025 payload)
  inside_long a b e f = omega (arith, length-append (element 1024 header) (element 1025 payload), length_element 1024 header, length_element 1025 payload)

  pub whole_long : (inside whole : ℕ) → inside ≡ length (element 1024 header ++ element 1025 payload)
      → whole ≡ length (number_bytes 20) + length (number_bytes inside) + inside
      → whole ≡ length (exchange_bytes header payload)
  unfolding exchange_bytes
  whole_long inside whole e f =
      let l = length_element 20 (element 1024 header ++ element 1025 payload) in
      let g : whole ≡ length (number_bytes 20) + length (number_bytes (length (element 1024 header ++ element 1025 payload))) + length
      (element 1024 header ++ element 1025 payload) = rw (← e) f in
      omega (arith, g, l)

  module _ (output : List ℕ) (inside : ℕ) (i : inside ≡ length (element 1024 header ++ element 1025 payload))
      (room : length (exchange_bytes header payload) ≤ length output)
      (o1 o2 : List ℕ) (p1 p2 : ℕ) (e1 : (p1 ≡ place_after output 0 (number_bytes 20)) × (o1 ≡ placed output 0 (number_bytes 20)))
      (e2 : (p2 ≡ place_after o1 p1 (number_bytes inside)) × (o2 ≡ placed o1 p1 (number_bytes inside))) where
    long : length (number_bytes 20) + length (number_bytes inside) + (length (element 1024 header) + length (element 1025 payload)) ≤ length output
    long =
        omega (
          arith,
          whole_long inside (length (number_bytes 20) + length (number_bytes inside) + inside) i refl,
          length-append (element 1024 header)
              (element 1025 payload),
        )

    begun_1 : Begins output o1 (number_bytes 20) p1
    begun_1 = first (number_bytes 20) output o1 p1 (omega (arith, long)) e1.0 e1.1

    begun_2 : Begins output o2 (number_bytes 20 ++ number_bytes inside) p2
    begun_2 = more (number_bytes inside) o1 o2 p2 begun_1 (omega (arith, long, begun_1.ends)) e2.0 e2.1

    two_long : length (number_bytes 20 ++ number_bytes inside) ≡ length (number_bytes 20) + length (number_bytes inside)
    two_long = length-append (number_bytes 20) (number_bytes inside)

    pub header_room : p2 + length (element 1024 header) ≤ length o2
    header_room =
        omega (
          arith,
          long,
          begun_2.ends,
          two_long,
          ap length begun_2.is,
          length_over (number_bytes 20 ++ number_bytes inside) output
              (omega (arith, long, two_long)),
        )

    module _ (o3 : List ℕ) (p3 : ℕ) (e3 : (p3 ≡ place_after o2 p2 (element 1024 header)) × (o3 ≡ placed o2 p2 (element 1024 header))) where
      begun_3 : Begins output o3 ((number_bytes 20 ++ number_bytes inside) ++ element 1024 header) p3
      begun_3 = more (element 1024 header) o2 o3 p3 begun_2 (omega (arith, long, begun_2.ends, two_long)) e3.0 e3.1

      three_long : length ((number_bytes 20 ++ number_bytes inside) ++ element 1024 header) ≡ length (number_bytes 20) + length
          (number_bytes inside) + length (element 1024 header)
      three_long = length-append (number_bytes 20 ++ number_bytes inside) (element 1024 header) ∙ omega (arith, two_long)

      pub payload_room : p3 + length (element 1025 payload) ≤ length o3
      payload_room =
          omega (
            arith,
            long,
            begun_3.ends,
            three_long,
            ap length begun_3.is,
            length_over
                ((number_bytes 20 ++ number_bytes inside) ++ element 1024 header) output (omega (arith, long, three_long)),
          )

      pub all_put : (o4 : List ℕ) (p4 : ℕ) → (p4 ≡ place_after o3 p3 (element 1025 payload)) × (o4 ≡ placed o3 p3 (element 1025 payload))
          → o4 ≡ over (exchange_bytes header payload) output
      unfolding exchange_bytes element
      all_put o4 p4 e4 =
          let g = more (element 1025 payload) o3 o4 p4 begun_3 (omega (arith, long, begun_3.ends, three_long)) e4.0 e4.1 in
          let same = append_assoc (number_bytes 20 ++ number_bytes inside) (element 1024 header) (element 1025 payload) in
          g.is ∙ rw (same, i)

-- 14, or written
module _ (exchange output : List ℕ) (long : ℕ) (l : long ≡ length exchange) where
  pub no_room : length output < long
      → (◌≡◌ {A = Written} (record { number = 14; length = 0 }) (written_by (room_number exchange (length output)) exchange))
      × (output ≡ output_by (room_number exchange (length output)) exchange output)
  no_room h =
      let short : length output < length exchange = omega arith in
      rw (gives_last (ltb (length output) (length exchange)) 14 (lt-ltb _ _ short)) (refl, refl)

  pub put_all : (after : List ℕ) → long ≤ length output → after ≡ over exchange output
      → (◌≡◌ {A = Written} (record { number = 0; length = long }) (written_by (room_number exchange (length output)) exchange))
      × (after ≡ output_by (room_number exchange (length output)) exchange output)
  put_all after h e =
      let enough : length exchange ≤ length output = omega arith in
      rw (gives_none (ltb (length output) (length exchange)) 14 (le-ltb _ _ enough)) (ap (λ (n : ℕ). record { number = 0; length = n }) l, e)

-- 1 to 6 before that
module _ (bytes : List ℕ) (output : List ℕ) (number : ℕ) (e : number ≡ reading_number (read_of bytes)) where
  pub not_read : (number ≡ 0 → ⊥)
      → (◌≡◌ {A = Written} (record { number = number; length = 0 }) (written_exchange bytes (length output))) × (output ≡ exchange_output bytes output)
  unfolding written_exchange exchange_output write_number
  not_read n =
      let is : write_number bytes (length output) ≡ number = rw (← e) (or_else_first number (room_number (encoding bytes) (length output)) n) in
      rw (is, ne_eqb number 0 n) (refl, refl)

  pub read_well : number ≡ 0 → (written : Written) (after : List ℕ)
      → (written ≡ written_by (room_number (encoding bytes) (length output)) (encoding bytes))
      × (after ≡ output_by (room_number (encoding bytes) (length output)) (encoding bytes) output)
      → (written ≡ written_exchange bytes (length output)) × (after ≡ exchange_output bytes output)
  unfolding written_exchange exchange_output write_number
  read_well z written after w =
      let is : write_number bytes (length output) ≡ room_number (encoding bytes) (length output) = rw (← e)
      (or_else_later number (room_number (encoding bytes) (length output)) z) in
      rw is w

-- the parts that are written
pub part_short : (bytes part : List ℕ) (place n limit : ℕ) → part ≡ take n (drop place bytes) → n ≤ limit → length part ≤ limit
part_short bytes part place n limit e h = rw e (simp length-take (omega (arith, min-le_left n (length (drop place bytes)))))

pub payload_short : (bytes : List ℕ) → AllBytes bytes → (header_of bytes).payload_length ≤ 4095
unfolding header_of
payload_short bytes small = omega (arith, small 3)

pub encoding_is : (bytes part payload : List ℕ) (header : Header) (n : ℕ) → header ≡ header_of bytes → n ≡ header_length header → part ≡ take n (drop 0 bytes)
    → payload ≡ payload_in header bytes → exchange_bytes part payload ≡ encoding bytes
unfolding encoding
encoding_is bytes part payload header n e f g h = rw (g, h, f, e)
