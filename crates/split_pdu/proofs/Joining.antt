-- Header and payload joined, read without being put together: the header's fields stand in the first 10 bytes.
use Prim.Native.Nat.{ℕ, ◌+◌, ◌/◌, ◌%◌, ◌<◌}
use native.Mathlib.Omega.{arith}
use mathlib.Core.Bool.{true, false, not}
use mathlib.Core.List.{List, ◌++◌}
use mathlib.Core.Path.{◌≡◌, refl, sym, ◌∙◌}
use lib.ListN.{length, length-append, get_or-append}
use lib.Seq.{get_or-append-add}
use borrow.Author.Tests.{eq-eqb, ne_eqb}
use Rattle.std.specs.Prelude.{Ok, Err}
use Rattle.octets.specs.Numbers.{◌gives◌}
use Rattle.octets.specs.Octets.{at}
use Rattle.octets.proofs.Numbering.{or_else_first, or_else_later, gives_last, gives_none}
use Rattle.pdu.specs.Header.{path_bit, path_count_place, path_count_in, header_of}
use Rattle.pdu.specs.Sizes.{header_length, pdu_length}
use Rattle.pdu.specs.declared.Refusal.{Refusal}
use Rattle.pdu.specs.Reading.{read_of, refusal_number}
use Rattle.pdu.proofs.Number.{refusal_within}
use Rattle.split_pdu.specs.SplitPdu.{is_split, joined_number}

module _ (header payload : List ℕ) where
  pub in_header : (i : ℕ) → i < length header → at header i ≡ at (header ++ payload) i
  in_header i h = sym (get_or-append header payload 0 i h)

  pub in_payload : (i n : ℕ) → i ≡ length header + n → at payload n ≡ at (header ++ payload) i
  in_payload i n e = rw e (sym (get_or-append-add header payload n 0))

  pub total : length header + length payload ≡ length (header ++ payload)
  total = sym (length-append header payload)

module _ (bytes : List ℕ) (byte0 : ℕ) (b : byte0 ≡ at bytes 0) where
  pub count_there : (place count : ℕ) → byte0 / 2 % 2 ≡ 1 → place ≡ path_count_place byte0 → count ≡ at bytes place → count ≡ path_count_in bytes
  count_there place count h e f = let set : path_bit (at bytes 0) ≡ 1 = rw (← b) h in rw (eq-eqb (path_bit (at bytes 0)) 1 set, f, e, b)

  pub no_count : (byte0 / 2 % 2 ≡ 1 → ⊥) → 0 ≡ path_count_in bytes
  no_count h = let clear : path_bit (at bytes 0) ≡ 1 → ⊥ = rw (← b) h in rw (ne_eqb (path_bit (at bytes 0)) 1 clear)

-- then 63
module _ (header payload : List ℕ) where
  pub joined_refused : (refusal : Refusal) → read_of (header ++ payload) ≡ Err refusal → refusal_number refusal ≡ joined_number header payload
  unfolding joined_number
  joined_refused refusal read =
      rw read (sym (or_else_first (refusal_number refusal) (not (is_split header payload) gives 63) (λ none. omega (arith, (refusal_within refusal).0))))

  module _ (head all : ℕ) (read : read_of (header ++ payload) ≡ Ok (header_of (header ++ payload)))
      (l : head ≡ header_length (header_of (header ++ payload))) (m : all ≡ pdu_length (header_of (header ++ payload))) where
    after_reading : joined_number header payload ≡ (not (is_split header payload) gives 63)
    unfolding joined_number
    after_reading = rw read (or_else_later 0 (not (is_split header payload) gives 63) refl)

    pub split_elsewhere : (head ≡ length header → ⊥) → 63 ≡ joined_number header payload
    split_elsewhere n =
        let other : header_length (header_of (header ++ payload)) ≡ length header → ⊥ = rw (← l) n in
        let test : not (is_split header payload) ≡ true = rw (ne_eqb (header_length (header_of (header ++ payload))) (length header) other) in
        sym (after_reading ∙ gives_last (not (is_split header payload)) 63 test)

    pub bytes_after : head ≡ length header → (all ≡ length header + length payload → ⊥) → 63 ≡ joined_number header payload
    bytes_after h n =
        let long = length-append header payload in
        let other : pdu_length (header_of (header ++ payload)) ≡ length (header ++ payload) → ⊥ = λ q. n (m ∙ q ∙ long) in
        let test : not (is_split header payload) ≡ true =
        rw (
          eq-eqb (header_length (header_of (header ++ payload))) (length header) (sym l ∙ h),
          ne_eqb (pdu_length (header_of (header ++ payload)))
              (length (header ++ payload)) other,
        ) in
        sym (after_reading ∙ gives_last (not (is_split header payload)) 63 test)

    pub is_joined : head ≡ length header → all ≡ length header + length payload → 0 ≡ joined_number header payload
    is_joined h n =
        let long = length-append header payload in
        let test : not (is_split header payload) ≡ false =
        rw (
          eq-eqb (header_length (header_of (header ++ payload))) (length header) (sym l ∙ h),
          eq-eqb (pdu_length (header_of (header ++ payload)))
              (length (header ++ payload)) (sym m ∙ n ∙ sym long),
        ) in
        sym (after_reading ∙ gives_none (not (is_split header payload)) 63 test)
