-- An element stands where it was put, in either form: its type, its length and its value are read there.
use Prim.Native.Nat.{ℕ, ◌+◌, ◌/◌, ◌%◌, ◌<◌}
use native.Mathlib.Omega.{arith}
use mathlib.Core.Bool.{Bool, true, false, cond}
use mathlib.Core.List.{List, [], ◌∷◌, ◌++◌, append_assoc}
use mathlib.Core.Path.{◌≡◌, refl, ap, sym, ◌∙◌}
use lib.Dec.{ltb}
use lib.ListN.{length, take, drop, length-append}
use lib.Seq.{get_or-append_seam, get_or-append-add, take_at, drop_at}
use borrow.Author.Tests.{ltb-true}
use Rattle.octets.specs.Octets.{at, word_at, word_bytes}
use Rattle.elements.specs.Elements.{number_at, number_size, type_at, length_at, value_place, element_end, value_at}
use Rattle.exchange.specs.Encoding.{number_bytes}
use Rattle.exchange.specs.Forms.{form_bytes, Tlv, tlv_bytes}
use Rattle.elements.proofs.Numbers.{size_short, size_long, number_short, number_long}

module _ (front tail : List ℕ) (place : ℕ) (ends : length front ≡ place) where
  first_there : (x : ℕ) (xs : List ℕ) → at (front ++ (x ∷ xs) ++ tail) place ≡ x
  first_there x xs = rw (append_assoc front (x ∷ xs) tail, ← ends) (get_or-append_seam front x (xs ++ tail) 0)

  word_there : (number : ℕ) → word_at (front ++ word_bytes number ++ tail) place ≡ number
  word_there number =
      rw (
        append_assoc front (word_bytes number) tail,
        ← ends,
        get_or-append_seam front (number / 256) (number % 256 ∷ tail) 0,
        get_or-append-add front
            (word_bytes number ++ tail) 1 0,
      )
      (omega arith)

  module _ (number : ℕ) where
    -- a number that is read from these bytes as it is, with their size
    abbrev Read : List ℕ → Type 0
    Read part = (number_at (front ++ part ++ tail) place ≡ number) × (number_size (front ++ part ++ tail) place ≡ length part)

    pub one_there : number < 128
        → (number_at (front ++ (number ∷ []) ++ tail) place ≡ number) × (number_size (front ++ (number ∷ []) ++ tail) place ≡ 1)
    one_there h =
        let bytes = front ++ (number ∷ []) ++ tail in
        let is = sym (first_there number []) in
        (sym (number_short bytes place number is h), sym (size_short bytes place number is h))

    module _ (small : number < 32768) where
      pub two_there : (number_at (front ++ word_bytes (32768 + number) ++ tail) place ≡ number)
          × (number_size (front ++ word_bytes (32768 + number) ++ tail) place ≡ 2)
      two_there =
          let word = 32768 + number in
          let bytes = front ++ word_bytes word ++ tail in
          let is = sym (first_there (word / 256) (word % 256 ∷ [])) in
          let low : word % 32768 ≡ number = omega arith in (
            sym (number_long bytes place (word / 256) is word (omega arith) (sym (word_there word))) ∙ low,
            sym (size_long bytes place (word / 256) is (omega arith)),
          )

      form_there : (long : Bool)
          → (number_at (front ++ form_bytes long number ++ tail) place ≡ number)
          × (number_size (front ++ form_bytes long number ++ tail) place ≡ length (form_bytes long number))
      unfolding form_bytes number_bytes
      form_there true = two_there
      form_there false = go (ltb number 128) refl
        where
          go : (t : Bool) → ltb number 128 ≡ t → Read (cond t (number ∷ []) (word_bytes (32768 + number)))
          go true e = one_there (ltb-true number 128 e)
          go false e = two_there

pub length_tlv : (tlv : Tlv)
    → length (tlv_bytes tlv) ≡ length (form_bytes tlv.long_type tlv.type) + length (form_bytes tlv.long_length (length tlv.value))
    + length tlv.value
unfolding tlv_bytes
length_tlv tlv = simp length-append

module _ (front tail : List ℕ) (place : ℕ) (ends : length front ≡ place) (tlv : Tlv) (t : tlv.type < 32768) (v : length tlv.value < 32768)
    (bytes : List ℕ) (is : bytes ≡ front ++ tlv_bytes tlv ++ tail) where
  abbrev kind : List ℕ
  kind = form_bytes tlv.long_type tlv.type

  abbrev size : List ℕ
  size = form_bytes tlv.long_length (length tlv.value)

  behind_type : bytes ≡ front ++ kind ++ (size ++ tlv.value ++ tail)
  unfolding tlv_bytes
  behind_type = is ∙ simp append_assoc

  behind_length : bytes ≡ (front ++ kind) ++ size ++ (tlv.value ++ tail)
  unfolding tlv_bytes
  behind_length = is ∙ simp append_assoc

  pub behind_head : bytes ≡ (front ++ form_bytes tlv.long_type tlv.type ++ form_bytes tlv.long_length (length tlv.value)) ++ tlv.value ++ tail
  unfolding tlv_bytes
  behind_head = is ∙ simp append_assoc

  pub type_there : type_at bytes place ≡ tlv.type
  type_there = rw behind_type (form_there front (size ++ tlv.value ++ tail) place ends tlv.type t tlv.long_type).0

  type_size : number_size bytes place ≡ length kind
  type_size = rw behind_type (form_there front (size ++ tlv.value ++ tail) place ends tlv.type t tlv.long_type).1

  next : length (front ++ kind) ≡ place + length kind
  next = length-append front kind ∙ omega (arith, ends)

  length_form : (number_at bytes (place + length kind) ≡ length tlv.value) × (number_size bytes (place + length kind) ≡ length size)
  length_form =
      rw behind_length (form_there (front ++ kind) (tlv.value ++ tail) (place + length kind) next (length tlv.value) v tlv.long_length)

  pub length_there : length_at bytes place ≡ length tlv.value
  length_there = rw type_size length_form.0

  pub value_place_there : value_place bytes place
      ≡ place + length (form_bytes tlv.long_type tlv.type) + length (form_bytes tlv.long_length (length tlv.value))
  unfolding value_place
  value_place_there = rw (type_size, length_form.1)

  pub end_there : element_end bytes place ≡ place + length (tlv_bytes tlv)
  unfolding element_end
  end_there = omega (arith, value_place_there, length_there, length_tlv tlv)

  pub head_long : length (front ++ form_bytes tlv.long_type tlv.type ++ form_bytes tlv.long_length (length tlv.value))
      ≡ place + length (form_bytes tlv.long_type tlv.type) + length (form_bytes tlv.long_length (length tlv.value))
  head_long = length-append (front ++ kind) size ∙ omega (arith, next)

  pub value_there : value_at bytes place ≡ tlv.value
  value_there =
      rw (length_there, value_place_there)
      (ap (λ (list : List ℕ). take (length tlv.value) (drop (place + length kind + length size) list))
      (behind_head ∙ append_assoc (front ++ kind ++ size) tlv.value tail)
      ∙ ap (take (length tlv.value)) (drop_at (front ++ kind ++ size) (tlv.value ++ tail) (place + length kind + length size) head_long)
      ∙ take_at tlv.value tail (length tlv.value) refl)
