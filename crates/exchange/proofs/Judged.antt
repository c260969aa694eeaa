-- An exchange judged step by step: what reading answers where each test leads.
use Prim.Native.Nat.{ℕ, ◌-◌, ◌≤◌}
use native.Mathlib.Omega.{arith}
use mathlib.Core.Bool.{true, false, not}
use mathlib.Core.List.{List}
use mathlib.Core.Path.{◌≡◌, sym, ◌∙◌}
use lib.ListN.{length, take, drop}
use borrow.Author.Tests.{eq-eqb, ne_eqb}
use Rattle.octets.specs.Octets.{at}
use Rattle.octets.proofs.Numbering.{or_else_first, or_else_later, gives_here, gives_later}
use Rattle.std.specs.Prelude.{Some, None}
use Rattle.elements.specs.declared.Head.{Head}
use Rattle.elements.specs.Elements.{type_at, length_at, value_place, element_end, value_at, elements_in, of_type, run_fault}
use Rattle.elements.specs.Finding.{head_at, only_one}
use Rattle.elements.proofs.Numbers.{head_type, head_value, head_end, head_length}
use Rattle.elements.proofs.Runs.{found_below, once_is, once_not}
use Rattle.exchange.specs.declared.Exchange.{Exchange}
use Rattle.split_pdu.specs.SplitPdu.{joined_number}
use Rattle.exchange.specs.Exchange.{held, is_exchange, header_element, payload_element, header_part, payload_part}
use Rattle.exchange.specs.Exchange.{exchange_number, refused_by, shown_at, exchange_answer, exchange_of}

module _ (number : ℕ) (bytes : List ℕ) (header payload : ℕ) where
  pub answer_refused : (number ≡ 0 → ⊥) → refused_by number ≡ exchange_answer number bytes header payload
  unfolding exchange_answer
  answer_refused n = rw (ne_eqb number 0 n)

  pub answer_shown : number ≡ 0 → shown_at bytes header payload ≡ exchange_answer number bytes header payload
  unfolding exchange_answer
  answer_shown z = rw (eq-eqb number 0 z)

module _ (bytes : List ℕ) (number : ℕ) (e : number ≡ run_fault 4 bytes 0 (length bytes)) where
  pub run_refused : (number ≡ 0 → ⊥) → refused_by number ≡ exchange_of bytes
  unfolding exchange_of exchange_number
  run_refused n =
      let is : exchange_number bytes ≡ number = rw (← e) (or_else_first number _ n) in
      rw is (answer_refused number bytes (header_element bytes) (payload_element bytes) n)

  module _ (z : number ≡ 0) where
    number_not : is_exchange bytes ≡ false → exchange_number bytes ≡ 59
    unfolding exchange_number
    number_not out = rw (← e) (or_else_later number _ z ∙ gives_here (not (is_exchange bytes)) 59 _ (omega arith) (rw out))

    pub number_joined : is_exchange bytes ≡ true → exchange_number bytes ≡ joined_number (header_part bytes) (payload_part bytes)
    unfolding exchange_number
    number_joined good = rw (← e) (or_else_later number _ z ∙ gives_later (not (is_exchange bytes)) 59 _ (rw good))

    not_exchange : is_exchange bytes ≡ false → refused_by 59 ≡ exchange_of bytes
    unfolding exchange_of
    not_exchange out = rw (number_not out) (answer_refused 59 bytes (header_element bytes) (payload_element bytes) (λ q. omega arith))

    module _ (outer : Head) (o : outer ≡ head_at bytes 0) where
      outer_type : outer.type_number ≡ type_at bytes 0
      outer_type = head_type bytes 0 outer (omega arith) o

      outer_end : outer.end ≡ element_end bytes 0
      outer_end = head_end bytes 0 outer (omega arith) o

      pub other_type : (outer.type_number ≡ 20 → ⊥) → refused_by 59 ≡ exchange_of bytes
      unfolding is_exchange
      other_type n = not_exchange (rw (ne_eqb (type_at bytes 0) 20 (λ q. n (outer_type ∙ q))))

      module _ (is : outer.type_number ≡ 20) where
        pub other_end : (outer.end ≡ length bytes → ⊥) → refused_by 59 ≡ exchange_of bytes
        unfolding is_exchange
        other_end n =
            not_exchange (rw (eq-eqb (type_at bytes 0) 20 (sym outer_type ∙ is), ne_eqb (element_end bytes 0) (length bytes) (λ q. n (outer_end ∙ q))))

-- an element of type 20 that is all there is, and where what it holds begins
pub record Opened (bytes : List ℕ) (inside : ℕ) : Type 0 where
  pub sound : 0 ≡ run_fault 4 bytes 0 (length bytes)
  pub outer : type_at bytes 0 ≡ 20
  pub all : element_end bytes 0 ≡ length bytes
  pub begins : inside ≡ value_place bytes 0

pub opened : (bytes : List ℕ) (number : ℕ) → number ≡ run_fault 4 bytes 0 (length bytes) → number ≡ 0
    → (outer : Head) → outer ≡ head_at bytes 0 → outer.type_number ≡ 20 → outer.end ≡ length bytes → Opened bytes outer.value_place
opened bytes number e z outer o is all =
    record {
      sound = sym z ∙ e;
      outer = sym (head_type bytes 0 outer (omega arith) o) ∙ is;
      all = sym (head_end bytes 0 outer (omega arith) o) ∙ all;
      begins = head_value bytes 0 outer (omega arith) o;
    }

module _ (bytes : List ℕ) (inside : ℕ) (found : Opened bytes inside) where
  -- the elements of a type in it
  abbrev among : ℕ → List ℕ
  among type = of_type type bytes (elements_in bytes inside (length bytes))

  among_held : (type : ℕ) → among type ≡ held type bytes
  unfolding held
  among_held type = rw (found.begins, ← found.all)

  once_held : (type place : ℕ) → only_one (among type) ≡ Some place → (length (held type bytes) ≡ 1) × (at (held type bytes) 0 ≡ place)
  once_held type place o = once_is (held type bytes) place (rw (among_held type) at o)

  not_held : (type : ℕ) → only_one (among type) ≡ None → length (held type bytes) ≡ 1 → ⊥
  not_held type o = once_not (held type bytes) (rw (among_held type) at o)

  pub place_before : (type place : ℕ) → only_one (of_type type bytes (elements_in bytes inside (length bytes))) ≡ Some place → place ≤ length bytes
  place_before type place o =
      let one = once_is (among type) place o in
      let below = found_below bytes (length bytes) type inside (omega (arith, one.0)) in
      omega (arith, below, one.1)

  pub no_header : only_one (of_type 1024 bytes (elements_in bytes inside (length bytes))) ≡ None → refused_by 59 ≡ exchange_of bytes
  unfolding is_exchange
  no_header o =
      let type = eq-eqb (type_at bytes 0) 20 found.outer in
      let end = eq-eqb (element_end bytes 0) (length bytes) found.all in
      not_exchange bytes 0 found.sound (λ i. 0) (rw (type, end, ne_eqb (length (held 1024 bytes)) 1 (not_held 1024 o)))

  module _ (header : ℕ) (h : only_one (of_type 1024 bytes (elements_in bytes inside (length bytes))) ≡ Some header) where
    pub no_payload : only_one (of_type 1025 bytes (elements_in bytes inside (length bytes))) ≡ None → refused_by 59 ≡ exchange_of bytes
    unfolding is_exchange
    no_payload o =
        let type = eq-eqb (type_at bytes 0) 20 found.outer in
        let end = eq-eqb (element_end bytes 0) (length bytes) found.all in
        let one = eq-eqb (length (held 1024 bytes)) 1 (once_held 1024 header h).0 in
        not_exchange bytes 0 found.sound (λ i. 0) (rw (type, end, one, ne_eqb (length (held 1025 bytes)) 1 (not_held 1025 o)))

    module _ (payload : ℕ) (p : only_one (of_type 1025 bytes (elements_in bytes inside (length bytes))) ≡ Some payload) where
      is_one : is_exchange bytes ≡ true
      unfolding is_exchange
      is_one =
          let type = eq-eqb (type_at bytes 0) 20 found.outer in
          let end = eq-eqb (element_end bytes 0) (length bytes) found.all in
          let one = eq-eqb (length (held 1024 bytes)) 1 (once_held 1024 header h).0 in
          rw (type, end, one, eq-eqb (length (held 1025 bytes)) 1 (once_held 1025 payload p).0)

      pub all_shown : exchange_answer (joined_number (value_at bytes header) (value_at bytes payload)) bytes header payload ≡ exchange_of bytes
      unfolding exchange_of
      all_shown = rw (number_joined bytes 0 found.sound (λ i. 0) is_one, (once_held 1024 header h).1, (once_held 1025 payload p).1)

-- the two parts, once their elements are found
module _ (bytes : List ℕ) (header payload number : ℕ) (first second : Head) (within : (header ≤ length bytes) × (payload ≤ length bytes))
    (f : first ≡ head_at bytes header) (s : second ≡ head_at bytes payload) (a b : List ℕ)
    (ea : a ≡ take (first.end - first.value_place) (drop first.value_place bytes))
    (eb : b ≡ take (second.end - second.value_place) (drop second.value_place bytes)) (e : number ≡ joined_number a b) where
  header_place_lem : first.value_place ≡ value_place bytes header
  header_place_lem = head_value bytes header first within.0 f

  header_length_lem : first.end - first.value_place ≡ length_at bytes header
  header_length_lem = head_length bytes header first within.0 f

  payload_place_lem : second.value_place ≡ value_place bytes payload
  payload_place_lem = head_value bytes payload second within.1 s

  payload_length_lem : second.end - second.value_place ≡ length_at bytes payload
  payload_length_lem = head_length bytes payload second within.1 s

  number_is : number ≡ joined_number (value_at bytes header) (value_at bytes payload)
  number_is = rw (e, ea, eb, header_length_lem, header_place_lem, payload_length_lem, payload_place_lem)

  pub parts_refused : (number ≡ 0 → ⊥)
      → refused_by number ≡ exchange_answer (joined_number (value_at bytes header) (value_at bytes payload)) bytes header payload
  parts_refused n = rw (← number_is) (answer_refused number bytes header payload n)

  pub parts_shown : number ≡ 0
      → ◌≡◌ {A = Exchange}
      (record {
        number = 0;
        header_place = first.value_place;
        header_length = first.end - first.value_place;
        payload_place = second.value_place;
        payload_length = second.end - second.value_place;
      })
      (exchange_answer (joined_number (value_at bytes header) (value_at bytes payload)) bytes header payload)
  parts_shown z =
      rw (← number_is, header_length_lem, header_place_lem, payload_length_lem, payload_place_lem) (answer_shown number bytes header payload z)
