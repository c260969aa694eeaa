-- Document 02, W-202, "accept two-byte forms of small numbers", and document 003 for an element: elements as they may arrive.
use Rattle.std.specs.Prelude.{ℕ, zero, suc, ◌+◌, ◌<◌, Bool, true, cond, List, [], ◌∷◌, ◌++◌, ◌≡◌, eqb, length}
use Rattle.octets.specs.Octets.{word_bytes}
use Rattle.elements.specs.Elements.{is_run}
use Rattle.exchange.specs.Encoding.{number_bytes}

-- a type or a length: in two bytes although one would do, or in the shorter form
unfoldable pub form_bytes : Bool → ℕ → List ℕ
form_bytes long number = cond long (word_bytes (32768 + number)) (number_bytes number)

-- a type, a length and a value; for type and length whether they stand in two bytes
pub record Tlv : Type 0 where
  pub type : ℕ
  pub value : List ℕ
  pub long_type : Bool
  pub long_length : Bool

unfoldable pub tlv_bytes : Tlv → List ℕ
tlv_bytes tlv = form_bytes tlv.long_type tlv.type ++ form_bytes tlv.long_length (length tlv.value) ++ tlv.value

-- one behind the other
unfoldable pub run_bytes : List Tlv → List ℕ
run_bytes [] = []
run_bytes (tlv ∷ tlvs) = tlv_bytes tlv ++ run_bytes tlvs

-- those of a type
unfoldable pub tlvs_of : ℕ → List Tlv → List Tlv
tlvs_of type [] = []
tlvs_of type (tlv ∷ tlvs) = cond (eqb tlv.type type) (tlv ∷ tlvs_of type tlvs) (tlvs_of type tlvs)

-- elements without a fault, none where no level is left: each type has 15 bits, and a value that is a run is that of elements without a fault, one level
-- deeper
unfoldable pub Faultless : ℕ → List Tlv → Type 0
Faultless zero [] = Unit {0}
Faultless zero (tlv ∷ tlvs) = ⊥
Faultless (suc levels) [] = Unit {0}
Faultless (suc levels) (tlv ∷ tlvs) =
    (tlv.type < 32768)
    × (is_run tlv.type ≡ true → (inner : List Tlv) × (tlv.value ≡ run_bytes inner) × Faultless levels inner)
    × Faultless (suc levels) tlvs
