-- What reading and writing answer, in the caller's terms.
use Prim.Native.Nat.{ℕ, ◌+◌, ◌≤◌}
use mathlib.Core.Bool.{Bool, true, false, not, cond}
use mathlib.Core.List.{List, ◌++◌}
use mathlib.Core.Path.{◌≡◌, refl, sym, ◌∙◌}
use lib.Dec.{eqb, ltb}
use lib.ListN.{length, take, drop}
use borrow.Author.Tests.{eqb-true, eq-eqb, ne_eqb}
use Rattle.octets.specs.Numbers.{◌gives◌, ◌or_else◌}
use Rattle.octets.specs.Octets.{over}
use Rattle.pdu.specs.Reading.{read_of, reading_number}
use Rattle.elements.specs.Elements.{level_limit, run_fault}
use Rattle.split_pdu.specs.SplitPdu.{is_split, joined_number}
use Rattle.exchange.specs.Exchange.{is_exchange, header_element, payload_element, header_part, payload_part}
use Rattle.exchange.specs.Exchange.{exchange_number, refused_by, shown_at, exchange_answer, exchange_of}
use Rattle.exchange.specs.Encoding.{encoding, write_number, written_exchange, exchange_output}
use Rattle.exchange.proofs.Judged.{answer_shown}
use Rattle.exchange.proofs.Laws.{header_inside, payload_inside}

number_of : (number : ℕ) (bytes : List ℕ) (header payload : ℕ) → (exchange_answer number bytes header payload).number ≡ number
unfolding exchange_answer
number_of number bytes header payload = go (eqb number 0) refl
  where
    go : (t : Bool) → eqb number 0 ≡ t → (cond t (shown_at bytes header payload) (refused_by number)).number ≡ number
    go true e = sym (eqb-true number 0 e)
    go false e = refl

module _ (bytes : List ℕ) where
  pub number_is : (exchange_of bytes).number ≡ exchange_number bytes
  unfolding exchange_of
  number_is = number_of (exchange_number bytes) bytes (header_element bytes) (payload_element bytes)

  -- the numbers in their order
  pub in_order : (exchange_of bytes).number
      ≡ (run_fault level_limit bytes 0 (length bytes)
      or_else (not (is_exchange bytes) gives 59)
      or_else reading_number (read_of (header_part bytes ++ payload_part bytes))
      or_else (not (is_split (header_part bytes) (payload_part bytes)) gives 63))
  unfolding exchange_number joined_number
  in_order = number_is

  pub write_in_order : (room : ℕ) → (written_exchange bytes room).number ≡ (reading_number (read_of bytes) or_else (ltb room (length (encoding bytes)) gives 14))
  unfolding written_exchange write_number
  write_in_order room = refl

  pub number_shown : (exchange_of bytes).number ≡ 0 → exchange_number bytes ≡ 0
  number_shown z = sym number_is ∙ z

  pub zero_shown : exchange_number bytes ≡ 0 → (exchange_of bytes).number ≡ 0
  zero_shown z = number_is ∙ z

  shown_is : exchange_number bytes ≡ 0 → exchange_of bytes ≡ shown_at bytes (header_element bytes) (payload_element bytes)
  unfolding exchange_of
  shown_is z = sym (answer_shown (exchange_number bytes) bytes (header_element bytes) (payload_element bytes) z)

  pub parts_shown : exchange_number bytes ≡ 0
      → (take (exchange_of bytes).header_length (drop (exchange_of bytes).header_place bytes) ≡ header_part bytes)
      × (take (exchange_of bytes).payload_length (drop (exchange_of bytes).payload_place bytes) ≡ payload_part bytes)
      × ((exchange_of bytes).header_place + (exchange_of bytes).header_length ≤ length bytes)
      × ((exchange_of bytes).payload_place + (exchange_of bytes).payload_length ≤ length bytes)
  parts_shown z = rw (shown_is z) (refl, refl, header_inside bytes z, payload_inside bytes z)

  pub written_untouched : (output : List ℕ) → ((written_exchange bytes (length output)).number ≡ 0 → ⊥)
      → ((written_exchange bytes (length output)).length ≡ 0) × (exchange_output bytes output ≡ output)
  unfolding written_exchange exchange_output
  written_untouched output n = rw (ne_eqb (write_number bytes (length output)) 0 n) (refl, refl)

  pub written_whole : (output : List ℕ) → (written_exchange bytes (length output)).number ≡ 0
      → ((written_exchange bytes (length output)).length ≡ length (encoding bytes)) × (exchange_output bytes output ≡ over (encoding bytes) output)
  unfolding written_exchange exchange_output
  written_whole output z = rw (eq-eqb (write_number bytes (length output)) 0 z) (refl, refl)
