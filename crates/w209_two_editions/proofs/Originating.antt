-- Origination under an edition: what its numbers say of the settings, and what a fresh PDU shows.
use Prim.Native.Nat.{ℕ, ◌+◌, ◌*◌, ◌≤◌}
use native.Mathlib.Omega.{arith}
use mathlib.Core.Bool.{Bool, true, false, not, ◌&&◌}
use mathlib.Core.List.{List, ◌∷◌, ◌++◌}
use mathlib.Core.Path.{◌≡◌, refl, ap, sym, ◌∙◌}
use lib.Dec.{eqb, ltb}
use lib.ListN.{length, take, drop}
use borrow.Author.Tests.{ltb-false, eqb-true, not-true}
use Rattle.std.specs.Prelude.{Ok}
use Rattle.octets.specs.Numbers.{◌gives◌, ◌or_else◌}
use Rattle.octets.specs.Octets.{at}
use Rattle.octets.proofs.Tests.{both}
use Rattle.pdu.specs.Sizes.{destination_flag}
use Rattle.pdu.proofs.Inversion.{shown}
use Rattle.writing.specs.Writing.{header_bytes, encode}
use Rattle.editions.specs.declared.Bits.{Bits}
use Rattle.editions.specs.declared.Bits.TheVariants.{Reserved, Flagged}
use Rattle.editions.specs.Editions.{known, shown_with, showing, read_under}
use Rattle.editions.proofs.Showing.{known_shows, bits_of, bits_of_wire}
use Rattle.origin.specs.declared.FreshSettings.{FreshSettings}
use Rattle.origin.specs.Origination.{fresh_header, fresh, settings_fault, origination_number, originated, originated_output}
use Rattle.origin.proofs.Deciding.{edition_refused, unmarked_refused, refused_early, refused}
use Rattle.origin.proofs.ReadBack.{fresh_back}
use Rattle.w209_two_editions.specs.TwoEditions.{set_to}
use Rattle.w209_two_editions.proofs.Reading.{read_12}

-- origination's chain: what its numbers say of its tests
record Tests (unknown hop port long unaddressed marked : Bool) (number : ℕ) : Type 0 where
  seventeen : number ≡ 17 → unknown ≡ true
  sixteen : number ≡ 16 → (hop ≡ false) × (port ≡ false) × (long ≡ false) × (unaddressed ≡ false) × (marked ≡ true)
  none : number ≡ 0 → marked ≡ false

tests : (t0 t1 t2 t3 t4 t5 t6 : Bool)
    → Tests t0 t1 t2 t3 t4 t5
    ((t0 gives 17 or_else t1 gives 10 or_else t2 gives 11 or_else t3 gives 12 or_else t4 gives 13 or_else t5 gives 16) or_else t6 gives 14)
unfolding ◌gives◌ ◌or_else◌
tests true t1 t2 t3 t4 t5 t6 = record { seventeen = λ e. refl; sixteen = λ e. absurd (omega arith); none = λ e. absurd (omega arith) }
tests false true t2 t3 t4 t5 t6 =
    record { seventeen = λ e. absurd (omega arith); sixteen = λ e. absurd (omega arith); none = λ e. absurd (omega arith) }
tests false false true t3 t4 t5 t6 =
    record { seventeen = λ e. absurd (omega arith); sixteen = λ e. absurd (omega arith); none = λ e. absurd (omega arith) }
tests false false false true t4 t5 t6 =
    record { seventeen = λ e. absurd (omega arith); sixteen = λ e. absurd (omega arith); none = λ e. absurd (omega arith) }
tests false false false false true t5 t6 =
    record { seventeen = λ e. absurd (omega arith); sixteen = λ e. absurd (omega arith); none = λ e. absurd (omega arith) }
tests false false false false false true t6 =
    record { seventeen = λ e. absurd (omega arith); sixteen = λ e. (refl, refl, refl, refl, refl); none = λ e. absurd (omega arith) }
tests false false false false false false true =
    record { seventeen = λ e. absurd (omega arith); sixteen = λ e. absurd (omega arith); none = λ e. refl }
tests false false false false false false false =
    record { seventeen = λ e. absurd (omega arith); sixteen = λ e. absurd (omega arith); none = λ e. refl }

no_bits : (settings : FreshSettings) (long : ℕ) → settings.encrypted ≡ false → bits_of 11 (fresh_header settings long) ≡ Reserved 0
unfolding fresh_header
no_bits settings long e = rw e refl

module _ (settings : FreshSettings) (payload : List ℕ) (room : ℕ) where
  asked_tests : Tests (not (known settings.edition)) (ltb 7 settings.hop_limit) (ltb 15 settings.port) (ltb 4095 (length payload))
      (settings.reliable && eqb (destination_flag settings.destination) 0) (settings.encrypted && eqb settings.edition 11)
      (origination_number settings payload room)
  unfolding origination_number settings_fault
  asked_tests = tests _ _ _ _ _ _ _

  pub originated_17_only : origination_number settings payload room ≡ 17 → known settings.edition ≡ false
  originated_17_only e = not-true _ (asked_tests.seventeen e)

  pub originated_16_only : origination_number settings payload room ≡ 16
      → (settings.edition ≡ 11) × (settings.encrypted ≡ true) × (settings.hop_limit ≤ 7) × (settings.port ≤ 15) × (length payload ≤ 4095)
      × ((settings.reliable && eqb (destination_flag settings.destination) 0) ≡ false)
  originated_16_only e =
      let (hop, port, long, addressed, marked) = asked_tests.sixteen e in
      let (flag, first) = both _ _ marked in
      (eqb-true settings.edition 11 first, flag, ltb-false _ _ hop, ltb-false _ _ port, ltb-false _ _ long, addressed)

  unmarked_11 : origination_number settings payload room ≡ 0 → settings.edition ≡ 11 → settings.encrypted ≡ false
  unmarked_11 done first = go settings.encrypted (rw first at (asked_tests.none done))
    where
      go : (flag : Bool) → (flag && eqb 11 11) ≡ false → flag ≡ false
      go true e = e
      go false e = refl

  pub fresh_12 : (rest : List ℕ) → origination_number settings payload room ≡ 0
      → read_under 12 (fresh settings payload ++ rest) ≡ Ok (shown_with (Flagged settings.encrypted 0) (fresh_header settings (length payload)))
  unfolding fresh_header
  fresh_12 rest done = read_12 (fresh settings payload ++ rest) (fresh_header settings (length payload)) (fresh_back settings payload room done rest).reads

  pub fresh_11 : (rest : List ℕ) → origination_number settings payload room ≡ 0 → settings.edition ≡ 11
      → read_under 11 (fresh settings payload ++ rest) ≡ Ok (shown_with (Reserved 0) (fresh_header settings (length payload)))
  fresh_11 rest done first =
      let bytes = fresh settings payload ++ rest in
      let header = fresh_header settings (length payload) in
      let reads = (fresh_back settings payload room done rest).reads in
      known_shows 11 bytes refl ∙ ap (showing 11 bytes) reads
      ∙ ap (λ (bits : Bits). Ok (shown_with bits header))
      (bits_of_wire 11 bytes ∙ ap (bits_of 11) (sym (shown bytes header reads).is) ∙ no_bits settings (length payload) (unmarked_11 done first))

module _ (settings : FreshSettings) (payload output : List ℕ) where
  pub originated_17 : known settings.edition ≡ false
      → (originated settings payload (length output) ≡ record { number = 17; length = 0 }) × (originated_output settings payload output ≡ output)
  originated_17 e =
      let early = refused_early settings payload (length output) 17 (edition_refused settings payload e) (omega arith) in
      let r = refused settings payload output 17 (record { number = 17; length = 0 }) refl early (omega arith) in
      (sym r.0, sym r.1)

  pub originated_16 : settings.edition ≡ 11 → settings.encrypted ≡ true → settings.hop_limit ≤ 7 → settings.port ≤ 15 → length payload ≤ 4095
      → (settings.reliable && eqb (destination_flag settings.destination) 0) ≡ false
      → (originated settings payload (length output) ≡ record { number = 16; length = 0 }) × (originated_output settings payload output ≡ output)
  originated_16 first flag hop port short addressed =
      let named : known settings.edition ≡ true = rw first refl in
      let asks : true ≡ (settings.encrypted && eqb settings.edition 11) = rw (flag, first) refl in
      let number = unmarked_refused settings payload named hop port short (sym addressed) asks in
      let early = refused_early settings payload (length output) 16 number (omega arith) in
      let r = refused settings payload output 16 (record { number = 16; length = 0 }) refl early (omega arith) in
      (sym r.0, sym r.1)

  pub originated_same : (edition other : ℕ) → known edition ≡ true → known other ≡ true
      → (originated (set_to edition false settings) payload (length output) ≡ originated (set_to other false settings) payload (length output))
      × (originated_output (set_to edition false settings) payload output ≡ originated_output (set_to other false settings) payload output)
  unfolding originated originated_output origination_number settings_fault fresh fresh_header
  originated_same edition other one two = rw (one, two) (refl, refl)

pub flag_alone : (settings : FreshSettings) (payload : List ℕ) (room : ℕ) → let plain = fresh (set_to 12 false settings) payload in
    (originated (set_to 12 true settings) payload room ≡ originated (set_to 12 false settings) payload room)
    × (fresh (set_to 12 true settings) payload ≡ take 1 plain ++ (at plain 1 + 8) ∷ drop 2 plain)
unfolding originated origination_number settings_fault fresh fresh_header encode header_bytes
flag_alone settings payload room =
    let plain = fresh (set_to 12 false settings) payload in
    let byte : settings.port * 16 + 1 * 8 + 0 * 2 + 0 ≡ (settings.port * 16 + 0 * 8 + 0 * 2 + 0) + 8 = omega arith in
    (refl, ap (λ (b : ℕ). take 1 plain ++ b ∷ drop 2 plain) byte)
