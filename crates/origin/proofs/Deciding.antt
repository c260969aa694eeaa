-- What origination answers, test by test, and what follows where it answers 0.
use Prim.Native.Nat.{ℕ, zero, suc, ◌≤◌, ◌<◌}
use native.Mathlib.Omega.{arith}
use mathlib.Core.Bool.{Bool, true, false, ◌&&◌}
use mathlib.Core.List.{List}
use mathlib.Core.Path.{◌≡◌, refl, ◌∙◌}
use lib.Dec.{eqb}
use lib.ListN.{length}
use borrow.Author.Tests.{lt-ltb, le-ltb, ltb-false, ne_eqb}
use Rattle.octets.specs.Numbers.{◌gives◌, ◌or_else◌}
use Rattle.octets.specs.Octets.{over}
use Rattle.octets.proofs.Numbering.{or_else_zero, gives_zero, or_else_first, or_else_later}
use Rattle.pdu.specs.declared.Destination.{Destination}
use Rattle.pdu.specs.declared.Destination.TheVariants.{Everyone, Address}
use Rattle.pdu.specs.declared.Written.{Written}
use Rattle.pdu.specs.Sizes.{destination_flag, pdu_length}
use Rattle.editions.specs.Editions.{known}
use Rattle.origin.specs.declared.FreshSettings.{FreshSettings}
use Rattle.origin.specs.Origination.{fresh_header, fresh, settings_fault, origination_number, originated, originated_output}

-- the room that the PDU takes
abbrev pub enough : FreshSettings → List ℕ → ℕ
enough settings payload = pdu_length (fresh_header settings (length payload))

-- a test that failed though its first part holds
addressed_from : (reliable : Bool) (flag : ℕ) → (reliable && eqb flag 0) ≡ false → reliable ≡ true → 0 < flag
addressed_from true zero e h = let z : ◌≡◌ {A = ℕ} 0 1 = cc in absurd (omega arith)
addressed_from true (suc n) e h = omega arith
addressed_from false flag e h = let z : ◌≡◌ {A = ℕ} 0 1 = cc in absurd (omega arith)

flag_one : (destination : Destination) → 0 < destination_flag destination → destination_flag destination ≡ 1
flag_one Everyone h = absurd (omega arith)
flag_one (Address address) h = refl

-- the tests one by one: each refusal where those above it do not hold
module _ (settings : FreshSettings) (payload : List ℕ) where
  pub edition_refused : known settings.edition ≡ false → 17 ≡ settings_fault settings payload
  unfolding settings_fault ◌gives◌ ◌or_else◌
  edition_refused e = simp e

  module _ (named : known settings.edition ≡ true) where
    pub hop_refused : 7 < settings.hop_limit → 10 ≡ settings_fault settings payload
    unfolding settings_fault ◌gives◌ ◌or_else◌
    hop_refused h = simp (named, lt-ltb _ _ h)

    module _ (hop : settings.hop_limit ≤ 7) where
      pub port_refused : 15 < settings.port → 11 ≡ settings_fault settings payload
      unfolding settings_fault ◌gives◌ ◌or_else◌
      port_refused h = simp (named, le-ltb _ _ hop, lt-ltb _ _ h)

      module _ (port : settings.port ≤ 15) where
        pub payload_refused : 4095 < length payload → 12 ≡ settings_fault settings payload
        unfolding settings_fault ◌gives◌ ◌or_else◌
        payload_refused h = simp (named, le-ltb _ _ hop, le-ltb _ _ port, lt-ltb _ _ h)

        module _ (short : length payload ≤ 4095) where
          pub unaddressed_refused : true ≡ (settings.reliable && eqb (destination_flag settings.destination) 0)
              → 13 ≡ settings_fault settings payload
          unfolding settings_fault ◌gives◌ ◌or_else◌
          unaddressed_refused e = simp (named, le-ltb _ _ hop, le-ltb _ _ port, le-ltb _ _ short, ← e)

          module _ (addressed : false ≡ (settings.reliable && eqb (destination_flag settings.destination) 0)) where
            pub unmarked_refused : true ≡ (settings.encrypted && eqb settings.edition 11) → 16 ≡ settings_fault settings payload
            unfolding settings_fault ◌gives◌ ◌or_else◌
            unmarked_refused e = simp (named, le-ltb _ _ hop, le-ltb _ _ port, le-ltb _ _ short, ← addressed, ← e)

            pub none_refused : false ≡ (settings.encrypted && eqb settings.edition 11) → 0 ≡ settings_fault settings payload
            unfolding settings_fault ◌gives◌ ◌or_else◌
            none_refused e = simp (named, le-ltb _ _ hop, le-ltb _ _ port, le-ltb _ _ short, ← addressed, ← e)

-- settings and a payload without fault
pub record Settled (settings : FreshSettings) (payload : List ℕ) : Type 0 where
  pub hop : settings.hop_limit ≤ 7
  pub port : settings.port ≤ 15
  pub payload_limit : length payload ≤ 4095
  pub addressed : settings.reliable ≡ true → destination_flag settings.destination ≡ 1

pub settled : (settings : FreshSettings) (payload : List ℕ) → settings_fault settings payload ≡ 0 → Settled settings payload
unfolding settings_fault
settled settings payload e =
    let t0 = or_else_zero _ _ e in
    let t1 = or_else_zero _ _ t0.1 in
    let t2 = or_else_zero _ _ t1.1 in
    let t3 = or_else_zero _ _ t2.1 in
    let t4 = or_else_zero _ _ t3.1 in
    record {
      hop = ltb-false _ _ (gives_zero _ 10 (omega arith) t1.0);
      port = ltb-false _ _ (gives_zero _ 11 (omega arith) t2.0);
      payload_limit = ltb-false _ _ (gives_zero _ 12 (omega arith) t3.0);
      addressed =
          λ reliable. flag_one settings.destination (addressed_from settings.reliable _ (gives_zero _ 13 (omega arith) t4.0) reliable);
    }

-- what origination takes: that, and an output with room for it
pub record Accepted (settings : FreshSettings) (payload : List ℕ) (room : ℕ) : Type 0 where
  pub hop : settings.hop_limit ≤ 7
  pub port : settings.port ≤ 15
  pub payload_limit : length payload ≤ 4095
  pub addressed : settings.reliable ≡ true → destination_flag settings.destination ≡ 1
  pub fits : pdu_length (fresh_header settings (length payload)) ≤ room

module _ (settings : FreshSettings) (payload : List ℕ) (room : ℕ) where
  pub accepted : origination_number settings payload room ≡ 0 → Accepted settings payload room
  unfolding origination_number
  accepted e =
      let t = or_else_zero _ _ e in
      let s = settled settings payload t.0 in
      record {
        hop = s.hop;
        port = s.port;
        payload_limit = s.payload_limit;
        addressed = s.addressed;
        fits = ltb-false _ _ (gives_zero _ 14 (omega arith) t.1);
      }

  pub refused_early : (number : ℕ) → number ≡ settings_fault settings payload → 0 < number → origination_number settings payload room ≡ number
  unfolding origination_number
  refused_early number e h = rw (← e) (or_else_first number _ (λ z. omega arith))

  pub refused_room : settings_fault settings payload ≡ 0 → room < enough settings payload → origination_number settings payload room ≡ 14
  unfolding origination_number ◌gives◌
  refused_room e h = or_else_later _ _ e ∙ simp (lt-ltb _ _ h)

  pub not_refused : settings_fault settings payload ≡ 0 → enough settings payload ≤ room → origination_number settings payload room ≡ 0
  unfolding origination_number ◌gives◌
  not_refused e h = or_else_later _ _ e ∙ simp (le-ltb _ _ h)

-- the answer and the output with a refusal, and without
module _ (settings : FreshSettings) (payload output : List ℕ) where
  pub refused : (number : ℕ) (answer : Written) → answer ≡ record { number = number; length = 0 }
      → origination_number settings payload (length output) ≡ number → 0 < number
      → (answer ≡ originated settings payload (length output)) × (output ≡ originated_output settings payload output)
  unfolding originated originated_output
  refused number answer is e h = let n : eqb number 0 ≡ false = ne_eqb number 0 (λ (z : number ≡ 0). omega arith) in rw (is, e, n) (refl, refl)

  pub done : (long : ℕ) (now : List ℕ) → origination_number settings payload (length output) ≡ 0 → long ≡ enough settings payload
      → now ≡ over (fresh settings payload) output
      → (◌≡◌ {A = Written} (record { number = 0; length = long }) (originated settings payload (length output)))
      × (now ≡ originated_output settings payload output)
  unfolding originated originated_output
  done long now e el en = rw (e, el, en) (refl, refl)
