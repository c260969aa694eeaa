-- What was originated reads back, whatever bytes come after it: the header asked for, an empty path, the payload.
use Prim.Native.Nat.{ℕ, ◌≤◌}
use native.Mathlib.Omega.{arith}
use mathlib.Core.Bool.{Bool, true, false, cond}
use mathlib.Core.List.{List, [], ◌++◌}
use mathlib.Core.Path.{◌≡◌, refl, sym, ◌∙◌}
use lib.ListN.{length, drop}
use Rattle.std.specs.Prelude.{Ok, Some, Result}
use Rattle.octets.specs.Numbers.{flag}
use Rattle.octets.specs.Octets.{over}
use Rattle.octets.proofs.Tests.{flag_small}
use Rattle.pdu.specs.declared.Refusal.{Refusal}
use Rattle.pdu.specs.declared.Header.{Header}
use Rattle.pdu.specs.Sizes.{pdu_length}
use Rattle.pdu.specs.Reading.{read_of}
use Rattle.pdu.specs.Parts.{path_in, payload_in, last_sender}
use Rattle.pdu.proofs.Senders.{sender_empty}
use Rattle.writing.specs.Writing.{WellFormed}
use Rattle.writing.proofs.Back.{length_encode, read_encode, path_encode, payload_encode}
use Rattle.origin.specs.declared.FreshSettings.{FreshSettings}
use Rattle.origin.specs.Origination.{fresh_header, fresh, origination_number, originated_output}
use Rattle.origin.proofs.Deciding.{Accepted, accepted}

flag_addressed : (reliable : Bool) (present : ℕ) → (reliable ≡ true → present ≡ 1) → flag reliable ≤ present
flag_addressed true present h = omega (arith, h refl)
flag_addressed false present h = omega arith

no_id : (reliable : Bool) (id : ℕ) → flag reliable ≡ 0 → cond reliable id 0 ≡ 0
no_id true id e = absurd (omega arith)
no_id false id e = refl

pub fresh_well_formed : {settings : FreshSettings} {payload : List ℕ} {room : ℕ} → Accepted settings payload room
    → WellFormed (fresh_header settings (length payload)) [] payload
unfolding fresh_header
fresh_well_formed {settings} a =
    record {
      known = flag_small settings.reliable;
      addressed = flag_addressed settings.reliable _ a.addressed;
      port = omega (arith, a.port);
      reserved = omega arith;
      hop = omega (arith, a.hop);
      payload_short = omega (arith, a.payload_limit);
      payload_long = refl;
      no_id = no_id settings.reliable settings.pdu_id;
      no_count = λ _. refl;
      path_long = refl;
    }

-- bytes that hold, at their start, the PDU asked for
pub record Holds (settings : FreshSettings) (payload bytes : List ℕ) : Type 0 where
  pub reads : read_of bytes ≡ Ok (fresh_header settings (length payload))
  pub no_path : path_in (fresh_header settings (length payload)) bytes ≡ []
  pub carries : payload_in (fresh_header settings (length payload)) bytes ≡ payload

module _ (settings : FreshSettings) (payload : List ℕ) (room : ℕ) (done : origination_number settings payload room ≡ 0) where
  pub length_fresh : length (fresh settings payload) ≡ pdu_length (fresh_header settings (length payload))
  unfolding fresh
  length_fresh = length_encode (fresh_well_formed (accepted settings payload room done))

  pub fresh_back : (rest : List ℕ) → Holds settings payload (fresh settings payload ++ rest)
  unfolding fresh
  fresh_back rest =
      let ok = fresh_well_formed (accepted settings payload room done) in
      record { reads = read_encode ok rest; no_path = path_encode ok rest; carries = payload_encode ok rest }

  -- a fresh PDU with a path is heard from its source (document 02, W-205)
  pub fresh_sender : settings.with_path ≡ true → (rest : List ℕ)
      → last_sender (fresh_header settings (length payload)) (fresh settings payload ++ rest) ≡ Some settings.source
  unfolding fresh_header
  fresh_sender bit rest = sender_empty (fresh_header settings (length payload)) (fresh settings payload ++ rest) bit (fresh_back rest).no_path

same_header : (a b : Header) → ◌≡◌ {A = Result Header Refusal} (Ok a) (Ok b) → a ≡ b
same_header a b e = cc

-- the hop limit on the air is the hop setting asked for
pub hop_as_set : (settings : FreshSettings) (payload : List ℕ) (room : ℕ) (rest : List ℕ) (header : Header) → origination_number settings payload room ≡ 0
    → read_of (fresh settings payload ++ rest) ≡ Ok header → header.hop_limit ≡ settings.hop_limit
unfolding fresh_header
hop_as_set settings payload room rest header done shown =
    let same : header ≡ fresh_header settings (length payload) = same_header _ _ (sym shown ∙ (fresh_back settings payload room done rest).reads) in
    rw same

-- what the caller finds in the output
pub output_back : (settings : FreshSettings) (payload output : List ℕ) → origination_number settings payload (length output) ≡ 0
    → Holds settings payload (originated_output settings payload output)
unfolding originated_output over
output_back settings payload output done = rw done (fresh_back settings payload (length output) done (drop (length (fresh settings payload)) output))
