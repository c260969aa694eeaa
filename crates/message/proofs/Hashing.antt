-- The hash fed part by part.
use Prim.Native.Nat.{ℕ, ◌-◌}
use mathlib.Core.List.{List, [], ◌∷◌, ◌++◌}
use mathlib.Core.Path.{◌≡◌, ap, ap₂, ◌∙◌}
use lib.ListN.{take, drop}
use Rattle.octets.specs.Octets.{at}
use Rattle.pdu.specs.Header.{path_count_place}
use Rattle.sha1_digest.specs.declared.Running.{Running}
use Rattle.sha1_digest.specs.Sha1.{hash_begun, fed, finished}
use Rattle.sha1_digest.proofs.Feeding.{fed_append, finished_fed}
use Rattle.message.specs.Protection.{message_number_bytes, masked_byte, hashed_header, hash_bytes}

-- the header's first four bytes, those up to the path count, and the number
pub begun_with : (bytes part digits : List ℕ) (byte0 byte1 byte2 masked byte3 number place : ℕ) (r0 r1 r2 r3 : Running)
    → byte0 ≡ at bytes 0 → byte1 ≡ at bytes 1 → byte2 ≡ at bytes 2 → masked ≡ masked_byte byte2 → byte3 ≡ at bytes 3
    → r0 ≡ hash_begun → r1 ≡ fed r0 (byte0 ∷ byte1 ∷ masked ∷ byte3 ∷ []) → place ≡ path_count_place byte0 → part ≡ take (place - 4) (drop 4 bytes)
    → r2 ≡ fed r1 part → digits ≡ message_number_bytes number → r3 ≡ fed r2 digits
    → r3 ≡ fed hash_begun (hashed_header bytes ++ message_number_bytes number)
unfolding hashed_header
begun_with bytes part digits byte0 byte1 byte2 masked byte3 number place r0 r1 r2 r3 b0 b1 b2 bm b3 e0 e1 el ep e2 ed e3 =
    let first = byte0 ∷ byte1 ∷ masked ∷ byte3 ∷ [] in
    let hashed : first ++ part ≡ hashed_header bytes = rw (ep, el, bm, b0, b1, b2, b3) in
    e3
    ∙ rw (e2, e1, e0)
    (ap (λ (r : Running). fed r digits) (fed_append hash_begun first part) ∙ fed_append hash_begun (first ++ part) digits
    ∙ ap₂ (λ (l m : List ℕ). fed hash_begun (l ++ m)) hashed ed)

-- the payload after them, and the hash's first bytes
pub hash_is : (bytes plain : List ℕ) (number : ℕ) (r0 r1 : Running) → r0 ≡ fed hash_begun (hashed_header bytes ++ message_number_bytes number) → r1 ≡ fed r0 plain
    → take 4 (finished r1) ≡ hash_bytes bytes number plain
unfolding hash_bytes
hash_is bytes plain number r0 r1 e0 e1 =
    let message = hashed_header bytes ++ message_number_bytes number in
    rw (e1, e0, fed_append hash_begun message plain, finished_fed (message ++ plain))
