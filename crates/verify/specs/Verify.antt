-- Document 02, W-212; document 000, 3.5.3: the sealed PDU at the start of bytes, deciphered under an expanded key w, and whether its hash is right.
use Rattle.std.specs.Prelude.{ℕ, ◌-◌, Bool, ◌&&◌, List, eqb, take, drop}
use Rattle.octets.specs.Octets.{at}
use Rattle.ctr.specs.Ctr.{stream, added}
use Rattle.pdu.specs.Header.{header_of, source_of}
use Rattle.pdu.specs.Parts.{payload_in}
use Rattle.message.specs.Protection.{number_in, added_length, hash_bytes, nonce_of}

-- its message number, which the payload begins with
unfoldable pub message_number : List ℕ → ℕ
message_number bytes = number_in (payload_in (header_of bytes) bytes)

-- the length of the plain payload
abbrev pub plain_length : List ℕ → ℕ
plain_length bytes = (header_of bytes).payload_length - added_length

-- what follows the number, deciphered: the plain payload, then the hash's 4 bytes
unfoldable pub deciphered_under : List ℕ → List ℕ → List ℕ
deciphered_under w bytes = added (stream w (nonce_of (source_of bytes) (message_number bytes))) 0 (drop 3 (payload_in (header_of bytes) bytes))

unfoldable pub plain_under : List ℕ → List ℕ → List ℕ
plain_under w bytes = take (plain_length bytes) (deciphered_under w bytes)

-- whether two hashes have the same 4 bytes
abbrev pub same_four : List ℕ → List ℕ → Bool
same_four x y = eqb (at x 0) (at y 0) && (eqb (at x 1) (at y 1) && (eqb (at x 2) (at y 2) && eqb (at x 3) (at y 3)))

-- whether the hash that was sent is that of the header, the number and the plain payload
unfoldable pub genuine_under : List ℕ → List ℕ → Bool
genuine_under w bytes =
    same_four (hash_bytes bytes (message_number bytes) (plain_under w bytes)) (drop (plain_length bytes) (deciphered_under w bytes))
