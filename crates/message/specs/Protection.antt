-- Document 02, W-212; document 000, 3.5.3, and document 002, "MANT Updates": the message number, the bytes that enter the hash, and the nonce.
use Rattle.std.specs.Prelude.{ℕ, ◌+◌, ◌-◌, ◌*◌, ◌/◌, ◌%◌, List, [], ◌∷◌, ◌++◌, take, drop}
use Rattle.octets.specs.Octets.{at, word_bytes}
use Rattle.pdu.specs.Header.{hop_limit, source_place, path_count_place}
use Rattle.sha1_digest.specs.Sha1.{sha1}

-- the message number is 3 bytes long, and so 16,777,215 at most
abbrev pub number_limit : ℕ
number_limit = 16777215

abbrev pub message_number_bytes : ℕ → List ℕ
message_number_bytes number = number / 65536 % 256 ∷ number / 256 % 256 ∷ number % 256 ∷ []

-- the number that bytes begin with
abbrev pub number_in : List ℕ → ℕ
number_in bytes = at bytes 0 * 65536 + at bytes 1 * 256 + at bytes 2

-- number and hash: what a sealed payload has more than the plain one
abbrev pub added_length : ℕ
added_length = 7

-- document 002, the table of a header's bytes: byte 2 with the hop limit's bits 0
abbrev pub masked_byte : ℕ → ℕ
masked_byte byte2 = byte2 - 16 * hop_limit byte2

-- and bytes 0 to 3 so, the source, then destination and PDU ID where the header has them; the path count and the path are left out
unfoldable pub hashed_header : List ℕ → List ℕ
hashed_header header =
    at header 0 ∷ at header 1 ∷ masked_byte (at header 2) ∷ at header 3 ∷ take (path_count_place (at header 0) - source_place) (drop source_place header)

-- the hash's most significant 4 bytes: of the header so, the number's bytes and the plain payload
unfoldable pub hash_bytes : List ℕ → ℕ → List ℕ → List ℕ
hash_bytes header number plain = take 4 (sha1 (hashed_header header ++ message_number_bytes number ++ plain))

-- what every counter block of a message begins with: its source and its number
abbrev pub nonce_of : ℕ → ℕ → List ℕ
nonce_of source number = word_bytes source ++ message_number_bytes number
