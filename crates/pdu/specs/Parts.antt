-- Document 01, "Header, byte by byte", below the table: the path's addresses, and the payload that follows the header; document 02, W-205: the last
-- sender.
use Rattle.std.specs.Prelude.{ℕ, zero, suc, ◌+◌, Bool, false, cond, ◌||◌, List, [], ◌∷◌, eqb, get_or, take, drop, Option, None, Some}
use Rattle.octets.specs.Octets.{word_at}
use Rattle.pdu.specs.declared.Header.{Header}
use Rattle.pdu.specs.Sizes.{path_entries, path_start, header_length}

-- so many 2-byte addresses from a place on
unfoldable pub addresses_at : List ℕ → ℕ → ℕ → List ℕ
addresses_at bytes place zero = []
addresses_at bytes place (suc n) = word_at bytes place ∷ addresses_at bytes (place + 2) n

-- the path of the PDU that a header shows in bytes
abbrev pub path_in : Header → List ℕ → List ℕ
path_in header bytes = addresses_at bytes (path_start header) (path_entries header)

-- the path's address at a place, the first at 0; 0 past the last
abbrev pub path_address : Header → List ℕ → ℕ → ℕ
path_address header bytes i = get_or (path_in header bytes) i 0

-- whether an address is anywhere in a path ("One PDU at one node", 3)
unfoldable pub in_path : ℕ → List ℕ → Bool
in_path address [] = false
in_path address (entry ∷ path) = eqb entry address || in_path address path

-- the payload of the PDU that a header shows in bytes
abbrev pub payload_in : Header → List ℕ → List ℕ
payload_in header bytes = take header.payload_length (drop (header_length header) bytes)

-- the last of some addresses, or another where there are none
unfoldable pub last_or : ℕ → List ℕ → ℕ
last_or otherwise [] = otherwise
last_or otherwise (address ∷ later) = last_or address later

-- document 02, W-205: the last path address, or the source if the path is empty; without the path bit it is unknown
abbrev pub last_sender : Header → List ℕ → Option ℕ
last_sender header bytes = cond header.path_bit (Some (last_or header.source (path_in header bytes))) None
