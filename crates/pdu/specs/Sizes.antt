-- Document 01, "Sizes", and the lengths that follow from a header's fields.
use Rattle.std.specs.Prelude.{ℕ, ◌+◌, ◌*◌, cond, eqb}
use Rattle.octets.specs.Numbers.{flag}
use Rattle.pdu.specs.declared.Destination.{Destination}
use Rattle.pdu.specs.declared.Destination.TheVariants.{Everyone, Address}
use Rattle.pdu.specs.declared.Header.{Header}
use Rattle.pdu.specs.declared.Limits.{Limits}

-- the part that every header has
abbrev pub fixed_length : ℕ
fixed_length = 6

-- payload 0 to 4,095
abbrev pub payload_limit : ℕ
payload_limit = 4095

-- path 0 to 255 addresses
abbrev pub path_limit : ℕ
path_limit = 255

-- 6 + 2 + 1 + 1 + 510
abbrev pub header_limit : ℕ
header_limit = 520

-- 6 + 2 + 1 + 1 + 510 + 4,095
abbrev pub pdu_limit : ℕ
pdu_limit = 4615

-- those of a PDU together
abbrev pub limits : Limits
limits = record { fixed = fixed_length; payload = payload_limit; path = path_limit; header = header_limit; pdu = pdu_limit }

-- 1 where a destination is present
abbrev pub destination_flag : Destination → ℕ
destination_flag Everyone = 0
destination_flag (Address address) = 1

-- how many addresses the path has: the path count, if the path bit is set
abbrev pub path_entries : Header → ℕ
path_entries header = cond header.path_bit header.path_count 0

-- where the path's addresses begin: after destination, PDU ID and path count, each only where called for
abbrev pub path_start : Header → ℕ
path_start header = fixed_length + 2 * destination_flag header.destination + flag (eqb header.protocol 1) + flag header.path_bit

abbrev pub header_length : Header → ℕ
header_length header = path_start header + 2 * path_entries header

-- the payload follows the header
abbrev pub pdu_length : Header → ℕ
pdu_length header = header_length header + header.payload_length
