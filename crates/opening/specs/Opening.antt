-- Document 02, W-212, opening: the plain payload (document 000, 3.5.3), the refusals in their order, and what is left in output and record.
use Rattle.std.specs.Prelude.{ℕ, Bool, not, cond, List, eqb, ltb, length}
use Rattle.octets.specs.Numbers.{◌gives◌, ◌or_else◌}
use Rattle.octets.specs.Octets.{over}
use Rattle.aes.specs.Cipher.{key_expansion}
use Rattle.pdu.specs.declared.Written.{Written}
use Rattle.pdu.specs.Header.{header_of, source_of}
use Rattle.pdu.specs.Reading.{read_of, reading_number}
use Rattle.sources.specs.Sources.{record_in, number_fault, source_fault, memory_accepted}
use Rattle.message.specs.Protection.{added_length}
use Rattle.opening.specs.declared.Numbered.{Numbered}
use Rattle.verify.specs.Verify.{message_number, plain_length, deciphered_under, plain_under, genuine_under}

-- under a key: what follows the number deciphered, the plain payload, and whether the hash is right
unfoldable pub deciphered : List ℕ → List ℕ → List ℕ
deciphered key bytes = deciphered_under (key_expansion key) bytes

unfoldable pub plain_payload : List ℕ → List ℕ → List ℕ
plain_payload key bytes = plain_under (key_expansion key) bytes

unfoldable pub genuine : List ℕ → List ℕ → Bool
genuine key bytes = genuine_under (key_expansion key) bytes

-- what is refused whatever the record and the key: 1 to 6, 80, 81 in that order, or 0
unfoldable pub sealed_fault : List ℕ → ℕ
sealed_fault bytes =
    reading_number (read_of bytes)
    or_else not (header_of bytes).encrypted gives 80
    or_else ltb (header_of bytes).payload_length added_length gives 81

-- the message number of a sealed PDU, which lies in clear; 0 with a refusal
unfoldable pub numbered_as : List ℕ → Numbered
numbered_as bytes = record { number = sealed_fault bytes; message = cond (eqb (sealed_fault bytes) 0) (message_number bytes) 0 }

-- what is refused without the key: those, then 82
unfoldable pub keyless_fault : List ℕ → List ℕ → ℕ
keyless_fault memory bytes = sealed_fault bytes or_else number_fault (source_of bytes) (message_number bytes) (record_in memory)

-- then 83, 84, 87
unfoldable pub open_number : List ℕ → List ℕ → List ℕ → ℕ → ℕ
open_number key memory bytes room =
    keyless_fault memory bytes
    or_else not (genuine key bytes) gives 83
    or_else source_fault (source_of bytes) memory
    or_else ltb room (plain_length bytes) gives 87

-- the number, and the length of the plain payload: 0 with a refusal
unfoldable pub open_written : List ℕ → List ℕ → List ℕ → ℕ → Written
open_written key memory bytes room =
    record { number = open_number key memory bytes room; length = cond (eqb (open_number key memory bytes room) 0) (plain_length bytes) 0 }

-- output and record change only with number 0
unfoldable pub open_output : List ℕ → List ℕ → List ℕ → List ℕ → List ℕ
open_output key memory bytes output = cond (eqb (open_number key memory bytes (length output)) 0) (over (plain_payload key bytes) output) output

unfoldable pub memory_after_opening : List ℕ → List ℕ → List ℕ → ℕ → List ℕ
memory_after_opening key memory bytes room =
    cond (eqb (open_number key memory bytes room) 0) (memory_accepted (source_of bytes) (message_number bytes) memory) memory
