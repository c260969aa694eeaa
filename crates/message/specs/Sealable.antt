-- Document 02, W-212: what keeps a PDU from being sealed, in its order, and what is answered with a refusal.
use Rattle.std.specs.Prelude.{ℕ, ◌+◌, List, ltb}
use Rattle.octets.specs.Numbers.{◌gives◌, ◌or_else◌}
use Rattle.pdu.specs.declared.Written.{Written}
use Rattle.pdu.specs.Header.{header_of}
use Rattle.pdu.specs.Sizes.{payload_limit, pdu_length}
use Rattle.pdu.specs.Reading.{read_of, reading_number}
use Rattle.message.specs.Protection.{number_limit, added_length}

-- the length of the PDU at the start of bytes once it is sealed
abbrev pub sealed_length : List ℕ → ℕ
sealed_length bytes = pdu_length (header_of bytes) + added_length

-- 1 to 6, 88, 85, 86, 87 in that order, or 0
unfoldable pub seal_number : ℕ → List ℕ → ℕ → ℕ
seal_number number bytes room =
    reading_number (read_of bytes)
    or_else (header_of bytes).encrypted gives 88
    or_else ltb payload_limit ((header_of bytes).payload_length + added_length) gives 85
    or_else ltb number_limit number gives 86
    or_else ltb room (sealed_length bytes) gives 87

-- what sealing and opening answer with a refusal
abbrev pub refused_with : ℕ → Written
refused_with number = record { number = number; length = 0 }
