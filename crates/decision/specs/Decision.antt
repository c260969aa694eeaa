-- Document 01, "One PDU at one node": its steps 3 to 6, of a PDU that was read, as functions of the node, the header and the received bytes.
-- Document 02, W-203 adds to step 3; W-211: of each kind of list one of two is chosen, or none.
use Rattle.std.specs.Prelude.{ℕ, Bool, false, not, ◌&&◌, List, eqb}
use Rattle.std.proofs.Math.Option.{Option, none, some}
use Rattle.octets.specs.Numbers.{◌gives◌, ◌or_else◌}
use Rattle.pdu.specs.declared.Destination.{Destination}
use Rattle.pdu.specs.declared.Destination.TheVariants.{Everyone, Address}
use Rattle.pdu.specs.declared.Header.{Header}
use Rattle.pdu.specs.Sizes.{path_limit}
use Rattle.pdu.specs.Parts.{path_in, in_path}
use Rattle.lists.specs.Lists.{ListPair, Lists, holds}
use Rattle.decision.specs.declared.Choice.{Choice}
use Rattle.decision.specs.declared.Choice.TheVariants.{First, Second, Neither}
use Rattle.decision.specs.declared.Settings.{Settings}

-- a node: what it is set to, and its eight lists
pub record Node : Type 0 where
  pub settings : Settings
  pub lists : Lists

abbrev pub node_of : Settings → Lists → Node
node_of settings lists = record { settings = settings; lists = lists }

-- the list of a kind that is chosen: the first, the second or none (W-211)
abbrev pub chosen : Choice → ListPair → Option (List ℕ)
chosen First lists = some lists.first
chosen Second lists = some lists.second
chosen Neither lists = none

-- whether a list is chosen and does not hold an address; whether one is chosen and does
abbrev pub is_outside : Option (List ℕ) → ℕ → Bool
is_outside none address = false
is_outside (some list) address = not (holds list address)

abbrev pub is_in : Option (List ℕ) → ℕ → Bool
is_in none address = false
is_in (some list) address = holds list address

-- the same of a PDU's destination; without one, neither is so
abbrev pub destination_is_outside : Option (List ℕ) → Destination → Bool
destination_is_outside list Everyone = false
destination_is_outside list (Address address) = is_outside list address

abbrev pub destination_is_in : Option (List ℕ) → Destination → Bool
destination_is_in list Everyone = false
destination_is_in list (Address address) = is_in list address

-- whether a PDU has a destination that is the own address; whether it has one that is another's
abbrev pub is_for_own : ℕ → Destination → Bool
is_for_own own Everyone = false
is_for_own own (Address address) = eqb address own

abbrev pub is_for_another : ℕ → Destination → Bool
is_for_another own Everyone = false
is_for_another own (Address address) = not (eqb address own)

-- step 3: echo on, the path bit set and the own address anywhere in the path
abbrev pub is_echo : Settings → Header → List ℕ → Bool
is_echo settings header received = settings.echo && (header.path_bit && in_path settings.own (path_in header received))

-- document 02, W-203: echo on and the PDU's source is the own address, with the path bit or without
abbrev pub is_own_report : Settings → Header → Bool
is_own_report settings header = settings.echo && eqb header.source settings.own

-- number 30, directly after it 42 (W-203), or 0
unfoldable pub echo_fault : Settings → Header → List ℕ → ℕ
echo_fault settings header received = is_echo settings header received gives 30 or_else is_own_report settings header gives 42

-- step 4: number 31 to 34 by the lists chosen, or 0 where they let the PDU pass
unfoldable pub pass_fault : Node → Header → ℕ
pass_fault node header =
    is_outside (chosen node.settings.source_pass node.lists.source_pass) header.source gives 31
    or_else is_in (chosen node.settings.source_reject node.lists.source_reject) header.source gives 32
    or_else destination_is_outside (chosen node.settings.destination_pass node.lists.destination_pass) header.destination gives 33
    or_else destination_is_in (chosen node.settings.destination_reject node.lists.destination_reject) header.destination gives 34

-- steps 3 and 4: what drops a PDU that was read
unfoldable pub drop_fault : Node → Header → List ℕ → ℕ
drop_fault node header received = echo_fault node.settings header received or_else pass_fault node header

-- step 5: number 39, then 35, or 0 where the payload is delivered
unfoldable pub delivery_fault : Settings → Header → ℕ
delivery_fault settings header = is_for_another settings.own header.destination gives 39 or_else header.added_header gives 35

-- step 6: number 41, then 36, 37 and 38, or 0 where the PDU is repeated
unfoldable pub repeat_fault : Settings → Header → ℕ
repeat_fault settings header =
    is_for_own settings.own header.destination gives 41
    or_else not settings.repeating gives 36
    or_else eqb header.hop_limit 0 gives 37
    or_else (header.path_bit && eqb header.path_count path_limit) gives 38
