-- Eight lists of any length laid into a block. A list may have 128 values; of a longer one 129 are laid, and so it has the fault that it had (22).
use Rattle.std.specs.Prelude.{ℕ, List, ◌≡◌, take}
use Rattle.std.specs.Borrow.{Bor}
use denote.Triple.Both.{Both}
use Rattle.octets.specs.Octets.{over}
use Rattle.lists.specs.declared.ListFault.{ListFault}
use Rattle.lists.specs.Lists.{Lists, ListPair, two, laid, fault_and_list}

-- what is laid of a list
abbrev pub most_laid : ℕ
most_laid = 129

abbrev pub cut : List ℕ → List ℕ
cut list = take most_laid list

abbrev pub cut_pair : ListPair → ListPair
cut_pair lists = two (cut lists.first) (cut lists.second)

abbrev pub cut_lists : Lists → Lists
cut_lists lists =
    record {
      source_pass = cut_pair lists.source_pass;
      source_reject = cut_pair lists.source_reject;
      destination_pass = cut_pair lists.destination_pass;
      destination_reject = cut_pair lists.destination_reject;
    }

-- eight lists, in checking order
abbrev pub eight : List ℕ → List ℕ → List ℕ → List ℕ → List ℕ → List ℕ → List ℕ → List ℕ → Lists
eight a b c d e f g h = record { source_pass = two a b; source_reject = two c d; destination_pass = two e f; destination_reject = two g h }

-- a list that a caller lends, as a contract names it: on entry and at exit; and the eight that are lent, as they are on entry
abbrev pub Lent : Type 0
Lent = Both (Bor (List ℕ)) (Bor (List ℕ))

abbrev pub eight_lent : Lent → Lent → Lent → Lent → Lent → Lent → Lent → Lent → Lists
eight_lent a b c d e f g h =
    eight a.entry.now b.entry.now c.entry.now d.entry.now e.entry.now f.entry.now g.entry.now h.entry.now

-- eight lists were laid into a block: what stands in it after, its rest as before, and their first fault
abbrev pub Lays : Lists → List ℕ → List ℕ → ListFault → Type 0
Lays lists before after returned = (after ≡ over (laid (cut_lists lists)) before) × (returned ≡ fault_and_list lists)
