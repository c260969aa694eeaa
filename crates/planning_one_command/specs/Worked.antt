-- W-210's command in a small network: one repeater, 3000, between the originator 2000 and the destination 1000, all within reach of each other.
use Rattle.std.specs.Prelude.{Bool, true, false, List, [], ◌∷◌, ◌++◌, map, ℕ}
use Rattle.acknowledgements.specs.declared.Sending.{Sending}
use Rattle.coverage.specs.Cases.{repeater}
use Rattle.retry_termination.specs.History.{RetrySettings}
use Rattle.flood.specs.Flood.{Reception}
use Rattle.several_messages.specs.SeveralMessages.{Event, Sent, Heard}
use Rattle.planning_one_command.specs.Boxes.{Box}

-- acknowledgements with a path, hop limit 1
abbrev pub one_hop : Sending
one_hop = record { hop_limit = 1; port = 0; time_stamp_request = false; with_path = true }

abbrev pub box_at : ℕ → Box
box_at own = record { repeater = repeater own; sending = one_hop }

abbrev pub three : List Box
three = map box_at (2000 ∷ 3000 ∷ 1000 ∷ [])

-- from 2000 to 1000, ID 7, with the path bit and hop limit 1
abbrev pub order : List ℕ
order = 0x0B ∷ 0x40 ∷ 0x10 ∷ 0x00 ∷ 0x07 ∷ 0xD0 ∷ 0x03 ∷ 0xE8 ∷ 0x07 ∷ 0x00 ∷ []

abbrev pub by : ℕ → ℕ → Event (List ℕ)
by node transmission = Heard (record { node = node; transmission = transmission })

-- 3000 repeats the command; 1000 hears both and acknowledges both; 3000 repeats both acknowledgements
abbrev pub both_answered : List (Event (List ℕ))
both_answered = Sent order ∷ by 1 0 ∷ by 2 0 ∷ by 2 1 ∷ by 1 2 ∷ by 1 3 ∷ []

-- the command is sent once more, and all of that happens again
abbrev pub answered_again : List (Event (List ℕ))
answered_again = both_answered ++ (Sent order ∷ by 1 6 ∷ by 2 6 ∷ by 2 7 ∷ by 1 8 ∷ by 1 9 ∷ [])

-- delay 5, one more sending
abbrev pub one_try : RetrySettings
one_try = record { delay = 5; tries = 1; room = 256 }

-- who hears whom where every node hears every other
abbrev pub all_hear : ℕ → ℕ → Bool
all_hear sender node = true
