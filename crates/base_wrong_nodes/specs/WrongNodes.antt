-- Document 01, "What the contracts must say", the programs to try against demand 2, and "Slips to rule out", as one record; `proofs/WrongNodes.antt` gives it
-- from its parts.
use Rattle.std.specs.Prelude.{ℕ, zero, suc, ◌+◌, ◌<◌, ◌^◌, true, false, List, [], ◌∷◌, ◌++◌, map, ◌≡◌, length, take, drop, replicate, Some}
use Rattle.octets.specs.Octets.{at, AllBytes}
use Rattle.pdu.specs.Header.{header_of}
use Rattle.pdu.specs.Parts.{path_in}
use Rattle.lists.specs.Lists.{ListPair, two, lists_in}
use Rattle.decision.specs.declared.Choice.{Choice}
use Rattle.decision.specs.declared.Choice.TheVariants.{First, Second, Neither}
use Rattle.decision.specs.declared.Settings.{Settings}
use Rattle.decision.specs.Decision.{Node, node_of}
use Rattle.node.specs.declared.Answer.{Answer}
use Rattle.node.specs.Repeat.{lowered}
use Rattle.node.specs.Answers.{taken, repeat_number, answer_of, given_twice, output_after, Hears}
use Rattle.batch.specs.declared.Cursor.{Cursor}
use Rattle.batch.specs.declared.Stepped.{Stepped}
use Rattle.batch.specs.declared.Stepped.TheVariants.{TooLong, Ended, Answered}
use Rattle.batch.specs.Walk.{step_output, Steps, Walk, ending_at, walk, continued}
use Rattle.base_worked_examples.specs.WorkedExamples.{example, example_repeated, node_at}

-- what a program can be lent: an edition of 64 bits, an own address of 16, a block of such values, bytes to read and bytes to write over, each of a
-- length that memory can have
pub record Lendable (settings : Settings) (lists bytes output : List ℕ) : Type 0 where
  pub edition_fits : settings.edition < 2 ^ 64
  pub own_fits : settings.own < 65536
  pub lists_fit : ((i : ℕ) → at lists i < 65536) × (length lists < 2 ^ 62)
  pub bytes_fit : AllBytes bytes × (length bytes < 2 ^ 62)
  pub output_fits : AllBytes output × (length output < 2 ^ 62)

-- whatever stands for `hear`: an answer and what is left in the output; and that it keeps the promise of `hear` for whatever it can be lent
abbrev pub Hearer : Type 0
Hearer = Settings → List ℕ → List ℕ → List ℕ → Answer × List ℕ

abbrev pub KeepsHearing : Hearer → Type 0
KeepsHearing hearer =
    (settings : Settings) (lists received output : List ℕ) → Lendable settings lists received output
    → let heard = hearer settings lists received output in Hears (node_of settings (lists_in lists)) received output heard.0 heard.1

-- whatever stands for a step of a walk, and that it keeps the promise of `step`
abbrev pub Stepper : Type 0
Stepper = Settings → List ℕ → List ℕ → Cursor → List ℕ → Stepped × List ℕ

abbrev pub KeepsStepping : Stepper → Type 0
KeepsStepping stepper =
    (settings : Settings) (lists batch output : List ℕ) (cursor : Cursor) → Lendable settings lists batch output → cursor.place < 2 ^ 64
    → let step = stepper settings lists batch cursor output in Steps (node_of settings (lists_in lists)) batch cursor output step.0 step.1

-- the walk that its steps make, so many from a cursor on
unfoldable pub walked_by : Stepper → Settings → List ℕ → List ℕ → List ℕ → ℕ → Cursor → Walk
walked_by stepper settings lists batch output zero cursor = ending_at 0 cursor.place
walked_by stepper settings lists batch output (suc turns) cursor =
    continued (stepper settings lists batch cursor output).0 cursor.place (λ next. walked_by stepper settings lists batch output turns next)

-- and what each answered step leaves in the output that it is lent
abbrev pub left_then : Stepped → List ℕ → (Cursor → List (List ℕ)) → List (List ℕ)
left_then TooLong left later = []
left_then Ended left later = []
left_then (Answered answer next) left later = left ∷ later next

unfoldable pub left_by : Stepper → Settings → List ℕ → List ℕ → List ℕ → ℕ → Cursor → List (List ℕ)
left_by stepper settings lists batch output zero cursor = []
left_by stepper settings lists batch output (suc turns) cursor =
    let step = stepper settings lists batch cursor output in
    left_then step.0 step.1 (λ next. left_by stepper settings lists batch output turns next)

-- offsets from a place on, each where the PDU before it ends, and the end behind the last
abbrev pub Follows : Node → List ℕ → ℕ → List ℕ → ℕ → Type 0
Follows node batch place [] end = end ≡ place
Follows node batch place (offset ∷ later) end = (offset ≡ place) × Follows node batch (place + taken node (drop place batch)) later end

-- an output of 100 bytes
abbrev pub lent_output : List ℕ
lent_output = replicate 100 0

-- node 2000 with these lists of sources, and which of them are chosen
abbrev pub listing : Choice → ListPair → Choice → ListPair → Node
listing pass passing reject rejecting =
    record {
      settings = record {
        edition = 12;
        own = 2000;
        echo = true;
        repeating = true;
        source_pass = pass;
        source_reject = reject;
        destination_pass = Neither;
        destination_reject = Neither;
      };
      lists = record { source_pass = passing; source_reject = rejecting; destination_pass = two [] []; destination_reject = two [] [] };
    }

-- a range that holds the own address alone
abbrev pub own_range : List ℕ
own_range = 2000 ∷ 2000 ∷ []

-- a reliable PDU to 1600 with 2000 in its path: destination and PDU ID come before the count
abbrev pub reliable_pdu : List ℕ
reliable_pdu = 0x0B ∷ 0x00 ∷ 0x10 ∷ 0x00 ∷ 0x03 ∷ 0xE8 ∷ 0x06 ∷ 0x40 ∷ 0x55 ∷ 0x01 ∷ 0x07 ∷ 0xD0 ∷ []

-- node 2000, set not to repeat
abbrev pub silent : Node
silent =
    record {
      settings = record {
        edition = 12;
        own = 2000;
        echo = true;
        repeating = false;
        source_pass = Neither;
        source_reject = Neither;
        destination_pass = Neither;
        destination_reject = Neither;
      };
      lists = record { source_pass = two [] []; source_reject = two [] []; destination_pass = two [] []; destination_reject = two [] [] };
    }

-- PDUs for everyone: of hop limit 0; with an added header; with a full path
abbrev pub without_hops : List ℕ
without_hops = 0x00 ∷ 0x00 ∷ 0x00 ∷ 0x00 ∷ 0x03 ∷ 0xE8 ∷ []

abbrev pub with_added_header : List ℕ
with_added_header = 0x00 ∷ 0x00 ∷ 0x90 ∷ 0x00 ∷ 0x03 ∷ 0xE8 ∷ []

abbrev pub with_full_path : List ℕ
with_full_path = (0x02 ∷ 0x00 ∷ 0x10 ∷ 0x00 ∷ 0x03 ∷ 0xE8 ∷ 0xFF ∷ []) ++ replicate 510 0

pub record WrongNodes : Type 0 where
  -- a node set not to repeat never does; its number is 36, before 37 and after 41
  pub off_stays : (node : Node) (room : ℕ) (received : List ℕ) → node.settings.repeating ≡ false → repeat_number node room received ≡ 0 → ⊥
  pub off_numbers : ((answer_of silent 100 example).repeat ≡ 36) × ((answer_of silent 100 without_hops).repeat ≡ 36)
  -- with an added header 35, and it is repeated; with a full path 38, and it is delivered
  pub added_header : ((answer_of (node_at 2000 true false) 100 with_added_header).delivery ≡ 35)
      × ((answer_of (node_at 2000 true false) 100 with_added_header).repeat ≡ 0)
  pub full_path : ((answer_of (node_at 2000 true false) 1000 with_full_path).delivery ≡ 0)
      × ((answer_of (node_at 2000 true false) 1000 with_full_path).repeat ≡ 38)
  -- the lists before the room; 40 twice; no room is needed where nothing is repeated
  pub room_last : (answer_of (node_at 2000 true true) 0 example ≡ given_twice 31 20 (Some 1000))
      × (answer_of (node_at 2000 true false) 21 example ≡ given_twice 40 20 (Some 1000))
      × ((answer_of (node_at 1600 true false) 0 example).delivery ≡ 0) × ((answer_of silent 0 without_hops).delivery ≡ 0)
  -- a step that copies nothing out, or the wrong PDU
  pub step_copies_out : step_output (node_at 2000 true false) (without_hops ++ example) (record { place = 6; ended = false }) lent_output
      ≡ example_repeated ++ replicate 78 0
  -- a node that refuses all, as far as repeating goes
  pub refuses_all : (hearer : Hearer)
      → ((settings : Settings) (lists received output : List ℕ) → Lendable settings lists received output
      → (hearer settings lists received output).0.repeat ≡ 0 → ⊥)
      → KeepsHearing hearer → ⊥
  -- one that gives one fixed answer
  pub one_fixed_answer : (hearer : Hearer) (fixed : Answer)
      → ((settings : Settings) (lists received output : List ℕ) → Lendable settings lists received output
      → (hearer settings lists received output).0 ≡ fixed)
      → KeepsHearing hearer → ⊥
  -- one that copies nothing out
  pub copies_nothing_out : (hearer : Hearer)
      → ((settings : Settings) (lists received output : List ℕ) → Lendable settings lists received output
      → (hearer settings lists received output).1 ≡ output)
      → KeepsHearing hearer → ⊥
  -- a walk that decides only the first PDU: what it says at a later cursor is the same whatever the batch, or what it leaves in the output is
  pub first_alone : (stepper : Stepper)
      → ((settings : Settings) (lists batch other output : List ℕ) (cursor : Cursor) → Lendable settings lists batch output
      → Lendable settings lists other output → 0 < cursor.place → cursor.place < 2 ^ 64
      → (stepper settings lists batch cursor output).0 ≡ (stepper settings lists other cursor output).0)
      → KeepsStepping stepper → ⊥
  pub first_copied_alone : (stepper : Stepper)
      → ((settings : Settings) (lists batch other output : List ℕ) (cursor : Cursor) → Lendable settings lists batch output
      → Lendable settings lists other output → 0 < cursor.place → cursor.place < 2 ^ 64
      → (stepper settings lists batch cursor output).1 ≡ (stepper settings lists other cursor output).1)
      → KeepsStepping stepper → ⊥
  -- guesses, and an invented count of PDUs: steps that keep the promise give 01's walk, an answer for each of its PDUs and no other
  pub no_guess : (stepper : Stepper) → KeepsStepping stepper → (settings : Settings) (lists batch output : List ℕ)
      → Lendable settings lists batch output
      → walked_by stepper settings lists batch output (length batch) (record { place = 0; ended = false })
      ≡ walk (node_of settings (lists_in lists)) (length output) batch
  -- and leave what the node leaves for the PDU at each of its offsets
  pub no_other_output : (stepper : Stepper) → KeepsStepping stepper → (settings : Settings) (lists batch output : List ℕ)
      → Lendable settings lists batch output → let node = node_of settings (lists_in lists) in
      left_by stepper settings lists batch output (length batch) (record { place = 0; ended = false })
      ≡ map (λ (offset : ℕ). output_after node (drop offset batch) output) (walk node (length output) batch).offsets
  -- and where they are: the offsets of that walk follow from the bytes, up to the end
  pub offsets_follow : (node : Node) (room : ℕ) (batch : List ℕ)
      → Follows node batch 0 (walk node room batch).offsets (walk node room batch).end
  -- an invented count of path entries, in the repeat of the example of document 002
  pub invented_count : (answer : Answer) (left : List ℕ) → (at (take 22 left) 8 ≡ 1 → ⊥) → Hears (node_at 2000 true false) example lent_output answer left → ⊥
  -- slips. The own address sought in the source lists, the first or the second: the PDU's source, 1000, is in none of them
  pub source_sought : (answer_of (listing First (two own_range []) Neither (two [] [])) 100 example ≡ given_twice 31 20 (Some 1000))
      × (answer_of (listing Second (two [] own_range) Neither (two [] [])) 100 example ≡ given_twice 31 20 (Some 1000))
      × ((answer_of (listing Neither (two [] []) First (two own_range [])) 100 example).delivery ≡ 39)
      × ((answer_of (listing Neither (two [] []) Second (two [] own_range)) 100 example).delivery ≡ 39)
  -- 7 lowered, 0 become 7: 7 is kept, 1 to 6 are lowered by one, and a PDU of hop limit 0 is never repeated
  pub seven_kept : (lowered 7 ≡ 7) × ((hop : ℕ) → 0 < hop → hop < 7 → lowered hop + 1 ≡ hop)
  pub zero_stays : (node : Node) (room : ℕ) (received : List ℕ) → (header_of received).hop_limit ≡ 0 → repeat_number node room received ≡ 0 → ⊥
  -- the hop limit tested before the echo: 37 for the example's repeat, of hop limit 0, at the node in its path
  pub hop_before_echo : (answer : Answer) (left : List ℕ) → answer.repeat ≡ 37 → Hears (node_at 2000 true false) example_repeated lent_output answer left → ⊥
  -- the path sought at byte 6
  pub path_behind : path_in (header_of reliable_pdu) reliable_pdu ≡ 2000 ∷ []
