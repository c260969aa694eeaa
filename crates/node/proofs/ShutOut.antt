-- Programs and outcomes that document 01 asks to try against the promise of `hear` and of `delivered` ("What the contracts must say", "Slips to rule
-- out"), and some against document 02, W-203: none of them keeps it.
use Prim.Native.Nat.{ℕ, zero, suc, ◌<◌}
use native.Mathlib.Omega.{arith}
use native.Mathlib.Nat.{min-le_left}
use mathlib.Core.Bool.{Bool, true, false, cond}
use mathlib.Core.List.{List, [], ◌∷◌}
use mathlib.Core.Path.{◌≡◌, refl, ap, sym, ◌∙◌}
use lib.Dec.{eqb}
use lib.ListN.{length, take, drop, replicate, length-take}
use borrow.Author.Tests.{ne_eqb}
use Rattle.std.specs.Prelude.{None, Some}
use Rattle.octets.specs.Numbers.{◌gives◌, ◌or_else◌}
use Rattle.octets.specs.Octets.{at, over}
use Rattle.pdu.specs.Header.{header_of}
use Rattle.pdu.specs.Reading.{read_of}
use Rattle.pdu.specs.Parts.{addresses_at, in_path, last_or}
use Rattle.decision.specs.declared.Choice.TheVariants.{First, Neither}
use Rattle.lists.specs.Lists.{two, low_above_high, fault_of, first_fault}
use Rattle.node.specs.declared.Answer.{Answer}
use Rattle.decision.specs.Decision.{Node, echo_fault, pass_fault, drop_fault, delivery_fault, repeat_fault}
use Rattle.node.specs.Repeat.{repeated}
use Rattle.node.specs.Answers.{node_fault, node_or_reading_fault, stop_fault, delivery_number, repeat_number, taken, heard_from}
use Rattle.node.specs.Answers.{answer_of, given_twice, output_after, Hears}

-- a node of an address, repeating, echo on or off, its source pass list on or off, no other list on, and all of them empty
abbrev node_with : ℕ → Bool → Bool → Node
node_with own echo pass =
    record {
      settings = record {
        edition = 12;
        own = own;
        echo = echo;
        repeating = true;
        source_pass = cond pass First Neither;
        source_reject = Neither;
        destination_pass = Neither;
        destination_reject = Neither;
      };
      lists = record { source_pass = two [] []; source_reject = two [] []; destination_pass = two [] []; destination_reject = two [] [] };
    }

-- one with echo on and no list on
abbrev node_at : ℕ → Node
node_at own = node_with own true false

-- an output of 100 bytes, all 0
abbrev zeros : List ℕ
zeros = replicate 100 0

-- the example of document 002
abbrev example : List ℕ
example =
    0x03 ∷ 0x00 ∷ 0x10 ∷ 0x0B ∷ 0x03 ∷ 0xE8 ∷ 0x06 ∷ 0x40 ∷ 0x00 ∷ 0x70 ∷ 0x01 ∷ 0x08 ∷ 0x12 ∷ 0x12 ∷ 0x03 ∷ 0x24 ∷ 0x13
    ∷ 0x22 ∷ 0x02 ∷ 0x76 ∷ []

-- its repeat at node 2000
abbrev example_repeated : List ℕ
example_repeated =
    0x03 ∷ 0x00 ∷ 0x00 ∷ 0x0B ∷ 0x03 ∷ 0xE8 ∷ 0x06 ∷ 0x40 ∷ 0x01 ∷ 0x07 ∷ 0xD0 ∷ 0x70 ∷ 0x01 ∷ 0x08 ∷ 0x12 ∷ 0x12 ∷ 0x03
    ∷ 0x24 ∷ 0x13 ∷ 0x22 ∷ 0x02 ∷ 0x76 ∷ []

-- a PDU for address 1600 with an added header
abbrev added_header : List ℕ
added_header = 0x01 ∷ 0x00 ∷ 0x90 ∷ 0x00 ∷ 0x00 ∷ 0x05 ∷ 0x06 ∷ 0x40 ∷ []

-- PDUs of source 2000: without the path bit, with it and 5 in the path, and with 2000 in the path
abbrev own_report : List ℕ
own_report = 0x00 ∷ 0x00 ∷ 0x10 ∷ 0x00 ∷ 0x07 ∷ 0xD0 ∷ []

abbrev own_report_with_path : List ℕ
own_report_with_path = 0x02 ∷ 0x00 ∷ 0x10 ∷ 0x00 ∷ 0x07 ∷ 0xD0 ∷ 0x01 ∷ 0x00 ∷ 0x05 ∷ []

abbrev own_report_echoed : List ℕ
own_report_echoed = 0x02 ∷ 0x00 ∷ 0x10 ∷ 0x00 ∷ 0x07 ∷ 0xD0 ∷ 0x01 ∷ 0x07 ∷ 0xD0 ∷ []

-- a PDU of source 1000 for address 2000
abbrev for_own : List ℕ
for_own = 0x01 ∷ 0x00 ∷ 0x10 ∷ 0x00 ∷ 0x03 ∷ 0xE8 ∷ 0x07 ∷ 0xD0 ∷ []

-- what the definitions give for these
record Given : Type 0 where
  is_repeated : answer_of (node_at 2000) 100 example
      ≡ record {
        delivery = 39;
        repeat = 0;
        delivered_place = 0;
        delivered_length = 0;
        repeated_length = 22;
        taken = 20;
        last_sender = Some 1000;
      }
  is_copied : take 22 (output_after (node_at 2000) example zeros) ≡ example_repeated
  is_echo : answer_of (node_at 2000) 100 example_repeated ≡ given_twice 30 22 (Some 2000)
  is_unread : answer_of (node_at 2000) 100 [] ≡ given_twice 1 0 None
  is_another's : (answer_of (node_at 2000) 100 added_header).delivery ≡ 39
  is_own : answer_of (node_at 2000) 100 own_report ≡ given_twice 42 6 None
  is_own_with_path : answer_of (node_at 2000) 100 own_report_with_path ≡ given_twice 42 9 (Some 5)
  is_echo_and_own : answer_of (node_at 2000) 100 own_report_echoed ≡ given_twice 30 9 (Some 2000)
  is_own_and_listed : answer_of (node_with 2000 true true) 100 own_report ≡ given_twice 42 6 None
  is_own_with_echo_off : (answer_of (node_with 2000 false false) 100 own_report).repeat ≡ 0
  is_for_own : (answer_of (node_at 2000) 100 for_own).repeat ≡ 41

given : Given
unfolding answer_of output_after delivery_number repeat_number stop_fault node_fault node_or_reading_fault drop_fault echo_fault pass_fault delivery_fault
    repeat_fault taken heard_from repeated over read_of header_of addresses_at in_path last_or first_fault fault_of low_above_high ◌gives◌ ◌or_else◌
given =
    record {
      is_repeated = refl;
      is_copied = refl;
      is_echo = refl;
      is_unread = refl;
      is_another's = refl;
      is_own = refl;
      is_own_with_path = refl;
      is_echo_and_own = refl;
      is_own_and_listed = refl;
      is_own_with_echo_off = refl;
      is_for_own = refl;
    }

-- a program for any node, received bytes and output: what it answers and what it leaves in the output
abbrev pub Program : Type 0
Program = Node → List ℕ → List ℕ → Answer × List ℕ

-- one that keeps the promise of `hear`
abbrev pub Keeps : Program → Type 0
Keeps program =
    (node : Node) (received output : List ℕ) → Hears node received output (program node received output).0 (program node received output).1

-- a program that refuses all
pub refuses_all : (program : Program) → ((node : Node) (received output : List ℕ) → (program node received output).0.repeat ≡ 0 → ⊥)
    → Keeps program → ⊥
refuses_all program refuses keeps =
    refuses (node_at 2000) example zeros (ap (λ (answer : Answer). answer.repeat) ((keeps (node_at 2000) example zeros).0 ∙ given.is_repeated))

-- one that gives one fixed answer
pub one_fixed_answer : (program : Program) (fixed : Answer)
    → ((node : Node) (received output : List ℕ) → (program node received output).0 ≡ fixed) → Keeps program → ⊥
one_fixed_answer program fixed same keeps =
    let read : fixed.repeat ≡ 0 =
    ap (λ (answer : Answer). answer.repeat) (sym (same (node_at 2000) example zeros) ∙ (keeps (node_at 2000) example zeros).0 ∙ given.is_repeated) in
    let unread : fixed.repeat ≡ 1 =
    ap (λ (answer : Answer). answer.repeat) (sym (same (node_at 2000) [] zeros) ∙ (keeps (node_at 2000) [] zeros).0 ∙ given.is_unread) in
    omega arith

-- one that copies nothing out
pub copies_nothing_out : (program : Program) → ((node : Node) (received output : List ℕ) → (program node received output).1 ≡ output)
    → Keeps program → ⊥
copies_nothing_out program leaves keeps =
    let first : ◌≡◌ {A = ℕ} 0 3 =
    ap (λ (bytes : List ℕ). at (take 22 bytes) 0) (sym (leaves (node_at 2000) example zeros) ∙ (keeps (node_at 2000) example zeros).1)
    ∙ ap (λ (bytes : List ℕ). at bytes 0) given.is_copied in
    omega arith

-- an invented count of path entries in the repeat of the example
pub invented_count : (answer : Answer) (now : List ℕ) → (at (take 22 now) 8 ≡ 1 → ⊥) → Hears (node_at 2000) example zeros answer now → ⊥
invented_count answer now invented right =
    invented (ap (λ (bytes : List ℕ). at (take 22 bytes) 8) right.1 ∙ ap (λ (bytes : List ℕ). at bytes 8) given.is_copied)

-- the hop limit before the echo: 37 for a PDU of hop limit 0 with the own address in its path
pub hop_before_echo : (answer : Answer) (now : List ℕ) → answer.repeat ≡ 37 → Hears (node_at 2000) example_repeated zeros answer now → ⊥
hop_before_echo answer now hop right =
    let echo : answer.repeat ≡ 30 = ap (λ (answer : Answer). answer.repeat) (right.0 ∙ given.is_echo) in
    omega arith

-- 0 bytes taken by a PDU that was read
pub read_and_not_taken : (answer : Answer) (now : List ℕ) → answer.taken ≡ 0 → Hears (node_at 2000) example_repeated zeros answer now → ⊥
read_and_not_taken answer now none right =
    let took : answer.taken ≡ 22 = ap (λ (answer : Answer). answer.taken) (right.0 ∙ given.is_echo) in
    omega arith

-- 35 before 39, for another's PDU with an added header
pub added_header_first : (answer : Answer) (now : List ℕ) → answer.delivery ≡ 35 → Hears (node_at 2000) added_header zeros answer now → ⊥
added_header_first answer now added right =
    let another's : answer.delivery ≡ 39 = ap (λ (answer : Answer). answer.delivery) right.0 ∙ given.is_another's in
    omega arith

-- W-203: 42 before 30, for the own report with the own address in its path
pub own_before_echo : (answer : Answer) (now : List ℕ) → answer.repeat ≡ 42 → Hears (node_at 2000) own_report_echoed zeros answer now → ⊥
own_before_echo answer now own right =
    let echo : answer.repeat ≡ 30 = ap (λ (answer : Answer). answer.repeat) (right.0 ∙ given.is_echo_and_own) in
    omega arith

-- 42 after the lists, for the own report at a source pass list that is on and empty
pub lists_before_own : (answer : Answer) (now : List ℕ) → answer.repeat ≡ 31 → Hears (node_with 2000 true true) own_report zeros answer now → ⊥
lists_before_own answer now listed right =
    let own : answer.repeat ≡ 42 = ap (λ (answer : Answer). answer.repeat) (right.0 ∙ given.is_own_and_listed) in
    omega arith

-- 42 only with the path bit, and only without it
pub own_with_path_alone : (answer : Answer) (now : List ℕ) → (answer.repeat ≡ 42 → ⊥) → Hears (node_at 2000) own_report zeros answer now → ⊥
own_with_path_alone answer now other right = other (ap (λ (answer : Answer). answer.repeat) (right.0 ∙ given.is_own))

pub own_without_path_alone : (answer : Answer) (now : List ℕ) → (answer.repeat ≡ 42 → ⊥) → Hears (node_at 2000) own_report_with_path zeros answer now
    → ⊥
own_without_path_alone answer now other right = other (ap (λ (answer : Answer). answer.repeat) (right.0 ∙ given.is_own_with_path))

-- 42 given once, so that the own report is delivered
pub own_delivered : (answer : Answer) (now : List ℕ) → answer.delivery ≡ 0 → Hears (node_at 2000) own_report zeros answer now → ⊥
own_delivered answer now delivers right =
    let own : answer.delivery ≡ 42 = ap (λ (answer : Answer). answer.delivery) (right.0 ∙ given.is_own) in
    omega arith

-- 42 with echo off
pub own_with_echo_off : (answer : Answer) (now : List ℕ) → answer.repeat ≡ 42 → Hears (node_with 2000 false false) own_report zeros answer now → ⊥
own_with_echo_off answer now own right =
    let again : answer.repeat ≡ 0 = ap (λ (answer : Answer). answer.repeat) right.0 ∙ given.is_own_with_echo_off in
    omega arith

-- 42 where the own address is the destination and not the source
pub own_as_destination : (answer : Answer) (now : List ℕ) → answer.repeat ≡ 42 → Hears (node_at 2000) for_own zeros answer now → ⊥
own_as_destination answer now own right =
    let for_own_lem : answer.repeat ≡ 41 = ap (λ (answer : Answer). answer.repeat) right.0 ∙ given.is_for_own in
    omega arith

-- none of the numbers that are for repeating alone is 40
none_is_40 : (own off hop full : Bool) → (own gives 41 or_else off gives 36 or_else hop gives 37 or_else full gives 38) ≡ 40 → ⊥
unfolding ◌gives◌ ◌or_else◌
none_is_40 true off hop full e = omega arith
none_is_40 false true hop full e = omega arith
none_is_40 false false true full e = omega arith
none_is_40 false false false true e = omega arith
none_is_40 false false false false e = omega arith

module _ (node : Node) (received output : List ℕ) (answer : Answer) (now : List ℕ) where
  abbrev room : ℕ
  room = length output

  repeat_is : Hears node received output answer now → answer.repeat ≡ repeat_number node room received
  unfolding answer_of
  repeat_is right = ap (λ (answer : Answer). answer.repeat) right.0

  -- the output touched with a repeat number other than 0, whatever the input
  pub output_touched : (answer.repeat ≡ 0 → ⊥) → (now ≡ output → ⊥) → Hears node received output answer now → ⊥
  unfolding output_after
  output_touched refused touched right =
      touched
      (right.1
      ∙ ap (λ (n : ℕ). cond (eqb n 0) (over (repeated node.settings.own received) output) output) (sym (repeat_is right))
      ∙ ap (λ (t : Bool). cond t (over (repeated node.settings.own received) output) output) (ne_eqb answer.repeat 0 refused))

  not_40 : repeat_fault node.settings (header_of received) ≡ 40 → ⊥
  unfolding repeat_fault
  not_40 e = none_is_40 _ _ _ _ e

  -- 40 with a delivered payload, whatever the input
  pub delivered_with_40 : answer.repeat ≡ 40 → answer.delivery ≡ 0 → Hears node received output answer now → ⊥
  unfolding answer_of delivery_number repeat_number ◌or_else◌
  delivered_with_40 short delivers right =
      go (stop_fault node room received) (sym (repeat_is right) ∙ short) (sym (ap (λ (answer : Answer). answer.delivery) right.0) ∙ delivers)
    where
      go : (n : ℕ) → (n or_else repeat_fault node.settings (header_of received)) ≡ 40
          → (n or_else delivery_fault node.settings (header_of received)) ≡ 0 → ⊥
      go zero e z = not_40 e
      go (suc n) e z = omega arith

-- a delivered part that is one byte too long, or more
pub part_too_long : (received part : List ℕ) (answer : Answer) → answer.delivered_length < length part
    → part ≡ take answer.delivered_length (drop answer.delivered_place received) → ⊥
part_too_long received part answer long e =
    let n = answer.delivered_length in
    let rest = drop answer.delivered_place received in
    omega (arith, ap length e, length-take n rest, min-le_left n (length rest))
