-- What C sees of a node's answer, from what the node answers with the settings that C gave; and of a network's count.
use Prim.Native.Nat.{ℕ, ◌+◌, ◌≤◌, ◌<◌}
use native.Mathlib.Omega.{arith}
use mathlib.Core.Bool.{false, cond}
use mathlib.Core.List.{List}
use mathlib.Core.Path.{◌≡◌, refl, ap, ap₂, ◌∙◌, subst}
use lib.Dec.{eqb, ltb}
use lib.ListN.{length, drop}
use Rattle.std.specs.Prelude.{Option, None, Some}
use Rattle.lists.specs.Lists.{Lists}
use Rattle.decision.specs.declared.Settings.{Settings}
use Rattle.decision.specs.Decision.{Node, node_of}
use Rattle.node.specs.declared.Answer.{Answer}
use Rattle.node.specs.Answers.{delivery_number, answer_of, output_after, Hears}
use Rattle.retained_operations.specs.declared.Ask.{Ask}
use Rattle.acknowledgements.specs.declared.Sending.{Sending}
use Rattle.acknowledgements.specs.Delivered.{output_acknowledged}
use Rattle.acknowledgements.specs.Hearing.{output_heard}
use Rattle.acknowledgements.specs.Responding.{ask_acknowledge}
use Rattle.acknowledgements.proofs.Room.{same_room}
use Rattle.batch.specs.declared.Cursor.{Cursor}
use Rattle.batch.specs.declared.Stepped.{Stepped}
use Rattle.batch.specs.Walk.{is_too_long, Steps}
use Rattle.batch.proofs.Stepping.{within_batch, answered}
use Rattle.node_stations.specs.CountedAnswers.{answer_number, memory_after_answer}
use Rattle.ways.specs.declared.Airtime.{Airtime}
use Rattle.ways.specs.declared.Airtime.TheVariants.{HopRefused, NotServed}
use Rattle.ways.specs.Answer.{Counts}
use Rattle.boundary.specs.declared.planning.MantAirtime.{MantAirtime}
use Rattle.boundary.specs.declared.a_node.MantNode.{MantNode}
use Rattle.boundary.specs.declared.a_node.MantAnswer.{MantAnswer}
use Rattle.boundary.specs.declared.a_walk.MantStep.{MantStep}
use Rattle.boundary.specs.Boundary.{has_sender, sender_address, sender_from_c, node_from_c, answer_in_c, answer_from_c, HearsInC, ListensInC, step_in_c, StepsInC}
use Rattle.boundary.specs.Boundary.{airtime_in_c, CountsInC, BytesInC}

pub heard_in_c : (given : MantNode) (settings : Settings) (lists : Lists) (received output left : List ℕ) (answer : Answer) (told : MantAnswer)
    → settings ≡ node_from_c given → Hears (node_of settings lists) received output answer left → told ≡ answer_in_c answer
    → HearsInC (node_of (node_from_c given) lists) received output told left
heard_in_c given settings lists received output left answer told is heard e = (
  e ∙ ap answer_in_c heard.0 ∙ ap (λ (s : Settings). answer_in_c (answer_of (node_of s lists) (length output) received)) is,
  heard.1 ∙ ap (λ (s : Settings). output_after (node_of s lists) received output) is,
)

abbrev step_to : Cursor → MantAnswer → MantStep
step_to cursor told =
    record { kind = 0; answer = told; next = record { place = cursor.place + told.taken; ended = eqb told.taken 0 } }

-- a step of a walk, as C is told of it
module _ (node : Node) (batch output : List ℕ) (cursor : Cursor) where
  pub stepped_in_c : (stepped : Stepped) (left : List ℕ) (told : MantStep) → Steps node batch cursor output stepped left
      → told ≡ step_in_c cursor stepped → StepsInC node batch cursor output told left
  stepped_in_c stepped left told went e = (e ∙ ap (step_in_c cursor) went.0, went.1)

  -- with the PDU at the cursor heard
  module _ (short : is_too_long node.settings.edition batch ≡ false) (goes : cursor.ended ≡ false) (before : cursor.place < length batch)
      (rest left : List ℕ) (is : rest ≡ drop cursor.place batch) (told : MantAnswer) (heard : HearsInC node rest output told left) where
    abbrev answer : Answer
    answer = answer_of node (length output) rest

    pub next_in_c : cursor.place + told.taken ≤ length batch
    next_in_c =
        let same : told.taken ≡ answer.taken = ap (λ (m : MantAnswer). m.taken) heard.0 in
        omega (arith, same, within_batch node batch output cursor short before answer rest is refl)

    pub answered_in_c : StepsInC node batch cursor output
        (record { kind = 0; answer = told; next = record { place = cursor.place + told.taken; ended = eqb told.taken 0 } }) left
    answered_in_c =
        let went = answered node batch output cursor short goes before answer rest left is (refl, heard.1) in (
          ap (step_to cursor) heard.0 ∙ ap (step_in_c cursor) went.0,
          went.1,
        )

sender_back : (sender : Option ℕ) → sender_from_c (has_sender sender) (sender_address sender) ≡ sender
sender_back None = refl
sender_back (Some address) = refl

answer_back : (answer : Answer) → answer_from_c (answer_in_c answer) ≡ answer
answer_back answer =
    λ i.
    record {
      delivery = answer.delivery;
      repeat = answer.repeat;
      delivered_place = answer.delivered_place;
      delivered_length = answer.delivered_length;
      repeated_length = answer.repeated_length;
      taken = answer.taken;
      last_sender = sender_back answer.last_sender i;
    }

-- a PDU heard and then counted by what was told of it
pub counted_in_c : (node : Node) (received output left memory after : List ℕ) (told : MantAnswer) (number : ℕ)
    → HearsInC node received output told left
    → (number ≡ answer_number (answer_from_c told) received memory) × (after ≡ memory_after_answer (answer_from_c told) received memory)
    → ListensInC node received output memory (record { answer = told; table_number = number }) left after
counted_in_c node received output left memory after told number heard counted =
    let back = ap answer_from_c heard.0 ∙ answer_back (answer_of node (length output) received) in (
      heard,
      counted.0 ∙ ap (λ (a : Answer). answer_number a received memory) back,
      counted.1 ∙ ap (λ (a : Answer). memory_after_answer a received memory) back,
    )

-- a PDU heard, and what it then asks of a table
pub responded_in_c : (given : MantNode) (lists : Lists) (received output left after : List ℕ) (records last : ℕ) (sending : Sending) (told : MantAnswer)
    (ask : Ask)
    → HearsInC (node_of (node_from_c given) lists) received output told left
    → (ask ≡ ask_acknowledge last given.own told.delivery sending (length left) received)
    × (after ≡ output_acknowledged records given.own told.delivery sending received left)
    → let node = node_of (node_from_c given) lists in
    (told ≡ answer_in_c (answer_of node (length output) received))
    × (ask ≡ ask_acknowledge last given.own (delivery_number node (length output) received) sending (length output) received)
    × (after ≡ output_heard node records sending received output)
unfolding answer_of
responded_in_c given lists received output left after records last sending told ask heard asked =
    let node = node_of (node_from_c given) lists in
    let number : told.delivery ≡ delivery_number node (length output) received = ap (λ (m : MantAnswer). m.delivery) heard.0 in
    let long : length left ≡ length output = ap length heard.1 ∙ same_room node received output in (
      heard.0,
      asked.0 ∙ ap₂ (λ (d n : ℕ). ask_acknowledge last given.own d sending n received) number long,
      asked.1 ∙ ap₂ (λ (d : ℕ) (o : List ℕ). output_acknowledged records given.own d sending received o) number heard.1,
    )

-- how often a message goes out on a network, as C is told of it
pub network_in_c : (pairs marks : List ℕ) (from h price growth enough : ℕ) (counts table : List ℕ) (answer : Airtime) (told : MantAirtime)
    (marksNow countsNow tableNow : List ℕ)
    → Counts pairs marks from h price growth enough counts table answer marksNow countsNow tableNow → told ≡ airtime_in_c answer
    → CountsInC pairs marks from h price growth enough counts table told marksNow countsNow tableNow
network_in_c pairs marks from h price growth enough counts table answer told marksNow countsNow tableNow counted e = (
  e ∙ ap airtime_in_c counted.is,
  record { is = refl; marks_kept = counted.marks_kept; counts_are = counted.counts_are; table_is = counted.table_is },
)

-- how many bytes that is, for a size that C gave in 64 bits
module _ (pairs marks : List ℕ) (from h size enough : ℕ) (counts table : List ℕ) (answer : Airtime) (told : MantAirtime) (is : told ≡ airtime_in_c answer) where
  pub bytes_in_c : (narrow : ℕ) (marksNow countsNow tableNow : List ℕ) → size ≤ 65535 → narrow ≡ size
      → Counts pairs marks from h narrow 2 enough counts table answer marksNow countsNow tableNow
      → BytesInC pairs marks from h size enough counts table told marksNow countsNow tableNow
  bytes_in_c narrow marksNow countsNow tableNow small same counted = (
    λ _. network_in_c pairs marks from h size 2 enough counts table answer told marksNow countsNow tableNow
        (subst (λ (n : ℕ). Counts pairs marks from h n 2 enough counts table answer marksNow countsNow tableNow) same counted) is,
    λ large. absurd (omega (arith, small, large)),
  )

  pub oversized_in_c : 65535 < size → answer ≡ cond (ltb 7 h) HopRefused NotServed
      → BytesInC pairs marks from h size enough counts table told marks counts table
  oversized_in_c large refused = (λ small. absurd (omega (arith, small, large)), λ _. (is ∙ ap airtime_in_c refused, refl, refl, refl))
