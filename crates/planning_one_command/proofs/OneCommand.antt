-- The record, from its parts. Assumes nothing.
use mathlib.Core.Path.{◌≡◌, refl, sym, ap, subst, ◌∙◌}
use mathlib.Core.Logic.{◌≢◌, ⊎_elim}
use mathlib.Core.Bool.{Bool, true, false, false≢true}
use mathlib.Core.Option.{Option, none, some}
use mathlib.Core.List.{List, [], ◌∷◌, ◌++◌, map, Memᴰ, Nodup}
use Prim.Native.Nat.{ℕ, ◌+◌, ◌*◌, ◌≤◌}
use native.Mathlib.Nat.{mul-le-mul, mul-add, mul_assoc, mul-one}
use native.Mathlib.Omega.{arith}
use borrow.Author.Tests.{eq-eqb}
use lib.Dec.{eqb}
use lib.ListN.{length, get_elem?, replicate}
use Rattle.pdu.specs.declared.Destination.{Destination}
use Rattle.pdu.specs.declared.Header.{Header}
use Rattle.pdu.specs.Header.{header_of, source_of}
use Rattle.bound.specs.Bound.{bound}
use Rattle.bound.specs.Command.{command_bound}
use Rattle.origin.specs.declared.FreshSettings.{FreshSettings}
use Rattle.origin.specs.Origination.{fresh_header, fresh}
use Rattle.decision.specs.Decision.{is_for_own}
use Rattle.retained.specs.Records.{names_of}
use Rattle.acknowledgements.specs.Delivered.{ack_header}
use Rattle.retry_termination.specs.History.{RetrySettings}
use Rattle.retry_termination.proofs.Ends.{ending}
use Rattle.retry_termination.proofs.Sendings.{ack_alone_shows}
use Rattle.flood.specs.Air.{Repeater, address, sends, hop_of, on_the_air, repeaters, Nodes, Begins, Originated}
use Rattle.flood.specs.Flood.{Reception, flood, answer, total}
use Rattle.flood.proofs.Fresh.{originated_begins, fresh_shows, fresh_hop}
use Rattle.flood.proofs.Lists.{total_one}
use Rattle.flood.proofs.Repeaters.{repeaters_are}
use Rattle.several_messages.specs.SeveralMessages.{Event, Sent, Heard, together, messages_in, receptions_in, all_on_the_air, OnlyHeard, counted_for}
use Rattle.several_messages.specs.SeveralMessages.{most_of, most_bytes_of, air_of_message, air_bytes_of_message}
use Rattle.several_messages.proofs.Several.{Anyone, InRange, alone, alone_bytes, alone_heard, alone_heard_bytes}
use Rattle.several_messages.proofs.Several.{together_within, together_bytes, together_heard, together_heard_bytes}
use Rattle.several_messages.proofs.Sums.{Alone, OnlyTaken}
use Rattle.planning_one_command.specs.Boxes.{Box, repeaters_of, all_sent, commands_in, replies_in, Command, reply_to, replies_of, Carried, Retried}
use Rattle.planning_one_command.specs.OneCommand.{OneCommand, Within}
use Rattle.planning_one_command.proofs.Again.{each_counts, carried, asked_for, reached_bytes, twelve, two_messages, once_again, retried}
use Rattle.planning_one_command.proofs.Apart.{asks_is, asks_only, reply_apart, originated_more, only_heard, in_c, in_c_only}
use Rattle.planning_one_command.proofs.Boxing.{box_writes, box_answers, box_answers_only}
use Rattle.planning_one_command.proofs.Cases.{one_sending, run, of_order, of_reply, reached_asked}
use Rattle.planning_one_command.proofs.Commands.{commands_few, replies_few, counted}
use Rattle.planning_one_command.proofs.Traffic.{all_few}

-- one message alone
alone_is : (nodes : List Repeater) (log : List (List ℕ)) (taken : List Reception)
    → together sends nodes log (map Heard taken) ≡ flood sends nodes log taken
unfolding together flood
alone_is nodes log [] = refl
alone_is nodes log (r ∷ taken) =
    go (answer sends (get_elem? nodes r.node) (get_elem? log r.transmission)) (λ log'. alone_is nodes log' taken)
  where
    go : (o : Option (List ℕ)) → ((log' : List (List ℕ)) → together sends nodes log' (map Heard taken) ≡ flood sends nodes log' taken)
        → ◌≡◌ {A = List (List ℕ)}
        (elim o [ none ↦ together sends nodes log (map Heard taken) | some s ↦ together sends nodes (log ++ (s ∷ [])) (map Heard taken) ])
        (elim o [ none ↦ flood sends nodes log taken | some s ↦ flood sends nodes (log ++ (s ∷ [])) taken ])
    go none rest = rest log
    go (some s) rest = rest (log ++ (s ∷ []))

one_message : (nodes : List Repeater) (first : List ℕ) (taken : List Reception)
    → all_on_the_air nodes (Sent first ∷ map Heard taken) ≡ on_the_air nodes first taken
unfolding together
one_message nodes first taken = alone_is nodes (first ∷ []) taken

of_originated : (nodes : List Repeater) (settings : FreshSettings) (payload : List ℕ) (room : ℕ) → Originated settings payload room
    → Begins (fresh settings payload)
    × (most_of nodes (fresh settings payload) ≡ bound (length (repeaters (fresh_header settings (length payload)) nodes)) settings.hop_limit)
of_originated nodes settings payload room message = (
  originated_begins settings payload room message,
  λ i. bound (length (repeaters (sym (fresh_shows settings payload room message) i) nodes)) (fresh_hop settings payload room message i),
)

-- at most as many sendings as the set number of tries and one
at_most : (s : RetrySettings) (bytes : List ℕ) (sendings : ℕ) → Retried s bytes sendings → sendings ≤ s.tries + 1
at_most s bytes sendings r =
    omega (arith, r.as_sent, (ending s (names_of bytes) r.table r.last r.operations r.free).sent_at_most)

-- so many sendings, put together
summed : (sendings tries most answers bytes answerBytes : ℕ) (log : List (List ℕ)) → sendings ≤ tries + 1
    → length log ≤ sendings * (most + most * answers) → commands_in log ≤ sendings * most → replies_in log ≤ sendings * (most * answers)
    → total length log ≤ sendings * (bytes + most * answerBytes) → Within tries most answers bytes answerBytes log
summed sendings tries most answers bytes answerBytes log few all commands replies octets =
    let one : sendings * (most + most * answers) ≤ (tries + 1) * (most + most * answers) = mul-le-mul few (omega arith) in
    let two : sendings * most ≤ (tries + 1) * most = mul-le-mul few (omega arith) in
    let three : sendings * (most * answers) ≤ (tries + 1) * (most * answers) = mul-le-mul few (omega arith) in
    let four : sendings * (bytes + most * answerBytes) ≤ (tries + 1) * (bytes + most * answerBytes) = mul-le-mul few (omega arith) in
    let split : (tries + 1) * most * (1 + answers) ≡ (tries + 1) * (most + most * answers) =
    mul_assoc (tries + 1) most (1 + answers) ∙ ap (λ (n : ℕ). (tries + 1) * n) (mul-add most 1 answers ∙ ap (λ (n : ℕ). n + most * answers) (mul-one most)) in (
      omega (arith, all, one, split),
      omega (arith, commands, two),
      omega (arith, replies, three, mul_assoc (tries + 1) most answers),
      omega (arith, octets, four),
    )

module _ (boxes : List Box) (all : Nodes (repeaters_of boxes)) (there : Box) (bytes : List ℕ) (c : Command boxes there bytes) (s : RetrySettings)
    (sendings : ℕ) (r : Retried s bytes sendings) (events : List (Event (List ℕ))) (sent : messages_in events ≡ replicate sendings bytes)
    (once : Nodup (receptions_in events)) where
  abbrev nodes : List Repeater
  nodes = repeaters_of boxes

  -- over any bounds of one message alone
  module _ (Hears : Repeater → List ℕ → Type 0) (most most_bytes : List ℕ → ℕ)
      (one : (m : List ℕ) → Begins m → Alone sends (repeaters_of boxes) Hears (λ t. 1) m (most m))
      (two : (m : List ℕ) → Begins m → Alone sends (repeaters_of boxes) Hears length m (most_bytes m))
      (only : OnlyTaken sends (repeaters_of boxes) Hears (all_sent boxes events) (receptions_in events)) where
    within : Within s.tries (most bytes) (most (reply_to there bytes)) (most_bytes bytes) (most_bytes (reply_to there bytes)) (all_sent boxes events)
    within =
        summed sendings s.tries (most bytes) (most (reply_to there bytes)) (most_bytes bytes) (most_bytes (reply_to there bytes)) (all_sent boxes events)
        (at_most s bytes sendings r)
        (omega (
          arith,
          total_one (all_sent boxes events),
          counted boxes all there bytes c Hears most one events once sendings sent only (λ t. 1) most one,
        ))
        (commands_few boxes all there bytes c Hears most one events once sendings sent only)
        (replies_few boxes all there bytes c Hears most one events once sendings sent only)
        (counted boxes all there bytes c Hears most one events once sendings sent only length most_bytes two)

  of_command : Within s.tries (most_of nodes bytes) (most_of nodes (reply_to there bytes)) (most_bytes_of nodes bytes)
      (most_bytes_of nodes (reply_to there bytes)) (all_sent boxes events)
  of_command =
      within Anyone (most_of nodes) (most_bytes_of nodes) (λ m b. alone nodes all m b) (λ m b. alone_bytes nodes all m b) (λ q m n n-at t t-at. tt)

  of_command_heard : (hears : ℕ → ℕ → Bool) → OnlyHeard hears nodes (all_sent boxes events) (receptions_in events)
      → Within s.tries (air_of_message nodes bytes hears) (air_of_message nodes (reply_to there bytes) hears) (air_bytes_of_message nodes bytes hears)
      (air_bytes_of_message nodes (reply_to there bytes) hears) (all_sent boxes events)
  of_command_heard hears only =
      within (InRange hears) (λ m. air_of_message nodes m hears) (λ m. air_bytes_of_message nodes m hears) (λ m b. alone_heard nodes all m b hears)
      (λ m b. alone_heard_bytes nodes all m b hears) only

-- any traffic, over any bounds of one message alone
module _ (boxes : List Box) (all : Nodes (repeaters_of boxes)) (events : List (Event (List ℕ)))
    (carried : (m : List ℕ) → Memᴰ m (messages_in events) → Carried boxes m) (once : Nodup (receptions_in events))
    (Hears : Repeater → List ℕ → Type 0) (most most_bytes : List ℕ → ℕ)
    (one : (m : List ℕ) → Begins m → Alone sends (repeaters_of boxes) Hears (λ t. 1) m (most m))
    (two : (m : List ℕ) → Begins m → Alone sends (repeaters_of boxes) Hears length m (most_bytes m))
    (only : OnlyTaken sends (repeaters_of boxes) Hears (all_sent boxes events) (receptions_in events)) where
  of_traffic : (length (all_sent boxes events) ≤ total (λ m. most m + most m * replies_of most boxes m) (messages_in events))
      × (total length (all_sent boxes events) ≤ total (λ m. most_bytes m + most m * replies_of most_bytes boxes m) (messages_in events))
  of_traffic = (
    omega (arith, total_one (all_sent boxes events), all_few boxes all Hears most one events once carried only most (λ t. 1) one),
    all_few boxes all Hears most one events once carried only most_bytes length two,
  )

reply_bound : (nodes : List Repeater) (there : Box) (bytes : List ℕ) → there.sending.hop_limit ≤ 7 → there.sending.port ≤ 15
    → most_of nodes (reply_to there bytes) ≡ bound (length (repeaters (ack_header there.sending (names_of bytes)) nodes)) there.sending.hop_limit
reply_bound nodes there bytes hop port =
    ap (λ (h : Header). bound (length (repeaters h nodes)) h.hop_limit) (ack_alone_shows there.sending (names_of bytes) hop port)

both_apart : (boxes : List Box) (there : Box) (bytes : List ℕ) → Command boxes there bytes → (n : Repeater)
    → Memᴰ n (counted_for (repeaters_of boxes) bytes) → (address n ≢ source_of bytes) × (address n ≢ address there.repeater)
both_apart boxes there bytes c n m =
    let can = (repeaters_are (header_of bytes) (repeaters_of boxes) m).1 in (
      can.not_source,
      λ same. false≢true (sym can.for_another ∙ ap (λ (d : Destination). is_for_own (address n) d) c.for_it
          ∙ eq-eqb (address there.repeater) (address n) (sym same)),
    )

pub one_command : OneCommand
one_command =
    record {
      together = λ nodes all events fresh once. (together_within nodes all events fresh once, together_bytes nodes all events fresh once);
      together_heard = λ hears nodes all events fresh once only.
          (together_heard nodes all events fresh once hears only, together_heard_bytes nodes all events fresh once hears only);
      originated = of_originated;
      originated_more = originated_more;
      only_heard = only_heard;
      one_message = one_message;
      traffic = λ boxes all events carried once.
          of_traffic boxes all events carried once Anyone (most_of (repeaters_of boxes)) (most_bytes_of (repeaters_of boxes))
          (λ m b. alone (repeaters_of boxes) all m b) (λ m b. alone_bytes (repeaters_of boxes) all m b) (λ q m n n-at t t-at. tt);
      traffic_heard = λ hears boxes all events carried once only.
          of_traffic boxes all events carried once (InRange hears) (λ m. air_of_message (repeaters_of boxes) m hears)
          (λ m. air_bytes_of_message (repeaters_of boxes) m hears) (λ m b. alone_heard (repeaters_of boxes) all m b hears)
          (λ m b. alone_heard_bytes (repeaters_of boxes) all m b hears) only;
      command = λ boxes all there bytes c s sendings r events sent once. of_command boxes all there bytes c s sendings r events sent once;
      command_heard = λ hears boxes all there bytes c s sendings r events sent once only.
          of_command_heard boxes all there bytes c s sendings r events sent once hears only;
      reply_bound = reply_bound;
      both_apart = both_apart;
      reply_apart = reply_apart;
      asks_is = asks_is;
      asks_only = asks_only;
      in_c = in_c;
      in_c_only = in_c_only;
      box_writes = box_writes;
      box_answers = λ box table last received long e. box_answers box table last received long e;
      box_answers_only = λ box table last received long e. box_answers_only box table last received long e;
      command_asked = λ boxes there bytes small fit bit member to path.
          record { all_bytes = small; retainable = fit; path_bit_lem = bit; among = member; for_it = to; reply_path = path };
      carried_asked = λ boxes bytes begins path. record { begins = begins; replies_path = path };
      retried_asked = λ s bytes sendings table last operations free sent.
          record { table = table; last = last; operations = operations; free = free; as_sent = sent };
      one_sending = one_sending;
      each_counts = each_counts;
      reached = (run, of_order, of_reply, refl);
      reached_asked = reached_asked;
      reached_split = (carried.0, carried.1, asked_for.0, asked_for.1);
      reached_bytes = reached_bytes;
      reached_again = (twelve, refl, retried, two_messages, once_again);
    }
