-- The three demands, each from its parts.
use Prim.Native.Nat.{ℕ, ◌^◌, ◌≤◌, ◌<◌}
use native.Mathlib.Omega.{arith}
use mathlib.Core.Bool.{Bool, true, false, cond, ◌||◌}
use mathlib.Core.List.{List, [], ◌∷◌, ◌++◌, map}
use mathlib.Core.Logic.{◌≢◌, ◌⊎◌}
use mathlib.Core.Path.{◌≡◌, refl, ap, sym, ◌∙◌}
use lib.Dec.{ltb}
use lib.ListN.{length, take, drop}
use borrow.Author.Tests.{ne_eqb, eqb-false, lt-ltb, le-ltb}
use Rattle.std.specs.Prelude.{Result, Ok, Err, None}
use Rattle.octets.specs.Octets.{AllBytes, over}
use Rattle.pdu.specs.declared.Destination.{Destination}
use Rattle.pdu.specs.declared.Destination.TheVariants.{Everyone, Address}
use Rattle.pdu.specs.declared.Header.{Header}
use Rattle.pdu.specs.declared.Written.{Written}
use Rattle.pdu.specs.Sizes.{pdu_limit, pdu_length}
use Rattle.pdu.specs.declared.Refusal.{Refusal}
use Rattle.pdu.specs.Reading.{read_of, refusal_number}
use Rattle.pdu.proofs.Number.{refusal_within}
use Rattle.pdu.specs.Parts.{path_in, payload_in}
use Rattle.writing.specs.Writing.{encode, written_of, output_of, write_again, written_again}
use Rattle.editions.specs.Editions.{known}
use Rattle.view.proofs.Opened.{opened_summary, opened_address, opened_has}
use Rattle.origin.specs.declared.FreshSettings.{FreshSettings}
use Rattle.origin.specs.Origination.{settings_fault, origination_number, originated, originated_output}
use Rattle.lists.specs.Lists.{list_fault}
use Rattle.lists.proofs.Laying.{holds_laid}
use Rattle.decision.specs.Decision.{Node, is_for_own, repeat_fault}
use Rattle.node.specs.Repeat.{repeated_header, repeated}
use Rattle.node.specs.declared.Answer.{Answer}
use Rattle.node.specs.Answers.{node_fault, node_or_reading_fault, repeat_number, answer_of, given_twice, output_after, Hears}
use Rattle.node.proofs.Faults.{unknown_fault, known_fault, no_fault, fault_answer, fault_output, unread_answer, unread_output, reading_unread}
use Rattle.batch.specs.declared.Cursor.{Cursor}
use Rattle.batch.specs.declared.Stepped.TheVariants.{TooLong, Ended, Answered}
use Rattle.batch.proofs.Stepping.{not_too_long}
use Rattle.batch.specs.Walk.{batch_limit, is_too_long, is_done, next_cursor, step_of, step_output, ending_at, walk_from, walk}
use Rattle.origin.proofs.ReadBack.{fresh_back}
use Rattle.origin.proofs.Deciding.{edition_refused, hop_refused, refused_early}
use Rattle.writing.proofs.Same.{written_same, shown_well_formed}
use Rattle.writing.proofs.Back.{read_encode, path_encode, payload_encode}
use Rattle.node.proofs.Heard.{repeats, delivered_part}
use Rattle.node.proofs.Repeating.{ready}
use Rattle.node.proofs.Encoded.{alone_reads, alone_path, alone_payload, repeat_short}
use Rattle.batch.proofs.Walking as walking
use Rattle.bound.specs.Answer.{within64_bits, bound_answer}
use Rattle.boundary.specs.Boundary.{bound_in_c}
use Rattle.bound.proofs.Series.{bound_more}
use Rattle.bound.proofs.Values.{bound_3_2, bound_3_6, bound_3_7, bound_no_hops, bound_no_nodes}
use Rattle.flood.specs.Air.{address}
use Rattle.flood.proofs.Counting.{demand_3, demand_3_bytes}
use Rattle.flood.proofs.Counting as counting
use Rattle.flood.proofs.Demand as demand
use Rattle.flood.proofs.Exact as exact
use Rattle.flood.proofs.Fresh.{originated_begins, fresh_source, fresh_hop, fresh_destination, fresh_shows}
use Rattle.flood.proofs.Repeaters.{repeaters_are, are_repeaters}
use Rattle.flood.proofs.Sent.{sent_written, none_written}
use Rattle.base_demands.proofs.Behind.{behind}
use Rattle.base_demands.proofs.Putting.{put_untouched, put_reads_back, well_formed_put}
use Rattle.base_demands.specs.Demands.{Demand1, Demand2, Demand3}

written_as_was : (reading : Result Header Refusal) (bytes output : List ℕ) → ((written_of reading (length output)).number ≡ 0 → ⊥)
    → output_of reading bytes output ≡ output
written_as_was (Err refusal) bytes output ne = refl
written_as_was (Ok header) bytes output ne = go (ltb (length output) (pdu_length header)) ne
  where
    go : (t : Bool) → (◌≡◌ {A = ℕ}
        (cond {A = Written} t (record { number = 14; length = 0 }) (record { number = 0; length = pdu_length header })).number 0 → ⊥)
        → cond t output (over (encode header (path_in header bytes) (payload_in header bytes)) output) ≡ output
    go true n = refl
    go false n = absurd (n refl)

writing_as_was : (bytes output : List ℕ) → ((write_again bytes (length output)).number ≡ 0 → ⊥) → written_again bytes output ≡ output
unfolding write_again written_again
writing_as_was bytes output ne = written_as_was (read_of bytes) bytes output ne

node_as_was : (node : Node) (received output : List ℕ) → (repeat_number node (length output) received ≡ 0 → ⊥)
    → output_after node received output ≡ output
unfolding output_after
node_as_was node received output ne = rw (ne_eqb (repeat_number node (length output) received) 0 ne)

step_as_was : (node : Node) (batch : List ℕ) (cursor : Cursor) (output : List ℕ)
    → ((answer : Answer) (next : Cursor) → step_of node (length output) batch cursor ≡ Answered answer next → answer.repeat ≡ 0 → ⊥)
    → step_output node batch cursor output ≡ output
unfolding step_of step_output answer_of
step_as_was node batch cursor output ne = go (is_too_long node.settings.edition batch) (is_done batch cursor) ne
  where
    go : (long done : Bool)
        → ((answer : Answer) (next : Cursor)
        → cond long TooLong (cond done Ended
        (Answered (answer_of node (length output) (drop cursor.place batch)) (next_cursor node batch cursor.place)))
        ≡ Answered answer next → answer.repeat ≡ 0 → ⊥)
        → cond (long || done) output (output_after node (drop cursor.place batch) output) ≡ output
    go true done n = refl
    go false true n = refl
    go false false n = node_as_was node (drop cursor.place batch) output (n _ _ refl)

too_many_hops : (settings : FreshSettings) (payload output : List ℕ) → 7 < settings.hop_limit
    → (originated settings payload (length output) ≡ record { number = cond (known settings.edition) 10 17; length = 0 })
    × (originated_output settings payload output ≡ output)
unfolding originated originated_output
too_many_hops settings payload output h = go (known settings.edition) refl
  where
    early : (number : ℕ) → number ≡ settings_fault settings payload → 0 < number
        → (originated settings payload (length output) ≡ record { number = number; length = 0 }) × (originated_output settings payload output ≡ output)
    early number e some =
        let refused = refused_early settings payload (length output) number e some in
        rw (refused, ne_eqb number 0 (λ z. omega arith)) (refl, refl)

    go : (named : Bool) → known settings.edition ≡ named
        → (originated settings payload (length output) ≡ record { number = cond named 10 17; length = 0 })
        × (originated_output settings payload output ≡ output)
    go true e = early 10 (hop_refused settings payload e h) (omega arith)
    go false e = early 17 (edition_refused settings payload e) (omega arith)

-- a fault of the edition or of the lists
refused : (node : Node) (received output : List ℕ) (n : ℕ) → (n ≡ 0 → ⊥) → node_fault node ≡ n → Hears node received output (given_twice n 0 None) output
refused node received output n some fault =
    (sym (fault_answer node n some fault received (length output)), sym (fault_output node n some fault received output))

unreadable : (node : Node) (received output : List ℕ) (refusal : Refusal) → node_fault node ≡ 0 → read_of received ≡ Err refusal
    → Hears node received output (given_twice (refusal_number refusal) 0 None) output
unreadable node received output refusal clean e =
    let some : refusal_number refusal ≡ 0 → ⊥ = λ z. omega (arith, z, (refusal_within refusal).0) in
    let unread = reading_unread node received refusal clean e in
    (sym (unread_answer node _ some received unread (length output)), sym (unread_output node _ some received unread output))

pub total : Demand1
unfolding originated originated_output
total =
    record {
      hop_refused = λ settings payload output h. too_many_hops settings payload output h;
      origination_untouched = λ settings payload output ne. rw (ne_eqb (origination_number settings payload (length output)) 0 ne);
      writing_untouched = λ bytes output ne. writing_as_was bytes output ne;
      header_untouched = put_untouched;
      node_untouched = λ node received output ne. node_as_was node received output ne;
      step_untouched = λ node batch cursor output ne. step_as_was node batch cursor output ne;
      edition_refused = λ node received output e. refused node received output 17 (omega arith) (unknown_fault node e);
      lists_refused = λ node received output e some. refused node received output (list_fault node.lists) some (known_fault node e);
      reading_refused = λ node received output refusal is_Known clean e. unreadable node received output refusal (no_fault node is_Known clean) e;
      any_lists = holds_laid;
    }

again_same : (bytes output : List ℕ) (header : Header) → AllBytes bytes → read_of bytes ≡ Ok header → pdu_length header ≤ length output
    → (write_again bytes (length output) ≡ record { number = 0; length = pdu_length header })
    × (written_again bytes output ≡ over (take (pdu_length header) bytes) output)
unfolding write_again written_again
again_same bytes output header small e fits =
    let room = le-ltb (length output) (pdu_length header) fits in
    (rw (e, room), rw (e, room) (ap (λ (front : List ℕ). over front output) (written_same bytes header small e)))

same_header : (a b : Header) → ◌≡◌ {A = Result Header Refusal} (Ok a) (Ok b) → a ≡ b
same_header a b e = cc

repeat_back : (node : Node) (room : ℕ) (received : List ℕ) (header : Header) → AllBytes received → read_of received ≡ Ok header
    → repeat_number node room received ≡ 0
    → (read_of (repeated node.settings.own received) ≡ Ok (repeated_header header))
    × (path_in (repeated_header header) (repeated node.settings.own received)
    ≡ path_in header received ++ cond header.path_bit (node.settings.own ∷ []) [])
    × (payload_in (repeated_header header) (repeated node.settings.own received) ≡ payload_in header received)
    × (length (repeated node.settings.own received) ≤ pdu_limit)
repeat_back node room received header small e z =
    let r = repeats node room received z in
    let same : r.header ≡ header = same_header r.header header (sym r.read ∙ e) in
    let ok = ready node.settings received header e (ap (repeat_fault node.settings) (sym same) ∙ r.repeats) in (
      alone_reads received header small e ok node.settings.own,
      alone_path received header small e ok node.settings.own,
      alone_payload received header small e ok node.settings.own,
      repeat_short received header small e ok node.settings.own,
    )

walk_answers : (node : Node) (room : ℕ) (batch : List ℕ)
    → (walk node room batch).answers ≡ map (λ (offset : ℕ). answer_of node room (drop offset batch)) (walk node room batch).offsets
unfolding walk
walk_answers node room batch = go (is_too_long node.settings.edition batch)
  where
    go : (long : Bool)
        → (cond long (ending_at 54 0) (walk_from (length batch) node room batch 0)).answers
        ≡ map (λ (offset : ℕ). answer_of node room (drop offset batch)) (cond long (ending_at 54 0) (walk_from (length batch) node room batch 0)).offsets
    go true = refl
    go false = walking.answers_at node room batch (length batch) 0

walk_ends : (node : Node) (room : ℕ) (batch : List ℕ) → length batch ≤ batch_limit
    → (length batch ≤ (walk node room batch).end) ⊎ (node_or_reading_fault node (drop (walk node room batch).end batch) ≡ 0 → ⊥)
unfolding walk
walk_ends node room batch short = rw (not_too_long node batch short) (walking.walk_complete node room batch (length batch) 0 (omega arith))

pub exactly : Demand2
exactly =
    record {
      written_again_lem = λ bytes output header small e fits. again_same bytes output header small e fits;
      reads_back = λ header path payload rest ok. (read_encode ok rest, path_encode ok rest, payload_encode ok rest);
      fresh_reads_back = λ settings payload rest room e.
          let back = fresh_back settings payload room e rest in
          (back.reads, back.no_path, back.carries);
      put_reads_back = put_reads_back;
      well_formed_put = well_formed_put;
      read_well_formed = λ bytes header small e. shown_well_formed bytes header small e;
      path_asked = λ bytes header i address e. rw e (refl, refl);
      no_path_asked = λ bytes refusal i address e. rw e (refl, refl);
      view_17 = λ bytes span edition e. rw e refl;
      view_refused = λ bytes span edition e some. rw (e, ne_eqb span.number 0 some) refl;
      view_shows = λ bytes span edition e none. rw (e, none) refl;
      opened_summary = opened_summary;
      opened_path = λ bytes i address. (opened_address bytes i, opened_has bytes address);
      opened_payload = λ bytes header e. rw e refl;
      repeat_reads_back = λ node room received header small e z. repeat_back node room received header small e z;
      delivered_part = λ node room received. delivered_part node room received;
      behind = behind;
      stepping_walks = λ node room batch. walking.stepping_walks node room batch;
      walk_answers = λ node room batch. walk_answers node room batch;
      walk_ends = λ node room batch short. walk_ends node room batch short;
      limits_in_c_lem = refl;
    }

-- a bound as C is told it
bound_in_c_lem : (hop value : ℕ)
    → (7 < hop → bound_in_c (bound_answer hop value) ≡ record { number = 10; too_large = false; value = 0 })
    × (hop ≤ 7 → value < 2 ^ 64 → bound_in_c (bound_answer hop value) ≡ record { number = 0; too_large = false; value = value })
    × (hop ≤ 7 → 2 ^ 64 ≤ value → bound_in_c (bound_answer hop value) ≡ record { number = 0; too_large = true; value = 0 })
unfolding bound_answer within64_bits
bound_in_c_lem hop value = (
  λ h. rw (lt-ltb 7 hop h) refl,
  λ h small. rw (le-ltb 7 hop h, lt-ltb value (2 ^ 64) small) refl,
  λ h large. rw (le-ltb 7 hop h, le-ltb value (2 ^ 64) large) refl,
)

-- a destination that is not the own address
apart_from : (own : ℕ) (to : Destination) → is_for_own own to ≡ false → to ≢ Address own
apart_from own Everyone other e = let w : ◌≡◌ {A = ℕ} 0 1 = cc in omega arith
apart_from own (Address a) other e = let same : a ≡ own = same_address a own e in eqb-false a own other same
  where
    same_address : (a b : ℕ) → Address a ≡ Address b → a ≡ b
    same_address a b e = cc

for_another : (own : ℕ) (to : Destination) → to ≢ Address own → is_for_own own to ≡ false
for_another own Everyone apart = refl
for_another own (Address a) apart = ne_eqb a own (λ e. apart (ap Address e))

pub bounded : Demand3
bounded =
    record {
      bounded = λ nodes all settings payload room message receptions once. demand_3 nodes all settings payload room message receptions once;
      bytes_bounded =
          λ nodes all settings payload room message receptions once. demand_3_bytes nodes all settings payload room message receptions once;
      nodes_asked = λ nodes differ each.
          record { addresses_differ = differ; addresses_fit = λ n m. (each n m).0; echo_on = λ n m. (each n m).1 };
      message_asked = λ settings payload room taken path source to id small.
          record { taken = taken; with_path_lem = path; source_fits = source; destination_fits = to; id_fits = id; payload_fits = small };
      open_asked = λ node edition on pass reject to-pass to-reject clean.
          record {
            edition_known = edition;
            repeating_on = on;
            source_pass_off = pass;
            source_reject_off = reject;
            destination_pass_off = to-pass;
            destination_reject_off = to-reject;
            no_list_fault = clean;
          };
      begins_asked = λ first small one bit none. record { all_bytes = small; one_pdu = one; path_bit_lem = bit; path_empty = none };
      heard_asked = λ nodes first before after node transmission made. record { before = before; after = after; split = refl; made = made };
      reached = λ nodes all settings payload room message roomy fits receptions once complete. (
        exact.reached nodes all settings payload room message roomy fits receptions once complete,
        exact.reached_bytes nodes all settings payload room message roomy fits receptions once complete,
      );
      more_nodes = bound_more;
      values = (bound_3_2, bound_3_6, bound_3_7, bound_no_hops, bound_no_nodes);
      in_c = bound_in_c_lem;
      schedule = λ nodes all settings payload room message. demand.schedule nodes all settings payload room message;
      begun_bounded = λ nodes all first begins receptions once.
          (counting.begun_bounded nodes all first begins receptions once, counting.begun_bytes nodes all first begins receptions once);
      counted = λ header nodes n m.
          let (n-in, can) = repeaters_are header nodes m in
          (n-in, can.clean, can.not_source, can.lets_pass, apart_from (address n) header.destination can.for_another, can.repeating_on);
      counted_only = λ header nodes n m clean other pass apart on.
          are_repeaters header nodes m
          (record {
            clean = clean;
            not_source = other;
            lets_pass = pass;
            for_another = for_another (address n) header.destination apart;
            repeating_on = on;
          });
      originated_begins = λ settings payload room message. (
        originated_begins settings payload room message,
        fresh_source settings payload room message,
        fresh_hop settings payload room message,
        fresh_destination settings payload room message,
        sym (fresh_shows settings payload room message),
      );
      sent_is_left = λ n received output sent long e. sent_written n received output long sent e;
      silent_is_left = λ n received output long e. none_written n received output long e;
    }
