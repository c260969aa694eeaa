-- W-208 from its parts.
use mathlib.Core.Path.{◌≡◌, refl, ap, sym, subst, ◌∙◌}
use mathlib.Core.Bool.{cond}
use mathlib.Core.List.{List}
use mathlib.Core.Option.{none, some}
use lib.Dec.{eqb}
use Prim.Native.Nat.{ℕ, ◌+◌, ◌*◌, ◌≤◌, min}
use native.Mathlib.Omega.{arith}
use mathlib.Core.Logic.{inr}
use lib.ListN.{length, take, drop}
use Rattle.pdu.specs.Sizes.{pdu_limit}
use Rattle.bound.specs.Bound.{terms}
use Rattle.bound.proofs.Series.{terms_below}
use Rattle.origin.specs.declared.FreshSettings.{FreshSettings}
use Rattle.origin.specs.Origination.{fresh}
use Rattle.node.specs.declared.Answer.{Answer}
use Rattle.node.specs.Repeat.{repeated}
use Rattle.node.specs.Answers.{answer_of, Hears}
use Rattle.flood.specs.Air.{Repeater, address, sends, Originated}
use Rattle.flood.proofs.Exact.{longest}
use Rattle.flood.proofs.Others.{are_others, others_are}
use Rattle.std.specs.Prelude.{Option, Some, None}
use Rattle.chains.specs.Lengths.{is_heard}
use Rattle.chains.specs.Reach.{least_hop}
use Rattle.boundary.specs.Boundary.{least_in_c}
use Rattle.coverage.specs.Delivery.{Delivers}
use Rattle.coverage.proofs.Cases as cases
use Rattle.coverage.proofs.Planned.{reach, schedule, planned_by_lengths}
use Rattle.coverage.proofs.Schedule.{more_heard}
use Rattle.chains.proofs.Hops.{counted, least, least_only, unreachable, unreachable_only}
use Rattle.w208_least_reach.specs.LeastReach.{LeastReach}

own_answer : (n : Repeater) (received output left : List ℕ) (answer : Answer) → length output ≡ n.room → Hears n.node received output answer left
    → answer ≡ answer_of n.node n.room received
own_answer n received output left answer long hears = hears.0 ∙ ap (λ (room : ℕ). answer_of n.node room received) long

answered : (n : Repeater) (received output left payload : List ℕ) (answer : Answer) → length output ≡ n.room
    → Hears n.node received output answer left → Delivers n received payload
    → (answer.delivery ≡ 0) × (take answer.delivered_length (drop answer.delivered_place received) ≡ payload)
answered n received output left payload answer long hears delivers =
    let is = own_answer n received output left answer long hears in
    subst (λ (a : Answer). (a.delivery ≡ 0) × (take a.delivered_length (drop a.delivered_place received) ≡ payload)) (sym is)
    (delivers.number, delivers.part)

answered_only : (n : Repeater) (received output left : List ℕ) (answer : Answer) → length output ≡ n.room
    → Hears n.node received output answer left → answer.delivery ≡ 0
    → Delivers n received (take answer.delivered_length (drop answer.delivered_place received))
answered_only n received output left answer long hears done =
    let is = sym (own_answer n received output left answer long hears) in
    record {
      number = ap (λ (a : Answer). a.delivery) is ∙ done;
      part = ap (λ (a : Answer). take a.delivered_length (drop a.delivered_place received)) is;
    }

sent : (n : Repeater) (received : List ℕ)
    → sends n received ≡ cond (eqb (answer_of n.node n.room received).repeat 0) (some (repeated (address n) received)) none
unfolding sends answer_of
sent n received = refl

-- 8 is told of no hop limit
told_eight : (lengths : List ℕ) (told : Option ℕ) → least_hop lengths ≡ told → least_in_c told ≡ 8 → told ≡ None
told_eight lengths (Some h) is e = let low : h ≤ 7 = (least lengths h is).0 in absurd (omega (arith, low, e))
told_eight lengths None is e = refl

room_enough : (settings : FreshSettings) (payload : List ℕ) (room : ℕ) → Originated settings payload room → settings.hop_limit ≤ 6
    → length (fresh settings payload) + 2 * settings.hop_limit ≤ pdu_limit
room_enough settings payload room message hops =
    let h = settings.hop_limit in
    let all-hops : terms h h ≡ min h h = terms_below h h (λ e. omega (arith, e, hops)) in
    omega (arith, all-hops, longest settings payload room h message.taken (inr (omega arith)))

pub least_reach : LeastReach
unfolding is_heard
least_reach =
    record {
      reach = reach;
      room_enough = room_enough;
      planned_asked = λ nodes settings payload room message everyone hops network each.
          record {
            originated = message;
            no_destination = everyone;
            hops = hops;
            network = network;
            others_open = λ n m. let (n-in, other) = others_are address settings.source nodes m in (each n n-in other).0;
            others_roomy = λ n m. let (n-in, other) = others_are address settings.source nodes m in (each n n-in other).1;
          };
      taken_asked = λ hears nodes first receptions once all. record { once = once; by_all = all };
      hearing_asked = λ hears nodes first receptions reception node node_at sent sent_at hears_sender.
          record { node = node; node_at = node_at; sent = sent; sent_at = sent_at; hears_sender = hears_sender };
      schedule = schedule;
      by_lengths = planned_by_lengths;
      more_heard = more_heard;
      missed_counts = λ h lengths limit. counted h lengths;
      least = least;
      least_only = least_only;
      unreachable = unreachable;
      unreachable_only = unreachable_only;
      in_c = λ lengths is. ap (λ (told : Option ℕ). least_in_c told) is;
      in_c_only = λ lengths e. told_eight lengths (least_hop lengths) refl e;
      in_c_least = λ lengths h is. ap (λ (told : Option ℕ). least_in_c told) is;
      pair = (refl, refl);
      answered = answered;
      answered_only = answered_only;
      sent = sent;
      edition_known = λ nodes settings payload room plan n m other.
          (plan.others_open n (are_others address settings.source nodes m other)).edition_known;
      line_planned = cases.line_planned;
      line_taken = cases.line_taken;
      line_air_lem = cases.line_air_lem;
      line_answers_lem = cases.line_answers_lem;
      line_ends = cases.line_ends;
      line_delivered = cases.line_delivered;
      line_beyond = cases.line_beyond;
      two_ways_planned = cases.two_ways_planned;
      two_ways_taken = cases.two_ways_taken;
      two_ways_answers = cases.two_ways_answers;
      two_ways_ends = cases.two_ways_ends;
      two_ways_delivered = cases.two_ways_delivered;
      two_ways_originator = cases.two_ways_originator;
    }
