-- A log in which nodes answer some of what they hear by fresh messages is one of several messages, the answers among them. Assumes nothing.
use mathlib.Core.Path.{◌≡◌, refl, sym, ap, subst, ◌∙◌}
use mathlib.Core.Logic.{◌⊎◌, inl, inr, ⊎_elim}
use mathlib.Core.Option.{Option, none, some, none-ne-some}
use mathlib.Core.List.Memᴰ
use mathlib.Core.List.{List, [], ◌∷◌, ◌++◌, map, Memᴰ}
use mathlib.Core.List.{Nodup, Nodup-nil, Nodup-cons}
use Prim.Native.Nat.{ℕ, zero, suc, ◌+◌}
use native.Mathlib.Omega.{arith}
use lib.ListN.{length, get_elem?}
use Rattle.flood.specs.Flood.{Reception, answer, total}
use Rattle.flood.proofs.Lists.{apart, nodup_more, at_mem}
use Rattle.several_messages.specs.SeveralMessages.{Event, Sent, Heard, together, receptions_in, messages_in}
use Rattle.several_messages.proofs.Going.{after_sent, after_silence, after_heard, stays_at, who_said}

-- an answer, and the reception that it was to
pub record Reply (Message : Type 0) : Type 0 where
  pub by : Reception
  pub answer : Message

-- a node's own part that repeats, what it answers by a fresh message, and both
module _ {Box Node Message : Type 0} (part : Box → Node) (repeats : Node → Message → Option Message) (answers both : Box → Message → Option Message)
    (is-both : (box : Box) (t : Message) → both box t ≡ elim (answers box t) [ none ↦ repeats (part box) t | some a ↦ some a ]) (boxes : List Box) where
  abbrev nodes : List Node
  nodes = map part boxes

  both_said : (l : List Box) (i : ℕ) (u : Option Message)
      → answer both (get_elem? l i) u
      ≡ elim (answer answers (get_elem? l i) u) [ none ↦ answer repeats (get_elem? (map part l) i) u | some a ↦ some a ]
  unfolding answer
  both_said [] i u = refl
  both_said (x ∷ l) zero none = refl
  both_said (x ∷ l) zero (some t) = is-both x t
  both_said (x ∷ l) (suc i) u = both_said l i u

  part_said : (i : ℕ) (l : List Box) (u : Option Message)
      → answer (λ (b : Box). repeats (part b)) (get_elem? l i) u ≡ answer repeats (get_elem? (map part l) i) u
  unfolding answer
  part_said i [] u = refl
  part_said zero (x ∷ l) none = refl
  part_said zero (x ∷ l) (some t) = refl
  part_said (suc i) (x ∷ l) u = part_said i l u

  abbrev answered_by : List Message → Reception → Option Message
  answered_by log r = answer answers (get_elem? boxes r.node) (get_elem? log r.transmission)

  abbrev repeated_by : List Message → Reception → Option Message
  repeated_by log r = answer repeats (get_elem? nodes r.node) (get_elem? log r.transmission)

  abbrev said : List Message → Reception → Option Message
  said log r = answer both (get_elem? boxes r.node) (get_elem? log r.transmission)

  said_answer : (log : List Message) (r : Reception) (a : Message) → answered_by log r ≡ some a → said log r ≡ some a
  said_answer log r a e =
      both_said boxes r.node (get_elem? log r.transmission)
      ∙ ap (λ (o : Option Message). elim o [ none ↦ repeated_by log r | some x ↦ some x ]) e

  said_repeat : (log : List Message) (r : Reception) → answered_by log r ≡ none → said log r ≡ repeated_by log r
  said_repeat log r e =
      both_said boxes r.node (get_elem? log r.transmission)
      ∙ ap (λ (o : Option Message). elim o [ none ↦ repeated_by log r | some x ↦ some x ]) e

  -- what holds of every transmission, and what is known of every answer
  module _ (Good Known : Message → Type 0)
      (repeat_good : (n : Box) → Memᴰ n boxes → (t s : Message) → Good t → repeats (part n) t ≡ some s → Good s)
      (answer_is : (n : Box) → Memᴰ n boxes → (t a : Message) → Good t → answers n t ≡ some a → Good a × Known a) where
    -- a reception that was answered
    pub record Answered (log : List Message) (x : Reply Message) : Type 0 where
      pub box : Box
      pub box_at : get_elem? boxes x.by.node ≡ some box
      pub sent : Message
      pub sent_at : get_elem? log x.by.transmission ≡ some sent
      pub good : Good sent
      pub known : Known x.answer
      pub answers_so : answers box sent ≡ some x.answer

    pub record Plainly (log : List Message) (events : List (Event Message)) : Type 0 where
      pub plain : List (Event Message)
      pub same : together both boxes log events ≡ together repeats nodes log plain
      pub among : (r : Reception) → Memᴰ r (receptions_in plain) → Memᴰ r (receptions_in events)
      pub once : Nodup (receptions_in plain)
      pub answered : List (Reply Message)
      pub answered_among : (r : Reception) → Memᴰ r (map (λ (x : Reply Message). x.by) answered) → Memᴰ r (receptions_in events)
      pub answered_once : Nodup (map (λ (x : Reply Message). x.by) answered)
      pub answered_at : (x : Reply Message) → Memᴰ x answered → Answered (together both boxes log events) x
      pub counted : (most : Message → ℕ)
          → total most (messages_in plain) ≡ total most (messages_in events) + total (λ (x : Reply Message). most x.answer) answered
      pub each : (m : Message) → Memᴰ m (messages_in plain) → Memᴰ m (messages_in events) ⊎ Known m

    good_more : {log : List Message} {s : Message} → ((t : Message) → Memᴰ t log → Good t) → Good s
        → (t : Message) → Memᴰ t (log ++ (s ∷ [])) → Good t
    good_more {log} all good t m =
        ⊎_elim (all t) (λ k. subst Good (sym (Memᴰ.eq_of_singleton k)) good) (Memᴰ.append_cases log m)

    not_later : {r : Reception} {later l : List Reception} → Nodup (r ∷ later) → ((q : Reception) → Memᴰ q l → Memᴰ q later)
        → ¬ Memᴰ r l
    not_later once sub m = apart once (sub _ m) refl

    sooner : {log log' : List Message} → log ≡ log' → {x : Reply Message} → Answered log' x → Answered log x
    sooner e {x} k = subst (λ (l : List Message). Answered l x) (sym e) k

    later_plain : (log : List Message) (m : Message) (later : List (Event Message)) → Plainly (log ++ (m ∷ [])) later → Plainly log (Sent m ∷ later)
    unfolding receptions_in messages_in total
    later_plain log m later q =
        record {
          plain = Sent m ∷ q.plain;
          same = after_sent both boxes log m later ∙ q.same ∙ sym (after_sent repeats nodes log m q.plain);
          among = q.among;
          once = q.once;
          answered = q.answered;
          answered_among = q.answered_among;
          answered_once = q.answered_once;
          answered_at = λ r k. sooner (after_sent both boxes log m later) (q.answered_at r k);
          counted = λ most. omega (arith, q.counted most);
          each = λ x k. ⊎_elim (λ e. inl (Memᴰ.head e)) (λ i. ⊎_elim (λ j. inl (Memᴰ.tail j)) inr (q.each x i)) (Memᴰ.cases_cons k);
        }

    -- a reception that was not answered
    heard_plain : (log log' : List Message) (r : Reception) (later : List (Event Message)) → Nodup (r ∷ receptions_in later) → Plainly log' later
        → together both boxes log (Heard r ∷ later) ≡ together both boxes log' later
        → ((x : List (Event Message)) → together repeats nodes log (Heard r ∷ x) ≡ together repeats nodes log' x) → Plainly log (Heard r ∷ later)
    unfolding receptions_in messages_in
    heard_plain log log' r later once q one two =
        record {
          plain = Heard r ∷ q.plain;
          same = one ∙ q.same ∙ sym (two q.plain);
          among = λ x k. ⊎_elim (λ e. Memᴰ.head e) (λ i. Memᴰ.tail (q.among x i)) (Memᴰ.cases_cons k);
          once = nodup_more (not_later once q.among) q.once;
          answered = q.answered;
          answered_among = λ x k. Memᴰ.tail (q.answered_among x k);
          answered_once = q.answered_once;
          answered_at = λ x k. sooner one (q.answered_at x k);
          counted = q.counted;
          each = q.each;
        }

    -- and one that was
    answer_plain : (log : List Message) (r : Reception) (a : Message) (later : List (Event Message)) → Nodup (r ∷ receptions_in later)
        → Plainly (log ++ (a ∷ [])) later → said log r ≡ some a → Answered log (record { by = r; answer = a }) → Plainly log (Heard r ∷ later)
    unfolding receptions_in messages_in total
    answer_plain log r a later once q e here =
        let one = after_heard both boxes log r later a e in
        record {
          plain = Sent a ∷ q.plain;
          same = one ∙ q.same ∙ sym (after_sent repeats nodes log a q.plain);
          among = λ x k. Memᴰ.tail (q.among x k);
          once = q.once;
          answered = record { by = r; answer = a } ∷ q.answered;
          answered_among = λ x k. ⊎_elim (λ f. Memᴰ.head f) (λ i. Memᴰ.tail (q.answered_among x i)) (Memᴰ.cases_cons k);
          answered_once = nodup_more (not_later once q.answered_among) q.answered_once;
          answered_at = λ x k. ⊎_elim
              (λ f. subst (Answered (together both boxes log (Heard r ∷ later))) (sym f) (record {
                box = here.box;
                box_at = here.box_at;
                sent = here.sent;
                sent_at = stays_at both boxes log (Heard r ∷ later) r.transmission here.sent_at;
                good = here.good;
                known = here.known;
                answers_so = here.answers_so;
              }))
              (λ i. sooner one (q.answered_at x i)) (Memᴰ.cases_cons k);
          counted = λ most. omega (arith, q.counted most);
          each = λ x k. ⊎_elim (λ f. inr (subst Known (sym f) here.known)) (q.each x) (Memᴰ.cases_cons k);
        }

    pub plainly : (log : List Message) (events : List (Event Message)) → Nodup (receptions_in events) → ((t : Message) → Memᴰ t log → Good t)
        → ((m : Message) → Memᴰ m (messages_in events) → Good m) → Plainly log events
    unfolding receptions_in messages_in total together
    plainly log [] once all fresh =
        record {
          plain = [];
          same = refl;
          among = λ r k. k;
          once = Nodup-nil;
          answered = [];
          answered_among = λ r k. k;
          answered_once = Nodup-nil;
          answered_at = λ r k. absurd (Memᴰ.not-nil k);
          counted = λ most. omega arith;
          each = λ m k. inl k;
        }
    plainly log (Sent m ∷ later) once all fresh =
        later_plain log m later
        (plainly (log ++ (m ∷ [])) later once (good_more all (fresh m (Memᴰ.head refl))) (λ x k. fresh x (Memᴰ.tail k)))
    plainly log (Heard r ∷ later) once all fresh =
        asked (λ log' all'. plainly log' later (Nodup-cons.0 once).1 all' fresh) (answered_by log r) refl
      where
        Rest : Type 0
        Rest = (log' : List Message) → ((t : Message) → Memᴰ t log' → Good t) → Plainly log' later

        repeated : Rest → answered_by log r ≡ none → (o : Option Message) → repeated_by log r ≡ o → Plainly log (Heard r ∷ later)
        repeated rest mute none e =
            heard_plain log log r later once (rest log all) (after_silence both boxes log r later (said_repeat log r mute ∙ e))
            (λ x. after_silence repeats nodes log r x e)
        repeated rest mute (some s) e =
            let heard = part_said r.node boxes (get_elem? log r.transmission) ∙ e in
            let (n, t, n-at, t-at, does) = who_said (λ (b : Box). repeats (part b)) boxes log r s heard in
            heard_plain log (log ++ (s ∷ [])) r later once
            (rest (log ++ (s ∷ []))
            (good_more all (repeat_good n (at_mem boxes r.node n-at) t s (all t (at_mem log r.transmission t-at)) does)))
            (after_heard both boxes log r later s (said_repeat log r mute ∙ e)) (λ x. after_heard repeats nodes log r x s e)

        asked : Rest → (o : Option Message) → answered_by log r ≡ o → Plainly log (Heard r ∷ later)
        asked rest none e = repeated rest e (repeated_by log r) refl
        asked rest (some a) e =
            let (n, t, n-at, t-at, does) = who_said answers boxes log r a e in
            let good = all t (at_mem log r.transmission t-at) in
            let (good-answer, known) = answer_is n (at_mem boxes r.node n-at) t a good does in
            answer_plain log r a later once (rest (log ++ (a ∷ [])) (good_more all good-answer)) (said_answer log r a e) (record {
              box = n;
              box_at = n-at;
              sent = t;
              sent_at = t-at;
              good = good;
              known = known;
              answers_so = does;
            })
