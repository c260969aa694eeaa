-- Who asks for an acknowledgement, whom it is for, and what the bounds and C's number go by.
use mathlib.Core.Path.{◌≡◌, refl, sym, ap, ◌∙◌}
use mathlib.Core.Logic.{◌≢◌, ◌⊎◌, inl, inr, ⊎_elim}
use mathlib.Core.Bool.{Bool, true, false, not, cond, ◌&&◌, false≢true}
use mathlib.Core.Option.{some-injective}
use mathlib.Core.List.{List, map, Memᴰ}
use Prim.Native.Nat.{ℕ, ◌^◌, ◌≤◌, ◌<◌, max}
use native.Mathlib.Omega.{arith}
use borrow.Author.Tests.{eq-eqb, eqb-true, ltb-true, ltb-false, not-true}
use lib.Dec.{eqb, ltb}
use lib.ListN.{length}
use Rattle.octets.proofs.Tests.{both}
use Rattle.pdu.specs.declared.Destination.{Destination}
use Rattle.pdu.specs.declared.Destination.TheVariants.{Everyone, Address}
use Rattle.pdu.specs.declared.Header.{Header}
use Rattle.pdu.specs.Header.{header_of, source_of}
use Rattle.bound.specs.Answer.{within64_bits, bound_answer}
use Rattle.bound.specs.Bound.{bytes_bound}
use Rattle.std.specs.Prelude.{Result, Ok, Err}
use Rattle.bound.specs.declared.BoundError.{BoundError}
use Rattle.bound.specs.declared.BoundError.TheVariants.{TooLarge, HopRefused}
use Rattle.bound.proofs.Answers.{hop_refused}
use Rattle.origin.specs.declared.FreshSettings.{FreshSettings}
use Rattle.origin.specs.Origination.{fresh_header, fresh}
use Rattle.decision.specs.Decision.{is_for_own}
use Rattle.retained.specs.Records.{address_of, names_of}
use Rattle.retry_termination.proofs.Sendings.{ack_alone_shows}
use Rattle.flood.specs.Air.{Repeater, address, on_the_air, repeaters, Originated}
use Rattle.flood.specs.Flood.{Reception}
use Rattle.flood.proofs.Fresh.{fresh_shows, fresh_hop, fresh_source}
use Rattle.flood.proofs.Repeaters.{repeaters_are}
use Rattle.coverage.specs.Hearing.{sender_of, ByNoOther}
use Rattle.airtime.specs.Airtime.{air_of, air_bytes}
use Rattle.boundary.specs.Boundary.{bound_in_c}
use Rattle.several_messages.specs.SeveralMessages.{OnlyHeard, counted_for, most_bytes_of, air_of_message, air_bytes_of_message}
use Rattle.planning_one_command.specs.Boxes.{Box, repeaters_of, Command, reply_to, asks}

-- a message for an address is for that alone
for_own_lem : (own : ℕ) (to : Destination) → is_for_own own to ≡ true → to ≡ Address own
for_own_lem own Everyone e = absurd (false≢true e)
for_own_lem own (Address to) e = ap Address (eqb-true to own e)

pub asks_is : (bytes : List ℕ) (box : Box) → (header_of bytes).protocol ≡ 1 → (header_of bytes).destination ≡ Address (address box.repeater)
    → (header_of bytes).ack ≡ false → asks bytes box ≡ true
asks_is bytes box one to clear = rw (one, to, eq-eqb (address box.repeater) (address box.repeater) refl, clear)

pub asks_only : (bytes : List ℕ) (box : Box) → asks bytes box ≡ true
    → ((header_of bytes).protocol ≡ 1) × ((header_of bytes).destination ≡ Address (address box.repeater)) × ((header_of bytes).ack ≡ false)
asks_only bytes box e =
    let (one, rest) = both (eqb (header_of bytes).protocol 1) _ e in
    let (to, clear) = both (is_for_own (address box.repeater) (header_of bytes).destination) _ rest in (
      eqb-true (header_of bytes).protocol 1 one,
      for_own_lem (address box.repeater) (header_of bytes).destination to,
      not-true (header_of bytes).ack clear,
    )

-- an acknowledgement is from the command's destination to its source
module _ (boxes : List Box) (there : Box) (bytes : List ℕ) (c : Command boxes there bytes) (hop : there.sending.hop_limit ≤ 7)
    (port : there.sending.port ≤ 15) where
  from_there : (header_of (reply_to there bytes)).source ≡ address there.repeater
  unfolding names_of
  from_there = ap (λ (h : Header). h.source) (ack_alone_shows there.sending (names_of bytes) hop port) ∙ ap (λ (d : Destination). address_of d) c.for_it

  to_source : (header_of (reply_to there bytes)).destination ≡ Address (source_of bytes)
  unfolding names_of
  to_source = ap (λ (h : Header). h.destination) (ack_alone_shows there.sending (names_of bytes) hop port)

  pub reply_apart : (n : Repeater) → Memᴰ n (counted_for (repeaters_of boxes) (reply_to there bytes))
      → (address n ≢ address there.repeater) × (address n ≢ source_of bytes)
  reply_apart n m =
      let can = (repeaters_are (header_of (reply_to there bytes)) (repeaters_of boxes) m).1 in (
        λ same. can.not_source (same ∙ sym from_there),
        λ same. false≢true (sym can.for_another ∙ ap (λ (d : Destination). is_for_own (address n) d) to_source
            ∙ eq-eqb (source_of bytes) (address n) (sym same)),
      )

pub originated_more : (hears : ℕ → ℕ → Bool) (nodes : List Repeater) (settings : FreshSettings) (payload : List ℕ) (room : ℕ)
    → Originated settings payload room
    → let first = fresh settings payload in let h = settings.hop_limit in
    let counted = repeaters (fresh_header settings (length payload)) nodes in
    (most_bytes_of nodes first ≡ bytes_bound (length counted) h (length first))
    × (air_of_message nodes first hears ≡ air_of hears (map address counted) settings.source h)
    × (air_bytes_of_message nodes first hears ≡ air_bytes hears (map address counted) settings.source h (length first))
originated_more hears nodes settings payload room message =
    let header = sym (fresh_shows settings payload room message) in
    let hop = fresh_hop settings payload room message in
    let from = fresh_source settings payload room message in (
      λ i. bytes_bound (length (repeaters (header i) nodes)) (hop i) (length (fresh settings payload)),
      λ i. air_of hears (map address (repeaters (header i) nodes)) (from i) (hop i),
      λ i. air_bytes hears (map address (repeaters (header i) nodes)) (from i) (hop i) (length (fresh settings payload)),
    )

pub only_heard : (hears : ℕ → ℕ → Bool) (nodes : List Repeater) (first : List ℕ) (taken : List Reception) → ByNoOther hears nodes first taken
    → OnlyHeard hears nodes (on_the_air nodes first taken) taken
only_heard hears nodes first taken by reception m node node_at sent sent_at =
    let w = by reception m in
    let same-node : node ≡ w.node = some-injective _ _ (sym node_at ∙ w.node_at) in
    let same_sent : sent ≡ w.sent = some-injective _ _ (sym sent_at ∙ w.sent_at) in
    (λ i. hears (sender_of (same_sent i)) (address (same-node i))) ∙ w.hears_sender

-- number 10
pub in_c : (h k value : ℕ) → (7 < h) ⊎ (7 < k) → (bound_in_c (bound_answer (max h k) value)).number ≡ 10
in_c h k value above =
    let up : 7 < max h k = ⊎_elim {C = 7 < max h k} (λ first. omega (arith, first)) (λ second. omega (arith, second)) above in
    ap (λ (b : Result ℕ BoundError). (bound_in_c b).number) (hop_refused (max h k) value up)

-- the number of an answer that goes by that test
refused : (t s : Bool) (value : ℕ) → (bound_in_c (cond t (Err HopRefused) (cond s (Ok value) (Err TooLarge)))).number ≡ 10 → t ≡ true
refused true s value e = refl
refused false true value e = absurd (omega (arith, e))
refused false false value e = absurd (omega (arith, e))

one_above : (h k : ℕ) → 7 < max h k → (t : Bool) → ltb 7 h ≡ t → (7 < h) ⊎ (7 < k)
one_above h k up true e = inl (ltb-true 7 h e)
one_above h k up false e = let low : h ≤ 7 = ltb-false 7 h e in inr (omega (arith, up, low))

pub in_c_only : (h k value : ℕ) → (bound_in_c (bound_answer (max h k) value)).number ≡ 10 → (7 < h) ⊎ (7 < k)
unfolding bound_answer within64_bits
in_c_only h k value e = one_above h k (ltb-true 7 (max h k) (refused (ltb 7 (max h k)) (ltb value (2 ^ 64)) value e)) (ltb 7 h) refl
