-- The lengths that `find_lengths` leaves say exactly who is delivered a message, and with which path count, also where a node has failed. Assumes nothing.
use mathlib.Core.Path.{◌≡◌, refl, sym, ap, subst, ◌∙◌}
use mathlib.Core.Logic.{◌≢◌, ◌⊎◌, inl, inr, ⊎_elim, by_cases}
use mathlib.Core.Bool.{Bool, true, false, ◌&&◌, ◌||◌, or-true, false≢true}
use mathlib.Core.Option.{some, some-injective}
use mathlib.Core.List.Memᴰ
use mathlib.Core.List.{List, [], ◌∷◌, map, Memᴰ}
use Prim.Native.Nat.{ℕ, zero, suc, ◌+◌, ◌-◌, ◌<◌}
use native.Mathlib.Omega.{arith}
use native.Mathlib.Decide.{dec_lt, ℕ_discrete}
use borrow.Author.Tests.{lt-ltb, le-leb, eq-eqb, eqb-true, ltb-true, leb-true}
use lib.Dec.{eqb, ltb, leb}
use lib.ListN.{length, get_elem?, length-map}
use Rattle.octets.specs.Octets.{at}
use Rattle.octets.proofs.Tests.{both}
use Rattle.pdu.specs.declared.Header.{Header}
use Rattle.chains.specs.Chains.{Shortest, Unreached}
use Rattle.chains.specs.Lengths.{places_of_nodes, no_chain, is_unmarked, usable_hearing, LengthsFound}
use Rattle.chains.specs.Reach.{is_delivered}
use Rattle.chains.proofs.Hearings.{is_relayed, was_relayed}
use Rattle.chains.proofs.Steps.{chain_none, chain_is_none}
use Rattle.origin.specs.declared.FreshSettings.{FreshSettings}
use Rattle.origin.specs.Origination.{fresh_header, fresh}
use Rattle.flood.specs.Air.{Repeater, address, repeaters, Nodes, Originated}
use Rattle.flood.specs.Flood.{Reception}
use Rattle.flood.proofs.Lists.{at_map}
use Rattle.flood.proofs.Repeaters.{can_is, is_can, repeaters_are, are_repeaters}
use Rattle.coverage.specs.Hearing.{TakenByAll, ByNoOther}
use Rattle.coverage.specs.Delivery.{LetsIn, Roomy, Delivered}
use Rattle.coverage.specs.Marks.{MarksSay}
use Rattle.coverage.specs.Reach.{hears_through, Lasts, ReachThrough}
use Rattle.coverage.specs.ByLengths.{Says, remaining, DeliveredByLengths}
use Rattle.coverage.proofs.Covered.{by_shortest, reach_through}
use Rattle.coverage.proofs.Left.{is_left, left_at, left_in, left_nodes}
use Rattle.coverage.proofs.Places.{at_place, one_place, shortest_at, unreached_at}
use Rattle.coverage.proofs.Reach.{links, linked}
use Rattle.coverage.proofs.Schedule.{at_within}

-- the test, both ways
delivered_when : (h value : ℕ) → is_delivered h value ≡ true → (0 < value) × (value < no_chain) × Lasts h value
unfolding is_delivered
delivered_when h value e =
    let (some-hearing, rest) = both (ltb 0 value) (ltb value no_chain && (eqb h 7 || leb value (h + 1))) e in
    let (chain, few) = both (ltb value no_chain) (eqb h 7 || leb value (h + 1)) rest in
    (ltb-true 0 value some-hearing, ltb-true value no_chain chain, go (eqb h 7) refl few)
  where
    go : (t : Bool) → eqb h 7 ≡ t → (t || leb value (h + 1)) ≡ true → Lasts h value
    go true is few = inl (eqb-true h 7 is)
    go false is few = inr (leb-true value (h + 1) few)

missed_when : (h value : ℕ) → is_delivered h value ≡ false → 0 < value → value < no_chain → (h ≢ 7) × (h + 1 < value)
unfolding is_delivered
missed_when h value e some-hearing chain = (
  λ seven. false≢true (sym e ∙ rw (lt-ltb 0 value some-hearing, lt-ltb value no_chain chain, eq-eqb h 7 seven)),
  by_cases (dec_lt (h + 1) value) (λ more. more)
      (λ few. absurd (false≢true (sym e
      ∙ rw (lt-ltb 0 value some-hearing, le-leb value (h + 1) (omega arith), lt-ltb value no_chain chain, or-true (eqb h 7))))),
)

entry_at : {A : Type 0} (l : List A) (i : ℕ) → i < length l → (a : A) × (get_elem? l i ≡ some a)
entry_at [] i h = absurd (omega arith)
entry_at (x ∷ l) zero h = (x, refl)
entry_at (x ∷ l) (suc i) h = entry_at l i (omega arith)

-- hearings by places and by addresses, the node at `failed` left out
module _ (pairs : List ℕ) (hears : ℕ → ℕ → Bool) (nodes : List Repeater) (all : Nodes nodes) (says : Says pairs hears nodes) (header : Header)
    (marks : List ℕ) (marked : MarksSay marks header nodes) (from failed : ℕ) (from_at : get_elem? (map address nodes) from ≡ some header.source)
    (works : from ≢ failed) where
  abbrev addresses : List ℕ
  addresses = map address nodes

  abbrev left : List Repeater
  left = remaining failed nodes

  long : length addresses ≡ length nodes
  long = length-map nodes address

  pub begins : from < length (map address nodes)
  begins = at_within addresses from from_at

  pub source_at : at (map address nodes) from ≡ header.source
  source_at = some-injective _ _ (sym (at_place addresses from begins) ∙ from_at)

  pub address_at : (place : ℕ) (n : Repeater) → get_elem? nodes place ≡ some n → at (map address nodes) place ≡ address n
  address_at place n n-at =
      let inside = at_within addresses place (at_map address nodes place n-at) in
      some-injective _ _ (sym (at_place addresses place inside) ∙ at_map address nodes place n-at)

  pub inside : (a : ℕ) → Memᴰ a (map address (remaining failed nodes)) → Memᴰ a (map address nodes)
  inside a m =
      let (n, n-in, is) = Memᴰ.of_map address left m in
      Memᴰ.cast (sym is) (Memᴰ.map address (left_in failed nodes n-in))

  -- the place of a node that is left
  place_left : (i : ℕ) → i < length addresses → (n : Repeater) → Memᴰ n left → address n ≡ at addresses i
      → (i ≢ failed) × (get_elem? nodes i ≡ some n)
  place_left i h n m is =
      let (j, other, n-at) = left_at failed nodes m in
      let inside-j = at_within addresses j (at_map address nodes j n-at) in
      let same = one_place addresses all.addresses_differ j i inside-j h (address_at j n n-at ∙ is) in
      (λ e. other (same ∙ e), subst (λ (k : ℕ). get_elem? nodes k ≡ some n) same n-at)

  pub forth : (i j : ℕ) → i < length (map address nodes) → j < length (map address nodes) → usable_hearing pairs marks from failed i j ≡ true
      → (hears_through hears header (remaining failed nodes) (at (map address nodes) i) (at (map address nodes) j) ≡ true)
      × Memᴰ (at (map address nodes) j) (map address (remaining failed nodes))
  forth i j hi hj e =
      let r = was_relayed pairs marks from failed i j e in
      let heard = sym (says i j (omega (arith, long)) (omega (arith, long))) ∙ r.heard in
      let (m, m-at) = entry_at nodes j (omega (arith, long)) in (
        links hears header left _ _ (sender (eqb i from) refl r.works r.sender_apart) heard,
        Memᴰ.cast (address_at j m m-at) (Memᴰ.map address (is_left failed j nodes m-at r.hearer_apart)),
      )
    where
      sender : (t : Bool) → eqb i from ≡ t → (t || is_unmarked marks i) ≡ true → i ≢ failed
          → (at addresses i ≡ header.source) ⊎ Memᴰ (at addresses i) (map address (repeaters header left))
      sender true is e alive = inl (ap (at addresses) (eqb-true i from is) ∙ source_at)
      sender false is free alive =
          let (n, n-at) = entry_at nodes i (omega (arith, long)) in
          by_cases (ℕ_discrete (address n) header.source)
          (λ own. inl (address_at i n n-at ∙ own))
          (λ other. inr (Memᴰ.cast (address_at i n n-at) (Memᴰ.map address (are_repeaters header left (is_left failed i nodes n-at alive)
          (can_is header n (sym (marked.says i n n-at other) ∙ free))))))

  pub back : (i j : ℕ) → i < length (map address nodes) → j < length (map address nodes)
      → hears_through hears header (remaining failed nodes) (at (map address nodes) i) (at (map address nodes) j) ≡ true
      → Memᴰ (at (map address nodes) j) (map address (remaining failed nodes)) → usable_hearing pairs marks from failed i j ≡ true
  back i j hi hj e m =
      let (from-it, heard) = linked hears header left (at addresses i) (at addresses j) e in
      let (n, n-in, is) = Memᴰ.of_map address left m in
      let (sends, alive) = sender from-it in
      is_relayed pairs marks from failed i j (says i j (omega (arith, long)) (omega (arith, long)) ∙ heard) sends alive (place_left j hj n n-in is).0
    where
      sender : (at addresses i ≡ header.source) ⊎ Memᴰ (at addresses i) (map address (repeaters header left))
          → ((eqb i from || is_unmarked marks i) ≡ true) × (i ≢ failed)
      sender from-it =
          ⊎_elim
          (λ own.
          let same = one_place addresses all.addresses_differ i from hi begins (own ∙ sym source_at) in
          (ap (λ (t : Bool). t || is_unmarked marks i) (eq-eqb i from same), λ e. works (sym same ∙ e)))
          (λ k.
          let (n, n-counts, is) = Memᴰ.of_map address (repeaters header left) k in
          let (n-in, can) = repeaters_are header left n-counts in
          let (alive, n-at) = place_left i hi n n-in is in
          (ap (λ (t : Bool). eqb i from || t) (marked.says i n n-at can.not_source ∙ is_can header n can) ∙ or-true (eqb i from), alive))
          from-it

module _ (hears : ℕ → ℕ → Bool) (nodes : List Repeater) (all : Nodes nodes) (settings : FreshSettings) (payload : List ℕ) (room : ℕ)
    (message : Originated settings payload room) (failed : ℕ) (each : Roomy (remaining failed nodes) settings payload)
    (receptions : List Reception) (taken : TakenByAll hears (remaining failed nodes) (fresh settings payload) receptions)
    (pairs : List ℕ) (says : Says pairs hears nodes) (marks : List ℕ) (marked : MarksSay marks (fresh_header settings (length payload)) nodes)
    (from : ℕ) (from_at : get_elem? (map address nodes) from ≡ some settings.source) (works : from ≢ failed) where
  abbrev known : List ℕ
  known = map address nodes

  abbrev remain : List Repeater
  remain = remaining failed nodes

  abbrev near : ℕ → ℕ → Bool
  near = usable_hearing pairs marks from failed

  abbrev link : ℕ → ℕ → Bool
  link = hears_through hears (fresh_header settings (length payload)) remain

  reaches : ReachThrough hears remain settings payload receptions
  reaches = reach_through hears remain (left_nodes failed nodes all) settings payload room message each receptions taken

  -- one node
  module _ (place : ℕ) (n : Repeater) (n-at : get_elem? nodes place ≡ some n) (alive : place ≢ failed) (value : ℕ) where
    shortest : Shortest near (places_of_nodes (length known)) from place value → Shortest link (map address remain) settings.source (address n) value
    unfolding fresh_header
    shortest s =
        let header = fresh_header settings (length payload) in
        subst (λ (a : ℕ). Shortest link (map address remain) settings.source a value)
        (address_at pairs hears nodes all says header marks marked from failed from_at works place n n-at)
        (subst (λ (a : ℕ). Shortest link (map address remain) a (at known place) value)
        (source_at pairs hears nodes all says header marks marked from failed from_at works)
        (shortest_at near link known (map address remain) all.addresses_differ
        (inside pairs hears nodes all says header marks marked from failed from_at works)
        (forth pairs hears nodes all says header marks marked from failed from_at works)
        (back pairs hears nodes all says header marks marked from failed from_at works)
        from (at_within known from from_at) value place (at_within known place (at_map address nodes place n-at)) s))

    unreached : Unreached near (places_of_nodes (length known)) from place → Unreached link (map address remain) settings.source (address n)
    unfolding fresh_header
    unreached none =
        let header = fresh_header settings (length payload) in
        subst (λ (a : ℕ). Unreached link (map address remain) settings.source a)
        (address_at pairs hears nodes all says header marks marked from failed from_at works place n n-at)
        (subst (λ (a : ℕ). Unreached link (map address remain) a (at known place))
        (source_at pairs hears nodes all says header marks marked from failed from_at works)
        (unreached_at near link known (map address remain) all.addresses_differ
        (inside pairs hears nodes all says header marks marked from failed from_at works)
        (forth pairs hears nodes all says header marks marked from failed from_at works)
        (back pairs hears nodes all says header marks marked from failed from_at works)
        from (at_within known from from_at) place (at_within known place (at_map address nodes place n-at)) none))

    abbrev Tells : Type 0
    Tells =
        ((value < no_chain) × Shortest near (places_of_nodes (length known)) from place value)
        ⊎ ((value ≡ no_chain) × Unreached near (places_of_nodes (length known)) from place)

    is_told : Tells → (address n ≢ settings.source → LetsIn (fresh_header settings (length payload)) n) → is_delivered settings.hop_limit value ≡ true
        → Delivered remain (fresh settings payload) receptions n payload (value - 1)
    is_told tells lets e =
        let (some-hearing, chain, lasts) = delivered_when settings.hop_limit value e in
        ⊎_elim
        (λ t.
        let s = shortest t.1 in
        let other : address n ≢ settings.source =
        λ is. s.none_shorter 0 some-hearing (Memᴰ.cast is (chain_none link (map address remain) settings.source)) in
        by_shortest hears remain (left_nodes failed nodes all) settings payload room message each receptions taken n (is_left failed place nodes n-at alive)
        other (lets other) value lasts s)
        (λ t. absurd (omega (arith, t.0)))
        tells

    not_told : ByNoOther hears remain (fresh settings payload) receptions → Tells → is_delivered settings.hop_limit value ≡ false
        → (what : List ℕ) (count : ℕ) → ¬ Delivered remain (fresh settings payload) receptions n what count
    not_told only tells e =
        ⊎_elim
        (λ t. by_cases (dec_lt 0 value)
        (λ some-hearing.
        let (not-seven, more) = missed_when settings.hop_limit value e some-hearing t.0 in
        reaches.beyond only n
        (λ j lasts c. ⊎_elim {C = ⊥} not-seven (λ few. (shortest t.1).none_shorter j (omega arith) c) lasts))
        (λ no-hearing what count d. (reaches.only_let_in n what count d).1 (at_source (shortest t.1) (omega arith))))
        (λ t. reaches.beyond only n (λ j lasts c. unreached t.1 j c))
        tells
      where
        at_source : Shortest link (map address remain) settings.source (address n) value → value ≡ 0 → address n ≡ settings.source
        at_source s none =
            chain_is_none link (map address remain) settings.source
            (subst (λ (k : ℕ). Shortest link (map address remain) settings.source (address n) k) none s).chain

  module _ (before lengths : List ℕ) (found : LengthsFound pairs marks from failed before true lengths) where
    tells : (place : ℕ) → place < length known
        → ((at lengths place < no_chain) × Shortest near (places_of_nodes (length known)) from place (at lengths place))
        ⊎ ((at lengths place ≡ no_chain) × Unreached near (places_of_nodes (length known)) from place)
    tells place h =
        let size : length marks ≡ length known = marked.size ∙ sym (length-map nodes address) in
        subst (λ (k : ℕ). ((at lengths place < no_chain) × Shortest near (places_of_nodes k) from place (at lengths place))
        ⊎ ((at lengths place ≡ no_chain) × Unreached near (places_of_nodes k) from place))
        size (found.lengths refl place (omega (arith, size)))

    -- the originator need not let it in
    pub delivered_by_lengths : (place : ℕ) (n : Repeater) → get_elem? nodes place ≡ some n → place ≢ failed
        → (address n ≢ settings.source → LetsIn (fresh_header settings (length payload)) n)
        → is_delivered settings.hop_limit (at lengths place) ≡ true
        → Delivered (remaining failed nodes) (fresh settings payload) receptions n payload (at lengths place - 1)
    delivered_by_lengths place n n-at alive =
        is_told place n n-at alive (at lengths place) (tells place (at_within known place (at_map address nodes place n-at)))

    pub by_lengths : DeliveredByLengths hears nodes settings payload failed receptions lengths
    by_lengths =
        record {
          delivered = λ place n n-at alive lets. delivered_by_lengths place n n-at alive (λ other. lets);
          not_delivered = λ only place n n-at alive.
              not_told place n n-at alive (at lengths place) only (tells place (at_within known place (at_map address nodes place n-at)));
        }
