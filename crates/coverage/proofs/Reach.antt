-- WHO IS DELIVERED A MESSAGE, of any PDU that begins a flood: the nodes that let it in at the end of a chain of hearings through nodes that can repeat it,
-- as long as the hop limit lasts. Assumes nothing.
use mathlib.Core.Path.{◌≡◌, refl, sym, ap, subst, ◌∙◌}
use mathlib.Core.Logic.{◌≢◌, ◌⊎◌, inl, inr, ⊎_elim, by_cases}
use mathlib.Core.Bool.{Bool, true, false, ◌||◌, or-true, false≢true}
use mathlib.Core.List.{List, [], ◌∷◌, ◌++◌, map, Memᴰ}
use mathlib.Core.List.{Nodup, Nodup-nil}
use Prim.Native.Nat.{ℕ, suc, ◌+◌, ◌*◌, ◌≤◌, ◌<◌}
use native.Mathlib.Decide.{ℕ_discrete}
use native.Mathlib.Omega.{arith}
use borrow.Author.Tests.{eq-eqb, eqb-true, eqb-false}
use lib.Dec.{eqb}
use lib.ListN.{length, length-append, length-map}
use Rattle.octets.proofs.Numbering.{or_else_zero, gives_zero}
use Rattle.octets.proofs.Tests.{both}
use Rattle.pdu.specs.declared.Destination.{Destination}
use Rattle.pdu.specs.declared.Header.{Header}
use Rattle.pdu.specs.Header.{header_of, source_of}
use Rattle.pdu.specs.Parts.{payload_in, last_or, in_path}
use Rattle.pdu.specs.Sizes.{path_limit}
use Rattle.bound.specs.Bound.{terms}
use Rattle.bound.proofs.Series.{terms_seven, terms_below}
use Rattle.chains.specs.Chains.{Chain, Shortest}
use Rattle.chains.proofs.Steps.{chain_none, chain_next, chain_last, shortest_before}
use Rattle.decision.specs.Decision.{is_for_own, repeat_fault}
use Rattle.node.proofs.Heard.{not_in_path}
use Rattle.flood.specs.Air.{Repeater, address, path_of, hop_of, on_the_air, repeaters, Nodes, Begins}
use Rattle.flood.specs.Flood.{Reception}
use Rattle.flood.proofs.Exact.{counted}
use Rattle.flood.proofs.Lists.{no_longer, nodup_snoc, mem_at, at_mem}
use Rattle.flood.proofs.Repeaters.{Can, step_six, repeaters_are, are_repeaters}
use Rattle.coverage.specs.Hearing.{sender_of, TakenByAll, ByNoOther}
use Rattle.coverage.specs.Delivery.{LetsIn, Delivered}
use Rattle.coverage.specs.Reach.{hears_through}
use Rattle.coverage.proofs.Carried.{Carries, carried, delivers, not_to_originator, was_let_in, is_payload}
use Rattle.coverage.proofs.Paths.{fact, path_walk, walk_sent}
use Rattle.coverage.proofs.Takers.{taker_hears, taken_happens}
use Rattle.coverage.proofs.Walks.{Route, route, sender_counts, walk_chain, walk_once, walk_known, last_holds}

-- membership by the test and in the list
found : (a : ℕ) (l : List ℕ) → in_path a l ≡ true → Memᴰ a l
unfolding in_path
found a [] e = absurd (false≢true e)
found a (x ∷ l) e = go (eqb x a) refl e (found a l)
  where
    go : (t : Bool) → eqb x a ≡ t → (t || in_path a l) ≡ true → (in_path a l ≡ true → Memᴰ a l) → Memᴰ a (x ∷ l)
    go true is e below = mathlib.Core.List.Memᴰ.head (sym (eqb-true x a is))
    go false is e below = mathlib.Core.List.Memᴰ.tail (below e)

is_found : (a : ℕ) (l : List ℕ) → Memᴰ a l → in_path a l ≡ true
is_found a l m = go (in_path a l) refl
  where
    go : (t : Bool) → in_path a l ≡ t → t ≡ true
    go true e = refl
    go false e = absurd (not_in_path a l e m)

-- the hearings that take a message on are those of its source and of the nodes that can repeat it
module _ (hears : ℕ → ℕ → Bool) (header : Header) (nodes : List Repeater) where
  abbrev counts : List ℕ
  counts = map address (repeaters header nodes)

  pub links : (x y : ℕ) → (x ≡ header.source) ⊎ Memᴰ x (map address (repeaters header nodes)) → hears x y ≡ true
      → hears_through hears header nodes x y ≡ true
  unfolding hears_through
  links x y from heard =
      ⊎_elim
      (λ e. rw (eq-eqb x header.source e, heard))
      (λ m. rw (is_found x counts m, or-true (eqb x header.source), heard))
      from

  pub linked : (x y : ℕ) → hears_through hears header nodes x y ≡ true
      → ((x ≡ header.source) ⊎ Memᴰ x (map address (repeaters header nodes))) × (hears x y ≡ true)
  unfolding hears_through
  linked x y e =
      let (from, heard) = both (eqb x header.source || in_path x counts) (hears x y) e in
      (go (eqb x header.source) refl from, heard)
    where
      go : (t : Bool) → eqb x header.source ≡ t → (t || in_path x counts) ≡ true → (x ≡ header.source) ⊎ Memᴰ x counts
      go true is e = inl (eqb-true x header.source is)
      go false is e = inr (found x counts e)

-- a node that would repeat a message that it lets in can, and hops are left
would : (n : Repeater) (one header : Header) → one.destination ≡ header.destination → LetsIn header n → address n ≢ header.source
    → repeat_fault n.node.settings one ≡ 0 → Can header n × (one.hop_limit ≢ 0)
unfolding repeat_fault
would n one header same lets other no_fault =
    let (another, on) = step_six n one no_fault in
    let rest = (or_else_zero _ _ (or_else_zero _ _ no_fault).1).1 in (
      record {
        clean = lets.no_fault;
        not_source = other;
        lets_pass = lets.lets_pass;
        for_another = ap (λ (to : Destination). is_for_own (address n) to) (sym same) ∙ another;
        repeating_on = on;
      },
      eqb-false one.hop_limit 0 (gives_zero _ 37 (omega arith) (or_else_zero _ _ rest).0),
    )

module _ (hears : ℕ → ℕ → Bool) (nodes : List Repeater) (all : Nodes nodes) (first : List ℕ) (begins : Begins first)
    (receptions : List Reception) (taken : TakenByAll hears nodes first receptions) where
  abbrev known : List ℕ
  known = map address nodes

  abbrev repeating : List ℕ
  repeating = map address (repeaters (header_of first) nodes)

  abbrev link : ℕ → ℕ → Bool
  link = hears_through hears (header_of first) nodes

  abbrev log : List (List ℕ)
  log = on_the_air nodes first receptions

  carries : (t : List ℕ) → Memᴰ t log → Carries first repeating t
  carries t m = (fact hears nodes all first begins receptions taken.once t m).is_sound

  inside : (a : ℕ) → Memᴰ a repeating → Memᴰ a known
  inside a m =
      let (n, n-counts, is) = mathlib.Core.List.Memᴰ.of_map address (repeaters (header_of first) nodes) m in
      mathlib.Core.List.Memᴰ.cast (sym is) (mathlib.Core.List.Memᴰ.map address (repeaters_are (header_of first) nodes n-counts).0)

  low : hop_of first ≤ 7
  low = (carried nodes all first begins).hop_fits

  -- WHAT IS DELIVERED is the payload, to a node that lets it in, and has come along a chain of one hearing more than its path count
  module _ (n : Repeater) (what : List ℕ) (count : ℕ) (d : Delivered nodes first receptions n what count) where
    delivered_in : Memᴰ d.received log
    delivered_in = at_mem log d.reception.transmission d.received_at

    path_long : length (path_of d.received) ≡ count
    path_long = counted first d.received (carries d.received delivered_in).named.sound ∙ d.path_count_lem

    pub delivered_only : (what ≡ payload_in (header_of first) first) × (address n ≢ source_of first) × LetsIn (header_of first) n
    delivered_only =
        let c = carries d.received delivered_in in (
          is_payload first repeating d.received what n c d.delivers,
          not_to_originator first repeating d.received what n c d.delivers (all.echo_on n (at_mem nodes d.reception.node d.node_at)),
          was_let_in first repeating d.received what n c d.delivers,
        )

    pub delivered_few : (hop_of first ≡ 7) ⊎ (count ≤ hop_of first)
    delivered_few =
        by_cases (ℕ_discrete (hop_of first) 7) inl
        (λ ne.
        let steps = (fact hears nodes all first begins receptions taken.once d.received delivered_in).steps (omega (arith, low)) in
        inr (omega (arith, path_long, steps)))

    pub delivered_chain : ByNoOther hears nodes first receptions
        → Chain (hears_through hears (header_of first) nodes) (map address nodes) (source_of first) (address n) (suc count)
    delivered_chain only =
        let t = d.received in
        let w = path_walk hears nodes all first begins receptions taken.once only t delivered_in in
        let came : Chain link known (source_of first) (last_or (source_of first) (path_of t)) (length (path_of t)) =
        subst (λ (k : ℕ). Chain link known (source_of first) (last_or (source_of first) (path_of t)) k) (omega arith)
        (walk_chain hears link repeating known (source_of first) inside (links hears (header_of first) nodes) (linked hears (header_of first) nodes)
        0 w (inl refl) (chain_none link known (source_of first))) in
        let sender : (last_or (source_of first) (path_of t) ≡ source_of first) ⊎ Memᴰ (last_or (source_of first) (path_of t)) repeating =
        last_holds (λ a. (a ≡ source_of first) ⊎ Memᴰ a repeating) (source_of first) (path_of t) (inl refl)
        (λ a m. inr ((carries t delivered_in).named.named a m)) in
        let heard : hears (last_or (source_of first) (path_of t)) (address n) ≡ true =
        ap (λ (x : ℕ). hears (last_or x (path_of t)) (address n)) (sym (carries t delivered_in).named.sound.same_source)
        ∙ taker_hears hears nodes first receptions only d.reception (taken_happens nodes first receptions d.reception d.taken) n d.node_at t
        d.received_at in
        subst (λ (k : ℕ). Chain link known (source_of first) (address n) (suc k)) path_long
        (chain_next link known (source_of first) (length (path_of t)) came
        (mathlib.Core.List.Memᴰ.map address (at_mem nodes d.reception.node d.node_at)) (links hears (header_of first) nodes _ _ sender heard))

  -- EVERY OTHER NODE that lets the message in, at the end of a shortest chain that the hop limit lets it go along, is delivered the payload, with one
  -- less as the path count. No added header, and each node that can repeat the message has room.
  module _ (roomy : (n : Repeater) → Memᴰ n (repeaters (header_of first) nodes)
      → length first + 2 * terms (length (repeaters (header_of first) nodes)) (hop_of first) ≤ n.room)
      (fits : (length (repeaters (header_of first) nodes) ≤ path_limit) ⊎ (hop_of first < 7))
      (plain : (header_of first).added_header ≡ false) where
    abbrev most : ℕ
    most = terms (length (repeaters (header_of first) nodes)) (hop_of first)

    as_many : length repeating ≡ length (repeaters (header_of first) nodes)
    as_many = length-map (repeaters (header_of first) nodes) address

    -- as long as the nodes and the hop limit let a path be
    short : (p : List ℕ) → Nodup p → ((a : ℕ) → Memᴰ a p → Memᴰ a repeating) → (hop_of first ≡ 7) ⊎ (length p ≤ hop_of first)
        → length p ≤ most
    short p once named lasts =
        let few = no_longer p repeating once named in
        let n = length (repeaters (header_of first) nodes) in
        by_cases (ℕ_discrete (hop_of first) 7)
        (λ e. omega (arith, as_many, terms_seven n (hop_of first) e))
        (λ ne. ⊎_elim (λ e. absurd (ne e)) (λ less. omega (arith, as_many, terms_below n (hop_of first) ne)) lasts)

    module _ (n : Repeater) (n-in : Memᴰ n nodes) (lets : LetsIn (header_of first) n) (not_own : address n ≢ source_of first)
        (k b : ℕ) (s : Shortest link known (source_of first) (address n) (suc k)) (heard : hears b (address n) ≡ true)
        (r : Route hears link repeating known (source_of first) inside (links hears (header_of first) nodes) (linked hears (header_of first) nodes) b k)
        (t : List ℕ) (t-in : Memᴰ t log) (path_is : path_of t ≡ r.path) where
      once : Nodup r.path
      once = walk_once hears repeating r.walk Nodup-nil

      new : ¬ Memᴰ (address n) r.path
      new m = let (j, few, c) = r.near (address n) m in s.none_shorter j (omega arith) c

      -- if it would repeat that, it counts, and the path has room for it
      has_room : repeat_fault n.node.settings (header_of t) ≡ 0 → length first + 2 * (length (path_of t) + 1) ≤ n.room
      has_room no_fault =
          let (can, left) = would n (header_of t) (header_of first) (carries t t-in).named.sound.same_place lets not_own no_fault in
          let counts-too = are_repeaters (header_of first) nodes n-in can in
          let lasts : (hop_of first ≡ 7) ⊎ (length (r.path ++ (address n ∷ [])) ≤ hop_of first) =
          by_cases (ℕ_discrete (hop_of first) 7) inl
          (λ ne. inr (omega (
            arith,
            left,
            length-append r.path (address n ∷ []),
            ap length path_is,
            (fact hears nodes all first begins receptions taken.once t t-in).steps (omega (arith, low)),
          ))) in
          let longer = short (r.path ++ (address n ∷ [])) (nodup_snoc r.path once new)
          (λ a m. ⊎_elim (walk_known hears repeating r.walk a)
          (λ l. mathlib.Core.List.Memᴰ.cast (mathlib.Core.List.Memᴰ.eq_of_singleton l) (mathlib.Core.List.Memᴰ.map address counts-too)) (mathlib.Core.List.Memᴰ.append_cases r.path m)) lasts in
          omega (arith, roomy n counts-too, longer, length-append r.path (address n ∷ []), ap length path_is)

      at_the_end : Delivered nodes first receptions n (payload_in (header_of first) first) k
      at_the_end =
          let (place, place-lt, n-at) = mem_at n-in in
          let (i, i_lt, t-at) = mem_at t-in in
          let c = carries t t-in in
          let by-b : sender_of t ≡ b = (λ j. last_or (c.named.sound.same_source j) (path_is j)) ∙ r.last in
          record {
            reception = record { node = place; transmission = i };
            taken = taken.by_all (record { node = place; transmission = i }) (record {
              node = n;
              node_at = n-at;
              sent = t;
              sent_at = t-at;
              hears_sender = ap (λ (x : ℕ). hears x (address n)) by-b ∙ heard;
            });
            node_at = n-at;
            received = t;
            received_at = t-at;
            delivers = delivers first repeating t n lets (all.echo_on n n-in) c not_own
                (λ m. new (subst (λ (p : List ℕ). Memᴰ (address n) p) path_is m)) plain has_room;
            path_count_lem = sym (counted first t c.named.sound) ∙ ap length path_is ∙ r.long;
          }

    pub reached : (n : Repeater) → Memᴰ n nodes → address n ≢ source_of first → LetsIn (header_of first) n
        → (k : ℕ) → (hop_of first ≡ 7) ⊎ (k ≤ hop_of first)
        → Shortest (hears_through hears (header_of first) nodes) (map address nodes) (source_of first) (address n) (suc k)
        → Delivered nodes first receptions n (payload_in (header_of first) first) k
    reached n n-in not_own lets k lasts s =
        let step = chain_last link known (source_of first) k s.chain in
        let b = step.via in
        let before = shortest_before link known (source_of first) k s in
        let from-links = links hears (header_of first) nodes in
        let to-links = linked hears (header_of first) nodes in
        let r = route hears link repeating known (source_of first) inside from-links to-links k b before
        (sender_counts hears link repeating known (source_of first) inside from-links to-links k b (address n) before step.heard) in
        let few = short r.path (walk_once hears repeating r.walk Nodup-nil) (walk_known hears repeating r.walk)
        (subst (λ (j : ℕ). (hop_of first ≡ 7) ⊎ (j ≤ hop_of first)) (sym r.long) lasts) in
        let (t, t-in, path_is) = mathlib.Core.List.Memᴰ.of_map path_of log (walk_sent hears nodes all first begins receptions roomy fits taken r.walk few) in
        at_the_end n n-in lets not_own k b s (to-links b (address n) step.heard).1 r t t-in path_is
