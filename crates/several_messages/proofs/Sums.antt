-- SEVERAL MESSAGES IN ONE LOG: by any weight, the transmissions add up to no more than the messages' own bounds do. Assumes nothing.
use mathlib.Core.Path.{◌≡◌, refl, sym, ap, subst, ◌∙◌}
use mathlib.Core.Bool.{Bool, true, false, cond}
use mathlib.Core.Option.{Option, none, some, none-ne-some, some-injective}
use mathlib.Core.List.{List, [], ◌∷◌, ◌++◌, map, Memᴰ, Nodup}
use Prim.Native.Nat.{ℕ, zero, suc, ◌+◌, ◌≤◌, ◌<◌}
use native.Mathlib.Omega.{arith}
use borrow.Author.Tests.{eq-eqb}
use lib.Dec.{eqb}
use lib.ListN.{length, get_elem?}
use Rattle.flood.specs.Flood.{Reception, flood, total, keep}
use Rattle.flood.proofs.Lists.{total_map, at_mem, at_map}
use Rattle.several_messages.specs.SeveralMessages.{Event, together, receptions_in, messages_in}
use Rattle.several_messages.proofs.Parts.{Part, Ends, parted}
use Rattle.several_messages.proofs.Ranks.{Marked, has, rank, rank_at}

-- f 0 + f 1 + .., n terms
unfoldable sums : (ℕ → ℕ) → ℕ → ℕ
sums f zero = 0
sums f (suc n) = f 0 + sums (λ l. f (suc l)) n

one_of : (f : ℕ → ℕ) (n c : ℕ) → c < n → f c ≤ sums f n
unfolding sums
one_of f zero c h = absurd (omega arith)
one_of f (suc n) zero h = omega arith
one_of f (suc n) (suc c) h = omega (arith, one_of (λ l. f (suc l)) n c (omega arith))

sums_both : (f g h : ℕ → ℕ) (n : ℕ) → ((l : ℕ) → h l ≡ f l + g l) → sums h n ≡ sums f n + sums g n
unfolding sums
sums_both f g h zero each = refl
sums_both f g h (suc n) each =
    omega (arith, each 0, sums_both (λ l. f (suc l)) (λ l. g (suc l)) (λ l. h (suc l)) n (λ l. each (suc l)))

sums_listed : {A : Type 0} (f : ℕ → ℕ) (most : A → ℕ) (l : List A) → ((i : ℕ) (a : A) → get_elem? l i ≡ some a → f i ≤ most a)
    → sums f (length l) ≤ total most l
unfolding sums total
sums_listed f most [] each = omega arith
sums_listed f most (x ∷ l) each = omega (arith, each 0 x refl, sums_listed (λ i. f (suc i)) most l (λ i a e. each (suc i) a e))

-- a marked log adds up to what its parts do
module _ {Message : Type 0} (weight : Marked Message → ℕ) (n : ℕ) where
  abbrev share : List (Marked Message) → ℕ → ℕ
  share log l = total weight (keep (has l) log)

  by_parts : (log : List (Marked Message)) → ((x : Marked Message) → Memᴰ x log → x.mark < n) → total weight log ≤ sums (share log) n
  unfolding total keep
  by_parts [] below = omega arith
  by_parts (x ∷ log) below =
      omega (
        arith,
        by_parts log (λ y m. below y (Memᴰ.tail m)),
        sums_both (λ l. cond (has l x) (weight x) 0) (share log) (share (x ∷ log)) n (λ l. go (has l x) l),
        one_of (λ l. cond (has l x) (weight x) 0) n x.mark (below x (Memᴰ.head refl)),
        ap (λ (t : Bool). cond t (weight x) 0) (eq-eqb x.mark x.mark refl),
      )
    where
      go : (t : Bool) (l : ℕ) → total weight (cond t (x ∷ keep (has l) log) (keep (has l) log)) ≡ cond t (weight x) 0 + share log l
      go true l = refl
      go false l = omega arith

module _ {Node Message : Type 0} (repeats : Node → Message → Option Message) (nodes : List Node) (Hears : Node → Message → Type 0) where
  -- a reception, by a node, of a transmission of the log that it hears
  pub record Taken (log : List Message) (reception : Reception) : Type 0 where
    pub node : Node
    pub node_at : get_elem? nodes reception.node ≡ some node
    pub sent : Message
    pub sent_at : get_elem? log reception.transmission ≡ some sent
    pub hears : Hears node sent

  -- none is of a transmission that its node does not hear
  abbrev pub OnlyTaken : List Message → List Reception → Type 0
  OnlyTaken log taken =
      (reception : Reception) → Memᴰ reception taken → (node : Node) → get_elem? nodes reception.node ≡ some node
      → (sent : Message) → get_elem? log reception.transmission ≡ some sent → Hears node sent

  -- the bound of one message alone
  abbrev pub Alone : (Message → ℕ) → Message → ℕ → Type 0
  Alone weight first most =
      (taken : List Reception) → Nodup taken
      → ((reception : Reception) → Memᴰ reception taken → Taken (flood repeats nodes (first ∷ []) taken) reception)
      → total weight (flood repeats nodes (first ∷ []) taken) ≤ most

  pub several : (weight most : Message → ℕ) (events : List (Event Message)) → Nodup (receptions_in events)
      → OnlyTaken (together repeats nodes [] events) (receptions_in events)
      → ((m : Message) → Memᴰ m (messages_in events) → Alone weight m (most m))
      → total weight (together repeats nodes [] events) ≤ total most (messages_in events)
  several weight most events once only alone =
      let e = parted repeats nodes events once in
      let log = e.marked in
      let weigh : Marked Message → ℕ = λ x. weight x.message in
      omega (
        arith,
        total_map (λ (x : Marked Message). x.message) weight log,
        ap (total weight) e.as_marked,
        by_parts weigh (length (messages_in events)) log e.parted.begun,
        sums_listed (λ l. total weigh (keep (has l) log)) most (messages_in events) (share_bound e),
      )
    where
      share_bound : (e : Ends repeats nodes (messages_in events) (receptions_in events) (together repeats nodes [] events)) (l : ℕ) (m : Message)
          → get_elem? (messages_in events) l ≡ some m → total (λ (x : Marked Message). weight x.message) (keep (has l) e.marked) ≤ most m
      share_bound e l m at-l =
          let p = e.parted.part l m at-l in
          omega (
            arith,
            total_map (λ (x : Marked Message). x.message) weight (keep (has l) e.marked),
            ap (total weight) p.is,
            alone m (at_mem (messages_in events) l at-l) p.taken p.once (λ own k.
                let f = p.each own k in
                let placed = at_map (λ (x : Marked Message). x.message) e.marked f.place f.sent_at in
                record {
                  node = f.node;
                  node_at = f.node_at;
                  sent = f.sent;
                  sent_at =
                      subst (λ (i : ℕ). get_elem? (flood repeats nodes (m ∷ []) p.taken) i ≡ some f.sent) f.ranked
                      (subst (λ (x : List Message). get_elem? x (rank l e.marked f.place) ≡ some f.sent) p.is
                      (at_map (λ (x : Marked Message). x.message) (keep (has l) e.marked) (rank l e.marked f.place)
                      (rank_at l e.marked f.place (record { mark = l; message = f.sent }) f.sent_at refl)));
                  hears =
                      only (record { node = own.node; transmission = f.place })
                      (e.heard_among (record { node = own.node; transmission = f.place }) f.was_heard) f.node f.node_at f.sent
                      (subst (λ (x : List Message). get_elem? x f.place ≡ some f.sent) e.as_marked placed);
                }),
          )
