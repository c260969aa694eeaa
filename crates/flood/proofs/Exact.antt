-- THE BOUND IS REACHED over demand 2's rules: of the nodes that count nothing more is asked than room. Every complete schedule makes exactly as many
-- transmissions, and bytes, as the bound says. Assumes nothing.
use mathlib.Core.Path.{◌≡◌, refl, ap, sym, ◌∙◌}
use mathlib.Core.Logic.{◌≢◌, ◌⊎◌, ⊎_elim}
use mathlib.Core.Bool.{Bool, true, false, cond}
use mathlib.Core.Option.{some}
use mathlib.Core.List.{List, [], ◌∷◌, Memᴰ, Nodup}
use Prim.Native.Nat.{ℕ, ◌+◌, ◌*◌, ◌≤◌, ◌<◌}
use native.Mathlib.Omega.{arith}
use borrow.Author.Tests.{ne_eqb}
use lib.Dec.{eqb}
use lib.ListN.{length}
use Rattle.octets.specs.Numbers.{◌gives◌, ◌or_else◌, flag}
use Rattle.octets.proofs.Numbering.{or_else_later, gives_none}
use Rattle.pdu.specs.declared.Destination.{Destination}
use Rattle.pdu.specs.declared.Destination.TheVariants.{Everyone}
use Rattle.pdu.specs.Header.{header_of, source_of}
use Rattle.pdu.specs.Sizes.{path_limit, pdu_limit, path_entries, path_start}
use Rattle.writing.proofs.Encoding.{start_small}
use Rattle.pdu.proofs.Exact.{exact}
use Rattle.pdu.proofs.Paths.{length_addresses}
use Rattle.bound.specs.Bound.{bound, bytes_bound, series, terms}
use Rattle.bound.proofs.Series.{terms_le, terms_below}
use Rattle.origin.specs.declared.FreshSettings.{FreshSettings}
use Rattle.origin.specs.Origination.{fresh_header, fresh, origination_number}
use Rattle.origin.proofs.Deciding.{accepted}
use Rattle.origin.proofs.ReadBack.{length_fresh}
use Rattle.decision.specs.Decision.{is_for_own, is_echo, is_own_report, echo_fault, pass_fault, drop_fault, repeat_fault}
use Rattle.node.specs.Repeat.{repeated, repeated_length}
use Rattle.node.specs.Answers.{repeat_number}
use Rattle.node.proofs.Heard.{not_member, will_repeat}
use Rattle.flood.specs.Air.{Repeater, address, sends, path_of, hop_of, on_the_air, bytes_on_the_air, repeaters}
use Rattle.flood.specs.Air.{Nodes, Begins, Originated}
use Rattle.flood.specs.Complete.{Complete}
use Rattle.flood.specs.Flood.{Reception, total}
use Rattle.flood.proofs.Counting.{no_more_than, begun_lengths, same_count}
use Rattle.flood.proofs.Demand.{network}
use Rattle.flood.proofs.Fresh.{originated_begins, fresh_hop}
use Rattle.flood.proofs.Lists.{total_one}
use Rattle.flood.proofs.Network.{Willing}
use Rattle.flood.proofs.Reached.{no_fewer}
use Rattle.flood.proofs.Repeaters.{Can, same_pass, repeaters_are, repeaters_differ}
use Rattle.flood.proofs.Sent.{Sound}

-- the path is as long as the path count says
pub counted : (first received : List ℕ) → Sound first received → length (path_of received) ≡ (header_of received).path_count
counted first received sound =
    length_addresses received (path_start (header_of received)) _
    ∙ ap (λ (bit : Bool). cond bit (header_of received).path_count 0) sound.has_path

-- A node whose lists let the message pass drops no transmission of it that the node did not originate and whose path does not name it.
module _ (first received : List ℕ) (n : Repeater) (lets_pass : pass_fault n.node (header_of first) ≡ 0) (echo : n.node.settings.echo ≡ true)
    (sound : Sound first received) (not_own : address n ≢ source_of first) (new : ¬ Memᴰ (address n) (path_of received)) where
  from_another : eqb (source_of received) (address n) ≡ false
  from_another = ne_eqb _ _ (λ (same : source_of received ≡ address n). not_own (sym same ∙ sound.same_source))

  no_echo : is_echo n.node.settings (header_of received) received ≡ false
  no_echo = rw (not_member (address n) (path_of received) new, echo, sound.has_path)

  not_its_own : is_own_report n.node.settings (header_of received) ≡ false
  not_its_own = rw (echo, from_another)

  pub passes : drop_fault n.node (header_of received) received ≡ 0
  unfolding drop_fault echo_fault
  passes =
      or_else_later _ _ (or_else_later _ _ (gives_none _ 30 no_echo) ∙ gives_none _ 42 not_its_own)
      ∙ (same_pass n.node (header_of received) (header_of first) sound.same_source sound.same_place ∙ lets_pass)

-- One that can repeat it does, with hops left, and room in the path and in the output.
module _ (first received : List ℕ) (n : Repeater) (can : Can (header_of first) n) (echo : n.node.settings.echo ≡ true) (sound : Sound first received)
    (new : ¬ Memᴰ (address n) (path_of received)) (hops : hop_of received ≢ 0) (short : length (path_of received) < path_limit)
    (fits : length first + 2 * (length (path_of received) + 1) ≤ n.room) where
  for_another : is_for_own (address n) (header_of received).destination ≡ false
  for_another = ap (λ (to : Destination). is_for_own (address n) to) sound.same_place ∙ can.for_another

  again : repeat_fault n.node.settings (header_of received) ≡ 0
  unfolding repeat_fault ◌gives◌ ◌or_else◌
  again =
      let not_full : eqb (header_of received).path_count path_limit ≡ false =
      ne_eqb _ _ (λ (e : (header_of received).path_count ≡ path_limit). omega (arith, counted first received sound)) in
      rw (for_another, can.repeating_on, ne_eqb (hop_of received) 0 hops, sound.has_path, not_full)

  room : repeated_length (header_of received) ≤ n.room
  room = omega (arith, ap (λ (bit : Bool). flag bit) sound.has_path, sound.alone, sound.longer, fits)

  pub willing : sends n received ≡ some (repeated (address n) received)
  unfolding sends
  willing =
      let drops = passes first received n can.lets_pass echo sound can.not_source new in
      let zero : repeat_number n.node n.room received ≡ 0 =
      will_repeat n.node n.room received (header_of received) can.clean sound.reads drops again room in
      rw zero

-- the path has room: at most 255 nodes, or a hop limit below 7
pub terms_fit : (n h : ℕ) → (n ≤ path_limit) ⊎ (h < 7) → terms n h ≤ path_limit
terms_fit n h = ⊎_elim (λ few. omega (arith, terms_le n h)) (λ low. omega (arith, terms_below n h (λ e. omega arith)))

-- an output of 4,615 bytes is long enough for every transmission, whatever begins the flood
pub begun_longest : (first : List ℕ) (n : ℕ) → Begins first → (n ≤ path_limit) ⊎ (hop_of first < 7)
    → length first + 2 * terms n (hop_of first) ≤ pdu_limit
unfolding header_of
begun_longest first n begins fits =
    omega (
      arith,
      terms_fit n (hop_of first) fits,
      (exact first begins.one_pdu).alone,
      start_small (header_of first),
      length_addresses first (path_start (header_of first)) (path_entries (header_of first)),
      ap length begins.path_empty,
      begins.all_bytes 3,
    )

pub longest : (settings : FreshSettings) (payload : List ℕ) (room n : ℕ) → origination_number settings payload room ≡ 0
    → (n ≤ path_limit) ⊎ (settings.hop_limit < 7) → length (fresh settings payload) + 2 * terms n settings.hop_limit ≤ pdu_limit
unfolding fresh_header
longest settings payload room n taken fits =
    omega (
      arith,
      terms_fit n settings.hop_limit fits,
      length_fresh settings payload room taken,
      start_small (fresh_header settings (length payload)),
      no_entries settings.with_path,
      (accepted settings payload room taken).payload_limit,
    )
  where
    no_entries : (bit : Bool) → ◌≡◌ {A = ℕ} (cond bit 0 0) 0
    no_entries true = refl
    no_entries false = refl

-- a message without a destination is for none of the nodes
pub for_everyone : (own : ℕ) (to : Destination) → to ≡ Everyone → is_for_own own to ≡ false
for_everyone own to e = rw e

-- Nodes of different addresses with echo on, and a PDU that begins a flood; those that count have room.
module _ (nodes : List Repeater) (all : Nodes nodes) (first : List ℕ) (begins : Begins first)
    (roomy : (n : Repeater) → Memᴰ n (repeaters (header_of first) nodes)
    → length first + 2 * terms (length (repeaters (header_of first) nodes)) (hop_of first) ≤ n.room)
    (fits : (length (repeaters (header_of first) nodes) ≤ path_limit) ⊎ (hop_of first < 7)) where
  abbrev counting : List Repeater
  counting = repeaters (header_of first) nodes

  among : (n : Repeater) → Memᴰ n counting → Memᴰ n nodes × Can (header_of first) n
  among n m = repeaters_are (header_of first) nodes m

  all_willing : (n : Repeater) → Memᴰ n counting
      → Willing sends address (source_of first) (Sound first) path_of hop_of (terms (length counting) (hop_of first)) n
  all_willing n m received sound new hops short =
      let small = terms_fit (length counting) (hop_of first) fits in
      let (n-in, can) = among n m in (
        repeated (address n) received,
        willing first received n can (all.echo_on n n-in) sound new hops (omega arith) (omega (arith, roomy n m)),
      )

  -- every schedule that leaves out nothing, in any order
  module _ (receptions : List Reception) (once : Nodup receptions) (complete : Complete sends nodes (first ∷ []) receptions) where
    just : (weight : ℕ → ℕ)
        → total (λ t. weight (length (path_of t))) (on_the_air nodes first receptions)
        ≡ series weight (length counting) (terms (length counting) (hop_of first))
    just weight =
        let above = no_more_than nodes all first begins receptions once weight in
        let below =
        no_fewer sends address (source_of first) (Sound first) path_of hop_of nodes first (network nodes all first begins) counting (λ n m. (among n m).0)
        (repeaters_differ (header_of first) nodes all.addresses_differ) all_willing receptions complete weight in
        omega arith

    pub begun_reached : length (on_the_air nodes first receptions)
        ≡ bound (length (repeaters (header_of first) nodes)) (hop_of first)
    unfolding bound
    begun_reached = sym (total_one _) ∙ just (λ k. 1)

    pub begun_reached_bytes : bytes_on_the_air nodes first receptions
        ≡ bytes_bound (length (repeaters (header_of first) nodes)) (hop_of first) (length first)
    unfolding bytes_bound
    begun_reached_bytes = begun_lengths nodes all first begins receptions once ∙ just (λ k. length first + 2 * k)

-- The same of a message with the path bit that origination takes.
module _ (nodes : List Repeater) (all : Nodes nodes) (settings : FreshSettings) (payload : List ℕ) (room : ℕ) (message : Originated settings payload room)
    (roomy : (n : Repeater) → Memᴰ n (repeaters (fresh_header settings (length payload)) nodes)
    → length (fresh settings payload) + 2 * terms (length (repeaters (fresh_header settings (length payload)) nodes)) settings.hop_limit ≤ n.room)
    (fits : (length (repeaters (fresh_header settings (length payload)) nodes) ≤ path_limit) ⊎ (settings.hop_limit < 7)) where
  abbrev sent : List ℕ
  sent = fresh settings payload

  begins : Begins sent
  begins = originated_begins settings payload room message

  hop : hop_of sent ≡ settings.hop_limit
  hop = fresh_hop settings payload room message

  same : repeaters (header_of sent) nodes ≡ repeaters (fresh_header settings (length payload)) nodes
  same = same_count nodes all settings payload room message

  roomy_sent : (n : Repeater) → Memᴰ n (repeaters (header_of sent) nodes)
      → length sent + 2 * terms (length (repeaters (header_of sent) nodes)) (hop_of sent) ≤ n.room
  roomy_sent = rw (same, hop) roomy

  fits_sent : (length (repeaters (header_of sent) nodes) ≤ path_limit) ⊎ (hop_of sent < 7)
  fits_sent = rw (same, hop) fits

  module _ (receptions : List Reception) (once : Nodup receptions)
      (complete : Complete sends nodes (fresh settings payload ∷ []) receptions) where
    pub reached : length (on_the_air nodes (fresh settings payload) receptions)
        ≡ bound (length (repeaters (fresh_header settings (length payload)) nodes)) settings.hop_limit
    reached =
        begun_reached nodes all sent begins roomy_sent fits_sent receptions once complete ∙ (λ i. bound (length (same i)) (hop i))

    pub reached_bytes : bytes_on_the_air nodes (fresh settings payload) receptions
        ≡ bytes_bound (length (repeaters (fresh_header settings (length payload)) nodes)) settings.hop_limit (length (fresh settings payload))
    reached_bytes =
        begun_reached_bytes nodes all sent begins roomy_sent fits_sent receptions once complete
        ∙ (λ i. bytes_bound (length (same i)) (hop i) (length sent))
