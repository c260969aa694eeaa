-- DOES EVERYONE HEAR IT (document 02, W-208): where all nodes can repeat the message, every chain is one through nodes that can. Assumes nothing.
use mathlib.Core.Path.{◌≡◌, sym, subst, ◌∙◌}
use mathlib.Core.Logic.{◌≢◌, ◌⊎◌, inl, inr, ⊎_elim, by_cases}
use mathlib.Core.Bool.{Bool, true, false}
use mathlib.Core.Option.{some}
use mathlib.Core.List.Memᴰ
use mathlib.Core.List.{List, map, Memᴰ}
use Prim.Native.Nat.{ℕ, zero, suc, ◌+◌, ◌-◌, ◌≤◌}
use native.Mathlib.Decide.{ℕ_discrete}
use native.Mathlib.Omega.{arith}
use lib.ListN.{length, get_elem?}
use Rattle.octets.specs.Octets.{at}
use Rattle.pdu.specs.declared.Destination.{Destination}
use Rattle.pdu.specs.declared.Destination.TheVariants.{Everyone}
use Rattle.pdu.specs.declared.Header.{Header}
use Rattle.bound.proofs.Series.{terms_below}
use Rattle.chains.specs.Chains.{Chain, Shortest}
use Rattle.chains.specs.Lengths.{is_unmarked, no_node, LengthsFound}
use Rattle.chains.specs.Reach.{is_delivered}
use Rattle.chains.proofs.Finding.{Served, is_served_lem}
use Rattle.chains.proofs.Steps.{chain_none, chain_is_none, chain_next, chain_last, shortest_one}
use Rattle.origin.specs.declared.FreshSettings.{FreshSettings}
use Rattle.origin.specs.Origination.{fresh_header, fresh}
use Rattle.decision.specs.Decision.{is_for_another}
use Rattle.node.proofs.Faults.{no_fault}
use Rattle.flood.specs.Air.{Repeater, Open, address, repeaters}
use Rattle.flood.specs.Flood.{Reception}
use Rattle.flood.proofs.Exact.{for_everyone}
use Rattle.flood.proofs.Fresh.{originated_begins}
use Rattle.flood.proofs.Lists.{at_mem}
use Rattle.flood.proofs.Others.{are_others}
use Rattle.flood.proofs.Repeaters.{open_passes, open_can, is_can, repeaters_are, are_repeaters}
use Rattle.coverage.specs.Hearing.{TakenByAll, ByNoOther}
use Rattle.coverage.specs.Delivery.{Planned, LetsIn, Roomy, Delivered}
use Rattle.coverage.specs.Marks.{MarksSay}
use Rattle.coverage.specs.Reach.{hears_through, Reach}
use Rattle.coverage.specs.ByLengths.{Says, remaining}
use Rattle.coverage.proofs.Covered.{reach_through}
use Rattle.coverage.proofs.Reach.{links, linked}
use Rattle.coverage.proofs.Schedule.{taken_exists, at_within}
use Rattle.coverage.proofs.Left.{all_left}
use Rattle.coverage.proofs.ByLengths.{by_lengths, delivered_by_lengths}

-- chains of one relation are chains of another that has their hearings
pub chain_also : (one other : ℕ → ℕ → Bool) (known : List ℕ) (source : ℕ)
    → ((x y : ℕ) → (x ≡ source) ⊎ Memᴰ x known → one x y ≡ true → other x y ≡ true)
    → (k : ℕ) {to : ℕ} → Chain one known source to k → Chain other known source to k
chain_also one other known source also zero c =
    Memᴰ.cast (chain_is_none one known source c) (chain_none other known source)
chain_also one other known source also (suc k) c =
    let step = chain_last one known source k c in
    chain_next other known source k (chain_also one other known source also k step.before) step.known
    (also step.via _ (begun k step.before) step.heard)
  where
    begun : (k : ℕ) {x : ℕ} → Chain one known source x k → (x ≡ source) ⊎ Memᴰ x known
    begun zero c = inl (chain_is_none one known source c)
    begun (suc k) c = inr (chain_last one known source k c).known

for_no_other : (own : ℕ) (to : Destination) → to ≡ Everyone → is_for_another own to ≡ false
for_no_other own to e = rw e

module _ (hears : ℕ → ℕ → Bool) (nodes : List Repeater) (settings : FreshSettings) (payload : List ℕ) (room : ℕ)
    (plan : Planned nodes settings payload room) where
  abbrev header : Header
  header = fresh_header settings (length payload)

  free : (n : Repeater) → Memᴰ n nodes → address n ≢ settings.source → Open n.node
  free n n-in other = plan.others_open n (are_others address settings.source nodes n-in other)

  lets : (n : Repeater) → Memᴰ n nodes → address n ≢ settings.source → LetsIn (fresh_header settings (length payload)) n
  unfolding fresh_header
  lets n n-in other =
      let o = free n n-in other in
      record {
        no_fault = no_fault n.node o.edition_known o.no_list_fault;
        lets_pass = open_passes n.node header o;
        not_for_another = for_no_other (address n) settings.destination plan.no_destination;
      }

  can_all : (n : Repeater) → Memᴰ n nodes → address n ≢ settings.source → Memᴰ n (repeaters (fresh_header settings (length payload)) nodes)
  unfolding fresh_header
  can_all n n-in other =
      are_repeaters header nodes n-in
      (open_can header n (free n n-in other) other (for_everyone (address n) settings.destination plan.no_destination))

  -- room for the longest repeat is room for as many hops as there are nodes
  pub planned_roomy : Roomy nodes settings payload
  unfolding fresh_header
  planned_roomy =
      record {
        roomy = λ n m.
            let (n-in, can) = repeaters_are header nodes m in
            let few = plan.hops in
            omega (
              arith,
              plan.others_roomy n (are_others address settings.source nodes n-in can.not_source),
              terms_below (length (repeaters header nodes)) settings.hop_limit (λ e. omega arith),
            );
        path_fits = inr (omega (arith, plan.hops));
      }

  abbrev link : ℕ → ℕ → Bool
  link = hears_through hears header nodes

  all_link : (x y : ℕ) → (x ≡ settings.source) ⊎ Memᴰ x (map address nodes) → hears x y ≡ true → link x y ≡ true
  unfolding fresh_header
  all_link x y from heard =
      links hears header nodes x y
      (⊎_elim inl
      (λ m.
      let (n, n-in, is) = Memᴰ.of_map address nodes m in
      by_cases (ℕ_discrete (address n) settings.source)
      (λ own. inl (sym is ∙ own))
      (λ other. inr (Memᴰ.cast (sym is) (Memᴰ.map address (can_all n n-in other)))))
      from)
      heard

  to_through : (k : ℕ) {to : ℕ} → Chain hears (map address nodes) settings.source to k → Chain link (map address nodes) settings.source to k
  to_through = chain_also hears link (map address nodes) settings.source all_link

  from_through : (k : ℕ) {to : ℕ} → Chain link (map address nodes) settings.source to k → Chain hears (map address nodes) settings.source to k
  from_through = chain_also link hears (map address nodes) settings.source (λ x y from heard. (linked hears header nodes x y heard).1)

  -- THERE ARE SUCH RECEPTIONS
  pub schedule : (receptions : List Reception) × TakenByAll hears nodes (fresh settings payload) receptions
      × ByNoOther hears nodes (fresh settings payload) receptions
  schedule = taken_exists hears nodes plan.network (fresh settings payload) (originated_begins settings payload room plan.originated)

  module _ (receptions : List Reception) (taken : TakenByAll hears nodes (fresh settings payload) receptions) where
    pub reach : Reach hears nodes settings payload receptions
    reach =
        let r = reach_through hears nodes plan.network settings payload room plan.originated planned_roomy receptions taken in
        record {
          reached = λ n n-in other j few c.
              let (k, s, d) = r.reached n n-in other (lets n n-in other) j (inr few) (to_through j c) in
              (k, record { chain = from_through k s.chain; none_shorter = λ i below c'. s.none_shorter i below (to_through i c') }, d);
          originator = λ n same what count d. (r.only_let_in n what count d).1 same;
          beyond = λ only n none what count d.
              let (lasts, chain) = r.came_along only n what count d in
              ⊎_elim {C = ⊥} (λ seven. omega (arith, plan.hops)) (λ few. none (count + 1) few (from_through (count + 1) chain)) lasts;
          came_along = λ only n what count d. from_through (count + 1) (r.came_along only n what count d).1;
        }

    -- by the shortest chain
    pub by_shortest : (n : Repeater) → Memᴰ n nodes → address n ≢ settings.source → (k : ℕ) → k ≤ settings.hop_limit + 1
        → Shortest hears (map address nodes) settings.source (address n) k → Delivered nodes (fresh settings payload) receptions n payload (k - 1)
    by_shortest n n-in other k few s =
        let (j, t, d) = reach.reached n n-in other k few s.chain in
        subst (λ (i : ℕ). Delivered nodes (fresh settings payload) receptions n payload (i - 1))
        (shortest_one hears (map address nodes) settings.source j k t s) d

    -- the lengths that `find_lengths` leaves, no node marked and none failed, say who is delivered it
    module _ (pairs : List ℕ) (says : Says pairs hears nodes) (from : ℕ) (from_at : get_elem? (map address nodes) from ≡ some settings.source)
        (marks : List ℕ) (size : length marks ≡ length nodes) (unmarked : (place : ℕ) → is_unmarked marks place ≡ true)
        (before lengths : List ℕ) (found : LengthsFound pairs marks from no_node before true lengths)
        (place : ℕ) (n : Repeater) (n-at : get_elem? nodes place ≡ some n) where
      served : Served (length marks) from (length before)
      served = is_served_lem (length marks) from (length before) (sym found.answer)

      same : remaining no_node nodes ≡ nodes
      same = all_left no_node nodes (omega (arith, served.few, size))

      marked : MarksSay marks (fresh_header settings (length payload)) nodes
      unfolding fresh_header
      marked =
          record {
            size = size;
            says = λ i m m-at other. unmarked i
                ∙ sym (is_can header m (repeaters_are header nodes (can_all m (at_mem nodes i m-at) other)).1);
          }

      taken_by_left : TakenByAll hears (remaining no_node nodes) (fresh settings payload) receptions
      taken_by_left = subst (λ (l : List Repeater). TakenByAll hears l (fresh settings payload) receptions) (sym same) taken

      roomy_left : Roomy (remaining no_node nodes) settings payload
      roomy_left = subst (λ (l : List Repeater). Roomy l settings payload) (sym same) planned_roomy

      pub planned_by_lengths : (is_delivered settings.hop_limit (at lengths place) ≡ true
          → Delivered nodes (fresh settings payload) receptions n payload (at lengths place - 1))
          × (ByNoOther hears nodes (fresh settings payload) receptions → is_delivered settings.hop_limit (at lengths place) ≡ false
          → (what : List ℕ) (count : ℕ) → ¬ Delivered nodes (fresh settings payload) receptions n what count)
      planned_by_lengths =
          let inside = at_within nodes place n-at in
          let from_in = at_within (map address nodes) from from_at in
          let alive : place ≢ no_node = λ e. omega (arith, served.few, size) in
          let works : from ≢ no_node = λ e. omega (arith, served.few, served.begins) in (
            λ e.
                subst (λ (l : List Repeater). Delivered l (fresh settings payload) receptions n payload (at lengths place - 1)) same
                (delivered_by_lengths hears nodes plan.network settings payload room plan.originated no_node roomy_left receptions taken_by_left
                pairs says marks marked from from_at works before lengths found place n n-at alive (lets n (at_mem nodes place n-at)) e),
            λ only e what count d.
                (by_lengths hears nodes plan.network settings payload room plan.originated no_node roomy_left receptions taken_by_left
                pairs says marks marked from from_at works before lengths found).not_delivered
                (subst (λ (l : List Repeater). ByNoOther hears l (fresh settings payload) receptions) (sym same) only) place n n-at alive e what count
                (subst (λ (l : List Repeater). Delivered l (fresh settings payload) receptions n what count) (sym same) d),
          )
