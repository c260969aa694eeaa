-- SEVERAL MESSAGES over demand 2's rules: no more transmissions and bytes than the sum of demand 3's bounds, and where it is known who hears whom than
-- the sum of the network's own numbers. Assumes nothing.
use mathlib.Core.Path.{◌≡◌, refl}
use mathlib.Core.Bool.{Bool, true}
use mathlib.Core.List.{List, [], Memᴰ, Nodup}
use Prim.Native.Nat.{ℕ, ◌≤◌}
use native.Mathlib.Omega.{arith}
use lib.ListN.{length}
use Rattle.flood.specs.Air.{Repeater, address, sends, on_the_air, Nodes, Begins}
use Rattle.flood.specs.Flood.{total}
use Rattle.flood.proofs.Counting.{begun_bounded, begun_bytes}
use Rattle.flood.proofs.Lists.{total_one}
use Rattle.coverage.specs.Hearing.{sender_of, ByNoOther}
use Rattle.airtime.proofs.Within.{air_within, bytes_within}
use Rattle.several_messages.specs.SeveralMessages.{Event, receptions_in, messages_in, all_on_the_air, OnlyHeard, most_of, most_bytes_of, air_of_message}
use Rattle.several_messages.specs.SeveralMessages.{air_bytes_of_message}
use Rattle.several_messages.proofs.Sums.{Taken, Alone, several}

-- whoever hears whomever
abbrev pub Anyone : Repeater → List ℕ → Type 0
Anyone node sent = Unit {0}

abbrev pub InRange : (ℕ → ℕ → Bool) → Repeater → List ℕ → Type 0
InRange hears node sent = hears (sender_of sent) (address node) ≡ true

-- one message alone, four times
module _ (nodes : List Repeater) (all : Nodes nodes) (first : List ℕ) (begins : Begins first) where
  pub alone : Alone sends nodes Anyone (λ t. 1) first (most_of nodes first)
  alone taken once only = omega (arith, (begun_bounded nodes all first begins taken once).few, total_one (on_the_air nodes first taken))

  pub alone_bytes : Alone sends nodes Anyone length first (most_bytes_of nodes first)
  alone_bytes taken once only = begun_bytes nodes all first begins taken once

  module _ (hears : ℕ → ℕ → Bool) where
    pub alone_heard : Alone sends nodes (InRange hears) (λ t. 1) first (air_of_message nodes first hears)
    alone_heard taken once only =
        let no_other : ByNoOther hears nodes first taken =
        λ r m. let k = only r m in record { node = k.node; node_at = k.node_at; sent = k.sent; sent_at = k.sent_at; hears_sender = k.hears } in
        omega (arith, air_within hears nodes all first begins taken once no_other, total_one (on_the_air nodes first taken))

    pub alone_heard_bytes : Alone sends nodes (InRange hears) length first (air_bytes_of_message nodes first hears)
    alone_heard_bytes taken once only =
        let no_other : ByNoOther hears nodes first taken =
        λ r m. let k = only r m in record { node = k.node; node_at = k.node_at; sent = k.sent; sent_at = k.sent_at; hears_sender = k.hears } in
        bytes_within hears nodes all first begins taken once no_other

module _ (nodes : List Repeater) (all : Nodes nodes) (events : List (Event (List ℕ))) (fresh : (m : List ℕ) → Memᴰ m (messages_in events) → Begins m)
    (once : Nodup (receptions_in events)) where
  pub together_within : length (all_on_the_air nodes events) ≤ total (most_of nodes) (messages_in events)
  together_within =
      omega (
        arith,
        total_one (all_on_the_air nodes events),
        several sends nodes Anyone (λ t. 1) (most_of nodes) events once (λ r m n n-at t t-at. tt)
            (λ m k. alone nodes all m (fresh m k)),
      )

  pub together_bytes : total length (all_on_the_air nodes events) ≤ total (most_bytes_of nodes) (messages_in events)
  together_bytes =
      several sends nodes Anyone length (most_bytes_of nodes) events once (λ r m n n-at t t-at. tt) (λ m k. alone_bytes nodes all m (fresh m k))

  module _ (hears : ℕ → ℕ → Bool) (only : OnlyHeard hears nodes (all_on_the_air nodes events) (receptions_in events)) where
    pub together_heard : length (all_on_the_air nodes events) ≤ total (λ m. air_of_message nodes m hears) (messages_in events)
    together_heard =
        omega (
          arith,
          total_one (all_on_the_air nodes events),
          several sends nodes (InRange hears) (λ t. 1) (λ m. air_of_message nodes m hears) events once only
              (λ m k. alone_heard nodes all m (fresh m k) hears),
        )

    pub together_heard_bytes : total length (all_on_the_air nodes events) ≤ total (λ m. air_bytes_of_message nodes m hears) (messages_in events)
    together_heard_bytes =
        several sends nodes (InRange hears) length (λ m. air_bytes_of_message nodes m hears) events once only
        (λ m k. alone_heard_bytes nodes all m (fresh m k) hears)
