-- Demand 3 in runs that are computed, byte by byte: the bound is met, and no condition can be left out. Assumes nothing.
use mathlib.Core.Path.{◌≡◌, refl, ap, sym, subst}
use mathlib.Core.Bool.{Bool, true, false}
use mathlib.Core.Logic.{⊎_elim}
use mathlib.Core.List.Memᴰ
use mathlib.Core.List.{List, [], ◌∷◌, map, Memᴰ}
use mathlib.Core.List.{Nodup, Nodup-nil}
use Prim.Native.Nat.{ℕ, zero, suc, ◌≤◌, ◌<◌}
use native.Mathlib.Omega.{arith}
use borrow.Author.Tests.{le-ltb}
use lib.ListN.{length}
use Rattle.octets.specs.Numbers.{◌gives◌, ◌or_else◌}
use Rattle.octets.specs.Octets.{AllBytes}
use Rattle.pdu.specs.declared.Destination.TheVariants.{Everyone}
use Rattle.pdu.specs.Header.{header_of, source_of}
use Rattle.pdu.specs.Reading.{read_of}
use Rattle.pdu.specs.Parts.{addresses_at, in_path}
use Rattle.writing.specs.Writing.{header_bytes, path_bytes, encode}
use Rattle.lists.specs.Lists.{two, low_above_high, fault_of, first_fault}
use Rattle.bound.specs.Bound.{falling_product, series, terms, bound, bytes_bound}
use Rattle.origin.specs.declared.FreshSettings.{FreshSettings}
use Rattle.origin.specs.Origination.{fresh_header, fresh, settings_fault, origination_number}
use Rattle.decision.specs.declared.Choice.TheVariants.{Neither}
use Rattle.decision.specs.Decision.{node_of, echo_fault, pass_fault, drop_fault, repeat_fault}
use Rattle.node.specs.Repeat.{repeated}
use Rattle.node.specs.Answers.{node_fault, node_or_reading_fault, stop_fault, repeat_number}
use Rattle.flood.specs.Air.{Repeater, address, sends, path_of, on_the_air, can_repeat, repeaters, Nodes, Open, Originated}
use Rattle.flood.specs.Flood.{Reception, flood, answer, total, others, keep}
use Rattle.flood.proofs.Counting.{demand_3}
use Rattle.flood.proofs.Lists.{nodup_more}
use Rattle.flood.proofs.Rounds.{round, rounds}

-- a node that repeats, with its lists off and empty and an output of 100 bytes
abbrev pub plain : Bool → ℕ → Repeater
plain echo own =
    record {
      node =
          node_of
          (record {
            edition = 12;
            own = own;
            echo = echo;
            repeating = true;
            source_pass = Neither;
            source_reject = Neither;
            destination_pass = Neither;
            destination_reject = Neither;
          })
          (record { source_pass = two [] []; source_reject = two [] []; destination_pass = two [] []; destination_reject = two [] [] });
      room = 100;
    }

-- a message for everyone with one byte of payload
abbrev pub asked : Bool → ℕ → FreshSettings
asked path hop =
    record {
      edition = 12;
      source = 1000;
      destination = Everyone;
      hop_limit = hop;
      port = 0;
      time_stamp_request = false;
      with_path = path;
      reliable = false;
      pdu_id = 0;
      encrypted = false;
    }

abbrev pub begun : Bool → ℕ → List ℕ
begun path hop = fresh (asked path hop) (0x70 ∷ [])

-- what goes out where each of the nodes hears each of the first n transmissions
unfoldable pub air : List Repeater → Bool → ℕ → ℕ → List (List ℕ)
air nodes path hop n = on_the_air nodes (begun path hop) (rounds (length nodes) n)

abbrev pub three : List Repeater
three = plain true 1 ∷ plain true 2 ∷ plain true 3 ∷ []

-- The theorems are about these nodes and this message: the conditions can be met.
own_addresses : (addresses : List ℕ) → map address (map (plain true) addresses) ≡ addresses
own_addresses [] = refl
own_addresses (a ∷ l) = ap (λ (x : List ℕ). a ∷ x) (own_addresses l)

pub plain_nodes : (addresses : List ℕ) → Nodup addresses → ((a : ℕ) → Memᴰ a addresses → a < 65536)
    → Nodes (map (plain true) addresses)
plain_nodes addresses differ fit =
    record {
      addresses_differ = subst Nodup (sym (own_addresses addresses)) differ;
      addresses_fit = λ each m. let (a, a_in, e) = Memᴰ.of_map (plain true) addresses m in subst (λ (x : Repeater). address x < 65536) e (fit a a_in);
      echo_on = λ each m. let (a, a_in, e) = Memᴰ.of_map (plain true) addresses m in ap (λ (x : Repeater). x.node.settings.echo) (sym e);
    }

pub plain_open : (echo : Bool) (own : ℕ) → Open (plain echo own).node
unfolding first_fault fault_of low_above_high ◌gives◌ ◌or_else◌
plain_open echo own =
    record {
      edition_known = refl;
      repeating_on = refl;
      source_pass_off = refl;
      source_reject_off = refl;
      destination_pass_off = refl;
      destination_reject_off = refl;
      no_list_fault = refl;
    }

pub asked_taken : (hop : ℕ) → hop ≤ 7 → Originated (asked true hop) (0x70 ∷ []) 100
unfolding settings_fault origination_number fresh_header ◌gives◌ ◌or_else◌
asked_taken hop small =
    record {
      taken = rw (le-ltb 7 hop small);
      with_path_lem = refl;
      source_fits = omega arith;
      destination_fits = λ to e. let z : ◌≡◌ {A = ℕ} 0 1 = cc in absurd (omega arith);
      id_fits = omega arith;
      payload_fits = one;
    }
  where
    one : AllBytes (0x70 ∷ [])
    one zero = omega arith
    one (suc place) = omega arith

-- the originator of that message, echo on or off, and one node that counts; that one hears the message, then the originator hears the repeat
abbrev pub pair : Bool → List Repeater
pair echo = plain echo 1000 ∷ plain true 1 ∷ []

abbrev pub heard_back : List Reception
heard_back = record { node = 1; transmission = 0 } ∷ record { node = 0; transmission = 1 } ∷ []

pub record Computed : Type 0 where
  -- three nodes that hear all there is to hear: as many transmissions as document 01 says (Checked by hand, last line), and as many bytes
  pub hop_0 : length (air three true 0 1) ≡ 1
  pub hop_2 : length (air three true 2 10) ≡ 10
  pub hop_6 : length (air three true 6 16) ≡ 16
  pub hop_7 : length (air three true 7 16) ≡ 16
  pub no_nodes : length (on_the_air [] (begun true 7) (rounds 3 1)) ≡ 1
  pub bytes_2 : total length (air three true 2 10) ≡ bytes_bound 3 2 8
  -- one node, whose bound is 2, goes past it with echo off, and without the path bit. Two nodes of one address stay below their 5 transmissions
  -- here, but two of these carry the same path
  pub alone : bound 1 7 ≡ 2
  pub echo_off : length (air (plain false 1 ∷ []) true 7 3) ≡ 4
  pub no_path_bit : length (air (plain true 1 ∷ []) false 7 3) ≡ 4
  pub two : bound 2 7 ≡ 5
  pub one_address : map path_of (air (plain true 1 ∷ plain true 1 ∷ []) true 7 5) ≡ [] ∷ (1 ∷ []) ∷ (1 ∷ []) ∷ []
  -- and so does one that takes a transmission twice
  pub taken_twice : length (on_the_air (plain true 1 ∷ []) (begun true 1) (record { node = 0; transmission = 0 } ∷ record { node = 0; transmission = 0 } ∷ []))
      ≡ 3
  -- document 02, W-203: one node counts, so that the bound at hop limit 2 is 2. With the originator hearing the repeat, or all there is to hear, that
  -- many go out; with echo off at the originator one more
  pub counted : others address (source_of (begun true 2)) (pair true) ≡ plain true 1 ∷ []
  pub pair_bound : bound 1 2 ≡ 2
  pub pair_heard_back : length (on_the_air (pair true) (begun true 2) heard_back) ≡ 2
  pub pair_heard_all : length (air (pair true) true 2 2) ≡ 2
  pub pair_echo_off : length (on_the_air (pair false) (begun true 2) heard_back) ≡ 3
  -- the bytes themselves, from hop limit 2: node 1's repeat, then node 2's of that, and none of node 3, since the hop limit is 0 by then
  pub in_a_row : on_the_air three (begun true 2)
      (record { node = 0; transmission = 0 } ∷ record { node = 1; transmission = 1 } ∷ record { node = 2; transmission = 2 } ∷ [])
      ≡ (0x02 ∷ 0x00 ∷ 0x20 ∷ 0x01 ∷ 0x03 ∷ 0xE8 ∷ 0x00 ∷ 0x70 ∷ [])
      ∷ (0x02 ∷ 0x00 ∷ 0x10 ∷ 0x01 ∷ 0x03 ∷ 0xE8 ∷ 0x01 ∷ 0x00 ∷ 0x01 ∷ 0x70 ∷ [])
      ∷ (0x02 ∷ 0x00 ∷ 0x00 ∷ 0x01 ∷ 0x03 ∷ 0xE8 ∷ 0x02 ∷ 0x00 ∷ 0x01 ∷ 0x00 ∷ 0x02 ∷ 0x70 ∷ []) ∷ []

pub computed : Computed
unfolding bound bytes_bound series falling_product terms total others air rounds round flood answer sends fresh fresh_header encode header_bytes path_bytes
    repeated repeat_number stop_fault node_or_reading_fault node_fault first_fault fault_of low_above_high read_of header_of drop_fault echo_fault pass_fault
    repeat_fault addresses_at in_path ◌gives◌ ◌or_else◌
computed =
    record {
      hop_0 = refl;
      hop_2 = refl;
      hop_6 = refl;
      hop_7 = refl;
      no_nodes = refl;
      bytes_2 = refl;
      alone = refl;
      echo_off = refl;
      no_path_bit = refl;
      two = refl;
      one_address = refl;
      taken_twice = refl;
      counted = refl;
      pair_bound = refl;
      pair_heard_back = refl;
      pair_heard_all = refl;
      pair_echo_off = refl;
      in_a_row = refl;
    }

-- Never more than the bound for the originator and that node, whatever they hear and in whatever order.
pair_differ : Nodup {A = ℕ} (1000 ∷ 1 ∷ [])
pair_differ =
    nodup_more (λ m. let same : ◌≡◌ {A = ℕ} 1000 1 = Memᴰ.eq_of_singleton m in omega arith) (nodup_more Memᴰ.not-nil Nodup-nil)

pair_fit : (a : ℕ) → Memᴰ {A = ℕ} a (1000 ∷ 1 ∷ []) → a < 65536
pair_fit a m =
    ⊎_elim (λ (e : a ≡ 1000). omega arith) (λ k. let e : a ≡ 1 = Memᴰ.eq_of_singleton k in omega arith) (Memᴰ.cases_cons m)

pair_most : bound (length (repeaters (fresh_header (asked true 2) 1) (pair true))) 2 ≡ 2
unfolding bound series falling_product terms repeaters keep can_repeat fresh_header node_fault ◌or_else◌ ◌gives◌ first_fault fault_of low_above_high pass_fault
pair_most = refl

pub never_three : (receptions : List Reception) → Nodup receptions → length (on_the_air (pair true) (begun true 2) receptions) ≤ 2
never_three receptions once =
    let nodes = plain_nodes (1000 ∷ 1 ∷ []) pair_differ pair_fit in
    let few = (demand_3 (pair true) nodes (asked true 2) (0x70 ∷ []) 100 (asked_taken 2 (omega arith)) receptions once).few in
    omega (arith, few, pair_most)
