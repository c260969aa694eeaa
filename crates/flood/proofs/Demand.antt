-- Demand 3's network over demand 2's rules: its nodes are lawful, and a schedule that leaves out nothing exists. Assumes nothing.
use mathlib.Core.Path.{◌≡◌, refl, ap}
use mathlib.Core.List.{List, [], ◌∷◌, Memᴰ, Nodup}
use Prim.Native.Nat.{ℕ, ◌≤◌}
use native.Mathlib.Omega.{arith}
use lib.ListN.{length}
use Rattle.pdu.specs.Header.{header_of, source_of}
use Rattle.pdu.proofs.Exact.{exact}
use Rattle.origin.specs.declared.FreshSettings.{FreshSettings}
use Rattle.origin.specs.Origination.{fresh}
use Rattle.flood.specs.Air.{Repeater, address, sends, path_of, hop_of, on_the_air, Nodes, Begins, Originated}
use Rattle.flood.specs.Complete.{Complete}
use Rattle.flood.specs.Flood.{Reception}
use Rattle.flood.proofs.Bounded.{flood_sound}
use Rattle.flood.proofs.Fresh.{originated_begins}
use Rattle.flood.proofs.Network.{Network}
use Rattle.flood.proofs.Reached.{complete_exists}
use Rattle.flood.proofs.Sent.{Sound, node_lawful}

begins_sound : (first : List ℕ) → Begins first → Sound first first
begins_sound first begins =
    let one = exact first begins.one_pdu in
    record {
      small = begins.all_bytes;
      reads = one.reads;
      has_path = begins.path_bit_lem;
      alone = one.alone;
      longer = omega (arith, ap length begins.path_empty);
      same_source = refl;
      same_place = refl;
    }

hop_small : (bytes : List ℕ) → hop_of bytes ≤ 7
unfolding header_of
hop_small bytes = omega arith

-- Any nodes of different addresses with echo on, and any PDU that begins a flood. The hop limit h is the one that the PDU shows.
module _ (nodes : List Repeater) (all : Nodes nodes) (first : List ℕ) (begins : Begins first) where
  pub network : Network sends address (source_of first) (Sound first) path_of hop_of nodes first
  network =
      record {
        addresses_differ = all.addresses_differ;
        lawful = λ n m. node_lawful first n (all.addresses_fit n m) (all.echo_on n m);
        first_sound = begins_sound first begins;
        fresh = begins.path_empty;
        hop_fits = hop_small first;
      }

  -- a schedule that leaves out nothing
  pub begun_schedule : (receptions : List Reception) × Nodup receptions × Complete sends nodes (first ∷ []) receptions
  begun_schedule = complete_exists sends address (source_of first) (Sound first) path_of hop_of nodes first network

  -- every transmission shows the first's source
  pub begun_source : (receptions : List Reception) → Nodup receptions → (t : List ℕ) → Memᴰ t (on_the_air nodes first receptions)
      → source_of t ≡ source_of first
  begun_source receptions once t m =
      (flood_sound sends address (source_of first) (Sound first) path_of hop_of nodes first network receptions once t m).same_source

-- Any message that origination takes with the path bit. The hop limit h is the hop setting that origination was given.
module _ (nodes : List Repeater) (all : Nodes nodes) (settings : FreshSettings) (payload : List ℕ) (room : ℕ)
    (message : Originated settings payload room) where
  begins : Begins (fresh settings payload)
  begins = originated_begins settings payload room message

  pub schedule : (receptions : List Reception) × Nodup receptions × Complete sends nodes (fresh settings payload ∷ []) receptions
  schedule = begun_schedule nodes all (fresh settings payload) begins
