use Prim.Native.Nat.{ℕ}
use mathlib.Core.Bool.{Bool}
use mathlib.Core.List.{List}
use mathlib.Core.Path.{◌≡◌}
use Rattle.octets.specs.Octets.{at, word_at}
use Rattle.pdu.specs.Header.{is_set, path_bit, source_place, path_count_in, header_of}
use Rattle.stations_update.specs.declared.Heard.{Heard}
use borrow.Author.Rules.{rules}
use Rattle.node_stations.proofs.heard_of.Goals as goal

pub path_count_in-requires : goal.path_count_in-requires
path_count_in-requires c = search rules

-- what is heard, from bytes and from whether echo dropped the PDU

heard-is : (bytes : List ℕ) (echo : Bool) {byte0 from count : ℕ} {dropped : Bool} → byte0 ≡ at bytes 0 → from ≡ word_at bytes source_place → dropped ≡ echo
    → count ≡ path_count_in bytes
    → ◌≡◌ {A = Heard} (record { source = from; echo = dropped; path_bit = is_set (path_bit byte0); path_count = count })
    (record {
      source = (header_of bytes).source;
      echo = echo;
      path_bit = (header_of bytes).path_bit;
      path_count = (header_of bytes).path_count;
    })
unfolding header_of
heard-is bytes echo e f g h = rw (h, e, f, g)

pub returns : goal.returns
returns c =
    heard-is _ _ c.byte-byte0.ensures c.word.ensures c.is_echo_number.ensures c.path_count_in.ensures
