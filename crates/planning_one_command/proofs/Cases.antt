-- The worked cases, by computing. Assumes nothing.
use mathlib.Core.Path.{◌≡◌, refl, sym, subst}
use mathlib.Core.Logic.{⊎_elim}
use mathlib.Core.Bool.{Bool, true, ◌&&◌}
use mathlib.Core.List.Memᴰ
use mathlib.Core.List.{List, [], ◌∷◌, map, Memᴰ}
use mathlib.Core.List.{Nodup, Nodup-nil, Nodup-cons}
use Prim.Native.Nat.{ℕ, ◌+◌, ◌*◌, ◌<◌}
use native.Mathlib.Omega.{arith}
use borrow.Author.Tests.{ltb-true}
use lib.Dec.{ltb}
use Rattle.octets.specs.Numbers.{◌gives◌, ◌or_else◌}
use Rattle.octets.specs.Octets.{AllBytes}
use Rattle.octets.proofs.Tests.{both}
use Rattle.octets.proofs.Words.{bytes_none, bytes_more}
use Rattle.pdu.specs.declared.Destination.TheVariants.{Address}
use Rattle.pdu.specs.Header.{header_of}
use Rattle.pdu.specs.Parts.{in_path, addresses_at}
use Rattle.pdu.specs.Reading.{read_of, exactly_one}
use Rattle.writing.specs.Writing.{header_bytes, path_bytes, encode}
use Rattle.bound.specs.Bound.{bound, series, terms, falling_product}
use Rattle.bound.specs.Command.{sendings_bound, command_bound}
use Rattle.lists.specs.Lists.{first_fault, fault_of, low_above_high}
use Rattle.decision.specs.Decision.{echo_fault, pass_fault, drop_fault, delivery_fault, repeat_fault}
use Rattle.node.specs.Repeat.{repeated}
use Rattle.node.specs.Answers.{node_fault, node_or_reading_fault, stop_fault, delivery_number, repeat_number}
use Rattle.retained.specs.Records.{retain_fault, is_retainable, names_of}
use Rattle.acknowledgements.specs.Delivered.{is_delivered_here, acknowledgement, acknowledge_number}
use Rattle.node.proofs.Heard.{not_in_path}
use Rattle.flood.specs.Air.{Repeater, address, sends, can_repeat, repeaters, Nodes}
use Rattle.flood.specs.Flood.{Reception, answer, keep}
use Rattle.flood.proofs.Lists.{apart, nodup_more}
use Rattle.several_messages.specs.SeveralMessages.{together, receptions_in, most_of}
use Rattle.planning_one_command.specs.Boxes.{repeaters_of, is_acknowledging, acknowledges, responds, all_sent, Command, reply_to}
use Rattle.planning_one_command.specs.Worked.{three, box_at, order, both_answered}

pub one_sending : (command_bound 0 (bound 3 3) (bound 3 3) ≡ 272) × (command_bound 0 (bound 5 3) (bound 5 3) ≡ 7482)
    × (command_bound 3 (bound 3 3) (bound 3 3) ≡ 1088) × (sendings_bound 3 3 3 ≡ 64)
unfolding bound series terms falling_product
one_sending = (refl, refl, refl, refl)

pub run : all_sent three both_answered
    ≡ order ∷ (0x0B ∷ 0x40 ∷ 0x00 ∷ 0x00 ∷ 0x07 ∷ 0xD0 ∷ 0x03 ∷ 0xE8 ∷ 0x07 ∷ 0x01 ∷ 0x0B ∷ 0xB8 ∷ [])
    ∷ (0x0B ∷ 0x01 ∷ 0x10 ∷ 0x00 ∷ 0x03 ∷ 0xE8 ∷ 0x07 ∷ 0xD0 ∷ 0x07 ∷ 0x00 ∷ [])
    ∷ (0x0B ∷ 0x01 ∷ 0x10 ∷ 0x00 ∷ 0x03 ∷ 0xE8 ∷ 0x07 ∷ 0xD0 ∷ 0x07 ∷ 0x00 ∷ [])
    ∷ (0x0B ∷ 0x01 ∷ 0x00 ∷ 0x00 ∷ 0x03 ∷ 0xE8 ∷ 0x07 ∷ 0xD0 ∷ 0x07 ∷ 0x01 ∷ 0x0B ∷ 0xB8 ∷ [])
    ∷ (0x0B ∷ 0x01 ∷ 0x00 ∷ 0x00 ∷ 0x03 ∷ 0xE8 ∷ 0x07 ∷ 0xD0 ∷ 0x07 ∷ 0x01 ∷ 0x0B ∷ 0xB8 ∷ []) ∷ []
unfolding together answer responds acknowledges is_acknowledging sends acknowledgement acknowledge_number is_delivered_here names_of encode header_bytes path_bytes
    repeated repeat_number delivery_number stop_fault node_or_reading_fault node_fault first_fault fault_of low_above_high read_of header_of drop_fault echo_fault pass_fault
    repeat_fault delivery_fault addresses_at in_path ◌gives◌ ◌or_else◌
run = refl

pub of_order : most_of (repeaters_of three) order ≡ 2
unfolding bound series terms falling_product repeaters keep can_repeat node_fault first_fault fault_of low_above_high pass_fault header_of ◌gives◌ ◌or_else◌
of_order = refl

pub of_reply : most_of (repeaters_of three) (reply_to (box_at 1000) order) ≡ 2
unfolding bound series terms falling_product repeaters keep can_repeat node_fault first_fault fault_of low_above_high pass_fault header_of acknowledgement names_of encode
    header_bytes path_bytes ◌gives◌ ◌or_else◌
of_reply = refl

-- numbers of which none is there twice, and so of what they are the keys of
pub of_keys : {A : Type 0} (key : A → ℕ) (l : List A) → Nodup (map key l) → Nodup l
of_keys key [] d = Nodup-nil
of_keys key (x ∷ l) d = nodup_more (λ m. apart d (Memᴰ.map key m) refl) (of_keys key l (Nodup-cons.0 d).1)

addresses : Nodup (map address (repeaters_of three))
unfolding in_path
addresses =
    nodup_more (not_in_path 2000 (3000 ∷ 1000 ∷ []) refl)
    (nodup_more (not_in_path 3000 (1000 ∷ []) refl) (nodup_more (not_in_path 1000 [] refl) Nodup-nil))

pub once : Nodup (receptions_in both_answered)
unfolding in_path receptions_in
once =
    of_keys (λ (r : Reception). r.node * 10 + r.transmission) (receptions_in both_answered)
    (nodup_more (not_in_path 10 (20 ∷ 21 ∷ 12 ∷ 13 ∷ []) refl)
    (nodup_more (not_in_path 20 (21 ∷ 12 ∷ 13 ∷ []) refl)
    (nodup_more (not_in_path 21 (12 ∷ 13 ∷ []) refl) (nodup_more (not_in_path 12 (13 ∷ []) refl) (nodup_more (not_in_path 13 [] refl) Nodup-nil)))))

each_of : (P : Repeater → Type 0) → P (box_at 2000).repeater → P (box_at 3000).repeater → P (box_at 1000).repeater
    → (n : Repeater) → Memᴰ n (repeaters_of three) → P n
each_of P a b c n m =
    ⊎_elim (λ e. subst P (sym e) a)
    (λ l. ⊎_elim (λ e. subst P (sym e) b) (λ k. subst P (sym (Memᴰ.eq_of_singleton k)) c) (Memᴰ.cases_cons l)) (Memᴰ.cases_cons m)

nodes : Nodes (repeaters_of three)
nodes =
    record {
      addresses_differ = addresses;
      addresses_fit = each_of (λ n. address n < 65536) (omega arith) (omega arith) (omega arith);
      echo_on = each_of (λ n. n.node.settings.echo ≡ true) refl refl refl;
    }

is_retainable_lem : retain_fault order ≡ 0
unfolding retain_fault is_retainable exactly_one read_of header_of ◌gives◌ ◌or_else◌
is_retainable_lem = refl

shows : ((header_of order).path_bit ≡ true) × ((header_of order).destination ≡ Address 1000)
unfolding header_of
shows = (refl, refl)

all_small : List ℕ → Bool
all_small [] = true
all_small (x ∷ l) = ltb x 256 && all_small l

all_small_lem : (l : List ℕ) → all_small l ≡ true → AllBytes l
unfolding all_small
all_small_lem [] e = bytes_none
all_small_lem (x ∷ l) e = let (here, later) = both (ltb x 256) _ e in bytes_more x l (ltb-true x 256 here) (all_small_lem l later)

small : AllBytes order
unfolding all_small
small = all_small_lem order refl

is_command : Command three (box_at 1000) order
is_command =
    record {
      all_bytes = small;
      retainable = is_retainable_lem;
      path_bit_lem = shows.0;
      among = Memᴰ.tail (Memᴰ.tail (Memᴰ.head refl));
      for_it = shows.1;
      reply_path = refl;
    }

pub reached_asked : Nodes (repeaters_of three) × Command three (box_at 1000) order × Nodup (receptions_in both_answered)
reached_asked = (nodes, is_command, once)
