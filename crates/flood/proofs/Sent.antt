-- A node of demand 2 keeps to what the theorems ask: no echo, not its own report, hops left, the path grown by its own address, the hop limit lowered.
-- Assumes nothing.
use mathlib.Core.Path.{◌≡◌, refl, ap, sym, subst, ◌∙◌}
use mathlib.Core.Bool.{Bool, true, false, cond}
use mathlib.Core.Option.{Option, none, some, none-ne-some, some-injective}
use mathlib.Core.List.{List, [], ◌∷◌, ◌++◌, Memᴰ}
use Prim.Native.Nat.{ℕ, ◌+◌, ◌*◌, ◌<◌}
use native.Mathlib.Omega.{arith}
use borrow.Author.Tests.{eqb-true}
use lib.Dec.{eqb}
use lib.ListN.{length, take, length-append}
use Rattle.std.specs.Prelude.{Ok}
use Rattle.octets.specs.Numbers.{flag}
use Rattle.octets.specs.Octets.{AllBytes, over}
use Rattle.octets.proofs.Placing.{take_over}
use Rattle.pdu.specs.declared.Header.{Header}
use Rattle.pdu.specs.Header.{header_of, source_of}
use Rattle.pdu.specs.Sizes.{pdu_length}
use Rattle.pdu.specs.Reading.{read_of}
use Rattle.pdu.specs.Parts.{path_in}
use Rattle.writing.proofs.Back.{length_encode}
use Rattle.pdu.proofs.Inversion.{shown}
use Rattle.node.specs.Repeat.{lowered, repeated, repeated_length, repeated_header}
use Rattle.node.specs.Answers.{repeat_number, answer_of, output_after}
use Rattle.node.proofs.ChangedHeader.{changed_hop, same_path_bit, same_source, same_destination}
use Rattle.node.proofs.Encoded.{same_bytes, repeat_well_formed, alone_reads, alone_path, repeat_long, repeat_bytes}
use Rattle.node.proofs.Heard.{repeats, not_in_path}
use Rattle.node.proofs.Repeating.{Ready, length_repeated}
use Rattle.flood.specs.Air.{Repeater, address, sends, path_of, hop_of}
use Rattle.flood.proofs.Network.{Keeps, Lawful}

-- What is known of every transmission that the first leads to: a readable PDU with a path, from the same source, to the same destination, longer by
-- its path.
pub record Sound (first sent : List ℕ) : Type 0 where
  pub small : AllBytes sent
  pub reads : read_of sent ≡ Ok (header_of sent)
  pub has_path : (header_of sent).path_bit ≡ true
  pub alone : length sent ≡ pdu_length (header_of sent)
  pub longer : length sent ≡ length first + 2 * length (path_of sent)
  pub same_source : source_of sent ≡ source_of first
  pub same_place : (header_of sent).destination ≡ (header_of first).destination

-- The repeat of a transmission.
module _ (first received : List ℕ) (sound : Sound first received) (ready : Ready received (header_of received)) (own : ℕ) where
  abbrev again : List ℕ
  again = repeated own received

  shows : repeated_header (header_of received) ≡ header_of again
  shows = (shown again _ (alone_reads received _ sound.small sound.reads ready own)).is

  grows : path_of again ≡ path_of received ++ (own ∷ [])
  grows =
      ap (λ (h : Header). path_in h again) (sym shows) ∙ alone_path received _ sound.small sound.reads ready own
      ∙ ap (λ (bit : Bool). path_of received ++ cond bit (own ∷ []) []) sound.has_path

  lowers : hop_of again ≡ lowered (hop_of received)
  lowers = ap (λ (h : Header). h.hop_limit) (sym shows) ∙ changed_hop (header_of received)

  by_two : length again ≡ length received + 2
  by_two =
      omega (
        arith,
        repeat_long received _ sound.small sound.reads ready own,
        ap (λ (bit : Bool). flag bit) sound.has_path,
        sound.alone,
      )

  sound_again : own < 65536 → Sound first again
  sound_again narrow =
      record {
        small = repeat_bytes received _ sound.small sound.reads ready own narrow;
        reads = alone_reads received _ sound.small sound.reads ready own ∙ ap Ok shows;
        has_path = ap (λ (h : Header). h.path_bit) (sym shows) ∙ same_path_bit (header_of received) ∙ sound.has_path;
        alone =
            ap length (same_bytes received _ sound.small sound.reads ready own)
            ∙ length_encode (repeat_well_formed received _ sound.small sound.reads own) ∙ ap (λ (h : Header). pdu_length h) shows;
        longer = omega (arith, by_two, sound.longer, ap length grows, length-append (path_of received) (own ∷ []));
        same_source = ap (λ (h : Header). h.source) (sym shows) ∙ same_source (header_of received) ∙ sound.same_source;
        same_place = ap (λ (h : Header). h.destination) (sym shows) ∙ same_destination (header_of received) ∙ sound.same_place;
      }

-- What a node sends is the repeated PDU, and its repeat number is 0.
pub sent_is : (n : Repeater) (received sent : List ℕ) → sends n received ≡ some sent
    → (repeated (address n) received ≡ sent) × (repeat_number n.node n.room received ≡ 0)
unfolding sends
sent_is n received sent e = go (eqb (repeat_number n.node n.room received) 0) refl e
  where
    go : (t : Bool) → eqb (repeat_number n.node n.room received) 0 ≡ t
        → ◌≡◌ {A = Option (List ℕ)} (cond t (some (repeated (address n) received)) none) (some sent)
        → (repeated (address n) received ≡ sent) × (repeat_number n.node n.room received ≡ 0)
    go true zero is = (some-injective _ _ is, eqb-true _ 0 zero)
    go false zero is = absurd (none-ne-some _ is)

pub node_lawful : (first : List ℕ) (n : Repeater) → address n < 65536 → n.node.settings.echo ≡ true
    → Lawful sends address (source_of first) (Sound first) path_of hop_of n
node_lawful first n narrow echo received sent sound e =
    let (is, zero) = sent_is n received sent e in
    let r = repeats n.node n.room received zero in
    let header = (shown received r.header r.read).is in
    let ready : Ready received (header_of received) = subst (Ready received) header r.ready in
    let bit : r.header.path_bit ≡ true = ap (λ (h : Header). h.path_bit) header ∙ sound.has_path in
    subst (λ (s : List ℕ). Sound first s × Keeps address (source_of first) path_of hop_of n received s) is (
      sound_again first received sound ready (address n) narrow,
      record {
        no_echo = subst (λ (h : Header). ¬ Memᴰ (address n) (path_in h received)) header (not_in_path (address n) _ (r.no_echo echo bit));
        not_own = λ same. r.not_own echo (ap (λ (h : Header). h.source) header ∙ sound.same_source ∙ sym same);
        hops_left = ready.hop;
        grown = grows first received sound ready (address n);
        lower = lowers first received sound ready (address n);
      },
    )

-- A node at the source address of what it hears, echo on, sends nothing, whatever the bytes.
pub originator_silent : (n : Repeater) (received : List ℕ) → n.node.settings.echo ≡ true → source_of received ≡ address n → sends n received ≡ none
originator_silent n received echo same = go (sends n received) refl
  where
    go : (said : Option (List ℕ)) → sends n received ≡ said → said ≡ none
    go none e = refl
    go (some sent) e =
        let r = repeats n.node n.room received (sent_is n received sent e).1 in
        absurd (r.not_own echo (ap (λ (h : Header). h.source) (shown received r.header r.read).is ∙ same))

-- What a node sends is what its function `hear` answers and leaves in the output: so many bytes at its start, none where it sends nothing.
module _ (n : Repeater) (received output : List ℕ) (long : length output ≡ n.room) where
  abbrev written : List ℕ
  written = take (answer_of n.node (length output) received).repeated_length (output_after n.node received output)

  pub sent_written : (sent : List ℕ) → sends n received ≡ some sent → written ≡ sent
  unfolding answer_of output_after
  sent_written sent e =
      let (is, zero) = sent_is n received sent e in
      let r = repeats n.node n.room received zero in
      let seen = shown received r.header r.read in
      let size : length (repeated (address n) received) ≡ repeated_length (header_of received) =
      length_repeated received [] (address n) r.header seen.is seen.ends ∙ ap (λ (h : Header). repeated_length h) seen.is in
      rw (long, zero) (take_over (repeated (address n) received) output _ size) ∙ is

  pub none_written : sends n received ≡ none
      → ((answer_of n.node (length output) received).repeated_length ≡ 0) × (output_after n.node received output ≡ output)
  unfolding sends answer_of output_after
  none_written e = rw long (go (eqb (repeat_number n.node n.room received) 0) e)
    where
      go : (t : Bool) → ◌≡◌ {A = Option (List ℕ)} (cond t (some (repeated (address n) received)) none) none
          → (cond t (repeated_length (header_of received)) 0 ≡ 0) × (cond t (over (repeated (address n) received) output) output ≡ output)
      go true is = absurd (none-ne-some _ (sym is))
      go false is = (refl, refl)
