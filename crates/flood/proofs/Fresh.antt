-- A message that origination takes, with the path bit, begins a flood, with the hop limit and the destination that were set. Assumes nothing.
use mathlib.Core.Path.{◌≡◌, refl, ap, sym, ◌∙◌}
use mathlib.Core.Bool.{Bool, true, false, cond}
use mathlib.Core.List.{List, [], ◌∷◌, ◌++◌, append-nil}
use Prim.Native.Nat.{ℕ, ◌<◌}
use native.Mathlib.Omega.{arith}
use lib.Dec.{eqb}
use lib.ListN.{length}
use Rattle.std.specs.Prelude.{Ok}
use Rattle.octets.specs.Numbers.{flag}
use Rattle.octets.specs.Octets.{AllBytes, word_bytes}
use Rattle.pdu.specs.declared.Destination.{Destination}
use Rattle.pdu.specs.declared.Destination.TheVariants.{Everyone, Address}
use Rattle.pdu.specs.declared.Header.{Header}
use Rattle.pdu.specs.Header.{header_of, source_of}
use Rattle.pdu.specs.Sizes.{pdu_length}
use Rattle.pdu.specs.Reading.{read_of}
use Rattle.pdu.specs.Parts.{path_in}
use Rattle.writing.specs.Writing.{fixed_part, destination_bytes, only_if, header_bytes, path_bytes, encode}
use Rattle.pdu.proofs.Inversion.{shown}
use Rattle.pdu.proofs.Exact.{is_exact}
use Rattle.pdu.proofs.Showing.{destination_small}
use Rattle.octets.proofs.Words.{bytes_none, bytes_more, bytes_joined, bytes_word, bytes_four}
use Rattle.octets.proofs.Tests.{flag_small}
use Rattle.origin.specs.declared.FreshSettings.{FreshSettings}
use Rattle.origin.specs.Origination.{fresh_header, fresh}
use Rattle.origin.proofs.Deciding.{Accepted, accepted}
use Rattle.origin.proofs.ReadBack.{length_fresh, fresh_back}
use Rattle.flood.specs.Air.{path_of, hop_of, Begins, Originated}

-- the parts of a header
bytes_if : (called : Bool) (byte : ℕ) → byte < 256 → AllBytes (only_if called (byte ∷ []))
bytes_if true byte h = bytes_more byte [] h bytes_none
bytes_if false byte h = bytes_none

bytes_destination : (to : Destination) → ((a : ℕ) → to ≡ Address a → a < 65536) → AllBytes (destination_bytes to)
bytes_destination Everyone h = bytes_none
bytes_destination (Address a) h = bytes_word a (h a refl)

either_small : (reliable : Bool) (id : ℕ) → id < 256 → cond reliable id 0 < 256
either_small true id h = h
either_small false id h = omega arith

module _ (settings : FreshSettings) (payload : List ℕ) (room : ℕ) (message : Originated settings payload room) where
  takes : Accepted settings payload room
  takes = accepted settings payload room message.taken

  fixed_small : AllBytes (fixed_part (fresh_header settings (length payload)))
  unfolding fresh_header
  fixed_small =
      bytes_four _ _ _ _ (word_bytes settings.source)
      (omega (
        arith,
        flag_small settings.reliable,
        flag_small settings.time_stamp_request,
        flag_small settings.with_path,
        destination_small settings.destination,
      ))
      (omega (arith, takes.port, flag_small settings.encrypted)) (omega (arith, takes.hop, takes.payload_limit)) (omega arith)
      (bytes_word settings.source message.source_fits)

  fresh_small : AllBytes (fresh settings payload)
  unfolding fresh fresh_header encode header_bytes path_bytes
  fresh_small =
      let fixed = fixed_part (fresh_header settings (length payload)) in
      let id = only_if (eqb (flag settings.reliable) 1) (cond settings.reliable settings.pdu_id 0 ∷ []) in
      let to = destination_bytes settings.destination in
      let count = only_if settings.with_path (0 ∷ []) in
      bytes_joined (fixed ++ to ++ id ++ count ++ []) payload
      (bytes_joined (fixed ++ to ++ id ++ count) []
      (bytes_joined (fixed ++ to ++ id) count
      (bytes_joined (fixed ++ to) id
      (bytes_joined fixed to fixed_small (bytes_destination settings.destination message.destination_fits))
      (bytes_if (eqb (flag settings.reliable) 1) _ (either_small settings.reliable settings.pdu_id message.id_fits)))
      (bytes_if settings.with_path 0 (omega arith))) bytes_none)
      message.payload_fits

  abbrev first : List ℕ
  first = fresh settings payload

  fresh_reads : read_of first ≡ Ok (fresh_header settings (length payload))
  fresh_reads = ap read_of (sym (append-nil first)) ∙ (fresh_back settings payload room message.taken []).reads

  pub fresh_shows : fresh_header settings (length payload) ≡ header_of first
  fresh_shows = (shown first _ fresh_reads).is

  fresh_path : path_of first ≡ []
  fresh_path =
      ap (λ (h : Header). path_in h first) (sym fresh_shows) ∙ ap (path_in (fresh_header settings (length payload))) (sym (append-nil first))
      ∙ (fresh_back settings payload room message.taken []).no_path

  -- the source and the hop limit on the air are those set
  pub fresh_source : source_of first ≡ settings.source
  unfolding fresh_header
  fresh_source = ap (λ (h : Header). h.source) (sym fresh_shows)

  pub fresh_hop : hop_of first ≡ settings.hop_limit
  unfolding fresh_header
  fresh_hop = ap (λ (h : Header). h.hop_limit) (sym fresh_shows)

  pub fresh_destination : (header_of first).destination ≡ settings.destination
  unfolding fresh_header
  fresh_destination = ap (λ (h : Header). h.destination) (sym fresh_shows)

  fresh_bit : (header_of first).path_bit ≡ true
  unfolding fresh_header
  fresh_bit = ap (λ (h : Header). h.path_bit) (sym fresh_shows) ∙ message.with_path_lem

  pub originated_begins : Begins (fresh settings payload)
  originated_begins =
      record {
        all_bytes = fresh_small;
        one_pdu =
            is_exact first (record {
              reads = fresh_reads ∙ ap Ok fresh_shows;
              alone = length_fresh settings payload room message.taken ∙ ap (λ (h : Header). pdu_length h) fresh_shows;
            });
        path_bit_lem = fresh_bit;
        path_empty = fresh_path;
      }
