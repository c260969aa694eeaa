-- WHOM IT REACHES, of a message that origination wrote with a path: exactly the nodes that let it in and that a chain through nodes that can repeat it
-- leads to, as far as the hop limit lasts, each with the path count of its shortest such chain. Assumes nothing.
use mathlib.Core.Path.{◌≡◌, ap, sym, subst, ◌∙◌}
use mathlib.Core.Logic.{◌≢◌, ◌⊎◌, inl, inr, ⊎_elim}
use mathlib.Core.Bool.{Bool, false}
use mathlib.Core.List.{List, [], map, append-nil, Memᴰ}
use Prim.Native.Nat.{ℕ, zero, suc, ◌+◌, ◌*◌, ◌-◌, ◌≤◌, ◌<◌}
use native.Mathlib.Omega.{arith}
use lib.ListN.{length}
use Rattle.pdu.specs.declared.Header.{Header}
use Rattle.pdu.specs.Header.{header_of, source_of}
use Rattle.pdu.specs.Parts.{payload_in}
use Rattle.pdu.specs.Sizes.{path_limit}
use Rattle.bound.specs.Bound.{terms}
use Rattle.chains.specs.Chains.{Chain, Shortest}
use Rattle.chains.proofs.Steps.{chain_is_none}
use Rattle.origin.specs.declared.FreshSettings.{FreshSettings}
use Rattle.origin.specs.Origination.{fresh_header, fresh}
use Rattle.origin.proofs.ReadBack.{fresh_back}
use Rattle.flood.specs.Air.{Repeater, Begins, Nodes, Originated, address, hop_of, repeaters}
use Rattle.flood.specs.Flood.{Reception}
use Rattle.flood.proofs.Fresh.{originated_begins, fresh_shows, fresh_source, fresh_hop}
use Rattle.coverage.specs.Hearing.{TakenByAll, ByNoOther}
use Rattle.coverage.specs.Delivery.{LetsIn, Roomy, Delivered}
use Rattle.coverage.specs.Reach.{hears_through, Lasts, ShortestThrough, ReachThrough}
use Rattle.coverage.proofs.Chaining.{shortest_of}
use Rattle.coverage.proofs.Reach.{reached, delivered_only, delivered_few, delivered_chain}

module _ (hears : ℕ → ℕ → Bool) (nodes : List Repeater) (all : Nodes nodes) (settings : FreshSettings) (payload : List ℕ) (room : ℕ)
    (message : Originated settings payload room) where
  abbrev first : List ℕ
  first = fresh settings payload

  abbrev header : Header
  header = fresh_header settings (length payload)

  begins : Begins first
  begins = originated_begins settings payload room message

  shows : header_of first ≡ header
  shows = sym (fresh_shows settings payload room message)

  from : source_of first ≡ settings.source
  from = fresh_source settings payload room message

  hop : hop_of first ≡ settings.hop_limit
  hop = fresh_hop settings payload room message

  plain : (header_of first).added_header ≡ false
  unfolding fresh_header
  plain = ap (λ (h : Header). h.added_header) shows

  payload_is : payload_in (header_of first) first ≡ payload
  payload_is =
      ap (λ (h : Header). payload_in h first) shows ∙ ap (payload_in header) (sym (append-nil first))
      ∙ (fresh_back settings payload room message.taken []).carries

  -- what was shown of the first transmission, in the words of the settings
  record Covers (receptions : List Reception) (shown : Header) (source h : ℕ) (part : List ℕ) : Type 0 where
    pub to_all : (n : Repeater) → Memᴰ n nodes → address n ≢ source → LetsIn shown n → (k : ℕ) → (h ≡ 7) ⊎ (k ≤ h)
        → Shortest (hears_through hears shown nodes) (map address nodes) source (address n) (suc k) → Delivered nodes first receptions n part k
    pub only : (n : Repeater) (what : List ℕ) (count : ℕ) → Delivered nodes first receptions n what count
        → (what ≡ part) × (address n ≢ source) × LetsIn shown n
    pub few : (n : Repeater) (what : List ℕ) (count : ℕ) → Delivered nodes first receptions n what count → (h ≡ 7) ⊎ (count ≤ h)
    pub came : ByNoOther hears nodes first receptions → (n : Repeater) (what : List ℕ) (count : ℕ) → Delivered nodes first receptions n what count
        → Chain (hears_through hears shown nodes) (map address nodes) source (address n) (suc count)

  module _ (each : Roomy nodes settings payload) (receptions : List Reception) (taken : TakenByAll hears nodes first receptions) where
    roomy : (n : Repeater) → Memᴰ n (repeaters (header_of first) nodes)
        → length first + 2 * terms (length (repeaters (header_of first) nodes)) (hop_of first) ≤ n.room
    roomy n m =
        subst (λ (k : ℕ). length first + 2 * k ≤ n.room) (sym (λ i. terms (length (repeaters (shows i) nodes)) (hop i)))
        (each.roomy n (subst (λ (h : Header). Memᴰ n (repeaters h nodes)) shows m))

    fits : (length (repeaters (header_of first) nodes) ≤ path_limit) ⊎ (hop_of first < 7)
    fits =
        subst (λ (s : Header). (length (repeaters s nodes) ≤ path_limit) ⊎ (hop_of first < 7)) (sym shows)
        (subst (λ (h : ℕ). (length (repeaters header nodes) ≤ path_limit) ⊎ (h < 7)) (sym hop) each.path_fits)

    as_shown : Covers receptions (header_of first) (source_of first) (hop_of first) (payload_in (header_of first) first)
    as_shown =
        record {
          to_all = reached hears nodes all first begins receptions taken roomy fits plain;
          only = delivered_only hears nodes all first begins receptions taken;
          few = delivered_few hears nodes all first begins receptions taken;
          came = λ only n what count d. delivered_chain hears nodes all first begins receptions taken n what count d only;
        }

    covers : Covers receptions header settings.source settings.hop_limit payload
    covers =
        subst (λ (s : Header). Covers receptions s settings.source settings.hop_limit payload) shows
        (subst (λ (a : ℕ). Covers receptions (header_of first) a settings.hop_limit payload) from
        (subst (λ (h : ℕ). Covers receptions (header_of first) (source_of first) h payload) hop
        (subst (λ (p : List ℕ). Covers receptions (header_of first) (source_of first) (hop_of first) p) payload_is as_shown)))

    one_less : (k : ℕ) → Lasts settings.hop_limit (suc k) → (settings.hop_limit ≡ 7) ⊎ (k ≤ settings.hop_limit)
    one_less k lasts = ⊎_elim inl (λ few. inr (omega arith)) lasts

    fewer : (j k : ℕ) → k ≤ j → Lasts settings.hop_limit j → Lasts settings.hop_limit k
    fewer j k less lasts = ⊎_elim inl (λ few. inr (omega arith)) lasts

    -- by the shortest chain
    pub by_shortest : (n : Repeater) → Memᴰ n nodes → address n ≢ settings.source → LetsIn (fresh_header settings (length payload)) n
        → (k : ℕ) → Lasts settings.hop_limit k → ShortestThrough hears nodes settings payload receptions n k
        → Delivered nodes (fresh settings payload) receptions n payload (k - 1)
    by_shortest n n-in other lets zero lasts s =
        absurd (other (chain_is_none (hears_through hears header nodes) (map address nodes) settings.source s.chain))
    by_shortest n n-in other lets (suc k) lasts s =
        let less : k ≡ suc k - 1 = omega arith in
        subst (λ (c : ℕ). Delivered nodes first receptions n payload c) less (covers.to_all n n-in other lets k (one_less k lasts) s)

    came_along : ByNoOther hears nodes first receptions → (n : Repeater) (what : List ℕ) (count : ℕ) → Delivered nodes first receptions n what count
        → Lasts settings.hop_limit (count + 1)
        × Chain (hears_through hears header nodes) (map address nodes) settings.source (address n) (count + 1)
    came_along only n what count d = (
      ⊎_elim {C = Lasts settings.hop_limit (count + 1)} inl (λ few. inr (omega arith)) (covers.few n what count d),
      subst (λ (k : ℕ). Chain (hears_through hears header nodes) (map address nodes) settings.source (address n) k) (omega arith)
          (covers.came only n what count d),
    )

    pub reach_through : ReachThrough hears nodes settings payload receptions
    reach_through =
        record {
          reached = λ n n-in other lets j lasts c.
              let (k, less, s) = shortest_of (hears_through hears header nodes) (map address nodes) settings.source (address n) j c in
              (k, s, by_shortest n n-in other lets k (fewer j k less lasts) s);
          only_let_in = covers.only;
          beyond = λ only n none what count d. let (lasts, chain) = came_along only n what count d in none (count + 1) lasts chain;
          came_along = came_along;
        }
