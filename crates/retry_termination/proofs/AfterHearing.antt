-- A PDU that is heard, an acknowledgement or another, keeps what holds of a table and of a PDU's life.
use mathlib.Core.Path.{◌≡◌, refl, sym, ◌∙◌, ap}
use Prim.Native.Nat.{ℕ}
use native.Mathlib.Nat.{le_refl}
use mathlib.Core.Bool.{Bool, true, false, not, cond, ◌&&◌}
use mathlib.Core.List.{List}
use lib.Dec.{eqb}
use lib.ListN.{length, set}
use Rattle.octets.proofs.Tests.{both}
use Rattle.retained.specs.declared.Names.{Names}
use Rattle.retained.specs.declared.Retained.{Retained}
use Rattle.retained.specs.declared.Outcome.{Outcome}
use Rattle.retained.specs.Records.{is_named, names_of, exchanged, same_names, freed_record}
use Rattle.retained.specs.Table.{first, has, record_at, number_alone, did, sent, freed, answered}
use Rattle.pdu.specs.Header.{header_of}
use Rattle.pdu.specs.Sizes.{pdu_length}
use Rattle.acknowledgements.specs.declared.Sending.{Sending}
use Rattle.acknowledgements.specs.Delivered.{is_delivered_here, is_acknowledgement, is_answered, ack_header, acknowledge_number, acknowledge, table_acknowledged}
use Rattle.retry_termination.specs.History.{Arrived, RetrySettings, HearPdu, Life, watch, world_after}
use Rattle.retry_termination.proofs.First.{has_hit}
use Rattle.retry_termination.proofs.Facts.{names_eq, free_is, other_name, freed_free}
use Rattle.retry_termination.proofs.Holding.{never, elsewhere, removed}
use Rattle.retry_termination.proofs.Good.{Good, world, sized, same_life}

module _ (s : RetrySettings) (names : Names) (table : List Retained) (last : ℕ) (life : Life) (g : Good s names (world table last life)) where
  module _ (sought : Names) (h : has (is_named sought) table ≡ true) where
    abbrev place : ℕ
    place = first (is_named sought) table

    frees : (t : Bool) → same_names sought names ≡ t → Good s names
        (world (set table place freed_record) last (cond t (record { fate = Arrived; sent = life.sent; moments = life.moments; mark = life.mark }) life))
    frees true e = record {
      sixteen = sized g place freed_record;
      bound = g.bound;
      exact = λ f. never (sym f);
      status = removed names table last last life (le_refl last) place freed_record (has_hit (is_named sought) table h).0
          (record { fate = Arrived; sent = life.sent; moments = life.moments; mark = life.mark })
          (ap (λ (x : Names). is_named x (record_at table place)) (sym (names_eq sought names e)) ∙ (has_hit (is_named sought) table h).1)
          (free_is names freed_record freed_free) refl g.status;
    }
    frees false e =
        same_life g last place freed_record
        (elsewhere names table last last life (le_refl last) place freed_record (has_hit (is_named sought) table h).0
        (other_name sought names (record_at table place) (has_hit (is_named sought) table h).1 e) (free_is names freed_record freed_free) g.status)

  module _ (own delivery : ℕ) (sending : Sending) (room : ℕ) (received : List ℕ) where
    abbrev sought : Names
    sought = exchanged (names_of received)

    abbrev number : ℕ
    number = acknowledge_number (length table) own delivery sending room received

    abbrev asked : Bool
    asked = is_answered own delivery received

    abbrev matched : Bool
    matched = is_acknowledgement own delivery received && has (is_named sought) table

    abbrev hearing : Bool → Bool → Bool → Outcome
    hearing b d c =
        cond b
        (cond d (did answered last 0 (names_of received) (pdu_length (ack_header sending (names_of received))))
        (cond c (did freed last (first (is_named sought) table) sought 0) (number_alone 0 last)))
        (number_alone number last)

    apart : asked ≡ true → matched ≡ true → ⊥
    apart e f = bits (is_delivered_here own delivery received) (header_of received).ack (has (is_named sought) table) e f
      where
        bits : (x a m : Bool) → (x && not a) ≡ true → ((x && a) && m) ≡ true → ⊥
        bits true true m e f = never (sym e)
        bits true false m e f = never (sym f)
        bits false a m e f = never (sym e)

    pub good_hears : Good s names (world_after s names (HearPdu own delivery sending room received) (world table last life))
    unfolding world_after watch acknowledge table_acknowledged
    good_hears = by (eqb number 0) asked matched refl refl
      where
        by : (b d c : Bool) → asked ≡ d → matched ≡ c
            → Good s names (world (cond (b && c) (set table (first (is_named sought) table) freed_record) table) (hearing b d c).last
            (watch s.delay names (HearPdu own delivery sending room received) (hearing b d c) life))
        by true true true e f = absurd (apart e f)
        by true true false e f = g
        by true false true e f = frees sought (both (is_acknowledgement own delivery received) _ f).1 (same_names sought names) refl
        by true false false e f = g
        by false d c e f = g
