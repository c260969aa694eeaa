-- Laws that the answer to a delivered PDU is proved by.
use native.Mathlib.Omega.{arith}
use mathlib.Core.Path.{◌≡◌, refl, sym, ◌∙◌, ap, ap₂}
use Prim.Native.Nat.{ℕ, zero, suc, ◌≤◌}
use mathlib.Core.Bool.{Bool, true, false, not, cond, ◌&&◌}
use mathlib.Core.List.{List, [], ◌++◌, append-nil}
use lib.Dec.{eqb, ltb}
use lib.ListN.{length}
use borrow.Author.Tests.{ltb-false, eqb-true, ne_eqb}
use Rattle.octets.specs.Numbers.{◌gives◌, ◌or_else◌}
use Rattle.octets.specs.Octets.{over}
use Rattle.octets.proofs.Numbering.{or_else_zero, gives_zero, or_else_assoc}
use Rattle.octets.proofs.Tests.{both}
use Rattle.pdu.specs.declared.Header.{Header}
use Rattle.pdu.specs.Header.{header_of}
use Rattle.pdu.specs.Sizes.{path_start, pdu_length}
use Rattle.writing.specs.Writing.{header_bytes, path_bytes, encode, writable, header_output}
use Rattle.writing.proofs.Encoding.{header_done}
use Rattle.writing.proofs.Within.{all_within}
use Rattle.retained.specs.declared.Names.{Names}
use Rattle.retained.specs.Records.{names_of}
use Rattle.retained.specs.Table.{records_fault}
use Rattle.retained_operations.specs.declared.Ask.{Ask}
use Rattle.acknowledgements.specs.declared.Sending.{Sending}
use Rattle.acknowledgements.specs.Delivered.{is_delivered_here, is_answered, ack_header, acknowledgement, acknowledge_number, output_acknowledged}
use Rattle.acknowledgements.specs.Responding.{early_number, late_number, ask_for, ask_acknowledge, is_written}

-- a PDU can have the header of an acknowledgement
ack_writable : (sending : Sending) (names : Names) → sending.hop_limit ≤ 7 → sending.port ≤ 15 → writable (ack_header sending names) ≡ true
ack_writable sending names hop port =
    all_within (ack_header sending names)
    (record {
      protocol = omega arith;
      addressed = omega arith;
      hop = hop;
      port = port;
      reserved = omega arith;
      payload = omega arith;
    })

-- an acknowledgement that is written is within its bits
only : (x y : Bool) → x ≡ true → (x && y) ≡ false → y ≡ false
only x y e f = sym (ap (λ (z : Bool). z && y) e) ∙ f

pub in_bits : (records : ℕ) (due : Bool) (sending : Sending) (early late : ℕ) (w : Bool) → early ≡ early_number due sending
    → w ≡ is_written records due early late → w ≡ true → (sending.hop_limit ≤ 7) × (sending.port ≤ 15)
in_bits records due sending early late w e f t =
    let a = both due _ (sym f ∙ t) in
    let b = or_else_zero _ _ (sym e ∙ eqb-true early 0 (both (eqb early 0) _ a.1).0) in (
      ltb-false 7 sending.hop_limit (only due _ a.0 (gives_zero _ 10 (omega arith) b.0)),
      ltb-false 15 sending.port (only due _ a.0 (gives_zero _ 11 (omega arith) b.1)),
    )

-- it is written where one is due and nothing is refused
and_true : (b : Bool) → (b && true) ≡ b
and_true true = refl
and_true false = refl

and_false : (b : Bool) → (b && false) ≡ false
and_false true = refl
and_false false = refl

none_is : (d : Bool) (early late : ℕ) (t : Bool) → (eqb (early or_else (not t gives 74 or_else late)) 0 && d) ≡ (d && (eqb early 0 && (t && eqb late 0)))
unfolding ◌gives◌ ◌or_else◌
none_is false early late t = and_false (eqb (early or_else (not t gives 74 or_else late)) 0)
none_is true zero late true = and_true (eqb late 0)
none_is true zero late false = refl
none_is true (suc early) late t = simp (ne_eqb (suc early) 0 (λ z. absurd (omega arith)))

module _ (records own delivery : ℕ) (sending : Sending) (received output : List ℕ) where
  abbrev room : ℕ
  room = length output

  abbrev D : Bool
  D = is_answered own delivery received

  abbrev N : ℕ
  N = acknowledge_number records own delivery sending room received

  abbrev header : Header
  header = ack_header sending (names_of received)

  written_is : is_written records D (early_number D sending) (late_number D room (pdu_length header)) ≡ (eqb N 0 && D)
  unfolding acknowledge_number
  written_is =
      sym (none_is D (early_number D sending) (late_number D room (pdu_length header)) (eqb records 16))
      ∙ ap (λ (n : ℕ). eqb n 0 && D) (or_else_assoc ((D && ltb 7 sending.hop_limit) gives 10) ((D && ltb 15 sending.port) gives 11) _)

  -- no refusal, and it is answered: the settings are within their bits, and there is room
  record Fits : Type 0 where
    hop : sending.hop_limit ≤ 7
    port : sending.port ≤ 15
    long : pdu_length header ≤ room

  fits : N ≡ 0 → D ≡ true → Fits
  unfolding acknowledge_number
  fits h d =
      let a = or_else_zero _ _ h in
      let b = or_else_zero _ _ a.1 in
      let c = or_else_zero (records_fault records) _ b.1 in
      record {
        hop = ltb-false 7 sending.hop_limit (only D _ d (gives_zero _ 10 (omega arith) a.0));
        port = ltb-false 15 sending.port (only D _ d (gives_zero _ 11 (omega arith) b.0));
        long = ltb-false room (pdu_length header) (only D _ d (gives_zero _ 77 (omega arith) c.1));
      }

  -- the bytes that are put are the acknowledgement's
  ack_bytes : acknowledgement sending (names_of received) ≡ header_bytes header
  unfolding acknowledgement encode path_bytes
  ack_bytes = append-nil (header_bytes header ++ []) ∙ append-nil (header_bytes header)

  no_path : (b : Bool) → cond {A = ℕ} b 0 0 ≡ 0
  no_path true = refl
  no_path false = refl

  put_is : N ≡ 0 → D ≡ true → header_output header output ≡ over (acknowledgement sending (names_of received)) output
  put_is h d =
      let w = fits h d in
      sym (header_done header output (ack_writable sending (names_of received) w.hop w.port)
      (omega (arith, w.long, no_path sending.with_path))
      (path_start header) (over (header_bytes header) output) (refl, refl)).1
      ∙ ap (λ (x : List ℕ). over x output) (sym ack_bytes)

  module _ (last : ℕ) (here due frees w : Bool) (shown : Header) (names : Names) (ask : Ask)
      (was : here ≡ is_delivered_here own delivery received) (shows : shown ≡ header_of received) (named : names ≡ names_of received)
      (answers : due ≡ (here && not shown.ack)) (freeing : frees ≡ (here && shown.ack)) (asks : ask ≡ ask_for due frees last sending room names)
      (writes : w ≡ is_written records due ask.early ask.late) where
    due_is : due ≡ D
    due_is = answers ∙ ap₂ (λ (x : Bool) (y : Header). x && not y.ack) was shows

    ask_is : ask ≡ ask_acknowledge last own delivery sending room received
    unfolding ask_acknowledge
    ask_is =
        asks ∙ ap (λ (d : Bool). ask_for d frees last sending room names) due_is
        ∙ ap₂ (λ (f : Bool) (n : Names). ask_for D f last sending room n) (freeing ∙ ap₂ (λ (x : Bool) (y : Header). x && y.ack) was shows) named

    w_is : w ≡ (eqb N 0 && D)
    unfolding ask_acknowledge
    w_is = writes ∙ ap₂ (λ (d : Bool) (a : Ask). is_written records d a.early a.late) due_is ask_is ∙ written_is

    pub answers_it : (put : Header) (after : List ℕ) → put ≡ ack_header sending names → after ≡ header_output put output → w ≡ true
        → (ask ≡ ask_acknowledge last own delivery sending room received) × (after ≡ output_acknowledged records own delivery sending received output)
    unfolding output_acknowledged
    answers_it put after r q t =
        let both-are = both (eqb N 0) D (sym w_is ∙ t) in (
          ask_is,
          simp (sym w_is ∙ t) (q ∙ ap (λ (x : Header). header_output x output) (r ∙ ap (ack_header sending) named)
              ∙ put_is (eqb-true N 0 both-are.0) both-are.1),
        )

    pub leaves_it : w ≡ false
        → (ask ≡ ask_acknowledge last own delivery sending room received) × (output ≡ output_acknowledged records own delivery sending received output)
    unfolding output_acknowledged
    leaves_it t = (ask_is, simp (sym w_is ∙ t))
