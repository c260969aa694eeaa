use Rattle.elements.proofs.Runs.{first_found, second_found}
use Rattle.exchange.proofs.Judged.{run_refused, other_type, other_end, opened, place_before, no_header, no_payload, all_shown}
use Rattle.exchange.specs.Exchange.{refused_by, exchange_of}
use mathlib.Core.Path.{◌≡◌, ◌∙◌, sym}
use Rattle.exchange.proofs.read_exchange.Goals.{then-outer-ne20-via-then-outer-ne20, then-outer-ne20-via-else-outer-ne20+then-outer-bytes, in_default-via-in-Some+in_default, in_default-via-in_default}
use Rattle.exchange.proofs.read_exchange.Goals as goal

pub returns-then-number-ne0 : goal.returns-then-number-ne0
returns-then-number-ne0 c =
    c.refused.ensures ∙ run_refused c.args.bytes.now _ c.fault-number.ensures c.if-number-ne0.true

pub returns-then-outer-ne20 : goal.returns-then-outer-ne20
returns-then-outer-ne20 c =
    let bytes = c.args.bytes.now in
    let none : refused_by 59 ≡ exchange_of bytes =
    elim c.then-outer-ne20.branch [
      | then-outer-ne20-via-then-outer-ne20 w ↦
          other_type bytes _ c.fault-number.ensures c.if-number-ne0.false _ c.head_at-outer.ensures.0 w.if-outer-ne20.true
      | then-outer-ne20-via-else-outer-ne20+then-outer-bytes w ↦
          other_end bytes _ c.fault-number.ensures c.if-number-ne0.false _ c.head_at-outer.ensures.0 w.if-outer-ne20.false w.if-outer-bytes.true
    ] in
    c.refused-then-outer-ne20.ensures ∙ none

pub show-requires : goal.show-requires
show-requires c =
    let bytes = c.args.bytes.now in
    let found = opened bytes _ c.fault-number.ensures c.if-number-ne0.false _ c.head_at-outer.ensures.0 c.if-outer-ne20.false c.if-outer-bytes.false in
    let one = sym (first_found _ _ _ _ _ c.pair_from-pair.ensures) ∙ c.in-Some-Some.is-0 in
    let other = sym (second_found _ _ _ _ _ c.pair_from-pair.ensures) ∙ c.in-Some-Some.is-1 in
    (place_before bytes _ found 1024 _ one, place_before bytes _ found 1025 _ other)

pub returns-in-Some-Some : goal.returns-in-Some-Some
returns-in-Some-Some c =
    let bytes = c.args.bytes.now in
    let found = opened bytes _ c.fault-number.ensures c.if-number-ne0.false _ c.head_at-outer.ensures.0 c.if-outer-ne20.false c.if-outer-bytes.false in
    let one = sym (first_found _ _ _ _ _ c.pair_from-pair.ensures) ∙ c.in-Some-Some.is-0 in
    let other = sym (second_found _ _ _ _ _ c.pair_from-pair.ensures) ∙ c.in-Some-Some.is-1 in
    c.show.ensures ∙ all_shown bytes _ found _ one _ other

pub returns-in_default : goal.returns-in_default
returns-in_default c =
    let bytes = c.args.bytes.now in
    let found = opened bytes _ c.fault-number.ensures c.if-number-ne0.false _ c.head_at-outer.ensures.0 c.if-outer-ne20.false c.if-outer-bytes.false in
    let one = first_found _ _ _ _ _ c.pair_from-pair.ensures in
    let other = second_found _ _ _ _ _ c.pair_from-pair.ensures in
    let none : refused_by 59 ≡ exchange_of bytes =
    elim c.in_default.branch [
      | in_default-via-in-Some+in_default w ↦ no_payload bytes _ found _ (sym one ∙ w.in_default.is-0) (sym other ∙ w.in_default.is-1)
      | in_default-via-in_default w ↦ no_header bytes _ found (sym one ∙ w.in_default.is-0)
    ] in
    c.refused-in_default.ensures ∙ none
