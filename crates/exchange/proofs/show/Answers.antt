use Rattle.exchange.proofs.Judged.{parts_refused, parts_shown}
use mathlib.Core.Path.{◌∙◌}
use Rattle.exchange.proofs.show.Goals as goal

pub returns-then-number-ne0 : goal.returns-then-number-ne0
returns-then-number-ne0 c =
    let first-is = c.head_at-header_head.ensures.0 in
    let second_is = c.head_at-payload_head.ensures.0 in
    let header_is = c.part.ensures.bytes in
    let payload-is = c.part-2.ensures.bytes in
    c.refused.ensures
    ∙ parts_refused c.args.bytes.now _ _ _ _ _ c.requires first-is second_is _ _ header_is payload-is c.joined_number-number.ensures
    c.if-number-ne0.true

pub returns : goal.returns
returns c =
    let first-is = c.head_at-header_head.ensures.0 in
    let second_is = c.head_at-payload_head.ensures.0 in
    let header_is = c.part.ensures.bytes in
    let payload-is = c.part-2.ensures.bytes in
    parts_shown c.args.bytes.now _ _ _ _ _ c.requires first-is second_is _ _ header_is payload-is c.joined_number-number.ensures
    c.if-number-ne0.false
