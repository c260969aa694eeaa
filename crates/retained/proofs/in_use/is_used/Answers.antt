use Rattle.std.proofs.Common.{◌≡◌, ◌∙◌, length, rules}
use Rattle.retained.proofs.Used.{used_is}
use Rattle.retained.proofs.in_use.is_used.Goals as goal

pub returns : goal.returns
returns c =
    let whole : length c.args.r.pdu ≡ 256 = search rules in
    c.is_whole.ensures ∙ simp c.payload_length-payload.ensures (used_is c.args.r whole)
