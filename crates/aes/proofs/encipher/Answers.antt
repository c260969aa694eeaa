use mathlib.Core.Path.{refl, ap, ap₂, ◌∙◌}
use native.Mathlib.Omega.{arith}
use Rattle.aes_rounds.specs.Rounds.{add_round_key, last_round}
use Rattle.aes.specs.Cipher.{rounds, cipher}
use Rattle.aes.proofs.Rounds.{rounds_on, rounds_all}
use Rattle.aes.proofs.encipher.Goals as goal

pub loop-n-init : goal.loop-n-init
unfolding rounds
loop-n-init c = refl

pub loop-n-preserved : goal.loop-n-preserved
loop-n-preserved c =
    rounds_on _ _ c.loop-n.n (omega arith) c.loop-n.invariant c.round_key-in-loop-n.ensures c.one_round-next.ensures

pub returns : goal.returns
unfolding cipher
returns c =
    let a = c.args in
    c.last_round.ensures
    ∙ ap₂ last_round
    (rounds_all a.keys.now _ c.loop-n.n (omega arith) (omega arith) c.loop-n.invariant
    ∙ ap (rounds a.keys.now 9) (c.add_round_key-s.ensures ∙ ap (add_round_key a.block) c.round_key.ensures))
    c.round_key-2.ensures
