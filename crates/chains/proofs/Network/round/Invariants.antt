use Rattle.std.proofs.Common.{◌≡◌}
use Rattle.chains.specs.Lengths.{is_usable}
use Rattle.chains.specs.Rounds.{after_round}
use Rattle.chains.proofs.Network.round.Given as goal

abbrev pub invariant-loop-pair : goal.invariant-loop-pair
invariant-loop-pair l =
    let usable = is_usable l.self.marks.now l.self.from l.self.failed in
    (l.pair-iterator.size ≡ 2) × (after_round usable l.k l.pairs l.initial.lengths ≡ after_round usable l.k l.pair-iterator.rest.now l.lengths)
