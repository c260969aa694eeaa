use Rattle.std.proofs.Common.{◌≡◌, length, take}
use Rattle.sha1_digest.specs.Sha1.{fed}
use Rattle.sha1_digest.proofs.feed.Given as goal

abbrev pub invariant-loop-byte : goal.invariant-loop-byte
invariant-loop-byte l = (length l.running.block ≡ 64) × (l.running ≡ fed l.initial.running (take l.byte-index l.part))
