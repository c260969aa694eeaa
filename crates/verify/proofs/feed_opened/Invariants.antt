use Rattle.std.proofs.Common.{◌≡◌, ◌+◌, length}
use Rattle.std.specs.Slice.Iter.{chunks_rest, chunks_size}
use Rattle.sha1_digest.specs.Sha1.{fed}
use Rattle.ctr.specs.Ctr.{stream, added}
use Rattle.verify.proofs.feed_opened.Given as goal

abbrev pub invariant-loop-part : goal.invariant-loop-part
invariant-loop-part l =
    goal.iterator-loop-part.can_next l.part-iterator × goal.iterator-loop-part.is_finite l.part-iterator
    × (chunks_size l.part-iterator ≡ 16)
    × (l.place + length (chunks_rest l.part-iterator) ≡ length l.fn.enciphered)
    × (fed l.hash (added (stream l.keys l.nonce) l.place (chunks_rest l.part-iterator)) ≡ fed l.initial.hash (added (stream l.keys l.nonce) 0 l.fn.enciphered))
