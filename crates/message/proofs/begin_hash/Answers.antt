use Rattle.message.proofs.Hashing.{begun_with}
use Rattle.message.proofs.begin_hash.Goals as goal

pub returns : goal.returns
returns c =
    begun_with _ _ _ _ _ _ _ _ _ _ _ _ _ _ c.byte-byte0.ensures c.byte.ensures c.byte-2.ensures c.masked.ensures
    c.byte-3.ensures c.begin.ensures c.feed-fixed.ensures c.path_count_place.ensures.0 c.part.ensures.bytes
    c.feed-header.ensures c.number_bytes-digits.ensures c.feed.ensures
