use Rattle.exchange.proofs.Written.{bytes_short, bytes_long}
use Rattle.exchange.proofs.put.put_number.Goals as goal

pub returns-then-number-lt128 : goal.returns-then-number-lt128
returns-then-number-lt128 c =
    rw (bytes_short _ _ c.if-number-lt128.true c.low.ensures) c.put.ensures

pub returns-else-number-lt128 : goal.returns-else-number-lt128
returns-else-number-lt128 c = rw (bytes_long _ c.if-number-lt128.false) c.put_word.ensures
