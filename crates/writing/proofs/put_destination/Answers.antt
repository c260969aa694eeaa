use Rattle.octets.proofs.Placing.{nothing_after, nothing_placed}
use Rattle.writing.proofs.put_destination.Goals as goal

pub returns-in-Everyone : goal.returns-in-Everyone
returns-in-Everyone c = rw c.in-Everyone.is (nothing_after _ _, nothing_placed _ _)
