-- The public function of `sha1_block`: its promise asks nothing of the caller and determines what the caller sees.
use mathlib.Core.Path.{sym, ◌∙◌}
use Rattle.promises.specs.Promise.{Promised}
use Rattle.sha1_block.proofs.compress.Reads as compress-reads
use Rattle.sha1_block.proofs.compress.Kinds as compress-kinds

pub compress : Promised 0 compress-kinds.ps compress-kinds.r compress-reads.Asked compress-reads.Post (λ κs x. x)
compress = (λ κs a. tt, λ κs a x y s t p q. p ∙ sym q)
