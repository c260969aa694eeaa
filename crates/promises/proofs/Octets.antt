-- Every public function of `octets`: its promise asks nothing of the caller and determines what the caller sees.
use mathlib.Core.Path.{sym, ◌∙◌}
use Rattle.octets.proofs.Parting.{one_part}
use Rattle.promises.specs.Promise.{slice, Promised, PromisedWithOutput}
use Rattle.octets.proofs.byte.Reads as byte-Reads
use Rattle.octets.proofs.byte.Kinds as byte-kinds
use Rattle.octets.proofs.word.Reads as word-reads
use Rattle.octets.proofs.word.Kinds as word-kinds
use Rattle.octets.proofs.word_of.Reads as word-of-reads
use Rattle.octets.proofs.word_of.Kinds as word-of-kinds
use Rattle.octets.proofs.byte_value.Reads as byte-value-reads
use Rattle.octets.proofs.byte_value.Kinds as byte-value-kinds
use Rattle.octets.proofs.word_value.Reads as word-value-reads
use Rattle.octets.proofs.word_value.Kinds as word-value-kinds
use Rattle.octets.proofs.high.Reads as high-reads
use Rattle.octets.proofs.high.Kinds as high-kinds
use Rattle.octets.proofs.low.Reads as low_reads
use Rattle.octets.proofs.low.Kinds as low-kinds
use Rattle.octets.proofs.put.Reads as put_reads
use Rattle.octets.proofs.put.Kinds as put-kinds
use Rattle.octets.proofs.flag.Reads as flag-reads
use Rattle.octets.proofs.flag.Kinds as flag-kinds
use Rattle.octets.proofs.part.Reads as part-reads
use Rattle.octets.proofs.part.Kinds as part-kinds
use Rattle.octets.proofs.put_word.Reads as put-word-reads
use Rattle.octets.proofs.put_word.Kinds as put-word-kinds

pub byte : Promised 1 byte-kinds.ps byte-kinds.r byte-Reads.Asked byte-Reads.Post (λ κs x. x)
byte = (λ κs a. tt, λ κs a x y s t p q. p ∙ sym q)

pub word : Promised 1 word-kinds.ps word-kinds.r word-reads.Asked word-reads.Post (λ κs x. x)
word = (λ κs a. tt, λ κs a x y s t p q. p ∙ sym q)

pub word_of : Promised 0 word-of-kinds.ps word-of-kinds.r word-of-reads.Asked word-of-reads.Post (λ κs x. x)
word_of = (λ κs a. tt, λ κs a x y s t p q. p ∙ sym q)

pub byte_value_lem : Promised 0 byte-value-kinds.ps byte-value-kinds.r byte-value-reads.Asked byte-value-reads.Post (λ κs x. x)
byte_value_lem = (λ κs a. tt, λ κs a x y s t p q. p.0 ∙ sym q.0)

pub word_value : Promised 0 word-value-kinds.ps word-value-kinds.r word-value-reads.Asked word-value-reads.Post (λ κs x. x)
word_value = (λ κs a. tt, λ κs a x y s t p q. p.0 ∙ sym q.0)

pub high : Promised 0 high-kinds.ps high-kinds.r high-reads.Asked high-reads.Post (λ κs x. x)
high = (λ κs a. tt, λ κs a x y s t p q. p ∙ sym q)

pub low : Promised 0 low-kinds.ps low-kinds.r low_reads.Asked low_reads.Post (λ κs x. x)
low = (λ κs a. tt, λ κs a x y s t p q. p ∙ sym q)

pub flag : Promised 0 flag-kinds.ps flag-kinds.r flag-reads.Asked flag-reads.Post (λ κs x. x)
flag = (λ κs a. tt, λ κs a x y s t p q. p.0 ∙ sym q.0)

pub part : Promised 1 part-kinds.ps part-kinds.r part-reads.Asked part-reads.Post (λ κs x. slice x)
part = (λ κs a. tt, λ κs a x y s t p q. one_part _ _ _ x y p q)

pub put : PromisedWithOutput 2 put-kinds.ps put-kinds.r put_reads.Asked put_reads.Post (λ κs s. s.0.now)
put = (λ κs a. tt, λ κs a x y s t p q. (p.0 ∙ sym q.0, p.1 ∙ sym q.1))

pub put_word : PromisedWithOutput 1 put-word-kinds.ps put-word-kinds.r put-word-reads.Asked put-word-reads.Post (λ κs s. s.0.now)
put_word = (λ κs a. tt, λ κs a x y s t p q. (p.0 ∙ sym q.0, p.1 ∙ sym q.1))
