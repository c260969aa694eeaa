-- Every public function of `message`: its promise asks nothing of the caller and determines what the caller sees.
use mathlib.Core.Path.{sym, ◌∙◌}
use Rattle.promises.specs.Promise.{Promised}
use Rattle.message.proofs.number_bytes.Reads as number-bytes-reads
use Rattle.message.proofs.number_bytes.Kinds as number-bytes-kinds
use Rattle.message.proofs.number_in.Reads as number-in-reads
use Rattle.message.proofs.number_in.Kinds as number-in-kinds
use Rattle.message.proofs.nonce.Reads as nonce-reads
use Rattle.message.proofs.nonce.Kinds as nonce-kinds
use Rattle.message.proofs.begin_hash.Reads as begin-hash-reads
use Rattle.message.proofs.begin_hash.Kinds as begin-hash-kinds
use Rattle.message.proofs.hash_of.Reads as hash-of-reads
use Rattle.message.proofs.hash_of.Kinds as hash-of-kinds
use Rattle.message.proofs.plain_length.Reads as plain-length-reads
use Rattle.message.proofs.plain_length.Kinds as plain-length-kinds
use Rattle.message.proofs.seal_fault.Reads as seal-fault-reads
use Rattle.message.proofs.seal_fault.Kinds as seal-fault-kinds
use Rattle.message.proofs.refused.Reads as refused-reads
use Rattle.message.proofs.refused.Kinds as refused-kinds

pub number_bytes_lem : Promised 0 number-bytes-kinds.ps number-bytes-kinds.r number-bytes-reads.Asked number-bytes-reads.Post (λ κs x. x)
number_bytes_lem = (λ κs a. tt, λ κs a x y s t p q. p ∙ sym q)

pub number_in : Promised 1 number-in-kinds.ps number-in-kinds.r number-in-reads.Asked number-in-reads.Post (λ κs x. x)
number_in = (λ κs a. tt, λ κs a x y s t p q. p ∙ sym q)

pub nonce : Promised 0 nonce-kinds.ps nonce-kinds.r nonce-reads.Asked nonce-reads.Post (λ κs x. x)
nonce = (λ κs a. tt, λ κs a x y s t p q. p ∙ sym q)

pub begin_hash_lem : Promised 1 begin-hash-kinds.ps begin-hash-kinds.r begin-hash-reads.Asked begin-hash-reads.Post (λ κs x. x)
begin_hash_lem = (λ κs a. tt, λ κs a x y s t p q. p ∙ sym q)

pub hash_of_lem : Promised 2 hash-of-kinds.ps hash-of-kinds.r hash-of-reads.Asked hash-of-reads.Post (λ κs x. x)
hash_of_lem = (λ κs a. tt, λ κs a x y s t p q. p ∙ sym q)

pub plain_length_lem : Promised 0 plain-length-kinds.ps plain-length-kinds.r plain-length-reads.Asked plain-length-reads.Post (λ κs x. x)
plain_length_lem = (λ κs a. tt, λ κs a x y s t p q. p.0 ∙ sym q.0)

pub seal_fault_lem : Promised 1 seal-fault-kinds.ps seal-fault-kinds.r seal-fault-reads.Asked seal-fault-reads.Post (λ κs x. x)
seal_fault_lem = (λ κs a. tt, λ κs a x y s t p q. p ∙ sym q)

pub refused : Promised 0 refused-kinds.ps refused-kinds.r refused-reads.Asked refused-reads.Post (λ κs x. x)
refused = (λ κs a. tt, λ κs a x y s t p q. p ∙ sym q)
