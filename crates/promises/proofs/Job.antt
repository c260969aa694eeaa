-- Every public function of `job`: its promise asks nothing of the caller and determines what the caller sees.
use mathlib.Core.Path.{sym, ◌∙◌}
use Rattle.octets.proofs.Parting.{one_part}
use Rattle.promises.specs.Promise.{slice, Promised}
use Rattle.job.proofs.JobRefusal.number.Reads as refusal-number-reads
use Rattle.job.proofs.JobRefusal.number.Kinds as refusal-number-kinds
use Rattle.job.proofs.taken_number.Reads as taken-number-reads
use Rattle.job.proofs.taken_number.Kinds as taken-number-kinds
use Rattle.job.proofs.job_number.Reads as job-number-reads
use Rattle.job.proofs.job_number.Kinds as job-number-kinds
use Rattle.job.proofs.list_at.Reads as list-at-reads
use Rattle.job.proofs.list_at.Kinds as list-at-kinds
use Rattle.job.proofs.batch_at.Reads as batch-at-reads
use Rattle.job.proofs.batch_at.Kinds as batch-at-kinds
use Rattle.job.proofs.read.Reads as read-reads
use Rattle.job.proofs.read.Kinds as read-kinds
use Rattle.job.proofs.Job.settings.Reads as job-settings-reads
use Rattle.job.proofs.Job.settings.Kinds as job-settings-kinds
use Rattle.job.proofs.values.Reads as values-reads
use Rattle.job.proofs.values.Kinds as values-kinds
use Rattle.job.proofs.batch.Reads as batch-reads
use Rattle.job.proofs.batch.Kinds as batch-kinds

pub refusal_number_lem : Promised 0 refusal-number-kinds.ps refusal-number-kinds.r refusal-number-reads.Asked refusal-number-reads.Post (λ κs x. x)
refusal_number_lem = (λ κs a. tt, λ κs a x y s t p q. p ∙ sym q)

pub taken_number_lem : Promised 0 taken-number-kinds.ps taken-number-kinds.r taken-number-reads.Asked taken-number-reads.Post (λ κs x. x)
taken_number_lem = (λ κs a. tt, λ κs a x y s t p q. p ∙ sym q)

pub job_number_lem : Promised 0 job-number-kinds.ps job-number-kinds.r job-number-reads.Asked job-number-reads.Post (λ κs x. x)
job_number_lem = (λ κs a. tt, λ κs a x y s t p q. p ∙ sym q)

pub list_at : Promised 1 list-at-kinds.ps list-at-kinds.r list-at-reads.Asked list-at-reads.Post (λ κs x. x)
list_at = (λ κs a. tt, λ κs a x y s t p q. p ∙ sym q)

pub batch_at_lem : Promised 1 batch-at-kinds.ps batch-at-kinds.r batch-at-reads.Asked batch-at-reads.Post (λ κs x. x)
batch_at_lem = (λ κs a. tt, λ κs a x y s t p q. p ∙ sym q)

pub read : Promised 1 read-kinds.ps read-kinds.r read-reads.Asked read-reads.Post (λ κs x. x)
read = (λ κs a. tt, λ κs a x y s t p q. p ∙ sym q)

pub job_settings : Promised 0 job-settings-kinds.ps job-settings-kinds.r job-settings-reads.Asked job-settings-reads.Post (λ κs x. x)
job_settings = (λ κs a. tt, λ κs a x y s t p q. p ∙ sym q)

pub values : Promised 1 values-kinds.ps values-kinds.r values-reads.Asked values-reads.Post (λ κs x. x)
values = (λ κs a. tt, λ κs a x y s t p q. p ∙ sym q)

pub batch : Promised 1 batch-kinds.ps batch-kinds.r batch-reads.Asked batch-reads.Post (λ κs x. slice x)
batch = (λ κs a. tt, λ κs a x y s t p q. one_part _ _ _ x y p q)
