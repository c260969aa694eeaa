use mathlib.Core.Path.{sym, ◌∙◌}
use Rattle.run.proofs.Jobs.{refused_put, read_put}
use Rattle.run.proofs.Whole.{ran}
use Rattle.run.proofs.relay.Goals as goal

pub put_job-requires : goal.put_job-requires
put_job-requires c = sym c.read.ensures ∙ c.in-Ok.is

pub returns-in-Err : goal.returns-in-Err
returns-in-Err c =
    let a = c.args in
    let put =
    refused_put a.bytes.now a.text.now _ _ _ (sym c.read.ensures ∙ c.in-Err.is)
    (rw (c.job_number-number.ensures ∙ c.number.ensures) at c.put_refused_line.ensures) in
    ran a.bytes.now a.text.now _ _ (λ i. (c.shared_slice_known-1.given i).fits) put

pub returns-in-Ok : goal.returns-in-Ok
returns-in-Ok c =
    let a = c.args in
    let put =
    read_put a.bytes.now a.text.now _ _ _ (sym c.read.ensures ∙ c.in-Ok.is)
    c.put_job.ensures in
    ran a.bytes.now a.text.now _ _ (λ i. (c.shared_slice_known-1.given i).fits) put
