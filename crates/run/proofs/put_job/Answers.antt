use Rattle.job.proofs.Inversion.{job_in}
use Rattle.run.proofs.Jobs.{list_is, lists_are, batch_short, job_put}
use Rattle.run.proofs.put_job.Goals as goal

pub put_walk-requires : goal.put_walk-requires
put_walk-requires c =
    batch_short c.args.bytes.now c.args.job _ c.requires c.batch.ensures.bytes

pub returns : goal.returns
returns c =
    let a = c.args in
    let i = job_in a.bytes.now a.job c.requires in
    let is = list_is a.bytes.now in
    job_put a.bytes.now a.job _ _ _ a.text.now _ _ _ _ c.settings.ensures
    (lists_are a.bytes.now a.job _ _ _ _ _ _ c.requires
    (is a.job.source_pass i.source_pass_lem.limit _ _ c.values-source_pass.ensures c.ranges-2.ensures)
    (is a.job.source_reject i.source_reject_lem.limit _ _ c.values-source_reject.ensures c.ranges-3.ensures)
    (is a.job.destination_pass i.destination_pass_lem.limit _ _ c.values-destination_pass.ensures c.ranges-4.ensures)
    (is a.job.destination_reject i.destination_reject_lem.limit _ _ c.values-destination_reject.ensures c.ranges-5.ensures)
    c.lay.ensures.0)
    c.batch.ensures.bytes c.put_first_line-place.ensures c.put_walk.ensures
