use Rattle.job.specs.Jobs.{settings_of}
use Rattle.job.proofs.Job.settings.Goals as goal

pub returns : goal.returns
unfolding settings_of
returns c =
    rw (
      c.is_odd.ensures,
      c.is_odd-2.ensures,
      c.first_if_odd.ensures,
      c.first_if_odd-2.ensures,
      c.first_if_odd-3.ensures,
      c.first_if_odd-4.ensures,
    )
