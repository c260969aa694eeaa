use Rattle.retained_operations.proofs.Tied.{step_tied}
use Rattle.mant.proofs.reliable_messages.mant_retry.Goals as goal

pub returns : goal.returns
returns c =
    let a = c.args in
    step_tied a.table.now a.last a.time a.delay a.tries a.output.now _ _ _ _ c.ask_step.ensures c.find_due-effect.ensures c.resend.ensures
