use Rattle.pep508_markers.specs.Machine.{starved, no_marker}
use Rattle.pep508_markers.proofs.FaultLaws.{told_reply}
use Rattle.pep508_markers.proofs.session.Session.refusal.Goals as goal

pub returns-in-OutOfMemory : goal.returns-in-OutOfMemory
returns-in-OutOfMemory c cells = starved (λ h. h)

pub returns-in-Ok : goal.returns-in-Ok
returns-in-Ok c cells =
    let refused = rw c.in-Fault.is at c.requires in
    no_marker refused.1 (told_reply c.args.text.now c.in-Fault.fault c.start.result c.len.result _ refused.0 c.start.ensures.value c.len.ensures c.in-Ok.ensures.ok)

pub returns-in-Err : goal.returns-in-Err
returns-in-Err c cells = starved (λ h. h)
