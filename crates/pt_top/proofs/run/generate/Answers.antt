use Rattle.std.proofs.Common.{inl, inr, refl, ◌∙◌}
use Rattle.pt_reply.specs.declared.status.Status.TheVariants.{Done, Memory}
use Rattle.pt_top.proofs.run.generate.Goals as goal

pub returns-in-Ok : goal.returns-in-Ok
returns-in-Ok g c = (Done, c.deref.result.now, c.deref.ensures.value ∙ c.in-Ok.ensures, inl refl, c.finish.ensures)

pub returns-in-Err : goal.returns-in-Err
returns-in-Err g c = (Memory, _, refl, inr refl, c.finish-in-Err.ensures)
