use Rattle.std.proofs.Common.{refl}
use Rattle.pt_rv.proofs.rv.Core.fire_next.Goals as goal

pub fire-requires : goal.fire-requires
fire-requires c = record { running = c.requires; may = c.in-Some.ensures.may }

pub returns-in-Some : goal.returns-in-Some
returns-in-Some c = c.fire.ensures

pub returns-in-None : goal.returns-in-None
returns-in-None c = (c.in-None.ensures.rests refl, refl)
