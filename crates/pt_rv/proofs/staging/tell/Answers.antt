use Rattle.pt_rv.proofs.EndLaws.{always-ok}
use Rattle.pt_rv.proofs.staging.tell.Goals as goal

pub told-requires : goal.told-requires
told-requires c = record { there = c.requires.there; handed = c.requires.handed; places = c.requires.places }

pub returns-clause-room : goal.returns-clause-room
returns-clause-room c = c.in_ok-promise.ensures.kept

pub returns-clause-more : goal.returns-clause-more
returns-clause-more c = always-ok c.told.result c.in_ok-promise.ensures.more
