use Rattle.pt_rv.proofs.EndLaws.{always-ok}
use Rattle.pt_rv.proofs.staging.tell_one.Goals as goal

pub told_one-requires : goal.told_one-requires
told_one-requires c = record { there = c.requires.there; handed = c.requires.handed; none = c.requires.none; places = c.requires.places }

pub returns-clause-room : goal.returns-clause-room
returns-clause-room c = c.in_ok-promise_put.ensures.kept

pub returns-clause-more : goal.returns-clause-more
returns-clause-more c = always-ok c.told_one.result c.in_ok-promise_put.ensures.more
