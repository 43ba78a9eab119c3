use Rattle.pt_lib_timed.proofs.PendingLaws.{one-taken}
use Rattle.pt_lib_timed.proofs.pending.take_one.Goals as goal

pub returns-in-Some-clause-left : goal.returns-in-Some-clause-left
returns-in-Some-clause-left c = (one-taken c.args.tag c.args.events.now.items c.pop_due.new.events.items c.in-Some.token c.in-Some.ensures.due c.in-Some.ensures.left c.requires.one).1
