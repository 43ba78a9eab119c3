use Rattle.std.specs.VecDeque.{deque_len}
use Rattle.std.proofs.Common.{refl}
use Rattle.pt_lib_timed.proofs.PendingLaws.{last-some}
use Rattle.pt_lib_timed.proofs.pending.last_of.Goals as goal

pub returns-in-Some : goal.returns-in-Some
returns-in-Some c = last-some c.args.events.now.items (deque_len c.args.events.now) c.in-Some.event.now c.args.events.now.ok.0 (c.in-Some.ensures.variant.0 refl) c.in-Some.ensures.lookup
