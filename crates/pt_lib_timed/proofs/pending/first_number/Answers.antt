use Rattle.std.proofs.Common.{refl}
use Rattle.std.specs.VecDeque.{deque_len}
use Rattle.pt_lib_timed.proofs.PendingLaws.{number-first}
use Rattle.pt_lib_timed.proofs.pending.first_number.Goals as goal

pub returns-in-Some : goal.returns-in-Some
returns-in-Some c = number-first c.args.events.now.items (deque_len c.args.events.now) c.in-Some.event.now c.number_of.result c.args.events.now.ok.0 (c.in-Some.ensures.variant.0 refl) c.in-Some.ensures.lookup c.number_of.ensures
