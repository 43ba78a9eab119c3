use Rattle.pt_events.proofs.QueueLaws.{takes-least}
use Rattle.pt_events.proofs.laws.what_is_taken_is_least.Goals as goal

pub returns : goal.returns
returns c = takes-least
