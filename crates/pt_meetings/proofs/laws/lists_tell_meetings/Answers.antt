use Rattle.pt_meetings.proofs.Telling.{lists-tell}
use Rattle.pt_meetings.proofs.laws.lists_tell_meetings.Goals as goal

pub returns : goal.returns
returns c = lists-tell
