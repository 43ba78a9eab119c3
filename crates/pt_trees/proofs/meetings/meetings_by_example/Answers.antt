use Rattle.pt_trees.proofs.MeetingsExample.{meetings-examples}
use Rattle.pt_trees.proofs.meetings.meetings_by_example.Goals as goal

pub returns : goal.returns
returns c = meetings-examples
