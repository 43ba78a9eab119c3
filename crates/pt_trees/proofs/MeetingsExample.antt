-- Lines of meetings, worked by hand.
use Rattle.std.proofs.Common.{refl}
use Rattle.pt_trees.specs.MeetingsExample.{MeetingsExamples}

pub meetings-examples : MeetingsExamples
meetings-examples = record { first = refl; second = refl; other = refl }
