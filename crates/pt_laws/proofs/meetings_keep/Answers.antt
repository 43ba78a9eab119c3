use Rattle.pt_laws.proofs.MeetingLaws.{meetings-keep}
use Rattle.pt_laws.proofs.meetings_keep.Goals as goal

pub returns : goal.returns
returns g c = meetings-keep
