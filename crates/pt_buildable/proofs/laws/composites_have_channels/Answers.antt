use Rattle.pt_buildable.proofs.Joined.{composites-channels}
use Rattle.pt_buildable.proofs.laws.composites_have_channels.Goals as goal

pub returns : goal.returns
returns c = composites-channels
