use Rattle.pt_buildable.proofs.Joined.{begin-at-outputs}
use Rattle.pt_buildable.proofs.laws.channels_begin_at_outputs.Goals as goal

pub returns : goal.returns
returns c = begin-at-outputs
