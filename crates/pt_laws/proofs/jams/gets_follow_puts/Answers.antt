use Rattle.pt_laws.proofs.PlaceCounts.{gets-follow-puts}
use Rattle.pt_laws.proofs.jams.gets_follow_puts.Goals as goal

pub returns : goal.returns
returns g c = gets-follow-puts
