use Rattle.pt_laws.proofs.TickLaws.{tick-extends}
use Rattle.pt_laws.proofs.valuations_keep.Goals as goal

pub returns : goal.returns
returns g c = tick-extends
