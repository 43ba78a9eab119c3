use Rattle.pt_de_inside.proofs.FormLaws.{plans-make}
use Rattle.pt_de_inside.proofs.laws.plans_make_cores.Goals as goal

pub returns : goal.returns
returns c = plans-make
