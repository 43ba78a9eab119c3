use Rattle.pt_laws.proofs.PhaseLaws.{used-before, round-new, new-within, within-new}
use Rattle.pt_laws.proofs.phases_join.Goals as goal

pub returns : goal.returns
returns g c = λ facts step tag net kids start ms now held r. (λ c. used-before facts step tag net kids start ms now held r c, λ k. (round-new facts step tag net kids start ms now held r k, new-within facts step tag net kids start ms now held r k, within-new facts step tag net kids start ms now held r k))
