use Rattle.pt_directors.specs.Directors.{director_calls}
use Rattle.pt_number_cores.proofs.Coming.{at-once}
use Rattle.pt_number_cores.proofs.number_core.NumberCore.ask_on.Goals as goal

pub returns : goal.returns
returns g c = at-once director_calls _ _ _ c.ask.ensures.gives c.ask.ensures.state
