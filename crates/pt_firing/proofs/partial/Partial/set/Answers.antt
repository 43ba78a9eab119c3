use Rattle.std.proofs.lemmas.List.{map-set}
use Rattle.pt_firing.specs.TriState.{partial_of}
use Rattle.pt_firing.proofs.partial.Partial.set.Goals as goal

pub returns : goal.returns
returns c = rw (← c.self.view_is) (map-set partial_of c.self.inside.states.items c.args.place c.args.state)
