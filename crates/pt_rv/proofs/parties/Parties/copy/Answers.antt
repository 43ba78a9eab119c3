use Rattle.std.proofs.Common.{ap, ◌∙◌}
use Rattle.pt_rv.specs.Parties.{inputs_of}
use Rattle.pt_rv.proofs.parties.Parties.copy.Goals as goal

pub returns : goal.returns
returns c = record {
  team = c.in_ok-team.ensures;
  inputs = c.in_ok-inlets.ensures ∙ ap inputs_of c.deref.ensures.value;
  outlets = c.in_ok-outlets.ensures ∙ c.deref-2.ensures.value;
}
