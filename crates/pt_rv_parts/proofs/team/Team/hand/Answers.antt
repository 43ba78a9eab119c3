use Rattle.std.proofs.Common.{ap, sym, get_or, ◌∙◌, List}
use Rattle.pt_value.specs.declared.token.Token.{Token}
use Rattle.pt_meaning.specs.Streams.{change_at}
use Rattle.pt_rv_work.specs.Core.{nobody, with_handed, Standing}
use Rattle.pt_rv_parts.specs.Team.{fires_in}
use Rattle.pt_rv_parts.proofs.TeamLaws.{there-of, fires-handed}
use Rattle.pt_rv_parts.proofs.team.Team.hand.Goals as goal

pub hand_at-requires : goal.hand_at-requires
hand_at-requires c = record {
  there = there-of c.self.inside.processes.items c.args.self.now c.args.process c.self.view_is c.requires.there;
  gathers = ap (λ (v : List (Standing Token)). (get_or v c.args.process nobody).handed) c.self.view_is ∙ c.requires.gathers;
}

pub invariant_of-self : goal.invariant_of-self
invariant_of-self c = c.self.invariant ∙ sym (fires-handed c.self.inside.processes.items c.args.process) ∙ ap fires_in (sym c.hand_at.ensures)

pub returns : goal.returns
returns c = c.hand_at.ensures ∙ ap (λ (v : List (Standing Token)). change_at c.args.process with_handed v) c.self.view_is
