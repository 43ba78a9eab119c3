use Rattle.std.proofs.Common.{get_or, ap, sym, subst, ◌∙◌, List}
use Rattle.pt_value.specs.declared.token.Token.{Token}
use Rattle.pt_rv_work.specs.Core.{nobody, Standing}
use Rattle.pt_rv_parts.specs.Process.{DoesNext}
use Rattle.pt_rv_parts.specs.Team.{fires_in}
use Rattle.pt_rv_parts.proofs.TeamLaws.{there-of}
use Rattle.pt_rv_parts.proofs.team.Team.next.Goals as goal

pub next_at-requires : goal.next_at-requires
next_at-requires c = record {
  there = there-of c.self.inside.processes.items c.args.self.now c.args.process c.self.view_is c.requires.there;
  gathers = ap (λ (v : List (Standing Token)). (get_or v c.args.process nobody).handed) c.self.view_is ∙ c.requires.gathers;
}

pub invariant_of-self : goal.invariant_of-self
invariant_of-self c = c.self.invariant ∙ ap fires_in (sym c.next_at.ensures.same)

pub returns-clause-same : goal.returns-clause-same
returns-clause-same c = c.next_at.ensures.same ∙ c.self.view_is

pub returns-clause-next : goal.returns-clause-next
returns-clause-next c = subst (λ (v : List (Standing Token)). DoesNext (get_or v c.args.process nobody) c.next_at.result) c.self.view_is c.next_at.ensures.next
