use Rattle.std.proofs.Common.{ap, sym, subst, get_or, ◌∙◌, List}
use Rattle.pt_meaning.specs.Streams.{change_at}
use Rattle.pt_meaning.specs.Process.{at_rest}
use Rattle.pt_value.specs.declared.token.Token.{Token}
use Rattle.pt_rv_work.specs.Core.{Standing, nobody, next_of, with_token}
use Rattle.pt_rv_parts.specs.Process.{MayTake}
use Rattle.pt_rv_parts.proofs.TeamLaws.{flagged, mark-there, there-of, changed-there, changed-is}
use Rattle.pt_rv_parts.proofs.team.Team.get.Goals as goal

pub get_at-requires : goal.get_at-requires
get_at-requires c = record {
  there = there-of c.self.inside.processes.items c.args.self.now c.args.process c.self.view_is c.requires.there;
  may = subst (λ (v : List (Standing Token)). MayTake (get_or v c.args.process nobody) c.args.place) (sym c.self.view_is) c.requires.may;
}

pub is_firing-fires-requires : goal.is_firing-fires-requires
is_firing-fires-requires c =
    let there = there-of c.self.inside.processes.items c.args.self.now c.args.process c.self.view_is c.requires.there in
    record {
      there = changed-there c.self.inside.processes.items c.args.process (with_token c.args.place c.args.token) c.get_at.new.processes.items c.get_at.ensures there;
      gathers = ap (λ (p : Standing Token). p.handed) (changed-is c.self.inside.processes.items c.args.process (with_token c.args.place c.args.token) c.get_at.new.processes.items c.get_at.ensures there) ∙ ap (λ (v : List (Standing Token)). (get_or v c.args.process nobody).handed) c.self.view_is ∙ c.requires.may.gathers;
    }

pub mark-requires : goal.mark-requires
mark-requires c = mark-there c.self.inside.processes.items c.self.inside.firing c.args.process c.self.invariant (there-of c.self.inside.processes.items c.args.self.now c.args.process c.self.view_is c.requires.there)

pub invariant_of-self : goal.invariant_of-self
invariant_of-self c =
    flagged c.self.inside.processes.items c.args.process (with_token c.args.place c.args.token) c.is_firing-fires.new.processes.items c.is_firing-fires.result c.self.inside.firing c.mark.new.self
    (there-of c.self.inside.processes.items c.args.self.now c.args.process c.self.view_is c.requires.there) c.self.invariant (c.is_firing-fires.ensures.same ∙ c.get_at.ensures)
    (ap (λ (v : List (Standing Token)). at_rest (next_of (get_or v c.args.process nobody))) c.is_firing-fires.ensures.same ∙ c.is_firing-fires.ensures.rests) c.mark.ensures

pub returns : goal.returns
returns c = c.is_firing-fires.ensures.same ∙ c.get_at.ensures ∙ ap (λ (v : List (Standing Token)). change_at c.args.process (with_token c.args.place c.args.token) v) c.self.view_is
