use Rattle.std.proofs.Common.{◌<◌, ap, sym, subst, get_or, length, ◌∙◌, List}
use Rattle.std.specs.Prelude.{slice_get}
use Rattle.pt_meaning.specs.Streams.{change_at}
use Rattle.pt_meaning.specs.Process.{at_rest}
use Rattle.pt_value.specs.declared.token.Token.{Token}
use Rattle.pt_rv_work.specs.Core.{Standing, nobody, next_of, with_put_made}
use Rattle.pt_rv_parts.proofs.TeamLaws.{flagged, mark-there, there-of, changed-there, changed-is}
use Rattle.pt_rv_parts.proofs.team.Team.put.Goals as goal

pub put_at-put-requires : goal.put_at-put-requires
put_at-put-requires c = record {
  there = there-of c.self.inside.processes.items c.args.self.now c.args.process c.self.view_is c.requires.there;
  some = subst (λ (v : List (Standing Token)). 0 < length (get_or v c.args.process nobody).puts) (sym c.self.view_is) c.requires.some;
}

pub is_firing-fires-requires : goal.is_firing-fires-requires
is_firing-fires-requires c =
    let there = there-of c.self.inside.processes.items c.args.self.now c.args.process c.self.view_is c.requires.there in
    record {
      there = changed-there c.self.inside.processes.items c.args.process with_put_made c.put_at-put.new.processes.items c.put_at-put.ensures.left there;
      gathers = ap (λ (p : Standing Token). p.handed) (changed-is c.self.inside.processes.items c.args.process with_put_made c.put_at-put.new.processes.items c.put_at-put.ensures.left there) ∙ ap (λ (v : List (Standing Token)). (get_or v c.args.process nobody).handed) c.self.view_is ∙ c.requires.gathers;
    }

pub mark-requires : goal.mark-requires
mark-requires c = mark-there c.self.inside.processes.items c.self.inside.firing c.args.process c.self.invariant (there-of c.self.inside.processes.items c.args.self.now c.args.process c.self.view_is c.requires.there)

pub invariant_of-self : goal.invariant_of-self
invariant_of-self c =
    flagged c.self.inside.processes.items c.args.process with_put_made c.is_firing-fires.new.processes.items c.is_firing-fires.result c.self.inside.firing c.mark.new.self
    (there-of c.self.inside.processes.items c.args.self.now c.args.process c.self.view_is c.requires.there) c.self.invariant (c.is_firing-fires.ensures.same ∙ c.put_at-put.ensures.left)
    (ap (λ (v : List (Standing Token)). at_rest (next_of (get_or v c.args.process nobody))) c.is_firing-fires.ensures.same ∙ c.is_firing-fires.ensures.rests) c.mark.ensures

pub returns-clause-left : goal.returns-clause-left
returns-clause-left c = c.is_firing-fires.ensures.same ∙ c.put_at-put.ensures.left ∙ ap (λ (v : List (Standing Token)). change_at c.args.process with_put_made v) c.self.view_is

pub returns-clause-put : goal.returns-clause-put
returns-clause-put c = ap (λ (v : List (Standing Token)). slice_get (get_or v c.args.process nobody).puts 0) (sym c.self.view_is) ∙ c.put_at-put.ensures.put
