use Rattle.std.proofs.Common.{ap, sym, subst, get_or, length, ◌∙◌, List}
use Rattle.pt_firing.specs.Need.{need_of}
use Rattle.pt_meaning.specs.Streams.{change_at}
use Rattle.pt_meaning.specs.Process.{at_rest}
use Rattle.pt_rv_laws.specs.Lawful.{HasPlaces}
use Rattle.pt_value.specs.declared.token.Token.{Token}
use Rattle.pt_puts.specs.Puts.{puts_in}
use Rattle.pt_rv_work.specs.Core.{Standing, nobody, next_of, once_fired}
use Rattle.pt_rv_parts.specs.Team.{fires_in}
use Rattle.pt_rv_parts.proofs.TeamLaws.{flagged, mark-there, there-of, changed-there, changed-is}
use Rattle.pt_rv_parts.proofs.team.Team.told.Goals as goal

pub tell_at-requires : goal.tell_at-requires
tell_at-requires c = record {
  there = there-of c.self.inside.processes.items c.args.self.now c.args.process c.self.view_is c.requires.there;
  handed = ap (λ (v : List (Standing Token)). (get_or v c.args.process nobody).handed) c.self.view_is ∙ c.requires.handed;
  places = subst (λ (v : List (Standing Token)). HasPlaces (length (get_or v c.args.process nobody).got) (need_of c.args.need)) (sym c.self.view_is) c.requires.places;
}

pub invariant_of-self : goal.invariant_of-self
invariant_of-self c = c.self.invariant ∙ ap fires_in (sym c.in_err-tell_at.ensures.kept)

pub is_firing-fires-requires : goal.is_firing-fires-requires
is_firing-fires-requires c =
    let there = there-of c.self.inside.processes.items c.args.self.now c.args.process c.self.view_is c.requires.there in
    record {
      there = changed-there c.self.inside.processes.items c.args.process (once_fired (need_of c.args.need) (puts_in c.args.puts.now.items)) c.tell_at.new.processes.items c.in_ok-tell_at.ensures.told there;
      gathers = ap (λ (p : Standing Token). p.handed) (changed-is c.self.inside.processes.items c.args.process (once_fired (need_of c.args.need) (puts_in c.args.puts.now.items)) c.tell_at.new.processes.items c.in_ok-tell_at.ensures.told there);
    }

pub mark-requires : goal.mark-requires
mark-requires c = mark-there c.self.inside.processes.items c.self.inside.firing c.args.process c.self.invariant (there-of c.self.inside.processes.items c.args.self.now c.args.process c.self.view_is c.requires.there)

pub invariant_of-self-2 : goal.invariant_of-self-2
invariant_of-self-2 c =
    flagged c.self.inside.processes.items c.args.process (once_fired (need_of c.args.need) (puts_in c.args.puts.now.items)) c.is_firing-fires.new.processes.items c.is_firing-fires.result c.self.inside.firing c.mark.new.self
    (there-of c.self.inside.processes.items c.args.self.now c.args.process c.self.view_is c.requires.there) c.self.invariant (c.is_firing-fires.ensures.same ∙ c.in_ok-tell_at.ensures.told)
    (ap (λ (v : List (Standing Token)). at_rest (next_of (get_or v c.args.process nobody))) c.is_firing-fires.ensures.same ∙ c.is_firing-fires.ensures.rests) c.mark.ensures

pub returns-clause-told : goal.returns-clause-told
returns-clause-told c = c.is_firing-fires.ensures.same ∙ c.in_ok-tell_at.ensures.told ∙ ap (λ (v : List (Standing Token)). change_at c.args.process (once_fired (need_of c.args.need) (puts_in c.args.puts.now.items)) v) c.self.view_is
