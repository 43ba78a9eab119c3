use Rattle.std.proofs.Common.{List, [], ◌∷◌, false, length, get_or, ap, sym, subst, ◌∙◌}
use Rattle.pt_firing.specs.Need.{need_of}
use Rattle.pt_meaning.specs.Streams.{change_at}
use Rattle.pt_meaning.specs.Process.{at_rest}
use Rattle.pt_rv_laws.specs.Lawful.{HasPlaces}
use Rattle.pt_value.specs.declared.token.Token.{Token}
use Rattle.pt_puts.specs.Puts.{put_of}
use Rattle.pt_rv_work.specs.Core.{Standing, nobody, next_of, once_fired}
use Rattle.pt_rv_parts.specs.Team.{fires_in}
use Rattle.pt_rv_parts.proofs.TeamLaws.{flagged, mark-there, there-of, changed-is}
use Rattle.pt_rv_parts.proofs.team.Team.told_one.Goals as goal

pub tell_one_at-requires : goal.tell_one_at-requires
tell_one_at-requires c = record {
  there = there-of c.self.inside.processes.items c.args.self.now c.args.process c.self.view_is c.requires.there;
  handed = ap (λ (v : List (Standing Token)). (get_or v c.args.process nobody).handed) c.self.view_is ∙ c.requires.handed;
  none = ap (λ (v : List (Standing Token)). (get_or v c.args.process nobody).puts) c.self.view_is ∙ c.requires.none;
  places = subst (λ (v : List (Standing Token)). HasPlaces (length (get_or v c.args.process nobody).got) (need_of c.args.need)) (sym c.self.view_is) c.requires.places;
}

pub invariant_of-self : goal.invariant_of-self
invariant_of-self c = c.self.invariant ∙ ap fires_in (sym c.in_err-tell_one_at.ensures.kept)

pub mark-requires : goal.mark-requires
mark-requires c = mark-there c.self.inside.processes.items c.self.inside.firing c.args.process c.self.invariant (there-of c.self.inside.processes.items c.args.self.now c.args.process c.self.view_is c.requires.there)

pub invariant_of-self-2 : goal.invariant_of-self-2
invariant_of-self-2 c =
    let f : Standing Token → Standing Token = once_fired (need_of c.args.need) (put_of c.args.put ∷ []) in
    let there = there-of c.self.inside.processes.items c.args.self.now c.args.process c.self.view_is c.requires.there in
    flagged c.self.inside.processes.items c.args.process f c.tell_one_at.new.processes.items false c.self.inside.firing c.mark.new.self there c.self.invariant c.in_ok-tell_one_at.ensures.told
    (ap (λ (p : Standing Token). at_rest (next_of p)) (changed-is c.self.inside.processes.items c.args.process f c.tell_one_at.new.processes.items c.in_ok-tell_one_at.ensures.told there)) c.mark.ensures

pub returns-clause-told : goal.returns-clause-told
returns-clause-told c = c.in_ok-tell_one_at.ensures.told ∙ ap (λ (v : List (Standing Token)). change_at c.args.process (once_fired (need_of c.args.need) (put_of c.args.put ∷ [])) v) c.self.view_is
