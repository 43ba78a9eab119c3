use Rattle.std.proofs.Common.{ap, sym, subst, ◌∙◌}
use Rattle.pt_rv_laws.specs.State.{AllRest}
use Rattle.pt_rv_laws.specs.RvActs.{State}
use Rattle.pt_rv.specs.Core.{MayCome}
use Rattle.pt_rv.proofs.rv.Core.look_at_next.Goals as goal

pub look_at_party-requires : goal.look_at_party-requires
look_at_party-requires c = record {
  running = ap (λ (s : State). s.stage) c.next_party.ensures ∙ c.requires.running;
  rests = subst (λ (s : State). AllRest s) (sym c.next_party.ensures) c.requires.rests;
}

pub returns-in-Some : goal.returns-in-Some
returns-in-Some c = subst (λ (s : State). MayCome s c.look_at_party.result c.look_at_party.new.self) c.next_party.ensures c.look_at_party.ensures

pub returns-in-None : goal.returns-in-None
returns-in-None c = c.next_party.ensures
