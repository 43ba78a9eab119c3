use Rattle.std.proofs.Common.{ap, sym, subst, ◌∙◌}
use Rattle.pt_rv_laws.specs.State.{AllRest}
use Rattle.pt_rv_laws.specs.RvActs.{State}
use Rattle.pt_rv.specs.Core.{MayCome}
use Rattle.pt_rv.proofs.rv.Core.look_at_party.Goals as goal

pub look_further-requires : goal.look_further-requires
look_further-requires c = record {
  running = ap (λ (s : State). s.stage) c.in-None.ensures ∙ c.requires.running;
  rests = subst (λ (s : State). AllRest s) (sym c.in-None.ensures) c.requires.rests;
}

pub returns-in-None : goal.returns-in-None
returns-in-None c = subst (λ (s : State). MayCome s c.look_further.result c.look_further.new.self) c.in-None.ensures c.look_further.ensures
