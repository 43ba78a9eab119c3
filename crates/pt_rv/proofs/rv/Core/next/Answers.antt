use Rattle.std.proofs.Common.{ap, sym, subst, ◌∙◌}
use Rattle.pt_rv_laws.specs.State.{AllRest}
use Rattle.pt_rv_laws.specs.RvActs.{State}
use Rattle.pt_rv.specs.Core.{Comes}
use Rattle.pt_rv.proofs.rv.Core.next.Goals as goal

pub meet_next-requires : goal.meet_next-requires
meet_next-requires c = record {
  running = ap (λ (s : State). s.stage) c.in-None.ensures.1 ∙ c.requires;
  rests = subst (λ (s : State). AllRest s) (sym c.in-None.ensures.1) c.in-None.ensures.0;
}

pub returns-in-None : goal.returns-in-None
returns-in-None c = subst (λ (s : State). Comes s c.meet_next.result c.meet_next.new.self) c.in-None.ensures.1 c.meet_next.ensures
