use Rattle.std.proofs.Common.{ap, sym, subst, ◌∙◌}
use Rattle.pt_rv_laws.specs.State.{AllRest}
use Rattle.pt_rv_laws.specs.RvActs.{State}
use Rattle.pt_rv.specs.Core.{Comes}
use Rattle.pt_rv.proofs.rv.Core.meet_next.Goals as goal

pub look_at_next-requires : goal.look_at_next-requires
look_at_next-requires c = record {
  running = ap (λ (s : State). s.stage) c.loop.invariant ∙ c.requires.running;
  rests = subst (λ (s : State). AllRest s) (sym c.loop.invariant) c.requires.rests;
}

pub returns-in-Some : goal.returns-in-Some
returns-in-Some c = subst (λ (s : State). Comes s c.in-Some.answer c.look_at_next.new.self) c.loop.invariant c.in-Some.ensures

pub loop-preserved : goal.loop-preserved
loop-preserved c = c.in-None.ensures ∙ c.loop.invariant

pub look_at_all-requires : goal.look_at_all-requires
look_at_all-requires c = record {
  running = ap (λ (s : State). s.stage) c.loop.invariant ∙ c.requires.running;
  rests = subst (λ (s : State). AllRest s) (sym c.loop.invariant) c.requires.rests;
}

pub returns : goal.returns
returns c = subst (λ (s : State). Comes s c.look_at_all.result c.look_at_all.new.self) c.loop.invariant c.look_at_all.ensures
