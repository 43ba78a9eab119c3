use Rattle.std.proofs.Common.{ap, sym, subst, ◌∙◌}
use Rattle.pt_rv_laws.specs.State.{AllRest}
use Rattle.pt_rv_laws.specs.RvActs.{State}
use Rattle.pt_rv.specs.Core.{Comes}
use Rattle.pt_rv.proofs.rv.Core.look_at_waiting.Goals as goal

pub try_waiting-requires : goal.try_waiting-requires
try_waiting-requires c = record {
  running = ap (λ (s : State). s.stage) c.loop.invariant ∙ c.requires.running;
  rests = subst (λ (s : State). AllRest s) (sym c.loop.invariant) c.requires.rests;
}

pub returns-in-Some : goal.returns-in-Some
returns-in-Some c = subst (λ (s : State). Comes s c.in-Some.answer c.try_waiting.new.self) c.loop.invariant c.in-Some.ensures

pub loop-preserved : goal.loop-preserved
loop-preserved c = c.in-None.ensures ∙ c.loop.invariant

pub returns : goal.returns
returns c = c.loop.invariant
