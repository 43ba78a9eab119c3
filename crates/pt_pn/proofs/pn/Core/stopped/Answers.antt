use Rattle.std.proofs.Common.{◌<◌, length, sym, ap, subst, ◌∙◌}
use Rattle.pt_pn_laws.specs.State.{AllStopped, least_full}
use Rattle.pt_pn_work.specs.Core.{State}
use Rattle.pt_pn.specs.Core.{Comes}
use Rattle.pt_pn.proofs.pn.Core.stopped.Goals as goal

pub grow-requires : goal.grow-requires
grow-requires c = record {
  running = ap (λ (s : State). s.stage) c.best.ensures.same ∙ c.requires.running;
  stopped = subst (λ (s : State). AllStopped s) (sym c.best.ensures.same) c.requires.stopped;
  best = ap (λ (s : State). least_full s) c.best.ensures.same ∙ sym c.in-Some.ensures.best;
  there = subst (λ (s : State). c.in-Some.channel < length s.network.plan.net.sources) (sym c.best.ensures.same) c.in-Some.ensures.there;
}

pub returns-in-Some : goal.returns-in-Some
returns-in-Some c = subst (λ (s : State). Comes s c.grow.result c.grow.new.self) c.best.ensures.same c.grow.ensures

pub end-requires : goal.end-requires
end-requires c = record {
  running = ap (λ (s : State). s.stage) c.best.ensures.same ∙ c.requires.running;
  stopped = subst (λ (s : State). AllStopped s) (sym c.best.ensures.same) c.requires.stopped;
  none = ap (λ (s : State). least_full s) c.best.ensures.same ∙ sym c.in-None.ensures.best;
}

pub returns-in-None : goal.returns-in-None
returns-in-None c = subst (λ (s : State). Comes s c.end.result c.end.new.self) c.best.ensures.same c.end.ensures
