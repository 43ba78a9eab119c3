use Rattle.std.proofs.Common.{◌∙◌, arith}
use Rattle.pt_sr.proofs.TickLaws.{copied-lawful, copied-offsets, copied-signals, copied-flags, copied-numbers, copied-few, copied-fewer, copied-is}
use Rattle.pt_sr.proofs.tick.Tick.copy.Goals as goal

pub feeds_of-requires-clause-few : goal.feeds_of-requires-clause-few
feeds_of-requires-clause-few c = copied-few c.self.inside c.self.invariant c.in_ok-plan.plan c.in_ok-plan.ensures

pub feeds_of-requires-clause-children : goal.feeds_of-requires-clause-children
feeds_of-requires-clause-children c = let a = copied-fewer c.self.inside c.self.invariant c.in_ok-plan.plan c.in_ok-plan.ensures in omega (arith, a)

pub invariant_of-result : goal.invariant_of-result
invariant_of-result c = record {
  lawful = copied-lawful c.self.inside c.self.invariant c.in_ok-plan.plan c.in_ok-plan.ensures;
  offsets = copied-offsets c.self.inside c.self.invariant c.in_ok-plan.plan c.in_ok-plan.ensures c.in_ok-offsets.offsets.items (c.in_ok-offsets.ensures.items ∙ c.deref.ensures.value);
  fed = c.in_ok-feeds.ensures;
  signals = copied-signals c.self.inside c.self.invariant c.in_ok-plan.plan c.in_ok-plan.ensures c.in_ok-signals.signals c.in_ok-signals.ensures;
  fired = copied-flags c.self.inside c.self.invariant c.in_ok-plan.plan c.in_ok-plan.ensures c.in_ok-fired.fired.items (c.in_ok-fired.ensures.items ∙ c.deref-2.ensures.value);
  heard = copied-numbers c.self.inside c.self.invariant c.in_ok-plan.plan c.in_ok-plan.ensures c.in_ok-heard.heard.items (c.in_ok-heard.ensures.items ∙ c.deref-3.ensures.value);
}

pub returns : goal.returns
returns c =
    copied-is c.self.inside c.self.invariant c.in_ok-plan.plan c.in_ok-plan.ensures c.in_ok-signals.signals c.in_ok-fired.fired.items c.in_ok-heard.heard.items c.in_ok-signals.ensures (c.in_ok-fired.ensures.items ∙ c.deref-2.ensures.value) (c.in_ok-heard.ensures.items ∙ c.deref-3.ensures.value)
    c.args.self.now c.self.view_is
