use Rattle.std.proofs.Common.{ap₂, subst, sym, ◌∙◌}
use Rattle.pt_sr.specs.Signals.{AreSignals, signals_of}
use Rattle.pt_sr.proofs.signals.Signals.copy.Goals as goal

pub invariant_of-result : goal.invariant_of-result
invariant_of-result c =
    subst (λ f. AreSignals f c.in_ok-lists.lists.items) (sym (c.in_ok-flags.ensures.items ∙ c.deref-2.ensures.value)) (subst (λ X. AreSignals c.self.inside.flags.items X) (sym (c.in_ok-lists.ensures ∙ c.deref.ensures.value)) c.self.invariant)

pub returns : goal.returns
returns c = ap₂ (λ f X. signals_of f X) (c.in_ok-flags.ensures.items ∙ c.deref-2.ensures.value) (c.in_ok-lists.ensures ∙ c.deref.ensures.value) ∙ c.self.view_is
