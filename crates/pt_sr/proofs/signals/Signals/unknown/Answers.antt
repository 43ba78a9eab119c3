use Rattle.std.proofs.Common.{ap₂, subst, sym, ◌∙◌, replicate, false}
use Rattle.pt_sr.specs.Signals.{AreSignals, signals_of}
use Rattle.pt_sr.proofs.SignalLaws.{none-known, none-signals}
use Rattle.pt_sr.proofs.signals.Signals.unknown.Goals as goal

pub invariant_of-result : goal.invariant_of-result
invariant_of-result c = subst (λ f. AreSignals f c.in_ok-lists.lists.items) (sym c.in_ok-flags.ensures) (subst (λ X. AreSignals (replicate c.args.channels false) X) (sym c.in_ok-lists.ensures) (none-known c.args.channels))

pub returns : goal.returns
returns c = ap₂ (λ f X. signals_of f X) c.in_ok-flags.ensures c.in_ok-lists.ensures ∙ none-signals c.args.channels
