use Rattle.std.proofs.Common.{length, drop, ap, ◌∙◌, sym, arith}
use Rattle.pt_meaning.specs.Valuation.{tokens_of}
use Rattle.pt_sr.proofs.SignalLaws.{signals-long, tokens-drop, handed-signals, handed-is}
use Rattle.pt_sr.specs.Signals.{signals_of}
use Rattle.pt_sr.proofs.signals.Signals.hand_out.Goals as goal

pub taken_from-requires : goal.taken_from-requires
taken_from-requires c = omega (arith, c.requires, signals-long c.self.inside.flags.items c.self.inside.lists.items c.self.invariant.counted, ap (λ v. length v) c.self.view_is, c.self.invariant.counted)

pub invariant_of-self-2 : goal.invariant_of-self-2
invariant_of-self-2 c = handed-signals c.self.inside.flags.items c.lower.new.flags.items c.self.inside.lists.items c.taken_from.new.lists.items c.empty.new.lists.items c.self.invariant c.taken_from.ensures.counted c.lower.ensures c.empty.ensures

pub returns-clause-given : goal.returns-clause-given
returns-clause-given c = c.in_ok-outputs.ensures.given ∙ sym (tokens-drop c.args.from (signals_of c.self.inside.flags.items c.self.inside.lists.items) ∙ ap (λ X. drop c.args.from X) c.self.invariant.clear) ∙ ap (λ V. tokens_of (drop c.args.from V)) c.self.view_is

pub returns-clause-left : goal.returns-clause-left
returns-clause-left c = handed-is c.self.inside.flags.items c.lower.new.flags.items c.self.inside.lists.items c.taken_from.new.lists.items c.empty.new.lists.items c.self.invariant c.taken_from.ensures.counted c.lower.ensures c.empty.ensures c.args.self.now c.self.view_is
