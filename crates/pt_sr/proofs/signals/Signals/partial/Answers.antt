use Rattle.std.proofs.Common.{◌≡◌, IfOk, length, take, drop, ap, ap₂, ◌∙◌, sym, subst, arith}
use Rattle.pt_sr.specs.Signals.{signals_of}
use Rattle.pt_sr.proofs.SignalLaws.{signals-long, some-signals, alike}
use Rattle.pt_sr.proofs.signals.Signals.partial.Goals as goal

pub some_flags-requires : goal.some_flags-requires
some_flags-requires c = omega (arith, c.requires, signals-long c.self.inside.flags.items c.self.inside.lists.items c.self.invariant.counted, ap (λ v. length v) c.self.view_is, ap (λ v. length v) c.deref.ensures.value)

pub some_lists-requires : goal.some_lists-requires
some_lists-requires c = omega (arith, c.requires, signals-long c.self.inside.flags.items c.self.inside.lists.items c.self.invariant.counted, c.self.invariant.counted, ap (λ v. length v) c.self.view_is, ap (λ v. length v) c.deref-2.ensures.value)

pub states_of-requires : goal.states_of-requires
states_of-requires c =
    ap (λ v. length v) (c.some_flags.ensures ∙ ap (λ v. take c.args.n (drop c.args.from v)) c.deref.ensures.value) ∙ alike c.args.from c.args.n c.self.inside.flags.items c.self.inside.lists.items c.self.invariant.counted ∙
    sym (ap (λ v. length v) (c.some_lists.ensures ∙ ap (λ v. take c.args.n (drop c.args.from v)) c.deref-2.ensures.value))

pub returns : goal.returns
returns c =
    subst (λ V. IfOk c.states_of.result (λ p. p ≡ V))
    (ap₂ (λ f X. signals_of f X) (c.some_flags.ensures ∙ ap (λ v. take c.args.n (drop c.args.from v)) c.deref.ensures.value) (c.some_lists.ensures ∙ ap (λ v. take c.args.n (drop c.args.from v)) c.deref-2.ensures.value) ∙
    sym (some-signals c.args.from c.args.n c.self.inside.flags.items c.self.inside.lists.items c.self.invariant.counted) ∙ ap (λ V. take c.args.n (drop c.args.from V)) c.self.view_is) c.states_of.ensures
