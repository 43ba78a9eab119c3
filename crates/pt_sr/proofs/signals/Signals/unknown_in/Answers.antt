use Rattle.std.proofs.Common.{length, take, drop, ap, ◌∙◌, arith}
use Rattle.pt_sr.specs.State.{unknown_in}
use Rattle.pt_sr.specs.Signals.{count_lowered}
use Rattle.pt_sr.proofs.SignalLaws.{signals-long, unknown-among}
use Rattle.pt_sr.proofs.signals.Signals.unknown_in.Goals as goal

pub some_flags-requires : goal.some_flags-requires
some_flags-requires c = omega (arith, c.requires, signals-long c.self.inside.flags.items c.self.inside.lists.items c.self.invariant.counted, ap (λ v. length v) c.self.view_is, ap (λ v. length v) c.deref.ensures.value)

pub returns : goal.returns
returns c =
    c.count_lowered.ensures ∙ ap (λ v. count_lowered v) (c.some_flags.ensures ∙ ap (λ v. take c.args.n (drop c.args.from v)) c.deref.ensures.value) ∙ unknown-among c.args.from c.args.n c.self.inside.flags.items c.self.inside.lists.items c.self.invariant.counted ∙
    ap (λ v. unknown_in (take c.args.n (drop c.args.from v))) c.self.view_is
