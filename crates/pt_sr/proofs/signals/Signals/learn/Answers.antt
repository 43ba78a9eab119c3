use Rattle.std.proofs.Common.{◌≡◌, ap, ◌∙◌, sym, arith, true, false, set}
use Rattle.pt_meaning.specs.Machine.{Known, partial_at}
use Rattle.pt_meaning.specs.Valuation.{is_known}
use Rattle.pt_sr.specs.State.{learnt}
use Rattle.pt_sr.proofs.SignalLaws.{signal-there, list-there, flag-known, set-known, set-self, learnt-again, learnt-nothing, learnt-first, raised}
use Rattle.pt_sr.proofs.signals.Signals.learn.Goals as goal

pub index-requires : goal.index-requires
index-requires c = omega (arith, signal-there c.self.inside.flags.items c.self.inside.lists.items c.args.self.now c.args.c c.self.invariant c.self.view_is c.requires, c.self.inside.flags.ok.0)

pub returns-then-index : goal.returns-then-index
returns-then-index c =
    let k : is_known (partial_at c.args.self.now c.args.c) ≡ true = sym (flag-known c.self.inside.flags.items c.self.inside.lists.items c.args.self.now c.args.c c.self.invariant c.self.view_is c.requires c.index.result.now c.index.ensures) ∙ c.if-index.true in
    sym (ap (λ v. set c.args.self.now c.args.c v) (learnt-again (partial_at c.args.self.now c.args.c) c.args.given k) ∙ set-self c.args.self.now c.args.c)

pub returns-in-None : goal.returns-in-None
returns-in-None c =
    sym (ap (λ g. set c.args.self.now c.args.c (learnt (partial_at c.args.self.now c.args.c) g)) c.in-None.is ∙ ap (λ v. set c.args.self.now c.args.c v) (learnt-nothing (partial_at c.args.self.now c.args.c)) ∙ set-self c.args.self.now c.args.c)

pub index_mut-requires : goal.index_mut-requires
index_mut-requires c = omega (arith, signal-there c.self.inside.flags.items c.self.inside.lists.items c.args.self.now c.args.c c.self.invariant c.self.view_is c.requires, c.self.inside.flags.ok.0)

pub index_mut-requires-in-Some : goal.index_mut-requires-in-Some
index_mut-requires-in-Some c = omega (arith, list-there c.self.inside.flags.items c.self.inside.lists.items c.args.self.now c.args.c c.self.invariant c.self.view_is c.requires, c.self.inside.lists.ok.0)

pub invariant_of-self : goal.invariant_of-self
invariant_of-self c = raised c.self.inside.flags.items c.self.inside.lists.items c.args.c c.in-Some.tokens c.self.invariant

pub returns-in-Some : goal.returns-in-Some
returns-in-Some c =
    let k : is_known (partial_at c.args.self.now c.args.c) ≡ false = sym (flag-known c.self.inside.flags.items c.self.inside.lists.items c.args.self.now c.args.c c.self.invariant c.self.view_is c.requires c.index.result.now c.index.ensures) ∙ c.if-index.false in
    set-known c.self.inside.flags.items c.self.inside.lists.items c.args.c c.in-Some.tokens c.self.invariant.counted ∙ ap (λ V. set V c.args.c (Known c.in-Some.tokens)) c.self.view_is ∙
    ap (λ v. set c.args.self.now c.args.c v) (sym (learnt-first (partial_at c.args.self.now c.args.c) c.in-Some.tokens k)) ∙ ap (λ g. set c.args.self.now c.args.c (learnt (partial_at c.args.self.now c.args.c) g)) (sym c.in-Some.is)
