use Rattle.std.proofs.Common.{length, ap, ◌∙◌, sym, arith, below_more}
use Rattle.pt_value.specs.declared.token.Token.{Token}
use Rattle.pt_sr.specs.State.{TickState}
use Rattle.pt_sr.proofs.TickLaws.{fired-read}
use Rattle.pt_sr.proofs.tick.Tick.first_unfired.Goals as goal

pub returns-then-not-fired-clause-some : goal.returns-then-not-fired-clause-some
returns-then-not-fired-clause-some c = (
  omega (arith, c.loop-child-test.true, c.len-child-end.ensures, c.self.inside.fired.ok.0, c.self.invariant.fired, ap (λ (s : TickState Token). length s.plan.net.places) c.self.view_is),
  sym (fired-read c.self.inside c.args.self.now c.self.view_is c.loop-child.child c.index-fired.result.now (omega (arith, c.loop-child-test.true, c.len-child-end.ensures, c.self.inside.fired.ok.0)) c.index-fired.ensures) ∙ c.if-not-fired.true,
)

pub loop-child-preserved : goal.loop-child-preserved
loop-child-preserved c =
    below_more _ _ c.loop-child.invariant
    (sym (fired-read c.self.inside c.args.self.now c.self.view_is c.loop-child.child c.index-fired.result.now (omega (arith, c.loop-child-test.true, c.len-child-end.ensures, c.self.inside.fired.ok.0)) c.index-fired.ensures) ∙ c.if-not-fired.false)

pub returns-clause-none : goal.returns-clause-none
returns-clause-none c e i l = c.loop-child.invariant i (omega (arith, l, c.loop-child-test.false, c.len-child-end.ensures, c.self.inside.fired.ok.0, c.self.invariant.fired, ap (λ (s : TickState Token). length s.plan.net.places) c.self.view_is))
