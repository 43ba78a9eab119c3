use Rattle.std.proofs.Common.{◌≡◌, ◌∙◌, ◌+◌, length, sym, subst, take, arith}
use Rattle.pt_trees.specs.Rates.{HaveRates}
use Rattle.pt_inside.proofs.LoopLaws.{rates-more, rates-none, started-at}
use Rattle.pt_trees.proofs.NodeLaws.{trees}
use Rattle.pt_inside.proofs.rates.rates_of.Goals as goal

pub rates_at-requires : goal.rates_at-requires
rates_at-requires c = started-at c.args.children.now c.loop-child.child-index c.child-item.result c.loop-child-test.true c.child-item.is c.requires

pub returns-in_default : goal.returns-in_default
returns-in_default c =
    let many : c.len-number.result ≡ length c.loop-child.rates.items = omega (arith, c.len-number.ensures, c.loop-child.rates.ok.0) in
    rates-none c.args.declared.now c.args.children.now c.loop-child.child-index c.child-item.result c.loop-child.rates.items c.len-number.result c.loop-child-test.true c.child-item.is c.loop-child.invariant many (sym c.in_default.is ∙ c.in_ok-given.ensures)

pub loop-child-preserved : goal.loop-child-preserved
loop-child-preserved c =
    let many : c.len-number.result ≡ length c.loop-child.rates.items = omega (arith, c.len-number.ensures, c.loop-child.rates.ok.0) in
    subst (λ v. HaveRates c.args.declared.now (trees (take (c.loop-child.child-index + 1) c.args.children.now)) v) (sym c.in_ok-push.ensures.items)
    (rates-more c.args.declared.now c.args.children.now c.loop-child.child-index c.child-item.result c.loop-child.rates.items c.len-number.result c.in-Some.given c.loop-child-test.true c.child-item.is c.loop-child.invariant many (sym c.in-Some.is ∙ c.in_ok-given.ensures))
