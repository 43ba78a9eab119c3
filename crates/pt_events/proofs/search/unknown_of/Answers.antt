use Rattle.std.proofs.Common.{◌≡◌, true, subst, rules}
use Rattle.std.proofs.lemmas.List.{take_all}
use Rattle.std.proofs.lemmas.List.Elements.{All-more}
use Rattle.pt_events.specs.Found.{AreKnown, is_known}
use Rattle.pt_events.proofs.search.unknown_of.Goals as goal

pub loop-child-preserved : goal.loop-child-preserved
loop-child-preserved c =
    All-more (λ child. is_known c.args.known.now child ≡ true) c.args.children.now c.loop-child.child-index 0 c.loop-child-test.true c.loop-child.invariant (search rules)

pub returns : goal.returns
returns c = subst (AreKnown c.args.known.now) (take_all c.loop-child.child-index c.args.children.now c.loop-child-test.false) c.loop-child.invariant
