use Rattle.std.proofs.Common.{ℕ, List, sym, subst}
use Rattle.pt_sched.specs.Lists.{AreAt}
use Rattle.pt_sched.specs.declared.lists.Side.TheVariants.{End}
use Rattle.pt_sched.proofs.Listing.{listed-inside}
use Rattle.pt_sched.proofs.search.is_ready.Goals as goal

pub has_tokens-requires-clause-inside : goal.has_tokens-requires-clause-inside
has_tokens-requires-clause-inside c =
    listed-inside End c.args.channels.now c.args.child c.numbers_at.result.now (subst (λ (numbers : List ℕ). AreAt End c.args.channels.now c.args.child numbers) (sym c.numbers_at.ensures) (c.requires.ins.lists_at c.args.child c.if-child-q.false))

pub returns : goal.returns
returns c =
    let at = subst (λ (numbers : List ℕ). AreAt End c.args.channels.now c.args.child numbers) (sym c.numbers_at.ensures) (c.requires.ins.lists_at c.args.child c.if-child-q.false) in
    let tokens = c.has_tokens.ensures c.args.child at in
    ((λ yes. (c.if-fired-child.false, tokens.0 yes)), λ ready. tokens.1 ready.1)
