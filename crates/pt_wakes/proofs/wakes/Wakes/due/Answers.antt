use Rattle.std.proofs.Common.{◌≡◌, None, sym, ap, ◌∙◌, arith}
use Rattle.std.proofs.lemmas.List.{get_or_read}
use Rattle.pt_meaning.specs.Tag.{is_due}
use Rattle.pt_wakes.specs.Nodes.{node}
use Rattle.pt_wakes.proofs.NodeLaws.{none-under, no-leaf, leaf-due, positive}
use Rattle.pt_wakes.proofs.wakes.Wakes.due.Goals.{then-self-eq0-via-then-self-eq0, then-self-eq0-via-else-self-eq0+then-not-is_due}
use Rattle.pt_wakes.proofs.wakes.Wakes.due.Goals as goal

pub returns-then-self-eq0-clause-none : goal.returns-then-self-eq0-clause-none
returns-then-self-eq0-clause-none c = elim c.then-self-eq0.branch [
  | then-self-eq0-via-then-self-eq0 w ↦ no-leaf c.args.tag c.self.inside.leaves c.self.inside.nodes.items c.args.self.now c.self.invariant.len c.self.view_is w.if-self-eq0.true
  | then-self-eq0-via-else-self-eq0+then-not-is_due w ↦
      let p = positive c.self.inside.leaves w.if-self-eq0.false in
      let e : w.index.result.now ≡ node c.self.inside.nodes.items 1 = get_or_read c.self.inside.nodes.items 1 w.index.result.now (omega (arith, p, c.self.invariant.len)) w.index.ensures None in
      none-under c.args.tag c.self.inside.leaves c.self.inside.nodes.items c.args.self.now c.self.invariant c.self.view_is p (ap (is_due c.args.tag) (sym e) ∙ sym w.is_due.ensures ∙ w.if-not-is_due.true)
]

pub returns-clause-some : goal.returns-clause-some
returns-clause-some c =
    leaf-due c.args.tag c.self.inside.leaves c.self.inside.nodes.items c.args.self.now c.due_leaf.result c.self.invariant.len c.self.view_is c.due_leaf.ensures.leaf c.due_leaf.ensures.there (ap (λ v. is_due c.args.tag (node v c.due_leaf.result)) (sym c.deref.ensures.value) ∙ c.due_leaf.ensures.due)
