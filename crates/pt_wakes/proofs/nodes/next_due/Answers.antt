use Rattle.std.proofs.Common.{◌≡◌, ◌+◌, ◌/◌, ℕ, ltb, refl, sym, ap, ◌∙◌, None, arith, inl, inr}
use Rattle.std.proofs.lemmas.Bool.{ltb-true, ltb-false}
use Rattle.std.proofs.lemmas.List.{get_or_read}
use Rattle.pt_meaning.specs.Tag.{is_due}
use Rattle.pt_wakes.specs.Nodes.{node}
use Rattle.pt_wakes.proofs.WalkLaws.{up-right, up-none, and-left, and-false}
use Rattle.pt_wakes.proofs.nodes.next_due.Goals as goal

pub loop-p-preserved : goal.loop-p-preserved
loop-p-preserved c =
    let p : ℕ = c.loop-p.p in
    let q : ℕ = p / 2 + p / 2 + 1 in
    let read : c.index-nodes-right.result ≡ node c.args.nodes.now q = get_or_read c.args.nodes.now q c.index-nodes-right.result (omega (arith, c.requires.len, c.loop-p.invariant.within)) c.index-nodes-right.is None in
    record {
      within = omega (arith, c.loop-p.invariant.within);
      next =
          up-none c.args.tag c.args.leaves c.args.nodes.now p (p / 2) q refl c.loop-p-test.true refl (elim (and-false (ltb p q) c.is_due.result c.if-p-right.false) [
            | inl e ↦ inl (ltb-false p q e)
            | inr e ↦ inr (sym (c.is_due.ensures ∙ ap (is_due c.args.tag) read) ∙ e)
          ]) ∙ c.loop-p.invariant.next;
    }

pub returns-then-p-right-clause-next : goal.returns-then-p-right-clause-next
returns-then-p-right-clause-next c =
    let p : ℕ = c.loop-p.p in
    let q : ℕ = p / 2 + p / 2 + 1 in
    up-right c.args.tag c.args.leaves c.args.nodes.now p (p / 2) q refl c.loop-p-test.true refl (ltb-true p q (and-left (ltb p q) c.is_due.result c.if-p-right.true)) ∙ c.loop-p.invariant.next
