use Rattle.std.proofs.Common.{◌≡◌, ◌+◌, ◌-◌, ◌*◌, ◌/◌, ◌<◌, ℕ, None, length, set, drop, refl, sym, ap, subst, ◌∙◌, arith}
use Rattle.std.proofs.lemmas.Grind.{get_or-set_at}
use Rattle.std.proofs.lemmas.List.{get_or_read}
use Rattle.pt_meaning.specs.Tag.{earlier}
use Rattle.pt_wakes.specs.Nodes.{node, below, IsTreeBut, settled}
use Rattle.pt_wakes.proofs.NodeLaws.{drop-before, beside-below, settled-up, settled-whole}
use Rattle.pt_wakes.proofs.nodes.settle_above.Goals as goal

pub returns-then-is_same-clause-tree : goal.returns-then-is_same-clause-tree
returns-then-is_same-clause-tree c =
    let p : ℕ = c.loop-p.p in
    let h : ℕ = p / 2 in
    let k : ℕ = 4 * h + 1 - p in
    let nodes = c.loop-p.nodes.items in
    let beside : c.index-beside.result.now ≡ node nodes k = get_or_read nodes k c.index-beside.result.now (omega (arith, c.loop-p.invariant.within, c.loop-p.invariant.tree.len, c.loop-p-test.true)) c.index-beside.ensures None in
    let before : c.index-before.result.now ≡ node nodes h = get_or_read nodes h c.index-before.result.now (omega (arith, c.loop-p.invariant.within, c.loop-p.invariant.tree.len)) c.index-before.ensures None in
    let lesser : c.earlier-least.result ≡ below nodes h =
    c.earlier-least.ensures ∙ ap (earlier c.loop-p.least) beside ∙ ap (λ w. earlier w (node nodes k)) (sym c.loop-p.invariant.least) ∙ beside-below p nodes c.loop-p-test.true in
    settled-whole p c.args.leaves nodes c.loop-p.invariant.tree (sym before ∙ sym (c.is_same.ensures c.if-is_same.true) ∙ lesser)

pub loop-p-preserved : goal.loop-p-preserved
loop-p-preserved c =
    let p : ℕ = c.loop-p.p in
    let h : ℕ = p / 2 in
    let k : ℕ = 4 * h + 1 - p in
    let nodes = c.loop-p.nodes.items in
    let there : h < length nodes = omega (arith, c.loop-p.invariant.within, c.loop-p.invariant.tree.len) in
    let beside : c.index-beside.result.now ≡ node nodes k = get_or_read nodes k c.index-beside.result.now (omega (arith, c.loop-p.invariant.within, c.loop-p.invariant.tree.len, c.loop-p-test.true)) c.index-beside.ensures None in
    let lesser : c.earlier-least.result ≡ below nodes h =
    c.earlier-least.ensures ∙ ap (earlier c.loop-p.least) beside ∙ ap (λ w. earlier w (node nodes k)) (sym c.loop-p.invariant.least) ∙ beside-below p nodes c.loop-p-test.true in
    let s = ap (λ w. set nodes h w) lesser in
    record {
      above = omega (arith, c.loop-p-test.true);
      within = omega (arith, c.loop-p.invariant.within);
      tree = subst (λ v. IsTreeBut h c.args.leaves v) (sym s) (settled-up p c.args.leaves nodes c.loop-p-test.true c.loop-p.invariant.within c.loop-p.invariant.tree);
      least = ap (λ v. node v h) s ∙ get_or-set_at nodes h h (below nodes h) None refl there ∙ sym lesser;
      leaves = ap (drop c.args.leaves) s ∙ drop-before nodes c.args.leaves h (below nodes h) (omega (arith, c.loop-p.invariant.within, c.loop-p-test.true)) ∙ c.loop-p.invariant.leaves;
    }
