use Rattle.std.proofs.Common.{◌≡◌, ◌<◌, ◌-◌, ◌∷◌, ℕ, List, Option, true, None, length, length-set, set, refl, sym, ap, subst, ◌∙◌, arith}
use Rattle.std.proofs.lemmas.List.{get_or_read, length-drop}
use Rattle.pt_meaning.specs.Tag.{Tag, is_due}
use Rattle.pt_wakes.specs.Nodes.{node}
use Rattle.pt_wakes.specs.Walk.{remaining, behind, marked}
use Rattle.pt_wakes.specs.Moved.{woken}
use Rattle.pt_wakes.proofs.NodeLaws.{none-under, no-leaf, positive}
use Rattle.pt_wakes.proofs.MovedLaws.{with-none}
use Rattle.pt_wakes.proofs.WalkLaws.{all-marked}
use Rattle.pt_wakes.proofs.moved.wake_due.Goals.{then-wakes-eq0-via-then-wakes-eq0, then-wakes-eq0-via-else-wakes-eq0+then-not-is_due}
use Rattle.pt_wakes.proofs.moved.wake_due.Goals as goal

pub returns-then-wakes-eq0 : goal.returns-then-wakes-eq0
returns-then-wakes-eq0 c = sym (with-none c.args.tag c.args.wakes.now c.args.children.now c.requires (elim c.then-wakes-eq0.branch [
  | then-wakes-eq0-via-then-wakes-eq0 w ↦ no-leaf c.args.tag c.wakes.inside.leaves c.wakes.inside.nodes.items c.args.wakes.now c.wakes.invariant.len c.wakes.view_is w.if-wakes-eq0.true
  | then-wakes-eq0-via-else-wakes-eq0+then-not-is_due w ↦
      let p = positive c.wakes.inside.leaves w.if-wakes-eq0.false in
      let e : w.index.result.now ≡ node c.wakes.inside.nodes.items 1 = get_or_read c.wakes.inside.nodes.items 1 w.index.result.now (omega (arith, p, c.wakes.invariant.len)) w.index.ensures None in
      none-under c.args.tag c.wakes.inside.leaves c.wakes.inside.nodes.items c.args.wakes.now c.wakes.invariant c.wakes.view_is p (ap (is_due c.args.tag) (sym e) ∙ sym w.is_due.ensures ∙ w.if-not-is_due.true)
]))

pub loop-p-init : goal.loop-p-init
loop-p-init c =
    let p : 0 < c.wakes.inside.leaves = positive c.wakes.inside.leaves c.if-wakes-eq0.false in
    let e : c.index.result.now ≡ node c.wakes.inside.nodes.items 1 = get_or_read c.wakes.inside.nodes.items 1 c.index.result.now (omega (arith, p, c.wakes.invariant.len)) c.index.ensures None in
    let l = ap length (sym c.wakes.view_is) ∙ length-drop c.wakes.inside.leaves c.wakes.inside.nodes.items in
    record {
      within = omega (arith, p);
      due = λ o. ap (is_due c.args.tag) (sym e) ∙ sym c.is_due.ensures ∙ c.if-not-is_due.false;
      wide = omega (arith, c.requires, l, c.wakes.invariant.len);
      depths = refl;
      marked = refl;
    }

pub loop-p-preserved : goal.loop-p-preserved
loop-p-preserved c =
    let n : ℕ = c.wakes.inside.leaves in
    let nodes : List (Option Tag) = c.wakes.inside.nodes.items in
    let q : ℕ = c.due_leaf-leaf.result in
    let first : remaining c.args.tag n nodes c.loop-p.p ≡ q ∷ behind c.args.tag n nodes q = subst (λ v. remaining c.args.tag n v c.loop-p.p ≡ q ∷ behind c.args.tag n v q) c.deref.ensures.value c.due_leaf-leaf.ensures.first in
    let next : remaining c.args.tag n nodes c.next_due-p.result ≡ behind c.args.tag n nodes q = subst (λ v. remaining c.args.tag n v c.next_due-p.result ≡ behind c.args.tag n v q) c.deref-in-loop-p.ensures.value c.next_due-p.ensures.next in
    record {
      within = c.next_due-p.ensures.there;
      due = subst (λ v. 0 < c.next_due-p.result → is_due c.args.tag (node v c.next_due-p.result) ≡ true) c.deref-in-loop-p.ensures.value c.next_due-p.ensures.due;
      wide = ap (λ s. length s.due) c.insert.ensures ∙ length-set c.loop-p.children.due (q - n) true ∙ c.loop-p.invariant.wide;
      depths = ap (λ s. s.depths) c.insert.ensures ∙ c.loop-p.invariant.depths;
      marked =
          ap (λ s. marked n (remaining c.args.tag n nodes c.next_due-p.result) s.due) c.insert.ensures ∙ ap (λ xs. marked n xs (set c.loop-p.children.due (q - n) true)) next ∙ sym (ap (λ xs. marked n xs c.loop-p.children.due) first) ∙ c.loop-p.invariant.marked;
    }

pub loop-p-smaller : goal.loop-p-smaller
loop-p-smaller c =
    let n : ℕ = c.wakes.inside.leaves in
    let nodes : List (Option Tag) = c.wakes.inside.nodes.items in
    let q : ℕ = c.due_leaf-leaf.result in
    let first : remaining c.args.tag n nodes c.loop-p.p ≡ q ∷ behind c.args.tag n nodes q = subst (λ v. remaining c.args.tag n v c.loop-p.p ≡ q ∷ behind c.args.tag n v q) c.deref.ensures.value c.due_leaf-leaf.ensures.first in
    let next : remaining c.args.tag n nodes c.next_due-p.result ≡ behind c.args.tag n nodes q = subst (λ v. remaining c.args.tag n v c.next_due-p.result ≡ behind c.args.tag n v q) c.deref-in-loop-p.ensures.value c.next_due-p.ensures.next in
    let a = ap length first in
    let b = ap length next in
    let s : length (remaining c.args.tag n nodes c.next_due-p.result) < length (remaining c.args.tag n nodes c.loop-p.p) = omega (arith, a, b) in
    s

pub returns : goal.returns
returns c =
    let n : ℕ = c.wakes.inside.leaves in
    let nodes : List (Option Tag) = c.wakes.inside.nodes.items in
    let p : 0 < n = positive n c.if-wakes-eq0.false in
    let e : 0 ≡ c.loop-p.p = omega (arith, c.loop-p-test.false) in
    let due : c.loop-p.children.due ≡ woken c.args.tag c.args.wakes.now c.args.children.now.due =
    ap (λ k. marked n (remaining c.args.tag n nodes k) c.loop-p.children.due) e ∙ c.loop-p.invariant.marked ∙ all-marked c.args.tag n nodes c.args.wakes.now c.args.children.now.due c.wakes.invariant c.wakes.view_is c.requires p in
    λ i. record { depths = c.loop-p.invariant.depths i; due = due i }
