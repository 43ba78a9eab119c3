use Rattle.std.proofs.Common.{◌≡◌, ◌+◌, ◌-◌, [], ◌∷◌, ◌++◌, take, true, false, sym, ap, ◌∙◌, arith, bytes_eq}
use Rattle.std.proofs.lemmas.List.{take_more}
use Rattle.serde_json.specs.Find.{get_member}
use Rattle.pt_json.specs.View.{members_view}
use Rattle.pt_json.proofs.Views.{members_view-none, found_last, found_before}
use Rattle.pt_json.proofs.value.last_of.Goals as goal

pub returns-then-eq : goal.returns-then-eq
returns-then-eq c =
    let xs = c.args.members.now in
    let i = c.loop-left.left - 1 in
    let m = c.index-members-left.result in
    let name = c.args.name.now in
    let next : c.loop-left.left ≡ i + 1 = omega arith in
    let front : take c.loop-left.left xs ≡ take i xs ++ m ∷ [] = ap (λ k. take k xs) next ∙ take_more xs i m (omega arith) ∙ ap (λ y. take i xs ++ y ∷ []) (sym c.index-members-left.is) in
    let same : bytes_eq m.0.now name ≡ true = grind arith in
    sym (c.loop-left.invariant.0 ∙ ap (λ ys. get_member name (members_view ys)) front ∙ found_last name (take i xs) m same)

pub loop-left-preserved : goal.loop-left-preserved
loop-left-preserved c =
    let xs = c.args.members.now in
    let i = c.loop-left.left - 1 in
    let m = c.index-members-left.result in
    let name = c.args.name.now in
    let next : c.loop-left.left ≡ i + 1 = omega arith in
    let front : take c.loop-left.left xs ≡ take i xs ++ m ∷ [] = ap (λ k. take k xs) next ∙ take_more xs i m (omega arith) ∙ ap (λ y. take i xs ++ y ∷ []) (sym c.index-members-left.is) in
    let other : bytes_eq m.0.now name ≡ false = grind arith in
    (c.loop-left.invariant.0 ∙ ap (λ ys. get_member name (members_view ys)) front ∙ found_before name (take i xs) m other, omega arith)

pub returns : goal.returns
returns c =
    let xs = c.args.members.now in
    let name = c.args.name.now in
    let none : c.loop-left.left ≡ 0 = omega arith in
    sym (c.loop-left.invariant.0 ∙ ap (λ k. get_member name (members_view (take k xs))) none ∙ ap (get_member name) members_view-none)
