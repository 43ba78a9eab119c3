use Rattle.std.proofs.Common.{◌≡◌, ℕ, ◌<◌, ◌≤◌, Some, None, sym, ap, ap₂, set, ◌∙◌, arith, subst, if◌then◌else◌, length, get_or, ◌++◌, ◌∷◌, [], List}
use Rattle.std.proofs.lemmas.Bool.{le-ltb}
use Rattle.std.proofs.lemmas.List.{get_or_default}
use Rattle.pt_wiring.specs.Children.{AreChildren}
use Rattle.pt_net.specs.Inside.{is_number, number_among, children_of}
use Rattle.pt_wiring.proofs.ChildLaws.{not-added, added, not-same}
use Rattle.pt_wiring.proofs.children.add_child.Goals as goal

pub returns-in_default : goal.returns-in_default
returns-in_default c = λ count es e numbers are long is.
    let top : e.parent ≡ None = is ∙ c.in_default.is in
    not-added count es e _ numbers are (λ d h. ap (λ o. is_number d o) top) (ap (λ o. number_among es count o) top)

pub returns-then-composite-len : goal.returns-then-composite-len
returns-then-composite-len c = λ count es e numbers are long is.
    let p : ℕ = c.in-Some.composite in
    let within : e.parent ≡ Some p = is ∙ c.in-Some.is in
    let far : count ≤ p = omega (arith, c.if-composite-len.true, c.len.ensures, are.counted) in
    not-added count es e _ numbers are (λ d h. ap (λ o. is_number d o) within ∙ not-same p d (λ q. omega (arith, q, h, far))) (ap (λ o. number_among es count o) within ∙ ap (λ b. if b then length (children_of es p) else 0) (le-ltb p count far))

pub returns : goal.returns
returns c = λ count es e numbers are long is.
    let p : ℕ = c.in-Some.composite in
    let lists : List (List ℕ) = c.args.lists.now.items in
    let there : p < count = omega (arith, c.if-composite-len.false, c.len.ensures, are.counted) in
    let within : p < length lists = omega (arith, there, are.counted) in
    let read : c.index.result.now ≡ get_or lists p [] = c.index.ensures ∙ get_or_default lists p c.index.result.now [] within in
    let written : c.index_mut.result.now ≡ get_or lists p [] = c.index_mut.ensures.value ∙ get_or_default lists p c.index_mut.result.now [] within in
    let after : c.push.new.self ≡ get_or lists p [] ++ length es ∷ [] = c.in_ok-push.ensures ∙ ap₂ (λ xs n. xs ++ n ∷ []) written (sym long) in
    let number : c.len-number.result ≡ length (get_or lists p []) = c.len-number.ensures ∙ ap length read in
    subst (λ n. AreChildren count (es ++ e ∷ []) (set lists p c.push.new.self) (numbers ++ n ∷ [])) (sym number) (added count es e lists numbers p c.push.new.self are there (is ∙ c.in-Some.is) after)
