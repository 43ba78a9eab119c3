-- Children with numbers, one by one, and the nodes within a node.
use Rattle.std.proofs.Common.{◌≡◌, ◌⊎◌, inl, inr, ℕ, zero, suc, ◌+◌, ◌<◌, ◌≤◌, min, max, List, [], ◌∷◌, ◌++◌, map, length, drop, get_or, refl, sym, ap, ap₂, subst, ◌∙◌, append_assoc, append-nil, arith}
use Rattle.std.specs.Prelude.{zip}
use Rattle.pt_node.specs.declared.node.Node.{Node}
use Rattle.pt_node.specs.declared.body.Body.{Body}
use Rattle.pt_node.specs.Shown.{Shown, shown, shown_node, all_of}
use Rattle.pt_node.specs.View.{depth, depths, outline_of, outlines_of}
use Rattle.pt_node.proofs.Link.{shown-node}
use Rattle.pt_check.specs.Children.{path_of, paths_of, told_in, told_below}
use Rattle.pt_check.proofs.TypeLaws.{drop-at, drop-past}

-- the children from number k on
abbrev pub from_child : List Node → ℕ → List Shown
from_child items k = map shown (drop k items)

child-next : (items : List Node) (k : ℕ) (d : Node) → k < length items → d ≡ get_or items k d → from_child items k ≡ shown_node d ∷ from_child items (k + 1)
child-next items k d short is = ap (λ v. map shown v) (drop-at items k d short is) ∙ ap (λ v. v ∷ from_child items (k + 1)) (shown-node d)

-- a child is less deep than its node
pub child-depth : (items : List Node) (k : ℕ) (d : Node) → k < length items → d ≡ get_or items k d → depth (outline_of (shown_node d)) ≤ depths (outlines_of (all_of (map shown items)))
child-depth [] k d short is = absurd (omega (arith, short))
child-depth (x ∷ xs) zero d short is = let same : shown x ≡ shown_node d = ap (λ v. shown v) (sym is) ∙ shown-node d in subst (λ s. depth (outline_of s) ≤ max (depth (outline_of (shown x))) (depths (outlines_of (all_of (map shown xs))))) same (omega arith)
child-depth (x ∷ xs) (suc k) d short is = let h = child-depth xs k d (omega (arith, short)) is in omega (arith, h)

-- what is told within the children from number k on
abbrev pub left_of : (Body → List ℕ) → List Node → ℕ → List (List ℕ × ℕ)
left_of numbers items k = told_below numbers (all_of (from_child items k))

left-step : (numbers : Body → List ℕ) (items : List Node) (k : ℕ) (d : Node) → k < length items → d ≡ get_or items k d → left_of numbers items k ≡ told_in numbers (shown_node d) ++ left_of numbers items (k + 1)
left-step numbers items k d short is = ap (λ v. told_below numbers (all_of v)) (child-next items k d short is)

pub child-told : (numbers : Body → List ℕ) (items : List Node) (k : ℕ) (d : Node) (had has whole : List (List ℕ × ℕ)) → k < length items → d ≡ get_or items k d → has ≡ had ++ told_in numbers (shown_node d) → had ++ left_of numbers items k ≡ whole → has ++ left_of numbers items (k + 1) ≡ whole
child-told numbers items k d had has whole short is put h = ap (λ zs. zs ++ left_of numbers items (k + 1)) put ∙ append_assoc had (told_in numbers (shown_node d)) (left_of numbers items (k + 1)) ∙ ap (λ r. had ++ r) (sym (left-step numbers items k d short is)) ∙ h

-- ---- children with numbers

-- those from number k on
abbrev pub paired : List Node → List ℕ → ℕ → List (List ℕ × ℕ)
paired items ns k = zip (paths_of (all_of (from_child items k))) (drop k ns)

pair-next : (items : List Node) (ns : List ℕ) (k : ℕ) (d : Node) (n : ℕ) → k < length items → k < length ns → d ≡ get_or items k d → n ≡ get_or ns k n → paired items ns k ≡ (path_of (shown_node d), n) ∷ paired items ns (k + 1)
pair-next items ns k d n short few is number = ap₂ (λ ss ms. zip (paths_of (all_of ss)) ms) (child-next items k d short is) (drop-at ns k n few number)

pub pair-told : (items : List Node) (ns : List ℕ) (k : ℕ) (d : Node) (n : ℕ) (had has whole : List (List ℕ × ℕ)) → k < length items → k < length ns → d ≡ get_or items k d → n ≡ get_or ns k n → has ≡ had ++ (path_of (shown_node d), n) ∷ [] → had ++ paired items ns k ≡ whole → has ++ paired items ns (k + 1) ≡ whole
pair-told items ns k d n had has whole short few is number put h =
    let one = (path_of (shown_node d), n) ∷ [] in
    ap (λ zs. zs ++ paired items ns (k + 1)) put ∙ append_assoc had one (paired items ns (k + 1)) ∙ ap (λ r. had ++ r) (sym (pair-next items ns k d n short few is number)) ∙ h

-- no number is left for any path
unpaired : (ps : List (List ℕ)) → zip {X = ℕ} ps [] ≡ []
unpaired [] = refl
unpaired (p ∷ ps) = refl

none-left : (ss : List Shown) (ns : List ℕ) → (ss ≡ []) ⊎ (ns ≡ []) → zip (paths_of (all_of ss)) ns ≡ []
none-left ss ns (inl e) = ap (λ v. zip (paths_of (all_of v)) ns) e
none-left ss ns (inr e) = ap (λ v. zip (paths_of (all_of ss)) v) e ∙ unpaired (paths_of (all_of ss))

pub pairs-told : (items : List Node) (ns : List ℕ) (k : ℕ) (had whole : List (List ℕ × ℕ)) → k ≡ min (length items) (length ns) → had ++ paired items ns k ≡ whole → had ≡ whole
pairs-told items ns k had whole end h =
    let past : (length items ≤ k) ⊎ (length ns ≤ k) = grind (arith, end) in
    let none : paired items ns k ≡ [] = none-left (from_child items k) (drop k ns) (elim past as (λ o. (from_child items k ≡ []) ⊎ (drop k ns ≡ [])) [ inl p ↦ inl (ap (λ v. map shown v) (drop-past items k p)) | inr p ↦ inr (drop-past ns k p) ]) in
    sym (append-nil had) ∙ ap (λ v. had ++ v) (sym none) ∙ h
