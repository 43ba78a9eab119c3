-- One entity more among the children.
use Rattle.std.proofs.Common.{◌≡◌, ℕ, suc, ◌+◌, ◌<◌, List, [], ◌∷◌, ◌++◌, Bool, true, false, Some, length, get_or, set, nat_eq, if◌then◌else◌, refl, sym, ap, ◌∙◌, subst, arith, length-append, append-nil, get_or-set_same, get_or-set_other, inl, inr, length-set}
use Rattle.std.proofs.lemmas.Bool.{lt-ltb, cases_order, eq-eqb, eqb-true}
use Rattle.pt_net.specs.declared.net.NetEntity.{NetEntity}
use Rattle.pt_net.specs.Inside.{is_child, is_number, child_if, children_from, children_of, number_among, parent_of}
use Rattle.pt_wiring.specs.Children.{AreChildren}
use Rattle.pt_wiring.proofs.Numbered.{each-more}

child_if-append : (b : Bool) (i : ℕ) (xs ys : List ℕ) → child_if b i (xs ++ ys) ≡ child_if b i xs ++ ys
child_if-append true i xs ys = refl
child_if-append false i xs ys = refl

snoc-from : (c i : ℕ) (es : List NetEntity) (e : NetEntity) (n : ℕ) → n ≡ i + length es → children_from c i (es ++ e ∷ []) ≡ children_from c i es ++ child_if (is_child c e) n []
snoc-from c i [] e n h = let same : n ≡ i = omega (arith, h) in ap (λ m. child_if (is_child c e) m []) (sym same)
snoc-from c i (x ∷ es) e n h =
    let more : n ≡ suc i + length es = omega (arith, h) in
    ap (λ xs. child_if (is_child c x) i xs) (snoc-from c (suc i) es e n more) ∙ child_if-append (is_child c x) i (children_from c (suc i) es) (child_if (is_child c e) n [])

pub children-snoc : (c : ℕ) (es : List NetEntity) (e : NetEntity) → children_of (es ++ e ∷ []) c ≡ children_of es c ++ child_if (is_child c e) (length es) []
children-snoc c es e = snoc-from c 0 es e (length es) (omega arith)

pub not-same : (a b : ℕ) → (a ≡ b → ⊥) → nat_eq a b ≡ false
not-same a b ne = decided (nat_eq a b) refl
  where
    decided : (t : Bool) → nat_eq a b ≡ t → nat_eq a b ≡ false
    decided false is = is
    decided true is = absurd (ne (eqb-true a b is))

-- an entity that isn't a child of any composite that is there
pub not-added : (count : ℕ) (es : List NetEntity) (e : NetEntity) (lists : List (List ℕ)) (numbers : List ℕ) → AreChildren count es lists numbers →
    ((c : ℕ) → c < count → is_child c e ≡ false) → number_among es count e.parent ≡ 0 → AreChildren count (es ++ e ∷ []) lists (numbers ++ 0 ∷ [])
not-added count es e lists numbers are none zero-is = record {
  counted = are.counted;
  listed = λ c h. are.listed c h ∙ sym (append-nil (children_of es c)) ∙ sym (ap (λ b. children_of es c ++ child_if b (length es) []) (none c h)) ∙ sym (children-snoc c es e);
  numbered = length-append numbers (0 ∷ []) ∙ ap (λ n. n + 1) are.numbered ∙ sym (length-append es (e ∷ []));
  each = each-more (λ before x. number_among before count (parent_of x)) es e numbers 0 are.numbered are.each (sym zero-is);
}

-- a child of the composite p
pub added : (count : ℕ) (es : List NetEntity) (e : NetEntity) (lists : List (List ℕ)) (numbers : List ℕ) (p : ℕ) (after : List ℕ) → AreChildren count es lists numbers →
    p < count → e.parent ≡ Some p → after ≡ get_or lists p [] ++ length es ∷ [] → AreChildren count (es ++ e ∷ []) (set lists p after) (numbers ++ length (get_or lists p []) ∷ [])
added count es e lists numbers p after are there is appended = record {
  counted = length-set lists p after ∙ are.counted;
  listed = λ c h. elim (cases_order c p) [ inl same ↦ (let P : ℕ → Type 0 = λ d. get_or (set lists p after) d [] ≡ children_of (es ++ e ∷ []) d in subst P (sym same) here) | inr other ↦ else_where c h (elim other as (λ o. c ≡ p → ⊥) [ inl below ↦ (λ q. omega (arith, below, q)) | inr above ↦ (λ q. omega (arith, above, q)) ]) ];
  numbered = length-append numbers (length (get_or lists p []) ∷ []) ∙ ap (λ n. n + 1) are.numbered ∙ sym (length-append es (e ∷ []));
  each = each-more (λ before x. number_among before count (parent_of x)) es e numbers (length (get_or lists p [])) are.numbered are.each number-is;
}
  where
    within : p < length lists
    within = omega (arith, there, are.counted)

    is-child : is_child p e ≡ true
    is-child = ap (λ o. is_number p o) is ∙ eq-eqb p p refl

    here : get_or (set lists p after) p [] ≡ children_of (es ++ e ∷ []) p
    here = get_or-set_same lists p after [] within ∙ appended ∙ ap (λ xs. xs ++ length es ∷ []) (are.listed p there) ∙ sym (ap (λ b. children_of es p ++ child_if b (length es) []) is-child) ∙ sym (children-snoc p es e)

    other-child : (c : ℕ) → (c ≡ p → ⊥) → is_child c e ≡ false
    other-child c ne = ap (λ o. is_number c o) is ∙ not-same p c (λ q. ne (sym q))

    else_where : (c : ℕ) → c < count → (c ≡ p → ⊥) → get_or (set lists p after) c [] ≡ children_of (es ++ e ∷ []) c
    else_where c h ne = get_or-set_other lists p c after [] ne ∙ are.listed c h ∙ sym (append-nil (children_of es c)) ∙ sym (ap (λ b. children_of es c ++ child_if b (length es) []) (other-child c ne)) ∙ sym (children-snoc c es e)

    number-is : length (get_or lists p []) ≡ number_among es count e.parent
    number-is = ap length (are.listed p there) ∙ sym (ap (λ b. if b then length (children_of es p) else 0) (lt-ltb p count there)) ∙ sym (ap (λ o. number_among es count o) is)
