-- The numbers of recorded outputs, entity by entity.
use Rattle.std.proofs.Common.{◌≡◌, ℕ, suc, ◌+◌, ◌<◌, ◌≤◌, List, [], ◌∷◌, ◌++◌, Bool, true, false, length, get_or, set, nat_eq, refl, sym, ap, ◌∙◌, subst, arith, inl, inr, append-nil, get_or-set_same, get_or-set_other, length-set}
use Rattle.std.proofs.lemmas.Bool.{cases_order, eq-eqb}
use Rattle.pt_net.specs.declared.net.NetPort.{NetPort}
use Rattle.pt_net.specs.Inside.{child_if}
use Rattle.pt_wiring.proofs.ChildLaws.{not-same}
use Rattle.pt_trees.specs.Recorded.{numbers_from, numbers_at, AreRecordLists}

number_if-append : (b : Bool) (i : ℕ) (xs ys : List ℕ) → child_if b i (xs ++ ys) ≡ child_if b i xs ++ ys
number_if-append true i xs ys = refl
number_if-append false i xs ys = refl

snoc-from : (k i : ℕ) (ports : List NetPort) (port : NetPort) (n : ℕ) → n ≡ i + length ports → numbers_from k i (ports ++ port ∷ []) ≡ numbers_from k i ports ++ child_if (nat_eq port.entity k) n []
snoc-from k i [] port n h = let same : n ≡ i = omega (arith, h) in ap (λ m. child_if (nat_eq port.entity k) m []) (sym same)
snoc-from k i (x ∷ ports) port n h =
    let more : n ≡ suc i + length ports = omega (arith, h) in
    ap (λ xs. child_if (nat_eq x.entity k) i xs) (snoc-from k (suc i) ports port n more) ∙ number_if-append (nat_eq x.entity k) i (numbers_from k (suc i) ports) (child_if (nat_eq port.entity k) n [])

numbers-snoc : (k : ℕ) (ports : List NetPort) (port : NetPort) → numbers_at k (ports ++ port ∷ []) ≡ numbers_at k ports ++ child_if (nat_eq port.entity k) (length ports) []
numbers-snoc k ports port = snoc-from k 0 ports port (length ports) (omega arith)

-- the port of an entity that isn't there
pub number-passed : (count : ℕ) (ports : List NetPort) (port : NetPort) (lists : List (List ℕ)) → AreRecordLists count ports lists → count ≤ port.entity → AreRecordLists count (ports ++ port ∷ []) lists
number-passed count ports port lists are far = record {
  counted = are.counted;
  listed = λ k h. are.listed k h ∙ sym (append-nil (numbers_at k ports)) ∙ sym (ap (λ b. numbers_at k ports ++ child_if b (length ports) []) (not-same port.entity k (λ q. omega (arith, q, h, far)))) ∙ sym (numbers-snoc k ports port);
}

-- the port of entity p
pub number-added : (count : ℕ) (ports : List NetPort) (port : NetPort) (lists : List (List ℕ)) (p : ℕ) (after : List ℕ) → AreRecordLists count ports lists → p < count → port.entity ≡ p → after ≡ get_or lists p [] ++ length ports ∷ [] →
    AreRecordLists count (ports ++ port ∷ []) (set lists p after)
number-added count ports port lists p after are there is appended = record {
  counted = length-set lists p after ∙ are.counted;
  listed = λ k h. elim (cases_order k p) [
    | inl same ↦ (let P : ℕ → Type 0 = λ d. get_or (set lists p after) d [] ≡ numbers_at d (ports ++ port ∷ []) in subst P (sym same) here)
    | inr other ↦ elsewhere k h (elim other as (λ o. k ≡ p → ⊥) [ inl below ↦ (λ q. omega (arith, below, q)) | inr above ↦ (λ q. omega (arith, above, q)) ])
  ];
}
  where
    within : p < length lists
    within = omega (arith, there, are.counted)

    here : get_or (set lists p after) p [] ≡ numbers_at p (ports ++ port ∷ [])
    here = get_or-set_same lists p after [] within ∙ appended ∙ ap (λ xs. xs ++ length ports ∷ []) (are.listed p there) ∙ sym (ap (λ b. numbers_at p ports ++ child_if b (length ports) []) (eq-eqb port.entity p is)) ∙ sym (numbers-snoc p ports port)

    elsewhere : (k : ℕ) → k < count → (k ≡ p → ⊥) → get_or (set lists p after) k [] ≡ numbers_at k (ports ++ port ∷ [])
    elsewhere k h ne = get_or-set_other lists p k after [] ne ∙ are.listed k h ∙ sym (append-nil (numbers_at k ports)) ∙ sym (ap (λ b. numbers_at k ports ++ child_if b (length ports) []) (not-same port.entity k (λ q. ne (sym q ∙ is)))) ∙ sym (numbers-snoc k ports port)
