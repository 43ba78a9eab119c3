-- The numbers of children in a composite.
use Rattle.std.proofs.Common.{◌≡◌, ℕ, zero, suc, ◌+◌, ◌≤◌, List, [], ◌∷◌, Bool, true, false, length, take, Option, Some, None, refl, sym, ap, subst, arith, ◌∙◌, slice_get, if◌then◌else◌}
use Rattle.std.proofs.lemmas.Bool.{eq-eqb, eqb-true, le-leb}
use Rattle.pt_meaning.specs.Streams.{get}
use Rattle.pt_net.specs.declared.net.NetEntity.{NetEntity}
use Rattle.pt_net.specs.Inside.{is_number, is_child, child_if, children_from, children_of, number_among, parent_of, child_number}

pub get-is : {X : Type 0} (xs : List X) (n : ℕ) → get xs n ≡ slice_get xs n
get-is [] n = refl
get-is (x ∷ xs) zero = refl
get-is (x ∷ xs) (suc n) = get-is xs n

skip-child : (b : Bool) (i m : ℕ) (ns ms : List ℕ) (r : Option ℕ) → get ns (length ms) ≡ r → get (child_if b i ns) (length (child_if b m ms)) ≡ r
skip-child true i m ns ms r h = h
skip-child false i m ns ms r h = h

first-child : (b : Bool) (i : ℕ) (ns : List ℕ) → b ≡ true → get (child_if b i ns) 0 ≡ Some i
first-child true i ns e = refl
first-child false i ns e = absurd (cc)

is-child : (c : ℕ) (e : NetEntity) → e.parent ≡ Some c → is_child c e ≡ true
is-child c e p = ap (λ o. is_number c o) p ∙ eq-eqb c c refl

-- so many children stand before entity j
child-at : (c i : ℕ) (es : List NetEntity) (j m : ℕ) (e : NetEntity) → slice_get es j ≡ Some e → e.parent ≡ Some c → get (children_from c i es) (length (children_from c m (take j es))) ≡ Some (i + j)
child-at c i [] j m e at p = absurd (cc)
child-at c i (d ∷ es) zero m e at p =
    let same : d ≡ e = cc in
    first-child (is_child c d) i (children_from c (suc i) es) (ap (is_child c) same ∙ is-child c e p) ∙ ap (λ v. Some v) (let z : i ≡ i + 0 = omega arith in z)
child-at c i (d ∷ es) (suc j) m e at p =
    skip-child (is_child c d) i m (children_from c (suc i) es) (children_from c (suc m) (take j es)) (Some (i + suc j)) (child-at c (suc i) es j (suc m) e at p ∙ ap (λ v. Some v) (let z : suc i + j ≡ i + suc j = omega arith in z))

short-of : {X : Type 0} (xs : List X) (i : ℕ) (x : X) → slice_get xs i ≡ Some x → suc i ≤ length xs
short-of [] i x e = absurd (cc)
short-of (y ∷ xs) zero x e = omega arith
short-of (y ∷ xs) (suc i) x e = omega (arith, short-of xs i x e)

pub child-number : (es : List NetEntity) (j c : ℕ) (e d : NetEntity) → slice_get es j ≡ Some e → e.parent ≡ Some c → slice_get es c ≡ Some d → get (children_of es c) (child_number es j) ≡ Some j
child-number es j c e d at p there =
    let parent : parent_of (slice_get es j) ≡ Some c = ap parent_of at ∙ p in
    let number : child_number es j ≡ length (children_of (take j es) c) = ap (number_among (take j es) (length es)) parent ∙ ap (λ b. if b then length (children_of (take j es) c) else 0) (le-leb (suc c) (length es) (short-of es c d there)) in
    subst (λ n. get (children_of es c) n ≡ Some j) (sym number) (child-at c 0 es j 0 e at p ∙ ap (λ v. Some v) (let z : 0 + j ≡ j = omega arith in z))

-- each child stands in the composite
abbrev Stands : ℕ → ℕ → List NetEntity → ℕ → Type 0
Stands c i es j = (m : ℕ) × (f : NetEntity) × (j ≡ i + m) × (slice_get es m ≡ Some f) × (f.parent ≡ Some c)

number-is : (c : ℕ) (o : Option ℕ) → is_number c o ≡ true → o ≡ Some c
number-is c None e = absurd (cc)
number-is c (Some p) e = ap (λ v. Some v) (eqb-true p c e)

child-from : (c i : ℕ) (es : List NetEntity) (n j : ℕ) → slice_get (children_from c i es) n ≡ Some j → Stands c i es j
child-from c i [] n j e = absurd (cc)
child-from c i (d ∷ es) n j e = by_test (is_child c d) refl n e (λ m h. child-from c (suc i) es m j h)
  where
    later : Stands c (suc i) es j → Stands c i (d ∷ es) j
    later w = (suc w.0, w.1, w.2 ∙ (let z : suc i + w.0 ≡ i + suc w.0 = omega arith in z), w.3, w.4)

    by_test : (b : Bool) → is_child c d ≡ b → (m : ℕ) → slice_get (child_if b i (children_from c (suc i) es)) m ≡ Some j → ((m : ℕ) → slice_get (children_from c (suc i) es) m ≡ Some j → Stands c (suc i) es j) → Stands c i (d ∷ es) j
    by_test true t zero h ih = let same : i ≡ j = cc in (0, d, sym same ∙ (let z : i ≡ i + 0 = omega arith in z), refl, number-is c d.parent t)
    by_test true t (suc m) h ih = later (ih m h)
    by_test false t m h ih = later (ih m h)

pub child-stands : (c : ℕ) (es : List NetEntity) (n j : ℕ) → slice_get (children_of es c) n ≡ Some j → (f : NetEntity) × (slice_get es j ≡ Some f) × (f.parent ≡ Some c)
child-stands c es n j e =
    let w = child-from c 0 es n j e in
    (w.1, ap (slice_get es) (w.2 ∙ (let z : 0 + w.0 ≡ w.0 = omega arith in z)) ∙ w.3, w.4)
