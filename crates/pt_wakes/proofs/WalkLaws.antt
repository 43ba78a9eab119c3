-- The leaves that are due come one after another as the walk goes, and are those of the children that are to become due.
use Rattle.std.proofs.Common.{◌≡◌, ◌⊎◌, ℕ, zero, suc, ◌+◌, ◌-◌, ◌/◌, ◌<◌, ◌≤◌, Bool, true, false, not, ◌&&◌, ◌||◌, leb, List, [], ◌∷◌, ◌++◌, length, get_or, set, drop, Option, None, append_assoc, append-nil, length-set, refl, sym, ap, ap₂, subst, ◌∙◌, arith, inl, inr}
use Rattle.std.specs.Prelude.{nat_eq, nat_le, if◌then◌else◌}
use Rattle.std.specs.Int.{from_bool}
use Rattle.std.proofs.lemmas.Bool.{false≢true, leb-true, le-leb, lt-leb, eq-eqb, ne_eqb, cases_Bool, cases_eq}
use Rattle.std.proofs.lemmas.List.{ext_get_or, get_or-drop, get_or-set_other, length-drop}
use Rattle.std.proofs.lemmas.Grind.{get_or-set_at}
use Rattle.std.proofs.Math.ListN.{get_or-eq_default}
use Rattle.pt_meaning.specs.Tag.{Tag, is_due}
use Rattle.pt_wakes.specs.Wakes.{wake_of}
use Rattle.pt_wakes.specs.Nodes.{node, IsTree}
use Rattle.pt_wakes.specs.Walk.{dues, due_below, rights, behind, remaining, marked}
use Rattle.pt_wakes.specs.Moved.{woken}
use Rattle.pt_wakes.proofs.MovedLaws.{woken-long, woken-at}
use Rattle.pt_wakes.proofs.Earlier.{due-below, due-neither}
use Rattle.pt_wakes.proofs.NodeLaws.{halved, under}

module _ (tag : Tag) (n : ℕ) (nodes : List (Option Tag)) where
  not-due : (k p : ℕ) → is_due tag (node nodes p) ≡ false → dues k tag n nodes p ≡ []
  not-due zero p h = refl
  not-due (suc k) p h = ap (λ (b : Bool). let xs : List ℕ = if b then (if nat_le n p then p ∷ [] else dues k tag n nodes (p + p) ++ dues k tag n nodes (suc (p + p))) else [] in xs) h

  leaf-is : (k p : ℕ) → is_due tag (node nodes p) ≡ true → leb n p ≡ true → dues (suc k) tag n nodes p ≡ p ∷ []
  leaf-is k p h l =
      ap (λ (b : Bool). let xs : List ℕ = if b then (if nat_le n p then p ∷ [] else dues k tag n nodes (p + p) ++ dues k tag n nodes (suc (p + p))) else [] in xs) h ∙ ap (λ (b : Bool). let xs : List ℕ = if b then p ∷ [] else dues k tag n nodes (p + p) ++ dues k tag n nodes (suc (p + p)) in xs) l

  fork-is : (k p : ℕ) → is_due tag (node nodes p) ≡ true → leb n p ≡ false → dues (suc k) tag n nodes p ≡ dues k tag n nodes (p + p) ++ dues k tag n nodes (suc (p + p))
  fork-is k p h l =
      ap (λ (b : Bool). let xs : List ℕ = if b then (if nat_le n p then p ∷ [] else dues k tag n nodes (p + p) ++ dues k tag n nodes (suc (p + p))) else [] in xs) h ∙ ap (λ (b : Bool). let xs : List ℕ = if b then p ∷ [] else dues k tag n nodes (p + p) ++ dues k tag n nodes (suc (p + p)) in xs) l

  -- past the nodes nothing is due
  past : length nodes ≡ n + n → (p : ℕ) → n + n ≤ p → is_due tag (node nodes p) ≡ false
  past len p l = ap (is_due tag) (get_or-eq_default nodes None {n = p} (omega (arith, len, l)))

  -- how far down is looked makes no difference, once it is far enough
  enough : length nodes ≡ n + n → (k j p : ℕ) → 0 < p → n + n ≤ k + p → n + n ≤ j + p → dues k tag n nodes p ≡ dues j tag n nodes p
  enough len zero zero p o a b = refl
  enough len zero (suc j) p o a b = sym (not-due (suc j) p (past len p (omega (arith, a))))
  enough len (suc k) zero p o a b = not-due (suc k) p (past len p (omega (arith, b)))
  enough len (suc k) (suc j) p o a b = elim (cases_Bool (is_due tag (node nodes p))) [
    | inl h ↦ elim (cases_Bool (leb n p)) [
      | inl l ↦ leaf-is k p h l ∙ sym (leaf-is j p h l)
      | inr l ↦ fork-is k p h l ∙ ap₂ (λ xs ys. xs ++ ys) (enough len k j (p + p) (omega (arith, o)) (omega (arith, a, o)) (omega (arith, b, o))) (enough len k j (suc (p + p)) (omega arith) (omega (arith, a)) (omega (arith, b))) ∙ sym (fork-is j p h l)
    ]
    | inr h ↦ not-due (suc k) p h ∙ sym (not-due (suc j) p h)
  ]

  pub below-none : (p : ℕ) → is_due tag (node nodes p) ≡ false → due_below tag n nodes p ≡ []
  below-none p h = not-due (n + n) p h

  pub below-leaf : (p : ℕ) → is_due tag (node nodes p) ≡ true → n ≤ p → p < n + n → due_below tag n nodes p ≡ p ∷ []
  below-leaf p h l t =
      let e : n + n ≡ suc (n + n - 1) = omega (arith, t) in
      ap (λ k. dues k tag n nodes p) e ∙ leaf-is (n + n - 1) p h (le-leb n p l)

  pub below-fork : length nodes ≡ n + n → (p : ℕ) → is_due tag (node nodes p) ≡ true → 0 < p → p < n → due_below tag n nodes p ≡ due_below tag n nodes (p + p) ++ due_below tag n nodes (suc (p + p))
  below-fork len p h o l =
      let m : ℕ = n + n - 1 in
      let e : n + n ≡ suc m = omega (arith, l) in
      ap (λ k. dues k tag n nodes p) e ∙ fork-is m p h (lt-leb n p l) ∙ ap₂ (λ xs ys. xs ++ ys) (enough len m (n + n) (p + p) (omega (arith, o)) (omega (arith, o)) (omega arith)) (enough len m (n + n) (suc (p + p)) (omega arith) (omega arith) (omega arith))

  -- nothing is to the right of the top
  rights-top : (k p : ℕ) → p / 2 ≡ 0 → rights k tag n nodes p ≡ []
  rights-top zero p h = refl
  rights-top (suc k) p h = ap (λ (b : Bool). let xs : List ℕ = if b then [] else (if nat_eq p (p / 2 + p / 2) then due_below tag n nodes (suc (p / 2 + p / 2)) else []) ++ rights k tag n nodes (p / 2) in xs) (eq-eqb (p / 2) 0 h)

  rights-up : (k p : ℕ) → (p / 2 ≡ 0 → ⊥) → rights (suc k) tag n nodes p ≡ (if nat_eq p (p / 2 + p / 2) then due_below tag n nodes (suc (p / 2 + p / 2)) else []) ++ rights k tag n nodes (p / 2)
  rights-up k p h = ap (λ (b : Bool). let xs : List ℕ = if b then [] else (if nat_eq p (p / 2 + p / 2) then due_below tag n nodes (suc (p / 2 + p / 2)) else []) ++ rights k tag n nodes (p / 2) in xs) (ne_eqb (p / 2) 0 h)

  rights-enough : (k j p : ℕ) → p ≤ k → p ≤ j → rights k tag n nodes p ≡ rights j tag n nodes p
  rights-enough zero zero p a b = refl
  rights-enough zero (suc j) p a b = sym (rights-top (suc j) p (omega (arith, a)))
  rights-enough (suc k) zero p a b = rights-top (suc k) p (omega (arith, b))
  rights-enough (suc k) (suc j) p a b = elim (cases_eq (p / 2) 0) [
    | inl e ↦ rights-top (suc k) p e ∙ sym (rights-top (suc j) p e)
    | inr e ↦ rights-up k p e ∙ ap (λ ys. (let xs : List ℕ = if nat_eq p (p / 2 + p / 2) then due_below tag n nodes (suc (p / 2 + p / 2)) else [] in xs) ++ ys) (rights-enough k j (p / 2) (omega (arith, a)) (omega (arith, b))) ∙ sym (rights-up j p e)
  ]

  pub behind-top : (p : ℕ) → p ≤ 1 → behind tag n nodes p ≡ []
  behind-top p l = rights-top p p (omega (arith, l))

  behind-up : (p h : ℕ) → 0 < h → p / 2 ≡ h → behind tag n nodes p ≡ (if nat_eq p (h + h) then due_below tag n nodes (suc (h + h)) else []) ++ behind tag n nodes h
  behind-up p h o e =
      let m : p ≡ suc (p - 1) = omega (arith, o, e) in
      ap (λ k. rights k tag n nodes p) m ∙ rights-up (p - 1) p (λ z. omega (arith, z, e, o)) ∙
      ap (λ q. (let xs : List ℕ = if nat_eq p (q + q) then due_below tag n nodes (suc (q + q)) else [] in xs) ++ rights (p - 1) tag n nodes q) e ∙
      ap (λ ys. (let xs : List ℕ = if nat_eq p (h + h) then due_below tag n nodes (suc (h + h)) else [] in xs) ++ ys) (rights-enough (p - 1) h h (omega (arith, e, o)) (omega arith))

  pub behind-left : (h : ℕ) → 0 < h → behind tag n nodes (h + h) ≡ due_below tag n nodes (suc (h + h)) ++ behind tag n nodes h
  behind-left h o = behind-up (h + h) h o (omega arith) ∙ ap (λ (b : Bool). (let xs : List ℕ = if b then due_below tag n nodes (suc (h + h)) else [] in xs) ++ behind tag n nodes h) (eq-eqb (h + h) (h + h) refl)

  pub behind-right : (h : ℕ) → 0 < h → behind tag n nodes (suc (h + h)) ≡ behind tag n nodes h
  behind-right h o = behind-up (suc (h + h)) h o (omega arith) ∙ ap (λ (b : Bool). (let xs : List ℕ = if b then due_below tag n nodes (suc (h + h)) else [] in xs) ++ behind tag n nodes h) (ne_eqb (suc (h + h)) (h + h) (λ z. omega (arith, z)))

  pub remaining-is : (p : ℕ) → 0 < p → remaining tag n nodes p ≡ due_below tag n nodes p ++ behind tag n nodes p
  remaining-is zero o = absurd (omega (arith, o))
  remaining-is (suc k) o = refl

  -- a step down from a node that is due
  pub down : length nodes ≡ n + n → (p : ℕ) (b : Bool) → is_due tag (node nodes p) ≡ true → 0 < p → p < n → is_due tag (node nodes (p + p)) ≡ b → remaining tag n nodes (p + p + from_bool (not b)) ≡ remaining tag n nodes p
  down len p true h o l d =
      let e : p + p + from_bool (not true) ≡ p + p = omega arith in
      ap (remaining tag n nodes) e ∙ remaining-is (p + p) (omega (arith, o)) ∙ ap (λ ys. due_below tag n nodes (p + p) ++ ys) (behind-left p o) ∙ sym (append_assoc (due_below tag n nodes (p + p)) (due_below tag n nodes (suc (p + p))) (behind tag n nodes p)) ∙
      ap (λ xs. xs ++ behind tag n nodes p) (sym (below-fork len p h o l)) ∙ sym (remaining-is p o)
  down len p false h o l d =
      let e : p + p + from_bool (not false) ≡ suc (p + p) = omega arith in
      ap (remaining tag n nodes) e ∙ ap₂ (λ xs ys. xs ++ ys) (sym (ap (λ xs. xs ++ due_below tag n nodes (suc (p + p))) (below-none (p + p) d)) ∙ sym (below-fork len p h o l)) (behind-right p o) ∙ sym (remaining-is p o)

  pub record IsBelow (p q : ℕ) : Type 0 where
    pub above : 0 < q
    pub within : q < n + n
    pub due : is_due tag (node nodes q) ≡ true
    pub same : remaining tag n nodes q ≡ remaining tag n nodes p

  pub below : IsTree n nodes → (p q : ℕ) (b : Bool) → is_due tag (node nodes p) ≡ true → 0 < p → p < n → b ≡ is_due tag (node nodes (p + p)) → q ≡ p + p + from_bool (not b) → IsBelow p q
  below t p q true h o l d e = record {
    above = omega (arith, e, o);
    within = omega (arith, e, l);
    due = ap (λ v. is_due tag (node nodes v)) (e ∙ omega arith) ∙ sym d;
    same = ap (remaining tag n nodes) e ∙ down t.len p true h o l (sym d);
  }
  below t p q false h o l d e = record {
    above = omega (arith, e);
    within = omega (arith, e, l);
    due = ap (λ v. is_due tag (node nodes v)) (e ∙ omega arith) ∙ other;
    same = ap (remaining tag n nodes) e ∙ down t.len p false h o l (sym d);
  }
    where
      other : is_due tag (node nodes (suc (p + p))) ≡ true
      other = elim (cases_Bool (is_due tag (node nodes (suc (p + p))))) [
        | inl f ↦ f
        | inr f ↦ absurd (false≢true (sym (ap (is_due tag) (t.settled p o l) ∙ due-neither tag (node nodes (p + p)) (node nodes (suc (p + p))) (sym d) f) ∙ h))
      ]

  pub at-leaf : (p : ℕ) → is_due tag (node nodes p) ≡ true → 0 < p → n ≤ p → p < n + n → remaining tag n nodes p ≡ p ∷ behind tag n nodes p
  at-leaf p h o l t = remaining-is p o ∙ ap (λ xs. xs ++ behind tag n nodes p) (below-leaf p h l t)

  -- a step up
  pub up-right : (p h q : ℕ) → p / 2 ≡ h → 1 < p → q ≡ h + h + 1 → p < q → remaining tag n nodes q ≡ behind tag n nodes p
  up-right p h q e o r l =
      let a : p ≡ h + h = omega (arith, e, r, l) in
      let b : q ≡ suc (h + h) = omega (arith, r) in
      ap (remaining tag n nodes) b ∙ ap (λ ys. due_below tag n nodes (suc (h + h)) ++ ys) (behind-right h (omega (arith, e, o))) ∙ sym (behind-left h (omega (arith, e, o))) ∙ sym (ap (behind tag n nodes) a)

  pub up-none : (p h q : ℕ) → p / 2 ≡ h → 1 < p → q ≡ h + h + 1 → (q ≤ p) ⊎ (is_due tag (node nodes q) ≡ false) → behind tag n nodes h ≡ behind tag n nodes p
  up-none p h q e o r c = elim (cases_eq p (h + h)) [
    | inl a ↦ elim c [
      | inl l ↦ absurd (omega (arith, l, a, r))
      | inr d ↦
          let b : q ≡ suc (h + h) = omega (arith, r) in
          sym (ap (λ xs. xs ++ behind tag n nodes h) (ap (due_below tag n nodes) (sym b) ∙ below-none q d)) ∙ sym (behind-left h (omega (arith, e, o))) ∙ sym (ap (behind tag n nodes) a)
    ]
    | inr a ↦
        let b : p ≡ suc (h + h) = omega (arith, e, a) in
        sym (behind-right h (omega (arith, e, o))) ∙ sym (ap (behind tag n nodes) b)
  ]

pub and-left : (a b : Bool) → (a && b) ≡ true → a ≡ true
and-left true b h = refl
and-left false b h = absurd (false≢true h)

pub and-false : (a b : Bool) → (a && b) ≡ false → (a ≡ false) ⊎ (b ≡ false)
and-false true b h = inr h
and-false false b h = inl refl

-- a leaf is among some
abbrev Has : ℕ → List ℕ → Type 0
Has q [] = ⊥
Has q (x ∷ xs) = (x ≡ q) ⊎ Has q xs

has-left : (q : ℕ) (xs ys : List ℕ) → Has q xs → Has q (xs ++ ys)
has-left q [] ys h = absurd h
has-left q (x ∷ xs) ys (inl e) = inl e
has-left q (x ∷ xs) ys (inr h) = inr (has-left q xs ys h)

has-right : (q : ℕ) (xs ys : List ℕ) → Has q ys → Has q (xs ++ ys)
has-right q [] ys h = h
has-right q (x ∷ xs) ys h = inr (has-right q xs ys h)

-- each of some leaves is due
abbrev AllDue : Tag → ℕ → List (Option Tag) → List ℕ → Type 0
AllDue tag n nodes [] = Unit {0}
AllDue tag n nodes (x ∷ xs) = (n ≤ x) × (is_due tag (node nodes x) ≡ true) × AllDue tag n nodes xs

module _ (tag : Tag) (n : ℕ) (nodes : List (Option Tag)) where
  all-append : (xs ys : List ℕ) → AllDue tag n nodes xs → AllDue tag n nodes ys → AllDue tag n nodes (xs ++ ys)
  all-append [] ys a b = b
  all-append (x ∷ xs) ys a b = (a.0, a.1, all-append xs ys a.2 b)

  all-due : (k p : ℕ) → AllDue tag n nodes (dues k tag n nodes p)
  all-due zero p = tt
  all-due (suc k) p = elim (cases_Bool (is_due tag (node nodes p))) [
    | inl h ↦ elim (cases_Bool (leb n p)) [
      | inl l ↦ subst (λ xs. AllDue tag n nodes xs) (sym (leaf-is tag n nodes k p h l)) (leb-true n p l, h, tt)
      | inr l ↦ subst (λ xs. AllDue tag n nodes xs) (sym (fork-is tag n nodes k p h l)) (all-append (dues k tag n nodes (p + p)) (dues k tag n nodes (suc (p + p))) (all-due k (p + p)) (all-due k (suc (p + p))))
    ]
    | inr h ↦ subst (λ xs. AllDue tag n nodes xs) (sym (not-due tag n nodes (suc k) p h)) tt
  ]

  module _ (t : IsTree n nodes) where
    -- above a node that is due each node is
    above-due : (h p : ℕ) → 0 < h → h < n → (p ≡ h + h) ⊎ (p ≡ suc (h + h)) → is_due tag (node nodes p) ≡ true → is_due tag (node nodes h) ≡ true
    above-due h p o l c d = elim (cases_Bool (is_due tag (node nodes h))) [
      | inl e ↦ e
      | inr e ↦ absurd (false≢true (sym (due-below tag (node nodes h) (node nodes p) (under n nodes t h p o l c) e) ∙ d))
    ]

    -- so each leaf that is due is found from the top
    climbs : (q m p : ℕ) → p < m → 0 < p → p < n + n → is_due tag (node nodes p) ≡ true → Has q (due_below tag n nodes p) → Has q (due_below tag n nodes 1)
    climbs q zero p b o l d h = absurd (omega (arith, b))
    climbs q (suc m) zero b o l d h = absurd (omega (arith, o))
    climbs q (suc m) (suc zero) b o l d h = h
    climbs q (suc m) (suc (suc k)) b o l d h =
        let p : ℕ = suc (suc k) in
        let a : ℕ = (halved p).0 in
        let c : (p ≡ a + a) ⊎ (p ≡ suc (a + a)) = (halved p).1.cases in
        let pos : 0 < a = elim c [ inl e ↦ omega (arith, e) | inr e ↦ omega (arith, e) ] in
        let less : a < m = elim c [ inl e ↦ omega (arith, e, b) | inr e ↦ omega (arith, e, b) ] in
        let there : a < n = elim c [ inl e ↦ omega (arith, e, l) | inr e ↦ omega (arith, e, l) ] in
        let due : is_due tag (node nodes a) ≡ true = above-due a p pos there c d in
        let fork = below-fork tag n nodes t.len a due pos there in
        let has : Has q (due_below tag n nodes (a + a) ++ due_below tag n nodes (suc (a + a))) = elim c [
          | inl e ↦ has-left q (due_below tag n nodes (a + a)) (due_below tag n nodes (suc (a + a))) (subst (λ v. Has q (due_below tag n nodes v)) e h)
          | inr e ↦ has-right q (due_below tag n nodes (a + a)) (due_below tag n nodes (suc (a + a))) (subst (λ v. Has q (due_below tag n nodes v)) e h)
        ] in
        climbs q m a less pos (omega (arith, there)) due (subst (λ xs. Has q xs) (sym fork) has)

    has-all : (q : ℕ) → n ≤ q → q < n + n → 0 < q → is_due tag (node nodes q) ≡ true → Has q (due_below tag n nodes 1)
    has-all q l t' o d = climbs q (suc q) q (omega arith) o t' d (subst (λ xs. Has q xs) (sym (below-leaf tag n nodes q d l t')) (inl refl))

marked-long : (n : ℕ) (xs : List ℕ) (due : List Bool) → length (marked n xs due) ≡ length due
marked-long n [] due = refl
marked-long n (x ∷ xs) due = marked-long n xs (set due (x - n) true) ∙ length-set due (x - n) true

set-true : (due : List Bool) (c i : ℕ) → i < length due → get_or due i false ≡ true → get_or (set due c true) i false ≡ true
set-true due c i l h = elim (cases_eq i c) [
  | inl e ↦ get_or-set_at due c i true false e (omega (arith, e, l))
  | inr e ↦ get_or-set_other due c i true false e ∙ h
]

marked-true : (n : ℕ) (xs : List ℕ) (due : List Bool) (i : ℕ) → i < length due → get_or due i false ≡ true → get_or (marked n xs due) i false ≡ true
marked-true n [] due i l h = h
marked-true n (x ∷ xs) due i l h = marked-true n xs (set due (x - n) true) i (subst (λ m. i < m) (sym (length-set due (x - n) true)) l) (set-true due (x - n) i l h)

marked-has : (n : ℕ) (xs : List ℕ) (due : List Bool) (i : ℕ) → i < length due → Has (n + i) xs → get_or (marked n xs due) i false ≡ true
marked-has n [] due i l h = absurd h
marked-has n (x ∷ xs) due i l (inl e) =
    marked-true n xs (set due (x - n) true) i (subst (λ m. i < m) (sym (length-set due (x - n) true)) l) (get_or-set_at due (x - n) i true false (omega (arith, e)) (omega (arith, e, l)))
marked-has n (x ∷ xs) due i l (inr h) = marked-has n xs (set due (x - n) true) i (subst (λ m. i < m) (sym (length-set due (x - n) true)) l) h

marked-else : (tag : Tag) (n : ℕ) (nodes : List (Option Tag)) (xs : List ℕ) (due : List Bool) (i : ℕ) → AllDue tag n nodes xs → is_due tag (node nodes (n + i)) ≡ false → get_or (marked n xs due) i false ≡ get_or due i false
marked-else tag n nodes [] due i a h = refl
marked-else tag n nodes (x ∷ xs) due i a h = marked-else tag n nodes xs (set due (x - n) true) i a.2 h ∙ get_or-set_other due (x - n) i true false other
  where
    other : i ≡ x - n → ⊥
    other e = let l = a.0 in let m : n + i ≡ x = omega (arith, l, e) in false≢true (sym h ∙ ap (λ v. is_due tag (node nodes v)) m ∙ a.1)

-- the leaves that are due are those of the children that become due
pub all-marked : (tag : Tag) (n : ℕ) (nodes wakes : List (Option Tag)) (due : List Bool) → IsTree n nodes → drop n nodes ≡ wakes → length wakes ≡ length due → 0 < n → marked n (remaining tag n nodes 1) due ≡ woken tag wakes due
all-marked tag n nodes wakes due t v e o =
    ap (λ xs. marked n xs due) (ap (λ ys. xs ++ ys) (behind-top tag n nodes 1 (omega arith)) ∙ append-nil xs) ∙ ext_get_or false (marked n xs due) (woken tag wakes due) (marked-long n xs due ∙ sym (woken-long tag wakes due e)) (λ i l. each i (subst (λ m. i < m) (marked-long n xs due) l))
  where
    xs : List ℕ
    xs = due_below tag n nodes 1

    each : (i : ℕ) → i < length due → get_or (marked n xs due) i false ≡ get_or (woken tag wakes due) i false
    each i l =
        let long = ap length (sym v) ∙ length-drop n nodes in
        let len = t.len in
        let w : wake_of wakes i ≡ node nodes (n + i) = ap (λ ws. wake_of ws i) (sym v) ∙ get_or-drop n nodes i None in
        let at = woken-at tag wakes due i (omega (arith, l, e)) e in
        elim (cases_Bool (is_due tag (node nodes (n + i)))) [
          | inl d ↦ marked-has n xs due i l (has-all tag n nodes t (n + i) (omega arith) (omega (arith, l, e, long, len)) (omega (arith, o)) d) ∙ sym (at ∙ ap (λ b. b || get_or due i false) (ap (is_due tag) w ∙ d))
          | inr d ↦ marked-else tag n nodes xs due i (all-due tag n nodes (n + n) 1) d ∙ sym (at ∙ ap (λ b. b || get_or due i false) (ap (is_due tag) w ∙ d))
        ]
