-- One end more, at the port where it is.
use Rattle.std.proofs.Common.{◌≡◌, ℕ, zero, suc, ◌<◌, List, [], ◌∷◌, ◌++◌, Bool, true, false, ◌&&◌, ◌||◌, length, map, get_or, set, nat_eq, refl, sym, ap, ap₂, subst, ◌∙◌, arith, inl, inr, get_or-set_same, get_or-set_other, length-set}
use Rattle.std.specs.List.{list_any}
use Rattle.std.proofs.lemmas.Bool.{cases_order, eq-eqb, eqb-true}
use Rattle.std.proofs.lemmas.List.Folds.{list_any-append}
use Rattle.pt_net.specs.declared.net.End.{End}
use Rattle.pt_check.specs.Joined.{is_at}
use Rattle.pt_check.specs.Marks.{AreMarks}

or-false : (b : Bool) → (b || false) ≡ b
or-false true = refl
or-false false = refl

or-true : (b : Bool) → (b || true) ≡ true
or-true true = refl
or-true false = refl

any-here : (k i : ℕ) (es : List End) (e : End) → is_at k i e ≡ true → list_any (is_at k i) (es ++ e ∷ []) ≡ true
any-here k i es e is = list_any-append (is_at k i) es (e ∷ []) ∙ ap (λ b. list_any (is_at k i) es || (b || false)) is ∙ or-true (list_any (is_at k i) es)

any-elsewhere : (k i : ℕ) (es : List End) (e : End) → is_at k i e ≡ false → list_any (is_at k i) (es ++ e ∷ []) ≡ list_any (is_at k i) es
any-elsewhere k i es e is = list_any-append (is_at k i) es (e ∷ []) ∙ ap (λ b. list_any (is_at k i) es || (b || false)) is ∙ or-false (list_any (is_at k i) es)

both-eq : (a b c d : ℕ) → a ≡ b → c ≡ d → (nat_eq a b && nat_eq c d) ≡ true
both-eq a b c d e f = ap₂ (λ x y. x && y) (eq-eqb a b e) (eq-eqb c d f)

not-both : (a b c d : ℕ) → (a ≡ b → c ≡ d → ⊥) → (nat_eq a b && nat_eq c d) ≡ false
not-both a b c d apart = decided (nat_eq a b) (nat_eq c d) refl refl
  where
    decided : (x y : Bool) → nat_eq a b ≡ x → nat_eq c d ≡ y → (nat_eq a b && nat_eq c d) ≡ false
    decided false y e f = ap (λ x. x && nat_eq c d) e
    decided true false e f = ap₂ (λ x y. x && y) e f
    decided true true e f = absurd (apart (eqb-true a b e) (eqb-true c d f))

module _ (es : List End) (e : End) (rows : List (List Bool)) (are : AreMarks es rows) (there : e.entity < length rows) (port : e.port < length (get_or rows e.entity [])) where
  abbrev own_row : List Bool
  own_row = get_or rows e.entity []

  abbrev after : List (List Bool)
  after = set rows e.entity (set own_row e.port true)

  here-row : get_or after e.entity [] ≡ set own_row e.port true
  here-row = get_or-set_same rows e.entity (set own_row e.port true) [] there

  at-port : get_or (set own_row e.port true) e.port false ≡ list_any (is_at e.entity e.port) (es ++ e ∷ [])
  at-port = get_or-set_same own_row e.port true false port ∙ sym (any-here e.entity e.port es e (both-eq e.entity e.entity e.port e.port refl refl))

  other-port : (i : ℕ) → i < length own_row → (e.port ≡ i → ⊥) → get_or (set own_row e.port true) i false ≡ list_any (is_at e.entity i) (es ++ e ∷ [])
  other-port i short ne = get_or-set_other own_row e.port i true false (λ q. ne (sym q)) ∙ are e.entity i short ∙ sym (any-elsewhere e.entity i es e (not-both e.entity e.entity e.port i (λ p q. ne q)))

  in-row : (i : ℕ) → i < length own_row → get_or (set own_row e.port true) i false ≡ list_any (is_at e.entity i) (es ++ e ∷ [])
  in-row i short = elim (cases_order e.port i) [ inl same ↦ subst (λ (j : ℕ). get_or (set own_row e.port true) j false ≡ list_any (is_at e.entity j) (es ++ e ∷ [])) same at-port | inr other ↦ other-port i short (elim other as (λ o. e.port ≡ i → ⊥) [ inl below ↦ (λ q. omega (arith, below, q)) | inr above ↦ (λ q. omega (arith, above, q)) ]) ]

  here-entity : (i : ℕ) → i < length (get_or after e.entity []) → get_or (get_or after e.entity []) i false ≡ list_any (is_at e.entity i) (es ++ e ∷ [])
  here-entity i short =
      let long : length (get_or after e.entity []) ≡ length own_row = ap length here-row ∙ length-set own_row e.port true in
      ap (λ (r : List Bool). get_or r i false) here-row ∙ in-row i (omega (arith, short, long))

  other-entity : (k i : ℕ) → (e.entity ≡ k → ⊥) → i < length (get_or after k []) → get_or (get_or after k []) i false ≡ list_any (is_at k i) (es ++ e ∷ [])
  other-entity k i ne short =
      let same : get_or after k [] ≡ get_or rows k [] = get_or-set_other rows e.entity k (set own_row e.port true) [] (λ q. ne (sym q)) in
      let short' : i < length (get_or rows k []) = subst (λ (r : List Bool). i < length r) same short in
      ap (λ (r : List Bool). get_or r i false) same ∙ are k i short' ∙ sym (any-elsewhere k i es e (not-both e.entity k e.port i (λ p q. ne p)))

  pub marked : AreMarks (es ++ e ∷ []) (set rows e.entity (set (get_or rows e.entity []) e.port true))
  marked k i short = elim (cases_order e.entity k) [ inl same ↦ (subst (λ (d : ℕ). i < length (get_or after d []) → get_or (get_or after d []) i false ≡ list_any (is_at d i) (es ++ e ∷ [])) same (here-entity i)) short | inr other ↦ other-entity k i (elim other as (λ o. e.entity ≡ k → ⊥) [ inl below ↦ (λ q. omega (arith, below, q)) | inr above ↦ (λ q. omega (arith, above, q)) ]) short ]

-- numbers of ports stay
pub same-lengths : (rows : List (List Bool)) (k : ℕ) (row : List Bool) → length row ≡ length (get_or rows k []) → map length (set rows k row) ≡ map length rows
same-lengths [] k row h = refl
same-lengths (x ∷ xs) zero row h = ap (λ n. n ∷ map length xs) h
same-lengths (x ∷ xs) (suc k) row h = ap (λ ns. length x ∷ ns) (same-lengths xs k row h)
