-- One channel more, at the port where it ends.
use Rattle.std.proofs.Common.{◌≡◌, ℕ, zero, suc, ◌+◌, ◌<◌, List, [], ◌∷◌, ◌++◌, Bool, true, false, cond, ◌&&◌, length, map, get_or, set, nat_eq, refl, sym, ap, ap₂, subst, ◌∙◌, arith, inl, inr, get_or-set_same, get_or-set_other, length-set}
use Rattle.std.specs.Prelude.{count_by}
use Rattle.std.proofs.lemmas.Bool.{cases_order, eq-eqb, eqb-true}
use Rattle.std.proofs.lemmas.List.Sums.{sum_by-append}
use Rattle.pt_net.specs.declared.net.Channel.{Channel}
use Rattle.pt_start.specs.Started.{ends_at}
use Rattle.pt_start.specs.Counts.{one_more, AreCounts}

count-snoc : {A : Type 0} (p : A → Bool) (xs : List A) (x : A) (b : Bool) → p x ≡ b → count_by p (xs ++ x ∷ []) ≡ count_by p xs + cond b 1 0
count-snoc p xs x b is = sum_by-append (λ y. cond (p y) 1 0) xs (x ∷ []) ∙ ap (λ n. count_by p xs + n) (omega arith) ∙ ap (λ t. count_by p xs + cond t 1 0) is

both-eq : (a b c d : ℕ) → a ≡ b → c ≡ d → (nat_eq a b && nat_eq c d) ≡ true
both-eq a b c d e f = ap₂ (λ x y. x && y) (eq-eqb a b e) (eq-eqb c d f)

not-both : (a b c d : ℕ) → (a ≡ b → c ≡ d → ⊥) → (nat_eq a b && nat_eq c d) ≡ false
not-both a b c d apart = decided (nat_eq a b) (nat_eq c d) refl refl
  where
    decided : (x y : Bool) → nat_eq a b ≡ x → nat_eq c d ≡ y → (nat_eq a b && nat_eq c d) ≡ false
    decided false y e f = ap (λ x. x && nat_eq c d) e
    decided true false e f = ap₂ (λ x y. x && y) e f
    decided true true e f = absurd (apart (eqb-true a b e) (eqb-true c d f))

-- the channel ends at no port that is counted
pub uncounted : (ks : List Channel) (k : Channel) (rows : List (List ℕ)) → AreCounts ks rows → (k.to.port < length (get_or rows k.to.entity []) → ⊥) → AreCounts (ks ++ k ∷ []) rows
uncounted ks k rows are far e i short =
    let apart : k.to.entity ≡ e → k.to.port ≡ i → ⊥ = λ p q. far (subst (λ n. n < length (get_or rows k.to.entity [])) (sym q) (subst (λ m. i < length (get_or rows m [])) (sym p) short)) in
    are e i short ∙ omega arith ∙ sym (count-snoc (ends_at e i) ks k false (not-both k.to.entity e k.to.port i apart))

module _ (ks : List Channel) (k : Channel) (rows : List (List ℕ)) (are : AreCounts ks rows) (there : k.to.entity < length rows) (port : k.to.port < length (get_or rows k.to.entity [])) where
  abbrev own_row : List ℕ
  own_row = get_or rows k.to.entity []

  abbrev after : List (List ℕ)
  after = set rows k.to.entity (one_more own_row k.to.port)

  here-row : get_or after k.to.entity [] ≡ one_more own_row k.to.port
  here-row = get_or-set_same rows k.to.entity (one_more own_row k.to.port) [] there

  at-port : get_or (one_more own_row k.to.port) k.to.port 0 ≡ count_by (ends_at k.to.entity k.to.port) (ks ++ k ∷ [])
  at-port =
      get_or-set_same own_row k.to.port (get_or own_row k.to.port 0 + 1) 0 port ∙ ap (λ n. n + 1) (are k.to.entity k.to.port port)
      ∙ sym (count-snoc (ends_at k.to.entity k.to.port) ks k true (both-eq k.to.entity k.to.entity k.to.port k.to.port refl refl))

  other-port : (i : ℕ) → i < length own_row → (k.to.port ≡ i → ⊥) → get_or (one_more own_row k.to.port) i 0 ≡ count_by (ends_at k.to.entity i) (ks ++ k ∷ [])
  other-port i short ne =
      get_or-set_other own_row k.to.port i (get_or own_row k.to.port 0 + 1) 0 (λ q. ne (sym q)) ∙ are k.to.entity i short ∙ omega arith
      ∙ sym (count-snoc (ends_at k.to.entity i) ks k false (not-both k.to.entity k.to.entity k.to.port i (λ p q. ne q)))

  in-row : (i : ℕ) → i < length own_row → get_or (one_more own_row k.to.port) i 0 ≡ count_by (ends_at k.to.entity i) (ks ++ k ∷ [])
  in-row i short = elim (cases_order k.to.port i) [ inl same ↦ subst (λ (j : ℕ). get_or (one_more own_row k.to.port) j 0 ≡ count_by (ends_at k.to.entity j) (ks ++ k ∷ [])) same at-port | inr other ↦ other-port i short (elim other as (λ o. k.to.port ≡ i → ⊥) [ inl below ↦ (λ q. omega (arith, below, q)) | inr above ↦ (λ q. omega (arith, above, q)) ]) ]

  here-entity : (i : ℕ) → i < length (get_or after k.to.entity []) → get_or (get_or after k.to.entity []) i 0 ≡ count_by (ends_at k.to.entity i) (ks ++ k ∷ [])
  here-entity i short =
      let long : length (get_or after k.to.entity []) ≡ length own_row = ap length here-row ∙ length-set own_row k.to.port (get_or own_row k.to.port 0 + 1) in
      ap (λ (r : List ℕ). get_or r i 0) here-row ∙ in-row i (omega (arith, short, long))

  other-entity : (e i : ℕ) → (k.to.entity ≡ e → ⊥) → i < length (get_or after e []) → get_or (get_or after e []) i 0 ≡ count_by (ends_at e i) (ks ++ k ∷ [])
  other-entity e i ne short =
      let same : get_or after e [] ≡ get_or rows e [] = get_or-set_other rows k.to.entity e (one_more own_row k.to.port) [] (λ q. ne (sym q)) in
      let short' : i < length (get_or rows e []) = subst (λ (r : List ℕ). i < length r) same short in
      ap (λ (r : List ℕ). get_or r i 0) same ∙ are e i short' ∙ omega arith ∙ sym (count-snoc (ends_at e i) ks k false (not-both k.to.entity e k.to.port i (λ p q. ne p)))

  pub counted : AreCounts (ks ++ k ∷ []) (set rows k.to.entity (one_more (get_or rows k.to.entity []) k.to.port))
  counted e i short = elim (cases_order k.to.entity e) [ inl same ↦ (subst (λ (d : ℕ). i < length (get_or after d []) → get_or (get_or after d []) i 0 ≡ count_by (ends_at d i) (ks ++ k ∷ [])) same (here-entity i)) short | inr other ↦ other-entity e i (elim other as (λ o. k.to.entity ≡ e → ⊥) [ inl below ↦ (λ q. omega (arith, below, q)) | inr above ↦ (λ q. omega (arith, above, q)) ]) short ]

-- numbers of ports stay
pub same-lengths : (rows : List (List ℕ)) (e : ℕ) (row : List ℕ) → length row ≡ length (get_or rows e []) → map length (set rows e row) ≡ map length rows
same-lengths [] e row h = refl
same-lengths (x ∷ xs) zero row h = ap (λ n. n ∷ map length xs) h
same-lengths (x ∷ xs) (suc e) row h = ap (λ ns. length x ∷ ns) (same-lengths xs e row h)

pub one-more-length : (row : List ℕ) (port : ℕ) → length (one_more row port) ≡ length row
one-more-length row port = length-set row port (get_or row port 0 + 1)

-- an entity more
pub lengths-more : {A : Type 0} (f : A → ℕ) (xs : List A) (x : A) (rows : List (List ℕ)) (row : List ℕ) → map length rows ≡ map f xs → length row ≡ f x → map length (rows ++ row ∷ []) ≡ map f (xs ++ x ∷ [])
lengths-more f xs x rows row h e = map-snoc length rows row ∙ ap₂ (λ ns n. ns ++ n ∷ []) h e ∙ sym (map-snoc f xs x)
  where
    map-snoc : {A : Type 0} (f : A → ℕ) (xs : List A) (x : A) → map f (xs ++ x ∷ []) ≡ map f xs ++ f x ∷ []
    map-snoc f [] x = refl
    map-snoc f (y ∷ ys) x = ap (λ zs. f y ∷ zs) (map-snoc f ys x)
