-- Paths as names joined by dots, below others.
use Rattle.std.proofs.Common.{◌≡◌, inl, inr, ℕ, ◌≤◌, List, [], ◌∷◌, ◌++◌, Bool, true, false, length, codes, bytes_eq, refl, sym, ap, subst, ◌∙◌, arith, append_assoc, length-append}
use Rattle.std.specs.List.{AllByRecursion}
use Rattle.std.proofs.lemmas.List.{append_cancel_left}
use Rattle.std.proofs.lemmas.List.Elements.{All-from_recursion, recursion_from_All}
use Rattle.std.proofs.lemmas.Slice.Eq.{bytes_eq-Decides}
use Rattle.pt_value.specs.Name.{BeginsName, HasNameForm}
use Rattle.pt_document.specs.Names.{top_path, below}
use Rattle.pt_trace.specs.ReportForm.{IsName, joined, AreNames, IsPath}
use Rattle.pt_meeting_lines.proofs.Paths.{below-top, below-other}

-- ---- names

abbrev AllNames : List (List ℕ) → Type 0
AllNames ns = AllByRecursion IsName ns

names-append : (ns ms : List (List ℕ)) → AllNames ns → AllNames ms → AllNames (ns ++ ms)
names-append [] ms g h = h
names-append (n ∷ ns) ms g h = (g.0, names-append ns ms g.1 h)

-- one list of names behind another
joined-append : (f : List ℕ) (fs : List (List ℕ)) (g : List ℕ) (gs : List (List ℕ)) → joined f (fs ++ g ∷ gs) ≡ joined f fs ++ (codes "." ++ joined g gs)
joined-append f [] g gs = refl
joined-append f (n ∷ ns) g gs =
    ap (λ v. f ++ (codes "." ++ v)) (joined-append n ns g gs) ∙ ap (λ v. f ++ v) (sym (append_assoc (codes ".") (joined n ns) (codes "." ++ joined g gs))) ∙
    sym (append_assoc f (codes "." ++ joined n ns) (codes "." ++ joined g gs))

-- no text of names is the path of the top
not-dot : (n : List ℕ) (rest : List ℕ) → HasNameForm n → n ++ rest ≡ top_path → ⊥
not-dot [] rest h e = h
not-dot (c ∷ cs) rest h e = let first : c ≡ 46 = cc in let no : false ≡ true = subst (λ v. BeginsName v) first h.0 in absurd (cc)

joined-front : (f : List ℕ) (ns : List (List ℕ)) → (rest : List ℕ) × (joined f ns ≡ f ++ rest)
joined-front f [] = ([], sym (append-end f))
  where
    append-end : (xs : List ℕ) → xs ++ [] ≡ xs
    append-end [] = refl
    append-end (x ∷ xs) = ap (λ v. x ∷ v) (append-end xs)
joined-front f (n ∷ ns) = (codes "." ++ joined n ns, refl)

names-not-dot : (f : List ℕ) (ns : List (List ℕ)) → IsName f → joined f ns ≡ top_path → ⊥
names-not-dot f ns named e = let r = joined-front f ns in not-dot f r.0 named.form (sym r.1 ∙ e)

some-length : (f : List ℕ) (ns : List (List ℕ)) → IsName f → 1 ≤ length (joined f ns)
some-length f ns named = let r = joined-front f ns in by_form f named.form r.0 r.1
  where
    by_form : (g : List ℕ) → HasNameForm g → (rest : List ℕ) → joined f ns ≡ g ++ rest → 1 ≤ length (joined f ns)
    by_form [] h rest e = absurd h
    by_form (c ∷ cs) h rest e = let l = ap (λ v. length v) e in omega (arith, l)

-- ---- paths below another

-- some names below it lead to this path
pub record IsNamed (round path : List ℕ) : Type 0 where
  pub first : List ℕ
  pub rest : List (List ℕ)
  pub named : IsName first
  pub others : AllNames rest
  pub is : path ≡ below round (joined first rest)

pub named-one : (round name : List ℕ) → IsName name → IsNamed round (below round name)
named-one round name h = record { first = name; rest = []; named = h; others = tt; is = refl }

-- what is named below something isn't the top
pub named-not-top : (round path : List ℕ) → IsNamed round path → path ≡ top_path → ⊥
named-not-top round path n e = by_test (bytes_eq round top_path) refl
  where
    by_test : (b : Bool) → bytes_eq round top_path ≡ b → ⊥
    by_test true t = names-not-dot n.first n.rest n.named (sym (below-top round (joined n.first n.rest) t) ∙ sym n.is ∙ e)
    by_test false t =
        let l = ap (λ v. length v) (sym (below-other round (joined n.first n.rest) t) ∙ sym n.is ∙ e) in
        omega (arith, l, length-append (round ++ codes ".") (joined n.first n.rest), length-append round (codes "."), some-length n.first n.rest n.named)

not-equal : (a b : List ℕ) → (a ≡ b → ⊥) → bytes_eq a b ≡ false
not-equal a b apart = by_test (bytes_eq a b) refl
  where
    by_test : (t : Bool) → bytes_eq a b ≡ t → t ≡ false
    by_test true e = absurd (apart ((bytes_eq-Decides a b).0 e))
    by_test false e = refl

-- one name further
pub named-more : (round path name : List ℕ) → IsNamed round path → IsName name → IsNamed round (below path name)
named-more round path name n h = record { first = n.first; rest = n.rest ++ name ∷ []; named = n.named; others = names-append n.rest (name ∷ []) n.others (h, tt); is = by_test (bytes_eq round top_path) refl }
  where
    J : List ℕ
    J = joined n.first n.rest

    down : below path name ≡ path ++ codes "." ++ name
    down = below-other path name (not-equal path top_path (named-not-top round path n))

    by_test : (b : Bool) → bytes_eq round top_path ≡ b → below path name ≡ below round (joined n.first (n.rest ++ name ∷ []))
    by_test true t =
        down ∙ ap (λ v. v ++ codes "." ++ name) (n.is ∙ below-top round (joined n.first n.rest) t) ∙ append_assoc (joined n.first n.rest) (codes ".") name ∙
        sym (joined-append n.first n.rest name []) ∙ sym (below-top round (joined n.first (n.rest ++ name ∷ [])) t)
    by_test false t =
        down ∙ ap (λ v. v ++ codes "." ++ name) (n.is ∙ below-other round (joined n.first n.rest) t) ∙ append_assoc (round ++ codes "." ++ joined n.first n.rest) (codes ".") name ∙
        append_assoc (round ++ codes ".") (joined n.first n.rest) (codes "." ++ name) ∙ ap (λ v. round ++ codes "." ++ v) (sym (joined-append n.first n.rest name [])) ∙
        sym (below-other round (joined n.first (n.rest ++ name ∷ [])) t)

-- ---- the form of paths

names-of : (f : List ℕ) (ns : List (List ℕ)) (text : List ℕ) → IsName f → AllNames ns → text ≡ joined f ns → AreNames text
names-of f ns text named others e = record { first = f; rest = ns; named = (named, All-from_recursion IsName ns others); is = e }

pub path-below : (round path : List ℕ) → IsPath round → IsNamed round path → AreNames path
path-below round path (inl top) n = names-of n.first n.rest path n.named n.others (n.is ∙ below-top round (joined n.first n.rest) ((bytes_eq-Decides round top_path).1 top))
path-below round path (inr outer) n = by_test (bytes_eq round top_path) refl
  where
    by_test : (b : Bool) → bytes_eq round top_path ≡ b → AreNames path
    by_test true t = names-of n.first n.rest path n.named n.others (n.is ∙ below-top round (joined n.first n.rest) t)
    by_test false t =
        names-of outer.first (outer.rest ++ n.first ∷ n.rest) path outer.named.0 (names-append outer.rest (n.first ∷ n.rest) (recursion_from_All IsName outer.rest outer.named.1) (n.named, n.others))
        (n.is ∙ below-other round (joined n.first n.rest) t ∙ append_assoc round (codes ".") (joined n.first n.rest) ∙ ap (λ v. v ++ (codes "." ++ joined n.first n.rest)) outer.is ∙ sym (joined-append outer.first outer.rest n.first n.rest))

-- what leads below something to the same path is the same
pub same-below : (round a b : List ℕ) → below round a ≡ below round b → a ≡ b
same-below round a b e = by_test (bytes_eq round top_path) refl
  where
    by_test : (t : Bool) → bytes_eq round top_path ≡ t → a ≡ b
    by_test true t = sym (below-top round a t) ∙ e ∙ below-top round b t
    by_test false t = append_cancel_left (round ++ codes ".") a b (sym (below-other round a t) ∙ e ∙ below-other round b t)

pub inner-names : (round path inner : List ℕ) → IsNamed round path → below round inner ≡ path → AreNames inner
inner-names round path inner n e = names-of n.first n.rest inner n.named n.others (same-below round inner (joined n.first n.rest) (e ∙ n.is))
