-- The path of a child below its composite, and labels one after another.
use Rattle.std.proofs.Common.{◌≡◌, ℕ, List, [], ◌∷◌, ◌++◌, Bool, true, false, nat_eq, Option, Some, None, codes, refl, sym, ap, ap₂, ◌∙◌, append_assoc, if◌then◌else◌}
use Rattle.std.specs.Prelude.{bytes_eq, unwrap_or}
use Rattle.std.proofs.lemmas.Bool.{eq-eqb, eqb-true}
use Rattle.std.proofs.lemmas.Option.{none-some}
use Rattle.pt_document.specs.Names.{top_path}
use Rattle.pt_trees.specs.Labels.{behind, path_below}

-- ---- what is behind a front

behind-front : (front rest : List ℕ) → behind front (front ++ rest) ≡ Some rest
behind-front [] rest = refl
behind-front (f ∷ front) rest = ap (λ b. if b then behind front (front ++ rest) else None) (eq-eqb f f refl) ∙ behind-front front rest

behind-is : (front text rest : List ℕ) → behind front text ≡ Some rest → text ≡ front ++ rest
behind-is [] text rest e = cc
behind-is (f ∷ front) [] rest e = absurd (cc)
behind-is (f ∷ front) (t ∷ text) rest e = by_test (λ g. behind-is front text rest g) (nat_eq f t) refl e
  where
    by_test : (behind front text ≡ Some rest → text ≡ front ++ rest) → (b : Bool) → nat_eq f t ≡ b → (if b then behind front text else None) ≡ Some rest → t ∷ text ≡ f ∷ (front ++ rest)
    by_test more true q g = ap₂ (λ x xs. x ∷ xs) (sym (eqb-true f t q)) (more g)
    by_test more false q g = absurd (none-some rest g)

none-behind : (front text : List ℕ) → ((rest : List ℕ) → text ≡ front ++ rest → ⊥) → behind front text ≡ None
none-behind front text apart = by_answer (behind front text) refl
  where
    by_answer : (o : Option (List ℕ)) → behind front text ≡ o → o ≡ None
    by_answer None e = refl
    by_answer (Some rest) e = absurd (apart rest (behind-is front text rest e))

same-rest : (front xs ys : List ℕ) → front ++ xs ≡ front ++ ys → xs ≡ ys
same-rest [] xs ys e = e
same-rest (f ∷ front) xs ys e = let rest : front ++ xs ≡ front ++ ys = cc in same-rest front xs ys rest

-- ---- the path below

pub below-top : (round child : List ℕ) → bytes_eq round top_path ≡ true → child ≡ path_below round child
below-top round child e = sym (ap (λ b. if b then child else unwrap_or (behind (round ++ codes ".") child) child) e)

below-by : (round child : List ℕ) (o : Option (List ℕ)) → bytes_eq round top_path ≡ false → behind (round ++ codes ".") child ≡ o → unwrap_or o child ≡ path_below round child
below-by round child o e f = sym (ap (λ b. if b then child else unwrap_or (behind (round ++ codes ".") child) child) e ∙ ap (λ p. unwrap_or p child) f)

pub below-rest : (round child rest below : List ℕ) → bytes_eq round top_path ≡ false → child ≡ round ++ rest → rest ≡ codes "." ++ below → below ≡ path_below round child
below-rest round child rest below e f g =
    let whole : child ≡ (round ++ codes ".") ++ below = f ∙ ap (λ v. round ++ v) g ∙ sym (append_assoc round (codes ".") below) in
    below-by round child (Some below) e (ap (λ v. behind (round ++ codes ".") v) whole ∙ behind-front (round ++ codes ".") below)

pub below-other : (round child : List ℕ) → bytes_eq round top_path ≡ false → ((rest : List ℕ) → child ≡ round ++ rest → ⊥) → child ≡ path_below round child
below-other round child e apart = below-by round child None e (none-behind (round ++ codes ".") child (λ rest f. apart (codes "." ++ rest) (f ∙ append_assoc round (codes ".") rest)))

pub below-apart : (round child rest : List ℕ) → bytes_eq round top_path ≡ false → child ≡ round ++ rest → ((below : List ℕ) → rest ≡ codes "." ++ below → ⊥) → child ≡ path_below round child
below-apart round child rest e f apart =
    below-by round child None e (none-behind (round ++ codes ".") child (λ below g. apart below (same-rest round rest (codes "." ++ below) (sym f ∙ g ∙ append_assoc round (codes ".") below))))
