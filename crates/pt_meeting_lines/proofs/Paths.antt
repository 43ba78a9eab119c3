-- The path of a child below its composite.
use Rattle.std.proofs.Common.{◌≡◌, List, ℕ, [], ◌∷◌, ◌++◌, true, false, codes, sym, ap, ◌∙◌, append_assoc, if◌then◌else◌}
use Rattle.std.specs.Prelude.{bytes_eq}
use Rattle.pt_document.specs.Names.{top_path, below}

pub below-top : (round path : List ℕ) → bytes_eq round top_path ≡ true → below round path ≡ path
unfolding below
below-top round path e = ap (λ b. if b then path else round ++ codes "." ++ path) e

pub below-other : (round path : List ℕ) → bytes_eq round top_path ≡ false → below round path ≡ round ++ codes "." ++ path
unfolding below
below-other round path e = ap (λ b. if b then path else round ++ codes "." ++ path) e

-- what is behind the path of the composite and a dot
pub below-rest : (round path rest inner : List ℕ) → bytes_eq round top_path ≡ false → path ≡ round ++ rest → rest ≡ codes "." ++ inner → below round inner ≡ path
below-rest round path rest inner e f g = below-other round inner e ∙ append_assoc round (codes ".") inner ∙ ap (λ v. round ++ v) (sym g) ∙ sym f

-- a path that doesn't begin so isn't below the composite
pub not-behind : (round path inner : List ℕ) → bytes_eq round top_path ≡ false → ((rest : List ℕ) → path ≡ round ++ rest → ⊥) → below round inner ≡ path → ⊥
not-behind round path inner e apart g = apart (codes "." ++ inner) (sym g ∙ below-other round inner e ∙ append_assoc round (codes ".") inner)

same-rest : (front xs ys : List ℕ) → front ++ xs ≡ front ++ ys → xs ≡ ys
same-rest [] xs ys e = e
same-rest (f ∷ front) xs ys e = let rest : front ++ xs ≡ front ++ ys = cc in same-rest front xs ys rest

pub not-dotted : (round path rest inner : List ℕ) → bytes_eq round top_path ≡ false → path ≡ round ++ rest → ((end : List ℕ) → rest ≡ codes "." ++ end → ⊥) → below round inner ≡ path → ⊥
not-dotted round path rest inner e f apart g = apart inner (same-rest round rest (codes "." ++ inner) (sym f ∙ sym g ∙ below-other round inner e ∙ append_assoc round (codes ".") inner))
