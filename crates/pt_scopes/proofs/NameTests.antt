-- Names that are tested one by one.
use Rattle.std.proofs.Common.{◌≡◌, ◌⊎◌, inl, inr, ℕ, zero, suc, ◌+◌, ◌<◌, ◌≤◌, ◌++◌, List, [], ◌∷◌, length, get_or, take, true, Some, None, refl, sym, ap, subst, ◌∙◌, arith}
use Rattle.std.specs.Prelude.{Option, option_map, is_some}
use Rattle.std.specs.List.{Contains}
use Rattle.std.proofs.lemmas.List.{take_more}
use Rattle.std.proofs.lemmas.List.Elements.{Contains-append_cases}
use Rattle.pt_document.specs.declared.code.Code.{Code}
use Rattle.pt_document.specs.declared.code.Code.TheVariants as code
use Rattle.pt_language.specs.Tree.{Tree}
use Rattle.pt_scopes.specs.Given.{HasNameOutside}
use Rattle.pt_scopes.specs.Texts.{IsRead, IsReaderFault, IsTreeFault, names_in}

pub there : {A B : Type 0} (f : A → B) (r : Option A) (o : Option B) → option_map f r ≡ o → is_some r ≡ true → (y : B) × (o ≡ Some y)
there f None o e t = cc
there f (Some x) o e t = (f x, sym e)

first : (name other : List ℕ) → Contains (name ∷ []) other → name ≡ other
first name other (zero, short, is) = is
first name other (suc k, short, is) = absurd (omega arith)

either : (P : List ℕ → Type 0) (xs : List (List ℕ)) (x name : List ℕ) → ((n : List ℕ) → Contains xs n → P n) → P x → Contains xs name ⊎ Contains (x ∷ []) name → P name
either P xs x name each last (inl w) = each name w
either P xs x name each last (inr w) = subst P (first x name w) last

-- what holds of each name up to a number and of the next
pub each-more : (P : List ℕ → Type 0) (xs : List (List ℕ)) (i : ℕ) (x : List ℕ) → i < length xs → x ≡ get_or xs i x → ((n : List ℕ) → Contains (take i xs) n → P n) → P x → (name : List ℕ) → Contains (take (i + 1) xs) name → P name
each-more P xs i x short is each last name w =
    let more : take (i + 1) xs ≡ take i xs ++ x ∷ [] = take_more xs i x short ∙ ap (λ y. take i xs ++ y ∷ []) (sym is) in
    either P (take i xs) x name each last (Contains-append_cases (take i xs) (x ∷ []) name (subst (λ ns. Contains ns name) more w))

take-all : (xs : List (List ℕ)) (i : ℕ) → length xs ≤ i → take i xs ≡ xs
take-all [] zero h = refl
take-all [] (suc i) h = refl
take-all (x ∷ xs) zero h = absurd (omega arith)
take-all (x ∷ xs) (suc i) h = ap (λ ys. x ∷ ys) (take-all xs i (omega arith))

pub each-of_all : (P : List ℕ → Type 0) (xs : List (List ℕ)) (i : ℕ) → length xs ≤ i → ((n : List ℕ) → Contains (take i xs) n → P n) → (name : List ℕ) → Contains xs name → P name
each-of_all P xs i h each name w = each name (subst (λ ns. Contains ns name) (sym (take-all xs i h)) w)

-- a name that isn't in scope is told of the tree
pub outside_told : (IsIn : List ℕ → Type 0) (text : List ℕ) (t : Tree) → IsRead text t → (cause : Code) → (cause ≡ code.ExprName) × HasNameOutside IsIn (names_in t) → IsTreeFault IsIn text cause
outside_told IsIn text t read cause h =
    subst (IsTreeFault IsIn text) (sym h.0) (record { read = t; is_read = read; name = h.1.name; stands = h.1.stands; strange = h.1.outside })

pub reader_of_tree : (IsIn : List ℕ → Type 0) (text : List ℕ) (cause : Code) → IsReaderFault text cause → IsTreeFault IsIn text cause
reader_of_tree IsIn text code.Limit h = h
reader_of_tree IsIn text code.ExprSyntax h = h
reader_of_tree IsIn text _ h = absurd h
