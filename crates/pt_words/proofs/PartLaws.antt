-- Facts of numbers, words and commands.
use Rattle.std.proofs.Common.{◌≡◌, inl, inr, ℕ, List, [], ◌∷◌, ◌++◌, drop, get_or, Option, Some, None, IfSome, sym, ap, ◌∙◌, subst, codes, arith}
use Rattle.std.specs.Str.Parse.{AllDigits}
use Rattle.pt_words.specs.declared.parts.Parts.{Parts}
use Rattle.pt_words.specs.declared.line.Line.{Line}
use Rattle.pt_words.specs.Number.{IsNumber}
use Rattle.pt_words.specs.Parts.{IsOption, IsTheOne, IsOneWord, IsGeneration, IsDemonstration, Asks}

IfSome-weaker : {A : Type 0} (P Q : A → Type 0) → ((a : A) → P a → Q a) → (o : Option A) → IfSome o P → IfSome o Q
IfSome-weaker P Q h None x = tt
IfSome-weaker P Q h (Some a) x = h a x

-- two properties of the same things
pub same_one : {A : Type 0} (P Q : A → Type 0) → ((a : A) → P a → Q a) → ((a : A) → Q a → P a) → (o : Option A) → IsTheOne P o → IsTheOne Q o
same_one P Q to back o h = record { some = IfSome-weaker P Q to o h.some; only = λ a q. h.only a (back a q) }

pub no_one : {A : Type 0} (P : A → Type 0) → ((a : A) → P a → ⊥) → IsTheOne P None
no_one P none = record { some = tt; only = λ a p. absurd (none a p) }

pub same_number : (text : List ℕ) (m n : ℕ) → IsNumber text m → IsNumber text n → m ≡ n
same_number text m n a b = a.value ∙ sym b.value

pub first_letter : (xs ys : List ℕ) (c d : ℕ) → (c ≡ d → ⊥) → c ∷ xs ≡ d ∷ ys → ⊥
first_letter xs ys c d differ e = differ (ap (λ (zs : List ℕ). get_or zs 0 0) e)

pub full : {A : Type 0} (o : Option A) (a : A) → o ≡ Some a → o ≡ None → ⊥
full None a e f = cc
full (Some b) a e f = cc

-- ---- words

-- no number begins with a dash
pub no_dash : (word rest : List ℕ) (n : ℕ) → word ≡ 45 ∷ rest → IsNumber word n → ⊥
no_dash word rest n is h = let digits : AllDigits 10 (45 ∷ rest) = subst (AllDigits 10) is h.digits.1 in omega (arith, digits.0)

pub same_behind : (a b : List ℕ) → codes "--workers=" ++ a ≡ codes "--workers=" ++ b → a ≡ b
same_behind a b e = ap (drop 10) e

pub same_behind_budget : (a b : List ℕ) → codes "--budget=" ++ a ≡ codes "--budget=" ++ b → a ≡ b
same_behind_budget a b e = ap (drop 9) e

letters_differ : ◌≡◌ {A = ℕ} 119 98 → ⊥
letters_differ e = omega (arith, e)

pub apart : (a b : List ℕ) → codes "--workers=" ++ a ≡ codes "--budget=" ++ b → ⊥
apart a b e = letters_differ (ap (λ (xs : List ℕ). get_or xs 2 0) e)

pub names_differ : codes "--workers" ≡ codes "--budget" → ⊥
names_differ e = letters_differ (ap (λ (xs : List ℕ). get_or xs 2 0) e)

-- the name of an option isn't a part by itself
pub not_one : (word : List ℕ) (rest whole : Parts) → IsOption word → IsOneWord word rest whole → ⊥
not_one word rest whole option one =
    elim option [
      | inl is ↦ (elim one [
        | inl g ↦ no_dash word (codes "-workers") g.n is g.is.number
        | inr (inl (other, e, g)) ↦ (let more : [] ≡ 61 ∷ other = ap (drop 9) (sym is ∙ e) in absurd cc)
        | inr (inr (other, e, g)) ↦ letters_differ (ap (λ (xs : List ℕ). get_or xs 2 0) (sym is ∙ e))
      ])
      | inr is ↦ (elim one [
        | inl g ↦ no_dash word (codes "-budget") g.n is g.is.number
        | inr (inl (other, e, g)) ↦ letters_differ (sym (ap (λ (xs : List ℕ). get_or xs 2 0) (sym is ∙ e)))
        | inr (inr (other, e, g)) ↦ (let more : [] ≡ 61 ∷ other = ap (drop 8) (sym is ∙ e) in absurd cc)
      ])
    ]

-- ---- commands

pub asks_gen : (first : List ℕ) (parts : Parts) (r : Option Line) → first ≡ codes "gen" → IsTheOne (IsGeneration parts) r → IsTheOne (Asks first parts) r
asks_gen first parts r is h =
    same_one (IsGeneration parts) (Asks first parts) (λ a g. inr (inr (inl (is, g))))
    (λ a asked. elim asked [
      | inl (e, g) ↦ absurd (first_letter (codes "en") (codes "un") 103 114 (λ x. omega (arith, x)) (sym is ∙ e))
      | inr (inl (e, g)) ↦ absurd (first_letter (codes "en") (codes "heck") 103 99 (λ x. omega (arith, x)) (sym is ∙ e))
      | inr (inr (inl (e, g))) ↦ g
      | inr (inr (inr (e, g))) ↦ absurd (first_letter (codes "en") (codes "emo") 103 100 (λ x. omega (arith, x)) (sym is ∙ e))
    ]) r h

pub asks_demo : (first : List ℕ) (parts : Parts) (r : Option Line) → first ≡ codes "demo" → IsTheOne (IsDemonstration parts) r → IsTheOne (Asks first parts) r
asks_demo first parts r is h =
    same_one (IsDemonstration parts) (Asks first parts) (λ a g. inr (inr (inr (is, g))))
    (λ a asked. elim asked [
      | inl (e, g) ↦ absurd (first_letter (codes "emo") (codes "un") 100 114 (λ x. omega (arith, x)) (sym is ∙ e))
      | inr (inl (e, g)) ↦ absurd (first_letter (codes "emo") (codes "heck") 100 99 (λ x. omega (arith, x)) (sym is ∙ e))
      | inr (inr (inl (e, g))) ↦ absurd (first_letter (codes "emo") (codes "en") 100 103 (λ x. omega (arith, x)) (sym is ∙ e))
      | inr (inr (inr (e, g))) ↦ g
    ]) r h
