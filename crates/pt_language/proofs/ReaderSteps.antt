-- What follows from an answer of a step of the reader.
use Rattle.std.proofs.Common.{◌≡◌, ◌≢◌, ℕ, zero, suc, ◌+◌, ◌<◌, ◌≤◌, ◌⊎◌, inl, inr, List, [], ◌∷◌, ◌++◌, length, get_or, Bool, true, false, cond, eqb, Option, Some, None, option_map, refl, sym, ◌∙◌, ap, subst, append_assoc, arith}
use Rattle.std.proofs.lemmas.Option.{some_pair_parts, same_Some, cond_some}
use Rattle.std.proofs.lemmas.Bool.Decides.{nat_tests}
use Rattle.pt_language.specs.declared.word.Word.{Word}
use Rattle.pt_language.specs.declared.word.Word.TheVariants.{Digits, Quoted, Name}
use Rattle.pt_language.specs.declared.word.Word.TheVariants as word
use Rattle.pt_language.specs.declared.word.Symbol.{Symbol}
use Rattle.pt_language.specs.declared.word.Symbol.TheVariants.{True, False, Abs, Max, Min, Open, Close, OpenBrace, CloseBrace, Comma, Dot, Question, Colon, Assign, Not, Minus, Plus, Star, Slash, Percent, Less, LessEqual, Greater, GreaterEqual, Equal, Unequal, And, Or}
use Rattle.pt_language.specs.Symbol.{number, is_symbol, after}
use Rattle.pt_language.specs.Descent.{◌>>=◌, given, closed, name_first}

pub bind_some : {A B : Type 0} (o : Option A) (f : A → Option B) (y : B) → (o >>= f) ≡ Some y → (x : A) × (o ≡ Some x) × (f x ≡ Some y)
bind_some None f y e = cc
bind_some (Some x) f y e = (x, refl, e)

pub given_some : {A B : Type 0} (o : Option A) (d : B) (f : A → B) (y : B) → given o d f ≡ y → ((o ≡ None) × (d ≡ y)) ⊎ ((x : A) × (o ≡ Some x) × (f x ≡ y))
given_some None d f y e = inl (refl, e)
given_some (Some x) d f y e = inr (x, refl, e)

pub map_some : {A B : Type 0} (f : A → B) (o : Option A) (y : B) → option_map f o ≡ Some y → (x : A) × (o ≡ Some x) × (f x ≡ y)
map_some f None y e = cc
map_some f (Some x) y e = (x, refl, same_Some _ _ e)

-- a symbol is known by its number
all_symbols : List Symbol
all_symbols = True ∷ False ∷ Abs ∷ Max ∷ Min ∷ Open ∷ Close ∷ OpenBrace ∷ CloseBrace ∷ Comma ∷ Dot ∷ Question ∷ Colon ∷ Assign ∷ Not ∷ Minus ∷ Plus ∷ Star ∷ Slash ∷ Percent ∷ Less ∷ LessEqual ∷ Greater ∷ GreaterEqual ∷ Equal ∷ Unequal ∷ And ∷ Or ∷ []

numbered : ℕ → Symbol
numbered n = get_or all_symbols n True

numbered-number : (s : Symbol) → numbered (number s) ≡ s
unfolding numbered all_symbols
numbered-number True = refl
numbered-number False = refl
numbered-number Abs = refl
numbered-number Max = refl
numbered-number Min = refl
numbered-number Open = refl
numbered-number Close = refl
numbered-number OpenBrace = refl
numbered-number CloseBrace = refl
numbered-number Comma = refl
numbered-number Dot = refl
numbered-number Question = refl
numbered-number Colon = refl
numbered-number Assign = refl
numbered-number Not = refl
numbered-number Minus = refl
numbered-number Plus = refl
numbered-number Star = refl
numbered-number Slash = refl
numbered-number Percent = refl
numbered-number Less = refl
numbered-number LessEqual = refl
numbered-number Greater = refl
numbered-number GreaterEqual = refl
numbered-number Equal = refl
numbered-number Unequal = refl
numbered-number And = refl
numbered-number Or = refl

number_same : (r s : Symbol) → number r ≡ number s → r ≡ s
number_same r s e = sym (numbered-number r) ∙ ap numbered e ∙ numbered-number s

eqb_same : (m n : ℕ) → eqb m n ≡ true → m ≡ n
eqb_same m n e = grind (arith, nat_tests)

pub is_symbol_true : (s : Symbol) (w : Word) → is_symbol s w ≡ true → w ≡ word.Symbol s
is_symbol_true s (Digits n) e = cc
is_symbol_true s (Quoted text) e = cc
is_symbol_true s (Name name) e = cc
is_symbol_true s (word.Symbol r) e = ap word.Symbol (number_same r s (eqb_same _ _ e))

pub after_some : (s : Symbol) (ws rest : List Word) → after s ws ≡ Some rest → ws ≡ word.Symbol s ∷ rest
after_some s [] rest e = cc
after_some s (w ∷ ws) rest e =
    let p = cond_some (is_symbol s w) ws rest e in
    λ i. is_symbol_true s w p.0 i ∷ p.1 i

pub closed_some : {A : Type 0} (s : Symbol) (x y : A) (ws rest : List Word) → closed s x ws ≡ Some (y, rest) → (x ≡ y) × (ws ≡ word.Symbol s ∷ rest)
closed_some s x y ws rest e =
    let b = bind_some (after s ws) _ _ e in
    let p = some_pair_parts _ _ _ _ b.2 in
    (p.0, after_some s ws b.0 b.1 ∙ ap (λ r. word.Symbol s ∷ r) p.1)

pub name_first_some : (ws : List Word) (n : List ℕ) (rest : List Word) → name_first ws ≡ Some (n, rest) → ws ≡ word.Name n ∷ rest
name_first_some [] n rest e = cc
name_first_some (Digits m ∷ ws) n rest e = cc
name_first_some (Quoted text ∷ ws) n rest e = cc
name_first_some (word.Name name ∷ ws) n rest e = let p = some_pair_parts _ _ _ _ e in λ i. word.Name (p.0 i) ∷ p.1 i
name_first_some (word.Symbol s ∷ ws) n rest e = cc

-- words, a word between, and words again
pub joined_at : (ws a x y b rest : List Word) (w : Word) → ws ≡ a ++ x → x ≡ w ∷ y → y ≡ b ++ rest → ws ≡ (a ++ w ∷ b) ++ rest
joined_at ws a x y b rest w p q r =
    let e : a ++ (w ∷ (b ++ rest)) ≡ (a ++ w ∷ b) ++ rest = simp append_assoc in
    p ∙ ap (λ v. a ++ v) (q ∙ ap (λ v. w ∷ v) r) ∙ e

pub front_then : (ws a x b rest : List Word) → ws ≡ a ++ x → x ≡ b ++ rest → ws ≡ (a ++ b) ++ rest
front_then ws a x b rest p q =
    let e : a ++ (b ++ rest) ≡ (a ++ b) ++ rest = simp append_assoc in
    p ∙ ap (λ v. a ++ v) q ∙ e
