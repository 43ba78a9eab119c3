-- The names among the words of a text are names that a word can be.
use Rattle.std.proofs.Common.{◌≡◌, ℕ, suc, ◌+◌, List, [], ◌∷◌, length, take, Bool, true, false, cond, eqb, Option, Some, None, option_map, refl, sym, subst, ap, ◌∙◌, arith}
use Rattle.std.proofs.lemmas.Bool.Decides.{nat_tests}
use Rattle.std.proofs.lemmas.Option.{some_pair_parts}
use Rattle.std.specs.List.{prefix_len}
use Rattle.std.specs.Char.{is_ascii_digit}
use Rattle.pt_language.specs.declared.word.Word.{Word}
use Rattle.pt_language.specs.declared.word.Word.TheVariants.{Digits, Quoted, Name}
use Rattle.pt_language.specs.declared.word.Word.TheVariants as word
use Rattle.pt_language.specs.declared.word.Symbol.{Symbol}
use Rattle.pt_language.specs.declared.word.Symbol.TheVariants as symbol
use Rattle.pt_language.specs.Words.{Found, Splits, stops, goes_on, word_at, without_blanks, begins_name, continues_name, name_at, name_of, digits_at, quoted_at, string_at, symbol_at, symbol_of_one, symbol_of_two}
use Rattle.pt_expr_print.proofs.Legal.{Begins, IsSpelled, IsNameWord, IsWord, AreWords}

-- all of a run passes
run_passes : (p : ℕ → Bool) (xs : List ℕ) → prefix_len p (take (prefix_len p xs) xs) ≡ length (take (prefix_len p xs) xs)
run_passes p [] = refl
run_passes p (x ∷ xs) = by_test (p x) refl (run_passes p xs)
  where
    by_test : (b : Bool) → p x ≡ b → prefix_len p (take (prefix_len p xs) xs) ≡ length (take (prefix_len p xs) xs)
        → prefix_len p (take (cond b (1 + prefix_len p xs) 0) (x ∷ xs)) ≡ length (take (cond b (1 + prefix_len p xs) 0) (x ∷ xs))
    by_test true e h =
        let q : 1 + prefix_len p xs ≡ suc (prefix_len p xs) = omega arith in
        let P : ℕ → Type 0 = λ n. prefix_len p (take n (x ∷ xs)) ≡ length (take n (x ∷ xs)) in
        let k : cond (p x) (1 + prefix_len p (take (prefix_len p xs) xs)) 0 ≡ 1 + prefix_len p (take (prefix_len p xs) xs) = ap (λ b. cond b (1 + prefix_len p (take (prefix_len p xs) xs)) 0) e in
        subst P (sym q) (omega (arith, k, h))
    by_test false e h = refl

pub continues : (c : ℕ) → begins_name c ≡ true → continues_name c ≡ true
continues c h = grind (arith, nat_tests)

run_begins : (c : ℕ) (cs : List ℕ) → begins_name c ≡ true → Begins (take (prefix_len continues_name (c ∷ cs)) (c ∷ cs))
run_begins c cs h =
    let q : prefix_len continues_name (c ∷ cs) ≡ suc (prefix_len continues_name cs) =
    ap (λ b. cond b (1 + prefix_len continues_name cs) 0) (continues c h) ∙ (let k : 1 + prefix_len continues_name cs ≡ suc (prefix_len continues_name cs) = omega arith in k) in
    let P : ℕ → Type 0 = λ n. Begins (take n (c ∷ cs)) in
    subst P (sym q) h

-- what isn't reserved is itself the name
own_by : (a b c d e f : Bool) (text name : List ℕ)
    → ◌≡◌ {A = Option Word} (cond a (Some (word.Symbol symbol.True)) (cond b (Some (word.Symbol symbol.False)) (cond c (Some (word.Symbol symbol.Abs)) (cond d (Some (word.Symbol symbol.Max)) (cond e (Some (word.Symbol symbol.Min)) (cond f (Some (Name text)) None)))))) (Some (Name name))
    → text ≡ name
own_by true b c d e f text name h = cc
own_by false true c d e f text name h = cc
own_by false false true d e f text name h = cc
own_by false false false true e f text name h = cc
own_by false false false false true f text name h = cc
own_by false false false false false true text name h = cc
own_by false false false false false false text name h = cc

own_name : (text name : List ℕ) → name_of text ≡ Some (Name name) → text ≡ name
own_name text name h = own_by _ _ _ _ _ _ text name h

-- a name at the front
named_by : (o : Option Word) (more rest name : List ℕ) → ◌≡◌ {A = Found} (option_map (λ (w : Word). (w, more)) o) (Some (Name name, rest)) → o ≡ Some (Name name)
named_by None more rest name e = cc
named_by (Some w) more rest name e = ap (λ v. Some v) (some_pair_parts _ _ _ _ e).0

named_front : (c : ℕ) (cs name rest : List ℕ) → begins_name c ≡ true → name_at (c ∷ cs) ≡ Some (Name name, rest) → IsNameWord name
named_front c cs name rest h e =
    let text = take (prefix_len continues_name (c ∷ cs)) (c ∷ cs) in
    let o : name_of text ≡ Some (Name name) = named_by (name_of text) _ rest name e in
    let P : List ℕ → Type 0 = λ v. IsSpelled v (Name name) in
    let s : IsSpelled text (Name name) = record { begins = run_begins c cs h; runs = run_passes continues_name (c ∷ cs); is = o } in
    subst P (own_name text name o) s

-- no other word is a name
quoted_by : (o : Option (List ℕ × List ℕ)) (name rest : List ℕ) → ◌≡◌ {A = Found} (option_map (λ (read : List ℕ × List ℕ). (Quoted read.0, read.1)) o) (Some (Name name, rest)) → IsNameWord name
quoted_by None name rest e = cc
quoted_by (Some read) name rest e = let p = (some_pair_parts _ _ _ _ e).0 in cc

symbol_by : (o : Option Symbol) (more name rest : List ℕ) → ◌≡◌ {A = Found} (option_map (λ (s : Symbol). (word.Symbol s, more)) o) (Some (Name name, rest)) → IsNameWord name
symbol_by None more name rest e = cc
symbol_by (Some s) more name rest e = let p = (some_pair_parts _ _ _ _ e).0 in cc

abbrev longer_or : Option Symbol → Option Symbol → List ℕ → List ℕ → Found
longer_or (Some s) one short long = Some (word.Symbol s, long)
longer_or None one short long = option_map (λ s. (word.Symbol s, short)) one

longer_by : (two one : Option Symbol) (short long name rest : List ℕ) → longer_or two one short long ≡ Some (Name name, rest) → IsNameWord name
longer_by (Some s) one short long name rest e = let p = (some_pair_parts _ _ _ _ e).0 in cc
longer_by None one short long name rest e = symbol_by one short name rest e

symbol_front : (c : ℕ) (cs name rest : List ℕ) → symbol_at c cs ≡ Some (Name name, rest) → IsNameWord name
symbol_front c [] name rest e = symbol_by (symbol_of_one c) [] name rest e
symbol_front c (d ∷ cs) name rest e = longer_by (symbol_of_two c d) (symbol_of_one c) (d ∷ cs) cs name rest e

front_by : (a b d : Bool) (c : ℕ) (cs name rest : List ℕ) → begins_name c ≡ d
    → ◌≡◌ {A = Found} (cond a (quoted_at cs) (cond b (Some (digits_at (c ∷ cs))) (cond d (name_at (c ∷ cs)) (symbol_at c cs)))) (Some (Name name, rest)) → IsNameWord name
front_by true b d c cs name rest h e = quoted_by (string_at cs) name rest e
front_by false true d c cs name rest h e = let p = (some_pair_parts _ _ _ _ e).0 in cc
front_by false false true c cs name rest h e = named_front c cs name rest h e
front_by false false false c cs name rest h e = symbol_front c cs name rest e

name_front : (text name rest : List ℕ) → word_at text ≡ Some (Name name, rest) → IsNameWord name
name_front [] name rest e = cc
name_front (c ∷ cs) name rest e = front_by (eqb c 34) (is_ascii_digit c) (begins_name c) c cs name rest refl e

word_front : (text rest : List ℕ) (w : Word) → word_at text ≡ Some (w, rest) → IsWord w
word_front text rest (Digits n) e = tt
word_front text rest (Quoted content) e = tt
word_front text rest (Name name) e = name_front text name rest e
word_front text rest (word.Symbol s) e = tt

-- all words of a text
pub are_words : {text left : List ℕ} {ws : List Word} → Splits text ws left → AreWords ws
are_words (stops e) = tt
are_words (goes_on {text = text} {rest = rest} {w = w} e s) = (word_front (without_blanks text) rest w e, are_words s)
