-- The words of a text, written one behind the other, whatever stands behind them.
use Rattle.std.proofs.Common.{◌≡◌, ℕ, suc, ◌+◌, ◌<◌, ◌≤◌, ◌^◌, List, [], ◌∷◌, ◌++◌, length, take, drop, flat_map, Bool, true, false, cond, ◌&&◌, eqb, Option, Some, None, option_map, codes, refl, sym, subst, ap, ◌∙◌, append_assoc, arith}
use Rattle.std.proofs.lemmas.Bool.Decides.{nat_tests}
use Rattle.std.proofs.lemmas.Fmt.{digits_decimal, decimal_is_IsNumeral, decimal_nonempty}
use Rattle.std.proofs.lemmas.Str.Parse.{numerals_by_value, tells_all_ascii_digits}
use Rattle.std.specs.List.{prefix_len}
use Rattle.std.specs.Fmt.{decimal}
use Rattle.std.specs.Str.{all_ascii_digits}
use Rattle.std.specs.Char.{is_ascii_digit}
use Rattle.pt_value.specs.Printed.{escaped, quoted}
use Rattle.pt_language.specs.declared.word.Word.{Word}
use Rattle.pt_language.specs.declared.word.Word.TheVariants.{Digits, Quoted, Name}
use Rattle.pt_language.specs.declared.word.Word.TheVariants as word
use Rattle.pt_language.specs.declared.word.Symbol.TheVariants as symbol
use Rattle.pt_language.specs.Words.{Found, Splits, stops, goes_on, word_at, without_blanks, is_blank, begins_name, continues_name, name_at, name_of, digits_at, number_of, string_at, behind}
use Rattle.pt_expr_print.proofs.Legal.{IsSpelled}

-- no letter, digit or underscore stands at the front
abbrev pub IsApart : List ℕ → Type 0
IsApart [] = Unit {0}
IsApart (c ∷ cs) = continues_name c ≡ false

-- a text has these words, whatever stands behind it, apart
abbrev pub Scans : List ℕ → List Word → Type 0
Scans text ws = (rest left : List ℕ) (vs : List Word) → IsApart rest → Splits rest vs left → Splits (text ++ rest) (ws ++ vs) left

pub nothing : Scans [] []
nothing rest left vs a s = s

-- one text behind another that begins apart
pub behind_it : (a b : List ℕ) (us ws : List Word) → Scans a us → ((rest : List ℕ) → IsApart rest → IsApart (b ++ rest)) → Scans b ws → Scans (a ++ b) (us ++ ws)
behind_it a b us ws f apart g rest left vs h s =
    let P : List ℕ → Type 0 = λ text. Splits text ((us ++ ws) ++ vs) left in
    let Q : List Word → Type 0 = λ v. Splits (a ++ (b ++ rest)) v left in
    subst P (sym (append_assoc a b rest)) (subst Q (sym (append_assoc us ws vs)) (f (b ++ rest) left (ws ++ vs) (apart rest h) (g rest left vs h s)))

-- a blank in front
blank_behind : (xs : List ℕ) → without_blanks (32 ∷ xs) ≡ without_blanks xs
blank_behind xs =
    let q : 1 + prefix_len is_blank xs ≡ suc (prefix_len is_blank xs) = omega arith in
    ap (λ n. drop n (32 ∷ xs)) q

pub blank_first : {text left : List ℕ} {ws : List Word} → Splits text ws left → Splits (32 ∷ text) ws left
blank_first (stops {text = text} e) =
    let P : List ℕ → Type 0 = λ v. Splits (32 ∷ text) [] v in
    let Q : List ℕ → Type 0 = λ v. word_at v ≡ None in
    subst P (blank_behind text) (stops {text = 32 ∷ text} (subst Q (sym (blank_behind text)) e))
blank_first (goes_on {text = text} {rest = rest} {w = w} e s) =
    let Q : List ℕ → Type 0 = λ v. word_at v ≡ Some (w, rest) in
    goes_on {text = 32 ∷ text} (subst Q (sym (blank_behind text)) e) s

-- a word in front, which doesn't begin with a blank
no_blanks : (c : ℕ) (cs : List ℕ) → is_blank c ≡ false → without_blanks (c ∷ cs) ≡ c ∷ cs
no_blanks c cs e = ap (λ b. drop (cond b (1 + prefix_len is_blank cs) 0) (c ∷ cs)) e

pub word_first : (c : ℕ) (cs rest left : List ℕ) (w : Word) (ws : List Word) → is_blank c ≡ false → word_at (c ∷ cs) ≡ Some (w, rest) → Splits rest ws left → Splits (c ∷ cs) (w ∷ ws) left
word_first c cs rest left w ws e f s =
    let Q : List ℕ → Type 0 = λ v. word_at v ≡ Some (w, rest) in
    goes_on {text = c ∷ cs} (subst Q (sym (no_blanks c cs e)) f) s

-- symbols of one byte that begin no longer one
pub open_at : (xs : List ℕ) → word_at (40 ∷ xs) ≡ Some (word.Symbol symbol.Open, xs)
open_at [] = refl
open_at (x ∷ xs) = refl

pub close_at : (xs : List ℕ) → word_at (41 ∷ xs) ≡ Some (word.Symbol symbol.Close, xs)
close_at [] = refl
close_at (x ∷ xs) = refl

pub open_brace_at : (xs : List ℕ) → word_at (123 ∷ xs) ≡ Some (word.Symbol symbol.OpenBrace, xs)
open_brace_at [] = refl
open_brace_at (x ∷ xs) = refl

pub close_brace_at : (xs : List ℕ) → word_at (125 ∷ xs) ≡ Some (word.Symbol symbol.CloseBrace, xs)
close_brace_at [] = refl
close_brace_at (x ∷ xs) = refl

pub dot_at : (xs : List ℕ) → word_at (46 ∷ xs) ≡ Some (word.Symbol symbol.Dot, xs)
dot_at [] = refl
dot_at (x ∷ xs) = refl

pub minus_at : (xs : List ℕ) → word_at (45 ∷ xs) ≡ Some (word.Symbol symbol.Minus, xs)
minus_at [] = refl
minus_at (x ∷ xs) = refl

-- a run goes on to the first element that doesn't pass
run_on : (p : ℕ → Bool) (xs rest : List ℕ) → prefix_len p xs ≡ length xs → prefix_len p rest ≡ 0 → prefix_len p (xs ++ rest) ≡ length xs
run_on p [] rest e z = z
run_on p (x ∷ xs) rest e z = by_test (p x) e (run_on p xs rest)
  where
    by_test : (b : Bool) → cond b (1 + prefix_len p xs) 0 ≡ suc (length xs) → (prefix_len p xs ≡ length xs → prefix_len p rest ≡ 0 → prefix_len p (xs ++ rest) ≡ length xs) → cond b (1 + prefix_len p (xs ++ rest)) 0 ≡ suc (length xs)
    by_test true f h = let k = h (omega (arith, f)) z in omega (arith, k)
    by_test false f h = absurd (omega (arith, f))

taken : (xs rest : List ℕ) → take (length xs) (xs ++ rest) ≡ xs
taken [] rest = refl
taken (x ∷ xs) rest = ap (λ l. x ∷ l) (taken xs rest)

dropped : (xs rest : List ℕ) → drop (length xs) (xs ++ rest) ≡ rest
dropped [] rest = refl
dropped (x ∷ xs) rest = dropped xs rest

apart_name : (rest : List ℕ) → IsApart rest → prefix_len continues_name rest ≡ 0
apart_name [] h = refl
apart_name (c ∷ cs) h = ap (λ b. cond b (1 + prefix_len continues_name cs) 0) h

no_digit : (c : ℕ) → continues_name c ≡ false → is_ascii_digit c ≡ false
no_digit c h = grind (arith, nat_tests)

apart_digits : (rest : List ℕ) → IsApart rest → prefix_len is_ascii_digit rest ≡ 0
apart_digits [] h = refl
apart_digits (c ∷ cs) h = ap (λ b. cond b (1 + prefix_len is_ascii_digit cs) 0) (no_digit c h)

-- names and reserved words
not_quote : (c : ℕ) → begins_name c ≡ true → eqb c 34 ≡ false
not_quote c h = grind (arith, nat_tests)

not_digit : (c : ℕ) → begins_name c ≡ true → is_ascii_digit c ≡ false
not_digit c h = grind (arith, nat_tests)

not_blank : (c : ℕ) → begins_name c ≡ true → is_blank c ≡ false
not_blank c h = grind (arith, nat_tests)

third : (a b d : Bool) (q r s t : Found) → a ≡ false → b ≡ false → d ≡ true → cond a q (cond b r (cond d s t)) ≡ s
third true b d q r s t e f h = cc
third false true d q r s t e f h = cc
third false false true q r s t e f h = refl
third false false false q r s t e f h = cc

named : (name rest : List ℕ) (w : Word) → IsSpelled name w → IsApart rest → name_at (name ++ rest) ≡ Some (w, rest)
named name rest w s h =
    let n = run_on continues_name name rest s.runs (apart_name rest h) in
    let e : take (prefix_len continues_name (name ++ rest)) (name ++ rest) ≡ name = ap (λ k. take k (name ++ rest)) n ∙ taken name rest in
    let d : drop (prefix_len continues_name (name ++ rest)) (name ++ rest) ≡ rest = ap (λ k. drop k (name ++ rest)) n ∙ dropped name rest in
    ap (λ v. option_map (λ (u : Word). (u, drop (prefix_len continues_name (name ++ rest)) (name ++ rest))) (name_of v)) e
    ∙ ap (λ v. option_map (λ (u : Word). (u, v)) (name_of name)) d
    ∙ ap (option_map (λ (u : Word). (u, rest))) s.is

spelled_at : (name rest : List ℕ) (w : Word) → IsSpelled name w → IsApart rest → word_at (name ++ rest) ≡ Some (w, rest)
spelled_at [] rest w s h = absurd s.begins
spelled_at (c ∷ cs) rest w s h =
    third (eqb c 34) (is_ascii_digit c) (begins_name c) _ _ _ _ (not_quote c s.begins) (not_digit c s.begins) s.begins ∙ named (c ∷ cs) rest w s h

pub spelled_scans : (name : List ℕ) (w : Word) → IsSpelled name w → Scans name (w ∷ [])
spelled_scans [] w s rest left vs h k = absurd s.begins
spelled_scans (c ∷ cs) w s rest left vs h k = word_first c (cs ++ rest) rest left w vs (not_blank c s.begins) (spelled_at (c ∷ cs) rest w s h) k

-- integers
all_run : (xs : List ℕ) → all_ascii_digits xs ≡ true → prefix_len is_ascii_digit xs ≡ length xs
all_run [] h = refl
all_run (x ∷ xs) h = by_test (is_ascii_digit x) h (all_run xs)
  where
    by_test : (b : Bool) → (b && all_ascii_digits xs) ≡ true → (all_ascii_digits xs ≡ true → prefix_len is_ascii_digit xs ≡ length xs) → cond b (1 + prefix_len is_ascii_digit xs) 0 ≡ suc (length xs)
    by_test true f k = let e = k f in omega (arith, e)
    by_test false f k = cc

digit_first : (x : ℕ) (xs : List ℕ) → all_ascii_digits (x ∷ xs) ≡ true → is_ascii_digit x ≡ true
digit_first x xs h = by_test (is_ascii_digit x) h
  where
    by_test : (b : Bool) → (b && all_ascii_digits xs) ≡ true → b ≡ true
    by_test true f = refl
    by_test false f = cc

digit_not_quote : (c : ℕ) → is_ascii_digit c ≡ true → eqb c 34 ≡ false
digit_not_quote c h = grind (arith, nat_tests)

digit_not_blank : (c : ℕ) → is_ascii_digit c ≡ true → is_blank c ≡ false
digit_not_blank c h = grind (arith, nat_tests)

second : (a b : Bool) (q r s : Found) → a ≡ false → b ≡ true → cond a q (cond b r s) ≡ r
second true b q r s e f = cc
second false true q r s e f = refl
second false false q r s e f = cc

digits_found : (ds rest : List ℕ) (n : ℕ) → all_ascii_digits ds ≡ true → number_of ds ≡ n → IsApart rest → digits_at (ds ++ rest) ≡ (Digits n, rest)
digits_found ds rest n a e h =
    let k = run_on is_ascii_digit ds rest (all_run ds a) (apart_digits rest h) in
    let t : take (prefix_len is_ascii_digit (ds ++ rest)) (ds ++ rest) ≡ ds = ap (λ i. take i (ds ++ rest)) k ∙ taken ds rest in
    let d : drop (prefix_len is_ascii_digit (ds ++ rest)) (ds ++ rest) ≡ rest = ap (λ i. drop i (ds ++ rest)) k ∙ dropped ds rest in
    ap (λ v. (Digits (number_of v), drop (prefix_len is_ascii_digit (ds ++ rest)) (ds ++ rest))) t ∙ ap (λ v. (Digits (number_of ds), v)) d ∙ ap (λ v. (Digits v, rest)) e

digits_scan : (ds : List ℕ) (n : ℕ) → 0 < length ds → all_ascii_digits ds ≡ true → number_of ds ≡ n → Scans ds (Digits n ∷ [])
digits_scan [] n some a e rest left vs h s = absurd (omega arith)
digits_scan (d ∷ ds) n some a e rest left vs h s =
    let digit = digit_first d ds a in
    let f : word_at (d ∷ (ds ++ rest)) ≡ Some (Digits n, rest) =
    second (eqb d 34) (is_ascii_digit d) _ _ _ (digit_not_quote d digit) digit ∙ ap (λ x. Some x) (digits_found (d ∷ ds) rest n a e h) in
    word_first d (ds ++ rest) rest left (Digits n) vs (digit_not_blank d digit) f s

pub decimal_scans : (n : ℕ) → n ≤ 2 ^ 63 → Scans (decimal n) (Digits n ∷ [])
decimal_scans n h =
    let own = numerals_by_value (λ ds. all_ascii_digits ds ≡ true) tells_all_ascii_digits in
    let v = (decimal_is_IsNumeral n (omega arith)).1 in
    digits_scan (decimal n) n (decimal_nonempty n (omega arith)) (digits_decimal own n (omega arith)) (omega (arith, v))

-- texts in quotes
same_byte : (c d : ℕ) → eqb c d ≡ true → c ≡ d
same_byte c d e = grind (arith, nat_tests)

abbrev Content : Type 0
Content = Option (List ℕ × List ℕ)

escape_by : (a b d e f : Bool) (c : ℕ) (more : List ℕ) → eqb c 34 ≡ a → eqb c 92 ≡ b → eqb c 10 ≡ d → eqb c 9 ≡ e → eqb c 13 ≡ f
    → string_at (cond a (codes "\\\"") (cond b (codes "\\\\") (cond d (codes "\\n") (cond e (codes "\\t") (cond f (codes "\\r") (c ∷ []))))) ++ more) ≡ option_map (behind c) (string_at more)
escape_by true b d e f c more h i j k l = ap (λ x. option_map (behind x) (string_at more)) (sym (same_byte c 34 h))
escape_by false true d e f c more h i j k l = ap (λ x. option_map (behind x) (string_at more)) (sym (same_byte c 92 i))
escape_by false false true e f c more h i j k l = ap (λ x. option_map (behind x) (string_at more)) (sym (same_byte c 10 j))
escape_by false false false true f c more h i j k l = ap (λ x. option_map (behind x) (string_at more)) (sym (same_byte c 9 k))
escape_by false false false false true c more h i j k l = ap (λ x. option_map (behind x) (string_at more)) (sym (same_byte c 13 l))
escape_by false false false false false c more h i j k l = rw (h, i)

escape_read : (c : ℕ) (more : List ℕ) → string_at (escaped c ++ more) ≡ option_map (behind c) (string_at more)
escape_read c more = escape_by (eqb c 34) (eqb c 92) (eqb c 10) (eqb c 9) (eqb c 13) c more refl refl refl refl refl

string_read : (xs rest : List ℕ) → string_at (flat_map escaped xs ++ 34 ∷ rest) ≡ Some (xs, rest)
string_read [] rest = refl
string_read (x ∷ xs) rest =
    ap string_at (append_assoc (escaped x) (flat_map escaped xs) (34 ∷ rest)) ∙ escape_read x (flat_map escaped xs ++ 34 ∷ rest) ∙ ap (option_map (behind x)) (string_read xs rest)

pub quoted_scans : (text : List ℕ) → Scans (quoted text) (Quoted text ∷ [])
quoted_scans text rest left vs h s =
    let e : (flat_map escaped text ++ 34 ∷ []) ++ rest ≡ flat_map escaped text ++ 34 ∷ rest = append_assoc (flat_map escaped text) (34 ∷ []) rest in
    let f : word_at (34 ∷ ((flat_map escaped text ++ 34 ∷ []) ++ rest)) ≡ Some (Quoted text, rest) =
    ap (λ v. option_map (λ (read : List ℕ × List ℕ). (Quoted read.0, read.1)) (string_at v)) e ∙ ap (option_map (λ (read : List ℕ × List ℕ). (Quoted read.0, read.1))) (string_read text rest) in
    word_first 34 ((flat_map escaped text ++ 34 ∷ []) ++ rest) rest left (Quoted text) vs refl f s
