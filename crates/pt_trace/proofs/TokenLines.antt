-- The lines of tokens, one by one, and the last of tokens in two parts.
use Rattle.std.proofs.Common.{◌≡◌, ℕ, ℤ, pos, zero, suc, ◌+◌, ◌-◌, ◌<◌, List, [], ◌∷◌, ◌++◌, length, drop, map, get_or, refl, sym, ap, ap₂, ◌∙◌, arith, add-one, append_assoc, append-nil, codes, None, Some, option_map, slice_get}
use Rattle.std.proofs.lemmas.List.{length-map, drop_more}
use Rattle.std.proofs.lemmas.Option.{slice_get-get_or}
use Rattle.pt_meaning.specs.Basics.{Tag, with_tag}
use Rattle.pt_value.specs.declared.token.Token.{Token}
use Rattle.pt_value.specs.declared.token.Token.TheVariants.{Int}
use Rattle.pt_trace.specs.Report.{Trace}
use Rattle.pt_trace.specs.TraceText.{token_line, token_lines, trace_text}
use Rattle.pt_trace.specs.SummaryText.{last}

length-with_tag : {T : Type 0} (tag : Tag) (xs : List T) → length (with_tag tag xs) ≡ length xs
length-with_tag tag [] = refl
length-with_tag tag (x ∷ xs) = ap suc (length-with_tag tag xs)

pub lines-append : (n : ℕ) (xs ys : List (Tag × Token)) → token_lines n (xs ++ ys) ≡ token_lines n xs ++ token_lines (n + length xs) ys
lines-append n [] ys = let same : n ≡ n + 0 = omega arith in ap (λ m. token_lines m ys) same
lines-append n (x ∷ xs) ys =
    let same : suc n + length xs ≡ n + suc (length xs) = omega arith in
    ap (λ v. token_line n x.0 x.1 ++ v) (lines-append (suc n) xs ys ∙ ap (λ m. token_lines (suc n) xs ++ token_lines m ys) same) ∙ sym (append_assoc (token_line n x.0 x.1) (token_lines (suc n) xs) (token_lines (n + suc (length xs)) ys))

-- those of a row and those behind it
pub lines-parts : (tag : Tag) (ns : List ℤ) (rest tokens : List (Tag × Token)) (n : ℕ) → with_tag tag (map Int ns) ++ rest ≡ tokens → n ≡ length ns → token_lines 0 (with_tag tag (map Int ns)) ++ token_lines n rest ≡ token_lines 0 tokens
lines-parts tag ns rest tokens n e h =
    let many : n ≡ 0 + length (with_tag tag (map Int ns)) = omega (arith, h, length-with_tag tag (map Int ns), length-map ns Int) in
    ap (λ m. token_lines 0 (with_tag tag (map Int ns)) ++ token_lines m rest) many ∙ sym (lines-append 0 (with_tag tag (map Int ns)) rest) ∙ ap (λ v. token_lines 0 v) e

pub trace-lines : (before at_text at_end at_lines last shown : List ℕ) (trace : Trace) (lines more : List ℕ) → at_text ≡ before ++ codes "trace " → at_end ≡ at_text ++ shown → shown ≡ trace.text → at_lines ≡ at_end ++ codes "\n" → last ≡ at_lines ++ lines → lines ++ more ≡ token_lines 0 trace.tokens → last ++ more ≡ before ++ trace_text trace
trace-lines before at_text at_end at_lines last shown trace lines more a b s c d e =
    ap (λ v. v ++ more) (d ∙ ap (λ v. v ++ lines) (c ∙ ap (λ v. v ++ codes "\n") (b ∙ ap₂ (λ (v w : List ℕ). v ++ w) a s)))
    ∙ append_assoc (((before ++ codes "trace ") ++ trace.text) ++ codes "\n") lines more ∙ ap (λ v. (((before ++ codes "trace ") ++ trace.text) ++ codes "\n") ++ v) e
    ∙ ap (λ v. (v ++ codes "\n") ++ token_lines 0 trace.tokens) (append_assoc before (codes "trace ") trace.text)
    ∙ ap (λ v. v ++ token_lines 0 trace.tokens) (append_assoc before (codes "trace " ++ trace.text) (codes "\n") ∙ ap (λ v. before ++ v) (append_assoc (codes "trace ") trace.text (codes "\n")))
    ∙ append_assoc before (codes "trace " ++ (trace.text ++ codes "\n")) (token_lines 0 trace.tokens)

-- the line of the number at a place, and those of the numbers behind it
pub numbers-more : (before now : List ℕ) (tag : Tag) (ns : List ℤ) (k : ℕ) → now ≡ before ++ token_line k tag (Int (get_or ns k (pos 0))) → k < length ns → now ++ token_lines (k + 1) (with_tag tag (map Int (drop (k + 1) ns))) ≡ before ++ token_lines k (with_tag tag (map Int (drop k ns)))
numbers-more before now tag ns k e h =
    let behind : List (Tag × Token) = with_tag tag (map Int (drop (k + 1) ns)) in
    let line : List ℕ = token_line k tag (Int (get_or ns k (pos 0))) in
    ap₂ (λ v m. v ++ token_lines m behind) e (add-one k) ∙ append_assoc before line (token_lines (suc k) behind) ∙ ap (λ v. before ++ token_lines k (with_tag tag (map Int v))) (sym (drop_more ns k (pos 0) h))

none-there : {A : Type 0} (xs : List A) → slice_get xs (length xs - 1) ≡ None → xs ≡ []
none-there [] h = refl
none-there (x ∷ xs) h = let found : Some (get_or (x ∷ xs) (length (x ∷ xs) - 1) x) ≡ None = sym (slice_get-get_or (x ∷ xs) (length (x ∷ xs) - 1) x (omega arith)) ∙ h in absurd (cc found)

at-tagged : (tag : Tag) (ns : List ℤ) (k : ℕ) → slice_get (with_tag tag (map Int ns)) k ≡ option_map (λ n. (tag, Int n)) (slice_get ns k)
at-tagged tag [] k = refl
at-tagged tag (n ∷ ns) zero = refl
at-tagged tag (n ∷ ns) (suc k) = at-tagged tag ns k

-- the last of a row, where nothing is behind it
pub last-row : (tag : Tag) (ns : List ℤ) (rest tokens : List (Tag × Token)) (n : ℤ) → with_tag tag (map Int ns) ++ rest ≡ tokens → slice_get rest (length rest - 1) ≡ None → slice_get ns (length ns - 1) ≡ Some n → last tokens ≡ Some (tag, Int n)
last-row tag ns rest tokens n e none h =
    let row : tokens ≡ with_tag tag (map Int ns) = sym e ∙ ap (λ v. with_tag tag (map Int ns) ++ v) (none-there rest none) ∙ append-nil (with_tag tag (map Int ns)) in
    let many : length (with_tag tag (map Int ns)) ≡ length ns = length-with_tag tag (map Int ns) ∙ length-map ns Int in
    ap last row ∙ ap (λ m. slice_get (with_tag tag (map Int ns)) (m - 1)) many ∙ at-tagged tag ns (length ns - 1) ∙ ap (λ o. option_map (λ m. (tag, Int m)) o) h
