-- Tokens that come behind others one by one, and the first of a row and what is behind it.
use Rattle.std.proofs.Common.{◌≡◌, ℕ, ℤ, pos, zero, suc, ◌+◌, ◌<◌, ◌≤◌, List, [], ◌∷◌, ◌++◌, length, take, map, get_or, refl, sym, ap, ap₂, ◌∙◌, arith, append_assoc, append-nil, add-one}
use Rattle.std.proofs.Math.Seq.{take-suc}
use Rattle.std.proofs.lemmas.List.{length-map, length-append, map-append, take_at}
use Rattle.pt_meaning.specs.Basics.{Tag, with_tag}
use Rattle.pt_value.specs.declared.token.Token.{Token}
use Rattle.pt_value.specs.declared.token.Token.TheVariants.{Int}

pub with_tag-append : {T : Type 0} (t : Tag) (xs ys : List T) → with_tag t (xs ++ ys) ≡ with_tag t xs ++ with_tag t ys
with_tag-append t [] ys = refl
with_tag-append t (x ∷ xs) ys = ap (λ v. (t, x) ∷ v) (with_tag-append t xs ys)

pub noted-more : (old now : List (Tag × Token)) (tag : Tag) (xs : List Token) (k : ℕ) (x y : Token) → now ≡ old ++ with_tag tag (take k xs) → k < length xs → x ≡ get_or xs k x → y ≡ x → now ++ ((tag, y) ∷ []) ≡ old ++ with_tag tag (take (k + 1) xs)
noted-more old now tag xs k x y h b e f =
    ap₂ (λ (v : List (Tag × Token)) (z : Token). v ++ ((tag, z) ∷ [])) h f ∙ append_assoc old (with_tag tag (take k xs)) ((tag, x) ∷ []) ∙
    ap (λ v. old ++ v) (ap (λ (z : Token). with_tag tag (take k xs) ++ ((tag, z) ∷ [])) e ∙ sym (with_tag-append tag (take k xs) (get_or xs k x ∷ [])) ∙ ap (λ v. with_tag tag v) (sym (take-suc xs k x b))) ∙
    ap (λ n. old ++ with_tag tag (take n xs)) (sym (add-one k))

-- integers are noted as the tokens that they are
int-at : (ns : List ℤ) (k : ℕ) (d : Token) → k < length ns → Int (get_or ns k (pos 0)) ≡ get_or (map Int ns) k d
int-at [] k d h = absurd (omega (arith, h))
int-at (n ∷ ns) zero d h = refl
int-at (n ∷ ns) (suc k) d h = int-at ns k d (omega (arith, h))

pub noted-number : (old now : List (Tag × Token)) (tag : Tag) (ns : List ℤ) (k : ℕ) → now ≡ old ++ with_tag tag (take k (map Int ns)) → k < length ns → now ++ ((tag, Int (get_or ns k (pos 0))) ∷ []) ≡ old ++ with_tag tag (take (k + 1) (map Int ns))
noted-number old now tag ns k h b =
    let x : Token = Int (get_or ns k (pos 0)) in
    noted-more old now tag (map Int ns) k x x h (omega (arith, b, length-map ns Int)) (int-at ns k x b) refl

-- the first of those in a row, with nothing behind them
pub take-row : (tag : Tag) (ns : List ℤ) (rest : List (Tag × Token)) (n : ℕ) → n ≤ length ns → with_tag tag (map Int (take n ns)) ++ [] ≡ take n (with_tag tag (map Int ns) ++ rest)
take-row tag ns rest zero h = refl
take-row tag [] rest (suc n) h = absurd (omega (arith, h))
take-row tag (x ∷ ns) rest (suc n) h = ap (λ v. (tag, Int x) ∷ v) (take-row tag ns rest n (omega (arith, h)))

-- a row and the first behind it
pub take-rest : (tag : Tag) (ns : List ℤ) (rest : List (Tag × Token)) (m n : ℕ) → length ns + m ≡ n → with_tag tag (map Int ns) ++ take m rest ≡ take n (with_tag tag (map Int ns) ++ rest)
take-rest tag [] rest m n h = let same : m ≡ n = omega (arith, h) in ap (λ k. take k rest) same
take-rest tag (x ∷ ns) rest m zero h = absurd (omega (arith, h))
take-rest tag (x ∷ ns) rest m (suc n) h = ap (λ v. (tag, Int x) ∷ v) (take-rest tag ns rest m n (omega (arith, h)))

length-with_tag : {T : Type 0} (tag : Tag) (xs : List T) → length (with_tag tag xs) ≡ length xs
length-with_tag tag [] = refl
length-with_tag tag (x ∷ xs) = ap suc (length-with_tag tag xs)

-- how many those in a row and those behind it are
pub length-row : (tag : Tag) (ns : List ℤ) (rest : List (Tag × Token)) → length (with_tag tag (map Int ns) ++ rest) ≡ length ns + length rest
length-row tag ns rest = length-append (with_tag tag (map Int ns)) rest ∙ ap (λ n. n + length rest) (length-with_tag tag (map Int ns) ∙ length-map ns Int)

-- a row at a tag that goes on with integers at another, where nothing is behind it and it has that tag or none is in it
pub row-more : (row tag : Tag) (ns ms : List ℤ) (rest old : List (Tag × Token)) → with_tag row (map Int ns) ++ rest ≡ old → rest ≡ [] → with_tag row (map Int ns) ≡ with_tag tag (map Int ns) → with_tag tag (map Int (ns ++ ms)) ++ rest ≡ old ++ with_tag tag (map Int ms)
row-more row tag ns ms rest old e none same =
    let was : with_tag tag (map Int ns) ≡ old = sym (append-nil (with_tag tag (map Int ns))) ∙ ap₂ (λ (v w : List (Tag × Token)). v ++ w) (sym same) (sym none) ∙ e in
    ap (λ v. with_tag tag (map Int (ns ++ ms)) ++ v) none ∙ append-nil (with_tag tag (map Int (ns ++ ms))) ∙ ap (λ v. with_tag tag v) (map-append Int ns ms) ∙ with_tag-append tag (map Int ns) (map Int ms) ∙ ap (λ v. v ++ with_tag tag (map Int ms)) was

-- the row as it is, at the other tag
pub row-same : (row tag : Tag) (ns : List ℤ) (rest old : List (Tag × Token)) → with_tag row (map Int ns) ++ rest ≡ old → with_tag row (map Int ns) ≡ with_tag tag (map Int ns) → with_tag tag (map Int ns) ++ rest ≡ old
row-same row tag ns rest old e same = ap (λ v. v ++ rest) (sym same) ∙ e

-- what is put behind others leaves these the first
pub kept-first : (old now more : List (Tag × Token)) → now ≡ old ++ more → take (length old) now ≡ old
kept-first old now more e = ap (λ v. take (length old) v) e ∙ take_at old more (length old) refl

-- what changes nothing does so too
pub kept-same : (old now : List (Tag × Token)) → now ≡ old → take (length old) now ≡ old
kept-same old now e = kept-first old now [] (e ∙ sym (append-nil old))

take-behind : (row rest now : List (Tag × Token)) → take (length rest) now ≡ rest → take (length (row ++ rest)) (row ++ now) ≡ row ++ rest
take-behind [] rest now k = k
take-behind (x ∷ row) rest now k = ap (λ v. x ∷ v) (take-behind row rest now k)

-- behind a row, behind what comes after it
pub rest-first : (row : List (Tag × Token)) (rest now : List (Tag × Token)) (old : List (Tag × Token)) → row ++ rest ≡ old → take (length rest) now ≡ rest → take (length old) (row ++ now) ≡ old
rest-first row rest now old e k =
    ap (λ v. take (length v) (row ++ now)) (sym e) ∙ take-behind row rest now k ∙ e
