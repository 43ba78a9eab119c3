-- A turn of the count of open brackets.
use Rattle.std.proofs.Common.{◌≡◌, ℕ, suc, ◌+◌, ◌<◌, ◌≤◌, List, [], ◌∷◌, length, drop, get_or, max, refl, sym, ◌∙◌, ap, subst, drop-cons, add-one, arith}
use Rattle.pt_language.specs.declared.word.Word.{Word}
use Rattle.pt_language.specs.Deep.{most_open, open_behind}

at_least : (n : ℕ) (ws : List Word) → n ≤ most_open n ws
at_least n [] = omega arith
at_least n (w ∷ ws) = omega arith

turn_by : (total now most behind rest : ℕ) → now ≤ most → behind ≤ rest → max most (max now rest) ≡ total → max (max most behind) rest ≡ total
turn_by total now most behind rest h k e = omega arith

pub next_of : (xs : List Word) (i : ℕ) (w : Word) → i < length xs → w ≡ get_or xs i w → drop i xs ≡ w ∷ drop (i + 1) xs
next_of xs i w h e =
    let d : drop i xs ≡ get_or xs i w ∷ drop (suc i) xs = drop-cons xs i w h in
    let q : suc i ≡ i + 1 = omega arith in
    d ∙ (λ j. sym e j ∷ drop (q j) xs)

pub most_turn : (xs : List Word) (i : ℕ) (w : Word) (now most total : ℕ) → i < length xs → w ≡ get_or xs i w → now ≤ most → max most (most_open now (drop i xs)) ≡ total → max (max most (open_behind now w)) (most_open (open_behind now w) (drop (i + 1) xs)) ≡ total
most_turn xs i w now most total h e k m =
    let P : List Word → Type 0 = λ v. max most (most_open now v) ≡ total in
    turn_by total now most (open_behind now w) (most_open (open_behind now w) (drop (i + 1) xs)) k (at_least _ (drop (i + 1) xs)) (subst P (next_of xs i w h e) m)
