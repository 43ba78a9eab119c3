-- The numbers of places, one place after another.
use Rattle.std.proofs.Common.{◌≡◌, ℕ, zero, suc, ◌<◌, ◌≤◌, ◌+◌, List, [], ◌∷◌, ◌++◌, length, take, drop, Bool, ◌&&◌, Option, Some, None, min, if◌then◌else◌, ◌-ℤ◌, refl, sym, ap, ◌∙◌, add-one, arith, ℤ, pos, ◌+ℤ◌}
use Rattle.std.proofs.lemmas.List.{drop-append-le, length-take, take_min, drop_min, take_all}
use Rattle.std.proofs.lemmas.Int.{ints}
use Rattle.pt_meaning.specs.Basics.{Streams, at}
use Rattle.pt_meaning.specs.Node.{is_none}
use Rattle.pt_value.specs.declared.token.Token.{Token}
use Rattle.pt_firing.proofs.Known.{take-more}
use Rattle.pt_flow_base.specs.Row.{number_in, number_at, with_number, present, total, sum_of}

with-append : (o : Option ℤ) (ns ms : List ℤ) → with_number o (ns ++ ms) ≡ with_number o ns ++ ms
with-append None ns ms = refl
with-append (Some n) ns ms = refl

present-append : (X : Streams Token) (tokens : List Token) → present (X ++ tokens ∷ []) ≡ present X ++ with_number (number_in tokens) []
present-append [] tokens = refl
present-append (xs ∷ X) tokens = ap (with_number (number_in xs)) (present-append X tokens) ∙ with-append (number_in xs) (present X) (with_number (number_in tokens) [])

left-zero : (m : ℤ) → m ≡ pos 0 +ℤ m
left-zero m = omega (arith, ints)

regroup : (n s t : ℤ) → n +ℤ (s +ℤ t) ≡ (n +ℤ s) +ℤ t
regroup n s t = omega (arith, ints)

pub total-append : (ns ms : List ℤ) → total (ns ++ ms) ≡ total ns +ℤ total ms
total-append [] ms = left-zero (total ms)
total-append (n ∷ ns) ms = ap (λ s. n +ℤ s) (total-append ns ms) ∙ regroup n (total ns) (total ms)

none-append : (ns ms : List ℤ) → is_none (ns ++ ms) ≡ (is_none ns && is_none ms)
none-append [] ms = refl
none-append (n ∷ ns) ms = refl

-- the numbers between two places, and of one place more
present-more : (X : Streams Token) (from to : ℕ) → from ≤ to → to < length X → present (drop from (take (to + 1) X)) ≡ present (drop from (take to X)) ++ with_number (number_at X to) []
present-more X from to order short =
    let long : from ≤ length (take to X) = omega (arith, length-take to X) in
    ap (λ n. present (drop from (take n X))) (add-one to) ∙ ap (λ Y. present (drop from Y)) (take-more X to short) ∙ ap present (drop-append-le from (take to X) (at X to ∷ []) long) ∙ present-append (drop from (take to X)) (at X to)

pub total-more : (X : Streams Token) (from to : ℕ) → from ≤ to → to < length X → total (present (drop from (take (to + 1) X))) ≡ total (present (drop from (take to X))) +ℤ total (with_number (number_at X to) [])
total-more X from to order short = ap total (present-more X from to order short) ∙ total-append (present (drop from (take to X))) (with_number (number_at X to) [])

pub none-more : (X : Streams Token) (from to : ℕ) → from ≤ to → to < length X → is_none (present (drop from (take (to + 1) X))) ≡ (is_none (present (drop from (take to X))) && is_none (with_number (number_at X to) []))
none-more X from to order short = ap is_none (present-more X from to order short) ∙ none-append (present (drop from (take to X))) (with_number (number_at X to) [])

pub nothing-between : (X : Streams Token) (from : ℕ) → drop from (take from X) ≡ []
nothing-between X zero = refl
nothing-between [] (suc from) = refl
nothing-between (xs ∷ X) (suc from) = nothing-between X from

-- two sums that make the one of a row
pub sum-is : (X : Streams Token) (p m e : ℕ) → e ≡ length X → m ≡ min p e → (s t : ℤ) (a b : Bool) →
    s ≡ total (present (drop 0 (take m X))) → a ≡ is_none (present (drop 0 (take m X))) → t ≡ total (present (drop m (take e X))) → b ≡ is_none (present (drop m (take e X))) →
    (if a && b then None else Some (s -ℤ t)) ≡ sum_of p X
unfolding sum_of
sum-is X p m e long middle s t a b sum none sum' none' =
    let plus : take m X ≡ take p X = ap (λ n. take n X) (middle ∙ ap (min p) long) ∙ take_min p X in
    let minus : drop m (take e X) ≡ drop p X = ap (drop m) (take_all e X (omega (arith, long))) ∙ ap (λ n. drop n X) (middle ∙ ap (min p) long) ∙ drop_min p X in
    rw (sum, none, sum', none', plus, minus)

at-dropped : (X : Streams Token) (n : ℕ) → n < length X → drop n X ≡ at X n ∷ drop (suc n) X
at-dropped [] n short = absurd (omega arith)
at-dropped (xs ∷ X) zero short = refl
at-dropped (xs ∷ X) (suc n) short = at-dropped X n (omega arith)

-- the numbers from a place on
pub present-next : (X : Streams Token) (n : ℕ) → n < length X → present (drop n X) ≡ with_number (number_at X n) (present (drop (n + 1) X))
present-next X n short = ap present (at-dropped X n short) ∙ ap (λ m. with_number (number_at X n) (present (drop m X))) (sym (add-one n))

pub nothing-left : (X : Streams Token) → drop (length X) X ≡ []
nothing-left [] = refl
nothing-left (xs ∷ X) = nothing-left X

pub at-taken : (X : Streams Token) (n to : ℕ) → n < to → at (take to X) n ≡ at X n
at-taken X n zero short = absurd (omega arith)
at-taken [] n (suc to) short = refl
at-taken (xs ∷ X) zero (suc to) short = refl
at-taken (xs ∷ X) (suc n) (suc to) short = at-taken X n to (omega arith)

-- the same up to before another place
pub present-next-below : (X : Streams Token) (n to : ℕ) → n < to → to ≤ length X → present (drop n (take to X)) ≡ with_number (number_at X n) (present (drop (n + 1) (take to X)))
present-next-below X n to short within =
    present-next (take to X) n (omega (arith, length-take to X)) ∙ ap (λ tokens. with_number (number_in tokens) (present (drop (n + 1) (take to X)))) (at-taken X n to short)

pub nothing-below : (X : Streams Token) (to : ℕ) → drop to (take to X) ≡ []
nothing-below X to = nothing-between X to
