-- The tables of a job, one entity on.
use Rattle.std.proofs.Common.{◌≡◌, ℕ, ◌+◌, ◌<◌, List, ◌∷◌, ◌++◌, length, get_or, drop, map, sym, ap, ◌∙◌}
use Rattle.std.proofs.lemmas.List.{drop_more, append_assoc}

-- what is done and what the rest gives, where the first of the rest is done too
pub one_done : {X S Y : Type 0} (view : X → S) (here : ℕ → S → List Y) (from : ℕ → List S → List Y) → ((n : ℕ) (s : S) (ss : List S) → from n (s ∷ ss) ≡ here n s ++ from (n + 1) ss) → (xs : List X) (i : ℕ) (x : X) (old new all : List Y) → i < length xs → x ≡ get_or xs i x → new ≡ old ++ here i (view x) → old ++ from i (map view (drop i xs)) ≡ all → new ++ from (i + 1) (map view (drop (i + 1) xs)) ≡ all
one_done {X = X} {Y = Y} view here from step xs i x old new all within is done so_far =
    let rest = map view (drop (i + 1) xs) in
    ap (λ (ys : List Y). ys ++ from (i + 1) rest) done
    ∙ append_assoc old (here i (view x)) (from (i + 1) rest)
    ∙ ap (λ (ys : List Y). old ++ ys) (sym (step i (view x) rest))
    ∙ ap (λ (z : X). old ++ from i (view z ∷ rest)) is
    ∙ ap (λ (zs : List X). old ++ from i (map view zs)) (sym (drop_more xs i x within))
    ∙ so_far
