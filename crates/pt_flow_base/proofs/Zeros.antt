-- Zeros among which one number is put.
use Rattle.std.proofs.Common.{◌≡◌, ℕ, ◌+◌, ◌-◌, zero, suc, ℤ, pos, List, ◌∷◌, ◌++◌, length, map, replicate, set, refl, ap, ◌∙◌, arith}
use Rattle.std.proofs.lemmas.List.{map-append, set-append_right}
use Rattle.pt_value.specs.declared.token.Token.TheVariants.{Int}

zeros-are : (count : ℕ) → map Int (replicate count (pos 0)) ≡ replicate count (Int (pos 0))
zeros-are zero = refl
zeros-are (suc count) = ap (λ ts. Int (pos 0) ∷ ts) (zeros-are count)

-- as tokens
pub among-are : (before after : ℕ) (n : ℤ) → map Int (replicate before (pos 0) ++ n ∷ replicate after (pos 0)) ≡ replicate before (Int (pos 0)) ++ Int n ∷ replicate after (Int (pos 0))
among-are zero after n = ap (λ ts. Int n ∷ ts) (zeros-are after)
among-are (suc before) after n = ap (λ ts. Int (pos 0) ∷ ts) (among-are before after n)

is-among : (before after count : ℕ) (n : ℤ) → count ≡ before + 1 + after → set (replicate count (pos 0)) before n ≡ replicate before (pos 0) ++ n ∷ replicate after (pos 0)
is-among before after zero n size = absurd (omega arith)
is-among zero after (suc count) n size = let same : count ≡ after = omega arith in ap (λ k. n ∷ replicate k (pos 0)) same
is-among (suc before) after (suc count) n size = ap (λ ns. pos 0 ∷ ns) (is-among before after count n (omega arith))

-- behind others
pub among-behind : (ns : List ℤ) (before after count place : ℕ) (n : ℤ) → count ≡ before + 1 + after → place ≡ length ns + before → set (ns ++ replicate count (pos 0)) place n ≡ ns ++ (replicate before (pos 0) ++ n ∷ replicate after (pos 0))
among-behind ns before after count place n size at =
    set-append_right ns (replicate count (pos 0)) (length ns) place n refl (omega (arith, at)) ∙ ap (λ k. ns ++ set (replicate count (pos 0)) k n) {x = place - length ns} {y = before} (omega (arith, at)) ∙ ap (λ v. ns ++ v) (is-among before after count n size)
