-- What firings of a child take and give in a block: parts of the integers that its sources and it gave.
use Rattle.std.proofs.Common.{◌≡◌, ℕ, ℤ, zero, suc, ◌+◌, ◌*◌, ◌/◌, ◌<◌, ◌≤◌, List, [], ◌∷◌, length, take, drop, map, get_or, true, refl, sym, ap, ap₂, subst, ◌∙◌, arith, eq-eqb}
use Rattle.std.proofs.lemmas.List.{length-map, length-drop, length-take, take-map, drop-map}
use Rattle.std.proofs.Math.Seq.{drop-cons}
use Rattle.std.proofs.Math.Nat.{mul-div_cancel_left}
use Rattle.pt_meaning.specs.Streams.{at}
use Rattle.pt_meaning.specs.Net.{Source, Own}
use Rattle.pt_meaning.specs.Rounds.{has_rates}
use Rattle.pt_meaning.specs.Kahn.{lengths}
use Rattle.pt_value.specs.declared.token.Token.TheVariants.{Int}
use Rattle.pt_library.specs.LibraryActor.{numbers_of}
use Rattle.pt_block_laws.specs.Block.{part}
use Rattle.pt_block_laws.proofs.BlockLaws.{le-times}
use Rattle.pt_block_work.specs.Work.{given_by, taken, gives}

-- ---- parts of rows

pub part-map : (n k : ℕ) (xs : List ℤ) → map Int (numbers_of n xs k) ≡ part n k (map Int xs)
part-map n k xs = sym (take-map Int n (drop (k * n) xs)) ∙ ap (λ v. take n v) (sym (drop-map Int (k * n) xs))

-- each firing of some has to do with as many
pub part-length : (n k m : ℕ) (xs : List ℤ) → length xs ≡ m * n → k < m → length (map Int (numbers_of n xs k)) ≡ n
part-length n k m xs e l =
    let few = le-times (suc k) m n (omega (arith, l)) in
    let next : suc k * n ≡ k * n + n = omega arith in
    let wide = length-take n (drop (k * n) xs) in
    let behind = length-drop (k * n) xs in
    length-map (numbers_of n xs k) Int ∙ (let h : length (take n (drop (k * n) xs)) ≡ n = omega (arith, few, next, wide, behind, e) in h)

pub cancelled : (m a b : ℕ) → 0 < m → m * a ≡ m * b → a ≡ b
cancelled m a b some e = sym (mul-div_cancel_left a some) ∙ ap (λ v. v / m) e ∙ mul-div_cancel_left b some

-- ---- what a child takes

pub at-taken : (sources : List Source) (needs : List ℕ) (given : List (List ℤ)) (n from k p : ℕ) → p < n → at (taken sources needs given from n k) p ≡ map Int (numbers_of (get_or needs (from + p) 0) (given_by given (get_or sources (from + p) (Own 0))) k)
at-taken sources needs given zero from k p l = absurd (omega (arith, l))
at-taken sources needs given (suc n) from k zero l =
    let here : from ≡ from + 0 = omega arith in
    ap (λ c. map Int (numbers_of (get_or needs c 0) (given_by given (get_or sources c (Own 0))) k)) here
at-taken sources needs given (suc n) from k (suc p) l =
    let here : suc from + p ≡ from + suc p = omega arith in
    at-taken sources needs given n (suc from) k p (omega (arith, l)) ∙ ap (λ c. map Int (numbers_of (get_or needs c 0) (given_by given (get_or sources c (Own 0))) k)) here

pub taken-lengths : (sources : List Source) (needs : List ℕ) (given : List (List ℤ)) (n from k m : ℕ) → ((q : ℕ) → q < n → length (given_by given (get_or sources (from + q) (Own 0))) ≡ m * get_or needs (from + q) 0) → k < m → from + n ≤ length needs →
    lengths (taken sources needs given from n k) ≡ take n (drop from needs)
taken-lengths sources needs given zero from k m h l w = refl
taken-lengths sources needs given (suc n) from k m h l w =
    let here : from + 0 ≡ from = omega arith in
    let first = subst (λ c. length (given_by given (get_or sources c (Own 0))) ≡ m * get_or needs c 0) here (h 0 (omega arith)) in
    let others = taken-lengths sources needs given n (suc from) k m (λ q o. let next : from + suc q ≡ suc from + q = omega arith in subst (λ c. length (given_by given (get_or sources c (Own 0))) ≡ m * get_or needs c 0) next (h (suc q) (omega (arith, o)))) l (omega (arith, w)) in
    ap₂ (λ (x : ℕ) (xs : List ℕ). x ∷ xs) (part-length (get_or needs from 0) k m (given_by given (get_or sources from (Own 0))) first l) others ∙
    ap (λ v. take (suc n) v) (sym (drop-cons needs from 0 (omega (arith, w))))

-- what it gives
pub rates-given : (rates : List ℕ) (rate k m : ℕ) (row : List ℤ) → rates ≡ rate ∷ [] → length row ≡ m * rate → k < m → has_rates rates (gives (get_or rates 0 0) row k) ≡ true
rates-given rates rate k m row e c l = subst (λ rs. has_rates rs (gives (get_or rs 0 0) row k) ≡ true) (sym e) (rw (eq-eqb rate (length (map Int (numbers_of rate row k))) (sym (part-length rate k m row c l))) refl)
