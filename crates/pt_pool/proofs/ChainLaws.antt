-- What a chain names where one link is changed.
use Rattle.std.proofs.Common.{◌≡◌, ◌≢◌, ℕ, zero, suc, ◌+◌, ◌-◌, ◌<◌, ◌≤◌, List, [], ◌∷◌, ◌++◌, length, get_or, set, map, refl, sym, ap, ◌∙◌, arith}
use Rattle.pt_pool.specs.Chains.{chain, after, times}
use Rattle.pt_pool.proofs.Counts.{not_first, not_later}

pub less-one : (k : ℕ) → suc k - 1 ≡ k
less-one k = omega arith

-- both name the same successor of every cell but this one
abbrev pub AgreeBut : ℕ → List ℕ → List ℕ → Type 0
AgreeBut c old new = (i : ℕ) → i ≢ c → get_or new i 0 ≡ get_or old i 0

pub chain-snoc : (next : List ℕ) (n h : ℕ) → chain next (suc n) h ≡ chain next n h ++ after next n h ∷ []
chain-snoc next zero h = refl
chain-snoc next (suc n) h = ap (λ w. h ∷ w) (chain-snoc next n (get_or next h 0))

pub after-suc : (next : List ℕ) (n h : ℕ) → after next (suc n) h ≡ get_or next (after next n h) 0
after-suc next zero h = refl
after-suc next (suc n) h = after-suc next n (get_or next h 0)

pub length-chain : (next : List ℕ) (n h : ℕ) → length (chain next n h) ≡ n
length-chain next zero h = refl
length-chain next (suc n) h = omega (arith, length-chain next n (get_or next h 0))

-- the front of a chain has no more of a cell than the chain
pub times-front : (c : ℕ) (next : List ℕ) (n h : ℕ) → times c (chain next n h) ≤ times c (chain next (suc n) h)
times-front c next zero h = omega arith
times-front c next (suc n) h = omega (arith, times-front c next n (get_or next h 0))

-- the link of the last cell doesn't matter
pub chain-agree : (c : ℕ) (old new : List ℕ) → AgreeBut c old new → (n h : ℕ) → times c (chain old n h) ≡ 0 → chain new (suc n) h ≡ chain old (suc n) h
chain-agree c old new agree zero h none = refl
chain-agree c old new agree (suc n) h none =
    let rest = not_later c h (chain old n (get_or old h 0)) none in
    rw (agree h (not_first c h (chain old n (get_or old h 0)) none)) (ap (λ w. h ∷ w) (chain-agree c old new agree n (get_or old h 0) rest))

pub chain-kept : (c : ℕ) (old new : List ℕ) → AgreeBut c old new → (n h : ℕ) → times c (chain old n h) ≡ 0 → chain new n h ≡ chain old n h
chain-kept c old new agree zero h none = refl
chain-kept c old new agree (suc n) h none = chain-agree c old new agree n h (omega (arith, none, times-front c old n h))

pub after-agree : (c : ℕ) (old new : List ℕ) → AgreeBut c old new → (n h : ℕ) → times c (chain old n h) ≡ 0 → after new n h ≡ after old n h
after-agree c old new agree zero h none = refl
after-agree c old new agree (suc n) h none =
    let rest = not_later c h (chain old n (get_or old h 0)) none in
    rw (agree h (not_first c h (chain old n (get_or old h 0)) none)) (after-agree c old new agree n (get_or old h 0) rest)

-- a queue that lacks the cell still ends at its tail
pub tail-kept : (c : ℕ) (old new : List ℕ) → AgreeBut c old new → (n h t : ℕ) → times c (chain old n h) ≡ 0 → (0 < n → after old (n - 1) h ≡ t) → 0 < n → after new (n - 1) h ≡ t
tail-kept c old new agree zero h t none was some = omega (arith, some)
tail-kept c old new agree (suc n) h t none was some =
    let fewer : suc n - 1 ≡ n = omega arith in
    let ends : after old n h ≡ t = rw (sym fewer) (was (omega arith)) in
    rw fewer (after-agree c old new agree n h (omega (arith, none, times-front c old n h)) ∙ ends)

-- what is behind the front ends at the same tail
pub tail-behind : (next : List ℕ) (n h t : ℕ) → (0 < suc n → after next (suc n - 1) h ≡ t) → 0 < n → after next (n - 1) (get_or next h 0) ≡ t
tail-behind next zero h t was some = omega (arith, some)
tail-behind next (suc k) h t was some =
    ap (λ n. after next n (get_or next h 0)) (less-one k) ∙ ap (λ n. after next n h) (sym (less-one (suc k))) ∙ was (omega arith)
