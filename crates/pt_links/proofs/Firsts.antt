-- The first place of each key, found from the last key on.
use Rattle.std.proofs.Common.{◌≡◌, ℕ, ◌+◌, ◌<◌, Bool, cond, Option, Some, None, List, [], ◌∷◌, length, get_or, drop, refl, sym, ap, ◌∙◌, arith}
use Rattle.std.proofs.lemmas.List.{drop_more}
use Rattle.std.specs.HashMap.{HashMap}
use Rattle.std.specs.List.{position_from}
use Rattle.std.specs.Map.{lookup}
use Rattle.indexmap.specs.IndexMap.{get, index_map_len}
use Rattle.std.specs.Cmp.{IsEquivalence}

-- one key more in front of those that are known
pub firsts-more : {K : Type 0} (eq : K → K → Bool) → IsEquivalence eq → (f h : K → Option ℕ) (keys : List K) (i : ℕ) (y : K) → i < length keys → y ≡ get_or keys i y → ((k : K) → f k ≡ position_from (eq k) (i + 1) (drop (i + 1) keys)) → ((k : K) → h k ≡ cond (eq y k) (Some i) (f k)) →
    (k : K) → h k ≡ position_from (eq k) i (drop i keys)
firsts-more eq laws f h keys i y within is known new k =
    new k ∙ ap (λ b. cond b (Some i) (f k)) (laws.symm y k) ∙ ap (λ o. cond (eq k y) (Some i) o) (known k)
    ∙ ap (λ x. cond (eq k x) (Some i) (position_from (eq k) (i + 1) (drop (i + 1) keys))) is
    ∙ sym (ap (position_from (eq k) i) (drop_more keys i y within))

-- one key more with its number in front of those that are known
pub numbers-more : {K : Type 0} (eq : K → K → Bool) → IsEquivalence eq → (f h : K → Option ℕ) (pairs : List (K × ℕ)) (i : ℕ) (y : K × ℕ) → i < length pairs → y ≡ get_or pairs i y → ((k : K) → f k ≡ lookup (eq k) (drop (i + 1) pairs)) → ((k : K) → h k ≡ cond (eq y.0 k) (Some y.1) (f k)) →
    (k : K) → h k ≡ lookup (eq k) (drop i pairs)
numbers-more {K} eq laws f h pairs i y within is known new k =
    new k ∙ ap (λ b. cond b (Some y.1) (f k)) (laws.symm y.0 k) ∙ ap (λ o. cond (eq k y.0) (Some y.1) o) (known k)
    ∙ ap (λ (x : K × ℕ). cond (eq k x.0) (Some x.1) (lookup (eq k) (drop (i + 1) pairs))) is
    ∙ sym (ap (lookup (eq k)) (drop_more pairs i y within))

-- ---- where there are no keys

lookup-none : {K V : Type 0} (test : K → Bool) (es : List (K × V)) → length es ≡ 0 → lookup test es ≡ None
lookup-none test [] e = refl
lookup-none test (x ∷ es) e = absurd (omega (arith, e))

pub none_among : {K V S : Type 0} (eq : K → K → Bool) (m : HashMap K V S) (key : K) → index_map_len m ≡ 0 → None ≡ get eq m key
none_among eq m key e = sym (lookup-none (eq key) m.entries e)
