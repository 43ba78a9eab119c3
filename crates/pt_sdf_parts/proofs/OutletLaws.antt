-- What leaves the channels behind the places: each of them loses as many tokens as it is to, or all that it has.
use Rattle.std.proofs.Common.{◌≡◌, ℕ, zero, suc, ◌+◌, ◌*◌, ◌<◌, ◌≤◌, List, [], ◌∷◌, ◌++◌, length, get_or, set, take, drop, min, refl, ap, sym, ◌∙◌, arith, zero-add, suc-add}
use Rattle.std.proofs.lemmas.List.{take_min, drop_min, take_all, length-map, get_or-map}
use Rattle.pt_meaning.specs.Streams.{Streams}
use Rattle.pt_meaning.specs.Kahn.{firsts}
use Rattle.pt_meaning.specs.Sdf.{times}
use Rattle.pt_sdf_parts.specs.ByNeed.{skip_at}
use Rattle.pt_sdf_parts.proofs.Lists.{next-list, next-left, next-taken, taken-long, skip-zero}

-- lists behind the last count give nothing
pub firsts-taken : {T : Type 0} (k : ℕ) (ns : List ℕ) (X : Streams T) → length ns ≤ k → firsts ns (take k X) ≡ firsts ns X
firsts-taken k [] X h = refl
firsts-taken zero (n ∷ ns) X h = absurd (omega arith)
firsts-taken (suc k) (n ∷ ns) [] h = refl
firsts-taken (suc k) (n ∷ ns) (x ∷ X) h = ap (λ v. take n x ∷ v) (firsts-taken k ns X (omega arith))

-- what some channels lost, and then those behind them
pub skip-more : {T : Type 0} (o : ℕ) (ns ms : List ℕ) (X : Streams T) → skip_at (o + length ns) ms (skip_at o ns X) ≡ skip_at o (ns ++ ms) X
skip-more zero ns ms X = ap (λ j. skip_at j ms (skip_at 0 ns X)) (zero-add (length ns)) ∙ first ns ms X
  where
    first : {T : Type 0} (ns ms : List ℕ) (X : Streams T) → skip_at (length ns) ms (skip_at 0 ns X) ≡ skip_at 0 (ns ++ ms) X
    first [] ms X = refl
    first (n ∷ ns) ms [] = refl
    first (n ∷ ns) ms (x ∷ X) = ap (λ v. drop n x ∷ v) (first ns ms X)
skip-more {T} (suc o) ns ms [] = ap (λ j. skip_at {T = T} j ms []) (suc-add o (length ns))
skip-more (suc o) ns ms (x ∷ X) = ap (λ j. skip_at j ms (x ∷ skip_at o ns X)) (suc-add o (length ns)) ∙ ap (λ v. x ∷ v) (skip-more o ns ms X)

pub times-long : (m : ℕ) (ns : List ℕ) → length (times m ns) ≡ length ns
times-long m ns = length-map ns (λ n. m * n)

module _ {T : Type 0} (turns : ℕ) (counts : List ℕ) (X : Streams T) (o : ℕ) (e : o + length counts ≤ length X) where
  -- those before number k have lost their tokens
  module _ (A : Streams T) (k : ℕ) (h : k < length counts) (a : A ≡ skip_at o (take k (times turns counts)) X) where
    pub outlet-there : o + k < length A
    outlet-there = omega (arith, h, e, taken-long A X o k (times turns counts) a)

    pub outlet-list : get_or A (o + k) [] ≡ get_or X (o + k) []
    outlet-list = next-list A X o k (times turns counts) a

    -- and so does the next
    module _ (n count : ℕ) (c : count ≡ get_or counts k 0) (m : n ≡ min (turns * count) (length (get_or A (o + k) []))) where
      owed-at : turns * count ≡ get_or (times turns counts) k 0
      owed-at = ap (λ v. turns * v) c ∙ sym (get_or-map (λ v. turns * v) counts k 0 0 h)

      pub outlet-given : (given : Streams T) (ts : List T) → ts ≡ take n (get_or A (o + k) []) → given ≡ firsts (take k (times turns counts)) (take k (drop o X)) → given ++ ts ∷ [] ≡ firsts (take (k + 1) (times turns counts)) (take (k + 1) (drop o X))
      outlet-given given ts t g =
          next-taken A X o k (times turns counts) a given ts (turns * count) (omega (arith, h, times-long turns counts)) (omega (arith, h, e)) owed-at (t ∙ ap (λ v. take v (get_or A (o + k) [])) m ∙ take_min (turns * count) (get_or A (o + k) [])) g

      pub outlet-left : (B : Streams T) → B ≡ set A (o + k) (drop n (get_or A (o + k) [])) → B ≡ skip_at o (take (k + 1) (times turns counts)) X
      outlet-left B b =
          next-left A X o k (times turns counts) a B (turns * count) (omega (arith, h, times-long turns counts)) (omega (arith, h, e)) owed-at
          (b ∙ ap (λ v. set A (o + k) v) (ap (λ v. drop v (get_or A (o + k) [])) m ∙ drop_min (turns * count) (get_or A (o + k) [])))

  -- at the end
  module _ (k : ℕ) (h : length counts ≤ k) where
    all-owed : take k (times turns counts) ≡ times turns counts
    all-owed = take_all k (times turns counts) (omega (arith, h, times-long turns counts))

    pub outlets-left : (A : Streams T) → A ≡ skip_at o (take k (times turns counts)) X → A ≡ skip_at o (times turns counts) X
    outlets-left A a = a ∙ ap (λ v. skip_at o v X) all-owed

    pub outlets-given : (given : Streams T) → given ≡ firsts (take k (times turns counts)) (take k (drop o X)) → given ≡ firsts (times turns counts) (drop o X)
    outlets-given given g = g ∙ ap (λ v. firsts v (take k (drop o X))) all-owed ∙ firsts-taken k (times turns counts) (drop o X) (omega (arith, h, times-long turns counts))

  -- where there is none, or one
  pub none-left : length counts ≡ 0 → X ≡ skip_at o (times turns counts) X
  none-left h = outlets-left 0 (omega (arith, h)) X (sym (skip-zero o X))

  pub one-left : (B : Streams T) (n : ℕ) → length counts ≡ 1 → n ≡ min (turns * get_or counts 0 0) (length (get_or X o [])) → B ≡ set X o (drop n (get_or X o [])) → B ≡ skip_at o (times turns counts) X
  one-left B n h m b =
      outlets-left 1 (omega (arith, h)) B
      (outlet-left X 0 (omega (arith, h)) (sym (skip-zero o X)) n (get_or counts 0 0) refl (m ∙ ap (λ j. min (turns * get_or counts 0 0) (length (get_or X j []))) (none o)) B (b ∙ ap (λ j. set X j (drop n (get_or X j []))) (none o)))
    where
      none : (n : ℕ) → n ≡ n + 0
      none n = omega arith
