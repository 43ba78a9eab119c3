-- What the answers of the solver say of one another.
use Rattle.std.proofs.Common.{◌≡◌, ℕ, suc, ◌<◌, ◌≤◌, List, [], ◌∷◌, length, get_or, All, Contains, sum, sym, ap, ◌∙◌, arith}
use Rattle.std.proofs.lemmas.List.{ext_get_or}
use Rattle.std.proofs.lemmas.List.Elements.{All-contains}
use Rattle.std.proofs.lemmas.List.Sums.{sum_by-cons}
use Rattle.pt_rates.specs.Balance.{IsBalancedAt, IsSolution, tokens_on}
use Rattle.pt_rates.specs.Laws.{RepetitionsAreUnique, SolutionsExcludeFaults}
use Rattle.pt_rates.specs.declared.edge.Edge.{Edge}
use Rattle.pt_rates.proofs.Solves.{no_edge}

pub unique : RepetitionsAreUnique
unique n edges first second a b =
    ext_get_or 0 first second (a.solution.counted ∙ sym b.solution.counted) (λ node short.
    let inside : node < n = omega (arith, short, a.solution.counted) in
    omega (arith, a.least second b.solution node inside, b.least first a.solution node inside))

-- a solution of all channels is one of some of them
some_solved : (n : ℕ) (edges some : List Edge) (q : List ℕ) → All (Contains edges) some → IsSolution n edges q → IsSolution n some q
some_solved n edges some q among s = record {
  counted = s.counted;
  positive = s.positive;
  balanced = λ k d short. All-contains (IsBalancedAt q) edges (get_or some k d) s.balanced (among k d short);
}

-- a list that is less at each place has no greater sum
sum-le : (xs ys : List ℕ) → length xs ≡ length ys → ((k : ℕ) → k < length xs → get_or xs k 0 ≤ get_or ys k 0) → sum xs ≤ sum ys
sum-le [] [] e h = omega arith
sum-le [] (y ∷ ys) e h = absurd (omega (arith, e))
sum-le (x ∷ xs) [] e h = absurd (omega (arith, e))
sum-le (x ∷ xs) (y ∷ ys) e h = omega (arith, sum_by-cons (λ n. n) x xs, sum_by-cons (λ n. n) y ys, h 0 (omega arith), sum-le xs ys (omega (arith, e)) (λ k short. h (suc k) (omega (arith, short))))

pub excludes : SolutionsExcludeFaults
excludes = record {
  inconsistent = λ n edges q channel r fault. fault.unsolvable q r.solution;
  sums = λ n edges q total r small fault.
      let less = fault.least.least q (some_solved n edges fault.some q fault.among r.solution) in
      let counted : length fault.q ≡ n = fault.least.solution.counted in
      omega (arith, small, fault.summed, fault.above, sum-le fault.q q (counted ∙ sym r.solution.counted) (λ k short. less k (omega (arith, short, counted))));
  tokens = λ n edges q other channel r small s fault.
      let same : q ≡ other = unique n edges q other r s in
      let here : tokens_on q (get_or edges channel no_edge) ≤ 1000000 = small channel no_edge fault.inside in
      omega (arith, here, fault.above no_edge, ap (λ xs. tokens_on xs (get_or edges channel no_edge)) same);
}
