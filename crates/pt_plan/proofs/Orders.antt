-- What a schedule says of each firing, by its place in the order.
use Rattle.std.proofs.Common.{◌≡◌, ℕ, zero, suc, ◌+◌, ◌<◌, inl, inr, cond, eqb, Bool, true, false, List, [], ◌∷◌, ◌++◌, length, get_or, take, All, Contains, filter, refl, ap, sym, subst, ◌∙◌, arith, if◌then◌else◌, nat_eq}
use Rattle.std.proofs.lemmas.Bool.{cases_lt}
use Rattle.std.proofs.lemmas.List.{take-append-le, take_at, get_or_append_left, get_or_push, length_push}
use Rattle.std.proofs.lemmas.List.Elements.{All-nil, All-push, Contains-append_right}
use Rattle.std.proofs.lemmas.List.Sums.{sum_by-cons}
use Rattle.pt_sched.specs.Runs.{firings, HasTokens, IsRun, at_first, fires}
use Rattle.pt_sched.specs.declared.edge.SchedEdge.{SchedEdge}
use Rattle.pt_sched.proofs.Steps.{lacking-inside}
use Rattle.pt_sdf_parts.specs.Lawful.{occurs}

-- an order has each child as often as it fires
pub occurs-firings : (child : ℕ) (order : List ℕ) → occurs child order ≡ firings order child
occurs-firings child [] = refl
occurs-firings child (other ∷ order) = ap (λ n. (if nat_eq other child then 1 else 0) + n) (occurs-firings child order) ∙ sym (sum_by-cons (λ c. cond (eqb c child) 1 0) other order)

-- each firing of a run has its tokens, after those before it
pub run-tokens : (channels : List SchedEdge) (q : List ℕ) {order : List ℕ} → IsRun channels q order → (n : ℕ) → n < length order → HasTokens channels (firings (take n order)) (get_or order n 0)
run-tokens channels q at_first n h = absurd (omega arith)
run-tokens channels q (fires order child run lacking tokens) n h = elim (cases_lt n (length order)) [
  | inl before ↦
      let begin : take n (order ++ child ∷ []) ≡ take n order = take-append-le n order (child ∷ []) (omega arith) in
      let same : get_or (order ++ child ∷ []) n 0 ≡ get_or order n 0 = get_or_append_left order (child ∷ []) 0 n before in
      subst (λ (xs : List ℕ). HasTokens channels (firings xs) (get_or (order ++ child ∷ []) n 0)) (sym begin) (subst (λ c. HasTokens channels (firings (take n order)) c) (sym same) (run-tokens channels q run n before))
  | inr behind ↦
      let last : length order ≡ n = omega (arith, length_push order child) in
      let begin : take n (order ++ child ∷ []) ≡ order = take_at order (child ∷ []) n last in
      let same : get_or (order ++ child ∷ []) n 0 ≡ child = get_or_push order child 0 n last in
      subst (λ (xs : List ℕ). HasTokens channels (firings xs) (get_or (order ++ child ∷ []) n 0)) (sym begin) (subst (λ c. HasTokens channels (firings order) c) (sym same) tokens)
]

-- each child of a run is one that q counts
pub run-children : (channels : List SchedEdge) (q : List ℕ) {order : List ℕ} → IsRun channels q order → All (λ child. child < length q) order
run-children channels q at_first = All-nil (λ child. child < length q)
run-children channels q (fires order child run lacking tokens) = All-push (λ c. c < length q) order child (run-children channels q run) (lacking-inside q child (firings order child) lacking)

either : {X : Type 0} (x y : X) (ys : List X) (b : Bool) → Contains ys y → Contains (cond b (x ∷ ys) ys) y
either x y ys true c = Contains-append_right (x ∷ []) ys y c
either x y ys false c = c

-- a filter keeps what passes
pub kept : {X : Type 0} (p : X → Bool) (xs : List X) (k : ℕ) (d : X) → k < length xs → p (get_or xs k d) ≡ true → Contains (filter p xs) (get_or xs k d)
kept p [] k d h e = absurd (omega arith)
kept p (x ∷ xs) zero d h e = subst (λ b. Contains (cond b (x ∷ filter p xs) (filter p xs)) x) (sym e) (0, omega arith, refl)
kept p (x ∷ xs) (suc k) d h e = either x (get_or xs k d) (filter p xs) (p x) (kept p xs k d (omega arith) e)
