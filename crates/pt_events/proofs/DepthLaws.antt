-- Depths rise along edges: so there is one list of them at most, and no directed loop beside them.
use Rattle.std.proofs.Common.{◌≡◌, ℕ, zero, suc, ◌+◌, ◌-◌, ◌<◌, ◌≤◌, max, false, cond, eqb, List, [], ◌∷◌, length, map, get_or, All, Contains, refl, sym, ap, subst, ◌∙◌, arith, inl, inr}
use Rattle.std.proofs.lemmas.Bool.{cases_Bool, eqb-true, eq-eqb}
use Rattle.std.proofs.lemmas.List.{ext_get_or}
use Rattle.std.proofs.lemmas.List.Elements.{All-contains, All-head, All-tail, Contains-get_or}
use Rattle.std.specs.List.{filter}
use Rattle.pt_events.specs.Depths.{AreBetween, AreDepths, Feeds, IsLoop, feeders, depth_after}
use Rattle.pt_events.proofs.LeastLaws.{contains-head, contains-tail, contains-cases}

-- the feeders of a child, edge by edge
pub feeders-yes : (edge : ℕ × ℕ) (edges : List (ℕ × ℕ)) (child : ℕ) → edge.1 ≡ child → feeders (edge ∷ edges) child ≡ edge.0 ∷ feeders edges child
feeders-yes edge edges child e = ap (λ b. map (λ x. x.0) (cond b (edge ∷ filter (λ x. eqb x.1 child) edges) (filter (λ x. eqb x.1 child) edges))) (eq-eqb edge.1 child e)

pub feeders-no : (edge : ℕ × ℕ) (edges : List (ℕ × ℕ)) (child : ℕ) → eqb edge.1 child ≡ false → feeders (edge ∷ edges) child ≡ feeders edges child
feeders-no edge edges child e = ap (λ b. map (λ x. x.0) (cond b (edge ∷ filter (λ x. eqb x.1 child) edges) (filter (λ x. eqb x.1 child) edges))) e

-- a child's feeders are those from which an edge comes
pub feeder-from : (edges : List (ℕ × ℕ)) (from to : ℕ) → Feeds edges from to → Contains (feeders edges to) from
feeder-from [] from to h = absurd (omega (arith, h.1))
feeder-from (edge ∷ edges) from to h = elim (contains-cases edge edges (from, to) h) [
  | inl e ↦ subst (λ l. Contains l from) (sym (feeders-yes edge edges to (ap (λ x. x.1) e))) (subst (λ a. Contains (a ∷ feeders edges to) from) (sym (ap (λ x. x.0) e)) (contains-head from (feeders edges to)))
  | inr k ↦ elim (cases_Bool (eqb edge.1 to)) [
    | inl e ↦ subst (λ l. Contains l from) (sym (feeders-yes edge edges to (eqb-true edge.1 to e))) (contains-tail edge.0 (feeders edges to) from (feeder-from edges from to k))
    | inr e ↦ subst (λ l. Contains l from) (sym (feeders-no edge edges to e)) (feeder-from edges from to k)
  ]
]

pub feeds-from : (edges : List (ℕ × ℕ)) (from to : ℕ) → Contains (feeders edges to) from → Feeds edges from to
feeds-from [] from to h = absurd (omega (arith, h.1))
feeds-from (edge ∷ edges) from to h = elim (cases_Bool (eqb edge.1 to)) [
  | inl e ↦ elim (contains-cases edge.0 (feeders edges to) from (subst (λ l. Contains l from) (feeders-yes edge edges to (eqb-true edge.1 to e)) h)) [
    | inl f ↦ subst (λ x. Contains (edge ∷ edges) x) (λ i. (f i, eqb-true edge.1 to e i)) (contains-head edge edges)
    | inr k ↦ contains-tail edge edges (from, to) (feeds-from edges from to k)
  ]
  | inr e ↦ contains-tail edge edges (from, to) (feeds-from edges from to (subst (λ l. Contains l from) (feeders-no edge edges to e) h))
]

-- the depth behind some children is above each of theirs
pub depth_after-above : (depths children : List ℕ) (child : ℕ) → Contains children child → get_or depths child 0 < depth_after depths children
depth_after-above depths [] child h = absurd (omega (arith, h.1))
depth_after-above depths (c ∷ cs) child h = elim (contains-cases c cs child h) [
  | inl e ↦ omega (arith, ap (λ k. get_or depths k 0) e)
  | inr k ↦ omega (arith, depth_after-above depths cs child k)
]

-- two lists of depths that agree on some children agree on the depth behind them
pub depth_after-agree : (a b children : List ℕ) → All (λ child. get_or a child 0 ≡ get_or b child 0) children → depth_after a children ≡ depth_after b children
depth_after-agree a b [] h = refl
depth_after-agree a b (c ∷ cs) h = λ i. max (All-head (λ child. get_or a child 0 ≡ get_or b child 0) c cs h i + 1) (depth_after-agree a b cs (All-tail (λ child. get_or a child 0 ≡ get_or b child 0) c cs h) i)

-- each feeder is a child
pub feeders-inside : (n : ℕ) (edges : List (ℕ × ℕ)) (child : ℕ) → AreBetween n edges → All (λ feeder. feeder < n) (feeders edges child)
feeders-inside n edges child h = λ k d l.
    let there : Contains (feeders edges child) (get_or (feeders edges child) k d) = Contains-get_or (feeders edges child) k d l in
    (All-contains (λ edge. (edge.0 < n) × (edge.1 < n)) edges (get_or (feeders edges child) k d, child) h (feeds-from edges (get_or (feeders edges child) k d) child there)).0

module _ (n : ℕ) (edges : List (ℕ × ℕ)) (between : AreBetween n edges) where
  -- depths rise along an edge
  rises : (depths : List ℕ) → AreDepths n edges depths → (from to : ℕ) → Feeds edges from to → get_or depths from 0 < get_or depths to 0
  rises depths h from to f =
      let inside : to < n = (All-contains (λ edge. (edge.0 < n) × (edge.1 < n)) edges (from, to) between f).1 in
      omega (arith, h.each to inside, depth_after-above depths (feeders edges to) from (feeder-from edges from to f))

  -- up to a depth, which counts the steps of the induction
  agree : (a b : List ℕ) → AreDepths n edges a → AreDepths n edges b → (bound child : ℕ) → get_or a child 0 < bound → child < n → get_or a child 0 ≡ get_or b child 0
  agree a b h k zero child l inside = absurd (omega (arith, l))
  agree a b h k (suc bound) child l inside =
      h.each child inside ∙ depth_after-agree a b (feeders edges child) (λ j d short.
      let feeder : ℕ = get_or (feeders edges child) j d in
      let there : Contains (feeders edges child) feeder = Contains-get_or (feeders edges child) j d short in
      let up : get_or a feeder 0 < get_or a child 0 = rises a h feeder child (feeds-from edges feeder child there) in
      agree a b h k bound feeder (omega (arith, up, l)) (feeders-inside n edges child between j d short)) ∙ sym (k.each child inside)

  pub depths-alone : (a b : List ℕ) → AreDepths n edges a → AreDepths n edges b → a ≡ b
  depths-alone a b h k =
      ext_get_or 0 a b (h.counted ∙ sym k.counted) (λ child l. agree a b h k (suc (get_or a child 0)) child (omega arith) (omega (arith, l, h.counted)))

  -- along a loop no depth is below the first
  along : (depths children : List ℕ) → AreDepths n edges depths → IsLoop edges children → (k : ℕ) → k < length children → get_or depths (get_or children 0 0) 0 ≤ get_or depths (get_or children k 0) 0
  along depths children h l zero short = omega arith
  along depths children h l (suc k) short =
      let up : get_or depths (get_or children k 0) 0 < get_or depths (get_or children (k + 1) 0) 0 = rises depths h (get_or children k 0) (get_or children (k + 1) 0) (l.next k (omega (arith, short))) in
      let e : k + 1 ≡ suc k = omega arith in
      omega (arith, along depths children h l k (omega (arith, short)), subst (λ j. get_or depths (get_or children k 0) 0 < get_or depths (get_or children j 0) 0) e up)

  pub no-loop : (depths children : List ℕ) → AreDepths n edges depths → IsLoop edges children → ⊥
  no-loop depths children h l =
      omega (arith, along depths children h l (length children - 1) (omega (arith, l.some)), rises depths h (get_or children (length children - 1) 0) (get_or children 0 0) l.closed)
