-- The search for depths: what it has found stays, and at its end all depths are found.
use Rattle.std.proofs.Common.{◌≡◌, ℕ, ◌+◌, ◌-◌, ◌<◌, ◌≤◌, Bool, true, false, cond, eqb, replicate, List, [], ◌∷◌, ◌++◌, length, map, get_or, set, take, All, Contains, sym, ap, subst, ◌∙◌, arith, inl, inr, ◌↔◌, Option, Some, None, MatchOption, is_none}
use Rattle.std.proofs.lemmas.Bool.{false≢true, cases_eq, cases_lt, eq-eqb, ne_eqb}
use Rattle.std.proofs.lemmas.List.{length-set, get_or-set_same, get_or-set_other, get_or-replicate, length-replicate, take_more, take_all, map-append, append-nil, get_or_past, get_or_read}
use Rattle.std.proofs.lemmas.List.Elements.{All-contains, All-head, All-tail, All-weaker, filter-append}
use Rattle.std.proofs.lemmas.List.Sums.{sum_by-set, count_by-le-length}
use Rattle.std.specs.List.{filter}
use Rattle.pt_events.specs.Depths.{AreBetween, AreDepths, Feeds, IsLoop, IsCycle, feeders, depth_after}
use Rattle.pt_events.specs.Found.{list_at, AreFeeders, AreInside, FeedsBy, is_known, AreKnown, known_count, IsFound, IsReady}
use Rattle.pt_events.proofs.DepthLaws.{depth_after-agree, feeders-inside, feeds-from}

-- an edge more at the end of the list
feeders-push : (edges : List (ℕ × ℕ)) (edge : ℕ × ℕ) (child : ℕ) → feeders (edges ++ edge ∷ []) child ≡ feeders edges child ++ map (λ x. x.0) (filter (λ x. eqb x.1 child) (edge ∷ []))
feeders-push edges edge child =
    ap (map (λ x. x.0)) (filter-append (λ x. eqb x.1 child) edges (edge ∷ [])) ∙ map-append (λ x. x.0) (filter (λ x. eqb x.1 child) edges) (filter (λ x. eqb x.1 child) (edge ∷ []))

feeders-here : (edges : List (ℕ × ℕ)) (edge : ℕ × ℕ) (child : ℕ) → edge.1 ≡ child → feeders (edges ++ edge ∷ []) child ≡ feeders edges child ++ edge.0 ∷ []
feeders-here edges edge child e = feeders-push edges edge child ∙ ap (λ b. feeders edges child ++ map (λ x. x.0) (cond b (edge ∷ []) [])) (eq-eqb edge.1 child e)

feeders-other : (edges : List (ℕ × ℕ)) (edge : ℕ × ℕ) (child : ℕ) → (edge.1 ≡ child → ⊥) → feeders (edges ++ edge ∷ []) child ≡ feeders edges child
feeders-other edges edge child d =
    feeders-push edges edge child ∙ ap (λ b. feeders edges child ++ map (λ x. x.0) (cond b (edge ∷ []) [])) (ne_eqb edge.1 child d) ∙ append-nil (feeders edges child)

-- what stands for an edge behind the last
pub no_edge : ℕ × ℕ
no_edge = (0, 0)

pub listed-start : (n : ℕ) (lists : List (List ℕ)) → length lists ≡ n → All (λ list. list ≡ []) lists → AreFeeders n [] lists
listed-start n lists counted empty = record { counted = counted; each = λ child l. empty child [] (omega (arith, l, counted)) }

pub listed-step : (n : ℕ) (edges : List (ℕ × ℕ)) (k : ℕ) (lists : List (List ℕ)) (list : List ℕ) (edge : ℕ × ℕ) → k < length edges → AreBetween n edges → edge ≡ get_or edges k edge → list ≡ get_or lists edge.1 [] ++ edge.0 ∷ [] → AreFeeders n (take k edges) lists → AreFeeders n (take (k + 1) edges) (set lists edge.1 list)
listed-step n edges k lists list edge l between at el h = record {
  counted = length-set lists edge.1 list ∙ h.counted;
  each = λ child inside. elim (cases_eq child edge.1) [
    | inl e ↦
        ap (λ c. get_or (set lists edge.1 list) c []) e ∙ get_or-set_same lists edge.1 list [] (omega (arith, inside, h.counted, e)) ∙ el
        ∙ ap (λ xs. xs ++ edge.0 ∷ []) (ap (λ c. get_or lists c []) (sym e) ∙ h.each child inside) ∙ sym (feeders-here (take k edges) edge child (sym e)) ∙ ap (λ es. feeders es child) (sym more)
    | inr d ↦ get_or-set_other lists edge.1 child list [] d ∙ h.each child inside ∙ sym (feeders-other (take k edges) edge child (λ e. d (sym e))) ∙ ap (λ es. feeders es child) (sym more)
  ];
}
  where
    more : take (k + 1) edges ≡ take k edges ++ edge ∷ []
    more = take_more edges k edge l ∙ ap (λ x. take k edges ++ x ∷ []) (sym at)

pub listed-all : (n : ℕ) (edges : List (ℕ × ℕ)) (k : ℕ) (lists : List (List ℕ)) → length edges ≤ k → AreFeeders n (take k edges) lists → AreFeeders n edges lists
listed-all n edges k lists over h = subst (λ es. AreFeeders n es lists) (take_all k edges over) h

pub lists-inside : (n : ℕ) (edges : List (ℕ × ℕ)) (lists : List (List ℕ)) → AreBetween n edges → AreFeeders n edges lists → AreInside lists
lists-inside n edges lists between h child inside =
    let short : child < n = omega (arith, inside, h.counted) in
    subst (λ m. All (λ feeder. feeder < m) (list_at lists child)) (sym h.counted) (subst (λ xs. All (λ feeder. feeder < n) xs) (sym (h.each child short)) (feeders-inside n edges child between))

pub feeds-edges : (n : ℕ) (edges : List (ℕ × ℕ)) (lists : List (List ℕ)) → AreFeeders n edges lists → (from to : ℕ) → FeedsBy lists from to → Feeds edges from to
feeds-edges n edges lists h from to f = elim (cases_lt to n) [
  | inl l ↦ feeds-from edges from to (subst (λ xs. Contains xs from) (h.each to l) f)
  | inr past ↦ absurd (omega (arith, f.1, ap length (get_or_past lists to [] (omega (arith, past, h.counted)))))
]

pub cycle-loop : (n : ℕ) (edges : List (ℕ × ℕ)) (lists : List (List ℕ)) (children : List ℕ) → AreFeeders n edges lists → IsCycle (FeedsBy lists) children → IsLoop edges children
cycle-loop n edges lists children h c = record {
  some = c.some;
  next = λ k l. feeds-edges n edges lists h (get_or children k 0) (get_or children (k + 1) 0) (c.next k l);
  closed = feeds-edges n edges lists h (get_or children (length children - 1) 0) (get_or children 0 0) c.closed;
}

-- nothing is known at first
pub found-start : (n : ℕ) (lists : List (List ℕ)) (known : List Bool) (depths : List ℕ) → length lists ≡ n → known ≡ replicate n false → length depths ≡ n → IsFound lists known depths
found-start n lists known depths counted start long = record {
  flags = ap length start ∙ length-replicate n false ∙ sym counted;
  counted = long ∙ sym counted;
  fed = λ child k. absurd (none child k);
  depth = λ child k. absurd (none child k);
  small = λ child k. absurd (none child k);
}
  where
    none : (child : ℕ) → is_known known child ≡ true → ⊥
    none child k = elim (cases_lt child n) [
      | inl l ↦ false≢true (sym (ap (λ xs. get_or xs child false) start ∙ get_or-replicate n child false false l) ∙ k)
      | inr past ↦ false≢true (sym (get_or_past known child false (omega (arith, past, ap length start, length-replicate n false))) ∙ k)
    ]

pub depth_after-below : (depths children : List ℕ) (bound : ℕ) → All (λ child. get_or depths child 0 < bound) children → depth_after depths children ≤ bound
depth_after-below depths [] bound h = omega arith
depth_after-below depths (c ∷ cs) bound h = omega (arith, All-head (λ child. get_or depths child 0 < bound) c cs h, depth_after-below depths cs bound (All-tail (λ child. get_or depths child 0 < bound) c cs h))

module _ (lists : List (List ℕ)) (known : List Bool) (depths : List ℕ) (child depth : ℕ) (h : IsFound lists known depths) (ready : IsReady lists known child) where
  pub count-more : known_count (set known child true) ≡ known_count known + 1
  count-more =
      let s = sum_by-set (λ b. cond b 1 0) known child true false (omega (arith, ready.inside, h.flags)) in
      let one : Bool → ℕ = λ b. cond b 1 0 in
      let z : one (get_or known child false) ≡ 0 = ap one ready.unknown in
      omega (arith, s, z)

  kept : (c : ℕ) → is_known known c ≡ true → is_known (set known child true) c ≡ true
  kept c k = elim (cases_eq c child) [
    | inl e ↦ absurd (false≢true (sym ready.unknown ∙ ap (is_known known) (sym e) ∙ k))
    | inr d ↦ get_or-set_other known child c true false d ∙ k
  ]

  old : (c : ℕ) → (c ≡ child → ⊥) → is_known (set known child true) c ≡ true → is_known known c ≡ true
  old c d k = sym (get_or-set_other known child c true false d) ∙ k

  -- the depths behind known children stay
  same : (children : List ℕ) → AreKnown known children → depth_after depths children ≡ depth_after (set depths child depth) children
  same children k = depth_after-agree depths (set depths child depth) children (λ i d l.
      let c : ℕ = get_or children i d in
      sym (get_or-set_other depths child c depth 0 (λ e. false≢true (sym ready.unknown ∙ ap (is_known known) (sym e) ∙ k i d l))))

  pub found-more : depth ≡ depth_after depths (list_at lists child) → IsFound lists (set known child true) (set depths child depth)
  found-more is = record {
    flags = length-set known child true ∙ h.flags;
    counted = length-set depths child depth ∙ h.counted;
    fed = λ c k. elim (cases_eq c child) [
      | inl e ↦ subst (λ x. AreKnown (set known child true) (list_at lists x)) (sym e) (wider (list_at lists child) ready.fed)
      | inr d ↦ wider (list_at lists c) (h.fed c (old c d k))
    ];
    depth = λ c k. elim (cases_eq c child) [
      | inl e ↦ subst (λ x. get_or (set depths child depth) x 0 ≡ depth_after (set depths child depth) (list_at lists x)) (sym e) (here ∙ is ∙ same (list_at lists child) ready.fed)
      | inr d ↦ get_or-set_other depths child c depth 0 d ∙ h.depth c (old c d k) ∙ same (list_at lists c) (h.fed c (old c d k))
    ];
    small = λ c k. elim (cases_eq c child) [
      | inl e ↦ omega (arith, ap (λ x. get_or (set depths child depth) x 0) e, here, is, count-more, depth_after-below depths (list_at lists child) (known_count known) (λ i d l. h.small (get_or (list_at lists child) i d) (ready.fed i d l)))
      | inr d ↦ omega (arith, get_or-set_other depths child c depth 0 d, count-more, h.small c (old c d k))
    ];
  }
    where
      wider : (children : List ℕ) → AreKnown known children → AreKnown (set known child true) children
      wider children k = All-weaker (λ c. is_known known c ≡ true) (λ c. is_known (set known child true) c ≡ true) kept children k

      here : get_or (set depths child depth) child 0 ≡ depth
      here = get_or-set_same depths child depth 0 (omega (arith, ready.inside, h.counted))

-- the feeders of a child that is ready have small depths
pub ready-small : (lists : List (List ℕ)) (known : List Bool) (depths : List ℕ) (child bound : ℕ) → IsFound lists known depths → IsReady lists known child → length lists ≤ bound → All (λ c. get_or depths c 0 < bound) (list_at lists child)
ready-small lists known depths child bound h ready small = λ i d l.
    omega (arith, h.small (get_or (list_at lists child) i d) (ready.fed i d l), count_by-le-length (λ b. b) known, h.flags, small)

-- at the end all depths are there
pub all-found : (n : ℕ) (edges : List (ℕ × ℕ)) (lists : List (List ℕ)) (known : List Bool) (depths : List ℕ) → AreFeeders n edges lists → IsFound lists known depths → ((child : ℕ) → child < length lists → is_known known child ≡ true) → AreDepths n edges depths
all-found n edges lists known depths f h over = record {
  counted = h.counted ∙ f.counted;
  each = λ child l. h.depth child (over child (omega (arith, l, f.counted))) ∙ ap (depth_after depths) (f.each child l);
}

-- the list of a child, as it is read
pub list-read : (lists : List (List ℕ)) (child : ℕ) (list xs : List ℕ) → child < length lists → list ≡ get_or lists child list → xs ≡ list → xs ≡ list_at lists child
list-read lists child list xs l at is = is ∙ get_or_read lists child list l at []

pub small-at : (lists : List (List ℕ)) (known : List Bool) (depths : List ℕ) (child bound : ℕ) (xs ds : List ℕ) → xs ≡ list_at lists child → ds ≡ depths → IsFound lists known depths → IsReady lists known child → length lists ≤ bound → All (λ c. get_or ds c 0 < bound) xs
small-at lists known depths child bound xs ds e f h ready small = subst (λ es. All (λ c. get_or es c 0 < bound) xs) (sym f) (subst (λ ys. All (λ c. get_or depths c 0 < bound) ys) (sym e) (ready-small lists known depths child bound h ready small))

pub inside-at : (lists : List (List ℕ)) (child n : ℕ) (xs : List ℕ) → xs ≡ list_at lists child → child < length lists → n ≡ length lists → AreInside lists → All (λ c. c < n) xs
inside-at lists child n xs e l counted inside = subst (λ m. All (λ c. c < m) xs) (sym counted) (subst (λ ys. All (λ c. c < length lists) ys) (sym e) (inside child l))

pub depth-at : (depths ds xs list : List ℕ) (depth : ℕ) → ds ≡ depths → xs ≡ list → depth ≡ depth_after ds xs → depth ≡ depth_after depths list
depth-at depths ds xs list depth e f h = h ∙ (λ i. depth_after (e i) (f i))

-- whether a child is ready, by the first of its feeders whose depth isn't known
pub ready-when : (lists : List (List ℕ)) (known : List Bool) (child : ℕ) (xs : List ℕ) (unknown : Option ℕ) (result : Bool) → child < length lists → is_known known child ≡ false → xs ≡ list_at lists child → MatchOption unknown (AreKnown known xs) (λ c. Contains xs c × (is_known known c ≡ false)) → result ≡ is_none unknown → (result ≡ true) ↔ IsReady lists known child
ready-when lists known child xs None result l no-depth e h r = ((λ _. record { inside = l; unknown = no-depth; fed = subst (λ ys. AreKnown known ys) e h }), λ _. r)
ready-when lists known child xs (Some c) result l no-depth e h r = (
  (λ yes. absurd (false≢true (sym r ∙ yes))),
  λ ready. absurd (false≢true (sym h.1 ∙ All-contains (λ x. is_known known x ≡ true) (list_at lists child) c ready.fed (subst (λ ys. Contains ys c) e h.0))),
)
