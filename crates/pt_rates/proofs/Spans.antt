-- The positive solutions of channels as the multiples of one solution, part by part.
use Rattle.std.proofs.Common.{◌≡◌, ℕ, zero, suc, ◌*◌, ◌<◌, ◌≤◌, inl, inr, cond, eqb, List, [], ◌∷◌, ◌++◌, length, get_or, All, refl, sym, ap, subst, ◌∙◌, arith, eq-eqb}
use Rattle.std.proofs.lemmas.Bool.{cases_eq, ne_eqb}
use Rattle.std.proofs.lemmas.List.{get_or_append_left, get_or_push, length_push}
use Rattle.std.proofs.lemmas.List.Elements.{All-push, All-from_get_or}
use Rattle.std.proofs.Math.Nat.{eq_of_mul-eq-mul_left}
use Rattle.pt_rates.specs.Balance.{IsChannel, IsBalancedAt, IsSolution, IsRepetitionVector}
use Rattle.pt_rates.specs.Ratio.{IsLowest}
use Rattle.pt_rates.specs.Parts.{label_of, repetitions_of, IsSpanned, AreMerged}
use Rattle.pt_rates.specs.declared.edge.Edge.{Edge}
use Rattle.pt_rates.specs.declared.parts.Parts.{Parts}

-- the first elements of a longer list, and its last
pub all-front : {X : Type 0} (P : X → Type 0) (xs : List X) (y : X) → All P (xs ++ y ∷ []) → All P xs
all-front P xs y h k d short = subst P (get_or_append_left xs (y ∷ []) d k short) (h k d (omega (arith, short, length_push xs y)))

pub all-last : {X : Type 0} (P : X → Type 0) (xs : List X) (y : X) → All P (xs ++ y ∷ []) → P y
all-last P xs y h = subst P (get_or_push xs y y (length xs) refl) (h (length xs) y (omega (arith, length_push xs y)))

-- a positive multiple is no less
below_multiple : (a t r : ℕ) → 0 < a → a ≡ t * r → r ≤ a
below_multiple a zero r p e = absurd (omega (arith, e))
below_multiple a (suc t) r p e = omega (arith, e)

-- multiples by one number balance as the numbers do
scaled : (a b t r s p c : ℕ) → a ≡ t * r → b ≡ t * s → r * p ≡ s * c → a * p ≡ b * c
scaled a b t r s p c ea eb e = omega (arith, ap (λ n. n * p) ea, ap (λ n. n * c) eb, ap (λ n. t * n) e)

unscaled : (a b t r s p c : ℕ) → 0 < a → a ≡ t * r → b ≡ t * s → a * p ≡ b * c → r * p ≡ s * c
unscaled a b zero r s p c h ea eb e = absurd (omega (arith, ea))
unscaled a b (suc t) r s p c h ea eb e =
    eq_of_mul-eq-mul_left (suc t) (omega arith) (r * p) (s * c) (omega (arith, ap (λ n. n * p) ea, ap (λ n. n * c) eb, e))

pub times_positive : (t r : ℕ) → 0 < t → 0 < r → 0 < t * r
times_positive zero r p q = absurd (omega arith)
times_positive (suc t) zero p q = absurd (omega arith)
times_positive (suc t) (suc r) p q = omega arith

-- a solution of the channels so far is a solution of the first ones
pub fewer : (n : ℕ) (edges : List Edge) (edge : Edge) (q : List ℕ) → IsSolution n (edges ++ edge ∷ []) q → IsSolution n edges q
fewer n edges edge q s = record { counted = s.counted; positive = s.positive; balanced = all-front (IsBalancedAt q) edges edge s.balanced }

firings_positive : (n : ℕ) (edges : List Edge) (q : List ℕ) (node : ℕ) → IsSolution n edges q → node < n → 0 < get_or q node 0
firings_positive n edges q node s short = s.positive node 0 (omega (arith, s.counted))

-- what spans the solutions is the least of them
pub spanned-least : (n : ℕ) (edges : List Edge) (parts : Parts) → length parts.repetitions.items ≡ n → IsSpanned n edges parts → IsRepetitionVector n edges parts.repetitions.items
spanned-least n edges parts counted h = record {
  solution = record {
    counted = counted;
    positive = All-from_get_or (λ firings. 0 < firings) parts.repetitions.items 0 (λ i short. h.positive i (omega (arith, short, counted)));
    balanced = h.multiples (λ k. 1) parts.repetitions.items (λ node short. omega arith);
  };
  least = λ other s node short.
      let m = h.only other s in
      below_multiple (get_or other node 0) (m.0 (label_of parts node)) (repetitions_of parts node) (firings_positive n edges other node s short) (m.1 node short);
}

module _ (n : ℕ) (edges : List Edge) (edge : Edge) (parts : Parts) (channel : IsChannel n edge) (h : IsSpanned n edges parts) where
  -- a channel within a part that its repetitions balance
  pub spanned-within : label_of parts edge.from ≡ label_of parts edge.to → repetitions_of parts edge.from * edge.produced ≡ repetitions_of parts edge.to * edge.consumed → IsSpanned n (edges ++ edge ∷ []) parts
  spanned-within same even = record {
    positive = h.positive;
    multiples = λ times q e.
        All-push (IsBalancedAt q) edges edge (h.multiples times q e)
        (scaled (get_or q edge.from 0) (get_or q edge.to 0) (times (label_of parts edge.from)) (repetitions_of parts edge.from) (repetitions_of parts edge.to) edge.produced edge.consumed (e edge.from channel.starts) (subst (λ k. get_or q edge.to 0 ≡ times k * repetitions_of parts edge.to) (sym same) (e edge.to channel.ends)) even);
    only = λ q s. h.only q (fewer n edges edge q s);
  }

  -- a channel within a part that they don't balance
  pub spanned-broken : label_of parts edge.from ≡ label_of parts edge.to → (repetitions_of parts edge.from * edge.produced ≡ repetitions_of parts edge.to * edge.consumed → ⊥) → (q : List ℕ) → IsSolution n edges q → IsBalancedAt q edge → ⊥
  spanned-broken same uneven q s even =
      let m = h.only q s in
      uneven (unscaled (get_or q edge.from 0) (get_or q edge.to 0) (m.0 (label_of parts edge.from)) (repetitions_of parts edge.from) (repetitions_of parts edge.to) edge.produced edge.consumed (firings_positive n edges q edge.from s channel.starts) (m.1 edge.from channel.starts) (subst (λ k. get_or q edge.to 0 ≡ m.0 k * repetitions_of parts edge.to) (sym same) (m.1 edge.to channel.ends)) even)

chosen : (k a x y : ℕ) → k ≡ a → cond (eqb k a) x y ≡ x
chosen k a x y e = ap (λ b. cond b x y) (eq-eqb k a e)

not_chosen : (k a x y : ℕ) → (k ≡ a → ⊥) → cond (eqb k a) x y ≡ y
not_chosen k a x y d = ap (λ b. cond b x y) (ne_eqb k a d)

-- where a node stands when two parts become one
data Stands (first second label : ℕ) : Type 0 where
  in_first : label ≡ first → Stands first second label
  in_second : label ≡ second → (label ≡ first → ⊥) → Stands first second label
  in_neither : (label ≡ first → ⊥) → (label ≡ second → ⊥) → Stands first second label

stands : (first second label : ℕ) → Stands first second label
stands first second label = elim (cases_eq label first) [
  | inl e ↦ in_first e
  | inr d ↦ elim (cases_eq label second) [ inl e ↦ in_second e d | inr d' ↦ in_neither d d' ]
]

regrouped : (q t r s old new : ℕ) → q ≡ t * new → new ≡ r * old → s ≡ t * r → q ≡ s * old
regrouped q t r s old new e f g = e ∙ ap (λ x. t * x) f ∙ (let two : t * (r * old) ≡ t * r * old = omega arith in two) ∙ ap (λ x. x * old) (sym g)

module _ (n : ℕ) (edges : List Edge) (edge : Edge) (old new : Parts) (up down : ℕ) (counted : n ≡ length old.labels.items) (channel : IsChannel n edge) (h : IsSpanned n edges old) (apart : label_of old edge.from ≡ label_of old edge.to → ⊥) (lowest : IsLowest (repetitions_of old edge.from * edge.produced) (repetitions_of old edge.to * edge.consumed) up down) (merged : AreMerged (label_of old edge.from) down (label_of old edge.to) up old new) where
  abbrev first : ℕ
  first = label_of old edge.from

  abbrev second : ℕ
  second = label_of old edge.to

  abbrev put : ℕ
  put = repetitions_of old edge.from * edge.produced

  abbrev taken : ℕ
  taken = repetitions_of old edge.to * edge.consumed

  positive : (node : ℕ) → node < n → 0 < repetitions_of new node
  positive node short =
      let short' : node < length old.labels.items = omega (arith, counted) in
      elim (stands first second (label_of old node)) [
        | in_first e ↦ subst (λ x. 0 < x) (sym (merged.firsts node short' e).1) (times_positive down (repetitions_of old node) lowest.second.0 (h.positive node short))
        | in_second e d ↦ subst (λ x. 0 < x) (sym (merged.seconds node short' e).1) (times_positive up (repetitions_of old node) lowest.first.0 (h.positive node short))
        | in_neither d d' ↦ subst (λ x. 0 < x) (sym (merged.others node short' d d').2) (h.positive node short)
      ]

  -- the numbers of the parts before, from those of the parts after
  abbrev before : (ℕ → ℕ) → ℕ → ℕ
  before times k = cond (eqb k first) (times merged.label * down) (cond (eqb k second) (times merged.label * up) (times k))

  multiple_before : (times : ℕ → ℕ) (q : List ℕ) → ((node : ℕ) → node < n → get_or q node 0 ≡ times (label_of new node) * repetitions_of new node) → (node : ℕ) → node < n → get_or q node 0 ≡ before times (label_of old node) * repetitions_of old node
  multiple_before times q e node short =
      let short' : node < length old.labels.items = omega (arith, counted) in
      let k : ℕ = label_of old node in
      elim (stands first second k) [
        | in_first i ↦
            regrouped (get_or q node 0) (times merged.label) down (before times k) (repetitions_of old node) (repetitions_of new node) (e node short ∙ ap (λ l. times l * repetitions_of new node) (merged.firsts node short' i).0) (merged.firsts node short' i).1 (chosen k first _ _ i)
        | in_second i d ↦
            regrouped (get_or q node 0) (times merged.label) up (before times k) (repetitions_of old node) (repetitions_of new node) (e node short ∙ ap (λ l. times l * repetitions_of new node) (merged.seconds node short' i).0) (merged.seconds node short' i).1 (not_chosen k first _ _ d ∙ chosen k second _ _ i)
        | in_neither d d' ↦
            let o = merged.others node short' d d' in
            e node short ∙ (λ j. times (o.0 j) * o.2 j) ∙ ap (λ x. x * repetitions_of old node) (sym (not_chosen k first _ _ d ∙ not_chosen k second _ _ d'))
      ]

  balanced_by : (times : ℕ → ℕ) (q : List ℕ) → ((node : ℕ) → node < n → get_or q node 0 ≡ times (label_of new node) * repetitions_of new node) → IsBalancedAt q edge
  balanced_by times q e =
      let from : get_or q edge.from 0 ≡ times merged.label * down * repetitions_of old edge.from = multiple_before times q e edge.from channel.starts ∙ ap (λ x. x * repetitions_of old edge.from) (chosen first first _ _ refl) in
      let to : get_or q edge.to 0 ≡ times merged.label * up * repetitions_of old edge.to = multiple_before times q e edge.to channel.ends ∙ ap (λ x. x * repetitions_of old edge.to) (not_chosen second first _ _ (λ i. apart (sym i)) ∙ chosen second second _ _ refl) in
      crossed (get_or q edge.from 0) (get_or q edge.to 0) (times merged.label) down up (repetitions_of old edge.from) (repetitions_of old edge.to) edge.produced edge.consumed from to lowest.same
    where
      crossed : (a b t u v r s p c : ℕ) → a ≡ t * u * r → b ≡ t * v * s → u * (r * p) ≡ v * (s * c) → a * p ≡ b * c
      crossed a b t u v r s p c ea eb e = omega (arith, ap (λ x. x * p) ea, ap (λ x. x * c) eb, ap (λ x. t * x) e)

  -- the numbers of the parts after, from those of the parts before
  multiple_after : (times : ℕ → ℕ) (common : ℕ) → times first ≡ common * down → times second ≡ common * up → (q : List ℕ) → ((node : ℕ) → node < n → get_or q node 0 ≡ times (label_of old node) * repetitions_of old node) → (node : ℕ) → node < n → get_or q node 0 ≡ cond (eqb (label_of new node) merged.label) common (times (label_of new node)) * repetitions_of new node
  multiple_after times common one two q e node short =
      let short' : node < length old.labels.items = omega (arith, counted) in
      let k : ℕ = label_of old node in
      let l : ℕ = label_of new node in
      elim (stands first second k) [
        | in_first i ↦
            let m = merged.firsts node short' i in
            e node short ∙ grouped (times k) common down (repetitions_of old node) (ap times i ∙ one) ∙ (λ j. (sym (chosen l merged.label common (times l) m.0)) j * (sym m.1) j)
        | in_second i d ↦
            let m = merged.seconds node short' i in
            e node short ∙ grouped (times k) common up (repetitions_of old node) (ap times i ∙ two) ∙ (λ j. (sym (chosen l merged.label common (times l) m.0)) j * (sym m.1) j)
        | in_neither d d' ↦
            let m = merged.others node short' d d' in
            e node short ∙ (λ j. times (sym m.0 j) * (sym m.2) j) ∙ ap (λ x. x * repetitions_of new node) (sym (not_chosen l merged.label common (times l) m.1))
      ]
    where
      grouped : (t u v r : ℕ) → t ≡ u * v → t * r ≡ u * (v * r)
      grouped t u v r e = omega (arith, ap (λ x. x * r) e)

  pub spanned-merged : IsSpanned n (edges ++ edge ∷ []) new
  spanned-merged = record {
    positive = positive;
    multiples = λ times q e. All-push (IsBalancedAt q) edges edge (h.multiples (before times) q (multiple_before times q e)) (balanced_by times q e);
    only = λ q s.
        let m = h.only q (fewer n edges edge q s) in
        let from = m.1 edge.from channel.starts in
        let to = m.1 edge.to channel.ends in
        let even : m.0 first * put ≡ m.0 second * taken = evened (get_or q edge.from 0) (get_or q edge.to 0) (m.0 first) (m.0 second) (repetitions_of old edge.from) (repetitions_of old edge.to) edge.produced edge.consumed from to (all-last (IsBalancedAt q) edges edge s.balanced) in
        let c = lowest.multiples (m.0 first) (m.0 second) even in
        ((λ k. cond (eqb k merged.label) c.0 (m.0 k)), multiple_after m.0 c.0 c.1 c.2 q m.1);
  }
    where
      evened : (a b t u r s p c : ℕ) → a ≡ t * r → b ≡ u * s → a * p ≡ b * c → t * (r * p) ≡ u * (s * c)
      evened a b t u r s p c ea eb e = omega (arith, ap (λ x. x * p) ea, ap (λ x. x * c) eb, e)
