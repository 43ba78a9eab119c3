-- Moving the nodes of one part into another, node by node.
use Rattle.std.proofs.Common.{◌≡◌, ◌≢◌, ℕ, ◌+◌, ◌*◌, ◌<◌, ◌≤◌, inl, inr, List, [], ◌∷◌, ◌++◌, length, get_or, set, sum, sym, ap, subst, ◌∙◌, arith, Contains}
use Rattle.std.proofs.lemmas.Bool.{cases_eq}
use Rattle.std.proofs.lemmas.List.{length-set, get_or-set_same, get_or-set_other}
use Rattle.std.proofs.lemmas.List.Elements.{Contains-append_left, Contains-push}
use Rattle.std.proofs.lemmas.List.Sums.{sum_by-set}
use Rattle.std.proofs.lemmas.Nat.{mul-le}
use Rattle.pt_rates.specs.Parts.{label_of, repetitions_of, members_of, AreHeld, AreSmall, AreMoved, IsPut, IsNodeMoved}
use Rattle.pt_rates.specs.declared.parts.Parts.{Parts}
use Rattle.pt_rates.proofs.Left.{IsLeft, left-start, left-more}

-- a node in the course of a move: it is still to be moved, has been moved, or stays
pub data Course (nodes : List ℕ) (index from to times : ℕ) (old new : Parts) (node : ℕ) : Type 0 where
  waits : label_of old node ≡ from → label_of new node ≡ from → repetitions_of new node ≡ repetitions_of old node → IsLeft nodes index node → Course nodes index from to times old new node
  moved : label_of old node ≡ from → label_of new node ≡ to → repetitions_of new node ≡ times * repetitions_of old node → Contains (members_of new to) node → Course nodes index from to times old new node
  stays : label_of old node ≢ from → label_of new node ≡ label_of old node → repetitions_of new node ≡ repetitions_of old node → Contains (members_of new (label_of new node)) node → Course nodes index from to times old new node

-- a move that has come to an index of the list of nodes
pub record IsMoving (nodes : List ℕ) (index from to times : ℕ) (old new : Parts) : Type 0 where
  pub labels : length new.labels.items ≡ length old.labels.items
  pub repetitions : length new.repetitions.items ≡ length new.labels.items
  pub members : length new.members.items ≡ length old.members.items
  pub summed : new.sum ≡ sum new.repetitions.items
  pub bounded : new.sum ≤ old.sum + index * 1000000000000000000
  pub small : AreSmall from new
  pub course : (node : ℕ) → node < length old.labels.items → Course nodes index from to times old new node

-- before the first step: the list of the part is taken out
pub moving-start : (from to times : ℕ) (old new : Parts) → AreHeld old → AreSmall from old → new.labels.items ≡ old.labels.items → new.repetitions.items ≡ old.repetitions.items → new.members.items ≡ set old.members.items from [] → new.sum ≡ old.sum → IsMoving (members_of old from) 0 from to times old new
moving-start from to times old new held small labels repetitions members summed = record {
  labels = ap length labels;
  repetitions = ap length repetitions ∙ held.counted ∙ sym (ap length labels);
  members = ap length members ∙ length-set old.members.items from [];
  summed = summed ∙ held.summed ∙ ap sum (sym repetitions);
  bounded = omega (arith, summed);
  small = λ node e. subst (λ xs. get_or xs node 0 ≤ 1000000) (sym repetitions) (small node (subst (λ xs. get_or xs node 0 ≡ from) labels e));
  course = λ node short.
      let label : label_of new node ≡ label_of old node = ap (λ xs. get_or xs node 0) labels in
      let same : repetitions_of new node ≡ repetitions_of old node = ap (λ xs. get_or xs node 0) repetitions in
      elim (cases_eq (label_of old node) from) [
        | inl e ↦ waits e (label ∙ e) same (left-start (members_of old from) node (subst (λ k. Contains (members_of old k) node) e (held.listed node short)))
        | inr d ↦
            stays d label same
            (subst (λ xs. Contains xs node) (sym (ap (λ k. members_of new k) label ∙ ap (λ (ms : List (List ℕ)). get_or ms (label_of old node) []) members ∙ get_or-set_other old.members.items from (label_of old node) [] [] d)) (held.listed node short))
      ];
}

module _ (nodes : List ℕ) (index from to times : ℕ) (old new next : Parts) (apart : from ≢ to) (target : to < length old.members.items) (bound : (0 < times) × (times ≤ 1000000000000)) (inside : index < length nodes) (h : IsMoving nodes index from to times old new) where
  abbrev here : ℕ
  here = get_or nodes index 0

  -- the node is moved
  put-course : here < length new.labels.items → label_of new here ≡ from → IsPut here to times new next → (node : ℕ) → node < length old.labels.items → Course nodes (index + 1) from to times old next node
  put-course short is put node node_short = elim (cases_eq node here) [
    | inl e ↦ subst (λ v. Course nodes (index + 1) from to times old next v) (sym e) (at_here (h.course here (omega (arith, short, h.labels))))
    | inr d ↦ elsewhere d (h.course node node_short)
  ]
    where
      target_new : to < length new.members.items
      target_new = omega (arith, target, h.members)

      listed_here : Contains (members_of next to) here
      listed_here = subst (λ xs. Contains xs here) (sym (ap (λ (ms : List (List ℕ)). get_or ms to []) put.members ∙ get_or-set_same new.members.items to (members_of new to ++ here ∷ []) [] target_new)) (Contains-push (members_of new to) here)

      label_here : label_of next here ≡ to
      label_here = ap (λ xs. get_or xs here 0) put.labels ∙ get_or-set_same new.labels.items here to 0 short

      repetitions_here : repetitions_of next here ≡ times * repetitions_of new here
      repetitions_here = ap (λ xs. get_or xs here 0) put.repetitions ∙ get_or-set_same new.repetitions.items here (times * repetitions_of new here) 0 (omega (arith, short, h.repetitions))

      at_here : Course nodes index from to times old new here → Course nodes (index + 1) from to times old next here
      at_here (waits was label same left) = moved was label_here (repetitions_here ∙ ap (λ x. times * x) same) listed_here
      at_here (moved was label many listed) = absurd (apart (sym is ∙ label))
      at_here (stays was label same listed) = absurd (was (sym label ∙ is))

      label_elsewhere : (node ≡ here → ⊥) → label_of next node ≡ label_of new node
      label_elsewhere d = ap (λ xs. get_or xs node 0) put.labels ∙ get_or-set_other new.labels.items here node to 0 d

      repetitions_elsewhere : (node ≡ here → ⊥) → repetitions_of next node ≡ repetitions_of new node
      repetitions_elsewhere d = ap (λ xs. get_or xs node 0) put.repetitions ∙ get_or-set_other new.repetitions.items here node (times * repetitions_of new here) 0 d

      listed_elsewhere : (label : ℕ) → Contains (members_of new label) node → Contains (members_of next label) node
      listed_elsewhere label listed =
          subst (λ xs. Contains xs node) (sym (ap (λ (ms : List (List ℕ)). get_or ms label []) put.members)) (elim (cases_eq label to) [
            | inl e ↦ subst (λ l. Contains (get_or (set new.members.items to (members_of new to ++ here ∷ [])) l []) node) (sym e) (subst (λ xs. Contains xs node) (sym (get_or-set_same new.members.items to (members_of new to ++ here ∷ []) [] target_new)) (Contains-append_left (members_of new to) (here ∷ []) node (subst (λ l. Contains (members_of new l) node) e listed)))
            | inr d ↦ subst (λ xs. Contains xs node) (sym (get_or-set_other new.members.items to label (members_of new to ++ here ∷ []) [] d)) listed
          ])

      elsewhere : (node ≡ here → ⊥) → Course nodes index from to times old new node → Course nodes (index + 1) from to times old next node
      elsewhere d (waits was label same left) = elim (left-more nodes index node left) [
        | inl e ↦ absurd (d (sym e))
        | inr more ↦ waits was (label_elsewhere d ∙ label) (repetitions_elsewhere d ∙ same) more
      ]
      elsewhere d (moved was label many listed) = moved was (label_elsewhere d ∙ label) (repetitions_elsewhere d ∙ many) (listed_elsewhere to listed)
      elsewhere d (stays was label same listed) =
          stays was (label_elsewhere d ∙ label) (repetitions_elsewhere d ∙ same) (subst (λ l. Contains (members_of next l) node) (sym (label_elsewhere d)) (listed_elsewhere (label_of new node) listed))

  moving-put : here < length new.labels.items → label_of new here ≡ from → IsPut here to times new next → IsMoving nodes (index + 1) from to times old next
  moving-put short is put =
      let within : here < length new.repetitions.items = omega (arith, short, h.repetitions) in
      let added : next.sum + repetitions_of new here ≡ new.sum + times * repetitions_of new here = put.sum in
      let sums = sum_by-set (λ x. x) new.repetitions.items here (times * repetitions_of new here) 0 within in
      record {
        labels = ap length put.labels ∙ length-set new.labels.items here to ∙ h.labels;
        repetitions = ap length put.repetitions ∙ length-set new.repetitions.items here _ ∙ h.repetitions ∙ sym (ap length put.labels ∙ length-set new.labels.items here to);
        members = ap length put.members ∙ length-set new.members.items to _ ∙ h.members;
        summed = summed_after next.sum new.sum (sum next.repetitions.items) (sum (set new.repetitions.items here (times * repetitions_of new here))) (sum new.repetitions.items) (repetitions_of new here) (times * repetitions_of new here) added h.summed sums (ap sum put.repetitions);
        bounded = bounded_after next.sum new.sum old.sum index (repetitions_of new here) (times * repetitions_of new here) added h.bounded (mul-le times (repetitions_of new here) 1000000000000 1000000 bound.1 (h.small here is));
        small = λ node e. elim (cases_eq node here) [
          | inl i ↦ absurd (apart (sym e ∙ ap (λ v. label_of next v) i ∙ ap (λ xs. get_or xs here 0) put.labels ∙ get_or-set_same new.labels.items here to 0 short))
          | inr d ↦ subst (λ x. x ≤ 1000000) (sym (ap (λ xs. get_or xs node 0) put.repetitions ∙ get_or-set_other new.repetitions.items here node _ 0 d)) (h.small node (sym (ap (λ xs. get_or xs node 0) put.labels ∙ get_or-set_other new.labels.items here node to 0 d) ∙ e))
        ];
        course = put-course short is put;
      }
    where
      summed_after : (after before total whole part r m : ℕ) → after + r ≡ before + m → before ≡ part → whole + r ≡ part + m → total ≡ whole → after ≡ total
      summed_after after before total whole part r m a b c d = omega (arith, a, b, c, d)

      bounded_after : (after before first index r m : ℕ) → after + r ≡ before + m → before ≤ first + index * 1000000000000000000 → m ≤ 1000000000000 * 1000000 → after ≤ first + (index + 1) * 1000000000000000000
      bounded_after after before first index r m a b c = omega (arith, a, b, c)

  -- the node isn't of the part any more
  moving-kept : (here < length new.labels.items → label_of new here ≢ from) → IsMoving nodes (index + 1) from to times old new
  moving-kept not = record {
    labels = h.labels;
    repetitions = h.repetitions;
    members = h.members;
    summed = h.summed;
    bounded = omega (arith, h.bounded);
    small = h.small;
    course = λ node short. kept node short (h.course node short);
  }
    where
      kept : (node : ℕ) → node < length old.labels.items → Course nodes index from to times old new node → Course nodes (index + 1) from to times old new node
      kept node short (waits was label same left) = elim (left-more nodes index node left) [
        | inl e ↦ absurd (not (omega (arith, e, short, h.labels)) (ap (λ v. label_of new v) e ∙ label))
        | inr more ↦ waits was label same more
      ]
      kept node short (moved was label many listed) = moved was label many listed
      kept node short (stays was label same listed) = stays was label same listed

  pub moving-step : IsNodeMoved here from to times new next → IsMoving nodes (index + 1) from to times old next
  moving-step (inl m) = moving-put m.0 m.1 m.2
  moving-step (inr k) = subst (λ p. IsMoving nodes (index + 1) from to times old p) (sym k.0) (moving-kept k.1)

module _ (nodes : List ℕ) (index from to times : ℕ) (old new : Parts) (over : length nodes ≤ index) (h : IsMoving nodes index from to times old new) where
  none_left : (node : ℕ) → IsLeft nodes index node → ⊥
  none_left node l = omega (arith, l.behind, l.inside)

  pub moved-held : AreHeld new
  moved-held = record {
    counted = h.repetitions;
    listed = λ node short. listed node (h.course node (omega (arith, short, h.labels)));
    summed = h.summed;
  }
    where
      listed : (node : ℕ) → Course nodes index from to times old new node → Contains (members_of new (label_of new node)) node
      listed node (waits was label same left) = absurd (none_left node left)
      listed node (moved was label many at) = subst (λ l. Contains (members_of new l) node) (sym label) at
      listed node (stays was label same at) = at

  pub moved-all : AreMoved from to times old new
  moved-all = record {
    moved = λ node short is. of_part node is (h.course node short);
    kept = λ node short not. of_others node not (h.course node short);
  }
    where
      of_part : (node : ℕ) → label_of old node ≡ from → Course nodes index from to times old new node → (label_of new node ≡ to) × (repetitions_of new node ≡ times * repetitions_of old node)
      of_part node is (waits was label same left) = absurd (none_left node left)
      of_part node is (moved was label many at) = (label, many)
      of_part node is (stays was label same at) = absurd (was is)

      of_others : (node : ℕ) → label_of old node ≢ from → Course nodes index from to times old new node → (label_of new node ≡ label_of old node) × (repetitions_of new node ≡ repetitions_of old node)
      of_others node not (waits was label same left) = absurd (not was)
      of_others node not (moved was label many at) = absurd (not was)
      of_others node not (stays was label same at) = (label, same)
