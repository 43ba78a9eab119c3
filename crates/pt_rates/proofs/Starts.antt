-- Before the first channel each node is a part of its own.
use Rattle.std.proofs.Common.{◌≡◌, ℕ, zero, suc, ◌+◌, ◌*◌, ◌<◌, List, [], ◌∷◌, ◌++◌, length, get_or, replicate, sum, refl, sym, ap, subst, ◌∙◌, arith, Contains, below_more}
use Rattle.std.proofs.lemmas.List.{length-replicate, get_or-replicate, get_or_append_left, get_or_push, length_push}
use Rattle.std.proofs.lemmas.List.Elements.{All-nil, All-replicate}
use Rattle.std.proofs.lemmas.List.Sums.{sum_by-cons}
use Rattle.pt_rates.specs.Balance.{IsBalancedAt, IsRepetitionVector}
use Rattle.pt_rates.specs.Parts.{repetitions_of, members_of, AreHeld, IsSpanned}
use Rattle.pt_rates.specs.declared.parts.Parts.{Parts}

-- the first parts have one node each, that of their number
pub record AreAlone (count : ℕ) (labels : List ℕ) (members : List (List ℕ)) : Type 0 where
  pub labelled : length labels ≡ count
  pub listed : length members ≡ count
  pub own : (node : ℕ) → node < count → get_or labels node 0 ≡ node
  pub one : (node : ℕ) → node < count → get_or members node [] ≡ node ∷ []

pub alone-more : (count : ℕ) (labels labels' : List ℕ) (members members' : List (List ℕ)) → AreAlone count labels members → labels' ≡ labels ++ count ∷ [] → members' ≡ members ++ (count ∷ []) ∷ [] → AreAlone (count + 1) labels' members'
alone-more count labels labels' members members' h el em = record {
  labelled = ap length el ∙ length_push labels count ∙ ap (λ k. k + 1) h.labelled;
  listed = ap length em ∙ length_push members (count ∷ []) ∙ ap (λ k. k + 1) h.listed;
  own = below_more (λ node. get_or labels' node 0 ≡ node) count (λ node short. ap (λ xs. get_or xs node 0) el ∙ get_or_append_left labels (count ∷ []) 0 node (omega (arith, short, h.labelled)) ∙ h.own node short) (ap (λ xs. get_or xs count 0) el ∙ get_or_push labels count 0 count h.labelled);
  one = below_more (λ node. get_or members' node [] ≡ node ∷ []) count (λ node short. ap (λ (xs : List (List ℕ)). get_or xs node []) em ∙ get_or_append_left members ((count ∷ []) ∷ []) [] node (omega (arith, short, h.listed)) ∙ h.one node short) (ap (λ (xs : List (List ℕ)). get_or xs count []) em ∙ get_or_push members (count ∷ []) [] count h.listed);
}

pub sum-ones : (n : ℕ) → sum (replicate n 1) ≡ n
sum-ones zero = refl
sum-ones (suc n) = sum_by-cons (λ x. x) 1 (replicate n 1) ∙ omega (arith, sum-ones n)

module _ (n : ℕ) (parts : Parts) (ones : parts.repetitions.items ≡ replicate n 1) (alone : AreAlone n parts.labels.items parts.members.items) where
  pub starts-held : parts.sum ≡ n → AreHeld parts
  starts-held summed = record {
    counted = ap length ones ∙ length-replicate n 1 ∙ sym alone.labelled;
    listed = λ node short.
        let inside : node < n = omega (arith, short, alone.labelled) in
        subst (λ (xs : List ℕ). Contains xs node) (sym (ap (members_of parts) (alone.own node inside) ∙ alone.one node inside)) (0, omega arith, refl);
    summed = summed ∙ sym (sum-ones n) ∙ ap sum (sym ones);
  }

  once : (node : ℕ) → node < n → repetitions_of parts node ≡ 1
  once node short = ap (λ xs. get_or xs node 0) ones ∙ get_or-replicate n node 1 0 short

  pub starts-spanned : IsSpanned n [] parts
  starts-spanned = record {
    positive = λ node short. subst (λ x. 0 < x) (sym (once node short)) (omega arith);
    multiples = λ times q e. All-nil (IsBalancedAt q);
    only = λ q s. (
      (λ k. get_or q k 0),
      λ node short.
          (let one : get_or q node 0 ≡ get_or q node 0 * 1 = omega arith in one) ∙ (λ i. get_or q (sym (alone.own node short) i) 0 * sym (once node short) i),
    );
  }

-- without channels each node fires once
pub ones-least : (n : ℕ) → IsRepetitionVector n [] (replicate n 1)
ones-least n = record {
  solution = record {
    counted = length-replicate n 1;
    positive = All-replicate (λ x. 0 < x) n 1 (omega arith);
    balanced = All-nil (IsBalancedAt (replicate n 1));
  };
  least = λ other s node short.
      let some : 0 < get_or other node 0 = s.positive node 0 (omega (arith, short, s.counted)) in
      omega (arith, some, get_or-replicate {A = ℕ} n node 1 0 short);
}
