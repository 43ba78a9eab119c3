-- How many nodes of a built tree are of an entity: each entity of a net in which it has a way to the top has one.
use Rattle.std.proofs.Common.{◌≡◌, ◌<◌, ◌+◌, ℕ, zero, suc, List, Bool, false, nat_eq, Option, Some, None, refl, ap, subst, ◌∙◌, arith}
use Rattle.std.proofs.lemmas.Bool.{ne_eqb}
use Rattle.std.proofs.lemmas.Option.{slice_get_within}
use Rattle.pt_net.specs.declared.net.Net.{Net}
use Rattle.pt_net.specs.declared.net.NetEntity.{NetEntity}
use Rattle.pt_net.specs.Inside.{is_number, is_child, children_of}
use Rattle.pt_library.specs.declared.library_actor.LibraryActor.{LibraryActor}
use Rattle.pt_node.specs.Shown.{Shown}
use Rattle.pt_trees.specs.Trees.{IsEntity, Starts, StartsAs}
use Rattle.pt_trees.specs.Built.{IsBuilt, AreBuilt, built_actor, built_composite, none_built, more_built}
use Rattle.pt_cover.proofs.Matching.{one_if, times_in, matching, children-match, times-matching}
use Rattle.pt_cover.proofs.Nesting.{get-within}

-- what starts as an actor has nothing within it
abbrev pub AreChildless : Net → Starts → Type 0
AreChildless net starts = (k : ℕ) (e : NetEntity) (a : LibraryActor) → IsEntity net k e → StartsAs starts k a → (o : ℕ) (d : NetEntity) → IsEntity net o d → is_child k d ≡ false

-- the entities of a net: each but the first stands in one before it
pub record AreRooted (net : Net) : Type 0 where
  pub top : (e : NetEntity) → IsEntity net 0 e → e.parent ≡ None
  pub others : (k : ℕ) (e : NetEntity) → 0 < k → IsEntity net k e → (j : ℕ) × (e.parent ≡ Some j) × (j < k)

-- an entity is among the children of what it stands in alone, once
pub among : (net : Net) (o : ℕ) (d : NetEntity) → IsEntity net o d → (c : ℕ) → times_in o (children_of net.entities.items c) ≡ one_if (is_child c d)
among net o d there c =
    let at : 0 + o ≡ o = omega arith in
    ap (times_in o) (children-match c 0 net.entities.items) ∙ subst (λ (n : ℕ). times_in n (matching (is_child c) 0 net.entities.items) ≡ one_if (is_child c d)) at (times-matching (is_child c) 0 o net.entities.items d there)

module _ (net : Net) (starts : Starts) where
  -- the number of nodes of entities that pass
  abbrev mutual
    pub nodes : (ℕ → Bool) → {k : ℕ} {s : Shown} → IsBuilt net starts k s → ℕ
    nodes f (built_actor k e a at undirected is) = one_if (f k)
    nodes f (built_composite k e director kids s at directed are is) = one_if (f k) + nodes_in f are

    pub nodes_in : (ℕ → Bool) → {ks : List ℕ} {kids : List Shown} → AreBuilt net starts ks kids → ℕ
    nodes_in f none_built = 0
    nodes_in f (more_built k ks s ss b bs) = nodes f b + nodes_in f bs

  -- where none passes there is no node
  mutual
    no-nodes : (f : ℕ → Bool) → ((k : ℕ) → f k ≡ false) → {k : ℕ} {s : Shown} (b : IsBuilt net starts k s) → nodes f b ≡ 0
    no-nodes f none (built_actor k e a at undirected is) = ap one_if (none k)
    no-nodes f none (built_composite k e director kids s at directed are is) = let own = ap one_if (none k) in let rest = no-nodes-in f none are in omega (arith, own, rest)

    no-nodes-in : (f : ℕ → Bool) → ((k : ℕ) → f k ≡ false) → {ks : List ℕ} {kids : List Shown} (bs : AreBuilt net starts ks kids) → nodes_in f bs ≡ 0
    no-nodes-in f none none_built = refl
    no-nodes-in f none (more_built k ks s ss b bs) = let first = no-nodes f none b in let rest = no-nodes-in f none bs in omega (arith, first, rest)

  -- an entity has a node where the tree begins at it, and one in each node that it is a child of
  module _ (childless : AreChildless net starts) (o : ℕ) (d : NetEntity) (there : IsEntity net o d) where
    mutual
      by-parents : {k : ℕ} {s : Shown} (b : IsBuilt net starts k s) → nodes (nat_eq o) b ≡ one_if (nat_eq o k) + nodes (λ c. is_child c d) b
      by-parents (built_actor k e a at undirected is) = let none : one_if (is_child k d) ≡ 0 = ap one_if (childless k e a at is o d there) in omega (arith, none)
      by-parents (built_composite k e director kids s at directed are is) =
          let within : nodes_in (nat_eq o) are ≡ times_in o (children_of net.entities.items k) + nodes_in (λ c. is_child c d) are = by-parents-in are in
          let counted = among net o d there k in
          omega (arith, within, counted)

      by-parents-in : {ks : List ℕ} {kids : List Shown} (bs : AreBuilt net starts ks kids) → nodes_in (nat_eq o) bs ≡ times_in o ks + nodes_in (λ c. is_child c d) bs
      by-parents-in none_built = refl
      by-parents-in (more_built k ks s ss b bs) = let first = by-parents b in let rest = by-parents-in bs in omega (arith, first, rest)

  -- so each entity has one node in the tree of the top
  module _ (childless : AreChildless net starts) (rooted : AreRooted net) {s : Shown} (top : IsBuilt net starts 0 s) where
    one-below : (n o : ℕ) (d : NetEntity) → o < n → IsEntity net o d → nodes (nat_eq o) top ≡ 1
    one-below zero o d l there = absurd (omega (arith, l))
    one-below (suc n) zero d l there =
        let alone : d.parent ≡ None = rooted.top d there in
        let none : nodes (λ c. is_child c d) top ≡ 0 = no-nodes (λ c. is_child c d) (λ c. ap (is_number c) alone) top in
        by-parents childless 0 d there top ∙ ap (λ m. 1 + m) none
    one-below (suc n) (suc o) d l there =
        let in_that = rooted.others (suc o) d (omega arith) there in
        let parent = get-within net.entities.items in_that.0 (omega (arith, in_that.2, slice_get_within net.entities.items (suc o) d there)) in
        let one : nodes (nat_eq in_that.0) top ≡ 1 = one-below n in_that.0 parent.0 (omega (arith, in_that.2, l)) parent.1 in
        let same : nodes (λ c. is_child c d) top ≡ nodes (nat_eq in_that.0) top = ap (λ (p : Option ℕ). nodes (λ c. is_number c p) top) in_that.1 in
        let other : one_if (nat_eq (suc o) 0) ≡ 0 = ap one_if (ne_eqb (suc o) 0 (λ e. omega (arith, e))) in
        let all = by-parents childless (suc o) d there top in
        omega (arith, one, same, other, all)

    pub one-node : (o : ℕ) (d : NetEntity) → IsEntity net o d → nodes (nat_eq o) top ≡ 1
    one-node o d there = one-below (suc o) o d (omega arith) there
