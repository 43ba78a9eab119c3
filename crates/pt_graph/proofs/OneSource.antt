-- Where each relation group has one source at most, and each port of a transparent composite one link on each side, paths
-- lead from one source at most to each relation.
use Rattle.std.proofs.Common.{◌≡◌, ℕ, List, Some, Bool, true, false, not, IsTrue, refl, ap, subst}
use Rattle.std.proofs.lemmas.Bool.{both_ways, not-true}
use Rattle.std.specs.List.{Contains, slice_get}
use Rattle.pt_net.specs.declared.wire.Wire.{Wire}
use Rattle.pt_net.specs.Standing.{is_kept}
use Rattle.pt_net.specs.Table.{PortAt}
use Rattle.pt_net.specs.Joined.{here, along, against}
use Rattle.pt_net.specs.Wires.{outside_of, inside_of, is_input, taken_from, given_to, IsOneGroup, Meets, bonded, crossed, AreJoined, Gives, IsSource, Place, Reaches}
use Rattle.pt_graph.proofs.GroupSteps.{after_path, back_path}

-- no relation group has two sources
abbrev pub HaveOneSource : List PortAt → List Wire → Type 0
HaveOneSource ports wires = (g : ℕ) (p : PortAt) (a : ℕ) (h : ℕ) (q : PortAt) (b : ℕ) → Gives ports wires g p a → Gives ports wires h q b → IsOneGroup wires a b → g ≡ h

-- a port of a transparent composite has one link on each side at most
abbrev pub AreSingle : List PortAt → List Wire → Type 0
AreSingle ports wires = (g : ℕ) (p : PortAt) → slice_get ports g ≡ Some p → IsTrue (not (is_kept p.standing)) → (a b : ℕ) → Contains (taken_from wires g p) a → Contains (taken_from wires g p) b → a ≡ b

-- the tokens of a source come to a relation: it is in the group of the source, or in a group to which a transparent composite
-- gives what it takes from such a relation
data Feeds (ports : List PortAt) (wires : List Wire) (g : ℕ) : ℕ → Type 0 where
  first : (p : PortAt) (a b : ℕ) → IsSource ports wires g p a → IsOneGroup wires a b → Feeds ports wires g b
  onward : (h : ℕ) (q : PortAt) (a b c : ℕ) → Feeds ports wires g a → slice_get ports h ≡ Some q → IsTrue (not (is_kept q.standing)) → Contains (taken_from wires h q) a → Contains (given_to wires h q) b → IsOneGroup wires b c → Feeds ports wires g c

same_port : (ports : List PortAt) (g h : ℕ) (p q : PortAt) → slice_get ports g ≡ Some p → slice_get ports h ≡ Some q → g ≡ h → p ≡ q
same_port ports g h p q e f same = let i : slice_get ports g ≡ slice_get ports h = ap (λ k. slice_get ports k) same in cc

apart : (ports : List PortAt) (g h : ℕ) (p q : PortAt) → slice_get ports g ≡ Some p → slice_get ports h ≡ Some q → IsTrue (is_kept p.standing) → IsTrue (not (is_kept q.standing)) → g ≡ h → ⊥
apart ports g h p q e f kept not_kept same =
    let r : p ≡ q = same_port ports g h p q e f same in
    both_ways (is_kept q.standing) (not-true (is_kept q.standing) not_kept) (subst (λ (s : PortAt). IsTrue (is_kept s.standing)) r kept)

module _ (ports : List PortAt) (wires : List Wire) (one : HaveOneSource ports wires) (single : AreSingle ports wires) where
  feeds_group : (g a b : ℕ) → Feeds ports wires g a → IsOneGroup wires a b → Feeds ports wires g b
  feeds_group g a b (first p x y s m) n = first p x b s (after_path x y b m n)
  feeds_group g a b (onward h q x y z f i k t v m) n = onward h q x y b f i k t v (after_path y z b m n)

  -- across a transparent composite, against the tokens
  feeds_back : (g : ℕ) (h : ℕ) (q : PortAt) (a b : ℕ) → slice_get ports h ≡ Some q → IsTrue (not (is_kept q.standing)) → Contains (taken_from wires h q) a → Contains (given_to wires h q) b → Feeds ports wires g b → Feeds ports wires g a
  feeds_back g h q a b is free takes gives (first p x y s m) =
      absurd (apart ports g h p q s.gives.port is s.kept free (one g p x h q b s.gives (record { port = is; linked = gives }) m))
  feeds_back g h q a b is free takes gives (onward k r x y z f i free' t v m) =
      let same = one k r y h q b (record { port = i; linked = v }) (record { port = is; linked = gives }) m in
      let t' : Contains (taken_from wires h q) x = subst (λ (s : PortAt). Contains (taken_from wires h s) x) (same_port ports k h r q i is same) (subst (λ (j : ℕ). Contains (taken_from wires j r) x) same t) in
      subst (λ (c : ℕ). Feeds ports wires g c) (single h q is free x a t' takes) f

  cross : (g : ℕ) (h : ℕ) (q : PortAt) (a b : ℕ) (input : Bool) → is_input q ≡ input → slice_get ports h ≡ Some q → IsTrue (not (is_kept q.standing)) → Contains (outside_of wires h) a → Contains (inside_of wires h) b → (Feeds ports wires g a → Feeds ports wires g b) × (Feeds ports wires g b → Feeds ports wires g a)
  cross g h q a b true e is free out in' =
      let takes : Contains (taken_from wires h q) a = rw e out in
      let gives : Contains (given_to wires h q) b = rw e in' in
      (λ f. onward h q a b b f is free takes gives (here b), feeds_back g h q a b is free takes gives)
  cross g h q a b false e is free out in' =
      let takes : Contains (taken_from wires h q) b = rw e in' in
      let gives : Contains (given_to wires h q) a = rw e out in
      (feeds_back g h q b a is free takes gives, λ f. onward h q b a a f is free takes gives (here a))

  feeds_met : (g a b : ℕ) → Meets ports wires a b → (Feeds ports wires g a → Feeds ports wires g b) × (Feeds ports wires g b → Feeds ports wires g a)
  feeds_met g a b (bonded x y w) = (λ f. feeds_group g x y f (along x y y w (here y)), λ f. feeds_group g y x f (against y x x w (here x)))
  feeds_met g a b (crossed h q x y is free out in') = cross g h q x y (is_input q) refl is free out in'

  feeds_joined : (g a b : ℕ) → AreJoined ports wires a b → Feeds ports wires g a → Feeds ports wires g b
  feeds_joined g a b (here x) f = f
  feeds_joined g a b (along x y z m p) f = feeds_joined g y z p ((feeds_met g x y m).0 f)
  feeds_joined g a b (against x y z m p) f = feeds_joined g y z p ((feeds_met g y x m).1 f)

  fed_once : (g h a : ℕ) → Feeds ports wires g a → Feeds ports wires h a → g ≡ h
  fed_once g h a (first p x y s m) (first p' x' y' s' m') = one g p x h p' x' s.gives s'.gives (after_path x y x' m (back_path x' y' m'))
  fed_once g h a (first p x y s m) (onward k q x' y' z' f i free t v m') =
      absurd (apart ports g k p q s.gives.port i s.kept free (one g p x k q y' s.gives (record { port = i; linked = v }) (after_path x y y' m (back_path y' z' m'))))
  fed_once g h a (onward k q x y z f i free t v m) (first p x' y' s m') =
      absurd (apart ports h k p q s.gives.port i s.kept free (one h p x' k q y s.gives (record { port = i; linked = v }) (after_path x' y' y m' (back_path y z m))))
  fed_once g h a (onward k q x y z f i free t v m) (onward k' q' x' y' z' f' i' free' t' v' m') =
      let same = one k q y k' q' y' (record { port = i; linked = v }) (record { port = i'; linked = v' }) (after_path y z y' m (back_path y' z' m')) in
      let t2 : Contains (taken_from wires k' q') x = subst (λ (s : PortAt). Contains (taken_from wires k' s) x) (same_port ports k k' q q' i i' same) (subst (λ (j : ℕ). Contains (taken_from wires j q) x) same t) in
      fed_once g h x f (subst (λ (c : ℕ). Feeds ports wires h c) (single k' q' i' free' x' x t' t2) f')

  -- one source at most reaches a place
  pub reached_once : (place : Place) (g h : ℕ) (p q : PortAt) → Reaches ports wires g p place → Reaches ports wires h q place → (g ≡ h) × (p ≡ q)
  reached_once place g h p q a b =
      let same = fed_once g h place.relation (feeds_joined g a.relation place.relation a.joined (first p a.relation a.relation a.source (here a.relation))) (feeds_joined h b.relation place.relation b.joined (first q b.relation b.relation b.source (here b.relation))) in
      (same, same_port ports g h p q a.source.gives.port b.source.gives.port same)
