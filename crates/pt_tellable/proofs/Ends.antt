-- A channel of a composite with a director ends at an output of it, or at a port of a child.
use Rattle.std.proofs.Common.{◌≡◌, ◌≢◌, ◌⊎◌, inl, inr, ℕ, zero, suc, ◌+◌, List, [], ◌∷◌, ◌++◌, Bool, true, false, cond, not, nat_eq, Option, Some, map, filter, flat_map, replicate, refl, sym, ap, subst, ◌∙◌, arith}
use Rattle.std.proofs.lemmas.Bool.Decides.{nat_tests}
use Rattle.std.proofs.lemmas.Option.{none-some}
use Rattle.std.specs.Prelude.{slice_get}
use Rattle.pt_document.specs.declared.job.Direction.{Direction}
use Rattle.pt_document.specs.declared.job.Direction.TheVariants.{Input, Output}
use Rattle.pt_document.specs.declared.job.Port.{Port}
use Rattle.pt_document.specs.Document.{PortTree}
use Rattle.pt_document.specs.View as view
use Rattle.pt_net.specs.declared.net.Channel.{Channel}
use Rattle.pt_net.specs.declared.net.Net.{Net}
use Rattle.pt_net.specs.declared.net.NetDirector.{NetDirector}
use Rattle.pt_net.specs.declared.net.NetEntity.{NetEntity}
use Rattle.pt_net.specs.Inside.{children_of, channels_in, is_within, comes_to, is_input, is_output}
use Rattle.pt_net.specs.Net.{entity_view}
use Rattle.pt_scopes.specs.Scopes.{is_composite_class}
use Rattle.pt_order.specs.Laws.{IsInOrder}
use Rattle.pt_order.specs.ClassPorts.{ends_if, ends_from}
use Rattle.pt_order.specs.Wired.{arrivals, goes_out, departures, number_if, port_numbers}
use Rattle.pt_order.proofs.Children.{child-stands}
use Rattle.pt_tellable.proofs.Names.{and-left, and-right}

-- ---- what is in a list

abbrev pub In : {A : Type 0} → A → List A → Type 0
In x [] = ⊥
In x (y ∷ ys) = (x ≡ y) ⊎ In x ys

pub in-there : {A : Type 0} (xs : List A) (i : ℕ) (x : A) → slice_get xs i ≡ Some x → In x xs
in-there [] i x e = none-some x e
in-there (y ∷ xs) zero x e = inl (let same : y ≡ x = cc in sym same)
in-there (y ∷ xs) (suc i) x e = inr (in-there xs i x e)

there-in : {A : Type 0} (xs : List A) (x : A) → In x xs → (i : ℕ) × (slice_get xs i ≡ Some x)
there-in [] x h = absurd h
there-in (y ∷ xs) x (inl e) = (0, ap (λ v. Option.Some v) (sym e))
there-in (y ∷ xs) x (inr h) = let t = there-in xs x h in (suc t.0, t.1)

in-append : {A : Type 0} (xs ys : List A) (x : A) → In x (xs ++ ys) → In x xs ⊎ In x ys
in-append [] ys x h = inr h
in-append (y ∷ xs) ys x (inl e) = inl (inl e)
in-append {A} (y ∷ xs) ys x (inr h) = go (in-append xs ys x h)
  where
    go : In x xs ⊎ In x ys → In x (y ∷ xs) ⊎ In x ys
    go (inl g) = inl (inr g)
    go (inr g) = inr g

in-flat : {A B : Type 0} (f : A → List B) (xs : List A) (y : B) → In y (flat_map f xs) → (x : A) × In x xs × In y (f x)
in-flat f [] y h = absurd h
in-flat {A} {B} f (x ∷ xs) y h = go (λ g. in-flat f xs y g) (in-append (f x) (flat_map f xs) y h)
  where
    go : (In y (flat_map f xs) → (z : A) × In z xs × In y (f z)) → In y (f x) ⊎ In y (flat_map f xs) → (z : A) × In z (x ∷ xs) × In y (f z)
    go ih (inl g) = (x, inl refl, g)
    go ih (inr g) = let t = ih g in (t.0, inr t.1, t.2)

in-filter : {A : Type 0} (p : A → Bool) (xs : List A) (x : A) → In x (filter p xs) → In x xs × (p x ≡ true)
in-filter p [] x h = absurd h
in-filter {A} p (y ∷ xs) x h = by_test (λ g. in-filter p xs x g) (p y) refl h
  where
    by_test : (In x (filter p xs) → In x xs × (p x ≡ true)) → (b : Bool) → p y ≡ b → In x (cond b (y ∷ filter p xs) (filter p xs)) → In x (y ∷ xs) × (p x ≡ true)
    by_test ih true e (inl g) = (inl g, ap p g ∙ e)
    by_test ih true e (inr g) = let t = ih g in (inr t.0, t.1)
    by_test ih false e g = let t = ih g in (inr t.0, t.1)

in-map : {A B : Type 0} (f : A → B) (xs : List A) (x : A) → In x xs → In (f x) (map f xs)
in-map f [] x h = absurd h
in-map f (y ∷ xs) x (inl e) = inl (ap f e)
in-map f (y ∷ xs) x (inr h) = inr (in-map f xs x h)

-- ---- numbers of ports

port-there : (test : Port → Bool) (i : ℕ) (ps : List Port) (m : ℕ) → In m (port_numbers test i ps) → (n : ℕ) × (p : Port) × (m ≡ i + n) × (slice_get ps n ≡ Some p)
port-there test i [] m h = absurd h
port-there test i (p ∷ ps) m h = by_test (λ g. later (port-there test (suc i) ps m g)) (test p) h
  where
    later : ((n : ℕ) × (q : Port) × (m ≡ suc i + n) × (slice_get ps n ≡ Some q)) → (n : ℕ) × (q : Port) × (m ≡ i + n) × (slice_get (p ∷ ps) n ≡ Some q)
    later t = (suc t.0, t.1, (let e = t.2 in omega (arith, e)), t.3)

    by_test : (In m (port_numbers test (suc i) ps) → (n : ℕ) × (q : Port) × (m ≡ i + n) × (slice_get (p ∷ ps) n ≡ Some q)) → (b : Bool) → In m (number_if b i (port_numbers test (suc i) ps)) → (n : ℕ) × (q : Port) × (m ≡ i + n) × (slice_get (p ∷ ps) n ≡ Some q)
    by_test ih true (inl e) = (0, p, omega (arith, e), refl)
    by_test ih true (inr g) = ih g
    by_test ih false g = ih g

in-replicate : (n i m : ℕ) → In m (replicate n i) → m ≡ i
in-replicate zero i m h = absurd h
in-replicate (suc n) i m (inl e) = e
in-replicate (suc n) i m (inr h) = in-replicate n i m h

end-number : (counts : ℕ → ℕ) (i : ℕ) (ds : List Direction) (m : ℕ) → In m (ends_from counts i ds) → (n : ℕ) × (d : Direction) × (m ≡ i + n) × (slice_get ds n ≡ Some d)
end-number counts i [] m h = absurd h
end-number counts i (d ∷ ds) m h = go (λ g. end-number counts (suc i) ds m g) (in-append (ends_if d (counts i) i) (ends_from counts (suc i) ds) m h)
  where
    here : (d : Direction) → In m (ends_if d (counts i) i) → m ≡ i
    here Input g = in-replicate (counts i) i m g
    here Output g = absurd g

    go : (In m (ends_from counts (suc i) ds) → (n : ℕ) × (c : Direction) × (m ≡ suc i + n) × (slice_get ds n ≡ Some c)) → In m (ends_if d (counts i) i) ⊎ In m (ends_from counts (suc i) ds) → (n : ℕ) × (c : Direction) × (m ≡ i + n) × (slice_get (d ∷ ds) n ≡ Some c)
    go ih (inl g) = (0, d, (let e = here d g in omega (arith, e)), refl)
    go ih (inr g) = let t = ih g in (suc t.0, t.1, (let e = t.2 in omega (arith, e)), t.3)

from-map : {A B : Type 0} (f : A → B) (xs : List A) (n : ℕ) (y : B) → slice_get (map f xs) n ≡ Some y → (x : A) × (slice_get xs n ≡ Some x)
from-map f [] n y e = absurd (none-some y e)
from-map f (x ∷ xs) zero y e = (x, refl)
from-map f (x ∷ xs) (suc n) y e = from-map f xs n y e

-- ---- the ends

-- it ends at a port of the composite itself
pub record EndsOut (net : Net) (k : ℕ) (round : NetEntity) (x : Channel) : Type 0 where
  pub own : x.to.entity ≡ k
  pub port : Port
  pub there : slice_get round.ports.items x.to.port ≡ Some port

-- or at a port of a child
pub record EndsIn (net : Net) (k : ℕ) (x : Channel) : Type 0 where
  pub apart : x.to.entity ≢ k
  pub child : NetEntity
  pub at : slice_get net.entities.items x.to.entity ≡ Some child
  pub parent : child.parent ≡ Some k
  pub port : Port
  pub there : slice_get child.ports.items x.to.port ≡ Some port

module _ (net : Net) (order : IsInOrder net) (k : ℕ) (round : NetEntity) (director : NetDirector) (at : slice_get net.entities.items k ≡ Some round) (directed : round.director ≡ Some director) where
  goes-out : (x : Channel) → In x (departures net.channels.items k) → EndsOut net k round x
  goes-out x h =
      let test = (in-filter (goes_out k) net.channels.items x h).1 in
      let same : nat_eq x.to.entity k ≡ true = and-left (nat_eq x.to.entity k) (nat_eq x.composite k) test in
      let own : x.to.entity ≡ k = grind (arith, nat_tests) in
      let t = port-there is_output 0 round.ports.items x.to.port (subst (λ ns. In x.to.port ns) (order.wired.outputs k round director at directed) (in-map (λ (c : Channel). c.to.port) (departures net.channels.items k) x h)) in
      let number : x.to.port ≡ t.0 = (let e = t.2 in omega (arith, e)) in
      record { own = own; port = t.1; there = ap (λ n. slice_get round.ports.items n) number ∙ t.3 }

  -- a port of a child, by its class
  child-port : (i : ℕ) (f : NetEntity) (x : Channel) → slice_get net.entities.items i ≡ Some f → f.parent ≡ Some k → In x (arrivals net.channels.items i) → (b : Bool) → is_composite_class f.class ≡ b → (p : Port) × (slice_get f.ports.items x.to.port ≡ Some p)
  child-port i f x there parent h true class =
      let t = port-there is_input 0 f.ports.items x.to.port (subst (λ ns. In x.to.port ns) (order.wired.inputs i k f round director there class parent at directed) (in-map (λ (c : Channel). c.to.port) (arrivals net.channels.items i) x h)) in
      let number : x.to.port ≡ t.0 = (let e = t.2 in omega (arith, e)) in
      (t.1, ap (λ n. slice_get f.ports.items n) number ∙ t.3)
  child-port i f x there parent h false class =
      let held = order.class_ports i f there class in
      let t = end-number _ 0 (map (λ (p : PortTree). p.direction) (entity_view f).ports) x.to.port (subst (λ ns. In x.to.port ns) held.ends (in-map (λ (c : Channel). c.to.port) (arrivals net.channels.items i) x h)) in
      let number : x.to.port ≡ t.0 = (let e = t.2 in omega (arith, e)) in
      let declared = from-map (λ (p : PortTree). p.direction) (entity_view f).ports t.0 t.1 t.3 in
      let own = from-map view.port_view f.ports.items t.0 declared.0 declared.1 in
      (own.0, ap (λ n. slice_get f.ports.items n) number ∙ own.1)

  comes-in : (i : ℕ) (x : Channel) → x.composite ≡ k → In i (children_of net.entities.items k) → In x (arrivals net.channels.items i) → EndsIn net k x
  comes-in i x composite among h =
      let place = there-in (children_of net.entities.items k) i among in
      let f = child-stands k net.entities.items place.0 i place.1 in
      let test = (in-filter (comes_to i) net.channels.items x h).1 in
      let same : nat_eq x.to.entity i ≡ true = and-left (nat_eq x.to.entity i) (not (nat_eq x.composite i)) test in
      let ends : x.to.entity ≡ i = grind (arith, nat_tests) in
      let other = and-right (nat_eq x.to.entity i) (not (nat_eq x.composite i)) test in
      let port = child-port i f.0 x f.1 f.2 h (is_composite_class f.0.class) refl in
      record {
        apart = λ e. elsewhere (nat_eq x.composite i) refl other (composite ∙ sym e ∙ ends);
        child = f.0;
        at = ap (λ n. slice_get net.entities.items n) ends ∙ f.1;
        parent = f.2;
        port = port.0;
        there = port.1;
      }
    where
      elsewhere : (b : Bool) → nat_eq x.composite i ≡ b → not b ≡ true → x.composite ≡ i → ⊥
      elsewhere true e t same = absurd (cc)
      elsewhere false e t same = let yes : nat_eq x.composite i ≡ true = grind (arith, nat_tests) in let both : false ≡ true = sym e ∙ yes in absurd (cc)

  pub channel-ends : (number : ℕ) (x : Channel) → slice_get (channels_in net.channels.items k) number ≡ Some x → EndsOut net k round x ⊎ EndsIn net k x
  channel-ends number x e =
      let among : In x (channels_in net.channels.items k) = in-there (channels_in net.channels.items k) number x e in
      let inside : nat_eq x.composite k ≡ true = (in-filter (is_within k) net.channels.items x among).1 in
      let composite : x.composite ≡ k = grind (arith, nat_tests) in
      go composite (in-append (flat_map (arrivals net.channels.items) (children_of net.entities.items k)) (departures net.channels.items k) x (subst (λ xs. In x xs) (order.wired.grouped k round director at directed) among))
    where
      go : x.composite ≡ k → In x (flat_map (arrivals net.channels.items) (children_of net.entities.items k)) ⊎ In x (departures net.channels.items k) → EndsOut net k round x ⊎ EndsIn net k x
      go composite (inl h) = let t = in-flat (arrivals net.channels.items) (children_of net.entities.items k) x h in inr (comes-in t.0 x composite t.1 t.2)
      go composite (inr h) = inl (goes-out x h)
