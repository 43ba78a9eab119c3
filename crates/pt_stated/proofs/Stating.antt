-- Each composite of processes of a valued net states its numbers.
use Rattle.std.proofs.Common.{◌≡◌, ℕ, zero, suc, ◌+◌, ◌<◌, ◌≤◌, List, [], ◌∷◌, map, Bool, true, false, not, ◌&&◌, refl, sym, ap, subst, ◌∙◌, codes, if◌then◌else◌}
use Rattle.std.specs.Prelude.{Option, Some, None, IsTrue, int_lt, nat_lt, nat_le, slice_get}
use Rattle.std.specs.List.{AllZip, list_all, filter_map, cons_option, enumerate_from}
use Rattle.std.proofs.lemmas.Bool.{and_from, lt-ltb, le-leb}
use Rattle.std.proofs.lemmas.Option.{none-some, same_Some}
use Rattle.std.proofs.lemmas.Slice.Eq.{bytes_eq-Decides}
use Rattle.pt_value.specs.declared.token.Token.{Token}
use Rattle.pt_document.specs.declared.job.Direction.{Direction}
use Rattle.pt_document.specs.declared.job.Direction.TheVariants.{Input, Output}
use Rattle.pt_document.specs.Document.{PortTree}
use Rattle.pt_language.specs.Scope.{Scope}
use Rattle.pt_net.specs.Net.{NetEntityTree, DirectorTree}
use Rattle.pt_scopes.specs.declared.values.EntityValues.{EntityValues}
use Rattle.pt_scopes.specs.declared.values.Values.{Values}
use Rattle.pt_scopes.specs.Scopes.{NetTree, bound}
use Rattle.pt_scopes.specs.Sites.{director_form}
use Rattle.pt_scopes.specs.Given.{Held, held_view, names_port}
use Rattle.pt_scopes.specs.Agreement.{named, integer_of, standard_of, standard_integer}
use Rattle.pt_scopes.specs.ClassParameters.{AreParametersOf}
use Rattle.pt_scopes.specs.Valued.{AreOfDirector, IsEntityValued, IsValued}
use Rattle.pt_scopes.specs.Valued as valued
use Rattle.pt_stated.specs.declared.capacities.Capacities.{Capacities}
use Rattle.pt_stated.specs.declared.stated.Stated.{Stated}
use Rattle.pt_stated.specs.Numbers.{count, capacity, rate_in, is_along, rate_along}
use Rattle.pt_stated.specs.Networks.{is_network, has_processes, capacities_of, numbers_of, are_lawful, is_lawful, lawful, stated_by, stated_of}
use Rattle.pt_stated.proofs.Counts.{is_number, count-least, count-ordered}
use Rattle.pt_stated.proofs.Held.{integer-numbered, initial-formed, maximum-formed, initial-standard, maximum-standard, rate-least}

-- ---- lists

zip-at : {A B : Type 0} (R : A → B → Type 0) (xs : List A) (ys : List B) → AllZip R xs ys → (k : ℕ) (x : A) → slice_get xs k ≡ Some x → (y : B) × (slice_get ys k ≡ Some y) × R x y
zip-at R [] ys h k x at = absurd (none-some x at)
zip-at R (z ∷ xs) [] h k x at = absurd h
zip-at R (z ∷ xs) (y ∷ ys) h zero x at = (y, refl, subst (λ a. R a y) (same_Some z x at) h.0)
zip-at R (z ∷ xs) (y ∷ ys) h (suc k) x at = zip-at R xs ys h.1 k x at

mapped-at : {A B : Type 0} (f : A → B) (xs : List A) (k : ℕ) (y : B) → slice_get (map f xs) k ≡ Some y → (x : A) × (slice_get xs k ≡ Some x) × (f x ≡ y)
mapped-at f [] k y at = absurd (none-some y at)
mapped-at f (x ∷ xs) zero y at = (x, refl, same_Some (f x) y at)
mapped-at f (x ∷ xs) (suc k) y at = mapped-at f xs k y at

-- ---- rates

rates-positive : (direction : Direction) (rates : List (Option Token)) → ((k : ℕ) → 0 < rate_in (slice_get rates k)) → (i : ℕ) (ports : List PortTree) → list_all (nat_lt 0) (filter_map (rate_along direction rates) (enumerate_from i ports)) ≡ true
rates-positive direction rates least i [] = refl
rates-positive direction rates least i (p ∷ ps) = by_test (is_along p.direction direction) (rates-positive direction rates least (i + 1) ps)
  where
    by_test : (b : Bool) → list_all (nat_lt 0) (filter_map (rate_along direction rates) (enumerate_from (i + 1) ps)) ≡ true → list_all (nat_lt 0) (cons_option (if b then Some (rate_in (slice_get rates i)) else None) (filter_map (rate_along direction rates) (enumerate_from (i + 1) ps))) ≡ true
    by_test true rest = and_from (nat_lt 0 (rate_in (slice_get rates i))) (list_all (nat_lt 0) (filter_map (rate_along direction rates) (enumerate_from (i + 1) ps))) (lt-ltb 0 (rate_in (slice_get rates i)) (least i)) rest
    by_test false rest = rest

-- ---- capacities

-- the capacities of a director of PN whose parameters have their forms and agree
record AreCapacities (initial maximum : ℕ) : Type 0 where
  room : 0 < initial
  ordered : initial ≤ maximum

capacities : (scope : Scope) (parent : Option ℕ) (d : DirectorTree) (hs : List Held) → d.class ≡ codes "PN" → AreParametersOf (names_port []) scope parent d.class d.parameters hs → AreCapacities (count (integer_of d.class (named d.parameters hs) (codes "initialQueueCapacity"))) (count (integer_of d.class (named d.parameters hs) (codes "maximumQueueCapacity")))
capacities scope parent d hs is given = subst (λ (class : List ℕ). AreCapacities (count (integer_of class (named d.parameters hs) (codes "initialQueueCapacity"))) (count (integer_of class (named d.parameters hs) (codes "maximumQueueCapacity")))) (sym is) (of-network (subst (λ (class : List ℕ). AreParametersOf (names_port []) scope parent class d.parameters hs) is given))
  where
    of-network : AreParametersOf (names_port []) scope parent (codes "PN") d.parameters hs → AreCapacities (count (integer_of (codes "PN") (named d.parameters hs) (codes "initialQueueCapacity"))) (count (integer_of (codes "PN") (named d.parameters hs) (codes "maximumQueueCapacity")))
    of-network g =
        let ps = named d.parameters hs in
        let m = integer_of (codes "PN") ps (codes "initialQueueCapacity") in
        let n = integer_of (codes "PN") ps (codes "maximumQueueCapacity") in
        let first : is_number m ≡ true = integer-numbered (names_port []) scope (director_form parent (codes "PN")) d.parameters hs g.each (codes "initialQueueCapacity") (standard_integer (standard_of (codes "PN") (codes "initialQueueCapacity"))) (initial-formed parent) initial-standard in
        let most : is_number n ≡ true = integer-numbered (names_port []) scope (director_form parent (codes "PN")) d.parameters hs g.each (codes "maximumQueueCapacity") (standard_integer (standard_of (codes "PN") (codes "maximumQueueCapacity"))) (maximum-formed parent) maximum-standard in
        let agreed : not (int_lt n m) ≡ true = g.agreed in
        record { room = count-least m first; ordered = count-ordered m n first most agreed }

-- ---- a composite of processes

capacities-are : (d : DirectorTree) (v : EntityValues) → (is_network d ≡ true → AreCapacities (capacity d v.director.items (codes "initialQueueCapacity")) (capacity d v.director.items (codes "maximumQueueCapacity"))) → are_lawful (capacities_of d v) ≡ true
capacities-are d v held = by_test (is_network d) refl
  where
    c : Capacities
    c = record { initial = capacity d v.director.items (codes "initialQueueCapacity"); maximum = capacity d v.director.items (codes "maximumQueueCapacity") }

    by_test : (b : Bool) → is_network d ≡ b → are_lawful (if b then Some c else None) ≡ true
    by_test true is =
        let h = held is in
        and_from (nat_lt 0 c.initial) (nat_le c.initial c.maximum) (lt-ltb 0 c.initial h.room) (le-leb c.initial c.maximum h.ordered)
    by_test false is = refl

numbers-are : (d : DirectorTree) (ports : List PortTree) (v : EntityValues) → are_lawful (capacities_of d v) ≡ true → ((k : ℕ) → 0 < rate_in (slice_get v.rates.items k)) → is_lawful (numbers_of d ports v) ≡ true
numbers-are d ports v held least =
    let n = numbers_of d ports v in
    let takes = rates-positive Input v.rates.items least 0 ports in
    let gives = rates-positive Output v.rates.items least 0 ports in
    and_from (are_lawful n.capacities && list_all (nat_lt 0) n.takes) (list_all (nat_lt 0) n.gives) (and_from (are_lawful n.capacities) (list_all (nat_lt 0) n.takes) held takes) gives

pub processes-stated : (net : NetTree) (values : Values) → IsValued net values → (k : ℕ) (e : NetEntityTree) (d : DirectorTree) → slice_get net.entities k ≡ Some e → e.director ≡ Some d → IsTrue (has_processes d) → (s : Stated) × (stated_of values k e ≡ Some s)
processes-stated net values is k e d at directed processes =
    let z = zip-at (IsEntityValued net) net.entities (map valued.entity_view values.entities.items) is.entities k e at in
    let v = mapped-at valued.entity_view values.entities.items k z.0 z.1 in
    let held : IsEntityValued net e (valued.entity_view v.0) = subst (IsEntityValued net e) (sym v.2) z.2 in
    let hs = map held_view v.0.director.items in
    let own : AreOfDirector e.parent (Some d) (bound held.inner) hs = subst (λ (o : Option DirectorTree). AreOfDirector e.parent o (bound held.inner) hs) directed held.director in
    let n = numbers_of d e.ports v.0 in
    let lawful_capacities : are_lawful (capacities_of d v.0) ≡ true = capacities-are d v.0 (λ network. capacities (bound held.inner) e.parent d hs ((bytes_eq-Decides d.class (codes "PN")).0 network) own) in
    let proper : is_lawful n ≡ true = numbers-are d e.ports v.0 lawful_capacities (rate-least e.ports v.0.rates.items held.rates) in
    (n, ap (λ (o : Option DirectorTree). stated_by o e.ports (slice_get values.entities.items k)) directed ∙ ap (stated_by (Some d) e.ports) v.1 ∙ ap (λ (b : Bool). if b then lawful n else None) processes ∙ ap (λ (b : Bool). if b then Some n else None) proper)
