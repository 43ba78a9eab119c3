-- A Modal entity with a machine is at no fault.
use Rattle.std.proofs.Common.{◌≡◌, ℕ, zero, suc, ◌<◌, List, [], ◌∷◌, length, get_or, map, filter, Bool, true, false, Option, Some, None, refl, sym, ap, subst, ◌∙◌, arith, if◌then◌else◌}
use Rattle.std.specs.Prelude.{slice_get}
use Rattle.std.specs.List.{Contains, AllZip, All}
use Rattle.std.proofs.lemmas.Bool.{false≢true}
use Rattle.pt_document.specs.declared.job.State.{State}
use Rattle.pt_document.specs.declared.job.Direction.{Direction}
use Rattle.pt_document.specs.declared.job.Direction.TheVariants.{Input, Output}
use Rattle.pt_document.specs.Document.{PortTree}
use Rattle.pt_net.specs.Net.{NetEntityTree}
use Rattle.pt_scopes.specs.Valued.{EntityView}
use Rattle.pt_typing.specs.Least.{Assignment}
use Rattle.pt_inequalities.specs.ModalScopes.{ModalScope}
use Rattle.pt_chart.specs.Machine.{Machine, PortMap}
use Rattle.pt_machine.specs.declared.cause.Cause.{Cause}
use Rattle.pt_machine.specs.Numbers.{number_of}
use Rattle.pt_machine.specs.Names.{state_names, is_along, port_name, names_along, variable_names, path_of, refinement_path, refinement_of, number_if}
use Rattle.pt_machine.specs.Causes.{IsAtFault, no_state, initial, refinement, shared, idle, plain, transparent, port, from, to, output, set}
use Rattle.pt_machine.specs.Children.{is_opaque}
use Rattle.pt_machine.specs.Machines.{IsOutput, IsSet, IsLeaving, IsRefined, IsPortMap, IsMachine}
use Rattle.pt_machine.specs.Laws.{MachinesAreClean}
use Rattle.pt_machine.proofs.NumberLaws.{number-there, got-short}

-- ---- lists

pub got-at : {A : Type 0} (xs : List A) (i : ℕ) (x : A) → slice_get xs i ≡ Some x → get_or xs i x ≡ x
got-at [] i x e = absurd (cc)
got-at (y ∷ xs) zero x e = cc
got-at (y ∷ xs) (suc i) x e = got-at xs i x e

pub got-among : {A : Type 0} (xs : List A) (i : ℕ) (x : A) → slice_get xs i ≡ Some x → Contains xs x
got-among xs i x e = (i, got-short xs i x e, got-at xs i x e)

-- a name with a number is among the names
pub numbered : (names : List (List ℕ)) (name : List ℕ) (i : ℕ) → number_of names name ≡ Some i → Contains names name
numbered names name i e = got-among names i name (number-there names name i e)

pub zip-of : {A B : Type 0} (R : A → B → Type 0) (xs : List A) (ys : List B) → AllZip R xs ys → (x : A) → Contains xs x → (y : B) × R x y
zip-of {A} {B} R xs ys all x c = by_place xs ys all c.0 c.1 c.2
  where
    by_place : (xs : List A) (ys : List B) → AllZip R xs ys → (k : ℕ) → k < length xs → get_or xs k x ≡ x → (y : B) × R x y
    by_place [] ys all k short is = absurd (omega (arith, short))
    by_place (z ∷ xs) [] all k short is = absurd all
    by_place (z ∷ xs) (y ∷ ys) all zero short is = (y, subst (λ (u : A). R u y) is all.0)
    by_place (z ∷ xs) (y ∷ ys) all (suc k) short is = by_place xs ys all.1 k (omega (arith, short)) is

pub all-of : {A : Type 0} (P : A → Type 0) (xs : List A) → All P xs → (x : A) → Contains xs x → P x
all-of P xs all x c = subst P c.2 (all c.0 x c.1)

-- a port of a direction is among those of it
pub named-along : (direction : Direction) (ports : List PortTree) (q : PortTree) → Contains ports q → is_along direction q ≡ true → Contains (names_along direction ports) q.name
named-along direction ports q c along = by_place ports c.0 c.1 c.2
  where
    later : (p : PortTree) (ports : List PortTree) → Contains (names_along direction ports) q.name → (b : Bool) → Contains (map port_name (if b then p ∷ filter (is_along direction) ports else filter (is_along direction) ports)) q.name
    later p ports c true = (suc c.0, omega (arith, c.1), c.2)
    later p ports c false = c

    by_place : (ports : List PortTree) (k : ℕ) → k < length ports → get_or ports k q ≡ q → Contains (names_along direction ports) q.name
    by_place [] k short is = absurd (omega (arith, short))
    by_place (p ∷ ports) zero short is =
        subst (λ b. Contains (map port_name (if b then p ∷ filter (is_along direction) ports else filter (is_along direction) ports)) q.name) (sym (ap (is_along direction) is ∙ along)) (0, omega arith, ap port_name is)
    by_place (p ∷ ports) (suc k) short is = later p ports (by_place ports k (omega (arith, short)) is) (is_along direction p)

-- all numbers of some names are there
all-numbered : (numbers : List ℕ → Option ℕ) (is : List ℕ) (names : List (List ℕ)) → map (λ i. Some i) is ≡ map numbers names → (name : List ℕ) → Contains names name → (i : ℕ) × (numbers name ≡ Some i)
all-numbered numbers is names all name c = by_place is names all c.0 c.1 c.2
  where
    head : (i : ℕ) (is : List (Option ℕ)) (o : Option ℕ) (os : List (Option ℕ)) → (Some i ∷ is) ≡ (o ∷ os) → o ≡ Some i
    head i is o os e = cc

    tail : (i : ℕ) (is : List (Option ℕ)) (o : Option ℕ) (os : List (Option ℕ)) → (Some i ∷ is) ≡ (o ∷ os) → is ≡ os
    tail i is o os e = cc

    by_place : (is : List ℕ) (names : List (List ℕ)) → map (λ i. Some i) is ≡ map numbers names → (k : ℕ) → k < length names → get_or names k name ≡ name → (i : ℕ) × (numbers name ≡ Some i)
    by_place is [] all k short at = absurd (omega (arith, short))
    by_place [] (n ∷ names) all k short at = absurd (cc)
    by_place (i ∷ is) (n ∷ names) all zero short at = (i, ap numbers (sym at) ∙ head i (map (λ i. Some i) is) (numbers n) (map numbers names) all)
    by_place (i ∷ is) (n ∷ names) all (suc k) short at = by_place is names (tail i (map (λ i. Some i) is) (numbers n) (map numbers names) all) k (omega (arith, short)) at

module _ (typing : Assignment) (s : ModalScope) (m : ℕ) (e : NetEntityTree) (v : EntityView) (kids : List NetEntityTree) (parted : Bool) (x : Machine) (is : IsMachine typing s m e v kids parted x) where
  initial-there : (o : Option (List ℕ)) → number_if (state_names e) o ≡ Some x.initial → (name : List ℕ) × (o ≡ Some name) × Contains (state_names e) name
  initial-there None h = absurd (cc)
  initial-there (Some name) h = (name, refl, numbered (state_names e) name x.initial h)

  no-states : (states : List State) → e.states ≡ states → (name : List ℕ) → Contains (state_names e) name → states ≡ [] → ⊥
  no-states states same name c none =
      let empty : length (state_names e) ≡ 0 = ap (λ (us : List State). length (map (λ (u : State). u.name) us)) (same ∙ none) in
      omega (arith, c.1, empty)

  refined-there : (path : List ℕ) (r : ℕ) (o : Option (List ℕ)) → o ≡ Some path → number_if (map path_of kids) o ≡ Some r → Contains (map path_of kids) path
  refined-there path r o same h = numbered (map path_of kids) path r (sym (ap (number_if (map path_of kids)) same) ∙ h)

  port-there : (kid : NetEntityTree) (q : PortTree) → Contains kids kid → Contains kid.ports q → (d : Direction) → q.direction ≡ d → Contains (names_along d e.ports) q.name
  port-there kid q c cq d same = by_map d same (zip-of (IsPortMap e) kids x.ports is.ports kid c)
    where
      along : (d : Direction) → q.direction ≡ d → is_along d q ≡ true
      along Input same = ap (λ (u : Direction). is_along Input (record { name = q.name; direction = u; declared = q.declared; properties = q.properties })) same
      along Output same = ap (λ (u : Direction). is_along Output (record { name = q.name; direction = u; declared = q.declared; properties = q.properties })) same

      by_map : (d : Direction) → q.direction ≡ d → (p : PortMap) × IsPortMap e kid p → Contains (names_along d e.ports) q.name
      by_map Input same p =
          let n = all-numbered (number_of (names_along Input e.ports)) p.0.inputs (names_along Input kid.ports) p.1.inputs q.name (named-along Input kid.ports q cq (along Input same)) in
          numbered (names_along Input e.ports) q.name n.0 n.1
      by_map Output same p =
          let n = all-of (λ name. (i : ℕ) × (number_of (names_along Output e.ports) name ≡ Some i)) (names_along Output kid.ports) p.1.known q.name (named-along Output kid.ports q cq (along Output same)) in
          numbered (names_along Output e.ports) q.name n.0 n.1

  clean : (why : Cause) → IsAtFault e kids parted why → ⊥
  clean why (no_state none) = let there = initial-there e.initial is.initial in no-states e.states refl there.0 there.2 none
  clean why (initial none) = let there = initial-there e.initial is.initial in none there.0 there.1 there.2
  clean why (refinement state path c same none) =
      let r : (r : ℕ) × (refinement_of e kids state ≡ Some r) = all-of (IsRefined e kids) e.states is.refinements.named state c path same in
      none (refined-there path r.0 (refinement_path e state) same r.1)
  clean why (shared i j r a b apart at at' one two) = apart (is.refinements.apart i j r a b at at' one two)
  clean why (idle r short none) = let named = is.refinements.each r short in none named.state (got-among e.states named.number named.state named.at) named.names
  clean why (plain kid c not-opaque) = false≢true (sym not-opaque ∙ all-of (λ (k : NetEntityTree). is_opaque k ≡ true) kids is.refinements.opaque kid c)
  clean why (transparent there) = false≢true (sym is.refinements.whole ∙ there)
  clean why (port kid q c cq none) = none (port-there kid q c cq q.direction refl)
  clean why (from t c none) = let l = zip-of (IsLeaving s e) e.transitions is.transitions is.leave t c in none (numbered (state_names e) t.from l.0.from l.1.from)
  clean why (to t c none) = let l = zip-of (IsLeaving s e) e.transitions is.transitions is.leave t c in none (numbered (state_names e) t.to l.0.made.target l.1.target)
  clean why (output t a c ca none) =
      let l = zip-of (IsLeaving s e) e.transitions is.transitions is.leave t c in
      let o = zip-of (IsOutput s e) t.output l.0.made.outputs l.1.outputs a ca in
      none (numbered (names_along Output e.ports) a.port o.0.target o.1.target)
  clean why (set t a c ca none) =
      let l = zip-of (IsLeaving s e) e.transitions is.transitions is.leave t c in
      let o = zip-of (IsSet s e) t.set l.0.made.sets l.1.sets a ca in
      none (numbered (variable_names e) a.name o.0.target o.1.target)

pub machines-are-clean : MachinesAreClean
machines-are-clean typing s m e v kids parted x is why fault = clean typing s m e v kids parted x is why fault
