-- The machine of a Modal entity is one for its own ports, and for as many refinements as stand in it.
use Rattle.std.proofs.Common.{◌≡◌, ℕ, zero, suc, ◌+◌, ◌<◌, List, [], ◌∷◌, length, map, filter, get_or, count_by, Bool, true, false, Option, Some, None, refl, sym, ap, subst, ◌∙◌, if◌then◌else◌}
use Rattle.std.specs.Prelude.{slice_get}
use Rattle.std.specs.List.{All, AllZip, cons_option, filter_map, enumerate_from}
use Rattle.std.proofs.lemmas.List.{length-map}
use Rattle.std.proofs.lemmas.List.Elements.{All-nil, All-cons, All-map}
use Rattle.std.proofs.lemmas.List.Sums.{length-filter}
use Rattle.std.proofs.lemmas.Option.{none-some, same_Some}
use Rattle.pt_datatypes.specs.Datatype.{Datatype}
use Rattle.pt_document.specs.declared.job.State.{State}
use Rattle.pt_document.specs.declared.job.Direction.{Direction}
use Rattle.pt_document.specs.declared.job.Direction.TheVariants.{Input, Output}
use Rattle.pt_document.specs.declared.job.Port.{Port}
use Rattle.pt_document.specs.Document.{PortTree}
use Rattle.pt_document.specs.View.{port_view}
use Rattle.pt_net.specs.Net.{NetEntityTree}
use Rattle.pt_scopes.specs.Valued.{EntityView}
use Rattle.pt_typing.specs.declared.variable.Variable.TheVariants as variable
use Rattle.pt_typing.specs.Least.{Assignment}
use Rattle.pt_inequalities.specs.ModalScopes.{ModalScope}
use Rattle.pt_chart.specs.Machine.{Machine, ModeTree, PortMap}
use Rattle.pt_machine.specs.Numbers.{number_of}
use Rattle.pt_machine.specs.Names.{is_along, port_name, names_along, path_of, refinement_path, refinement_of, number_if}
use Rattle.pt_machine.specs.Machines.{Leaving, mode_of, modes_of, IsPortMap, IsMachine}
use Rattle.pt_machine.specs.Typed.{typed_if}
use Rattle.pt_machine.proofs.NumberLaws.{number-short}
use Rattle.pt_trees.specs.Modal.{IsMapped, IsOneOf, IsRefined, IsFor, taken_by}
use Rattle.pt_typed.proofs.ModalPorts.{IsTestOf}

-- ---- ports

-- there are as many names of a direction as ports of it
pub names-counted : (d : Direction) (test : Port → Bool) → IsTestOf d test → (ps : List Port) → length (names_along d (map port_view ps)) ≡ count_by test ps
names-counted d test same ps = by_ports ps ∙ length-filter test ps
  where
    by_ports : (ps : List Port) → length (names_along d (map port_view ps)) ≡ length (filter test ps)
    by_ports [] = refl
    by_ports (p ∷ ps) = by_test (by_ports ps) (is_along d (port_view p)) ∙ ap (λ b. length (if b then p ∷ filter test ps else filter test ps)) (sym (same p))
      where
        by_test : length (names_along d (map port_view ps)) ≡ length (filter test ps) → (b : Bool) → length (map port_name (if b then port_view p ∷ filter (is_along d) (map port_view ps) else filter (is_along d) (map port_view ps))) ≡ length (if b then p ∷ filter test ps else filter test ps)
        by_test rest true = ap (λ n. suc n) rest
        by_test rest false = rest

-- and as many typed names as names
typed-counted : (d : Direction) (typing : Assignment) (m i : ℕ) (ps : List PortTree) → length (filter_map (typed_if d typing m) (enumerate_from i ps)) ≡ length (names_along d ps)
typed-counted d typing m i [] = refl
typed-counted d typing m i (p ∷ ps) = by_test (typed-counted d typing m (i + 1) ps) (is_along d p)
  where
    by_test : length (filter_map (typed_if d typing m) (enumerate_from (i + 1) ps)) ≡ length (names_along d ps) → (b : Bool) →
        length (cons_option (if b then Some (p.name, typing.types (variable.Port m i)) else None) (filter_map (typed_if d typing m) (enumerate_from (i + 1) ps))) ≡ length (map port_name (if b then p ∷ filter (is_along d) ps else filter (is_along d) ps))
    by_test rest true = ap (λ n. suc n) rest
    by_test rest false = rest

-- ---- the ports of a refinement

-- numbers that are those of names, each of which is below
numbered-below : (numbers : List ℕ → Option ℕ) (n : ℕ) → ((name : List ℕ) (i : ℕ) → numbers name ≡ Some i → i < n) → (is : List ℕ) (names : List (List ℕ)) → map (λ i. Some i) is ≡ map numbers names → All (λ i. i < n) is
numbered-below numbers n below [] names e = All-nil (λ i. i < n)
numbered-below numbers n below (i ∷ is) [] e = absurd (cc)
numbered-below numbers n below (i ∷ is) (name ∷ names) e =
    let one : numbers name ≡ Some i = cc in
    let rest : map (λ j. Some j) is ≡ map numbers names = cc in
    All-cons (λ j. j < n) i is (below name i one) (numbered-below numbers n below is names rest)

taken-counted : (e kid : NetEntityTree) (p : PortMap) → IsPortMap e kid p → length p.inputs ≡ length (names_along Input kid.ports)
taken-counted e kid p h = sym (length-map p.inputs (λ i. Some i)) ∙ ap (λ (os : List (Option ℕ)). length os) h.inputs ∙ length-map (names_along Input kid.ports) (number_of (names_along Input e.ports))

mapped-one : (e kid : NetEntityTree) (p : PortMap) → IsPortMap e kid p → IsMapped (length (names_along Input e.ports)) (length (names_along Output e.ports)) p
mapped-one e kid p h = (
  numbered-below (number_of (names_along Input e.ports)) (length (names_along Input e.ports)) (λ name i is. number-short (names_along Input e.ports) name i is) p.inputs (names_along Input kid.ports) h.inputs,
  ap (λ (os : List (Option ℕ)). length os) h.outputs ∙ length-map (names_along Output e.ports) (number_of (names_along Output kid.ports)),
)

mapped-all : (e : NetEntityTree) (kids : List NetEntityTree) (ps : List PortMap) → AllZip (IsPortMap e) kids ps → All (IsMapped (length (names_along Input e.ports)) (length (names_along Output e.ports))) ps
mapped-all e [] [] all = All-nil (IsMapped (length (names_along Input e.ports)) (length (names_along Output e.ports)))
mapped-all e [] (p ∷ ps) all = absurd all
mapped-all e (kid ∷ kids) [] all = absurd all
mapped-all e (kid ∷ kids) (p ∷ ps) all = All-cons (IsMapped (length (names_along Input e.ports)) (length (names_along Output e.ports))) p ps (mapped-one e kid p all.0) (mapped-all e kids ps all.1)

-- a refinement has a place for each of its inputs
pub places-at : (e : NetEntityTree) (kids : List NetEntityTree) (ps : List PortMap) → AllZip (IsPortMap e) kids ps → (i p : ℕ) (kid : NetEntityTree) → slice_get kids i ≡ Some kid → slice_get (map taken_by ps) i ≡ Some p → length (names_along Input kid.ports) ≡ p
places-at e [] ps all i p kid at there = absurd (none-some kid at)
places-at e (k ∷ kids) [] all i p kid at there = absurd all
places-at e (k ∷ kids) (m ∷ ps) all zero p kid at there = sym (taken-counted e kid m (subst (λ (y : NetEntityTree). IsPortMap e y m) (same_Some k kid at) all.0)) ∙ same_Some (taken_by m) p there
places-at e (k ∷ kids) (m ∷ ps) all (suc i) p kid at there = places-at e kids ps all.1 i p kid at there

pub zip-counted : {A B : Type 0} (R : A → B → Type 0) (xs : List A) (ys : List B) → AllZip R xs ys → length ys ≡ length xs
zip-counted R [] [] all = refl
zip-counted R [] (b ∷ ys) all = absurd all
zip-counted R (a ∷ xs) [] all = absurd all
zip-counted R (a ∷ xs) (b ∷ ys) all = ap (λ n. suc n) (zip-counted R xs ys all.1)

-- ---- states

-- a state names one of the refinements
named-one : (names : List (List ℕ)) (o : Option (List ℕ)) → IsOneOf (length names) (number_if names o)
named-one names None = tt
named-one names (Some name) = by_number (number_of names name) refl
  where
    by_number : (o : Option ℕ) → number_of names name ≡ o → IsOneOf (length names) o
    by_number None is = tt
    by_number (Some i) is = number-short names name i is

refined-all : (e : NetEntityTree) (kids : List NetEntityTree) (xs : List Leaving) → All (IsRefined (length kids)) (modes_of e kids xs)
refined-all e kids xs =
    All-map (IsRefined (length kids)) (mode_of e kids xs) (enumerate_from 0 e.states)
    (λ k d below. by_state (get_or (enumerate_from 0 e.states) k d))
  where
    by_state : (q : ℕ × State) → IsRefined (length kids) (mode_of e kids xs q)
    by_state q = subst (λ n. IsOneOf n (refinement_of e kids q.1)) (length-map kids path_of) (named-one (map path_of kids) (refinement_path e q.1))

-- ---- the whole

pub machine-for : (typing : Assignment) (s : ModalScope) (m : ℕ) (e : NetEntityTree) (v : EntityView) (kids : List NetEntityTree) (parted : Bool) (x : Machine) → IsMachine typing s m e v kids parted x → IsFor (length (names_along Input e.ports)) (length (names_along Output e.ports)) (length kids) x
machine-for typing s m e v kids parted x is = record {
  inputs_are = ap (λ (ts : List (List ℕ × Datatype)). length ts) is.inputs ∙ typed-counted Input typing m 0 e.ports;
  outputs_are = ap (λ (ts : List (List ℕ × Datatype)). length ts) is.outputs ∙ typed-counted Output typing m 0 e.ports;
  mapped = mapped-all e kids x.ports is.ports;
  refined = subst (λ (ms : List ModeTree). All (IsRefined (length kids)) ms) (sym is.modes) (refined-all e kids is.transitions);
}
