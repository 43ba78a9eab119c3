-- The ports of a refinement by those of its Modal entity.
use Rattle.std.proofs.Common.{◌≡◌, inl, inr, ℕ, List, [], ◌∷◌, map, filter, Bool, true, false, cond, not, Option, Some, refl, sym, ap, subst, ◌∙◌, arith}
use Rattle.std.specs.List.{All, Contains}
use Rattle.std.proofs.lemmas.Bool.{false≢true}
use Rattle.std.proofs.lemmas.List.Elements.{All-nil, All-cons}
use Rattle.pt_document.specs.declared.job.Direction.{Direction}
use Rattle.pt_document.specs.declared.job.Direction.TheVariants.{Input, Output}
use Rattle.pt_document.specs.Document.{PortTree}
use Rattle.pt_net.specs.Net.{NetEntityTree}
use Rattle.pt_net.specs.Inside.{is_inward}
use Rattle.pt_net.proofs.Members.{contains_here, contains_later, contains_cases, map_contains}
use Rattle.pt_machine.specs.declared.cause.Cause.{Cause}
use Rattle.pt_machine.specs.Numbers.{Numbers, number_of}
use Rattle.pt_machine.specs.Names.{is_along, port_name, names_along}
use Rattle.pt_machine.specs.Machines.{IsPortMap}
use Rattle.pt_machine.specs.Causes.{IsAtFault, port}
use Rattle.pt_machine_parts.specs.declared.modal.OwnPorts.{OwnPorts}
use Rattle.pt_machine_parts.specs.Texts.{texts}
use Rattle.pt_machine_parts.specs.Numbered.{numbers_view, some_numbers, IsStrange}
use Rattle.pt_machine_parts.specs.Own.{AreOwnPorts}
use Rattle.pt_machine_parts.proofs.NameLaws.{not-among}

-- ---- ports by direction

kept-by : {A : Type 0} (test : A → Bool) (xs : List A) (x : A) → Contains (filter test xs) x → Contains xs x × (test x ≡ true)
kept-by test [] x c = absurd (omega (arith, c.1))
kept-by test (y ∷ ys) x c = by_test (test y) refl c (λ later. kept-by test ys x later)
  where
    past : Contains ys x × (test x ≡ true) → Contains (y ∷ ys) x × (test x ≡ true)
    past w = (contains_later y ys x w.0, w.1)

    by_test : (b : Bool) → test y ≡ b → Contains (cond b (y ∷ filter test ys) (filter test ys)) x → (Contains (filter test ys) x → Contains ys x × (test x ≡ true)) → Contains (y ∷ ys) x × (test x ≡ true)
    by_test true e h rest = elim (contains_cases y (filter test ys) x h) [ inl same ↦ (subst (Contains (y ∷ ys)) same (contains_here y ys), ap test (sym same) ∙ e) | inr later ↦ past (rest later) ]
    by_test false e h rest = past (rest h)

direction-is : (d : Direction) (q : PortTree) → is_along d q ≡ true → q.direction ≡ d
direction-is Input q h = inward q.direction h
  where
    inward : (u : Direction) → is_inward u ≡ true → u ≡ Input
    inward Input h = refl
    inward Output h = absurd (false≢true h)
direction-is Output q h = outward q.direction h
  where
    outward : (u : Direction) → not (is_inward u) ≡ true → u ≡ Output
    outward Input h = absurd (false≢true h)
    outward Output h = refl

-- a name of this direction is that of a port
port-named : (d : Direction) (ports : List PortTree) (name : List ℕ) → Contains (names_along d ports) name → (q : PortTree) × Contains ports q × (q.direction ≡ d) × (q.name ≡ name)
port-named d ports name c =
    let w = map_contains port_name (filter (is_along d) ports) name c in
    let k = kept-by (is_along d) ports w.0 w.1 in
    (w.0, k.0, direction-is d w.0 k.1, w.2)

-- a port of a refinement that the entity hasn't
pub foreign-port : (e kid : NetEntityTree) (kids : List NetEntityTree) (parted : Bool) (d : Direction) (numbers : Numbers) → ((name : List ℕ) → numbers name ≡ number_of (names_along d e.ports) name) → Contains kids kid → (why : Cause) → IsStrange numbers (names_along d kid.ports) why → IsAtFault e kids parted why
foreign-port e kid kids parted d numbers known there why s =
    let w = port-named d kid.ports s.name s.there in
    let none : Contains (names_along w.0.direction e.ports) w.0.name → ⊥ =
    λ c. not-among (names_along d e.ports) s.name (sym (known s.name) ∙ s.none) (subst (Contains (names_along d e.ports)) w.3 (subst (λ (u : Direction). Contains (names_along u e.ports) w.0.name) w.2 c)) in
    subst (IsAtFault e kids parted) (sym s.cause) (port kid w.0 there w.1 none)

-- ---- numbers of all names

head : (i : ℕ) (is : List (Option ℕ)) (o : Option ℕ) (os : List (Option ℕ)) → (Some i ∷ is) ≡ (o ∷ os) → o ≡ Some i
head i is o os e = cc

tail : (i : ℕ) (is : List (Option ℕ)) (o : Option ℕ) (os : List (Option ℕ)) → (Some i ∷ is) ≡ (o ∷ os) → is ≡ os
tail i is o os e = cc

module _ (numbers known : Numbers) (same : (name : List ℕ) → numbers name ≡ known name) where
  mapped : (names : List (List ℕ)) → map numbers names ≡ map known names
  mapped names = ap (λ (g : Numbers). map g names) (λ j name. same name j)

  each-numbered : (found : List ℕ) (names : List (List ℕ)) → some_numbers found ≡ map numbers names → All (λ name. (i : ℕ) × (known name ≡ Some i)) names
  each-numbered found [] all = All-nil (λ name. (i : ℕ) × (known name ≡ Some i))
  each-numbered [] (n ∷ names) all = absurd (cc)
  each-numbered (i ∷ is) (n ∷ names) all =
      All-cons (λ name. (i : ℕ) × (known name ≡ Some i)) n names
      (i, sym (same n) ∙ head i (some_numbers is) (numbers n) (map numbers names) all)
      (each-numbered is names (tail i (some_numbers is) (numbers n) (map numbers names) all))

pub port-map : (e kid : NetEntityTree) (own : OwnPorts) (inputs given : List ℕ) (outputs : List (Option ℕ)) → AreOwnPorts e own → some_numbers inputs ≡ map (numbers_view own.inputs) (names_along Input kid.ports) → some_numbers given ≡ map (numbers_view own.outputs) (names_along Output kid.ports) → outputs ≡ map (number_of (names_along Output kid.ports)) (texts own.output_names.items) → IsPortMap e kid (record { inputs = inputs; outputs = outputs })
port-map e kid own inputs given outputs are ins outs gives = record {
  inputs = ins ∙ mapped (numbers_view own.inputs) (number_of (names_along Input e.ports)) are.inputs (names_along Input kid.ports);
  outputs = gives ∙ ap (λ (ns : List (List ℕ)). map (number_of (names_along Output kid.ports)) ns) are.named;
  known = each-numbered (numbers_view own.outputs) (number_of (names_along Output e.ports)) are.outputs given (names_along Output kid.ports) outs;
}
