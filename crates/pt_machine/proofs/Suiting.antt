-- A machine suits the refinements of its Modal entity.
use Rattle.std.proofs.Common.{◌≡◌, ℕ, zero, suc, ◌<◌, ◌+◌, List, [], ◌∷◌, length, get_or, map, Bool, Option, Some, None, refl, sym, ap, subst, ◌∙◌, arith}
use Rattle.std.specs.Prelude.{slice_get}
use Rattle.std.specs.List.{AllZip, enumerate_from}
use Rattle.std.proofs.lemmas.List.{length-map}
use Rattle.pt_meaning.specs.Transitions.{mode_in}
use Rattle.pt_document.specs.declared.job.State.{State}
use Rattle.pt_document.specs.declared.job.Direction.TheVariants.{Input, Output}
use Rattle.pt_net.specs.Net.{NetEntityTree}
use Rattle.pt_scopes.specs.Valued.{EntityView}
use Rattle.pt_typing.specs.Least.{Assignment}
use Rattle.pt_inequalities.specs.ModalScopes.{ModalScope}
use Rattle.pt_chart.specs.Machine.{Machine, ModeTree, PortMap, NameTable}
use Rattle.pt_chart.specs.Chart as chart
use Rattle.pt_chart.specs.Chart.{chart_of}
use Rattle.pt_machine.specs.Numbers.{number_of}
use Rattle.pt_machine.specs.Names.{state_name, state_names, names_along, path_of, refinement_path, refinement_of, number_if}
use Rattle.pt_machine.specs.Machines.{Leaving, mode_of, IsPortMap, IsMachine}
use Rattle.pt_machine.specs.Laws.{Suits, MachinesSuit}
use Rattle.pt_machine.proofs.NumberLaws.{number-short}

if-short : (names : List (List ℕ)) (o : Option (List ℕ)) (i : ℕ) → number_if names o ≡ Some i → i < length names
if-short names None i e = absurd (cc)
if-short names (Some name) i e = number-short names name i e

refined-short : (e : NetEntityTree) (kids : List NetEntityTree) (s : State) (i : ℕ) → refinement_of e kids s ≡ Some i → i < length kids
refined-short e kids s i h = let short = if-short (map path_of kids) (refinement_path e s) i h in omega (arith, short, length-map kids path_of)

mode-refined : (table : NameTable) (e : NetEntityTree) (kids : List NetEntityTree) (xs : List Leaving) (k : ℕ) (states : List State) (mode i : ℕ) → (mode_in (map (chart.mode_of table) (map (mode_of e kids xs) (enumerate_from k states))) mode).refinement ≡ Some i → i < length kids
mode-refined table e kids xs k [] mode i h = absurd (cc)
mode-refined table e kids xs k (s ∷ states) zero i h = refined-short e kids s i h
mode-refined table e kids xs k (s ∷ states) (suc mode) i h = mode-refined table e kids xs (k + 1) states mode i h

modes-length : (e : NetEntityTree) (kids : List NetEntityTree) (xs : List Leaving) (k : ℕ) (states : List State) → length (map (mode_of e kids xs) (enumerate_from k states)) ≡ length states
modes-length e kids xs k [] = refl
modes-length e kids xs k (s ∷ states) = ap (λ n. suc n) (modes-length e kids xs (k + 1) states)

port-map : (e : NetEntityTree) (kids : List NetEntityTree) (ports : List PortMap) (d : PortMap) → AllZip (IsPortMap e) kids ports → (i : ℕ) (kid : NetEntityTree) → slice_get kids i ≡ Some kid → IsPortMap e kid (get_or ports i d)
port-map e [] ports d all i kid at = absurd (cc)
port-map e (k ∷ kids) [] d all i kid at = absurd all
port-map e (k ∷ kids) (p ∷ ports) d all zero kid at = let same : k ≡ kid = cc in subst (λ (u : NetEntityTree). IsPortMap e u p) same all.0
port-map e (k ∷ kids) (p ∷ ports) d all (suc i) kid at = port-map e kids ports d all.1 i kid at

module _ (typing : Assignment) (s : ModalScope) (m : ℕ) (e : NetEntityTree) (v : EntityView) (kids : List NetEntityTree) (parted : Bool) (x : Machine) (is : IsMachine typing s m e v kids parted x) where
  taken-length : (kid : NetEntityTree) (p : PortMap) → IsPortMap e kid p → length p.inputs ≡ length (names_along Input kid.ports)
  taken-length kid p h = sym (length-map p.inputs (λ i. Some i)) ∙ ap (λ (os : List (Option ℕ)). length os) h.inputs ∙ length-map (names_along Input kid.ports) (number_of (names_along Input e.ports))

  shown-length : (kid : NetEntityTree) (p : PortMap) → IsPortMap e kid p → length p.outputs ≡ length (names_along Output e.ports)
  shown-length kid p h = ap (λ (os : List (Option ℕ)). length os) h.outputs ∙ length-map (names_along Output e.ports) (number_of (names_along Output kid.ports))

  begins : x.initial < length x.modes
  begins =
      let short = if-short (state_names e) e.initial x.initial is.initial in
      let counted : length x.modes ≡ length e.states = ap (λ (ms : List ModeTree). length ms) is.modes ∙ modes-length e kids is.transitions 0 e.states in
      omega (arith, short, length-map e.states state_name, counted)

  suits : Suits e kids (chart_of x) (length x.modes)
  suits = record {
    begins = begins;
    named = λ mode i h. mode-refined x.names e kids is.transitions 0 e.states mode i (sym (ap (λ (ms : List ModeTree). (mode_in (map (chart.mode_of x.names) ms) mode).refinement) is.modes) ∙ h);
    takes = λ i kid at. taken-length kid (chart.ports_at x i) (port-map e kids x.ports (record { inputs = []; outputs = [] }) is.ports i kid at);
    shows = λ i kid at. shown-length kid (chart.ports_at x i) (port-map e kids x.ports (record { inputs = []; outputs = [] }) is.ports i kid at);
  }

pub machines-suit : MachinesSuit
machines-suit typing s m e v kids parted x is = suits typing s m e v kids parted x is
