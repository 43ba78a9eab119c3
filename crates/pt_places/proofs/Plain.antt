-- Where no entity is Modal there are no refinements.
use Rattle.std.proofs.Common.{◌≡◌, ℕ, zero, suc, false, List, [], ◌∷◌, ◌++◌, map, Option, Some, None, refl, sym, ap, ◌∙◌, if◌then◌else◌}
use Rattle.std.specs.Prelude.{slice_get}
use Rattle.std.specs.List.{list_any}
use Rattle.std.proofs.lemmas.Bool.{or_parts}
use Rattle.pt_document.specs.Document.{PortTree}
use Rattle.pt_net.specs.Net.{NetEntityTree}
use Rattle.pt_typing.specs.declared.term.Inequality.{Inequality as GivenInequality}
use Rattle.pt_typing.specs.Views.{inequality_view}
use Rattle.pt_inequalities.specs.Inequalities.{PortNumbers, no_ports}
use Rattle.pt_inequalities.specs.ModalScopes.{is_modal, own_ports}
use Rattle.pt_inequalities.specs.Modals.{of_refinement, modal_ports, of_round, of_child, of_children, refined}
use Rattle.pt_places.specs.Views.{IsAdded}
use Rattle.pt_inequalities.proofs.Steps.{append-none}

none-shared : (m k j : ℕ) (ps : List PortTree) → of_refinement no_ports m k j ps ≡ []
none-shared m k j [] = refl
none-shared m k j (p ∷ ps) = none-shared m k (suc j) ps

plain-ports : (e : NetEntityTree) → is_modal e ≡ false → modal_ports e ≡ no_ports
plain-ports e plain = ap (λ b. if b then own_ports e else no_ports) plain

none-round : (es : List NetEntityTree) (i m k : ℕ) (ps : List PortTree) → list_any is_modal es ≡ false → of_round (slice_get (map modal_ports es) i) m k ps ≡ []
none-round [] i m k ps plain = refl
none-round (e ∷ es) zero m k ps plain = ap (λ (ports : PortNumbers). of_round (Some ports) m k ps) (plain-ports e (or_parts (is_modal e) (list_any is_modal es) plain).0) ∙ none-shared m k 0 ps
none-round (e ∷ es) (suc i) m k ps plain = none-round es i m k ps (or_parts (is_modal e) (list_any is_modal es) plain).1

none-child : (es : List NetEntityTree) (k : ℕ) (ps : List PortTree) (within parent : Option ℕ) → list_any is_modal es ≡ false → of_child (map modal_ports es) k ps within parent ≡ []
none-child es k ps (Some t) parent plain = refl
none-child es k ps None None plain = refl
none-child es k ps None (Some m) plain = none-round es m m k ps plain

none-children : (all : List NetEntityTree) (k : ℕ) (es : List NetEntityTree) → list_any is_modal all ≡ false → of_children (map modal_ports all) k es ≡ []
none-children all k [] plain = refl
none-children all k (e ∷ es) plain = λ j. none-child all k e.ports e.within e.parent plain j ++ none-children all (suc k) es plain j

pub none-refined : (es : List NetEntityTree) (old : List GivenInequality) → list_any is_modal es ≡ false → IsAdded old old (refined es)
none-refined es old plain =
    sym (append-none (map inequality_view old)) ∙ sym (ap (λ qs. map inequality_view old ++ qs) (none-children es 0 es plain))
