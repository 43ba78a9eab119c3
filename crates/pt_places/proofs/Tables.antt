-- The ports of entities by their names, one entity after the other.
use Rattle.std.proofs.Common.{◌≡◌, ℕ, ◌+◌, ◌<◌, List, [], ◌∷◌, ◌++◌, length, take, get_or, map, sym, ap, ◌∙◌}
use Rattle.std.proofs.lemmas.List.{map-append}
use Rattle.pt_net.specs.declared.net.NetEntity.{NetEntity}
use Rattle.pt_net.specs.Net.{entity_view}
use Rattle.pt_scopes.proofs.Turns.{view-take}
use Rattle.pt_frames.specs.declared.port_numbers.PortNumbers.{PortNumbers as GivenNumbers}
use Rattle.pt_frames.specs.Views.{port_numbers}
use Rattle.pt_inequalities.specs.Modals.{modal_ports}
use Rattle.pt_inequalities.proofs.Steps.{one-more}

-- the ports of one entity more, as the program makes them
pub tables-more : (es : List NetEntity) (i : ℕ) (e : NetEntity) → i < length es → e ≡ get_or es i e → (old new : List GivenNumbers) (t : GivenNumbers) → new ≡ old ++ t ∷ [] → ((name : List ℕ) → port_numbers t name ≡ modal_ports (entity_view e) name) → map port_numbers old ≡ map modal_ports (map entity_view (take i es)) → map port_numbers new ≡ map modal_ports (map entity_view (take (i + 1) es))
tables-more es i e short is old new t more own h =
    ap (map port_numbers) more
    ∙ map-append port_numbers old (t ∷ [])
    ∙ (λ j. h j ++ (λ name. own name j) ∷ [])
    ∙ sym (map-append modal_ports (map entity_view (take i es)) (entity_view e ∷ []))
    ∙ ap (map modal_ports) (sym (view-take entity_view es i e short is) ∙ ap (λ k. map entity_view (take k es)) (one-more i))
