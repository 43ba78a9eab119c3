-- A net without Modal entities has a machine for none.
use Rattle.std.proofs.Common.{◌≡◌, ℕ, zero, suc, List, [], ◌∷◌, length, map, get_or, Bool, true, false, ◌||◌, Option, Some, None, option_map, refl, sym, ap, subst, ◌∙◌}
use Rattle.std.specs.Prelude.{slice_get}
use Rattle.std.specs.List.{list_any}
use Rattle.std.proofs.lemmas.List.{length-map}
use Rattle.std.proofs.lemmas.Option.{same_Some, none-some}
use Rattle.pt_net.specs.declared.net.Net.{Net}
use Rattle.pt_net.specs.Net.{NetEntityTree, entity_view}
use Rattle.pt_scopes.specs.declared.values.Values.{Values}
use Rattle.pt_typing.specs.Least.{Assignment}
use Rattle.pt_inequalities.specs.ModalScopes.{is_modal}
use Rattle.pt_chart.specs.Machine.{Machine}
use Rattle.pt_chart.specs.declared.written.Written.{Written}
use Rattle.pt_chart.specs.Views.{machine_of}
use Rattle.pt_machine.specs.Machines.{IsMachineOf, AreMachines}

neither : (a b : Bool) → (a || b) ≡ false → (a ≡ false) × (b ≡ false)
neither true true h = (h, h)
neither true false h = (h, refl)
neither false b h = (refl, h)

not-modal : (es : List NetEntityTree) (m : ℕ) (e : NetEntityTree) → list_any is_modal es ≡ false → slice_get es m ≡ Some e → is_modal e ≡ false
not-modal [] m e none at = absurd (none-some e at)
not-modal (u ∷ es) zero e none at = ap is_modal (sym (same_Some u e at)) ∙ (neither (is_modal u) (list_any is_modal es) none).0
not-modal (u ∷ es) (suc m) e none at = not-modal es m e (neither (is_modal u) (list_any is_modal es) none).1 at

all-none : (ws : List (Option Written)) → ((m : ℕ) → get_or ws m None ≡ None) → (m : ℕ) (x : Option Machine) → slice_get (map (option_map machine_of) ws) m ≡ Some x → x ≡ None
all-none [] none m x at = absurd (none-some x at)
all-none (w ∷ ws) none zero x at = sym (same_Some (option_map machine_of w) x at) ∙ ap (option_map machine_of) (none 0)
all-none (w ∷ ws) none (suc m) x at = all-none ws (λ k. none (suc k)) m x at

pub machines-of-plain : (net : Net) (values : Values) (typing : Assignment) (ws : List (Option Written)) → list_any is_modal (map entity_view net.entities.items) ≡ false → length ws ≡ length net.entities.items → ((m : ℕ) → get_or ws m None ≡ None) → AreMachines net values typing (map (option_map machine_of) ws)
machines-of-plain net values typing ws plain counted none = record {
  counted = length-map ws (option_map machine_of) ∙ counted;
  each = λ m e x at there.
      subst (IsMachineOf net values typing m e) (sym (all-none ws none m x there)) (not-modal (map entity_view net.entities.items) m e plain at);
}
