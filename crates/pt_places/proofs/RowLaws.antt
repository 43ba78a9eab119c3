-- The rows of one class say of its ports what the whole table says.
use Rattle.std.proofs.Common.{◌≡◌, ℕ, Bool, true, false, ◌&&◌, List, [], ◌∷◌, refl, ap, ◌∙◌, if◌then◌else◌}
use Rattle.std.specs.Prelude.{bytes_eq}
use Rattle.pt_inequalities.specs.Rows.{PortRow, port_type_in}
use Rattle.pt_places.specs.Views.{rows_behind}

one-row : (b : Bool) (r : PortRow) (rs others : List PortRow) (class name : List ℕ) → b ≡ bytes_eq r.class class → port_type_in others class name ≡ port_type_in rs class name → port_type_in (if b then r ∷ rs else others) class name ≡ port_type_in (r ∷ rs) class name
one-row true r rs others class name e h = refl
one-row false r rs others class name e h = h ∙ ap (λ c. if c && bytes_eq r.port name then r.ty else port_type_in rs class name) e

pub same-behind : (rs : List PortRow) (class name : List ℕ) → port_type_in (rows_behind rs class) class name ≡ port_type_in rs class name
same-behind [] class name = refl
same-behind (r ∷ rs) class name = one-row (bytes_eq r.class class) r rs (rows_behind rs class) class name refl (same-behind rs class name)
