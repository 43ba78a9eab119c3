-- Which entities of a net are refused for where they stand.
use Rattle.std.specs.Prelude.{◌≡◌, ℕ, Bool, true, false, ◌&&◌, Option, Some, None, nat_eq, slice_get}
use Rattle.std.specs.Option.{is_some, is_none}
use Rattle.pt_document.specs.declared.code.Code.{Code}
use Rattle.pt_document.specs.declared.code.Code.TheVariants as code
use Rattle.pt_document.specs.declared.classes.Director.{Director}
use Rattle.pt_document.specs.declared.classes.Director.TheVariants.{Sdf, Pn, Rendezvous, Sr, De}
use Rattle.pt_document.specs.Classes.{class_row}
use Rattle.pt_net.specs.Net.{NetEntityTree}
use Rattle.pt_scopes.specs.declared.values.EntityValues.{EntityValues}
use Rattle.pt_scopes.specs.declared.values.Values.{Values}
use Rattle.pt_scopes.specs.Scopes.{NetTree}
use Rattle.pt_start.specs.Places.{director_of, director_over, IsBarred, HasUntimedAbove, is_limited}

abbrev pub is_sdf : Option Director → Bool
is_sdf (Some Sdf) = true
is_sdf (Some Sr) = false
is_sdf (Some De) = false
is_sdf (Some Pn) = false
is_sdf (Some Rendezvous) = false
is_sdf None = false

abbrev pub is_de : Option Director → Bool
is_de (Some De) = true
is_de (Some Sdf) = false
is_de (Some Sr) = false
is_de (Some Pn) = false
is_de (Some Rendezvous) = false
is_de None = false

-- the top, without a director
abbrev pub is_undirected_top : ℕ → NetEntityTree → Bool
is_undirected_top k e = nat_eq k 0 && is_none (director_of e)

-- its parameters have these values, with which it fires only so often
abbrev pub is_limited_with : NetEntityTree → Option EntityValues → Bool
is_limited_with e None = false
is_limited_with e (Some v) = is_limited e.class e.parameters v.parameters.items

-- a library actor under SDF that fires only so often
abbrev pub is_limited_under_sdf : NetTree → Values → ℕ → NetEntityTree → Bool
is_limited_under_sdf net values k e = is_some (class_row e.class) && (is_sdf (director_over net e.parent) && is_limited_with e (slice_get values.entities.items k))

-- a DE composite below a director other than DE
pub record IsTimedBelow (net : NetTree) (e : NetEntityTree) : Type 0 where
  pub timed : is_de (director_of e) ≡ true
  pub below : HasUntimedAbove net e.parent

-- the entity of that number is refused for where it stands, for this cause
pub data IsRefusedThere (net : NetTree) (values : Values) (k : ℕ) (e : NetEntityTree) : Code → Type 0 where
  undirected : is_undirected_top k e ≡ true → IsRefusedThere net values k e code.Place
  barred : IsBarred net e → IsRefusedThere net values k e code.Place
  limited : is_limited_under_sdf net values k e ≡ true → IsRefusedThere net values k e code.Place
  timed : IsTimedBelow net e → IsRefusedThere net values k e code.Timed

-- for this cause the entity of that number is refused for where it stands in the net
pub record IsMisplaced (net : NetTree) (values : Values) (cause : Code) (k : ℕ) : Type 0 where
  pub entity : NetEntityTree
  pub at : slice_get net.entities k ≡ Some entity
  pub refused : IsRefusedThere net values k entity cause
