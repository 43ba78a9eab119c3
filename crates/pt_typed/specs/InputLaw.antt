-- The tokens that a job supplies to the inputs of the top are of the types of these.
use Rattle.std.specs.Prelude.{◌≡◌, List, [], ◌∷◌, map, true, Option, Some, None, slice_get}
use Rattle.pt_value.specs.declared.token.Token.{Token}
use Rattle.pt_net.specs.declared.net.Net.{Net}
use Rattle.pt_net.specs.declared.net.NetEntity.{NetEntity}
use Rattle.pt_net.specs.Net.{entity_view}
use Rattle.pt_scopes.specs.declared.values.Values.{Values}
use Rattle.pt_scopes.specs.Scopes.{net_view, is_composite_class}
use Rattle.pt_typing.specs.Least.{Assignment}
use Rattle.pt_inequalities.specs.Typing.{IsTyping}
use Rattle.pt_job.specs.Inputs.{AreSupplied}
pub use Rattle.pt_order.specs.ClassPorts.{HaveOwnNames}
use Rattle.pt_kinds.specs.Signature.{AreAllOf}
use Rattle.pt_typed.specs.TokenTypes.{IsTokenOf}
use Rattle.pt_typed.specs.NetTypes.{types_below}

-- the tokens that are there
abbrev pub present : List (Option Token) → List Token
present [] = []
present (None ∷ ts) = present ts
present (Some t ∷ ts) = t ∷ present ts

-- for each input of the top as many streams, of the types of these
abbrev pub InputsAreTyped : Type 0
InputsAreTyped =
    (net : Net) (values : Values) (typing : Assignment) (e : NetEntity) (lists : List (List (Option Token))) → slice_get net.entities.items 0 ≡ Some e → is_composite_class e.class ≡ true → HaveOwnNames (entity_view e).ports → IsTyping net values typing → AreSupplied (net_view net) values lists →
    AreAllOf IsTokenOf (types_below net typing 0 []).places (map present lists)
