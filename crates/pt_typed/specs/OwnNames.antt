-- The names of the parameters and of the ports of the entities of a net, as a document has them that isn't refused.
use Rattle.std.specs.Prelude.{◌≡◌, ℕ, List, Some, true, false, IsTrue, slice_get}
use Rattle.std.specs.List.{AllByRecursion}
use Rattle.pt_document.specs.Classes.{Class, Actor, kind_of}
use Rattle.pt_document.specs.Document.{PropertyTree, property_name}
use Rattle.pt_document.specs.Names.{is_among, is_reserved}
use Rattle.pt_moml.specs.Rules.{parameter_names}
use Rattle.pt_net.specs.declared.net.Net.{Net}
use Rattle.pt_net.specs.declared.net.NetEntity.{NetEntity}
use Rattle.pt_net.specs.Net.{NetEntityTree, TransparentTree, entity_view}
use Rattle.pt_scopes.specs.Scopes.{NetTree, is_composite_class}
use Rattle.pt_typed.specs.InputLaw.{HaveOwnNames}

-- no parameter has the name of a word of the language, or one that asks about a port
abbrev pub AreFreelyNamed : List PropertyTree → Type 0
AreFreelyNamed ps = AllByRecursion (λ p. is_reserved (property_name p) ≡ false) ps

-- The parameters of a library actor are those of its class. Those of a composite have any names that aren't reserved.
pub record HaveClassParameters (net : NetTree) : Type 0 where
  pub actors : (k : ℕ) (e : NetEntityTree) (class : Class) → slice_get net.entities k ≡ Some e → kind_of e.class ≡ Some (Actor class) → AllByRecursion (λ p. is_among (parameter_names class.parameters) (property_name p) ≡ true) e.parameters
  pub composites : (k : ℕ) (e : NetEntityTree) → slice_get net.entities k ≡ Some e → IsTrue (is_composite_class e.class) → AreFreelyNamed e.parameters
  pub transparent : (t : ℕ) (c : TransparentTree) → slice_get net.transparent t ≡ Some c → AreFreelyNamed c.parameters

-- the ports of each entity have names of their own
abbrev pub HavePortNames : Net → Type 0
HavePortNames net = (k : ℕ) (e : NetEntity) → slice_get net.entities.items k ≡ Some e → HaveOwnNames (entity_view e).ports
