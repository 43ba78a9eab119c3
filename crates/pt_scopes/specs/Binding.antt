-- Names bound for one tree.
use Rattle.std.specs.Prelude.{◌≡◌, ◌⊎◌, ℕ, List, Some, None}
use Rattle.std.specs.List.{Contains}
use Rattle.pt_value.specs.Value.{Value}
use Rattle.pt_datatypes.specs.Datatype.{Datatype}
use Rattle.pt_datatypes.specs.Token.{type_of_value}
use Rattle.pt_document.specs.declared.code.Code.{Code}
use Rattle.pt_document.specs.declared.code.Code.TheVariants as code
use Rattle.pt_language.specs.declared.eval_fault.EvalFault.{EvalFault}
use Rattle.pt_language.specs.Outcome.{Gives, Stops}
use Rattle.pt_language.specs.Scope.{Scope}
use Rattle.pt_language.specs.Meaning.{value}
use Rattle.pt_language.specs.Tree.{Tree}
use Rattle.pt_language.specs.Typing.{Clash}
use Rattle.pt_language.specs.Types.{Types}
use Rattle.pt_language.specs.TreeType.{tree_type, IsTyped}

-- a name is bound to the value that the scope has under it, and to the type of that value
pub record IsHeldAs (scope env : Scope) (types : Types) (name : List ℕ) : Type 0 where
  pub held : Value
  pub seen : scope name ≡ Some (Some held)
  pub bound : env name ≡ Some (Some held)
  pub typed : types name ≡ Some (type_of_value held)

-- a name is bound to nothing
pub record IsFree (env : Scope) (types : Types) (name : List ℕ) : Type 0 where
  pub unbound : env name ≡ None
  pub untyped : types name ≡ None

-- these names are bound, and each other one as the scope has it or not at all
pub record AreBound (scope env : Scope) (types : Types) (done : List (List ℕ)) : Type 0 where
  pub each : (name : List ℕ) → IsHeldAs scope env types name ⊎ IsFree env types name
  pub there : (name : List ℕ) → Contains done name → IsHeldAs scope env types name

-- one of these names isn't in scope
pub record HasStrange (scope : Scope) (names : List (List ℕ)) : Type 0 where
  pub name : List ℕ
  pub stands : Contains names name
  pub strange : scope name ≡ None

-- a tree has a type, and comes to the value
pub record TreeGives (env : Scope) (types : Types) (t : Tree) (v : Value) : Type 0 where
  pub type : Datatype
  pub typed : IsTyped types t type
  pub gives : value env t ≡ Gives v

-- a tree has a type, and its evaluation a fault
pub record TreeStops (env : Scope) (types : Types) (t : Tree) : Type 0 where
  pub type : Datatype
  pub typed : IsTyped types t type
  pub fault : EvalFault
  pub stops : value env t ≡ Stops fault

-- at what a tree is at fault whose names are bound
abbrev pub IsTreeValueFault : Scope → Types → Tree → Code → Type 0
IsTreeValueFault env types t code.Type = tree_type types t ≡ Clash
IsTreeValueFault env types t code.Value = TreeStops env types t
IsTreeValueFault env types t _ = ⊥
