-- Ports by name, each with its type.
use Rattle.std.specs.Prelude.{ℕ, List, [], ◌∷◌, map, Option, Some, None}
use Rattle.std.specs.List.{zip}
use Rattle.pt_datatypes.specs.Datatype.{Datatype}
use Rattle.pt_document.specs.Document.{PortTree}
use Rattle.pt_scopes.specs.Sites.{port_name}

abbrev pub named_types : List PortTree → List Datatype → List (List ℕ × Datatype)
named_types ps ts = zip (map port_name ps) ts

-- a name with its type, if it has one
abbrev pub with_type : List ℕ → Option Datatype → List (List ℕ × Datatype)
with_type name None = []
with_type name (Some t) = (name, t) ∷ []
