-- The inequalities that declared types make: the type that a port of an entity or of a transparent composite declares is below it.
use Rattle.std.specs.Prelude.{ℕ, suc, List, [], ◌∷◌, ◌++◌, Option, Some, None}
use Rattle.pt_datatypes.specs.Datatype.{Datatype}
use Rattle.pt_document.specs.Document.{PortTree}
use Rattle.pt_net.specs.declared.net.Net.{Net}
use Rattle.pt_typing.specs.declared.variable.Variable.TheVariants.{Port}
use Rattle.pt_typing.specs.Terms.{Fixed}
use Rattle.pt_typing.specs.Views.{Inequality}
use Rattle.pt_inequalities.specs.Inequalities.{below}
use Rattle.pt_inequalities.specs.Passing.{all_ports}
use Rattle.pt_said.specs.SaidWords.{type_in}

abbrev pub of_type : ℕ → ℕ → Option Datatype → List Inequality
of_type k i None = []
of_type k i (Some t) = below (Port k i) (Fixed t) ∷ []

-- what a port of this number declares; a text that is no type's asks nothing
abbrev pub of_text : ℕ → ℕ → Option (List ℕ) → List Inequality
of_text k i None = []
of_text k i (Some text) = of_type k i (type_in text)

-- those of the ports from this number on
abbrev pub of_declared : ℕ → ℕ → List PortTree → List Inequality
of_declared k i [] = []
of_declared k i (p ∷ ps) = of_text k i p.declared ++ of_declared k (suc i) ps

-- those of the entities and the transparent composites from this number on, which have these ports
abbrev pub declared_from : ℕ → List (List PortTree) → List Inequality
declared_from k [] = []
declared_from k (ps ∷ pss) = of_declared k 0 ps ++ declared_from (suc k) pss

-- those of a net
abbrev pub declared : Net → List Inequality
declared net = declared_from 0 (all_ports net)
