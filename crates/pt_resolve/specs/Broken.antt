-- Tests that tell where the typing of a net breaks, but in guards and actions.
use Rattle.std.specs.Prelude.{ℕ, suc, ◌+◌, List, [], ◌∷◌, Bool, false, not, ◌||◌, Option, Some, None, if◌then◌else◌}
use Rattle.std.specs.List.{list_any}
use Rattle.pt_document.specs.Document.{PortTree}
use Rattle.pt_datatypes.specs.Datatype.{Datatype}
use Rattle.pt_datatypes.specs.Order.{is_below}
use Rattle.pt_language.specs.Comparable.{is_general}
use Rattle.pt_language.specs.Types.{Types}
use Rattle.pt_net.specs.Net.{NetEntityTree, TransparentTree}
use Rattle.pt_scopes.specs.Texts.{names_in}
use Rattle.pt_scopes.specs.Given as held
use Rattle.pt_scopes.specs.Given.{Held}
use Rattle.pt_scopes.specs.Valued.{EntityView}
use Rattle.pt_typing.specs.declared.variable.Variable.TheVariants.{Port}
use Rattle.pt_typing.specs.Terms.{names_types, has_type}
use Rattle.pt_typing.specs.Least.{Assignment}
use Rattle.pt_inequalities.specs.Rows.{port_type}
use Rattle.pt_inequalities.specs.Frames.{Frames, seen_types, first, behind}
use Rattle.pt_inequalities.specs.Inequalities.{inputs_of, known}
use Rattle.pt_said.specs.SaidWords.{type_in}
use Rattle.pt_resolve.specs.Faults.{is_above}

-- a port of this entity, from this number on, is general or above what its row allows
abbrev pub has_port_above : Assignment → ℕ → List ℕ → ℕ → List PortTree → Bool
has_port_above typing k class i [] = false
has_port_above typing k class i (p ∷ ps) = is_above (port_type class p) (typing.types (Port k i)) || has_port_above typing k class (suc i) ps

-- a type isn't below another, where there is one
abbrev pub is_over_type : Datatype → Option Datatype → Bool
is_over_type t None = false
is_over_type t (Some s) = not (is_below t s)

-- a type isn't below the one that a port declares
abbrev pub is_over : Datatype → Option (List ℕ) → Bool
is_over t None = false
is_over t (Some text) = is_over_type t (type_in text)

-- a port of this entity, from this number on, isn't below what it declares
abbrev pub has_port_over : Assignment → ℕ → ℕ → List PortTree → Bool
has_port_over typing k i [] = false
has_port_over typing k i (p ∷ ps) = is_over (typing.types (Port k i)) p.declared || has_port_over typing k (suc i) ps

-- a parameter is an expression without a type
abbrev pub lacks_type : Assignment → ℕ → NetEntityTree → Types → Held → Bool
lacks_type typing k e types (held.Token v) = false
lacks_type typing k e types (held.Read t) = not (has_type (names_types typing.types (inputs_of k e) (known types (names_in t))) t)
lacks_type typing k e types held.Word = false

-- one of these parameters is an expression without a type
abbrev pub has_untyped : Assignment → ℕ → NetEntityTree → Types → Option EntityView → Bool
has_untyped typing k e types None = false
has_untyped typing k e types (Some v) = list_any (lacks_type typing k e types) v.parameters

-- the typing breaks at the entity of this number
abbrev pub breaks : Frames → Assignment → ℕ → NetEntityTree → Option EntityView → Bool
breaks frames typing k e v = (has_port_above typing k e.class 0 e.ports || has_port_over typing k 0 e.ports) || has_untyped typing k e (seen_types frames e.within e.parent) v

-- the number of the first of these entities, numbered from this number on, at which the typing breaks
abbrev pub first_broken : Frames → Assignment → ℕ → List NetEntityTree → List EntityView → Option ℕ
first_broken frames typing k [] vs = None
first_broken frames typing k (e ∷ es) vs = if breaks frames typing k e (first vs) then Some k else first_broken frames typing (suc k) es (behind vs)

-- ---- transparent composites

-- a port of this number, from this number on, is general
abbrev pub has_general : Assignment → ℕ → ℕ → List PortTree → Bool
has_general typing k i [] = false
has_general typing k i (p ∷ ps) = is_general (typing.types (Port k i)) || has_general typing k (suc i) ps

-- the number of the first of these transparent composites, numbered from this number on, whose ports meet a test. The test is told
-- the number of the ports, which are numbered from another number on
abbrev pub first_such : (ℕ → List PortTree → Bool) → ℕ → ℕ → List TransparentTree → Option ℕ
first_such test first c [] = None
first_such test first c (e ∷ es) = if test (first + c) e.ports then Some c else first_such test first (suc c) es
