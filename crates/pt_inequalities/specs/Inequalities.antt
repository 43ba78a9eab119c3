-- The inequalities between the types of a net: each term is below its variable.
use Rattle.std.specs.Prelude.{ℕ, suc, Vec, option_map, List, [], ◌∷◌, ◌++◌, map, Option, Some, None, Bool, not, ◌&&◌, bytes_eq, if◌then◌else◌}
use Rattle.std.specs.List.{list_any}
use Rattle.std.specs.Global.{Global}
use Rattle.pt_value.specs.Value.{Value}
use Rattle.pt_value.specs.declared.token.Token.{Token}
use Rattle.pt_value.specs.Token.{value_of}
use Rattle.pt_document.specs.Document.{PropertyTree, property_name, PortTree, InputTree}
use Rattle.pt_datatypes.specs.Datatype.{Datatype, Unknown, Int, Boolean, Words}
use Rattle.pt_datatypes.specs.Join.{join}
use Rattle.pt_datatypes.specs.Token.{type_of_value}
use Rattle.pt_language.specs.Tree.{Tree}
use Rattle.pt_language.specs.Types.{Types}
use Rattle.pt_net.specs.declared.net.Channel.{Channel}
use Rattle.pt_net.specs.declared.net.Net.{Net}
use Rattle.pt_net.specs.Net.{NetEntityTree, entity_view}
use Rattle.pt_scopes.specs.Texts.{names_in}
use Rattle.pt_scopes.specs.Given as held
use Rattle.pt_scopes.specs.Given.{Held}
use Rattle.pt_scopes.specs.Agreement.{standard_of}
use Rattle.pt_scopes.specs.declared.values.Values.{Values}
use Rattle.pt_scopes.specs.Scopes.{net_view}
use Rattle.pt_scopes.specs.Sites.{is_input_port}
use Rattle.pt_scopes.specs.Valued.{EntityView, inputs_view}
use Rattle.pt_scopes.specs.Valued as valued
use Rattle.pt_inequalities.specs.declared.row.PortType.{PortType}
use Rattle.pt_inequalities.specs.declared.row.PortType.TheVariants as port
use Rattle.pt_inequalities.specs.declared.row.Seed.{Seed}
use Rattle.pt_inequalities.specs.Rows.{Seeding, seedings, port_type, seed_of, seeded, standard_type}
use Rattle.pt_typing.specs.declared.variable.Variable.{Variable}
use Rattle.pt_typing.specs.declared.variable.Variable.TheVariants.{Port, Row}
use Rattle.pt_typing.specs.Terms.{Term, Same, Fixed, ArrayOf, ElementOf, FieldOf, RecordOf, TreeOf}
use Rattle.pt_typing.specs.Views.{Inequality}
use Rattle.pt_inequalities.specs.Frames.{Frames, frames_of, seen_types, first, behind}

abbrev pub below : Variable → Term Variable → Inequality
below v t = (v, t)

-- ---- channels

-- what is at the source of a channel is below what is at its place
abbrev pub of_channel : Channel → Inequality
of_channel c = below (Port c.to.entity c.to.port) (Same (Port c.from.entity c.from.port))

-- ---- the rows of actors

abbrev pub input_at : ℕ → ℕ → PortTree → List (List ℕ × Variable)
input_at k i p = if is_input_port p then (p.name, Port k i) ∷ [] else []

abbrev pub inputs_from : ℕ → ℕ → List PortTree → List (List ℕ × Variable)
inputs_from k i [] = []
inputs_from k i (p ∷ ps) = input_at k i p ++ inputs_from k (suc i) ps

-- the inputs of an entity under their names
abbrev pub inputs_of : ℕ → NetEntityTree → List (List ℕ × Variable)
inputs_of k e = inputs_from k 0 e.ports

abbrev pub with_type : List ℕ → Option Datatype → List (List ℕ × Datatype)
with_type name None = []
with_type name (Some t) = (name, t) ∷ []

-- those of some names that have types
abbrev pub known : Types → List (List ℕ) → List (List ℕ × Datatype)
known types [] = []
known types (n ∷ ns) = with_type n (types n) ++ known types ns

-- what an expression gives: it names inputs, before the parameters that are seen
abbrev pub of_tree : ℕ → NetEntityTree → Types → Tree → Term Variable
of_tree k e types t = TreeOf t (inputs_of k e) (known types (names_in t))

abbrev pub of_held : ℕ → NetEntityTree → Types → Variable → Held → List Inequality
of_held k e types variable (held.Token v) = []
of_held k e types variable (held.Read t) = below variable (of_tree k e types t) ∷ []
of_held k e types variable held.Word = []

abbrev pub of_trees : ℕ → NetEntityTree → Types → Variable → List Held → List Inequality
of_trees k e types variable [] = []
of_trees k e types variable (h ∷ hs) = of_held k e types variable h ++ of_trees k e types variable hs

abbrev pub of_fields : Variable → List ℕ → List (List ℕ × Variable) → List Inequality
of_fields variable name [] = []
of_fields variable name (x ∷ xs) = below variable (FieldOf x.1 name) ∷ of_fields variable name xs

-- what passes at a port of this number and name by the row of its class, beside what comes through channels. A port of the row
-- has the type of the row, which is that of the elements of its arrays
abbrev pub of_port : ℕ → NetEntityTree → EntityView → Types → ℕ → List ℕ → PortType → List Inequality
of_port k e v types i name port.Free = []
of_port k e v types i name port.Int = below (Port k i) (Fixed Int) ∷ []
of_port k e v types i name port.Boolean = below (Port k i) (Fixed Boolean) ∷ []
of_port k e v types i name port.Words = below (Port k i) (Fixed Words) ∷ []
of_port k e v types i name port.Row = below (Port k i) (Same (Row k)) ∷ below (Row k) (Same (Port k i)) ∷ []
of_port k e v types i name port.RowArray = below (Port k i) (ArrayOf (Row k)) ∷ below (Row k) (ElementOf (Port k i)) ∷ []
of_port k e v types i name port.Tree = of_trees k e types (Port k i) v.parameters
of_port k e v types i name port.Assembled = below (Port k i) (RecordOf (inputs_of k e)) ∷ []
of_port k e v types i name port.Field = of_fields (Port k i) name (inputs_of k e)

-- those of the ports from this number on
abbrev pub of_ports : ℕ → NetEntityTree → EntityView → Types → ℕ → List PortTree → List Inequality
of_ports k e v types i [] = []
of_ports k e v types i (p ∷ ps) = of_port k e v types i p.name (port_type e.class p) ++ of_ports k e v types (suc i) ps

abbrev pub of_seed : ℕ → Option Seed → Value → List Inequality
of_seed k None v = []
of_seed k (Some s) v = below (Row k) (Fixed (seeded s v)) ∷ []

abbrev pub of_value : ℕ → List ℕ → List ℕ → Held → List Inequality
of_value k class name (held.Token v) = of_seed k (seed_of class name) v
of_value k class name (held.Read t) = []
of_value k class name held.Word = []

abbrev pub of_parameter : ℕ → List ℕ → List ℕ → Option Held → List Inequality
of_parameter k class name None = []
of_parameter k class name (Some h) = of_value k class name h

-- the tokens that parameters give are of the type of the row
abbrev pub of_parameters : ℕ → List ℕ → List PropertyTree → List Held → List Inequality
of_parameters k class [] hs = []
of_parameters k class (p ∷ ps) hs = of_parameter k class (property_name p) (first hs) ++ of_parameters k class ps (behind hs)

abbrev pub is_given : List PropertyTree → List ℕ → Bool
is_given ps name = list_any (λ p. bytes_eq (property_name p) name) ps

abbrev pub of_standard : ℕ → List ℕ → List PropertyTree → Seeding → List Inequality
of_standard k class ps r = if bytes_eq r.class class && not (is_given ps r.parameter) then below (Row k) (Fixed (standard_type (standard_of class r.parameter))) ∷ [] else []

-- so is what stands for a parameter that isn't given
abbrev pub of_standards : ℕ → List ℕ → List PropertyTree → List Seeding → List Inequality
of_standards k class ps [] = []
of_standards k class ps (r ∷ rs) = of_standard k class ps r ++ of_standards k class ps rs

abbrev pub of_entity : Frames → ℕ → NetEntityTree → Option EntityView → List Inequality
of_entity frames k e None = []
of_entity frames k e (Some v) =
    of_ports k e v (seen_types frames e.within e.parent) 0 e.ports ++ (of_parameters k e.class e.parameters v.parameters ++ of_standards k e.class e.parameters seedings)

-- those of the entities from this number on
abbrev pub of_entities : Frames → ℕ → List NetEntityTree → List EntityView → List Inequality
of_entities frames k [] vs = []
of_entities frames k (e ∷ es) vs = of_entity frames k e (first vs) ++ of_entities frames (suc k) es (behind vs)

-- ---- inputs of the top

abbrev pub joined_one : Datatype → Option Value → Datatype
joined_one t None = t
joined_one t (Some v) = join t (type_of_value v)

abbrev pub joined_with : Datatype → List (Option Value) → Datatype
joined_with t [] = t
joined_with t (v ∷ vs) = joined_with (joined_one t v) vs

abbrev pub PortNumbers : Type 0
PortNumbers = List ℕ → Option ℕ

abbrev pub no_ports : PortNumbers
no_ports name = None

abbrev pub with_port : List ℕ → ℕ → PortNumbers → PortNumbers
with_port name i ports other = if bytes_eq name other then Some i else ports other

-- the numbers of ports under their names, the first of which has this number
abbrev pub with_ports : PortNumbers → ℕ → List PortTree → PortNumbers
with_ports ports i [] = ports
with_ports ports i (p ∷ ps) = with_ports (with_port p.name i ports) (suc i) ps

-- the numbers of inputs under their names, the first port of which has this number
abbrev pub with_input : ℕ → PortTree → PortNumbers → PortNumbers
with_input i p ports = if is_input_port p then with_port p.name i ports else ports

abbrev pub with_inputs : PortNumbers → ℕ → List PortTree → PortNumbers
with_inputs ports i [] = ports
with_inputs ports i (p ∷ ps) = with_inputs (with_input i p ports) (suc i) ps

-- the values of the tokens that the program holds for an input
abbrev pub supply_view : Vec (Option Token) Global → List (Option Value)
supply_view ts = map (option_map value_of) ts.items

abbrev pub of_supply : Option ℕ → Option (List (Option Value)) → List Inequality
of_supply None vs = []
of_supply (Some i) None = []
of_supply (Some i) (Some vs) = below (Port 0 i) (Fixed (joined_with Unknown vs)) ∷ []

-- the tokens of an input are below the input port of that name of the top; where it has none, they bound nothing
abbrev pub of_inputs : PortNumbers → List InputTree → List (List (Option Value)) → List Inequality
of_inputs ports [] vs = []
of_inputs ports (i ∷ is) vs = of_supply (ports i.port) (first vs) ++ of_inputs ports is (behind vs)

abbrev pub top_inputs : List NetEntityTree → PortNumbers
top_inputs [] = no_ports
top_inputs (e ∷ es) = with_inputs no_ports 0 e.ports

-- ---- the whole net

-- the inequalities of a net, but those of its Modal entities and of the types that ports declare
abbrev pub inequalities : Net → Values → List Inequality
inequalities net values =
    map of_channel net.channels.items ++ (of_entities (frames_of net values) 0 (map entity_view net.entities.items) (map valued.entity_view values.entities.items) ++ of_inputs (top_inputs (map entity_view net.entities.items)) (net_view net).inputs (inputs_view values))
