-- What passes at the ports of each class of actors, as the tables of the program list it.
use Rattle.std.specs.Prelude.{ℕ, List, [], ◌∷◌, map, Option, Some, None, ◌&&◌, bytes_eq, codes, if◌then◌else◌}
use Rattle.pt_document.specs.declared.job.Direction.{Direction}
use Rattle.pt_document.specs.declared.job.Direction.TheVariants.{Input, Output}
use Rattle.pt_document.specs.Document.{PortTree}
use Rattle.std.specs.Borrow.{Bor}
use Rattle.pt_value.specs.Value.{Value, Array, Values, no_values, value_then}
use Rattle.pt_datatypes.specs.Datatype.{Datatype, Unknown, Int, Boolean}
use Rattle.pt_datatypes.specs.Join.{join}
use Rattle.pt_datatypes.specs.Token.{type_of_value}
use Rattle.pt_scopes.specs.declared.form.Standard.{Standard}
use Rattle.pt_scopes.specs.declared.form.Standard.TheVariants as standard
use Rattle.pt_inequalities.specs.declared.row.PortType.{PortType}
use Rattle.pt_inequalities.specs.declared.row.PortType.TheVariants as port
use Rattle.pt_inequalities.specs.declared.row.PortTypeRow.{PortTypeRow}
use Rattle.pt_inequalities.specs.declared.row.Seed.{Seed}
use Rattle.pt_inequalities.specs.declared.row.Seed.TheVariants as seed
use Rattle.pt_inequalities.specs.declared.row.SeedRow.{SeedRow}
use Rattle.pt_inequalities.specs.declared.tables.TheConstants.{PORT_TYPES, SEEDS}

-- a port of a class, and what passes there
abbrev pub PortRow : Type 0
PortRow = PortTypeRow (List ℕ)

-- a parameter of a class whose tokens pass at its ports
abbrev pub Seeding : Type 0
Seeding = SeedRow (List ℕ)

-- rows as the program holds them, behind references
abbrev Name : Type 0
Name = Bor (List ℕ)

abbrev pub port_row : PortTypeRow Name → PortRow
port_row r = record { class = r.class.now; port = r.port.now; ty = r.ty }

abbrev pub seeding : SeedRow Name → Seeding
seeding r = record { class = r.class.now; parameter = r.parameter.now; seed = r.seed }

unfoldable pub port_rows : List PortRow
port_rows = map (λ r. record { class = r.class.now; port = r.port.now; ty = r.ty }) PORT_TYPES

unfoldable pub seedings : List Seeding
seedings = map (λ r. record { class = r.class.now; parameter = r.parameter.now; seed = r.seed }) SEEDS

abbrev pub port_type_in : List PortRow → List ℕ → List ℕ → PortType
port_type_in [] class name = port.Free
port_type_in (r ∷ rs) class name = if bytes_eq r.class class && bytes_eq r.port name then r.ty else port_type_in rs class name

abbrev pub declared_output : List ℕ → Direction → PortType → PortType
declared_output class Output otherwise = if bytes_eq class (codes "RecordDisassembler") then port.Field else otherwise
declared_output class Input otherwise = otherwise

-- what passes at a port of an entity of this class
unfoldable pub port_type : List ℕ → PortTree → PortType
port_type class p = declared_output class p.direction (port_type_in port_rows class p.name)

abbrev pub seed_in : List Seeding → List ℕ → List ℕ → Option Seed
seed_in [] class name = None
seed_in (r ∷ rs) class name = if bytes_eq r.class class && bytes_eq r.parameter name then Some r.seed else seed_in rs class name

-- which tokens of a parameter pass at the ports of its entity
unfoldable pub seed_of : List ℕ → List ℕ → Option Seed
seed_of class name = seed_in seedings class name

-- the join of a type with those of some values
abbrev pub joined_values : Datatype → Values → Datatype
joined_values t no_values = t
joined_values t (value_then v vs) = joined_values (join t (type_of_value v)) vs

abbrev pub elements_type : Value → Datatype
elements_type (Array vs) = joined_values Unknown vs
elements_type v = Unknown

-- the type of what passes of a value
abbrev pub seeded : Seed → Value → Datatype
seeded seed.Whole v = type_of_value v
seeded seed.Elements v = elements_type v

-- the type of what passes where such a parameter isn't given
abbrev pub standard_type : Standard → Datatype
standard_type (standard.Integer n) = Int
standard_type (standard.Single n) = Int
standard_type (standard.Truth b) = Boolean
standard_type standard.FirstWord = Unknown
standard_type standard.Nothing = Unknown
