-- What the parts of an entity have to keep beside their form.
use Rattle.std.specs.Prelude.{ℕ, ◌&&◌, List, [], ◌∷◌, Bool, true, false, not, codes, Option, Some, None, Result, Ok, if◌then◌else◌, is_some, option_and_then, map, bytes_eq}
use Rattle.std.specs.List.{filter_map}
use Rattle.pt_document.specs.declared.code.Code.TheVariants as code
use Rattle.pt_document.specs.declared.job.Direction.{Direction}
use Rattle.pt_document.specs.declared.job.Direction.TheVariants.{Input, Output}
use Rattle.pt_document.specs.declared.classes.Need.{Need}
use Rattle.pt_document.specs.declared.classes.Need.TheVariants.{Optional, Required, RequiredAtTop}
use Rattle.pt_document.specs.declared.classes.Director.{Director}
use Rattle.pt_document.specs.declared.classes.Director.TheVariants as director
use Rattle.pt_document.specs.declared.refusal.Refusal.{Refusal}
use Rattle.pt_document.specs.Document.{PropertyTree, property_name, property_value, property_class, inner_properties, PortTree}
use Rattle.pt_document.specs.Classes.{ClassParameter, Class, DirectorClass, director_row, Kind, Composite, Modal, Actor}
use Rattle.pt_document.specs.Outcome.{◌>>=◌, refused}
use Rattle.pt_document.specs.Names.{top_path, below, is_among, is_layout, is_reserved}

-- each of these keeps the rule
abbrev pub each : {A : Type 0} → (A → Result (Unit {0}) Refusal) → List A → Result (Unit {0}) Refusal
each rule [] = Ok tt
each rule (x ∷ xs) = rule x >>= λ _. each rule xs

-- ---- parameters of classes, directors and ports

abbrev pub parameter_names : List ClassParameter → List (List ℕ)
parameter_names rows = map (λ row. row.name) rows

-- a property with a meaning is one of these parameters and has a value and no class
unfoldable pub parameter_fits : List ℕ → List ClassParameter → PropertyTree → Result (Unit {0}) Refusal
parameter_fits here rows p =
    if is_layout (property_name p) then Ok tt
    else (if is_some (property_class p) then refused code.Class here
    else (if is_among (parameter_names rows) (property_name p) && is_some (property_value p) then Ok tt
    else refused code.Parameter (below here (property_name p))))

-- whether a parameter has to be given in the entity of this path
abbrev pub is_needed : List ℕ → Need → Bool
is_needed here Optional = false
is_needed here Required = true
is_needed here RequiredAtTop = bytes_eq here top_path

-- a parameter that has to be given is given
unfoldable pub parameter_given : List ℕ → List PropertyTree → ClassParameter → Result (Unit {0}) Refusal
parameter_given here ps row = if is_needed here row.need && not (is_among (map property_name ps) row.name) then refused code.Parameter (below here row.name) else Ok tt

-- these properties are the parameters of an actor or a director
unfoldable pub parameters_fit : List ℕ → List ClassParameter → List PropertyTree → Result (Unit {0}) Refusal
parameters_fit here rows ps = each (parameter_fits here rows) ps >>= λ _. each (parameter_given here ps) rows

-- ---- properties of composites and modal models

-- a parameter of any name that isn't reserved, or a Variable, with its value
unfoldable pub value_fits : List ℕ → PropertyTree → Result (Unit {0}) Refusal
value_fits here p =
    if is_reserved (property_name p) then refused code.Name here
    else (if is_some (property_value p) then Ok tt else refused code.Parameter (below here (property_name p)))

-- a director with its parameters
abbrev pub director_fits : List ℕ → PropertyTree → Option DirectorClass → Result (Unit {0}) Refusal
director_fits here p None = refused code.Class here
director_fits here p (Some row) = parameters_fit here row.parameters (inner_properties p)

abbrev pub classed_fits : List ℕ → PropertyTree → Option (List ℕ) → Result (Unit {0}) Refusal
classed_fits here p None = value_fits here p
classed_fits here p (Some class) = director_fits here p (director_row class)

-- a property of a Composite
unfoldable pub composite_property : List ℕ → PropertyTree → Result (Unit {0}) Refusal
composite_property here p = if is_layout (property_name p) then Ok tt else classed_fits here p (property_class p)

abbrev pub variable : List ℕ
variable = codes "Variable"

-- a property of a Modal entity has no class, or that of a Variable
abbrev pub is_of_modal : Option (List ℕ) → Bool
is_of_modal None = true
is_of_modal (Some class) = bytes_eq class variable

-- a property of a Modal entity: a parameter, or a Variable
unfoldable pub modal_property : List ℕ → PropertyTree → Result (Unit {0}) Refusal
modal_property here p =
    if is_layout (property_name p) then Ok tt
    else (if is_of_modal (property_class p) then value_fits here p else refused code.Class here)

-- the director that a property is
unfoldable pub property_director : PropertyTree → Option DirectorClass
property_director p = if is_layout (property_name p) then None else option_and_then director_row (property_class p)

-- the directors among the properties of a Composite
abbrev pub directors_among : List PropertyTree → List DirectorClass
directors_among ps = filter_map property_director ps

abbrev pub at_most_one : List ℕ → List DirectorClass → Result (Option DirectorClass) Refusal
at_most_one here [] = Ok None
at_most_one here (row ∷ []) = Ok (Some row)
at_most_one here _ = refused code.Shape here

-- the director of a Composite; two are refused
unfoldable pub director_at : List ℕ → List PropertyTree → Result (Option DirectorClass) Refusal
director_at here ps = at_most_one here (directors_among ps)

-- ---- ports

-- the composites of these directors declare rates of their ports
abbrev pub has_rates : Director → Bool
has_rates director.Pn = true
has_rates director.Rendezvous = true
has_rates _ = false

abbrev pub rate : ClassParameter
rate = record { name = codes "rate"; need = Optional; is_raw = false }

-- the parameters that a port of a Composite may have
abbrev pub rate_rows : Option DirectorClass → List ClassParameter
rate_rows None = []
rate_rows (Some row) = if has_rates row.director then rate ∷ [] else []

-- the name of a port isn't reserved, and its properties are these parameters
unfoldable pub port_fits : List ℕ → List ClassParameter → PortTree → Result (Unit {0}) Refusal
port_fits here rows p = if is_reserved p.name then refused code.Name here else each (parameter_fits here rows) p.properties

abbrev pub is_direction : Option Direction → Direction → Bool
is_direction (Some Input) Input = true
is_direction (Some Output) Output = true
is_direction _ _ = false

-- a port that an actor declares has the class's direction and not the name of a port that is there
unfoldable pub declared_fits : List ℕ → Class → PortTree → Result (Unit {0}) Refusal
declared_fits here class p =
    if is_direction class.declares p.direction then (if is_among (map (λ port. port.name) class.ports) p.name then refused code.Name here else port_fits here [] p)
    else refused code.Shape here

abbrev pub is_empty : {A : Type 0} → List A → Bool
is_empty [] = true
is_empty (x ∷ xs) = false

-- a class that wants declared ports has one
abbrev pub enough_ports : List ℕ → Class → List PortTree → Result (Unit {0}) Refusal
enough_ports here class ports = if class.is_declaring && is_empty ports then refused code.Shape here else Ok tt

-- ---- the whole

-- the properties and ports of an entity are as its kind wants them
unfoldable pub parts_fit : List ℕ → Kind → List PropertyTree → List PortTree → Result (Unit {0}) Refusal
parts_fit here Composite properties ports = do
  _ ← each (composite_property here) properties
  director ← director_at here properties
  each (port_fits here (rate_rows director)) ports
parts_fit here Modal properties ports = do
  _ ← each (modal_property here) properties
  each (port_fits here []) ports
parts_fit here (Actor class) properties ports = do
  _ ← parameters_fit here class.parameters properties
  _ ← enough_ports here class ports
  each (declared_fits here class) ports
