-- The classes of entities and of directors, as the tables of the program list them.
use Rattle.std.specs.Prelude.{ℕ, List, [], ◌∷◌, Option, Some, None, map, option_map, bytes_eq, codes, if◌then◌else◌}
use Rattle.std.specs.Borrow.{Bor}
use Rattle.pt_document.specs.declared.classes.Director.{Director}
use Rattle.pt_document.specs.declared.classes.PortRow.{PortRow}
use Rattle.pt_document.specs.declared.classes.ParameterRow.{ParameterRow}
use Rattle.pt_document.specs.declared.classes.ClassRow.{ClassRow}
use Rattle.pt_document.specs.declared.classes.DirectorRow.{DirectorRow}
use Rattle.pt_document.specs.declared.classes.Kind.{Kind as Given}
use Rattle.pt_document.specs.declared.classes.Kind.TheVariants as given
use Rattle.pt_document.specs.declared.tables.TheConstants.{CLASSES, DIRECTORS}

-- a port of a class: its name, direction and arity
abbrev pub ClassPort : Type 0
ClassPort = PortRow (List ℕ)

-- a parameter of a class or a director: its name, whether it has to be given, and whether it is raw
abbrev pub ClassParameter : Type 0
ClassParameter = ParameterRow (List ℕ)

-- a class of library actors
abbrev pub Class : Type 0
Class = ClassRow (List ℕ) (List ClassPort) (List ClassParameter) (List Director)

-- a director, by the class of its property
abbrev pub DirectorClass : Type 0
DirectorClass = DirectorRow (List ℕ) (List ClassParameter)

-- ---- the tables

-- the classes of library actors
unfoldable pub classes : List Class
classes = map (λ c. record { name = c.name.now; ports = map (λ p. record { name = p.name.now; direction = p.direction; arity = p.arity }) c.ports.now; declares = c.declares; is_declaring = c.is_declaring; least_channels = c.least_channels; parameters = map (λ p. record { name = p.name.now; need = p.need; is_raw = p.is_raw }) c.parameters.now; directors = c.directors.now }) CLASSES

-- the directors
unfoldable pub directors : List DirectorClass
directors = map (λ c. record { name = c.name.now; director = c.director; parameters = map (λ p. record { name = p.name.now; need = p.need; is_raw = p.is_raw }) c.parameters.now }) DIRECTORS

abbrev pub class_in : List Class → List ℕ → Option Class
class_in [] name = None
class_in (c ∷ cs) name = if bytes_eq c.name name then Some c else class_in cs name

-- the class of library actors that has this name
unfoldable pub class_row : List ℕ → Option Class
class_row name = class_in classes name

abbrev pub director_in : List DirectorClass → List ℕ → Option DirectorClass
director_in [] name = None
director_in (c ∷ cs) name = if bytes_eq c.name name then Some c else director_in cs name

-- the director whose properties have this class
unfoldable pub director_row : List ℕ → Option DirectorClass
director_row name = director_in directors name

-- ---- what an entity is

pub data Kind : Type 0 where
  Composite : Kind
  Modal : Kind
  Actor : Class → Kind

-- what an entity of this class is
unfoldable pub kind_of : List ℕ → Option Kind
kind_of class = if bytes_eq class (codes "Composite") then Some Composite else (if bytes_eq class (codes "Modal") then Some Modal else option_map Actor (class_row class))

-- ---- rows as the program holds them, behind references

abbrev Name : Type 0
Name = Bor (List ℕ)

abbrev pub parameter_of : ParameterRow Name → ClassParameter
parameter_of p = record { name = p.name.now; need = p.need; is_raw = p.is_raw }

abbrev pub port_of : PortRow Name → ClassPort
port_of p = record { name = p.name.now; direction = p.direction; arity = p.arity }

abbrev pub class_of : ClassRow Name (Bor (List (PortRow Name))) (Bor (List (ParameterRow Name))) (Bor (List Director)) → Class
class_of c = record { name = c.name.now; ports = map port_of c.ports.now; declares = c.declares; is_declaring = c.is_declaring; least_channels = c.least_channels; parameters = map parameter_of c.parameters.now; directors = c.directors.now }

abbrev pub director_of : DirectorRow Name (Bor (List (ParameterRow Name))) → DirectorClass
director_of c = record { name = c.name.now; director = c.director; parameters = map parameter_of c.parameters.now }

abbrev pub kind_view : Given → Kind
kind_view given.Composite = Composite
kind_view given.Modal = Modal
kind_view (given.Actor c) = Actor (class_of c.now)
