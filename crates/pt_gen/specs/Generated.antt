-- The generated job of a number n: a process network in which a ramp gives 100 integers, n stages in a chain scale
-- them, and a sink takes them. Each tenth stage is an SDF composite around its scale.
use Rattle.std.specs.Prelude.{ℕ, ◌+◌, ◌%◌, ◌==◌, List, [], ◌∷◌, ◌++◌, Some, None, map, codes, decimal, flat_map, if◌then◌else◌}
use Rattle.std.specs.List.{range_with_len}
use Rattle.pt_document.specs.declared.job.Direction.{Direction}
use Rattle.pt_document.specs.declared.job.Direction.TheVariants.{Input, Output}
use Rattle.pt_document.specs.declared.job.Relation.{Relation}
use Rattle.pt_document.specs.declared.job.Link.{Link}
use Rattle.pt_document.specs.declared.job.Link.TheVariants.{Port}
use Rattle.pt_document.specs.Document.{PropertyTree, property, no_properties, PortTree, EntityTree, entity, no_entities, to_entities, JobTree}

-- a text with a number behind it, as `s12`
abbrev pub numbered : List ℕ → ℕ → List ℕ
numbered text i = text ++ decimal i

-- the port of an entity, as a link names it
abbrev pub port_of : (entity port : List ℕ) → List ℕ
port_of name port = name ++ codes "." ++ port

-- ---- parts of entities

-- a parameter with the text of its value
abbrev pub parameter : (name value : List ℕ) → PropertyTree
parameter name value = property name (Some value) None no_properties

-- the property that is a director of this class, without parameters
abbrev pub director : List ℕ → PropertyTree
director class = property (codes "director") None (Some class) no_properties

-- a port without a declared type
abbrev pub port : List ℕ → Direction → PortTree
port name direction = record { name = name; direction = direction; declared = None; properties = [] }

-- a library actor with its parameters
abbrev pub actor : (name class : List ℕ) → List PropertyTree → EntityTree
actor name class parameters =
    entity (record { name = name; class = class; properties = parameters; ports = []; relations = []; links = []; states = []; initial = None; transitions = [] }) no_entities

-- a composite: its name, properties and ports, and what is in it
abbrev pub composite : List ℕ → List PropertyTree → List PortTree → List EntityTree → List Relation → List Link → EntityTree
composite name properties ports entities relations links =
    entity (record { name = name; class = codes "Composite"; properties = properties; ports = ports; relations = relations; links = links; states = []; initial = None; transitions = [] }) (to_entities entities)

-- the composite with this in it
abbrev pub filled : EntityTree → List EntityTree → List Relation → List Link → EntityTree
filled (entity own inner) entities relations links = entity (record own { relations = relations; links = links }) (to_entities entities)

-- ---- the actors

-- gives 0 to 99
abbrev pub source : EntityTree
source = actor (codes "src") (codes "Ramp") (parameter (codes "firingCountLimit") (codes "100") ∷ [])

-- takes what comes
abbrev pub sink : EntityTree
sink = actor (codes "sink") (codes "Discard") []

-- the factor of stage i
abbrev pub factor : ℕ → List ℕ
factor i = if i % 3 == 0 then codes "-1" else codes "1"

-- the scale of stage i, under this name
abbrev pub scale : List ℕ → ℕ → EntityTree
scale name i = actor name (codes "Scale") (parameter (codes "factor") (factor i) ∷ [])

-- ---- the stages

abbrev pub stage_name : ℕ → List ℕ
stage_name i = numbered (codes "s") i

abbrev pub stage_ports : List PortTree
stage_ports = port (codes "input") Input ∷ port (codes "output") Output ∷ []

-- the relations in a composite stage, and its links: from its input to the scale, and from the scale to its output
abbrev pub stage_relations : List Relation
stage_relations = record { name = codes "a" } ∷ record { name = codes "b" } ∷ []

abbrev pub stage_links : List Link
stage_links = Port (codes "input") (codes "a") ∷ Port (codes "k.input") (codes "a") ∷ Port (codes "k.output") (codes "b") ∷ Port (codes "output") (codes "b") ∷ []

-- a stage that is an SDF composite around its scale
abbrev pub composite_stage : ℕ → EntityTree
composite_stage i = composite (stage_name i) (director (codes "SDF") ∷ []) stage_ports (scale (codes "k") i ∷ []) stage_relations stage_links

-- stage i: each tenth one is a composite
abbrev pub stage : ℕ → EntityTree
stage i = if i % 10 == 0 then composite_stage i else scale (stage_name i) i

-- stages 1 to n
abbrev pub stages : ℕ → List EntityTree
stages n = map stage (range_with_len 1 n)

-- ---- the chain

abbrev pub relation_name : ℕ → List ℕ
relation_name i = numbered (codes "r") i

-- relation i begins at the output of the source or of stage i
abbrev pub begin : ℕ → List ℕ
begin i = if i == 0 then codes "src.output" else port_of (stage_name i) (codes "output")

-- and ends at the input of the next stage, or of the sink behind the last of n
abbrev pub end : ℕ → ℕ → List ℕ
end n i = if i == n then codes "sink.input" else port_of (stage_name (i + 1)) (codes "input")

-- relations 0 to n
abbrev pub relations : ℕ → List Relation
relations n = map (λ i. record { name = relation_name i }) (range_with_len 0 (n + 1))

-- the two links of relation i
abbrev pub joint : ℕ → ℕ → List Link
joint n i = Port (begin i) (relation_name i) ∷ Port (end n i) (relation_name i) ∷ []

-- for each relation in order the link of its source comes first
abbrev pub links : ℕ → List Link
links n = flat_map (joint n) (range_with_len 0 (n + 1))

-- ---- the job

abbrev pub top : ℕ → EntityTree
top n = composite (codes "gen") (director (codes "PN") ∷ []) [] (source ∷ (stages n ++ sink ∷ [])) (relations n) (links n)

-- the output of the last stage is recorded
abbrev pub generated : ℕ → JobTree
generated n = record { model = top n; inputs = []; records = port_of (stage_name n) (codes "output") ∷ [] }
