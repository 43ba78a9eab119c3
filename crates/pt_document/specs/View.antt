-- The document that a value of the program stands for.
use Rattle.std.specs.Prelude.{List, map}
use Rattle.pt_document.specs.Document.{PropertyTree, property, to_properties, PortTree, TransitionTree, Parts, EntityTree, entity, to_entities, SupplyTree, tokens, events, InputTree, JobTree}
use Rattle.pt_document.specs.declared.job.Property.{Property, fold-Property}
use Rattle.pt_document.specs.declared.job.Property.TheOpen.{Property-F}
use Rattle.pt_document.specs.declared.job.Port.{Port}
use Rattle.pt_document.specs.declared.job.Transition.{Transition}
use Rattle.pt_document.specs.declared.job.Entity.{Entity, fold-Entity}
use Rattle.pt_document.specs.declared.job.Entity.TheOpen.{Entity-F}
use Rattle.pt_document.specs.declared.job.Supply.{Supply}
use Rattle.pt_document.specs.declared.job.Supply.TheVariants.{Tokens, Events}
use Rattle.pt_document.specs.declared.job.Input.{Input}
use Rattle.pt_document.specs.declared.job.Job.{Job}

abbrev pub property_step : Property-F PropertyTree → PropertyTree
property_step p = property p.name p.value p.class (to_properties p.properties.items)

abbrev pub property_view : Property → PropertyTree
property_view = fold-Property PropertyTree property_step

abbrev pub properties_view : List Property → List PropertyTree
properties_view ps = map property_view ps

abbrev pub port_view : Port → PortTree
port_view p = record { name = p.name; direction = p.direction; declared = p.declared; properties = properties_view p.properties.items }

abbrev pub transition_view : Transition → TransitionTree
transition_view t = record { from = t.from; to = t.to; guard = t.guard; preemptive = t.preemptive; history = t.history; output = t.output.items; set = t.set.items }

abbrev pub parts_step : Entity-F EntityTree → Parts
parts_step e =
    record { name = e.name; class = e.class; properties = properties_view e.properties.items; ports = map port_view e.ports.items; relations = e.relations.items; links = e.links.items; states = e.states.items; initial = e.initial; transitions = map transition_view e.transitions.items }

abbrev pub entity_step : Entity-F EntityTree → EntityTree
entity_step e = entity (parts_step e) (to_entities e.entities.items)

abbrev pub entity_view : Entity → EntityTree
entity_view = fold-Entity EntityTree entity_step

abbrev pub entities_view : List Entity → List EntityTree
entities_view es = map entity_view es

abbrev pub supply_view : Supply → SupplyTree
supply_view (Tokens ts) = tokens ts.items
supply_view (Events es) = events es.items

abbrev pub input_view : Input → InputTree
input_view i = record { port = i.port; supply = supply_view i.supply }

abbrev pub job_view : Job → JobTree
job_view j = record { model = entity_view j.model; inputs = map input_view j.inputs.items; records = j.records.items }
