-- What the stages stand for by which an entity and a job are read.
use Rattle.std.specs.Prelude.{map}
use Rattle.pt_document.specs.Document.{Effect, Parts, Wiring, Machine, Surroundings}
use Rattle.pt_moml.specs.declared.entity.Own.{Own}
use Rattle.pt_moml.specs.declared.entity.Wiring.{Wiring as Wired}
use Rattle.pt_moml.specs.declared.entity.Machine.{Machine as Run}
use Rattle.pt_moml.specs.declared.parts.Effect.{Effect as Done}
use Rattle.pt_moml.specs.declared.document.Surroundings.{Surroundings as Around}
use Rattle.pt_document.specs.View.{properties_view, port_view, transition_view, input_view}

abbrev pub wiring_view : Wired → Wiring
wiring_view w = record { ports = map port_view w.ports.items; relations = w.relations.items; links = w.links.items }

abbrev pub machine_view : Run → Machine
machine_view m = record { states = m.states.items; initial = m.initial; transitions = map transition_view m.transitions.items }

-- what an entity has beside its entities
abbrev pub own_view : Own → Parts
own_view o =
    record { name = o.name; class = o.class; properties = properties_view o.properties.items; ports = map port_view o.wiring.ports.items; relations = o.wiring.relations.items; links = o.wiring.links.items; states = o.machine.states.items; initial = o.machine.initial; transitions = map transition_view o.machine.transitions.items }

abbrev pub effect_view : Done → Effect
effect_view e = record { preemptive = e.preemptive; history = e.history; output = e.output.items; set = e.set.items }

abbrev pub surroundings_view : Around → Surroundings
surroundings_view a = record { inputs = map input_view a.inputs.items; records = a.records.items }
