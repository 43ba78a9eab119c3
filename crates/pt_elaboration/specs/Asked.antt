-- What the job of a document asks of its top, besides the tokens that it supplies: how long it lasts, and at which tags tokens come.
use Rattle.std.specs.Prelude.{◌≡◌, Some, map}
use Rattle.pt_scopes.specs.declared.values.Values.{Values}
use Rattle.pt_scopes.specs.Scopes.{NetTree}
use Rattle.pt_agenda.specs.Events.{tags_in, events_of}
use Rattle.pt_job.specs.Inputs.{tags_to}
use Rattle.pt_job.specs.Iterations.{iterations, stop_time}
use Rattle.pt_trees.specs.declared.top.Top.{Top}
use Rattle.pt_trees.specs.declared.top.Top.TheVariants.{Sdf, Sr, De, Once}

-- The job lasts as long as the document states: so many iterations or ticks, or until its stop time, if it has one. A top that fires once states nothing of it.
abbrev pub Lasts : NetTree → Values → Top → Type 0
Lasts net values (Sdf j) = iterations net values ≡ Some j.iterations
Lasts net values (Sr j) = iterations net values ≡ Some j.iterations
Lasts net values (De j) = stop_time net values ≡ j.stop
Lasts net values (Once j) = Unit {0}

-- tokens come to a DE top at the tags that the document states
abbrev pub HasTags : NetTree → Top → Type 0
HasTags net (Sdf j) = Unit {0}
HasTags net (Sr j) = Unit {0}
HasTags net (De j) = map tags_in (events_of j.inputs.items) ≡ tags_to net
HasTags net (Once j) = Unit {0}
