-- What a DE top is asked next, among the definitions.
use Rattle.std.specs.Prelude.{List}
use Rattle.pt_meaning.specs.Job as job
use Rattle.pt_meaning.specs.Schedule as schedule
use Rattle.pt_meaning.specs.Schedule.{events_at}
use Rattle.pt_value.specs.declared.token.Token.{Token}
use Rattle.pt_agenda.specs.declared.due.Due.{Due}
use Rattle.pt_agenda.specs.declared.due.Due.TheVariants.{Never, At, Past}
use Rattle.pt_agenda.specs.declared.turn.Turn.{Turn}
use Rattle.pt_agenda.specs.declared.turn.Turn.TheVariants.{Fire, Stop, Idle, Limit}
use Rattle.pt_agenda.specs.Events.{Event}

-- when a top is due
abbrev pub due_of : Due → schedule.Due
due_of Never = schedule.Never
due_of (At tag) = schedule.At tag
due_of Past = schedule.Past

-- a firing takes the tokens of the inputs at its tag
abbrev pub turn_of : List (List Event) → Turn → job.Turn Token
turn_of inputs (Fire tag) = job.Fire tag (events_at tag inputs)
turn_of inputs Stop = job.Ends job.Stop
turn_of inputs Idle = job.Ends job.Idle
turn_of inputs Limit = job.Limit
