-- A meeting that a core tells, among the definitions.
use Rattle.pt_meaning.specs.Log as log
use Rattle.pt_firing.specs.declared.ask.Meeting.{Meeting}
use Rattle.pt_firing.specs.declared.ask.Meeting.TheVariants.{Channel, Barrier}

abbrev pub meeting_of : Meeting → log.Meeting
meeting_of (Channel channel) = log.Channel channel
meeting_of (Barrier child) = log.Barrier child
