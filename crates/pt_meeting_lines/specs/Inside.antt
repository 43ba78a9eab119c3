-- The inside of a composite of a net.
use Rattle.std.specs.Prelude.{◌≡◌, Some, slice_get}
use Rattle.pt_meaning.specs.Log.{Meeting}
use Rattle.pt_net.specs.Inside.{children_of, channels_in}
use Rattle.pt_trace.specs.declared.meetings.Met.{Met}
use Rattle.pt_meeting_lines.specs.declared.inside.Inside.{Inside}
use Rattle.pt_meeting_lines.specs.Tells.{Tells}

-- what is held is that of the entity of this number
pub record IsInsideOf (inside : Inside) : Type 0 where
  pub composite : slice_get inside.net.now.entities.items inside.number ≡ Some inside.composite.now
  pub children : inside.children.now ≡ children_of inside.net.now.entities.items inside.number
  pub channels : inside.channels.now ≡ channels_in inside.net.now.channels.items inside.number

-- There is a line that tells the meeting. It is on a channel that ends at a port that is there, of the composite or of a child below it, or it is of a child.
abbrev pub CanBeTold : Inside → Meeting → Type 0
CanBeTold inside m = (what : Met) × Tells inside.net.now inside.number inside.composite.now what m
