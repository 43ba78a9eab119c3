-- Lines of meetings, worked by hand: those of one composite in each of its firings, and what some of them tell.
use Rattle.std.specs.Prelude.{◌≡◌, ℕ, List, [], ◌∷◌, Some, codes, slice_get}
use Rattle.pt_meaning.specs.Log.{Channel, Barrier}
use Rattle.pt_records.specs.Kept.{Made}
use Rattle.pt_records.specs.Made.{made_in}
use Rattle.pt_net.specs.declared.net.Channel as net
use Rattle.pt_net.specs.declared.net.Net.{Net}
use Rattle.pt_net.specs.declared.net.NetEntity.{NetEntity}
use Rattle.pt_net.specs.Inside.{children_of}
use Rattle.pt_trace.specs.declared.meetings.ChildPlace.{ChildPlace}
use Rattle.pt_trace.specs.declared.meetings.Met.{Met}
use Rattle.pt_trace.specs.declared.meetings.Met.TheVariants as met
use Rattle.pt_trace.specs.declared.meetings.MeetingLine.{MeetingLine}
use Rattle.pt_meeting_lines.specs.Tells.{IsPortOf, IsChannelIn, Tells, TellsAt}
use Rattle.pt_meeting_lines.specs.Lines.{met_in}

abbrev pub at_place : ℕ → Met
at_place channel = met.Meet (record { child = codes "m"; port = codes "input"; channel = channel })

-- two meetings of firing 0 with one of firing 1 between them, and their lines
abbrev pub lines : List MeetingLine
lines = record { firing = 0; what = at_place 1 } ∷ record { firing = 1; what = met.Barrier (codes "b") } ∷ record { firing = 0; what = met.Out (codes "o") } ∷ []

abbrev pub made : Made
made = (0, Channel 5) ∷ (1, Barrier 1) ∷ (0, Channel 6) ∷ []

-- A composite at C. Its channel 5 ends at the channel of number 1 of the port `input` of its child at C.m, its channel 6 at its own output `o`, and its child of number 1 is at C.b.
pub record IsExample (n : Net) (round child barrier : NetEntity) (x y : net.Channel) : Type 0 where
  pub composite : slice_get n.entities.items 2 ≡ Some round
  pub composite_path : round.path ≡ codes "C"
  pub child_there : slice_get n.entities.items 4 ≡ Some child
  pub child_path : child.path ≡ codes "C.m"
  pub port : IsPortOf child 0 (codes "input")
  pub channel : IsChannelIn n 2 5 x
  pub entity : x.to.entity ≡ 4
  pub of_port : x.to.port ≡ 0
  pub index : x.to.index ≡ 1
  pub output : IsPortOf round 1 (codes "o")
  pub to_output : IsChannelIn n 2 6 y
  pub own : y.to.entity ≡ 2
  pub own_port : y.to.port ≡ 1
  pub barrier_there : slice_get n.entities.items 5 ≡ Some barrier
  pub barrier_path : barrier.path ≡ codes "C.b"
  pub second_child : slice_get (children_of n.entities.items 2) 1 ≡ Some 5

pub record TellExample (n : Net) (round : NetEntity) : Type 0 where
  pub place : TellsAt n (Some (codes "C")) (at_place 1) (Channel 5)
  -- and no other channel of the port
  pub no_other : Tells n 2 round (at_place 0) (Channel 5) → ⊥
  pub output : TellsAt n (Some (codes "C")) (met.Out (codes "o")) (Channel 6)
  -- and not as a place
  pub no_place : (place : ChildPlace) → Tells n 2 round (met.Meet place) (Channel 6) → ⊥
  pub barrier : TellsAt n (Some (codes "C")) (met.Barrier (codes "b")) (Barrier 1)

pub record LineExamples : Type 0 where
  pub first : met_in 0 lines ≡ at_place 1 ∷ met.Out (codes "o") ∷ []
  pub first_made : made_in 0 made ≡ Channel 5 ∷ Channel 6 ∷ []
  pub second : met_in 1 lines ≡ met.Barrier (codes "b") ∷ []
  pub second_made : made_in 1 made ≡ Barrier 1 ∷ []
  pub tells : (n : Net) (round child barrier : NetEntity) (x y : net.Channel) → IsExample n round child barrier x y → TellExample n round
