-- What contracts see of the code of a core, and what its parts keep.
use Rattle.std.specs.Prelude.{◌≡◌, ℕ, ◌<◌, ◌≤◌, length, get_or, true, false, nat_eq, Option, Some, None}
use Rattle.pt_meaning.specs.Log.{Meeting, Channel}
use Rattle.pt_meaning.specs.Process.{Fires}
use Rattle.pt_value.specs.declared.token.Token.{Token}
use Rattle.pt_firing.specs.declared.ask.Ask.{Ask}
use Rattle.pt_rv_laws.specs.State.{RvState, Processes, Stage, Idle, Open, Asked, Closed, AllRest}
use Rattle.pt_rv_laws.specs.RvActs.{Gives, asking}
use Rattle.pt_rv_work.specs.Core.{nobody, next_of, state_with}
use Rattle.pt_rv_work.specs.Seen.{IsIllegal}
use Rattle.pt_rv_plan.specs.Plan.{AreSound}
use Rattle.pt_rv_parts.specs.Team.{NoneHanded}
use Rattle.pt_rv.specs.declared.rv.Stage as declared
use Rattle.pt_rv.specs.declared.rv.Stage.TheVariants as code
use Rattle.pt_rv.specs.declared.rv.Core.TheInside.{Inside}
use Rattle.pt_rv.specs.declared.parties.Parties.{Parties}
use Rattle.pt_rv.specs.Parties.{FitIn, AllLevel, moving_in, waiting, each}

-- the stage of the code
abbrev pub stage_of : declared.Stage → Stage
stage_of code.Idle = Idle
stage_of code.Open = Open
stage_of (code.Asked process) = Asked process
stage_of code.Closed = Closed

abbrev pub seen_core : Inside → RvState Token
seen_core c = state_with c.plan (moving_in c.parties) c.met.list c.tag (stage_of c.stage)

-- The parties fit the plan, each Barrier has as many tokens at each place, and for each put that waits there is room for a meeting.
pub record Kept (p : Processes) (w : Parties) (spare : ℕ) : Type 0 where
  pub sound : AreSound p
  pub fit : FitIn p w
  pub level : AllLevel w.team
  pub meets : waiting each (moving_in w) ≤ spare

-- this process, which fires next, and no other has handed over what it gathered
pub record IsAlone (process : ℕ) (w : Parties) : Type 0 where
  pub there : process < length w.team
  pub handed : (get_or w.team process nobody).handed ≡ true
  pub others : (i : ℕ) → nat_eq process i ≡ false → (get_or w.team i nobody).handed ≡ false
  pub fires : next_of (get_or w.team process nobody) ≡ Fires

abbrev pub StageFits : declared.Stage → Parties → Type 0
StageFits code.Idle w = NoneHanded w.team
StageFits code.Open w = NoneHanded w.team
StageFits (code.Asked process) w = IsAlone process w
StageFits code.Closed w = NoneHanded w.team

pub record IsSound (c : Inside) : Type 0 where
  pub kept : Kept c.plan c.parties c.met.spare
  pub stage : StageFits c.stage c.parties

-- the core may answer so, and then stands so
abbrev pub Comes : RvState Token → Ask → RvState Token → Type 0
Comes before answer after = Gives before answer × (after ≡ asking answer before)

-- the core may answer so and then stands so, or nothing has changed
abbrev pub MayCome : RvState Token → Option Ask → RvState Token → Type 0
MayCome before (Some answer) after = Comes before answer after
MayCome before None after = after ≡ before

-- what comes of a look at a meeting: it is made, or it isn't legal and nothing has changed
abbrev pub Looks : RvState Token → Meeting → Option Ask → RvState Token → Type 0
Looks before m (Some answer) after = Comes before answer after
Looks before m None after = IsIllegal before m × (after ≡ before)

-- a process is asked to fire, or none may and nothing has changed
abbrev pub FiresOrRests : RvState Token → Option Ask → RvState Token → Type 0
FiresOrRests before (Some answer) after = Comes before answer after
FiresOrRests before None after = AllRest before × (after ≡ before)

-- no meeting on a channel is legal
abbrev pub NoneOnChannels : RvState Token → Type 0
NoneOnChannels s = (c : ℕ) → c < length s.processes.plan.net.sources → IsIllegal s (Channel c)
