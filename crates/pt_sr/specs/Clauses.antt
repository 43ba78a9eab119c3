-- When a core may be asked, and what its answers say.
use Rattle.std.specs.Prelude.{◌≡◌, ◌<◌, length, Some, None}
use Rattle.pt_value.specs.declared.token.Token.{Token}
use Rattle.pt_firing.specs.declared.ask.Ask.{Ask}
use Rattle.pt_firing.specs.declared.ask.Ask.TheVariants as ask
use Rattle.pt_firing.specs.declared.fault.RunFault.TheVariants.{SecondToken, Causality}
use Rattle.pt_sr.specs.declared.sr.Stage as declared
use Rattle.pt_sr.specs.declared.sr.Stage.TheVariants as code
use Rattle.pt_sr.specs.declared.sr.Core.TheInside.{Inside}
use Rattle.pt_sr.specs.State.{SrState, TickState, Stage, Idle, Open, Asked, Listens, Wrong, Closed, MayFire, MayAnswer, in_stage, asked, listening, restarted_tick}
use Rattle.pt_sr.specs.Tick.{Comes}
use Rattle.pt_sr.specs.declared.tick.Next.TheVariants as next

abbrev pub State : Type 0
State = SrState Token

-- a firing was begun and isn't finished, and each child asked for was told or heard
abbrev pub MayAsk : Stage → Type 0
MayAsk Idle = ⊥
MayAsk Open = Unit {0}
MayAsk (Asked child) = ⊥
MayAsk (Listens child) = ⊥
MayAsk (Wrong child) = Unit {0}
MayAsk Closed = ⊥

-- The answer in a state, and the state after it: a child whose inputs are known, a child that may give an early answer, the end where each child has fired,
-- the fault of a child that gave two tokens on one port, or that of the composite, where nothing more can be learnt and some child hasn't fired.
abbrev pub IsAsked : State → Ask → State → Type 0
IsAsked s (ask.Fire child tag) t = (s.stage ≡ Open) × MayFire s.tick child × (tag ≡ s.tag) × (t ≡ asked child s)
IsAsked s (ask.Early child tag) t = (s.stage ≡ Open) × MayAnswer s.tick child × (tag ≡ s.tag) × (t ≡ listening child s)
IsAsked s ask.Finished t = (s.stage ≡ Open) × Comes s.tick next.Finished × (t ≡ in_stage Closed s)
IsAsked s (ask.Faulted kind (Some child)) t = (kind ≡ SecondToken) × (s.stage ≡ Wrong child) × (t ≡ s)
IsAsked s (ask.Faulted kind None) t = (kind ≡ Causality) × (s.stage ≡ Open) × Comes s.tick next.Stuck × (t ≡ s)
IsAsked s (ask.Reset child) t = ⊥
IsAsked s (ask.Get child) t = ⊥
IsAsked s (ask.Put child) t = ⊥
IsAsked s ask.Grow t = ⊥
IsAsked s (ask.Meet meeting) t = ⊥
IsAsked s ask.Await t = ⊥
IsAsked s ask.Full t = ⊥

-- the stage of the code
abbrev pub stage_of : declared.Stage → Stage
stage_of code.Idle = Idle
stage_of code.Open = Open
stage_of (code.Asked child) = Asked child
stage_of (code.Listens child) = Listens child
stage_of (code.Wrong child) = Wrong child
stage_of code.Closed = Closed

-- a child that is named is there, and nothing is known where no firing is under way
abbrev pub StageFits : declared.Stage → TickState Token → Type 0
StageFits code.Idle s = s ≡ restarted_tick s
StageFits code.Open s = Unit {0}
StageFits (code.Asked child) s = child < length s.plan.net.places
StageFits (code.Listens child) s = child < length s.plan.net.places
StageFits (code.Wrong child) s = child < length s.plan.net.places
StageFits code.Closed s = Unit {0}

abbrev pub seen_core : Inside → State
seen_core c = record { tick = c.tick; tag = c.tag; stage = stage_of c.stage }
