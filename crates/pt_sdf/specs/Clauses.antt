-- When a core may be asked, and what its answers say.
use Rattle.std.specs.Prelude.{◌≡◌, ◌<◌, length, Some, None}
use Rattle.pt_value.specs.declared.token.Token.{Token}
use Rattle.pt_firing.specs.declared.ask.Ask.{Ask}
use Rattle.pt_firing.specs.declared.ask.Ask.TheVariants as ask
use Rattle.pt_firing.specs.declared.fault.RunFault.TheVariants.{Rate}
use Rattle.pt_sdf.specs.State.{SdfState, Stage, Idle, Open, Asked, Handed, Wrong, Closed, Allows, IsEnough, in_stage, asked}

abbrev pub State : Type 0
State = SdfState Token

-- a firing was begun and isn't finished, and each child asked for was told
abbrev pub MayAsk : {T : Type 0} → Stage T → Type 0
MayAsk Idle = ⊥
MayAsk Open = Unit {0}
MayAsk (Asked child inputs) = ⊥
MayAsk (Handed child inputs) = ⊥
MayAsk (Wrong child) = Unit {0}
MayAsk Closed = ⊥

-- the answer in a state, and the state after it: a firing that the definition allows, the end where each child fired enough, or the child that gave another number of tokens than its rates
abbrev pub IsAsked : State → Ask → State → Type 0
IsAsked s (ask.Fire child tag) t = (s.stage ≡ Open) × (child < length s.plan.net.places) × Allows s child × (tag ≡ s.tag) × (t ≡ asked child s)
IsAsked s ask.Finished t = (s.stage ≡ Open) × IsEnough s × (t ≡ in_stage Closed s)
IsAsked s (ask.Faulted kind (Some child)) t = (kind ≡ Rate) × (s.stage ≡ Wrong child) × (t ≡ s)
IsAsked s (ask.Faulted kind None) t = ⊥
IsAsked s (ask.Early child tag) t = ⊥
IsAsked s (ask.Reset child) t = ⊥
IsAsked s (ask.Get child) t = ⊥
IsAsked s (ask.Put child) t = ⊥
IsAsked s ask.Grow t = ⊥
IsAsked s (ask.Meet meeting) t = ⊥
IsAsked s ask.Await t = ⊥
IsAsked s ask.Full t = ⊥
