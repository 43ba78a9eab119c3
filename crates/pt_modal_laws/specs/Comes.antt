-- What comes next is open in no state to which the calls lead.
use Rattle.std.specs.Prelude.{◌≡◌, ℕ, List, [], ◌∷◌, Bool, Option}
use Rattle.pt_meaning.specs.Tag.{Tag}
use Rattle.pt_meaning.specs.Streams.{Streams}
use Rattle.pt_meaning.specs.Modal.{Test, Off, On, Bad, Acted, Acts, Fails, Chart}
use Rattle.pt_value.specs.declared.token.Token.{Token}
use Rattle.pt_firing.specs.declared.ask.Ask.{Ask}
use Rattle.pt_firing.specs.declared.fault.RunFault.{RunFault}
use Rattle.pt_firing.specs.RunFault.{code_of}
use Rattle.pt_modal_laws.specs.State.{after_reset, chart_in, begun, after_told}
use Rattle.pt_modal_laws.specs.ModalActs.{State, Gives}

-- the number of a fault of a run
abbrev pub IsCode : ℕ → Type 0
IsCode code = (kind : RunFault) × (code ≡ code_of kind)

-- a guard, or what the actions of a transition come to, fails by such a fault
abbrev pub IsCodedTest : Test → Type 0
IsCodedTest Off = Unit {0}
IsCodedTest On = Unit {0}
IsCodedTest (Bad code) = IsCode code

abbrev pub AreCodedTests : List Test → Type 0
AreCodedTests [] = Unit {0}
AreCodedTests (t ∷ ts) = IsCodedTest t × AreCodedTests ts

abbrev pub IsCodedActed : {T : Type 0} → Acted T → Type 0
IsCodedActed (Acts out values) = Unit {0}
IsCodedActed (Fails code) = IsCode code

-- the guards and the actions of a chart fail by faults of a run
pub record IsCoded {T : Type 0} (chart : Chart T) : Type 0 where
  pub preemptive : (mode : ℕ) (values : List T) (inputs : Streams T) → AreCodedTests (chart.preemptive mode values inputs)
  pub others : (mode : ℕ) (values : List T) (inputs given : Streams T) → AreCodedTests (chart.others mode values inputs given)
  pub act : (early : Bool) (mode n : ℕ) (values : List T) (inputs given : Streams T) → IsCodedActed (chart.act early mode n values inputs given)

-- there is an answer to what comes next
abbrev pub SomethingComes : {M : Type 0} → State M → Type 0
SomethingComes s = (answer : Ask) × Gives s answer

-- so it is once a reaction has begun, once a refinement was told, and once one is reset
pub record AlwaysComes {M : Type 0} (reads : M → Chart Token) : Type 0 where
  pub begun : (s : State M) → IsCoded (chart_in reads s) → (tag : Tag) (inputs : Streams Token) → SomethingComes (begun reads tag inputs s)
  pub told : (s : State M) → IsCoded (chart_in reads s) → (child : ℕ) (out : Streams Token) (wake : Option Tag) → SomethingComes (after_told reads child out wake s)
  pub reset : (s : State M) (child : ℕ) → SomethingComes (after_reset child s)
