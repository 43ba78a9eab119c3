-- What a firing of a node comes to whose outputs nobody takes: there are some where it is done.
use Rattle.std.specs.Prelude.{◌≡◌, ℕ, List}
use Rattle.pt_meaning.specs.Basics.{Tag, Streams}
use Rattle.pt_value.specs.declared.token.Token.{Token}
use Rattle.pt_firing.specs.declared.answer.Answer.TheVariants as answer
use Rattle.pt_core.specs.Acts.{Calls}
use Rattle.pt_directors.specs.Directors.{Director}
use Rattle.pt_node.specs.Acts.{acts}
use Rattle.pt_node.specs.Shown.{Shown, AllShown}
use Rattle.pt_node.specs.Live.{HasFired}
use Rattle.pt_turns.specs.declared.within.Within.{Within}
use Rattle.pt_turns.specs.declared.within.Within.TheVariants as within
use Rattle.pt_alone.specs.declared.alone.Fired.{Fired}
use Rattle.pt_alone.specs.declared.alone.Fired.TheVariants as fired
use Rattle.pt_alone.specs.declared.alone.Untaken.{Untaken}
use Rattle.pt_alone.specs.declared.alone.Untaken.TheVariants.{Done, Fault, Spent, Full, Memory}
use Rattle.pt_turns.specs.Within.{WithinTo, AnswersTo}
use Rattle.pt_turns.specs.Composite.{EndsAs}
use Rattle.pt_turns.specs.OwnMeetings.{OwnMeetings}

-- how a firing went, without its outputs
abbrev pub untaken_of : Within → Untaken
untaken_of (within.Done out) = Done
untaken_of (within.Fault place) = Fault place
untaken_of within.Spent = Spent
untaken_of (within.Full blocked) = Full blocked
untaken_of within.Memory = Memory

-- what a call answers
abbrev pub FiredTo : Shown → Tag → Streams Token → (allowance : ℕ) → Fired → Shown → Type 0
FiredTo old tag X allowance fired.Done new = (out : Streams Token) × AnswersTo old tag X allowance (answer.Done out) new
FiredTo old tag X allowance (fired.Fault place) new = AnswersTo old tag X allowance (answer.Fault place) new
FiredTo old tag X allowance (fired.Spent count) new = AnswersTo old tag X allowance (answer.Spent count) new
FiredTo old tag X allowance (fired.Full blocked) new = AnswersTo old tag X allowance (answer.Full blocked) new
FiredTo old tag X allowance fired.Memory new = AnswersTo old tag X allowance answer.Memory new

-- what a firing of a node comes to that isn't recorded yet
abbrev pub UntakenTo : Shown → Tag → Streams Token → Untaken → Shown → Type 0
UntakenTo old tag X Done new = (out : Streams Token) × WithinTo old tag X (within.Done out) new
UntakenTo old tag X (Fault place) new = WithinTo old tag X (within.Fault place) new
UntakenTo old tag X Spent new = WithinTo old tag X within.Spent new
UntakenTo old tag X (Full blocked) new = WithinTo old tag X (within.Full blocked) new
UntakenTo old tag X Memory new = WithinTo old tag X within.Memory new

-- the allowance is spent where that is told
abbrev pub UntakenSpends : Untaken → ℕ → Type 0
UntakenSpends Done left = Unit {0}
UntakenSpends (Fault place) left = Unit {0}
UntakenSpends Spent left = left ≡ 0
UntakenSpends (Full blocked) left = Unit {0}
UntakenSpends Memory left = Unit {0}

-- after a firing that is done the node fits, once that is recorded
abbrev pub UntakenFits : Untaken → Shown → Type 0
UntakenFits Done new = HasFired new
UntakenFits (Fault place) new = Unit {0}
UntakenFits Spent new = Unit {0}
UntakenFits (Full blocked) new = Unit {0}
UntakenFits Memory new = Unit {0}

-- what a firing of a composite comes to
abbrev pub EndsUntaken : (path : List ℕ) (labels : List (List ℕ)) (own : OwnMeetings) (before : Director) (olds : AllShown) (tag : Tag) (X : Streams Token) (allowance : ℕ) → Untaken → Director → AllShown → (left : ℕ) → Type 0
EndsUntaken path labels own before olds tag X allowance Done s now left = (out : Streams Token) × EndsAs acts path labels own before olds tag X allowance (within.Done out) s now left
EndsUntaken path labels own before olds tag X allowance (Fault place) s now left = EndsAs acts path labels own before olds tag X allowance (within.Fault place) s now left
EndsUntaken path labels own before olds tag X allowance Spent s now left = EndsAs acts path labels own before olds tag X allowance within.Spent s now left
EndsUntaken path labels own before olds tag X allowance (Full blocked) s now left = EndsAs acts path labels own before olds tag X allowance (within.Full blocked) s now left
EndsUntaken path labels own before olds tag X allowance Memory s now left = EndsAs acts path labels own before olds tag X allowance within.Memory s now left

-- the own outputs were let go of, or there was no memory for them, and the director is as before
abbrev pub CloseTo : {D : Type 0} → Calls D → D → Untaken → D → Type 0
CloseTo c s Done s' = s' ≡ c.closed s
CloseTo c s (Fault place) s' = ⊥
CloseTo c s Spent s' = ⊥
CloseTo c s (Full blocked) s' = ⊥
CloseTo c s Memory s' = s' ≡ s
