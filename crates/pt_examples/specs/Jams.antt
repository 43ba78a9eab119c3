-- An example of a jam, with initial capacity 1 and greatest capacity 2 of each channel.
use Rattle.std.specs.Prelude.{ℕ, List, [], ◌∷◌, pos}
use Rattle.pt_meaning.specs.Log.{Path}
use Rattle.pt_meaning.specs.Net.{Output, Net}
use Rattle.pt_meaning.specs.Tree.{Node, actor}
use Rattle.pt_meaning.specs.Step.{no_meetings}
use Rattle.pt_meaning.specs.Job.{meaning}
use Rattle.pt_meaning.specs.Schedule.{once_top}
use Rattle.pt_meaning.specs.Asked.{IsJamOf}
use Rattle.pt_examples.specs.Models.{pn}
use Rattle.pt_examples.specs.Small.{Token, Act, Add, Scale, rows, ramp}

-- A Ramp into the first input of an adder, and a Scale on itself, without a token, into the second. The Ramp fires four times.
-- The adder gathers 0 and waits for the Scale, which waits for itself. The channel holds 1 and 2 and is full, and the Ramp waits to put 3.
abbrev pub children : List (Node Token Act)
children = actor ramp ∷ actor (Add 2) ∷ actor (Scale (pos 1)) ∷ []

abbrev pub channels : Net
channels = record { sources = Output 0 0 ∷ Output 2 0 ∷ Output 2 0 ∷ []; places = 0 ∷ 2 ∷ 1 ∷ [] }

abbrev pub jamming : Node Token Act
jamming = pn channels.sources channels.places [] children

abbrev pub two : Path → ℕ
two p = 2

-- In the run of which these firings are finished, the top gets into a jam in which the one full channel is the first, with two tokens.
abbrev pub JamExample : Type 0
JamExample = IsJamOf rows no_meetings (once_top []) jamming two (meaning 4 rows no_meetings (once_top []) jamming) [] ((0, 2) ∷ [])
