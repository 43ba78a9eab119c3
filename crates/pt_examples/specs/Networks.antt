-- Examples of PN.
use Rattle.std.specs.Prelude.{◌≡◌, List, [], ◌∷◌, true, false, Some, pos, negsuc, length}
use Rattle.pt_meaning.specs.Net.{Own, Output}
use Rattle.pt_meaning.specs.Tree.{Node, actor}
use Rattle.pt_meaning.specs.Step.{no_meetings, Step}
use Rattle.pt_meaning.specs.Tag.{Tag, origin}
use Rattle.pt_meaning.specs.Streams.{joined}
use Rattle.pt_meaning.specs.Machine.{Outcome, Done, Stuck}
use Rattle.pt_meaning.specs.Transitions.{last_of}
use Rattle.pt_meaning.specs.Job.{Iterations, Inputs, Stop, Deadlock, meaning}
use Rattle.pt_meaning.specs.Headline.{count_in}
use Rattle.pt_meaning.specs.Schedule.{sdf_top, de_top, once_top}
use Rattle.pt_examples.specs.Small.{Token, Num, Truth, int, Computed, Faulty, Control, Act, Const, Ramp, Sequence, Add, Scale, Expression, Repeat, Discard, Select, rows, clock, ramp}
use Rattle.pt_examples.specs.Dataflow.{one_over}
use Rattle.pt_examples.specs.Jams.{jamming}
use Rattle.pt_examples.specs.Models.{Ending, moment, sdf, pn, de, run, EndedBy, StuckIn, told, place, at_origin, timed}

-- a loop of two Scales without a token: both wait
abbrev pub waiting_loop : Node Token Act
waiting_loop = pn (Output 1 0 ∷ Output 0 0 ∷ []) (1 ∷ 1 ∷ []) [] (actor (Scale (pos 1)) ∷ actor (Scale (pos 1)) ∷ [])

-- Four tokens of a Ramp, each three times, added to the four tokens: the fourth sum is 1 + 3, and eight of the twelve stay unread.
abbrev pub repeated_sum : Node Token Act
repeated_sum = pn (Output 0 0 ∷ Output 1 0 ∷ Output 0 0 ∷ []) (0 ∷ 1 ∷ 2 ∷ []) [] (actor (Ramp 0 (Some 4) (pos 0)) ∷ actor (Repeat 3) ∷ actor (Add 2) ∷ [])

-- an endless Ramp into a Discard
abbrev pub endless : Node Token Act
endless = pn (Output 0 0 ∷ []) (0 ∷ 1 ∷ []) [] (actor ramp ∷ actor (Discard 1) ∷ [])

-- two chains of a constant 0 and its inverse
abbrev pub inverse : List Token → Computed
inverse (Num x ∷ []) = one_over x
inverse xs = Faulty 30

abbrev pub two_inverses : Node Token Act
two_inverses =
    pn (Output 0 0 ∷ Output 2 0 ∷ []) (0 ∷ 1 ∷ 0 ∷ 1 ∷ []) []
    (actor (Const (int 0)) ∷ actor (Expression 1 inverse) ∷ actor (Const (int 0)) ∷ actor (Expression 1 inverse) ∷ [])

-- a BooleanSelect between the sources 1, 2 and 9, by the control true, false, true
abbrev pub selecting : Node Token Act
selecting =
    pn (Output 0 0 ∷ Output 1 0 ∷ Output 2 0 ∷ []) (0 ∷ 0 ∷ 0 ∷ 3 ∷ []) []
    (actor (Sequence (int 1 ∷ int 2 ∷ [])) ∷ actor (Sequence (int 9 ∷ [])) ∷ actor (Sequence (Truth true ∷ Truth false ∷ Truth true ∷ [])) ∷ actor (Select Control) ∷ [])

-- a network around a Scale by 3, in an iteration; below DE, and as the top
abbrev pub tripled : Node Token Act
tripled = pn (Own 0 ∷ Output 0 0 ∷ []) (1 ∷ []) (1 ∷ []) (actor (Scale (pos 3)) ∷ [])

abbrev pub tripled_in_sdf : Node Token Act
tripled_in_sdf = sdf (Own 0 ∷ Output 0 0 ∷ []) (1 ∷ []) (1 ∷ []) (1 ∷ []) (1 ∷ []) ((1 ∷ []) ∷ []) (tripled ∷ [])

abbrev pub tripled_below_de : Node Token Act
tripled_below_de = de (Output 0 0 ∷ []) (0 ∷ 1 ∷ []) 0 (actor (clock 3 ((0, int 1) ∷ (1, int 2) ∷ (2, int 3) ∷ [])) ∷ tripled_in_sdf ∷ [])

abbrev pub one_two_three : List (List Token)
one_two_three = (int 1 ∷ int 2 ∷ int 3 ∷ []) ∷ []

-- three tokens through two Scales by -1, and a Discard: each of the four makes three firings, and the top one
abbrev pub line : Node Token Act
line = pn (Output 0 0 ∷ Output 1 0 ∷ Output 2 0 ∷ []) (0 ∷ 1 ∷ 1 ∷ 1 ∷ []) [] (actor (Ramp 0 (Some 3) (pos 0)) ∷ actor (Scale (negsuc 0)) ∷ actor (Scale (negsuc 0)) ∷ actor (Discard 1) ∷ [])

-- A hundred tokens through two Scales by 1 to a Discard: each of the four makes a hundred firings, and the top one; the last token is 99.
abbrev pub hundred : Node Token Act
hundred = pn (Output 0 0 ∷ Output 1 0 ∷ Output 2 0 ∷ []) (0 ∷ 1 ∷ 1 ∷ 1 ∷ []) [] (actor (Ramp 0 (Some 100) (pos 0)) ∷ actor (Scale (pos 1)) ∷ actor (Scale (pos 1)) ∷ actor (Discard 1) ∷ [])

abbrev pub hundred_told : List (Tag × Token) × Ending
hundred_told = told (run 103 (once_top []) hundred) (2 ∷ []) 0

-- Tripled as a node of its own: fired on 1 and then on 2 and 3, or on 1, 2 and 3 at once, at the same tag.
abbrev pub outputs_of : Outcome Token (Node Token Act) → List (List Token)
outputs_of (Done node out l) = out
outputs_of (Stuck faults l) = []

abbrev pub then_fired : List (List Token) → Outcome Token (Node Token Act) → List (List Token)
then_fired inputs (Done node out l) = joined out (outputs_of (Step 5 rows no_meetings node origin inputs))
then_fired inputs (Stuck faults l) = []

-- a clock of period 1 into a network that reads its input and has an endless Ramp besides: the network's first firing never ends
abbrev pub never_done : Node Token Act
never_done =
    de (Output 0 0 ∷ []) (0 ∷ 1 ∷ []) 0
    (actor (clock 1 ((0, int 1) ∷ [])) ∷ pn (Own 0 ∷ Output 1 0 ∷ []) (1 ∷ 0 ∷ 1 ∷ []) (1 ∷ []) (actor (Discard 1) ∷ actor ramp ∷ actor (Discard 1) ∷ []) ∷ [])

-- Each run by its recorded port, its trace and its end. Where no fuel is enough the run is stuck in no place.
pub record NetworkExamples : Type 0 where
  pub both_wait : told (run 3 (once_top []) waiting_loop) (0 ∷ []) 0 ≡ ([], EndedBy Deadlock)
  pub sums : told (run 13 (once_top []) repeated_sum) (2 ∷ []) 0 ≡ (at_origin (0 ∷ 1 ∷ 2 ∷ 4 ∷ []), EndedBy Deadlock)
  pub grows_on : told (run 10 (once_top []) endless) (0 ∷ []) 0 ≡ (at_origin (0 ∷ 1 ∷ 2 ∷ 3 ∷ 4 ∷ 5 ∷ 6 ∷ 7 ∷ 8 ∷ 9 ∷ []), StuckIn [])
  pub firings_grow : count_in (meaning 10 rows no_meetings (once_top []) endless) endless ≡ 20
  -- without capacities the Ramp goes on; at fuel 4 it has made the four firings after which it waits in the jam
  pub no_jam_in_the_meaning : told (run 4 (once_top []) jamming) (0 ∷ []) 0 ≡ (at_origin (0 ∷ 1 ∷ 2 ∷ 3 ∷ []), StuckIn [])
  -- either place is a stuck place of the meaning, and neither gave a token
  pub both_stuck : told (run 3 (once_top []) two_inverses) (1 ∷ []) 0 ≡ ([], StuckIn (place (1 ∷ []) 0 30 ∷ place (3 ∷ []) 0 30 ∷ []))
  pub other_stuck : told (run 3 (once_top []) two_inverses) (3 ∷ []) 0 ≡ ([], StuckIn (place (1 ∷ []) 0 30 ∷ place (3 ∷ []) 0 30 ∷ []))
  pub selects : told (run 9 (once_top []) selecting) (3 ∷ []) 0 ≡ (at_origin (1 ∷ 9 ∷ 2 ∷ []), EndedBy Deadlock)
  pub triples : told (run 5 (sdf_top 3 (1 ∷ []) one_two_three) tripled_in_sdf) [] 0 ≡ (at_origin (3 ∷ 6 ∷ 9 ∷ []), EndedBy Iterations)
  pub triples_three : told (run 5 (sdf_top 5 (1 ∷ []) one_two_three) tripled_in_sdf) [] 0 ≡ (at_origin (3 ∷ 6 ∷ 9 ∷ []), EndedBy Inputs)
  pub triples_below_de : told (run 5 (de_top rows (Some 2) []) tripled_below_de) (1 ∷ []) 0 ≡ (timed ((0, 0, 3) ∷ (1, 0, 6) ∷ (2, 0, 9) ∷ []), EndedBy Stop)
  pub thirteen_firings : count_in (meaning 6 rows no_meetings (once_top []) line) line ≡ 13
  pub line_gives : told (run 6 (once_top []) line) (2 ∷ []) 0 ≡ (at_origin (0 ∷ 1 ∷ 2 ∷ []), EndedBy Deadlock)
  pub four_hundred_firings : count_in (meaning 103 rows no_meetings (once_top []) hundred) hundred ≡ 401
  pub hundred_tokens : length hundred_told.0 ≡ 100
  pub last_token : last_of hundred_told.0 ≡ Some (moment 0 0, int 99)
  pub hundred_end : hundred_told.1 ≡ EndedBy Deadlock
  pub at_once : outputs_of (Step 5 rows no_meetings tripled origin one_two_three) ≡ (int 3 ∷ int 6 ∷ int 9 ∷ []) ∷ []
  pub in_parts : then_fired ((int 2 ∷ int 3 ∷ []) ∷ []) (Step 5 rows no_meetings tripled origin ((int 1 ∷ []) ∷ [])) ≡ (int 3 ∷ int 6 ∷ int 9 ∷ []) ∷ []
  pub first_event_alone : told (run 6 (de_top rows (Some 2) []) never_done) (0 ∷ []) 0 ≡ (timed ((0, 0, 1) ∷ []), StuckIn [])
