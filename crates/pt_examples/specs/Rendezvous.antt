-- Examples of Rendezvous.
use Rattle.std.specs.Prelude.{◌≡◌, zero, suc, List, [], ◌∷◌, true, false, Some, pos}
use Rattle.pt_meaning.specs.Log.{Path, Meeting, Channel}
use Rattle.pt_meaning.specs.Log as log
use Rattle.pt_meaning.specs.Net.{Own, Output}
use Rattle.pt_meaning.specs.Meetings.{Meets}
use Rattle.pt_meaning.specs.Tree.{Node, actor}
use Rattle.pt_meaning.specs.Job.{Stop, Deadlock, meaning}
use Rattle.pt_meaning.specs.Schedule.{de_top, once_top}
use Rattle.pt_examples.specs.Small.{Token, Array, int, Act, Sequence, Scale, Discard, Merge, Barrier, rows, clock}
use Rattle.pt_examples.specs.Models.{rv, de, run_under, EndedBy, StuckIn, told, moment, at_origin, timed}

-- the meetings of the top's first firing, and of the first firing of its second child
abbrev pub of_top : List Meeting → Meets
of_top ms [] zero = ms
of_top ms [] (suc n) = []
of_top ms (i ∷ p) n = []

abbrev pub of_second_child : List Meeting → Meets
of_second_child ms (suc zero ∷ []) zero = ms
of_second_child ms p n = []

-- the sources 1 and 2 into a Merge, and on to a Discard
abbrev pub merging : Node Token Act
merging =
    rv (Output 0 0 ∷ Output 1 0 ∷ Output 2 0 ∷ []) (0 ∷ 0 ∷ 2 ∷ 1 ∷ []) (false ∷ false ∷ false ∷ false ∷ []) []
    (actor (Sequence (int 1 ∷ [])) ∷ actor (Sequence (int 2 ∷ [])) ∷ actor (Merge 2) ∷ actor (Discard 1) ∷ [])

-- two orders of its meetings: the first source before the second, and the other way round
abbrev pub one_order : List Meeting
one_order = Channel 0 ∷ Channel 2 ∷ Channel 1 ∷ Channel 2 ∷ []

abbrev pub other_order : List Meeting
other_order = Channel 1 ∷ Channel 2 ∷ Channel 0 ∷ Channel 2 ∷ []

-- a Barrier in the place of the Merge: both sources meet it at once
abbrev pub joining : Node Token Act
joining =
    rv (Output 0 0 ∷ Output 1 0 ∷ Output 2 0 ∷ []) (0 ∷ 0 ∷ 2 ∷ 1 ∷ []) (false ∷ false ∷ true ∷ false ∷ []) []
    (actor (Sequence (int 1 ∷ [])) ∷ actor (Sequence (int 2 ∷ [])) ∷ actor (Barrier 2) ∷ actor (Discard 1) ∷ [])

abbrev pub joint : List Meeting
joint = log.Barrier 2 ∷ Channel 2 ∷ []

-- a Rendezvous composite around a Scale by 3, below DE
abbrev pub scaling : Node Token Act
scaling = rv (Own 0 ∷ Output 0 0 ∷ []) (1 ∷ []) (false ∷ []) (1 ∷ []) (actor (Scale (pos 3)) ∷ [])

abbrev pub scaling_below_de : Node Token Act
scaling_below_de = de (Output 0 0 ∷ []) (0 ∷ 1 ∷ []) 0 (actor (clock 3 ((0, int 1) ∷ [])) ∷ scaling ∷ [])

abbrev pub in_and_out : List Meeting
in_and_out = Channel 0 ∷ Channel 1 ∷ []

-- Each run under its meetings by its recorded port, its trace and its end; and that the log holds the meetings.
pub record RendezvousExamples : Type 0 where
  pub merges : told (run_under (of_top one_order) 3 (once_top []) merging) (2 ∷ []) 0 ≡ (at_origin (1 ∷ 2 ∷ []), EndedBy Deadlock)
  pub merges_told : log.meetings_in 0 (meaning 3 rows (of_top one_order) (once_top []) merging []) ≡ one_order
  pub merges_otherwise : told (run_under (of_top other_order) 3 (once_top []) merging) (2 ∷ []) 0 ≡ (at_origin (2 ∷ 1 ∷ []), EndedBy Deadlock)
  pub otherwise_told : log.meetings_in 0 (meaning 3 rows (of_top other_order) (once_top []) merging []) ≡ other_order
  pub joins : told (run_under (of_top joint) 3 (once_top []) joining) (2 ∷ []) 0 ≡ ((moment 0 0, Array (pos 1 ∷ pos 2 ∷ [])) ∷ [], EndedBy Deadlock)
  pub joins_told : log.meetings_in 0 (meaning 3 rows (of_top joint) (once_top []) joining []) ≡ joint
  pub scales_below_de : told (run_under (of_second_child in_and_out) 4 (de_top rows (Some 2) []) scaling_below_de) (1 ∷ []) 0 ≡ (timed ((0, 0, 3) ∷ []), EndedBy Stop)
  pub scales_told : log.meetings_in 0 (meaning 4 rows (of_second_child in_and_out) (de_top rows (Some 2) []) scaling_below_de (1 ∷ [])) ≡ in_and_out
  -- an order that is not legal, and a list that ends too soon, are not done, and have no stuck place
  pub not_legal : told (run_under (of_top (Channel 0 ∷ Channel 1 ∷ [])) 3 (once_top []) merging) (2 ∷ []) 0 ≡ (at_origin (1 ∷ []), StuckIn [])
  pub too_short : told (run_under (of_top (Channel 0 ∷ [])) 3 (once_top []) merging) (2 ∷ []) 0 ≡ (at_origin (1 ∷ []), StuckIn [])
  -- a channel to a Barrier has no meeting of its own
  pub not_alone : told (run_under (of_top (Channel 0 ∷ [])) 3 (once_top []) joining) (2 ∷ []) 0 ≡ ([], StuckIn [])
