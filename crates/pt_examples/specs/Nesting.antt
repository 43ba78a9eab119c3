-- Directors nested in unusual ways. Each model was worked by hand first, as the words above it tell.
use Rattle.std.specs.Prelude.{◌≡◌, ℕ, zero, suc, List, [], ◌∷◌, Bool, true, false, Some, None, pos, negsuc}
use Rattle.pt_meaning.specs.Tag.{Tag}
use Rattle.pt_meaning.specs.Log.{Path, Meeting, Channel}
use Rattle.pt_meaning.specs.Log as log
use Rattle.pt_meaning.specs.Net.{Own, Output}
use Rattle.pt_meaning.specs.Modal.{Chart}
use Rattle.pt_meaning.specs.Meetings.{Meets}
use Rattle.pt_meaning.specs.Tree.{Node, actor}
use Rattle.pt_meaning.specs.Job.{Iterations, Stop, Deadlock, meaning}
use Rattle.pt_meaning.specs.Schedule.{sdf_top, sr_top, de_top, once_top}
use Rattle.pt_examples.specs.Small.{Token, Num, Array, int, Act, Ramp, Sequence, Add, Scale, Accumulator, SampleDelay, ToArray, Discard, LastTick, Delay, rows, clock, ramp}
use Rattle.pt_examples.specs.Dataflow.{twice}
use Rattle.pt_examples.specs.Rendezvous.{scaling, in_and_out}
use Rattle.pt_examples.specs.Modals.{input_is, always, goes, one_in_one_out}
use Rattle.pt_examples.specs.Models.{sdf, pn, sr, de, rv, modal, run, run_under, EndedBy, StuckIn, told, moment, place, at_origin, timed}

-- DE in Modal in DE in Modal in DE, with two lags. The outer Modal is on or off by 2, the inner one by 1, both with history; the innermost DE has a clock of period 2. The events are 1 at 1, 2 at 2, 2 at 5 and 1 at 6, and the run stops at 9.
-- Time 0: all are on, and the clock gives. Time 1: the inner Modal goes off, its refinement having stood at 1. Time 2: the outer one goes off, having stood at 2. Time 5: it is on again, with lag 3.
-- Time 6 is 3 within it: the inner one is on again, with lag 3 - 1 = 2. The clock's next event, at its time 2, is 4 there and 7 outside; the one after it, at its time 4, is 6 there and 9 outside.
abbrev pub on_and_off : ℕ → Chart Token
on_and_off n =
    one_in_one_out
    (record { refinement = Some 0; preemptive = []; others = goes (input_is n) 1 true ∷ [] } ∷
    record { refinement = None; preemptive = []; others = goes (input_is n) 0 true ∷ [] } ∷ [])

abbrev pub innermost : Node Token Act
innermost = de (Own 0 ∷ Output 1 0 ∷ []) (1 ∷ 0 ∷ []) 1 (actor (Discard 1) ∷ actor (clock 2 ((0, int 1) ∷ [])) ∷ [])

abbrev pub with_modal : Node Token Act
with_modal = de (Own 0 ∷ Output 0 0 ∷ []) (1 ∷ []) 1 (modal (on_and_off 1) (innermost ∷ []) ∷ [])

abbrev pub two_lags : Node Token Act
two_lags = de (Own 0 ∷ []) (1 ∷ []) 1 (modal (on_and_off 2) (with_modal ∷ []) ∷ [])

abbrev pub switching_events : List (List (Tag × Token))
switching_events = ((moment 1 0, int 1) ∷ (moment 2 0, int 2) ∷ (moment 5 0, int 2) ∷ (moment 6 0, int 1) ∷ []) ∷ []

-- Rendezvous below DE, fired twice: an array of two gathers one token at 0 and one at 3. In the first firing the only meeting is that of the first token; in the second the other token meets, and the array goes out.
abbrev pub gathering : Node Token Act
gathering = rv (Own 0 ∷ Output 0 0 ∷ []) (1 ∷ []) (false ∷ []) (1 ∷ []) (actor (ToArray 2) ∷ [])

abbrev pub gathered_below_de : Node Token Act
gathered_below_de = de (Output 0 0 ∷ []) (0 ∷ 1 ∷ []) 0 (actor (clock 6 ((0, int 1) ∷ (3, int 2) ∷ [])) ∷ gathering ∷ [])

abbrev pub two_firings : Meets
two_firings (suc zero ∷ []) zero = Channel 0 ∷ []
two_firings (suc zero ∷ []) (suc zero) = Channel 0 ∷ Channel 1 ∷ []
two_firings p n = []

-- PN below SR: the network makes arrays of two of the inputs 1, 2 and 3. It is fired in each tick; one token is kept after tick 0, and one after tick 2.
abbrev pub pairing : Node Token Act
pairing = pn (Own 0 ∷ Output 0 0 ∷ []) (1 ∷ []) (1 ∷ []) (actor (ToArray 2) ∷ [])

abbrev pub paired_below_sr : Node Token Act
paired_below_sr = sr (Output 0 0 ∷ []) (0 ∷ 1 ∷ []) 0 (actor (Sequence (int 1 ∷ int 2 ∷ int 3 ∷ [])) ∷ pairing ∷ [])

-- SDF around SR around SDF: the running sums 0, 1, 3 and 6 of a Ramp. Each iteration is one tick, and each tick one iteration within.
abbrev pub summing : Node Token Act
summing = sdf (Own 0 ∷ Output 0 0 ∷ []) (1 ∷ []) (1 ∷ []) (1 ∷ []) (1 ∷ []) ((1 ∷ []) ∷ []) (actor (Accumulator (pos 0)) ∷ [])

abbrev pub around_sr : Node Token Act
around_sr =
    sdf (Output 0 0 ∷ Output 1 0 ∷ []) (0 ∷ 1 ∷ 1 ∷ []) (1 ∷ 1 ∷ 1 ∷ []) [] [] ((1 ∷ []) ∷ (1 ∷ []) ∷ [] ∷ [])
    (actor ramp ∷ sr (Own 0 ∷ Output 0 0 ∷ []) (1 ∷ []) 1 (summing ∷ []) ∷ actor (Discard 1) ∷ [])

-- PN in SDF in PN: five tokens into an SDF composite, which takes two in an iteration for a network with rate 2 that makes an array of them. It fires twice, and one token stays unread.
abbrev pub with_rate_two : Node Token Act
with_rate_two = pn (Own 0 ∷ Output 0 0 ∷ []) (1 ∷ []) (2 ∷ []) (actor (ToArray 2) ∷ [])

abbrev pub pn_in_sdf_in_pn : Node Token Act
pn_in_sdf_in_pn =
    pn (Output 0 0 ∷ Output 1 0 ∷ []) (0 ∷ 1 ∷ 1 ∷ []) []
    (actor (Ramp 0 (Some 5) (pos 0)) ∷ sdf (Own 0 ∷ Output 0 0 ∷ []) (1 ∷ []) (1 ∷ []) (2 ∷ []) (1 ∷ []) ((1 ∷ []) ∷ []) (with_rate_two ∷ []) ∷ actor (Discard 1) ∷ [])

-- SR in PN in DE: the network passes each event to an SR composite that gives the token of its tick before. Of the events 1, 2, 3 at 0, 2, 4 the first gives nothing, and the others give 1 and 2.
abbrev pub last_of_ticks : Node Token Act
last_of_ticks = sr (Own 0 ∷ Output 0 0 ∷ []) (1 ∷ []) 1 (actor (LastTick []) ∷ [])

abbrev pub sr_in_pn_in_de : Node Token Act
sr_in_pn_in_de =
    de (Output 0 0 ∷ []) (0 ∷ 1 ∷ []) 0
    (actor (clock 6 ((0, int 1) ∷ (2, int 2) ∷ (4, int 3) ∷ [])) ∷ pn (Own 0 ∷ Output 0 0 ∷ []) (1 ∷ []) (1 ∷ []) (last_of_ticks ∷ []) ∷ [])

-- Modal in PN in SDF: the modes take turns, one doubles and the other negates. Of 0, 1, 2, 3 it makes 0, -1, 4, -3, all at the origin.
abbrev pub scaled_by : Node Token Act → Node Token Act
scaled_by scale = sdf (Own 0 ∷ Output 0 0 ∷ []) (1 ∷ []) (1 ∷ []) (1 ∷ []) (1 ∷ []) ((1 ∷ []) ∷ []) (scale ∷ [])

abbrev pub by_turns : Chart Token
by_turns =
    one_in_one_out
    (record { refinement = Some 0; preemptive = []; others = goes always 1 true ∷ [] } ∷
    record { refinement = Some 1; preemptive = []; others = goes always 0 true ∷ [] } ∷ [])

abbrev pub taking_turns : Node Token Act
taking_turns = modal by_turns (scaled_by (actor (Scale (pos 2))) ∷ scaled_by (actor (Scale (negsuc 0))) ∷ [])

abbrev pub modal_in_pn_in_sdf : Node Token Act
modal_in_pn_in_sdf =
    sdf (Output 0 0 ∷ Output 1 0 ∷ []) (0 ∷ 1 ∷ 1 ∷ []) (1 ∷ 1 ∷ 1 ∷ []) [] [] ((1 ∷ []) ∷ (1 ∷ []) ∷ [] ∷ [])
    (actor ramp ∷ pn (Own 0 ∷ Output 0 0 ∷ []) (1 ∷ []) (1 ∷ []) (taking_turns ∷ []) ∷ actor (Discard 1) ∷ [])

-- DE in DE: events at 0 and 3 into a DE composite around a delay of 1, and on into a delay of 0. The inner delay's wakes are the composite's: 1 and 4, and one microstep later the outer delay's.
abbrev pub de_in_de : Node Token Act
de_in_de =
    de (Output 0 0 ∷ Output 1 0 ∷ []) (0 ∷ 1 ∷ 1 ∷ []) 0
    (actor (clock 3 ((0, int 5) ∷ [])) ∷ de (Own 0 ∷ Output 0 0 ∷ []) (1 ∷ []) 1 (actor (Delay 1 []) ∷ []) ∷ actor (Delay 0 []) ∷ [])

-- Rendezvous in PN: two tokens 0 and 1 into a Rendezvous composite around a Scale by 3. It fires once for each, and each firing has two meetings.
abbrev pub rv_in_pn : Node Token Act
rv_in_pn = pn (Output 0 0 ∷ Output 1 0 ∷ []) (0 ∷ 1 ∷ 1 ∷ []) [] (actor (Ramp 0 (Some 2) (pos 0)) ∷ scaling ∷ actor (Discard 1) ∷ [])

abbrev pub each_firing : Meets
each_firing (suc zero ∷ []) zero = in_and_out
each_firing (suc zero ∷ []) (suc zero) = in_and_out
each_firing p n = []

-- PN as a refinement: it makes arrays of two of its inputs. The inputs are 5, 1, 0, 7, 8: to hold, preemptive, on 1; to run on 0.
-- With history the token 5 of tick 0 is kept, and tick 3 makes {5, 7}. Without history it is lost at the return in tick 2, and tick 4 makes {7, 8}.
abbrev pub stop_and_go : (history : Bool) → Chart Token
stop_and_go history =
    one_in_one_out
    (record { refinement = Some 0; preemptive = goes (input_is 1) 1 history ∷ []; others = [] } ∷
    record { refinement = None; preemptive = []; others = goes (input_is 0) 0 history ∷ [] } ∷ [])

abbrev pub refined_by : Node Token Act → List Token → (history : Bool) → Node Token Act
refined_by refinement inputs history = sr (Output 0 0 ∷ []) (0 ∷ 1 ∷ []) 0 (actor (Sequence inputs) ∷ modal (stop_and_go history) (refinement ∷ []) ∷ [])

abbrev pub five_to_eight : List Token
five_to_eight = int 5 ∷ int 1 ∷ int 0 ∷ int 7 ∷ int 8 ∷ []

-- First tokens come back at a reset: the refinement adds its input to its last sum, by a delay with the first token 0. The inputs are 3, 4, 1, 0, 5: the sums are 3 and 7, and at the end 12 with history, 5 without.
abbrev pub summing_by_delay : Node Token Act
summing_by_delay = sdf (Output 1 0 ∷ Own 0 ∷ Output 0 0 ∷ Output 0 0 ∷ []) (2 ∷ 1 ∷ []) (1 ∷ 1 ∷ []) (1 ∷ []) (1 ∷ []) ((1 ∷ []) ∷ (1 ∷ []) ∷ []) (actor (Add 2) ∷ actor (SampleDelay (int 0 ∷ [])) ∷ [])

abbrev pub three_to_five : List Token
three_to_five = int 3 ∷ int 4 ∷ int 1 ∷ int 0 ∷ int 5 ∷ []

-- Composites are strict under SR: a delay answers early, but an SR composite around it in a loop with itself does not, so that its signal stays unknown.
abbrev pub strict_loop : Node Token Act
strict_loop = sr (Output 0 0 ∷ []) (1 ∷ []) 0 (last_of_ticks ∷ [])

-- SR below DE, given two tokens at one tag: two ticks at that tag, with the sums 1 and 2.
abbrev pub two_ticks_at_a_tag : Node Token Act
two_ticks_at_a_tag = de (Output 0 0 ∷ Output 1 0 ∷ []) (0 ∷ 1 ∷ 1 ∷ []) 0 (actor (clock 5 ((0, int 1) ∷ [])) ∷ twice ∷ sr (Own 0 ∷ Output 0 0 ∷ []) (1 ∷ []) 1 (actor (Accumulator (pos 0)) ∷ []) ∷ [])

-- Each run by its recorded port, its trace and its end, and for Rendezvous by its meetings.
pub record NestingExamples : Type 0 where
  pub lags_add : told (run 12 (de_top rows (Some 9) switching_events) two_lags) (0 ∷ []) 0 ≡ (timed ((0, 0, 1) ∷ (7, 0, 1) ∷ (9, 0, 1) ∷ []), EndedBy Stop)
  pub lags_outer : told (run 12 (de_top rows (Some 9) switching_events) two_lags) (0 ∷ 0 ∷ []) 0 ≡ (timed ((0, 0, 1) ∷ (4, 0, 1) ∷ (6, 0, 1) ∷ []), EndedBy Stop)
  pub lags_inner : told (run 12 (de_top rows (Some 9) switching_events) two_lags) (0 ∷ 0 ∷ 0 ∷ 0 ∷ []) 0 ≡ (timed ((0, 0, 1) ∷ (2, 0, 1) ∷ (4, 0, 1) ∷ []), EndedBy Stop)
  pub gathers : told (run_under two_firings 5 (de_top rows (Some 5) []) gathered_below_de) (1 ∷ []) 0 ≡ ((moment 3 0, Array (pos 1 ∷ pos 2 ∷ [])) ∷ [], EndedBy Stop)
  pub first_meetings : log.meetings_in 0 (meaning 5 rows two_firings (de_top rows (Some 5) []) gathered_below_de (1 ∷ [])) ≡ Channel 0 ∷ []
  pub second_meetings : log.meetings_in 1 (meaning 5 rows two_firings (de_top rows (Some 5) []) gathered_below_de (1 ∷ [])) ≡ Channel 0 ∷ Channel 1 ∷ []
  pub pairs : told (run 5 (sr_top 3 []) paired_below_sr) (1 ∷ []) 0 ≡ ((moment 1 0, Array (pos 1 ∷ pos 2 ∷ [])) ∷ [], EndedBy Iterations)
  pub sums : told (run 6 (sdf_top 4 [] []) around_sr) (1 ∷ []) 0 ≡ (at_origin (0 ∷ 1 ∷ 3 ∷ 6 ∷ []), EndedBy Iterations)
  pub pairs_in_pairs : told (run 8 (once_top []) pn_in_sdf_in_pn) (1 ∷ []) 0 ≡ ((moment 0 0, Array (pos 0 ∷ pos 1 ∷ [])) ∷ (moment 0 0, Array (pos 2 ∷ pos 3 ∷ [])) ∷ [], EndedBy Deadlock)
  pub lasts : told (run 5 (de_top rows (Some 4) []) sr_in_pn_in_de) (1 ∷ []) 0 ≡ (timed ((2, 0, 1) ∷ (4, 0, 2) ∷ []), EndedBy Stop)
  pub takes_turns : told (run 6 (sdf_top 4 [] []) modal_in_pn_in_sdf) (1 ∷ []) 0 ≡ ((moment 0 0, int 0) ∷ (moment 0 0, Num (negsuc 0)) ∷ (moment 0 0, int 4) ∷ (moment 0 0, Num (negsuc 2)) ∷ [], EndedBy Iterations)
  pub inner_delay : told (run 8 (de_top rows (Some 4) []) de_in_de) (1 ∷ []) 0 ≡ (timed ((1, 0, 5) ∷ (4, 0, 5) ∷ []), EndedBy Stop)
  pub outer_delay : told (run 8 (de_top rows (Some 4) []) de_in_de) (2 ∷ []) 0 ≡ (timed ((1, 1, 5) ∷ (4, 1, 5) ∷ []), EndedBy Stop)
  pub scales_in_pn : told (run_under each_firing 6 (once_top []) rv_in_pn) (1 ∷ []) 0 ≡ (at_origin (0 ∷ 3 ∷ []), EndedBy Deadlock)
  pub keeps_tokens : told (run 7 (sr_top 5 []) (refined_by pairing five_to_eight true)) (1 ∷ []) 0 ≡ ((moment 3 0, Array (pos 5 ∷ pos 7 ∷ [])) ∷ [], EndedBy Iterations)
  pub loses_tokens : told (run 7 (sr_top 5 []) (refined_by pairing five_to_eight false)) (1 ∷ []) 0 ≡ ((moment 4 0, Array (pos 7 ∷ pos 8 ∷ [])) ∷ [], EndedBy Iterations)
  pub keeps_sum : told (run 7 (sr_top 5 []) (refined_by summing_by_delay three_to_five true)) (1 ∷ []) 0 ≡ (timed ((0, 0, 3) ∷ (1, 0, 7) ∷ (4, 0, 12) ∷ []), EndedBy Iterations)
  pub loses_sum : told (run 7 (sr_top 5 []) (refined_by summing_by_delay three_to_five false)) (1 ∷ []) 0 ≡ (timed ((0, 0, 3) ∷ (1, 0, 7) ∷ (4, 0, 5) ∷ []), EndedBy Iterations)
  pub is_strict : told (run 4 (sr_top 1 []) strict_loop) (0 ∷ []) 0 ≡ ([], StuckIn (place [] 0 36 ∷ []))
  pub two_ticks : told (run 4 (de_top rows (Some 2) []) two_ticks_at_a_tag) (2 ∷ []) 0 ≡ (timed ((0, 0, 1) ∷ (0, 0, 2) ∷ []), EndedBy Stop)
