-- No actor is over at its start.
use Rattle.std.proofs.Common.{◌≡◌, inl, inr, ℕ, Bool, true, false, Some, refl, sym, ap, subst, ◌∙◌}
use Rattle.std.proofs.lemmas.Bool.{true≢false}
use Rattle.pt_meaning.specs.Machine.{Need, Over, Counts, Any}
use Rattle.pt_flow_base.specs.declared.params.Params.{Params}
use Rattle.pt_lib_flow.specs.FlowActor as flow_actor
use Rattle.pt_lib_data.specs.Function as function
use Rattle.pt_lib_data.specs.DataActor as data_actor
use Rattle.pt_lib_time.specs.declared.time_actor.Class.{Class}
use Rattle.pt_lib_time.specs.declared.time_actor.TimeActor.{TimeActor}
use Rattle.pt_lib_time.specs.TimeActor as time_actor
use Rattle.pt_lib_timed.specs.TimedActor as timed_actor
use Rattle.pt_library.specs.declared.library_actor.LibraryActor.{LibraryActor}
use Rattle.pt_library.specs.declared.library_actor.LibraryActor.TheVariants.{Flow, Data, Time, Timed}
use Rattle.pt_library.specs.LibraryActor.{need}
use Rattle.pt_typed.proofs.TimeStarts as signals
use Rattle.pt_typed.proofs.TimedStarts as instants
use Rattle.pt_typed.proofs.RowsMet.{one-of-four, flow-in, data-in}
use Rattle.pt_placed.specs.Counted.{IsCounted}
use Rattle.pt_placed.specs.Laws.{ActorsAreNotOver}
use Rattle.pt_placed.proofs.FlowNeeds.{flow-counted}
use Rattle.pt_placed.proofs.DataNeeds.{data-counted}
use Rattle.pt_placed.proofs.TimeNeeds.{is_merge, time-counted, merge-any}
use Rattle.pt_placed.proofs.TimedNeeds.{timed-counted}

abbrev is_over : Need → Bool
is_over Over = true
is_over (Counts ns) = false
is_over Any = false

counted-left : {places : ℕ} (n : Need) → IsCounted places n → is_over n ≡ false
counted-left n c = ap is_over c.is

time-left : (c : Class) (params : Params) (a : TimeActor) → time_actor.start_as c params ≡ Some a → is_over (time_actor.need a) ≡ false
time-left c params a started = by_test (is_merge c) refl
  where
    by_test : (b : Bool) → is_merge c ≡ b → is_over (time_actor.need a) ≡ false
    by_test true merging = ap is_over (merge-any c params a merging started).1
    by_test false other = counted-left (time_actor.need a) (time-counted c params a other started)

pub not-over : ActorsAreNotOver
not-over params a started over = true≢false (ap is_over (sym over) ∙ left)
  where
    left : is_over (need a) ≡ false
    left = elim (one-of-four Flow Data Time Timed (flow_actor.start params) (data_actor.start params.class params.values params.ports) (time_actor.start params) (timed_actor.start params) a started) [
      | inl w ↦ (let c = flow-in (flow_actor.class_of params.class) params w.0 w.1 in subst (λ (b : LibraryActor). is_over (need b) ≡ false) w.2 (counted-left (flow_actor.need w.0) (flow-counted c.0 params w.0 c.2)))
      | inr (inl w) ↦ (let c = data-in (function.class_of params.class) params w.0 w.1 in subst (λ (b : LibraryActor). is_over (need b) ≡ false) w.2 (counted-left (data_actor.need w.0) (data-counted c.0 params.values params.ports w.0 c.2)))
      | inr (inr (inl w)) ↦ (let c = signals.time-in (time_actor.class_of params.class) params w.0 w.1 in subst (λ (b : LibraryActor). is_over (need b) ≡ false) w.2 (time-left c.0 params w.0 c.2))
      | inr (inr (inr w)) ↦ (let c = instants.timed-in (timed_actor.class_of params.class) params w.0 w.1 in subst (λ (b : LibraryActor). is_over (need b) ≡ false) w.2 (counted-left (timed_actor.need w.0) (timed-counted c.0 params w.0 c.2)))
    ]
