-- Where what comes next may be asked there is an answer.
use Rattle.std.proofs.Common.{ℕ, suc, List, [], ◌∷◌, Bool, true, false, Option, Some, None, refl, ap}
use Rattle.pt_meaning.specs.Streams.{Streams}
use Rattle.pt_meaning.specs.Tag.{local}
use Rattle.pt_meaning.specs.Modal.{Test, Off, On, Bad, Chart, Choice, Nothing, One, Wrong, Acted, Acts, Fails, after_on, chosen, lag_of, unfired_outputs}
use Rattle.pt_value.specs.declared.token.Token.{Token}
use Rattle.pt_firing.specs.declared.ask.Ask.{Ask}
use Rattle.pt_firing.specs.declared.ask.Ask.TheVariants as ask
use Rattle.pt_firing.specs.declared.fault.RunFault.TheVariants.{Ambiguous}
use Rattle.pt_modal_laws.specs.State.{Failed, stage_after, moved_stays, with_outcome, opened, pared, with_wake, chart_in, after_taken, after_chosen, after_given, after_calm, after_preemptive}
use Rattle.pt_meaning.specs.Modal.{Modes}
use Rattle.pt_modal_laws.specs.ModalActs.{State, Gives}
use Rattle.pt_modal_laws.specs.Comes.{IsCode, AreCodedTests, IsCodedActed, IsCoded, SomethingComes, AlwaysComes}

-- a choice fails by a fault of a run
IsCodedChoice : Choice → Type 0
IsCodedChoice Nothing = Unit {0}
IsCodedChoice (One n) = Unit {0}
IsCodedChoice (Wrong code) = IsCode code

after-coded : (i : ℕ) (c : Choice) → IsCodedChoice c → IsCodedChoice (after_on i c)
unfolding IsCodedChoice
after-coded i Nothing h = tt
after-coded i (One n) h = (Ambiguous, refl)
after-coded i (Wrong code) h = h

chosen-coded : (i : ℕ) (ts : List Test) → AreCodedTests ts → IsCodedChoice (chosen i ts)
unfolding IsCodedChoice
chosen-coded i [] h = tt
chosen-coded i (Off ∷ ts) h = chosen-coded (suc i) ts h.1
chosen-coded i (On ∷ ts) h = after-coded i (chosen (suc i) ts) (chosen-coded (suc i) ts h.1)
chosen-coded i (Bad code ∷ ts) h = h.0

module _ {M : Type 0} (reads : M → Chart Token) where
  target-comes : (s : State M) (modes : Modes Token) (out : Streams Token) (keeps : Bool) (o : Option ℕ) → SomethingComes (with_outcome modes out (stage_after keeps o) s)
  target-comes s modes out true None = (ask.Finished, refl)
  target-comes s modes out false None = (ask.Finished, refl)
  target-comes s modes out true (Some i) = (ask.Finished, refl)
  target-comes s modes out false (Some i) = (ask.Reset i, refl)

  taken-comes : (s : State M) (early : Bool) (n : ℕ) (a : Acted Token) → IsCodedActed a → SomethingComes (after_taken reads early n a s)
  taken-comes s early n (Fails code) h = (ask.Faulted h.0 None, ap (λ c. Failed c) h.1)
  taken-comes s early n (Acts out values) h =
      let chart = chart_in reads s in
      let to = chart.target early s.modes.mode n in
      let keeps = chart.keeps_history early s.modes.mode n in
      target-comes s (record { mode = to; values = values; stays = moved_stays s.tag.time keeps (chart.refinement s.modes.mode) (chart.refinement to) s.modes.stays }) out keeps (chart.refinement to)

  chosen-comes : (s : State M) → IsCoded (chart_in reads s) → (given : Streams Token) (c : Choice) → IsCodedChoice c → SomethingComes (after_chosen reads given c s)
  unfolding IsCodedChoice
  chosen-comes s coded given Nothing h = (ask.Finished, refl)
  chosen-comes s coded given (One n) h = taken-comes s false n ((chart_in reads s).act false s.modes.mode n s.modes.values s.inputs given) (coded.act false s.modes.mode n s.modes.values s.inputs given)
  chosen-comes s coded given (Wrong code) h = (ask.Faulted h.0 None, ap (λ c. Failed c) h.1)

  given-comes : (s : State M) → IsCoded (chart_in reads s) → (given : Streams Token) → SomethingComes (after_given reads given s)
  given-comes s coded given = let tests = (chart_in reads s).others s.modes.mode s.modes.values s.inputs given in chosen-comes s coded given (chosen 0 tests) (chosen-coded 0 tests (coded.others s.modes.mode s.modes.values s.inputs given))

  calm-comes : (s : State M) → IsCoded (chart_in reads s) → (o : Option ℕ) → SomethingComes (after_calm reads o s)
  calm-comes s coded None = given-comes s coded (unfired_outputs (chart_in reads s))
  calm-comes s coded (Some i) = (ask.Fire i (local s.tag (lag_of s.modes.stays i)), (refl, refl))

  preemptive-comes : (s : State M) → IsCoded (chart_in reads s) → (c : Choice) → IsCodedChoice c → SomethingComes (after_preemptive reads c s)
  unfolding IsCodedChoice
  preemptive-comes s coded Nothing h = calm-comes s coded ((chart_in reads s).refinement s.modes.mode)
  preemptive-comes s coded (One n) h = taken-comes s true n ((chart_in reads s).act true s.modes.mode n s.modes.values s.inputs (unfired_outputs (chart_in reads s))) (coded.act true s.modes.mode n s.modes.values s.inputs (unfired_outputs (chart_in reads s)))
  preemptive-comes s coded (Wrong code) h = (ask.Faulted h.0 None, ap (λ c. Failed c) h.1)

-- what is kept of the inputs changes no answer
pared-gives : {M : Type 0} (s : State M) (answer : Ask) → Gives s answer → Gives (pared s) answer
pared-gives s (ask.Fire child tag) g = g
pared-gives s (ask.Reset child) g = g
pared-gives s ask.Finished g = g
pared-gives s (ask.Faulted kind None) g = g
pared-gives s (ask.Faulted kind (Some child)) g = g
pared-gives s (ask.Early child tag) g = g
pared-gives s (ask.Get child) g = g
pared-gives s (ask.Put child) g = g
pared-gives s ask.Grow g = g
pared-gives s (ask.Meet meeting) g = g
pared-gives s ask.Await g = g
pared-gives s ask.Full g = g

pared-comes : {M : Type 0} (s : State M) → SomethingComes s → SomethingComes (pared s)
pared-comes s x = (x.0, pared-gives s x.0 x.1)

pub always-comes : {M : Type 0} (reads : M → Chart Token) → AlwaysComes reads
always-comes reads = record {
  begun = λ s coded tag inputs.
      let tests = (chart_in reads s).preemptive s.modes.mode s.modes.values inputs in
      pared-comes (after_preemptive reads (chosen 0 tests) (opened tag inputs s)) (preemptive-comes reads (opened tag inputs s) coded (chosen 0 tests) (chosen-coded 0 tests (coded.preemptive s.modes.mode s.modes.values inputs)));
  told = λ s coded child out wake. given-comes reads (with_wake child wake s) coded _;
  reset = λ s child. (ask.Finished, refl);
}
