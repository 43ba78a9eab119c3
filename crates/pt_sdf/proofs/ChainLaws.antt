-- A chain of calls of a core makes the firing of the composite.
use Rattle.std.proofs.Common.{◌≡◌, ℕ, ◌<◌, ◌≤◌, List, [], ◌∷◌, ◌++◌, true, false, length, get_or, set, Some, refl, sym, ap, ap₂, subst, ◌∙◌, arith, inl}
use Rattle.pt_meaning.specs.Tag.{Tag}
use Rattle.pt_meaning.specs.Streams.{Streams}
use Rattle.pt_meaning.specs.Log.{Log, log_then, log_below, own}
use Rattle.pt_meaning.specs.Machine.{rate_code, Fault, Outcome, Done, Stuck, Stepping, Facts}
use Rattle.pt_meaning.specs.Net.{Inside}
use Rattle.pt_meaning.specs.Rounds.{has_rates, rated, rated_outcome, if_rated}
use Rattle.pt_meaning.specs.Kahn.{arrived, firsts, behind, kahn}
use Rattle.pt_meaning.specs.Sdf.{SdfPlan, iterations, sdf_limits, fired_all, times, leaves, leaving, sdf}
use Rattle.pt_meaning.specs.Running.{Asks, NoneCanFire, MadeAll, total, plus, puts}
use Rattle.pt_laws.specs.LogsOfRuns.{silents, logs_then, rates_at}
use Rattle.pt_meaning.specs.Laws.{IsIn}
use Rattle.pt_laws.proofs.LogLaws.{begins-with, asked-fires, ends-with, sticks-with}
use Rattle.pt_laws.proofs.RunLaws.{running-step-with, plus-length}
use Rattle.pt_laws.proofs.FiringLaws.{arrived-long}
use Rattle.pt_laws.proofs.CompositeLaws.{first-part, second-part}
use Rattle.pt_sdf_parts.specs.ByNeed.{by_need, planned, place_of}
use Rattle.pt_sdf.specs.State.{SdfState, Allows, IsEnough, lent_of, left_of, needs_at, asked, begun, if_told, after_told, closed, own_of, owed}
use Rattle.pt_sdf.specs.Chain.{IsFor, Underway, firing_from, IsStuckAt, CallsAreSdf}
use Rattle.pt_sdf_parts.proofs.NeedLaws.{asks-as, asks-below, asked-sticks, none-at-caps, enough-made, needs-length, needs-kept, planned-length, skip-length, limits-length, limits-rates, all-fit}

module _ {T S : Type 0} (facts : Facts T S) (step : Stepping T S) (before : SdfState T) (kids : List S) where
  pub calls-begin : (tag : Tag) (inputs : Streams T) → IsFor facts before kids → Underway facts step before kids inputs (begun tag inputs before) kids (silents kids)
  calls-begin tag inputs h =
      let p : SdfPlan = before.plan in
      let X : Streams T = arrived p.net.sources inputs before.held in
      let long : total p.net.places ≤ length X = omega (arith, h.channels, arrived-long p.net.sources inputs before.held) in
      record {
        fitting = record { repetitions = h.repetitions; rates = h.rates; channels = long; needs = h.needs };
        plan = refl;
        turns = refl;
        running =
            begins-with facts step tag p.net (sdf_limits (iterations p X) p.repetitions p.rates) kids X (limits-length (iterations p X) p.repetitions p.rates (h.repetitions ∙ sym h.rates) ∙ h.repetitions)
            (sym (needs-length facts kids) ∙ ap (λ ns. length ns) h.needs ∙ planned-length p.net.places before.needs) (all-fit p.net.places X long);
      }

  module _ (inputs : Streams T) (s : SdfState T) (now : List S) (ls : List (Log T)) (u : Underway facts step before kids inputs s now ls) where
    -- what is asked of the core is asked of the children
    truly-asked : (i : ℕ) → Allows s i → Asks facts i s.plan.net.places (sdf_limits s.turns s.plan.repetitions s.plan.rates) s.fired now s.held (lent_of s i) (left_of s i)
    truly-asked i a =
        asks-as facts i s.plan.net.places (sdf_limits s.turns s.plan.repetitions s.plan.rates) s.fired now s.held (lent_of s i) (left_of s i)
        (subst (λ ns. Asks by_need i s.plan.net.places (sdf_limits s.turns s.plan.repetitions s.plan.rates) s.fired ns s.held (lent_of s i) (left_of s i)) (sym u.fitting.needs) a)

    -- the rates that the definition checks are those of the plan
    rates-are : (i : ℕ) → Allows s i → rates_at (sdf_limits s.turns s.plan.repetitions s.plan.rates) i ≡ Some (get_or s.plan.rates i [])
    rates-are i a =
        let l = asks-below by_need i s.plan.net.places (sdf_limits s.turns s.plan.repetitions s.plan.rates) s.fired (planned s.plan.net.places s.needs) s.held (lent_of s i) (left_of s i) a in
        limits-rates s.turns s.plan.repetitions s.plan.rates i (u.fitting.repetitions ∙ sym u.fitting.rates) (omega (arith, l, u.fitting.repetitions))

    rated-is : (i : ℕ) (c : S) (r : Outcome T S) → Allows s i → step s.tag c (lent_of s i) ≡ r → rated facts (rates_at (sdf_limits s.turns s.plan.repetitions s.plan.rates) i) step s.tag c (lent_of s i) ≡ rated_outcome (get_or s.plan.rates i []) (facts.made c) r
    rated-is i c r a e = ap (λ x. rated facts x step s.tag c (lent_of s i)) (rates-are i a) ∙ ap (λ x. rated_outcome (get_or s.plan.rates i []) (facts.made c) x) e

    pub calls-go-on : (i : ℕ) → Allows s i → (d c : S) (out : Streams T) (l : Log T) → step s.tag (get_or now i d) (lent_of s i) ≡ Done c out l → has_rates (get_or s.plan.rates i []) out ≡ true → facts.need c ≡ facts.need (get_or now i d) →
        Underway facts step before kids inputs (after_told i out (asked i s)) (set now i c) (logs_then i (log_then l (own (record { number = facts.made (get_or now i d); tag = s.tag; inputs = lent_of s i; outputs = out }))) ls)
    calls-go-on i a d c out l e h n =
        let done : rated facts (rates_at (sdf_limits s.turns s.plan.repetitions s.plan.rates) i) step s.tag (get_or now i d) (lent_of s i) ≡ Done c out l =
        rated-is i (get_or now i d) (Done c out l) a e ∙ ap (λ b. if_rated b (facts.made (get_or now i d)) c out l) h in
        let held' : Streams T = plus (left_of s i) (puts i out s.plan.net.sources) in
        let logs' : List (Log T) = logs_then i (log_then l (own (record { number = facts.made (get_or now i d); tag = s.tag; inputs = lent_of s i; outputs = out }))) ls in
        subst (λ b. Underway facts step before kids inputs (if_told b i out (asked i s)) (set now i c) logs') (sym h)
        (record {
          fitting = record {
            repetitions = u.fitting.repetitions;
            rates = u.fitting.rates;
            channels = omega (arith, u.fitting.channels, plus-length (left_of s i) (puts i out s.plan.net.sources), skip-length (place_of s.plan.net.places i) (needs_at s i) s.held);
            needs = needs-kept facts now i d c n ∙ u.fitting.needs;
          };
          plan = u.plan;
          turns = u.turns;
          running =
              running-step-with facts step s.tag s.plan.net (sdf_limits s.turns s.plan.repetitions s.plan.rates) kids (arrived s.plan.net.sources inputs before.held) s.fired now s.held ls u.running i _ _ (left_of s i) l
              (record { number = facts.made (get_or now i d); tag = s.tag; inputs = lent_of s i; outputs = out })
              (asked-fires facts step s.tag i s.plan.net.places (sdf_limits s.turns s.plan.repetitions s.plan.rates) s.fired now s.held (lent_of s i) (left_of s i) c out l d (truly-asked i a) done);
        })

    -- the firing by the core's own plan and number of turns
    firing-is : (k : ℕ) →
        kahn facts step s.tag s.plan.net (sdf_limits s.turns s.plan.repetitions s.plan.rates) (fired_all s.turns s.plan.repetitions) (leaving s.turns s.plan) kids (arrived s.plan.net.sources inputs before.held) k ≡
        firing_from facts step before kids s.tag inputs k
    firing-is k =
        ap (λ m. kahn facts step s.tag s.plan.net (sdf_limits m s.plan.repetitions s.plan.rates) (fired_all m s.plan.repetitions) (leaving m s.plan) kids (arrived s.plan.net.sources inputs before.held) k) u.turns ∙
        ap (λ (p : SdfPlan). sdf facts step p k s.tag (record { held = before.held; kids = kids }) inputs) u.plan

    pub calls-end : IsEnough s → (k : ℕ) → total s.fired < k → firing_from facts step before kids s.tag inputs k ≡ Done (record { held = (closed s).held; kids = now }) (firsts (owed s) (own_of s)) (log_below ls)
    calls-end e k o =
        let done =
        ends-with facts step s.tag s.plan.net (sdf_limits s.turns s.plan.repetitions s.plan.rates) kids (arrived s.plan.net.sources inputs before.held) s.fired now s.held ls u.running
        (subst (λ v. NoneCanFire facts s.plan.net.places (sdf_limits s.turns s.plan.repetitions s.plan.rates) v now s.held) (sym e) (none-at-caps facts s.turns s.plan.net.places s.plan.repetitions s.plan.rates now s.held))
        (fired_all s.turns s.plan.repetitions) (leaving s.turns s.plan) (λ fs made. enough-made s.turns s.plan.repetitions fs (subst (λ v. MadeAll v fs) e made)) k o
        in
        sym (firing-is k) ∙ done.4 ∙
        ap₂ (λ (a b : Streams T). let r : Outcome T (Inside (Streams T) S) = Done (record { held = a ++ behind (times s.turns (leaves s.plan)) b; kids = now }) (firsts (owed s) b) (log_below ls) in r)
        (sym (first-part (total s.plan.net.places) done.0 done.1 s.held done.2 done.3)) (sym (second-part (total s.plan.net.places) done.0 done.1 s.held done.2 done.3))

    stuck-at : (i : ℕ) → Allows s i → (d : S) (fs : List Fault) (l : Log T) (f : Fault) → rated facts (rates_at (sdf_limits s.turns s.plan.repetitions s.plan.rates) i) step s.tag (get_or now i d) (lent_of s i) ≡ Stuck fs l → IsIn f fs → (k : ℕ) → total s.fired < k →
        IsStuckAt (firing_from facts step before kids s.tag inputs k) i f (log_below (logs_then i l ls))
    stuck-at i a d fs l f e x k o =
        let stuck =
        sticks-with facts step s.tag s.plan.net (sdf_limits s.turns s.plan.repetitions s.plan.rates) kids (arrived s.plan.net.sources inputs before.held) s.fired now s.held ls u.running i l f
        (asked-sticks facts step s.tag i s.plan.net.places (sdf_limits s.turns s.plan.repetitions s.plan.rates) s.fired now s.held (lent_of s i) (left_of s i) d fs l f (truly-asked i a) e x)
        (fired_all s.turns s.plan.repetitions) (leaving s.turns s.plan) k o
        in (stuck.0, stuck.1, sym (firing-is k) ∙ stuck.2, stuck.3, stuck.4)

    pub calls-stick : (i : ℕ) → Allows s i → (d : S) (fs : List Fault) (l : Log T) → step s.tag (get_or now i d) (lent_of s i) ≡ Stuck fs l → (f : Fault) → IsIn f fs → (k : ℕ) → total s.fired < k →
        IsStuckAt (firing_from facts step before kids s.tag inputs k) i f (log_below (logs_then i l ls))
    calls-stick i a d fs l e f x k o = stuck-at i a d fs l f (rated-is i (get_or now i d) (Stuck fs l) a e) x k o

    pub calls-find-wrong : (i : ℕ) → Allows s i → (d c : S) (out : Streams T) (l : Log T) → step s.tag (get_or now i d) (lent_of s i) ≡ Done c out l → has_rates (get_or s.plan.rates i []) out ≡ false → (k : ℕ) → total s.fired < k →
        IsStuckAt (firing_from facts step before kids s.tag inputs k) i (record { path = []; firing = facts.made (get_or now i d); code = rate_code }) (log_below (logs_then i l ls))
    calls-find-wrong i a d c out l e h k o =
        let f : Fault = record { path = []; firing = facts.made (get_or now i d); code = rate_code } in
        stuck-at i a d (f ∷ []) l f (rated-is i (get_or now i d) (Done c out l) a e ∙ ap (λ b. if_rated b (facts.made (get_or now i d)) c out l) h) (inl refl) k o

pub calls-are-sdf : {T S : Type 0} → CallsAreSdf T S
calls-are-sdf = record {
  begins = λ facts step before kids tag inputs h. calls-begin facts step before kids tag inputs h;
  goes_on = λ facts step before kids inputs s now ls u. calls-go-on facts step before kids inputs s now ls u;
  ends = λ facts step before kids inputs s now ls u. calls-end facts step before kids inputs s now ls u;
  sticks = λ facts step before kids inputs s now ls u. calls-stick facts step before kids inputs s now ls u;
  wrong_rates = λ facts step before kids inputs s now ls u. calls-find-wrong facts step before kids inputs s now ls u;
}
