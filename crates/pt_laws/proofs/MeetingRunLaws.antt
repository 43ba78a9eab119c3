-- What the processes of a Rendezvous firing have logged, and from its end to the composite's firing.
use Rattle.std.proofs.Common.{◌≡◌, ℕ, zero, suc, ◌≤◌, List, [], ◌∷◌, ◌++◌, ◌&&◌, not, Some, sym, ap, subst, arith, ◌∙◌, append-nil}
use Rattle.pt_meaning.specs.Basics.{Tag, Streams, IsPrefix, at, Log, LogBelow, Meeting, Channel, Barrier, silent, log_then, own, log_below, within_firing}
use Rattle.pt_meaning.specs.Basics as basics
use Rattle.pt_meaning.specs.Machine.{Fault, Outcome, Done, Stuck, Stepping, Facts, recorded}
use Rattle.pt_meaning.specs.Rounds.{Net}
use Rattle.pt_meaning.specs.Modal.{get}
use Rattle.pt_meaning.specs.Process.{Party, Fires, next_event, fired, advance, all_rest, party_faults, party_logs}
use Rattle.pt_meaning.specs.Meetings.{Scene, is_legal, any_legal, meet}
use Rattle.pt_meaning.specs.Rendezvous.{with_meetings, scene_log, if_meets, under_meetings, settled}
use Rattle.pt_meaning.specs.Children.{child_facts}
use Rattle.pt_meaning.specs.Node.{Rv, facts_of, step_at}
use Rattle.pt_laws.specs.LogsOfRuns.{logs_then, log_in}
use Rattle.pt_laws.specs.CompositeRuns.{steps_below}
use Rattle.pt_meaning.specs.AnyOrder.{scene_after, AllLegal, Underway, fire_at, fires_in}
use Rattle.pt_laws.specs.MeetingRuns.{OrderIsPrefix, AskedInOrder, rv_start, RvEnds, RvSticks, RvIsPrefix, RvAskedIsPrefix}
use Rattle.pt_meaning.specs.Laws.{Extends}
use Rattle.pt_laws.proofs.Order.{IsPrefix-refl, IsPrefix-after, IsPrefix-append, log_below-mono}
use Rattle.pt_laws.proofs.RoundLaws.{grows-refl}
use Rattle.pt_laws.proofs.KahnLaws.{and-left}
use Rattle.pt_laws.proofs.SceneLaws.{SceneBelow, scene-logs, ended-above, meets-above, under-above, all-rest-clear}
use Rattle.pt_laws.proofs.MeetingLaws.{all-below}
use Rattle.pt_laws.proofs.OrderOfMeetings.{as-ahead, underway-fire, underway-end, underway-stuck}
use Rattle.pt_laws.proofs.FuelLaw.{within-below}
use Rattle.pt_laws.proofs.CompositeLaws.{as-done, as-stuck, log-as-node}
use Rattle.pt_laws.proofs.LogLaws.{log-refl, log-trans}
use Rattle.pt_laws.proofs.MeetingIndex.{some-same}

-- logs in the middle
extends-log : {T S : Type 0} (fs : List Fault) (l : Log T) (r : Outcome T S) → Extends (Stuck fs l) r → LogBelow l (log_in r)
extends-log fs l (Stuck gs m) e = e.1
extends-log [] l (Done s out m) e = e
extends-log (f ∷ fs) l (Done s out m) e = absurd e

module _ {T S : Type 0} (facts : Facts T S) (step : Stepping T S) (tag : Tag) (net : Net) (n : ℕ) where
  -- from the scene after the meetings on
  far-below : (k : ℕ) (ms more : List Meeting) (sc : Scene T S) → AllLegal facts step tag net n k ms sc → Extends (Stuck (party_faults 0 (scene_after facts step tag net n k ms sc).parties) (scene_log (scene_after facts step tag net n k ms sc))) (under_meetings facts step tag net k n (ms ++ more) sc)
  unfolding under_meetings
  far-below k [] [] sc a = ended-above (all_rest facts (settled facts step tag net k n sc).parties && not (any_legal facts net (settled facts step tag net k n sc))) (settled facts step tag net k n sc) (λ e. all-rest-clear facts 0 (settled facts step tag net k n sc).parties (and-left _ _ e))
  far-below k [] (m ∷ more) sc a = meets-above facts step tag net k n (is_legal facts net (settled facts step tag net k n sc) m) (under_meetings facts step tag net k n more) (under-above facts step tag net k n more) m (settled facts step tag net k n sc)
  far-below k (m ∷ ms) more sc a =
      subst (λ r. Extends (Stuck (party_faults 0 (scene_after facts step tag net n k (m ∷ ms) sc).parties) (scene_log (scene_after facts step tag net n k (m ∷ ms) sc))) r)
      (sym (ap (λ b. if_meets facts step tag net k n b (under_meetings facts step tag net k n (ms ++ more)) m (settled facts step tag net k n sc)) a.0)) (far-below k ms more (meet net n m (settled facts step tag net k n sc)) a.1)

  pub order-prefix : (start : Scene T S) (count : ℕ) (ms : List Meeting) (sc : Scene T S) → Underway facts step tag net n start count ms sc → (more : List Meeting) (k : ℕ) → count ≤ k → LogBelow (scene_log sc) (log_in (under_meetings facts step tag net k n (ms ++ more) start))
  order-prefix start count ms sc u more k l =
      let far : Scene T S = scene_after facts step tag net n k ms start in
      let h = as-ahead facts step tag net n count k l sc far (u.behind k l) in
      let below : SceneBelow sc far = record { parties = all-below facts step step tag (grows-refl step) net.sources 0 sc.parties far.parties h.parties; met = subst (λ v. IsPrefix sc.met v) (sym h.met) (IsPrefix-refl sc.met) } in
      log-trans (scene_log sc) (scene_log far) (log_in (under_meetings facts step tag net k n (ms ++ more) start)) (scene-logs sc far below) (extends-log _ _ _ (far-below k ms more start (u.legal k l)))

  -- a process that fires logs at least what its step logs
  recorded-log : (i : ℕ) (p : Party T S) (r : Outcome T S) → LogBelow (log_then p.log (log_in r)) (fired facts step tag net.sources i p (recorded (facts.made p.state) tag p.got r)).log
  recorded-log i p (Done s out l) q = IsPrefix-after (p.log q) (l q) _ (IsPrefix-append (l q) (own (record { number = facts.made p.state; tag = tag; inputs = p.got; outputs = out }) q))
  recorded-log i p (Stuck fs l) q = IsPrefix-refl (p.log q ++ l q)

  advance-log : (i : ℕ) (p : Party T S) → next_event facts p ≡ Fires → LogBelow (log_then p.log (log_in (step tag p.state p.got))) (advance facts step tag net.sources i p).log
  advance-log i p e = rw e (recorded-log i p (step tag p.state p.got))

  fire-logs : (j i : ℕ) (ps : List (Party T S)) (p : Party T S) → get ps i ≡ Some p → next_event facts p ≡ Fires → (inside : Log T) → LogBelow inside (log_in (step tag p.state p.got)) →
      LogBelow (log_below (logs_then i inside (party_logs ps))) (log_below (party_logs (fire_at facts step tag net n j i ps)))
  fire-logs j i [] p e f inside h = absurd (cc)
  fire-logs j zero (x ∷ ps) p e f inside h =
      let same : p ≡ x = sym (some-same x p e) in
      log_below-mono (log_then x.log inside) (advance facts step tag net.sources j x).log (party_logs ps) (party_logs ps)
      (log-trans (log_then x.log inside) (log_then x.log (log_in (step tag x.state x.got))) (advance facts step tag net.sources j x).log
      (λ q. IsPrefix-after (x.log q) (inside q) (log_in (step tag x.state x.got) q) (subst (λ (v : Party T S). LogBelow inside (log_in (step tag v.state v.got))) same h q)) (advance-log j x (subst (λ v. next_event facts v ≡ Fires) same f)))
      (log-refl (log_below (party_logs ps)))
  fire-logs j (suc i) (x ∷ ps) p e f inside h = log_below-mono x.log x.log _ _ (log-refl x.log) (fire-logs (suc j) i ps p e f inside h)

  with-below : (es : List (basics.Event T)) (l m : Log T) → LogBelow l m → LogBelow (with_meetings es l) (with_meetings es m)
  with-below es l m h [] = IsPrefix-refl es
  with-below es l m h (i ∷ q) = h (i ∷ q)

pub order-is-prefix : {T S : Type 0} → OrderIsPrefix T S
order-is-prefix facts step tag net n start count ms sc u more k l = order-prefix facts step tag net n start count ms sc u more k l

pub asked-in-order : {T S : Type 0} → AskedInOrder T S
asked-in-order facts step tag net n start count ms sc u more i p e f inside h k l =
    log-trans _ (scene_log (fires_in facts step tag net n i sc)) _ (with-below facts step tag net n sc.met (log_below (logs_then i inside (party_logs sc.parties))) (log_below (party_logs (fire_at facts step tag net n 0 i sc.parties))) (fire-logs facts step tag net n 0 i sc.parties p e f inside h))
    (order-prefix facts step tag net n start (suc count) ms (fires_in facts step tag net n i sc) (underway-fire facts step tag net n start count ms sc i u) more k (omega (arith, l)))

-- composites
pub rv-ends : {T A : Type 0} → RvEnds T A
unfolding step_at
rv-ends {T} {A} rows k d m tag h c p X kids inputs count ms sc u e same l =
    as-done tag h c (Rv p) _ _ _ _
    (ap (λ v. under_meetings (child_facts (facts_of rows)) (steps_below rows k d m) tag p.net k h.made v (rv_start p X kids inputs)) same ∙ underway-end (child_facts (facts_of rows)) (steps_below rows k d m) tag p.net h.made (rv_start p X kids inputs) count ms sc u e k l)

pub rv-is-prefix : {T A : Type 0} → RvIsPrefix T A
unfolding step_at
rv-is-prefix {T} {A} rows k d m tag h c p X kids inputs count ms more sc u same l =
    subst (λ v. LogBelow (within_firing h.made (scene_log sc)) v) (sym (log-as-node tag h c (Rv p) _))
    (within-below h.made _ _ (subst (λ v. LogBelow (scene_log sc) (log_in (under_meetings (child_facts (facts_of rows)) (steps_below rows k d m) tag p.net k h.made v (rv_start p X kids inputs)))) (sym same) (order-is-prefix (child_facts (facts_of rows)) (steps_below rows k d m) tag p.net h.made (rv_start p X kids inputs) count ms sc u more k l)))

pub rv-asked-is-prefix : {T A : Type 0} → RvAskedIsPrefix T A
unfolding step_at
rv-asked-is-prefix {T} {A} rows k d m tag h c p X kids inputs count ms more sc u i q e f inside b same l =
    let L : Log T = with_meetings sc.met (log_below (logs_then i inside (party_logs sc.parties))) in
    subst (λ v. LogBelow (within_firing h.made L) v) (sym (log-as-node tag h c (Rv p) _))
    (within-below h.made _ _ (subst (λ v. LogBelow L (log_in (under_meetings (child_facts (facts_of rows)) (steps_below rows k d m) tag p.net k h.made v (rv_start p X kids inputs)))) (sym same) (asked-in-order (child_facts (facts_of rows)) (steps_below rows k d m) tag p.net h.made (rv_start p X kids inputs) count ms sc u more i q e f inside b k l)))

pub rv-sticks : {T A : Type 0} → RvSticks T A
unfolding step_at
rv-sticks {T} {A} rows k d m tag h c p X kids inputs count ms sc u f i same l =
    let stuck = underway-stuck (child_facts (facts_of rows)) (steps_below rows k d m) tag p.net h.made (rv_start p X kids inputs) count ms sc u f i k l in
    let here = ap (λ v. under_meetings (child_facts (facts_of rows)) (steps_below rows k d m) tag p.net k h.made v (rv_start p X kids inputs)) same ∙ stuck.2 in
    let below = order-is-prefix (child_facts (facts_of rows)) (steps_below rows k d m) tag p.net h.made (rv_start p X kids inputs) count ms sc u [] k l in
    let all : ms ++ [] ≡ ms = append-nil ms in (
      stuck.0,
      within_firing h.made stuck.1,
      as-stuck tag h c (Rv p) _ _ _ here,
      stuck.3,
      within-below h.made _ _ (subst (λ r. LogBelow (scene_log sc) (log_in r)) (ap (λ v. under_meetings (child_facts (facts_of rows)) (steps_below rows k d m) tag p.net k h.made v (rv_start p X kids inputs)) all ∙ stuck.2) below),
    )
