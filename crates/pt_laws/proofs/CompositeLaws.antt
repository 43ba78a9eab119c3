-- From a run of the children of an SDF or PN composite to the composite's own firing.
use Rattle.std.proofs.Common.{◌≡◌, ℕ, suc, ◌<◌, ◌*◌, List, [], ◌∷◌, ◌++◌, true, nat_le, length, take, drop, get_or, refl, sym, ap, ap₂, subst, arith, ◌∙◌, inl, eq-eqb, le-leb}
use Rattle.std.proofs.lemmas.List.{drop_all}
use Rattle.std.proofs.Math.Seq.{take-length, take-append_seam, drop-append_seam}
use Rattle.pt_meaning.specs.Basics.{Tag, Streams, Log, LogBelow, log_below, within_firing}
use Rattle.pt_meaning.specs.Machine.{Fault, Outcome, Done, Stuck, Stepping, Facts}
use Rattle.pt_meaning.specs.Flow.{Flow}
use Rattle.pt_meaning.specs.Rounds.{Net, Limit, rated, flows, round}
use Rattle.pt_meaning.specs.Dataflow.{Inside, SdfPlan, PnPlan, kahn, arrived, iterations, sdf_limits, pn_limits, fired_all, times, leaves, leaving, always, all_leave, firsts, behind, lengths, logs_of, sdf, pn}
use Rattle.pt_meaning.specs.Dataflow as dataflow
use Rattle.pt_meaning.specs.Rounds as rounds
use Rattle.pt_meaning.specs.Process.{emptied}
use Rattle.pt_meaning.specs.Meetings.{Meets, below_child}
use Rattle.pt_meaning.specs.Children.{Child, numbered, nodes, child_facts}
use Rattle.pt_meaning.specs.Node.{Rows, Core, Sdf, Pn, Past, Node, Nodes, Composite, list_of, nodes_of, fired_at, facts_of, as_node, step_at}
use Rattle.pt_meaning.specs.Running.{runs, total, MadeAll, NoneCanFire}
use Rattle.pt_laws.specs.LogsOfRuns.{logs_then, log_in, rates_at}
use Rattle.pt_laws.specs.CompositeRuns.{steps_below, ActorsReact, StepsGrow, RunGrows, SdfRun, PnRun, sdf_start, sdf_bounds, outlets_of, IsStuckBelow, SdfSticks, PnSticks, SdfIsPrefix, PnIsPrefix}
use Rattle.pt_meaning.specs.Laws.{IsIn, Grows}
use Rattle.pt_laws.proofs.Order.{Below-trans}
use Rattle.pt_laws.proofs.FlowLaws.{flow-same, IsFree}
use Rattle.pt_laws.proofs.RoundLaws.{round-below, rated-grows}
use Rattle.pt_laws.proofs.RunLaws.{flow-capped}
use Rattle.pt_laws.proofs.FuelLaw.{within-below, child_step-grows, step_at-grows}
use Rattle.pt_laws.proofs.LogLaws.{ends-with, sticks-with, asked-is-prefix, log-rated}

pub actors-react : {T A : Type 0} → ActorsReact T A
unfolding step_at
actors-react rows k d m tag i h a b X = refl

pub steps-grow : {T A : Type 0} → StepsGrow T A
steps-grow rows law m k k' d d' h e = child_step-grows _ _ (λ i. step_at-grows rows law k k' h d d' e (below_child i m))

-- a run at steps that do more
module _ {T S : Type 0} (facts : Facts T S) (step more : Stepping T S) (g : Grows step more) (tag : Tag) where
  runs-grow : (ns : List ℕ) (cs : List Limit) (ms : List ℕ) (ss : List S) (A : Streams T) → MadeAll ms (runs facts step tag ns cs ms ss A) → runs facts more tag ns cs ms ss A ≡ runs facts step tag ns cs ms ss A
  runs-grow [] cs ms ss A h = refl
  runs-grow (n ∷ ns) [] ms ss A h = refl
  runs-grow (n ∷ ns) (c ∷ cs) [] ss A h = refl
  runs-grow (n ∷ ns) (c ∷ cs) (m ∷ ms) [] A h = refl
  runs-grow (n ∷ ns) (c ∷ cs) (m ∷ ms) (s ∷ ss) A h =
      ap₂ (λ a b. a ∷ b)
      (flow-same facts (rated facts c.rates step) (rated facts c.rates more) tag (rated-grows facts c.rates step more g) m s (take n A) (subst IsFree (sym (flow-capped facts (rated facts c.rates step) tag m s (take n A) h.0)) tt))
      (runs-grow ns cs ms ss (drop n A) h.1)

pub run-grows : {T S : Type 0} → RunGrows T S
run-grows {T} {S} facts step more g tag net limits kids start ms now held ls w =
    let r = w.running in
    let e : runs facts step tag net.places limits ms kids r.all ≡ runs facts more tag net.places limits ms kids r.all = sym (runs-grow facts step more g tag net.places limits ms kids r.all r.made) in
    record {
      running = record {
        all = r.all;
        each = r.each;
        fits = r.fits;
        made = subst (λ fs. MadeAll ms fs) e r.made;
        states = r.states ∙ ap (λ fs. dataflow.states_of fs) e;
        left = r.left ∙ ap (λ fs. dataflow.left_by fs ++ dataflow.skip_places net.places r.all) e;
        fed = r.fed ∙ ap (λ fs. rounds.refill fs net.sources start) e;
        caused = Below-trans _ _ _ r.caused (round-below facts step more tag g net limits kids start (total ms) (total ms) (omega arith));
        few = r.few;
      };
      logs = w.logs ∙ ap (λ fs. logs_of fs) e;
    }

-- children at their bounds cannot fire, and have fired enough
le-self : (n : ℕ) → nat_le n n ≡ true
le-self n = le-leb n n (omega arith)

capped-none : {T S : Type 0} (facts : Facts T S) (m : ℕ) (ns qs : List ℕ) (rs : List (List ℕ)) (now : List S) (held : Streams T) → NoneCanFire facts ns (sdf_limits m qs rs) (times m qs) now held
capped-none facts m [] qs rs now held = tt
capped-none facts m (n ∷ ns) [] rs now held = tt
capped-none facts m (n ∷ ns) (q ∷ qs) [] now held = tt
capped-none facts m (n ∷ ns) (q ∷ qs) (r ∷ rs) [] held = tt
capped-none facts m (n ∷ ns) (q ∷ qs) (r ∷ rs) (s ∷ now) held = (inl (le-self (m * q)), capped-none facts m ns qs rs now (drop n held))

all-made : {T S : Type 0} (m : ℕ) (qs : List ℕ) (fs : List (Flow T S)) → MadeAll (times m qs) fs → fired_all m qs fs ≡ true
all-made m [] [] h = refl
all-made m [] (f ∷ fs) h = absurd h
all-made m (q ∷ qs) [] h = absurd h
all-made m (q ∷ qs) (f ∷ fs) h = rw (eq-eqb f.fired (m * q) h.0, all-made m qs fs h.1) refl

-- all that the own outputs have
pub firsts-all : {T : Type 0} (X : Streams T) → firsts (lengths X) X ≡ X
firsts-all [] = refl
firsts-all (xs ∷ X) = ap₂ (λ a b. a ∷ b) (take-length xs) (firsts-all X)

pub behind-all : {T : Type 0} (X : Streams T) → behind (lengths X) X ≡ emptied X
behind-all [] = refl
behind-all (xs ∷ X) = ap₂ (λ a b. a ∷ b) (drop_all (length xs) xs (omega arith)) (behind-all X)

-- the places of the children and the own outputs
pub first-part : {T : Type 0} (n : ℕ) (L R held : Streams T) → held ≡ L ++ R → length L ≡ n → take n held ≡ L
first-part n L R held h e = rw (h, ← e) (take-append_seam L R)

pub second-part : {T : Type 0} (n : ℕ) (L R held : Streams T) → held ≡ L ++ R → length L ≡ n → drop n held ≡ R
second-part n L R held h e = rw (h, ← e) (drop-append_seam L R)

pub as-done : {T A H : Type 0} (tag : Tag) (h : Past) (c : Core T) (core : H → Core T) (r : Outcome T (Inside H (Child (Node T A)))) (x : Inside H (Child (Node T A))) (out : Streams T) (l : Log T) → r ≡ Done x out l →
    as_node tag h c core r ≡ Done (Composite (fired_at tag h) c (core x.held) (nodes_of (nodes x.kids))) out (within_firing h.made l)
as-done tag h c core r x out l e = ap (λ v. as_node tag h c core v) e

pub as-stuck : {T A H : Type 0} (tag : Tag) (h : Past) (c : Core T) (core : H → Core T) (r : Outcome T (Inside H (Child (Node T A)))) (fs : List Fault) (l : Log T) → r ≡ Stuck fs l → as_node tag h c core r ≡ Stuck fs (within_firing h.made l)
as-stuck tag h c core r fs l e = ap (λ v. as_node tag h c core v) e

pub log-as-node : {T A H : Type 0} (tag : Tag) (h : Past) (c : Core T) (core : H → Core T) (r : Outcome T (Inside H (Child (Node T A)))) → log_in (as_node tag h c core r) ≡ within_firing h.made (log_in r)
log-as-node tag h c core (Done x out l) = refl
log-as-node tag h c core (Stuck fs l) = refl

module _ {T A : Type 0} (rows : Rows T A) (k d : ℕ) (m : Meets) (tag : Tag) (h : Past) (c : Core T) where
  pub sdf-ends : (p : SdfPlan) (X : Streams T) (kids : Nodes T A) (inputs : Streams T) (ms : List ℕ) (now : List (Child (Node T A))) (held : Streams T) (ls : List (Log T)) →
      SdfRun rows k d m tag p X kids inputs ms now held ls → ms ≡ times (iterations p (sdf_start p X inputs)) p.repetitions → total ms < k →
      step_at rows k (suc d) m tag (Composite h c (Sdf p X) kids) inputs ≡
      Done (Composite (fired_at tag h) c (Sdf p (take (total p.net.places) held ++ behind (times (iterations p (sdf_start p X inputs)) (leaves p)) (outlets_of p.net held))) (nodes_of (nodes now)))
      (firsts (times (iterations p (sdf_start p X inputs)) p.gives) (outlets_of p.net held)) (within_firing h.made (log_below ls))
  unfolding step_at
  sdf-ends p X kids inputs ms now held ls w e o =
      let facts = child_facts (facts_of rows) in
      let n = iterations p (sdf_start p X inputs) in
      let done = ends-with facts (steps_below rows k d m) tag p.net (sdf_bounds p X inputs) (numbered 0 (list_of kids)) (sdf_start p X inputs) ms now held ls w
      (subst (λ v. NoneCanFire facts p.net.places (sdf_bounds p X inputs) v now held) (sym e) (capped-none facts n p.net.places p.repetitions p.rates now held))
      (fired_all n p.repetitions) (leaving n p) (λ fs made. all-made n p.repetitions fs (subst (λ v. MadeAll v fs) e made)) k o
      in
      as-done tag h c (Sdf p) _ _ _ _ done.4 ∙
      ap₂ (λ (a b : Streams T). let r : Outcome T (Node T A) = Done (Composite (fired_at tag h) c (Sdf p (a ++ behind (times n (leaves p)) b)) (nodes_of (nodes now))) (firsts (times n p.gives) b) (within_firing h.made (log_below ls)) in r)
      (sym (first-part (total p.net.places) done.0 done.1 held done.2 done.3)) (sym (second-part (total p.net.places) done.0 done.1 held done.2 done.3))

  pub pn-ends : (p : PnPlan) (X : Streams T) (kids : Nodes T A) (inputs : Streams T) (ms : List ℕ) (now : List (Child (Node T A))) (held : Streams T) (ls : List (Log T)) →
      PnRun rows k d m tag p X kids inputs ms now held ls → NoneCanFire (child_facts (facts_of rows)) p.net.places (pn_limits p.net.places) ms now held → total ms < k →
      step_at rows k (suc d) m tag (Composite h c (Pn p X) kids) inputs ≡
      Done (Composite (fired_at tag h) c (Pn p (take (total p.net.places) held ++ emptied (outlets_of p.net held))) (nodes_of (nodes now))) (outlets_of p.net held) (within_firing h.made (log_below ls))
  unfolding step_at
  pn-ends p X kids inputs ms now held ls w nf o =
      let facts = child_facts (facts_of rows) in
      let done = ends-with facts (steps_below rows k d m) tag p.net (pn_limits p.net.places) (numbered 0 (list_of kids)) (arrived p.net.sources inputs X) ms now held ls w nf always all_leave (λ fs made. refl) k o in
      as-done tag h c (Pn p) _ _ _ _ done.4 ∙
      ap₂ (λ (a b : Streams T). let r : Outcome T (Node T A) = Done (Composite (fired_at tag h) c (Pn p (a ++ behind (lengths b) b)) (nodes_of (nodes now))) (firsts (lengths b) b) (within_firing h.made (log_below ls)) in r)
      (sym (first-part (total p.net.places) done.0 done.1 held done.2 done.3)) (sym (second-part (total p.net.places) done.0 done.1 held done.2 done.3)) ∙
      ap₂ (λ (a b : Streams T). let r : Outcome T (Node T A) = Done (Composite (fired_at tag h) c (Pn p (take (total p.net.places) held ++ a)) (nodes_of (nodes now))) b (within_firing h.made (log_below ls)) in r) (behind-all (outlets_of p.net held)) (firsts-all (outlets_of p.net held))

-- a stuck composite
pub below-stuck : {T A : Type 0} (r : Outcome T (Node T A)) (i : ℕ) (f : Fault) (n : ℕ) (gs : List Fault) (m l : Log T) → r ≡ Stuck gs (within_firing n m) → IsIn (record { path = i ∷ f.path; firing = f.firing; code = f.code }) gs → LogBelow l m → IsStuckBelow r i f (within_firing n l)
below-stuck r i f n gs m l e x b = (gs, within_firing n m, e, x, within-below n l m b)

pub sdf-sticks : {T A : Type 0} → SdfSticks T A
unfolding step_at
sdf-sticks {T} {A} rows k d m tag h c p X kids inputs ms now held ls w i inside f x o =
    let n = iterations p (sdf_start p X inputs) in
    let stuck = sticks-with (child_facts (facts_of rows)) (steps_below rows k d m) tag p.net (sdf_bounds p X inputs) (numbered 0 (list_of kids)) (sdf_start p X inputs) ms now held ls w i inside f x (fired_all n p.repetitions) (leaving n p) k o in
    below-stuck _ i f h.made stuck.0 stuck.1 _ (as-stuck tag h c (Sdf p) _ _ _ stuck.2) stuck.3 stuck.4

pub pn-sticks : {T A : Type 0} → PnSticks T A
unfolding step_at
pn-sticks {T} {A} rows k d m tag h c p X kids inputs ms now held ls w i inside f x o =
    let stuck = sticks-with (child_facts (facts_of rows)) (steps_below rows k d m) tag p.net (pn_limits p.net.places) (numbered 0 (list_of kids)) (arrived p.net.sources inputs X) ms now held ls w i inside f x always all_leave k o in
    below-stuck _ i f h.made stuck.0 stuck.1 _ (as-stuck tag h c (Pn p) _ _ _ stuck.2) stuck.3 stuck.4

pub sdf-is-prefix : {T A : Type 0} → SdfIsPrefix T A
unfolding step_at
sdf-is-prefix {T} {A} rows k d m tag h c p X kids inputs ms now held ls w i got held' child a inside b o =
    let n = iterations p (sdf_start p X inputs) in
    let facts = child_facts (facts_of rows) in
    let below = asked-is-prefix facts (steps_below rows k d m) tag p.net (sdf_bounds p X inputs) (numbered 0 (list_of kids)) (sdf_start p X inputs) ms now held ls w i got held' child a inside
    (subst (λ v. LogBelow inside v) (sym (log-rated facts (rates_at (sdf_bounds p X inputs) i) (steps_below rows k d m) tag (get_or now i child) got)) b) (fired_all n p.repetitions) (leaving n p) k o
    in
    subst (λ v. LogBelow (within_firing h.made (log_below (logs_then i inside ls))) v) (sym (log-as-node tag h c (Sdf p) _)) (within-below h.made _ _ below)

pub pn-is-prefix : {T A : Type 0} → PnIsPrefix T A
unfolding step_at
pn-is-prefix {T} {A} rows k d m tag h c p X kids inputs ms now held ls w i got held' child a inside b o =
    let facts = child_facts (facts_of rows) in
    let below = asked-is-prefix facts (steps_below rows k d m) tag p.net (pn_limits p.net.places) (numbered 0 (list_of kids)) (arrived p.net.sources inputs X) ms now held ls w i got held' child a inside
    (subst (λ v. LogBelow inside v) (sym (log-rated facts (rates_at (pn_limits p.net.places) i) (steps_below rows k d m) tag (get_or now i child) got)) b) always all_leave k o
    in
    subst (λ v. LogBelow (within_firing h.made (log_below (logs_then i inside ls))) v) (sym (log-as-node tag h c (Pn p) _)) (within-below h.made _ _ below)
