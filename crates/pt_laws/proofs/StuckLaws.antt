-- A child that is stuck in a run makes the composite stuck, at that place.
use Rattle.std.proofs.Common.{◌≡◌, ℕ, zero, suc, ◌+◌, ◌≤◌, ◌<◌, Option, Some, None, List, [], ◌∷◌, ◌++◌, Bool, true, false, ◌&&◌, length, take, drop, refl, sym, ap, subst, ◌∙◌, arith, inl, inr}
use Rattle.std.proofs.lemmas.List.{length-take-le}
use Rattle.pt_meaning.specs.Basics.{Tag, Streams, Log, own}
use Rattle.pt_meaning.specs.Machine.{Fault, Outcome, Done, Stuck, Stepping, Facts, Front, Lacks, Ends, Takes, front}
use Rattle.pt_meaning.specs.Flow.{Stopped, Flow, flow, on_outcome, on_front, after_firing}
use Rattle.pt_meaning.specs.Rounds.{Net, Limit, within, rated, flows, round}
use Rattle.pt_meaning.specs.Dataflow.{Inside, stop_faults, faults_of, prefixed, states_of, left_by, skip_places, Leaving, settled, kahn, if_settled}
use Rattle.pt_meaning.specs.Laws.{IsIn}
use Rattle.pt_meaning.specs.Running.{runs, total, MadeAll, WithinAll, Running, Fits, SticksAt}
use Rattle.pt_laws.proofs.Order.{Below-trans}
use Rattle.pt_laws.proofs.RoundLaws.{round-below, grows-refl}
use Rattle.pt_laws.proofs.KahnLaws.{faults-below, rest-no-faults, and-left, at-rest, in-left, in-right}
use Rattle.pt_laws.proofs.RunLaws.{runs-below, left-length, take-left, drop-left, head-is, tail-is, within-step, within-one, few-step}

module _ {T S : Type 0} (facts : Facts T S) (step : Stepping T S) (tag : Tag) where
  on_stuck : (n : ℕ) (go go' : S → Streams T → Flow T S) (fs : List Fault) (Good : Flow T S → Type 0) → ((s : S) (X : Streams T) → (go s X).fired ≡ n → Good (go s X) → (go' s X).stop ≡ Stopped fs) →
      ((o : Streams T) (l : Log T) (f : Flow T S) → Good (after_firing o l f) → Good f) →
      (s : S) (X got left : Streams T) (r : Outcome T S) → (on_outcome facts step tag go s X got left r).fired ≡ suc n → Good (on_outcome facts step tag go s X got left r) → (on_outcome facts step tag go' s X got left r).stop ≡ Stopped fs
  on_stuck n go go' fs Good ih inner s X got left (Done z o l) e g = ih z left (omega arith) (inner o _ (go z left) g)
  on_stuck n go go' fs Good ih inner s X got left (Stuck gs l) e g = absurd (omega arith)

  front_stuck : (n : ℕ) (go go' : S → Streams T → Flow T S) (fs : List Fault) (Good : Flow T S → Type 0) → ((s : S) (X : Streams T) → (go s X).fired ≡ n → Good (go s X) → (go' s X).stop ≡ Stopped fs) →
      ((o : Streams T) (l : Log T) (f : Flow T S) → Good (after_firing o l f) → Good f) →
      (s : S) (X : Streams T) (f : Front T) → (on_front facts step tag go s X f).fired ≡ suc n → Good (on_front facts step tag go s X f) → (on_front facts step tag go' s X f).stop ≡ Stopped fs
  front_stuck n go go' fs Good ih inner s X Lacks e g = absurd (omega arith)
  front_stuck n go go' fs Good ih inner s X Ends e g = absurd (omega arith)
  front_stuck n go go' fs Good ih inner s X (Takes got left) e g = on_stuck n go go' fs Good ih inner s X got left (step tag s got) e g

  first-stuck : (s : S) (X got left : Streams T) (fs : List Fault) (l : Log T) (go : S → Streams T → Flow T S) (f : Front T) → f ≡ Takes got left → step tag s got ≡ Stuck fs l → (on_front facts step tag go s X f).stop ≡ Stopped fs
  first-stuck s X got left fs l go f e d = rw (e, d) refl

  pub flow-stuck : (n : ℕ) (s : S) (X got left : Streams T) (fs : List Fault) (l : Log T) → (flow facts step tag n s X).fired ≡ n →
      front (facts.need (flow facts step tag n s X).state) (flow facts step tag n s X).left ≡ Takes got left → step tag (flow facts step tag n s X).state got ≡ Stuck fs l → (flow facts step tag (suc n) s X).stop ≡ Stopped fs
  unfolding flow
  flow-stuck zero s X got left fs l e f d = first-stuck s X got left fs l (flow facts step tag 0) (front (facts.need s) X) f d
  flow-stuck (suc n) s X got left fs l e f d =
      front_stuck n (flow facts step tag n) (flow facts step tag (suc n)) fs
      (λ f. (front (facts.need f.state) f.left ≡ Takes got left) × (step tag f.state got ≡ Stuck fs l))
      (λ z Z e' g. flow-stuck n z Z got left fs l e' g.0 g.1) (λ o m f g. g) s X (front (facts.need s) X) e (f, d)

pub in-prefixed : (i : ℕ) (f : Fault) (fs : List Fault) → IsIn f fs → IsIn (record { path = i ∷ f.path; firing = f.firing; code = f.code }) (prefixed i fs)
in-prefixed i f [] h = absurd h
in-prefixed i f (g ∷ fs) (inl e) = inl (ap (λ (x : Fault). let y : Fault = record { path = i ∷ x.path; firing = x.firing; code = x.code } in y) e)
in-prefixed i f (g ∷ fs) (inr h) = inr (in-prefixed i f fs h)

abbrev pub bumped : ℕ → List ℕ → List ℕ
bumped i [] = []
bumped zero (m ∷ ms) = suc m ∷ ms
bumped (suc i) (m ∷ ms) = m ∷ bumped i ms

pub bumped-length : (i : ℕ) (ms : List ℕ) → length (bumped i ms) ≡ length ms
bumped-length i [] = refl
bumped-length zero (m ∷ ms) = refl
bumped-length (suc i) (m ∷ ms) = ap (λ v. suc v) (bumped-length i ms)

module _ {T S : Type 0} (facts : Facts T S) (step : Stepping T S) (tag : Tag) where
  sticks-in : (i b : ℕ) (ns : List ℕ) (cs : List Limit) (ms : List ℕ) (ss : List S) (A own : Streams T) (now : List S) (held : Streams T) (f : Fault) → length ms ≡ length ns → Fits ns A → MadeAll ms (runs facts step tag ns cs ms ss A) →
      now ≡ states_of (runs facts step tag ns cs ms ss A) → held ≡ left_by (runs facts step tag ns cs ms ss A) ++ own → SticksAt facts step tag i ns cs ms now held f →
      IsIn (record { path = (b + i) ∷ f.path; firing = f.firing; code = f.code }) (faults_of b (runs facts step tag ns cs (bumped i ms) ss A))
  sticks-in i b [] cs ms ss A own now held f e fit h st lf x = absurd x
  sticks-in i b (n ∷ ns) [] ms ss A own now held f e fit h st lf x = absurd x
  sticks-in i b (n ∷ ns) (c ∷ cs) [] ss A own now held f e fit h st lf x = absurd (omega arith)
  sticks-in i b (n ∷ ns) (c ∷ cs) (m ∷ ms) [] A own now held f e fit h st lf x = absurd h
  sticks-in i b (n ∷ ns) (c ∷ cs) (m ∷ ms) (s ∷ ss) A own [] held f e fit h st lf x = absurd (cc)
  sticks-in zero b (n ∷ ns) (c ∷ cs) (m ∷ ms) (s ∷ ss) A own (z ∷ now) held f e fit h st lf x =
      let F = flow facts (rated facts c.rates step) tag m s (take n A) in
      let R = runs facts step tag ns cs ms ss (drop n A) in
      let len : length F.left ≡ n = left-length facts (rated facts c.rates step) tag m s (take n A) ∙ length-take-le n A fit.0 in
      let tk : take n held ≡ F.left = take-left facts step tag n F.left (left_by R) own held len lf in
      let zs : z ≡ F.state = head-is facts step tag z F.state now (states_of R) st in
      let there : front (facts.need F.state) F.left ≡ Takes x.0 x.1 = subst (λ w. front (facts.need w) F.left ≡ Takes x.0 x.1) zs (subst (λ w. front (facts.need z) w ≡ Takes x.0 x.1) tk x.5) in
      let stuck : rated facts c.rates step tag F.state x.0 ≡ Stuck x.2 x.3 = subst (λ w. rated facts c.rates step tag w x.0 ≡ Stuck x.2 x.3) zs x.6 in
      let stop : (flow facts (rated facts c.rates step) tag (suc m) s (take n A)).stop ≡ Stopped x.2 = flow-stuck facts (rated facts c.rates step) tag m s (take n A) x.0 x.1 x.2 x.3 h.0 there stuck in
      let here : IsIn (record { path = b ∷ f.path; firing = f.firing; code = f.code }) (prefixed b (stop_faults (flow facts (rated facts c.rates step) tag (suc m) s (take n A)).stop)) =
      subst (λ w. IsIn (record { path = b ∷ f.path; firing = f.firing; code = f.code }) (prefixed b (stop_faults w))) (sym stop) (in-prefixed b f x.2 x.7)
      in
      let same : b + 0 ≡ b = omega arith in
      rw same (in-left _ _ (faults_of (suc b) R) here)
  sticks-in (suc i) b (n ∷ ns) (c ∷ cs) (m ∷ ms) (s ∷ ss) A own (z ∷ now) held f e fit h st lf x =
      let F = flow facts (rated facts c.rates step) tag m s (take n A) in
      let R = runs facts step tag ns cs ms ss (drop n A) in
      let len : length F.left ≡ n = left-length facts (rated facts c.rates step) tag m s (take n A) ∙ length-take-le n A fit.0 in
      let inner = sticks-in i (suc b) ns cs ms ss (drop n A) own now (drop n held) f (omega arith) fit.1 h.1 (tail-is facts step tag z F.state now (states_of R) st) (drop-left facts step tag n F.left (left_by R) own held len lf) x in
      let same : b + suc i ≡ suc b + i = omega arith in
      rw same (in-right _ (prefixed b (stop_faults F.stop)) _ inner)

  sticks-few : (i : ℕ) (ns : List ℕ) (cs : List Limit) (ms : List ℕ) (ss : List S) (held : Streams T) (f : Fault) (k : ℕ) → WithinAll cs ms k → SticksAt facts step tag i ns cs ms ss held f → WithinAll cs (bumped i ms) (suc k)
  sticks-few i [] cs ms ss held f k w x = absurd x
  sticks-few i (n ∷ ns) [] ms ss held f k w x = absurd x
  sticks-few i (n ∷ ns) (c ∷ cs) [] ss held f k w x = absurd x
  sticks-few i (n ∷ ns) (c ∷ cs) (m ∷ ms) [] held f k w x = absurd x
  sticks-few zero (n ∷ ns) (c ∷ cs) (m ∷ ms) (s ∷ ss) held f k w x = (within-one facts step tag c.firings m k x.4 w.0, few-step facts step tag cs ms k w.1)
  sticks-few (suc i) (n ∷ ns) (c ∷ cs) (m ∷ ms) (s ∷ ss) held f k w x = (within-step facts step tag c.firings m k w.0, sticks-few i ns cs ms ss (drop n held) f k w.1 x)

-- not settled, so stuck at all the children's places
pub stuck-at : {T S : Type 0} (b : Bool) (c : Inside (Streams T) S) (out : Streams T) (l : Log T) (fs : List Fault) (f : Fault) → (b ≡ true → fs ≡ []) → IsIn f fs → (gs : List Fault) × (m : Log T) × (if_settled b c out l fs ≡ Stuck gs m) × IsIn f gs
stuck-at false c out l fs f h i = (fs, l, refl, i)
stuck-at true c out l fs f h i = absurd (subst (λ v. IsIn f v) (h refl) i)

-- what is within a number of firings is within each greater one
within-more : (c : Option ℕ) (m j k : ℕ) → j ≤ k → m ≤ within c j → m ≤ within c k
within-more None m j k o h = omega arith
within-more (Some c) m j k o h = omega arith

pub few-more : (cs : List Limit) (ms : List ℕ) (j k : ℕ) → j ≤ k → WithinAll cs ms j → WithinAll cs ms k
few-more cs [] j k o h = tt
few-more [] (m ∷ ms) j k o h = absurd h
few-more (c ∷ cs) (m ∷ ms) j k o h = (within-more c.firings m j k o h.0, few-more cs ms j k o h.1)

-- where a run meets a child that is stuck, the firing has that place stuck
pub run-stuck-from : {T S : Type 0} (facts : Facts T S) (step : Stepping T S) (tag : Tag) (net : Net) (limits : List Limit) (kids : List S) (start : Streams T) (ms : List ℕ) (now : List S) (held : Streams T) → Running facts step tag net limits kids start ms now held →
    (i : ℕ) (f : Fault) → SticksAt facts step tag i net.places limits ms now held f → (enough : List (Flow T S) → Bool) (leaving : Leaving) → (k : ℕ) → total ms < k →
    (gs : List Fault) × (l : Log T) × (kahn facts step tag net limits enough leaving kids start k ≡ Stuck gs l) × IsIn (record { path = i ∷ f.path; firing = f.firing; code = f.code }) gs
unfolding kahn
run-stuck-from facts step tag net limits kids start ms now held r i f x enough leaving k o =
    let here = sticks-in facts step tag i 0 net.places limits ms kids r.all (skip_places net.places r.all) now held f r.each r.fits r.made r.states r.left x in
    let few = few-more limits (bumped i ms) (suc (total ms)) k (omega arith) (sticks-few facts step tag i net.places limits ms now held f (total ms) r.few x) in
    let below = runs-below facts step tag net.places limits (bumped i ms) kids k r.all (round facts step tag net limits kids start k) (bumped-length i ms ∙ r.each) few
    (Below-trans _ _ _ r.caused (round-below facts step step tag (grows-refl step) net limits kids start (total ms) k (omega arith)))
    in
    let same : 0 + i ≡ i = omega arith in
    let goal : IsIn (record { path = i ∷ f.path; firing = f.firing; code = f.code }) (faults_of 0 (flows facts step tag net.places limits k kids (round facts step tag net limits kids start k))) =
    faults-below 0 _ _ below _ (subst (λ j. IsIn (record { path = j ∷ f.path; firing = f.firing; code = f.code }) (faults_of 0 (runs facts step tag net.places limits (bumped i ms) kids r.all))) same here)
    in
    stuck-at (settled facts step tag net limits kids start k && enough (flows facts step tag net.places limits k kids (round facts step tag net limits kids start k))) _ _ _ _ _
    (λ e.
    rest-no-faults limits 0 (flows facts step tag net.places limits k kids (round facts step tag net limits kids start k))
    (at-rest facts step step tag (grows-refl step) net limits kids start k
    (and-left (settled facts step tag net limits kids start k) (enough (flows facts step tag net.places limits k kids (round facts step tag net limits kids start k))) e)))
    goal

pub run-stuck : {T S : Type 0} (facts : Facts T S) (step : Stepping T S) (tag : Tag) (net : Net) (limits : List Limit) (kids : List S) (start : Streams T) (ms : List ℕ) (now : List S) (held : Streams T) → Running facts step tag net limits kids start ms now held →
    (i : ℕ) (f : Fault) → SticksAt facts step tag i net.places limits ms now held f → (enough : List (Flow T S) → Bool) (leaving : Leaving) →
    (gs : List Fault) × (l : Log T) × (kahn facts step tag net limits enough leaving kids start (suc (total ms)) ≡ Stuck gs l) × IsIn (record { path = i ∷ f.path; firing = f.firing; code = f.code }) gs
run-stuck facts step tag net limits kids start ms now held r i f x enough leaving = run-stuck-from facts step tag net limits kids start ms now held r i f x enough leaving (suc (total ms)) (omega arith)
