-- The logs in a run of firings, and how a log is read.
use Rattle.std.proofs.Common.{◌≡◌, ℕ, zero, suc, ◌≤◌, ◌<◌, ◌+◌, List, [], ◌∷◌, ◌++◌, Bool, true, false, ◌&&◌, length, take, drop, Option, Some, None, get_or, refl, sym, ap, subst, arith, ◌∙◌, append_assoc, append-nil}
use Rattle.std.proofs.lemmas.List.{length-take-le}
use Rattle.pt_meaning.specs.Basics.{Tag, Streams, IsPrefix, at, Below, Path, Firing, Event, Finished, Met, Log, LogBelow, silent, log_then, log_below, within_firing, marked_event, all_marked, trace, given_on, with_tag, firings_in}
use Rattle.pt_meaning.specs.Basics as basics
use Rattle.pt_meaning.specs.Machine.{Fault, Outcome, Done, Stuck, Stepping, Facts, Front, Lacks, Ends, Takes, front}
use Rattle.pt_meaning.specs.Flow.{Flow, flow, on_outcome, on_front, after_firing}
use Rattle.pt_meaning.specs.Rounds.{Net, Limit, within, rated, rated_outcome, if_rated, has_rates, flows, round}
use Rattle.pt_meaning.specs.Dataflow.{Inside, logs_of, states_of, left_by, skip_places, Leaving, kahn, if_settled, settled}
use Rattle.pt_meaning.specs.Running.{runs, zeros, total, MadeAll, WithinAll, Running, Fits, Asks, SticksAt}
use Rattle.pt_laws.specs.LogsOfRuns.{silents, logs_then, log_at, log_in, rates_at, SticksWith, AskedFires, RunBeginsWith, RunEndsWith, RunSticksWith, RunIsPrefix, AskedIsPrefix, LogsStay, TracesAdd, CountsAdd}
use Rattle.pt_meaning.specs.Children.{with_number}
use Rattle.pt_laws.proofs.Order.{IsPrefix-refl, IsPrefix-trans, IsPrefix-after, IsPrefix-append, Below-trans, log_below-mono}
use Rattle.pt_laws.proofs.RoundLaws.{round-below, grows-refl}
use Rattle.pt_laws.proofs.KahnLaws.{logs-below}
use Rattle.pt_laws.proofs.RunLaws.{running-start, start-all, run-done-with, runs-below, left-length, take-left, drop-left, head-is, tail-is, within-step, within-one, few-step}
use Rattle.pt_laws.proofs.StuckLaws.{run-stuck-from, bumped, bumped-length, few-more}

-- the beginning, and a child that was asked
zeros-logs : {T S : Type 0} (facts : Facts T S) (step : Stepping T S) (tag : Tag) (ns : List ℕ) (cs : List Limit) (ss : List S) (X : Streams T) → length cs ≡ length ns → length ss ≡ length ns → silents ss ≡ logs_of (runs facts step tag ns cs (zeros ns) ss X)
unfolding flow
zeros-logs facts step tag [] cs [] X e f = refl
zeros-logs facts step tag [] cs (s ∷ ss) X e f = absurd (omega arith)
zeros-logs facts step tag (n ∷ ns) [] ss X e f = absurd (omega arith)
zeros-logs facts step tag (n ∷ ns) (c ∷ cs) [] X e f = absurd (omega arith)
zeros-logs facts step tag (n ∷ ns) (c ∷ cs) (s ∷ ss) X e f = ap (λ v. silent ∷ v) (zeros-logs facts step tag ns cs ss (drop n X) (omega arith) (omega arith))

pub begins-with : {T S : Type 0} → RunBeginsWith T S
begins-with facts step tag net limits kids start e f h =
    record {
      running = running-start facts step tag net limits kids start e f h;
      logs = zeros-logs facts step tag net.places limits kids start e f ∙ ap (λ X. logs_of (runs facts step tag net.places limits (zeros net.places) kids X)) (sym (start-all facts step tag net limits kids start e f h));
    }

pub asked-fires : {T S : Type 0} → AskedFires T S
asked-fires facts step tag zero (n ∷ ns) (c ∷ cs) (m ∷ ms) (s ∷ ss) held got held' s' out inside d a h =
    (s', a.0, record { allowed = a.1; there = a.2; done = h; number = refl; at_tag = refl }, ap (λ v. v ∷ ms) (omega arith), refl, a.3)
asked-fires facts step tag (suc i) (n ∷ ns) (c ∷ cs) (m ∷ ms) (s ∷ ss) held got held' s' out inside d a h = (_, _, a.0, asked-fires facts step tag i ns cs ms ss (drop n held) got a.0 s' out inside d a.1 h, refl, refl, a.2)
asked-fires facts step tag i [] cs ms ss held got held' s' out inside d a h = absurd a
asked-fires facts step tag i (n ∷ ns) [] ms ss held got held' s' out inside d a h = absurd a
asked-fires facts step tag i (n ∷ ns) (c ∷ cs) [] ss held got held' s' out inside d a h = absurd a
asked-fires facts step tag i (n ∷ ns) (c ∷ cs) (m ∷ ms) [] held got held' s' out inside d a h = absurd a

pub ends-with : {T S : Type 0} → RunEndsWith T S
ends-with {T} {S} facts step tag net limits kids start ms now held ls w nf enough leaving en k l =
    let e = run-done-with facts step tag net limits kids start ms now held w.running nf enough leaving en k l in
    (e.0, e.1, e.2, e.3, rw w.logs e.4)

-- a log that goes on is below one that goes on further
pub log-refl : {T : Type 0} (l : Log T) → LogBelow l l
log-refl l p = IsPrefix-refl (l p)

pub log-trans : {T : Type 0} (l m n : Log T) → LogBelow l m → LogBelow m n → LogBelow l n
log-trans l m n a b p = IsPrefix-trans (l p) (m p) (n p) (a p) (b p)

log-after : {T : Type 0} (l m n : Log T) → LogBelow m n → LogBelow (log_then l m) (log_then l n)
log-after l m n h p = IsPrefix-after (l p) (m p) (n p) (h p)

-- the next firing of a flow logs at least what its step logs
module _ {T S : Type 0} (facts : Facts T S) (step : Stepping T S) (tag : Tag) where
  on-asked : (n : ℕ) (go go' : S → Streams T → Flow T S) (L : Log T) (Good : Flow T S → Type 0) → ((s : S) (X : Streams T) → (go s X).fired ≡ n → Good (go s X) → LogBelow (log_then (go s X).log L) (go' s X).log) →
      ((o : Streams T) (l : Log T) (f : Flow T S) → Good (after_firing o l f) → Good f) →
      (s : S) (X got left : Streams T) (r : Outcome T S) → (on_outcome facts step tag go s X got left r).fired ≡ suc n → Good (on_outcome facts step tag go s X got left r) →
      LogBelow (log_then (on_outcome facts step tag go s X got left r).log L) (on_outcome facts step tag go' s X got left r).log
  on-asked n go go' L Good ih inner s X got left (Done z o l) e g p =
      let own : Log T = log_then l (basics.own (record { number = facts.made s; tag = tag; inputs = got; outputs = o })) in
      subst (λ v. IsPrefix v (own p ++ (go' z left).log p)) (sym (append_assoc (own p) ((go z left).log p) (L p)))
      (IsPrefix-after (own p) ((go z left).log p ++ L p) ((go' z left).log p) (ih z left (omega arith) (inner o own (go z left) g) p))
  on-asked n go go' L Good ih inner s X got left (Stuck fs l) e g p = absurd (omega arith)

  front-asked : (n : ℕ) (go go' : S → Streams T → Flow T S) (L : Log T) (Good : Flow T S → Type 0) → ((s : S) (X : Streams T) → (go s X).fired ≡ n → Good (go s X) → LogBelow (log_then (go s X).log L) (go' s X).log) →
      ((o : Streams T) (l : Log T) (f : Flow T S) → Good (after_firing o l f) → Good f) →
      (s : S) (X : Streams T) (f : Front T) → (on_front facts step tag go s X f).fired ≡ suc n → Good (on_front facts step tag go s X f) → LogBelow (log_then (on_front facts step tag go s X f).log L) (on_front facts step tag go' s X f).log
  front-asked n go go' L Good ih inner s X Lacks e g = absurd (omega arith)
  front-asked n go go' L Good ih inner s X Ends e g = absurd (omega arith)
  front-asked n go go' L Good ih inner s X (Takes got left) e g = on-asked n go go' L Good ih inner s X got left (step tag s got) e g

  on-first : (go : S → Streams T → Flow T S) (s : S) (X got left : Streams T) (r : Outcome T S) → LogBelow (log_in r) (on_outcome facts step tag go s X got left r).log
  on-first go s X got left (Done z o l) p = IsPrefix-trans (l p) _ _ (IsPrefix-append (l p) (basics.own (record { number = facts.made s; tag = tag; inputs = got; outputs = o }) p)) (IsPrefix-append _ ((go z left).log p))
  on-first go s X got left (Stuck fs l) p = IsPrefix-refl (l p)

  first-asked : (go : S → Streams T → Flow T S) (s : S) (X got left : Streams T) (L : Log T) (f : Front T) → f ≡ Takes got left → log_in (step tag s got) ≡ L → LogBelow L (on_front facts step tag go s X f).log
  first-asked go s X got left L f e h = rw (e, ← h) (on-first go s X got left (step tag s got))

  pub flow-asked : (n : ℕ) (s : S) (X got left : Streams T) (L : Log T) → (flow facts step tag n s X).fired ≡ n → front (facts.need (flow facts step tag n s X).state) (flow facts step tag n s X).left ≡ Takes got left →
      log_in (step tag (flow facts step tag n s X).state got) ≡ L → LogBelow (log_then (flow facts step tag n s X).log L) (flow facts step tag (suc n) s X).log
  unfolding flow
  flow-asked zero s X got left L e f d = first-asked (flow facts step tag 0) s X got left L (front (facts.need s) X) f d
  flow-asked (suc n) s X got left L e f d =
      front-asked n (flow facts step tag n) (flow facts step tag (suc n)) L (λ f. (front (facts.need f.state) f.left ≡ Takes got left) × (log_in (step tag f.state got) ≡ L)) (λ z Z e' g. flow-asked n z Z got left L e' g.0 g.1)
      (λ o m f g. g) s X (front (facts.need s) X) e (f, d)

-- child i is asked, and its step logs at least the log inside
AskedLogs : {T S : Type 0} → Facts T S → Stepping T S → Tag → ℕ → List ℕ → List Limit → List ℕ → List S → Streams T → Log T → Type 0
AskedLogs {T} {S} facts step tag zero (n ∷ ns) (c ∷ cs) (m ∷ ms) (s ∷ ss) held inside =
    (got left : Streams T) × (suc m ≤ within c.firings (suc m)) × (front (facts.need s) (take n held) ≡ Takes got left) × LogBelow inside (log_in (rated facts c.rates step tag s got))
AskedLogs facts step tag (suc i) (n ∷ ns) (c ∷ cs) (m ∷ ms) (s ∷ ss) held inside = AskedLogs facts step tag i ns cs ms ss (drop n held) inside
AskedLogs facts step tag i [] cs ms ss held inside = ⊥
AskedLogs facts step tag i (n ∷ ns) [] ms ss held inside = ⊥
AskedLogs facts step tag i (n ∷ ns) (c ∷ cs) [] ss held inside = ⊥
AskedLogs facts step tag i (n ∷ ns) (c ∷ cs) (m ∷ ms) [] held inside = ⊥

module _ {T S : Type 0} (facts : Facts T S) (step : Stepping T S) (tag : Tag) where
  asked-logs : (i : ℕ) (ns : List ℕ) (cs : List Limit) (ms : List ℕ) (ss : List S) (held got held' : Streams T) (d : S) (inside : Log T) → Asks facts i ns cs ms ss held got held' → LogBelow inside (log_in (rated facts (rates_at cs i) step tag (get_or ss i d) got)) →
      AskedLogs facts step tag i ns cs ms ss held inside
  unfolding AskedLogs
  asked-logs zero (n ∷ ns) (c ∷ cs) (m ∷ ms) (s ∷ ss) held got held' d inside a h = (got, a.0, a.1, a.2, h)
  asked-logs (suc i) (n ∷ ns) (c ∷ cs) (m ∷ ms) (s ∷ ss) held got held' d inside a h = asked-logs i ns cs ms ss (drop n held) got a.0 d inside a.1 h
  asked-logs i [] cs ms ss held got held' d inside a h = a
  asked-logs i (n ∷ ns) [] ms ss held got held' d inside a h = a
  asked-logs i (n ∷ ns) (c ∷ cs) [] ss held got held' d inside a h = a
  asked-logs i (n ∷ ns) (c ∷ cs) (m ∷ ms) [] held got held' d inside a h = a

  sticks-logs : (i : ℕ) (ns : List ℕ) (cs : List Limit) (ms : List ℕ) (ss : List S) (held : Streams T) (inside : Log T) (f : Fault) → SticksWith facts step tag i ns cs ms ss held inside f → AskedLogs facts step tag i ns cs ms ss held inside × SticksAt facts step tag i ns cs ms ss held f
  unfolding AskedLogs
  sticks-logs zero (n ∷ ns) (c ∷ cs) (m ∷ ms) (s ∷ ss) held inside f x = ((x.0, x.1, x.3, x.4, rw x.5 (log-refl inside)), (x.0, x.1, x.2, inside, x.3, x.4, x.5, x.6))
  sticks-logs (suc i) (n ∷ ns) (c ∷ cs) (m ∷ ms) (s ∷ ss) held inside f x = sticks-logs i ns cs ms ss (drop n held) inside f x
  sticks-logs i [] cs ms ss held inside f x = absurd x
  sticks-logs i (n ∷ ns) [] ms ss held inside f x = absurd x
  sticks-logs i (n ∷ ns) (c ∷ cs) [] ss held inside f x = absurd x
  sticks-logs i (n ∷ ns) (c ∷ cs) (m ∷ ms) [] held inside f x = absurd x

  asked-few : (i : ℕ) (ns : List ℕ) (cs : List Limit) (ms : List ℕ) (ss : List S) (held : Streams T) (inside : Log T) (k : ℕ) → WithinAll cs ms k → AskedLogs facts step tag i ns cs ms ss held inside → WithinAll cs (bumped i ms) (suc k)
  unfolding AskedLogs
  asked-few i [] cs ms ss held inside k w x = absurd x
  asked-few i (n ∷ ns) [] ms ss held inside k w x = absurd x
  asked-few i (n ∷ ns) (c ∷ cs) [] ss held inside k w x = absurd x
  asked-few i (n ∷ ns) (c ∷ cs) (m ∷ ms) [] held inside k w x = absurd x
  asked-few zero (n ∷ ns) (c ∷ cs) (m ∷ ms) (s ∷ ss) held inside k w x = (within-one facts step tag c.firings m k x.2 w.0, few-step facts step tag cs ms k w.1)
  asked-few (suc i) (n ∷ ns) (c ∷ cs) (m ∷ ms) (s ∷ ss) held inside k w x = (within-step facts step tag c.firings m k w.0, asked-few i ns cs ms ss (drop n held) inside k w.1 x)

  asked-in : (i : ℕ) (ns : List ℕ) (cs : List Limit) (ms : List ℕ) (ss : List S) (A own : Streams T) (now : List S) (held : Streams T) (inside : Log T) → length ms ≡ length ns → Fits ns A → MadeAll ms (runs facts step tag ns cs ms ss A) →
      now ≡ states_of (runs facts step tag ns cs ms ss A) → held ≡ left_by (runs facts step tag ns cs ms ss A) ++ own → AskedLogs facts step tag i ns cs ms now held inside →
      LogBelow (log_below (logs_then i inside (logs_of (runs facts step tag ns cs ms ss A)))) (log_below (logs_of (runs facts step tag ns cs (bumped i ms) ss A)))
  unfolding AskedLogs
  asked-in i [] cs ms ss A own now held inside e fit h st lf x = absurd x
  asked-in i (n ∷ ns) [] ms ss A own now held inside e fit h st lf x = absurd x
  asked-in i (n ∷ ns) (c ∷ cs) [] ss A own now held inside e fit h st lf x = absurd (omega arith)
  asked-in i (n ∷ ns) (c ∷ cs) (m ∷ ms) [] A own now held inside e fit h st lf x = absurd h
  asked-in i (n ∷ ns) (c ∷ cs) (m ∷ ms) (s ∷ ss) A own [] held inside e fit h st lf x = absurd (cc)
  asked-in zero (n ∷ ns) (c ∷ cs) (m ∷ ms) (s ∷ ss) A own (z ∷ now) held inside e fit h st lf x =
      let F = flow facts (rated facts c.rates step) tag m s (take n A) in
      let R = runs facts step tag ns cs ms ss (drop n A) in
      let len : length F.left ≡ n = left-length facts (rated facts c.rates step) tag m s (take n A) ∙ length-take-le n A fit.0 in
      let tk : take n held ≡ F.left = take-left facts step tag n F.left (left_by R) own held len lf in
      let zs : z ≡ F.state = head-is facts step tag z F.state now (states_of R) st in
      let there : front (facts.need F.state) F.left ≡ Takes x.0 x.1 = subst (λ w. front (facts.need w) F.left ≡ Takes x.0 x.1) zs (subst (λ w. front (facts.need z) w ≡ Takes x.0 x.1) tk x.3) in
      let logged : LogBelow inside (log_in (rated facts c.rates step tag F.state x.0)) = subst (λ w. LogBelow inside (log_in (rated facts c.rates step tag w x.0))) zs x.4 in
      log_below-mono (log_then F.log inside) (flow facts (rated facts c.rates step) tag (suc m) s (take n A)).log (logs_of R) (logs_of R)
      (log-trans _ _ _ (log-after F.log inside (log_in (rated facts c.rates step tag F.state x.0)) logged) (flow-asked facts (rated facts c.rates step) tag m s (take n A) x.0 x.1 _ h.0 there refl))
      (log-refl (log_below (logs_of R)))
  asked-in (suc i) (n ∷ ns) (c ∷ cs) (m ∷ ms) (s ∷ ss) A own (z ∷ now) held inside e fit h st lf x =
      let F = flow facts (rated facts c.rates step) tag m s (take n A) in
      let R = runs facts step tag ns cs ms ss (drop n A) in
      let len : length F.left ≡ n = left-length facts (rated facts c.rates step) tag m s (take n A) ∙ length-take-le n A fit.0 in
      log_below-mono F.log F.log _ _ (log-refl F.log)
      (asked-in i ns cs ms ss (drop n A) own now (drop n held) inside (omega arith) fit.1 h.1 (tail-is facts step tag z F.state now (states_of R) st) (drop-left facts step tag n F.left (left_by R) own held len lf) x)

pub log-of-settled : {T S : Type 0} (b : Bool) (c : Inside (Streams T) S) (out : Streams T) (l : Log T) (fs : List Fault) → l ≡ log_in (if_settled b c out l fs)
log-of-settled true c out l fs = refl
log-of-settled false c out l fs = refl

module _ {T S : Type 0} (facts : Facts T S) (step : Stepping T S) (tag : Tag) (net : Net) (limits : List Limit) (kids : List S) (start : Streams T) (ms : List ℕ) (now : List S) (held : Streams T) (r : Running facts step tag net limits kids start ms now held) where
  -- the log of a firing has what fewer firings of its children on fewer tokens have
  runs-logs : (ns : List ℕ) → length ns ≡ length net.places → (k : ℕ) → total ms ≤ k → WithinAll limits ns k → (enough : List (Flow T S) → Bool) (leaving : Leaving) →
      LogBelow (log_below (logs_of (runs facts step tag net.places limits ns kids r.all))) (log_in (kahn facts step tag net limits enough leaving kids start k))
  unfolding kahn
  runs-logs ns e k o w enough leaving =
      let Y = round facts step tag net limits kids start k in
      let fs = flows facts step tag net.places limits k kids Y in
      let below = runs-below facts step tag net.places limits ns kids k r.all Y e w (Below-trans _ _ _ r.caused (round-below facts step step tag (grows-refl step) net limits kids start (total ms) k o)) in
      subst (λ v. LogBelow (log_below (logs_of (runs facts step tag net.places limits ns kids r.all))) v) (log-of-settled (settled facts step tag net limits kids start k && enough fs) _ _ (log_below (logs_of fs)) _) (logs-below _ _ below)

  pub prefix-of : (k : ℕ) → total ms ≤ k → (enough : List (Flow T S) → Bool) (leaving : Leaving) → LogBelow (log_below (logs_of (runs facts step tag net.places limits ms kids r.all))) (log_in (kahn facts step tag net limits enough leaving kids start k))
  prefix-of k o enough leaving = runs-logs ms r.each k o (few-more limits ms (total ms) k o r.few) enough leaving

  asked-prefix : (i : ℕ) (inside : Log T) → AskedLogs facts step tag i net.places limits ms now held inside → (k : ℕ) → total ms < k → (enough : List (Flow T S) → Bool) (leaving : Leaving) →
      LogBelow (log_below (logs_then i inside (logs_of (runs facts step tag net.places limits ms kids r.all)))) (log_in (kahn facts step tag net limits enough leaving kids start k))
  asked-prefix i inside x k o enough leaving =
      log-trans _ _ _ (asked-in facts step tag i net.places limits ms kids r.all (skip_places net.places r.all) now held inside r.each r.fits r.made r.states r.left x)
      (runs-logs (bumped i ms) (bumped-length i ms ∙ r.each) k (omega arith) (few-more limits (bumped i ms) (suc (total ms)) k (omega arith) (asked-few facts step tag i net.places limits ms now held inside (total ms) r.few x)) enough leaving)

pub run-is-prefix : {T S : Type 0} → RunIsPrefix T S
run-is-prefix facts step tag net limits kids start ms now held ls w enough leaving k o = rw w.logs (prefix-of facts step tag net limits kids start ms now held w.running k o enough leaving)

pub asked-is-prefix : {T S : Type 0} → AskedIsPrefix T S
asked-is-prefix facts step tag net limits kids start ms now held ls w i got held' d a inside h enough leaving k o =
    rw w.logs (asked-prefix facts step tag net limits kids start ms now held w.running i inside (asked-logs facts step tag i net.places limits ms now held got held' d inside a h) k o enough leaving)

pub sticks-with : {T S : Type 0} → RunSticksWith T S
sticks-with {T} {S} facts step tag net limits kids start ms now held ls w i inside f x enough leaving k o =
    let s = sticks-logs facts step tag i net.places limits ms now held inside f x in
    let e = run-stuck-from facts step tag net limits kids start ms now held w.running i f s.1 enough leaving k o in
    (e.0, e.1, e.2, e.3, rw w.logs (subst (λ r. LogBelow (log_below (logs_then i inside (logs_of (runs facts step tag net.places limits ms kids w.running.all)))) (log_in r)) e.2 (asked-prefix facts step tag net limits kids start ms now held w.running i inside s.0 k o enough leaving)))

log-if_rated : {T S : Type 0} (b : Bool) (n : ℕ) (s : S) (out : Streams T) (l : Log T) → log_in (if_rated b n s out l) ≡ l
log-if_rated true n s out l = refl
log-if_rated false n s out l = refl

log-rated_outcome : {T S : Type 0} (ns : List ℕ) (n : ℕ) (r : Outcome T S) → log_in (rated_outcome ns n r) ≡ log_in r
log-rated_outcome ns n (Done s out l) = log-if_rated (has_rates ns out) n s out l
log-rated_outcome ns n (Stuck fs l) = refl

pub log-rated : {T S : Type 0} (facts : Facts T S) (rates : Option (List ℕ)) (step : Stepping T S) (tag : Tag) (s : S) (X : Streams T) → log_in (rated facts rates step tag s X) ≡ log_in (step tag s X)
log-rated facts None step tag s X = refl
log-rated facts (Some ns) step tag s X = log-rated_outcome ns (facts.made s) (step tag s X)

pub log-with_number : {T S : Type 0} (i : ℕ) (r : Outcome T S) → log_in (with_number i r) ≡ log_in r
log-with_number i (Done s out l) = refl
log-with_number i (Stuck fs l) = refl

pub logs-stay : {T S : Type 0} → LogsStay T S
logs-stay = record { through_rates = log-rated; through_numbers = log-with_number; through_steps = λ steps tag c X. log-with_number c.number (steps c.number tag c.node X) }

-- how a log is read
given-append : {T : Type 0} (port : ℕ) (xs ys : List (Event T)) → given_on port (xs ++ ys) ≡ given_on port xs ++ given_on port ys
given-append port [] ys = refl
given-append port (Finished ns f ∷ xs) ys = ap (λ v. with_tag f.tag (at f.outputs port) ++ v) (given-append port xs ys) ∙ sym (append_assoc (with_tag f.tag (at f.outputs port)) (given_on port xs) (given_on port ys))
given-append port (Met ns n m ∷ xs) ys = given-append port xs ys

given-marked : {T : Type 0} (port n : ℕ) (xs : List (Event T)) → given_on port (all_marked n xs) ≡ given_on port xs
given-marked port n [] = refl
given-marked port n (Finished ns f ∷ xs) = ap (λ v. with_tag f.tag (at f.outputs port) ++ v) (given-marked port n xs)
given-marked port n (Met ns i m ∷ xs) = given-marked port n xs

below-at : {T : Type 0} (ls : List (Log T)) (i : ℕ) (p : Path) → log_below ls (i ∷ p) ≡ log_at ls i p
below-at [] i p = refl
below-at (l ∷ ls) zero p = refl
below-at (l ∷ ls) (suc i) p = below-at ls i p

trace-marked : {T : Type 0} (n : ℕ) (l : Log T) (p : Path) (port : ℕ) → trace (within_firing n l) p port ≡ trace l p port
trace-marked n l [] port = refl
trace-marked n l (i ∷ p) port = given-marked port n (l (i ∷ p))

pub traces-add : {T S : Type 0} → TracesAdd T S
traces-add = record {
  below = λ ls i p port. ap (λ es. given_on port es) (below-at ls i p);
  after = λ l m p port. given-append port (l p) (m p);
  by_own = λ f port. append-nil (with_tag f.tag (at f.outputs port));
  apart = λ f i p port. refl;
  marked = trace-marked;
  by_record = λ n tag X s out l p port. given-append port (l p) (basics.own (record { number = n; tag = tag; inputs = X; outputs = out }) p);
  unrecorded = λ n tag X fs l p port. refl;
}

count-append : {T : Type 0} (xs ys : List (Event T)) → firings_in (xs ++ ys) ≡ firings_in xs + firings_in ys
count-append [] ys = omega arith
count-append (Finished ns f ∷ xs) ys = omega (arith, count-append xs ys)
count-append (Met ns n m ∷ xs) ys = count-append xs ys

count-marked : {T : Type 0} (n : ℕ) (xs : List (Event T)) → firings_in (all_marked n xs) ≡ firings_in xs
count-marked n [] = refl
count-marked n (Finished ns f ∷ xs) = ap (λ v. suc v) (count-marked n xs)
count-marked n (Met ns i m ∷ xs) = count-marked n xs

count-within : {T : Type 0} (n : ℕ) (l : Log T) (p : Path) → firings_in (within_firing n l p) ≡ firings_in (l p)
count-within n l [] = refl
count-within n l (i ∷ p) = count-marked n (l (i ∷ p))

pub counts-add : {T : Type 0} → CountsAdd T
counts-add = record {
  below = λ ls i p. ap (λ es. firings_in es) (below-at ls i p);
  after = λ l m p. count-append (l p) (m p);
  by_own = λ f. refl;
  apart = λ f i p. refl;
  marked = count-within;
}
