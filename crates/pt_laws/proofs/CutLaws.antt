-- The cut law of PN.
use Rattle.std.proofs.Common.{◌≡◌, ℕ, zero, suc, ◌≤◌, ◌<◌, ◌+◌, List, [], ◌∷◌, ◌++◌, length, take, drop, None, refl, sym, ap, ap₂, subst, arith, ◌∙◌, append-nil, length-append}
use Rattle.pt_meaning.specs.Basics.{Tag, Streams, at, joined, Path, Firing, Event, Log, log_then, own, log_below, within_firing, trace, given_on, with_tag}
use Rattle.pt_meaning.specs.Machine.{Outcome, Done, Stuck, Stepping, Facts, recorded}
use Rattle.pt_meaning.specs.Flow.{Flow}
use Rattle.pt_meaning.specs.Rounds.{Net}
use Rattle.pt_meaning.specs.Dataflow.{PnPlan, arrived, pn_limits, left_by, logs_of, skip_places}
use Rattle.pt_meaning.specs.Process.{emptied}
use Rattle.pt_meaning.specs.Meetings.{Meets}
use Rattle.pt_meaning.specs.Children.{Child, numbered, nodes, child_facts}
use Rattle.pt_meaning.specs.Node.{Rows, Core, Pn, Past, Node, Nodes, Composite, list_of, nodes_of, fired_at, facts_of, height, heights, step_at, Step}
use Rattle.pt_meaning.specs.Running.{Running, runs, total, CannotFire, NoneCanFire}
use Rattle.pt_laws.specs.LogsOfRuns.{RunningWith}
use Rattle.pt_laws.specs.CompositeRuns.{steps_below, PnRun, outlets_of}
use Rattle.pt_laws.specs.CutLaw.{sums, logs_joined, kept_of, with_made, CutLaw}
use Rattle.pt_meaning.specs.Laws.{Extends}
use Rattle.pt_meaning.specs.Lawful.{LawfulRows}
use Rattle.pt_laws.proofs.Order.{at-joined}
use Rattle.pt_laws.proofs.FuelLaw.{more_fuel}
use Rattle.pt_laws.proofs.RunLaws.{left-total}
use Rattle.pt_laws.proofs.LogLaws.{traces-add}
use Rattle.pt_laws.proofs.HeightLaws.{any-level, step-keeps}
use Rattle.pt_laws.proofs.CompositeLaws.{first-part, second-part, firsts-all, behind-all, pn-ends, run-grows, steps-grow}
use Rattle.pt_laws.proofs.FiringLaws.{done-out, done-log, pn-firing-is-run}
use Rattle.pt_laws.proofs.JoinLaws.{runs-join, outlets-long, now-length, made-length}

-- a step that is done is so at each greater fuel
later-done : {T A : Type 0} (rows : Rows T A) → LawfulRows rows → (m : Meets) (k j : ℕ) → k ≤ j → (node s : Node T A) (tag : Tag) (X out : Streams T) (l : Log T) → Step k rows m node tag X ≡ Done s out l → Step j rows m node tag X ≡ Done s out l
later-done rows law m k j h node s tag X out l e = subst (λ r. Extends r (Step j rows m node tag X)) e (more_fuel rows law m k j h node tag X)

-- without the own record
pub record Unrecorded {T S : Type 0} (n : ℕ) (tag : Tag) (X : Streams T) (r : Outcome T S) (s : S) (out : Streams T) (l : Log T) : Type 0 where
  pub log : Log T
  pub done : r ≡ Done s out log
  pub joined_log : l ≡ log_then log (own (record { number = n; tag = tag; inputs = X; outputs = out }))

unrecorded : {T S : Type 0} (n : ℕ) (tag : Tag) (X : Streams T) (r : Outcome T S) (s : S) (out : Streams T) (l : Log T) → recorded n tag X r ≡ Done s out l → Unrecorded n tag X r s out l
unrecorded {T} {S} n tag X (Done z o k) s out l e = record {
  log = k;
  done = state_same;
  joined_log = sym (done-log z s o out _ l e) ∙ ap (λ (v : Streams T). let f : Firing T = record { number = n; tag = tag; inputs = X; outputs = v } in log_then k (own f)) (done-out z s o out _ l e);
}
  where
    bare : Outcome T S → Outcome T S
    bare (Done y p q) = Done y p k
    bare (Stuck fs q) = Stuck fs q

    state_same : Done z o k ≡ Done s out k
    state_same = ap bare e
unrecorded n tag X (Stuck fs k) s out l e = absurd (cc)

-- none can fire: that depends on the places alone
take-within : {B : Type 0} (n t : ℕ) (xs ys : List B) → take (n + t) xs ≡ take (n + t) ys → take n xs ≡ take n ys
take-within n t xs ys e = sym (shorter n t xs) ∙ ap (λ v. take n v) e ∙ shorter n t ys
  where
    shorter : {B : Type 0} (n t : ℕ) (xs : List B) → take n (take (n + t) xs) ≡ take n xs
    shorter zero t xs = refl
    shorter (suc n) t [] = let a : suc n + t ≡ suc (n + t) = omega arith in ap (λ v. take (suc n) (take v [])) a
    shorter (suc n) t (x ∷ xs) = let a : suc n + t ≡ suc (n + t) = omega arith in ap (λ v. take (suc n) (take v (x ∷ xs))) a ∙ ap (λ v. x ∷ v) (shorter n t xs)

drop-within : {B : Type 0} (n t : ℕ) (xs ys : List B) → take (n + t) xs ≡ take (n + t) ys → take t (drop n xs) ≡ take t (drop n ys)
drop-within n t xs ys e = sym (rest n t xs) ∙ ap (λ v. drop n v) e ∙ rest n t ys
  where
    rest : {B : Type 0} (n t : ℕ) (xs : List B) → drop n (take (n + t) xs) ≡ take t (drop n xs)
    rest zero t xs = let a : 0 + t ≡ t = omega arith in ap (λ v. take v xs) a
    rest {B} (suc n) t [] = let a : suc n + t ≡ suc (n + t) = omega arith in ap (λ v. drop (suc n) (take v [])) a ∙ none t
      where
        none : (t : ℕ) → [] ≡ take {A = B} t []
        none zero = refl
        none (suc t) = refl
    rest (suc n) t (x ∷ xs) = let a : suc n + t ≡ suc (n + t) = omega arith in ap (λ v. drop (suc n) (take v (x ∷ xs))) a ∙ rest n t xs

none-sums : {T S : Type 0} (facts : Facts T S) (ns ms js : List ℕ) (ss : List S) (X Y : Streams T) → take (total ns) X ≡ take (total ns) Y → length js ≡ length ns → NoneCanFire facts ns (pn_limits ns) js ss X → NoneCanFire facts ns (pn_limits ns) (sums ms js) ss Y
none-sums facts [] ms js ss X Y e a h = tt
none-sums facts (n ∷ ns) [] js ss X Y e a h = tt
none-sums facts (n ∷ ns) (m ∷ ms) [] ss X Y e a h = absurd (omega arith)
none-sums facts (n ∷ ns) (m ∷ ms) (j ∷ js) [] X Y e a h = tt
none-sums facts (n ∷ ns) (m ∷ ms) (j ∷ js) (s ∷ ss) X Y e a h = (
  subst (λ Z. CannotFire facts None (m + j) s Z) (take-within n (total ns) X Y e) h.0,
  none-sums facts ns ms js ss (drop n X) (drop n Y) (drop-within n (total ns) X Y e) (omega (arith, a)) h.1,
)

-- what a run holds
run-wide : {T S : Type 0} (facts : Facts T S) (step : Stepping T S) (tag : Tag) (net : Net) (kids : List S) (start : Streams T) (ms : List ℕ) (now : List S) (held : Streams T) → Running facts step tag net (pn_limits net.places) kids start ms now held → total net.places ≤ length held
run-wide facts step tag net kids start ms now held r =
    let L = left_by (runs facts step tag net.places (pn_limits net.places) ms kids r.all) in
    let a : length L ≡ total net.places = left-total facts step tag net.places (pn_limits net.places) ms kids r.all r.each r.fits r.made in
    let b : length held ≡ length L + length (skip_places net.places r.all) = ap (λ v. length v) r.left ∙ length-append L (skip_places net.places r.all) in
    omega (arith, a, b)

take-length-le : {B : Type 0} (n : ℕ) (xs : List B) → n ≤ length xs → length (take n xs) ≡ n
take-length-le zero xs h = refl
take-length-le (suc n) [] h = absurd (omega arith)
take-length-le (suc n) (x ∷ xs) h = ap (λ v. suc v) (take-length-le n xs (omega (arith, h)))

emptied-joined : {T : Type 0} (O E : Streams T) → length O ≡ length E → emptied (joined O E) ≡ emptied E
emptied-joined [] E e = refl
emptied-joined (o ∷ O) [] e = absurd (omega arith)
emptied-joined (o ∷ O) (x ∷ E) e = ap (λ v. [] ∷ v) (emptied-joined O E (omega (arith, e)))

list-nodes : {T A : Type 0} (ns : List (Node T A)) → list_of (nodes_of ns) ≡ ns
list-nodes [] = refl
list-nodes (n ∷ ns) = ap (λ v. n ∷ v) (list-nodes ns)

nodes-count : {S : Type 0} (zs : List (Child S)) → length (nodes zs) ≡ length zs
nodes-count [] = refl
nodes-count (z ∷ zs) = ap (λ v. suc v) (nodes-count zs)

-- logs joined child by child
below-joined : {T : Type 0} (ls ks : List (Log T)) → length ls ≡ length ks → (i : ℕ) (p : Path) → log_below (logs_joined ls ks) (i ∷ p) ≡ log_below ls (i ∷ p) ++ log_below ks (i ∷ p)
below-joined [] [] e i p = refl
below-joined [] (k ∷ ks) e i p = absurd (omega arith)
below-joined (l ∷ ls) [] e i p = absurd (omega arith)
below-joined (l ∷ ls) (k ∷ ks) e zero p = refl
below-joined (l ∷ ls) (k ∷ ks) e (suc i) p = below-joined ls ks (omega (arith, e)) i p

given-more : {T : Type 0} (port : ℕ) (xs ys : List (Event T)) → given_on port (xs ++ ys) ≡ given_on port xs ++ given_on port ys
given-more {T} port xs ys = (traces-add {T = T} {S = ℕ}).after (λ p. xs) (λ p. ys) [] port

tagged-more : {T : Type 0} (t : Tag) (xs ys : List T) → with_tag t (xs ++ ys) ≡ with_tag t xs ++ with_tag t ys
tagged-more t [] ys = refl
tagged-more t (x ∷ xs) ys = ap (λ v. (t, x) ∷ v) (tagged-more t xs ys)

-- the traces of the whole firing, from those of both
pub node-log : {T : Type 0} → ℕ → Tag → Streams T → Streams T → List (Log T) → Log T
node-log n tag X out ls = log_then (within_firing n (log_below ls)) (own (record { number = n; tag = tag; inputs = X; outputs = out }))

node-trace : {T : Type 0} (n : ℕ) (tag : Tag) (X out : Streams T) (ls : List (Log T)) (p : Path) (port : ℕ) → trace (node-log n tag X out ls) p port ≡ given_on port (log_below ls p) ++ trace (own (record { number = n; tag = tag; inputs = X; outputs = out })) p port
unfolding node-log
node-trace {T} n tag X out ls p port =
    (traces-add {T = T} {S = ℕ}).after (within_firing n (log_below ls)) (own (record { number = n; tag = tag; inputs = X; outputs = out })) p port ∙
    ap (λ v. v ++ trace (own (record { number = n; tag = tag; inputs = X; outputs = out })) p port) ((traces-add {T = T} {S = ℕ}).marked n (log_below ls) p port)

traces-join : {T : Type 0} (n o : ℕ) (tag : Tag) (X A B out more : Streams T) (ls ks : List (Log T)) → length ls ≡ length ks → (p : Path) (port : ℕ) →
    trace (node-log n tag X (joined out more) (logs_joined ls ks)) p port ≡ trace (node-log n tag A out ls) p port ++ trace (node-log o tag B more ks) p port
traces-join {T} n o tag X A B out more ls ks e p port = node-trace n tag X (joined out more) (logs_joined ls ks) p port ∙ go p ∙ ap₂ (λ a b. a ++ b) (sym (node-trace n tag A out ls p port)) (sym (node-trace o tag B more ks p port))
  where
    go : (p : Path) → given_on port (log_below (logs_joined ls ks) p) ++ trace (own (record { number = n; tag = tag; inputs = X; outputs = joined out more })) p port ≡
        (given_on port (log_below ls p) ++ trace (own (record { number = n; tag = tag; inputs = A; outputs = out })) p port) ++ (given_on port (log_below ks p) ++ trace (own (record { number = o; tag = tag; inputs = B; outputs = more })) p port)
    go [] = first ls ks e
      where
        own_part : with_tag tag (at (joined out more) port) ++ [] ≡ (with_tag tag (at out port) ++ []) ++ (with_tag tag (at more port) ++ [])
        own_part = append-nil (with_tag tag (at (joined out more) port)) ∙ ap (λ v. with_tag tag v) (at-joined out more port) ∙ tagged-more tag (at out port) (at more port) ∙ ap₂ (λ a b. a ++ b) (sym (append-nil (with_tag tag (at out port)))) (sym (append-nil (with_tag tag (at more port))))

        first : (ls ks : List (Log T)) → length ls ≡ length ks → given_on port (log_below (logs_joined ls ks) []) ++ (with_tag tag (at (joined out more) port) ++ []) ≡ (given_on port (log_below ls []) ++ (with_tag tag (at out port) ++ [])) ++ (given_on port (log_below ks []) ++ (with_tag tag (at more port) ++ []))
        first [] [] e = own_part
        first [] (k ∷ ks) e = absurd (omega arith)
        first (l ∷ ls) [] e = absurd (omega arith)
        first (l ∷ ls) (k ∷ ks) e = own_part
    go (i ∷ p) =
        append-nil (given_on port (log_below (logs_joined ls ks) (i ∷ p))) ∙ ap (λ v. given_on port v) (below-joined ls ks e i p) ∙ given-more port (log_below ls (i ∷ p)) (log_below ks (i ∷ p)) ∙
        ap₂ (λ a b. a ++ b) (sym (append-nil (given_on port (log_below ls (i ∷ p))))) (sym (append-nil (given_on port (log_below ks (i ∷ p)))))

-- both firings, at one fuel and below one number of levels
module _ {T A : Type 0} (rows : Rows T A) (law : LawfulRows rows) (m : Meets) (k : ℕ) (tag : Tag) (h : Past) (c : Core T) (p : PnPlan) (X : Streams T) (kids : Nodes T A) (b : length (list_of kids) ≡ length p.net.places) (In More : Streams T) (ms js : List ℕ) (now later : List (Child (Node T A))) (held after : Streams T) (ls ks : List (Log T))
    (w : PnRun rows k (heights kids) m tag p X kids In ms now held ls) (v : RunningWith (child_facts (facts_of rows)) (steps_below rows k (heights kids) m) tag p.net (pn_limits p.net.places) now (arrived p.net.sources More (kept_of p.net held)) js later after ks) (nf : NoneCanFire (child_facts (facts_of rows)) p.net.places (pn_limits p.net.places) js later after) where
  all-held : Streams T
  all-held = take (total p.net.places) after ++ joined (outlets_of p.net held) (outlets_of p.net after)

  after-wide : length (take (total p.net.places) after) ≡ total p.net.places
  after-wide = take-length-le (total p.net.places) after (run-wide (child_facts (facts_of rows)) (steps_below rows k (heights kids) m) tag p.net now _ js later after v.running)

  places-same : take (total p.net.places) all-held ≡ take (total p.net.places) after
  unfolding all-held
  places-same = first-part (total p.net.places) (take (total p.net.places) after) (joined (outlets_of p.net held) (outlets_of p.net after)) all-held refl after-wide

  outlets-same : outlets_of p.net all-held ≡ joined (outlets_of p.net held) (outlets_of p.net after)
  unfolding all-held
  outlets-same = second-part (total p.net.places) (take (total p.net.places) after) (joined (outlets_of p.net held) (outlets_of p.net after)) all-held refl after-wide

  kept-same : take (total p.net.places) all-held ++ emptied (outlets_of p.net all-held) ≡ kept_of p.net after
  kept-same =
      ap₂ (λ a b. a ++ b) places-same (ap (λ Y. emptied Y) outlets-same ∙ emptied-joined (outlets_of p.net held) (outlets_of p.net after) (outlets-long (child_facts (facts_of rows)) (steps_below rows k (heights kids) m) tag p.net (numbered 0 (list_of kids)) X In More ms now held w.running js later after v.running))

  joined-run : PnRun rows k (heights kids) m tag p X kids (joined In More) (sums ms js) later all-held (logs_joined ls ks)
  unfolding all-held
  joined-run = runs-join (child_facts (facts_of rows)) (steps_below rows k (heights kids) m) tag p.net (numbered 0 (list_of kids)) X In More ms js now later held after ls ks w v

  none-fires : NoneCanFire (child_facts (facts_of rows)) p.net.places (pn_limits p.net.places) (sums ms js) later all-held
  none-fires = none-sums (child_facts (facts_of rows)) p.net.places ms js later after all-held (sym places-same) v.running.each nf

  joined-done : (i : ℕ) → k ≤ i → total (sums ms js) < i →
      Step i rows m (Composite h c (Pn p X) kids) tag (joined In More) ≡ Done (Composite (fired_at tag h) c (Pn p (kept_of p.net after)) (nodes_of (nodes later))) (joined (outlets_of p.net held) (outlets_of p.net after)) (node-log h.made tag (joined In More) (joined (outlets_of p.net held) (outlets_of p.net after)) (logs_joined ls ks))
  unfolding node-log
  joined-done i o l =
      let lifted = run-grows (child_facts (facts_of rows)) (steps_below rows k (heights kids) m) (steps_below rows i (heights kids) m) (steps-grow rows law m k i (heights kids) (heights kids) o (omega arith)) tag p.net (pn_limits p.net.places) (numbered 0 (list_of kids)) _ (sums ms js) later all-held (logs_joined ls ks) joined-run in
      let done = pn-ends rows i (heights kids) m tag h c p X kids (joined In More) (sums ms js) later all-held (logs_joined ls ks) lifted none-fires l in
      ap (λ r. recorded h.made tag (joined In More) r)
      (done ∙
      ap₂ (λ (x y : Streams T). let r : Outcome T (Node T A) = Done (Composite (fired_at tag h) c (Pn p x) (nodes_of (nodes later))) y (within_firing h.made (log_below (logs_joined ls ks))) in r) kept-same outlets-same)

logs-wide : {T S : Type 0} (facts : Facts T S) (step : Stepping T S) (tag : Tag) (net : Net) (kids : List S) (start : Streams T) (ms : List ℕ) (now : List S) (held : Streams T) (ls : List (Log T)) → RunningWith facts step tag net (pn_limits net.places) kids start ms now held ls → length ls ≡ length net.places
logs-wide {T} {S} facts step tag net kids start ms now held ls w =
    let fs = runs facts step tag net.places (pn_limits net.places) ms kids w.running.all in ap (λ v. length v) w.logs ∙ logs-length fs ∙ made-length ms fs w.running.made ∙ w.running.each
  where
    logs-length : (fs : List (Flow T S)) → length (logs_of fs) ≡ length fs
    logs-length [] = refl
    logs-length (f ∷ fs) = ap (λ v. suc v) (logs-length fs)

-- what is kept, and how wide it is
kept-wide : {T : Type 0} (net : Net) (held : Streams T) → total net.places ≤ length held → total net.places ≤ length (kept_of net held)
kept-wide net held h = omega (arith, length-append (take (total net.places) held) (emptied (outlets_of net held)), take-length-le (total net.places) held h)

as-node-log : {T : Type 0} (i : ℕ) (tag : Tag) (X out : Streams T) (ls : List (Log T)) (l inside : Log T) → l ≡ log_then inside (own (record { number = i; tag = tag; inputs = X; outputs = out })) → inside ≡ within_firing i (log_below ls) → l ≡ node-log i tag X out ls
unfolding node-log
as-node-log i tag X out ls l inside e f = e ∙ ap (λ v. log_then v (own (record { number = i; tag = tag; inputs = X; outputs = out }))) f

-- from both runs to the joined firing
cut-runs : {T A : Type 0} (rows : Rows T A) → LawfulRows rows → (m : Meets) (k : ℕ) (tag : Tag) (h : Past) (c : Core T) (p : PnPlan) (X : Streams T) (kids : Nodes T A) → length (list_of kids) ≡ length p.net.places → (In More : Streams T) (ms js : List ℕ) (now later : List (Child (Node T A))) (held after : Streams T) (ls ks : List (Log T)) →
    PnRun rows k (heights kids) m tag p X kids In ms now held ls → RunningWith (child_facts (facts_of rows)) (steps_below rows k (heights kids) m) tag p.net (pn_limits p.net.places) now (arrived p.net.sources More (kept_of p.net held)) js later after ks → NoneCanFire (child_facts (facts_of rows)) p.net.places (pn_limits p.net.places) js later after →
    (last : Node T A) (out more : Streams T) (l n : Log T) → Composite (fired_at tag h) c (Pn p (kept_of p.net after)) (nodes_of (nodes later)) ≡ last → outlets_of p.net held ≡ out → outlets_of p.net after ≡ more → l ≡ node-log h.made tag In out ls → n ≡ node-log (suc h.made) tag More more ks →
    (j : ℕ) × (whole : Log T) × ((i : ℕ) → j ≤ i → Step i rows m (Composite h c (Pn p X) kids) tag (joined In More) ≡ Done last (joined out more) whole) × ((q : Path) (port : ℕ) → trace whole q port ≡ trace l q port ++ trace n q port)
cut-runs {T} {A} rows law m k tag h c p X kids b In More ms js now later held after ls ks w v nf last out more l n state eo en el ek = (
  suc (k + total (sums ms js)),
  node-log h.made tag (joined In More) (joined out more) (logs_joined ls ks),
  λ i o.
      joined-done rows law m k tag h c p X kids b In More ms js now later held after ls ks w v nf i (omega (arith, o)) (omega (arith, o)) ∙
      ap (λ (v : Node T A). let r : Outcome T (Node T A) = Done v (joined (outlets_of p.net held) (outlets_of p.net after)) (node-log h.made tag (joined In More) (joined (outlets_of p.net held) (outlets_of p.net after)) (logs_joined ls ks)) in r) state ∙
      ap₂ (λ (x y : Streams T). let r : Outcome T (Node T A) = Done last (joined x y) (node-log h.made tag (joined In More) (joined x y) (logs_joined ls ks)) in r) eo en,
  λ q port.
      traces-join h.made (suc h.made) tag (joined In More) In More out more ls ks (logs-wide (child_facts (facts_of rows)) (steps_below rows k (heights kids) m) tag p.net _ _ ms now held ls w ∙ sym (logs-wide (child_facts (facts_of rows)) (steps_below rows k (heights kids) m) tag p.net _ _ js later after ks v)) q port ∙
      ap₂ (λ (x y : Log T). trace x q port ++ trace y q port) (sym el) (sym ek),
)

-- what a PN firing is, in these words
pub record PnFiring {T A : Type 0} (rows : Rows T A) (k d : ℕ) (m : Meets) (tag : Tag) (h : Past) (c : Core T) (p : PnPlan) (X : Streams T) (kids : Nodes T A) (inputs : Streams T) (s : Node T A) (out : Streams T) (l : Log T) : Type 0 where
  pub ms : List ℕ
  pub now : List (Child (Node T A))
  pub held : Streams T
  pub ls : List (Log T)
  pub run : PnRun rows k d m tag p X kids inputs ms now held ls
  pub none : NoneCanFire (child_facts (facts_of rows)) p.net.places (pn_limits p.net.places) ms now held
  pub state : s ≡ Composite (fired_at tag h) c (Pn p (kept_of p.net held)) (nodes_of (nodes now))
  pub outputs : outlets_of p.net held ≡ out
  pub log : l ≡ node-log h.made tag inputs out ls
  pub numbers : numbered 0 (list_of (nodes_of (nodes now))) ≡ now

pn-firing : {T A : Type 0} (rows : Rows T A) (k d : ℕ) (m : Meets) (tag : Tag) (h : Past) (c : Core T) (p : PnPlan) (X : Streams T) (kids : Nodes T A) (inputs : Streams T) (s : Node T A) (out : Streams T) (l : Log T) → length (list_of kids) ≡ length p.net.places → total p.net.places ≤ length X →
    recorded h.made tag inputs (step_at rows k (suc d) m tag (Composite h c (Pn p X) kids) inputs) ≡ Done s out l → PnFiring rows k d m tag h c p X kids inputs s out l
pn-firing {T} {A} rows k d m tag h c p X kids inputs s out l b w e =
    let u = unrecorded h.made tag inputs (step_at rows k (suc d) m tag (Composite h c (Pn p X) kids) inputs) s out l e in
    let f = pn-firing-is-run rows k d m tag h c p X kids inputs s out u.log b w u.done in
    record {
      ms = f.0;
      now = f.1;
      held = f.2;
      ls = f.3;
      run = f.4;
      none = f.5;
      state = f.6.state ∙ ap (λ Y. Node.Composite (fired_at tag h) c (Core.Pn p (take (total p.net.places) f.2 ++ Y)) (nodes_of (nodes f.1))) (behind-all (outlets_of p.net f.2));
      outputs = sym (f.6.outputs ∙ firsts-all (outlets_of p.net f.2));
      log = as-node-log h.made tag inputs out f.3 l u.log u.joined_log f.6.log;
      numbers = ap (λ v. numbered 0 v) (list-nodes (nodes f.1)) ∙ f.6.numbers;
    }

pub cut-law : {T A : Type 0} → CutLaw T A
cut-law {T} {A} rows law m k k' tag h c p X kids b w In More middle last out more l n ea eb =
    let K : ℕ = k + k' in
    let d : ℕ = heights kids in
    let first : Step K rows m (Composite h c (Pn p X) kids) tag In ≡ Done middle out l = later-done rows law m k K (omega arith) (Composite h c (Pn p X) kids) middle tag In out l ea in
    let fa = pn-firing rows K d m tag h c p X kids In middle out l b w first in
    second K fa (subst (λ v. height v ≤ suc d) fa.state (step-keeps rows K m tag (Composite h c (Pn p X) kids) middle In out l first).0) (subst (λ v. Step K rows m v tag More ≡ Done last more n) fa.state (later-done rows law m k' K (omega arith) middle last tag More more n eb))
  where
    second : (K : ℕ) (fa : PnFiring rows K (heights kids) m tag h c p X kids In middle out l) → height (Composite (fired_at tag h) c (Pn p (kept_of p.net fa.held)) (nodes_of (nodes fa.now))) ≤ suc (heights kids) → Step K rows m (Composite (fired_at tag h) c (Pn p (kept_of p.net fa.held)) (nodes_of (nodes fa.now))) tag More ≡ Done last more n →
        (j : ℕ) × (whole : Log T) × ((i : ℕ) → j ≤ i → Step i rows m (Composite h c (Pn p X) kids) tag (joined In More) ≡ Done (with_made (suc h.made) last) (joined out more) whole) × ((q : Path) (port : ℕ) → trace whole q port ≡ trace l q port ++ trace n q port)
    second K fa low e =
        let facts : Facts T (Child (Node T A)) = child_facts (facts_of rows) in
        let steps : Stepping T (Child (Node T A)) = steps_below rows K (heights kids) m in
        let M : Node T A = Composite (fired_at tag h) c (Pn p (kept_of p.net fa.held)) (nodes_of (nodes fa.now)) in
        let wide : total p.net.places ≤ length fa.held = run-wide facts steps tag p.net (numbered 0 (list_of kids)) _ fa.ms fa.now fa.held fa.run.running in
        let count : length (list_of (nodes_of (nodes fa.now))) ≡ length p.net.places = ap (λ v. length v) (list-nodes (nodes fa.now)) ∙ nodes-count fa.now ∙ now-length facts steps tag p.net (numbered 0 (list_of kids)) X In More fa.ms fa.now fa.held fa.run.running in
        let fb = pn-firing rows K (heights kids) m tag (fired_at tag h) c p (kept_of p.net fa.held) (nodes_of (nodes fa.now)) More last more n count (kept-wide p.net fa.held wide) (sym (any-level rows K (suc (heights kids)) m tag M More low) ∙ e) in
        cut-runs rows law m K tag h c p X kids b In More fa.ms fb.ms fa.now fb.now fa.held fb.held fa.ls fb.ls fa.run
        (subst (λ v. RunningWith facts steps tag p.net (pn_limits p.net.places) v (arrived p.net.sources More (kept_of p.net fa.held)) fb.ms fb.now fb.held fb.ls) fa.numbers fb.run) fb.none (with_made (suc h.made) last) out more l n
        (ap (λ (v : Node T A). with_made (suc h.made) v) (sym fb.state)) fa.outputs fb.outputs fa.log fb.log
