-- A Rendezvous composite of a tree in the middle of a firing, child by child.
use Rattle.std.proofs.Common.{◌≡◌, ℕ, zero, suc, ◌+◌, ◌<◌, ◌≤◌, List, [], ◌∷◌, ◌++◌, nat_eq, false, length, get_or, set, map, Option, Some, None, refl, sym, ap, subst, ◌∙◌, arith, append-nil}
use Rattle.std.proofs.lemmas.Bool.Decides.{nat_tests}
use Rattle.pt_meaning.specs.Tag.{Tag}
use Rattle.pt_meaning.specs.Streams.{Streams, get}
use Rattle.pt_meaning.specs.Log.{Log, LogBelow, Firing, Meeting, log_then, own, log_below, within_firing, given_on, meetings_in, if_same}
use Rattle.pt_meaning.specs.Machine.{Fault, Outcome, Done, Stuck, Stepping, Facts}
use Rattle.pt_meaning.specs.Net.{Inside}
use Rattle.pt_meaning.specs.Meetings.{Meets, below_child}
use Rattle.pt_meaning.specs.Rendezvous.{Places, first_places}
use Rattle.pt_meaning.specs.Children.{Child, numbered, child_facts, with_number}
use Rattle.pt_meaning.specs.Tree.{Rows, Core, Rv, Past, Node, Nodes, Composite, list_of, nodes_of, made_of, fired_at, height, heights}
use Rattle.pt_meaning.specs.NodeFacts.{facts_of, need_of}
use Rattle.pt_meaning.specs.Step.{as_node, step_at, Step}
use Rattle.pt_meaning.specs.Lawful.{LawfulRows}
use Rattle.pt_meaning.specs.Asked.{IsAsked}
use Rattle.pt_meaning.specs.Laws.{IsIn}
use Rattle.pt_laws.specs.CompositeRuns.{steps_below}
use Rattle.pt_laws.specs.LogsOfRuns.{silents, logs_then, log_in}
use Rattle.pt_laws.specs.SoundRuns.{count_at}
use Rattle.pt_laws.proofs.CompositeLaws.{as-done, as-stuck, log-as-node, below-stuck}
use Rattle.pt_laws.proofs.FuelLaw.{within-below}
use Rattle.pt_laws.proofs.HeightLaws.{levels-agree, firing-keeps, numbered-length}
use Rattle.pt_records.specs.Kept.{Made, Kept, Entry, Recorded, kept_at, kept_by, GrewBy, EntryGrew, TracesGrew, MeetingsGrew, met_in}
use Rattle.pt_records.specs.Fired.{FromSome, FiresTo, IsStuckAt, SticksAt, LeavesOff}
use Rattle.pt_records.specs.Shut.{IsShut}
use Rattle.pt_records.specs.Middle.{below_place}
use Rattle.pt_records.proofs.GrowthLaws.{all-begin, all-go-on, grew-within, all-long}
use Rattle.pt_records.proofs.PauseShut.{pauses-are-shut}
use Rattle.pt_records.proofs.SoFarLaws.{numbered-at, numbered-set, numbered-nodes, low-get, low-set, low-kids, recorded-done}
use Rattle.pt_core.specs.Met.{made_with, entry_with, AreMet}
use Rattle.pt_rv_laws.specs.State.{Processes, RvState, net_of, got_of, IsLegal, MayFire, IsOver, begun, after_meet, after_told, closed, waits}
use Rattle.pt_rv_laws.specs.Lawful.{HasPlaces, IsFor}
use Rattle.pt_rv_laws.specs.Chain.{Underway, firing_from, logged_of, met_events}
use Rattle.pt_rv_laws.specs.SoFar.{RvSoFar, composite_of, outcome_of, child_outcome, below_fault, FiringsAreRv}
use Rattle.pt_rv_laws.proofs.ChainLaws.{calls-are-rv}
use Rattle.pt_rv_laws.proofs.MeetLaws.{now-long}
use Rattle.pt_rv_laws.proofs.MetShut.{met-quiet, shut-with-met}
use Rattle.pt_rv_laws.proofs.PauseLaws.{rv-between, rv-in, rv-asks}

mapped-numbered : {S B : Type 0} (f : S → B) (b : ℕ) (ss : List S) → map (λ (c : Child S). f c.node) (numbered b ss) ≡ map f ss
mapped-numbered f b [] = refl
mapped-numbered f b (s ∷ ss) = ap (λ xs. f s ∷ xs) (mapped-numbered f (suc b) ss)

get-short : {B : Type 0} (xs : List B) (i : ℕ) (x : B) → get xs i ≡ Some x → i < length xs
get-short [] i x e = absurd (cc)
get-short (y ∷ xs) zero x e = omega arith
get-short (y ∷ xs) (suc i) x e = let r = get-short xs i x e in omega (arith, r)

numbered-for : {T A : Type 0} (rows : Rows T A) (s : RvState T) (kids : List (Node T A)) → IsFor (facts_of rows) s kids → IsFor (child_facts (facts_of rows)) s (numbered 0 kids)
numbered-for rows s kids f = record { lawful = f.lawful; sized = f.sized; needs = f.needs ∙ sym (mapped-numbered (need_of rows) 0 kids); counts = f.counts; none = f.none }

for-numbered : {T A : Type 0} (rows : Rows T A) (s : RvState T) (kids : List (Node T A)) → IsFor (child_facts (facts_of rows)) s (numbered 0 kids) → IsFor (facts_of rows) s kids
for-numbered rows s kids f = record { lawful = f.lawful; sized = f.sized; needs = f.needs ∙ mapped-numbered (need_of rows) 0 kids; counts = f.counts; none = f.none }

-- what is kept of the composite itself goes on by the meetings
module _ (T : Type 0) (n : ℕ) where
  given-none : (port : ℕ) (ms : List Meeting) → given_on {T = T} port (met_events n ms) ≡ []
  given-none port [] = refl
  given-none port (m ∷ ms) = given-none port ms

  traces-stay : (ms : List Meeting) (rs : List (Recorded T)) → TracesGrew (met_events n ms) rs rs
  traces-stay ms [] = tt
  traces-stay ms (r ∷ rs) = (refl, sym (ap (λ v. r.trace ++ v) (given-none r.port ms) ∙ append-nil r.trace), traces-stay ms rs)

  met-numbered : (ms : List Meeting) → map (λ (m : Meeting). (n, m)) ms ≡ met_in (met_events {T = T} n ms)
  met-numbered [] = refl
  met-numbered (m ∷ ms) = ap (λ v. (n, m) ∷ v) (met-numbered ms)

  not-same : (i : ℕ) → i < n → nat_eq n i ≡ false
  not-same i l = grind (arith, nat_tests)

  none-before : (ms : List Meeting) (i : ℕ) → i < n → meetings_in {T = T} i (met_events n ms) ≡ []
  none-before [] i l = refl
  none-before (m ∷ ms) i l = ap (λ b. if_same b m (meetings_in {T = T} i (met_events n ms))) (not-same i l) ∙ none-before ms i l

  meetings-grow : (count : ℕ) → count ≤ n → (ms : List Meeting) (made : Made) → MeetingsGrew {T = T} count (met_events n ms) (Some made) (made_with n ms (Some made))
  meetings-grow count l ms made = (ap (λ v. made ++ v) (met-numbered ms), λ i b. none-before ms i (omega (arith, b, l)))

  entry-grows : (ms : List Meeting) (e : Entry T) (made : Made) → e.count ≤ n → e.meetings ≡ Some made → EntryGrew (met_events n ms) e (entry_with n ms e)
  entry-grows ms e made l r = record {
    count = let z = met-quiet T n ms in omega (arith, z);
    recorded = traces-stay ms e.recorded;
    meetings = subst (λ o. MeetingsGrew {T = T} e.count (met_events n ms) o (made_with n ms o)) (sym r) (meetings-grow e.count l ms made);
  }

-- the composite's step is that of its director
rv-at : {T A : Type 0} (rows : Rows T A) (k : ℕ) (m : Meets) (h : Past) (before : RvState T) (kids : Nodes T A) (tag : Tag) (inputs : Streams T) →
    outcome_of rows m h before kids tag inputs k ≡ as_node tag h (Rv before.processes.plan (first_places before.processes.plan)) (Rv before.processes.plan) (firing_from (child_facts (facts_of rows)) (steps_below rows k (heights kids) m) before (numbered 0 (list_of kids)) tag inputs h.made k (m [] h.made))
unfolding step_at
rv-at rows k m h before kids tag inputs = refl

pub rv-begins : {T A : Type 0} (rows : Rows T A) (m : Meets) (tag : Tag) (before : RvState T) (kids : Nodes T A) (inputs : Streams T) (olds : List (Kept T)) → IsFor (facts_of rows) before (list_of kids) → length (list_of kids) ≡ length olds → RvSoFar rows m before kids inputs olds (begun tag inputs before) (list_of kids) olds
rv-begins rows m tag before kids inputs olds f o = record {
  made = 0;
  logs = silents (numbered 0 (list_of kids));
  run = (0, λ k l. calls-are-rv.begins (child_facts (facts_of rows)) (steps_below rows k (heights kids) m) before (numbered 0 (list_of kids)) tag inputs (numbered-for rows before (list_of kids) f));
  low = low-kids (heights kids) kids (omega arith);
  kept = all-begin (numbered 0 (list_of kids)) olds (numbered-length 0 (list_of kids) ∙ o);
}

-- in the middle
module _ {T A : Type 0} (rows : Rows T A) (m : Meets) (before : RvState T) (kids : Nodes T A) (inputs : Streams T) (olds : List (Kept T)) (s : RvState T) (now : List (Node T A)) (news : List (Kept T)) (x : RvSoFar rows m before kids inputs olds s now news) where
  abbrev facts : Facts T (Child (Node T A))
  facts = child_facts (facts_of rows)

  abbrev steps : ℕ → Stepping T (Child (Node T A))
  steps k = steps_below rows k (heights kids) m

  abbrev first : List (Child (Node T A))
  first = numbered 0 (list_of kids)

  abbrev Under : ℕ → RvState T → Type 0
  Under k t = Underway facts (steps k) before first inputs t x.made (numbered 0 now) x.logs

  pub under : Under x.run.0 s
  under = x.run.1 x.run.0 (omega arith)

  pub rv-meet : (meeting : Meeting) → IsLegal s meeting → RvSoFar rows m before kids inputs olds (after_meet meeting s) now news × (waits (after_meet meeting s) < waits s)
  rv-meet meeting legal = (
    record { made = x.made; logs = x.logs; run = (x.run.0, λ k l. (calls-are-rv.meets facts (steps k) before first inputs s x.made (numbered 0 now) x.logs (x.run.1 k l) meeting legal).0); low = x.low; kept = x.kept },
    (calls-are-rv.meets facts (steps x.run.0) before first inputs s x.made (numbered 0 now) x.logs under meeting legal).1,
  )

  -- a child that may fire
  module _ (i : ℕ) (may : MayFire s i) (child : Node T A) (e : get now i ≡ Some child) where
    abbrev X : Streams T
    X = got_of s i

    short : i < length news
    short =
        let a = get-short now i child e in
        let b = numbered-length 0 now in
        let c = now-long facts (steps x.run.0) before first inputs s x.made (numbered 0 now) x.logs under in
        let d = under.logged in
        let g = all-long x.logs olds news x.kept in
        omega (arith, a, b, c, d, g)

    abbrev it : Child (Node T A)
    it = record { number = i; node = child }

    it-is : get_or (numbered 0 now) i it ≡ it
    it-is = numbered-at 0 now i i child it (omega arith) e

    its-step : (k : ℕ) (r : Outcome T (Node T A)) → step_at rows k (height child) (below_child i m) s.tag child X ≡ r → steps k s.tag (get_or (numbered 0 now) i it) X ≡ with_number i r
    its-step k r g = ap (λ c. steps k s.tag c X) it-is ∙ ap (λ v. with_number i v) (levels-agree rows k (heights kids) (height child) (below_child i m) s.tag child X (low-get (heights kids) now i child x.low e) (omega arith) ∙ g)

    its-log : (k : ℕ) → log_in (steps k s.tag (get_or (numbered 0 now) i it) X) ≡ log_in (step_at rows k (height child) (below_child i m) s.tag child X)
    its-log k = ap (λ r. log_in r) (its-step k (step_at rows k (height child) (below_child i m) s.tag child X) refl) ∙ numbered-log (step_at rows k (height child) (below_child i m) s.tag child X)
      where
        numbered-log : (r : Outcome T (Node T A)) → log_in (with_number i r) ≡ log_in r
        numbered-log (Done z out l) = refl
        numbered-log (Stuck fs l) = refl

    pub rv-asked : (h : Past) → m [] h.made ≡ s.met → FromSome (λ k. IsAsked facts (steps k) (m [] h.made) h.made (Rv before.processes.plan before.places) first s.tag inputs i it s.tag X)
    rv-asked h listed = (x.run.0, λ k o. rv-asks rows k m h before kids inputs s x.made now x.logs (x.run.1 k o) i may child e [] (listed ∙ sym (append-nil s.met)))

    -- its firing is recorded
    module _ (next : Node T A) (out : Streams T) (k : Kept T) (fires : FiresTo (λ fuel. Step fuel rows (below_child i m) child s.tag X) next out (kept_at news i) k) (places : HasPlaces (count_at (net_of s).places i) (need_of rows next)) where
      lower : (j : ℕ) → Step j rows (below_child i m) child s.tag X ≡ Done next out fires.log → height next ≤ heights kids
      lower j g =
          let r = recorded-done (made_of child) s.tag X (step_at rows j (height child) (below_child i m) s.tag child X) next out fires.log g in
          let keeps = firing-keeps rows j (height child) (below_child i m) s.tag child next X out r.0 r.1 in
          let under_low = low-get (heights kids) now i child x.low e in
          omega (arith, keeps.0, under_low)

      abbrev s' : RvState T
      s' = after_told i out (need_of rows next) s

      gone : (j : ℕ) → Under j s → Step j rows (below_child i m) child s.tag X ≡ Done next out fires.log → Underway facts (steps j) before first inputs s' (suc x.made) (numbered 0 (set now i next)) (logs_then i fires.log x.logs)
      gone j u g =
          let r = recorded-done (made_of child) s.tag X (step_at rows j (height child) (below_child i m) s.tag child X) next out fires.log g in
          let z : Child (Node T A) = record { number = i; node = next } in
          let on = calls-are-rv.goes_on facts (steps j) before first inputs s x.made (numbered 0 now) x.logs u i may it z out r.0 (its-step j (Done next out r.0) r.1) places in
          let same : log_then r.0 (own (record { number = made_of (get_or (numbered 0 now) i it).node; tag = s.tag; inputs = X; outputs = out })) ≡ fires.log =
          ap (λ (c : Child (Node T A)). let f : Firing T = record { number = made_of c.node; tag = s.tag; inputs = X; outputs = out } in log_then r.0 (own f)) it-is ∙ r.2
          in
          subst (λ (l : Log T). Underway facts (steps j) before first inputs s' (suc x.made) (numbered 0 (set now i next)) (logs_then i l x.logs)) same
          (subst (λ ns. Underway facts (steps j) before first inputs s' (suc x.made) ns (logs_then i (log_then r.0 (own (record { number = made_of (get_or (numbered 0 now) i it).node; tag = s.tag; inputs = X; outputs = out }))) x.logs)) (numbered-set 0 now i i next (omega arith)) on)

      pub rv-goes-on : RvSoFar rows m before kids inputs olds s' (set now i next) (set news i k)
      rv-goes-on = record {
        made = suc x.made;
        logs = logs_then i fires.log x.logs;
        run = (x.run.0 + fires.done.0, λ j o. gone j (x.run.1 j (omega (arith, o))) (fires.done.1 j (omega (arith, o))));
        low = low-set (heights kids) now i next x.low (lower fires.done.0 (fires.done.1 fires.done.0 (omega arith)));
        kept = all-go-on i fires.log x.logs olds news k short x.kept fires.kept;
      }

  pub rv-rests : IsOver s → IsFor (facts_of rows) (closed s) now
  rv-rests o = for-numbered rows (closed s) now (calls-are-rv.rests facts (steps x.run.0) before first inputs s x.made (numbered 0 now) x.logs under o)

  -- the composite
  module _ (h : Past) (e : Entry T) (met : AreMet m h s.met e) where
    abbrev at_fuel : ℕ → Outcome T (Node T A)
    at_fuel k = outcome_of rows m h before kids s.tag inputs k

    abbrev start : Core T
    start = Rv before.processes.plan (first_places before.processes.plan)

    abbrev core : Places T → Core T
    core Y = Rv before.processes.plan Y

    abbrev fired_so : ℕ → Outcome T (Inside (Places T) (Child (Node T A)))
    fired_so k = firing_from facts (steps k) before first s.tag inputs h.made k s.met

    composite-at : (k : ℕ) → at_fuel k ≡ as_node s.tag h start core (fired_so k)
    composite-at k = rv-at rows k m h before kids s.tag inputs ∙ ap (λ ms. as_node s.tag h start core (firing_from facts (steps k) before first s.tag inputs h.made k ms)) met.listed

    abbrev logged : List (Log T) → Log T
    logged ls = within_firing h.made (logged_of h.made s ls)

    log-at : (k : ℕ) (l : Log T) → LogBelow l (log_in (fired_so k)) → LogBelow (within_firing h.made l) (log_in (at_fuel k))
    log-at k l b =
        subst (λ (r : Outcome T (Node T A)). LogBelow (within_firing h.made l) (log_in r)) (sym (composite-at k))
        (subst (λ n. LogBelow (within_firing h.made l) n) (sym (log-as-node s.tag h start core (fired_so k))) (within-below h.made l (log_in (fired_so k)) b))

    stuck-at : (k i : ℕ) (f : Fault) (l : Log T) (gs : List Fault) (n : Log T) → fired_so k ≡ Stuck gs n → IsIn (below_fault i f) gs → LogBelow l (log_in (fired_so k)) → IsStuckAt (below_fault i f) (within_firing h.made l) (at_fuel k)
    stuck-at k i f l gs n g w b =
        below-stuck (at_fuel k) i f h.made gs n l (composite-at k ∙ as-stuck s.tag h start core (fired_so k) gs n g) w (subst (λ r. LogBelow l (log_in r)) g b)

    abbrev entry : Entry T
    entry = entry_with h.made s.met e

    -- the meetings are recorded, and each child's own
    grew-so : (ls : List (Log T)) (ks : List (Kept T)) → GrewBy (within_firing h.made (log_below ls)) (kept_by e olds) (kept_by e ks) → GrewBy (logged ls) (kept_by e olds) (kept_by entry ks)
    grew-so ls ks g [] = entry-grows T h.made s.met e met.made met.next met.recorded
    grew-so ls ks g (i ∷ p) = g (i ∷ p)

    abbrev EndsAs : Processes → Node T A
    EndsAs p = Composite (fired_at s.tag h) (Rv p.plan (first_places p.plan)) (Rv p.plan s.places) (nodes_of now)

    pub rv-ends : IsOver s → FiresTo at_fuel (EndsAs s.processes) s.outputs (kept_by e olds) (kept_by entry news)
    rv-ends o = record {
      log = logged x.logs;
      done = (
        x.run.0 + x.made,
        λ k p.
            composite-at k ∙ as-done s.tag h start core (fired_so k) _ _ _ (calls-are-rv.ends facts (steps k) before first inputs s x.made (numbered 0 now) x.logs (x.run.1 k (omega (arith, p))) o h.made k (omega (arith, p))) ∙
            ap (λ (ns : List (Node T A)). let r : Outcome T (Node T A) = Done (Composite (fired_at s.tag h) start (core s.places) (nodes_of ns)) s.outputs (logged x.logs) in r) (numbered-nodes 0 now) ∙
            ap (λ (p : Processes). let r : Outcome T (Node T A) = Done (EndsAs p) s.outputs (logged x.logs) in r) (sym under.processes),
      );
      kept = grew-so x.logs news (grew-within h.made x.logs e olds news x.kept);
    }

    shut-between : LawfulRows rows → IsShut rows m (composite_of h before kids) s.tag inputs None (logged x.logs)
    shut-between law =
        shut-with-met rows m h start (core before.places) kids s.tag inputs None h.made s.met x.logs refl
        (pauses-are-shut.between rows law m s.tag h start (core before.places) kids inputs now x.logs x.run.0 (λ fits k o. rv-between rows k m h before kids inputs s x.made now x.logs (x.run.1 k o)))

    pub rv-off : LawfulRows rows → LeavesOff at_fuel (IsShut rows m (composite_of h before kids) s.tag inputs None) (kept_by e olds) (kept_by entry news)
    rv-off law = record {
      log = logged x.logs;
      beginning = (
        x.run.0 + x.made,
        λ k o.
            log-at k (logged_of h.made s x.logs)
            (subst (λ ms. LogBelow (logged_of h.made s x.logs) (log_in (firing_from facts (steps k) before first s.tag inputs h.made k ms))) (append-nil s.met) (calls-are-rv.off facts (steps k) before first inputs s x.made (numbered 0 now) x.logs (x.run.1 k (omega (arith, o))) h.made k [] (omega (arith, o)))),
      );
      kept = grew-so x.logs news (grew-within h.made x.logs e olds news x.kept);
      part = shut-between law;
    }

    -- in the middle of a firing of a child
    module _ (i : ℕ) (may : MayFire s i) (child : Node T A) (there : get now i ≡ Some child) (k' : Kept T) where
      abbrev so_far : Log T → Log T
      so_far l = logged (logs_then i l x.logs)

      abbrev its_outcome : ℕ → Outcome T (Node T A)
      its_outcome k = child_outcome rows m s i child k

      grew : (l : Log T) → GrewBy l (kept_at news i) k' → GrewBy (so_far l) (kept_by e olds) (kept_by entry (set news i k'))
      grew l g = grew-so (logs_then i l x.logs) (set news i k') (grew-within h.made (logs_then i l x.logs) e olds (set news i k') (all-go-on i l x.logs olds news k' (short i may child there) x.kept g))

      within-one : (k : ℕ) → x.run.0 ≤ k → x.made < k → (l : Log T) → LogBelow l (log_in (its_outcome k)) → LogBelow (logged_of h.made s (logs_then i l x.logs)) (log_in (fired_so k))
      within-one k o q l b =
          subst (λ ms. LogBelow (logged_of h.made s (logs_then i l x.logs)) (log_in (firing_from facts (steps k) before first s.tag inputs h.made k ms))) (append-nil s.met)
          (calls-are-rv.off_within facts (steps k) before first inputs s x.made (numbered 0 now) x.logs (x.run.1 k o) i may (it i may child there) l (subst (λ v. LogBelow l v) (sym (its-log i may child there k)) b) h.made k [] q)

      shut-within : LawfulRows rows → (place : Option Fault) (l : Log T) (k₀ : ℕ) → ((k : ℕ) → k₀ ≤ k → LogBelow l (log_in (its_outcome k))) → IsShut rows (below_child i m) child s.tag (got_of s i) place l → IsShut rows m (composite_of h before kids) s.tag inputs (below_place i place) (so_far l)
      shut-within law place l k₀ below shut =
          shut-with-met rows m h start (core before.places) kids s.tag inputs (below_place i place) h.made s.met (logs_then i l x.logs) refl
          (pauses-are-shut.within rows law m s.tag h start (core before.places) kids inputs now x.logs i child s.tag (got_of s i) place l (x.run.0 + k₀)
          (λ fits k o. rv-in rows k m h before kids inputs s x.made now x.logs (x.run.1 k (omega (arith, o))) i may child there [] (met.listed ∙ sym (append-nil s.met)) place l (low-get (heights kids) now i child x.low there) (below k (omega (arith, o))) shut))

      pub rv-off-within : LawfulRows rows → LeavesOff its_outcome (IsShut rows (below_child i m) child s.tag (got_of s i) None) (kept_at news i) k' → LeavesOff at_fuel (IsShut rows m (composite_of h before kids) s.tag inputs None) (kept_by e olds) (kept_by entry (set news i k'))
      rv-off-within law off = record {
        log = so_far off.log;
        beginning = (x.run.0 + off.beginning.0 + suc x.made, λ k o. log-at k (logged_of h.made s (logs_then i off.log x.logs)) (within-one k (omega (arith, o)) (omega (arith, o)) off.log (off.beginning.1 k (omega (arith, o)))));
        kept = grew off.log off.kept;
        part = shut-within law None off.log off.beginning.0 off.beginning.1 off.part;
      }

      pub rv-sticks : LawfulRows rows → (f : Fault) → SticksAt its_outcome (IsShut rows (below_child i m) child s.tag (got_of s i) (Some f)) f (kept_at news i) k' →
          SticksAt at_fuel (IsShut rows m (composite_of h before kids) s.tag inputs (Some (below_fault i f))) (below_fault i f) (kept_by e olds) (kept_by entry (set news i k'))
      rv-sticks law f sticks = record {
        log = so_far sticks.log;
        stuck = (
          x.run.0 + sticks.stuck.0 + suc x.made,
          λ k o.
              let r = sticks.stuck.1 k (omega (arith, o)) in
              let t = calls-are-rv.sticks facts (steps k) before first inputs s x.made (numbered 0 now) x.logs (x.run.1 k (omega (arith, o))) i may (it i may child there) r.0 r.1 (its-step i may child there k (Stuck r.0 r.1) r.2) f r.3 h.made k (omega (arith, o)) in
              stuck-at k i f (logged_of h.made s (logs_then i sticks.log x.logs)) t.0 t.1 t.2 t.3 (within-one k (omega (arith, o)) (omega (arith, o)) sticks.log (subst (λ v. LogBelow sticks.log (log_in v)) (sym r.2) r.4)),
        );
        kept = grew sticks.log sticks.kept;
        part = shut-within law (Some f) sticks.log sticks.stuck.0 (λ k o. let r = sticks.stuck.1 k o in subst (λ v. LogBelow sticks.log (log_in v)) (sym r.2) r.4) sticks.part;
      }

pub firings-are-rv : {T A : Type 0} → FiringsAreRv T A
firings-are-rv = record {
  begins = λ rows m tag before kids inputs olds f o. rv-begins rows m tag before kids inputs olds f o;
  meets = λ rows m before kids inputs olds s now news x meeting legal. rv-meet rows m before kids inputs olds s now news x meeting legal;
  goes_on = λ rows m before kids inputs olds s now news x i may child next out k e f p. rv-goes-on rows m before kids inputs olds s now news x i may child e next out k f p;
  asks = λ rows m before kids inputs olds s now news x i may child e h listed. rv-asked rows m before kids inputs olds s now news x i may child e h listed;
  ends = λ rows m before kids inputs olds s now news x o h e met. rv-ends rows m before kids inputs olds s now news x h e met o;
  rests = λ rows m before kids inputs olds s now news x o. rv-rests rows m before kids inputs olds s now news x o;
  sticks = λ rows law m before kids inputs olds s now news x i may child k f there w h e met. rv-sticks rows m before kids inputs olds s now news x h e met i may child there k law f w;
  off = λ rows law m before kids inputs olds s now news x h e met. rv-off rows m before kids inputs olds s now news x h e met law;
  off_within = λ rows law m before kids inputs olds s now news x i may child k there w h e met. rv-off-within rows m before kids inputs olds s now news x h e met i may child there k law w;
}
