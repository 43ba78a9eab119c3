-- A PN composite of a tree in the middle of a firing, child by child.
use Rattle.std.proofs.Common.{◌≡◌, ℕ, zero, suc, ◌+◌, ◌<◌, ◌≤◌, List, [], ◌∷◌, length, get_or, set, map, Option, Some, None, refl, sym, ap, subst, ◌∙◌, arith}
use Rattle.pt_meaning.specs.Tag.{Tag}
use Rattle.pt_meaning.specs.Streams.{Streams, get}
use Rattle.pt_meaning.specs.Log.{Log, Path, LogBelow, Firing, log_then, own, log_below, within_firing}
use Rattle.pt_meaning.specs.Machine.{Fault, Outcome, Done, Stuck, Stepping, Facts}
use Rattle.pt_meaning.specs.Net.{Inside}
use Rattle.pt_meaning.specs.Running.{total, zeros}
use Rattle.pt_meaning.specs.Meetings.{Meets, below_child}
use Rattle.pt_meaning.specs.Children.{Child, numbered, child_facts, with_number}
use Rattle.pt_meaning.specs.Tree.{Rows, Core, Pn, Past, Node, Nodes, Composite, list_of, nodes_of, made_of, fired_at, unfired, height, heights}
use Rattle.pt_meaning.specs.NodeFacts.{facts_of, need_of}
use Rattle.pt_meaning.specs.Step.{as_node, step_at, Step}
use Rattle.pt_meaning.specs.Lawful.{LawfulRows}
use Rattle.pt_meaning.specs.Jam as jam
use Rattle.pt_meaning.specs.Asked.{HaveMade, IsJammed, greatest_capacity}
use Rattle.pt_meaning.specs.Laws.{IsIn}
use Rattle.pt_laws.specs.CompositeRuns.{steps_below}
use Rattle.pt_laws.specs.LogsOfRuns.{silents, logs_then, log_in}
use Rattle.pt_laws.proofs.CompositeLaws.{as-done, as-stuck, log-as-node, below-stuck}
use Rattle.pt_laws.proofs.FuelLaw.{within-below}
use Rattle.pt_laws.proofs.HeightLaws.{levels-agree, firing-keeps, numbered-length}
use Rattle.pt_records.specs.Kept.{Kept, Entry, kept_at, kept_by, GrewBy}
use Rattle.pt_records.specs.Fired.{FromSome, FiresTo, IsStuckAt, SticksAt, LeavesOff}
use Rattle.pt_records.specs.Shut.{IsShut}
use Rattle.pt_records.specs.Middle.{below_place}
use Rattle.pt_records.proofs.GrowthLaws.{all-begin, all-go-on, grew-within, all-long}
use Rattle.pt_records.proofs.PauseShut.{pauses-are-shut}
use Rattle.pt_records.proofs.SoFarLaws.{numbered-at, numbered-set, numbered-nodes, low-get, low-set, low-kids, recorded-done}
use Rattle.pt_pn_laws.specs.State.{Network, PnState, MayGet, MayPut, MayFire, MayGrow, IsFull, IsOver, net_of, got_of, held_of, start_of, begun, after_get, after_put, after_grow, after_told, own_of, closed, blocked_of, waits}
use Rattle.pt_pn_laws.specs.Lawful.{HasPlaces, IsFor}
use Rattle.pt_pn_laws.specs.Chain.{Underway, firing_from}
use Rattle.pt_pn_laws.specs.SoFar.{PnSoFar, composite_of, outcome_of, child_outcome, below_fault, FiringsArePn}
use Rattle.pt_pn_laws.proofs.ChainLaws.{calls-are-pn}
use Rattle.pt_pn_laws.proofs.FireLaws.{now-long}
use Rattle.pt_pn_laws.proofs.PauseLaws.{pn-between, pn-in}

mapped-numbered : {S B : Type 0} (f : S → B) (b : ℕ) (ss : List S) → map (λ (c : Child S). f c.node) (numbered b ss) ≡ map f ss
mapped-numbered f b [] = refl
mapped-numbered f b (s ∷ ss) = ap (λ xs. f s ∷ xs) (mapped-numbered f (suc b) ss)

get-short : {B : Type 0} (xs : List B) (i : ℕ) (x : B) → get xs i ≡ Some x → i < length xs
get-short [] i x e = absurd (cc)
get-short (y ∷ xs) zero x e = omega arith
get-short (y ∷ xs) (suc i) x e = let r = get-short xs i x e in omega (arith, r)

numbered-for : {T A : Type 0} (rows : Rows T A) (s : PnState T) (kids : List (Node T A)) → IsFor (facts_of rows) s kids → IsFor (child_facts (facts_of rows)) s (numbered 0 kids)
numbered-for rows s kids f = record {
  lawful = f.lawful;
  sized = f.sized;
  needs = f.needs ∙ sym (mapped-numbered (need_of rows) 0 kids);
  counts = f.counts;
  none = f.none;
  gathers = f.gathers;
  short = f.short;
  capped = f.capped;
}

for-numbered : {T A : Type 0} (rows : Rows T A) (s : PnState T) (kids : List (Node T A)) → IsFor (child_facts (facts_of rows)) s (numbered 0 kids) → IsFor (facts_of rows) s kids
for-numbered rows s kids f = record {
  lawful = f.lawful;
  sized = f.sized;
  needs = f.needs ∙ mapped-numbered (need_of rows) 0 kids;
  counts = f.counts;
  none = f.none;
  gathers = f.gathers;
  short = f.short;
  capped = f.capped;
}

-- the composite's step is that of its director
pn-at : {T A : Type 0} (rows : Rows T A) (k : ℕ) (m : Meets) (h : Past) (before : PnState T) (kids : Nodes T A) (tag : Tag) (inputs : Streams T) →
    outcome_of rows m h before kids tag inputs k ≡ as_node tag h (Pn before.network.plan before.network.first) (Pn before.network.plan) (firing_from (child_facts (facts_of rows)) (steps_below rows k (heights kids) m) before (numbered 0 (list_of kids)) tag inputs k)
unfolding step_at
pn-at rows k m h before kids tag inputs = refl

pub pn-begins : {T A : Type 0} (rows : Rows T A) (m : Meets) (tag : Tag) (before : PnState T) (kids : Nodes T A) (inputs : Streams T) (olds : List (Kept T)) → IsFor (facts_of rows) before (list_of kids) → length (list_of kids) ≡ length olds → PnSoFar rows m before kids inputs olds (begun tag inputs before) (list_of kids) olds
pn-begins rows m tag before kids inputs olds f o = record {
  made = zeros (net_of before).places;
  logs = silents (numbered 0 (list_of kids));
  run = (0, λ k l. calls-are-pn.begins (child_facts (facts_of rows)) (steps_below rows k (heights kids) m) before (numbered 0 (list_of kids)) tag inputs (numbered-for rows before (list_of kids) f));
  low = low-kids (heights kids) kids (omega arith);
  kept = all-begin (numbered 0 (list_of kids)) olds (numbered-length 0 (list_of kids) ∙ o);
}

-- in the middle
module _ {T A : Type 0} (rows : Rows T A) (m : Meets) (before : PnState T) (kids : Nodes T A) (inputs : Streams T) (olds : List (Kept T)) (s : PnState T) (now : List (Node T A)) (news : List (Kept T)) (x : PnSoFar rows m before kids inputs olds s now news) where
  abbrev facts : Facts T (Child (Node T A))
  facts = child_facts (facts_of rows)

  abbrev steps : ℕ → Stepping T (Child (Node T A))
  steps k = steps_below rows k (heights kids) m

  abbrev first : List (Child (Node T A))
  first = numbered 0 (list_of kids)

  abbrev Under : ℕ → PnState T → Type 0
  Under k t = Underway facts (steps k) before first inputs t x.made (numbered 0 now) x.logs

  pub under : Under x.run.0 s
  under = x.run.1 x.run.0 (omega arith)

  -- by an event that leaves the children as they are
  moved : (t : PnState T) → ((k : ℕ) → Under k s → Under k t) → PnSoFar rows m before kids inputs olds t now news
  moved t on = record { made = x.made; logs = x.logs; run = (x.run.0, λ k l. on k (x.run.1 k l)); low = x.low; kept = x.kept }

  pub pn-get : (i : ℕ) → MayGet s i → PnSoFar rows m before kids inputs olds (after_get i s) now news × (waits (after_get i s) < waits s)
  pn-get i may = (
    moved (after_get i s) (λ k u. (calls-are-pn.gets facts (steps k) before first inputs s x.made (numbered 0 now) x.logs u i may).0),
    (calls-are-pn.gets facts (steps x.run.0) before first inputs s x.made (numbered 0 now) x.logs under i may).1,
  )

  pub pn-put : (i : ℕ) → MayPut s i → PnSoFar rows m before kids inputs olds (after_put i s) now news × (waits (after_put i s) < waits s)
  pn-put i may = (
    moved (after_put i s) (λ k u. (calls-are-pn.puts facts (steps k) before first inputs s x.made (numbered 0 now) x.logs u i may).0),
    (calls-are-pn.puts facts (steps x.run.0) before first inputs s x.made (numbered 0 now) x.logs under i may).1,
  )

  pub pn-grow : MayGrow s → PnSoFar rows m before kids inputs olds (after_grow s) now news × (waits (after_grow s) < waits s)
  pn-grow may = (
    moved (after_grow s) (λ k u. (calls-are-pn.grows facts (steps k) before first inputs s x.made (numbered 0 now) x.logs u may).0),
    (calls-are-pn.grows facts (steps x.run.0) before first inputs s x.made (numbered 0 now) x.logs under may).1,
  )

  -- a child that may fire
  module _ (i : ℕ) (may : MayFire s i) (child : Node T A) (e : get now i ≡ Some child) where
    abbrev X : Streams T
    X = got_of s i

    short : i < length news
    short =
        let a = get-short now i child e in
        let b = numbered-length 0 now in
        let c = now-long facts (steps x.run.0) before first inputs s x.made (numbered 0 now) x.logs under in
        let d = under.children in
        let f = logs-long in
        let g = all-long x.logs olds news x.kept in
        omega (arith, a, b, c, d, f, g)
      where
        logs-long : length now ≤ length x.logs
        logs-long = (pn-between rows x.run.0 m unfired before kids inputs s x.made now x.logs under).logged

    abbrev it : Child (Node T A)
    it = record { number = i; node = child }

    it-is : get_or (numbered 0 now) i it ≡ it
    it-is = numbered-at 0 now i i child it (omega arith) e

    its-step : (k : ℕ) (r : Outcome T (Node T A)) → step_at rows k (height child) (below_child i m) s.tag child X ≡ r → steps k s.tag (get_or (numbered 0 now) i it) X ≡ with_number i r
    its-step k r g = ap (λ c. steps k s.tag c X) it-is ∙ ap (λ v. with_number i v) (levels-agree rows k (heights kids) (height child) (below_child i m) s.tag child X (low-get (heights kids) now i child x.low e) (omega arith) ∙ g)

    its-log : (k : ℕ) → log_in (steps k s.tag (get_or (numbered 0 now) i it) X) ≡ log_in (step_at rows k (height child) (below_child i m) s.tag child X)
    its-log k = ap (λ r. log_in r) (its-step k (step_at rows k (height child) (below_child i m) s.tag child X) refl) ∙ numbered-log (step_at rows k (height child) (below_child i m) s.tag child X)
      where
        numbered-log : (r : Outcome T (Node T A)) → log_in (with_number i r) ≡ log_in r
        numbered-log (Done z out l) = refl
        numbered-log (Stuck fs l) = refl

    -- its firing is recorded
    module _ (next : Node T A) (out : Streams T) (k : Kept T) (fires : FiresTo (λ fuel. Step fuel rows (below_child i m) child s.tag X) next out (kept_at news i) k) (places : HasPlaces (get_or (net_of s).places i 0) (need_of rows next)) where
      lower : (j : ℕ) → Step j rows (below_child i m) child s.tag X ≡ Done next out fires.log → height next ≤ heights kids
      lower j g =
          let r = recorded-done (made_of child) s.tag X (step_at rows j (height child) (below_child i m) s.tag child X) next out fires.log g in
          let keeps = firing-keeps rows j (height child) (below_child i m) s.tag child next X out r.0 r.1 in
          let under_low = low-get (heights kids) now i child x.low e in
          omega (arith, keeps.0, under_low)

      abbrev made' : List ℕ
      made' = set x.made i (get_or x.made i 0 + 1)

      abbrev s' : PnState T
      s' = after_told i out (need_of rows next) s

      gone : (j : ℕ) → Under j s → Step j rows (below_child i m) child s.tag X ≡ Done next out fires.log → Underway facts (steps j) before first inputs s' made' (numbered 0 (set now i next)) (logs_then i fires.log x.logs)
      gone j u g =
          let r = recorded-done (made_of child) s.tag X (step_at rows j (height child) (below_child i m) s.tag child X) next out fires.log g in
          let z : Child (Node T A) = record { number = i; node = next } in
          let on = calls-are-pn.goes_on facts (steps j) before first inputs s x.made (numbered 0 now) x.logs u i may it z out r.0 (its-step j (Done next out r.0) r.1) places in
          let same : log_then r.0 (own (record { number = made_of (get_or (numbered 0 now) i it).node; tag = s.tag; inputs = X; outputs = out })) ≡ fires.log =
          ap (λ (c : Child (Node T A)). let f : Firing T = record { number = made_of c.node; tag = s.tag; inputs = X; outputs = out } in log_then r.0 (own f)) it-is ∙ r.2
          in
          subst (λ (l : Log T). Underway facts (steps j) before first inputs s' made' (numbered 0 (set now i next)) (logs_then i l x.logs)) same
          (subst (λ ns. Underway facts (steps j) before first inputs s' made' ns (logs_then i (log_then r.0 (own (record { number = made_of (get_or (numbered 0 now) i it).node; tag = s.tag; inputs = X; outputs = out }))) x.logs)) (numbered-set 0 now i i next (omega arith)) on)

      pub pn-goes-on : PnSoFar rows m before kids inputs olds s' (set now i next) (set news i k)
      pn-goes-on = record {
        made = made';
        logs = logs_then i fires.log x.logs;
        run = (x.run.0 + fires.done.0, λ j o. gone j (x.run.1 j (omega (arith, o))) (fires.done.1 j (omega (arith, o))));
        low = low-set (heights kids) now i next x.low (lower fires.done.0 (fires.done.1 fires.done.0 (omega arith)));
        kept = all-go-on i fires.log x.logs olds news k short x.kept fires.kept;
      }

  pub pn-rests : IsOver s → IsFor (facts_of rows) (closed s) now
  pn-rests o = for-numbered rows (closed s) now (calls-are-pn.rests facts (steps x.run.0) before first inputs s x.made (numbered 0 now) x.logs under o)

  -- the composite
  module _ (h : Past) (e : Entry T) where
    abbrev at_fuel : ℕ → Outcome T (Node T A)
    at_fuel k = outcome_of rows m h before kids s.tag inputs k

    abbrev start : Core T
    start = Pn before.network.plan before.network.first

    abbrev fired_so : ℕ → Outcome T (Inside (Streams T) (Child (Node T A)))
    fired_so k = firing_from facts (steps k) before first s.tag inputs k

    composite-at : (k : ℕ) → at_fuel k ≡ as_node s.tag h start (Pn before.network.plan) (fired_so k)
    composite-at k = pn-at rows k m h before kids s.tag inputs

    log-at : (k : ℕ) (l : Log T) → LogBelow l (log_in (fired_so k)) → LogBelow (within_firing h.made l) (log_in (at_fuel k))
    log-at k l b =
        subst (λ (r : Outcome T (Node T A)). LogBelow (within_firing h.made l) (log_in r)) (sym (composite-at k))
        (subst (λ n. LogBelow (within_firing h.made l) n) (sym (log-as-node s.tag h start (Pn before.network.plan) (fired_so k))) (within-below h.made l (log_in (fired_so k)) b))

    stuck-at : (k i : ℕ) (f : Fault) (l : Log T) (gs : List Fault) (n : Log T) → fired_so k ≡ Stuck gs n → IsIn (below_fault i f) gs → LogBelow l (log_in (fired_so k)) → IsStuckAt (below_fault i f) (within_firing h.made l) (at_fuel k)
    stuck-at k i f l gs n g w b =
        below-stuck (at_fuel k) i f h.made gs n l (composite-at k ∙ as-stuck s.tag h start (Pn before.network.plan) (fired_so k) gs n g) w (subst (λ r. LogBelow l (log_in r)) g b)

    abbrev EndsAs : Network T → Node T A
    EndsAs n = Composite (fired_at s.tag h) (Pn n.plan n.first) (Pn n.plan (held_of (closed s))) (nodes_of now)

    pub pn-ends : IsOver s → FiresTo at_fuel (EndsAs s.network) (own_of s) (kept_by e olds) (kept_by e news)
    pn-ends o = record {
      log = within_firing h.made (log_below x.logs);
      done = (
        x.run.0 + suc (total x.made),
        λ k p.
            composite-at k ∙ as-done s.tag h start (Pn before.network.plan) (fired_so k) _ _ _ (calls-are-pn.ends facts (steps k) before first inputs s x.made (numbered 0 now) x.logs (x.run.1 k (omega (arith, p))) o k (omega (arith, p))) ∙
            ap (λ (ns : List (Node T A)). let r : Outcome T (Node T A) = Done (Composite (fired_at s.tag h) start (Pn before.network.plan (held_of (closed s))) (nodes_of ns)) (own_of s) (within_firing h.made (log_below x.logs)) in r) (numbered-nodes 0 now) ∙
            ap (λ (n : Network T). let r : Outcome T (Node T A) = Done (EndsAs n) (own_of s) (within_firing h.made (log_below x.logs)) in r) (sym under.network),
      );
      kept = grew-within h.made x.logs e olds news x.kept;
    }

    shut-between : LawfulRows rows → IsShut rows m (composite_of h before kids) s.tag inputs None (within_firing h.made (log_below x.logs))
    shut-between law = pauses-are-shut.between rows law m s.tag h start (Pn before.network.plan (held_of before)) kids inputs now x.logs x.run.0 (λ fits k o. pn-between rows k m h before kids inputs s x.made now x.logs (x.run.1 k o))

    pub pn-off : LawfulRows rows → LeavesOff at_fuel (IsShut rows m (composite_of h before kids) s.tag inputs None) (kept_by e olds) (kept_by e news)
    pn-off law = record {
      log = within_firing h.made (log_below x.logs);
      beginning = (x.run.0 + total x.made, λ k o. log-at k (log_below x.logs) (calls-are-pn.off facts (steps k) before first inputs s x.made (numbered 0 now) x.logs (x.run.1 k (omega (arith, o))) k (omega (arith, o))));
      kept = grew-within h.made x.logs e olds news x.kept;
      part = shut-between law;
    }

    -- in the middle of a firing of a child
    module _ (i : ℕ) (may : MayFire s i) (child : Node T A) (there : get now i ≡ Some child) (k' : Kept T) where
      abbrev so_far : Log T → Log T
      so_far l = within_firing h.made (log_below (logs_then i l x.logs))

      abbrev its_outcome : ℕ → Outcome T (Node T A)
      its_outcome k = child_outcome rows m s i child k

      grew : (l : Log T) → GrewBy l (kept_at news i) k' → GrewBy (so_far l) (kept_by e olds) (kept_by e (set news i k'))
      grew l g = grew-within h.made (logs_then i l x.logs) e olds (set news i k') (all-go-on i l x.logs olds news k' (short i may child there) x.kept g)

      within-one : (k : ℕ) → x.run.0 ≤ k → total x.made < k → (l : Log T) → LogBelow l (log_in (its_outcome k)) → LogBelow (log_below (logs_then i l x.logs)) (log_in (fired_so k))
      within-one k o q l b =
          calls-are-pn.off_within facts (steps k) before first inputs s x.made (numbered 0 now) x.logs (x.run.1 k o) i may (it i may child there) l (subst (λ v. LogBelow l v) (sym (its-log i may child there k)) b) k q

      shut-within : LawfulRows rows → (place : Option Fault) (l : Log T) (k₀ : ℕ) → ((k : ℕ) → k₀ ≤ k → LogBelow l (log_in (its_outcome k))) → IsShut rows (below_child i m) child s.tag (got_of s i) place l → IsShut rows m (composite_of h before kids) s.tag inputs (below_place i place) (so_far l)
      shut-within law place l k₀ below shut =
          pauses-are-shut.within rows law m s.tag h start (Pn before.network.plan (held_of before)) kids inputs now x.logs i child s.tag (got_of s i) place l (x.run.0 + k₀)
          (λ fits k o. pn-in rows k m h before kids inputs s x.made now x.logs (x.run.1 k (omega (arith, o))) i may child there place l (low-get (heights kids) now i child x.low there) (below k (omega (arith, o))) shut)

      pub pn-off-within : LawfulRows rows → LeavesOff its_outcome (IsShut rows (below_child i m) child s.tag (got_of s i) None) (kept_at news i) k' → LeavesOff at_fuel (IsShut rows m (composite_of h before kids) s.tag inputs None) (kept_by e olds) (kept_by e (set news i k'))
      pn-off-within law off = record {
        log = so_far off.log;
        beginning = (x.run.0 + off.beginning.0 + suc (total x.made), λ k o. log-at k (log_below (logs_then i off.log x.logs)) (within-one k (omega (arith, o)) (omega (arith, o)) off.log (off.beginning.1 k (omega (arith, o)))));
        kept = grew off.log off.kept;
        part = shut-within law None off.log off.beginning.0 off.beginning.1 off.part;
      }

      pub pn-sticks : LawfulRows rows → (f : Fault) → SticksAt its_outcome (IsShut rows (below_child i m) child s.tag (got_of s i) (Some f)) f (kept_at news i) k' →
          SticksAt at_fuel (IsShut rows m (composite_of h before kids) s.tag inputs (Some (below_fault i f))) (below_fault i f) (kept_by e olds) (kept_by e (set news i k'))
      pn-sticks law f sticks = record {
        log = so_far sticks.log;
        stuck = (
          x.run.0 + sticks.stuck.0 + suc (total x.made),
          λ k o.
              let r = sticks.stuck.1 k (omega (arith, o)) in
              let t = calls-are-pn.sticks facts (steps k) before first inputs s x.made (numbered 0 now) x.logs (x.run.1 k (omega (arith, o))) i may (it i may child there) r.0 r.1 (its-step i may child there k (Stuck r.0 r.1) r.2) f r.3 k (omega (arith, o)) in
              stuck-at k i f (log_below (logs_then i sticks.log x.logs)) t.0 t.1 t.2 t.3 (within-one k (omega (arith, o)) (omega (arith, o)) sticks.log (subst (λ v. LogBelow sticks.log (log_in v)) (sym r.2) r.4)),
        );
        kept = grew sticks.log sticks.kept;
        part = shut-within law (Some f) sticks.log sticks.stuck.0 (λ k o. let r = sticks.stuck.1 k o in subst (λ v. LogBelow sticks.log (log_in v)) (sym r.2) r.4) sticks.part;
      }

  -- a jam, by a network and its maximum capacity
  abbrev JammedAs : (Path → ℕ) → ℕ → Network T → ℕ → Type 0
  JammedAs count k n most = (j : jam.IsFull facts (steps k) s.tag n.plan.net first (start_of before inputs) (greatest_capacity most (Pn n.plan n.first)) (blocked_of s)) × HaveMade count j.now

  pub pn-jams : IsFull s → (h : Past) (maximum count : Path → ℕ) → maximum [] ≡ s.network.maximum → h.made ≡ count [] → HaveMade count (numbered 0 now) → FromSome (λ k. IsJammed rows k [] m maximum count (composite_of h before kids) s.tag inputs (blocked_of s))
  pn-jams full h maximum count greatest made each = (
    x.run.0,
    λ k l.
        let j = calls-are-pn.jams facts (steps k) before first inputs s x.made (numbered 0 now) x.logs (x.run.1 k l) full in
        let here : JammedAs count k s.network s.network.maximum = (j.0, subst (λ ns. HaveMade count ns) (sym j.2) each) in
        let there : JammedAs count k before.network (maximum []) = subst (λ n. JammedAs count k n (maximum [])) (x.run.1 k l).network (subst (λ c. JammedAs count k s.network c) (sym greatest) here) in
        (made, there.0, there.1),
  )

pub firings-are-pn : {T A : Type 0} → FiringsArePn T A
firings-are-pn = record {
  begins = λ rows m tag before kids inputs olds f o. pn-begins rows m tag before kids inputs olds f o;
  gets = λ rows m before kids inputs olds s now news x i may. pn-get rows m before kids inputs olds s now news x i may;
  puts = λ rows m before kids inputs olds s now news x i may. pn-put rows m before kids inputs olds s now news x i may;
  grows = λ rows m before kids inputs olds s now news x may. pn-grow rows m before kids inputs olds s now news x may;
  goes_on = λ rows m before kids inputs olds s now news x i may child next out k e f p. pn-goes-on rows m before kids inputs olds s now news x i may child e next out k f p;
  ends = λ rows m before kids inputs olds s now news x o h e. pn-ends rows m before kids inputs olds s now news x h e o;
  rests = λ rows m before kids inputs olds s now news x o. pn-rests rows m before kids inputs olds s now news x o;
  sticks = λ rows law m before kids inputs olds s now news x i may child k f there w h e. pn-sticks rows m before kids inputs olds s now news x h e i may child there k law f w;
  off = λ rows law m before kids inputs olds s now news x h e. pn-off rows m before kids inputs olds s now news x h e law;
  off_within = λ rows law m before kids inputs olds s now news x i may child k there w h e. pn-off-within rows m before kids inputs olds s now news x h e i may child there k law w;
  jams = λ rows m before kids inputs olds s now news x f h maximum count greatest made each. pn-jams rows m before kids inputs olds s now news x f h maximum count greatest made each;
}
