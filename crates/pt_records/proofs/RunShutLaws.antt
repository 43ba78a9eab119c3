-- A run of the top that is left off has a closed log.
use Rattle.std.proofs.Common.{◌≡◌, ℕ, suc, ◌+◌, ◌≤◌, List, [], ◌∷◌, ◌++◌, false, Option, Some, None, inl, refl, sym, ap, subst, arith, ◌∙◌}
use Rattle.std.proofs.lemmas.List.{append_cancel_left}
use Rattle.std.proofs.Math.Path.{fun_ext}
use Rattle.pt_meaning.specs.Tag.{Tag}
use Rattle.pt_meaning.specs.Streams.{Streams}
use Rattle.pt_meaning.specs.Log.{Path, Log, LogBelow, Firing, Event, firings_in, log_then, own}
use Rattle.pt_meaning.specs.Machine.{Fault, Outcome, Done, Stuck, recorded}
use Rattle.pt_meaning.specs.Meetings.{Meets}
use Rattle.pt_meaning.specs.Tree.{Rows, Node, made_of, height}
use Rattle.pt_meaning.specs.Step.{step_at, Step}
use Rattle.pt_meaning.specs.Job.{Fire, Schedule, Course, on_step, on_turn, goes_on, after, log_of, begin, meaning}
use Rattle.pt_meaning.specs.Closed.{Has, Begun, UnderWay, IsClosedRun, IsNext}
use Rattle.pt_meaning.specs.Headline.{IsUpTo}
use Rattle.pt_meaning.specs.Lawful.{LawfulRows}
use Rattle.pt_laws.specs.LogsOfRuns.{log_in}
use Rattle.pt_laws.specs.SoundRuns.{idle, ClosedIn}
use Rattle.pt_laws.specs.WholeRuns.{ComesLater}
use Rattle.pt_laws.specs.ClosedRuns as closed_runs
use Rattle.pt_laws.proofs.JoinLaws.{log-assoc}
use Rattle.pt_laws.proofs.LevelLaws.{count-append}
use Rattle.pt_laws.proofs.ChainLaws.{no-finished}
use Rattle.pt_laws.proofs.ClosedMeaning.{start-closed, start-kept, Course₀, ClosedStanding, run-closed, after-then, meaning-closed}
use Rattle.pt_laws.proofs.LaterLaws.{later-joins, later-own}
use Rattle.pt_laws.proofs.WholeSteps.{cut}
use Rattle.pt_laws.proofs.WholeMeaning.{log-behind, Fine, GoesBehind, after_firing, fine-done, run-later, meaning-is-whole, part-of-run}
use Rattle.pt_laws.proofs.StartLaws.{first-node}
use Rattle.pt_records.specs.Fired.{FromSome}
use Rattle.pt_records.specs.Shut.{IsShutAt, IsShut, IsReached, RunsAreShut}
use Rattle.pt_records.proofs.ShutSteps.{later-front}

-- the log of a step that is done is that of the firing without the record, and then the record, which is in no part of it
module _ {T A : Type 0} (rows : Rows T A) (m : Meets) (n₀ node : Node T A) (tag : Tag) (inputs : Streams T) (place : Option Fault) (l log : Log T) (shut : IsShutAt rows m false n₀ node tag inputs place l log) (k : ℕ) where
  abbrev Further : Outcome T (Node T A) → Type 0
  Further r = (more : Log T) × (log_in (recorded (made_of node) tag inputs r) ≡ log_then log more) × ComesLater (log_then l log) more

  without-record : (f : Firing T) (inner w : Log T) → log_then inner (own f) ≡ log_then log w → (p : Path) → (more : List (Event T)) × (inner p ≡ log p ++ more) × (w p ≡ more ++ own f p)
  without-record f inner w e p = cut (inner p) (own f p) (log p) (w p) (ap (λ (v : Log T). v p) e) (apart p)
    where
      apart : (p : Path) (y : Event T) (ws : List (Event T)) → own f p ≡ y ∷ ws → Has y (log p) → ⊥
      apart [] y ws g h = no-finished [] f (log []) shut.quiet (let first : y ≡ Event.Finished [] f = cc in subst (λ v. Has v (log [])) first h)
      apart (i ∷ r) y ws g h = cc

  further : (r : Outcome T (Node T A)) → step_at rows k (height node) m tag node inputs ≡ r → LogBelow log (log_in (recorded (made_of node) tag inputs r)) → Further r
  further (Stuck fs inner) e b = let w = log-behind log inner b in (w.0, w.1, shut.later k tag inputs w.0 (ap (λ r. log_in r) e ∙ w.1))
  further (Done z out inner) e b =
      let f : Firing T = record { number = made_of node; tag = tag; inputs = inputs; outputs = out } in
      let w = log-behind log (log_then inner (own f)) b in
      let parts = λ (p : Path). without-record f inner w.0 w.1 p in
      let more : Log T = λ p. (parts p).0 in
      let front : inner ≡ log_then log more = fun_ext (λ p. (parts p).1) in
      let back : w.0 ≡ log_then more (own f) = fun_ext (λ p. (parts p).2) in
      (w.0, w.1, subst (λ v. ComesLater (log_then l log) v) (sym back) (later-joins (log_then l log) more (own f) (shut.later k tag inputs more (ap (λ r. log_in r) e ∙ front)) (later-own (log_then (log_then l log) more) f)))

module _ {T A : Type 0} (rows : Rows T A) (law : LawfulRows rows) (m : Meets) (plan : Schedule T A) (top : Node T A) (n : ℕ) (c : Course T A) (r : IsReached rows m plan top n c) where
  first : closed_runs.IsAtStart top
  first = first-node rows top r.planned r.start

  -- what holds where it stands
  stood : (k : ℕ) → r.goes.0 ≤ k → Course₀ rows law k m plan top c
  unfolding after
  stood k o = subst (λ s. ClosedStanding rows law k m plan top s) (r.goes.1 k o) (run-closed rows law k m plan top n (begin top) (r.fitting, start-closed rows false top, start-kept rows false top first, refl, refl))

  fine : Fine rows law 0 0 (omega arith) m plan top c
  fine = let s = stood r.goes.0 (omega arith) in (s.0, s.1, s.2)

  -- the meaning's log at a great fuel is that of the run from here
  from-here : (k j : ℕ) → r.goes.0 ≤ k → k ≡ n + j → meaning k rows m plan top ≡ log_of (after k rows m plan j c)
  from-here k j o e = ap (λ v. log_of (after k rows m plan v (begin top))) e ∙ ap (λ s. log_of s) (after-then rows law k m plan top n j (begin top) ∙ ap (λ s. goes_on (after k rows m plan j) s) (r.goes.1 k o))

  -- a log that is closed level by level, and goes on later at some greater fuel, is closed as a part of the meaning's
  part-of : (l : Log T) (way : UnderWay T) → ClosedIn rows false top l way → ((p : Path) (b : Begun T) → way p ≡ Some b → IsNext rows m plan top l p b) → (k k' : ℕ) → k ≤ k' → (more : Log T) → meaning k' rows m plan top ≡ log_then l more → ComesLater l more → LogBelow l (meaning k rows m plan top) →
      IsClosedRun rows m plan top (meaning k rows m plan top) l way
  part-of l way closed next k k' o more same later below =
      let w = log-behind l (meaning k rows m plan top) below in
      let g = meaning-is-whole rows law m plan top r.fitting first k k' o in
      let rest : more ≡ log_then w.0 g.0 = fun_ext (λ p. append_cancel_left (l p) (more p) ((log_then w.0 g.0) p) (ap (λ (v : Log T). v p) (sym same ∙ g.1 ∙ ap (λ v. log_then v g.0) w.1 ∙ sym (log-assoc l w.0 g.0)))) in
      let front : ComesLater l w.0 = later-front l w.0 g.0 (subst (λ v. ComesLater l v) rest later) in
      let whole = meaning-closed rows law k m plan top r.fitting first in
      part-of-run rows m plan top (meaning k rows m plan top) l w.0 way whole.0 w.1 closed whole.1 front next

  pub run-between : (k : ℕ) → LogBelow c.log (meaning k rows m plan top) → IsClosedRun rows m plan top (meaning k rows m plan top) c.log idle
  run-between k below =
      let k' : ℕ = n + (k + r.goes.0) in
      let g = run-later rows law k' k' (omega arith) m plan top (k + r.goes.0) c fine in
      part-of c.log idle fine.1 (λ p b e. absurd (none-some b e)) k k' (omega arith) g.0 (from-here k' (k + r.goes.0) (omega arith) refl ∙ g.1) g.2 below
    where
      none-some : (b : Begun T) → None ≡ Some b → ⊥
      none-some b e = cc

  module _ (tag : Tag) (inputs : Streams T) (turn : plan c.fired c.last c.top ≡ Fire tag inputs) (place : Option Fault) (log : Log T) (shut : IsShut rows m c.top tag inputs place log) (below : FromSome (λ k. LogBelow log (log_in (Step k rows m c.top tag inputs)))) where
    pub at_it : IsShutAt rows m false top c.top tag inputs place c.log log
    at_it = shut false top c.log (record { fitting = fine.0; closed = fine.1; kept = fine.2 })

    abbrev all : Log T
    all = log_then c.log log

    -- each firing under way is the next of its path
    nexts : (p : Path) (b : Begun T) → at_it.way p ≡ Some b → IsNext rows m plan top all p b
    nexts p b e =
        let s = stood r.goes.0 (omega arith) in
        let fired : firings_in (all []) ≡ c.fired = omega (arith, count-append (c.log []) (log []), at_it.quiet, s.3) in
        record { fuel = r.goes.0; course = c; tag = tag; inputs = inputs; before = ap (λ v. after r.goes.0 rows m plan v (begin top)) fired ∙ s.4; next = turn; comes = at_it.comes p b e }

    module _ (k : ℕ) (o : below.0 ≤ k) (j : ℕ) where
      stepped : (q : Outcome T (Node T A)) → step_at rows k (height c.top) m tag c.top inputs ≡ q → GoesBehind rows law k k (omega arith) m plan top all (log_of (goes_on (after k rows m plan j) (on_step c tag (recorded (made_of c.top) tag inputs q))))
      unfolding after_firing
      stepped (Stuck fs inner) e =
          let g = further rows m top c.top tag inputs place c.log log at_it k (Stuck fs inner) e (subst (λ q. LogBelow log (log_in (recorded (made_of c.top) tag inputs q))) e (below.1 k o)) in
          (g.0, ap (λ v. log_then c.log v) g.1 ∙ log-assoc c.log log g.0, g.2)
      stepped (Done z out inner) e =
          let g = further rows m top c.top tag inputs place c.log log at_it k (Done z out inner) e (subst (λ q. LogBelow log (log_in (recorded (made_of c.top) tag inputs q))) e (below.1 k o)) in
          let f : Firing T = record { number = made_of c.top; tag = tag; inputs = inputs; outputs = out } in
          let now : log_then c.log (log_then inner (own f)) ≡ log_then all g.0 = ap (λ v. log_then c.log v) g.1 ∙ log-assoc c.log log g.0 in
          let w = run-later rows law k k (omega arith) m plan top j (after_firing rows law k k (omega arith) m plan top c tag inputs z out inner) (fine-done rows law k k (omega arith) m plan top k c fine tag inputs z out inner e) in
          (log_then g.0 w.0, w.1 ∙ ap (λ v. log_then v w.0) now ∙ sym (log-assoc all g.0 w.0), later-joins all g.0 w.0 g.2 (subst (λ v. ComesLater v w.0) now w.2))

      from-turn : GoesBehind rows law k k (omega arith) m plan top all (log_of (after k rows m plan (suc j) c))
      unfolding after
      from-turn = subst (λ t. GoesBehind rows law k k (omega arith) m plan top all (log_of (goes_on (after k rows m plan j) (on_turn k rows m c t)))) (sym turn) (stepped (step_at rows k (height c.top) m tag c.top inputs) refl)

    -- and where it is stuck at a place, the log goes up to that
    pub up-to : (f : Fault) → place ≡ Some f → IsUpTo all at_it.way f
    up-to f e = let w = at_it.placed f e in (w.0, inl (w.1, w.2))

    pub run-within : (k : ℕ) → LogBelow all (meaning k rows m plan top) → IsClosedRun rows m plan top (meaning k rows m plan top) all at_it.way
    run-within k part =
        let j : ℕ = k + r.goes.0 + below.0 in
        let k' : ℕ = n + suc j in
        let g = from-turn k' (omega arith) j in
        part-of all at_it.way at_it.closed nexts k k' (omega arith) g.0 (from-here k' (suc j) (omega arith) refl ∙ g.1) g.2 part

pub runs-are-shut : {T A : Type 0} → RunsAreShut T A
runs-are-shut = record {
  between = λ rows law m plan top n c r. (idle, run-between rows law m plan top n c r);
  within = λ rows law m plan top n c r tag inputs turn place log shut below. (
    (at_it rows law m plan top n c r tag inputs turn place log shut below).way,
    run-within rows law m plan top n c r tag inputs turn place log shut below,
    up-to rows law m plan top n c r tag inputs turn place log shut below,
  );
}
