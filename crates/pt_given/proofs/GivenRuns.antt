-- A run of the top makes the meetings that are given for it.
use Rattle.std.proofs.Common.{◌≡◌, ℕ, zero, suc, List, [], ◌∷◌, Bool, true, false, nat_eq, refl, sym, subst, arith}
use Rattle.pt_meaning.specs.Tag.{Tag}
use Rattle.pt_meaning.specs.Streams.{Streams, IsPrefix}
use Rattle.pt_meaning.specs.Log.{Path, Log, Meeting, Event, Finished, Met, Firing, meetings_in, log_then, own, if_same}
use Rattle.pt_meaning.specs.Machine.{Outcome, Done, Stuck, recorded}
use Rattle.pt_meaning.specs.Meetings.{Meets}
use Rattle.pt_meaning.specs.Tree.{Rows, Node, Nodes, Actor, Composite, none, more, made_of, height}
use Rattle.pt_meaning.specs.Step.{step_at, Step}
use Rattle.pt_meaning.specs.Lawful.{LawfulRows}
use Rattle.pt_meaning.specs.Job.{Turn, Fire, Ends, Limit, Schedule, Course, Standing, Goes, Ended, Halted, on_step, on_turn, goes_on, after, log_of, begin, meaning}
use Rattle.pt_laws.specs.Heights.{IsFitting}
use Rattle.pt_laws.specs.LogsOfRuns.{log_in}
use Rattle.pt_laws.specs.ClosedRuns.{IsAtStart, AllAtStart}
use Rattle.pt_laws.specs.SoundRuns.{IsWired}
use Rattle.pt_laws.proofs.Order.{IsPrefix-antisym}
use Rattle.pt_laws.proofs.StartLaws.{first-node}
use Rattle.pt_records.specs.Counts.{AreWired, AllWired}
use Rattle.pt_records.proofs.CountLaws.{counting-at}
use Rattle.pt_given.specs.Given.{MeetingsAreGiven, AllAreLegal}
use Rattle.pt_given.proofs.GivenLogs.{AreGiven, ArePast, CameBy, given-none, given-then, past-then, came-then, given-own, past-own}
use Rattle.pt_given.proofs.GivenSteps.{came-recorded, given-at}

-- at its start each composite has its channels
mutual
  start-wired : {T A : Type 0} (n : Node T A) → IsAtStart n → AreWired n
  start-wired (Actor h a b) s = tt
  start-wired (Composite h c d kids) s = (s.2.0, subst (λ v. IsWired v) (sym s.1) s.2.0, starts-wired kids s.3)

  starts-wired : {T A : Type 0} (ns : Nodes T A) → AllAtStart ns → AllWired ns
  starts-wired none s = tt
  starts-wired (more n ns) s = (start-wired n s.0, starts-wired ns s.1)

module _ {T A : Type 0} (rows : Rows T A) (law : LawfulRows rows) (k : ℕ) (m : Meets) (plan : Schedule T A) (top : Node T A) where
  -- in the middle of a run
  record CourseGiven (c : Course T A) : Type 0 where
    fits : IsFitting c.top
    wired : AreWired c.top
    given : AreGiven m top c.log
    past : ArePast c.top c.log
    came : CameBy top c.log c.top

  abbrev LogGiven : Log T → Type 0
  LogGiven l = (p : Path) (n : ℕ) → IsPrefix (meetings_in n (l p)) (m p n)

  abbrev StandsGiven : Standing T A → Type 0
  StandsGiven (Goes c) = CourseGiven c
  StandsGiven (Ended e c) = CourseGiven c
  StandsGiven (Halted fs l) = LogGiven l

  log-given : (s : Standing T A) → StandsGiven s → LogGiven (log_of s)
  log-given (Goes c) h = h.given.first
  log-given (Ended e c) h = h.given.first
  log-given (Halted fs l) h = h

  stepped : (c : Course T A) → CourseGiven c → (tag : Tag) (X : Streams T) → StandsGiven (on_step c tag (Step k rows m c.top tag X))
  stepped c h tag X = go (step_at rows k (height c.top) m tag c.top X) refl
    where
      go : (r : Outcome T (Node T A)) → step_at rows k (height c.top) m tag c.top X ≡ r → StandsGiven (on_step c tag (recorded (made_of c.top) tag X r))
      go (Done z out l) e =
          let s = given-at rows law k (height c.top) m in
          let o = counting-at rows law k (height c.top) m in
          let f : Firing T = record { number = made_of c.top; tag = tag; inputs = X; outputs = out } in
          let came : CameBy c.top (log_then l (own f)) z = came-recorded rows (step_at rows k (height c.top) m) o tag c.top z X out l f h.fits h.wired e in
          let now : AreGiven m c.top l = subst (λ r. AreGiven m c.top (log_in r)) e (s.given tag c.top X h.fits h.wired) in
          let past : ArePast z (log_then l (own f)) = past-own z l f (s.past tag c.top z X out l h.fits h.wired e) in
          record {
            fits = o.fits tag c.top z X out l h.fits e;
            wired = o.wired tag c.top z X out l h.fits h.wired e;
            given = given-then m top c.top c.log (log_then l (own f)) h.given h.past h.came (given-own m c.top l f now);
            past = past-then c.top z c.log (log_then l (own f)) h.past came past;
            came = came-then top c.top z c.log (log_then l (own f)) h.came came;
          }
      go (Stuck fs l) e =
          let s = given-at rows law k (height c.top) m in
          let now : AreGiven m c.top l = subst (λ r. AreGiven m c.top (log_in r)) e (s.given tag c.top X h.fits h.wired) in
          (given-then m top c.top c.log l h.given h.past h.came now).first

  turned : (c : Course T A) → CourseGiven c → (t : Turn T) → StandsGiven (on_turn k rows m c t)
  turned c h (Fire tag X) = stepped c h tag X
  turned c h (Ends e) = h
  turned c h Limit = h.given.first

  run-given : (n : ℕ) (c : Course T A) → CourseGiven c → StandsGiven (after k rows m plan n c)
  unfolding after
  run-given zero c h = h
  run-given (suc n) c h = go (on_turn k rows m c (plan c.fired c.last c.top)) (turned c h (plan c.fired c.last c.top)) (λ d g. run-given n d g)
    where
      go : (s : Standing T A) → StandsGiven s → ((d : Course T A) → CourseGiven d → StandsGiven (after k rows m plan n d)) → StandsGiven (goes_on (after k rows m plan n) s)
      go (Goes d) g ih = ih d g
      go (Ended e d) g ih = g
      go (Halted fs l) g ih = g

  meaning-given : IsFitting top → IsAtStart top → LogGiven (meaning k rows m plan top)
  meaning-given f s = log-given (after k rows m plan k (begin top)) (run-given k (begin top) (record { fits = f; wired = start-wired top s; given = given-none m top; past = λ p n late. refl; came = λ p. omega arith }))

pub meetings-are-given : {T A : Type 0} → MeetingsAreGiven T A
meetings-are-given rows law m plan top f g s k = meaning-given rows law k m plan top f (first-node rows top g s)

-- a beginning of a list of events tells a beginning of the meetings
meetings-begin : {T : Type 0} (n : ℕ) (xs ys : List (Event T)) → IsPrefix xs ys → IsPrefix (meetings_in n xs) (meetings_in n ys)
meetings-begin n [] ys b = tt
meetings-begin n (x ∷ xs) [] b = absurd b
meetings-begin {T} n (x ∷ xs) (y ∷ ys) b = subst (λ (v : Event T). IsPrefix (meetings_in n (v ∷ xs)) (meetings_in n (y ∷ ys))) (sym b.0) (same y (meetings-begin n xs ys b.1))
  where
    by_number : (b : Bool) (m : Meeting) (ms js : List Meeting) → IsPrefix ms js → IsPrefix (if_same b m ms) (if_same b m js)
    by_number true m ms js h = (refl, h)
    by_number false m ms js h = h

    same : (y : Event T) → IsPrefix (meetings_in n xs) (meetings_in n ys) → IsPrefix (meetings_in n (y ∷ xs)) (meetings_in n (y ∷ ys))
    same (Finished ns f) h = h
    same (Met ns i m) h = by_number (nat_eq i n) m (meetings_in n xs) (meetings_in n ys) h

pub all-are-legal : {T A : Type 0} → AllAreLegal T A
all-are-legal rows law m plan top f g s l b those p n =
    let told : List Meeting = meetings_in n (meaning b.0 rows m plan top p) in (
      b.0,
      IsPrefix-antisym told (m p n) (meetings-are-given rows law m plan top f g s b.0 p n) (subst (λ v. IsPrefix v told) (sym (those p n)) (meetings-begin n (l p) (meaning b.0 rows m plan top p) (b.1 p))),
    )
