-- The top after whole firings, one more, and what a run comes to where it ends.
use Rattle.std.proofs.Common.{◌≡◌, ℕ, suc, ◌<◌, ◌≤◌, inl, inr, max, List, [], ◌∷◌, ◌++◌, Option, Some, None, refl, sym, ap, subst, ◌∙◌, arith}
use Rattle.std.proofs.Math.Path.{fun_ext}
use Rattle.pt_meaning.specs.Asked.{IsJammed, IsJamOf}
use Rattle.pt_meaning.specs.Basics.{Tag, Streams, IsPrefix, Path, Event, Finished, Met, Log, LogBelow, log_then, firings_in}
use Rattle.pt_meaning.specs.Log.{meetings_in}
use Rattle.pt_meaning.specs.Machine.{time_limit_code, Fault, Outcome, Done, Stuck}
use Rattle.pt_meaning.specs.Meetings.{Meets}
use Rattle.pt_meaning.specs.Tree.{Node}
use Rattle.pt_meaning.specs.Step.{Step}
use Rattle.pt_meaning.specs.Job as job
use Rattle.pt_meaning.specs.Job.{End, Fire, Schedule, Course, Standing, Goes, Halted, on_step, on_turn, after, log_of, begin, meaning, IsPrefixOfMeaning}
use Rattle.pt_meaning.specs.Headline.{Ending, Defined, Faulty, Spent, Queued, IsUpTo, IsCaused, IsReportOf, count_of}
use Rattle.pt_meaning.specs.Closed.{UnderWay, IsClosedRun}
use Rattle.pt_laws.specs.LogsOfRuns.{log_in}
use Rattle.pt_laws.proofs.Order.{IsPrefix-trans, IsPrefix-after}
use Rattle.pt_value.specs.declared.token.Token.{Token}
use Rattle.pt_firing.specs.declared.answer.Answer.TheVariants as answer
use Rattle.pt_records.specs.Kept.{GrewBy}
use Rattle.pt_records.specs.Made.{meets_of, AreMadeBefore}
use Rattle.pt_records.specs.Fired.{FromSome, FiresTo, SticksAt, LeavesOff}
use Rattle.pt_records.specs.Shut.{IsShut, IsReached}
use Rattle.pt_records.proofs.RunShutLaws.{runs-are-shut}
use Rattle.pt_records.proofs.GrowthLaws.{grew-joined}
use Rattle.pt_records.proofs.MadeLaws.{grew-met, made-back}
use Rattle.pt_given.proofs.GivenRuns.{all-are-legal}
use Rattle.pt_library.specs.declared.library_actor.LibraryActor.{LibraryActor}
use Rattle.pt_library.specs.LibraryActor.{rows}
use Rattle.pt_library.proofs.RowLaws.{rows_lawful}
use Rattle.pt_node.specs.Shown.{Shown}
use Rattle.pt_node.specs.View as view
use Rattle.pt_node.specs.View.{node_of, kept_of, Outline, outline_of, maximum_at}
use Rattle.pt_turns.specs.Within.{AnswersTo}
use Rattle.pt_trees.specs.declared.top.Top.{Top}
use Rattle.pt_trees.specs.Ports.{recorded_ports, ports_of, traces_of}
use Rattle.pt_trees.specs.Start.{IsRunnable}
use Rattle.pt_trees.specs.Run.{schedule, maxima_of, counts_of}
use Rattle.pt_going.specs.Going.{course_at, Reached}
use Rattle.pt_going.proofs.Course.{after-more, after-below, ended-at, halted-at}
use Rattle.pt_going.proofs.Counting.{count-is, none-at}
use Rattle.pt_going.proofs.Counted.{firings-counted}
use Rattle.pt_going.proofs.Jams.{jammed-made, made-kept}
use Rattle.pt_going.proofs.Traces.{traces-are}
use Rattle.pt_going.proofs.Unrecorded.{none-met}
use Rattle.pt_going.proofs.Staying.{step-stays}

-- what a turn of the top logs
log-on-step : {T A : Type 0} (c : Course T A) (tag : Tag) (r : Outcome T (Node T A)) → log_of (on_step c tag r) ≡ log_then c.log (log_in r)
log-on-step c tag (Done z out l) = refl
log-on-step c tag (Stuck fs l) = refl

firings-below : {T : Type 0} (xs ys : List (Event T)) → IsPrefix xs ys → firings_in xs ≤ firings_in ys
firings-below [] ys b = omega arith
firings-below (x ∷ xs) [] b = absurd b
firings-below {T} (x ∷ xs) (y ∷ ys) b = by_event x y b.0 (firings-below xs ys b.1)
  where
    same : (y : Event T) → firings_in xs ≤ firings_in ys → firings_in (y ∷ xs) ≤ firings_in (y ∷ ys)
    same (Finished ns f) h = omega (arith, h)
    same (Met ns i m) h = h

    by_event : (x y : Event T) → x ≡ y → firings_in xs ≤ firings_in ys → firings_in (x ∷ xs) ≤ firings_in (y ∷ ys)
    by_event x y e h = subst (λ (z : Event T). firings_in (z ∷ xs) ≤ firings_in (y ∷ ys)) (sym e) (same y h)

pub count-below : {T : Type 0} (l m : Log T) (ps : List Path) → LogBelow l m → count_of l ps ≤ count_of m ps
count-below l m [] b = omega arith
count-below l m (p ∷ ps) b = omega (arith, firings-below (l p) (m p) (b p), count-below l m ps b)

-- the top itself at its firing of that number, of which the tag is past the limit
abbrev pub past_limit : ℕ → Fault
past_limit n = record { path = []; firing = n; code = time_limit_code }

module _ (m : Meets) (j : Top) (top : Shown) where
  abbrev pub plan : Schedule Token LibraryActor
  plan = schedule j

  abbrev pub first : Node Token LibraryActor
  first = node_of top

  abbrev pub ReachedTo : ℕ → Option Tag → Shown → Type 0
  ReachedTo n last now = Reached m j top n last now

  -- what comes next there
  abbrev pub Asks : (n : ℕ) (last : Option Tag) (now : Shown) → job.Turn Token → Type 0
  Asks n last now turn = plan n last (node_of now) ≡ turn

  -- the next turn of the top, which fires
  turned : (n : ℕ) (last : Option Tag) (now : Shown) (r : ReachedTo n last now) (tag : Tag) (X : Streams Token) → Asks n last now (Fire tag X) → (k : ℕ) → r.goes.0 ≤ k →
      after k rows m plan (suc n) (begin first) ≡ on_step (course_at n last now r.log) tag (Step k rows m (node_of now) tag X)
  turned n last now r tag X e k o =
      after-more k rows m plan n (begin first) (course_at n last now r.log) (r.goes.1 k o) ∙
      ap (λ t. on_turn k rows m (course_at n last now r.log) t) e

  -- one firing more
  pub one-more : (n : ℕ) (last : Option Tag) (now : Shown) → (AreMadeBefore m (kept_of now) → ReachedTo n last now) → (tag : Tag) (X : Streams Token) → Asks n last now (Fire tag X) → (out : Streams Token) (allowance : ℕ) (new : Shown) →
      AnswersTo now tag X allowance (answer.Done out) new → outline_of new ≡ outline_of now → AreMadeBefore m (kept_of new) → ReachedTo (suc n) (Some tag) new
  one-more n last now before tag X e out allowance new a o made =
      let f : FiresTo (λ k. Step k rows m (node_of now) tag X) (node_of new) out (kept_of now) (kept_of new) = a.0 m made in
      let r = before (made-back m f.log (kept_of now) (kept_of new) f.kept made) in
      record {
        live = a.1;
        outline = o ∙ r.outline;
        fits = step-stays j f.done.0 m (node_of now) (node_of new) tag X out f.log r.fits (f.done.1 f.done.0 (omega arith));
        log = log_then r.log f.log;
        goes = (max r.goes.0 f.done.0, λ k q. turned n last now r tag X e k (omega (arith, q)) ∙ ap (λ v. on_step (course_at n last now r.log) tag v) (f.done.1 k (omega (arith, q))));
        kept = grew-joined r.log f.log (kept_of top) (kept_of now) (kept_of new) r.kept f.kept;
      }

  -- ---- reports

  -- what each end of a run owes: a log that is a beginning of the meaning's and is closed, by which what is kept went on, and the cause of the end
  pub record IsLogOf (budget : ℕ) (new : Shown) (e : Ending) : Type 0 where
    pub log : Log Token
    pub prefix : IsPrefixOfMeaning rows m plan first log
    pub under_way : UnderWay Token
    pub shut : (k : ℕ) → LogBelow log (meaning k rows m plan first) → IsClosedRun rows m plan first (meaning k rows m plan first) log under_way
    pub kept : GrewBy log (kept_of top) (kept_of new)
    pub caused : IsCaused rows m plan first budget (maxima_of top) log under_way e

  pub reported : IsRunnable j top → (budget : ℕ) (new : Shown) (e : Ending) → outline_of new ≡ outline_of top → IsLogOf budget new e → ((p : Path) (n : ℕ) → m p n ≡ meets_of (kept_of new) p n) → (count : ℕ) →
      IsReportOf rows m plan first (ports_of (recorded_ports count top)) budget (maxima_of top) (counts_of new) (traces_of (recorded_ports count new)) e
  unfolding after
  reported run budget new e o l those count = record {
    log = l.log;
    counted = λ p. omega (arith, (l.kept p).count, none-at top run.leaves run.start p);
    legal = all-are-legal rows rows_lawful m plan first run.fitting run.planned run.start l.log l.prefix met;
    met = met;
    prefix = l.prefix;
    under_way = l.under_way;
    shut = l.shut;
    told = traces-are l.log count top new run.unrecorded o l.kept;
    caused = l.caused;
  }
    where
      -- what the tree has recorded of meetings is what the log tells of them
      met : (p : Path) (n : ℕ) → m p n ≡ meetings_in n (l.log p)
      met p n = those p n ∙ sym (grew-met l.log (kept_of top) (kept_of new) l.kept p n (none-met top run.unrecorded p n))

  reached : IsRunnable j top → (n : ℕ) (last : Option Tag) (now : Shown) (r : ReachedTo n last now) → IsReached rows m plan first n (course_at n last now r.log)
  reached run n last now r = record { fitting = run.fitting; planned = run.planned; start = run.start; goes = r.goes }

  -- whole firings are a beginning of the meaning's log
  whole-below : (n : ℕ) (last : Option Tag) (now : Shown) (r : ReachedTo n last now) → (k : ℕ) → r.goes.0 ≤ k → n ≤ k → LogBelow r.log (meaning k rows m plan first)
  whole-below n last now r k o l = λ p. subst (λ (s : Standing Token LibraryActor). IsPrefix (log_of s p) (meaning k rows m plan first p)) (r.goes.1 k o) (after-below rows rows_lawful m plan first k n l p)

  whole-shut : IsRunnable j top → (n : ℕ) (last : Option Tag) (now : Shown) (r : ReachedTo n last now) → (way : UnderWay Token) × ((k : ℕ) → LogBelow r.log (meaning k rows m plan first) → IsClosedRun rows m plan first (meaning k rows m plan first) r.log way)
  whole-shut run n last now r = (runs-are-shut {T = Token} {A = LibraryActor}).between rows rows_lawful m plan first n (course_at n last now r.log) (reached run n last now r)

  -- a defined end
  module _ (run : IsRunnable j top) (n : ℕ) (last : Option Tag) (now : Shown) (r : ReachedTo n last now) (e : End) (turn : Asks n last now (job.Ends e)) (budget : ℕ) (few : view.count_of now < budget) where
    ends-at : (k : ℕ) → max r.goes.0 (suc n) ≤ k → after k rows m plan k (begin first) ≡ job.Ended e (course_at n last now r.log)
    ends-at k o =
        ended-at rows m plan first k (suc n) (course_at n last now r.log) e (omega (arith, o))
        (after-more k rows m plan n (begin first) (course_at n last now r.log) (r.goes.1 k (omega (arith, o))) ∙ ap (λ t. on_turn k rows m (course_at n last now r.log) t) turn)

    pub defined-end : IsLogOf budget now (Defined e)
    defined-end =
        let k₁ : ℕ = max r.goes.0 (suc n) in
        record {
          log = r.log;
          prefix = (k₁, whole-below n last now r k₁ (omega arith) (omega arith));
          under_way = (whole-shut run n last now r).0;
          shut = (whole-shut run n last now r).1;
          kept = r.kept;
          caused = (
            (k₁, λ k o p. sym (ap (λ (s : Standing Token LibraryActor). log_of s p) (ends-at k o))),
            (k₁, course_at n last now r.log, ends-at k₁ (omega arith)),
            subst (λ c. c < budget) (count-is top now r.log run.leaves run.start r.outline r.kept) few,
          );
        }

  -- the budget is spent between two firings
  pub spent-between : IsRunnable j top → (n : ℕ) (last : Option Tag) (now : Shown) → ReachedTo n last now → (budget count : ℕ) → count ≡ view.count_of now → budget ≤ count → IsLogOf budget now (Spent count)
  spent-between run n last now r budget count e b =
      let k₁ : ℕ = max r.goes.0 n in
      record {
        log = r.log;
        prefix = (k₁, whole-below n last now r k₁ (omega arith) (omega arith));
        under_way = (whole-shut run n last now r).0;
        shut = (whole-shut run n last now r).1;
        kept = r.kept;
        caused = (e ∙ count-is top now r.log run.leaves run.start r.outline r.kept, b);
      }

  -- the next tag is past the limit
  pub stuck-between : IsRunnable j top → (n : ℕ) (last : Option Tag) (now : Shown) → ReachedTo n last now → Asks n last now job.Limit → (budget : ℕ) → IsLogOf budget now (Faulty (past_limit n))
  stuck-between run n last now r turn budget =
      let k₁ : ℕ = max r.goes.0 (suc n) in
      let halts : after k₁ rows m plan (suc n) (begin first) ≡ Halted (past_limit n ∷ []) r.log = after-more k₁ rows m plan n (begin first) (course_at n last now r.log) (r.goes.1 k₁ (omega arith)) ∙ ap (λ t. on_turn k₁ rows m (course_at n last now r.log) t) turn in
      record {
        log = r.log;
        prefix = (k₁, whole-below n last now r k₁ (omega arith) (omega arith));
        under_way = (whole-shut run n last now r).0;
        shut = (whole-shut run n last now r).1;
        kept = r.kept;
        caused = (
          (k₁, past_limit n ∷ [], r.log, halted-at rows m plan first k₁ (suc n) (past_limit n ∷ []) r.log (omega arith) halts, inl refl),
          (firings-counted rows rows_lawful m plan first n (course_at n last now r.log) (reached run n last now r), inr (refl, refl)),
        );
      }

  -- the run was left off within a firing, with a part of its log
  module _ (run : IsRunnable j top) (n : ℕ) (last : Option Tag) (now : Shown) (r : ReachedTo n last now) (tag : Tag) (X : Streams Token) (turn : Asks n last now (Fire tag X)) where
    module _ (place : Option Fault) (log : Log Token) (part : IsShut rows m (node_of now) tag X place log) (beginning : FromSome (λ k. LogBelow log (log_in (Step k rows m (node_of now) tag X)))) where
      within-below : (k : ℕ) → max (max r.goes.0 beginning.0) (suc n) ≤ k → LogBelow (log_then r.log log) (meaning k rows m plan first)
      within-below k o p =
          let step = Step k rows m (node_of now) tag X in
          let is : log_of (after k rows m plan (suc n) (begin first)) ≡ log_then r.log (log_in step) = ap (λ s. log_of s) (turned n last now r tag X turn k (omega (arith, o))) ∙ log-on-step (course_at n last now r.log) tag step in
          IsPrefix-trans (r.log p ++ log p) (r.log p ++ log_in step p) (meaning k rows m plan first p)
          (IsPrefix-after (r.log p) (log p) (log_in step p) (beginning.1 k (omega (arith, o)) p))
          (subst (λ (v : Log Token). IsPrefix (v p) (meaning k rows m plan first p)) is (after-below rows rows_lawful m plan first k (suc n) (omega (arith, o)) p))

      within-shut : (way : UnderWay Token) × ((k : ℕ) → LogBelow (log_then r.log log) (meaning k rows m plan first) → IsClosedRun rows m plan first (meaning k rows m plan first) (log_then r.log log) way) × ((f : Fault) → place ≡ Some f → IsUpTo (log_then r.log log) way f)
      within-shut = (runs-are-shut {T = Token} {A = LibraryActor}).within rows rows_lawful m plan first n (course_at n last now r.log) (reached run n last now r) tag X turn place log part beginning

      left-off : (budget : ℕ) (new : Shown) (e : Ending) → GrewBy log (kept_of now) (kept_of new) → IsCaused rows m plan first budget (maxima_of top) (log_then r.log log) within-shut.0 e → IsLogOf budget new e
      left-off budget new e k c = record {
        log = log_then r.log log;
        prefix = (max (max r.goes.0 beginning.0) (suc n), within-below (max (max r.goes.0 beginning.0) (suc n)) (omega arith));
        under_way = within-shut.0;
        shut = within-shut.1;
        kept = grew-joined r.log log (kept_of top) (kept_of now) (kept_of new) r.kept k;
        caused = c;
      }

    -- the budget is spent within the firing
    pub spent-within : (budget count : ℕ) (new : Shown) → outline_of new ≡ outline_of now →
        LeavesOff (λ k. Step k rows m (node_of now) tag X) (IsShut rows m (node_of now) tag X None) (kept_of now) (kept_of new) → count ≡ view.count_of new → budget ≤ count → IsLogOf budget new (Spent count)
    spent-within budget count new o f c b =
        let kept : GrewBy (log_then r.log f.log) (kept_of top) (kept_of new) = grew-joined r.log f.log (kept_of top) (kept_of now) (kept_of new) r.kept f.kept in
        left-off None f.log f.part f.beginning budget new (Spent count) f.kept (c ∙ count-is top new (log_then r.log f.log) run.leaves run.start (o ∙ r.outline) kept, b)

    -- the firing is stuck
    pub stuck-within : (budget : ℕ) (new : Shown) (f : Fault) →
        SticksAt (λ k. Step k rows m (node_of now) tag X) (IsShut rows m (node_of now) tag X (Some f)) f (kept_of now) (kept_of new) → IsLogOf budget new (Faulty f)
    stuck-within budget new f g =
        let k₁ : ℕ = max (max r.goes.0 g.stuck.0) (suc n) in
        let there = g.stuck.1 k₁ (omega arith) in
        let halts : after k₁ rows m plan (suc n) (begin first) ≡ Halted there.0 (log_then r.log there.1) = turned n last now r tag X turn k₁ (omega arith) ∙ ap (λ v. on_step (course_at n last now r.log) tag v) there.2 in
        let begins : FromSome (λ k. LogBelow g.log (log_in (Step k rows m (node_of now) tag X))) = (g.stuck.0, λ k o. let at = g.stuck.1 k o in subst (λ v. LogBelow g.log (log_in v)) (sym at.2) at.4) in
        left-off (Some f) g.log g.part begins budget new (Faulty f) g.kept
        ((k₁, there.0, log_then r.log there.1, halted-at rows m plan first k₁ (suc n) there.0 (log_then r.log there.1) (omega arith) halts, there.3), (within-shut (Some f) g.log g.part begins).2 f refl)

    -- a network within the firing is in a jam, by what is counted then
    jam-is : (new : Shown) (p : Path) (full : List (ℕ × ℕ)) (log : Log Token) → GrewBy (log_then r.log log) (kept_of top) (kept_of new) → FromSome (λ k. IsJammed rows k p m (maxima_of now) (counts_of new) (node_of now) tag X full) →
        IsJamOf rows m plan first (maxima_of top) (log_then r.log log) p full
    jam-is new p full log kept jam =
        let k₁ : ℕ = max r.goes.0 jam.0 in
        let counted : (q : Path) → counts_of new q ≡ firings_in (log_then r.log log q) = λ q. let grown = (kept q).count in let none = none-at top run.leaves run.start q in omega (arith, grown, none) in
        let fired : firings_in (r.log []) ≡ n = firings-counted rows rows_lawful m plan first n (course_at n last now r.log) (reached run n last now r) in
        let before : counts_of now [] ≡ n = (let grown = (r.kept []).count in let none = none-at top run.leaves run.start [] in let same : counts_of now [] ≡ firings_in (r.log []) = omega (arith, grown, none) in same) ∙ fired in
        let made : counts_of now [] ≡ counts_of new [] = sym (made-kept now) ∙ jammed-made k₁ m (maxima_of now) (counts_of new) tag X full p (node_of now) (jam.1 k₁ (omega arith)) in
        let so_many : n ≡ firings_in (log_then r.log log []) = sym before ∙ made ∙ counted [] in
        record {
          fuel = k₁;
          course = course_at n last now r.log;
          tag = tag;
          inputs = X;
          before = subst (λ i. after k₁ rows m plan i (begin first) ≡ Goes (course_at n last now r.log)) so_many (r.goes.1 k₁ (omega arith));
          next = turn;
          jam =
              subst (λ (o : Outline). IsJammed rows k₁ p m (λ q. maximum_at o q) (λ q. firings_in (log_then r.log log q)) (node_of now) tag X full) r.outline
              (subst (λ (c : Path → ℕ). IsJammed rows k₁ p m (maxima_of now) c (node_of now) tag X full) (fun_ext counted) (jam.1 k₁ (omega arith)));
        }

    pub jammed-within : (budget : ℕ) (new : Shown) (p : Path) (full : List (ℕ × ℕ)) → LeavesOff (λ k. Step k rows m (node_of now) tag X) (IsShut rows m (node_of now) tag X None) (kept_of now) (kept_of new) →
        FromSome (λ k. IsJammed rows k p m (maxima_of now) (counts_of new) (node_of now) tag X full) → IsLogOf budget new (Queued p full)
    jammed-within budget new p full f jam =
        let kept : GrewBy (log_then r.log f.log) (kept_of top) (kept_of new) = grew-joined r.log f.log (kept_of top) (kept_of now) (kept_of new) r.kept f.kept in
        left-off None f.log f.part f.beginning budget new (Queued p full) f.kept (jam-is new p full f.log kept jam)
