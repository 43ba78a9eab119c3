-- The meetings of a meaning are of the composites at their paths.
use Rattle.std.proofs.Common.{◌≡◌, ℕ, zero, suc, length, refl, sym, ap, subst, ◌∙◌}
use Rattle.pt_meaning.specs.Tag.{Tag}
use Rattle.pt_meaning.specs.Streams.{Streams}
use Rattle.pt_meaning.specs.Machine.{Outcome, Done, Stuck}
use Rattle.pt_meaning.specs.Meetings.{Meets}
use Rattle.pt_meaning.specs.Tree.{Rows, Core, Node, Nodes, Actor, Composite, none, more, list_of}
use Rattle.pt_meaning.specs.Step.{Step}
use Rattle.pt_meaning.specs.Job as job
use Rattle.pt_meaning.specs.Job.{Turn, Fire, Schedule, Course, Standing, Goes, Ended, Halted, on_step, on_turn, goes_on, after, log_of, begin}
use Rattle.pt_meaning.specs.Lawful.{LawfulRows}
use Rattle.pt_laws.specs.Heights.{IsFitting}
use Rattle.pt_laws.specs.LogsOfRuns.{log_in}
use Rattle.pt_laws.specs.ClosedRuns.{IsAtStart, AllAtStart}
use Rattle.pt_laws.specs.SoundRuns.{IsWired}
use Rattle.pt_laws.proofs.StartLaws.{first-node}
use Rattle.pt_records.specs.Counts.{AreWired, AllWired}
use Rattle.pt_records.proofs.CountLaws.{step-wired}
use Rattle.pt_meeting_laws.specs.There.{extent_of, MeetingsAreThere}
use Rattle.pt_meeting_laws.proofs.There.{IsAlike, AllAlike, AreThere, there-joined, IsLike, step-there, step-like}

-- each composite of a tree at its start has its channels
mutual
  pub start-wired : {T A : Type 0} (n : Node T A) → IsAtStart n → AreWired n
  start-wired (Actor h a b) s = tt
  start-wired {T} (Composite h c d kids) s = (s.2.0, subst (λ (v : Core T). IsWired v) (sym s.1) s.2.0, starts-wired kids s.3)

  starts-wired : {T A : Type 0} (ns : Nodes T A) → AllAtStart ns → AllWired ns
  starts-wired none s = tt
  starts-wired (more n ns) s = (start-wired n s.0, starts-wired ns s.1)

mutual
  start-alike : {T A : Type 0} (n : Node T A) → IsAtStart n → IsAlike n
  start-alike (Actor h a b) s = tt
  start-alike (Composite h c d kids) s = (ap (λ v. extent_of v (length (list_of kids))) s.1, starts-alike kids s.3)

  starts-alike : {T A : Type 0} (ns : Nodes T A) → AllAtStart ns → AllAlike ns
  starts-alike none s = tt
  starts-alike (more n ns) s = (start-alike n s.0, starts-alike ns s.1)

-- a run in the middle, of a top that stands like the first one
record CourseThere {T A : Type 0} (first : Node T A) (c : Course T A) : Type 0 where
  pub there : AreThere first c.log
  pub like : IsLike first c.top
  pub fits : IsFitting c.top
  pub wired : AreWired c.top

abbrev StandsThere : {T A : Type 0} → Node T A → Standing T A → Type 0
StandsThere first (Goes c) = CourseThere first c
StandsThere first (Ended e c) = AreThere first c.log
StandsThere first (Halted fs l) = AreThere first l

log-there : {T A : Type 0} (first : Node T A) (s : Standing T A) → StandsThere first s → AreThere first (log_of s)
log-there first (Goes c) h = h.there
log-there first (Ended e c) h = h
log-there first (Halted fs l) h = h

module _ {T A : Type 0} (rows : Rows T A) (law : LawfulRows rows) (k : ℕ) (m : Meets) (plan : Schedule T A) (first : Node T A) where
  step-goes : (c : Course T A) (tag : Tag) (X : Streams T) → CourseThere first c → (r : Outcome T (Node T A)) → Step k rows m c.top tag X ≡ r → AreThere c.top (log_in r) → StandsThere first (on_step c tag r)
  step-goes c tag X h (Done z out l) e there =
      let like : IsLike c.top z = step-like rows law k m c.top tag X h.fits h.wired h.like.alike z out l e in
      let stays = step-wired rows law k m c.top z tag X out l h.fits h.wired e in
      record { there = there-joined first c.top c.log l h.like.same h.there there; like = record { alike = like.alike; same = λ p. like.same p ∙ h.like.same p }; fits = stays.0; wired = stays.1 }
  step-goes c tag X h (Stuck fs l) e there = there-joined first c.top c.log l h.like.same h.there there

  turn-goes : (c : Course T A) → CourseThere first c → (t : Turn T) → StandsThere first (on_turn k rows m c t)
  turn-goes c h (Fire tag X) = step-goes c tag X h (Step k rows m c.top tag X) refl (step-there rows law k m c.top tag X h.fits h.wired h.like.alike)
  turn-goes c h (job.Ends e) = h.there
  turn-goes c h job.Limit = h.there

  after-goes : (n : ℕ) (c : Course T A) → CourseThere first c → StandsThere first (after k rows m plan n c)
  unfolding after
  after-goes zero c h = h
  after-goes (suc n) c h = by_turn (on_turn k rows m c (plan c.fired c.last c.top)) (turn-goes c h (plan c.fired c.last c.top)) (λ d g. after-goes n d g)
    where
      by_turn : (s : Standing T A) → StandsThere first s → ((d : Course T A) → CourseThere first d → StandsThere first (after k rows m plan n d)) → StandsThere first (goes_on (after k rows m plan n) s)
      by_turn (Goes d) g ih = ih d g
      by_turn (Ended e d) g ih = g
      by_turn (Halted fs l) g ih = g

pub meetings-are-there : {T A : Type 0} → MeetingsAreThere T A
meetings-are-there rows law m plan top fits plans start k =
    let at = first-node rows top plans start in
    log-there top (after k rows m plan k (begin top)) (after-goes rows law k m plan top k (begin top) (record { there = λ p j. tt; like = record { alike = start-alike top at; same = λ p. refl }; fits = fits; wired = start-wired top at }))
