-- The meaning's log is closed.
use Rattle.std.proofs.Common.{◌≡◌, ◌⊎◌, ℕ, zero, suc, ◌+◌, List, [], ◌∷◌, ◌++◌, Bool, false, ◌||◌, Option, Some, None, inl, inr, refl, sym, ap, subst, arith, ◌∙◌, append-nil}
use Rattle.std.proofs.Math.Path.{fun_ext}
use Rattle.pt_meaning.specs.Basics.{Tag, Streams, Log, Path, Firing, Event, firings_in, silent, log_then, own, within_firing}
use Rattle.pt_meaning.specs.Machine.{Outcome, Done, Stuck, recorded}
use Rattle.pt_meaning.specs.Rendezvous.{with_meetings}
use Rattle.pt_meaning.specs.Meetings.{Meets}
use Rattle.pt_meaning.specs.Node.{Rows, Node, Nodes, Actor, Composite, none, more, made_of, step_at, height, Step}
use Rattle.pt_meaning.specs.Lawful.{LawfulRows}
use Rattle.pt_meaning.specs.Job.{Turn, Fire, Ends, Limit, Schedule, Course, Standing, Goes, Ended, Halted, on_step, on_turn, goes_on, after, log_of, begin, meaning}
use Rattle.pt_laws.specs.Heights.{IsFitting}
use Rattle.pt_meaning.specs.Streams.{IsPrefix}
use Rattle.pt_meaning.specs.Machine.{Known}
use Rattle.pt_meaning.specs.Rounds.{Source, Own, Output}
use Rattle.pt_meaning.specs.Closed.{Begun, UnderWay, is_modal, keeps_tokens, HasBegun, MayKnow, ComesTo, IsNext}
use Rattle.pt_laws.specs.Channels.{held_at, source_of}
use Rattle.pt_laws.specs.LogsOfRuns.{log_in}
use Rattle.pt_laws.specs.SoundRuns.{idle, ClosedIn, AllClosedIn, on_place, IsWired, IsSamePlan, given_by, KeptIn, AllKeptIn, takes_now, gives_now}
use Rattle.pt_laws.specs.ClosedRuns.{IsAtStart, AllAtStart, FiringsKeepClosed, MeaningIsClosed, ClosedAtPaths, own_event, LevelsGoOn}
use Rattle.pt_laws.proofs.ClosedLaws.{closed-caused, closed-enclosed, closed-within}
use Rattle.pt_laws.proofs.LevelLaws.{count-append, added, level-under-way, level-done, node-kept}
use Rattle.pt_laws.proofs.ClosedSteps.{sound-at, comes-at}

pub firings-keep-closed : {T A : Type 0} → FiringsKeepClosed T A
firings-keep-closed rows law k d m = sound-at rows law k d m

pub closed-at-paths : {T A : Type 0} → ClosedAtPaths T A
closed-at-paths = record { caused = closed-caused; enclosed = closed-enclosed; within = closed-within }

-- nothing is logged at the start
mutual
  pub start-closed : {T A : Type 0} (rows : Rows T A) (u : Bool) (n : Node T A) → ClosedIn rows u n silent idle
  start-closed rows u (Actor h a b) = (λ e g. absurd g, λ i p. (refl, refl))
  start-closed {T} rows u (Composite h c d kids) = (
    λ e g. absurd g,
    record { caused = λ i q n g. absurd (nothing n g); enclosed = λ i b e. absurd (clash b e); within = λ i p e g. absurd g; beyond = λ i p g. (refl, refl) },
    starts-closed rows (u || is_modal c) kids 0,
  )
    where
      clash : (b : Begun T) → None ≡ Some b → ⊥
      clash b e = cc

      nothing : (n : ℕ) → HasBegun {T = T} silent idle [] n → ⊥
      nothing n (inl g) = omega (arith, g)
      nothing n (inr g) = clash g.1 g.2

  pub starts-closed : {T A : Type 0} (rows : Rows T A) (u : Bool) (ks : Nodes T A) (i : ℕ) → AllClosedIn rows u ks i silent idle
  starts-closed rows u none i = tt
  starts-closed rows u (more n ns) i = (start-closed rows u n, starts-closed rows u ns (suc i))

mutual
  pub start-kept : {T A : Type 0} (rows : Rows T A) (u : Bool) (n : Node T A) → IsAtStart n → KeptIn rows u n n silent
  start-kept rows u (Actor h a b) s = (sym s.0, refl, ([], [], refl, ap (λ v. Option.Some v) (sym s.1), inl refl))
  start-kept {T} rows u (Composite h c d kids) s = (
    record {
      made = sym s.0;
      start = refl;
      counts = refl;
      plan = subst (λ v. IsSamePlan v c) (sym s.1) (record { sources = λ i q. refl; modal = refl; keeps = refl });
      first = s.2.1;
      wired = subst (λ v. IsWired v) (sym s.1) s.2.0;
      first_wired = s.2.0;
      numbers = λ ns f g. absurd g;
      since = 0;
      before = omega arith;
      from = inl refl;
      tokens = λ e i q. ap (λ v. on_place v i q) s.1 ∙ s.2.1 i q ∙ sym (append-nil (held_at c i q)) ∙ ap (λ v. held_at c i q ++ v) (sym (nothing-given (source_of c i q) h.made));
    },
    starts-kept rows (u || is_modal c) kids 0 s.3,
  )
    where
      nothing-given : (s : Option Source) (n : ℕ) → given_by {T = T} silent s 0 n ≡ []
      nothing-given None n = refl
      nothing-given (Some (Own port)) n = refl
      nothing-given (Some (Output j port)) n = refl

  pub starts-kept : {T A : Type 0} (rows : Rows T A) (u : Bool) (ks : Nodes T A) (i : ℕ) → AllAtStart ks → AllKeptIn rows u ks ks i silent
  starts-kept rows u none i s = tt
  starts-kept rows u (more n ns) i s = (start-kept rows u n s.0, starts-kept rows u ns (suc i) s.1)

-- a run of the top
module _ {T A : Type 0} (rows : Rows T A) (law : LawfulRows rows) (k : ℕ) (m : Meets) (plan : Schedule T A) (top : Node T A) where
  -- what holds in the middle
  abbrev pub Course₀ : Course T A → Type 0
  Course₀ c = IsFitting c.top × ClosedIn rows false top c.log idle × KeptIn rows false top c.top c.log × (firings_in (c.log []) ≡ c.fired) × (after k rows m plan c.fired (begin top) ≡ Goes c)

  -- each firing under way is the next of its path
  abbrev pub Nexts : Log T → UnderWay T → Type 0
  Nexts l way = (p : Path) (b : Begun T) → way p ≡ Some b → IsNext rows m plan top l p b

  abbrev pub ClosedStanding : Standing T A → Type 0
  ClosedStanding (Goes c) = Course₀ c
  ClosedStanding (Ended e c) = Course₀ c
  ClosedStanding (Halted fs l) = (way : UnderWay T) × ClosedIn rows false top l way × Nexts l way

  -- some firings, and then others
  pub after-then : (i j : ℕ) (c : Course T A) → after k rows m plan (i + j) c ≡ goes_on (after k rows m plan j) (after k rows m plan i c)
  unfolding after
  after-then zero j c = let a : 0 + j ≡ j = omega arith in ap (λ v. after k rows m plan v c) a
  after-then (suc i) j c = let a : suc i + j ≡ suc (i + j) = omega arith in ap (λ v. after k rows m plan v c) a ∙ go (on_turn k rows m c (plan c.fired c.last c.top)) (λ d. after-then i j d)
    where
      go : (s : Standing T A) → ((d : Course T A) → after k rows m plan (i + j) d ≡ goes_on (after k rows m plan j) (after k rows m plan i d)) → goes_on (after k rows m plan (i + j)) s ≡ goes_on (after k rows m plan j) (goes_on (after k rows m plan i) s)
      go (Goes d) ih = ih d
      go (Ended e d) ih = refl
      go (Halted fs l) ih = refl

  reached : (c d : Course T A) → after k rows m plan c.fired (begin top) ≡ Goes c → on_turn k rows m c (plan c.fired c.last c.top) ≡ Goes d → after k rows m plan (suc c.fired) (begin top) ≡ Goes d
  unfolding after
  reached c d e t =
      let a : suc c.fired ≡ c.fired + 1 = omega arith in
      ap (λ v. after k rows m plan v (begin top)) a ∙ after-then c.fired 1 (begin top) ∙ ap (λ s. goes_on (after k rows m plan 1) s) e ∙ ap (λ s. goes_on (after k rows m plan 0) s) t

  no-begun : (b : Begun T) → None ≡ Some b → ⊥
  no-begun b e = cc

  stepped : (c : Course T A) → Course₀ c → (tag : Tag) (X : Streams T) → plan c.fired c.last c.top ≡ Fire tag X → ClosedStanding (on_step c tag (Step k rows m c.top tag X))
  stepped c h tag X turn = go (step_at rows k (height c.top) m tag c.top X) refl
    where
      go : (r : Outcome T (Node T A)) → step_at rows k (height c.top) m tag c.top X ≡ r → ClosedStanding (on_step c tag (recorded (made_of c.top) tag X r))
      go (Done z out l) e =
          let s = sound-at rows law k (height c.top) m in
          let d = s.done false top c.top z c.log h.0 h.1 h.2 tag X out l e in
          let quiet : firings_in (l []) ≡ 0 = subst (λ r. firings_in (log_in r []) ≡ 0) e (s.own_path false top c.top c.log h.0 h.1 h.2 tag X).1 in
          let f : Firing T = record { number = made_of c.top; tag = tag; inputs = X; outputs = out } in
          let counts : firings_in (c.log [] ++ (l [] ++ own f [])) ≡ suc c.fired = let a = count-append (c.log []) (l [] ++ own f []) in let b = count-append (l []) (own f []) in let one : firings_in (own f []) ≡ 1 = refl in omega (arith, a, b, one, quiet, h.3) in
          let turned : on_turn k rows m c (plan c.fired c.last c.top) ≡ Goes (record { fired = suc c.fired; last = Some tag; top = z; log = log_then c.log (log_then l (own f)) }) = ap (λ t. on_turn k rows m c t) turn ∙ ap (λ r. on_step c tag (recorded (made_of c.top) tag X r)) e in
          (s.fits tag c.top z X out l h.0 e, d.0, d.1, counts, reached c _ h.4 turned)
      go (Stuck fs l) e =
          let s = sound-at rows law k (height c.top) m in
          let w = s.under_way false top c.top c.log h.0 h.1 h.2 tag X in
          let quiet : firings_in (l []) ≡ 0 = subst (λ r. firings_in (log_in r []) ≡ 0) e (s.own_path false top c.top c.log h.0 h.1 h.2 tag X).1 in
          let counts : c.fired ≡ firings_in (c.log [] ++ l []) = let a = count-append (c.log []) (l []) in omega (arith, a, quiet, h.3) in (
            w.0,
            subst (λ r. ClosedIn rows false top (log_then c.log (log_in r)) w.0) e w.2,
            λ p b g. record {
              fuel = k;
              course = c;
              tag = tag;
              inputs = X;
              before = ap (λ v. after k rows m plan v (begin top)) (sym counts) ∙ h.4;
              next = turn;
              comes = subst (λ r. ComesTo rows p m (λ q. firings_in (log_then c.log (log_in r) q)) c.top tag X b) e (comes-at rows law k (height c.top) m false top c.top c.log h.0 h.1 h.2 tag X p b g);
            },
          )

  turned : (c : Course T A) → Course₀ c → (t : Turn T) → plan c.fired c.last c.top ≡ t → ClosedStanding (on_turn k rows m c t)
  turned c h (Fire tag X) e = stepped c h tag X e
  turned c h (Ends e) t = h
  turned c h Limit t = (idle, h.1, λ p b g. absurd (no-begun b g))

  pub run-closed : (n : ℕ) (c : Course T A) → Course₀ c → ClosedStanding (after k rows m plan n c)
  unfolding after
  run-closed zero c h = h
  run-closed (suc n) c h = go (on_turn k rows m c (plan c.fired c.last c.top)) (turned c h (plan c.fired c.last c.top) refl) (λ d g. run-closed n d g)
    where
      go : (s : Standing T A) → ClosedStanding s → ((d : Course T A) → Course₀ d → ClosedStanding (after k rows m plan n d)) → ClosedStanding (goes_on (after k rows m plan n) s)
      go (Goes d) g ih = ih d g
      go (Ended e d) g ih = g
      go (Halted fs l) g ih = g

  log-closed : (s : Standing T A) → ClosedStanding s → (way : UnderWay T) × ClosedIn rows false top (log_of s) way × Nexts (log_of s) way
  log-closed (Goes c) h = (idle, h.1, λ p b g. absurd (no-begun b g))
  log-closed (Ended e c) h = (idle, h.1, λ p b g. absurd (no-begun b g))
  log-closed (Halted fs l) h = h

  pub meaning-closed : IsFitting top → IsAtStart top → (way : UnderWay T) × ClosedIn rows false top (meaning k rows m plan top) way × Nexts (meaning k rows m plan top) way
  unfolding after
  meaning-closed f s = log-closed (after k rows m plan k (begin top)) (run-closed k (begin top) (f, start-closed rows false top, start-kept rows false top s, refl, refl))

pub meaning-is-closed : {T A : Type 0} → MeaningIsClosed T A
meaning-is-closed rows law m plan top f s k = meaning-closed rows law k m plan top f s

-- levels, one by one
as-added : {T : Type 0} (n : ℕ) (es : List (Event T)) (new : Log T) → added n es new ≡ within_firing n (with_meetings es new)
as-added {T} n es new = fun_ext one
  where
    one : (p : Path) → added n es new p ≡ within_firing n (with_meetings es new) p
    one [] = refl
    one (i ∷ p) = refl

pub levels-go-on : {T A : Type 0} → LevelsGoOn T A
levels-go-on {T} {A} = record {
  under_way = λ rows u h₀ c₀ d₀ kids₀ h c d count l closed kept es bare quiet new tag inputs way w tags beyond taken kids.
      subst (λ v. ClosedIn rows u (Composite h₀ c₀ d₀ kids₀) (log_then l v) way) (as-added h.made es new)
      (level-under-way rows u h₀ c₀ d₀ kids₀ h c d count l closed kept es bare quiet new tag inputs way w tags beyond
      (subst (λ v. (i q : ℕ) → IsPrefix (takes_now new way i q) (on_place d i q ++ gives_now inputs new (source_of d i q)) ⊎ ((keeps_tokens c₀ ≡ false) × (xs : List T) × MayKnow rows (Composite h₀ c₀ d₀ kids₀) (log_then l v) way u [] c₀ h.made tag i q (Known xs) × IsPrefix (takes_now new way i q) xs)) (sym (as-added h.made es new)) taken) kids);
  done = λ rows u h₀ c₀ d₀ kids₀ h c d count l closed kept es bare quiet new tag inputs out beyond taken kids.
      subst (λ v. ClosedIn rows u (Composite h₀ c₀ d₀ kids₀) (log_then l v) idle) (as-added h.made (es ++ (own_event h tag inputs out ∷ [])) new) (level-done rows u h₀ c₀ d₀ kids₀ h c d count l closed kept es bare quiet new tag inputs out (λ i p g. (beyond i p g).0) taken kids);
  kept = λ rows u h₀ c₀ d₀ kids₀ h c d count l closed kept es bare quiet new tag inputs out h' d' kids' made long wired plan left below.
      subst (λ v. KeptIn rows u (Composite h₀ c₀ d₀ kids₀) (Composite h' c d' kids') (log_then l v)) (as-added h.made (es ++ (own_event h tag inputs out ∷ [])) new)
      (node-kept rows u h₀ c₀ d₀ kids₀ h c d count l closed kept es bare quiet new tag inputs out h' d' kids' made long wired plan left below);
}
