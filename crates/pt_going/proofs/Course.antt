-- What firings at the top come to: one more at the end, an end that stays, and logs that grow.
use Rattle.std.proofs.Common.{◌≡◌, ℕ, zero, suc, ◌+◌, ◌-◌, ◌≤◌, List, [], ◌∷◌, refl, sym, ap, subst, ◌∙◌, arith}
use Rattle.pt_meaning.specs.Basics.{Log, LogBelow, IsPrefix}
use Rattle.pt_meaning.specs.Machine.{Fault}
use Rattle.pt_meaning.specs.Meetings.{Meets}
use Rattle.pt_meaning.specs.Node.{Rows, Node}
use Rattle.pt_meaning.specs.Lawful.{LawfulRows}
use Rattle.pt_meaning.specs.Job.{End, Schedule, Course, Standing, Goes, Ended, Halted, on_turn, goes_on, after, log_of, begin, meaning}
use Rattle.pt_laws.specs.Promises.{StandsOn}
use Rattle.pt_laws.proofs.Order.{IsPrefix-refl}
use Rattle.pt_laws.proofs.MeaningLaws.{after-on}

goes-as : {T A : Type 0} (s : Standing T A) → goes_on (λ c. Goes c) s ≡ s
goes-as (Goes c) = refl
goes-as (Ended e c) = refl
goes-as (Halted fs l) = refl

module _ {T A : Type 0} (k : ℕ) (rows : Rows T A) (m : Meets) (plan : Schedule T A) where
  -- one firing more, at the end
  pub after-more : (n : ℕ) (c d : Course T A) → after k rows m plan n c ≡ Goes d → after k rows m plan (suc n) c ≡ on_turn k rows m d (plan d.fired d.last d.top)
  unfolding after
  after-more zero c d e =
      let same : c ≡ d = cc in
      goes-as (on_turn k rows m c (plan c.fired c.last c.top)) ∙ ap (λ (x : Course T A). on_turn k rows m x (plan x.fired x.last x.top)) same
  after-more (suc n) c d e = by_turn (on_turn k rows m c (plan c.fired c.last c.top)) e (λ x h. after-more n x d h)
    where
      by_turn : (s : Standing T A) → goes_on (after k rows m plan n) s ≡ Goes d → ((x : Course T A) → after k rows m plan n x ≡ Goes d → after k rows m plan (suc n) x ≡ on_turn k rows m d (plan d.fired d.last d.top)) →
          goes_on (after k rows m plan (suc n)) s ≡ on_turn k rows m d (plan d.fired d.last d.top)
      by_turn (Goes x) h more = more x h
      by_turn (Ended q x) h more = absurd (cc)
      by_turn (Halted fs l) h more = absurd (cc)

  suc-plus : (n i : ℕ) → suc n + i ≡ suc (n + i)
  suc-plus n i = omega arith

  -- an end stays, and so does a stuck place
  pub after-ended : (n i : ℕ) (c d : Course T A) (e : End) → after k rows m plan n c ≡ Ended e d → after k rows m plan (n + i) c ≡ Ended e d
  unfolding after
  after-ended zero i c d e h = absurd (cc)
  after-ended (suc n) i c d e h = ap (λ x. after k rows m plan x c) (suc-plus n i) ∙ by_turn (on_turn k rows m c (plan c.fired c.last c.top)) h (λ x g. after-ended n i x d e g)
    where
      by_turn : (s : Standing T A) → goes_on (after k rows m plan n) s ≡ Ended e d → ((x : Course T A) → after k rows m plan n x ≡ Ended e d → after k rows m plan (n + i) x ≡ Ended e d) → goes_on (after k rows m plan (n + i)) s ≡ Ended e d
      by_turn (Goes x) g more = more x g
      by_turn (Ended q x) g more = g
      by_turn (Halted fs l) g more = absurd (cc)

  pub after-halted : (n i : ℕ) (c : Course T A) (fs : List Fault) (l : Log T) → after k rows m plan n c ≡ Halted fs l → after k rows m plan (n + i) c ≡ Halted fs l
  unfolding after
  after-halted zero i c fs l h = absurd (cc)
  after-halted (suc n) i c fs l h = ap (λ x. after k rows m plan x c) (suc-plus n i) ∙ by_turn (on_turn k rows m c (plan c.fired c.last c.top)) h (λ x g. after-halted n i x fs l g)
    where
      by_turn : (s : Standing T A) → goes_on (after k rows m plan n) s ≡ Halted fs l → ((x : Course T A) → after k rows m plan n x ≡ Halted fs l → after k rows m plan (n + i) x ≡ Halted fs l) → goes_on (after k rows m plan (n + i)) s ≡ Halted fs l
      by_turn (Goes x) g more = more x g
      by_turn (Ended q x) g more = absurd (cc)
      by_turn (Halted gs r) g more = g

-- a run at a greater fuel has at least the log of one before
pub stands-log : {T A : Type 0} (s t : Standing T A) → StandsOn s t → LogBelow (log_of s) (log_of t)
stands-log (Goes c) t h = h
stands-log {T} {A} (Ended e c) t h = λ p. subst (λ (x : Standing T A). IsPrefix (c.log p) (log_of x p)) (sym h) (IsPrefix-refl (c.log p))
stands-log (Halted fs l) (Halted gs n) h = h.1
stands-log (Halted [] l) (Goes c) h = h
stands-log (Halted [] l) (Ended e c) h = h
stands-log (Halted (f ∷ fs) l) (Goes c) h = absurd h
stands-log (Halted (f ∷ fs) l) (Ended e c) h = absurd h

-- what so many firings log is a beginning of the meaning's log at each fuel that allows them
pub after-below : {T A : Type 0} (rows : Rows T A) → LawfulRows rows → (m : Meets) (plan : Schedule T A) (top : Node T A) (k n : ℕ) → n ≤ k → LogBelow (log_of (after k rows m plan n (begin top))) (meaning k rows m plan top)
after-below rows law m plan top k n o = stands-log _ _ (after-on rows m plan law k k (omega arith) n k o (begin top))

-- at that fuel the run has ended, or is stuck
pub ended-at : {T A : Type 0} (rows : Rows T A) (m : Meets) (plan : Schedule T A) (top : Node T A) (k n : ℕ) (c : Course T A) (e : End) → n ≤ k → after k rows m plan n (begin top) ≡ Ended e c → after k rows m plan k (begin top) ≡ Ended e c
ended-at {T} {A} rows m plan top k n c e o h =
    let count : n + (k - n) ≡ k = omega arith in
    subst (λ j. after k rows m plan j (begin top) ≡ Ended e c) count (after-ended k rows m plan n (k - n) (begin top) c e h)

pub halted-at : {T A : Type 0} (rows : Rows T A) (m : Meets) (plan : Schedule T A) (top : Node T A) (k n : ℕ) (fs : List Fault) (l : Log T) → n ≤ k → after k rows m plan n (begin top) ≡ Halted fs l → after k rows m plan k (begin top) ≡ Halted fs l
halted-at {T} {A} rows m plan top k n fs l o h =
    let count : n + (k - n) ≡ k = omega arith in
    subst (λ j. after k rows m plan j (begin top) ≡ Halted fs l) count (after-halted k rows m plan n (k - n) (begin top) fs l h)
