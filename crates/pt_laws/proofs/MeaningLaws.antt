-- The meaning's log grows with the fuel, and an end or a stuck place stays.
use Rattle.std.proofs.Common.{ℕ, zero, suc, ◌≤◌, ◌++◌, List, [], ◌∷◌, Some, refl, sym, subst, arith}
use Rattle.pt_meaning.specs.Basics.{Tag, Log, LogBelow, log_then}
use Rattle.pt_meaning.specs.Machine.{Fault, Outcome, Done, Stuck}
use Rattle.pt_meaning.specs.Laws.{Extends}
use Rattle.pt_meaning.specs.Meetings.{Meets}
use Rattle.pt_meaning.specs.Node.{Rows, Node, Step}
use Rattle.pt_meaning.specs.Job.{Turn, Fire, Ends, Limit, Schedule, Course, Standing, Goes, Ended, Halted, on_step, on_turn, goes_on, after, log_of, begin}
use Rattle.pt_meaning.specs.Lawful.{LawfulRows}
use Rattle.pt_laws.specs.Promises.{StandsOn, MeaningGrows}
use Rattle.pt_laws.proofs.Order.{IsPrefix-refl, IsPrefix-trans, IsPrefix-after, IsPrefix-append}
use Rattle.pt_laws.proofs.FuelLaw.{more_fuel}

module _ {T A : Type 0} (rows : Rows T A) (m : Meets) (plan : Schedule T A) where
  -- what has been logged stays
  step-above : (c : Course T A) (tag : Tag) (r : Outcome T (Node T A)) → LogBelow c.log (log_of (on_step c tag r))
  step-above c tag (Done top out l) p = IsPrefix-append (c.log p) (l p)
  step-above c tag (Stuck fs l) p = IsPrefix-append (c.log p) (l p)

  turn-above : (k : ℕ) (c : Course T A) (t : Turn T) → LogBelow c.log (log_of (on_turn k rows m c t))
  turn-above k c (Fire tag X) p = step-above c tag (Step k rows m c.top tag X) p
  turn-above k c (Ends e) p = IsPrefix-refl (c.log p)
  turn-above k c Limit p = IsPrefix-refl (c.log p)

  goes-above : (more : Course T A → Standing T A) → ((c : Course T A) → LogBelow c.log (log_of (more c))) → (s : Standing T A) → LogBelow (log_of s) (log_of (goes_on more s))
  goes-above more h (Goes c) p = h c p
  goes-above more h (Ended e c) p = IsPrefix-refl (c.log p)
  goes-above more h (Halted fs l) p = IsPrefix-refl (l p)

  pub after-above : (k n : ℕ) (c : Course T A) → LogBelow c.log (log_of (after k rows m plan n c))
  unfolding after
  after-above k zero c p = IsPrefix-refl (c.log p)
  after-above k (suc n) c p =
      IsPrefix-trans (c.log p) (log_of (on_turn k rows m c (plan c.fired c.last c.top)) p) (log_of (goes_on (after k rows m plan n) (on_turn k rows m c (plan c.fired c.last c.top))) p) (turn-above k c (plan c.fired c.last c.top) p)
      (goes-above (after k rows m plan n) (after-above k n) (on_turn k rows m c (plan c.fired c.last c.top)) p)

  -- a run that stands at a stuck step, beside whatever a greater one comes to
  halted-on : (more : Course T A → Standing T A) → ((c : Course T A) → LogBelow c.log (log_of (more c))) → (c : Course T A) (tag : Tag) (fs : List Fault) (l : Log T) (r : Outcome T (Node T A)) → Extends (Stuck fs l) r → StandsOn (Halted fs (log_then c.log l)) (goes_on more (on_step c tag r))
  halted-on more h c tag fs l (Stuck gs n) e = (e.0, λ p. IsPrefix-after (c.log p) (l p) (n p) (e.1 p))
  halted-on more h c tag [] l (Done top out n) e = late (more next) (h next)
    where
      next : Course T A
      next = record { fired = suc c.fired; last = Some tag; top = top; log = log_then c.log n }

      late : (s : Standing T A) → LogBelow next.log (log_of s) → StandsOn (Halted [] (log_then c.log l)) s
      late (Goes d) k = λ p. IsPrefix-trans (c.log p ++ l p) (c.log p ++ n p) (d.log p) (IsPrefix-after (c.log p) (l p) (n p) (e p)) (k p)
      late (Ended x d) k = λ p. IsPrefix-trans (c.log p ++ l p) (c.log p ++ n p) (d.log p) (IsPrefix-after (c.log p) (l p) (n p) (e p)) (k p)
      late (Halted gs d) k = (λ f i. absurd i, λ p. IsPrefix-trans (c.log p ++ l p) (c.log p ++ n p) (d p) (IsPrefix-after (c.log p) (l p) (n p) (e p)) (k p))
  halted-on more h c tag (f ∷ fs) l (Done top out n) e = absurd e

  step-on : (go more : Course T A → Standing T A) → ((c : Course T A) → StandsOn (go c) (more c)) → ((c : Course T A) → LogBelow c.log (log_of (more c))) → (c : Course T A) (tag : Tag) (r r' : Outcome T (Node T A)) → Extends r r' →
      StandsOn (goes_on go (on_step c tag r)) (goes_on more (on_step c tag r'))
  step-on go more h k c tag (Done top out l) r' e = subst (λ x. StandsOn (goes_on go (on_step c tag (Done top out l))) (goes_on more (on_step c tag x))) (sym e) (h _)
  step-on go more h k c tag (Stuck fs l) r' e = halted-on more k c tag fs l r' e

  turn-on : LawfulRows rows → (k k' : ℕ) → k ≤ k' → (go more : Course T A → Standing T A) → ((c : Course T A) → StandsOn (go c) (more c)) → ((c : Course T A) → LogBelow c.log (log_of (more c))) → (c : Course T A) (t : Turn T) →
      StandsOn (goes_on go (on_turn k rows m c t)) (goes_on more (on_turn k' rows m c t))
  turn-on law k k' o go more h x c (Fire tag X) = step-on go more h x c tag _ _ (more_fuel rows law m k k' o c.top tag X)
  turn-on law k k' o go more h x c (Ends e) = refl
  turn-on law k k' o go more h x c Limit = (λ f i. i, λ p. IsPrefix-refl (c.log p))

  pub after-on : LawfulRows rows → (k k' : ℕ) → k ≤ k' → (n n' : ℕ) → n ≤ n' → (c : Course T A) → StandsOn (after k rows m plan n c) (after k' rows m plan n' c)
  unfolding after
  after-on law k k' o zero n' l c = after-above k' n' c
  after-on law k k' o (suc n) zero l c = absurd (omega arith)
  after-on law k k' o (suc n) (suc n') l c = turn-on law k k' o (after k rows m plan n) (after k' rows m plan n') (after-on law k k' o n n' (omega arith)) (after-above k' n') c (plan c.fired c.last c.top)

pub meaning_grows : {T A : Type 0} → MeaningGrows T A
meaning_grows rows law m plan top k k' h = after-on rows m plan law k k' h k k' h (begin top)
