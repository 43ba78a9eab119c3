-- Logs of a job that ends are parts of its whole log.
use Rattle.std.proofs.Common.{◌≡◌, ◌⊎◌, inl, inr, ℕ, zero, suc, ◌+◌, ◌≤◌, List, [], ◌∷◌, ◌++◌, Bool, true, false, refl, sym, ap, subst, arith, ◌∙◌}
use Rattle.pt_meaning.specs.Tag.{Tag}
use Rattle.pt_meaning.specs.Streams.{IsPrefix, at}
use Rattle.pt_meaning.specs.Log.{LogBelow, Event, Finished, Met, with_tag, given_on}
use Rattle.pt_meaning.specs.Machine.{Outcome, Done, Stuck}
use Rattle.pt_meaning.specs.Meetings.{Meets}
use Rattle.pt_meaning.specs.Tree.{Rows, Node}
use Rattle.pt_meaning.specs.Step.{Step, no_meetings}
use Rattle.pt_meaning.specs.Job.{End, Turn, Fire, Ends, Limit, Schedule, Course, Standing, Goes, Ended, Halted, on_step, on_turn, goes_on, after, begin, meaning, log_of}
use Rattle.pt_meaning.specs.Closed.{Has, these_if, given_from, came_within}
use Rattle.pt_meaning.specs.Lawful.{LawfulRows}
use Rattle.pt_laws.specs.Promises.{StandsOn}
use Rattle.pt_laws.proofs.MeaningLaws.{meaning_grows}
use Rattle.pt_laws.proofs.OutcomeLaws.{either-order}
use Rattle.pt_laws.proofs.Order.{IsPrefix-refl}
use Rattle.pt_examples.specs.Small.{Token, Act, rows}

stands-log : {T A : Type 0} (s t : Standing T A) → StandsOn s t → LogBelow (log_of s) (log_of t)
stands-log (Goes c) t h = h
stands-log {T} {A} (Ended e c) t h = subst (λ (v : Standing T A). LogBelow c.log (log_of v)) (sym h) (λ p. IsPrefix-refl (c.log p))
stands-log (Halted fs l) (Halted gs n) h = h.1
stands-log (Halted [] l) (Goes c) h = h
stands-log (Halted [] l) (Ended e c) h = h
stands-log (Halted (f ∷ fs) l) (Goes c) h = absurd h
stands-log (Halted (f ∷ fs) l) (Ended e c) h = absurd h

-- where a job ends, its log at each fuel is the beginning of its whole log
pub part-of-all : LawfulRows rows → (plan : Schedule Token Act) (top : Node Token Act) (K : ℕ) (e : End) (c : Course Token Act) → after K rows no_meetings plan K (begin top) ≡ Ended e c → (k : ℕ) → LogBelow (meaning k rows no_meetings plan top) c.log
part-of-all law plan top K e c ended k = go (either-order k K)
  where
    go : (k ≤ K) ⊎ (K ≤ k) → LogBelow (meaning k rows no_meetings plan top) c.log
    go (inl o) = subst (λ (s : Standing Token Act). LogBelow (meaning k rows no_meetings plan top) (log_of s)) ended (stands-log (after k rows no_meetings plan k (begin top)) (after K rows no_meetings plan K (begin top)) (meaning_grows rows law no_meetings plan top k K o))
    go (inr o) =
        let stays : after k rows no_meetings plan k (begin top) ≡ Ended e c = subst (λ (s : Standing Token Act). StandsOn s (after k rows no_meetings plan k (begin top))) ended (meaning_grows rows law no_meetings plan top K k o) in
        subst (λ (s : Standing Token Act). LogBelow (log_of s) c.log) (sym stays) (λ p. IsPrefix-refl (c.log p))

pub prefix-has : {A : Type 0} (x : A) (xs ys : List A) → IsPrefix xs ys → Has x xs → Has x ys
prefix-has x [] ys h g = absurd g
prefix-has x (y ∷ xs) [] h g = absurd h
prefix-has x (y ∷ xs) (z ∷ ys) h (inl g) = inl (g ∙ h.0)
prefix-has x (y ∷ xs) (z ∷ ys) h (inr g) = inr (prefix-has x xs ys h.1 g)

-- a prefix of one event is none or that one
pub one-or-none : {A : Type 0} (x : A) (xs : List A) → IsPrefix xs (x ∷ []) → (xs ≡ []) ⊎ (xs ≡ x ∷ [])
one-or-none x [] h = inl refl
one-or-none x (y ∷ []) h = inr (ap (λ v. v ∷ []) h.0)
one-or-none x (y ∷ z ∷ xs) h = absurd h.1

-- a port without a trace gave nothing
pub nothing-given : {T : Type 0} (port d r n : ℕ) (es : List (Event T)) → given_on port es ≡ [] → given_from d r n port es ≡ []
nothing-given port d r n [] e = refl
nothing-given port d r n (Met ns i m ∷ es) e = nothing-given port d r n es e
nothing-given {T} port d r n (Finished ns f ∷ es) e = go (came_within d r n ns f) (at f.outputs port) refl e (λ h. nothing-given port d r n es h)
  where
    go : (b : Bool) (xs : List T) → at f.outputs port ≡ xs → with_tag f.tag (at f.outputs port) ++ given_on port es ≡ [] → (given_on port es ≡ [] → given_from d r n port es ≡ []) → these_if b (at f.outputs port) (given_from d r n port es) ≡ []
    go b (x ∷ xs) h e rest = absurd (clash (ap (λ v. with_tag f.tag v ++ given_on port es) (sym h) ∙ e))
      where
        clash : (f.tag, x) ∷ (with_tag f.tag xs ++ given_on port es) ≡ [] → ⊥
        clash e = cc
    go true [] h e rest = ap (λ v. v ++ given_from d r n port es) h ∙ rest (ap (λ v. with_tag f.tag v ++ given_on port es) (sym h) ∙ e)
    go false [] h e rest = rest (ap (λ v. with_tag f.tag v ++ given_on port es) (sym h) ∙ e)

-- after n firings that are done n are counted
pub fired-so-many : {T A : Type 0} (k : ℕ) (rows : Rows T A) (m : Meets) (plan : Schedule T A) (n : ℕ) (c d : Course T A) → after k rows m plan n c ≡ Goes d → d.fired ≡ n + c.fired
unfolding after
fired-so-many k rows m plan zero c d e = let same : c ≡ d = cc in sym (ap (λ (v : Course _ _). v.fired) same) ∙ zero_plus c.fired
  where
    zero_plus : (n : ℕ) → n ≡ 0 + n
    zero_plus n = omega arith
fired-so-many {T} {A} k rows m plan (suc n) c d e = by_turn (plan c.fired c.last c.top) e (λ x h. fired-so-many k rows m plan n x d h)
  where
    by_step : (tag : Tag) (o : Outcome T (Node T A)) → goes_on (after k rows m plan n) (on_step c tag o) ≡ Goes d → ((x : Course T A) → after k rows m plan n x ≡ Goes d → d.fired ≡ n + x.fired) → d.fired ≡ suc n + c.fired
    by_step tag (Done z out l) e ih = let r = ih _ e in omega (arith, r)
    by_step tag (Stuck fs l) e ih = absurd (cc)

    by_turn : (t : Turn T) → goes_on (after k rows m plan n) (on_turn k rows m c t) ≡ Goes d → ((x : Course T A) → after k rows m plan n x ≡ Goes d → d.fired ≡ n + x.fired) → d.fired ≡ suc n + c.fired
    by_turn (Fire tag X) e ih = by_step tag (Step k rows m c.top tag X) e ih
    by_turn (Ends q) e ih = absurd (cc)
    by_turn Limit e ih = absurd (cc)
