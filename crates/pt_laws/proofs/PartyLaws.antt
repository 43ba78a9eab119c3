-- One process: its firings only add, and what is at rest stays.
use Rattle.std.proofs.Common.{◌≡◌, ℕ, zero, suc, ◌≤◌, ◌+◌, List, [], ◌∷◌, true, false, refl, sym, ap, subst, arith, ◌∙◌}
use Rattle.pt_meaning.specs.Basics.{Tag, Log, LogBelow}
use Rattle.pt_meaning.specs.Machine.{Fault, Outcome, Done, Stuck, Stepping, Facts, recorded}
use Rattle.pt_meaning.specs.Rounds.{Source}
use Rattle.pt_meaning.specs.Process.{Mood, Well, Broken, Party, Next, Puts, Fires, Gets, GetsAny, Joins, Idle, Sticks, by_mood, by_puts, by_need, next_event, fired, if_fires, advance, advanced, at_rest, mood_faults}
use Rattle.pt_meaning.specs.Laws.{AllIn, IsIn, Extends, Grows}
use Rattle.pt_laws.proofs.Order.{IsPrefix-refl, IsPrefix-trans, IsPrefix-after, IsPrefix-append}
use Rattle.pt_laws.proofs.TickLaws.{recorded-extends}

-- one process has at least the log and the stuck places of another
pub record PartyBelow {T S : Type 0} (p q : Party T S) : Type 0 where
  pub log : LogBelow p.log q.log
  pub faults : AllIn (mood_faults p.mood) (mood_faults q.mood)

pub party-refl : {T S : Type 0} (p : Party T S) → PartyBelow p p
party-refl p = record { log = λ q. IsPrefix-refl (p.log q); faults = λ f h. h }

pub party-trans : {T S : Type 0} (p q r : Party T S) → PartyBelow p q → PartyBelow q r → PartyBelow p r
party-trans p q r a b = record { log = λ x. IsPrefix-trans (p.log x) (q.log x) (r.log x) (a.log x) (b.log x); faults = λ f h. b.faults f (a.faults f h) }

pub sticks-broken : {T S : Type 0} (facts : Facts T S) (p : Party T S) (fs : List Fault) → p.mood ≡ Broken fs → next_event facts p ≡ Sticks
sticks-broken facts p fs e = ap (λ m. by_mood m (by_puts p.puts (by_need p.barrier (facts.need p.state) p.got))) e

pub fires-well : {T S : Type 0} (facts : Facts T S) (p : Party T S) → next_event facts p ≡ Fires → p.mood ≡ Well
fires-well facts p e = go p.mood refl
  where
    go : (m : Mood) → p.mood ≡ m → p.mood ≡ Well
    go Well h = h
    go (Broken fs) h = absurd (clash (sym (sticks-broken facts p fs h) ∙ e))
      where
        clash : Sticks ≡ Fires → ⊥
        clash h = cc

pub well-clear : {T S : Type 0} (p : Party T S) (gs : List Fault) → p.mood ≡ Well → AllIn (mood_faults p.mood) gs
well-clear p gs e f h = absurd (subst (λ m. IsIn f (mood_faults m)) e h)

module _ {T S : Type 0} (facts : Facts T S) (step : Stepping T S) (tag : Tag) (sources : List Source) (i : ℕ) where
  pub fired-above : (p : Party T S) (r : Outcome T S) → p.mood ≡ Well → PartyBelow p (fired facts step tag sources i p r)
  fired-above p (Done s out l) w = record { log = λ x. IsPrefix-append (p.log x) (l x); faults = well-clear p [] w }
  fired-above p (Stuck fs l) w = record { log = λ x. IsPrefix-append (p.log x) (l x); faults = well-clear p fs w }

  pub advance-above : (p : Party T S) → PartyBelow p (advance facts step tag sources i p)
  advance-above p = go (next_event facts p) refl
    where
      go : (n : Next) → next_event facts p ≡ n → PartyBelow p (if_fires facts step tag sources n i p)
      go Fires e = fired-above p (recorded (facts.made p.state) tag p.got (step tag p.state p.got)) (fires-well facts p e)
      go Puts e = party-refl p
      go (Gets q) e = party-refl p
      go GetsAny e = party-refl p
      go Joins e = party-refl p
      go Idle e = party-refl p
      go Sticks e = party-refl p

  -- firings only add to the log and to the stuck places
  pub advanced-above : (k : ℕ) (p : Party T S) → PartyBelow p (advanced facts step tag sources k i p)
  unfolding advanced
  advanced-above zero p = party-refl p
  advanced-above (suc k) p = party-trans p (advance facts step tag sources i p) (advanced facts step tag sources k i (advance facts step tag sources i p)) (advance-above p) (advanced-above k (advance facts step tag sources i p))

  -- a process that does not fire stays
  pub advance-stays : (p : Party T S) (n : Next) → next_event facts p ≡ n → (n ≡ Fires → ⊥) → advance facts step tag sources i p ≡ p
  advance-stays p n e d = ap (λ v. if_fires facts step tag sources v i p) e ∙ go n d
    where
      go : (n : Next) → (n ≡ Fires → ⊥) → if_fires facts step tag sources n i p ≡ p
      go Fires d = absurd (d refl)
      go Puts d = refl
      go (Gets q) d = refl
      go GetsAny d = refl
      go Joins d = refl
      go Idle d = refl
      go Sticks d = refl

  pub advanced-stays : (k : ℕ) (p : Party T S) (n : Next) → next_event facts p ≡ n → (n ≡ Fires → ⊥) → advanced facts step tag sources k i p ≡ p
  unfolding advanced
  advanced-stays zero p n e d = refl
  advanced-stays (suc k) p n e d = ap (λ q. advanced facts step tag sources k i q) (advance-stays p n e d) ∙ advanced-stays k p n e d

  -- so many firings, and then so many more
  pub advanced-more : (j k : ℕ) (p : Party T S) → advanced facts step tag sources k i (advanced facts step tag sources j i p) ≡ advanced facts step tag sources (j + k) i p
  unfolding advanced
  advanced-more zero k p = let e : k ≡ 0 + k = omega arith in ap (λ n. advanced facts step tag sources n i p) e
  advanced-more (suc j) k p = advanced-more j k (advance facts step tag sources i p) ∙ back
    where
      back : advanced facts step tag sources (j + k) i (advance facts step tag sources i p) ≡ advanced facts step tag sources (suc j + k) i p
      back = let e : suc j + k ≡ suc (j + k) = omega arith in ap (λ n. advanced facts step tag sources n i p) (sym e)

module _ {T S : Type 0} (facts : Facts T S) (step more : Stepping T S) (tag : Tag) (grows : Grows step more) (sources : List Source) (i : ℕ) where
  -- a firing that is stuck, beside the same with a grown step
  pub stuck-below : (k : ℕ) (p : Party T S) (fs : List Fault) (l : Log T) (r : Outcome T S) → Extends (Stuck fs l) r → PartyBelow (fired facts step tag sources i p (Stuck fs l)) (advanced facts more tag sources k i (fired facts more tag sources i p r))
  stuck-below k p fs l (Stuck gs m) e =
      party-trans (fired facts step tag sources i p (Stuck fs l)) (fired facts more tag sources i p (Stuck gs m)) (advanced facts more tag sources k i (fired facts more tag sources i p (Stuck gs m))) (record { log = λ x. IsPrefix-after (p.log x) (l x) (m x) (e.1 x); faults = e.0 }) (advanced-above facts more tag sources i k _)
  stuck-below k p [] l (Done s out m) e =
      party-trans (fired facts step tag sources i p (Stuck [] l)) (fired facts more tag sources i p (Done s out m)) (advanced facts more tag sources k i (fired facts more tag sources i p (Done s out m))) (record { log = λ x. IsPrefix-after (p.log x) (l x) (m x) (e x); faults = λ f h. absurd h }) (advanced-above facts more tag sources i k _)
  stuck-below k p (f ∷ fs) l (Done s out m) e = absurd e

  pub fired-below : (j k : ℕ) → ((p : Party T S) → PartyBelow (advanced facts step tag sources j i p) (advanced facts more tag sources k i p)) → (p : Party T S) (r r' : Outcome T S) → Extends r r' →
      PartyBelow (advanced facts step tag sources j i (fired facts step tag sources i p r)) (advanced facts more tag sources k i (fired facts more tag sources i p r'))
  fired-below j k ih p (Done s out l) r' e = rw e (ih (fired facts step tag sources i p (Done s out l)))
  fired-below j k ih p (Stuck fs l) r' e =
      subst (λ q. PartyBelow q (advanced facts more tag sources k i (fired facts more tag sources i p r'))) (sym (advanced-stays facts step tag sources i j (fired facts step tag sources i p (Stuck fs l)) Sticks refl (λ h. cc)))
      (stuck-below k p fs l r' e)

  pub event-below : (j k : ℕ) → ((p : Party T S) → PartyBelow (advanced facts step tag sources j i p) (advanced facts more tag sources k i p)) → (p : Party T S) (n : Next) →
      PartyBelow (advanced facts step tag sources j i (if_fires facts step tag sources n i p)) (advanced facts more tag sources k i (if_fires facts more tag sources n i p))
  event-below j k ih p Fires = fired-below j k ih p _ _ (recorded-extends (facts.made p.state) tag p.got _ _ (grows tag p.state p.got))
  event-below j k ih p Puts = ih p
  event-below j k ih p (Gets q) = ih p
  event-below j k ih p GetsAny = ih p
  event-below j k ih p Joins = ih p
  event-below j k ih p Idle = ih p
  event-below j k ih p Sticks = ih p

  pub advanced-below : (j k : ℕ) → j ≤ k → (p : Party T S) → PartyBelow (advanced facts step tag sources j i p) (advanced facts more tag sources k i p)
  unfolding advanced
  advanced-below zero k h p = advanced-above facts more tag sources i k p
  advanced-below (suc j) zero h p = absurd (omega arith)
  advanced-below (suc j) (suc k) h p = event-below j k (advanced-below j k (omega arith)) p (next_event facts p)

  pub fired-rest : (j k : ℕ) → ((p : Party T S) → at_rest (next_event facts (advanced facts step tag sources j i p)) ≡ true → advanced facts more tag sources k i p ≡ advanced facts step tag sources j i p) →
      (p : Party T S) (r r' : Outcome T S) → Extends r r' → at_rest (next_event facts (advanced facts step tag sources j i (fired facts step tag sources i p r))) ≡ true →
      advanced facts more tag sources k i (fired facts more tag sources i p r') ≡ advanced facts step tag sources j i (fired facts step tag sources i p r)
  fired-rest j k ih p (Done s out l) r' e a = rw e (ih (fired facts step tag sources i p (Done s out l)) a)
  fired-rest j k ih p (Stuck fs l) r' e a = absurd (no (subst (λ q. at_rest (next_event facts q) ≡ true) (advanced-stays facts step tag sources i j (fired facts step tag sources i p (Stuck fs l)) Sticks refl (λ h. cc)) a))
    where
      no : false ≡ true → ⊥
      no h = cc

  pub event-rest : (j k : ℕ) → ((p : Party T S) → at_rest (next_event facts (advanced facts step tag sources j i p)) ≡ true → advanced facts more tag sources k i p ≡ advanced facts step tag sources j i p) →
      (p : Party T S) (n : Next) → at_rest (next_event facts (advanced facts step tag sources j i (if_fires facts step tag sources n i p))) ≡ true →
      advanced facts more tag sources k i (if_fires facts more tag sources n i p) ≡ advanced facts step tag sources j i (if_fires facts step tag sources n i p)
  event-rest j k ih p Fires a = fired-rest j k ih p _ _ (recorded-extends (facts.made p.state) tag p.got _ _ (grows tag p.state p.got)) a
  event-rest j k ih p Puts a = ih p a
  event-rest j k ih p (Gets q) a = ih p a
  event-rest j k ih p GetsAny a = ih p a
  event-rest j k ih p Joins a = ih p a
  event-rest j k ih p Idle a = ih p a
  event-rest j k ih p Sticks a = ih p a

  -- a process that has come to rest is the same with more firings and a grown step
  pub advanced-rest : (j k : ℕ) → j ≤ k → (p : Party T S) → at_rest (next_event facts (advanced facts step tag sources j i p)) ≡ true → advanced facts more tag sources k i p ≡ advanced facts step tag sources j i p
  unfolding advanced
  advanced-rest zero k h p a = rests (next_event facts p) refl a
    where
      no : false ≡ true → ⊥
      no h = cc

      fires : (n : Next) → at_rest n ≡ true → n ≡ Fires → ⊥
      fires n a e = no (subst (λ v. at_rest v ≡ true) e a)

      rests : (n : Next) → next_event facts p ≡ n → at_rest (next_event facts p) ≡ true → advanced facts more tag sources k i p ≡ p
      rests n e a = advanced-stays facts more tag sources i k p n e (fires n (subst (λ v. at_rest v ≡ true) e a))
  advanced-rest (suc j) zero h p a = absurd (omega arith)
  advanced-rest (suc j) (suc k) h p a = event-rest j k (advanced-rest j k (omega arith)) p (next_event facts p) a
