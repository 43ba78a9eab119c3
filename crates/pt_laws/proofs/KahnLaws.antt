-- A settled round stays, so a Kahn firing keeps the fuel law where its children's steps keep it.
use Rattle.std.proofs.Common.{◌≡◌, ℕ, zero, suc, ◌≤◌, ◌+◌, List, [], ◌∷◌, ◌++◌, Bool, true, false, ◌&&◌, length, Option, refl, sym, ap, ap₂, subst, arith, eqb-true, eq-eqb, inl, inr, ◌∙◌, ◌⊎◌}
use Rattle.pt_meaning.specs.Basics.{Tag, Streams, IsPrefix, Below, Log, LogBelow, same_lengths, log_below}
use Rattle.pt_meaning.specs.Machine.{Fault, Stuck, Stepping, Facts}
use Rattle.pt_meaning.specs.Flow.{Stop, Lacking, Ended, Capped, Stopped, Flow}
use Rattle.pt_meaning.specs.Rounds.{Net, Limit, refill, flows, round, at_rest, all_at_rest}
use Rattle.pt_meaning.specs.Dataflow.{Inside, stop_faults, faults_of, prefixed, logs_of, Leaving, settled, kahn, firing, if_settled, SdfPlan, PnPlan, sdf, pn}
use Rattle.pt_meaning.specs.Laws.{AllIn, IsIn, Extends, Grows}
use Rattle.pt_laws.proofs.Order.{IsPrefix-refl, Below-antisym, log_below-mono}
use Rattle.pt_laws.proofs.RoundLaws.{FlowsBelow, flows-below, flows-rest, round-below, refill-below, grows-refl}

pub and-left : (a b : Bool) → (a && b) ≡ true → a ≡ true
and-left true b h = refl
and-left false b h = h

pub and-right : (a b : Bool) → (a && b) ≡ true → b ≡ true
and-right true b h = h
and-right false b h = absurd (cc)

prefix-same : {T : Type 0} (xs ys : List T) → IsPrefix xs ys → length xs ≡ length ys → xs ≡ ys
prefix-same [] [] p e = refl
prefix-same [] (y ∷ ys) p e = absurd (omega arith)
prefix-same (x ∷ xs) [] p e = absurd p
prefix-same (x ∷ xs) (y ∷ ys) p e = ap₂ (λ a b. a ∷ b) p.0 (prefix-same xs ys p.1 (omega arith))

below-same : {T : Type 0} (X Y : Streams T) → Below X Y → same_lengths X Y ≡ true → X ≡ Y
below-same [] [] b e = refl
below-same [] (y ∷ Y) b e = absurd b
below-same (x ∷ X) [] b e = absurd b
below-same (x ∷ X) (y ∷ Y) b e = ap₂ (λ a b. a ∷ b) (prefix-same x y b.0 (eqb-true _ _ (and-left _ _ e))) (below-same X Y b.1 (and-right _ _ e))

pub same-lengths-refl : {T : Type 0} (X : Streams T) → same_lengths X X ≡ true
same-lengths-refl [] = refl
same-lengths-refl (x ∷ X) = rw (eq-eqb (length x) (length x) refl) (same-lengths-refl X)

module _ {T S : Type 0} (facts : Facts T S) (step more : Stepping T S) (tag : Tag) (grows : Grows step more) (net : Net) (cs : List Limit) (kids : List S) (X : Streams T) where
  same-rounds : (k : ℕ) → settled facts step tag net cs kids X k ≡ true → same_lengths (round facts step tag net cs kids X k) (round facts step tag net cs kids X (suc k)) ≡ true
  same-rounds k e = and-left _ _ e

  pub at-rest : (k : ℕ) → settled facts step tag net cs kids X k ≡ true → all_at_rest cs (flows facts step tag net.places cs k kids (round facts step tag net cs kids X k)) ≡ true
  at-rest k e = and-right _ _ e

  -- the channels at a settled round are what the stream functions make of them
  pub fixed : (k : ℕ) → settled facts step tag net cs kids X k ≡ true → round facts step tag net cs kids X k ≡ refill (flows facts step tag net.places cs k kids (round facts step tag net cs kids X k)) net.sources X
  unfolding round
  fixed k e =
      below-same (round facts step tag net cs kids X k) (round facts step tag net cs kids X (suc k)) (round-below facts step step tag (grows-refl step) net cs kids X k (suc k) (omega arith)) (same-rounds k e) ∙
      ap (λ fs. refill fs net.sources X) (flows-rest facts step step tag (grows-refl step) net.places cs k (suc k) (omega arith) kids (round facts step tag net cs kids X k) (at-rest k e))

  -- no round has more than a settled one
  under : (k : ℕ) → settled facts step tag net cs kids X k ≡ true → (j : ℕ) → Below (round facts more tag net cs kids X j) (round facts step tag net cs kids X k)
  unfolding round
  under k e zero = round-below facts step step tag (grows-refl step) net cs kids X zero k (omega arith)
  under k e (suc j) =
      subst (λ Y. Below (round facts more tag net cs kids X (suc j)) Y) (sym (fixed k e))
      (subst (λ fs. Below (round facts more tag net cs kids X (suc j)) (refill fs net.sources X)) (flows-rest facts step more tag grows net.places cs k (suc j + k) (omega arith) kids (round facts step tag net cs kids X k) (at-rest k e))
      (refill-below _ _ (flows-below facts more more tag (grows-refl more) net.places cs (suc j) (suc j + k) (omega arith) kids _ _ (under k e j)) net.sources X))

  -- so it is the same at each greater fuel
  pub stays : (k k' : ℕ) → k ≤ k' → settled facts step tag net cs kids X k ≡ true → round facts more tag net cs kids X k' ≡ round facts step tag net cs kids X k
  stays k k' h e = Below-antisym _ _ (under k e k') (round-below facts step more tag grows net cs kids X k k' h)

  pub flows-stay : (k k' : ℕ) → k ≤ k' → settled facts step tag net cs kids X k ≡ true →
      flows facts more tag net.places cs k' kids (round facts more tag net cs kids X k') ≡ flows facts step tag net.places cs k kids (round facts step tag net cs kids X k)
  flows-stay k k' h e =
      ap (λ Y. flows facts more tag net.places cs k' kids Y) (stays k k' h e) ∙
      flows-rest facts step more tag grows net.places cs k k' h kids (round facts step tag net cs kids X k) (at-rest k e)

  pub settled-stays : (k k' : ℕ) → k ≤ k' → settled facts step tag net cs kids X k ≡ true → settled facts more tag net cs kids X k' ≡ true
  settled-stays k k' h e =
      both (same_lengths (round facts more tag net cs kids X k') (round facts more tag net cs kids X (suc k'))) (all_at_rest cs (flows facts more tag net.places cs k' kids (round facts more tag net cs kids X k')))
      (rw (stays k k' h e, stays k (suc k') (omega arith) e) (same-lengths-refl (round facts step tag net cs kids X k)))
      (subst (λ fs. all_at_rest cs fs ≡ true) (sym (flows-stay k k' h e)) (at-rest k e))
    where
      both : (a b : Bool) → a ≡ true → b ≡ true → (a && b) ≡ true
      both a b p q = rw (p, q) refl

-- the stuck places and logs of children
pub in-left : (f : Fault) (fs gs : List Fault) → IsIn f fs → IsIn f (fs ++ gs)
in-left f [] gs h = absurd h
in-left f (x ∷ fs) gs (inl e) = inl e
in-left f (x ∷ fs) gs (inr h) = inr (in-left f fs gs h)

pub in-right : (f : Fault) (fs gs : List Fault) → IsIn f gs → IsIn f (fs ++ gs)
in-right f [] gs h = h
in-right f (x ∷ fs) gs h = inr (in-right f fs gs h)

in-append : (f : Fault) (fs gs : List Fault) → IsIn f (fs ++ gs) → IsIn f fs ⊎ IsIn f gs
in-append f [] gs h = inr h
in-append f (x ∷ fs) gs (inl e) = inl (inl e)
in-append f (x ∷ fs) gs (inr h) = elim (in-append f fs gs h) [ inl a ↦ inl (inr a) | inr b ↦ inr b ]

pub all_in-append : (xs bs cs ds : List Fault) → AllIn xs bs → AllIn cs ds → AllIn (xs ++ cs) (bs ++ ds)
all_in-append xs bs cs ds h k f i = elim (in-append f xs cs i) [ inl a ↦ in-left f bs ds (h f a) | inr b ↦ in-right f bs ds (k f b) ]

in-prefixed : (i : ℕ) (f : Fault) (fs : List Fault) → IsIn f fs → IsIn (record { path = i ∷ f.path; firing = f.firing; code = f.code }) (prefixed i fs)
in-prefixed i f [] h = absurd h
in-prefixed i f (g ∷ fs) (inl e) = inl (ap (λ (x : Fault). let y : Fault = record { path = i ∷ x.path; firing = x.firing; code = x.code } in y) e)
in-prefixed i f (g ∷ fs) (inr h) = inr (in-prefixed i f fs h)

from-prefixed : (i : ℕ) (f : Fault) (fs : List Fault) → IsIn f (prefixed i fs) → (g : Fault) × IsIn g fs × (f ≡ record { path = i ∷ g.path; firing = g.firing; code = g.code })
from-prefixed i f [] h = absurd h
from-prefixed i f (g ∷ fs) (inl e) = (g, inl refl, e)
from-prefixed i f (g ∷ fs) (inr h) = let r = from-prefixed i f fs h in (r.0, inr r.1, r.2)

pub all_in-prefixed : (i : ℕ) (fs gs : List Fault) → AllIn fs gs → AllIn (prefixed i fs) (prefixed i gs)
all_in-prefixed i fs gs h f m = let r = from-prefixed i f fs m in subst (λ x. IsIn x (prefixed i gs)) (sym r.2) (in-prefixed i r.0 gs (h r.0 r.1))

pub faults-below : {T S : Type 0} (i : ℕ) (fs gs : List (Flow T S)) → FlowsBelow fs gs → AllIn (faults_of i fs) (faults_of i gs)
faults-below i [] [] h f m = m
faults-below i (f ∷ fs) (g ∷ gs) h x m = all_in-append (prefixed i (stop_faults f.stop)) (prefixed i (stop_faults g.stop)) (faults_of (suc i) fs) (faults_of (suc i) gs) (all_in-prefixed i _ _ h.0.faults) (faults-below (suc i) fs gs h.1) x m
faults-below i [] (g ∷ gs) h f m = absurd h
faults-below i (f ∷ fs) [] h x m = absurd h

pub logs-below : {T S : Type 0} (fs gs : List (Flow T S)) → FlowsBelow fs gs → LogBelow (log_below (logs_of fs)) (log_below (logs_of gs))
logs-below [] [] h p = IsPrefix-refl (log_below [] p)
logs-below (f ∷ fs) (g ∷ gs) h p = log_below-mono f.log g.log (logs_of fs) (logs_of gs) h.0.log (logs-below fs gs h.1) p
logs-below [] (g ∷ gs) h p = absurd h
logs-below (f ∷ fs) [] h p = absurd h

rest-clear : (c : Option ℕ) (fired : ℕ) (stop : Stop) → at_rest c fired stop ≡ true → stop_faults stop ≡ []
rest-clear c fired Lacking e = refl
rest-clear c fired Ended e = refl
rest-clear c fired Capped e = refl
rest-clear c fired (Stopped fs) e = absurd (cc)

pub rest-no-faults : {T S : Type 0} (cs : List Limit) (i : ℕ) (fs : List (Flow T S)) → all_at_rest cs fs ≡ true → faults_of i fs ≡ []
rest-no-faults cs i [] e = refl
rest-no-faults [] i (f ∷ fs) e = absurd (cc)
rest-no-faults (c ∷ cs) i (f ∷ fs) e =
    let a : stop_faults f.stop ≡ [] = rest-clear c.firings f.fired f.stop (and-left _ _ e) in
    let b : faults_of (suc i) fs ≡ [] = rest-no-faults cs (suc i) fs (and-right _ _ e) in
    ap₂ (λ x y. prefixed i x ++ y) a b

-- the two firings, by whether each is done
unsettled-extends : {T S : Type 0} (b : Bool) (fs gs : List Fault) (l m : Log T) (c : Inside (Streams T) S) (out : Streams T) → (b ≡ true → gs ≡ []) → AllIn fs gs → LogBelow l m → Extends {T = T} {S = Inside (Streams T) S} (Stuck fs l) (if_settled b c out m gs)
unsettled-extends false fs gs l m c out clear h k = (h, k)
unsettled-extends true [] gs l m c out clear h k = k
unsettled-extends true (f ∷ fs) gs l m c out clear h k = subst (λ v. IsIn f v) (clear refl) (h f (inl refl))

firing-extends : {T S : Type 0} (b b' : Bool) (leaving : Leaving) (places : List ℕ) (fs gs : List (Flow T S)) (X Y : Streams T) →
    (b ≡ true → (b' ≡ true) × (gs ≡ fs) × (Y ≡ X)) → (b' ≡ true → faults_of 0 gs ≡ []) → FlowsBelow fs gs → Extends (firing b leaving places fs X) (firing b' leaving places gs Y)
firing-extends true b' leaving places fs gs X Y same clear h = let e = same refl in rw (e.0, e.1, e.2) refl
firing-extends false b' leaving places fs gs X Y same clear h = unsettled-extends b' (faults_of 0 fs) (faults_of 0 gs) _ _ _ _ clear (faults-below 0 fs gs h) (logs-below fs gs h)

module _ {T S : Type 0} (facts : Facts T S) (step more : Stepping T S) (grows : Grows step more) where
  -- the scheme of rounds keeps the fuel law
  pub kahn-extends : (tag : Tag) (net : Net) (cs : List Limit) (enough : List (Flow T S) → Bool) (leaving : Leaving) (kids : List S) (X : Streams T) (k k' : ℕ) → k ≤ k' →
      Extends (kahn facts step tag net cs enough leaving kids X k) (kahn facts more tag net cs enough leaving kids X k')
  unfolding kahn
  kahn-extends tag net cs enough leaving kids X k k' h =
      firing-extends _ _ leaving net.places _ _ _ _
      (λ e. (
        both _ _ (settled-stays facts step more tag grows net cs kids X k k' h (and-left _ _ e)) (subst (λ fs. enough fs ≡ true) (sym (flows-stay facts step more tag grows net cs kids X k k' h (and-left _ _ e))) (and-right _ _ e)),
        flows-stay facts step more tag grows net cs kids X k k' h (and-left _ _ e),
        stays facts step more tag grows net cs kids X k k' h (and-left _ _ e),
      ))
      (λ e. rest-no-faults cs 0 _ (at-rest facts more more tag (grows-refl more) net cs kids X k' (and-left _ _ e)))
      (flows-below facts step more tag grows net.places cs k k' h kids _ _ (round-below facts step more tag grows net cs kids X k k' h))
    where
      both : (a b : Bool) → a ≡ true → b ≡ true → (a && b) ≡ true
      both a b p q = rw (p, q) refl

  pub sdf-grows : (p : SdfPlan) (k k' : ℕ) → k ≤ k' → Grows (sdf facts step p k) (sdf facts more p k')
  sdf-grows p k k' h tag c inputs = kahn-extends tag p.net _ _ _ c.kids _ k k' h

  pub pn-grows : (p : PnPlan) (k k' : ℕ) → k ≤ k' → Grows (pn facts step p k) (pn facts more p k')
  pn-grows p k k' h tag c inputs = kahn-extends tag p.net _ _ _ c.kids _ k k' h
