use Rattle.std.proofs.Common.{◌≡◌, ℕ, zero, suc, ◌+◌, ◌<◌, List, [], ◌∷◌, ◌++◌, length, take, get_or, refl, ap, sym, ◌∙◌, arith, add-one}
use Rattle.std.proofs.lemmas.List.{take_all, length-map}
use Rattle.pt_meaning.specs.Process.{emptied}
use Rattle.pt_value.specs.declared.token.Token.{Token}
use Rattle.pt_reaction.specs.Spared.{Spared}
use Rattle.pt_rv.specs.Parties.{outputs_of, spare_at}
use Rattle.pt_rv.proofs.EndLaws.{outputs-behind}
use Rattle.pt_rv.proofs.ends.emptied_all.Goals as goal

lists-more : (os fs : List (Spared Token)) (k : ℕ) (f : Spared Token) → k < length os → f.list ≡ [] → outputs_of fs ≡ emptied (outputs_of (take k os)) → outputs_of (fs ++ (f ∷ [])) ≡ emptied (outputs_of (take (k + 1) os))
lists-more os fs k f h e g = outputs-behind fs f ∙ ap (λ v. outputs_of fs ++ (v ∷ [])) e ∙ ap (λ v. v ++ ([] ∷ [])) g ∙ next os k h ∙ ap (λ j. emptied (outputs_of (take j os))) (sym (add-one k))
  where
    next : (os : List (Spared Token)) (k : ℕ) → k < length os → emptied (outputs_of (take k os)) ++ ([] ∷ []) ≡ emptied (outputs_of (take (suc k) os))
    next [] k h = absurd (omega (arith, h))
    next (o ∷ os) zero h = refl
    next (o ∷ os) (suc k) h = ap (λ v. [] ∷ v) (next os k (omega (arith, h)))

rooms-more : (os fs : List (Spared Token)) (k : ℕ) (f o : Spared Token) → k < length os → length fs ≡ k → o ≡ get_or os k o → f.spare ≡ o.spare → ((i : ℕ) → spare_at fs i ≡ spare_at (take k os) i) → (i : ℕ) → spare_at (fs ++ (f ∷ [])) i ≡ spare_at (take (k + 1) os) i
rooms-more os fs k f o h n e g r i = by os fs k h n e r i ∙ ap (λ j. spare_at (take j os) i) (sym (add-one k))
  where
    by : (os fs : List (Spared Token)) (k : ℕ) → k < length os → length fs ≡ k → o ≡ get_or os k o → ((i : ℕ) → spare_at fs i ≡ spare_at (take k os) i) → (i : ℕ) → spare_at (fs ++ (f ∷ [])) i ≡ spare_at (take (suc k) os) i
    by [] fs k h n e r i = absurd (omega (arith, h))
    by (x ∷ os) [] zero h n e r zero = g ∙ ap (λ (v : Spared Token). v.spare) e
    by (x ∷ os) [] zero h n e r (suc i) = refl
    by (x ∷ os) [] (suc k) h n e r i = absurd (omega (arith, n))
    by (x ∷ os) (y ∷ fs) zero h n e r i = absurd (omega (arith, n))
    by (x ∷ os) (y ∷ fs) (suc k) h n e r zero = r 0
    by (x ∷ os) (y ∷ fs) (suc k) h n e r (suc i) = by os fs k (omega (arith, h)) (omega (arith, n)) e (λ j. r (suc j)) i

emptied-long : (X : List (List Token)) → length (emptied X) ≡ length X
emptied-long [] = refl
emptied-long (x ∷ X) = ap (λ v. suc v) (emptied-long X)

so-many : (os fs : List (Spared Token)) (k : ℕ) → k < length os → outputs_of fs ≡ emptied (outputs_of (take k os)) → length fs ≡ k
so-many os fs k h e = sym (length-map fs (λ (o : Spared Token). o.list)) ∙ ap (λ v. length v) e ∙ emptied-long (outputs_of (take k os)) ∙ front os k h
  where
    front : (os : List (Spared Token)) (k : ℕ) → k < length os → length (outputs_of (take k os)) ≡ k
    front [] k h = absurd (omega (arith, h))
    front (o ∷ os) zero h = refl
    front (o ∷ os) (suc k) h = ap (λ v. suc v) (front os k (omega (arith, h)))

pub loop-outlet-preserved : goal.loop-outlet-preserved
loop-outlet-preserved c = record {
  lists = ap outputs_of c.in_ok-push.ensures.items ∙ lists-more c.args.outlets.now c.loop-outlet.fresh.items c.loop-outlet.outlet-index c.in_ok-empty.empty c.loop-outlet-test.true c.in_ok-empty.ensures.list c.loop-outlet.invariant.lists;
  rooms = λ o.
      ap (λ v. spare_at v o) c.in_ok-push.ensures.items ∙
      rooms-more c.args.outlets.now c.loop-outlet.fresh.items c.loop-outlet.outlet-index c.in_ok-empty.empty c.outlet-item.result c.loop-outlet-test.true (so-many c.args.outlets.now c.loop-outlet.fresh.items c.loop-outlet.outlet-index c.loop-outlet-test.true c.loop-outlet.invariant.lists) c.outlet-item.is c.in_ok-empty.ensures.spare c.loop-outlet.invariant.rooms o;
}

pub returns-clause-lists : goal.returns-clause-lists
returns-clause-lists c = c.loop-outlet.invariant.lists ∙ ap (λ v. emptied (outputs_of v)) (take_all c.loop-outlet.outlet-index c.args.outlets.now (omega (arith, c.loop-outlet-test.false)))

pub returns-clause-rooms : goal.returns-clause-rooms
returns-clause-rooms c o = c.loop-outlet.invariant.rooms o ∙ ap (λ v. spare_at v o) (take_all c.loop-outlet.outlet-index c.args.outlets.now (omega (arith, c.loop-outlet-test.false)))
