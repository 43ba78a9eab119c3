-- A Rendezvous firing comes to the same in whatever order firings and meetings are made, as long as the meetings come in their order.
use Rattle.std.proofs.Common.{◌≡◌, ℕ, zero, suc, ◌≤◌, ◌+◌, List, [], ◌∷◌, ◌++◌, Bool, true, false, ◌&&◌, not, Option, Some, None, refl, sym, ap, subst, arith, ◌∙◌}
use Rattle.pt_meaning.specs.Basics.{Tag, Log, Meeting, Met}
use Rattle.pt_meaning.specs.Machine.{Fault, Done, Stuck, Stepping, Facts}
use Rattle.pt_meaning.specs.Rounds.{Source, Own, Output, Net}
use Rattle.pt_meaning.specs.Modal.{get, change_at}
use Rattle.pt_meaning.specs.Process.{Party, advance, advanced, all_advanced, all_rest, rest_of, with_put_made, with_token, party_faults}
use Rattle.pt_meaning.specs.Meetings.{Scene, offers, Target, Place, Outlet, Hop, hops_in, is_legal, any_legal, sent, received, passed, meet}
use Rattle.pt_meaning.specs.Rendezvous.{settled, ended, if_ended, if_meets, under_meetings, left_in, scene_log}
use Rattle.pt_meaning.specs.Laws.{IsIn}
use Rattle.pt_meaning.specs.AnyOrder.{scene_after, AllLegal, Behind, AllBehind, SceneBehind, Underway, fire_at, fires_in}
use Rattle.pt_laws.proofs.RoundLaws.{grows-refl}
use Rattle.pt_laws.proofs.KahnLaws.{and-left, and-right}
use Rattle.pt_laws.proofs.PartyLaws.{advanced-more}
use Rattle.pt_laws.proofs.SceneLaws.{parties-faults, all-rest-clear}
use Rattle.pt_laws.proofs.MeetingLaws.{AllAhead, SceneAhead, HopsSame, SenderSame, ReceiverSame, hops-change, receiver-change, hops-same, receivers-same, legal-stays, all-rest-same, all-below}

-- what a meeting keeps of a relation of processes that holds of each and itself
module _ {T S : Type 0} (net : Net) (Rel : ℕ → Party T S → Party T S → Type 0) (same : (i : ℕ) (p : Party T S) → Rel i p p) where
  abbrev pub AllRel : ℕ → List (Party T S) → List (Party T S) → Type 0
  AllRel i [] [] = Unit {0}
  AllRel i (p ∷ ps) (q ∷ qs) = Rel i p q × AllRel (suc i) ps qs
  AllRel i [] (q ∷ qs) = ⊥
  AllRel i (p ∷ ps) [] = ⊥

  pub record SceneRel (a b : Scene T S) : Type 0 where
    pub parties : AllRel 0 a.parties b.parties
    pub inputs : b.inputs ≡ a.inputs
    pub outputs : b.outputs ≡ a.outputs
    pub met : b.met ≡ a.met

  rel-change : (f : Party T S → Party T S) (i j : ℕ) (ps qs : List (Party T S)) → AllRel i ps qs → get qs j ≡ get ps j → AllRel i (change_at j f ps) (change_at j f qs)
  rel-change f i j [] [] h e = tt
  rel-change f i zero (p ∷ ps) (q ∷ qs) h e = (subst (λ v. Rel i (f p) (f v)) (sym (some-same q p e)) (same i (f p)), h.1)
    where
      some-same : {A : Type 0} (x y : A) → Some x ≡ Some y → x ≡ y
      some-same x y e = cc
  rel-change f i (suc j) (p ∷ ps) (q ∷ qs) h e = (h.0, rel-change f (suc i) j ps qs h.1 e)
  rel-change f i j [] (q ∷ qs) h e = absurd h
  rel-change f i j (p ∷ ps) [] h e = absurd h

  sent-rel : (a b : Scene T S) → SceneRel a b → (o : Option Source) → SenderSame a.parties b.parties o → SceneRel (sent o a) (sent o b)
  sent-rel a b h None s = h
  sent-rel a b h (Some (Own j)) s = record { parties = h.parties; inputs = ap (λ v. change_at j rest_of v) h.inputs; outputs = h.outputs; met = h.met }
  sent-rel a b h (Some (Output i p)) s = record { parties = rel-change with_put_made 0 i a.parties b.parties h.parties s; inputs = h.inputs; outputs = h.outputs; met = h.met }

  sent-hops : (a b : Scene T S) (o : Option Source) (hs : List Hop) → SenderSame a.parties b.parties o → HopsSame net a.parties b.parties hs → HopsSame net (sent o a).parties (sent o b).parties hs
  sent-hops a b None hs s h = h
  sent-hops a b (Some (Own j)) hs s h = h
  sent-hops a b (Some (Output i p)) hs s h = hops-change net with_put_made i a.parties b.parties hs s h

  sent-receiver : (a b : Scene T S) (o : Option Source) (t : Target) → SenderSame a.parties b.parties o → ReceiverSame a.parties b.parties t → ReceiverSame (sent o a).parties (sent o b).parties t
  sent-receiver a b None t s h = h
  sent-receiver a b (Some (Own j)) t s h = h
  sent-receiver a b (Some (Output i p)) t s h = receiver-change with_put_made i a.parties b.parties t s h

  received-rel : (a b : Scene T S) → SceneRel a b → (x : T) (t : Target) → ReceiverSame a.parties b.parties t → SceneRel (received x t a) (received x t b)
  received-rel a b h x (Place i q) s = record { parties = rel-change (with_token q x) 0 i a.parties b.parties h.parties s; inputs = h.inputs; outputs = h.outputs; met = h.met }
  received-rel a b h x (Outlet o) s = record { parties = h.parties; inputs = h.inputs; outputs = ap (λ v. change_at o (λ xs. xs ++ (x ∷ [])) v) h.outputs; met = h.met }

  received-hops : (a b : Scene T S) (x : T) (t : Target) (hs : List Hop) → ReceiverSame a.parties b.parties t → HopsSame net a.parties b.parties hs → HopsSame net (received x t a).parties (received x t b).parties hs
  received-hops a b x (Place i q) hs s h = hops-change net (with_token q x) i a.parties b.parties hs s h
  received-hops a b x (Outlet o) hs s h = h

  passed-rel : (hs : List Hop) (xs : List (Option T)) (a b : Scene T S) → SceneRel a b → HopsSame net a.parties b.parties hs → SceneRel (passed net hs xs a) (passed net hs xs b)
  passed-rel [] xs a b h s = h
  passed-rel (y ∷ hs) [] a b h s = h
  passed-rel (y ∷ hs) (None ∷ xs) a b h s = h
  passed-rel (y ∷ hs) (Some x ∷ xs) a b h s =
      let o : Option Source = get net.sources y.channel in
      let r : ReceiverSame (sent o a).parties (sent o b).parties y.target = sent-receiver a b o y.target s.0 s.1 in
      passed-rel hs xs (received x y.target (sent o a)) (received x y.target (sent o b)) (received-rel (sent o a) (sent o b) (sent-rel a b h o s.0) x y.target r)
      (received-hops (sent o a) (sent o b) x y.target hs r (sent-hops a b o hs s.0 s.2))

  pub meet-rel : (n : ℕ) (m : Meeting) (a b : Scene T S) → SceneRel a b → HopsSame net a.parties b.parties (hops_in net m) → offers net b (hops_in net m) ≡ offers net a (hops_in net m) → SceneRel (meet net n m a) (meet net n m b)
  meet-rel n m a b h s o =
      let q : SceneRel (passed net (hops_in net m) (offers net a (hops_in net m)) a) (passed net (hops_in net m) (offers net b (hops_in net m)) b) =
      subst (λ xs. SceneRel (passed net (hops_in net m) (offers net a (hops_in net m)) a) (passed net (hops_in net m) xs b)) (sym o) (passed-rel (hops_in net m) (offers net a (hops_in net m)) a b h s)
      in
      record { parties = q.parties; inputs = q.inputs; outputs = q.outputs; met = ap (λ v. v ++ (Met [] n m ∷ [])) q.met }

module _ {T S : Type 0} (facts : Facts T S) (step : Stepping T S) (tag : Tag) (net : Net) (n : ℕ) where
  behind-ahead : (a b : ℕ) → a ≤ b → (i : ℕ) (ps qs : List (Party T S)) → AllBehind facts step tag net n a b i ps qs → AllAhead facts step step tag (grows-refl step) net.sources i ps qs
  behind-ahead a b l i [] [] h = tt
  behind-ahead a b l i (p ∷ ps) (q ∷ qs) h =
      let x = h.0.small in
      let y = h.0.great in
      (record { origin = h.0.origin; few = h.0.few; many = h.0.many; order = omega (arith, x, y, l); here = h.0.here; there = h.0.there }, behind-ahead a b l (suc i) ps qs h.1)
  behind-ahead a b l i [] (q ∷ qs) h = absurd h
  behind-ahead a b l i (p ∷ ps) [] h = absurd h

  pub as-ahead : (a b : ℕ) (l : a ≤ b) (sc far : Scene T S) → SceneBehind facts step tag net n a b sc far → SceneAhead facts step step tag (grows-refl step) net b b n (omega arith) sc far
  as-ahead a b l sc far h = record { parties = behind-ahead a b l 0 sc.parties far.parties h.parties; inputs = h.inputs; outputs = h.outputs; met = h.met }

  abbrev pub Loose : ℕ → ℕ → Party T S → Party T S → Type 0
  Loose a i p q = Behind facts step tag net n a 0 i p q

  loose-same : (a i : ℕ) (p : Party T S) → Loose a i p p
  unfolding advanced
  loose-same a i p = record { origin = p; few = 0; many = 0; small = omega arith; great = omega arith; here = refl; there = refl }

  loosened : (a b i : ℕ) (ps qs : List (Party T S)) → AllBehind facts step tag net n a b i ps qs → AllRel net (Loose a) (loose-same a) i ps qs
  loosened a b i [] [] h = tt
  loosened a b i (p ∷ ps) (q ∷ qs) h = (record { origin = h.0.origin; few = h.0.few; many = h.0.many; small = h.0.small; great = omega arith; here = h.0.here; there = h.0.there }, loosened a b (suc i) ps qs h.1)
  loosened a b i [] (q ∷ qs) h = absurd h
  loosened a b i (p ∷ ps) [] h = absurd h

  -- more firings of what is ahead
  tightened : (a k i : ℕ) (ps qs : List (Party T S)) → AllRel net (Loose a) (loose-same a) i ps qs → AllBehind facts step tag net n a k i ps (all_advanced facts step tag net.sources k i qs)
  tightened a k i [] [] h = tt
  tightened a k i (p ∷ ps) (q ∷ qs) h = (
    record {
      origin = h.0.origin;
      few = h.0.few;
      many = h.0.many + k;
      small = h.0.small;
      great = omega arith;
      here = h.0.here;
      there = ap (λ v. advanced facts step tag net.sources k i v) h.0.there ∙ advanced-more facts step tag net.sources i h.0.many k h.0.origin;
    },
    tightened a k (suc i) ps qs h.1,
  )
  tightened a k i [] (q ∷ qs) h = absurd h
  tightened a k i (p ∷ ps) [] h = absurd h

  from-here : (a i : ℕ) (ps : List (Party T S)) → AllRel net (Loose a) (loose-same a) i ps ps
  from-here a i [] = tt
  from-here a i (p ∷ ps) = (loose-same a i p, from-here a (suc i) ps)

  -- the list of meetings, one longer
  after-one : (k : ℕ) (ms : List Meeting) (m : Meeting) (sc : Scene T S) → scene_after facts step tag net n k (ms ++ (m ∷ [])) sc ≡ settled facts step tag net k n (meet net n m (scene_after facts step tag net n k ms sc))
  after-one k [] m sc = refl
  after-one k (x ∷ ms) m sc = after-one k ms m (meet net n x (settled facts step tag net k n sc))

  legal-one : (k : ℕ) (ms : List Meeting) (m : Meeting) (sc : Scene T S) → AllLegal facts step tag net n k ms sc → is_legal facts net (scene_after facts step tag net n k ms sc) m ≡ true → AllLegal facts step tag net n k (ms ++ (m ∷ [])) sc
  legal-one k [] m sc a e = (e, tt)
  legal-one k (x ∷ ms) m sc a e = (a.0, legal-one k ms m (meet net n x (settled facts step tag net k n sc)) a.1 e)

  pub underway-start : (sc : Scene T S) → Underway facts step tag net n sc 0 [] sc
  underway-start sc = record { legal = λ k l. tt; behind = λ k l. record { parties = tightened 0 k 0 sc.parties sc.parties (from-here 0 0 sc.parties); inputs = refl; outputs = refl; met = refl } }

  -- a firing
  fire-behind : (a b j i : ℕ) (ps qs : List (Party T S)) → AllBehind facts step tag net n a b j ps qs → AllBehind facts step tag net n (suc a) b j (fire_at facts step tag net n j i ps) qs
  unfolding advanced
  fire-behind a b j i [] [] h = tt
  fire-behind a b j zero (p ∷ ps) (q ∷ qs) h = (
    let x = h.0.small in
        record {
          origin = h.0.origin;
          few = h.0.few + 1;
          many = h.0.many;
          small = omega (arith, x);
          great = h.0.great;
          here = ap (λ v. advance facts step tag net.sources j v) h.0.here ∙ once (advanced facts step tag net.sources h.0.few j h.0.origin) ∙ advanced-more facts step tag net.sources j h.0.few 1 h.0.origin;
          there = h.0.there;
        },
    weaker a b (suc j) ps qs h.1,
  )
    where
      once : (p : Party T S) → advance facts step tag net.sources j p ≡ advanced facts step tag net.sources 1 j p
      once p = refl

      weaker : (a b j : ℕ) (ps qs : List (Party T S)) → AllBehind facts step tag net n a b j ps qs → AllBehind facts step tag net n (suc a) b j ps qs
      weaker a b j [] [] h = tt
      weaker a b j (p ∷ ps) (q ∷ qs) h = (let x = h.0.small in record { origin = h.0.origin; few = h.0.few; many = h.0.many; small = omega (arith, x); great = h.0.great; here = h.0.here; there = h.0.there }, weaker a b (suc j) ps qs h.1)
      weaker a b j [] (q ∷ qs) h = absurd h
      weaker a b j (p ∷ ps) [] h = absurd h
  fire-behind a b j (suc i) (p ∷ ps) (q ∷ qs) h = (let x = h.0.small in record { origin = h.0.origin; few = h.0.few; many = h.0.many; small = omega (arith, x); great = h.0.great; here = h.0.here; there = h.0.there }, fire-behind a b (suc j) i ps qs h.1)
  fire-behind a b j i [] (q ∷ qs) h = absurd h
  fire-behind a b j i (p ∷ ps) [] h = absurd h

  pub underway-fire : (start : Scene T S) (count : ℕ) (ms : List Meeting) (sc : Scene T S) (i : ℕ) → Underway facts step tag net n start count ms sc → Underway facts step tag net n start (suc count) ms (fires_in facts step tag net n i sc)
  underway-fire start count ms sc i u = record {
    legal = λ k l. u.legal k (omega (arith, l));
    behind = λ k l.
        let b = u.behind k (omega (arith, l)) in
        record { parties = fire-behind count k 0 i sc.parties (scene_after facts step tag net n k ms start).parties b.parties; inputs = b.inputs; outputs = b.outputs; met = b.met };
  }

  -- a meeting that is legal
  meet-behind : (a k : ℕ) → a ≤ k → (m : Meeting) (sc far : Scene T S) → SceneBehind facts step tag net n a k sc far → is_legal facts net sc m ≡ true → SceneBehind facts step tag net n a k (meet net n m sc) (settled facts step tag net k n (meet net n m far))
  meet-behind a k l m sc far b e =
      let h = as-ahead a k l sc far b in
      let w : k ≤ k = omega arith in
      let r = receivers-same facts step step tag (grows-refl step) net k k n w sc far h m (and-right _ _ e) in
      let s = hops-same facts step step tag (grows-refl step) net k k n w sc far h (hops_in net m) (and-left _ _ e) r.0 in
      let q = meet-rel net (Loose a) (loose-same a) n m sc far (record { parties = loosened a k 0 sc.parties far.parties b.parties; inputs = b.inputs; outputs = b.outputs; met = b.met }) s.0 s.1 in
      record { parties = tightened a k 0 (meet net n m sc).parties (meet net n m far).parties q.parties; inputs = q.inputs; outputs = q.outputs; met = q.met }

  pub underway-meet : (start : Scene T S) (count : ℕ) (ms : List Meeting) (sc : Scene T S) (m : Meeting) → Underway facts step tag net n start count ms sc → is_legal facts net sc m ≡ true → Underway facts step tag net n start count (ms ++ (m ∷ [])) (meet net n m sc)
  underway-meet start count ms sc m u e = record {
    legal = λ k l. legal-one k ms m start (u.legal k l) (legal-stays facts step step tag (grows-refl step) net k k n (omega arith) sc (scene_after facts step tag net n k ms start) (as-ahead count k l sc _ (u.behind k l)) m e);
    behind = λ k l.
        subst (λ v. SceneBehind facts step tag net n count k (meet net n m sc) v) (sym (after-one k ms m start)) (meet-behind count k l m sc (scene_after facts step tag net n k ms start) (u.behind k l) e);
  }

  -- the definition's firing is what the last scene comes to
  all-made : (k : ℕ) (ms : List Meeting) (sc : Scene T S) → AllLegal facts step tag net n k ms sc → under_meetings facts step tag net k n ms sc ≡ ended facts step tag net k n (scene_after facts step tag net n k ms sc)
  unfolding under_meetings
  all-made k [] sc a = refl
  all-made k (m ∷ ms) sc a =
      ap (λ b. if_meets facts step tag net k n b (under_meetings facts step tag net k n ms) m (settled facts step tag net k n sc)) a.0 ∙ all-made k ms (meet net n m (settled facts step tag net k n sc)) a.1

  scene-same : (a b : Scene T S) → b.parties ≡ a.parties → b.inputs ≡ a.inputs → b.outputs ≡ a.outputs → b.met ≡ a.met → b ≡ a
  scene-same a b p i o m =
      ap (λ v. let s : Scene T S = record { parties = v; inputs = b.inputs; outputs = b.outputs; met = b.met } in s) p ∙
      ap (λ v. let s : Scene T S = record { parties = a.parties; inputs = v; outputs = b.outputs; met = b.met } in s) i ∙
      ap (λ v. let s : Scene T S = record { parties = a.parties; inputs = a.inputs; outputs = v; met = b.met } in s) o ∙
      ap (λ v. let s : Scene T S = record { parties = a.parties; inputs = a.inputs; outputs = a.outputs; met = v } in s) m

  pub underway-end : (start : Scene T S) (count : ℕ) (ms : List Meeting) (sc : Scene T S) → Underway facts step tag net n start count ms sc → (all_rest facts sc.parties && not (any_legal facts net sc)) ≡ true → (k : ℕ) → count ≤ k →
      under_meetings facts step tag net k n ms start ≡ Done (left_in sc) sc.outputs (scene_log sc)
  underway-end start count ms sc u e k l =
      let far : Scene T S = scene_after facts step tag net n k ms start in
      let h = as-ahead count k l sc far (u.behind k l) in
      let same : far ≡ sc = scene-same sc far (all-rest-same facts step step tag (grows-refl step) net.sources 0 sc.parties far.parties h.parties (and-left _ _ e)) h.inputs h.outputs h.met in
      all-made k ms start (u.legal k l) ∙ ap (λ v. ended facts step tag net k n v) same ∙ ap (λ b. if_ended b sc) e

  ended-stuck : (b : Bool) (far : Scene T S) (f : Fault) → (b ≡ true → party_faults 0 far.parties ≡ []) → IsIn f (party_faults 0 far.parties) → (gs : List Fault) × (l : Log T) × (if_ended b far ≡ Stuck gs l) × IsIn f gs
  ended-stuck true far f clear i = absurd (subst (λ v. IsIn f v) (clear refl) i)
  ended-stuck false far f clear i = (party_faults 0 far.parties, scene_log far, refl, i)

  -- a process that is stuck in any order makes the composite stuck at that place
  pub underway-stuck : (start : Scene T S) (count : ℕ) (ms : List Meeting) (sc : Scene T S) → Underway facts step tag net n start count ms sc → (f : Fault) → IsIn f (party_faults 0 sc.parties) → (k : ℕ) → count ≤ k →
      (gs : List Fault) × (l : Log T) × (under_meetings facts step tag net k n ms start ≡ Stuck gs l) × IsIn f gs
  underway-stuck start count ms sc u f i k l =
      let far : Scene T S = scene_after facts step tag net n k ms start in
      let h = as-ahead count k l sc far (u.behind k l) in
      let j : IsIn f (party_faults 0 far.parties) = parties-faults 0 sc.parties far.parties (all-below facts step step tag (grows-refl step) net.sources 0 sc.parties far.parties h.parties) f i in
      let r = ended-stuck (all_rest facts far.parties && not (any_legal facts net far)) far f (λ e. all-rest-clear facts 0 far.parties (and-left _ _ e)) j in
      (r.0, r.1, all-made k ms start (u.legal k l) ∙ r.2, r.3)
