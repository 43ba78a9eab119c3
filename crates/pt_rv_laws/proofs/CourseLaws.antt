-- A course of firings and meetings: it is under way in any order, and each process that fires in it was asked for.
use Rattle.std.proofs.Common.{◌≡◌, ◌⊎◌, inl, inr, ℕ, zero, suc, ◌+◌, ◌≤◌, List, [], ◌∷◌, ◌++◌, true, Option, Some, refl, sym, ap, subst, ◌∙◌, arith}
use Rattle.pt_meaning.specs.Tag.{Tag}
use Rattle.pt_meaning.specs.Streams.{IsPrefix, get, change_at}
use Rattle.pt_meaning.specs.Log.{Meeting}
use Rattle.pt_meaning.specs.Machine.{Stepping, Facts}
use Rattle.pt_meaning.specs.Net.{Net}
use Rattle.pt_meaning.specs.Process.{Party, advance, advanced}
use Rattle.pt_meaning.specs.Meetings.{Scene, hops_in, is_legal, meet}
use Rattle.pt_meaning.specs.Rendezvous.{settled}
use Rattle.pt_meaning.specs.AnyOrder as order
use Rattle.pt_meaning.specs.AnyOrder.{fires_in}
use Rattle.pt_meaning.specs.Asked as asked
use Rattle.pt_laws.proofs.Order.{IsPrefix-refl, IsPrefix-trans, IsPrefix-append}
use Rattle.pt_laws.proofs.RoundLaws.{grows-refl}
use Rattle.pt_laws.proofs.KahnLaws.{and-left, and-right}
use Rattle.pt_laws.proofs.PartyLaws.{advanced-more}
use Rattle.pt_laws.proofs.MeetingIndex.{some-same, fires-are}
use Rattle.pt_laws.proofs.MeetingLaws.{hops-same, receivers-same}
use Rattle.pt_laws.proofs.OrderOfMeetings.{AllRel, meet-rel, as-ahead, underway-start, underway-fire, underway-meet}
use Rattle.pt_rv_laws.specs.Chain.{Course, Begins, Fires, Meets}

-- a list in which an entry is changed
pub changed-one : {B : Type 0} (i : ℕ) (f : B → B) (xs : List B) (j : ℕ) (y : B) → get (change_at i f xs) j ≡ Some y → (x : B) × (get xs j ≡ Some x) × ((y ≡ x) ⊎ ((j ≡ i) × (y ≡ f x)))
changed-one i f [] j y e = absurd (cc)
changed-one zero f (x ∷ xs) zero y e = (x, refl, inr (refl, some-same y (f x) (sym e)))
changed-one zero f (x ∷ xs) (suc j) y e = (y, e, inl refl)
changed-one (suc i) f (x ∷ xs) zero y e = (x, refl, inl (some-same y x (sym e)))
changed-one {B} (suc i) f (x ∷ xs) (suc j) y e = up (changed-one i f xs j y e)
  where
    up : ((x : B) × (get xs j ≡ Some x) × ((y ≡ x) ⊎ ((j ≡ i) × (y ≡ f x)))) → (x : B) × (get xs j ≡ Some x) × ((y ≡ x) ⊎ ((suc j ≡ suc i) × (y ≡ f x)))
    up (a, b, inl c) = (a, b, inl c)
    up (a, b, inr c) = (a, b, inr (ap (λ v. suc v) c.0, c.1))

module _ {T S : Type 0} (facts : Facts T S) (step : Stepping T S) (tag : Tag) (net : Net) (n : ℕ) (start : Scene T S) where
  pub course-underway : (count : ℕ) (ms : List Meeting) (sc : Scene T S) → Course facts step tag net n start count ms sc → order.Underway facts step tag net n start count ms sc
  course-underway count ms sc Begins = underway-start facts step tag net n start
  course-underway count ms sc (Fires c ls mid i p s out l w g f e) = underway-fire facts step tag net n start c ls mid i (course-underway c ls mid w)
  course-underway count ms sc (Meets c ls mid m w e) = underway-meet facts step tag net n start c ls mid m (course-underway c ls mid w) e

  module _ (k : ℕ) where
    -- the scene after some meetings, before each of which each process made up to k firings
    abbrev far : List Meeting → Scene T S
    far ms = asked.scene_after facts step tag net k n ms start

    -- process i is now as some firings led it to be since some of these meetings
    pub record Came (ms : List Meeting) (i : ℕ) (p : Party T S) : Type 0 where
      pub met : List Meeting
      pub listed : IsPrefix met ms
      pub made : ℕ
      pub party : Party T S
      pub there : get (far met).parties i ≡ Some party
      pub is : advanced facts step tag net.sources made i party ≡ p

    longer : (ms more : List Meeting) (i : ℕ) (p : Party T S) → Came ms i p → Came (ms ++ more) i p
    longer ms more i p c = record { met = c.met; listed = IsPrefix-trans c.met ms (ms ++ more) c.listed (IsPrefix-append ms more); made = c.made; party = c.party; there = c.there; is = c.is }

    -- by no meeting more, or as before
    abbrev Stood : List Meeting → ℕ → Party T S → Party T S → Type 0
    Stood ms i p q = (p ≡ q) ⊎ Came ms i p

    stood-same : (ms : List Meeting) (i : ℕ) (p : Party T S) → Stood ms i p p
    stood-same ms i p = inl refl

    all-stood : (ms : List Meeting) (a b i : ℕ) (ps qs : List (Party T S)) → order.AllBehind facts step tag net n a b i ps qs → ((j : ℕ) (p : Party T S) → get ps j ≡ Some p → Came ms (i + j) p) → AllRel net (Stood ms) (stood-same ms) i ps qs
    all-stood ms a b i [] [] h came = tt
    all-stood ms a b i (p ∷ ps) (q ∷ qs) h came =
        let z : i + 0 ≡ i = omega arith in
        (inr (subst (λ v. Came ms v p) z (came 0 p refl)), all-stood ms a b (suc i) ps qs h.1 (λ j x e. let y : i + suc j ≡ suc i + j = omega arith in subst (λ v. Came ms v x) y (came (suc j) x e)))
    all-stood ms a b i [] (q ∷ qs) h came = absurd h
    all-stood ms a b i (p ∷ ps) [] h came = absurd h

    stood-at : (ms : List Meeting) (i : ℕ) (ps qs : List (Party T S)) → AllRel net (Stood ms) (stood-same ms) i ps qs → (j : ℕ) (p : Party T S) → get ps j ≡ Some p → (q : Party T S) × (get qs j ≡ Some q) × Stood ms (i + j) p q
    stood-at ms i [] [] h j p e = absurd (none-some e)
      where
        none-some : Option.None ≡ Some p → ⊥
        none-some g = cc
    stood-at ms i (x ∷ ps) (y ∷ qs) h zero p e =
        let z : i ≡ i + 0 = omega arith in
        (y, refl, subst (λ v. Stood ms v p y) z (subst (λ v. Stood ms i v y) (some-same x p e) h.0))
    stood-at ms i (x ∷ ps) (y ∷ qs) h (suc j) p e =
        let r = stood-at ms (suc i) ps qs h.1 j p e in
        let z : suc i + j ≡ i + suc j = omega arith in
        (r.0, r.1, subst (λ v. Stood ms v p r.0) z r.2)
    stood-at ms i [] (y ∷ qs) h j p e = absurd h
    stood-at ms i (x ∷ ps) [] h j p e = absurd h

    -- the scene after the meetings, one more of them
    one-more : (ms : List Meeting) (m : Meeting) (sc : Scene T S) → asked.scene_after facts step tag net k n (ms ++ (m ∷ [])) sc ≡ meet net n m (settled facts step tag net k n (asked.scene_after facts step tag net k n ms sc))
    one-more [] m sc = refl
    one-more (x ∷ ms) m sc = one-more ms m (meet net n x (settled facts step tag net k n sc))

    settled-after : (ms : List Meeting) (sc : Scene T S) → order.scene_after facts step tag net n k ms sc ≡ settled facts step tag net k n (asked.scene_after facts step tag net k n ms sc)
    settled-after [] sc = refl
    settled-after (x ∷ ms) sc = settled-after ms (meet net n x (settled facts step tag net k n sc))

    -- a meeting that is legal
    met-came : (count : ℕ) → count ≤ k → (ms : List Meeting) (sc : Scene T S) (m : Meeting) → order.Underway facts step tag net n start count ms sc → is_legal facts net sc m ≡ true →
        ((j : ℕ) (p : Party T S) → get sc.parties j ≡ Some p → Came ms j p) → (i : ℕ) (p : Party T S) → get (meet net n m sc).parties i ≡ Some p → Came (ms ++ (m ∷ [])) i p
    unfolding advanced
    met-came count l ms sc m w legal came i p e =
        let after : Scene T S = order.scene_after facts step tag net n k ms start in
        let b = w.behind k l in
        let h = as-ahead facts step tag net n count k l sc after b in
        let o : k ≤ k = omega arith in
        let r = receivers-same facts step step tag (grows-refl step) net k k n o sc after h m (and-right _ _ legal) in
        let x = hops-same facts step step tag (grows-refl step) net k k n o sc after h (hops_in net m) (and-left _ _ legal) r.0 in
        let q = meet-rel net (Stood ms) (stood-same ms) n m sc after (record { parties = all-stood ms count k 0 sc.parties after.parties b.parties (λ j y g. let z : j ≡ 0 + j = omega arith in subst (λ v. Came ms v y) z (came j y g)); inputs = b.inputs; outputs = b.outputs; met = b.met }) x.0 x.1 in
        let t = stood-at ms 0 (meet net n m sc).parties (meet net n m after).parties q.parties i p e in
        let z : 0 + i ≡ i = omega arith in
        by t.0 t.1 (subst (λ v. Stood ms v p t.0) z t.2)
      where
        by : (q : Party T S) → get (meet net n m (order.scene_after facts step tag net n k ms start)).parties i ≡ Some q → (p ≡ q) ⊎ Came ms i p → Came (ms ++ (m ∷ [])) i p
        by q g (inl same) = record {
          met = ms ++ (m ∷ []);
          listed = IsPrefix-refl (ms ++ (m ∷ []));
          made = 0;
          party = q;
          there = ap (λ (v : Scene T S). get v.parties i) (one-more ms m start ∙ ap (λ v. meet net n m v) (sym (settled-after ms start))) ∙ g;
          is = sym same;
        }
        by q g (inr c) = longer ms (m ∷ []) i p c

    -- a firing
    fired-came : (ms : List Meeting) (sc : Scene T S) (j : ℕ) → ((i : ℕ) (p : Party T S) → get sc.parties i ≡ Some p → Came ms i p) → (i : ℕ) (p : Party T S) → get (fires_in facts step tag net n j sc).parties i ≡ Some p → Came ms i p
    unfolding advanced
    fired-came ms sc j came i p e =
        let c = changed-one j (advance facts step tag net.sources j) sc.parties i p (ap (λ ps. get ps i) (sym (fires-are.change facts step tag net n j sc.parties)) ∙ e) in
        by c.0 (came i c.0 c.1) c.2
      where
        once : (q : Party T S) → advanced facts step tag net.sources 1 i q ≡ advance facts step tag net.sources i q
        once q = refl

        by : (x : Party T S) → Came ms i x → (p ≡ x) ⊎ ((i ≡ j) × (p ≡ advance facts step tag net.sources j x)) → Came ms i p
        by x c (inl same) = subst (λ v. Came ms i v) (sym same) c
        by x c (inr f) = record {
          met = c.met;
          listed = c.listed;
          made = c.made + 1;
          party = c.party;
          there = c.there;
          is =
              sym (advanced-more facts step tag net.sources i c.made 1 c.party) ∙ ap (λ v. advanced facts step tag net.sources 1 i v) c.is ∙ once x ∙
              ap (λ v. advance facts step tag net.sources v x) f.0 ∙ sym f.1;
        }

    -- each process of the course
    pub course-came : (count : ℕ) (ms : List Meeting) (sc : Scene T S) → Course facts step tag net n start count ms sc → count ≤ k → (i : ℕ) (p : Party T S) → get sc.parties i ≡ Some p → Came ms i p
    unfolding advanced
    course-came count ms sc Begins o i p e = record { met = []; listed = tt; made = 0; party = p; there = e; is = refl }
    course-came count ms sc (Fires c ls mid j q s out l w g f d) o i p e = fired-came ls mid j (λ x y z. course-came c ls mid w (omega (arith, o)) x y z) i p e
    course-came count ms sc (Meets c ls mid m w legal) o i p e = met-came c o ls mid m (course-underway c ls mid w) legal (λ x y z. course-came c ls mid w o x y z) i p e
