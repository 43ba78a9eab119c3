-- Where the children make all their firings on what their places get in all, one behind another, the rounds come to what the channels get in all.
use Rattle.std.proofs.Common.{◌≡◌, ℕ, zero, suc, ◌+◌, ◌*◌, ◌≤◌, ◌<◌, ◌⊎◌, inl, inr, min, max, List, [], ◌∷◌, ◌++◌, Bool, true, nat_le, length, take, drop, get_or, Some, refl, sym, ap, ap₂, subst, ◌∙◌, arith, le-leb, eq-eqb, append-nil}
use Rattle.pt_meaning.specs.Tag.{Tag}
use Rattle.pt_meaning.specs.Streams.{Streams, at, same_lengths}
use Rattle.pt_meaning.specs.Log.{Log, log_below}
use Rattle.pt_meaning.specs.Machine.{Outcome, Done, Stepping, Facts}
use Rattle.pt_meaning.specs.Flow.{Flow, flow}
use Rattle.pt_meaning.specs.Net.{Source, Own, Output, Net, Inside}
use Rattle.pt_meaning.specs.Rounds.{Limit, within, rated, gave, fed, refill, flows, round, all_at_rest}
use Rattle.pt_meaning.specs.Kahn.{Leaving, kahn, firing, settled, skip_places, lengths, firsts, behind, states_of, left_by, logs_of}
use Rattle.pt_meaning.specs.Sdf.{sdf_limits, fired_all}
use Rattle.pt_meaning.specs.Running.{total}
use Rattle.pt_meaning.specs.Closed.{Has}
use Rattle.pt_laws.proofs.Indexed.{drop-more, streams-same}
use Rattle.pt_laws.proofs.KahnLaws.{same-lengths-refl}
use Rattle.pt_block_laws.specs.Firings.{Firings, gathered, before, AreMade, logged}
use Rattle.pt_block_laws.specs.Iteration.{first_place, IsFedBy, IsInOrder, given_on, states_after, lefts, all_logged, MakesAll, IsIteration, most, rounds_for, fuel_for, IterationIsDone}
use Rattle.pt_block_laws.proofs.FlowLaws.{done_flow, flow-made}

-- ---- lists of channels

pub at-take : {T : Type 0} (n p : ℕ) (X : Streams T) → p < n → at (take n X) p ≡ at X p
at-take zero p X l = absurd (omega (arith, l))
at-take (suc n) p [] l = refl
at-take (suc n) zero (x ∷ X) l = refl
at-take (suc n) (suc p) (x ∷ X) l = at-take n p X (omega (arith, l))

pub at-drop : {T : Type 0} (o p : ℕ) (X : Streams T) → at (drop o X) p ≡ at X (o + p)
at-drop zero p X = let e : p ≡ 0 + p = omega arith in ap (λ k. at X k) e
at-drop (suc o) p [] = refl
at-drop (suc o) p (x ∷ X) = let e : suc (o + p) ≡ suc o + p = omega arith in at-drop o p X ∙ ap (λ k. at (x ∷ X) k) e

pub take-width : {T : Type 0} (n : ℕ) (X : Streams T) → length (take n X) ≡ min n (length X)
take-width zero X = omega arith
take-width (suc n) [] = omega arith
take-width (suc n) (x ∷ X) = let h = take-width n X in omega (arith, h)

pub drop-width : {T : Type 0} (o : ℕ) (X Y : Streams T) → length X ≡ length Y → length (drop o X) ≡ length (drop o Y)
drop-width zero X Y e = e
drop-width (suc o) [] [] e = refl
drop-width (suc o) [] (y ∷ Y) e = absurd (omega (arith, e))
drop-width (suc o) (x ∷ X) [] e = absurd (omega (arith, e))
drop-width (suc o) (x ∷ X) (y ∷ Y) e = drop-width o X Y (omega (arith, e))

-- places from a number on that agree
segment-same : {T : Type 0} (n o : ℕ) (X Y : Streams T) → length X ≡ length Y → ((p : ℕ) → p < n → at X (o + p) ≡ at Y (o + p)) → take n (drop o X) ≡ take n (drop o Y)
segment-same n o X Y e h =
    let wide = drop-width o X Y e in
    let a = take-width n (drop o X) in
    let b = take-width n (drop o Y) in
    streams-same (take n (drop o X)) (take n (drop o Y)) (omega (arith, a, b, wide))
    (λ p l.
    let few : p < n = omega (arith, l, a) in
    at-take n p (drop o X) few ∙ at-drop o p X ∙ h p few ∙ sym (at-drop o p Y) ∙ sym (at-take n p (drop o Y) few))

-- ---- the stream functions of the children

module _ {T S : Type 0} (facts : Facts T S) (step : Stepping T S) (tag : Tag) (turns : ℕ) where
  abbrev pub dones : List ℕ → (ℕ → Firings T S) → (ℕ → Streams T) → List (Flow T S)
  dones [] does left = []
  dones (q ∷ qs) does left = done_flow facts tag (turns * q) (does 0) (left 0) ∷ dones qs (λ i. does (suc i)) (λ i. left (suc i))

  abbrev Makes : List ℕ → List ℕ → List (List ℕ) → List S → Streams T → (ℕ → List ℕ) → (ℕ → Firings T S) → (ℕ → Streams T) → ℕ → Type 0
  Makes places qs rates kids X needs does left i = MakesAll facts step tag turns places qs rates kids X needs does left i

  one-flow : (n q k : ℕ) (r needs : List ℕ) (s : S) (X : Streams T) (f : Firings T S) (left : Streams T) → s ≡ f.state 0 → AreMade facts step tag needs r (turns * q) f → length left ≡ length needs → take n X ≡ before (turns * q) f.takes left → turns * q ≤ k →
      flow facts (rated facts (Some r) step) tag (within (Some (turns * q)) k) s (take n X) ≡ done_flow facts tag (turns * q) f left
  one-flow n q k r needs s X f left e m w t few =
      let all : min (turns * q) k ≡ turns * q = omega (arith, few) in
      rw (e, t, all) (flow-made facts step tag needs r (turns * q) f left m w)

  -- those of the children from the second on
  tail-makes : (n q : ℕ) (ns qs r : List ℕ) (rs : List (List ℕ)) (s : S) (ss : List S) (X : Streams T) (needs : ℕ → List ℕ) (does : ℕ → Firings T S) (left : ℕ → Streams T) (i : ℕ) →
      Makes (n ∷ ns) (q ∷ qs) (r ∷ rs) (s ∷ ss) X needs does left (suc i) → Makes ns qs rs ss (drop n X) (λ j. needs (suc j)) (λ j. does (suc j)) (λ j. left (suc j)) i
  tail-makes n q ns qs r rs s ss X needs does left i m = record {
    begins = m.begins;
    made = m.made;
    wide = m.wide;
    takes = ap (λ Y. take (get_or ns i 0) Y) (sym (drop-more n (first_place ns i) X)) ∙ m.takes;
  }

  -- each makes its firings where the round allows them
  pub flows-are : (k : ℕ) (ns qs : List ℕ) (rs : List (List ℕ)) (ss : List S) (X : Streams T) (needs : ℕ → List ℕ) (does : ℕ → Firings T S) (left : ℕ → Streams T) → length qs ≡ length ns → length rs ≡ length ns → length ss ≡ length ns →
      ((i : ℕ) → i < length ns → Makes ns qs rs ss X needs does left i) → ((i : ℕ) → i < length ns → turns * get_or qs i 0 ≤ k) →
      flows facts step tag ns (sdf_limits turns qs rs) k ss X ≡ dones qs does left
  flows-are k [] [] rs ss X needs does left a b c m few = refl
  flows-are k [] (q ∷ qs) rs ss X needs does left a b c m few = absurd (omega (arith, a))
  flows-are k (n ∷ ns) [] rs ss X needs does left a b c m few = absurd (omega (arith, a))
  flows-are k (n ∷ ns) (q ∷ qs) [] ss X needs does left a b c m few = absurd (omega (arith, b))
  flows-are k (n ∷ ns) (q ∷ qs) (r ∷ rs) [] X needs does left a b c m few = absurd (omega (arith, c))
  flows-are k (n ∷ ns) (q ∷ qs) (r ∷ rs) (s ∷ ss) X needs does left a b c m few =
      let h = m 0 (omega arith) in
      ap₂ (λ x y. x ∷ y)
      (one-flow n q k r (needs 0) s X (does 0) (left 0) (h.begins s) h.made h.wide h.takes (few 0 (omega arith)))
      (flows-are k ns qs rs ss (drop n X) (λ j. needs (suc j)) (λ j. does (suc j)) (λ j. left (suc j)) (omega (arith, a)) (omega (arith, b)) (omega (arith, c))
      (λ i l. tail-makes n q ns qs r rs s ss X needs does left i (m (suc i) (omega (arith, l)))) (λ i l. few (suc i) (omega (arith, l))))

  -- what one of them gives, whatever the places of the others have
  pub gave-is : (k i port : ℕ) (ns qs : List ℕ) (rs : List (List ℕ)) (ss : List S) (X : Streams T) (needs : ℕ → List ℕ) (does : ℕ → Firings T S) (left : ℕ → Streams T) → length qs ≡ length ns → length rs ≡ length ns → length ss ≡ length ns →
      i < length ns → Makes ns qs rs ss X needs does left i → turns * get_or qs i 0 ≤ k →
      gave (flows facts step tag ns (sdf_limits turns qs rs) k ss X) i port ≡ at (gathered (turns * get_or qs i 0) (does i).gives) port
  gave-is k i port [] qs rs ss X needs does left a b c l m few = absurd (omega (arith, l))
  gave-is k i port (n ∷ ns) [] rs ss X needs does left a b c l m few = absurd (omega (arith, a))
  gave-is k i port (n ∷ ns) (q ∷ qs) [] ss X needs does left a b c l m few = absurd (omega (arith, b))
  gave-is k i port (n ∷ ns) (q ∷ qs) (r ∷ rs) [] X needs does left a b c l m few = absurd (omega (arith, c))
  gave-is k zero port (n ∷ ns) (q ∷ qs) (r ∷ rs) (s ∷ ss) X needs does left a b c l m few =
      ap (λ (f : Flow T S). at f.outputs port) (one-flow n q k r (needs 0) s X (does 0) (left 0) (m.begins s) m.made m.wide m.takes few)
  gave-is k (suc i) port (n ∷ ns) (q ∷ qs) (r ∷ rs) (s ∷ ss) X needs does left a b c l m few =
      gave-is k i port ns qs rs ss (drop n X) (λ j. needs (suc j)) (λ j. does (suc j)) (λ j. left (suc j)) (omega (arith, a)) (omega (arith, b)) (omega (arith, c)) (omega (arith, l))
      (tail-makes n q ns qs r rs s ss X needs does left i m) few

-- ---- the rounds

at-refill : {T S : Type 0} (fs : List (Flow T S)) (cs : List Source) (X : Streams T) (c : ℕ) → length X ≡ length cs → c < length cs → at (refill fs cs X) c ≡ at X c ++ fed fs (get_or cs c (Own 0))
at-refill fs [] X c e l = absurd (omega (arith, l))
at-refill fs (d ∷ cs) [] c e l = absurd (omega (arith, e))
at-refill fs (d ∷ cs) (xs ∷ X) zero e l = refl
at-refill fs (d ∷ cs) (xs ∷ X) (suc c) e l = at-refill fs cs X c (omega (arith, e)) (omega (arith, l))

refill-width : {T S : Type 0} (fs : List (Flow T S)) (cs : List Source) (X : Streams T) → length X ≡ length cs → length (refill fs cs X) ≡ length cs
refill-width fs [] X e = e
refill-width fs (d ∷ cs) [] e = absurd (omega (arith, e))
refill-width fs (d ∷ cs) (xs ∷ X) e = let h = refill-width fs cs X (omega (arith, e)) in omega (arith, h)

round-width : {T S : Type 0} (facts : Facts T S) (step : Stepping T S) (tag : Tag) (net : Net) (limits : List Limit) (kids : List S) (X : Streams T) (k : ℕ) → length X ≡ length net.sources → length (round facts step tag net limits kids X k) ≡ length net.sources
unfolding round
round-width facts step tag net limits kids X zero e = e
round-width facts step tag net limits kids X (suc k) e = refill-width (flows facts step tag net.places limits (suc k) kids (round facts step tag net limits kids X k)) net.sources X e

-- the places of child i are among all
pub place-there : (ns : List ℕ) (i p : ℕ) → i < length ns → p < get_or ns i 0 → first_place ns i + p < total ns
place-there [] i p l m = absurd (omega (arith, l))
place-there (n ∷ ns) zero p l m = omega (arith, m)
place-there (n ∷ ns) (suc i) p l m = let h = place-there ns i p (omega (arith, l)) m in omega (arith, h)

module _ {T S : Type 0} (facts : Facts T S) (step : Stepping T S) (tag : Tag) (turns : ℕ) (net : Net) (qs : List ℕ) (rates : List (List ℕ)) (kids : List S) (start all : Streams T) (needs : ℕ → List ℕ) (does : ℕ → Firings T S) (left : ℕ → Streams T) (order : List ℕ)
    (h : IsIteration facts step tag turns net qs rates kids start all needs does left order) where
  limits : List Limit
  limits = sdf_limits turns qs rates

  abbrev at_round : ℕ → Streams T
  at_round k = round facts step tag net (sdf_limits turns qs rates) kids start k

  -- the channels that these children feed, and those that get nothing, have all
  abbrev AreFull : List ℕ → ℕ → Type 0
  AreFull done k = (c : ℕ) → c < length net.sources → IsFedBy done (get_or net.sources c (Own 0)) → at (at_round k) c ≡ at all c

  unfed-full : (k c : ℕ) (port : ℕ) → c < length net.sources → get_or net.sources c (Own 0) ≡ Own port → at (at_round k) c ≡ at all c
  unfolding round
  unfed-full zero c port l e =
      let f = h.fed c l in
      sym (f ∙ ap (λ (s : Source). at start c ++ given_on turns qs does s) e ∙ append-nil (at start c))
  unfed-full (suc k) c port l e =
      let f = h.fed c l in
      at-refill (flows facts step tag net.places (sdf_limits turns qs rates) (suc k) kids (at_round k)) net.sources start c h.started l ∙
      ap (λ (s : Source). at start c ++ fed (flows facts step tag net.places (sdf_limits turns qs rates) (suc k) kids (at_round k)) s) e ∙
      sym (f ∙ ap (λ (s : Source). at start c ++ given_on turns qs does s) e)

  -- where the channels to a child have all, it gives all in the next round
  next-full : (k c i port : ℕ) → c < length net.sources → get_or net.sources c (Own 0) ≡ Output i port → i < length net.places → turns * get_or qs i 0 ≤ suc k →
      ((p : ℕ) → p < get_or net.places i 0 → at (at_round k) (first_place net.places i + p) ≡ at all (first_place net.places i + p)) → at (at_round (suc k)) c ≡ at all c
  unfolding round
  next-full k c i port l e there few full =
      let f = h.fed c l in
      let m = h.make i there in
      let wide : length (at_round k) ≡ length all = round-width facts step tag net (sdf_limits turns qs rates) kids start k h.started ∙ sym h.channels in
      let same = segment-same (get_or net.places i 0) (first_place net.places i) (at_round k) all wide full in
      let made : MakesAll facts step tag turns net.places qs rates kids (at_round k) needs does left i = record { begins = m.begins; made = m.made; wide = m.wide; takes = same ∙ m.takes } in
      at-refill (flows facts step tag net.places (sdf_limits turns qs rates) (suc k) kids (at_round k)) net.sources start c h.started l ∙
      ap (λ (s : Source). at start c ++ fed (flows facts step tag net.places (sdf_limits turns qs rates) (suc k) kids (at_round k)) s) e ∙
      ap (λ v. at start c ++ v) (gave-is facts step tag turns (suc k) i port net.places qs rates kids (at_round k) needs does left h.repetitions h.rated h.children there made few) ∙
      sym (f ∙ ap (λ (s : Source). at start c ++ given_on turns qs does s) e)

  -- a child more, whose places are fed by those before it
  by_source : (i : ℕ) (done : List ℕ) → IsInOrder net (i ∷ done) → (k : ℕ) → turns * get_or qs i 0 ≤ suc k → AreFull done k → AreFull done (suc k) → (c : ℕ) → c < length net.sources → (s : Source) → get_or net.sources c (Own 0) ≡ s → IsFedBy (i ∷ done) s →
      at (at_round (suc k)) c ≡ at all c
  by_source i done o k few now next c there (Own port) e b = unfed-full (suc k) c port there e
  by_source i done o k few now next c there (Output j port) e (inl same) =
      next-full k c i port there (e ∙ ap (λ v. Output v port) same) o.0 few
      (λ p q. let at_place = place-there net.places i p o.0 q in now (first_place net.places i + p) (omega (arith, at_place, h.placed)) (o.1 p q))
  by_source i done o k few now next c there (Output j port) e (inr has) = next c there (subst (λ s. IsFedBy done s) (sym e) has)

  no_source : (k c : ℕ) → c < length net.sources → (s : Source) → get_or net.sources c (Own 0) ≡ s → IsFedBy [] s → at (at_round k) c ≡ at all c
  no_source k c there (Own port) e b = unfed-full k c port there e
  no_source k c there (Output j port) e b = absurd b

  by_round : (i : ℕ) (done : List ℕ) → IsInOrder net (i ∷ done) → (k₀ : ℕ) → ((k : ℕ) → k₀ ≤ k → AreFull done k) → (k : ℕ) → max (suc k₀) (turns * get_or qs i 0) ≤ k → AreFull (i ∷ done) k
  by_round i done o k₀ r zero l c there b = absurd (omega (arith, l))
  by_round i done o k₀ r (suc k) l c there b = by_source i done o k (omega (arith, l)) (r k (omega (arith, l))) (r (suc k) (omega (arith, l))) c there (get_or net.sources c (Own 0)) refl b

  -- child by child
  fills : (done : List ℕ) → IsInOrder net done → (k : ℕ) → rounds_for turns qs done ≤ k → AreFull done k
  fills [] o k l c there b = no_source k c there (get_or net.sources c (Own 0)) refl b
  fills (i ∷ done) o k l c there b = by_round i done o (rounds_for turns qs done) (fills done o.2) k l c there b

  pub round-is : (k : ℕ) → rounds_for turns qs order ≤ k → at_round k ≡ all
  round-is k l =
      let wide : length (at_round k) ≡ length net.sources = round-width facts step tag net (sdf_limits turns qs rates) kids start k h.started in
      streams-same (at_round k) all (wide ∙ sym h.channels) (λ c there. fills order h.ordered k l c (omega (arith, there, wide)) (h.complete c (omega (arith, there, wide))))

-- ---- the firing

le-self : (n : ℕ) → nat_le n n ≡ true
le-self n = le-leb n n (omega arith)

module _ {T S : Type 0} (facts : Facts T S) (step : Stepping T S) (tag : Tag) (turns : ℕ) where
  rest-all : (qs : List ℕ) (rs : List (List ℕ)) (does : ℕ → Firings T S) (left : ℕ → Streams T) → length rs ≡ length qs → all_at_rest (sdf_limits turns qs rs) (dones facts step tag turns qs does left) ≡ true
  rest-all [] rs does left e = refl
  rest-all (q ∷ qs) [] does left e = absurd (omega (arith, e))
  rest-all (q ∷ qs) (r ∷ rs) does left e = rw (le-self (turns * q), rest-all qs rs (λ i. does (suc i)) (λ i. left (suc i)) (omega (arith, e))) refl

  enough-all : (qs : List ℕ) (does : ℕ → Firings T S) (left : ℕ → Streams T) → fired_all turns qs (dones facts step tag turns qs does left) ≡ true
  enough-all [] does left = refl
  enough-all (q ∷ qs) does left = rw (eq-eqb (turns * q) (turns * q) refl, enough-all qs (λ i. does (suc i)) (λ i. left (suc i))) refl

  left-all : (qs : List ℕ) (does : ℕ → Firings T S) (left : ℕ → Streams T) → left_by (dones facts step tag turns qs does left) ≡ lefts qs left
  left-all [] does left = refl
  left-all (q ∷ qs) does left = ap (λ v. left 0 ++ v) (left-all qs (λ i. does (suc i)) (λ i. left (suc i)))

  states-all : (qs : List ℕ) (does : ℕ → Firings T S) (left : ℕ → Streams T) → states_of (dones facts step tag turns qs does left) ≡ states_after turns qs does
  states-all [] does left = refl
  states-all (q ∷ qs) does left = ap (λ v. (does 0).state (turns * q) ∷ v) (states-all qs (λ i. does (suc i)) (λ i. left (suc i)))

  logs-all : (qs : List ℕ) (does : ℕ → Firings T S) (left : ℕ → Streams T) → logs_of (dones facts step tag turns qs does left) ≡ all_logged facts tag turns qs does
  logs-all [] does left = refl
  logs-all (q ∷ qs) does left = ap (λ v. logged facts tag (turns * q) (does 0) ∷ v) (logs-all qs (λ i. does (suc i)) (λ i. left (suc i)))

at-most : (turns : ℕ) (qs : List ℕ) (i : ℕ) → turns * get_or qs i 0 ≤ most turns qs
at-most turns [] i = let z : turns * 0 ≡ 0 = omega arith in omega (arith, z)
at-most turns (q ∷ qs) zero = omega arith
at-most turns (q ∷ qs) (suc i) = let h = at-most turns qs i in omega (arith, h)

pub iteration-is-done : {T S : Type 0} → IterationIsDone T S
unfolding kahn
iteration-is-done {T} {S} facts step tag turns net qs rates kids start all needs does left order h leaving k l =
    let round_is = round-is facts step tag turns net qs rates kids start all needs does left order h in
    let here = round_is k (omega (arith, l)) in
    let next = round_is (suc k) (omega (arith, l)) in
    let flows_here = flows-are facts step tag turns k net.places qs rates kids all needs does left h.repetitions h.rated h.children h.make (λ i there. let few = at-most turns qs i in omega (arith, few, l)) in
    rw (here, next, flows_here, same-lengths-refl all, rest-all facts step tag turns qs rates does left (h.rated ∙ sym h.repetitions), enough-all facts step tag turns qs does left, left-all facts step tag turns qs does left, states-all facts step tag turns qs does left, logs-all facts step tag turns qs does left)
    refl
