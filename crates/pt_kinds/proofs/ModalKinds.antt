-- A Modal keeps to the kinds of its node: its actions give such tokens, and so comes what its refinements take and what the own outputs have of them.
use Rattle.std.proofs.Common.{◌≡◌, ℕ, zero, suc, ◌+◌, ◌≤◌, ◌<◌, List, [], ◌∷◌, length, Bool, true, false, nat_eq, Option, Some, None, replicate, if◌then◌else◌, refl, sym, ap, subst, arith, ◌∙◌}
use Rattle.std.proofs.lemmas.Bool.Decides.{nat_tests}
use Rattle.std.specs.List.{AllByRecursion}
use Rattle.pt_meaning.specs.Basics.{Tag, Streams, at, Log, Path, silent, own}
use Rattle.pt_meaning.specs.Streams.{get, change_at}
use Rattle.pt_meaning.specs.Tag.{local}
use Rattle.pt_meaning.specs.Machine.{Outcome, Done, Stuck, Stepping, Facts, recorded}
use Rattle.pt_meaning.specs.Net.{Inside}
use Rattle.pt_meaning.specs.Modal.{Choice, Nothing, One, Wrong, chosen, Acted, Acts, Fails, Chart, Modes, change_if, reset_unless, lag_of, picked, shown, below_number, unfired_outputs, taken, afterwards, put_state, on_refinement, at_refinement, with_refinement, preempted, modal}
use Rattle.pt_kinds.specs.Signature.{Signature, Signatures, below, AllOf, AreOf, AreAllOf, AreEach, IsTypedEvent, IsTypedLog}
use Rattle.pt_kinds.specs.TypedTree.{IsFed, IsTypedModal}
use Rattle.pt_kinds.proofs.StreamLaws.{all-mono, AreGiven, at-given, get-within}
use Rattle.pt_kinds.proofs.KindLaws.{GoodOutcome, KeepsKinds, typed-silent, typed-then, typed-own, AreGood, good-at}

-- ---- lists in which one is changed

change-length : {A : Type 0} (i : ℕ) (f : A → A) (xs : List A) → length (change_at i f xs) ≡ length xs
change-length i f [] = refl
change-length zero f (x ∷ xs) = refl
change-length (suc i) f (x ∷ xs) = ap (λ n. suc n) (change-length i f xs)

change-if-length : {A : Type 0} (o : Option ℕ) (f : A → A) (xs : List A) → length (change_if o f xs) ≡ length xs
change-if-length None f xs = refl
change-if-length (Some i) f xs = change-length i f xs

same-number : (i j : ℕ) → nat_eq i j ≡ true → i ≡ j
same-number i j e = grind (arith, nat_tests, e)

picked-length : {T : Type 0} (ps : List ℕ) (X : Streams T) → length (picked ps X) ≡ length ps
picked-length [] X = refl
picked-length (p ∷ ps) X = ap (λ n. suc n) (picked-length ps X)

module _ {T K A S : Type 0} (Has : K → T → Type 0) (Below : K → K → Type 0) (Fits : Signature K → A → Type 0) (widens : (j k : K) (x : T) → Below j k → Has j x → Has k x) (sigs : Signatures K) (Good : ℕ → S → Type 0) where
  -- ---- streams

  none-of : (n : ℕ) (ks : List K) → n ≤ length ks → AreOf Has ks (replicate n [])
  none-of zero ks l = tt
  none-of (suc n) [] l = absurd (omega (arith, l))
  none-of (suc n) (k ∷ ks) l = (tt, none-of n ks (omega (arith, l)))

  all-widened : (o : Option K) (k : K) (xs : List T) → IsFed {A = A} Has Below Fits o k → AreGiven Has o xs → AllOf Has k xs
  all-widened None k xs f g = subst (λ ys. AllOf Has k ys) (sym g) tt
  all-widened (Some j) k xs f g = all-mono (Has j) (Has k) (λ x h. widens j k x f h) xs g

  picked-of : (ps : List ℕ) (ks : List K) (X : Streams T) → AreOf Has (sigs []).places X → length ps ≡ length ks → ((q p : ℕ) (k : K) → get ps q ≡ Some p → get ks q ≡ Some k → IsFed {A = A} Has Below Fits (get (sigs []).places p) k) → AreOf Has ks (picked ps X)
  picked-of [] ks X a e f = tt
  picked-of (p ∷ ps) [] X a e f = absurd (omega (arith, e))
  picked-of (p ∷ ps) (k ∷ ks) X a e f = (
    all-widened (get (sigs []).places p) k (at X p) (f 0 p k refl refl) (at-given Has (sigs []).places X p a),
    picked-of ps ks X a (omega (arith, e)) (λ q r j g h. f (suc q) r j g h),
  )

  shown-of : (i : ℕ) (ps : List (Option ℕ)) (ks : List K) (X : Streams T) → AreOf Has (sigs (i ∷ [])).outputs X → length ps ≤ length ks → ((o p : ℕ) (k : K) → get ps o ≡ Some (Some p) → get ks o ≡ Some k → IsFed {A = A} Has Below Fits (get (sigs (i ∷ [])).outputs p) k) → AreOf Has ks (shown ps X)
  shown-of i [] ks X a l f = tt
  shown-of i (p ∷ ps) [] X a l f = absurd (omega (arith, l))
  shown-of i (None ∷ ps) (k ∷ ks) X a l f = (tt, shown-of i ps ks X a (omega (arith, l)) (λ o p j g h. f (suc o) p j g h))
  shown-of i (Some p ∷ ps) (k ∷ ks) X a l f = (
    all-widened (get (sigs (i ∷ [])).outputs p) k (at X p) (f 0 p k refl refl) (at-given Has (sigs (i ∷ [])).outputs X p a),
    shown-of i ps ks X a (omega (arith, l)) (λ o q j g h. f (suc o) q j g h),
  )

  -- ---- children of which one is changed

  abbrev AreKept : ℕ → List S → Type 0
  AreKept i ss = AreGood {A = A} Has Below Fits widens sigs Good i ss

  change-good : (i j : ℕ) (f : S → S) (ss : List S) → ((s : S) → Good (i + j) s → Good (i + j) (f s)) → AreKept i ss → AreKept i (change_at j f ss)
  change-good i j f [] h g = tt
  change-good i zero f (s ∷ ss) h g =
      let z : i + 0 ≡ i = omega arith in
      (subst (λ n. Good n (f s)) z (h s (subst (λ n. Good n s) (sym z) g.0)), g.1)
  change-good i (suc j) f (s ∷ ss) h g =
      let z : i + suc j ≡ suc i + j = omega arith in
      (g.0, change-good (suc i) j f ss (λ x b. subst (λ n. Good n (f x)) z (h x (subst (λ n. Good n x) (sym z) b))) g.1)

  change-if-good : (o : Option ℕ) (f : S → S) (ss : List S) → ((i : ℕ) (s : S) → Good i s → Good i (f s)) → AreKept 0 ss → AreKept 0 (change_if o f ss)
  change-if-good None f ss h g = g
  change-if-good (Some i) f ss h g = change-good 0 i f ss (λ s b. h (0 + i) s b) g

  reset-unless-good : (keeps : Bool) (reset : S → S) → ((i : ℕ) (s : S) → Good i s → Good i (reset s)) → (i : ℕ) (s : S) → Good i s → Good i (reset_unless keeps reset s)
  reset-unless-good true reset h i s g = g
  reset-unless-good false reset h i s g = h i s g

  -- ---- logs of a child

  number-typed : (i j : ℕ) (l : Log T) (p : Path) (b : Bool) → nat_eq i j ≡ b → IsTypedLog Has (below sigs i) l → AllByRecursion (IsTypedEvent Has (sigs (j ∷ p))) (if b then l p else [])
  number-typed i j l p true e t = subst (λ n. AllByRecursion (IsTypedEvent Has (sigs (n ∷ p))) (l p)) (same-number i j e) (t p)
  number-typed i j l p false e t = tt

  below-typed : (i : ℕ) (l : Log T) → IsTypedLog Has (below sigs i) l → IsTypedLog Has sigs (below_number i l)
  below-typed i l t [] = tt
  below-typed i l t (j ∷ p) = number-typed i j l p (nat_eq i j) refl t

  recorded-good : (i n : ℕ) (tag : Tag) (X : Streams T) → AreAllOf Has (sigs (i ∷ [])).places X → (r : Outcome T S) → GoodOutcome Has (below sigs i) (Good i) r → GoodOutcome Has (below sigs i) (Good i) (recorded n tag X r)
  recorded-good i n tag X a (Done s out l) g = (g.0, g.1, typed-then Has (below sigs i) l (own (record { number = n; tag = tag; inputs = X; outputs = out })) g.2 (typed-own Has (below sigs i) n tag X out a g.1))
  recorded-good i n tag X a (Stuck fs l) g = g

  -- ---- a firing of the Modal

  module _ (facts : Facts T S) (step : Stepping T S) (keeps : (i : ℕ) → KeepsKinds Has (below sigs i) (Good i) step) (resets : (i : ℕ) (s : S) → Good i s → Good i (facts.reset s)) (chart : Chart T) (count : ℕ) (first : Modes T) (t : IsTypedModal {A = A} Has Below Fits sigs count chart first) where
    -- it is done, with as many children, Variables of their kinds and such outputs, or stuck; and what was finished within keeps to its signatures
    abbrev pub IsGoodReaction : Outcome T (Inside (Modes T) S) → Type 0
    IsGoodReaction (Done x out l) = (length x.kids ≡ count) × AreKept 0 x.kids × AreEach Has t.variables x.held.values × AreOf Has (sigs []).outputs out × IsTypedLog Has sigs l
    IsGoodReaction (Stuck fs l) = IsTypedLog Has sigs l

    taken-good : (made : ℕ) (tag : Tag) (early : Bool) (n : ℕ) (m : Modes T) (kids : List S) (l : Log T) (r : Acted T) → length kids ≡ count → AreKept 0 kids → IsTypedLog Has sigs l → ((out : Streams T) (values : List T) → r ≡ Acts out values → AreOf Has (sigs []).outputs out × AreEach Has t.variables values) →
        IsGoodReaction (taken chart facts step made tag early n m kids l r)
    taken-good made tag early n m kids l (Fails code) e g k h = k
    taken-good made tag early n m kids l (Acts out values) e g k h =
        let w = h out values refl in
        let to : Option ℕ = chart.refinement (chart.target early m.mode n) in
        let turn : S → S = reset_unless (chart.keeps_history early m.mode n) facts.reset in (
          change-if-length to turn kids ∙ e,
          change-if-good to turn kids (reset-unless-good (chart.keeps_history early m.mode n) facts.reset resets) g,
          w.1,
          w.0,
          k,
        )

    module _ (made : ℕ) (tag : Tag) (inputs : Streams T) (are : AreAllOf Has (sigs []).places inputs) (m : Modes T) (values : AreEach Has t.variables m.values) where
      afterwards-good : (kids : List S) (given : Streams T) (l : Log T) (c : Choice) → length kids ≡ count → AreKept 0 kids → AreOf Has (sigs []).outputs given → IsTypedLog Has sigs l → IsGoodReaction (afterwards chart facts step made tag m kids inputs given l c)
      afterwards-good kids given l Nothing e g o k = (e, g, values, o, k)
      afterwards-good kids given l (One n) e g o k = taken-good made tag false n m kids l (chart.act false m.mode n m.values inputs given) e g k (λ out new is. t.acts false m.mode n m.values new inputs given out values are o is)
      afterwards-good kids given l (Wrong code) e g o k = k

      on-refinement-good : (i : ℕ) (kids : List S) (r : Outcome T S) → i < count → length kids ≡ count → AreKept 0 kids → GoodOutcome Has (below sigs i) (Good i) r → IsGoodReaction (on_refinement chart facts step made tag i m kids inputs r)
      on-refinement-good i kids (Stuck fs l) w e g r = below-typed i l r
      on-refinement-good i kids (Done s out l) w e g r =
          let typed = t.refinements i w in
          let given : Streams T = shown (chart.out_ports i) out in
          let z : i ≡ 0 + i = omega arith in
          afterwards-good (change_at i (put_state chart facts step s) kids) given (below_number i l) (chosen 0 (chart.others m.mode m.values inputs given)) (change-length i (put_state chart facts step s) kids ∙ e)
          (change-good 0 i (put_state chart facts step s) kids (λ old b. subst (λ n. Good n s) z r.0) g)
          (shown-of i (chart.out_ports i) (sigs []).outputs out r.1 typed.outputs_counted typed.shown)
          (below-typed i l r.2)

      at-refinement-good : (i : ℕ) (kids : List S) (o : Option S) → get kids i ≡ o → length kids ≡ count → AreKept 0 kids → IsGoodReaction (at_refinement chart facts step made tag m kids inputs i o)
      at-refinement-good i kids None e c g = typed-silent Has sigs
      at-refinement-good i kids (Some s) e c g =
          let w : i < count = omega (arith, get-within kids i s e, c) in
          let typed = t.refinements i w in
          let z : 0 + i ≡ i = omega arith in
          let good : Good i s = subst (λ n. Good n s) z (good-at {A = A} Has Below Fits widens sigs Good 0 i kids s g e) in
          let within : Tag = local tag (lag_of m.stays i) in
          let got : Streams T = picked (chart.in_ports i) inputs in
          let fits : AreAllOf Has (sigs (i ∷ [])).places got = (picked-length (chart.in_ports i) inputs ∙ typed.places_counted, picked-of (chart.in_ports i) (sigs (i ∷ [])).places inputs are.1 typed.places_counted typed.fed) in
          on-refinement-good i kids (recorded (facts.made s) within got (step within s got)) w c g (recorded-good i (facts.made s) within got fits (step within s got) (keeps i within s got good fits))

      unfired-of : AreOf Has (sigs []).outputs (unfired_outputs chart)
      unfired-of = none-of chart.outputs (sigs []).outputs t.outputs_counted

      with-refinement-good : (kids : List S) (o : Option ℕ) → length kids ≡ count → AreKept 0 kids → IsGoodReaction (with_refinement chart facts step made tag m kids inputs o)
      with-refinement-good kids None e g = afterwards-good kids (unfired_outputs chart) silent (chosen 0 (chart.others m.mode m.values inputs (unfired_outputs chart))) e g unfired-of (typed-silent Has sigs)
      with-refinement-good kids (Some i) e g = at-refinement-good i kids (get kids i) refl e g

      preempted-good : (kids : List S) (c : Choice) → length kids ≡ count → AreKept 0 kids → IsGoodReaction (preempted chart facts step made tag m kids inputs c)
      preempted-good kids Nothing e g = with-refinement-good kids (chart.refinement m.mode) e g
      preempted-good kids (One n) e g = taken-good made tag true n m kids silent (chart.act true m.mode n m.values inputs (unfired_outputs chart)) e g (typed-silent Has sigs) (λ out new is. t.acts true m.mode n m.values new inputs (unfired_outputs chart) out values are unfired-of is)
      preempted-good kids (Wrong code) e g = typed-silent Has sigs

      pub modal-good : (kids : List S) → length kids ≡ count → AreKept 0 kids → IsGoodReaction (modal chart facts step made tag m kids inputs)
      modal-good kids e g = preempted-good kids (chosen 0 (chart.preemptive m.mode m.values inputs)) e g
