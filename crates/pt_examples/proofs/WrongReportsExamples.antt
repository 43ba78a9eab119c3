-- The wrong reports are none.
use Rattle.std.proofs.Common.{◌≡◌, ◌⊎◌, inl, inr, ℕ, zero, suc, ◌<◌, List, [], ◌∷◌, ◌++◌, Bool, true, false, nat_le, nat_lt, length, take, Some, refl, sym, ap, ap₂, subst, arith, ◌∙◌}
use Rattle.std.proofs.lemmas.Bool.Decides.{nat_tests}
use Rattle.pt_meaning.specs.Tag.{Tag, origin}
use Rattle.pt_meaning.specs.Streams.{IsPrefix, Streams, at, get}
use Rattle.pt_meaning.specs.Log.{Path, Firing, Event, Finished, Met, Log, LogBelow, given_on, firings_in}
use Rattle.pt_meaning.specs.Machine.{Stepping, Facts, Front, Lacks, Ends, Takes, Counts, counted, if_long, front}
use Rattle.pt_meaning.specs.Flow.{flow}
use Rattle.pt_meaning.specs.Rounds.{round}
use Rattle.pt_meaning.specs.Kahn.{kahn}
use Rattle.pt_meaning.specs.Net.{Output}
use Rattle.pt_meaning.specs.Step.{step_at, no_meetings}
use Rattle.pt_meaning.specs.Job.{Turn, Course, Standing, Goes, Ended, Halted, Iterations, Fire, after, begin, meaning, log_of}
use Rattle.pt_meaning.specs.Asked.{AsksNext}
use Rattle.pt_meaning.specs.Closed.{Has, Begun, begun_at, these_if, of_records, given_from, taken_from, taken, HasBegun, IsCausedAt, ComesTo, IsNext, IsClosedRun}
use Rattle.pt_meaning.specs.Headline.{Spent, Faulty, IsReportOf}
use Rattle.pt_meaning.specs.Children.{Child}
use Rattle.pt_meaning.specs.Tree.{Core, Sdf, Node, made_of}
use Rattle.pt_meaning.specs.Schedule.{if_more}
use Rattle.pt_examples.specs.Small.{Token, Act, int, rows}
use Rattle.pt_examples.specs.Models.{at_origin, place}
use Rattle.pt_examples.specs.Dataflow.{doubled}
use Rattle.pt_examples.specs.Reports.{once}
use Rattle.pt_examples.specs.WrongReports.{port_of, feeding, enclosing, failing, UnderstatedExample, HollowExample, CauselessExample, MisnumberedExample, OfAnotherRunExample}
use Rattle.pt_examples.proofs.SmallLaws.{small_is_lawful}
use Rattle.pt_examples.proofs.Parts.{part-of-all, one-or-none, nothing-given, fired-so-many}

-- ---- what a firing takes

-- a need of counts takes as many tokens from each place
abbrev lengths : {T : Type 0} → Streams T → List ℕ
lengths [] = []
lengths (xs ∷ X) = length xs ∷ lengths X

taken-length : {A : Type 0} (n : ℕ) (xs : List A) → nat_le n (length xs) ≡ true → length (take n xs) ≡ n
taken-length zero xs h = refl
taken-length (suc n) [] h = absurd (grind (arith, nat_tests, h))
taken-length (suc n) (x ∷ xs) h = let g : nat_le n (length xs) ≡ true = grind (arith, nat_tests, h) in ap (λ v. suc v) (taken-length n xs g)

long-lengths : {T : Type 0} (b : Bool) (n : ℕ) (ns : List ℕ) (xs : List T) (f : Front T) (got left : Streams T) → nat_le n (length xs) ≡ b → ((g l : Streams T) → f ≡ Takes g l → lengths g ≡ ns) → if_long b n xs f ≡ Takes got left → lengths got ≡ n ∷ ns
long-lengths false n ns xs f got left h ih e = absurd (cc)
long-lengths true n ns xs Lacks got left h ih e = absurd (cc)
long-lengths true n ns xs Ends got left h ih e = absurd (cc)
long-lengths true n ns xs (Takes g l) got left h ih e = let a : got ≡ take n xs ∷ g = cc in ap (λ v. lengths v) a ∙ ap₂ (λ v w. v ∷ w) (taken-length n xs h) (ih g l refl)

counted-lengths : {T : Type 0} (ns : List ℕ) (X got left : Streams T) → counted ns X ≡ Takes got left → lengths got ≡ ns
counted-lengths [] [] got left e = let a : got ≡ [] = cc in ap (λ v. lengths v) a
counted-lengths [] (xs ∷ X) got left e = absurd (cc)
counted-lengths (n ∷ ns) [] got left e = absurd (cc)
counted-lengths (n ∷ ns) (xs ∷ X) got left e = long-lengths (nat_le n (length xs)) n ns xs (counted ns X) got left refl (λ g l h. counted-lengths ns X g l h) e

length-of : {T : Type 0} (X : Streams T) (ns : List ℕ) (q n : ℕ) → lengths X ≡ ns → get ns q ≡ Some n → length (at X q) ≡ n
length-of [] ns q n h e = absurd (let f : get [] q ≡ Some n = subst (λ v. get v q ≡ Some n) (sym h) e in cc)
length-of (xs ∷ X) [] q n h e = absurd (cc)
length-of (xs ∷ X) (m ∷ ns) zero n h e = let a : length xs ≡ m = cc in let b : m ≡ n = cc in a ∙ b
length-of (xs ∷ X) (m ∷ ns) (suc q) n h e = let a : lengths X ≡ ns = cc in length-of X ns q n a e

-- a child that may fire once, and is asked, takes what it needs in its first state
once-asked : {T S : Type 0} (facts : Facts T S) (step : Stepping T S) (tag : Tag) (first : S) (X : Streams T) (child : S) (got : Streams T) (ns : List ℕ) → facts.need first ≡ Counts ns → AsksNext facts step tag (Some 1) first X child got → lengths got ≡ ns
unfolding flow
once-asked facts step tag first X child got ns need a = go a.made none_made a.state a.takes
  where
    none_made : a.made ≡ 0
    none_made = omega (arith, a.allowed)

    go : (m : ℕ) → m ≡ 0 → (flow facts step tag m first X).state ≡ child → front (facts.need child) (flow facts step tag m first X).left ≡ Takes got a.left → lengths got ≡ ns
    go (suc m) e s t = absurd (omega (arith, e))
    go zero e s t = counted-lengths ns X got a.left (ap (λ v. front v X) (sym need ∙ ap (λ z. facts.need z) s) ∙ t)

-- and so it is still in its first state
once-first : {T S : Type 0} (facts : Facts T S) (step : Stepping T S) (tag : Tag) (first : S) (X : Streams T) (child : S) (got : Streams T) → AsksNext facts step tag (Some 1) first X child got → child ≡ first
unfolding flow
once-first facts step tag first X child got a = go a.made (omega (arith, a.allowed)) a.state
  where
    go : (m : ℕ) → m ≡ 0 → (flow facts step tag m first X).state ≡ child → child ≡ first
    go (suc m) e s = absurd (omega (arith, e))
    go zero e s = sym s

-- in a job of one iteration a firing under way is within the first firing of the top
first-turn : (top : Node Token Act) (fuel n : ℕ) (c : Course Token Act) (tag : Tag) (X : Streams Token) → after fuel rows no_meetings once n (begin top) ≡ Goes c → once c.fired c.last c.top ≡ Fire tag X → n ≡ 0
first-turn top fuel n c tag X before next = go (nat_lt c.fired 1) refl
  where
    go : (b : Bool) → nat_lt c.fired 1 ≡ b → n ≡ 0
    go true h = let f = fired-so-many fuel rows no_meetings once n (begin top) c before in let g : c.fired < 1 = grind (arith, nat_tests, h) in omega (arith, f, g)
    go false h = absurd (clash (sym (turn h) ∙ next))
      where
        turn : nat_lt c.fired 1 ≡ false → once c.fired c.last c.top ≡ Turn.Ends Iterations
        turn h = ap (λ b. if_more b true origin []) h

        clash : Turn.Ends Iterations ≡ Fire tag X → ⊥
        clash e = cc

next-is : (top : Node Token Act) (log : Log Token) (p : Path) (b : Begun Token) → IsNext rows no_meetings once top log p b → (firings_in (log []) ≡ 0) × ComesTo rows p no_meetings (λ q. firings_in (log q)) top origin [] b
unfolding after
next-is top log p b x = (few, go (firings_in (log [])) few x.before)
  where
    few : firings_in (log []) ≡ 0
    few = first-turn top x.fuel (firings_in (log [])) x.course x.tag x.inputs x.before x.next

    with_turn : (c : Course Token Act) → begin top ≡ c → (tag : Tag) (X : Streams Token) → once c.fired c.last c.top ≡ Fire tag X → ComesTo rows p no_meetings (λ q. firings_in (log q)) c.top tag X b → ComesTo rows p no_meetings (λ q. firings_in (log q)) top origin [] b
    with_turn c same tag X turn comes =
        let first : Fire origin [] ≡ Fire tag X = subst (λ (d : Course Token Act). once d.fired d.last d.top ≡ Fire tag X) (sym same) turn in
        let t : tag ≡ origin = cc in
        let i : X ≡ [] = cc in
        subst (λ (d : Course Token Act). ComesTo rows p no_meetings (λ q. firings_in (log q)) d.top origin [] b) (sym same) (subst (λ v. ComesTo rows p no_meetings (λ q. firings_in (log q)) c.top origin v b) i (subst (λ v. ComesTo rows p no_meetings (λ q. firings_in (log q)) c.top v X b) t comes))

    go : (n : ℕ) → n ≡ 0 → after x.fuel rows no_meetings once n (begin top) ≡ Goes x.course → ComesTo rows p no_meetings (λ q. firings_in (log q)) top origin [] b
    go (suc n) e h = absurd (omega (arith, e))
    go zero e h = let same : begin top ≡ x.course = cc in with_turn x.course same x.tag x.inputs x.next x.comes

-- ---- parts of logs

part-trans : {A : Type 0} (xs ys zs : List A) → IsPrefix xs ys → IsPrefix ys zs → IsPrefix xs zs
part-trans [] ys zs a b = tt
part-trans (x ∷ xs) [] zs a b = absurd a
part-trans (x ∷ xs) (y ∷ ys) [] a b = absurd b
part-trans (x ∷ xs) (y ∷ ys) (z ∷ zs) a b = (a.0 ∙ b.0, part-trans xs ys zs a.1 b.1)

too-long : {A : Type 0} (xs ys zs : List A) (n : ℕ) → length xs ≡ suc n → zs ≡ [] → IsPrefix (xs ++ ys) zs → ⊥
too-long [] ys zs n l e h = omega (arith, l)
too-long (x ∷ xs) ys [] n l e h = h
too-long (x ∷ xs) ys (z ∷ zs) n l e h = absurd (cc)

quiet-records : {T : Type 0} (test : List ℕ → Firing T → Bool) (pick : Firing T → List T) (es : List (Event T)) → firings_in es ≡ 0 → of_records test pick es ≡ []
quiet-records test pick [] e = refl
quiet-records test pick (Finished ns f ∷ es) e = absurd (omega (arith, e))
quiet-records test pick (Met ns i m ∷ es) e = quiet-records test pick es e

some-trace : (x : Tag × Token) (xs : List (Tag × Token)) → x ∷ xs ≡ [] → ⊥
some-trace x xs e = cc

course_of : Node Token Act → Standing Token Act → Course Token Act
course_of top (Goes c) = c
course_of top (Ended e c) = c
course_of top (Halted fs l) = begin top

-- ---- S took a token of B

abbrev feeding_core : Core Token
feeding_core = Sdf (record { net = record { sources = Output 0 0 ∷ Output 1 0 ∷ []; places = 0 ∷ 0 ∷ 2 ∷ [] }; repetitions = 1 ∷ 1 ∷ 1 ∷ []; takes = []; gives = []; rates = (1 ∷ []) ∷ (1 ∷ []) ∷ [] ∷ [] }) ([] ∷ [] ∷ [])

abbrev fed : Course Token Act
fed = course_of feeding (after 8 rows no_meetings once 8 (begin feeding))

fed-ends : after 8 rows no_meetings once 8 (begin feeding) ≡ Ended Iterations fed
unfolding after step_at kahn round flow course_of
fed-ends = refl

abbrev of_ka : Event Token
of_ka = Finished (0 ∷ 0 ∷ []) (record { number = 0; tag = origin; inputs = (int 0 ∷ []) ∷ []; outputs = (int 0 ∷ []) ∷ [] })

abbrev of_s : Event Token
of_s = Finished (0 ∷ []) (record { number = 0; tag = origin; inputs = (int 0 ∷ []) ∷ (int 0 ∷ []) ∷ []; outputs = [] })

fed-ka : fed.log (2 ∷ 0 ∷ []) ≡ of_ka ∷ []
unfolding after step_at kahn round flow course_of
fed-ka = refl

fed-s : fed.log (2 ∷ []) ≡ of_s ∷ []
unfolding after step_at kahn round flow course_of
fed-s = refl

module _ (maximum counts : Path → ℕ) (r : IsReportOf rows no_meetings once feeding (port_of (2 ∷ 0 ∷ []) ∷ port_of (1 ∷ []) ∷ []) 2 maximum counts (at_origin (0 ∷ []) ∷ [] ∷ []) (Spent 2)) where
  fed-part : (p : Path) → IsPrefix (r.log p) (fed.log p)
  fed-part p = part-trans (r.log p) (meaning r.prefix.0 rows no_meetings once feeding p) (fed.log p) (r.prefix.1 p) (part-of-all small_is_lawful once feeding 8 Iterations fed fed-ends r.prefix.0 p)

  closed-run : IsClosedRun rows no_meetings once feeding (meaning r.prefix.0 rows no_meetings once feeding) r.log r.under_way
  closed-run = r.shut r.prefix.0 r.prefix.1

  ka-there : r.log (2 ∷ 0 ∷ []) ≡ of_ka ∷ []
  ka-there = go (one-or-none of_ka (r.log (2 ∷ 0 ∷ [])) (subst (λ v. IsPrefix (r.log (2 ∷ 0 ∷ [])) v) fed-ka (fed-part (2 ∷ 0 ∷ []))))
    where
      go : (r.log (2 ∷ 0 ∷ []) ≡ []) ⊎ (r.log (2 ∷ 0 ∷ []) ≡ of_ka ∷ []) → r.log (2 ∷ 0 ∷ []) ≡ of_ka ∷ []
      go (inl e) = absurd (some-trace _ _ (r.told.0 ∙ ap (λ es. given_on 0 es) e))
      go (inr e) = e

  has-ka : Has of_ka (r.log (2 ∷ 0 ∷ []))
  has-ka = subst (λ es. Has of_ka es) (sym ka-there) (inl refl)

  top-begun : HasBegun r.log r.under_way [] 0
  top-begun = go (firings_in (r.log [])) refl
    where
      go : (n : ℕ) → firings_in (r.log []) ≡ n → HasBegun r.log r.under_way [] 0
      go zero e = let b = closed-run.inside.begun [] 0 (2 ∷ 0 ∷ []) of_ka (has-ka, refl) e in inr (sym e, b.0, b.1)
      go (suc n) e = inl (omega (arith, e))

  -- what S took of B, where its firing is under way
  took-one : (b : Begun Token) → r.under_way (2 ∷ []) ≡ Some b → length (at b.inputs 1) ≡ 1
  took-one b w =
      let c = (next-is feeding r.log (2 ∷ []) b (closed-run.next (2 ∷ []) b w)).1 in
      let l = once-asked _ _ origin _ _ c.3 c.5 (1 ∷ 1 ∷ []) refl c.6.1.1 in
      length-of b.inputs (1 ∷ 1 ∷ []) 1 1 (ap (λ (v : Begun Token). lengths v.inputs) c.7.1 ∙ l) refl

  understated : ⊥
  understated = go (closed-run.inside.caused [] feeding_core refl 2 1 0 top-begun)
    where
      nothing : (s : ℕ) → given_from 0 s 0 0 (r.log (1 ∷ [])) ≡ []
      nothing s = nothing-given 0 0 s 0 (r.log (1 ∷ [])) (sym (r.told.1.0))

      by_s : (r.log (2 ∷ []) ≡ []) ⊎ (r.log (2 ∷ []) ≡ of_s ∷ []) → IsPrefix (taken_from 0 0 0 1 (r.log (2 ∷ [])) ++ these_if (nat_le (firings_in (r.log [])) 0) (begun_at (r.under_way (2 ∷ [])) 1) []) (given_from 0 0 0 0 (r.log (1 ∷ []))) → ⊥
      by_s (inr e) h =
          too-long (int 0 ∷ []) (these_if (nat_le (firings_in (r.log [])) 0) (begun_at (r.under_way (2 ∷ [])) 1) []) (given_from 0 0 0 0 (r.log (1 ∷ []))) 0 refl (nothing 0)
          (subst (λ es. IsPrefix (taken_from 0 0 0 1 es ++ these_if (nat_le (firings_in (r.log [])) 0) (begun_at (r.under_way (2 ∷ [])) 1) []) (given_from 0 0 0 0 (r.log (1 ∷ [])))) e h)
      by_s (inl e) h =
          let w = closed-run.inside.begun (2 ∷ []) 0 (0 ∷ []) of_ka (has-ka, refl) (ap (λ es. firings_in es) e) in
          let none_done = (next-is feeding r.log (2 ∷ []) w.0 (closed-run.next (2 ∷ []) w.0 w.1)).0 in
          let took : length (begun_at (r.under_way (2 ∷ [])) 1) ≡ 1 = ap (λ o. length (begun_at o 1)) w.1 ∙ took-one w.0 w.1 in
          too-long (begun_at (r.under_way (2 ∷ [])) 1) [] (given_from 0 0 0 0 (r.log (1 ∷ []))) 0 took (nothing 0)
          (subst (λ n. IsPrefix (these_if (nat_le n 0) (begun_at (r.under_way (2 ∷ [])) 1) []) (given_from 0 0 0 0 (r.log (1 ∷ [])))) none_done
          (subst (λ es. IsPrefix (taken_from 0 0 0 1 es ++ these_if (nat_le (firings_in (r.log [])) 0) (begun_at (r.under_way (2 ∷ [])) 1) []) (given_from 0 0 0 0 (r.log (1 ∷ [])))) e h))

      at_s : (r.log (2 ∷ []) ≡ []) ⊎ (r.log (2 ∷ []) ≡ of_s ∷ [])
      at_s = one-or-none of_s (r.log (2 ∷ [])) (subst (λ v. IsPrefix (r.log (2 ∷ [])) v) fed-s (fed-part (2 ∷ [])))

      go : IsCausedAt rows feeding r.log r.under_way [] feeding_core 2 1 0 → ⊥
      go (inl (s, few, inl zero_is, below)) = by_s at_s (subst (λ n. IsPrefix (taken rows feeding r.log r.under_way [] 2 1 n 0) (given_from 0 n 0 0 (r.log (1 ∷ [])))) zero_is below)
      go (inl (s, few, inr modal, below)) = absurd (cc)
      go (inr (tick, b, begun, now, xs, known, below)) = absurd (cc)

pub understated_example : UnderstatedExample
unfolding after
understated_example maximum counts r = understated maximum counts r

-- ---- all that came within the firing of S stands there

abbrev enclosed : Course Token Act
enclosed = course_of enclosing (after 8 rows no_meetings once 8 (begin enclosing))

enclosed-ends : after 8 rows no_meetings once 8 (begin enclosing) ≡ Ended Iterations enclosed
unfolding after step_at kahn round flow course_of
enclosed-ends = refl

abbrev of_k : Event Token
of_k = Finished (0 ∷ 0 ∷ []) (record { number = 0; tag = origin; inputs = []; outputs = (int 0 ∷ []) ∷ [] })

abbrev of_around : Event Token
of_around = Finished (0 ∷ []) (record { number = 0; tag = origin; inputs = []; outputs = (int 0 ∷ []) ∷ [] })

enclosed-k : enclosed.log (0 ∷ 0 ∷ []) ≡ of_k ∷ []
unfolding after step_at kahn round flow course_of
enclosed-k = refl

enclosed-s : enclosed.log (0 ∷ []) ≡ of_around ∷ []
unfolding after step_at kahn round flow course_of
enclosed-s = refl

module _ (maximum counts : Path → ℕ) (r : IsReportOf rows no_meetings once enclosing (port_of (0 ∷ 0 ∷ []) ∷ port_of (0 ∷ []) ∷ []) 1 maximum counts ([] ∷ at_origin (0 ∷ []) ∷ []) (Spent 1)) where
  enclosed-part : (p : Path) → IsPrefix (r.log p) (enclosed.log p)
  enclosed-part p = part-trans (r.log p) (meaning r.prefix.0 rows no_meetings once enclosing p) (enclosed.log p) (r.prefix.1 p) (part-of-all small_is_lawful once enclosing 8 Iterations enclosed enclosed-ends r.prefix.0 p)

  whole-log : meaning 8 rows no_meetings once enclosing ≡ enclosed.log
  whole-log = ap (λ (s : Standing Token Act). log_of s) enclosed-ends

  hollow : ⊥
  hollow =
      let below : LogBelow r.log (meaning 8 rows no_meetings once enclosing) = subst (λ (l : Log Token). LogBelow r.log l) (sym whole-log) enclosed-part in
      let there = (r.shut 8 below).inside.whole (0 ∷ []) 0 (omega (arith, ap (λ es. firings_in es) s-there)) (0 ∷ []) of_k (subst (λ (l : Log Token). Has of_k (l (0 ∷ 0 ∷ []))) (sym whole-log) (subst (λ es. Has of_k es) (sym enclosed-k) (inl refl)), refl) in
      subst (λ es. Has of_k es) k-empty there
    where
      s-there : r.log (0 ∷ []) ≡ of_around ∷ []
      s-there = go (one-or-none of_around (r.log (0 ∷ [])) (subst (λ v. IsPrefix (r.log (0 ∷ [])) v) enclosed-s (enclosed-part (0 ∷ []))))
        where
          go : (r.log (0 ∷ []) ≡ []) ⊎ (r.log (0 ∷ []) ≡ of_around ∷ []) → r.log (0 ∷ []) ≡ of_around ∷ []
          go (inl e) = absurd (some-trace _ _ (r.told.1.0 ∙ ap (λ es. given_on 0 es) e))
          go (inr e) = e

      k-empty : r.log (0 ∷ 0 ∷ []) ≡ []
      k-empty = go (one-or-none of_k (r.log (0 ∷ 0 ∷ [])) (subst (λ v. IsPrefix (r.log (0 ∷ 0 ∷ [])) v) enclosed-k (enclosed-part (0 ∷ 0 ∷ []))))
        where
          go : (r.log (0 ∷ 0 ∷ []) ≡ []) ⊎ (r.log (0 ∷ 0 ∷ []) ≡ of_k ∷ []) → r.log (0 ∷ 0 ∷ []) ≡ []
          go (inl e) = e
          go (inr e) = absurd (some-trace _ _ (sym (r.told.0 ∙ ap (λ es. given_on 0 es) e)))

pub hollow_example : HollowExample
hollow_example maximum counts r = hollow maximum counts r

-- ---- the stuck firing took a token of the Ramp, and no firing of it is finished

abbrev failing_core : Core Token
failing_core = Sdf (record { net = record { sources = Output 0 0 ∷ []; places = 0 ∷ 1 ∷ [] }; repetitions = 1 ∷ 1 ∷ []; takes = []; gives = []; rates = (1 ∷ []) ∷ (1 ∷ []) ∷ [] }) ([] ∷ [])

module _ (maximum counts : Path → ℕ) (r : IsReportOf rows no_meetings once failing (port_of (0 ∷ []) ∷ []) 10 maximum counts ([] ∷ []) (Faulty (place (1 ∷ []) 0 30))) where
  failing-run : IsClosedRun rows no_meetings once failing (meaning r.prefix.0 rows no_meetings once failing) r.log r.under_way
  failing-run = r.shut r.prefix.0 r.prefix.1

  causeless : ⊥
  causeless = by_place r.caused.1.1
    where
      nothing : (s : ℕ) → given_from 0 s 0 0 (r.log (0 ∷ [])) ≡ []
      nothing s = nothing-given 0 0 s 0 (r.log (0 ∷ [])) (sym r.told.0)

      quiet : firings_in (r.log (1 ∷ [])) ≡ 0
      quiet = r.caused.1.0

      took-one : (b : Begun Token) → r.under_way (1 ∷ []) ≡ Some b → length (at b.inputs 0) ≡ 1
      took-one b w =
          let c = (next-is failing r.log (1 ∷ []) b (failing-run.next (1 ∷ []) b w)).1 in
          let l = once-asked _ _ origin _ _ c.3 c.5 (1 ∷ []) refl c.6.1.1 in
          length-of b.inputs (1 ∷ []) 0 1 (ap (λ (v : Begun Token). lengths v.inputs) c.7.1 ∙ l) refl

      top-begun : (b : Begun Token) → r.under_way (1 ∷ []) ≡ Some b → HasBegun r.log r.under_way [] 0
      top-begun b w = let e = failing-run.inside.enclosed [] 1 b w in inr (sym ((next-is failing r.log (1 ∷ []) b (failing-run.next (1 ∷ []) b w)).0), e.0, e.2)

      by_cause : (b : Begun Token) → r.under_way (1 ∷ []) ≡ Some b → IsCausedAt rows failing r.log r.under_way [] failing_core 1 0 0 → ⊥
      by_cause b w (inl (s, few, inl zero_is, below)) =
          let took : length (begun_at (r.under_way (1 ∷ [])) 0) ≡ 1 = ap (λ o. length (begun_at o 0)) w ∙ took-one b w in
          let none_done = (next-is failing r.log (1 ∷ []) b (failing-run.next (1 ∷ []) b w)).0 in
          let now : IsPrefix (taken_from 0 s 0 0 (r.log (1 ∷ [])) ++ these_if (nat_le (firings_in (r.log [])) 0) (begun_at (r.under_way (1 ∷ [])) 0) []) (given_from 0 s 0 0 (r.log (0 ∷ []))) = below in
          too-long (begun_at (r.under_way (1 ∷ [])) 0) [] (given_from 0 s 0 0 (r.log (0 ∷ []))) 0 took (nothing s)
          (subst (λ n. IsPrefix (these_if (nat_le n 0) (begun_at (r.under_way (1 ∷ [])) 0) []) (given_from 0 s 0 0 (r.log (0 ∷ [])))) none_done
          (subst (λ v. IsPrefix (v ++ these_if (nat_le (firings_in (r.log [])) 0) (begun_at (r.under_way (1 ∷ [])) 0) []) (given_from 0 s 0 0 (r.log (0 ∷ [])))) (quiet-records _ _ (r.log (1 ∷ [])) quiet) now))
      by_cause b w (inl (s, few, inr modal, below)) = absurd (cc)
      by_cause b w (inr (tick, c, begun, now, xs, known, below)) = absurd (cc)

      by_place : ((b : Begun Token) × (r.under_way (1 ∷ []) ≡ Some b)) ⊎ ((◌≡◌ {A = Path} (1 ∷ []) []) × (◌≡◌ {A = ℕ} 30 38)) → ⊥
      by_place (inl w) = by_cause w.0 w.1 (failing-run.inside.caused [] failing_core refl 1 0 0 (top-begun w.0 w.1))
      by_place (inr e) = absurd (let f = e.0 in cc)

pub causeless_example : CauselessExample
causeless_example maximum counts r = causeless maximum counts r

module _ (maximum counts : Path → ℕ) (r : IsReportOf rows no_meetings once failing (port_of (0 ∷ []) ∷ []) 10 maximum counts (at_origin (0 ∷ []) ∷ []) (Faulty (place (1 ∷ []) 1 30))) where
  misnumbered : ⊥
  misnumbered = by_place r.caused.1.1
    where
      by_begun : (b : Begun Token) → r.under_way (1 ∷ []) ≡ Some b → ⊥
      by_begun b w =
          let c = (next-is failing r.log (1 ∷ []) b ((r.shut r.prefix.0 r.prefix.1).next (1 ∷ []) b w)).1 in
          let unfired = once-first _ _ origin _ _ c.3 c.5 c.6.1.1 in
          let number = c.7.0 in
          let told = r.caused.1.0 in
          let made = ap (λ (z : Child (Node Token Act)). made_of z.node) unfired in
          omega (arith, number, told, made)

      by_place : ((b : Begun Token) × (r.under_way (1 ∷ []) ≡ Some b)) ⊎ ((◌≡◌ {A = Path} (1 ∷ []) []) × (◌≡◌ {A = ℕ} 30 38)) → ⊥
      by_place (inl w) = by_begun w.0 w.1
      by_place (inr e) = absurd (let f = e.0 in cc)

pub misnumbered_example : MisnumberedExample
misnumbered_example maximum counts r = misnumbered maximum counts r

-- ---- the log is that of this run

abbrev told_once : Course Token Act
told_once = course_of doubled (after 5 rows no_meetings once 5 (begin doubled))

told-ends : after 5 rows no_meetings once 5 (begin doubled) ≡ Ended Iterations told_once
unfolding after step_at kahn round flow course_of
told-ends = refl

abbrev of_scale : Event Token
of_scale = Finished (0 ∷ []) (record { number = 0; tag = origin; inputs = (int 0 ∷ []) ∷ []; outputs = (int 0 ∷ []) ∷ [] })

told-scale : told_once.log (1 ∷ []) ≡ of_scale ∷ []
unfolding after step_at kahn round flow course_of
told-scale = refl

pub of_another_run_example : OfAnotherRunExample
of_another_run_example maximum r =
    go (one-or-none of_scale (r.log (1 ∷ [])) (subst (λ v. IsPrefix (r.log (1 ∷ [])) v) told-scale (part-trans (r.log (1 ∷ [])) (meaning r.prefix.0 rows no_meetings once doubled (1 ∷ [])) (told_once.log (1 ∷ [])) (r.prefix.1 (1 ∷ [])) (part-of-all small_is_lawful once doubled 5 Iterations told_once told-ends r.prefix.0 (1 ∷ [])))))
  where
    go : (r.log (1 ∷ []) ≡ []) ⊎ (r.log (1 ∷ []) ≡ of_scale ∷ []) → ⊥
    go (inl e) = omega (arith, r.counted (1 ∷ []), ap (λ es. firings_in es) e)
    go (inr e) = some-trace _ _ (sym (r.told.0 ∙ ap (λ es. given_on 0 es) e))
