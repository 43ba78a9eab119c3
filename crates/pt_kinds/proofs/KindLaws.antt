-- Where a director only moves tokens along channels that lead from kind to kind, and each child keeps to its signature, so does the composite.
use Rattle.std.proofs.Common.{◌≡◌, ℕ, zero, suc, ◌+◌, ◌≤◌, ◌<◌, List, [], ◌∷◌, ◌++◌, length, Option, Some, None, refl, sym, ap, subst, arith, ◌∙◌, length-append}
use Rattle.pt_meaning.specs.Basics.{Tag, Streams, at, Log, Path, Event, Finished, Met, silent, log_then, own}
use Rattle.pt_meaning.specs.Streams.{get}
use Rattle.pt_meaning.specs.Machine.{Outcome, Done, Stuck, Stepping, Facts, Partial, recorded}
use Rattle.pt_meaning.specs.Net.{Source, Net, Inside}
use Rattle.pt_meaning.specs.Running.{total}
use Rattle.pt_meaning.specs.Closed.{first_channel}
use Rattle.pt_laws.specs.LogsOfRuns.{log_in}
use Rattle.pt_laws.specs.SoundRuns.{count_at}
use Rattle.pt_kinds.specs.Moves.{IsMeeting, MayCome, stood, given, MayGive, arrives, fires, tells, MayStand, begins, goes_on, MayTake, takes, MayKnow, knows, MayLog, MovedTo, OnlyMoves}
use Rattle.pt_kinds.specs.Signature.{Signature, Signatures, below, AreOf, AreAllOf, AreKnownOf, AreAllKnownOf, IsTypedEvent, IsTypedLog}
use Rattle.pt_kinds.specs.TypedTree.{kind_of, kinds_from, AreSized, IsFed, AreFed, IsTypedNet}
use Rattle.pt_kinds.proofs.MemberLaws.{all-has, all-of-has}
use Rattle.pt_kinds.proofs.StreamLaws.{all-append, at-given, IsGiven, one-given, known-given, each-of, each-known, get-left, get-right, get-within}

-- ---- logs

module _ {T K : Type 0} (Has : K → T → Type 0) where
  pub typed-silent : (sigs : Signatures K) → IsTypedLog Has sigs silent
  typed-silent sigs p = tt

  pub typed-then : (sigs : Signatures K) (l m : Log T) → IsTypedLog Has sigs l → IsTypedLog Has sigs m → IsTypedLog Has sigs (log_then l m)
  typed-then sigs l m a b p = all-append (IsTypedEvent Has (sigs p)) (l p) (m p) (a p) (b p)

  pub typed-own : (sigs : Signatures K) (n : ℕ) (tag : Tag) (X out : Streams T) → AreAllOf Has (sigs []).places X → AreOf Has (sigs []).outputs out → IsTypedLog Has sigs (own (record { number = n; tag = tag; inputs = X; outputs = out }))
  typed-own sigs n tag X out a b [] = ((a, b), tt)
  typed-own sigs n tag X out a b (i ∷ p) = tt

-- a state is of this kind; and what a firing of it comes to
module _ {T K S : Type 0} (Has : K → T → Type 0) (sigs : Signatures K) (Good : S → Type 0) where
  abbrev pub GoodOutcome : Outcome T S → Type 0
  GoodOutcome (Done s out l) = Good s × AreOf Has (sigs []).outputs out × IsTypedLog Has sigs l
  GoodOutcome (Stuck fs l) = IsTypedLog Has sigs l

  abbrev pub KeepsKinds : Stepping T S → Type 0
  KeepsKinds step = (tag : Tag) (s : S) (X : Streams T) → Good s → AreAllOf Has (sigs []).places X → GoodOutcome (step tag s X)

  pub recorded-typed : (n : ℕ) (tag : Tag) (X : Streams T) → AreAllOf Has (sigs []).places X → (r : Outcome T S) → GoodOutcome r → IsTypedLog Has sigs (log_in (recorded n tag X r))
  recorded-typed n tag X a (Done s out l) g = typed-then Has sigs l (own (record { number = n; tag = tag; inputs = X; outputs = out })) g.2 (typed-own Has sigs n tag X out a g.1)
  recorded-typed n tag X a (Stuck fs l) g = g

-- ---- the kinds of channels, by their numbers

module _ {K : Type 0} (sigs : Signatures K) (ends : List K) where
  -- those of a place of child i + j
  pub kind-of-place : (i j q : ℕ) (ns : List ℕ) (k : K) → AreSized sigs i ns → j < length ns → get (sigs ((i + j) ∷ [])).places q ≡ Some k → get (kinds_from sigs ends i ns) (first_channel ns j + q) ≡ Some k
  kind-of-place i j q [] k z l e = absurd (omega (arith, l))
  kind-of-place i zero q (n ∷ ns) k z l e =
      let a : i + 0 ≡ i = omega arith in
      let b : q ≡ 0 + q = omega arith in
      get-left (sigs (i ∷ [])).places (kinds_from sigs ends (suc i) ns) (0 + q) k (ap (λ m. get (sigs (i ∷ [])).places m) (sym b) ∙ subst (λ m. get (sigs (m ∷ [])).places q ≡ Some k) a e)
  kind-of-place i (suc j) q (n ∷ ns) k z l e =
      let a : i + suc j ≡ suc i + j = omega arith in
      let b : (n + first_channel ns j) + q ≡ length (sigs (i ∷ [])).places + (first_channel ns j + q) = omega (arith, z.0) in
      ap (λ m. get (kinds_from sigs ends i (n ∷ ns)) m) b ∙ get-right (sigs (i ∷ [])).places (kinds_from sigs ends (suc i) ns) (first_channel ns j + q) ∙ kind-of-place (suc i) j q ns k z.1 (omega (arith, l)) (subst (λ m. get (sigs (m ∷ [])).places q ≡ Some k) a e)

  -- those of an own output
  pub kind-of-output : (i port : ℕ) (ns : List ℕ) (k : K) → AreSized sigs i ns → get (sigs []).outputs port ≡ Some k → get (kinds_from sigs ends i ns) (total ns + port) ≡ Some k
  kind-of-output i port [] k z e =
      let b : port ≡ 0 + port = omega arith in
      get-left (sigs []).outputs ends (0 + port) k (ap (λ m. get (sigs []).outputs m) (sym b) ∙ e)
  kind-of-output i port (n ∷ ns) k z e =
      let b : (n + total ns) + port ≡ length (sigs (i ∷ [])).places + (total ns + port) = omega (arith, z.0) in
      ap (λ m. get (kinds_from sigs ends i (n ∷ ns)) m) b ∙ get-right (sigs (i ∷ [])).places (kinds_from sigs ends (suc i) ns) (total ns + port) ∙ kind-of-output (suc i) port ns k z.1 e

  pub kinds-counted : (i : ℕ) (ns : List ℕ) → AreSized sigs i ns → length (kinds_from sigs ends i ns) ≡ total ns + length ((sigs []).outputs ++ ends)
  kinds-counted i [] z = omega arith
  kinds-counted i (n ∷ ns) z = omega (arith, length-append (sigs (i ∷ [])).places (kinds_from sigs ends (suc i) ns), z.0, kinds-counted (suc i) ns z.1)

  pub sized-at : (i j : ℕ) (ns : List ℕ) → AreSized sigs i ns → j < length ns → count_at ns j ≡ length (sigs ((i + j) ∷ [])).places
  sized-at i j [] z l = absurd (omega (arith, l))
  sized-at i zero (n ∷ ns) z l = let a : i ≡ i + 0 = omega arith in sym z.0 ∙ ap (λ m. length (sigs (m ∷ [])).places) a
  sized-at i (suc j) (n ∷ ns) z l = let a : suc i + j ≡ i + suc j = omega arith in sized-at (suc i) j ns z.1 (omega (arith, l)) ∙ ap (λ m. length (sigs (m ∷ [])).places) a

-- ---- a composite

module _ {T K A S : Type 0} (Has : K → T → Type 0) (Below : K → K → Type 0) (Fits : Signature K → A → Type 0) (widens : (j k : K) (x : T) → Below j k → Has j x → Has k x) (sigs : Signatures K) (Good : ℕ → S → Type 0) where
  -- the children from child i on
  abbrev pub AreGood : ℕ → List S → Type 0
  AreGood i [] = Unit {0}
  AreGood i (s ∷ ss) = Good i s × AreGood (suc i) ss

  pub good-at : (i j : ℕ) (ss : List S) (s : S) → AreGood i ss → get ss j ≡ Some s → Good (i + j) s
  good-at i j [] s g e = absurd (cc)
  good-at i zero (z ∷ ss) s g e =
      let a : i ≡ i + 0 = omega arith in
      let is : z ≡ s = cc in
      subst (λ m. Good m s) a (subst (λ w. Good i w) is g.0)
  good-at i (suc j) (z ∷ ss) s g e = let a : suc i + j ≡ i + suc j = omega arith in subst (λ m. Good m s) a (good-at (suc i) j ss s g.1 e)

  each-good : (i : ℕ) (ss : List S) → ((j : ℕ) (s : S) → get ss j ≡ Some s → Good (i + j) s) → AreGood i ss
  each-good i [] h = tt
  each-good i (s ∷ ss) h =
      let a : i + 0 ≡ i = omega arith in
      (subst (λ m. Good m s) a (h 0 s refl), each-good (suc i) ss (λ j z e. let b : i + suc j ≡ suc i + j = omega arith in subst (λ m. Good m z) b (h (suc j) z e)))

  fed-at : (cs : List Source) (ks : List K) (n : ℕ) (s : Source) (k : K) → AreFed {A = A} Has Below Fits sigs cs ks → get cs n ≡ Some s → get ks n ≡ Some k → IsFed {A = A} Has Below Fits (kind_of sigs s) k
  fed-at [] ks n s k f e g = absurd (cc)
  fed-at (c ∷ cs) [] n s k f e g = absurd f
  fed-at (c ∷ cs) (j ∷ ks) zero s k f e g =
      let is : c ≡ s = cc in
      let are : j ≡ k = cc in
      subst (λ z. IsFed {A = A} Has Below Fits (kind_of sigs s) z) are (subst (λ z. IsFed {A = A} Has Below Fits (kind_of sigs z) j) is f.0)
  fed-at (c ∷ cs) (j ∷ ks) (suc n) s k f e g = fed-at cs ks n s k f.1 e g

  fed-count : (cs : List Source) (ks : List K) → AreFed {A = A} Has Below Fits sigs cs ks → length cs ≡ length ks
  fed-count [] [] f = refl
  fed-count [] (k ∷ ks) f = absurd f
  fed-count (c ∷ cs) [] f = absurd f
  fed-count (c ∷ cs) (k ∷ ks) f = ap (λ n. suc n) (fed-count cs ks f.1)

  widened : (o : Option K) (k : K) (x : T) → IsFed {A = A} Has Below Fits o k → IsGiven Has o x → Has k x
  widened None k x f g = absurd g
  widened (Some j) k x f g = widens j k x f g

  pub sources-counted : (count : ℕ) (net : Net) (ends : List K) → IsTypedNet {A = A} Has Below Fits sigs count net ends → length net.sources ≡ total net.places + (length (sigs []).outputs + length ends)
  sources-counted count net ends t = omega (arith, fed-count net.sources (kinds_from sigs ends 0 net.places) t.fed, kinds-counted sigs ends 0 net.places t.sized, length-append (sigs []).outputs ends)

  module _ (facts : Facts T S) (step : Stepping T S) (tag : Tag) (keeps : (i : ℕ) → KeepsKinds Has (below sigs i) (Good i) step)
      (early : (i : ℕ) (s : S) (vs : List (Partial T)) → Good i s → AreAllKnownOf Has (sigs (i ∷ [])).places vs → AreKnownOf Has (sigs (i ∷ [])).outputs (facts.early tag s vs))
      (net : Net) (kids : List S) (Stood : (channel : ℕ) → T → Type 0) (inputs : Streams T) (ends : List K) (typed : IsTypedNet {A = A} Has Below Fits sigs (length kids) net ends) (good : AreGood 0 kids) (are : AreOf Has (sigs []).places inputs)
      (stood-of : (c : ℕ) (k : K) (x : T) → Stood c x → get (kinds_from sigs ends 0 net.places) c ≡ Some k → Has k x) where
    abbrev Kinds : List K
    Kinds = kinds_from sigs ends 0 net.places

    -- a child that is there, and good
    abbrev Stands : ℕ → S → Type 0
    Stands i s = (i < length net.places) × Good i s

    done-good : (i : ℕ) (r : Outcome T S) (z : S) (out : Streams T) (l : Log T) → GoodOutcome Has (below sigs i) (Good i) r → r ≡ Done z out l → Good i z × AreOf Has (sigs (i ∷ [])).outputs out
    done-good i r z out l g e = let w = subst (λ o. GoodOutcome Has (below sigs i) (Good i) o) e g in (w.0, w.1)

    -- what may come, be given, taken or known is of its kind
    mutual
      come-typed : (c : ℕ) (x : T) → MayCome facts step tag net kids Stood inputs c x → (k : K) → get Kinds c ≡ Some k → Has k x
      come-typed c x (stood d y h) k e = stood-of c k x h e
      come-typed c x (given d s y a g) k e = widened (kind_of sigs s) k x (fed-at net.sources Kinds c s k typed.fed a e) (give-typed s x g)

      give-typed : (s : Source) (x : T) → MayGive facts step tag net kids Stood inputs s x → IsGiven Has (kind_of sigs s) x
      give-typed s x (arrives port y h) = one-given Has (get (sigs []).places port) (at inputs port) x (at-given Has (sigs []).places inputs port are) h
      give-typed s x (fires i port w z X out l y t e h) =
          let a = take-typed i w X t in
          let d = done-good i (step tag w X) z out l (keeps i tag w X a.0.1 a.1) e in
          one-given Has (get (sigs (i ∷ [])).outputs port) (at out port) x (at-given Has (sigs (i ∷ [])).outputs out port d.1) h
      give-typed s x (tells i port w vs xs y t e h) =
          let a = know-typed i w vs t in
          known-given Has (sigs (i ∷ [])).outputs (facts.early tag w vs) port xs x (early i w vs a.0.1 a.1) e h

      stand-typed : (i : ℕ) (s : S) → MayStand facts step tag net kids Stood inputs i s → Stands i s
      stand-typed i s (begins j w e) =
          let l = get-within kids i s e in
          let z : 0 + i ≡ i = omega arith in
          (omega (arith, l, typed.places_counted), subst (λ m. Good m s) z (good-at 0 i kids s good e))
      stand-typed i s (goes_on j w z X out l t e) =
          let a = take-typed i w X t in
          (a.0.0, (done-good i (step tag w X) s out l (keeps i tag w X a.0.1 a.1) e).0)

      take-typed : (i : ℕ) (s : S) (X : Streams T) → MayTake facts step tag net kids Stood inputs i s X → Stands i s × AreAllOf Has (sigs (i ∷ [])).places X
      take-typed i s X (takes j w Y m long come) =
          let a = stand-typed i s m in
          let z : 0 + i ≡ i = omega arith in
          let count : length X ≡ length (sigs (i ∷ [])).places = long ∙ sized-at sigs ends 0 i net.places typed.sized a.0 ∙ ap (λ v. length (sigs (v ∷ [])).places) z in (
            a,
            (
              count,
              each-of Has (sigs (i ∷ [])).places X (omega (arith, count)) (λ q k x g h.
                  come-typed (first_channel net.places i + q) x (come q x h) k (kind-of-place sigs ends 0 i q net.places k typed.sized a.0 (subst (λ v. get (sigs (v ∷ [])).places q ≡ Some k) (sym z) g))),
            ),
          )

      know-typed : (i : ℕ) (s : S) (vs : List (Partial T)) → MayKnow facts step tag net kids Stood inputs i s vs → Stands i s × AreAllKnownOf Has (sigs (i ∷ [])).places vs
      know-typed i s vs (knows j w us m long come) =
          let a = stand-typed i s m in
          let z : 0 + i ≡ i = omega arith in
          let count : length vs ≡ length (sigs (i ∷ [])).places = long ∙ sized-at sigs ends 0 i net.places typed.sized a.0 ∙ ap (λ v. length (sigs (v ∷ [])).places) z in (
            a,
            (
              count,
              each-known Has (sigs (i ∷ [])).places vs (omega (arith, count)) (λ q k xs x g e h.
                  come-typed (first_channel net.places i + q) x (come q xs x e h) k (kind-of-place sigs ends 0 i q net.places k typed.sized a.0 (subst (λ v. get (sigs (v ∷ [])).places q ≡ Some k) (sym z) g))),
            ),
          )

    -- what a child may log keeps to its signatures
    log-typed : (i : ℕ) (p : Path) (e : Event T) → MayLog facts step tag net kids Stood inputs i p e → IsTypedEvent Has (sigs (i ∷ p)) e
    log-typed i p e m =
        let a = take-typed i m.0 m.1 m.2 in
        all-has (IsTypedEvent Has (sigs (i ∷ p))) e (log_in (recorded (facts.made m.0) tag m.1 (step tag m.0 m.1)) p)
        (recorded-typed Has (below sigs i) (Good i) (facts.made m.0) tag m.1 a.1 (step tag m.0 m.1) (keeps i tag m.0 m.1 a.0.1 a.1) p) m.3

    meeting-typed : (s : Signature K) (e : Event T) → IsMeeting e → IsTypedEvent Has s e
    meeting-typed s (Finished within f) m = absurd m
    meeting-typed s (Met within i n) m = tt

    module _ {H : Type 0} (After : H → (channel : ℕ) → T → Type 0) (IsKept : H → Type 0) where
      pub logs-typed : (outputs : ℕ) (r : Outcome T (Inside H S)) → OnlyMoves facts step tag net kids Stood inputs After IsKept outputs r → IsTypedLog Has sigs (log_in r)
      logs-typed outputs r m [] = all-of-has (IsTypedEvent Has (sigs [])) (log_in r []) (λ e h. meeting-typed (sigs []) e (m.quiet e h))
      logs-typed outputs r m (i ∷ p) = all-of-has (IsTypedEvent Has (sigs (i ∷ p))) (log_in r (i ∷ p)) (λ e h. log-typed i p e (m.logged i p e h))

      -- after the firing there are as many good children, channels are left with tokens of their kinds, and so are those that the own outputs give
      pub record GoodInside (x : Inside H S) (out : Streams T) : Type 0 where
        pub kids_counted : length x.kids ≡ length kids
        pub kids_good : AreGood 0 x.kids
        pub kept : IsKept x.held
        pub left_of : (c : ℕ) (k : K) (y : T) → After x.held c y → get Kinds c ≡ Some k → Has k y
        pub gave_of : AreOf Has (sigs []).outputs out

      pub inside-typed : (outputs : ℕ) → outputs ≤ length (sigs []).outputs → (x : Inside H S) (out : Streams T) → MovedTo facts step tag net kids Stood inputs After IsKept outputs x out → GoodInside x out
      inside-typed outputs few x out m = record {
        kids_counted = m.kids_counted;
        kids_good = each-good 0 x.kids (λ j s e. let z : j ≡ 0 + j = omega arith in subst (λ v. Good v s) z (stand-typed j s (m.stand j s e)).1);
        kept = m.kept;
        left_of = λ c k y h e. come-typed c y (m.left c y h) k e;
        gave_of = each-of Has (sigs []).outputs out (omega (arith, m.outputs_counted, few)) (λ port k y e h. come-typed (total net.places + port) y (m.gave port y h) k (kind-of-output sigs ends 0 port net.places k typed.sized e));
      }
