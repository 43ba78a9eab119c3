-- What comes of a firing of a child, and of what a director makes of it.
use Rattle.std.proofs.Common.{◌≡◌, ℕ, suc, ◌+◌, List, ◌∷◌, refl, sym, ap, subst, arith, ◌∙◌}
use Rattle.pt_meaning.specs.Basics.{Tag, Streams, at, Log, Path, Event, own}
use Rattle.pt_meaning.specs.Machine.{Outcome, Done, Stuck, Stepping, Facts, recorded}
use Rattle.pt_meaning.specs.Net.{Output, Net}
use Rattle.pt_meaning.specs.Closed.{Has, first_channel}
use Rattle.pt_laws.specs.LogsOfRuns.{log_in}
use Rattle.pt_laws.specs.SoundRuns.{count_at}
use Rattle.pt_kinds.specs.Moves.{MayGive, fires, MayStand, goes_on, MayTake, takes, MayLog}
use Rattle.pt_kinds.proofs.MemberLaws.{has-left}

module _ {T S : Type 0} where
  -- the outcome is the first one, or is stuck in its place with its log
  abbrev pub IsOrStops : Outcome T S → Outcome T S → Type 0
  IsOrStops r (Done z out l) = r ≡ Done z out l
  IsOrStops r (Stuck fs l) = log_in r ≡ l

  pub is-itself : (r : Outcome T S) → IsOrStops r r
  is-itself (Done z out l) = refl
  is-itself (Stuck fs l) = refl

module _ {T S : Type 0} (facts : Facts T S) (step : Stepping T S) (tag : Tag) (net : Net) (kids : List S) (Stands : (channel : ℕ) → T → Type 0) (inputs : Streams T) where
  -- it gives what its child may give, leaves it as it may stand, and logs what it may log
  abbrev pub MayEnd : (child : ℕ) → Outcome T S → Type 0
  MayEnd i (Done z out l) = MayStand facts step tag net kids Stands inputs i z × ((port : ℕ) (x : T) → Has x (at out port) → MayGive facts step tag net kids Stands inputs (Output i port) x) × ((p : Path) (e : Event T) → Has e (l p) → MayLog facts step tag net kids Stands inputs i p e)
  MayEnd i (Stuck fs l) = (p : Path) (e : Event T) → Has e (l p) → MayLog facts step tag net kids Stands inputs i p e

  pub state-of : (i : ℕ) (s : S) (X : Streams T) → MayTake facts step tag net kids Stands inputs i s X → MayStand facts step tag net kids Stands inputs i s
  state-of i s X (takes j z Y stands long come) = stands

  recorded-has : (n : ℕ) (X : Streams T) (r : Outcome T S) (p : Path) (e : Event T) → Has e (log_in r p) → Has e (log_in (recorded n tag X r) p)
  recorded-has n X (Done z out l) p e h = has-left e (l p) (own (record { number = n; tag = tag; inputs = X; outputs = out }) p) h
  recorded-has n X (Stuck fs l) p e h = h

  -- so does a firing of it with its record, where it isn't stopped
  pub turn-may : (i : ℕ) (s : S) (X : Streams T) → MayTake facts step tag net kids Stands inputs i s X → (r : Outcome T S) → IsOrStops (step tag s X) r → MayEnd i (recorded (facts.made s) tag X r)
  turn-may i s X t (Done z out l) k = (
    goes_on i s z X out l t k,
    λ port x h. fires i port s z X out l x t k h,
    λ p e h. (s, X, t, subst (λ r. Has e (log_in (recorded (facts.made s) tag X r) p)) (sym k) h),
  )
  turn-may i s X t (Stuck fs l) k = λ p e h. (s, X, t, recorded-has (facts.made s) X (step tag s X) p e (subst (λ (m : Log T). Has e (m p)) (sym k) h))

  -- ---- where the channels of child i and of those behind it are

  -- the children from child i on have these numbers of places, and the first of their channels is b
  pub record BeginAt (i b : ℕ) (ns : List ℕ) : Type 0 where
    pub first : (j : ℕ) → first_channel net.places (i + j) ≡ b + first_channel ns j
    pub count : (j : ℕ) → count_at net.places (i + j) ≡ count_at ns j

  pub begin-all : BeginAt 0 0 net.places
  begin-all = record {
    first = λ j. let a : 0 + j ≡ j = omega arith in ap (λ v. first_channel net.places v) a ∙ (let b : first_channel net.places j ≡ 0 + first_channel net.places j = omega arith in b);
    count = λ j. let a : 0 + j ≡ j = omega arith in ap (λ v. count_at net.places v) a;
  }

  pub begin-next : (i b n : ℕ) (ns : List ℕ) → BeginAt i b (n ∷ ns) → BeginAt (suc i) (b + n) ns
  begin-next i b n ns a = record {
    first = λ j. let e : suc i + j ≡ i + suc j = omega arith in ap (λ v. first_channel net.places v) e ∙ a.first (suc j) ∙ (let c : b + (n + first_channel ns j) ≡ (b + n) + first_channel ns j = omega arith in c);
    count = λ j. let e : suc i + j ≡ i + suc j = omega arith in ap (λ v. count_at net.places v) e ∙ a.count (suc j);
  }

  pub first-is : (i b n : ℕ) (ns : List ℕ) → BeginAt i b (n ∷ ns) → first_channel net.places i ≡ b
  first-is i b n ns a = let e : i ≡ i + 0 = omega arith in ap (λ v. first_channel net.places v) e ∙ a.first 0 ∙ (let c : b + 0 ≡ b = omega arith in c)

  pub count-is : (i b n : ℕ) (ns : List ℕ) → BeginAt i b (n ∷ ns) → count_at net.places i ≡ n
  count-is i b n ns a = let e : i ≡ i + 0 = omega arith in ap (λ v. count_at net.places v) e ∙ a.count 0
