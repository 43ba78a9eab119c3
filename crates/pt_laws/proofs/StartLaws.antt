-- A model at its start is one that a run begins with.
use Rattle.std.proofs.Common.{◌≡◌, ℕ, zero, suc, ◌<◌, List, [], ◌∷◌, ◌++◌, length, Option, Some, None, refl, sym, ap, ap₂, subst, arith, ◌∙◌, ◌⊎◌, inl, inr, ◌≤◌}
use Rattle.std.proofs.Math.Path.{fun_ext}
use Rattle.pt_meaning.specs.Basics.{at}
use Rattle.pt_meaning.specs.Modal.{get}
use Rattle.pt_meaning.specs.Rounds.{Source, Own, Output}
use Rattle.pt_meaning.specs.Rendezvous.{no_tokens, none_gathered, none_to_put, first_places, RvPlan}
use Rattle.pt_meaning.specs.Places.{tokens_on}
use Rattle.pt_meaning.specs.Node.{Rows, Core, Sdf, Pn, Sr, De, Rv, Modal, Node, Nodes, Actor, Composite, none, more, list_of}
use Rattle.pt_meaning.specs.Start as start
use Rattle.pt_meaning.specs.Start.{first_held}
use Rattle.pt_laws.specs.Channels.{channel_at}
use Rattle.pt_laws.specs.SoundRuns.{got_by, waiting_in, on_its_way, count_at, HasRooms, IsWired}
use Rattle.pt_laws.specs.ClosedRuns.{IsFirst, IsAtStart, AllAtStart}
use Rattle.pt_laws.specs.StartedRuns.{IsThere, AllThere, IsPlanned, ArePlans, AllPlans, StartedLogsAreClosed, StartedLogsAreShut}
use Rattle.pt_meaning.specs.Log.{Log, LogBelow}
use Rattle.pt_meaning.specs.Closed.{UnderWay, IsClosedRun}
use Rattle.pt_meaning.specs.Job.{Standing, Goes, Ended, Halted, after, begin, log_of, meaning}
use Rattle.pt_laws.specs.Promises.{StandsOn}
use Rattle.pt_laws.proofs.Order.{IsPrefix-refl, IsPrefix-antisym}
use Rattle.pt_laws.proofs.MeaningLaws.{meaning_grows}
use Rattle.pt_laws.proofs.OutcomeLaws.{either-order}
use Rattle.pt_laws.proofs.WholeMeaning.{logs-are-closed}

held-long : {T A : Type 0} (rows : Rows T A) (kids : List (Node T A)) (cs : List Source) → length (first_held rows kids cs) ≡ length cs
held-long rows kids [] = refl
held-long rows kids (c ∷ cs) = ap (λ n. suc n) (held-long rows kids cs)

tokens-long : (T : Type 0) (n : ℕ) → length (no_tokens {T = T} n) ≡ n
tokens-long T zero = refl
tokens-long T (suc n) = ap (λ m. suc m) (tokens-long T n)

no-token : {T : Type 0} (n q : ℕ) → at (no_tokens {T = T} n) q ≡ []
no-token zero q = refl
no-token (suc n) zero = refl
no-token {T} (suc n) (suc q) = no-token {T = T} n q

gathered-long : (T : Type 0) (ns : List ℕ) (i : ℕ) → length (got_by (none_gathered {T = T} ns) i) ≡ count_at ns i
gathered-long T [] i = refl
gathered-long T (n ∷ ns) zero = tokens-long T n
gathered-long T (n ∷ ns) (suc i) = gathered-long T ns i

none-there : {T : Type 0} (ns : List ℕ) (i q : ℕ) → at (got_by (none_gathered {T = T} ns) i) q ≡ []
none-there [] i q = refl
none-there {T} (n ∷ ns) zero q = no-token {T = T} n q
none-there {T} (n ∷ ns) (suc i) q = none-there {T = T} ns i q

puts-long : (T : Type 0) (ns : List ℕ) → length (none_to_put {T = T} ns) ≡ length ns
puts-long T [] = refl
puts-long T (n ∷ ns) = ap (λ m. suc m) (puts-long T ns)

no-put : {T : Type 0} (ns : List ℕ) (i : ℕ) → at (none_to_put {T = T} ns) i ≡ []
no-put [] i = refl
no-put (n ∷ ns) zero = refl
no-put {T} (n ∷ ns) (suc i) = no-put {T = T} ns i

-- under Rendezvous nothing is on its way
first-way : {T : Type 0} (p : RvPlan) (i q : ℕ) (o : Option ℕ) → on_its_way p.net (first_places {T = T} p) i q o ≡ []
first-way p i q None = refl
first-way {T} p i q (Some c) = ap₂ (λ a b. a ++ b) (none-there {T = T} p.net.places i q) (none-waits (get p.net.sources c))
  where
    none-waits : (s : Option Source) → tokens_on c (waiting_in (first_places {T = T} p) s) ≡ []
    none-waits None = refl
    none-waits (Some (Own j)) = ap (λ us. tokens_on c us) (no-put {T = T} p.takes j)
    none-waits (Some (Output j port)) = ap (λ us. tokens_on c us) (no-put {T = T} p.net.places j)

-- a channel of a whole net begins at what is there
its-there : (inputs children : ℕ) (cs : List Source) (c : ℕ) (s : Source) → AllThere inputs children cs → get cs c ≡ Some s → IsThere inputs children s
its-there inputs children [] c s g e = absurd (cc)
its-there inputs children (d ∷ cs) zero s g e = let same : d ≡ s = cc in subst (λ v. IsThere inputs children v) same g.0
its-there inputs children (d ∷ cs) (suc c) s g e = its-there inputs children cs c s g.1 e

first-core : {T A : Type 0} (rows : Rows T A) (kids : List (Node T A)) (c : Core T) → IsPlanned c → start.IsFirstCore rows kids c → IsFirst c
first-core rows kids (Sdf p X) g f = (subst (λ v. IsWired (Sdf p v)) (sym f) (let a = held-long rows kids p.net.sources in omega (arith, a, g)), λ i q. refl)
first-core rows kids (Pn p X) g f = (subst (λ v. IsWired (Pn p v)) (sym f) (let a = held-long rows kids p.net.sources in omega (arith, a, g.channels)), λ i q. refl)
first-core rows kids (Sr p) g f = (tt, λ i q. refl)
first-core rows kids (De p) g f = (tt, λ i q. refl)
first-core {T} rows kids (Rv p X) g f = (
  subst (λ v. HasRooms p.net v) (sym f) (record { gathers = λ i. gathered-long T p.net.places i; sends = λ c j e. subst (λ v. j < v) (sym (puts-long T p.takes)) (its-there (length p.takes) (length p.net.places) p.net.sources c (Own j) g.there e) }),
  λ i q. ap (λ v. on_its_way p.net v i q (channel_at p.net.places i q)) f ∙ first-way {T = T} p i q (channel_at p.net.places i q),
)
first-core rows kids (Modal chart m) g f = (tt, λ i q. refl)

mutual
  pub first-node : {T A : Type 0} (rows : Rows T A) (n : Node T A) → ArePlans n → start.IsAtStart rows n → IsAtStart n
  first-node rows (Actor h a b) g s = (ap (λ v. v.made) s.0, s.1)
  first-node rows (Composite h c d kids) g s = (ap (λ v. v.made) s.0, s.1, first-core rows (list_of kids) c g.0 s.2, first-nodes rows kids g.1 s.3)

  first-nodes : {T A : Type 0} (rows : Rows T A) (ns : Nodes T A) → AllPlans ns → start.AllAtStart rows ns → AllAtStart ns
  first-nodes rows none g s = tt
  first-nodes rows (more n ns) g s = (first-node rows n g.0 s.0, first-nodes rows ns g.1 s.1)

pub started-logs-are-closed : {T A : Type 0} → StartedLogsAreClosed T A
started-logs-are-closed rows law m plan top f g s k = logs-are-closed rows law m plan top f (first-node rows top g s) k

-- a run at a greater fuel has at least the log of one before
stands-below : {T A : Type 0} (s t : Standing T A) → StandsOn s t → LogBelow (log_of s) (log_of t)
stands-below (Goes c) t h = h
stands-below {T} {A} (Ended e c) t h = subst (λ (v : Standing T A). LogBelow c.log (log_of v)) (sym h) (λ p. IsPrefix-refl (c.log p))
stands-below (Halted fs l) (Halted gs n) h = h.1
stands-below (Halted [] l) (Goes c) h = h
stands-below (Halted [] l) (Ended e c) h = h
stands-below (Halted (f ∷ fs) l) (Goes c) h = absurd h
stands-below (Halted (f ∷ fs) l) (Ended e c) h = absurd h

pub started-logs-are-shut : {T A : Type 0} → StartedLogsAreShut T A
started-logs-are-shut {T} {A} rows law m plan top f g s fuel = (closed.0, λ k below. go k below (either-order fuel k))
  where
    closed : (way : UnderWay T) × ((k : ℕ) → fuel ≤ k → IsClosedRun rows m plan top (meaning k rows m plan top) (meaning fuel rows m plan top) way)
    closed = started-logs-are-closed rows law m plan top f g s fuel

    go : (k : ℕ) → LogBelow (meaning fuel rows m plan top) (meaning k rows m plan top) → (fuel ≤ k) ⊎ (k ≤ fuel) → IsClosedRun rows m plan top (meaning k rows m plan top) (meaning fuel rows m plan top) closed.0
    go k below (inl o) = closed.1 k o
    go k below (inr o) =
        let other = stands-below (after k rows m plan k (begin top)) (after fuel rows m plan fuel (begin top)) (meaning_grows rows law m plan top k fuel o) in
        let same : meaning fuel rows m plan top ≡ meaning k rows m plan top = fun_ext (λ p. IsPrefix-antisym (meaning fuel rows m plan top p) (meaning k rows m plan top p) (below p) (other p)) in
        subst (λ (l : Log T). IsClosedRun rows m plan top l (meaning fuel rows m plan top) closed.0) same (closed.1 fuel (omega arith))
