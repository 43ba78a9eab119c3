-- SDF, PN, SR, DE and Rendezvous only move tokens.
use Rattle.std.proofs.Common.{◌≡◌, ℕ, zero, suc, List, [], ◌∷◌, Bool, true, false, length, inl, inr, refl, sym, ap, arith, ◌∙◌}
use Rattle.pt_meaning.specs.Basics.{Tag, Streams, at, Log, Path, Event}
use Rattle.pt_meaning.specs.Machine.{causality_code, Outcome, Done, Stuck, Stepping, Facts, Partial, Known, partial_at, recorded}
use Rattle.pt_meaning.specs.Net.{Net, Output}
use Rattle.pt_meaning.specs.Kahn.{arrived, lengths, skip_places}
use Rattle.pt_meaning.specs.Sdf.{sdf_limits, iterations, fired_all, leaving, times}
use Rattle.pt_meaning.specs.Pn.{pn_limits, always, all_leave}
use Rattle.pt_meaning.specs.Sr.{sr_active, sr_turn, if_single, single_outcome, all_single}
use Rattle.pt_meaning.specs.De.{de_active, if_whole, de_early, heads, tails, rows_from, follows, and_then, by_rows, whole_or_rows, de_turn}
use Rattle.pt_meaning.specs.Closed.{Has}
use Rattle.pt_kinds.specs.Moves.{On, MayGive, MayStand, MayTake, takes, MayLog}
use Rattle.pt_kinds.specs.Directors.{DirectorsOnlyMove}
use Rattle.pt_kinds.proofs.MemberLaws.{has-append, in-joined, firsts-length}
use Rattle.pt_kinds.proofs.TurnMoves.{IsOrStops, is-itself, MayEnd, state-of, turn-may}
use Rattle.pt_kinds.proofs.RoundMoves.{skip-length, kahn-moves}
use Rattle.pt_kinds.proofs.TickMoves.{tick-moves}
use Rattle.pt_kinds.proofs.MeetingMoves.{rv-moves}

-- ---- dataflow

limits-length : (m : ℕ) (qs : List ℕ) (rs : List (List ℕ)) (n : ℕ) → length qs ≡ n → length rs ≡ n → length (sdf_limits m qs rs) ≡ n
limits-length m [] rs n a b = a
limits-length m (q ∷ qs) [] n a b = absurd (omega (arith, a, b))
limits-length m (q ∷ qs) (r ∷ rs) zero a b = absurd (omega (arith, a))
limits-length m (q ∷ qs) (r ∷ rs) (suc n) a b = ap (λ v. suc v) (limits-length m qs rs n (omega (arith, a)) (omega (arith, b)))

pn-limits-length : (ns : List ℕ) → length (pn_limits ns) ≡ length ns
pn-limits-length [] = refl
pn-limits-length (n ∷ ns) = ap (λ v. suc v) (pn-limits-length ns)

times-length : (m : ℕ) (ns : List ℕ) → length (times m ns) ≡ length ns
times-length m [] = refl
times-length m (n ∷ ns) = ap (λ v. suc v) (times-length m ns)

-- ---- ticks

module _ {T S : Type 0} (facts : Facts T S) (step : Stepping T S) where
  if-single-stops : (b : Bool) (n : ℕ) (z : S) (out : Streams T) (l : Log T) → IsOrStops (Done z out l) (if_single b n z out l)
  if-single-stops true n z out l = refl
  if-single-stops false n z out l = refl

  single-stops : (n : ℕ) (r : Outcome T S) → IsOrStops r (single_outcome n r)
  single-stops n (Done z out l) = if-single-stops (all_single out) n z out l
  single-stops n (Stuck fs l) = refl

  whole-early : (b : Bool) (vs : List (Partial T)) (port : ℕ) (xs : List T) → partial_at (if_whole b vs) port ≡ Known xs → partial_at vs port ≡ Known xs
  whole-early true vs port xs e = e
  whole-early false vs port xs e = absurd (cc)

-- rows hold tokens of their lists
in-heads : {T : Type 0} (X : Streams T) (q : ℕ) (x : T) → Has x (at (heads X) q) → Has x (at X q)
in-heads [] q x h = h
in-heads ([] ∷ X) zero x h = h
in-heads ([] ∷ X) (suc q) x h = in-heads X q x h
in-heads ((y ∷ ys) ∷ X) zero x (inl e) = inl e
in-heads ((y ∷ ys) ∷ X) zero x (inr h) = absurd h
in-heads ((y ∷ ys) ∷ X) (suc q) x h = in-heads X q x h

in-tails : {T : Type 0} (X : Streams T) (q : ℕ) (x : T) → Has x (at (tails X) q) → Has x (at X q)
in-tails [] q x h = h
in-tails ([] ∷ X) zero x h = h
in-tails ([] ∷ X) (suc q) x h = in-tails X q x h
in-tails ((y ∷ ys) ∷ X) zero x h = inr h
in-tails ((y ∷ ys) ∷ X) (suc q) x h = in-tails X q x h

heads-length : {T : Type 0} (X : Streams T) → length (heads X) ≡ length X
heads-length [] = refl
heads-length ([] ∷ X) = ap (λ n. suc n) (heads-length X)
heads-length ((x ∷ xs) ∷ X) = ap (λ n. suc n) (heads-length X)

tails-length : {T : Type 0} (X : Streams T) → length (tails X) ≡ length X
tails-length [] = refl
tails-length ([] ∷ X) = ap (λ n. suc n) (tails-length X)
tails-length ((x ∷ xs) ∷ X) = ap (λ n. suc n) (tails-length X)

module _ {T S : Type 0} (facts : Facts T S) (step : Stepping T S) (tag : Tag) (net : Net) (kids : List S) (inputs : Streams T) where
  abbrev Takes : ℕ → S → Streams T → Type 0
  Takes i s X = MayTake facts step tag net kids (On []) inputs i s X

  abbrev Ends : ℕ → Outcome T S → Type 0
  Ends i r = MayEnd facts step tag net kids (On []) inputs i r

  sr-turns : (i : ℕ) (s : S) (X : Streams T) → Takes i s X → Ends i (sr_turn facts step tag s X)
  sr-turns i s X t = turn-may facts step tag net kids (On []) inputs i s X t (single_outcome (facts.made s) (step tag s X)) (single-stops facts step (facts.made s) (step tag s X))

  head-takes : (i : ℕ) (s : S) (X : Streams T) → Takes i s X → Takes i s (heads X)
  head-takes i s X (takes j z Y stands long come) = takes i s (heads X) stands (heads-length X ∙ long) (λ q x h. come q x (in-heads X q x h))

  tail-takes : (i : ℕ) (s z : S) (X : Streams T) → Takes i s X → MayStand facts step tag net kids (On []) inputs i z → Takes i z (tails X)
  tail-takes i s z X (takes j w Y stands long come) m = takes i z (tails X) m (tails-length X ∙ long) (λ q x h. come q x (in-tails X q x h))

  follows-ends : (i : ℕ) (out : Streams T) (l : Log T) (r : Outcome T S) → ((port : ℕ) (x : T) → Has x (at out port) → MayGive facts step tag net kids (On []) inputs (Output i port) x) → ((p : Path) (e : Event T) → Has e (l p) → MayLog facts step tag net kids (On []) inputs i p e) →
      Ends i r → Ends i (follows out l r)
  follows-ends i out l (Done z more m) g n w = (
    w.0,
    λ port x h. elim (in-joined out more port x h) [ inl k ↦ g port x k | inr k ↦ w.1 port x k ],
    λ p e h. elim (has-append e (l p) (m p) h) [ inl k ↦ n p e k | inr k ↦ w.2 p e k ],
  )
  follows-ends i out l (Stuck fs m) g n w = λ p e h. elim (has-append e (l p) (m p) h) [ inl k ↦ n p e k | inr k ↦ w p e k ]

  then-ends : (i : ℕ) (more : S → Outcome T S) (r : Outcome T S) → ((z : S) → MayStand facts step tag net kids (On []) inputs i z → Ends i (more z)) → Ends i r → Ends i (and_then more r)
  then-ends i more (Done z out l) f w = follows-ends i out l (more z) w.1 w.2 (f z w.0)
  then-ends i more (Stuck fs l) f w = w

  rows-end : (i n : ℕ) (s : S) (X : Streams T) → Takes i s X → Ends i (by_rows facts step tag (rows_from n X) s)
  rows-end i zero s X t = (state-of facts step tag net kids (On []) inputs i s X t, λ port x h. absurd h, λ p e h. absurd h)
  rows-end i (suc n) s X t =
      then-ends i (λ z. by_rows facts step tag (rows_from n (tails X)) z) (recorded (facts.made s) tag (heads X) (step tag s (heads X))) (λ z m. rows-end i n z (tails X) (tail-takes i s z X t m))
      (turn-may facts step tag net kids (On []) inputs i s (heads X) (head-takes i s X t) (step tag s (heads X)) (is-itself (step tag s (heads X))))

  de-turns : (i : ℕ) (s : S) (X : Streams T) → Takes i s X → Ends i (de_turn facts step tag s X)
  de-turns i s X t = go (facts.whole s)
    where
      go : (b : Bool) → Ends i (whole_or_rows b facts step tag s X)
      go true = turn-may facts step tag net kids (On []) inputs i s X t (step tag s X) (is-itself (step tag s X))
      go false = rows-end i _ s X t

-- ---- all

pub directors-move : (T S : Type 0) → DirectorsOnlyMove T S
directors-move T S = record {
  sdf_moves = λ facts step p k tag c inputs e r.
      let m = iterations p (arrived p.net.sources inputs c.held) in
      kahn-moves facts step tag p.net c.kids c.held inputs (sdf_limits m p.repetitions p.rates) (limits-length m p.repetitions p.rates (length c.kids) e.1 e.2 ∙ sym e.0) (sym e.0) r
      (fired_all m p.repetitions) (leaving m p) (length p.gives) (λ Y long. omega (arith, (firsts-length (times m p.gives) (skip_places p.net.places Y)).0, times-length m p.gives)) k;
  pn_moves = λ facts step p k tag c inputs e r.
      kahn-moves facts step tag p.net c.kids c.held inputs (pn_limits p.net.places) (pn-limits-length p.net.places) (sym e) r
      always all_leave (length (skip_places p.net.places c.held))
      (λ Y long. omega (arith, (firsts-length (lengths (skip_places p.net.places Y)) (skip_places p.net.places Y)).1, skip-length p.net.places Y (omega (arith, long, r)), skip-length p.net.places c.held r, long)) k;
  sr_moves = λ facts step p k n tag kids inputs e r.
      tick-moves facts step tag p.net kids inputs facts.early sr_active (sr_turn facts step) (λ s vs port xs g. g) (λ i s X t. sr-turns facts step tag p.net kids inputs i s X t) (sym e) r
      (record { path = []; firing = n; code = causality_code } ∷ []) k;
  de_moves = λ facts step p k tag kids inputs e r.
      tick-moves facts step tag p.net kids inputs (de_early facts) (de_active facts) (de_turn facts step) (λ s vs port xs g. whole-early facts step (facts.whole s) (facts.early tag s vs) port xs g)
      (λ i s X t. de-turns facts step tag p.net kids inputs i s X t) (sym e) r [] k;
  rv_moves = λ facts step p k n ms tag X kids inputs b c. rv-moves facts step tag p X kids inputs b c k n ms;
}
