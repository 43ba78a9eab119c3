-- A firing of SDF or PN, by rounds, only moves tokens.
use Rattle.std.proofs.Common.{◌≡◌, ℕ, zero, suc, ◌+◌, ◌≤◌, List, [], ◌∷◌, ◌++◌, Bool, true, false, ◌&&◌, length, drop, refl, sym, ap, subst, arith, ◌∙◌, length-append, length-drop}
use Rattle.pt_meaning.specs.Basics.{Tag, Streams, at, log_below}
use Rattle.pt_meaning.specs.Machine.{Fault, Stepping, Facts}
use Rattle.pt_meaning.specs.Flow.{Flow}
use Rattle.pt_meaning.specs.Net.{Source, Net, Inside}
use Rattle.pt_meaning.specs.Running.{total}
use Rattle.pt_meaning.specs.Rounds.{Limit, refill, flows, round}
use Rattle.pt_meaning.specs.Kahn.{Leaving, arrived, faults_of, logs_of, states_of, left_by, skip_places, firsts, behind, lengths, if_settled, settled, kahn}
use Rattle.pt_meaning.specs.Closed.{Has}
use Rattle.pt_kinds.specs.Directors.{KeepsChannels}
use Rattle.pt_kinds.specs.Moves.{On, MayCome, stood, MovedTo, OnlyMoves}
use Rattle.pt_kinds.proofs.MemberLaws.{at-skip, in-firsts, in-behind, behind-length}
use Rattle.pt_kinds.proofs.TurnMoves.{begin-all}
use Rattle.pt_kinds.proofs.FlowMoves.{FlowsMay, flows-may, AreComing, states-may, states-counted, logs-may, left-may, left-length, all-stand, all-sources, arrived-may, refill-may}

pub skip-length : {A : Type 0} (ns : List ℕ) (X : List A) → total ns ≤ length X → total ns + length (skip_places ns X) ≡ length X
skip-length [] X r = omega arith
skip-length (n ∷ ns) X r = let e = skip-length ns (drop n X) (omega (arith, r, length-drop n X)) in omega (arith, e, r, length-drop n X)

pub arrived-length : {T : Type 0} (cs : List Source) (inputs X : Streams T) → length (arrived cs inputs X) ≡ length X
arrived-length [] inputs X = refl
arrived-length (c ∷ cs) inputs [] = refl
arrived-length (c ∷ cs) inputs (xs ∷ X) = ap (λ v. suc v) (arrived-length cs inputs X)

refill-length : {T S : Type 0} (fs : List (Flow T S)) (cs : List Source) (X : Streams T) → length (refill fs cs X) ≡ length X
refill-length fs [] X = refl
refill-length fs (c ∷ cs) [] = refl
refill-length fs (c ∷ cs) (xs ∷ X) = ap (λ v. suc v) (refill-length fs cs X)

module _ {T S : Type 0} (facts : Facts T S) (step : Stepping T S) (tag : Tag) (net : Net) (kids : List S) (held inputs : Streams T) where
  all-stood : AreComing facts step tag net kids (On held) inputs 0 held
  all-stood q x h = let e : 0 + q ≡ q = omega arith in stood (0 + q) x (subst (λ v. Has x (at held v)) (sym e) h)

  -- what is settled with the log of the children
  settled-moves : (b : Bool) (outputs : ℕ) (x : Inside (Streams T) S) (out : Streams T) (fs : List (Flow T S)) (faults : List Fault) → FlowsMay facts step tag net kids (On held) inputs 0 net.places fs → MovedTo facts step tag net kids (On held) inputs On (KeepsChannels net held) outputs x out →
      OnlyMoves facts step tag net kids (On held) inputs On (KeepsChannels net held) outputs (if_settled b x out (log_below (logs_of fs)) faults)
  settled-moves true outputs x out fs faults g m = record { quiet = λ e h. absurd h; logged = λ i p e h. logs-may facts step tag net kids (On held) inputs 0 i i p e net.places fs (omega arith) g h; done = m }
  settled-moves false outputs x out fs faults g m = record { quiet = λ e h. absurd h; logged = λ i p e h. logs-may facts step tag net kids (On held) inputs 0 i i p e net.places fs (omega arith) g h; done = tt }

  module _ (limits : List Limit) (limited : length limits ≡ length net.places) (counted : length kids ≡ length net.places) (room : total net.places ≤ length held) where
    -- the channels with what has arrived
    abbrev X : Streams T
    X = arrived net.sources inputs held

    X-comes : AreComing facts step tag net kids (On held) inputs 0 X
    X-comes = arrived-may facts step tag net kids (On held) inputs 0 net.sources held (all-sources facts step tag net kids (On held) inputs) all-stood

    round-length : (k : ℕ) → length (round facts step tag net limits kids X k) ≡ length held
    unfolding round
    round-length zero = arrived-length net.sources inputs held
    round-length (suc k) = refill-length (flows facts step tag net.places limits (suc k) kids (round facts step tag net limits kids X k)) net.sources X ∙ arrived-length net.sources inputs held

    flows-of : (j k : ℕ) → AreComing facts step tag net kids (On held) inputs 0 (round facts step tag net limits kids X k) → FlowsMay facts step tag net kids (On held) inputs 0 net.places (flows facts step tag net.places limits j kids (round facts step tag net limits kids X k))
    flows-of j k a =
        flows-may facts step tag net kids (On held) inputs 0 0 net.places limits j kids (round facts step tag net limits kids X k) (begin-all facts step tag net kids (On held) inputs) limited counted (all-stand facts step tag net kids (On held) inputs) (omega (arith, room, round-length k)) a

    round-comes : (k : ℕ) → AreComing facts step tag net kids (On held) inputs 0 (round facts step tag net limits kids X k)
    unfolding round
    round-comes zero = X-comes
    round-comes (suc k) = refill-may facts step tag net kids (On held) inputs (flows facts step tag net.places limits (suc k) kids (round facts step tag net limits kids X k)) (flows-of (suc k) k (round-comes k)) 0 net.sources X (all-sources facts step tag net kids (On held) inputs) X-comes

    -- what is behind the places of the children
    behind-places : (Y : Streams T) → AreComing facts step tag net kids (On held) inputs 0 Y → AreComing facts step tag net kids (On held) inputs (total net.places) (skip_places net.places Y)
    behind-places Y a q x h =
        let e : 0 + (total net.places + q) ≡ total net.places + q = omega arith in
        subst (λ c. MayCome facts step tag net kids (On held) inputs c x) e (a (total net.places + q) x (subst (λ xs. Has x xs) (at-skip net.places Y q) h))

    pub kahn-moves : (enough : List (Flow T S) → Bool) (leaving : Leaving) (outputs : ℕ) → ((Y : Streams T) → length Y ≡ length held → length (firsts (leaving.given (lengths (skip_places net.places Y))) (skip_places net.places Y)) ≤ outputs) → (k : ℕ) →
        OnlyMoves facts step tag net kids (On held) inputs On (KeepsChannels net held) outputs (kahn facts step tag net limits enough leaving kids X k)
    unfolding kahn
    kahn-moves enough leaving outputs given k =
        let Y = round facts step tag net limits kids X k in
        let Z = skip_places net.places Y in
        let fs = flows facts step tag net.places limits k kids Y in
        let g = flows-of k k (round-comes k) in
        let ends : AreComing facts step tag net kids (On held) inputs (total net.places) Z = behind-places Y (round-comes k) in
        let gone = leaving.gone (lengths Z) in
        let kept : AreComing facts step tag net kids (On held) inputs (0 + total net.places) (behind gone Z) =
        λ q x h. let e : total net.places + q ≡ (0 + total net.places) + q = omega arith in subst (λ c. MayCome facts step tag net kids (On held) inputs c x) e (ends q x (in-behind gone Z q x h)) in
        let lefts = left-may facts step tag net kids (On held) inputs 0 0 net.places fs (behind gone Z) (begin-all facts step tag net kids (On held) inputs) g kept in
        let long = left-length facts step tag net kids (On held) inputs 0 0 net.places fs (begin-all facts step tag net kids (On held) inputs) g in
        settled-moves (settled facts step tag net limits kids X k && enough fs) outputs (record { held = left_by fs ++ behind gone Z; kids = states_of fs }) (firsts (leaving.given (lengths Z)) Z) fs (faults_of 0 fs) g
        record {
          kids_counted = states-counted facts step tag net kids (On held) inputs 0 net.places fs g ∙ sym counted;
          stand = λ i s h. states-may facts step tag net kids (On held) inputs 0 i i s net.places fs (omega arith) g h;
          kept = (
            omega (arith, length-append (left_by fs) (behind gone Z), long, behind-length gone Z, skip-length net.places Y (omega (arith, room, round-length k)), round-length k),
            λ r. omega (arith, length-append (left_by fs) (behind gone Z), long),
          );
          left = λ q x h. let e : 0 + q ≡ q = omega arith in subst (λ c. MayCome facts step tag net kids (On held) inputs c x) e (lefts q x h);
          outputs_counted = given Y (round-length k);
          gave = λ port x h. ends port x (in-firsts (leaving.given (lengths Z)) Z port x h);
        }
