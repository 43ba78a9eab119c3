-- The rows of the library are lawful: early answers grow with what is known, and are kept by the step and at rest.
use Rattle.std.proofs.Common.{◌≡◌, ℕ, zero, suc, List, [], ◌∷◌, length, Bool, true, false, ◌||◌, Option, Some, None, refl, sym, ap, subst, ◌∙◌}
use Rattle.pt_meaning.specs.Tag.{Tag, is_due}
use Rattle.pt_meaning.specs.Streams.{Streams, at, any_present}
use Rattle.pt_meaning.specs.Machine.{Partial, Unknown, Known, partial_at}
use Rattle.pt_meaning.specs.Valuation.{known, known_then}
use Rattle.pt_meaning.specs.Node.{Answer, Gives, Fails}
use Rattle.pt_meaning.specs.Laws.{PartialBelow, KnownBelow}
use Rattle.pt_meaning.specs.Lawful.{LawfulRows}
use Rattle.pt_value.specs.declared.token.Token.{Token}
use Rattle.pt_firing.specs.Strict.{once_known}
use Rattle.pt_firing.proofs.StrictLaws.{strict-grows, strict-agrees}
use Rattle.pt_lib_timed.specs.declared.timed_actor.TimedActor.{TimedActor}
use Rattle.pt_lib_timed.specs.declared.timed_actor.TimedActor.TheVariants.{CurrentTime, DiscreteClock, Register, Sampler, Server, SingleEvent, TimeDelay}
use Rattle.pt_lib_timed.specs.Pending.{Event, due, wake, arriving, given_then, held_in, later_of, last_tag}
use Rattle.pt_lib_timed.specs.CurrentTime as current_time
use Rattle.pt_lib_timed.specs.DiscreteClock as discrete_clock
use Rattle.pt_lib_timed.specs.Register as register
use Rattle.pt_lib_timed.specs.Sampler as sampler
use Rattle.pt_lib_timed.specs.Server as server
use Rattle.pt_lib_timed.specs.SingleEvent as single_event
use Rattle.pt_lib_timed.specs.TimeDelay as time_delay
use Rattle.pt_lib_timed.specs.TimedActor.{rows, held_as, whole, step, early}
use Rattle.pt_lib_timed.specs.Laws.{StrictActorsWait}
use Rattle.pt_lib_timed.proofs.PendingLaws.{asleep}

-- ---- signals

below-same : {T : Type 0} (v : Partial T) → PartialBelow v v
below-same Unknown = tt
below-same (Known xs) = refl

-- place by place
below-at : {T : Type 0} (vs ws : List (Partial T)) (n : ℕ) → KnownBelow vs ws → PartialBelow (partial_at vs n) (partial_at ws n)
below-at [] ws n b = tt
below-at (v ∷ vs) [] n b = absurd b
below-at (v ∷ vs) (w ∷ ws) zero (b, bs) = b
below-at (v ∷ vs) (w ∷ ws) (suc n) (b, bs) = below-at vs ws n bs

-- one output alone
below-first : {T : Type 0} (v w : Partial T) (p : ℕ) → PartialBelow v w → PartialBelow (partial_at (v ∷ []) p) (partial_at (w ∷ []) p)
below-first v w zero b = b
below-first v w (suc p) b = tt

below-out : {T : Type 0} (v : Partial T) (xs : List T) (p : ℕ) → PartialBelow v (Known xs) → PartialBelow (partial_at (v ∷ []) p) (Known (at (xs ∷ []) p))
below-out v xs zero b = b
below-out v xs (suc p) b = tt

below-none : {T : Type 0} (v : Partial T) (p : ℕ) → PartialBelow v (Known []) → PartialBelow (partial_at (v ∷ []) p) (Known [])
below-none v zero b = b
below-none v (suc p) b = tt

-- where all places are known, a place has what comes there, or there is no such place
module _ {T : Type 0} where
  known-place : (vs : List (Partial T)) (X : Streams T) (n : ℕ) → known vs ≡ Some X → PartialBelow (partial_at vs n) (Known (at X n))
  known-place [] X n e = tt
  known-place (v ∷ vs) X n e = by_place v (known vs) refl e n (known-place vs)
    where
      by_place : (w : Partial T) (o : Option (Streams T)) → known vs ≡ o → known_then w o ≡ Some X → (m : ℕ) → ((Y : Streams T) (l : ℕ) → known vs ≡ Some Y → PartialBelow (partial_at vs l) (Known (at Y l))) → PartialBelow (partial_at (w ∷ vs) m) (Known (at X m))
      by_place w None k h m more = cc
      by_place Unknown (Some Y) k h m more = cc
      by_place (Known xs) (Some Y) k h zero more = let same : xs ∷ Y ≡ X = cc in ap (λ Z. Known (at Z 0)) (sym same)
      by_place (Known xs) (Some Y) k h (suc m) more = let same : xs ∷ Y ≡ X = cc in subst (λ Z. PartialBelow (partial_at vs m) (Known (at Z (suc m)))) same (more Y m k)

-- ---- early answers grow

trigger-grows : (given : Option Token) (v w : Partial Token) → PartialBelow v w → PartialBelow (register.by_trigger given v) (register.by_trigger given w)
trigger-grows given Unknown w b = tt
trigger-grows given (Known xs) w b = ap (λ u. register.by_trigger given u) b

grows : (tag : Tag) (a : TimedActor) (vs ws : List (Partial Token)) → KnownBelow vs ws → (p : ℕ) → PartialBelow (partial_at (early tag a vs) p) (partial_at (early tag a ws) p)
grows tag (CurrentTime a) vs ws b p = strict-grows 1 current_time.step tag a vs ws b p
grows tag (DiscreteClock a) vs ws b p = strict-grows 1 discrete_clock.step tag a vs ws b p
grows tag (Register a) vs ws b p = below-first (register.by_trigger (register.given tag a) (partial_at vs 1)) (register.by_trigger (register.given tag a) (partial_at ws 1)) p (trigger-grows (register.given tag a) (partial_at vs 1) (partial_at ws 1) (below-at vs ws 1 b))
grows tag (Sampler a) vs ws b p = strict-grows 1 sampler.step tag a vs ws b p
grows tag (Server a) vs ws b p = below-same (partial_at (Known (due tag a.pending) ∷ []) p)
grows tag (SingleEvent a) vs ws b p = strict-grows 1 single_event.step tag a vs ws b p
grows tag (TimeDelay a) vs ws b p = below-same (partial_at (Known (due tag a.pending) ∷ []) p)

-- ---- and are kept by the step

-- the answer of an actor that is held as a variant gives what its own does
held-out : {S : Type 0} (wrap : S → TimedActor) (r : Answer Token S) (b : TimedActor) (out : Streams Token) → held_as wrap r ≡ Gives b out → (s : S) × (r ≡ Gives s out)
held-out wrap (Gives s given) b out e = let same : given ≡ out = cc in (s, ap (λ o. Gives s o) same)
held-out wrap (Fails code) b out e = cc

given-out : {A : Type 0} (wrap : List Event → A) (tag : Tag) (pending : List Event) (o : Option (List Event)) (s : A) (out : Streams Token) → held_in wrap (given_then tag pending o) ≡ Gives s out → due tag pending ∷ [] ≡ out
given-out wrap tag pending None s out e = cc
given-out wrap tag pending (Some es) s out e = cc

trigger-right : (given : Option Token) (v : Partial Token) (ts : List Token) → PartialBelow v (Known ts) → PartialBelow (register.by_trigger given v) (Known (register.repeated (length ts) given))
trigger-right given Unknown ts b = tt
trigger-right given (Known us) ts b = ap (λ u. register.by_trigger given u) b

agrees : (tag : Tag) (a : TimedActor) (vs : List (Partial Token)) (X : Streams Token) (b : TimedActor) (out : Streams Token) → known vs ≡ Some X → step tag a X ≡ Gives b out → (p : ℕ) → PartialBelow (partial_at (early tag a vs) p) (Known (at out p))
agrees tag (CurrentTime a) vs X b out k e p = let own = held-out CurrentTime (current_time.step tag a X) b out e in strict-agrees 1 current_time.step tag a vs X own.0 out k own.1 p
agrees tag (DiscreteClock a) vs X b out k e p = let own = held-out DiscreteClock (discrete_clock.step tag a X) b out e in strict-agrees 1 discrete_clock.step tag a vs X own.0 out k own.1 p
agrees tag (Register a) vs X b out k e p =
    let same : register.repeated (length (at X 1)) (register.given tag a) ∷ [] ≡ out = cc in
    subst (λ o. PartialBelow (partial_at (early tag (Register a) vs) p) (Known (at o p))) same
    (below-out (register.by_trigger (register.given tag a) (partial_at vs 1)) (register.repeated (length (at X 1)) (register.given tag a)) p (trigger-right (register.given tag a) (partial_at vs 1) (at X 1) (known-place vs X 1 k)))
agrees tag (Sampler a) vs X b out k e p = let own = held-out Sampler (sampler.step tag a X) b out e in strict-agrees 1 sampler.step tag a vs X own.0 out k own.1 p
agrees tag (Server a) vs X b out k e p =
    let own = held-out Server (server.step tag a X) b out e in
    subst (λ o. PartialBelow (partial_at (early tag (Server a) vs) p) (Known (at o p))) (given-out (server.holding a) tag a.pending (arriving true (later_of tag (last_tag a.pending)) a.service (at X 0)) own.0 out own.1) (below-out (Known (due tag a.pending)) (due tag a.pending) p refl)
agrees tag (SingleEvent a) vs X b out k e p = let own = held-out SingleEvent (single_event.step tag a X) b out e in strict-agrees 1 single_event.step tag a vs X own.0 out k own.1 p
agrees tag (TimeDelay a) vs X b out k e p =
    let own = held-out TimeDelay (time_delay.step tag a X) b out e in
    subst (λ o. PartialBelow (partial_at (early tag (TimeDelay a) vs) p) (Known (at o p))) (given-out (time_delay.holding a) tag a.pending (arriving false tag a.delay (at X 0)) own.0 out own.1) (below-out (Known (due tag a.pending)) (due tag a.pending) p refl)

-- ---- and at rest

none-present : {T : Type 0} (X : Streams T) (n : ℕ) → any_present X ≡ false → at X n ≡ []
none-present [] n h = refl
none-present ([] ∷ X) zero h = refl
none-present ([] ∷ X) (suc n) h = none-present X n h
none-present ((x ∷ xs) ∷ X) n h = cc

no-part : (b c : Bool) → (b || c) ≡ false → (b ≡ false) × (c ≡ false)
no-part true c h = cc
no-part false c h = (refl, h)

none-repeated : (given : Option Token) → register.repeated 0 given ≡ []
none-repeated None = refl
none-repeated (Some t) = refl

nothing-due : (tag : Tag) (es : List Event) (p : ℕ) → is_due tag (wake es) ≡ false → PartialBelow (partial_at (Known (due tag es) ∷ []) p) (Known [])
nothing-due tag es p h = below-none (Known (due tag es)) p (ap Known (sym (asleep tag es h)))

rests : (tag : Tag) (a : TimedActor) (vs : List (Partial Token)) (X : Streams Token) → whole a ≡ true → known vs ≡ Some X → (any_present X || is_due tag (rows.next a)) ≡ false → (p : ℕ) → PartialBelow (partial_at (early tag a vs) p) (Known [])
rests tag (CurrentTime a) vs X w k n p = cc
rests tag (DiscreteClock a) vs X w k n p = cc
rests tag (Register a) vs X w k n p =
    let none : at X 1 ≡ [] = none-present X 1 (no-part (any_present X) false n).0 in
    below-none (register.by_trigger (register.given tag a) (partial_at vs 1)) p
    (subst (λ o. PartialBelow (register.by_trigger (register.given tag a) (partial_at vs 1)) (Known o)) (ap (λ ts. register.repeated (length ts) (register.given tag a)) none ∙ none-repeated (register.given tag a))
    (trigger-right (register.given tag a) (partial_at vs 1) (at X 1) (known-place vs X 1 k)))
rests tag (Sampler a) vs X w k n p = cc
rests tag (Server a) vs X w k n p = nothing-due tag a.pending p (no-part (any_present X) (is_due tag (wake a.pending)) n).1
rests tag (SingleEvent a) vs X w k n p = cc
rests tag (TimeDelay a) vs X w k n p = nothing-due tag a.pending p (no-part (any_present X) (is_due tag (wake a.pending)) n).1

pub rows_lawful : LawfulRows rows
rows_lawful = record {
  grows = grows;
  agrees = agrees;
  rests = rests;
  waits = λ a w. refl;
}

pub strict-wait : StrictActorsWait
strict-wait tag (CurrentTime a) vs s k = ap (once_known 1 (current_time.step tag a)) k
strict-wait tag (DiscreteClock a) vs s k = ap (once_known 1 (discrete_clock.step tag a)) k
strict-wait tag (Register a) vs s k = cc
strict-wait tag (Sampler a) vs s k = ap (once_known 1 (sampler.step tag a)) k
strict-wait tag (Server a) vs s k = cc
strict-wait tag (SingleEvent a) vs s k = ap (once_known 1 (single_event.step tag a)) k
strict-wait tag (TimeDelay a) vs s k = cc
