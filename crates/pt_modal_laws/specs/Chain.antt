-- What a chain of calls makes of a reaction: the one that the definitions say.
use Rattle.std.specs.Prelude.{◌≡◌, ◌⊎◌, ℕ, List, [], ◌∷◌, set, Option, Some}
use Rattle.pt_meaning.specs.Tag.{Tag, local}
use Rattle.pt_meaning.specs.Streams.{Streams, get}
use Rattle.pt_meaning.specs.Log.{Log, silent, log_then, own}
use Rattle.pt_meaning.specs.Machine.{Fault, Outcome, Done, Stuck, Stepping, Facts}
use Rattle.pt_meaning.specs.Net.{Inside, prefixed}
use Rattle.pt_meaning.specs.Modal.{Chart, Modes, Nothing, chosen, change_at, lag_of, picked, below_number, modal}
use Rattle.pt_modal_laws.specs.State.{Stage, Idle, Due, Asked, Resets, Over, Closed, Failed, ModalState, in_stage, opened, after_reset, chart_in, begun, after_told}

-- In this stage it is known what the composite's firing of number made comes to, where the children are so and have logged l: it is done with these modes and outputs, and the refinement that is to be reset is so; or it is stuck at the composite itself.
abbrev pub IsKnownIn : {T S : Type 0} → (reset : S → S) → (made : ℕ) → Modes T → Streams T → List S → Log T → Outcome T (Inside (Modes T) S) → Stage → Type 0
IsKnownIn reset made modes out kids l r Idle = ⊥
IsKnownIn reset made modes out kids l r (Due i) = ⊥
IsKnownIn reset made modes out kids l r (Asked i) = ⊥
IsKnownIn reset made modes out kids l r (Resets i) = r ≡ Done (record { held = modes; kids = change_at i reset kids }) out l
IsKnownIn reset made modes out kids l r Over = r ≡ Done (record { held = modes; kids = kids }) out l
IsKnownIn reset made modes out kids l r Closed = ⊥
IsKnownIn reset made modes out kids l r (Failed code) = r ≡ Stuck (record { path = []; firing = made; code = code } ∷ []) l

-- a core in this state knows it
abbrev pub IsKnown : {T M S : Type 0} → (reset : S → S) → (made : ℕ) → ModalState T M → List S → Log T → Outcome T (Inside (Modes T) S) → Type 0
IsKnown reset made s kids l r = IsKnownIn reset made s.modes s.outputs kids l r s.stage

-- the core once its reaction has begun, where the refinement i is to fire, and the local tag of that
abbrev pub due_from : {T M : Type 0} → ModalState T M → Tag → Streams T → ℕ → ModalState T M
due_from before tag inputs i = in_stage (Due i) (opened tag inputs before)

abbrev pub local_of : {T M : Type 0} → ModalState T M → Tag → ℕ → Tag
local_of before tag i = local tag (lag_of before.modes.stays i)

module _ {T M : Type 0} (reads : M → Chart T) where
  -- the composite's firing of number made
  abbrev pub firing_from : {S : Type 0} → Facts T S → Stepping T S → (made : ℕ) → ModalState T M → List S → Tag → Streams T → Outcome T (Inside (Modes T) S)
  firing_from facts step made before kids tag inputs = modal (chart_in reads before) facts step made tag before.modes kids inputs

  -- no preemptive guard is enabled, and the mode has the refinement i, which is to fire
  pub record IsDue (before : ModalState T M) (tag : Tag) (inputs : Streams T) (i : ℕ) : Type 0 where
    pub calm : chosen 0 ((chart_in reads before).preemptive before.modes.mode before.modes.values inputs) ≡ Nothing
    pub current : (chart_in reads before).refinement before.modes.mode ≡ Some i

  -- what it takes
  abbrev pub inputs_for : ModalState T M → Streams T → ℕ → Streams T
  inputs_for before inputs i = picked ((chart_in reads before).in_ports i) inputs

  -- What a chain of calls makes of a reaction: after `begin` a refinement is to fire, or it is known what the reaction comes to. Where the step of that refinement is done, it is known after `told`, and where it is stuck, so is the reaction, at its place.
  -- Where a refinement is to be reset, `Reset` and the reset of that child change nothing of what the reaction comes to.
  pub record CallsAreModal (S : Type 0) : Type 0 where
    pub begins : (facts : Facts T S) (step : Stepping T S) (made : ℕ) (before : ModalState T M) (kids : List S) (tag : Tag) (inputs : Streams T) →
        ((i : ℕ) × IsDue before tag inputs i × (begun reads tag inputs before ≡ due_from before tag inputs i)) ⊎ IsKnown facts.reset made (begun reads tag inputs before) kids silent (firing_from facts step made before kids tag inputs)
    pub goes_on : (facts : Facts T S) (step : Stepping T S) (made : ℕ) (before : ModalState T M) (kids : List S) (tag : Tag) (inputs : Streams T) (i : ℕ) → IsDue before tag inputs i →
        (child next : S) (out : Streams T) (l : Log T) (wake : Option Tag) → get kids i ≡ Some child → step (local_of before tag i) child (inputs_for before inputs i) ≡ Done next out l →
        IsKnown facts.reset made (after_told reads i out wake (in_stage (Asked i) (due_from before tag inputs i))) (set kids i next)
        (below_number i (log_then l (own (record { number = facts.made child; tag = local_of before tag i; inputs = inputs_for before inputs i; outputs = out })))) (firing_from facts step made before kids tag inputs)
    pub sticks : (facts : Facts T S) (step : Stepping T S) (made : ℕ) (before : ModalState T M) (kids : List S) (tag : Tag) (inputs : Streams T) (i : ℕ) → IsDue before tag inputs i →
        (child : S) (fs : List Fault) (l : Log T) → get kids i ≡ Some child → step (local_of before tag i) child (inputs_for before inputs i) ≡ Stuck fs l → firing_from facts step made before kids tag inputs ≡ Stuck (prefixed i fs) (below_number i l)
    pub resets : (reset : S → S) (made : ℕ) (s : ModalState T M) (kids : List S) (l : Log T) (r : Outcome T (Inside (Modes T) S)) → IsKnown reset made s kids l r → (i : ℕ) (child : S) → s.stage ≡ Resets i → get kids i ≡ Some child → IsKnown reset made (after_reset i s) (set kids i (reset child)) l r
