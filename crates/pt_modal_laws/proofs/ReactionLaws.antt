-- A chain of calls makes the reaction that the definitions say, case by case.
use Rattle.std.proofs.Common.{◌≡◌, ◌⊎◌, inl, inr, ℕ, zero, suc, List, [], ◌∷◌, Bool, true, false, set, Option, Some, None, refl, sym, ap, subst, ◌∙◌}
use Rattle.pt_meaning.specs.Tag.{Tag}
use Rattle.pt_meaning.specs.Streams.{Streams, get}
use Rattle.pt_meaning.specs.Log.{Log, silent, log_then, own}
use Rattle.pt_meaning.specs.Machine.{Fault, Outcome, Done, Stuck, Stepping, Facts, recorded}
use Rattle.pt_meaning.specs.Net.{Inside, prefixed}
use Rattle.pt_meaning.specs.Modal.{Chart, Modes, Choice, Nothing, One, Wrong, Acted, Acts, Fails, chosen, change_at, change_if, reset_unless, shown, below_number, unfired_outputs, taken, afterwards, put_state, on_refinement, at_refinement, with_refinement, preempted}
use Rattle.pt_modal_laws.specs.State.{Stage, Asked, Resets, ModalState, stage_after, in_stage, opened, pared, with_wake, after_reset, chart_in, after_taken, after_chosen, after_calm, after_preemptive, begun, after_told}
use Rattle.pt_modal_laws.specs.Chain.{IsKnownIn, IsKnown, firing_from, IsDue, due_from, local_of, inputs_for, CallsAreModal}

-- an entry that is put in the place of what is there
change-kept : {S : Type 0} (i : ℕ) (reset : S → S) (xs : List S) → change_at i (reset_unless true reset) xs ≡ xs
change-kept i reset [] = refl
change-kept zero reset (x ∷ xs) = refl
change-kept (suc i) reset (x ∷ xs) = ap (λ ys. x ∷ ys) (change-kept i reset xs)

change-reset : {S : Type 0} (i : ℕ) (reset : S → S) (xs : List S) → change_at i (reset_unless false reset) xs ≡ change_at i reset xs
change-reset i reset [] = refl
change-reset zero reset (x ∷ xs) = refl
change-reset (suc i) reset (x ∷ xs) = ap (λ ys. x ∷ ys) (change-reset i reset xs)

change-set : {S : Type 0} (i : ℕ) (reset : S → S) (xs : List S) (x : S) → get xs i ≡ Some x → change_at i reset xs ≡ set xs i (reset x)
change-set i reset [] x e = absurd (cc)
change-set {S} zero reset (y ∷ xs) x e = let same : y ≡ x = cc in ap (λ (z : S). reset z ∷ xs) same
change-set (suc i) reset (y ∷ xs) x e = ap (λ ys. y ∷ ys) (change-set i reset xs x e)

module _ {T M S : Type 0} (reads : M → Chart T) (facts : Facts T S) (step : Stepping T S) (made : ℕ) where
  -- the reset of the target's refinement is left to the driver
  by-target : (keeps : Bool) (o : Option ℕ) (modes : Modes T) (out : Streams T) (kids : List S) (l : Log T) → IsKnownIn facts.reset made modes out kids l (Done (record { held = modes; kids = change_if o (reset_unless keeps facts.reset) kids }) out l) (stage_after keeps o)
  by-target true None modes out kids l = refl
  by-target false None modes out kids l = refl
  by-target true (Some i) modes out kids l = ap (λ (ks : List S). let r : Outcome T (Inside (Modes T) S) = Done (record { held = modes; kids = ks }) out l in r) (change-kept i facts.reset kids)
  by-target false (Some i) modes out kids l = ap (λ (ks : List S). let r : Outcome T (Inside (Modes T) S) = Done (record { held = modes; kids = ks }) out l in r) (change-reset i facts.reset kids)

  taken-known : (s : ModalState T M) (early : Bool) (n : ℕ) (kids : List S) (l : Log T) (a : Acted T) → IsKnown facts.reset made (after_taken reads early n a s) kids l (taken (chart_in reads s) facts step made s.tag early n s.modes kids l a)
  taken-known s early n kids l (Fails code) = refl
  taken-known s early n kids l (Acts out values) = by-target ((chart_in reads s).keeps_history early s.modes.mode n) ((chart_in reads s).refinement ((chart_in reads s).target early s.modes.mode n)) _ out kids l

  chosen-known : (s : ModalState T M) (given : Streams T) (kids : List S) (l : Log T) (c : Choice) → IsKnown facts.reset made (after_chosen reads given c s) kids l (afterwards (chart_in reads s) facts step made s.tag s.modes kids s.inputs given l c)
  chosen-known s given kids l Nothing = refl
  chosen-known s given kids l (One n) = taken-known s false n kids l ((chart_in reads s).act false s.modes.mode n s.modes.values s.inputs given)
  chosen-known s given kids l (Wrong code) = refl

  module _ (before : ModalState T M) (kids : List S) (tag : Tag) (inputs : Streams T) where
    abbrev chart : Chart T
    chart = chart_in reads before

    abbrev start : ModalState T M
    start = opened tag inputs before

    abbrev due : ℕ → ModalState T M
    due i = due_from before tag inputs i

    Begun : Choice → ModalState T M → Outcome T (Inside (Modes T) S) → Type 0
    Begun c s r = ((i : ℕ) × (c ≡ Nothing) × (chart.refinement before.modes.mode ≡ Some i) × (s ≡ due i)) ⊎ IsKnown facts.reset made s kids silent r

    calm-begins : (o : Option ℕ) → chart.refinement before.modes.mode ≡ o → Begun Nothing (after_calm reads o start) (with_refinement chart facts step made tag before.modes kids inputs o)
    unfolding Begun
    calm-begins None e = inr (chosen-known start (unfired_outputs chart) kids silent (chosen 0 (chart.others before.modes.mode before.modes.values inputs (unfired_outputs chart))))
    calm-begins (Some i) e = inl (i, refl, e, refl)

    choice-begins : (c : Choice) → Begun c (after_preemptive reads c start) (preempted chart facts step made tag before.modes kids inputs c)
    unfolding Begun
    choice-begins Nothing = calm-begins (chart.refinement before.modes.mode) refl
    choice-begins (One n) = inr (taken-known start true n kids silent (chart.act true before.modes.mode n before.modes.values inputs (unfired_outputs chart)))
    choice-begins (Wrong code) = inr refl

    -- what is kept of the inputs changes nothing of that
    pared-begins : (c : Choice) (s : ModalState T M) (r : Outcome T (Inside (Modes T) S)) → Begun c s r → Begun c (pared s) r
    unfolding Begun
    pared-begins c s r (inl b) = inl (b.0, b.1, b.2, ap (λ (t : ModalState T M). pared t) b.3)
    pared-begins c s r (inr k) = inr k

    begins-one : ((i : ℕ) × IsDue reads before tag inputs i × (begun reads tag inputs before ≡ due i)) ⊎ IsKnown facts.reset made (begun reads tag inputs before) kids silent (firing_from reads facts step made before kids tag inputs)
    unfolding Begun
    begins-one = by (pared-begins first (after_preemptive reads first start) (firing_from reads facts step made before kids tag inputs) (choice-begins first))
      where
        first : Choice
        first = chosen 0 (chart.preemptive before.modes.mode before.modes.values inputs)

        by : Begun first (begun reads tag inputs before) (firing_from reads facts step made before kids tag inputs) →
            ((i : ℕ) × IsDue reads before tag inputs i × (begun reads tag inputs before ≡ due i)) ⊎ IsKnown facts.reset made (begun reads tag inputs before) kids silent (firing_from reads facts step made before kids tag inputs)
        by (inl r) = inl (r.0, record { calm = r.1; current = r.2 }, r.3)
        by (inr k) = inr k

    -- the refinement fires
    module _ (i : ℕ) (d : IsDue reads before tag inputs i) (child : S) (there : get kids i ≡ Some child) where
      abbrev within : Tag
      within = local_of before tag i

      abbrev got : Streams T
      got = inputs_for reads before inputs i

      fires-so : firing_from reads facts step made before kids tag inputs ≡ on_refinement chart facts step made tag i before.modes kids inputs (recorded (facts.made child) within got (step within child got))
      fires-so =
          ap (λ c. preempted chart facts step made tag before.modes kids inputs c) d.calm ∙
          ap (λ o. with_refinement chart facts step made tag before.modes kids inputs o) d.current ∙
          ap (λ o. at_refinement chart facts step made tag before.modes kids inputs i o) there

      -- what it shows of what it gave, the guard that is enabled over that, and what is logged
      abbrev given : Streams T → Streams T
      given out = shown (chart.out_ports i) out

      abbrev choice : Streams T → Choice
      choice out = chosen 0 (chart.others before.modes.mode before.modes.values inputs (given out))

      abbrev logged : Streams T → Log T → Log T
      logged out l = below_number i (log_then l (own (record { number = facts.made child; tag = within; inputs = got; outputs = out })))

      goes-one : (next : S) (out : Streams T) (l : Log T) (wake : Option Tag) → step within child got ≡ Done next out l → IsKnown facts.reset made (after_told reads i out wake (in_stage (Asked i) (due i))) (set kids i next) (logged out l) (firing_from reads facts step made before kids tag inputs)
      goes-one next out l wake e =
          subst (λ (r : Outcome T (Inside (Modes T) S)). IsKnown facts.reset made (after_told reads i out wake (in_stage (Asked i) (due i))) (set kids i next) (logged out l) r) (sym so)
          (chosen-known (with_wake i wake (in_stage (Asked i) (due i))) (given out) (set kids i next) (logged out l) (choice out))
        where
          so : firing_from reads facts step made before kids tag inputs ≡ afterwards chart facts step made tag before.modes (set kids i next) inputs (given out) (logged out l) (choice out)
          so =
              fires-so ∙ ap (λ (r : Outcome T S). on_refinement chart facts step made tag i before.modes kids inputs (recorded (facts.made child) within got r)) e ∙
              ap (λ (ks : List S). afterwards chart facts step made tag before.modes ks inputs (given out) (logged out l) (choice out)) (change-set i (put_state chart facts step next) kids child there)

      sticks-one : (fs : List Fault) (l : Log T) → step within child got ≡ Stuck fs l → firing_from reads facts step made before kids tag inputs ≡ Stuck (prefixed i fs) (below_number i l)
      sticks-one fs l e = fires-so ∙ ap (λ (r : Outcome T S). on_refinement chart facts step made tag i before.modes kids inputs (recorded (facts.made child) within got r)) e

-- the reset that the driver makes is that of the definitions
resets-one : {T M S : Type 0} (reset : S → S) (made : ℕ) (s : ModalState T M) (kids : List S) (l : Log T) (r : Outcome T (Inside (Modes T) S)) → IsKnown reset made s kids l r → (i : ℕ) (child : S) → s.stage ≡ Resets i → get kids i ≡ Some child → IsKnown reset made (after_reset i s) (set kids i (reset child)) l r
resets-one {T} {M} {S} reset made s kids l r k i child e there =
    let known : IsKnownIn reset made s.modes s.outputs kids l r (Resets i) = subst (λ (t : Stage). IsKnownIn reset made s.modes s.outputs kids l r t) e k in
    known ∙ ap (λ (ks : List S). let o : Outcome T (Inside (Modes T) S) = Done (record { held = s.modes; kids = ks }) s.outputs l in o) (change-set i reset kids child there)

pub calls-are-modal : {T M S : Type 0} (reads : M → Chart T) → CallsAreModal reads S
calls-are-modal reads = record {
  begins = λ facts step made before kids tag inputs. begins-one reads facts step made before kids tag inputs;
  goes_on = λ facts step made before kids tag inputs i d child next out l wake there e. goes-one reads facts step made before kids tag inputs i d child there next out l wake e;
  sticks = λ facts step made before kids tag inputs i d child fs l there e. sticks-one reads facts step made before kids tag inputs i d child there fs l e;
  resets = λ reset made s kids l r k i child e there. resets-one reset made s kids l r k i child e there;
}
