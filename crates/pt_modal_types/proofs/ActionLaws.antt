-- What actions give is of the types of their targets.
use Rattle.std.proofs.Common.{◌≡◌, ℕ, zero, suc, List, [], ◌∷◌, map, Bool, true, false, ◌&&◌, Option, Some, None, refl, sym, ap, subst, slice_get}
use Rattle.std.specs.List.{AllByRecursion}
use Rattle.std.proofs.lemmas.Option.{none-some, same_Some}
use Rattle.pt_meaning.specs.Streams.{Streams, get, change_at}
use Rattle.pt_meaning.specs.Modal.{Acted, Acts, Fails}
use Rattle.pt_meaning.specs.Transitions.{Reading, Reads, Absent, Faulty, on_reading, with_variable, with_port, with_sets, with_outputs, no_transitions, of_kind, acted_by}
use Rattle.pt_meaning.specs.Transitions.{Scope as Seen}
use Rattle.pt_value.specs.Value.{Value}
use Rattle.pt_value.specs.Token.{value_of, token_of, value_of-token_of}
use Rattle.pt_value.specs.declared.token.Token.{Token}
use Rattle.pt_datatypes.specs.Datatype.{Datatype}
use Rattle.pt_datatypes.specs.Order.{IsBelow}
use Rattle.pt_datatypes.specs.Token.{type_of_value}
use Rattle.pt_datatypes.proofs.Fields.{and_both}
use Rattle.pt_datatypes.proofs.Order.{below-trans}
use Rattle.pt_language.specs.declared.eval_fault.EvalFault.{EvalFault}
use Rattle.pt_language.specs.declared.eval_fault.EvalFault.TheVariants as fault
use Rattle.pt_language.specs.Outcome.{Outcome, Gives, Stops, Wrong}
use Rattle.pt_language.specs.TreeType.{IsTyped, are_bound, tree_type}
use Rattle.pt_language.specs.Types.{Types}
use Rattle.pt_language.specs.Tree.{Tree}
use Rattle.pt_language.specs.Laws.{IsOfType}
use Rattle.pt_language.specs.Meaning.{value}
use Rattle.pt_language.proofs.TypeSound.{typed-sound}
use Rattle.pt_kinds.specs.Signature.{AreEach, AreOf}
use Rattle.pt_formula.specs.Formula.{has_type}
use Rattle.pt_chart.specs.Machine.{ActionTree, TransitionTree, ModeTree, NameTable}
use Rattle.pt_chart.specs.Names.{names_in}
use Rattle.pt_chart.specs.Chart.{reading_of, action_of, transition_of, mode_of}
use Rattle.pt_chart.specs.Typed.{types_of, is_typed, are_typed_actions, is_typed_transition, are_typed_transitions, is_typed_mode, are_typed_modes}
use Rattle.pt_modal_types.specs.Laws.{IsTokenOf, types_in}
use Rattle.pt_modal_types.proofs.KeptLaws.{keeps}

-- ---- one action

-- an action has a type, which is below that of its target
pub record IsKept (table : NameTable) (ts : List Datatype) (a : ActionTree) : Type 0 where
  pub type : Datatype
  pub top : Datatype
  pub typed : IsTyped (types_of table) a.tree type
  pub at : slice_get ts a.target ≡ Some top
  pub below : IsBelow type top

-- the token that an action gives
abbrev given : Reading Token → Option Token
given (Reads x) = Some x
given Absent = None
given (Faulty code) = None

reads-typed : (table : NameTable) (seen : Seen Token) (ts : List Datatype) (a : ActionTree) (k : IsKept table ts a) (x : Token) → reading_of (value (names_in table seen) a.tree) ≡ Reads x → IsTokenOf k.top x
reads-typed table seen ts a k x e = by_outcome (value (names_in table seen) a.tree) (typed-sound (types_of table) (names_in table seen) (keeps table seen) a.tree k.type k.typed) e
  where
    stopped : (f : EvalFault) → reading_of (Stops f) ≡ Reads x → ⊥
    stopped fault.DivideByZero g = none-some x (ap given g)
    stopped fault.Overflow g = none-some x (ap given g)
    stopped fault.Index g = none-some x (ap given g)
    stopped fault.Size g = none-some x (ap given g)
    stopped fault.Absent g = none-some x (ap given g)
    stopped fault.Memory g = none-some x (ap given g)

    by_outcome : (o : Outcome Value) → IsOfType k.type o → reading_of o ≡ Reads x → IsTokenOf k.top x
    by_outcome (Gives v) h g =
        let below = below-trans (type_of_value v) k.type k.top h k.below in
        let of : IsTokenOf k.top (token_of v) = subst (λ w. IsBelow (type_of_value w) k.top) (sym (value_of-token_of v)) below in
        subst (λ w. IsTokenOf k.top w) (same_Some (token_of v) x (ap given g)) of
    by_outcome (Stops f) h g = absurd (stopped f g)
    by_outcome Wrong h g = absurd h

-- ---- one more token

-- a port has a token of its type in the place of what it had
put-typed : (ts : List Datatype) (p : ℕ) (top : Datatype) (x : Token) → slice_get ts p ≡ Some top → IsTokenOf top x → (X : Streams Token) → AreOf IsTokenOf ts X → AreOf IsTokenOf ts (change_at p (λ old. x ∷ []) X)
put-typed [] p top x at h X of = absurd (none-some top at)
put-typed (t ∷ ts) p top x at h [] of = tt
put-typed (t ∷ ts) zero top x at h (xs ∷ X) of = ((subst (λ u. IsTokenOf u x) (sym (same_Some t top at)) h, tt), of.1)
put-typed (t ∷ ts) (suc p) top x at h (xs ∷ X) of = (of.0, put-typed ts p top x at h X of.1)

-- a Variable has another token of its type
set-typed : (ts : List Datatype) (i : ℕ) (top : Datatype) (x : Token) → slice_get ts i ≡ Some top → IsTokenOf top x → (vs : List Token) → AreEach IsTokenOf ts vs → AreEach IsTokenOf ts (change_at i (λ old. x) vs)
set-typed [] i top x at h vs each = absurd (none-some top at)
set-typed (t ∷ ts) i top x at h [] each = absurd each
set-typed (t ∷ ts) zero top x at h (v ∷ vs) each = (subst (λ u. IsTokenOf u x) (sym (same_Some t top at)) h, each.1)
set-typed (t ∷ ts) (suc i) top x at h (v ∷ vs) each = (each.0, set-typed ts i top x at h vs each.1)

-- ---- all actions

-- a transition whose guard has a type, and each of whose actions has one below that of its target
pub record IsRight (table : NameTable) (t : TransitionTree) : Type 0 where
  pub guard : is_typed (types_of table) t.guard ≡ true
  pub outputs : AllByRecursion (IsKept table (types_in table.outputs)) t.outputs
  pub sets : AllByRecursion (IsKept table (types_in table.variables)) t.sets

abbrev pub AreRight : NameTable → List TransitionTree → Type 0
AreRight table ts = AllByRecursion (IsRight table) ts

abbrev pub IsRightMode : NameTable → ModeTree → Type 0
IsRightMode table m = AreRight table m.preemptive × AreRight table m.others

-- what actions come to: tokens of the types of the outputs and Variables
abbrev pub IsTypedActed : NameTable → Acted Token → Type 0
IsTypedActed table (Acts out new) = AreOf IsTokenOf (types_in table.outputs) out × AreEach IsTokenOf (types_in table.variables) new
IsTypedActed table (Fails code) = Unit {0}

module _ (table : NameTable) where
  abbrev outs : List Datatype
  outs = types_in table.outputs

  abbrev vars : List Datatype
  vars = types_in table.variables

  sets-typed : (acts : List ActionTree) → AllByRecursion (IsKept table vars) acts → (seen : Seen Token) (out : Streams Token) → AreEach IsTokenOf vars seen.values → AreOf IsTokenOf outs out → IsTypedActed table (with_sets (map (action_of table) acts) seen out)
  sets-typed [] all seen out each of = (of, each)
  sets-typed (a ∷ acts) all seen out each of = by_reading (λ next h. sets-typed acts all.1 next out h of) (reading_of (value (names_in table seen) a.tree)) refl
    where
      by_reading : ((next : Seen Token) → AreEach IsTokenOf vars next.values → IsTypedActed table (with_sets (map (action_of table) acts) next out)) → (r : Reading Token) → reading_of (value (names_in table seen) a.tree) ≡ r →
          IsTypedActed table (on_reading (λ x. with_sets (map (action_of table) acts) (with_variable a.target x seen) out) r)
      by_reading more (Reads x) e = more (record seen { values = change_at a.target (λ old. x) seen.values }) (set-typed vars a.target all.0.top x all.0.at (reads-typed table seen vars a all.0 x e) seen.values each)
      by_reading more Absent e = more seen each
      by_reading more (Faulty code) e = tt

  outputs-typed : (acts sets : List ActionTree) → AllByRecursion (IsKept table outs) acts → AllByRecursion (IsKept table vars) sets → (seen : Seen Token) (out : Streams Token) → AreEach IsTokenOf vars seen.values → AreOf IsTokenOf outs out →
      IsTypedActed table (with_outputs (map (action_of table) acts) (map (action_of table) sets) seen out)
  outputs-typed [] sets all after seen out each of = sets-typed sets after seen out each of
  outputs-typed (a ∷ acts) sets all after seen out each of = by_reading (λ next h. outputs-typed acts sets all.1 after seen next each h) (reading_of (value (names_in table seen) a.tree)) refl
    where
      by_reading : ((next : Streams Token) → AreOf IsTokenOf outs next → IsTypedActed table (with_outputs (map (action_of table) acts) (map (action_of table) sets) seen next)) → (r : Reading Token) → reading_of (value (names_in table seen) a.tree) ≡ r →
          IsTypedActed table (on_reading (λ x. with_outputs (map (action_of table) acts) (map (action_of table) sets) seen (with_port a.target x out)) r)
      by_reading more (Reads x) e = more (change_at a.target (λ old. x ∷ []) out) (put-typed outs a.target all.0.top x all.0.at (reads-typed table seen outs a all.0 x e) out of)
      by_reading more Absent e = more out of
      by_reading more (Faulty code) e = tt

  -- a transition, where there is one
  module _ (seen : Seen Token) (each : AreEach IsTokenOf vars seen.values) (of : AreOf IsTokenOf outs seen.given) where
    transition-acted : (ts : List TransitionTree) → AreRight table ts → (n : ℕ) → IsTypedActed table (acted_by (get (map (transition_of table) ts) n) seen)
    transition-acted [] all n = (of, each)
    transition-acted (t ∷ ts) all zero = outputs-typed t.outputs t.sets all.0.outputs all.0.sets seen seen.given each of
    transition-acted (t ∷ ts) all (suc n) = transition-acted ts all.1 n

    pub mode-acted : (modes : List ModeTree) → AllByRecursion (IsRightMode table) modes → (early : Bool) (mode n : ℕ) → IsTypedActed table (acted_by (get (of_kind early (no_transitions (get (map (mode_of table) modes) mode))) n) seen)
    mode-acted [] all true mode n = (of, each)
    mode-acted [] all false mode n = (of, each)
    mode-acted (m ∷ modes) all true zero n = transition-acted m.preemptive all.0.0 n
    mode-acted (m ∷ modes) all false zero n = transition-acted m.others all.0.1 n
    mode-acted (m ∷ modes) all early (suc mode) n = mode-acted modes all.1 early mode n

-- ---- guards and actions have types

pub typed-one : (types : Types) (t : Tree) (u : Datatype) → IsTyped types t u → is_typed types t ≡ true
typed-one types t u typed = and_both (are_bound types t) (has_type (tree_type types t)) typed.bound (ap has_type typed.typed)

actions-typed : (table : NameTable) (ts : List Datatype) (acts : List ActionTree) → AllByRecursion (IsKept table ts) acts → are_typed_actions (types_of table) acts ≡ true
actions-typed table ts [] all = refl
actions-typed table ts (a ∷ acts) all = and_both (is_typed (types_of table) a.tree) (are_typed_actions (types_of table) acts) (typed-one (types_of table) a.tree all.0.type all.0.typed) (actions-typed table ts acts all.1)

transitions-typed : (table : NameTable) (ts : List TransitionTree) → AreRight table ts → are_typed_transitions (types_of table) ts ≡ true
transitions-typed table [] all = refl
transitions-typed table (t ∷ ts) all =
    let types = types_of table in
    let acts = and_both (are_typed_actions types t.outputs) (are_typed_actions types t.sets) (actions-typed table (types_in table.outputs) t.outputs all.0.outputs) (actions-typed table (types_in table.variables) t.sets all.0.sets) in
    and_both (is_typed_transition types t) (are_typed_transitions types ts) (and_both (is_typed types t.guard) (are_typed_actions types t.outputs && are_typed_actions types t.sets) all.0.guard acts) (transitions-typed table ts all.1)

pub modes-typed : (table : NameTable) (modes : List ModeTree) → AllByRecursion (IsRightMode table) modes → are_typed_modes (types_of table) modes ≡ true
modes-typed table [] all = refl
modes-typed table (m ∷ modes) all =
    let types = types_of table in
    and_both (is_typed_mode types m) (are_typed_modes types modes) (and_both (are_typed_transitions types m.preemptive) (are_typed_transitions types m.others) (transitions-typed table m.preemptive all.0.0) (transitions-typed table m.others all.0.1)) (modes-typed table modes all.1)
