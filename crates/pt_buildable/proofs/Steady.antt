-- Under SDF only actors stand that need and give the same at each firing: the classes of the others may not stand there, and neither may a source with a limit.
use Rattle.std.proofs.Common.{◌≡◌, inl, inr, ◌<◌, ◌++◌, ◌&&◌, ◌||◌, ℕ, zero, suc, ℤ, pos, negsuc, List, [], ◌∷◌, Bool, true, false, not, Option, Some, None, length, get_or, refl, sym, ap, subst, ◌∙◌, arith, leb, if◌then◌else◌}
use Rattle.std.specs.Prelude.{codes, bytes_eq, is_some, unsigned_abs, option_map, slice_get}
use Rattle.std.specs.List.{Contains, AllByRecursion, list_all}
use Rattle.std.proofs.lemmas.Bool.{and_parts, and_from, both_ways, le-leb}
use Rattle.std.proofs.lemmas.Option.{none-some, same_Some}
use Rattle.pt_value.specs.declared.token.Token.{Token}
use Rattle.pt_value.specs.declared.token.Token.TheVariants as token
use Rattle.pt_document.specs.declared.code.Code.{Code}
use Rattle.pt_document.specs.declared.code.Code.TheVariants as code
use Rattle.pt_document.specs.declared.classes.Director.{Director}
use Rattle.pt_document.specs.declared.classes.Director.TheVariants.{Sdf, Pn, Rendezvous, Sr, De}
use Rattle.pt_document.specs.Document.{PropertyTree, property_name}
use Rattle.pt_document.specs.Classes.{Class as ClassRow, class_row, classes}
use Rattle.pt_net.specs.declared.net.Net.{Net}
use Rattle.pt_scopes.specs.declared.parameter_value.ParameterValue.{ParameterValue}
use Rattle.pt_scopes.specs.declared.parameter_value.ParameterValue.TheVariants as parameter
use Rattle.pt_scopes.specs.declared.values.Values.{Values}
use Rattle.pt_scopes.specs.Forms.{ParameterForm, forms, form_in, form_of}
use Rattle.pt_scopes.specs.Scopes.{net_view, is_composite_class}
use Rattle.pt_scopes.specs.Valued.{IsValued}
use Rattle.pt_firing.specs.Params.{value_under, as_int, only_within, as_bool, bool_or, channels_to, int_or}
use Rattle.pt_flow_base.specs.declared.params.Params.{Params}
use Rattle.pt_flow_base.specs.declared.limit.Limit.{Limit}
use Rattle.pt_flow_base.specs.declared.limit.Limit.TheVariants.{Endless}
use Rattle.pt_flow_base.specs.Limit.{limit_of, limit_in, is_endless}
use Rattle.pt_flow_numbers.specs.declared.ramp.Ramp.{Ramp}
use Rattle.pt_flow_numbers.specs.declared.extreme.Side.TheVariants.{Greatest, Least}
use Rattle.pt_flow_streams.specs.declared.constant.Const.{Const}
use Rattle.pt_flow_streams.specs.declared.sequence.Sequence.{Sequence}
use Rattle.pt_lib_flow.specs.declared.flow_actor.Class.{Class as FlowClass}
use Rattle.pt_lib_flow.specs.declared.flow_actor.Class.TheVariants as class
use Rattle.pt_lib_flow.specs.declared.flow_actor.FlowActor.{FlowActor}
use Rattle.pt_lib_flow.specs.declared.flow_actor.FlowActor.TheVariants as flow
use Rattle.pt_lib_flow.specs.FlowActor as flow_actor
use Rattle.pt_flow_numbers.specs.AbsoluteValue as absolute_value
use Rattle.pt_flow_numbers.specs.Accumulator as accumulator
use Rattle.pt_flow_numbers.specs.AddSubtract as add_subtract
use Rattle.pt_flow_streams.specs.Const as constant
use Rattle.pt_flow_numbers.specs.Counter as counter
use Rattle.pt_flow_streams.specs.DownSample as down_sample
use Rattle.pt_lib_flow.specs.Expression as expression
use Rattle.pt_flow_numbers.specs.Extreme as extreme
use Rattle.pt_flow_numbers.specs.MultiplyDivide as multiply_divide
use Rattle.pt_flow_numbers.specs.Ramp as ramp
use Rattle.pt_flow_streams.specs.Repeat as repeat
use Rattle.pt_flow_streams.specs.SampleDelay as sample_delay
use Rattle.pt_flow_numbers.specs.Scale as scale
use Rattle.pt_flow_streams.specs.Sequence as sequence
use Rattle.pt_flow_streams.specs.UpSample as up_sample
use Rattle.pt_lib_data.specs.DataActor as data_actor
use Rattle.pt_lib_time.specs.declared.time_actor.Class.{Class as TimeClass}
use Rattle.pt_lib_time.specs.declared.time_actor.Class.TheVariants as time_class
use Rattle.pt_lib_time.specs.TimeActor as time_actor
use Rattle.pt_lib_timed.specs.declared.timed_actor.Class.{Class as TimedClass}
use Rattle.pt_lib_timed.specs.declared.timed_actor.Class.TheVariants as timed_class
use Rattle.pt_lib_timed.specs.TimedActor as timed_actor
use Rattle.pt_library.specs.declared.library_actor.LibraryActor.{LibraryActor}
use Rattle.pt_library.specs.declared.library_actor.LibraryActor.TheVariants.{Flow, Data, Time, Timed}
use Rattle.pt_library.specs.LibraryActor.{is_steady, rates, start}
use Rattle.pt_start.specs.Places.{director_over, token_named, is_positive, is_truth, is_limited}
use Rattle.pt_start.specs.Started.{own_tokens, given_tree, seen_tokens, PortTyping, IsStartedFrom}
use Rattle.pt_start.specs.Misplaced.{is_sdf, is_limited_with, barred, limited, IsMisplaced}
use Rattle.pt_typed.specs.NetRows.{IsTokenHeld}
use Rattle.pt_typed.proofs.FlowStarts as flows
use Rattle.pt_typed.proofs.FlowStarts.{mapped}
use Rattle.pt_typed.proofs.TimeStarts as signals
use Rattle.pt_typed.proofs.TimedStarts as instants
use Rattle.pt_typed.proofs.RowsMet.{one-of-four, flow-in}
use Rattle.pt_typed.proofs.HeldLaws.{is_evaluated, const-values, sequence-values, given-all, holds-tokens}

-- ---- classes that may not stand under SDF

abbrev any_sdf : List Director → Bool
any_sdf [] = false
any_sdf (Sdf ∷ ds) = true
any_sdf (Pn ∷ ds) = any_sdf ds
any_sdf (Rendezvous ∷ ds) = any_sdf ds
any_sdf (Sr ∷ ds) = any_sdf ds
any_sdf (De ∷ ds) = any_sdf ds

abbrev directors_in : Option ClassRow → List Director
directors_in None = []
directors_in (Some row) = row.directors

no-sdf : (ds : List Director) (i : ℕ) → any_sdf ds ≡ false → i < length ds → get_or ds i Sdf ≡ Sdf → ⊥
no-sdf [] i e h is = absurd (omega (arith, h))
no-sdf (Sdf ∷ ds) i e h is = let k : true ≡ false = e in cc
no-sdf (Pn ∷ ds) zero e h is = let k : Pn ≡ Sdf = is in cc
no-sdf (Pn ∷ ds) (suc i) e h is = no-sdf ds i e (omega (arith, h)) is
no-sdf (Rendezvous ∷ ds) zero e h is = let k : Rendezvous ≡ Sdf = is in cc
no-sdf (Rendezvous ∷ ds) (suc i) e h is = no-sdf ds i e (omega (arith, h)) is
no-sdf (Sr ∷ ds) zero e h is = let k : Sr ≡ Sdf = is in cc
no-sdf (Sr ∷ ds) (suc i) e h is = no-sdf ds i e (omega (arith, h)) is
no-sdf (De ∷ ds) zero e h is = let k : De ≡ Sdf = is in cc
no-sdf (De ∷ ds) (suc i) e h is = no-sdf ds i e (omega (arith, h)) is

-- the class of that name is one, and may not stand under SDF
record IsOutside (name : List ℕ) : Type 0 where
  row : ClassRow
  is : class_row name ≡ Some row
  barred_there : Contains row.directors Sdf → ⊥

outside : (name : List ℕ) (o : Option ClassRow) → class_row name ≡ o → is_some o ≡ true → any_sdf (directors_in o) ≡ false → IsOutside name
outside name None is some none = absurd (let h : false ≡ true = some in cc)
outside name (Some row) is some none = record { row = row; is = is; barred_there = λ c. no-sdf row.directors c.0 none c.1 c.2 }

switch-outside : IsOutside (codes "BooleanSwitch")
unfolding class_row classes
switch-outside = outside (codes "BooleanSwitch") (class_row (codes "BooleanSwitch")) refl refl refl

select-outside : IsOutside (codes "BooleanSelect")
unfolding class_row classes
select-outside = outside (codes "BooleanSelect") (class_row (codes "BooleanSelect")) refl refl refl

time-outside : (c : TimeClass) → IsOutside (signals.name_of c)
unfolding class_row classes
time-outside time_class.Absent = outside (codes "Absent") (class_row (codes "Absent")) refl refl refl
time-outside time_class.Current = outside (codes "Current") (class_row (codes "Current")) refl refl refl
time-outside time_class.Default = outside (codes "Default") (class_row (codes "Default")) refl refl refl
time-outside time_class.Merge = outside (codes "Merge") (class_row (codes "Merge")) refl refl refl
time-outside time_class.NonStrictDelay = outside (codes "NonStrictDelay") (class_row (codes "NonStrictDelay")) refl refl refl
time-outside time_class.NonStrictLogicGate = outside (codes "NonStrictLogicGate") (class_row (codes "NonStrictLogicGate")) refl refl refl
time-outside time_class.NonStrictMux = outside (codes "NonStrictMux") (class_row (codes "NonStrictMux")) refl refl refl
time-outside time_class.Pre = outside (codes "Pre") (class_row (codes "Pre")) refl refl refl
time-outside time_class.When = outside (codes "When") (class_row (codes "When")) refl refl refl

timed-outside : (c : TimedClass) → IsOutside (instants.name_of c)
unfolding class_row classes
timed-outside timed_class.CurrentTime = outside (codes "CurrentTime") (class_row (codes "CurrentTime")) refl refl refl
timed-outside timed_class.DiscreteClock = outside (codes "DiscreteClock") (class_row (codes "DiscreteClock")) refl refl refl
timed-outside timed_class.Register = outside (codes "Register") (class_row (codes "Register")) refl refl refl
timed-outside timed_class.Sampler = outside (codes "Sampler") (class_row (codes "Sampler")) refl refl refl
timed-outside timed_class.Server = outside (codes "Server") (class_row (codes "Server")) refl refl refl
timed-outside timed_class.SingleEvent = outside (codes "SingleEvent") (class_row (codes "SingleEvent")) refl refl refl
timed-outside timed_class.TimeDelay = outside (codes "TimeDelay") (class_row (codes "TimeDelay")) refl refl refl

-- those of sources are classes
const-there : is_some (class_row (codes "Const")) ≡ true
unfolding class_row classes
const-there = refl

ramp-there : is_some (class_row (codes "Ramp")) ≡ true
unfolding class_row classes
ramp-there = refl

sequence-there : is_some (class_row (codes "Sequence")) ≡ true
unfolding class_row classes
sequence-there = refl

-- each parameter of a class that the table lists is evaluated
abbrev has_value : List ℕ → ParameterForm → Bool
has_value class r = not (bytes_eq r.class class) || is_evaluated r.form

evaluated-in : (rows : List ParameterForm) (class name : List ℕ) → list_all (has_value class) rows ≡ true → is_evaluated (form_in rows class name) ≡ true
evaluated-in [] class name e = refl
evaluated-in (r ∷ rows) class name e = by_test (bytes_eq r.class class) refl (bytes_eq r.name name) (and_parts (has_value class r) (list_all (has_value class) rows) e).0 (evaluated-in rows class name (and_parts (has_value class r) (list_all (has_value class) rows) e).1)
  where
    by_test : (b : Bool) → bytes_eq r.class class ≡ b → (c : Bool) → (not b || is_evaluated r.form) ≡ true → is_evaluated (form_in rows class name) ≡ true → is_evaluated (if b && c then r.form else form_in rows class name) ≡ true
    by_test true d true h more = h
    by_test true d false h more = more
    by_test false d c h more = more

ramp-values : (name : List ℕ) → is_evaluated (form_of (codes "Ramp") name) ≡ true
unfolding form_of forms
ramp-values name = evaluated-in forms (codes "Ramp") name refl

-- ---- the parameters of a source

no-tree : (vs : List ParameterValue) → AllByRecursion IsTokenHeld vs → given_tree vs ≡ None
no-tree [] h = refl
no-tree (parameter.Token t ∷ vs) h = no-tree vs h.1
no-tree (parameter.Tree e ∷ vs) h = absurd h.0
no-tree (parameter.Word ∷ vs) h = absurd h.0

-- what an actor is started from is the token of the first parameter of a name
named-token : (name : List ℕ) (ps : List PropertyTree) (vs : List ParameterValue) → AllByRecursion IsTokenHeld vs → value_under name (own_tokens ps vs ++ []) ≡ token_named ps vs name
unfolding value_under
named-token name [] vs h = refl
named-token name (p ∷ ps) [] h = refl
named-token name (p ∷ ps) (parameter.Token t ∷ vs) h = ap (λ o. if bytes_eq (property_name p) name then Some t else o) (named-token name ps vs h.1)
named-token name (p ∷ ps) (parameter.Tree e ∷ vs) h = absurd h.0
named-token name (p ∷ ps) (parameter.Word ∷ vs) h = absurd h.0

-- a limit that isn't positive is none
endless-of : (o : Option Token) (l : Limit) → is_positive o ≡ false → option_map (λ count. limit_of (unsigned_abs count)) (only_within (pos 0) (pos 1000000000) (as_int (pos 0) o)) ≡ Some l → is_endless l ≡ true
endless-of None l e is = ap is_endless (sym (same_Some Endless l is))
endless-of (Some (token.Int (pos zero))) l e is = ap is_endless (sym (same_Some Endless l is))
endless-of (Some (token.Int (pos (suc n)))) l e is = absurd (both_ways (leb 1 (suc n)) e (le-leb 1 (suc n) (omega arith)))
endless-of (Some (token.Int (negsuc n))) l e is = absurd (none-some l is)
endless-of (Some (token.Bool b)) l e is = absurd (none-some l is)
endless-of (Some (token.Text t)) l e is = absurd (none-some l is)
endless-of (Some (token.Array ts)) l e is = absurd (none-some l is)
endless-of (Some (token.Record fs)) l e is = absurd (none-some l is)

-- a Sequence that begins again says so
cyclic-of : (o : Option Token) (b : Bool) → not (is_truth o) ≡ false → as_bool false o ≡ Some b → b ≡ true
cyclic-of None b e is = absurd (let h : true ≡ false = e in cc)
cyclic-of (Some (token.Bool true)) b e is = sym (same_Some true b is)
cyclic-of (Some (token.Bool false)) b e is = absurd (let h : true ≡ false = e in cc)
cyclic-of (Some (token.Int n)) b e is = absurd (none-some b is)
cyclic-of (Some (token.Text t)) b e is = absurd (none-some b is)
cyclic-of (Some (token.Array ts)) b e is = absurd (none-some b is)
cyclic-of (Some (token.Record fs)) b e is = absurd (none-some b is)

-- ---- flow actors

-- it needs and gives the same at each firing
abbrev IsGood : FlowActor → Type 0
IsGood x = (flow_actor.is_steady x ≡ true) × (is_some (flow_actor.rates x) ≡ true)

-- what isn't limited, of the parameters that it is started from
record IsUnlimited (c : FlowClass) (params : Params) : Type 0 where
  switch : c ≡ class.BooleanSwitch → ⊥
  select : c ≡ class.BooleanSelect → ⊥
  const : c ≡ class.Const → is_positive (value_under (codes "firingCountLimit") params.values) ≡ false
  ramp_is : c ≡ class.Ramp → is_positive (value_under (codes "firingCountLimit") params.values) ≡ false
  sequence_is : c ≡ class.Sequence → not (is_truth (value_under (codes "repeat") params.values)) ≡ false

const-good : (o : Option Token) (l : Option Limit) (n : ℕ) (x : Const) → constant.start_by o l n ≡ Some x → l ≡ Some x.limit
const-good (Some v) (Some l) n x e = ap (λ (y : Const). Some y.limit) (same_Some (record { value = v; limit = l; places = n }) x e)
const-good (Some v) None n x e = absurd (none-some x e)
const-good None l n x e = absurd (none-some x e)

ramp-good : (a b : Option ℤ) (l : Option Limit) (n : ℕ) (x : Ramp) → ramp.start_by a b l n ≡ Some x → l ≡ Some x.limit
ramp-good (Some i) (Some s) (Some l) n x e = ap (λ (y : Ramp). Some y.limit) (same_Some (record { next = i; step = s; limit = l; places = n }) x e)
ramp-good (Some i) (Some s) None n x e = absurd (none-some x e)
ramp-good (Some i) None l n x e = absurd (none-some x e)
ramp-good None b l n x e = absurd (none-some x e)

sequence-good : (o : Option Token) (b : Option Bool) (n : ℕ) (x : Sequence) → sequence.start_by o b n ≡ Some x → b ≡ Some x.cyclic
sequence-good (Some (token.Array (v ∷ vs))) (Some b) n x e = ap (λ (y : Sequence). Some y.cyclic) (same_Some (record { values = v ∷ vs; cyclic = b; index = 0; places = n }) x e)
sequence-good (Some (token.Array (v ∷ vs))) None n x e = absurd (none-some x e)
sequence-good (Some (token.Array [])) b n x e = absurd (none-some x e)
sequence-good (Some (token.Int i)) b n x e = absurd (none-some x e)
sequence-good (Some (token.Bool t)) b n x e = absurd (none-some x e)
sequence-good (Some (token.Text t)) b n x e = absurd (none-some x e)
sequence-good (Some (token.Record fs)) b n x e = absurd (none-some x e)
sequence-good None b n x e = absurd (none-some x e)

flow-good : (c : FlowClass) (params : Params) (a : FlowActor) → IsUnlimited c params → flow_actor.start_as c params ≡ Some a → IsGood a
flow-good class.AbsoluteValue params a u e = let w = mapped flow.AbsoluteValue (absolute_value.start params) a e in subst IsGood w.2 (refl, refl)
flow-good class.Accumulator params a u e = let w = mapped flow.Accumulator (accumulator.start params) a e in subst IsGood w.2 (refl, refl)
flow-good class.AddSubtract params a u e = let w = mapped flow.AddSubtract (add_subtract.start params) a e in subst IsGood w.2 (refl, refl)
flow-good class.BooleanSelect params a u e = absurd (u.select refl)
flow-good class.BooleanSwitch params a u e = absurd (u.switch refl)
flow-good class.Const params a u e =
    let w = mapped flow.Const (constant.start params) a e in
    let l = const-good (value_under (codes "value") params.values) (limit_in params.values) (channels_to (codes "trigger") params.ports) w.0 w.1 in
    subst IsGood w.2 (endless-of (value_under (codes "firingCountLimit") params.values) w.0.limit (u.const refl) l, refl)
flow-good class.Counter params a u e = let w = mapped flow.Counter (counter.start params) a e in subst IsGood w.2 (refl, refl)
flow-good class.DownSample params a u e = let w = mapped flow.DownSample (down_sample.start params) a e in subst IsGood w.2 (refl, refl)
flow-good class.Expression params a u e = let w = mapped flow.Expression (expression.start params) a e in subst IsGood w.2 (refl, refl)
flow-good class.Maximum params a u e = let w = mapped flow.Extreme (extreme.start Greatest params) a e in subst IsGood w.2 (refl, refl)
flow-good class.Minimum params a u e = let w = mapped flow.Extreme (extreme.start Least params) a e in subst IsGood w.2 (refl, refl)
flow-good class.MultiplyDivide params a u e = let w = mapped flow.MultiplyDivide (multiply_divide.start params) a e in subst IsGood w.2 (refl, refl)
flow-good class.Ramp params a u e =
    let w = mapped flow.Ramp (ramp.start params) a e in
    let l = ramp-good (int_or (codes "init") (pos 0) params.values) (int_or (codes "step") (pos 1) params.values) (limit_in params.values) (channels_to (codes "trigger") params.ports) w.0 w.1 in
    subst IsGood w.2 (endless-of (value_under (codes "firingCountLimit") params.values) w.0.limit (u.ramp_is refl) l, refl)
flow-good class.Repeat params a u e = let w = mapped flow.Repeat (repeat.start params) a e in subst IsGood w.2 (refl, refl)
flow-good class.SampleDelay params a u e = let w = mapped flow.SampleDelay (sample_delay.start params) a e in subst IsGood w.2 (refl, refl)
flow-good class.Scale params a u e = let w = mapped flow.Scale (scale.start params) a e in subst IsGood w.2 (refl, refl)
flow-good class.Sequence params a u e =
    let w = mapped flow.Sequence (sequence.start params) a e in
    let b = sequence-good (value_under (codes "values") params.values) (bool_or (codes "repeat") false params.values) (channels_to (codes "trigger") params.ports) w.0 w.1 in
    subst IsGood w.2 (cyclic-of (value_under (codes "repeat") params.values) w.0.cyclic (u.sequence_is refl) b, refl)
flow-good class.UpSample params a u e = let w = mapped flow.UpSample (up_sample.start params) a e in subst IsGood w.2 (refl, refl)

-- ---- an actor of a net

-- it needs and gives the same at each firing
pub record IsSteadyStart (a : LibraryActor) : Type 0 where
  pub steady : is_steady a ≡ true
  pub rated : rates a ≡ None → ⊥

some-not-none : {X : Type 0} (o : Option X) → is_some o ≡ true → o ≡ None → ⊥
some-not-none None e n = let h : false ≡ true = e in cc
some-not-none (Some x) e n = let h : Some x ≡ None = n in cc

or-left-false : (a b : Bool) → (a || b) ≡ false → a ≡ false
or-left-false true b e = e
or-left-false false b e = refl

or-right-false : (a b : Bool) → a ≡ false → (a || b) ≡ false → b ≡ false
or-right-false true b n e = absurd (let h : true ≡ false = n in cc)
or-right-false false b n e = e

not-both : (b : Bool) → (b ≡ true → ⊥) → b ≡ false
not-both true h = absurd (h refl)
not-both false h = refl

and-right-false : (a b : Bool) → a ≡ true → (a && b) ≡ false → b ≡ false
and-right-false true b t e = e
and-right-false false b t e = absurd (let h : false ≡ true = t in cc)

-- under SDF, where nothing is misplaced
module _ (net : Net) (values : Values) (typing : PortTyping) (k : ℕ) (valued : IsValued (net_view net) values) (placed : (cause : Code) → IsMisplaced (net_view net) values cause k → ⊥) (params : Params) (from : IsStartedFrom net values typing k params) (over : director_over (net_view net) from.entity.parent ≡ Some Sdf) where
  abbrev vs : List ParameterValue
  vs = from.held.parameters.items

  -- the class of the actor may stand there
  inside : (name : List ℕ) → from.entity.class ≡ name → IsOutside name → ⊥
  inside name is o = placed code.Place (record { entity = from.entity; at = from.at; refused = barred (record { class = o.row; class_is = ap class_row is ∙ o.is; director = Sdf; over = over; barred = o.barred_there }) })

  -- it has no limit
  no-limit : (name : List ℕ) → from.entity.class ≡ name → is_some (class_row name) ≡ true → is_limited from.entity.class from.entity.parameters vs ≡ false
  no-limit name is some = not-both (is_limited from.entity.class from.entity.parameters vs) (λ most.
      placed code.Place (record {
        entity = from.entity;
        at = from.at;
        refused = limited (
            and_from (is_some (class_row from.entity.class)) (is_sdf (director_over (net_view net) from.entity.parent) && is_limited_with from.entity (slice_get values.entities.items k)) (ap (λ c. is_some (class_row c)) is ∙ some)
            (and_from (is_sdf (director_over (net_view net) from.entity.parent)) (is_limited_with from.entity (slice_get values.entities.items k)) (ap is_sdf over) (ap (is_limited_with from.entity) from.held_at ∙ most)));
      }))

  -- what it is started from under a name
  under-name : (class name : List ℕ) → from.entity.class ≡ class → is_composite_class class ≡ false → ((p : List ℕ) → is_evaluated (form_of class p) ≡ true) → value_under name params.values ≡ token_named from.entity.parameters vs name
  under-name class name is plain evaluated =
      let holds = holds-tokens from.entity vs (λ p. ap (λ c. is_evaluated (form_of c p)) is ∙ evaluated p) (given-all net values k from.entity from.held valued from.at from.held_at (ap is_composite_class is ∙ plain)) in
      ap (value_under name) from.from.values_are ∙ ap (λ t. value_under name (own_tokens from.entity.parameters vs ++ seen_tokens from.seen t)) (no-tree vs holds.held) ∙ named-token name from.entity.parameters vs holds.held

  no-count : (class : List ℕ) → from.entity.class ≡ class → is_some (class_row class) ≡ true → is_composite_class class ≡ false → ((p : List ℕ) → is_evaluated (form_of class p) ≡ true) → is_positive (value_under (codes "firingCountLimit") params.values) ≡ false
  no-count class is some plain evaluated =
      ap is_positive (under-name class (codes "firingCountLimit") is plain evaluated)
      ∙ or-left-false (is_positive (token_named from.entity.parameters vs (codes "firingCountLimit"))) (bytes_eq from.entity.class (codes "Sequence") && not (is_truth (token_named from.entity.parameters vs (codes "repeat")))) (no-limit class is some)

  repeats : from.entity.class ≡ codes "Sequence" → not (is_truth (value_under (codes "repeat") params.values)) ≡ false
  repeats is =
      let whole = no-limit (codes "Sequence") is sequence-there in
      let many = is_positive (token_named from.entity.parameters vs (codes "firingCountLimit")) in
      let once = bytes_eq from.entity.class (codes "Sequence") && not (is_truth (token_named from.entity.parameters vs (codes "repeat"))) in
      ap (λ o. not (is_truth o)) (under-name (codes "Sequence") (codes "repeat") is refl sequence-values)
      ∙ and-right-false (bytes_eq from.entity.class (codes "Sequence")) (not (is_truth (token_named from.entity.parameters vs (codes "repeat")))) (ap (λ c. bytes_eq c (codes "Sequence")) is) (or-right-false many once (or-left-false many once whole) whole)

  unlimited : (c : FlowClass) → from.entity.class ≡ flows.name_of c → IsUnlimited c params
  unlimited c is = record {
    switch = λ e. inside (codes "BooleanSwitch") (is ∙ ap flows.name_of e) switch-outside;
    select = λ e. inside (codes "BooleanSelect") (is ∙ ap flows.name_of e) select-outside;
    const = λ e. no-count (codes "Const") (is ∙ ap flows.name_of e) const-there refl const-values;
    ramp_is = λ e. no-count (codes "Ramp") (is ∙ ap flows.name_of e) ramp-there refl ramp-values;
    sequence_is = λ e. repeats (is ∙ ap flows.name_of e);
  }

  pub steady-started : (a : LibraryActor) → start params ≡ Some a → IsSteadyStart a
  steady-started a is = elim (one-of-four Flow Data Time Timed (flow_actor.start params) (data_actor.start params.class params.values params.ports) (time_actor.start params) (timed_actor.start params) a is) [
    | inl w ↦ (
        let c = flow-in (flow_actor.class_of params.class) params w.0 w.1 in
        let good = flow-good c.0 params w.0 (unlimited c.0 (sym from.from.class_is ∙ flows.class-named params.class c.0 c.1)) c.2 in
        subst IsSteadyStart w.2 (record { steady = good.0; rated = some-not-none (flow_actor.rates w.0) good.1 }))
    | inr (inl w) ↦ subst IsSteadyStart w.2 (record { steady = refl; rated = λ n. some-not-none (Some (data_actor.rates w.0)) refl n })
    | inr (inr (inl w)) ↦ (
        let c = signals.time-in (time_actor.class_of params.class) params w.0 w.1 in
        absurd (inside (signals.name_of c.0) (sym from.from.class_is ∙ signals.class-named params.class c.0 c.1) (time-outside c.0)))
    | inr (inr (inr w)) ↦ (
        let c = instants.timed-in (timed_actor.class_of params.class) params w.0 w.1 in
        absurd (inside (instants.name_of c.0) (sym from.from.class_is ∙ instants.class-named params.class c.0 c.1) (timed-outside c.0)))
  ]
