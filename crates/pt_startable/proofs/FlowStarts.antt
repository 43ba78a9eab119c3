-- Each class of flow actors starts from parameters of the class; an Expression apart.
use Rattle.std.proofs.Common.{◌≡◌, ℕ, List, [], ◌∷◌, Bool, true, false, not, ◌&&◌, Option, Some, None, IsTrue, ℤ, pos, negsuc, ◌*ℤ◌, refl, sym, ap, ap₂, subst, ◌∙◌, if◌then◌else◌}
use Rattle.std.specs.Prelude.{codes, option_map, int_lt, unsigned_abs, int_le}
use Rattle.std.proofs.lemmas.Option.{none-some, same_Some}
use Rattle.pt_value.specs.declared.token.Token.{Token}
use Rattle.pt_value.specs.declared.token.Token.TheVariants as token
use Rattle.pt_value.specs.Token.{value_of}
use Rattle.pt_firing.specs.Params.{value_under, as_int, only_within, channels_to}
use Rattle.pt_flow_base.specs.declared.params.Params.{Params}
use Rattle.pt_flow_base.specs.Limit.{limit_of, limit_in}
use Rattle.pt_flow_base.specs.Rates.{phased, factor_and_phase, repeated_block}
use Rattle.pt_scopes.specs.declared.form.Form.{Form}
use Rattle.pt_scopes.specs.declared.form.Form.TheVariants as form
use Rattle.pt_scopes.specs.Forms.{forms, form_of, fits}
use Rattle.pt_scopes.specs.Agreement.{standard_of, standard_integer, integer_in, integer_of}
use Rattle.pt_flow_numbers.specs.declared.extreme.Side.TheVariants.{Greatest, Least}
use Rattle.pt_lib_flow.specs.declared.flow_actor.FlowActor.TheVariants as flow
use Rattle.pt_lib_flow.specs.declared.flow_actor.Class.{Class}
use Rattle.pt_lib_flow.specs.declared.flow_actor.Class.TheVariants as class
use Rattle.pt_lib_flow.specs.FlowActor.{start_as}
use Rattle.pt_flow_numbers.specs.AbsoluteValue as absolute_value
use Rattle.pt_flow_numbers.specs.Accumulator as accumulator
use Rattle.pt_flow_numbers.specs.AddSubtract as add_subtract
use Rattle.pt_flow_streams.specs.BooleanSelect as boolean_select
use Rattle.pt_flow_streams.specs.BooleanSwitch as boolean_switch
use Rattle.pt_flow_streams.specs.Const as constant
use Rattle.pt_flow_numbers.specs.Counter as counter
use Rattle.pt_flow_streams.specs.DownSample as down_sample
use Rattle.pt_flow_numbers.specs.Extreme as extreme
use Rattle.pt_flow_numbers.specs.MultiplyDivide as multiply_divide
use Rattle.pt_flow_numbers.specs.Ramp as ramp
use Rattle.pt_flow_streams.specs.Repeat as repeat
use Rattle.pt_flow_streams.specs.SampleDelay as sample_delay
use Rattle.pt_flow_numbers.specs.Scale as scale
use Rattle.pt_flow_streams.specs.Sequence as sequence
use Rattle.pt_flow_streams.specs.UpSample as up_sample
use Rattle.pt_typed.proofs.FlowStarts.{name_of}
use Rattle.pt_startable.proofs.Held.{is_evaluated}
use Rattle.pt_startable.proofs.Required.{const-value, sequence-values}
use Rattle.pt_startable.proofs.Found.{IsThere, Fits, mapped-there, integer-there, within-there, integer-same, truth-there, phase-there, block-there}
use Rattle.pt_startable.proofs.Facts.{AreOfClass}

-- ---- forms of parameters

abbrev pub number : Form
number = form.Integer (negsuc 9223372036854775807) (pos 9223372036854775807)

abbrev pub count : Form
count = form.Integer (pos 1) (pos 1000000)

abbrev firings : Form
firings = form.Integer (pos 0) (pos 1000000000)

pub found : (class name : List ℕ) (f : Form) (params : Params) → AreOfClass class params → form_of class name ≡ f → is_evaluated f ≡ true → Fits f (value_under name params.values)
found class name f params of is e t h = subst (λ g. IsTrue (fits g (value_of t))) is (of.fit name (ap is_evaluated is ∙ e) t h)

-- the integer that has to agree with another
pub integer-is : (class name : List ℕ) (default : ℤ) (params : Params) (of : AreOfClass class params) (n : ℤ) → is_evaluated (form_of class name) ≡ true → standard_integer (standard_of class name) ≡ default → as_int default (value_under name params.values) ≡ Some n → integer_of class of.parameters name ≡ n
integer-is class name default params of n e std h =
    ap (λ v. integer_in v (standard_integer (standard_of class name))) (of.same name e) ∙ ap (integer_in (option_map value_of (value_under name params.values))) std ∙ integer-same default (value_under name params.values) n h

accumulator-init : form_of (codes "Accumulator") (codes "init") ≡ number
unfolding form_of forms
accumulator-init = refl

const-any : form_of (codes "Const") (codes "value") ≡ form.Any
unfolding form_of forms
const-any = refl

const-limit : form_of (codes "Const") (codes "firingCountLimit") ≡ firings
unfolding form_of forms
const-limit = refl

down-factor : form_of (codes "DownSample") (codes "factor") ≡ count
unfolding form_of forms
down-factor = refl

down-phase : form_of (codes "DownSample") (codes "phase") ≡ number
unfolding form_of forms
down-phase = refl

down-standards : (standard_integer (standard_of (codes "DownSample") (codes "factor")) ≡ pos 2) × (standard_integer (standard_of (codes "DownSample") (codes "phase")) ≡ pos 0)
unfolding standard_of forms
down-standards = (refl, refl)

up-factor : form_of (codes "UpSample") (codes "factor") ≡ count
unfolding form_of forms
up-factor = refl

up-phase : form_of (codes "UpSample") (codes "phase") ≡ number
unfolding form_of forms
up-phase = refl

up-standards : (standard_integer (standard_of (codes "UpSample") (codes "factor")) ≡ pos 2) × (standard_integer (standard_of (codes "UpSample") (codes "phase")) ≡ pos 0)
unfolding standard_of forms
up-standards = (refl, refl)

ramp-init : form_of (codes "Ramp") (codes "init") ≡ number
unfolding form_of forms
ramp-init = refl

ramp-step : form_of (codes "Ramp") (codes "step") ≡ number
unfolding form_of forms
ramp-step = refl

ramp-limit : form_of (codes "Ramp") (codes "firingCountLimit") ≡ firings
unfolding form_of forms
ramp-limit = refl

repeat-times : form_of (codes "Repeat") (codes "numberOfTimes") ≡ count
unfolding form_of forms
repeat-times = refl

repeat-size : form_of (codes "Repeat") (codes "blockSize") ≡ count
unfolding form_of forms
repeat-size = refl

repeat-standards : (standard_integer (standard_of (codes "Repeat") (codes "numberOfTimes")) ≡ pos 2) × (standard_integer (standard_of (codes "Repeat") (codes "blockSize")) ≡ pos 1)
unfolding standard_of forms
repeat-standards = (refl, refl)

delay-initial : form_of (codes "SampleDelay") (codes "initialOutputs") ≡ form.Array
unfolding form_of forms
delay-initial = refl

scale-factor : form_of (codes "Scale") (codes "factor") ≡ number
unfolding form_of forms
scale-factor = refl

sequence-array : form_of (codes "Sequence") (codes "values") ≡ form.FullArray
unfolding form_of forms
sequence-array = refl

sequence-repeat : form_of (codes "Sequence") (codes "repeat") ≡ form.Truth
unfolding form_of forms
sequence-repeat = refl

-- ---- what is started from

limit-there : (class : List ℕ) (params : Params) → AreOfClass class params → form_of class (codes "firingCountLimit") ≡ firings → IsThere (limit_in params.values)
limit-there class params of is =
    let w = within-there (pos 0) (pos 1000000000) (pos 0) (value_under (codes "firingCountLimit") params.values) refl (found class (codes "firingCountLimit") firings params of is refl) in
    (limit_of (unsigned_abs w.0), ap (option_map (λ n. limit_of (unsigned_abs n))) w.2)

-- a factor and a phase of a class that asks for both
factor-there : (class : List ℕ) (params : Params) (of : AreOfClass class params) → form_of class (codes "factor") ≡ count → form_of class (codes "phase") ≡ number → standard_integer (standard_of class (codes "factor")) ≡ pos 2 → standard_integer (standard_of class (codes "phase")) ≡ pos 0
    → (not (int_lt (integer_of class of.parameters (codes "phase")) (pos 0)) && int_lt (integer_of class of.parameters (codes "phase")) (integer_of class of.parameters (codes "factor"))) ≡ true → IsThere (factor_and_phase params.values)
factor-there class params of factor_is phase_is factor_std phase_std agreed =
    let f = within-there (pos 1) (pos 1000000) (pos 2) (value_under (codes "factor") params.values) refl (found class (codes "factor") count params of factor_is refl) in
    let p = integer-there (negsuc 9223372036854775807) (pos 9223372036854775807) (pos 0) (value_under (codes "phase") params.values) (found class (codes "phase") number params of phase_is refl) in
    let a = integer-is class (codes "factor") (pos 2) params of f.0 (ap is_evaluated factor_is) factor_std f.1 in
    let b = integer-is class (codes "phase") (pos 0) params of p.0 (ap is_evaluated phase_is) phase_std p.1 in
    let both : (not (int_lt p.0 (pos 0)) && int_lt p.0 f.0) ≡ true = ap₂ (λ m n. not (int_lt n (pos 0)) && int_lt n m) (sym a) (sym b) ∙ agreed in
    let w = phase-there f.0 p.0 both in
    (w.0, ap₂ phased f.2 p.1 ∙ w.1)

down-started : (p : ℕ × ℕ) → IsThere (down_sample.start_by (Some p))
down-started (a, b) = (_, refl)

down-there : (params : Params) → AreOfClass (codes "DownSample") params → IsThere (down_sample.start params)
down-there params of =
    let p = factor-there (codes "DownSample") params of down-factor down-phase down-standards.0 down-standards.1 of.agreed in
    let s = down-started p.0 in
    (s.0, ap down_sample.start_by p.1 ∙ s.1)

up-started : (p : ℕ × ℕ) → IsThere (up_sample.start_by (Some p))
up-started (a, b) = (_, refl)

up-there : (params : Params) → AreOfClass (codes "UpSample") params → IsThere (up_sample.start params)
up-there params of =
    let p = factor-there (codes "UpSample") params of up-factor up-phase up-standards.0 up-standards.1 of.agreed in
    let s = up-started p.0 in
    (s.0, ap up_sample.start_by p.1 ∙ s.1)

repeat-started : (p : ℕ × ℕ) → IsThere (repeat.start_by (Some p))
repeat-started (a, b) = (_, refl)

least-of : (n : ℤ) (o : Option ℤ) → only_within (pos 1) (pos 1000000) o ≡ Some n → int_le (pos 1) n ≡ true
least-of n None e = absurd (none-some n e)
least-of n (Some m) e = chosen (int_le (pos 1) m) refl (int_le m (pos 1000000)) e
  where
    chosen : (b : Bool) → int_le (pos 1) m ≡ b → (c : Bool) → (if b && c then Some m else None) ≡ Some n → int_le (pos 1) n ≡ true
    chosen true is true h = subst (λ k. int_le (pos 1) k ≡ true) (same_Some m n h) is
    chosen true is false h = absurd (none-some n h)
    chosen false is c h = absurd (none-some n h)

repeat-there : (params : Params) → AreOfClass (codes "Repeat") params → IsThere (repeat.start params)
repeat-there params of =
    let t = within-there (pos 1) (pos 1000000) (pos 2) (value_under (codes "numberOfTimes") params.values) refl (found (codes "Repeat") (codes "numberOfTimes") count params of repeat-times refl) in
    let n = within-there (pos 1) (pos 1000000) (pos 1) (value_under (codes "blockSize") params.values) refl (found (codes "Repeat") (codes "blockSize") count params of repeat-size refl) in
    let a = integer-is (codes "Repeat") (codes "numberOfTimes") (pos 2) params of t.0 (ap is_evaluated repeat-times) repeat-standards.0 t.1 in
    let b = integer-is (codes "Repeat") (codes "blockSize") (pos 1) params of n.0 (ap is_evaluated repeat-size) repeat-standards.1 n.1 in
    let agreed : not (int_lt (pos 1000000) (integer_of (codes "Repeat") of.parameters (codes "numberOfTimes") *ℤ integer_of (codes "Repeat") of.parameters (codes "blockSize"))) ≡ true = of.agreed in
    let few : not (int_lt (pos 1000000) (t.0 *ℤ n.0)) ≡ true = ap₂ (λ x y. not (int_lt (pos 1000000) (x *ℤ y))) (sym a) (sym b) ∙ agreed in
    let w = block-there t.0 n.0 (least-of t.0 (as_int (pos 2) (value_under (codes "numberOfTimes") params.values)) t.2) (least-of n.0 (as_int (pos 1) (value_under (codes "blockSize") params.values)) n.2) few in
    let s = repeat-started w.0 in
    (s.0, ap repeat.start_by (ap₂ repeated_block t.2 n.2 ∙ w.1) ∙ s.1)

accumulator-there : (params : Params) → AreOfClass (codes "Accumulator") params → IsThere (accumulator.start params)
accumulator-there params of =
    let n = integer-there (negsuc 9223372036854775807) (pos 9223372036854775807) (pos 0) (value_under (codes "init") params.values) (found (codes "Accumulator") (codes "init") number params of accumulator-init refl) in
    (_, ap (λ o. accumulator.start_by o (channels_to (codes "reset") params.ports)) n.1)

scale-there : (params : Params) → AreOfClass (codes "Scale") params → IsThere (scale.start params)
scale-there params of =
    let n = integer-there (negsuc 9223372036854775807) (pos 9223372036854775807) (pos 1) (value_under (codes "factor") params.values) (found (codes "Scale") (codes "factor") number params of scale-factor refl) in
    (_, ap scale.start_by n.1)

const-there : (params : Params) → AreOfClass (codes "Const") params → IsThere (constant.start params)
const-there params of =
    let v = of.there (codes "value") (ap is_evaluated const-any) const-value in
    let l = limit-there (codes "Const") params of const-limit in
    (_, ap₂ (λ o m. constant.start_by o m (channels_to (codes "trigger") params.ports)) v.1 l.1)

ramp-there : (params : Params) → AreOfClass (codes "Ramp") params → IsThere (ramp.start params)
ramp-there params of =
    let i = integer-there (negsuc 9223372036854775807) (pos 9223372036854775807) (pos 0) (value_under (codes "init") params.values) (found (codes "Ramp") (codes "init") number params of ramp-init refl) in
    let s = integer-there (negsuc 9223372036854775807) (pos 9223372036854775807) (pos 1) (value_under (codes "step") params.values) (found (codes "Ramp") (codes "step") number params of ramp-step refl) in
    let l = limit-there (codes "Ramp") params of ramp-limit in
    (_, ap₂ (λ a b. ramp.start_by a b (limit_in params.values) (channels_to (codes "trigger") params.ports)) i.1 s.1 ∙ ap (λ m. ramp.start_by (Some i.0) (Some s.0) m (channels_to (codes "trigger") params.ports)) l.1)

initial-there : (o : Option Token) → Fits form.Array o → IsThere (sample_delay.initial_of o)
initial-there None f = (_, refl)
initial-there (Some (token.Array vs)) f = (_, refl)
initial-there (Some (token.Int n)) f = absurd (let h : false ≡ true = f (token.Int n) refl in cc)
initial-there (Some (token.Bool b)) f = absurd (let h : false ≡ true = f (token.Bool b) refl in cc)
initial-there (Some (token.Text t)) f = absurd (let h : false ≡ true = f (token.Text t) refl in cc)
initial-there (Some (token.Record fs)) f = absurd (let h : false ≡ true = f (token.Record fs) refl in cc)

delay-there : (params : Params) → AreOfClass (codes "SampleDelay") params → IsThere (sample_delay.start params)
delay-there params of =
    let w = initial-there (value_under (codes "initialOutputs") params.values) (found (codes "SampleDelay") (codes "initialOutputs") form.Array params of delay-initial refl) in
    (_, ap sample_delay.start_by w.1)

values-there : (t : Token) (b : Bool) (n : ℕ) → IsTrue (fits form.FullArray (value_of t)) → IsThere (sequence.start_by (Some t) (Some b) n)
values-there (token.Array (v ∷ vs)) b n f = (_, refl)
values-there (token.Array []) b n f = absurd (let h : false ≡ true = f in cc)
values-there (token.Int i) b n f = absurd (let h : false ≡ true = f in cc)
values-there (token.Bool c) b n f = absurd (let h : false ≡ true = f in cc)
values-there (token.Text t) b n f = absurd (let h : false ≡ true = f in cc)
values-there (token.Record fs) b n f = absurd (let h : false ≡ true = f in cc)

sequence-there : (params : Params) → AreOfClass (codes "Sequence") params → IsThere (sequence.start params)
sequence-there params of =
    let v = of.there (codes "values") (ap is_evaluated sequence-array) sequence-values in
    let b = truth-there false (value_under (codes "repeat") params.values) (found (codes "Sequence") (codes "repeat") form.Truth params of sequence-repeat refl) in
    let w = values-there v.0 b.0 (channels_to (codes "trigger") params.ports) (found (codes "Sequence") (codes "values") form.FullArray params of sequence-array refl v.0 v.1) in
    (w.0, ap₂ (λ o c. sequence.start_by o c (channels_to (codes "trigger") params.ports)) v.1 b.1 ∙ w.1)

-- ---- class by class

pub flow-starts : (c : Class) (params : Params) → (c ≡ class.Expression → ⊥) → AreOfClass (name_of c) params → start_as c params ≡ None → ⊥
flow-starts class.AbsoluteValue params other of e = mapped-there flow.AbsoluteValue (absolute_value.start params) (_, refl) e
flow-starts class.Accumulator params other of e = mapped-there flow.Accumulator (accumulator.start params) (accumulator-there params of) e
flow-starts class.AddSubtract params other of e = mapped-there flow.AddSubtract (add_subtract.start params) (_, refl) e
flow-starts class.BooleanSelect params other of e = mapped-there flow.BooleanSelect (boolean_select.start params) (_, refl) e
flow-starts class.BooleanSwitch params other of e = mapped-there flow.BooleanSwitch (boolean_switch.start params) (_, refl) e
flow-starts class.Const params other of e = mapped-there flow.Const (constant.start params) (const-there params of) e
flow-starts class.Counter params other of e = mapped-there flow.Counter (counter.start params) (_, refl) e
flow-starts class.DownSample params other of e = mapped-there flow.DownSample (down_sample.start params) (down-there params of) e
flow-starts class.Expression params other of e = other refl
flow-starts class.Maximum params other of e = mapped-there flow.Extreme (extreme.start Greatest params) (_, refl) e
flow-starts class.Minimum params other of e = mapped-there flow.Extreme (extreme.start Least params) (_, refl) e
flow-starts class.MultiplyDivide params other of e = mapped-there flow.MultiplyDivide (multiply_divide.start params) (_, refl) e
flow-starts class.Ramp params other of e = mapped-there flow.Ramp (ramp.start params) (ramp-there params of) e
flow-starts class.Repeat params other of e = mapped-there flow.Repeat (repeat.start params) (repeat-there params of) e
flow-starts class.SampleDelay params other of e = mapped-there flow.SampleDelay (sample_delay.start params) (delay-there params of) e
flow-starts class.Scale params other of e = mapped-there flow.Scale (scale.start params) (scale-there params of) e
flow-starts class.Sequence params other of e = mapped-there flow.Sequence (sequence.start params) (sequence-there params of) e
flow-starts class.UpSample params other of e = mapped-there flow.UpSample (up_sample.start params) (up-there params of) e
