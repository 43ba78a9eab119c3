-- Each class of timed actors starts from parameters of the class.
use Rattle.std.proofs.Common.{◌≡◌, ℕ, List, [], ◌∷◌, length, true, ◌&&◌, nat_eq, Option, Some, None, IsTrue, ℤ, pos, negsuc, refl, sym, ap, ap₂, ◌∙◌, if◌then◌else◌}
use Rattle.std.specs.Prelude.{codes, option_map, unsigned_abs}
use Rattle.std.specs.List.{list_all}
use Rattle.std.proofs.lemmas.Bool.{and_parts, false≢true}
use Rattle.pt_value.specs.Value.{Value, Int, list_of-values_of}
use Rattle.pt_value.specs.declared.token.Token.{Token}
use Rattle.pt_value.specs.declared.token.Token.TheVariants as token
use Rattle.pt_value.specs.Token.{value_of}
use Rattle.pt_firing.specs.Params.{value_under}
use Rattle.pt_flow_base.specs.declared.params.Params.{Params}
use Rattle.pt_scopes.specs.declared.form.Form.{Form}
use Rattle.pt_scopes.specs.declared.form.Form.TheVariants as form
use Rattle.pt_scopes.specs.Forms.{forms, form_of, fits}
use Rattle.pt_scopes.specs.Agreement.{standard_of, standard_elements, elements_in, elements_of, integer_of, is_integer_below}
use Rattle.pt_lib_timed.specs.declared.timed_actor.TimedActor.TheVariants as timed
use Rattle.pt_lib_timed.specs.declared.timed_actor.Class.{Class}
use Rattle.pt_lib_timed.specs.declared.timed_actor.Class.TheVariants as class
use Rattle.pt_lib_timed.specs.declared.discrete_clock.DiscreteClock.{DiscreteClock}
use Rattle.pt_lib_timed.specs.Signal.{last_time, time_given}
use Rattle.pt_lib_timed.specs.TimedActor.{start_as}
use Rattle.pt_lib_timed.specs.CurrentTime as current_time
use Rattle.pt_lib_timed.specs.DiscreteClock as discrete_clock
use Rattle.pt_lib_timed.specs.Register as register
use Rattle.pt_lib_timed.specs.Sampler as sampler
use Rattle.pt_lib_timed.specs.Server as server
use Rattle.pt_lib_timed.specs.SingleEvent as single_event
use Rattle.pt_lib_timed.specs.TimeDelay as time_delay
use Rattle.pt_typed.proofs.TimedStarts.{name_of}
use Rattle.pt_startable.proofs.Held.{is_evaluated}
use Rattle.pt_startable.proofs.Required.{IsAsked, delay-delay, server-time, clock-period}
use Rattle.pt_startable.proofs.Found.{IsThere, mapped-there, within-there, held-within}
use Rattle.pt_startable.proofs.Facts.{AreOfClass}
use Rattle.pt_startable.proofs.FlowStarts.{found}

-- ---- forms of parameters

abbrev time : Form
time = form.Integer (pos 0) last_time

abbrev period : Form
period = form.Integer (pos 1) last_time

delay-form : form_of (codes "TimeDelay") (codes "delay") ≡ time
unfolding form_of forms
delay-form = refl

server-form : form_of (codes "Server") (codes "serviceTime") ≡ time
unfolding form_of forms
server-form = refl

event-form : form_of (codes "SingleEvent") (codes "time") ≡ time
unfolding form_of forms
event-form = refl

period-form : form_of (codes "DiscreteClock") (codes "period") ≡ period
unfolding form_of forms
period-form = refl

offsets-form : form_of (codes "DiscreteClock") (codes "offsets") ≡ form.Offsets
unfolding form_of forms
offsets-form = refl

values-form : form_of (codes "DiscreteClock") (codes "values") ≡ form.Array
unfolding form_of forms
values-form = refl

clock-standards : (standard_elements (standard_of (codes "DiscreteClock") (codes "offsets")) ≡ Int (pos 0) ∷ []) × (standard_elements (standard_of (codes "DiscreteClock") (codes "values")) ≡ Int (pos 1) ∷ [])
unfolding standard_of forms
clock-standards = (refl, refl)

-- ---- times

-- a time that the class asks for
time-there : (class name : List ℕ) (params : Params) → AreOfClass class params → form_of class name ≡ time → IsAsked class name → IsThere (time_given name params.values)
time-there class name params of is asked =
    let w = of.there name (ap is_evaluated is) asked in
    held-within (pos 0) last_time (negsuc 0) (value_under name params.values) w.0 w.1 (found class name time params of is refl)

delay-there : (params : Params) → AreOfClass (codes "TimeDelay") params → IsThere (time_delay.start params)
delay-there params of = (_, ap time_delay.start_by (time-there (codes "TimeDelay") (codes "delay") params of delay-form delay-delay).1)

server-there : (params : Params) → AreOfClass (codes "Server") params → IsThere (server.start params)
server-there params of = (_, ap server.start_by (time-there (codes "Server") (codes "serviceTime") params of server-form server-time).1)

event-there : (params : Params) → AreOfClass (codes "SingleEvent") params → IsThere (single_event.start params)
event-there params of =
    let w = within-there (pos 0) last_time (pos 0) (value_under (codes "time") params.values) refl (found (codes "SingleEvent") (codes "time") time params of event-form refl) in
    (_, ap (single_event.start_at (value_under (codes "value") params.values)) w.2)

-- ---- arrays

is-offsets : (t : Token) → IsTrue (fits form.Offsets (value_of t)) → (vs : List Value) × (t ≡ token.Array vs)
is-offsets (token.Array vs) f = (vs, refl)
is-offsets (token.Int n) f = absurd (false≢true f)
is-offsets (token.Bool b) f = absurd (false≢true f)
is-offsets (token.Text t) f = absurd (false≢true f)
is-offsets (token.Record fs) f = absurd (false≢true f)

is-array : (t : Token) → IsTrue (fits form.Array (value_of t)) → (vs : List Value) × (t ≡ token.Array vs)
is-array (token.Array vs) f = (vs, refl)
is-array (token.Int n) f = absurd (false≢true f)
is-array (token.Bool b) f = absurd (false≢true f)
is-array (token.Text t) f = absurd (false≢true f)
is-array (token.Record fs) f = absurd (false≢true f)

-- an array that is found, or the one that stands for it, is what is compared
array-there : (default : ℤ) (o : Option Token) → ((t : Token) → o ≡ Some t → (vs : List Value) × (t ≡ token.Array vs)) → (vs : List Value) × (discrete_clock.array_of default o ≡ Some vs) × (elements_in (option_map value_of o) (Int default ∷ []) ≡ vs)
array-there default None h = (Int default ∷ [], refl, refl)
array-there default (Some t) h =
    let w = h t refl in
    (w.0, ap (λ x. discrete_clock.array_of default (Some x)) w.1, ap (λ x. elements_in (Some (value_of x)) (Int default ∷ [])) w.1 ∙ list_of-values_of w.0)

-- the elements that have to agree with others
elements-are : (class name : List ℕ) (default : ℤ) (params : Params) (of : AreOfClass class params) (vs : List Value) → is_evaluated (form_of class name) ≡ true → standard_elements (standard_of class name) ≡ Int default ∷ [] → elements_in (option_map value_of (value_under name params.values)) (Int default ∷ []) ≡ vs → elements_of class of.parameters name ≡ vs
elements-are class name default params of vs e std h = ap (λ v. elements_in v (standard_elements (standard_of class name))) (of.same name e) ∙ ap (elements_in (option_map value_of (value_under name params.values))) std ∙ h

abbrev clock : ℤ → List Value → List Value → DiscreteClock
clock n xs ys = record { period = unsigned_abs n; offsets = xs; values = ys; round = 0; index = 0; places = 0 }

clock-started : (n : ℤ) (xs ys : List Value) → nat_eq (length xs) (length ys) ≡ true → IsThere (discrete_clock.start_of (Some n) (Some xs) (Some ys))
clock-started n xs ys e = (clock n xs ys, ap (λ b. if b then Some (clock n xs ys) else None) e)

clock-there : (params : Params) → AreOfClass (codes "DiscreteClock") params → IsThere (discrete_clock.start params)
clock-there params of =
    let w = of.there (codes "period") (ap is_evaluated period-form) clock-period in
    let p = held-within (pos 1) last_time (pos 0) (value_under (codes "period") params.values) w.0 w.1 (found (codes "DiscreteClock") (codes "period") period params of period-form refl) in
    let o = array-there (pos 0) (value_under (codes "offsets") params.values) (λ t h. is-offsets t (found (codes "DiscreteClock") (codes "offsets") form.Offsets params of offsets-form refl t h)) in
    let v = array-there (pos 1) (value_under (codes "values") params.values) (λ t h. is-array t (found (codes "DiscreteClock") (codes "values") form.Array params of values-form refl t h)) in
    let offsets = elements-are (codes "DiscreteClock") (codes "offsets") (pos 0) params of o.0 (ap is_evaluated offsets-form) clock-standards.0 o.2 in
    let values = elements-are (codes "DiscreteClock") (codes "values") (pos 1) params of v.0 (ap is_evaluated values-form) clock-standards.1 v.2 in
    let agreed : (list_all (is_integer_below (integer_of (codes "DiscreteClock") of.parameters (codes "period"))) (elements_of (codes "DiscreteClock") of.parameters (codes "offsets"))
    && nat_eq (length (elements_of (codes "DiscreteClock") of.parameters (codes "offsets"))) (length (elements_of (codes "DiscreteClock") of.parameters (codes "values")))) ≡ true = of.agreed in
    let both : nat_eq (length o.0) (length v.0) ≡ true = ap₂ (λ xs ys. nat_eq (length xs) (length ys)) (sym offsets) (sym values) ∙ (and_parts (list_all (is_integer_below (integer_of (codes "DiscreteClock") of.parameters (codes "period"))) (elements_of (codes "DiscreteClock") of.parameters (codes "offsets"))) _ agreed).1 in
    let s = clock-started p.0 o.0 v.0 both in (
      s.0,
      ap (λ n. discrete_clock.start_of n (discrete_clock.array_of (pos 0) (value_under (codes "offsets") params.values)) (discrete_clock.array_of (pos 1) (value_under (codes "values") params.values))) p.1
          ∙ ap₂ (discrete_clock.start_of (Some p.0)) o.1 v.1 ∙ s.1,
    )

-- ---- class by class

pub timed-starts : (c : Class) (params : Params) → AreOfClass (name_of c) params → start_as c params ≡ None → ⊥
timed-starts class.CurrentTime params of e = mapped-there timed.CurrentTime (current_time.start params) (_, refl) e
timed-starts class.DiscreteClock params of e = mapped-there timed.DiscreteClock (discrete_clock.start params) (clock-there params of) e
timed-starts class.Register params of e = mapped-there timed.Register (register.start params) (_, refl) e
timed-starts class.Sampler params of e = mapped-there timed.Sampler (sampler.start params) (_, refl) e
timed-starts class.Server params of e = mapped-there timed.Server (server.start params) (server-there params of) e
timed-starts class.SingleEvent params of e = mapped-there timed.SingleEvent (single_event.start params) (event-there params of) e
timed-starts class.TimeDelay params of e = mapped-there timed.TimeDelay (time_delay.start params) (delay-there params of) e
