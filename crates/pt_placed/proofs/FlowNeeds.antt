-- What each flow actor needs at its start: a count for each of its places, by the channels to its ports.
use Rattle.std.proofs.Common.{◌≡◌, ℕ, zero, suc, ◌+◌, ℤ, List, [], ◌∷◌, Bool, true, false, Option, Some, None, length, refl, sym, ap, subst, ◌∙◌, if◌then◌else◌}
use Rattle.std.specs.Prelude.{codes, option_map, unsigned_abs}
use Rattle.std.proofs.lemmas.Bool.{true≢false}
use Rattle.std.proofs.lemmas.Option.{none-some, same_Some}
use Rattle.pt_value.specs.declared.token.Token.{Token}
use Rattle.pt_value.specs.declared.token.Token.TheVariants as token
use Rattle.pt_datatypes.specs.Datatype.{Datatype}
use Rattle.pt_language.specs.declared.expr.Expr.{Expr}
use Rattle.pt_language.specs.Tree.{Tree}
use Rattle.pt_language.specs.Expr.{tree_of}
use Rattle.pt_language.proofs.ReaderSteps.{map_some}
use Rattle.pt_firing.specs.Params.{value_under, int_within, int_or, bool_or, channels_to, names_but}
use Rattle.pt_flow_base.specs.declared.params.Params.{Params}
use Rattle.pt_flow_base.specs.declared.limit.Limit.{Limit}
use Rattle.pt_flow_base.specs.Limit.{limit_of, limit_in, is_over, source_need}
use Rattle.pt_flow_base.specs.PortTypes.{type_named, with_typed, typed_names}
use Rattle.pt_flow_base.specs.Rates.{factor_and_phase, times_and_size}
use Rattle.pt_flow_numbers.specs.declared.absolute_value.AbsoluteValue as absolutes
use Rattle.pt_flow_numbers.specs.declared.accumulator.Accumulator as accumulators
use Rattle.pt_flow_numbers.specs.declared.add_subtract.AddSubtract as sums
use Rattle.pt_flow_numbers.specs.declared.counter.Counter as counters
use Rattle.pt_flow_numbers.specs.declared.extreme.Extreme as extremes
use Rattle.pt_flow_numbers.specs.declared.extreme.Side.TheVariants.{Greatest, Least}
use Rattle.pt_flow_numbers.specs.declared.multiply_divide.MultiplyDivide as products
use Rattle.pt_flow_numbers.specs.declared.ramp.Ramp as ramps
use Rattle.pt_flow_numbers.specs.declared.scale.Scale as scales
use Rattle.pt_flow_streams.specs.declared.boolean_switch.BooleanSwitch as switches
use Rattle.pt_flow_streams.specs.declared.constant.Const as constants
use Rattle.pt_flow_streams.specs.declared.down_sample.DownSample as fewer
use Rattle.pt_flow_streams.specs.declared.repeat.Repeat as repeats
use Rattle.pt_flow_streams.specs.declared.sample_delay.SampleDelay as delays
use Rattle.pt_flow_streams.specs.declared.sequence.Sequence as sequences
use Rattle.pt_flow_streams.specs.declared.up_sample.UpSample as more
use Rattle.pt_flow_numbers.specs.AbsoluteValue as absolute_value
use Rattle.pt_flow_numbers.specs.Accumulator as accumulator
use Rattle.pt_flow_numbers.specs.AddSubtract as add_subtract
use Rattle.pt_flow_numbers.specs.Counter as counter
use Rattle.pt_flow_numbers.specs.Extreme as extreme
use Rattle.pt_flow_numbers.specs.MultiplyDivide as multiply_divide
use Rattle.pt_flow_numbers.specs.Ramp as ramp
use Rattle.pt_flow_numbers.specs.Scale as scale
use Rattle.pt_flow_streams.specs.BooleanSelect as boolean_select
use Rattle.pt_flow_streams.specs.BooleanSwitch as boolean_switch
use Rattle.pt_flow_streams.specs.Const as constant
use Rattle.pt_flow_streams.specs.DownSample as down_sample
use Rattle.pt_flow_streams.specs.Repeat as repeat
use Rattle.pt_flow_streams.specs.SampleDelay as sample_delay
use Rattle.pt_flow_streams.specs.Sequence as sequence
use Rattle.pt_flow_streams.specs.UpSample as up_sample
use Rattle.pt_flow_streams.specs.declared.boolean_select.Turn.TheVariants.{Control}
use Rattle.pt_lib_flow.specs.Expression as expression
use Rattle.pt_formula.specs.Formula.{Formula, is_typed}
use Rattle.pt_lib_flow.specs.declared.flow_actor.Class.{Class}
use Rattle.pt_lib_flow.specs.declared.flow_actor.Class.TheVariants as class
use Rattle.pt_lib_flow.specs.declared.flow_actor.FlowActor.{FlowActor}
use Rattle.pt_lib_flow.specs.declared.flow_actor.FlowActor.TheVariants as flow
use Rattle.pt_lib_flow.specs.FlowActor.{need, start_as}
use Rattle.pt_placed.specs.Counted.{IsCounted}
use Rattle.pt_placed.proofs.Each.{each}

-- ---- how many places

-- the places of an actor of a class, to whose ports so many channels come
abbrev pub flow_places : Class → List (List ℕ × ℕ) → ℕ
flow_places class.AbsoluteValue ports = 1
flow_places class.Accumulator ports = channels_to (codes "reset") ports + 1
flow_places class.AddSubtract ports = channels_to (codes "plus") ports + channels_to (codes "minus") ports
flow_places class.BooleanSelect ports = 3
flow_places class.BooleanSwitch ports = 2
flow_places class.Const ports = channels_to (codes "trigger") ports
flow_places class.Counter ports = channels_to (codes "increment") ports + channels_to (codes "decrement") ports
flow_places class.DownSample ports = 1
flow_places class.Expression ports = length (names_but (codes "output") ports)
flow_places class.Maximum ports = channels_to (codes "input") ports
flow_places class.Minimum ports = channels_to (codes "input") ports
flow_places class.MultiplyDivide ports = channels_to (codes "multiply") ports + channels_to (codes "divide") ports
flow_places class.Ramp ports = channels_to (codes "trigger") ports
flow_places class.Repeat ports = 1
flow_places class.SampleDelay ports = 1
flow_places class.Scale ports = 1
flow_places class.Sequence ports = channels_to (codes "trigger") ports
flow_places class.UpSample ports = 1

-- ---- one token on each

accumulator-places : (o : Option ℤ) (n : ℕ) (x : accumulators.Accumulator) → accumulator.start_by o n ≡ Some x → x.places ≡ n + 1
accumulator-places None n x e = absurd (none-some x e)
accumulator-places (Some i) n x e = sym (ap (λ (y : accumulators.Accumulator). y.places) (same_Some _ x e))

scale-places : (o : Option ℤ) (x : scales.Scale) → scale.start_by o ≡ Some x → x.places ≡ 1
scale-places None x e = absurd (none-some x e)
scale-places (Some i) x e = sym (ap (λ (y : scales.Scale). y.places) (same_Some _ x e))

delay-places : (o : Option (List Token)) (x : delays.SampleDelay) → sample_delay.start_by o ≡ Some x → x.places ≡ 1
delay-places None x e = absurd (none-some x e)
delay-places (Some ts) x e = sym (ap (λ (y : delays.SampleDelay). y.places) (same_Some _ x e))

more-places : (o : Option (ℕ × ℕ)) (x : more.UpSample) → up_sample.start_by o ≡ Some x → x.places ≡ 1
more-places None x e = absurd (none-some x e)
more-places (Some (factor, phase)) x e = sym (ap (λ (y : more.UpSample). y.places) (same_Some _ x e))

-- ---- numbers of their own

fewer-counted : (o : Option (ℕ × ℕ)) (x : fewer.DownSample) → down_sample.start_by o ≡ Some x → IsCounted 1 (down_sample.need x)
fewer-counted None x e = absurd (none-some x e)
fewer-counted (Some (factor, phase)) x e = record { counts = x.needed; is = refl; counted = sym (ap (λ (y : fewer.DownSample). length y.needed) (same_Some _ x e)) }

repeat-counted : (o : Option (ℕ × ℕ)) (x : repeats.Repeat) → repeat.start_by o ≡ Some x → IsCounted 1 (repeat.need x)
repeat-counted None x e = absurd (none-some x e)
repeat-counted (Some (times, size)) x e = record { counts = x.needed; is = refl; counted = sym (ap (λ (y : repeats.Repeat). length y.needed) (same_Some _ x e)) }

-- ---- sources

-- none is over at its start: a limit of 0 is none, and any other leaves a firing
some-left : (n : ℕ) → is_over (limit_of n) ≡ false
some-left zero = refl
some-left (suc n) = refl

not-over : (o : Option ℤ) (limit : Limit) → option_map (λ n. limit_of (unsigned_abs n)) o ≡ Some limit → is_over limit ≡ false
not-over None limit e = absurd (none-some limit e)
not-over (Some n) limit e = ap is_over (sym (same_Some _ limit e)) ∙ some-left (unsigned_abs n)

source-counted : (n : ℕ) (over : Bool) → over ≡ false → IsCounted n (source_need over n)
source-counted n true e = absurd (true≢false e)
source-counted n false e = each n n refl

const-counted : (v : Option Token) (limit : Option Limit) (n : ℕ) (x : constants.Const) → ((l : Limit) → limit ≡ Some l → is_over l ≡ false) → constant.start_by v limit n ≡ Some x → IsCounted n (constant.need x)
const-counted (Some v) (Some l) n x h e = subst (λ (y : constants.Const). IsCounted n (constant.need y)) (same_Some _ x e) (source-counted n (is_over l) (h l refl))
const-counted (Some v) None n x h e = absurd (none-some x e)
const-counted None limit n x h e = absurd (none-some x e)

ramp-counted : (init step : Option ℤ) (limit : Option Limit) (n : ℕ) (x : ramps.Ramp) → ((l : Limit) → limit ≡ Some l → is_over l ≡ false) → ramp.start_by init step limit n ≡ Some x → IsCounted n (ramp.need x)
ramp-counted (Some i) (Some s) (Some l) n x h e = subst (λ (y : ramps.Ramp). IsCounted n (ramp.need y)) (same_Some _ x e) (source-counted n (is_over l) (h l refl))
ramp-counted (Some i) (Some s) None n x h e = absurd (none-some x e)
ramp-counted (Some i) None limit n x h e = absurd (none-some x e)
ramp-counted None step limit n x h e = absurd (none-some x e)

-- a Sequence has a value at least
sequence-counted : (v : Option Token) (cyclic : Option Bool) (n : ℕ) (x : sequences.Sequence) → sequence.start_by v cyclic n ≡ Some x → IsCounted n (sequence.need x)
sequence-counted (Some (token.Array (v ∷ vs))) (Some b) n x e = subst (λ (y : sequences.Sequence). IsCounted n (sequence.need y)) (same_Some (record { values = v ∷ vs; cyclic = b; index = 0; places = n }) x e) (each n n refl)
sequence-counted (Some (token.Array (v ∷ vs))) None n x e = absurd (none-some x e)
sequence-counted (Some (token.Array [])) b n x e = absurd (none-some x e)
sequence-counted (Some (token.Int i)) b n x e = absurd (none-some x e)
sequence-counted (Some (token.Bool t)) b n x e = absurd (none-some x e)
sequence-counted (Some (token.Text t)) b n x e = absurd (none-some x e)
sequence-counted (Some (token.Record fs)) b n x e = absurd (none-some x e)
sequence-counted None b n x e = absurd (none-some x e)

-- ---- an Expression

-- as many inputs are typed as there are names
with-typed : (name : List ℕ) (t : Option Datatype) (rest : Option (List (List ℕ × Datatype))) (xs : List (List ℕ × Datatype)) → with_typed name t rest ≡ Some xs → (ys : List (List ℕ × Datatype)) × (rest ≡ Some ys) × (length xs ≡ suc (length ys))
with-typed name (Some t) (Some ys) xs e = (ys, refl, sym (ap (λ (zs : List (List ℕ × Datatype)). length zs) (same_Some _ xs e)))
with-typed name (Some t) None xs e = absurd (none-some xs e)
with-typed name None rest xs e = absurd (none-some xs e)

typed-counted : (types : List (List ℕ × Datatype)) (names : List (List ℕ)) (xs : List (List ℕ × Datatype)) → typed_names types names ≡ Some xs → length xs ≡ length names
typed-counted types [] xs e = sym (ap (λ (zs : List (List ℕ × Datatype)). length zs) (same_Some _ xs e))
typed-counted types (name ∷ names) xs e = let w = with-typed name (type_named name types) (typed_names types names) xs e in w.2 ∙ ap (λ n. suc n) (typed-counted types names w.0 w.1)

typed-is : (f x : Formula) (b : Bool) → (if b then Some f else None) ≡ Some x → f ≡ x
typed-is f x true e = same_Some f x e
typed-is f x false e = absurd (none-some x e)

inputs-are : (values : List (List ℕ × Token)) (tree : Tree) (o : Option (List (List ℕ × Datatype))) (x : Formula) → expression.of_inputs values tree o ≡ Some x → o ≡ Some x.inputs
inputs-are values tree None x e = absurd (none-some x e)
inputs-are values tree (Some inputs) x e = let f : Formula = record { inputs = inputs; values = values; tree = tree } in ap (λ (g : Formula). Some g.inputs) (typed-is f x (is_typed f) e)

formula-counted : (o : Option Expr) (params : Params) (x : Formula) → expression.start_by o params ≡ Some x → IsCounted (length (names_but (codes "output") params.ports)) (expression.need x)
formula-counted None params x e = absurd (none-some x e)
formula-counted (Some expr) params x e =
    let names = names_but (codes "output") params.ports in
    each (length names) (length x.inputs) (typed-counted params.types names x.inputs (inputs-are params.values (tree_of expr) (typed_names params.types names) x e))

-- ---- class by class

started : {S : Type 0} (wrap : S → FlowActor) (o : Option S) (a : FlowActor) (n : ℕ) → option_map wrap o ≡ Some a → ((x : S) → o ≡ Some x → IsCounted n (need (wrap x))) → IsCounted n (need a)
started wrap o a n e h = let w = map_some wrap o a e in subst (λ (b : FlowActor). IsCounted n (need b)) w.2 (h w.0 w.1)

pub flow-counted : (c : Class) (params : Params) (a : FlowActor) → start_as c params ≡ Some a → IsCounted (flow_places c params.ports) (need a)
flow-counted class.AbsoluteValue params a e = started flow.AbsoluteValue (absolute_value.start params) a 1 e (λ x is. each 1 x.places (sym (ap (λ (y : absolutes.AbsoluteValue). y.places) (same_Some _ x is))))
flow-counted class.Accumulator params a e = started flow.Accumulator (accumulator.start params) a (flow_places class.Accumulator params.ports) e (λ x is. each (flow_places class.Accumulator params.ports) x.places (accumulator-places _ (channels_to (codes "reset") params.ports) x is))
flow-counted class.AddSubtract params a e = started flow.AddSubtract (add_subtract.start params) a (flow_places class.AddSubtract params.ports) e (λ x is. each (flow_places class.AddSubtract params.ports) x.places (sym (ap (λ (y : sums.AddSubtract). y.places) (same_Some _ x is))))
flow-counted class.BooleanSelect params a e =
    started flow.BooleanSelect (boolean_select.start params) a 3 e (λ x is. subst (λ y. IsCounted 3 (boolean_select.need y)) (same_Some Control x is) (record { counts = 0 ∷ 0 ∷ 1 ∷ []; is = refl; counted = refl }))
flow-counted class.BooleanSwitch params a e = started flow.BooleanSwitch (boolean_switch.start params) a 2 e (λ x is. each 2 x.places (sym (ap (λ (y : switches.BooleanSwitch). y.places) (same_Some _ x is))))
flow-counted class.Const params a e = started flow.Const (constant.start params) a (channels_to (codes "trigger") params.ports) e (λ x is. const-counted _ (limit_in params.values) (channels_to (codes "trigger") params.ports) x (not-over _) is)
flow-counted class.Counter params a e = started flow.Counter (counter.start params) a (flow_places class.Counter params.ports) e (λ x is. each (flow_places class.Counter params.ports) x.places (sym (ap (λ (y : counters.Counter). y.places) (same_Some _ x is))))
flow-counted class.DownSample params a e = started flow.DownSample (down_sample.start params) a 1 e (λ x is. fewer-counted (factor_and_phase params.values) x is)
flow-counted class.Expression params a e = started flow.Expression (expression.start params) a (flow_places class.Expression params.ports) e (λ x is. formula-counted params.tree params x is)
flow-counted class.Maximum params a e = started flow.Extreme (extreme.start Greatest params) a (channels_to (codes "input") params.ports) e (λ x is. each (channels_to (codes "input") params.ports) x.places (sym (ap (λ (y : extremes.Extreme). y.places) (same_Some _ x is))))
flow-counted class.Minimum params a e = started flow.Extreme (extreme.start Least params) a (channels_to (codes "input") params.ports) e (λ x is. each (channels_to (codes "input") params.ports) x.places (sym (ap (λ (y : extremes.Extreme). y.places) (same_Some _ x is))))
flow-counted class.MultiplyDivide params a e =
    started flow.MultiplyDivide (multiply_divide.start params) a (flow_places class.MultiplyDivide params.ports) e (λ x is. each (flow_places class.MultiplyDivide params.ports) x.places (sym (ap (λ (y : products.MultiplyDivide). y.places) (same_Some _ x is))))
flow-counted class.Ramp params a e = started flow.Ramp (ramp.start params) a (channels_to (codes "trigger") params.ports) e (λ x is. ramp-counted _ _ (limit_in params.values) (channels_to (codes "trigger") params.ports) x (not-over _) is)
flow-counted class.Repeat params a e = started flow.Repeat (repeat.start params) a 1 e (λ x is. repeat-counted (times_and_size params.values) x is)
flow-counted class.SampleDelay params a e = started flow.SampleDelay (sample_delay.start params) a 1 e (λ x is. each 1 x.places (delay-places _ x is))
flow-counted class.Scale params a e = started flow.Scale (scale.start params) a 1 e (λ x is. each 1 x.places (scale-places _ x is))
flow-counted class.Sequence params a e =
    started flow.Sequence (sequence.start params) a (channels_to (codes "trigger") params.ports) e (λ x is. sequence-counted (value_under (codes "values") params.values) (bool_or (codes "repeat") false params.values) (channels_to (codes "trigger") params.ports) x is)
flow-counted class.UpSample params a e = started flow.UpSample (up_sample.start params) a 1 e (λ x is. each 1 x.places (more-places _ x is))
