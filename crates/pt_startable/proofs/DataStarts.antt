-- Each class of data actors and each of synchronous models starts from parameters of the class.
use Rattle.std.proofs.Common.{◌≡◌, ℕ, List, [], ◌∷◌, Bool, true, false, not, Option, Some, None, IsTrue, ℤ, pos, negsuc, refl, sym, ap, ap₂, subst, ◌∙◌, if◌then◌else◌}
use Rattle.std.specs.Prelude.{codes, bytes_eq, option_map, int_lt, int_le, unsigned_abs}
use Rattle.std.specs.List.{AllByRecursion}
use Rattle.std.proofs.lemmas.Option.{none-some}
use Rattle.std.proofs.lemmas.Slice.Eq.{bytes_eq-Decides}
use Rattle.pt_value.specs.declared.token.Token.{Token}
use Rattle.pt_value.specs.declared.token.Token.TheVariants as token
use Rattle.pt_value.specs.Token.{value_of}
use Rattle.pt_document.specs.Names.{is_among}
use Rattle.pt_firing.specs.Params.{as_int, value_under, channels_to}
use Rattle.pt_flow_base.specs.declared.params.Params.{Params}
use Rattle.pt_scopes.specs.Forms.{forms, form_of, fits, comparisons, functions, gates}
use Rattle.pt_scopes.specs.Agreement.{standard_of, standard_integer, integer_of}
use Rattle.pt_lib_data.specs.declared.function.Class.{Class}
use Rattle.pt_lib_data.specs.declared.function.Class.TheVariants as class
use Rattle.pt_lib_data.specs.declared.function.Function.{Function}
use Rattle.pt_lib_data.specs.declared.function.Function.TheVariants as function
use Rattle.pt_lib_data.specs.declared.limiter.Limiter.{Limiter}
use Rattle.pt_lib_data.specs.Params.{as_text, text_or}
use Rattle.pt_lib_data.specs.ArrayElement as array_element
use Rattle.pt_lib_data.specs.Comparator as comparator
use Rattle.pt_lib_data.specs.Limiter as limiter
use Rattle.pt_lib_data.specs.LogicFunction as logic_function
use Rattle.pt_lib_data.specs.SequenceToArray as sequence_to_array
use Rattle.pt_lib_data.specs.Function.{start_as}
use Rattle.pt_lib_data.specs.DataActor.{with_needs, started_as}
use Rattle.pt_lib_time.specs.declared.time_actor.Class.{Class as TimeClass}
use Rattle.pt_lib_time.specs.declared.time_actor.Class.TheVariants as time_class
use Rattle.pt_lib_time.specs.declared.time_actor.TimeActor.TheVariants as time
use Rattle.pt_lib_time.specs.TimeActor as time_actor
use Rattle.pt_lib_time.specs.Absent as absent
use Rattle.pt_lib_time.specs.Current as current
use Rattle.pt_lib_time.specs.Default as fallback
use Rattle.pt_lib_time.specs.Merge as merge
use Rattle.pt_lib_time.specs.NonStrictDelay as non_strict_delay
use Rattle.pt_lib_time.specs.NonStrictLogicGate as non_strict_logic_gate
use Rattle.pt_lib_time.specs.NonStrictMux as non_strict_mux
use Rattle.pt_lib_time.specs.Pre as pre
use Rattle.pt_lib_time.specs.When as when
use Rattle.pt_typed.proofs.DataStarts.{name_of}
use Rattle.pt_typed.proofs.TimeStarts as signals
use Rattle.pt_startable.proofs.Held.{is_evaluated, words_of}
use Rattle.pt_startable.proofs.Required.{limiter-bottom, limiter-top}
use Rattle.pt_startable.proofs.Found.{IsThere, mapped-there, integer-there, within-there, at-most}
use Rattle.pt_startable.proofs.Facts.{AreOfClass}
use Rattle.pt_startable.proofs.FlowStarts.{number, count, found, integer-is}

-- ---- forms of parameters

element-index : form_of (codes "ArrayElement") (codes "index") ≡ number
unfolding form_of forms
element-index = refl

to-array : form_of (codes "SequenceToArray") (codes "arrayLength") ≡ count
unfolding form_of forms
to-array = refl

to-sequence : form_of (codes "ArrayToSequence") (codes "arrayLength") ≡ count
unfolding form_of forms
to-sequence = refl

comparison-words : words_of (form_of (codes "Comparator") (codes "comparison")) ≡ Some comparisons
unfolding form_of forms
comparison-words = refl

function-words : words_of (form_of (codes "LogicFunction") (codes "function")) ≡ Some functions
unfolding form_of forms
function-words = refl

gate-words : words_of (form_of (codes "NonStrictLogicGate") (codes "function")) ≡ Some gates
unfolding form_of forms
gate-words = refl

limit-bottom : form_of (codes "Limiter") (codes "bottom") ≡ number
unfolding form_of forms
limit-bottom = refl

limit-top : form_of (codes "Limiter") (codes "top") ≡ number
unfolding form_of forms
limit-top = refl

limit-standards : (standard_integer (standard_of (codes "Limiter") (codes "bottom")) ≡ pos 0) × (standard_integer (standard_of (codes "Limiter") (codes "top")) ≡ pos 0)
unfolding standard_of forms
limit-standards = (refl, refl)

-- ---- words

-- what holds of each of some words holds of one that is among them
among-all : (P : List ℕ → Type 0) (ws : List (List ℕ)) (text : List ℕ) → AllByRecursion P ws → is_among ws text ≡ true → P text
among-all P [] text all e = absurd (let h : false ≡ true = e in cc)
among-all P (w ∷ ws) text all e = chosen (bytes_eq w text) refl e (λ later. among-all P ws text all.1 later)
  where
    chosen : (b : Bool) → bytes_eq w text ≡ b → (if b then true else is_among ws text) ≡ true → (is_among ws text ≡ true → P text) → P text
    chosen true same h later = subst P ((bytes_eq-Decides w text).0 same) all.0
    chosen false same h later = later h

-- the text of a word that is found, or that stands for it
text-there : (default : List ℕ) (P : List ℕ → Type 0) (o : Option Token) → P default → ((t : Token) → o ≡ Some t → (text : List ℕ) × (t ≡ token.Text text) × P text) → (text : List ℕ) × (as_text default o ≡ Some text) × P text
text-there default P None d f = (default, refl, d)
text-there default P (Some t) d f = let w = f t refl in (w.0, ap (λ x. as_text default (Some x)) w.1, w.2)

word-there : (class name default : List ℕ) (allowed : List (List ℕ)) (params : Params) (P : List ℕ → Type 0) → AreOfClass class params → words_of (form_of class name) ≡ Some allowed → AllByRecursion P allowed → P default → (text : List ℕ) × (text_or name default params.values ≡ Some text) × P text
word-there class name default allowed params P of is all d = text-there default P (value_under name params.values) d (λ t h. let w = of.words name allowed is t h in (w.0, w.1, among-all P allowed w.0 all w.2))

relation-there : (params : Params) → AreOfClass (codes "Comparator") params → IsThere (comparator.start params.values)
relation-there params of =
    let w = word-there (codes "Comparator") (codes "comparison") (codes ">") comparisons params (λ text. IsThere (comparator.relation_of text)) of comparison-words ((_, refl), ((_, refl), ((_, refl), ((_, refl), ((_, refl), tt))))) (_, refl) in
    (w.2.0, ap comparator.relation_by w.1 ∙ w.2.1)

function-there : (params : Params) → AreOfClass (codes "LogicFunction") params → IsThere (logic_function.start params.values)
function-there params of =
    let w = word-there (codes "LogicFunction") (codes "function") (codes "and") functions params (λ text. IsThere (logic_function.gate_of text)) of function-words ((_, refl), ((_, refl), ((_, refl), ((_, refl), ((_, refl), ((_, refl), tt)))))) (_, refl) in
    (w.2.0, ap logic_function.gate_by w.1 ∙ w.2.1)

gate-of : (o : Option Token) → ((t : Token) → o ≡ Some t → (text : List ℕ) × (t ≡ token.Text text) × (is_among gates text ≡ true)) → IsThere (non_strict_logic_gate.gate_by o)
gate-of None f = (_, refl)
gate-of (Some t) f =
    let w = f t refl in
    let g = among-all (λ text. IsThere (non_strict_logic_gate.gate_of text)) gates w.0 ((_, refl), ((_, refl), tt)) w.2 in
    (g.0, ap (λ x. non_strict_logic_gate.gate_by (Some x)) w.1 ∙ g.1)

gate-there : (params : Params) → AreOfClass (codes "NonStrictLogicGate") params → IsThere (non_strict_logic_gate.start params)
gate-there params of =
    let g = gate-of (value_under (codes "function") params.values) (λ t h. of.words (codes "function") gates gate-words t h) in
    (_, ap (λ o. non_strict_logic_gate.start_by o (channels_to (codes "input") params.ports)) g.1)

-- ---- numbers

length-there : (class : List ℕ) (params : Params) → AreOfClass class params → form_of class (codes "arrayLength") ≡ count → IsThere (sequence_to_array.start params.values)
length-there class params of is =
    let w = within-there (pos 1) (pos 1000000) (pos 1) (value_under (codes "arrayLength") params.values) refl (found class (codes "arrayLength") count params of is refl) in
    (unsigned_abs w.0, ap (option_map unsigned_abs) w.2)

index-there : (params : Params) → AreOfClass (codes "ArrayElement") params → IsThere (array_element.start params.values)
index-there params of = integer-there (negsuc 9223372036854775807) (pos 9223372036854775807) (pos 0) (value_under (codes "index") params.values) (found (codes "ArrayElement") (codes "index") number params of element-index refl)

-- what is found of this form is an integer
is-integer : (t : Token) → IsTrue (fits number (value_of t)) → (n : ℤ) × (t ≡ token.Int n)
is-integer (token.Int n) f = (n, refl)
is-integer (token.Bool b) f = absurd (let h : false ≡ true = f in cc)
is-integer (token.Text t) f = absurd (let h : false ≡ true = f in cc)
is-integer (token.Array ts) f = absurd (let h : false ≡ true = f in cc)
is-integer (token.Record fs) f = absurd (let h : false ≡ true = f in cc)

abbrev range : ℤ → ℤ → Limiter
range m n = record { bottom = m; top = n }

range-by : (m n : ℤ) → int_le m n ≡ true → IsThere (limiter.start_by (Some (token.Int m)) (Some (token.Int n)))
range-by m n e = (range m n, ap (λ c. if c then Some (range m n) else None) e)

range-there : (params : Params) → AreOfClass (codes "Limiter") params → IsThere (limiter.start params.values)
range-there params of =
    let b = of.there (codes "bottom") (ap is_evaluated limit-bottom) limiter-bottom in
    let t = of.there (codes "top") (ap is_evaluated limit-top) limiter-top in
    let m = is-integer b.0 (found (codes "Limiter") (codes "bottom") number params of limit-bottom refl b.0 b.1) in
    let n = is-integer t.0 (found (codes "Limiter") (codes "top") number params of limit-top refl t.0 t.1) in
    let bottom = b.1 ∙ ap (λ x. Some x) m.1 in
    let top = t.1 ∙ ap (λ x. Some x) n.1 in
    let low = integer-is (codes "Limiter") (codes "bottom") (pos 0) params of m.0 (ap is_evaluated limit-bottom) limit-standards.0 (ap (as_int (pos 0)) bottom) in
    let high = integer-is (codes "Limiter") (codes "top") (pos 0) params of n.0 (ap is_evaluated limit-top) limit-standards.1 (ap (as_int (pos 0)) top) in
    let agreed : not (int_lt (integer_of (codes "Limiter") of.parameters (codes "top")) (integer_of (codes "Limiter") of.parameters (codes "bottom"))) ≡ true = of.agreed in
    let fit : not (int_lt n.0 m.0) ≡ true = ap₂ (λ x y. not (int_lt x y)) (sym high) (sym low) ∙ agreed in
    let w = range-by m.0 n.0 (at-most m.0 n.0 fit) in
    (w.0, ap₂ limiter.start_by bottom top ∙ w.1)

-- ---- class by class

there-mapped : {X Y : Type 0} (f : X → Y) (o : Option X) → IsThere o → IsThere (option_map f o)
there-mapped f o w = (f w.0, ap (option_map f) w.1)

function-starts : (c : Class) (params : Params) → AreOfClass (name_of c) params → IsThere (start_as c params.values params.ports)
function-starts class.ArrayElement params of = there-mapped function.ArrayElement (array_element.start params.values) (index-there params of)
function-starts class.ArrayToSequence params of = there-mapped function.ArrayToSequence (sequence_to_array.start params.values) (length-there (codes "ArrayToSequence") params of to-sequence)
function-starts class.Barrier params of = (_, refl)
function-starts class.Comparator params of = there-mapped function.Comparator (comparator.start params.values) (relation-there params of)
function-starts class.Discard params of = (_, refl)
function-starts class.ElementsToArray params of = (_, refl)
function-starts class.Equals params of = (_, refl)
function-starts class.Limiter params of = there-mapped function.Limiter (limiter.start params.values) (range-there params of)
function-starts class.LogicFunction params of = there-mapped function.LogicFunction (logic_function.start params.values) (function-there params of)
function-starts class.LogicalNot params of = (_, refl)
function-starts class.RecordAssembler params of = (_, refl)
function-starts class.RecordDisassembler params of = (_, refl)
function-starts class.SequenceToArray params of = there-mapped function.SequenceToArray (sequence_to_array.start params.values) (length-there (codes "SequenceToArray") params of to-array)
function-starts class.StringLength params of = (_, refl)

needs-none : (ports : List (List ℕ × ℕ)) (o : Option Function) → IsThere o → with_needs ports o ≡ None → ⊥
needs-none ports None w e = none-some w.0 w.1
needs-none ports (Some f) w e = none-some _ (sym e)

pub data-starts : (c : Class) (params : Params) → AreOfClass (name_of c) params → started_as c params.values params.ports ≡ None → ⊥
data-starts c params of e = needs-none params.ports (start_as c params.values params.ports) (function-starts c params of) e

pub time-starts : (c : TimeClass) (params : Params) → AreOfClass (signals.name_of c) params → time_actor.start_as c params ≡ None → ⊥
time-starts time_class.Absent params of e = mapped-there time.Absent (absent.start params) (_, refl) e
time-starts time_class.Current params of e = mapped-there time.Current (current.start params) (_, refl) e
time-starts time_class.Default params of e = mapped-there time.Default (fallback.start params) (_, refl) e
time-starts time_class.Merge params of e = mapped-there time.Merge (merge.start params) (_, refl) e
time-starts time_class.NonStrictDelay params of e = mapped-there time.NonStrictDelay (non_strict_delay.start params) (_, refl) e
time-starts time_class.NonStrictLogicGate params of e = mapped-there time.NonStrictLogicGate (non_strict_logic_gate.start params) (gate-there params of) e
time-starts time_class.NonStrictMux params of e = mapped-there time.NonStrictMux (non_strict_mux.start params) (_, refl) e
time-starts time_class.Pre params of e = mapped-there time.Pre (pre.start params) (_, refl) e
time-starts time_class.When params of e = mapped-there time.When (when.start params) (_, refl) e
