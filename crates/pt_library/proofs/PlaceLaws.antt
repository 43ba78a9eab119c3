-- An actor has as many places whatever it fires. A steady one needs the same; of the others each has a number of places of its own.
use Rattle.std.proofs.Common.{◌≡◌, ◌⊎◌, inl, inr, ℕ, List, [], ◌∷◌, length, replicate, Bool, true, false, Option, Some, None, refl, sym, ap, subst, ◌∙◌, if◌then◌else◌, ℤ}
use Rattle.std.proofs.lemmas.List.{length-replicate}
use Rattle.pt_meaning.specs.Basics.{Tag, Streams}
use Rattle.pt_meaning.specs.Machine.{Counts, Any}
use Rattle.pt_meaning.specs.Node.{Answer, Gives, Fails}
use Rattle.pt_meaning.specs.Closed.{on_answer}
use Rattle.pt_value.specs.Token.{token_of}
use Rattle.pt_value.specs.Value.{Value}
use Rattle.pt_value.specs.declared.token.Token.{Token}
use Rattle.pt_value.specs.declared.token.Token.TheVariants as token
use Rattle.pt_firing.specs.RunFault.{code_of}
use Rattle.pt_firing.specs.declared.fault.RunFault.TheVariants.{Overflow}
use Rattle.pt_flow_base.specs.declared.limit.Limit.{Limit}
use Rattle.pt_flow_base.specs.declared.limit.Limit.TheVariants.{Endless, Left}
use Rattle.pt_flow_base.specs.Limit.{is_over, is_endless, after_one, is_called, source, source_need}
use Rattle.pt_flow_base.specs.Row.{one_each, gives, rests, exactly, fits_i64, token_at, truth_at, on_present}
use Rattle.pt_flow_streams.specs.declared.boolean_select.Turn.{Turn}
use Rattle.pt_flow_streams.specs.declared.boolean_select.Turn.TheVariants.{Control, Input}
use Rattle.pt_flow_streams.specs.declared.sequence.Sequence as sequences
use Rattle.pt_flow_streams.specs.BooleanSelect as boolean_select
use Rattle.pt_flow_streams.specs.Const as constant
use Rattle.pt_flow_streams.specs.Sequence as sequence
use Rattle.pt_flow_numbers.specs.Ramp as ramp
use Rattle.pt_lib_flow.specs.declared.flow_actor.FlowActor.{FlowActor}
use Rattle.pt_lib_flow.specs.declared.flow_actor.FlowActor.TheVariants.{AbsoluteValue, Accumulator, AddSubtract, BooleanSelect, BooleanSwitch, Const, Counter, DownSample, Expression, Extreme, MultiplyDivide, Ramp, Repeat, SampleDelay, Scale, Sequence, UpSample}
use Rattle.pt_lib_flow.specs.FlowActor as flow_actor
use Rattle.pt_lib_flow.proofs.Steadiness.{Leaves, held}
use Rattle.pt_lib_time.specs.TimeActor as time_actor
use Rattle.pt_lib_time.proofs.Giving as time_laws
use Rattle.pt_library.specs.declared.library_actor.LibraryActor.{LibraryActor}
use Rattle.pt_library.specs.declared.library_actor.LibraryActor.TheVariants.{Flow, Data, Time, Timed}
use Rattle.pt_library.specs.LibraryActor as library
use Rattle.pt_library.specs.Steady.{after, HasPlaces}
use Rattle.pt_library.proofs.RowLaws.{held-gives}
use Rattle.pt_library.proofs.SteadyLaws as steady_laws

-- ---- how many places an actor has that isn't steady

ones : (places : ℕ) (ns : List ℕ) → one_each places ≡ Counts ns → length ns ≡ places
ones places ns e = let same : replicate places 1 ≡ ns = cc in sym (ap (λ (v : List ℕ). length v) same) ∙ length-replicate places 1

by-limit : (over : Bool) (places : ℕ) (ns : List ℕ) → source_need over places ≡ Counts ns → length ns ≡ places
by-limit true places ns e = cc
by-limit false places ns e = ones places ns e

by-value : (places : ℕ) (o : Option Value) (ns : List ℕ) → sequence.need_by places o ≡ Counts ns → length ns ≡ places
by-value places None ns e = cc
by-value places (Some value) ns e = ones places ns e

by-turn : (turn : Turn) (ns : List ℕ) → boolean_select.need turn ≡ Counts ns → length ns ≡ 3
by-turn Control ns e = let same : 0 ∷ 0 ∷ 1 ∷ [] ≡ ns = cc in sym (ap (λ (v : List ℕ). length v) same)
by-turn (Input true) ns e = let same : 1 ∷ 0 ∷ 0 ∷ [] ≡ ns = cc in sym (ap (λ (v : List ℕ). length v) same)
by-turn (Input false) ns e = let same : 0 ∷ 1 ∷ 0 ∷ [] ≡ ns = cc in sym (ap (λ (v : List ℕ). length v) same)

flow-places : (a : FlowActor) → flow_actor.is_steady a ≡ false → (ns : List ℕ) → flow_actor.need a ≡ Counts ns → length ns ≡ flow_actor.places a
flow-places (AbsoluteValue a) e ns h = cc
flow-places (Accumulator a) e ns h = cc
flow-places (AddSubtract a) e ns h = cc
flow-places (BooleanSelect a) e ns h = by-turn a ns h
flow-places (BooleanSwitch a) e ns h = cc
flow-places (Const a) e ns h = by-limit (is_over a.limit) a.places ns h
flow-places (Counter a) e ns h = cc
flow-places (DownSample a) e ns h = cc
flow-places (Expression a) e ns h = cc
flow-places (Extreme a) e ns h = cc
flow-places (MultiplyDivide a) e ns h = cc
flow-places (Ramp a) e ns h = by-limit (is_over a.limit) a.places ns h
flow-places (Repeat a) e ns h = cc
flow-places (SampleDelay a) e ns h = cc
flow-places (Scale a) e ns h = cc
flow-places (Sequence a) e ns h = by-value a.places (sequence.due a) ns h
flow-places (UpSample a) e ns h = cc

-- ---- it keeps them

-- it isn't steady, and has as many places
abbrev Same : FlowActor → FlowActor → Type 0
Same a b = (flow_actor.is_steady b ≡ false) × (flow_actor.places b ≡ flow_actor.places a)

called : {A : Type 0} (P : A → Type 0) (over : Bool) (X : Streams Token) (a : A) (r : Answer Token A) → P a → Leaves P r → Leaves P (source over X a r)
called P true X a r p h = p
called P false X a r p h = by_test (is_called X)
  where
    by_test : (b : Bool) → Leaves P (if b then r else rests a)
    by_test true = h
    by_test false = p

exact : {A : Type 0} (P : A → Type 0) (after : A) (n : ℤ) → P after → Leaves P (exactly after n)
exact P after n p = by_test (fits_i64 n)
  where
    by_test : (b : Bool) → Leaves P (if b then gives after (token.Int n) else Fails (code_of Overflow))
    by_test true = p
    by_test false = tt

-- a source with a limit has one after a firing
limited-after : (l : Limit) → is_endless l ≡ false → is_endless (after_one l) ≡ false
limited-after Endless e = cc
limited-after (Left n) e = refl

sequence-given : (a : sequences.Sequence) (X : Streams Token) (o : Option Value) → a.cyclic ≡ false → Leaves (λ s. Same (Sequence a) (Sequence s)) (sequence.given a X o)
sequence-given a X None e = (e, refl)
sequence-given a X (Some v) e = by_test (is_called X)
  where
    by_test : (b : Bool) → Leaves (λ s. Same (Sequence a) (Sequence s)) (if b then gives (sequence.moved a) (token_of v) else rests a)
    by_test true = (e, refl)
    by_test false = (e, refl)

named : (a : Turn) (o : Option Bool) → Leaves (λ s. Same (BooleanSelect a) (BooleanSelect s)) (boolean_select.named o)
named a None = (refl, refl)
named a (Some control) = (refl, refl)

passed : (a stays : Turn) (o : Option Token) → Leaves (λ s. Same (BooleanSelect a) (BooleanSelect s)) (on_present stays (gives Control) o)
passed a stays None = (refl, refl)
passed a stays (Some t) = (refl, refl)

selected : (tag : Tag) (a : Turn) (X : Streams Token) → Leaves (λ s. Same (BooleanSelect a) (BooleanSelect s)) (boolean_select.step tag a X)
selected tag Control X = named Control (truth_at X 2)
selected tag (Input true) X = passed (Input true) (Input true) (token_at X 0)
selected tag (Input false) X = passed (Input false) (Input false) (token_at X 1)

flow-leaves : (tag : Tag) (a : FlowActor) (X : Streams Token) → flow_actor.is_steady a ≡ false → Leaves (Same a) (flow_actor.step tag a X)
flow-leaves tag (AbsoluteValue a) X e = cc
flow-leaves tag (Accumulator a) X e = cc
flow-leaves tag (AddSubtract a) X e = cc
flow-leaves tag (BooleanSelect a) X e = held BooleanSelect (Same (BooleanSelect a)) (boolean_select.step tag a X) (selected tag a X)
flow-leaves tag (BooleanSwitch a) X e = cc
flow-leaves tag (Const a) X e = held Const (Same (Const a)) (constant.step tag a X) (called (λ s. Same (Const a) (Const s)) (is_over a.limit) X a (gives (record a { limit = after_one a.limit }) a.value) (e, refl) (limited-after a.limit e, refl))
flow-leaves tag (Counter a) X e = cc
flow-leaves tag (DownSample a) X e = cc
flow-leaves tag (Expression a) X e = cc
flow-leaves tag (Extreme a) X e = cc
flow-leaves tag (MultiplyDivide a) X e = cc
flow-leaves tag (Ramp a) X e = held Ramp (Same (Ramp a)) (ramp.step tag a X) (called (λ s. Same (Ramp a) (Ramp s)) (is_over a.limit) X a (exactly (ramp.fired a) a.next) (e, refl) (exact (λ s. Same (Ramp a) (Ramp s)) (ramp.fired a) a.next (limited-after a.limit e, refl)))
flow-leaves tag (Repeat a) X e = cc
flow-leaves tag (SampleDelay a) X e = cc
flow-leaves tag (Scale a) X e = cc
flow-leaves tag (Sequence a) X e = held Sequence (Same (Sequence a)) (sequence.step tag a X) (sequence-given a X (sequence.due a) e)
flow-leaves tag (UpSample a) X e = cc

flow-keeps : (tag : Tag) (a b : FlowActor) (X out : Streams Token) → flow_actor.is_steady a ≡ false → flow_actor.step tag a X ≡ Gives b out → Same a b
flow-keeps tag a b X out e gave = subst (Leaves (Same a)) gave (flow-leaves tag a X e)

-- ---- all libraries

-- of an actor that isn't steady: it is of the library of flow, or a Merge, which has no counts
abbrev places : LibraryActor → ℕ
places (Flow a) = flow_actor.places a
places (Data a) = 0
places (Time a) = 0
places (Timed a) = 0

unsteady-places : (a : LibraryActor) → library.is_steady a ≡ false → (ns : List ℕ) → library.need a ≡ Counts ns → length ns ≡ places a
unsteady-places (Flow a) e ns h = flow-places a e ns h
unsteady-places (Data a) e ns h = cc
unsteady-places (Time a) e ns h = absurd (let no : Any ≡ Counts ns = sym (time_laws.needs-any a e) ∙ h in cc)
unsteady-places (Timed a) e ns h = cc

unsteady-once : (tag : Tag) (a b : LibraryActor) (X out : Streams Token) → library.is_steady a ≡ false → library.step tag a X ≡ Gives b out → (library.is_steady b ≡ false) × (places b ≡ places a)
unsteady-once tag (Flow a) b X out e h =
    let gave = held-gives Flow (flow_actor.step tag a X) b out h in
    let same = flow-keeps tag a gave.0 X out e gave.2 in
    (sym (ap library.is_steady gave.1) ∙ same.0, sym (ap places gave.1) ∙ same.1)
unsteady-once tag (Data a) b X out e h = cc
unsteady-once tag (Time a) b X out e h =
    let gave = held-gives Time (time_actor.step tag a X) b out h in
    (sym (ap library.is_steady gave.1) ∙ time_laws.class-stays tag a gave.0 X out gave.2 ∙ e, sym (ap places gave.1))
unsteady-once tag (Timed a) b X out e h = cc

-- it is steady and has n places, or isn't and has them
abbrev Has : ℕ → LibraryActor → Type 0
Has n a = ((library.is_steady a ≡ true) × ((ns : List ℕ) → library.need a ≡ Counts ns → length ns ≡ n)) ⊎ ((library.is_steady a ≡ false) × (places a ≡ n))

counted : (n : ℕ) (a : LibraryActor) → Has n a → (ns : List ℕ) → library.need a ≡ Counts ns → length ns ≡ n
counted n a (inl k) ns e = k.1 ns e
counted n a (inr k) ns e = unsteady-places a k.0 ns e ∙ k.1

once : (n : ℕ) (tag : Tag) (a b : LibraryActor) (X out : Streams Token) → Has n a → library.step tag a X ≡ Gives b out → Has n b
once n tag a b X out (inl k) h = let s = steady_laws.once tag a b X out k.0 h in inl (s.1, λ ns e. k.1 ns (sym s.0 ∙ e))
once n tag a b X out (inr k) h = let s = unsteady-once tag a b X out k.0 h in inr (s.0, s.1 ∙ k.1)

has-after : (n : ℕ) (fs : List (Tag × Streams Token)) (a b : LibraryActor) → Has n a → after fs a ≡ Some b → Has n b
has-after n [] a b k h = let same : a ≡ b = cc in subst (λ (v : LibraryActor). Has n v) same k
has-after n (f ∷ fs) a b k h = by_answer (λ c. has-after n fs c b) (library.step f.0 a f.1) refl h
  where
    by_answer : ((c : LibraryActor) → Has n c → after fs c ≡ Some b → Has n b) → (r : Answer Token LibraryActor) → library.step f.0 a f.1 ≡ r → on_answer (after fs) r ≡ Some b → Has n b
    by_answer again (Gives c out) g l = again c (once n f.0 a c f.1 out k g) l
    by_answer again (Fails code) g l = cc

has-first : (a : LibraryActor) (ns : List ℕ) → library.need a ≡ Counts ns → Has (length ns) a
has-first a ns e = by_test (library.is_steady a) refl
  where
    same : (ms : List ℕ) → library.need a ≡ Counts ms → length ms ≡ length ns
    same ms f = let is : ms ≡ ns = cc in ap (λ (v : List ℕ). length v) is

    by_test : (b : Bool) → library.is_steady a ≡ b → Has (length ns) a
    by_test true s = inl (s, same)
    by_test false s = inr (s, sym (unsteady-places a s ns e))

pub places-stay : (a : LibraryActor) (ns : List ℕ) → library.need a ≡ Counts ns → HasPlaces (length ns) a
places-stay a ns e fs b h ms f = counted (length ns) b (has-after (length ns) fs a b (has-first a ns e) h) ms f
