-- An actor needs a token at any one of its places whatever it fires, or never: a Merge does.
use Rattle.std.proofs.Common.{◌≡◌, ◌↔◌, ℕ, List, [], ◌∷◌, Bool, true, false, not, Option, Some, None, refl, sym, ap, ◌∙◌}
use Rattle.pt_meaning.specs.Basics.{Tag, Streams}
use Rattle.pt_meaning.specs.Machine.{Need, Any}
use Rattle.pt_meaning.specs.Node.{Answer, Gives, Fails}
use Rattle.pt_meaning.specs.Closed.{on_answer}
use Rattle.pt_value.specs.Value.{Value}
use Rattle.pt_value.specs.declared.token.Token.{Token}
use Rattle.pt_firing.specs.Row.{one_each}
use Rattle.pt_flow_base.specs.Limit.{is_over, source_need}
use Rattle.pt_flow_streams.specs.declared.boolean_select.Turn.{Turn}
use Rattle.pt_flow_streams.specs.declared.boolean_select.Turn.TheVariants.{Control, Input}
use Rattle.pt_flow_streams.specs.BooleanSelect as boolean_select
use Rattle.pt_flow_streams.specs.Sequence as sequence
use Rattle.pt_lib_data.specs.DataActor as data_actor
use Rattle.pt_lib_flow.specs.declared.flow_actor.FlowActor.{FlowActor}
use Rattle.pt_lib_flow.specs.declared.flow_actor.FlowActor.TheVariants.{AbsoluteValue, Accumulator, AddSubtract, BooleanSelect, BooleanSwitch, Const, Counter, DownSample, Expression, Extreme, MultiplyDivide, Ramp, Repeat, SampleDelay, Scale, Sequence, UpSample}
use Rattle.pt_lib_flow.specs.FlowActor as flow_actor
use Rattle.pt_lib_time.specs.TimeActor as time_actor
use Rattle.pt_lib_time.proofs.Giving as time_laws
use Rattle.pt_lib_timed.specs.TimedActor as timed_actor
use Rattle.pt_lib_timed.proofs.Staying as timed_laws
use Rattle.pt_library.specs.declared.library_actor.LibraryActor.{LibraryActor}
use Rattle.pt_library.specs.declared.library_actor.LibraryActor.TheVariants.{Flow, Data, Time, Timed}
use Rattle.pt_library.specs.LibraryActor as library
use Rattle.pt_library.specs.Steady.{after, KeepsAny}
use Rattle.pt_library.proofs.RowLaws.{held-gives}

-- ---- actors of flow need counts, or nothing more

by-limit : (over : Bool) (places : ℕ) → source_need over places ≡ Any → ⊥
by-limit true places e = cc
by-limit false places e = cc

by-value : (places : ℕ) (o : Option Value) → sequence.need_by places o ≡ Any → ⊥
by-value places None e = cc
by-value places (Some value) e = cc

by-turn : (turn : Turn) → boolean_select.need turn ≡ Any → ⊥
by-turn Control e = cc
by-turn (Input true) e = cc
by-turn (Input false) e = cc

flow-never : (a : FlowActor) → flow_actor.need a ≡ Any → ⊥
flow-never (AbsoluteValue a) e = cc
flow-never (Accumulator a) e = cc
flow-never (AddSubtract a) e = cc
flow-never (BooleanSelect a) e = by-turn a e
flow-never (BooleanSwitch a) e = cc
flow-never (Const a) e = by-limit (is_over a.limit) a.places e
flow-never (Counter a) e = cc
flow-never (DownSample a) e = cc
flow-never (Expression a) e = cc
flow-never (Extreme a) e = cc
flow-never (MultiplyDivide a) e = cc
flow-never (Ramp a) e = by-limit (is_over a.limit) a.places e
flow-never (Repeat a) e = cc
flow-never (SampleDelay a) e = cc
flow-never (Scale a) e = cc
flow-never (Sequence a) e = by-value a.places (sequence.due a) e
flow-never (UpSample a) e = cc

ones-never : (places : ℕ) (n : Need) → n ≡ one_each places → n ≡ Any → ⊥
ones-never places n is e = let no : one_each places ≡ Any = sym is ∙ e in cc

-- ---- which actors do

abbrev is_any : LibraryActor → Bool
is_any (Flow a) = false
is_any (Data a) = false
is_any (Time a) = not (time_actor.is_steady a)
is_any (Timed a) = false

unless : (b : Bool) → not b ≡ true → b ≡ false
unless true e = sym e
unless false e = refl

because : (b : Bool) → not b ≡ false → b ≡ true
because true e = refl
because false e = sym e

needs-any : (a : LibraryActor) → is_any a ≡ true → library.need a ≡ Any
needs-any (Flow a) e = absurd (cc)
needs-any (Data a) e = absurd (cc)
needs-any (Time a) e = time_laws.needs-any a (unless (time_actor.is_steady a) e)
needs-any (Timed a) e = absurd (cc)

needs-none : (a : LibraryActor) → is_any a ≡ false → library.need a ≡ Any → ⊥
needs-none (Flow a) e n = flow-never a n
needs-none (Data a) e n = cc
needs-none (Time a) e n = ones-never (time_actor.places a) (time_actor.need a) (time_laws.needs-one a (because (time_actor.is_steady a) e)) n
needs-none (Timed a) e n = ones-never (timed_actor.places a) (timed_actor.need a) (timed_laws.needs-one a) n

-- ---- they stay so

once : (tag : Tag) (a b : LibraryActor) (X out : Streams Token) → library.step tag a X ≡ Gives b out → is_any b ≡ is_any a
once tag (Flow a) b X out h = sym (ap is_any (held-gives Flow (flow_actor.step tag a X) b out h).1)
once tag (Data a) b X out h = sym (ap is_any (held-gives Data (data_actor.step tag a X) b out h).1)
once tag (Time a) b X out h =
    let gave = held-gives Time (time_actor.step tag a X) b out h in
    sym (ap is_any gave.1) ∙ ap not (time_laws.class-stays tag a gave.0 X out gave.2)
once tag (Timed a) b X out h = sym (ap is_any (held-gives Timed (timed_actor.step tag a X) b out h).1)

stays : (fs : List (Tag × Streams Token)) (a b : LibraryActor) → after fs a ≡ Some b → is_any b ≡ is_any a
stays [] a b h = let same : a ≡ b = cc in sym (ap is_any same)
stays (f ∷ fs) a b h = by_answer (λ c. stays fs c b) (library.step f.0 a f.1) refl h
  where
    by_answer : ((c : LibraryActor) → after fs c ≡ Some b → is_any b ≡ is_any c) → (r : Answer Token LibraryActor) → library.step f.0 a f.1 ≡ r → on_answer (after fs) r ≡ Some b → is_any b ≡ is_any a
    by_answer again (Gives c out) g k = again c k ∙ once f.0 a c f.1 out g
    by_answer again (Fails code) g k = cc

pub keeps-any : (a : LibraryActor) → KeepsAny a
keeps-any a fs b h = by_test (is_any a) refl
  where
    by_test : (any : Bool) → is_any a ≡ any → (library.need b ≡ Any) ↔ (library.need a ≡ Any)
    by_test true e = (λ n. needs-any a e, λ n. needs-any b (stays fs a b h ∙ e))
    by_test false e = (λ n. absurd (needs-none b (stays fs a b h ∙ e) n), λ n. absurd (needs-none a e n))
