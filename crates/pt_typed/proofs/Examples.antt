-- By hand: a ramp that feeds a scale in a composite.
use Rattle.std.proofs.Common.{◌≡◌, zero, suc, [], ◌∷◌, true, false, refl, arith, pos}
use Rattle.pt_meaning.specs.Basics.{Finished}
use Rattle.pt_meaning.specs.Sdf.{SdfPlan}
use Rattle.pt_meaning.specs.Net.{Own, Output}
use Rattle.pt_meaning.specs.Valuation.{TickPlan}
use Rattle.pt_meaning.specs.Tree as tree
use Rattle.pt_value.specs.declared.token.Token.TheVariants as token
use Rattle.pt_datatypes.specs.Datatype.{Datatype, Int, Boolean}
use Rattle.pt_datatypes.specs.Order.{IsBelow}
use Rattle.pt_lib_flow.specs.declared.flow_actor.FlowActor.TheVariants.{Ramp, Scale}
use Rattle.pt_flow_base.specs.declared.limit.Limit.TheVariants.{Endless}
use Rattle.pt_library.specs.declared.library_actor.LibraryActor.{LibraryActor}
use Rattle.pt_library.specs.declared.library_actor.LibraryActor.TheVariants.{Flow}
use Rattle.pt_kinds.specs.Signature.{Signatures, AreOf, IsTypedEvent}
use Rattle.pt_typed.specs.TokenTypes.{IsTokenOf}
use Rattle.pt_typed.specs.TypedActor.{MeetsRow, IsTypedActor}
use Rattle.pt_kinds.specs.TypedTree.{kinds_in, AreFed, IsTypedNode}
use Rattle.pt_typed.proofs.ActorLaws.{rows-type}

abbrev ramp : LibraryActor
ramp = Flow (Ramp (record { next = pos 0; step = pos 1; limit = Endless; places = 0 }))

abbrev scale : LibraryActor
scale = Flow (Scale (record { factor = pos 2; places = 1 }))

-- the types of both, where the input of the scale is of this type
abbrev types : Datatype → Signatures Datatype
types input [] = record { places = []; outputs = [] }
types input (zero ∷ p) = record { places = []; outputs = Int ∷ [] }
types input (suc i ∷ p) = record { places = input ∷ []; outputs = Int ∷ [] }

-- both meet their rows, and the ramp doesn't where its output is of truth values
ramp_meets : MeetsRow (types Int (0 ∷ [])) ramp
ramp_meets = refl

scale_meets : MeetsRow (types Int (1 ∷ [])) scale
scale_meets = refl

ramp_does_not : MeetsRow (record { places = []; outputs = Boolean ∷ [] }) ramp → false ≡ true
ramp_does_not h = h

-- each node is typed as it stands and as a reset brings it back, which at its start is the same
twice : {P : Type 0} → P → P × P
twice p = (p, p)

within : {P Q : Type 0} → P → Q → P × P × Q
within p q = (p, p, q)

abbrev plan : SdfPlan
plan = record { net = record { sources = Output 0 0 ∷ []; places = 0 ∷ 1 ∷ [] }; repetitions = 1 ∷ 1 ∷ []; takes = []; gives = []; rates = (1 ∷ []) ∷ (1 ∷ []) ∷ [] }

-- the composite is typed
composite_is_typed : IsTypedNode IsTokenOf IsBelow IsTypedActor (types Int) (tree.composite (tree.Sdf plan ([] ∷ [])) (tree.actor ramp ∷ tree.actor scale ∷ []))
composite_is_typed = within
    (record { typed_net = record { places_counted = refl; sized = (refl, (refl, tt)); fed = (refl, tt) }; repetitions_counted = refl; rates_counted = refl; gives_counted = refl; room = omega arith; held = (tt, tt) })
    (twice (rows-type (types Int (0 ∷ [])) ramp ramp_meets), (twice (rows-type (types Int (1 ∷ [])) scale scale_meets), tt))

-- so it is of SR, whose channels keep nothing
abbrev ticks : TickPlan
ticks = record { net = plan.net; inputs = 0 }

tick_is_typed : IsTypedNode IsTokenOf IsBelow IsTypedActor (types Int) (tree.composite (tree.Sr ticks) (tree.actor ramp ∷ tree.actor scale ∷ []))
tick_is_typed = within
    (record { places_counted = refl; sized = (refl, (refl, tt)); fed = (refl, tt) })
    (twice (rows-type (types Int (0 ∷ [])) ramp ramp_meets), (twice (rows-type (types Int (1 ∷ [])) scale scale_meets), tt))

-- a ramp within a composite of its own, whose output feeds the scale: that composite is of SR in one of SDF, and of SDF in one of SR
abbrev nested : Signatures Datatype
nested [] = record { places = []; outputs = [] }
nested (zero ∷ p) = record { places = []; outputs = Int ∷ [] }
nested (suc i ∷ p) = record { places = Int ∷ []; outputs = Int ∷ [] }

abbrev inner : SdfPlan
inner = record { net = record { sources = Output 0 0 ∷ []; places = 0 ∷ [] }; repetitions = 1 ∷ []; takes = []; gives = 1 ∷ []; rates = (1 ∷ []) ∷ [] }

ticks_in_iterations : IsTypedNode IsTokenOf IsBelow IsTypedActor nested (tree.composite (tree.Sdf plan ([] ∷ [])) (tree.composite (tree.Sr (record { net = inner.net; inputs = 0 })) (tree.actor ramp ∷ []) ∷ tree.actor scale ∷ []))
ticks_in_iterations = within
    (record { typed_net = record { places_counted = refl; sized = (refl, (refl, tt)); fed = (refl, tt) }; repetitions_counted = refl; rates_counted = refl; gives_counted = refl; room = omega arith; held = (tt, tt) })
    (within (record { places_counted = refl; sized = (refl, tt); fed = (refl, tt) }) (twice (rows-type (types Int (0 ∷ [])) ramp ramp_meets), tt), (twice (rows-type (types Int (1 ∷ [])) scale scale_meets), tt))

iterations_in_ticks : IsTypedNode IsTokenOf IsBelow IsTypedActor nested (tree.composite (tree.Sr ticks) (tree.composite (tree.Sdf inner ([] ∷ [])) (tree.actor ramp ∷ []) ∷ tree.actor scale ∷ []))
iterations_in_ticks = within
    (record { places_counted = refl; sized = (refl, (refl, tt)); fed = (refl, tt) }) (
      within
          (record { typed_net = record { places_counted = refl; sized = (refl, tt); fed = (refl, tt) }; repetitions_counted = refl; rates_counted = refl; gives_counted = refl; room = omega arith; held = (tt, tt) })
          (twice (rows-type (types Int (0 ∷ [])) ramp ramp_meets), tt),
      (twice (rows-type (types Int (1 ∷ [])) scale scale_meets), tt),
    )

-- with an input of truth values that feeds nothing, whose tokens are kept
abbrev gated : Signatures Datatype
gated [] = record { places = Boolean ∷ []; outputs = [] }
gated (i ∷ p) = types Int (i ∷ p)

abbrev gated_plan : SdfPlan
gated_plan = record { net = record { sources = Output 0 0 ∷ Own 0 ∷ []; places = 0 ∷ 1 ∷ [] }; repetitions = 1 ∷ 1 ∷ []; takes = 1 ∷ []; gives = []; rates = (1 ∷ []) ∷ (1 ∷ []) ∷ [] }

gated_is_typed : IsTypedNode IsTokenOf IsBelow IsTypedActor gated (tree.composite (tree.Sdf gated_plan ([] ∷ (token.Bool true ∷ []) ∷ [])) (tree.actor ramp ∷ tree.actor scale ∷ []))
gated_is_typed = within
    (record { typed_net = record { places_counted = refl; sized = (refl, (refl, tt)); fed = (refl, (refl, tt)) }; repetitions_counted = refl; rates_counted = refl; gives_counted = refl; room = omega arith; held = (tt, ((refl, tt), tt)) })
    (twice (rows-type (types Int (0 ∷ [])) ramp ramp_meets), (twice (rows-type (types Int (1 ∷ [])) scale scale_meets), tt))

-- a number that is kept there breaks it
kept_breaks : AreOf IsTokenOf (kinds_in gated gated_plan) ([] ∷ (token.Int (pos 1) ∷ []) ∷ []) → false ≡ true
kept_breaks h = h.1.0.0

-- the channel to the scale would break where that took truth values
channel_breaks : AreFed {A = LibraryActor} IsTokenOf IsBelow IsTypedActor (types Boolean) plan.net.sources (kinds_in (types Boolean) plan) → false ≡ true
channel_breaks h = h.0

-- and so would an event that gives a truth value where integers are due
event_breaks : IsTypedEvent IsTokenOf (types Int (0 ∷ [])) (Finished [] (record { number = 0; tag = record { time = 0; step = 0 }; inputs = []; outputs = (token.Bool true ∷ []) ∷ [] })) → false ≡ true
event_breaks h = h.1.0.0
