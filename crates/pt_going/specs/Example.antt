-- An example: a ramp that feeds a scale, in an SDF composite, whose own inputs feed nothing.
use Rattle.std.specs.Prelude.{ℕ, suc, List, [], ◌∷◌, true, None, pos, map}
use Rattle.pt_meaning.specs.Basics.{Streams}
use Rattle.pt_meaning.specs.Net.{Source, Own, Output}
use Rattle.pt_meaning.specs.Sdf.{SdfPlan}
use Rattle.pt_meaning.specs.Tree.{unfired}
use Rattle.pt_value.specs.declared.token.Token.{Token}
use Rattle.pt_flow_base.specs.declared.limit.Limit.TheVariants.{Endless}
use Rattle.pt_lib_flow.specs.declared.flow_actor.FlowActor.TheVariants.{Ramp, Scale}
use Rattle.pt_sdf.specs.Clauses.{State}
use Rattle.pt_sdf.specs.State.{started}
use Rattle.pt_node.specs.declared.body.Body.TheVariants.{Actor, Composite}
use Rattle.pt_core.specs.declared.either.Either.TheVariants.{First}
use Rattle.pt_library.specs.declared.library_actor.LibraryActor.{LibraryActor}
use Rattle.pt_library.specs.declared.library_actor.LibraryActor.TheVariants.{Flow}
use Rattle.pt_past.specs.Recorded.{RecordedPort}
use Rattle.pt_node.specs.Shown.{Shown, AllShown, Branch, none, more}

-- the channels from the own inputs from number i on, which end nowhere
abbrev pub own_from : ℕ → (takes : List ℕ) → List Source
own_from i [] = []
own_from i (n ∷ takes) = Own i ∷ own_from (suc i) takes

-- nothing is on them at the start
abbrev pub bare : (takes : List ℕ) → Streams Token
bare takes = map (λ n. []) takes

abbrev pub chain_plan : List ℕ → SdfPlan
chain_plan takes = record { net = record { sources = Output 0 0 ∷ own_from 0 takes; places = 0 ∷ 1 ∷ [] }; repetitions = 1 ∷ 1 ∷ []; takes = takes; gives = []; rates = (1 ∷ []) ∷ (1 ∷ []) ∷ [] }

abbrev pub chain_core : List ℕ → State
chain_core takes = started (chain_plan takes) (1 ∷ []) ([] ∷ bare takes)

-- 0, 1, 2 and so on
abbrev pub ramp : LibraryActor
ramp = Flow (Ramp (record { next = pos 0; step = pos 1; limit = Endless; places = 0 }))

-- twice its input
abbrev pub scale : LibraryActor
scale = Flow (Scale (record { factor = pos 2; places = 1 }))

abbrev pub leaf : LibraryActor → List RecordedPort → List ℕ → Shown
leaf actor records path = Branch (record { past = unfired; body = Actor (record { start = actor; actor = actor }); records = records; path = path; labels = []; meetings = None; live = true }) none

abbrev pub chain_kids : (ramp_path scale_path text : List ℕ) → AllShown
chain_kids ramp_path scale_path text = more (leaf ramp [] ramp_path) (more (leaf scale (record { port = 0; number = 0; text = text; trace = []; noted = [] } ∷ []) scale_path) none)

abbrev pub chain : (takes path ramp_path scale_path text : List ℕ) → Shown
chain takes path ramp_path scale_path text = Branch (record { past = unfired; body = Composite (First (chain_core takes)); records = []; path = path; labels = []; meetings = None; live = true }) (chain_kids ramp_path scale_path text)
