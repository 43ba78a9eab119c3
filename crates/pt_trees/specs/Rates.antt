-- How many tokens a node gives in a firing, on each of its outputs, and whether it needs the same at each firing.
use Rattle.std.specs.Prelude.{◌≡◌, ◌⊎◌, ℕ, ◌-◌, List, [], ◌∷◌, length, map, replicate, Bool, true, false, Option, Some, None, Vec}
use Rattle.std.specs.Global.{Global}
use Rattle.pt_meaning.specs.Running.{total}
use Rattle.pt_meaning.specs.Streams.{get}
use Rattle.pt_meaning.specs.Valuation.{TickPlan}
use Rattle.pt_meaning.specs.Tree as tree
use Rattle.pt_value.specs.declared.token.Token.{Token}
use Rattle.pt_flow_base.specs.declared.params.Params.{Params}
use Rattle.pt_library.specs.LibraryActor as library
use Rattle.pt_node.specs.View.{Tree}
use Rattle.pt_trees.specs.Around.{Around, declared_at}

-- a tick gives at most one token on each own output: these are where the channels end that are behind those of the places
abbrev pub tick_gives : TickPlan → List ℕ
tick_gives p = replicate (length p.net.sources - total p.net.places) 1

-- A composite of SDF gives what its plan says for an iteration. Under SDF one of SR is to give a token on each own output. What one of another director gives varies.
abbrev pub core_rates : tree.Core Token → Option (List ℕ)
core_rates (tree.Sdf p X) = Some p.gives
core_rates (tree.Pn p X) = None
core_rates (tree.Sr p) = Some (tick_gives p)
core_rates (tree.De p) = None
core_rates (tree.Rv p X) = None
core_rates (tree.Modal chart m) = None

-- a number for each output, where it doesn't vary: of a library actor those of its library
abbrev pub rates_of : Tree → Option (List ℕ)
rates_of (tree.Actor h a b) = library.rates b
rates_of (tree.Composite h c d kids) = core_rates d

-- of a child those that are declared, where they are
abbrev pub rates_given : Option (List ℕ) → Tree → Option (List ℕ)
rates_given (Some rates) kid = Some rates
rates_given None kid = rates_of kid

-- so of each child
abbrev pub all_given : List (Option (List ℕ)) → List Tree → List (Option (List ℕ))
all_given declared [] = []
all_given [] (kid ∷ kids) = rates_of kid ∷ all_given [] kids
all_given (d ∷ declared) (kid ∷ kids) = rates_given d kid ∷ all_given declared kids

-- these are the rates of the children
abbrev pub HaveRates : List (Option (List ℕ)) → List Tree → List (List ℕ) → Type 0
HaveRates declared kids rates = map (λ (rs : List ℕ). Some rs) rates ≡ all_given declared kids

-- and they have none where that of some child varies
abbrev pub AreRates : List (Option (List ℕ)) → List Tree → Option (Vec (List ℕ) Global) → Type 0
AreRates declared kids (Some rates) = HaveRates declared kids rates.items
AreRates declared kids None = (i : ℕ) × (kid : Tree) × (get kids i ≡ Some kid) × (rates_given (declared_at declared i) kid ≡ None)

-- it needs the same at each firing: a composite does, and a library actor that its library tells to do so
abbrev pub is_steady : Tree → Bool
is_steady (tree.Actor h a b) = library.is_steady b
is_steady (tree.Composite h c d kids) = true

-- so does each child
abbrev pub AreSteady : List Tree → Type 0
AreSteady kids = (i : ℕ) (kid : Tree) → get kids i ≡ Some kid → is_steady kid ≡ true

-- SDF can't plan the child: it may need something else at its next firing, or what it gives varies
abbrev pub IsUnsteady : Option (List ℕ) → Tree → Type 0
IsUnsteady declared kid = (is_steady kid ≡ false) ⊎ (rates_given declared kid ≡ None)

-- so is some child
abbrev pub HasUnsteady : Around → List Tree → Type 0
HasUnsteady around kids = (i : ℕ) × (kid : Tree) × (get kids i ≡ Some kid) × IsUnsteady (declared_at around.declared i) kid

-- a library actor is one that parameters start
abbrev pub IsStarted : Tree → Type 0
IsStarted (tree.Actor h a b) = (params : Params) × (library.start params ≡ Some b)
IsStarted (tree.Composite h c d kids) = Unit {0}

-- so is each child
abbrev pub AllStarted : List Tree → Type 0
AllStarted kids = (i : ℕ) (kid : Tree) → get kids i ≡ Some kid → IsStarted kid
