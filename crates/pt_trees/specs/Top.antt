-- What a job asks of its top, among the definitions.
use Rattle.std.specs.Prelude.{◌≡◌, ℕ, List, length, map, Option, Some, Vec}
use Rattle.std.specs.Global.{Global}
use Rattle.pt_meaning.specs.Schedule as schedule
use Rattle.pt_meaning.specs.Schedule.{SdfTop, SrTop, DeTop, OnceTop}
use Rattle.pt_meaning.specs.Tree as tree
use Rattle.pt_value.specs.declared.token.Token.{Token}
use Rattle.pt_agenda.specs.Events.{AllAscend, events_of, tokens_in}
use Rattle.pt_node.specs.View.{Tree}
use Rattle.pt_trees.specs.declared.top.DeJob.{DeJob}
use Rattle.pt_trees.specs.declared.top.OnceJob.{OnceJob}
use Rattle.pt_trees.specs.declared.top.SdfJob.{SdfJob}
use Rattle.pt_trees.specs.declared.top.SrJob.{SrJob}
use Rattle.pt_trees.specs.declared.top.Top.{Top}
use Rattle.pt_trees.specs.declared.top.Top.TheVariants.{Sdf, Sr, De, Once}

-- the tokens of each tick, list by list
abbrev pub ticks_of : List (Vec (Option Token) Global) → List (List (Option Token))
ticks_of lists = map (λ (ts : Vec (Option Token) Global). ts.items) lists

-- what the job says
abbrev pub top_of : Top → schedule.Top Token
top_of (Sdf j) = SdfTop j.iterations j.takes j.inputs.items
top_of (Sr j) = SrTop j.iterations (ticks_of j.inputs.items)
top_of (De j) = DeTop j.stop (events_of j.inputs.items)
top_of (Once j) = OnceTop j.inputs.items

-- what it supplies to each own input, none where a token is absent
abbrev pub supply_of : Top → List (List (Option Token))
supply_of (Sdf j) = map (λ (ts : List Token). map Some ts) j.inputs.items
supply_of (Sr j) = ticks_of j.inputs.items
supply_of (De j) = map tokens_in (events_of j.inputs.items)
supply_of (Once j) = map (λ (ts : List Token). map Some ts) j.inputs.items

-- An SDF job is one for this core: it says what an iteration takes, and has a list for each own input.
abbrev pub SdfFits : SdfJob → tree.Core Token → Type 0
SdfFits j (tree.Sdf p X) = (p.takes ≡ j.takes) × (length j.inputs.items ≡ length j.takes)
SdfFits j (tree.Pn p X) = ⊥
SdfFits j (tree.Sr p) = ⊥
SdfFits j (tree.De p) = ⊥
SdfFits j (tree.Rv p X) = ⊥
SdfFits j (tree.Modal chart m) = ⊥

-- an SR job is one for it: it has a list for each own input
abbrev pub SrFits : SrJob → tree.Core Token → Type 0
SrFits j (tree.Sdf p X) = ⊥
SrFits j (tree.Pn p X) = ⊥
SrFits j (tree.Sr p) = length j.inputs.items ≡ p.inputs
SrFits j (tree.De p) = ⊥
SrFits j (tree.Rv p X) = ⊥
SrFits j (tree.Modal chart m) = ⊥

-- a DE job is one for it: it has for each own input a list of events that ascend
abbrev pub DeFits : DeJob → tree.Core Token → Type 0
DeFits j (tree.Sdf p X) = ⊥
DeFits j (tree.Pn p X) = ⊥
DeFits j (tree.Sr p) = ⊥
DeFits j (tree.De p) = (length j.inputs.items ≡ p.inputs) × AllAscend j.inputs.items
DeFits j (tree.Rv p X) = ⊥
DeFits j (tree.Modal chart m) = ⊥

-- a job of one firing is one for it: it has a list for each own input
abbrev pub OnceFits : OnceJob → tree.Core Token → Type 0
OnceFits j (tree.Sdf p X) = ⊥
OnceFits j (tree.Pn p X) = length j.inputs.items ≡ length p.takes
OnceFits j (tree.Sr p) = ⊥
OnceFits j (tree.De p) = ⊥
OnceFits j (tree.Rv p X) = length j.inputs.items ≡ length p.takes
OnceFits j (tree.Modal chart m) = ⊥

abbrev pub FitsCore : Top → tree.Core Token → Type 0
FitsCore (Sdf j) d = SdfFits j d
FitsCore (Sr j) d = SrFits j d
FitsCore (De j) d = DeFits j d
FitsCore (Once j) d = OnceFits j d

-- the job is one for this node, which is a composite of its director
abbrev pub IsJobFor : Top → Tree → Type 0
IsJobFor j (tree.Actor h a b) = ⊥
IsJobFor j (tree.Composite h c d kids) = FitsCore j d

-- an SDF job says of each own input how many tokens an iteration takes, and the events of a DE job ascend
abbrev pub IsWhole : Top → Type 0
IsWhole (Sdf j) = length j.inputs.items ≡ length j.takes
IsWhole (Sr j) = Unit {0}
IsWhole (De j) = AllAscend j.inputs.items
IsWhole (Once j) = Unit {0}
