-- What contracts see of the code of a core, and what its parts keep.
use Rattle.std.specs.Prelude.{◌≡◌, ℕ, ◌<◌, ◌≤◌, List, length, get_or, Option, Some, None}
use Rattle.pt_meaning.specs.Streams.{Streams, at}
use Rattle.pt_value.specs.declared.token.Token.{Token}
use Rattle.pt_firing.specs.declared.ask.Ask.{Ask}
use Rattle.pt_recv.specs.Lines.{spare_at}
use Rattle.pt_pn_laws.specs.State.{Network, Stage, Idle, Open, Asked, Closed, Blocked, IsStopped, need_at}
use Rattle.pt_pn_laws.specs.Lawful.{HasPlaces}
use Rattle.pt_pn_laws.specs.PnActs.{Gives, asking, pn_calls}
use Rattle.pt_process.specs.Plan.{IsSoundNetwork}
use Rattle.pt_process.specs.Process.{Standing}
use Rattle.pt_pn_work.specs.Core.{State, nobody, puts_of_all, state_with, staged_on, ArePlaced, NoneHanded, IsAlone}
use Rattle.pt_pn.specs.Moves.{IsTransfer, Moves, ComesOn}
use Rattle.pt_pn.specs.Noted.{AreSettled}
use Rattle.pt_pn.specs.declared.pn.Stage as declared
use Rattle.pt_pn.specs.declared.pn.Stage.TheVariants as code
use Rattle.pt_pn.specs.declared.pn.Core.TheInside.{Inside}

-- the stage of the code
abbrev pub stage_of : declared.Stage → Stage
stage_of code.Idle = Idle
stage_of code.Open = Open
stage_of (code.Asked process) = Asked process
stage_of code.Closed = Closed
stage_of code.Blocked = Blocked

abbrev pub seen_core : Inside → State
seen_core c = state_with c.network c.processes.items c.capacity.items c.queues.lists c.tag (stage_of c.stage)

-- Each process has its places and needs a count for each of them, or is over; the lists of channels fit the network; and each put that waits has room on its channel.
pub record IsKept (n : Network Token) (ps : List Standing) (K : List ℕ) (L : Streams Token) (S P : List ℕ) : Type 0 where
  pub sound : IsSoundNetwork n
  pub placed : ArePlaced n.plan.net.places ps
  pub counts : (i : ℕ) → i < length n.plan.net.places → HasPlaces (get_or n.plan.net.places i 0) (get_or ps i nobody).need
  pub capacities : length K ≡ length n.plan.net.sources
  pub lists : length L ≡ length n.plan.net.sources
  pub spares : length S ≡ length n.plan.net.sources
  pub promised : length P ≡ length n.plan.net.sources
  pub room : (d : ℕ) → get_or P d 0 ≤ spare_at S d
  pub staged : (d : ℕ) → staged_on d (puts_of_all ps) ≤ get_or P d 0

-- the process that was asked to fire, and no other, has handed over what it gathered
abbrev pub StageFits : declared.Stage → List Standing → Type 0
StageFits code.Idle ps = NoneHanded ps
StageFits code.Open ps = NoneHanded ps
StageFits (code.Asked process) ps = IsAlone process ps
StageFits code.Closed ps = NoneHanded ps
StageFits code.Blocked ps = NoneHanded ps

pub record IsSound (c : Inside) : Type 0 where
  pub kept : IsKept c.network c.processes.items c.capacity.items c.queues.lists c.queues.spares c.promised.items
  pub stage : StageFits c.stage c.processes.items
  pub settled : AreSettled c.network c.processes.items c.capacity.items c.queues.lists c.notes

-- the core may answer so, and then stands so
abbrev pub Comes : State → Ask → State → Type 0
Comes before answer after = Gives before answer × (after ≡ asking answer before)

-- what comes of a look at a process: an answer that the core may give, or the process is stopped and nothing has changed
abbrev pub Looks : State → ℕ → Option Ask → State → Type 0
Looks before i (Some answer) after = Comes before answer after
Looks before i None after = IsStopped before i (at before.halfway.puts i) (need_at before i) × (after ≡ before)

-- the core may answer so and then stands so, or nothing has changed
abbrev pub MayCome : State → Option Ask → State → Type 0
MayCome before (Some answer) after = Comes before answer after
MayCome before None after = after ≡ before

-- it tells a get or a put
abbrev pub IsSomeTransfer : Option Ask → Type 0
IsSomeTransfer None = ⊥
IsSomeTransfer (Some answer) = IsTransfer answer

-- after some gets and puts the core may answer so and then stands so, or has no answer yet
abbrev pub GoesOn : State → Option Ask → State → Type 0
GoesOn before (Some answer) after = ComesOn pn_calls before answer after
GoesOn before None after = Moves pn_calls before after
