-- The calls of the core as a driver is to know them. It makes its gets, puts and growths itself where it is asked what comes next, each with the answer that tells it, so that a driver has nothing to do but ask again.
use Rattle.std.specs.Prelude.{◌≡◌, List, [], length, get_or, true, false, None, IsSome}
use Rattle.pt_meaning.specs.Machine.{Over}
use Rattle.pt_meaning.specs.Tree.{Rows, Node, reset_of}
use Rattle.pt_meaning.specs.Tree as tree
use Rattle.pt_meaning.specs.NodeFacts.{facts_of, need_of}
use Rattle.pt_value.specs.declared.token.Token.{Token}
use Rattle.pt_firing.specs.declared.ask.Ask.{Ask}
use Rattle.pt_firing.specs.declared.ask.Ask.TheVariants as ask
use Rattle.pt_firing.specs.declared.fault.RunFault.TheVariants.{Rate}
use Rattle.pt_records.specs.Kept.{Kept}
use Rattle.pt_core.specs.Acts.{Beginning, Calls, Acts}
use Rattle.pt_core.specs.Reached.{AllAlways}
use Rattle.pt_pn_laws.specs.State.{PnState, Stage, Idle, Open, Asked, Closed, Blocked, MayGet, MayPut, MayFire, MayGrow, IsFull, IsOver, asked_process, net_of, held_of, in_stage, lent_if, begun, after_get, after_put, after_grow, after_told, own_of, closed, restarted, blocked_of, waits}
use Rattle.pt_pn_laws.specs.Lawful.{HasPlaces, IsFor}
use Rattle.pt_pn_laws.specs.SoFar.{PnSoFar}

abbrev pub State : Type 0
State = PnState Token

-- a firing is under way, and what comes next may be asked for
abbrev pub MayAsk : Stage → Type 0
MayAsk Idle = ⊥
MayAsk Open = Unit {0}
MayAsk (Asked process) = ⊥
MayAsk Closed = ⊥
MayAsk Blocked = ⊥

-- what `ask` may answer, and the state after it
abbrev pub Gives : State → Ask → Type 0
Gives s (ask.Fire child tag) = (s.stage ≡ Open) × MayFire s child × (tag ≡ s.tag)
Gives s (ask.Get child) = (s.stage ≡ Open) × MayGet s child
Gives s (ask.Put child) = (s.stage ≡ Open) × MayPut s child
Gives s ask.Grow = (s.stage ≡ Open) × MayGrow s
Gives s ask.Finished = (s.stage ≡ Open) × IsOver s
Gives s ask.Full = (s.stage ≡ Open) × IsFull s
Gives s (ask.Early child tag) = ⊥
Gives s (ask.Reset child) = ⊥
Gives s (ask.Faulted kind child) = ⊥
Gives s (ask.Meet meeting) = ⊥
Gives s ask.Await = ⊥

abbrev pub asking : Ask → State → State
asking (ask.Fire child tag) s = in_stage (Asked child) s
asking (ask.Get child) s = after_get child s
asking (ask.Put child) s = after_put child s
asking ask.Grow s = after_grow s
asking ask.Finished s = in_stage Closed s
asking ask.Full s = in_stage Blocked s
asking (ask.Early child tag) s = s
asking (ask.Reset child) s = s
asking (ask.Faulted kind child) s = s
asking (ask.Meet meeting) s = s
asking ask.Await s = s

-- A network fits these children, whatever they fire: each needs a count for each of its places, or is over, and at its start what the network says.
pub record Suits {A : Type 0} (rows : Rows Token A) (s : State) (kids : List (Node Token A)) : Type 0 where
  pub children : length kids ≡ length (net_of s).places
  pub counts : AllAlways rows (λ i node. HasPlaces (get_or (net_of s).places i 0) (need_of rows node)) kids
  pub starts : AllAlways rows (λ i node. need_of rows (reset_of node) ≡ get_or s.network.starts i Over) kids

-- A firing is under way, and what comes next may be asked for.
pub record Going {A : Type 0} (rows : Rows Token A) (b : Beginning A State) (s : State) (now : List (Node Token A)) (news : List (Kept Token)) : Type 0 where
  pub stage : s.stage ≡ Open
  pub tag : s.tag ≡ b.tag
  pub suits : Suits rows s now
  pub so_far : PnSoFar rows b.meets b.before b.kids b.inputs b.olds s now news

-- No firing is under way, and the core and its network fit the children.
pub record Fits {A : Type 0} (rows : Rows Token A) (s : State) (kids : List (Node Token A)) : Type 0 where
  pub idle : s.stage ≡ Idle
  pub fitting : IsFor (facts_of rows) s kids
  pub suits : Suits rows s kids

-- Whatever a process gives is accepted, so the fault of one that gives anything else is never told; and none is asked for an early answer. Wakes of processes say nothing to it, and it has none.
abbrev pub pn_calls : Calls State
pn_calls = record {
  start_of = λ s. tree.Pn s.network.plan s.network.first;
  core_of = λ s. tree.Pn s.network.plan (held_of s);
  IsIdle = λ s. s.stage ≡ Idle;
  Takes = λ s inputs. length inputs ≡ length s.network.plan.takes;
  begun = begun;
  MayAsk = λ s. MayAsk s.stage;
  Gives = Gives;
  asking = asking;
  asked_of = λ s. asked_process s.stage;
  lent_of = λ s. lent_if s (asked_process s.stage);
  handed = λ s. s;
  MayLend = λ s. IsSome (asked_process s.stage);
  listened_of = λ s. None;
  partial_of = λ s. [];
  accepts = λ s child out. true;
  refusal = λ s. Rate;
  told = λ child out wake need. after_told child out need;
  is_wrong = λ s. false;
  heard = λ child early s. s;
  MayFinish = λ s. s.stage ≡ Closed;
  own_of = own_of;
  closed = closed;
  wake = λ s. None;
  restarted = restarted;
  waits = waits;
  maximum = λ s. s.network.maximum;
  blocked = blocked_of;
  met = λ s. None;
}

abbrev pub pn_acts : {A : Type 0} (rows : Rows Token A) → Acts rows State
pn_acts rows = record { calls = pn_calls; Fits = Fits rows; Underway = Going rows }
