-- The calls of the core as a driver knows them. The core makes a meeting itself where it is asked what comes next, with the answer that tells it, so that a driver has to record it and ask again.
use Rattle.std.specs.Prelude.{◌≡◌, List, [], length, get_or, true, false, Some, None, IsSome}
use Rattle.pt_meaning.specs.Machine.{Over}
use Rattle.pt_meaning.specs.Rendezvous.{first_places}
use Rattle.pt_meaning.specs.Tree.{Rows, Node, reset_of}
use Rattle.pt_meaning.specs.Tree as tree
use Rattle.pt_meaning.specs.NodeFacts.{facts_of, need_of}
use Rattle.pt_laws.specs.SoundRuns.{count_at}
use Rattle.pt_value.specs.declared.token.Token.{Token}
use Rattle.pt_firing.specs.declared.ask.Ask.{Ask}
use Rattle.pt_firing.specs.declared.ask.Ask.TheVariants as ask
use Rattle.pt_firing.specs.declared.fault.RunFault.TheVariants.{Rate}
use Rattle.pt_firing.specs.Meeting.{meeting_of}
use Rattle.pt_records.specs.Kept.{Kept}
use Rattle.pt_core.specs.Acts.{Beginning, Calls, Acts}
use Rattle.pt_core.specs.Reached.{AllAlways}
use Rattle.pt_rv_laws.specs.State.{RvState, Stage, Idle, Open, Asked, Closed, IsLegal, MayFire, AllRest, IsOver, asked_process, net_of, in_stage, lent_if, begun, after_meet, after_told, closed, restarted, waits}
use Rattle.pt_rv_laws.specs.Lawful.{HasPlaces, IsFor}
use Rattle.pt_rv_laws.specs.SoFar.{RvSoFar}

abbrev pub State : Type 0
State = RvState Token

-- a firing is under way, and what comes next may be asked for
abbrev pub MayAsk : Stage → Type 0
MayAsk Idle = ⊥
MayAsk Open = Unit {0}
MayAsk (Asked process) = ⊥
MayAsk Closed = ⊥

-- What `ask` may answer, and the state after it: a process is to fire, a meeting is made, or the firing is over. It makes a meeting only where no process can fire.
abbrev pub Gives : State → Ask → Type 0
Gives s (ask.Fire process tag) = (s.stage ≡ Open) × MayFire s process × (tag ≡ s.tag)
Gives s (ask.Meet meeting) = (s.stage ≡ Open) × AllRest s × IsLegal s (meeting_of meeting)
Gives s ask.Finished = (s.stage ≡ Open) × IsOver s
Gives s (ask.Early child tag) = ⊥
Gives s (ask.Reset child) = ⊥
Gives s (ask.Get child) = ⊥
Gives s (ask.Put child) = ⊥
Gives s ask.Grow = ⊥
Gives s ask.Await = ⊥
Gives s (ask.Faulted kind child) = ⊥
Gives s ask.Full = ⊥

abbrev pub asking : Ask → State → State
asking (ask.Fire process tag) s = in_stage (Asked process) s
asking (ask.Meet meeting) s = after_meet (meeting_of meeting) s
asking ask.Finished s = in_stage Closed s
asking (ask.Early child tag) s = s
asking (ask.Reset child) s = s
asking (ask.Get child) s = s
asking (ask.Put child) s = s
asking ask.Grow s = s
asking ask.Await s = s
asking (ask.Faulted kind child) s = s
asking ask.Full s = s

-- Whatever a process gives is accepted, so the fault of one that gives anything else is never told; and none is asked for an early answer. Wakes of processes say nothing to it, and it has none. No channel is full. The meetings of a firing are those that it has told since the firing began.
abbrev pub rv_calls : Calls State
rv_calls = record {
  start_of = λ s. tree.Rv s.processes.plan (first_places s.processes.plan);
  core_of = λ s. tree.Rv s.processes.plan s.places;
  IsIdle = λ s. s.stage ≡ Idle;
  Takes = λ s inputs. length inputs ≡ length s.processes.plan.takes;
  begun = begun;
  MayAsk = λ s. MayAsk s.stage;
  Gives = Gives;
  asking = asking;
  asked_of = λ s. asked_process s.stage;
  lent_of = λ s. lent_if s (asked_process s.stage);
  handed = λ s. s;
  MayLend = λ s. IsSome (asked_process s.stage);
  listened_of = λ s. None;
  partial_of = λ s. [];
  accepts = λ s child out. true;
  refusal = λ s. Rate;
  told = λ child out wake need. after_told child out need;
  is_wrong = λ s. false;
  heard = λ child early s. s;
  MayFinish = λ s. s.stage ≡ Closed;
  own_of = λ s. s.outputs;
  closed = closed;
  wake = λ s. None;
  restarted = restarted;
  waits = waits;
  maximum = λ s. 0;
  blocked = λ s. [];
  met = λ s. Some s.met;
}

module _ {A : Type 0} (rows : Rows Token A) where
  -- The processes of a plan fit these children, whatever they fire: each needs a count for each of its places or any token, or is over, and at its start what is told of it.
  pub record Suits (s : State) (kids : List (Node Token A)) : Type 0 where
    pub children : length kids ≡ length (net_of s).places
    pub counts : AllAlways rows (λ i child. HasPlaces (count_at (net_of s).places i) (need_of rows child)) kids
    pub starts : AllAlways rows (λ i child. need_of rows (reset_of child) ≡ get_or s.processes.starts i Over) kids

  -- A firing is under way, and what comes next may be asked for.
  pub record Going (b : Beginning A State) (s : State) (now : List (Node Token A)) (news : List (Kept Token)) : Type 0 where
    pub stage : s.stage ≡ Open
    pub tag : s.tag ≡ b.tag
    pub suits : Suits s now
    pub so_far : RvSoFar rows b.meets b.before b.kids b.inputs b.olds s now news

  -- No firing is under way, and the core and its processes fit the children.
  pub record Fits (s : State) (kids : List (Node Token A)) : Type 0 where
    pub idle : s.stage ≡ Idle
    pub fitting : IsFor (facts_of rows) s kids
    pub suits : Suits s kids

  abbrev pub rv_acts : Acts rows State
  rv_acts = record { calls = rv_calls; Fits = Fits; Underway = Going }
