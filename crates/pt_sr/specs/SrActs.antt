-- The calls of the core as a driver knows them.
use Rattle.std.specs.Prelude.{◌≡◌, ℕ, ◌≤◌, List, [], length, get_or, Bool, true, false, Option, Some, None, IsSome}
use Rattle.pt_meaning.specs.Streams.{Streams}
use Rattle.pt_meaning.specs.Machine.{Counts, Partial}
use Rattle.pt_meaning.specs.Valuation.{TickPlan}
use Rattle.pt_meaning.specs.Sr.{all_single}
use Rattle.pt_meaning.specs.Running.{total}
use Rattle.pt_meaning.specs.Tree.{Rows, Node}
use Rattle.pt_meaning.specs.Tree as tree
use Rattle.pt_meaning.specs.NodeFacts.{facts_of, need_of}
use Rattle.pt_value.specs.declared.token.Token.{Token}
use Rattle.pt_firing.specs.declared.ask.Ask.{Ask}
use Rattle.pt_firing.specs.declared.ask.Ask.TheVariants as ask
use Rattle.pt_firing.specs.declared.fault.RunFault.TheVariants.{SecondToken, Causality}
use Rattle.pt_records.specs.Kept.{Kept}
use Rattle.pt_core.specs.Acts.{Beginning, Calls, Acts}
use Rattle.pt_core.specs.Reached.{AllAlways}
use Rattle.pt_sr.specs.State.{Stage, Idle, Open, Asked, Listens, Wrong, Closed, MayFire, MayAnswer, asked_child, listened_child, inputs_of, lent_of, own_of, in_stage, begun, asked, listening, after_told, after_heard, closed, restarted, waits}
use Rattle.pt_sr.specs.Tick.{Comes}
use Rattle.pt_sr.specs.declared.tick.Next.TheVariants as next
use Rattle.pt_sr.specs.Clauses.{State, MayAsk}
use Rattle.pt_sr.specs.Chain.{IsStrict}
use Rattle.pt_sr.specs.SoFar.{SrSoFar}

-- the child is strict, if the plan says so
abbrev pub IsStrictIf : {A : Type 0} → Rows Token A → (nonstrict : Bool) → Node Token A → Type 0
IsStrictIf rows true node = Unit {0}
IsStrictIf rows false node = IsStrict (facts_of rows) node

-- it has so many places, where its need is a count for each
abbrev pub HasPlaces : {A : Type 0} → Rows Token A → ℕ → Node Token A → Type 0
HasPlaces rows places node = (ns : List ℕ) → need_of rows node ≡ Counts ns → length ns ≡ places

-- A plan fits these children, whatever they fire: there is one for each entry, each place ends at a channel, and those that give early answers are told apart.
pub record Suits {A : Type 0} (rows : Rows Token A) (plan : TickPlan) (nonstrict : List Bool) (kids : List (Node Token A)) : Type 0 where
  pub children : length kids ≡ length plan.net.places
  pub channels : total plan.net.places ≤ length plan.net.sources
  pub strict : AllAlways rows (λ i node. IsStrictIf rows (get_or nonstrict i false) node) kids
  pub places : AllAlways rows (λ i node. HasPlaces rows (get_or plan.net.places i 0) node) kids

-- a firing is under way, and a child may be asked for
pub record Going {A : Type 0} (rows : Rows Token A) (b : Beginning A State) (s : State) (now : List (Node Token A)) (news : List (Kept Token)) : Type 0 where
  pub stage : s.stage ≡ Open
  pub tag : s.tag ≡ b.tag
  pub plan : s.tick.plan ≡ b.before.tick.plan
  pub channels : length s.tick.known ≡ length s.tick.plan.net.sources
  pub suits : Suits rows s.tick.plan s.tick.nonstrict now
  pub so_far : SrSoFar rows b.meets b.before b.kids b.inputs b.olds s now news

-- what `ask` may answer, and the state after it
abbrev pub Gives : State → Ask → Type 0
Gives s (ask.Fire child tag) = (s.stage ≡ Open) × MayFire s.tick child × (tag ≡ s.tag)
Gives s (ask.Early child tag) = (s.stage ≡ Open) × MayAnswer s.tick child × (tag ≡ s.tag)
Gives s ask.Finished = (s.stage ≡ Open) × Comes s.tick next.Finished
Gives s (ask.Faulted kind (Some child)) = (kind ≡ SecondToken) × (s.stage ≡ Wrong child)
Gives s (ask.Faulted kind None) = (kind ≡ Causality) × (s.stage ≡ Open) × Comes s.tick next.Stuck
Gives s (ask.Reset child) = ⊥
Gives s (ask.Get child) = ⊥
Gives s (ask.Put child) = ⊥
Gives s ask.Grow = ⊥
Gives s (ask.Meet meeting) = ⊥
Gives s ask.Await = ⊥
Gives s ask.Full = ⊥

abbrev pub asking : Ask → State → State
asking (ask.Fire child tag) s = asked child s
asking (ask.Early child tag) s = listening child s
asking ask.Finished s = in_stage Closed s
asking (ask.Faulted kind child) s = s
asking (ask.Reset child) s = s
asking (ask.Get child) s = s
asking (ask.Put child) s = s
asking ask.Grow s = s
asking (ask.Meet meeting) s = s
asking ask.Await s = s
asking ask.Full s = s

-- of a child, if one was asked for
abbrev pub inputs_if : State → Option ℕ → Streams Token
inputs_if s None = []
inputs_if s (Some child) = lent_of s child

abbrev pub known_if : State → Option ℕ → List (Partial Token)
known_if s None = []
known_if s (Some child) = inputs_of s.tick child

-- a child gave two tokens on one port
abbrev pub is_wrong : Stage → Bool
is_wrong Idle = false
is_wrong Open = false
is_wrong (Asked child) = false
is_wrong (Listens child) = false
is_wrong (Wrong child) = true
is_wrong Closed = false

-- Wakes and needs of children say nothing to it, and it has no wake. No channel is full.
abbrev pub sr_calls : Calls State
sr_calls = record {
  start_of = λ s. tree.Sr s.tick.plan;
  core_of = λ s. tree.Sr s.tick.plan;
  IsIdle = λ s. s.stage ≡ Idle;
  Takes = λ s inputs. length inputs ≡ s.tick.plan.inputs;
  begun = begun;
  MayAsk = λ s. MayAsk s.stage;
  Gives = Gives;
  asking = asking;
  asked_of = λ s. asked_child s.stage;
  lent_of = λ s. inputs_if s (asked_child s.stage);
  handed = λ s. s;
  MayLend = λ s. IsSome (asked_child s.stage);
  listened_of = λ s. listened_child s.stage;
  partial_of = λ s. known_if s (listened_child s.stage);
  accepts = λ s child out. all_single out;
  refusal = λ s. SecondToken;
  told = λ child out wake need. after_told child out;
  is_wrong = λ s. is_wrong s.stage;
  heard = after_heard;
  MayFinish = λ s. s.stage ≡ Closed;
  own_of = own_of;
  closed = closed;
  wake = λ s. None;
  restarted = restarted;
  waits = waits;
  maximum = λ s. 0;
  blocked = λ s. [];
  met = λ s. None;
}

abbrev pub sr_acts : {A : Type 0} (rows : Rows Token A) → Acts rows State
sr_acts rows = record { calls = sr_calls; Fits = λ s kids. (s.stage ≡ Idle) × Suits rows s.tick.plan s.tick.nonstrict kids; Underway = Going rows }
