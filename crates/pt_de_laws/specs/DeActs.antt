-- The calls of the core as a driver knows them.
use Rattle.std.specs.Prelude.{◌≡◌, ℕ, List, [], length, map, get_or, Bool, true, false, Option, Some, None, IsSome}
use Rattle.pt_meaning.specs.Machine.{Counts, Partial}
use Rattle.pt_meaning.specs.Valuation.{TickPlan}
use Rattle.pt_meaning.specs.Tree.{Rows, Node, reset_of}
use Rattle.pt_meaning.specs.Tree as tree
use Rattle.pt_meaning.specs.NodeFacts.{facts_of, need_of, next_of, whole_of}
use Rattle.pt_value.specs.declared.token.Token.{Token}
use Rattle.pt_firing.specs.declared.ask.Ask.{Ask}
use Rattle.pt_firing.specs.declared.ask.Ask.TheVariants as ask
use Rattle.pt_firing.specs.declared.fault.RunFault.TheVariants.{Causality}
use Rattle.pt_records.specs.Kept.{Kept}
use Rattle.pt_core.specs.Acts.{Beginning, Calls, Acts}
use Rattle.pt_core.specs.Reached.{AllAlways}
use Rattle.pt_de_laws.specs.State.{Roles, Stage, Idle, Open, Listens, Asked, Between, Closed, DeState, MayAnswer, IsOver, asked_child, listened_child, asked_row, partial_of, own_of, in_stage, begun, asked_on, after_told, after_heard, closed, restarted, wake_of, waits}
use Rattle.pt_de_laws.specs.Lawful.{IsLawful}
use Rattle.pt_de_laws.specs.Chain.{Answers, AsksFor}
use Rattle.pt_de_laws.specs.SoFar.{DeSoFar}

abbrev pub State : Type 0
State = DeState Token

-- the child answers early, if the plan says that it has delays
abbrev pub AnswersIf : {A : Type 0} → Rows Token A → TickPlan → Roles → ℕ → (early : Bool) → Node Token A → Type 0
AnswersIf rows plan roles i true node = Answers (facts_of rows) plan roles i node
AnswersIf rows plan roles i false node = Unit {0}

-- it has so many places, where its need is a count for each
abbrev pub HasPlaces : {A : Type 0} → Rows Token A → ℕ → Node Token A → Type 0
HasPlaces rows places node = (ns : List ℕ) → need_of rows node ≡ Counts ns → length ns ≡ places

-- A plan fits these children, whatever they fire: there is one for each entry, and of each it tells whether it takes its lists whole, whether it answers early, its wake at the start, and how many places it has.
pub record Suits {A : Type 0} (rows : Rows Token A) (plan : TickPlan) (roles : Roles) (kids : List (Node Token A)) : Type 0 where
  pub lawful : IsLawful plan roles
  pub children : length kids ≡ length plan.net.places
  pub whole : AllAlways rows (λ i node. whole_of rows node ≡ get_or roles.whole i false) kids
  pub answers : AllAlways rows (λ i node. AnswersIf rows plan roles i (get_or roles.early i false) node) kids
  pub starts : AllAlways rows (λ i node. next_of rows (reset_of node) ≡ get_or roles.starts i None) kids
  pub places : AllAlways rows (λ i node. HasPlaces rows (get_or plan.net.places i 0) node) kids

-- a firing is under way, and what comes next may be asked for
abbrev pub MayAsk : Stage Token → Type 0
MayAsk Idle = ⊥
MayAsk Open = Unit {0}
MayAsk (Listens child) = ⊥
MayAsk (Asked child rows) = ⊥
MayAsk (Between child rows) = Unit {0}
MayAsk Closed = ⊥

pub record Going {A : Type 0} (rows : Rows Token A) (b : Beginning A State) (s : State) (now : List (Node Token A)) (news : List (Kept Token)) : Type 0 where
  pub stage : MayAsk s.stage
  pub tag : s.tag ≡ b.tag
  pub plan : s.plan ≡ b.before.plan
  pub suits : Suits rows s.plan s.roles now
  pub so_far : DeSoFar rows b.meets b.before b.kids b.inputs b.olds s now news

-- what `ask` may answer, and the state after it
abbrev pub Gives : State → Ask → Type 0
Gives s (ask.Fire child tag) = AsksFor s s.stage child × (tag ≡ s.tag)
Gives s (ask.Early child tag) = (s.stage ≡ Open) × MayAnswer s child × (tag ≡ s.tag)
Gives s ask.Finished = (s.stage ≡ Open) × IsOver s
Gives s (ask.Faulted kind child) = ⊥
Gives s (ask.Reset child) = ⊥
Gives s (ask.Get child) = ⊥
Gives s (ask.Put child) = ⊥
Gives s ask.Grow = ⊥
Gives s (ask.Meet meeting) = ⊥
Gives s ask.Await = ⊥
Gives s ask.Full = ⊥

abbrev pub asking : Ask → State → State
asking (ask.Fire child tag) s = asked_on s.stage child s
asking (ask.Early child tag) s = in_stage (Listens child) s
asking ask.Finished s = in_stage Closed s
asking (ask.Faulted kind child) s = s
asking (ask.Reset child) s = s
asking (ask.Get child) s = s
asking (ask.Put child) s = s
asking ask.Grow s = s
asking (ask.Meet meeting) s = s
asking ask.Await s = s
asking ask.Full s = s

-- of a child, if one was asked for an early answer
abbrev pub partial_if : State → Option ℕ → List (Partial Token)
partial_if s None = []
partial_if s (Some child) = partial_of s child

-- Whatever a child gives is accepted, so the fault of one that gives anything else is never told. What a child needs says nothing to it, and no channel is full.
abbrev pub de_calls : Calls State
de_calls = record {
  start_of = λ s. tree.De s.plan;
  core_of = λ s. tree.De s.plan;
  IsIdle = λ s. s.stage ≡ Idle;
  Takes = λ s inputs. length inputs ≡ s.plan.inputs;
  begun = begun;
  MayAsk = λ s. MayAsk s.stage;
  Gives = Gives;
  asking = asking;
  asked_of = λ s. asked_child s.stage;
  lent_of = λ s. asked_row s.stage;
  handed = λ s. s;
  MayLend = λ s. IsSome (asked_child s.stage);
  listened_of = λ s. listened_child s.stage;
  partial_of = λ s. partial_if s (listened_child s.stage);
  accepts = λ s child out. true;
  refusal = λ s. Causality;
  told = λ child out wake need. after_told child out wake;
  is_wrong = λ s. false;
  heard = after_heard;
  MayFinish = λ s. s.stage ≡ Closed;
  own_of = own_of;
  closed = closed;
  wake = wake_of;
  restarted = restarted;
  waits = waits;
  maximum = λ s. 0;
  blocked = λ s. [];
  met = λ s. None;
}

-- The wakes are those of the children, so that the least of them is the composite's.
abbrev pub de_acts : {A : Type 0} (rows : Rows Token A) → Acts rows State
de_acts rows = record { calls = de_calls; Fits = λ s kids. (s.stage ≡ Idle) × (s.wakes ≡ map (next_of rows) kids) × Suits rows s.plan s.roles kids; Underway = Going rows }
