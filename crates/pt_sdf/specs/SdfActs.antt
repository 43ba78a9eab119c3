-- The calls of the core as a driver knows them.
use Rattle.std.specs.Prelude.{◌≡◌, ℕ, ◌<◌, ◌≤◌, List, [], length, get_or, Some, None}
use Rattle.pt_meaning.specs.Streams.{get}
use Rattle.pt_meaning.specs.Rounds.{has_rates}
use Rattle.pt_meaning.specs.Kahn.{arrived, firsts}
use Rattle.pt_meaning.specs.Sdf.{iterations, sdf_limits}
use Rattle.pt_meaning.specs.Running.{total}
use Rattle.pt_meaning.specs.Tree.{Rows, Node, list_of, heights}
use Rattle.pt_meaning.specs.Tree as tree
use Rattle.pt_meaning.specs.NodeFacts.{facts_of, need_of}
use Rattle.pt_value.specs.declared.token.Token.{Token}
use Rattle.pt_firing.specs.declared.ask.Ask.{Ask}
use Rattle.pt_firing.specs.declared.ask.Ask.TheVariants as ask
use Rattle.pt_firing.specs.declared.fault.RunFault.TheVariants.{Rate}
use Rattle.pt_records.specs.Kept.{Kept}
use Rattle.pt_records.specs.SoFar.{SoFar}
use Rattle.pt_core.specs.Acts.{Beginning, Calls, Acts}
use Rattle.pt_core.specs.Reached.{Always}
use Rattle.pt_sdf.specs.State.{Idle, Open, Wrong, Closed, Allows, IsEnough, asked_child, lent_in, handed, IsHanded, is_wrong, in_stage, begun, asked, after_told, closed, restarted, own_of, owed}
use Rattle.pt_sdf.specs.Chain.{IsFor}
use Rattle.pt_sdf.specs.Clauses.{State, MayAsk}

-- each child needs the same, whatever it fires
abbrev pub AllSteady : {A : Type 0} → Rows Token A → List (Node Token A) → Type 0
AllSteady {A} rows kids = (i : ℕ) (child : Node Token A) → get kids i ≡ Some child → Always rows (λ node. need_of rows node ≡ need_of rows child) child

-- A firing is under way, and a child may be asked for. It is by the plan, the first tokens and the iterations with which it began.
pub record Going {A : Type 0} (rows : Rows Token A) (b : Beginning A State) (s : State) (now : List (Node Token A)) (news : List (Kept Token)) : Type 0 where
  pub stage : s.stage ≡ Open
  pub tag : s.tag ≡ b.tag
  pub plan : s.plan ≡ b.before.plan
  pub first : s.first ≡ b.before.first
  pub turns : s.turns ≡ iterations b.before.plan (arrived b.before.plan.net.sources b.inputs b.before.held)
  pub count : length news ≡ length now
  pub fitting : IsFor (facts_of rows) s now
  pub starts : total s.plan.net.places ≤ length s.first
  pub steady : AllSteady rows now
  pub so_far : SoFar rows b.meets (heights b.kids) b.tag s.plan.net (sdf_limits s.turns s.plan.repetitions s.plan.rates) (list_of b.kids) (arrived s.plan.net.sources b.inputs b.before.held) b.olds s.fired now s.held news

-- what `ask` may answer, and the state after it
abbrev pub Gives : State → Ask → Type 0
Gives s (ask.Fire child tag) = (s.stage ≡ Open) × (child < length s.plan.net.places) × Allows s child × (tag ≡ s.tag)
Gives s ask.Finished = (s.stage ≡ Open) × IsEnough s
Gives s (ask.Faulted kind (Some child)) = (kind ≡ Rate) × (s.stage ≡ Wrong child)
Gives s (ask.Faulted kind None) = ⊥
Gives s (ask.Early child tag) = ⊥
Gives s (ask.Reset child) = ⊥
Gives s (ask.Get child) = ⊥
Gives s (ask.Put child) = ⊥
Gives s ask.Grow = ⊥
Gives s (ask.Meet meeting) = ⊥
Gives s ask.Await = ⊥
Gives s ask.Full = ⊥

abbrev pub asking : Ask → State → State
asking (ask.Fire child tag) s = asked child s
asking ask.Finished s = in_stage Closed s
asking (ask.Faulted kind child) s = s
asking (ask.Early child tag) s = s
asking (ask.Reset child) s = s
asking (ask.Get child) s = s
asking (ask.Put child) s = s
asking ask.Grow s = s
asking (ask.Meet meeting) s = s
asking ask.Await s = s
asking ask.Full s = s

-- It asks for no early answers, and hears none. Wakes of children say nothing to it, and it has none. What children need stays. No channel is full.
abbrev pub sdf_calls : Calls State
sdf_calls = record {
  start_of = λ s. tree.Sdf s.plan s.first;
  core_of = λ s. tree.Sdf s.plan s.held;
  IsIdle = λ s. s.stage ≡ Idle;
  Takes = λ s inputs. length inputs ≡ length s.plan.takes;
  begun = begun;
  MayAsk = λ s. MayAsk s.stage;
  Gives = Gives;
  asking = asking;
  asked_of = λ s. asked_child s.stage;
  lent_of = λ s. lent_in s.stage;
  handed = handed;
  MayLend = λ s. IsHanded s.stage;
  listened_of = λ s. None;
  partial_of = λ s. [];
  accepts = λ s child out. has_rates (get_or s.plan.rates child []) out;
  refusal = λ s. Rate;
  told = λ child out wake need. after_told child out;
  is_wrong = λ s. is_wrong s.stage;
  heard = λ child early s. s;
  MayFinish = λ s. s.stage ≡ Closed;
  own_of = λ s. firsts (owed s) (own_of s);
  closed = closed;
  wake = λ s. None;
  restarted = restarted;
  waits = λ s. 0;
  maximum = λ s. 0;
  blocked = λ s. [];
  met = λ s. None;
}

-- No firing is under way, and the plan is one for these children, whose needs stay. Each place has a channel, now and at the start.
pub record Fits {A : Type 0} (rows : Rows Token A) (s : State) (kids : List (Node Token A)) : Type 0 where
  pub idle : s.stage ≡ Idle
  pub fitting : IsFor (facts_of rows) s kids
  pub starts : total s.plan.net.places ≤ length s.first
  pub steady : AllSteady rows kids

abbrev pub sdf_acts : {A : Type 0} (rows : Rows Token A) → Acts rows State
sdf_acts rows = record { calls = sdf_calls; Fits = Fits rows; Underway = Going rows }
