-- The fields of a core, and the state that contracts see.
use Rattle.std.specs.Prelude.{◌≡◌, ℕ, suc, ◌+◌, ◌-◌, ◌*◌, ◌<◌, ◌≤◌, List, [], ◌∷◌, length, take, drop, get_or, set, Option, Some, None, Vec}
use Rattle.std.specs.Global.{Global}
use Rattle.pt_meaning.specs.Tag.{Tag}
use Rattle.pt_meaning.specs.Streams.{Streams, at}
use Rattle.pt_meaning.specs.Net.{Source, Own, Output}
use Rattle.pt_meaning.specs.Sdf.{SdfPlan}
use Rattle.pt_meaning.specs.Running.{total}
use Rattle.pt_value.specs.declared.token.Token.{Token}
use Rattle.pt_sdf.specs.declared.sdf.Stage as declared
use Rattle.pt_sdf.specs.declared.sdf.Stage.TheVariants as code
use Rattle.pt_sdf.specs.declared.sdf.Core.TheInside.{Inside}
use Rattle.pt_sdf_parts.specs.ByNeed.{place_of}
use Rattle.pt_sdf.specs.State.{Stage, Idle, Open, Handed, Wrong, Closed, SdfState, asked}
use Rattle.pt_sdf_parts.specs.declared.feeds.Feed.{Feed}
use Rattle.pt_sdf_parts.specs.Plan.{plan_of, order_of}
use Rattle.pt_sdf_parts.specs.Lawful.{occurs, rate_at, IsLawful}
use Rattle.pt_sdf_parts.specs.Feeds.{AreFeeds}
use Rattle.pt_sdf_parts.specs.Rooms.{HasRoom}
use Rattle.pt_sdf_parts.specs.Lanes.{begins, AreLanes}
use Rattle.pt_sdf_parts.specs.Stretches.{place_at, IsWithin}

-- The stage, where the places of a child whose inputs were handed over have their tokens in their lent lists.
-- Where a child was asked for alone, all stands as before.
abbrev pub stage_of : (places : List ℕ) → Streams Token → declared.Stage → Stage Token
stage_of places lent code.Idle = Idle
stage_of places lent code.Open = Open
stage_of places lent (code.Asked child) = Open
stage_of places lent (code.Handed child) = Handed child (take (get_or places child 0) (drop (place_of places child) lent))
stage_of places lent (code.Wrong child) = Wrong child
stage_of places lent code.Closed = Closed

-- how often each child, from number i on, fired in so many whole iterations and in the beginning of one
abbrev pub fired_from : (whole : ℕ) (beginning : List ℕ) (i : ℕ) → List ℕ → List ℕ
fired_from whole beginning i [] = []
fired_from whole beginning i (q ∷ qs) = (whole * q + occurs i beginning) ∷ fired_from whole beginning (suc i) qs

-- what the fields hold
abbrev pub state_of : SdfPlan → (needs order : List ℕ) → (first held lent : Streams Token) → (turns left at : ℕ) → Tag → declared.Stage → SdfState Token
state_of p needs order first held lent turns left at tag stage = record {
  plan = p;
  needs = needs;
  first = first;
  held = held;
  fired = fired_from (turns - left) (take at order) 0 p.repetitions;
  turns = turns;
  tag = tag;
  stage = stage_of p.net.places lent stage;
}

-- the firings of an iteration, one after another, and how many of these were asked for and told
abbrev pub order_in : Inside → List ℕ
order_in c = order_of c.plan

abbrev pub at_in : Inside → ℕ
at_in c = place_at c.at c.done c.plan.order.items

abbrev pub state_in : Inside → SdfState Token
state_in c = state_of (plan_of c.plan) c.plan.needs (order_in c) c.first.lists c.channels.lists c.lent.items c.turns c.left (at_in c) c.tag c.stage

-- a child that was asked for has its inputs, though they still stand on their channels
abbrev pub with_asked : declared.Stage → SdfState Token → SdfState Token
with_asked code.Idle s = s
with_asked code.Open s = s
with_asked (code.Asked child) s = asked child s
with_asked (code.Handed child) s = s
with_asked (code.Wrong child) s = s
with_asked code.Closed s = s

-- at how many of the n places of the child that was asked for its tokens still stand on the channels
abbrev pub unmoved : declared.Stage → ℕ → ℕ
unmoved code.Idle n = 0
unmoved code.Open n = 0
unmoved (code.Asked child) n = n
unmoved (code.Handed child) n = 0
unmoved (code.Wrong child) n = 0
unmoved code.Closed n = 0

-- what contracts see
abbrev pub seen_in : Inside → SdfState Token
seen_in c = with_asked c.stage (state_in c)

-- the child whose inputs were taken last, where its firing isn't done
abbrev pub busy : declared.Stage → Option ℕ
busy code.Idle = None
busy code.Open = None
busy (code.Asked child) = None
busy (code.Handed child) = Some child
busy (code.Wrong child) = Some child
busy code.Closed = None

-- how often each child was lent tokens, by how often it fired
abbrev pub taken_by : Option ℕ → List ℕ → List ℕ
taken_by None fired = fired
taken_by (Some child) fired = set fired child (get_or fired child 0 + 1)

-- where the order stands: at the child that is asked for next, or after the last iteration
abbrev pub StageFits : declared.Stage → (left at : ℕ) → List ℕ → Type 0
StageFits code.Idle left at order = left ≡ 0
StageFits code.Open left at order = Unit {0}
StageFits (code.Asked child) left at order = (0 < left) × (get_or order at 0 ≡ child)
StageFits (code.Handed child) left at order = (0 < left) × (get_or order at 0 ≡ child)
StageFits (code.Wrong child) left at order = (0 < left) × (get_or order at 0 ≡ child)
StageFits code.Closed left at order = left ≡ 0

pub record IsPosition (order : List ℕ) (turns left at : ℕ) (stage : declared.Stage) : Type 0 where
  pub whole : left ≤ turns
  pub within : 0 < left → at < length order
  pub over : left ≡ 0 → at ≡ 0
  pub fits : StageFits stage left at order

-- A channel on which child i needs so many tokens: from an own input it had enough for all turns; from a child it has what it began with and was put on it, but for what was taken.
abbrev pub IsLevel : SdfPlan → (turns first held need i : ℕ) (taken fired : List ℕ) → Source → Type 0
IsLevel p turns first held need i taken fired (Own port) = need * (turns * get_or p.repetitions i 0) ≤ held + need * get_or taken i 0
IsLevel p turns first held need i taken fired (Output j port) = held + need * get_or taken i 0 ≡ first + rate_at p.rates j port * get_or fired j 0

abbrev pub AreLevel : SdfPlan → List ℕ → (first held : Streams Token) (turns : ℕ) (taken fired : List ℕ) → Type 0
AreLevel p needs first held turns taken fired =
    (i k : ℕ) → i < length p.net.places → k < get_or p.net.places i 0 →
    IsLevel p turns (length (at first (place_of p.net.places i + k))) (length (at held (place_of p.net.places i + k))) (get_or needs (place_of p.net.places i + k) 0) i taken fired (get_or p.net.sources (place_of p.net.places i + k) (Own 0))

-- each place has its room, but for those that need several tokens of the child whose firing isn't done
abbrev pub HaveRoom : (places needs : List ℕ) → List (Option (Vec Token Global)) → Option ℕ → Type 0
HaveRoom places needs rooms child =
    (i k : ℕ) → i < length places → k < get_or places i 0 → (child ≡ Some i → get_or needs (place_of places i + k) 0 ≤ 1) → HasRoom (get_or needs (place_of places i + k) 0) (get_or rooms (place_of places i + k) None)

-- what a core keeps
pub record Sound (p : SdfPlan) (needs order room offsets : List ℕ) (feeds : List (Vec Feed Global)) (first held : Streams Token) (rooms : List (Option (Vec Token Global))) (lent : Streams Token) (staged : List Token) (turns left at : ℕ) (stage : declared.Stage) : Type 0 where
  pub lawful : IsLawful p needs order room first
  pub places_begin : offsets ≡ begins 0 p.net.places
  pub fed : AreFeeds (length p.net.places) p.net.sources feeds
  pub counted : length held ≡ length p.net.sources
  pub position : IsPosition order turns left at stage
  pub level : AreLevel p needs first held turns (taken_by (busy stage) (fired_from (turns - left) (take at order) 0 p.repetitions)) (fired_from (turns - left) (take at order) 0 p.repetitions)
  pub rooms_counted : length rooms ≡ total p.net.places
  pub roomy : HaveRoom p.net.places needs rooms (busy stage)
  pub lists : length lent ≡ total p.net.places
  pub none_staged : staged ≡ []

abbrev pub IsSound : Inside → Type 0
IsSound c =
    Sound (plan_of c.plan) c.plan.needs (order_in c) c.plan.room c.tables.offsets.items c.tables.feeds.items c.first.lists c.channels.lists c.rooms.items c.lent.items c.staged.list c.turns c.left (at_in c) c.stage

-- and what is simple of its children, and that there is a stretch under way where iterations are left
pub record IsWhole (c : Inside) : Type 0 where
  pub sound : IsSound c
  pub stretch : 0 < c.left → IsWithin c.plan.order.items c.at c.done
  pub lanes : AreLanes c.plan.places c.plan.needs c.plan.rates.items c.tables.feeds.items c.tables.lanes.items
