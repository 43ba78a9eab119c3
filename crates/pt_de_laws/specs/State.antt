-- What contracts see of a core of a DE composite: the tokens of each channel within a reaction, which children have had their turn at its tag, and the wake of each. The calls are functions of it.
use Rattle.std.specs.Prelude.{◌≡◌, ◌⊎◌, ℕ, zero, suc, ◌<◌, ◌≤◌, List, [], ◌∷◌, ◌++◌, Bool, true, false, ◌&&◌, ◌||◌, not, length, map, set, take, drop, get_or, nat_eq, Option, Some, None, if◌then◌else◌}
use Rattle.pt_meaning.specs.Tag.{Tag, origin, is_due, least}
use Rattle.pt_meaning.specs.Streams.{Streams, at}
use Rattle.pt_meaning.specs.Machine.{Partial, Unknown, Known}
use Rattle.pt_meaning.specs.Net.{Source, Own, Output}
use Rattle.pt_meaning.specs.Valuation.{TickPlan, tokens_of}
use Rattle.pt_meaning.specs.De.{rows_of}
use Rattle.pt_meaning.specs.Running.{total}
use Rattle.pt_laws.specs.TickRuns.{places_at}

-- What a plan tells of the children: the depth of each; of each channel whether it ends at a delay, an input that doesn't tell on what its child gives at the same tag; which children have delays, so that they answer early and fire after all others;
-- which take their lists whole; and the wake of each at the start.
pub record Roles : Type 0 where
  pub depths : List ℕ
  pub delayed : List Bool
  pub early : List Bool
  pub whole : List Bool
  pub starts : List (Option Tag)

-- A child within a reaction: it has had no turn, has answered early, or was asked for its turn.
pub data Turn : Type 0 where
  Waits : Turn
  Answered : Turn
  Over : Turn

-- No firing is under way; what comes next may be asked for; a child was asked for an early answer; a child was asked to fire on the first of some rows; it has fired on a row, and these are left; or each child has had its turn.
pub data Stage (T : Type 0) : Type 0 where
  Idle : Stage T
  Open : Stage T
  Listens : (child : ℕ) → Stage T
  Asked : (child : ℕ) → List (Streams T) → Stage T
  Between : (child : ℕ) → List (Streams T) → Stage T
  Closed : Stage T

-- A core: its plan, the wakes of the children, what each channel has at this tag so far, the turn of each child, and the tag.
pub record DeState (T : Type 0) : Type 0 where
  pub plan : TickPlan
  pub roles : Roles
  pub wakes : List (Option Tag)
  pub tokens : Streams T
  pub turns : List Turn
  pub tag : Tag
  pub stage : Stage T

-- there is a token
abbrev pub is_some_token : {T : Type 0} → List T → Bool
is_some_token [] = false
is_some_token (x ∷ xs) = true

-- the two are the same
abbrev pub agree : Bool → Bool → Bool
agree true b = b
agree false b = not b

-- a token is at a place that is a delay, or at one that is none
abbrev pub comes : {T : Type 0} → (delay : Bool) → List Bool → Streams T → Bool
comes delay [] X = false
comes delay (f ∷ fs) [] = false
comes delay (f ∷ fs) (xs ∷ X) = (agree f delay && is_some_token xs) || comes delay fs X

-- what is known of a place before all children but those with delays have fired: nothing of a delay
abbrev pub unless_delay : {T : Type 0} → Bool → List T → Partial T
unless_delay true xs = Unknown
unless_delay false xs = Known xs

abbrev pub beside_delays : {T : Type 0} → List Bool → Streams T → List (Partial T)
beside_delays [] X = []
beside_delays (f ∷ fs) [] = []
beside_delays (f ∷ fs) (xs ∷ X) = unless_delay f xs ∷ beside_delays fs X

-- the rows on which a child fires: its lists whole, or token by token
abbrev pub rows_for : {T : Type 0} → (whole : Bool) → Streams T → List (Streams T)
rows_for true X = X ∷ []
rows_for false X = rows_of X

-- what each channel has once child i gave this on its ports
abbrev pub gained_by : {T : Type 0} → ℕ → Streams T → Source → List T → List T
gained_by i out (Own port) xs = xs
gained_by i out (Output child port) xs = if nat_eq child i then xs ++ at out port else xs

abbrev pub gained : {T : Type 0} → ℕ → Streams T → List Source → Streams T → Streams T
gained i out [] X = X
gained i out (c ∷ cs) [] = []
gained i out (c ∷ cs) (xs ∷ X) = gained_by i out c xs ∷ gained i out cs X

-- so many channels from one on have nothing
abbrev pub emptied_from : {T : Type 0} → (from count : ℕ) → Streams T → Streams T
emptied_from zero zero X = X
emptied_from zero (suc n) [] = []
emptied_from zero (suc n) (xs ∷ X) = [] ∷ emptied_from zero n X
emptied_from (suc o) n [] = []
emptied_from (suc o) n (xs ∷ X) = xs ∷ emptied_from o n X

-- those that end at places of child i
abbrev pub emptied : {T : Type 0} → List ℕ → ℕ → Streams T → Streams T
emptied places i X = emptied_from (total (take i places)) (get_or places i 0) X

-- what a channel has as a reaction begins
abbrev pub at_first : {T : Type 0} → Streams T → Source → List T
at_first inputs (Own port) = at inputs port
at_first inputs (Output child port) = []

-- a child that has had no turn is due by its wake, or by a token at an input that is no delay
abbrev pub is_due_in : Turn → (comes : Bool) → Bool
is_due_in Waits comes = comes
is_due_in Answered comes = false
is_due_in Over comes = false

-- a child fires after all others where it has answered, or where a token has come to a delay
abbrev pub is_last_in : Turn → (comes : Bool) → Bool
is_last_in Waits comes = comes
is_last_in Answered comes = true
is_last_in Over comes = false

-- how many have had no turn
abbrev pub waiting_in : List Turn → ℕ
waiting_in [] = 0
waiting_in (Waits ∷ ts) = suc (waiting_in ts)
waiting_in (Answered ∷ ts) = waiting_in ts
waiting_in (Over ∷ ts) = waiting_in ts

module _ {T : Type 0} where
  -- the child that was asked to fire and not told yet, and its rows
  abbrev pub asked_child : Stage T → Option ℕ
  asked_child Idle = None
  asked_child Open = None
  asked_child (Listens child) = None
  asked_child (Asked child rows) = Some child
  asked_child (Between child rows) = None
  asked_child Closed = None

  -- the child that was asked for an early answer and not heard yet
  abbrev pub listened_child : Stage T → Option ℕ
  listened_child Idle = None
  listened_child Open = None
  listened_child (Listens child) = Some child
  listened_child (Asked child rows) = None
  listened_child (Between child rows) = None
  listened_child Closed = None

  -- the first of some rows
  abbrev pub first_row : List (Streams T) → Streams T
  first_row [] = []
  first_row (X ∷ Xs) = X

  abbrev pub asked_row : Stage T → Streams T
  asked_row Idle = []
  asked_row Open = []
  asked_row (Listens child) = []
  asked_row (Asked child rows) = first_row rows
  asked_row (Between child rows) = []
  asked_row Closed = []

  -- after a row: the next, if there is one
  abbrev pub after_row : ℕ → List (Streams T) → Stage T
  after_row child [] = Open
  after_row child (X ∷ []) = Open
  after_row child (X ∷ (Y ∷ Ys)) = Between child (Y ∷ Ys)

  abbrev pub after_fired : Stage T → Stage T
  after_fired Idle = Idle
  after_fired Open = Open
  after_fired (Listens child) = Open
  after_fired (Asked child rows) = after_row child rows
  after_fired (Between child rows) = Between child rows
  after_fired Closed = Closed

  -- the rows that a child has still to fire on
  abbrev pub rows_left : Stage T → ℕ → List (Streams T)
  rows_left Idle i = []
  rows_left Open i = []
  rows_left (Listens child) i = []
  rows_left (Asked child rows) i = if nat_eq child i then rows else []
  rows_left (Between child rows) i = if nat_eq child i then rows else []
  rows_left Closed i = []

  -- what has come to child i, place by place, and which of its places are delays
  abbrev pub inputs_of : DeState T → ℕ → Streams T
  inputs_of s i = places_at s.plan.net.places i s.tokens

  abbrev pub delays_of : DeState T → ℕ → List Bool
  delays_of s i = places_at s.plan.net.places i s.roles.delayed

  -- child i has its turn at its depth
  abbrev pub is_due_child : DeState T → ℕ → Bool
  is_due_child s i = is_due_in (get_or s.turns i Over) (is_due s.tag (get_or s.wakes i None) || comes false (delays_of s i) (inputs_of s i))

  -- child i fires after all others
  abbrev pub is_last_child : DeState T → ℕ → Bool
  is_last_child s i = is_last_in (get_or s.turns i Over) (comes true (delays_of s i) (inputs_of s i))

  abbrev pub depth_of : DeState T → ℕ → ℕ
  depth_of s i = get_or s.roles.depths i 0

  -- child i is due, and none that is due is less deep
  pub record IsFirst (s : DeState T) (i : ℕ) : Type 0 where
    pub there : i < length s.plan.net.places
    pub due : is_due_child s i ≡ true
    pub least : (j : ℕ) → j < length s.plan.net.places → is_due_child s j ≡ true → depth_of s i ≤ depth_of s j

  -- no child is due
  abbrev pub NoneIsDue : DeState T → Type 0
  NoneIsDue s = (j : ℕ) → j < length s.plan.net.places → is_due_child s j ≡ false

  -- child i fires after all others, and they have fired
  pub record IsLast (s : DeState T) (i : ℕ) : Type 0 where
    pub there : i < length s.plan.net.places
    pub last : is_last_child s i ≡ true
    pub none : NoneIsDue s

  -- a child may fire that is first and has no delays, or that is last
  abbrev pub MayFire : DeState T → ℕ → Type 0
  MayFire s i = (IsFirst s i × (get_or s.roles.early i false ≡ false)) ⊎ IsLast s i

  -- a child that has delays is asked for its early answer where it is first
  abbrev pub MayAnswer : DeState T → ℕ → Type 0
  MayAnswer s i = IsFirst s i × (get_or s.roles.early i false ≡ true)

  -- each child has had its turn, or needs none
  pub record IsOver (s : DeState T) : Type 0 where
    pub none_due : NoneIsDue s
    pub none_last : (j : ℕ) → j < length s.plan.net.places → is_last_child s j ≡ false

  -- no reaction is under way: nothing is at any channel
  abbrev pub at_rest : TickPlan → Roles → List (Option Tag) → DeState T
  at_rest plan roles wakes = record { plan = plan; roles = roles; wakes = wakes; tokens = map (λ c. []) plan.net.sources; turns = map (λ n. Waits) plan.net.places; tag = origin; stage = Idle }

  -- the calls of a core, as functions on its states
  abbrev pub in_stage : Stage T → DeState T → DeState T
  in_stage stage s = record { plan = s.plan; roles = s.roles; wakes = s.wakes; tokens = s.tokens; turns = s.turns; tag = s.tag; stage = stage }

  abbrev pub started : TickPlan → Roles → DeState T
  started plan roles = at_rest plan roles roles.starts

  abbrev pub restarted : DeState T → DeState T
  restarted s = started s.plan s.roles

  -- a reaction begins with the tokens of the own inputs
  abbrev pub begun : Tag → Streams T → DeState T → DeState T
  begun tag inputs s = record {
    plan = s.plan;
    roles = s.roles;
    wakes = s.wakes;
    tokens = map (λ c. at_first inputs c) s.plan.net.sources;
    turns = map (λ n. Waits) s.plan.net.places;
    tag = tag;
    stage = Open;
  }

  -- child i is asked to fire, on the first of its rows, where these tokens stay at the channels
  abbrev pub asked_with : Streams T → ℕ → DeState T → DeState T
  asked_with tokens i s = record {
    plan = s.plan;
    roles = s.roles;
    wakes = s.wakes;
    tokens = tokens;
    turns = set s.turns i Over;
    tag = s.tag;
    stage = Asked i (rows_for (get_or s.roles.whole i false) (inputs_of s i));
  }

  -- its inputs leave their channels
  abbrev pub asked : ℕ → DeState T → DeState T
  asked i s = asked_with (emptied s.plan.net.places i s.tokens) i s

  -- the child that fired on a row is asked to fire on the next
  abbrev pub asked_on : Stage T → ℕ → DeState T → DeState T
  asked_on Idle i s = s
  asked_on Open i s = asked i s
  asked_on (Listens child) i s = s
  asked_on (Asked child rows) i s = s
  asked_on (Between child rows) i s = in_stage (Asked child rows) s
  asked_on Closed i s = s

  -- what a child gave is at its channels; a child with delays has told it early
  abbrev pub given_by : (early : Bool) → ℕ → Streams T → List Source → Streams T → Streams T
  given_by true i out cs X = X
  given_by false i out cs X = gained i out cs X

  abbrev pub after_told : ℕ → Streams T → Option Tag → DeState T → DeState T
  after_told i out wake s = record {
    plan = s.plan;
    roles = s.roles;
    wakes = set s.wakes i wake;
    tokens = given_by (get_or s.roles.early i false) i out s.plan.net.sources s.tokens;
    turns = s.turns;
    tag = s.tag;
    stage = after_fired s.stage;
  }

  -- what child i gave early is at its channels
  abbrev pub after_heard : ℕ → List (Partial T) → DeState T → DeState T
  after_heard i early s = record {
    plan = s.plan;
    roles = s.roles;
    wakes = s.wakes;
    tokens = gained i (tokens_of early) s.plan.net.sources s.tokens;
    turns = set s.turns i Answered;
    tag = s.tag;
    stage = Open;
  }

  -- what is known of the inputs of child i that is asked for an early answer
  abbrev pub partial_of : DeState T → ℕ → List (Partial T)
  partial_of s i = beside_delays (delays_of s i) (inputs_of s i)

  -- what each own output gives
  abbrev pub own_of : DeState T → Streams T
  own_of s = drop (total s.plan.net.places) s.tokens

  -- the own outputs are handed out, and the wakes stay
  abbrev pub closed : DeState T → DeState T
  closed s = at_rest s.plan s.roles s.wakes

  -- the composite's own wake
  abbrev pub wake_of : DeState T → Option Tag
  wake_of s = least s.wakes

  -- so many early answers may be asked for before the next firing
  abbrev pub waits : DeState T → ℕ
  waits s = waiting_in s.turns
