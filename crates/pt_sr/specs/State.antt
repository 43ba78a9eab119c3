-- What a contract sees of the core of SR: the tick under way, its tag, and where the firing of the composite stands.
use Rattle.std.specs.Prelude.{◌≡◌, ℕ, suc, ◌<◌, ◌≤◌, ◌⊎◌, List, [], ◌∷◌, Bool, true, false, nat_eq, length, map, drop, get_or, set, Option, Some, None, if◌then◌else◌}
use Rattle.pt_meaning.specs.Tag.{Tag, origin}
use Rattle.pt_meaning.specs.Streams.{Streams, at, get}
use Rattle.pt_meaning.specs.Machine.{Partial, Unknown, Known, partial_at}
use Rattle.pt_meaning.specs.Net.{Source, Own, Output}
use Rattle.pt_meaning.specs.Valuation.{TickPlan, unknowns, is_known, tokens_of}
use Rattle.pt_meaning.specs.Sr.{all_single}
use Rattle.pt_meaning.specs.Running.{total}
use Rattle.pt_firing.specs.TriState.{if_known}
use Rattle.pt_laws.specs.TickRuns.{places_at}

-- where a firing of the composite stands: there is none, a child may be asked for, one was asked to fire, one was asked for an early answer, one gave two tokens on one port, or each has fired
pub data Stage : Type 0 where
  Idle : Stage
  Open : Stage
  Asked : (child : ℕ) → Stage
  Listens : (child : ℕ) → Stage
  Wrong : (child : ℕ) → Stage
  Closed : Stage

-- A tick under way: the net, whether each child gives early answers, what is known of each channel, and which children have fired.
-- Of each child, how many of its places were unknown when it was last asked for an early answer, and one more than it has until it was asked.
pub record TickState (T : Type 0) : Type 0 where
  pub plan : TickPlan
  pub nonstrict : List Bool
  pub known : List (Partial T)
  pub fired : List Bool
  pub heard : List ℕ

pub record SrState (T : Type 0) : Type 0 where
  pub tick : TickState T
  pub tag : Tag
  pub stage : Stage

-- what is known of a channel once its source gave something, or nothing: what was known stays
abbrev pub learnt : {T : Type 0} → Partial T → Option (List T) → Partial T
learnt (Known xs) given = Known xs
learnt Unknown None = Unknown
learnt Unknown (Some xs) = Known xs

-- how many of some signals are unknown
abbrev pub unknown_in : {T : Type 0} → List (Partial T) → ℕ
unknown_in [] = 0
unknown_in (Unknown ∷ vs) = suc (unknown_in vs)
unknown_in (Known xs ∷ vs) = unknown_in vs

-- the tokens of each port
abbrev pub all_of : {T : Type 0} → Streams T → ℕ → Option (List T)
all_of out port = Some (at out port)

-- the tokens of each port that is known
abbrev pub known_of : {T : Type 0} → List (Partial T) → ℕ → Option (List T)
known_of vs port = if_known (partial_at vs port)

-- what is known of a channel once child i gave this on its ports
abbrev pub after_child : {T : Type 0} → ℕ → (ℕ → Option (List T)) → Source → Partial T → Partial T
after_child i given (Own port) v = v
after_child i given (Output child port) v = if nat_eq child i then learnt v (given port) else v

abbrev pub after_children : {T : Type 0} → ℕ → (ℕ → Option (List T)) → List Source → List (Partial T) → List (Partial T)
after_children i given (c ∷ cs) (v ∷ vs) = after_child i given c v ∷ after_children i given cs vs
after_children i given [] vs = vs
after_children i given (c ∷ cs) [] = []

-- what is known of a channel at the beginning of a tick: its tokens where it begins at an own input
abbrev pub at_first : {T : Type 0} → Streams T → Source → Partial T
at_first inputs (Own port) = Known (at inputs port)
at_first inputs (Output child port) = Unknown

-- one more than each has
abbrev pub unheard : List ℕ → List ℕ
unheard places = map (λ n. suc n) places

-- the child that was asked to fire and not told yet
abbrev pub asked_child : Stage → Option ℕ
asked_child Idle = None
asked_child Open = None
asked_child (Asked child) = Some child
asked_child (Listens child) = None
asked_child (Wrong child) = None
asked_child Closed = None

-- the child that was asked for an early answer and not heard yet
abbrev pub listened_child : Stage → Option ℕ
listened_child Idle = None
listened_child Open = None
listened_child (Asked child) = None
listened_child (Listens child) = Some child
listened_child (Wrong child) = None
listened_child Closed = None

module _ {T : Type 0} where
  -- what is known of the inputs of child i
  abbrev pub inputs_of : TickState T → ℕ → List (Partial T)
  inputs_of s i = places_at s.plan.net.places i s.known

  -- some channel that child i feeds is unknown
  abbrev pub MayTell : TickState T → ℕ → Type 0
  MayTell s i = (c port : ℕ) × (get s.plan.net.sources c ≡ Some (Output i port)) × (is_known (partial_at s.known c) ≡ false)

  -- each channel that child i feeds is known
  abbrev pub HasTold : TickState T → ℕ → Type 0
  HasTold s i = (c port : ℕ) → get s.plan.net.sources c ≡ Some (Output i port) → is_known (partial_at s.known c) ≡ true

  -- child i hasn't fired, and each of its inputs is known
  pub record MayFire (s : TickState T) (i : ℕ) : Type 0 where
    pub there : i < length s.plan.net.places
    pub unfired : get_or s.fired i false ≡ false
    pub ready : unknown_in (inputs_of s i) ≡ 0

  -- child i hasn't fired and gives early answers, some input of it is unknown, one became known since it was last asked, and a channel that it feeds is unknown
  pub record MayAnswer (s : TickState T) (i : ℕ) : Type 0 where
    pub there : i < length s.plan.net.places
    pub unfired : get_or s.fired i false ≡ false
    pub nonstrict : get_or s.nonstrict i false ≡ true
    pub waits : 0 < unknown_in (inputs_of s i)
    pub news : unknown_in (inputs_of s i) < get_or s.heard i 0
    pub quiet : MayTell s i

  -- nothing is to be learnt of child i now: it waits for an input, and gives no early answers, or was asked with as many inputs unknown, or has told all
  pub record HasNothing (s : TickState T) (i : ℕ) : Type 0 where
    pub unfired : get_or s.fired i false ≡ false
    pub waits : 0 < unknown_in (inputs_of s i)
    pub why : (get_or s.nonstrict i false ≡ false) ⊎ (get_or s.heard i 0 ≤ unknown_in (inputs_of s i)) ⊎ HasTold s i

  -- at the start nothing is known
  abbrev pub unbegun : TickPlan → List Bool → TickState T
  unbegun plan nonstrict = record { plan = plan; nonstrict = nonstrict; known = unknowns plan.net.sources; fired = map (λ n. false) plan.net.places; heard = unheard plan.net.places }

  abbrev pub restarted_tick : TickState T → TickState T
  restarted_tick s = unbegun s.plan s.nonstrict

  -- a tick begins with the own inputs known
  abbrev pub begun_tick : Streams T → TickState T → TickState T
  begun_tick inputs s = record { plan = s.plan; nonstrict = s.nonstrict; known = map (λ c. at_first inputs c) s.plan.net.sources; fired = map (λ n. false) s.plan.net.places; heard = unheard s.plan.net.places }

  -- child i has fired, and gave this
  abbrev pub fired_tick : ℕ → Streams T → TickState T → TickState T
  fired_tick i out s = record { plan = s.plan; nonstrict = s.nonstrict; known = after_children i (all_of out) s.plan.net.sources s.known; fired = set s.fired i true; heard = s.heard }

  -- child i is asked for an early answer
  abbrev pub asked_tick : ℕ → TickState T → TickState T
  asked_tick i s = record { plan = s.plan; nonstrict = s.nonstrict; known = s.known; fired = s.fired; heard = set s.heard i (unknown_in (inputs_of s i)) }

  -- child i gave this early
  abbrev pub heard_tick : ℕ → List (Partial T) → TickState T → TickState T
  heard_tick i early s = record { plan = s.plan; nonstrict = s.nonstrict; known = after_children i (known_of early) s.plan.net.sources s.known; fired = s.fired; heard = s.heard }

  -- the channels to the own outputs
  abbrev pub outlets_of : TickState T → List (Partial T)
  outlets_of s = drop (total s.plan.net.places) s.known

  -- the calls of a core, as functions on its states
  abbrev pub in_stage : Stage → SrState T → SrState T
  in_stage stage s = record { tick = s.tick; tag = s.tag; stage = stage }

  abbrev pub started : TickPlan → List Bool → SrState T
  started plan nonstrict = record { tick = unbegun plan nonstrict; tag = origin; stage = Idle }

  abbrev pub restarted : SrState T → SrState T
  restarted s = started s.tick.plan s.tick.nonstrict

  abbrev pub begun : Tag → Streams T → SrState T → SrState T
  begun tag inputs s = record { tick = begun_tick inputs s.tick; tag = tag; stage = Open }

  -- a child is asked to fire
  abbrev pub asked : ℕ → SrState T → SrState T
  asked i s = in_stage (Asked i) s

  -- a child is asked for an early answer
  abbrev pub listening : ℕ → SrState T → SrState T
  listening i s = record { tick = asked_tick i s.tick; tag = s.tag; stage = Listens i }

  -- what child i gave is known, where it gave at most one token on each port
  abbrev pub if_told : Bool → ℕ → Streams T → SrState T → SrState T
  if_told true i out s = record { tick = fired_tick i out s.tick; tag = s.tag; stage = Open }
  if_told false i out s = in_stage (Wrong i) s

  abbrev pub after_told : ℕ → Streams T → SrState T → SrState T
  after_told i out s = if_told (all_single out) i out s

  -- what child i gave early is known
  abbrev pub after_heard : ℕ → List (Partial T) → SrState T → SrState T
  after_heard i early s = record { tick = heard_tick i early s.tick; tag = s.tag; stage = Open }

  -- the inputs of child i: nothing where it is absent
  abbrev pub lent_of : SrState T → ℕ → Streams T
  lent_of s i = tokens_of (inputs_of s.tick i)

  -- what each own output gives
  abbrev pub own_of : SrState T → Streams T
  own_of s = tokens_of (outlets_of s.tick)

  -- the own outputs are handed out
  abbrev pub closed : SrState T → SrState T
  closed s = restarted s

  -- so many early answers may be asked for before the next firing
  abbrev pub waits : SrState T → ℕ
  waits s = total s.tick.heard
