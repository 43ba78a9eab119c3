-- What a contract sees of the core of SDF: what the channels hold, which firings were told in this firing of the composite, and where that firing stands.
use Rattle.std.specs.Prelude.{◌≡◌, ℕ, ◌+◌, ◌*◌, List, [], ◌++◌, Bool, true, false, Option, Some, None, take, drop, map, get_or, set}
use Rattle.pt_meaning.specs.Tag.{Tag, origin}
use Rattle.pt_meaning.specs.Streams.{Streams}
use Rattle.pt_meaning.specs.Rounds.{has_rates}
use Rattle.pt_meaning.specs.Kahn.{arrived, firsts, behind}
use Rattle.pt_meaning.specs.Sdf.{SdfPlan, iterations, sdf_limits, times, leaves}
use Rattle.pt_meaning.specs.Running.{Asks, plus, puts, total, zeros}
use Rattle.pt_sdf_parts.specs.ByNeed.{by_need, planned, place_of, skip_at}

-- where a firing of the composite stands: there is none, a child may be asked for, one was asked for and has these inputs, which may be handed over to be lent, one gave another number of tokens than its rates, or all is made
pub data Stage (T : Type 0) : Type 0 where
  Idle : Stage T
  Open : Stage T
  Asked : (child : ℕ) → (inputs : Streams T) → Stage T
  Handed : (child : ℕ) → (inputs : Streams T) → Stage T
  Wrong : (child : ℕ) → Stage T
  Closed : Stage T

-- The plan, the tokens that each place of each child needs, what the channels hold at the start and now,
-- how often each child fired in this firing of the composite, how many iterations this firing makes, its tag, and where it stands.
-- The inputs of a child that was asked for are no longer on the channels.
pub record SdfState (T : Type 0) : Type 0 where
  pub plan : SdfPlan
  pub needs : List ℕ
  pub first : Streams T
  pub held : Streams T
  pub fired : List ℕ
  pub turns : ℕ
  pub tag : Tag
  pub stage : Stage T

module _ {T : Type 0} where
  -- the child that was asked for and not told yet
  abbrev pub asked_child : Stage T → Option ℕ
  asked_child Idle = None
  asked_child Open = None
  asked_child (Asked child inputs) = Some child
  asked_child (Handed child inputs) = Some child
  asked_child (Wrong child) = None
  asked_child Closed = None

  -- its inputs
  abbrev pub lent_in : Stage T → Streams T
  lent_in Idle = []
  lent_in Open = []
  lent_in (Asked child inputs) = inputs
  lent_in (Handed child inputs) = inputs
  lent_in (Wrong child) = []
  lent_in Closed = []

  -- the child that was told last gave another number of tokens than its rates say
  abbrev pub is_wrong : Stage T → Bool
  is_wrong Idle = false
  is_wrong Open = false
  is_wrong (Asked child inputs) = false
  is_wrong (Handed child inputs) = false
  is_wrong (Wrong child) = true
  is_wrong Closed = false

  -- what child i needs
  abbrev pub needs_at : SdfState T → ℕ → List ℕ
  needs_at s i = take (get_or s.plan.net.places i 0) (drop (place_of s.plan.net.places i) s.needs)

  -- the inputs of child i, and the channels without them
  abbrev pub lent_of : SdfState T → ℕ → Streams T
  lent_of s i = firsts (needs_at s i) (take (get_or s.plan.net.places i 0) (drop (place_of s.plan.net.places i) s.held))

  abbrev pub left_of : SdfState T → ℕ → Streams T
  left_of s i = skip_at (place_of s.plan.net.places i) (needs_at s i) s.held

  -- the definition allows a firing of child i, with these inputs
  abbrev pub Allows : SdfState T → ℕ → Type 0
  Allows s i = Asks by_need i s.plan.net.places (sdf_limits s.turns s.plan.repetitions s.plan.rates) s.fired (planned s.plan.net.places s.needs) s.held (lent_of s i) (left_of s i)

  -- each child fired as often as the definition wants
  abbrev pub IsEnough : SdfState T → Type 0
  IsEnough s = s.fired ≡ map (λ q. s.turns * q) s.plan.repetitions

  -- the state at the start
  abbrev pub started : SdfPlan → List ℕ → Streams T → SdfState T
  started plan needs first = record { plan = plan; needs = needs; first = first; held = first; fired = zeros plan.net.places; turns = 0; tag = origin; stage = Idle }

  abbrev pub restarted : SdfState T → SdfState T
  restarted s = started s.plan s.needs s.first

  abbrev pub in_stage : Stage T → SdfState T → SdfState T
  in_stage stage s = record { plan = s.plan; needs = s.needs; first = s.first; held = s.held; fired = s.fired; turns = s.turns; tag = s.tag; stage = stage }

  -- a firing of the composite at a tag on some inputs is begun
  abbrev pub begun : Tag → Streams T → SdfState T → SdfState T
  begun tag inputs s =
      let X = arrived s.plan.net.sources inputs s.held in
      record { plan = s.plan; needs = s.needs; first = s.first; held = X; fired = zeros s.plan.net.places; turns = iterations s.plan X; tag = tag; stage = Open }

  -- child i is asked for: its inputs are taken
  abbrev pub asked : ℕ → SdfState T → SdfState T
  asked i s = record { plan = s.plan; needs = s.needs; first = s.first; held = left_of s i; fired = s.fired; turns = s.turns; tag = s.tag; stage = Asked i (lent_of s i) }

  -- the inputs of the child that was asked for are handed over
  abbrev pub hand : Stage T → Stage T
  hand Idle = Idle
  hand Open = Open
  hand (Asked child inputs) = Handed child inputs
  hand (Handed child inputs) = Handed child inputs
  hand (Wrong child) = Wrong child
  hand Closed = Closed

  abbrev pub handed : SdfState T → SdfState T
  handed s = in_stage (hand s.stage) s

  -- the inputs of a child were handed over, to be lent
  abbrev pub IsHanded : Stage T → Type 0
  IsHanded Idle = ⊥
  IsHanded Open = ⊥
  IsHanded (Asked child inputs) = ⊥
  IsHanded (Handed child inputs) = Unit {0}
  IsHanded (Wrong child) = ⊥
  IsHanded Closed = ⊥

  -- what child i gave is on the channels, where each port gave as many tokens as its rate says
  abbrev pub if_told : Bool → ℕ → Streams T → SdfState T → SdfState T
  if_told true i out s = record {
    plan = s.plan;
    needs = s.needs;
    first = s.first;
    held = plus s.held (puts i out s.plan.net.sources);
    fired = set s.fired i (get_or s.fired i 0 + 1);
    turns = s.turns;
    tag = s.tag;
    stage = Open;
  }
  if_told false i out s = in_stage (Wrong i) s

  abbrev pub after_told : ℕ → Streams T → SdfState T → SdfState T
  after_told i out s = if_told (has_rates (get_or s.plan.rates i []) out) i out s

  -- what the channels behind the places hold: those to the own outputs, and then those of the own inputs that feed nothing
  abbrev pub own_of : SdfState T → Streams T
  own_of s = drop (total s.plan.net.places) s.held

  -- how many tokens each own output gives
  abbrev pub owed : SdfState T → List ℕ
  owed s = times s.turns s.plan.gives

  -- the own outputs are handed out, and what the iterations take from own inputs that feed nothing is gone
  abbrev pub closed : SdfState T → SdfState T
  closed s = record {
    plan = s.plan;
    needs = s.needs;
    first = s.first;
    held = take (total s.plan.net.places) s.held ++ behind (times s.turns (leaves s.plan)) (own_of s);
    fired = s.fired;
    turns = s.turns;
    tag = s.tag;
    stage = Idle;
  }
