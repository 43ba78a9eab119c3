-- Which children of a core of DE are due, and which fire after all others, as sets that code keeps; and what tokens on a channel change of them. A token comes to the child at whose place its channel ends, at the same tag (Lee, discrete-event semantics).
use Rattle.std.specs.Prelude.{◌≡◌, ℕ, ◌<◌, ◌≤◌, List, [], ◌++◌, Bool, true, false, ◌&&◌, not, length, map, get_or, set, replicate, Option, Some, if◌then◌else◌}
use Rattle.pt_meaning.specs.Tag.{Tag}
use Rattle.pt_meaning.specs.Streams.{Streams, at, get}
use Rattle.pt_meaning.specs.Net.{Source, Output}
use Rattle.pt_meaning.specs.Running.{total}
use Rattle.pt_de_laws.specs.State.{Turn, Waits, Answered, Over, Open, DeState, is_some_token, is_due_child, is_last_child}
use Rattle.pt_reaction.specs.Offsets.{all_readers}
use Rattle.pt_reaction.specs.Feeds.{Target}
use Rattle.pt_wakes.specs.Due.{DueSet, with_due}

-- the children for which a test holds, at their depths
pub record IsSetOf (children : ℕ) (depth_list : List ℕ) (test : ℕ → Bool) (d : DueSet) : Type 0 where
  pub depths : d.depths ≡ depth_list
  pub long : length d.due ≡ children
  pub each : (j : ℕ) → j < children → get_or d.due j false ≡ test j

-- each channel that begins at a child begins at one of so many
abbrev pub AreWithin : (children : ℕ) → List Source → Type 0
AreWithin n sources = (c child port : ℕ) → get sources c ≡ Some (Output child port) → child < n

-- the target at a number, and any past the last
abbrev pub target_at : List Target → ℕ → Target
target_at ts k = get_or ts k (record { channel = 0; port = 0 })

-- a child becomes due where it was found to be
abbrev pub due_if : Bool → ℕ → DueSet → DueSet
due_if b i d = if b then with_due d i true else d

-- a child that has had no turn
abbrev pub is_waiting : Turn → Bool
is_waiting Waits = true
is_waiting Answered = false
is_waiting Over = false

module _ {T : Type 0} where
  -- one channel has some tokens more
  abbrev pub put : ℕ → List T → Streams T → Streams T
  put c ts X = set X c (at X c ++ ts)

  -- a core with another turn, or another wake, of one child
  abbrev pub with_turn : ℕ → Turn → DeState T → DeState T
  with_turn i turn s = record { plan = s.plan; roles = s.roles; wakes = s.wakes; tokens = s.tokens; turns = set s.turns i turn; tag = s.tag; stage = s.stage }

  abbrev pub with_wake : ℕ → Option Tag → DeState T → DeState T
  with_wake i wake s = record { plan = s.plan; roles = s.roles; wakes = set s.wakes i wake; tokens = s.tokens; turns = s.turns; tag = s.tag; stage = s.stage }

  -- the lists of a core fit its plan
  pub record IsShaped (s : DeState T) : Type 0 where
    pub depths : length s.roles.depths ≡ length s.plan.net.places
    pub turns : length s.turns ≡ length s.plan.net.places
    pub wakes : length s.wakes ≡ length s.plan.net.places
    pub tokens : length s.tokens ≡ length s.plan.net.sources
    pub delayed : length s.roles.delayed ≡ length s.plan.net.sources
    pub channels : total s.plan.net.places ≤ length s.plan.net.sources

  -- the children that are due, and those that fire after all others
  abbrev pub AreDue : DeState T → DueSet → Type 0
  AreDue s d = IsSetOf (length s.plan.net.places) s.roles.depths (is_due_child s) d

  abbrev pub AreLast : DeState T → DueSet → Type 0
  AreLast s d = IsSetOf (length s.plan.net.places) s.roles.depths (is_last_child s) d

  -- the child at whose place a channel ends, and the number of children for an own output
  abbrev pub reader_of : DeState T → ℕ → ℕ
  reader_of s c = get_or (all_readers s.plan.net.places (length s.plan.net.sources)) c (length s.plan.net.places)

  -- tokens on a channel make its reader due, if it has had no turn, or, at a delay, one of those that fire after all others
  abbrev pub makes_due : DeState T → ℕ → List T → Bool
  makes_due s c ts = is_waiting (get_or s.turns (reader_of s c) Over) && (not (get_or s.roles.delayed c false) && is_some_token ts)

  abbrev pub makes_last : DeState T → ℕ → List T → Bool
  makes_last s c ts = is_waiting (get_or s.turns (reader_of s c) Over) && (get_or s.roles.delayed c false && is_some_token ts)

  -- a reaction begins, and nothing has come to the own inputs yet
  abbrev pub opened : Tag → DeState T → DeState T
  opened tag s = record { plan = s.plan; roles = s.roles; wakes = s.wakes; tokens = map (λ c. []) s.plan.net.sources; turns = map (λ n. Waits) s.plan.net.places; tag = tag; stage = Open }

  -- no child is in the set
  abbrev pub none_due : DeState T → DueSet
  none_due s = record { depths = s.roles.depths; due = replicate (length s.plan.net.places) false }
