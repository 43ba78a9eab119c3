-- What contracts see of a core of a Rendezvous composite: what each process has gathered and has still to put, and the meetings made so far (Hoare 1978, "Communicating Sequential Processes"; the book, "Process Networks and Rendezvous"). The calls are functions of it.
use Rattle.std.specs.Prelude.{◌≡◌, ℕ, ◌+◌, List, [], ◌∷◌, ◌++◌, true, false, ◌&&◌, not, length, set, Option, Some, None}
use Rattle.pt_meaning.specs.Tag.{Tag, origin}
use Rattle.pt_meaning.specs.Streams.{Streams, change_at}
use Rattle.pt_meaning.specs.Log.{Meeting}
use Rattle.pt_meaning.specs.Machine.{Need, Facts}
use Rattle.pt_meaning.specs.Net.{Net}
use Rattle.pt_meaning.specs.Process.{Party, Put, Fires, next_at, all_rest, puts_of, emptied}
use Rattle.pt_meaning.specs.Meetings.{Scene, is_legal, any_legal, meet}
use Rattle.pt_meaning.specs.Rendezvous.{RvPlan, Places, arriving, left_in, seated, outlets, first_places}
use Rattle.pt_laws.specs.SoundRuns.{got_by}

-- What stays of a composite: its plan, and what each process needs at its start.
pub record Processes : Type 0 where
  pub plan : RvPlan
  pub starts : List Need

-- No firing is under way; what comes next may be asked for; a process was asked to fire, and not told yet; or the firing is done.
pub data Stage : Type 0 where
  Idle : Stage
  Open : Stage
  Asked : (process : ℕ) → Stage
  Closed : Stage

-- A core: its processes, what each needs now, their places, what has come to each own output in this firing, the meetings made in it, the tag, and the stage.
pub record RvState (T : Type 0) : Type 0 where
  pub processes : Processes
  pub needs : List Need
  pub places : Places T
  pub outputs : Streams T
  pub met : List Meeting
  pub tag : Tag
  pub stage : Stage

-- a process as a core knows it: by what it needs
abbrev pub need_facts : {T : Type 0} → Facts T Need
need_facts = record { need = λ n. n; next = λ n. None; made = λ n. 0; early = λ tag n vs. []; whole = λ n. false; reset = λ n. n }

-- how many puts these senders have still to make
abbrev pub puts_in : {T : Type 0} → List (List (Put T)) → ℕ
puts_in [] = 0
puts_in (us ∷ puts) = length us + puts_in puts

-- the process that was asked to fire
abbrev pub asked_process : Stage → Option ℕ
asked_process Idle = None
asked_process Open = None
asked_process (Asked process) = Some process
asked_process Closed = None

module _ {T : Type 0} where
  abbrev pub net_of : RvState T → Net
  net_of s = s.processes.plan.net

  -- what process i has gathered, place by place
  abbrev pub got_of : RvState T → ℕ → Streams T
  got_of s i = got_by s.places.got i

  -- the processes at their places, by what they need, and with them the own inputs and outputs
  abbrev pub seats : RvState T → List (Party T Need)
  seats s = seated s.processes.plan.barriers s.places.got s.places.puts s.needs

  abbrev pub scene_in : RvState T → Scene T Need
  scene_in s = record { parties = seats s; inputs = s.places.inputs; outputs = s.outputs; met = [] }

  -- the meeting is legal now
  abbrev pub IsLegal : RvState T → Meeting → Type 0
  IsLegal s m = is_legal need_facts (net_of s) (scene_in s) m ≡ true

  -- process i may fire: it has no put to make, and has gathered all that it needs
  abbrev pub MayFire : RvState T → ℕ → Type 0
  MayFire s i = next_at need_facts (seats s) i ≡ Fires

  -- no process may fire
  abbrev pub AllRest : RvState T → Type 0
  AllRest s = all_rest need_facts (seats s) ≡ true

  -- no process may fire, and no meeting is legal
  abbrev pub IsOver : RvState T → Type 0
  IsOver s = (all_rest need_facts (seats s) && not (any_legal need_facts (net_of s) (scene_in s))) ≡ true

  -- the calls of a core, as functions on its states
  abbrev pub in_stage : Stage → RvState T → RvState T
  in_stage stage s = record { processes = s.processes; needs = s.needs; places = s.places; outputs = s.outputs; met = s.met; tag = s.tag; stage = stage }

  -- no firing is under way, nothing is gathered, and nothing is to be put
  abbrev pub started : Processes → RvState T
  started p = record { processes = p; needs = p.starts; places = first_places p.plan; outputs = outlets p.plan.net.places p.plan.net.sources; met = []; tag = origin; stage = Idle }

  abbrev pub restarted : RvState T → RvState T
  restarted s = started s.processes

  -- a firing begins: each own input has its new tokens to put, behind those that it kept, and no meeting is made
  abbrev pub begun : Tag → Streams T → RvState T → RvState T
  begun tag inputs s = record {
    processes = s.processes;
    needs = s.needs;
    places = record { got = s.places.got; puts = s.places.puts; inputs = arriving (net_of s).sources 0 s.places.inputs inputs };
    outputs = s.outputs;
    met = [];
    tag = tag;
    stage = Open;
  }

  -- the places and own outputs of a scene, and this meeting was made last
  abbrev pub with_scene : Scene T Need → Meeting → RvState T → RvState T
  with_scene sc m s = record { processes = s.processes; needs = s.needs; places = (left_in sc).held; outputs = sc.outputs; met = s.met ++ (m ∷ []); tag = s.tag; stage = s.stage }

  -- the meeting is made
  abbrev pub after_meet : Meeting → RvState T → RvState T
  after_meet m s = with_scene (meet (net_of s) 0 m (scene_in s)) m s

  -- process i has fired on what it gathered, gave this, and has this need from then on
  abbrev pub after_told : ℕ → Streams T → Need → RvState T → RvState T
  after_told i out need s = record {
    processes = s.processes;
    needs = set s.needs i need;
    places = record { got = change_at i emptied s.places.got; puts = set s.places.puts i (puts_of (net_of s).sources i 0 out); inputs = s.places.inputs };
    outputs = s.outputs;
    met = s.met;
    tag = s.tag;
    stage = Open;
  }

  -- the inputs of the process that was asked to fire
  abbrev pub lent_if : RvState T → Option ℕ → Streams T
  lent_if s None = []
  lent_if s (Some i) = got_of s i

  -- the core once the own outputs are handed out
  abbrev pub closed : RvState T → RvState T
  closed s = record { processes = s.processes; needs = s.needs; places = s.places; outputs = emptied s.outputs; met = []; tag = s.tag; stage = Idle }

  -- At most so many meetings may be made before a process fires: each takes a put.
  abbrev pub waits : RvState T → ℕ
  waits s = puts_in s.places.puts + puts_in s.places.inputs
