-- What processes do, one by one, makes the calls and the meetings of the state that contracts see of a core.
use Rattle.std.specs.Prelude.{◌≡◌, ℕ, suc, ◌<◌, List, [], ◌∷◌, ◌++◌, true, false, length, take, get_or, Option, Some, None}
use Rattle.pt_meaning.specs.Tag.{Tag}
use Rattle.pt_meaning.specs.Streams.{Streams, get, change_at}
use Rattle.pt_meaning.specs.Log.{Meeting, Channel, Barrier}
use Rattle.pt_meaning.specs.Machine.{Need}
use Rattle.pt_meaning.specs.Process.{Fires, at_rest, is_joining, puts_of}
use Rattle.pt_meaning.specs.Meetings.{all_there, target_from, Hop, hops_in, is_legal}
use Rattle.pt_rv_laws.specs.State.{Processes, RvState, Stage, Open, Asked, need_facts, net_of, MayFire, AllRest, IsLegal, IsOver, scene_in, in_stage, after_meet, after_told}
use Rattle.pt_rv_work.specs.Core.{nobody, next_of, with_handed, once_fired, barriers_of, Moving, state_with, offer_in, offers_in, gets_there, passed_to, all_passed}

-- the plan says of each process whether it is a Barrier
abbrev pub AreTold : {T : Type 0} → Processes → Moving T → Type 0
AreTold p w = p.plan.barriers ≡ barriers_of w.processes

-- the meeting isn't legal now
abbrev pub IsIllegal : {T : Type 0} → RvState T → Meeting → Type 0
IsIllegal s m = is_legal need_facts (net_of s) (scene_in s) m ≡ false

-- A process that does next a firing may fire; where each does another thing next none may. One that hands over what it has gathered is asked to fire, and one that has fired has its puts to make.
pub record ProcessesAreSeen (T : Type 0) : Type 0 where
  pub fires : (p : Processes) (w : Moving T) (met : List Meeting) (tag : Tag) (stage : Stage) → AreTold p w → (i : ℕ) → next_of (get_or w.processes i nobody) ≡ Fires → MayFire (state_with p w met tag stage) i
  pub rests : (p : Processes) (w : Moving T) (met : List Meeting) (tag : Tag) (stage : Stage) → AreTold p w → ((i : ℕ) → i < length w.processes → at_rest (next_of (get_or w.processes i nobody)) ≡ true) → AllRest (state_with p w met tag stage)
  pub hands : (p : Processes) (w : Moving T) (met : List Meeting) (tag : Tag) (stage : Stage) (i : ℕ) → state_with p (record { processes = change_at i with_handed w.processes; inputs = w.inputs; outputs = w.outputs }) met tag (Asked i) ≡ in_stage (Asked i) (state_with p w met tag stage)
  pub tells : (p : Processes) (w : Moving T) (met : List Meeting) (tag : Tag) (stage : Stage) (i : ℕ) (out : Streams T) (need : Need) →
      state_with p (record { processes = change_at i (once_fired need (puts_of p.plan.net.sources i 0 out)) w.processes; inputs = w.inputs; outputs = w.outputs }) met tag Open ≡ after_told i out need (state_with p w met tag stage)

-- A meeting on a channel is legal where its sender offers a token on it and its receiver gets there, and then that token passes. Else it is not.
pub record MeetingsAreSeen (T : Type 0) : Type 0 where
  pub legal : (p : Processes) (w : Moving T) (met : List Meeting) (tag : Tag) (stage : Stage) → AreTold p w → (c : ℕ) (x : T) → offer_in p.plan.net w c ≡ Some x → gets_there w (target_from 0 p.plan.net.places c) ≡ true → IsLegal (state_with p w met tag stage) (Channel c)
  pub meets : (p : Processes) (w : Moving T) (met : List Meeting) (tag : Tag) (stage : Stage) → AreTold p w → (c : ℕ) (x : T) → offer_in p.plan.net w c ≡ Some x →
      state_with p (passed_to p.plan.net c (target_from 0 p.plan.net.places c) x w) (met ++ (Channel c ∷ [])) tag stage ≡ after_meet (Channel c) (state_with p w met tag stage)
  pub unoffered : (p : Processes) (w : Moving T) (met : List Meeting) (tag : Tag) (stage : Stage) → AreTold p w → (c : ℕ) → offer_in p.plan.net w c ≡ None → IsIllegal (state_with p w met tag stage) (Channel c)
  pub unreceived : (p : Processes) (w : Moving T) (met : List Meeting) (tag : Tag) (stage : Stage) → AreTold p w → (c : ℕ) → gets_there w (target_from 0 p.plan.net.places c) ≡ false → IsIllegal (state_with p w met tag stage) (Channel c)
  pub over : (p : Processes) (w : Moving T) (met : List Meeting) (tag : Tag) (stage : Stage) → AreTold p w → AllRest (state_with p w met tag stage) → ((c : ℕ) → c < length p.plan.net.sources → IsIllegal (state_with p w met tag stage) (Channel c)) →
      ((b : ℕ) → b < length w.processes → IsIllegal (state_with p w met tag stage) (Barrier b)) → IsOver (state_with p w met tag stage)

-- A Barrier's meeting is legal where it joins and each of its channels is offered a token, and then one token passes after another; what is offered on a channel stays until its token passes.
pub record BarriersAreSeen (T : Type 0) : Type 0 where
  pub legal : (p : Processes) (w : Moving T) (met : List Meeting) (tag : Tag) (stage : Stage) → AreTold p w → (b : ℕ) → all_there (offers_in p.plan.net w (hops_in p.plan.net (Barrier b))) ≡ true → is_joining (next_of (get_or w.processes b nobody)) ≡ true → IsLegal (state_with p w met tag stage) (Barrier b)
  pub unoffered : (p : Processes) (w : Moving T) (met : List Meeting) (tag : Tag) (stage : Stage) → AreTold p w → (b : ℕ) → all_there (offers_in p.plan.net w (hops_in p.plan.net (Barrier b))) ≡ false → IsIllegal (state_with p w met tag stage) (Barrier b)
  pub unjoined : (p : Processes) (w : Moving T) (met : List Meeting) (tag : Tag) (stage : Stage) → AreTold p w → (b : ℕ) → is_joining (next_of (get_or w.processes b nobody)) ≡ false → IsIllegal (state_with p w met tag stage) (Barrier b)
  pub meets : (p : Processes) (w : Moving T) (met : List Meeting) (tag : Tag) (stage : Stage) → AreTold p w → (b : ℕ) →
      state_with p (all_passed p.plan.net (hops_in p.plan.net (Barrier b)) (offers_in p.plan.net w (hops_in p.plan.net (Barrier b))) w) (met ++ (Barrier b ∷ [])) tag stage ≡ after_meet (Barrier b) (state_with p w met tag stage)
  pub goes_on : (p : Processes) (w : Moving T) (hs : List Hop) (xs : List (Option T)) (q : ℕ) (h : Hop) (x : T) → all_there xs ≡ true → get hs q ≡ Some h → get xs q ≡ Some (Some x) →
      all_passed p.plan.net (take (suc q) hs) (take (suc q) xs) w ≡ passed_to p.plan.net h.channel h.target x (all_passed p.plan.net (take q hs) (take q xs) w)
  pub stays : (p : Processes) (w : Moving T) (met : List Meeting) (tag : Tag) (stage : Stage) → AreTold p w → (b q : ℕ) (h : Hop) → b < length p.plan.net.places → IsLegal (state_with p w met tag stage) (Barrier b) → q < get_or p.plan.net.places b 0 → get (hops_in p.plan.net (Barrier b)) q ≡ Some h →
      offer_in p.plan.net (all_passed p.plan.net (take q (hops_in p.plan.net (Barrier b))) (take q (offers_in p.plan.net w (hops_in p.plan.net (Barrier b)))) w) h.channel ≡ offer_in p.plan.net w h.channel
