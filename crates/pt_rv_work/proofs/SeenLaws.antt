-- What the processes of a core do, one by one, makes its calls and its meetings.
use Rattle.std.proofs.Common.{◌≡◌, ℕ, zero, suc, ◌+◌, ◌<◌, List, [], ◌∷◌, ◌++◌, Bool, true, false, ◌&&◌, not, length, map, take, set, get_or, Option, Some, None, refl, sym, ap, ap₂, ◌∙◌, arith}
use Rattle.pt_meaning.specs.Tag.{Tag}
use Rattle.pt_meaning.specs.Streams.{Streams, get, change_at}
use Rattle.pt_meaning.specs.Log.{Meeting, Channel, Barrier, silent}
use Rattle.pt_meaning.specs.Machine.{Need}
use Rattle.pt_meaning.specs.Net.{Source, Own, Output, Net}
use Rattle.pt_meaning.specs.Process.{Put, Well, Party, next_at, at_rest, all_rest, gets_at, is_joining, puts_of, emptied, all_got, all_puts}
use Rattle.pt_meaning.specs.Process as process
use Rattle.pt_meaning.specs.Meetings.{Scene, waiting, first_on, offer, offers, all_there, Target, Place, Outlet, target_from, receives, Hop, hops_in, is_legal, sent, received, passed}
use Rattle.pt_meaning.specs.Meetings as meetings
use Rattle.pt_meaning.specs.Rendezvous.{seated}
use Rattle.pt_laws.specs.MeetingRuns.{LegalIs, MeetIs}
use Rattle.pt_laws.proofs.MeetingIndex.{some-same, targets-are, legal-is, meet-is}
use Rattle.pt_rv_laws.specs.State.{Processes, RvState, Stage, Open, Asked, need_facts, AllRest, IsLegal, IsOver, scene_in, after_meet}
use Rattle.pt_rv_work.specs.Core.{Standing, nobody, next_of, with_handed, with_token, with_put_made, once_fired, barriers_of, needs_of, gots_of, puts_of_all, Moving, state_with, puts_at, offer_in, offers_in, gets_there, sent_by, received_by, passed_to, all_passed}
use Rattle.pt_rv_work.specs.Seen.{AreTold, IsIllegal, ProcessesAreSeen, MeetingsAreSeen, BarriersAreSeen}

module _ {T : Type 0} where
  -- a process of a scene
  abbrev party_of : Standing T → Party T Need
  party_of p = record { barrier = p.barrier; state = p.need; got = p.got; puts = p.puts; mood = Well; log = silent }

  abbrev parties_of : List (Standing T) → List (Party T Need)
  parties_of ps = map (λ p. party_of p) ps

  abbrev scene_by : Moving T → Scene T Need
  scene_by w = record { parties = parties_of w.processes; inputs = w.inputs; outputs = w.outputs; met = [] }

  seats-are : (ps : List (Standing T)) → seated (barriers_of ps) (gots_of ps) (puts_of_all ps) (needs_of ps) ≡ parties_of ps
  seats-are [] = refl
  seats-are (p ∷ ps) = ap (λ v. party_of p ∷ v) (seats-are ps)

  module _ (p : Processes) (w : Moving T) (met : List Meeting) (tag : Tag) (stage : Stage) where
    abbrev state : RvState T
    state = state_with p w met tag stage

    seats-by : AreTold p w → seated p.plan.barriers (gots_of w.processes) (puts_of_all w.processes) (needs_of w.processes) ≡ parties_of w.processes
    seats-by e = ap (λ bs. seated bs (gots_of w.processes) (puts_of_all w.processes) (needs_of w.processes)) e ∙ seats-are w.processes

    scene-is : AreTold p w → scene_in state ≡ scene_by w
    scene-is e = ap (λ ps. let sc : Scene T Need = record { parties = ps; inputs = w.inputs; outputs = w.outputs; met = [] } in sc) (seats-by e)

  -- what one process does next, and what it puts
  next-by : (ps : List (Standing T)) (i : ℕ) → next_at need_facts (parties_of ps) i ≡ next_of (get_or ps i nobody)
  next-by [] i = refl
  next-by (p ∷ ps) zero = refl
  next-by (p ∷ ps) (suc i) = next-by ps i

  puts-by : (ps : List (Standing T)) (i : ℕ) → meetings.puts_at (parties_of ps) i ≡ (get_or ps i nobody).puts
  puts-by [] i = refl
  puts-by (p ∷ ps) zero = refl
  puts-by (p ∷ ps) (suc i) = puts-by ps i

  rest-by : (ps : List (Standing T)) → ((i : ℕ) → i < length ps → at_rest (next_of (get_or ps i nobody)) ≡ true) → all_rest need_facts (parties_of ps) ≡ true
  rest-by [] h = refl
  rest-by (p ∷ ps) h = both (at_rest (next_of p)) (all_rest need_facts (parties_of ps)) (h 0 (omega arith)) (rest-by ps (λ i l. h (suc i) (omega (arith, l))))
    where
      both : (x y : Bool) → x ≡ true → y ≡ true → (x && y) ≡ true
      both x y a b = rw (a, b) refl

  waits-by : (w : Moving T) (o : Option Source) → waiting (scene_by w) o ≡ puts_at w o
  waits-by w None = refl
  waits-by w (Some (Own j)) = refl
  waits-by w (Some (Output i port)) = puts-by w.processes i

  offer-by : (net : Net) (w : Moving T) (c : ℕ) → offer net (scene_by w) c ≡ offer_in net w c
  offer-by net w c = ap (λ us. first_on c us) (waits-by w (get net.sources c))

  offers-by : (net : Net) (w : Moving T) (hs : List Hop) → offers net (scene_by w) hs ≡ offers_in net w hs
  offers-by net w [] = refl
  offers-by net w (h ∷ hs) = ap₂ (λ x xs. x ∷ xs) (offer-by net w h.channel) (offers-by net w hs)

  gets-by : (w : Moving T) (t : Target) → receives need_facts (parties_of w.processes) t ≡ gets_there w t
  gets-by w (Place i q) = ap (λ n. gets_at q n) (next-by w.processes i)
  gets-by w (Outlet o) = refl

  -- what passes
  change-by : (f : Standing T → Standing T) (g : Party T Need → Party T Need) → ((q : Standing T) → g (party_of q) ≡ party_of (f q)) → (i : ℕ) (ps : List (Standing T)) → change_at i g (parties_of ps) ≡ parties_of (change_at i f ps)
  change-by f g h i [] = refl
  change-by f g h zero (p ∷ ps) = ap (λ q. q ∷ parties_of ps) (h p)
  change-by f g h (suc i) (p ∷ ps) = ap (λ qs. party_of p ∷ qs) (change-by f g h i ps)

  sent-to : (o : Option Source) (w : Moving T) → sent o (scene_by w) ≡ scene_by (sent_by o w)
  sent-to None w = refl
  sent-to (Some (Own j)) w = refl
  sent-to (Some (Output i port)) w = ap (λ ps. let sc : Scene T Need = record { parties = ps; inputs = w.inputs; outputs = w.outputs; met = [] } in sc) (change-by with_put_made process.with_put_made (λ q. refl) i w.processes)

  received-to : (x : T) (t : Target) (w : Moving T) → received x t (scene_by w) ≡ scene_by (received_by x t w)
  received-to x (Place i q) w = ap (λ ps. let sc : Scene T Need = record { parties = ps; inputs = w.inputs; outputs = w.outputs; met = [] } in sc) (change-by (with_token q x) (process.with_token q x) (λ p. refl) i w.processes)
  received-to x (Outlet o) w = refl

  passed-to : (net : Net) (hs : List Hop) (xs : List (Option T)) (w : Moving T) → passed net hs xs (scene_by w) ≡ scene_by (all_passed net hs xs w)
  passed-to net [] xs w = refl
  passed-to net (h ∷ hs) [] w = refl
  passed-to net (h ∷ hs) (None ∷ xs) w = refl
  passed-to net (h ∷ hs) (Some x ∷ xs) w =
      ap (λ v. passed net hs xs (received x h.target v)) (sent-to (get net.sources h.channel) w) ∙
      ap (λ v. passed net hs xs v) (received-to x h.target (sent_by (get net.sources h.channel) w)) ∙
      passed-to net hs xs (passed_to net h.channel h.target x w)

  got-by : (ps : List (Standing T)) → all_got (parties_of ps) ≡ gots_of ps
  got-by [] = refl
  got-by (p ∷ ps) = ap (λ v. p.got ∷ v) (got-by ps)

  all-puts-by : (ps : List (Standing T)) → all_puts (parties_of ps) ≡ puts_of_all ps
  all-puts-by [] = refl
  all-puts-by (p ∷ ps) = ap (λ v. p.puts ∷ v) (all-puts-by ps)

  -- no meeting changes what a process needs
  change-needs : (f : Standing T → Standing T) → ((q : Standing T) → (f q).need ≡ q.need) → (i : ℕ) (ps : List (Standing T)) → needs_of (change_at i f ps) ≡ needs_of ps
  change-needs f h i [] = refl
  change-needs f h zero (p ∷ ps) = ap (λ n. n ∷ needs_of ps) (h p)
  change-needs f h (suc i) (p ∷ ps) = ap (λ ns. p.need ∷ ns) (change-needs f h i ps)

  sent-needs : (o : Option Source) (w : Moving T) → needs_of (sent_by o w).processes ≡ needs_of w.processes
  sent-needs None w = refl
  sent-needs (Some (Own j)) w = refl
  sent-needs (Some (Output i port)) w = change-needs with_put_made (λ q. refl) i w.processes

  received-needs : (x : T) (t : Target) (w : Moving T) → needs_of (received_by x t w).processes ≡ needs_of w.processes
  received-needs x (Place i q) w = change-needs (with_token q x) (λ p. refl) i w.processes
  received-needs x (Outlet o) w = refl

  passed-needs : (net : Net) (hs : List Hop) (xs : List (Option T)) (w : Moving T) → needs_of (all_passed net hs xs w).processes ≡ needs_of w.processes
  passed-needs net [] xs w = refl
  passed-needs net (h ∷ hs) [] w = refl
  passed-needs net (h ∷ hs) (None ∷ xs) w = refl
  passed-needs net (h ∷ hs) (Some x ∷ xs) w =
      passed-needs net hs xs (passed_to net h.channel h.target x w) ∙ received-needs x h.target (sent_by (get net.sources h.channel) w) ∙ sent-needs (get net.sources h.channel) w

  module _ (p : Processes) (w : Moving T) (met : List Meeting) (tag : Tag) (stage : Stage) (told : AreTold p w) where
    abbrev net : Net
    net = p.plan.net

    abbrev now : RvState T
    now = state_with p w met tag stage

    -- a meeting of any kind
    module _ (m : Meeting) where
      abbrev hs : List Hop
      hs = hops_in net m

      abbrev end : Moving T
      end = all_passed net hs (offers_in net w hs) w

      abbrev built : List Need → List (Streams T) → List (List (Put T)) → List (List (Put T)) → Streams T → RvState T
      built ns gs us inputs out = record { processes = p; needs = ns; places = record { got = gs; puts = us; inputs = inputs }; outputs = out; met = met ++ (m ∷ []); tag = tag; stage = stage }

      abbrev built_from : Scene T Need → RvState T
      built_from sc = built (needs_of w.processes) (all_got sc.parties) (all_puts sc.parties) sc.inputs sc.outputs

      meets-by : state_with p end (met ++ (m ∷ [])) tag stage ≡ after_meet m now
      meets-by = sym
          (ap (λ sc. built_from (passed net hs (offers net sc hs) sc)) (scene-is p w met tag stage told) ∙
          ap (λ xs. built_from (passed net hs xs (scene_by w))) (offers-by net w hs) ∙
          ap (λ sc. built_from sc) (passed-to net hs (offers_in net w hs) w) ∙
          ap₂ (λ gs us. built (needs_of w.processes) gs us end.inputs end.outputs) (got-by end.processes) (all-puts-by end.processes) ∙
          ap (λ ns. built ns (gots_of end.processes) (puts_of_all end.processes) end.inputs end.outputs) (sym (passed-needs net hs (offers_in net w hs) w)))

    legal-by : (m : Meeting) → is_legal need_facts net (scene_in now) m ≡ is_legal need_facts net (scene_by w) m
    legal-by m = ap (λ sc. is_legal need_facts net sc m) (scene-is p w met tag stage told)

    one-passed : (c : ℕ) (x : T) → offer_in net w c ≡ Some x → state_with p (passed_to net c (target_from 0 net.places c) x w) (met ++ (Channel c ∷ [])) tag stage ≡ after_meet (Channel c) now
    one-passed c x e = ap (λ o. state_with p (all_passed net (hops_in net (Channel c)) (o ∷ []) w) (met ++ (Channel c ∷ [])) tag stage) (sym e) ∙ meets-by (Channel c)

  -- a process that hands over what it has gathered, and one that has fired
  handed-same : (i : ℕ) (ps : List (Standing T)) → (needs_of (change_at i with_handed ps) ≡ needs_of ps) × (gots_of (change_at i with_handed ps) ≡ gots_of ps) × (puts_of_all (change_at i with_handed ps) ≡ puts_of_all ps)
  handed-same i [] = (refl, refl, refl)
  handed-same zero (p ∷ ps) = (refl, refl, refl)
  handed-same (suc i) (p ∷ ps) = let r = handed-same i ps in (ap (λ v. p.need ∷ v) r.0, ap (λ v. p.got ∷ v) r.1, ap (λ v. p.puts ∷ v) r.2)

  fired-same : (need : Need) (us : List (Put T)) (i : ℕ) (ps : List (Standing T)) → (needs_of (change_at i (once_fired need us) ps) ≡ set (needs_of ps) i need) × (gots_of (change_at i (once_fired need us) ps) ≡ change_at i emptied (gots_of ps)) × (puts_of_all (change_at i (once_fired need us) ps) ≡ set (puts_of_all ps) i us)
  fired-same need us i [] = (refl, refl, refl)
  fired-same need us zero (p ∷ ps) = (refl, refl, refl)
  fired-same need us (suc i) (p ∷ ps) = let r = fired-same need us i ps in (ap (λ v. p.need ∷ v) r.0, ap (λ v. p.got ∷ v) r.1, ap (λ v. p.puts ∷ v) r.2)

  -- a state by its lists
  abbrev state_by : Processes → List Need → List (Streams T) → List (List (Put T)) → Moving T → List Meeting → Tag → Stage → RvState T
  state_by p ns gs us w met tag stage = record { processes = p; needs = ns; places = record { got = gs; puts = us; inputs = w.inputs }; outputs = w.outputs; met = met; tag = tag; stage = stage }

  by-lists : (p : Processes) (w : Moving T) (met : List Meeting) (tag : Tag) (stage : Stage) (ns ns' : List Need) (gs gs' : List (Streams T)) (us us' : List (List (Put T))) → (ns ≡ ns') × (gs ≡ gs') × (us ≡ us') → state_by p ns gs us w met tag stage ≡ state_by p ns' gs' us' w met tag stage
  by-lists p w met tag stage ns ns' gs gs' us us' e =
      ap (λ v. state_by p v gs us w met tag stage) e.0 ∙ ap (λ v. state_by p ns' v us w met tag stage) e.1 ∙ ap (λ v. state_by p ns' gs' v w met tag stage) e.2

pub processes-are-seen : {T : Type 0} → ProcessesAreSeen T
processes-are-seen = record {
  fires = λ p w met tag stage told i e. ap (λ ps. next_at need_facts ps i) (seats-by p w met tag stage told) ∙ next-by w.processes i ∙ e;
  rests = λ p w met tag stage told h. ap (λ ps. all_rest need_facts ps) (seats-by p w met tag stage told) ∙ rest-by w.processes h;
  hands = λ p w met tag stage i. by-lists p w met tag (Asked i) _ _ _ _ _ _ (handed-same i w.processes);
  tells = λ p w met tag stage i out need. by-lists p w met tag Open _ _ _ _ _ _ (fired-same need (puts_of p.plan.net.sources i 0 out) i w.processes);
}

-- a meeting that lacks something isn't legal
first-false : (x y : Bool) → x ≡ false → (x && y) ≡ false
first-false x y e = rw e refl

second-false : (x y : Bool) → y ≡ false → (x && y) ≡ false
second-false true y e = e
second-false false y e = refl

both-true : (x y : Bool) → x ≡ true → y ≡ true → (x && y) ≡ true
both-true x y a b = rw (a, b) refl

module _ {T : Type 0} (p : Processes) (w : Moving T) (met : List Meeting) (tag : Tag) (stage : Stage) (told : AreTold p w) where
  abbrev its_net : Net
  its_net = p.plan.net

  there-by : (m : Meeting) → all_there (offers its_net (scene_by w) (hops_in its_net m)) ≡ all_there (offers_in its_net w (hops_in its_net m))
  there-by m = ap (λ xs. all_there xs) (offers-by its_net w (hops_in its_net m))

  channel-legal : (c : ℕ) (x : T) → offer_in its_net w c ≡ Some x → gets_there w (target_from 0 its_net.places c) ≡ true → IsLegal (state_with p w met tag stage) (Channel c)
  channel-legal c x e g = legal-by p w met tag stage told (Channel c) ∙ both-true _ _ (there-by (Channel c) ∙ ap (λ o. all_there (o ∷ [])) e) (gets-by w (target_from 0 its_net.places c) ∙ g)

  channel-unoffered : (c : ℕ) → offer_in its_net w c ≡ None → IsIllegal (state_with p w met tag stage) (Channel c)
  channel-unoffered c e = legal-by p w met tag stage told (Channel c) ∙ first-false _ _ (there-by (Channel c) ∙ ap (λ o. all_there (o ∷ [])) e)

  channel-unreceived : (c : ℕ) → gets_there w (target_from 0 its_net.places c) ≡ false → IsIllegal (state_with p w met tag stage) (Channel c)
  channel-unreceived c e = legal-by p w met tag stage told (Channel c) ∙ second-false _ _ (gets-by w (target_from 0 its_net.places c) ∙ e)

  barrier-legal : (b : ℕ) → all_there (offers_in its_net w (hops_in its_net (Barrier b))) ≡ true → is_joining (next_of (get_or w.processes b nobody)) ≡ true → IsLegal (state_with p w met tag stage) (Barrier b)
  barrier-legal b e j = legal-by p w met tag stage told (Barrier b) ∙ both-true _ _ (there-by (Barrier b) ∙ e) (ap (λ n. is_joining n) (next-by w.processes b) ∙ j)

  barrier-unoffered : (b : ℕ) → all_there (offers_in its_net w (hops_in its_net (Barrier b))) ≡ false → IsIllegal (state_with p w met tag stage) (Barrier b)
  barrier-unoffered b e = legal-by p w met tag stage told (Barrier b) ∙ first-false _ _ (there-by (Barrier b) ∙ e)

  barrier-unjoined : (b : ℕ) → is_joining (next_of (get_or w.processes b nobody)) ≡ false → IsIllegal (state_with p w met tag stage) (Barrier b)
  barrier-unjoined b e = legal-by p w met tag stage told (Barrier b) ∙ second-false _ _ (ap (λ n. is_joining n) (next-by w.processes b) ∙ e)

  parties-long : (ps : List (Standing T)) → length (parties_of ps) ≡ length ps
  parties-long [] = refl
  parties-long (q ∷ ps) = ap (λ n. suc n) (parties-long ps)

  none-legal : AllRest (state_with p w met tag stage) → ((c : ℕ) → c < length its_net.sources → IsIllegal (state_with p w met tag stage) (Channel c)) → ((b : ℕ) → b < length w.processes → IsIllegal (state_with p w met tag stage) (Barrier b)) → IsOver (state_with p w met tag stage)
  none-legal rests channels barriers =
      let laws : LegalIs T Need = legal-is in
      let long : length (scene_in (state_with p w met tag stage)).parties ≡ length w.processes = ap (λ (sc : Scene T Need). length sc.parties) (scene-is p w met tag stage told) ∙ parties-long w.processes in
      let none = laws.none need_facts its_net (scene_in (state_with p w met tag stage)) channels (λ b l. barriers b (omega (arith, l, long))) in
      both-true _ _ rests (ap (λ b. not b) none)

  -- what is offered to a Barrier stays until it passes
  offered-stays : (b q : ℕ) (h : Hop) → b < length its_net.places → IsLegal (state_with p w met tag stage) (Barrier b) → q < get_or its_net.places b 0 → get (hops_in its_net (Barrier b)) q ≡ Some h →
      offer_in its_net (all_passed its_net (take q (hops_in its_net (Barrier b))) (take q (offers_in its_net w (hops_in its_net (Barrier b)))) w) h.channel ≡ offer_in its_net w h.channel
  offered-stays b q h l legal o e =
      let laws : MeetIs T Need = meet-is in
      let hs = hops_in its_net (Barrier b) in
      let xs = offers_in its_net w hs in
      let same = some-same _ h (sym (targets-are.hops its_net b q l o) ∙ e) in
      let stays = laws.stays need_facts its_net (scene_by w) b q l (sym (legal-by p w met tag stage told (Barrier b)) ∙ legal) o in
      let at_hop = ap (λ (v : Hop). offer its_net (passed its_net (take q hs) (take q (offers its_net (scene_by w) hs)) (scene_by w)) v.channel) (sym same) ∙ stays ∙ ap (λ (v : Hop). offer its_net (scene_by w) v.channel) same in
      sym
      (ap (λ (sc : Scene T Need). offer its_net sc h.channel) (ap (λ ys. passed its_net (take q hs) (take q ys) (scene_by w)) (offers-by its_net w hs) ∙ passed-to its_net (take q hs) (take q xs) w) ∙
      offer-by its_net (all_passed its_net (take q hs) (take q xs) w) h.channel) ∙
      at_hop ∙ offer-by its_net w h.channel

-- one after another
goes-on : {T : Type 0} (net : Net) (w : Moving T) (hs : List Hop) (xs : List (Option T)) (q : ℕ) (h : Hop) (x : T) → all_there xs ≡ true → get hs q ≡ Some h → get xs q ≡ Some (Some x) →
    all_passed net (take (suc q) hs) (take (suc q) xs) w ≡ passed_to net h.channel h.target x (all_passed net (take q hs) (take q xs) w)
goes-on net w [] xs q h x a e f = absurd (cc)
goes-on net w (y ∷ hs) [] q h x a e f = absurd (cc)
goes-on net w (y ∷ hs) (None ∷ xs) q h x a e f = absurd (cc)
goes-on {T} net w (y ∷ hs) (Some z ∷ xs) zero h x a e f = ap₂ (λ (u : Hop) (v : T). passed_to net u.channel u.target v w) (some-same y h e) (some-same z x (some-same (Some z) (Some x) f))
goes-on net w (y ∷ hs) (Some z ∷ xs) (suc q) h x a e f = goes-on net (passed_to net y.channel y.target z w) hs xs q h x a e f

pub meetings-are-seen : {T : Type 0} → MeetingsAreSeen T
meetings-are-seen = record {
  legal = λ p w met tag stage told c x e g. channel-legal p w met tag stage told c x e g;
  meets = λ p w met tag stage told c x e. one-passed p w met tag stage told c x e;
  unoffered = λ p w met tag stage told c e. channel-unoffered p w met tag stage told c e;
  unreceived = λ p w met tag stage told c e. channel-unreceived p w met tag stage told c e;
  over = λ p w met tag stage told rests channels barriers. none-legal p w met tag stage told rests channels barriers;
}

pub barriers-are-seen : {T : Type 0} → BarriersAreSeen T
barriers-are-seen = record {
  legal = λ p w met tag stage told b e j. barrier-legal p w met tag stage told b e j;
  unoffered = λ p w met tag stage told b e. barrier-unoffered p w met tag stage told b e;
  unjoined = λ p w met tag stage told b e. barrier-unjoined p w met tag stage told b e;
  meets = λ p w met tag stage told b. meets-by p w met tag stage told (Barrier b);
  goes_on = λ p w hs xs q h x a e f. goes-on p.plan.net w hs xs q h x a e f;
  stays = λ p w met tag stage told b q h l legal o e. offered-stays p w met tag stage told b q h l legal o e;
}
