-- A firing of Rendezvous, by meetings, only moves tokens.
use Rattle.std.proofs.Common.{◌≡◌, ◌⊎◌, ℕ, zero, suc, ◌+◌, ◌-◌, ◌<◌, ◌≤◌, List, [], ◌∷◌, ◌++◌, Bool, true, false, ◌&&◌, not, nat_lt, length, Option, Some, None, if◌then◌else◌, inl, inr, refl, sym, ap, subst, arith, ◌∙◌}
use Rattle.std.proofs.lemmas.Bool.Decides.{nat_tests}
use Rattle.pt_meaning.specs.Basics.{Tag, Streams, at, Path, Event, Met, Meeting, Channel, Barrier, log_below}
use Rattle.pt_meaning.specs.Streams.{get, change_at}
use Rattle.pt_meaning.specs.Machine.{Outcome, Done, Stuck, Stepping, Facts, recorded}
use Rattle.pt_meaning.specs.Net.{Source, Own, Output, Net}
use Rattle.pt_meaning.specs.Running.{total}
use Rattle.pt_meaning.specs.Kahn.{skip_places}
use Rattle.pt_meaning.specs.Process.{Put, Mood, Well, Broken, Party, Next, Puts, Fires, Gets, GetsAny, Joins, Idle, Sticks, next_event, channels_from, puts_of_port, puts_of, fired, if_fires, advance, advanced, all_advanced, due_puts, with_put_made, with_token, all_rest, party_logs, party_states, all_got, all_puts}
use Rattle.pt_meaning.specs.Meetings.{Scene, puts_at, waiting, offer, Target, Place, Outlet, target_from, Hop, hops, hops_of_child, hops_in, offers, is_legal, any_legal, sent, received, passed, meet}
use Rattle.pt_meaning.specs.Rendezvous.{RvPlan, Places, arriving, if_ended, settled, if_meets, under_meetings, seated, opening, rv}
use Rattle.pt_meaning.specs.Closed.{Has, first_channel}
use Rattle.pt_laws.specs.SoundRuns.{got_by, count_at}
use Rattle.pt_kinds.specs.Moves.{IsMeeting, MayCome, stood, given, MayGive, arrives, MayStand, takes, MayLog, OnlyMoves}
use Rattle.pt_kinds.specs.Directors.{InPlaces, gathered, due, kept, IsSeated}
use Rattle.pt_kinds.proofs.MemberLaws.{has-append}
use Rattle.pt_kinds.proofs.TurnMoves.{is-itself, MayEnd, turn-may, BeginAt, begin-all, begin-next, first-is}
use Rattle.pt_kinds.proofs.FlowMoves.{AreStanding, all-stand}
use Rattle.pt_kinds.proofs.PutLaws.{change-length, in-rest, in-rests, in-added, emptied-length, none-emptied, got-beyond, no-outlets, outlets-length, from-source, in-firing, on-channel}

module _ {T S : Type 0} (facts : Facts T S) (step : Stepping T S) (tag : Tag) (net : Net) (kids : List S) (Stands : (channel : ℕ) → T → Type 0) (inputs : Streams T) where
  -- ---- a process

  abbrev Comes : ℕ → T → Type 0
  Comes c x = MayCome facts step tag net kids Stands inputs c x

  pub record PartyMay (i : ℕ) (p : Party T S) : Type 0 where
    pub state : MayStand facts step tag net kids Stands inputs i p.state
    pub long : length p.got ≡ count_at net.places i
    pub got : (q : ℕ) (x : T) → Has x (at p.got q) → MayCome facts step tag net kids Stands inputs (first_channel net.places i + q) x
    pub puts : (u : Put T) → Has u p.puts → MayCome facts step tag net kids Stands inputs u.channel u.token
    pub log : (path : Path) (e : Event T) → Has e (p.log path) → MayLog facts step tag net kids Stands inputs i path e

  puts-may : (i : ℕ) (out : Streams T) → ((port : ℕ) (x : T) → Has x (at out port) → MayGive facts step tag net kids Stands inputs (Output i port) x) → (u : Put T) → Has u (puts_of net.sources i 0 out) → Comes u.channel u.token
  puts-may i out g u h =
      let w = in-firing net.sources i 0 out u h in
      let e : 0 + w.0 ≡ w.0 = omega arith in
      given u.channel (Output i w.0) u.token (w.1 ∙ ap (λ n. Some (Output i n)) e) (g w.0 u.token w.2)

  fired-may : (i : ℕ) (p : Party T S) → PartyMay i p → (r : Outcome T S) → MayEnd facts step tag net kids Stands inputs i r → PartyMay i (fired facts step tag net.sources i p r)
  fired-may i p w (Done z out l) m = record {
    state = m.0;
    long = emptied-length p.got ∙ w.long;
    got = λ q x h. absurd (none-emptied p.got q x h);
    puts = λ u h. puts-may i out m.1 u h;
    log = λ path e h. elim (has-append e (p.log path) (l path) h) [ inl k ↦ w.log path e k | inr k ↦ m.2 path e k ];
  }
  fired-may i p w (Stuck fs l) m = record {
    state = w.state;
    long = w.long;
    got = w.got;
    puts = w.puts;
    log = λ path e h. elim (has-append e (p.log path) (l path) h) [ inl k ↦ w.log path e k | inr k ↦ m path e k ];
  }

  fires-may : (n : Next) (i : ℕ) (p : Party T S) → PartyMay i p → PartyMay i (if_fires facts step tag net.sources n i p)
  fires-may Fires i p w =
      fired-may i p w (recorded (facts.made p.state) tag p.got (step tag p.state p.got))
      (turn-may facts step tag net kids Stands inputs i p.state p.got (takes i p.state p.got w.state w.long w.got) (step tag p.state p.got) (is-itself (step tag p.state p.got)))
  fires-may Puts i p w = w
  fires-may (Gets q) i p w = w
  fires-may GetsAny i p w = w
  fires-may Joins i p w = w
  fires-may Idle i p w = w
  fires-may Sticks i p w = w

  advanced-may : (k i : ℕ) (p : Party T S) → PartyMay i p → PartyMay i (advanced facts step tag net.sources k i p)
  unfolding advanced
  advanced-may zero i p w = w
  advanced-may (suc k) i p w = advanced-may k i (advance facts step tag net.sources i p) (fires-may (next_event facts p) i p w)

  -- ---- the processes from process i on

  abbrev pub AllMay : ℕ → List (Party T S) → Type 0
  AllMay i [] = Unit {0}
  AllMay i (p ∷ ps) = PartyMay i p × AllMay (suc i) ps

  all-advanced-may : (k i : ℕ) (ps : List (Party T S)) → AllMay i ps → AllMay i (all_advanced facts step tag net.sources k i ps)
  all-advanced-may k i [] a = tt
  all-advanced-may k i (p ∷ ps) a = (advanced-may k i p a.0, all-advanced-may k (suc i) ps a.1)

  advanced-length : (k i : ℕ) (ps : List (Party T S)) → length (all_advanced facts step tag net.sources k i ps) ≡ length ps
  advanced-length k i [] = refl
  advanced-length k i (p ∷ ps) = ap (λ n. suc n) (advanced-length k (suc i) ps)

  -- process j is at number m behind process i
  change-may : (i j m : ℕ) (f : Party T S → Party T S) (ps : List (Party T S)) → j ≡ i + m → AllMay i ps → ((p : Party T S) → PartyMay j p → PartyMay j (f p)) → AllMay i (change_at m f ps)
  change-may i j m f [] e a h = tt
  change-may i j zero f (p ∷ ps) e a h =
      let same : i ≡ j = omega (arith, e) in
      (subst (λ v. PartyMay v (f p)) (sym same) (h p (subst (λ v. PartyMay v p) same a.0)), a.1)
  change-may i j (suc m) f (p ∷ ps) e a h = (a.0, change-may (suc i) j m f ps (omega (arith, e)) a.1 h)

  due-may : (m : Mood) (us : List (Put T)) → ((u : Put T) → Has u us → Comes u.channel u.token) → (u : Put T) → Has u (due_puts m us) → Comes u.channel u.token
  due-may Well us g u h = g u h
  due-may (Broken fs) us g u h = absurd h

  puts-at-may : (i m : ℕ) (ps : List (Party T S)) → AllMay i ps → (u : Put T) → Has u (puts_at ps m) → Comes u.channel u.token
  puts-at-may i m [] a u h = absurd h
  puts-at-may i zero (p ∷ ps) a u h = due-may p.mood p.puts a.0.puts u h
  puts-at-may i (suc m) (p ∷ ps) a u h = puts-at-may (suc i) m ps a.1 u h

  all-puts-may : (i m : ℕ) (ps : List (Party T S)) → AllMay i ps → (u : Put T) → Has u (at (all_puts ps) m) → Comes u.channel u.token
  all-puts-may i m [] a u h = absurd h
  all-puts-may i zero (p ∷ ps) a u h = a.0.puts u h
  all-puts-may i (suc m) (p ∷ ps) a u h = all-puts-may (suc i) m ps a.1 u h

  all-got-may : (i j m : ℕ) (ps : List (Party T S)) → j ≡ i + m → AllMay i ps → (q : ℕ) (x : T) → Has x (at (got_by (all_got ps) m) q) → Comes (first_channel net.places j + q) x
  all-got-may i j m [] e a q x h = absurd h
  all-got-may i j zero (p ∷ ps) e a q x h = let same : i ≡ j = omega (arith, e) in subst (λ v. Comes (first_channel net.places v + q) x) same (a.0.got q x h)
  all-got-may i j (suc m) (p ∷ ps) e a q x h = all-got-may (suc i) j m ps (omega (arith, e)) a.1 q x h

  got-long : (i j m : ℕ) (ps : List (Party T S)) → j ≡ i + m → AllMay i ps → m < length ps → length (got_by (all_got ps) m) ≡ count_at net.places j
  got-long i j m [] e a l = absurd (omega (arith, l))
  got-long i j zero (p ∷ ps) e a l = let same : i ≡ j = omega (arith, e) in a.0.long ∙ ap (λ v. count_at net.places v) same
  got-long i j (suc m) (p ∷ ps) e a l = got-long (suc i) j m ps (omega (arith, e)) a.1 (omega (arith, l))

  states-may : (i j m : ℕ) (s : S) (ps : List (Party T S)) → j ≡ i + m → AllMay i ps → get (party_states ps) m ≡ Some s → MayStand facts step tag net kids Stands inputs j s
  states-may i j m s [] e a h = absurd (cc)
  states-may i j zero s (p ∷ ps) e a h =
      let same : i ≡ j = omega (arith, e) in
      let is : p.state ≡ s = cc in
      subst (λ v. MayStand facts step tag net kids Stands inputs v s) same (subst (λ z. MayStand facts step tag net kids Stands inputs i z) is a.0.state)
  states-may i j (suc m) s (p ∷ ps) e a h = states-may (suc i) j m s ps (omega (arith, e)) a.1 h

  logs-may : (i j m : ℕ) (path : Path) (ev : Event T) (ps : List (Party T S)) → j ≡ i + m → AllMay i ps → Has ev (log_below (party_logs ps) (m ∷ path)) → MayLog facts step tag net kids Stands inputs j path ev
  logs-may i j m path ev [] e a h = absurd h
  logs-may i j zero path ev (p ∷ ps) e a h = let same : i ≡ j = omega (arith, e) in subst (λ v. MayLog facts step tag net kids Stands inputs v path ev) same (a.0.log path ev h)
  logs-may i j (suc m) path ev (p ∷ ps) e a h = logs-may (suc i) j m path ev ps (omega (arith, e)) a.1 h

  states-length : (ps : List (Party T S)) → length (party_states ps) ≡ length ps
  states-length [] = refl
  states-length (p ∷ ps) = ap (λ n. suc n) (states-length ps)

  got-length : (ps : List (Party T S)) → length (all_got ps) ≡ length ps
  got-length [] = refl
  got-length (p ∷ ps) = ap (λ n. suc n) (got-length ps)

  puts-length : (ps : List (Party T S)) → length (all_puts ps) ≡ length ps
  puts-length [] = refl
  puts-length (p ∷ ps) = ap (λ n. suc n) (puts-length ps)

  -- ---- where the channels of a meeting end

  abbrev EndsAt : ℕ → Target → Type 0
  EndsAt c (Place i q) = c ≡ first_channel net.places i + q
  EndsAt c (Outlet o) = c ≡ total net.places + o

  abbrev HopsEnd : List Hop → Type 0
  HopsEnd [] = Unit {0}
  HopsEnd (h ∷ hs) = EndsAt h.channel h.target × HopsEnd hs

  target-ends : (i b : ℕ) (ns : List ℕ) (c : ℕ) → BeginAt facts step tag net kids Stands inputs i b ns → total net.places ≡ b + total ns → EndsAt (b + c) (target_from i ns c)
  target-ends i b [] c a e = omega (arith, e)
  target-ends i b (n ∷ ns) c a e = go (nat_lt c n) refl (target-ends (suc i) (b + n) ns (c - n) (begin-next facts step tag net kids Stands inputs i b n ns a) (omega (arith, e)))
    where
      go : (t : Bool) → nat_lt c n ≡ t → EndsAt ((b + n) + (c - n)) (target_from (suc i) ns (c - n)) → EndsAt (b + c) (if t then Place i c else target_from (suc i) ns (c - n))
      go true f rest = let z = first-is facts step tag net kids Stands inputs i b n ns a in omega (arith, z)
      go false f rest =
          let l : n ≤ c = grind (arith, nat_tests, f) in
          let z : (b + n) + (c - n) ≡ b + c = omega (arith, l) in
          subst (λ v. EndsAt v (target_from (suc i) ns (c - n))) z rest

  hops-end : (b c q n : ℕ) → c ≡ first_channel net.places b + q → HopsEnd (hops b c q n)
  hops-end b c q zero e = tt
  hops-end b c q (suc n) e = (e, hops-end b (suc c) (suc q) n (omega (arith, e)))

  child-hops-end : (b c : ℕ) (ns : List ℕ) (i : ℕ) → c + first_channel ns i ≡ first_channel net.places b → HopsEnd (hops_of_child b c ns i)
  child-hops-end b c [] i e = tt
  child-hops-end b c (n ∷ ns) zero e = hops-end b c 0 n (omega (arith, e))
  child-hops-end b c (n ∷ ns) (suc i) e = child-hops-end b (c + n) ns i (omega (arith, e))

  meeting-ends : (m : Meeting) → HopsEnd (hops_in net m)
  meeting-ends (Channel c) =
      let z : 0 + c ≡ c = omega arith in
      (subst (λ v. EndsAt v (target_from 0 net.places c)) z (target-ends 0 0 net.places c (begin-all facts step tag net kids Stands inputs) (omega arith)), tt)
  meeting-ends (Barrier b) = child-hops-end b 0 net.places b (omega arith)

  -- ---- a scene

  abbrev Ports : ℕ
  Ports = length (skip_places net.places net.sources)

  pub record SceneMay (sc : Scene T S) : Type 0 where
    pub parties : AllMay 0 sc.parties
    pub counted : length sc.parties ≡ length kids
    pub senders : (j : ℕ) (u : Put T) → Has u (at sc.inputs j) → MayCome facts step tag net kids Stands inputs u.channel u.token
    pub outputs : (o : ℕ) (x : T) → Has x (at sc.outputs o) → MayCome facts step tag net kids Stands inputs (total net.places + o) x
    pub outputs_counted : length sc.outputs ≡ length (skip_places net.places net.sources)
    pub met : (e : Event T) → Has e sc.met → IsMeeting e

  waiting-may : (sc : Scene T S) → SceneMay sc → (o : Option Source) (u : Put T) → Has u (waiting sc o) → Comes u.channel u.token
  waiting-may sc w None u h = absurd h
  waiting-may sc w (Some (Own j)) u h = w.senders j u h
  waiting-may sc w (Some (Output i p)) u h = puts-at-may 0 i sc.parties w.parties u h

  offer-may : (sc : Scene T S) → SceneMay sc → (c : ℕ) (x : T) → offer net sc c ≡ Some x → Comes c x
  offer-may sc w c x e =
      let v = on-channel c (waiting sc (get net.sources c)) x e in
      subst (λ d. Comes d x) v.2 (subst (λ y. Comes v.0.channel y) v.3 (waiting-may sc w (get net.sources c) v.0 v.1))

  -- what is offered on each of the channels may come there
  abbrev OffersMay : List Hop → List (Option T) → Type 0
  OffersMay [] xs = Unit {0}
  OffersMay (h ∷ hs) [] = Unit {0}
  OffersMay (h ∷ hs) (None ∷ xs) = Unit {0}
  OffersMay (h ∷ hs) (Some x ∷ xs) = MayCome facts step tag net kids Stands inputs h.channel x × OffersMay hs xs

  offers-may : (sc : Scene T S) → SceneMay sc → (hs : List Hop) → OffersMay hs (offers net sc hs)
  offers-may sc w [] = tt
  offers-may sc w (h ∷ hs) = go (offer net sc h.channel) refl (offers-may sc w hs)
    where
      go : (o : Option T) → offer net sc h.channel ≡ o → OffersMay hs (offers net sc hs) → OffersMay (h ∷ hs) (o ∷ offers net sc hs)
      go None e rest = tt
      go (Some x) e rest = (offer-may sc w h.channel x e, rest)

  sent-may : (s : Option Source) (sc : Scene T S) → SceneMay sc → SceneMay (sent s sc)
  sent-may None sc w = w
  sent-may (Some (Own j)) sc w = record {
    parties = w.parties;
    counted = w.counted;
    senders = λ r u h. w.senders r u (in-rests j r sc.inputs u h);
    outputs = w.outputs;
    outputs_counted = w.outputs_counted;
    met = w.met;
  }
  sent-may (Some (Output i p)) sc w = record {
    parties = change-may 0 i i with_put_made sc.parties (omega arith) w.parties (λ y v. record { state = v.state; long = v.long; got = v.got; puts = λ u h. v.puts u (in-rest u y.puts h); log = v.log });
    counted = change-length i with_put_made sc.parties ∙ w.counted;
    senders = w.senders;
    outputs = w.outputs;
    outputs_counted = w.outputs_counted;
    met = w.met;
  }

  token-may : (i q : ℕ) (x : T) → Comes (first_channel net.places i + q) x → (p : Party T S) → PartyMay i p → PartyMay i (with_token q x p)
  token-may i q x m p w = record {
    state = w.state;
    long = change-length q (λ xs. xs ++ (x ∷ [])) p.got ∙ w.long;
    got = λ r y h. elim (in-added q r x y p.got h) [ inl k ↦ w.got r y k | inr k ↦ subst (λ v. Comes (first_channel net.places i + v) y) (sym k.0) (subst (λ v. Comes (first_channel net.places i + q) v) (sym k.1) m) ];
    puts = w.puts;
    log = w.log;
  }

  received-may : (x : T) (c : ℕ) (t : Target) (sc : Scene T S) → EndsAt c t → Comes c x → SceneMay sc → SceneMay (received x t sc)
  received-may x c (Place i q) sc e m w = record {
    parties = change-may 0 i i (with_token q x) sc.parties (omega arith) w.parties (token-may i q x (subst (λ v. Comes v x) e m));
    counted = change-length i (with_token q x) sc.parties ∙ w.counted;
    senders = w.senders;
    outputs = w.outputs;
    outputs_counted = w.outputs_counted;
    met = w.met;
  }
  received-may x c (Outlet o) sc e m w = record {
    parties = w.parties;
    counted = w.counted;
    senders = w.senders;
    outputs = λ r y h. elim (in-added o r x y sc.outputs h) [ inl k ↦ w.outputs r y k | inr k ↦ subst (λ v. Comes (total net.places + v) y) (sym k.0) (subst (λ v. Comes (total net.places + o) v) (sym k.1) (subst (λ v. Comes v x) e m)) ];
    outputs_counted = change-length o (λ xs. xs ++ (x ∷ [])) sc.outputs ∙ w.outputs_counted;
    met = w.met;
  }

  passed-may : (hs : List Hop) (xs : List (Option T)) (sc : Scene T S) → HopsEnd hs → OffersMay hs xs → SceneMay sc → SceneMay (passed net hs xs sc)
  passed-may [] xs sc e m w = w
  passed-may (h ∷ hs) [] sc e m w = w
  passed-may (h ∷ hs) (None ∷ xs) sc e m w = w
  passed-may (h ∷ hs) (Some x ∷ xs) sc e m w =
      passed-may hs xs (received x h.target (sent (get net.sources h.channel) sc)) e.1 m.1 (received-may x h.channel h.target (sent (get net.sources h.channel) sc) e.0 m.0 (sent-may (get net.sources h.channel) sc w))

  meet-may : (n : ℕ) (m : Meeting) (sc : Scene T S) → SceneMay sc → SceneMay (meet net n m sc)
  meet-may n m sc w =
      let v = passed-may (hops_in net m) (offers net sc (hops_in net m)) sc (meeting-ends m) (offers-may sc w (hops_in net m)) w in
      let after = passed net (hops_in net m) (offers net sc (hops_in net m)) sc in
      record {
        parties = v.parties;
        counted = v.counted;
        senders = v.senders;
        outputs = v.outputs;
        outputs_counted = v.outputs_counted;
        met = λ e h. noted e (has-append e after.met (Met [] n m ∷ []) h) v.met;
      }
    where
      noted : (e : Event T) → Has e (passed net (hops_in net m) (offers net sc (hops_in net m)) sc).met ⊎ Has e (Met [] n m ∷ []) → ((e : Event T) → Has e (passed net (hops_in net m) (offers net sc (hops_in net m)) sc).met → IsMeeting e) → IsMeeting e
      noted e (inl k) g = g e k
      noted e (inr (inl k)) g = subst (λ v. IsMeeting v) (sym k) tt
      noted e (inr (inr k)) g = absurd k

  settled-may : (k n : ℕ) (sc : Scene T S) → SceneMay sc → SceneMay (settled facts step tag net k n sc)
  settled-may k n sc w = record {
    parties = all-advanced-may k 0 sc.parties w.parties;
    counted = advanced-length k 0 sc.parties ∙ w.counted;
    senders = w.senders;
    outputs = w.outputs;
    outputs_counted = w.outputs_counted;
    met = w.met;
  }

  -- ---- the firing

  -- beyond the children there are no places
  module _ (bare : (i : ℕ) → length kids ≤ i → count_at net.places i ≡ 0) where
    left-may : (sc : Scene T S) → SceneMay sc → (c : ℕ) (x : T) → InPlaces net (record { got = all_got sc.parties; puts = all_puts sc.parties; inputs = sc.inputs }) c x → Comes c x
    left-may sc w c x (gathered i q y h) = all-got-may 0 i i sc.parties (omega arith) w.parties q x h
    left-may sc w c x (due i u h) = all-puts-may 0 i sc.parties w.parties u h
    left-may sc w c x (kept j u h) = w.senders j u h

    places-may : (sc : Scene T S) → SceneMay sc → (i : ℕ) → length (got_by (all_got sc.parties) i) ≡ count_at net.places i
    places-may sc w i = go (nat_lt i (length sc.parties)) refl
      where
        go : (b : Bool) → nat_lt i (length sc.parties) ≡ b → length (got_by (all_got sc.parties) i) ≡ count_at net.places i
        go true e = let l : i < length sc.parties = grind (arith, nat_tests, e) in got-long 0 i i sc.parties (omega arith) w.parties l
        go false e =
            let l : length sc.parties ≤ i = grind (arith, nat_tests, e) in
            ap length (got-beyond (all_got sc.parties) i (omega (arith, l, got-length sc.parties))) ∙ sym (bare i (omega (arith, l, w.counted)))

    ended-moves : (b : Bool) (sc : Scene T S) → SceneMay sc → OnlyMoves facts step tag net kids Stands inputs (InPlaces net) (IsSeated net (length kids)) Ports (if_ended b sc)
    ended-moves true sc w = record {
      quiet = λ e h. w.met e h;
      logged = λ i p e h. logs-may 0 i i p e sc.parties (omega arith) w.parties h;
      done = record {
        kids_counted = states-length sc.parties ∙ w.counted;
        stand = λ i s h. states-may 0 i i s sc.parties (omega arith) w.parties h;
        kept = record { places = places-may sc w; got_counted = got-length sc.parties ∙ w.counted; puts_counted = puts-length sc.parties ∙ w.counted };
        left = λ c y h. left-may sc w c y h;
        outputs_counted = omega (arith, w.outputs_counted);
        gave = w.outputs;
      };
    }
    ended-moves false sc w = record { quiet = λ e h. w.met e h; logged = λ i p e h. logs-may 0 i i p e sc.parties (omega arith) w.parties h; done = tt }

    under-moves : (k n : ℕ) (ms : List Meeting) (sc : Scene T S) → SceneMay sc → OnlyMoves facts step tag net kids Stands inputs (InPlaces net) (IsSeated net (length kids)) Ports (under_meetings facts step tag net k n ms sc)
    unfolding under_meetings
    under-moves k n [] sc w = let v = settled facts step tag net k n sc in ended-moves (all_rest facts v.parties && not (any_legal facts net v)) v (settled-may k n sc w)
    under-moves k n (m ∷ ms) sc w =
        meets (is_legal facts net (settled facts step tag net k n sc) m) (under-moves k n ms (meet net n m (settled facts step tag net k n sc)) (meet-may n m (settled facts step tag net k n sc) (settled-may k n sc w))) (ended-moves false (settled facts step tag net k n sc) (settled-may k n sc w))
      where
        meets : (b : Bool) → OnlyMoves facts step tag net kids Stands inputs (InPlaces net) (IsSeated net (length kids)) Ports (under_meetings facts step tag net k n ms (meet net n m (settled facts step tag net k n sc))) →
            OnlyMoves facts step tag net kids Stands inputs (InPlaces net) (IsSeated net (length kids)) Ports (if_ended false (settled facts step tag net k n sc)) →
            OnlyMoves facts step tag net kids Stands inputs (InPlaces net) (IsSeated net (length kids)) Ports (if_meets facts step tag net k n b (under_meetings facts step tag net k n ms) m (settled facts step tag net k n sc))
        meets true a b = a
        meets false a b = b

-- ---- as a firing begins

module _ {T S : Type 0} (facts : Facts T S) (step : Stepping T S) (tag : Tag) (p : RvPlan) (X : Places T) (kids : List S) (inputs : Streams T) (barriers : length p.barriers ≡ length kids) (seats : IsSeated p.net (length kids) X) where
  abbrev Arrives : ℕ → T → Type 0
  Arrives c x = MayCome facts step tag p.net kids (InPlaces p.net X) inputs c x

  seated-may : (i : ℕ) (bs : List Bool) (gs : List (Streams T)) (us : List (List (Put T))) (ss : List S) → length bs ≡ length ss → length gs ≡ length ss → length us ≡ length ss → AreStanding facts step tag p.net kids (InPlaces p.net X) inputs i ss →
      ((j : ℕ) → length (got_by gs j) ≡ count_at p.net.places (i + j)) → ((j q : ℕ) (x : T) → Has x (at (got_by gs j) q) → Arrives (first_channel p.net.places (i + j) + q) x) → ((j : ℕ) (u : Put T) → Has u (at us j) → Arrives u.channel u.token) →
      AllMay facts step tag p.net kids (InPlaces p.net X) inputs i (seated bs gs us ss)
  seated-may i [] gs us ss b g u st l m q = tt
  seated-may i (x ∷ bs) [] us ss b g u st l m q = tt
  seated-may i (x ∷ bs) (y ∷ gs) [] ss b g u st l m q = tt
  seated-may i (x ∷ bs) (y ∷ gs) (z ∷ us) [] b g u st l m q = tt
  seated-may i (x ∷ bs) (y ∷ gs) (z ∷ us) (s ∷ ss) b g u st l m q =
      let e : i + 0 ≡ i = omega arith in (
        record {
          state = subst (λ v. MayStand facts step tag p.net kids (InPlaces p.net X) inputs v s) e (st 0 s refl);
          long = l 0 ∙ ap (λ v. count_at p.net.places v) e;
          got = λ r t h. subst (λ v. Arrives (first_channel p.net.places v + r) t) e (m 0 r t h);
          puts = λ t h. q 0 t h;
          log = λ path t h. absurd h;
        },
        seated-may (suc i) bs gs us ss (omega (arith, b)) (omega (arith, g)) (omega (arith, u))
            (λ j t h. let f : i + suc j ≡ suc i + j = omega arith in subst (λ v. MayStand facts step tag p.net kids (InPlaces p.net X) inputs v t) f (st (suc j) t h))
            (λ j. let f : i + suc j ≡ suc i + j = omega arith in l (suc j) ∙ ap (λ v. count_at p.net.places v) f)
            (λ j r t h. let f : i + suc j ≡ suc i + j = omega arith in subst (λ v. Arrives (first_channel p.net.places v + r) t) f (m (suc j) r t h))
            (λ j t h. q (suc j) t h),
      )

  seated-length : (bs : List Bool) (gs : List (Streams T)) (us : List (List (Put T))) (ss : List S) → length bs ≡ length ss → length gs ≡ length ss → length us ≡ length ss → length (seated bs gs us ss) ≡ length ss
  seated-length [] gs us [] b g u = refl
  seated-length [] gs us (s ∷ ss) b g u = absurd (omega (arith, b))
  seated-length (x ∷ bs) [] us [] b g u = refl
  seated-length (x ∷ bs) [] us (s ∷ ss) b g u = absurd (omega (arith, g))
  seated-length (x ∷ bs) (y ∷ gs) [] [] b g u = refl
  seated-length (x ∷ bs) (y ∷ gs) [] (s ∷ ss) b g u = absurd (omega (arith, u))
  seated-length (x ∷ bs) (y ∷ gs) (z ∷ us) [] b g u = refl
  seated-length (x ∷ bs) (y ∷ gs) (z ∷ us) (s ∷ ss) b g u = ap (λ n. suc n) (seated-length bs gs us ss (omega (arith, b)) (omega (arith, g)) (omega (arith, u)))

  arriving-may : (j : ℕ) (ks : List (List (Put T))) → ((r : ℕ) (u : Put T) → Has u (at ks r) → Arrives u.channel u.token) → (r : ℕ) (u : Put T) → Has u (at (arriving p.net.sources j ks inputs) r) → Arrives u.channel u.token
  arriving-may j [] g r u h = absurd h
  arriving-may j (us ∷ ks) g zero u h = go (has-append u us (puts_of_port (channels_from 0 (Own j) p.net.sources) (at inputs j)) h)
    where
      go : Has u us ⊎ Has u (puts_of_port (channels_from 0 (Own j) p.net.sources) (at inputs j)) → Arrives u.channel u.token
      go (inl k) = g 0 u k
      go (inr k) = let w = from-source p.net.sources (Own j) u (at inputs j) k in given u.channel (Own j) u.token w.0 (arrives j u.token w.1)
  arriving-may j (us ∷ ks) g (suc r) u h = arriving-may (suc j) ks (λ q v k. g (suc q) v k) r u h

  pub rv-moves : (k n : ℕ) (ms : List Meeting) → OnlyMoves facts step tag p.net kids (InPlaces p.net X) inputs (InPlaces p.net) (IsSeated p.net (length kids)) (length (skip_places p.net.places p.net.sources)) (rv facts step p k n ms tag X kids inputs)
  rv-moves k n ms =
      under-moves facts step tag p.net kids (InPlaces p.net X) inputs (λ i l. sym (seats.places i) ∙ ap length (got-beyond X.got i (omega (arith, l, seats.got_counted)))) k n ms (opening p X kids inputs)
      record {
        parties = seated-may 0 p.barriers X.got X.puts kids barriers seats.got_counted seats.puts_counted (all-stand facts step tag p.net kids (InPlaces p.net X) inputs)
            (λ j. let e : j ≡ 0 + j = omega arith in seats.places j ∙ ap (λ v. count_at p.net.places v) e)
            (λ j q x h. let e : j ≡ 0 + j = omega arith in subst (λ v. Arrives (first_channel p.net.places v + q) x) e (stood (first_channel p.net.places j + q) x (gathered j q x h)))
            (λ j u h. stood u.channel u.token (due j u h));
        counted = seated-length p.barriers X.got X.puts kids barriers seats.got_counted seats.puts_counted;
        senders = arriving-may 0 X.inputs (λ r u h. stood u.channel u.token (kept r u h));
        outputs = λ o x h. absurd (no-outlets p.net.places p.net.sources o x h);
        outputs_counted = outlets-length T p.net.places p.net.sources;
        met = λ e h. absurd h;
      }
