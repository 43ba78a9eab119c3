-- A Rendezvous firing keeps the fuel law: what is at rest stays as it is, and only what is at rest takes part in a meeting.
use Rattle.std.proofs.Common.{◌≡◌, ℕ, zero, suc, ◌≤◌, ◌+◌, List, [], ◌∷◌, ◌++◌, Bool, true, false, ◌&&◌, not, Option, Some, None, refl, sym, ap, ap₂, subst, arith, ◌∙◌}
use Rattle.pt_meaning.specs.Basics.{Tag, Streams, at, IsPrefix, Met, Meeting, Channel, Barrier}
use Rattle.pt_meaning.specs.Machine.{Stepping, Facts}
use Rattle.pt_meaning.specs.Rounds.{Source, Own, Output, Net}
use Rattle.pt_meaning.specs.Modal.{get, change_at}
use Rattle.pt_meaning.specs.Process.{Put, Mood, Well, Broken, Party, Next, Puts, Fires, Gets, GetsAny, Joins, Idle, Sticks, next_event, advanced, all_advanced, due_puts, next_at, gets_at, is_joining, at_rest, rest_of, with_put_made, with_token, all_rest, party_faults}
use Rattle.pt_meaning.specs.Rendezvous.{settled, ended, if_meets, under_meetings, RvPlan, Places, scene_log, if_ended, rv}
use Rattle.pt_meaning.specs.Meetings.{Scene, puts_at, waiting, first_on, offer, offers, all_there, Target, Place, Outlet, target_from, receives, Hop, hops, hops_of_child, hops_in, is_received, is_legal, any_legal, sent, received, passed, meet}
use Rattle.pt_meaning.specs.Laws.{Extends, Grows}
use Rattle.pt_laws.proofs.Order.{IsPrefix-refl}
use Rattle.pt_laws.proofs.RoundLaws.{extends-refl}
use Rattle.pt_laws.proofs.KahnLaws.{and-left, and-right}
use Rattle.pt_laws.proofs.PartyLaws.{PartyBelow, advanced-below, advanced-more, advanced-rest}
use Rattle.pt_laws.proofs.SceneLaws.{PartiesBelow, SceneBelow, all-rest-clear, below-extends, ended-above, meets-above, parties-faults, scene-logs, under-above}

-- the same processes with more firings and a grown step, since each last took part in a meeting
module _ {T S : Type 0} (facts : Facts T S) (step more : Stepping T S) (tag : Tag) (grows : Grows step more) (sources : List Source) where
  pub record Ahead (i : ℕ) (p q : Party T S) : Type 0 where
    pub origin : Party T S
    pub few : ℕ
    pub many : ℕ
    pub order : few ≤ many
    pub here : p ≡ advanced facts step tag sources few i origin
    pub there : q ≡ advanced facts more tag sources many i origin

  abbrev pub AllAhead : ℕ → List (Party T S) → List (Party T S) → Type 0
  AllAhead i [] [] = Unit {0}
  AllAhead i (p ∷ ps) (q ∷ qs) = Ahead i p q × AllAhead (suc i) ps qs
  AllAhead i [] (q ∷ qs) = ⊥
  AllAhead i (p ∷ ps) [] = ⊥

  ahead-below : (i : ℕ) (p q : Party T S) → Ahead i p q → PartyBelow p q
  ahead-below i p q a =
      subst (λ v. PartyBelow v q) (sym a.here) (subst (λ v. PartyBelow (advanced facts step tag sources a.few i a.origin) v) (sym a.there) (advanced-below facts step more tag grows sources i a.few a.many a.order a.origin))

  pub all-below : (i : ℕ) (ps qs : List (Party T S)) → AllAhead i ps qs → PartiesBelow ps qs
  all-below i [] [] h = tt
  all-below i (p ∷ ps) (q ∷ qs) h = (ahead-below i p q h.0, all-below (suc i) ps qs h.1)
  all-below i [] (q ∷ qs) h = absurd h
  all-below i (p ∷ ps) [] h = absurd h

  -- what is at rest is the same in both
  ahead-rest : (i : ℕ) (p q : Party T S) → Ahead i p q → at_rest (next_event facts p) ≡ true → q ≡ p
  ahead-rest i p q a r = a.there ∙ advanced-rest facts step more tag grows sources i a.few a.many a.order a.origin (subst (λ v. at_rest (next_event facts v) ≡ true) a.here r) ∙ sym a.here

  pub rest-same : (i : ℕ) (ps qs : List (Party T S)) → AllAhead i ps qs → (j : ℕ) → at_rest (next_at facts ps j) ≡ true → get qs j ≡ get ps j
  rest-same i [] [] h j r = refl
  rest-same i (p ∷ ps) (q ∷ qs) h zero r = ap (λ v. Some v) (ahead-rest i p q h.0 r)
  rest-same i (p ∷ ps) (q ∷ qs) h (suc j) r = rest-same (suc i) ps qs h.1 j r
  rest-same i [] (q ∷ qs) h j r = absurd h
  rest-same i (p ∷ ps) [] h j r = absurd h

  pub all-rest-same : (i : ℕ) (ps qs : List (Party T S)) → AllAhead i ps qs → all_rest facts ps ≡ true → qs ≡ ps
  all-rest-same i [] [] h r = refl
  all-rest-same i (p ∷ ps) (q ∷ qs) h r = ap₂ (λ a b. a ∷ b) (ahead-rest i p q h.0 (and-left _ _ r)) (all-rest-same (suc i) ps qs h.1 (and-right _ _ r))
  all-rest-same i [] (q ∷ qs) h r = absurd h
  all-rest-same i (p ∷ ps) [] h r = absurd h

  -- a change of a process that is the same in both
  pub ahead-change : (f : Party T S → Party T S) (i j : ℕ) (ps qs : List (Party T S)) → AllAhead i ps qs → get qs j ≡ get ps j → AllAhead i (change_at j f ps) (change_at j f qs)
  unfolding advanced
  ahead-change f i j [] [] h e = tt
  ahead-change f i zero (p ∷ ps) (q ∷ qs) h e = (record { origin = f p; few = 0; many = 0; order = omega arith; here = refl; there = ap f (some-same q p e) }, h.1)
    where
      some-same : {A : Type 0} (x y : A) → Some x ≡ Some y → x ≡ y
      some-same x y e = cc
  ahead-change f i (suc j) (p ∷ ps) (q ∷ qs) h e = (h.0, ahead-change f (suc i) j ps qs h.1 e)
  ahead-change f i j [] (q ∷ qs) h e = absurd h
  ahead-change f i j (p ∷ ps) [] h e = absurd h

  all-start : (k k' : ℕ) → k ≤ k' → (i : ℕ) (ps : List (Party T S)) → AllAhead i (all_advanced facts step tag sources k i ps) (all_advanced facts more tag sources k' i ps)
  all-start k k' h i [] = tt
  all-start k k' h i (p ∷ ps) = (record { origin = p; few = k; many = k'; order = h; here = refl; there = refl }, all-start k k' h (suc i) ps)

  all-later : (k k' : ℕ) → k ≤ k' → (i : ℕ) (ps qs : List (Party T S)) → AllAhead i ps qs → AllAhead i (all_advanced facts step tag sources k i ps) (all_advanced facts more tag sources k' i qs)
  all-later k k' h i [] [] a = tt
  all-later k k' h i (p ∷ ps) (q ∷ qs) a = (
    record {
      origin = a.0.origin;
      few = a.0.few + k;
      many = a.0.many + k';
      order = let o = a.0.order in omega (arith, o, h);
      here = ap (λ v. advanced facts step tag sources k i v) a.0.here ∙ advanced-more facts step tag sources i a.0.few k a.0.origin;
      there = ap (λ v. advanced facts more tag sources k' i v) a.0.there ∙ advanced-more facts more tag sources i a.0.many k' a.0.origin;
    },
    all-later k k' h (suc i) ps qs a.1,
  )
  all-later k k' h i [] (q ∷ qs) a = absurd a
  all-later k k' h i (p ∷ ps) [] a = absurd a

-- what a meeting looks at, and changes, is the same in both
abbrev pub SenderSame : {T S : Type 0} → List (Party T S) → List (Party T S) → Option Source → Type 0
SenderSame ps qs None = Unit {0}
SenderSame ps qs (Some (Own j)) = Unit {0}
SenderSame ps qs (Some (Output i p)) = get qs i ≡ get ps i

abbrev pub ReceiverSame : {T S : Type 0} → List (Party T S) → List (Party T S) → Target → Type 0
ReceiverSame ps qs (Place i q) = get qs i ≡ get ps i
ReceiverSame ps qs (Outlet o) = Unit {0}

abbrev pub HopsSame : {T S : Type 0} → Net → List (Party T S) → List (Party T S) → List Hop → Type 0
HopsSame net ps qs [] = Unit {0}
HopsSame net ps qs (h ∷ hs) = SenderSame ps qs (get net.sources h.channel) × ReceiverSame ps qs h.target × HopsSame net ps qs hs

abbrev pub ReceiversSame : {T S : Type 0} → List (Party T S) → List (Party T S) → List Hop → Type 0
ReceiversSame ps qs [] = Unit {0}
ReceiversSame ps qs (h ∷ hs) = ReceiverSame ps qs h.target × ReceiversSame ps qs hs

same-change : {A : Type 0} (f : A → A) (j i : ℕ) (ps qs : List A) → get qs j ≡ get ps j → get qs i ≡ get ps i → get (change_at j f qs) i ≡ get (change_at j f ps) i
same-change f j i [] [] e h = refl
same-change f zero zero (p ∷ ps) (q ∷ qs) e h = ap (λ v. Some (f v)) (some-same q p e)
  where
    some-same : {A : Type 0} (x y : A) → Some x ≡ Some y → x ≡ y
    some-same x y e = cc
same-change f zero (suc i) (p ∷ ps) (q ∷ qs) e h = h
same-change f (suc j) zero (p ∷ ps) (q ∷ qs) e h = h
same-change f (suc j) (suc i) (p ∷ ps) (q ∷ qs) e h = same-change f j i ps qs e h
same-change f zero i [] (q ∷ qs) e h = absurd (cc)
same-change f (suc j) zero [] (q ∷ qs) e h = absurd (cc)
same-change f (suc j) (suc i) [] (q ∷ qs) e h = same-change f j i [] qs e h
same-change f zero i (p ∷ ps) [] e h = absurd (cc)
same-change f (suc j) zero (p ∷ ps) [] e h = absurd (cc)
same-change f (suc j) (suc i) (p ∷ ps) [] e h = same-change f j i ps [] e h

sender-change : {T S : Type 0} (f : Party T S → Party T S) (j : ℕ) (ps qs : List (Party T S)) (o : Option Source) → get qs j ≡ get ps j → SenderSame ps qs o → SenderSame (change_at j f ps) (change_at j f qs) o
sender-change f j ps qs None e h = tt
sender-change f j ps qs (Some (Own i)) e h = tt
sender-change f j ps qs (Some (Output i p)) e h = same-change f j i ps qs e h

pub receiver-change : {T S : Type 0} (f : Party T S → Party T S) (j : ℕ) (ps qs : List (Party T S)) (t : Target) → get qs j ≡ get ps j → ReceiverSame ps qs t → ReceiverSame (change_at j f ps) (change_at j f qs) t
receiver-change f j ps qs (Place i q) e h = same-change f j i ps qs e h
receiver-change f j ps qs (Outlet o) e h = tt

pub hops-change : {T S : Type 0} (net : Net) (f : Party T S → Party T S) (j : ℕ) (ps qs : List (Party T S)) (hs : List Hop) → get qs j ≡ get ps j → HopsSame net ps qs hs → HopsSame net (change_at j f ps) (change_at j f qs) hs
hops-change net f j ps qs [] e h = tt
hops-change net f j ps qs (x ∷ hs) e h = (sender-change f j ps qs (get net.sources x.channel) e h.0, receiver-change f j ps qs x.target e h.1, hops-change net f j ps qs hs e h.2)

first-due : {T : Type 0} (c : ℕ) (us : List (Put T)) (x : T) → first_on c us ≡ Some x → us ≡ [] → ⊥
first-due c [] x e h = cc
first-due c (u ∷ us) x e h = cc

due-rest : {T S : Type 0} (facts : Facts T S) (p : Party T S) (c : ℕ) (x : T) → first_on c (due_puts p.mood p.puts) ≡ Some x → at_rest (next_event facts p) ≡ true
due-rest {T} {S} facts p c x e = go p.mood p.puts refl refl
  where
    go : (m : Mood) (us : List (Put T)) → p.mood ≡ m → p.puts ≡ us → at_rest (next_event facts p) ≡ true
    go Well (u ∷ us) a b = rw (a, b) refl
    go Well [] a b = absurd (first-due c (due_puts p.mood p.puts) x e (rw (a, b) refl))
    go (Broken fs) us a b = absurd (first-due c (due_puts p.mood p.puts) x e (rw a refl))

offer-rest : {T S : Type 0} (facts : Facts T S) (ps : List (Party T S)) (i c : ℕ) (x : T) → first_on c (puts_at ps i) ≡ Some x → at_rest (next_at facts ps i) ≡ true
offer-rest facts [] i c x e = refl
offer-rest facts (p ∷ ps) zero c x e = due-rest facts p c x e
offer-rest facts (p ∷ ps) (suc i) c x e = offer-rest facts ps i c x e

pub puts-same : {T S : Type 0} (ps qs : List (Party T S)) (i : ℕ) → get qs i ≡ get ps i → puts_at qs i ≡ puts_at ps i
puts-same [] [] i e = refl
puts-same (p ∷ ps) (q ∷ qs) zero e = ap (λ v. due_puts v.mood v.puts) (some-same q p e)
  where
    some-same : {A : Type 0} (x y : A) → Some x ≡ Some y → x ≡ y
    some-same x y e = cc
puts-same (p ∷ ps) (q ∷ qs) (suc i) e = puts-same ps qs i e
puts-same [] (q ∷ qs) zero e = absurd (cc)
puts-same [] (q ∷ qs) (suc i) e = puts-same [] qs i e
puts-same (p ∷ ps) [] zero e = absurd (cc)
puts-same (p ∷ ps) [] (suc i) e = puts-same ps [] i e

pub next-same : {T S : Type 0} (facts : Facts T S) (ps qs : List (Party T S)) (i : ℕ) → get qs i ≡ get ps i → next_at facts qs i ≡ next_at facts ps i
next-same facts [] [] i e = refl
next-same facts (p ∷ ps) (q ∷ qs) zero e = ap (λ v. next_event facts v) (some-same q p e)
  where
    some-same : {A : Type 0} (x y : A) → Some x ≡ Some y → x ≡ y
    some-same x y e = cc
next-same facts (p ∷ ps) (q ∷ qs) (suc i) e = next-same facts ps qs i e
next-same facts [] (q ∷ qs) zero e = absurd (cc)
next-same facts [] (q ∷ qs) (suc i) e = next-same facts [] qs i e
next-same facts (p ∷ ps) [] zero e = absurd (cc)
next-same facts (p ∷ ps) [] (suc i) e = next-same facts ps [] i e

gets-rest : (q : ℕ) (n : Next) → gets_at q n ≡ true → at_rest n ≡ true
gets-rest q Puts e = refl
gets-rest q Fires e = absurd (cc)
gets-rest q (Gets r) e = refl
gets-rest q GetsAny e = refl
gets-rest q Joins e = refl
gets-rest q Idle e = refl
gets-rest q Sticks e = absurd (cc)

joins-rest : (n : Next) → is_joining n ≡ true → at_rest n ≡ true
joins-rest Puts e = refl
joins-rest Fires e = absurd (cc)
joins-rest (Gets r) e = refl
joins-rest GetsAny e = refl
joins-rest Joins e = refl
joins-rest Idle e = refl
joins-rest Sticks e = absurd (cc)

barrier-hops : {T S : Type 0} (ps qs : List (Party T S)) (b c q n : ℕ) → get qs b ≡ get ps b → ReceiversSame ps qs (hops b c q n)
barrier-hops ps qs b c q zero e = tt
barrier-hops ps qs b c q (suc n) e = (e, barrier-hops ps qs b (suc c) (suc q) n e)

barrier-child : {T S : Type 0} (ps qs : List (Party T S)) (b c : ℕ) (ns : List ℕ) (i : ℕ) → get qs b ≡ get ps b → ReceiversSame ps qs (hops_of_child b c ns i)
barrier-child ps qs b c [] i e = tt
barrier-child ps qs b c (n ∷ ns) zero e = barrier-hops ps qs b c 0 n e
barrier-child ps qs b c (n ∷ ns) (suc i) e = barrier-child ps qs b (c + n) ns i e

module _ {T S : Type 0} (facts : Facts T S) (step more : Stepping T S) (tag : Tag) (grows : Grows step more) (net : Net) (k k' n : ℕ) (more-fuel : k ≤ k') where
  pub record SceneAhead (a b : Scene T S) : Type 0 where
    pub parties : AllAhead facts step more tag grows net.sources 0 a.parties b.parties
    pub inputs : b.inputs ≡ a.inputs
    pub outputs : b.outputs ≡ a.outputs
    pub met : b.met ≡ a.met

  scene-below : (a b : Scene T S) → SceneAhead a b → SceneBelow a b
  scene-below a b h = record { parties = all-below facts step more tag grows net.sources 0 a.parties b.parties h.parties; met = subst (λ v. IsPrefix a.met v) (sym h.met) (IsPrefix-refl a.met) }

  -- the sender of an offered token is at rest, and offers it in both
  pub sender-same : (a b : Scene T S) → SceneAhead a b → (o : Option Source) (c : ℕ) (x : T) → first_on c (waiting a o) ≡ Some x → SenderSame a.parties b.parties o × (first_on c (waiting b o) ≡ first_on c (waiting a o))
  sender-same a b h None c x e = (tt, refl)
  sender-same a b h (Some (Own j)) c x e = (tt, ap (λ v. first_on c (at v j)) h.inputs)
  sender-same a b h (Some (Output i p)) c x e =
      let s : get b.parties i ≡ get a.parties i = rest-same facts step more tag grows net.sources 0 a.parties b.parties h.parties i (offer-rest facts a.parties i c x e) in
      (s, ap (λ v. first_on c v) (puts-same a.parties b.parties i s))

  there : (o : Option T) (xs : List (Option T)) → all_there (o ∷ xs) ≡ true → (x : T) × (o ≡ Some x) × (all_there xs ≡ true)
  there None xs e = absurd (cc)
  there (Some x) xs e = (x, refl, e)

  pub hops-same : (a b : Scene T S) → SceneAhead a b → (hs : List Hop) → all_there (offers net a hs) ≡ true → ReceiversSame a.parties b.parties hs → HopsSame net a.parties b.parties hs × (offers net b hs ≡ offers net a hs)
  hops-same a b h [] e r = (tt, refl)
  hops-same a b h (x ∷ hs) e r =
      let t = there (offer net a x.channel) (offers net a hs) e in
      let s = sender-same a b h (get net.sources x.channel) x.channel t.0 t.1 in
      let u = hops-same a b h hs t.2 r.1 in
      ((s.0, r.0, u.0), ap₂ (λ y ys. y ∷ ys) s.1 u.1)

  pub receivers-same : (a b : Scene T S) → SceneAhead a b → (m : Meeting) → is_received facts net a.parties m ≡ true → ReceiversSame a.parties b.parties (hops_in net m) × (is_received facts net b.parties m ≡ is_received facts net a.parties m)
  receivers-same a b h (Channel c) e = let r = go (target_from 0 net.places c) e in ((r.0, tt), r.1)
    where
      go : (t : Target) → receives facts a.parties t ≡ true → ReceiverSame a.parties b.parties t × (receives facts b.parties t ≡ receives facts a.parties t)
      go (Place i q) e =
          let s : get b.parties i ≡ get a.parties i = rest-same facts step more tag grows net.sources 0 a.parties b.parties h.parties i (gets-rest q (next_at facts a.parties i) e) in
          (s, ap (λ v. gets_at q v) (next-same facts a.parties b.parties i s))
      go (Outlet o) e = (tt, refl)
  receivers-same a b h (Barrier x) e =
      let s : get b.parties x ≡ get a.parties x = rest-same facts step more tag grows net.sources 0 a.parties b.parties h.parties x (joins-rest (next_at facts a.parties x) e) in
      (barrier-child a.parties b.parties x 0 net.places x s, ap is_joining (next-same facts a.parties b.parties x s))

  sent-ahead : (a b : Scene T S) → SceneAhead a b → (o : Option Source) → SenderSame a.parties b.parties o → SceneAhead (sent o a) (sent o b)
  sent-ahead a b h None s = h
  sent-ahead a b h (Some (Own j)) s = record { parties = h.parties; inputs = ap (λ v. change_at j rest_of v) h.inputs; outputs = h.outputs; met = h.met }
  sent-ahead a b h (Some (Output i p)) s = record { parties = ahead-change facts step more tag grows net.sources with_put_made 0 i a.parties b.parties h.parties s; inputs = h.inputs; outputs = h.outputs; met = h.met }

  sent-hops : (a b : Scene T S) (o : Option Source) (hs : List Hop) → SenderSame a.parties b.parties o → HopsSame net a.parties b.parties hs → HopsSame net (sent o a).parties (sent o b).parties hs
  sent-hops a b None hs s h = h
  sent-hops a b (Some (Own j)) hs s h = h
  sent-hops a b (Some (Output i p)) hs s h = hops-change net with_put_made i a.parties b.parties hs s h

  sent-receiver : (a b : Scene T S) (o : Option Source) (t : Target) → SenderSame a.parties b.parties o → ReceiverSame a.parties b.parties t → ReceiverSame (sent o a).parties (sent o b).parties t
  sent-receiver a b None t s h = h
  sent-receiver a b (Some (Own j)) t s h = h
  sent-receiver a b (Some (Output i p)) t s h = receiver-change with_put_made i a.parties b.parties t s h

  received-ahead : (a b : Scene T S) → SceneAhead a b → (x : T) (t : Target) → ReceiverSame a.parties b.parties t → SceneAhead (received x t a) (received x t b)
  received-ahead a b h x (Place i q) s = record { parties = ahead-change facts step more tag grows net.sources (with_token q x) 0 i a.parties b.parties h.parties s; inputs = h.inputs; outputs = h.outputs; met = h.met }
  received-ahead a b h x (Outlet o) s = record { parties = h.parties; inputs = h.inputs; outputs = ap (λ v. change_at o (λ xs. xs ++ (x ∷ [])) v) h.outputs; met = h.met }

  received-hops : (a b : Scene T S) (x : T) (t : Target) (hs : List Hop) → ReceiverSame a.parties b.parties t → HopsSame net a.parties b.parties hs → HopsSame net (received x t a).parties (received x t b).parties hs
  received-hops a b x (Place i q) hs s h = hops-change net (with_token q x) i a.parties b.parties hs s h
  received-hops a b x (Outlet o) hs s h = h

  passed-ahead : (hs : List Hop) (xs : List (Option T)) (a b : Scene T S) → SceneAhead a b → HopsSame net a.parties b.parties hs → SceneAhead (passed net hs xs a) (passed net hs xs b)
  passed-ahead [] xs a b h s = h
  passed-ahead (y ∷ hs) [] a b h s = h
  passed-ahead (y ∷ hs) (None ∷ xs) a b h s = h
  passed-ahead (y ∷ hs) (Some x ∷ xs) a b h s =
      let o : Option Source = get net.sources y.channel in
      let r : ReceiverSame (sent o a).parties (sent o b).parties y.target = sent-receiver a b o y.target s.0 s.1 in
      passed-ahead hs xs (received x y.target (sent o a)) (received x y.target (sent o b)) (received-ahead (sent o a) (sent o b) (sent-ahead a b h o s.0) x y.target r)
      (received-hops (sent o a) (sent o b) x y.target hs r (sent-hops a b o hs s.0 s.2))

  -- a meeting that is legal is legal in both, and makes the same of both
  pub legal-stays : (a b : Scene T S) → SceneAhead a b → (m : Meeting) → is_legal facts net a m ≡ true → is_legal facts net b m ≡ true
  legal-stays a b h m e =
      let r = receivers-same a b h m (and-right _ _ e) in
      let s = hops-same a b h (hops_in net m) (and-left _ _ e) r.0 in
      both _ _ (ap all_there s.1 ∙ and-left _ _ e) (r.1 ∙ and-right _ _ e)
    where
      both : (x y : Bool) → x ≡ true → y ≡ true → (x && y) ≡ true
      both x y p q = rw (p, q) refl

  meet-ahead : (a b : Scene T S) → SceneAhead a b → (m : Meeting) → is_legal facts net a m ≡ true → SceneAhead (meet net n m a) (meet net n m b)
  meet-ahead a b h m e =
      let r = receivers-same a b h m (and-right _ _ e) in
      let s = hops-same a b h (hops_in net m) (and-left _ _ e) r.0 in
      let q : SceneAhead (passed net (hops_in net m) (offers net a (hops_in net m)) a) (passed net (hops_in net m) (offers net b (hops_in net m)) b) =
      subst (λ xs. SceneAhead (passed net (hops_in net m) (offers net a (hops_in net m)) a) (passed net (hops_in net m) xs b)) (sym s.1) (passed-ahead (hops_in net m) (offers net a (hops_in net m)) a b h s.0)
      in
      record { parties = q.parties; inputs = q.inputs; outputs = q.outputs; met = ap (λ v. v ++ (Met [] n m ∷ [])) q.met }

  later : (a b : Scene T S) → SceneAhead a b → SceneAhead (settled facts step tag net k n a) (settled facts more tag net k' n b)
  later a b h = record { parties = all-later facts step more tag grows net.sources k k' more-fuel 0 a.parties b.parties h.parties; inputs = h.inputs; outputs = h.outputs; met = h.met }

  scene-same : (a b : Scene T S) → b.parties ≡ a.parties → b.inputs ≡ a.inputs → b.outputs ≡ a.outputs → b.met ≡ a.met → b ≡ a
  scene-same a b p i o m =
      ap (λ v. let s : Scene T S = record { parties = v; inputs = b.inputs; outputs = b.outputs; met = b.met } in s) p ∙
      ap (λ v. let s : Scene T S = record { parties = a.parties; inputs = v; outputs = b.outputs; met = b.met } in s) i ∙
      ap (λ v. let s : Scene T S = record { parties = a.parties; inputs = a.inputs; outputs = v; met = b.met } in s) o ∙
      ap (λ v. let s : Scene T S = record { parties = a.parties; inputs = a.inputs; outputs = a.outputs; met = v } in s) m

  ended-extends : (x : Bool) (a b : Scene T S) → SceneAhead a b → (all_rest facts a.parties && not (any_legal facts net a)) ≡ x → Extends (if_ended x a) (ended facts more tag net k' n b)
  ended-extends true a b h e =
      let s : b ≡ a = scene-same a b (all-rest-same facts step more tag grows net.sources 0 a.parties b.parties h.parties (and-left _ _ e)) h.inputs h.outputs h.met in
      subst (λ v. Extends (if_ended true a) (ended facts more tag net k' n v)) (sym s) (subst (λ x. Extends (if_ended true a) (if_ended x a)) (sym e) (extends-refl (if_ended true a)))
  ended-extends false a b h e =
      below-extends _ (party_faults 0 b.parties) _ (scene_log b) _ (parties-faults 0 a.parties b.parties (scene-below a b h).parties) (scene-logs a b (scene-below a b h))
      (ended-above _ b (λ r. all-rest-clear facts 0 b.parties (and-left _ _ r)))

  meets-extends : (ms : List Meeting) → ((a b : Scene T S) → SceneAhead (settled facts step tag net k n a) (settled facts more tag net k' n b) → Extends (under_meetings facts step tag net k n ms a) (under_meetings facts more tag net k' n ms b)) →
      (x : Bool) (m : Meeting) (a b : Scene T S) → SceneAhead a b → is_legal facts net a m ≡ x →
      Extends (if_meets facts step tag net k n x (under_meetings facts step tag net k n ms) m a) (if_meets facts more tag net k' n (is_legal facts net b m) (under_meetings facts more tag net k' n ms) m b)
  meets-extends ms ih true m a b h e =
      subst (λ v. Extends (under_meetings facts step tag net k n ms (meet net n m a)) (if_meets facts more tag net k' n v (under_meetings facts more tag net k' n ms) m b)) (sym (legal-stays a b h m e))
      (ih (meet net n m a) (meet net n m b) (later (meet net n m a) (meet net n m b) (meet-ahead a b h m e)))
  meets-extends ms ih false m a b h e =
      below-extends _ (party_faults 0 b.parties) _ (scene_log b) _ (parties-faults 0 a.parties b.parties (scene-below a b h).parties) (scene-logs a b (scene-below a b h))
      (meets-above facts more tag net k' n (is_legal facts net b m) (under_meetings facts more tag net k' n ms) (under-above facts more tag net k' n ms) m b)

  under-extends : (ms : List Meeting) (a b : Scene T S) → SceneAhead (settled facts step tag net k n a) (settled facts more tag net k' n b) → Extends (under_meetings facts step tag net k n ms a) (under_meetings facts more tag net k' n ms b)
  unfolding under_meetings
  under-extends [] a b h = ended-extends _ (settled facts step tag net k n a) (settled facts more tag net k' n b) h refl
  under-extends (m ∷ ms) a b h = meets-extends ms (under-extends ms) _ m (settled facts step tag net k n a) (settled facts more tag net k' n b) h refl

-- the scheme of meetings keeps the fuel law
pub rv-extends : {T S : Type 0} (facts : Facts T S) (step more : Stepping T S) → Grows step more → (p : RvPlan) (k k' : ℕ) → k ≤ k' → (n : ℕ) (ms : List Meeting) (tag : Tag) (c : Places T) (kids : List S) (inputs : Streams T) →
    Extends (rv facts step p k n ms tag c kids inputs) (rv facts more p k' n ms tag c kids inputs)
rv-extends facts step more grows p k k' h n ms tag c kids inputs =
    under-extends facts step more tag grows p.net k k' n h ms _ _ (record { parties = all-start facts step more tag grows p.net.sources k k' h 0 _; inputs = refl; outputs = refl; met = refl })

pub meetings-keep : {T S : Type 0} (facts : Facts T S) (step more : Stepping T S) → Grows step more → (tag : Tag) (net : Net) (k k' n : ℕ) → k ≤ k' → (ms : List Meeting) (sc : Scene T S) → Extends (under_meetings facts step tag net k n ms sc) (under_meetings facts more tag net k' n ms sc)
meetings-keep facts step more grows tag net k k' n h ms sc =
    under-extends facts step more tag grows net k k' n h ms sc sc (record { parties = all-start facts step more tag grows net.sources k k' h 0 sc.parties; inputs = refl; outputs = refl; met = refl })
