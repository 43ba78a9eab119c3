-- The places of a Rendezvous composite: what is on its way to a place stays the same through meetings, in order.
use Rattle.std.proofs.Common.{◌≡◌, ℕ, zero, suc, ◌+◌, ◌<◌, List, [], ◌∷◌, ◌++◌, Bool, true, false, nat_eq, nat_lt, length, Option, Some, None, if◌then◌else◌, refl, sym, ap, ap₂, subst, arith, ◌∙◌, append_assoc, append-nil}
use Rattle.std.proofs.lemmas.Bool.Decides.{nat_tests}
use Rattle.pt_meaning.specs.Basics.{Streams, at, Meeting, Channel, Barrier}
use Rattle.pt_meaning.specs.Rounds.{Source, Own, Output, Net}
use Rattle.pt_meaning.specs.Modal.{get, change_at}
use Rattle.pt_meaning.specs.Process.{Put, Mood, Well, Broken, Party, due_puts, rest_of, with_put_made, with_token, all_got, all_puts}
use Rattle.pt_meaning.specs.Meetings.{Scene, puts_at, waiting, first_on, offer, offers, Target, Place, Outlet, target_from, Hop, hops, hops_of_child, hops_in, sent, received, passed}
use Rattle.pt_meaning.specs.Rendezvous.{Places}
use Rattle.pt_meaning.specs.Places.{tokens_on, taken_if}
use Rattle.pt_meaning.specs.Closed.{}
use Rattle.pt_laws.specs.Channels.{further, channel_at}
use Rattle.pt_laws.specs.SoundRuns.{got_by, waiting_in, on_its_way, HasRooms}
use Rattle.pt_laws.proofs.ChannelLaws.{channel-place, place-channel, count-of-channel}
use Rattle.pt_laws.proofs.MeetingIndex.{some-same}

-- numbers
same-nat : (a b : ℕ) → nat_eq a b ≡ true → a ≡ b
same-nat a b e = grind (arith, nat_tests, e)

nat-same : (a : ℕ) → nat_eq a a ≡ true
nat-same a = grind (arith, nat_tests)

no-bool : false ≡ true → ⊥
no-bool e = cc

-- entries that are changed
at-rests : {B : Type 0} (i : ℕ) (xss : List (List B)) → at (change_at i rest_of xss) i ≡ rest_of (at xss i)
at-rests i [] = refl
at-rests zero (xs ∷ xss) = refl
at-rests (suc i) (xs ∷ xss) = at-rests i xss

at-others : {B : Type 0} (i j : ℕ) (f : List B → List B) (xss : List (List B)) → nat_eq i j ≡ false → at (change_at i f xss) j ≡ at xss j
at-others i j f [] e = refl
at-others zero zero f (xs ∷ xss) e = absurd (cc)
at-others zero (suc j) f (xs ∷ xss) e = refl
at-others (suc i) zero f (xs ∷ xss) e = refl
at-others (suc i) (suc j) f (xs ∷ xss) e = let a : nat_eq i j ≡ false = grind (arith, nat_tests, e) in at-others i j f xss a

at-added : {T : Type 0} (q : ℕ) (x : T) (X : Streams T) → q < length X → at (change_at q (λ xs. xs ++ (x ∷ [])) X) q ≡ at X q ++ (x ∷ [])
at-added q x [] h = absurd (omega (arith, h))
at-added zero x (xs ∷ X) h = refl
at-added (suc q) x (xs ∷ X) h = at-added q x X (omega (arith, h))

change-count : {B : Type 0} (i : ℕ) (f : B → B) (xs : List B) → length (change_at i f xs) ≡ length xs
change-count i f [] = refl
change-count zero f (x ∷ xs) = refl
change-count (suc i) f (x ∷ xs) = ap (λ n. suc n) (change-count i f xs)

-- the places of a scene
abbrev pub held_of : {T S : Type 0} → Scene T S → Places T
held_of sc = record { got = all_got sc.parties; puts = all_puts sc.parties; inputs = sc.inputs }

-- both are the same sender
abbrev is_sender : Option Source → Option Source → Bool
is_sender None s = false
is_sender (Some (Own j)) None = false
is_sender (Some (Own j)) (Some (Own k)) = nat_eq j k
is_sender (Some (Own j)) (Some (Output k port)) = false
is_sender (Some (Output j p)) None = false
is_sender (Some (Output j p)) (Some (Own k)) = false
is_sender (Some (Output j p)) (Some (Output k port)) = nat_eq j k

sender-same : {T : Type 0} → (s u : Option Source) → is_sender s u ≡ true → (X : Places T) → waiting_in X s ≡ waiting_in X u
sender-same None u e X = absurd (cc)
sender-same (Some (Own j)) None e X = absurd (cc)
sender-same (Some (Own j)) (Some (Own k)) e X = ap (λ v. at X.inputs v) (same-nat j k e)
sender-same (Some (Own j)) (Some (Output k port)) e X = absurd (cc)
sender-same (Some (Output j p)) None e X = absurd (cc)
sender-same (Some (Output j p)) (Some (Own k)) e X = absurd (cc)
sender-same (Some (Output j p)) (Some (Output k port)) e X = ap (λ v. at X.puts v) (same-nat j k e)

sender-self : (s : Option Source) → (s ≡ None → ⊥) → is_sender s s ≡ true
sender-self None n = absurd (n refl)
sender-self (Some (Own j)) n = nat-same j
sender-self (Some (Output j p)) n = nat-same j

-- the next put of a channel's sender
pub record Offered {T : Type 0} (net : Net) (X : Places T) (c : ℕ) (x : T) : Type 0 where
  pub put : Put T
  pub rest : List (Put T)
  pub waits : waiting_in X (get net.sources c) ≡ put ∷ rest
  pub on : put.channel ≡ c
  pub is : put.token ≡ x

head-of : {T : Type 0} → (c : ℕ) (us : List (Put T)) (x : T) → first_on c us ≡ Some x → (u : Put T) × (rest : List (Put T)) × (us ≡ u ∷ rest) × (u.channel ≡ c) × (u.token ≡ x)
head-of c [] x e = absurd (cc)
head-of {T} c (u ∷ us) x e = go (nat_eq u.channel c) refl e
  where
    clash : None ≡ Some x → ⊥
    clash e = cc

    go : (b : Bool) → nat_eq u.channel c ≡ b → (if b then Some u.token else None) ≡ Some x → (v : Put T) × (rest : List (Put T)) × (u ∷ us ≡ v ∷ rest) × (v.channel ≡ c) × (v.token ≡ x)
    go true h e = (u, us, refl, same-nat u.channel c h, some-same u.token x e)
    go false h e = absurd (clash e)

-- and then all of a meeting
AllEnd : Net → List Hop → Type 0
AllEnd net [] = Unit {0}
AllEnd net (h ∷ hs) = (target_from 0 net.places h.channel ≡ h.target) × AllEnd net hs

AllOther : ℕ → List Hop → Type 0
AllOther c [] = Unit {0}
AllOther c (h ∷ hs) = (nat_eq c h.channel ≡ false) × AllOther c hs

AllApart : List Hop → Type 0
AllApart [] = Unit {0}
AllApart (h ∷ hs) = AllOther h.channel hs × AllApart hs

AllOffered : {T : Type 0} → Net → Places T → List Hop → List (Option T) → Type 0
AllOffered net X [] xs = Unit {0}
AllOffered net X (h ∷ hs) [] = Unit {0}
AllOffered net X (h ∷ hs) (None ∷ xs) = Unit {0}
AllOffered net X (h ∷ hs) (Some x ∷ xs) = Offered net X h.channel x × AllOffered net X hs xs

-- the channels of a meeting end where its hops do, and are apart
above : (b c q n d : ℕ) → d < c → AllOther d (hops b c q n)
unfolding AllOther
above b c q zero d h = tt
above b c q (suc n) d h = (differ, above b (suc c) (suc q) n d (omega (arith, h)))
  where
    differ : nat_eq d c ≡ false
    differ = grind (arith, nat_tests, h)

hops-apart : (b c q n : ℕ) → AllApart (hops b c q n)
unfolding AllApart
hops-apart b c q zero = tt
hops-apart b c q (suc n) = (above b (suc c) (suc q) n c (omega arith), hops-apart b (suc c) (suc q) n)

child-apart : (b c : ℕ) (ns : List ℕ) (i : ℕ) → AllApart (hops_of_child b c ns i)
unfolding AllApart
child-apart b c [] i = tt
child-apart b c (n ∷ ns) zero = hops-apart b c 0 n
child-apart b c (n ∷ ns) (suc i) = child-apart b (c + n) ns i

hops-end : (net : Net) (b c q n : ℕ) → ((r : ℕ) → r < n → channel_at net.places b (q + r) ≡ Some (c + r)) → AllEnd net (hops b c q n)
unfolding AllEnd
hops-end net b c q zero f = tt
hops-end net b c q (suc n) f = (
  first,
  hops-end net b (suc c) (suc q) n (λ r h. later r (omega (arith, h)) (f (suc r) (omega (arith, h)))),
)
  where
    first : target_from 0 net.places c ≡ Place b q
    first =
        let a : q + 0 ≡ q = omega arith in
        let d : c + 0 ≡ c = omega arith in
        place-channel net.places c b q (subst (λ v. channel_at net.places b q ≡ Some v) d (subst (λ v. channel_at net.places b v ≡ Some (c + 0)) a (f 0 (omega arith))))

    later : (r : ℕ) → r < n → channel_at net.places b (q + suc r) ≡ Some (c + suc r) → channel_at net.places b (suc q + r) ≡ Some (suc c + r)
    later r h e =
        let a : q + suc r ≡ suc q + r = omega arith in
        let d : c + suc r ≡ suc c + r = omega arith in
        subst (λ v. channel_at net.places b (suc q + r) ≡ Some v) d (subst (λ v. channel_at net.places b v ≡ Some (c + suc r)) a e)

-- the channels of the places of child i, behind c others
child-end : (net : Net) (b c : ℕ) (ns : List ℕ) (i : ℕ) → ((q : ℕ) → channel_at net.places b q ≡ further c (channel_at ns i q)) → AllEnd net (hops_of_child b c ns i)
unfolding AllEnd
child-end net b c [] i f = tt
child-end net b c (n ∷ ns) zero f = hops-end net b c 0 n (λ r h. at-place r h)
  where
    at-place : (r : ℕ) → r < n → channel_at net.places b (0 + r) ≡ Some (c + r)
    at-place r h =
        let a : 0 + r ≡ r = omega arith in
        let t : nat_lt r n ≡ true = grind (arith, nat_tests, h) in
        ap (λ v. channel_at net.places b v) a ∙ f r ∙ ap (λ w. further c (if w then Some r else None)) t
child-end net b c (n ∷ ns) (suc i) f = child-end net b (c + n) ns i (λ q. f q ∙ twice (channel_at ns i q))
  where
    twice : (o : Option ℕ) → further c (further n o) ≡ further (c + n) o
    twice None = refl
    twice (Some d) = let a : c + (n + d) ≡ c + n + d = omega arith in ap (λ v. Option.Some v) a

meeting-ends : (net : Net) (m : Meeting) → AllEnd net (hops_in net m)
unfolding AllEnd
meeting-ends net (Channel c) = (refl, tt)
meeting-ends net (Barrier b) = child-end net b 0 net.places b (λ q. zero-more (channel_at net.places b q))
  where
    zero-more : (o : Option ℕ) → o ≡ further 0 o
    zero-more None = refl
    zero-more (Some d) = let a : d ≡ 0 + d = omega arith in ap (λ v. Option.Some v) a

meeting-apart : (net : Net) (m : Meeting) → AllApart (hops_in net m)
unfolding AllApart AllOther
meeting-apart net (Channel c) = (tt, tt)
meeting-apart net (Barrier b) = child-apart b 0 net.places b

module _ {T S : Type 0} where
  got-sent : (i : ℕ) (ps : List (Party T S)) → all_got (change_at i with_put_made ps) ≡ all_got ps
  got-sent i [] = refl
  got-sent zero (p ∷ ps) = refl
  got-sent (suc i) (p ∷ ps) = ap (λ v. p.got ∷ v) (got-sent i ps)

  puts-sent : (i : ℕ) (ps : List (Party T S)) → all_puts (change_at i with_put_made ps) ≡ change_at i rest_of (all_puts ps)
  puts-sent i [] = refl
  puts-sent zero (p ∷ ps) = refl
  puts-sent (suc i) (p ∷ ps) = ap (λ v. p.puts ∷ v) (puts-sent i ps)

  puts-received : (i q : ℕ) (x : T) (ps : List (Party T S)) → all_puts (change_at i (with_token q x) ps) ≡ all_puts ps
  puts-received i q x [] = refl
  puts-received zero q x (p ∷ ps) = refl
  puts-received (suc i) q x (p ∷ ps) = ap (λ v. p.puts ∷ v) (puts-received i q x ps)

  got-received : (i q : ℕ) (x : T) (ps : List (Party T S)) → q < length (got_by (all_got ps) i) → at (got_by (all_got (change_at i (with_token q x) ps)) i) q ≡ at (got_by (all_got ps) i) q ++ (x ∷ [])
  got-received i q x [] h = absurd (omega (arith, h))
  got-received zero q x (p ∷ ps) h = at-added q x p.got h
  got-received (suc i) q x (p ∷ ps) h = got-received i q x ps h

  got-place : (i q r : ℕ) (x : T) (ps : List (Party T S)) → nat_eq q r ≡ false → at (got_by (all_got (change_at i (with_token q x) ps)) i) r ≡ at (got_by (all_got ps) i) r
  got-place i q r x [] e = refl
  got-place zero q r x (p ∷ ps) e = at-others q r (λ xs. xs ++ (x ∷ [])) p.got e
  got-place (suc i) q r x (p ∷ ps) e = got-place i q r x ps e

  got-child : (i j q : ℕ) (x : T) (ps : List (Party T S)) → nat_eq i j ≡ false → got_by (all_got (change_at i (with_token q x) ps)) j ≡ got_by (all_got ps) j
  got-child i j q x [] e = refl
  got-child zero zero q x (p ∷ ps) e = absurd (cc)
  got-child zero (suc j) q x (p ∷ ps) e = refl
  got-child (suc i) zero q x (p ∷ ps) e = refl
  got-child (suc i) (suc j) q x (p ∷ ps) e = let a : nat_eq i j ≡ false = grind (arith, nat_tests, e) in got-child i j q x ps a

  room-received : (i j q : ℕ) (x : T) (ps : List (Party T S)) → length (got_by (all_got (change_at i (with_token q x) ps)) j) ≡ length (got_by (all_got ps) j)
  room-received i j q x [] = refl
  room-received zero zero q x (p ∷ ps) = change-count q (λ xs. xs ++ (x ∷ [])) p.got
  room-received zero (suc j) q x (p ∷ ps) = refl
  room-received (suc i) zero q x (p ∷ ps) = refl
  room-received (suc i) (suc j) q x (p ∷ ps) = room-received i j q x ps

  -- what waits, once a token is sent and received
  waits-received : (x : T) (t : Target) (sc : Scene T S) (s : Option Source) → waiting_in (held_of (received x t sc)) s ≡ waiting_in (held_of sc) s
  waits-received x t sc None = refl
  waits-received x (Outlet o) sc (Some (Own j)) = refl
  waits-received x (Place i q) sc (Some (Own j)) = refl
  waits-received x (Outlet o) sc (Some (Output j port)) = refl
  waits-received x (Place i q) sc (Some (Output j port)) = ap (λ v. at v j) (puts-received i q x sc.parties)

  waits-sent : (s : Option Source) (sc : Scene T S) → waiting_in (held_of (sent s sc)) s ≡ rest_of (waiting_in (held_of sc) s)
  waits-sent None sc = refl
  waits-sent (Some (Own j)) sc = at-rests j sc.inputs
  waits-sent (Some (Output i port)) sc = ap (λ v. at v i) (puts-sent i sc.parties) ∙ at-rests i (all_puts sc.parties)

  sender-other : (s u : Option Source) → is_sender s u ≡ false → (sc : Scene T S) → waiting_in (held_of (sent s sc)) u ≡ waiting_in (held_of sc) u
  sender-other None u e sc = refl
  sender-other (Some (Own j)) None e sc = refl
  sender-other (Some (Own j)) (Some (Own k)) e sc = at-others j k rest_of sc.inputs e
  sender-other (Some (Own j)) (Some (Output k port)) e sc = refl
  sender-other (Some (Output j p)) None e sc = refl
  sender-other (Some (Output j p)) (Some (Own k)) e sc = refl
  sender-other (Some (Output j p)) (Some (Output k port)) e sc = ap (λ v. at v k) (puts-sent j sc.parties) ∙ at-others j k rest_of (all_puts sc.parties) e

  due-all : (c : ℕ) (x : T) (ps : List (Party T S)) (i : ℕ) → first_on c (puts_at ps i) ≡ Some x → puts_at ps i ≡ at (all_puts ps) i
  due-all c x [] i e = refl
  due-all c x (p ∷ ps) zero e = go p.mood e
    where
      clash : None ≡ Some x → ⊥
      clash e = cc

      go : (m : Mood) → first_on c (due_puts m p.puts) ≡ Some x → due_puts m p.puts ≡ p.puts
      go Well e = refl
      go (Broken fs) e = absurd (clash e)
  due-all c x (p ∷ ps) (suc i) e = due-all c x ps i e

  waiting-all : (sc : Scene T S) (c : ℕ) (x : T) (s : Option Source) → first_on c (waiting sc s) ≡ Some x → waiting sc s ≡ waiting_in (held_of sc) s
  waiting-all sc c x None e = refl
  waiting-all sc c x (Some (Own j)) e = refl
  waiting-all sc c x (Some (Output i p)) e = due-all c x sc.parties i e

  offered : (net : Net) (sc : Scene T S) (c : ℕ) (x : T) → offer net sc c ≡ Some x → Offered net (held_of sc) c x
  offered net sc c x e = let h = head-of c (waiting sc (get net.sources c)) x e in record { put = h.0; rest = h.1; waits = sym (waiting-all sc c x (get net.sources c) e) ∙ h.2; on = h.3; is = h.4 }

  -- one token passes
  module _ (net : Net) (sc : Scene T S) (c : ℕ) (t : Target) (x : T) (ends : target_from 0 net.places c ≡ t) (o : Offered net (held_of sc) c x) (rooms : HasRooms net (held_of sc)) where
    after : Scene T S
    after = received x t (sent (get net.sources c) sc)

    there : get net.sources c ≡ None → ⊥
    there e = clash (ap (λ s. waiting_in (held_of sc) s) (sym e) ∙ o.waits)
      where
        clash : [] ≡ o.put ∷ o.rest → ⊥
        clash e = cc

    same-waits : (u : Option Source) → is_sender (get net.sources c) u ≡ true → (waiting_in (held_of sc) u ≡ o.put ∷ o.rest) × (waiting_in (held_of after) u ≡ o.rest)
    unfolding after
    same-waits u e = (
      sym (sender-same (get net.sources c) u e (held_of sc)) ∙ o.waits,
      waits-received x t (sent (get net.sources c) sc) u ∙ sym (sender-same (get net.sources c) u e (held_of (sent (get net.sources c) sc))) ∙ waits-sent (get net.sources c) sc ∙ ap (λ us. rest_of us) o.waits,
    )

    other-waits : (u : Option Source) → is_sender (get net.sources c) u ≡ false → waiting_in (held_of after) u ≡ waiting_in (held_of sc) u
    unfolding after
    other-waits u e = waits-received x t (sent (get net.sources c) sc) u ∙ sender-other (get net.sources c) u e sc

    tokens-passed : (d : ℕ) → tokens_on d (waiting_in (held_of sc) (get net.sources d)) ≡ taken_if (nat_eq c d) x (tokens_on d (waiting_in (held_of after) (get net.sources d)))
    tokens-passed d = go (is_sender (get net.sources c) (get net.sources d)) refl
      where
        not-same : is_sender (get net.sources c) (get net.sources d) ≡ false → nat_eq c d ≡ false
        not-same e = by (nat_eq c d) refl
          where
            by : (b : Bool) → nat_eq c d ≡ b → b ≡ false
            by false h = refl
            by true h = absurd (no-bool (sym e ∙ (ap (λ v. is_sender (get net.sources c) (get net.sources v)) (sym (same-nat c d h)) ∙ sender-self (get net.sources c) there)))

        go : (b : Bool) → is_sender (get net.sources c) (get net.sources d) ≡ b → tokens_on d (waiting_in (held_of sc) (get net.sources d)) ≡ taken_if (nat_eq c d) x (tokens_on d (waiting_in (held_of after) (get net.sources d)))
        go true e =
            let w = same-waits (get net.sources d) e in
            ap (λ us. tokens_on d us) w.0 ∙ ap₂ (λ a b. taken_if (nat_eq a d) b (tokens_on d o.rest)) o.on o.is ∙ ap (λ us. taken_if (nat_eq c d) x (tokens_on d us)) (sym w.1)
        go false e = ap (λ us. tokens_on d us) (sym (other-waits (get net.sources d) e)) ∙ ap (λ b. taken_if b x (tokens_on d (waiting_in (held_of after) (get net.sources d)))) (sym (not-same e))

    -- what is sent leaves what was gathered
    got-after-sent : all_got (sent (get net.sources c) sc).parties ≡ all_got sc.parties
    got-after-sent = go (get net.sources c)
      where
        go : (s : Option Source) → all_got (sent s sc).parties ≡ all_got sc.parties
        go None = refl
        go (Some (Own j)) = refl
        go (Some (Output i p)) = got-sent i sc.parties

    abbrev sent_parties : List (Party T S)
    sent_parties = (sent (get net.sources c) sc).parties

    got-by : (t : Target) → target_from 0 net.places c ≡ t → (i q d : ℕ) → channel_at net.places i q ≡ Some d → (b : Bool) → nat_eq c d ≡ b → at (got_by (all_got (received x t (sent (get net.sources c) sc)).parties) i) q ≡ at (got_by (all_got sent_parties) i) q ++ (if b then x ∷ [] else [])
    got-by (Outlet n) e i q d h false g = sym (append-nil _)
    got-by (Outlet n) e i q d h true g = absurd (clash (sym e ∙ ap (λ v. target_from 0 net.places v) (same-nat c d g) ∙ place-channel net.places d i q h))
      where
        clash : Outlet n ≡ Place i q → ⊥
        clash e = cc
    got-by (Place j r) e i q d h true g =
        let same = sym e ∙ ap (λ v. target_from 0 net.places v) (same-nat c d g) ∙ place-channel net.places d i q h in
        let child : j ≡ i = ap child_of_target same in
        let place : r ≡ q = ap place_of_target same in
        subst (λ v. at (got_by (all_got (change_at v (with_token r x) sent_parties)) i) q ≡ at (got_by (all_got sent_parties) i) q ++ (x ∷ [])) (sym child)
        (subst (λ v. at (got_by (all_got (change_at i (with_token v x) sent_parties)) i) q ≡ at (got_by (all_got sent_parties) i) q ++ (x ∷ [])) (sym place)
        (got-received i q x sent_parties room))
      where
        child_of_target : Target → ℕ
        child_of_target (Place a b) = a
        child_of_target (Outlet n) = 0

        place_of_target : Target → ℕ
        place_of_target (Place a b) = b
        place_of_target (Outlet n) = 0

        room : q < length (got_by (all_got sent_parties) i)
        room = let l = count-of-channel net.places i q d h in let m = rooms.gathers i in subst (λ v. q < length (got_by v i)) (sym got-after-sent) (subst (λ v. q < v) (sym m) l)
    got-by (Place j r) e i q d h false g = by (nat_eq j i) refl
      where
        same_place : nat_eq j i ≡ true → nat_eq r q ≡ true → ⊥
        same_place a b =
            let at_it : channel_at net.places i q ≡ Some c = subst (λ v. channel_at net.places v q ≡ Some c) (same-nat j i a) (subst (λ v. channel_at net.places j v ≡ Some c) (same-nat r q b) (channel-place net.places c j r e)) in
            let same : c ≡ d = some-same c d (sym at_it ∙ h) in
            no-bool (sym g ∙ (ap (λ v. nat_eq c v) (sym same) ∙ nat-same c))

        by_place : nat_eq j i ≡ true → (b : Bool) → nat_eq r q ≡ b → at (got_by (all_got (change_at i (with_token r x) sent_parties)) i) q ≡ at (got_by (all_got sent_parties) i) q
        by_place a true f = absurd (same_place a f)
        by_place a false f = got-place i r q x sent_parties f

        by : (b : Bool) → nat_eq j i ≡ b → at (got_by (all_got (change_at j (with_token r x) sent_parties)) i) q ≡ at (got_by (all_got sent_parties) i) q ++ []
        by true a = subst (λ v. at (got_by (all_got (change_at v (with_token r x) sent_parties)) i) q ≡ at (got_by (all_got sent_parties) i) q) (sym (same-nat j i a)) (by_place a (nat_eq r q) refl) ∙ sym (append-nil _)
        by false a = ap (λ Y. at Y q) (got-child j i r x sent_parties a) ∙ sym (append-nil _)

    passes-one : (i q : ℕ) → on_its_way net (held_of after) i q (channel_at net.places i q) ≡ on_its_way net (held_of sc) i q (channel_at net.places i q)
    unfolding after
    passes-one i q = go (channel_at net.places i q) refl
      where
        both : (b : Bool) (g w : List T) → (g ++ (if b then x ∷ [] else [])) ++ w ≡ g ++ taken_if b x w
        both true g w = append_assoc g (x ∷ []) w
        both false g w = ap (λ v. v ++ w) (append-nil g)

        go : (n : Option ℕ) → channel_at net.places i q ≡ n → on_its_way net (held_of (received x t (sent (get net.sources c) sc))) i q n ≡ on_its_way net (held_of sc) i q n
        go None h = refl
        go (Some d) h =
            ap (λ v. v ++ tokens_on d (waiting_in (held_of (received x t (sent (get net.sources c) sc))) (get net.sources d))) (got-by t ends i q d h (nat_eq c d) refl ∙ ap (λ Y. at (got_by Y i) q ++ (if nat_eq c d then x ∷ [] else [])) got-after-sent) ∙
            both (nat_eq c d) (at (got_by (all_got sc.parties) i) q) (tokens_on d (waiting_in (held_of (received x t (sent (get net.sources c) sc))) (get net.sources d))) ∙
            ap (λ v. at (got_by (all_got sc.parties) i) q ++ v) (sym (tokens-passed d))

    rooms-one : HasRooms net (held_of after)
    unfolding after
    rooms-one = record { gathers = λ i. room t i ∙ ap (λ Y. length (got_by Y i)) got-after-sent ∙ rooms.gathers i; sends = λ d j e. subst (λ v. j < v) (sym (inputs-long t (get net.sources c))) (rooms.sends d j e) }
      where
        room : (t : Target) (i : ℕ) → length (got_by (all_got (received x t (sent (get net.sources c) sc)).parties) i) ≡ length (got_by (all_got sent_parties) i)
        room (Outlet n) i = refl
        room (Place j q) i = room-received j i q x sent_parties

        inputs-long : (t : Target) (s : Option Source) → length (received x t (sent s sc)).inputs ≡ length sc.inputs
        inputs-long (Outlet n) None = refl
        inputs-long (Outlet n) (Some (Own j)) = change-count j rest_of sc.inputs
        inputs-long (Outlet n) (Some (Output j p)) = refl
        inputs-long (Place a b) None = refl
        inputs-long (Place a b) (Some (Own j)) = change-count j rest_of sc.inputs
        inputs-long (Place a b) (Some (Output j p)) = refl

    offered-still : (d : ℕ) (y : T) → nat_eq c d ≡ false → Offered net (held_of sc) d y → Offered net (held_of after) d y
    offered-still d y e f = go (is_sender (get net.sources c) (get net.sources d)) refl
      where
        head-same : (u v : Put T) (us vs : List (Put T)) → (u ∷ us) ≡ (v ∷ vs) → u ≡ v
        head-same u v us vs e = cc

        go : (b : Bool) → is_sender (get net.sources c) (get net.sources d) ≡ b → Offered net (held_of after) d y
        go true g =
            let w = same-waits (get net.sources d) g in
            let same = head-same o.put f.put o.rest f.rest (sym w.0 ∙ f.waits) in
            let channels : c ≡ d = sym o.on ∙ ap (λ (u : Put T). u.channel) same ∙ f.on in
            absurd (no-bool (sym e ∙ (ap (λ v. nat_eq c v) (sym channels) ∙ nat-same c)))
        go false g = record { put = f.put; rest = f.rest; waits = other-waits (get net.sources d) g ∙ f.waits; on = f.on; is = f.is }

  offers-hold : (net : Net) (sc : Scene T S) (hs : List Hop) → AllOffered net (held_of sc) hs (offers net sc hs)
  unfolding AllOffered
  offers-hold net sc [] = tt
  offers-hold net sc (h ∷ hs) = go (offer net sc h.channel) refl (offers-hold net sc hs)
    where
      go : (o : Option T) → offer net sc h.channel ≡ o → AllOffered net (held_of sc) hs (offers net sc hs) → AllOffered net (held_of sc) (h ∷ hs) (o ∷ offers net sc hs)
      go None e ih = tt
      go (Some x) e ih = (offered net sc h.channel x e, ih)

  offered-all : (net : Net) (sc : Scene T S) (c : ℕ) (t : Target) (x : T) (e : target_from 0 net.places c ≡ t) (o : Offered net (held_of sc) c x) → HasRooms net (held_of sc) → (hs : List Hop) (xs : List (Option T)) → AllOther c hs → AllOffered net (held_of sc) hs xs → AllOffered net (held_of (received x t (sent (get net.sources c) sc))) hs xs
  unfolding AllOffered AllOther after
  offered-all net sc c t x e o r [] xs a b = tt
  offered-all net sc c t x e o r (h ∷ hs) [] a b = tt
  offered-all net sc c t x e o r (h ∷ hs) (None ∷ xs) a b = tt
  offered-all net sc c t x e o r (h ∷ hs) (Some y ∷ xs) a b = (offered-still net sc c t x e o r h.channel y a.0 b.0, offered-all net sc c t x e o r hs xs a.1 b.1)

  -- what is on its way to each place stays
  unfoldable pub Same : Net → Scene T S → Scene T S → Type 0
  Same net sc sc' = ((i q : ℕ) → on_its_way net (held_of sc') i q (channel_at net.places i q) ≡ on_its_way net (held_of sc) i q (channel_at net.places i q)) × HasRooms net (held_of sc')

  passes : (net : Net) (hs : List Hop) (xs : List (Option T)) (sc : Scene T S) → AllEnd net hs → AllApart hs → AllOffered net (held_of sc) hs xs → HasRooms net (held_of sc) → Same net sc (passed net hs xs sc)
  unfolding AllEnd AllApart AllOffered Same after
  passes net [] xs sc e a o r = (λ i q. refl, r)
  passes net (h ∷ hs) [] sc e a o r = (λ i q. refl, r)
  passes net (h ∷ hs) (None ∷ xs) sc e a o r = (λ i q. refl, r)
  passes net (h ∷ hs) (Some x ∷ xs) sc e a o r =
      let next = passes net hs xs (received x h.target (sent (get net.sources h.channel) sc)) e.1 a.1 (offered-all net sc h.channel h.target x e.0 o.0 r hs xs a.0 o.1) (rooms-one net sc h.channel h.target x e.0 o.0 r) in
      (λ i q. next.0 i q ∙ passes-one net sc h.channel h.target x e.0 o.0 r i q, next.1)

  pub meeting-same : (net : Net) (m : Meeting) (sc : Scene T S) → HasRooms net (held_of sc) → Same net sc (passed net (hops_in net m) (offers net sc (hops_in net m)) sc)
  meeting-same net m sc r = passes net (hops_in net m) (offers net sc (hops_in net m)) sc (meeting-ends net m) (meeting-apart net m) (offers-hold net sc (hops_in net m)) r
