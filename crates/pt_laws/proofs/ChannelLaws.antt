-- Channels and the places at which they end.
use Rattle.std.proofs.Common.{◌≡◌, ◌⊎◌, ℕ, zero, suc, ◌+◌, ◌≤◌, ◌<◌, ◌-◌, List, [], ◌∷◌, ◌++◌, Bool, true, false, nat_lt, length, take, drop, Option, Some, None, if◌then◌else◌, inl, inr, refl, sym, ap, subst, arith, ◌∙◌}
use Rattle.std.proofs.lemmas.Bool.Decides.{nat_tests}
use Rattle.std.proofs.lemmas.List.{length-drop}
use Rattle.pt_meaning.specs.Basics.{Streams, at}
use Rattle.pt_meaning.specs.Streams.{get}
use Rattle.pt_meaning.specs.Rounds.{Net}
use Rattle.pt_meaning.specs.Meetings.{Target, Place, Outlet, target_from}
use Rattle.pt_meaning.specs.Node.{Core, Sdf, Pn, Sr, De, Rv, Modal}
use Rattle.pt_meaning.specs.Running.{total, Fits}
use Rattle.pt_meaning.specs.Closed as closed
use Rattle.pt_meaning.specs.Closed.{first_channel, keeps_tokens}
use Rattle.pt_laws.specs.Channels as channels
use Rattle.pt_laws.specs.Channels.{further, channel_at, tokens_in}
use Rattle.pt_laws.specs.SoundRuns.{on_place, count_at}
use Rattle.pt_laws.proofs.MeetingIndex.{some-same}

no-channel : {B : Type 0} (y : B) → None ≡ Some y → ⊥
no-channel y e = cc

-- streams by number
at-drop : {T : Type 0} (n : ℕ) (X : Streams T) (q : ℕ) → at (drop n X) q ≡ at X (n + q)
at-drop zero X q = let a : q ≡ 0 + q = omega arith in ap (λ v. at X v) a
at-drop (suc n) [] q = refl
at-drop (suc n) (xs ∷ X) q = let a : suc (n + q) ≡ suc n + q = omega arith in at-drop n X q ∙ ap (λ v. at (xs ∷ X) v) a

-- channels by their places
none-at : {T : Type 0} (n q : ℕ) (X : Streams T) → nat_lt q n ≡ false → at (take n X) q ≡ []
none-at zero q X e = refl
none-at (suc n) q [] e = refl
none-at (suc n) zero (xs ∷ X) e = absurd (grind (arith, nat_tests, e))
none-at (suc n) (suc q) (xs ∷ X) e = let a : nat_lt q n ≡ false = grind (arith, nat_tests, e) in none-at n q X a

same-at : {T : Type 0} (n q : ℕ) (X : Streams T) → nat_lt q n ≡ true → at (take n X) q ≡ at X q
same-at zero q X e = absurd (grind (arith, nat_tests, e))
same-at (suc n) q [] e = refl
same-at (suc n) zero (xs ∷ X) e = refl
same-at (suc n) (suc q) (xs ∷ X) e = let a : nat_lt q n ≡ true = grind (arith, nat_tests, e) in same-at n q X a

pub at-first : {T : Type 0} (n q : ℕ) (X : Streams T) → at (take n X) q ≡ tokens_in X (if nat_lt q n then Some q else None)
at-first {T} n q X = go (nat_lt q n) refl
  where
    go : (b : Bool) → nat_lt q n ≡ b → at (take n X) q ≡ tokens_in X (if b then Some q else None)
    go true e = same-at n q X e
    go false e = none-at n q X e

pub tokens-further : {T : Type 0} (n : ℕ) (X : Streams T) (o : Option ℕ) → tokens_in (drop n X) o ≡ tokens_in X (further n o)
tokens-further n X None = refl
tokens-further n X (Some c) = at-drop n X c

at-behind-it : {T : Type 0} (F Y : Streams T) (c : ℕ) → at (F ++ Y) (length F + c) ≡ at Y c
at-behind-it [] Y c = let a : 0 + c ≡ c = omega arith in ap (λ v. at Y v) a
at-behind-it (xs ∷ F) Y c = let a : suc (length F) + c ≡ suc (length F + c) = omega arith in ap (λ v. at (xs ∷ (F ++ Y)) v) a ∙ at-behind-it F Y c

pub tokens-append : {T : Type 0} (n : ℕ) (F Y : Streams T) → length F ≡ n → (o : Option ℕ) → tokens_in (F ++ Y) (further n o) ≡ tokens_in Y o
tokens-append n F Y e None = refl
tokens-append n F Y e (Some c) = ap (λ v. at (F ++ Y) (v + c)) (sym e) ∙ at-behind-it F Y c

at-before : {T : Type 0} (F Y : Streams T) (q : ℕ) → q < length F → at (F ++ Y) q ≡ at F q
at-before [] Y q h = absurd (omega (arith, h))
at-before (xs ∷ F) Y zero h = refl
at-before (xs ∷ F) Y (suc q) h = at-before F Y q (omega (arith, h))

pub at-beyond : {T : Type 0} (F : Streams T) (q : ℕ) → length F ≤ q → at F q ≡ []
at-beyond [] q h = refl
at-beyond (xs ∷ F) zero h = absurd (omega (arith, h))
at-beyond (xs ∷ F) (suc q) h = at-beyond F q (omega (arith, h))

pub at-append-if : {T : Type 0} (n q : ℕ) (F Y : Streams T) → length F ≡ n → at F q ≡ tokens_in (F ++ Y) (if nat_lt q n then Some q else None)
at-append-if {T} n q F Y e = go (nat_lt q n) refl
  where
    below : nat_lt q n ≡ true → q < n
    below h = grind (arith, nat_tests, h)

    above : nat_lt q n ≡ false → n ≤ q
    above h = grind (arith, nat_tests, h)

    go : (b : Bool) → nat_lt q n ≡ b → at F q ≡ tokens_in (F ++ Y) (if b then Some q else None)
    go true h = let b = below h in sym (at-before F Y q (omega (arith, b, e)))
    go false h = let b = above h in at-beyond F q (omega (arith, b, e))

-- a place's channel is one of those of the children
pub channel-within : (ns : List ℕ) (i q c : ℕ) → channel_at ns i q ≡ Some c → c < total ns
channel-within [] i q c e = absurd (cc)
channel-within (n ∷ ns) zero q c e = go (nat_lt q n) refl e
  where
    below : nat_lt q n ≡ true → q < n
    below h = grind (arith, nat_tests, h)

    some-nat : Some q ≡ Some c → q ≡ c
    some-nat e = cc

    clash : None ≡ Some c → ⊥
    clash e = cc

    go : (b : Bool) → nat_lt q n ≡ b → (if b then Some q else None) ≡ Some c → c < n + total ns
    go true h e = let b = below h in let s = some-nat e in omega (arith, b, s)
    go false h e = absurd (clash e)
channel-within (n ∷ ns) (suc i) q c e = go (channel_at ns i q) (λ d h. channel-within ns i q d h) e
  where
    go : (o : Option ℕ) → ((d : ℕ) → o ≡ Some d → d < total ns) → further n o ≡ Some c → c < n + total ns
    go None h e = absurd (cc)
    go (Some d) h e = let b = h d refl in let s : n + d ≡ c = cc in omega (arith, b, s)

-- channels and their ends
pub place-target : (k : ℕ) (ns : List ℕ) (i q c : ℕ) → channel_at ns i q ≡ Some c → target_from k ns c ≡ Place (k + i) q
place-target k [] i q c e = absurd (cc)
place-target k (n ∷ ns) zero q c e = go (nat_lt q n) refl e
  where
    clash : None ≡ Some c → ⊥
    clash e = cc

    go : (b : Bool) → nat_lt q n ≡ b → (if b then Some q else None) ≡ Some c → target_from k (n ∷ ns) c ≡ Place (k + 0) q
    go true h e =
        let s : q ≡ c = some-same q c e in
        let a : k ≡ k + 0 = omega arith in
        subst (λ v. target_from k (n ∷ ns) v ≡ Place (k + 0) q) s (ap (λ b. if b then Place k q else target_from (suc k) ns (q - n)) h ∙ ap (λ v. Place v q) a)
    go false h e = absurd (clash e)
place-target k (n ∷ ns) (suc i) q c e = go (channel_at ns i q) (λ d h. place-target (suc k) ns i q d h) e
  where
    clash : None ≡ Some c → ⊥
    clash e = cc

    beyond : (d : ℕ) → nat_lt (n + d) n ≡ false
    beyond d = grind (arith, nat_tests)

    back : (d : ℕ) → n + d - n ≡ d
    back d = omega arith

    go : (o : Option ℕ) → ((d : ℕ) → o ≡ Some d → target_from (suc k) ns d ≡ Place (suc k + i) q) → further n o ≡ Some c → target_from k (n ∷ ns) c ≡ Place (k + suc i) q
    go None ih e = absurd (clash e)
    go (Some d) ih e =
        let s : n + d ≡ c = some-same (n + d) c e in
        let a : suc k + i ≡ k + suc i = omega arith in
        subst (λ v. target_from k (n ∷ ns) v ≡ Place (k + suc i) q) s (ap (λ b. if b then Place k (n + d) else target_from (suc k) ns (n + d - n)) (beyond d) ∙ ap (λ v. target_from (suc k) ns v) (back d) ∙ ih d refl ∙ ap (λ v. Place v q) a)

target-place : (k : ℕ) (ns : List ℕ) (c i q : ℕ) → target_from k ns c ≡ Place i q → (j : ℕ) × (i ≡ k + j) × (channel_at ns j q ≡ Some c)
target-place k [] c i q e = absurd (clash e)
  where
    clash : Outlet c ≡ Place i q → ⊥
    clash e = cc
target-place k (n ∷ ns) c i q e = go (nat_lt c n) refl e (target-place (suc k) ns (c - n) i q)
  where
    child-of : Target → ℕ
    child-of (Place a b) = a
    child-of (Outlet o) = 0

    place-of : Target → ℕ
    place-of (Place a b) = b
    place-of (Outlet o) = 0

    below : nat_lt c n ≡ false → n ≤ c
    below h = grind (arith, nat_tests, h)

    go : (b : Bool) → nat_lt c n ≡ b → (if b then Place k c else target_from (suc k) ns (c - n)) ≡ Place i q → (target_from (suc k) ns (c - n) ≡ Place i q → (j : ℕ) × (i ≡ suc k + j) × (channel_at ns j q ≡ Some (c - n))) → (j : ℕ) × (i ≡ k + j) × (channel_at (n ∷ ns) j q ≡ Some c)
    go true h e ih =
        let a : k ≡ i = ap child-of e in
        let b : c ≡ q = ap place-of e in
        let u : i ≡ k + 0 = omega (arith, a) in
        (0, u, subst (λ v. (if nat_lt v n then Some v else None) ≡ Some c) b (ap (λ w. if w then Some c else None) h))
    go false h e ih =
        let r = ih e in
        let l = below h in
        let u : i ≡ k + suc r.0 = omega (arith, r.1) in
        let v : n + (c - n) ≡ c = omega (arith, l) in
        (suc r.0, u, ap (λ o. further n o) r.2 ∙ ap (λ w. Option.Some w) v)

pub channel-place : (ns : List ℕ) (c i q : ℕ) → target_from 0 ns c ≡ Place i q → channel_at ns i q ≡ Some c
channel-place ns c i q e = let r = target-place 0 ns c i q e in let a : r.0 ≡ i = omega (arith, r.1) in subst (λ v. channel_at ns v q ≡ Some c) a r.2

pub place-channel : (ns : List ℕ) (c i q : ℕ) → channel_at ns i q ≡ Some c → target_from 0 ns c ≡ Place i q
place-channel ns c i q e = let a : 0 + i ≡ i = omega arith in place-target 0 ns i q c e ∙ ap (λ v. Place v q) a

pub count-of-channel : (ns : List ℕ) (i q c : ℕ) → channel_at ns i q ≡ Some c → q < count_at ns i
count-of-channel [] i q c e = absurd (cc)
count-of-channel (n ∷ ns) zero q c e = go (nat_lt q n) refl e
  where
    below : nat_lt q n ≡ true → q < n
    below h = grind (arith, nat_tests, h)

    clash : None ≡ Some c → ⊥
    clash e = cc

    go : (b : Bool) → nat_lt q n ≡ b → (if b then Some q else None) ≡ Some c → q < n
    go true h e = below h
    go false h e = absurd (clash e)
count-of-channel (n ∷ ns) (suc i) q c e = go (channel_at ns i q) (λ d h. count-of-channel ns i q d h) e
  where
    go : (o : Option ℕ) → ((d : ℕ) → o ≡ Some d → q < count_at ns i) → further n o ≡ Some c → q < count_at ns i
    go None ih e = absurd (cc)
    go (Some d) ih e = ih d refl

pub none-of-channel : (ns : List ℕ) (i q : ℕ) → channel_at ns i q ≡ None → count_at ns i ≤ q
none-of-channel [] i q e = omega arith
none-of-channel (n ∷ ns) zero q e = go (nat_lt q n) refl e
  where
    above : nat_lt q n ≡ false → n ≤ q
    above h = grind (arith, nat_tests, h)

    clash : Some q ≡ None → ⊥
    clash e = cc

    go : (b : Bool) → nat_lt q n ≡ b → (if b then Some q else None) ≡ None → n ≤ q
    go true h e = absurd (clash e)
    go false h e = above h
none-of-channel (n ∷ ns) (suc i) q e = go (channel_at ns i q) (λ h. none-of-channel ns i q h) e
  where
    go : (o : Option ℕ) → (o ≡ None → count_at ns i ≤ q) → further n o ≡ None → count_at ns i ≤ q
    go None ih e = ih refl
    go (Some d) ih e = absurd (cc)

-- a place that fits has its channel
pub fits-channel : {T : Type 0} (ns : List ℕ) (X : Streams T) (i q c : ℕ) → Fits ns X → channel_at ns i q ≡ Some c → c < length X
fits-channel [] X i q c w e = absurd (cc)
fits-channel (n ∷ ns) X zero q c w e = go (nat_lt q n) refl e
  where
    below : nat_lt q n ≡ true → q < n
    below h = grind (arith, nat_tests, h)

    some-nat : Some q ≡ Some c → q ≡ c
    some-nat e = cc

    clash : None ≡ Some c → ⊥
    clash e = cc

    go : (b : Bool) → nat_lt q n ≡ b → (if b then Some q else None) ≡ Some c → c < length X
    go true h e = let b = below h in let s = some-nat e in omega (arith, b, s, w.0)
    go false h e = absurd (clash e)
fits-channel {T} (n ∷ ns) X (suc i) q c w e = go (channel_at ns i q) (λ d h. fits-channel ns (drop n X) i q d w.1 h) e
  where
    go : (o : Option ℕ) → ((d : ℕ) → o ≡ Some d → d < length (drop n X)) → further n o ≡ Some c → c < length X
    go None ih e = absurd (cc)
    go (Some d) ih e = let b = ih d refl in let s : n + d ≡ c = cc in let l = length-drop n X in omega (arith, b, s, l, w.0)

-- a place that a child has is the end of its channel
channel-first : (ns : List ℕ) (i q c : ℕ) → channel_at ns i q ≡ Some c → first_channel ns i + q ≡ c
channel-first [] i q c e = absurd (cc)
channel-first (n ∷ ns) zero q c e = go (nat_lt q n) e
  where
    go : (b : Bool) → (if b then Some q else None) ≡ Some c → 0 + q ≡ c
    go true e = let s : q ≡ c = cc in omega (arith, s)
    go false e = absurd (no-channel c e)
channel-first (n ∷ ns) (suc i) q c e = go (channel_at ns i q) (λ d h. channel-first ns i q d h) e
  where
    go : (o : Option ℕ) → ((d : ℕ) → o ≡ Some d → first_channel ns i + q ≡ d) → further n o ≡ Some c → n + first_channel ns i + q ≡ c
    go None ih e = absurd (no-channel c e)
    go (Some d) ih e = let s : n + d ≡ c = cc in let g = ih d refl in omega (arith, s, g)

-- of a place that a child has the source and what is held are those of its channel
abbrev pub SamePlace : {T : Type 0} → Core T → ℕ → ℕ → Type 0
SamePlace c i q = ((closed.source_of c i q ≡ channels.source_of c i q) × (closed.held_at c i q ≡ channels.held_at c i q)) ⊎ ((channels.source_of c i q ≡ None) × (channels.held_at c i q ≡ []))

-- for a net and the tokens of its channels
in-net : {T : Type 0} (net : Net) (X : Streams T) (i q : ℕ) → ((closed.source_in net i q ≡ channels.source_in net i q) × (at X (first_channel net.places i + q) ≡ tokens_in X (channel_at net.places i q))) ⊎ ((channels.source_in net i q ≡ None) × (tokens_in X (channel_at net.places i q) ≡ []))
in-net {T} net X i q = go (channel_at net.places i q) (λ c e. channel-first net.places i q c e)
  where
    go : (o : Option ℕ) → ((c : ℕ) → o ≡ Some c → first_channel net.places i + q ≡ c) →
        ((get net.sources (first_channel net.places i + q) ≡ closed.if_there (get net.sources) o) × (at X (first_channel net.places i + q) ≡ tokens_in X o)) ⊎ ((closed.if_there (get net.sources) o ≡ None) × (tokens_in X o ≡ []))
    go None f = inr (refl, refl)
    go (Some c) f = let s = f c refl in inl (ap (λ v. get net.sources v) s, ap (λ v. at X v) s)

pub same-place : {T : Type 0} (c : Core T) (i q : ℕ) → SamePlace c i q
same-place (Sdf p X) i q = in-net p.net X i q
same-place (Pn p X) i q = in-net p.net X i q
same-place {T} (Sr p) i q = of_net (in-net {T = T} p.net [] i q)
  where
    of_net : ((closed.source_in p.net i q ≡ channels.source_in p.net i q) × (◌≡◌ {A = List T} (at [] (first_channel p.net.places i + q)) (tokens_in [] (channel_at p.net.places i q)))) ⊎ ((channels.source_in p.net i q ≡ None) × (◌≡◌ {A = List T} (tokens_in [] (channel_at p.net.places i q)) [])) → SamePlace {T = T} (Sr p) i q
    of_net (inl h) = inl (h.0, refl)
    of_net (inr h) = inr (h.0, refl)
same-place {T} (De p) i q = of_net (in-net {T = T} p.net [] i q)
  where
    of_net : ((closed.source_in p.net i q ≡ channels.source_in p.net i q) × (◌≡◌ {A = List T} (at [] (first_channel p.net.places i + q)) (tokens_in [] (channel_at p.net.places i q)))) ⊎ ((channels.source_in p.net i q ≡ None) × (◌≡◌ {A = List T} (tokens_in [] (channel_at p.net.places i q)) [])) → SamePlace {T = T} (De p) i q
    of_net (inl h) = inl (h.0, refl)
    of_net (inr h) = inr (h.0, refl)
same-place {T} (Rv p X) i q = of_net (in-net {T = T} p.net [] i q)
  where
    of_net : ((closed.source_in p.net i q ≡ channels.source_in p.net i q) × (◌≡◌ {A = List T} (at [] (first_channel p.net.places i + q)) (tokens_in [] (channel_at p.net.places i q)))) ⊎ ((channels.source_in p.net i q ≡ None) × (◌≡◌ {A = List T} (tokens_in [] (channel_at p.net.places i q)) [])) → SamePlace {T = T} (Rv p X) i q
    of_net (inl h) = inl (h.0, refl)
    of_net (inr h) = inr (h.0, refl)
same-place (Modal chart m) i q = inl (refl, refl)

-- where nothing is kept, nothing is held or on a place
pub none-kept : {T : Type 0} (c : Core T) → keeps_tokens c ≡ false → (i q : ℕ) → (channels.held_at c i q ≡ []) × (on_place c i q ≡ [])
none-kept (Sdf p X) e i q = absurd (cc)
none-kept (Pn p X) e i q = absurd (cc)
none-kept (Sr p) e i q = (refl, refl)
none-kept (De p) e i q = (refl, refl)
none-kept (Rv p X) e i q = absurd (cc)
none-kept (Modal chart m) e i q = (refl, refl)
