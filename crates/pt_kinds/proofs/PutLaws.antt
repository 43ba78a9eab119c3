-- Puts of processes, and lists that are changed at a place.
use Rattle.std.proofs.Common.{◌≡◌, ◌⊎◌, ℕ, zero, suc, ◌+◌, ◌≤◌, List, [], ◌∷◌, ◌++◌, Bool, true, false, ◌&&◌, nat_eq, length, drop, Some, None, if◌then◌else◌, inl, inr, refl, sym, ap, arith, ◌∙◌}
use Rattle.std.proofs.lemmas.Bool.Decides.{nat_tests}
use Rattle.pt_meaning.specs.Basics.{Streams, at}
use Rattle.pt_meaning.specs.Streams.{get, change_at}
use Rattle.pt_meaning.specs.Net.{Source, Own, Output}
use Rattle.pt_meaning.specs.Kahn.{skip_places}
use Rattle.pt_meaning.specs.Process.{Put, is_source, listed_if, channels_from, to_each, puts_of_port, puts_of, emptied, rest_of}
use Rattle.pt_meaning.specs.Meetings.{first_on}
use Rattle.pt_meaning.specs.Rendezvous.{outlets}
use Rattle.pt_meaning.specs.Closed.{Has}
use Rattle.pt_laws.specs.SoundRuns.{got_by}
use Rattle.pt_kinds.proofs.MemberLaws.{has-append}

-- ---- lists that are changed at a place

pub change-length : {A : Type 0} (i : ℕ) (f : A → A) (xs : List A) → length (change_at i f xs) ≡ length xs
change-length i f [] = refl
change-length zero f (x ∷ xs) = refl
change-length (suc i) f (x ∷ xs) = ap (λ n. suc n) (change-length i f xs)

pub in-rest : {A : Type 0} (x : A) (xs : List A) → Has x (rest_of xs) → Has x xs
in-rest x [] h = h
in-rest x (y ∷ xs) h = inr h

pub in-rests : {A : Type 0} (i r : ℕ) (X : List (List A)) (x : A) → Has x (at (change_at i rest_of X) r) → Has x (at X r)
in-rests i r [] x h = h
in-rests zero zero (xs ∷ X) x h = in-rest x xs h
in-rests zero (suc r) (xs ∷ X) x h = h
in-rests (suc i) zero (xs ∷ X) x h = h
in-rests (suc i) (suc r) (xs ∷ X) x h = in-rests i r X x h

pub in-added : {T : Type 0} (q r : ℕ) (x y : T) (X : Streams T) → Has y (at (change_at q (λ xs. xs ++ (x ∷ [])) X) r) → Has y (at X r) ⊎ ((r ≡ q) × (y ≡ x))
in-added q r x y [] h = inl h
in-added {T} zero zero x y (xs ∷ X) h = go (has-append y xs (x ∷ []) h)
  where
    go : Has y xs ⊎ Has y (x ∷ []) → Has y xs ⊎ ((zero ≡ zero) × (y ≡ x))
    go (inl k) = inl k
    go (inr (inl e)) = inr (refl, e)
    go (inr (inr k)) = absurd k
in-added zero (suc r) x y (xs ∷ X) h = inl h
in-added (suc q) zero x y (xs ∷ X) h = inl h
in-added {T} (suc q) (suc r) x y (xs ∷ X) h = go (in-added q r x y X h)
  where
    go : Has y (at X r) ⊎ ((r ≡ q) × (y ≡ x)) → Has y (at X r) ⊎ ((suc r ≡ suc q) × (y ≡ x))
    go (inl k) = inl k
    go (inr k) = inr (ap (λ n. suc n) k.0, k.1)

pub emptied-length : {T : Type 0} (X : Streams T) → length (emptied X) ≡ length X
emptied-length [] = refl
emptied-length (xs ∷ X) = ap (λ n. suc n) (emptied-length X)

pub none-emptied : {T : Type 0} (X : Streams T) (q : ℕ) (x : T) → Has x (at (emptied X) q) → ⊥
none-emptied [] q x h = h
none-emptied (xs ∷ X) zero x h = h
none-emptied (xs ∷ X) (suc q) x h = none-emptied X q x h

pub got-beyond : {T : Type 0} (Xs : List (Streams T)) (i : ℕ) → length Xs ≤ i → got_by Xs i ≡ []
got-beyond [] i h = refl
got-beyond (X ∷ Xs) zero h = absurd (omega (arith, h))
got-beyond (X ∷ Xs) (suc i) h = got-beyond Xs i (omega (arith, h))

pub no-outlets : {T : Type 0} (ns : List ℕ) (cs : List Source) (o : ℕ) (x : T) → Has x (at (outlets ns cs) o) → ⊥
no-outlets [] [] o x h = h
no-outlets [] (c ∷ cs) zero x h = h
no-outlets [] (c ∷ cs) (suc o) x h = no-outlets [] cs o x h
no-outlets (n ∷ ns) cs o x h = no-outlets ns (drop n cs) o x h

pub outlets-length : (T : Type 0) (ns : List ℕ) (cs : List Source) → length (outlets {T = T} ns cs) ≡ length (skip_places ns cs)
outlets-length T [] [] = refl
outlets-length T [] (c ∷ cs) = ap (λ n. suc n) (outlets-length T [] cs)
outlets-length T (n ∷ ns) cs = outlets-length T ns (drop n cs)

-- ---- puts

same-nat : (a b : ℕ) → nat_eq a b ≡ true → a ≡ b
same-nat a b e = grind (arith, nat_tests, e)

both-true : (a b : Bool) → (a && b) ≡ true → (a ≡ true) × (b ≡ true)
both-true true b e = (refl, e)
both-true false b e = absurd (let z : false ≡ true = e in cc)

same-source : (s d : Source) → is_source s d ≡ true → d ≡ s
same-source (Own i) (Own j) e = ap (λ n. Own n) (sym (same-nat i j e))
same-source (Own i) (Output j q) e = absurd (let z : false ≡ true = e in cc)
same-source (Output i p) (Own j) e = absurd (let z : false ≡ true = e in cc)
same-source (Output i p) (Output j q) e =
    let w = both-true (nat_eq i j) (nat_eq p q) e in
    ap (λ n. Output n q) (sym (same-nat i j w.0)) ∙ ap (λ n. Output i n) (sym (same-nat p q w.1))

in-channels : (c d : ℕ) (s : Source) (ds : List Source) → Has d (channels_from c s ds) → (n : ℕ) × (d ≡ c + n) × (get ds n ≡ Some s)
in-channels c d s [] h = absurd h
in-channels c d s (e ∷ ds) h = go (is_source s e) refl h (λ k. in-channels (suc c) d s ds k)
  where
    later : (n : ℕ) × (d ≡ suc c + n) × (get ds n ≡ Some s) → (n : ℕ) × (d ≡ c + n) × (get (e ∷ ds) n ≡ Some s)
    later r = (suc r.0, omega (arith, r.1), r.2)

    go : (b : Bool) → is_source s e ≡ b → Has d (listed_if b c (channels_from (suc c) s ds)) → (Has d (channels_from (suc c) s ds) → (n : ℕ) × (d ≡ suc c + n) × (get ds n ≡ Some s)) → (n : ℕ) × (d ≡ c + n) × (get (e ∷ ds) n ≡ Some s)
    go true f (inl k) rest = (0, omega (arith, k), ap (λ v. Some v) (same-source s e f))
    go true f (inr k) rest = later (rest k)
    go false f k rest = later (rest k)

in-each : {T : Type 0} (u : Put T) (x : T) (cs : List ℕ) → Has u (to_each x cs) → Has u.channel cs × (u.token ≡ x)
in-each u x [] h = absurd h
in-each {T} u x (c ∷ cs) (inl e) = (inl (ap (λ (v : Put T). v.channel) e), ap (λ (v : Put T). v.token) e)
in-each u x (c ∷ cs) (inr h) = let w = in-each u x cs h in (inr w.0, w.1)

in-port : {T : Type 0} (u : Put T) (cs : List ℕ) (xs : List T) → Has u (puts_of_port cs xs) → Has u.channel cs × Has u.token xs
in-port u cs [] h = absurd h
in-port {T} u cs (x ∷ xs) h = go (has-append u (to_each x cs) (puts_of_port cs xs) h) (λ k. in-port u cs xs k)
  where
    go : Has u (to_each x cs) ⊎ Has u (puts_of_port cs xs) → (Has u (puts_of_port cs xs) → Has u.channel cs × Has u.token xs) → Has u.channel cs × Has u.token (x ∷ xs)
    go (inl k) rest = let w = in-each u x cs k in (w.0, inl w.1)
    go (inr k) rest = let w = rest k in (w.0, inr w.1)

-- a put on a channel that begins at the source
pub from-source : {T : Type 0} (sources : List Source) (s : Source) (u : Put T) (xs : List T) → Has u (puts_of_port (channels_from 0 s sources) xs) → (get sources u.channel ≡ Some s) × Has u.token xs
from-source sources s u xs h =
    let w = in-port u (channels_from 0 s sources) xs h in
    let c = in-channels 0 u.channel s sources w.0 in
    (ap (λ n. get sources n) (let e : u.channel ≡ c.0 = omega (arith, c.1) in e) ∙ c.2, w.1)

pub in-firing : {T : Type 0} (sources : List Source) (i p : ℕ) (X : Streams T) (u : Put T) → Has u (puts_of sources i p X) → (d : ℕ) × (get sources u.channel ≡ Some (Output i (p + d))) × Has u.token (at X d)
in-firing sources i p [] u h = absurd h
in-firing {T} sources i p (xs ∷ X) u h = go (has-append u (puts_of_port (channels_from 0 (Output i p) sources) xs) (puts_of sources i (suc p) X) h) (λ k. in-firing sources i (suc p) X u k)
  where
    go : Has u (puts_of_port (channels_from 0 (Output i p) sources) xs) ⊎ Has u (puts_of sources i (suc p) X) → (Has u (puts_of sources i (suc p) X) → (d : ℕ) × (get sources u.channel ≡ Some (Output i (suc p + d))) × Has u.token (at X d)) →
        (d : ℕ) × (get sources u.channel ≡ Some (Output i (p + d))) × Has u.token (at (xs ∷ X) d)
    go (inl k) rest =
        let w = from-source sources (Output i p) u xs k in
        let e : p ≡ p + 0 = omega arith in
        (0, w.0 ∙ ap (λ n. Some (Output i n)) e, w.1)
    go (inr k) rest =
        let w = rest k in
        let e : suc p + w.0 ≡ p + suc w.0 = omega arith in
        (suc w.0, w.1 ∙ ap (λ n. Some (Output i n)) e, w.2)

-- the first put, where it is on the channel
pub on-channel : {T : Type 0} (c : ℕ) (us : List (Put T)) (x : T) → first_on c us ≡ Some x → (u : Put T) × Has u us × (u.channel ≡ c) × (u.token ≡ x)
on-channel c [] x e = absurd (cc)
on-channel {T} c (u ∷ us) x e = go (nat_eq u.channel c) refl e
  where
    go : (b : Bool) → nat_eq u.channel c ≡ b → (if b then Some u.token else None) ≡ Some x → (v : Put T) × Has v (u ∷ us) × (v.channel ≡ c) × (v.token ≡ x)
    go true f e = (u, inl refl, same-nat u.channel c f, (let s : u.token ≡ x = cc in s))
    go false f e = absurd (let z : None ≡ Some x = e in cc)
