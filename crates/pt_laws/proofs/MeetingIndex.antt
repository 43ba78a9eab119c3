-- A Rendezvous firing by index.
use Rattle.std.proofs.Common.{◌≡◌, ℕ, zero, suc, ◌≤◌, ◌<◌, ◌+◌, ◌-◌, List, [], ◌∷◌, ◌++◌, Bool, true, false, ◌&&◌, ◌||◌, nat_eq, nat_lt, length, take, Option, Some, None, if◌then◌else◌, get_or, refl, sym, ap, ap₂, subst, arith, ◌∙◌}
use Rattle.std.proofs.lemmas.Bool.Decides.{nat_tests}
use Rattle.pt_meaning.specs.Basics.{Tag, Streams, at, Meeting, Channel, Barrier, silent}
use Rattle.pt_meaning.specs.Machine.{Counts, Stepping, Facts}
use Rattle.pt_meaning.specs.Rounds.{Source, Own, Output, Net}
use Rattle.pt_meaning.specs.Modal.{get, change_at}
use Rattle.pt_meaning.specs.Process.{Put, Well, Party, Fires, Gets, Joins, lacking, if_lacking, by_need, next_event, is_source, listed_if, channels_from, puts_of_port, advance, due_puts, next_at, is_joining, at_rest, all_rest, rest_of, with_put_made, with_token}
use Rattle.pt_meaning.specs.Meetings.{Scene, puts_at, waiting, first_on, offer, offers, all_there, Target, Place, Outlet, target_from, Hop, hops, hops_of_child, hops_in, is_received, is_legal, any_legal_channel, any_legal_barrier, sent, received, passed}
use Rattle.pt_meaning.specs.Rendezvous.{arriving, seated}
use Rattle.pt_meaning.specs.Running.{total}
use Rattle.pt_meaning.specs.AnyOrder.{fire_at}
use Rattle.pt_laws.specs.MeetingRuns.{ChangesAre, TargetsAre, NextIs, LegalIs, MeetIs, FiresAre, StartsAre}
use Rattle.pt_laws.proofs.KahnLaws.{and-left}

-- lists
pub some-same : {A : Type 0} (x y : A) → Some x ≡ Some y → x ≡ y
some-same x y e = cc

change-here : {A : Type 0} (j : ℕ) (f : A → A) (xs : List A) (x : A) → get xs j ≡ Some x → get (change_at j f xs) j ≡ Some (f x)
change-here j f [] x e = absurd (cc)
change-here zero f (y ∷ xs) x e = ap (λ v. Option.Some (f v)) (some-same y x e)
change-here (suc j) f (y ∷ xs) x e = change-here j f xs x e

nat-down : (i j : ℕ) → nat_eq (suc i) (suc j) ≡ false → nat_eq i j ≡ false
nat-down i j e = grind (arith, nat_tests, e)

nat-self : nat_eq 0 0 ≡ false → ⊥
nat-self e = cc

change-others : {A : Type 0} (i j : ℕ) (f : A → A) (xs : List A) → nat_eq i j ≡ false → get (change_at j f xs) i ≡ get xs i
change-others i j f [] e = refl
change-others zero zero f (x ∷ xs) e = absurd (nat-self e)
change-others (suc i) zero f (x ∷ xs) e = refl
change-others zero (suc j) f (x ∷ xs) e = refl
change-others (suc i) (suc j) f (x ∷ xs) e = change-others i j f xs (nat-down i j e)

change-long : {A : Type 0} (j : ℕ) (f : A → A) (xs : List A) → length (change_at j f xs) ≡ length xs
change-long j f [] = refl
change-long zero f (x ∷ xs) = refl
change-long (suc j) f (x ∷ xs) = ap (λ n. suc n) (change-long j f xs)

pub changes-are : {A : Type 0} → ChangesAre A
changes-are = record { here = change-here; others = change-others; same_length = change-long }

-- channels and their ends
lt-true : (a b : ℕ) → a < b → nat_lt a b ≡ true
lt-true a b h = grind (arith, nat_tests)

lt-false : (a b : ℕ) → b ≤ a → nat_lt a b ≡ false
lt-false a b h = grind (arith, nat_tests)

target-from : (k : ℕ) (ns : List ℕ) (i q : ℕ) → i < length ns → q < get_or ns i 0 → target_from k ns (total (take i ns) + q) ≡ Place (k + i) q
target-from k [] i q l m = absurd (omega arith)
target-from k (n ∷ ns) zero q l m =
    let a : 0 + q ≡ q = omega arith in
    let b : k + 0 ≡ k = omega arith in
    ap (λ v. target_from k (n ∷ ns) v) a ∙ ap (λ v. if v then Place k q else target_from (suc k) ns (q - n)) (lt-true q n m) ∙ ap (λ v. Place v q) (sym b)
target-from k (n ∷ ns) (suc i) q l m =
    let c : ℕ = n + total (take i ns) + q in
    let a : c - n ≡ total (take i ns) + q = omega arith in
    let b : suc k + i ≡ k + suc i = omega arith in
    ap (λ v. if v then Place k c else target_from (suc k) ns (c - n)) (lt-false c n (omega arith)) ∙ ap (λ v. target_from (suc k) ns v) a ∙ target-from (suc k) ns i q (omega arith) m ∙ ap (λ v. Place v q) b

target-beyond : (k : ℕ) (ns : List ℕ) (o : ℕ) → target_from k ns (total ns + o) ≡ Outlet o
target-beyond k [] o = let a : 0 + o ≡ o = omega arith in ap (λ v. Outlet v) a
target-beyond k (n ∷ ns) o =
    let c : ℕ = n + total ns + o in
    let a : c - n ≡ total ns + o = omega arith in
    ap (λ v. if v then Place k c else target_from (suc k) ns (c - n)) (lt-false c n (omega arith)) ∙ ap (λ v. target_from (suc k) ns v) a ∙ target-beyond (suc k) ns o

hop-at : (b c p n q : ℕ) → q < n → get (hops b c p n) q ≡ Some (record { channel = c + q; target = Place b (p + q) })
hop-at b c p zero q l = absurd (omega arith)
hop-at b c p (suc n) zero l =
    let x : c ≡ c + 0 = omega arith in let y : p ≡ p + 0 = omega arith in ap₂ (λ (u v : ℕ). let h : Hop = record { channel = u; target = Place b v } in Option.Some h) x y
hop-at b c p (suc n) (suc q) l =
    let x : suc c + q ≡ c + suc q = omega arith in let y : suc p + q ≡ p + suc q = omega arith in hop-at b (suc c) (suc p) n q (omega arith) ∙ ap₂ (λ (u v : ℕ). let h : Hop = record { channel = u; target = Place b v } in Option.Some h) x y

hops-long : (b c p n : ℕ) → length (hops b c p n) ≡ n
hops-long b c p zero = refl
hops-long b c p (suc n) = ap (λ v. suc v) (hops-long b (suc c) (suc p) n)

child-hops : (b c : ℕ) (ns : List ℕ) (i : ℕ) → i < length ns → hops_of_child b c ns i ≡ hops b (c + total (take i ns)) 0 (get_or ns i 0)
child-hops b c [] i l = absurd (omega arith)
child-hops b c (n ∷ ns) zero l = let a : c ≡ c + 0 = omega arith in ap (λ v. hops b v 0 n) a
child-hops b c (n ∷ ns) (suc i) l = let a : c + n + total (take i ns) ≡ c + (n + total (take i ns)) = omega arith in child-hops b (c + n) ns i (omega arith) ∙ ap (λ v. hops b v 0 (get_or ns i 0)) a

barrier-hops : (net : Net) (b : ℕ) → b < length net.places → hops_in net (Barrier b) ≡ hops b (total (take b net.places)) 0 (get_or net.places b 0)
barrier-hops net b l = let a : 0 + total (take b net.places) ≡ total (take b net.places) = omega arith in child-hops b 0 net.places b l ∙ ap (λ v. hops b v 0 (get_or net.places b 0)) a

place-target : (ns : List ℕ) (i q : ℕ) → i < length ns → q < get_or ns i 0 → target_from 0 ns (total (take i ns) + q) ≡ Place i q
place-target ns i q l m = let a : 0 + i ≡ i = omega arith in target-from 0 ns i q l m ∙ ap (λ v. Place v q) a

hop-of : (net : Net) (b q : ℕ) → b < length net.places → q < get_or net.places b 0 → get (hops_in net (Barrier b)) q ≡ Some (record { channel = total (take b net.places) + q; target = Place b q })
hop-of net b q l m =
    let a : 0 + q ≡ q = omega arith in
    ap (λ v. get v q) (barrier-hops net b l) ∙ hop-at b (total (take b net.places)) 0 (get_or net.places b 0) q m ∙ ap (λ (v : ℕ). let h : Hop = record { channel = total (take b net.places) + q; target = Place b v } in Option.Some h) a

hops-count : (net : Net) (b : ℕ) → b < length net.places → length (hops_in net (Barrier b)) ≡ get_or net.places b 0
hops-count net b l = ap (λ v. length v) (barrier-hops net b l) ∙ hops-long b (total (take b net.places)) 0 (get_or net.places b 0)

pub targets-are : TargetsAre
targets-are = record { places = place-target; outlets = target-beyond 0; hops = hop-of; how_many = hops-count }

-- what a process does next
next-of : {T S : Type 0} (facts : Facts T S) (ps : List (Party T S)) (i : ℕ) (p : Party T S) → get ps i ≡ Some p → next_at facts ps i ≡ next_event facts p
next-of facts [] i p e = absurd (cc)
next-of facts (x ∷ ps) zero p e = ap (λ v. next_event facts v) (some-same x p e)
next-of facts (x ∷ ps) (suc i) p e = next-of facts ps i p e

due-of : {T S : Type 0} (ps : List (Party T S)) (i : ℕ) (p : Party T S) → get ps i ≡ Some p → puts_at ps i ≡ due_puts p.mood p.puts
due-of [] i p e = absurd (cc)
due-of {T} {S} (x ∷ ps) zero p e = ap (λ (v : Party T S). due_puts v.mood v.puts) (some-same x p e)
due-of (x ∷ ps) (suc i) p e = due-of ps i p e

lacking-none : {T : Type 0} (k : ℕ) (ns : List ℕ) (X : Streams T) → ((q : ℕ) → q < length ns → get_or ns q 0 ≤ length (at X q)) → lacking k ns X ≡ None
lacking-none k [] X h = refl
lacking-none k (n ∷ ns) [] h = refl
lacking-none k (n ∷ ns) (xs ∷ X) h = rw (lt-false (length xs) n (h 0 (omega arith))) (lacking-none (suc k) ns X (λ q l. h (suc q) (omega (arith, l))))

lacking-at : {T : Type 0} (k : ℕ) (ns : List ℕ) (X : Streams T) (q : ℕ) → q < length ns → q < length X → length (at X q) < get_or ns q 0 → ((r : ℕ) → r < q → get_or ns r 0 ≤ length (at X r)) → lacking k ns X ≡ Some (k + q)
lacking-at k [] X q a b l h = absurd (omega arith)
lacking-at k (n ∷ ns) [] q a b l h = absurd (omega arith)
lacking-at k (n ∷ ns) (xs ∷ X) zero a b l h = let e : k ≡ k + 0 = omega arith in rw (lt-true (length xs) n l) (ap (λ v. Option.Some v) e)
lacking-at k (n ∷ ns) (xs ∷ X) (suc q) a b l h =
    let e : suc k + q ≡ k + suc q = omega arith in rw (lt-false (length xs) n (h 0 (omega arith))) (lacking-at (suc k) ns X q (omega arith) (omega arith) l (λ r m. h (suc r) (omega (arith, m))) ∙ ap (λ v. Option.Some v) e)

lacks-first : {T : Type 0} (ns : List ℕ) (X : Streams T) (q : ℕ) → q < length ns → q < length X → length (at X q) < get_or ns q 0 → ((r : ℕ) → r < q → get_or ns r 0 ≤ length (at X r)) → (by_need false (Counts ns) X ≡ Gets q) × (by_need true (Counts ns) X ≡ Joins)
lacks-first ns X q a b l h = let e : 0 + q ≡ q = omega arith in let w = lacking-at 0 ns X q a b l h in (ap (λ v. if_lacking false v) w ∙ ap (λ v. Gets v) e, ap (λ v. if_lacking true v) w)

enough-fires : {T : Type 0} (barrier : Bool) (ns : List ℕ) (X : Streams T) → ((q : ℕ) → q < length ns → get_or ns q 0 ≤ length (at X q)) → by_need barrier (Counts ns) X ≡ Fires
enough-fires barrier ns X h = rw (lacking-none 0 ns X h) refl

pub next-is : {T S : Type 0} → NextIs T S
next-is = record { of_party = next-of; due_of = due-of; enough = enough-fires; lacks = lacks-first }

-- which meetings are legal
and-false : (a : Bool) → (a && false) ≡ false
and-false true = refl
and-false false = refl

and-both : (a b : Bool) → a ≡ true → b ≡ true → (a && b) ≡ true
and-both a b p q = rw (p, q) refl

or-right : (a b : Bool) → b ≡ true → (a || b) ≡ true
or-right true b e = refl
or-right false b e = e

or-left : (a b : Bool) → a ≡ true → (a || b) ≡ true
or-left a b e = rw e refl

or-none : (a b : Bool) → a ≡ false → b ≡ false → (a || b) ≡ false
or-none a b p q = rw (p, q) refl

module _ {T S : Type 0} (net : Net) (sc : Scene T S) where
  first-there : (o : Option T) (xs : List (Option T)) → (x : T) → o ≡ Some x → all_there xs ≡ true → all_there (o ∷ xs) ≡ true
  first-there o xs x e h = rw e h

  all-offers : (b c p n : ℕ) → ((q : ℕ) → q < n → (x : T) × (offer net sc (c + q) ≡ Some x)) → all_there (offers net sc (hops b c p n)) ≡ true
  all-offers b c p zero h = refl
  all-offers b c p (suc n) h =
      let w = h 0 (omega arith) in
      let a : c ≡ c + 0 = omega arith in
      first-there (offer net sc c) (offers net sc (hops b (suc c) (suc p) n)) w.0 (ap (λ v. offer net sc v) a ∙ w.1)
      (all-offers b (suc c) (suc p) n (λ q l. let r = h (suc q) (omega (arith, l)) in let e : suc c + q ≡ c + suc q = omega arith in (r.0, ap (λ v. offer net sc v) e ∙ r.1)))

  missing : (o : Option T) (xs : List (Option T)) → all_there xs ≡ false → all_there (o ∷ xs) ≡ false
  missing None xs h = refl
  missing (Some x) xs h = h

  missing-offer : (b c p n q : ℕ) → q < n → offer net sc (c + q) ≡ None → all_there (offers net sc (hops b c p n)) ≡ false
  missing-offer b c p zero q l e = absurd (omega arith)
  missing-offer b c p (suc n) zero l e = let a : c ≡ c + 0 = omega arith in rw (ap (λ v. offer net sc v) a ∙ e) refl
  missing-offer b c p (suc n) (suc q) l e = let a : suc c + q ≡ c + suc q = omega arith in missing (offer net sc c) (offers net sc (hops b (suc c) (suc p) n)) (missing-offer b (suc c) (suc p) n q (omega arith) (ap (λ v. offer net sc v) a ∙ e))

  module _ (facts : Facts T S) where
    barrier-legal : (b : ℕ) → b < length net.places → ((q : ℕ) → q < get_or net.places b 0 → (x : T) × (offer net sc (total (take b net.places) + q) ≡ Some x)) → is_joining (next_at facts sc.parties b) ≡ true → is_legal facts net sc (Barrier b) ≡ true
    barrier-legal b l h j = and-both _ _ (ap (λ hs. all_there (offers net sc hs)) (barrier-hops net b l) ∙ all-offers b (total (take b net.places)) 0 (get_or net.places b 0) h) j

    barrier-missing : (b q : ℕ) → b < length net.places → q < get_or net.places b 0 → offer net sc (total (take b net.places) + q) ≡ None → is_legal facts net sc (Barrier b) ≡ false
    barrier-missing b q l m e = rw (ap (λ hs. all_there (offers net sc hs)) (barrier-hops net b l) ∙ missing-offer b (total (take b net.places)) 0 (get_or net.places b 0) q m e) refl

    none-channel : (c : ℕ) (ds : List Source) → ((i : ℕ) → i < length ds → is_legal facts net sc (Channel (c + i)) ≡ false) → any_legal_channel facts net sc c ds ≡ false
    none-channel c [] h = refl
    none-channel c (d ∷ ds) h =
        let a : c ≡ c + 0 = omega arith in
        or-none _ _ (ap (λ v. is_legal facts net sc (Channel v)) a ∙ h 0 (omega arith)) (none-channel (suc c) ds (λ i l. let e : suc c + i ≡ c + suc i = omega arith in ap (λ v. is_legal facts net sc (Channel v)) e ∙ h (suc i) (omega (arith, l))))

    none-barrier : (b : ℕ) (ps : List (Party T S)) → ((i : ℕ) → i < length ps → is_legal facts net sc (Barrier (b + i)) ≡ false) → any_legal_barrier facts net sc b ps ≡ false
    none-barrier b [] h = refl
    none-barrier b (p ∷ ps) h =
        let a : b ≡ b + 0 = omega arith in
        or-none _ _ (ap (λ v. is_legal facts net sc (Barrier v)) a ∙ h 0 (omega arith)) (none-barrier (suc b) ps (λ i l. let e : suc b + i ≡ b + suc i = omega arith in ap (λ v. is_legal facts net sc (Barrier v)) e ∙ h (suc i) (omega (arith, l))))

    some-channel : (c : ℕ) (ds : List Source) (i : ℕ) → i < length ds → is_legal facts net sc (Channel (c + i)) ≡ true → any_legal_channel facts net sc c ds ≡ true
    some-channel c [] i l e = absurd (omega arith)
    some-channel c (d ∷ ds) zero l e = let a : c ≡ c + 0 = omega arith in or-left _ _ (ap (λ v. is_legal facts net sc (Channel v)) a ∙ e)
    some-channel c (d ∷ ds) (suc i) l e = let a : suc c + i ≡ c + suc i = omega arith in or-right _ _ (some-channel (suc c) ds i (omega arith) (ap (λ v. is_legal facts net sc (Channel v)) a ∙ e))

    some-barrier : (b : ℕ) (ps : List (Party T S)) (i : ℕ) → i < length ps → is_legal facts net sc (Barrier (b + i)) ≡ true → any_legal_barrier facts net sc b ps ≡ true
    some-barrier b [] i l e = absurd (omega arith)
    some-barrier b (p ∷ ps) zero l e = let a : b ≡ b + 0 = omega arith in or-left _ _ (ap (λ v. is_legal facts net sc (Barrier v)) a ∙ e)
    some-barrier b (p ∷ ps) (suc i) l e = let a : suc b + i ≡ b + suc i = omega arith in or-right _ _ (some-barrier (suc b) ps i (omega arith) (ap (λ v. is_legal facts net sc (Barrier v)) a ∙ e))

zero-plus : (i : ℕ) → 0 + i ≡ i
zero-plus i = omega arith

rest-by : {T S : Type 0} (facts : Facts T S) (ps : List (Party T S)) → ((i : ℕ) (p : Party T S) → get ps i ≡ Some p → at_rest (next_event facts p) ≡ true) → all_rest facts ps ≡ true
rest-by facts [] h = refl
rest-by facts (p ∷ ps) h = and-both _ _ (h 0 p refl) (rest-by facts ps (λ i q e. h (suc i) q e))

unreceived : {T S : Type 0} (facts : Facts T S) (net : Net) (sc : Scene T S) (m : Meeting) → is_received facts net sc.parties m ≡ false → is_legal facts net sc m ≡ false
unreceived facts net sc m e = ap (λ v. all_there (offers net sc (hops_in net m)) && v) e ∙ and-false (all_there (offers net sc (hops_in net m)))

pub legal-is : {T S : Type 0} → LegalIs T S
legal-is = record {
  channel = λ facts net sc c x e r. rw (e, r) refl;
  no_offer = λ facts net sc c e. rw e refl;
  not_received = λ facts net sc c r. unreceived facts net sc (Channel c) r;
  barrier = λ facts net sc b l h j. barrier-legal net sc facts b l h j;
  one_missing = λ facts net sc b q l m e. barrier-missing net sc facts b q l m e;
  not_joining = λ facts net sc b e. unreceived facts net sc (Barrier b) e;
  none = λ facts net sc h g.
      or-none _ _ (none-channel net sc facts 0 net.sources (λ i l. ap (λ v. is_legal facts net sc (Channel v)) (zero-plus i) ∙ h i l)) (none-barrier net sc facts 0 sc.parties (λ i l. ap (λ v. is_legal facts net sc (Barrier v)) (zero-plus i) ∙ g i l));
  some_channel = λ facts net sc c l e. or-left _ _ (some-channel net sc facts 0 net.sources c l (ap (λ v. is_legal facts net sc (Channel v)) (zero-plus c) ∙ e));
  some_barrier = λ facts net sc b l e. or-right _ _ (some-barrier net sc facts 0 sc.parties b l (ap (λ v. is_legal facts net sc (Barrier v)) (zero-plus b) ∙ e));
  all_at_rest = rest-by;
}

-- what a meeting does, token by token
passes-one : {T S : Type 0} (net : Net) (hs : List Hop) (xs : List (Option T)) (sc : Scene T S) (q : ℕ) (h : Hop) (x : T) → all_there xs ≡ true → get hs q ≡ Some h → get xs q ≡ Some (Some x) →
    passed net (take (suc q) hs) (take (suc q) xs) sc ≡ received x h.target (sent (get net.sources h.channel) (passed net (take q hs) (take q xs) sc))
passes-one net [] xs sc q h x a e f = absurd (cc)
passes-one net (y ∷ hs) [] sc q h x a e f = absurd (cc)
passes-one net (y ∷ hs) (None ∷ xs) sc q h x a e f = absurd (cc)
passes-one {T} {S} net (y ∷ hs) (Some z ∷ xs) sc zero h x a e f = ap₂ (λ (u : Hop) (v : T). received v u.target (sent (get net.sources u.channel) sc)) (some-same y h e) (some-same z x (some-same (Some z) (Some x) f))
passes-one net (y ∷ hs) (Some z ∷ xs) sc (suc q) h x a e f = passes-one net hs xs (received z y.target (sent (get net.sources y.channel) sc)) q h x a e f

-- the puts of a process that gets a token stay
token-puts : {T S : Type 0} (q : ℕ) (x : T) (j i : ℕ) (ps : List (Party T S)) → puts_at (change_at j (with_token q x) ps) i ≡ puts_at ps i
token-puts q x j i [] = refl
token-puts q x zero zero (p ∷ ps) = refl
token-puts q x zero (suc i) (p ∷ ps) = refl
token-puts q x (suc j) zero (p ∷ ps) = refl
token-puts q x (suc j) (suc i) (p ∷ ps) = token-puts q x j i ps

received-waiting : {T S : Type 0} (x : T) (t : Target) (sc : Scene T S) (o : Option Source) → waiting (received x t sc) o ≡ waiting sc o
received-waiting x (Place i q) sc None = refl
received-waiting x (Place i q) sc (Some (Own j)) = refl
received-waiting x (Place i q) sc (Some (Output k p)) = token-puts q x i k sc.parties
received-waiting x (Outlet o) sc None = refl
received-waiting x (Outlet o) sc (Some (Own j)) = refl
received-waiting x (Outlet o) sc (Some (Output k p)) = refl

-- what is first on two channels is on both
first-channel : {T : Type 0} (c : ℕ) (us : List (Put T)) (x : T) → first_on c us ≡ Some x → (u : Put T) × (rest : List (Put T)) × (us ≡ u ∷ rest) × (nat_eq u.channel c ≡ true)
first-channel c [] x e = absurd (cc)
first-channel {T} c (u ∷ us) x e = (u, us, refl, go (nat_eq u.channel c) e)
  where
    go : (b : Bool) → (if b then Some u.token else None) ≡ Some x → b ≡ true
    go true e = refl
    go false e = absurd (cc)

apart-first : {T : Type 0} (c d : ℕ) (us : List (Put T)) (x y : T) → nat_eq c d ≡ false → first_on c us ≡ Some x → first_on d us ≡ Some y → ⊥
apart-first {T} c d us x y n e f =
    let u = first-channel c us x e in
    let v = first-channel d us y f in
    let same : u.0 ≡ v.0 = ap (λ (w : List (Put T)). head_or w) (sym u.2 ∙ v.2) in
    clash u.0.channel u.3 (subst (λ (w : Put T). nat_eq w.channel d ≡ true) (sym same) v.3)
  where
    head_or : List (Put T) → Put T
    head_or [] = record { channel = 0; token = x }
    head_or (w ∷ ws) = w

    clash : (a : ℕ) → nat_eq a c ≡ true → nat_eq a d ≡ true → ⊥
    clash a p q = absurd (grind (arith, nat_tests, p, q, n))

puts-others : {T S : Type 0} (f : Party T S → Party T S) (i j : ℕ) (ps : List (Party T S)) → nat_eq j i ≡ false → puts_at (change_at i f ps) j ≡ puts_at ps j
puts-others f i j [] e = refl
puts-others f zero zero (p ∷ ps) e = absurd (nat-self e)
puts-others f zero (suc j) (p ∷ ps) e = refl
puts-others f (suc i) zero (p ∷ ps) e = refl
puts-others f (suc i) (suc j) (p ∷ ps) e = puts-others f i j ps (nat-down j i e)

at-others : {T : Type 0} (f : List T → List T) (i j : ℕ) (X : List (List T)) → nat_eq j i ≡ false → at (change_at i f X) j ≡ at X j
at-others f i j [] e = refl
at-others f zero zero (x ∷ X) e = absurd (nat-self e)
at-others f zero (suc j) (x ∷ X) e = refl
at-others f (suc i) zero (x ∷ X) e = refl
at-others f (suc i) (suc j) (x ∷ X) e = at-others f i j X (nat-down j i e)

same-numbers : (i j : ℕ) → nat_eq j i ≡ true → j ≡ i
same-numbers i j e = grind (arith, nat_tests, e)

there-both : {T : Type 0} (o : Option T) (xs : List (Option T)) → all_there (o ∷ xs) ≡ true → (x : T) × (o ≡ Some x) × (all_there xs ≡ true)
there-both None xs e = absurd (cc)
there-both (Some x) xs e = (x, refl, e)

later-apart : (c e : ℕ) → nat_eq c (suc c + e) ≡ false
later-apart c e = grind (arith, nat_tests)

module _ {T S : Type 0} (net : Net) where
  -- what is offered on another channel stays when a token has passed
  sent-waiting : (sc : Scene T S) (c d : ℕ) (x y : T) → nat_eq c d ≡ false → (o r : Option Source) → first_on c (waiting sc o) ≡ Some x → first_on d (waiting sc r) ≡ Some y → first_on d (waiting (sent o sc) r) ≡ first_on d (waiting sc r)
  sent-waiting sc c d x y n None r e f = refl
  sent-waiting sc c d x y n (Some (Own i)) None e f = refl
  sent-waiting sc c d x y n (Some (Own i)) (Some (Output j q)) e f = refl
  sent-waiting sc c d x y n (Some (Output i p)) None e f = refl
  sent-waiting sc c d x y n (Some (Output i p)) (Some (Own j)) e f = refl
  sent-waiting sc c d x y n (Some (Own i)) (Some (Own j)) e f = go (nat_eq j i) refl
    where
      go : (b : Bool) → nat_eq j i ≡ b → first_on d (at (change_at i rest_of sc.inputs) j) ≡ first_on d (at sc.inputs j)
      go true g = absurd (apart-first c d (at sc.inputs i) x y n e (ap (λ v. first_on d (at sc.inputs v)) (sym (same-numbers i j g)) ∙ f))
      go false g = ap (λ v. first_on d v) (at-others rest_of i j sc.inputs g)
  sent-waiting sc c d x y n (Some (Output i p)) (Some (Output j q)) e f = go (nat_eq j i) refl
    where
      go : (b : Bool) → nat_eq j i ≡ b → first_on d (puts_at (change_at i with_put_made sc.parties) j) ≡ first_on d (puts_at sc.parties j)
      go true g = absurd (apart-first c d (puts_at sc.parties i) x y n e (ap (λ v. first_on d (puts_at sc.parties v)) (sym (same-numbers i j g)) ∙ f))
      go false g = ap (λ v. first_on d v) (puts-others with_put_made i j sc.parties g)

  offer-stays : (sc : Scene T S) (c d : ℕ) (x y : T) (t : Target) → nat_eq c d ≡ false → offer net sc c ≡ Some x → offer net sc d ≡ Some y → offer net (received x t (sent (get net.sources c) sc)) d ≡ offer net sc d
  offer-stays sc c d x y t n e f = ap (λ v. first_on d v) (received-waiting x t (sent (get net.sources c) sc) (get net.sources d)) ∙ sent-waiting sc c d x y n (get net.sources c) (get net.sources d) e f

  -- the offers on the channels to come, after the first has passed
  offers-stay : (sc : Scene T S) (c : ℕ) (x : T) (t : Target) → offer net sc c ≡ Some x → (b e p n : ℕ) → all_there (offers net sc (hops b (suc c + e) p n)) ≡ true →
      offers net (received x t (sent (get net.sources c) sc)) (hops b (suc c + e) p n) ≡ offers net sc (hops b (suc c + e) p n)
  offers-stay sc c x t f b e p zero a = refl
  offers-stay sc c x t f b e p (suc n) a =
      let w = there-both (offer net sc (suc c + e)) (offers net sc (hops b (suc (suc c + e)) (suc p) n)) a in
      let same : suc (suc c + e) ≡ suc c + suc e = omega arith in
      ap₂ (λ u v. u ∷ v) (offer-stays sc c (suc c + e) x w.0 t (later-apart c e) f w.1)
      (ap (λ v. offers net (received x t (sent (get net.sources c) sc)) (hops b v (suc p) n)) same ∙ offers-stay sc c x t f b (suc e) (suc p) n (ap (λ v. all_there (offers net sc (hops b v (suc p) n))) (sym same) ∙ w.2) ∙
      ap (λ v. offers net sc (hops b v (suc p) n)) (sym same))

  there-at : (sc : Scene T S) (b c p n q : ℕ) → q < n → all_there (offers net sc (hops b c p n)) ≡ true → (y : T) × (offer net sc (c + q) ≡ Some y)
  there-at sc b c p zero q l a = absurd (omega arith)
  there-at sc b c p (suc n) zero l a = let w = there-both (offer net sc c) (offers net sc (hops b (suc c) (suc p) n)) a in let e : c + 0 ≡ c = omega arith in (w.0, ap (λ v. offer net sc v) e ∙ w.1)
  there-at sc b c p (suc n) (suc q) l a =
      let w = there-both (offer net sc c) (offers net sc (hops b (suc c) (suc p) n)) a in
      let r = there-at sc b (suc c) (suc p) n q (omega arith) w.2 in
      let e : c + suc q ≡ suc c + q = omega arith in
      (r.0, ap (λ v. offer net sc v) e ∙ r.1)

  pub passed-offer : (sc : Scene T S) (b c p n q : ℕ) → q < n → all_there (offers net sc (hops b c p n)) ≡ true → offer net (passed net (take q (hops b c p n)) (take q (offers net sc (hops b c p n))) sc) (c + q) ≡ offer net sc (c + q)
  passed-offer sc b c p zero q l a = absurd (omega arith)
  passed-offer sc b c p (suc n) zero l a = refl
  passed-offer sc b c p (suc n) (suc q) l a = go (there-both (offer net sc c) (offers net sc (hops b (suc c) (suc p) n)) a) (λ z g. passed-offer z b (suc c) (suc p) n q (omega arith) g)
    where
      go : ((x : T) × (offer net sc c ≡ Some x) × (all_there (offers net sc (hops b (suc c) (suc p) n)) ≡ true)) →
          ((z : Scene T S) → all_there (offers net z (hops b (suc c) (suc p) n)) ≡ true → offer net (passed net (take q (hops b (suc c) (suc p) n)) (take q (offers net z (hops b (suc c) (suc p) n))) z) (suc c + q) ≡ offer net z (suc c + q)) →
          offer net (passed net (take (suc q) (hops b c p (suc n))) (take (suc q) (offers net sc (hops b c p (suc n)))) sc) (c + suc q) ≡ offer net sc (c + suc q)
      go w ih =
          let z : Scene T S = received w.0 (Place b p) (sent (get net.sources c) sc) in
          let zero_c : suc c ≡ suc c + 0 = omega arith in
          let stay : offers net z (hops b (suc c) (suc p) n) ≡ offers net sc (hops b (suc c) (suc p) n) =
          ap (λ v. offers net z (hops b v (suc p) n)) zero_c ∙ offers-stay sc c w.0 (Place b p) w.1 b 0 (suc p) n (ap (λ v. all_there (offers net sc (hops b v (suc p) n))) (sym zero_c) ∙ w.2) ∙ ap (λ v. offers net sc (hops b v (suc p) n)) (sym zero_c)
          in
          let e : c + suc q ≡ suc c + q = omega arith in
          let y = there-at sc b (suc c) (suc p) n q (omega arith) w.2 in
          ap (λ v. offer net (passed net (take (suc q) (hops b c p (suc n))) (take (suc q) (offers net sc (hops b c p (suc n)))) sc) v) e ∙
          ap (λ o. offer net (passed net (take (suc q) (hops b c p (suc n))) (take (suc q) (o ∷ offers net sc (hops b (suc c) (suc p) n))) sc) (suc c + q)) w.1 ∙
          ap (λ xs. offer net (passed net (take q (hops b (suc c) (suc p) n)) (take q xs) z) (suc c + q)) (sym stay) ∙
          ih z (ap (λ xs. all_there xs) stay ∙ w.2) ∙
          offer-stays sc c (suc c + q) w.0 y.0 (Place b p) (later-apart c q) w.1 y.1 ∙
          ap (λ v. offer net sc v) (sym e)

pub meet-is : {T S : Type 0} → MeetIs T S
meet-is = record {
  channel = λ net n sc c x e. rw e refl;
  barrier = λ net n sc b. refl;
  begins = λ net hs xs sc. refl;
  passes = passes-one;
  stays = λ facts net sc b q l legal m.
      let hs = barrier-hops net b l in
      ap (λ v. offer net (passed net (take q v) (take q (offers net sc v)) sc) (total (take b net.places) + q)) hs ∙
      passed-offer net sc b (total (take b net.places)) 0 (get_or net.places b 0) q m (ap (λ v. all_there (offers net sc v)) (sym hs) ∙ and-left _ _ legal);
}

-- a process that fires
fire-change : {T S : Type 0} (facts : Facts T S) (step : Stepping T S) (tag : Tag) (net : Net) (n j i : ℕ) (ps : List (Party T S)) → fire_at facts step tag net n j i ps ≡ change_at i (advance facts step tag net.sources (j + i)) ps
fire-change facts step tag net n j i [] = refl
fire-change facts step tag net n j zero (p ∷ ps) = let e : j ≡ j + 0 = omega arith in ap (λ v. advance facts step tag net.sources v p ∷ ps) e
fire-change facts step tag net n j (suc i) (p ∷ ps) = let e : suc j + i ≡ j + suc i = omega arith in ap (λ v. p ∷ v) (fire-change facts step tag net n (suc j) i ps) ∙ ap (λ v. p ∷ change_at i (advance facts step tag net.sources v) ps) e

pub fires-are : {T S : Type 0} → FiresAre T S
fires-are = record {
  change = λ facts step tag net n i ps. fire-change facts step tag net n 0 i ps ∙ ap (λ v. change_at i (advance facts step tag net.sources v) ps) (zero-plus i);
  done = λ facts step tag sources i p s' out l e d. rw (e, d) refl;
  stuck = λ facts step tag sources i p fs l e d. rw (e, d) refl;
}

-- the start
channels-more : (c : ℕ) (s : Source) (ds : List Source) (d : Source) → channels_from c s (ds ++ (d ∷ [])) ≡ channels_from c s ds ++ listed_if (is_source s d) (c + length ds) []
channels-more c s [] d = let e : c ≡ c + 0 = omega arith in ap (λ v. listed_if (is_source s d) v []) e
channels-more c s (x ∷ ds) d =
    let e : suc c + length ds ≡ c + suc (length ds) = omega arith in
    ap (λ v. listed_if (is_source s x) c v) (channels-more (suc c) s ds d ∙ ap (λ v. channels_from (suc c) s ds ++ listed_if (is_source s d) v []) e) ∙ listed-append (is_source s x) c (channels_from (suc c) s ds) (listed_if (is_source s d) (c + suc (length ds)) [])
  where
    listed-append : (b : Bool) (n : ℕ) (xs ys : List ℕ) → listed_if b n (xs ++ ys) ≡ listed_if b n xs ++ ys
    listed-append true n xs ys = refl
    listed-append false n xs ys = refl

inlets-at : {T : Type 0} (sources : List Source) (k : ℕ) (kept : List (List (Put T))) (X : Streams T) (j : ℕ) → j < length kept → at (arriving sources k kept X) j ≡ at kept j ++ puts_of_port (channels_from 0 (Own (k + j)) sources) (at X (k + j))
inlets-at sources k [] X j l = absurd (omega arith)
inlets-at sources k (us ∷ kept) X zero l = let e : k ≡ k + 0 = omega arith in ap (λ v. us ++ puts_of_port (channels_from 0 (Own v) sources) (at X v)) e
inlets-at sources k (us ∷ kept) X (suc j) l = let e : suc k + j ≡ k + suc j = omega arith in inlets-at sources (suc k) kept X j (omega arith) ∙ ap (λ v. at kept j ++ puts_of_port (channels_from 0 (Own v) sources) (at X v)) e

seat-at : {T S : Type 0} (bs : List Bool) (gs : List (Streams T)) (us : List (List (Put T))) (ss : List S) (i : ℕ) (b : Bool) (g : Streams T) (u : List (Put T)) (s : S) → get bs i ≡ Some b → get gs i ≡ Some g → get us i ≡ Some u → get ss i ≡ Some s →
    get (seated bs gs us ss) i ≡ Some (record { barrier = b; state = s; got = g; puts = u; mood = Well; log = silent })
seat-at [] gs us ss i b g u s e f h k = absurd (cc)
seat-at (x ∷ bs) [] us ss i b g u s e f h k = absurd (cc)
seat-at (x ∷ bs) (y ∷ gs) [] ss i b g u s e f h k = absurd (cc)
seat-at (x ∷ bs) (y ∷ gs) (z ∷ us) [] i b g u s e f h k = absurd (cc)
seat-at {T} {S} (x ∷ bs) (y ∷ gs) (z ∷ us) (w ∷ ss) zero b g u s e f h k =
    ap₂ (λ (v : Bool) (v' : Streams T). let p : Party T S = record { barrier = v; state = w; got = v'; puts = z; mood = Well; log = silent } in Option.Some p) (some-same x b e) (some-same y g f) ∙
    ap₂ (λ (v : List (Put T)) (v' : S). let p : Party T S = record { barrier = b; state = v'; got = g; puts = v; mood = Well; log = silent } in Option.Some p) (some-same z u h) (some-same w s k)
seat-at (x ∷ bs) (y ∷ gs) (z ∷ us) (w ∷ ss) (suc i) b g u s e f h k = seat-at bs gs us ss i b g u s e f h k

pub starts-are : {T S : Type 0} → StartsAre T S
starts-are = record {
  channels = channels-more;
  inlets = λ sources kept X j l. inlets-at sources 0 kept X j l ∙ ap (λ v. at kept j ++ puts_of_port (channels_from 0 (Own v) sources) (at X v)) (zero-plus j);
  seats = seat-at;
}
