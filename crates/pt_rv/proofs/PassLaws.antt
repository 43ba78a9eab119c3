-- A token that passes on a channel, from who sends it to who receives it.
use Rattle.std.proofs.Common.{◌≡◌, ℕ, zero, suc, ◌+◌, ◌<◌, ◌≤◌, List, [], ◌∷◌, Bool, true, false, nat_eq, length, get_or, Option, Some, None, if◌then◌else◌, refl, sym, ap, ap₂, subst, ◌∙◌, arith}
use Rattle.std.specs.Prelude.{slice_get}
use Rattle.std.specs.List.{All}
use Rattle.std.proofs.lemmas.Bool.Decides.{nat_tests}
use Rattle.pt_meaning.specs.Streams.{get}
use Rattle.pt_meaning.specs.Meetings.{Target, Place, Outlet, target_from, first_on}
use Rattle.pt_meaning.specs.Net.{Net, Source, Own, Output}
use Rattle.pt_meaning.specs.Process.{Put}
use Rattle.pt_meaning.specs.Running.{total}
use Rattle.pt_value.specs.declared.token.Token.{Token}
use Rattle.pt_puts.specs.Fans.{IsNamed}
use Rattle.pt_rv_laws.specs.State.{Processes}
use Rattle.pt_rv_laws.specs.Lawful.{HasPlaces}
use Rattle.pt_rv_work.specs.Core.{Moving, nobody, puts_at, offer_in, sent_by, received_by, passed_to}
use Rattle.pt_rv_plan.specs.Plan.{AreSound}
use Rattle.pt_rv_parts.specs.Process.{MayTake}
use Rattle.pt_rv_parts.specs.Team.{NoneHanded}
use Rattle.pt_rv.specs.declared.parties.Parties.{Parties}
use Rattle.pt_rv.specs.Parties.{FitIn, IsSender, IsThere, MayReceive, Receives, moving_in, waiting, on, one_if, spare_at, less_at}
use Rattle.pt_rv.proofs.WeightLaws.{waiting-sent, waiting-received}
use Rattle.pt_rv.proofs.ShapeLaws.{SameShape, passed-shape}
use Rattle.pt_rv.proofs.NextLaws.{target-outlet}

-- the first put is on the channel
pub record First (us : List (Put Token)) (c : ℕ) (x : Token) : Type 0 where
  pub put : Put Token
  pub rest : List (Put Token)
  pub is : us ≡ put ∷ rest
  pub channel : put.channel ≡ c
  pub token : put.token ≡ x

first-is : (c : ℕ) (us : List (Put Token)) (x : Token) → first_on c us ≡ Some x → First us c x
first-is c [] x e = absurd (cc)
first-is c (u ∷ us) x e = by (nat_eq u.channel c) refl e
  where
    some-is : (a b : Token) → Option.Some a ≡ Option.Some b → a ≡ b
    some-is a b e = cc

    by : (b : Bool) → nat_eq u.channel c ≡ b → (if b then Some u.token else None) ≡ Some x → First (u ∷ us) c x
    by true t e = record { put = u; rest = us; is = refl; channel = grind (arith, nat_tests); token = some-is u.token x e }
    by false t e = absurd (cc)

-- a channel that is offered a token begins somewhere
pub record Sends (net : Net) (w : Moving Token) (c : ℕ) (x : Token) : Type 0 where
  pub source : Source
  pub begins : get net.sources c ≡ Some source
  pub first : First (puts_at w (Some source)) c x

pub offered-sends : (net : Net) (w : Moving Token) (c : ℕ) (x : Token) → offer_in net w c ≡ Some x → Sends net w c x
offered-sends net w c x e = by (get net.sources c) refl
  where
    by : (o : Option Source) → get net.sources c ≡ o → Sends net w c x
    by None g = absurd (let z : Option.None ≡ Some x = sym (ap (λ v. first_on c (puts_at w v)) g) ∙ e in cc)
    by (Some s) g = record { source = s; begins = g; first = first-is c (puts_at w (Some s)) x (sym (ap (λ v. first_on c (puts_at w v)) g) ∙ e) }

pub get-there : {A : Type 0} (xs : List A) (i : ℕ) (x : A) → get xs i ≡ Some x → i < length xs
get-there [] i x e = absurd (cc)
get-there (y ∷ xs) zero x e = omega arith
get-there (y ∷ xs) (suc i) x e = let r = get-there xs i x e in omega (arith, r)

-- of a sound plan each channel begins at who is there
named-there : (n : ℕ) (ss : List Source) (c : ℕ) (s : Source) → All (IsNamed n) ss → get ss c ≡ Some s → IsNamed n s
named-there n ss c s a e = subst (λ v. IsNamed n v) (read ss c s e) (a c s (get-there ss c s e))
  where
    read : (ss : List Source) (c : ℕ) (s : Source) → get ss c ≡ Some s → get_or ss c s ≡ s
    read [] c s e = absurd (cc)
    read (y ∷ ss) zero s e = some-is y s e
      where
        some-is : (a b : Source) → Option.Some a ≡ Option.Some b → a ≡ b
        some-is a b e = cc
    read (y ∷ ss) (suc c) s e = read ss c s e

pub source-there : (p : Processes) (w : Parties) (c : ℕ) (s : Source) → AreSound p → FitIn p w → get p.plan.net.sources c ≡ Some s → IsThere s w
source-there p w c (Own j) sound fit e = let a = sound.lawful.owns c j e in let b = fit.inlets in omega (arith, a, b)
source-there p w c (Output i port) sound fit e = let a = named-there (length p.plan.net.places) p.plan.net.sources c (Output i port) sound.named e in let b = fit.there in omega (arith, a, b)

pub sender-free : (s : Source) (w : Parties) → IsThere s w → NoneHanded w.team → IsSender s w
sender-free (Own j) w h f = h
sender-free (Output i port) w h f = (h, f i)

pub some-source : (s r : Source) (ss : List Source) (c : ℕ) → get ss c ≡ Some s → get ss c ≡ Some r → s ≡ r
some-source s r ss c e f = cc

-- where a token passes on a channel that ends there
module _ (p : Processes) (w : Parties) (c : ℕ) (t : Target) (x : Token) (sound : AreSound p) (fit : FitIn p w) (ends : t ≡ target_from 0 p.plan.net.places c) (offer : offer_in p.plan.net (moving_in w) c ≡ Some x) where
  abbrev sends : Sends p.plan.net (moving_in w) c x
  sends = offered-sends p.plan.net (moving_in w) c x offer

  abbrev net : Net
  net = p.plan.net

  abbrev u : Put Token
  u = sends.first.put

  pub channel-there : c < length net.sources
  channel-there = get-there net.sources c sends.source sends.begins

  pub source-is : (s : Source) → get net.sources c ≡ Some s → sends.source ≡ s
  source-is s e = some-source sends.source s net.sources c sends.begins e

  pub some-put : (s : Source) → get net.sources c ≡ Some s → 0 < length (puts_at (moving_in w) (Some s))
  some-put s e = subst (λ v. 0 < length (puts_at (moving_in w) (Some v))) (source-is s e) (let a = ap (λ v. length v) sends.first.is in omega (arith, a))

  -- the put that is taken out
  pub put-is : (s : Source) (r : Put Token) → get net.sources c ≡ Some s → slice_get (puts_at (moving_in w) (Some s)) 0 ≡ Some r → r ≡ u
  put-is s r e g = front (puts_at (moving_in w) (Some sends.source)) u sends.first.rest r sends.first.is (ap (λ v. slice_get (puts_at (moving_in w) (Some v)) 0) (source-is s e) ∙ g)
    where
      some-is : (a b : Put Token) → Option.Some a ≡ Option.Some b → a ≡ b
      some-is a b e = cc

      front : (us : List (Put Token)) (u : Put Token) (rest : List (Put Token)) (r : Put Token) → us ≡ u ∷ rest → slice_get us 0 ≡ Some r → r ≡ u
      front us u rest r e g = sym (some-is u r (sym (ap (λ v. slice_get v 0) e) ∙ g))

  pub token-is : (s : Source) (r : Put Token) → get net.sources c ≡ Some s → slice_get (puts_at (moving_in w) (Some s)) 0 ≡ Some r → r.token ≡ x
  token-is s r e g = ap (λ (v : Put Token). v.token) (put-is s r e g) ∙ sends.first.token

  -- what moves as its token does
  pub passed-is : (s : Source) (r : Put Token) (mid v : Parties) → get net.sources c ≡ Some s → slice_get (puts_at (moving_in w) (Some s)) 0 ≡ Some r → moving_in mid ≡ sent_by (Some s) (moving_in w) → moving_in v ≡ received_by r.token t (moving_in mid) → moving_in v ≡ passed_to net c t x (moving_in w)
  passed-is s r mid v e g m d = d ∙ ap₂ (λ y z. received_by y t z) (token-is s r e g) (m ∙ ap (λ o. sent_by o (moving_in w)) (sym e))

  waits-sent : (f : Put Token → ℕ) → waiting f (sent_by (get net.sources c) (moving_in w)) + f u ≡ waiting f (moving_in w)
  waits-sent f = ap (λ v. waiting f (sent_by v (moving_in w)) + f u) sends.begins ∙ waiting-sent f (moving_in w) sends.source u sends.first.rest sends.first.is

  pub waits-passed : (f : Put Token → ℕ) → waiting f (passed_to net c t x (moving_in w)) + f u ≡ waiting f (moving_in w)
  waits-passed f = let a = waiting-received f (sent_by (get net.sources c) (moving_in w)) t x in let b = waits-sent f in omega (arith, a, b)

  -- an own output where it ends has room
  pub outlet-room : (o : ℕ) → t ≡ Outlet o → (o < length w.outlets.items) × (0 < spare_at w.outlets.items o)
  outlet-room o e =
      let z = target-outlet 0 net.places c o (sym ends ∙ e) in
      let a = channel-there in
      let b = fit.outlets in
      let there : o < length w.outlets.items = omega (arith, z, a, b) in
      let r = fit.rooms o there in
      let k = waits-sent (on (total net.places + o)) in
      let m = same-one u.channel (total net.places + o) (sends.first.channel ∙ z) in
      (there, omega (arith, r, k, m))
    where
      same-one : (a b : ℕ) → a ≡ b → one_if (nat_eq a b) ≡ 1
      same-one a b e = ap one_if (let t : nat_eq a b ≡ true = grind (arith, nat_tests, e) in t)

  -- a put weighs on the channel of the own output that its token comes to
  less-on : (o : ℕ) → less_at t o ≤ on (total net.places + o) u
  less-on o = by t ends
    where
      zero-less : (n : ℕ) → 0 ≤ n
      zero-less n = omega arith

      one-less : (b d : Bool) → (b ≡ true → d ≡ true) → one_if b ≤ one_if d
      one-less true true h = omega arith
      one-less true false h = absurd (let e = h refl in cc)
      one-less false d h = zero-less (one_if d)

      by : (t : Target) → t ≡ target_from 0 net.places c → less_at t o ≤ on (total net.places + o) u
      by (Place i q) e = zero-less (on (total net.places + o) u)
      by (Outlet p) e =
          let z = target-outlet 0 net.places c p (sym e) in
          let y = sends.first.channel in
          one-less (nat_eq p o) (nat_eq u.channel (total net.places + o)) (λ h. let g : p ≡ o = grind (arith, nat_tests) in let k : u.channel ≡ total net.places + o = omega (arith, z, y, g) in grind (arith, nat_tests))

  -- the parties fit afterwards
  pub fit-passed : (v : Parties) → moving_in v ≡ passed_to net c t x (moving_in w) → length v.inlets.items ≡ length w.inlets.items → length v.outlets.items ≡ length w.outlets.items → ((o : ℕ) → spare_at v.outlets.items o + less_at t o ≡ spare_at w.outlets.items o) → FitIn p v
  fit-passed v m i o r =
      let team : v.team ≡ (passed_to net c t x (moving_in w)).processes = ap (λ (y : Moving Token). y.processes) m in
      let s : SameShape w.team v.team = subst (λ q. SameShape w.team q) (sym team) (passed-shape net c t x (moving_in w)) in
      record {
        told = fit.told ∙ sym s.barriers;
        there = s.long ∙ fit.there;
        placed = λ j l. let h = s.long in (s.like j).places ∙ fit.placed j (omega (arith, l, h));
        counts = λ j l. let h = s.long in subst (λ n. HasPlaces (get_or net.places j 0) n) (sym (s.like j).need) (fit.counts j (omega (arith, l, h)));
        inlets = i ∙ fit.inlets;
        outlets = o ∙ fit.outlets;
        rooms = λ k l.
            let a = fit.rooms k (omega (arith, l, o)) in
            let b = waits-passed (on (total net.places + k)) in
            let d = ap (λ y. waiting (on (total net.places + k)) y) m in
            let e = r k in
            let g = less-on k in
            omega (arith, a, b, d, e, g);
      }

-- who receives may still do so once who sends has made a put
pub receives-still : (p : Processes) (w v : Parties) (t : Target) (o : Option Source) → Receives t w → moving_in v ≡ sent_by o (moving_in w) → ((k : ℕ) → t ≡ Outlet k → (k < length v.outlets.items) × (0 < spare_at v.outlets.items k)) → ((i place : ℕ) → MayTake (get_or w.team i nobody) place → MayTake (get_or v.team i nobody) place) → length v.team ≡ length w.team → MayReceive t v
receives-still p w v (Place i place) o r m h f l = (let a = r.0 in omega (arith, a, l), f i place r.1)
receives-still p w v (Outlet k) o r m h f l = h k refl
