-- What processes gather: in the order of their places, and no more than they need.
use Rattle.std.proofs.Common.{◌≡◌, ◌⊎◌, inl, inr, ℕ, zero, suc, ◌+◌, ◌<◌, ◌≤◌, List, [], ◌∷◌, ◌++◌, Bool, true, false, ◌&&◌, ◌||◌, nat_eq, nat_lt, length, get_or, Option, Some, None, if◌then◌else◌, refl, sym, ap, subst, ◌∙◌, arith, length-append}
use Rattle.std.proofs.lemmas.Bool.{ltb-true}
use Rattle.std.proofs.lemmas.Bool.Decides.{nat_tests}
use Rattle.pt_meaning.specs.Streams.{Streams, at, change_at}
use Rattle.pt_meaning.specs.Machine.{Need, Over, Counts, Any}
use Rattle.pt_meaning.specs.Process.{Put, lacking, emptied}
use Rattle.pt_meaning.specs.Running.{total}
use Rattle.pt_meaning.specs.Jam.{is_empty, is_in_order, is_gathering}
use Rattle.pt_laws.specs.Channels.{further}
use Rattle.pt_laws.specs.TickRuns.{places_at}
use Rattle.pt_laws.proofs.Indexed.{streams-same}
use Rattle.pt_pn_laws.specs.State.{offset_of, lacking_place}
use Rattle.pt_pn_laws.specs.Lawful.{HasPlaces}
use Rattle.pt_pn_laws.proofs.ListLaws.{either-nat, length-part, at-part, at-change, at-change-other, length-change}

-- where nothing is gathered it is in order
or-true : (a b : Bool) → b ≡ true → (a || b) ≡ true
or-true true b e = refl
or-true false b e = e

true-or : (a b : Bool) → a ≡ true → (a || b) ≡ true
true-or true b e = refl
true-or false b e = absurd (cc)

both-true : (a b : Bool) → a ≡ true → b ≡ true → (a && b) ≡ true
both-true true b e f = f
both-true false b e f = absurd (cc)

pub first-true : (a b : Bool) → (a && b) ≡ true → (a ≡ true) × (b ≡ true)
first-true true b e = (refl, e)
first-true false b e = absurd (cc)

pub one-true : (a b : Bool) → (a || b) ≡ true → (a ≡ true) ⊎ (b ≡ true)
one-true true b e = inl refl
one-true false b e = inr e

pub in-order-empty : {T : Type 0} (ns : List ℕ) (X : Streams T) → is_empty X ≡ true → is_in_order ns X ≡ true
in-order-empty [] X e = e
in-order-empty (n ∷ ns) [] e = refl
in-order-empty (zero ∷ ns) ([] ∷ X) e = true-or (is_in_order ns X) false (in-order-empty ns X e)
in-order-empty (suc n ∷ ns) ([] ∷ X) e = or-true (nat_eq 0 (suc n) && is_in_order ns X) (nat_lt 0 (suc n) && is_empty X) (both-true (nat_lt 0 (suc n)) (is_empty X) (grind (arith, nat_tests)) e)
in-order-empty (n ∷ ns) ((x ∷ xs) ∷ X) e = absurd (cc)

pub empty-emptied : {T : Type 0} (X : Streams T) → is_empty (emptied X) ≡ true
empty-emptied [] = refl
empty-emptied (x ∷ X) = empty-emptied X

-- a process that has gathered nothing may do so, whatever it needs and has to put
pub gathers-none : {T : Type 0} (places : ℕ) (us : List (Put T)) (need : Need) (X : Streams T) → HasPlaces places need → is_empty X ≡ true → is_gathering us need X ≡ true
gathers-none places (u ∷ us) need X h e = e
gathers-none places [] Over X h e = e
gathers-none places [] (Counts ns) X h e = in-order-empty ns X e
gathers-none places [] Any X h e = absurd h

-- the place that lacks a token is there
pub lacking-below : {T : Type 0} (ns : List ℕ) (X : Streams T) (b q : ℕ) → lacking b ns X ≡ Some q → (b ≤ q) × (q < b + length X)
lacking-below [] X b q e = absurd (cc)
lacking-below (n ∷ ns) [] b q e = absurd (cc)
lacking-below (n ∷ ns) (xs ∷ X) b q e = by (λ h. lacking-below ns X (suc b) q h) (nat_lt (length xs) n) e
  where
    some-is : (a c : ℕ) → Option.Some a ≡ Option.Some c → a ≡ c
    some-is a c e = cc

    by : (lacking (suc b) ns X ≡ Some q → (suc b ≤ q) × (q < suc b + length X)) → (t : Bool) → (if t then Some b else lacking (suc b) ns X) ≡ Some q → (b ≤ q) × (q < b + suc (length X))
    by ih true e = let z = some-is b q e in (omega (arith, z), omega (arith, z))
    by ih false e = let r = ih e in let l = r.0 in let m = r.1 in (omega (arith, l), omega (arith, m))

-- one token more at that place
module _ {T : Type 0} (x : T) where
  abbrev pub more : List T → List T
  more xs = xs ++ (x ∷ [])

  longer : (xs : List T) → length (more xs) ≡ suc (length xs)
  longer xs = let e = length-append xs (x ∷ []) in omega (arith, e)

  in-head : (n : ℕ) (ns : List ℕ) (xs : List T) (X : Streams T) → nat_lt (length xs) n ≡ true → is_in_order (n ∷ ns) (xs ∷ X) ≡ true → is_in_order (n ∷ ns) (more xs ∷ X) ≡ true
  in-head n ns xs X l e = by (one-true (nat_eq (length xs) n && is_in_order ns X) (nat_lt (length xs) n && is_empty X) e)
    where
      after : is_empty X ≡ true → (suc (length xs) ≡ n) ⊎ (suc (length xs) < n) → is_in_order (n ∷ ns) (more xs ∷ X) ≡ true
      after z (inl d) =
          let q = longer xs in
          true-or (nat_eq (length (more xs)) n && is_in_order ns X) (nat_lt (length (more xs)) n && is_empty X) (both-true (nat_eq (length (more xs)) n) (is_in_order ns X) (grind (arith, nat_tests)) (in-order-empty ns X z))
      after z (inr d) =
          let q = longer xs in
          or-true (nat_eq (length (more xs)) n && is_in_order ns X) (nat_lt (length (more xs)) n && is_empty X) (both-true (nat_lt (length (more xs)) n) (is_empty X) (grind (arith, nat_tests)) z)

      split : (a b : ℕ) → a < b → (suc a ≡ b) ⊎ (suc a < b)
      split a b h = grind arith

      by : ((nat_eq (length xs) n && is_in_order ns X) ≡ true) ⊎ ((nat_lt (length xs) n && is_empty X) ≡ true) → is_in_order (n ∷ ns) (more xs ∷ X) ≡ true
      by (inl a) = let r = first-true (nat_eq (length xs) n) (is_in_order ns X) a in let s = r.0 in absurd (grind (arith, nat_tests))
      by (inr a) = after (first-true (nat_lt (length xs) n) (is_empty X) a).1 (split (length xs) n (ltb-true (length xs) n l))

  in-tail : (n : ℕ) (ns : List ℕ) (xs : List T) (X Y : Streams T) → nat_lt (length xs) n ≡ false → (is_in_order ns X ≡ true → is_in_order ns Y ≡ true) → is_in_order (n ∷ ns) (xs ∷ X) ≡ true → is_in_order (n ∷ ns) (xs ∷ Y) ≡ true
  in-tail n ns xs X Y l h e = by (one-true (nat_eq (length xs) n && is_in_order ns X) (nat_lt (length xs) n && is_empty X) e)
    where
      by : ((nat_eq (length xs) n && is_in_order ns X) ≡ true) ⊎ ((nat_lt (length xs) n && is_empty X) ≡ true) → is_in_order (n ∷ ns) (xs ∷ Y) ≡ true
      by (inl a) = let r = first-true (nat_eq (length xs) n) (is_in_order ns X) a in true-or (nat_eq (length xs) n && is_in_order ns Y) (nat_lt (length xs) n && is_empty Y) (both-true (nat_eq (length xs) n) (is_in_order ns Y) r.0 (h r.1))
      by (inr a) = let r = (first-true (nat_lt (length xs) n) (is_empty X) a).0 in absurd (no (sym r ∙ l))
        where
          no : true ≡ false → ⊥
          no z = cc

  pub in-order-more : (ns : List ℕ) (X : Streams T) (b d : ℕ) → lacking b ns X ≡ Some (b + d) → is_in_order ns X ≡ true → is_in_order ns (change_at d more X) ≡ true
  in-order-more [] X b d l e = absurd (cc)
  in-order-more (n ∷ ns) [] b d l e = absurd (cc)
  in-order-more (n ∷ ns) (xs ∷ X) b d l e = by (λ d h z. in-order-more ns X (suc b) d h z) (nat_lt (length xs) n) d refl l
    where
      some-is : (a c : ℕ) → Option.Some a ≡ Option.Some c → a ≡ c
      some-is a c e = cc

      by : ((d : ℕ) → lacking (suc b) ns X ≡ Some (suc b + d) → is_in_order ns X ≡ true → is_in_order ns (change_at d more X) ≡ true) → (t : Bool) (d : ℕ) → nat_lt (length xs) n ≡ t → (if t then Some b else lacking (suc b) ns X) ≡ Some (b + d) → is_in_order (n ∷ ns) (change_at d more (xs ∷ X)) ≡ true
      by ih true zero t w = in-head n ns xs X t e
      by ih true (suc d) t w = let z = some-is b (b + suc d) w in absurd (omega (arith, z))
      by ih false zero t w = let z = (lacking-below ns X (suc b) (b + 0) w).0 in absurd (omega (arith, z))
      by ih false (suc d) t w = in-tail n ns xs X (change_at d more X) t (λ z. ih d (w ∙ ap (λ v. Option.Some v) (moved b d)) z) e
        where
          moved : (b d : ℕ) → b + suc d ≡ suc b + d
          moved b d = omega arith

-- what a process lacks
pub record Lacks {T : Type 0} (need : Need) (X : Streams T) (offset c : ℕ) : Type 0 where
  pub ns : List ℕ
  pub counts : need ≡ Counts ns
  pub place : ℕ
  pub lacks : lacking 0 ns X ≡ Some place
  pub channel : c ≡ offset + place

pub lacks-of : {T : Type 0} (need : Need) (X : Streams T) (offset c : ℕ) → further offset (lacking_place need X) ≡ Some c → Lacks need X offset c
lacks-of Over X offset c e = absurd (cc)
lacks-of Any X offset c e = absurd (cc)
lacks-of (Counts ns) X offset c e = by (lacking 0 ns X) refl e
  where
    some-is : (a c : ℕ) → Option.Some a ≡ Option.Some c → a ≡ c
    some-is a c e = cc

    by : (o : Option ℕ) → lacking 0 ns X ≡ o → further offset o ≡ Some c → Lacks (Counts ns) X offset c
    by None l e = absurd (cc)
    by (Some q) l e = record { ns = ns; counts = refl; place = q; lacks = l; channel = sym (some-is (offset + q) c e) }

-- a change at a place of a process
pub part-change : {T : Type 0} (ns : List ℕ) (i q : ℕ) (G : Streams T) (f : List T → List T) → i < length ns → total ns ≤ length G → q < get_or ns i 0 → places_at ns i (change_at (offset_of ns i + q) f G) ≡ change_at q f (places_at ns i G)
part-change {T} ns i q G f there long l =
    let o : ℕ = offset_of ns i in
    let G' : Streams T = change_at (o + q) f G in
    let g = length-change G (o + q) f in
    let a = length-part ns i G there long in
    let b = length-part ns i G' there (omega (arith, g, long)) in
    let c = length-change (places_at ns i G) q f in
    streams-same (places_at ns i G') (change_at q f (places_at ns i G)) (b ∙ sym a ∙ sym c) (λ k w. let v : k < get_or ns i 0 = omega (arith, w, b) in by k v (either-nat q k))
  where
    in-range : offset_of ns i + q < length G
    in-range = let f = part-in ns i there in omega (arith, f, long, l)
      where
        part-in : (ns : List ℕ) (i : ℕ) → i < length ns → offset_of ns i + get_or ns i 0 ≤ total ns
        part-in [] i l = absurd (omega (arith, l))
        part-in (n ∷ ns) zero l = omega arith
        part-in (n ∷ ns) (suc i) l = let r = part-in ns i (omega (arith, l)) in omega (arith, r)

    apart : (o q k : ℕ) → nat_eq q k ≡ false → nat_eq (o + q) (o + k) ≡ false
    apart o q k e = grind (arith, nat_tests)

    by : (k : ℕ) → k < get_or ns i 0 → (q ≡ k) ⊎ (nat_eq q k ≡ false) → at (places_at ns i (change_at (offset_of ns i + q) f G)) k ≡ at (change_at q f (places_at ns i G)) k
    by k v (inl e) =
        subst (λ j. at (places_at ns i (change_at (offset_of ns i + q) f G)) j ≡ at (change_at q f (places_at ns i G)) j) e
        (at-part ns i q (change_at (offset_of ns i + q) f G) l ∙ at-change G (offset_of ns i + q) f in-range ∙ ap f (sym (at-part ns i q G l)) ∙ sym (at-change (places_at ns i G) q f (let a = length-part ns i G there long in omega (arith, a, l))))
    by k v (inr e) =
        at-part ns i k (change_at (offset_of ns i + q) f G) v ∙ at-change-other G (offset_of ns i + q) (offset_of ns i + k) f (apart (offset_of ns i) q k e) ∙ sym (at-part ns i k G v) ∙ sym (at-change-other (places_at ns i G) q k f e)
