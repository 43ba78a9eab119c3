-- What a process gathers, place by place.
use Rattle.std.proofs.Common.{◌≡◌, ◌⊎◌, inl, inr, ℕ, zero, suc, ◌+◌, ◌<◌, ◌≤◌, List, [], ◌∷◌, ◌++◌, Bool, true, false, nat_eq, max, length, set, get_or, replicate, Some, refl, sym, ap, subst, ◌∙◌, arith, length-append, length-set}
use Rattle.pt_meaning.specs.Streams.{Streams, at, any_present, change_at}
use Rattle.pt_meaning.specs.Process.{emptied}
use Rattle.pt_value.specs.declared.token.Token.{Token}
use Rattle.pt_reaction.specs.Spared.{Spared}
use Rattle.pt_reaction.specs.Channels.{lists_of}
use Rattle.pt_pn_laws.proofs.ListLaws.{either-nat, nat-apart, at-change, at-change-other, at-set, at-set-other, past-end}
use Rattle.pt_puts.specs.Lines.{room_at}
use Rattle.pt_puts.proofs.LineLaws.{lines-long}
use Rattle.pt_puts.proofs.LineLaws.{are-empty, emptied-is}
use Rattle.pt_rv_parts.specs.Process.{GathersBy, FilledAt, HaveRoom, IsLeast, most_in, taken_at}

-- tokens at some place or at none
pub any-none : {T : Type 0} (X : Streams T) → ((q : ℕ) → at X q ≡ []) → any_present X ≡ false
any-none [] h = refl
any-none ([] ∷ X) h = any-none X (λ q. h (suc q))
any-none ((x ∷ xs) ∷ X) h = absurd (let e = h 0 in cc)

pub any-some : {T : Type 0} (X : Streams T) (q : ℕ) → 0 < length (at X q) → any_present X ≡ true
any-some [] q h = absurd (omega (arith, h))
any-some ([] ∷ X) zero h = absurd (omega (arith, h))
any-some ([] ∷ X) (suc q) h = any-some X q h
any-some ((x ∷ xs) ∷ X) q h = refl

pub none-at : {T : Type 0} (X : Streams T) → any_present X ≡ false → (q : ℕ) → at X q ≡ []
none-at [] e q = refl
none-at ([] ∷ X) e zero = refl
none-at ([] ∷ X) e (suc q) = none-at X e q
none-at ((x ∷ xs) ∷ X) e q = absurd (cc)

-- a token alone at a place
pub alone-at : {T : Type 0} (X : Streams T) (place : ℕ) (x : T) → at X place ≡ [] → set X place (x ∷ []) ≡ change_at place (λ xs. xs ++ (x ∷ [])) X
alone-at [] place x e = refl
alone-at (xs ∷ X) zero x e = ap (λ v. (v ++ (x ∷ [])) ∷ X) (sym e)
alone-at (xs ∷ X) (suc place) x e = ap (λ v. xs ∷ v) (alone-at X place x e)

pub filled-now : (X : Streams Token) (place : ℕ) (x : Token) → place < length X → any_present X ≡ false → FilledAt (Some place) (set X place (x ∷ []))
filled-now X place x h e = (
  let n = length-set X place (x ∷ []) in omega (arith, h, n),
  let n = ap (λ v. length v) (at-set X place (x ∷ []) h) in omega (arith, n),
  λ q d. at-set-other X place q (x ∷ []) d ∙ none-at X e q,
)

-- nothing at each place
pub emptied-as : (X Y : Streams Token) → ((q : ℕ) → at X q ≡ []) → length X ≡ length Y → X ≡ emptied Y
emptied-as X Y h e = are-empty X (λ q l. h q) ∙ ap (λ n. replicate n []) e ∙ sym (emptied-is Y)

pub empty-as : (X : Streams Token) (n : ℕ) → ((q : ℕ) → at X q ≡ []) → length X ≡ n → X ≡ replicate n []
empty-as X n h e = are-empty X (λ q l. h q) ∙ ap (λ k. replicate k []) e

pub room-empty : (barrier : Bool) (ns : List ℕ) (L : List (Spared Token)) → HaveRoom barrier ns L → (q : ℕ) → at (lists_of L) q ≡ []
room-empty barrier ns L h q = by (under q (length L))
  where
    under : (q n : ℕ) → (q < n) ⊎ (n ≤ q)
    under q n = grind arith

    by : (q < length L) ⊎ (length L ≤ q) → at (lists_of L) q ≡ []
    by (inl l) = (h q l).0
    by (inr l) = past-end (lists_of L) q (let n = lines-long L in omega (arith, l, n))

-- a process that begins to gather by counts
pub gathers-first : (barrier : Bool) (ns : List ℕ) (L : List (Spared Token)) → length ns ≡ length L → HaveRoom barrier ns L → GathersBy barrier ns 0 L
gathers-first barrier ns L e h = record {
  counted = e;
  full = λ q l. absurd (omega (arith, l));
  room = λ q l. let a = (h q l).1 in omega (arith, a);
}

-- the greatest count
pub most-under : (ns : List ℕ) (m : ℕ) → ((r : ℕ) → get_or ns r 0 ≤ m) → most_in ns ≤ m
most-under [] m h = omega arith
most-under (n ∷ ns) m h = let a = h 0 in let b = most-under ns m (λ r. h (suc r)) in omega (arith, a, b)

pub most-over : (ns : List ℕ) (r : ℕ) → get_or ns r 0 ≤ most_in ns
most-over [] r = omega arith
most-over (n ∷ ns) zero = omega arith
most-over (n ∷ ns) (suc r) = let a = most-over ns r in omega (arith, a)

-- room for the count of a place, and for the least that all have
pub taken-under : (barrier : Bool) (ns : List ℕ) (least q room : ℕ) → IsLeast barrier ns least → max (get_or ns q 0) least ≤ room → taken_at barrier ns q ≤ room
taken-under true ns least q room i h = let a = i refl in omega (arith, a, h)
taken-under false ns least q room i h = omega (arith, h)

-- one place more that is empty
pub rooms-more : (f : ℕ → ℕ) (before after : List (Spared Token)) (k : ℕ) → ((q : ℕ) → q < k → (at (lists_of before) q ≡ []) × (f q ≤ room_at before q)) → at (lists_of after) k ≡ [] → f k ≤ room_at after k →
    ((q : ℕ) → nat_eq k q ≡ false → (at (lists_of after) q ≡ at (lists_of before) q) × (room_at after q ≡ room_at before q)) → (q : ℕ) → q < k + 1 → (at (lists_of after) q ≡ []) × (f q ≤ room_at after q)
rooms-more f before after k h a b o q w = by (either-nat k q)
  where
    by : (k ≡ q) ⊎ (nat_eq k q ≡ false) → (at (lists_of after) q ≡ []) × (f q ≤ room_at after q)
    by (inl z) = subst (λ j. (at (lists_of after) j ≡ []) × (f j ≤ room_at after j)) z (a, b)
    by (inr z) = let r = o q z in let d = nat-apart k q z in let g = h q (grind arith) in (r.0 ∙ g.0, let x = r.1 in let y = g.1 in omega (arith, x, y))

pub rooms-all : (barrier : Bool) (ns : List ℕ) (least : ℕ) (L : List (Spared Token)) (k : ℕ) → IsLeast barrier ns least → length L ≤ k → ((q : ℕ) → q < k → (at (lists_of L) q ≡ []) × (max (get_or ns q 0) least ≤ room_at L q)) → HaveRoom barrier ns L
rooms-all barrier ns least L k i n h q l = let r = h q (omega (arith, l, n)) in (r.0, taken-under barrier ns least q (room_at L q) i r.1)

pub empties-more : (before after : Streams Token) (k : ℕ) → ((q : ℕ) → q < k → at before q ≡ []) → at after k ≡ [] → ((q : ℕ) → nat_eq k q ≡ false → at after q ≡ at before q) → (q : ℕ) → q < k + 1 → at after q ≡ []
empties-more before after k h a o q w = by (either-nat k q)
  where
    by : (k ≡ q) ⊎ (nat_eq k q ≡ false) → at after q ≡ []
    by (inl z) = subst (λ j. at after j ≡ []) z a
    by (inr z) = let d = nat-apart k q z in o q z ∙ h q (grind arith)

pub empties-all : (X : Streams Token) (k : ℕ) → length X ≤ k → ((q : ℕ) → q < k → at X q ≡ []) → (q : ℕ) → at X q ≡ []
empties-all X k l h q = by (under q k)
  where
    under : (q k : ℕ) → (q < k) ⊎ (k ≤ q)
    under q k = grind arith

    by : (q < k) ⊎ (k ≤ q) → at X q ≡ []
    by (inl w) = h q w
    by (inr w) = past-end X q (omega (arith, w, l))

-- the one list that is filled
pub filled-emptied : (row : Streams Token) (place : ℕ) → FilledAt (Some place) row → (q : ℕ) → at (set row place []) q ≡ []
filled-emptied row place f q = by (either-nat place q)
  where
    by : (place ≡ q) ⊎ (nat_eq place q ≡ false) → at (set row place []) q ≡ []
    by (inl z) = subst (λ j. at (set row place []) j ≡ []) z (at-set row place [] f.0)
    by (inr z) = at-set-other row place q [] z ∙ f.2 q z

-- one token more at a place that has room
module _ (barrier : Bool) (ns : List ℕ) (full : ℕ) (L M : List (Spared Token)) (g : GathersBy barrier ns full L) (place : ℕ) (x : Token) (there : place < length L) (lists : lists_of M ≡ change_at place (λ xs. xs ++ (x ∷ [])) (lists_of L)) (counted : length M ≡ length L) (room : room_at M place + 1 ≡ room_at L place)
    (others : (q : ℕ) → nat_eq place q ≡ false → room_at M q ≡ room_at L q) where
  long-there : length (at (lists_of M) place) ≡ length (at (lists_of L) place) + 1
  long-there =
      let a = ap (λ X. length (at X place)) lists ∙ ap (λ v. length v) (at-change (lists_of L) place (λ xs. xs ++ (x ∷ [])) (let n = lines-long L in omega (arith, there, n))) in
      let b = length-append (at (lists_of L) place) (x ∷ []) in
      omega (arith, a, b)

  long-other : (q : ℕ) → nat_eq place q ≡ false → length (at (lists_of M) q) ≡ length (at (lists_of L) q)
  long-other q z = ap (λ X. length (at X q)) lists ∙ ap (λ v. length v) (at-change-other (lists_of L) place q (λ xs. xs ++ (x ∷ [])) z)

  longer : (q : ℕ) → length (at (lists_of L) q) ≤ length (at (lists_of M) q)
  longer q = by (either-nat place q)
    where
      by : (place ≡ q) ⊎ (nat_eq place q ≡ false) → length (at (lists_of L) q) ≤ length (at (lists_of M) q)
      by (inl z) = subst (λ j. length (at (lists_of L) j) ≤ length (at (lists_of M) j)) z (let a = long-there in omega (arith, a))
      by (inr z) = let a = long-other q z in omega (arith, a)

  roomy : (q : ℕ) → q < length L → taken_at barrier ns q ≤ length (at (lists_of M) q) + room_at M q
  roomy q l = by (either-nat place q)
    where
      by : (place ≡ q) ⊎ (nat_eq place q ≡ false) → taken_at barrier ns q ≤ length (at (lists_of M) q) + room_at M q
      by (inl z) = subst (λ j. taken_at barrier ns j ≤ length (at (lists_of M) j) + room_at M j) z (let a = long-there in let b = g.room place there in omega (arith, a, b, room))
      by (inr z) = let a = long-other q z in let b = others q z in let c = g.room q l in omega (arith, a, b, c)

  pub gathers-more : GathersBy barrier ns full M
  gathers-more = record {
    counted = g.counted ∙ sym counted;
    full = λ q l. let a = g.full q l in let b = longer q in omega (arith, a, b);
    room = λ q l. roomy q (omega (arith, l, counted));
  }
