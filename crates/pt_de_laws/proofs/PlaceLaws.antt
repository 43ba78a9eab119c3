-- Lists by index, and what stands at the places of a child.
use Rattle.std.proofs.Common.{◌≡◌, ℕ, zero, suc, ◌+◌, ◌<◌, ◌≤◌, List, [], ◌∷◌, Bool, true, false, length, get_or, set, take, drop, map, nat_eq, nat_lt, Option, Some, None, if◌then◌else◌, refl, ap, subst, ◌∙◌, arith}
use Rattle.std.proofs.lemmas.Bool.Decides.{nat_tests}
use Rattle.pt_meaning.specs.Streams.{Streams, at, get}
use Rattle.pt_meaning.specs.Machine.{Partial, Unknown, Known, partial_at}
use Rattle.pt_meaning.specs.Net.{Source, Net}
use Rattle.pt_meaning.specs.Valuation.{known, known_then, tokens_of}
use Rattle.pt_meaning.specs.Running.{total}
use Rattle.pt_meaning.specs.Closed.{if_there}
use Rattle.pt_laws.specs.Channels.{further, channel_at, tokens_in, source_in}
use Rattle.pt_laws.specs.TickRuns.{places_at}
use Rattle.pt_laws.proofs.Indexed.{drop-more}
use Rattle.pt_laws.proofs.ChannelLaws.{at-first, tokens-further}

pub get-or-there : {B : Type 0} (xs : List B) (i : ℕ) (d : B) → i < length xs → get xs i ≡ Some (get_or xs i d)
get-or-there [] i d h = absurd (omega (arith, h))
get-or-there (x ∷ xs) zero d h = refl
get-or-there (x ∷ xs) (suc i) d h = get-or-there xs i d (omega (arith, h))

pub get-or-of : {B : Type 0} (xs : List B) (i : ℕ) (d x : B) → get xs i ≡ Some x → get_or xs i d ≡ x
get-or-of [] i d x e = absurd (cc)
get-or-of (y ∷ xs) zero d x e = cc
get-or-of (y ∷ xs) (suc i) d x e = get-or-of xs i d x e

pub get-short : {B : Type 0} (xs : List B) (i : ℕ) (x : B) → get xs i ≡ Some x → i < length xs
get-short [] i x e = absurd (cc)
get-short (y ∷ xs) zero x e = omega arith
get-short (y ∷ xs) (suc i) x e = let r = get-short xs i x e in omega (arith, r)

-- within a list the value past its end doesn't count
pub get-or-any : {B : Type 0} (xs : List B) (i : ℕ) (d e : B) → i < length xs → get_or xs i d ≡ get_or xs i e
get-or-any [] i d e h = absurd (omega (arith, h))
get-or-any (x ∷ xs) zero d e h = refl
get-or-any (x ∷ xs) (suc i) d e h = get-or-any xs i d e (omega (arith, h))

pub get-or-map : {B C : Type 0} (f : B → C) (xs : List B) (i : ℕ) (d : B) (e : C) → i < length xs → get_or (map f xs) i e ≡ f (get_or xs i d)
get-or-map f [] i d e h = absurd (omega (arith, h))
get-or-map f (x ∷ xs) zero d e h = refl
get-or-map f (x ∷ xs) (suc i) d e h = get-or-map f xs i d e (omega (arith, h))

pub map-set : {B C : Type 0} (f : B → C) (xs : List B) (i : ℕ) (x : B) → map f (set xs i x) ≡ set (map f xs) i (f x)
map-set f [] i x = refl
map-set f (y ∷ xs) zero x = refl
map-set f (y ∷ xs) (suc i) x = ap (λ ys. f y ∷ ys) (map-set f xs i x)

pub get-or-past : {B : Type 0} (xs : List B) (i : ℕ) (d : B) → length xs ≤ i → get_or xs i d ≡ d
get-or-past [] i d h = refl
get-or-past (x ∷ xs) zero d h = absurd (omega (arith, h))
get-or-past (x ∷ xs) (suc i) d h = get-or-past xs i d (omega (arith, h))

pub mapped-at : {B : Type 0} (x : B) (ns : List ℕ) (i : ℕ) → get_or (map (λ n. x) ns) i x ≡ x
mapped-at x [] i = refl
mapped-at x (n ∷ ns) zero = refl
mapped-at x (n ∷ ns) (suc i) = mapped-at x ns i

pub at-mapped : {B T : Type 0} (f : B → List T) (xs : List B) (c : ℕ) (x : B) → get xs c ≡ Some x → at (map f xs) c ≡ f x
at-mapped f [] c x e = absurd (cc)
at-mapped f (y ∷ xs) zero x e = let a : y ≡ x = cc in ap f a
at-mapped f (y ∷ xs) (suc c) x e = at-mapped f xs c x e

-- a test of equal numbers
pub same-test : (i : ℕ) → nat_eq i i ≡ true
same-test i = grind (arith, nat_tests)

pub equal-by : (j i : ℕ) → nat_eq j i ≡ true → j ≡ i
equal-by j i t = grind (arith, nat_tests, t)

pub other-test : (j i : ℕ) → (j ≡ i → ⊥) → nat_eq j i ≡ false
other-test j i z = by (nat_eq j i) refl
  where
    by : (b : Bool) → nat_eq j i ≡ b → nat_eq j i ≡ false
    by true t = absurd (z (equal-by j i t))
    by false t = t

-- what is known of a channel, nothing where there is none
abbrev pub known_in : {T : Type 0} → List (Partial T) → Option ℕ → Partial T
known_in V None = Unknown
known_in V (Some c) = partial_at V c

pub places-later : {B : Type 0} (n : ℕ) (ns : List ℕ) (i : ℕ) (V : List B) → places_at (n ∷ ns) (suc i) V ≡ places_at ns i (drop n V)
places-later {B} n ns i V = ap (λ (X : List B). take (get_or ns i 0) X) (drop-more n (total (take i ns)) V)

-- the places of a child by its channels
module _ {T : Type 0} where
  known-drop : (n : ℕ) (V : List (Partial T)) (q : ℕ) → partial_at (drop n V) q ≡ partial_at V (n + q)
  known-drop zero V q = let a : q ≡ 0 + q = omega arith in ap (λ v. partial_at V v) a
  known-drop (suc n) [] q = refl
  known-drop (suc n) (v ∷ V) q = let a : suc (n + q) ≡ suc n + q = omega arith in known-drop n V q ∙ ap (λ w. partial_at (v ∷ V) w) a

  within-known : (n q : ℕ) (V : List (Partial T)) → nat_lt q n ≡ true → partial_at (take n V) q ≡ partial_at V q
  within-known zero q V e = absurd (grind (arith, nat_tests, e))
  within-known (suc n) q [] e = refl
  within-known (suc n) zero (v ∷ V) e = refl
  within-known (suc n) (suc q) (v ∷ V) e = let a : nat_lt q n ≡ true = grind (arith, nat_tests, e) in within-known n q V a

  beyond-known : (n q : ℕ) (V : List (Partial T)) → nat_lt q n ≡ false → partial_at (take n V) q ≡ Unknown
  beyond-known zero q V e = refl
  beyond-known (suc n) q [] e = refl
  beyond-known (suc n) zero (v ∷ V) e = absurd (grind (arith, nat_tests, e))
  beyond-known (suc n) (suc q) (v ∷ V) e = let a : nat_lt q n ≡ false = grind (arith, nat_tests, e) in beyond-known n q V a

  known-first : (n q : ℕ) (V : List (Partial T)) → partial_at (take n V) q ≡ known_in V (if nat_lt q n then Some q else None)
  known-first n q V = go (nat_lt q n) refl
    where
      go : (b : Bool) → nat_lt q n ≡ b → partial_at (take n V) q ≡ known_in V (if b then Some q else None)
      go true e = within-known n q V e
      go false e = beyond-known n q V e

  known-further : (n : ℕ) (V : List (Partial T)) (o : Option ℕ) → known_in (drop n V) o ≡ known_in V (further n o)
  known-further n V None = refl
  known-further n V (Some c) = known-drop n V c

  pub place-known : (ns : List ℕ) (i q : ℕ) (V : List (Partial T)) → partial_at (places_at ns i V) q ≡ known_in V (channel_at ns i q)
  place-known [] i q V = refl
  place-known (n ∷ ns) zero q V = known-first n q V
  place-known (n ∷ ns) (suc i) q V = ap (λ (X : List (Partial T)). partial_at X q) (places-later n ns i V) ∙ place-known ns i q (drop n V) ∙ known-further n V (channel_at ns i q)

  pub place-tokens : (ns : List ℕ) (i q : ℕ) (X : Streams T) → at (places_at ns i X) q ≡ tokens_in X (channel_at ns i q)
  place-tokens [] i q X = refl
  place-tokens (n ∷ ns) zero q X = at-first n q X
  place-tokens (n ∷ ns) (suc i) q X = ap (λ (Y : Streams T). at Y q) (places-later n ns i X) ∙ place-tokens ns i q (drop n X) ∙ tokens-further n X (channel_at ns i q)

  -- inputs that are known one by one are known
  pub known-by : (vs : List (Partial T)) (X : Streams T) → length vs ≡ length X → ((q : ℕ) → q < length X → partial_at vs q ≡ Known (at X q)) → known vs ≡ Some X
  known-by [] [] e h = refl
  known-by [] (xs ∷ X) e h = absurd (omega (arith, e))
  known-by (v ∷ vs) [] e h = absurd (omega (arith, e))
  known-by (v ∷ vs) (xs ∷ X) e h =
      let tail : known vs ≡ Some X = known-by vs X (omega (arith, e)) (λ q l. h (suc q) (omega (arith, l))) in
      let head : v ≡ Known xs = h 0 (omega arith) in
      ap (λ o. known_then v o) tail ∙ ap (λ (w : Partial T). known_then w (Some X)) head

  -- and what is known so is a list of them
  pub knowns-by : (V : List (Partial T)) (X : Streams T) → length V ≡ length X → ((c : ℕ) → c < length X → partial_at V c ≡ Known (at X c)) → V ≡ map (λ (xs : List T). Known xs) X
  knowns-by [] [] e h = refl
  knowns-by [] (xs ∷ X) e h = absurd (omega (arith, e))
  knowns-by (v ∷ V) [] e h = absurd (omega (arith, e))
  knowns-by (v ∷ V) (xs ∷ X) e h =
      let head : v ≡ Known xs = h 0 (omega arith) in
      ap (λ (W : List (Partial T)). v ∷ W) (knowns-by V X (omega (arith, e)) (λ c l. h (suc c) (omega (arith, l)))) ∙ ap (λ (w : Partial T). w ∷ map (λ (xs : List T). Known xs) X) head

  pub knowns-tokens : (n : ℕ) (X : Streams T) → tokens_of (drop n (map (λ (xs : List T). Known xs) X)) ≡ drop n X
  knowns-tokens zero [] = refl
  knowns-tokens zero (xs ∷ X) = ap (λ (Y : Streams T). xs ∷ Y) (knowns-tokens zero X)
  knowns-tokens (suc n) [] = refl
  knowns-tokens (suc n) (xs ∷ X) = knowns-tokens n X

-- as many places
take-long : {B C : Type 0} (n : ℕ) (X : List B) (Y : List C) → length X ≡ length Y → length (take n X) ≡ length (take n Y)
take-long zero X Y e = refl
take-long (suc n) [] [] e = refl
take-long (suc n) [] (y ∷ Y) e = absurd (omega (arith, e))
take-long (suc n) (x ∷ X) [] e = absurd (omega (arith, e))
take-long (suc n) (x ∷ X) (y ∷ Y) e = ap (λ m. suc m) (take-long n X Y (omega (arith, e)))

drop-long : {B C : Type 0} (n : ℕ) (X : List B) (Y : List C) → length X ≡ length Y → length (drop n X) ≡ length (drop n Y)
drop-long zero X Y e = e
drop-long (suc n) [] [] e = refl
drop-long (suc n) [] (y ∷ Y) e = absurd (omega (arith, e))
drop-long (suc n) (x ∷ X) [] e = absurd (omega (arith, e))
drop-long (suc n) (x ∷ X) (y ∷ Y) e = drop-long n X Y (omega (arith, e))

pub places-long : {B C : Type 0} (ns : List ℕ) (i : ℕ) (X : List B) (Y : List C) → length X ≡ length Y → length (places_at ns i X) ≡ length (places_at ns i Y)
places-long ns i X Y e = take-long (get_or ns i 0) (drop (total (take i ns)) X) (drop (total (take i ns)) Y) (drop-long (total (take i ns)) X Y e)

-- a place that a child has ends at a channel
within-first : {B : Type 0} (n q : ℕ) (V : List B) → q < length (take n V) → (nat_lt q n ≡ true) × (q < length V)
within-first zero q V h = absurd (omega (arith, h))
within-first (suc n) q [] h = absurd (omega (arith, h))
within-first (suc n) zero (v ∷ V) h = (grind (arith, nat_tests), omega arith)
within-first (suc n) (suc q) (v ∷ V) h = let r = within-first n q V (omega (arith, h)) in (grind (arith, nat_tests, r.0), omega (arith, r.1))

within-drop : {B : Type 0} (n c : ℕ) (V : List B) → c < length (drop n V) → n + c < length V
within-drop zero c V h = omega (arith, h)
within-drop (suc n) c [] h = absurd (omega (arith, h))
within-drop (suc n) c (v ∷ V) h = let r = within-drop n c V h in omega (arith, r)

pub channel-there : {B : Type 0} (ns : List ℕ) (i q : ℕ) (V : List B) → q < length (places_at ns i V) → (c : ℕ) × (channel_at ns i q ≡ Some c) × (c < length V)
channel-there [] i q V h = absurd (omega (arith, h))
channel-there (n ∷ ns) zero q V h = let r = within-first n q V h in (q, ap (λ (b : Bool). let o : Option ℕ = if b then Some q else None in o) r.0, r.1)
channel-there {B} (n ∷ ns) (suc i) q V h =
    let r = channel-there ns i q (drop n V) (subst (λ (X : List B). q < length X) (places-later n ns i V) h) in
    (n + r.0, ap (λ (o : Option ℕ). further n o) r.1, within-drop n r.0 V r.2)

-- and has a source
pub source-there : {B : Type 0} (net : Net) (i q : ℕ) (V : List B) → length V ≡ length net.sources → q < length (places_at net.places i V) → (c : ℕ) × (src : Source) × (channel_at net.places i q ≡ Some c) × (get net.sources c ≡ Some src) × (source_in net i q ≡ Some src)
source-there net i q V e h =
    let r = channel-there net.places i q V h in
    let s = found net.sources r.0 (omega (arith, r.2, e)) in
    (r.0, s.0, r.1, s.1, ap (λ (o : Option ℕ). if_there (get net.sources) o) r.1 ∙ s.1)
  where
    found : (cs : List Source) (c : ℕ) → c < length cs → (x : Source) × (get cs c ≡ Some x)
    found [] c l = absurd (omega (arith, l))
    found (x ∷ cs) zero l = (x, refl)
    found (x ∷ cs) (suc c) l = found cs c (omega (arith, l))
