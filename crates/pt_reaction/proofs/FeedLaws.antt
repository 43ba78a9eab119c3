-- What a row feeds, and what its outputs put on the channels.
use Rattle.std.proofs.Common.{◌≡◌, ℕ, zero, suc, ◌+◌, ◌<◌, ◌≤◌, List, [], ◌∷◌, ◌++◌, Bool, true, false, length, get_or, set, map, nat_eq, if◌then◌else◌, Vec, Global, refl, ap, ap₂, sym, ◌∙◌, arith, append_assoc, append-nil, zero-add, length-set, replicate}
use Rattle.std.proofs.lemmas.List.{get_or-set_same, get_or-set_other, map_push, length-map}
use Rattle.std.proofs.Math.ListN.{get_or-map}
use Rattle.std.proofs.lemmas.Bool.Decides.{nat_tests}
use Rattle.pt_meaning.specs.Streams.{Streams, at}
use Rattle.pt_meaning.specs.Net.{Source, Own, Output}
use Rattle.pt_reaction.specs.declared.feeds.Feed.{Feed}
use Rattle.pt_reaction.specs.Feeds.{Target, target_of, row_of, port_of, if_target, targets, rows_in, no_feed, AreTargets}
use Rattle.pt_reaction.specs.Given.{put_on}

-- the source is an own input, or an output of one of n children
abbrev pub IsWithin : ℕ → Source → Type 0
IsWithin n (Own port) = Unit {0}
IsWithin n (Output child port) = child < n

-- the targets among more channels
if-more : (b : Bool) (c port : ℕ) (xs ys zs : List Target) → xs ≡ ys ++ zs → if_target b c port xs ≡ if_target b c port ys ++ zs
if-more true c port xs ys zs e = ap (λ v. record { channel = c; port = port } ∷ v) e
if-more false c port xs ys zs e = e

pub targets-more : (n r c : ℕ) (ss : List Source) (s : Source) → targets n r c (ss ++ s ∷ []) ≡ targets n r c ss ++ if_target (nat_eq (row_of n s) r) (c + length ss) (port_of s) []
targets-more n r c [] s = ap (λ k. if_target (nat_eq (row_of n s) r) k (port_of s) []) (omega arith)
targets-more n r c (x ∷ ss) s =
    if-more (nat_eq (row_of n x) r) c (port_of x) (targets n r (suc c) (ss ++ s ∷ [])) (targets n r (suc c) ss) (if_target (nat_eq (row_of n s) r) (c + length (x ∷ ss)) (port_of s) [])
    (targets-more n r (suc c) ss s ∙ ap (λ k. targets n r (suc c) ss ++ if_target (nat_eq (row_of n s) r) k (port_of s) []) (next c (length ss)))
  where
    next : (c k : ℕ) → suc c + k ≡ c + suc k
    next c k = omega arith

-- no source, no targets
pub empty-targets : (n : ℕ) (rows : List (Vec Feed Global)) → length rows ≡ n + 1 → ((r : ℕ) → get_or (rows_in rows) r [] ≡ []) → AreTargets n [] rows
empty-targets n rows e h = record { counted = e; each = λ r l. ap (λ v. map target_of v) (h r) }

nothing-at : {A : Type 0} (k r : ℕ) → get_or (replicate {A = List A} k []) r [] ≡ []
nothing-at zero r = refl
nothing-at (suc k) zero = refl
nothing-at (suc k) (suc r) = nothing-at k r

-- a feed more on the row of the next channel's source
pub added : (n : ℕ) (ss : List Source) (s : Source) (rows rows' : List (Vec Feed Global)) (f : Feed) → AreTargets n ss rows → row_of n s < n + 1 → f.channel ≡ length ss → f.port ≡ port_of s →
    rows_in rows' ≡ set (rows_in rows) (row_of n s) (get_or (rows_in rows) (row_of n s) [] ++ f ∷ []) → AreTargets n (ss ++ s ∷ []) rows'
added n ss s rows rows' f h l c p e = record {
  counted = sym (length-map rows' (λ (v : Vec Feed Global). v.items)) ∙ ap (λ v. length v) e ∙ length-set (rows_in rows) (row_of n s) (get_or (rows_in rows) (row_of n s) [] ++ f ∷ []) ∙ length-map rows (λ (v : Vec Feed Global). v.items) ∙ h.counted;
  each = λ r b. each r b (nat_eq (row_of n s) r) refl;
}
  where
    wide : row_of n s < length (rows_in rows)
    wide = omega (arith, l, h.counted, length-map rows (λ (v : Vec Feed Global). v.items))

    each : (r : ℕ) → r < n + 1 → (b : Bool) → nat_eq (row_of n s) r ≡ b → map target_of (get_or (rows_in rows') r []) ≡ targets n r 0 (ss ++ s ∷ [])
    each r b true t =
        let same : row_of n s ≡ r = grind (arith, nat_tests, t) in
        ap (λ v. map target_of (get_or v r [])) e ∙ ap (λ j. map target_of (get_or (set (rows_in rows) (row_of n s) (get_or (rows_in rows) (row_of n s) [] ++ f ∷ [])) j [])) (sym same) ∙
        ap (λ v. map target_of v) (get_or-set_same (rows_in rows) (row_of n s) (get_or (rows_in rows) (row_of n s) [] ++ f ∷ []) [] wide) ∙
        map_push target_of (get_or (rows_in rows) (row_of n s) []) f ∙
        ap₂ (λ (x : List Target) (y : Target). x ++ y ∷ []) (h.each (row_of n s) l ∙ ap (λ j. targets n j 0 ss) same) (ap₂ (λ (a d : ℕ). let t : Target = record { channel = a; port = d } in t) (c ∙ sym (zero-add (length ss))) p) ∙
        ap (λ d. targets n r 0 ss ++ if_target d (0 + length ss) (port_of s) []) (sym t) ∙ sym (targets-more n r 0 ss s)
    each r b false t =
        let other : r ≡ row_of n s → ⊥ = λ z. absurd (grind (arith, nat_tests, t, z)) in
        ap (λ v. map target_of (get_or v r [])) e ∙ ap (λ v. map target_of v) (get_or-set_other (rows_in rows) (row_of n s) r (get_or (rows_in rows) (row_of n s) [] ++ f ∷ []) [] other) ∙ h.each r b ∙
        sym (append-nil (targets n r 0 ss)) ∙ ap (λ d. targets n r 0 ss ++ if_target d (0 + length ss) (port_of s) []) (sym t) ∙ sym (targets-more n r 0 ss s)

-- a source of no row
pub skipped : (n : ℕ) (ss : List Source) (s : Source) (rows : List (Vec Feed Global)) → AreTargets n ss rows → n < row_of n s → AreTargets n (ss ++ s ∷ []) rows
skipped n ss s rows h l = record {
  counted = h.counted;
  each = λ r b.
      let t : nat_eq (row_of n s) r ≡ false = grind (arith, nat_tests) in
      h.each r b ∙ sym (append-nil (targets n r 0 ss)) ∙ ap (λ d. targets n r 0 ss ++ if_target d (0 + length ss) (port_of s) []) (sym t) ∙ sym (targets-more n r 0 ss s);
}

-- a target's channel and port are there, and no channel has two targets
abbrev pub no_target : Target
no_target = record { channel = 0; port = 0 }

-- between these numbers
abbrev Between : (low high : ℕ) → Target → Type 0
Between low high t = (low ≤ t.channel) × (t.channel < high)

if-within : (b : Bool) (c high port : ℕ) (ts : List Target) → c < high → ((k : ℕ) (d : Target) → k < length ts → Between (suc c) high (get_or ts k d)) → (k : ℕ) (d : Target) → k < length (if_target b c port ts) → Between c high (get_or (if_target b c port ts) k d)
if-within true c high port ts l h zero d i = (omega arith, l)
if-within true c high port ts l h (suc k) d i = let q = h k d (omega arith) in (omega (arith, q.0), q.1)
if-within false c high port ts l h k d i = let q = h k d i in (omega (arith, q.0), q.1)

module _ (n r : ℕ) where
  target-within : (c high : ℕ) (ss : List Source) → c + length ss ≤ high → (k : ℕ) (d : Target) → k < length (targets n r c ss) → Between c high (get_or (targets n r c ss) k d)
  target-within c high [] l k d h = absurd (omega arith)
  target-within c high (s ∷ ss) l k d h = if-within (nat_eq (row_of n s) r) c high (port_of s) (targets n r (suc c) ss) (omega arith) (λ k d h. target-within (suc c) high ss (omega arith) k d h) k d h

  module _ (F : List Feed) (ss : List Source) (e : map target_of F ≡ targets n r 0 ss) where
    pub as-target : (k : ℕ) → target_of (get_or F k no_feed) ≡ get_or (targets n r 0 ss) k no_target
    as-target k = sym (get_or-map target_of F k no_feed) ∙ ap (λ v. get_or v k no_target) e

    pub as-long : length F ≡ length (targets n r 0 ss)
    as-long = sym (length-map F target_of) ∙ ap (λ v. length v) e

    pub feeds-channels : (channels : ℕ) → length ss ≤ channels → (k : ℕ) → k < length F → (get_or F k no_feed).channel < channels
    feeds-channels channels l k h = let t = target-within 0 (length ss) ss (omega arith) k no_target (omega (arith, h, as-long)) in omega (arith, t.1, l, ap (λ (x : Target). x.channel) (as-target k))

if-rising : (b : Bool) (c port : ℕ) (ts : List Target) → ((k : ℕ) (d : Target) → k < length ts → suc c ≤ (get_or ts k d).channel) → ((j k : ℕ) → j < k → k < length ts → (get_or ts j no_target).channel < (get_or ts k no_target).channel) → (j k : ℕ) → j < k → k < length (if_target b c port ts) → (get_or (if_target b c port ts) j no_target).channel < (get_or (if_target b c port ts) k no_target).channel
if-rising true c port ts low h zero zero l m = absurd (omega (arith, l))
if-rising true c port ts low h zero (suc k) l m = let a = low k no_target (omega (arith, m)) in omega (arith, a)
if-rising true c port ts low h (suc j) zero l m = absurd (omega (arith, l))
if-rising true c port ts low h (suc j) (suc k) l m = h j k (omega (arith, l)) (omega (arith, m))
if-rising false c port ts low h j k l m = h j k l m

rising : (n r c : ℕ) (ss : List Source) (j k : ℕ) → j < k → k < length (targets n r c ss) → (get_or (targets n r c ss) j no_target).channel < (get_or (targets n r c ss) k no_target).channel
rising n r c [] j k l m = absurd (omega (arith, m))
rising n r c (s ∷ ss) j k l m =
    if-rising (nat_eq (row_of n s) r) c (port_of s) (targets n r (suc c) ss) (λ i d h. let a = target-within n r (suc c) (suc c + length ss) ss (omega arith) i d h in a.0) (λ a b p q. rising n r (suc c) ss a b p q) j k l m

-- no channel has two feeds
pub feeds-apart : (n r : ℕ) (F : List Feed) (ss : List Source) → map target_of F ≡ targets n r 0 ss → (j k : ℕ) → j < k → k < length F → (get_or F j no_feed).channel < (get_or F k no_feed).channel
feeds-apart n r F ss e j k h l =
    let a = rising n r 0 ss j k h (omega (arith, l, as-long n r F ss e)) in
    let b = ap (λ (x : Target). x.channel) (as-target n r F ss e j) in
    let d = ap (λ (x : Target). x.channel) (as-target n r F ss e k) in
    omega (arith, a, b, d)

-- what a row puts on each channel
module _ {T : Type 0} (given : ℕ → List T) where
  abbrev if_row : Bool → List T → List T → List T
  if_row b xs g = if b then xs ++ g else xs

  abbrev row_puts : (n r : ℕ) → List Source → Streams T → Streams T
  row_puts n r [] X = X
  row_puts n r (s ∷ ss) [] = []
  row_puts n r (s ∷ ss) (x ∷ X) = if_row (nat_eq (row_of n s) r) x (given (port_of s)) ∷ row_puts n r ss X

  behind-set : (P : Streams T) (x : List T) (X : Streams T) (v : List T) → set (P ++ x ∷ X) (length P) v ≡ P ++ v ∷ X
  behind-set [] x X v = refl
  behind-set (p ∷ P) x X v = ap (λ Y. p ∷ Y) (behind-set P x X v)

  behind-at : (P : Streams T) (x : List T) (X : Streams T) → at (P ++ x ∷ X) (length P) ≡ x
  behind-at [] x X = refl
  behind-at (p ∷ P) x X = behind-at P x X

  one-longer : (P : Streams T) (x : List T) → length (P ++ x ∷ []) ≡ suc (length P)
  one-longer [] x = refl
  one-longer (p ∷ P) x = ap (λ k. suc k) (one-longer P x)

  put-one : (b : Bool) (ts : List Target) (port : ℕ) (P X : Streams T) (x : List T) → put_on given (if_target b (length P) port ts) (P ++ x ∷ X) ≡ put_on given ts (P ++ if_row b x (given port) ∷ X)
  put-one true ts port P X x = ap (λ V. put_on given ts V) (ap (λ v. set (P ++ x ∷ X) (length P) (v ++ given port)) (behind-at P x X) ∙ behind-set P x X (x ++ given port))
  put-one false ts port P X x = refl

  put-from : (n r : ℕ) (ss : List Source) (P X : Streams T) → length ss ≡ length X → put_on given (targets n r (length P) ss) (P ++ X) ≡ P ++ row_puts n r ss X
  put-from n r [] P X e = refl
  put-from n r (s ∷ ss) P [] e = absurd (omega (arith, e))
  put-from n r (s ∷ ss) P (x ∷ X) e =
      let y : List T = if_row (nat_eq (row_of n s) r) x (given (port_of s)) in
      put-one (nat_eq (row_of n s) r) (targets n r (suc (length P)) ss) (port_of s) P X x ∙
      ap₂ (λ k Z. put_on given (targets n r k ss) Z) (sym (one-longer P y)) (sym (append_assoc P (y ∷ []) X)) ∙ put-from n r ss (P ++ y ∷ []) X (omega (arith, e)) ∙ append_assoc P (y ∷ []) (row_puts n r ss X)

  -- row r puts on the channels that begin there
  pub puts-row : (n r : ℕ) (ss : List Source) (X : Streams T) → length ss ≡ length X → put_on given (targets n r 0 ss) X ≡ row_puts n r ss X
  puts-row n r ss X e = put-from n r ss [] X e
