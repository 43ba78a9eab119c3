-- What a row feeds, and what its outputs put on the channels.
use Rattle.std.proofs.Common.{◌≡◌, ℕ, zero, suc, ◌+◌, ◌<◌, ◌≤◌, List, [], ◌∷◌, ◌++◌, Bool, true, false, length, get_or, set, map, nat_eq, Option, Some, if◌then◌else◌, Vec, Global, refl, ap, ap₂, sym, ◌∙◌, arith, append_assoc, append-nil, zero-add, length-set, replicate}
use Rattle.std.specs.List.{All}
use Rattle.std.proofs.lemmas.List.{get_or-set_same, get_or-set_other, map_push, length-map}
use Rattle.std.proofs.Math.ListN.{get_or-map}
use Rattle.std.proofs.lemmas.Bool.Decides.{nat_tests}
use Rattle.pt_meaning.specs.Streams.{Streams, get}
use Rattle.pt_meaning.specs.Machine.{Partial, Unknown, partial_at}
use Rattle.pt_meaning.specs.Net.{Source, Own, Output}
use Rattle.pt_meaning.specs.Valuation.{unknowns}
use Rattle.pt_sr.specs.declared.feeds.Feed.{Feed}
use Rattle.pt_sr.specs.State.{learnt, all_of, after_children, at_first}
use Rattle.pt_sr.specs.Feeds.{Target, target_of, row_of, port_of, if_target, targets, rows_in, no_feed, AreTargets}
use Rattle.pt_sr.specs.Given.{learn_on}

-- the source is an own input, or an output of one of n children
abbrev pub IsWithin : ℕ → Source → Type 0
IsWithin n (Own port) = Unit {0}
IsWithin n (Output child port) = child < n

-- the targets among more channels
if-more : (b : Bool) (c port : ℕ) (xs ys zs : List Target) → xs ≡ ys ++ zs → if_target b c port xs ≡ if_target b c port ys ++ zs
if-more true c port xs ys zs e = ap (λ v. record { channel = c; port = port } ∷ v) e
if-more false c port xs ys zs e = e

pub targets-more : (n r c : ℕ) (ss : List Source) (s : Source) → targets n r c (ss ++ s ∷ []) ≡ targets n r c ss ++ if_target (nat_eq (row_of n s) r) (c + length ss) (port_of s) []
targets-more n r c [] s = ap (λ k. if_target (nat_eq (row_of n s) r) k (port_of s) []) (omega arith)
targets-more n r c (x ∷ ss) s =
    if-more (nat_eq (row_of n x) r) c (port_of x) (targets n r (suc c) (ss ++ s ∷ [])) (targets n r (suc c) ss) (if_target (nat_eq (row_of n s) r) (c + length (x ∷ ss)) (port_of s) [])
    (targets-more n r (suc c) ss s ∙ ap (λ k. targets n r (suc c) ss ++ if_target (nat_eq (row_of n s) r) k (port_of s) []) (next c (length ss)))
  where
    next : (c k : ℕ) → suc c + k ≡ c + suc k
    next c k = omega arith

-- no source, no targets
pub empty-targets : (n : ℕ) (rows : List (Vec Feed Global)) → length rows ≡ n + 1 → ((r : ℕ) → get_or (rows_in rows) r [] ≡ []) → AreTargets n [] rows
empty-targets n rows e h = record { counted = e; each = λ r l. ap (λ v. map target_of v) (h r) }

nothing-at : {A : Type 0} (k r : ℕ) → get_or (replicate {A = List A} k []) r [] ≡ []
nothing-at zero r = refl
nothing-at (suc k) zero = refl
nothing-at (suc k) (suc r) = nothing-at k r

-- a feed more on the row of the next channel's source
pub added : (n : ℕ) (ss : List Source) (s : Source) (rows rows' : List (Vec Feed Global)) (f : Feed) → AreTargets n ss rows → row_of n s < n + 1 → f.channel ≡ length ss → f.port ≡ port_of s →
    rows_in rows' ≡ set (rows_in rows) (row_of n s) (get_or (rows_in rows) (row_of n s) [] ++ f ∷ []) → AreTargets n (ss ++ s ∷ []) rows'
added n ss s rows rows' f h l c p e = record {
  counted = sym (length-map rows' (λ (v : Vec Feed Global). v.items)) ∙ ap (λ v. length v) e ∙ length-set (rows_in rows) (row_of n s) (get_or (rows_in rows) (row_of n s) [] ++ f ∷ []) ∙ length-map rows (λ (v : Vec Feed Global). v.items) ∙ h.counted;
  each = λ r b. each r b (nat_eq (row_of n s) r) refl;
}
  where
    wide : row_of n s < length (rows_in rows)
    wide = omega (arith, l, h.counted, length-map rows (λ (v : Vec Feed Global). v.items))

    each : (r : ℕ) → r < n + 1 → (b : Bool) → nat_eq (row_of n s) r ≡ b → map target_of (get_or (rows_in rows') r []) ≡ targets n r 0 (ss ++ s ∷ [])
    each r b true t =
        let same : row_of n s ≡ r = grind (arith, nat_tests, t) in
        ap (λ v. map target_of (get_or v r [])) e ∙ ap (λ j. map target_of (get_or (set (rows_in rows) (row_of n s) (get_or (rows_in rows) (row_of n s) [] ++ f ∷ [])) j [])) (sym same) ∙
        ap (λ v. map target_of v) (get_or-set_same (rows_in rows) (row_of n s) (get_or (rows_in rows) (row_of n s) [] ++ f ∷ []) [] wide) ∙
        map_push target_of (get_or (rows_in rows) (row_of n s) []) f ∙
        ap₂ (λ (x : List Target) (y : Target). x ++ y ∷ []) (h.each (row_of n s) l ∙ ap (λ j. targets n j 0 ss) same) (ap₂ (λ (a d : ℕ). let t : Target = record { channel = a; port = d } in t) (c ∙ sym (zero-add (length ss))) p) ∙
        ap (λ d. targets n r 0 ss ++ if_target d (0 + length ss) (port_of s) []) (sym t) ∙ sym (targets-more n r 0 ss s)
    each r b false t =
        let other : r ≡ row_of n s → ⊥ = λ z. absurd (grind (arith, nat_tests, t, z)) in
        ap (λ v. map target_of (get_or v r [])) e ∙ ap (λ v. map target_of v) (get_or-set_other (rows_in rows) (row_of n s) r (get_or (rows_in rows) (row_of n s) [] ++ f ∷ []) [] other) ∙ h.each r b ∙
        sym (append-nil (targets n r 0 ss)) ∙ ap (λ d. targets n r 0 ss ++ if_target d (0 + length ss) (port_of s) []) (sym t) ∙ sym (targets-more n r 0 ss s)

-- a source of no row
pub skipped : (n : ℕ) (ss : List Source) (s : Source) (rows : List (Vec Feed Global)) → AreTargets n ss rows → n < row_of n s → AreTargets n (ss ++ s ∷ []) rows
skipped n ss s rows h l = record {
  counted = h.counted;
  each = λ r b.
      let t : nat_eq (row_of n s) r ≡ false = grind (arith, nat_tests) in
      h.each r b ∙ sym (append-nil (targets n r 0 ss)) ∙ ap (λ d. targets n r 0 ss ++ if_target d (0 + length ss) (port_of s) []) (sym t) ∙ sym (targets-more n r 0 ss s);
}

-- a target's channel and port are there, and no channel has two targets
abbrev pub no_target : Target
no_target = record { channel = 0; port = 0 }

-- between these numbers
abbrev Between : (low high : ℕ) → Target → Type 0
Between low high t = (low ≤ t.channel) × (t.channel < high)

if-within : (b : Bool) (c high port : ℕ) (ts : List Target) → c < high → ((k : ℕ) (d : Target) → k < length ts → Between (suc c) high (get_or ts k d)) → (k : ℕ) (d : Target) → k < length (if_target b c port ts) → Between c high (get_or (if_target b c port ts) k d)
if-within true c high port ts l h zero d i = (omega arith, l)
if-within true c high port ts l h (suc k) d i = let q = h k d (omega arith) in (omega (arith, q.0), q.1)
if-within false c high port ts l h k d i = let q = h k d i in (omega (arith, q.0), q.1)

module _ (n r : ℕ) where
  target-within : (c high : ℕ) (ss : List Source) → c + length ss ≤ high → (k : ℕ) (d : Target) → k < length (targets n r c ss) → Between c high (get_or (targets n r c ss) k d)
  target-within c high [] l k d h = absurd (omega arith)
  target-within c high (s ∷ ss) l k d h = if-within (nat_eq (row_of n s) r) c high (port_of s) (targets n r (suc c) ss) (omega arith) (λ k d h. target-within (suc c) high ss (omega arith) k d h) k d h

  module _ (F : List Feed) (ss : List Source) (e : map target_of F ≡ targets n r 0 ss) where
    pub as-target : (k : ℕ) → target_of (get_or F k no_feed) ≡ get_or (targets n r 0 ss) k no_target
    as-target k = sym (get_or-map target_of F k no_feed) ∙ ap (λ v. get_or v k no_target) e

    pub as-long : length F ≡ length (targets n r 0 ss)
    as-long = sym (length-map F target_of) ∙ ap (λ v. length v) e

    pub feeds-channels : (channels : ℕ) → length ss ≤ channels → (k : ℕ) → k < length F → (get_or F k no_feed).channel < channels
    feeds-channels channels l k h = let t = target-within 0 (length ss) ss (omega arith) k no_target (omega (arith, h, as-long)) in omega (arith, t.1, l, ap (λ (x : Target). x.channel) (as-target k))

-- what a row lets know of each channel
module _ {T : Type 0} (given : ℕ → Option (List T)) where
  abbrev if_row : Bool → Partial T → Option (List T) → Partial T
  if_row b v g = if b then learnt v g else v

  abbrev row_learns : (n r : ℕ) → List Source → List (Partial T) → List (Partial T)
  row_learns n r [] V = V
  row_learns n r (s ∷ ss) [] = []
  row_learns n r (s ∷ ss) (v ∷ V) = if_row (nat_eq (row_of n s) r) v (given (port_of s)) ∷ row_learns n r ss V

  behind-set : (P : List (Partial T)) (x : Partial T) (X : List (Partial T)) (v : Partial T) → set (P ++ x ∷ X) (length P) v ≡ P ++ v ∷ X
  behind-set [] x X v = refl
  behind-set (p ∷ P) x X v = ap (λ Y. p ∷ Y) (behind-set P x X v)

  behind-at : (P : List (Partial T)) (x : Partial T) (X : List (Partial T)) → partial_at (P ++ x ∷ X) (length P) ≡ x
  behind-at [] x X = refl
  behind-at (p ∷ P) x X = behind-at P x X

  one-longer : (P : List (Partial T)) (x : Partial T) → length (P ++ x ∷ []) ≡ suc (length P)
  one-longer [] x = refl
  one-longer (p ∷ P) x = ap (λ k. suc k) (one-longer P x)

  learn-one : (b : Bool) (ts : List Target) (port : ℕ) (P X : List (Partial T)) (x : Partial T) → learn_on given (if_target b (length P) port ts) (P ++ x ∷ X) ≡ learn_on given ts (P ++ if_row b x (given port) ∷ X)
  learn-one true ts port P X x = ap (λ V. learn_on given ts V) (ap (λ v. set (P ++ x ∷ X) (length P) (learnt v (given port))) (behind-at P x X) ∙ behind-set P x X (learnt x (given port)))
  learn-one false ts port P X x = refl

  learn-from : (n r : ℕ) (ss : List Source) (P X : List (Partial T)) → length ss ≡ length X → learn_on given (targets n r (length P) ss) (P ++ X) ≡ P ++ row_learns n r ss X
  learn-from n r [] P X e = refl
  learn-from n r (s ∷ ss) P [] e = absurd (omega (arith, e))
  learn-from n r (s ∷ ss) P (x ∷ X) e =
      let y : Partial T = if_row (nat_eq (row_of n s) r) x (given (port_of s)) in
      learn-one (nat_eq (row_of n s) r) (targets n r (suc (length P)) ss) (port_of s) P X x ∙
      ap₂ (λ k Z. learn_on given (targets n r k ss) Z) (sym (one-longer P y)) (sym (append_assoc P (y ∷ []) X)) ∙ learn-from n r ss (P ++ y ∷ []) X (omega (arith, e)) ∙ append_assoc P (y ∷ []) (row_learns n r ss X)

  child-row : (n i : ℕ) (ss : List Source) (V : List (Partial T)) → i < n → row_learns n i ss V ≡ after_children i given ss V
  child-row n i [] V h = refl
  child-row n i (s ∷ ss) [] h = refl
  child-row n i (Own port ∷ ss) (v ∷ V) h =
      let t : nat_eq n i ≡ false = grind (arith, nat_tests) in
      ap₂ (λ b W. if_row b v (given port) ∷ W) t (child-row n i ss V h)
  child-row n i (Output child port ∷ ss) (v ∷ V) h = ap (λ W. if_row (nat_eq child i) v (given port) ∷ W) (child-row n i ss V h)

  -- the row of a child lets know what the definition says
  pub child-learns : (n i : ℕ) (ss : List Source) (V : List (Partial T)) → i < n → length ss ≡ length V → learn_on given (targets n i 0 ss) V ≡ after_children i given ss V
  child-learns n i ss V h e = learn-from n i ss [] V e ∙ child-row n i ss V h

-- and the row of the own inputs what arrives, where nothing is known yet
module _ {T : Type 0} (inputs : Streams T) (n : ℕ) where
  own-row : (ss : List Source) → All (λ s. IsWithin n s) ss → row_learns (all_of inputs) n n ss (unknowns ss) ≡ map (λ s. at_first inputs s) ss
  own-row [] h = refl
  own-row (Own port ∷ ss) h =
      let t : nat_eq n n ≡ true = grind (arith, nat_tests) in
      ap₂ (λ b W. if_row (all_of inputs) b Unknown (all_of inputs port) ∷ W) t (own-row ss (λ c d l. h (suc c) d (omega (arith, l))))
  own-row (Output child port ∷ ss) h =
      let l : child < n = h 0 (Own 0) (omega arith) in
      let t : nat_eq child n ≡ false = grind (arith, nat_tests) in
      ap₂ (λ b W. if_row (all_of inputs) b Unknown (all_of inputs port) ∷ W) t (own-row ss (λ c d l. h (suc c) d (omega (arith, l))))

  unknowns-long : (ss : List Source) → length (unknowns {T = T} ss) ≡ length ss
  unknowns-long [] = refl
  unknowns-long (s ∷ ss) = ap (λ k. suc k) (unknowns-long ss)

  pub own-learns : (ss : List Source) → All (λ s. IsWithin n s) ss → learn_on (all_of inputs) (targets n n 0 ss) (unknowns ss) ≡ map (λ s. at_first inputs s) ss
  own-learns ss h = learn-from (all_of inputs) n n ss [] (unknowns ss) (sym (unknowns-long ss)) ∙ own-row ss h

-- what stands on some targets
first-in : (b : Bool) (c port : ℕ) (ts : List Target) (d : Target) → b ≡ true → (k : ℕ) × (k < length (if_target b c port ts)) × ((get_or (if_target b c port ts) k d).channel ≡ c + 0)
first-in true c port ts d e = (0, omega arith, omega arith)
first-in false c port ts d e = absurd (cc)

later-in : (b : Bool) (c port m : ℕ) (ts : List Target) (d : Target) → (k : ℕ) × (k < length ts) × ((get_or ts k d).channel ≡ m) → (k : ℕ) × (k < length (if_target b c port ts)) × ((get_or (if_target b c port ts) k d).channel ≡ m)
later-in true c port m ts d r = let l = r.1 in (suc r.0, omega (arith, l), r.2)
later-in false c port m ts d r = r

-- each channel that child i feeds is a target of its row
pub is-target : (n i c : ℕ) (ss : List Source) (j port : ℕ) (d : Target) → get ss j ≡ Some (Output i port) → (k : ℕ) × (k < length (targets n i c ss)) × ((get_or (targets n i c ss) k d).channel ≡ c + j)
is-target n i c [] j port d e = absurd (cc)
is-target n i c (Own p ∷ ss) zero port d e = absurd (cc)
is-target n i c (Output a p ∷ ss) zero port d e =
    let z : a ≡ i = cc in
    let t : nat_eq a i ≡ true = grind (arith, nat_tests, z) in
    first-in (nat_eq a i) c p (targets n i (suc c) ss) d t
is-target n i c (s ∷ ss) (suc j) port d e =
    let r = is-target n i (suc c) ss j port d e in
    later-in (nat_eq (row_of n s) i) c (port_of s) (c + suc j) (targets n i (suc c) ss) d (r.0, r.1, r.2 ∙ next c j)
  where
    next : (c j : ℕ) → suc c + j ≡ c + suc j
    next c j = omega arith

-- and each target of the row of child i is a channel that it feeds
pub has-source : (n i c : ℕ) (ss : List Source) (k : ℕ) (d : Target) → i < n → k < length (targets n i c ss) → (j port : ℕ) × (get ss j ≡ Some (Output i port)) × ((get_or (targets n i c ss) k d).channel ≡ c + j)
has-source n i c [] k d h l = absurd (omega (arith, l))
has-source n i c (s ∷ ss) k d h l = by (nat_eq (row_of n s) i) refl k l (λ j m. has-source n i (suc c) ss j d h m)
  where
    further : (m : ℕ) (ts : List Target) (k : ℕ) → (j port : ℕ) × (get ss j ≡ Some (Output i port)) × ((get_or ts k d).channel ≡ suc c + j) → (j port : ℕ) × (get (s ∷ ss) j ≡ Some (Output i port)) × ((get_or ts k d).channel ≡ c + j)
    further m ts k r = (suc r.0, r.1, r.2, r.3 ∙ next c r.0)
      where
        next : (c j : ℕ) → suc c + j ≡ c + suc j
        next c j = omega arith

    source : (s : Source) → nat_eq (row_of n s) i ≡ true → (port : ℕ) × (Some s ≡ Some (Output i port))
    source (Own p) t = absurd (grind (arith, nat_tests, t))
    source (Output a p) t = let z : a ≡ i = grind (arith, nat_tests, t) in (p, ap (λ m. Some (Output m p)) z)

    by : (b : Bool) → nat_eq (row_of n s) i ≡ b → (k : ℕ) → k < length (if_target b c (port_of s) (targets n i (suc c) ss)) →
        ((j : ℕ) → j < length (targets n i (suc c) ss) → (m port : ℕ) × (get ss m ≡ Some (Output i port)) × ((get_or (targets n i (suc c) ss) j d).channel ≡ suc c + m)) →
        (j port : ℕ) × (get (s ∷ ss) j ≡ Some (Output i port)) × ((get_or (if_target b c (port_of s) (targets n i (suc c) ss)) k d).channel ≡ c + j)
    by true t zero l r = let p = source s t in (0, p.0, p.1, omega arith)
    by true t (suc k) l r = further 0 (targets n i (suc c) ss) k (r k (omega (arith, l)))
    by false t k l r = further 0 (targets n i (suc c) ss) k (r k l)
