-- What a row feeds, and what its outputs put on the channels.
use Rattle.std.proofs.Common.{◌≡◌, ℕ, zero, suc, ◌+◌, ◌-◌, ◌/◌, ◌<◌, ◌≤◌, List, [], ◌∷◌, ◌++◌, Bool, true, false, length, get_or, set, take, drop, map, nat_eq, Option, Some, None, if◌then◌else◌, Vec, Global, refl, ap, ap₂, sym, ◌∙◌, arith, append_assoc, append-nil, zero-add, length-set, replicate}
use Rattle.std.proofs.lemmas.List.{get_or-set_same, get_or-set_other, drop_more, map_push, length-map, length-replicate, take_at, drop_at}
use Rattle.std.proofs.Math.ListN.{get_or-map}
use Rattle.std.proofs.lemmas.Bool.Decides.{nat_tests}
use Rattle.pt_meaning.specs.Streams.{Streams, at}
use Rattle.pt_meaning.specs.Net.{Source, Own, Output}
use Rattle.pt_meaning.specs.Kahn.{arrived}
use Rattle.pt_meaning.specs.Sdf.{number_at, allows, all_allow}
use Rattle.pt_meaning.specs.Running.{plus, puts, puts_on}
use Rattle.pt_sdf_parts.specs.declared.feeds.Feed.{Feed}
use Rattle.pt_sdf_parts.specs.Feeds.{Target, target_of, row_of, port_of, if_target, targets, row_puts, put_back, rows_in, no_feed, AreTargets, MovesOnce, AreApart, copy_for, copies_for, AreThere, min_with, allowed_by}
use Rattle.pt_sdf_parts.proofs.Lists.{at-is}

-- the source is an own input, or an output of one of n children
abbrev pub IsWithin : ℕ → Source → Type 0
IsWithin n (Own port) = Unit {0}
IsWithin n (Output child port) = child < n

-- the targets among more channels
if-more : (b : Bool) (c port : ℕ) (xs ys zs : List Target) → xs ≡ ys ++ zs → if_target b c port xs ≡ if_target b c port ys ++ zs
if-more true c port xs ys zs e = ap (λ v. record { channel = c; port = port } ∷ v) e
if-more false c port xs ys zs e = e

pub targets-more : (n r c : ℕ) (ss : List Source) (s : Source) → targets n r c (ss ++ s ∷ []) ≡ targets n r c ss ++ if_target (nat_eq (row_of n s) r) (c + length ss) (port_of s) []
targets-more n r c [] s = ap (λ k. if_target (nat_eq (row_of n s) r) k (port_of s) []) (omega arith)
targets-more n r c (x ∷ ss) s =
    if-more (nat_eq (row_of n x) r) c (port_of x) (targets n r (suc c) (ss ++ s ∷ [])) (targets n r (suc c) ss) (if_target (nat_eq (row_of n s) r) (c + length (x ∷ ss)) (port_of s) [])
    (targets-more n r (suc c) ss s ∙ ap (λ k. targets n r (suc c) ss ++ if_target (nat_eq (row_of n s) r) k (port_of s) []) (next c (length ss)))
  where
    next : (c k : ℕ) → suc c + k ≡ c + suc k
    next c k = omega arith

-- no source, no targets
pub empty-targets : (n : ℕ) (rows : List (Vec Feed Global)) → length rows ≡ n + 1 → ((r : ℕ) → get_or (rows_in rows) r [] ≡ []) → AreTargets n [] rows
empty-targets n rows e h = record { counted = e; each = λ r l. ap (λ v. map target_of v) (h r) }

nothing-at : {A : Type 0} (k r : ℕ) → get_or (replicate {A = List A} k []) r [] ≡ []
nothing-at zero r = refl
nothing-at (suc k) zero = refl
nothing-at (suc k) (suc r) = nothing-at k r

pub empty-rows : (n k : ℕ) (rows : List (Vec Feed Global)) → rows_in rows ≡ replicate k [] → k ≡ n + 1 → AreTargets n [] rows
empty-rows n k rows e all = empty-targets n rows (sym (length-map rows (λ (row : Vec Feed Global). row.items)) ∙ ap length e ∙ length-replicate k [] ∙ all) (λ r. ap (λ xs. get_or xs r []) e ∙ nothing-at k r)

-- a feed more on the row of the next channel's source
pub added : (n : ℕ) (ss : List Source) (s : Source) (rows rows' : List (Vec Feed Global)) (f : Feed) → AreTargets n ss rows → row_of n s < n + 1 → f.channel ≡ length ss → f.port ≡ port_of s →
    rows_in rows' ≡ set (rows_in rows) (row_of n s) (get_or (rows_in rows) (row_of n s) [] ++ f ∷ []) → AreTargets n (ss ++ s ∷ []) rows'
added n ss s rows rows' f h l c p e = record {
  counted = sym (length-map rows' (λ (v : Vec Feed Global). v.items)) ∙ ap (λ v. length v) e ∙ length-set (rows_in rows) (row_of n s) (get_or (rows_in rows) (row_of n s) [] ++ f ∷ []) ∙ length-map rows (λ (v : Vec Feed Global). v.items) ∙ h.counted;
  each = λ r b. each r b (nat_eq (row_of n s) r) refl;
}
  where
    wide : row_of n s < length (rows_in rows)
    wide = omega (arith, l, h.counted, length-map rows (λ (v : Vec Feed Global). v.items))

    each : (r : ℕ) → r < n + 1 → (b : Bool) → nat_eq (row_of n s) r ≡ b → map target_of (get_or (rows_in rows') r []) ≡ targets n r 0 (ss ++ s ∷ [])
    each r b true t =
        let same : row_of n s ≡ r = grind (arith, nat_tests, t) in
        ap (λ v. map target_of (get_or v r [])) e ∙ ap (λ j. map target_of (get_or (set (rows_in rows) (row_of n s) (get_or (rows_in rows) (row_of n s) [] ++ f ∷ [])) j [])) (sym same) ∙
        ap (λ v. map target_of v) (get_or-set_same (rows_in rows) (row_of n s) (get_or (rows_in rows) (row_of n s) [] ++ f ∷ []) [] wide) ∙
        map_push target_of (get_or (rows_in rows) (row_of n s) []) f ∙
        ap₂ (λ (x : List Target) (y : Target). x ++ y ∷ []) (h.each (row_of n s) l ∙ ap (λ j. targets n j 0 ss) same) (ap₂ (λ (a d : ℕ). let t : Target = record { channel = a; port = d } in t) (c ∙ sym (zero-add (length ss))) p) ∙
        ap (λ d. targets n r 0 ss ++ if_target d (0 + length ss) (port_of s) []) (sym t) ∙ sym (targets-more n r 0 ss s)
    each r b false t =
        let other : r ≡ row_of n s → ⊥ = λ z. absurd (grind (arith, nat_tests, t, z)) in
        ap (λ v. map target_of (get_or v r [])) e ∙ ap (λ v. map target_of v) (get_or-set_other (rows_in rows) (row_of n s) r (get_or (rows_in rows) (row_of n s) [] ++ f ∷ []) [] other) ∙ h.each r b ∙
        sym (append-nil (targets n r 0 ss)) ∙ ap (λ d. targets n r 0 ss ++ if_target d (0 + length ss) (port_of s) []) (sym t) ∙ sym (targets-more n r 0 ss s)

-- a source of no row
pub skipped : (n : ℕ) (ss : List Source) (s : Source) (rows : List (Vec Feed Global)) → AreTargets n ss rows → n < row_of n s → AreTargets n (ss ++ s ∷ []) rows
skipped n ss s rows h l = record {
  counted = h.counted;
  each = λ r b.
      let t : nat_eq (row_of n s) r ≡ false = grind (arith, nat_tests) in
      h.each r b ∙ sym (append-nil (targets n r 0 ss)) ∙ ap (λ d. targets n r 0 ss ++ if_target d (0 + length ss) (port_of s) []) (sym t) ∙ sym (targets-more n r 0 ss s);
}

-- what a row puts on each channel, target by target
module _ {T : Type 0} where
  behind-set : (P : Streams T) (x : List T) (X : Streams T) (v : List T) → set (P ++ x ∷ X) (length P) v ≡ P ++ v ∷ X
  behind-set [] x X v = refl
  behind-set (p ∷ P) x X v = ap (λ Y. p ∷ Y) (behind-set P x X v)

  behind-get : (P : Streams T) (x : List T) (X : Streams T) → get_or (P ++ x ∷ X) (length P) [] ≡ x
  behind-get [] x X = refl
  behind-get (p ∷ P) x X = behind-get P x X

  one-longer : (P : Streams T) (x : List T) → length (P ++ x ∷ []) ≡ suc (length P)
  one-longer [] x = refl
  one-longer (p ∷ P) x = ap (λ k. suc k) (one-longer P x)

  put-one : (b : Bool) (ts : List Target) (port : ℕ) (out P X Y : Streams T) (x : List T) → put_back ts out (P ++ x ∷ X) ≡ P ++ x ∷ Y → put_back (if_target b (length P) port ts) out (P ++ x ∷ X) ≡ P ++ (x ++ (if b then at out port else [])) ∷ Y
  put-one true ts port out P X Y x go =
      ap (λ Z. set Z (length P) (get_or Z (length P) [] ++ at out port)) go ∙ ap (λ v. set (P ++ x ∷ Y) (length P) (v ++ at out port)) (behind-get P x Y) ∙ behind-set P x Y (x ++ at out port)
  put-one false ts port out P X Y x go = go ∙ ap (λ v. P ++ v ∷ Y) (sym (append-nil x))

  feeds-put : (n r : ℕ) (out : Streams T) (ss : List Source) (P X : Streams T) → length ss ≡ length X → put_back (targets n r (length P) ss) out (P ++ X) ≡ P ++ plus X (row_puts n r out ss)
  feeds-put n r out [] P [] e = refl
  feeds-put n r out [] P (x ∷ X) e = absurd (omega arith)
  feeds-put n r out (s ∷ ss) P [] e = absurd (omega arith)
  feeds-put n r out (s ∷ ss) P (x ∷ X) e =
      put-one (nat_eq (row_of n s) r) (targets n r (suc (length P)) ss) (port_of s) out P X (plus X (row_puts n r out ss)) x
      (ap₂ (λ k Z. put_back (targets n r k ss) out Z) (sym (one-longer P x)) (sym (append_assoc P (x ∷ []) X)) ∙ feeds-put n r out ss (P ++ x ∷ []) X (omega arith) ∙ append_assoc P (x ∷ []) (plus X (row_puts n r out ss)))

  pub put-back-is : (n r : ℕ) (out : Streams T) (ss : List Source) (X : Streams T) → length ss ≡ length X → put_back (targets n r 0 ss) out X ≡ plus X (row_puts n r out ss)
  put-back-is n r out ss X e = feeds-put n r out ss [] X e

  -- the row of a child puts what the definition puts
  pub row-puts : (n i : ℕ) (out : Streams T) (ss : List Source) → i < n → row_puts n i out ss ≡ puts i out ss
  row-puts n i out [] h = refl
  row-puts n i out (Own port ∷ ss) h =
      let t : nat_eq n i ≡ false = grind (arith, nat_tests) in
      ap₂ (λ b v. (if b then at out port else []) ∷ v) t (row-puts n i out ss h)
  row-puts n i out (Output child port ∷ ss) h = ap (λ v. puts_on i out (Output child port) ∷ v) (row-puts n i out ss h)

  -- and the row of the own inputs what arrives
  pub row-arrives : (n : ℕ) (inputs X : Streams T) (ss : List Source) → ((c : ℕ) (d : Source) → c < length ss → IsWithin n (get_or ss c d)) → length ss ≡ length X → plus X (row_puts n n inputs ss) ≡ arrived ss inputs X
  row-arrives n inputs [] [] h e = refl
  row-arrives n inputs (x ∷ X) [] h e = absurd (omega arith)
  row-arrives n inputs [] (s ∷ ss) h e = absurd (omega arith)
  row-arrives n inputs (x ∷ X) (Own port ∷ ss) h e =
      let t : nat_eq n n ≡ true = grind (arith, nat_tests) in
      ap₂ (λ b v. (x ++ (if b then at inputs port else [])) ∷ v) t (row-arrives n inputs X ss (λ c d l. h (suc c) d (omega arith)) (omega arith))
  row-arrives n inputs (x ∷ X) (Output child port ∷ ss) h e =
      let l : child < n = h 0 (Own 0) (omega arith) in
      let t : nat_eq child n ≡ false = grind (arith, nat_tests) in
      ap₂ (λ b v. (x ++ (if b then at inputs port else [])) ∷ v) t (row-arrives n inputs X ss (λ c d l. h (suc c) d (omega arith)) (omega arith))

  -- how many iterations the own inputs allow, target by target
  least : (takes : List ℕ) (x : List T) (port : ℕ) (m : Option ℕ) → Some (min_with (length x / number_at takes port) m) ≡ allows takes (Own port) x m
  least takes x port None = refl
  least takes x port (Some m) = refl

  allow-one : (n : ℕ) (takes : List ℕ) (s : Source) (ts : List Target) (P X : Streams T) (x : List T) (m : Option ℕ) → IsWithin n s → allowed_by takes ts (P ++ x ∷ X) ≡ m →
      allowed_by takes (if_target (nat_eq (row_of n s) n) (length P) (port_of s) ts) (P ++ x ∷ X) ≡ allows takes s x m
  allow-one n takes (Own port) ts P X x m w go =
      let t : nat_eq n n ≡ true = grind (arith, nat_tests) in
      ap (λ b. allowed_by takes (if_target b (length P) port ts) (P ++ x ∷ X)) t ∙ ap₂ (λ v k. Some (min_with (length v / number_at takes port) k)) (behind-get P x X) go ∙ least takes x port m
  allow-one n takes (Output child port) ts P X x m w go =
      let t : nat_eq child n ≡ false = grind (arith, nat_tests) in
      ap (λ b. allowed_by takes (if_target b (length P) port ts) (P ++ x ∷ X)) t ∙ go

  allow-from : (n : ℕ) (takes : List ℕ) (ss : List Source) (P X : Streams T) → ((c : ℕ) (d : Source) → c < length ss → IsWithin n (get_or ss c d)) → length ss ≡ length X → allowed_by takes (targets n n (length P) ss) (P ++ X) ≡ all_allow takes ss X
  allow-from n takes [] P X h e = refl
  allow-from n takes (s ∷ ss) P [] h e = absurd (omega arith)
  allow-from n takes (s ∷ ss) P (x ∷ X) h e =
      allow-one n takes s (targets n n (suc (length P)) ss) P X x (all_allow takes ss X) (h 0 s (omega arith))
      (ap₂ (λ k Z. allowed_by takes (targets n n k ss) Z) (sym (one-longer P x)) (sym (append_assoc P (x ∷ []) X)) ∙ allow-from n takes ss (P ++ x ∷ []) X (λ c d l. h (suc c) d (omega arith)) (omega arith))

  pub allow-is : (n : ℕ) (takes : List ℕ) (ss : List Source) (X : Streams T) → ((c : ℕ) (d : Source) → c < length ss → IsWithin n (get_or ss c d)) → length ss ≡ length X → allowed_by takes (targets n n 0 ss) X ≡ all_allow takes ss X
  allow-is n takes ss X h e = allow-from n takes ss [] X h e

-- a target's channel and port are there, and no channel has two targets
abbrev no_target : Target
no_target = record { channel = 0; port = 0 }

-- between these numbers
abbrev Between : (low high : ℕ) → Target → Type 0
Between low high t = (low ≤ t.channel) × (t.channel < high)

if-within : (b : Bool) (c high port : ℕ) (ts : List Target) → c < high → ((k : ℕ) (d : Target) → k < length ts → Between (suc c) high (get_or ts k d)) → (k : ℕ) (d : Target) → k < length (if_target b c port ts) → Between c high (get_or (if_target b c port ts) k d)
if-within true c high port ts l h zero d i = (omega arith, l)
if-within true c high port ts l h (suc k) d i = let q = h k d (omega arith) in (omega (arith, q.0), q.1)
if-within false c high port ts l h k d i = let q = h k d i in (omega (arith, q.0), q.1)

if-ascends : (b : Bool) (c high port : ℕ) (ts : List Target) → ((k : ℕ) (d : Target) → k < length ts → Between (suc c) high (get_or ts k d)) → ((j k : ℕ) (d : Target) → j < k → k < length ts → (get_or ts j d).channel < (get_or ts k d).channel) →
    (j k : ℕ) (d : Target) → j < k → k < length (if_target b c port ts) → (get_or (if_target b c port ts) j d).channel < (get_or (if_target b c port ts) k d).channel
if-ascends true c high port ts w h j zero d l i = absurd (omega arith)
if-ascends true c high port ts w h zero (suc k) d l i = let q = w k d (omega arith) in omega (arith, q.0)
if-ascends true c high port ts w h (suc j) (suc k) d l i = h j k d (omega arith) (omega arith)
if-ascends false c high port ts w h j k d l i = h j k d l i

if-named : (b : Bool) (c port m : ℕ) (ts : List Target) → (b ≡ true → port < m) → ((k : ℕ) (d : Target) → k < length ts → (get_or ts k d).port < m) → (k : ℕ) (d : Target) → k < length (if_target b c port ts) → (get_or (if_target b c port ts) k d).port < m
if-named true c port m ts q h zero d i = q refl
if-named true c port m ts q h (suc k) d i = h k d (omega arith)
if-named false c port m ts q h k d i = h k d i

module _ (n r : ℕ) where
  target-within : (c high : ℕ) (ss : List Source) → c + length ss ≤ high → (k : ℕ) (d : Target) → k < length (targets n r c ss) → Between c high (get_or (targets n r c ss) k d)
  target-within c high [] l k d h = absurd (omega arith)
  target-within c high (s ∷ ss) l k d h = if-within (nat_eq (row_of n s) r) c high (port_of s) (targets n r (suc c) ss) (omega arith) (λ k d h. target-within (suc c) high ss (omega arith) k d h) k d h

  target-ascends : (c : ℕ) (ss : List Source) (j k : ℕ) (d : Target) → j < k → k < length (targets n r c ss) → (get_or (targets n r c ss) j d).channel < (get_or (targets n r c ss) k d).channel
  target-ascends c [] j k d l h = absurd (omega arith)
  target-ascends c (s ∷ ss) j k d l h =
      if-ascends (nat_eq (row_of n s) r) c (suc c + length ss) (port_of s) (targets n r (suc c) ss) (λ k d h. target-within (suc c) (suc c + length ss) ss (omega arith) k d h) (λ j k d l h. target-ascends (suc c) ss j k d l h) j k d l h

  target-named : (m c : ℕ) (ss : List Source) → ((x : ℕ) (d : Source) → x < length ss → row_of n (get_or ss x d) ≡ r → port_of (get_or ss x d) < m) → (k : ℕ) (d : Target) → k < length (targets n r c ss) → (get_or (targets n r c ss) k d).port < m
  target-named m c [] q k d h = absurd (omega arith)
  target-named m c (s ∷ ss) q k d h =
      if-named (nat_eq (row_of n s) r) c (port_of s) m (targets n r (suc c) ss) (λ t. q 0 s (omega arith) (grind (arith, nat_tests, t))) (λ k d h. target-named m (suc c) ss (λ x d l. q (suc x) d (omega arith)) k d h) k d h

  module _ (F : List Feed) (ss : List Source) (e : map target_of F ≡ targets n r 0 ss) where
    as-target : (k : ℕ) → target_of (get_or F k no_feed) ≡ get_or (targets n r 0 ss) k no_target
    as-target k = sym (get_or-map target_of F k no_feed) ∙ ap (λ v. get_or v k no_target) e

    as-long : length F ≡ length (targets n r 0 ss)
    as-long = sym (length-map F target_of) ∙ ap (λ v. length v) e

    pub feeds-there : (channels ports : ℕ) → length ss ≤ channels → ((x : ℕ) (d : Source) → x < length ss → row_of n (get_or ss x d) ≡ r → port_of (get_or ss x d) < ports) → AreThere channels ports F
    feeds-there channels ports l q = record {
      channels = λ k h. let t = target-within 0 (length ss) ss (omega arith) k no_target (omega (arith, h, as-long)) in omega (arith, t.1, l, ap (λ (x : Target). x.channel) (as-target k));
      ports = λ k h. let t = target-named ports 0 ss q k no_target (omega (arith, h, as-long)) in omega (arith, t, ap (λ (x : Target). x.port) (as-target k));
    }

    pub feeds-apart : AreApart F
    feeds-apart j k l h z =
        let t = target-ascends 0 ss j k no_target l (omega (arith, h, as-long)) in
        absurd (omega (arith, t, z, ap (λ (x : Target). x.channel) (as-target j), ap (λ (x : Target). x.channel) (as-target k)))

-- one feed further, from the last to the first
module _ (F : List Feed) (k : ℕ) (a : 0 < k) (b : k ≤ length F) where
  pub next-feed : drop (k - 1) F ≡ get_or F (k - 1) no_feed ∷ drop k F
  next-feed = drop_more F (k - 1) no_feed (omega arith) ∙ ap (λ j. get_or F (k - 1) no_feed ∷ drop j F) (one-less k a)
    where
      one-less : (k : ℕ) → 0 < k → k - 1 + 1 ≡ k
      one-less k h = omega arith

  pub next-copy : {T : Type 0} (out : Streams T) → copies_for k F out ≡ copy_for (get_or F (k - 1) no_feed) out ++ copies_for (k - 1) F out
  next-copy out = ap (λ j. copies_for j F out) (one-less k a)
    where
      one-less : (k : ℕ) → 0 < k → k ≡ suc (k - 1)
      one-less k h = omega arith

  pub next-put : {T : Type 0} (out L A B : Streams T) (f : Feed) (ts : List T) → f ≡ get_or F (k - 1) no_feed → A ≡ put_back (map target_of (drop k F)) out L → ts ≡ at out f.port → B ≡ set A f.channel (get_or A f.channel [] ++ ts) → B ≡ put_back (map target_of (drop (k - 1) F)) out L
  next-put out L A B f ts e h t g =
      g ∙ ap₂ (λ X v. set X f.channel (get_or X f.channel [] ++ v)) h t ∙
      ap (λ (x : Feed). set (put_back (map target_of (drop k F)) out L) x.channel (get_or (put_back (map target_of (drop k F)) out L) x.channel [] ++ at out x.port)) e ∙
      sym (ap (λ v. put_back (map target_of v) out L) next-feed)

  pub next-staged : {T : Type 0} (out : Streams T) (staged staged' ts all : List T) → ts ≡ at out (get_or F (k - 1) no_feed).port → staged' ≡ staged ++ (if (get_or F (k - 1) no_feed).moves then [] else ts) → staged ++ copies_for k F out ≡ all → staged' ++ copies_for (k - 1) F out ≡ all
  next-staged out staged staged' ts all t e h =
      ap (λ v. v ++ copies_for (k - 1) F out) (e ∙ ap (λ v. staged ++ (if (get_or F (k - 1) no_feed).moves then [] else v)) t) ∙
      append_assoc staged (copy_for (get_or F (k - 1) no_feed) out) (copies_for (k - 1) F out) ∙ ap (λ v. staged ++ v) (sym (next-copy out)) ∙ h

  -- what is staged begins with the copies of the next feed, and those of the others are behind
  pub next-front : {T : Type 0} (out : Streams T) (staged : List T) → (get_or F (k - 1) no_feed).moves ≡ false → staged ≡ copies_for k F out → take (length (at out (get_or F (k - 1) no_feed).port)) staged ≡ at out (get_or F (k - 1) no_feed).port
  next-front out staged m h =
      let f : Feed = get_or F (k - 1) no_feed in
      ap (λ v. take (length (at out f.port)) v) (h ∙ next-copy out ∙ ap (λ b. (if b then [] else at out f.port) ++ copies_for (k - 1) F out) m) ∙ take_at (at out f.port) (copies_for (k - 1) F out) (length (at out f.port)) refl

  pub next-behind : {T : Type 0} (out : Streams T) (staged staged' : List T) → staged' ≡ (if (get_or F (k - 1) no_feed).moves then staged else drop (length (at out (get_or F (k - 1) no_feed).port)) staged) → staged ≡ copies_for k F out → staged' ≡ copies_for (k - 1) F out
  next-behind {T} out staged staged' e h = e ∙ ap (λ v. if (get_or F (k - 1) no_feed).moves then v else drop (length (at out (get_or F (k - 1) no_feed).port)) v) (h ∙ next-copy out) ∙ by-moves (get_or F (k - 1) no_feed).moves
    where
      by-moves : (b : Bool) → (if b then ((if b then [] else at out (get_or F (k - 1) no_feed).port) ++ copies_for (k - 1) F out) else drop (length (at out (get_or F (k - 1) no_feed).port)) ((if b then [] else at out (get_or F (k - 1) no_feed).port) ++ copies_for (k - 1) F out)) ≡ copies_for (k - 1) F out
      by-moves true = refl
      by-moves false = drop_at (at out (get_or F (k - 1) no_feed).port) (copies_for (k - 1) F out) (length (at out (get_or F (k - 1) no_feed).port)) refl

  -- the ports of the feeds before it keep their tokens
  pub next-ports : {T : Type 0} (out0 out out' : Streams T) → MovesOnce F → out' ≡ (if (get_or F (k - 1) no_feed).moves then set out (get_or F (k - 1) no_feed).port [] else out) → ((j : ℕ) → j < k → at out (get_or F j no_feed).port ≡ at out0 (get_or F j no_feed).port) →
      (j : ℕ) → j < k - 1 → at out' (get_or F j no_feed).port ≡ at out0 (get_or F j no_feed).port
  next-ports {T} out0 out out' m e h j l = ap (λ v. at v (get_or F j no_feed).port) e ∙ by-moves (get_or F (k - 1) no_feed).moves refl ∙ h j (omega arith)
    where
      by-moves : (b : Bool) → (get_or F (k - 1) no_feed).moves ≡ b → at (if b then set out (get_or F (k - 1) no_feed).port [] else out) (get_or F j no_feed).port ≡ at out (get_or F j no_feed).port
      by-moves true t =
          at-is (set out (get_or F (k - 1) no_feed).port []) (get_or F j no_feed).port ∙ get_or-set_other out (get_or F (k - 1) no_feed).port (get_or F j no_feed).port [] [] (λ z. m j (k - 1) l (omega arith) t z) ∙ sym (at-is out (get_or F j no_feed).port)
      by-moves false t = refl

-- what the one port has, at whatever port there is
pub on-one-port : {T : Type 0} (xs : List T) (port : ℕ) → port < 1 → xs ≡ at (xs ∷ []) port
on-one-port xs zero h = refl
on-one-port xs (suc port) h = absurd (omega arith)
