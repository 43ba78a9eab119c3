-- What firings of one child in a row take from the channels, and put on them.
use Rattle.std.proofs.Common.{◌≡◌, ℕ, ℤ, zero, suc, ◌+◌, ◌-◌, ◌*◌, ◌<◌, ◌≤◌, List, [], ◌∷◌, ◌++◌, Bool, true, false, length, map, get_or, set, take, drop, nat_eq, if◌then◌else◌, refl, ap, ap₂, sym, subst, ◌∙◌, arith, append_assoc, zero-add, suc-add}
use Rattle.std.proofs.Math.Nat.{mul-le-mul_right}
use Rattle.std.proofs.lemmas.List.{append-nil, drop-append-le, drop-drop, map-append, get_or-set_same, set-set, length-take, length-set, length-drop, get_or-take, get_or-drop}
use Rattle.pt_meaning.specs.Streams.{Streams, at}
use Rattle.pt_meaning.specs.Net.{Source, Own, Output}
use Rattle.pt_meaning.specs.Running.{plus, puts, puts_on}
use Rattle.pt_value.specs.declared.token.Token.{Token}
use Rattle.pt_value.specs.declared.token.Token.TheVariants.{Int}
use Rattle.pt_sdf_parts.specs.ByNeed.{skip_at}
use Rattle.pt_sdf.specs.InARow.{given_by}
use Rattle.pt_sdf_parts.specs.declared.lanes.Inlet.{Inlet}
use Rattle.pt_sdf_parts.specs.declared.lanes.Inlet.TheVariants as inlet
use Rattle.pt_sdf_parts.specs.Lanes.{IsInlet, FitsInlet, HasRow, row_left}
use Rattle.pt_sdf_parts.proofs.Lists.{take-plus, skip-zero}
use Rattle.pt_sdf_parts.proofs.LaneLaws.{inlet-left}

module _ {T : Type 0} where
  skip-front : (ns : List ℕ) (X P : Streams T) → ((k : ℕ) → k < length ns → get_or ns k 0 ≤ length (get_or X k [])) → skip_at 0 ns (plus X P) ≡ plus (skip_at 0 ns X) P
  skip-front [] X P h = refl
  skip-front (n ∷ ns) [] P h = refl
  skip-front (n ∷ ns) (xs ∷ X) [] h = refl
  skip-front (n ∷ ns) (xs ∷ X) (ps ∷ P) h = ap₂ (λ v V. v ∷ V) (drop-append-le n xs ps (h 0 (omega arith))) (skip-front ns X P (λ k l. h (suc k) (omega (arith, l))))

  -- where enough is there, what is put behind it stays
  pub skip-plus : (o : ℕ) (ns : List ℕ) (X P : Streams T) → ((k : ℕ) → k < length ns → get_or ns k 0 ≤ length (get_or X (o + k) [])) → skip_at o ns (plus X P) ≡ plus (skip_at o ns X) P
  skip-plus zero ns X P h = skip-front ns X P (λ k l. subst (λ j. get_or ns k 0 ≤ length (get_or X j [])) (zero-add k) (h k l))
  skip-plus (suc o) ns [] P h = refl
  skip-plus (suc o) ns (xs ∷ X) [] h = refl
  skip-plus (suc o) ns (xs ∷ X) (ps ∷ P) h = ap (λ V. (xs ++ ps) ∷ V) (skip-plus o ns X P (λ k l. subst (λ j. get_or ns k 0 ≤ length (get_or (xs ∷ X) j [])) (suc-add o k) (h k l)))

  more-on : (i : ℕ) (a b : List T) (s : Source) → puts_on i (a ∷ []) s ++ puts_on i (b ∷ []) s ≡ puts_on i ((a ++ b) ∷ []) s
  more-on i a b (Own port) = refl
  more-on i a b (Output child port) = by (nat_eq child i) port
    where
      by : (same : Bool) (port : ℕ) → (if same then at (a ∷ []) port else []) ++ (if same then at (b ∷ []) port else []) ≡ (if same then at ((a ++ b) ∷ []) port else [])
      by true zero = refl
      by true (suc port) = refl
      by false port = refl

  -- two firings put as one does that gives what both give
  pub plus-more : (i : ℕ) (a b : List T) (ss : List Source) (X : Streams T) → plus (plus X (puts i (a ∷ []) ss)) (puts i (b ∷ []) ss) ≡ plus X (puts i ((a ++ b) ∷ []) ss)
  plus-more i a b ss [] = refl
  plus-more i a b [] (xs ∷ X) = refl
  plus-more i a b (s ∷ ss) (xs ∷ X) = ap₂ (λ v V. v ∷ V) (append_assoc xs (puts_on i (a ∷ []) s) (puts_on i (b ∷ []) s) ∙ ap (λ v. xs ++ v) (more-on i a b s)) (plus-more i a b ss X)

  none-on : (i : ℕ) (s : Source) → [] ≡ puts_on {T = T} i ([] ∷ []) s
  none-on i (Own port) = refl
  none-on i (Output child port) = by (nat_eq child i) port
    where
      by : (same : Bool) (port : ℕ) → [] ≡ (if same then at {T = T} ([] ∷ []) port else [])
      by true zero = refl
      by true (suc port) = refl
      by false port = refl

  -- one that gives nothing puts nothing
  pub plus-none : (i : ℕ) (ss : List Source) (X : Streams T) → X ≡ plus X (puts i ([] ∷ []) ss)
  plus-none i ss [] = refl
  plus-none i [] (xs ∷ X) = refl
  plus-none i (s ∷ ss) (xs ∷ X) = ap₂ (λ v V. v ∷ V) (sym (append-nil xs) ∙ ap (λ v. xs ++ v) (none-on i s)) (plus-none i ss X)

pub if-not : {A : Type 0} {b : Bool} {x : A} (y z : A) → b ≡ false → x ≡ (if b then y else z) → x ≡ z
if-not y z e f = f ∙ ap (λ v. if v then y else z) e

-- the channels without what so many firings take
abbrev pub skipped : (o : ℕ) (ns : List ℕ) → ℕ → Streams Token → Streams Token
skipped o ns zero X = X
skipped o ns (suc k) X = skip_at o ns (skipped o ns k X)

-- the channels after so many firings
abbrev pub after_row : (i o : ℕ) (ns : List ℕ) (rate : ℕ) (numbers : List ℤ) (ss : List Source) → ℕ → Streams Token → Streams Token
after_row i o ns rate numbers ss zero X = X
after_row i o ns rate numbers ss (suc k) X = plus (skip_at o ns (after_row i o ns rate numbers ss k X)) (puts i (given_by rate numbers k) ss)

-- all firings may take first, and then all put
pub row-apart : (i o : ℕ) (ns : List ℕ) (rate : ℕ) (numbers : List ℤ) (ss : List Source) (k : ℕ) (X : Streams Token) → ((j : ℕ) → j < k → (m : ℕ) → m < length ns → get_or ns m 0 ≤ length (get_or (skipped o ns j X) (o + m) [])) →
    after_row i o ns rate numbers ss k X ≡ plus (skipped o ns k X) (puts i (map Int (take (k * rate) numbers) ∷ []) ss)
row-apart i o ns rate numbers ss zero X h = plus-none i ss X ∙ ap (λ n. plus X (puts i (map Int (take n numbers) ∷ []) ss)) {x = 0} {y = 0 * rate} (omega arith)
row-apart i o ns rate numbers ss (suc k) X h =
    let before = row-apart i o ns rate numbers ss k X (λ j l. h j (omega (arith, l))) in
    let next : List Token = map Int (take rate (drop (k * rate) numbers)) in
    ap (λ V. plus (skip_at o ns V) (puts i (next ∷ []) ss)) before
    ∙ ap (λ V. plus V (puts i (next ∷ []) ss)) (skip-plus o ns (skipped o ns k X) (puts i (map Int (take (k * rate) numbers) ∷ []) ss) (h k (omega arith)))
    ∙ plus-more i (map Int (take (k * rate) numbers)) next ss (skip_at o ns (skipped o ns k X))
    ∙ ap (λ v. plus (skip_at o ns (skipped o ns k X)) (puts i (v ∷ []) ss)) (sym (map-append Int (take (k * rate) numbers) (take rate (drop (k * rate) numbers))) ∙ ap (λ v. map Int v) (sym (take-plus (k * rate) rate numbers)) ∙ ap (λ n. map Int (take n numbers)) {x = k * rate + rate} {y = suc k * rate} (omega arith))

set-same : (X : Streams Token) (c : ℕ) → set X c (get_or X c []) ≡ X
set-same [] c = refl
set-same (xs ∷ X) zero = refl
set-same (xs ∷ X) (suc c) = ap (λ V. xs ∷ V) (set-same X c)

-- a child with one place
module _ (needs : List ℕ) (from places c need : ℕ) (a : IsInlet needs from places c need) (b : from + places ≤ length needs) where
  pub alone-skipped : (k : ℕ) (X : Streams Token) → from + places ≤ length X → set X c (drop (k * need) (get_or X c [])) ≡ skipped from (take places (drop from needs)) k X
  alone-skipped zero X l = ap (λ n. set X c (drop n (get_or X c []))) {x = 0 * need} {y = 0} (omega arith) ∙ set-same X c
  alone-skipped (suc k) X l =
      let ns : List ℕ = take places (drop from needs) in
      let before = alone-skipped k X l in
      let there : c < length X = omega (arith, a.place, a.alone, l) in
      let Y : Streams Token = set X c (drop (k * need) (get_or X c [])) in
      let long : from + places ≤ length Y = omega (arith, l, length-set X c (drop (k * need) (get_or X c []))) in
      let read : get_or Y c [] ≡ drop (k * need) (get_or X c []) = get_or-set_same X c (drop (k * need) (get_or X c [])) [] there in
      sym
      (ap (λ V. skip_at from ns V) (sym before) ∙ sym (inlet-left needs Y from places c need a long b) ∙ ap (λ v. set Y c (drop need v)) read ∙ ap (λ v. set Y c v) (drop-drop need (k * need) (get_or X c [])) ∙ set-set X c (drop (k * need) (get_or X c [])) (drop (k * need + need) (get_or X c []))
      ∙ ap (λ n. set X c (drop n (get_or X c []))) {x = k * need + need} {y = suc k * need} (omega arith))

nothing-skipped : (from k : ℕ) (X : Streams Token) → X ≡ skipped from [] k X
nothing-skipped from zero X = refl
nothing-skipped from (suc k) X = nothing-skipped from k X ∙ sym (skip-zero from (skipped from [] k X))

-- a child with one place or none, whose channels have what so many firings need
module _ (needs : List ℕ) (from places : ℕ) (b : from + places ≤ length needs) (X : Streams Token) (l : from + places ≤ length X) where
  abbrev ns : List ℕ
  ns = take places (drop from needs)

  pub row-left-is : (i : Inlet) (k : ℕ) → FitsInlet needs from places i → HasRow i k X → row_left i k X ≡ skipped from ns k X
  row-left-is inlet.Nothing k fits row = nothing-skipped from k X ∙ ap (λ p. skipped from (take p (drop from needs)) k X) (sym fits)
  row-left-is (inlet.Alone c need) k fits row = alone-skipped needs from places c need fits b k X l
  row-left-is inlet.Each k fits row = absurd row
  row-left-is inlet.Several k fits row = absurd row

  pub row-enough : (i : Inlet) (k : ℕ) → FitsInlet needs from places i → HasRow i k X → (j : ℕ) → j < k → (m : ℕ) → m < length ns → get_or ns m 0 ≤ length (get_or (skipped from ns j X) (from + m) [])
  row-enough inlet.Nothing k fits row j short m there = absurd (omega (arith, there, fits, length-take places (drop from needs)))
  row-enough (inlet.Alone c need) k fits row j short m there =
      let first : m < places = omega (arith, there, length-take places (drop from needs)) in
      let here : from + m ≡ c = omega (arith, first, fits.place, fits.alone) in
      let at_from : from + m ≡ from = omega (arith, first, fits.alone) in
      let inside : c < length X = omega (arith, fits.place, fits.alone, l) in
      let next : suc j ≤ k = omega (arith, short) in
      let value : get_or ns m 0 ≡ need = get_or-take places (drop from needs) m 0 first ∙ get_or-drop from needs m 0 ∙ ap (λ v. get_or needs v 0) at_from ∙ fits.needed in
      let tokens : get_or (skipped from ns j X) (from + m) [] ≡ drop (j * need) (get_or X c []) =
      ap (λ V. get_or V (from + m) []) (sym (alone-skipped needs from places c need fits b j X l)) ∙ ap (λ v. get_or (set X c (drop (j * need) (get_or X c []))) v []) here ∙ get_or-set_same X c (drop (j * need) (get_or X c [])) [] inside in
      omega (arith, value, ap (λ v. length v) tokens, length-drop (j * need) (get_or X c []), mul-le-mul_right need next, row)
  row-enough inlet.Each k fits row j short m there = absurd row
  row-enough inlet.Several k fits row j short m there = absurd row

-- the channels without what the firings need are as many
pub row-left-long : (i : Inlet) (k : ℕ) (X : Streams Token) → length (row_left i k X) ≡ length X
row-left-long inlet.Nothing k X = refl
row-left-long (inlet.Alone c need) k X = length-set X c (drop (k * need) (get_or X c []))
row-left-long inlet.Each k X = refl
row-left-long inlet.Several k X = refl
