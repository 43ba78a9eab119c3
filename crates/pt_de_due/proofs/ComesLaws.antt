-- Tokens that come to a place, as one channel gets more.
use Rattle.std.proofs.Common.{◌≡◌, ℕ, zero, suc, ◌+◌, ◌-◌, ◌<◌, ◌≤◌, List, [], ◌∷◌, ◌++◌, Bool, true, false, ◌&&◌, ◌||◌, length, get_or, set, take, drop, replicate, nat_eq, refl, sym, ap, ◌∙◌, arith, length-append}
use Rattle.std.proofs.lemmas.List.{get_or-take, get_or-drop, length-take-le, length-drop, length-replicate, get_or_default}
use Rattle.std.proofs.lemmas.Bool.Decides.{nat_tests}
use Rattle.pt_meaning.specs.Streams.{Streams, at}
use Rattle.pt_meaning.specs.Running.{total}
use Rattle.pt_laws.specs.TickRuns.{places_at}
use Rattle.pt_de_laws.specs.State.{is_some_token, agree, comes}
use Rattle.pt_reaction.specs.Offsets.{readers, all_readers}
use Rattle.pt_reaction.proofs.GivenLaws.{at-is}
use Rattle.pt_reaction.proofs.OffsetLaws.{total-within, readers-long}
use Rattle.pt_de_due.specs.Due.{put}
use Rattle.pt_de_due.proofs.ReaderLaws.{EndsAt, read-ends, ends-read, place-set, place-kept}

pub or-false : (b : Bool) → b || false ≡ b
or-false true = refl
or-false false = refl

pub or-true : (b : Bool) → b || true ≡ true
or-true true = refl
or-true false = refl

pub or-assoc : (a b c : Bool) → a || (b || c) ≡ (a || b) || c
or-assoc true b c = refl
or-assoc false b c = refl

or-parts : (a b c r : Bool) → (a && (b || c)) || r ≡ ((a && b) || r) || (a && c)
or-parts false b c true = refl
or-parts false b c false = refl
or-parts true true c r = refl
or-parts true false true true = refl
or-parts true false true false = refl
or-parts true false false true = refl
or-parts true false false false = refl

readers-wide : (ns : List ℕ) (m : ℕ) → total ns ≤ m → length (all_readers ns m) ≡ m
readers-wide ns m h =
    let a = length-append (readers 0 ns) (replicate (m - total ns) (length ns)) in
    let b = readers-long 0 ns in
    let d = length-replicate (m - total ns) (length ns) in
    omega (arith, a, b, d, h)

or-swap : (x y : Bool) → x || y ≡ y || x
or-swap true true = refl
or-swap true false = refl
or-swap false true = refl
or-swap false false = refl

and-some : (a b : Bool) → a && (b && true) ≡ a && b
and-some true true = refl
and-some true false = refl
and-some false b = refl

module _ {T : Type 0} where
  some-appended : (xs ts : List T) → is_some_token (xs ++ ts) ≡ is_some_token xs || is_some_token ts
  some-appended [] ts = refl
  some-appended (x ∷ xs) ts = refl

  -- a place gets more
  pub comes-set : (delay : Bool) (fs : List Bool) (X : Streams T) (q : ℕ) (ts : List T) → q < length fs → q < length X → comes delay fs (set X q (at X q ++ ts)) ≡ comes delay fs X || (agree (get_or fs q false) delay && is_some_token ts)
  comes-set delay [] X q ts h l = absurd (omega (arith, h))
  comes-set delay (f ∷ fs) [] q ts h l = absurd (omega (arith, l))
  comes-set delay (f ∷ fs) (xs ∷ X) zero ts h l =
      ap (λ b. (agree f delay && b) || comes delay fs X) (some-appended xs ts) ∙ or-parts (agree f delay) (is_some_token xs) (is_some_token ts) (comes delay fs X)
  comes-set delay (f ∷ fs) (xs ∷ X) (suc q) ts h l =
      ap (λ b. (agree f delay && is_some_token xs) || b) (comes-set delay fs X q ts (omega (arith, h)) (omega (arith, l))) ∙
      or-assoc (agree f delay && is_some_token xs) (comes delay fs X) (agree (get_or fs q false) delay && is_some_token ts)

  module _ (ns : List ℕ) (D : List Bool) (X : Streams T) (m : ℕ) (a : total ns ≤ length X) (b : length D ≡ length X) (delay : Bool) (c : ℕ) (ts : List T) (j : ℕ) (h : j < length ns) where
    abbrev o : ℕ
    o = total (take j ns)

    abbrev n : ℕ
    n = get_or ns j 0

    -- the place of child j at which the channel ends
    abbrev q : ℕ
    q = c - o

    module _ (z : EndsAt ns j c) where
      within : q < n
      within = let low = z.0 in let high = z.1 in omega (arith, low, high)

      again : o + q ≡ c
      again = let low = z.0 in omega (arith, low)

      room : o + n ≤ length X
      room = let t = total-within ns j h in omega (arith, t, a)

      wide : {B : Type 0} (V : List B) → length V ≡ length X → q < length (places_at ns j V)
      wide V e =
          let r = room in
          let w = within in
          let l = length-drop o V in
          let f : n ≤ length (drop o V) = omega (arith, l, e, r) in
          let t = length-take-le n (drop o V) f in
          omega (arith, t, w)

      flag : get_or (places_at ns j D) q false ≡ get_or D c false
      flag = get_or-take n (drop o D) q false within ∙ get_or-drop o D q false ∙ ap (λ k. get_or D k false) again

      tokens : at (places_at ns j X) q ≡ at X c
      tokens = at-is (places_at ns j X) q ∙ get_or-take n (drop o X) q [] within ∙ get_or-drop o X q [] ∙ ap (λ k. get_or X k []) again ∙ sym (at-is X c)

      comes-here : comes delay (places_at ns j D) (places_at ns j (put c ts X)) ≡ comes delay (places_at ns j D) (places_at ns j X) || (agree (get_or D c false) delay && is_some_token ts)
      comes-here =
          ap (λ (Y : Streams T). comes delay (places_at ns j D) Y) (place-set ns j c X (at X c ++ ts) z ∙ ap (λ (v : List T). set (places_at ns j X) q (v ++ ts)) (sym tokens)) ∙
          comes-set delay (places_at ns j D) (places_at ns j X) q ts (wide D b) (wide X refl) ∙ ap (λ f. comes delay (places_at ns j D) (places_at ns j X) || (agree f delay && is_some_token ts)) flag

    -- Tokens on a channel come to the child that reads it, and to no other.
    pub comes-put : comes delay (places_at ns j D) (places_at ns j (put c ts X)) ≡
        comes delay (places_at ns j D) (places_at ns j X) || (nat_eq (get_or (all_readers ns m) c (length ns)) j && (agree (get_or D c false) delay && is_some_token ts))
    comes-put = by (nat_eq (get_or (all_readers ns m) c (length ns)) j) refl
      where
        by : (t : Bool) → nat_eq (get_or (all_readers ns m) c (length ns)) j ≡ t →
            comes delay (places_at ns j D) (places_at ns j (put c ts X)) ≡ comes delay (places_at ns j D) (places_at ns j X) || (t && (agree (get_or D c false) delay && is_some_token ts))
        by true t = let same : get_or (all_readers ns m) c (length ns) ≡ j = grind (arith, nat_tests, t) in comes-here (read-ends ns m c j h same)
        by false t =
            let other : EndsAt ns j c → ⊥ = λ z. let same = ends-read ns m c j h z in absurd (grind (arith, nat_tests, t, same)) in
            ap (λ (Y : Streams T). comes delay (places_at ns j D) Y) (place-kept ns j c X (at X c ++ ts) other) ∙ sym (or-false (comes delay (places_at ns j D) (places_at ns j X)))

  -- The same of a token that is there, where readers are listed for just these channels.
  pub token-comes : (d : Bool) (places : List ℕ) (flags : List Bool) (X : Streams T) (c : ℕ) (x : T) (xs : List T) → length flags ≡ length X → total places ≤ length X → c < length X → (i : ℕ) → i < length places →
      comes d (places_at places i flags) (places_at places i (set X c (at X c ++ (x ∷ xs)))) ≡ (nat_eq (get_or (all_readers places (length X)) c 0) i && agree (get_or flags c false) d) || comes d (places_at places i flags) (places_at places i X)
  token-comes d places flags X c x xs e t l i h =
      comes-put places flags X (length X) t e d c (x ∷ xs) i h ∙
      ap (λ b. comes d (places_at places i flags) (places_at places i X) || b) (and-some (nat_eq (get_or (all_readers places (length X)) c (length places)) i) (agree (get_or flags c false) d)) ∙
      or-swap (comes d (places_at places i flags) (places_at places i X)) (nat_eq (get_or (all_readers places (length X)) c (length places)) i && agree (get_or flags c false) d) ∙
      ap (λ r. (nat_eq r i && agree (get_or flags c false) d) || comes d (places_at places i flags) (places_at places i X)) (get_or_default (all_readers places (length X)) c (length places) 0 (omega (arith, readers-wide places (length X) t, l)))
