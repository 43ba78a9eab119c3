-- What a child gives is put on the channels that it feeds, one after another; and so is what comes to the own inputs.
use Rattle.std.proofs.Common.{◌≡◌, ℕ, zero, suc, ◌+◌, ◌<◌, List, [], ◌∷◌, ◌++◌, Bool, true, false, length, get_or, set, take, map, nat_eq, if◌then◌else◌, Vec, Global, refl, sym, ap, ap₂, ◌∙◌, arith, append_assoc, length-set}
use Rattle.std.proofs.lemmas.List.{take_more, length-map}
use Rattle.pt_meaning.specs.Streams.{Streams, at}
use Rattle.pt_meaning.specs.Machine.{Partial, Unknown, Known}
use Rattle.pt_meaning.specs.Net.{Source, Own, Output}
use Rattle.pt_meaning.specs.Valuation.{tokens_of}
use Rattle.pt_de_laws.specs.State.{gained, at_first}
use Rattle.pt_de_laws.proofs.PlaceLaws.{same-test, other-test}
use Rattle.pt_reaction.specs.declared.feeds.Feed.{Feed}
use Rattle.pt_reaction.specs.Feeds.{Target, target_of, row_of, port_of, if_target, targets, no_feed, rows_in, AreFeeds}
use Rattle.pt_reaction.specs.Given.{put_on, known_on}
use Rattle.pt_reaction.proofs.FeedLaws.{no_target, feeds-apart, feeds-channels}
use Rattle.pt_de_due.specs.Due.{AreWithin, put}

module _ {T : Type 0} (given : ℕ → List T) where
  pub put-on-long : (ts : List Target) (X : Streams T) → length (put_on given ts X) ≡ length X
  put-on-long [] X = refl
  put-on-long (t ∷ ts) X = put-on-long ts (put t.channel (given t.port) X) ∙ length-set X t.channel (at X t.channel ++ given t.port)

  put-behind : (ts : List Target) (t : Target) (X : Streams T) → put_on given (ts ++ t ∷ []) X ≡ put t.channel (given t.port) (put_on given ts X)
  put-behind [] t X = refl
  put-behind (x ∷ ts) t X = put-behind ts t (put x.channel (given x.port) X)

  -- one target more
  pub put-more : (ts : List Target) (k : ℕ) (X : Streams T) → k < length ts →
      put_on given (take (k + 1) ts) X ≡ put (get_or ts k (record { channel = 0; port = 0 })).channel (given (get_or ts k (record { channel = 0; port = 0 })).port) (put_on given (take k ts) X)
  put-more ts k X h = ap (λ us. put_on given us X) (take_more ts k no_target h) ∙ put-behind (take k ts) (get_or ts k no_target) X

  -- what row r puts on each channel
  abbrev if_row : Bool → List T → List T → List T
  if_row b xs g = if b then xs ++ g else xs

  abbrev row_puts : (n r : ℕ) → List Source → Streams T → Streams T
  row_puts n r [] X = X
  row_puts n r (s ∷ ss) [] = []
  row_puts n r (s ∷ ss) (x ∷ X) = if_row (nat_eq (row_of n s) r) x (given (port_of s)) ∷ row_puts n r ss X

  behind-set : (P : Streams T) (x : List T) (X : Streams T) (v : List T) → set (P ++ x ∷ X) (length P) v ≡ P ++ v ∷ X
  behind-set [] x X v = refl
  behind-set (p ∷ P) x X v = ap (λ Y. p ∷ Y) (behind-set P x X v)

  behind-at : (P : Streams T) (x : List T) (X : Streams T) → at (P ++ x ∷ X) (length P) ≡ x
  behind-at [] x X = refl
  behind-at (p ∷ P) x X = behind-at P x X

  one-longer : (P : Streams T) (x : List T) → length (P ++ x ∷ []) ≡ suc (length P)
  one-longer [] x = refl
  one-longer (p ∷ P) x = ap (λ k. suc k) (one-longer P x)

  put-one : (b : Bool) (ts : List Target) (port : ℕ) (P X : Streams T) (x : List T) → put_on given (if_target b (length P) port ts) (P ++ x ∷ X) ≡ put_on given ts (P ++ if_row b x (given port) ∷ X)
  put-one true ts port P X x = ap (λ V. put_on given ts V) (ap (λ v. set (P ++ x ∷ X) (length P) (v ++ given port)) (behind-at P x X) ∙ behind-set P x X (x ++ given port))
  put-one false ts port P X x = refl

  put-from : (n r : ℕ) (ss : List Source) (P X : Streams T) → length ss ≡ length X → put_on given (targets n r (length P) ss) (P ++ X) ≡ P ++ row_puts n r ss X
  put-from n r [] P X e = refl
  put-from n r (s ∷ ss) P [] e = absurd (omega (arith, e))
  put-from n r (s ∷ ss) P (x ∷ X) e =
      let y : List T = if_row (nat_eq (row_of n s) r) x (given (port_of s)) in
      put-one (nat_eq (row_of n s) r) (targets n r (suc (length P)) ss) (port_of s) P X x ∙
      ap₂ (λ k Z. put_on given (targets n r k ss) Z) (sym (one-longer P y)) (sym (append_assoc P (y ∷ []) X)) ∙ put-from n r ss (P ++ y ∷ []) X (omega (arith, e)) ∙ append_assoc P (y ∷ []) (row_puts n r ss X)

  -- a child's row gives what the child gave
  module _ (n i : ℕ) (h : i < n) (out : Streams T) (g : (port : ℕ) → given port ≡ at out port) where
    own-row : nat_eq n i ≡ false
    own-row = other-test n i (λ e. absurd (omega (arith, h, e)))

    row-gains : (ss : List Source) (X : Streams T) → row_puts n i ss X ≡ gained i out ss X
    row-gains [] X = refl
    row-gains (s ∷ ss) [] = refl
    row-gains (Own port ∷ ss) (x ∷ X) = ap₂ (λ b (Y : Streams T). if_row b x (given port) ∷ Y) own-row (row-gains ss X)
    row-gains (Output child port ∷ ss) (x ∷ X) = ap₂ (λ (v : List T) (Y : Streams T). (if nat_eq child i then x ++ v else x) ∷ Y) (g port) (row-gains ss X)

    pub put-is-gained : (ss : List Source) (X : Streams T) → length X ≡ length ss → put_on given (targets n i 0 ss) X ≡ gained i out ss X
    put-is-gained ss X e = put-from n i ss [] X (sym e) ∙ row-gains ss X

-- where a firing gave so much
pub gained-puts : {T : Type 0} (n i : ℕ) (out : Streams T) (ss : List Source) (X : Streams T) → i < n → length X ≡ length ss → put_on (λ port. at out port) (targets n i 0 ss) X ≡ gained i out ss X
gained-puts n i out ss X h e = put-is-gained (λ port. at out port) n i h out (λ port. refl) ss X e

-- where an early answer tells so much
pub known-tokens : {T : Type 0} (vs : List (Partial T)) (port : ℕ) → known_on vs port ≡ at (tokens_of vs) port
known-tokens [] port = refl
known-tokens (Unknown ∷ vs) zero = refl
known-tokens (Known xs ∷ vs) zero = refl
known-tokens (Unknown ∷ vs) (suc port) = known-tokens vs port
known-tokens (Known xs ∷ vs) (suc port) = known-tokens vs port

pub early-puts : {T : Type 0} (n i : ℕ) (early : List (Partial T)) (ss : List Source) (X : Streams T) → i < n → length X ≡ length ss → put_on (λ port. known_on early port) (targets n i 0 ss) X ≡ gained i (tokens_of early) ss X
early-puts n i early ss X h e = put-is-gained (λ port. known_on early port) n i h (tokens_of early) (λ port. known-tokens early port) ss X e

-- what comes to the own inputs
module _ {T : Type 0} (n : ℕ) (inputs : Streams T) where
  row-begins : (ss : List Source) → AreWithin n ss → row_puts (λ port. at inputs port) n n ss (map (λ (c : Source). let none : List T = [] in none) ss) ≡ map (λ c. at_first inputs c) ss
  row-begins [] h = refl
  row-begins (Own port ∷ ss) h =
      ap₂ (λ b (Y : Streams T). (if b then at inputs port else []) ∷ Y) (same-test n) (row-begins ss (λ c child p e. h (suc c) child p e))
  row-begins (Output child port ∷ ss) h =
      let l = h 0 child port refl in
      ap₂ (λ b (Y : Streams T). (if b then at inputs port else []) ∷ Y) (other-test child n (λ e. absurd (omega (arith, l, e)))) (row-begins ss (λ c k p e. h (suc c) k p e))

  pub begun-puts : (ss : List Source) → AreWithin n ss → put_on (λ port. at inputs port) (targets n n 0 ss) (map (λ (c : Source). let none : List T = [] in none) ss) ≡ map (λ c. at_first inputs c) ss
  begun-puts ss h = put-from (λ port. at inputs port) n n ss [] (map (λ (c : Source). let none : List T = [] in none) ss) (sym (length-map ss (λ (c : Source). let none : List T = [] in none))) ∙ row-begins ss h

-- the channels of the targets of a row rise, and are there
abbrev as_feed : Target → Feed
as_feed t = record { channel = t.channel; port = t.port; moves = false }

as-feeds : (ts : List Target) → map target_of (map (λ t. as_feed t) ts) ≡ ts
as-feeds [] = refl
as-feeds (t ∷ ts) = ap (λ us. t ∷ us) (as-feeds ts)

feed-channel : (ts : List Target) (k : ℕ) → (get_or (map (λ t. as_feed t) ts) k no_feed).channel ≡ (get_or ts k (record { channel = 0; port = 0 })).channel
feed-channel [] k = refl
feed-channel (t ∷ ts) zero = refl
feed-channel (t ∷ ts) (suc k) = feed-channel ts k

pub targets-rise : (n r : ℕ) (ss : List Source) (j k : ℕ) → j < k → k < length (targets n r 0 ss) → (get_or (targets n r 0 ss) j (record { channel = 0; port = 0 })).channel < (get_or (targets n r 0 ss) k (record { channel = 0; port = 0 })).channel
targets-rise n r ss j k h l =
    let a = feeds-apart n r (map (λ t. as_feed t) (targets n r 0 ss)) ss (as-feeds (targets n r 0 ss)) j k h (omega (arith, l, length-map (targets n r 0 ss) (λ t. as_feed t))) in
    let x = feed-channel (targets n r 0 ss) j in
    let y = feed-channel (targets n r 0 ss) k in
    omega (arith, a, x, y)

pub target-there : (n r : ℕ) (ss : List Source) (k : ℕ) → k < length (targets n r 0 ss) → (get_or (targets n r 0 ss) k (record { channel = 0; port = 0 })).channel < length ss
target-there n r ss k l =
    let a = feeds-channels n r (map (λ t. as_feed t) (targets n r 0 ss)) ss (as-feeds (targets n r 0 ss)) (length ss) (omega arith) k (omega (arith, l, length-map (targets n r 0 ss) (λ t. as_feed t))) in
    let x = feed-channel (targets n r 0 ss) k in
    omega (arith, a, x)

-- the same by the rows of feeds that were listed
module _ (n : ℕ) (cs : List Source) (rows : List (Vec Feed Global)) (f : AreFeeds n cs rows) where
  row-is : (r : ℕ) → r < n + 1 → map target_of (get_or (rows_in rows) r []) ≡ targets n r 0 cs
  row-is r h = let t = f.targets in t.each r h

  pub fed-gained : {T : Type 0} (i : ℕ) (out X : Streams T) → i < n → length X ≡ length cs → put_on (λ port. at out port) (map target_of (get_or (rows_in rows) i [])) X ≡ gained i out cs X
  fed-gained i out X h e = ap (λ ts. put_on (λ port. at out port) ts X) (row-is i (omega (arith, h))) ∙ gained-puts n i out cs X h e

  pub fed-early : {T : Type 0} (i : ℕ) (early : List (Partial T)) (X : Streams T) → i < n → length X ≡ length cs → put_on (λ port. known_on early port) (map target_of (get_or (rows_in rows) i [])) X ≡ gained i (tokens_of early) cs X
  fed-early i early X h e = ap (λ ts. put_on (λ port. known_on early port) ts X) (row-is i (omega (arith, h))) ∙ early-puts n i early cs X h e

  pub fed-begun : {T : Type 0} (inputs : Streams T) → AreWithin n cs → put_on (λ port. at inputs port) (map target_of (get_or (rows_in rows) n [])) (map (λ (c : Source). let none : List T = [] in none) cs) ≡ map (λ c. at_first inputs c) cs
  fed-begun {T} inputs h = ap (λ ts. put_on (λ port. at inputs port) ts (map (λ (c : Source). let none : List T = [] in none) cs)) (row-is n (omega arith)) ∙ begun-puts n inputs cs h
