-- The channels that a child feeds are those that begin at it.
use Rattle.std.proofs.Common.{◌≡◌, ℕ, zero, suc, ◌+◌, ◌<◌, List, [], ◌∷◌, Bool, true, false, length, get_or, map, nat_eq, Some, refl, sym, ap, subst, ◌∙◌, arith, true≢false}
use Rattle.pt_meaning.specs.Streams.{Streams, at, get}
use Rattle.pt_meaning.specs.Net.{Source, Own, Output}
use Rattle.pt_value.specs.declared.token.Token.{Token}
use Rattle.pt_de_laws.proofs.PlaceLaws.{same-test, other-test, equal-by}
use Rattle.pt_reaction.specs.declared.feeds.Feed.{Feed}
use Rattle.pt_reaction.specs.Feeds.{Target, target_of, row_of, port_of, if_target, targets, no_feed}
use Rattle.pt_de_reaction.specs.Reaction.{no_target}
use Rattle.pt_de_reaction.specs.Signals.{AreEmptyFrom}
use Rattle.pt_de_reaction.proofs.DeliverLaws.{same-long, target-at}

-- a fact of channels
module _ (P : ℕ → Type 0) where
  target-or : (b : Bool) (ts : List Target) (c port : ℕ) → (b ≡ true → P c) → ((k : ℕ) → k < length ts → P (get_or ts k no_target).channel) → (k : ℕ) → k < length (if_target b c port ts) → P (get_or (if_target b c port ts) k no_target).channel
  target-or true ts c port p g zero l = p refl
  target-or true ts c port p g (suc k) l = g k (omega (arith, l))
  target-or false ts c port p g k l = g k l

  target-first : (b : Bool) (ts : List Target) (c port : ℕ) → b ≡ true → ((k : ℕ) → k < length (if_target b c port ts) → P (get_or (if_target b c port ts) k no_target).channel) → P c
  target-first true ts c port e g = g 0 (omega arith)
  target-first false ts c port e g = absurd (true≢false (sym e))

  target-rest : (b : Bool) (ts : List Target) (c port : ℕ) → ((k : ℕ) → k < length (if_target b c port ts) → P (get_or (if_target b c port ts) k no_target).channel) → (k : ℕ) → k < length ts → P (get_or ts k no_target).channel
  target-rest true ts c port g k l = g (suc k) (omega (arith, l))
  target-rest false ts c port g k l = g k l

  module _ (n i : ℕ) (h : i < n) where
    -- where it holds of each that begins at a child, it holds of each that the child feeds
    each-fed : (ss : List Source) (c : ℕ) → ((d e port : ℕ) → e ≡ c + d → get ss d ≡ Some (Output i port) → P e) → (k : ℕ) → k < length (targets n i c ss) → P (get_or (targets n i c ss) k no_target).channel
    each-fed [] c f k l = absurd (omega (arith, l))
    each-fed (Own port ∷ ss) c f k l =
        target-or (nat_eq n i) (targets n i (suc c) ss) c port (λ e. absurd (true≢false (sym e ∙ other-test n i (λ z. absurd (omega (arith, h, z)))))) (each-fed ss (suc c) (λ d e p q g. f (suc d) e p (omega (arith, q)) g)) k l
    each-fed (Output child port ∷ ss) c f k l =
        target-or (nat_eq child i) (targets n i (suc c) ss) c port (λ e. f 0 c port (omega arith) (ap (λ v. Some (Output v port)) (equal-by child i e))) (each-fed ss (suc c) (λ d e p q g. f (suc d) e p (omega (arith, q)) g)) k l

    -- and the other way round
    each-begun : (ss : List Source) (c : ℕ) → ((k : ℕ) → k < length (targets n i c ss) → P (get_or (targets n i c ss) k no_target).channel) → (d e port : ℕ) → e ≡ c + d → get ss d ≡ Some (Output i port) → P e
    each-begun [] c g d e port q s = absurd (cc)
    each-begun (x ∷ ss) c g zero e port q s =
        let a : x ≡ Output i port = cc in
        let b : nat_eq (row_of n x) i ≡ true = ap (λ v. nat_eq (row_of n v) i) a ∙ same-test i in
        subst P (omega (arith, q)) (target-first (nat_eq (row_of n x) i) (targets n i (suc c) ss) c (port_of x) b g)
    each-begun (x ∷ ss) c g (suc d) e port q s = each-begun ss (suc c) (target-rest (nat_eq (row_of n x) i) (targets n i (suc c) ss) c (port_of x) g) d e port (omega (arith, q)) s

module _ (n i : ℕ) (h : i < n) (ss : List Source) (X : Streams Token) where
  -- the channels that a child feeds are empty where those that begin at it are
  pub fed-empty : AreEmptyFrom i ss X → (k : ℕ) → k < length (targets n i 0 ss) → at X (get_or (targets n i 0 ss) k no_target).channel ≡ []
  fed-empty a = each-fed (λ c. at X c ≡ []) n i h ss 0 (λ d e port q s. a.empty e port (subst (λ c. get ss c ≡ Some (Output i port)) (omega (arith, q)) s))

  pub empty-fed : ((k : ℕ) → k < length (targets n i 0 ss) → at X (get_or (targets n i 0 ss) k no_target).channel ≡ []) → AreEmptyFrom i ss X
  empty-fed f = record { empty = λ c port s. each-begun (λ d. at X d ≡ []) n i h ss 0 f c c port (omega arith) s }

  -- the same by the feeds that were listed
  module _ (F : List Feed) (e : map target_of F ≡ targets n i 0 ss) where
    pub feeds-empty : AreEmptyFrom i ss X → (k : ℕ) → k < length F → at X (get_or F k no_feed).channel ≡ []
    feeds-empty a k l = ap (λ (t : Target). at X t.channel) (target-at n i ss F e k) ∙ fed-empty a k (let m = same-long n i ss F e in omega (arith, l, m))

    pub empty-feeds : ((k : ℕ) → k < length F → at X (get_or F k no_feed).channel ≡ []) → AreEmptyFrom i ss X
    empty-feeds f = empty-fed (λ k l. ap (λ (t : Target). at X t.channel) (sym (target-at n i ss F e k)) ∙ f k (let m = same-long n i ss F e in omega (arith, l, m)))
