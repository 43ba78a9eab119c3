-- What is simple of a child: its one place, and the one channel that it feeds.
use Rattle.std.proofs.Common.{◌≡◌, ℕ, ◌+◌, ◌<◌, ◌≤◌, List, [], ◌∷◌, ◌++◌, Bool, true, if◌then◌else◌, Some, length, get_or, set, take, drop, refl, ap, ap₂, sym, subst, ◌∙◌, arith, length-drop, length-set}
use Rattle.std.proofs.lemmas.List.{get_or-drop}
use Rattle.pt_meaning.specs.Streams.{Streams}
use Rattle.pt_meaning.specs.Kahn.{firsts}
use Rattle.pt_value.specs.declared.token.Token.{Token}
use Rattle.pt_sdf_parts.specs.declared.feeds.Feed.{Feed}
use Rattle.pt_sdf_parts.specs.ByNeed.{skip_at}
use Rattle.pt_sdf_parts.specs.Feeds.{put_back}
use Rattle.pt_sdf_parts.specs.declared.lanes.Lane.{Lane}
use Rattle.pt_sdf_parts.specs.declared.lanes.Outlet.{Outlet}
use Rattle.pt_sdf_parts.specs.declared.lanes.Outlet.TheVariants.{Nothing, One, Burst, Several}
use Rattle.pt_sdf_parts.specs.Lanes.{IsInlet, IsOutlet, FitsOutlet, IsLane, targets_of, count_of}
use Rattle.pt_sdf_parts.proofs.Lists.{skip-zero, skip-put, put-keeps, next-left, next-taken}

-- a lane of the same places, rates and feeds
pub lane-at : (needs : List ℕ) (o o' p : ℕ) (r r' : List ℕ) (f f' : List Feed) (lane : Lane) → o ≡ o' → r ≡ r' → f ≡ f' → IsLane needs o p r f lane → IsLane needs o' p r' f' lane
lane-at needs o o' p r r' f f' lane a b d is =
    subst (λ u. IsLane needs u p r' f' lane) a (subst (λ u. IsLane needs o p u f' lane) b (subst (λ u. IsLane needs o p r u lane) d is))

-- one place of a list of channels
module _ (needs : List ℕ) (X : Streams Token) (from places c need : ℕ) (a : IsInlet needs from places c need) (l : from + places ≤ length X) (b : from + places ≤ length needs) where
  inlet-need : 0 < length (drop c needs)
  inlet-need = omega (arith, a.place, a.alone, b, length-drop c needs)

  need-is : need ≡ get_or (drop c needs) 0 0
  need-is = sym (get_or-drop c needs 0 0 ∙ ap (λ v. get_or needs v 0) (plus-zero c ∙ a.place) ∙ a.needed)
    where
      plus-zero : (n : ℕ) → n + 0 ≡ n
      plus-zero n = omega arith

  zero-more : c ≡ c + 0
  zero-more = omega arith

  inlet-there : c + 0 < length X
  inlet-there = omega (arith, a.place, a.alone, l)

  at-inlet : skip_at c (take 1 (drop c needs)) X ≡ skip_at from (take places (drop from needs)) X
  at-inlet = ap₂ (λ x y. skip_at x (take y (drop x needs)) X) a.place (sym a.alone)

  pub inlet-left : set X c (drop need (get_or X c [])) ≡ skip_at from (take places (drop from needs)) X
  inlet-left =
      next-left X X c 0 (drop c needs) (sym (skip-zero c X)) (set X c (drop need (get_or X c []))) need inlet-need inlet-there need-is (ap (λ v. set X v (drop need (get_or X v []))) zero-more) ∙ at-inlet

  pub inlet-taken : take need (get_or X c []) ∷ [] ≡ firsts (take places (drop from needs)) (take places (drop from X))
  inlet-taken =
      next-taken X X c 0 (drop c needs) (sym (skip-zero c X)) [] (take need (get_or X c [])) need inlet-need inlet-there need-is (ap (λ v. take need (get_or X v [])) zero-more) refl
      ∙ ap₂ (λ x y. firsts (take y (drop x needs)) (take y (drop x X))) a.place (sym a.alone)

pub if-so : {A : Type 0} {b : Bool} {x : A} (y z : A) → b ≡ true → x ≡ (if b then y else z) → x ≡ y
if-so y z e f = f ∙ ap (λ v. if v then y else z) e

-- what a child gave on the channel that it feeds
module _ (o : Outlet) (tokens : List Token) (X : Streams Token) where
  pub given-long : length (put_back (targets_of o) (tokens ∷ []) X) ≡ length X
  given-long = by o
    where
      by : (o : Outlet) → length (put_back (targets_of o) (tokens ∷ []) X) ≡ length X
      by Nothing = refl
      by (One c) = length-set X c (get_or X c [] ++ tokens)
      by (Burst c rate) = length-set X c (get_or X c [] ++ tokens)
      by Several = refl

  pub given-keeps : (k : ℕ) → length (get_or X k []) ≤ length (get_or (put_back (targets_of o) (tokens ∷ []) X) k [])
  given-keeps k = by o
    where
      by : (o : Outlet) → length (get_or X k []) ≤ length (get_or (put_back (targets_of o) (tokens ∷ []) X) k [])
      by Nothing = omega arith
      by (One c) = put-keeps X c tokens k
      by (Burst c rate) = put-keeps X c tokens k
      by Several = omega arith

  pub given-skip : (from : ℕ) (ns : List ℕ) → ((k : ℕ) → k < length ns → get_or ns k 0 ≤ length (get_or X (from + k) [])) → skip_at from ns (put_back (targets_of o) (tokens ∷ []) X) ≡ put_back (targets_of o) (tokens ∷ []) (skip_at from ns X)
  given-skip from ns h = by o
    where
      by : (o : Outlet) → skip_at from ns (put_back (targets_of o) (tokens ∷ []) X) ≡ put_back (targets_of o) (tokens ∷ []) (skip_at from ns X)
      by Nothing = refl
      by (One c) = skip-put from ns X c tokens h
      by (Burst c rate) = skip-put from ns X c tokens h
      by Several = refl

some-same : (a b : ℕ) → Some a ≡ Some b → a ≡ b
some-same a b e = cc

-- an outlet that tells how many tokens the child gives tells what it feeds
pub outlet-of : (rates : List ℕ) (feeds : List Feed) (o : Outlet) (n : ℕ) → FitsOutlet rates feeds o → count_of o ≡ Some n → IsOutlet rates feeds n (targets_of o)
outlet-of rates feeds Nothing n f e = subst (λ v. IsOutlet rates feeds v []) (some-same 1 n e) f
outlet-of rates feeds (One c) n f e = subst (λ v. IsOutlet rates feeds v (targets_of (One c))) (some-same 1 n e) f
outlet-of rates feeds (Burst c rate) n f e = subst (λ v. IsOutlet rates feeds v (targets_of (Burst c rate))) (some-same rate n e) f
outlet-of rates feeds Several n f e = absurd (cc)
