-- The first tokens of channels, channel by channel.
use Rattle.std.proofs.Common.{◌≡◌, ℕ, zero, suc, ◌<◌, ◌≤◌, List, [], ◌∷◌, ◌++◌, length, get_or, set, replicate, refl, ap, arith}
use Rattle.pt_meaning.specs.Streams.{Streams}
use Rattle.pt_meaning.specs.Net.{Source}
use Rattle.pt_meaning.specs.Start.{first_of, first_held}
use Rattle.pt_meaning.specs.Tree.{Rows, Node}

module _ {T A : Type 0} (rows : Rows T A) (kids : List (Node T A)) where
  pub held-length : (cs : List Source) → length (first_held rows kids cs) ≡ length cs
  held-length [] = refl
  held-length (c ∷ cs) = ap (λ n. suc n) (held-length cs)

  pub held-append : (cs ds : List Source) → first_held rows kids (cs ++ ds) ≡ first_held rows kids cs ++ first_held rows kids ds
  held-append [] ds = refl
  held-append (c ∷ cs) ds = ap (λ v. first_of rows kids c ∷ v) (held-append cs ds)

  -- the first n channels have their tokens
  abbrev pub held_to : ℕ → List Source → Streams T
  held_to n [] = []
  held_to zero (c ∷ cs) = [] ∷ held_to zero cs
  held_to (suc n) (c ∷ cs) = first_of rows kids c ∷ held_to n cs

  pub held-none : (cs : List Source) → held_to 0 cs ≡ replicate (length cs) []
  held-none [] = refl
  held-none (c ∷ cs) = ap (λ v. [] ∷ v) (held-none cs)

  pub held-all : (n : ℕ) (cs : List Source) → length cs ≤ n → held_to n cs ≡ first_held rows kids cs
  held-all n [] h = refl
  held-all zero (c ∷ cs) h = absurd (omega (arith, h))
  held-all (suc n) (c ∷ cs) h = ap (λ v. first_of rows kids c ∷ v) (held-all n cs (omega (arith, h)))

  pub held-long : (n : ℕ) (cs : List Source) → length (held_to n cs) ≡ length cs
  held-long n [] = refl
  held-long zero (c ∷ cs) = ap (λ n. suc n) (held-long zero cs)
  held-long (suc n) (c ∷ cs) = ap (λ n. suc n) (held-long n cs)

  pub held-empty : (n : ℕ) (cs : List Source) → get_or (held_to n cs) n [] ≡ []
  held-empty n [] = refl
  held-empty zero (c ∷ cs) = refl
  held-empty (suc n) (c ∷ cs) = held-empty n cs

  pub held-more : (n : ℕ) (cs : List Source) (c : Source) → n < length cs → c ≡ get_or cs n c → set (held_to n cs) n (first_of rows kids c) ≡ held_to (suc n) cs
  held-more n [] c h e = absurd (omega (arith, h))
  held-more zero (d ∷ cs) c h e = ap (λ v. first_of rows kids v ∷ held_to zero cs) e
  held-more (suc n) (d ∷ cs) c h e = ap (λ v. first_of rows kids d ∷ v) (held-more n cs c (omega (arith, h)) e)
