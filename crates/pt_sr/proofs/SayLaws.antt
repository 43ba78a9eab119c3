-- What is known of a place in a tick was given by its source, or told early.
use Rattle.std.proofs.Common.{◌≡◌, ◌⊎◌, inl, inr, ℕ, zero, suc, ◌+◌, ◌≤◌, List, [], ◌∷◌, Bool, true, false, length, get_or, take, drop, map, nat_eq, nat_lt, Option, Some, None, if◌then◌else◌, refl, sym, ap, subst, ◌∙◌, arith}
use Rattle.std.proofs.lemmas.Bool.Decides.{nat_tests}
use Rattle.std.proofs.lemmas.List.{length-map}
use Rattle.pt_meaning.specs.Tag.{Tag}
use Rattle.pt_meaning.specs.Streams.{Streams, get}
use Rattle.pt_meaning.specs.Machine.{Facts, Partial, Unknown, Known, partial_at}
use Rattle.pt_meaning.specs.Net.{Source, Own, Output}
use Rattle.pt_meaning.specs.Tree.{Sr}
use Rattle.pt_meaning.specs.Valuation.{TickPlan}
use Rattle.pt_meaning.specs.Running.{total}
use Rattle.pt_meaning.specs.Closed.{if_there, outputs_at}
use Rattle.pt_laws.specs.Channels.{further, channel_at, source_in}
use Rattle.pt_laws.specs.TickRuns.{places_at}
use Rattle.pt_laws.specs.Explained.{Turned, of_turns, gives_in, MaySay, Nothing, Absence, Gives, Early}
use Rattle.pt_laws.proofs.Indexed.{drop-more}
use Rattle.pt_sr.specs.State.{learnt, after_children, at_first}
use Rattle.pt_sr.proofs.KnownLaws.{after-long, after-at, first-at}

-- what is known of a channel, nothing where there is none
abbrev pub known_in : {T : Type 0} → List (Partial T) → Option ℕ → Partial T
known_in V None = Unknown
known_in V (Some c) = partial_at V c

-- places by channels
module _ {T : Type 0} where
  known-drop : (n : ℕ) (V : List (Partial T)) (q : ℕ) → partial_at (drop n V) q ≡ partial_at V (n + q)
  known-drop zero V q = let a : q ≡ 0 + q = omega arith in ap (λ v. partial_at V v) a
  known-drop (suc n) [] q = refl
  known-drop (suc n) (v ∷ V) q = let a : suc (n + q) ≡ suc n + q = omega arith in known-drop n V q ∙ ap (λ w. partial_at (v ∷ V) w) a

  within-known : (n q : ℕ) (V : List (Partial T)) → nat_lt q n ≡ true → partial_at (take n V) q ≡ partial_at V q
  within-known zero q V e = absurd (grind (arith, nat_tests, e))
  within-known (suc n) q [] e = refl
  within-known (suc n) zero (v ∷ V) e = refl
  within-known (suc n) (suc q) (v ∷ V) e = let a : nat_lt q n ≡ true = grind (arith, nat_tests, e) in within-known n q V a

  beyond-known : (n q : ℕ) (V : List (Partial T)) → nat_lt q n ≡ false → partial_at (take n V) q ≡ Unknown
  beyond-known zero q V e = refl
  beyond-known (suc n) q [] e = refl
  beyond-known (suc n) zero (v ∷ V) e = absurd (grind (arith, nat_tests, e))
  beyond-known (suc n) (suc q) (v ∷ V) e = let a : nat_lt q n ≡ false = grind (arith, nat_tests, e) in beyond-known n q V a

  known-first : (n q : ℕ) (V : List (Partial T)) → partial_at (take n V) q ≡ known_in V (if nat_lt q n then Some q else None)
  known-first n q V = go (nat_lt q n) refl
    where
      go : (b : Bool) → nat_lt q n ≡ b → partial_at (take n V) q ≡ known_in V (if b then Some q else None)
      go true e = within-known n q V e
      go false e = beyond-known n q V e

  known-further : (n : ℕ) (V : List (Partial T)) (o : Option ℕ) → known_in (drop n V) o ≡ known_in V (further n o)
  known-further n V None = refl
  known-further n V (Some c) = known-drop n V c

  pub place-known : (ns : List ℕ) (i q : ℕ) (V : List (Partial T)) → partial_at (places_at ns i V) q ≡ known_in V (channel_at ns i q)
  place-known [] i q V = refl
  place-known (n ∷ ns) zero q V = known-first n q V
  place-known (n ∷ ns) (suc i) q V =
      ap (λ (X : List (Partial T)). partial_at (take (get_or ns i 0) X) q) (drop-more n (total (take i ns)) V) ∙ place-known ns i q (drop n V) ∙ known-further n V (channel_at ns i q)

  past-last : (V : List (Partial T)) (c : ℕ) → length V ≤ c → partial_at V c ≡ Unknown
  past-last [] c h = refl
  past-last (v ∷ V) zero h = absurd (omega (arith, h))
  past-last (v ∷ V) (suc c) h = past-last V c (omega (arith, h))

no-source : (cs : List Source) (c : ℕ) → get cs c ≡ None → length cs ≤ c
no-source [] c e = omega arith
no-source (x ∷ cs) zero e = absurd (cc)
no-source (x ∷ cs) (suc c) e = let t = no-source cs c e in omega (arith, t)

same-number : (j i : ℕ) → nat_eq j i ≡ true → j ≡ i
same-number j i t = grind (arith, nat_tests, t)

module _ {T S : Type 0} (facts : Facts T S) (p : TickPlan) (kids : List S) (inputs : Streams T) (tag : Tag) where
  -- where more has been fired no less may be known
  module _ (turns more : ℕ → List (Turned T)) (grows : (j : ℕ) → (more j ≡ turns j) ⊎ (turns j ≡ [])) where
    given-more : (i q : ℕ) (o : Option Source) → source_in p.net i q ≡ o → MaySay facts (Sr p) kids inputs more tag i q (Known (gives_in inputs turns o))
    given-more i q None e = Absence i q
    given-more i q (Some (Own port)) e = subst (λ (o : Option Source). MaySay facts (Sr p) kids inputs more tag i q (Known (gives_in inputs more o))) e (Gives i q)
    given-more i q (Some (Output j port)) e = by (grows j)
      where
        by : (more j ≡ turns j) ⊎ (turns j ≡ []) → MaySay facts (Sr p) kids inputs more tag i q (Known (of_turns (outputs_at port) (turns j)))
        by (inl g) =
            subst (λ (ts : List (Turned T)). MaySay facts (Sr p) kids inputs more tag i q (Known (of_turns (outputs_at port) ts))) g
            (subst (λ (o : Option Source). MaySay facts (Sr p) kids inputs more tag i q (Known (gives_in inputs more o))) e (Gives i q))
        by (inr g) = subst (λ (ts : List (Turned T)). MaySay facts (Sr p) kids inputs more tag i q (Known (of_turns (outputs_at port) ts))) (sym g) (Absence i q)

    pub says-more : (i q : ℕ) (v : Partial T) → MaySay facts (Sr p) kids inputs turns tag i q v → MaySay facts (Sr p) kids inputs more tag i q v
    says-more i q v (Nothing a b) = Nothing i q
    says-more i q v (Absence a b) = Absence i q
    says-more i q v (Gives a b) = given-more i q (source_in p.net i q) refl
    says-more i q v (Early a b j port s vs xs f e g t) = Early i q j port s vs xs f e (λ place. says-more j place (partial_at vs place) (g place)) t

    -- child i gave something, of which each port may be known so
    module _ (V : List (Partial T)) (i : ℕ) (given : ℕ → Option (List T)) (long : length V ≡ length p.net.sources) (says : (j q : ℕ) → MaySay facts (Sr p) kids inputs turns tag j q (partial_at (places_at p.net.places j V) q))
        (tells : (j q port : ℕ) (xs : List T) → source_in p.net j q ≡ Some (Output i port) → given port ≡ Some xs → MaySay facts (Sr p) kids inputs more tag j q (Known xs)) where
      abbrev W : List (Partial T)
      W = after_children i given p.net.sources V

      module _ (j q : ℕ) where
        abbrev Says : Partial T → Type 0
        Says v = MaySay facts (Sr p) kids inputs more tag j q v

        kept : (c : ℕ) → channel_at p.net.places j q ≡ Some c → Says (partial_at V c)
        kept c e = says-more j q (partial_at V c) (subst (λ v. MaySay facts (Sr p) kids inputs turns tag j q v) (place-known p.net.places j q V ∙ ap (λ o. known_in V o) e) (says j q))

        learns : (c port : ℕ) → channel_at p.net.places j q ≡ Some c → source_in p.net j q ≡ Some (Output i port) → (v : Partial T) → partial_at V c ≡ v → (g : Option (List T)) → given port ≡ g → Says (learnt v g)
        learns c port e f (Known xs) h g w = subst (λ v. Says v) h (kept c e)
        learns c port e f Unknown h None w = Nothing j q
        learns c port e f Unknown h (Some xs) w = tells j q port xs f w

        by_test : (c a port : ℕ) → channel_at p.net.places j q ≡ Some c → source_in p.net j q ≡ Some (Output a port) → (b : Bool) → nat_eq a i ≡ b → Says (if b then learnt (partial_at V c) (given port) else partial_at V c)
        by_test c a port e f false t = kept c e
        by_test c a port e f true t = learns c port e (f ∙ ap (λ n. Some (Output n port)) (same-number a i t)) (partial_at V c) refl (given port) refl

        by_source : (c : ℕ) → channel_at p.net.places j q ≡ Some c → (o : Option Source) → get p.net.sources c ≡ o → Says (partial_at W c)
        by_source c e None g = subst (λ v. Says v) (sym (past-last W c (let n = no-source p.net.sources c g in let w = after-long i given p.net.sources V in omega (arith, n, w, long)))) (Nothing j q)
        by_source c e (Some (Own port)) g = subst (λ v. Says v) (sym (after-at i given p.net.sources V c (Own port) long g)) (kept c e)
        by_source c e (Some (Output a port)) g = subst (λ v. Says v) (sym (after-at i given p.net.sources V c (Output a port) long g)) (by_test c a port e (ap (λ o. if_there (get p.net.sources) o) e ∙ g) (nat_eq a i) refl)

        by_channel : (o : Option ℕ) → channel_at p.net.places j q ≡ o → Says (known_in W o)
        by_channel None e = Nothing j q
        by_channel (Some c) e = by_source c e (get p.net.sources c) refl

        pub says-grown : MaySay facts (Sr p) kids inputs more tag j q (partial_at (places_at p.net.places j (after_children i given p.net.sources V)) q)
        says-grown = subst (λ v. Says v) (sym (place-known p.net.places j q W)) (by_channel (channel_at p.net.places j q) refl)

  -- at the beginning the own inputs are known
  module _ (i q : ℕ) where
    abbrev none : ℕ → List (Turned T)
    none j = []

    abbrev first : List (Partial T)
    first = map (λ c. at_first inputs c) p.net.sources

    abbrev SaysFirst : Partial T → Type 0
    SaysFirst v = MaySay facts (Sr p) kids inputs none tag i q v

    first_source : (c : ℕ) → channel_at p.net.places i q ≡ Some c → (o : Option Source) → get p.net.sources c ≡ o → SaysFirst (partial_at first c)
    first_source c e None g = subst (λ v. SaysFirst v) (sym (past-last first c (let n = no-source p.net.sources c g in let l = length-map p.net.sources (λ s. at_first inputs s) in omega (arith, n, l)))) (Nothing i q)
    first_source c e (Some (Own port)) g =
        subst (λ v. SaysFirst v) (sym (first-at inputs p.net.sources c (Own port) g))
        (subst (λ (o : Option Source). SaysFirst (Known (gives_in inputs none o))) (ap (λ o. if_there (get p.net.sources) o) e ∙ g) (Gives i q))
    first_source c e (Some (Output a port)) g = subst (λ v. SaysFirst v) (sym (first-at inputs p.net.sources c (Output a port) g)) (Nothing i q)

    first_channel : (o : Option ℕ) → channel_at p.net.places i q ≡ o → SaysFirst (known_in first o)
    first_channel None e = Nothing i q
    first_channel (Some c) e = first_source c e (get p.net.sources c) refl

    pub says-first : MaySay facts (Sr p) kids inputs (λ j. []) tag i q (partial_at (places_at p.net.places i (map (λ c. at_first inputs c) p.net.sources)) q)
    says-first = subst (λ v. SaysFirst v) (sym (place-known p.net.places i q first)) (first_channel (channel_at p.net.places i q) refl)
