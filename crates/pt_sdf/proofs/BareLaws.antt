-- A core whose channels are found to have no tokens.
use Rattle.std.proofs.Common.{◌≡◌, ℕ, zero, suc, ◌+◌, ◌<◌, ◌≤◌, List, [], ◌∷◌, length, map, Bool, true, false, nat_eq, refl, sym, ap, ap₂, subst, ◌∙◌, arith, eqb-true}
use Rattle.std.proofs.lemmas.Bool.{eqb-false}
use Rattle.pt_meaning.specs.Streams.{Streams}
use Rattle.pt_value.specs.declared.token.Token.{Token}
use Rattle.pt_core.specs.declared.source.Source.{Source}
use Rattle.pt_core.specs.Source.{source_of}
use Rattle.pt_recv.specs.Lines.{list_at}
use Rattle.pt_sdf.specs.declared.sdf.Stage as declared
use Rattle.pt_sdf.specs.declared.sdf.Stage.TheVariants as code
use Rattle.pt_sdf.specs.declared.sdf.Core.TheInside.{Inside}
use Rattle.pt_sdf.specs.State.{Idle}
use Rattle.pt_sdf.specs.Clauses.{State}
use Rattle.pt_sdf_parts.specs.Plan.{plan_of}
use Rattle.pt_sdf.specs.Core.{with_asked, state_of, seen_in, at_in, order_in, IsSound}
use Rattle.pt_sdf.specs.Bare.{IsBare}

-- the first k have none
abbrev pub EmptyTo : ℕ → Streams Token → Type 0
EmptyTo k lists = (d : ℕ) → d < k → list_at lists d ≡ []

less : (i k : ℕ) → i ≤ k → (i ≡ k → ⊥) → i < k
less zero zero m d = absurd (d refl)
less zero (suc k) m d = omega arith
less (suc i) zero m d = absurd (omega (arith, m))
less (suc i) (suc k) m d = let h = less i k (omega (arith, m)) (λ e. d (ap (λ n. suc n) e)) in omega (arith, h)

sources-length : (sources : List Source) → length (map source_of sources) ≡ length sources
sources-length [] = refl
sources-length (c ∷ cs) = let h = sources-length cs in omega (arith, h)

pub empty-more : (k : ℕ) (lists : Streams Token) → EmptyTo k lists → length (list_at lists k) ≡ 0 → EmptyTo (k + 1) lists
empty-more k lists h e d l = by_number (nat_eq d k) refl
  where
    none : (xs : List Token) → length xs ≡ 0 → xs ≡ []
    none [] z = refl
    none (x ∷ xs) z = absurd (omega (arith, z))

    by_number : (b : Bool) → nat_eq d k ≡ b → list_at lists d ≡ []
    by_number true same = ap (λ n. list_at lists n) (eqb-true d k same) ∙ none (list_at lists k) e
    by_number false apart = h d (less d k (omega (arith, l)) (eqb-false d k apart))

all-empty : {A : Type 0} (lists : Streams Token) (cs : List A) → length lists ≡ length cs → EmptyTo (length lists) lists → lists ≡ map (λ c. []) cs
all-empty [] [] e h = refl
all-empty [] (c ∷ cs) e h = absurd (omega (arith, e))
all-empty (xs ∷ lists) [] e h = absurd (omega (arith, e))
all-empty (xs ∷ lists) (c ∷ cs) e h = ap₂ (λ a b. a ∷ b) (h 0 (omega arith)) (all-empty lists cs (omega (arith, e)) (λ d l. h (suc d) (omega (arith, l))))

pub is-bare : (c : Inside) (s : State) → seen_in c ≡ s → c.stage ≡ code.Idle → IsSound c → (k : ℕ) → length c.plan.sources.items ≤ k → EmptyTo k c.channels.lists → IsBare s
is-bare c s e i h k l z = subst (λ v. IsBare v) e (subst (λ stage. IsBare (with_asked stage (state_of (plan_of c.plan) c.plan.needs (order_in c) c.first.lists c.channels.lists c.lent.items c.turns c.left (at_in c) c.tag stage))) (sym i) known)
  where
    known : IsBare (state_of (plan_of c.plan) c.plan.needs (order_in c) c.first.lists c.channels.lists c.lent.items c.turns c.left (at_in c) c.tag code.Idle)
    known = record { idle = refl; held = all-empty c.channels.lists (plan_of c.plan).net.sources h.counted (λ d m. z d (let n = h.counted in let w = sources-length c.plan.sources.items in omega (arith, m, n, l, w))) }
