-- A signal that decides a gate makes its result, whatever the others are.
use Rattle.std.proofs.Common.{◌≡◌, ◌⊎◌, inl, inr, ℕ, zero, suc, ◌<◌, ◌+◌, List, [], ◌∷◌, length, drop, Bool, true, false, ◌||◌, Option, Some, None, refl, sym, ap, ◌∙◌, add-one, arith}
use Rattle.pt_meaning.specs.Basics.{Streams, at}
use Rattle.pt_meaning.specs.Machine.{Partial, Unknown, Known, partial_at}
use Rattle.pt_meaning.specs.Valuation.{known}
use Rattle.pt_meaning.specs.Laws.{PartialBelow, KnownBelow}
use Rattle.pt_value.specs.declared.token.Token.{Token}
use Rattle.pt_firing.specs.Row.{truth_in, truth_of, truth_at}
use Rattle.pt_firing.specs.TriState.{tokens_known}
use Rattle.pt_lib_time.specs.declared.non_strict_logic_gate.Gate.{Gate}
use Rattle.pt_lib_time.specs.declared.non_strict_logic_gate.Gate.TheVariants.{And, Or}
use Rattle.pt_lib_time.specs.Signal.{known_token}
use Rattle.pt_lib_time.specs.NonStrictLogicGate.{joined, with_signal, result, decider, decides, is_decided}
use Rattle.pt_lib_time.proofs.Early.{split-known}

-- ---- the result, one place after another

at-dropped : (X : Streams Token) (n : ℕ) → n < length X → drop n X ≡ at X n ∷ drop (n + 1) X
at-dropped [] n short = absurd (omega arith)
at-dropped (xs ∷ X) zero short = refl
at-dropped (xs ∷ X) (suc n) short = at-dropped X n (omega arith) ∙ ap (λ m. at X n ∷ drop m X) (add-one n) ∙ ap (λ m. at X n ∷ drop m (xs ∷ X)) (sym (add-one (suc n)))

nothing-left : {T : Type 0} (xs : List T) → drop (length xs) xs ≡ []
nothing-left [] = refl
nothing-left (x ∷ xs) = nothing-left xs

pub result-next : (g : Gate) (X : Streams Token) (n : ℕ) → n < length X → result g (drop n X) ≡ with_signal g (truth_at X n) (result g (drop (n + 1) X))
unfolding result
result-next g X n short = ap (result g) (at-dropped X n short)

pub result-end : (g : Gate) (X : Streams Token) (n : ℕ) → n ≡ length X → result g (drop n X) ≡ None
unfolding result
result-end g X n e = ap (λ m. result g (drop m X)) e ∙ ap (result g) (nothing-left X)

joined-joined : (g : Gate) (a b c : Bool) → joined g (joined g a b) c ≡ joined g a (joined g b c)
joined-joined And true b c = refl
joined-joined And false b c = refl
joined-joined Or true b c = refl
joined-joined Or false b c = refl

pub with-with : (g : Gate) (o p q : Option Bool) → with_signal g (with_signal g o p) q ≡ with_signal g o (with_signal g p q)
with-with g None p q = refl
with-with g (Some a) None q = refl
with-with g (Some a) (Some b) None = refl
with-with g (Some a) (Some b) (Some c) = ap Some (joined-joined g a b c)

pub with-none : (g : Gate) (o : Option Bool) → with_signal g o None ≡ o
with-none g None = refl
with-none g (Some a) = refl

-- ---- whether it is decided, one place after another

partials-dropped : (vs : List (Partial Token)) (n : ℕ) → n < length vs → drop n vs ≡ partial_at vs n ∷ drop (n + 1) vs
partials-dropped [] n short = absurd (omega arith)
partials-dropped (v ∷ vs) zero short = refl
partials-dropped (v ∷ vs) (suc n) short = partials-dropped vs n (omega arith) ∙ ap (λ m. partial_at vs n ∷ drop m vs) (add-one n) ∙ ap (λ m. partial_at vs n ∷ drop m (v ∷ vs)) (sym (add-one (suc n)))

pub decided-next : (g : Gate) (vs : List (Partial Token)) (n : ℕ) → n < length vs → is_decided g (drop n vs) ≡ (decides g (truth_of (known_token vs n)) || is_decided g (drop (n + 1) vs))
unfolding is_decided
decided-next g vs n short = ap (is_decided g) (partials-dropped vs n short)

pub decided-end : (g : Gate) (vs : List (Partial Token)) (n : ℕ) → n ≡ length vs → is_decided g (drop n vs) ≡ false
unfolding is_decided
decided-end g vs n e = ap (λ m. is_decided g (drop m vs)) e ∙ ap (is_decided g) (nothing-left vs)

-- ---- what is decided stays so, and is the result

or-cases : (a b : Bool) → (a || b) ≡ true → (a ≡ true) ⊎ (b ≡ true)
or-cases true b e = inl refl
or-cases false b e = inr e

or-left : (a b : Bool) → a ≡ true → (a || b) ≡ true
or-left true b e = refl
or-left false b e = cc

or-right : (a b : Bool) → b ≡ true → (a || b) ≡ true
or-right true b e = refl
or-right false b e = e

decides-stays : (g : Gate) (v w : Partial Token) → PartialBelow v w → decides g (truth_in (tokens_known v)) ≡ true → decides g (truth_in (tokens_known w)) ≡ true
decides-stays And Unknown w b e = cc
decides-stays Or Unknown w b e = cc
decides-stays And (Known xs) w b e = ap (λ u. decides And (truth_in (tokens_known u))) b ∙ e
decides-stays Or (Known xs) w b e = ap (λ u. decides Or (truth_in (tokens_known u))) b ∙ e

pub decided-stays : (g : Gate) (vs ws : List (Partial Token)) → KnownBelow vs ws → is_decided g vs ≡ true → is_decided g ws ≡ true
unfolding is_decided
decided-stays g [] ws b e = cc
decided-stays g (v ∷ vs) [] b e = absurd b
decided-stays g (v ∷ vs) (w ∷ ws) (b, bs) e = by_place (λ d. decided-stays g vs ws bs d) (or-cases (decides g (truth_in (tokens_known v))) (is_decided g vs) e)
  where
    by_place : (is_decided g vs ≡ true → is_decided g ws ≡ true) → (decides g (truth_in (tokens_known v)) ≡ true) ⊎ (is_decided g vs ≡ true) → (decides g (truth_in (tokens_known w)) || is_decided g ws) ≡ true
    by_place later (inl d) = or-left (decides g (truth_in (tokens_known w))) (is_decided g ws) (decides-stays g v w b d)
    by_place later (inr d) = or-right (decides g (truth_in (tokens_known w))) (is_decided g ws) (later d)

decides-is : (g : Gate) (o : Option Bool) → decides g o ≡ true → o ≡ Some (decider g)
decides-is And None e = cc
decides-is And (Some true) e = cc
decides-is And (Some false) e = refl
decides-is Or None e = cc
decides-is Or (Some true) e = refl
decides-is Or (Some false) e = cc

first-decides : (g : Gate) (o : Option Bool) → with_signal g (Some (decider g)) o ≡ Some (decider g)
first-decides And None = refl
first-decides And (Some b) = refl
first-decides Or None = refl
first-decides Or (Some b) = refl

later-decides : (g : Gate) (o : Option Bool) → with_signal g o (Some (decider g)) ≡ Some (decider g)
later-decides And None = refl
later-decides And (Some true) = refl
later-decides And (Some false) = refl
later-decides Or None = refl
later-decides Or (Some true) = refl
later-decides Or (Some false) = refl

pub decided-result : (g : Gate) (vs : List (Partial Token)) (X : Streams Token) → known vs ≡ Some X → is_decided g vs ≡ true → result g X ≡ Some (decider g)
unfolding is_decided result
decided-result g [] X k e = cc
decided-result g (v ∷ vs) X k e =
    let parts = split-known v (known vs) X k in
    ap (result g) parts.4 ∙ by_place (truth_in parts.0) (result g parts.1) (here parts.0 parts.2) (λ there. decided-result g vs parts.1 parts.3 there) (or-cases (decides g (truth_in (tokens_known v))) (is_decided g vs) e)
  where
    here : (xs : List Token) → v ≡ Known xs → decides g (truth_in (tokens_known v)) ≡ true → truth_in xs ≡ Some (decider g)
    here xs same d = ap (λ u. truth_in (tokens_known u)) (sym same) ∙ decides-is g (truth_in (tokens_known v)) d

    by_place : (o p : Option Bool) → (decides g (truth_in (tokens_known v)) ≡ true → o ≡ Some (decider g)) → (is_decided g vs ≡ true → p ≡ Some (decider g)) → (decides g (truth_in (tokens_known v)) ≡ true) ⊎ (is_decided g vs ≡ true) → with_signal g o p ≡ Some (decider g)
    by_place o p first later (inl d) = ap (λ q. with_signal g q p) (first d) ∙ first-decides g p
    by_place o p first later (inr d) = ap (λ q. with_signal g o q) (later d) ∙ later-decides g o
