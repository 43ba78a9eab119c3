-- What actors give early, from what is known of tokens of the types of their places.
use Rattle.std.proofs.Common.{◌≡◌, ℕ, zero, suc, List, [], ◌∷◌, map, replicate, Option, Some, None, refl, ap, arith}
use Rattle.std.specs.Prelude.{IfSome}
use Rattle.std.specs.List.{AllByRecursion}
use Rattle.pt_meaning.specs.Basics.{Tag, Streams}
use Rattle.pt_meaning.specs.Streams.{get}
use Rattle.pt_meaning.specs.Machine.{Partial, Unknown, Known, partial_at}
use Rattle.pt_meaning.specs.Valuation.{known_then, known}
use Rattle.pt_meaning.specs.Node.{Answer, Gives, Fails}
use Rattle.pt_value.specs.declared.token.Token.{Token}
use Rattle.pt_datatypes.specs.Datatype.{Datatype}
use Rattle.pt_firing.specs.Strict.{told_by, once_known, strict}
use Rattle.pt_firing.specs.Row.{first_in}
use Rattle.pt_firing.specs.TriState.{tokens_known}
use Rattle.pt_kinds.specs.Signature.{AreOf, AreAllOf, AreKnownOf, AreAllKnownOf}
use Rattle.pt_kinds.proofs.StreamLaws.{all-mono}
use Rattle.pt_typed.specs.TokenTypes.{IsTokenOf, IsUnder}
use Rattle.pt_typed.proofs.TypeLaws.{token-wider}

-- ---- strict actors

-- inputs that are known are of the types of the places
abbrev AreIfKnown : List Datatype → Option (Streams Token) → Type 0
AreIfKnown ps None = Unit {0}
AreIfKnown ps (Some X) = AreAllOf IsTokenOf ps X

known-of : (ps : List Datatype) (vs : List (Partial Token)) → AreAllKnownOf IsTokenOf ps vs → AreIfKnown ps (known vs)
known-of [] [] k = (refl, tt)
known-of [] (v ∷ vs) k = absurd (omega (arith, k.0))
known-of (p ∷ ps) [] k = absurd (omega (arith, k.0))
known-of (p ∷ ps) (Unknown ∷ vs) k = nothing (known vs)
  where
    nothing : (o : Option (Streams Token)) → AreIfKnown (p ∷ ps) (known_then Unknown o)
    nothing None = tt
    nothing (Some X) = tt
known-of (p ∷ ps) (Known xs ∷ vs) k = one_more (known vs) (known-of ps vs (omega (arith, k.0), k.1.1))
  where
    one_more : (o : Option (Streams Token)) → AreIfKnown ps o → AreIfKnown (p ∷ ps) (known_then (Known xs) o)
    one_more None a = tt
    one_more (Some X) a = (ap (λ n. suc n) a.0, (k.1.0, a.1))

nothing-known : (us : List Datatype) (n : ℕ) → AreKnownOf IsTokenOf us (replicate n Unknown)
nothing-known us zero = tt
nothing-known [] (suc n) = nothing-known [] n
nothing-known (u ∷ us) (suc n) = nothing-known us n

all-known : (us : List Datatype) (out : Streams Token) → AreOf IsTokenOf us out → AreKnownOf IsTokenOf us (map Known out)
all-known us [] a = tt
all-known [] (xs ∷ out) a = absurd a
all-known (u ∷ us) (xs ∷ out) a = (a.0, all-known us out a.1)

pub strict-tells : {A : Type 0} (ps us : List Datatype) (n : ℕ) (react : Tag → A → Streams Token → Answer Token A) (tag : Tag) (a : A) → ((X : Streams Token) (b : A) (out : Streams Token) → AreAllOf IsTokenOf ps X → react tag a X ≡ Gives b out → AreOf IsTokenOf us out) →
    (vs : List (Partial Token)) → AreAllKnownOf IsTokenOf ps vs → AreKnownOf IsTokenOf us (strict n react tag a vs)
strict-tells {A} ps us n react tag a keeps vs k = once (known vs) (known-of ps vs k)
  where
    answer : (X : Streams Token) → AreAllOf IsTokenOf ps X → (r : Answer Token A) → react tag a X ≡ r → AreKnownOf IsTokenOf us (told_by n r)
    answer X i (Gives b out) e = all-known us out (keeps X b out i e)
    answer X i (Fails code) e = nothing-known us n

    once : (o : Option (Streams Token)) → AreIfKnown ps o → AreKnownOf IsTokenOf us (once_known n (react tag a) o)
    once None i = nothing-known us n
    once (Some X) i = answer X i (react tag a X) refl

-- ---- what is known of one signal

abbrev pub IsKnownOf : Datatype → Partial Token → Type 0
IsKnownOf u Unknown = Unit {0}
IsKnownOf u (Known xs) = AllByRecursion (IsTokenOf u) xs

pub known-at : (ps : List Datatype) (vs : List (Partial Token)) (n : ℕ) (u : Datatype) → AreKnownOf IsTokenOf ps vs → IsUnder (get ps n) u → IsKnownOf u (partial_at vs n)
known-at ps [] n u a h = tt
known-at [] (Unknown ∷ vs) zero u a h = tt
known-at [] (Unknown ∷ vs) (suc n) u a h = known-at [] vs n u a tt
known-at [] (Known xs ∷ vs) n u a h = absurd a
known-at (p ∷ ps) (Unknown ∷ vs) zero u a h = tt
known-at (p ∷ ps) (Unknown ∷ vs) (suc n) u a h = known-at ps vs n u a h
known-at (p ∷ ps) (Known xs ∷ vs) zero u a h = all-mono (IsTokenOf p) (IsTokenOf u) (λ x k. token-wider p u x h k) xs a.0
known-at (p ∷ ps) (Known xs ∷ vs) (suc n) u a h = known-at ps vs n u a.1 h

pub first-known : (u : Datatype) (v : Partial Token) → IsKnownOf u v → IfSome (first_in (tokens_known v)) (IsTokenOf u)
first-known u Unknown k = tt
first-known u (Known []) k = tt
first-known u (Known (x ∷ xs)) k = k.0

pub one-known : (u : Datatype) (us : List Datatype) (v : Partial Token) → IsKnownOf u v → AreKnownOf IsTokenOf (u ∷ us) (v ∷ [])
one-known u us Unknown k = tt
one-known u us (Known xs) k = (k, tt)
