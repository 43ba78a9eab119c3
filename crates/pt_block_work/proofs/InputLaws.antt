-- What the firings of a child take in a block.
use Rattle.std.proofs.Common.{◌≡◌, ℕ, ℤ, zero, suc, ◌+◌, ◌*◌, ◌<◌, ◌≤◌, List, [], ◌∷◌, length, map, take, drop, get_or, replicate, refl, sym, ap, ap₂, subst, ◌∙◌, arith}
use Rattle.pt_meaning.specs.Streams.{Streams}
use Rattle.pt_meaning.specs.Net.{Source, Own, Output}
use Rattle.pt_laws.proofs.Indexed.{drop-more}
use Rattle.pt_value.specs.declared.token.Token.{Token}
use Rattle.pt_value.specs.declared.token.Token.TheVariants.{Int}
use Rattle.pt_firing.specs.IntRows.{at_one_place}
use Rattle.pt_library.specs.LibraryActor.{numbers_of}
use Rattle.pt_block_work.specs.Work.{IsSource, given_by, taken, IsReady, AreInputs}

nothing-there : (firings k : ℕ) → get_or (replicate {A = Streams Token} firings []) k [] ≡ []
nothing-there zero k = refl
nothing-there (suc firings) zero = refl
nothing-there (suc firings) (suc k) = nothing-there firings k

as-many : (firings : ℕ) → length (replicate {A = Streams Token} firings []) ≡ firings
as-many zero = refl
as-many (suc firings) = let h = as-many firings in omega (arith, h)

pub inputs-none : (sources : List Source) (needs : List ℕ) (given : List (List ℤ)) (from firings : ℕ) (rows : List (Streams Token)) → rows ≡ replicate firings [] → AreInputs sources needs given from 0 firings rows
inputs-none sources needs given from firings rows e =
    let known : AreInputs sources needs given from 0 firings (replicate firings []) = record { count = as-many firings; ready = λ p l. absurd (omega (arith, l)); each = λ k l. nothing-there firings k } in
    subst (λ v. AreInputs sources needs given from 0 firings v) (sym e) known

place-count : (need firings : ℕ) (numbers : List ℤ) → length (at_one_place need firings numbers) ≡ firings
place-count need zero numbers = refl
place-count need (suc firings) numbers = let h = place-count need firings (drop need numbers) in omega (arith, h)

place-each : (need firings k : ℕ) (numbers : List ℤ) → k < firings → get_or (at_one_place need firings numbers) k [] ≡ map Int (numbers_of need numbers k) ∷ []
place-each need zero k numbers l = absurd (omega (arith, l))
place-each need (suc firings) zero numbers l = let z : 0 ≡ 0 * need = omega arith in ap (λ n. map Int (take need (drop n numbers)) ∷ []) z
place-each need (suc firings) (suc k) numbers l =
    let more : need + k * need ≡ suc k * need = omega arith in
    place-each need firings k (drop need numbers) (omega (arith, l)) ∙ ap (λ v. map Int (take need v) ∷ []) (sym (drop-more need (k * need) numbers) ∙ ap (λ n. drop n numbers) more)

pub inputs-one : (sources : List Source) (needs : List ℕ) (given : List (List ℤ)) (from firings need : ℕ) (numbers : List ℤ) (rows : List (Streams Token)) → need ≡ get_or needs from 0 → IsSource sources given from numbers → length numbers ≡ firings * need → rows ≡ at_one_place need firings numbers →
    AreInputs sources needs given from 1 firings rows
inputs-one sources needs given from firings need numbers rows n s c e = subst (λ v. AreInputs sources needs given from 1 firings v) (sym e) known
  where
    row : given_by given (get_or sources from (Own 0)) ≡ numbers
    row = ap (λ v. given_by given v) s.begins ∙ sym s.row

    ready : IsReady sources needs given from firings
    ready = record {
      source = subst (λ v. IsSource sources given from v) (sym row) s;
      enough = ap (λ v. length v) row ∙ c ∙ ap (λ v. firings * v) n;
    }

    known : AreInputs sources needs given from 1 firings (at_one_place need firings numbers)
    known = record {
      count = place-count need firings numbers;
      ready = λ p l. let here : from ≡ from + p = omega (arith, l) in subst (λ v. IsReady sources needs given v firings) here ready;
      each = λ k l. place-each need firings k numbers l ∙ ap₂ (λ (a : ℕ) (b : List ℤ). map Int (numbers_of a b k) ∷ []) n (sym row);
    }
