-- The inputs of a DE top one by one.
use Rattle.std.proofs.Common.{◌≡◌, ℕ, zero, suc, ◌+◌, ◌<◌, ◌≤◌, List, [], ◌∷◌, ◌++◌, length, drop, get_or, Option, None, refl, sym, ap, subst, ◌∙◌, arith, append_assoc, append-nil}
use Rattle.std.proofs.lemmas.List.{length-map}
use Rattle.pt_meaning.specs.Tag.{Tag, earlier}
use Rattle.pt_meaning.specs.Streams.{Streams}
use Rattle.pt_meaning.specs.Schedule.{next_event, first_event, event_at, events_at}
use Rattle.pt_value.specs.declared.token.Token.{Token}
use Rattle.pt_agenda.specs.Events.{Input, Ascend, AllAscend, events_of}

-- ---- what is left of a list

drop-one : {X : Type 0} (xs : List X) (k : ℕ) (d : X) → k < length xs → drop k xs ≡ get_or xs k d ∷ drop (suc k) xs
drop-one [] k d l = absurd (omega (arith, l))
drop-one (x ∷ xs) zero d l = refl
drop-one (x ∷ xs) (suc k) d l = drop-one xs k d (omega (arith, l))

drop-more : {X : Type 0} (xs : List X) (k : ℕ) (d : X) → k < length xs → drop k xs ≡ get_or xs k d ∷ drop (k + 1) xs
drop-more xs k d l = let e : suc k ≡ k + 1 = omega arith in subst (λ n. drop k xs ≡ get_or xs k d ∷ drop n xs) e (drop-one xs k d l)

drop-all : {X : Type 0} (xs : List X) (k : ℕ) → length xs ≤ k → drop k xs ≡ []
drop-all [] zero l = refl
drop-all [] (suc k) l = refl
drop-all (x ∷ xs) zero l = absurd (omega (arith, l))
drop-all (x ∷ xs) (suc k) l = drop-all xs k (omega (arith, l))

events-more : (inputs : List Input) (k : ℕ) (d : Input) → k < length inputs → d ≡ get_or inputs k d → events_of (drop k inputs) ≡ d.items ∷ events_of (drop (k + 1) inputs)
events-more inputs k d l e = ap (λ xs. events_of xs) (drop-more inputs k d l ∙ ap (λ v. v ∷ drop (k + 1) inputs) (sym e))

at-map : (inputs : List Input) (k : ℕ) (d : Input) → k < length inputs → get_or (events_of inputs) k d.items ≡ (get_or inputs k d).items
at-map [] k d l = absurd (omega (arith, l))
at-map (x ∷ xs) zero d l = refl
at-map (x ∷ xs) (suc k) d l = at-map xs k d (omega (arith, l))

-- the events of each input ascend
pub one-ascends : (inputs : List Input) (k : ℕ) (d : Input) → AllAscend inputs → k < length inputs → Ascend (get_or inputs k d).items
one-ascends inputs k d h l = subst Ascend (at-map inputs k d l) (h k d.items (subst (λ n. k < n) (sym (length-map inputs (λ (input : Input). input.items))) l))

-- ---- the first event of the inputs from k on

abbrev pub IsFirstFrom : Option Tag → List Input → ℕ → Option Tag → Type 0
IsFirstFrom last inputs k first = first ≡ first_event last (events_of (drop k inputs))

pub first-of-none : (last : Option Tag) (inputs : List Input) → IsFirstFrom last inputs (length inputs) None
first-of-none last inputs = sym (ap (λ xs. first_event last (events_of xs)) (drop-all inputs (length inputs) (omega arith)))

pub first-of-more : (last : Option Tag) (inputs : List Input) (k : ℕ) (d : Input) (first next : Option Tag) → k < length inputs → d ≡ get_or inputs k d → next ≡ next_event last d.items → IsFirstFrom last inputs (k + 1) first → IsFirstFrom last inputs k (earlier next first)
first-of-more last inputs k d first next l e n f = ap (λ v. earlier v first) n ∙ ap (λ v. earlier (next_event last d.items) v) f ∙ sym (ap (λ E. first_event last E) (events-more inputs k d l e))

-- ---- the tokens of the inputs before k

abbrev pub AreTokensBefore : Tag → List Input → ℕ → Streams Token → Type 0
AreTokensBefore tag inputs k lists = lists ++ events_at tag (events_of (drop k inputs)) ≡ events_at tag (events_of inputs)

pub tokens-more : (tag : Tag) (inputs : List Input) (k : ℕ) (lists : Streams Token) (d : Input) (xs : List Token) → AreTokensBefore tag inputs k lists → k < length inputs → d ≡ get_or inputs k d → xs ≡ event_at tag d.items → AreTokensBefore tag inputs (k + 1) (lists ++ xs ∷ [])
tokens-more tag inputs k lists d xs t l e h =
    append_assoc lists (xs ∷ []) (events_at tag (events_of (drop (k + 1) inputs))) ∙
    ap (λ v. lists ++ v) (ap (λ v. v ∷ events_at tag (events_of (drop (k + 1) inputs))) h ∙ sym (ap (λ E. events_at tag E) (events-more inputs k d l e))) ∙ t

pub tokens-of-all : (tag : Tag) (inputs : List Input) (k : ℕ) (lists : Streams Token) → AreTokensBefore tag inputs k lists → length inputs ≤ k → lists ≡ events_at tag (events_of inputs)
tokens-of-all tag inputs k lists t l = sym (append-nil lists) ∙ ap (λ xs. lists ++ events_at tag (events_of xs)) (sym (drop-all inputs k l)) ∙ t
