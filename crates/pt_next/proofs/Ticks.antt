-- What a tick takes of each input, place by place.
use Rattle.std.proofs.Common.{◌≡◌, ℕ, ◌+◌, ◌<◌, ◌≤◌, max, List, [], ◌∷◌, ◌++◌, nat_lt, length, drop, get_or, Option, refl, sym, ap, ◌∙◌, arith, append_assoc, append-nil}
use Rattle.std.specs.Prelude.{Vec}
use Rattle.std.specs.Global.{Global}
use Rattle.std.proofs.lemmas.Bool.Decides.{nat_tests}
use Rattle.pt_meaning.specs.Basics.{Streams}
use Rattle.pt_meaning.specs.Tick.{longest}
use Rattle.pt_meaning.specs.Schedule.{token_or_none, tokens_at, lists_last}
use Rattle.pt_value.specs.declared.token.Token.{Token}
use Rattle.pt_trees.specs.Top.{ticks_of}
use Rattle.pt_next.proofs.Dropping.{drop-more, drop-all}

abbrev pub Input : Type 0
Input = Vec (Option Token) Global

ticks-more : (inputs : List Input) (k : ℕ) (d : Input) → k < length inputs → d ≡ get_or inputs k d → ticks_of (drop k inputs) ≡ d.items ∷ ticks_of (drop (k + 1) inputs)
ticks-more inputs k d l e = ap (λ xs. ticks_of xs) (drop-more inputs k d l e)

ticks-all : (inputs : List Input) (k : ℕ) → length inputs ≤ k → ticks_of (drop k inputs) ≡ []
ticks-all inputs k l = ap (λ xs. ticks_of xs) (drop-all inputs k l)

-- ---- tokens

-- the tokens of the inputs before k
abbrev pub Ticked : (n : ℕ) (inputs : List Input) (k : ℕ) (lists : Streams Token) → Type 0
Ticked n inputs k lists = lists ++ tokens_at n (ticks_of (drop k inputs)) ≡ tokens_at n (ticks_of inputs)

pub ticked_next : (n : ℕ) (inputs : List Input) (k : ℕ) (lists : Streams Token) (d : Input) (xs : List Token) → Ticked n inputs k lists → k < length inputs → d ≡ get_or inputs k d → xs ≡ token_or_none (drop n d.items) → Ticked n inputs (k + 1) (lists ++ xs ∷ [])
ticked_next n inputs k lists d xs t l e h =
    append_assoc lists (xs ∷ []) (tokens_at n (ticks_of (drop (k + 1) inputs))) ∙
    ap (λ v. lists ++ v) (ap (λ v. v ∷ tokens_at n (ticks_of (drop (k + 1) inputs))) h ∙ sym (ap (λ X. tokens_at n X) (ticks-more inputs k d l e))) ∙ t

pub ticked_last : (n : ℕ) (inputs : List Input) (k : ℕ) (lists : Streams Token) → Ticked n inputs k lists → length inputs ≤ k → lists ≡ tokens_at n (ticks_of inputs)
ticked_last n inputs k lists t l = sym (append-nil lists) ∙ ap (λ X. lists ++ tokens_at n X) (sym (ticks-all inputs k l)) ∙ t

pub no_token : (n : ℕ) (xs : List (Option Token)) → length xs ≤ n → [] ≡ token_or_none (drop n xs)
no_token n xs l = sym (ap (λ v. token_or_none v) (drop-all xs n l))

pub token_there : (n : ℕ) (xs : List (Option Token)) (o : Option Token) → n < length xs → o ≡ get_or xs n o → token_or_none (o ∷ drop (n + 1) xs) ≡ token_or_none (drop n xs)
token_there n xs o l e = ap (λ v. token_or_none v) (sym (drop-more xs n o l e))

-- ---- whether an input lasts

-- none of the inputs before k lasts until the tick
abbrev pub Over : (n : ℕ) (inputs : List Input) (k : ℕ) → Type 0
Over n inputs k = nat_lt n (longest (ticks_of (drop k inputs))) ≡ nat_lt n (longest (ticks_of inputs))

longest-more : (inputs : List Input) (k : ℕ) (d : Input) → k < length inputs → d ≡ get_or inputs k d → longest (ticks_of (drop k inputs)) ≡ max (length d.items) (longest (ticks_of (drop (k + 1) inputs)))
longest-more inputs k d l e = ap (λ X. longest X) (ticks-more inputs k d l e)

pub over_next : (n : ℕ) (inputs : List Input) (k : ℕ) (d : Input) → Over n inputs k → k < length inputs → d ≡ get_or inputs k d → length d.items ≤ n → Over n inputs (k + 1)
over_next n inputs k d o l e short =
    let more = longest-more inputs k d l e in
    same (longest (ticks_of (drop (k + 1) inputs))) ∙ ap (λ m. nat_lt n m) (sym more) ∙ o
  where
    same : (m : ℕ) → nat_lt n m ≡ nat_lt n (max (length d.items) m)
    same m = grind (arith, nat_tests)

-- where there is an input, they last as long as the longest
lasting : (n : ℕ) (X : List (List (Option Token))) → 0 < length X → nat_lt n (longest X) ≡ lists_last n X
lasting n [] s = absurd (omega (arith, s))
lasting n (xs ∷ X) s = refl
