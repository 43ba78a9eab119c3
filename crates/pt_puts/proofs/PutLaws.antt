-- Puts that are staged one by one.
use Rattle.std.proofs.Common.{◌≡◌, ℕ, zero, suc, ◌+◌, ◌<◌, ◌≤◌, List, [], ◌∷◌, ◌++◌, length, take, drop, get_or, refl, sym, ap, ap₂, ◌∙◌, arith, append-nil, add-one, Option, Some}
use Rattle.std.proofs.lemmas.List.{length-map, map_more}
use Rattle.std.specs.Prelude.{slice_get}
use Rattle.std.specs.List.{All}
use Rattle.pt_meaning.specs.Streams.{Streams, at}
use Rattle.pt_meaning.specs.Net.{Source, Output}
use Rattle.pt_meaning.specs.Process.{Put, to_each, puts_of_port, puts_of, channels_from}
use Rattle.pt_value.specs.declared.token.Token.{Token}
use Rattle.pt_puts.specs.declared.puts.StagedPut.{StagedPut}
use Rattle.pt_puts.specs.Puts.{put_of, puts_in}

-- the first of the puts
pub first-staged : (us : List StagedPut) (u : StagedPut) → 0 < length us → u ≡ get_or us 0 u → puts_in us ≡ put_of u ∷ puts_in (drop 1 us)
first-staged [] u h e = absurd (omega (arith, h))
first-staged (v ∷ us) u h e = ap (λ (w : StagedPut). put_of w ∷ puts_in us) (sym e)

pub no-staged : (us : List StagedPut) → length us ≤ 0 → puts_in us ≡ []
no-staged [] h = refl
no-staged (u ∷ us) h = absurd (omega (arith, h))

pub staged-front : (us : List StagedPut) (u : StagedPut) → 0 < length us → u ≡ get_or us 0 u → slice_get (puts_in us) 0 ≡ Some (put_of u)
staged-front [] u h e = absurd (omega (arith, h))
staged-front (v ∷ us) u h e = ap (λ (w : StagedPut). Option.Some (put_of w)) (sym e)

pub staged-rest : (us : List StagedPut) → puts_in (drop 1 us) ≡ drop 1 (puts_in us)
staged-rest [] = refl
staged-rest (u ∷ us) = refl

pub staged-long : (us : List StagedPut) → length (puts_in us) ≡ length us
staged-long us = length-map us put_of

pub joined-up : {A : Type 0} (X Y Z : List A) → (X ++ Y) ++ Z ≡ X ++ (Y ++ Z)
joined-up [] Y Z = refl
joined-up (x ∷ X) Y Z = ap (λ v. x ∷ v) (joined-up X Y Z)

pub puts-more : (us : List StagedPut) (u : StagedPut) → puts_in (us ++ (u ∷ [])) ≡ puts_in us ++ (put_of u ∷ [])
puts-more [] u = refl
puts-more (v ∷ us) u = ap (λ w. put_of v ∷ w) (puts-more us u)

-- one put more
pub puts-next : (us cs : List StagedPut) (k : ℕ) (u v : StagedPut) → k < length us → u ≡ get_or us k u → put_of v ≡ put_of u → puts_in cs ≡ puts_in (take k us) → puts_in (cs ++ (v ∷ [])) ≡ puts_in (take (k + 1) us)
puts-next us cs k u v h e z f = puts-more cs v ∙ ap₂ (λ x y. x ++ (y ∷ [])) f (z ∙ ap put_of e) ∙ sym (map_more put_of us k u h)

each-next : (x : Token) (cs : List ℕ) (k : ℕ) → k < length cs → to_each x (take (suc k) cs) ≡ to_each x (take k cs) ++ to_each x (get_or cs k 0 ∷ [])
each-next x [] k h = absurd (omega (arith, h))
each-next x (c ∷ cs) zero h = refl
each-next x (c ∷ cs) (suc k) h = ap (λ (w : List (Put Token)). record { channel = c; token = x } ∷ w) (each-next x cs k (omega (arith, h)))

-- one channel more
pub each-more : (x : Token) (cs : List ℕ) (k : ℕ) (before now after : List (Put Token)) (c : ℕ) → k < length cs → now ≡ before ++ to_each x (take k cs) → c ≡ get_or cs k 0 → after ≡ now ++ to_each x (c ∷ []) → after ≡ before ++ to_each x (take (k + 1) cs)
each-more x cs k before now after c h e z f =
    f ∙ ap₂ (λ v d. v ++ to_each x (d ∷ [])) e z ∙ joined-up before (to_each x (take k cs)) (to_each x (get_or cs k 0 ∷ [])) ∙ ap (λ v. before ++ v) (sym (each-next x cs k h)) ∙ ap (λ j. before ++ to_each x (take j cs)) (sym (add-one k))

port-next : (cs : List ℕ) (xs : List Token) (k : ℕ) (x : Token) → k < length xs → x ≡ get_or xs k x → puts_of_port cs (take (suc k) xs) ≡ puts_of_port cs (take k xs) ++ to_each x cs
port-next cs [] k x h e = absurd (omega (arith, h))
port-next cs (y ∷ xs) zero x h e = ap (λ v. to_each v cs ++ []) (sym e) ∙ append-nil (to_each x cs)
port-next cs (y ∷ xs) (suc k) x h e = ap (λ v. to_each y cs ++ v) (port-next cs xs k x (omega (arith, h)) e) ∙ sym (joined-up (to_each y cs) (puts_of_port cs (take k xs)) (to_each x cs))

-- one token more
pub port-more : (cs : List ℕ) (xs : List Token) (k : ℕ) (x : Token) (before now after : List (Put Token)) → k < length xs → x ≡ get_or xs k x → now ≡ before ++ puts_of_port cs (take k xs) → after ≡ now ++ to_each x cs → after ≡ before ++ puts_of_port cs (take (k + 1) xs)
port-more cs xs k x before now after h e z f =
    f ∙ ap (λ v. v ++ to_each x cs) z ∙ joined-up before (puts_of_port cs (take k xs)) (to_each x cs) ∙ ap (λ v. before ++ v) (sym (port-next cs xs k x h e)) ∙ ap (λ j. before ++ puts_of_port cs (take j xs)) (sym (add-one k))

-- one port more
pub outputs-more : (ss : List Source) (i p : ℕ) (X : Streams Token) (now after all : List (Put Token)) → p < length X → after ≡ now ++ puts_of_port (channels_from 0 (Output i p) ss) (at X p) → now ++ puts_of ss i p (drop p X) ≡ all → after ++ puts_of ss i (p + 1) (drop (p + 1) X) ≡ all
outputs-more ss i p X now after all h f e =
    ap₂ (λ v j. v ++ puts_of ss i j (drop j X)) f (add-one p) ∙ joined-up now (puts_of_port (channels_from 0 (Output i p) ss) (at X p)) (puts_of ss i (suc p) (drop (suc p) X)) ∙ ap (λ v. now ++ v) (sym (front ss i p p X h)) ∙ e
  where
    front : (ss : List Source) (i p k : ℕ) (X : Streams Token) → k < length X → puts_of ss i p (drop k X) ≡ puts_of_port (channels_from 0 (Output i p) ss) (at X k) ++ puts_of ss i (suc p) (drop (suc k) X)
    front ss i p k [] h = absurd (omega (arith, h))
    front ss i p zero (x ∷ X) h = refl
    front ss i p (suc k) (x ∷ X) h = front ss i p k X (omega (arith, h))

pub outputs-all : (ss : List Source) (i p : ℕ) (X : Streams Token) (now all : List (Put Token)) → length X ≤ p → now ++ puts_of ss i p (drop p X) ≡ all → now ≡ all
outputs-all ss i p X now all h e = sym (append-nil now) ∙ ap (λ v. now ++ puts_of ss i p v) (sym (past X p h)) ∙ e
  where
    past : (X : Streams Token) (p : ℕ) → length X ≤ p → drop p X ≡ []
    past [] zero h = refl
    past [] (suc p) h = refl
    past (x ∷ X) zero h = absurd (omega (arith, h))
    past (x ∷ X) (suc p) h = past X p (omega (arith, h))

-- one token on the one port
pub fan-puts : (ss : List Source) (i : ℕ) (x : Token) (cs : List ℕ) → cs ≡ channels_from 0 (Output i 0) ss → to_each x cs ≡ puts_of ss i 0 ((x ∷ []) ∷ [])
fan-puts ss i x cs e =
    ap (λ d. to_each x d) e ∙ sym (append-nil (to_each x (channels_from 0 (Output i 0) ss))) ∙ sym (append-nil (to_each x (channels_from 0 (Output i 0) ss) ++ []))

pub number-puts : (ss : List Source) (i : ℕ) (x : Token) (now after : List (Put Token)) (cs : List ℕ) → now ≡ [] → cs ≡ channels_from 0 (Output i 0) ss → after ≡ now ++ to_each x cs → after ≡ puts_of ss i 0 ((x ∷ []) ∷ [])
number-puts ss i x now after cs z e f = f ∙ ap (λ v. v ++ to_each x cs) z ∙ fan-puts ss i x cs e

-- of puts of a token on each of these channels
pub each-there : (P : ℕ → Type 0) (x : Token) (cs : List ℕ) → All (λ (u : Put Token). P u.channel) (to_each x cs) → All P cs
each-there P x [] a k d h = absurd (omega (arith, h))
each-there P x (c ∷ cs) a zero d h = a 0 (record { channel = 0; token = x }) (omega arith)
each-there P x (c ∷ cs) a (suc k) d h = each-there P x cs (λ j u l. a (suc j) u (omega (arith, l))) k d (omega (arith, h))
