-- Puts that are made one after another, and what comes of them.
use Rattle.std.proofs.Common.{◌≡◌, ℕ, zero, suc, ◌+◌, ◌-◌, ◌<◌, ◌≤◌, List, [], ◌∷◌, ◌++◌, Bool, true, false, nat_eq, length, set, get_or, refl, sym, ap, ap₂, ◌∙◌, arith, append-nil, append_assoc, suc-add, zero-add}
use Rattle.std.specs.List.{All}
use Rattle.std.proofs.lemmas.List.Elements.{All-nil, All-cons, All-head, All-tail, All-append}
use Rattle.std.proofs.lemmas.Bool.Decides.{nat_tests}
use Rattle.std.proofs.lemmas.List.{get_or-set_same, get_or-set_other}
use Rattle.pt_meaning.specs.Streams.{Streams, change_at}
use Rattle.pt_meaning.specs.Kahn.{arrival, arrived}
use Rattle.pt_meaning.specs.Net.{Source, Output}
use Rattle.pt_meaning.specs.Process.{Put, to_each, puts_of_port, puts_of, channels_from, listed_if, is_source}
use Rattle.pt_recv.specs.Lines.{pushed}
use Rattle.pt_value.specs.declared.token.Token.{Token}
use Rattle.pt_process.specs.Process.{arrivals, one_if, count_on}
use Rattle.pt_pn.specs.Puts.{all_put}

-- tokens of one channel, one after another
change-none : (L : Streams Token) (c : ℕ) → change_at c (λ ys. ys ++ []) L ≡ L
change-none [] c = refl
change-none (ys ∷ L) zero = ap (λ (v : List Token). v ∷ L) (append-nil ys)
change-none (ys ∷ L) (suc c) = ap (λ (v : Streams Token). ys ∷ v) (change-none L c)

push-then : (L : Streams Token) (c : ℕ) (x : Token) (xs : List Token) → change_at c (λ ys. ys ++ xs) (pushed L c x) ≡ change_at c (λ ys. ys ++ (x ∷ xs)) L
push-then [] c x xs = refl
push-then (ys ∷ L) zero x xs = ap (λ (v : List Token). v ∷ L) (append_assoc ys (x ∷ []) xs)
push-then (ys ∷ L) (suc c) x xs = ap (λ (v : Streams Token). ys ∷ v) (push-then L c x xs)

port-put : (c : ℕ) (xs : List Token) (us : List (Put Token)) (L : Streams Token) → all_put (puts_of_port (c ∷ []) xs ++ us) L ≡ all_put us (change_at c (λ ys. ys ++ xs) L)
port-put c [] us L = ap (λ v. all_put us v) (sym (change-none L c))
port-put c (x ∷ xs) us L = port-put c xs us (pushed L c x) ∙ ap (λ v. all_put us v) (push-then L c x xs)

change-middle : (F L : Streams Token) (xs : List Token) (f : List Token → List Token) → change_at (length F) f (F ++ (xs ∷ L)) ≡ (F ++ (f xs ∷ [])) ++ L
change-middle [] L xs f = refl
change-middle (ys ∷ F) L xs f = ap (λ (v : Streams Token). ys ∷ v) (change-middle F L xs f)

one-longer : (F : Streams Token) (xs : List Token) → length (F ++ (xs ∷ [])) ≡ suc (length F)
one-longer [] xs = refl
one-longer (ys ∷ F) xs = ap (λ n. suc n) (one-longer F xs)

-- what arrives, channel by channel
arrivals-from : (ss : List Source) (F L : Streams Token) (inputs : Streams Token) → length L ≡ length ss → all_put (arrivals (length F) ss inputs) (F ++ L) ≡ F ++ arrived ss inputs L
arrivals-from [] F L inputs e = refl
arrivals-from (s ∷ ss) F [] inputs e = absurd (omega (arith, e))
arrivals-from (s ∷ ss) F (xs ∷ L) inputs e =
    port-put (length F) (arrival s inputs) (arrivals (suc (length F)) ss inputs) (F ++ (xs ∷ L)) ∙
    ap₂ (λ n v. all_put (arrivals n ss inputs) v) (sym (one-longer F (xs ++ arrival s inputs))) (change-middle F L xs (λ ys. ys ++ arrival s inputs)) ∙
    arrivals-from ss (F ++ ((xs ++ arrival s inputs) ∷ [])) L inputs (omega (arith, e)) ∙
    append_assoc F ((xs ++ arrival s inputs) ∷ []) (arrived ss inputs L)

pub arrivals-are : (ss : List Source) (L : Streams Token) (inputs : Streams Token) → length L ≡ length ss → all_put (arrivals 0 ss inputs) L ≡ arrived ss inputs L
arrivals-are ss L inputs e = arrivals-from ss [] L inputs e

-- each put is on a channel that is there
abbrev Below : ℕ → Put Token → Type 0
Below n u = u.channel < n

each-below : (n : ℕ) (x : Token) (cs : List ℕ) → All (λ c. c < n) cs → All (Below n) (to_each x cs)
each-below n x [] a = All-nil (Below n)
each-below n x (c ∷ cs) a = All-cons (Below n) (record { channel = c; token = x }) (to_each x cs) (All-head (λ c. c < n) c cs a) (each-below n x cs (All-tail (λ c. c < n) c cs a))

port-below : (n : ℕ) (cs : List ℕ) (xs : List Token) → All (λ c. c < n) cs → All (Below n) (puts_of_port cs xs)
port-below n cs [] a = All-nil (Below n)
port-below n cs (x ∷ xs) a = All-append (Below n) (to_each x cs) (puts_of_port cs xs) (each-below n x cs a) (port-below n cs xs a)

fan-below : (n c : ℕ) (s : Source) (ds : List Source) → c + length ds ≤ n → All (λ d. d < n) (channels_from c s ds)
fan-below n c s [] h = All-nil (λ d. d < n)
fan-below n c s (d ∷ ds) h = by (is_source s d) (fan-below n (suc c) s ds (let e = suc-add c (length ds) in omega (arith, h, e)))
  where
    by : (b : Bool) → All (λ d. d < n) (channels_from (suc c) s ds) → All (λ d. d < n) (listed_if b c (channels_from (suc c) s ds))
    by true a = All-cons (λ d. d < n) c (channels_from (suc c) s ds) (omega (arith, h)) a
    by false a = a

pub puts-below : (ss : List Source) (i p : ℕ) (X : Streams Token) → All (Below (length ss)) (puts_of ss i p X)
puts-below ss i p [] = All-nil (Below (length ss))
puts-below ss i p (xs ∷ X) = All-append (Below (length ss)) (puts_of_port (channels_from 0 (Output i p) ss) xs) (puts_of ss i (suc p) X) (port-below (length ss) (channels_from 0 (Output i p) ss) xs (fan-below (length ss) 0 (Output i p) ss (let e = zero-add (length ss) in omega (arith, e)))) (puts-below ss i (suc p) X)

pub arrivals-below : (n c : ℕ) (ss : List Source) (inputs : Streams Token) → c + length ss ≤ n → All (Below n) (arrivals c ss inputs)
arrivals-below n c [] inputs h = All-nil (Below n)
arrivals-below n c (s ∷ ss) inputs h =
    All-append (Below n) (puts_of_port (c ∷ []) (arrival s inputs)) (arrivals (suc c) ss inputs) (port-below n (c ∷ []) (arrival s inputs) (All-cons (λ d. d < n) c [] (omega (arith, h)) (All-nil (λ d. d < n))))
    (arrivals-below n (suc c) ss inputs (let e = suc-add c (length ss) in omega (arith, h, e)))

-- a put for which room was promised
pub within-promised : (P : List ℕ) (c : ℕ) → 1 ≤ get_or P c 0 → c < length P
within-promised [] c h = absurd (omega (arith, h))
within-promised (p ∷ P) zero h = omega arith
within-promised (p ∷ P) (suc c) h = let r = within-promised P c h in omega (arith, r)

pub first-counted : (u : Put Token) (us : List (Put Token)) → 1 ≤ count_on u.channel (u ∷ us)
first-counted u us = let e : one_if (nat_eq u.channel u.channel) ≡ 1 = ap one_if (same u.channel) in omega (arith, e)
  where
    same : (c : ℕ) → nat_eq c c ≡ true
    same c = grind (arith, nat_tests)

-- one less is promised on its channel
pub promised-less : (P : List ℕ) (c d : ℕ) → 1 ≤ get_or P c 0 → get_or P d 0 ≡ get_or (set P c (get_or P c 0 - 1)) d 0 + one_if (nat_eq c d)
promised-less P c d h = by (nat_eq c d) refl
  where
    by : (b : Bool) → nat_eq c d ≡ b → get_or P d 0 ≡ get_or (set P c (get_or P c 0 - 1)) d 0 + one_if b
    by true e =
        let z : c ≡ d = grind (arith, nat_tests) in
        let q = ap (λ k. get_or (set P c (get_or P c 0 - 1)) k 0) (sym z) ∙ get_or-set_same P c (get_or P c 0 - 1) 0 (within-promised P c h) in
        let r = ap (λ k. get_or P k 0) z in
        omega (arith, h, q, r)
    by false e =
        let q = get_or-set_other P c d (get_or P c 0 - 1) 0 (λ z. apart z) in
        omega (arith, q)
      where
        apart : d ≡ c → ⊥
        apart z = grind (arith, nat_tests)

-- one put more is made of those that are staged
pub counts-less : (P : List ℕ) (u : Put Token) (us : List (Put Token)) → ((d : ℕ) → count_on d (u ∷ us) ≤ get_or P d 0) → (d : ℕ) → count_on d us ≤ get_or (set P u.channel (get_or P u.channel 0 - 1)) d 0
counts-less P u us h d =
    let a = h u.channel in
    let b = first-counted u us in
    let e = promised-less P u.channel d (omega (arith, a, b)) in
    let r = h d in
    omega (arith, e, r)

pub left-less : (P Q : List ℕ) (u : Put Token) (us all : List (Put Token)) → 1 ≤ get_or Q u.channel 0 → ((d : ℕ) → get_or P d 0 + count_on d (u ∷ us) ≤ get_or Q d 0 + count_on d all) →
    (d : ℕ) → get_or P d 0 + count_on d us ≤ get_or (set Q u.channel (get_or Q u.channel 0 - 1)) d 0 + count_on d all
left-less P Q u us all l h d =
    let e = promised-less Q u.channel d l in
    let r = h d in
    omega (arith, e, r)

pub one-promised : (P : List ℕ) (u : Put Token) (us : List (Put Token)) → ((d : ℕ) → count_on d (u ∷ us) ≤ get_or P d 0) → 1 ≤ get_or P u.channel 0
one-promised P u us h = let a = h u.channel in let b = first-counted u us in omega (arith, a, b)
