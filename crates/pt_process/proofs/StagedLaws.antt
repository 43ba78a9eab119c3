-- Puts that are staged one by one.
use Rattle.std.proofs.Common.{◌≡◌, ℕ, zero, suc, ◌+◌, ◌<◌, ◌≤◌, List, [], ◌∷◌, ◌++◌, Bool, true, false, nat_eq, length, max, set, take, drop, get_or, refl, sym, ap, ap₂, subst, ◌∙◌, arith, append-nil, add-one, Option, Some}
use Rattle.std.proofs.Math.ListN.{get_or-map}
use Rattle.std.proofs.lemmas.List.{length-map}
use Rattle.std.proofs.lemmas.Bool.Decides.{nat_tests}
use Rattle.pt_meaning.specs.Streams.{Streams, get}
use Rattle.pt_meaning.specs.Kahn.{arrival}
use Rattle.pt_meaning.specs.Net.{Source}
use Rattle.pt_meaning.specs.Process.{Put, to_each, puts_of_port}
use Rattle.std.specs.Prelude.{slice_set}
use Rattle.std.specs.List.{All}
use Rattle.pt_recv.specs.Lines.{spare_at}
use Rattle.pt_value.specs.declared.token.Token.{Token}
use Rattle.pt_puts.specs.declared.puts.StagedPut.{StagedPut}
use Rattle.pt_puts.specs.Puts.{put_of, puts_in}
use Rattle.pt_process.specs.Process.{arrivals, one_if, count_on}
use Rattle.pt_puts.proofs.PutLaws.{joined-up}

count-next : (d : ℕ) (us : List StagedPut) (k : ℕ) (u : StagedPut) → k < length us → u ≡ get_or us k u → count_on d (puts_in (take (suc k) us)) ≡ count_on d (puts_in (take k us)) + one_if (nat_eq u.channel d)
count-next d [] k u h e = absurd (omega (arith, h))
count-next d (v ∷ us) zero u h e = ap (λ (w : StagedPut). one_if (nat_eq w.channel d) + 0) (sym e) ∙ plus (one_if (nat_eq u.channel d))
  where
    plus : (n : ℕ) → n + 0 ≡ 0 + n
    plus n = omega arith
count-next d (v ∷ us) (suc k) u h e = let r = count-next d us k u (omega (arith, h)) e in omega (arith, r)

-- one put more is promised
pub promised-more : (us : List StagedPut) (k : ℕ) (u : StagedPut) (P Q R : List ℕ) → k < length us → u ≡ get_or us k u → ((d : ℕ) → get_or P d 0 + count_on d (puts_in (take k us)) ≤ get_or Q d 0) → ((d : ℕ) → get_or Q d 0 ≤ get_or R d 0) → get_or Q u.channel 0 + 1 ≤ get_or R u.channel 0 →
    (d : ℕ) → get_or P d 0 + count_on d (puts_in (take (k + 1) us)) ≤ get_or R d 0
promised-more us k u P Q R h e f g m d = subst (λ j. get_or P d 0 + count_on d (puts_in (take j us)) ≤ get_or R d 0) (sym (add-one k)) (by (nat_eq u.channel d) refl)
  where
    by : (b : Bool) → nat_eq u.channel d ≡ b → get_or P d 0 + count_on d (puts_in (take (suc k) us)) ≤ get_or R d 0
    by true w =
        let z : u.channel ≡ d = grind (arith, nat_tests) in
        let n = count-next d us k u h e ∙ ap (λ b. count_on d (puts_in (take k us)) + one_if b) w in
        let a = f d in
        let b = subst (λ j. get_or Q j 0 + 1 ≤ get_or R j 0) z m in
        omega (arith, n, a, b)
    by false w =
        let n = count-next d us k u h e ∙ ap (λ b. count_on d (puts_in (take k us)) + one_if b) w in
        let a = f d in
        let b = g d in
        omega (arith, n, a, b)

count-each : (x : Token) (d : ℕ) (cs : List ℕ) (k : ℕ) → k < length cs → count_on d (to_each x (take (suc k) cs)) ≡ count_on d (to_each x (take k cs)) + one_if (nat_eq (get_or cs k 0) d)
count-each x d [] k h = absurd (omega (arith, h))
count-each x d (c ∷ cs) zero h = plus (one_if (nat_eq c d))
  where
    plus : (n : ℕ) → n + 0 ≡ 0 + n
    plus n = omega arith
count-each x d (c ∷ cs) (suc k) h = let r = count-each x d cs k (omega (arith, h)) in omega (arith, r)

-- the same of one channel more of a port
pub each-promised : (x : Token) (cs : List ℕ) (k : ℕ) (P Q R : List ℕ) → k < length cs → ((d : ℕ) → get_or P d 0 + count_on d (to_each x (take k cs)) ≤ get_or Q d 0) → ((d : ℕ) → get_or Q d 0 ≤ get_or R d 0) → get_or Q (get_or cs k 0) 0 + 1 ≤ get_or R (get_or cs k 0) 0 →
    (d : ℕ) → get_or P d 0 + count_on d (to_each x (take (k + 1) cs)) ≤ get_or R d 0
each-promised x cs k P Q R h f g m d = subst (λ j. get_or P d 0 + count_on d (to_each x (take j cs)) ≤ get_or R d 0) (sym (add-one k)) (by (nat_eq (get_or cs k 0) d) refl)
  where
    by : (b : Bool) → nat_eq (get_or cs k 0) d ≡ b → get_or P d 0 + count_on d (to_each x (take (suc k) cs)) ≤ get_or R d 0
    by true w =
        let z : get_or cs k 0 ≡ d = grind (arith, nat_tests) in
        let n = count-each x d cs k h ∙ ap (λ b. count_on d (to_each x (take k cs)) + one_if b) w in
        let a = f d in
        let b = subst (λ j. get_or Q j 0 + 1 ≤ get_or R j 0) z m in
        omega (arith, n, a, b)
    by false w =
        let n = count-each x d cs k h ∙ ap (λ b. count_on d (to_each x (take k cs)) + one_if b) w in
        let a = f d in
        let b = g d in
        omega (arith, n, a, b)

-- room for one token more on a channel
pub raised-room : (P S : List ℕ) (c n : ℕ) → length P ≡ length S → ((d : ℕ) → get_or P d 0 ≤ spare_at S d) → (d : ℕ) → get_or (set P c n) d 0 ≤ spare_at (slice_set S c (max n (spare_at S c))) d
raised-room P S c n e h d = both P S c d e (h d)
  where
    least : (n m : ℕ) → n ≤ max n m
    least n m = omega arith

    both : (P S : List ℕ) (c d : ℕ) → length P ≡ length S → get_or P d 0 ≤ spare_at S d → get_or (set P c n) d 0 ≤ spare_at (slice_set S c (max n (spare_at S c))) d
    both [] S c d e r = omega arith
    both (p ∷ P) [] c d e r = absurd (omega (arith, e))
    both (p ∷ P) (s ∷ S) zero zero e r = least n s
    both (p ∷ P) (s ∷ S) zero (suc d) e r = r
    both (p ∷ P) (s ∷ S) (suc c) zero e r = r
    both (p ∷ P) (s ∷ S) (suc c) (suc d) e r = both P S c d (omega (arith, e)) r

pub raised-kept : (P : List ℕ) (c n : ℕ) → get_or P c 0 ≤ n → (d : ℕ) → get_or P d 0 ≤ get_or (set P c n) d 0
raised-kept [] c n h d = omega arith
raised-kept (p ∷ P) zero n h zero = h
raised-kept (p ∷ P) zero n h (suc d) = omega arith
raised-kept (p ∷ P) (suc c) n h zero = omega arith
raised-kept (p ∷ P) (suc c) n h (suc d) = raised-kept P c n h d

pub channel-there : (n : ℕ) (us : List StagedPut) (k : ℕ) (u : StagedPut) → k < length us → u ≡ get_or us k u → All (λ (v : Put Token). v.channel < n) (puts_in us) → u.channel < n
channel-there n us k u h e a =
    let l = length-map us put_of in
    subst (λ (v : Put Token). v.channel < n) (get_or-map put_of us k u ∙ ap put_of (sym e)) (a k (put_of u) (omega (arith, l, h)))

pub kept-on : (P Q R : List ℕ) → ((d : ℕ) → get_or P d 0 ≤ get_or Q d 0) → ((d : ℕ) → get_or Q d 0 ≤ get_or R d 0) → (d : ℕ) → get_or P d 0 ≤ get_or R d 0
kept-on P Q R f g d = let a = f d in let b = g d in omega (arith, a, b)

-- one channel more for which something arrives
pub arrivals-more : (ss : List Source) (c : ℕ) (inputs : Streams Token) (s : Source) (now after all : List (Put Token)) → get ss c ≡ Some s → after ≡ now ++ puts_of_port (c ∷ []) (arrival s inputs) → now ++ arrivals c (drop c ss) inputs ≡ all → after ++ arrivals (c + 1) (drop (c + 1) ss) inputs ≡ all
arrivals-more ss c inputs s now after all g f e =
    ap₂ (λ v j. v ++ arrivals j (drop j ss) inputs) f (add-one c) ∙ joined-up now (puts_of_port (c ∷ []) (arrival s inputs)) (arrivals (suc c) (drop (suc c) ss) inputs) ∙ ap (λ v. now ++ v) (sym (front ss c c g)) ∙ e
  where
    front : (ss : List Source) (c k : ℕ) → get ss k ≡ Some s → arrivals c (drop k ss) inputs ≡ puts_of_port (c ∷ []) (arrival s inputs) ++ arrivals (suc c) (drop (suc k) ss) inputs
    front [] c k g = absurd (cc)
    front (x ∷ ss) c zero g = ap (λ v. puts_of_port (c ∷ []) (arrival v inputs) ++ arrivals (suc c) ss inputs) (some-is x s g)
      where
        some-is : (a b : Source) → Option.Some a ≡ Option.Some b → a ≡ b
        some-is a b e = cc
    front (x ∷ ss) c (suc k) g = front ss c k g

pub arrivals-all : (ss : List Source) (c : ℕ) (inputs : Streams Token) (now all : List (Put Token)) → length ss ≤ c → now ++ arrivals c (drop c ss) inputs ≡ all → now ≡ all
arrivals-all ss c inputs now all h e = sym (append-nil now) ∙ ap (λ v. now ++ arrivals c v inputs) (sym (past ss c h)) ∙ e
  where
    past : (ss : List Source) (c : ℕ) → length ss ≤ c → drop c ss ≡ []
    past [] zero h = refl
    past [] (suc c) h = refl
    past (x ∷ ss) zero h = absurd (omega (arith, h))
    past (x ∷ ss) (suc c) h = past ss c (omega (arith, h))
