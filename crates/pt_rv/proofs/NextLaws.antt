-- What a process that gets or joins lacks, and where tokens may come.
use Rattle.std.proofs.Common.{◌≡◌, ℕ, zero, suc, ◌+◌, ◌-◌, ◌<◌, ◌≤◌, List, [], ◌∷◌, Bool, true, false, nat_lt, length, get_or, Option, Some, None, if◌then◌else◌, refl, sym, ap, subst, ◌∙◌, arith, zero-add}
use Rattle.std.proofs.lemmas.Bool.{ltb-true, ltb-false}
use Rattle.std.proofs.lemmas.Bool.Decides.{nat_tests}
use Rattle.pt_meaning.specs.Streams.{Streams, at, any_present}
use Rattle.pt_meaning.specs.Machine.{Need, Over, Counts, Any}
use Rattle.pt_meaning.specs.Meetings.{Place, Outlet, target_from}
use Rattle.pt_meaning.specs.Process.{Put, gets_at, is_joining, by_puts, by_need, if_lacking, if_any, lacking}
use Rattle.pt_meaning.specs.Running.{total}
use Rattle.pt_value.specs.declared.token.Token.{Token}
use Rattle.pt_puts.proofs.LineLaws.{lacks-there, gets-next}
use Rattle.pt_rv_work.specs.Core.{Standing, next_of}
use Rattle.pt_rv_parts.specs.Process.{TakesAt, taken_at}

lacks-at : (ns : List ℕ) (X : Streams Token) (r : ℕ) → lacking 0 ns X ≡ Some r → length (at X r) < get_or ns r 0
lacks-at ns X r e = lacks-there ns X 0 r (e ∙ ap (λ v. Option.Some v) (sym (zero-add r)))

-- where it gets at a place a token may come there
takes-lacking : (b : Bool) (ns : List ℕ) (X : Streams Token) (q : ℕ) (o : Option ℕ) → lacking 0 ns X ≡ o → gets_at q (if_lacking b o) ≡ true → length (at X q) < taken_at b ns q
takes-lacking b ns X q None l e = absurd (cc)
takes-lacking true ns X q (Some r) l e = absurd (cc)
takes-lacking false ns X q (Some r) l e = let z : r ≡ q = grind (arith, nat_tests) in subst (λ j. length (at X j) < get_or ns j 0) z (lacks-at ns X r l)

takes-any : (b : Bool) (q : ℕ) → gets_at q (if_any b) ≡ true → b ≡ false
takes-any true q e = absurd (cc)
takes-any false q e = refl

takes-by : (b : Bool) (need : Need) (X : Streams Token) (us : List (Put Token)) (q : ℕ) → gets_at q (by_puts us (by_need b need X)) ≡ true → TakesAt b need X q
takes-by b need X (u ∷ us) q e = absurd (cc)
takes-by b Over X [] q e = absurd (cc)
takes-by b (Counts ns) X [] q e = takes-lacking b ns X q (lacking 0 ns X) refl e
takes-by b Any X [] q e = takes-any (any_present X) q e

pub gets-takes : (p : Standing Token) (q : ℕ) → gets_at q (next_of p) ≡ true → TakesAt p.barrier p.need p.got q
gets-takes p q e = takes-by p.barrier p.need p.got p.puts q e

-- what joins lacks a token somewhere
pub record Lacks (p : Standing Token) : Type 0 where
  pub barrier : p.barrier ≡ true
  pub ns : List ℕ
  pub need : p.need ≡ Counts ns
  pub place : ℕ
  pub there : place < length p.got
  pub fewer : length (at p.got place) < get_or ns place 0

joins-lacking : (b : Bool) (ns : List ℕ) (X : Streams Token) (o : Option ℕ) → lacking 0 ns X ≡ o → is_joining (if_lacking b o) ≡ true → (b ≡ true) × (r : ℕ) × (lacking 0 ns X ≡ Some r)
joins-lacking b ns X None l e = absurd (cc)
joins-lacking true ns X (Some r) l e = (refl, r, l)
joins-lacking false ns X (Some r) l e = absurd (cc)

joins-by : (b : Bool) (need : Need) (X : Streams Token) (us : List (Put Token)) → is_joining (by_puts us (by_need b need X)) ≡ true → (b ≡ true) × (ns : List ℕ) × (need ≡ Counts ns) × (r : ℕ) × (lacking 0 ns X ≡ Some r)
joins-by b need X (u ∷ us) e = absurd (cc)
joins-by b Over X [] e = absurd (cc)
joins-by b (Counts ns) X [] e = let r = joins-lacking b ns X (lacking 0 ns X) refl e in (r.0, ns, refl, r.1, r.2)
joins-by b Any X [] e = absurd (no (any_present X) e)
  where
    no : (t : Bool) → is_joining (if_any t) ≡ true → ⊥
    no true e = cc
    no false e = cc

pub joins-lacks : (p : Standing Token) → is_joining (next_of p) ≡ true → Lacks p
joins-lacks p e =
    let r = joins-by p.barrier p.need p.got p.puts e in
    record { barrier = r.0; ns = r.1; need = r.2; place = r.3; there = gets-next r.1 p.got r.3 r.4; fewer = lacks-at r.1 p.got r.3 r.4 }

-- one that gets at a place is no Barrier that gathers by counts
pub gets-no-level : (p : Standing Token) (q : ℕ) → gets_at q (next_of p) ≡ true → p.barrier ≡ true → (ns : List ℕ) → p.need ≡ Counts ns → ⊥
gets-no-level p q e b ns n = by p.barrier p.need p.got p.puts e b n
  where
    none : (o : Option ℕ) → gets_at q (if_lacking true o) ≡ true → ⊥
    none None e = cc
    none (Some r) e = cc

    by : (t : Bool) (need : Need) (X : Streams Token) (us : List (Put Token)) → gets_at q (by_puts us (by_need t need X)) ≡ true → t ≡ true → need ≡ Counts ns → ⊥
    by t need X (u ∷ us) e b n = cc
    by false need X [] e b n = cc
    by true Over X [] e b n = cc
    by true (Counts ms) X [] e b n = none (lacking 0 ms X) e
    by true Any X [] e b n = cc

-- where a channel ends at an own output, or at a place
pub target-outlet : (i : ℕ) (ns : List ℕ) (c o : ℕ) → target_from i ns c ≡ Outlet o → c ≡ total ns + o
target-outlet i [] c o e = outlet-same c o e ∙ sym (zero-add o)
  where
    outlet-same : (a b : ℕ) → Outlet a ≡ Outlet b → a ≡ b
    outlet-same a b e = cc
target-outlet i (n ∷ ns) c o e = by (λ h. target-outlet (suc i) ns (c - n) o h) (nat_lt c n) refl e
  where
    by : (target_from (suc i) ns (c - n) ≡ Outlet o → c - n ≡ total ns + o) → (b : Bool) → nat_lt c n ≡ b → (if b then Place i c else target_from (suc i) ns (c - n)) ≡ Outlet o → c ≡ total (n ∷ ns) + o
    by ih true t e = absurd (cc)
    by ih false t e = let l = ltb-false c n t in let r = ih e in omega (arith, l, r)

pub record EndsAt (ns : List ℕ) (i j q : ℕ) : Type 0 where
  pub from : i ≤ j
  pub there : j < i + length ns
  pub within : q < get_or ns (j - i) 0

pub target-place : (i : ℕ) (ns : List ℕ) (c j q : ℕ) → target_from i ns c ≡ Place j q → EndsAt ns i j q
target-place i [] c j q e = absurd (cc)
target-place i (n ∷ ns) c j q e = by (λ h. target-place (suc i) ns (c - n) j q h) (nat_lt c n) refl e
  where
    place-same : (a b x y : ℕ) → Place a b ≡ Place x y → (a ≡ x) × (b ≡ y)
    place-same a b x y e = (cc, cc)

    here : (k n : ℕ) (ns : List ℕ) → k ≡ 0 → get_or (n ∷ ns) k 0 ≡ n
    here zero n ns e = refl
    here (suc k) n ns e = absurd (omega (arith, e))

    behind : (k m n : ℕ) (ns : List ℕ) → k ≡ suc m → get_or (n ∷ ns) k 0 ≡ get_or ns m 0
    behind zero m n ns e = absurd (omega (arith, e))
    behind (suc k) m n ns e = let z : k ≡ m = omega (arith, e) in ap (λ v. get_or ns v 0) z

    by : (target_from (suc i) ns (c - n) ≡ Place j q → EndsAt ns (suc i) j q) → (b : Bool) → nat_lt c n ≡ b → (if b then Place i c else target_from (suc i) ns (c - n)) ≡ Place j q → EndsAt (n ∷ ns) i j q
    by ih true t e =
        let l = ltb-true c n t in
        let z = place-same i c j q e in
        let a = z.0 in
        let b = z.1 in
        let d = here (j - i) n ns (omega (arith, a)) in
        record { from = omega (arith, a); there = omega (arith, a); within = omega (arith, l, b, d) }
    by ih false t e =
        let r = ih e in
        let f = r.from in
        let h = r.there in
        let w = r.within in
        let d = behind (j - i) (j - suc i) n ns (omega (arith, f)) in
        record { from = omega (arith, f); there = omega (arith, h); within = omega (arith, w, d) }
