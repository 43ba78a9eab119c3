-- A name of a document has the form of a name in a report.
use Rattle.std.proofs.Common.{◌≡◌, ℕ, ◌≤◌, List, [], ◌∷◌, Bool, true, false, ◌&&◌, ◌||◌, ◌==◌, length, nat_lt, nat_le, refl, arith}
use Rattle.std.specs.Prelude.{slice_index}
use Rattle.std.specs.List.{AllByRecursion, list_all}
use Rattle.std.proofs.lemmas.List.Elements.{All-from_recursion}
use Rattle.std.proofs.lemmas.Bool.Decides.{nat_tests}
use Rattle.pt_value.specs.Name.{BeginsName, ContinuesName, HasNameForm}
use Rattle.pt_document.specs.Names.{is_first, is_later, is_name}
use Rattle.pt_trace.specs.ReportForm.{IsName}

pub and-left : (a b : Bool) → (a && b) ≡ true → a ≡ true
and-left true b e = refl
and-left false b e = e

pub and-right : (a b : Bool) → (a && b) ≡ true → b ≡ true
and-right true b e = e
and-right false b e = absurd (cc)

-- the same tests in another order
first-order : (low up line : Bool) → (low || up || line) ≡ true → ((up || low) || line) ≡ true
first-order true true line e = refl
first-order true false line e = refl
first-order false true line e = refl
first-order false false line e = e

later-order : (digit low up line : Bool) → ((low || up || line) || digit) ≡ true → (((digit || up) || low) || line) ≡ true
later-order true low up line e = refl
later-order false low true line e = refl
later-order false true false line e = refl
later-order false false false true e = refl
later-order false false false false e = e

begins : (c : ℕ) → is_first c ≡ true → BeginsName c
begins c e = first-order (nat_le 97 c && nat_le c 122) (nat_le 65 c && nat_le c 90) (c == 95) e

goes-on : (c : ℕ) → is_later c ≡ true → ContinuesName c
goes-on c e = later-order (nat_le 48 c && nat_le c 57) (nat_le 97 c && nat_le c 122) (nat_le 65 c && nat_le c 90) (c == 95) e

go-on : (cs : List ℕ) → list_all is_later cs ≡ true → AllByRecursion ContinuesName cs
go-on [] e = tt
go-on (c ∷ cs) e = (goes-on c (and-left (is_later c) (list_all is_later cs) e), go-on cs (and-right (is_later c) (list_all is_later cs) e))

has-form : (n : List ℕ) → nat_lt 0 (length n) ≡ true → is_first (slice_index n 0) ≡ true → list_all is_later n ≡ true → HasNameForm n
has-form [] some first all = absurd (cc)
has-form (c ∷ cs) some first all = (begins c first, All-from_recursion ContinuesName cs (go-on cs (and-right (is_later c) (list_all is_later cs) all)))

pub name-of : (n : List ℕ) → is_name n ≡ true → IsName n
unfolding is_name
name-of n e =
    let all = and-right (nat_lt 0 (length n) && nat_le (length n) 64 && is_first (slice_index n 0)) (list_all is_later n) e in
    let front = and-left (nat_lt 0 (length n) && nat_le (length n) 64 && is_first (slice_index n 0)) (list_all is_later n) e in
    let first = and-right (nat_lt 0 (length n) && nat_le (length n) 64) (is_first (slice_index n 0)) front in
    let measured = and-left (nat_lt 0 (length n) && nat_le (length n) 64) (is_first (slice_index n 0)) front in
    let some = and-left (nat_lt 0 (length n)) (nat_le (length n) 64) measured in
    let few : nat_le (length n) 64 ≡ true = and-right (nat_lt 0 (length n)) (nat_le (length n) 64) measured in
    let short : length n ≤ 64 = grind (arith, nat_tests) in
    record { form = has-form n some first all; short = short }
