-- What is written after the bytes that are there.
use Rattle.std.proofs.Common.{◌≡◌, ℕ, List, [], ◌++◌, Bool, true, false, if◌then◌else◌, sym, ap, ◌∙◌, append_assoc}
use Rattle.std.proofs.lemmas.List.{append-nil}
use Rattle.pt_value.specs.Printed.{IsExtended}

-- three parts, one after another
pub appended : (old xs ys zs mid done new : List ℕ) → mid ≡ old ++ xs → done ≡ mid ++ ys → new ≡ done ++ zs → new ≡ old ++ (xs ++ (ys ++ zs))
appended old xs ys zs mid done new a b c = c ∙ ap (λ v. v ++ zs) (b ∙ ap (λ v. v ++ ys) a) ∙ append_assoc (old ++ xs) ys zs ∙ append_assoc old xs (ys ++ zs)

-- one, two or three parts, or none
pub extended-none : (old new : List ℕ) → new ≡ old → IsExtended old new
extended-none old new e = record { more = []; is = e ∙ sym (append-nil old) }

pub extended : (old more new : List ℕ) → new ≡ old ++ more → IsExtended old new
extended old more new e = record { more = more; is = e }

pub extended-more : (old xs ys mid new : List ℕ) → mid ≡ old ++ xs → new ≡ mid ++ ys → IsExtended old new
extended-more old xs ys mid new a b = record { more = xs ++ ys; is = b ∙ ap (λ v. v ++ ys) a ∙ append_assoc old xs ys }

pub extended-last : (old xs ys zs mid done new : List ℕ) → mid ≡ old ++ xs → done ≡ mid ++ ys → new ≡ done ++ zs → IsExtended old new
extended-last old xs ys zs mid done new a b c = record { more = xs ++ (ys ++ zs); is = appended old xs ys zs mid done new a b c }

-- a call that keeps what is there, after one, two or three parts
pub extended-again : (old xs mid new : List ℕ) → mid ≡ old ++ xs → IsExtended mid new → IsExtended old new
extended-again old xs mid new a k = extended-more old xs k.more mid new a k.is

pub extended-kept : (old xs ys mid part new : List ℕ) → mid ≡ old ++ xs → part ≡ mid ++ ys → IsExtended part new → IsExtended old new
extended-kept old xs ys mid part new a b k = extended-last old xs ys k.more mid part new a b k.is

pub extended-after : (old xs ys zs mid done part new : List ℕ) → mid ≡ old ++ xs → done ≡ mid ++ ys → part ≡ done ++ zs → IsExtended part new → IsExtended old new
extended-after old xs ys zs mid done part new a b c k = extended-last old xs ys (zs ++ k.more) mid done new a b (k.is ∙ ap (λ v. v ++ k.more) c ∙ append_assoc done zs k.more)

-- a call that adds its bytes, or none
pub extended-if : (is_done : Bool) (old xs new : List ℕ) → new ≡ (if is_done then old ++ xs else old) → IsExtended old new
extended-if true old xs new e = extended old xs new e
extended-if false old xs new e = extended-none old new e
