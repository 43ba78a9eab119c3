-- Chains of readings, and faults that a function tells.
use Rattle.std.proofs.Common.{◌≡◌, List, ℕ, Result, Ok, Err, refl, sym, ap}
use Rattle.pt_document.specs.declared.code.Code.{Code}
use Rattle.pt_document.specs.declared.refusal.DocFault.{DocFault}
use Rattle.pt_document.specs.declared.refusal.DocFault.TheVariants as faults
use Rattle.pt_document.specs.declared.refusal.Refusal.{Refusal}
use Rattle.pt_document.specs.Outcome.{◌>>=◌, Fails, IsRefusal, refused}

pub fails : (Y : Type 0) (e : DocFault) (code : Code) (path : List ℕ) → IsRefusal e code path → Fails {Y = Y} e (refused code path)
fails Y faults.Memory code path told = tt
fails Y (faults.Refused r) code path told = ap Err (sym told)

-- chains whose rests agree
pub bind_same : {A B : Type 0} (read : Result A Refusal) (f g : A → Result B Refusal) → ((a : A) → f a ≡ g a) → (read >>= f) ≡ (read >>= g)
bind_same (Ok a) f g same = same a
bind_same (Err r) f g same = refl

-- a chain whose end goes on
pub bind_on : {A B C : Type 0} (read : Result A Refusal) (f : A → Result B Refusal) (k : B → Result C Refusal) (g : A → Result C Refusal) → ((a : A) → g a ≡ (f a >>= k)) → (read >>= g) ≡ ((read >>= f) >>= k)
bind_on (Ok a) f k g same = same a
bind_on (Err r) f k g same = refl
