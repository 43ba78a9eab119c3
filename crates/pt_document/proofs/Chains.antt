-- Chains of readings that end in a value or a refusal.
use Rattle.std.proofs.Common.{◌≡◌, ◌⊎◌, inl, inr, List, ℕ, Result, Ok, Err, Bool, true, false, cond, refl, sym, ap}
use Rattle.pt_document.specs.declared.code.Code.{Code}
use Rattle.pt_document.specs.declared.refusal.Refusal.{Refusal}
use Rattle.pt_document.specs.Outcome.{◌>>=◌, refused}

-- a refusal for this cause at this path
abbrev pub Is : Refusal → Code → List ℕ → Type 0
Is r code path = (r.code ≡ code) × (r.path ≡ path)

abbrev pub good : {A : Type 0} → A → Result A Refusal
good x = Ok x

pub is_refused : {A : Type 0} (code : Code) (path : List ℕ) (r : Refusal) → refused {A = A} code path ≡ Err r → Is r code path
is_refused code path r e = let s : record { code = code; path = path } ≡ r = cc in (ap (λ (x : Refusal). x.code) (sym s), ap (λ (x : Refusal). x.path) (sym s))

-- a chain failed at its first part, or behind it
pub bind_err : {A B : Type 0} (x : Result A Refusal) (f : A → Result B Refusal) (r : Refusal) → (x >>= f) ≡ Err r → (x ≡ Err r) ⊎ ((y : A) × (x ≡ Ok y) × (f y ≡ Err r))
bind_err (Ok y) f r e = inr (y, refl, e)
bind_err (Err s) f r e = inl cc

-- a chain that came to its end
pub bind_ok : {A B : Type 0} (x : Result A Refusal) (f : A → Result B Refusal) (y : B) → (x >>= f) ≡ Ok y → (a : A) × (x ≡ Ok a) × (f a ≡ Ok y)
bind_ok (Ok a) f y e = (a, refl, e)
bind_ok (Err r) f y e = absurd cc

pub never_err : {A : Type 0} (x : A) (r : Refusal) → good x ≡ Err r → ⊥
never_err x r e = cc

pub never_ok : {A : Type 0} (code : Code) (path : List ℕ) (x : A) → refused {A = A} code path ≡ Ok x → ⊥
never_ok code path x e = cc

-- a test that failed, and one that passed
pub test_err : {A : Type 0} (b : Bool) (x : A) (code : Code) (path : List ℕ) (r : Refusal) → cond b (good x) (refused code path) ≡ Err r → Is r code path × (b ≡ false)
test_err true x code path r e = absurd cc
test_err false x code path r e = (is_refused code path r e, refl)

pub test_ok : {A : Type 0} (b : Bool) (x y : A) (code : Code) (path : List ℕ) → cond b (good x) (refused code path) ≡ Ok y → (b ≡ true) × (good x ≡ Ok y)
test_ok true x y code path e = (refl, e)
test_ok false x y code path e = absurd cc
