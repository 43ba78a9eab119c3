-- What a part reads as, or the refusal that is told, and what a function that reads returns.
use Rattle.std.specs.Prelude.{◌≡◌, ℕ, List, Result, Ok, Err}
use Rattle.pt_document.specs.declared.code.Code.{Code}
use Rattle.pt_document.specs.declared.refusal.Refusal.{Refusal}
use Rattle.pt_document.specs.declared.refusal.DocFault.{DocFault}
use Rattle.pt_document.specs.declared.refusal.DocFault.TheVariants as faults

-- one after the other, up to the first refusal
infixl 10 ◌>>=◌
abbrev pub ◌>>=◌ : {A B : Type 0} → Result A Refusal → (A → Result B Refusal) → Result B Refusal
(Ok x) >>= f = f x
(Err e) >>= f = Err e

-- a refusal for this cause, at this path
abbrev pub refused : {A : Type 0} → Code → List ℕ → Result A Refusal
refused code path = Err (record { code = code; path = path })

-- a fault is want of memory, or the refusal that reading gives
abbrev pub Fails : {Y : Type 0} → DocFault → Result Y Refusal → Type 0
Fails faults.Memory read = Unit {0}
Fails (faults.Refused r) read = read ≡ Err r

-- what a function returned, seen by view, is what reading gives, unless memory ran out
abbrev pub Gives : {X Y : Type 0} → (X → Y) → Result X DocFault → Result Y Refusal → Type 0
Gives view (Ok x) read = read ≡ Ok (view x)
Gives view (Err e) read = Fails e read

-- a fault is want of memory, or a refusal for this cause at this path
abbrev pub IsRefusal : DocFault → Code → List ℕ → Type 0
IsRefusal faults.Memory code path = Unit {0}
IsRefusal (faults.Refused r) code path = r ≡ record { code = code; path = path }
