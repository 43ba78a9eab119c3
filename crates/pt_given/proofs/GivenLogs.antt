-- Logs whose meetings are given, one after another.
use Rattle.std.proofs.Common.{◌≡◌, ◌⊎◌, ℕ, zero, suc, ◌+◌, ◌≤◌, ◌<◌, [], ◌∷◌, ◌++◌, inl, inr, refl, sym, ap, ap₂, subst, arith, ◌∙◌, append-nil}
use Rattle.pt_meaning.specs.Streams.{IsPrefix}
use Rattle.pt_meaning.specs.Log.{Path, Log, Firing, firings_in, meetings_in, silent, log_then, own}
use Rattle.pt_meaning.specs.Meetings.{Meets}
use Rattle.pt_meaning.specs.Tree.{Node}
use Rattle.pt_laws.proofs.LevelLaws.{count-append}
use Rattle.pt_records.specs.Counts.{made_at}
use Rattle.pt_records.proofs.MadeLaws.{in-append}

-- What is logged from a node on: the meetings of each firing are a beginning of those that are given for it, and none are of a firing that is finished.
pub record AreGiven {T A : Type 0} (m : Meets) (s : Node T A) (l : Log T) : Type 0 where
  pub first : (p : Path) (n : ℕ) → IsPrefix (meetings_in n (l p)) (m p n)
  pub due : (p : Path) (n : ℕ) → n < made_at s p → meetings_in n (l p) ≡ []

-- none are of a firing that isn't finished at this node
abbrev pub ArePast : {T A : Type 0} → Node T A → Log T → Type 0
ArePast z l = (p : Path) (n : ℕ) → made_at z p ≤ n → meetings_in n (l p) ≡ []

-- the node came to another by a log
abbrev pub CameBy : {T A : Type 0} → Node T A → Log T → Node T A → Type 0
CameBy s l z = (p : Path) → made_at z p ≡ made_at s p + firings_in (l p)

pub before-or-not : (a b : ℕ) → (a < b) ⊎ (b ≤ a)
before-or-not a zero = inr (omega arith)
before-or-not zero (suc b) = inl (omega arith)
before-or-not (suc a) (suc b) = up (before-or-not a b)
  where
    up : (a < b) ⊎ (b ≤ a) → (suc a < suc b) ⊎ (suc b ≤ suc a)
    up (inl h) = inl (omega (arith, h))
    up (inr h) = inr (omega (arith, h))

-- nothing
pub given-none : {T A : Type 0} (m : Meets) (s : Node T A) → AreGiven m s silent
given-none m s = record { first = λ p n. tt; due = λ p n less. refl }

-- one log, and then another
pub given-then : {T A : Type 0} (m : Meets) (s y : Node T A) (l k : Log T) → AreGiven m s l → ArePast y l → CameBy s l y → AreGiven m y k → AreGiven m s (log_then l k)
given-then {T} {A} m s y l k g past came h = record {
  first = λ p n. subst (λ v. IsPrefix v (m p n)) (sym (in-append n (l p) (k p))) (either p n (before-or-not n (made_at y p)));
  due = λ p n less. in-append n (l p) (k p) ∙ ap₂ (λ a b. a ++ b) (g.due p n less) (h.due p n (let c = came p in omega (arith, less, c)));
}
  where
    either : (p : Path) (n : ℕ) → (n < made_at y p) ⊎ (made_at y p ≤ n) → IsPrefix (meetings_in n (l p) ++ meetings_in n (k p)) (m p n)
    either p n (inl less) = subst (λ v. IsPrefix (meetings_in n (l p) ++ v) (m p n)) (sym (h.due p n less)) (subst (λ v. IsPrefix v (m p n)) (sym (append-nil (meetings_in n (l p)))) (g.first p n))
    either p n (inr more) = subst (λ v. IsPrefix (v ++ meetings_in n (k p)) (m p n)) (sym (past p n more)) (h.first p n)

pub past-then : {T A : Type 0} (y z : Node T A) (l k : Log T) → ArePast y l → CameBy y k z → ArePast z k → ArePast z (log_then l k)
past-then y z l k g came h p n more = in-append n (l p) (k p) ∙ ap₂ (λ a b. a ++ b) (g p n (let c = came p in omega (arith, more, c))) (h p n more)

pub came-then : {T A : Type 0} (s y z : Node T A) (l k : Log T) → CameBy s l y → CameBy y k z → CameBy s (log_then l k) z
came-then s y z l k g h p = let a = g p in let b = h p in let c = count-append (l p) (k p) in omega (arith, a, b, c)

-- a record tells no meeting
none-own : {T : Type 0} (f : Firing T) (p : Path) (n : ℕ) → meetings_in n (own f p) ≡ []
none-own f [] n = refl
none-own f (i ∷ p) n = refl

pub with-own : {T : Type 0} (l : Log T) (f : Firing T) (p : Path) (n : ℕ) → meetings_in n (log_then l (own f) p) ≡ meetings_in n (l p)
with-own l f p n = in-append n (l p) (own f p) ∙ ap (λ v. meetings_in n (l p) ++ v) (none-own f p n) ∙ append-nil (meetings_in n (l p))

pub given-own : {T A : Type 0} (m : Meets) (s : Node T A) (l : Log T) (f : Firing T) → AreGiven m s l → AreGiven m s (log_then l (own f))
given-own m s l f g = record { first = λ p n. subst (λ v. IsPrefix v (m p n)) (sym (with-own l f p n)) (g.first p n); due = λ p n less. with-own l f p n ∙ g.due p n less }

pub past-own : {T A : Type 0} (z : Node T A) (l : Log T) (f : Firing T) → ArePast z l → ArePast z (log_then l (own f))
past-own z l f g p n more = with-own l f p n ∙ g p n more
