-- The child that comes first in a set is the one that may have its turn.
use Rattle.std.proofs.Common.{◌≡◌, ℕ, zero, suc, ◌<◌, ◌≤◌, List, [], ◌∷◌, Bool, false, length, get_or, replicate, refl, sym, ap₂, subst, ◌∙◌, arith}
use Rattle.pt_wakes.specs.Due.{DueSet}
use Rattle.pt_wakes.specs.Due as wakes
use Rattle.pt_de_laws.specs.State.{DeState, IsFirst, NoneIsDue, IsLast, IsOver}
use Rattle.pt_de_due.specs.Due.{AreDue, AreLast, none_due}

-- a set that has no child
all-false : (bs : List Bool) (n : ℕ) → length bs ≡ n → ((j : ℕ) → j < n → get_or bs j false ≡ false) → bs ≡ replicate n false
all-false [] zero e h = refl
all-false [] (suc n) e h = absurd (omega (arith, e))
all-false (b ∷ bs) zero e h = absurd (omega (arith, e))
all-false (b ∷ bs) (suc n) e h = ap₂ (λ (x : Bool) (ys : List Bool). x ∷ ys) (h 0 (omega arith)) (all-false bs n (omega (arith, e)) (λ j l. h (suc j) (omega (arith, l))))

module _ {T : Type 0} (s : DeState T) (due : DueSet) (a : AreDue s due) where
  in-set : (j : ℕ) → j < length s.plan.net.places → j < length due.due
  in-set j l = let n = a.long in omega (arith, l, n)

  of-set : (j : ℕ) → j < length due.due → j < length s.plan.net.places
  of-set j l = let n = a.long in omega (arith, l, n)

  pub first-is-first : (i : ℕ) → wakes.IsFirst due i → IsFirst s i
  first-is-first i f = record {
    there = of-set i f.there;
    due = sym (a.each i (of-set i f.there)) ∙ f.due;
    least = λ j l e. subst (λ (ds : List ℕ). get_or ds i 0 ≤ get_or ds j 0) a.depths (f.least j (in-set j l) (a.each j l ∙ e));
  }

  pub none-is-due : wakes.NoneDue due → NoneIsDue s
  none-is-due none j l = sym (a.each j l) ∙ none j (in-set j l)

  pub none-left : wakes.NoneDue due → due ≡ none_due s
  none-left none = ap₂ (λ (ds : List ℕ) (bs : List Bool). let d : DueSet = record { depths = ds; due = bs } in d) a.depths (all-false due.due (length s.plan.net.places) a.long (λ j l. none j (in-set j l)))

module _ {T : Type 0} (s : DeState T) (due last : DueSet) (a : AreDue s due) (b : AreLast s last) (none : wakes.NoneDue due) where
  there : (j : ℕ) → j < length s.plan.net.places → j < length last.due
  there j l = let n = b.long in omega (arith, l, n)

  back : (j : ℕ) → j < length last.due → j < length s.plan.net.places
  back j l = let n = b.long in omega (arith, l, n)

  pub first-is-last : (i : ℕ) → wakes.IsFirst last i → IsLast s i
  first-is-last i f = record { there = back i f.there; last = sym (b.each i (back i f.there)) ∙ f.due; none = none-is-due s due a none }

  pub none-is-over : wakes.NoneDue last → IsOver s
  none-is-over empty = record { none_due = none-is-due s due a none; none_last = λ j l. sym (b.each j l) ∙ empty j (there j l) }

  pub none-last-left : wakes.NoneDue last → last ≡ none_due s
  none-last-left empty = ap₂ (λ (ds : List ℕ) (bs : List Bool). let d : DueSet = record { depths = ds; due = bs } in d) b.depths (all-false last.due (length s.plan.net.places) b.long (λ j l. empty j (there j l)))
