-- Guards tested one after another, and none of them wrong.
use Rattle.std.proofs.Common.{◌≡◌, ℕ, zero, suc, ◌<◌, ◌≤◌, ◌+◌, List, [], ◌∷◌, length, get_or, drop, map, Ok, Err, refl, sym, ap, subst, ◌∙◌, arith, add-one}
use Rattle.pt_meaning.specs.Modal.{Test, Choice, Nothing, One, Wrong, chosen, after_on}
use Rattle.pt_meaning.specs.Modal as modal
use Rattle.pt_language.specs.Outcome as outcome
use Rattle.pt_language.specs.Scope.{Scope}
use Rattle.pt_language.specs.Meaning.{value}
use Rattle.pt_language.specs.Expr.{tree_of}
use Rattle.pt_firing.specs.RunFault.{code_of}
use Rattle.pt_firing.specs.declared.fault.RunFault.{RunFault}
use Rattle.pt_guards.specs.declared.evaluation.Test.{Test as Tested}
use Rattle.pt_guards.specs.declared.evaluation.Test.TheVariants as tested
use Rattle.pt_guards.specs.declared.choosing.Enabled.{Enabled}
use Rattle.pt_guards.specs.declared.choosing.Enabled.TheVariants as enabled
use Rattle.pt_chart.specs.declared.written.Transition.{Transition}
use Rattle.pt_chart.specs.Chart.{test_of}
use Rattle.pt_guards.specs.Told.{test_view}
use Rattle.pt_guards.specs.Choose.{tests_in, AreRightGuards, with_on, and_test, joined}
use Rattle.pt_chart.specs.Views.{transition_view}

pub right-at : (s : Scope) (ts : List Transition) (n : ℕ) (x : Transition) → AreRightGuards s (map transition_view ts) → n < length ts → x ≡ get_or ts n x → ¬ (value s (tree_of x.guard) ≡ outcome.Wrong)
right-at s [] n x right short is = absurd (omega (arith, short))
right-at s (t ∷ ts) zero x right short is = subst (λ (u : Transition). ¬ (value s (tree_of u.guard) ≡ outcome.Wrong)) (sym is) right.0
right-at s (t ∷ ts) (suc n) x right short is = right-at s ts n x right.1 (omega (arith, short)) is

tests-next : (s : Scope) (ts : List Transition) (n : ℕ) (x : Transition) → n < length ts → x ≡ get_or ts n x → drop n (tests_in s (map transition_view ts)) ≡ test_of (value s (tree_of x.guard)) ∷ drop (suc n) (tests_in s (map transition_view ts))
tests-next s [] n x short is = absurd (omega (arith, short))
tests-next s (t ∷ ts) zero x short is = ap (λ (u : Transition). test_of (value s (tree_of u.guard)) ∷ tests_in s (map transition_view ts)) (sym is)
tests-next s (t ∷ ts) (suc n) x short is = tests-next s ts n x (omega (arith, short)) is

on-on : (i n : ℕ) (c : Choice) → after_on i (after_on n c) ≡ joined enabled.Several c
on-on i n Nothing = refl
on-on i n (One j) = refl
on-on i n (Wrong code) = refl

several-on : (n : ℕ) (c : Choice) → joined enabled.Several (after_on n c) ≡ joined enabled.Several c
several-on n Nothing = refl
several-on n (One j) = refl
several-on n (Wrong code) = refl

pub joined-on : (e : Enabled) (n : ℕ) (c : Choice) → joined e (after_on n c) ≡ joined (with_on e n) c
joined-on enabled.Nothing n c = refl
joined-on (enabled.One i) n c = on-on i n c
joined-on enabled.Several n c = several-on n c

joined-wrong : (e : Enabled) (code : ℕ) → joined e (Wrong code) ≡ Wrong code
joined-wrong enabled.Nothing code = refl
joined-wrong (enabled.One i) code = refl
joined-wrong enabled.Several code = refl

tested-ok : (e e' : Enabled) (n : ℕ) (t : Tested) (rest : List Test) → and_test e n t ≡ Ok e' → joined e (chosen n (test_view t ∷ rest)) ≡ joined e' (chosen (suc n) rest)
tested-ok e e' n tested.Off rest made = let same : e ≡ e' = cc in ap (λ (x : Enabled). joined x (chosen (suc n) rest)) same
tested-ok e e' n tested.On rest made = let same : with_on e n ≡ e' = cc in joined-on e n (chosen (suc n) rest) ∙ ap (λ (x : Enabled). joined x (chosen (suc n) rest)) same
tested-ok e e' n (tested.Bad kind) rest made = absurd (cc)

tested-err : (e : Enabled) (n : ℕ) (t : Tested) (rest : List Test) (kind : RunFault) → and_test e n t ≡ Err kind → joined e (chosen n (test_view t ∷ rest)) ≡ Wrong (code_of kind)
tested-err e n tested.Off rest kind made = absurd (cc)
tested-err e n tested.On rest kind made = absurd (cc)
tested-err e n (tested.Bad k) rest kind made = let same : k ≡ kind = cc in joined-wrong e (code_of k) ∙ ap (λ (x : RunFault). let c : Choice = Wrong (code_of x) in c) same

module _ (s : Scope) (ts : List Transition) (n : ℕ) (x : Transition) (t : Tested) (e : Enabled) (short : n < length ts) (is : x ≡ get_or ts n x) (told : test_view t ≡ test_of (value s (tree_of x.guard))) where
  here : joined e (chosen n (drop n (tests_in s (map transition_view ts)))) ≡ joined e (chosen n (test_view t ∷ drop (suc n) (tests_in s (map transition_view ts))))
  here =
      ap (λ us. joined e (chosen n us)) (tests-next s ts n x short is)
      ∙ ap (λ u. joined e (chosen n (u ∷ drop (suc n) (tests_in s (map transition_view ts))))) (sym told)

  pub goes-on : (e' : Enabled) → and_test e n t ≡ Ok e' → joined e (chosen n (drop n (tests_in s (map transition_view ts)))) ≡ joined e' (chosen (n + 1) (drop (n + 1) (tests_in s (map transition_view ts))))
  goes-on e' made =
      here ∙ tested-ok e e' n t (drop (suc n) (tests_in s (map transition_view ts))) made ∙ ap (λ m. joined e' (chosen m (drop m (tests_in s (map transition_view ts))))) (sym (add-one n))

  pub stops : (kind : RunFault) → and_test e n t ≡ Err kind → joined e (chosen n (drop n (tests_in s (map transition_view ts)))) ≡ Wrong (code_of kind)
  stops kind made = here ∙ tested-err e n t (drop (suc n) (tests_in s (map transition_view ts))) kind made

pub all-tested : (s : Scope) (ts : List Transition) (n : ℕ) → length ts ≤ n → drop n (tests_in s (map transition_view ts)) ≡ []
all-tested s [] zero past = refl
all-tested s [] (suc n) past = refl
all-tested s (t ∷ ts) zero past = absurd (omega (arith, past))
all-tested s (t ∷ ts) (suc n) past = all-tested s ts n (omega (arith, past))

-- ---- what is chosen is there

one-after : (i n : ℕ) (c : Choice) → after_on i c ≡ One n → i ≡ n
one-after i n Nothing made = cc
one-after i n (One j) made = absurd (cc)
one-after i n (Wrong code) made = absurd (cc)

pub chosen-there : (i n : ℕ) (ts : List Test) → chosen i ts ≡ One n → (i ≤ n) × (n < i + length ts)
chosen-there i n [] made = absurd (cc)
chosen-there i n (modal.Off ∷ ts) made = let h = chosen-there (suc i) n ts made in (omega (arith, h.0), omega (arith, h.1))
chosen-there i n (modal.On ∷ ts) made = let e = one-after i n (chosen (suc i) ts) made in (omega (arith, e), omega (arith, e))
chosen-there i n (modal.Bad code ∷ ts) made = absurd (cc)
