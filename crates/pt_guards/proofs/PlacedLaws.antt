-- Expressions with places for names, one after another.
use Rattle.std.proofs.Common.{◌≡◌, ℕ, ℤ, zero, suc, ◌<◌, ◌≤◌, ◌+◌, List, [], ◌∷◌, ◌++◌, length, get_or, take, drop, map, Bool, true, false, Option, Some, refl, sym, ap, subst, ◌∙◌, arith, add-one, if◌then◌else◌}
use Rattle.std.specs.Str.{bytes_eq}
use Rattle.pt_meaning.specs.Modal.{Test, chosen}
use Rattle.pt_value.specs.Value.{Value}
use Rattle.pt_value.specs.Value as value
use Rattle.pt_value.specs.declared.token.Token.{Token}
use Rattle.pt_types.specs.declared.ty.Ty.{Ty}
use Rattle.pt_types.specs.Ty.{type_of}
use Rattle.pt_types.specs.Entry.{typed_entry}
use Rattle.pt_language.specs.Scope.{Scope}
use Rattle.pt_language.specs.Outcome.{Outcome, Gives}
use Rattle.pt_language.specs.Tree.{Tree}
use Rattle.pt_language.specs.Meaning as meaning
use Rattle.pt_flow_base.proofs.TypedPorts.{front}
use Rattle.pt_formula.specs.Formula.{with_name}
use Rattle.pt_guards.specs.declared.placed.Placed.{Placed}
use Rattle.pt_guards.specs.declared.kept.PlacedTransition.{PlacedTransition}
use Rattle.pt_guards.specs.declared.kept.PlacedMode.{PlacedMode}
use Rattle.pt_guards.specs.declared.choosing.Enabled.{Enabled}
use Rattle.pt_chart.specs.Machine.{ActionTree, TransitionTree, ModeTree, NameTable}
use Rattle.pt_chart.specs.Names.{of_type, with_names}
use Rattle.pt_chart.specs.Chart.{test_of}
use Rattle.pt_guards.specs.Choose.{tests_in, with_on, joined}
use Rattle.pt_chart.specs.Machine.{mode_at, kind_of}
use Rattle.pt_guards.specs.Placed.{Says, SayModes, SaysTransition, SayTransitions, SayActions, SaysAction, IsGiven, AreGiven, IsBoundAt, Each}
use Rattle.pt_guards.proofs.ChooseLaws.{joined-on}

-- ---- lists of one length

-- one more of each
pub each-more : {P T : Type 0} (R : P → T → Type 0) (ps : List P) (ts : List T) (n : ℕ) (p : P) (t : T) → Each R ps (take n ts) → n < length ts → t ≡ get_or ts n t → R p t → Each R (ps ++ (p ∷ [])) (take (n + 1) ts)
each-more R ps [] n p t each short is more = absurd (omega (arith, short))
each-more R [] (u ∷ ts) zero p t each short is more = (subst (λ v. R p v) is more, tt)
each-more R (q ∷ ps) (u ∷ ts) zero p t each short is more = absurd each
each-more R [] (u ∷ ts) (suc n) p t each short is more = absurd each
each-more {P} R (q ∷ ps) (u ∷ ts) (suc n) p t each short is more =
    let whole : List P = (q ∷ ps) ++ (p ∷ []) in
    let next : suc (n + 1) ≡ suc n + 1 = omega arith in
    subst (λ m. Each R whole (take m (u ∷ ts))) next (each.0, each-more R ps ts n p t each.1 (omega (arith, short)) is more)

-- by what the other elements are seen as
pub each-view : {P X T : Type 0} (R : P → T → Type 0) (view : X → T) (ps : List P) (xs : List X) → Each (λ p x. R p (view x)) ps xs → Each R ps (map view xs)
each-view R view [] [] each = each
each-view R view [] (x ∷ xs) each = absurd each
each-view R view (p ∷ ps) [] each = absurd each
each-view R view (p ∷ ps) (x ∷ xs) each = (each.0, each-view R view ps xs each.1)

pub view-each : {P X T : Type 0} (R : P → T → Type 0) (view : X → T) (ps : List P) (xs : List X) → Each R ps (map view xs) → Each (λ p x. R p (view x)) ps xs
view-each R view [] [] each = each
view-each R view [] (x ∷ xs) each = absurd each
view-each R view (p ∷ ps) [] each = absurd each
view-each R view (p ∷ ps) (x ∷ xs) each = (each.0, view-each R view ps xs each.1)

pub each-length : {P T : Type 0} (R : P → T → Type 0) (ps : List P) (ts : List T) → Each R ps ts → length ps ≡ length ts
each-length R [] [] each = refl
each-length R [] (t ∷ ts) each = absurd each
each-length R (p ∷ ps) [] each = absurd each
each-length R (p ∷ ps) (t ∷ ts) each = ap suc (each-length R ps ts each.1)

-- two elements at one number
pub each-at : {P T : Type 0} (R : P → T → Type 0) (ps : List P) (ts : List T) (n : ℕ) (p : P) (t : T) → Each R ps ts → n < length ps → p ≡ get_or ps n p → t ≡ get_or ts n t → R p t
each-at R [] ts n p t each short is there = absurd (omega (arith, short))
each-at R (q ∷ ps) [] n p t each short is there = absurd each
each-at R (q ∷ ps) (u ∷ ts) zero p t each short is there = subst (λ v. R p v) (sym there) (subst (λ r. R r u) (sym is) each.0)
each-at R (q ∷ ps) (u ∷ ts) (suc n) p t each short is there = each-at R ps ts n p t each.1 (omega (arith, short)) is there

-- the other one at a number
pub each-there : {P T : Type 0} (R : P → T → Type 0) (ps : List P) (ts : List T) (n : ℕ) (p : P) → Each R ps ts → n < length ps → p ≡ get_or ps n p → (t : T) × (n < length ts) × (t ≡ get_or ts n t) × R p t
each-there R [] ts n p each short is = absurd (omega (arith, short))
each-there R (q ∷ ps) [] n p each short is = absurd each
each-there R (q ∷ ps) (u ∷ ts) zero p each short is = (u, omega arith, refl, subst (λ r. R r u) (sym is) each.0)
each-there R (q ∷ ps) (u ∷ ts) (suc n) p each short is = let r = each-there R ps ts n p each.1 (omega (arith, short)) is in (r.0, omega (arith, r.1), r.2, r.3)

pub take-whole : {T : Type 0} (xs : List T) (n : ℕ) → length xs ≤ n → take n xs ≡ xs
take-whole [] zero past = refl
take-whole [] (suc n) past = refl
take-whole (x ∷ xs) zero past = absurd (omega (arith, past))
take-whole (x ∷ xs) (suc n) past = ap (λ r. x ∷ r) (take-whole xs n (omega (arith, past)))

-- once all have been gone over
pub each-all : {P X T : Type 0} (R : P → T → Type 0) (view : X → T) (ps : List P) (xs : List X) (n : ℕ) → Each (λ p x. R p (view x)) ps (take n xs) → length xs ≤ n → Each R ps (map view xs)
each-all R view ps xs n each past = each-view R view ps xs (subst (λ ys. Each (λ p x. R p (view x)) ps ys) (take-whole xs n past) each)

-- ---- the last entry of a name

-- the later entries have another name
abbrev pub Rest : List (List ℕ × Ty) → List ℕ → Type 0
Rest es name = (k : ℕ) (read : ℕ → Option Token) (s : Scope) → with_names k (map typed_entry es) read s name ≡ s name

not-named : (e name : List ℕ) (held : Option Value) (s : Scope) → bytes_eq e name ≡ false → with_name e held s name ≡ s name
not-named e name held s other = ap (λ b. if b then Some held else s name) other

is-named : (e name : List ℕ) (held : Option Value) (s : Scope) → bytes_eq e name ≡ true → with_name e held s name ≡ Some held
is-named e name held s same = ap (λ b. if b then Some held else s name) same

pub rest-next : (es : List (List ℕ × Ty)) (n : ℕ) (e : List ℕ × Ty) (name : List ℕ) → n < length es → e ≡ get_or es n e → bytes_eq e.0 name ≡ false → Rest (drop (n + 1) es) name → Rest (drop n es) name
rest-next es n e name short is other rest k read s =
    ap (λ xs. with_names k (map typed_entry xs) read s name) (front es n e short is)
    ∙ rest (suc k) read (with_name e.0 (of_type (type_of e.1) (read k)) s)
    ∙ not-named e.0 name (of_type (type_of e.1) (read k)) s other

before : (k : ℕ) (es : List (List ℕ × Ty)) (n : ℕ) (read : ℕ → Option Token) (s : Scope) (name : List ℕ) → (s' : Scope) × (with_names k (map typed_entry es) read s name ≡ with_names (k + n) (map typed_entry (drop n es)) read s' name)
before k [] zero read s name = (s, refl)
before k [] (suc n) read s name = (s, refl)
before k (x ∷ xs) zero read s name = let none : k ≡ k + zero = omega arith in (s, ap (λ j. with_names j (map typed_entry (x ∷ xs)) read s name) none)
before k (x ∷ xs) (suc n) read s name =
    let r = before (suc k) xs n read (with_name x.0 (of_type (type_of x.1) (read k)) s) name in
    let same : suc k + n ≡ k + suc n = omega arith in
    (r.0, r.1 ∙ ap (λ j. with_names j (map typed_entry (drop n xs)) read r.0 name) same)

pub bound-here : (es : List (List ℕ × Ty)) (n : ℕ) (e : List ℕ × Ty) (name : List ℕ) → n < length es → e ≡ get_or es n e → bytes_eq e.0 name ≡ true → Rest (drop (n + 1) es) name → IsBoundAt (map typed_entry es) name n (type_of e.1)
bound-here es n e name short is same rest read s =
    let r = before 0 es n read s name in
    let here : 0 + n ≡ n = omega arith in
    r.1
    ∙ ap (λ j. with_names j (map typed_entry (drop n es)) read r.0 name) here
    ∙ ap (λ xs. with_names n (map typed_entry xs) read r.0 name) (front es n e short is)
    ∙ rest (suc n) read (with_name e.0 (of_type (type_of e.1) (read n)) r.0)
    ∙ is-named e.0 name (of_type (type_of e.1) (read n)) r.0 same

-- ---- guards

tests-at : (s : Scope) (ts : List TransitionTree) (n : ℕ) (t : TransitionTree) → n < length ts → t ≡ get_or ts n t → drop n (tests_in s ts) ≡ test_of (meaning.value s t.guard) ∷ drop (suc n) (tests_in s ts)
tests-at s [] n t short is = absurd (omega (arith, short))
tests-at s (u ∷ ts) zero t short is = ap (λ (v : TransitionTree). test_of (meaning.value s v.guard) ∷ tests_in s ts) (sym is)
tests-at s (u ∷ ts) (suc n) t short is = tests-at s ts n t (omega (arith, short)) is

abbrev pub after : Bool → Enabled → ℕ → Enabled
after true e n = with_on e n
after false e n = e

step : (b : Bool) (e : Enabled) (n : ℕ) (rest : List Test) → joined e (chosen n (test_of (Gives (value.Bool b)) ∷ rest)) ≡ joined (after b e n) (chosen (suc n) rest)
step true e n rest = joined-on e n (chosen (suc n) rest)
step false e n rest = refl

pub guard-next : (table : NameTable) (s : Scope) (ps : List PlacedTransition) (ts : List TransitionTree) (n : ℕ) (p : PlacedTransition) (e : Enabled) (b : Bool) → SayTransitions table ps ts → n < length ps → p ≡ get_or ps n p → ((tree : Tree) → Says table p.guard tree → meaning.value s tree ≡ Gives (value.Bool b)) →
    joined e (chosen n (drop n (tests_in s ts))) ≡ joined (after b e n) (chosen (n + 1) (drop (n + 1) (tests_in s ts)))
guard-next table s ps ts n p e b says short is told =
    let r = each-there (λ q t. SaysTransition table q t) ps ts n p says short is in
    ap (λ us. joined e (chosen n us)) (tests-at s ts n r.0 r.1 r.2)
    ∙ ap (λ (o : Outcome Value). joined e (chosen n (test_of o ∷ drop (suc n) (tests_in s ts)))) (told r.0.guard r.3.guard)
    ∙ step b e n (drop (suc n) (tests_in s ts))
    ∙ ap (λ m. joined (after b e n) (chosen m (drop m (tests_in s ts)))) (sym (add-one n))

tests-length : (s : Scope) (ts : List TransitionTree) → length (tests_in s ts) ≡ length ts
tests-length s [] = refl
tests-length s (t ∷ ts) = ap suc (tests-length s ts)

none-left : {A : Type 0} (xs : List A) (n : ℕ) → length xs ≤ n → drop n xs ≡ []
none-left [] zero past = refl
none-left [] (suc n) past = refl
none-left (x ∷ xs) zero past = absurd (omega (arith, past))
none-left (x ∷ xs) (suc n) past = none-left xs n (omega (arith, past))

pub all-guards : (table : NameTable) (s : Scope) (ps : List PlacedTransition) (ts : List TransitionTree) (n : ℕ) → SayTransitions table ps ts → length ps ≤ n → drop n (tests_in s ts) ≡ []
all-guards table s ps ts n says past = none-left (tests_in s ts) n (omega (arith, past, tests-length s ts, each-length (λ q t. SaysTransition table q t) ps ts says))

-- ---- actions

-- one more integer that is given
pub given-more : (table : NameTable) (s : Scope) (ps : List Placed) (actions : List ActionTree) (n : ℕ) (p : Placed) (i : ℤ) (ns : List ℤ) → SayActions table ps actions → n < length ps → p ≡ get_or ps n p → ((tree : Tree) → Says table p tree → meaning.value s tree ≡ Gives (value.Int i)) → AreGiven s (take n actions) ns → AreGiven s (take (n + 1) actions) (ns ++ (i ∷ []))
given-more table s ps actions n p i ns says short is told given =
    let r = each-there (SaysAction table) ps actions n p says short is in
    each-more (IsGiven s) ns actions n i r.0 given r.1 r.2 (told r.0.tree r.3)

pub given-all : (table : NameTable) (s : Scope) (ps : List Placed) (actions : List ActionTree) (n : ℕ) (ns : List ℤ) → SayActions table ps actions → length ps ≤ n → AreGiven s (take n actions) ns → AreGiven s actions ns
given-all table s ps actions n ns says past given = subst (λ acts. AreGiven s acts ns) (take-whole actions n (omega (arith, past, each-length (SaysAction table) ps actions says))) given

-- ---- the transitions of a kind in a state

abbrev pub kept_kind : (early : Bool) → PlacedMode → List PlacedTransition
kept_kind true p = p.preemptive.items
kept_kind false p = p.others.items

pub kind-there : (table : NameTable) (early : Bool) (ps : List PlacedMode) (trees : List ModeTree) (n : ℕ) (p : PlacedMode) → SayModes table ps trees → n < length ps → p ≡ get_or ps n p → SayTransitions table (kept_kind early p) (kind_of early (mode_at trees n))
kind-there table early [] trees n p says short is = absurd (omega (arith, short))
kind-there table early (q ∷ ps) [] n p says short is = absurd says
kind-there table true (q ∷ ps) (m ∷ trees) zero p says short is = subst (λ (r : PlacedMode). SayTransitions table r.preemptive.items m.preemptive) (sym is) says.0.preemptive
kind-there table false (q ∷ ps) (m ∷ trees) zero p says short is = subst (λ (r : PlacedMode). SayTransitions table r.others.items m.others) (sym is) says.0.others
kind-there table early (q ∷ ps) (m ∷ trees) (suc n) p says short is = kind-there table early ps trees n p says.1 (omega (arith, short)) is

pub kind-past : (table : NameTable) (early : Bool) (ps : List PlacedMode) (trees : List ModeTree) (n : ℕ) → SayModes table ps trees → length ps ≤ n → SayTransitions table [] (kind_of early (mode_at trees n))
kind-past table true [] [] n says past = tt
kind-past table false [] [] n says past = tt
kind-past table early [] (m ∷ trees) n says past = absurd says
kind-past table early (q ∷ ps) [] n says past = absurd says
kind-past table early (q ∷ ps) (m ∷ trees) zero says past = absurd (omega (arith, past))
kind-past table early (q ∷ ps) (m ∷ trees) (suc n) says past = kind-past table early ps trees n says.1 (omega (arith, past))
