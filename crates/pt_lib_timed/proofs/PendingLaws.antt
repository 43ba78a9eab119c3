-- Laws of the list of what is pending: what stands in front where its tags ascend, what is due, and its wake.
use Rattle.std.proofs.Common.{◌≡◌, ℕ, zero, suc, ◌+◌, ◌-◌, ◌<◌, ◌≤◌, List, [], ◌∷◌, ◌++◌, length, take, drop, Bool, true, false, Option, Some, None, refl, sym, ap, subst, ◌∙◌, append_assoc, add-one, arith, if◌then◌else◌}
use Rattle.std.specs.Prelude.{slice_index_or, ℤ, IfSome}
use Rattle.std.specs.List.{AllByRecursion}
use Rattle.std.proofs.Math.Seq.{drop-cons, drop-length}
use Rattle.std.proofs.lemmas.Bool.{false≢true}
use Rattle.pt_meaning.specs.Tag.{Tag, tag_le, earlier, is_due}
use Rattle.pt_value.specs.declared.token.Token.{Token}
use Rattle.pt_value.specs.declared.token.Token.TheVariants.{Int}
use Rattle.pt_lib_timed.proofs.TagOrder.{tag_le-total, tag_le-trans}
use Rattle.pt_lib_timed.specs.Pending.{Event, due, left, wake, last_tag}
use Rattle.pt_lib_timed.specs.PendingStore.{IsAscending, IsMarked, is_behind, is_front_due}

-- ---- one at a time

pub due-here : (tag : Tag) (e : Event) (es : List Event) → tag_le e.0 tag ≡ true → due tag (e ∷ es) ≡ e.1 ∷ due tag es
due-here tag e es h = ap (λ (b : Bool). if b then e.1 ∷ due tag es else due tag es) h

pub due-later : (tag : Tag) (e : Event) (es : List Event) → tag_le e.0 tag ≡ false → due tag (e ∷ es) ≡ due tag es
due-later tag e es h = ap (λ (b : Bool). if b then e.1 ∷ due tag es else due tag es) h

pub left-here : (tag : Tag) (e : Event) (es : List Event) → tag_le e.0 tag ≡ true → left tag (e ∷ es) ≡ left tag es
left-here tag e es h = ap (λ (b : Bool). if b then left tag es else e ∷ left tag es) h

pub left-later : (tag : Tag) (e : Event) (es : List Event) → tag_le e.0 tag ≡ false → left tag (e ∷ es) ≡ e ∷ left tag es
left-later tag e es h = ap (λ (b : Bool). if b then left tag es else e ∷ left tag es) h

-- ---- where the tags ascend

-- where one isn't due, none behind it is
none-behind : (tag : Tag) (t : Tag) (es : List Event) → tag_le t tag ≡ false → AllByRecursion (λ f. tag_le t f.0 ≡ true) es → due tag es ≡ []
none-behind tag t [] h all = refl
none-behind tag t (f ∷ es) h all = by_test (tag_le f.0 tag) refl (none-behind tag t es h all.1)
  where
    by_test : (b : Bool) → tag_le f.0 tag ≡ b → due tag es ≡ [] → due tag (f ∷ es) ≡ []
    by_test true e more = absurd (false≢true (sym h ∙ tag_le-trans t f.0 tag all.0 e))
    by_test false e more = due-later tag f es e ∙ more

pub none-due : (tag : Tag) (e : Event) (es : List Event) → IsAscending (e ∷ es) → tag_le e.0 tag ≡ false → due tag (e ∷ es) ≡ []
none-due tag e es asc h = due-later tag e es h ∙ none-behind tag e.0 es h asc.0

-- what nothing of is due is left
pub all-left : (tag : Tag) (es : List Event) → due tag es ≡ [] → left tag es ≡ es
all-left tag [] h = refl
all-left tag (e ∷ es) h = by_test (tag_le e.0 tag) refl (all-left tag es)
  where
    by_test : (b : Bool) → tag_le e.0 tag ≡ b → (due tag es ≡ [] → left tag es ≡ es) → left tag (e ∷ es) ≡ e ∷ es
    by_test true k more = let bad : e.1 ∷ due tag es ≡ [] = sym (due-here tag e es k) ∙ h in cc
    by_test false k more = left-later tag e es k ∙ ap (λ v. e ∷ v) (more (sym (due-later tag e es k) ∙ h))

pub ascending-drop : (k : ℕ) (es : List Event) → IsAscending es → IsAscending (drop k es)
ascending-drop zero es asc = asc
ascending-drop (suc k) [] asc = tt
ascending-drop (suc k) (e ∷ es) asc = ascending-drop k es asc.1

all-taken : (P : Event → Type 0) (n : ℕ) (es : List Event) → AllByRecursion P es → AllByRecursion P (take n es)
all-taken P zero es all = tt
all-taken P (suc n) [] all = tt
all-taken P (suc n) (e ∷ es) all = (all.0, all-taken P n es all.1)

pub ascending-take : (n : ℕ) (es : List Event) → IsAscending es → IsAscending (take n es)
ascending-take zero es asc = tt
ascending-take (suc n) [] asc = tt
ascending-take (suc n) (e ∷ es) asc = (all-taken (λ f. tag_le e.0 f.0 ≡ true) n es asc.0, ascending-take n es asc.1)

-- a tag that is before all is before one behind the last
before-more : (t : Tag) (es : List Event) (e : Event) → AllByRecursion (λ f. tag_le t f.0 ≡ true) es → tag_le t e.0 ≡ true → AllByRecursion (λ f. tag_le t f.0 ≡ true) (es ++ e ∷ [])
before-more t [] e all h = (h, tt)
before-more t (f ∷ es) e all h = (all.0, before-more t es e all.1 h)

-- and so before one that the last is before
before-last : (t : Tag) (f : Event) (es : List Event) (tag : Tag) → AllByRecursion (λ g. tag_le t g.0 ≡ true) (f ∷ es) → is_behind tag (last_tag (f ∷ es)) ≡ true → tag_le t tag ≡ true
before-last t f [] tag all h = tag_le-trans t f.0 tag all.0 h
before-last t f (g ∷ es) tag all h = before-last t g es tag all.1 h

pub ascending-more : (es : List Event) (e : Event) → IsAscending es → is_behind e.0 (last_tag es) ≡ true → IsAscending (es ++ e ∷ [])
ascending-more [] e asc h = (tt, tt)
ascending-more (f ∷ []) e asc h = ((h, tt), (tt, tt))
ascending-more (f ∷ g ∷ es) e asc h = (before-more f.0 (g ∷ es) e asc.0 (before-last f.0 g es e.0 asc.0 h), ascending-more (g ∷ es) e asc.1 h)

-- the first is the least
first-least : (t : Tag) (es : List Event) → AllByRecursion (λ f. tag_le t f.0 ≡ true) es → earlier (Some t) (wake es) ≡ Some t
first-least t [] all = refl
first-least t (f ∷ es) all = by_wake (wake es) (first-least t es all.1)
  where
    by_pair : (u : Tag) → earlier (Some t) (Some u) ≡ Some t → (b : Bool) → earlier (Some t) (if b then Some f.0 else Some u) ≡ Some t
    by_pair u least true = ap (λ (b : Bool). if b then Some t else Some f.0) all.0
    by_pair u least false = least

    by_wake : (o : Option Tag) → earlier (Some t) o ≡ Some t → earlier (Some t) (earlier (Some f.0) o) ≡ Some t
    by_wake None least = ap (λ (b : Bool). if b then Some t else Some f.0) all.0
    by_wake (Some u) least = by_pair u least (tag_le f.0 u)

pub wake-first : (e : Event) (es : List Event) → IsAscending (e ∷ es) → Some e.0 ≡ wake (e ∷ es)
wake-first e es asc = sym (first-least e.0 es asc.0)

-- ---- the wake

due-earlier : (tag : Tag) (a : Tag) (o : Option Tag) → is_due tag (earlier (Some a) o) ≡ false → (tag_le a tag ≡ false) × (is_due tag o ≡ false)
due-earlier tag a None h = (h, refl)
due-earlier tag a (Some b) h = by_test (tag_le a b) refl
  where
    by_test : (c : Bool) → tag_le a b ≡ c → (tag_le a tag ≡ false) × (tag_le b tag ≡ false)
    by_test true e = let first : tag_le a tag ≡ false = sym (ap (λ (c : Bool). is_due tag (if c then Some a else Some b)) e) ∙ h in (first, not-second (tag_le b tag) refl first)
      where
        not-second : (c : Bool) → tag_le b tag ≡ c → tag_le a tag ≡ false → tag_le b tag ≡ false
        not-second true k f = absurd (false≢true (sym f ∙ tag_le-trans a b tag e k))
        not-second false k f = k
    by_test false e = let second : tag_le b tag ≡ false = sym (ap (λ (c : Bool). is_due tag (if c then Some a else Some b)) e) ∙ h in (not-first (tag_le a tag) refl second, second)
      where
        not-first : (c : Bool) → tag_le a tag ≡ c → tag_le b tag ≡ false → tag_le a tag ≡ false
        not-first true k f = absurd (false≢true (sym f ∙ tag_le-trans b a tag (tag_le-total a b e) k))
        not-first false k f = k

-- where the wake isn't due, nothing is
pub asleep : (tag : Tag) (es : List Event) → is_due tag (wake es) ≡ false → due tag es ≡ []
asleep tag [] h = refl
asleep tag (e ∷ es) h = let parts = due-earlier tag e.0 (wake es) h in due-later tag e es parts.0 ∙ asleep tag es parts.1

-- ---- behind some others

-- what isn't due stays behind
pub due-behind : (tag : Tag) (ps es : List Event) → due tag es ≡ [] → due tag (ps ++ es) ≡ due tag ps
due-behind tag [] es h = h
due-behind tag (p ∷ ps) es h = by_test (tag_le p.0 tag) refl (due-behind tag ps es h)
  where
    by_test : (b : Bool) → tag_le p.0 tag ≡ b → due tag (ps ++ es) ≡ due tag ps → due tag (p ∷ ps ++ es) ≡ due tag (p ∷ ps)
    by_test true e more = due-here tag p (ps ++ es) e ∙ ap (λ v. p.1 ∷ v) more ∙ sym (due-here tag p ps e)
    by_test false e more = due-later tag p (ps ++ es) e ∙ more ∙ sym (due-later tag p ps e)

pub left-behind : (tag : Tag) (ps es : List Event) → due tag es ≡ [] → left tag (ps ++ es) ≡ left tag ps ++ es
left-behind tag [] es h = all-left tag es h
left-behind tag (p ∷ ps) es h = by_test (tag_le p.0 tag) refl (left-behind tag ps es h)
  where
    by_test : (b : Bool) → tag_le p.0 tag ≡ b → left tag (ps ++ es) ≡ left tag ps ++ es → left tag (p ∷ ps ++ es) ≡ left tag (p ∷ ps) ++ es
    by_test true e more = left-here tag p (ps ++ es) e ∙ more ∙ ap (λ v. v ++ es) (sym (left-here tag p ps e))
    by_test false e more = left-later tag p (ps ++ es) e ∙ ap (λ v. p ∷ v) more ∙ ap (λ v. v ++ es) (sym (left-later tag p ps e))

-- at most all are due
pub due-few : (tag : Tag) (es : List Event) → length (due tag es) ≤ length es
due-few tag [] = omega arith
due-few tag (e ∷ es) = let few = due-few tag es in by_test (tag_le e.0 tag) refl few
  where
    by_test : (b : Bool) → tag_le e.0 tag ≡ b → length (due tag es) ≤ length es → length (due tag (e ∷ es)) ≤ length (e ∷ es)
    by_test true h few = subst (λ (v : List Token). length v ≤ length (e ∷ es)) (sym (due-here tag e es h)) (omega arith)
    by_test false h few = subst (λ (v : List Token). length v ≤ length (e ∷ es)) (sym (due-later tag e es h)) (omega arith)

-- the last one, by its index
last-at : (es : List Event) (n : ℕ) (d : Event) → n + 1 ≡ length es → Some (slice_index_or es n d).0 ≡ last_tag es
last-at [] n d h = absurd (omega (arith, h))
last-at (e ∷ []) zero d h = refl
last-at (e ∷ []) (suc n) d h = absurd (omega (arith, h))
last-at (e ∷ f ∷ es) zero d h = absurd (omega (arith, h))
last-at (e ∷ f ∷ es) (suc n) d h = last-at (f ∷ es) n d (omega (arith, h))

-- ---- one after another

dropped : (es : List Event) (k : ℕ) (d : Event) → k < length es → drop k es ≡ slice_index_or es k d ∷ drop (k + 1) es
dropped es k d short = drop-cons es k d short ∙ ap (λ n. slice_index_or es k d ∷ drop n es) (sym (add-one k))

-- the one at an index before those behind it
from-here : (es : List Event) (k : ℕ) (x : Event) → k < length es → x ≡ slice_index_or es k x → drop k es ≡ x ∷ drop (k + 1) es
from-here es k x short is = dropped es k x short ∙ ap (λ (e : Event). e ∷ drop (k + 1) es) (sym is)

pub walk-due : (tag : Tag) (es : List Event) (k : ℕ) (x : Event) → k < length es → x ≡ slice_index_or es k x → tag_le x.0 tag ≡ true → due tag (drop k es) ≡ x.1 ∷ due tag (drop (k + 1) es)
walk-due tag es k x short is h = ap (λ v. due tag v) (from-here es k x short is) ∙ due-here tag x (drop (k + 1) es) h

pub walk-later : (tag : Tag) (es : List Event) (k : ℕ) (x : Event) → k < length es → x ≡ slice_index_or es k x → tag_le x.0 tag ≡ false → due tag (drop k es) ≡ due tag (drop (k + 1) es)
walk-later tag es k x short is h = ap (λ v. due tag v) (from-here es k x short is) ∙ due-later tag x (drop (k + 1) es) h

pub walk-stops : (tag : Tag) (es : List Event) (k : ℕ) (x : Event) → IsAscending es → k < length es → x ≡ slice_index_or es k x → tag_le x.0 tag ≡ false → due tag (drop k es) ≡ []
walk-stops tag es k x asc short is h =
    let here : drop k es ≡ x ∷ drop (k + 1) es = from-here es k x short is in
    ap (λ v. due tag v) here ∙ none-due tag x (drop (k + 1) es) (subst IsAscending here (ascending-drop k es asc)) h

pub walk-ends : (es : List Event) (k : ℕ) → k ≡ length es → drop k es ≡ []
walk-ends es k e = ap (λ n. drop n es) e ∙ drop-length es

pub walk-wake : (es : List Event) (k : ℕ) (x : Event) → k < length es → x ≡ slice_index_or es k x → wake (drop k es) ≡ earlier (Some x.0) (wake (drop (k + 1) es))
walk-wake es k x short is = ap (λ v. wake v) (from-here es k x short is)

-- the first, where there is one
pub first-here : (es : List Event) (x : Event) → 0 < length es → x ≡ slice_index_or es 0 x → es ≡ x ∷ drop 1 es
first-here es x short is = from-here es 0 x short is

-- ---- the ends

pub last-some : (es : List Event) (n : ℕ) (x : Event) → n ≡ length es → 0 < n → x ≡ slice_index_or es (n - 1) x → Some x.0 ≡ last_tag es
last-some es n x e h is = ap (λ (y : Event). Some y.0) is ∙ last-at es (n - 1) x (omega (arith, e, h))

no-events : (es : List Event) (n : ℕ) → n ≡ length es → n ≡ 0 → es ≡ []
no-events [] n e h = refl
no-events (x ∷ es) n e h = absurd (omega (arith, e, h))

pub no-last : (es : List Event) (n : ℕ) → n ≡ length es → n ≡ 0 → None ≡ last_tag es
no-last es n e h = ap (λ v. last_tag v) (sym (no-events es n e h))

pub no-wake : (es : List Event) (n : ℕ) → n ≡ length es → n ≡ 0 → None ≡ wake es
no-wake es n e h = ap (λ v. wake v) (sym (no-events es n e h))

pub first-some : (es : List Event) (n : ℕ) (x : Event) → IsAscending es → n ≡ length es → 0 < n → x ≡ slice_index_or es 0 x → Some x.0 ≡ wake es
first-some es n x asc e h is =
    let here : es ≡ x ∷ drop 1 es = first-here es x (omega (arith, e, h)) is in
    wake-first x (drop 1 es) (subst IsAscending here asc) ∙ ap (λ v. wake v) (sym here)

pub front-some : (tag : Tag) (es : List Event) (n : ℕ) (x : Event) → n ≡ length es → 0 < n → x ≡ slice_index_or es 0 x → tag_le x.0 tag ≡ is_front_due tag es
front-some tag es n x e h is = ap (λ v. is_front_due tag v) (sym (first-here es x (omega (arith, e, h)) is))

pub front-none : (tag : Tag) (es : List Event) (n : ℕ) → n ≡ length es → n ≡ 0 → false ≡ is_front_due tag es
front-none tag es n e h = ap (λ v. is_front_due tag v) (sym (no-events es n e h))

-- ---- counting and copying

pub count-due : (tag : Tag) (es : List Event) (k c : ℕ) (x : Event) → c + length (due tag (drop k es)) ≡ length (due tag es) → k < length es → x ≡ slice_index_or es k x → tag_le x.0 tag ≡ true → (c + 1) + length (due tag (drop (k + 1) es)) ≡ length (due tag es)
count-due tag es k c x inv short is h =
    let step : length (due tag (drop k es)) ≡ suc (length (due tag (drop (k + 1) es))) = ap (λ (v : List Token). length v) (walk-due tag es k x short is h) in
    omega (arith, step, inv)

pub count-later : (tag : Tag) (es : List Event) (k c : ℕ) (x : Event) → c + length (due tag (drop k es)) ≡ length (due tag es) → k < length es → x ≡ slice_index_or es k x → tag_le x.0 tag ≡ false → c + length (due tag (drop (k + 1) es)) ≡ length (due tag es)
count-later tag es k c x inv short is h =
    let step : length (due tag (drop k es)) ≡ length (due tag (drop (k + 1) es)) = ap (λ (v : List Token). length v) (walk-later tag es k x short is h) in
    omega (arith, step, inv)

pub count-stops : (tag : Tag) (es : List Event) (k c : ℕ) (x : Event) → IsAscending es → c + length (due tag (drop k es)) ≡ length (due tag es) → k < length es → x ≡ slice_index_or es k x → tag_le x.0 tag ≡ false → c ≡ length (due tag es)
count-stops tag es k c x asc inv short is h =
    let step : length (due tag (drop k es)) ≡ 0 = ap (λ (v : List Token). length v) (walk-stops tag es k x asc short is h) in
    omega (arith, step, inv)

pub count-ends : (tag : Tag) (es : List Event) (k c : ℕ) → c + length (due tag (drop k es)) ≡ length (due tag es) → k ≡ length es → c ≡ length (due tag es)
count-ends tag es k c inv e =
    let step : length (due tag (drop k es)) ≡ 0 = ap (λ v. length (due tag v)) (walk-ends es k e) in
    omega (arith, step, inv)

pub copy-due : (tag : Tag) (es : List Event) (k : ℕ) (out : List Token) (x : Event) → out ++ due tag (drop k es) ≡ due tag es → k < length es → x ≡ slice_index_or es k x → tag_le x.0 tag ≡ true → (out ++ x.1 ∷ []) ++ due tag (drop (k + 1) es) ≡ due tag es
copy-due tag es k out x inv short is h = append_assoc out (x.1 ∷ []) (due tag (drop (k + 1) es)) ∙ ap (λ v. out ++ v) (sym (walk-due tag es k x short is h)) ∙ inv

pub copy-later : (tag : Tag) (es : List Event) (k : ℕ) (out : List Token) (x : Event) → out ++ due tag (drop k es) ≡ due tag es → k < length es → x ≡ slice_index_or es k x → tag_le x.0 tag ≡ false → out ++ due tag (drop (k + 1) es) ≡ due tag es
copy-later tag es k out x inv short is h = ap (λ v. out ++ v) (sym (walk-later tag es k x short is h)) ∙ inv

nothing-behind : (out : List Token) → out ++ [] ≡ out
nothing-behind [] = refl
nothing-behind (t ∷ ts) = ap (λ v. t ∷ v) (nothing-behind ts)

pub copy-stops : (tag : Tag) (es : List Event) (k : ℕ) (out : List Token) (x : Event) → IsAscending es → out ++ due tag (drop k es) ≡ due tag es → k < length es → x ≡ slice_index_or es k x → tag_le x.0 tag ≡ false → out ≡ due tag es
copy-stops tag es k out x asc inv short is h = sym (nothing-behind out) ∙ ap (λ v. out ++ v) (sym (walk-stops tag es k x asc short is h)) ∙ inv

pub copy-ends : (tag : Tag) (es : List Event) (k : ℕ) (out : List Token) → out ++ due tag (drop k es) ≡ due tag es → k ≡ length es → out ≡ due tag es
copy-ends tag es k out inv e = sym (nothing-behind out) ∙ ap (λ v. out ++ due tag v) (sym (walk-ends es k e)) ∙ inv

pub least-more : (es : List Event) (k : ℕ) (x : Event) (least : Option Tag) (r : Tag) → least ≡ wake (drop (k + 1) es) → k < length es → x ≡ slice_index_or es k x → Some r ≡ earlier (Some x.0) least → Some r ≡ wake (drop k es)
least-more es k x least r inv short is h = h ∙ ap (λ o. earlier (Some x.0) o) inv ∙ sym (walk-wake es k x short is)

-- ---- taking

pub not-front : (tag : Tag) (es : List Event) → IsAscending es → is_front_due tag es ≡ false → (due tag es ≡ []) × (left tag es ≡ es)
not-front tag [] asc h = (refl, refl)
not-front tag (e ∷ es) asc h = let none : due tag (e ∷ es) ≡ [] = none-due tag e es asc h in (none, all-left tag (e ∷ es) none)

-- what taking the first leaves
pub record Popped (tag : Tag) (es : List Event) (e : Event) (rest : List Event) : Type 0 where
  pub ascends : IsAscending rest
  pub dues : due tag es ≡ e.1 ∷ due tag rest
  pub lefts : left tag rest ≡ left tag es

pub popped : (tag : Tag) (es : List Event) (e : Event) (rest : List Event) → es ≡ e ∷ rest → IsAscending es → is_front_due tag es ≡ true → Popped tag es e rest
popped tag es e rest is asc h =
    let asc' : IsAscending (e ∷ rest) = subst IsAscending is asc in
    let h' : tag_le e.0 tag ≡ true = ap (λ v. is_front_due tag v) (sym is) ∙ h in
    record { ascends = asc'.1; dues = ap (λ v. due tag v) is ∙ due-here tag e rest h'; lefts = sym (left-here tag e rest h') ∙ ap (λ v. left tag v) (sym is) }

pub no-front : (tag : Tag) (es : List Event) → es ≡ [] → is_front_due tag es ≡ true → ⊥
no-front tag es is h = absurd (false≢true (ap (λ v. is_front_due tag v) (sym is) ∙ h))

no-tokens : (ts : List Token) → length ts ≡ 0 → ts ≡ []
no-tokens [] e = refl
no-tokens (t ∷ ts) e = absurd (omega (arith, e))

pub one-taken : (tag : Tag) (es rest : List Event) (t : Token) → due tag es ≡ t ∷ due tag rest → left tag rest ≡ left tag es → length (due tag es) ≡ 1 → (t ∷ [] ≡ due tag es) × (rest ≡ left tag es)
one-taken tag es rest t d l n =
    let many : length (due tag es) ≡ suc (length (due tag rest)) = ap (λ (v : List Token). length v) d in
    let none : due tag rest ≡ [] = no-tokens (due tag rest) (omega (arith, many, n)) in
    (ap (λ v. t ∷ v) (sym none) ∙ sym d, sym (all-left tag rest none) ∙ l)

-- where none is due, all are left
pub none-taken : (tag : Tag) (es : List Event) → length (due tag es) ≡ 0 → (due tag es ≡ []) × (left tag es ≡ es)
none-taken tag es n = let none : due tag es ≡ [] = no-tokens (due tag es) n in (none, all-left tag es none)

pub given-more : (out : List Token) (t : Token) (more all : List Token) (was : List Token) → out ++ was ≡ all → was ≡ t ∷ more → (out ++ t ∷ []) ++ more ≡ all
given-more out t more all was inv e = append_assoc out (t ∷ []) more ∙ ap (λ v. out ++ v) (sym e) ∙ inv

pub given-all : (out all was : List Token) → out ++ was ≡ all → was ≡ [] → out ≡ all
given-all out all was inv e = sym (nothing-behind out) ∙ ap (λ v. out ++ v) (sym e) ∙ inv

pub kept-more : (kept : List Event) (e : Event) (more all was : List Event) → kept ++ was ≡ all → was ≡ e ∷ more → (kept ++ e ∷ []) ++ more ≡ all
kept-more kept e more all was inv is = append_assoc kept (e ∷ []) more ∙ ap (λ v. kept ++ v) (sym is) ∙ inv

no-more : (es : List Event) → es ++ [] ≡ es
no-more [] = refl
no-more (e ∷ es) = ap (λ v. e ∷ v) (no-more es)

pub kept-all : (kept all was : List Event) → kept ++ was ≡ all → was ≡ [] → kept ≡ all
kept-all kept all was inv e = sym (no-more kept) ∙ ap (λ v. kept ++ v) (sym e) ∙ inv

-- where the first alone is due, it is given, and the others are left
pub only-first : (tag : Tag) (es : List Event) (t : Tag) (x : Token) → es ≡ (t, x) ∷ drop 1 es → IsAscending es → is_front_due tag es ≡ true → is_front_due tag (drop 1 es) ≡ false → (due tag es ≡ x ∷ []) × (left tag es ≡ drop 1 es)
only-first tag es t x is asc h k =
    let here = popped tag es (t, x) (drop 1 es) is asc h in
    let rest = not-front tag (drop 1 es) here.ascends k in
    (here.dues ∙ ap (λ v. x ∷ v) rest.0, sym here.lefts ∙ rest.1)

-- the first, where its token is an integer
pub number-first : (es : List Event) (n : ℕ) (x : Event) (o : Option ℤ) → n ≡ length es → 0 < n → x ≡ slice_index_or es 0 x → IfSome o (λ k. x.1 ≡ Int k) → IfSome o (λ k. (t : Tag) × (es ≡ (t, Int k) ∷ drop 1 es))
number-first es n x None e h is v = v
number-first es n x (Some k) e h is v = (x.0, first-here es x (omega (arith, e, h)) is ∙ ap (λ (w : Token). (x.0, w) ∷ drop 1 es) v)

-- ---- the mark

pub marked-more : (mark : Bool) (es : List Event) (tag : Tag) (token : Token) → IsMarked mark es → is_behind tag (last_tag es) ≡ true → IsMarked mark (es ++ (tag, token) ∷ [])
marked-more mark es tag token m h = λ on. ascending-more es (tag, token) (m on) h

pub unmarked : (mark : Bool) (es : List Event) → mark ≡ false → IsMarked mark es
unmarked mark es off = λ on. absurd (false≢true (sym off ∙ on))

pub marked-take : (mark : Bool) (n : ℕ) (es : List Event) → IsMarked mark es → IsMarked mark (take n es)
marked-take mark n es m = λ on. ascending-take n es (m on)

pub marked-put : (mark on : Bool) (es : List Event) (tag : Tag) (token : Token) → IsMarked mark es → (on ≡ true → (mark ≡ true) × (is_behind tag (last_tag es) ≡ true)) → IsMarked on (es ++ (tag, token) ∷ [])
marked-put mark on es tag token m h = λ o. ascending-more es (tag, token) (m (h o).0) (h o).1
