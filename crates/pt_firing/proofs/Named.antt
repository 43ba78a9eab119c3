-- What stands under a name, one entry after another.
use Rattle.std.proofs.Common.{◌≡◌, ℕ, ◌<◌, ◌≤◌, ◌+◌, zero, suc, List, [], ◌∷◌, length, get_or, drop, true, false, Some, None, refl, sym, ap, ◌∙◌, add-one, drop-cons, arith, if◌then◌else◌}
use Rattle.std.specs.Prelude.{bytes_eq}
use Rattle.pt_value.specs.declared.token.Token.{Token}
use Rattle.pt_firing.specs.Params.{value_under, channels_to, names_but}

value-here : (name : List ℕ) (es : List (List ℕ × Token)) (n : ℕ) (e : List ℕ × Token) → n < length es → e ≡ get_or es n e → value_under name (drop n es) ≡ (if bytes_eq e.0 name then Some e.1 else value_under name (drop (n + 1) es))
unfolding value_under
value-here name es n e short is = ap (value_under name) (drop-cons es n e short) ∙ ap (λ f. if bytes_eq f.0 name then Some f.1 else value_under name (drop (suc n) es)) (sym is) ∙ ap (λ k. if bytes_eq e.0 name then Some e.1 else value_under name (drop k es)) (sym (add-one n))

pub value-found : (name : List ℕ) (es : List (List ℕ × Token)) (n : ℕ) (e : List ℕ × Token) → n < length es → e ≡ get_or es n e → bytes_eq e.0 name ≡ true → value_under name (drop n es) ≡ Some e.1
value-found name es n e short is same = value-here name es n e short is ∙ ap (λ b. if b then Some e.1 else value_under name (drop (n + 1) es)) same

pub value-later : (name : List ℕ) (es : List (List ℕ × Token)) (n : ℕ) (e : List ℕ × Token) → n < length es → e ≡ get_or es n e → bytes_eq e.0 name ≡ false → value_under name (drop n es) ≡ value_under name (drop (n + 1) es)
value-later name es n e short is other = value-here name es n e short is ∙ ap (λ b. if b then Some e.1 else value_under name (drop (n + 1) es)) other

channels-here : (name : List ℕ) (es : List (List ℕ × ℕ)) (n : ℕ) (e : List ℕ × ℕ) → n < length es → e ≡ get_or es n e → channels_to name (drop n es) ≡ (if bytes_eq e.0 name then e.1 else channels_to name (drop (n + 1) es))
unfolding channels_to
channels-here name es n e short is = ap (channels_to name) (drop-cons es n e short) ∙ ap (λ f. if bytes_eq f.0 name then f.1 else channels_to name (drop (suc n) es)) (sym is) ∙ ap (λ k. if bytes_eq e.0 name then e.1 else channels_to name (drop k es)) (sym (add-one n))

pub channels-found : (name : List ℕ) (es : List (List ℕ × ℕ)) (n : ℕ) (e : List ℕ × ℕ) → n < length es → e ≡ get_or es n e → bytes_eq e.0 name ≡ true → channels_to name (drop n es) ≡ e.1
channels-found name es n e short is same = channels-here name es n e short is ∙ ap (λ b. if b then e.1 else channels_to name (drop (n + 1) es)) same

pub channels-later : (name : List ℕ) (es : List (List ℕ × ℕ)) (n : ℕ) (e : List ℕ × ℕ) → n < length es → e ≡ get_or es n e → bytes_eq e.0 name ≡ false → channels_to name (drop n es) ≡ channels_to name (drop (n + 1) es)
channels-later name es n e short is other = channels-here name es n e short is ∙ ap (λ b. if b then e.1 else channels_to name (drop (n + 1) es)) other

nothing-left : {X : Type 0} (es : List X) (n : ℕ) → length es ≤ n → drop n es ≡ []
nothing-left [] zero past = refl
nothing-left [] (suc n) past = refl
nothing-left (e ∷ es) zero past = absurd (omega arith)
nothing-left (e ∷ es) (suc n) past = nothing-left es n (omega arith)

pub nothing-under : (name : List ℕ) (es : List (List ℕ × Token)) (n : ℕ) → length es ≤ n → value_under name (drop n es) ≡ None
unfolding value_under
nothing-under name es n past = ap (value_under name) (nothing-left es n past)

pub no-channels : (name : List ℕ) (es : List (List ℕ × ℕ)) (n : ℕ) → length es ≤ n → channels_to name (drop n es) ≡ 0
unfolding channels_to
no-channels name es n past = ap (channels_to name) (nothing-left es n past)

names-here : (other : List ℕ) (es : List (List ℕ × ℕ)) (n : ℕ) (e : List ℕ × ℕ) → n < length es → e ≡ get_or es n e → names_but other (drop n es) ≡ (if bytes_eq e.0 other then names_but other (drop (n + 1) es) else e.0 ∷ names_but other (drop (n + 1) es))
unfolding names_but
names-here other es n e short is = ap (names_but other) (drop-cons es n e short) ∙ ap (λ f. if bytes_eq f.0 other then names_but other (drop (suc n) es) else f.0 ∷ names_but other (drop (suc n) es)) (sym is) ∙ ap (λ k. if bytes_eq e.0 other then names_but other (drop k es) else e.0 ∷ names_but other (drop k es)) (sym (add-one n))

pub name-taken : (other : List ℕ) (es : List (List ℕ × ℕ)) (n : ℕ) (e : List ℕ × ℕ) → n < length es → e ≡ get_or es n e → bytes_eq e.0 other ≡ false → names_but other (drop n es) ≡ e.0 ∷ names_but other (drop (n + 1) es)
name-taken other es n e short is apart = names-here other es n e short is ∙ ap (λ b. if b then names_but other (drop (n + 1) es) else e.0 ∷ names_but other (drop (n + 1) es)) apart

pub name-left : (other : List ℕ) (es : List (List ℕ × ℕ)) (n : ℕ) (e : List ℕ × ℕ) → n < length es → e ≡ get_or es n e → bytes_eq e.0 other ≡ true → names_but other (drop n es) ≡ names_but other (drop (n + 1) es)
name-left other es n e short is same = names-here other es n e short is ∙ ap (λ b. if b then names_but other (drop (n + 1) es) else e.0 ∷ names_but other (drop (n + 1) es)) same

pub no-names : (other : List ℕ) (es : List (List ℕ × ℕ)) (n : ℕ) → length es ≤ n → names_but other (drop n es) ≡ []
unfolding names_but
no-names other es n past = ap (names_but other) (nothing-left es n past)
