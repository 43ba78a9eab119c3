-- Where an entity may not stand, from what is read of it.
use Rattle.std.proofs.Common.{◌≡◌, ℕ, ◌+◌, ◌<◌, Bool, true, false, refl, sym, ap, subst, ◌∙◌, arith}
use Rattle.std.specs.Prelude.{Option, Some, None, not, slice_get}
use Rattle.std.specs.List.{Contains}
use Rattle.pt_document.specs.declared.classes.Director.{Director}
use Rattle.pt_document.specs.Classes.{Class, class_row}
use Rattle.pt_net.specs.Net.{NetEntityTree}
use Rattle.pt_scopes.specs.Scopes.{NetTree}
use Rattle.pt_start.specs.Places.{director_over, director_of, is_untimed, IsBarred, HasUntimedAbove, here, further}
use Rattle.pt_start.specs.Seen.{number_or_none}

some-same : {A : Type 0} (x y : A) → Some x ≡ Some y → x ≡ y
some-same x y e = cc

not-false : (r : Bool) → not r ≡ true → r ≡ false
not-false true e = sym e
not-false false e = refl

not-true : (r : Bool) → not r ≡ false → r ≡ true
not-true true e = refl
not-true false e = sym e

pub barred-yes : (net : NetTree) (e : NetEntityTree) (class : Class) (d : Director) (r : Bool) → class_row e.class ≡ Some class → director_over net e.parent ≡ Some d → (r ≡ false → Contains class.directors d → ⊥) → not r ≡ true → IsBarred net e
barred-yes net e class d r is over none h = record { class = class; class_is = is; director = d; over = over; barred = none (not-false r h) }

pub barred-no : (net : NetTree) (e : NetEntityTree) (class : Class) (d : Director) (r : Bool) → class_row e.class ≡ Some class → director_over net e.parent ≡ Some d → (r ≡ true → Contains class.directors d) → not r ≡ false → IsBarred net e → ⊥
barred-no net e class d r is over some h b =
    let same : class ≡ b.class = some-same class b.class (sym is ∙ b.class_is) in
    let also : d ≡ b.director = some-same d b.director (sym over ∙ b.over) in
    b.barred (subst (λ (k : Director). Contains b.class.directors k) also (subst (λ (k : Class). Contains k.directors d) same (some (not-true r h))))

-- ---- further out

pub inward-of : (net : NetTree) (k : ℕ) (e : NetEntityTree) → slice_get net.entities k ≡ Some e → HasUntimedAbove net e.parent → HasUntimedAbove net (Some k)
inward-of net k e at above = further k e at above

by-number : {net : NetTree} {k : ℕ} (e : NetEntityTree) → slice_get net.entities k ≡ Some e → is_untimed (director_of e) ≡ false → HasUntimedAbove net (Some k) → HasUntimedAbove net e.parent
by-number e at timed (here k f there untimed) =
    let same : f ≡ e = some-same f e (sym there ∙ at) in
    let both : true ≡ false = sym untimed ∙ ap (λ (g : NetEntityTree). is_untimed (director_of g)) same ∙ timed in
    cc
by-number {net = net} e at timed (further k f there above) = subst (λ (g : NetEntityTree). HasUntimedAbove net g.parent) (some-same f e (sym there ∙ at)) above

pub outward-of : (net : NetTree) (k : ℕ) (e : NetEntityTree) → slice_get net.entities k ≡ Some e → is_untimed (director_of e) ≡ false → HasUntimedAbove net (Some k) → HasUntimedAbove net e.parent
outward-of net k e at timed above = by-number e at timed above

pub falls-to : (o : Option ℕ) (k : ℕ) → ((j : ℕ) → o ≡ Some j → j < k) → number_or_none o < k + 1
falls-to None k less = omega arith
falls-to (Some j) k less = omega (arith, less j refl)
