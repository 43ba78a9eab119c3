-- The inside that is made, and that there is no other.
use Rattle.std.proofs.Common.{◌≡◌, ◌+◌, ◌<◌, ◌^◌, ℕ, List, [], ◌∷◌, length, map, Option, Some, None, inl, inr, refl, sym, ap, ap₂, ◌∙◌, arith}
use Rattle.std.proofs.lemmas.List.{length-map}
use Rattle.std.specs.Prelude.{Vec}
use Rattle.std.specs.Global.{Global}
use Rattle.pt_meaning.specs.Running.{total}
use Rattle.pt_plan.specs.declared.inside.Inside.{Inside}
use Rattle.pt_plan.specs.Inside.{IsInside}
use Rattle.pt_node.specs.View.{Tree}
use Rattle.pt_core.specs.Source.{source_of}
use Rattle.pt_trees.specs.declared.wiring.Wiring.{Wiring}
use Rattle.pt_trees.specs.Around.{Around, around_of}
use Rattle.pt_trees.specs.Sdf.{IsInsideOf, HasInside, IsUnplannable}
use Rattle.pt_trees.specs.Rates.{AreRates, HasUnsteady}
use Rattle.pt_wired.specs.Needs.{NeedAll, AreNeeds}
use Rattle.pt_trees.proofs.NeedLaws.{planned-same}
use Rattle.pt_flow_composites.proofs.PlanLaws.{sources-same, inside-same}

pub inside-needs : (around : Around) (kids : List Tree) (x : Inside) → IsInsideOf around kids x → IsInside x → NeedAll kids around.places x.needs
inside-needs around kids x is formed = record { needs = is.needs; counted = formed.needed ∙ ap (λ (v : List ℕ). total v) is.places }

somes-same : (xs ys : List (List ℕ)) → map (λ (v : List ℕ). Option.Some v) xs ≡ map (λ (v : List ℕ). Option.Some v) ys → xs ≡ ys
somes-same [] [] e = refl
somes-same [] (y ∷ ys) e = absurd (cc)
somes-same (x ∷ xs) [] e = absurd (cc)
somes-same (x ∷ xs) (y ∷ ys) e =
    let here : x ≡ y = cc in
    let rest : map (λ (v : List ℕ). Option.Some v) xs ≡ map (λ (v : List ℕ). Option.Some v) ys = cc in
    ap₂ (λ v vs. v ∷ vs) here (somes-same xs ys rest)

-- where this one isn't well formed, none is
pub none-formed : (around : Around) (kids : List Tree) (x : Inside) → IsInsideOf around kids x → length x.needs ≡ total around.places → (IsInside x → ⊥) → HasInside around kids → ⊥
none-formed around kids x is counted not (y, same, formed) =
    let all : NeedAll kids around.places y.needs = inside-needs around kids y same formed in
    not (inside-same y x (sources-same y.sources.items x.sources.items (same.sources ∙ sym is.sources)) (same.places ∙ sym is.places) (planned-same around.places y.needs x.needs all.counted counted (sym same.needs ∙ is.needs)) (somes-same y.rates.items x.rates.items (same.rates ∙ sym is.rates)) (same.first ∙ sym is.first) (same.inputs ∙ sym is.inputs) (same.outputs ∙ sym is.outputs) formed)

-- ---- why SDF doesn't plan it

pub by-steady : (around : Around) (kids : List Tree) → HasUnsteady around kids → IsUnplannable around kids
by-steady around kids some = inl some

pub by-rates : (around : Around) (kids : List Tree) → AreRates around.declared kids None → IsUnplannable around kids
by-rates around kids some = inl (some.0, some.1, some.2, inr some.3)

pub by-needs : (around : Around) (kids : List Tree) → length around.sources + around.inputs < 2 ^ 32 → AreNeeds kids around.places None → IsUnplannable around kids
by-needs around kids few none = inr (record { few = few; without = λ h. none h.0.needs (inside-needs around kids h.0 h.1 h.2) })

-- without a list there are no needs
pub no-needs : (kids : List Tree) (places : List ℕ) (o : Option (Vec ℕ Global)) → ((needs : Vec ℕ Global) → o ≡ Some needs → ⊥) → AreNeeds kids places o → AreNeeds kids places None
no-needs kids places None without are = are
no-needs kids places (Some needs) without are = absurd (without needs refl)

pub by-form : (around : Around) (kids : List Tree) (x : Inside) → length around.sources + around.inputs < 2 ^ 32 → IsInsideOf around kids x → length x.needs ≡ total around.places → (IsInside x → ⊥) → IsUnplannable around kids
by-form around kids x few is counted not = inr (record { few = few; without = none-formed around kids x is counted not })

-- few channels of the wiring are few of the code
pub few-around : (w : Wiring) → length w.sources.items + w.inputs < 2 ^ 32 → length (around_of w).sources + (around_of w).inputs < 2 ^ 32
few-around w few = let long = length-map w.sources.items source_of in omega (arith, few, long)
