-- Two insides that have the same lists.
use Rattle.std.proofs.Common.{◌≡◌, ℕ, ◌+◌, ◌<◌, ◌≤◌, ◌^◌, List, [], ◌∷◌, length, get_or, map, refl, sym, ap, ap₂, ◌∙◌, subst, arith}
use Rattle.std.specs.Prelude.{All}
use Rattle.pt_meaning.specs.Running.{total}
use Rattle.pt_core.specs.declared.source.Source.{Source}
use Rattle.pt_core.specs.declared.source.Source.TheVariants.{Own, Output}
use Rattle.pt_core.specs.Source.{source_of}
use Rattle.pt_plan.specs.declared.inside.Inside.{Inside}
use Rattle.pt_plan.specs.Inside.{IsInside, IsThere, IsRate}

source-same : (x y : Source) → source_of x ≡ source_of y → x ≡ y
source-same (Own p) (Own q) e = let same : p ≡ q = cc in ap (λ v. Own v) same
source-same (Own p) (Output d q) e = absurd (cc)
source-same (Output c p) (Own q) e = absurd (cc)
source-same (Output c p) (Output d q) e = let child : c ≡ d = cc in let port : p ≡ q = cc in ap₂ (λ v w. Output v w) child port

pub sources-same : (xs ys : List Source) → map source_of xs ≡ map source_of ys → xs ≡ ys
sources-same [] [] e = refl
sources-same [] (y ∷ ys) e = absurd (cc)
sources-same (x ∷ xs) [] e = absurd (cc)
sources-same (x ∷ xs) (y ∷ ys) e =
    let here : source_of x ≡ source_of y = cc in
    let rest : map source_of xs ≡ map source_of ys = cc in
    ap₂ (λ v vs. v ∷ vs) (source-same x y here) (sources-same xs ys rest)

module _ (x y : Inside) (sources : x.sources.items ≡ y.sources.items) (places : x.places ≡ y.places) (needs : x.needs ≡ y.needs) (rates : x.rates.items ≡ y.rates.items) (first : x.first ≡ y.first) (inputs : x.inputs ≡ y.inputs) (outputs : x.outputs ≡ y.outputs) where
  there-same : (s : Source) → IsThere x s → IsThere y s
  there-same (Own port) h = omega (arith, h, inputs)
  there-same (Output child port) h = (omega (arith, h.0, ap (λ (v : List ℕ). length v) places), subst (λ (v : List (List ℕ)). port < length (get_or v child [])) rates h.1)

  -- the one is well formed where the other is
  pub inside-same : IsInside x → IsInside y
  inside-same i = record {
    needed = sym (ap (λ (v : List ℕ). length v) needs) ∙ i.needed ∙ ap total places;
    rated = sym (ap (λ (v : List (List ℕ)). length v) rates) ∙ i.rated ∙ ap (λ (v : List ℕ). length v) places;
    channels = sym (ap (λ (v : List Source). length v) sources) ∙ i.channels ∙ ap₂ (λ (v : List ℕ) (w : ℕ). total v + w) places outputs;
    few = omega (arith, i.few, inputs, ap (λ (v : List Source). length v) sources);
    started = sym (ap (λ (v : List ℕ). length v) first) ∙ i.started ∙ ap (λ (v : List Source). length v) sources;
    there = λ k d h. there-same _ (subst (λ (v : List Source). IsThere x (get_or v k d)) sources (i.there k d (omega (arith, h, ap (λ (v : List Source). length v) sources))));
    needs = subst (λ (v : List ℕ). All IsRate v) needs i.needs;
    rates = subst (λ (v : List (List ℕ)). All (λ (row : List ℕ). All IsRate row) v) rates i.rates;
    firsts = subst (λ (v : List ℕ). All (λ n. n ≤ 2 ^ 32) v) first i.firsts;
  }
