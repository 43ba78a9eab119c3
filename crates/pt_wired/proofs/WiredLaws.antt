-- Whether a wiring is one of an SR composite, and the plan of one.
use Rattle.std.proofs.Common.{◌≡◌, ◌↔◌, ℕ, zero, suc, ◌+◌, ◌<◌, ◌^◌, List, [], ◌∷◌, length, map, replicate, Bool, true, false, refl, sym, ap, ◌∙◌, subst, arith}
use Rattle.std.specs.Prelude.{All}
use Rattle.std.proofs.lemmas.List.{length-map, length-replicate}
use Rattle.pt_meaning.specs.Net as net
use Rattle.pt_meaning.specs.NodeFacts.{facts_of}
use Rattle.pt_meaning.specs.Running.{total}
use Rattle.pt_meaning.specs.Valuation.{TickPlan}
use Rattle.pt_laws.specs.StartedRuns.{IsThere, AllThere}
use Rattle.pt_core.specs.declared.source.Source.{Source}
use Rattle.pt_core.specs.Source.{source_of}
use Rattle.pt_sr.specs.declared.plan.CorePlan.{CorePlan}
use Rattle.pt_sr.specs.Plan.{plan_of, IsNamed, IsLawful}
use Rattle.pt_library.specs.LibraryActor.{rows}
use Rattle.pt_node.specs.View.{Tree}
use Rattle.pt_trees.specs.declared.wiring.Wiring.{Wiring}
use Rattle.pt_trees.specs.Around.{around_of}
use Rattle.pt_trees.specs.Sr.{tick_plan, IsWired, IsWiredIf}
use Rattle.pt_wired.specs.Needs.{NeedAll}
use Rattle.pt_wired.specs.Nonstrict.{is_nonstrict}
use Rattle.pt_trees.proofs.NeedLaws.{needs-length, planned-length}

-- ---- where channels begin

-- each begins at what is there
abbrev pub AreThere : (inputs children : ℕ) → List Source → Type 0
AreThere inputs children sources = All (λ (source : Source). IsThere inputs children (source_of source)) sources

there-from : (inputs children : ℕ) (sources : List Source) → AreThere inputs children sources → AllThere inputs children (map source_of sources)
there-from inputs children [] all = tt
there-from inputs children (s ∷ sources) all = (all 0 s (omega arith), there-from inputs children sources (λ k d h. all (suc k) d (omega (arith, h))))

there-to : (inputs children : ℕ) (sources : List Source) → AllThere inputs children (map source_of sources) → AreThere inputs children sources
there-to inputs children [] all k d h = absurd (omega (arith, h))
there-to inputs children (s ∷ sources) all zero d h = all.0
there-to inputs children (s ∷ sources) all (suc k) d h = there-to inputs children sources all.1 k d (omega (arith, h))

named-from : (p : TickPlan) (inputs children : ℕ) → p.inputs ≡ inputs → length p.net.places ≡ children → (cs : List net.Source) → AllThere inputs children cs → All (IsNamed p) cs
named-from p inputs children e f [] all k d h = absurd (omega (arith, h))
named-from p inputs children e f (net.Own port ∷ cs) all zero d h = omega (arith, all.0, e)
named-from p inputs children e f (net.Output child port ∷ cs) all zero d h = omega (arith, all.0, f)
named-from p inputs children e f (c ∷ cs) all (suc k) d h = named-from p inputs children e f cs all.1 k d (omega (arith, h))

-- ---- the wiring

-- what is looked at beside the needs
abbrev pub Fits : Wiring → ℕ → Type 0
Fits w places = (length w.sources.items ≡ places + w.outputs) × AreThere w.inputs (length w.places) w.sources.items × (length w.sources.items < 2 ^ 32) × (length w.places < 2 ^ 32)

long : (w : Wiring) → length (map source_of w.sources.items) ≡ length w.sources.items
long w = length-map w.sources.items source_of

pub wired-if : (w : Wiring) (kids : List Tree) (needs : List ℕ) (fits : Bool) → NeedAll kids w.places needs → ((fits ≡ true) ↔ Fits w (length needs)) → IsWiredIf (around_of w) kids fits
wired-if w kids needs true all iff =
    let h = iff.0 refl in
    record {
      needs = needs;
      needed = all.needs;
      counted = all.counted;
      channels = omega (arith, long w, h.0, all.counted);
      there = there-from w.inputs (length w.places) w.sources.items h.1;
      few = omega (arith, long w, h.2);
      fewer = h.3;
    }
wired-if w kids needs false all iff = λ wired.
    let t : false ≡ true = iff.1 (omega (arith, long w, wired.channels, all.counted), there-to w.inputs (length w.places) w.sources.items wired.there, omega (arith, long w, wired.few), wired.fewer) in
    cc

pub unwired : (w : Wiring) (kids : List Tree) → ((ns : List ℕ) → NeedAll kids w.places ns → ⊥) → IsWired (around_of w) kids → ⊥
unwired w kids none wired = none wired.needs (record { needs = wired.needed; counted = wired.counted })

-- ---- the plan

module _ (w : Wiring) (kids : List Tree) (p : CorePlan) (wired : IsWired (around_of w) kids) (sources : p.sources.items ≡ w.sources.items) (places : p.places ≡ w.places) (takes : p.takes ≡ replicate w.inputs 1) (flags : p.nonstrict.items ≡ map is_nonstrict kids) where
  inputs : length p.takes ≡ w.inputs
  inputs = ap (λ (v : List ℕ). length v) takes ∙ length-replicate w.inputs 1

  pub plan-is : plan_of p ≡ tick_plan (around_of w)
  plan-is = λ i. record { net = record { sources = map source_of (sources i); places = places i }; inputs = inputs i }

  children : length kids ≡ length w.places
  children = sym (needs-length (facts_of rows) kids) ∙ ap (λ v. length v) wired.needed ∙ planned-length w.places wired.needs

  pub lawful : IsLawful (plan_of p) p.nonstrict.items p.takes
  lawful = record {
    kinds = ap (λ (v : List Bool). length v) flags ∙ length-map kids is_nonstrict ∙ children ∙ ap (λ (v : List ℕ). length v) (sym places);
    channels = omega (arith, wired.channels, ap (λ (v : List Source). length (map source_of v)) sources, ap (λ (v : List ℕ). total v) places);
    few = omega (arith, wired.few, ap (λ (v : List Source). length (map source_of v)) sources);
    fewer = omega (arith, wired.fewer, ap (λ (v : List ℕ). length v) places);
    named = named-from (plan_of p) w.inputs (length w.places) inputs (ap (λ (v : List ℕ). length v) places) (map source_of p.sources.items) (subst (λ (v : List Source). AllThere w.inputs (length w.places) (map source_of v)) (sym sources) wired.there);
    ones = takes ∙ ap (λ n. replicate n 1) (sym inputs);
  }
