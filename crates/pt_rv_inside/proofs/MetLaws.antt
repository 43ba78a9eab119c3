-- Whether a wiring is one of a Rendezvous composite, but for what is stated.
use Rattle.std.proofs.Common.{◌≡◌, ◌↔◌, ℕ, zero, suc, ◌+◌, ◌<◌, ◌^◌, List, [], ◌∷◌, length, map, Bool, true, false, refl, sym, ap, ◌∙◌, subst, arith}
use Rattle.std.specs.Prelude.{All}
use Rattle.std.proofs.lemmas.List.{length-map}
use Rattle.pt_meaning.specs.Running.{total}
use Rattle.pt_laws.specs.StartedRuns.{IsThere, AllThere}
use Rattle.pt_core.specs.declared.source.Source.{Source}
use Rattle.pt_core.specs.Source.{source_of}
use Rattle.pt_node.specs.View.{Tree}
use Rattle.pt_trees.specs.declared.wiring.Wiring.{Wiring}
use Rattle.pt_trees.specs.Around.{around_of}
use Rattle.pt_trees.specs.Rendezvous.{AllPlaced, IsMet, IsMetIf}

-- each channel begins at what is there
abbrev pub AreThere : (inputs children : ℕ) → List Source → Type 0
AreThere inputs children sources = All (λ (source : Source). IsThere inputs children (source_of source)) sources

there-from : (inputs children : ℕ) (sources : List Source) → AreThere inputs children sources → AllThere inputs children (map source_of sources)
there-from inputs children [] all = tt
there-from inputs children (s ∷ sources) all = (all 0 s (omega arith), there-from inputs children sources (λ k d h. all (suc k) d (omega (arith, h))))

there-to : (inputs children : ℕ) (sources : List Source) → AllThere inputs children (map source_of sources) → AreThere inputs children sources
there-to inputs children [] all k d h = absurd (omega (arith, h))
there-to inputs children (s ∷ sources) all zero d h = all.0
there-to inputs children (s ∷ sources) all (suc k) d h = there-to inputs children sources all.1 k d (omega (arith, h))

-- what is looked at beside the children
abbrev pub Fits : Wiring → Type 0
Fits w = (length w.sources.items ≡ total w.places + w.outputs) × AreThere w.inputs (length w.places) w.sources.items × (length w.sources.items < 2 ^ 32) × (length w.places < 2 ^ 32)

long : (w : Wiring) → length (map source_of w.sources.items) ≡ length w.sources.items
long w = length-map w.sources.items source_of

pub met-if : (w : Wiring) (kids : List Tree) (fits : Bool) → length kids ≡ length w.places → AllPlaced w.places kids → ((fits ≡ true) ↔ Fits w) → IsMetIf (around_of w) kids fits
met-if w kids true children placed iff =
    let h = iff.0 refl in
    record {
      children = children;
      placed = placed;
      channels = omega (arith, long w, h.0);
      there = there-from w.inputs (length w.places) w.sources.items h.1;
      few = omega (arith, long w, h.2);
      fewer = h.3;
    }
met-if w kids false children placed iff = λ met.
    let t : false ≡ true = iff.1 (omega (arith, long w, met.channels), there-to w.inputs (length w.places) w.sources.items met.there, omega (arith, long w, met.few), met.fewer) in
    cc
