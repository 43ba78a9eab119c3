use Rattle.std.proofs.Common.{◌≡◌, ◌+◌, ◌<◌, List, ℕ, All, length, subst, sym, ap, ◌∙◌, arith}
use Rattle.std.proofs.lemmas.List.Elements.{All-weaker}
use Rattle.pt_core.specs.declared.source.Source.{Source}
use Rattle.pt_plan.specs.Unfed.{unfed_among}
use Rattle.pt_plan.proofs.UnfedLaws.{unfed-below}
use Rattle.pt_plan.proofs.unfed.add_unfed.Goals as goal

pub add_channels-requires : goal.add_channels-requires
add_channels-requires c =
    let inputs : ℕ = c.args.inputs in
    let first : ℕ = c.args.first in
    let most : ℕ = length c.args.q.now in
    let us : List ℕ = unfed_among c.args.sources.now.items inputs in
    let is : c.deref-2.result.now ≡ us = c.deref-2.ensures.value ∙ c.in_ok-unfed.ensures ∙ ap (λ (v : List Source). unfed_among v inputs) c.deref.ensures.value in
    subst (λ (v : List ℕ). All (λ port. first + port < most) v) (sym is) (All-weaker (λ port. port < inputs) (λ port. first + port < most) (λ port h. omega (arith, h, c.requires)) us (unfed-below c.args.sources.now.items inputs))
