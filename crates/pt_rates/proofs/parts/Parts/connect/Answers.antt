use Rattle.std.proofs.Common.{ℕ, ◌*◌, sym, subst, ◌∙◌, eqb}
use Rattle.pt_rates.specs.Parts.{label_of, repetitions_of, AreMerged, ComesAfter}
use Rattle.pt_rates.specs.Ratio.{IsLowest}
use Rattle.pt_rates.specs.declared.parts.Parts.{Parts}
use Rattle.pt_rates.proofs.Connections.{after-within, after-merged}
use Rattle.pt_rates.proofs.parts.Parts.connect.Goals as goal

pub returns-then-first-second-clause-after : goal.returns-then-first-second-clause-after
returns-then-first-second-clause-after c =
    subst (λ put. ComesAfter c.args.edge.now c.args.self.now c.args.self.now (eqb put c.tokens-taken.result)) (sym c.tokens-put.ensures.value) (subst (λ taken. ComesAfter c.args.edge.now c.args.self.now c.args.self.now (eqb (repetitions_of c.args.self.now c.args.edge.now.from * c.args.edge.now.produced) taken)) (sym c.tokens-taken.ensures.value) (after-within c.args.edge.now c.args.self.now c.requires.channel (sym c.label-first.ensures.value ∙ c.if-first-second.true ∙ c.label-second.ensures.value)))

pub returns-clause-after : goal.returns-clause-after
returns-clause-after c =
    let up : ℕ = c.lowest_terms-second_times.result.0 in
    let down : ℕ = c.lowest_terms-second_times.result.1 in
    let new : Parts = c.merge.new.self in
    let lowest : IsLowest (repetitions_of c.args.self.now c.args.edge.now.from * c.args.edge.now.produced) (repetitions_of c.args.self.now c.args.edge.now.to * c.args.edge.now.consumed) up down = subst (λ x. IsLowest x (repetitions_of c.args.self.now c.args.edge.now.to * c.args.edge.now.consumed) up down) c.tokens-put.ensures.value (subst (λ y. IsLowest c.tokens-put.result y up down) c.tokens-taken.ensures.value c.lowest_terms-second_times.ensures) in
    let merged : AreMerged (label_of c.args.self.now c.args.edge.now.from) down (label_of c.args.self.now c.args.edge.now.to) up c.args.self.now new = subst (λ k. AreMerged k down (label_of c.args.self.now c.args.edge.now.to) up c.args.self.now new) c.label-first.ensures.value (subst (λ k. AreMerged c.label-first.result down k up c.args.self.now new) c.label-second.ensures.value c.in_ok-merge.ensures.merged) in
    after-merged c.args.edge.now c.args.self.now new up down c.requires.channel (λ e. c.if-first-second.false (c.label-first.ensures.value ∙ e ∙ sym c.label-second.ensures.value)) lowest merged
