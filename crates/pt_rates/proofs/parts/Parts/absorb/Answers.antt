use Rattle.std.proofs.Common.{◌≡◌, ◌≢◌, ℕ, List, [], ◌∷◌, ◌++◌, length, refl, ap, ◌∙◌, arith}
use Rattle.pt_rates.specs.Parts.{AreMoved}
use Rattle.pt_rates.specs.declared.parts.Parts.{Parts}
use Rattle.pt_rates.proofs.Merges.{on_ok, merged-stays, merged-fresh, no_label, held-push}
use Rattle.pt_rates.proofs.parts.Parts.absorb.Goals as goal

pub returns-then-larger_times-eq1-clause-merged : goal.returns-then-larger_times-eq1-clause-merged
returns-then-larger_times-eq1-clause-merged c =
    on_ok c.relabel.result (AreMoved c.args.smaller c.args.larger c.args.smaller_times c.args.self.now c.relabel.new.self) _
    (merged-stays c.args.larger c.args.larger_times c.args.smaller c.args.smaller_times c.args.self.now c.relabel.new.self c.requires.apart c.if-larger_times-eq1.true) c.relabel.ensures.moved

pub relabel-requires-2-clause-held : goal.relabel-requires-2-clause-held
relabel-requires-2-clause-held c =
    held-push c.args.self.now (record c.args.self.now { members = c.push.new.self }) c.requires.held refl refl refl (c.in_ok-push.ensures.items ∙ ap (λ (m : List ℕ). c.args.self.now.members.items ++ m ∷ []) c.new.ensures)

pub returns-clause-merged : goal.returns-clause-merged
returns-clause-merged c =
    let opened : Parts = record c.args.self.now { members = c.push.new.self } in
    let last : length c.args.self.now.members.items ≡ c.len-label.result = omega (arith, c.len-label.ensures, c.args.self.now.members.ok.0) in
    let behind : c.len-label.result ≢ c.args.smaller = λ e. omega (arith, e, last, c.requires.smaller) in
    on_ok c.relabel-3.result (AreMoved c.args.smaller c.len-label.result c.args.smaller_times c.relabel-2.new.self c.relabel-3.new.self) _
    (λ k.
    let m = merged-fresh c.args.larger c.args.larger_times c.args.smaller c.args.smaller_times c.len-label.result opened c.relabel-2.new.self c.relabel-3.new.self c.requires.apart behind (λ node short. no_label c.args.self.now node c.len-label.result c.requires.held short last) c.in_ok-relabel.ensures.counted c.in_ok-relabel.ensures.moved k in
    record { label = m.label; firsts = m.firsts; seconds = m.seconds; others = m.others }) c.relabel-3.ensures.moved
