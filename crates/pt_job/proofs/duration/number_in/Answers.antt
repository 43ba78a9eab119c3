use Rattle.std.proofs.Common.{ℕ, Option, sym, ap, ◌∙◌}
use Rattle.pt_document.specs.View.{property_view}
use Rattle.pt_job.specs.Iterations.{count_in, value_at, sets}
use Rattle.pt_job.proofs.Positions.{position-map}
use Rattle.pt_job.proofs.duration.number_in.Goals as goal

pub returns-in-Some : goal.returns-in-Some
returns-in-Some c = c.count_at.ensures ∙ ap (λ (o : Option ℕ). count_in (value_at c.args.values.now o)) (c.in-Some.ensures ∙ sym (position-map (sets c.args.name.now) property_view c.args.properties.now))

pub returns-in-None : goal.returns-in-None
returns-in-None c = ap (λ (o : Option ℕ). count_in (value_at c.args.values.now o)) (c.in-None.ensures ∙ sym (position-map (sets c.args.name.now) property_view c.args.properties.now))
