use Rattle.std.proofs.Common.{◌≡◌, false, sym, ◌∙◌}
use Rattle.pt_net.specs.Net.{entity_view}
use Rattle.pt_scopes.specs.Scopes.{net_view}
use Rattle.pt_start.specs.Misplaced.{is_undirected_top, is_limited_under_sdf, undirected, barred, limited, timed}
use Rattle.pt_start.proofs.Misplacing.{none-there}
use Rattle.pt_start.proofs.refusals.cause_at.Goals as goal

pub returns-then-is_undirected_top-clause-some : goal.returns-then-is_undirected_top-clause-some
returns-then-is_undirected_top-clause-some c = undirected (sym c.is_undirected_top.ensures ∙ c.if-is_undirected_top.true)

pub returns-then-is_barred-clause-some : goal.returns-then-is_barred-clause-some
returns-then-is_barred-clause-some c = barred (c.is_barred.ensures.yes c.if-is_barred.true)

pub returns-then-is_limited_under_sdf-clause-some : goal.returns-then-is_limited_under_sdf-clause-some
returns-then-is_limited_under_sdf-clause-some c = limited (sym c.is_limited_under_sdf.ensures ∙ c.if-is_limited_under_sdf.true)

pub returns-then-is_timed_below-clause-some : goal.returns-then-is_timed_below-clause-some
returns-then-is_timed_below-clause-some c = timed (c.is_timed_below.ensures.yes c.if-is_timed_below.true)

pub returns-clause-none : goal.returns-clause-none
returns-clause-none c = λ none cause h.
    let net = net_view c.args.net.now in
    let e = entity_view c.args.entity.now in
    let a : is_undirected_top c.args.number e ≡ false = sym c.is_undirected_top.ensures ∙ c.if-is_undirected_top.false in
    let b : is_limited_under_sdf net c.args.values.now c.args.number e ≡ false = sym c.is_limited_under_sdf.ensures ∙ c.if-is_limited_under_sdf.false in
    none-there net c.args.values.now c.args.number e a (c.is_barred.ensures.no c.if-is_barred.false) b (c.is_timed_below.ensures.no c.if-is_timed_below.false) h
