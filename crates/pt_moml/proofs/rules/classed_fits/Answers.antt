use Rattle.std.proofs.Common.{Some, ap, sym, ◌∙◌}
use Rattle.pt_document.specs.Classes.{director_of}
use Rattle.pt_moml.proofs.PropertyViews.{classed-director}
use Rattle.pt_moml.proofs.rules.classed_fits.Goals as goal

pub returns-in-Some-director_named : goal.returns-in-Some-director_named
returns-in-Some-director_named c =
    let e = classed-director c.args.here.now c.args.property.now c.as_str.result.now (director_of c.in-Some-director_named.row.now) c.deref.result.now (c.in-Some.is ∙ ap Some (sym c.as_str.ensures)) c.in-Some-director_named.ensures c.deref.ensures.value in
    rw e c.parameters_fit.ensures
