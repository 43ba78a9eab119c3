use Rattle.std.proofs.Common.{◌≡◌, Some, sym, ap, ◌∙◌}
use Rattle.pt_document.specs.Classes.{class_of, class_row}
use Rattle.pt_net.specs.Net.{entity_view}
use Rattle.pt_scopes.specs.Scopes.{net_view}
use Rattle.pt_start.specs.Places.{director_over}
use Rattle.pt_start.proofs.PlaceLaws.{barred-yes, barred-no}
use Rattle.pt_start.proofs.places.is_barred.Goals as goal

pub returns-in-Some-director_over-clause-yes : goal.returns-in-Some-director_over-clause-yes
returns-in-Some-director_over-clause-yes c =
    let e = entity_view c.args.entity.now in
    let is : class_row e.class ≡ Some (class_of c.in-Some.class.now) = ap class_row (sym c.as_str.ensures) ∙ sym c.in-Some.ensures in
    let over : director_over (net_view c.args.net.now) e.parent ≡ Some c.in-Some-director_over.director = sym c.in-Some-director_over.ensures in
    barred-yes (net_view c.args.net.now) e (class_of c.in-Some.class.now) c.in-Some-director_over.director c.may_stand.result is over c.may_stand.ensures.no

pub returns-in-Some-director_over-clause-no : goal.returns-in-Some-director_over-clause-no
returns-in-Some-director_over-clause-no c =
    let e = entity_view c.args.entity.now in
    let is : class_row e.class ≡ Some (class_of c.in-Some.class.now) = ap class_row (sym c.as_str.ensures) ∙ sym c.in-Some.ensures in
    let over : director_over (net_view c.args.net.now) e.parent ≡ Some c.in-Some-director_over.director = sym c.in-Some-director_over.ensures in
    barred-no (net_view c.args.net.now) e (class_of c.in-Some.class.now) c.in-Some-director_over.director c.may_stand.result is over c.may_stand.ensures.yes
