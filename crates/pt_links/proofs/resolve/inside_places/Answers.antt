use Rattle.std.proofs.Common.{◌≡◌, true, List, Bool, ap, ◌∙◌, subst}
use Rattle.std.specs.List.{All, position}
use Rattle.pt_survey.specs.declared.tables.PlacedLink.{PlacedLink}
use Rattle.pt_survey.specs.declared.tables.PlacedPort.{PlacedPort}
use Rattle.pt_survey.specs.Survey.{ports_view}
use Rattle.pt_net.specs.Wires.{names_inside}
use Rattle.pt_links.specs.Resolve.{is_marked}
use Rattle.pt_links.proofs.Marked.{linked_marked}
use Rattle.pt_links.proofs.resolve.inside_places.Goals as goal

pub returns : goal.returns
returns c = λ entity text linked.
    let marks = c.in_ok-marks.marks.items in
    let all = subst (All (λ (l : PlacedLink). is_marked marks l.composite ≡ true)) c.deref.ensures.value c.in_ok-marks.ensures in
    let marked = linked_marked marks c.args.tables.now.links.items entity all linked in
    c.in_ok-places.ensures entity text (ap (λ (ms : List Bool). is_marked ms entity) c.deref-3.ensures.value ∙ marked)
    ∙ ap (λ (ps : List PlacedPort). position (names_inside entity text.now) (ports_view ps)) c.deref-2.ensures.value
