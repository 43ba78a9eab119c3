use Rattle.std.proofs.Common.{◌≡◌, true, subst, take}
use Rattle.std.proofs.lemmas.List.{take_all}
use Rattle.std.proofs.lemmas.List.Elements.{All-more, All-weaker}
use Rattle.std.specs.List.{All}
use Rattle.pt_survey.specs.declared.tables.PlacedLink.{PlacedLink}
use Rattle.pt_links.specs.Resolve.{is_marked}
use Rattle.pt_links.proofs.resolve.marks_of.Goals as goal

pub loop-link-preserved : goal.loop-link-preserved
loop-link-preserved c =
    let links = c.args.links.now in
    let Before : PlacedLink → Type 0 = λ l. is_marked c.loop-link.marks.items l.composite ≡ true in
    let After : PlacedLink → Type 0 = λ l. is_marked c.mark.new.marks.items l.composite ≡ true in
    All-more After links c.loop-link.link-index c.link-item.result c.loop-link-test.true
    (All-weaker Before After (λ l was. c.mark.ensures.kept l.composite was) (take c.loop-link.link-index links) c.loop-link.invariant)
    (subst After c.link-item.is c.mark.ensures.marked)

pub returns : goal.returns
returns c = subst (All (λ (l : PlacedLink). is_marked c.loop-link.marks.items l.composite ≡ true)) (take_all c.loop-link.link-index c.args.links.now c.loop-link-test.false) c.loop-link.invariant
