use Rattle.std.proofs.Common.{map, refl}
use Rattle.pt_firing.specs.declared.ask.Ask.TheVariants as ask
use Rattle.pt_node.specs.Acts.{acts}
use Rattle.pt_node.specs.Shown.{shown, all_of}
use Rattle.pt_turns.specs.declared.rest.Rest.TheVariants as rest
use Rattle.pt_turns.specs.OwnMeetings.{own_of}
use Rattle.pt_turns.proofs.Acting.{acts-law}
use Rattle.pt_turns.proofs.Firing.{may-finish}
use Rattle.pt_turns.proofs.Ending.{rested-as}
use Rattle.pt_alone.proofs.Untaken.{ends-untaken, close-ends}
use Rattle.pt_alone.proofs.alone.fire_closed.Goals as goal

pub close-requires : goal.close-requires
close-requires g c =
    let p = (rested-as c.args.director.now (map shown c.args.children.now.items) c.args.tag c.args.inputs.now c.args.left.now (own_of c.args.made c.args.meetings.now c.first_row-rest.new.meetings) c.first_row-rest.new.director (map shown c.first_row-rest.new.children.items) c.first_row-rest.new.left c.first_row-rest.result (rest.Asked ask.Finished) (c.if-is_finished.ensures refl) c.first_row-rest.ensures) in
    may-finish acts acts-law p.at c.args.path.now c.args.labels.now p.gives c.first_row-rest.new.director p.asking

pub returns-then-is_finished : goal.returns-then-is_finished
returns-then-is_finished g c = close-ends c.args.path.now c.args.labels.now (rested-as c.args.director.now (map shown c.args.children.now.items) c.args.tag c.args.inputs.now c.args.left.now (own_of c.args.made c.args.meetings.now c.first_row-rest.new.meetings) c.first_row-rest.new.director (map shown c.first_row-rest.new.children.items) c.first_row-rest.new.left c.first_row-rest.result (rest.Asked ask.Finished) (c.if-is_finished.ensures refl) c.first_row-rest.ensures) c.close.result c.close.new.director c.close.ensures

pub go_on-within-requires : goal.go_on-within-requires
go_on-within-requires g c = (c.args.tag, record { before = c.args.director.now; olds = map shown c.args.children.now.items; inputs = c.args.inputs.now; allowance = c.args.left.now; start = c.args.meetings.now; rested = c.first_row-rest.ensures })

pub returns : goal.returns
returns g c = ends-untaken c.args.path.now c.args.labels.now (own_of c.args.made c.args.meetings.now c.go_on-within.new.meetings) c.args.director.now (all_of (map shown c.args.children.now.items)) c.args.tag c.args.inputs.now c.args.left.now c.go_on-within.new.director (all_of (map shown c.go_on-within.new.children.items)) c.go_on-within.new.left c.go_on-within.result c.without_outputs.result c.without_outputs.ensures
    (c.go_on-within.ensures c.args.director.now (map shown c.args.children.now.items) c.args.tag c.args.inputs.now c.args.left.now c.args.meetings.now c.first_row-rest.ensures)
