use Rattle.std.proofs.Common.{◌≡◌, ◌∙◌, map, sym}
use Rattle.pt_directors.specs.Directors.{director_calls}
use Rattle.pt_node.specs.Acts.{acts}
use Rattle.pt_node.specs.Shown.{shown}
use Rattle.pt_turns.proofs.Acting.{acts-law}
use Rattle.pt_turns.proofs.Firing.{at-begun, begin-halts}
use Rattle.pt_turns.proofs.Loop.{on-ok, on-err}
use Rattle.pt_rows.proofs.rows.begin_row.Goals as goal

pub begin-requires-clause-idle : goal.begin-requires-clause-idle
begin-requires-clause-idle c = acts-law.idle c.args.director.now _ c.requires.ready

pub returns-then-is_err : goal.returns-then-is_err
returns-then-is_err c = begin-halts acts acts-law c.args.director.now c.begin.new.self (map shown c.args.children.now.items) c.args.tag c.args.inputs.now c.args.left.now c.requires.ready c.requires.inputs c.requires.fit (on-err c.begin.result (c.begin.new.self ≡ c.args.director.now) (sym c.is_err.ensures.value ∙ c.if-is_err.true) c.begin.ensures.kept) c.args.made c.args.meetings.now c.requires.serves

pub fire_row-requires : goal.fire_row-requires
fire_row-requires c = (
  c.args.tag,
  record {
    before = c.args.director.now;
    olds = map shown c.args.children.now.items;
    inputs = c.args.inputs.now;
    allowance = c.args.left.now;
    start = c.args.meetings.now;
    at = (at-begun acts acts-law c.args.director.now c.begin.new.self (map shown c.args.children.now.items) c.args.tag c.args.inputs.now c.args.left.now c.requires.ready c.requires.inputs c.requires.fit
        (on-ok c.begin.result (c.begin.new.self ≡ director_calls.begun c.args.tag c.args.inputs.now c.args.director.now) (sym c.is_err.ensures.value ∙ c.if-is_err.false) c.begin.ensures.begun) c.args.made c.args.meetings.now c.requires.serves);
  },
)

pub returns : goal.returns
returns c = c.fire_row.ensures.goes c.args.director.now (map shown c.args.children.now.items) c.args.tag c.args.inputs.now c.args.left.now c.args.meetings.now (at-begun acts acts-law c.args.director.now c.begin.new.self (map shown c.args.children.now.items) c.args.tag c.args.inputs.now c.args.left.now c.requires.ready c.requires.inputs c.requires.fit
    (on-ok c.begin.result (c.begin.new.self ≡ director_calls.begun c.args.tag c.args.inputs.now c.args.director.now) (sym c.is_err.ensures.value ∙ c.if-is_err.false) c.begin.ensures.begun) c.args.made c.args.meetings.now c.requires.serves)
