use Rattle.std.proofs.Common.{◌≡◌, ◌∙◌, [], Some, ap, map, sym}
use Rattle.pt_de_laws.specs.DeActs.{de_calls}
use Rattle.pt_directors.specs.Directors.{director_calls}
use Rattle.pt_node.specs.Acts.{acts}
use Rattle.pt_node.specs.Shown.{shown}
use Rattle.pt_past.proofs.MeetingsLaws.{serves-new}
use Rattle.pt_turns.specs.OwnMeetings.{own_of}
use Rattle.pt_directors.specs.Directors.{of_de}
use Rattle.pt_turns.proofs.Acting.{acts-law}
use Rattle.pt_turns.proofs.Firing.{at-begun, begin-halts}
use Rattle.pt_turns.proofs.Loop.{on-ok, on-err}
use Rattle.pt_event_rows.proofs.events.first_reaction.Goals as goal

pub begin-requires-clause-idle : goal.begin-requires-clause-idle
begin-requires-clause-idle c = acts-law.idle (of_de c.args.core.now) _ c.requires.ready

pub returns-then-is_err : goal.returns-then-is_err
returns-then-is_err c number made serves = begin-halts acts acts-law (of_de c.args.core.now) (of_de c.begin.new.self) (map shown c.args.children.now.items) c.args.tag c.args.inputs.now c.args.left.now c.requires.ready c.requires.inputs c.requires.fit (ap (λ v. of_de v) (on-err c.begin.result (c.begin.new.self ≡ c.args.core.now) (sym c.is_err.ensures.value ∙ c.if-is_err.true) c.begin.ensures.kept)) number made serves

pub fire_events-requires : goal.fire_events-requires
fire_events-requires c = (
  c.args.tag,
  record {
    before = of_de c.args.core.now;
    olds = map shown c.args.children.now.items;
    inputs = c.args.inputs.now;
    allowance = c.args.left.now;
    own = own_of 0 (Some []) (Some []);
    at = (at-begun acts acts-law (of_de c.args.core.now) (of_de c.begin.new.self) (map shown c.args.children.now.items) c.args.tag c.args.inputs.now c.args.left.now c.requires.ready c.requires.inputs c.requires.fit
        (ap (λ v. of_de v) (on-ok c.begin.result (c.begin.new.self ≡ de_calls.begun c.args.tag c.args.inputs.now c.args.core.now) (sym c.is_err.ensures.value ∙ c.if-is_err.false) c.begin.ensures.begun)) 0 (Some []) (serves-new (director_calls.met (of_de c.args.core.now)) 0));
  },
)

pub returns : goal.returns
returns c number made serves = c.fire_events.ensures.goes (of_de c.args.core.now) (map shown c.args.children.now.items) c.args.tag c.args.inputs.now c.args.left.now (own_of number made made) (at-begun acts acts-law (of_de c.args.core.now) (of_de c.begin.new.self) (map shown c.args.children.now.items) c.args.tag c.args.inputs.now c.args.left.now c.requires.ready c.requires.inputs c.requires.fit
    (ap (λ v. of_de v) (on-ok c.begin.result (c.begin.new.self ≡ de_calls.begun c.args.tag c.args.inputs.now c.args.core.now) (sym c.is_err.ensures.value ∙ c.if-is_err.false) c.begin.ensures.begun)) number made serves)
