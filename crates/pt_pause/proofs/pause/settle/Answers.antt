use Rattle.std.proofs.Common.{inl, map}
use Rattle.pt_node.specs.Shown.{shown}
use Rattle.pt_turns.specs.declared.rest.Rest.TheVariants as rest
use Rattle.pt_turns.specs.OwnMeetings.{own_of}
use Rattle.pt_turns.proofs.Ending.{rested-as}
use Rattle.pt_pause.proofs.pause.settle.Goals as goal

pub returns-in-Turn : goal.returns-in-Turn
returns-in-Turn c before olds tag X allowance start a = rested-as before olds tag X allowance (own_of c.args.made start c.args.meetings.now) c.args.director.now (map shown c.args.children.now.items) c.args.left c.args.rest (rest.Turn c.in-Turn.number c.in-Turn.when c.in-Turn.given) c.in-Turn.is a

pub returns-in-Memory : goal.returns-in-Memory
returns-in-Memory c before olds tag X allowance start a = rested-as before olds tag X allowance (own_of c.args.made start c.args.meetings.now) c.args.director.now (map shown c.args.children.now.items) c.args.left c.args.rest rest.Memory c.in-Memory.is a

pub returns-in-Spent : goal.returns-in-Spent
returns-in-Spent c before olds tag X allowance start a = let p = rested-as before olds tag X allowance (own_of c.args.made start c.args.meetings.now) c.args.director.now (map shown c.args.children.now.items) c.args.left c.args.rest rest.Spent c.in-Spent.is a in (p.0, inl p.1)

pub heed-requires : goal.heed-requires
heed-requires c = let r = c.requires.1 in (c.requires.0, record { before = r.before; olds = r.olds; inputs = r.inputs; allowance = r.allowance; start = r.start; between = rested-as r.before r.olds c.requires.0 r.inputs r.allowance (own_of c.args.made r.start c.args.meetings.now) c.args.director.now (map shown c.args.children.now.items) c.args.left c.args.rest (rest.Asked c.in-Asked.asked) c.in-Asked.is r.rested })

pub returns-in-Some : goal.returns-in-Some
returns-in-Some c before olds tag X allowance start a = let b = rested-as before olds tag X allowance (own_of c.args.made start c.args.meetings.now) c.args.director.now (map shown c.args.children.now.items) c.args.left c.args.rest (rest.Asked c.in-Asked.asked) c.in-Asked.is a in c.in-Some.ensures before olds tag X allowance start b.state b.at b.gives b.asking

pub wait-requires : goal.wait-requires
wait-requires c =
    let r = c.requires.1 in
    let b = rested-as r.before r.olds c.requires.0 r.inputs r.allowance (own_of c.args.made r.start c.args.meetings.now) c.args.director.now (map shown c.args.children.now.items) c.args.left c.args.rest (rest.Asked c.in-Asked.asked) c.in-Asked.is r.rested in (c.requires.0, record { before = r.before; olds = r.olds; inputs = r.inputs; allowance = r.allowance; start = r.start; at = (c.in-None.ensures r.before r.olds c.requires.0 r.inputs r.allowance r.start b.state b.at b.gives b.asking).0 })

pub returns-in-None : goal.returns-in-None
returns-in-None c before olds tag X allowance start a = let b = rested-as before olds tag X allowance (own_of c.args.made start c.args.meetings.now) c.args.director.now (map shown c.args.children.now.items) c.args.left c.args.rest (rest.Asked c.in-Asked.asked) c.in-Asked.is a in c.wait.ensures before olds tag X allowance start (c.in-None.ensures before olds tag X allowance start b.state b.at b.gives b.asking).0
