use Rattle.std.proofs.Common.{◌≡◌, inl, inr, ◌<◌, length, get_or, sym, ◌∙◌, arith}
use Rattle.std.proofs.lemmas.List.{get_or_read}
use Rattle.pt_pn.specs.declared.marks.Mark.TheVariants.{Awake, Waiting, Resting}
use Rattle.pt_pn.proofs.MarkLaws.{some-awake, one-not-resting, awake-rests, waiting-rests, now-rests, rests-already, past-resting}
use Rattle.pt_pn.proofs.marks.Marks.rest.Goals as goal

pub returns-then-number-len : goal.returns-then-number-len
returns-then-number-len c = past-resting c.self.inside.of.items c.args.self.now c.self.view_is c.args.number (omega (arith, c.if-number-len.true, c.len.ensures, c.self.inside.of.ok.0))

pub overflow_sub-self : goal.overflow_sub-self
overflow_sub-self c =
    let l : c.args.number < length c.self.inside.of.items = omega (arith, c.if-number-len.false, c.len.ensures, c.self.inside.of.ok.0) in
    let was : get_or c.self.inside.of.items c.args.number Awake ≡ Awake = sym (get_or_read c.self.inside.of.items c.args.number c.index.result.now l c.index.ensures Awake) ∙ c.in-Awake.is in
    some-awake c.self.inside.of.items c.self.inside.awake c.self.inside.not_resting c.self.invariant c.args.number l was

pub overflow_sub-self-in-Awake : goal.overflow_sub-self-in-Awake
overflow_sub-self-in-Awake c =
    let l : c.args.number < length c.self.inside.of.items = omega (arith, c.if-number-len.false, c.len.ensures, c.self.inside.of.ok.0) in
    let was : get_or c.self.inside.of.items c.args.number Awake ≡ Awake = sym (get_or_read c.self.inside.of.items c.args.number c.index.result.now l c.index.ensures Awake) ∙ c.in-Awake.is in
    one-not-resting c.self.inside.of.items c.self.inside.awake c.self.inside.not_resting c.self.invariant c.args.number l (inl was)

pub invariant_of-self : goal.invariant_of-self
invariant_of-self c =
    let l : c.args.number < length c.self.inside.of.items = omega (arith, c.if-number-len.false, c.len.ensures, c.self.inside.of.ok.0) in
    let was : get_or c.self.inside.of.items c.args.number Awake ≡ Awake = sym (get_or_read c.self.inside.of.items c.args.number c.index.result.now l c.index.ensures Awake) ∙ c.in-Awake.is in
    awake-rests c.self.inside.of.items c.self.inside.awake c.self.inside.not_resting c.self.invariant c.args.number l was

pub overflow_sub-self-in-Waiting : goal.overflow_sub-self-in-Waiting
overflow_sub-self-in-Waiting c =
    let l : c.args.number < length c.self.inside.of.items = omega (arith, c.if-number-len.false, c.len.ensures, c.self.inside.of.ok.0) in
    let was : get_or c.self.inside.of.items c.args.number Awake ≡ Waiting = sym (get_or_read c.self.inside.of.items c.args.number c.index.result.now l c.index.ensures Awake) ∙ c.in-Waiting.is in
    one-not-resting c.self.inside.of.items c.self.inside.awake c.self.inside.not_resting c.self.invariant c.args.number l (inr was)

pub invariant_of-self-in-Waiting : goal.invariant_of-self-in-Waiting
invariant_of-self-in-Waiting c =
    let l : c.args.number < length c.self.inside.of.items = omega (arith, c.if-number-len.false, c.len.ensures, c.self.inside.of.ok.0) in
    let was : get_or c.self.inside.of.items c.args.number Awake ≡ Waiting = sym (get_or_read c.self.inside.of.items c.args.number c.index.result.now l c.index.ensures Awake) ∙ c.in-Waiting.is in
    waiting-rests c.self.inside.of.items c.self.inside.awake c.self.inside.not_resting c.self.invariant c.args.number l was

pub returns-in-Awake : goal.returns-in-Awake
returns-in-Awake c = now-rests c.self.inside.of.items c.args.self.now c.self.view_is c.args.number

pub returns-in-Waiting : goal.returns-in-Waiting
returns-in-Waiting c = now-rests c.self.inside.of.items c.args.self.now c.self.view_is c.args.number

pub returns-in-Resting : goal.returns-in-Resting
returns-in-Resting c =
    let l : c.args.number < length c.self.inside.of.items = omega (arith, c.if-number-len.false, c.len.ensures, c.self.inside.of.ok.0) in
    let was : get_or c.self.inside.of.items c.args.number Awake ≡ Resting = sym (get_or_read c.self.inside.of.items c.args.number c.index.result.now l c.index.ensures Awake) ∙ c.in-Resting.is in
    rests-already c.self.inside.of.items c.args.self.now c.self.view_is c.args.number was
