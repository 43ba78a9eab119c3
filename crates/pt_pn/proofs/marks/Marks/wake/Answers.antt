use Rattle.std.proofs.Common.{◌≡◌, inl, inr, ◌<◌, length, get_or, sym, ◌∙◌, arith}
use Rattle.std.proofs.lemmas.List.{get_or_read}
use Rattle.pt_pn.specs.declared.marks.Mark.TheVariants.{Awake, Waiting, Resting}
use Rattle.pt_pn.proofs.MarkLaws.{few-more, few-more-resting, waiting-woken, resting-woken, woken, awake-already, past-awake}
use Rattle.pt_pn.proofs.marks.Marks.wake.Goals as goal

pub returns-then-number-len : goal.returns-then-number-len
returns-then-number-len c = past-awake c.self.inside.of.items c.args.self.now c.self.view_is c.args.number (omega (arith, c.if-number-len.true, c.len.ensures, c.self.inside.of.ok.0))

pub overflow_add-self : goal.overflow_add-self
overflow_add-self c =
    let l : c.args.number < length c.self.inside.of.items = omega (arith, c.if-number-len.false, c.len.ensures, c.self.inside.of.ok.0) in
    let was : get_or c.self.inside.of.items c.args.number Awake ≡ Waiting = sym (get_or_read c.self.inside.of.items c.args.number c.index.result.now l c.index.ensures Awake) ∙ c.in-Waiting.is in
    let few = few-more c.self.inside.of.items c.self.inside.awake c.self.inside.not_resting c.self.invariant c.args.number l (inl was) in
    omega (arith, few, c.len.ensures, c.self.inside.of.ok.0, c.len.type_inv)

pub invariant_of-self : goal.invariant_of-self
invariant_of-self c =
    let l : c.args.number < length c.self.inside.of.items = omega (arith, c.if-number-len.false, c.len.ensures, c.self.inside.of.ok.0) in
    let was : get_or c.self.inside.of.items c.args.number Awake ≡ Waiting = sym (get_or_read c.self.inside.of.items c.args.number c.index.result.now l c.index.ensures Awake) ∙ c.in-Waiting.is in
    waiting-woken c.self.inside.of.items c.self.inside.awake c.self.inside.not_resting c.self.invariant c.args.number l was

pub overflow_add-self-in-Resting : goal.overflow_add-self-in-Resting
overflow_add-self-in-Resting c =
    let l : c.args.number < length c.self.inside.of.items = omega (arith, c.if-number-len.false, c.len.ensures, c.self.inside.of.ok.0) in
    let was : get_or c.self.inside.of.items c.args.number Awake ≡ Resting = sym (get_or_read c.self.inside.of.items c.args.number c.index.result.now l c.index.ensures Awake) ∙ c.in-Resting.is in
    let few = few-more c.self.inside.of.items c.self.inside.awake c.self.inside.not_resting c.self.invariant c.args.number l (inr was) in
    omega (arith, few, c.len.ensures, c.self.inside.of.ok.0, c.len.type_inv)

pub overflow_add-self-in-Resting-2 : goal.overflow_add-self-in-Resting-2
overflow_add-self-in-Resting-2 c =
    let l : c.args.number < length c.self.inside.of.items = omega (arith, c.if-number-len.false, c.len.ensures, c.self.inside.of.ok.0) in
    let was : get_or c.self.inside.of.items c.args.number Awake ≡ Resting = sym (get_or_read c.self.inside.of.items c.args.number c.index.result.now l c.index.ensures Awake) ∙ c.in-Resting.is in
    let few = few-more-resting c.self.inside.of.items c.self.inside.awake c.self.inside.not_resting c.self.invariant c.args.number l was in
    omega (arith, few, c.len.ensures, c.self.inside.of.ok.0, c.len.type_inv)

pub invariant_of-self-in-Resting : goal.invariant_of-self-in-Resting
invariant_of-self-in-Resting c =
    let l : c.args.number < length c.self.inside.of.items = omega (arith, c.if-number-len.false, c.len.ensures, c.self.inside.of.ok.0) in
    let was : get_or c.self.inside.of.items c.args.number Awake ≡ Resting = sym (get_or_read c.self.inside.of.items c.args.number c.index.result.now l c.index.ensures Awake) ∙ c.in-Resting.is in
    resting-woken c.self.inside.of.items c.self.inside.awake c.self.inside.not_resting c.self.invariant c.args.number l was

pub returns-in-Awake : goal.returns-in-Awake
returns-in-Awake c =
    let l : c.args.number < length c.self.inside.of.items = omega (arith, c.if-number-len.false, c.len.ensures, c.self.inside.of.ok.0) in
    let was : get_or c.self.inside.of.items c.args.number Awake ≡ Awake = sym (get_or_read c.self.inside.of.items c.args.number c.index.result.now l c.index.ensures Awake) ∙ c.in-Awake.is in
    awake-already c.self.inside.of.items c.args.self.now c.self.view_is c.args.number was

pub returns-in-Waiting : goal.returns-in-Waiting
returns-in-Waiting c = woken c.self.inside.of.items c.args.self.now c.self.view_is c.args.number

pub returns-in-Resting : goal.returns-in-Resting
returns-in-Resting c = woken c.self.inside.of.items c.args.self.now c.self.view_is c.args.number
