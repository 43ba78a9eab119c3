use Rattle.std.proofs.Common.{sym, ◌∙◌}
use Rattle.std.proofs.lemmas.Bool.{false≢true}
use Rattle.pt_readback.proofs.JoinedNames.{one_name, names_more, names_less, names_last}
use Rattle.pt_readback.proofs.names.are_names.Goals as goal

pub returns-then-not-is_name : goal.returns-then-not-is_name
returns-then-not-is_name c = (
  λ b. absurd (false≢true b),
  λ h.
      let n = (names_less c.in-Some.first.now c.in-Some.others.now c.loop-first.rest.now c.in-Some.ensures.parts (c.loop-first.invariant.0 h)).0 in
      absurd (false≢true (sym c.if-not-is_name.true ∙ c.is_name.ensures.1 n)),
)

pub loop-first-preserved : goal.loop-first-preserved
loop-first-preserved c =
    let n = c.is_name.ensures.0 c.if-not-is_name.false in (
      λ h. (names_less c.in-Some.first.now c.in-Some.others.now c.loop-first.rest.now c.in-Some.ensures.parts (c.loop-first.invariant.0 h)).1,
      λ h. c.loop-first.invariant.1 (names_more c.in-Some.first.now c.in-Some.others.now c.loop-first.rest.now c.in-Some.ensures.parts n h),
    )

pub returns : goal.returns
returns c = (
  λ b. c.loop-first.invariant.1 (one_name c.loop-first.rest.now (c.is_name-2.ensures.0 b)),
  λ h. c.is_name-2.ensures.1 (names_last c.loop-first.rest.now c.in_default.ensures.parts (c.loop-first.invariant.0 h)),
)
