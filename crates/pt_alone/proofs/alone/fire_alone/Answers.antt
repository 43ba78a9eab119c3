use Rattle.std.proofs.Common.{sym, ◌∙◌}
use Rattle.std.proofs.lemmas.Bool.{eqb-true}
use Rattle.std.proofs.lemmas.List.{nil_from_length}
use Rattle.pt_alone.proofs.alone.fire_alone.Goals as goal

pub fire_bare-requires-clause-bare : goal.fire_bare-requires-clause-bare
fire_bare-requires-clause-bare g c = sym c.as_slice.ensures ∙ nil_from_length _ (eqb-true _ _ (sym c.is_empty.ensures ∙ c.if-is_empty.true))
