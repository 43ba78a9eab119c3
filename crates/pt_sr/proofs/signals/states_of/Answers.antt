use Rattle.std.proofs.Common.{◌∷◌, [], ◌++◌, List, get_or, map, false, if◌then◌else◌, ap, ap₂, ◌∙◌, arith}
use Rattle.std.proofs.lemmas.List.{map_push}
use Rattle.pt_meaning.specs.Machine.{Known, Unknown, Partial}
use Rattle.pt_value.specs.declared.token.Token.{Token}
use Rattle.pt_firing.specs.TriState.{partial_of}
use Rattle.pt_sr.proofs.Lists.{read-at}
use Rattle.pt_sr.proofs.SignalLaws.{states-more}
use Rattle.pt_sr.proofs.signals.states_of.Goals as goal

pub loop-c-preserved : goal.loop-c-preserved
loop-c-preserved c =
    ap (λ v. map partial_of v) c.in_ok-push.ensures.items ∙ map_push partial_of c.loop-c.states.items c.in_ok-state.state ∙
    ap₂ (λ (x : List (Partial Token)) (y : Partial Token). x ++ y ∷ []) c.loop-c.invariant
    (c.in_ok-state.ensures ∙ ap (λ v. let w : Partial Token = if get_or c.args.flags.now c.loop-c.c false then Known v else Unknown in w) (read-at c.args.lists.now c.loop-c.c c.index-lists-c.result [] (omega (arith, c.loop-c-test.true, c.requires)) c.index-lists-c.is)) ∙
    states-more c.args.flags.now c.args.lists.now c.loop-c.c c.loop-c-test.true c.requires
