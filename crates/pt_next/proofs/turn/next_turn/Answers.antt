use Rattle.std.proofs.Common.{sym, subst}
use Rattle.std.proofs.lemmas.Result.{IfOk-weaker}
use Rattle.pt_node.specs.Shown.{shown_node}
use Rattle.pt_node.specs.View.{node_of}
use Rattle.pt_trees.specs.declared.top.Top.{Top}
use Rattle.pt_trees.specs.Run.{schedule}
use Rattle.pt_next.specs.Turn.{IsNext, IsDue}
use Rattle.pt_next.proofs.turn.next_turn.Goals as goal

pub returns-in-Sdf : goal.returns-in-Sdf
returns-in-Sdf c = IfOk-weaker c.next_turn.result _ _ (λ t h. subst (λ (j : Top). IsNext (schedule j) c.args.fired c.args.last.now (node_of (shown_node c.args.top.now)) t) (sym c.in-Sdf.is) (h c.args.last.now (node_of (shown_node c.args.top.now)))) c.next_turn.ensures

pub returns-in-Sr : goal.returns-in-Sr
returns-in-Sr c = IfOk-weaker c.next_turn-in-Sr.result _ _ (λ t h. subst (λ (j : Top). IsNext (schedule j) c.args.fired c.args.last.now (node_of (shown_node c.args.top.now)) t) (sym c.in-Sr.is) (h c.args.last.now (node_of (shown_node c.args.top.now)))) c.next_turn-in-Sr.ensures

pub returns-in-Once : goal.returns-in-Once
returns-in-Once c = IfOk-weaker c.next_turn-in-Once.result _ _ (λ t h. subst (λ (j : Top). IsNext (schedule j) c.args.fired c.args.last.now (node_of (shown_node c.args.top.now)) t) (sym c.in-Once.is) (h c.args.last.now (node_of (shown_node c.args.top.now)))) c.next_turn-in-Once.ensures

-- the wake is that of the top
pub returns-in-De : goal.returns-in-De
returns-in-De c = IfOk-weaker c.next_turn-in-De.result _ _ (λ t h. subst (λ (j : Top). IsNext (schedule j) c.args.fired c.args.last.now (node_of (shown_node c.args.top.now)) t) (sym c.in-De.is) (subst (λ w. IsDue c.in-De.job c.args.last.now w t) c.next.ensures h)) c.next_turn-in-De.ensures
