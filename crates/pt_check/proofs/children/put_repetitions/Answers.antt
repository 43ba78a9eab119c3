use Rattle.std.proofs.Common.{◌≡◌, ℕ, ◌++◌, ◌∷◌, [], List, length, ap, sym, subst, ◌∙◌}
use Rattle.std.proofs.lemmas.List.{length_push}
use Rattle.std.proofs.lemmas.Slice.Zip.{zip_turn, zip_end}
use Rattle.pt_node.specs.declared.node.Node.{Node}
use Rattle.pt_node.specs.Shown.{shown_node}
use Rattle.pt_check.specs.Children.{path_of}
use Rattle.pt_check.proofs.ChildLaws.{paired, pair-told, pairs-told}
use Rattle.pt_check.proofs.children.put_repetitions.Goals as goal

pub loop-child-preserved : goal.loop-child-preserved
loop-child-preserved c =
    let items : List Node = c.args.children.now in
    let ns : List ℕ = c.args.repetitions.now in
    let d : Node = c.in-Some.child.now in
    let n : ℕ = c.in-Some.firings.now in
    let z = zip_turn items ns c.loop-child.yielded c.into_iter-child-iterator.result c.loop-child.child-iterator c.next.new.self _ (cc) (cc) c.loop-child.yielded_by (c.in-Some.child, c.in-Some.firings) c.in-Some.is c.next.ensures.steps in
    let put : c.push.new.self.items ≡ c.loop-child.out.items ++ (path_of (shown_node d), n) ∷ [] = c.in_ok-push.ensures.items ∙ ap (λ (p : List ℕ). c.loop-child.out.items ++ (p, n) ∷ []) c.in_ok-copy.ensures in
    let told = pair-told items ns (length c.loop-child.yielded) d n c.loop-child.out.items c.push.new.self.items (c.args.out.now.items ++ paired items ns 0) z.0 z.1 (z.2 d) (z.3 n) put c.loop-child.invariant.2 in
    ((tt, tt), tt, subst (λ (k : ℕ). c.push.new.self.items ++ paired items ns k ≡ c.args.out.now.items ++ paired items ns 0) (sym (length_push c.loop-child.yielded (c.in-Some.child, c.in-Some.firings))) told)

pub returns : goal.returns
returns c =
    let items : List Node = c.args.children.now in
    let ns : List ℕ = c.args.repetitions.now in
    let end = zip_end items ns c.loop-child.yielded c.into_iter-child-iterator.result c.loop-child.child-iterator c.next.new.self _ (cc) (cc) c.loop-child.yielded_by c.in-None.is c.next.ensures.steps in
    pairs-told items ns (length c.loop-child.yielded) c.loop-child.out.items (c.args.out.now.items ++ paired items ns 0) end c.loop-child.invariant.2
