-- The wake of a node, by its body and its past.
use Rattle.std.proofs.Common.{◌≡◌, ℕ, Bool, true, false, Option, Some, refl, sym, ap, subst, ◌∙◌}
use Rattle.pt_meaning.specs.Tag.{Tag}
use Rattle.pt_meaning.specs.Tree as tree
use Rattle.pt_meaning.specs.NodeFacts.{core_wake, at_first, next_of, wakes_of}
use Rattle.pt_directors.specs.Directors.{Director}
use Rattle.pt_library.specs.LibraryActor.{rows}
use Rattle.pt_node.specs.declared.body.Body.{Body}
use Rattle.pt_node.specs.declared.body.Body.TheVariants.{Actor, Composite}
use Rattle.pt_node.specs.Acts.{acts}
use Rattle.pt_node.specs.Shown.{Shown, AllShown, Branch}
use Rattle.pt_node.specs.Firing.{recorded}
use Rattle.pt_node.specs.View.{Trees, core_of, node_with, node_of, nodes_of}
use Rattle.pt_node.specs.Live.{IsReady, IsReadyBody}
use Rattle.pt_node.specs.Wake.{body_begins, begins, body_wake, own_wake, past_of}
use Rattle.pt_node.proofs.ActsLaws.{acts-are-lawful}

nodes-again : (ns : Trees) → tree.nodes_of (tree.list_of ns) ≡ ns
nodes-again tree.none = refl
nodes-again (tree.more n ns) = ap (λ (v : Trees). let all : Trees = tree.more n v in all) (nodes-again ns)

-- what has fired has its own wake alone
later-wake : (b : Bool) (t : ℕ) (wake : Option Tag) → at_first b (Some t) wake ≡ wake
later-wake true t wake = refl
later-wake false t wake = refl

by-body : (h : tree.Past) (b : Body) (kids : Trees) → next_of rows (node_with h b kids) ≡ at_first (body_begins b) h.last (body_wake b kids)
by-body h (Actor held) kids = refl
by-body h (Composite director) kids = refl

-- a node whose firing is recorded has the wake of its body
pub recorded-wake : (tag : Tag) (s : Shown) → own_wake s ≡ next_of rows (node_of (recorded tag s))
recorded-wake tag (Branch f ks) = sym (by-body (tree.fired_at tag f.past) f.body (nodes_of ks) ∙ later-wake (body_begins f.body) tag.time (body_wake f.body (nodes_of ks)))

-- the wake of any node, by its past
pub next-wake : (s : Shown) → at_first (begins s) (past_of s).last (own_wake s) ≡ next_of rows (node_of s)
next-wake (Branch f ks) = sym (by-body f.past f.body (nodes_of ks))

-- a composite that is ready has the wake that its director has
composite-wake : (d : Director) (ks : AllShown) → IsReady d ks → acts.calls.wake d ≡ core_wake (core_of d) (wakes_of rows (nodes_of ks))
composite-wake d ks r = acts-are-lawful.wakes d (tree.list_of (nodes_of ks)) r ∙ ap (λ (v : Trees). core_wake (core_of d) (wakes_of rows v)) (nodes-again (nodes_of ks))

-- the same by the body of its node
pub director-wake : (b : Body) (d : Director) (ks : AllShown) (wake : Option Tag) → b ≡ Composite d → IsReadyBody b ks → wake ≡ acts.calls.wake d → wake ≡ body_wake b (nodes_of ks)
director-wake b d ks wake e r w = w ∙ composite-wake d ks (subst (λ v. IsReadyBody v ks) e r) ∙ ap (λ v. body_wake v (nodes_of ks)) (sym e)

pub director-idle : (b : Body) (d : Director) (ks : AllShown) → b ≡ Composite d → IsReadyBody b ks → acts.calls.IsIdle d
director-idle b d ks e r = acts-are-lawful.idle d (tree.list_of (nodes_of ks)) (subst (λ v. IsReadyBody v ks) e r)
