-- What a child needs, whatever it fires: counts, or nothing more, unless it waits for a token at any one place from its start on.
use Rattle.std.proofs.Common.{◌≡◌, refl, sym, ap, subst, ◌∙◌}
use Rattle.pt_meaning.specs.Machine.{Need, Over, Counts, Any}
use Rattle.pt_meaning.specs.NodeFacts.{core_need, need_of}
use Rattle.pt_meaning.specs.Start.{IsAtStart}
use Rattle.pt_meaning.specs.Tree.{Core, Sdf, Pn, Sr, De, Rv, Modal, Actor, Composite, reset_of}
use Rattle.pt_value.specs.declared.token.Token.{Token}
use Rattle.pt_core.specs.Reached.{Always}
use Rattle.pt_core.proofs.ReachedLaws as reached
use Rattle.pt_process.specs.Process.{IsKept}
use Rattle.pt_library.specs.LibraryActor as library
use Rattle.pt_library.specs.LibraryActor.{rows}
use Rattle.pt_library.proofs.AnyLaws.{keeps-any}
use Rattle.pt_node.specs.View.{Tree}
use Rattle.pt_trees.proofs.ChildLaws.{actor-always}

-- ---- library actors

kept-unless : (n : Need) → (n ≡ Any → ⊥) → IsKept n
kept-unless Over never = tt
kept-unless (Counts ns) never = tt
kept-unless Any never = absurd (never refl)

not-any : (n : Need) → IsKept n → n ≡ Any → ⊥
not-any n kept e = subst (λ (m : Need). IsKept m) e kept

-- ---- nodes

core-kept : (c : Core Token) → IsKept (core_need c)
core-kept (Sdf p X) = tt
core-kept (Pn p X) = tt
core-kept (Sr p) = tt
core-kept (De p) = tt
core-kept (Rv p X) = tt
core-kept (Modal chart m) = tt

-- a child that doesn't wait for a token at any one place at its start never does
pub kept-stays : (kid : Tree) → IsAtStart rows kid → IsKept (need_of rows kid) → Always rows (λ node. IsKept (need_of rows node)) kid
kept-stays (Actor h a b) start kept =
    actor-always h a b start.1 (λ node. IsKept (need_of rows node)) (λ fs past c g. kept-unless (library.need c) (λ any. not-any (library.need b) kept (ap library.need start.1 ∙ (keeps-any a fs c g).0 any)))
kept-stays (Composite h c d kids) start kept = λ later t. subst (λ (n : Need). IsKept n) (sym (reached.composite-steady rows h c d kids (ap core_need (sym start.1)) later t)) (core-kept d)

-- one that does so at its start always does
pub any-stays : (kid : Tree) → IsAtStart rows kid → need_of rows kid ≡ Any → Always rows (λ node. need_of rows node ≡ Any) kid
any-stays (Actor h a b) start is = actor-always h a b start.1 (λ node. need_of rows node ≡ Any) (λ fs past c g. (keeps-any a fs c g).1 (ap library.need (sym start.1) ∙ is))
any-stays (Composite h c d kids) start is = λ later t. reached.composite-steady rows h c d kids (ap core_need (sym start.1)) later t ∙ is

-- brought back to its start, a child needs what it needs there, whatever it fired
pub needs-again : (kid : Tree) → IsAtStart rows kid → Always rows (λ node. need_of rows (reset_of node) ≡ need_of rows kid) kid
needs-again (Actor h a b) start = actor-always h a b start.1 (λ node. need_of rows (reset_of node) ≡ library.need b) (λ fs past c g. ap library.need (sym start.1))
needs-again (Composite h c d kids) start = λ later t.
    let i = reached.composite-becomes rows (Composite h c d kids) later t h c d kids refl (ap core_need (sym start.1)) in
    ap (λ (v : Tree). need_of rows (reset_of v)) i.is ∙ ap core_need (sym start.1)
