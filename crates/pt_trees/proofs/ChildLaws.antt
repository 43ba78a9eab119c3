-- What holds of a child, whatever it fires.
use Rattle.std.proofs.Common.{◌≡◌, ◌⊎◌, inl, inr, ℕ, List, [], ◌∷◌, length, Some, refl, sym, ap, subst, ◌∙◌}
use Rattle.pt_meaning.specs.Basics.{Tag, Streams}
use Rattle.pt_meaning.specs.Closed.{on_answer}
use Rattle.pt_meaning.specs.Machine.{Counts}
use Rattle.pt_meaning.specs.NodeFacts.{core_need, need_of}
use Rattle.pt_meaning.specs.Start.{IsAtStart}
use Rattle.pt_meaning.specs.Tree.{Answer, Gives, Fails, Past, Actor, Composite}
use Rattle.pt_core.specs.Reached.{Always}
use Rattle.pt_core.proofs.ReachedLaws as reached
use Rattle.pt_value.specs.declared.token.Token.{Token}
use Rattle.pt_library.specs.declared.library_actor.LibraryActor.{LibraryActor}
use Rattle.pt_library.specs.LibraryActor as library
use Rattle.pt_library.specs.LibraryActor.{rows}
use Rattle.pt_library.specs.Steady.{after}
use Rattle.pt_library.proofs.PlaceLaws.{places-stay}
use Rattle.pt_node.specs.View.{Tree}

-- the states that firings lead to are those of the library
after-same : (fs : List (Tag × Streams Token)) (a : LibraryActor) → reached.after rows fs a ≡ after fs a
after-same [] a = refl
after-same (f ∷ fs) a = by_answer (λ c. after-same fs c) (library.step f.0 a f.1)
  where
    by_answer : ((c : LibraryActor) → reached.after rows fs c ≡ after fs c) → (r : Answer Token LibraryActor) → on_answer (reached.after rows fs) r ≡ on_answer (after fs) r
    by_answer again (Gives c out) = again c
    by_answer again (Fails code) = refl

-- what holds of an actor in each state that firings lead to from its start, holds of it at its start whatever it fires
pub actor-always : (h : Past) (a b : LibraryActor) → b ≡ a → (P : Tree → Type 0) → ((fs : List (Tag × Streams Token)) (past : Past) (c : LibraryActor) → after fs a ≡ Some c → P (Actor past a c)) → Always rows P (Actor h a b)
actor-always h a b same P all later t =
    let i = reached.actor-becomes rows (Actor h a b) later t h a b refl in
    subst P (sym i.is) (all i.steps i.past i.state (sym (after-same i.steps a) ∙ from_start i.steps i.state i.led))
  where
    from_start : (fs : List (Tag × Streams Token)) (c : LibraryActor) → (reached.after rows fs b ≡ Some c) ⊎ (reached.after rows fs a ≡ Some c) → reached.after rows fs a ≡ Some c
    from_start fs c (inl x) = ap (λ (v : LibraryActor). reached.after rows fs v) (sym same) ∙ x
    from_start fs c (inr x) = x

same-counts : (ns ms : List ℕ) → Counts ns ≡ Counts ms → length ns ≡ length ms
same-counts ns ms e = let same : ns ≡ ms = cc in ap (λ (v : List ℕ). length v) same

-- a child at its start keeps the number of its places
pub placed-child : (places : ℕ) (kid : Tree) → IsAtStart rows kid → (ms : List ℕ) → need_of rows kid ≡ Counts ms → length ms ≡ places → Always rows (λ node. (ns : List ℕ) → need_of rows node ≡ Counts ns → length ns ≡ places) kid
placed-child places (Actor h a b) start ms e l =
    actor-always h a b start.1 (λ node. (ns : List ℕ) → need_of rows node ≡ Counts ns → length ns ≡ places) (λ fs past c g ns n. places-stay a ms (ap library.need (sym start.1) ∙ e) fs c g ns n ∙ l)
placed-child places (Composite h c d kids) start ms e l = λ later t ns n.
    let same : need_of rows later ≡ need_of rows (Composite h c d kids) = reached.composite-steady rows h c d kids (ap core_need (sym start.1)) later t in
    same-counts ns ms (sym n ∙ same ∙ e) ∙ l
