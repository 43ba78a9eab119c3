-- The states of a library actor in firings one after another, and the nodes that it becomes.
use Rattle.std.proofs.Common.{◌≡◌, ◌⊎◌, inl, inr, ℕ, zero, suc, ◌<◌, List, [], ◌∷◌, length, take, drop, get_or, Some, refl, sym, ap, ap₂, subst, ◌∙◌, arith}
use Rattle.std.proofs.lemmas.Bool.{cases_eq}
use Rattle.pt_meaning.specs.Tag.{Tag}
use Rattle.pt_meaning.specs.Streams.{Streams, get}
use Rattle.pt_meaning.specs.Log.{silent}
use Rattle.pt_meaning.specs.Machine.{Need, Over, Counts, Done}
use Rattle.pt_meaning.specs.Tree.{Answer, Gives, Fails, Past, Actor, fired_at}
use Rattle.pt_meaning.specs.NodeFacts.{facts_of, need_of}
use Rattle.pt_meaning.specs.Step.{actor_outcome, step_at}
use Rattle.pt_value.specs.declared.token.Token.{Token}
use Rattle.pt_core.specs.Reached.{Becomes, Fires}
use Rattle.pt_library.specs.declared.library_actor.LibraryActor.{LibraryActor}
use Rattle.pt_library.specs.LibraryActor.{MakesInTurn, rows}
use Rattle.pt_library.specs.LibraryActor as library
use Rattle.pt_node.specs.View.{Tree}
use Rattle.pt_block_laws.specs.Workers.{past_after}
use Rattle.pt_sdf_parts.specs.ByNeed.{needs_of, planned, place_of}
use Rattle.pt_sdf_parts.proofs.NeedLaws.{needs-length, planned-length, planned-get}

-- ---- states

-- the actor that an answer gives, or the one that answers where it fails
abbrev pub after_answer : LibraryActor → Answer Token LibraryActor → LibraryActor
after_answer a (Gives b out) = b
after_answer a (Fails code) = a

-- the actor after so many firings at a tag, on these inputs
abbrev pub state_after : Tag → (inputs : ℕ → Streams Token) → LibraryActor → ℕ → LibraryActor
state_after tag inputs a zero = a
state_after tag inputs a (suc k) = after_answer (state_after tag inputs a k) (library.step tag (state_after tag inputs a k) (inputs k))

-- each firing of a number below n is made
abbrev pub AreStepped : Tag → (inputs outputs : ℕ → Streams Token) → (state : ℕ → LibraryActor) → ℕ → Type 0
AreStepped tag inputs outputs state n = (k : ℕ) → k < n → library.step tag (state k) (inputs k) ≡ Gives (state (suc k)) (outputs k)

-- one more
stepped-more : (tag : Tag) (inputs outputs : ℕ → Streams Token) (state : ℕ → LibraryActor) (n : ℕ) → AreStepped tag inputs outputs state n → library.step tag (state n) (inputs n) ≡ Gives (state (suc n)) (outputs n) → AreStepped tag inputs outputs state (suc n)
stepped-more tag inputs outputs state n h last k l = by-number (cases_eq k n)
  where
    by-number : (k ≡ n) ⊎ (k ≡ n → ⊥) → library.step tag (state k) (inputs k) ≡ Gives (state (suc k)) (outputs k)
    by-number (inl same) = subst (λ j. library.step tag (state j) (inputs j) ≡ Gives (state (suc j)) (outputs j)) (sym same) last
    by-number (inr apart) = h k (omega (arith, l, apart))

-- firings that are made in turn are those of these states
pub record AreStates (tag : Tag) (inputs outputs : ℕ → Streams Token) (n : ℕ) (old new : LibraryActor) : Type 0 where
  pub ends : state_after tag inputs old n ≡ new
  pub each : AreStepped tag inputs outputs (state_after tag inputs old) n

pub made-states : (tag : Tag) (inputs outputs : ℕ → Streams Token) (n : ℕ) (old new : LibraryActor) → MakesInTurn library.step inputs outputs n old new → AreStates tag inputs outputs n old new
made-states tag inputs outputs zero old new m = record { ends = sym m; each = λ k l. absurd (omega (arith, l)) }
made-states tag inputs outputs (suc n) old new m =
    let h = made-states tag inputs outputs n old m.0 m.1 in
    let last : library.step tag (state_after tag inputs old n) (inputs n) ≡ Gives new (outputs n) = ap (λ a. library.step tag a (inputs n)) h.ends ∙ m.2 tag in
    let ends : state_after tag inputs old (suc n) ≡ new = ap (λ r. after_answer (state_after tag inputs old n) r) last in
    record { ends = ends; each = stepped-more tag inputs outputs (state_after tag inputs old) n h.each (last ∙ ap (λ a. Gives a (outputs n)) (sym ends)) }

-- ---- the nodes that it becomes

done-outcome : (tag : Tag) (h : Past) (start a b : LibraryActor) (X out : Streams Token) → library.step tag a X ≡ Gives b out → step_at rows 0 1 (λ p n. []) tag (Actor h start a) X ≡ Done (Actor (fired_at tag h) start b) out silent
unfolding step_at
done-outcome tag h start a b X out e = ap (λ r. actor_outcome tag h start r) e

past-shift : (tag : Tag) (n : ℕ) (h : Past) → past_after tag n (fired_at tag h) ≡ past_after tag (suc n) h
past-shift tag zero h = refl
past-shift tag (suc n) h = ap (λ v. fired_at tag v) (past-shift tag n h)

-- what the node after the firings becomes, the node before them becomes
pub becomes-by : (tag : Tag) (n : ℕ) (state : ℕ → LibraryActor) (inputs outputs : ℕ → Streams Token) (h : Past) (start : LibraryActor) → AreStepped tag inputs outputs state n →
    (z : Tree) → Becomes rows (Actor (past_after tag n h) start (state n)) z → Becomes rows (Actor h start (state 0)) z
becomes-by tag zero state inputs outputs h start s z b = b
becomes-by tag (suc n) state inputs outputs h start s z b =
    Fires (Actor h start (state 0)) (Actor (fired_at tag h) start (state 1)) z 0 1 (λ p k. []) tag (inputs 0) (outputs 0) silent (done-outcome tag h start (state 0) (state 1) (inputs 0) (outputs 0) (s 0 (omega arith)))
    (becomes-by tag n (λ k. state (suc k)) (λ k. inputs (suc k)) (λ k. outputs (suc k)) (fired_at tag h) start (λ k l. s (suc k) (omega (arith, l))) z
    (subst (λ v. Becomes rows (Actor v start (state (suc n))) z) (sym (past-shift tag n h)) b))

-- ---- needs of children

pub get-short : {B : Type 0} (xs : List B) (i : ℕ) (x : B) → get xs i ≡ Some x → i < length xs
get-short [] i x e = absurd (cc)
get-short (y ∷ xs) zero x e = omega arith
get-short (y ∷ xs) (suc i) x e = let r = get-short xs i x e in omega (arith, r)

pub needs-long : (kids : List Tree) (places needs : List ℕ) → needs_of (facts_of rows) kids ≡ planned places needs → length kids ≡ length places
needs-long kids places needs e = sym (needs-length (facts_of rows) kids) ∙ ap (λ v. length v) e ∙ planned-length places needs

need-get : (kids : List Tree) (i : ℕ) (child : Tree) (d : Need) → get kids i ≡ Some child → get_or (needs_of (facts_of rows) kids) i d ≡ need_of rows child
need-get [] i child d e = absurd (cc)
need-get (k ∷ kids) zero child d e = let same : k ≡ child = cc in ap (λ (v : Tree). need_of rows v) same
need-get (k ∷ kids) (suc i) child d e = need-get kids i child d e

-- a child needs what the plan says
pub need-planned : (kids : List Tree) (places needs : List ℕ) (i : ℕ) (child : Tree) → needs_of (facts_of rows) kids ≡ planned places needs → get kids i ≡ Some child → need_of rows child ≡ Counts (take (get_or places i 0) (drop (place_of places i) needs))
need-planned kids places needs i child e there =
    let few = get-short kids i child there in
    let long = needs-long kids places needs e in
    sym (need-get kids i child Over there) ∙ ap (λ v. get_or v i Over) e ∙ planned-get places needs i Over (omega (arith, few, long))

-- children whose needs are the same, one by one
pub needs-alike : (kids laters : List Tree) → length laters ≡ length kids → ((i : ℕ) (a b : Tree) → get kids i ≡ Some a → get laters i ≡ Some b → need_of rows b ≡ need_of rows a) → needs_of (facts_of rows) laters ≡ needs_of (facts_of rows) kids
needs-alike [] [] l h = refl
needs-alike [] (b ∷ laters) l h = absurd (omega (arith, l))
needs-alike (a ∷ kids) [] l h = absurd (omega (arith, l))
needs-alike (a ∷ kids) (b ∷ laters) l h = ap₂ (λ (x : Need) (xs : List Need). x ∷ xs) (h 0 a b refl refl) (needs-alike kids laters (omega (arith, l)) (λ i c d e f. h (suc i) c d e f))
