-- Loops over the children of a node, and over lists.
use Rattle.std.proofs.Common.{◌≡◌, ℕ, zero, suc, ◌+◌, ◌<◌, ◌≤◌, max, List, [], ◌∷◌, ◌++◌, map, length, drop, get_or, set, refl, sym, ap, subst, ◌∙◌, arith}
use Rattle.std.specs.Vec.{vec_len}
use Rattle.std.proofs.lemmas.List.{length-set, drop-set-lt}
use Rattle.pt_trace.specs.Report.{Trace}
use Rattle.pt_node.specs.declared.node.Node.{Node, roll-Node, out-Node}
use Rattle.pt_node.specs.declared.node.Node.TheOpen as opens
use Rattle.pt_node.specs.declared.node.Node.TheViews.{out-roll-Node}
use Rattle.pt_past.specs.Recorded.{RecordedPort}
use Rattle.pt_node.specs.Shown.{Shown, shown, shown_node, all_of}
use Rattle.pt_node.specs.View.{depth, depths, outline_of, outlines_of}
use Rattle.pt_node.proofs.Link.{shown-node}
use Rattle.pt_trees.specs.Ports.{outputs_in, outputs_below, AreBelow, told, filled}
use Rattle.pt_reporting.proofs.Gathering.{filled-append, filled-length, below-left, below-right}

drop-more : {A : Type 0} (xs : List A) (k : ℕ) (d : A) → k < length xs → d ≡ get_or xs k d → drop k xs ≡ d ∷ drop (k + 1) xs
drop-more [] k d l e = absurd (omega (arith, l))
drop-more (x ∷ xs) zero d l e = ap (λ v. v ∷ xs) (sym e)
drop-more (x ∷ xs) (suc k) d l e = let s : suc k + 1 ≡ suc (k + 1) = omega arith in drop-more xs k d (omega (arith, l)) e ∙ ap (λ n. d ∷ drop n (x ∷ xs)) (sym s)

drop-all : {A : Type 0} (xs : List A) (k : ℕ) → length xs ≤ k → drop k xs ≡ []
drop-all [] zero l = refl
drop-all [] (suc k) l = refl
drop-all (x ∷ xs) zero l = absurd (omega (arith, l))
drop-all (x ∷ xs) (suc k) l = drop-all xs k (omega (arith, l))

-- the children from number k on
abbrev pub from_child : ℕ → List Node → List Shown
from_child k items = map shown (drop k items)

pub child-next : (items : List Node) (k : ℕ) (d : Node) → k < length items → d ≡ get_or items k d → from_child k items ≡ shown_node d ∷ from_child (k + 1) items
child-next items k d l e = ap (λ v. map shown v) (drop-more items k d l e) ∙ ap (λ v. v ∷ from_child (k + 1) items) (shown-node d)

pub child-last : (items : List Node) (k : ℕ) → length items ≤ k → from_child k items ≡ []
child-last items k l = ap (λ v. map shown v) (drop-all items k l)

-- a child is less deep than its node
pub kid_depth : (items : List Node) (k : ℕ) (d : Node) → k < length items → d ≡ get_or items k d → depth (outline_of (shown_node d)) ≤ depths (outlines_of (all_of (map shown items)))
kid_depth [] k d l e = absurd (omega (arith, l))
kid_depth (x ∷ xs) zero d l e = let same : shown x ≡ shown_node d = ap (λ v. shown v) (sym e) ∙ shown-node d in subst (λ s. depth (outline_of s) ≤ max (depth (outline_of (shown x))) (depths (outlines_of (all_of (map shown xs))))) same (omega arith)
kid_depth (x ∷ xs) (suc k) d l e = let h = kid_depth xs k d (omega (arith, l)) e in omega (arith, h)

-- as many as before, of which those from number k on are as they were
pub record StayFrom (k : ℕ) (old now : List Node) : Type 0 where
  pub count : length now ≡ length old
  pub rest : drop k now ≡ drop k old

pub all-stay : (items : List Node) → StayFrom 0 items items
all-stay items = record { count = refl; rest = refl }

found-first : {A : Type 0} (xs ys : List A) (k : ℕ) (d : A) → drop k xs ≡ d ∷ ys → d ≡ get_or xs k d
found-first [] ys zero d e = absurd (cc)
found-first [] ys (suc k) d e = absurd (cc)
found-first (x ∷ xs) ys zero d e = cc
found-first (x ∷ xs) ys (suc k) d e = found-first xs ys k d e

-- the next of them is as it was
pub stay-next : (k : ℕ) (old now : List Node) (d : Node) → StayFrom k old now → k < length old → d ≡ get_or now k d → d ≡ get_or old k d
stay-next k old now d s l e = found-first old (drop (k + 1) now) k d (sym s.rest ∙ drop-more now k d (omega (arith, l, s.count)) e)

drop-next : {A : Type 0} (xs : List A) (k : ℕ) → drop (suc k) xs ≡ drop 1 (drop k xs)
drop-next [] zero = refl
drop-next [] (suc k) = refl
drop-next (x ∷ xs) zero = refl
drop-next (x ∷ xs) (suc k) = drop-next xs k

-- and once it is another, those behind it are as they were
pub stay-more : (k : ℕ) (old now : List Node) (d : Node) → StayFrom k old now → StayFrom (k + 1) old (set now k d)
stay-more k old now d s = record {
  count = length-set now k d ∙ s.count;
  rest =
      let one : suc k ≡ k + 1 = omega arith in
      let past : drop (suc k) now ≡ drop (suc k) old = drop-next now k ∙ ap (λ v. drop 1 v) s.rest ∙ sym (drop-next old k) in
      drop-set-lt (k + 1) now k d (omega arith) ∙ subst (λ n. drop n now ≡ drop n old) one past;
}

-- of a node that is made of its fields
pub stay-made : (k : ℕ) (old : List Node) (r : opens.Node-F Node) → StayFrom k old r.children.items → StayFrom k old (out-Node (roll-Node r)).children.items
stay-made k old r s = subst (λ (x : opens.Node-F Node). StayFrom k old x.children.items) (sym (out-roll-Node r)) s

pub count-made : (r : opens.Node-F Node) → vec_len (out-Node (roll-Node r)).children ≡ length r.children.items
count-made r = ap (λ (x : opens.Node-F Node). vec_len x.children) (out-roll-Node r) ∙ r.children.ok.0

-- what is left to be put at its place
pub record Filling (rs : List RecordedPort) (ts : List Trace) (all : List Trace) : Type 0 where
  pub below : AreBelow (length ts) rs
  pub rest : filled rs ts ≡ all

abbrev pub FillingKids : List Node → ℕ → List Trace → List Trace → Type 0
FillingKids items k ts all = Filling (outputs_below (all_of (from_child k items))) ts all

kids-split : (items : List Node) (k : ℕ) (d : Node) → k < length items → d ≡ get_or items k d → outputs_below (all_of (from_child k items)) ≡ outputs_in (shown_node d) ++ outputs_below (all_of (from_child (k + 1) items))
kids-split items k d l e = ap (λ v. outputs_below (all_of v)) (child-next items k d l e)

pub filling_kid : (items : List Node) (k : ℕ) (d : Node) (ts all : List Trace) → FillingKids items k ts all → k < length items → d ≡ get_or items k d → AreBelow (length ts) (outputs_in (shown_node d))
filling_kid items k d ts all f l e = below-left (length ts) (outputs_in (shown_node d)) (outputs_below (all_of (from_child (k + 1) items))) (subst (λ rs. AreBelow (length ts) rs) (kids-split items k d l e) f.below)

filling-more : (rs ss : List RecordedPort) (ts new all : List Trace) → Filling (rs ++ ss) ts all → new ≡ filled rs ts → Filling ss new all
filling-more rs ss ts new all f e =
    let long : length new ≡ length ts = ap (λ v. length v) e ∙ filled-length rs ts in
    record {
      below = subst (λ n. AreBelow n ss) (sym long) (below-right (length ts) rs ss f.below);
      rest = ap (λ v. filled ss v) e ∙ sym (filled-append rs ss ts) ∙ f.rest;
    }

pub filling_next : (items : List Node) (k : ℕ) (d : Node) (ts new all : List Trace) → FillingKids items k ts all → k < length items → d ≡ get_or items k d → new ≡ filled (outputs_in (shown_node d)) ts → FillingKids items (k + 1) new all
filling_next items k d ts new all f l e g = filling-more (outputs_in (shown_node d)) (outputs_below (all_of (from_child (k + 1) items))) ts new all (subst (λ rs. Filling rs ts all) (kids-split items k d l e) f) g

pub filling_last : (items : List Node) (k : ℕ) (ts all : List Trace) → FillingKids items k ts all → length items ≤ k → ts ≡ all
filling_last items k ts all f l = ap (λ v. filled (outputs_below (all_of v)) ts) (sym (child-last items k l)) ∙ f.rest

pub filling_first : (rs ss : List RecordedPort) (ts new : List Trace) → AreBelow (length ts) (rs ++ ss) → new ≡ filled rs ts → Filling ss new (filled (rs ++ ss) ts)
filling_first rs ss ts new b e = filling-more rs ss ts new (filled (rs ++ ss) ts) (record { below = b; rest = refl }) e

pub filling_port : (ports : List RecordedPort) (k : ℕ) (r : RecordedPort) (ts all : List Trace) → Filling (drop k ports) ts all → k < length ports → r ≡ get_or ports k r → r.number < length ts
filling_port ports k r ts all f l e = (subst (λ rs. AreBelow (length ts) rs) (drop-more ports k r l e) f.below).0

pub filling_own : (ports : List RecordedPort) (k : ℕ) (r : RecordedPort) (t : Trace) (ts all : List Trace) → Filling (drop k ports) ts all → k < length ports → r ≡ get_or ports k r → t ≡ told r → Filling (drop (k + 1) ports) (set ts r.number t) all
filling_own ports k r t ts all f l e g = filling-more (r ∷ []) (drop (k + 1) ports) ts (set ts r.number t) all (subst (λ rs. Filling rs ts all) (drop-more ports k r l e) f) (ap (λ v. set ts r.number v) g)

pub filled_last : (ports : List RecordedPort) (k : ℕ) (ts all : List Trace) → Filling (drop k ports) ts all → length ports ≤ k → ts ≡ all
filled_last ports k ts all f l = ap (λ rs. filled rs ts) (sym (drop-all ports k l)) ∙ f.rest
