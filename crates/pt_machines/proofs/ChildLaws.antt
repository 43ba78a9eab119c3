-- What stands in the entities of a net.
use Rattle.std.proofs.Common.{◌≡◌, ℕ, suc, ◌+◌, ◌<◌, ◌≤◌, List, [], ◌∷◌, ◌++◌, length, map, filter, take, drop, get_or, set, replicate, Bool, true, false, cond, ◌||◌, nat_eq, Option, Some, None, option_to_list, filter_map, inl, inr, refl, sym, ap, subst, ◌∙◌, append_assoc, arith, Bor}
use Rattle.std.specs.Prelude.{slice_get}
use Rattle.std.specs.List.{cons_option, list_any}
use Rattle.std.proofs.lemmas.Bool.{cases_eq, eq-eqb, ne_eqb}
use Rattle.std.proofs.lemmas.List.{length-set, length-replicate, get_or-replicate, get_or-set_same, get_or-set_other, drop_more}
use Rattle.pt_net.specs.declared.net.NetEntity.{NetEntity}
use Rattle.pt_net.specs.declared.net.Transparent.{Transparent}
use Rattle.pt_net.specs.Net.{NetEntityTree, TransparentTree, entity_view, transparent_view}
use Rattle.pt_net.specs.Inside.{is_number, is_child, child_if, children_from, children_of}
use Rattle.pt_scopes.proofs.Turns.{view-take, view-all}
use Rattle.pt_inequalities.proofs.Steps.{drop-past, append-none, from-next}
use Rattle.pt_machine.specs.Children.{stands_in, within, is_round, has_transparent, marked}
use Rattle.pt_machine_parts.specs.Views.{kids_view}
use Rattle.pt_machines.proofs.TextLaws.{cons-list}

module _ (all : List NetEntity) (m : ℕ) where
  abbrev found : List ℕ → List NetEntityTree
  found ns = map entity_view (filter_map (λ k. slice_get all k) ns)

  child-here : (i : ℕ) (e : NetEntity) (es : List NetEntity) → ((k : ℕ) → slice_get all (i + k) ≡ slice_get (e ∷ es) k) → slice_get all i ≡ Some e
  child-here i e es at = ap (slice_get all) (let same : i ≡ i + 0 = omega arith in same) ∙ at 0

  one-child : (i : ℕ) (e : NetEntity) (es : List NetEntity) (b : Bool) → slice_get all i ≡ Some e → found (children_from m (suc i) es) ≡ filter (stands_in m) (map entity_view es) → found (child_if b i (children_from m (suc i) es)) ≡ cond b (entity_view e ∷ filter (stands_in m) (map entity_view es)) (filter (stands_in m) (map entity_view es))
  one-child i e es true here later = ap (λ (o : Option NetEntity). map entity_view (cons_option o (filter_map (λ k. slice_get all k) (children_from m (suc i) es)))) here ∙ ap (λ (us : List NetEntityTree). entity_view e ∷ us) later
  one-child i e es false here later = later

  children-from : (i : ℕ) (es : List NetEntity) → ((k : ℕ) → slice_get all (i + k) ≡ slice_get es k) → found (children_from m i es) ≡ filter (stands_in m) (map entity_view es)
  children-from i [] at = refl
  children-from i (e ∷ es) at = one-child i e es (is_child m e) (child-here i e es at) (children-from (suc i) es (λ k. ap (slice_get all) (from-next i k) ∙ at (suc k)))

pub children-are : (es : List NetEntity) (m : ℕ) → map entity_view (filter_map (λ k. slice_get es k) (children_of es m)) ≡ within (map entity_view es) m
children-are es m = children-from es m 0 es (λ k. ap (slice_get es) (let same : 0 + k ≡ k = omega arith in same))

viewed : (kids : List (Bor NetEntity)) → kids_view kids ≡ map entity_view (map (λ (k : Bor NetEntity). k.now) kids)
viewed [] = refl
viewed (k ∷ kids) = ap (λ (es : List NetEntityTree). entity_view k.now ∷ es) (viewed kids)

pub kids-are : (es : List NetEntity) (m : ℕ) (kids : List (Bor NetEntity)) → map (λ (k : Bor NetEntity). k.now) kids ≡ filter_map (λ k. slice_get es k) (children_of es m) → kids_view kids ≡ within (map entity_view es) m
kids-are es m kids is = viewed kids ∙ ap (map entity_view) is ∙ children-are es m

-- ---- the entities of numbers, one more

pub found-more : {A : Type 0} (f : ℕ → Option A) (ns : List ℕ) (i d : ℕ) (out new whole : List A) → i < length ns → out ++ filter_map f (drop i ns) ≡ whole → new ≡ out ++ option_to_list (f (get_or ns i d)) → new ++ filter_map f (drop (i + 1) ns) ≡ whole
found-more {A = A} f ns i d out new whole short h more =
    let next : List A = filter_map f (drop (i + 1) ns) in
    let one : List A = option_to_list (f (get_or ns i d)) in
    let split : filter_map f (drop i ns) ≡ one ++ next = ap (filter_map f) (drop_more ns i d short) ∙ cons-list (f (get_or ns i d)) next in
    ap (λ (xs : List A). xs ++ next) more ∙ append_assoc out one next ∙ ap (λ (xs : List A). out ++ xs) (sym split) ∙ h

pub found-all : {A : Type 0} (f : ℕ → Option A) (ns : List ℕ) (i : ℕ) (out whole : List A) → length ns ≤ i → out ++ filter_map f (drop i ns) ≡ whole → out ≡ whole
found-all f ns i out whole past h = sym (append-none out) ∙ ap (λ (ks : List ℕ). out ++ filter_map f ks) (sym (drop-past ns i past)) ∙ h

-- ---- transparent composites

any-last : {A : Type 0} (test : A → Bool) (xs : List A) (x : A) → list_any test (xs ++ x ∷ []) ≡ (test x || list_any test xs)
any-last test [] x = refl
any-last test (y ∷ ys) x = ap (λ (b : Bool). test y || b) (any-last test ys x) ∙ either (test y) (test x) (list_any test ys)
  where
    either : (a b c : Bool) → (a || (b || c)) ≡ (b || (a || c))
    either true true c = refl
    either true false c = refl
    either false b c = refl

-- those before this place are marked
pub record AreMarked (count : ℕ) (cs : List TransparentTree) (parted : List Bool) : Type 0 where
  pub counted : length parted ≡ count
  pub each : (m : ℕ) → m < count → get_or parted m false ≡ has_transparent cs m

pub marked-none : (count : ℕ) (parted : List Bool) → parted ≡ replicate count false → AreMarked count [] parted
marked-none count parted is = record {
  counted = ap (λ (bs : List Bool). length bs) is ∙ length-replicate count false;
  each = λ m short. ap (λ (bs : List Bool). get_or bs m false) is ∙ get_or-replicate count m false false short;
}

mark-one : (count : ℕ) (cs : List TransparentTree) (c : TransparentTree) (parted : List Bool) → AreMarked count cs parted → (p : Option ℕ) → c.parent ≡ p → AreMarked count (cs ++ c ∷ []) (marked p parted)
mark-one count cs c parted are None is = record {
  counted = are.counted;
  each = λ m short. are.each m short ∙ sym (any-last (is_round m) cs c ∙ ap (λ (o : Option ℕ). is_number m o || has_transparent cs m) is);
}
mark-one count cs c parted are (Some q) is = record {
  counted = length-set parted q true ∙ are.counted;
  each = λ m short. elim (cases_eq m q) [
    | inl same ↦ (let at : get_or (set parted q true) m false ≡ true = ap (λ (k : ℕ). get_or (set parted q true) k false) same ∙ get_or-set_same parted q true false (omega (arith, short, same, are.counted)) in at ∙ sym (told m ∙ ap (λ (b : Bool). b || has_transparent cs m) (eq-eqb q m (sym same))))
    | inr other ↦ get_or-set_other parted q m true false other ∙ are.each m short ∙ sym (told m ∙ ap (λ (b : Bool). b || has_transparent cs m) (ne_eqb q m (λ same. other (sym same))))
  ];
}
  where
    told : (m : ℕ) → has_transparent (cs ++ c ∷ []) m ≡ (nat_eq q m || has_transparent cs m)
    told m = any-last (is_round m) cs c ∙ ap (λ (o : Option ℕ). is_number m o || has_transparent cs m) is

pub mark-more : (count : ℕ) (ts : List Transparent) (i : ℕ) (t : Transparent) (old new : List Bool) → i < length ts → t ≡ get_or ts i t → AreMarked count (map transparent_view (take i ts)) old → new ≡ marked t.parent old → AreMarked count (map transparent_view (take (i + 1) ts)) new
mark-more count ts i t old new short is are step =
    let more : map transparent_view (take (i + 1) ts) ≡ map transparent_view (take i ts) ++ transparent_view t ∷ [] = ap (λ k. map transparent_view (take k ts)) (let e : i + 1 ≡ suc i = omega arith in e) ∙ view-take transparent_view ts i t short is in
    subst (λ (bs : List Bool). AreMarked count (map transparent_view (take (i + 1) ts)) bs) (sym step)
    (subst (λ (cs : List TransparentTree). AreMarked count cs (marked t.parent old)) (sym more) (mark-one count (map transparent_view (take i ts)) (transparent_view t) old are t.parent refl))

pub marked-all : (count : ℕ) (ts : List Transparent) (i : ℕ) (parted : List Bool) → length ts ≤ i → AreMarked count (map transparent_view (take i ts)) parted → AreMarked count (map transparent_view ts) parted
marked-all count ts i parted past are = subst (λ (cs : List TransparentTree). AreMarked count cs parted) (view-all transparent_view ts i past) are
