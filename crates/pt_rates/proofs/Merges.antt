-- Making two parts one.
use Rattle.std.proofs.Common.{◌≡◌, ◌≢◌, ℕ, zero, suc, ◌*◌, ◌<◌, List, [], ◌∷◌, ◌++◌, length, get_or, sum, Result, Ok, Err, OnOk, Contains, sym, ap, subst, ◌∙◌, arith}
use Rattle.std.proofs.lemmas.List.{get_or_append_left, get_or_past}
use Rattle.pt_rates.specs.Parts.{label_of, repetitions_of, members_of, AreHeld, AreMoved, AreMerged}
use Rattle.pt_rates.specs.declared.parts.Parts.{Parts}

pub on_ok : {T E : Type 0} (r : Result T E) (P Q : Type 0) → (P → Q) → OnOk r P → OnOk r Q
on_ok (Ok x) P Q f h = f h
on_ok (Err e) P Q f h = h

once : (t a b : ℕ) → t ≡ 1 → a ≡ b → a ≡ t * b
once t a b e f = f ∙ (let one : b ≡ 1 * b = omega arith in one) ∙ ap (λ k. k * b) (sym e)

-- the first part stays where it is
pub merged-stays : (first first_times second second_times : ℕ) (old new : Parts) → first ≢ second → first_times ≡ 1 → AreMoved second first second_times old new → AreMerged first first_times second second_times old new
merged-stays first first_times second second_times old new apart once_only m = record {
  label = first;
  firsts = λ node short is.
      let k = m.kept node short (λ e. apart (sym is ∙ e)) in
      (k.0 ∙ is, once first_times (repetitions_of new node) (repetitions_of old node) once_only k.1);
  seconds = m.moved;
  others = λ node short no_first no_second.
      let k = m.kept node short no_second in
      (k.0, (λ e. no_first (sym k.0 ∙ e)), k.1);
}

-- no node has the number of a part behind the last
pub no_label : (parts : Parts) (node label : ℕ) → AreHeld parts → node < length parts.labels.items → length parts.members.items ≡ label → label_of parts node ≢ label
no_label parts node label held short behind e =
    let none : Contains [] node = subst (λ (xs : List ℕ). Contains xs node) (ap (members_of parts) e ∙ get_or_past parts.members.items label [] (omega (arith, behind))) (held.listed node short) in
    omega (arith, none.1)

-- both parts are put into a new one
pub merged-fresh : (first first_times second second_times label : ℕ) (old one new : Parts) → first ≢ second → label ≢ second → ((node : ℕ) → node < length old.labels.items → label_of old node ≢ label) → length one.labels.items ≡ length old.labels.items → AreMoved first label first_times old one → AreMoved second label second_times one new → AreMerged first first_times second second_times old new
merged-fresh first first_times second second_times label old one new apart other fresh counted m k = record {
  label = label;
  firsts = λ node short is.
      let a = m.moved node short is in
      let b = k.kept node (omega (arith, short, counted)) (λ e. other (sym a.0 ∙ e)) in
      (b.0 ∙ a.0, b.1 ∙ a.1);
  seconds = λ node short is.
      let a = m.kept node short (λ e. apart (sym e ∙ is)) in
      let b = k.moved node (omega (arith, short, counted)) (a.0 ∙ is) in
      (b.0, b.1 ∙ ap (λ x. second_times * x) a.1);
  others = λ node short no_first no_second.
      let a = m.kept node short no_first in
      let b = k.kept node (omega (arith, short, counted)) (λ e. no_second (sym a.0 ∙ e)) in
      (b.0 ∙ a.0, (λ e. fresh node short (sym a.0 ∙ sym b.0 ∙ e)), b.1 ∙ a.1);
}

listed_inside : (ms : List (List ℕ)) (k node : ℕ) → Contains (get_or ms k []) node → k < length ms
listed_inside [] k node h = absurd (omega (arith, h.1))
listed_inside (m ∷ ms) zero node h = omega arith
listed_inside (m ∷ ms) (suc k) node h = let r = listed_inside ms k node h in omega (arith, r)

-- the number of a node's part is that of a list
pub label_inside : (parts : Parts) (node : ℕ) → AreHeld parts → node < length parts.labels.items → label_of parts node < length parts.members.items
label_inside parts node held short = listed_inside parts.members.items (label_of parts node) node (held.listed node short)

-- one more part without nodes
pub held-push : (old new : Parts) → AreHeld old → new.labels.items ≡ old.labels.items → new.repetitions.items ≡ old.repetitions.items → new.sum ≡ old.sum → new.members.items ≡ old.members.items ++ [] ∷ [] → AreHeld new
held-push old new held labels repetitions summed members = record {
  counted = ap length repetitions ∙ held.counted ∙ sym (ap length labels);
  listed = λ node short.
      let h : Contains (members_of old (label_of old node)) node = held.listed node (omega (arith, short, ap length labels)) in
      let same : label_of new node ≡ label_of old node = ap (λ xs. get_or xs node 0) labels in
      let within : label_of old node < length old.members.items = label_inside old node held (omega (arith, short, ap length labels)) in
      subst (λ (xs : List ℕ). Contains xs node) (sym (ap (members_of new) same ∙ ap (λ (ms : List (List ℕ)). get_or ms (label_of old node) []) members ∙ get_or_append_left old.members.items ([] ∷ []) [] (label_of old node) within)) h;
  summed = summed ∙ held.summed ∙ ap sum (sym repetitions);
}

-- it makes no difference which part comes first
pub merged-swapped : (first first_times second second_times : ℕ) (old new : Parts) → AreMerged second second_times first first_times old new → AreMerged first first_times second second_times old new
merged-swapped first first_times second second_times old new m = record {
  label = m.label;
  firsts = m.seconds;
  seconds = m.firsts;
  others = λ node short no_first no_second. m.others node short no_second no_first;
}
