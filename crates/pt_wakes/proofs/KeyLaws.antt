-- Keys are the depths of the children that are due, so that a child whose key is the least is first.
use Rattle.std.proofs.Common.{◌≡◌, ℕ, zero, suc, ◌<◌, Bool, true, false, List, [], ◌∷◌, length, get_or, set, replicate, Option, Some, None, IfSome, IfNone, length-set, refl, sym, ap, subst, ◌∙◌, arith, inl, inr}
use Rattle.std.proofs.lemmas.Bool.{false≢true, cases_Bool}
use Rattle.std.proofs.lemmas.List.{length-replicate}
use Rattle.pt_meaning.specs.Tag.{Tag, tag_le, earlier, least, is_due}
use Rattle.pt_wakes.specs.Wakes.{wake_of, IsDueAt}
use Rattle.pt_wakes.specs.Due.{DueSet, IsFirst, NoneDue}
use Rattle.pt_wakes.specs.Queue.{IsFirstKey}
use Rattle.pt_wakes.specs.Keys.{key_of, keys_of, AreKeys}
use Rattle.pt_wakes.proofs.Earlier.{earlier-comm, due-below, tag-self, tag-trans, up_to}
use Rattle.pt_wakes.proofs.NodeLaws.{absorbed}

pub keys-long : (depths : List ℕ) (due : List Bool) → length depths ≡ length due → length (keys_of depths due) ≡ length due
keys-long [] [] e = refl
keys-long [] (b ∷ bs) e = absurd (omega (arith, e))
keys-long (d ∷ ds) [] e = refl
keys-long (d ∷ ds) (b ∷ bs) e = ap suc (keys-long ds bs (omega (arith, e)))

pub key-at : (depths : List ℕ) (due : List Bool) (i : ℕ) → length depths ≡ length due → i < length due → wake_of (keys_of depths due) i ≡ key_of (get_or due i false) (get_or depths i 0)
key-at [] [] i e l = absurd (omega (arith, l))
key-at [] (b ∷ bs) i e l = absurd (omega (arith, e))
key-at (d ∷ ds) [] i e l = absurd (omega (arith, e))
key-at (d ∷ ds) (b ∷ bs) zero e l = refl
key-at (d ∷ ds) (b ∷ bs) (suc i) e l = key-at ds bs i (omega (arith, e)) (omega (arith, l))

pub key-set : (depths : List ℕ) (due : List Bool) (i : ℕ) (b : Bool) → length depths ≡ length due → set (keys_of depths due) i (key_of b (get_or depths i 0)) ≡ keys_of depths (set due i b)
key-set [] due i b e = refl
key-set (d ∷ ds) [] i b e = refl
key-set (d ∷ ds) (c ∷ bs) zero b e = refl
key-set (d ∷ ds) (c ∷ bs) (suc i) b e = ap (λ ks. key_of c d ∷ ks) (key-set ds bs i b (omega (arith, e)))

pub keys-none : (depths : List ℕ) → keys_of depths (replicate (length depths) false) ≡ replicate (length depths) None
keys-none [] = refl
keys-none (d ∷ ds) = ap (λ ks. None ∷ ks) (keys-none ds)

-- a key that is due is that of a child that is
key-due : (tag : Tag) (b : Bool) (depth : ℕ) → is_due tag (key_of b depth) ≡ true → (b ≡ true) × (tag_le (record { time = depth; step = 0 }) tag ≡ true)
key-due tag true depth h = (refl, h)
key-due tag false depth h = absurd (false≢true h)

-- the least is at or before each that is there
least-before : (wakes : List (Option Tag)) (t u : Tag) (i : ℕ) → i < length wakes → least wakes ≡ Some t → wake_of wakes i ≡ Some u → tag_le t u ≡ true
least-before wakes t u i l e f = elim (cases_Bool (tag_le t u)) [
  | inl g ↦ g
  | inr g ↦
      let under : earlier (least wakes) (wake_of wakes i) ≡ least wakes = earlier-comm (least wakes) (wake_of wakes i) ∙ absorbed wakes i l in
      absurd (false≢true (sym (due-below u (least wakes) (wake_of wakes i) under (ap (is_due u) e ∙ g)) ∙ ap (is_due u) f ∙ tag-self u))
]

module _ (depths : List ℕ) (due : List Bool) (keys : List (Option Tag)) (k : AreKeys depths due keys) where
  pub long : length keys ≡ length due
  long = ap length k.keyed ∙ keys-long depths due k.each

  key : (i : ℕ) → i < length due → wake_of keys i ≡ key_of (get_or due i false) (get_or depths i 0)
  key i l = ap (λ ks. wake_of ks i) k.keyed ∙ key-at depths due i k.each l

  pub first-is : (t : Tag) (i : ℕ) → least keys ≡ Some t → IsDueAt t keys i → IsFirst (record { depths = depths; due = due }) i
  first-is t i e d =
      let l : i < length due = omega (arith, d.0, long) in
      let h = key-due t (get_or due i false) (get_or depths i 0) (sym (ap (is_due t) (key i l)) ∙ d.1) in
      record {
        there = l;
        due = h.0;
        least = λ j b f.
            let u : Tag = record { time = get_or depths j 0; step = 0 } in
            let there : wake_of keys j ≡ Some u = key j b ∙ ap (λ x. key_of x (get_or depths j 0)) f in
            (up_to (record { time = get_or depths i 0; step = 0 }) u (tag-trans (record { time = get_or depths i 0; step = 0 }) t u h.1 (least-before keys t u j (omega (arith, b, long)) e there))).time;
      }

  pub none-is : least keys ≡ None → NoneDue (record { depths = depths; due = due })
  none-is e j l = elim (cases_Bool (get_or due j false)) [
    | inl f ↦
        let u : Tag = record { time = get_or depths j 0; step = 0 } in
        let there : wake_of keys j ≡ Some u = key j l ∙ ap (λ x. key_of x (get_or depths j 0)) f in
        absurd (false≢true (sym (due-below u (least keys) (wake_of keys j) (earlier-comm (least keys) (wake_of keys j) ∙ absorbed keys j (omega (arith, l, long))) (ap (is_due u) e)) ∙ ap (is_due u) there ∙ tag-self u))
    | inr f ↦ f
  ]

  -- after a child is made due or not
  pub kept : (i : ℕ) (b : Bool) (after : List (Option Tag)) → after ≡ set keys i (key_of b (get_or depths i 0)) → AreKeys depths (set due i b) after
  kept i b after e = record {
    each = k.each ∙ sym (length-set due i b);
    keyed = e ∙ ap (λ ks. set ks i (key_of b (get_or depths i 0))) k.keyed ∙ key-set depths due i b k.each;
  }

  module _ (s : DueSet) (seen : record { depths = depths; due = due } ≡ s) where
    pub there : (i : ℕ) → i < length s.due → i < length keys
    there i l = omega (arith, l, ap (λ r. length r.due) seen, long)

    nothing : least keys ≡ None → NoneDue s
    nothing e = subst NoneDue seen (none-is e)

    pub firsts : (o : Option ℕ) → IfSome o (IsFirstKey keys) → IfSome o (IsFirst s)
    firsts None d = tt
    firsts (Some i) d = subst (λ r. IsFirst r i) seen (first-is d.key i d.first (d.there, ap (is_due d.key) d.has ∙ tag-self d.key))

    pub none-first : (o : Option ℕ) → IfNone o (least keys ≡ None) → IfNone o (NoneDue s)
    none-first None d = nothing d
    none-first (Some i) d = tt

    pub without : (i : ℕ) → i < length s.due → get_or due i false ≡ false → wake_of keys i ≡ None
    without i l f = key i (omega (arith, l, ap (λ r. length r.due) seen)) ∙ ap (λ b. key_of b (get_or depths i 0)) f

pub made : (ds depths : List ℕ) (due : List Bool) (keys : List (Option Tag)) → ds ≡ depths → due ≡ replicate (length depths) false → keys ≡ replicate (length depths) None → AreKeys ds due keys
made ds depths due keys e f g = record {
  each = ap length e ∙ sym (length-replicate (length depths) false) ∙ sym (ap length f);
  keyed = g ∙ sym (keys-none depths) ∙ ap (λ b. keys_of depths b) (sym f) ∙ ap (λ x. keys_of x due) (sym e);
}
