-- One transition more at the states of a Modal entity.
use Rattle.std.proofs.Common.{◌≡◌, ℕ, zero, suc, ◌+◌, ◌<◌, ◌≤◌, List, [], ◌∷◌, ◌++◌, length, map, get_or, set, Bool, true, false, ◌&&◌, Option, Some, None, option_to_list, refl, sym, ap, ◌∙◌, arith, if◌then◌else◌}
use Rattle.std.specs.List.{cons_option, enumerate_from}
use Rattle.std.proofs.lemmas.Bool.{eq-eqb, ne_eqb}
use Rattle.std.proofs.lemmas.List.Elements.{filter_map-append}
use Rattle.pt_document.specs.declared.job.State.{State}
use Rattle.pt_net.specs.Net.{NetEntityTree}
use Rattle.pt_inequalities.proofs.Steps.{append-none}
use Rattle.pt_chart.specs.declared.written.Mode.{Mode}
use Rattle.pt_chart.specs.Machine.{TransitionTree, ModeTree}
use Rattle.pt_chart.specs.Views.{mode_view}
use Rattle.pt_machine.specs.Machines.{Leaving, same, leaves, leaving, mode_of, modes_of}
use Rattle.pt_machines.specs.Charted.{with_leaving}

cons-one : {B : Type 0} (o : Option B) → cons_option o [] ≡ option_to_list o
cons-one None = refl
cons-one (Some x) = refl

leaving-more : (early : Bool) (k : ℕ) (xs : List Leaving) (x : Leaving) → leaving early k (xs ++ x ∷ []) ≡ leaving early k xs ++ option_to_list (leaves early k x)
leaving-more early k xs x = filter_map-append (leaves early k) xs (x ∷ []) ∙ ap (λ (ts : List TransitionTree). leaving early k xs ++ ts) (cons-one (leaves early k x))

module _ (e : NetEntityTree) (kids : List NetEntityTree) (xs : List Leaving) (x : Leaving) where
  -- a state that it doesn't leave
  mode-other : (k : ℕ) (s : State) → (x.from ≡ k → ⊥) → mode_of e kids xs (k, s) ≡ mode_of e kids (xs ++ x ∷ []) (k, s)
  mode-other k s other = λ j. record { refinement = (mode_of e kids xs (k, s)).refinement; preemptive = none true j; others = none false j }
    where
      none : (early : Bool) → leaving early k xs ≡ leaving early k (xs ++ x ∷ [])
      none early =
          let nothing : leaves early k x ≡ None = ap (λ (b : Bool). if b && same x.early early then Some x.made else None) (ne_eqb x.from k other) in
          sym (append-none (leaving early k xs)) ∙ ap (λ (o : Option TransitionTree). leaving early k xs ++ option_to_list o) (sym nothing) ∙ sym (leaving-more early k xs x)

  -- the state that it leaves
  mode-here : (k : ℕ) (s : State) → x.from ≡ k → with_leaving x.early x.made (mode_of e kids xs (k, s)) ≡ mode_of e kids (xs ++ x ∷ []) (k, s)
  mode-here k s at = by_kind x.early refl
    where
      is : (early b : Bool) → x.early ≡ b → leaves early k x ≡ (if same b early then Some x.made else None)
      is early b kind = ap (λ (a : Bool). if a && same x.early early then Some x.made else None) (eq-eqb x.from k at) ∙ ap (λ (a : Bool). if same a early then Some x.made else None) kind

      grown : (early : Bool) (o : Option TransitionTree) → leaves early k x ≡ o → leaving early k xs ++ option_to_list o ≡ leaving early k (xs ++ x ∷ [])
      grown early o h = ap (λ (p : Option TransitionTree). leaving early k xs ++ option_to_list p) (sym h) ∙ sym (leaving-more early k xs x)

      by_kind : (b : Bool) → x.early ≡ b → with_leaving b x.made (mode_of e kids xs (k, s)) ≡ mode_of e kids (xs ++ x ∷ []) (k, s)
      by_kind true kind = λ j. record {
        refinement = (mode_of e kids xs (k, s)).refinement;
        preemptive = grown true (Some x.made) (is true true kind) j;
        others = (sym (append-none (leaving false k xs)) ∙ grown false None (is false true kind)) j;
      }
      by_kind false kind = λ j. record {
        refinement = (mode_of e kids xs (k, s)).refinement;
        preemptive = (sym (append-none (leaving true k xs)) ∙ grown true None (is true false kind)) j;
        others = grown false (Some x.made) (is false false kind) j;
      }

  -- states none of which it leaves
  modes-other : (k : ℕ) (states : List State) → ((i : ℕ) → k ≤ i → i < k + length states → x.from ≡ i → ⊥) → map (mode_of e kids xs) (enumerate_from k states) ≡ map (mode_of e kids (xs ++ x ∷ [])) (enumerate_from k states)
  modes-other k [] none = refl
  modes-other k (s ∷ states) none =
      let here = mode-other k s (none k (omega arith) (omega arith)) in
      let later = modes-other (k + 1) states (λ i low high. none i (omega (arith, low)) (omega (arith, high))) in
      λ j. here j ∷ later j

  modes-here : (k : ℕ) (states : List State) (n : ℕ) (d : ModeTree) → n < length states → x.from ≡ k + n → set (map (mode_of e kids xs) (enumerate_from k states)) n (with_leaving x.early x.made (get_or (map (mode_of e kids xs) (enumerate_from k states)) n d)) ≡ map (mode_of e kids (xs ++ x ∷ [])) (enumerate_from k states)
  modes-here k [] n d short at = absurd (omega (arith, short))
  modes-here k (s ∷ states) zero d short at =
      let here = mode-here k s (omega (arith, at)) in
      let later = modes-other (k + 1) states (λ i low high left. omega (arith, low, left, at)) in
      λ j. here j ∷ later j
  modes-here k (s ∷ states) (suc n) d short at =
      let here = mode-other k s (λ left. omega (arith, left, at)) in
      let later = modes-here (k + 1) states n d (omega (arith, short)) (omega (arith, at)) in
      λ j. here j ∷ later j

  counts : (k : ℕ) (states : List State) → length (map (mode_of e kids xs) (enumerate_from k states)) ≡ length states
  counts k [] = refl
  counts k (s ∷ states) = ap (λ n. suc n) (counts (k + 1) states)

  pub put-past : (ms : List ModeTree) → ms ≡ modes_of e kids xs → length ms ≤ x.from → ms ≡ modes_of e kids (xs ++ x ∷ [])
  put-past ms are past =
      let counted : length ms ≡ length e.states = ap (λ (us : List ModeTree). length us) are ∙ counts 0 e.states in
      are ∙ modes-other 0 e.states (λ i low high left. omega (arith, high, left, past, counted))

  pub put-here : (ms new : List ModeTree) (d m : ModeTree) → ms ≡ modes_of e kids xs → x.from < length ms → m ≡ with_leaving x.early x.made (get_or ms x.from d) → new ≡ set ms x.from m → new ≡ modes_of e kids (xs ++ x ∷ [])
  put-here ms new d m are short made is =
      let counted : length ms ≡ length e.states = ap (λ (us : List ModeTree). length us) are ∙ counts 0 e.states in
      is ∙ ap (set ms x.from) made ∙ ap (λ (us : List ModeTree). set us x.from (with_leaving x.early x.made (get_or us x.from d))) are ∙ modes-here 0 e.states x.from d (omega (arith, short, counted)) (omega arith)

pub view-set : (modes : List Mode) (n : ℕ) (m : Mode) → map mode_view (set modes n m) ≡ set (map mode_view modes) n (mode_view m)
view-set [] n m = refl
view-set (u ∷ modes) zero m = refl
view-set (u ∷ modes) (suc n) m = ap (λ (us : List ModeTree). mode_view u ∷ us) (view-set modes n m)

pub view-at : (modes : List Mode) (n : ℕ) (u : Mode) → n < length modes → u ≡ get_or modes n u → mode_view u ≡ get_or (map mode_view modes) n (mode_view u)
view-at [] n u short is = absurd (omega (arith, short))
view-at (v ∷ modes) zero u short is = ap mode_view is
view-at (v ∷ modes) (suc n) u short is = view-at modes n u (omega (arith, short)) is
