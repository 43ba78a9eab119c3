-- Listing the channels at each child.
use Rattle.std.proofs.Common.{◌≡◌, ℕ, ◌+◌, ◌<◌, ◌≤◌, inl, inr, List, [], ◌∷◌, ◌++◌, length, get_or, set, take, All, Contains, sym, ap, subst, ◌∙◌, arith}
use Rattle.std.proofs.lemmas.Bool.{cases_eq, cases_lt}
use Rattle.std.proofs.lemmas.List.{length-set, length_push, get_or-set_same, get_or-set_other, get_or_append_left, get_or_push, take_more, take_all, length-take-le}
use Rattle.std.proofs.lemmas.List.Elements.{Contains-get_or, Contains-append_left, Contains-push, Contains-push_cases}
use Rattle.pt_sched.specs.Lists.{child_at, AreAt, AreListed}
use Rattle.pt_sched.specs.declared.edge.SchedEdge.{SchedEdge}
use Rattle.pt_sched.specs.Channels.{IsSchedEdge}
use Rattle.pt_sched.specs.declared.lists.Side.{Side}
use Rattle.pt_sched.specs.declared.lists.Side.TheVariants.{Start, End}

-- no channel is listed yet
pub listed-start : (n : ℕ) (side : Side) (lists : List (List ℕ)) → length lists ≡ n → All (λ list. list ≡ []) lists → AreListed n side [] lists
listed-start n side lists counted empty = record {
  counted = counted;
  lists_at = λ child short. record {
    every = λ k other inside at. absurd (omega arith);
    only = λ k h. absurd (none (get_or lists child []) k (empty child [] (omega (arith, short, counted))) h);
  };
}
  where
    none : (xs : List ℕ) (k : ℕ) → xs ≡ [] → Contains xs k → ⊥
    none xs k e h = omega (arith, h.1, ap length e)

module _ (n : ℕ) (side : Side) (front : List SchedEdge) (channel : SchedEdge) (lists : List (List ℕ)) (h : AreListed n side front lists) where
  abbrev its_child : ℕ
  its_child = child_at side channel

  abbrev longer : List (List ℕ)
  longer = set lists its_child (get_or lists its_child [] ++ length front ∷ [])

  -- what a number in a list of the its_child says
  module _ (short : its_child < n) where
    here : get_or longer its_child [] ≡ get_or lists its_child [] ++ length front ∷ []
    here = get_or-set_same lists its_child (get_or lists its_child [] ++ length front ∷ []) [] (omega (arith, short, h.counted))

    elsewhere : (other : ℕ) → (other ≡ its_child → ⊥) → get_or longer other [] ≡ get_or lists other []
    elsewhere other d = get_or-set_other lists its_child other (get_or lists its_child [] ++ length front ∷ []) [] d

    kept : (other k : ℕ) → Contains (get_or lists other []) k → Contains (get_or longer other []) k
    kept other k c = elim (cases_eq other its_child) [
      | inl e ↦ subst (λ o. Contains (get_or longer o []) k) (sym e) (subst (λ (xs : List ℕ). Contains xs k) (sym here) (Contains-append_left (get_or lists its_child []) (length front ∷ []) k (subst (λ o. Contains (get_or lists o []) k) e c)))
      | inr d ↦ subst (λ (xs : List ℕ). Contains xs k) (sym (elsewhere other d)) c
    ]

    added : (k : ℕ) → k ≡ length front → Contains (get_or longer its_child []) k
    added k e = subst (λ m. Contains (get_or longer its_child []) m) (sym e) (subst (λ (xs : List ℕ). Contains xs (length front)) (sym here) (Contains-push (get_or lists its_child []) (length front)))

    at_front : (k : ℕ) (d : SchedEdge) → k < length front → get_or (front ++ channel ∷ []) k d ≡ get_or front k d
    at_front k d inside = get_or_append_left front (channel ∷ []) d k inside

    at_last : (k : ℕ) (d : SchedEdge) → k ≡ length front → get_or (front ++ channel ∷ []) k d ≡ channel
    at_last k d e = get_or_push front channel d k (sym e)

    only_old : (other : ℕ) → other < n → (k : ℕ) → Contains (get_or lists other []) k → (k < length (front ++ channel ∷ [])) × ((d : SchedEdge) → child_at side (get_or (front ++ channel ∷ []) k d) ≡ other)
    only_old other inside k c =
        let o = (h.lists_at other inside).only k c in
        (omega (arith, o.0, length_push front channel), λ d. ap (child_at side) (at_front k d o.0) ∙ o.1 d)

    only_here : (other : ℕ) → other ≡ its_child → (k : ℕ) → Contains (get_or lists its_child [] ++ length front ∷ []) k → (k < length (front ++ channel ∷ [])) × ((d : SchedEdge) → child_at side (get_or (front ++ channel ∷ []) k d) ≡ other)
    only_here other e k c = elim (Contains-push_cases (get_or lists its_child []) (length front) k c) [
      | inl old ↦ subst (λ o. (k < length (front ++ channel ∷ [])) × ((d : SchedEdge) → child_at side (get_or (front ++ channel ∷ []) k d) ≡ o)) (sym e) (only_old its_child short k old)
      | inr last ↦ (omega (arith, last, length_push front channel), λ d. ap (child_at side) (at_last k d (sym last)) ∙ sym e)
    ]

    pub listed-more : AreListed n side (front ++ channel ∷ []) longer
    listed-more = record {
      counted = length-set lists its_child (get_or lists its_child [] ++ length front ∷ []) ∙ h.counted;
      lists_at = λ other inside. record {
        every = λ k d within at. elim (cases_lt k (length front)) [
          | inl old ↦ kept other k ((h.lists_at other inside).every k d old (ap (child_at side) (sym (at_front k d old)) ∙ at))
          | inr new ↦
              let last : k ≡ length front = omega (arith, within, new, length_push front channel) in
              let same : its_child ≡ other = ap (child_at side) (sym (at_last k d last)) ∙ at in
              subst (λ o. Contains (get_or longer o []) k) same (added k last)
        ];
        only = λ k c. elim (cases_eq other its_child) [
          | inl e ↦ only_here other e k (subst (λ (xs : List ℕ). Contains xs k) (ap (λ o. get_or longer o []) e ∙ here) c)
          | inr d ↦ only_old other inside k (subst (λ (xs : List ℕ). Contains xs k) (elsewhere other d) c)
        ];
      };
    }

-- what stands for a channel behind the last
abbrev pub no_channel : SchedEdge
no_channel = record { edge = record { from = 0; produced = 0; to = 0; consumed = 0 }; initial = 0 }

pub child-inside : (n : ℕ) (side : Side) (channel : SchedEdge) → IsSchedEdge n channel → child_at side channel < n
child-inside n Start channel h = h.between.starts
child-inside n End channel h = h.between.ends

-- one more channel of a list of channels
pub listed-step : (n : ℕ) (side : Side) (channels : List SchedEdge) (number : ℕ) (lists : List (List ℕ)) (child : ℕ) (list : List ℕ) → number < length channels → All (IsSchedEdge n) channels → child ≡ child_at side (get_or channels number no_channel) → list ≡ get_or lists child [] ++ number ∷ [] → AreListed n side (take number channels) lists → AreListed n side (take (number + 1) channels) (set lists child list)
listed-step n side channels number lists child list inside all at el h =
    let channel : SchedEdge = get_or channels number no_channel in
    let front : List SchedEdge = take number channels in
    let counted : length front ≡ number = length-take-le number channels (omega arith) in
    let more = listed-more n side front channel lists h (child-inside n side channel (all number no_channel inside)) in
    let here : get_or lists (child_at side channel) [] ++ length front ∷ [] ≡ list = (λ i. get_or lists (sym at i) [] ++ counted i ∷ []) ∙ sym el in
    subst (λ cs. AreListed n side cs (set lists child list)) (sym (take_more channels number no_channel inside)) (subst (λ k. AreListed n side (front ++ channel ∷ []) (set lists k list)) (sym at) (subst (λ (xs : List ℕ). AreListed n side (front ++ channel ∷ []) (set lists (child_at side channel) xs)) here more))

pub listed-all : (n : ℕ) (side : Side) (channels : List SchedEdge) (number : ℕ) (lists : List (List ℕ)) → length channels ≤ number → AreListed n side (take number channels) lists → AreListed n side channels lists
listed-all n side channels number lists over h = subst (λ cs. AreListed n side cs lists) (take_all number channels over) h

-- all numbers of a list are those of channels
pub listed-inside : (side : Side) (channels : List SchedEdge) (child : ℕ) (numbers : List ℕ) → AreAt side channels child numbers → All (λ number. number < length channels) numbers
listed-inside side channels child numbers h k d short = (h.only (get_or numbers k d) (Contains-get_or numbers k d short)).0
