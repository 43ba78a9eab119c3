-- What is told by marks is what is told by channels.
use Rattle.std.proofs.Common.{◌≡◌, ℕ, zero, suc, ◌+◌, ◌<◌, ◌≤◌, List, [], ◌∷◌, ◌++◌, Bool, false, ◌||◌, length, map, get_or, drop, flat_map, refl, sym, ap, ap₂, subst, ◌∙◌, add-one, arith}
use Rattle.std.specs.List.{enumerate_from}
use Rattle.pt_typing.specs.Least.{Assignment}
use Rattle.pt_net.specs.declared.net.Channel.{Channel}
use Rattle.pt_net.specs.declared.net.NetEntity.{NetEntity}
use Rattle.pt_net.specs.Inside.{is_output}
use Rattle.pt_check.specs.Joined.{ends_of, is_joined}
use Rattle.pt_check.specs.Types.{port_type, told_if, entity_types}
use Rattle.pt_check.specs.Marks.{AreMarks, AreSized}
use Rattle.pt_check.specs.Marked.{marked_types, all_marked}

-- ---- loops

-- the items from one on are this one and those behind it
drop-here : {A : Type 0} (xs : List A) (i : ℕ) (x : A) → i < length xs → x ≡ get_or xs i x → drop i xs ≡ x ∷ drop (suc i) xs
drop-here [] i x short is = absurd (omega (arith, short))
drop-here (y ∷ ys) zero x short is = ap (λ z. z ∷ ys) (sym is)
drop-here (y ∷ ys) (suc i) x short is = drop-here ys i x (omega (arith, short)) is

pub drop-at : {A : Type 0} (xs : List A) (i : ℕ) (x : A) → i < length xs → x ≡ get_or xs i x → drop i xs ≡ x ∷ drop (i + 1) xs
drop-at xs i x short is = drop-here xs i x short is ∙ ap (λ k. x ∷ drop k xs) (sym (add-one i))

pub drop-past : {A : Type 0} (xs : List A) (i : ℕ) → length xs ≤ i → drop i xs ≡ []
drop-past [] zero h = refl
drop-past [] (suc i) h = refl
drop-past (y ∷ ys) zero h = absurd (omega (arith, h))
drop-past (y ∷ ys) (suc i) h = drop-past ys i (omega (arith, h))

-- what the items from number i on give, each by its number
abbrev pub rest_of : {X Y : Type 0} → (ℕ × X → List Y) → List X → ℕ → List Y
rest_of f xs i = flat_map f (enumerate_from i (drop i xs))

-- ---- marks for channels

-- functions that agree at the numbers of a list give the same
flat-same : {X Y : Type 0} (f g : ℕ × X → List Y) (n : ℕ) (xs : List X) → ((i : ℕ) (x : X) → i < length xs → x ≡ get_or xs i x → f (n + i, x) ≡ g (n + i, x)) → flat_map f (enumerate_from n xs) ≡ flat_map g (enumerate_from n xs)
flat-same f g n [] same = refl
flat-same f g n (x ∷ xs) same =
    let here : f (n, x) ≡ g (n, x) = subst (λ k. f (k, x) ≡ g (k, x)) (omega arith) (same 0 x (omega arith) refl) in
    ap₂ (λ ys zs. ys ++ zs) here (flat-same f g (n + 1) xs (λ i y short is. subst (λ k. f (k, y) ≡ g (k, y)) (omega arith) (same (suc i) y (omega (arith, short)) is)))

-- numbered from the first
all-same : {X Y : Type 0} (f g : ℕ × X → List Y) (xs : List X) → ((i : ℕ) (x : X) → i < length xs → x ≡ get_or xs i x → f (i, x) ≡ g (i, x)) → flat_map f (enumerate_from 0 xs) ≡ flat_map g (enumerate_from 0 xs)
all-same f g xs same = flat-same f g 0 xs (λ i x short is. subst (λ k. f (k, x) ≡ g (k, x)) (omega arith) (same i x short is))

-- the row of an entity has a mark for each of its ports
same-lists : (es : List NetEntity) (rows : List (List Bool)) (k : ℕ) (e : NetEntity) → AreSized es rows → k < length es → e ≡ get_or es k e → length (get_or rows k []) ≡ length e.ports.items
same-lists [] rows k e sized short is = absurd (omega (arith, short))
same-lists (x ∷ es) [] k e sized short is = absurd (cc)
same-lists (x ∷ es) (r ∷ rows) zero e sized short is = let one : length r ≡ length x.ports.items = cc in one ∙ ap (λ (v : NetEntity). length v.ports.items) (sym is)
same-lists (x ∷ es) (r ∷ rows) (suc k) e sized short is = let all : map length rows ≡ map (λ (v : NetEntity). length v.ports.items) es = cc in same-lists es rows k e all (omega (arith, short)) is

module _ (channels : List Channel) (typing : Assignment) (es : List NetEntity) (rows : List (List Bool)) (are : AreMarks (ends_of channels) rows) (sized : AreSized es rows) where
  entity-same : (k : ℕ) (e : NetEntity) → k < length es → e ≡ get_or es k e → marked_types typing (k, e) (get_or rows k []) ≡ entity_types channels typing (k, e)
  entity-same k e short is = all-same _ _ e.ports.items (λ i port within at.
      let long = same-lists es rows k e sized short is in
      let mark : get_or (get_or rows k []) i false ≡ is_joined channels k i = are k i (omega (arith, within, long)) in
      ap (λ b. told_if (b || is_output port) (port_type typing k e i port)) mark)

  pub marks-tell : all_marked typing es rows ≡ flat_map (entity_types channels typing) (enumerate_from 0 es)
  marks-tell = all-same _ _ es entity-same
