-- Places that are empty, with room for what is needed.
use Rattle.std.proofs.Common.{◌≡◌, ◌⊎◌, inl, inr, ℕ, suc, ◌+◌, ◌<◌, ◌≤◌, List, [], ◌∷◌, ◌++◌, true, false, nat_eq, length, replicate, get_or, refl, sym, ap, ap₂, subst, ◌∙◌, arith}
use Rattle.std.proofs.lemmas.List.{replicate_more}
use Rattle.pt_meaning.specs.Streams.{Streams, at}
use Rattle.pt_meaning.specs.Machine.{Need, Over, Counts, Any}
use Rattle.pt_meaning.specs.Process.{emptied}
use Rattle.pt_meaning.specs.Jam.{is_empty}
use Rattle.pt_pn_laws.specs.Lawful.{HasPlaces}
use Rattle.pt_pn_laws.proofs.GatherLaws.{in-order-empty}
use Rattle.pt_pn_laws.proofs.ListLaws.{either-nat, nat-apart}
use Rattle.pt_reaction.specs.Spared.{Spared}
use Rattle.pt_reaction.specs.Channels.{lists_of}
use Rattle.pt_value.specs.declared.token.Token.{Token}
use Rattle.pt_process.specs.declared.need.KeptNeed.{KeptNeed}
use Rattle.pt_process.specs.declared.need.KeptNeed.TheVariants as kept
use Rattle.pt_process.specs.Process.{GathersBy, Gathers, HasRooms, IsKept, need_kept, got_in, lined_in}
use Rattle.pt_puts.specs.Lines.{room_at}
use Rattle.pt_puts.proofs.LineLaws.{lines-long, are-empty, emptied-is}

pub all-empty : {T : Type 0} (X : Streams T) → ((q : ℕ) → q < length X → at X q ≡ []) → is_empty X ≡ true
all-empty [] h = refl
all-empty ([] ∷ X) h = all-empty X (λ q l. h (suc q) (omega (arith, l)))
all-empty ((x ∷ xs) ∷ X) h = absurd (no x xs (h 0 (omega arith)))
  where
    no : {T : Type 0} (x : T) (xs : List T) → (x ∷ xs) ≡ [] → ⊥
    no x xs e = cc

module _ (ns : List ℕ) (lines : List (Spared Token)) (r : HasRooms ns lines) where
  lists-empty : (q : ℕ) → q < length (lists_of lines) → at (lists_of lines) q ≡ []
  lists-empty q l = let n = lines-long lines in (r q (omega (arith, l, n))).0

  pub rooms-empty : lists_of lines ≡ replicate (length lines) []
  rooms-empty = are-empty (lists_of lines) lists-empty ∙ ap (λ n. replicate n []) (lines-long lines)

  pub rooms-emptied : (X : Streams Token) → length X ≡ length lines → lists_of lines ≡ emptied X
  rooms-emptied X e = rooms-empty ∙ ap (λ n. replicate n []) (sym e) ∙ sym (emptied-is X)

pub rooms-by : (ns : List ℕ) (lines : List (Spared Token)) → length ns ≡ length lines → HasRooms ns lines → GathersBy ns 0 lines
rooms-by ns lines h r = record {
  counted = h;
  order = in-order-empty ns (lists_of lines) (all-empty (lists_of lines) (lists-empty ns lines r));
  full = λ q l. absurd (omega (arith, l));
  room = λ q l. let a = (r q l).1 in omega (arith, a);
}

-- nothing is gathered yet
module _ (row : Streams Token) (lines : List (Spared Token)) (e : row ≡ replicate (length lines) []) where
  pub rooms-gather : (need : KeptNeed) → HasPlaces (length lines) (need_kept need) → HasRooms (lined_in need) lines → Gathers need false 0 row lines
  rooms-gather kept.Over h r = tt
  rooms-gather (kept.Counts ns) h r = λ _. rooms-by ns lines h r
  rooms-gather kept.One h r = (ap (λ v. length v) (e ∙ ap (λ n. replicate n []) (sym h)), λ z. absurd (cc))

  pub rooms-got : (need : KeptNeed) → HasPlaces (length lines) (need_kept need) → HasRooms (lined_in need) lines → got_in need false 0 row lines ≡ replicate (length lines) []
  rooms-got kept.Over h r = rooms-empty [] lines r
  rooms-got (kept.Counts ns) h r = rooms-empty ns lines r
  rooms-got kept.One h r = ap (λ n. replicate n []) h

  pub rooms-renewed : (need : KeptNeed) (X : Streams Token) → length X ≡ length lines → HasPlaces (length lines) (need_kept need) → HasRooms (lined_in need) lines → got_in need false 0 row lines ≡ emptied X
  rooms-renewed need X n h r = rooms-got need h r ∙ ap (λ n. replicate n []) (sym n) ∙ sym (emptied-is X)

-- the same of what is gathered in lines, whatever lies in the row
pub again-gather : (need : KeptNeed) (row : Streams Token) (lines : List (Spared Token)) → (need ≡ kept.Over) ⊎ ((ns : List ℕ) × (need ≡ kept.Counts ns)) → HasPlaces (length lines) (need_kept need) → HasRooms (lined_in need) lines → Gathers need false 0 row lines
again-gather need row lines (inl n) h r = subst (λ m. Gathers m false 0 row lines) (sym n) tt
again-gather need row lines (inr n) h r = subst (λ m. Gathers m false 0 row lines) (sym n.1) (λ _. rooms-by n.0 lines (subst (λ m. HasPlaces (length lines) (need_kept m)) n.1 h) (subst (λ m. HasRooms (lined_in m) lines) n.1 r))

pub again-got : (need : KeptNeed) (row : Streams Token) (lines : List (Spared Token)) → (need ≡ kept.Over) ⊎ ((ns : List ℕ) × (need ≡ kept.Counts ns)) → HasRooms (lined_in need) lines → (X : Streams Token) → length X ≡ length lines → got_in need false 0 row lines ≡ emptied X
again-got need row lines (inl n) r X e = ap (λ m. got_in m false 0 row lines) n ∙ rooms-emptied (lined_in need) lines r X e
again-got need row lines (inr n) r X e = ap (λ m. got_in m false 0 row lines) n.1 ∙ rooms-emptied (lined_in need) lines r X e

-- nothing is gathered in lines
pub not-lined : (need : KeptNeed) → (need ≡ kept.Over) ⊎ (need ≡ kept.One) → lined_in need ≡ []
not-lined need (inl n) = ap lined_in n
not-lined need (inr n) = ap lined_in n

-- one place more
pub rooms-more : (ns : List ℕ) (before after : List (Spared Token)) (k count : ℕ) → length after ≡ length before → ((q : ℕ) → q < k → (at (lists_of before) q ≡ []) × (get_or ns q 0 ≤ room_at before q)) → count ≡ get_or ns k 0 →
    at (lists_of after) k ≡ [] → count ≤ room_at after k → ((q : ℕ) → nat_eq k q ≡ false → (at (lists_of after) q ≡ at (lists_of before) q) × (room_at after q ≡ room_at before q)) →
    (q : ℕ) → q < k + 1 → (at (lists_of after) q ≡ []) × (get_or ns q 0 ≤ room_at after q)
rooms-more ns before after k count n h e a b o q w = by (split q k w)
  where
    split : (q k : ℕ) → q < k + 1 → ((nat_eq k q ≡ false) × (q < k)) ⊎ (k ≡ q)
    split q k w = two (either-nat k q)
      where
        two : (k ≡ q) ⊎ (nat_eq k q ≡ false) → ((nat_eq k q ≡ false) × (q < k)) ⊎ (k ≡ q)
        two (inl z) = inr z
        two (inr z) = inl (z, let d = nat-apart k q z in grind arith)

    by : ((nat_eq k q ≡ false) × (q < k)) ⊎ (k ≡ q) → (at (lists_of after) q ≡ []) × (get_or ns q 0 ≤ room_at after q)
    by (inl (z, l)) = let f = o q z in let g = h q l in (f.0 ∙ g.0, let x = f.1 in let y = g.1 in omega (arith, x, y))
    by (inr z) = subst (λ j. (at (lists_of after) j ≡ []) × (get_or ns j 0 ≤ room_at after j)) z (a, let c = e in omega (arith, b, c))

pub one-empty-more : (X : Streams Token) (xs : List Token) (k : ℕ) → X ≡ replicate k [] → xs ≡ [] → X ++ (xs ∷ []) ≡ replicate (k + 1) []
one-empty-more X xs k e f = ap₂ (λ Y ys. Y ++ (ys ∷ [])) e f ∙ replicate_more k []

-- one list more that is empty
pub empties-more : (before after : Streams Token) (k : ℕ) → ((q : ℕ) → q < k → at before q ≡ []) → at after k ≡ [] → ((q : ℕ) → nat_eq k q ≡ false → at after q ≡ at before q) → (q : ℕ) → q < k + 1 → at after q ≡ []
empties-more before after k h a o q w = by (either-nat k q)
  where
    by : (k ≡ q) ⊎ (nat_eq k q ≡ false) → at after q ≡ []
    by (inl z) = subst (λ j. at after j ≡ []) z a
    by (inr z) = let d = nat-apart k q z in o q z ∙ h q (grind arith)

pub places-kept : (places : ℕ) (need : Need) → HasPlaces places need → IsKept need
places-kept places Over h = tt
places-kept places (Counts ns) h = tt
places-kept places Any h = absurd h
