-- What comes to places that are delays or not, and early answers from what is known beside the delays.
use Rattle.std.proofs.Common.{◌≡◌, ℕ, zero, suc, ◌<◌, List, [], ◌∷◌, Bool, true, false, ◌&&◌, ◌||◌, length, get_or, map, Option, Some, None, refl, sym, ap, ◌∙◌, arith}
use Rattle.std.proofs.lemmas.List.{length-map}
use Rattle.pt_meaning.specs.Tag.{Tag}
use Rattle.pt_meaning.specs.Streams.{Streams, at, any_present}
use Rattle.pt_meaning.specs.Machine.{Outcome, Done, Stuck, Stepping, Facts, Partial, Unknown, Known, partial_at}
use Rattle.pt_meaning.specs.Valuation.{Activity, Earliness, known, is_known, reaction, on_known, if_active, reacted}
use Rattle.pt_meaning.specs.De.{de_early, if_whole}
use Rattle.pt_meaning.specs.Laws.{PartialBelow, KnownBelow, KeepsEarly}
use Rattle.pt_laws.proofs.TickLaws.{PartialBelow-refl, PartialBelow-trans}
use Rattle.pt_de_laws.specs.State.{comes, agree, is_some_token, beside_delays}

clash : {A : Type 0} → true ≡ false → A
clash e = absurd (cc)

drop-false : (a c : Bool) → ((a && false) || c) ≡ true → c ≡ true
drop-false true c e = e
drop-false false c e = e

module _ {T : Type 0} where
  -- where nothing comes beside the delays
  pub no-prompt : (fs : List Bool) (X : Streams T) → comes false fs X ≡ false → (q : ℕ) → q < length fs → get_or fs q false ≡ false → at X q ≡ []
  no-prompt [] X e q h g = absurd (omega (arith, h))
  no-prompt (f ∷ fs) [] e q h g = refl
  no-prompt (true ∷ fs) (xs ∷ X) e zero h g = clash g
  no-prompt (true ∷ fs) (xs ∷ X) e (suc q) h g = no-prompt fs X e q (omega (arith, h)) g
  no-prompt (false ∷ fs) ([] ∷ X) e zero h g = refl
  no-prompt (false ∷ fs) ([] ∷ X) e (suc q) h g = no-prompt fs X e q (omega (arith, h)) g
  no-prompt (false ∷ fs) ((x ∷ xs) ∷ X) e q h g = clash e

  pub all-absent : (fs : List Bool) (X : Streams T) → length fs ≡ length X → comes false fs X ≡ false → comes true fs X ≡ false → any_present X ≡ false
  all-absent [] [] l e g = refl
  all-absent [] (xs ∷ X) l e g = absurd (omega (arith, l))
  all-absent (f ∷ fs) [] l e g = refl
  all-absent (true ∷ fs) ([] ∷ X) l e g = all-absent fs X (omega (arith, l)) e g
  all-absent (true ∷ fs) ((x ∷ xs) ∷ X) l e g = clash g
  all-absent (false ∷ fs) ([] ∷ X) l e g = all-absent fs X (omega (arith, l)) e g
  all-absent (false ∷ fs) ((x ∷ xs) ∷ X) l e g = clash e

  pub none-present : (X : Streams T) → ((q : ℕ) → q < length X → at X q ≡ []) → any_present X ≡ false
  none-present [] h = refl
  none-present ([] ∷ X) h = none-present X (λ q l. h (suc q) (omega (arith, l)))
  none-present ((x ∷ xs) ∷ X) h = let e : x ∷ xs ≡ [] = h 0 (omega arith) in absurd (cc)

  -- where a token comes
  pub some-present : (b : Bool) (fs : List Bool) (X : Streams T) → comes b fs X ≡ true → any_present X ≡ true
  some-present b [] X e = clash (sym e)
  some-present b (f ∷ fs) [] e = clash (sym e)
  some-present b (f ∷ fs) ([] ∷ X) e = some-present b fs X (drop-false (agree f b) (comes b fs X) e)
  some-present b (f ∷ fs) ((x ∷ xs) ∷ X) e = refl

  pub some-delay : (fs : List Bool) (X : Streams T) → comes true fs X ≡ true → (q : ℕ) × (get_or fs q false ≡ true)
  some-delay [] X e = clash (sym e)
  some-delay (f ∷ fs) [] e = clash (sym e)
  some-delay (true ∷ fs) (xs ∷ X) e = (0, refl)
  some-delay (false ∷ fs) (xs ∷ X) e = let r = some-delay fs X e in (suc r.0, r.1)

  -- where the same is beside the delays
  pub comes-same : (fs : List Bool) (X Y : Streams T) → length X ≡ length Y → ((q : ℕ) → q < length fs → get_or fs q false ≡ false → at X q ≡ at Y q) → comes false fs X ≡ comes false fs Y
  comes-same [] X Y l h = refl
  comes-same (f ∷ fs) [] [] l h = refl
  comes-same (f ∷ fs) [] (ys ∷ Y) l h = absurd (omega (arith, l))
  comes-same (f ∷ fs) (xs ∷ X) [] l h = absurd (omega (arith, l))
  comes-same (true ∷ fs) (xs ∷ X) (ys ∷ Y) l h = comes-same fs X Y (omega (arith, l)) (λ q m g. h (suc q) (omega (arith, m)) g)
  comes-same (false ∷ fs) (xs ∷ X) (ys ∷ Y) l h =
      let head : xs ≡ ys = h 0 (omega arith) refl in
      ap (λ (zs : List T). is_some_token zs || comes false fs X) head ∙ ap (λ (b : Bool). is_some_token ys || b) (comes-same fs X Y (omega (arith, l)) (λ q m g. h (suc q) (omega (arith, m)) g))

  pub beside-same : (fs : List Bool) (X Y : Streams T) → length X ≡ length Y → ((q : ℕ) → q < length fs → get_or fs q false ≡ false → at X q ≡ at Y q) → beside_delays fs X ≡ beside_delays fs Y
  beside-same [] X Y l h = refl
  beside-same (f ∷ fs) [] [] l h = refl
  beside-same (f ∷ fs) [] (ys ∷ Y) l h = absurd (omega (arith, l))
  beside-same (f ∷ fs) (xs ∷ X) [] l h = absurd (omega (arith, l))
  beside-same (true ∷ fs) (xs ∷ X) (ys ∷ Y) l h = ap (λ (vs : List (Partial T)). Unknown ∷ vs) (beside-same fs X Y (omega (arith, l)) (λ q m g. h (suc q) (omega (arith, m)) g))
  beside-same (false ∷ fs) (xs ∷ X) (ys ∷ Y) l h =
      let head : xs ≡ ys = h 0 (omega arith) refl in
      ap (λ (zs : List T). Known zs ∷ beside_delays fs X) head ∙ ap (λ (vs : List (Partial T)). Known ys ∷ vs) (beside-same fs X Y (omega (arith, l)) (λ q m g. h (suc q) (omega (arith, m)) g))

  pub beside-known : (fs : List Bool) (X : Streams T) → length fs ≡ length X → (q : ℕ) → q < length fs → get_or fs q false ≡ false → partial_at (beside_delays fs X) q ≡ Known (at X q)
  beside-known [] X l q h g = absurd (omega (arith, h))
  beside-known (f ∷ fs) [] l q h g = absurd (omega (arith, l))
  beside-known (true ∷ fs) (xs ∷ X) l zero h g = clash g
  beside-known (false ∷ fs) (xs ∷ X) l zero h g = refl
  beside-known (f ∷ fs) (xs ∷ X) l (suc q) h g = beside-known fs X (omega (arith, l)) q (omega (arith, h)) g

  pub beside-below : (fs : List Bool) (X : Streams T) (V : List (Partial T)) → length fs ≡ length X → length V ≡ length X → ((q : ℕ) → q < length fs → get_or fs q false ≡ false → partial_at V q ≡ Known (at X q)) → KnownBelow (beside_delays fs X) V
  beside-below [] [] [] l m h = tt
  beside-below [] [] (v ∷ V) l m h = absurd (omega (arith, m))
  beside-below [] (xs ∷ X) V l m h = absurd (omega (arith, l))
  beside-below (f ∷ fs) [] V l m h = absurd (omega (arith, l))
  beside-below (f ∷ fs) (xs ∷ X) [] l m h = absurd (omega (arith, m))
  beside-below (true ∷ fs) (xs ∷ X) (v ∷ V) l m h = (tt, beside-below fs X V (omega (arith, l)) (omega (arith, m)) (λ q k g. h (suc q) (omega (arith, k)) g))
  beside-below (false ∷ fs) (xs ∷ X) (v ∷ V) l m h = (h 0 (omega arith) refl, beside-below fs X V (omega (arith, l)) (omega (arith, m)) (λ q k g. h (suc q) (omega (arith, k)) g))

  -- nothing at any place, and known so
  nothing-known : (X : Streams T) → known (map (λ (xs : List T). let v : Partial T = Known [] in v) X) ≡ Some (map (λ (xs : List T). let ys : List T = [] in ys) X)
  nothing-known [] = refl
  nothing-known (xs ∷ X) = rw (nothing-known X) refl

  nothing-at : (X : Streams T) (q : ℕ) → q < length X → partial_at (map (λ (xs : List T). let v : Partial T = Known [] in v) X) q ≡ Known []
  nothing-at [] q h = absurd (omega (arith, h))
  nothing-at (xs ∷ X) zero h = refl
  nothing-at (xs ∷ X) (suc q) h = nothing-at X q (omega (arith, h))

  nothing-present : (X : Streams T) → any_present (map (λ (xs : List T). let ys : List T = [] in ys) X) ≡ false
  nothing-present [] = refl
  nothing-present (xs ∷ X) = nothing-present X

  -- what is known stays
  pub known-up : (v w : Partial T) → PartialBelow v w → is_known v ≡ true → w ≡ v
  known-up Unknown w h e = clash (sym e)
  known-up (Known xs) w h e = h

module _ {T S : Type 0} (early : Earliness T S) (active : Activity T S) (turn : Stepping T S) (keeps : KeepsEarly early active turn) where
  -- a child tells no more early than it gives
  module _ (tag : Tag) (s : S) (vs : List (Partial T)) (p : ℕ) where
    abbrev tells : Partial T
    tells = partial_at (early tag s vs) p

    below-reacted : (X : Streams T) → known vs ≡ Some X → (r : Outcome T S) → turn tag s X ≡ r → PartialBelow tells ((reacted early active turn tag s vs r).outputs p)
    below-reacted X e (Done z out l) g = keeps.agrees tag s vs X z out l e g p
    below-reacted X e (Stuck fs l) g = PartialBelow-refl tells

    below-active : (X : Streams T) → known vs ≡ Some X → (b : Bool) → active tag s X ≡ b → PartialBelow tells ((if_active early active turn tag b s vs X).outputs p)
    below-active X e true g = below-reacted X e (turn tag s X) refl
    below-active X e false g = keeps.rests tag s vs X e g p

    below-known : (o : Option (Streams T)) → known vs ≡ o → PartialBelow tells ((on_known early active turn tag s vs o).outputs p)
    below-known None e = PartialBelow-refl tells
    below-known (Some X) e = below-active X e (active tag s X) refl

    pub early-below : PartialBelow tells ((reaction early active turn tag s vs).outputs p)
    early-below = below-known (known vs) refl

  -- what it tells early of less is what it gives, where that is known
  pub early-gives : (tag : Tag) (s : S) (us vs : List (Partial T)) (p : ℕ) → KnownBelow us vs → is_known (partial_at (early tag s us) p) ≡ true → (reaction early active turn tag s vs).outputs p ≡ partial_at (early tag s us) p
  early-gives tag s us vs p h e =
      known-up (partial_at (early tag s us) p) ((reaction early active turn tag s vs).outputs p)
      (PartialBelow-trans (partial_at (early tag s us) p) (partial_at (early tag s vs) p) ((reaction early active turn tag s vs).outputs p) (keeps.grows tag s us vs h p) (early-below tag s vs p)) e

  -- a child that isn't prompted gives nothing early
  pub quiet-early : (tag : Tag) (s : S) (fs : List Bool) (X : Streams T) (p : ℕ) → length fs ≡ length X → comes false fs X ≡ false → ((Y : Streams T) → any_present Y ≡ false → active tag s Y ≡ false) → is_known (partial_at (early tag s (beside_delays fs X)) p) ≡ true →
      partial_at (early tag s (beside_delays fs X)) p ≡ Known []
  quiet-early tag s fs X p l e a k =
      let E : List (Partial T) = map (λ (xs : List T). let v : Partial T = Known [] in v) X in
      let lower : KnownBelow (beside_delays fs X) E = beside-below fs X E l (length-map X (λ (xs : List T). let v : Partial T = Known [] in v)) (λ q m g. nothing-at X q (omega (arith, m, l)) ∙ ap (λ (ys : List T). Known ys) (sym (no-prompt fs X e q m g))) in
      let rest : PartialBelow (partial_at (early tag s E) p) (Known []) = keeps.rests tag s E (map (λ (xs : List T). let ys : List T = [] in ys) X) (nothing-known X) (a (map (λ (xs : List T). let ys : List T = [] in ys) X) (nothing-present X)) p in
      sym (known-up (partial_at (early tag s (beside_delays fs X)) p) (Known []) (PartialBelow-trans (partial_at (early tag s (beside_delays fs X)) p) (partial_at (early tag s E) p) (Known []) (keeps.grows tag s (beside_delays fs X) E lower p) rest) k)

-- under DE only what takes its lists whole answers early
pub early-same : {T S : Type 0} (facts : Facts T S) (tag : Tag) (s : S) (vs : List (Partial T)) (p : ℕ) → is_known (partial_at (de_early facts tag s vs) p) ≡ true → partial_at (facts.early tag s vs) p ≡ partial_at (de_early facts tag s vs) p
early-same {T} facts tag s vs p e = by (facts.whole s) e
  where
    by : (b : Bool) → is_known (partial_at (if_whole b (facts.early tag s vs)) p) ≡ true → partial_at (facts.early tag s vs) p ≡ partial_at (if_whole b (facts.early tag s vs)) p
    by true k = refl
    by false k = clash (sym k)
