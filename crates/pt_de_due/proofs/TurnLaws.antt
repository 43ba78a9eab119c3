-- What a child's turn, its wake and the beginning of a reaction change of who is due.
use Rattle.std.proofs.Common.{◌≡◌, ℕ, zero, suc, ◌<◌, List, [], ◌∷◌, Bool, true, false, ◌||◌, length, map, get_or, set, take, drop, replicate, Option, None, refl, sym, ap, ap₂, ◌∙◌, arith, length-set, ⊎_elim}
use Rattle.std.proofs.lemmas.List.{get_or-set_same, get_or-set_other, get_or-replicate, length-replicate, length-map}
use Rattle.std.proofs.lemmas.Bool.{cases_eq}
use Rattle.pt_meaning.specs.Tag.{Tag, is_due}
use Rattle.pt_meaning.specs.Streams.{Streams}
use Rattle.pt_meaning.specs.Net.{Source}
use Rattle.pt_meaning.specs.Running.{total}
use Rattle.pt_wakes.specs.Due.{DueSet, with_due}
use Rattle.pt_wakes.specs.Moved.{woken, with_woken}
use Rattle.pt_de_laws.specs.State.{Turn, Waits, Answered, Over, DeState, agree, comes, is_due_in, is_last_in, is_due_child, is_last_child, inputs_of, delays_of, asked}
use Rattle.pt_de_laws.proofs.PlaceLaws.{get-or-map}
use Rattle.pt_de_due.specs.Due.{IsSetOf, with_turn, with_wake, IsShaped, AreDue, AreLast, opened, none_due}
use Rattle.pt_de_due.proofs.ComesLaws.{or-false}
use Rattle.pt_de_due.proofs.PutLaws.{and-false}
use Rattle.pt_de_due.proofs.EmptiedLaws.{emptied-others, emptied-long}

-- one child is put into a set, or out of it
one-in-set : (n : ℕ) (depths : List ℕ) (test test' : ℕ → Bool) (i : ℕ) (b : Bool) (d : DueSet) → IsSetOf n depths test d → (i < n → test' i ≡ b) → ((j : ℕ) → j < n → (j ≡ i → ⊥) → test' j ≡ test j) → IsSetOf n depths test' (with_due d i b)
one-in-set n depths test test' i b d h e others = record { depths = h.depths; long = length-set d.due i b ∙ h.long; each = λ j l. ⊎_elim (λ z. here j l z) (λ z. there j l z) (cases_eq j i) }
  where
    here : (j : ℕ) → j < n → j ≡ i → get_or (set d.due i b) j false ≡ test' j
    here j l z =
        let long = h.long in
        let m : i < n = omega (arith, l, z) in
        ap (λ k. get_or (set d.due i b) k false) z ∙ get_or-set_same d.due i b false (omega (arith, m, long)) ∙ sym (e m) ∙ ap test' (sym z)

    there : (j : ℕ) → j < n → (j ≡ i → ⊥) → get_or (set d.due i b) j false ≡ test' j
    there j l z = get_or-set_other d.due i j b false z ∙ h.each j l ∙ sym (others j l z)

same-set : (n : ℕ) (depths : List ℕ) (test test' : ℕ → Bool) (d : DueSet) → IsSetOf n depths test d → ((j : ℕ) → j < n → test' j ≡ test j) → IsSetOf n depths test' d
same-set n depths test test' d h e = record { depths = h.depths; long = h.long; each = λ j l. h.each j l ∙ sym (e j l) }

-- a child that has had its turn, or has answered, is due no more
had-turn : (t : Turn) (x : Bool) → (t ≡ Waits → ⊥) → is_due_in t x ≡ false
had-turn Waits x z = absurd (z refl)
had-turn Answered x z = refl
had-turn Over x z = refl

module _ {T : Type 0} where
  module _ (s : DeState T) (w : IsShaped s) (i : ℕ) where
    turn-same : (t : Turn) → i < length s.plan.net.places → get_or (set s.turns i t) i Over ≡ t
    turn-same t h = let l = w.turns in get_or-set_same s.turns i t Over (omega (arith, h, l))

    turn-other : (t : Turn) (j : ℕ) → (j ≡ i → ⊥) → get_or (set s.turns i t) j Over ≡ get_or s.turns j Over
    turn-other t j z = get_or-set_other s.turns i j t Over z

    pub shaped-turn : (t : Turn) → IsShaped (with_turn i t s)
    shaped-turn t = record { depths = w.depths; turns = length-set s.turns i t ∙ w.turns; wakes = w.wakes; tokens = w.tokens; delayed = w.delayed; channels = w.channels }

    pub shaped-wake : (wake : Option Tag) → IsShaped (with_wake i wake s)
    shaped-wake wake = record { depths = w.depths; turns = w.turns; wakes = length-set s.wakes i wake ∙ w.wakes; tokens = w.tokens; delayed = w.delayed; channels = w.channels }

    pub shaped-asked : IsShaped (asked i s)
    shaped-asked = record { depths = w.depths; turns = length-set s.turns i Over ∙ w.turns; wakes = w.wakes; tokens = emptied-long s.plan.net.places i s.tokens ∙ w.tokens; delayed = w.delayed; channels = w.channels }

    -- a child's turn comes, or it answers
    pub due-turned : (t : Turn) → (t ≡ Waits → ⊥) → (d : DueSet) → AreDue s d → AreDue (with_turn i t s) (with_due d i false)
    due-turned t past d h =
        one-in-set (length s.plan.net.places) s.roles.depths (is_due_child s) (is_due_child (with_turn i t s)) i false d h
        (λ m. ap (λ u. is_due_in u (is_due s.tag (get_or s.wakes i None) || comes false (delays_of s i) (inputs_of s i))) (turn-same t m) ∙ had-turn t (is_due s.tag (get_or s.wakes i None) || comes false (delays_of s i) (inputs_of s i)) past)
        (λ j l z. ap (λ u. is_due_in u (is_due s.tag (get_or s.wakes j None) || comes false (delays_of s j) (inputs_of s j))) (turn-other t j z))

    last-with-turn : (t : Turn) (b : Bool) → ((x : Bool) → is_last_in t x ≡ b) → (d : DueSet) → AreLast s d → AreLast (with_turn i t s) (with_due d i b)
    last-with-turn t b e d h =
        one-in-set (length s.plan.net.places) s.roles.depths (is_last_child s) (is_last_child (with_turn i t s)) i b d h
        (λ m. ap (λ u. is_last_in u (comes true (delays_of s i) (inputs_of s i))) (turn-same t m) ∙ e (comes true (delays_of s i) (inputs_of s i)))
        (λ j l z. ap (λ u. is_last_in u (comes true (delays_of s j) (inputs_of s j))) (turn-other t j z))

    pub last-turned : (d : DueSet) → AreLast s d → AreLast (with_turn i Over s) (with_due d i false)
    last-turned d h = last-with-turn Over false (λ x. refl) d h

    pub last-answered : (d : DueSet) → AreLast s d → AreLast (with_turn i Answered s) (with_due d i true)
    last-answered d h = last-with-turn Answered true (λ x. refl) d h

    -- its inputs leave their channels as it is asked to fire
    left-inputs : (j : ℕ) → (j ≡ i → ⊥) → inputs_of (asked i s) j ≡ inputs_of s j
    left-inputs j z = emptied-others s.plan.net.places i j s.tokens z

    pub due-asked : (d : DueSet) → AreDue s d → AreDue (asked i s) (with_due d i false)
    due-asked d h =
        one-in-set (length s.plan.net.places) s.roles.depths (is_due_child s) (is_due_child (asked i s)) i false d h
        (λ m. ap (λ u. is_due_in u (is_due s.tag (get_or s.wakes i None) || comes false (delays_of s i) (inputs_of (asked i s) i))) (turn-same Over m))
        (λ j l z.
        ap₂ (λ u (X : Streams T). is_due_in u (is_due s.tag (get_or s.wakes j None) || comes false (delays_of s j) X)) (turn-other Over j z) (left-inputs j z))

    pub last-asked : (d : DueSet) → AreLast s d → AreLast (asked i s) (with_due d i false)
    last-asked d h =
        one-in-set (length s.plan.net.places) s.roles.depths (is_last_child s) (is_last_child (asked i s)) i false d h
        (λ m. ap (λ u. is_last_in u (comes true (delays_of s i) (inputs_of (asked i s) i))) (turn-same Over m))
        (λ j l z. ap₂ (λ u (X : Streams T). is_last_in u (comes true (delays_of s j) X)) (turn-other Over j z) (left-inputs j z))

    -- the wake of a child that has had its turn counts no more at this tag
    pub due-wake : (wake : Option Tag) → (get_or s.turns i Over ≡ Waits → ⊥) → (d : DueSet) → AreDue s d → AreDue (with_wake i wake s) d
    due-wake wake turned d h = same-set (length s.plan.net.places) s.roles.depths (is_due_child s) (is_due_child (with_wake i wake s)) d h (λ j l. ⊎_elim (λ z. here j z) (λ z. there j z) (cases_eq j i))
      where
        here : (j : ℕ) → j ≡ i → is_due_child (with_wake i wake s) j ≡ is_due_child s j
        here j z =
            let past : get_or s.turns j Over ≡ Waits → ⊥ = λ t. turned (ap (λ k. get_or s.turns k Over) (sym z) ∙ t) in
            had-turn (get_or s.turns j Over) (is_due s.tag (get_or (set s.wakes i wake) j None) || comes false (delays_of s j) (inputs_of s j)) past ∙
            sym (had-turn (get_or s.turns j Over) (is_due s.tag (get_or s.wakes j None) || comes false (delays_of s j) (inputs_of s j)) past)

        there : (j : ℕ) → (j ≡ i → ⊥) → is_due_child (with_wake i wake s) j ≡ is_due_child s j
        there j z = ap (λ o. is_due_in (get_or s.turns j Over) (is_due s.tag o || comes false (delays_of s j) (inputs_of s j))) (get_or-set_other s.wakes i j wake None z)

-- nothing comes where no channel has a token
nothing-taken : (T : Type 0) (delay : Bool) (fs : List Bool) (n : ℕ) (ss : List Source) → comes delay fs (take n (map (λ (c : Source). let none : List T = [] in none) ss)) ≡ false
nothing-taken T delay [] n ss = refl
nothing-taken T delay (f ∷ fs) zero ss = refl
nothing-taken T delay (f ∷ fs) (suc n) [] = refl
nothing-taken T delay (f ∷ fs) (suc n) (c ∷ ss) = ap (λ b. b || comes delay fs (take n (map (λ (c : Source). let none : List T = [] in none) ss))) (and-false (agree f delay)) ∙ nothing-taken T delay fs n ss

nothing-comes : (T : Type 0) (delay : Bool) (fs : List Bool) (o n : ℕ) (ss : List Source) → comes delay fs (take n (drop o (map (λ (c : Source). let none : List T = [] in none) ss))) ≡ false
nothing-comes T delay fs zero n ss = nothing-taken T delay fs n ss
nothing-comes T delay fs (suc o) n [] = nothing-taken T delay fs n []
nothing-comes T delay fs (suc o) n (c ∷ ss) = nothing-comes T delay fs o n ss

woken-long : (tag : Tag) (ws : List (Option Tag)) (n : ℕ) → length (woken tag ws (replicate n false)) ≡ n
woken-long tag [] n = length-replicate n false
woken-long tag (w ∷ ws) zero = refl
woken-long tag (w ∷ ws) (suc n) = ap (λ k. suc k) (woken-long tag ws n)

woken-at : (tag : Tag) (ws : List (Option Tag)) (n j : ℕ) → length ws ≡ n → j < n → get_or (woken tag ws (replicate n false)) j false ≡ is_due tag (get_or ws j None)
woken-at tag [] n j e h = absurd (omega (arith, e, h))
woken-at tag (w ∷ ws) zero j e h = absurd (omega (arith, h))
woken-at tag (w ∷ ws) (suc n) zero e h = or-false (is_due tag w)
woken-at tag (w ∷ ws) (suc n) (suc j) e h = woken-at tag ws n j (omega (arith, e)) (omega (arith, h))

-- a reaction begins
module _ {T : Type 0} (s : DeState T) (w : IsShaped s) (tag : Tag) where
  waits-first : (j : ℕ) → j < length s.plan.net.places → get_or (map (λ n. Waits) s.plan.net.places) j Over ≡ Waits
  waits-first j h = get-or-map (λ n. Waits) s.plan.net.places j 0 Over h

  pub shaped-opened : IsShaped (opened tag s)
  shaped-opened = record {
    depths = w.depths;
    turns = length-map s.plan.net.places (λ n. Waits);
    wakes = w.wakes;
    tokens = length-map s.plan.net.sources (λ (c : Source). let none : List T = [] in none);
    delayed = w.delayed;
    channels = w.channels;
  }

  pub due-opened : AreDue (opened tag s) (with_woken tag s.wakes (none_due s))
  due-opened = record { depths = refl; long = woken-long tag s.wakes (length s.plan.net.places); each = λ j l. each j l }
    where
      each : (j : ℕ) → j < length s.plan.net.places → get_or (woken tag s.wakes (replicate (length s.plan.net.places) false)) j false ≡ is_due_child (opened tag s) j
      each j l =
          woken-at tag s.wakes (length s.plan.net.places) j w.wakes l ∙ sym (or-false (is_due tag (get_or s.wakes j None))) ∙
          ap (λ b. is_due tag (get_or s.wakes j None) || b) (sym (nothing-comes T false (delays_of s j) (total (take j s.plan.net.places)) (get_or s.plan.net.places j 0) s.plan.net.sources)) ∙
          ap (λ u. is_due_in u (is_due tag (get_or s.wakes j None) || comes false (delays_of s j) (inputs_of (opened tag s) j))) (sym (waits-first j l))

  pub last-opened : AreLast (opened tag s) (none_due s)
  last-opened = record { depths = refl; long = length-replicate (length s.plan.net.places) false; each = λ j l. each j l }
    where
      each : (j : ℕ) → j < length s.plan.net.places → get_or (replicate (length s.plan.net.places) false) j false ≡ is_last_child (opened tag s) j
      each j l =
          get_or-replicate (length s.plan.net.places) j false false l ∙ sym (nothing-comes T true (delays_of s j) (total (take j s.plan.net.places)) (get_or s.plan.net.places j 0) s.plan.net.sources) ∙
          ap (λ u. is_last_in u (comes true (delays_of s j) (inputs_of (opened tag s) j))) (sym (waits-first j l))
