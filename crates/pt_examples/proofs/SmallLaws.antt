-- The small library keeps what rows of a library owe.
use Rattle.std.proofs.Common.{◌≡◌, ◌≢◌, true≢false, ◌⊎◌, inl, inr, ◌||◌, ◌&&◌, ◌<◌, ◌≤◌, ℕ, zero, suc, nat_eq, nat_lt, nat_le, if◌then◌else◌, arith, List, [], ◌∷◌, Bool, true, false, Option, Some, None, ℤ, pos, negsuc, refl, sym, ap, subst}
use Rattle.std.proofs.lemmas.Bool.Decides.{eqb_tells, leb_tells}
use Rattle.pt_meaning.specs.Tag.{Tag, tag_le, is_due, earlier}
use Rattle.pt_meaning.specs.Streams.{Streams, at, any_present}
use Rattle.pt_meaning.specs.Machine.{Partial, Unknown, Known, partial_at}
use Rattle.pt_meaning.specs.Valuation.{known, known_then}
use Rattle.pt_meaning.specs.Laws.{PartialBelow, KnownBelow}
use Rattle.pt_meaning.specs.Lawful.{LawfulRows}
use Rattle.pt_meaning.specs.Tree.{Gives}
use Rattle.pt_examples.specs.Small.{Token, Num, Truth, Array, Words, Record, Act, Const, Ramp, Sequence, Expression, Absent, Mux, LastTick, Delay, Server, rows, react, early, whole, begins, next, due_in, pending_next, mux_early, muxed, pends}

below-same : {T : Type 0} (v : Partial T) → PartialBelow v v
below-same Unknown = tt
below-same (Known xs) = refl

port-below : {T : Type 0} (v w : Partial T) (p : ℕ) → PartialBelow v w → PartialBelow (partial_at (v ∷ []) p) (partial_at (w ∷ []) p)
port-below v w zero h = h
port-below v w (suc p) h = tt

mux-token : (n : ℤ) (a b c d : Partial Token) → PartialBelow a c → PartialBelow b d → (p : ℕ) → PartialBelow (partial_at (mux_early (Known (Num n ∷ []) ∷ a ∷ b ∷ [])) p) (partial_at (mux_early (Known (Num n ∷ []) ∷ c ∷ d ∷ [])) p)
mux-token (pos zero) a b c d h k p = port-below a c p h
mux-token (pos (suc zero)) a b c d h k p = port-below b d p k
mux-token (pos (suc (suc n))) a b c d h k p = tt
mux-token (negsuc n) a b c d h k p = tt

mux-grows : (vs ws : List (Partial Token)) → KnownBelow vs ws → (p : ℕ) → PartialBelow (partial_at (mux_early vs) p) (partial_at (mux_early ws) p)
mux-grows (Known (Num n ∷ []) ∷ a ∷ b ∷ []) (w ∷ c ∷ d ∷ []) h p = subst (λ v. PartialBelow (partial_at (mux_early (Known (Num n ∷ []) ∷ a ∷ b ∷ [])) p) (partial_at (mux_early (v ∷ c ∷ d ∷ [])) p)) (sym h.0) (mux-token n a b c d h.1.0 h.1.1.0 p)
mux-grows (Known (Num n ∷ []) ∷ a ∷ b ∷ []) [] h p = absurd h
mux-grows (Known (Num n ∷ []) ∷ a ∷ b ∷ []) (w ∷ []) h p = absurd h.1
mux-grows (Known (Num n ∷ []) ∷ a ∷ b ∷ []) (w ∷ c ∷ []) h p = absurd h.1.1
mux-grows (Known (Num n ∷ []) ∷ a ∷ b ∷ []) (w ∷ c ∷ d ∷ e ∷ ws) h p = absurd h.1.1.1
mux-grows (Known (Num n ∷ []) ∷ a ∷ b ∷ c ∷ vs) ws h p = tt
mux-grows (Known (Num n ∷ []) ∷ a ∷ []) ws h p = tt
mux-grows (Known (Num n ∷ []) ∷ []) ws h p = tt
mux-grows (Known (Num n ∷ x ∷ xs) ∷ vs) ws h p = tt
mux-grows (Known (Truth b ∷ xs) ∷ vs) ws h p = tt
mux-grows (Known (Array ys ∷ xs) ∷ vs) ws h p = tt
mux-grows (Known (Words w ∷ xs) ∷ vs) ws h p = tt
mux-grows (Known (Record n w ∷ xs) ∷ vs) ws h p = tt
mux-grows (Known [] ∷ vs) ws h p = tt
mux-grows (Unknown ∷ vs) ws h p = tt
mux-grows [] ws h p = tt

all-known : (v : Partial Token) (o : Option (Streams Token)) (X : Streams Token) → known_then v o ≡ Some X → (xs : List Token) × (Y : Streams Token) × (v ≡ Known xs) × (o ≡ Some Y) × (X ≡ xs ∷ Y)
all-known Unknown None X e = absurd (cc)
all-known Unknown (Some Y) X e = absurd (cc)
all-known (Known xs) None X e = absurd (cc)
all-known (Known xs) (Some Y) X e = (xs, Y, refl, refl, cc)

mux-step : (n : ℤ) (xs ys : List Token) (b : Act) (out : Streams Token) → muxed ((Num n ∷ []) ∷ xs ∷ ys ∷ []) ≡ Gives b out → (p : ℕ) → PartialBelow (partial_at (mux_early (Known (Num n ∷ []) ∷ Known xs ∷ Known ys ∷ [])) p) (Known (at out p))
mux-step (pos zero) xs ys b out e zero = let a : out ≡ xs ∷ [] = cc in rw a refl
mux-step (pos zero) xs ys b out e (suc p) = tt
mux-step (pos (suc zero)) xs ys b out e zero = let a : out ≡ ys ∷ [] = cc in rw a refl
mux-step (pos (suc zero)) xs ys b out e (suc p) = tt
mux-step (pos (suc (suc n))) xs ys b out e p = tt
mux-step (negsuc n) xs ys b out e p = tt

mux-agrees : (vs : List (Partial Token)) (X : Streams Token) (b : Act) (out : Streams Token) → known vs ≡ Some X → muxed X ≡ Gives b out → (p : ℕ) → PartialBelow (partial_at (mux_early vs) p) (Known (at out p))
mux-agrees (Known (Num n ∷ []) ∷ Known xs ∷ Known ys ∷ []) X b out e d p = let a : X ≡ (Num n ∷ []) ∷ xs ∷ ys ∷ [] = cc in mux-step n xs ys b out (subst (λ Z. muxed Z ≡ Gives b out) a d) p
mux-agrees (Known (Num n ∷ []) ∷ Unknown ∷ Known ys ∷ []) X b out e d p = absurd (cc)
mux-agrees (Known (Num n ∷ []) ∷ Unknown ∷ Unknown ∷ []) X b out e d p = absurd (cc)
mux-agrees (Known (Num n ∷ []) ∷ Known xs ∷ Unknown ∷ []) X b out e d p = absurd (cc)
mux-agrees (Known (Num n ∷ []) ∷ a ∷ c ∷ z ∷ vs) X b out e d p = tt
mux-agrees (Known (Num n ∷ []) ∷ a ∷ []) X b out e d p = tt
mux-agrees (Known (Num n ∷ []) ∷ []) X b out e d p = tt
mux-agrees (Known (Num n ∷ x ∷ xs) ∷ vs) X b out e d p = tt
mux-agrees (Known (Truth y ∷ xs) ∷ vs) X b out e d p = tt
mux-agrees (Known (Array ys ∷ xs) ∷ vs) X b out e d p = tt
mux-agrees (Known (Words w ∷ xs) ∷ vs) X b out e d p = tt
mux-agrees (Known (Record n w ∷ xs) ∷ vs) X b out e d p = tt
mux-agrees (Known [] ∷ vs) X b out e d p = tt
mux-agrees (Unknown ∷ vs) X b out e d p = tt
mux-agrees [] X b out e d p = tt

or-right : (a b : Bool) → (a || b) ≡ false → b ≡ false
or-right true b e = absurd (cc)
or-right false b e = e

-- what the test of two tags tells
lex-tells : (a b c d : ℕ) → (((nat_lt a b || (nat_eq a b && nat_le c d)) ≡ true) × ((a < b) ⊎ ((a ≡ b) × (c ≤ d)))) ⊎ (((nat_lt a b || (nat_eq a b && nat_le c d)) ≡ false) × ((b < a) ⊎ ((a ≡ b) × (d < c))))
lex-tells a b c d = go (leb_tells (suc a) b) (eqb_tells a b) (leb_tells c d)
  where
    go : (((nat_lt a b ≡ true) × (suc a ≤ b)) ⊎ ((nat_lt a b ≡ false) × (b < suc a))) → (((nat_eq a b ≡ true) × (a ≡ b)) ⊎ ((nat_eq a b ≡ false) × (a ≢ b))) → (((nat_le c d ≡ true) × (c ≤ d)) ⊎ ((nat_le c d ≡ false) × (d < c))) →
        (((nat_lt a b || (nat_eq a b && nat_le c d)) ≡ true) × ((a < b) ⊎ ((a ≡ b) × (c ≤ d)))) ⊎ (((nat_lt a b || (nat_eq a b && nat_le c d)) ≡ false) × ((b < a) ⊎ ((a ≡ b) × (d < c))))
    go (inl h) e f = inl (rw (h.0) refl, inl (h.1))
    go (inr h) (inl e) (inl f) = inl (rw (h.0, e.0, f.0) refl, inr (e.1, f.1))
    go (inr h) (inl e) (inr f) = inr (rw (h.0, e.0, f.0) refl, inr (e.1, f.1))
    go (inr h) (inr e) f = inr (rw (h.0, e.0) refl, inl (omega arith))

-- of two tags the lesser comes after a third only where both do
both-later : (u w t : Tag) → is_due t (earlier (Some u) (Some w)) ≡ false → (tag_le u t ≡ false) × (tag_le w t ≡ false)
both-later u w t e = go (lex-tells u.time w.time u.step w.step) (lex-tells u.time t.time u.step t.step) (lex-tells w.time t.time w.step t.step)
  where
    Tells : Tag → Tag → Type 0
    Tells a b = ((tag_le a b ≡ true) × ((a.time < b.time) ⊎ ((a.time ≡ b.time) × (a.step ≤ b.step)))) ⊎ ((tag_le a b ≡ false) × ((b.time < a.time) ⊎ ((a.time ≡ b.time) × (b.step < a.step))))

    picked : (b : Bool) → tag_le u w ≡ b → is_due t (if b then Some u else Some w) ≡ false
    picked b f = subst (λ c. is_due t (if c then Some u else Some w) ≡ false) f e

    due-first : tag_le u w ≡ true → tag_le u t ≡ false
    due-first f = picked true f

    due-second : tag_le u w ≡ false → tag_le w t ≡ false
    due-second f = picked false f

    go : Tells u w → Tells u t → Tells w t → (tag_le u t ≡ false) × (tag_le w t ≡ false)
    go a (inr h) (inr k) = (h.0, k.0)
    go (inl a) (inl h) k = absurd (true≢false (let no = due-first a.0 in cc))
    go (inr a) h (inl k) = absurd (true≢false (let no = due-second a.0 in cc))
    go (inl a) (inr h) (inl k) = absurd (grind arith)
    go (inr a) (inl h) (inr k) = absurd (grind arith)

none-due : (t : Tag) (pending : List (Tag × Token)) → is_due t (pending_next pending) ≡ false → due_in t pending ≡ []
none-due t [] e = refl
none-due t ((u, x) ∷ pending) e = go (pending_next pending) (none-due t pending) e
  where
    go : (o : Option Tag) → (is_due t o ≡ false → due_in t pending ≡ []) → is_due t (earlier (Some u) o) ≡ false → due_in t ((u, x) ∷ pending) ≡ []
    go None h e = rw (e, h refl) refl
    go (Some w) h e = let two = both-later u w t e in rw (two.0, h two.1) refl

grow : (t : Tag) (a : Act) (vs ws : List (Partial Token)) → KnownBelow vs ws → (p : ℕ) → PartialBelow (partial_at (early t a vs) p) (partial_at (early t a ws) p)
grow t Mux vs ws h p = mux-grows vs ws h p
grow t (LastTick xs) vs ws h p = port-below (Known xs) (Known xs) p refl
grow t (Delay d pending) vs ws h p = port-below (Known (due_in t pending)) (Known (due_in t pending)) p refl
grow t (Server d pending) vs ws h p = port-below (Known (due_in t pending)) (Known (due_in t pending)) p refl
grow t a vs ws h p = tt

due-port : (xs : List Token) (out : Streams Token) (p : ℕ) → out ≡ xs ∷ [] → PartialBelow (partial_at (Known xs ∷ []) p) (Known (at out p))
due-port xs out zero e = rw e refl
due-port xs out (suc p) e = tt

pends-gives : (kept : List (Tag × Token) → Act) (xs : List Token) (o : Option (List (Tag × Token))) (b : Act) (out : Streams Token) → pends kept xs o ≡ Gives b out → out ≡ xs ∷ []
pends-gives kept xs None b out e = absurd (cc)
pends-gives kept xs (Some pending) b out e = cc

agree : (t : Tag) (a : Act) (vs : List (Partial Token)) (X : Streams Token) (b : Act) (out : Streams Token) → known vs ≡ Some X → react t a X ≡ Gives b out → (p : ℕ) → PartialBelow (partial_at (early t a vs) p) (Known (at out p))
agree t Mux vs X b out e d p = mux-agrees vs X b out e d p
agree t (LastTick xs) vs X b out e d p = due-port xs out p (cc)
agree t (Delay n pending) vs X b out e d p = due-port (due_in t pending) out p (pends-gives (Delay n) (due_in t pending) _ b out d)
agree t (Server n pending) vs X b out e d p = due-port (due_in t pending) out p (pends-gives (Server n) (due_in t pending) _ b out d)
agree t a vs X b out e d p = tt

rest : (t : Tag) (a : Act) (vs : List (Partial Token)) (X : Streams Token) → whole a ≡ true → known vs ≡ Some X → (any_present X || is_due t (next a)) ≡ false → (p : ℕ) → PartialBelow (partial_at (early t a vs) p) (Known [])
rest t (Delay n pending) vs X w e f p = port-empty p
  where
    port-empty : (p : ℕ) → PartialBelow (partial_at (Known (due_in t pending) ∷ []) p) (Known [])
    port-empty zero = ap (λ v. Known v) (sym (none-due t pending (or-right (any_present X) _ f)))
    port-empty (suc p) = tt
rest t (Server n pending) vs X w e f p = port-empty p
  where
    port-empty : (p : ℕ) → PartialBelow (partial_at (Known (due_in t pending) ∷ []) p) (Known [])
    port-empty zero = ap (λ v. Known v) (sym (none-due t pending (or-right (any_present X) _ f)))
    port-empty (suc p) = tt
rest t Mux vs X w e f p = absurd (cc)
rest t (LastTick xs) vs X w e f p = absurd (cc)
rest t a vs X w e f p = tt

wait : (a : Act) → whole a ≡ true → begins a ≡ false
wait (Const x) w = absurd (cc)
wait (Ramp n left x) w = absurd (cc)
wait (Expression n f) w = absurd (cc)
wait Absent w = absurd (cc)
wait (Sequence xs) w = absurd (cc)
wait a w = refl

pub small_is_lawful : LawfulRows rows
small_is_lawful = record { grows = grow; agrees = agree; rests = rest; waits = wait }
