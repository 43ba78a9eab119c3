-- A log that is closed level by level is closed at each path.
use Rattle.std.proofs.Common.{◌≡◌, ◌⊎◌, ℕ, zero, suc, ◌+◌, ◌<◌, ◌≤◌, List, [], ◌∷◌, ◌++◌, Bool, true, false, ◌||◌, nat_le, length, Option, Some, None, inl, inr, refl, sym, ap, ap₂, subst, arith, ◌∙◌}
use Rattle.pt_meaning.specs.Basics.{Tag, Log, Path, Event, Finished, Met, firings_in}
use Rattle.pt_meaning.specs.Streams.{IsPrefix}
use Rattle.pt_meaning.specs.Machine.{Partial, Known, partial_at}
use Rattle.pt_meaning.specs.Rounds.{Source, Own, Output}
use Rattle.pt_meaning.specs.Modal.{get}
use Rattle.pt_meaning.specs.Closed.{Has, child_of, if_there, node_at, core_of, core_at, actor_of, source_of, held_at, on_answer, state_after, Begun, UnderWay, these_if, begun_at, inputs_at, outputs_at, taken, given, is_modal, is_below_modal, HasBegun, MayKnow, Nothing, Absence, Gave, Early, IsCausedIf, IsTagBelow, rounds_of, CameWithin}
use Rattle.pt_meaning.specs.Node.{Rows, Answer, Gives, Fails, Core, Past, Node, Nodes, Actor, Composite, none, more, list_of}
use Rattle.pt_laws.specs.SoundRuns.{rest_of_rounds, unmarked, all_unmarked, log_in_child, way_in_child, CameByNow, ClosedIn, AllClosedIn}
use Rattle.pt_laws.proofs.RecordLaws.{records-unmarked, numbers-unmarked}

-- events without their first numbers
pub has-unmarked : {T : Type 0} (e : Event T) (es : List (Event T)) → Has e es → Has (unmarked e) (all_unmarked es)
has-unmarked e [] h = h
has-unmarked e (x ∷ es) (inl h) = inl (ap (λ v. unmarked v) h)
has-unmarked e (x ∷ es) (inr h) = inr (has-unmarked e es h)

pub from-unmarked : {T : Type 0} (u : Event T) (es : List (Event T)) → Has u (all_unmarked es) → (e : Event T) × Has e es × (u ≡ unmarked e)
from-unmarked u [] h = absurd h
from-unmarked u (x ∷ es) (inl h) = (x, inl refl, h)
from-unmarked u (x ∷ es) (inr h) = let r = from-unmarked u es h in (r.0, inr r.1, r.2)

pub count-unmarked : {T : Type 0} (es : List (Event T)) → firings_in (all_unmarked es) ≡ firings_in es
count-unmarked [] = refl
count-unmarked (Finished ns f ∷ es) = ap (λ n. suc n) (count-unmarked es)
count-unmarked (Met ns i m ∷ es) = count-unmarked es

pub rounds-unmarked : {T : Type 0} (e : Event T) → rounds_of (unmarked e) ≡ rest_of_rounds (rounds_of e)
rounds-unmarked (Finished ns f) = refl
rounds-unmarked (Met ns i m) = refl

-- the state of a library actor by the events of its path, with their marks or without
pub unmarked-none : {T : Type 0} (es : List (Event T)) → all_unmarked es ≡ [] → es ≡ []
unmarked-none [] e = refl
unmarked-none (x ∷ es) e = absurd (cc)

pub split-unmarked : {T : Type 0} (es bs ss : List (Event T)) → all_unmarked es ≡ bs ++ ss → (b : List (Event T)) × (c : List (Event T)) × (es ≡ b ++ c) × (all_unmarked c ≡ ss) × (all_unmarked b ≡ bs)
split-unmarked es [] ss e = ([], es, refl, e, refl)
split-unmarked [] (x ∷ bs) ss e = absurd (cc)
split-unmarked {T} (y ∷ es) (x ∷ bs) ss e =
    let t : all_unmarked es ≡ bs ++ ss = cc in
    let w : unmarked y ≡ x = cc in
    let r = split-unmarked es bs ss t in
    (y ∷ r.0, r.1, ap (λ (v : List (Event T)). y ∷ v) r.2, r.3, ap₂ (λ (a : Event T) (v : List (Event T)). a ∷ v) w r.4)

pub state-unmarked : {T A : Type 0} (rows : Rows T A) (es : List (Event T)) (a : A) → state_after rows (all_unmarked es) a ≡ state_after rows es a
state-unmarked rows [] a = refl
state-unmarked {T} {A} rows (Finished ns f ∷ es) a = go (rows.react f.tag a f.inputs) (λ b. state-unmarked rows es b)
  where
    go : (o : Answer T A) → ((b : A) → state_after rows (all_unmarked es) b ≡ state_after rows es b) → on_answer (state_after rows (all_unmarked es)) o ≡ on_answer (state_after rows es) o
    go (Gives b out) ih = ih b
    go (Fails code) ih = refl
state-unmarked rows (Met ns i m ∷ es) a = state-unmarked rows es a

-- each child of a closed composite is closed
pub child-closed : {T A : Type 0} (rows : Rows T A) (u : Bool) (kids : Nodes T A) (b j : ℕ) (n : Node T A) (l : Log T) (way : UnderWay T) → AllClosedIn rows u kids b l way → child_of kids j ≡ Some n → ClosedIn rows u n (log_in_child (b + j) l) (way_in_child (b + j) way)
child-closed rows u none b j n l way h e = absurd (cc)
child-closed {T} {A} rows u (more x kids) b zero n l way h e =
    let a : b ≡ b + 0 = omega arith in
    let same : x ≡ n = cc in
    subst (λ v. ClosedIn rows u n (log_in_child v l) (way_in_child v way)) a (subst (λ (v : Node T A). ClosedIn rows u v (log_in_child b l) (way_in_child b way)) same h.0)
child-closed rows u (more x kids) b (suc j) n l way h e = let a : suc b + j ≡ b + suc j = omega arith in subst (λ v. ClosedIn rows u n (log_in_child v l) (way_in_child v way)) a (child-closed rows u kids (suc b) j n l way h.1 e)

pub child-or-beyond : {T A : Type 0} (kids : Nodes T A) (j : ℕ) → ((n : Node T A) × (child_of kids j ≡ Some n)) ⊎ ((child_of kids j ≡ None) × (length (list_of kids) ≤ j))
child-or-beyond none j = inr (refl, omega arith)
child-or-beyond (more n kids) zero = inl (n, refl)
child-or-beyond {T} {A} (more n kids) (suc j) = go (child-or-beyond kids j)
  where
    go : ((m : Node T A) × (child_of kids j ≡ Some m)) ⊎ ((child_of kids j ≡ None) × (length (list_of kids) ≤ j)) → ((m : Node T A) × (child_of kids j ≡ Some m)) ⊎ ((child_of kids j ≡ None) × (suc (length (list_of kids)) ≤ suc j))
    go (inl h) = inl h
    go (inr h) = inr (h.0, omega (arith, h.1))

-- what a child's log tells is what the whole tells of it
module _ {T A : Type 0} (rows : Rows T A) (h : Past) (c d : Core T) (kids : Nodes T A) (n : Node T A) (l : Log T) (way : UnderWay T) (j : ℕ) (e : child_of kids j ≡ Some n) where
  abbrev whole : Node T A
  whole = Composite h c d kids

  taken-up : (p : Path) (i q r k : ℕ) → taken rows n (log_in_child j l) (way_in_child j way) p i q r k ≡ taken rows whole l way (j ∷ p) i q r k
  taken-up p i q r k = ap₂ (λ a b. a ++ these_if (nat_le b k) (begun_at (way (j ∷ (p ++ (i ∷ [])))) q) []) (records-unmarked (length p) r k (inputs_at q) (l (j ∷ (p ++ (i ∷ []))))) (count-unmarked (l (j ∷ p)))

  given-up : (p : Path) (s : Option Source) (r k : ℕ) → given rows n (log_in_child j l) (way_in_child j way) p s r k ≡ given rows whole l way (j ∷ p) s r k
  given-up p None r k = refl
  given-up p (Some (Own port)) r k = ap₂ (λ a b. a ++ these_if (nat_le b k) (begun_at (way (j ∷ p)) port) []) (numbers-unmarked r k (inputs_at port) (l (j ∷ p))) (count-unmarked (l (j ∷ p)))
  given-up p (Some (Output i port)) r k = records-unmarked (length p) r k (outputs_at port) (l (j ∷ (p ++ (i ∷ []))))

  know-up : (u : Bool) (p : Path) (s : Core T) (k : ℕ) (t : Tag) (i q : ℕ) (v : Partial T) → MayKnow rows n (log_in_child j l) (way_in_child j way) u p s k t i q v → MayKnow rows whole l way u (j ∷ p) s k t i q v
  know-up u p s k t i q v (Nothing a b) = Nothing i q
  know-up u p s k t i q v (Absence a b) = Absence i q
  know-up u p s k t i q v (Gave a b) = subst (λ xs. MayKnow rows whole l way u (j ∷ p) s k t i q (Known xs)) (sym (given-up p (source_of s i q) k k)) (Gave i q)
  know-up u p s k t i q v (Early a b o port start state before since later vs xs f g es fresh st m w) =
      let es' = split-unmarked (l (j ∷ (p ++ (o ∷ [])))) before (since ++ later) es in
      let es'' = split-unmarked es'.1 since later es'.3 in
      Early i q o port start state es'.0 es''.0 es''.1 vs xs f (ap (λ x. if_there actor_of (if_there (node_at (p ++ (o ∷ []))) x)) e ∙ g) (es'.2 ∙ ap (λ x. es'.0 ++ x) es''.2) (from_start s before es'.0 es'.4 fresh) (sym (state-unmarked rows es''.0 start) ∙ ap (λ x. state_after rows x start) es''.4 ∙ st) (λ place. know-up u p s k t o place (partial_at vs place) (m place)) w
    where
      from_start : (s : Core T) (bs b : List (Event T)) → all_unmarked b ≡ bs → (bs ≡ []) ⊎ ((u || is_modal s) ≡ true) → (b ≡ []) ⊎ ((u || is_modal s) ≡ true)
      from_start s bs b e (inl g) = inl (unmarked-none b (e ∙ g))
      from_start s bs b e (inr g) = inr g

  caused-up : (u : Bool) (p : Path) (s : Core T) (i q k : ℕ) → IsCausedIf rows n (log_in_child j l) (way_in_child j way) u p s i q k → IsCausedIf rows whole l way u (j ∷ p) s i q k
  caused-up u p s i q k (inl g) = inl (g.0, g.1, g.2, subst (λ a. IsPrefix a (held_at s i q ++ given rows whole l way (j ∷ p) (source_of s i q) g.0 k)) (taken-up p i q g.0 k) (subst (λ a. IsPrefix (taken rows n (log_in_child j l) (way_in_child j way) p i q g.0 k) (held_at s i q ++ a)) (given-up p (source_of s i q) g.0 k) g.3))
  caused-up u p s i q k (inr g) = inr (g.0, g.1, g.2, g.3 ∙ count-unmarked (l (j ∷ p)), g.4, know-up u p s k g.1.tag i q (Known g.4) g.5, subst (λ a. IsPrefix a g.4) (taken-up p i q k k) g.6)

or-assoc : (a b c : Bool) → ((a || b) || c) ≡ (a || (b || c))
or-assoc true b c = refl
or-assoc false b c = refl

-- the causes, at each path
pub closed-caused : {T A : Type 0} (rows : Rows T A) (u : Bool) (p : Path) (top : Node T A) (l : Log T) (way : UnderWay T) → ClosedIn rows u top l way → (c : Core T) → core_at p top ≡ Some c → (i q n : ℕ) → HasBegun l way p n → IsCausedIf rows top l way (u || is_below_modal p (Some top)) p c i q n
closed-caused rows u [] (Actor h a b) l way k c e i q n g = absurd (cc)
closed-caused {T} {A} rows u [] (Composite h c d kids) l way k s e i q n g =
    let same : c ≡ s = cc in
    subst (λ v. IsCausedIf rows (Composite h c d kids) l way v [] s i q n) (or-false u) (subst (λ (v : Core T). IsCausedIf rows (Composite h c d kids) l way u [] v i q n) same (k.1.caused i q n g))
  where
    or-false : (b : Bool) → b ≡ (b || false)
    or-false true = refl
    or-false false = refl
closed-caused rows u (j ∷ p) (Actor h a b) l way k c e i q n g = absurd (cc)
closed-caused {T} {A} rows u (j ∷ p) (Composite h c d kids) l way k s e i q n g = go (child-or-beyond kids j) (λ x f w y. closed-caused rows (u || is_modal c) p x (log_in_child j l) (way_in_child j way) f s w i q n y)
  where
    has-down : HasBegun l way (j ∷ p) n → HasBegun (log_in_child j l) (way_in_child j way) p n
    has-down (inl a) = inl (subst (λ v. n < v) (sym (count-unmarked (l (j ∷ p)))) a)
    has-down (inr a) = inr (a.0 ∙ sym (count-unmarked (l (j ∷ p))), a.1, a.2)

    no-core : None ≡ Some s → ⊥
    no-core e = cc

    go : ((x : Node T A) × (child_of kids j ≡ Some x)) ⊎ ((child_of kids j ≡ None) × (length (list_of kids) ≤ j)) →
        ((x : Node T A) → ClosedIn rows (u || is_modal c) x (log_in_child j l) (way_in_child j way) → core_at p x ≡ Some s → HasBegun (log_in_child j l) (way_in_child j way) p n → IsCausedIf rows x (log_in_child j l) (way_in_child j way) ((u || is_modal c) || is_below_modal p (Some x)) p s i q n) →
        IsCausedIf rows (Composite h c d kids) l way (u || (is_modal c || is_below_modal p (child_of kids j))) (j ∷ p) s i q n
    go (inl x) ih =
        let zero_j : 0 + j ≡ j = omega arith in
        let inner = ih x.0 (subst (λ v. ClosedIn rows (u || is_modal c) x.0 (log_in_child v l) (way_in_child v way)) zero_j (child-closed rows (u || is_modal c) kids 0 j x.0 l way k.2 x.1)) (sym (ap (λ o. if_there core_of (if_there (node_at p) o)) x.1) ∙ e) (has-down g) in
        subst (λ v. IsCausedIf rows (Composite h c d kids) l way v (j ∷ p) s i q n) (or-assoc u (is_modal c) (is_below_modal p (Some x.0)) ∙ ap (λ o. u || (is_modal c || is_below_modal p o)) (sym x.1))
        (caused-up rows h c d kids x.0 l way j x.1 ((u || is_modal c) || is_below_modal p (Some x.0)) p s i q n inner)
    go (inr m) ih = absurd (no-core (sym (ap (λ o. if_there core_of (if_there (node_at p) o)) m.0) ∙ e))

-- a firing under way stands within another, at each path
no-way : {T : Type 0} (o : Option (Begun T)) (b : Begun T) → o ≡ None → o ≡ Some b → ⊥
no-way {T} o b e g = clash (sym e ∙ g)
  where
    clash : None ≡ Some b → ⊥
    clash e = cc

pub closed-enclosed : {T A : Type 0} (rows : Rows T A) (u : Bool) (p : Path) (top : Node T A) (l : Log T) (way : UnderWay T) → ClosedIn rows u top l way → (i : ℕ) (b : Begun T) → way (p ++ (i ∷ [])) ≡ Some b → (round : Begun T) × (c : Core T) × (way p ≡ Some round) × (core_at p top ≡ Some c) × IsTagBelow (is_modal c) round.tag b.tag
closed-enclosed rows u [] (Actor h a x) l way k i b g = absurd (no-way (way (i ∷ [])) b (k.1 i []).1 g)
closed-enclosed rows u [] (Composite h c d kids) l way k i b g = let w = k.1.enclosed i b g in (w.0, c, w.1, refl, w.2)
closed-enclosed rows u (j ∷ p) (Actor h a x) l way k i b g = absurd (no-way (way (j ∷ (p ++ (i ∷ [])))) b (k.1 j (p ++ (i ∷ []))).1 g)
closed-enclosed {T} {A} rows u (j ∷ p) (Composite h c d kids) l way k i b g = go (child-or-beyond kids j) (λ x f. closed-enclosed rows (u || is_modal c) p x (log_in_child j l) (way_in_child j way) f i b g)
  where
    go : ((x : Node T A) × (child_of kids j ≡ Some x)) ⊎ ((child_of kids j ≡ None) × (length (list_of kids) ≤ j)) →
        ((x : Node T A) → ClosedIn rows (u || is_modal c) x (log_in_child j l) (way_in_child j way) → (round : Begun T) × (s : Core T) × (way (j ∷ p) ≡ Some round) × (core_at p x ≡ Some s) × IsTagBelow (is_modal s) round.tag b.tag) →
        (round : Begun T) × (s : Core T) × (way (j ∷ p) ≡ Some round) × (core_at (j ∷ p) (Composite h c d kids) ≡ Some s) × IsTagBelow (is_modal s) round.tag b.tag
    go (inl x) ih =
        let zero_j : 0 + j ≡ j = omega arith in
        let w = ih x.0 (subst (λ v. ClosedIn rows (u || is_modal c) x.0 (log_in_child v l) (way_in_child v way)) zero_j (child-closed rows (u || is_modal c) kids 0 j x.0 l way k.2 x.1)) in
        (w.0, w.1, w.2, ap (λ o. if_there core_of (if_there (node_at p) o)) x.1 ∙ w.3, w.4)
    go (inr m) ih = absurd (no-way (way (j ∷ (p ++ (i ∷ [])))) b (k.1.beyond j (p ++ (i ∷ [])) m.1).1 g)

-- what came within a firing came within one that is finished, or that is under way
pub no-event : {T : Type 0} (e : Event T) (es : List (Event T)) → es ≡ [] → Has e es → ⊥
no-event {T} e es h g = subst (λ (v : List (Event T)). Has e v) h g

by-now : {T : Type 0} (made : ℕ) (way : Option (Begun T)) (ns : List ℕ) (n : ℕ) → CameByNow made way ns → get ns 0 ≡ Some n → (n < suc made) × (n ≡ made → (b : Begun T) × (way ≡ Some b))
by-now made way [] n h e = absurd h
by-now made way (m ∷ ns) n h e = let same : m ≡ n = cc in (subst (λ v. v < suc made) same h.0, λ f. h.1 (same ∙ f))

by-rest : {T : Type 0} (made : ℕ) (way : Option (Begun T)) (ns : List ℕ) (k n : ℕ) → CameByNow made way ns → get ns (suc k) ≡ Some n → get (rest_of_rounds ns) k ≡ Some n
by-rest made way [] k n h e = absurd h
by-rest made way (m ∷ ns) k n h e = e

pub closed-within : {T A : Type 0} (rows : Rows T A) (u : Bool) (p : Path) (top : Node T A) (l : Log T) (way : UnderWay T) → ClosedIn rows u top l way → (n : ℕ) (r : Path) (e : Event T) → CameWithin l p n r e → (n < suc (firings_in (l p))) × (n ≡ firings_in (l p) → (b : Begun T) × (way p ≡ Some b))
closed-within rows u [] (Actor h a b) l way k n [] e w = absurd (none (rounds_of e) (k.0 e w.0) w.1)
  where
    none : (ns : List ℕ) → ns ≡ [] → get ns 0 ≡ Some n → ⊥
    none ns h g = clash (ap (λ v. get v 0) (sym h) ∙ g)
      where
        clash : None ≡ Some n → ⊥
        clash e = cc
closed-within rows u [] (Actor h a b) l way k n (i ∷ r) e w = absurd (no-event e (l (i ∷ r)) (k.1 i r).0 w.0)
closed-within rows u [] (Composite h c d kids) l way k n [] e w = absurd (none (rounds_of e) (k.0 e w.0) w.1)
  where
    none : (ns : List ℕ) → ns ≡ [] → get ns 0 ≡ Some n → ⊥
    none ns h g = clash (ap (λ v. get v 0) (sym h) ∙ g)
      where
        clash : None ≡ Some n → ⊥
        clash e = cc
closed-within rows u [] (Composite h c d kids) l way k n (i ∷ r) e w = by-now (firings_in (l [])) (way []) (rounds_of e) n (k.1.within i r e w.0) w.1
closed-within rows u (j ∷ p) (Actor h a b) l way k n r e w = absurd (no-event e (l (j ∷ (p ++ r))) (k.1 j (p ++ r)).0 w.0)
closed-within {T} {A} rows u (j ∷ p) (Composite h c d kids) l way k n r e w = go (child-or-beyond kids j) (λ x f g. closed-within rows (u || is_modal c) p x (log_in_child j l) (way_in_child j way) f n r (unmarked e) g)
  where
    go : ((x : Node T A) × (child_of kids j ≡ Some x)) ⊎ ((child_of kids j ≡ None) × (length (list_of kids) ≤ j)) →
        ((x : Node T A) → ClosedIn rows (u || is_modal c) x (log_in_child j l) (way_in_child j way) → CameWithin (log_in_child j l) p n r (unmarked e) → (n < suc (firings_in (all_unmarked (l (j ∷ p))))) × (n ≡ firings_in (all_unmarked (l (j ∷ p))) → (b : Begun T) × (way (j ∷ p) ≡ Some b))) →
        (n < suc (firings_in (l (j ∷ p)))) × (n ≡ firings_in (l (j ∷ p)) → (b : Begun T) × (way (j ∷ p) ≡ Some b))
    go (inl x) ih =
        let zero_j : 0 + j ≡ j = omega arith in
        let below : ClosedIn rows (u || is_modal c) x.0 (log_in_child j l) (way_in_child j way) = subst (λ v. ClosedIn rows (u || is_modal c) x.0 (log_in_child v l) (way_in_child v way)) zero_j (child-closed rows (u || is_modal c) kids 0 j x.0 l way k.2 x.1) in
        let came = k.1.within j (p ++ r) e w.0 in
        let rounds : get (rounds_of (unmarked e)) (length p) ≡ Some n = ap (λ v. get v (length p)) (rounds-unmarked e) ∙ by-rest (firings_in (l [])) (way []) (rounds_of e) (length p) n came w.1 in
        let inner = ih x.0 below (has-unmarked e (l (j ∷ (p ++ r))) w.0, rounds) in
        let same : firings_in (all_unmarked (l (j ∷ p))) ≡ firings_in (l (j ∷ p)) = count-unmarked (l (j ∷ p)) in
        (subst (λ v. n < suc v) same inner.0, λ f. inner.1 (f ∙ sym same))
    go (inr m) ih = absurd (no-event e (l (j ∷ (p ++ r))) (k.1.beyond j (p ++ r) m.1).0 w.0)
