-- The meaning's log at any fuel is closed as a part of that at a greater one.
use Rattle.std.proofs.Common.{◌≡◌, ◌⊎◌, ℕ, zero, suc, ◌+◌, ◌<◌, ◌≤◌, List, [], ◌∷◌, ◌++◌, Bool, false, ◌||◌, length, Option, Some, None, inl, inr, refl, sym, ap, ap₂, subst, arith, ◌∙◌, append-nil}
use Rattle.std.proofs.Math.Path.{fun_ext}
use Rattle.pt_meaning.specs.Basics.{Tag, Streams, IsPrefix, Log, LogBelow, Path, Firing, Event, firings_in, silent, log_then, own}
use Rattle.pt_meaning.specs.Machine.{Fault, Outcome, Done, Stuck, recorded}
use Rattle.pt_meaning.specs.Modal.{get}
use Rattle.pt_meaning.specs.Meetings.{Meets}
use Rattle.pt_meaning.specs.Node.{Rows, Node, Actor, Composite, list_of, made_of, step_at, height}
use Rattle.pt_meaning.specs.Lawful.{LawfulRows}
use Rattle.pt_meaning.specs.Job.{Turn, Fire, Ends, Limit, Schedule, Course, on_step, on_turn, goes_on, after, log_of, begin, meaning}
use Rattle.pt_laws.specs.Heights.{IsFitting}
use Rattle.pt_meaning.specs.Closed.{Has, child_of, Begun, UnderWay, is_modal, rounds_of, CameWithin, IsClosedRun, IsNext}
use Rattle.pt_laws.specs.LogsOfRuns.{log_in}
use Rattle.pt_meaning.specs.Laws.{Extends}
use Rattle.pt_laws.specs.SoundRuns.{rest_of_rounds, unmarked, log_in_child, way_in_child, CameByNow, idle, ClosedIn, KeptIn}
use Rattle.pt_laws.specs.WholeRuns.{ComesLater, MeaningIsWhole, PartIsClosed, LogsAreClosed}
use Rattle.pt_laws.proofs.FuelLaw.{step_at-grows}
use Rattle.pt_laws.proofs.JoinLaws.{log-assoc}
use Rattle.pt_laws.proofs.ClosedLaws.{child-closed, child-or-beyond, no-event, has-unmarked, rounds-unmarked, closed-caused, closed-enclosed, closed-within}
use Rattle.pt_laws.proofs.LevelLaws.{has-either}
use Rattle.pt_laws.proofs.ClosedSteps.{sound-at}
use Rattle.pt_laws.proofs.ClosedMeaning.{start-closed, start-kept, meaning-closed}
use Rattle.pt_laws.proofs.LaterLaws.{later-joins, later-nothing, later-own}
use Rattle.pt_laws.proofs.LaterSteps.{later-at}
use Rattle.pt_laws.proofs.WholeSteps.{whole-at}

-- what is behind a beginning
behind : {A : Type 0} (xs ys : List A) → IsPrefix xs ys → (zs : List A) × (ys ≡ xs ++ zs)
behind [] ys h = (ys, refl)
behind (x ∷ xs) [] h = absurd h
behind {A} (x ∷ xs) (y ∷ ys) h = let r = behind xs ys h.1 in (r.0, ap₂ (λ (v : A) (w : List A). v ∷ w) (sym h.0) r.1)

pub log-behind : {T : Type 0} (l m : Log T) → LogBelow l m → (more : Log T) × (m ≡ log_then l more)
log-behind {T} l m h = (λ p. (behind (l p) (m p) (h p)).0, fun_ext (λ p. (behind (l p) (m p) (h p)).1))

module _ {T A : Type 0} (rows : Rows T A) (law : LawfulRows rows) (k k' : ℕ) (o : k ≤ k') (m : Meets) (plan : Schedule T A) (top : Node T A) where
  abbrev pub Fine : Course T A → Type 0
  Fine c = IsFitting c.top × ClosedIn rows false top c.log idle × KeptIn rows false top c.top c.log

  abbrev pub GoesBehind : Log T → Log T → Type 0
  GoesBehind l n = (more : Log T) × (n ≡ log_then l more) × ComesLater l more

  nothing-behind : (l : Log T) → GoesBehind l l
  nothing-behind l = (silent, fun_ext (λ p. sym (append-nil (l p))), later-nothing l)

  -- a firing of the top that is done, at either fuel
  unfoldable pub after_firing : Course T A → Tag → Streams T → Node T A → Streams T → Log T → Course T A
  after_firing c tag X z out l = record { fired = suc c.fired; last = Some tag; top = z; log = log_then c.log (log_then l (own (record { number = made_of c.top; tag = tag; inputs = X; outputs = out }))) }

  pub fine-done : (j : ℕ) (c : Course T A) → Fine c → (tag : Tag) (X : Streams T) (z : Node T A) (out : Streams T) (l : Log T) → step_at rows j (height c.top) m tag c.top X ≡ Done z out l → Fine (after_firing c tag X z out l)
  unfolding after_firing
  fine-done j c h tag X z out l e = let s = sound-at rows law j (height c.top) m in let d = s.done false top c.top z c.log h.0 h.1 h.2 tag X out l e in (s.fits tag c.top z X out l h.0 e, d.0, d.1)

  firing-later : (j : ℕ) (c : Course T A) → Fine c → (tag : Tag) (X : Streams T) (r : Outcome T (Node T A)) → step_at rows j (height c.top) m tag c.top X ≡ r → ComesLater c.log (log_in r)
  firing-later j c h tag X r e = subst (λ v. ComesLater c.log (log_in v)) e ((later-at rows law j (height c.top) m).later false top c.top c.log h.0 h.1 h.2 tag X)

  -- all that a run logs comes later
  pub run-later : (n : ℕ) (c : Course T A) → Fine c → GoesBehind c.log (log_of (after k' rows m plan n c))
  unfolding after after_firing
  run-later zero c h = nothing-behind c.log
  run-later (suc n) c h = turned (plan c.fired c.last c.top) (λ d g. run-later n d g)
    where
      fired : ((d : Course T A) → Fine d → GoesBehind d.log (log_of (after k' rows m plan n d))) → (tag : Tag) (X : Streams T) (r : Outcome T (Node T A)) → step_at rows k' (height c.top) m tag c.top X ≡ r →
          GoesBehind c.log (log_of (goes_on (after k' rows m plan n) (on_step c tag (recorded (made_of c.top) tag X r))))
      fired ih tag X (Stuck fs l) e = (l, refl, firing-later k' c h tag X (Stuck fs l) e)
      fired ih tag X (Done z out l) e =
          let f : Firing T = record { number = made_of c.top; tag = tag; inputs = X; outputs = out } in
          let w = ih (after_firing c tag X z out l) (fine-done k' c h tag X z out l e) in
          let now = later-joins c.log l (own f) (firing-later k' c h tag X (Done z out l) e) (later-own (log_then c.log l) f) in
          (log_then (log_then l (own f)) w.0, w.1 ∙ sym (log-assoc c.log (log_then l (own f)) w.0), later-joins c.log (log_then l (own f)) w.0 now w.2)

      turned : (t : Turn T) → ((d : Course T A) → Fine d → GoesBehind d.log (log_of (after k' rows m plan n d))) → GoesBehind c.log (log_of (goes_on (after k' rows m plan n) (on_turn k' rows m c t)))
      turned (Fire tag X) ih = fired ih tag X (step_at rows k' (height c.top) m tag c.top X) refl
      turned (Ends e) ih = nothing-behind c.log
      turned Limit ih = nothing-behind c.log

  -- a run at both fuels
  run-whole : (n n' : ℕ) → n ≤ n' → (c : Course T A) → Fine c → GoesBehind (log_of (after k rows m plan n c)) (log_of (after k' rows m plan n' c))
  unfolding after after_firing
  run-whole zero n' u c h = run-later n' c h
  run-whole (suc n) zero u c h = absurd (omega (arith, u))
  run-whole (suc n) (suc n') u c h = turned (plan c.fired c.last c.top) (λ d g. run-whole n n' (omega (arith, u)) d g)
    where
      stuck : (tag : Tag) (X : Streams T) (fs : List Fault) (l : Log T) → step_at rows k (height c.top) m tag c.top X ≡ Stuck fs l → (r : Outcome T (Node T A)) → step_at rows k' (height c.top) m tag c.top X ≡ r → LogBelow l (log_in r) → GoesBehind (log_then c.log l) (log_then c.log (log_in r))
      stuck tag X fs l e r e' b =
          let w = log-behind l (log_in r) b in
          let more = (whole-at rows law k k' (height c.top) (height c.top) o (omega arith) m).whole false top c.top c.log h.0 h.1 h.2 tag tag X X w.0 (ap (λ v. log_in v) e' ∙ w.1 ∙ ap (λ v. log_then (log_in v) w.0) (sym e)) in
          (w.0, ap (λ v. log_then c.log v) w.1 ∙ log-assoc c.log l w.0, subst (λ v. ComesLater (log_then c.log (log_in v)) w.0) e more)

      beyond : (tag : Tag) (X : Streams T) (fs : List Fault) (l : Log T) (r : Outcome T (Node T A)) → step_at rows k' (height c.top) m tag c.top X ≡ r → LogBelow l (log_in r) → GoesBehind (log_then c.log l) (log_then c.log (log_in r)) →
          GoesBehind (log_then c.log l) (log_of (goes_on (after k' rows m plan n') (on_step c tag (recorded (made_of c.top) tag X r))))
      beyond tag X fs l (Stuck gs l') e b g = g
      beyond tag X fs l (Done z out l') e b g =
          let f : Firing T = record { number = made_of c.top; tag = tag; inputs = X; outputs = out } in
          let w = run-later n' (after_firing c tag X z out l') (fine-done k' c h tag X z out l' e) in
          let base : log_then (log_then (log_then c.log l) g.0) (own f) ≡ log_then c.log (log_then l' (own f)) = ap (λ v. log_then v (own f)) (sym g.1) ∙ sym (log-assoc c.log l' (own f)) in
          let all : log_then c.log (log_then l' (own f)) ≡ log_then (log_then c.log l) (log_then g.0 (own f)) = sym base ∙ sym (log-assoc (log_then c.log l) g.0 (own f)) in (
            log_then (log_then g.0 (own f)) w.0,
            w.1 ∙ ap (λ v. log_then v w.0) all ∙ sym (log-assoc (log_then c.log l) (log_then g.0 (own f)) w.0),
            later-joins (log_then c.log l) (log_then g.0 (own f)) w.0 (later-joins (log_then c.log l) g.0 (own f) g.2 (later-own (log_then (log_then c.log l) g.0) f)) (subst (λ v. ComesLater v w.0) all w.2),
          )

      below : (fs : List Fault) (l : Log T) (r : Outcome T (Node T A)) → Extends (Stuck fs l) r → LogBelow l (log_in r)
      below fs l (Stuck gs l') x = x.1
      below [] l (Done z out l') x = x
      below (f ∷ fs) l (Done z out l') x = absurd x

      fired : ((d : Course T A) → Fine d → GoesBehind (log_of (after k rows m plan n d)) (log_of (after k' rows m plan n' d))) → (tag : Tag) (X : Streams T) (q r : Outcome T (Node T A)) → step_at rows k (height c.top) m tag c.top X ≡ q → step_at rows k' (height c.top) m tag c.top X ≡ r → Extends q r →
          GoesBehind (log_of (goes_on (after k rows m plan n) (on_step c tag (recorded (made_of c.top) tag X q)))) (log_of (goes_on (after k' rows m plan n') (on_step c tag (recorded (made_of c.top) tag X r))))
      fired ih tag X (Done z out l) r e e' x = rw x (ih (after_firing c tag X z out l) (fine-done k c h tag X z out l e))
      fired ih tag X (Stuck fs l) r e e' x = let b = below fs l r x in beyond tag X fs l r e' b (stuck tag X fs l e r e' b)

      turned : (t : Turn T) → ((d : Course T A) → Fine d → GoesBehind (log_of (after k rows m plan n d)) (log_of (after k' rows m plan n' d))) → GoesBehind (log_of (goes_on (after k rows m plan n) (on_turn k rows m c t))) (log_of (goes_on (after k' rows m plan n') (on_turn k' rows m c t)))
      turned (Fire tag X) ih = fired ih tag X (step_at rows k (height c.top) m tag c.top X) (step_at rows k' (height c.top) m tag c.top X) refl refl (step_at-grows rows law k k' o (height c.top) (height c.top) (omega arith) m tag c.top X)
      turned (Ends e) ih = nothing-behind c.log
      turned Limit ih = nothing-behind c.log

pub meaning-is-whole : {T A : Type 0} → MeaningIsWhole T A
meaning-is-whole rows law m plan top f s k k' o = run-whole rows law k k' o m plan top k k' o (begin top) (f, start-closed rows false top, start-kept rows false top s)

-- an event has a round for each composite above it
no-rounds : {T : Type 0} (e : Event T) (n k : ℕ) → rounds_of e ≡ [] → get (rounds_of e) k ≡ Some n → ⊥
no-rounds e n k h g = clash (ap (λ v. get v k) (sym h) ∙ g)
  where
    clash : None ≡ Some n → ⊥
    clash e = cc

deeper : {T : Type 0} (made : ℕ) (way : Option (Begun T)) (ns : List ℕ) (k n : ℕ) → CameByNow made way ns → get ns (suc k) ≡ Some n → get (rest_of_rounds ns) k ≡ Some n
deeper made way [] k n h e = absurd h
deeper made way (m ∷ ns) k n h e = e

rounds-end : {T A : Type 0} (rows : Rows T A) (u : Bool) (p : Path) (top : Node T A) (l : Log T) (way : UnderWay T) → ClosedIn rows u top l way → (e : Event T) (n : ℕ) → Has e (l p) → get (rounds_of e) (length p) ≡ Some n → ⊥
rounds-end rows u [] (Actor h a b) l way k e n g w = no-rounds e n 0 (k.0 e g) w
rounds-end rows u [] (Composite h c d kids) l way k e n g w = no-rounds e n 0 (k.0 e g) w
rounds-end rows u (j ∷ p) (Actor h a b) l way k e n g w = no-event e (l (j ∷ p)) (k.1 j p).0 g
rounds-end {T} {A} rows u (j ∷ p) (Composite h c d kids) l way k e n g w = go (child-or-beyond kids j) (λ x f y v. rounds-end rows (u || is_modal c) p x (log_in_child j l) (way_in_child j way) f (unmarked e) n y v)
  where
    go : ((x : Node T A) × (child_of kids j ≡ Some x)) ⊎ ((child_of kids j ≡ None) × (length (list_of kids) ≤ j)) → ((x : Node T A) → ClosedIn rows (u || is_modal c) x (log_in_child j l) (way_in_child j way) → Has (unmarked e) (log_in_child j l p) → get (rounds_of (unmarked e)) (length p) ≡ Some n → ⊥) → ⊥
    go (inl x) ih =
        let zero_j : 0 + j ≡ j = omega arith in
        let below : ClosedIn rows (u || is_modal c) x.0 (log_in_child j l) (way_in_child j way) = subst (λ v. ClosedIn rows (u || is_modal c) x.0 (log_in_child v l) (way_in_child v way)) zero_j (child-closed rows (u || is_modal c) kids 0 j x.0 l way k.2 x.1) in
        ih x.0 below (has-unmarked e (l (j ∷ p)) g) (ap (λ v. get v (length p)) (rounds-unmarked e) ∙ deeper (firings_in (l [])) (way []) (rounds_of e) (length p) n (k.1.within j p e g) w)
    go (inr b) ih = no-event e (l (j ∷ p)) (k.1.beyond j p b.1).0 g

pub part-is-closed : {T A : Type 0} → PartIsClosed T A
part-is-closed {T} {A} rows top m l more way way' same closed whole later = record {
  caused = λ p c e i q n g. closed-caused rows false p top l way closed c e i q n g;
  enclosed = λ p i b e. closed-enclosed rows false p top l way closed i b e;
  begun = λ p n r e w made. (closed-within rows false p top l way closed n r e w).1 (sym made);
  finished = λ p n r e w. (closed-within rows false p top l way closed n r e w).0;
  whole = λ p k a r g v. either p k r g a v r refl (has-either g (l (p ++ r)) (more (p ++ r)) (subst (λ (u : Log T). Has g (u (p ++ r))) same v.0));
}
  where
    either : (p : Path) (k : ℕ) (r : Path) (g : Event T) → k < firings_in (l p) → CameWithin m p k r g → (r' : Path) → r ≡ r' → Has g (l (p ++ r)) ⊎ Has g (more (p ++ r)) → Has g (l (p ++ r))
    either p k r g a v r' e (inl h) = h
    either p k r g a v [] e (inr h) = absurd (rounds-end rows false p top m way' whole g k (subst (λ q. Has g (m q)) (ap (λ u. p ++ u) e ∙ append-nil p) v.0) v.1)
    either p k r g a v (i ∷ q) e (inr h) =
        let w = later p i q g (subst (λ u. Has g (more (p ++ u))) e h) in
        let same_number : k ≡ w.0 = some-nat k w.0 (sym v.1 ∙ w.1) in
        absurd (omega (arith, same_number, w.2, a))
      where
        some-nat : (x y : ℕ) → Some x ≡ Some y → x ≡ y
        some-nat x y e = cc

-- and of a run, where the firing under way is the job's next
pub part-of-run : {T A : Type 0} (rows : Rows T A) (m : Meets) (plan : Schedule T A) (top : Node T A) (n l more : Log T) (way way' : UnderWay T) → n ≡ log_then l more → ClosedIn rows false top l way → ClosedIn rows false top n way' → ComesLater l more → ((p : Path) (b : Begun T) → way p ≡ Some b → IsNext rows m plan top l p b) → IsClosedRun rows m plan top n l way
unfolding part-is-closed
part-of-run rows m plan top n l more way way' same closed whole later next = record { inside = part-is-closed rows top n l more way way' same closed whole later; next = next }

pub logs-are-closed : {T A : Type 0} → LogsAreClosed T A
logs-are-closed rows law m plan top f s k =
    let a = meaning-closed rows law k m plan top f s in (
      a.0,
      λ k' o.
          let w = meaning-is-whole rows law m plan top f s k k' o in
          let b = meaning-closed rows law k' m plan top f s in
          part-of-run rows m plan top (meaning k' rows m plan top) (meaning k rows m plan top) w.0 a.0 b.0 w.1 a.1 b.1 w.2 a.2,
    )
