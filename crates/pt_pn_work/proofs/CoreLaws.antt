-- The processes of a core one by one, and what its events make of what contracts see.
use Rattle.std.proofs.Common.{◌≡◌, ◌⊎◌, inl, inr, ℕ, zero, suc, ◌+◌, ◌-◌, ◌<◌, ◌≤◌, List, [], ◌∷◌, ◌++◌, Bool, true, false, ◌&&◌, not, nat_eq, nat_lt, length, map, set, take, drop, get_or, replicate, Option, Some, None, if◌then◌else◌, refl, sym, ap, ap₂, subst, ◌∙◌, arith, length-append, length-set, zero-add, suc-add}
use Rattle.std.specs.Prelude.{slice_get}
use Rattle.std.proofs.lemmas.Bool.{ltb-true, ltb-false}
use Rattle.std.proofs.lemmas.Bool.Decides.{nat_tests}
use Rattle.std.proofs.Math.ListN.{get_or-map}
use Rattle.std.proofs.Math.Seq.{take-append_seam}
use Rattle.pt_meaning.specs.Tag.{Tag}
use Rattle.pt_meaning.specs.Streams.{Streams, at, change_at}
use Rattle.pt_meaning.specs.Machine.{Need, Over, Counts, Any, Takes, front}
use Rattle.pt_meaning.specs.Process.{Put, lacking, emptied}
use Rattle.pt_meaning.specs.Running.{total}
use Rattle.pt_laws.specs.Channels.{further}
use Rattle.pt_laws.specs.TickRuns.{places_at}
use Rattle.pt_recv.specs.Lines.{list_at, spare_at, pushed, popped, lowered, raised}
use Rattle.pt_value.specs.declared.token.Token.{Token}
use Rattle.pt_pn_laws.specs.State.{Network, PnState, Stage, MayGet, MayPut, MayFire, IsStopped, net_of, got_of, need_at, wanted, offset_of, lacking_place, has_room, got_from, put_by, with_places, in_stage, after_get, after_put, Asked}
use Rattle.pt_process.proofs.NetworkLaws.{at-get-or}
use Rattle.pt_process.specs.declared.process.Event.{Event}
use Rattle.pt_process.specs.declared.process.Event.TheVariants as event
use Rattle.pt_process.specs.Process.{Standing, DoesNext, one_if, count_on, with_token, with_put_made, with_handed}
use Rattle.pt_pn_work.specs.Core.{State, nobody, needs_of, gots_of, puts_of_all, handed_of, gathered_of, state_with, staged_on, ArePlaced, NoneHanded, IsAlone, LacksAt, GetsAt, PutsOn, Does}

-- lists of which one element is changed
pub change-set : {A : Type 0} (xs : List A) (i : ℕ) (x y : A) (f : A → A) → i < length xs → x ≡ get_or xs i x → y ≡ f x → set xs i y ≡ change_at i f xs
change-set [] i x y f h e z = absurd (omega (arith, h))
change-set (w ∷ xs) zero x y f h e z = ap (λ v. v ∷ xs) (z ∙ ap f e)
change-set (w ∷ xs) (suc i) x y f h e z = ap (λ v. w ∷ v) (change-set xs i x y f (omega (arith, h)) e z)

pub set-same : {A : Type 0} (xs : List A) (i : ℕ) (x y : A) → x ≡ get_or xs i x → y ≡ x → set xs i y ≡ xs
set-same [] i x y e z = refl
set-same (w ∷ xs) zero x y e z = ap (λ v. v ∷ xs) (z ∙ e)
set-same (w ∷ xs) (suc i) x y e z = ap (λ v. w ∷ v) (set-same xs i x y e z)

pub read-as : {A : Type 0} (xs : List A) (i : ℕ) (x d : A) → i < length xs → x ≡ get_or xs i x → x ≡ get_or xs i d
read-as [] i x d h e = absurd (omega (arith, h))
read-as (w ∷ xs) zero x d h e = e
read-as (w ∷ xs) (suc i) x d h e = read-as xs i x d (omega (arith, h)) e

pub change-at : {A : Type 0} (xs : List A) (i : ℕ) (d : A) (f : A → A) → i < length xs → get_or (change_at i f xs) i d ≡ f (get_or xs i d)
change-at [] i d f h = absurd (omega (arith, h))
change-at (w ∷ xs) zero d f h = refl
change-at (w ∷ xs) (suc i) d f h = change-at xs i d f (omega (arith, h))

pub change-other : {A : Type 0} (xs : List A) (i j : ℕ) (d : A) (f : A → A) → nat_eq i j ≡ false → get_or (change_at i f xs) j d ≡ get_or xs j d
change-other [] i j d f e = refl
change-other (w ∷ xs) zero zero d f e = absurd (cc)
change-other (w ∷ xs) zero (suc j) d f e = refl
change-other (w ∷ xs) (suc i) zero d f e = refl
change-other (w ∷ xs) (suc i) (suc j) d f e = change-other xs i j d f (next i j e)
  where
    next : (c d : ℕ) → nat_eq (suc c) (suc d) ≡ false → nat_eq c d ≡ false
    next c d e = grind (arith, nat_tests)

pub change-long : {A : Type 0} (xs : List A) (i : ℕ) (f : A → A) → length (change_at i f xs) ≡ length xs
change-long [] i f = refl
change-long (w ∷ xs) zero f = refl
change-long (w ∷ xs) (suc i) f = ap (λ v. suc v) (change-long xs i f)

pub map-change : {A B : Type 0} (m : A → B) (g : A → A) (h : B → B) (xs : List A) (i : ℕ) → ((x : A) → m (g x) ≡ h (m x)) → map m (change_at i g xs) ≡ change_at i h (map m xs)
map-change m g h [] i e = refl
map-change m g h (w ∷ xs) zero e = ap (λ v. v ∷ map m xs) (e w)
map-change m g h (w ∷ xs) (suc i) e = ap (λ v. m w ∷ v) (map-change m g h xs i e)

pub map-kept : {A B : Type 0} (m : A → B) (g : A → A) (xs : List A) (i : ℕ) → ((x : A) → m (g x) ≡ m x) → map m (change_at i g xs) ≡ map m xs
map-kept m g [] i e = refl
map-kept m g (w ∷ xs) zero e = ap (λ v. v ∷ map m xs) (e w)
map-kept m g (w ∷ xs) (suc i) e = ap (λ v. m w ∷ v) (map-kept m g xs i e)

-- setting what a function of the element is
pub set-change : {A : Type 0} (xs : List A) (i : ℕ) (d : A) (f : A → A) → set xs i (f (get_or xs i d)) ≡ change_at i f xs
set-change [] i d f = refl
set-change (w ∷ xs) zero d f = refl
set-change (w ∷ xs) (suc i) d f = ap (λ v. w ∷ v) (set-change xs i d f)

change-first : {A : Type 0} (X Y : List A) (k : ℕ) (f : A → A) → k < length X → change_at k f (X ++ Y) ≡ change_at k f X ++ Y
change-first [] Y k f h = absurd (omega (arith, h))
change-first (x ∷ X) Y zero f h = refl
change-first (x ∷ X) Y (suc k) f h = ap (λ v. x ∷ v) (change-first X Y k f (omega (arith, h)))

change-behind : {A : Type 0} (X Y : List A) (n k : ℕ) (f : A → A) → length X ≡ n → change_at (n + k) f (X ++ Y) ≡ X ++ change_at k f Y
change-behind [] Y n k f e = ap (λ j. change_at j f Y) (ap (λ m. m + k) (sym e) ∙ zero-add k)
change-behind (x ∷ X) Y zero k f e = absurd (omega (arith, e))
change-behind (x ∷ X) Y (suc n) k f e = ap (λ j. change_at j f (x ∷ (X ++ Y))) (suc-add n k) ∙ ap (λ v. x ∷ v) (change-behind X Y n k f (omega (arith, e)))

drop-seam : {A : Type 0} (X Y : List A) (n k : ℕ) → length X ≡ n → drop (n + k) (X ++ Y) ≡ drop k Y
drop-seam [] Y n k e = ap (λ j. drop j Y) (ap (λ m. m + k) (sym e) ∙ zero-add k)
drop-seam (x ∷ X) Y zero k e = absurd (omega (arith, e))
drop-seam (x ∷ X) Y (suc n) k e = ap (λ j. drop j (x ∷ (X ++ Y))) (suc-add n k) ∙ drop-seam X Y n k (omega (arith, e))

-- the processes
pub placed-long : (ns : List ℕ) (ps : List Standing) → ArePlaced ns ps → length ps ≡ length ns
placed-long [] [] a = refl
placed-long [] (p ∷ ps) a = absurd a
placed-long (n ∷ ns) [] a = absurd a
placed-long (n ∷ ns) (p ∷ ps) a = ap (λ v. suc v) (placed-long ns ps a.1)

pub placed-at : (ns : List ℕ) (ps : List Standing) (i : ℕ) → ArePlaced ns ps → i < length ns → length (get_or ps i nobody).got ≡ get_or ns i 0
placed-at [] ps i a h = absurd (omega (arith, h))
placed-at (n ∷ ns) [] i a h = absurd a
placed-at (n ∷ ns) (p ∷ ps) zero a h = a.0
placed-at (n ∷ ns) (p ∷ ps) (suc i) a h = placed-at ns ps i a.1 (omega (arith, h))

pub placed-change : (ns : List ℕ) (ps : List Standing) (i : ℕ) (g : Standing → Standing) → ArePlaced ns ps → ((p : Standing) → length (g p).got ≡ length p.got) → ArePlaced ns (change_at i g ps)
placed-change [] [] i g a e = tt
placed-change [] (p ∷ ps) i g a e = absurd a
placed-change (n ∷ ns) [] i g a e = absurd a
placed-change (n ∷ ns) (p ∷ ps) zero g a e = (e p ∙ a.0, a.1)
placed-change (n ∷ ns) (p ∷ ps) (suc i) g a e = (a.0, placed-change ns ps i g a.1 e)

pub gathered-change : (ns : List ℕ) (ps : List Standing) (i q : ℕ) (f : List Token → List Token) (g : Standing → Standing) → ArePlaced ns ps → i < length ns → q < get_or ns i 0 → ((p : Standing) → (g p).got ≡ change_at q f p.got) →
    gathered_of (change_at i g ps) ≡ change_at (offset_of ns i + q) f (gathered_of ps)
gathered-change [] ps i q f g a h l e = absurd (omega (arith, h))
gathered-change (n ∷ ns) [] i q f g a h l e = absurd a
gathered-change (n ∷ ns) (p ∷ ps) zero q f g a h l e = ap (λ v. v ++ gathered_of ps) (e p) ∙ sym (change-first p.got (gathered_of ps) q f (let z = a.0 in omega (arith, l, z))) ∙ ap (λ j. change_at j f (p.got ++ gathered_of ps)) (sym (zero-add q))
gathered-change (n ∷ ns) (p ∷ ps) (suc i) q f g a h l e =
    ap (λ v. p.got ++ v) (gathered-change ns ps i q f g a.1 (omega (arith, h)) l e) ∙ sym (change-behind p.got (gathered_of ps) n (offset_of ns i + q) f a.0) ∙ ap (λ j. change_at j f (p.got ++ gathered_of ps)) (moved n (offset_of ns i) q)
  where
    moved : (n o q : ℕ) → n + (o + q) ≡ (n + o) + q
    moved n o q = omega arith

pub gathered-kept : (ps : List Standing) (i : ℕ) (g : Standing → Standing) → ((p : Standing) → (g p).got ≡ p.got) → gathered_of (change_at i g ps) ≡ gathered_of ps
gathered-kept [] i g e = refl
gathered-kept (p ∷ ps) zero g e = ap (λ v. v ++ gathered_of ps) (e p)
gathered-kept (p ∷ ps) (suc i) g e = ap (λ v. p.got ++ v) (gathered-kept ps i g e)

pub part-is : (ns : List ℕ) (ps : List Standing) (i : ℕ) → ArePlaced ns ps → i < length ns → places_at ns i (gathered_of ps) ≡ (get_or ps i nobody).got
part-is [] ps i a h = absurd (omega (arith, h))
part-is (n ∷ ns) [] i a h = absurd a
part-is (n ∷ ns) (p ∷ ps) zero a h = ap (λ k. take k (p.got ++ gathered_of ps)) (sym a.0) ∙ take-append_seam p.got (gathered_of ps)
part-is (n ∷ ns) (p ∷ ps) (suc i) a h = ap (λ v. take (get_or ns i 0) v) (drop-seam p.got (gathered_of ps) n (total (take i ns)) a.0) ∙ part-is ns ps i a.1 (omega (arith, h))

pub need-is : (ps : List Standing) (i : ℕ) → get_or (needs_of ps) i Over ≡ (get_or ps i nobody).need
need-is ps i = get_or-map (λ (p : Standing). p.need) ps i nobody

pub puts-is : (ps : List Standing) (i : ℕ) → at (puts_of_all ps) i ≡ (get_or ps i nobody).puts
puts-is ps i = at-get-or (puts_of_all ps) i ∙ get_or-map (λ (p : Standing). p.puts) ps i nobody

pub handed-is : (ps : List Standing) (i : ℕ) → get_or (handed_of ps) i false ≡ (get_or ps i nobody).handed
handed-is ps i = get_or-map (λ (p : Standing). p.handed) ps i nobody

-- what waits on a channel
pub one-staged : (d : ℕ) (puts : List (List (Put Token))) (i : ℕ) (u : Put Token) (us : List (Put Token)) → at puts i ≡ u ∷ us → staged_on d puts ≡ one_if (nat_eq u.channel d) + staged_on d (change_at i (λ vs. drop 1 vs) puts)
one-staged d [] i u us e = absurd (cc)
one-staged d (vs ∷ puts) zero u us e = ap (λ v. count_on d v + staged_on d puts) e ∙ plus (one_if (nat_eq u.channel d)) (count_on d us) (staged_on d puts) ∙ ap (λ v. one_if (nat_eq u.channel d) + (count_on d (drop 1 v) + staged_on d puts)) (sym e)
  where
    plus : (a b c : ℕ) → (a + b) + c ≡ a + (b + c)
    plus a b c = omega arith
one-staged d (vs ∷ puts) (suc i) u us e = let r = one-staged d puts i u us e in omega (arith, r)

pub made-first : (puts : List (List (Put Token))) (i : ℕ) (u : Put Token) (us : List (Put Token)) → at puts i ≡ u ∷ us → change_at i (λ vs. drop 1 vs) puts ≡ set puts i us
made-first [] i u us e = refl
made-first (vs ∷ puts) zero u us e = ap (λ v. drop 1 v ∷ puts) e
made-first (vs ∷ puts) (suc i) u us e = ap (λ v. vs ∷ v) (made-first puts i u us e)

front-take : (xs : List Token) (x : Token) → slice_get xs 0 ≡ Some x → take 1 xs ≡ x ∷ []
front-take [] x e = absurd (cc)
front-take (y ∷ xs) x e = ap (λ v. v ∷ []) (some-is y x e)
  where
    some-is : (a c : Token) → Option.Some a ≡ Option.Some c → a ≡ c
    some-is a c e = cc

pub list-is : (X : Streams Token) (c : ℕ) → list_at X c ≡ at X c
list-is X c = sym (at-get-or X c)

module _ (n : Network Token) (ps : List Standing) (K : List ℕ) (L : Streams Token) (t : Tag) (g : Stage) (a : ArePlaced n.plan.net.places ps) where
  abbrev s : State
  s = state_with n ps K L t g

  abbrev ns : List ℕ
  ns = n.plan.net.places

  pub wanted-is : (i place : ℕ) → LacksAt s i place → wanted s i ≡ Some (offset_of ns i + place)
  wanted-is i place l = ap (λ v. further (offset_of ns i) v) l.lacks

  pub may-get : (i place : ℕ) → GetsAt s i place → MayGet s i
  may-get i place h = record { there = h.there; none = h.next.none; channel = offset_of ns i + place; wants = wanted-is i place h.next; some = h.some }

  -- a process takes its next token
  pub get-is : (i place : ℕ) (x : Token) (ps' : List Standing) (L' : Streams Token) → GetsAt s i place → slice_get (list_at L (offset_of ns i + place)) 0 ≡ Some x → ps' ≡ change_at i (with_token place x) ps → L' ≡ popped L (offset_of ns i + place) →
      state_with n ps' K L' t g ≡ after_get i s
  get-is i place x ps' L' h f e l =
      let c : ℕ = offset_of ns i + place in
      let one : List Token → List Token = λ xs. xs ++ (x ∷ []) in
      let gathered : gathered_of ps' ≡ change_at c (λ xs. xs ++ take 1 (at L c)) (gathered_of ps) =
      ap gathered_of e ∙ gathered-change ns ps i place one (with_token place x) a h.there h.next.within (λ p. refl) ∙ ap (λ w. change_at c (λ xs. xs ++ w) (gathered_of ps)) (sym (ap (λ v. take 1 v) (sym (list-is L c)) ∙ front-take (list_at L c) x f)) in
      let queued : L' ≡ change_at c (λ xs. drop 1 xs) L = l ∙ set-change L c [] (λ xs. drop 1 xs) in
      ap₂ (λ G Q. let r : State = record { network = n; needs = needs_of ps'; capacity = K; halfway = record { gathered = G; queued = Q; puts = puts_of_all ps' }; tag = t; stage = g } in r) gathered queued ∙
      ap₂ (λ N U. let r : State = record { network = n; needs = N; capacity = K; halfway = record { gathered = change_at c (λ xs. xs ++ take 1 (at L c)) (gathered_of ps); queued = change_at c (λ xs. drop 1 xs) L; puts = U }; tag = t; stage = g } in r)
      (ap needs_of e ∙ map-kept (λ (p : Standing). p.need) (with_token place x) ps i (λ p. refl)) (ap puts_of_all e ∙ map-kept (λ (p : Standing). p.puts) (with_token place x) ps i (λ p. refl)) ∙
      ap (λ w. let r : State = record { network = n; needs = needs_of ps; capacity = K; halfway = got_from w s.halfway; tag = t; stage = g } in r) (sym (wanted-is i place h.next))

  -- a process makes its next put
  pub put-is : (i : ℕ) (u : Put Token) (us : List (Put Token)) (ps' : List Standing) (L' : Streams Token) → at (puts_of_all ps) i ≡ u ∷ us → ps' ≡ change_at i with_put_made ps → L' ≡ pushed L u.channel u.token → state_with n ps' K L' t g ≡ after_put i s
  put-is i u us ps' L' z e l =
      let c : ℕ = u.channel in
      let queued : L' ≡ change_at c (λ xs. xs ++ (u.token ∷ [])) L = l ∙ set-change L c [] (λ xs. xs ++ (u.token ∷ [])) in
      let puts : puts_of_all ps' ≡ set (puts_of_all ps) i us = ap puts_of_all e ∙ map-change (λ (p : Standing). p.puts) with_put_made (λ vs. drop 1 vs) ps i (λ p. refl) ∙ made-first (puts_of_all ps) i u us z in
      ap₂ (λ Q U. let r : State = record { network = n; needs = needs_of ps'; capacity = K; halfway = record { gathered = gathered_of ps'; queued = Q; puts = U }; tag = t; stage = g } in r) queued puts ∙
      ap₂ (λ N G. let r : State = record { network = n; needs = N; capacity = K; halfway = record { gathered = G; queued = change_at c (λ xs. xs ++ (u.token ∷ [])) L; puts = set (puts_of_all ps) i us }; tag = t; stage = g } in r)
      (ap needs_of e ∙ map-kept (λ (p : Standing). p.need) with_put_made ps i (λ p. refl)) (ap gathered_of e ∙ gathered-kept ps i with_put_made (λ p. refl)) ∙
      ap (λ v. let r : State = record { network = n; needs = needs_of ps; capacity = K; halfway = put_by i v s.halfway; tag = t; stage = g } in r) (sym z)

  -- what a process does next is what contracts see of it
  pub puts-on : (i channel : ℕ) → (u : Put Token) × (us : List (Put Token)) × ((get_or ps i nobody).puts ≡ u ∷ us) × (u.channel ≡ channel) → PutsOn s i channel
  puts-on i channel (u, us, e, z) = record { first = u; rest = us; next = puts-is ps i ∙ e; on = z }

  pub lacks-at : (i place : ℕ) → i < length ns → ((get_or ps i nobody).puts ≡ []) × (lacking_place (get_or ps i nobody).need (get_or ps i nobody).got ≡ Some place) × (place < length (get_or ps i nobody).got) → LacksAt s i place
  lacks-at i place h (e, l, w) = record {
    none = puts-is ps i ∙ e;
    lacks = ap₂ (λ m v. lacking_place m v) (need-is ps i) (part-is ns ps i a h) ∙ l;
    within = let z = placed-at ns ps i a h in omega (arith, w, z);
  }

  pub fires-so : (i : ℕ) → i < length ns → ((get_or ps i nobody).puts ≡ []) × (left : Streams Token) × (front (get_or ps i nobody).need (get_or ps i nobody).got ≡ Takes (get_or ps i nobody).got left) → MayFire s i
  fires-so i h (e, left, f) = record {
    there = h;
    none = puts-is ps i ∙ e;
    left = left;
    ready = ap₂ (λ m v. front m v) (need-is ps i) (part-is ns ps i a h) ∙ f ∙ ap (λ v. Takes v left) (sym (part-is ns ps i a h));
  }

  pub over-stops : (i : ℕ) → ((get_or ps i nobody).puts ≡ []) × ((get_or ps i nobody).need ≡ Over) → IsStopped s i (at s.halfway.puts i) (need_at s i)
  over-stops i (e, o) = subst (λ v. IsStopped s i v (need_at s i)) (sym (puts-is ps i ∙ e)) (subst (λ v. IsStopped s i [] v) (sym (need-is ps i ∙ o)) tt)

  pub does-so : (i : ℕ) → i < length ns → (ev : Event) → DoesNext (get_or ps i nobody) ev → Does s i ev
  does-so i h (event.Put channel) d = puts-on i channel d
  does-so i h (event.Get place) d = lacks-at i place h d
  does-so i h event.Fire d = fires-so i h d
  does-so i h event.Over d = over-stops i d

  -- a process hands over what it has gathered
  pub fire-is : (i : ℕ) (ps' : List Standing) → ps' ≡ change_at i with_handed ps → state_with n ps' K L t (Asked i) ≡ in_stage (Asked i) s
  fire-is i ps' e =
      ap₂ (λ N G. let r : State = record { network = n; needs = N; capacity = K; halfway = record { gathered = G; queued = L; puts = puts_of_all ps' }; tag = t; stage = Asked i } in r)
      (ap needs_of e ∙ map-kept (λ (p : Standing). p.need) with_handed ps i (λ p. refl)) (ap gathered_of e ∙ gathered-kept ps i with_handed (λ p. refl)) ∙
      ap (λ U. let r : State = record { network = n; needs = needs_of ps; capacity = K; halfway = record { gathered = gathered_of ps; queued = L; puts = U }; tag = t; stage = Asked i } in r)
      (ap puts_of_all e ∙ map-kept (λ (p : Standing). p.puts) with_handed ps i (λ p. refl))

  -- where no process has handed over its tokens
  pub not-handed : NoneHanded ps → (i : ℕ) → (get_or ps i nobody).handed ≡ false
  not-handed h i = sym (handed-is ps i) ∙ h i

  pub alone-now : (i : ℕ) (ps' : List Standing) → NoneHanded ps → i < length ns → at (puts_of_all ps) i ≡ [] → ps' ≡ change_at i with_handed ps → IsAlone i ps'
  alone-now i ps' h l e z = subst (λ v. IsAlone i v) (sym z) (record {
    there = let q = placed-long ns ps a in let w = change-long ps i with_handed in omega (arith, q, w, l);
    handed = handed-is (change_at i with_handed ps) i ∙ ap (λ (p : Standing). p.handed) (change-at ps i nobody with_handed (let q = placed-long ns ps a in omega (arith, q, l)));
    others = λ j d. handed-is (change_at i with_handed ps) j ∙ ap (λ (p : Standing). p.handed) (change-other ps i j nobody with_handed d) ∙ sym (handed-is ps j) ∙ h j;
    none = ap (λ v. get_or v i []) (map-kept (λ (p : Standing). p.puts) with_handed ps i (λ p. refl)) ∙ sym (at-get-or (puts_of_all ps) i) ∙ e;
  })

-- which have handed over stays
pub handed-kept : (ps ps' : List Standing) (i : ℕ) (g : Standing → Standing) → NoneHanded ps → ((p : Standing) → (g p).handed ≡ p.handed) → ps' ≡ change_at i g ps → NoneHanded ps'
handed-kept ps ps' i g h e z = subst (λ v. NoneHanded v) (sym z) (λ j. ap (λ v. get_or v j false) (map-kept (λ (p : Standing). p.handed) g ps i e) ∙ h j)

-- a process that waits
pub put-stops : (s : State) (i channel : ℕ) → PutsOn s i channel → has_room s channel ≡ false → IsStopped s i (at s.halfway.puts i) (need_at s i)
put-stops s i channel p r = subst (λ v. IsStopped s i v (need_at s i)) (sym p.next) (ap (λ c. has_room s c) p.on ∙ r)

pub put-may : (s : State) (i channel : ℕ) → i < length (net_of s).places → PutsOn s i channel → has_room s channel ≡ true → MayPut s i
put-may s i channel h p r = record { there = h; first = p.first; rest = p.rest; next = p.next; room = ap (λ c. has_room s c) p.on ∙ r }

no-tokens : (xs : List Token) → length xs ≤ 0 → xs ≡ []
no-tokens [] h = refl
no-tokens (x ∷ xs) h = absurd (omega (arith, h))

pub get-stops : (s : State) (i place : ℕ) → LacksAt s i place → length (at s.halfway.queued (offset_of (net_of s).places i + place)) ≤ 0 → IsStopped s i (at s.halfway.puts i) (need_at s i)
get-stops s i place l e = subst (λ v. IsStopped s i v (need_at s i)) (sym l.none) (by (need_at s i) l.lacks)
  where
    by : (m : Need) → lacking_place m (got_of s i) ≡ Some place → IsStopped s i [] m
    by Over z = tt
    by Any z = absurd (cc)
    by (Counts ms) z = (place, z, no-tokens (at s.halfway.queued (offset_of (net_of s).places i + place)) e)

-- room for a put
pub staged-there : (d : ℕ) (puts : List (List (Put Token))) (P : List ℕ) → ((k : ℕ) → staged_on k puts ≤ get_or P k 0) → (i : ℕ) (u : Put Token) (us : List (Put Token)) → at puts i ≡ u ∷ us → u.channel ≡ d → (1 ≤ get_or P d 0) × (d < length P)
staged-there d puts P h i u us e z =
    let a = one-staged d puts i u us e in
    let b : nat_eq u.channel d ≡ true = grind (arith, nat_tests) in
    let c = ap one_if b in
    let r = h d in
    let l : 1 ≤ get_or P d 0 = omega (arith, a, c, r) in
    (l, within P d l)
  where
    within : (P : List ℕ) (d : ℕ) → 1 ≤ get_or P d 0 → d < length P
    within [] d l = absurd (omega (arith, l))
    within (p ∷ P) zero l = omega arith
    within (p ∷ P) (suc d) l = let r = within P d l in omega (arith, r)

pub staged-less : (puts puts' : List (List (Put Token))) (P : List ℕ) (i : ℕ) (u : Put Token) (us : List (Put Token)) → ((k : ℕ) → staged_on k puts ≤ get_or P k 0) → at puts i ≡ u ∷ us → u.channel < length P → puts' ≡ change_at i (λ vs. drop 1 vs) puts →
    (d : ℕ) → staged_on d puts' ≤ get_or (set P u.channel (get_or P u.channel 0 - 1)) d 0
staged-less puts puts' P i u us h e l z d = subst (λ v. staged_on d v ≤ get_or (set P u.channel (get_or P u.channel 0 - 1)) d 0) (sym z) (by (nat_eq u.channel d) refl)
  where
    same : (P : List ℕ) (c x : ℕ) → c < length P → get_or (set P c x) c 0 ≡ x
    same [] c x l = absurd (omega (arith, l))
    same (p ∷ P) zero x l = refl
    same (p ∷ P) (suc c) x l = same P c x (omega (arith, l))

    other : (P : List ℕ) (c d x : ℕ) → nat_eq c d ≡ false → get_or (set P c x) d 0 ≡ get_or P d 0
    other [] c d x e = refl
    other (p ∷ P) zero zero x e = absurd (cc)
    other (p ∷ P) zero (suc d) x e = refl
    other (p ∷ P) (suc c) zero x e = refl
    other (p ∷ P) (suc c) (suc d) x e = other P c d x (next c d e)
      where
        next : (c d : ℕ) → nat_eq (suc c) (suc d) ≡ false → nat_eq c d ≡ false
        next c d e = grind (arith, nat_tests)

    by : (b : Bool) → nat_eq u.channel d ≡ b → staged_on d (change_at i (λ vs. drop 1 vs) puts) ≤ get_or (set P u.channel (get_or P u.channel 0 - 1)) d 0
    by true w =
        let y : u.channel ≡ d = grind (arith, nat_tests) in
        let a = one-staged d puts i u us e in
        let c = ap one_if w in
        let r = h d in
        let q = ap (λ k. get_or (set P u.channel (get_or P u.channel 0 - 1)) k 0) (sym y) ∙ same P u.channel (get_or P u.channel 0 - 1) l ∙ ap (λ k. get_or P k 0 - 1) y in
        omega (arith, a, c, r, q)
    by false w =
        let a = one-staged d puts i u us e in
        let c = ap one_if w in
        let r = h d in
        let q = other P u.channel d (get_or P u.channel 0 - 1) w in
        omega (arith, a, c, r, q)

pub room-less : (P S : List ℕ) (c : ℕ) → ((d : ℕ) → get_or P d 0 ≤ spare_at S d) → c < length P → length S ≡ length P → (d : ℕ) → get_or (set P c (get_or P c 0 - 1)) d 0 ≤ spare_at (lowered S c) d
room-less P S c h l m d = both P S c d l m (h d)
  where
    both : (P S : List ℕ) (c d : ℕ) → c < length P → length S ≡ length P → get_or P d 0 ≤ spare_at S d → get_or (set P c (get_or P c 0 - 1)) d 0 ≤ spare_at (lowered S c) d
    both [] S c d l m r = absurd (omega (arith, l))
    both (p ∷ P) [] c d l m r = absurd (omega (arith, m))
    both (p ∷ P) (x ∷ S) zero zero l m r = omega (arith, r)
    both (p ∷ P) (x ∷ S) zero (suc d) l m r = r
    both (p ∷ P) (x ∷ S) (suc c) zero l m r = r
    both (p ∷ P) (x ∷ S) (suc c) (suc d) l m r = both P S c d (omega (arith, l)) (omega (arith, m)) r

pub room-more : (P S : List ℕ) (c : ℕ) → ((d : ℕ) → get_or P d 0 ≤ spare_at S d) → (d : ℕ) → get_or P d 0 ≤ spare_at (raised S c) d
room-more P S c h d = let a = h d in let b = wider S c d in omega (arith, a, b)
  where
    wider : (S : List ℕ) (c d : ℕ) → spare_at S d ≤ spare_at (raised S c) d
    wider [] c d = omega arith
    wider (x ∷ S) zero zero = omega arith
    wider (x ∷ S) zero (suc d) = omega arith
    wider (x ∷ S) (suc c) zero = omega arith
    wider (x ∷ S) (suc c) (suc d) = wider S c d

-- the put that is taken out is the first
pub first-put : (puts : List (List (Put Token))) (i : ℕ) (u : Put Token) (us : List (Put Token)) (v : Put Token) → at puts i ≡ u ∷ us → slice_get (get_or puts i []) 0 ≡ Some v → u ≡ v
first-put puts i u us v e f = some-is u v (sym (ap (λ w. slice_get w 0) (sym (at-get-or puts i) ∙ e)) ∙ f)
  where
    some-is : (a c : Put Token) → Option.Some a ≡ Option.Some c → a ≡ c
    some-is a c e = cc

-- what a firing leaves of the places of a process
module _ (f : Standing → Standing) (e : (p : Standing) → (f p).got ≡ emptied p.got) where
  pub gathered-fired : (ns : List ℕ) (ps : List Standing) (i : ℕ) → ArePlaced ns ps → i < length ns → gathered_of (change_at i f ps) ≡ with_places ns i (emptied (places_at ns i (gathered_of ps))) (gathered_of ps)
  gathered-fired [] ps i a h = absurd (omega (arith, h))
  gathered-fired (n ∷ ns) [] i a h = absurd a
  gathered-fired (n ∷ ns) (p ∷ ps) zero a h =
      ap (λ v. v ++ gathered_of ps) (e p) ∙
      ap₂ (λ v w. emptied v ++ w) (sym (ap (λ k. take k (p.got ++ gathered_of ps)) (sym a.0) ∙ take-append_seam p.got (gathered_of ps))) (sym (ap (λ k. drop k (p.got ++ gathered_of ps)) (plus n) ∙ drop-seam p.got (gathered_of ps) n 0 a.0))
    where
      plus : (n : ℕ) → n ≡ n + 0
      plus n = omega arith
  gathered-fired (n ∷ ns) (p ∷ ps) (suc i) a h =
      ap (λ v. p.got ++ v) (gathered-fired ns ps i a.1 (omega (arith, h))) ∙
      joined-up p.got (take (total (take i ns)) (gathered_of ps)) (emptied (places_at ns i (gathered_of ps)) ++ drop (get_or ns i 0) (drop (total (take i ns)) (gathered_of ps))) ∙
      ap₂ (λ v w. v ++ (emptied (take (get_or ns i 0) w) ++ drop (get_or ns i 0) w)) (sym (take-behind p.got (gathered_of ps) n (total (take i ns)) a.0)) (sym (drop-seam p.got (gathered_of ps) n (total (take i ns)) a.0))
    where
      joined-up : {A : Type 0} (X Y Z : List A) → X ++ (Y ++ Z) ≡ (X ++ Y) ++ Z
      joined-up [] Y Z = refl
      joined-up (x ∷ X) Y Z = ap (λ v. x ∷ v) (joined-up X Y Z)

      take-behind : {A : Type 0} (X Y : List A) (n k : ℕ) → length X ≡ n → take (n + k) (X ++ Y) ≡ X ++ take k Y
      take-behind [] Y n k e = ap (λ j. take j Y) (ap (λ m. m + k) (sym e) ∙ zero-add k)
      take-behind (x ∷ X) Y zero k e = absurd (omega (arith, e))
      take-behind (x ∷ X) Y (suc n) k e = ap (λ j. take j (x ∷ (X ++ Y))) (suc-add n k) ∙ ap (λ v. x ∷ v) (take-behind X Y n k (omega (arith, e)))

-- what is staged of a process that had nothing to put
pub staged-new : (d : ℕ) (puts : List (List (Put Token))) (i : ℕ) (us : List (Put Token)) → i < length puts → at puts i ≡ [] → staged_on d (set puts i us) ≡ staged_on d puts + count_on d us
staged-new d [] i us l e = absurd (omega (arith, l))
staged-new d (vs ∷ puts) zero us l e = let z = ap (λ v. count_on d v) e in omega (arith, z)
staged-new d (vs ∷ puts) (suc i) us l e = let r = staged-new d puts i us (omega (arith, l)) e in omega (arith, r)

-- whether a channel has room
pub room-outside : (s : State) (c : ℕ) → total (net_of s).places ≤ c → has_room s c ≡ true
room-outside s c h = by (nat_lt c (total (net_of s).places)) refl
  where
    by : (b : Bool) → nat_lt c (total (net_of s).places) ≡ b → not (b && not (nat_lt (length (at s.halfway.queued c)) (get_or s.capacity c 0))) ≡ true
    by true e = let l = ltb-true c (total (net_of s).places) e in absurd (omega (arith, h, l))
    by false e = refl

pub room-inside : (s : State) (c : ℕ) → c < total (net_of s).places → nat_lt (length (at s.halfway.queued c)) (get_or s.capacity c 0) ≡ has_room s c
room-inside s c h = by (nat_lt c (total (net_of s).places)) refl (nat_lt (length (at s.halfway.queued c)) (get_or s.capacity c 0))
  where
    by : (b : Bool) → nat_lt c (total (net_of s).places) ≡ b → (d : Bool) → d ≡ not (b && not d)
    by false e d = let l = ltb-false c (total (net_of s).places) e in absurd (omega (arith, h, l))
    by true e true = refl
    by true e false = refl
