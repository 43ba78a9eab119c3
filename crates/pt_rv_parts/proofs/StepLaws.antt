-- What the calls of a process keep, and what they make of what contracts see.
use Rattle.std.proofs.Common.{◌≡◌, ◌⊎◌, inl, inr, ℕ, zero, suc, ◌+◌, ◌<◌, ◌≤◌, List, [], ◌∷◌, ◌++◌, Bool, true, false, not, nat_eq, length, set, get_or, replicate, Option, Some, None, refl, sym, ap, ap₂, subst, ◌∙◌, arith, length-set}
use Rattle.std.specs.Prelude.{slice_get}
use Rattle.pt_meaning.specs.Streams.{Streams, at, any_present, change_at}
use Rattle.pt_meaning.specs.Machine.{Need}
use Rattle.pt_meaning.specs.Machine as machine
use Rattle.pt_meaning.specs.Process.{Next, Fires, Gets, GetsAny, Joins, Idle, lacking, if_lacking, if_any, by_need, by_puts, emptied, rest_of, at_rest}
use Rattle.pt_value.specs.declared.token.Token.{Token}
use Rattle.pt_reaction.specs.Spared.{Spared}
use Rattle.pt_reaction.specs.Channels.{lists_of}
use Rattle.pt_rv_laws.specs.Lawful.{HasPlaces}
use Rattle.pt_puts.specs.declared.puts.StagedPut.{StagedPut}
use Rattle.pt_puts.specs.Puts.{put_of, puts_in}
use Rattle.pt_puts.specs.Lines.{room_at}
use Rattle.pt_puts.proofs.LineLaws.{lines-long, lacking-some, lacking-none}
use Rattle.pt_rv_work.specs.Core.{Standing, next_of, with_token, with_put_made, with_handed}
use Rattle.pt_puts.specs.declared.need.KeptNeed.{KeptNeed}
use Rattle.pt_puts.specs.declared.need.KeptNeed.TheVariants.{Over, Counts, One, Any}
use Rattle.pt_rv_parts.specs.declared.process.Event.{Event}
use Rattle.pt_rv_parts.specs.declared.process.Event.TheVariants as event
use Rattle.pt_rv_parts.specs.declared.process.Process.TheInside.{Inside}
use Rattle.pt_rv_parts.specs.Process.{IsSound, GathersBy, Gathers, FilledAt, HaveRoom, DoesNext, MayTake, TakesAt, taken_at, counts_in, event_by, any_event_by, lacks_one, fires_by, got_in, row_if, seen_process, at_start, renewed}
use Rattle.pt_puts.specs.Need.{need_in}
use Rattle.pt_rv_parts.proofs.GatherLaws.{any-none, any-some, none-at, alone-at, filled-now, emptied-as, empty-as, room-empty, gathers-first, gathers-more}

-- what it does next where it has no put to make
next-by : (s : Standing Token) (n : Next) → s.puts ≡ [] → by_need s.barrier s.need s.got ≡ n → next_of s ≡ n
next-by s n u e = ap (λ us. by_puts us (by_need s.barrier s.need s.got)) u ∙ e

event-does : (s : Standing Token) (b : Bool) (o : Option ℕ) → s.puts ≡ [] → by_need s.barrier s.need s.got ≡ if_lacking b o → DoesNext s (event_by b o)
event-does s b None u e = next-by s Fires u e
event-does s true (Some q) u e = next-by s Joins u e
event-does s false (Some q) u e = next-by s (Gets q) u e

any-does : (s : Standing Token) (o : Option ℕ) (row : Streams Token) → FilledAt o row → s.puts ≡ [] → by_need s.barrier s.need s.got ≡ if_any (any_present row) → DoesNext s (any_event_by o)
any-does s None row f u e = next-by s GetsAny u (e ∙ ap if_any (any-none row f))
any-does s (Some place) row f u e = next-by s Fires u (e ∙ ap if_any (any-some row place f.1))

-- the only place, which needs one token
one-under : (r : ℕ) → get_or (1 ∷ []) r 0 ≤ 1
one-under zero = omega arith
one-under (suc r) = omega arith

one-lacks : (row : Streams Token) (o : Option ℕ) → length row ≡ 1 → FilledAt o row → lacking 0 (1 ∷ []) row ≡ lacks_one o
one-lacks row None n f = lacking-some (1 ∷ []) row 0 0 (λ r l. absurd (omega (arith, l))) (omega arith) (omega (arith, n)) (let e = ap (λ v. length v) (f 0) in omega (arith, e))
one-lacks row (Some place) n f = lacking-none (1 ∷ []) row 0 (λ r l.
    let p = f.0 in
    let e : place ≡ r = omega (arith, l, n, p) in
    let a = subst (λ j. 0 < length (at row j)) e f.1 in
    let b = one-under r in
    omega (arith, a, b))

one-taken : (barrier : Bool) (place : ℕ) → taken_at barrier (1 ∷ []) place ≤ 1
one-taken true place = omega arith
one-taken false place = one-under place

none-in-one : (xs : List Token) → length xs < 1 → any_present (xs ∷ []) ≡ false
none-in-one [] h = refl
none-in-one (x ∷ xs) h = absurd (omega (arith, h))

one-takes : (barrier : Bool) (row : Streams Token) (place : ℕ) → length row ≡ 1 → place < length row → TakesAt barrier (machine.Counts (1 ∷ [])) row place → any_present row ≡ false
one-takes barrier [] place n l t = absurd (omega (arith, l))
one-takes barrier (xs ∷ []) zero n l t = none-in-one xs (let a = one-taken barrier 0 in omega (arith, a, t))
one-takes barrier (xs ∷ []) (suc place) n l t = absurd (omega (arith, l))
one-takes barrier (xs ∷ (ys ∷ row)) place n l t = absurd (omega (arith, n))

-- what is gathered
pub alone-got : (need : KeptNeed) (handed : Bool) (row : Streams Token) (L : List (Spared Token)) → (need ≡ One) ⊎ (need ≡ Any) → got_in need handed row L ≡ row
alone-got need handed row L (inl n) = ap (λ m. got_in m handed row L) n
alone-got need handed row L (inr n) = ap (λ m. got_in m handed row L) n

pub counted-got : (need : KeptNeed) (ns : List ℕ) (handed : Bool) (row : Streams Token) (L : List (Spared Token)) → need ≡ Counts ns → handed ≡ false → got_in need handed row L ≡ lists_of L
counted-got need ns handed row L n h = ap₂ (λ m b. got_in m b row L) n h

-- whether it fires next
pub rests-by : (s : Standing Token) (ev : Event) → DoesNext s ev → at_rest (next_of s) ≡ not (fires_by ev)
rests-by s (event.Put channel) d = ap (λ us. at_rest (by_puts us (by_need s.barrier s.need s.got))) d.2
rests-by s (event.Get place) d = ap at_rest d
rests-by s event.GetAny d = ap at_rest d
rests-by s event.Join d = ap at_rest d
rests-by s event.Fire d = ap at_rest d
rests-by s event.Over d = ap at_rest d

module _ (p : Inside) (s : Standing Token) (v : seen_process p ≡ s) where
  pub not-handed : s.handed ≡ false → p.is_handed ≡ false
  not-handed h = ap (λ (t : Standing Token). t.handed) v ∙ h

  pub is-handed : s.handed ≡ true → p.is_handed ≡ true
  is-handed h = ap (λ (t : Standing Token). t.handed) v ∙ h

  no-puts : s.puts ≡ [] → puts_in p.puts.items ≡ []
  no-puts u = ap (λ (t : Standing Token). t.puts) v ∙ u

  pub over-next : p.need ≡ Over → s.puts ≡ [] → DoesNext s event.Over
  over-next n u = subst (λ (t : Standing Token). DoesNext t event.Over) v (next-by (seen_process p) Idle (no-puts u) (ap (λ m. by_need p.is_barrier (need_in m) (got_in m p.is_handed p.row.items p.lines.items)) n))

  pub counts-next : (ns : List ℕ) (o : Option ℕ) (ev : Event) → p.need ≡ Counts ns → s.handed ≡ false → s.puts ≡ [] → o ≡ lacking 0 ns (lists_of p.lines.items) → ev ≡ event_by p.is_barrier o → DoesNext s ev
  counts-next ns o ev n h u l e =
      subst (λ (t : Standing Token). DoesNext t ev) v (subst (λ x. DoesNext (seen_process p) x) (sym e) (event-does (seen_process p) p.is_barrier o (no-puts u)
      (ap₂ (λ m b. by_need p.is_barrier (need_in m) (got_in m b p.row.items p.lines.items)) n (not-handed h) ∙ ap (λ x. if_lacking p.is_barrier x) (sym l))))

  pub one-next : (ev : Event) → IsSound p → p.need ≡ One → s.puts ≡ [] → ev ≡ event_by p.is_barrier (lacks_one p.filled) → DoesNext s ev
  one-next ev w n u e =
      let g : Gathers p.is_barrier One p.is_handed p.full p.filled p.row.items p.lines.items = subst (λ m. Gathers p.is_barrier m p.is_handed p.full p.filled p.row.items p.lines.items) n w.gathers in
      subst (λ (t : Standing Token). DoesNext t ev) v (subst (λ x. DoesNext (seen_process p) x) (sym e) (event-does (seen_process p) p.is_barrier (lacks_one p.filled) (no-puts u)
      (ap (λ m. by_need p.is_barrier (need_in m) (got_in m p.is_handed p.row.items p.lines.items)) n ∙ ap (λ x. if_lacking p.is_barrier x) (one-lacks p.row.items p.filled g.0 g.1))))

  pub any-next : (ev : Event) → IsSound p → p.need ≡ Any → s.puts ≡ [] → ev ≡ any_event_by p.filled → DoesNext s ev
  any-next ev w n u e =
      subst (λ (t : Standing Token). DoesNext t ev) v (subst (λ x. DoesNext (seen_process p) x) (sym e) (any-does (seen_process p) p.filled p.row.items (subst (λ m. Gathers p.is_barrier m p.is_handed p.full p.filled p.row.items p.lines.items) n w.gathers) (no-puts u)
      (ap (λ m. by_need p.is_barrier (need_in m) (got_in m p.is_handed p.row.items p.lines.items)) n)))

-- where a token comes to a place of one that gathers by counts
pub record Takes (p : Inside) (place : ℕ) : Type 0 where
  pub ns : List ℕ
  pub need : p.need ≡ Counts ns
  pub free : p.is_handed ≡ false
  pub gathers : GathersBy p.is_barrier ns p.full p.lines.items
  pub there : place < length p.lines.items
  pub room : 0 < room_at p.lines.items place

takes-by : (barrier : Bool) (ns : List ℕ) (handed : Bool) (full : ℕ) (filled : Option ℕ) (row : Streams Token) (L : List (Spared Token)) (place : ℕ) → Gathers barrier (Counts ns) handed full filled row L → handed ≡ false → place < length (got_in (Counts ns) handed row L) →
    TakesAt barrier (machine.Counts ns) (got_in (Counts ns) handed row L) place → GathersBy barrier ns full L × (place < length L) × (0 < room_at L place)
takes-by barrier ns true full filled row L place g h l t = absurd (cc)
takes-by barrier ns false full filled row L place g h l t =
    let n = lines-long L in
    let there : place < length L = omega (arith, l, n) in
    let by = g refl in
    (by, there, let a = by.room place there in omega (arith, a, t))

pub takes-there : (p : Inside) (s : Standing Token) (place : ℕ) (ns : List ℕ) → IsSound p → seen_process p ≡ s → MayTake s place → p.need ≡ Counts ns → Takes p place
takes-there p s place ns w v may n =
    let m : MayTake (seen_process p) place = subst (λ (t : Standing Token). MayTake t place) (sym v) may in
    let r = takes-by p.is_barrier ns p.is_handed p.full p.filled p.row.items p.lines.items place (subst (λ k. Gathers p.is_barrier k p.is_handed p.full p.filled p.row.items p.lines.items) n w.gathers) m.gathers
    (subst (λ k. place < length (got_in k p.is_handed p.row.items p.lines.items)) n m.there) (subst (λ k. TakesAt p.is_barrier (need_in k) (got_in k p.is_handed p.row.items p.lines.items) place) n m.takes) in
    record { ns = ns; need = n; free = m.gathers; gathers = r.0; there = r.1; room = r.2 }

pub takes-is : (p : Inside) (s : Standing Token) (place : ℕ) (t : Takes p place) (M : List (Spared Token)) (x : Token) → seen_process p ≡ s → lists_of M ≡ change_at place (λ xs. xs ++ (x ∷ [])) (lists_of p.lines.items) →
    (let q : Standing Token = record { barrier = p.is_barrier; need = need_in p.need; got = got_in p.need p.is_handed p.row.items M; puts = puts_in p.puts.items; handed = p.is_handed } in q) ≡ with_token place x s
takes-is p s place t M x v e =
    ap (λ X. let q : Standing Token = record { barrier = p.is_barrier; need = need_in p.need; got = X; puts = puts_in p.puts.items; handed = p.is_handed } in q)
    (counted-got p.need t.ns p.is_handed p.row.items M t.need t.free ∙ e ∙ ap (λ X. change_at place (λ xs. xs ++ (x ∷ [])) X) (sym (counted-got p.need t.ns p.is_handed p.row.items p.lines.items t.need t.free))) ∙
    ap (λ (q : Standing Token). with_token place x q) v

pub takes-gathers : (p : Inside) (place : ℕ) (t : Takes p place) (M : List (Spared Token)) (x : Token) → lists_of M ≡ change_at place (λ xs. xs ++ (x ∷ [])) (lists_of p.lines.items) → length M ≡ length p.lines.items → room_at M place + 1 ≡ room_at p.lines.items place →
    ((q : ℕ) → nat_eq place q ≡ false → room_at M q ≡ room_at p.lines.items q) → Gathers p.is_barrier p.need p.is_handed p.full p.filled p.row.items M
takes-gathers p place t M x e n r o = subst (λ m. Gathers p.is_barrier m p.is_handed p.full p.filled p.row.items M) (sym t.need) (λ h. gathers-more p.is_barrier t.ns p.full p.lines.items M t.gathers place x t.there e n r o)

-- a token comes to one that gathers by counts, or from any place, and to none that is over
pub over-takes : (p : Inside) (s : Standing Token) (place : ℕ) → seen_process p ≡ s → p.need ≡ Over → MayTake s place → ⊥
over-takes p s place v n may = subst (λ m. TakesAt s.barrier m s.got place) (sym (ap (λ (t : Standing Token). t.need) v) ∙ ap need_in n) may.takes

pub need-is : (p : Inside) (s : Standing Token) (m : KeptNeed) → seen_process p ≡ s → p.need ≡ m → s.need ≡ need_in m
need-is p s m v n = sym (ap (λ (t : Standing Token). t.need) v) ∙ ap need_in n

-- where it needs a token from any place
need-any : (m : KeptNeed) → need_in m ≡ machine.Any → m ≡ Any
need-any Over e = absurd (cc)
need-any (Counts ns) e = absurd (cc)
need-any One e = absurd (cc)
need-any Any e = refl

-- a need that is kept in another way than as one token at the only place
abbrev pub IsOther : KeptNeed → Type 0
IsOther need = (need ≡ Over) ⊎ (((ns : List ℕ) × (need ≡ Counts ns)) ⊎ (need ≡ Any))

need-counts : (m : KeptNeed) (ns : List ℕ) → IsOther m → need_in m ≡ machine.Counts ns → m ≡ Counts ns
need-counts Over ns o e = absurd (cc)
need-counts (Counts ms) ns o e = ap (λ v. Counts v) (counts-same ms ns e)
  where
    counts-same : (ms ns : List ℕ) → machine.Counts ms ≡ machine.Counts ns → ms ≡ ns
    counts-same ms ns e = cc
need-counts One ns (inl o) e = absurd (cc)
need-counts One ns (inr (inl o)) e = absurd (let z = o.1 in cc)
need-counts One ns (inr (inr o)) e = absurd (cc)
need-counts Any ns o e = absurd (cc)

pub any-need : (p : Inside) (s : Standing Token) → seen_process p ≡ s → s.need ≡ machine.Any → p.need ≡ Any
any-need p s v n = need-any p.need (ap (λ (t : Standing Token). t.need) v ∙ n)

pub counts-need : (p : Inside) (s : Standing Token) (ns : List ℕ) → seen_process p ≡ s → IsOther p.need → s.need ≡ machine.Counts ns → p.need ≡ Counts ns
counts-need p s ns v o n = need-counts p.need ns o (ap (λ (t : Standing Token). t.need) v ∙ n)

-- counts of one token at one place
pub counts-one : (m : KeptNeed) → counts_in (need_in m) ≡ 1 ∷ [] → machine.Counts (1 ∷ []) ≡ need_in m
counts-one Over e = absurd (cc)
counts-one (Counts ns) e = ap (λ v. machine.Counts v) (sym e)
counts-one One e = refl
counts-one Any e = absurd (cc)

any-takes : (barrier : Bool) (need : KeptNeed) (handed : Bool) (row : Streams Token) (L : List (Spared Token)) (place : ℕ) → need ≡ Any → place < length (got_in need handed row L) → TakesAt barrier (need_in need) (got_in need handed row L) place → (place < length row) × (any_present row ≡ false)
any-takes barrier Over handed row L place n l t = absurd (cc)
any-takes barrier (Counts ns) handed row L place n l t = absurd (cc)
any-takes barrier One handed row L place n l t = absurd (cc)
any-takes barrier Any handed row L place n l t = (l, t)

pub any-there : (p : Inside) (s : Standing Token) (place : ℕ) → seen_process p ≡ s → MayTake s place → s.need ≡ machine.Any → (place < length p.row.items) × (any_present p.row.items ≡ false)
any-there p s place v may n =
    let m : MayTake (seen_process p) place = subst (λ (t : Standing Token). MayTake t place) (sym v) may in
    any-takes p.is_barrier p.need p.is_handed p.row.items p.lines.items place (any-need p s v n) m.there m.takes

pub one-there : (p : Inside) (s : Standing Token) (place : ℕ) → IsSound p → seen_process p ≡ s → MayTake s place → p.need ≡ One → (place < length p.row.items) × (any_present p.row.items ≡ false)
one-there p s place w v may n =
    let m : MayTake (seen_process p) place = subst (λ (t : Standing Token). MayTake t place) (sym v) may in
    let g : Gathers p.is_barrier One p.is_handed p.full p.filled p.row.items p.lines.items = subst (λ k. Gathers p.is_barrier k p.is_handed p.full p.filled p.row.items p.lines.items) n w.gathers in
    let there : place < length p.row.items = subst (λ k. place < length (got_in k p.is_handed p.row.items p.lines.items)) n m.there in
    (there, one-takes p.is_barrier p.row.items place g.0 there (subst (λ k. TakesAt p.is_barrier (need_in k) (got_in k p.is_handed p.row.items p.lines.items) place) n m.takes))

pub one-gathers : (p : Inside) (place : ℕ) (x : Token) (R : Streams Token) (L : List (Spared Token)) → IsSound p → p.need ≡ One → place < length p.row.items → any_present p.row.items ≡ false → R ≡ set p.row.items place (x ∷ []) → Gathers p.is_barrier p.need p.is_handed p.full (Some place) R L
one-gathers p place x R L w n l e r =
    let g : Gathers p.is_barrier One p.is_handed p.full p.filled p.row.items p.lines.items = subst (λ k. Gathers p.is_barrier k p.is_handed p.full p.filled p.row.items p.lines.items) n w.gathers in
    subst (λ m. Gathers p.is_barrier m p.is_handed p.full (Some place) R L) (sym n) (ap (λ v. length v) r ∙ length-set p.row.items place (x ∷ []) ∙ g.0, subst (λ X. FilledAt (Some place) X) (sym r) (filled-now p.row.items place x l e))

pub one-filled : (p : Inside) → IsSound p → p.need ≡ One → (length p.row.items ≡ 1) × FilledAt p.filled p.row.items
one-filled p w n = subst (λ k. Gathers p.is_barrier k p.is_handed p.full p.filled p.row.items p.lines.items) n w.gathers

pub alone-is : (p : Inside) (s : Standing Token) (place : ℕ) (x : Token) (R : Streams Token) → seen_process p ≡ s → (p.need ≡ One) ⊎ (p.need ≡ Any) → any_present p.row.items ≡ false → R ≡ set p.row.items place (x ∷ []) →
    (let q : Standing Token = record { barrier = p.is_barrier; need = need_in p.need; got = got_in p.need p.is_handed R p.lines.items; puts = puts_in p.puts.items; handed = p.is_handed } in q) ≡ with_token place x s
alone-is p s place x R v n e r =
    ap (λ X. let q : Standing Token = record { barrier = p.is_barrier; need = need_in p.need; got = X; puts = puts_in p.puts.items; handed = p.is_handed } in q)
    (alone-got p.need p.is_handed R p.lines.items n ∙ r ∙ alone-at p.row.items place x (none-at p.row.items e place) ∙ ap (λ X. change_at place (λ xs. xs ++ (x ∷ [])) X) (sym (alone-got p.need p.is_handed p.row.items p.lines.items n))) ∙
    ap (λ (q : Standing Token). with_token place x q) v

pub any-gathers : (p : Inside) (place : ℕ) (x : Token) (R : Streams Token) (L : List (Spared Token)) → p.need ≡ Any → place < length p.row.items → any_present p.row.items ≡ false → R ≡ set p.row.items place (x ∷ []) → Gathers p.is_barrier p.need p.is_handed p.full (Some place) R L
any-gathers p place x R L n l e r = subst (λ m. Gathers p.is_barrier m p.is_handed p.full (Some place) R L) (sym n) (subst (λ X. FilledAt (Some place) X) (sym r) (filled-now p.row.items place x l e))

-- where its next put is made
pub put-first : (p : Inside) (s : Standing Token) (u : StagedPut) (us : List StagedPut) → seen_process p ≡ s → p.puts.items ≡ u ∷ us → slice_get s.puts 0 ≡ Some (put_of u)
put-first p s u us v e = sym (ap (λ (t : Standing Token). slice_get t.puts 0) v) ∙ ap (λ w. slice_get (puts_in w) 0) e

pub put-made : (p : Inside) (s : Standing Token) (u : StagedPut) (us : List StagedPut) → seen_process p ≡ s → p.puts.items ≡ u ∷ us →
    (let q : Standing Token = record { barrier = p.is_barrier; need = need_in p.need; got = got_in p.need p.is_handed p.row.items p.lines.items; puts = puts_in us; handed = p.is_handed } in q) ≡ with_put_made s
put-made p s u us v e =
    ap (λ w. let q : Standing Token = record { barrier = p.is_barrier; need = need_in p.need; got = got_in p.need p.is_handed p.row.items p.lines.items; puts = rest_of (puts_in w); handed = p.is_handed } in q) (sym e) ∙ ap (λ (q : Standing Token). with_put_made q) v

-- where it hands over what it has gathered
by-counts : (need : KeptNeed) (row row' : Streams Token) (L M : List (Spared Token)) → (need ≡ Over) ⊎ ((ns : List ℕ) × (need ≡ Counts ns)) → row' ≡ lists_of L → got_in need true row' M ≡ got_in need false row L
by-counts need row row' L M (inl n) e = ap (λ m. got_in m true row' M) n ∙ e ∙ ap (λ m. got_in m false row L) (sym n)
by-counts need row row' L M (inr n) e = ap (λ m. got_in m true row' M) n.1 ∙ e ∙ ap (λ m. got_in m false row L) (sym n.1)

pub lines-handed : (barrier : Bool) (need : KeptNeed) (full : ℕ) (filled : Option ℕ) (row : Streams Token) (L : List (Spared Token)) → (need ≡ Over) ⊎ ((ns : List ℕ) × (need ≡ Counts ns)) → Gathers barrier need true full filled row L
lines-handed barrier need full filled row L (inl n) = subst (λ m. Gathers barrier m true full filled row L) (sym n) tt
lines-handed barrier need full filled row L (inr n) = subst (λ m. Gathers barrier m true full filled row L) (sym n.1) (λ h. absurd (cc))

pub hand-is : (p : Inside) (s : Standing Token) (row : Streams Token) (M : List (Spared Token)) → seen_process p ≡ s → s.handed ≡ false → (p.need ≡ Over) ⊎ ((ns : List ℕ) × (p.need ≡ Counts ns)) → row ≡ lists_of p.lines.items →
    (let q : Standing Token = record { barrier = p.is_barrier; need = need_in p.need; got = got_in p.need true row M; puts = puts_in p.puts.items; handed = true } in q) ≡ with_handed s
hand-is p s row M v h k e =
    ap (λ X. let q : Standing Token = record { barrier = p.is_barrier; need = need_in p.need; got = X; puts = puts_in p.puts.items; handed = true } in q)
    (by-counts p.need p.row.items row p.lines.items M k e ∙ ap (λ b. got_in p.need b p.row.items p.lines.items) (sym (not-handed p s v h))) ∙
    ap (λ (q : Standing Token). with_handed q) v

pub alone-handed : (p : Inside) (s : Standing Token) → seen_process p ≡ s → (p.need ≡ One) ⊎ (p.need ≡ Any) →
    (let q : Standing Token = record { barrier = p.is_barrier; need = need_in p.need; got = got_in p.need true p.row.items p.lines.items; puts = puts_in p.puts.items; handed = true } in q) ≡ with_handed s
alone-handed p s v n =
    ap (λ X. let q : Standing Token = record { barrier = p.is_barrier; need = need_in p.need; got = X; puts = puts_in p.puts.items; handed = true } in q)
    (alone-got p.need true p.row.items p.lines.items n ∙ sym (alone-got p.need p.is_handed p.row.items p.lines.items n)) ∙ ap (λ (q : Standing Token). with_handed q) v

pub alone-handed-gathers : (p : Inside) → IsSound p → (p.need ≡ One) ⊎ (p.need ≡ Any) → Gathers p.is_barrier p.need true p.full p.filled p.row.items p.lines.items
alone-handed-gathers p w (inl n) = subst (λ m. Gathers p.is_barrier m true p.full p.filled p.row.items p.lines.items) (sym n) (subst (λ m. Gathers p.is_barrier m p.is_handed p.full p.filled p.row.items p.lines.items) n w.gathers)
alone-handed-gathers p w (inr n) = subst (λ m. Gathers p.is_barrier m true p.full p.filled p.row.items p.lines.items) (sym n) (subst (λ m. Gathers p.is_barrier m p.is_handed p.full p.filled p.row.items p.lines.items) n w.gathers)

handed-row : (need : KeptNeed) (handed : Bool) (row : Streams Token) (L : List (Spared Token)) → handed ≡ true → got_in need handed row L ≡ row
handed-row Over handed row L h = ap (λ b. row_if b row L) h
handed-row (Counts ns) handed row L h = ap (λ b. row_if b row L) h
handed-row One handed row L h = refl
handed-row Any handed row L h = refl

pub lent-is : (p : Inside) (s : Standing Token) → seen_process p ≡ s → s.handed ≡ true → p.row.items ≡ s.got
lent-is p s v h = sym (handed-row p.need p.is_handed p.row.items p.lines.items (is-handed p s v h)) ∙ ap (λ (t : Standing Token). t.got) v

-- how many places it has
got-places : (need : KeptNeed) (handed : Bool) (row : Streams Token) (L : List (Spared Token)) → length row ≡ length L → length (got_in need handed row L) ≡ length L
got-places Over true row L e = e
got-places Over false row L e = lines-long L
got-places (Counts ns) true row L e = e
got-places (Counts ns) false row L e = lines-long L
got-places One handed row L e = e
got-places Any handed row L e = e

pub got-long : (p : Inside) (s : Standing Token) → IsSound p → seen_process p ≡ s → length s.got ≡ length p.lines.items
got-long p s w v = sym (ap (λ (t : Standing Token). length t.got) v) ∙ got-places p.need p.is_handed p.row.items p.lines.items w.row

-- once it has fired
pub renewed-is : (p : Inside) (s : Standing Token) (need : KeptNeed) (m : Need) (X : Streams Token) → X ≡ emptied s.got → need_in need ≡ m → seen_process p ≡ s →
    (let q : Standing Token = record { barrier = p.is_barrier; need = need_in need; got = X; puts = puts_in p.puts.items; handed = false } in q) ≡ renewed m s
renewed-is p s need m X e n v =
    ap₂ (λ w Y. let q : Standing Token = record { barrier = p.is_barrier; need = w; got = Y; puts = puts_in p.puts.items; handed = false } in q) n e ∙
    ap₂ (λ b us. let q : Standing Token = record { barrier = b; need = m; got = emptied s.got; puts = us; handed = false } in q) (ap (λ (t : Standing Token). t.barrier) v) (ap (λ (t : Standing Token). t.puts) v)

pub lines-emptied : (p : Inside) (s : Standing Token) (M : List (Spared Token)) → IsSound p → seen_process p ≡ s → ((q : ℕ) → at (lists_of M) q ≡ []) → length M ≡ length p.lines.items → lists_of M ≡ emptied s.got
lines-emptied p s M w v h e = emptied-as (lists_of M) s.got h (lines-long M ∙ e ∙ sym (got-long p s w v))

pub row-emptied : (p : Inside) (s : Standing Token) (R : Streams Token) → IsSound p → seen_process p ≡ s → ((q : ℕ) → at R q ≡ []) → length R ≡ length p.row.items → R ≡ emptied s.got
row-emptied p s R w v h e = emptied-as R s.got h (e ∙ w.row ∙ sym (got-long p s w v))

-- at its start
pub start-is : (barrier : Bool) (need : KeptNeed) (ns : List ℕ) (places : ℕ) (row : Streams Token) (L : List (Spared Token)) (us : List StagedPut) → length row ≡ places → ((q : ℕ) → at row q ≡ []) → length L ≡ places → HaveRoom barrier ns L → us ≡ [] →
    (let q : Standing Token = record { barrier = barrier; need = need_in need; got = got_in need false row L; puts = puts_in us; handed = false } in q) ≡ at_start barrier (need_in need) places
start-is barrier need ns places row L us r f l h u =
    ap₂ (λ X vs. let q : Standing Token = record { barrier = barrier; need = need_in need; got = X; puts = puts_in vs; handed = false } in q) (got need) u
  where
    got : (m : KeptNeed) → got_in m false row L ≡ replicate places []
    got Over = empty-as (lists_of L) places (room-empty barrier ns L h) (lines-long L ∙ l)
    got (Counts ms) = empty-as (lists_of L) places (room-empty barrier ns L h) (lines-long L ∙ l)
    got One = empty-as row places f r
    got Any = empty-as row places f r

start-by : (barrier : Bool) (need : KeptNeed) (row : Streams Token) (L : List (Spared Token)) → length row ≡ length L → HasPlaces (length L) (need_in need) → ((q : ℕ) → at row q ≡ []) → HaveRoom barrier (counts_in (need_in need)) L → Gathers barrier need false 0 None row L
start-by barrier Over row L r p f h = tt
start-by barrier (Counts ns) row L r p f h = λ _. gathers-first barrier ns L p h
start-by barrier One row L r p f h = (r ∙ sym p, f)
start-by barrier Any row L r p f h = f

pub start-gathers : (barrier : Bool) (need : KeptNeed) (ns : List ℕ) (row : Streams Token) (L : List (Spared Token)) → ns ≡ counts_in (need_in need) → length row ≡ length L → HasPlaces (length L) (need_in need) → ((q : ℕ) → at row q ≡ []) → HaveRoom barrier ns L → Gathers barrier need false 0 None row L
start-gathers barrier need ns row L e r p f h = start-by barrier need row L r p f (subst (λ v. HaveRoom barrier v L) e h)

-- a need without counts
pub no-counts : (need : KeptNeed) → (need ≡ Over) ⊎ (need ≡ Any) → counts_in (need_in need) ≡ []
no-counts need (inl e) = ap (λ m. counts_in (need_in m)) e
no-counts need (inr e) = ap (λ m. counts_in (need_in m)) e

-- what is known where it gathers by counts
gathers-so : (barrier : Bool) (need : KeptNeed) (ns : List ℕ) (handed : Bool) (full : ℕ) (filled : Option ℕ) (row : Streams Token) (L : List (Spared Token)) → need ≡ Counts ns → handed ≡ false → Gathers barrier need handed full filled row L → GathersBy barrier ns full L
gathers-so barrier need ns handed full filled row L n h g = (subst (λ m. Gathers barrier m handed full filled row L) n g) h

-- more places at the front are found to lack nothing
pub lacking-gathers : (p : Inside) (s : Standing Token) (ns ms : List ℕ) (L : List (Spared Token)) (full : ℕ) → IsSound p → seen_process p ≡ s → s.handed ≡ false → p.need ≡ Counts ns → ms ≡ ns → L ≡ p.lines.items → ((q : ℕ) → q < full → get_or ms q 0 ≤ length (at (lists_of L) q)) → Gathers p.is_barrier p.need p.is_handed full p.filled p.row.items p.lines.items
lacking-gathers p s ns ms L full w v h n e f g =
    let b = gathers-so p.is_barrier p.need ns p.is_handed p.full p.filled p.row.items p.lines.items n (not-handed p s v h) w.gathers in
    let found : (q : ℕ) → q < full → get_or ns q 0 ≤ length (at (lists_of p.lines.items) q) = λ q l. subst (λ x. get_or x q 0 ≤ length (at (lists_of p.lines.items) q)) e (subst (λ x. get_or ms q 0 ≤ length (at (lists_of x) q)) f (g q l)) in
    subst (λ m. Gathers p.is_barrier m p.is_handed full p.filled p.row.items p.lines.items) (sym n) (λ _. record { counted = b.counted; full = found; room = b.room })

pub lacking-needs : (p : Inside) (s : Standing Token) (ns ms : List ℕ) (L : List (Spared Token)) → IsSound p → seen_process p ≡ s → s.handed ≡ false → p.need ≡ Counts ns → ms ≡ ns → L ≡ p.lines.items → (length ms ≡ length L) × ((q : ℕ) → q < p.full → get_or ms q 0 ≤ length (at (lists_of L) q))
lacking-needs p s ns ms L w v h n e f =
    let g = gathers-so p.is_barrier p.need ns p.is_handed p.full p.filled p.row.items p.lines.items n (not-handed p s v h) w.gathers in (
      ap (λ x. length x) e ∙ g.counted ∙ ap (λ x. length x) (sym f),
      λ q l. subst (λ x. get_or x q 0 ≤ length (at (lists_of L) q)) (sym e) (subst (λ x. get_or ns q 0 ≤ length (at (lists_of x) q)) (sym f) (g.full q l)),
    )
