-- What the calls of a process keep, and what they make of what contracts see.
use Rattle.std.proofs.Common.{◌≡◌, ◌⊎◌, inl, inr, ℕ, zero, suc, ◌+◌, ◌<◌, ◌≤◌, List, [], ◌∷◌, ◌++◌, Bool, true, false, length, set, get_or, Option, Some, None, refl, sym, ap, ap₂, subst, ◌∙◌, arith, zero-add}
use Rattle.pt_meaning.specs.Streams.{Streams, at, change_at}
use Rattle.pt_meaning.specs.Machine.{Need, Counts, Takes, front}
use Rattle.pt_meaning.specs.Process.{Put, lacking, emptied}
use Rattle.pt_pn_laws.specs.State.{lacking_place}
use Rattle.pt_reaction.specs.Spared.{Spared}
use Rattle.pt_reaction.specs.Channels.{lists_of}
use Rattle.pt_value.specs.declared.token.Token.{Token}
use Rattle.pt_process.specs.declared.need.KeptNeed.{KeptNeed}
use Rattle.pt_process.specs.declared.need.KeptNeed.TheVariants as kept
use Rattle.pt_process.specs.declared.process.Event.{Event}
use Rattle.pt_process.specs.declared.process.Event.TheVariants as event
use Rattle.pt_process.specs.declared.process.Process.TheInside.{Inside}
use Rattle.pt_process.specs.Process.{Standing, IsSound, GathersBy, Gathers, HasOne, DoesNext, event_by, lacks_one, alone_in, seen_process, need_kept, got_in, with_token, with_handed, renewed, once_fired}
use Rattle.pt_puts.specs.Puts.{puts_in}
use Rattle.pt_process.proofs.ProcessLaws.{got-lines, got-row, got-places, alone-has, alone-twice, gathers-more, fires-next}
use Rattle.pt_puts.proofs.LineLaws.{lines-long, line-spare, line-more, lacks-there, gets-next}

pub not-handed : (p : Inside) (s : Standing) → seen_process p ≡ s → s.handed ≡ false → p.is_handed ≡ false
not-handed p s v h = ap (λ (t : Standing). t.handed) v ∙ h

pub is-handed : (p : Inside) (s : Standing) → seen_process p ≡ s → s.handed ≡ true → p.is_handed ≡ true
is-handed p s v h = ap (λ (t : Standing). t.handed) v ∙ h

-- where it gathers by counts
pub gathers-so : (p : Inside) (s : Standing) (ns : List ℕ) → IsSound p → seen_process p ≡ s → s.handed ≡ false → p.need ≡ kept.Counts ns → GathersBy ns p.full p.lines.items
gathers-so p s ns w v h n = (subst (λ m. Gathers m p.is_handed p.full p.row.items p.lines.items) n w.gathers) (not-handed p s v h)

-- what is asked of them where its next event is looked for, and how many places are found to lack nothing then
pub front-needs : (p : Inside) (s : Standing) (ns : List ℕ) (L : List (Spared Token)) → IsSound p → seen_process p ≡ s → s.handed ≡ false → p.need ≡ kept.Counts ns → L ≡ p.lines.items → (length ns ≡ length L) × ((q : ℕ) → q < p.full → get_or ns q 0 ≤ length (at (lists_of L) q))
front-needs p s ns L w v h n e =
    let g = gathers-so p s ns w v h n in
    (g.counted ∙ ap (λ x. length x) (sym e), λ q l. subst (λ x. get_or ns q 0 ≤ length (at (lists_of x) q)) (sym e) (g.full q l))

pub front-gathers : (p : Inside) (s : Standing) (ns : List ℕ) (L : List (Spared Token)) (full : ℕ) → IsSound p → seen_process p ≡ s → s.handed ≡ false → p.need ≡ kept.Counts ns → L ≡ p.lines.items → ((q : ℕ) → q < full → get_or ns q 0 ≤ length (at (lists_of L) q)) → Gathers p.need p.is_handed full p.row.items p.lines.items
front-gathers p s ns L full w v h n e f =
    let g = gathers-so p s ns w v h n in
    subst (λ m. Gathers m p.is_handed full p.row.items p.lines.items) (sym n) (λ _. record {
      counted = g.counted;
      order = g.order;
      full = λ q l. subst (λ x. get_or ns q 0 ≤ length (at (lists_of x) q)) e (f q l);
      room = g.room;
    })

pub front-same : (p : Inside) (s : Standing) (ns : List ℕ) (full : ℕ) → seen_process p ≡ s → p.need ≡ kept.Counts ns → (let t : Standing = record { need = need_kept p.need; got = got_in p.need p.is_handed full p.row.items p.lines.items; puts = puts_in p.puts.items; handed = p.is_handed } in t) ≡ s
front-same p s ns full v n =
    ap (λ X. let t : Standing = record { need = need_kept p.need; got = X; puts = puts_in p.puts.items; handed = p.is_handed } in t)
    (ap (λ m. got_in m p.is_handed full p.row.items p.lines.items) n ∙ sym (ap (λ m. got_in m p.is_handed p.full p.row.items p.lines.items) n)) ∙ v

-- where it is over, or gathers by counts, nothing is known of what it handed over
pub lines-handed : (need : KeptNeed) (full : ℕ) (row : Streams Token) (L : List (Spared Token)) → (need ≡ kept.Over) ⊎ ((ns : List ℕ) × (need ≡ kept.Counts ns)) → Gathers need true full row L
lines-handed need full row L (inl n) = subst (λ m. Gathers m true full row L) (sym n) tt
lines-handed need full row L (inr n) = subst (λ m. Gathers m true full row L) (sym n.1) (λ h. absurd (cc))

-- the place at which a process gets next that gathers by counts
pub record GetsThere (p : Inside) (place : ℕ) : Type 0 where
  pub ns : List ℕ
  pub need : p.need ≡ kept.Counts ns
  pub free : p.is_handed ≡ false
  pub lacks : lacking 0 ns (lists_of p.lines.items) ≡ Some place
  pub gathers : GathersBy ns p.full p.lines.items
  pub there : place < length p.lines.items
  pub fewer : length (at (lists_of p.lines.items) place) < get_or ns place 0

gets-by : (need : KeptNeed) (handed : Bool) (full : ℕ) (row : Streams Token) (L : List (Spared Token)) (place : ℕ) → (need ≡ kept.Over) ⊎ ((ns : List ℕ) × (need ≡ kept.Counts ns)) → handed ≡ false → Gathers need handed full row L → lacking_place (need_kept need) (got_in need handed full row L) ≡ Some place →
    (ns : List ℕ) × (need ≡ kept.Counts ns) × (lacking 0 ns (lists_of L) ≡ Some place) × GathersBy ns full L
gets-by need handed full row L place (inl n) h g e = absurd (let z : None ≡ Option.Some place = ap (λ m. lacking_place (need_kept m) (got_in m handed full row L)) (sym n) ∙ e in cc)
gets-by need handed full row L place (inr n) h g e =
    (n.0, n.1, ap₂ (λ m b. lacking_place (need_kept m) (got_in m b full row L)) (sym n.1) (sym h) ∙ e, (subst (λ m. Gathers m handed full row L) n.1 g) h)

pub gets-there : (p : Inside) (s : Standing) (place : ℕ) → (p.need ≡ kept.Over) ⊎ ((ns : List ℕ) × (p.need ≡ kept.Counts ns)) → IsSound p → seen_process p ≡ s → s.handed ≡ false → lacking_place s.need s.got ≡ Some place → GetsThere p place
gets-there p s place k w v h l =
    let free = not-handed p s v h in
    let r = gets-by p.need p.is_handed p.full p.row.items p.lines.items place k free w.gathers (ap (λ (t : Standing). lacking_place t.need t.got) v ∙ l) in
    let there = gets-next r.0 (lists_of p.lines.items) place r.2 in
    record {
      ns = r.0;
      need = r.1;
      free = free;
      lacks = r.2;
      gathers = r.3;
      there = let n = lines-long p.lines.items in omega (arith, there, n);
      fewer = lacks-there r.0 (lists_of p.lines.items) 0 place (r.2 ∙ ap (λ v. Option.Some v) (sym (zero-add place)));
    }

-- there is room for its token
pub room-there : (p : Inside) (place : ℕ) (g : GetsThere p place) (l : Spared Token) → l ≡ get_or p.lines.items place l → 0 < l.spare
room-there p place g l e =
    let a = g.gathers.room place g.there in
    let b = line-spare p.lines.items place l g.there e in
    let c = g.fewer in
    omega (arith, a, b, c)

pub got-keeps : (p : Inside) (place : ℕ) (g : GetsThere p place) (l m : Spared Token) (x : Token) → l ≡ get_or p.lines.items place l → m.list ≡ l.list ++ (x ∷ []) → m.spare + 1 ≡ l.spare → Gathers p.need p.is_handed p.full p.row.items (set p.lines.items place m)
got-keeps p place g l m x e f s = subst (λ n. Gathers n p.is_handed p.full p.row.items (set p.lines.items place m)) (sym g.need) (λ _. gathers-more g.ns p.full p.lines.items g.gathers place l m x g.there e f s g.lacks)

pub get-is : (p : Inside) (s : Standing) (place : ℕ) (g : GetsThere p place) (l m : Spared Token) (x : Token) → l ≡ get_or p.lines.items place l → m.list ≡ l.list ++ (x ∷ []) → seen_process p ≡ s →
    (let t : Standing = record { need = need_kept p.need; got = got_in p.need p.is_handed p.full p.row.items (set p.lines.items place m); puts = puts_in p.puts.items; handed = p.is_handed } in t) ≡ with_token place x s
get-is p s place g l m x e f v =
    ap (λ X. let t : Standing = record { need = need_kept p.need; got = X; puts = puts_in p.puts.items; handed = p.is_handed } in t)
    (got-lines p.need g.ns p.is_handed p.full p.row.items (set p.lines.items place m) g.need g.free ∙ line-more p.lines.items place l m x g.there e f ∙ ap (λ X. change_at place (λ xs. xs ++ (x ∷ [])) X) (sym (got-lines p.need g.ns p.is_handed p.full p.row.items p.lines.items g.need g.free))) ∙
    ap (λ (t : Standing). with_token place x t) v

-- where it needs one token at its only place
pub has-one : (p : Inside) → IsSound p → p.need ≡ kept.One → HasOne p.is_handed p.full p.row.items
has-one p w n = subst (λ m. Gathers m p.is_handed p.full p.row.items p.lines.items) n w.gathers

one-only : (handed : Bool) (full : ℕ) (row : Streams Token) → HasOne handed full row → length row ≡ 1
one-only handed zero row f = f.0
one-only handed (suc k) row f = ap (λ v. length v) f.1

pub one-long : (p : Inside) → IsSound p → p.need ≡ kept.One → length p.row.items ≡ 1
one-long p w n = one-only p.is_handed p.full p.row.items (has-one p w n)

one-lacks : (handed : Bool) (full : ℕ) (row : Streams Token) (place : ℕ) → HasOne handed full row → lacking 0 (1 ∷ []) (alone_in full row) ≡ Some place → (length row ≡ 1) × (full ≡ 0) × (place ≡ 0)
one-lacks handed zero row place f e = (f.0, refl, some-is place 0 (sym e))
  where
    some-is : (a b : ℕ) → Option.Some a ≡ Option.Some b → a ≡ b
    some-is a b e = cc
one-lacks handed (suc k) row place f e = absurd (let z : Option.Some place ≡ None = sym e ∙ ap (λ X. lacking 0 (1 ∷ []) X) f.1 in cc)

pub one-there : (p : Inside) (s : Standing) (place : ℕ) → IsSound p → seen_process p ≡ s → p.need ≡ kept.One → lacking_place s.need s.got ≡ Some place → (length p.row.items ≡ 1) × (p.full ≡ 0) × (place ≡ 0)
one-there p s place w v n l =
    one-lacks p.is_handed p.full p.row.items place (has-one p w n)
    (ap (λ m. lacking_place (need_kept m) (got_in m p.is_handed p.full p.row.items p.lines.items)) (sym n) ∙ ap (λ (t : Standing). lacking_place t.need t.got) v ∙ l)

one-set : (row : Streams Token) (place : ℕ) (x : Token) → length row ≡ 1 → place ≡ 0 → set row place (x ∷ []) ≡ (x ∷ []) ∷ []
one-set row place x e z = ap (λ q. set row q (x ∷ [])) z ∙ first row e
  where
    first : (row : Streams Token) → length row ≡ 1 → set row 0 (x ∷ []) ≡ (x ∷ []) ∷ []
    first [] e = absurd (omega (arith, e))
    first (xs ∷ []) e = refl
    first (xs ∷ (ys ∷ row)) e = absurd (omega (arith, e))

one-more : (full : ℕ) (row : Streams Token) (place : ℕ) (x : Token) → full ≡ 0 → place ≡ 0 → change_at place (λ xs. xs ++ (x ∷ [])) (alone_in full row) ≡ (x ∷ []) ∷ []
one-more full row place x e z = ap₂ (λ k q. change_at q (λ xs. xs ++ (x ∷ [])) (alone_in k row)) e z

pub one-gathers : (p : Inside) (place : ℕ) (x : Token) (R : Streams Token) → p.need ≡ kept.One → length p.row.items ≡ 1 → place ≡ 0 → R ≡ set p.row.items place (x ∷ []) → Gathers p.need p.is_handed 1 R p.lines.items
one-gathers p place x R n e z r = subst (λ m. Gathers m p.is_handed 1 R p.lines.items) (sym n) (x, r ∙ one-set p.row.items place x e z)

pub one-is : (p : Inside) (s : Standing) (place : ℕ) (x : Token) (R : Streams Token) → seen_process p ≡ s → p.need ≡ kept.One → (length p.row.items ≡ 1) × (p.full ≡ 0) × (place ≡ 0) → R ≡ set p.row.items place (x ∷ []) →
    (let t : Standing = record { need = need_kept p.need; got = got_in p.need p.is_handed 1 R p.lines.items; puts = puts_in p.puts.items; handed = p.is_handed } in t) ≡ with_token place x s
one-is p s place x R v n t r =
    ap (λ X. let t : Standing = record { need = need_kept p.need; got = X; puts = puts_in p.puts.items; handed = p.is_handed } in t)
    (ap (λ m. got_in m p.is_handed 1 R p.lines.items) n ∙ r ∙ one-set p.row.items place x t.0 t.2 ∙ sym (one-more p.full p.row.items place x t.1 t.2) ∙ ap (λ m. change_at place (λ xs. xs ++ (x ∷ [])) (got_in m p.is_handed p.full p.row.items p.lines.items)) (sym n)) ∙
    ap (λ (t : Standing). with_token place x t) v

-- where it hands over what it has gathered
pub hand-is : (p : Inside) (s : Standing) (row : Streams Token) (M : List (Spared Token)) → (p.need ≡ kept.Over) ⊎ ((ns : List ℕ) × (p.need ≡ kept.Counts ns)) → p.is_handed ≡ false → row ≡ lists_of p.lines.items → seen_process p ≡ s →
    (let t : Standing = record { need = need_kept p.need; got = got_in p.need true p.full row M; puts = puts_in p.puts.items; handed = true } in t) ≡ with_handed s
hand-is p s row M k free e v =
    ap (λ X. let t : Standing = record { need = need_kept p.need; got = X; puts = puts_in p.puts.items; handed = true } in t) (by k) ∙ ap (λ (t : Standing). with_handed t) v
  where
    by : (p.need ≡ kept.Over) ⊎ ((ns : List ℕ) × (p.need ≡ kept.Counts ns)) → got_in p.need true p.full row M ≡ got_in p.need p.is_handed p.full p.row.items p.lines.items
    by (inl n) = ap (λ m. got_in m true p.full row M) n ∙ e ∙ sym (ap₂ (λ m b. got_in m b p.full p.row.items p.lines.items) n free)
    by (inr n) = ap (λ m. got_in m true p.full row M) n.1 ∙ e ∙ sym (ap₂ (λ m b. got_in m b p.full p.row.items p.lines.items) n.1 free)

pub one-handed : (p : Inside) (s : Standing) (row : Streams Token) → seen_process p ≡ s → p.need ≡ kept.One → row ≡ alone_in p.full p.row.items →
    (let t : Standing = record { need = need_kept p.need; got = got_in p.need true p.full row p.lines.items; puts = puts_in p.puts.items; handed = true } in t) ≡ with_handed s
one-handed p s row v n r =
    ap (λ X. let t : Standing = record { need = need_kept p.need; got = X; puts = puts_in p.puts.items; handed = true } in t)
    (ap (λ m. got_in m true p.full row p.lines.items) n ∙ ap (λ X. alone_in p.full X) r ∙ alone-twice p.full p.row.items ∙ sym (ap (λ m. got_in m p.is_handed p.full p.row.items p.lines.items) n)) ∙ ap (λ (t : Standing). with_handed t) v

pub one-handed-gathers : (p : Inside) (row : Streams Token) → IsSound p → p.need ≡ kept.One → row ≡ alone_in p.full p.row.items → Gathers p.need true p.full row p.lines.items
one-handed-gathers p row w n r = subst (λ m. Gathers m true p.full row p.lines.items) (sym n) (subst (λ X. HasOne true p.full X) (sym r) (alone-has p.is_handed p.full p.row.items (has-one p w n)))

pub lent-is : (p : Inside) (s : Standing) → IsSound p → seen_process p ≡ s → s.handed ≡ true → p.row.items ≡ s.got
lent-is p s w v h = sym (got-row p.need p.is_handed p.full p.row.items p.lines.items w.gathers (is-handed p s v h)) ∙ ap (λ (t : Standing). t.got) v

-- what it does next
module _ (p : Inside) (s : Standing) (ns : List ℕ) (w : IsSound p) (v : seen_process p ≡ s) (h : s.handed ≡ false) (n : p.need ≡ kept.Counts ns) (u : s.puts ≡ []) where
  is-got : lists_of p.lines.items ≡ s.got
  is-got = sym (got-lines p.need ns p.is_handed p.full p.row.items p.lines.items n (not-handed p s v h)) ∙ ap (λ (t : Standing). t.got) v

  is-need : Counts ns ≡ s.need
  is-need = ap need_kept (sym n) ∙ ap (λ (t : Standing). t.need) v

  next-fires : lacking 0 ns (lists_of p.lines.items) ≡ None → DoesNext s event.Fire
  next-fires l =
      let r = fires-next ns p.full p.lines.items (gathers-so p s ns w v h n) l in
      (u, r.0, subst (λ m. front m s.got ≡ Takes s.got r.0) is-need (subst (λ X. front (Counts ns) X ≡ Takes X r.0) is-got r.1))

  next-gets : (place : ℕ) → lacking 0 ns (lists_of p.lines.items) ≡ Some place → DoesNext s (event.Get place)
  next-gets place l = (u, ap₂ (λ m X. lacking_place m X) (sym is-need) (sym is-got) ∙ l, subst (λ X. place < length X) is-got (gets-next ns (lists_of p.lines.items) place l))

  by-lacking : (o : Option ℕ) → lacking 0 ns (lists_of p.lines.items) ≡ o → DoesNext s (event_by o)
  by-lacking None l = next-fires l
  by-lacking (Some q) l = next-gets q l

  pub next-by : (ev : Event) → ev ≡ event_by (lacking 0 ns (lists_of p.lines.items)) → DoesNext s ev
  next-by ev e = subst (λ x. DoesNext s x) (sym e) (by-lacking (lacking 0 ns (lists_of p.lines.items)) refl)

pub next-over : (p : Inside) (s : Standing) → seen_process p ≡ s → p.need ≡ kept.Over → s.puts ≡ [] → DoesNext s event.Over
next-over p s v n u = (u, sym (ap (λ (t : Standing). t.need) v) ∙ ap need_kept n)

one-does : (s : Standing) (handed : Bool) (full : ℕ) (row : Streams Token) → HasOne handed full row → s.puts ≡ [] → s.need ≡ Counts (1 ∷ []) → s.got ≡ alone_in full row → DoesNext s (event_by (lacks_one full))
one-does s handed zero row f u n g = (u, ap₂ (λ m X. lacking_place m X) n g, let l = ap (λ v. length v) g in omega (arith, l))
one-does s handed (suc k) row f u n g = (u, [] ∷ [], ap₂ (λ m X. front m X) n (g ∙ f.1) ∙ ap (λ (X : Streams Token). Takes X ([] ∷ [])) (sym (g ∙ f.1)))

pub one-next : (p : Inside) (s : Standing) (ev : Event) → IsSound p → seen_process p ≡ s → p.need ≡ kept.One → s.puts ≡ [] → ev ≡ event_by (lacks_one p.full) → DoesNext s ev
one-next p s ev w v n u e =
    subst (λ x. DoesNext s x) (sym e)
    (one-does s p.is_handed p.full p.row.items (has-one p w n) u (sym (ap (λ (t : Standing). t.need) v) ∙ ap need_kept n) (sym (ap (λ (t : Standing). t.got) v) ∙ ap (λ m. got_in m p.is_handed p.full p.row.items p.lines.items) n))

pub need-is : (p : Inside) (s : Standing) → seen_process p ≡ s → need_kept p.need ≡ s.need
need-is p s v = ap (λ (t : Standing). t.need) v

-- once it has fired
pub renewed-is : (p : Inside) (s : Standing) (need : KeptNeed) (m : Need) (X : Streams Token) → X ≡ emptied s.got → need_kept need ≡ m → seen_process p ≡ s → (let t : Standing = record { need = need_kept need; got = X; puts = puts_in p.puts.items; handed = false } in t) ≡ renewed m s
renewed-is p s need m X e n v =
    ap₂ (λ w Y. let t : Standing = record { need = w; got = Y; puts = puts_in p.puts.items; handed = false } in t) n e ∙
    ap (λ us. let t : Standing = record { need = m; got = emptied s.got; puts = us; handed = false } in t) (ap (λ (t : Standing). t.puts) v)

-- where it has these puts to make then
pub told-is : (p : Inside) (s : Standing) (m : Need) (us vs : List (Put Token)) (t : Standing) → seen_process p ≡ s → us ≡ vs → t ≡ renewed m (let r : Standing = record { need = need_kept p.need; got = got_in p.need p.is_handed p.full p.row.items p.lines.items; puts = us; handed = p.is_handed } in r) → t ≡ once_fired m vs s
told-is p s m us vs t v e f = f ∙ ap₂ (λ (r : Standing) ws. once_fired m ws r) v e

pub got-long : (p : Inside) (s : Standing) → IsSound p → seen_process p ≡ s → length s.got ≡ length p.lines.items
got-long p s w v = sym (ap (λ (t : Standing). length t.got) v) ∙ got-places p.need p.is_handed p.full p.row.items p.lines.items w.gathers w.row

-- where its only place is let go of, whatever lies there
pub one-again : (p : Inside) → IsSound p → p.need ≡ kept.One → Gathers p.need false 0 p.row.items p.lines.items
one-again p w n = subst (λ m. Gathers m false 0 p.row.items p.lines.items) (sym n) (one-long p w n, λ h. absurd (cc))

pub one-renewed : (p : Inside) (s : Standing) → IsSound p → seen_process p ≡ s → p.need ≡ kept.One → got_in p.need false 0 p.row.items p.lines.items ≡ emptied s.got
one-renewed p s w v n =
    ap (λ m. got_in m false 0 p.row.items p.lines.items) n ∙ sym (only p.is_handed p.full p.row.items (has-one p w n)) ∙ ap (λ X. emptied X) (sym (ap (λ m. got_in m p.is_handed p.full p.row.items p.lines.items) n) ∙ ap (λ (t : Standing). t.got) v)
  where
    only : (handed : Bool) (full : ℕ) (row : Streams Token) → HasOne handed full row → emptied (alone_in full row) ≡ [] ∷ []
    only handed zero row f = refl
    only handed (suc k) row f = ap (λ X. emptied X) f.1
