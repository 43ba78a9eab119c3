-- Processes that are copied.
use Rattle.std.proofs.Common.{◌≡◌, ◌⊎◌, inl, inr, ℕ, zero, suc, ◌+◌, ◌<◌, ◌≤◌, List, [], ◌∷◌, ◌++◌, Bool, true, false, max, length, get_or, Option, refl, sym, ap, ap₂, subst, ◌∙◌, arith}
use Rattle.pt_meaning.specs.Streams.{Streams, at}
use Rattle.pt_reaction.specs.Spared.{Spared}
use Rattle.pt_reaction.specs.Channels.{lists_of}
use Rattle.pt_value.specs.declared.token.Token.{Token}
use Rattle.pt_puts.specs.declared.puts.StagedPut.{StagedPut}
use Rattle.pt_puts.specs.Puts.{puts_in}
use Rattle.pt_puts.specs.Lines.{room_at}
use Rattle.pt_puts.proofs.LineLaws.{same-lines}
use Rattle.pt_rv_work.specs.Core.{Standing}
use Rattle.pt_puts.specs.declared.need.KeptNeed.{KeptNeed}
use Rattle.pt_puts.specs.declared.need.KeptNeed.TheVariants.{Over, Counts, One, Any}
use Rattle.pt_rv_parts.specs.declared.process.Process.TheInside.{Inside}
use Rattle.pt_rv_parts.specs.Process.{Gathers, taken_at, counts_in, got_in, row_if, seen_process}
use Rattle.pt_puts.specs.Need.{need_in}

-- there is room at a place for its count of tokens, and for so many at least
abbrev pub HasRoomAt : List ℕ → ℕ → List (Spared Token) → ℕ → Type 0
HasRoomAt ns least lines q = max (get_or ns q 0) least ≤ length (at (lists_of lines) q) + room_at lines q

pub rooms-next : (ns : List ℕ) (least : ℕ) (R : List (Spared Token)) (w : Spared Token) (k : ℕ) → length R ≡ k → ((q : ℕ) → q < k → HasRoomAt ns least R q) → max (get_or ns k 0) least ≤ length w.list + w.spare → (q : ℕ) → q < k + 1 → HasRoomAt ns least (R ++ (w ∷ [])) q
rooms-next ns least R w k n h r q l = by (split q k l)
  where
    split : (q k : ℕ) → q < k + 1 → (q < k) ⊎ (k ≡ q)
    split q k l = grind arith

    lists-front : (R : List (Spared Token)) (q : ℕ) → q < length R → at (lists_of (R ++ (w ∷ []))) q ≡ at (lists_of R) q
    lists-front [] q h = absurd (omega (arith, h))
    lists-front (x ∷ R) zero h = refl
    lists-front (x ∷ R) (suc q) h = lists-front R q (omega (arith, h))

    rooms-front : (R : List (Spared Token)) (q : ℕ) → q < length R → room_at (R ++ (w ∷ [])) q ≡ room_at R q
    rooms-front [] q h = absurd (omega (arith, h))
    rooms-front (x ∷ R) zero h = refl
    rooms-front (x ∷ R) (suc q) h = rooms-front R q (omega (arith, h))

    list-end : (R : List (Spared Token)) → at (lists_of (R ++ (w ∷ []))) (length R) ≡ w.list
    list-end [] = refl
    list-end (x ∷ R) = list-end R

    room-end : (R : List (Spared Token)) → room_at (R ++ (w ∷ [])) (length R) ≡ w.spare
    room-end [] = refl
    room-end (x ∷ R) = room-end R

    by : (q < k) ⊎ (k ≡ q) → HasRoomAt ns least (R ++ (w ∷ [])) q
    by (inl s) =
        let a = ap (λ v. length v) (lists-front R q (omega (arith, n, s))) in
        let b = rooms-front R q (omega (arith, n, s)) in
        let c = h q s in
        omega (arith, a, b, c)
    by (inr s) = subst (λ j. HasRoomAt ns least (R ++ (w ∷ [])) j) (n ∙ s) (
        let a = ap (λ v. length v) (list-end R) in
        let b = room-end R in
        let c = ap (λ j. max (get_or ns j 0) least) n in
        omega (arith, a, b, c, r)
        )

again : (barrier : Bool) (need : KeptNeed) (handed : Bool) (full : ℕ) (filled : Option ℕ) (row : Streams Token) (L M : List (Spared Token)) → lists_of M ≡ lists_of L → ((q : ℕ) → q < length L → taken_at barrier (counts_in (need_in need)) q ≤ length (at (lists_of M) q) + room_at M q) → Gathers barrier need handed full filled row L → Gathers barrier need handed full filled row M
again barrier Over handed full filled row L M e r g = tt
again barrier (Counts ns) handed full filled row L M e r g = λ h. let b = g h in record {
  counted = b.counted ∙ sym (same-lines L M e);
  full = λ q l. subst (λ X. get_or ns q 0 ≤ length (at X q)) (sym e) (b.full q l);
  room = λ q l. r q (let z = same-lines L M e in omega (arith, l, z));
}
again barrier One handed full filled row L M e r g = g
again barrier Any handed full filled row L M e r g = g

pub gathers-again : (barrier : Bool) (need need' : KeptNeed) (ns : List ℕ) (handed : Bool) (full : ℕ) (filled : Option ℕ) (row row' : Streams Token) (L M : List (Spared Token)) → need' ≡ need → row' ≡ row → lists_of M ≡ lists_of L → ns ≡ counts_in (need_in need) →
    ((q : ℕ) → q < length L → taken_at barrier ns q ≤ length (at (lists_of M) q) + room_at M q) → Gathers barrier need handed full filled row L → Gathers barrier need' handed full filled row' M
gathers-again barrier need need' ns handed full filled row row' L M n w e m r g =
    subst (λ v. Gathers barrier v handed full filled row' M) (sym n)
    (subst (λ v. Gathers barrier need handed full filled v M) (sym w) (again barrier need handed full filled row L M e (λ q l. subst (λ v. taken_at barrier v q ≤ length (at (lists_of M) q) + room_at M q) m (r q l)) g))

pub copied-is : (p : Inside) (s : Standing Token) (need : KeptNeed) (row : Streams Token) (M : List (Spared Token)) (us : List StagedPut) → need ≡ p.need → row ≡ p.row.items → lists_of M ≡ lists_of p.lines.items → puts_in us ≡ puts_in p.puts.items → seen_process p ≡ s →
    (let t : Standing Token = record { barrier = p.is_barrier; need = need_in need; got = got_in need p.is_handed row M; puts = puts_in us; handed = p.is_handed } in t) ≡ s
copied-is p s need row M us e f g h v =
    ap₂ (λ m w. let t : Standing Token = record { barrier = p.is_barrier; need = need_in m; got = got_in m p.is_handed row M; puts = w; handed = p.is_handed } in t) e h ∙
    ap (λ X. let t : Standing Token = record { barrier = p.is_barrier; need = need_in p.need; got = X; puts = puts_in p.puts.items; handed = p.is_handed } in t) (got p.need p.is_handed) ∙ v
  where
    rows : (b : Bool) → row_if b row M ≡ row_if b p.row.items p.lines.items
    rows true = f
    rows false = g

    got : (m : KeptNeed) (b : Bool) → got_in m b row M ≡ got_in m b p.row.items p.lines.items
    got Over b = rows b
    got (Counts ns) b = rows b
    got One b = f
    got Any b = f
