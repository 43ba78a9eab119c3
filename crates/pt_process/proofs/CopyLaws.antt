-- Processes that are copied.
use Rattle.std.proofs.Common.{◌≡◌, ◌⊎◌, inl, inr, ℕ, zero, suc, ◌+◌, ◌<◌, ◌≤◌, List, [], ◌∷◌, ◌++◌, Bool, true, false, length, get_or, refl, sym, ap, ap₂, subst, ◌∙◌, arith}
use Rattle.pt_meaning.specs.Streams.{Streams, at}
use Rattle.pt_meaning.specs.Jam.{is_in_order}
use Rattle.pt_reaction.specs.Spared.{Spared}
use Rattle.pt_reaction.specs.Channels.{lists_of}
use Rattle.pt_value.specs.declared.token.Token.{Token}
use Rattle.pt_puts.specs.declared.puts.StagedPut.{StagedPut}
use Rattle.pt_process.specs.declared.process.Process.TheInside.{Inside}
use Rattle.pt_process.specs.declared.need.KeptNeed.{KeptNeed}
use Rattle.pt_process.specs.declared.need.KeptNeed.TheVariants as kept
use Rattle.pt_process.specs.Process.{Standing, need_kept, row_if, got_in, alone_in, lined_in, HasOne, Gathers, seen_process}
use Rattle.pt_puts.specs.Puts.{puts_in}
use Rattle.pt_puts.specs.Lines.{room_at}
use Rattle.pt_puts.proofs.LineLaws.{same-lines}

-- there is room for as many tokens as are gathered at a place
abbrev pub HasRoomAt : List ℕ → List (Spared Token) → ℕ → Type 0
HasRoomAt ns lines q = get_or ns q 0 ≤ length (at (lists_of lines) q) + room_at lines q

pub rooms-next : (ns : List ℕ) (R : List (Spared Token)) (w : Spared Token) (k count : ℕ) → length R ≡ k → ((q : ℕ) → q < k → HasRoomAt ns R q) → count ≡ get_or ns k 0 → count ≤ length w.list + w.spare → (q : ℕ) → q < k + 1 → HasRoomAt ns (R ++ (w ∷ [])) q
rooms-next ns R w k count n h e r q l = by (split q k l)
  where
    split : (q k : ℕ) → q < k + 1 → (q < k) ⊎ (k ≡ q)
    split q k l = grind arith

    lists-front : (R : List (Spared Token)) (q : ℕ) → q < length R → at (lists_of (R ++ (w ∷ []))) q ≡ at (lists_of R) q
    lists-front [] q h = absurd (omega (arith, h))
    lists-front (x ∷ R) zero h = refl
    lists-front (x ∷ R) (suc q) h = lists-front R q (omega (arith, h))

    rooms-front : (R : List (Spared Token)) (q : ℕ) → q < length R → room_at (R ++ (w ∷ [])) q ≡ room_at R q
    rooms-front [] q h = absurd (omega (arith, h))
    rooms-front (x ∷ R) zero h = refl
    rooms-front (x ∷ R) (suc q) h = rooms-front R q (omega (arith, h))

    list-end : (R : List (Spared Token)) → at (lists_of (R ++ (w ∷ []))) (length R) ≡ w.list
    list-end [] = refl
    list-end (x ∷ R) = list-end R

    room-end : (R : List (Spared Token)) → room_at (R ++ (w ∷ [])) (length R) ≡ w.spare
    room-end [] = refl
    room-end (x ∷ R) = room-end R

    by : (q < k) ⊎ (k ≡ q) → HasRoomAt ns (R ++ (w ∷ [])) q
    by (inl s) =
        let a = ap (λ v. length v) (lists-front R q (omega (arith, n, s))) in
        let b = rooms-front R q (omega (arith, n, s)) in
        let c = h q s in
        omega (arith, a, b, c)
    by (inr s) = subst (λ j. HasRoomAt ns (R ++ (w ∷ [])) j) (n ∙ s) (
        let a = ap (λ v. length v) (list-end R) in
        let b = room-end R in
        let c = e ∙ ap (λ j. get_or ns j 0) (sym n) in
        omega (arith, a, b, c, r)
        )

module _ (handed : Bool) (full : ℕ) (row row' : Streams Token) (L M : List (Spared Token)) (f : row' ≡ row) (e : lists_of M ≡ lists_of L) where
  pub gathers-same : (need : KeptNeed) → ((q : ℕ) → q < length L → HasRoomAt (lined_in need) M q) → Gathers need handed full row L → Gathers need handed full row' M
  gathers-same kept.Over r g = tt
  gathers-same (kept.Counts ns) r g = λ h.
      record {
        counted = (g h).counted ∙ sym (same-lines L M e);
        order = ap (λ X. is_in_order ns X) e ∙ (g h).order;
        full = λ q l. subst (λ X. get_or ns q 0 ≤ length (at X q)) (sym e) ((g h).full q l);
        room = λ q l. r q (let z = same-lines L M e in omega (arith, l, z));
      }
  gathers-same kept.One r g = subst (λ X. HasOne handed full X) (sym f) g

  row-same : (b : Bool) → row_if b row' M ≡ row_if b row L
  row-same true = f
  row-same false = e

  pub got-same : (need : KeptNeed) → got_in need handed full row' M ≡ got_in need handed full row L
  got-same kept.Over = row-same handed
  got-same (kept.Counts ns) = row-same handed
  got-same kept.One = ap (λ X. alone_in full X) f

pub copied-is : (p : Inside) (s : Standing) (need : KeptNeed) (row : Streams Token) (M : List (Spared Token)) (us : List StagedPut) → need ≡ p.need → row ≡ p.row.items → lists_of M ≡ lists_of p.lines.items → puts_in us ≡ puts_in p.puts.items → seen_process p ≡ s →
    (let t : Standing = record { need = need_kept need; got = got_in need p.is_handed p.full row M; puts = puts_in us; handed = p.is_handed } in t) ≡ s
copied-is p s need row M us e f g h v =
    ap₂ (λ m w. let t : Standing = record { need = need_kept m; got = got_in m p.is_handed p.full row M; puts = w; handed = p.is_handed } in t) e h ∙
    ap (λ X. let t : Standing = record { need = need_kept p.need; got = X; puts = puts_in p.puts.items; handed = p.is_handed } in t) (got-same p.is_handed p.full p.row.items row p.lines.items M f g p.need) ∙ v
