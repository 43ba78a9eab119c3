-- What a process gathers, place by place.
use Rattle.std.proofs.Common.{◌≡◌, ◌⊎◌, inl, inr, ℕ, zero, suc, ◌+◌, ◌<◌, ◌≤◌, List, [], ◌∷◌, ◌++◌, Bool, true, false, nat_eq, length, set, get_or, Option, Some, None, refl, sym, ap, ap₂, subst, ◌∙◌, arith, length-append, length-set, zero-add}
use Rattle.pt_meaning.specs.Streams.{Streams, at}
use Rattle.pt_meaning.specs.Process.{lacking}
use Rattle.pt_meaning.specs.Jam.{is_in_order}
use Rattle.pt_reaction.specs.Spared.{Spared}
use Rattle.pt_reaction.specs.Channels.{lists_of}
use Rattle.pt_value.specs.declared.token.Token.{Token}
use Rattle.pt_pn_laws.proofs.ListLaws.{either-nat, at-change, at-change-other}
use Rattle.pt_pn_laws.proofs.GatherLaws.{in-order-more}
use Rattle.pt_pn_laws.proofs.ComesLaws.{in-order-takes}
use Rattle.pt_meaning.specs.Machine.{Takes, counted}
use Rattle.pt_process.specs.declared.need.KeptNeed.{KeptNeed}
use Rattle.pt_process.specs.declared.need.KeptNeed.TheVariants as kept
use Rattle.pt_process.specs.Process.{GathersBy, Gathers, HasOne, alone_in, row_if, got_in}
use Rattle.pt_puts.specs.Lines.{room_at}
use Rattle.pt_puts.proofs.LineLaws.{line-spare, lines-long, line-more, spare-set, spare-other}

-- one token more at the place that lacks one
module _ (ns : List ℕ) (full : ℕ) (L : List (Spared Token)) (g : GathersBy ns full L) (q : ℕ) (l m : Spared Token) (x : Token) (h : q < length L) (e : l ≡ get_or L q l) (f : m.list ≡ l.list ++ (x ∷ [])) (s : m.spare + 1 ≡ l.spare) where
  abbrev one : List Token → List Token
  one xs = xs ++ (x ∷ [])

  more-at : (k : ℕ) → (q ≡ k) ⊎ (nat_eq q k ≡ false) → length (at (lists_of L) k) ≤ length (at (lists_of (set L q m)) k)
  more-at k (inl z) =
      let a = ap (λ X. length (at X q)) (line-more L q l m x h e f) ∙ ap (λ v. length v) (at-change (lists_of L) q one (let n = lines-long L in omega (arith, h, n))) in
      let b = length-append (at (lists_of L) q) (x ∷ []) in
      subst (λ j. length (at (lists_of L) j) ≤ length (at (lists_of (set L q m)) j)) z (omega (arith, a, b))
  more-at k (inr z) = let a = ap (λ X. length (at X k)) (line-more L q l m x h e f) ∙ ap (λ v. length v) (at-change-other (lists_of L) q k one z) in omega (arith, a)

  more-room : (k : ℕ) → k < length L → (q ≡ k) ⊎ (nat_eq q k ≡ false) → get_or ns k 0 ≤ length (at (lists_of (set L q m)) k) + room_at (set L q m) k
  more-room k w (inl z) =
      let a = ap (λ X. length (at X q)) (line-more L q l m x h e f) ∙ ap (λ v. length v) (at-change (lists_of L) q one (let n = lines-long L in omega (arith, h, n))) in
      let b = length-append (at (lists_of L) q) (x ∷ []) in
      let c = spare-set L q m h in
      let d = line-spare L q l h e in
      let r = g.room q h in
      subst (λ j. get_or ns j 0 ≤ length (at (lists_of (set L q m)) j) + room_at (set L q m) j) z (omega (arith, a, b, c, d, r, s))
  more-room k w (inr z) =
      let a = ap (λ X. length (at X k)) (line-more L q l m x h e f) ∙ ap (λ v. length v) (at-change-other (lists_of L) q k one z) in
      let c = spare-other L q k m z in
      let r = g.room k w in
      omega (arith, a, c, r)

  pub gathers-more : lacking 0 ns (lists_of L) ≡ Some q → GathersBy ns full (set L q m)
  gathers-more lacks = record {
    counted = g.counted ∙ sym (length-set L q m);
    order = ap (λ X. is_in_order ns X) (line-more L q l m x h e f) ∙ in-order-more x ns (lists_of L) 0 q (lacks ∙ ap (λ v. Option.Some v) (sym (zero-add q))) g.order;
    full = λ k w. let a = g.full k w in let b = more-at k (either-nat q k) in omega (arith, a, b);
    room = λ k w. let n = length-set L q m in more-room k (omega (arith, w, n)) (either-nat q k);
  }

-- what is gathered by counts, where it isn't handed over
pub got-lines : (need : KeptNeed) (ns : List ℕ) (handed : Bool) (full : ℕ) (row : Streams Token) (L : List (Spared Token)) → need ≡ kept.Counts ns → handed ≡ false → got_in need handed full row L ≡ lists_of L
got-lines need ns handed full row L n h = ap₂ (λ m b. got_in m b full row L) n h

-- what is gathered at the only place, in the row once it is handed over
alone-handed : (handed : Bool) (full : ℕ) (row : Streams Token) → HasOne handed full row → handed ≡ true → alone_in full row ≡ row
alone-handed handed zero row f h = sym (f.1 h)
alone-handed handed (suc n) row f h = refl

pub alone-long : (handed : Bool) (full : ℕ) (row : Streams Token) → HasOne handed full row → length (alone_in full row) ≡ length row
alone-long handed zero row f = sym f.0
alone-long handed (suc n) row f = refl

pub alone-has : (handed : Bool) (full : ℕ) (row : Streams Token) → HasOne handed full row → HasOne true full (alone_in full row)
alone-has handed zero row f = (refl, λ _. refl)
alone-has handed (suc n) row f = f

pub alone-twice : (full : ℕ) (row : Streams Token) → alone_in full (alone_in full row) ≡ alone_in full row
alone-twice zero row = refl
alone-twice (suc n) row = refl

-- and what is, where it is handed over
pub got-row : (need : KeptNeed) (handed : Bool) (full : ℕ) (row : Streams Token) (L : List (Spared Token)) → Gathers need handed full row L → handed ≡ true → got_in need handed full row L ≡ row
got-row kept.Over handed full row L g h = ap (λ b. row_if b row L) h
got-row (kept.Counts ns) handed full row L g h = ap (λ b. row_if b row L) h
got-row kept.One handed full row L g h = alone-handed handed full row g h

-- as many places as the row has, and the lines
pub got-places : (need : KeptNeed) (handed : Bool) (full : ℕ) (row : Streams Token) (L : List (Spared Token)) → Gathers need handed full row L → length row ≡ length L → length (got_in need handed full row L) ≡ length L
got-places kept.Over true full row L g e = e
got-places kept.Over false full row L g e = lines-long L
got-places (kept.Counts ns) true full row L g e = e
got-places (kept.Counts ns) false full row L g e = lines-long L
got-places kept.One handed full row L g e = alone-long handed full row g ∙ e

-- what a process that has no put to make does next
pub fires-next : (ns : List ℕ) (full : ℕ) (L : List (Spared Token)) → GathersBy ns full L → lacking 0 ns (lists_of L) ≡ None → (left : Streams Token) × (counted ns (lists_of L) ≡ Takes (lists_of L) left)
fires-next ns full L g e = in-order-takes ns (lists_of L) 0 (g.counted ∙ sym (lines-long L)) g.order e
