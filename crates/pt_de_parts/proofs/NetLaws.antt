-- The tables of a plan.
use Rattle.std.proofs.Common.{◌≡◌, ℕ, zero, suc, ◌+◌, ◌-◌, ◌<◌, ◌≤◌, List, [], ◌∷◌, ◌++◌, Vec, length, get_or, map, max, take, replicate, sym, ap, subst, ◌∙◌, arith, zero-add}
use Rattle.std.proofs.lemmas.List.{length-append, length-map, length-replicate, take_more, take_all}
use Rattle.std.specs.Global.{Global}
use Rattle.pt_meaning.specs.Running.{total}
use Rattle.pt_meaning.specs.Net.{Source}
use Rattle.pt_core.specs.Source.{source_of}
use Rattle.pt_reaction.specs.declared.feeds.Feed.{Feed}
use Rattle.pt_reaction.specs.Feeds.{target_of, targets, AreFeeds, MovesOnce}
use Rattle.pt_reaction.specs.Offsets.{begins, readers, all_readers}
use Rattle.pt_reaction.proofs.OffsetLaws.{begins-at, begins-long, total-all, readers-long}
use Rattle.pt_reaction.proofs.FirstLaws.{row-items}
use Rattle.pt_reaction.proofs.Fills.{read-at}
use Rattle.pt_de_parts.specs.Net.{Planned, reader_in, planned_in, IsNet}
use Rattle.pt_de_parts.specs.declared.net.Net.TheInside.{Inside}

-- each channel has a reader
pub all-readers-long : (ps : List ℕ) (channels : ℕ) → total ps ≤ channels → length (all_readers ps channels) ≡ channels
all-readers-long ps channels h =
    let a = length-append (readers 0 ps) (replicate (channels - total ps) (length ps)) in
    let b = readers-long 0 ps in
    let c = length-replicate (channels - total ps) (length ps) in
    omega (arith, a, b, c, h)

pub reader-there : (ps found : List ℕ) (channels c : ℕ) → total ps ≤ channels → found ≡ all_readers ps channels → c < channels → c < length found
reader-there ps found channels c h e l = let a = all-readers-long ps channels h in let b = ap (λ v. length v) e in omega (arith, a, b, l)

pub reader-is : (ps found : List ℕ) (channels c x : ℕ) → total ps ≤ channels → found ≡ all_readers ps channels → c < channels → x ≡ get_or found c x → x ≡ get_or (all_readers ps channels) c (length ps)
reader-is ps found channels c x h e l r = read-at found c x (length ps) (reader-there ps found channels c h e l) r ∙ ap (λ v. get_or v c (length ps)) e

-- where places begin
pub offset-there : (ps offsets : List ℕ) (i : ℕ) → offsets ≡ begins 0 ps → i ≤ length ps → i < length offsets
offset-there ps offsets i e h = let a = begins-long 0 ps in let b = ap (λ v. length v) e in omega (arith, a, b, h)

pub offset-is : (ps offsets : List ℕ) (i x : ℕ) → offsets ≡ begins 0 ps → i ≤ length ps → x ≡ get_or offsets i x → x ≡ total (take i ps)
offset-is ps offsets i x e h r = read-at offsets i x 0 (offset-there ps offsets i e h) r ∙ ap (λ v. get_or v i 0) e ∙ begins-at 0 ps i h ∙ zero-add (total (take i ps))

pub end-is : (ps offsets : List ℕ) (n x : ℕ) → offsets ≡ begins 0 ps → n ≡ length ps → x ≡ get_or offsets n x → x ≡ total ps
end-is ps offsets n x e h r = offset-is ps offsets n x e (omega (arith, h)) r ∙ ap (λ k. total (take k ps)) h ∙ total-all ps

-- the feeds of a row
pub feeds-there : (n : ℕ) (ss : List Source) (rows : List (Vec Feed Global)) (r : ℕ) → AreFeeds n ss rows → r ≤ n → r < length rows
feeds-there n ss rows r a h = let t = a.targets in let b = t.counted in omega (arith, b, h)

pub feeds-are : (n : ℕ) (ss : List Source) (rows : List (Vec Feed Global)) (r : ℕ) (v : Vec Feed Global) → AreFeeds n ss rows → r ≤ n → v ≡ get_or rows r v → map target_of v.items ≡ targets n r 0 ss
feeds-are n ss rows r v a h e = let t = a.targets in ap (λ x. map target_of x) (row-items rows r v (feeds-there n ss rows r a h) e) ∙ t.each r (omega (arith, h))

pub feeds-move : (n : ℕ) (ss : List Source) (rows : List (Vec Feed Global)) (r : ℕ) (v : Vec Feed Global) → AreFeeds n ss rows → r ≤ n → v ≡ get_or rows r v → MovesOnce v.items
feeds-move n ss rows r v a h e = subst (λ x. MovesOnce x) (sym (row-items rows r v (feeds-there n ss rows r a h) e)) (a.moves r (omega (arith, h)))

most-push : (xs : List ℕ) (x y i most most' : ℕ) → x ≡ y → most' ≡ max x most → ((j : ℕ) → get_or xs j 0 ≤ most) → get_or (xs ++ y ∷ []) i 0 ≤ most'
most-push [] x y zero most most' r m a = omega (arith, r, m)
most-push [] x y (suc i) most most' r m a = omega arith
most-push (z ∷ xs) x y zero most most' r m a = let b = a 0 in omega (arith, b, m)
most-push (z ∷ xs) x y (suc i) most most' r m a = most-push xs x y i most most' r m (λ j. a (suc j))

-- the most so far, one more
pub most-more : (ps : List ℕ) (k x most most' : ℕ) → k < length ps → x ≡ get_or ps k x → most' ≡ max x most → ((i : ℕ) → get_or (take k ps) i 0 ≤ most) → (i : ℕ) → get_or (take (k + 1) ps) i 0 ≤ most'
most-more ps k x most most' h r m a i = subst (λ v. get_or v i 0 ≤ most') (sym (take_more ps k 0 h)) (most-push (take k ps) x (get_or ps k 0) i most most' (read-at ps k x 0 h r) m a)

pub most-all : (ps : List ℕ) (k most : ℕ) → length ps ≤ k → ((i : ℕ) → get_or (take k ps) i 0 ≤ most) → (i : ℕ) → get_or ps i 0 ≤ most
most-all ps k most h a i = subst (λ v. get_or v i 0 ≤ most) (take_all k ps h) (a i)

-- what is read of a net that is seen so
module _ (n : Inside) (a : IsNet n) (now : Planned) (v : planned_in n ≡ now) where
  pub child-there : (i : ℕ) → i < length now.plan.net.places → i < length n.plan.inside.places
  child-there i h = let e = ap (λ (p : Planned). length p.plan.net.places) v in omega (arith, h, e)

  pub row-there : (i : ℕ) → i ≤ length now.plan.net.places → i ≤ length n.plan.inside.places
  row-there i h = let e = ap (λ (p : Planned). length p.plan.net.places) v in omega (arith, h, e)

  pub first-there : (i : ℕ) → i < length now.plan.net.places → i < length n.offsets.items
  first-there i h = let l = child-there i h in offset-there n.plan.inside.places n.offsets.items i a.offsets (omega (arith, l))

  pub first-is : (i x : ℕ) → i < length now.plan.net.places → x ≡ get_or n.offsets.items i x → x ≡ total (take i now.plan.net.places)
  first-is i x h e = let l = child-there i h in offset-is n.plan.inside.places n.offsets.items i x a.offsets (omega (arith, l)) e ∙ ap (λ (p : Planned). total (take i p.plan.net.places)) v

  pub behind-there : (i : ℕ) → i < length now.plan.net.places → i + 1 < length n.offsets.items
  behind-there i h = let l = child-there i h in offset-there n.plan.inside.places n.offsets.items (i + 1) a.offsets (omega (arith, l))

  pub behind-is : (i x : ℕ) → i < length now.plan.net.places → x ≡ get_or n.offsets.items (i + 1) x → x ≡ total (take (i + 1) now.plan.net.places)
  behind-is i x h e = let l = child-there i h in offset-is n.plan.inside.places n.offsets.items (i + 1) x a.offsets (omega (arith, l)) e ∙ ap (λ (p : Planned). total (take (i + 1) p.plan.net.places)) v

  pub end-there : (k : ℕ) → k ≡ length n.plan.inside.places → k < length n.offsets.items
  end-there k e = offset-there n.plan.inside.places n.offsets.items k a.offsets (omega (arith, e))

  pub end-seen : (k x : ℕ) → k ≡ length n.plan.inside.places → x ≡ get_or n.offsets.items k x → x ≡ total now.plan.net.places
  end-seen k x e r = end-is n.plan.inside.places n.offsets.items k x a.offsets e r ∙ ap (λ (p : Planned). total p.plan.net.places) v

  channels-are : length (map source_of n.plan.inside.sources.items) ≡ length n.plan.inside.sources.items
  channels-are = length-map n.plan.inside.sources.items source_of

  enough : total n.plan.inside.places ≤ length n.plan.inside.sources.items
  enough = let w = a.lawful in let b = w.channels in let e = channels-are in omega (arith, b, e)

  within : (c : ℕ) → c < length now.plan.net.sources → c < length n.plan.inside.sources.items
  within c h = let e = ap (λ (p : Planned). length p.plan.net.sources) v in let d = channels-are in omega (arith, h, e, d)

  pub reader-at : (c : ℕ) → c < length now.plan.net.sources → c < length n.readers.items
  reader-at c h = reader-there n.plan.inside.places n.readers.items (length n.plan.inside.sources.items) c enough a.readers (within c h)

  pub reader-seen : (c x : ℕ) → c < length now.plan.net.sources → x ≡ get_or n.readers.items c x → x ≡ reader_in now c
  reader-seen c x h e =
      reader-is n.plan.inside.places n.readers.items (length n.plan.inside.sources.items) c x enough a.readers (within c h) e ∙ ap (λ m. get_or (all_readers n.plan.inside.places m) c (length n.plan.inside.places)) (sym channels-are) ∙ ap (λ (p : Planned). reader_in p c) v

  pub row-moves : (r : ℕ) (f : Vec Feed Global) → r ≤ length now.plan.net.places → f ≡ get_or n.feeds.items r f → MovesOnce f.items
  row-moves r f h e = feeds-move (length n.plan.inside.places) (map source_of n.plan.inside.sources.items) n.feeds.items r f a.feeds (row-there r h) e

  pub row-targets : (r : ℕ) (f : Vec Feed Global) → r ≤ length now.plan.net.places → f ≡ get_or n.feeds.items r f → map target_of f.items ≡ targets (length now.plan.net.places) r 0 now.plan.net.sources
  row-targets r f h e = feeds-are (length n.plan.inside.places) (map source_of n.plan.inside.sources.items) n.feeds.items r f a.feeds (row-there r h) e ∙ ap (λ (p : Planned). targets (length p.plan.net.places) r 0 p.plan.net.sources) v
