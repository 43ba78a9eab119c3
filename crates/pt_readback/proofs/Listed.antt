-- Reading what is listed in a text, one thing after another.
use Rattle.std.proofs.Common.{◌≡◌, ℕ, ◌<◌, ◌≤◌, List, [], ◌∷◌, ◌++◌, Bool, true, false, length, All, flat_map, Result, Ok, Err, refl, sym, ap, subst, ◌∙◌, append_assoc, append-nil, arith}
use Rattle.std.specs.Prelude.{IsErrAnd}
use Rattle.std.proofs.lemmas.Bool.{false≢true}
use Rattle.std.proofs.lemmas.List.Elements.{All-nil, All-head, All-tail, All-push}
use Rattle.pt_readback.specs.declared.fault.ReportFault.{ReportFault}
use Rattle.pt_readback.specs.declared.fault.ReportFault.TheVariants.{Memory}
use Rattle.pt_readback.specs.Listed.{Finds, front, listed, Left, SoFar}

-- things that are printed alike, whatever came before
pub flat_listed : {X : Type 0} (f : X → List ℕ) (earlier xs : List X) → listed (λ _ x. f x) earlier xs ≡ flat_map f xs
flat_listed f earlier [] = refl
flat_listed f earlier (x ∷ xs) = ap (λ r. f x ++ r) (flat_listed f (earlier ++ x ∷ []) xs)

pub both : {X : Type 0} (P Q R : X → Type 0) → ((x : X) → P x → Q x → R x) → (xs : List X) → All P xs → All Q xs → All R xs
both P Q R make xs h k = λ i d short. make _ (h i d short) (k i d short)

-- what `?` answers where a part wasn't found
pub same_fault : {X Y : Type 0} (view : X → Y) (r : Result X ReportFault) (fault : ReportFault) (y : Y) → IsErrAnd r (λ f. f ≡ fault) → fault ≡ Memory → Finds view r y
same_fault view (Ok x) fault y h m = absurd h
same_fault view (Err f) fault y h m = h ∙ m

module _ {X : Type 0} (say : List X → X → List ℕ) (P F : X → Type 0) (begins stop : ℕ → Bool)
    (starts : (earlier : List X) (x : X) (rest : List ℕ) → P x → begins (front (say earlier x ++ rest)) ≡ true)
    (stops : (earlier : List X) (x : X) (rest : List ℕ) → P x → stop (front (say earlier x ++ rest)) ≡ false) where
  -- the next of what is left, and what is left then
  record Next (read all : List X) (after rest : List ℕ) : Type 0 where
    x : X
    behind : List ℕ
    lawful : P x
    stopped : stop (front behind) ≡ false
    printed : say read x ++ behind ≡ rest
    goes : (new : List X) (more : List ℕ) → new ≡ read ++ x ∷ [] → more ≡ behind → Left say P new all after more

  stopped_at : (read others : List X) (after : List ℕ) → All P others → stop (front after) ≡ false → stop (front (listed say read others ++ after)) ≡ false
  stopped_at read [] after h s = s
  stopped_at read (y ∷ ys) after h s = ap (λ r. stop (front r)) (append_assoc (say read y) (listed say (read ++ y ∷ []) ys) after) ∙ stops read y _ (All-head P y ys h)

  next_of : (read all others : List X) (after rest : List ℕ) → all ≡ read ++ others → All P others → listed say read others ++ after ≡ rest → begins (front rest) ≡ true → begins (front after) ≡ false → stop (front after) ≡ false → Next read all after rest
  next_of read all [] after rest is h e b n s = absurd (false≢true (sym n ∙ ap (λ r. begins (front r)) e ∙ b))
  next_of read all (y ∷ ys) after rest is h e b n s = record {
    x = y;
    behind = listed say (read ++ y ∷ []) ys ++ after;
    lawful = All-head P y ys h;
    stopped = stopped_at (read ++ y ∷ []) ys after (All-tail P y ys h) s;
    printed = sym (append_assoc (say read y) (listed say (read ++ y ∷ []) ys) after) ∙ e;
    goes = λ new more m r. record {
      others = ys;
      is = is ∙ sym (append_assoc read (y ∷ []) ys) ∙ ap (λ l. l ++ ys) (sym m);
      lawful = All-tail P y ys h;
      printed = ap (λ l. listed say l ys ++ after) m ∙ sym r;
    };
  }

  next : (read all : List X) (after rest : List ℕ) → Left say P read all after rest → begins (front rest) ≡ true → begins (front after) ≡ false → stop (front after) ≡ false → Next read all after rest
  next read all after rest l b n s = next_of read all l.others after rest l.is l.lawful l.printed b n s

  done_of : (read all others : List X) (after rest : List ℕ) → all ≡ read ++ others → All P others → listed say read others ++ after ≡ rest → begins (front rest) ≡ false → ◌≡◌ {A = List X × List ℕ} (read, rest) (all, after)
  done_of read all [] after rest is h e b = λ i. (sym (is ∙ append-nil read) i, sym e i)
  done_of read all (y ∷ ys) after rest is h e b =
      absurd (false≢true (sym b ∙ ap (λ r. begins (front r)) (sym e ∙ append_assoc (say read y) (listed say (read ++ y ∷ []) ys) after) ∙ starts read y _ (All-head P y ys h)))

  -- nothing is read yet
  pub so_far_none : (text : List ℕ) → SoFar say P F begins stop text [] text
  so_far_none text = record {
    left = λ all after h n s e. record { others = all; is = refl; lawful = h; printed = e };
    kind = All-nil F;
    within = omega arith;
  }

  -- one more is read
  pub so_far_more : (text rest behind : List ℕ) (read : List X) (x : X) → SoFar say P F begins stop text read rest → begins (front rest) ≡ true
      → ((earlier : List X) (y : X) (after : List ℕ) → P y → stop (front after) ≡ false → say earlier y ++ after ≡ rest → ◌≡◌ {A = X × List ℕ} (x, behind) (y, after))
      → F x → length behind < length rest → SoFar say P F begins stop text (read ++ x ∷ []) behind
  so_far_more text rest behind read x so b one f short = record {
    left = λ all after h n s e.
        let k = next read all after rest (so.left all after h n s e) b n s in
        let p = one read k.x k.behind k.lawful k.stopped k.printed in
        k.goes (read ++ x ∷ []) behind (ap (λ q. read ++ q.0 ∷ []) p) (ap (λ q. q.1) p);
    kind = All-push F read x so.kind f;
    within = omega (arith, so.within, short);
  }

  -- what one more would give, it gives
  pub so_far_fails : (Q : Type 0) (text rest : List ℕ) (read : List X) → SoFar say P F begins stop text read rest → begins (front rest) ≡ true
      → ((earlier : List X) (y : X) (after : List ℕ) → P y → stop (front after) ≡ false → say earlier y ++ after ≡ rest → Q)
      → (all : List X) (after : List ℕ) → All P all → begins (front after) ≡ false → stop (front after) ≡ false → listed say [] all ++ after ≡ text → Q
  so_far_fails Q text rest read so b one all after h n s e =
      let k = next read all after rest (so.left all after h n s e) b n s in
      one read k.x k.behind k.lawful k.stopped k.printed

  -- all are read
  pub so_far_all : (text rest : List ℕ) (read : List X) → SoFar say P F begins stop text read rest → begins (front rest) ≡ false
      → (all : List X) (after : List ℕ) → All P all → begins (front after) ≡ false → stop (front after) ≡ false → listed say [] all ++ after ≡ text → ◌≡◌ {A = List X × List ℕ} (read, rest) (all, after)
  so_far_all text rest read so b all after h n s e =
      let l = so.left all after h n s e in
      done_of read all l.others after rest l.is l.lawful l.printed b
