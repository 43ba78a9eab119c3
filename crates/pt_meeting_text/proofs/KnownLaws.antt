-- What is known of meetings, and what more is.
use Rattle.std.proofs.Common.{◌≡◌, ℕ, zero, suc, ◌<◌, List, [], ◌∷◌, Option, None, Result, Ok, Err, OnOk, length, get_or, set, length-set, replicate, sym, ap, ◌∙◌, arith}
use Rattle.std.proofs.lemmas.Option.{slice_get_within}
use Rattle.std.specs.Vec.{with_item}
use Rattle.pt_meaning.specs.Log.{Meeting, Channel, Barrier}
use Rattle.pt_net.specs.Inside.{children_of, channels_in}
use Rattle.pt_meeting_lines.specs.declared.inside.Inside.{Inside}
use Rattle.pt_meeting_lines.specs.Inside.{IsInsideOf, CanBeTold}
use Rattle.pt_meeting_text.specs.declared.known.Known.{Known}
use Rattle.pt_meeting_text.specs.Written.{IsKnown, AreKnown}

pub on-ok : {A E P Q : Type 0} (r : Result A E) → (P → Q) → OnOk r P → OnOk r Q
on-ok (Ok x) f p = f p
on-ok (Err e) f p = tt

-- the channel or the child of a meeting that can be told is there
pub channel-there : (inside : Inside) (c : ℕ) → IsInsideOf inside → CanBeTold inside (Channel c) → c < length inside.channels.now
channel-there inside c is told = omega (arith, slice_get_within (channels_in inside.net.now.channels.items inside.number) c told.1.0 told.1.1, ap (λ xs. length xs) is.channels)

pub child-there : (inside : Inside) (b : ℕ) → IsInsideOf inside → CanBeTold inside (Barrier b) → b < length inside.children.now
child-there inside b is told = omega (arith, slice_get_within (children_of inside.net.now.entities.items inside.number) b told.1.0 told.1.1, ap (λ xs. length xs) is.children)

set-each : {X : Type 0} (P : ℕ → X → Type 0) (xs : List X) (i : ℕ) (x : X) → ((c : ℕ) (d : X) → c < length xs → P c (get_or xs c d)) → P i x → (c : ℕ) (d : X) → c < length (set xs i x) → P c (get_or (set xs i x) c d)
set-each P [] i x h p c d l = absurd (omega (arith, l, length-set [] i x))
set-each P (y ∷ ys) zero x h p zero d l = p
set-each P (y ∷ ys) zero x h p (suc c) d l = h (suc c) d l
set-each P (y ∷ ys) (suc i) x h p zero d l = h zero d (omega arith)
set-each P (y ∷ ys) (suc i) x h p (suc c) d l = set-each (λ n z. P (suc n) z) ys i x (λ m e q. h (suc m) e (omega (arith, q))) p c d (omega (arith, l))

pub channel-known : (inside : Inside) (known : Known) (c : ℕ) (k : Option (List ℕ)) → AreKnown inside known → IsKnown inside (Channel c) k → AreKnown inside (record { channels = with_item known.channels c k; children = known.children })
channel-known inside known c k a p = record {
  channels = length-set known.channels.items c k ∙ a.channels;
  children = a.children;
  on_channel = set-each (λ n z. IsKnown inside (Channel n) z) known.channels.items c k a.on_channel p;
  of_child = a.of_child;
}

pub child-known : (inside : Inside) (known : Known) (b : ℕ) (k : Option (List ℕ)) → AreKnown inside known → IsKnown inside (Barrier b) k → AreKnown inside (record { channels = known.channels; children = with_item known.children b k })
child-known inside known b k a p = record {
  channels = a.channels;
  children = length-set known.children.items b k ∙ a.children;
  on_channel = a.on_channel;
  of_child = set-each (λ n z. IsKnown inside (Barrier n) z) known.children.items b k a.of_child p;
}

-- of so many meetings nothing is known
none-of : (n c : ℕ) (d : Option (List ℕ)) (xs : List (Option (List ℕ))) → xs ≡ replicate n None → c < length xs → get_or xs c d ≡ None
none-of zero c d xs e l = absurd (omega (arith, l, ap (λ v. length v) e))
none-of (suc n) zero d xs e l = ap (λ v. get_or v 0 d) e
none-of (suc n) (suc c) d [] e l = absurd (omega (arith, l))
none-of (suc n) (suc c) d (x ∷ xs) e l = let rest : xs ≡ replicate n None = cc in none-of n c d xs rest (omega (arith, l))

pub none-known : (inside : Inside) (n c : ℕ) (m : Meeting) (d : Option (List ℕ)) (xs : List (Option (List ℕ))) → xs ≡ replicate n None → c < length xs → IsKnown inside m (get_or xs c d)
none-known inside n c m d xs e l end is = let no : Option.None ≡ Option.Some end = sym (none-of n c d xs e l) ∙ is in cc
