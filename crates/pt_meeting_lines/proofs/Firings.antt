-- Lines of meetings, one after another, and firing by firing.
use Rattle.std.proofs.Common.{◌≡◌, ℕ, ◌+◌, ◌<◌, List, [], ◌∷◌, ◌++◌, Bool, true, false, nat_eq, Some, map, take, length, get_or, All, refl, sym, ap, subst, ◌∙◌, arith}
use Rattle.std.specs.Prelude.{slice_get}
use Rattle.std.specs.List.{AllZip}
use Rattle.std.proofs.lemmas.List.{take_more, length-map, get_or-map}
use Rattle.std.proofs.lemmas.List.Elements.{All-get_or}
use Rattle.pt_meaning.specs.Log.{if_same}
use Rattle.pt_records.specs.Kept.{Made}
use Rattle.pt_records.specs.Made.{made_in}
use Rattle.pt_net.specs.declared.net.Net.{Net}
use Rattle.pt_net.specs.declared.net.NetEntity.{NetEntity}
use Rattle.pt_trace.specs.declared.meetings.MeetingLine.{MeetingLine}
use Rattle.pt_meeting_lines.specs.Tells.{TellsAt}
use Rattle.pt_meeting_lines.specs.Lines.{met_if, met_in, AreLines}

zip-more : {A B : Type 0} (R : A → B → Type 0) (xs : List A) (ys : List B) (x : A) (y : B) → AllZip R xs ys → R x y → AllZip R (xs ++ x ∷ []) (ys ++ y ∷ [])
zip-more R [] [] x y z r = (r, tt)
zip-more R [] (b ∷ ys) x y z r = absurd z
zip-more R (a ∷ xs) [] x y z r = absurd z
zip-more R (a ∷ xs) (b ∷ ys) x y z r = (z.0, zip-more R xs ys x y z.1 r)

map-append : {A B : Type 0} (f : A → B) (xs ys : List A) → map f (xs ++ ys) ≡ map f xs ++ map f ys
map-append f [] ys = refl
map-append f (x ∷ xs) ys = ap (λ v. f x ∷ v) (map-append f xs ys)

-- one line more, for the next of these
pub zip-next : {A B C : Type 0} (R : A → C → Type 0) (f : B → C) (xs : List A) (ys : List B) (i : ℕ) (x : A) (d : B) → AllZip R xs (map f (take i ys)) → i < length ys → R x (f (get_or ys i d)) → AllZip R (xs ++ x ∷ []) (map f (take (i + 1) ys))
zip-next R f xs ys i x d z l r =
    let more : map f (take (i + 1) ys) ≡ map f (take i ys) ++ f (get_or ys i d) ∷ [] = ap (λ v. map f v) (take_more ys i d l) ∙ map-append f (take i ys) (get_or ys i d ∷ []) in
    subst (λ v. AllZip R (xs ++ x ∷ []) v) (sym more) (zip-more R xs (map f (take i ys)) x (f (get_or ys i d)) z r)

-- what holds of each of a list of these holds of the one of its number
pub all-at : {A B : Type 0} (P : B → Type 0) (f : A → B) (ys : List A) (i : ℕ) (d : A) → All P (map f ys) → i < length ys → P (f (get_or ys i d))
all-at P f ys i d h l = subst P (get_or-map f ys i d (f d) l) (All-get_or P (map f ys) i (f d) (omega (arith, l, length-map ys f)) h)

-- the lines of a firing tell its meetings, in order
pub by-firing : (net : Net) (k : ℕ) (round : NetEntity) (path : List ℕ) (n : ℕ) → slice_get net.entities.items k ≡ Some round → round.path ≡ path → (lines : List MeetingLine) (made : Made) → AreLines net k round lines made → AllZip (TellsAt net (Some path)) (met_in n lines) (made_in n made)
by-firing net k round path n there named [] [] z = tt
by-firing net k round path n there named [] (m ∷ made) z = absurd z
by-firing net k round path n there named (l ∷ lines) [] z = absurd z
by-firing net k round path n there named (l ∷ lines) (m ∷ made) z =
    subst (λ (f : ℕ). AllZip (TellsAt net (Some path)) (met_if (nat_eq l.firing n) l.what (met_in n lines)) (if_same (nat_eq f n) m.1 (made_in n made))) z.0.0
    (by_test (nat_eq l.firing n) (by-firing net k round path n there named lines made z.1))
  where
    by_test : (b : Bool) → AllZip (TellsAt net (Some path)) (met_in n lines) (made_in n made) → AllZip (TellsAt net (Some path)) (met_if b l.what (met_in n lines)) (if_same b m.1 (made_in n made))
    by_test true rest = ((k, round, there, named, z.0.1), rest)
    by_test false rest = rest
