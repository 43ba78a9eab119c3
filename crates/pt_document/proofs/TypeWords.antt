-- Reading a type's text word by word.
use Rattle.std.proofs.Common.{◌≡◌, codes, ℕ, zero, suc, ◌-◌, ◌<◌, List, [], ◌∷◌, ◌++◌, Bool, true, false, not, cond, Some, None, reverse, map, refl, sym, ap, ◌∙◌, arith}
use Rattle.std.proofs.lemmas.List.{map_push, reverse-append}
use Rattle.std.specs.List.{list_any}
use Rattle.std.specs.Borrow.{Bor}
use Rattle.std.specs.declared.hash.DefaultHasher.{DefaultHasher}
use Rattle.std.specs.declared.hash.BuildHasherDefault.{BuildHasherDefault}
use Rattle.indexmap.specs.IndexSet.{IndexSet}
use Rattle.pt_document.specs.Names.{has_name}
use Rattle.pt_document.specs.TypeTexts.{is_field_name}
use Rattle.pt_document.specs.declared.type_text.Open.{Open as Given}
use Rattle.pt_document.specs.declared.type_text.Open.TheVariants as given
use Rattle.pt_document.specs.TypeWords.{Place, Ends, goes_or, behind, one_more, behind_field, go_on, step, leads, from_next, names_view, open_view, stack_view}
use Rattle.pt_document.proofs.DistinctNames.{Name, texts, same, has_name-texts}

-- a name that is there already
pub not_new : (seen : List Name) (name : Name) (new : Bool) → is_field_name name.now ≡ true → new ≡ not (list_any (same name) seen) → new ≡ false → None ≡ one_more (texts seen) name.now
not_new seen name new fits added old =
    let there : has_name (texts seen) name.now ≡ true = has_name-texts seen name ∙ chosen (list_any (same name) seen) (sym added ∙ old) in
    rw (fits, there) refl
  where
    chosen : (b : Bool) → not b ≡ false → b ≡ true
    chosen true h = refl
    chosen false h = absurd cc

-- a new name
pub is_more : (seen keys : List Name) (name : Name) (new : Bool) → is_field_name name.now ≡ true → new ≡ not (list_any (same name) seen) → new ≡ true → keys ≡ cond (list_any (same name) seen) seen (seen ++ name ∷ []) → Some (texts keys) ≡ one_more (texts seen) name.now
is_more seen keys name new fits added fresh are =
    let absent : list_any (same name) seen ≡ false = chosen (list_any (same name) seen) (sym added ∙ fresh) in
    let free : has_name (texts seen) name.now ≡ false = has_name-texts seen name ∙ absent in
    let pushed : texts keys ≡ texts seen ++ name.now ∷ [] = ap texts (are ∙ ap (λ (b : Bool). cond b seen (seen ++ name ∷ [])) absent) ∙ map_push (λ (n : Name). n.now) seen name in
    rw (fits, free, pushed) refl
  where
    chosen : (b : Bool) → not b ≡ true → b ≡ false
    chosen true h = absurd cc
    chosen false h = refl

-- one word more
pub turn : (n : ℕ) (place : Place) (total : Bool) → 0 < n → leads n place ≡ total → from_next (λ p. leads (n - 1) p) (step place) ≡ total
unfolding leads
turn zero place total h so_far = absurd (omega arith)
turn (suc n) place total h so_far = let same : suc n - 1 ≡ n = omega arith in rw same so_far

-- no word is left
pub none_left : (n : ℕ) (place : Place) (total : Bool) → n ≡ 0 → leads n place ≡ total → false ≡ total
unfolding leads
none_left n place total none so_far = sym (ap (λ (m : ℕ). leads m place) none) ∙ so_far

stack-top : (around : List Given) (last : Given) → stack_view (around ++ last ∷ []) ≡ open_view last ∷ stack_view around
stack-top around last = ap reverse (map_push open_view around last) ∙ reverse-append (map open_view around) (open_view last ∷ [])

-- what is innermost is an array
pub behind-array : (around rest : List Given) (text : List ℕ) → around ≡ rest ++ given.Array ∷ [] → go_on (stack_view around) text ≡ goes_or false (stack_view rest) (behind (codes ")") text) (Ends false)
unfolding go_on
behind-array around rest text e = ap (λ os. go_on (stack_view os) text) e ∙ ap (λ os. go_on os text) (stack-top rest given.Array)

-- what is innermost is a record
pub behind-record : (around rest : List Given) (names : IndexSet (Bor (List ℕ)) (BuildHasherDefault DefaultHasher)) (text : List ℕ) → around ≡ rest ++ given.Record names ∷ [] → go_on (stack_view around) text ≡ behind_field (names_view names) (stack_view rest) text
unfolding go_on
behind-record around rest names text e = ap (λ os. go_on (stack_view os) text) e ∙ ap (λ os. go_on os text) (stack-top rest (given.Record names))
