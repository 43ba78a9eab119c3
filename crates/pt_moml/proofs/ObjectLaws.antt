-- What is refused in an object stands there, and where an object is read nothing stands.
use Rattle.std.proofs.Common.{◌≡◌, inl, inr, List, [], ◌∷◌, ℕ, Result, Ok, Err, Some, None, Bool, true, false, cond, Ordering, Less, Equal, Greater, refl, sym, ap, ◌∙◌, subst}
use Rattle.std.specs.Ordering.{nat_cmp, match_ordering, is_eq}
use Rattle.std.specs.Cmp.Lexicographic.{slice_cmp}
use Rattle.std.proofs.lemmas.Map.Text.{is_eq-slice_cmp}
use Rattle.std.proofs.lemmas.Slice.Eq.{bytes_eq-Decides}
use Rattle.serde_json.specs.Data.{Data, null, boolean, number, string, array, object as members_of, Members, no_members, member}
use Rattle.serde_json.specs.Find.{get, get_member}
use Rattle.pt_document.specs.declared.code.Code.{Code}
use Rattle.pt_document.specs.declared.code.Code.TheVariants.{Shape}
use Rattle.pt_document.specs.declared.refusal.Refusal.{Refusal}
use Rattle.pt_document.specs.Outcome.{◌>>=◌}
use Rattle.pt_document.specs.Names.{is_among}
use Rattle.pt_moml.specs.Fields.{has_only, listed}
use Rattle.pt_moml.specs.Forms.{Object, Field, fields, keys, object}
use Rattle.pt_moml.specs.Stands.{Faulty, unknown_field, missing_field, in_field, undirected, IsIn, is_object_of, is_directed}
use Rattle.pt_document.proofs.Chains.{Is, is_refused, bind_err, bind_ok, never_err, test_err, test_ok}
use Rattle.pt_moml.proofs.FieldLaws.{Fine, Reads, AtField, absent, within, FineAt, ReadsAt, moved}

-- nothing is refused at these fields
abbrev pub AllFine : List Field → Data → Type 0
AllFine [] d = Unit {0}
AllFine (f ∷ fs) d = FineAt f.is_required f.form (get f.key d) × AllFine fs d

fine_among : (fs : List Field) (f : Field) (d : Data) → AllFine fs d → IsIn f fs → FineAt f.is_required f.form (get f.key d)
fine_among [] f d all is_in = absurd is_in
fine_among (g ∷ fs) f d all (inl same) = subst (λ (h : Field). FineAt h.is_required h.form (get h.key d)) (sym same) all.0
fine_among (g ∷ fs) f d all (inr later) = fine_among fs f d all.1 later

pub fine_object : (o : Object) (d : Data) → is_object_of (keys o) d ≡ true → AllFine (fields o) d → is_directed o d ≡ true → Fine (object o) d
fine_object o d known all directed code (unknown_field _ bad) = let both : true ≡ false = sym known ∙ bad in cc
fine_object o d known all directed code (missing_field _ f is_in needed none) = (fine_among (fields o) f d all is_in).given needed none
fine_object o d known all directed code (in_field _ f x is_in is stands) = (fine_among (fields o) f d all is_in).fine x is code stands
fine_object o d known all directed code (undirected _ bad) = let both : true ≡ false = sym directed ∙ bad in cc

-- a refusal at a field of an object stands in the object
pub at_field : (r : Refusal) (o : Object) (f : Field) (d : Data) → IsIn f (fields o) → AtField r f.is_required f.form (get f.key d) → Faulty r.code (object o) d
at_field r o f d is_in (absent is needed none) = subst (λ (c : Code). Faulty c (object o) d) (sym is) (missing_field o f is_in needed none)
at_field r o f d is_in (within x is stands) = in_field o f x is_in is stands

-- The rest of reading an object: a refusal stands in the object, and where it comes to its end nothing is refused at these fields.
pub record Chain {A : Type 0} (path : List ℕ) (o : Object) (d : Data) (fs : List Field) (rest : Result A Refusal) : Type 0 where
  pub told : (r : Refusal) → rest ≡ Err r → (r.path ≡ path) × Faulty r.code (object o) d
  pub clean : (a : A) → rest ≡ Ok a → AllFine fs d

pub chain_end : {A : Type 0} (path : List ℕ) (o : Object) (d : Data) (a : A) → Chain path o d [] (Ok a)
chain_end path o d a = record { told = λ r e. absurd (never_err a r e); clean = λ _ _. tt }

-- one field more
pub chain_step : {A B : Type 0} (path : List ℕ) (o : Object) (d : Data) (f : Field) (fs : List Field) (x : Result A Refusal) (g : A → Result B Refusal) → IsIn f (fields o) → ReadsAt path f.is_required f.form x (get f.key d) → ((a : A) → x ≡ Ok a → Chain path o d fs (g a)) → Chain path o d (f ∷ fs) (x >>= g)
chain_step path o d f fs x g is_in reads rest =
    record {
      told = λ r e. elim (bind_err x g r e) [
        | inl h ↦ (let t = reads.told r h in (t.0, at_field r o f d is_in t.1))
        | inr h ↦ (rest h.0 h.1).told r h.2
      ];
      clean = λ b e. (let h = bind_ok x g b e in (reads.clean h.0 h.1, (rest h.0 h.1).clean b h.2));
    }

pub listed_told : (path : List ℕ) (ks : List (List ℕ)) (d : Data) (r : Refusal) → listed path ks d ≡ Err r → Is r Shape path × (is_object_of ks d ≡ false)
listed_told path ks (members_of ms) r e = test_err (has_only ks ms) tt Shape path r e
listed_told path ks null r e = (is_refused Shape path r e, refl)
listed_told path ks (boolean b) r e = (is_refused Shape path r e, refl)
listed_told path ks (number n) r e = (is_refused Shape path r e, refl)
listed_told path ks (string s) r e = (is_refused Shape path r e, refl)
listed_told path ks (array ds) r e = (is_refused Shape path r e, refl)

pub listed_ok : (path : List ℕ) (ks : List (List ℕ)) (d : Data) (u : Unit {0}) → listed path ks d ≡ Ok u → is_object_of ks d ≡ true
listed_ok path ks (members_of ms) u e = (test_ok (has_only ks ms) tt u Shape path e).0
listed_ok path ks null u e = absurd cc
listed_ok path ks (boolean b) u e = absurd cc
listed_ok path ks (number n) u e = absurd cc
listed_ok path ks (string s) u e = absurd cc
listed_ok path ks (array ds) u e = absurd cc

-- a field of which enough is known
pub chain_known : {A : Type 0} (path : List ℕ) (o : Object) (d : Data) (f : Field) (fs : List Field) (rest : Result A Refusal) → FineAt f.is_required f.form (get f.key d) → Chain path o d fs rest → Chain path o d (f ∷ fs) rest
chain_known path o d f fs rest known chain = record { told = chain.told; clean = λ a e. (known, chain.clean a e) }

-- a step that refuses nothing
pub chain_skip : {A B : Type 0} (path : List ℕ) (o : Object) (d : Data) (fs : List Field) (x : Result A Refusal) (g : A → Result B Refusal) → ((r : Refusal) → x ≡ Err r → ⊥) → ((a : A) → x ≡ Ok a → Chain path o d fs (g a)) → Chain path o d fs (x >>= g)
chain_skip path o d fs x g never rest =
    record {
      told = λ r e. elim (bind_err x g r e) [ inl h ↦ absurd (never r h) | inr h ↦ (rest h.0 h.1).told r h.2 ];
      clean = λ b e. (let h = bind_ok x g b e in (rest h.0 h.1).clean b h.2);
    }

-- an object whose fields are read one after the other
pub known_object_reads : {A : Type 0} (path : List ℕ) (o : Object) (d : Data) (rest : Result A Refusal) → (is_object_of (keys o) d ≡ true → Chain path o d (fields o) rest) → ((a : A) → (listed path (keys o) d >>= λ _. rest) ≡ Ok a → is_directed o d ≡ true) → Reads path (object o) (listed path (keys o) d >>= λ _. rest) d
known_object_reads path o d rest chain directed =
    record {
      told = λ r e. elim (bind_err (listed path (keys o) d) (λ _. rest) r e) [
        | inl h ↦ (let t = listed_told path (keys o) d r h in moved r Shape path (object o) d t.0 (unknown_field o t.1))
        | inr h ↦ (chain (listed_ok path (keys o) d h.0 h.1)).told r h.2
      ];
      clean = λ a e. (let h = bind_ok (listed path (keys o) d) (λ _. rest) a e in
          let known = listed_ok path (keys o) d h.0 h.1 in
          fine_object o d known ((chain known).clean a h.2) (directed a e));
    }

pub object_reads : {A : Type 0} (path : List ℕ) (o : Object) (d : Data) (rest : Result A Refusal) → Chain path o d (fields o) rest → ((a : A) → (listed path (keys o) d >>= λ _. rest) ≡ Ok a → is_directed o d ≡ true) → Reads path (object o) (listed path (keys o) d >>= λ _. rest) d
object_reads path o d rest chain directed = known_object_reads path o d rest (λ _. chain) directed

-- ---- fields that aren't there

absent_member : (ks : List (List ℕ)) (k : List ℕ) (ms : Members) → has_only ks ms ≡ true → is_among ks k ≡ false → get_member k ms ≡ None
absent_member ks k no_members known other = refl
absent_member ks k (member l d ms) known other =
    by_key (λ h. absent_member ks k ms h other) (is_among ks l) refl known (slice_cmp nat_cmp k l) refl
  where
    by_key : (has_only ks ms ≡ true → get_member k ms ≡ None) → (b : Bool) → is_among ks l ≡ b → cond b (has_only ks ms) false ≡ true → (o : Ordering) → slice_cmp nat_cmp k l ≡ o → match_ordering o (get_member k ms) (Some d) (get_member k ms) ≡ None
    by_key rest false is known o order = absurd cc
    by_key rest true is known Less order = rest known
    by_key rest true is known Greater order = rest known
    by_key rest true is known Equal order =
        let same : k ≡ l = (bytes_eq-Decides k l).0 (sym (is_eq-slice_cmp k l) ∙ ap is_eq order) in
        let both : false ≡ true = sym other ∙ ap (is_among ks) same ∙ is in absurd cc

-- a field that the object may not have isn't there
pub absent_field : (ks : List (List ℕ)) (k : List ℕ) (d : Data) → is_object_of ks d ≡ true → is_among ks k ≡ false → get k d ≡ None
absent_field ks k (members_of ms) known other = absent_member ks k ms known other
absent_field ks k null known other = refl
absent_field ks k (boolean b) known other = refl
absent_field ks k (number n) known other = refl
absent_field ks k (string s) known other = refl
absent_field ks k (array ds) known other = refl
