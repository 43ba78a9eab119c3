-- What words give, by the items that the machine finds in them.
use Rattle.std.proofs.Common.{◌≡◌, ◌∙◌, ◌&&◌, ◌||◌, inl, inr, ℕ, Bool, cond, true, false, true≢false, not, refl, sym, ap, ap₂, subst, List, [], ◌∷◌, ◌++◌, map, Option, Some, None, append-nil, append_assoc}
use Rattle.std.specs.List.{fold}
use Rattle.std.proofs.Math.Bool.{or-true}
use Rattle.clap.specs.Walk.{Text}
use Rattle.pt_words.specs.declared.parts.Parts.{Parts}
use Rattle.pt_words.specs.Matches.{IsReadBy, AreParts}
use Rattle.pt_words.specs.Number.{IsBudget}
use Rattle.pt_words.specs.Parts.{IsStages, IsWorkers, GivesStages, GivesWorkers, GivesBudget, IsOneWord, AreTwoWords, Give, nothing}
use Rattle.pt_words.proofs.Arguments.{Key, Workers, Budget, Stages, Item, same, same-refl, row_for, offers, has_key, has_key-more, text_of, first_of-items}
use Rattle.pt_words.proofs.Forms.{Form, Attached, Alone, Plain, Unknown, form_of, Said, said, number_plain}
use Rattle.pt_words.proofs.PartLaws.{full}
use Rattle.pt_words.proofs.Walks.{State, Idle, Wants, Failed, added, placed, from_idle, from_wanting, step, stays_failed}

-- ---- one item

abbrev pub part_of : Key → Parts → Option ℕ
part_of Workers parts = parts.workers
part_of Budget parts = parts.budget
part_of Stages parts = parts.stages

-- the text of an argument writes the number
abbrev Writes : Key → Text → ℕ → Type 0
Writes Workers = IsWorkers
Writes Budget = IsBudget
Writes Stages = IsStages

-- the parts with what an item gives
abbrev Gives : Key → Text → (rest whole : Parts) → Type 0
Gives Workers = GivesWorkers
Gives Budget = GivesBudget
Gives Stages = GivesStages

gives_part : (k : Key) (text : Text) (rest whole : Parts) → Gives k text rest whole → (n : ℕ) × Writes k text n × (part_of k whole ≡ Some n)
gives_part Workers text rest whole g = (g.n, g.is, ap (λ (p : Parts). p.workers) g.becomes)
gives_part Budget text rest whole g = (g.n, g.is, ap (λ (p : Parts). p.budget) g.becomes)
gives_part Stages text rest whole g = (g.n, g.is, ap (λ (p : Parts). p.stages) g.becomes)

-- another part stays
gives_other : (j k : Key) (text : Text) (rest whole : Parts) → same k j ≡ false → Gives k text rest whole → part_of j whole ≡ part_of j rest
gives_other Workers Workers text rest whole e g = absurd (true≢false e)
gives_other Workers Budget text rest whole e g = ap (λ (p : Parts). p.workers) g.becomes
gives_other Workers Stages text rest whole e g = ap (λ (p : Parts). p.workers) g.becomes
gives_other Budget Workers text rest whole e g = ap (λ (p : Parts). p.budget) g.becomes
gives_other Budget Budget text rest whole e g = absurd (true≢false e)
gives_other Budget Stages text rest whole e g = ap (λ (p : Parts). p.budget) g.becomes
gives_other Stages Workers text rest whole e g = ap (λ (p : Parts). p.stages) g.becomes
gives_other Stages Budget text rest whole e g = ap (λ (p : Parts). p.stages) g.becomes
gives_other Stages Stages text rest whole e g = absurd (true≢false e)

gives_once : (k : Key) (text : Text) (rest whole : Parts) → Gives k text rest whole → part_of k rest ≡ None
gives_once Workers text rest whole g = g.once
gives_once Budget text rest whole g = g.once
gives_once Stages text rest whole g = g.once

same-is : (k j : Key) → same k j ≡ true → k ≡ j
same-is Workers Workers e = refl
same-is Workers Budget e = absurd (true≢false (sym e))
same-is Workers Stages e = absurd (true≢false (sym e))
same-is Budget Workers e = absurd (true≢false (sym e))
same-is Budget Budget e = refl
same-is Budget Stages e = absurd (true≢false (sym e))
same-is Stages Workers e = absurd (true≢false (sym e))
same-is Stages Budget e = absurd (true≢false (sym e))
same-is Stages Stages e = refl

-- what the rest has is another part
rest_other : (j k : Key) (n : ℕ) (text : Text) (rest whole : Parts) → Gives k text rest whole → part_of j rest ≡ Some n → same k j ≡ false
rest_other j k n text rest whole g e = go (same k j) refl
  where
    go : (b : Bool) → same k j ≡ b → same k j ≡ false
    go false t = t
    go true t = absurd (full (part_of j rest) n e (subst (λ (i : Key). part_of i rest ≡ None) (same-is k j t) (gives_once k text rest whole g)))

-- ---- many items

-- the items give the parts, each at most once
abbrev Make : List Item → Parts → Type 0
Make [] parts = parts ≡ nothing
Make (item ∷ items) parts = (rest : Parts) × Make items rest × Gives item.0 item.1 rest parts

-- the texts of the items write the parts
record Write (items : List Item) (parts : Parts) : Type 0 where
  stages : IsReadBy IsStages (text_of Stages items) parts.stages
  workers : IsReadBy IsWorkers (text_of Workers items) parts.workers
  budget : IsReadBy IsBudget (text_of Budget items) parts.budget

write_rows : (items : List Item) (parts : Parts) → Write items parts → AreParts (map row_for items) parts
write_rows items parts w =
    record {
      stages = subst (λ (o : Option Text). IsReadBy IsStages o parts.stages) (sym (first_of-items Stages items)) w.stages;
      workers = subst (λ (o : Option Text). IsReadBy IsWorkers o parts.workers) (sym (first_of-items Workers items)) w.workers;
      budget = subst (λ (o : Option Text). IsReadBy IsBudget o parts.budget) (sym (first_of-items Budget items)) w.budget;
    }

rows_write : (items : List Item) (parts : Parts) → AreParts (map row_for items) parts → Write items parts
rows_write items parts a =
    record {
      stages = subst (λ (o : Option Text). IsReadBy IsStages o parts.stages) (first_of-items Stages items) a.stages;
      workers = subst (λ (o : Option Text). IsReadBy IsWorkers o parts.workers) (first_of-items Workers items) a.workers;
      budget = subst (λ (o : Option Text). IsReadBy IsBudget o parts.budget) (first_of-items Budget items) a.budget;
    }

make_writes : (items : List Item) (parts : Parts) → Make items parts → Write items parts
make_writes [] parts e = subst (λ (p : Parts). Write [] p) (sym e) (record { stages = tt; workers = tt; budget = tt })
make_writes (item ∷ items) parts (rest, made, g) = by_key item.0 item.1 g (make_writes items rest made)
  where
    by_key : (k : Key) (text : Text) → Gives k text rest parts → Write items rest → Write ((k, text) ∷ items) parts
    by_key Workers text g w = subst (λ (p : Parts). Write ((Workers, text) ∷ items) p) (sym g.becomes) (record { stages = w.stages; workers = g.is; budget = w.budget })
    by_key Budget text g w = subst (λ (p : Parts). Write ((Budget, text) ∷ items) p) (sym g.becomes) (record { stages = w.stages; workers = w.workers; budget = g.is })
    by_key Stages text g w = subst (λ (p : Parts). Write ((Stages, text) ∷ items) p) (sym g.becomes) (record { stages = g.is; workers = w.workers; budget = w.budget })

-- the items have each argument once, and none that those before have
abbrev AreFresh : (before items : List Item) → Type 0
AreFresh before [] = Unit {0}
AreFresh before (item ∷ items) = (has_key item.0 before ≡ false) × AreFresh (before ++ item ∷ []) items

no_text : (k : Key) (before items : List Item) → has_key k before ≡ true → AreFresh before items → text_of k items ≡ None
no_text k before [] has fresh = refl
no_text k before (item ∷ items) has (none, fresh) =
    by_same (same item.0 k) refl (no_text k (before ++ item ∷ []) items (has_key-more k before item ∙ ap (λ (b : Bool). b || same item.0 k) has) fresh)
  where
    by_same : (b : Bool) → same item.0 k ≡ b → text_of k items ≡ None → cond b (Some item.1) (text_of k items) ≡ None
    by_same false e behind = behind
    by_same true e behind = absurd (true≢false (sym has ∙ ap (λ (j : Key). has_key j before) (sym (same-is item.0 k e)) ∙ none))

-- a text that is there writes a number
read_some : (W : Text → ℕ → Type 0) (text : Text) (o : Option ℕ) → IsReadBy W (Some text) o → (n : ℕ) × (o ≡ Some n) × W text n
read_some W text (Some n) h = (n, refl, h)
read_some W text None h = absurd h

read_none : (W : Text → ℕ → Type 0) (o : Option ℕ) → IsReadBy W None o → o ≡ None
read_none W None h = refl
read_none W (Some n) h = absurd h

writes_make : (before items : List Item) (parts : Parts) → AreFresh before items → Write items parts → Make items parts
writes_make before [] parts fresh w =
    (λ i. record { stages = read_none IsStages parts.stages w.stages i; workers = read_none IsWorkers parts.workers w.workers i; budget = read_none IsBudget parts.budget w.budget i })
writes_make before (item ∷ items) parts (none, fresh) w =
    by_key item.0 item.1 (no_text item.0 (before ++ item ∷ []) items (has_key-more item.0 before item ∙ ap (λ (b : Bool). has_key item.0 before || b) (same-refl item.0) ∙ or-true (has_key item.0 before)) fresh) w (λ rest less. writes_make (before ++ item ∷ []) items rest fresh less)
  where
    by_key : (k : Key) (text : Text) → text_of k items ≡ None → Write ((k, text) ∷ items) parts → ((rest : Parts) → Write items rest → Make items rest) → Make ((k, text) ∷ items) parts
    by_key Workers text gone w behind =
        let (n, is, h) = read_some IsWorkers text parts.workers w.workers in
        let rest : Parts = record { stages = parts.stages; workers = None; budget = parts.budget } in
        let less : Write items rest = record { stages = w.stages; workers = subst (λ (o : Option Text). IsReadBy IsWorkers o None) (sym gone) tt; budget = w.budget } in
        (rest, behind rest less, record { n = n; is = h; once = refl; becomes = ap (λ (o : Option ℕ). record { stages = parts.stages; workers = o; budget = parts.budget }) is })
    by_key Budget text gone w behind =
        let (n, is, h) = read_some IsBudget text parts.budget w.budget in
        let rest : Parts = record { stages = parts.stages; workers = parts.workers; budget = None } in
        let less : Write items rest = record { stages = w.stages; workers = w.workers; budget = subst (λ (o : Option Text). IsReadBy IsBudget o None) (sym gone) tt } in
        (rest, behind rest less, record { n = n; is = h; once = refl; becomes = ap (λ (o : Option ℕ). record { stages = parts.stages; workers = parts.workers; budget = o }) is })
    by_key Stages text gone w behind =
        let (n, is, h) = read_some IsStages text parts.stages w.stages in
        let rest : Parts = record { stages = None; workers = parts.workers; budget = parts.budget } in
        let less : Write items rest = record { stages = subst (λ (o : Option Text). IsReadBy IsStages o None) (sym gone) tt; workers = w.workers; budget = w.budget } in
        (rest, behind rest less, record { n = n; is = h; once = refl; becomes = ap (λ (o : Option ℕ). record { stages = o; workers = parts.workers; budget = parts.budget }) is })

-- ---- words that give parts are taken

-- the command has what the parts give, and the items don't have it yet
abbrev HasRoom : (options stages : Bool) → List Item → Parts → Type 0
HasRoom options stages items parts = (k : Key) (n : ℕ) → part_of k parts ≡ Some n → (offers options stages k ≡ true) × (has_key k items ≡ false)

-- the machine is done with the words, and found these items more
record Finds (options stages : Bool) (items : List Item) (words : List Text) (parts : Parts) : Type 0 where
  more : List Item
  ends : fold (step options stages) (Idle items) words ≡ Idle (items ++ more)
  made : Make more parts

module _ (options stages : Bool) where
  room_left : (k : Key) (text : Text) (items : List Item) (rest whole : Parts) → Gives k text rest whole → HasRoom options stages items whole → HasRoom options stages (items ++ (k, text) ∷ []) rest
  room_left k text items rest whole g room j n e =
      let other = rest_other j k n text rest whole g e in
      let had = room j n (gives_other j k text rest whole other g ∙ e) in
      (had.0, has_key-more j items (k, text) ∙ ap₂ (λ (a b : Bool). a || b) had.1 other)

  room_for : (k : Key) (text : Text) (items : List Item) (rest whole : Parts) → Gives k text rest whole → HasRoom options stages items whole → (offers options stages k ≡ true) × (has_key k items ≡ false)
  room_for k text items rest whole g room = let (n, is, e) = gives_part k text rest whole g in room k n e

  adds : (k : Key) (text : Text) (items : List Item) → has_key k items ≡ false → added k text items ≡ Idle (items ++ (k, text) ∷ [])
  adds k text items none = ap (λ (b : Bool). cond b Failed (Idle (items ++ (k, text) ∷ []))) none

  -- the words behind find the rest
  then_finds : (k : Key) (text : Text) (items : List Item) (state : State) (words : List Text) (rest whole : Parts) → state ≡ Idle (items ++ (k, text) ∷ []) → Gives k text rest whole → Finds options stages (items ++ (k, text) ∷ []) words rest
      → (more : List Item) × (fold (step options stages) state words ≡ Idle (items ++ more)) × Make more whole
  then_finds k text items state words rest whole is g f =
      ((k, text) ∷ f.more, ap (λ (s : State). fold (step options stages) s words) is ∙ f.ends ∙ ap Idle (append_assoc items ((k, text) ∷ []) f.more), (rest, f.made, g))

  -- one word of a part
  record Adds (items : List Item) (state : State) (rest whole : Parts) : Type 0 where
    k : Key
    text : Text
    is : state ≡ Idle (items ++ (k, text) ∷ [])
    gives : Gives k text rest whole

  one_adds : (word : Text) (items : List Item) (rest whole : Parts) → IsOneWord word rest whole → HasRoom options stages items whole → Adds items (step options stages (Idle items) word) rest whole
  one_adds word items rest whole (inl g) room =
      let (offered, none) = room_for Stages word items rest whole g room in
      let may : (stages && not (has_key Stages items)) ≡ true = ap₂ (λ (a b : Bool). a && not b) offered none in
      record { k = Stages; text = word; is = ap (from_idle stages word items) (number_plain options word g.n g.is.number) ∙ ap (λ (b : Bool). cond b (Idle (items ++ (Stages, word) ∷ [])) Failed) may; gives = g }
  one_adds word items rest whole (inr (inl (text, e, g))) room =
      let (offered, none) = room_for Workers text items rest whole g room in
      record { k = Workers; text = text; is = ap₂ (λ (o : Bool) (w : Text). from_idle stages word items (form_of o w)) offered e ∙ adds Workers text items none; gives = g }
  one_adds word items rest whole (inr (inr (text, e, g))) room =
      let (offered, none) = room_for Budget text items rest whole g room in
      record { k = Budget; text = text; is = ap₂ (λ (o : Bool) (w : Text). from_idle stages word items (form_of o w)) offered e ∙ adds Budget text items none; gives = g }

  two_adds : (word value : Text) (items : List Item) (rest whole : Parts) → AreTwoWords word value rest whole → HasRoom options stages items whole → Adds items (step options stages (step options stages (Idle items) word) value) rest whole
  two_adds word value items rest whole (inl (e, g)) room =
      let (offered, none) = room_for Workers value items rest whole g room in
      record {
        k = Workers;
        text = value;
        is = ap₂ (λ (o : Bool) (w : Text). step options stages (from_idle stages word items (form_of o w)) value) offered e ∙ ap (from_wanting value Workers items) (number_plain options value g.n g.is.number) ∙ adds Workers value items none;
        gives = g;
      }
  two_adds word value items rest whole (inr (e, g)) room =
      let (offered, none) = room_for Budget value items rest whole g room in
      record {
        k = Budget;
        text = value;
        is = ap₂ (λ (o : Bool) (w : Text). step options stages (from_idle stages word items (form_of o w)) value) offered e ∙ ap (from_wanting value Budget items) (number_plain options value g.n g.is.number) ∙ adds Budget value items none;
        gives = g;
      }

  finds : (words : List Text) (items : List Item) (parts : Parts) → Give words parts → HasRoom options stages items parts → Finds options stages items words parts
  finds [] items parts given room = record { more = []; ends = ap Idle (sym (append-nil items)); made = given }
  finds (word ∷ []) items parts given room =
      let a = one_adds word items nothing parts given room in
      record { more = (a.k, a.text) ∷ []; ends = a.is; made = (nothing, refl, a.gives) }
  finds (word ∷ next ∷ words) items parts (inl (rest, given, one)) room =
      let a = one_adds word items rest parts one room in
      let f = finds (next ∷ words) (items ++ (a.k, a.text) ∷ []) rest given (room_left a.k a.text items rest parts a.gives room) in
      let (more, ends, made) = then_finds a.k a.text items (step options stages (Idle items) word) (next ∷ words) rest parts a.is a.gives f in
      record { more = more; ends = ends; made = made }
  finds (word ∷ next ∷ words) items parts (inr (rest, given, two)) room =
      let a = two_adds word next items rest parts two room in
      let f = finds words (items ++ (a.k, a.text) ∷ []) rest given (room_left a.k a.text items rest parts a.gives room) in
      let (more, ends, made) = then_finds a.k a.text items (step options stages (step options stages (Idle items) word) next) words rest parts a.is a.gives f in
      record { more = more; ends = ends; made = made }

-- words that give parts end the machine with rows that are these parts
pub taken : (options stages : Bool) (words : List Text) (parts : Parts) → Give words parts → ((k : Key) (n : ℕ) → part_of k parts ≡ Some n → offers options stages k ≡ true)
    → (items : List Item) × (fold (step options stages) (Idle []) words ≡ Idle items) × AreParts (map row_for items) parts
taken options stages words parts given offered =
    let f = finds options stages words [] parts given (λ k n e. (offered k n e, refl)) in
    (f.more, f.ends, write_rows f.more parts (make_writes f.more parts f.made))

-- ---- words that are taken give parts

-- the items that the machine found more are those that the words give
record Shows (items : List Item) (words : List Text) (last : List Item) : Type 0 where
  more : List Item
  is : last ≡ items ++ more
  fresh : AreFresh items more
  gives : (parts : Parts) → Make more parts → Give words parts

one_gives : (word : Text) (words : List Text) (rest whole : Parts) → Give words rest → IsOneWord word rest whole → Give (word ∷ words) whole
one_gives word [] rest whole given one = subst (λ (p : Parts). IsOneWord word p whole) given one
one_gives word (next ∷ words) rest whole given one = inl (rest, given, one)

module _ (options stages : Bool) where
  not_failed : (words : List Text) (last : List Item) (state : State) → state ≡ Failed → fold (step options stages) state words ≡ Idle last → ⊥
  not_failed words last state failed e = let bad : Failed ≡ Idle last = sym (ap (λ (s : State). fold (step options stages) s words) failed ∙ stays_failed options stages words) ∙ e in cc

  -- an item more, by words whose rest shows the others
  shows_more : (k : Key) (text : Text) (items : List Item) (words behind : List Text) (last : List Item) → has_key k items ≡ false → ((rest whole : Parts) → Gives k text rest whole → Give behind rest → Give words whole)
      → Shows (items ++ (k, text) ∷ []) behind last → Shows items words last
  shows_more k text items words behind last none gives s =
      record {
        more = (k, text) ∷ s.more;
        is = s.is ∙ append_assoc items ((k, text) ∷ []) s.more;
        fresh = (none, s.fresh);
        gives = λ parts (rest, made, g). gives rest parts g (s.gives rest made);
      }

  -- an option with its value, where the machine didn't fail
  shows_added : (k : Key) (text : Text) (items : List Item) (words behind : List Text) (last : List Item) (state : State) → state ≡ added k text items → ((rest whole : Parts) → Gives k text rest whole → Give behind rest → Give words whole)
      → ((items : List Item) → fold (step options stages) (Idle items) behind ≡ Idle last → Shows items behind last) → fold (step options stages) state behind ≡ Idle last → Shows items words last
  shows_added k text items words behind last state is gives go e = by_key (has_key k items) refl
    where
      by_key : (b : Bool) → has_key k items ≡ b → Shows items words last
      by_key true has = absurd (not_failed behind last state (is ∙ ap (λ (b : Bool). cond b Failed (Idle (items ++ (k, text) ∷ []))) has) e)
      by_key false has =
          shows_more k text items words behind last has gives
          (go (items ++ (k, text) ∷ []) (sym (ap (λ (s : State). fold (step options stages) s behind) (is ∙ ap (λ (b : Bool). cond b Failed (Idle (items ++ (k, text) ∷ []))) has)) ∙ e))

  -- the option of an attached value gives a part
  attached_gives : (k : Key) (word text : Text) (words : List Text) → Said word (Attached k text) → (rest whole : Parts) → Gives k text rest whole → Give words rest → Give (word ∷ words) whole
  attached_gives Workers word text words said rest whole g given = one_gives word words rest whole given (inr (inl (text, said, g)))
  attached_gives Budget word text words said rest whole g given = one_gives word words rest whole given (inr (inr (text, said, g)))
  attached_gives Stages word text words said rest whole g given = absurd said

  alone_gives : (k : Key) (word value : Text) (words : List Text) → Said word (Alone k) → (rest whole : Parts) → Gives k value rest whole → Give words rest → Give (word ∷ value ∷ words) whole
  alone_gives Workers word value words said rest whole g given = inr (rest, given, inl (said, g))
  alone_gives Budget word value words said rest whole g given = inr (rest, given, inr (said, g))
  alone_gives Stages word value words said rest whole g given = absurd said

  -- the machine from a word on, by the form of the word and by what it does from the words behind
  by_form : (form : Form) (word : Text) (items : List Item) (words : List Text) (last : List Item) → form_of options word ≡ form → ((items : List Item) → fold (step options stages) (Idle items) words ≡ Idle last → Shows items words last)
      → ((k : Key) → form_of options word ≡ Alone k → fold (step options stages) (Wants k items) words ≡ Idle last → Shows items (word ∷ words) last)
      → fold (step options stages) (from_idle stages word items form) words ≡ Idle last → Shows items (word ∷ words) last
  by_form (Attached k text) word items words last is go wants e =
      shows_added k text items (word ∷ words) words last (added k text items) refl (attached_gives k word text words (subst (Said word) is (said options word))) go e
  by_form (Alone k) word items words last is go wants e = wants k is e
  by_form Unknown word items words last is go wants e = absurd (not_failed words last Failed refl e)
  by_form Plain word items words last is go wants e = by_place (has_key Stages items) refl stages refl
    where
      by_place : (b : Bool) → has_key Stages items ≡ b → (s : Bool) → stages ≡ s → Shows items (word ∷ words) last
      by_place true has s t = absurd (not_failed words last (placed stages word items) (ap₂ (λ (x y : Bool). cond (x && not y) (Idle (items ++ (Stages, word) ∷ [])) Failed) t has ∙ shut s) e)
        where
          shut : (s : Bool) → cond (s && false) (Idle (items ++ (Stages, word) ∷ [])) Failed ≡ Failed
          shut true = refl
          shut false = refl
      by_place false has false t = absurd (not_failed words last (placed stages word items) (ap₂ (λ (x y : Bool). cond (x && not y) (Idle (items ++ (Stages, word) ∷ [])) Failed) t has) e)
      by_place false has true t =
          shows_more Stages word items (word ∷ words) words last has (λ rest whole g given. one_gives word words rest whole given (inl g))
          (go (items ++ (Stages, word) ∷ []) (sym (ap₂ (λ (x y : Bool). fold (step options stages) (cond (x && not y) (Idle (items ++ (Stages, word) ∷ [])) Failed) words) t has) ∙ e))

  -- the value of an option, by its form
  by_value : (form : Form) (k : Key) (word value : Text) (items : List Item) (words : List Text) (last : List Item) → form_of options word ≡ Alone k → form_of options value ≡ form
      → ((items : List Item) → fold (step options stages) (Idle items) words ≡ Idle last → Shows items words last)
      → fold (step options stages) (from_wanting value k items form) words ≡ Idle last → Shows items (word ∷ value ∷ words) last
  by_value Plain k word value items words last is plain go e =
      shows_added k value items (word ∷ value ∷ words) words last (added k value items) refl (alone_gives k word value words (subst (Said word) is (said options word))) go e
  by_value (Attached j text) k word value items words last is plain go e = absurd (not_failed words last Failed refl e)
  by_value (Alone j) k word value items words last is plain go e = absurd (not_failed words last Failed refl e)
  by_value Unknown k word value items words last is plain go e = absurd (not_failed words last Failed refl e)

  shows : (words : List Text) (items last : List Item) → fold (step options stages) (Idle items) words ≡ Idle last → Shows items words last
  shows [] items last e = let same_items : items ≡ last = cc in record { more = []; is = sym same_items ∙ sym (append-nil items); fresh = tt; gives = λ parts made. made }
  shows (word ∷ []) items last e =
      by_form (form_of options word) word items [] last refl (λ items e. shows [] items last e) (λ k is wants. let bad : Wants k items ≡ Idle last = wants in absurd (cc)) e
  shows (word ∷ next ∷ words) items last e =
      by_form (form_of options word) word items (next ∷ words) last refl (λ items e. shows (next ∷ words) items last e)
      (λ k is wants. by_value (form_of options next) k word next items words last is refl (λ items e. shows words items last e) wants) e

-- rows that the machine ends with, and that are these parts, come of words that give them
pub told : (options stages : Bool) (words : List Text) (items : List Item) (parts : Parts) → fold (step options stages) (Idle []) words ≡ Idle items → AreParts (map row_for items) parts → Give words parts
told options stages words items parts e rows =
    let s = shows options stages words [] items e in
    s.gives parts (writes_make [] s.more parts s.fresh (subst (λ (xs : List Item). Write xs parts) s.is (rows_write items parts rows)))
