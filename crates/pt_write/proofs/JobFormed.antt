-- A job that was read has the form of what a document says.
use Rattle.std.proofs.Common.{◌≡◌, ℕ, ◌^◌, ◌<◌, ◌≤◌, List, [], ◌∷◌, Option, Some, None, Bool, true, false, cond, Result, refl, sym, ap, ◌∙◌, subst, arith, codes}
use Rattle.std.specs.Prelude.{is_some}
use Rattle.std.specs.List.{AllByRecursion}
use Rattle.serde_json.specs.Data as read_as
use Rattle.serde_json.specs.Data.{Data, Items}
use Rattle.serde_json.specs.Find.{get}
use Rattle.serde_json.proofs.Nesting.{depth-read}
use Rattle.pt_document.specs.declared.refusal.Refusal.{Refusal}
use Rattle.pt_document.specs.declared.code.Code.TheVariants.{Shape, Limit}
use Rattle.pt_document.specs.declared.job.Event.{Event}
use Rattle.pt_document.specs.Document.{EntityTree, entity_name, tokens, events, InputTree, JobTree}
use Rattle.pt_document.specs.Names.{is_name, top_path}
use Rattle.pt_document.specs.Outcome.{◌>>=◌, refused}
use Rattle.pt_document.proofs.Chains.{good, bind_ok, never_ok, test_ok}
use Rattle.pt_moml.specs.Fields.{text_at, required_text, name_at, required_whole, listed, required_list, optional_list}
use Rattle.pt_moml.specs.Limits.{nest_field, is_within}
use Rattle.pt_moml.specs.Reading.{entity_from, entities_field, token_at, event_at, tokens_input, events_input, input_at, version_at, limits_at, model_at, job_fields, job_of, IsJobOf}
use Rattle.pt_write.specs.Written.{Value, given, text, object, depth, items_depth, slot_depth, fields_depth}
use Rattle.pt_write.specs.Written as own
use Rattle.pt_write.specs.Document as written
use Rattle.pt_write.specs.Document.{values, token_value, event_value, input_value, entity_value, document}
use Rattle.pt_write.specs.Form.{IsEntity, IsEvent, IsSupply, IsSayable, nest_of}
use Rattle.pt_write.proofs.Back.{AreRead}
use Rattle.pt_write.proofs.PartsBack.{Any}
use Rattle.pt_write.proofs.Standing.{is_listed, SlotOf, stands, all_shallow, no_deeper, within_depth, text_stands, name_stands, whole_stands, optional_list_depth, all_read, optional_list_stands, list_stands}
use Rattle.pt_write.proofs.PartsFormed.{Formed}
use Rattle.pt_write.proofs.EntitiesFormed.{entity_formed}
use Rattle.pt_write.proofs.Sound.{IsSound, AreSound, sound_read, get_sound}

-- ---- events

whole_sound : (path : List ℕ) (o : Option Data) (n : ℕ) → ((d : Data) → o ≡ Some d → IsSound d) → required_whole path o ≡ good n → n < 2 ^ 64
whole_sound path None n sound e = absurd (never_ok Shape path n e)
whole_sound path (Some (read_as.number (read_as.unsigned m))) n sound e =
    let small : m < 2 ^ 64 = sound (read_as.number (read_as.unsigned m)) refl in
    let same : m ≡ n = cc in
    subst (λ (k : ℕ). k < 2 ^ 64) same small
whole_sound path (Some (read_as.number (read_as.negative z))) n sound e = absurd (never_ok Shape path n e)
whole_sound path (Some (read_as.number (read_as.float x))) n sound e = absurd (never_ok Shape path n e)
whole_sound path (Some read_as.null) n sound e = absurd (never_ok Shape path n e)
whole_sound path (Some (read_as.boolean b)) n sound e = absurd (never_ok Shape path n e)
whole_sound path (Some (read_as.string s)) n sound e = absurd (never_ok Shape path n e)
whole_sound path (Some (read_as.array ds)) n sound e = absurd (never_ok Shape path n e)
whole_sound path (Some (read_as.object ms)) n sound e = absurd (never_ok Shape path n e)

event_formed : (path : List ℕ) (d : Data) (x : Event) → IsSound d → event_at path d ≡ good x → Formed IsEvent event_value d x
unfolding event_at
event_formed path d x sound e =
    let ks = codes "time" ∷ codes "step" ∷ codes "value" ∷ [] in
    let a = bind_ok (listed path ks d) _ x e in
    let time = bind_ok (required_whole path (get (codes "time") d)) _ x a.2 in
    let step = bind_ok (required_whole path (get (codes "step") d)) _ x time.2 in
    let value = bind_ok (required_text path (get (codes "value") d)) _ x step.2 in
    let o = is_listed path ks d a.0 a.1 in
    let made : Event = record { time = time.0; step = step.0; value = value.0 } in
    let same : made ≡ x = cc in
    let shallow = all_shallow d (written.event_fields made) o.1 (
      stands d (codes "time") (given (own.whole time.0)) o.1 (whole_stands path (get (codes "time") d) time.0 time.1),
      (
        stands d (codes "step") (given (own.whole step.0)) o.1 (whole_stands path (get (codes "step") d) step.0 step.1),
        (stands d (codes "value") (written.text_slot value.0) o.1 (text_stands path (get (codes "value") d) value.0 value.1), tt),
      ),
    ) in
    let small = whole_sound path (get (codes "time") d) time.0 (λ y is. get_sound (codes "time") d y sound is) time.1 in
    let few = whole_sound path (get (codes "step") d) step.0 (λ y is. get_sound (codes "step") d y sound is) step.1 in
    subst (Formed IsEvent event_value d) same ((small, few), no_deeper _ _ shallow)

-- ---- lists of what is sound

items_sound : {A : Type 0} (read : Data → Result A Refusal) (value : A → Value) (form : A → Type 0) → ((d : Data) (a : A) → IsSound d → read d ≡ good a → form a × (depth (value a) ≤ read_as.depth d)) → (ds : Items) (xs : List A) → AreSound ds → AreRead read ds xs
    → AllByRecursion form xs × (items_depth (values value xs) ≤ read_as.items_depth ds)
items_sound read value form one read_as.no_items [] sound h = (tt, omega arith)
items_sound read value form one read_as.no_items (x ∷ xs) sound h = absurd h
items_sound read value form one (read_as.item d ds) [] sound h = absurd h
items_sound read value form one (read_as.item d ds) (x ∷ xs) sound h =
    let a = one d x sound.0 h.0 in
    let b = items_sound read value form one ds xs sound.1 h.1 in
    ((a.0, b.0), omega (arith, a.1, b.1))

module _ {A : Type 0} (read : List ℕ → Data → Result A Refusal) (value : A → Value) (form : A → Type 0) (path : List ℕ) (one : (d : Data) (a : A) → IsSound d → read path d ≡ good a → form a × (depth (value a) ≤ read_as.depth d)) where
  optional_list_sound : (o : Option Data) (xs : List A) → ((d : Data) → o ≡ Some d → IsSound d) → optional_list read path o ≡ good xs → AllByRecursion form xs × SlotOf o (written.optional_list (values value xs))
  unfolding optional_list
  optional_list_sound None [] sound e = (tt, refl)
  optional_list_sound None (x ∷ xs) sound e = absurd cc
  optional_list_sound (Some (read_as.array ds)) xs sound e =
      let r = items_sound (read path) value form one ds xs (sound (read_as.array ds) refl) (all_read (read path) ds xs e) in
      (r.0, omega (arith, r.1, optional_list_depth (values value xs)))
  optional_list_sound (Some read_as.null) xs sound e = absurd (never_ok Shape path xs e)
  optional_list_sound (Some (read_as.boolean b)) xs sound e = absurd (never_ok Shape path xs e)
  optional_list_sound (Some (read_as.number n)) xs sound e = absurd (never_ok Shape path xs e)
  optional_list_sound (Some (read_as.string s)) xs sound e = absurd (never_ok Shape path xs e)
  optional_list_sound (Some (read_as.object ms)) xs sound e = absurd (never_ok Shape path xs e)

  list_sound : (o : Option Data) (xs : List A) → ((d : Data) → o ≡ Some d → IsSound d) → required_list read path o ≡ good xs → AllByRecursion form xs × SlotOf o (written.list_slot (values value xs))
  unfolding required_list
  list_sound None xs sound e = absurd (never_ok Shape path xs e)
  list_sound (Some (read_as.array ds)) xs sound e =
      let r = items_sound (read path) value form one ds xs (sound (read_as.array ds) refl) (all_read (read path) ds xs e) in
      (r.0, omega (arith, r.1))
  list_sound (Some read_as.null) xs sound e = absurd (never_ok Shape path xs e)
  list_sound (Some (read_as.boolean b)) xs sound e = absurd (never_ok Shape path xs e)
  list_sound (Some (read_as.number n)) xs sound e = absurd (never_ok Shape path xs e)
  list_sound (Some (read_as.string s)) xs sound e = absurd (never_ok Shape path xs e)
  list_sound (Some (read_as.object ms)) xs sound e = absurd (never_ok Shape path xs e)

-- ---- inputs

module _ (path : List ℕ) where
  token_formed : (d : Data) (t : Option (List ℕ)) → token_at path d ≡ good t → Formed Any token_value d t
  token_formed d None e = (tt, omega arith)
  token_formed d (Some s) e = (tt, omega arith)

  text_formed : (d : Data) (s : List ℕ) → text_at path d ≡ good s → Formed Any text d s
  text_formed d s e = (tt, omega arith)

  abbrev IsInput : InputTree → Type 0
  IsInput i = IsSupply i.supply

  tokens_formed : (d : Data) (x : InputTree) → tokens_input path d ≡ good x → Formed IsInput input_value d x
  unfolding tokens_input
  tokens_formed d x e =
      let ks = codes "port" ∷ codes "tokens" ∷ [] in
      let a = bind_ok (listed path ks d) _ x e in
      let port = bind_ok (required_text path (get (codes "port") d)) _ x a.2 in
      let supply = bind_ok (required_list token_at path (get (codes "tokens") d)) _ x port.2 in
      let o = is_listed path ks d a.0 a.1 in
      let made : InputTree = record { port = port.0; supply = tokens supply.0 } in
      let same : made ≡ x = cc in
      let l = list_stands token_at token_value Any path token_formed (get (codes "tokens") d) supply.0 supply.1 in
      let shallow = all_shallow d (written.input_fields made) o.1
      (stands d (codes "port") (written.text_slot port.0) o.1 (text_stands path (get (codes "port") d) port.0 port.1), (stands d (codes "tokens") (written.list_slot (values token_value supply.0)) o.1 l.1, tt)) in
      subst (Formed IsInput input_value d) same (tt, no_deeper _ _ shallow)

  events_formed : (d : Data) (x : InputTree) → IsSound d → events_input path d ≡ good x → Formed IsInput input_value d x
  unfolding events_input
  events_formed d x sound e =
      let ks = codes "port" ∷ codes "events" ∷ [] in
      let a = bind_ok (listed path ks d) _ x e in
      let port = bind_ok (required_text path (get (codes "port") d)) _ x a.2 in
      let supply = bind_ok (required_list event_at path (get (codes "events") d)) _ x port.2 in
      let o = is_listed path ks d a.0 a.1 in
      let made : InputTree = record { port = port.0; supply = events supply.0 } in
      let same : made ≡ x = cc in
      let l = list_sound event_at event_value IsEvent path (event_formed path) (get (codes "events") d) supply.0 (λ y is. get_sound (codes "events") d y sound is) supply.1 in
      let shallow = all_shallow d (written.input_fields made) o.1
      (stands d (codes "port") (written.text_slot port.0) o.1 (text_stands path (get (codes "port") d) port.0 port.1), (stands d (codes "events") (written.list_slot (values event_value supply.0)) o.1 l.1, tt)) in
      subst (Formed IsInput input_value d) same (l.0, no_deeper _ _ shallow)

  input_formed : (d : Data) (x : InputTree) → IsSound d → input_at path d ≡ good x → Formed IsInput input_value d x
  input_formed d x sound e = chosen (is_some (get (codes "tokens") d)) e
    where
      chosen : (b : Bool) → cond b (tokens_input path d) (events_input path d) ≡ good x → Formed IsInput input_value d x
      chosen true e = tokens_formed d x e
      chosen false e = events_formed d x sound e

-- ---- the job

-- a model that was read
record ModelFormed (o : Option Data) (e : EntityTree) : Type 0 where
  name : is_name (entity_name e) ≡ true
  entity : IsEntity top_path e
  within : is_within (nest_of e) ≡ true
  slot : SlotOf o (given (entity_value e))

model_formed : (o : Option Data) (e : EntityTree) → model_at o ≡ good e → ModelFormed o e
unfolding model_at limits_at
model_formed None e h = absurd (never_ok Shape top_path e h)
model_formed (Some d) e h =
    let l = bind_ok (cond (is_within (nest_field (get (codes "entities") d))) (good tt) (refused Limit top_path)) (λ _. name_at top_path (get (codes "name") d) >>= λ name. entity_from top_path name d (entities_field top_path (get (codes "entities") d))) e h in
    let n = bind_ok (name_at top_path (get (codes "name") d)) (λ name. entity_from top_path name d (entities_field top_path (get (codes "entities") d))) e l.2 in
    let s = name_stands top_path (get (codes "name") d) n.0 n.1 in
    let f = entity_formed top_path n.0 e d s.0 n.2 in
    let t = test_ok (is_within (nest_field (get (codes "entities") d))) tt l.0 Limit top_path l.1 in
    record { name = ap is_name f.named ∙ s.1; entity = f.form; within = sym (ap is_within f.nest) ∙ t.0; slot = f.shallow }

job_formed : (d : Data) (job : JobTree) → IsSound d → read_as.depth d ≤ 127 → job_of d ≡ good job → IsSayable job
unfolding job_of
job_formed d job sound few e =
    let a = bind_ok (listed top_path job_fields d) _ job e in
    let v = bind_ok (version_at (get (codes "version") d)) _ job a.2 in
    let model = bind_ok (model_at (get (codes "model") d)) _ job v.2 in
    let inputs = bind_ok (optional_list input_at top_path (get (codes "inputs") d)) _ job model.2 in
    let records = bind_ok (optional_list text_at top_path (get (codes "record") d)) _ job inputs.2 in
    let o = is_listed top_path job_fields d a.0 a.1 in
    let made : JobTree = record { model = model.0; inputs = inputs.0; records = records.0 } in
    let same : made ≡ job = cc in
    let m = model_formed (get (codes "model") d) model.0 model.1 in
    let i = optional_list_sound input_at input_value (λ x. IsSupply x.supply) top_path (input_formed top_path) (get (codes "inputs") d) inputs.0 (λ y is. get_sound (codes "inputs") d y sound is) inputs.1 in
    let r = optional_list_stands text_at text Any top_path (text_formed top_path) (get (codes "record") d) records.0 records.1 in
    let version = version_slot (get (codes "version") d) v.1 in
    let shallow = all_shallow d (written.job_fields made) o.1 (
      stands d (codes "version") (given (own.whole 1)) o.1 version,
      (
        stands d (codes "model") (given (entity_value model.0)) o.1 m.slot,
        (
          stands d (codes "inputs") (written.optional_list (values input_value inputs.0)) o.1 i.1,
          (stands d (codes "record") (written.optional_list (values text records.0)) o.1 r.1, tt),
        ),
      ),
    ) in
    subst IsSayable same (record { name = m.name; model = m.entity; within = m.within; inputs = i.0; shallow = within_depth _ _ _ shallow few })
  where
    version_slot : (o : Option Data) {u : Unit {0}} → version_at o ≡ good u → SlotOf o (given (own.whole 1))
    version_slot None e = absurd (never_ok Shape top_path tt e)
    version_slot (Some x) e = omega arith

pub read_is_sayable : (bytes : List ℕ) (job : JobTree) → IsJobOf bytes job → IsSayable job
read_is_sayable bytes job h = job_formed h.0 job (sound_read bytes h.0 h.1.1) (depth-read bytes h.0 h.1.1) h.2
