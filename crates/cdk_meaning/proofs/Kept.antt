-- The meaning of each plain expression is kept.
use Rattle.std.proofs.Common.{◌≡◌, ℕ, List, Bool, true, false, Option, Some, None, refl, ap, ◌∙◌}
use Rattle.std.specs.Prelude.{codes, if◌then◌else◌, ◌||◌}
use Rattle.serde_json.specs.Data.{Num, Data, number, string}
use Rattle.cdk_base.specs.Json.{is_whole}
use Rattle.cdk_plain.specs.Plain.{num_of, IsWell, AreWell, FieldsAreWell, Plain, text, whole, truth, list_of, object_of, pseudo, ref, get_att, concat, join, select, split, choice, find_in_map, import_value, Plains, no_plains, plain, Fields, no_fields, field}
use Rattle.cdk_meaning.specs.Mentions.{mentions, all_mentions, field_mentions}
use Rattle.cdk_eval.specs.declared.fault.EvalFault.TheVariants.{NoExport, BadIntrinsic}
use Rattle.cdk_eval.specs.Outcomes.{Value, Fault, text_or, picked, object_outcome}
use Rattle.cdk_meaning.specs.Source.{Meaning, Means, Source}
use Rattle.cdk_meaning.specs.Meaning.{means_text, means_array, means_object, text_in, items_in, joined_items, item_at, cut_at, chosen, meaning, meanings, pieces_text, field_meanings}
use Rattle.cdk_meaning.specs.Agreement.{seen, seen_truth}
use Rattle.cdk_eval.specs.Template.{Scope, has_intrinsic_key, select_args, number_outcome, outcome, item_outcomes, member_outcomes, single_form}
use Rattle.cdk_plain.specs.Rendered.{Home, Local, Import, ImportList, Homes, list_delimiter, one, three, split_json, import_json, ref_json, attribute_json, rendered, rendered_items, rendered_fields}
use Rattle.cdk_meaning.specs.Kept.{TargetKept, AttributeKept, MentionKept, Keeps, PseudosKept, RenderingKeepsMeaning}
use Rattle.cdk_meaning.proofs.Collapse.{agrees_seen, listed, fielded, listed_first, fielded_first, seen_array, seen_object, seen_text, seen_select, seen_split, seen_choice, seen_leaf}
use Rattle.cdk_meaning.proofs.NameLists.{each_front, each_back}
use Rattle.cdk_meaning.proofs.Joins.{texts, seen_joined, seen_rendered_join}

seen_number : (n : Num) → is_whole n ≡ true → seen (number_outcome n) ≡ Means (number n)
seen_number n h = ap (λ c. seen (if c then Value (number n) else Fault BadIntrinsic)) h

text_means : (o : Option (List ℕ)) → text_in (means_text o) ≡ o
text_means None = refl
text_means (Some t) = refl

module _ (src : Source) (h : Homes) (t : Scope) (same : PseudosKept src t) where
  import_kept : (e : List ℕ) → t.is_operand ≡ false → seen (outcome t (import_json e)) ≡ means_text (t.export e)
  import_kept e f = ap (λ b. seen (if b then Fault BadIntrinsic else text_or NoExport (t.export e))) f ∙ seen_text NoExport (t.export e)

  cut_kept : (e : List ℕ) → t.is_operand ≡ false → seen (outcome t (split_json list_delimiter (import_json e))) ≡ cut_at list_delimiter (t.export e)
  cut_kept e f = seen_split list_delimiter (outcome t (import_json e)) tt ∙ ap (λ m. cut_at list_delimiter (text_in m)) (import_kept e f) ∙ ap (cut_at list_delimiter) (text_means (t.export e))

  ref_kept : (o : Home) (w : Meaning) → TargetKept t o w → seen (outcome t (ref_json o)) ≡ w
  ref_kept (Local n) w k = k
  ref_kept (Import e) w k = import_kept e k.0 ∙ k.1
  ref_kept (ImportList e) w k = cut_kept e k.0 ∙ k.1

  attribute_kept : (a : List ℕ) (o : Home) (w : Meaning) → AttributeKept t a o w → seen (outcome t (attribute_json a o)) ≡ w
  attribute_kept a (Local n) w k = ap (λ b. seen (if b then Fault BadIntrinsic else t.attribute n a)) k.0 ∙ k.1
  attribute_kept a (Import e) w k = import_kept e k.0 ∙ k.1
  attribute_kept a (ImportList e) w k = cut_kept e k.0 ∙ k.1

  choice_kept : (n : List ℕ) (c : Option Bool) (x y : Data) → (t.is_operand ≡ false) × (seen_truth (t.condition n) ≡ c) → seen (outcome t (one (codes "Fn::If") (three (string n) x y))) ≡ chosen c (seen (outcome t x)) (seen (outcome t y))
  choice_kept n c x y k =
      ap (λ b. seen (if b then Fault BadIntrinsic else picked (t.condition n) (outcome t x) (outcome t y))) k.0
      ∙ seen_choice (t.condition n) (outcome t x) (outcome t y) ∙ ap (λ o. chosen o (seen (outcome t x)) (seen (outcome t y))) k.1

  no_forms : (fs : Fields) → FieldsAreWell fs → has_intrinsic_key (rendered_fields h fs) ≡ false
  no_forms no_fields w = refl
  no_forms (field k p fs) w = ap (λ b. b || has_intrinsic_key (rendered_fields h fs)) w.0 ∙ no_forms fs w.2

  mutual
    pub kept : (e : Plain) → IsWell e → Keeps src h t (mentions e) → seen (outcome t (rendered h e)) ≡ meaning src e
    kept (text s) w k = refl
    kept (whole z) w k = seen_number (num_of z) w
    kept (truth b) w k = refl
    kept (list_of ps) w k = seen_array (item_outcomes t (rendered_items h ps)) ∙ ap means_array (items_kept ps w k)
    kept (object_of fs) w k =
        ap (λ b. seen (if b then single_form t (rendered_fields h fs) else object_outcome (member_outcomes t (rendered_fields h fs)))) (no_forms fs w) ∙ seen_object (member_outcomes t (rendered_fields h fs)) ∙ ap means_object (fields_kept fs w k)
    kept (pseudo p) w k = same p
    kept (ref n) w k = ref_kept (h.target n) (src.target n) k.0
    kept (get_att n a) w k = attribute_kept a (h.attribute n a) (src.attribute n a) k.0
    kept (concat ps) w k = seen_joined t (rendered_items h ps) ∙ ap means_text (pieces_kept ps w k)
    kept (join d e) w k = seen_rendered_join t d (rendered h e) ∙ ap (λ v. joined_items d (items_in v)) (kept e w k)
    kept (select n e) w k = ap (λ b. seen (select_args (if b then Some n else None) (outcome t (rendered h e)))) w.0 ∙ seen_select n (outcome t (rendered h e)) ∙ ap (λ v. item_at n (items_in v)) (kept e w.1 k)
    kept (split d e) w k = seen_split d (outcome t (rendered h e)) w.0 ∙ ap (λ v. cut_at d (text_in v)) (kept e w.1 k)
    kept (choice c x y) w k = choice_kept (h.condition c) (src.condition c) (rendered h x) (rendered h y) k.0 ∙ rw (kept x w.0 (each_front (MentionKept src h t) (mentions x) (mentions y) k.1), kept y w.1 (each_back (MentionKept src h t) (mentions x) (mentions y) k.1))
    kept (find_in_map n x y) w k = seen_leaf (t.leaf (h.mapping n)) (src.leaf n) k.0 (outcome t (rendered h x)) (outcome t (rendered h y)) ∙ rw (kept x w.0 (each_front (MentionKept src h t) (mentions x) (mentions y) k.1), kept y w.1 (each_back (MentionKept src h t) (mentions x) (mentions y) k.1))
    kept (import_value e) w k = import_kept e k.0.0 ∙ ap means_text k.0.1

    items_kept : (ps : Plains) → AreWell ps → Keeps src h t (all_mentions ps) → listed (item_outcomes t (rendered_items h ps)) ≡ meanings src ps
    items_kept no_plains w k = refl
    items_kept (plain p ps) w k = listed_first (outcome t (rendered h p)) (item_outcomes t (rendered_items h ps)) ∙ (rw (kept p w.0 (each_front (MentionKept src h t) (mentions p) (all_mentions ps) k), items_kept ps w.1 (each_back (MentionKept src h t) (mentions p) (all_mentions ps) k)))

    pieces_kept : (ps : Plains) → AreWell ps → Keeps src h t (all_mentions ps) → texts t (rendered_items h ps) ≡ pieces_text src ps
    pieces_kept no_plains w k = refl
    pieces_kept (plain p ps) w k = rw (kept p w.0 (each_front (MentionKept src h t) (mentions p) (all_mentions ps) k), pieces_kept ps w.1 (each_back (MentionKept src h t) (mentions p) (all_mentions ps) k))

    fields_kept : (fs : Fields) → FieldsAreWell fs → Keeps src h t (field_mentions fs) → fielded (member_outcomes t (rendered_fields h fs)) ≡ field_meanings src fs
    fields_kept no_fields w k = refl
    fields_kept (field n p fs) w k = fielded_first n (outcome t (rendered h p)) (member_outcomes t (rendered_fields h fs)) ∙ (rw (kept p w.1 (each_front (MentionKept src h t) (mentions p) (field_mentions fs) k), fields_kept fs w.2 (each_back (MentionKept src h t) (mentions p) (field_mentions fs) k)))

pub rendering_kept : RenderingKeepsMeaning
rendering_kept src h t same e w k = agrees_seen (outcome t (rendered h e)) (meaning src e) (kept src h t same e w k)
