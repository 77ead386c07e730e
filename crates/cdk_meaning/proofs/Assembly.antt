-- The meaning is kept in each stack of an assembly.
use Rattle.std.proofs.Common.{◌≡◌, ℕ, List, ◌∷◌, ◌++◌, Bool, true, false, ◌||◌, Option, Some, None, refl, sym, ap, ◌∙◌, subst, inl, inr}
use Rattle.std.proofs.lemmas.Grind.{flat_map-append}
use Rattle.std.specs.Prelude.{◌⊎◌, codes, if◌then◌else◌, option_map, option_and_then, unwrap_or}
use Rattle.std.specs.Option.{option_or}
use Rattle.serde_json.specs.Data.{Data, null, string, array, Items}
use Rattle.serde_json.specs.Find.{get, as_str}
use Rattle.cdk_base.specs.Json.{text_of}
use Rattle.cdk_eval.specs.declared.fault.EvalFault.TheVariants.{NoExport}
use Rattle.cdk_eval.specs.Values.{Values, physical_text, attribute_text}
use Rattle.cdk_eval.specs.Outcomes.{Outcome, Value, Gone, Fault, text_or, Truth, Holds, Untold, OutputOutcome, OutputText, OutputNotMade, OutputFault}
use Rattle.cdk_eval.specs.Texts.{list_items}
use Rattle.cdk_eval.specs.Template.{Scope, outcome}
use Rattle.cdk_eval.specs.Reach.{is_among}
use Rattle.cdk_eval.specs.Sections.{section, presence, scope}
use Rattle.cdk_eval.specs.Stack.{Stack, some_text, text_outcome, value_and_name, made_output, output_value, output_at}
use Rattle.cdk_eval.specs.Assembly.{literal_name, literal_names, outside_exports}
use Rattle.cdk_meaning.specs.Mentions.{Mention, to_target, to_attribute, to_condition, to_mapping, to_import, mentions}
use Rattle.cdk_meaning.specs.Source.{Meaning, Means}
use Rattle.cdk_meaning.specs.Meaning.{means_text, text_in, items_in, joined_texts, joined_items, cut_at}
use Rattle.cdk_meaning.specs.Agreement.{seen, seen_truth}
use Rattle.cdk_plain.specs.Rendered.{Home, Local, Import, ImportList, list_delimiter, join_json, ref_json, attribute_json}
use Rattle.cdk_meaning.specs.Names.{AreDistinct, IsIn, Each}
use Rattle.cdk_meaning.specs.Constructs.{text_form, number_form, list_form, Element, parameter_of, resource_of, condition_of, mapping_of, other_element, Constructs, means_parameter, presence_of, means_made, truth, target_meaning, attribute_meaning, source_of}
use Rattle.cdk_meaning.specs.StackTemplate.{Parts, IsParameterEntry, IsGuardIn, IsResourceEntry, homes_of, TargetStands, MentionStands}
use Rattle.cdk_meaning.specs.ListsKept.{text_items}
use Rattle.cdk_meaning.specs.AssemblyKept.{exports_left, name_of, NamesAreLiteral, guard_in, IsExported, targets_in, resources_in, IsTextElement, IsListElement, ItemsHaveNoBar, HasNoBar, TargetIsThere, AttributeIsThere, MentionIsThere, ImportsStand, AssembliesKeepMeaning}
use Rattle.cdk_meaning.proofs.Joins.{seen_join_of}
use Rattle.cdk_meaning.proofs.NameLists.{neither, has_append, each_at, each_more, in_either, in_back}
use Rattle.cdk_meaning.proofs.Stack.{presence_stands, attribute_stands, target_mentioned, stacks_keep_meaning}
use Rattle.cdk_meaning.proofs.Lists.{cutting_undoes_joining}
use Rattle.cdk_meaning.proofs.ListItems.{AreTexts, list_texts, texts_of_items, each_has_no_bar}
use Rattle.cdk_meaning.proofs.Exports.{told, named_in, left_by_others, left_by_one, found_in_entries}

-- ---- what an output tells

abbrev text_if : Option Bool → Option (List ℕ) → Option (List ℕ)
text_if (Some true) t = t
text_if (Some false) t = None
text_if None t = None

told_made : (b : Truth) (o : OutputOutcome) → told (made_output b o) ≡ text_if (seen_truth b) (told o)
told_made (Holds true) o = refl
told_made (Holds false) o = refl
told_made (Untold f) o = refl

told_some : (t : Option (List ℕ)) → told (some_text t) ≡ t
told_some None = refl
told_some (Some t) = refl

told_text : (o : Outcome) → told (text_outcome o) ≡ text_in (seen o)
told_text (Value d) = told_some (text_of d)
told_text Gone = refl
told_text (Fault f) = refl

with_name : (o : OutputOutcome) (e : List ℕ) → value_and_name o (Some (OutputText e)) ≡ o
with_name (OutputText t) e = refl
with_name OutputNotMade e = refl
with_name (OutputFault f) e = refl

output_told : (b : Truth) (s : Scope) (o local : Data) (e : List ℕ) → get (codes "Value") o ≡ Some local → name_of o ≡ Some (string e) → told (output_at b s o) ≡ text_if (seen_truth b) (text_in (seen (outcome s local)))
output_told b s o local e value name =
    ap (λ n. told (made_output b (value_and_name (output_value s o) (option_map (λ x. text_outcome (outcome s x)) n)))) name
    ∙ ap (λ x. told (made_output b x)) (with_name (output_value s o) e)
    ∙ told_made b (output_value s o)
    ∙ ap (λ x. text_if (seen_truth b) (told (text_outcome (outcome s (unwrap_or x null))))) value
    ∙ ap (text_if (seen_truth b)) (told_text (outcome s local))

-- ---- a text that crosses stacks is what it was

made_once : (b : Option Bool) (t : List ℕ) → text_if b (text_in (means_made b t)) ≡ text_in (means_made b t)
made_once None t = refl
made_once (Some true) t = refl
made_once (Some false) t = refl

made_back : (b : Option Bool) (t : List ℕ) → means_text (text_in (means_made b t)) ≡ means_made b t
made_back None t = refl
made_back (Some true) t = refl
made_back (Some false) t = refl

text_back : (t : Option (List ℕ)) → means_text (text_in (means_parameter text_form t)) ≡ means_parameter text_form t
text_back None = refl
text_back (Some t) = refl

number_back : (t : Option (List ℕ)) → means_text (text_in (means_parameter number_form t)) ≡ means_parameter number_form t
number_back None = refl
number_back (Some t) = refl

module _ (v : Values) (truth_at : ℕ → Option Bool) (stack logical : List ℕ) where
  guarded_target : (el : Element) → text_if (presence_of truth_at (guard_in el)) (text_in (target_meaning v truth_at stack logical el)) ≡ text_in (target_meaning v truth_at stack logical el)
  guarded_target (parameter_of f d) = refl
  guarded_target (resource_of g) = made_once (presence_of truth_at g) (physical_text v stack logical)
  guarded_target (condition_of c) = refl
  guarded_target (mapping_of d) = refl
  guarded_target other_element = refl

  guarded_attribute : (a : List ℕ) (el : Element) → text_if (presence_of truth_at (guard_in el)) (text_in (attribute_meaning v truth_at stack logical a el)) ≡ text_in (attribute_meaning v truth_at stack logical a el)
  guarded_attribute a (parameter_of f d) = refl
  guarded_attribute a (resource_of g) = made_once (presence_of truth_at g) (attribute_text v stack logical a)
  guarded_attribute a (condition_of c) = refl
  guarded_attribute a (mapping_of d) = refl
  guarded_attribute a other_element = refl

  target_back : (el : Element) → IsTextElement el → means_text (text_in (target_meaning v truth_at stack logical el)) ≡ target_meaning v truth_at stack logical el
  target_back (parameter_of text_form d) h = text_back (option_or (v.parameter stack logical) d)
  target_back (parameter_of number_form d) h = number_back (option_or (v.parameter stack logical) d)
  target_back (parameter_of list_form d) h = absurd h
  target_back (resource_of g) h = made_back (presence_of truth_at g) (physical_text v stack logical)
  target_back (condition_of c) h = absurd h
  target_back (mapping_of d) h = absurd h
  target_back other_element h = absurd h

  attribute_back : (a : List ℕ) (el : Element) → means_text (text_in (attribute_meaning v truth_at stack logical a el)) ≡ attribute_meaning v truth_at stack logical a el
  attribute_back a (parameter_of f d) = refl
  attribute_back a (resource_of g) = made_back (presence_of truth_at g) (attribute_text v stack logical a)
  attribute_back a (condition_of c) = refl
  attribute_back a (mapping_of d) = refl
  attribute_back a other_element = refl

-- ---- a list that crosses stacks is what it was

texts_back : (t : List ℕ) (ts : List (List ℕ)) → ItemsHaveNoBar (text_items (t ∷ ts)) → cut_at list_delimiter (text_in (joined_items list_delimiter (Some (text_items (t ∷ ts))))) ≡ Means (array (text_items (t ∷ ts)))
texts_back t ts h =
    ap (λ o. cut_at list_delimiter (text_in (joined_texts list_delimiter o))) (texts_of_items (t ∷ ts))
    ∙ ap (λ ds. Means (array ds)) (cutting_undoes_joining t ts (each_has_no_bar (t ∷ ts) h))

items_back : (ds : Items) → AreTexts ds → ItemsHaveNoBar ds → cut_at list_delimiter (text_in (joined_items list_delimiter (Some ds))) ≡ Means (array ds)
items_back ds k =
    subst (λ (es : Items). ItemsHaveNoBar es → cut_at list_delimiter (text_in (joined_items list_delimiter (Some es))) ≡ Means (array es)) (sym k.same) (texts_back k.first k.rest)

parameter_back : (o : Option (List ℕ)) → HasNoBar (means_parameter list_form o) → cut_at list_delimiter (text_in (joined_items list_delimiter (items_in (means_parameter list_form o)))) ≡ means_parameter list_form o
parameter_back None h = refl
parameter_back (Some t) h = items_back (list_items t) (list_texts t) h

-- what has a condition is no list
list_once : (b : Option Bool) (t : List ℕ) → text_if b (text_in (joined_items list_delimiter (items_in (means_made b t)))) ≡ text_in (joined_items list_delimiter (items_in (means_made b t)))
list_once None t = refl
list_once (Some true) t = refl
list_once (Some false) t = refl

module _ (v : Values) (truth_at : ℕ → Option Bool) (stack logical : List ℕ) where
  guarded_list : (el : Element) → text_if (presence_of truth_at (guard_in el)) (text_in (joined_items list_delimiter (items_in (target_meaning v truth_at stack logical el)))) ≡ text_in (joined_items list_delimiter (items_in (target_meaning v truth_at stack logical el)))
  guarded_list (parameter_of f d) = refl
  guarded_list (resource_of g) = list_once (presence_of truth_at g) (physical_text v stack logical)
  guarded_list (condition_of c) = refl
  guarded_list (mapping_of d) = refl
  guarded_list other_element = refl

  list_back : (el : Element) → IsListElement el → HasNoBar (target_meaning v truth_at stack logical el) → cut_at list_delimiter (text_in (joined_items list_delimiter (items_in (target_meaning v truth_at stack logical el)))) ≡ target_meaning v truth_at stack logical el
  list_back (parameter_of text_form d) k h = absurd k
  list_back (parameter_of number_form d) k h = absurd k
  list_back (parameter_of list_form d) k h = parameter_back (option_or (v.parameter stack logical) d) h
  list_back (resource_of g) k h = absurd k
  list_back (condition_of c) k h = absurd k
  list_back (mapping_of d) k h = absurd k
  list_back other_element k h = absurd k

-- ---- the condition of a construct is one of its stack's

parameter_guard : (conditions : List ℕ) (el : Element) (e : Data) → IsParameterEntry el e → IsGuardIn conditions (guard_in el)
parameter_guard cs (parameter_of f d) e k = tt
parameter_guard cs (resource_of g) e k = absurd k
parameter_guard cs (condition_of c) e k = absurd k
parameter_guard cs (mapping_of d) e k = absurd k
parameter_guard cs other_element e k = absurd k

resource_guard : (logical : ℕ → List ℕ) (conditions : List ℕ) (el : Element) (e : Data) → IsResourceEntry logical conditions el e → IsGuardIn conditions (guard_in el)
resource_guard l cs (resource_of g) e k = k.1
resource_guard l cs (parameter_of f d) e k = absurd k
resource_guard l cs (condition_of c) e k = absurd k
resource_guard l cs (mapping_of d) e k = absurd k
resource_guard l cs other_element e k = absurd k

module _ (v : Values) (cs : Constructs) (most : ℕ) (before : List Stack) (s : Stack) (later : List Stack) (w : Each NamesAreLiteral before) (d : AreDistinct (literal_names before)) where
  abbrev all : List Stack
  all = before ++ s ∷ later

  abbrev exports : List ℕ → Option (List ℕ)
  exports = exports_left v (outside_exports v all) before

  all_names : literal_names all ≡ literal_names before ++ literal_names (s ∷ later)
  all_names = flat_map-append _ before (s ∷ later)

  none_outside : (e : List ℕ) → is_among e (literal_names before) ≡ true → outside_exports v all e ≡ None
  none_outside e h = ap (λ b. if b then None else v.export e) (ap (is_among e) all_names ∙ has_append e (literal_names before) (literal_names (s ∷ later)) ∙ ap (λ b. b || is_among e (literal_names (s ∷ later))) h)

  guard_there : (own : Parts → List ℕ) (n : ℕ) (local : Data) (e : List ℕ) (k : IsExported cs most before own n local e) → IsIn n (targets_in k.parts) → IsGuardIn k.parts.conditions (guard_in (cs.element n))
  guard_there own n local e k i = at (in_either n k.parts.parameters k.parts.resources i)
    where
      at : IsIn n k.parts.parameters ⊎ IsIn n k.parts.resources → IsGuardIn k.parts.conditions (guard_in (cs.element n))
      at (inl j) = parameter_guard k.parts.conditions (cs.element n) (k.entry n) (each_at (λ m. IsParameterEntry (cs.element m) (k.entry m)) n k.parts.parameters k.built_of.parameters j)
      at (inr j) = resource_guard (λ c. cs.logical c) k.parts.conditions (cs.element n) (k.entry n) (each_at (λ m. IsResourceEntry (λ c. cs.logical c) k.parts.conditions (cs.element m) (k.entry m)) n k.parts.resources k.built_of.resources j)

  -- the export holds the text that the output's value means where the construct is made
  exported_text : (own : Parts → List ℕ) (n : ℕ) (local : Data) (e : List ℕ) (m : Meaning) (k : IsExported cs most before own n local e) → IsIn n (targets_in k.parts)
      → ((ys : List ℕ → Option (List ℕ)) → seen (outcome (scope v k.producer.name k.producer.template ys) local) ≡ m)
      → exports e ≡ text_if (presence_of (truth v cs most) (guard_in (cs.element n))) (text_in m)
  exported_text own n local e m k i means =
      let named : literal_name k.output ≡ Some e = ap (option_and_then as_str) k.name in
      let among = found_in_entries k.key k.output (section (codes "Outputs") k.producer.template) k.found in
      left_by_one v e (text_if (presence_of (truth v cs most) (guard_in (cs.element n))) (text_in m)) k.output k.producer before (outside_exports v all) w
      d
      (none_outside e (named_in e k.output k.producer before k.stands_before among named)) k.stands_before among named
      (λ ys.
      output_told (presence v k.producer.name k.producer.template k.output) (scope v k.producer.name k.producer.template ys) k.output local e k.value k.name
      ∙ ap (λ b. text_if b (text_in (seen (outcome (scope v k.producer.name k.producer.template ys) local)))) (presence_stands v cs k.parts k.targets k.attributes k.entry k.producer.name k.producer.template k.built_of most (guard_in (cs.element n)) k.output k.few k.guard (guard_there own n local e k i))
      ∙ ap (λ x. text_if (presence_of (truth v cs most) (guard_in (cs.element n))) (text_in x)) (means ys))

  abbrev meant : ℕ → Meaning
  meant n = target_meaning v (truth v cs most) (cs.stack n) (cs.logical n) (cs.element n)

  -- `Ref` in the producer's template
  local_ref : (n : ℕ) (local : Data) (e : List ℕ) (k : IsExported cs most before targets_in n local e) (ys : List ℕ → Option (List ℕ)) → seen (outcome (scope v k.producer.name k.producer.template ys) (ref_json (Local (cs.logical n)))) ≡ meant n
  local_ref n local e k ys = target_mentioned v cs k.parts k.targets k.attributes k.entry k.producer.name k.producer.template k.built_of ys most k.few n (Local (cs.logical n)) (refl, k.owned)

  ref_text : (n : ℕ) (e : List ℕ) → IsExported cs most before targets_in n (ref_json (Local (cs.logical n))) e → exports e ≡ text_in (meant n)
  ref_text n e k =
      exported_text targets_in n (ref_json (Local (cs.logical n))) e (meant n) k k.owned (local_ref n (ref_json (Local (cs.logical n))) e k) ∙ guarded_target v (truth v cs most) (cs.stack n) (cs.logical n) (cs.element n)

  list_text : (n : ℕ) (e : List ℕ) → IsExported cs most before targets_in n (join_json list_delimiter (ref_json (Local (cs.logical n)))) e → exports e ≡ text_in (joined_items list_delimiter (items_in (meant n)))
  list_text n e k =
      exported_text targets_in n (join_json list_delimiter (ref_json (Local (cs.logical n)))) e (joined_items list_delimiter (items_in (meant n))) k k.owned
      (λ ys. seen_join_of (scope v k.producer.name k.producer.template ys) list_delimiter (ref_json (Local (cs.logical n))) ∙ ap (λ m. joined_items list_delimiter (items_in m)) (local_ref n (join_json list_delimiter (ref_json (Local (cs.logical n)))) e k ys))
      ∙ guarded_list v (truth v cs most) (cs.stack n) (cs.logical n) (cs.element n)

  attribute_exported : (n : ℕ) (a e : List ℕ) → IsExported cs most before resources_in n (attribute_json a (Local (cs.logical n))) e → exports e ≡ text_in (attribute_meaning v (truth v cs most) (cs.stack n) (cs.logical n) a (cs.element n))
  attribute_exported n a e k =
      exported_text resources_in n (attribute_json a (Local (cs.logical n))) e (attribute_meaning v (truth v cs most) (cs.stack n) (cs.logical n) a (cs.element n)) k (in_back n k.parts.parameters k.parts.resources k.owned)
      (λ ys. attribute_stands v cs k.parts k.targets k.attributes k.entry k.producer.name k.producer.template k.built_of most n a k.few k.owned)
      ∙ guarded_attribute v (truth v cs most) (cs.stack n) (cs.logical n) a (cs.element n)

  target_there : (p : Parts) (n : ℕ) (o : Home) → TargetIsThere cs most before p n o (meant n) → TargetStands cs (p.parameters ++ p.resources) exports n o (meant n)
  target_there p n (Local k) h = h
  target_there p n (Import e) (t, k) = ap means_text (ref_text n e k) ∙ target_back v (truth v cs most) (cs.stack n) (cs.logical n) (cs.element n) t
  target_there p n (ImportList e) (t, b, k) = ap (cut_at list_delimiter) (list_text n e k) ∙ list_back v (truth v cs most) (cs.stack n) (cs.logical n) (cs.element n) t b

  attribute_there : (p : Parts) (n : ℕ) (a : List ℕ) (o : Home) → AttributeIsThere cs most before p n a o
      → TargetStands cs p.resources exports n o (attribute_meaning v (truth v cs most) (cs.stack n) (cs.logical n) a (cs.element n))
  attribute_there p n a (Local k) h = h
  attribute_there p n a (Import e) k = ap means_text (attribute_exported n a e k) ∙ attribute_back v (truth v cs most) (cs.stack n) (cs.logical n) a (cs.element n)
  attribute_there p n a (ImportList e) h = absurd h

  import_there : (e : List ℕ) → is_among e (literal_names all) ≡ false → exports e ≡ v.export e
  import_there e h =
      left_by_others v e (outside_exports v all) before w (neither (is_among e (literal_names before)) (is_among e (literal_names (s ∷ later))) (sym (ap (is_among e) all_names ∙ has_append e (literal_names before) (literal_names (s ∷ later))) ∙ h)).0
      ∙ ap (λ b. if b then None else v.export e) h

  module _ (p : Parts) (target : ℕ → Home) (attribute : ℕ → List ℕ → Home) where
    mention_there : (x : Mention) → MentionIsThere cs most (source_of v cs most s.name) before (literal_names all) p target attribute x → MentionStands (source_of v cs most s.name) cs p (homes_of cs target attribute) exports x
    mention_there (to_target n) k = target_there p n (target n) k
    mention_there (to_attribute n a) k = attribute_there p n a (attribute n a) k
    mention_there (to_condition c) k = k
    mention_there (to_mapping m) k = k
    mention_there (to_import e) k = import_there e k

pub imports_stand : ImportsStand
imports_stand v cs most before s later w d n e = record {
  of_ref = λ k. ap (text_or NoExport) (ref_text v cs most before s later w d n e k);
  of_list = λ k. ap (text_or NoExport) (list_text v cs most before s later w d n e k);
  of_attribute = λ a k. ap (text_or NoExport) (attribute_exported v cs most before s later w d n a e k);
}

pub assemblies_keep_meaning : AssembliesKeepMeaning
assemblies_keep_meaning v cs most before s later w d p target attribute entry t l e well k =
    stacks_keep_meaning v cs p target attribute entry s.name s.template t (exports_left v (outside_exports v (before ++ s ∷ later)) before) most l e well
    (each_more (MentionIsThere cs most (source_of v cs most s.name) before (literal_names (before ++ s ∷ later)) p target attribute) (MentionStands (source_of v cs most s.name) cs p (homes_of cs target attribute) (exports_left v (outside_exports v (before ++ s ∷ later)) before)) (mentions e)
    (λ x i m. mention_there v cs most before s later w d p target attribute x m) k)
