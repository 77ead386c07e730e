-- The names of a stack's template stand for what its constructs mean.
use Rattle.std.proofs.Common.{◌≡◌, ◌≤◌, ℕ, List, ◌++◌, length, map, true, false, Option, Some, None, refl, sym, ap, ◌∙◌, subst, inl, inr}
use Rattle.std.specs.Prelude.{◌⊎◌, codes, if◌then◌else◌, option_map, option_and_then, is_some}
use Rattle.std.specs.Option.{option_or}
use Rattle.serde_json.specs.Data.{Data, null, boolean, number, string, array, object, Members, no_members, member}
use Rattle.std.specs.Ordering.{nat_cmp, match_ordering}
use Rattle.std.specs.Cmp.Lexicographic.{slice_cmp}
use Rattle.std.specs.declared.cmp.Ordering.{Ordering}
use Rattle.std.specs.declared.cmp.Ordering.TheVariants.{Less, Equal, Greater}
use Rattle.serde_json.specs.Find.{get, get_member}
use Rattle.cdk_base.specs.Json.{text_of}
use Rattle.cdk_eval.specs.Values.{Values, physical_text, attribute_text, pseudo_text}
use Rattle.cdk_eval.specs.Outcomes.{Outcome, Gone, Truth, Holds, Untold}
use Rattle.cdk_eval.specs.Template.{Scope, text_else, ref_outcome, outcome}
use Rattle.cdk_eval.specs.Sections.{section, is_list_type, parameter_value, parameter_outcome, literal_or_bad, leaf_value, leaf_outcome, operand_resource, parameter_else, operand_scope, condition_truth, presence_by, presence, made_text, resource_outcome, attribute_outcome, target_outcome, scope}
use Rattle.cdk_plain.specs.Plain.{IsWellCondition}
use Rattle.cdk_meaning.specs.Mentions.{Mention, to_target, to_attribute, to_condition, to_mapping, to_import, mentions, operand_mentions}
use Rattle.cdk_meaning.specs.Source.{Means}
use Rattle.cdk_meaning.specs.Meaning.{or_undefined, meaning}
use Rattle.cdk_meaning.specs.Agreement.{seen, seen_truth}
use Rattle.cdk_plain.specs.Rendered.{Home, Local, Import, ImportList, Homes, rendered}
use Rattle.cdk_meaning.specs.Kept.{TargetKept, AttributeKept, MentionKept, PseudosKept}
use Rattle.cdk_meaning.specs.AssemblyKept.{guard_in}
use Rattle.cdk_meaning.specs.Names.{AreDistinct, IsIn, Each}
use Rattle.cdk_meaning.specs.ConditionsKept.{AreStackConditions}
use Rattle.cdk_meaning.specs.Constructs.{ParameterForm, text_form, number_form, list_form, Element, parameter_of, resource_of, condition_of, mapping_of, other_element, Constructs, means_parameter, parameter_meaning, leaf_in, operand_source, source_at, condition_at, truth, presence_of, means_made, target_meaning, attribute_meaning, source_of}
use Rattle.cdk_meaning.specs.StackTemplate.{Parts, form_text, IsParameterEntry, IsGuardIn, IsResourceEntry, EachMember, IsLeaf, IsRow, IsMapping, IsMappingEntry, homes_of, IsOperandMention, has_colon, IsTemplateOf, TargetStands, MentionStands, StacksKeepMeaning}
use Rattle.cdk_meaning.proofs.Collapse.{agrees_seen}
use Rattle.cdk_meaning.proofs.Kept.{kept}
use Rattle.cdk_meaning.proofs.NameLists.{apart_back, each_at, each_front, each_back, each_more, in_either, is_named}
use Rattle.cdk_meaning.proofs.OneCondition.{map_append}
use Rattle.cdk_meaning.proofs.Conditions.{conditions_kept}
use Rattle.cdk_meaning.proofs.Pseudos.{pseudos_kept, operand_pseudos_kept, no_gone, no_pseudo}

-- ---- entries

default_kept : (d : Option (List ℕ)) → option_and_then text_of (option_map string d) ≡ d
default_kept None = refl
default_kept (Some d) = refl

seen_parameter : (f : ParameterForm) (o : Option (List ℕ)) → seen (parameter_value (is_list_type (Some (string (form_text f)))) o) ≡ means_parameter f o
seen_parameter text_form None = refl
seen_parameter text_form (Some t) = refl
seen_parameter number_form None = refl
seen_parameter number_form (Some t) = refl
seen_parameter list_form None = refl
seen_parameter list_form (Some t) = refl

parameter_kept : (v : Values) (stack logical : List ℕ) (el : Element) (e : Data) → IsParameterEntry el e → seen (parameter_outcome (v.parameter stack logical) e) ≡ parameter_meaning v stack logical el
parameter_kept v stack logical (parameter_of f d) e w =
    ap (λ o. seen (parameter_value (is_list_type o) (option_or (v.parameter stack logical) (option_and_then text_of (get (codes "Default") e))))) w.0
    ∙ ap (λ o. seen (parameter_value (is_list_type (Some (string (form_text f)))) (option_or (v.parameter stack logical) (option_and_then text_of o)))) w.1
    ∙ ap (λ o. seen (parameter_value (is_list_type (Some (string (form_text f)))) (option_or (v.parameter stack logical) o))) (default_kept d)
    ∙ seen_parameter f (option_or (v.parameter stack logical) d)
parameter_kept v stack logical (resource_of g) e w = absurd w
parameter_kept v stack logical (condition_of c) e w = absurd w
parameter_kept v stack logical (mapping_of d) e w = absurd w
parameter_kept v stack logical other_element e w = absurd w

seen_literal : (d : Data) (o : Option (List ℕ)) → is_some o ≡ true → seen (literal_or_bad d o) ≡ Means d
seen_literal d None h = cc
seen_literal d (Some t) h = refl

leaf_kept : (o : Option Data) → ((d : Data) → o ≡ Some d → is_some (text_of d) ≡ true) → seen (leaf_value o) ≡ or_undefined o
leaf_kept None h = refl
leaf_kept (Some d) h = seen_literal d (text_of d) (h d refl)

member_at : (P : Data → Type 0) (k : List ℕ) (d : Data) (ms : Members) → EachMember P ms → get_member k ms ≡ Some d → P d
member_at P k d no_members w h = cc
member_at P k d (member l e ms) w h = at (slice_cmp nat_cmp k l) h (member_at P k d ms w.1)
  where
    at : (o : Ordering) → match_ordering o (get_member k ms) (Some e) (get_member k ms) ≡ Some d → (get_member k ms ≡ Some d → P d) → P d
    at Less g later = later g
    at Equal g later = let same : e ≡ d = cc g in subst P same w.0
    at Greater g later = later g

row_leaf : (y : List ℕ) (r d : Data) → IsRow r → get y r ≡ Some d → IsLeaf d
row_leaf y (object ms) d w h = member_at IsLeaf y d ms w h
row_leaf y null d w h = absurd w
row_leaf y (boolean b) d w h = absurd w
row_leaf y (number n) d w h = absurd w
row_leaf y (string s) d w h = absurd w
row_leaf y (array ds) d w h = absurd w

mapping_leaf : (x y : List ℕ) (m d : Data) → IsMapping m → option_and_then (get y) (get x m) ≡ Some d → IsLeaf d
mapping_leaf x y (object ms) d w h = at (get_member x ms) refl h
  where
    at : (o : Option Data) → get_member x ms ≡ o → option_and_then (get y) o ≡ Some d → IsLeaf d
    at None e g = cc
    at (Some r) e g = row_leaf y r d (member_at IsRow x r ms w e) g
mapping_leaf x y null d w h = absurd w
mapping_leaf x y (boolean b) d w h = absurd w
mapping_leaf x y (number n) d w h = absurd w
mapping_leaf x y (string s) d w h = absurd w
mapping_leaf x y (array ds) d w h = absurd w

mapping_kept : (x y : List ℕ) (el : Element) (e : Data) → IsMappingEntry el e → seen (leaf_value (option_and_then (get y) (option_and_then (get x) (Some e)))) ≡ or_undefined (leaf_in el x y)
mapping_kept x y (mapping_of d) e w = ap (λ m. seen (leaf_value (option_and_then (get y) (get x m)))) w.0 ∙ leaf_kept (option_and_then (get y) (get x d)) (λ l h. mapping_leaf x y d l w.1 h)
mapping_kept x y (parameter_of f d) e w = absurd w
mapping_kept x y (resource_of g) e w = absurd w
mapping_kept x y (condition_of c) e w = absurd w
mapping_kept x y other_element e w = absurd w

-- ---- the template

module _ (v : Values) (cs : Constructs) (p : Parts) (target : ℕ → Home) (attribute : ℕ → List ℕ → Home) (entry : ℕ → Data) (stack : List ℕ) (template : Data) (w : IsTemplateOf cs p (homes_of cs target attribute) entry stack template) where
  abbrev h : Homes
  h = homes_of cs target attribute

  abbrev logical : ℕ → List ℕ
  logical = λ n. cs.logical n

  apart : AreDistinct (map logical p.parameters ++ map logical p.resources)
  apart = subst AreDistinct (map_append logical p.parameters p.resources) w.targets_apart

  parameter_found : (n : ℕ) → IsIn n p.parameters → get_member (cs.logical n) (section (codes "Parameters") template) ≡ Some (entry n)
  parameter_found n i = w.parameters_stand.found n i

  parameter_lacked : (n : ℕ) → IsIn n p.resources → get_member (cs.logical n) (section (codes "Parameters") template) ≡ None
  parameter_lacked n i = w.parameters_stand.lacks (cs.logical n) (apart_back (cs.logical n) (map logical p.parameters) (map logical p.resources) apart (is_named logical n p.resources i))

  pub resource_found : (n : ℕ) → IsIn n p.resources → get_member (cs.logical n) (section (codes "Resources") template) ≡ Some (entry n)
  resource_found n i = w.resources_stand.found n i

  mapping_found : (n : ℕ) → IsIn n p.mappings → get_member (cs.logical n) (section (codes "Mappings") template) ≡ Some (entry n)
  mapping_found n i = w.mappings_stand.found n i

  parameter_placed : (n : ℕ) → IsIn n p.parameters → cs.stack n ≡ stack
  parameter_placed n i = each_at (λ m. cs.stack m ≡ stack) n p.parameters (each_front (λ m. cs.stack m ≡ stack) p.parameters (p.resources ++ p.conditions) w.placed) i

  resource_placed : (n : ℕ) → IsIn n p.resources → cs.stack n ≡ stack
  resource_placed n i = each_at (λ m. cs.stack m ≡ stack) n p.resources (each_front (λ m. cs.stack m ≡ stack) p.resources p.conditions (each_back (λ m. cs.stack m ≡ stack) p.parameters (p.resources ++ p.conditions) w.placed)) i

  condition_placed : (n : ℕ) → IsIn n p.conditions → cs.stack n ≡ stack
  condition_placed n i = each_at (λ m. cs.stack m ≡ stack) n p.conditions (each_back (λ m. cs.stack m ≡ stack) p.resources p.conditions (each_back (λ m. cs.stack m ≡ stack) p.parameters (p.resources ++ p.conditions) w.placed)) i

  parameter_name : (n : ℕ) → IsIn n p.parameters → has_colon (cs.logical n) ≡ false
  parameter_name n i = each_at (λ m. has_colon (cs.logical m) ≡ false) n p.parameters (each_front (λ m. has_colon (cs.logical m) ≡ false) p.parameters p.resources w.names) i

  resource_name : (n : ℕ) → IsIn n p.resources → has_colon (cs.logical n) ≡ false
  resource_name n i = each_at (λ m. has_colon (cs.logical m) ≡ false) n p.resources (each_back (λ m. has_colon (cs.logical m) ≡ false) p.parameters p.resources w.names) i

  -- a name without a colon is looked up
  plain_ref : (t : Scope) (n : List ℕ) → t.pseudo ≡ pseudo_text v stack → has_colon n ≡ false → ref_outcome t n ≡ t.target n
  plain_ref t n same c =
      ap (λ b. if b then Gone else text_else (t.target n) (t.pseudo n)) (no_gone n c) ∙ ap (λ f. text_else (t.target n) (f n)) same ∙ ap (text_else (t.target n)) (no_pseudo v stack n c)

  -- `Ref` of a parameter, in a property and in an operand
  ref_parameter : (o : Outcome) (n : ℕ) → IsIn n p.parameters → seen (parameter_else (v.parameter stack (cs.logical n)) o (get_member (cs.logical n) (section (codes "Parameters") template))) ≡ parameter_meaning v (cs.stack n) (cs.logical n) (cs.element n)
  ref_parameter o n i =
      ap (λ e. seen (parameter_else (v.parameter stack (cs.logical n)) o e)) (parameter_found n i)
      ∙ parameter_kept v stack (cs.logical n) (cs.element n) (entry n) (each_at (λ m. IsParameterEntry (cs.element m) (entry m)) n p.parameters w.parameters i)
      ∙ ap (λ s. parameter_meaning v s (cs.logical n) (cs.element n)) (sym (parameter_placed n i))

  mapping_stands : (m : ℕ) → IsIn m p.mappings → (x y : List ℕ) → seen (leaf_outcome (section (codes "Mappings") template) (cs.logical m) x y) ≡ or_undefined (leaf_in (cs.element m) x y)
  mapping_stands m i x y =
      ap (λ o. seen (leaf_value (option_and_then (get y) (option_and_then (get x) o)))) (mapping_found m i) ∙ mapping_kept x y (cs.element m) (entry m) (each_at (λ n. IsMappingEntry (cs.element n) (entry n)) m p.mappings w.mappings i)

  -- ---- conditions

  operand_kept : (c : ℕ) (x : Mention) → IsOperandMention cs p h x → MentionKept (source_at v cs c) h (operand_scope v stack template) x
  operand_kept c (to_target n) (i, e) =
      subst (λ (o : Home). TargetKept (operand_scope v stack template) o (parameter_meaning v (cs.stack n) (cs.logical n) (cs.element n))) (sym e)
      (ap seen (plain_ref (operand_scope v stack template) (cs.logical n) refl (parameter_name n i)) ∙ ref_parameter (operand_resource (get_member (cs.logical n) (section (codes "Resources") template))) n i)
  operand_kept c (to_attribute n a) k = absurd k
  operand_kept c (to_condition d) k = absurd k
  operand_kept c (to_mapping m) k = mapping_stands m k
  operand_kept c (to_import e) k = absurd k

  pub stack_conditions : AreStackConditions (source_at v cs) h (operand_scope v stack template) (condition_at cs) p.conditions
  stack_conditions = record {
    distinct = w.conditions_apart;
    closed = w.closed;
    well = w.well;
    pseudos = each_more (λ c. IsWellCondition (condition_at cs c)) (λ c. PseudosKept (source_at v cs c) (operand_scope v stack template)) p.conditions (λ c i u. subst (λ (s : List ℕ). PseudosKept (operand_source v cs s) (operand_scope v stack template)) (sym (condition_placed c i)) (operand_pseudos_kept v cs stack template)) w.well;
    kept = each_more (λ c. Each (IsOperandMention cs p h) (operand_mentions (condition_at cs c))) (λ c. Each (MentionKept (source_at v cs c) h (operand_scope v stack template)) (operand_mentions (condition_at cs c))) p.conditions
        (λ c i u. each_more (IsOperandMention cs p h) (MentionKept (source_at v cs c) h (operand_scope v stack template)) (operand_mentions (condition_at cs c)) (λ x j k. operand_kept c x k) u) w.operands;
    free = w.free;
  }

  pub condition_stands : (most c : ℕ) → length p.conditions ≤ most → IsIn c p.conditions → seen_truth (condition_truth v stack template (cs.logical c)) ≡ truth v cs most c
  condition_stands most c l i =
      conditions_kept (source_at v cs) h (operand_scope v stack template) (condition_at cs) p.conditions stack_conditions (section (codes "Conditions") template) w.conditions_stand most c l i

  -- ---- resources

  seen_made : (b : Truth) (text : List ℕ) → seen (made_text b text) ≡ means_made (seen_truth b) text
  seen_made (Holds true) text = refl
  seen_made (Holds false) text = refl
  seen_made (Untold f) text = refl

  pub presence_stands : (most : ℕ) (guard : Option ℕ) (e : Data) → length p.conditions ≤ most → get (codes "Condition") e ≡ option_map (λ c. string (cs.logical c)) guard → IsGuardIn p.conditions guard → seen_truth (presence v stack template e) ≡ presence_of (truth v cs most) guard
  presence_stands most None e l g i = ap (λ o. seen_truth (presence_by v stack template o)) g
  presence_stands most (Some c) e l g i = ap (λ o. seen_truth (presence_by v stack template o)) g ∙ condition_stands most c l i

  -- a resource is made as its condition says
  pub resource_guard : (most : ℕ) (el : Element) (e : Data) → length p.conditions ≤ most → IsResourceEntry logical p.conditions el e → seen_truth (presence v stack template e) ≡ presence_of (truth v cs most) (guard_in el)
  resource_guard most (resource_of g) e l k = presence_stands most g e l k.0 k.1
  resource_guard most (parameter_of f d) e l k = absurd k
  resource_guard most (condition_of c) e l k = absurd k
  resource_guard most (mapping_of d) e l k = absurd k
  resource_guard most other_element e l k = absurd k

  made_ref : (most : ℕ) (n : List ℕ) (el : Element) (e : Data) → length p.conditions ≤ most → IsResourceEntry logical p.conditions el e → seen (made_text (presence v stack template e) (physical_text v stack n)) ≡ target_meaning v (truth v cs most) stack n el
  made_ref most n (resource_of g) e l k = seen_made (presence v stack template e) (physical_text v stack n) ∙ ap (λ b. means_made b (physical_text v stack n)) (presence_stands most g e l k.0 k.1)
  made_ref most n (parameter_of f d) e l k = absurd k
  made_ref most n (condition_of c) e l k = absurd k
  made_ref most n (mapping_of d) e l k = absurd k
  made_ref most n other_element e l k = absurd k

  made_attribute : (most : ℕ) (n a : List ℕ) (el : Element) (e : Data) → length p.conditions ≤ most → IsResourceEntry logical p.conditions el e → seen (made_text (presence v stack template e) (attribute_text v stack n a)) ≡ attribute_meaning v (truth v cs most) stack n a el
  made_attribute most n a (resource_of g) e l k = seen_made (presence v stack template e) (attribute_text v stack n a) ∙ ap (λ b. means_made b (attribute_text v stack n a)) (presence_stands most g e l k.0 k.1)
  made_attribute most n a (parameter_of f d) e l k = absurd k
  made_attribute most n a (condition_of c) e l k = absurd k
  made_attribute most n a (mapping_of d) e l k = absurd k
  made_attribute most n a other_element e l k = absurd k

  pub resource_entry : (n : ℕ) → IsIn n p.resources → IsResourceEntry logical p.conditions (cs.element n) (entry n)
  resource_entry n i = each_at (λ m. IsResourceEntry logical p.conditions (cs.element m) (entry m)) n p.resources w.resources i

  pub attribute_stands : (most n : ℕ) (a : List ℕ) → length p.conditions ≤ most → IsIn n p.resources → seen (attribute_outcome v stack template (cs.logical n) a) ≡ attribute_meaning v (truth v cs most) (cs.stack n) (cs.logical n) a (cs.element n)
  attribute_stands most n a l i =
      ap (λ o. seen (resource_outcome v stack template (attribute_text v stack (cs.logical n) a) o)) (resource_found n i)
      ∙ made_attribute most (cs.logical n) a (cs.element n) (entry n) l (resource_entry n i)
      ∙ ap (λ s. attribute_meaning v (truth v cs most) s (cs.logical n) a (cs.element n)) (sym (resource_placed n i))

  ref_resource : (most n : ℕ) → length p.conditions ≤ most → IsIn n p.resources → seen (target_outcome v stack template (cs.logical n)) ≡ target_meaning v (truth v cs most) (cs.stack n) (cs.logical n) (cs.element n)
  ref_resource most n l i =
      ap (λ o. seen (parameter_else (v.parameter stack (cs.logical n)) (resource_outcome v stack template (physical_text v stack (cs.logical n)) (get_member (cs.logical n) (section (codes "Resources") template))) o)) (parameter_lacked n i)
      ∙ ap (λ o. seen (resource_outcome v stack template (physical_text v stack (cs.logical n)) o)) (resource_found n i)
      ∙ made_ref most (cs.logical n) (cs.element n) (entry n) l (resource_entry n i)
      ∙ ap (λ s. target_meaning v (truth v cs most) s (cs.logical n) (cs.element n)) (sym (resource_placed n i))

  -- a parameter means the same as a target
  as_target : (most : ℕ) (s n : List ℕ) (el : Element) (e : Data) → IsParameterEntry el e → parameter_meaning v s n el ≡ target_meaning v (truth v cs most) s n el
  as_target most s n (parameter_of f d) e k = refl
  as_target most s n (resource_of g) e k = absurd k
  as_target most s n (condition_of c) e k = absurd k
  as_target most s n (mapping_of d) e k = absurd k
  as_target most s n other_element e k = absurd k

  pub target_stands : (most n : ℕ) → length p.conditions ≤ most → IsIn n (p.parameters ++ p.resources) → seen (target_outcome v stack template (cs.logical n)) ≡ target_meaning v (truth v cs most) (cs.stack n) (cs.logical n) (cs.element n)
  target_stands most n l i = at (in_either n p.parameters p.resources i)
    where
      at : IsIn n p.parameters ⊎ IsIn n p.resources → seen (target_outcome v stack template (cs.logical n)) ≡ target_meaning v (truth v cs most) (cs.stack n) (cs.logical n) (cs.element n)
      at (inl j) =
          ref_parameter (resource_outcome v stack template (physical_text v stack (cs.logical n)) (get_member (cs.logical n) (section (codes "Resources") template))) n j
          ∙ as_target most (cs.stack n) (cs.logical n) (cs.element n) (entry n) (each_at (λ m. IsParameterEntry (cs.element m) (entry m)) n p.parameters w.parameters j)
      at (inr j) = ref_resource most n l j

  -- ---- what an expression mentions

  module _ (exports : List ℕ → Option (List ℕ)) (most : ℕ) (l : length p.conditions ≤ most) where
    pub target_mentioned : (n : ℕ) (o : Home) → TargetStands cs (p.parameters ++ p.resources) exports n o (target_meaning v (truth v cs most) (cs.stack n) (cs.logical n) (cs.element n)) → TargetKept (scope v stack template exports) o (target_meaning v (truth v cs most) (cs.stack n) (cs.logical n) (cs.element n))
    target_mentioned n (Local k) (e, i) =
        ap (λ m. seen (ref_outcome (scope v stack template exports) m)) e
        ∙ ap seen (plain_ref (scope v stack template exports) (cs.logical n) refl (each_at (λ m. has_colon (cs.logical m) ≡ false) n (p.parameters ++ p.resources) w.names i)) ∙ target_stands most n l i
    target_mentioned n (Import e) k = (refl, k)
    target_mentioned n (ImportList e) k = (refl, k)

    attribute_mentioned : (n : ℕ) (a : List ℕ) (o : Home) → TargetStands cs p.resources exports n o (attribute_meaning v (truth v cs most) (cs.stack n) (cs.logical n) a (cs.element n)) → AttributeKept (scope v stack template exports) a o (attribute_meaning v (truth v cs most) (cs.stack n) (cs.logical n) a (cs.element n))
    attribute_mentioned n a (Local k) (e, i) = (refl, ap (λ m. seen (attribute_outcome v stack template m a)) e ∙ attribute_stands most n a l i)
    attribute_mentioned n a (Import e) k = (refl, k)
    attribute_mentioned n a (ImportList e) k = (refl, k)

    pub mention_kept : (x : Mention) → MentionStands (source_of v cs most stack) cs p h exports x → MentionKept (source_of v cs most stack) h (scope v stack template exports) x
    mention_kept (to_target n) k = target_mentioned n (target n) k
    mention_kept (to_attribute n a) k = attribute_mentioned n a (attribute n a) k
    mention_kept (to_condition c) k = (refl, condition_stands most c l k)
    mention_kept (to_mapping m) k = mapping_stands m k
    mention_kept (to_import e) k = (refl, k)

pub stacks_keep_meaning : StacksKeepMeaning
stacks_keep_meaning v cs p target attribute entry stack template w exports most l e well k =
    agrees_seen (outcome (scope v stack template exports) (rendered (homes_of cs target attribute) e)) (meaning (source_of v cs most stack) e)
    (kept (source_of v cs most stack) (homes_of cs target attribute) (scope v stack template exports) (pseudos_kept v cs stack template most exports) e well
    (each_more (MentionStands (source_of v cs most stack) cs p (homes_of cs target attribute) exports) (MentionKept (source_of v cs most stack) (homes_of cs target attribute) (scope v stack template exports)) (mentions e) (λ x i m. mention_kept v cs p target attribute entry stack template w exports most l x m) k))
