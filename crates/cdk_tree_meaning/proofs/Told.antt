-- What the stacks of a checked tree come to is what its constructs mean.
use Rattle.std.proofs.Common.{◌≡◌, ◌<◌, ◌≤◌, ℕ, suc, List, [], ◌∷◌, length, map, Bool, true, Some, refl, sym, ap, ◌∙◌, subst, arith, true≢false, inl, inr}
use Rattle.std.specs.Prelude.{codes, option_and_then}
use Rattle.serde_json.specs.Data.{Data, Members, no_members, member}
use Rattle.cdk_elements.specs.Elements.{constructs_in, element_of, logical_of, own_homes, own_value, parts_of}
use Rattle.cdk_elements.specs.Kinds.{is_output, of_kind, stacks_of}
use Rattle.cdk_elements.specs.OneStack.{is_alone_body}
use Rattle.cdk_eval.specs.Assembly.{assembly_outcome, literal_names, outside_exports}
use Rattle.cdk_eval.specs.Conditions.{count}
use Rattle.cdk_eval.specs.Outcomes.{Truth}
use Rattle.cdk_eval.specs.Sections.{presence, scope, section}
use Rattle.cdk_eval.specs.Stack.{Stack, StackOutcome, output_outcomes, stack_outcome}
use Rattle.cdk_eval.specs.Template.{Scope}
use Rattle.cdk_eval.specs.Values.{Values}
use Rattle.cdk_expansion.specs.Own.{value_in}
use Rattle.cdk_premises.proofs.FitForms.{forms_are_well, properties_are_objects}
use Rattle.cdk_language.specs.Construct as language
use Rattle.cdk_language.specs.Construct.{Body, OutputBody, ResourceBody}
use Rattle.cdk_language.specs.Expression.{Expression}
use Rattle.cdk_meaning.specs.AssemblyKept.{IsLiteralName, MentionIsThere, guard_in}
use Rattle.cdk_meaning.specs.Constructs.{presence_of, truth}
use Rattle.cdk_meaning.specs.Mentions.{Mention, mentions}
use Rattle.cdk_meaning.specs.Names.{Each, IsIn}
use Rattle.cdk_meaning.specs.ReportKept.{AreResourcesTold, IsOutputTold, IsResourceTold}
use Rattle.cdk_meaning.specs.Sections.{IsSection}
use Rattle.cdk_meaning.specs.StackTemplate.{IsTemplateOf}
use Rattle.cdk_meaning.proofs.NameLists.{each_more}
use Rattle.cdk_meaning.proofs.Report.{outputs_keep_meaning, resources_keep_meaning}
use Rattle.cdk_premises.specs.MentionsLaws.{ConditionsAreFree, IsGuarded, guard_of}
use Rattle.cdk_premises.proofs.GuardTargets.{guards_are_conditions}
use Rattle.cdk_premises.proofs.ValueMentions.{values_mention_theirs}
use Rattle.cdk_plain.specs.Plain.{Fields, IsWell, Plain, object_of}
use Rattle.cdk_plain.specs.Rendered.{Home, Local, rendered, rendered_fields}
use Rattle.cdk_template.specs.Own.{spelling_of}
use Rattle.cdk_template.specs.Template.{entry_in, output_entry, resource_entry}
use Rattle.cdk_entries.specs.Members.{members_of}
use Rattle.cdk_template.proofs.SectionLemmas.{is_section, its_value, output_condition, outputs_are_elements, own_outputs, own_properties}
use Rattle.cdk_tree.specs.Expected.{is_resource}
use Rattle.cdk_tree.specs.Placed.{Placed, construct_at, find_path}
use Rattle.cdk_tree_meaning.specs.Checked.{AreChecked}
use Rattle.cdk_tree_meaning.specs.Law.{evaluated}
use Rattle.cdk_tree_meaning.specs.TreeMeaning.{AgreesWithTree, IsStackTold, IsToldAs, condition_count, fields_in, output_meaning_of, source_in}
use Rattle.cdk_tree_meaning.proofs.Built.{entry_at, template_is_built}
use Rattle.cdk_tree_meaning.proofs.Entries.{guard_named}
use Rattle.cdk_tree_meaning.proofs.Exports.{alone_body, nothing_exported, output_names_nothing}
use Rattle.cdk_tree_meaning.proofs.Trees.{each_of_kind, one_tree}

as_fields : (p : Plain) (fs : Fields) → p ≡ object_of fs → p ≡ object_of (fields_in p)
as_fields p fs e = e ∙ sym (ap (λ q. object_of (fields_in q)) e)

outputs_counted : (there : Data → Truth) (s : Scope) (ms : Members) → length (output_outcomes there s ms) ≡ count ms
outputs_counted there s no_members = refl
outputs_counted there s (member k e ms) = ap suc (outputs_counted there s ms)

-- each is among those that are picked
each_in : {A : Type 0} → (xs : List A) → Each (λ a. IsIn a xs) xs
each_in [] = tt
each_in (x ∷ xs) = (inl refl, each_more (λ a. IsIn a xs) (λ a. IsIn a (x ∷ xs)) xs (λ a i j. inr j) (each_in xs))

module _ (free : ConditionsAreFree) (v : Values) (cs : List Placed) (c : AreChecked cs) (stack : ℕ) (there : IsIn stack (stacks_of cs)) where
  abbrev own : Stack
  own = evaluated cs stack

  abbrev most : ℕ
  most = condition_count cs stack

  abbrev target : ℕ → Home
  target n = Local (logical_of cs n)

  abbrev attribute : ℕ → List ℕ → Home
  attribute n a = Local (logical_of cs n)

  abbrev came : StackOutcome
  came = stack_outcome v (outside_exports v (own ∷ [])) own

  built : IsTemplateOf (constructs_in cs) (parts_of cs stack) (own_homes cs) (entry_at cs) own.name own.template
  built = template_is_built free cs c stack there

  few : length (parts_of cs stack).conditions ≤ most
  few = omega arith

  -- ---- values

  abbrev IsThere : Mention → Type 0
  IsThere = MentionIsThere (constructs_in cs) most (source_in v cs stack) [] (literal_names (own ∷ [])) (parts_of cs stack) target attribute

  theirs : (n : ℕ) (e : Expression) → n < length cs → value_in (construct_at cs n).body ≡ Some e → Each IsThere (mentions (own_value cs n e))
  theirs n e within is = values_mention_theirs cs stack (one_tree cs stack c there) most (source_in v cs stack) (literal_names (own ∷ [])) (nothing_exported cs c.one stack) (length cs) n e within is

  well : (n : ℕ) (e : Expression) → n < length cs → value_in (construct_at cs n).body ≡ Some e → IsWell (own_value cs n e)
  well n e within is = (forms_are_well cs c.sound c.formed (length cs) n e within is).0

  guarded : (n : ℕ) (b : Body) → n < length cs → (construct_at cs n).body ≡ b → IsGuarded cs stack (guard_of b)
  guarded n b within is = subst (λ b. IsGuarded cs stack (guard_of b)) is (guards_are_conditions cs stack (one_tree cs stack c there) n within)

  -- ---- resources

  all : AreResourcesTold v (constructs_in cs) most [] own [] (parts_of cs stack) target attribute (entry_at cs)
  all = resources_keep_meaning v (constructs_in cs) most [] own [] tt tt (parts_of cs stack) target attribute (entry_at cs) built few

  resource_told : (n : ℕ) (r : ResourceBody) → n < length cs → (construct_at cs n).body ≡ language.resource r → IsIn n (of_kind cs stack is_resource) → IsToldAs v cs stack n (language.resource r) came
  resource_told n r within is i =
      let p = own_value cs n r.properties in
      let fs = fields_in p in
      let shape : p ≡ object_of fs = (let objects = (properties_are_objects cs c.formed (length cs) n r within is).0 in as_fields p objects.0 objects.1) in
      let entry : entry_at cs n ≡ resource_entry (spelling_of cs) n (construct_at cs n).path r = ap (entry_in (spelling_of cs) n (construct_at cs n).path) is in
      let same : section (codes "Properties") (entry_at cs n) ≡ rendered_fields (own_homes cs) fs =
      ap (section (codes "Properties")) entry ∙ own_properties (spelling_of cs) n (construct_at cs n).path r ∙ ap (λ q. members_of (rendered (own_homes cs) q)) shape in
      let Told : Body → Type 0 = λ b. IsResourceTold (source_in v cs stack) (presence_of (truth v (constructs_in cs) most) (guard_in (element_of cs n b))) fs ((constructs_in cs).logical n) came.resources in
      subst Told is (all.each n i fs (subst IsWell shape (well n r.properties within (ap value_in is))) same (subst (λ q. Each IsThere (mentions q)) shape (theirs n r.properties within (ap value_in is))))

  told_as : (n : ℕ) (b : Body) → n < length cs → (construct_at cs n).body ≡ b → is_resource b ≡ true → IsIn n (of_kind cs stack is_resource) → IsToldAs v cs stack n b came
  told_as n (language.resource r) within is kind i = resource_told n r within is i
  told_as n b within is kind i = absurd (true≢false (sym kind))

  -- ---- outputs

  outputs_stand : IsSection (λ n. logical_of cs n) (entry_at cs) (of_kind cs stack is_output) (section (codes "Outputs") own.template)
  outputs_stand = subst (IsSection (λ n. logical_of cs n) (entry_at cs) (of_kind cs stack is_output)) (sym (own_outputs cs stack)) (is_section cs stack is_output outputs_are_elements c.named)

  output_told : (n : ℕ) (o : OutputBody) → n < length cs → (construct_at cs n).body ≡ language.output o → IsIn n (of_kind cs stack is_output)
      → IsOutputTold (output_meaning_of v cs stack n (language.output o)) ((constructs_in cs).logical n) came.outputs
  output_told n o within is i =
      let entry : entry_at cs n ≡ output_entry (spelling_of cs) n o = ap (entry_in (spelling_of cs) n (construct_at cs n).path) is in
      let guard = guarded n (language.output o) within is in
      let alone = output_names_nothing (spelling_of cs) n o (ap is_alone_body (sym is) ∙ alone_body cs c.one n within) in
      outputs_keep_meaning v (constructs_in cs) most [] own [] tt tt (parts_of cs stack) target attribute (entry_at cs) built few
      (logical_of cs n) (output_entry (spelling_of cs) n o) (option_and_then (find_path cs) o.condition) (own_value cs n o.value)
      (outputs_stand.found n i ∙ ap Some entry)
      (output_condition (spelling_of cs) n o ∙ guard_named cs o.condition guard.found)
      guard.there
      (subst IsLiteralName (sym alone) tt)
      (its_value (spelling_of cs) n o)
      (well n o.value within (ap value_in is))
      (theirs n o.value within (ap value_in is))

  output_told_as : (n : ℕ) (b : Body) → n < length cs → (construct_at cs n).body ≡ b → is_output b ≡ true → IsIn n (of_kind cs stack is_output)
      → IsOutputTold (output_meaning_of v cs stack n b) ((constructs_in cs).logical n) came.outputs
  output_told_as n (language.output o) within is kind i = output_told n o within is i
  output_told_as n b within is kind i = absurd (true≢false (sym kind))

  -- ---- the stack

  -- what is needed of each of a kind
  record IsOwn (kind : Body → Bool) (n : ℕ) : Type 0 where
    pub within : n < length cs
    pub kind_is : kind (construct_at cs n).body ≡ true

  each_own : (kind : Body → Bool) → Each (IsOwn kind) (of_kind cs stack kind)
  each_own kind = each_of_kind cs stack kind (IsOwn kind) (λ n within is. record { within = within; kind_is = is })

  pub stack_told : IsStackTold v cs (came ∷ []) stack
  stack_told = record {
    own = came;
    told = inl refl;
    named = refl;
    counted = all.counted;
    resources = each_more (IsOwn is_resource) (λ n. IsToldAs v cs stack n (construct_at cs n).body came) (of_kind cs stack is_resource) (λ n i o. told_as n (construct_at cs n).body o.within refl o.kind_is i) (each_own is_resource);
    outputs_counted = outputs_counted (presence v own.name own.template) (scope v own.name own.template (outside_exports v (own ∷ []))) (section (codes "Outputs") own.template) ∙ outputs_stand.counted;
    outputs = each_more (IsOwn is_output) (λ n. IsOutputTold (output_meaning_of v cs stack n (construct_at cs n).body) ((constructs_in cs).logical n) came.outputs) (of_kind cs stack is_output) (λ n i o. output_told_as n (construct_at cs n).body o.within refl o.kind_is i) (each_own is_output);
  }

-- at most one stack
module _ (free : ConditionsAreFree) (v : Values) (cs : List Placed) (c : AreChecked cs) where
  abbrev Agrees : List ℕ → Type 0
  Agrees ns = (length (assembly_outcome v (map (evaluated cs) ns)) ≡ length ns) × Each (IsStackTold v cs (assembly_outcome v (map (evaluated cs) ns))) ns

  agrees : (ns : List ℕ) → ((n : ℕ) → IsIn n ns → IsIn n (stacks_of cs)) → length ns ≤ 1 → Agrees ns
  agrees [] theirs few = (refl, tt)
  agrees (n ∷ []) theirs few = (refl, (stack_told free v cs c n (theirs n (inl refl)), tt))
  agrees (n ∷ m ∷ ns) theirs few = absurd (omega (arith, few))

  pub tree_agrees : AgreesWithTree v cs (assembly_outcome v (map (evaluated cs) (stacks_of cs)))
  tree_agrees = let both = agrees (stacks_of cs) (λ n i. i) c.one.few in record { counted = both.0; each = both.1 }
