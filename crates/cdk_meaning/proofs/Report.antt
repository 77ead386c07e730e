-- What a stack comes to is what its constructs mean.
use Rattle.std.proofs.Common.{◌≡◌, ◌≤◌, ℕ, suc, List, ◌∷◌, ◌++◌, length, Bool, true, false, Option, Some, None, refl, sym, ap, ◌∙◌, subst, inl, inr}
use Rattle.std.proofs.lemmas.Map.Text.{is_eq-slice_cmp}
use Rattle.std.specs.Prelude.{codes, option_map, unwrap_or}
use Rattle.std.specs.Ordering.{nat_cmp, match_ordering, is_eq}
use Rattle.std.specs.Cmp.Lexicographic.{slice_cmp}
use Rattle.std.specs.declared.cmp.Ordering.{Ordering}
use Rattle.std.specs.declared.cmp.Ordering.TheVariants.{Less, Equal, Greater}
use Rattle.serde_json.specs.Data.{Data, null, boolean, number, string, array, object, Members, no_members, member}
use Rattle.serde_json.specs.Find.{get_member}
use Rattle.cdk_base.specs.Json.{text_of}
use Rattle.cdk_eval.specs.Values.{Values}
use Rattle.cdk_eval.specs.Outcomes.{Outcome, Value, Gone, Fault, Truth, Holds, Untold, OutputOutcome, OutputText, OutputNotMade, OutputFault}
use Rattle.cdk_eval.specs.Template.{Scope, outcome, each_member}
use Rattle.cdk_eval.specs.Conditions.{count}
use Rattle.cdk_eval.specs.Sections.{section, presence, scope}
use Rattle.cdk_eval.specs.Stack.{Stack, properties_of, resource_at, resource_outcomes, some_text, text_outcome, value_and_name, made_output, output_value, output_at, output_outcomes, stack_outcome}
use Rattle.cdk_eval.specs.Assembly.{literal_names}
use Rattle.cdk_plain.specs.Plain.{Fields, no_fields, field, FieldsAreWell}
use Rattle.cdk_meaning.specs.Mentions.{mentions, field_mentions}
use Rattle.cdk_meaning.specs.Source.{Meaning}
use Rattle.cdk_meaning.specs.Meaning.{text_in, meaning}
use Rattle.cdk_meaning.specs.Agreement.{seen, seen_truth}
use Rattle.cdk_plain.specs.Rendered.{Home, rendered, rendered_fields}
use Rattle.cdk_meaning.specs.Names.{AreDistinct, IsIn, Each}
use Rattle.cdk_meaning.specs.Constructs.{Constructs, Element, presence_of, truth, source_of}
use Rattle.cdk_meaning.specs.StackTemplate.{Parts, IsResourceEntry, homes_of, IsTemplateOf}
use Rattle.cdk_meaning.specs.AssemblyKept.{IsLiteralName, name_of, NamesAreLiteral, guard_in, exports_before, MentionIsThere}
use Rattle.cdk_meaning.specs.ReportKept.{AgreeAll, IsResourceTold, AreResourcesTold, ResourcesKeepMeaning, means_told, output_meaning, seen_output, OutputsKeepMeaning}
use Rattle.cdk_meaning.proofs.Collapse.{seen_agrees}
use Rattle.cdk_meaning.proofs.Joins.{bytes_same}
use Rattle.cdk_meaning.proofs.NameLists.{each_front, each_back}
use Rattle.cdk_meaning.proofs.Stack.{resource_found, resource_guard, resource_entry, presence_stands}
use Rattle.cdk_meaning.proofs.Assembly.{assemblies_keep_meaning}

-- the key that compares equal is the key
same_key : (k l : List ℕ) → slice_cmp nat_cmp k l ≡ Equal → k ≡ l
same_key k l h = bytes_same k l (sym (is_eq-slice_cmp k l) ∙ ap is_eq h)

-- ---- resources

module _ (there : Data → Truth) (s : Scope) where
  pub resource_in : (k : List ℕ) (e : Data) (ms : Members) → get_member k ms ≡ Some e → IsIn (resource_at (there e) s k e) (resource_outcomes there s ms)
  resource_in k e no_members h = cc
  resource_in k e (member l d ms) h = at (slice_cmp nat_cmp k l) refl h (resource_in k e ms)
    where
      at : (o : Ordering) → slice_cmp nat_cmp k l ≡ o → match_ordering o (get_member k ms) (Some d) (get_member k ms) ≡ Some e → (get_member k ms ≡ Some e → IsIn (resource_at (there e) s k e) (resource_outcomes there s ms)) → IsIn (resource_at (there e) s k e) (resource_at (there d) s l d ∷ resource_outcomes there s ms)
      at Less is g later = inr (later g)
      at Equal is g later = let same : d ≡ e = cc g in inl (ap (λ x. resource_at (there x) s l x) same ∙ ap (λ x. resource_at (there e) s x e) (sym (same_key k l is)))
      at Greater is g later = inr (later g)

  output_in : (k : List ℕ) (e : Data) (ms : Members) → get_member k ms ≡ Some e → IsIn (k, output_at (there e) s e) (output_outcomes there s ms)
  output_in k e no_members h = cc
  output_in k e (member l d ms) h = at (slice_cmp nat_cmp k l) refl h (output_in k e ms)
    where
      at : (o : Ordering) → slice_cmp nat_cmp k l ≡ o → match_ordering o (get_member k ms) (Some d) (get_member k ms) ≡ Some e → (get_member k ms ≡ Some e → IsIn (k, output_at (there e) s e) (output_outcomes there s ms)) → IsIn (k, output_at (there e) s e) ((l, output_at (there d) s d) ∷ output_outcomes there s ms)
      at Less is g later = inr (later g)
      at Equal is g later = let same : d ≡ e = cc g in inl (ap (λ x. (l, output_at (there x) s x)) same ∙ ap (λ x. (x, output_at (there e) s e)) (sym (same_key k l is)))
      at Greater is g later = inr (later g)

  pub resources_counted : (ms : Members) → length (resource_outcomes there s ms) ≡ count ms
  resources_counted no_members = refl
  resources_counted (member k e ms) = ap suc (resources_counted ms)

made_properties : (b : Truth) (ps : List (List ℕ × Outcome)) → seen_truth b ≡ Some true → properties_of b ps ≡ ps
made_properties (Holds true) ps h = refl
made_properties (Holds false) ps h = cc
made_properties (Untold f) ps h = cc

-- ---- outputs

seen_made_output : (b : Truth) (o : OutputOutcome) (p : Option Bool) (m : Meaning) → seen_truth b ≡ p → seen_output o ≡ means_told (text_in m) → seen_output (made_output b o) ≡ output_meaning p m
seen_made_output b o p m h g = at b h
  where
    at : (c : Truth) → seen_truth c ≡ p → seen_output (made_output c o) ≡ output_meaning p m
    at (Holds true) e = g ∙ ap (λ x. output_meaning x m) e
    at (Holds false) e = ap (λ x. output_meaning x m) e
    at (Untold f) e = ap (λ x. output_meaning x m) e

seen_some : (t : Option (List ℕ)) → seen_output (some_text t) ≡ means_told t
seen_some None = refl
seen_some (Some t) = refl

seen_text_outcome : (o : Outcome) → seen_output (text_outcome o) ≡ means_told (text_in (seen o))
seen_text_outcome (Value d) = seen_some (text_of d)
seen_text_outcome Gone = refl
seen_text_outcome (Fault f) = refl

-- a literal name is no fault
named_output : (s : Scope) (o : OutputOutcome) (x : Option Data) → IsLiteralName x → value_and_name o (option_map (λ n. text_outcome (outcome s n)) x) ≡ o
named_output s (OutputText t) None h = refl
named_output s OutputNotMade None h = refl
named_output s (OutputFault f) None h = refl
named_output s (OutputText t) (Some (string n)) h = refl
named_output s OutputNotMade (Some (string n)) h = refl
named_output s (OutputFault f) (Some (string n)) h = refl
named_output s o (Some null) h = absurd h
named_output s o (Some (boolean b)) h = absurd h
named_output s o (Some (number n)) h = absurd h
named_output s o (Some (array ds)) h = absurd h
named_output s o (Some (object ms)) h = absurd h

module _ (v : Values) (cs : Constructs) (most : ℕ) (before : List Stack) (s : Stack) (later : List Stack) (w : Each NamesAreLiteral before) (d : AreDistinct (literal_names before)) (p : Parts) (target : ℕ → Home) (attribute : ℕ → List ℕ → Home) (entry : ℕ → Data) (t : IsTemplateOf cs p (homes_of cs target attribute) entry s.name s.template) (l : length p.conditions ≤ most) where
  abbrev there : Data → Truth
  there = presence v s.name s.template

  abbrev place : Scope
  place = scope v s.name s.template (exports_before v before s later)

  properties_agree : (fs : Fields) → FieldsAreWell fs → Each (MentionIsThere cs most (source_of v cs most s.name) before (literal_names (before ++ s ∷ later)) p target attribute) (field_mentions fs) → AgreeAll (source_of v cs most s.name) fs (each_member place (rendered_fields (homes_of cs target attribute) fs))
  properties_agree no_fields f k = tt
  properties_agree (field n e fs) f k = (
    refl,
    assemblies_keep_meaning v cs most before s later w d p target attribute entry t l e f.1 (each_front (MentionIsThere cs most (source_of v cs most s.name) before (literal_names (before ++ s ∷ later)) p target attribute) (mentions e) (field_mentions fs) k),
    properties_agree fs f.2 (each_back (MentionIsThere cs most (source_of v cs most s.name) before (literal_names (before ++ s ∷ later)) p target attribute) (mentions e) (field_mentions fs) k),
  )

  resource_told : (n : ℕ) → IsIn n p.resources → (fs : Fields) → FieldsAreWell fs → section (codes "Properties") (entry n) ≡ rendered_fields (homes_of cs target attribute) fs
      → Each (MentionIsThere cs most (source_of v cs most s.name) before (literal_names (before ++ s ∷ later)) p target attribute) (field_mentions fs)
      → IsResourceTold (source_of v cs most s.name) (presence_of (truth v cs most) (guard_in (cs.element n))) fs (cs.logical n) (stack_outcome v (exports_before v before s later) s).resources
  resource_told n i fs f same k =
      let made = resource_presence n i in
      record {
        own = resource_at (there (entry n)) place (cs.logical n) (entry n);
        told = resource_in there place (cs.logical n) (entry n) (section (codes "Resources") s.template) (resource_found v cs p target attribute entry s.name s.template t n i);
        named = refl;
        made = made;
        properties = λ yes'. subst (AgreeAll (source_of v cs most s.name) fs) (sym (made_properties (there (entry n)) (each_member place (section (codes "Properties") (entry n))) (made ∙ yes') ∙ ap (each_member place) same)) (properties_agree fs f k);
      }
    where
      at : (el : Element) (e : Data) → IsResourceEntry (λ c. cs.logical c) p.conditions el e → seen_truth (there e) ≡ presence_of (truth v cs most) (guard_in el)
      at el e r = resource_guard v cs p target attribute entry s.name s.template t most el e l r

      resource_presence : (m : ℕ) → IsIn m p.resources → seen_truth (there (entry m)) ≡ presence_of (truth v cs most) (guard_in (cs.element m))
      resource_presence m j = at (cs.element m) (entry m) (resource_entry v cs p target attribute entry s.name s.template t m j)

  all_told : AreResourcesTold v cs most before s later p target attribute entry
  all_told = record {
    counted = resources_counted there place (section (codes "Resources") s.template) ∙ t.resources_stand.counted;
    each = resource_told;
  }

pub resources_keep_meaning : ResourcesKeepMeaning
resources_keep_meaning v cs most before s later w d p target attribute entry t l = all_told v cs most before s later w d p target attribute entry t l

pub outputs_keep_meaning : OutputsKeepMeaning
outputs_keep_meaning v cs most before s later w d p target attribute entry t l logical output guard e found guarded there_too named value well k =
    record {
      own = output_at (presence v s.name s.template output) (scope v s.name s.template (exports_before v before s later)) output;
      told = output_in (presence v s.name s.template) (scope v s.name s.template (exports_before v before s later)) logical output (section (codes "Outputs") s.template) found;
      means = seen_made_output (presence v s.name s.template output) _ (presence_of (truth v cs most) guard) (meaning (source_of v cs most s.name) e)
          (presence_stands v cs p target attribute entry s.name s.template t most guard output l guarded there_too)
          (ap seen_output (named_output (scope v s.name s.template (exports_before v before s later)) (output_value (scope v s.name s.template (exports_before v before s later)) output) (name_of output) named)
          ∙ ap (λ x. seen_output (text_outcome (outcome (scope v s.name s.template (exports_before v before s later)) (unwrap_or x null)))) value
          ∙ seen_text_outcome (outcome (scope v s.name s.template (exports_before v before s later)) (rendered (homes_of cs target attribute) e))
          ∙ ap (λ m. means_told (text_in m)) (seen_agrees (outcome (scope v s.name s.template (exports_before v before s later)) (rendered (homes_of cs target attribute) e)) (meaning (source_of v cs most s.name) e) (assemblies_keep_meaning v cs most before s later w d p target attribute entry t l e well k)));
    }
