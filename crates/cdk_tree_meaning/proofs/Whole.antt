-- What is rendered of the constructs of a checked tree can be read back, and nests no deeper than a template has room for.
use Rattle.std.proofs.Common.{◌≡◌, ◌<◌, ◌≤◌, ℕ, List, length, refl, sym, ap, ◌∙◌, subst, arith}
use Rattle.serde_json.specs.Data.{Data, null, boolean, number, string, array, object, Members, no_members, member, depth}
use Rattle.cdk_elements.specs.Elements.{own_condition, own_homes, own_value}
use Rattle.cdk_expansion.specs.Own.{value_in}
use Rattle.cdk_premises.proofs.FitConditions.{conditions_are_canonical, conditions_have_one_member}
use Rattle.cdk_premises.proofs.FitForms.{forms_are_canonical, properties_are_objects}
use Rattle.cdk_premises.proofs.FitMappings.{mappings_are_well}
use Rattle.cdk_language.specs.Condition.{Condition}
use Rattle.cdk_language.specs.Construct as language
use Rattle.cdk_language.specs.Construct.{Body, OutputBody, ResourceBody}
use Rattle.cdk_meaning.specs.StackTemplate.{EachMember, IsRow}
use Rattle.cdk_plain.specs.Plain.{Plain, list_of, object_of}
use Rattle.cdk_plain.specs.Rendered.{Homes, rendered, rendered_condition}
use Rattle.cdk_premises.specs.RenderedLaws.{BodyFits, ValuesFit}
use Rattle.cdk_premises.specs.Room.{room}
use Rattle.cdk_template.specs.Laws.{HasWholeValue, HasWholeValues, IsObject, IsWholeMapping, IsWholeObject, IsWholeValue}
use Rattle.cdk_template.specs.Own.{spelling_of}
use Rattle.cdk_entries.specs.Members.{members_of}
use Rattle.cdk_tree.specs.Placed.{Placed, construct_at}
use Rattle.cdk_tree_meaning.specs.Checked.{AreChecked}

room_at_most : (p : Plain) → room p ≤ 96
room_at_most (list_of ps) = omega arith
room_at_most (object_of fs) = omega arith
room_at_most p = omega arith

is_object : (d : Data) (ms : Members) → d ≡ object ms → IsObject d
is_object d ms e = e ∙ sym (ap (λ x. object (members_of x)) e)

row_is_object : (d : Data) → IsRow d → IsObject d
row_is_object (object ms) h = refl
row_is_object null h = absurd h
row_is_object (boolean b) h = absurd h
row_is_object (number n) h = absurd h
row_is_object (string s) h = absurd h
row_is_object (array ds) h = absurd h

rows_are_objects : (ms : Members) → EachMember IsRow ms → EachMember IsObject ms
rows_are_objects no_members h = tt
rows_are_objects (member k d ms) h = (row_is_object d h.0, rows_are_objects ms h.1)

module _ (values_fit : ValuesFit) (cs : List Placed) (c : AreChecked cs) where
  abbrev homes : Homes
  homes = own_homes cs

  fits : (n : ℕ) (b : Body) → (construct_at cs n).body ≡ b → BodyFits homes cs n b
  fits n b is = subst (BodyFits homes cs n) is (values_fit cs c.sound c.cycles c.sizes homes n)

  whole_properties : (n : ℕ) (r : ResourceBody) → n < length cs → (construct_at cs n).body ≡ language.resource r → IsWholeObject 94 (rendered homes (own_value cs n r.properties))
  whole_properties n r within is =
      let objects = properties_are_objects cs c.formed (length cs) n r within is in
      let shown = objects.1 homes in
      let low : depth (rendered homes (own_value cs n r.properties)) ≤ room (own_value cs n r.properties) = fits n (language.resource r) is in
      let most : room (own_value cs n r.properties) ≡ 94 = ap room (objects.0).1 in
      record {
        whole = record { canonical = forms_are_canonical cs c.sound c.formed (length cs) n r.properties within (ap value_in is) homes; shallow = omega (arith, low, most) };
        formed = is_object (rendered homes (own_value cs n r.properties)) shown.0 shown.1;
      }

  whole_output : (n : ℕ) (o : OutputBody) → n < length cs → (construct_at cs n).body ≡ language.output o → IsWholeValue 96 (rendered homes (own_value cs n o.value))
  whole_output n o within is =
      let low : depth (rendered homes (own_value cs n o.value)) ≤ room (own_value cs n o.value) = fits n (language.output o) is in
      let most = room_at_most (own_value cs n o.value) in
      record { canonical = forms_are_canonical cs c.sound c.formed (length cs) n o.value within (ap value_in is) homes; shallow = omega (arith, low, most) }

  whole_condition : (n : ℕ) (d : Condition) → n < length cs → (construct_at cs n).body ≡ language.condition_body d → IsWholeObject 96 (rendered_condition homes (own_condition cs n d))
  whole_condition n d within is =
      let low : depth (rendered_condition homes (own_condition cs n d)) ≤ 95 = fits n (language.condition_body d) is in
      let one = conditions_have_one_member homes (own_condition cs n d) in
      record {
        whole = record { canonical = conditions_are_canonical cs c.sound c.formed n d within is homes; shallow = omega (arith, low) };
        formed = is_object (rendered_condition homes (own_condition cs n d)) _ one.2;
      }

  whole_mapping : (n : ℕ) (m : Members) → n < length cs → (construct_at cs n).body ≡ language.mapping m → IsWholeMapping m
  whole_mapping n m within is =
      let well = mappings_are_well cs c.formed n m within is in
      let low = well.2 in
      record { whole = record { canonical = well.1; shallow = omega (arith, low) }; rows = rows_are_objects m well.0 }

  whole_body : (n : ℕ) (b : Body) → n < length cs → (construct_at cs n).body ≡ b → HasWholeValue (spelling_of cs) n b
  whole_body n (language.resource r) within is = whole_properties n r within is
  whole_body n (language.output o) within is = whole_output n o within is
  whole_body n (language.condition_body d) within is = whole_condition n d within is
  whole_body n (language.mapping m) within is = whole_mapping n m within is
  whole_body n b within is = tt

  pub values_are_whole : HasWholeValues cs
  values_are_whole = record { each = λ n within. whole_body n (construct_at cs n).body within refl }
