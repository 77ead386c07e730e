-- What stands in a template for a construct is formed as a template asks for.
use Rattle.std.proofs.Common.{◌≡◌, ◌≤◌, ℕ, List, [], ◌∷◌, ◌++◌, map, true, Option, Some, None, Greater, nat_cmp, codes, refl, sym, ap, ◌∙◌, subst, arith}
use Rattle.std.specs.Prelude.{◌&&◌, is_some, option_map}
use Rattle.std.specs.Cmp.Lexicographic.{slice_cmp}
use Rattle.serde_json.specs.Data.{Data, string, array, object, Members, no_members, member, depth, items_depth}
use Rattle.serde_json.specs.Find.{get_member}
use Rattle.cdk_base.specs.Pointer.{step_to}
use Rattle.cdk_base.specs.Pretty.{AllAbove, IsCanonical, ItemsAreCanonical}
use Rattle.cdk_eval.specs.Form.{fits, in_members, inside, place}
use Rattle.cdk_eval.specs.declared.role.Role.TheVariants.{AnyObject, Anything, AnyText, Export, Mapping, Output, Parameter, ParameterDefault, Resource}
use Rattle.cdk_language.specs.Construct.{OutputBody, ParameterBody, ResourceBody}
use Rattle.cdk_language.specs.declared.construct.Policy.{Policy}
use Rattle.cdk_meaning.specs.StackTemplate.{EachMember}
use Rattle.cdk_template.specs.Laws.{IsObject, IsWholeMapping, IsWholeObject, IsWholeValue}
use Rattle.cdk_template.specs.Template.{Spelling, output_entry, resource_entry}
use Rattle.cdk_entries.specs.Entries.{export_name, form_name, parameter_entry, path_metadata, policy_name}
use Rattle.cdk_entries.specs.Members.{if_given, members_of, texts, unless_empty, unless_none}
use Rattle.cdk_template.proofs.FitLemmas.{AreFit, IsFit, IsFitGiven, above_given, any_fit, any_object, given_fit, member_fit, no_members_fit, object_fit, text_fit, unless_empty_fit}
use Rattle.cdk_template.proofs.SectionLemmas.{passed_given}

-- ---- parts of entries

policy_fit : (n : ℕ) (o : Option Policy) → IsFitGiven Anything n (option_map (λ p. string (policy_name p)) o)
policy_fit n None = tt
policy_fit n (Some p) = any_fit n (string (policy_name p)) tt (omega arith)

text_given_fit : (n : ℕ) (o : Option (List ℕ)) → IsFitGiven Anything n (option_map string o)
text_given_fit n None = tt
text_given_fit n (Some t) = any_fit n (string t) tt (omega arith)

-- the name of a condition
condition_fit : (s : Spelling) (n : ℕ) (o : Option (List ℕ)) → IsFitGiven AnyText n (option_map (λ t. string (s.named t)) o)
condition_fit s n None = tt
condition_fit s n (Some t) = text_fit n (s.named t)

metadata_fit : (n : ℕ) (path : List ℕ) → 1 ≤ n → IsFit Anything n (path_metadata path)
metadata_fit n path h = any_fit n (path_metadata path) (tt, (tt, tt)) (omega (arith, h))

texts_are_canonical : (ts : List (List ℕ)) → ItemsAreCanonical (texts ts)
texts_are_canonical [] = tt
texts_are_canonical (t ∷ ts) = (tt, texts_are_canonical ts)

texts_are_flat : (ts : List (List ℕ)) → items_depth (texts ts) ≤ 0
texts_are_flat [] = omega arith
texts_are_flat (t ∷ ts) = let rest = texts_are_flat ts in omega (arith, rest)

depends_fit : (n : ℕ) (ts : List (List ℕ)) → 1 ≤ n → IsFitGiven Anything n (unless_none ts)
depends_fit n [] h = tt
depends_fit n (t ∷ ts) h = let flat = texts_are_flat (t ∷ ts) in any_fit n (array (texts (t ∷ ts))) (texts_are_canonical (t ∷ ts)) (omega (arith, flat, h))

properties_fit : (d : Data) → IsWholeObject 94 d → IsFitGiven AnyObject 96 (unless_empty (members_of d))
properties_fit d w =
    let ms = members_of d in
    let deep : depth (object ms) ≤ 94 = omega (arith, w.whole.shallow, ap depth w.formed) in
    let canonical : IsCanonical (object ms) = subst IsCanonical w.formed w.whole.canonical in
    let fit : AreFit AnyObject 95 ms = record { canonical = canonical; shallow = omega (arith, deep); formed = any_object ms } in
    unless_empty_fit AnyObject 95 ms refl fit

export_fit : (n : ℕ) (t : List ℕ) → 1 ≤ n → IsFit Export n (export_name t)
export_fit n t h = record { canonical = (tt, (tt, tt)); shallow = omega (arith, h); formed = refl }

export_given_fit : (n : ℕ) (o : Option (List ℕ)) → 1 ≤ n → IsFitGiven Export n (option_map export_name o)
export_given_fit n None h = tt
export_given_fit n (Some t) h = export_fit n t h

default_fit : (n : ℕ) (o : Option (List ℕ)) → IsFitGiven ParameterDefault n (option_map string o)
default_fit n None = tt
default_fit n (Some t) = record { canonical = tt; shallow = omega arith; formed = refl }

-- ---- entries

module _ (c d w p u : Option Data) (m t : Data) where
  abbrev last_members : Members
  last_members = if_given (codes "UpdateReplacePolicy") u no_members

  abbrev typed_members : Members
  typed_members = member (codes "Type") t last_members

  abbrev owned_members : Members
  owned_members = if_given (codes "Properties") p typed_members

  abbrev told_members : Members
  told_members = member (codes "Metadata") m owned_members

  abbrev waiting_members : Members
  waiting_members = if_given (codes "DependsOn") w told_members

  abbrev kept_members : Members
  kept_members = if_given (codes "DeletionPolicy") d waiting_members

  abbrev all_members : Members
  all_members = if_given (codes "Condition") c kept_members

  above_last : (k : List ℕ) → slice_cmp nat_cmp (codes "UpdateReplacePolicy") k ≡ Greater → AllAbove k last_members
  above_last k e = above_given k (codes "UpdateReplacePolicy") u no_members e tt

  above_owned : (k : List ℕ) → slice_cmp nat_cmp (codes "UpdateReplacePolicy") k ≡ Greater → slice_cmp nat_cmp (codes "Type") k ≡ Greater → slice_cmp nat_cmp (codes "Properties") k ≡ Greater → AllAbove k owned_members
  above_owned k e f g = above_given k (codes "Properties") p typed_members g (f, above_last k e)

  above_waiting : (k : List ℕ) → slice_cmp nat_cmp (codes "UpdateReplacePolicy") k ≡ Greater → slice_cmp nat_cmp (codes "Type") k ≡ Greater → slice_cmp nat_cmp (codes "Properties") k ≡ Greater
      → slice_cmp nat_cmp (codes "Metadata") k ≡ Greater → slice_cmp nat_cmp (codes "DependsOn") k ≡ Greater → AllAbove k waiting_members
  above_waiting k e f g h i = above_given k (codes "DependsOn") w told_members i (h, above_owned k e f g)

  has_type : fits Resource (object all_members) ≡ true
  has_type =
      let found : get_member (codes "Type") all_members ≡ Some t =
      passed_given (codes "Type") (codes "Condition") c kept_members refl ∙ passed_given (codes "Type") (codes "DeletionPolicy") d waiting_members refl ∙ passed_given (codes "Type") (codes "DependsOn") w told_members refl
      ∙ passed_given (codes "Type") (codes "Properties") p typed_members refl in
      ap (λ o. is_some o && true) found

  all_fit : (n : ℕ) → IsFitGiven AnyText n c → IsFitGiven Anything n d → IsFitGiven Anything n w → IsFit Anything n m → IsFitGiven AnyObject n p → IsFit AnyText n t → IsFitGiven Anything n u → AreFit Resource n all_members
  all_fit n c_fit d_fit w_fit m_fit p_fit t_fit u_fit =
      let last = given_fit Resource Anything n (codes "UpdateReplacePolicy") u no_members (λ x. refl) tt u_fit (no_members_fit Resource n) in
      let typed = member_fit Resource AnyText n (codes "Type") t last_members refl (above_last (codes "Type") refl) t_fit last in
      let owned = given_fit Resource AnyObject n (codes "Properties") p typed_members (λ x. refl) (refl, above_last (codes "Properties") refl) p_fit typed in
      let told = member_fit Resource Anything n (codes "Metadata") m owned_members refl (above_owned (codes "Metadata") refl refl refl) m_fit owned in
      let waiting = given_fit Resource Anything n (codes "DependsOn") w told_members (λ x. refl) (refl, above_owned (codes "DependsOn") refl refl refl) w_fit told in
      let kept = given_fit Resource Anything n (codes "DeletionPolicy") d waiting_members (λ x. refl) (above_waiting (codes "DeletionPolicy") refl refl refl refl refl) d_fit waiting in
      let above_all : AllAbove (codes "Condition") kept_members = above_given (codes "Condition") (codes "DeletionPolicy") d waiting_members refl (above_waiting (codes "Condition") refl refl refl refl refl) in
      given_fit Resource AnyText n (codes "Condition") c kept_members (λ x. refl) above_all c_fit kept

pub resource_fit : (s : Spelling) (n : ℕ) (path : List ℕ) (r : ResourceBody) → IsWholeObject 94 (s.value n r.properties) → IsFit Resource 97 (resource_entry s n path r)
resource_fit s n path r whole =
    let c = option_map (λ t. string (s.named t)) r.condition in
    let d = option_map (λ p. string (policy_name p)) r.deletion in
    let w = unless_none (s.depends_on n) in
    let p = unless_empty (members_of (s.value n r.properties)) in
    let u = option_map (λ p. string (policy_name p)) r.replace in
    let m = path_metadata path in
    let t = string r.resource_type in
    let fit = all_fit c d w p u m t 96 (condition_fit s 96 r.condition) (policy_fit 96 r.deletion) (depends_fit 96 (s.depends_on n) (omega arith)) (metadata_fit 96 path (omega arith)) (properties_fit (s.value n r.properties) whole)
    (text_fit 96 r.resource_type) (policy_fit 96 r.replace) in
    object_fit Resource 96 (all_members c d w p u m t) (has_type c d w p u m t) fit

module _ (d e : Option Data) (t : Data) where
  abbrev described_members : Members
  described_members = if_given (codes "Description") e (member (codes "Type") t no_members)

  parameter_has_type : fits Parameter (object (if_given (codes "Default") d described_members)) ≡ true
  parameter_has_type =
      let found : get_member (codes "Type") (if_given (codes "Default") d described_members) ≡ Some t =
      passed_given (codes "Type") (codes "Default") d described_members refl ∙ passed_given (codes "Type") (codes "Description") e (member (codes "Type") t no_members) refl in
      ap (λ o. is_some o && true) found

  parameter_members_fit : (n : ℕ) → IsFitGiven ParameterDefault n d → IsFitGiven Anything n e → IsFit AnyText n t → AreFit Parameter n (if_given (codes "Default") d described_members)
  parameter_members_fit n d_fit e_fit t_fit =
      let typed = member_fit Parameter AnyText n (codes "Type") t no_members refl tt t_fit (no_members_fit Parameter n) in
      let described = given_fit Parameter Anything n (codes "Description") e (member (codes "Type") t no_members) (λ x. refl) (refl, tt) e_fit typed in
      given_fit Parameter ParameterDefault n (codes "Default") d described_members (λ x. refl) (above_given (codes "Default") (codes "Description") e (member (codes "Type") t no_members) refl (refl, tt)) d_fit described

pub parameter_fit : (p : ParameterBody) → IsFit Parameter 97 (parameter_entry p)
parameter_fit p =
    let d = option_map string p.default in
    let e = option_map string p.description in
    let t = string (form_name p.form) in
    object_fit Parameter 96 (if_given (codes "Default") d (described_members d e t)) (parameter_has_type d e t) (parameter_members_fit d e t 96 (default_fit 96 p.default) (text_given_fit 96 p.description) (text_fit 96 (form_name p.form)))

module _ (c d e : Option Data) (v : Data) where
  abbrev valued_members : Members
  valued_members = member (codes "Value") v no_members

  abbrev exported_members : Members
  exported_members = if_given (codes "Export") e valued_members

  abbrev outlined_members : Members
  outlined_members = if_given (codes "Description") d exported_members

  has_value : fits Output (object (if_given (codes "Condition") c outlined_members)) ≡ true
  has_value =
      let found : get_member (codes "Value") (if_given (codes "Condition") c outlined_members) ≡ Some v =
      passed_given (codes "Value") (codes "Condition") c outlined_members refl ∙ passed_given (codes "Value") (codes "Description") d exported_members refl ∙ passed_given (codes "Value") (codes "Export") e valued_members refl in
      ap (λ o. is_some o && true) found

  above_exported : (k : List ℕ) → slice_cmp nat_cmp (codes "Value") k ≡ Greater → slice_cmp nat_cmp (codes "Export") k ≡ Greater → AllAbove k exported_members
  above_exported k f g = above_given k (codes "Export") e valued_members g (f, tt)

  output_members_fit : (n : ℕ) → IsFitGiven AnyText n c → IsFitGiven Anything n d → IsFitGiven Export n e → IsFit Anything n v → AreFit Output n (if_given (codes "Condition") c outlined_members)
  output_members_fit n c_fit d_fit e_fit v_fit =
      let valued = member_fit Output Anything n (codes "Value") v no_members refl tt v_fit (no_members_fit Output n) in
      let exported = given_fit Output Export n (codes "Export") e valued_members (λ x. refl) (refl, tt) e_fit valued in
      let outlined = given_fit Output Anything n (codes "Description") d exported_members (λ x. refl) (above_exported (codes "Description") refl refl) d_fit exported in
      let above_all : AllAbove (codes "Condition") outlined_members = above_given (codes "Condition") (codes "Description") d exported_members refl (above_exported (codes "Condition") refl refl) in
      given_fit Output AnyText n (codes "Condition") c outlined_members (λ x. refl) above_all c_fit outlined

pub output_fit : (s : Spelling) (n : ℕ) (o : OutputBody) → IsWholeValue 96 (s.value n o.value) → IsFit Output 97 (output_entry s n o)
output_fit s n o whole =
    let c = option_map (λ t. string (s.named t)) o.condition in
    let d = option_map string o.description in
    let e = option_map export_name o.export in
    let v = s.value n o.value in
    let v_fit = any_fit 96 v whole.canonical whole.shallow in
    let fit = output_members_fit c d e v 96 (condition_fit s 96 o.condition) (text_given_fit 96 o.description) (export_given_fit 96 o.export (omega arith)) v_fit in
    object_fit Output 96 (if_given (codes "Condition") c (outlined_members c d e v)) (has_value c d e v) fit

-- ---- mappings

row_formed : (d : Data) → IsObject d → place AnyObject d (inside AnyObject d) ≡ []
row_formed d is = subst (λ x. place AnyObject x (inside AnyObject x) ≡ []) (sym is) (any_object (members_of d))

rows_formed : (ms : Members) → EachMember IsObject ms → in_members Mapping ms ≡ []
rows_formed no_members rows = refl
rows_formed (member k d ms) rows = ap (λ x. map (step_to k) x ++ in_members Mapping ms) (row_formed d rows.0) ∙ rows_formed ms rows.1

pub mapping_fit : (ms : Members) → IsWholeMapping ms → IsFit Mapping 97 (object ms)
mapping_fit ms w = record { canonical = w.whole.canonical; shallow = omega (arith, w.whole.shallow); formed = rows_formed ms w.rows }
