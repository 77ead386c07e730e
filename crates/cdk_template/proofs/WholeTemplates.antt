-- The template of a stack whose values can be read back is whole, and unmarked where no marker is left.
use Rattle.std.proofs.Common.{◌≡◌, ◌<◌, ℕ, List, [], ◌∷◌, length, Bool, true, Option, Some, None, Greater, nat_cmp, codes, refl, sym, ap, arith, true≢false}
use Rattle.std.specs.List.{range_with_len}
use Rattle.std.specs.Cmp.Lexicographic.{slice_cmp}
use Rattle.serde_json.specs.Data.{Data, string, Members, no_members, put}
use Rattle.cdk_base.specs.Pretty.{AllAbove}
use Rattle.cdk_elements.specs.Kinds.{is_in, is_output, of_kind}
use Rattle.cdk_eval.specs.Form.{first_of}
use Rattle.cdk_eval.specs.declared.role.Role.{Role}
use Rattle.cdk_eval.specs.declared.role.Role.TheVariants.{AnyObject, Anything, Conditions, Mapping, Mappings, Output, Outputs, Parameter, Parameters, Resource, Resources, Template}
use Rattle.cdk_language.specs.Construct as language
use Rattle.cdk_language.specs.Construct.{Body}
use Rattle.cdk_template.specs.Laws.{HasWholeValue, HasWholeValues, TemplatesAreUnmarked, TemplatesAreWhole}
use Rattle.cdk_template.specs.Own.{spelling_of}
use Rattle.cdk_template.specs.Template.{Spelling, entry_in, entry_of, section_of, template_of}
use Rattle.cdk_entries.specs.Entries.{description_of}
use Rattle.cdk_entries.specs.Members.{non_empty, unless_empty}
use Rattle.cdk_template.proofs.EntryFits.{mapping_fit, output_fit, parameter_fit, resource_fit}
use Rattle.cdk_template.proofs.FitLemmas.{AreFit, HasMembers, IsFit, IsFitGiven, above_given, any_fit, any_object_fit, given_fit, no_members_fit, object_fit, put_fit, unless_empty_fit}
use Rattle.cdk_template.proofs.MarkerLemmas.{unmarked}
use Rattle.cdk_template.proofs.MemberLemmas.{conditions_in, described_in, mappings_in, outputs_in, parameters_in, resources_in}
use Rattle.cdk_template.proofs.NumberLemmas.{each_among, filled_keeps, range_below}
use Rattle.cdk_tree.specs.Expected.{is_condition, is_mapping, is_parameter, is_resource}
use Rattle.cdk_tree.specs.Placed.{Placed, construct_at}

-- ---- entries

resource_entry_fit : (s : Spelling) (n : ℕ) (path : List ℕ) (b : Body) → HasWholeValue s n b → is_resource b ≡ true → IsFit Resource 97 (entry_in s n path b)
resource_entry_fit s n path (language.resource r) whole is = resource_fit s n path r whole
resource_entry_fit s n path b whole is = absurd (true≢false (sym is))

parameter_entry_fit : (s : Spelling) (n : ℕ) (path : List ℕ) (b : Body) → HasWholeValue s n b → is_parameter b ≡ true → IsFit Parameter 97 (entry_in s n path b)
parameter_entry_fit s n path (language.parameter p) whole is = parameter_fit p
parameter_entry_fit s n path b whole is = absurd (true≢false (sym is))

condition_entry_fit : (s : Spelling) (n : ℕ) (path : List ℕ) (b : Body) → HasWholeValue s n b → is_condition b ≡ true → IsFit AnyObject 97 (entry_in s n path b)
condition_entry_fit s n path (language.condition_body c) whole is = any_object_fit 96 97 (s.condition n c) whole (omega arith)
condition_entry_fit s n path b whole is = absurd (true≢false (sym is))

mapping_entry_fit : (s : Spelling) (n : ℕ) (path : List ℕ) (b : Body) → HasWholeValue s n b → is_mapping b ≡ true → IsFit Mapping 97 (entry_in s n path b)
mapping_entry_fit s n path (language.mapping m) whole is = mapping_fit m whole
mapping_entry_fit s n path b whole is = absurd (true≢false (sym is))

output_entry_fit : (s : Spelling) (n : ℕ) (path : List ℕ) (b : Body) → HasWholeValue s n b → is_output b ≡ true → IsFit Output 97 (entry_in s n path b)
output_entry_fit s n path (language.output o) whole is = output_fit s n o whole
output_entry_fit s n path b whole is = absurd (true≢false (sym is))

-- ---- sections

-- whose entries all are of one role
section_fit : (role own : Role) → HasMembers role own → (kind : Body → Bool)
    → ((s : Spelling) (n : ℕ) (path : List ℕ) (b : Body) → HasWholeValue s n b → kind b ≡ true → IsFit own 97 (entry_in s n path b))
    → (cs : List Placed) (stack : ℕ) → HasWholeValues cs → AreFit role 97 (section_of cs (spelling_of cs) stack kind)
section_fit role own roles kind entries cs stack whole =
    let s = spelling_of cs in
    let entry : ℕ → Data = λ n. entry_of s n (construct_at cs n) in
    let Keeps : ℕ → Type 0 = λ n. (ms : Members) → AreFit role 97 ms → AreFit role 97 (put (s.logical n) (entry n) ms) in
    let keeps : (n : ℕ) → n < length cs → is_in stack (construct_at cs n).stack ≡ true → kind (construct_at cs n).body ≡ true → Keeps n =
    λ n within inside its ms fit. put_fit role own roles 97 (s.logical n) (entry n) ms (entries s n (construct_at cs n).path (construct_at cs n).body (whole.each n within) its) fit in
    let all = each_among Keeps (λ n. n < length cs) cs stack kind (range_with_len 0 (length cs)) keeps (range_below 0 (length cs) (length cs) (omega arith)) in
    filled_keeps (AreFit role 97) s.logical entry (of_kind cs stack kind) no_members all (no_members_fit role 97)

-- ---- the template

description_fit : (n : ℕ) (o : Option (List ℕ)) → IsFitGiven Anything n (non_empty o)
description_fit n None = tt
description_fit n (Some []) = tt
description_fit n (Some (c ∷ s)) = any_fit n (string (c ∷ s)) tt (omega arith)

module _ (c d m o p r : Option Data) where
  above_resources : (k : List ℕ) → slice_cmp nat_cmp (codes "Resources") k ≡ Greater → AllAbove k (resources_in c d m o p r)
  above_resources k e = above_given k (codes "Resources") r no_members e tt

  above_parameters : (k : List ℕ) → slice_cmp nat_cmp (codes "Resources") k ≡ Greater → slice_cmp nat_cmp (codes "Parameters") k ≡ Greater → AllAbove k (parameters_in c d m o p r)
  above_parameters k e f = above_given k (codes "Parameters") p (resources_in c d m o p r) f (above_resources k e)

  above_outputs : (k : List ℕ) → slice_cmp nat_cmp (codes "Resources") k ≡ Greater → slice_cmp nat_cmp (codes "Parameters") k ≡ Greater → slice_cmp nat_cmp (codes "Outputs") k ≡ Greater → AllAbove k (outputs_in c d m o p r)
  above_outputs k e f g = above_given k (codes "Outputs") o (parameters_in c d m o p r) g (above_parameters k e f)

  above_mappings : (k : List ℕ) → slice_cmp nat_cmp (codes "Resources") k ≡ Greater → slice_cmp nat_cmp (codes "Parameters") k ≡ Greater → slice_cmp nat_cmp (codes "Outputs") k ≡ Greater
      → slice_cmp nat_cmp (codes "Mappings") k ≡ Greater → AllAbove k (mappings_in c d m o p r)
  above_mappings k e f g h = above_given k (codes "Mappings") m (outputs_in c d m o p r) h (above_outputs k e f g)

  sections_fit : (n : ℕ) → IsFitGiven Conditions n c → IsFitGiven Anything n d → IsFitGiven Mappings n m → IsFitGiven Outputs n o → IsFitGiven Parameters n p → IsFitGiven Resources n r → AreFit Template n (conditions_in c d m o p r)
  sections_fit n c_fit d_fit m_fit o_fit p_fit r_fit =
      let resources = given_fit Template Resources n (codes "Resources") r no_members (λ x. refl) tt r_fit (no_members_fit Template n) in
      let parameters = given_fit Template Parameters n (codes "Parameters") p (resources_in c d m o p r) (λ x. refl) (above_resources (codes "Parameters") refl) p_fit resources in
      let outputs = given_fit Template Outputs n (codes "Outputs") o (parameters_in c d m o p r) (λ x. refl) (above_parameters (codes "Outputs") refl refl) o_fit parameters in
      let mappings = given_fit Template Mappings n (codes "Mappings") m (outputs_in c d m o p r) (λ x. refl) (above_outputs (codes "Mappings") refl refl refl) m_fit outputs in
      let described = given_fit Template Anything n (codes "Description") d (mappings_in c d m o p r) (λ x. refl) (above_mappings (codes "Description") refl refl refl refl) d_fit mappings in
      let above_all : AllAbove (codes "Conditions") (described_in c d m o p r) =
      above_given (codes "Conditions") (codes "Description") d (mappings_in c d m o p r) refl (above_mappings (codes "Conditions") refl refl refl refl) in
      given_fit Template Conditions n (codes "Conditions") c (described_in c d m o p r) (λ x. refl) above_all c_fit described

template_fit : (cs : List Placed) (stack : ℕ) → HasWholeValues cs → IsFit Template 99 (template_of cs (spelling_of cs) stack)
template_fit cs stack whole =
    let s = spelling_of cs in
    let conditions = section_fit Conditions AnyObject (λ k d. refl) is_condition condition_entry_fit cs stack whole in
    let mappings = section_fit Mappings Mapping (λ k d. refl) is_mapping mapping_entry_fit cs stack whole in
    let outputs = section_fit Outputs Output (λ k d. refl) is_output output_entry_fit cs stack whole in
    let parameters = section_fit Parameters Parameter (λ k d. refl) is_parameter parameter_entry_fit cs stack whole in
    let resources = section_fit Resources Resource (λ k d. refl) is_resource resource_entry_fit cs stack whole in
    let c = unless_empty (section_of cs s stack is_condition) in
    let d = non_empty (description_of (construct_at cs stack).body) in
    let m = unless_empty (section_of cs s stack is_mapping) in
    let o = unless_empty (section_of cs s stack is_output) in
    let p = unless_empty (section_of cs s stack is_parameter) in
    let r = unless_empty (section_of cs s stack is_resource) in
    let all = sections_fit c d m o p r 98 (unless_empty_fit Conditions 97 _ refl conditions) (description_fit 98 (description_of (construct_at cs stack).body)) (unless_empty_fit Mappings 97 _ refl mappings)
    (unless_empty_fit Outputs 97 _ refl outputs) (unless_empty_fit Parameters 97 _ refl parameters) (unless_empty_fit Resources 97 _ refl resources) in
    object_fit Template 98 (conditions_in c d m o p r) refl all

pub templates_are_whole : TemplatesAreWhole
templates_are_whole cs stack whole names is =
    let fit = template_fit cs stack whole in
    record { canonical = fit.canonical; shallow = omega (arith, fit.shallow); formed = ap first_of fit.formed }

pub templates_are_unmarked : TemplatesAreUnmarked
templates_are_unmarked cs stack markers is = unmarked cs stack markers is
