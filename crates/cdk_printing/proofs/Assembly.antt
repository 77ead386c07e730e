-- What an assembly comes to is printable.
use Rattle.std.specs.Prelude.{◌≡◌, ℕ, List, [], ◌∷◌, Bool, true, false, Option, Some, None, if◌then◌else◌, option_and_then, codes, refl}
use Rattle.std.specs.Option.{option_or}
use Rattle.serde_json.specs.Data.{Num, unsigned, negative, float, Data, null, boolean, number, string, array, object, Members, no_members, member}
use Rattle.serde_json.specs.Find.{get, get_member}
use Rattle.serde_json.specs.Written.{number_text}
use Rattle.cdk_base.specs.Json.{is_whole, text_of}
use Rattle.cdk_eval.specs.Values.{Values, physical_text, attribute_text}
use Rattle.cdk_eval.specs.Outcomes.{Outcome, Truth, Holds, Untold}
use Rattle.cdk_eval.specs.Texts.{cut}
use Rattle.cdk_eval.specs.Template.{Scope, each_member}
use Rattle.cdk_eval.specs.Sections.{section, scope, leaf_value, literal_or_bad, is_list_type, parameter_value, parameter_else, made_text, presence, resource_outcome}
use Rattle.cdk_eval.specs.Stack.{Stack, properties_of, resource_outcomes, stack_scope, exports_after}
use Rattle.cdk_eval.specs.Assembly.{stack_outcomes, outside_exports, assembly_outcome}
use Rattle.cdk_printing.specs.Printable.{OutcomeIsPrintable, PropertiesArePrintable, ResourcesArePrintable, IsPrintable}
use Rattle.cdk_printing.proofs.Floatless.{IsFloatless, cut-floatless, trimmed-floatless, each_member-floatless}

-- ---- what names stand for

of_whole : (n : Num) (b : Bool) → is_whole n ≡ b → OutcomeIsPrintable (literal_or_bad (number n) (if b then Some (number_text n) else None))
of_whole (unsigned n) true e = refl
of_whole (negative z) true e = refl
of_whole (float x) true e = cc
of_whole n false e = tt

of_leaf : (o : Option Data) → OutcomeIsPrintable (leaf_value o)
of_leaf None = tt
of_leaf (Some null) = tt
of_leaf (Some (boolean b)) = refl
of_leaf (Some (number n)) = of_whole n (is_whole n) refl
of_leaf (Some (string t)) = refl
of_leaf (Some (array ds)) = tt
of_leaf (Some (object ms)) = tt

of_parameter : (b : Bool) (o : Option (List ℕ)) → OutcomeIsPrintable (parameter_value b o)
of_parameter b None = tt
of_parameter true (Some t) = trimmed-floatless (cut (codes ",") 0 [] t) (cut-floatless (codes ",") 0 [] t)
of_parameter false (Some t) = refl

of_parameter_else : (given : Option (List ℕ)) (o : Outcome) (e : Option Data) → OutcomeIsPrintable o → OutcomeIsPrintable (parameter_else given o e)
of_parameter_else given o None p = p
of_parameter_else given o (Some e) p = of_parameter (is_list_type (get (codes "Type") e)) (option_or given (option_and_then text_of (get (codes "Default") e)))

of_made : (there : Truth) (t : List ℕ) → OutcomeIsPrintable (made_text there t)
of_made (Holds true) t = refl
of_made (Holds false) t = tt
of_made (Untold f) t = tt

-- ---- stacks

module _ (v : Values) where
  module _ (stack : List ℕ) (template : Data) where
    of_resource : (t : List ℕ) (o : Option Data) → OutcomeIsPrintable (resource_outcome v stack template t o)
    of_resource t None = tt
    of_resource t (Some r) = of_made (presence v stack template r) t

    scope-floatless : (exports : List ℕ → Option (List ℕ)) → IsFloatless (scope v stack template exports)
    scope-floatless exports = record {
      target = λ n. of_parameter_else (v.parameter stack n) _ _ (of_resource (physical_text v stack n) (get_member n (section (codes "Resources") template)));
      attribute = λ n a. of_resource (attribute_text v stack n a) (get_member n (section (codes "Resources") template));
      leaf = λ m x y. of_leaf (option_and_then (get y) (option_and_then (get x) (get_member m (section (codes "Mappings") template))));
    }

  of_properties : (there : Truth) (ps : List (List ℕ × Outcome)) → PropertiesArePrintable ps → PropertiesArePrintable (properties_of there ps)
  of_properties (Holds true) ps h = h
  of_properties (Holds false) ps h = tt
  of_properties (Untold f) ps h = tt

  of_resources : (presence_of : Data → Truth) (s : Scope) → IsFloatless s → (ms : Members) → ResourcesArePrintable (resource_outcomes presence_of s ms)
  of_resources presence_of s floatless no_members = tt
  of_resources presence_of s floatless (member n r ms) =
      let ps = each_member s (section (codes "Properties") r) in
      let held = each_member-floatless s floatless (section (codes "Properties") r) in
      (of_properties (presence_of r) (properties_of (presence_of r) ps) (of_properties (presence_of r) ps held), of_resources presence_of s floatless ms)

  of_stacks : (exports : List ℕ → Option (List ℕ)) (ss : List Stack) → IsPrintable (stack_outcomes v exports ss)
  of_stacks exports [] = tt
  of_stacks exports (s ∷ ss) =
      (of_resources (presence v s.name s.template) (stack_scope v exports s) (scope-floatless s.name s.template exports) (section (codes "Resources") s.template), of_stacks (exports_after v exports s) ss)

-- also for proofs of what prints the report of an evaluation
pub outcomes_printable : (v : Values) (ss : List Stack) → IsPrintable (assembly_outcome v ss)
outcomes_printable v ss = of_stacks v (outside_exports v ss) ss
