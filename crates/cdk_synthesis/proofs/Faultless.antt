-- What an application without fault is.
use Rattle.std.proofs.Common.{◌≡◌, ℕ, List, [], ◌∷◌, map, Bool, true, false, Option, Some, None, if◌then◌else◌, nat_lt, length, refl, sym, ap, ◌∙◌}
use Rattle.std.specs.Option.{option_or}
use Rattle.serde_json.specs.Data.{Data}
use Rattle.cdk_base.specs.Json.{parsed}
use Rattle.cdk_base.specs.declared.Setting.{Setting}
use Rattle.cdk_base.specs.declared.code.Code.TheVariants.{TooLong, Shape}
use Rattle.cdk_carried.specs.Carried.{is_carried}
use Rattle.cdk_doc.proofs.LawConstructs.{application_found}
use Rattle.cdk_language.specs.Application.{application_of, with_settings}
use Rattle.cdk_language.specs.Construct.{Application}
use Rattle.cdk_language.specs.Findings as document
use Rattle.cdk_language.specs.Findings.{setting_findings}
use Rattle.cdk_language.specs.declared.finding.Finding.{Finding}
use Rattle.cdk_lazies.specs.CycleFindings.{cycle_findings}
use Rattle.cdk_passes.specs.Faults.{at_path, first_of, here, told}
use Rattle.cdk_sizes.specs.SizeFindings.{size_findings}
use Rattle.cdk_stacks.specs.Claims.{name_findings}
use Rattle.cdk_template.specs.Counts.{count_findings}
use Rattle.cdk_template.specs.Markers.{marker_findings}
use Rattle.cdk_contexts.specs.Contexts.{context_findings}
use Rattle.cdk_tokens.specs.Whole.{marking, tokens_of}
use Rattle.cdk_tree.specs.Expected.{target_findings}
use Rattle.cdk_tree.specs.PlaceFindings.{first, place_findings}
use Rattle.cdk_tree.specs.Placed.{Placed, constructs_of}
use Rattle.cdk_tree.specs.declared.role.Found.{Found}
use Rattle.cdk_values.specs.Findings.{value_findings}
use Rattle.cdk_synthesis.specs.Assembly.{application_in}
use Rattle.cdk_synthesis.specs.Checks.{IsBuilt}
use Rattle.cdk_synthesis.specs.Passes.{application_fault, carried_findings, document_fault, first_fault, laid, marked_passes, passes, template_passes, tree_passes, value_passes}
use Rattle.cdk_synthesis.proofs.BuiltTrees.{IsRead, application_is, tree_is_built}

-- ---- none of all passes

none_first : (fs : List Finding) (o : Option Finding) → option_or (first fs) o ≡ None → (fs ≡ []) × (o ≡ None)
none_first [] o h = (refl, h)
none_first (f ∷ fs) o h = cc

none_in_document : (fs : List Finding) (o : Option Finding) → option_or (document.first fs) o ≡ None → (fs ≡ []) × (o ≡ None)
none_in_document [] o h = (refl, h)
none_in_document (f ∷ fs) o h = cc

none_told : (cs : List Placed) (fs : List Found) → told cs fs ≡ [] → fs ≡ []
none_told cs [] h = refl
none_told cs (f ∷ fs) h = cc

-- a pass finds nothing, nor do those behind it
none_in_pass : (cs : List Placed) (fs : List Found) (rest : List (List Finding)) → first_of (told cs fs ∷ rest) ≡ None → (fs ≡ []) × (first_of rest ≡ None)
none_in_pass cs fs rest h = let both = none_first (told cs fs) (first_of rest) h in (none_told cs fs both.0, both.1)

-- in constructs no pass finds anything
pub record AreFaultless (cs : List Placed) : Type 0 where
  pub targets : target_findings cs ≡ []
  pub contexts : context_findings cs ≡ []
  pub cycles : cycle_findings cs (tokens_of cs) (marking cs) ≡ []
  pub sizes : size_findings cs (tokens_of cs) (marking cs) ≡ []
  pub named : name_findings cs ≡ []
  pub unmarked : marker_findings cs ≡ []

constructs_faultless : (cs : List Placed) → first_of (tree_passes cs) ≡ None → AreFaultless cs
constructs_faultless cs none =
    let targets = none_in_pass cs (target_findings cs) (told cs (context_findings cs) ∷ marked_passes cs) none in
    let contexts = none_in_pass cs (context_findings cs) (marked_passes cs) targets.1 in
    let cycles = none_in_pass cs (cycle_findings cs (tokens_of cs) (marking cs)) (value_passes cs) contexts.1 in
    let values = none_in_pass cs (value_findings (tokens_of cs) (marking cs) cs) (told cs (size_findings cs (tokens_of cs) (marking cs)) ∷ told cs (name_findings cs) ∷ template_passes cs) cycles.1 in
    let sizes = none_in_pass cs (size_findings cs (tokens_of cs) (marking cs)) (told cs (name_findings cs) ∷ template_passes cs) values.1 in
    let names = none_in_pass cs (name_findings cs) (template_passes cs) sizes.1 in
    let counts = none_in_pass cs (count_findings cs) (told cs (marker_findings cs) ∷ []) names.1 in
    let markers = none_in_pass cs (marker_findings cs) [] counts.1 in
    record { targets = targets.0; contexts = contexts.0; cycles = cycles.0; sizes = sizes.0; named = names.0; unmarked = markers.0 }

-- ---- the application of bytes

pub record IsFaultless (bytes : List ℕ) (settings : List Setting) : Type 0 where
  pub application : Application
  pub is : application_in bytes settings ≡ Some application
  pub built : IsBuilt (constructs_of application)
  pub clean : AreFaultless (constructs_of application)

is_true : (b : Bool) → (if b then [] else here Shape ∷ []) ≡ [] → b ≡ true
is_true true h = refl
is_true false h = cc

not_long : (b : Bool) (o : Option Finding) → (if b then Some (here TooLong) else o) ≡ None → o ≡ None
not_long true o h = cc
not_long false o h = h

of_application : (bytes : List ℕ) (settings : List Setting) (d : Data) (a : Application) → parsed bytes ≡ Some d → document.findings d ≡ [] → application_of d ≡ Some a → setting_findings settings ≡ []
    → first_of (passes (with_settings a settings)) ≡ None → IsFaultless bytes settings
of_application bytes settings d a holds clean is unmarked none =
    let w = with_settings a settings in
    let carried = none_first (carried_findings w) _ none in
    let places = none_first (place_findings (constructs_of w)) (first_of (tree_passes (constructs_of w))) carried.1 in
    let read : IsRead bytes settings a w (constructs_of w) = record {
      read = record { document = d; holds = holds; clean = clean; is = is };
      unmarked = unmarked;
      set = refl;
      carried = is_true (is_carried w) carried.0;
      walked = refl;
      places = places.0;
    } in
    record {
      application = w;
      is = application_is bytes settings a w (constructs_of w) read;
      built = tree_is_built bytes settings a w (constructs_of w) read;
      clean = constructs_faultless (constructs_of w) places.1;
    }

of_document : (bytes : List ℕ) (settings : List Setting) (o : Option Data) → parsed bytes ≡ o → document_fault settings o ≡ None → IsFaultless bytes settings
of_document bytes settings None holds none = cc
of_document bytes settings (Some d) holds none =
    let clean = none_in_document (document.findings d) _ none in
    let unmarked = none_in_document (setting_findings settings) (application_fault (laid settings (application_of d))) clean.1 in
    let found = application_found d clean.0 in
    of_application bytes settings d found.0 holds clean.0 found.1 unmarked.0 (sym (ap (λ o. application_fault (laid settings o)) found.1) ∙ unmarked.1)

pub faultless : (bytes : List ℕ) (settings : List Setting) → first_fault bytes settings ≡ None → IsFaultless bytes settings
faultless bytes settings none = of_document bytes settings (parsed bytes) refl (not_long (nat_lt 16777216 (length bytes)) (document_fault settings (parsed bytes)) none)
