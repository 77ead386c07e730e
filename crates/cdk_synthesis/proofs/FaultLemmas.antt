-- The first fault of an application, pass after pass.
use Rattle.std.proofs.Common.{◌≡◌, ◌≤◌, ◌<◌, ◌^◌, ℕ, List, [], ◌∷◌, length, map, true, false, Option, Some, None, Result, Ok, Err, if◌then◌else◌, nat_lt, refl, ap, sym, ◌∙◌, subst, arith, inl, inr}
use Rattle.std.specs.Option.{option_or}
use Rattle.std.proofs.lemmas.Bool.Decides.{nat_tests}
use Rattle.cdk_base.specs.Json.{parsed}
use Rattle.cdk_base.specs.declared.Setting.{Setting}
use Rattle.cdk_base.specs.declared.code.Code.{Code}
use Rattle.cdk_base.specs.declared.code.Code.TheVariants.{NotJson, Shape, TooLong}
use Rattle.cdk_base.specs.declared.fault.Fault.{Fault}
use Rattle.cdk_base.specs.declared.fault.Fault.TheVariants as faults
use Rattle.cdk_carried.specs.Carried.{is_carried}
use Rattle.cdk_doc.specs.Answers.{IsReadAs, ReadAnswer}
use Rattle.cdk_language.specs.Application.{application_of, with_settings}
use Rattle.cdk_language.specs.Construct.{Application}
use Rattle.cdk_language.specs.Findings as document
use Rattle.cdk_language.specs.Findings.{setting_findings}
use Rattle.cdk_language.specs.declared.finding.Finding.{Finding}
use Rattle.cdk_settings.specs.Answers.{IsSettingsFault}
use Rattle.cdk_passes.specs.Faults.{IsFaultOf, IsPassFault, at_path, first_of, here, told}
use Rattle.cdk_tree.specs.PlaceFindings.{first, place_findings}
use Rattle.cdk_tree.specs.Placed.{Placed, constructs_of}
use Rattle.cdk_tree.specs.TreeView as built
use Rattle.cdk_tree.specs.declared.role.Found.{Found}
use Rattle.cdk_tree.specs.declared.role.PassError.{PassError}
use Rattle.cdk_tree.specs.declared.role.PassError.TheVariants as errors
use Rattle.cdk_tree.specs.declared.tree.Tree.{Tree}
use Rattle.cdk_synthesis.specs.Checks.{Answers, Builds}
use Rattle.cdk_synthesis.specs.Files.{IsFirst}
use Rattle.cdk_synthesis.specs.Passes.{application_fault, carried_findings, document_fault, first_fault, laid, passes, tree_passes}
use Rattle.cdk_synthesis.specs.declared.files.File.{File}

-- ---- one pass after another

-- where a pass finds nothing, the first fault is that of the passes behind it
further : (fs : List Finding) (rest : List (List Finding)) → fs ≡ [] → first_of (fs ∷ rest) ≡ first_of rest
further fs rest none = ap (λ gs. option_or (first gs) (first_of rest)) none

told_none : (cs : List Placed) (fs : List Found) → fs ≡ [] → told cs fs ≡ []
told_none cs fs none = ap (told cs) none

fault_further : (fs : List Finding) (rest : List (List Finding)) (fault : Fault) → fs ≡ [] → IsFaultOf (first_of rest) fault → IsFaultOf (first_of (fs ∷ rest)) fault
fault_further fs rest fault none is = let P : Option Finding → Type 0 = λ o. IsFaultOf o fault in subst P (sym (further fs rest none)) is

pub answers_further : (cs : List Placed) (fs : List Found) (rest : List (List Finding)) (result : Result (List File) Fault) → fs ≡ [] → Answers cs rest result → Answers cs (told cs fs ∷ rest) result
answers_further cs fs rest (Ok files) none answer = (further (told cs fs) rest (told_none cs fs none) ∙ answer.0, answer.1)
answers_further cs fs rest (Err fault) none answer = fault_further (told cs fs) rest fault (told_none cs fs none) answer

-- where it finds something, the first of that is the fault
pub first_found : (cs : List Placed) (fs : List Found) (rest : List (List Finding)) (f : Found) (fault : Fault) → first fs ≡ Some f → IsFaultOf (Some (at_path cs f)) fault → IsFaultOf (first_of (told cs fs ∷ rest)) fault
first_found cs [] rest f fault is own = cc
first_found cs (g ∷ fs) rest f fault is own = let same : g ≡ f = cc in let P : Found → Type 0 = λ h. IsFaultOf (Some (at_path cs h)) fault in subst P (sym same) own

memory_is_free : (o : Option Finding) (fault : Fault) → fault ≡ faults.Memory → IsFaultOf o fault
memory_is_free o faults.Memory is = tt
memory_is_free o (faults.App code place) is = cc
memory_is_free o (faults.Refused place name text) is = cc

pub first_or_memory : (cs : List Placed) (fs : List Found) (rest : List (List Finding)) (error : PassError) (fault : Fault) → IsFirst error fs → IsPassFault cs error fault → IsFaultOf (first_of (told cs fs ∷ rest)) fault
first_or_memory cs fs rest errors.Memory fault is own = memory_is_free (first_of (told cs fs ∷ rest)) fault own
first_or_memory cs fs rest (errors.Fault f) fault is own = first_found cs fs rest f fault is own

-- ---- an application

not_carried : (a : Application) → is_carried a ≡ false → carried_findings a ≡ here Shape ∷ []
not_carried a e = ap (λ b. if b then [] else here Shape ∷ []) e

all_carried : (a : Application) → is_carried a ≡ true → carried_findings a ≡ []
all_carried a e = ap (λ b. if b then [] else here Shape ∷ []) e

pub refused : (a : Application) (fault : Fault) → is_carried a ≡ false → IsFaultOf (Some (here Shape)) fault → IsFaultOf (first_of (passes a)) fault
refused a fault e own =
    let P : List Finding → Type 0 = λ fs. IsFaultOf (option_or (first fs) (first_of (place_findings (constructs_of a) ∷ tree_passes (constructs_of a)))) fault in
    subst P (sym (not_carried a e)) own

misplaced : (a : Application) (fault : Fault) → is_carried a ≡ true → (rest : List (List Finding)) → IsFaultOf (first_of (place_findings (constructs_of a) ∷ rest)) fault
    → IsFaultOf (first_of (carried_findings a ∷ place_findings (constructs_of a) ∷ rest)) fault
misplaced a fault e rest own = fault_further (carried_findings a) (place_findings (constructs_of a) ∷ rest) fault (all_carried a e) own

first_place : (fs : List Finding) (rest : List (List Finding)) (f : Finding) → first fs ≡ Some f → first_of (fs ∷ rest) ≡ Some f
first_place fs rest f is = ap (λ o. option_or o (first_of rest)) is

pub builds : (result : Result Tree Fault) (a : Application) → is_carried a ≡ true → built.Builds result a → Builds a result
builds (Ok tree) a carried is =
    (carried, is.0, is.1.clean)
builds (Err faults.Memory) a carried is = tt
builds (Err (faults.App code place)) a carried is =
    misplaced a (faults.App code place) carried (tree_passes (constructs_of a)) (first_place (place_findings (constructs_of a)) (tree_passes (constructs_of a)) (record { code = code; place = place }) is)
builds (Err (faults.Refused place name text)) a carried is = absurd is

-- ---- the bytes of an application, with settings

-- not too long: the fault is the document's
short_fault : (bytes : List ℕ) (settings : List Setting) → length bytes ≤ 16777216 → first_fault bytes settings ≡ document_fault settings (parsed bytes)
short_fault bytes settings short =
    let fits : nat_lt 16777216 (length bytes) ≡ false = grind (arith, nat_tests, short) in
    ap (λ b. if b then Some (here TooLong) else document_fault settings (parsed bytes)) fits

pub too_long : (bytes : List ℕ) (settings : List Setting) (fault : Fault) → 16777216 < length bytes → IsFaultOf (Some (here TooLong)) fault → IsFaultOf (first_fault bytes settings) fault
too_long bytes settings fault long own =
    let over : nat_lt 16777216 (length bytes) ≡ true = grind (arith, nat_tests, long) in
    let P : Option Finding → Type 0 = λ o. IsFaultOf o fault in
    subst P (sym (ap (λ b. if b then Some (here TooLong) else document_fault settings (parsed bytes)) over)) own

told_here : (code : Code) (place : List ℕ) → code ≡ NotJson → place ≡ [] → Some (here NotJson) ≡ Some (record { code = code; place = place })
told_here code place named nowhere = cc

pub read_fault : (bytes : List ℕ) (settings : List Setting) (fault : Fault) → length bytes ≤ 16777216 → ReadAnswer (Err fault) bytes → IsFaultOf (first_fault bytes settings) fault
read_fault bytes settings faults.Memory short answer = tt
read_fault bytes settings (faults.App code place) short (inl broken) =
    short_fault bytes settings short ∙ ap (document_fault settings) broken.no_json ∙ told_here code place broken.named broken.nowhere
read_fault bytes settings (faults.App code place) short (inr found) =
    short_fault bytes settings short ∙ ap (document_fault settings) found.holds
    ∙ ap (λ o. option_or o (option_or (document.first (setting_findings settings)) (application_fault (laid settings (application_of found.document))))) found.found
read_fault bytes settings (faults.Refused place name text) short answer = absurd answer

-- it is that of the settings
read_settings : (bytes : List ℕ) (settings : List Setting) (a : Application) → length bytes ≤ 16777216 → IsReadAs bytes a
    → first_fault bytes settings ≡ option_or (document.first (setting_findings settings)) (first_of (passes (with_settings a settings)))
read_settings bytes settings a short is =
    short_fault bytes settings short ∙ ap (document_fault settings) is.holds
    ∙ ap (λ fs. option_or (document.first fs) (option_or (document.first (setting_findings settings)) (application_fault (laid settings (application_of is.document))))) is.clean
    ∙ ap (λ o. option_or (document.first (setting_findings settings)) (application_fault (laid settings o))) is.is

pub settings_fault : (bytes : List ℕ) (settings : List Setting) (a : Application) (fault : Fault) → length bytes ≤ 16777216 → IsReadAs bytes a → IsSettingsFault fault settings → IsFaultOf (first_fault bytes settings) fault
settings_fault bytes settings a faults.Memory short is answer = tt
settings_fault bytes settings a (faults.App code place) short is answer =
    read_settings bytes settings a short is ∙ ap (λ o. option_or o (first_of (passes (with_settings a settings)))) answer
settings_fault bytes settings a (faults.Refused place name text) short is answer = absurd answer

-- it is that of the application's passes
pub application_read : (bytes : List ℕ) (settings : List Setting) (a : Application) → length bytes ≤ 16777216 → IsReadAs bytes a → setting_findings settings ≡ [] → first_fault bytes settings ≡ first_of (passes (with_settings a settings))
application_read bytes settings a short is clean =
    read_settings bytes settings a short is ∙ ap (λ fs. option_or (document.first fs) (first_of (passes (with_settings a settings)))) clean

pub built_fault : (bytes : List ℕ) (settings : List Setting) (a b : Application) (fault : Fault) → length bytes ≤ 16777216 → IsReadAs bytes a → (setting_findings settings ≡ []) × (b ≡ with_settings a settings)
    → IsFaultOf (first_of (passes b)) fault → IsFaultOf (first_fault bytes settings) fault
built_fault bytes settings a b fault short is set own =
    let P : Option Finding → Type 0 = λ o. IsFaultOf o fault in
    subst P (sym (application_read bytes settings a short is set.0 ∙ ap (λ x. first_of (passes x)) (sym set.1))) own
