-- The tree of an application that was read without a finding: what is known of it, and that its fault is the application's.
use Rattle.std.proofs.Common.{◌≡◌, ◌≤◌, ℕ, List, [], ◌∷◌, length, true, Option, Some, None, Result, Ok, Err, if◌then◌else◌, ap, sym, ◌∙◌, subst}
use Rattle.std.specs.Prelude.{option_and_then}
use Rattle.std.specs.Option.{option_or}
use Rattle.cdk_base.specs.declared.Setting.{Setting}
use Rattle.cdk_base.specs.declared.code.Code.TheVariants.{Shape}
use Rattle.cdk_base.specs.declared.fault.Fault.{Fault}
use Rattle.cdk_carried.specs.Carried.{is_carried}
use Rattle.cdk_premises.proofs.CleanTrees.{trees_stay_clean}
use Rattle.cdk_doc.specs.Answers.{IsReadAs}
use Rattle.cdk_elements.specs.OneStack.{AreOneStack}
use Rattle.cdk_expansion.specs.Clean.{TreeIsClean}
use Rattle.cdk_premises.proofs.FormedTrees.{trees_stay_formed}
use Rattle.cdk_premises.specs.Formed.{TreeIsFormed}
use Rattle.cdk_language.specs.Application.{application_of, with_settings}
use Rattle.cdk_language.specs.Construct.{Application}
use Rattle.cdk_language.specs.Findings.{setting_findings}
use Rattle.cdk_language.specs.declared.finding.Finding.{Finding}
use Rattle.cdk_premises.proofs.PlainApplications.{applications_are_rooted, operands_are_read_plain}
use Rattle.cdk_premises.specs.OneTree.{IsRooted}
use Rattle.cdk_premises.specs.Operands.{OperandsArePlain}
use Rattle.cdk_passes.specs.Faults.{IsFaultOf, first_of, here}
use Rattle.cdk_tree.specs.PlaceFindings.{first, place_findings}
use Rattle.cdk_tree.specs.Placed.{Placed, constructs_of}
use Rattle.cdk_premises.proofs.Walked.{carried_constructs_are_one_stack}
use Rattle.cdk_synthesis.specs.Assembly.{application_in, assembly_of, files_in, placed_in, tree_of}
use Rattle.cdk_synthesis.specs.Checks.{Answers, AreCounted, IsBuilt, Synthesises}
use Rattle.cdk_synthesis.specs.Passes.{first_fault, laid, passes, tree_passes}
use Rattle.cdk_synthesis.specs.declared.files.File.{File}
use Rattle.cdk_synthesis.proofs.FaultLemmas.{application_read}

-- it is read without a finding, its settings too, and with its ids and places nothing is wrong
pub record IsRead (bytes : List ℕ) (settings : List Setting) (a b : Application) (cs : List Placed) : Type 0 where
  pub read : IsReadAs bytes a
  pub unmarked : setting_findings settings ≡ []
  pub set : b ≡ with_settings a settings
  pub carried : is_carried b ≡ true
  pub walked : cs ≡ constructs_of b
  pub places : place_findings (constructs_of b) ≡ []

module _ (bytes : List ℕ) (settings : List Setting) (a b : Application) (cs : List Placed) (is : IsRead bytes settings a b cs) where
  pub application_is : application_in bytes settings ≡ Some b
  application_is = ap (laid settings) (ap (option_and_then application_of) is.read.holds ∙ is.read.is) ∙ ap (λ x. Some x) (sym is.set)

  -- ---- its fault

  tree_fault : length bytes ≤ 16777216 → first_fault bytes settings ≡ first_of (tree_passes cs)
  tree_fault short =
      application_read bytes settings a short is.read is.unmarked
      ∙ ap (λ x. first_of (passes x)) (sym is.set)
      ∙ ap (λ c. option_or (first (if c then [] else here Shape ∷ [])) (first_of (place_findings (constructs_of b) ∷ tree_passes (constructs_of b)))) is.carried
      ∙ ap (λ fs. option_or (first fs) (first_of (tree_passes (constructs_of b)))) is.places
      ∙ ap (λ ps. first_of (tree_passes ps)) (sym is.walked)

  -- what is answered for the tree is answered for the bytes
  pub tree_answers : (result : Result (List File) Fault) → length bytes ≤ 16777216 → Answers cs (tree_passes cs) result → Synthesises bytes settings result
  tree_answers (Ok files) short answer =
      let P : Option Application → Type 0 = λ o. AreCounted (placed_in o) in (
        tree_fault short ∙ answer.0,
        (answer.1.0 b is.walked ∙ sym (ap files_in application_is), subst P (sym application_is) (subst AreCounted is.walked answer.1.1)),
      )
  tree_answers (Err fault) short answer =
      let P : Option Finding → Type 0 = λ o. IsFaultOf o fault in subst P (sym (tree_fault short)) answer

  -- ---- what is known of it

  pub tree_is_built : IsBuilt cs
  tree_is_built =
      let d = is.read.document in
      let w = with_settings a settings in
      let walked : constructs_of w ≡ cs = ap constructs_of (sym is.set) ∙ sym is.walked in
      let P : List Placed → Type 0 = λ ps. place_findings ps ≡ [] in
      record {
        application = b;
        rooted = subst IsRooted (sym is.set) (applications_are_rooted d a settings is.read.is).1;
        walked = is.walked;
        one = subst AreOneStack (sym is.walked) (carried_constructs_are_one_stack b is.carried);
        places = subst P (sym is.walked) is.places;
        clean = subst TreeIsClean walked (trees_stay_clean bytes d a settings is.read.holds is.read.clean is.read.is is.unmarked);
        formed = subst TreeIsFormed walked (trees_stay_formed bytes d a settings is.read.holds is.read.clean is.read.is is.unmarked);
        operands = subst OperandsArePlain walked (operands_are_read_plain bytes d a settings is.read.holds is.read.clean is.read.is).1;
      }
