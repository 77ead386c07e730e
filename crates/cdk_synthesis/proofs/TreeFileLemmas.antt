-- The tree file of a checked tree is read back as it is.
use Rattle.std.proofs.Common.{◌≡◌, ℕ, ◌<◌, List, [], length, sym, subst}
use Rattle.serde_json.specs.Data.{Data}
use Rattle.serde_json.specs.View.{view}
use Rattle.serde_json.specs.declared.value.Value.{Value}
use Rattle.cdk_language.specs.Construct as language
use Rattle.cdk_language.specs.Construct.{Application, Body, ResourceBody}
use Rattle.cdk_language.specs.Expression.{Expression}
use Rattle.cdk_manifest.specs.TreeFile.{tree_file_of}
use Rattle.cdk_manifest.specs.Values.{AreProperties}
use Rattle.cdk_manifest.specs.TreeFileLaws.{AreWholeValues, IsWholeTreeFile}
use Rattle.cdk_manifest.proofs.TreeFileLaws.{tree_files_are_whole}
use Rattle.cdk_template.specs.Laws.{HasWholeValue, HasWholeValues, IsWholeObject}
use Rattle.cdk_template.specs.Own.{spelling_of}
use Rattle.cdk_tree.specs.PlaceFindings.{place_findings}
use Rattle.cdk_tree.specs.Placed.{Placed, construct_at, constructs_of}
use Rattle.cdk_tree_meaning.specs.Checked.{AreChecked}
use Rattle.cdk_synthesis.specs.Assembly.{tree_document}

whole_values : (cs : List Placed) → HasWholeValues cs → AreWholeValues (spelling_of cs).value cs
whole_values cs whole n r within e =
    let P : Body → Type 0 = λ b. HasWholeValue (spelling_of cs) n b in
    let own : IsWholeObject 94 ((spelling_of cs).value n r.properties) = subst P e (whole.each n within) in
    (own.whole.canonical, own.whole.shallow)

pub tree_is_whole : (cs : List Placed) → AreChecked cs → HasWholeValues cs → (a : Application) → cs ≡ constructs_of a → IsWholeTreeFile (tree_document a)
tree_is_whole cs checked whole a is =
    let P : List Placed → Type 0 = λ ps. place_findings ps ≡ [] in
    let W : List Placed → Type 0 = λ ps. AreWholeValues (spelling_of ps).value ps in
    tree_files_are_whole a (spelling_of (constructs_of a)).value (subst P is checked.places) (subst W is (whole_values cs whole))

-- what is made of the values of a tree is the tree document of its application
pub as_document : (cs : List Placed) (shown values : List Value) (v : Value) → shown ≡ values → AreProperties values (spelling_of cs).value cs
    → ((a : Application) (value : ℕ → Expression → Data) → cs ≡ constructs_of a → AreProperties shown value cs → view v ≡ tree_file_of value a)
    → (a : Application) → cs ≡ constructs_of a → view v ≡ tree_document a
as_document cs shown values v same properties made a is =
    let P : List Value → Type 0 = λ vs. AreProperties vs (spelling_of cs).value cs in
    let Q : List Placed → Type 0 = λ ps. AreProperties shown (spelling_of ps).value cs in
    made a (spelling_of (constructs_of a)).value is (subst Q is (subst P (sym same) properties))
