-- An application at which the law on tree files meets its premises: a bucket in two groups of a stack.
use Rattle.std.proofs.Common.{◌≡◌, ℕ, zero, suc, ◌≤◌, List, [], codes, Some, None, option_and_then, refl, subst, arith}
use Rattle.std.specs.Fmt.{digits}
use Rattle.serde_json.specs.Data.{Data, no_members, depth}
use Rattle.serde_json.specs.Read.{read}
use Rattle.serde_json.proofs.OnLiterals.{serde_json_on_literals}
use Rattle.cdk_base.specs.Pretty.{IsCanonical, pretty_text}
use Rattle.cdk_base.proofs.Back.{read-pretty_text}
use Rattle.cdk_language.specs.Application.{application_of}
use Rattle.cdk_language.specs.Construct.{Application, Construct, Head, ResourceBody, construct, no_constructs, child, root, stack, group, resource}
use Rattle.cdk_language.specs.Expression as expressions
use Rattle.cdk_language.specs.Expression.{Expression}
use Rattle.cdk_tree.specs.PlaceFindings.{place_findings}
use Rattle.cdk_tree.specs.Placed.{constructs_of}
use Rattle.cdk_manifest.specs.TreeFile.{tree_file_of}
use Rattle.cdk_manifest.specs.TreeFileLaws.{AreWholeValues, IsWholeTreeFile}
use Rattle.cdk_manifest.proofs.Examples.{text_value}
use Rattle.cdk_manifest.proofs.TreeFileLaws.{tree_files_are_whole}

abbrev head : List ℕ → Head
head id = record { id = id; context = no_members; aspects = []; depends = []; logical = None }

abbrev bucket : ResourceBody
bucket = record {
  resource_type = codes "AWS::S3::Bucket";
  properties = expressions.object (expressions.field (codes "BucketName") (expressions.text (codes "logs")) expressions.no_fields);
  condition = None;
  deletion = None;
  replace = None;
}

-- with one child
abbrev holding : List ℕ → Construct → Construct
holding id c = construct (head id) group (child c no_constructs)

abbrev application : Application
application =
    construct (head []) root
    (child (construct (head (codes "S")) (stack None) (child (holding (codes "Outer") (holding (codes "Inner") (construct (head (codes "Bucket")) (resource bucket) no_constructs))) no_constructs)) no_constructs)

is_read : option_and_then application_of (read (codes "{\"app\":\"2\",\"children\":[{\"kind\":\"stack\",\"id\":\"S\",\"children\":[{\"kind\":\"group\",\"id\":\"Outer\",\"children\":[{\"kind\":\"group\",\"id\":\"Inner\",\"children\":[{\"kind\":\"resource\",\"id\":\"Bucket\",\"type\":\"AWS::S3::Bucket\",\"properties\":{\"BucketName\":\"logs\"}}]}]}]}]}"))
    ≡ Some application
unfolding serde_json_on_literals digits
is_read = refl

abbrev value : ℕ → Expression → Data
value n = text_value

clean : place_findings (constructs_of application) ≡ []
clean = refl

whole_values : AreWholeValues value (constructs_of application)
whole_values zero r within is = cc
whole_values (suc zero) r within is = cc
whole_values (suc (suc zero)) r within is = cc
whole_values (suc (suc (suc zero))) r within is = cc
whole_values (suc (suc (suc (suc zero)))) r within is =
    let IsWholeValue : ResourceBody → Type 0 = λ r. IsCanonical (value 4 r.properties) × (depth (value 4 r.properties) ≤ 94) in
    let same : bucket ≡ r = cc in
    subst IsWholeValue same ((tt, (tt, tt)), omega arith)
whole_values (suc (suc (suc (suc (suc n))))) r within is = absurd (omega arith)

whole : IsWholeTreeFile (tree_file_of value application)
whole = tree_files_are_whole application value clean whole_values

-- so what is printed of it is read back
read_back : read (pretty_text (tree_file_of value application)) ≡ Some (tree_file_of value application)
read_back = read-pretty_text (tree_file_of value application) whole.canonical whole.shallow
