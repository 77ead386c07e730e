-- The laws at a stack with a parameter, a condition, a bucket in a group, and an output: their premises compute.
use Rattle.std.proofs.Common.{◌≡◌, List, [], ℕ, true, codes, Some, None, option_and_then, refl}
use Rattle.std.specs.Fmt.{digits}
use Rattle.serde_json.specs.Data.{Data, no_members}
use Rattle.serde_json.specs.Read.{read}
use Rattle.serde_json.proofs.OnLiterals.{serde_json_on_literals}
use Rattle.cdk_carried.specs.Carried.{is_carried}
use Rattle.cdk_elements.specs.OneStack.{AreOneStack}
use Rattle.cdk_language.specs.Application.{application_of}
use Rattle.cdk_language.specs.Condition as condition
use Rattle.cdk_language.specs.Construct as construct
use Rattle.cdk_language.specs.Construct.{Application, Body, Construct, Head}
use Rattle.cdk_language.specs.Expression as expression
use Rattle.cdk_language.specs.declared.construct.ParameterForm.TheVariants as forms
use Rattle.cdk_tree.specs.Placed.{construct_at, constructs_of}
use Rattle.cdk_premises.proofs.Roots.{roots_are_roots}
use Rattle.cdk_premises.proofs.Walked.{carried_constructs_are_one_stack}

abbrev head_of : List ℕ → Head
head_of id = record { id = id; context = no_members; aspects = []; depends = []; logical = None }

abbrev leaf : List ℕ → Body → Construct
leaf id body = construct.construct (head_of id) body construct.no_constructs

abbrev name : Construct
name = leaf (codes "Name") (construct.parameter (record { form = forms.Text; default = Some (codes "logs"); description = None }))

abbrev own : Construct
own = leaf (codes "Own") (construct.condition_body (condition.equals (expression.ref (codes "S/Name")) (expression.text (codes "logs"))))

abbrev bucket : Construct
bucket = leaf (codes "Bucket") (construct.resource (record {
  resource_type = codes "AWS::S3::Bucket";
  properties = expression.object (expression.field (codes "BucketName") (expression.ref (codes "S/Name")) expression.no_fields);
  condition = Some (codes "S/Own");
  deletion = None;
  replace = None;
}))

abbrev arn : Construct
arn = leaf (codes "Arn") (construct.output (record { value = expression.get_att (codes "S/G/Bucket") (codes "Arn"); description = None; export = None; condition = Some (codes "S/Own") }))

abbrev application : Application
application =
    construct.construct (head_of []) construct.root (construct.child
    (construct.construct (head_of (codes "S")) (construct.stack (Some (codes "one bucket")))
    (construct.child name (construct.child own (construct.child (construct.construct (head_of (codes "G")) construct.group (construct.child bucket construct.no_constructs))
    (construct.child arn construct.no_constructs)))))
    construct.no_constructs)

-- it is read from this document
is_read : option_and_then application_of (read (codes "{\"app\":\"2\",\"children\":[{\"kind\":\"stack\",\"id\":\"S\",\"description\":\"one bucket\",\"children\":[{\"kind\":\"parameter\",\"id\":\"Name\",\"type\":\"String\",\"default\":\"logs\"},{\"kind\":\"condition\",\"id\":\"Own\",\"expression\":{\"Fn::Equals\":[{\"Ref\":\"S/Name\"},\"logs\"]}},{\"kind\":\"group\",\"id\":\"G\",\"children\":[{\"kind\":\"resource\",\"id\":\"Bucket\",\"type\":\"AWS::S3::Bucket\",\"properties\":{\"BucketName\":{\"Ref\":\"S/Name\"}},\"condition\":\"S/Own\"}]},{\"kind\":\"output\",\"id\":\"Arn\",\"value\":{\"Fn::GetAtt\":[\"S/G/Bucket\",\"Arn\"]},\"condition\":\"S/Own\"}]}]}"))
    ≡ Some application
unfolding serde_json_on_literals digits
is_read = refl

carried : is_carried application ≡ true
carried = refl

are_one_stack : AreOneStack (constructs_of application)
are_one_stack = carried_constructs_are_one_stack application carried

root_is_root : (d : Data) → application_of d ≡ Some application → (construct_at (constructs_of application) 0).body ≡ construct.root
root_is_root d is = roots_are_roots d application is
