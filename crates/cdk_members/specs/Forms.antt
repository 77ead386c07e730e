-- The forms of expressions by their names (CloudFormation's intrinsic functions; Concat, Context and Lazy are our own).
use Rattle.std.specs.Prelude.{ℕ, List, codes, bytes_eq, if◌then◌else◌, Option, Some, None}
use Rattle.cdk_members.specs.declared.forms.FormName.{FormName}
use Rattle.cdk_members.specs.declared.forms.FormName.TheVariants as forms

abbrev pub own_form_named : List ℕ → Option FormName
own_form_named k =
    if bytes_eq k (codes "CDK::Concat") then Some forms.Concat
    else if bytes_eq k (codes "CDK::Context") then Some forms.Context
    else if bytes_eq k (codes "CDK::Lazy") then Some forms.Lazy
    else None

abbrev pub form_named : List ℕ → Option FormName
form_named k =
    if bytes_eq k (codes "Ref") then Some forms.Ref
    else if bytes_eq k (codes "Fn::GetAtt") then Some forms.GetAtt
    else if bytes_eq k (codes "Fn::Join") then Some forms.Join
    else if bytes_eq k (codes "Fn::Select") then Some forms.Select
    else if bytes_eq k (codes "Fn::Split") then Some forms.Split
    else if bytes_eq k (codes "Fn::If") then Some forms.If
    else if bytes_eq k (codes "Fn::FindInMap") then Some forms.FindInMap
    else if bytes_eq k (codes "Fn::ImportValue") then Some forms.ImportValue
    else if bytes_eq k (codes "Fn::Sub") then Some forms.Sub
    else own_form_named k
