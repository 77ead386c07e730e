-- The forms of expressions with their arguments (CloudFormation's intrinsic functions; Concat, Context and Lazy are our own).
use Rattle.std.specs.Prelude.{Option, option_map}
use Rattle.serde_json.specs.Data.{Data}
use Rattle.serde_json.specs.Find.{as_str}
use Rattle.cdk_language.specs.Application.{ref_of, get_att_of, context_of, join_of, select_of, split_of, choice_of, find_in_map_of, concat_of, substituted_of}
use Rattle.cdk_language.specs.Expression as expression
use Rattle.cdk_language.specs.Expression.{Expression}
use Rattle.cdk_members.specs.declared.forms.FormName.{FormName}
use Rattle.cdk_members.specs.declared.forms.FormName.TheVariants as forms

-- the expression that a form is with its arguments
abbrev pub form_with : FormName → Data → Option Expression
form_with forms.Ref d = option_map ref_of (as_str d)
form_with forms.GetAtt d = get_att_of d
form_with forms.Join d = join_of d
form_with forms.Select d = select_of d
form_with forms.Split d = split_of d
form_with forms.If d = choice_of d
form_with forms.FindInMap d = find_in_map_of d
form_with forms.ImportValue d = option_map expression.import_value (as_str d)
form_with forms.Sub d = substituted_of d
form_with forms.Concat d = concat_of d
form_with forms.Context d = context_of d
form_with forms.Lazy d = option_map expression.lazy (as_str d)
