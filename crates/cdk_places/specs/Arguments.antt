-- The roles of the arguments of forms (own).
use Rattle.cdk_language.specs.declared.schema.Role.{Role}
use Rattle.cdk_language.specs.declared.schema.Role.TheVariants as roles
use Rattle.cdk_language.specs.declared.schema.Within.{Within}
use Rattle.cdk_members.specs.declared.forms.FormName.{FormName}
use Rattle.cdk_members.specs.declared.forms.FormName.TheVariants as forms

abbrev pub argument_role : Within → FormName → Role
argument_role w forms.Ref = roles.Text
argument_role w forms.GetAtt = roles.GetAttArguments
argument_role w forms.Join = roles.JoinArguments w
argument_role w forms.Select = roles.SelectArguments w
argument_role w forms.Split = roles.SplitArguments w
argument_role w forms.If = roles.IfArguments w
argument_role w forms.FindInMap = roles.FindInMapArguments w
argument_role w forms.ImportValue = roles.NonEmptyText
argument_role w forms.Sub = roles.SubArgument w
argument_role w forms.Concat = roles.ConcatArguments w
argument_role w forms.Context = roles.ContextArguments
argument_role w forms.Lazy = roles.Text
