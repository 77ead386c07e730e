-- What a construct is, by its kind (AWS CDK's construct tree).
use Rattle.std.specs.Prelude.{codes, Option, Some, option_map, option_and_then}
use Rattle.serde_json.specs.Data.{Members}
use Rattle.serde_json.specs.Find.{get_member, as_object}
use Rattle.cdk_language.specs.Application.{text_at, resource_in, parameter_in, output_in, condition_of, expression_of}
use Rattle.cdk_language.specs.Construct as construct
use Rattle.cdk_language.specs.Construct.{Body}
use Rattle.cdk_language.specs.declared.schema.KindName.{KindName}
use Rattle.cdk_language.specs.declared.schema.KindName.TheVariants as kinds

abbrev pub body_by : Members → KindName → Option Body
body_by ms kinds.Stage = Some construct.stage
body_by ms kinds.Stack = Some (construct.stack (text_at (codes "description") ms))
body_by ms kinds.Group = Some construct.group
body_by ms kinds.Resource = resource_in ms
body_by ms kinds.Parameter = parameter_in ms
body_by ms kinds.Condition = option_map construct.condition_body (option_and_then condition_of (get_member (codes "expression") ms))
body_by ms kinds.Mapping = option_map construct.mapping (option_and_then as_object (get_member (codes "mappings") ms))
body_by ms kinds.Output = output_in ms
body_by ms kinds.Lazy = option_map construct.lazy (option_and_then expression_of (get_member (codes "value") ms))
