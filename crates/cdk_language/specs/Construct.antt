-- What a construct is, with all below it, without where it lies in memory (AWS CDK's construct tree).
use Rattle.std.specs.Prelude.{ℕ, List, [], ◌∷◌, map, Option}
use Rattle.serde_json.specs.Data.{Data, Members}
use Rattle.serde_json.specs.View as json
use Rattle.cdk_language.specs.Condition as condition
use Rattle.cdk_language.specs.Condition.{Condition}
use Rattle.cdk_language.specs.Expression as expression
use Rattle.cdk_language.specs.Expression.{Expression}
use Rattle.cdk_language.specs.declared.construct.App.{App}
use Rattle.cdk_language.specs.declared.construct.Entry.{Entry}
use Rattle.cdk_language.specs.declared.construct.Kind.{Kind}
use Rattle.cdk_language.specs.declared.construct.Kind.TheVariants as kinds
use Rattle.cdk_language.specs.declared.construct.Node.{Node, fold-Node}
use Rattle.cdk_language.specs.declared.construct.Node.TheOpen.{Node-F}
use Rattle.cdk_language.specs.declared.construct.Output.{Output}
use Rattle.cdk_language.specs.declared.construct.Parameter.{Parameter}
use Rattle.cdk_language.specs.declared.construct.ParameterForm.{ParameterForm}
use Rattle.cdk_language.specs.declared.construct.Policy.{Policy}
use Rattle.cdk_language.specs.declared.construct.Resource.{Resource}

pub record ResourceBody : Type 0 where
  pub resource_type : List ℕ
  pub properties : Expression
  pub condition : Option (List ℕ)
  pub deletion : Option Policy
  pub replace : Option Policy

pub record ParameterBody : Type 0 where
  pub form : ParameterForm
  pub default : Option (List ℕ)
  pub description : Option (List ℕ)

pub record OutputBody : Type 0 where
  pub value : Expression
  pub description : Option (List ℕ)
  pub export : Option (List ℕ)
  pub condition : Option (List ℕ)

-- what a construct is, with what only its kind has
pub data Body : Type 0 where
  root : Body
  stage : Body
  stack : Option (List ℕ) → Body
  group : Body
  resource : ResourceBody → Body
  parameter : ParameterBody → Body
  condition_body : Condition → Body
  mapping : Members → Body
  output : OutputBody → Body
  lazy : Expression → Body

pub record AspectEntry : Type 0 where
  pub name : List ℕ
  pub literal : Data
  pub priority : ℕ

-- what every construct has beside its body and its children
pub record Head : Type 0 where
  pub id : List ℕ
  pub context : Members
  pub aspects : List AspectEntry
  pub depends : List (List ℕ)
  pub logical : Option (List ℕ)

mutual
  pub data Construct : Type 0 where
    construct : Head → Body → Constructs → Construct

  pub data Constructs : Type 0 where
    no_constructs : Constructs
    child : Construct → Constructs → Constructs

-- an application is its root construct
abbrev pub Application : Type 0
Application = Construct

-- ---- what a `Node` stands for

abbrev pub resource_view : Resource → ResourceBody
resource_view r = record { resource_type = r.resource_type; properties = expression.view r.properties; condition = r.condition; deletion = r.deletion; replace = r.replace }

abbrev pub parameter_view : Parameter → ParameterBody
parameter_view p = record { form = p.form; default = p.default; description = p.description }

abbrev pub output_view : Output → OutputBody
output_view o = record { value = expression.view o.value; description = o.description; export = o.export; condition = o.condition }

abbrev pub kind_view : Kind → Body
kind_view kinds.App = root
kind_view kinds.Stage = stage
kind_view (kinds.Stack d) = stack d
kind_view kinds.Group = group
kind_view (kinds.Resource r) = resource (resource_view r)
kind_view (kinds.Parameter p) = parameter (parameter_view p)
kind_view (kinds.Condition c) = condition_body (condition.view c)
kind_view (kinds.Mapping m) = mapping (json.members_view m.entries)
kind_view (kinds.Output o) = output (output_view o)
kind_view (kinds.Lazy e) = lazy (expression.view e)

abbrev pub entry_view : Entry → AspectEntry
entry_view e = record { name = e.name; literal = json.view e.with; priority = e.priority }

abbrev pub constructs_of : List Construct → Constructs
constructs_of [] = no_constructs
constructs_of (c ∷ cs) = child c (constructs_of cs)

abbrev pub head_of : {C : Type 0} → Node-F C → Head
head_of n = record { id = n.id; context = json.members_view n.context.entries; aspects = map entry_view n.aspects; depends = n.depends; logical = n.logical }

abbrev pub node_step : Node-F Construct → Construct
node_step n = construct (head_of n) (kind_view n.kind) (constructs_of n.children)

abbrev pub node_view : Node → Construct
node_view = fold-Node Construct node_step

abbrev pub nodes_view : List Node → Constructs
nodes_view ns = constructs_of (map node_view ns)

abbrev pub app_view : App → Application
app_view a = node_view a.root
