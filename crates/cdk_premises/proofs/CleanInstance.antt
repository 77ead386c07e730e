-- The laws at a small application: a stack with a context, and in it a resource with a Join, a Sub with a variable, and Contexts, one
-- of them with a default that is found nowhere else; without settings, and with one.
use Rattle.std.proofs.Common.{◌≡◌, ℕ, List, [], ◌∷◌, codes, Some, None, refl}
use Rattle.std.specs.Fmt.{digits}
use Rattle.std.specs.Str.{is_utf8, chars}
use Rattle.serde_json.proofs.OnLiterals.{serde_json_on_literals}
use Rattle.serde_json.specs.Data.{unsigned, Data, number, string, array, object, no_items, item, Members, no_members, member}
use Rattle.cdk_base.specs.Json.{parsed}
use Rattle.cdk_base.specs.declared.Setting.{Setting}
use Rattle.cdk_premises.proofs.CleanTrees.{trees_are_clean, trees_stay_clean}
use Rattle.cdk_expansion.specs.Clean.{TreeIsClean}
use Rattle.cdk_language.specs.Application.{application_of, with_settings}
use Rattle.cdk_language.specs.Construct as construct
use Rattle.cdk_language.specs.Construct.{Application, Construct, Head}
use Rattle.cdk_language.specs.Expression as expression
use Rattle.cdk_language.specs.Expression.{Expression, Expressions, Fields}
use Rattle.cdk_language.specs.Findings.{findings, setting_findings}
use Rattle.cdk_tree.specs.Placed.{constructs_of}

abbrev bytes : List ℕ
bytes = codes "{\"app\":\"2\",\"children\":[{\"kind\":\"stack\",\"id\":\"S\",\"context\":{\"size\":\"large\"},\"children\":[{\"kind\":\"resource\",\"id\":\"R\",\"type\":\"Own::T\",\"properties\":{\"A\":{\"Fn::Join\":[\",\",[\"x\",{\"CDK::Context\":[\"days\",7]}]]},\"B\":{\"Fn::Sub\":[\"${!K}${N}-${S/Q}\",{\"N\":{\"CDK::Context\":[\"size\"]}}]}}}]}]}"

-- ---- what the bytes are read as; the keys of each object ascend

abbrev pair : Data → Data → Data
pair d e = array (item d (item e no_items))

abbrev lone : List ℕ → Data → Data
lone k d = object (member k d no_members)

abbrev joined : Data
joined = lone (codes "Fn::Join") (pair (string (codes ",")) (pair (string (codes "x")) (lone (codes "CDK::Context") (pair (string (codes "days")) (number (unsigned 7))))))

abbrev substituted : Data
substituted = lone (codes "Fn::Sub") (pair (string (codes "${!K}${N}-${S/Q}")) (lone (codes "N") (lone (codes "CDK::Context") (array (item (string (codes "size")) no_items)))))

abbrev resource : Data
resource = object (member (codes "id") (string (codes "R")) (member (codes "kind") (string (codes "resource"))
    (member (codes "properties") (object (member (codes "A") joined (member (codes "B") substituted no_members))) (member (codes "type") (string (codes "Own::T")) no_members))))

abbrev context : Members
context = member (codes "size") (string (codes "large")) no_members

abbrev stack : Data
stack = object (member (codes "children") (array (item resource no_items)) (member (codes "context") (object context)
    (member (codes "id") (string (codes "S")) (member (codes "kind") (string (codes "stack")) no_members))))

abbrev document : Data
document = object (member (codes "app") (string (codes "2")) (member (codes "children") (array (item stack no_items)) no_members))

document_is : parsed bytes ≡ Some document
unfolding serde_json_on_literals digits is_utf8 chars
document_is = refl

nothing_found : findings document ≡ []
nothing_found = refl

-- ---- its application

abbrev head : List ℕ → Members → Head
head i ms = record { id = i; context = ms; aspects = []; depends = []; logical = None }

abbrev more : Expression → Expressions → Expressions
more e es = expression.expression e es

abbrev join : Expression
join = expression.join (codes ",") (expression.list (more (expression.text (codes "x")) (more (expression.context (codes "days") (Some (number (unsigned 7)))) expression.no_expressions)))

-- the text's pieces, with the variable put in
abbrev concat : Expression
concat = expression.concat (more (expression.text (codes "${K}")) (more (expression.context (codes "size") None) (more (expression.text (codes "-")) (more (expression.ref (codes "S/Q")) expression.no_expressions))))

abbrev placed_resource : Construct
placed_resource =
    construct.construct (head (codes "R") no_members)
    (construct.resource (record {
      resource_type = codes "Own::T";
      properties = expression.object (expression.field (codes "A") join (expression.field (codes "B") concat expression.no_fields));
      condition = None;
      deletion = None;
      replace = None;
    }))
    construct.no_constructs

abbrev application : Application
application = construct.construct (head [] no_members) construct.root
    (construct.child (construct.construct (head (codes "S") context) (construct.stack None) (construct.child placed_resource construct.no_constructs)) construct.no_constructs)

application_is : application_of document ≡ Some application
application_is = refl

-- ---- the laws

clean : TreeIsClean (constructs_of application)
clean = trees_are_clean bytes document application document_is nothing_found application_is

abbrev settings : List Setting
settings = record { key = codes "days"; value = codes "14" } ∷ []

no_setting_found : setting_findings settings ≡ []
no_setting_found = refl

still_clean : TreeIsClean (constructs_of (with_settings application settings))
still_clean = trees_stay_clean bytes document application settings document_is nothing_found application_is no_setting_found
