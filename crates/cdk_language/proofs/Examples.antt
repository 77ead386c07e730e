-- Small documents and the applications that they are, computed by the definitions.
use Rattle.std.proofs.Common.{◌≡◌, [], ◌∷◌, codes, Some, None, option_map, option_and_then, refl}
use Rattle.std.specs.Fmt.{digits}
use Rattle.serde_json.specs.Read.{read}
use Rattle.serde_json.proofs.OnLiterals.{serde_json_on_literals}
use Rattle.serde_json.specs.Data.{no_members, member, string, object as json_object}
use Rattle.serde_json.specs.Find.{as_object}
use Rattle.cdk_language.specs.Application.{application_of, expression_of, with_settings}
use Rattle.cdk_language.specs.Construct as construct
use Rattle.cdk_language.specs.Expression as expression
use Rattle.cdk_language.specs.Sub.{pieces_of, literal, name, attribute}
use Rattle.cdk_language.specs.declared.expression.Pseudo.TheVariants as pseudos

sub_pieces : pieces_of (codes "a-${S/Q}-${S/Q.Arn.B}-${!keep}${!}") ≡ Some (literal (codes "a-") ∷ name (codes "S/Q") ∷ literal (codes "-") ∷ attribute (codes "S/Q") (codes "Arn.B") ∷ literal (codes "-") ∷ literal (codes "${keep}") ∷ literal (codes "${}") ∷ [])
sub_pieces = refl

sub_without_brace : pieces_of (codes "a${b") ≡ None
sub_without_brace = refl

sub_of_no_name : pieces_of (codes "a${}") ≡ None
sub_of_no_name = refl

sub_of_nested_opening : pieces_of (codes "${a${b}c$") ≡ Some (name (codes "a${b") ∷ literal (codes "c$") ∷ [])
sub_of_nested_opening = refl

variables : option_and_then expression_of (read (codes "{\"Fn::Sub\": [\"${x}${AWS::Region}${x}\", {\"x\": {\"Ref\": \"AWS::NoValue\"}, \"y\": 1}]}"))
    ≡ Some (expression.concat (expression.expression (expression.pseudo pseudos.NoValue) (expression.expression (expression.pseudo pseudos.Region) (expression.expression (expression.pseudo pseudos.NoValue) expression.no_expressions))))
unfolding serde_json_on_literals digits
variables = refl

select_of_a_list : option_and_then expression_of (read (codes "{\"Fn::Select\": [2, [\"a\"]]}")) ≡ Some (expression.select 2 (expression.list (expression.expression (expression.text (codes "a")) expression.no_expressions)))
unfolding serde_json_on_literals digits
select_of_a_list = refl

-- an application with one stack and one resource
small : option_and_then application_of (read (codes "{\"app\":\"2\",\"context\":{\"k\":1},\"aspects\":[{\"name\":\"n\",\"with\":{}}],\"children\":[{\"kind\":\"stack\",\"id\":\"S\",\"children\":[{\"kind\":\"resource\",\"id\":\"R\",\"type\":\"Own::T\",\"logicalId\":\"Kept\",\"properties\":{\"P\":{\"Ref\":\"S/Q\"}}}]}]}"))
    ≡ option_map (λ c. construct.construct
    (record { id = []; context = c; aspects = record { name = codes "n"; literal = json_object no_members; priority = 500 } ∷ []; depends = []; logical = None })
    construct.root
    (construct.child (construct.construct
    (record { id = codes "S"; context = no_members; aspects = []; depends = []; logical = None })
    (construct.stack None)
    (construct.child (construct.construct
    (record { id = codes "R"; context = no_members; aspects = []; depends = []; logical = Some (codes "Kept") })
    (construct.resource (record {
      resource_type = codes "Own::T";
      properties = expression.object (expression.field (codes "P") (expression.ref (codes "S/Q")) expression.no_fields);
      condition = None;
      deletion = None;
      replace = None;
    }))
    construct.no_constructs) construct.no_constructs))
    construct.no_constructs))
    (option_and_then as_object (read (codes "{\"k\":1}")))
unfolding serde_json_on_literals digits
small = refl

-- of two settings with one key the later counts
settings : option_map (λ a. with_settings a (record { key = codes "k"; value = codes "x" } ∷ record { key = codes "k"; value = codes "y" } ∷ [])) (option_and_then application_of (read (codes "{\"app\":\"1\",\"context\":{\"k\":1},\"children\":[]}")))
    ≡ Some (construct.construct (record { id = []; context = member (codes "k") (string (codes "y")) no_members; aspects = []; depends = []; logical = None }) construct.root construct.no_constructs)
unfolding serde_json_on_literals digits
settings = refl
