-- The homes of a small application's one stack, put one after another, and what is rendered with them: the resource 3 mentions an
-- attribute of the resource 2.
use Rattle.std.proofs.Common.{◌≡◌, ℕ, List, [], ◌∷◌, ◌++◌, codes, false, Option, Some, None, option_and_then, option_map, refl, ◌∙◌, arith}
use Rattle.std.specs.Fmt.{digits}
use Rattle.serde_json.specs.Data.{Data, member, no_members, object, string}
use Rattle.serde_json.specs.Read.{read}
use Rattle.serde_json.proofs.OnLiterals.{serde_json_on_literals}
use Rattle.cdk_elements.specs.Elements.{own_homes}
use Rattle.cdk_expansion.specs.Expanded.{plain_of}
use Rattle.cdk_homes.specs.Homes.{Entry}
use Rattle.cdk_homes.specs.declared.target.Home.TheVariants as ways
use Rattle.cdk_language.specs.Application.{application_of}
use Rattle.cdk_language.specs.Construct.{Application, child, Construct, construct, Head, no_constructs, resource, root, stack}
use Rattle.cdk_language.specs.Expression as expression
use Rattle.cdk_language.specs.Expression.{Fields}
use Rattle.cdk_local_homes.proofs.LocalRenders.{local_homes_render}
use Rattle.cdk_local_homes.proofs.Putting.{all_elements, attribute_put, element_passed, element_put, no_elements, puts_new}
use Rattle.cdk_local_homes.specs.Local.{AreLocal, HasElementsBelow}
use Rattle.cdk_plain.specs.Rendered.{one, rendered, two}
use Rattle.cdk_spelling.specs.Spelled.{homes_for}
use Rattle.cdk_tokens.specs.Token as token
use Rattle.cdk_tokens.specs.Token.{Token}
use Rattle.cdk_tokens.specs.Whole.{marking, tokens_of, value_at}
use Rattle.cdk_tree.specs.Placed.{constructs_of, Placed}

-- ---- the application

abbrev head : List ℕ → Option (List ℕ) → Head
head id logical = record { id = id; context = no_members; aspects = []; depends = []; logical = logical }

abbrev resource_with : List ℕ → List ℕ → Fields → Construct
resource_with id name fs =
    construct (head id (Some name)) (resource (record { resource_type = codes "T"; properties = expression.object fs; condition = None; deletion = None; replace = None })) no_constructs

abbrev application : Application
application =
    construct (head [] None) root
    (child
    (construct (head (codes "S") None) (stack None)
    (child (resource_with (codes "A") (codes "First") expression.no_fields)
    (child (resource_with (codes "B") (codes "Second") (expression.field (codes "P") (expression.get_att (codes "S/A") (codes "Arn")) expression.no_fields)) no_constructs)))
    no_constructs)

abbrev placed : List Placed
placed = constructs_of application

-- it is read from this text
is_read : option_map constructs_of (option_and_then application_of (read (codes "{\"app\":\"2\",\"children\":[{\"children\":[{\"id\":\"A\",\"kind\":\"resource\",\"logicalId\":\"First\",\"properties\":{},\"type\":\"T\"},{\"id\":\"B\",\"kind\":\"resource\",\"logicalId\":\"Second\",\"properties\":{\"P\":{\"Fn::GetAtt\":[\"S/A\",\"Arn\"]}},\"type\":\"T\"}],\"id\":\"S\",\"kind\":\"stack\"}]}")))
    ≡ Some placed
unfolding serde_json_on_literals digits
is_read = refl

abbrev attribute : Token
attribute = record { key = codes "GetAtt.0"; owner = 3; is_list = false; form = token.get_att 2 (codes "Arn") }

are_tokens : tokens_of placed ≡ attribute ∷ []
unfolding digits
are_tokens = refl

-- ---- its homes

abbrev entry : ℕ → Option (List ℕ) → List ℕ → Entry
entry n a name = record { consumer = 1; at = n; attribute = a; name = name; how = ways.Local }

abbrev first : List Entry
first = entry 2 None (codes "First") ∷ []

abbrev both : List Entry
both = first ++ entry 3 None (codes "Second") ∷ []

abbrev all : List Entry
all = both ++ entry 2 (Some (codes "Arn")) (codes "First") ∷ []

elements : AreLocal both placed [] 1
elements =
    let none : HasElementsBelow [] placed 1 2 = element_passed placed 1 1 [] refl (element_passed placed 1 0 [] refl (no_elements [] placed 1 refl)) in
    let one_there : HasElementsBelow first placed 1 3 = element_put placed 1 2 [] first (codes "First") refl refl none (puts_new [] first 1 2 None (codes "First") (none.later 2 (omega arith)) refl) in
    let two_there : HasElementsBelow both placed 1 4 = element_put placed 1 3 first both (codes "Second") refl refl one_there (puts_new first both 1 3 None (codes "Second") (one_there.later 3 (omega arith)) refl) in
    all_elements both placed 1 4 refl two_there

are_local : AreLocal all placed (attribute ∷ []) 1
are_local =
    attribute_put placed [] 1 attribute both all 2 (codes "Arn") (codes "First") refl refl (puts_new both all 1 2 (Some (codes "Arn")) (codes "First") (elements.attributes 2 (codes "Arn")) refl) elements

-- ---- what is rendered with them

abbrev marked : Data
marked = object (member (codes "P") (string (codes "${Token[GetAtt.0]}")) no_members)

is_marked : value_at (marking placed) 3 ≡ Some marked
unfolding digits
is_marked = refl

abbrev json : Data
json = object (member (codes "P") (one (codes "Fn::GetAtt") (two (string (codes "First")) (string (codes "Arn")))) no_members)

own_json : rendered (own_homes placed) (plain_of 0 (attribute ∷ []) (marking placed) marked) ≡ json
unfolding digits
own_json = refl

local_json : rendered (homes_for all 1) (plain_of 0 (attribute ∷ []) (marking placed) marked) ≡ json
local_json = local_homes_render all placed (attribute ∷ []) (marking placed) 1 are_local 0 marked ∙ own_json
