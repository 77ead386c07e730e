-- A small application that is sound, so that its expressions are right: a Concat of a literal, a context's value and a reference.
use Rattle.std.proofs.Common.{◌≡◌, ℕ, zero, suc, List, [], ◌∷◌, codes, length, Some, None, option_map, option_and_then, refl, arith}
use Rattle.std.specs.Fmt.{digits}
use Rattle.serde_json.specs.Data.{no_members, member, string}
use Rattle.serde_json.specs.Read.{read}
use Rattle.serde_json.proofs.OnLiterals.{serde_json_on_literals}
use Rattle.cdk_language.specs.Application.{application_of}
use Rattle.cdk_language.specs.Construct.{Application, Construct, Head, child, construct, no_constructs, resource, root, stack}
use Rattle.cdk_language.specs.Expression.{Expression, concat, context, expression, field, no_expressions, no_fields, object, ref, text}
use Rattle.cdk_tree.specs.Expected.{target_findings}
use Rattle.cdk_tree.specs.Placed.{Placed, constructs_of}
use Rattle.cdk_contexts.specs.Contexts.{context_findings}
use Rattle.cdk_tokens.specs.Whole.{tokens_of}
use Rattle.cdk_expansion.specs.Clean.{TreeIsClean}
use Rattle.cdk_expansion.specs.Laws.{IsSound}
use Rattle.cdk_expansion.specs.Right.{ListIsRight}
use Rattle.cdk_expansion.proofs.SoundLaw.{sound_is_right}

abbrev properties : Expression
properties = object (field (codes "P") (concat (expression (text (codes "orders-")) (expression (context (codes "size") None) (expression (ref (codes "S/Q")) no_expressions)))) no_fields)

abbrev head : List ℕ → Head
head id = record { id = id; context = no_members; aspects = []; depends = []; logical = None }

abbrev resource_of : List ℕ → Expression → Construct
resource_of id e = construct (head id) (resource (record { resource_type = codes "T"; properties = e; condition = None; deletion = None; replace = None })) no_constructs

abbrev application : Application
application =
    construct (record { id = []; context = member (codes "size") (string (codes "large")) no_members; aspects = []; depends = []; logical = None }) root
    (child (construct (head (codes "S")) (stack None) (child (resource_of (codes "R") properties) (child (resource_of (codes "Q") (object no_fields)) no_constructs))) no_constructs)

abbrev placed : List Placed
placed = constructs_of application

-- it is read from this text
is_read : option_map constructs_of (option_and_then application_of (read (codes "{\"app\":\"2\",\"children\":[{\"children\":[{\"id\":\"R\",\"kind\":\"resource\",\"properties\":{\"P\":{\"CDK::Concat\":[\"orders-\",{\"CDK::Context\":[\"size\"]},{\"Ref\":\"S/Q\"}]}},\"type\":\"T\"},{\"id\":\"Q\",\"kind\":\"resource\",\"properties\":{},\"type\":\"T\"}],\"id\":\"S\",\"kind\":\"stack\"}],\"context\":{\"size\":\"large\"}}")))
    ≡ Some placed
unfolding serde_json_on_literals digits
is_read = refl

clean : TreeIsClean placed
clean zero h = tt
clean (suc zero) h = tt
clean (suc (suc zero)) h = (((tt, refl, (tt, refl, (tt, tt, tt))), tt), tt)
clean (suc (suc (suc zero))) h = (tt, tt)
clean (suc (suc (suc (suc n)))) h = let few : length placed ≡ 4 = refl in absurd (omega (arith, h, few))

right_targets : target_findings placed ≡ []
right_targets = refl

right_contexts : context_findings placed ≡ []
right_contexts = refl

sound : IsSound placed
sound = let one : length (tokens_of placed) ≡ 1 = refl in record { clean = clean; targets = right_targets; contexts = right_contexts; few = omega (arith, one) }

right : ListIsRight placed 2 (properties ∷ [])
right = let many : length placed ≡ 4 = refl in sound_is_right placed sound 2 (omega (arith, many))
