-- Small applications: what is wrong with their contexts, computed by the definitions.
use Rattle.std.proofs.Common.{◌≡◌, ℕ, List, [], ◌∷◌, codes, Option, Some, option_map, option_and_then, refl}
use Rattle.std.specs.Fmt.{digits}
use Rattle.serde_json.specs.Read.{read}
use Rattle.serde_json.proofs.OnLiterals.{serde_json_on_literals}
use Rattle.cdk_base.specs.declared.code.Code.TheVariants.{LiteralMarker, NoContext}
use Rattle.cdk_language.specs.Application.{application_of}
use Rattle.cdk_tree.specs.Expected.{target_at}
use Rattle.cdk_tree.specs.Placed.{Placed, constructs_of}
use Rattle.cdk_tree.specs.declared.role.Found.{Found}
use Rattle.cdk_contexts.specs.Contexts.{context_findings}

abbrev tree : List ℕ → Option (List Placed)
tree s = option_map constructs_of (option_and_then application_of (read s))

abbrev found : List ℕ → Option (List Found)
found s = option_map context_findings (tree s)

-- a Context that is found nowhere
no_context : found (codes "{\"app\":\"2\",\"children\":[{\"children\":[{\"id\":\"R\",\"kind\":\"resource\",\"properties\":{\"P\":{\"CDK::Context\":[\"none\"]}},\"type\":\"T\"}],\"id\":\"S\",\"kind\":\"stack\"}]}")
    ≡ Some (target_at 2 NoContext ∷ [])
unfolding serde_json_on_literals digits
no_context = refl

-- literals on both sides of a context make the beginning of a marker; it comes first
context_makes_a_marker : found (codes "{\"app\":\"2\",\"children\":[{\"children\":[{\"id\":\"R\",\"kind\":\"resource\",\"properties\":{\"P\":{\"CDK::Concat\":[\"${Tok\",{\"CDK::Context\":[\"k\"]},\"[X.0]}\"]},\"Q\":{\"CDK::Context\":[\"none\"]}},\"type\":\"T\"}],\"id\":\"S\",\"kind\":\"stack\"}],\"context\":{\"k\":\"en\"}}")
    ≡ Some (target_at 2 LiteralMarker ∷ target_at 2 NoContext ∷ [])
unfolding serde_json_on_literals digits
context_makes_a_marker = refl

-- a token between them breaks the run
token_breaks_a_run : found (codes "{\"app\":\"2\",\"children\":[{\"children\":[{\"id\":\"R\",\"kind\":\"resource\",\"properties\":{\"P\":{\"CDK::Concat\":[\"${Tok\",{\"Ref\":\"AWS::Region\"},\"en[X.0]}\"]}},\"type\":\"T\"}],\"id\":\"S\",\"kind\":\"stack\"}]}")
    ≡ Some []
unfolding serde_json_on_literals digits
token_breaks_a_run = refl
