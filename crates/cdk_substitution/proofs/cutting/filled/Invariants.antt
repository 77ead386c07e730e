use Rattle.std.proofs.Common.{length}
use denote.Text.{Utf8}
use denote.Shadow.{shadow}
use Rattle.cdk_language.specs.Expression.{Fields}
use Rattle.cdk_language.specs.Sub.{pieces_of}
use Rattle.cdk_substitution.specs.Steps.{Have}
use Rattle.cdk_substitution.proofs.Pieces.{Found, whole_of}
use Rattle.cdk_substitution.proofs.cutting.filled.Given as goal

abbrev pub invariant-pieces : goal.invariant-pieces
invariant-pieces l = shadow (Utf8 l.rest) × ((fs : Fields) → Have l.variables fs → Found fs (whole_of fs (pieces_of l.text)) l.found l.rest)

abbrev pub decreases-pieces : goal.decreases-pieces
decreases-pieces l = length l.rest
