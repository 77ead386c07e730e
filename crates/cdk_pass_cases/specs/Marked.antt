-- What is known of a tree's tokens and marked values once its targets and contexts are checked (own).
use Rattle.std.specs.Prelude.{◌≡◌, List, []}
use Rattle.cdk_expansion.specs.Clean.{TreeIsClean}
use Rattle.cdk_contexts.specs.Contexts.{context_findings}
use Rattle.cdk_tokens.specs.Token.{Token}
use Rattle.cdk_tokens.specs.Whole.{MarkedBody, marking, tokens_of}
use Rattle.cdk_tree.specs.Expected.{target_findings}
use Rattle.cdk_tree.specs.Placed.{Placed}

-- they are those of constructs with clean expressions, right targets and right contexts
pub record AreMarked (cs : List Placed) (ts : List Token) (ms : List MarkedBody) : Type 0 where
  pub clean : TreeIsClean cs
  pub targets : target_findings cs ≡ []
  pub contexts : context_findings cs ≡ []
  pub tokens : ts ≡ tokens_of cs
  pub marked : ms ≡ marking cs
