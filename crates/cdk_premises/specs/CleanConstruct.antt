-- What the constructs of an application are like that was read without a finding, each for itself (own): its expressions are clean
-- before any context is told, and each value of its context is one that a context may have.
use Rattle.std.specs.Prelude.{◌≡◌, List, [], true, ⊤}
use Rattle.serde_json.specs.Data.{Members, no_members, member}
use Rattle.cdk_expansion.specs.Clean.{IsClean, ListIsClean, is_clean_value}
use Rattle.cdk_language.specs.Construct as construct
use Rattle.cdk_language.specs.Construct.{Construct, Constructs}
use Rattle.cdk_language.specs.Expression.{Expression}
use Rattle.cdk_contexts.specs.Expressions.{expressions_in}

-- where no context is told a Context finds its default alone
abbrev pub IsCleanAlone : Expression → Type 0
IsCleanAlone e = IsClean [] 0 e

abbrev pub AreCleanAlone : List Expression → Type 0
AreCleanAlone es = ListIsClean [] 0 es

abbrev pub IsCleanContext : Members → Type 0
IsCleanContext no_members = ⊤
IsCleanContext (member k d ms) = (is_clean_value d ≡ true) × IsCleanContext ms

abbrev mutual
  pub IsCleanConstruct : Construct → Type 0
  IsCleanConstruct (construct.construct h b cs) = IsCleanContext h.context × AreCleanAlone (expressions_in b) × AreCleanConstructs cs

  pub AreCleanConstructs : Constructs → Type 0
  AreCleanConstructs construct.no_constructs = ⊤
  AreCleanConstructs (construct.child c cs) = IsCleanConstruct c × AreCleanConstructs cs
