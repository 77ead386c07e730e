-- What the constructs of an application are like that was read without a finding, each for itself (own): what it has is formed before any
-- context is told, and so is each value of its context.
use Rattle.std.specs.Prelude.{[], ⊤}
use Rattle.serde_json.specs.Data.{Members, no_members, member}
use Rattle.cdk_premises.specs.Formed.{IsFormedBody, IsFormedValue}
use Rattle.cdk_language.specs.Construct as construct
use Rattle.cdk_language.specs.Construct.{Body, Construct, Constructs}

-- where no context is told a Context finds its default alone
abbrev pub IsFormedBodyAlone : Body → Type 0
IsFormedBodyAlone b = IsFormedBody [] 0 b

abbrev pub IsFormedContext : Members → Type 0
IsFormedContext no_members = ⊤
IsFormedContext (member k d ms) = IsFormedValue d × IsFormedContext ms

abbrev mutual
  pub IsFormedConstruct : Construct → Type 0
  IsFormedConstruct (construct.construct h b cs) = IsFormedContext h.context × IsFormedBodyAlone b × AreFormedConstructs cs

  pub AreFormedConstructs : Constructs → Type 0
  AreFormedConstructs construct.no_constructs = ⊤
  AreFormedConstructs (construct.child c cs) = IsFormedConstruct c × AreFormedConstructs cs
