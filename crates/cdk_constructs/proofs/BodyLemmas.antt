-- What a construct is by the name of its kind is what it is by its kind.
use Rattle.std.proofs.Common.{◌≡◌, ℕ, List, Option, option_and_then, refl, sym, ap, ◌∙◌}
use Rattle.serde_json.specs.Data.{Members}
use Rattle.cdk_language.specs.Application.{body_in}
use Rattle.cdk_language.specs.Construct.{Body}
use Rattle.cdk_language.specs.Schema.{kind_named}
use Rattle.cdk_language.specs.declared.schema.KindName.{KindName}
use Rattle.cdk_language.specs.declared.schema.KindName.TheVariants as kinds
use Rattle.cdk_members.proofs.Giving.{tested}
use Rattle.cdk_constructs.specs.Bodies.{body_by}

by_name : (ms : Members) (k : List ℕ) → body_in ms k ≡ option_and_then (body_by ms) (kind_named k)
by_name ms k =
    let f = body_by ms in
    tested f _ kinds.Stage _ _ (tested f _ kinds.Stack _ _ (tested f _ kinds.Group _ _ (tested f _ kinds.Resource _ _ (tested f _ kinds.Parameter _ _
    (tested f _ kinds.Condition _ _ (tested f _ kinds.Mapping _ _ (tested f _ kinds.Output _ _ (tested f _ kinds.Lazy _ _ refl))))))))

pub body_by_name : (ms : Members) (k : List ℕ) (n : Option KindName) → n ≡ kind_named k → body_in ms k ≡ option_and_then (body_by ms) n
body_by_name ms k n named = by_name ms k ∙ ap (option_and_then (body_by ms)) (sym named)
