use Rattle.std.proofs.Common.{List, sym, subst, take}
use Rattle.cdk_homes.specs.Kept.{entries_in}
use Rattle.cdk_local_homes.proofs.Putting.{taken}
use Rattle.cdk_local_homes.proofs.local.put_attributes.Goals as goal
use Rattle.cdk_local_homes.specs.Local.{AreLocal}
use Rattle.cdk_tokens.specs.TableView.{tokens_in}
use Rattle.cdk_tokens.specs.Token.{Token}
use Rattle.cdk_tokens.specs.Views.{token_view}

pub loop-number-preserved : goal.loop-number-preserved
loop-number-preserved c cs names begun =
    let ts = tokens_in c.args.table.now in
    let n = c.loop-number.number in
    let token = token_view c.in-Some.token.now in
    let P : List Token → Type 0 = λ us. AreLocal (entries_in c.put_attribute.new.homes) cs us c.args.stack in
    subst P (sym (taken ts n token c.in-Some.ensures)) (c.in_ok-put_attribute.ensures cs (take n ts) names (c.loop-number.invariant cs names begun))
