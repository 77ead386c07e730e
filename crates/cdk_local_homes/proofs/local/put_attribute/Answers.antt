use Rattle.std.proofs.Common.{rules, ◌≡◌, Some}
use Rattle.std.specs.Option.{option_map}
use Rattle.std.proofs.lemmas.Result.{on_ok_weaker}
use Rattle.cdk_homes.specs.Kept.{entries_in}
use Rattle.cdk_local_homes.proofs.Putting.{target_put}
use Rattle.cdk_local_homes.proofs.local.put_attribute.Goals as goal
use Rattle.cdk_local_homes.specs.Local.{attribute_in, target_of, target_view}
use Rattle.cdk_tokens.specs.Views.{token_view}

pub returns : goal.returns
returns c =
    let token = token_view c.args.token.now in
    let at = c.in-Some.target.at in
    let attribute = c.in-Some.target.attribute in
    let is : Some (target_view c.in-Some.target) ≡ option_map target_of (attribute_in (token_view c.args.token.now).form) = search rules in
    on_ok_weaker c.put_once.result (λ puts cs ts names are. target_put cs ts c.args.stack token (entries_in c.args.homes.now) (entries_in c.put_once.new.homes) at attribute c.logical_name-name.result.now is (c.logical_name-name.ensures cs names) puts are) c.put_once.ensures
