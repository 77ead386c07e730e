use Rattle.std.proofs.Common.{◌≡◌, true, sym, ap, ◌∙◌}
use Rattle.std.proofs.lemmas.Result.{on_ok_weaker}
use Rattle.cdk_homes.specs.Kept.{entries_in}
use Rattle.cdk_local_homes.proofs.Putting.{element_put}
use Rattle.cdk_local_homes.proofs.local.put_element.Goals as goal
use Rattle.cdk_tree.specs.PlaceFindings.{is_element}
use Rattle.cdk_tree.specs.Placed.{construct_at}
use Rattle.cdk_tree.specs.TreeView.{constructs}

pub returns : goal.returns
returns c =
    let cs = constructs c.args.tree.now in
    let at = c.args.at in
    let is : is_element (construct_at cs at).body ≡ true = sym (c.if-not-is_element.ensures ∙ ap is_element c.node-node.ensures.body) in
    on_ok_weaker c.put_once.result (λ puts. element_put cs c.args.stack at (entries_in c.args.homes.now) (entries_in c.put_once.new.homes) c.logical_name.result.now (c.logical_name.ensures cs c.requires.names) is c.requires.before puts) c.put_once.ensures
