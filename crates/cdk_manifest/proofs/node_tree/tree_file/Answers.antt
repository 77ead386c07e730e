use Rattle.std.proofs.Common.{◌≡◌, ℕ, ap, ◌∙◌}
use Rattle.serde_json.specs.Data.{Data}
use Rattle.serde_json.specs.View.{view}
use Rattle.serde_json.specs.declared.value.Value.{Value}
use Rattle.cdk_language.specs.Construct.{Application}
use Rattle.cdk_language.specs.Expression.{Expression}
use Rattle.cdk_tree.specs.Placed.{construct_at, constructs_of}
use Rattle.cdk_tree.specs.TreeView.{constructs}
use Rattle.cdk_manifest.specs.TreeFile.{node_of, tree_document, tree_file_of}
use Rattle.cdk_manifest.specs.Values.{AreProperties}
use Rattle.cdk_manifest.proofs.TreeLemmas.{root_node-made, IfOk-more}
use Rattle.cdk_manifest.proofs.node_tree.tree_file.Goals as goal

pub returns : goal.returns
returns c =
    let cs = constructs c.args.tree.now in
    let values = c.args.values.now in
    let root = c.in_ok-root.root in
    let whole : (v : Value) → view v ≡ tree_document (view root)
    → (a : Application) (value : ℕ → Expression → Data) → cs ≡ constructs_of a → AreProperties values value cs → view v ≡ tree_file_of value a =
    λ v made a value is are.
    made
    ∙ ap tree_document
    (c.in_ok-root.ensures value are
    ∙ ap (node_of value 0 (construct_at cs 0)) (c.take-of_root.ensures.members ∙ c.in_ok-children.ensures.members value are)
    ∙ root_node-made value a cs is) in
    IfOk-more (λ v. view v ≡ tree_document (view root)) (λ v. (a : Application) (value : ℕ → Expression → Data) → cs ≡ constructs_of a → AreProperties values value cs → view v ≡ tree_file_of value a)
    _ whole c.document_of.ensures
