use Rattle.std.proofs.Common.{ℕ, sym, ◌∙◌}
use Rattle.cdk_homes.specs.Kept.{entries_in}
use Rattle.cdk_tokens.specs.TableView.{marked_in, tokens_in}
use Rattle.cdk_tree.specs.TreeView.{constructs}
use Rattle.cdk_tree_meaning.proofs.Whole.{values_are_whole}
use Rattle.cdk_synthesis.proofs.CheckedTrees.{order_is_ready}
use Rattle.cdk_synthesis.proofs.OwnSpellings.{spells_own}
use Rattle.cdk_synthesis.proofs.StackLemmas.{alone}
use Rattle.cdk_synthesis.proofs.passes.files_of_named.Goals as goal

pub files_of-requires : goal.files_of-requires
files_of-requires c =
    let cs = constructs c.args.tree.now in
    let ms = marked_in c.args.marks.0.now in
    let ts = tokens_in c.args.marks.1.now in
    let order = c.args.order.now in
    let checked = c.requires.checked in
    let stack = c.first_stack-stack in
    record {
      made = record {
        checked = checked;
        whole = values_are_whole c.values_fit.ensures cs checked;
        sources = record { named = c.requires.names; marks = c.requires.marks.marks; tokens = c.requires.marks.tokens; ready = order_is_ready cs ms ts order checked.sound c.requires.marks c.requires.order };
        own = spells_own c.renderings_are_own.ensures c.condition_renderings_are_own.ensures cs checked.sound checked.cycles (entries_in c.in-Ok.homes) ms ts stack.result order c.requires.marks c.in-Ok.ensures;
        alone = λ n i. alone cs n checked.one i ∙ sym stack.ensures;
      };
    }
