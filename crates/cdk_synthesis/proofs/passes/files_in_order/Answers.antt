use Rattle.std.proofs.Common.{◌∷◌, Err}
use Rattle.cdk_passes.proofs.FirstFaults.{first_stays}
use Rattle.cdk_passes.specs.Faults.{told}
use Rattle.cdk_passes.specs.Values.{ChecksValuesAndSizes, values_and_sizes}
use Rattle.cdk_stacks.specs.Claims.{name_findings}
use Rattle.cdk_tokens.specs.TableView.{marked_in, tokens_in}
use Rattle.cdk_tokens.specs.Whole.{marking, tokens_of}
use Rattle.cdk_tree.specs.TreeView.{constructs}
use Rattle.cdk_synthesis.specs.Passes.{template_passes}
use Rattle.cdk_synthesis.proofs.CheckedTrees.{order_suits, to_marks}
use Rattle.cdk_synthesis.proofs.passes.files_in_order.Goals as goal

pub check_values_and_sizes-requires : goal.check_values_and_sizes-requires
check_values_and_sizes-requires c =
    order_suits (constructs c.args.tree.now) (marked_in c.args.marked.now) (tokens_in c.args.table.now) c.args.order.now c.requires.ordered.marked.sound c.requires.marks c.requires.order

pub returns-in-Err-clause-answer : goal.returns-in-Err-clause-answer
returns-in-Err-clause-answer c =
    let cs = constructs c.args.tree.now in
    let fault = c.in-Err.fault in
    first_stays (values_and_sizes cs (tokens_of cs) (marking cs)) (told cs (name_findings cs) ∷ template_passes cs) fault
    (to_marks (λ ts ms. ChecksValuesAndSizes cs ts ms (Err fault)) cs (marked_in c.args.marked.now) (tokens_in c.args.table.now) c.requires.marks c.in-Err.ensures)
