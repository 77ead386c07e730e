use Rattle.std.proofs.Common.{◌≡◌, ◌+◌, ap, sym, ◌∙◌, length, arith}
use Rattle.std.specs.String.{string_eq}
use Rattle.indexmap.specs.IndexMap.{insert_entry}
use Rattle.cdk_tree.specs.Slots.{fits_parent, fit_parents, constructs_in, numbered_paths, placed_of}
use Rattle.cdk_tree.specs.NodesView.{placed_nodes}
use Rattle.cdk_tree.proofs.SlotLemmas.{constructs_in-push, fit_parents-push, length-constructs_in}
use Rattle.cdk_tree.proofs.Numbered.{indexed-push}
use Rattle.std.proofs.Common.{subst}
use Rattle.cdk_tree.specs.Slots.{AreScoped}
use Rattle.cdk_tree.proofs.ScopeLemmas.{AreScoped-push}
use Rattle.cdk_tree.proofs.nodes.Nodes.push.Goals as goal

pub invariant_of-result-clause-rooted : goal.invariant_of-result-clause-rooted
invariant_of-result-clause-rooted c =
    let ss = c.args.self.slots in
    let same : length (placed_nodes c.args.self) ≡ 0 + length ss = omega (arith, length-constructs_in ss) in
    ap (fit_parents 0) c.in-Ok.ensures.slots ∙ fit_parents-push 0 ss c.args.slot c.args.self.rooted (ap (λ n. fits_parent n c.args.slot.parent) (sym same) ∙ c.requires.parent)

pub invariant_of-result-clause-indexed : goal.invariant_of-result-clause-indexed
invariant_of-result-clause-indexed c =
    let cs = placed_nodes c.args.self in
    let at : length c.args.self.slots ≡ length cs = sym (length-constructs_in c.args.self.slots) in
    indexed-push c.args.self.paths.entries c.add.new.paths.entries cs (placed_of cs c.args.slot) c.args.path c.args.self.indexed c.requires.new c.requires.path
    (c.in-Ok.ensures.paths ∙ ap (insert_entry string_eq c.args.self.paths.entries c.args.path) at)
    ∙ ap (numbered_paths 0) (sym (ap constructs_in c.in-Ok.ensures.slots ∙ constructs_in-push c.args.self.slots c.args.slot))

pub returns-in-Ok : goal.returns-in-Ok
returns-in-Ok c = ap constructs_in c.in-Ok.ensures.slots ∙ constructs_in-push c.args.self.slots c.args.slot

pub invariant_of-result-clause-scoped : goal.invariant_of-result-clause-scoped
invariant_of-result-clause-scoped c =
    let cs = placed_nodes c.args.self in
    let made = constructs_in-push c.args.self.slots c.args.slot in
    subst AreScoped (sym (ap constructs_in c.in-Ok.ensures.slots ∙ made)) (AreScoped-push cs (placed_of cs c.args.slot) c.args.self.scoped c.requires.scopes)
