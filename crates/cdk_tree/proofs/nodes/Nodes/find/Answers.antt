use Rattle.std.proofs.Common.{◌≡◌, ap, sym, ◌∙◌, Some}
use Rattle.std.proofs.lemmas.List.Quantifiers.{position-Some}
use Rattle.std.specs.Str.{bytes_eq}
use Rattle.cdk_tree.specs.Placed.{find_path, nowhere}
use Rattle.cdk_tree.specs.NodesView.{placed_nodes}
use Rattle.cdk_tree.proofs.Numbered.{find-indexed}
use Rattle.cdk_tree.proofs.nodes.Nodes.find.Goals as goal

pub returns-in-Some-clause-value : goal.returns-in-Some-clause-value
returns-in-Some-clause-value c =
    ap Some c.new.ensures ∙ c.in-Some.ensures ∙ find-indexed c.args.self.now.paths.entries (placed_nodes c.args.self.now) c.args.path.now c.args.self.now.indexed

pub returns-in-Some-clause-within : goal.returns-in-Some-clause-within
returns-in-Some-clause-within c =
    let cs = placed_nodes c.args.self.now in
    let there : find_path cs c.args.path.now ≡ Some c.new.result = sym (returns-in-Some-clause-value c) in
    (position-Some (λ p. bytes_eq c.args.path.now p.path) cs c.new.result nowhere there).0

pub returns-in-None-clause-value : goal.returns-in-None-clause-value
returns-in-None-clause-value c =
    c.in-None.ensures ∙ find-indexed c.args.self.now.paths.entries (placed_nodes c.args.self.now) c.args.path.now c.args.self.now.indexed
