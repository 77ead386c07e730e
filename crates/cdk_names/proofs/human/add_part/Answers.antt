use Rattle.std.proofs.Common.{not, sym, ap}
use Rattle.cdk_names.proofs.Parts.{unchanged, part_hidden, part_ended, part_unshown}
use Rattle.cdk_names.proofs.human.add_part.Goals as goal

pub returns-then-not-is_visible-clause-name : goal.returns-then-not-is_visible-clause-name
returns-then-not-is_visible-clause-name c =
    unchanged 240 c.args.name.now.bytes _ c.requires (part_hidden c.args.last.now c.args.part.now (sym c.if-not-is_visible.ensures))

pub returns-then-is_repeat-clause-name : goal.returns-then-is_repeat-clause-name
returns-then-is_repeat-clause-name c =
    unchanged 240 c.args.name.now.bytes _ c.requires (part_ended c.args.last.now c.args.part.now (sym c.if-not-is_visible.ensures) (sym c.if-is_repeat.ensures))

pub returns-then-eq-clause-name : goal.returns-then-eq-clause-name
returns-then-eq-clause-name c =
    unchanged 240 c.args.name.now.bytes _ c.requires (part_unshown c.args.last.now c.args.part.now (sym c.if-not-is_visible.ensures) (sym c.if-is_repeat.ensures) (ap not (sym c.if-eq.ensures)))
