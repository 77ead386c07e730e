-- The laws on marking, with all that they rest on put together.
use Rattle.cdk_expansion.specs.Laws.{MarkedIsOwn, MarkingKeepsForms, MarkingKeepsOperands}
use Rattle.cdk_expansion.proofs.CutAgain.{pieces_are_cut_again}
use Rattle.cdk_expansion.proofs.CutLists.{no_list_text}
use Rattle.cdk_expansion.proofs.SoundLaw.{sound_is_right}
use Rattle.cdk_expansion.proofs.ValueOwn.{marked_is_own}
use Rattle.cdk_expansion.proofs.WholeLaws as whole

pub marked_is_own_form : MarkedIsOwn
marked_is_own_form = marked_is_own pieces_are_cut_again no_list_text

pub marking_keeps_forms : MarkingKeepsForms
marking_keeps_forms = whole.marking_keeps_forms sound_is_right marked_is_own_form

pub marking_keeps_operands : MarkingKeepsOperands
marking_keeps_operands = whole.marking_keeps_operands sound_is_right marked_is_own_form
