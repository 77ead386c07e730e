use Rattle.std.proofs.Common.{◌≡◌, drop}
use Rattle.std.specs.List.{list_all}
use Rattle.cdk_names.specs.Forms.{is_stack_name_byte}
use Rattle.cdk_names.proofs.forms.all_in_stack_names.Given as goal

abbrev pub invariant-loop-byte : goal.invariant-loop-byte
invariant-loop-byte l = list_all is_stack_name_byte l.bytes ≡ list_all is_stack_name_byte (drop l.byte-index l.bytes)
