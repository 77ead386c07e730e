use Rattle.std.proofs.Common.{◌≡◌, ◌||◌, ◌==◌, drop}
use Rattle.std.specs.List.{list_all}
use Rattle.std.specs.Char.{is_ascii_alphanumeric}
use Rattle.cdk_members.proofs.sub.is_attribute.Given as goal

abbrev pub invariant-loop-byte : goal.invariant-loop-byte
invariant-loop-byte l =
    list_all (λ c. is_ascii_alphanumeric c || (c == 46)) l.byte-items ≡ list_all (λ c. is_ascii_alphanumeric c || (c == 46)) (drop l.byte-index l.byte-items)
