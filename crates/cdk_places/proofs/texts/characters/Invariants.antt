use Rattle.std.proofs.Common.{◌≡◌, ◌≤◌, ◌+◌, count_by, drop}
use Rattle.cdk_language.specs.Schema.{begins_character as spec_begins_character}
use Rattle.cdk_places.proofs.texts.characters.Given as goal

abbrev pub invariant-loop-byte : goal.invariant-loop-byte
invariant-loop-byte l = (l.count ≤ l.byte-index) × (l.count + count_by spec_begins_character (drop l.byte-index l.byte-items) ≡ count_by spec_begins_character l.byte-items)
