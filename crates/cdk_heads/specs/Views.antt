-- What the parts of a construct are seen as (own).
use Rattle.std.specs.Prelude.{ℕ, List, map}
use Rattle.serde_json.specs.View as json
use Rattle.cdk_language.specs.Construct as construct
use Rattle.cdk_language.specs.Construct.{AspectEntry, entry_view}
use Rattle.cdk_language.specs.declared.construct.Entry.{Entry}
use Rattle.cdk_heads.specs.declared.heads.Head.{Head}

abbrev pub entries_view : List Entry → List AspectEntry
entries_view es = map entry_view es

abbrev pub as_they_are : List (List ℕ) → List (List ℕ)
as_they_are ts = ts

abbrev pub head_view : Head → construct.Head
head_view h = record { id = h.id; context = json.members_view h.context.entries; aspects = entries_view h.aspects; depends = h.depends; logical = h.logical }
