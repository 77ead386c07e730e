-- The tokens that a table holds, and the marked values.
use Rattle.std.specs.Prelude.{List, map}
use Rattle.cdk_tokens.specs.Token as token
use Rattle.cdk_tokens.specs.Views.{part_view, token_view}
use Rattle.cdk_tokens.specs.Whole as whole
use Rattle.cdk_tokens.specs.declared.marked.Marked.{Marked}
use Rattle.cdk_tokens.specs.declared.table.Table.{Table}

abbrev pub tokens_in : Table → List token.Token
tokens_in t = map token_view t.tokens.items

abbrev pub marked_in : Marked → List whole.MarkedBody
marked_in m = map part_view m.parts.items
