use Rattle.std.proofs.Common.{Some, string_bytes, sym, ap, ◌∙◌}
use Rattle.serde_json.specs.View.{view, items_view}
use Rattle.cdk_spelling.proofs.MergeLemmas.{literal_pushed}
use Rattle.cdk_spelling.proofs.merging.Merging.add_other.Goals as goal

pub returns-in-Some : goal.returns-in-Some
returns-in-Some c =
    let m = c.args.self.now in
    let is = sym c.in_ok-literal.ensures ∙ c.in-Some.is ∙ ap Some (sym c.as_str.ensures) in
    literal_pushed c.push_str.result (items_view m.items.items) (string_bytes m.text) c.as_str.result.now (string_bytes c.push_str.new.self) (view c.args.part) is c.push_str.ensures.bytes
