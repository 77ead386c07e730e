use Rattle.std.proofs.Common.{is_some, sym, ap, ◌∙◌}
use Rattle.cdk_places.proofs.FormNames.{is_name_by_name}
use Rattle.cdk_places.proofs.forms.is_form_name.Goals as goal

pub returns : goal.returns
returns c = c.is_some.ensures ∙ ap is_some c.form_named.ensures ∙ sym (is_name_by_name c.args.key.now)
