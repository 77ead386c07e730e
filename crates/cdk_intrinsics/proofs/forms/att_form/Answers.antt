use Rattle.std.proofs.Common.{ap, sym, ◌∙◌}
use Rattle.serde_json.specs.View.{view}
use Rattle.serde_json.proofs.Views.{view-Array}
use Rattle.cdk_eval.specs.Template.{parts, att_form}
use Rattle.cdk_scopes.specs.Scopes.{scope_view}
use Rattle.cdk_intrinsics.proofs.Parts.{att_other}
use Rattle.cdk_intrinsics.proofs.forms.att_form.Goals as goal

pub returns-in_default-two_of : goal.returns-in_default-two_of
returns-in_default-two_of c =
    let s = scope_view c.args.scope.now in
    att_other s c.in-Array.items.items c.in_default-two_of.ensures ∙ sym (ap (λ d. att_form s (parts s d)) (ap view c.in-Array.is ∙ view-Array c.in-Array.items))
