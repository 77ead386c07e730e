use Rattle.std.proofs.Common.{◌≡◌, drop}
use Rattle.serde_json.specs.View.{members_view}
use Rattle.cdk_language.specs.Application.{laid_over}
use Rattle.cdk_settings.proofs.laid.lay_over.Given as goal

abbrev pub invariant-loop-setting : goal.invariant-loop-setting
invariant-loop-setting l = laid_over (members_view l.initial.context.entries) l.settings ≡ laid_over (members_view l.context.entries) (drop l.setting-index l.settings)
