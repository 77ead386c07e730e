use Rattle.std.proofs.Common.{◌≡◌, drop}
use Rattle.cdk_language.specs.Findings.{setting_findings, first}
use Rattle.cdk_settings.proofs.marked.first_setting_finding.Given as goal

abbrev pub invariant-loop-setting : goal.invariant-loop-setting
invariant-loop-setting l = first (setting_findings l.settings) ≡ first (setting_findings (drop l.setting-index l.settings))
