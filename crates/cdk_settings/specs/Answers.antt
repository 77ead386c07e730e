-- What laying settings over a context answers: the context, or exactly the fault of the first setting that has one (own).
use Rattle.std.specs.Prelude.{◌≡◌, List, [], Result, Ok, Err, Some}
use Rattle.serde_json.specs.Data.{Members}
use Rattle.cdk_base.specs.declared.Setting.{Setting}
use Rattle.cdk_base.specs.declared.fault.Fault.{Fault}
use Rattle.cdk_base.specs.declared.fault.Fault.TheVariants as faults
use Rattle.cdk_language.specs.Application.{laid_over}
use Rattle.cdk_language.specs.Findings.{setting_findings, first}
use Rattle.cdk_language.specs.declared.finding.Finding.{Finding}

-- a finding, told as a fault
abbrev pub fault_of : Finding → Fault
fault_of f = faults.App f.code f.place

-- the fault is that of the settings' first finding, or want of memory
abbrev pub IsSettingsFault : Fault → List Setting → Type 0
IsSettingsFault faults.Memory settings = Unit {0}
IsSettingsFault (faults.App code place) settings = first (setting_findings settings) ≡ Some (record { code = code; place = place })
IsSettingsFault (faults.Refused place name text) settings = ⊥

-- what settings make of a context, or their fault
abbrev pub ContextAnswer : {X : Type 0} → Result X Fault → Members → Members → List Setting → Type 0
ContextAnswer (Ok x) old new settings = (setting_findings settings ≡ []) × (new ≡ laid_over old settings)
ContextAnswer (Err fault) old new settings = IsSettingsFault fault settings
