-- What the reader of applications answers: the application, or exactly the first fault (own).
use Rattle.std.specs.Prelude.{◌≡◌, ℕ, List, [], ◌⊎◌, Result, Ok, Err, Some, None}
use Rattle.serde_json.specs.Data.{Data}
use Rattle.serde_json.specs.View.{view}
use Rattle.serde_json.specs.declared.value.Value.{Value}
use Rattle.cdk_base.specs.Json.{parsed}
use Rattle.cdk_base.specs.declared.Setting.{Setting}
use Rattle.cdk_base.specs.declared.code.Code.{Code}
use Rattle.cdk_base.specs.declared.code.Code.TheVariants.{NotJson}
use Rattle.cdk_base.specs.declared.fault.Fault.{Fault}
use Rattle.cdk_base.specs.declared.fault.Fault.TheVariants as faults
use Rattle.cdk_language.specs.Application.{application_of, with_settings}
use Rattle.cdk_language.specs.Construct.{Application, app_view}
use Rattle.cdk_language.specs.Findings.{findings, setting_findings, first}
use Rattle.cdk_language.specs.declared.construct.App.{App}
use Rattle.cdk_settings.specs.Answers.{IsSettingsFault}

-- the document's application, where nothing is found in it
pub record IsReadAs (bytes : List ℕ) (app : Application) : Type 0 where
  pub document : Data
  pub holds : parsed bytes ≡ Some document
  pub clean : findings document ≡ []
  pub is : application_of document ≡ Some app

-- the first finding is of this code at this place
pub record IsFirstFinding (bytes : List ℕ) (code : Code) (place : List ℕ) : Type 0 where
  pub document : Data
  pub holds : parsed bytes ≡ Some document
  pub found : first (findings document) ≡ Some (record { code = code; place = place })

-- no JSON is told at the empty place
pub record IsNotJson (bytes : List ℕ) (code : Code) (place : List ℕ) : Type 0 where
  pub no_json : parsed bytes ≡ None
  pub named : code ≡ NotJson
  pub nowhere : place ≡ []

-- a document's application, where nothing is found in it, else its first finding
abbrev pub DocumentAnswer : Result App Fault → Data → Type 0
DocumentAnswer (Ok app) d = (findings d ≡ []) × (application_of d ≡ Some (app_view app))
DocumentAnswer (Err faults.Memory) d = Unit {0}
DocumentAnswer (Err (faults.App code place)) d = first (findings d) ≡ Some (record { code = code; place = place })
DocumentAnswer (Err (faults.Refused place name text)) d = ⊥

-- the fault of bytes that are no JSON
abbrev pub IsNotJsonFault : Fault → Type 0
IsNotJsonFault faults.Memory = Unit {0}
IsNotJsonFault (faults.App code place) = (code ≡ NotJson) × (place ≡ [])
IsNotJsonFault (faults.Refused place name text) = ⊥

abbrev pub ParseAnswer : Result Value Fault → List ℕ → Type 0
ParseAnswer (Ok value) bytes = parsed bytes ≡ Some (view value)
ParseAnswer (Err faults.Memory) bytes = Unit {0}
ParseAnswer (Err (faults.App code place)) bytes = IsNotJson bytes code place
ParseAnswer (Err (faults.Refused place name text)) bytes = ⊥

abbrev pub ReadAnswer : Result App Fault → List ℕ → Type 0
ReadAnswer (Ok app) bytes = IsReadAs bytes (app_view app)
ReadAnswer (Err faults.Memory) bytes = Unit {0}
ReadAnswer (Err (faults.App code place)) bytes = IsNotJson bytes code place ⊎ IsFirstFinding bytes code place
ReadAnswer (Err (faults.Refused place name text)) bytes = ⊥

-- what settings make of an application, or their fault
abbrev pub LaidAnswer : {X : Type 0} → Result X Fault → Application → Application → List Setting → Type 0
LaidAnswer (Ok x) old new settings = (setting_findings settings ≡ []) × (new ≡ with_settings old settings)
LaidAnswer (Err fault) old new settings = IsSettingsFault fault settings

abbrev pub SettingsAnswer : Result App Fault → Application → List Setting → Type 0
SettingsAnswer (Ok app) old settings = (setting_findings settings ≡ []) × (app_view app ≡ with_settings old settings)
SettingsAnswer (Err fault) old settings = IsSettingsFault fault settings
