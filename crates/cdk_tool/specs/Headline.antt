-- That evaluating the written files gives each property its meaning in the construct tree (own).
use Rattle.std.specs.Prelude.{ℕ, List, IfSome}
use Rattle.std.specs.FinMap.{get}
use Rattle.cdk_base.specs.declared.Setting.{Setting}
use Rattle.cdk_outside.specs.Outside.{Contents, Holds}
use Rattle.cdk_synthesis.specs.Assembly.{tree_of}
use Rattle.cdk_synthesis.specs.Headline.{Means}

-- where the files are told: those that stand now mean what the application that was held means with these settings
abbrev pub MeaningIsKept : List ℕ → List ℕ → List Setting → Contents → Contents → Type 0
MeaningIsKept app directory settings old new = IfSome new (λ m. (bytes : List ℕ) × Holds old app bytes × Means (get m) directory (tree_of bytes settings))
