-- The first finding, and where there is none.
use Rattle.std.proofs.Common.{◌≡◌, List, [], ◌∷◌, Some, None, refl}
use Rattle.cdk_language.specs.Findings.{first}
use Rattle.cdk_language.specs.declared.finding.Finding.{Finding}

pub none_found : (fs : List Finding) → None ≡ first fs → fs ≡ []
none_found [] e = refl
none_found (f ∷ fs) e = absurd (cc)

pub none_some : {A : Type 0} (a : A) → None ≡ Some a → ⊥
none_some a h = cc
