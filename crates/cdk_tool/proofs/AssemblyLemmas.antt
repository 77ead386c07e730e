-- The first fault of bytes that are too long.
use Rattle.std.proofs.Common.{◌≡◌, ℕ, ◌<◌, List, length, true, Some, if◌then◌else◌, nat_lt, ap, arith}
use Rattle.std.proofs.lemmas.Bool.Decides.{nat_tests}
use Rattle.cdk_base.specs.Json.{parsed}
use Rattle.cdk_base.specs.declared.Setting.{Setting}
use Rattle.cdk_base.specs.declared.code.Code.TheVariants.{TooLong}
use Rattle.cdk_passes.specs.Faults.{here}
use Rattle.cdk_synthesis.specs.Passes.{document_fault, first_fault}

pub long_fault : (bytes : List ℕ) (settings : List Setting) → 16777216 < length bytes → first_fault bytes settings ≡ Some (here TooLong)
long_fault bytes settings long =
    let over : nat_lt 16777216 (length bytes) ≡ true = grind (arith, nat_tests, long) in
    ap (λ b. if b then Some (here TooLong) else document_fault settings (parsed bytes)) over
