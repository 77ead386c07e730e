-- What is wrong with the ids and places of constructs (own rules over AWS CDK's ids).
use Rattle.std.specs.Prelude.{ℕ, ◌&&◌, List, [], ◌∷◌, ◌++◌, map, nat_eq, not, Bool, if◌then◌else◌, Option, Some, None, is_some}
use Rattle.std.specs.List.{list_any}
use Rattle.std.specs.Option.{option_eq}
use Rattle.std.specs.Str.{bytes_eq}
use Rattle.cdk_base.specs.declared.code.Code.{Code}
use Rattle.cdk_base.specs.declared.code.Code.TheVariants.{BadId, SameId, BadPlace}
use Rattle.cdk_language.specs.Construct.{Body}
use Rattle.cdk_language.specs.declared.finding.Finding.{Finding}
pub use Rattle.cdk_scoping.specs.Ids.{is_id, is_id_byte}
use Rattle.cdk_scoping.specs.Places as places
pub use Rattle.cdk_scoping.specs.Places.{is_element}
use Rattle.cdk_tree.specs.Placed.{Placed, construct_at}

-- both are children of one scope
abbrev pub are_siblings : Placed → Placed → Bool
are_siblings p q = option_eq nat_eq p.parent q.parent

-- a sibling before has the id
abbrev pub has_taken_id : List Placed → Placed → Bool
has_taken_id before p = list_any (λ q. are_siblings p q && bytes_eq p.head.id q.head.id) before

-- whether a construct of the body may not stand at a level, in a scope that is in a stack or not
abbrev pub is_misplaced : Option ℕ → ℕ → Body → Bool
is_misplaced outer level b = places.is_misplaced (is_some outer) level b

abbrev pub when : Bool → Code → List Code
when b c = if b then c ∷ [] else []

-- what is wrong at a construct, the lowest number first; nothing at the root
abbrev pub wrong_at : List Placed → Placed → Option ℕ → List Code
wrong_at before p None = []
wrong_at before p (Some m) = when (not (is_id p.head.id)) BadId ++ (when (has_taken_id before p) SameId ++ when (is_misplaced (construct_at before m).stack p.level p.body) BadPlace)

abbrev pub found_at : List ℕ → Code → Finding
found_at t c = record { code = c; place = t }

-- of the constructs ps, which come after those before; each place is the construct's path
abbrev pub findings_from : List Placed → List Placed → List Finding
findings_from before [] = []
findings_from before (p ∷ ps) = map (found_at p.path) (wrong_at before p p.parent) ++ findings_from (before ++ p ∷ []) ps

abbrev pub place_findings : List Placed → List Finding
place_findings cs = findings_from [] cs

abbrev pub first : {A : Type 0} → List A → Option A
first [] = None
first (x ∷ xs) = Some x
