-- What a manifest, its own stacks and what is nested say of an assembly.
use Rattle.std.proofs.Common.{◌≡◌, ℕ, zero, suc, ◌-◌, ◌<◌, List, [], Bool, true, false, nat_lt, Some, None, IfSome, Result, Ok, Err, refl, ap, ◌∙◌, subst, arith}
use Rattle.std.specs.Prelude.{codes}
use Rattle.std.proofs.lemmas.Bool.Decides.{nat_tests}
use Rattle.serde_json.specs.Data.{Data}
use Rattle.cdk_outside.specs.Outside.{Contents}
use Rattle.cdk_eval.specs.declared.assembly.AsmError.{AsmError}
use Rattle.cdk_eval.specs.declared.role.Role.TheVariants.{Manifest}
use Rattle.cdk_eval.specs.Manifest.{artifacts, nested_directories}
use Rattle.cdk_eval.specs.Reading.{FileFault, ok_then, path_in}
use Rattle.cdk_eval.specs.Stack.{Stack}
use Rattle.cdk_assemblies.specs.Answers.{Files, Fails, Reads, document_in, onto, each_onto, assembly_in, nested_in, ordered_onto, own_onto}
use Rattle.cdk_assemblies.proofs.Readings.{document_stable, own_stable, level_more, level_last}
use Rattle.cdk_assemblies.proofs.Steps.{fails_same, gives_same, fails_first, fails_next, gives_next}

-- ---- a manifest and its own stacks

abbrev Own : Type 0
Own = Data × List Stack

abbrev pub manifest_path : List ℕ → List ℕ
manifest_path dir = path_in dir (codes "manifest.json")

abbrev then_own : List ℕ → List Stack → Data → Files → Result (Data × List Stack) FileFault
then_own dir before d m = ok_then {B = Data × List Stack} (ordered_onto dir (manifest_path dir) d before m) (λ ss. Ok (d, ss))

pub own_without_manifest : (e : AsmError) (c : Contents) (may_nest : Bool) (dir path : List ℕ) (before : List Stack) → path ≡ manifest_path dir → IfSome c (Fails e (document_in (Manifest may_nest) path)) → IfSome c (Fails e (own_onto may_nest dir before))
own_without_manifest e c may_nest dir path before at h =
    let P : List ℕ → Type 0 = λ p. IfSome c (Fails e (document_in (Manifest may_nest) p)) in
    fails_first {B = Own} e c (document_in (Manifest may_nest) (manifest_path dir)) (then_own dir before) (subst P at h)

pub own_without_stacks : (e : AsmError) (c d : Contents) (may_nest : Bool) (dir path again : List ℕ) (before : List Stack) (manifest : Data) → path ≡ manifest_path dir → again ≡ manifest_path dir → IfSome c (λ m. document_in (Manifest may_nest) path m ≡ Ok manifest) → d ≡ c → IfSome d (Fails e (ordered_onto dir again manifest before)) → IfSome c (Fails e (own_onto may_nest dir before))
own_without_stacks e c d may_nest dir path again before manifest at at_again done same h =
    let P : List ℕ → Type 0 = λ p. IfSome c (λ m. document_in (Manifest may_nest) p m ≡ Ok manifest) in
    let Q : List ℕ → Type 0 = λ p. IfSome d (Fails e (ordered_onto dir p manifest before)) in
    let R : Contents → Type 0 = λ o. IfSome o (Fails e (ordered_onto dir (manifest_path dir) manifest before)) in
    fails_next {B = Own} manifest e c (document_in (Manifest may_nest) (manifest_path dir)) (then_own dir before) (document_stable (Manifest may_nest) (manifest_path dir)) (subst P at done) (fails_first {B = Own} e c (ordered_onto dir (manifest_path dir) manifest before) (λ ss m. Ok (manifest, ss)) (subst R same (subst Q at_again h)))

pub own_read : (c d : Contents) (may_nest : Bool) (dir path again : List ℕ) (before now : List Stack) (manifest : Data) → path ≡ manifest_path dir → again ≡ manifest_path dir → IfSome c (λ m. document_in (Manifest may_nest) path m ≡ Ok manifest) → d ≡ c → IfSome d (λ m. ordered_onto dir again manifest before m ≡ Ok now) → IfSome c (λ m. own_onto may_nest dir before m ≡ Ok (manifest, now))
own_read c d may_nest dir path again before now manifest at at_again done same h =
    let P : List ℕ → Type 0 = λ p. IfSome c (λ m. document_in (Manifest may_nest) p m ≡ Ok manifest) in
    let Q : List ℕ → Type 0 = λ p. IfSome d (λ m. ordered_onto dir p manifest before m ≡ Ok now) in
    let R : Contents → Type 0 = λ o. IfSome o (λ m. ordered_onto dir (manifest_path dir) manifest before m ≡ Ok now) in
    gives_next {B = Own} manifest (manifest, now) c (document_in (Manifest may_nest) (manifest_path dir)) (then_own dir before) (subst P at done) (with_manifest c (ordered_onto dir (manifest_path dir) manifest before) manifest now (subst R same (subst Q at_again h)))
  where
    with_manifest : (c : Contents) (r : Files → Result (List Stack) FileFault) (manifest : Data) (now : List Stack) → IfSome c (λ m. r m ≡ Ok now) → IfSome c (λ m. ok_then {B = Data × List Stack} (r m) (λ ss. Ok (manifest, ss)) ≡ Ok (manifest, now))
    with_manifest None r manifest now h = h
    with_manifest (Some m) r manifest now h = ap (λ o. ok_then {B = Data × List Stack} o (λ ss. Ok (manifest, ss))) h

-- ---- the levels

some_left : (n : ℕ) → nat_lt 0 (suc n) ≡ true
some_left n = grind (arith, nat_tests)

less_one : (n : ℕ) → suc n - 1 ≡ n
less_one n = omega arith

abbrev whole : ℕ → List ℕ → List Stack → Files → Result (List Stack) FileFault
whole levels dir before m = onto before (assembly_in levels dir m)

abbrev below : ℕ → List ℕ → Own → Files → Result (List Stack) FileFault
below levels dir p m = each_onto (nested_in levels dir) p.1 (nested_directories (artifacts p.0)) m

pub level_without_own : (e : AsmError) (c : Contents) (levels : ℕ) (may_nest : Bool) (dir : List ℕ) (before : List Stack) → may_nest ≡ nat_lt 0 levels → IfSome c (Fails e (own_onto may_nest dir before)) → IfSome c (Fails e (λ m. onto before (assembly_in levels dir m)))
level_without_own e c zero may_nest dir before left h =
    let P : Bool → Type 0 = λ b. IfSome c (Fails e (own_onto b dir before)) in
    fails_same e c (whole zero dir before) (λ m. ok_then (own_onto false dir before m) (λ p. Ok p.1)) (level_last dir before) (fails_first e c (own_onto false dir before) (λ p m. Ok p.1) (subst P left h))
level_without_own e c (suc levels) may_nest dir before left h =
    let P : Bool → Type 0 = λ b. IfSome c (Fails e (own_onto b dir before)) in
    fails_same e c (whole (suc levels) dir before) (λ m. ok_then (own_onto true dir before m) (λ p. below levels dir p m)) (level_more levels dir before) (fails_first e c (own_onto true dir before) (below levels dir) (subst P (left ∙ some_left levels) h))

pub last_level : (c : Contents) (levels : ℕ) (may_nest : Bool) (dir : List ℕ) (before now : List Stack) (manifest : Data) → levels ≡ 0 → may_nest ≡ nat_lt 0 levels → IfSome c (λ m. own_onto may_nest dir before m ≡ Ok (manifest, now)) → IfSome c (λ m. onto before (assembly_in levels dir m) ≡ Ok now)
last_level c zero may_nest dir before now manifest none left h =
    let P : Bool → Type 0 = λ b. IfSome c (λ m. own_onto b dir before m ≡ Ok (manifest, now)) in
    gives_same now c (whole zero dir before) (λ m. ok_then (own_onto false dir before m) (λ p. Ok p.1)) (level_last dir before) (stacks_alone c (own_onto false dir before) manifest now (subst P left h))
  where
    stacks_alone : (c : Contents) (r : Files → Result (Data × List Stack) FileFault) (manifest : Data) (now : List Stack) → IfSome c (λ m. r m ≡ Ok (manifest, now)) → IfSome c (λ m. ok_then (r m) (λ p. Ok p.1) ≡ Ok now)
    stacks_alone None r manifest now h = h
    stacks_alone (Some m) r manifest now h = ap (λ o. ok_then o (λ p. Ok p.1)) h
last_level c (suc levels) may_nest dir before now manifest none left h = absurd (omega arith)

level_without_nested : (e : AsmError) (c d : Contents) (levels : ℕ) (may_nest : Bool) (dir : List ℕ) (before now : List Stack) (manifest : Data) (names : List (List ℕ)) → 0 < levels → may_nest ≡ nat_lt 0 levels → IfSome c (λ m. own_onto may_nest dir before m ≡ Ok (manifest, now)) → d ≡ c → names ≡ nested_directories (artifacts manifest) → IfSome d (Fails e (each_onto (nested_in (levels - 1) dir) now names)) → IfSome c (Fails e (λ m. onto before (assembly_in levels dir m)))
level_without_nested e c d zero may_nest dir before now manifest names some left done same named h = absurd (omega arith)
level_without_nested e c d (suc levels) may_nest dir before now manifest names some left done same named h =
    let P : Bool → Type 0 = λ b. IfSome c (λ m. own_onto b dir before m ≡ Ok (manifest, now)) in
    let Q : Contents → Type 0 = λ o. IfSome o (Fails e (each_onto (nested_in (suc levels - 1) dir) now names)) in
    let R : List (List ℕ) → Type 0 = λ ns. IfSome c (Fails e (each_onto (nested_in (suc levels - 1) dir) now ns)) in
    let S : ℕ → Type 0 = λ n. IfSome c (Fails e (each_onto (nested_in n dir) now (nested_directories (artifacts manifest)))) in
    fails_same e c (whole (suc levels) dir before) (λ m. ok_then (own_onto true dir before m) (λ p. below levels dir p m)) (level_more levels dir before) (fails_next (manifest, now) e c (own_onto true dir before) (below levels dir) (own_stable true dir before) (subst P (left ∙ some_left levels) done) (subst S (less_one levels) (subst R named (subst Q same h))))

level_read : (c d : Contents) (levels : ℕ) (may_nest : Bool) (dir : List ℕ) (before now next : List Stack) (manifest : Data) (names : List (List ℕ)) → 0 < levels → may_nest ≡ nat_lt 0 levels → IfSome c (λ m. own_onto may_nest dir before m ≡ Ok (manifest, now)) → d ≡ c → names ≡ nested_directories (artifacts manifest) → IfSome d (λ m. each_onto (nested_in (levels - 1) dir) now names m ≡ Ok next) → IfSome c (λ m. onto before (assembly_in levels dir m) ≡ Ok next)
level_read c d zero may_nest dir before now next manifest names some left done same named h = absurd (omega arith)
level_read c d (suc levels) may_nest dir before now next manifest names some left done same named h =
    let P : Bool → Type 0 = λ b. IfSome c (λ m. own_onto b dir before m ≡ Ok (manifest, now)) in
    let Q : Contents → Type 0 = λ o. IfSome o (λ m. each_onto (nested_in (suc levels - 1) dir) now names m ≡ Ok next) in
    let R : List (List ℕ) → Type 0 = λ ns. IfSome c (λ m. each_onto (nested_in (suc levels - 1) dir) now ns m ≡ Ok next) in
    let S : ℕ → Type 0 = λ n. IfSome c (λ m. each_onto (nested_in n dir) now (nested_directories (artifacts manifest)) m ≡ Ok next) in
    gives_same next c (whole (suc levels) dir before) (λ m. ok_then (own_onto true dir before m) (λ p. below levels dir p m)) (level_more levels dir before) (gives_next (manifest, now) next c (own_onto true dir before) (below levels dir) (subst P (left ∙ some_left levels) done) (subst S (less_one levels) (subst R named (subst Q same h))))

-- a level that has more below it answers what its nested assemblies answer
pub level_goes_on : {T : Type 0} (shown : T → List Stack) (r : Result T AsmError) (c d : Contents) (levels : ℕ) (may_nest : Bool) (dir : List ℕ) (before now : List Stack) (manifest : Data) (names : List (List ℕ)) → 0 < levels → may_nest ≡ nat_lt 0 levels → IfSome c (λ m. own_onto may_nest dir before m ≡ Ok (manifest, now)) → d ≡ c → names ≡ nested_directories (artifacts manifest) → Reads shown r d (each_onto (nested_in (levels - 1) dir) now names) → Reads shown r c (λ m. onto before (assembly_in levels dir m))
level_goes_on shown (Ok t) c d levels may_nest dir before now manifest names some left done same named h =
    level_read c d levels may_nest dir before now (shown t) manifest names some left done same named h
level_goes_on shown (Err e) c d levels may_nest dir before now manifest names some left done same named h =
    level_without_nested e c d levels may_nest dir before now manifest names some left done same named h

-- ---- the whole

onto_none : (r : Result (List Stack) FileFault) → r ≡ onto [] r
onto_none (Ok ss) = refl
onto_none (Err e) = refl

-- the number of levels is a variable here, so that none is opened
pub whole_fails : (e : AsmError) (c : Contents) (levels : ℕ) (dir : List ℕ) (before : List Stack) → before ≡ [] → IfSome c (Fails e (λ m. onto before (assembly_in levels dir m))) → IfSome c (Fails e (assembly_in levels dir))
whole_fails e c levels dir before none h =
    let P : List Stack → Type 0 = λ ss. IfSome c (Fails e (whole levels dir ss)) in
    fails_same e c (assembly_in levels dir) (whole levels dir []) (λ m. onto_none (assembly_in levels dir m)) (subst P none h)
