-- Where a run of literals holds no beginning of a marker, no literal of it does.
use Rattle.std.proofs.Common.{◌≡◌, ℕ, List, [], ◌∷◌, ◌++◌, Bool, true, false, codes, nat_eq, Some, None, refl}
use Rattle.std.specs.Prelude.{◌&&◌, ⊤}
use Rattle.std.specs.List.{starts_with}
use Rattle.cdk_base.specs.Marker.{begins_marker, has_marker}
use Rattle.cdk_expansion.proofs.CutRuns.{unmarked_end}
use Rattle.cdk_language.specs.Runs.{Literals, is_marked_run}
use Rattle.cdk_premises.proofs.Unmarked.{neither, or_false}

-- ---- beginnings of texts

and_false : (b u v : Bool) → (u ≡ false → v ≡ false) → (b && u) ≡ false → (b && v) ≡ false
and_false true u v f e = f e
and_false false u v f e = refl

starts_not : (s t m : List ℕ) → starts_with nat_eq (s ++ t) m ≡ false → starts_with nat_eq s m ≡ false
starts_not s t [] e = e
starts_not [] t (c ∷ m) e = refl
starts_not (x ∷ s) t (c ∷ m) e = and_false (nat_eq c x) (starts_with nat_eq (s ++ t) m) (starts_with nat_eq s m) (starts_not s t m) e

begins_not : (s t : List ℕ) → begins_marker (s ++ t) ≡ false → begins_marker s ≡ false
begins_not s t e =
    let two = or_false (starts_with nat_eq (s ++ t) (codes "${Token[")) (starts_with nat_eq (s ++ t) (codes "#{Token[")) e in
    neither (starts_with nat_eq s (codes "${Token[")) (starts_with nat_eq s (codes "#{Token[")) (starts_not s t (codes "${Token[") two.0) (starts_not s t (codes "#{Token[") two.1)

unmarked_start : (s t : List ℕ) → has_marker (s ++ t) ≡ false → has_marker s ≡ false
unmarked_start [] t e = refl
unmarked_start (x ∷ s) t e =
    let two = or_false (begins_marker (x ∷ (s ++ t))) (has_marker (s ++ t)) e in
    neither (begins_marker (x ∷ s)) (has_marker s) (begins_not (x ∷ s) t two.0) (unmarked_start s t two.1)

-- ---- literals

abbrev pub AreUnmarked : Literals → Type 0
AreUnmarked [] = ⊤
AreUnmarked (Some s ∷ ps) = (has_marker s ≡ false) × AreUnmarked ps
AreUnmarked (None ∷ ps) = AreUnmarked ps

parts_unmarked : (run : List ℕ) (ps : Literals) → is_marked_run run ps ≡ false → (has_marker run ≡ false) × AreUnmarked ps
parts_unmarked run [] e = (e, tt)
parts_unmarked run (Some s ∷ ps) e =
    let rest = parts_unmarked (run ++ s) ps e in
    (unmarked_start run s rest.0, (unmarked_end run s rest.0, rest.1))
parts_unmarked run (None ∷ ps) e =
    let two = or_false (has_marker run) (is_marked_run [] ps) e in
    (two.0, (parts_unmarked [] ps two.1).1)

pub run_unmarked : (ps : Literals) → is_marked_run [] ps ≡ false → AreUnmarked ps
run_unmarked ps e = (parts_unmarked [] ps e).1

pub unmarked_apart : (ps qs : Literals) → AreUnmarked (ps ++ qs) → AreUnmarked ps × AreUnmarked qs
unmarked_apart [] qs h = (tt, h)
unmarked_apart (Some s ∷ ps) qs h = let two = unmarked_apart ps qs h.1 in ((h.0, two.0), two.1)
unmarked_apart (None ∷ ps) qs h = unmarked_apart ps qs h
