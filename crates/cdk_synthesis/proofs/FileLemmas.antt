-- Files one after another, and markers in templates one after another.
use Rattle.std.proofs.Common.{◌≡◌, ℕ, List, [], ◌∷◌, ◌++◌, filter, map, Bool, true, false, cond, Some, refl, sym, ap, ◌∙◌}
use Rattle.std.specs.Str.{IsUtf8}
use Rattle.cdk_base.specs.declared.code.Code.TheVariants.{MarkerLeft}
use Rattle.cdk_template.specs.Counts.{count_at}
use Rattle.cdk_template.specs.Markers.{has_marker_left, marker_findings_of}
use Rattle.cdk_tree.specs.PlaceFindings.{first, when}
use Rattle.cdk_tree.specs.Placed.{Placed, construct_at, is_stack}
use Rattle.cdk_tree.specs.declared.role.Found.{Found}
use Rattle.cdk_tree.specs.declared.role.PassError.{PassError}
use Rattle.cdk_tree.specs.declared.role.PassError.TheVariants as errors
use Rattle.cdk_synthesis.specs.Assembly.{AllUtf8, template_of_stack, with_template}
use Rattle.cdk_synthesis.specs.Files.{IsFirst, markers_among}
use Rattle.cdk_synthesis.specs.declared.files.File.{File}

pub one_more_utf8 : (fs : List File) (f : File) → AllUtf8 fs → IsUtf8 f.bytes → AllUtf8 (fs ++ f ∷ [])
one_more_utf8 [] f all own = (own, tt)
one_more_utf8 (g ∷ fs) f all own = (all.0, one_more_utf8 fs f all.1 own)

pub with_none : (fs : List File) → fs ++ [] ≡ fs
with_none [] = refl
with_none (f ∷ fs) = ap (λ gs. f ∷ gs) (with_none fs)

pub put_before : (fs : List File) (f : File) (gs : List File) → fs ++ f ∷ gs ≡ (fs ++ f ∷ []) ++ gs
put_before [] f gs = refl
put_before (g ∷ fs) f gs = ap (λ hs. g ∷ hs) (put_before fs f gs)

-- ---- templates

-- the templates of the stacks among the numbers
abbrev pub templates_among : List Placed → List ℕ → List File
templates_among cs ns = map (template_of_stack cs) (filter (λ n. is_stack (construct_at cs n).body) ns)

pub one_more_template : (cs : List Placed) (n : ℕ) (ns : List ℕ) (fs : List File) → fs ++ templates_among cs (n ∷ ns) ≡ with_template cs n fs ++ templates_among cs ns
one_more_template cs n ns fs = by (is_stack (construct_at cs n).body)
  where
    by : (b : Bool) → fs ++ map (template_of_stack cs) (cond b (n ∷ filter (λ m. is_stack (construct_at cs m).body) ns) (filter (λ m. is_stack (construct_at cs m).body) ns))
        ≡ cond b (fs ++ template_of_stack cs n ∷ []) fs ++ templates_among cs ns
    by true = put_before fs (template_of_stack cs n) (templates_among cs ns)
    by false = refl

pub with_own : (cs : List Placed) (n : ℕ) (fs : List File) → is_stack (construct_at cs n).body ≡ true → with_template cs n fs ≡ fs ++ template_of_stack cs n ∷ []
with_own cs n fs is = ap (λ b. cond b (fs ++ template_of_stack cs n ∷ []) fs) is

pub without_own : (cs : List Placed) (n : ℕ) (fs : List File) → is_stack (construct_at cs n).body ≡ false → with_template cs n fs ≡ fs
without_own cs n fs is = ap (λ b. cond b (fs ++ template_of_stack cs n ∷ []) fs) is

-- ---- markers of one stack

pub none_left : (cs : List Placed) (stack : ℕ) → has_marker_left cs stack ≡ false → marker_findings_of cs (stack ∷ []) ≡ []
none_left cs stack none = ap (λ b. map (count_at stack) (when b MarkerLeft) ++ []) none

one_left : (cs : List Placed) (stack : ℕ) → has_marker_left cs stack ≡ true → marker_findings_of cs (stack ∷ []) ≡ count_at stack MarkerLeft ∷ []
one_left cs stack some = ap (λ b. map (count_at stack) (when b MarkerLeft) ++ []) some

pub left_first : (cs : List Placed) (stack : ℕ) (f : Found) → (f ≡ record { code = MarkerLeft; at = stack }) × (has_marker_left cs stack ≡ true) → first (marker_findings_of cs (stack ∷ [])) ≡ Some f
left_first cs stack f is = ap first (one_left cs stack is.1) ∙ ap (λ g. Some g) (sym is.0)

-- ---- markers among numbers

stack_alone : (cs : List Placed) (n : ℕ) → is_stack (construct_at cs n).body ≡ true → markers_among cs (n ∷ []) ≡ marker_findings_of cs (n ∷ [])
stack_alone cs n is = ap (λ b. marker_findings_of cs (cond b (n ∷ []) [])) is

pub no_stack_alone : (cs : List Placed) (n : ℕ) → is_stack (construct_at cs n).body ≡ false → markers_among cs (n ∷ []) ≡ []
no_stack_alone cs n is = ap (λ b. marker_findings_of cs (cond b (n ∷ []) [])) is

pub none_among : (cs : List Placed) (n : ℕ) → is_stack (construct_at cs n).body ≡ true → marker_findings_of cs (n ∷ []) ≡ [] → markers_among cs (n ∷ []) ≡ []
none_among cs n is none = stack_alone cs n is ∙ none

pub first_among : (cs : List Placed) (n : ℕ) (error : PassError) → is_stack (construct_at cs n).body ≡ true → IsFirst error (marker_findings_of cs (n ∷ [])) → IsFirst error (markers_among cs (n ∷ []))
first_among cs n errors.Memory is h = tt
first_among cs n (errors.Fault f) is h = ap first (stack_alone cs n is) ∙ h

own_none : (n : ℕ) (b : Bool) (rest : List Found) → map (count_at n) (when b MarkerLeft) ++ [] ≡ [] → map (count_at n) (when b MarkerLeft) ++ rest ≡ rest
own_none n true rest h = cc
own_none n false rest h = refl

own_first : (n : ℕ) (b : Bool) (rest : List Found) (f : Found) → first (map (count_at n) (when b MarkerLeft) ++ []) ≡ Some f → first (map (count_at n) (when b MarkerLeft) ++ rest) ≡ Some f
own_first n true rest f h = h
own_first n false rest f h = cc

-- where none is left in its own template, those of the rest remain
pub one_more_unmarked : (cs : List Placed) (n : ℕ) (ns : List ℕ) → markers_among cs (n ∷ []) ≡ [] → markers_among cs (n ∷ ns) ≡ markers_among cs ns
one_more_unmarked cs n ns = by (is_stack (construct_at cs n).body)
  where
    rest : List ℕ
    rest = filter (λ m. is_stack (construct_at cs m).body) ns

    by : (b : Bool) → marker_findings_of cs (cond b (n ∷ []) []) ≡ [] → marker_findings_of cs (cond b (n ∷ rest) rest) ≡ markers_among cs ns
    by true none = own_none n (has_marker_left cs n) (marker_findings_of cs rest) none
    by false none = refl

-- where one is left there, it is the first
first_of_more : (cs : List Placed) (n : ℕ) (ns : List ℕ) (f : Found) → first (markers_among cs (n ∷ [])) ≡ Some f → first (markers_among cs (n ∷ ns)) ≡ Some f
first_of_more cs n ns f = by (is_stack (construct_at cs n).body)
  where
    rest : List ℕ
    rest = filter (λ m. is_stack (construct_at cs m).body) ns

    by : (b : Bool) → first (marker_findings_of cs (cond b (n ∷ []) [])) ≡ Some f → first (marker_findings_of cs (cond b (n ∷ rest) rest)) ≡ Some f
    by true is = own_first n (has_marker_left cs n) (marker_findings_of cs rest) f is
    by false is = cc

pub one_more_marked : (cs : List Placed) (n : ℕ) (ns : List ℕ) (error : PassError) → IsFirst error (markers_among cs (n ∷ [])) → IsFirst error (markers_among cs (n ∷ ns))
one_more_marked cs n ns errors.Memory h = tt
one_more_marked cs n ns (errors.Fault f) h = first_of_more cs n ns f h

pub same_first : (fs gs : List Found) (error : PassError) → fs ≡ gs → IsFirst error gs → IsFirst error fs
same_first fs gs errors.Memory same h = tt
same_first fs gs (errors.Fault f) same h = ap first same ∙ h
