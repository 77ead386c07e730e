-- From the files that stand after a synthesis to their meaning.
use Rattle.std.proofs.Common.{◌≡◌, ℕ, List, [], ◌∷◌, drop, map, Bool, true, false, Option, Some, None, if◌then◌else◌, refl, sym, ap, ◌∙◌, subst}
use Rattle.std.specs.Prelude.{codes, bytes_eq}
use Rattle.std.specs.Ordering.{nat_cmp}
use Rattle.std.specs.Cmp.Lexicographic.{slice_cmp}
use Rattle.std.specs.FinMap.{FinMap, get}
use Rattle.std.proofs.lemmas.Slice.Eq.{bytes_eq-Decides}
use Rattle.cdk_base.specs.declared.Setting.{Setting}
use Rattle.cdk_eval.specs.Reach.{is_among}
use Rattle.cdk_meaning.specs.Names.{AreDistinct, Each}
use Rattle.cdk_meaning.proofs.NameLists.{neither, same_bytes}
use Rattle.cdk_outside.specs.Outside.{Contents, Holds}
use Rattle.cdk_synthesis.specs.Assembly.{AllUtf8, assembly_of, names_of, tree_of}
use Rattle.cdk_synthesis.specs.Checks.{AreCounted}
use Rattle.cdk_synthesis.specs.Headline.{FilesKeepMeaning, StandUnder}
use Rattle.cdk_synthesis.specs.Passes.{first_fault}
use Rattle.cdk_synthesis.specs.declared.files.File.{File}
use Rattle.cdk_synthesis.proofs.AssemblyLaws.{files_are_named_law}
use Rattle.cdk_write.specs.Standing.{left_by, left_by_all}
use Rattle.cdk_write.specs.Steps.{WriteStep, remove, path_in, files_after_all}
use Rattle.cdk_write.proofs.StandingLemmas.{after_all, all_is, get_after_all, none_after_all}
use Rattle.cdk_tool.specs.Assembly.{put_in, steps_of}
use Rattle.cdk_tool.specs.Headline.{MeaningIsKept}

abbrev Files : Type 0
Files = FinMap (slice_cmp nat_cmp) (List ℕ)

-- ---- paths in a directory

not_true : (b : Bool) → (b ≡ true → ⊥) → b ≡ false
not_true true h = absurd (h refl)
not_true false h = refl

pub same_name : (directory a b : List ℕ) → path_in directory a ≡ path_in directory b → a ≡ b
same_name [] a b h = ap (drop 1) h
same_name (x ∷ directory) a b h = same_name directory a b (ap (drop 1) h)

-- other names have other paths
pub other_path : (directory a b : List ℕ) → bytes_eq a b ≡ false → bytes_eq (path_in directory a) (path_in directory b) ≡ false
other_path directory a b h =
    not_true _ (λ same. let names : bytes_eq a b ≡ true = ap (λ x. bytes_eq a x) (sym (same_name directory a b ((bytes_eq-Decides _ _).0 same))) ∙ same_bytes a in cc (names, h))

-- ---- what puts leave

module _ (directory : List ℕ) where
  -- under another name
  pub kept : (q : List ℕ) (files : List File) (before : Option (List ℕ)) → is_among q (names_of files) ≡ false → left_by_all (map (put_in directory) files) (path_in directory q) before ≡ before
  kept q [] before other = refl
  kept q (f ∷ files) before other =
      let both = neither (bytes_eq q f.name) (is_among q (names_of files)) other in
      kept q files (left_by (put_in directory f) (path_in directory q) before) both.1
      ∙ ap (λ b. if b then Some f.bytes else before) (other_path directory q f.name both.0)

  -- under their own
  each_stands : (files : List File) (before : List ℕ → Option (List ℕ)) → AreDistinct (names_of files)
      → Each (λ f. left_by_all (map (put_in directory) files) (path_in directory f.name) (before (path_in directory f.name)) ≡ Some f.bytes) files
  each_stands [] before apart = tt
  each_stands (f ∷ files) before apart = (
    kept f.name files (left_by (put_in directory f) (path_in directory f.name) (before (path_in directory f.name))) apart.0
        ∙ ap (λ b. if b then Some f.bytes else before (path_in directory f.name)) (same_bytes (path_in directory f.name)),
    each_stands files (λ q. left_by (put_in directory f) q (before q)) apart.1,
  )

each_got : (steps : List WriteStep) (m : Files) (directory : List ℕ) (files : List File) → Each (λ f. left_by_all steps (path_in directory f.name) (get m (path_in directory f.name)) ≡ Some f.bytes) files → StandUnder (get (after_all steps m)) directory files
each_got steps m directory [] h = tt
each_got steps m directory (f ∷ files) h = (get_after_all steps m (path_in directory f.name) ∙ h.0, each_got steps m directory files h.1)

-- all files stand under the directory
stand : (directory : List ℕ) (files : List File) (m : Files) → AreDistinct (names_of files) → StandUnder (get (after_all (steps_of directory files) m)) directory files
stand directory files m apart =
    each_got (steps_of directory files) m directory files (each_stands directory files (λ q. left_by (remove (path_in directory (codes "manifest.json"))) q (get m q)) apart)

-- ---- the meaning

kept_at : FilesKeepMeaning → (app directory bytes : List ℕ) (settings : List Setting) (old : Contents) → Holds old app bytes → first_fault bytes settings ≡ None → AreCounted (tree_of bytes settings) → AllUtf8 (assembly_of bytes settings) → MeaningIsKept app directory settings old (files_after_all (steps_of directory (assembly_of bytes settings)) old)
kept_at keep app directory bytes settings None held none counted utf8 = let P : Contents → Type 0 = λ c. MeaningIsKept app directory settings None c in subst P (sym (none_after_all (steps_of directory (assembly_of bytes settings)))) tt
kept_at keep app directory bytes settings (Some m) held none counted utf8 =
    let steps = steps_of directory (assembly_of bytes settings) in
    let named = files_are_named_law bytes settings none in
    let means = keep bytes settings none counted utf8 (get (after_all steps m)) directory (stand directory (assembly_of bytes settings) m named.apart) in
    let P : Contents → Type 0 = λ c. MeaningIsKept app directory settings (Some m) c in
    subst P (sym (all_is steps m)) (bytes, held, means)

-- the files that stand after a synthesis mean what the application means
pub meaning_is_kept : FilesKeepMeaning → (app directory bytes : List ℕ) (settings : List Setting) (old new : Contents) → Holds old app bytes → first_fault bytes settings ≡ None → AreCounted (tree_of bytes settings) → AllUtf8 (assembly_of bytes settings) → new ≡ files_after_all (steps_of directory (assembly_of bytes settings)) old → MeaningIsKept app directory settings old new
meaning_is_kept keep app directory bytes settings old new held none counted utf8 is =
    let P : Contents → Type 0 = λ c. MeaningIsKept app directory settings old c in subst P (sym is) (kept_at keep app directory bytes settings old held none counted utf8)
