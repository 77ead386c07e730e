-- What stands of an assembly whose writing stopped: its manifest, and all of it at the first steps.
use Rattle.std.proofs.Common.{◌≡◌, ◌⊎◌, inl, inr, ℕ, zero, suc, ◌<◌, List, [], ◌∷◌, ◌++◌, length, map, take, true, false, Option, Some, None, if◌then◌else◌, refl, sym, ap, ◌∙◌, subst, arith}
use Rattle.std.specs.Prelude.{◌||◌, slice_get, unwrap_or, codes, bytes_eq}
use Rattle.std.specs.FinMap.{get}
use Rattle.cdk_base.specs.declared.Setting.{Setting}
use Rattle.cdk_eval.specs.Reach.{is_among}
use Rattle.cdk_meaning.specs.Names.{AreDistinct}
use Rattle.cdk_meaning.proofs.NameLists.{apart_back, neither, same_bytes}
use Rattle.cdk_outside.specs.Outside.{Contents, Directories}
use Rattle.cdk_synthesis.specs.Assembly.{IsAssembly, assembly_of, names_of}
use Rattle.cdk_synthesis.specs.Passes.{first_fault}
use Rattle.cdk_synthesis.specs.declared.files.File.{File}
use Rattle.cdk_synthesis.proofs.AssemblyLaws.{files_are_named_law}
use Rattle.cdk_write.specs.Steps.{WriteStep, make_directory, remove, path_in, StoppedAt, LeavesPartOf}
use Rattle.cdk_write.specs.Standing.{left_by, left_by_all, IsCutShort}
use Rattle.cdk_write.proofs.StandingLemmas.{stands_at}
use Rattle.cdk_tool.specs.Assembly.{put_in, steps_of}
use Rattle.cdk_tool.specs.Causes.{IsNoManifest, ManifestStands, manifest_bytes}
use Rattle.cdk_tool.proofs.HeadlineLemmas.{other_path, same_name}

abbrev at_manifest : List ℕ → List ℕ
at_manifest directory = path_in directory (codes "manifest.json")

last_bytes : (front : List File) (last : File) → manifest_bytes (front ++ last ∷ []) ≡ last.bytes
last_bytes [] last = refl
last_bytes (f ∷ []) last = refl
last_bytes (f ∷ g ∷ front) last = last_bytes (g ∷ front) last

names_append : (front : List File) (last : File) → names_of (front ++ last ∷ []) ≡ names_of front ++ last.name ∷ []
names_append [] last = refl
names_append (f ∷ front) last = ap (λ ns. f.name ∷ ns) (names_append front last)

-- the names before the last are not its name
not_last : (q : List ℕ) (front : List File) (last : File) → last.name ≡ q → AreDistinct (names_of (front ++ last ∷ [])) → is_among q (names_of front) ≡ false
not_last q front last is apart =
    let there : is_among q (last.name ∷ []) ≡ true = ap (λ n. bytes_eq q n || false) is ∙ ap (λ b. b || false) (same_bytes q) in
    apart_back q (names_of front) (last.name ∷ []) (subst AreDistinct (names_append front last) apart) there

module _ (directory : List ℕ) (last : File) (named : last.name ≡ codes "manifest.json") where
  -- before the last file is put, no file has the manifest's path
  left_out : (front : List File) (k : ℕ) (before : Option (List ℕ)) → is_among (codes "manifest.json") (names_of front) ≡ false → before ≡ None → k < suc (length front)
      → left_by_all (take k (map (put_in directory) (front ++ last ∷ []))) (at_manifest directory) before ≡ None
  left_out front zero before other none within = none
  left_out [] (suc k) before other none within = absurd (omega (arith, within))
  left_out (f ∷ front) (suc k) before other none within =
      let both = neither (bytes_eq (codes "manifest.json") f.name) (is_among (codes "manifest.json") (names_of front)) other in
      left_out front k (left_by (put_in directory f) (at_manifest directory) before) both.1
      (ap (λ b. if b then Some f.bytes else before) (other_path directory (codes "manifest.json") f.name both.0) ∙ none) (omega (arith, within))

  -- where a put of the manifest's path was cut short, it was the last
  cut_last : (front : List File) (k : ℕ) (now : Option (List ℕ)) → is_among (codes "manifest.json") (names_of front) ≡ false
      → IsCutShort (slice_get (map (put_in directory) (front ++ last ∷ [])) k) (at_manifest directory) now → (n : ℕ) × (n < length last.bytes) × (now ≡ Some (take n last.bytes))
  cut_last [] zero now other cut = cut.1
  cut_last [] (suc k) now other cut = absurd cut
  cut_last (f ∷ front) zero now other cut =
      let both = neither (bytes_eq (codes "manifest.json") f.name) (is_among (codes "manifest.json") (names_of front)) other in
      let same : bytes_eq (codes "manifest.json") f.name ≡ bytes_eq (codes "manifest.json") (codes "manifest.json") = ap (bytes_eq (codes "manifest.json")) (sym (same_name directory (codes "manifest.json") f.name cut.0)) in
      let yes' = same ∙ same_bytes (codes "manifest.json") in
      let no = both.0 in cc
  cut_last (f ∷ front) (suc k) now other cut = cut_last front k now (neither (bytes_eq (codes "manifest.json") f.name) (is_among (codes "manifest.json") (names_of front)) other).1 cut

  within_files : (front : List File) (k : ℕ) (step : WriteStep) → slice_get (map (put_in directory) (front ++ last ∷ [])) k ≡ Some step → k < suc (length front)
  within_files front zero step is = omega arith
  within_files [] (suc k) step is = cc
  within_files (f ∷ front) (suc k) step is = omega (arith, within_files front k step is)

  at_step : (front : List File) → is_among (codes "manifest.json") (names_of front) ≡ false
      → (k : ℕ) (before now : Option (List ℕ)) (step : WriteStep) → slice_get (steps_of directory (front ++ last ∷ [])) k ≡ Some step
      → (now ≡ left_by_all (take k (steps_of directory (front ++ last ∷ []))) (at_manifest directory) before) ⊎ IsCutShort (slice_get (steps_of directory (front ++ last ∷ [])) k) (at_manifest directory) now
      → IsNoManifest before now last.bytes
  at_step front other zero before now step is (inl stands) = inr (inl stands)
  at_step front other zero before now step is (inr cut) = absurd cut
  at_step front other (suc zero) before now step is (inl stands) = inr (inl stands)
  at_step front other (suc zero) before now step is (inr cut) = absurd cut
  at_step front other (suc (suc k)) before now step is (inl stands) =
      inl (stands ∙ left_out front k (left_by (remove (at_manifest directory)) (at_manifest directory) before) other (ap (λ b. if b then None else before) (same_bytes (at_manifest directory))) (within_files front k step is))
  at_step front other (suc (suc k)) before now step is (inr cut) = inr (inr (cut_last front k now other cut))

of_assembly : (directory : List ℕ) (files : List File) (k : ℕ) (old new : Contents) (old_dirs dirs : Directories) (failed : Option (List ℕ)) → IsAssembly files → StoppedAt (steps_of directory files) k old new old_dirs dirs failed → ManifestStands directory files old new
of_assembly directory files k None new old_dirs dirs failed a stop = tt
of_assembly directory files k (Some m) None old_dirs dirs failed a stop = tt
of_assembly directory files k (Some m) (Some n) old_dirs dirs failed a stop =
    let P : List File → Type 0 = λ fs. StoppedAt (steps_of directory fs) k (Some m) (Some n) old_dirs dirs failed in
    let there = subst P a.is stop in
    let D : List File → Type 0 = λ fs. AreDistinct (names_of fs) in
    let Q : List ℕ → Type 0 = λ bytes. IsNoManifest (get m (at_manifest directory)) (get n (at_manifest directory)) bytes in
    let R : List File → Type 0 = λ fs. IsNoManifest (get m (at_manifest directory)) (get n (at_manifest directory)) (manifest_bytes fs) in
    subst R (sym a.is) (subst Q (sym (last_bytes a.front a.last))
    (at_step directory a.last a.named a.front (not_last (codes "manifest.json") a.front a.last a.named (subst D a.is a.apart)) k (get m (at_manifest directory)) (get n (at_manifest directory)) there.step there.is
    (stands_at _ k (Some m) (Some n) old_dirs dirs failed there (at_manifest directory))))

pub manifest_stands : (directory bytes : List ℕ) (settings : List Setting) (k : ℕ) (old new : Contents) (old_dirs dirs : Directories) (failed : Option (List ℕ)) → first_fault bytes settings ≡ None → StoppedAt (steps_of directory (assembly_of bytes settings)) k old new old_dirs dirs failed → ManifestStands directory (assembly_of bytes settings) old new
manifest_stands directory bytes settings k old new old_dirs dirs failed none stop = of_assembly directory (assembly_of bytes settings) k old new old_dirs dirs failed (files_are_named_law bytes settings none) stop

-- the step of an index, from two accounts of it
step_is : (s t : WriteStep) → Some s ≡ Some t → t ≡ s
step_is s t e = ap (λ o. unwrap_or o t) (sym e)

pub early_files : (directory : List ℕ) (files : List File) (k : ℕ) (old new : Contents) (old_dirs dirs : Directories) (failed : Option (List ℕ)) → StoppedAt (steps_of directory files) k old new old_dirs dirs failed → k < 2 → new ≡ old
early_files directory files zero old new old_dirs dirs failed stop few =
    let P : WriteStep → Type 0 = λ s. LeavesPartOf s old new in subst P (step_is (make_directory directory) stop.step stop.is) stop.part
early_files directory files (suc zero) old new old_dirs dirs failed stop few =
    let P : WriteStep → Type 0 = λ s. LeavesPartOf s old new in subst P (step_is (remove (at_manifest directory)) stop.step stop.is) stop.part
early_files directory files (suc (suc k)) old new old_dirs dirs failed stop few = absurd (omega (arith, few))

pub first_directories : (directory : List ℕ) (files : List File) (k : ℕ) (old new : Contents) (old_dirs dirs : Directories) (failed : Option (List ℕ)) → StoppedAt (steps_of directory files) k old new old_dirs dirs failed → k ≡ 0 → dirs ≡ old_dirs
first_directories directory files zero old new old_dirs dirs failed stop is = stop.directories_are
first_directories directory files (suc k) old new old_dirs dirs failed stop is = absurd (omega (arith, is))
