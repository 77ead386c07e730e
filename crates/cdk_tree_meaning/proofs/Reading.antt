-- The files of an application are read as its stacks.
use Rattle.std.proofs.Common.{◌≡◌, ◌≤◌, ℕ, List, [], ◌∷◌, ◌++◌, length, map, true, Option, Some, None, Result, Ok, refl, ap, ◌∙◌, arith}
use Rattle.std.specs.Prelude.{codes, if◌then◌else◌}
use Rattle.std.specs.Str.{is_utf8}
use Rattle.serde_json.specs.Data.{Data, depth}
use Rattle.serde_json.specs.Read.{read}
use Rattle.cdk_base.specs.Json.{parsed}
use Rattle.cdk_base.specs.Pretty.{pretty_text, IsCanonical}
use Rattle.cdk_base.proofs.Back.{read-pretty_text}
use Rattle.cdk_eval.specs.declared.role.Role.{Role}
use Rattle.cdk_eval.specs.declared.role.Role.TheVariants.{Template, Manifest}
use Rattle.cdk_eval.specs.Form.{first_miss}
use Rattle.cdk_eval.specs.Manifest.{StackArtifact, artifacts, stacks_of, nested_directories, cyclic, in_order}
use Rattle.cdk_eval.specs.Stack.{Stack}
use Rattle.cdk_eval.specs.Reading.{FileFault, ok_then, collected, formed, in_form, document, at_file, path_in, no_cycle, contents, document_at, stack_in, manifest_in, assembly_with, assembly_at, reading}
use Rattle.cdk_manifest.specs.ManifestLaws.{artifact_of}
use Rattle.cdk_meaning.specs.Names.{Each}
use Rattle.cdk_meaning.proofs.NameLists.{same_bytes}
use Rattle.cdk_template.specs.Own.{spelling_of}
use Rattle.cdk_template.specs.Template.{template_of}
use Rattle.cdk_tree.specs.Placed.{Placed}
use Rattle.cdk_tree_meaning.specs.Law.{evaluated, template_name, IsHeld}

-- ---- one file

parsed_back : (d : Data) → IsCanonical d → depth d ≤ 127 → is_utf8 (pretty_text d) ≡ true → parsed (pretty_text d) ≡ Some d
parsed_back d canonical shallow utf8 = ap (λ b. if b then read (pretty_text d) else None) utf8 ∙ read-pretty_text d canonical shallow

document_read : (role : Role) (d : Data) → IsCanonical d → depth d ≤ 127 → first_miss role d ≡ None → is_utf8 (pretty_text d) ≡ true → document None role (pretty_text d) ≡ Ok d
document_read role d canonical shallow form utf8 = ap (in_form role) (parsed_back d canonical shallow utf8) ∙ ap (formed d) form

module _ (files : List ℕ → Option (List ℕ)) (dir : List ℕ) where
  pub found_read : (role : Role) (d : Data) (path : List ℕ) → IsHeld files path d → IsCanonical d → depth d ≤ 127 → first_miss role d ≡ None → document_at None files role path ≡ Ok d
  found_read role d path held canonical shallow form =
      ap (λ x. at_file path (contents None files role x)) held.0 ∙ ap (at_file path) (document_read role d canonical shallow form held.1)

  stack_read : (a : StackArtifact) (t : Data) → document_at None files Template (path_in dir a.file) ≡ Ok t → stack_in None files dir a ≡ Ok (record { name = a.name; template = t } ∷ [])
  stack_read a t h = ap (λ x. ok_then x (λ u. Ok (record { name = a.name; template = u } ∷ []))) h

  -- ---- the stacks' templates

  stacks_read : (cs : List Placed) (ns : List ℕ) → Each (λ n. document_at None files Template (path_in dir (template_name cs n)) ≡ Ok (template_of cs (spelling_of cs) n)) ns
      → collected (stack_in None files dir) (map (artifact_of cs) ns) ≡ Ok (map (evaluated cs) ns)
  stacks_read cs [] h = refl
  stacks_read cs (n ∷ ns) h =
      ap (λ x. ok_then x (λ bs. ok_then (collected (stack_in None files dir) (map (artifact_of cs) ns)) (λ cs. Ok (bs ++ cs)))) (stack_read (artifact_of cs n) (template_of cs (spelling_of cs) n) h.0)
      ∙ ap (λ x. ok_then x (λ ds. Ok (evaluated cs n ∷ ds))) (stacks_read cs ns h.1)

  -- ---- all files

  manifest_read : (m : Data) → document_at None files (Manifest true) (path_in dir (codes "manifest.json")) ≡ Ok m → cyclic (stacks_of m) ≡ None → manifest_in None files true dir ≡ Ok m
  manifest_read m h c =
      ap (λ x. ok_then x (λ n. ok_then (at_file (path_in dir (codes "manifest.json")) (no_cycle (cyclic (stacks_of n)))) (λ _. Ok n))) h
      ∙ ap (λ x. ok_then (at_file (path_in dir (codes "manifest.json")) (no_cycle x)) (λ _. Ok m)) c

  all_read : (nested : List ℕ → Result (List Stack) FileFault) (m : Data) (order : List StackArtifact) (ss : List Stack) → manifest_in None files true dir ≡ Ok m → in_order (stacks_of m) ≡ order
      → collected (stack_in None files dir) order ≡ Ok ss → nested_directories (artifacts m) ≡ []
      → assembly_with None files nested true dir ≡ Ok (ss ++ [])
  all_read nested m order ss h o c n =
      ap (λ x. ok_then x (λ m. ok_then (collected (stack_in None files dir) (in_order (stacks_of m))) (λ own. ok_then (collected (λ d. nested (path_in dir d)) (nested_directories (artifacts m))) (λ below. Ok (own ++ below))))) h
      ∙ ap (λ x. ok_then (collected (stack_in None files dir) x) (λ own. ok_then (collected (λ d. nested (path_in dir d)) (nested_directories (artifacts m))) (λ below. Ok (own ++ below)))) o
      ∙ ap (λ x. ok_then x (λ own. ok_then (collected (λ d. nested (path_in dir d)) (nested_directories (artifacts m))) (λ below. Ok (own ++ below)))) c
      ∙ ap (λ x. ok_then (collected (λ d. nested (path_in dir d)) x) (λ below. Ok (ss ++ below))) n

  -- at most one stack, which depends on nothing
  alone_in_order : (cs : List Placed) (ns : List ℕ) → length ns ≤ 1 → in_order (map (artifact_of cs) ns) ≡ map (artifact_of cs) ns
  alone_in_order cs [] few = refl
  alone_in_order cs (n ∷ []) few = refl
  alone_in_order cs (n ∷ m ∷ ns) few = absurd (omega (arith, few))

  no_way_back : (cs : List Placed) (ns : List ℕ) → length ns ≤ 1 → cyclic (map (artifact_of cs) ns) ≡ None
  no_way_back cs [] few = refl
  no_way_back cs (n ∷ []) few = rw (same_bytes (artifact_of cs n).id) refl
  no_way_back cs (n ∷ m ∷ ns) few = absurd (omega (arith, few))

  with_none : (cs : List Placed) (ns : List ℕ) → length ns ≤ 1 → map (evaluated cs) ns ++ [] ≡ map (evaluated cs) ns
  with_none cs [] few = refl
  with_none cs (n ∷ []) few = refl
  with_none cs (n ∷ m ∷ ns) few = absurd (omega (arith, few))

  pub read_as_stacks : (cs : List Placed) (ns : List ℕ) (m : Data) → length ns ≤ 1
      → document_at None files (Manifest true) (path_in dir (codes "manifest.json")) ≡ Ok m → stacks_of m ≡ map (artifact_of cs) ns → nested_directories (artifacts m) ≡ []
      → Each (λ n. document_at None files Template (path_in dir (template_name cs n)) ≡ Ok (template_of cs (spelling_of cs) n)) ns
      → reading files dir ≡ Ok (map (evaluated cs) ns)
  read_as_stacks cs ns m few held stacks nested templates =
      all_read (assembly_at None files 9) m (map (artifact_of cs) ns) (map (evaluated cs) ns)
      (manifest_read m held (ap cyclic stacks ∙ no_way_back cs ns few))
      (ap in_order stacks ∙ alone_in_order cs ns few)
      (stacks_read cs ns templates)
      nested
      ∙ ap (λ ss. Ok ss) (with_none cs ns few)
