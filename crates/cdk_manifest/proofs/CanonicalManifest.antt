-- Manifests are canonical and nest at most six deep.
use Rattle.std.proofs.Common.{◌≤◌, ℕ, List, [], ◌∷◌, ◌++◌, codes, Bool, true, false, refl, arith}
use Rattle.std.specs.Prelude.{◌==◌, if◌then◌else◌}
use Rattle.serde_json.specs.Data.{Data, Members, no_members, put, depth, items_depth, members_depth}
use Rattle.cdk_base.specs.Pretty.{IsWhole, IsCanonical, ItemsAreCanonical, MembersAreCanonical}
use Rattle.cdk_base.proofs.Canonical.{MembersAreOrdered-put, members_depth-put}
use Rattle.cdk_tree.specs.Placed.{Placed, construct_at, is_stack}
use Rattle.cdk_manifest.specs.Objects.{filled, texts}
use Rattle.cdk_objects.specs.Keys.{metadata_key}
use Rattle.cdk_manifest.specs.Manifest.{Note, Telling, artifact_entry, artifact_members, artifacts_of, element_metadata, elements_of, manifest_of, metadata_entry, metadata_of, nested_entry, noted, stack_entry, stack_metadata, stack_properties, tree_entry, with_generated, with_tree}

either_of : {A : Type 0} (P : A → Type 0) (b : Bool) (x y : A) → P x → P y → P (if b then x else y)
either_of P true x y h g = h
either_of P false x y h g = g

filled_canonical : (name : ℕ → List ℕ) (entry : ℕ → Data) → ((n : ℕ) → IsCanonical (entry n)) → (ns : List ℕ) (ms : Members) → MembersAreCanonical ms → MembersAreCanonical (filled name entry ns ms)
filled_canonical name entry each [] ms h = h
filled_canonical name entry each (n ∷ ns) ms h = filled_canonical name entry each ns (put (name n) (entry n) ms) (MembersAreOrdered-put IsWhole (name n) (entry n) ms (each n) h)

filled_depth : (most : ℕ) (name : ℕ → List ℕ) (entry : ℕ → Data) → ((n : ℕ) → depth (entry n) ≤ most) → (ns : List ℕ) (ms : Members) → members_depth ms ≤ most → members_depth (filled name entry ns ms) ≤ most
filled_depth most name entry each [] ms h = h
filled_depth most name entry each (n ∷ ns) ms h = filled_depth most name entry each ns (put (name n) (entry n) ms) (members_depth-put most (name n) (entry n) ms (each n) h)

texts_canonical : (ts : List (List ℕ)) → ItemsAreCanonical (texts ts)
texts_canonical [] = tt
texts_canonical (t ∷ ts) = (tt, texts_canonical ts)

texts_depth : (ts : List (List ℕ)) → items_depth (texts ts) ≤ 0
texts_depth [] = omega arith
texts_depth (t ∷ ts) = let rest = texts_depth ts in omega (arith, rest)

-- ---- the metadata of a stack

metadata_entry_canonical : (kind text : List ℕ) → IsCanonical (metadata_entry kind text)
metadata_entry_canonical kind text = (tt, ((refl, tt), (tt, (tt, tt))))

noted_canonical : (ns : List Note) → ItemsAreCanonical (noted ns)
noted_canonical [] = tt
noted_canonical (n ∷ ns) = (metadata_entry_canonical n.kind n.text, noted_canonical ns)

metadata_canonical : (logical : List ℕ) (ns : List Note) → IsCanonical (metadata_of logical ns)
metadata_canonical logical ns = (metadata_entry_canonical (codes "aws:cdk:logicalId") logical, noted_canonical ns)

noted_depth : (ns : List Note) → items_depth (noted ns) ≤ 1
noted_depth [] = omega arith
noted_depth (n ∷ ns) = let rest = noted_depth ns in omega (arith, rest)

metadata_depth : (logical : List ℕ) (ns : List Note) → depth (metadata_of logical ns) ≤ 2
metadata_depth logical ns = let rest = noted_depth ns in omega (arith, rest)

generated_canonical : (path : List ℕ) (gs : List (List ℕ × List ℕ)) (ms : Members) → MembersAreCanonical ms → MembersAreCanonical (with_generated path gs ms)
generated_canonical path [] ms h = h
generated_canonical path (g ∷ gs) ms h =
    let key = 47 ∷ path ++ 47 ∷ g.0 in
    generated_canonical path gs (put key (metadata_of g.1 []) ms) (MembersAreOrdered-put IsWhole key (metadata_of g.1 []) ms (metadata_canonical g.1 []) h)

generated_depth : (path : List ℕ) (gs : List (List ℕ × List ℕ)) (ms : Members) → members_depth ms ≤ 2 → members_depth (with_generated path gs ms) ≤ 2
generated_depth path [] ms h = h
generated_depth path (g ∷ gs) ms h =
    let key = 47 ∷ path ++ 47 ∷ g.0 in
    generated_depth path gs (put key (metadata_of g.1 []) ms) (members_depth-put 2 key (metadata_of g.1 []) ms (metadata_depth g.1 []) h)

-- ---- whatever is told

module _ (cs : List Placed) (t : Telling) where
  stack_metadata_canonical : (n : ℕ) → MembersAreCanonical (stack_metadata cs t n)
  stack_metadata_canonical n =
      filled_canonical (metadata_key cs) (element_metadata t) (λ k. metadata_canonical (t.logical k) (t.notes k)) (elements_of cs n) (with_generated (construct_at cs n).path (t.generated n) no_members)
      (generated_canonical (construct_at cs n).path (t.generated n) no_members tt)

  stack_metadata_depth : (n : ℕ) → members_depth (stack_metadata cs t n) ≤ 2
  stack_metadata_depth n =
      filled_depth 2 (metadata_key cs) (element_metadata t) (λ k. metadata_depth (t.logical k) (t.notes k)) (elements_of cs n) (with_generated (construct_at cs n).path (t.generated n) no_members)
      (generated_depth (construct_at cs n).path (t.generated n) no_members (omega arith))

  stack_canonical : (n : ℕ) → IsCanonical (stack_entry cs t n)
  stack_canonical n =
      let ids = texts_canonical (t.dependencies n) in
      let metadata = stack_metadata_canonical n in
      let properties : IsCanonical (stack_properties t n) = (tt, ((refl, tt), (tt, (tt, tt)))) in
      (ids, ((refl, (refl, (refl, (refl, (refl, tt))))), (tt, ((refl, (refl, (refl, (refl, tt)))), (tt, ((refl, (refl, (refl, tt))), (metadata, ((refl, (refl, tt)), (properties, ((refl, tt), (tt, (tt, tt))))))))))))

  stack_depth : (n : ℕ) → depth (stack_entry cs t n) ≤ 4
  stack_depth n = let inner = stack_metadata_depth n in let ids = texts_depth (t.dependencies n) in omega (arith, inner, ids)

  entry_canonical : (n : ℕ) → IsCanonical (artifact_entry cs t n)
  entry_canonical n = either_of IsCanonical (is_stack (construct_at cs n).body) (stack_entry cs t n) (nested_entry (t.artifact n)) (stack_canonical n) ((tt, (tt, tt)), ((refl, tt), (tt, (tt, tt))))

  entry_depth : (n : ℕ) → depth (artifact_entry cs t n) ≤ 4
  entry_depth n = either_of (λ d. depth d ≤ 4) (is_stack (construct_at cs n).body) (stack_entry cs t n) (nested_entry (t.artifact n)) (stack_depth n) (omega arith)

  artifacts_canonical : (stage : ℕ) → MembersAreCanonical (with_tree stage (artifact_members cs t stage))
  artifacts_canonical stage =
      let ms = artifact_members cs t stage in
      let own = filled_canonical t.artifact (artifact_entry cs t) entry_canonical (artifacts_of cs stage) no_members tt in
      either_of MembersAreCanonical (stage == 0) (put (codes "Tree") tree_entry ms) ms (MembersAreOrdered-put IsWhole (codes "Tree") tree_entry ms ((tt, (tt, tt)), ((refl, tt), (tt, (tt, tt)))) own) own

  artifacts_depth : (stage : ℕ) → members_depth (with_tree stage (artifact_members cs t stage)) ≤ 4
  artifacts_depth stage =
      let ms = artifact_members cs t stage in
      let own = filled_depth 4 t.artifact (artifact_entry cs t) entry_depth (artifacts_of cs stage) no_members (omega arith) in
      either_of (λ x. members_depth x ≤ 4) (stage == 0) (put (codes "Tree") tree_entry ms) ms (members_depth-put 4 (codes "Tree") tree_entry ms (omega arith) own) own

  pub manifest_canonical : (stage : ℕ) → IsCanonical (manifest_of cs t stage)
  manifest_canonical stage = (artifacts_canonical stage, ((refl, tt), (tt, (tt, tt))))

  pub manifest_depth : (stage : ℕ) → depth (manifest_of cs t stage) ≤ 6
  manifest_depth stage = let inner = artifacts_depth stage in omega (arith, inner)
