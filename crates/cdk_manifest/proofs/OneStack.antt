-- The artifacts of an application of one stack: the tree file's alone, or a stack's before or behind it.
use Rattle.std.proofs.Common.{◌≡◌, ℕ, ◌≤◌, List, [], ◌∷◌, length, codes, true, Some, refl, sym, ap, subst, ◌∙◌, arith, inl}
use Rattle.std.specs.Prelude.{if◌then◌else◌}
use Rattle.std.specs.Ordering.{nat_cmp, match_ordering, is_eq}
use Rattle.std.specs.Cmp.Lexicographic.{slice_cmp}
use Rattle.std.specs.declared.cmp.Ordering.{Ordering}
use Rattle.std.specs.declared.cmp.Ordering.TheVariants.{Less, Equal, Greater}
use Rattle.std.proofs.lemmas.Map.Text.{is_eq-slice_cmp}
use Rattle.std.proofs.lemmas.Slice.Eq.{bytes_eq-Decides}
use Rattle.serde_json.specs.Data.{Data, string, array, object, no_items, Members, no_members, member, put}
use Rattle.cdk_elements.specs.Kinds.{stacks_of}
use Rattle.cdk_elements.specs.OneStack.{AreOneStack}
use Rattle.cdk_meaning.specs.Names.{IsIn}
use Rattle.cdk_stacks.specs.Claims.{name_findings}
use Rattle.cdk_stacks.proofs.NameLaws.{no_artifact_is_tree}
use Rattle.cdk_tree.specs.Placed.{Placed, construct_at, is_stack}
use Rattle.cdk_manifest.specs.Manifest.{artifact_entry, artifact_members, nested_entry, stack_entry, stack_metadata, telling_of, template_file, tree_entry, with_tree}
use Rattle.cdk_manifest.specs.Objects.{filled}
use Rattle.cdk_manifest.proofs.ArtifactLemmas.{artifact_given, artifacts_are_stacks, at_root, stack_at}

-- a stack's entry, by what it tells
abbrev pub told : List ℕ → Members → List ℕ → List ℕ → Data
told path metadata name file =
    object (member (codes "dependencies") (array no_items)
    (member (codes "displayName") (string path)
    (member (codes "environment") (string (codes "aws://unknown-account/unknown-region"))
    (member (codes "metadata") (object metadata)
    (member (codes "properties") (object (member (codes "stackName") (string name) (member (codes "templateFile") (string file) no_members)))
    (member (codes "type") (string (codes "aws:cloudformation:stack"))
    no_members))))))

abbrev pub told_at : List Placed → ℕ → Data
told_at cs n = told (construct_at cs n).path (stack_metadata cs (telling_of cs) n) ((telling_of cs).stack_name n) (template_file ((telling_of cs).artifact n))

-- beside the tree file's
abbrev pub told_first : List Placed → ℕ → Members
told_first cs n = member ((telling_of cs).artifact n) (told_at cs n) (member (codes "Tree") tree_entry no_members)

abbrev pub told_last : List Placed → ℕ → Members
told_last cs n = member (codes "Tree") tree_entry (member ((telling_of cs).artifact n) (told_at cs n) no_members)

entry_told : (cs : List Placed) (n : ℕ) → is_stack (construct_at cs n).body ≡ true → artifact_entry cs (telling_of cs) n ≡ told_at cs n
entry_told cs n stack = ap (λ b. if b then stack_entry cs (telling_of cs) n else nested_entry ((telling_of cs).artifact n)) stack

not_tree : (cs : List Placed) (n : ℕ) → AreOneStack cs → name_findings cs ≡ [] → IsIn n (stacks_of cs) → slice_cmp nat_cmp (codes "Tree") ((telling_of cs).artifact n) ≡ Equal → ⊥
not_tree cs n w h i e =
    let id = (telling_of cs).artifact n in
    let same : codes "Tree" ≡ id = (bytes_eq-Decides (codes "Tree") id).0 (sym (is_eq-slice_cmp (codes "Tree") id) ∙ ap is_eq e) in
    no_artifact_is_tree cs n h (stack_at cs n i).0 (at_root cs w n) ((artifact_given cs n h i).0 ∙ ap Some (sym same))

-- in whichever order
either_way : (P : Members → Type 0) (cs : List Placed) (n : ℕ) → AreOneStack cs → name_findings cs ≡ [] → IsIn n (stacks_of cs) → P (told_first cs n) → P (told_last cs n)
    → P (put (codes "Tree") tree_entry (member ((telling_of cs).artifact n) (told_at cs n) no_members))
either_way P cs n w h i first last = at (slice_cmp nat_cmp (codes "Tree") ((telling_of cs).artifact n)) refl
  where
    at : (o : Ordering) → slice_cmp nat_cmp (codes "Tree") ((telling_of cs).artifact n) ≡ o
        → P (match_ordering o (told_last cs n) (member ((telling_of cs).artifact n) tree_entry no_members) (told_first cs n))
    at Less is = last
    at Equal is = absurd (not_tree cs n w h i is)
    at Greater is = first

-- what holds of each such list of artifacts and its stacks
pub with_one_stack : (P : List ℕ → Members → Type 0) (cs : List Placed) → AreOneStack cs → name_findings cs ≡ [] → P [] (member (codes "Tree") tree_entry no_members)
    → ((n : ℕ) → IsIn n (stacks_of cs) → P (n ∷ []) (told_first cs n) × P (n ∷ []) (told_last cs n)) → P (stacks_of cs) (with_tree 0 (artifact_members cs (telling_of cs) 0))
with_one_stack P cs w h none one =
    let t = telling_of cs in
    subst (λ ns. P (stacks_of cs) (put (codes "Tree") tree_entry (filled t.artifact (artifact_entry cs t) ns no_members))) (sym (artifacts_are_stacks cs w)) (at (stacks_of cs) refl w.few)
  where
    at : (ns : List ℕ) → stacks_of cs ≡ ns → length ns ≤ 1 → P ns (put (codes "Tree") tree_entry (filled (telling_of cs).artifact (artifact_entry cs (telling_of cs)) ns no_members))
    at [] is few = none
    at (n ∷ []) is few =
        let i : IsIn n (stacks_of cs) = subst (IsIn n) (sym is) (inl refl) in
        let both = one n i in
        subst (λ d. P (n ∷ []) (put (codes "Tree") tree_entry (member ((telling_of cs).artifact n) d no_members))) (sym (entry_told cs n (stack_at cs n i).1)) (either_way (P (n ∷ [])) cs n w h i both.0 both.1)
    at (n ∷ m ∷ ns) is few = absurd (omega (arith, few))
