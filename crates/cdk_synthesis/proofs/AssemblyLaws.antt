-- How the files of an application without fault are named, and what they come to.
use Rattle.std.proofs.Common.{◌≡◌, ◌≤◌, ℕ, ◌<◌, List, [], ◌∷◌, ◌++◌, length, map, Bool, true, false, Option, Some, None, Ok, refl, sym, ap, ◌∙◌, subst, arith, inl, inr}
use Rattle.std.specs.Prelude.{◌||◌, bytes_eq, codes}
use Rattle.std.proofs.lemmas.Slice.Eq.{bytes_eq-Decides}
use Rattle.std.proofs.lemmas.Str.{is_utf8-from_IsUtf8}
use Rattle.cdk_base.specs.Marker.{IsMarkerFree}
use Rattle.cdk_eval.specs.Reading.{path_in}
use Rattle.cdk_elements.specs.Kinds.{stacks_of}
use Rattle.cdk_elements.specs.OneStack.{AreOneStack}
use Rattle.cdk_language.specs.Construct.{Application}
use Rattle.cdk_manifest.proofs.ArtifactLemmas.{template_file_long}
use Rattle.cdk_meaning.specs.Names.{AreDistinct, Each, IsIn}
use Rattle.cdk_premises.proofs.Lists.{each_picked}
use Rattle.cdk_stacks.specs.Claims.{name_findings}
use Rattle.cdk_template.proofs.WholeTemplates.{templates_are_unmarked}
use Rattle.cdk_template.specs.Markers.{marker_findings}
use Rattle.cdk_template.specs.Own.{spelling_of}
use Rattle.cdk_template.specs.Template.{template_of}
use Rattle.cdk_tokens.specs.Whole.{marking, tokens_of}
use Rattle.cdk_tree.specs.Placed.{Placed, construct_at, constructs_of, is_stack}
use Rattle.cdk_tree_meaning.specs.Checked.{AreChecked}
use Rattle.cdk_tree_meaning.specs.Law.{AreHeld, IsHeld, TreesKeepMeaning, evaluated, template_name}
use Rattle.cdk_synthesis.specs.Assembly.{AllUtf8, IsAssembly, assembly_of, files_in, files_of, manifest_of_constructs, names_of, placed_in, template_of_stack, tree_of_application}
use Rattle.cdk_synthesis.specs.Checks.{AreCounted, IsBuilt}
use Rattle.cdk_synthesis.specs.Headline.{FilesAreNamed, FilesKeepMeaning, Means, StandUnder}
use Rattle.cdk_synthesis.specs.declared.files.File.{File}
use Rattle.cdk_synthesis.proofs.CheckedTrees.{checked, marked, ordered}
use Rattle.cdk_synthesis.proofs.Faultless.{AreFaultless, faultless}

-- ---- names

one_more : (xs : List File) (f g : File) → xs ++ f ∷ g ∷ [] ≡ (xs ++ f ∷ []) ++ g ∷ []
one_more [] f g = refl
one_more (x ∷ xs) f g = ap (λ ys. x ∷ ys) (one_more xs f g)

not_same : (a b : List ℕ) → length b < length a → bytes_eq a b ≡ false
not_same a b longer = by (bytes_eq a b) refl
  where
    by : (t : Bool) → bytes_eq a b ≡ t → t ≡ false
    by true e = let same = ap length ((bytes_eq-Decides a b).0 e) in absurd (omega (arith, longer, same))
    by false e = refl

abbrev files_over : Application → List ℕ → List File
files_over a ns = map (template_of_stack (constructs_of a)) ns ++ tree_of_application a ∷ manifest_of_constructs (constructs_of a) ∷ []

names_apart : (a : Application) (ns : List ℕ) → length ns ≤ 1 → Each (λ n. 14 < length (template_name (constructs_of a) n)) ns → AreDistinct (names_of (files_over a ns))
names_apart a [] few long = (refl, (refl, tt))
names_apart a (n ∷ []) few long =
    let name = template_name (constructs_of a) n in
    let tree : bytes_eq name (codes "tree.json") ≡ false = not_same name (codes "tree.json") (omega (arith, long.0)) in
    let manifest : bytes_eq name (codes "manifest.json") ≡ false = not_same name (codes "manifest.json") (omega (arith, long.0)) in
    (ap (λ b. b || (bytes_eq name (codes "manifest.json") || false)) tree ∙ ap (λ b. b || false) manifest, (refl, (refl, tt)))
names_apart a (n ∷ m ∷ ns) few long = absurd (omega (arith, few))

each_long : (cs : List Placed) → name_findings cs ≡ [] → (ns : List ℕ) → ((n : ℕ) → IsIn n ns → IsIn n (stacks_of cs)) → Each (λ n. 14 < length (template_name cs n)) ns
each_long cs named [] there = tt
each_long cs named (n ∷ ns) there = (template_file_long cs n named (there n (inl refl)), each_long cs named ns (λ m i. there m (inr i)))

of_application : (a : Application) → AreOneStack (constructs_of a) → name_findings (constructs_of a) ≡ [] → IsAssembly (files_of a)
of_application a one named =
    let cs = constructs_of a in
    record {
      front = map (template_of_stack cs) (stacks_of cs) ++ tree_of_application a ∷ [];
      last = manifest_of_constructs cs;
      is = one_more (map (template_of_stack cs) (stacks_of cs)) (tree_of_application a) (manifest_of_constructs cs);
      named = refl;
      apart = names_apart a (stacks_of cs) one.few (each_long cs named (stacks_of cs) (λ n i. i));
    }

pub files_are_named_law : FilesAreNamed
files_are_named_law bytes settings none =
    let f = faultless bytes settings none in
    subst IsAssembly (sym (ap files_in f.is)) (of_application f.application f.built.one f.clean.named)

-- ---- the meaning

of_faultless : (cs : List Placed) → IsBuilt cs → AreFaultless cs → AreCounted cs → AreChecked cs
of_faultless cs built clean few =
    checked cs (marking cs) (tokens_of cs)
    (ordered cs (marking cs) (tokens_of cs) (marked cs (tokens_of cs) built clean.targets clean.contexts refl few) (record { marks = refl; tokens = refl }) clean.cycles)
    (record { marks = refl; tokens = refl }) clean.sizes clean.named

mapped_each : (cs : List Placed) (ns : List ℕ) → Each (λ n. IsMarkerFree (template_of cs (spelling_of cs) n)) ns → Each (λ s. IsMarkerFree s.template) (map (evaluated cs) ns)
mapped_each cs [] h = tt
mapped_each cs (n ∷ ns) h = (h.0, mapped_each cs ns h.1)

all_unmarked : (cs : List Placed) → marker_findings cs ≡ [] → Each (λ s. IsMarkerFree s.template) (map (evaluated cs) (stacks_of cs))
all_unmarked cs none =
    mapped_each cs (stacks_of cs)
    (each_picked (λ n. IsMarkerFree (template_of cs (spelling_of cs) n)) (λ n. is_stack (construct_at cs n).body) (length cs) (λ n within is. templates_are_unmarked cs n none is))

module _ (files : List ℕ → Option (List ℕ)) (directory : List ℕ) where
  held_templates : (cs : List Placed) (ns : List ℕ) (rest : List File) → StandUnder files directory (map (template_of_stack cs) ns ++ rest) → AllUtf8 (map (template_of_stack cs) ns ++ rest)
      → Each (λ n. IsHeld files (path_in directory (template_name cs n)) (template_of cs (spelling_of cs) n)) ns
  held_templates cs [] rest stand utf8 = tt
  held_templates cs (n ∷ ns) rest stand utf8 = ((stand.0, is_utf8-from_IsUtf8 _ utf8.0), held_templates cs ns rest stand.1 utf8.1)

  held_rest : (cs : List Placed) (ns : List ℕ) (rest : List File) → StandUnder files directory (map (template_of_stack cs) ns ++ rest) → AllUtf8 (map (template_of_stack cs) ns ++ rest)
      → StandUnder files directory rest × AllUtf8 rest
  held_rest cs [] rest stand utf8 = (stand, utf8)
  held_rest cs (n ∷ ns) rest stand utf8 = held_rest cs ns rest stand.1 utf8.1

  all_held : (a : Application) → StandUnder files directory (files_of a) → AllUtf8 (files_of a) → AreHeld files directory (constructs_of a)
  all_held a stand utf8 =
      let cs = constructs_of a in
      let rest = held_rest cs (stacks_of cs) (tree_of_application a ∷ manifest_of_constructs cs ∷ []) stand utf8 in
      record {
        manifest = (rest.0.1.0, is_utf8-from_IsUtf8 _ rest.1.1.0);
        templates = held_templates cs (stacks_of cs) (tree_of_application a ∷ manifest_of_constructs cs ∷ []) stand utf8;
      }

  means : TreesKeepMeaning → (a : Application) → AreChecked (constructs_of a) → marker_findings (constructs_of a) ≡ [] → StandUnder files directory (files_of a) → AllUtf8 (files_of a) → Means files directory (constructs_of a)
  means keep a checked unmarked stand utf8 =
      let cs = constructs_of a in
      let law = keep cs checked files directory (all_held a stand utf8) in
      record { stacks = map (evaluated cs) (stacks_of cs); read = law.0; unmarked = all_unmarked cs unmarked; agrees = law.1 }

pub files_keep_meaning_law : TreesKeepMeaning → FilesKeepMeaning
files_keep_meaning_law keep bytes settings none few utf8 files directory stand =
    let f = faultless bytes settings none in
    let same : assembly_of bytes settings ≡ files_of f.application = ap files_in f.is in
    let P : Option Application → Type 0 = λ o. AreCounted (placed_in o) in
    let checked = of_faultless (constructs_of f.application) f.built f.clean (subst P f.is few) in
    subst (Means files directory) (sym (ap placed_in f.is))
    (means files directory keep f.application checked f.clean.unmarked (subst (StandUnder files directory) same stand) (subst AllUtf8 same utf8))
