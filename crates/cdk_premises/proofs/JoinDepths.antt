-- How deep joins nest: the items of a join that stands in another one come no deeper by it.
use Rattle.std.proofs.Common.{◌≤◌, ℕ, ◌+◌, List, [], ◌∷◌, max, Bool, true, false, Option, Some, None, if◌then◌else◌, codes, arith}
use Rattle.std.specs.Prelude.{bytes_eq}
use Rattle.serde_json.specs.Data.{array, Data, depth, item, Items, items_depth, member, no_items, no_members, object, string}
use Rattle.cdk_base.specs.Json.{text_of}
use Rattle.cdk_plain.specs.Rendered.{and_items, finished, glued, joined, joined_in, merged, merged_onto, rendered_join, spliced, spliced_onto}

and_items-depth : (ds es : Items) → items_depth (and_items ds es) ≤ max (items_depth ds) (items_depth es)
and_items-depth no_items es = omega arith
and_items-depth (item d ds) es = let rest = and_items-depth ds es in omega (arith, rest)

-- ---- splices

spliced_if : (b : Bool) (d : Data) (ds es : Items) → items_depth ds ≤ depth d → items_depth (spliced_onto (if b then Some ds else None) d es) ≤ max (depth d) (items_depth es)
spliced_if true d ds es low = let both = and_items-depth ds es in omega (arith, low, both)
spliced_if false d ds es low = omega arith

spliced_onto-depth : (d : Data) (es : Items) → items_depth (spliced_onto (joined_in d) d es) ≤ max (depth d) (items_depth es)
spliced_onto-depth (object (member k (array (item (string []) (item (array ds) no_items))) no_members)) es =
    spliced_if (bytes_eq k (codes "Fn::Join")) (object (member k (array (item (string []) (item (array ds) no_items))) no_members)) ds es (omega arith)
spliced_onto-depth d es = omega arith

spliced-depth : (ds : Items) → items_depth (spliced ds) ≤ items_depth ds
spliced-depth no_items = omega arith
spliced-depth (item d ds) =
    let here = spliced_onto-depth d (spliced ds) in
    let rest = spliced-depth ds in
    omega (arith, here, rest)

-- ---- merging

glued-depth : (t : List ℕ) (ds : Items) → items_depth (glued t ds) ≤ items_depth ds
glued-depth t (item (string s) ds) = omega arith
glued-depth t ds = omega arith

merged_onto-depth : (o : Option (List ℕ)) (d : Data) (ds : Items) → items_depth (merged_onto o d ds) ≤ max (depth d) (items_depth ds)
merged_onto-depth None d ds = omega arith
merged_onto-depth (Some []) d ds = omega arith
merged_onto-depth (Some (c ∷ t)) d ds = let low = glued-depth (c ∷ t) ds in omega (arith, low)

merged-depth : (ds : Items) → items_depth (merged ds) ≤ items_depth ds
merged-depth no_items = omega arith
merged-depth (item d ds) =
    let here = merged_onto-depth (text_of d) d (merged ds) in
    let rest = merged-depth ds in
    omega (arith, here, rest)

-- ---- joins

finished-depth : (ds : Items) → depth (finished ds) ≤ 3 + items_depth ds
finished-depth no_items = omega arith
finished-depth (item (string s) no_items) = omega arith
finished-depth ds = omega arith

-- the object, its array and the items' array
pub joined-depth : (ds : Items) → depth (joined ds) ≤ 3 + items_depth ds
joined-depth ds =
    let last = finished-depth (merged (spliced ds)) in
    let rest = merged-depth (spliced ds) in
    let first = spliced-depth ds in
    omega (arith, last, rest, first)

-- the object and its array
pub rendered_join-depth : (d : List ℕ) (x : Data) → depth (rendered_join d x) ≤ 2 + depth x
rendered_join-depth [] (array ds) = let low = joined-depth ds in omega (arith, low)
rendered_join-depth d x = omega arith
