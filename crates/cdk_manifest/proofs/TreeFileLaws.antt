-- Where places are right and values are whole, the tree file is canonical and at most 127 deep.
use Rattle.std.proofs.Common.{◌≡◌, ℕ, suc, ◌+◌, ◌-◌, ◌<◌, ◌≤◌, List, [], ◌∷◌, ◌++◌, map, length, Bool, true, false, Option, Some, None, refl, sym, ap, ◌∙◌, subst, arith}
use Rattle.std.specs.Prelude.{◌&&◌, ◌||◌, nat_le, not, is_some, is_none, ⊤}
use Rattle.std.proofs.lemmas.Bool.Decides.{nat_tests}
use Rattle.serde_json.specs.Data.{Data, Members, no_members, member, depth, members_depth}
use Rattle.cdk_base.specs.Pretty.{IsWhole, IsCanonical, MembersAreCanonical}
use Rattle.cdk_base.specs.declared.code.Code.TheVariants.{BadId, SameId, BadPlace}
use Rattle.cdk_base.proofs.Canonical.{MembersAreOrdered-put, members_depth-put, back_false}
use Rattle.cdk_language.specs.Construct as language
use Rattle.cdk_language.specs.Construct.{Application, Body, Construct, Constructs, ResourceBody}
use Rattle.cdk_language.specs.Expression.{Expression}
use Rattle.cdk_tree.specs.PlaceFindings.{findings_from, found_at, has_taken_id, is_element, is_id, is_misplaced, when, wrong_at}
use Rattle.cdk_tree.specs.Placed.{Placed, construct_at, constructs_of, is_stack, is_stage, placed_in, root_placed, walk, walk_children}
use Rattle.cdk_manifest.specs.Objects.{unless_empty}
use Rattle.cdk_manifest.specs.TreeFile.{attributes_of, id_of, node, node_of, node_with, nodes, root_node, tree_document}
use Rattle.cdk_manifest.specs.TreeFileLaws.{IsWholeTreeFile, TreeFilesAreWhole}

-- ---- where nothing is found, no construct stands too low

both_empty : {A : Type 0} (xs ys : List A) → xs ++ ys ≡ [] → (xs ≡ []) × (ys ≡ [])
both_empty [] ys h = (refl, h)
both_empty (x ∷ xs) ys h = cc

map_empty : {A B : Type 0} (f : A → B) (xs : List A) → map f xs ≡ [] → xs ≡ []
map_empty f [] h = refl
map_empty f (x ∷ xs) h = cc

last_test : (a b c : Bool) → when a BadId ++ (when b SameId ++ when c BadPlace) ≡ [] → c ≡ false
last_test true b c h = cc
last_test false true c h = cc
last_test false false true h = cc
last_test false false false h = refl

not_eleven : (k : ℕ) → nat_le 11 k ≡ false → k ≤ 10
not_eleven k h = grind (arith, nat_tests)

near : (before : List Placed) (p : Placed) (m : ℕ) → wrong_at before p (Some m) ≡ [] → p.level ≤ 10
near before p m none =
    let outer = (construct_at before m).stack in
    let rest = back_false ((is_stack p.body || is_stage p.body) && is_some outer) _ (last_test (not (is_id p.head.id)) (has_taken_id before p) (is_misplaced outer p.level p.body) none) in
    not_eleven p.level (back_false (is_element p.body && is_none outer) (nat_le 11 p.level) rest)

-- ---- what the nodes are made of

abbrev IsGiven : (Data → Type 0) → Option Data → Type 0
IsGiven P None = ⊤
IsGiven P (Some d) = P d

-- canonical, and at most so deep below the level
abbrev IsShallow : ℕ → ℕ → Data → Type 0
IsShallow most level d = IsCanonical d × (depth d + (level + level) ≤ most)

node_whole : (level : ℕ) (attributes children : Option Data) (id path : List ℕ) → level ≤ 10 → IsGiven (IsShallow 95 0) attributes → IsGiven (IsShallow 115 level) children
    → IsShallow 116 level (node_with attributes children id path)
node_whole level None None id path high given below = ((tt, ((refl, tt), (tt, (tt, tt)))), omega (arith, high))
node_whole level (Some a) None id path high given below = ((given.0, ((refl, (refl, tt)), (tt, ((refl, tt), (tt, (tt, tt)))))), omega (arith, high, given.1))
node_whole level None (Some c) id path high given below = ((below.0, ((refl, (refl, tt)), (tt, ((refl, tt), (tt, (tt, tt)))))), omega (arith, high, below.1))
node_whole level (Some a) (Some c) id path high given below =
    ((given.0, ((refl, (refl, (refl, tt))), (below.0, ((refl, (refl, tt)), (tt, ((refl, tt), (tt, (tt, tt)))))))), omega (arith, high, given.1, below.1))

-- members that are canonical, and at most so deep below the level
abbrev AreShallow : ℕ → ℕ → Members → Type 0
AreShallow most level ms = MembersAreCanonical ms × (members_depth ms + (level + level) ≤ most)

children_whole : (level : ℕ) (ms : Members) → AreShallow 114 level ms → IsGiven (IsShallow 115 level) (unless_empty ms)
children_whole level no_members h = tt
children_whole level (member k d ms) h = (h.0, omega (arith, h.1))

module _ (value : ℕ → Expression → Data) where
  -- a construct of the number n
  record IsFit (n : ℕ) (p : Placed) : Type 0 where
    near : (m : ℕ) → p.parent ≡ Some m → p.level ≤ 10
    values : (r : ResourceBody) → p.body ≡ language.resource r → IsCanonical (value n r.properties) × (depth (value n r.properties) ≤ 94)

  -- constructs from the number n on
  abbrev AreFit : ℕ → List Placed → Type 0
  AreFit n [] = ⊤
  AreFit n (p ∷ ps) = IsFit n p × AreFit (n + 1) ps

  AreFit-append : (n : ℕ) (xs ys : List Placed) → AreFit n (xs ++ ys) → AreFit n xs × AreFit (n + length xs) ys
  AreFit-append n [] ys fit = let e : n ≡ n + 0 = omega arith in (tt, subst (λ k. AreFit k ys) e fit)
  AreFit-append n (x ∷ xs) ys fit =
      let later = AreFit-append (n + 1) xs ys fit.1 in
      let e : n + 1 + length xs ≡ n + suc (length xs) = omega arith in
      ((fit.0, later.0), subst (λ k. AreFit k ys) e later.1)

  fit_from : (n : ℕ) (before ps : List Placed) → findings_from before ps ≡ []
      → ((k : ℕ) (r : ResourceBody) → k < length ps → (construct_at ps k).body ≡ language.resource r → IsCanonical (value (n + k) r.properties) × (depth (value (n + k) r.properties) ≤ 94))
      → AreFit n ps
  fit_from n before [] none values = tt
  fit_from n before (p ∷ ps) none values =
      let clean = both_empty (map (found_at p.path) (wrong_at before p p.parent)) (findings_from (before ++ p ∷ []) ps) none in
      let own = map_empty (found_at p.path) (wrong_at before p p.parent) clean.0 in
      let P : ResourceBody → ℕ → Type 0 = λ r k. IsCanonical (value k r.properties) × (depth (value k r.properties) ≤ 94) in
      let first : n + 0 ≡ n = omega arith in
      let next : (k : ℕ) → n + suc k ≡ n + 1 + k = λ k. omega arith in (
        record { near = λ m is. near before p m (ap (wrong_at before p) (sym is) ∙ own); values = λ r is. subst (P r) first (values 0 r (omega arith) is) },
        fit_from (n + 1) (before ++ p ∷ []) ps clean.1 (λ k r within is. subst (P r) (next k) (values (suc k) r (omega arith) is)),
      )

  attributes_whole : (n : ℕ) (b : Body) → ((r : ResourceBody) → b ≡ language.resource r → IsCanonical (value n r.properties) × (depth (value n r.properties) ≤ 94)) → IsGiven (IsShallow 95 0) (attributes_of value n b)
  attributes_whole n (language.resource r) whole = let own = whole r refl in ((own.0, ((refl, tt), (tt, (tt, tt)))), omega (arith, own.1))
  attributes_whole n b whole = tt

  placed_whole : (n : ℕ) (p : Placed) (ms : Members) → IsFit n p → p.level ≤ 10 → AreShallow 114 p.level ms → IsShallow 116 p.level (node_of value n p ms)
  placed_whole n p ms fit high below = node_whole p.level (attributes_of value n p.body) (unless_empty ms) _ p.path high (attributes_whole n p.body fit.values) (children_whole p.level ms below)

  mutual
    construct_whole : (n m : ℕ) (p : Placed) (c : Construct) → AreFit n (walk n m p c) → IsShallow 114 p.level (node value n m p c)
    construct_whole n m p (language.construct h b cs) fit =
        let own = placed_in n m p h b in
        let high : p.level + 1 ≤ 10 = fit.0.near m refl in
        let whole = placed_whole n own (nodes value (n + 1) n own cs) fit.0 high (constructs_whole (n + 1) n own cs high fit.1) in
        (whole.0, omega (arith, whole.1))

    constructs_whole : (n m : ℕ) (p : Placed) (cs : Constructs) → p.level ≤ 10 → AreFit n (walk_children n m p cs) → AreShallow 114 p.level (nodes value n m p cs)
    constructs_whole n m p language.no_constructs high fit = (tt, omega (arith, high))
    constructs_whole n m p (language.child c cs) high fit =
        let next = n + length (walk n m p c) in
        let parts = AreFit-append n (walk n m p c) (walk_children next m p cs) fit in
        let own = construct_whole n m p c parts.0 in
        let others = constructs_whole next m p cs high parts.1 in
        let most : ℕ = 114 - (p.level + p.level) in
        let own_depth : depth (node value n m p c) ≤ most = omega (arith, own.1) in
        let others_depth : members_depth (nodes value next m p cs) ≤ most = omega (arith, others.1) in
        let all = members_depth-put most (id_of c) (node value n m p c) (nodes value next m p cs) own_depth others_depth in
        (MembersAreOrdered-put IsWhole (id_of c) (node value n m p c) (nodes value next m p cs) own.0 others.0, omega (arith, all, high))

  root_whole : (a : Application) → AreFit 0 (constructs_of a) → IsShallow 116 0 (root_node value a)
  root_whole (language.construct h b cs) fit =
      let r = root_placed h b in
      placed_whole 0 r (nodes value 1 0 r cs) fit.0 (omega arith) (constructs_whole 1 0 r cs (omega arith) fit.1)

document_whole : (root : Data) → IsShallow 116 0 root → IsWholeTreeFile (tree_document root)
document_whole root whole = record { canonical = (whole.0, ((refl, tt), (tt, (tt, tt)))); shallow = omega (arith, whole.1) }

pub tree_files_are_whole : TreeFilesAreWhole
tree_files_are_whole a value clean values =
    let first : (n : ℕ) → 0 + n ≡ n = λ n. omega arith in
    let P : ResourceBody → ℕ → Type 0 = λ r k. IsCanonical (value k r.properties) × (depth (value k r.properties) ≤ 94) in
    let fit = fit_from value 0 [] (constructs_of a) clean (λ k r within is. subst (P r) (sym (first k)) (values k r within is)) in
    document_whole (root_node value a) (root_whole value a fit)
