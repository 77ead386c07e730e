-- What is put together from the last construct to the first is the tree of nodes.
use Rattle.std.proofs.Common.{◌≡◌, ◌≢◌, ℕ, suc, ◌+◌, ◌<◌, ◌≤◌, List, [], ◌∷◌, ◌++◌, length, true, false, cond, Some, Result, Ok, Err, IfOk, drop, get_or, refl, sym, ap, ◌∙◌, arith, length-append}
use Rattle.std.specs.Prelude.{◌==◌}
use Rattle.std.proofs.lemmas.Bool.Decides.{nat_tests}
use Rattle.std.proofs.lemmas.List.{drop_more, get_or-map}
use Rattle.serde_json.specs.Data.{Data, null, Members, no_members, put}
use Rattle.serde_json.specs.View.{view}
use Rattle.serde_json.specs.declared.value.Value.{Value}
use Rattle.cdk_language.specs.Construct as language
use Rattle.cdk_language.specs.Construct.{Application, Construct, Constructs}
use Rattle.cdk_language.specs.Expression.{Expression}
use Rattle.cdk_tree.specs.Placed.{Placed, construct_at, constructs_of, nowhere, placed_in, root_placed, walk, walk_children}
use Rattle.cdk_objects.specs.Keys.{is_in}
use Rattle.cdk_manifest.specs.TreeFile.{attributes_of, id_of, node, node_of, nodes, resource_attributes, root_node}
use Rattle.cdk_manifest.specs.Values.{attached, attached_from, value_at, AreProperties}

same_number : (n : ℕ) → (n == n) ≡ true
same_number n = grind (arith, nat_tests)

other_number : (m k : ℕ) → k ≢ m → (m == k) ≡ false
other_number m k apart = grind (arith, nat_tests)

module _ (value : ℕ → Expression → Data) where
  abbrev made : ℕ → List Placed → (ℕ → Members) → ℕ → Members
  made = attached_from (node_of value)

  made-append : (n : ℕ) (xs ys : List Placed) (children : ℕ → Members) → made n (xs ++ ys) children ≡ made n xs (made (n + length xs) ys children)
  made-append n [] ys children = let e : n ≡ n + 0 = omega arith in ap (λ k. made k ys children) e
  made-append n (x ∷ xs) ys children =
      let e : n + 1 + length xs ≡ n + suc (length xs) = omega arith in
      ap (attached (node_of value) n x) (made-append (n + 1) xs ys children ∙ ap (λ k. made (n + 1) xs (made k ys children)) e)

  mutual
    -- below a construct nothing changes but at its scope
    walk_elsewhere : (n m : ℕ) (p : Placed) (c : Construct) (children : ℕ → Members) (k : ℕ) → k < n → k ≢ m → made n (walk n m p c) children k ≡ children k
    walk_elsewhere n m p (language.construct h b cs) children k below apart =
        let own = placed_in n m p h b in
        let later = made (n + 1) (walk_children (n + 1) n own cs) children in
        let not_own : k ≢ n = omega arith in
        ap (λ t. cond t (put h.id (node_of value n own (later n)) (later k)) (later k)) (other_number m k apart)
        ∙ children_elsewhere (n + 1) n own cs children k (omega arith) not_own

    children_elsewhere : (n m : ℕ) (p : Placed) (cs : Constructs) (children : ℕ → Members) (k : ℕ) → k < n → k ≢ m → made n (walk_children n m p cs) children k ≡ children k
    children_elsewhere n m p language.no_constructs children k below apart = refl
    children_elsewhere n m p (language.child c cs) children k below apart =
        let next = n + length (walk n m p c) in
        ap (λ (f : ℕ → Members). f k) (made-append n (walk n m p c) (walk_children next m p cs) children)
        ∙ walk_elsewhere n m p c (made next (walk_children next m p cs) children) k below apart
        ∙ children_elsewhere next m p cs children k (omega arith) apart

  -- no construct of these has children yet
  abbrev AreBare : ℕ → ℕ → (ℕ → Members) → Type 0
  AreBare n count children = (k : ℕ) → n ≤ k → k < n + count → children k ≡ no_members

  mutual
    -- at its scope a construct's node is put in
    walk_here : (n m : ℕ) (p : Placed) (c : Construct) (children : ℕ → Members) → m < n → AreBare n (length (walk n m p c)) children
        → made n (walk n m p c) children m ≡ put (id_of c) (node value n m p c) (children m)
    walk_here n m p (language.construct h b cs) children below bare =
        let own = placed_in n m p h b in
        let below_own = walk_children (n + 1) n own cs in
        let later = made (n + 1) below_own children in
        let apart : m ≢ n = omega arith in
        let rest : AreBare (n + 1) (length below_own) children = λ k from to. bare k (omega arith) (omega arith) in
        ap (λ t. cond t (put h.id (node_of value n own (later n)) (later m)) (later m)) (same_number m)
        ∙ ap (λ ms. put h.id (node_of value n own ms) (later m)) (children_here (n + 1) n own cs children (omega arith) (bare n (omega arith) (omega arith)) rest)
        ∙ ap (put h.id (node value n m p (language.construct h b cs))) (children_elsewhere (n + 1) n own cs children m (omega arith) apart)

    children_here : (n m : ℕ) (p : Placed) (cs : Constructs) (children : ℕ → Members) → m < n → children m ≡ no_members → AreBare n (length (walk_children n m p cs)) children
        → made n (walk_children n m p cs) children m ≡ nodes value n m p cs
    children_here n m p language.no_constructs children below none bare = none
    children_here n m p (language.child c cs) children below none bare =
        let first = walk n m p c in
        let next = n + length first in
        let others = walk_children next m p cs in
        let later = made next others children in
        let count : length (first ++ others) ≡ length first + length others = length-append first others in
        let first_bare : AreBare n (length first) later =
        λ k from to. let apart : k ≢ m = omega arith in children_elsewhere next m p cs children k (omega arith) apart ∙ bare k (omega arith) (omega arith) in
        let others_bare : AreBare next (length others) children = λ k from to. bare k (omega arith) (omega arith) in
        ap (λ (f : ℕ → Members). f m) (made-append n first others children)
        ∙ walk_here n m p c later below first_bare
        ∙ ap (put (id_of c) (node value n m p c)) (children_here next m p cs children (omega arith) none others_bare)

  -- at the root stand the nodes of an application's children
  pub root_here : (h : language.Head) (b : language.Body) (cs : Constructs) → made 1 (walk_children 1 0 (root_placed h b) cs) (λ k. no_members) 0 ≡ nodes value 1 0 (root_placed h b) cs
  root_here h b cs = children_here 1 0 (root_placed h b) cs (λ k. no_members) (omega arith) refl (λ k from to. refl)

  -- the nodes that are put together below the root make the root's
  pub root_node-made : (a : Application) (cs : List Placed) → cs ≡ constructs_of a → node_of value 0 (construct_at cs 0) (made 1 (drop 1 cs) (λ k. no_members) 0) ≡ root_node value a
  root_node-made (language.construct h b kids) cs is =
      ap (λ ps. node_of value 0 (construct_at ps 0) (made 1 (drop 1 ps) (λ k. no_members) 0)) is
      ∙ ap (node_of value 0 (root_placed h b)) (root_here h b kids)

-- an application has constructs, its root at least
pub length-constructs : (a : Application) (cs : List Placed) → cs ≡ constructs_of a → 0 < length cs
length-constructs (language.construct h b kids) cs is =
    let count : length cs ≡ suc (length (walk_children 1 0 (root_placed h b) kids)) = ap length is in
    omega arith

-- ---- one construct more

module _ (node : ℕ → Placed → Members → Data) where
  attached-same : (i : ℕ) (c : Placed) (f g : ℕ → Members) (k : ℕ) → f i ≡ g i → f k ≡ g k → attached node i c f k ≡ attached node i c g k
  attached-same i c f g k own scope =
      ap (λ ms. cond (is_in k c.parent) (put c.head.id (node i c ms) (f k)) (f k)) own
      ∙ ap (λ ms. cond (is_in k c.parent) (put c.head.id (node i c (g i)) ms) ms) scope

  -- where what is known of lower numbers stands for those from n on, it does from the one before on
  pub attached_from-before : (cs : List Placed) (i n : ℕ) (old new : ℕ → Members) (k : ℕ) → i + 1 ≡ n → i < length cs
      → ((j : ℕ) → j < n → old j ≡ attached_from node n (drop n cs) (λ j. no_members) j)
      → new k ≡ attached node i (construct_at cs i) old k → k < i
      → new k ≡ attached_from node i (drop i cs) (λ j. no_members) k
  attached_from-before cs i n old new k next within known step below =
      let later = attached_from node n (drop n cs) (λ j. no_members) in
      step ∙ attached-same i (construct_at cs i) old later k (known i (omega arith)) (known k (omega arith))
      ∙ ap (λ m. attached node i (construct_at cs i) (attached_from node m (drop m cs) (λ j. no_members)) k) (sym next)
      ∙ ap (λ ps. attached_from node i ps (λ j. no_members) k) (sym (drop_more cs i nowhere within))

-- ---- values

pub value_at-is : (values : List Value) (n : ℕ) (v : Value) → n < length values → v ≡ get_or values n v → view v ≡ value_at values n
value_at-is values n v within is = ap view is ∙ sym (get_or-map view values n v null within)

pub attributes-resource : (values : List Value) (value : ℕ → Expression → Data) (cs : List Placed) (n : ℕ) (r : language.ResourceBody) (v : Data)
    → AreProperties values value cs → n < length cs → language.resource r ≡ (construct_at cs n).body → v ≡ resource_attributes (value_at values n) r.resource_type
    → Some v ≡ attributes_of value n (construct_at cs n).body
attributes-resource values value cs n r v are within body is =
    ap Some (is ∙ ap (λ d. resource_attributes d r.resource_type) (are n r within (sym body))) ∙ ap (attributes_of value n) body

-- what holds of a value that is made follows from what does
pub IfOk-more : {T E : Type 0} (P Q : T → Type 0) (r : Result T E) → ((v : T) → P v → Q v) → IfOk r P → IfOk r Q
IfOk-more P Q (Ok v) more h = more v h
IfOk-more P Q (Err e) more h = tt
