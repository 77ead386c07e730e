-- The walk over an application: what waits, and what is placed.
use Rattle.std.proofs.Common.{◌≡◌, ◌<◌, ℕ, ◌+◌, List, [], ◌∷◌, ◌++◌, map, reverse, length, refl, sym, ap, ◌∙◌, arith}
use Rattle.std.proofs.lemmas.List.{append_assoc, length-append, map-append, reverse-append, get_or_append_left}
use Rattle.std.proofs.Math.Seq.{get_or-append_seam}
use Rattle.std.proofs.Common.{add-zero}
use Rattle.cdk_language.specs.Construct as language
use Rattle.cdk_language.specs.Construct.{Body, Construct, Constructs, Head, nodes_view, node_view}
use Rattle.cdk_language.specs.declared.construct.Node.{Node}
use Rattle.cdk_tree.specs.Placed.{Placed, construct_at, placed_in, walk, walk_children, nowhere}
use Rattle.cdk_tree.specs.Walking.{Waiting, pending_view, waiting, children_of, still_to_place, all_placed, size_of_children, size_of_all, AreBelow}
use Rattle.cdk_tree.specs.declared.pending.Pending.{Pending}

pub waiting-push : (ps : List Pending) (p : Pending) → waiting (ps ++ p ∷ []) ≡ pending_view p ∷ waiting ps
waiting-push ps p = ap reverse (map-append pending_view ps (p ∷ [])) ∙ reverse-append (map pending_view ps) (pending_view p ∷ [])

pub children_of-push : (m : ℕ) (ns : List Node) (n : Node) (ws : List Waiting) → children_of m (nodes_view (ns ++ n ∷ [])) ++ ws ≡ children_of m (nodes_view ns) ++ (m, node_view n) ∷ ws
children_of-push m [] n ws = refl
children_of-push m (x ∷ ns) n ws = ap (λ r. (m, node_view x) ∷ r) (children_of-push m ns n ws)

-- ---- placing one more

stays : (cs : List Placed) (p : Placed) (m : ℕ) → m < length cs → construct_at (cs ++ p ∷ []) m ≡ construct_at cs m
stays cs p m within = get_or_append_left cs (p ∷ []) nowhere m within

still_to_place-more : (cs : List Placed) (p : Placed) (n : ℕ) (ws : List Waiting) → AreBelow (length cs) ws → still_to_place (cs ++ p ∷ []) n ws ≡ still_to_place cs n ws
still_to_place-more cs p n [] below = refl
still_to_place-more cs p n (w ∷ ws) below =
    let q = construct_at cs w.0 in
    ap (λ q. walk n w.0 q w.1 ++ still_to_place (cs ++ p ∷ []) (n + length (walk n w.0 q w.1)) ws) (stays cs p w.0 below.0)
    ∙ ap (λ r. walk n w.0 q w.1 ++ r) (still_to_place-more cs p (n + length (walk n w.0 q w.1)) ws below.1)

pub still_to_place-children : (cs : List Placed) (m n : ℕ) (kids : Constructs) (ws : List Waiting) → still_to_place cs n (children_of m kids ++ ws) ≡ walk_children n m (construct_at cs m) kids ++ still_to_place cs (n + length (walk_children n m (construct_at cs m) kids)) ws
still_to_place-children cs m n language.no_constructs ws = ap (λ k. still_to_place cs k ws) (sym (add-zero n))
still_to_place-children cs m n (language.child c kids) ws =
    let q = construct_at cs m in
    let here = walk n m q c in
    let more = walk_children (n + length here) m q kids in
    let count : n + length here + length more ≡ n + length (here ++ more) = omega (arith, length-append here more) in
    ap (λ r. here ++ r) (still_to_place-children cs m (n + length here) kids ws)
    ∙ sym (append_assoc here more (still_to_place cs (n + length here + length more) ws))
    ∙ ap (λ k. here ++ more ++ still_to_place cs k ws) count

pub all_placed-next : (cs : List Placed) (m : ℕ) (h : Head) (b : Body) (kids : Constructs) (ws : List Waiting) → AreBelow (length cs) ws
    → let p = placed_in (length cs) m (construct_at cs m) h b in all_placed cs ((m, language.construct h b kids) ∷ ws) ≡ all_placed (cs ++ p ∷ []) (children_of (length cs) kids ++ ws)
all_placed-next cs m h b kids ws below =
    let n = length cs in
    let p = placed_in n m (construct_at cs m) h b in
    let done = cs ++ p ∷ [] in
    let grown : length done ≡ n + 1 = length-append cs (p ∷ []) in
    let itself : construct_at done n ≡ p = get_or-append_seam cs p [] nowhere in
    let kids_walk = walk_children (n + 1) n p kids in
    let count : n + length (p ∷ kids_walk) ≡ n + 1 + length kids_walk = omega arith in
    let after : still_to_place done (length done) (children_of n kids ++ ws) ≡ kids_walk ++ still_to_place cs (n + length (p ∷ kids_walk)) ws =
    ap (λ k. still_to_place done k (children_of n kids ++ ws)) grown
    ∙ still_to_place-children done n (n + 1) kids ws
    ∙ ap (λ q. walk_children (n + 1) n q kids ++ still_to_place done (n + 1 + length (walk_children (n + 1) n q kids)) ws) itself
    ∙ ap (λ r. kids_walk ++ r) (still_to_place-more cs p (n + 1 + length kids_walk) ws below ∙ ap (λ k. still_to_place cs k ws) (sym count)) in
    sym (ap (λ r. done ++ r) after ∙ append_assoc cs (p ∷ []) (kids_walk ++ still_to_place cs (n + length (p ∷ kids_walk)) ws))

pub AreBelow-more : (n : ℕ) (ws : List Waiting) → AreBelow n ws → AreBelow (n + 1) ws
AreBelow-more n [] below = tt
AreBelow-more n (w ∷ ws) below = let less : w.0 < n = below.0 in (omega arith, AreBelow-more n ws below.1)

pub AreBelow-children : (n m : ℕ) (kids : Constructs) (ws : List Waiting) → m < n → AreBelow n ws → AreBelow n (children_of m kids ++ ws)
AreBelow-children n m language.no_constructs ws within below = below
AreBelow-children n m (language.child c kids) ws within below = (within, AreBelow-children n m kids ws within below)

pub size_of_all-children : (m : ℕ) (kids : Constructs) (ws : List Waiting) → size_of_all (children_of m kids ++ ws) ≡ size_of_children kids + size_of_all ws
size_of_all-children m language.no_constructs ws = omega arith
size_of_all-children m (language.child c kids) ws = omega (arith, size_of_all-children m kids ws)
