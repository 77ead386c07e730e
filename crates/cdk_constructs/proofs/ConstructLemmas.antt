-- Reading constructs one after another.
use Rattle.std.proofs.Common.{◌≡◌, List, [], ◌∷◌, ◌++◌, Option, Some, None, option_map, option_and_then, refl, ap, ◌∙◌}
use Rattle.serde_json.specs.Data.{Data, null, boolean, number, string, array, object}
use Rattle.serde_json.specs.Find.{as_object}
use Rattle.cdk_language.specs.Application.{construct_of}
use Rattle.cdk_language.specs.Construct.{Construct, Constructs, no_constructs, child, node_view, nodes_view}
use Rattle.cdk_language.specs.declared.construct.Node.{Node}

-- the constructs, before the rest
abbrev pub nodes_before : List Node → Constructs → Constructs
nodes_before [] rest = rest
nodes_before (n ∷ ns) rest = child (node_view n) (nodes_before ns rest)

before-none : (ns : List Node) → nodes_before ns no_constructs ≡ nodes_view ns
before-none [] = refl
before-none (n ∷ ns) = ap (child (node_view n)) (before-none ns)

before-push : (ns : List Node) (n : Node) (rest : Constructs) → nodes_before ns (child (node_view n) rest) ≡ nodes_before (ns ++ n ∷ []) rest
before-push [] n rest = refl
before-push (x ∷ ns) n rest = ap (child (node_view x)) (before-push ns n rest)

one_more : (ns : List Node) (n : Node) (r : Option Constructs) → option_map (nodes_before ns) (option_map (child (node_view n)) r) ≡ option_map (nodes_before (ns ++ n ∷ [])) r
one_more ns n None = refl
one_more ns n (Some rest) = ap Some (before-push ns n rest)

pub all_nodes_read : (ns : List Node) (all : Option Constructs) → all ≡ option_map (nodes_before ns) (Some no_constructs) → all ≡ Some (nodes_view ns)
all_nodes_read ns all e = e ∙ ap Some (before-none ns)

-- one construct more: where the first of the rest reads as n
pub read_next_node : (ns : List Node) (n : Node) (first : Option Construct) (r : Option Constructs) (whole : Option Constructs)
    → whole ≡ option_map (nodes_before ns) (option_and_then (λ x. option_map (child x) r) first) → first ≡ Some (node_view n) → whole ≡ option_map (nodes_before (ns ++ n ∷ [])) r
read_next_node ns n first r whole was here = was ∙ ap (λ o. option_map (nodes_before ns) (option_and_then (λ x. option_map (child x) r) o)) here ∙ one_more ns n r

pub no_construct : (d : Data) → as_object d ≡ None → construct_of d ≡ None
no_construct null e = refl
no_construct (boolean b) e = refl
no_construct (number n) e = refl
no_construct (string s) e = refl
no_construct (array ds) e = refl
no_construct (object ms) e = cc
