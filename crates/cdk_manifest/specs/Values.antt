-- Values that are made already, by the numbers of the constructs that they belong to, and what is made of them so far.
use Rattle.std.specs.Prelude.{◌≡◌, ◌<◌, ℕ, ◌+◌, List, [], ◌∷◌, length, map, slice_index_or}
use Rattle.serde_json.specs.Data.{Data, null, Members}
use Rattle.serde_json.specs.View.{view}
use Rattle.serde_json.specs.declared.value.Value.{Value}
use Rattle.cdk_language.specs.Construct as language
use Rattle.cdk_language.specs.Construct.{ResourceBody}
use Rattle.cdk_language.specs.Expression.{Expression}
use Rattle.cdk_tree.specs.Placed.{Placed, construct_at}
use Rattle.cdk_objects.specs.Keys.{with_child}

abbrev pub value_at : List Value → ℕ → Data
value_at values n = slice_index_or (map view values) n null

-- at each resource stands the value of its properties
abbrev pub AreProperties : List Value → (ℕ → Expression → Data) → List Placed → Type 0
AreProperties values value cs = (n : ℕ) (r : ResourceBody) → n < length cs → (construct_at cs n).body ≡ language.resource r → value_at values n ≡ value n r.properties

module _ (node : ℕ → Placed → Members → Data) where
  -- a construct's node is put into its scope's children
  abbrev pub attached : ℕ → Placed → (ℕ → Members) → ℕ → Members
  attached n c children k = with_child c (node n c (children n)) children k

  -- those from the number n on, the last one first, so that each has its own children when it is put in
  abbrev pub attached_from : ℕ → List Placed → (ℕ → Members) → ℕ → Members
  attached_from n [] children = children
  attached_from n (c ∷ cs) children = attached n c (attached_from (n + 1) cs children)
