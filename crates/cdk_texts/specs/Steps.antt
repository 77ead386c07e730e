-- What a loop has found so far, put before the answer for the rest, and what the parts of a Sub's text stand for.
use Rattle.std.specs.Prelude.{ℕ, List, [], ◌∷◌, ◌++◌, map, Option, option_map, codes}
use Rattle.serde_json.specs.Data.{Data, Items, item}
use Rattle.serde_json.specs.View.{view}
use Rattle.serde_json.specs.declared.value.Value.{Value}
use Rattle.cdk_eval.specs.SubText.{SubPart, literal, hole, Asked as SpecAsked, spelled, attribute_of, named}
use Rattle.cdk_texts.specs.declared.sub.Part.{Part}
use Rattle.cdk_texts.specs.declared.sub.Part.TheVariants as parts
use Rattle.cdk_texts.specs.declared.sub.Asked.{Asked}
use Rattle.cdk_texts.specs.declared.sub.Asked.TheVariants as asks

abbrev pub items_before : List Data → Items → Items
items_before [] rest = rest
items_before (d ∷ ds) rest = item d (items_before ds rest)

abbrev pub values_before : List Value → Items → Items
values_before vs rest = items_before (map view vs) rest

abbrev pub part_view : Part → SubPart
part_view (parts.Literal s) = literal s.now
part_view (parts.Hole s) = hole s.now

abbrev pub parts_before : List Part → Option (List SubPart) → Option (List SubPart)
parts_before ps rest = option_map (λ qs. map part_view ps ++ qs) rest

abbrev pub asked_view : Asked → SpecAsked
asked_view (asks.Spelled s) = spelled (codes "${" ++ (s.now ++ codes "}"))
asked_view (asks.Attribute n a) = attribute_of n.now a.now
asked_view (asks.Named s) = named s.now
