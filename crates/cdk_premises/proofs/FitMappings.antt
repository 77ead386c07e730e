-- A mapping of a formed tree is an object of objects of leaves, and so no deeper than that.
use Rattle.std.proofs.Common.{◌≤◌, arith, subst}
use Rattle.serde_json.specs.Data.{Data, null, boolean, number, string, array, object, Members, no_members, member, depth, members_depth}
use Rattle.cdk_premises.specs.Formed.{IsFormedBody, IsFormedMapping}
use Rattle.cdk_premises.specs.FormedLaws.{MappingsAreWell}
use Rattle.cdk_meaning.specs.StackTemplate.{EachMember, IsLeaf, IsRow}

leaf_depth : (d : Data) → IsLeaf d → depth d ≤ 0
leaf_depth null h = omega arith
leaf_depth (boolean b) h = omega arith
leaf_depth (number n) h = omega arith
leaf_depth (string s) h = omega arith
leaf_depth (array ds) h = absurd (cc h)
leaf_depth (object ms) h = absurd (cc h)

leaves_depth : (ms : Members) → EachMember IsLeaf ms → members_depth ms ≤ 0
leaves_depth no_members h = omega arith
leaves_depth (member k d ms) h = let first = leaf_depth d h.0 in let rest = leaves_depth ms h.1 in omega (arith, first, rest)

row_depth : (d : Data) → IsRow d → depth d ≤ 1
row_depth (object ms) h = let inner = leaves_depth ms h in omega (arith, inner)
row_depth null h = absurd h
row_depth (boolean b) h = absurd h
row_depth (number n) h = absurd h
row_depth (string s) h = absurd h
row_depth (array ds) h = absurd h

rows_depth : (ms : Members) → EachMember IsRow ms → members_depth ms ≤ 1
rows_depth no_members h = omega arith
rows_depth (member k d ms) h = let first = row_depth d h.0 in let rest = rows_depth ms h.1 in omega (arith, first, rest)

pub mappings_are_well : MappingsAreWell
mappings_are_well cs formed n m within is =
    let here : IsFormedMapping m = subst (IsFormedBody cs n) is (formed n within) in
    let rows = rows_depth m here.0 in
    (here.0, here.1, omega (arith, rows))
