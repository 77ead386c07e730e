-- What reading gives: a root that is nothing but the root, and, where nothing is found, plain operands in the whole tree.
use Rattle.std.proofs.Common.{ℕ, ◌+◌, List, [], length, refl, subst, option_map}
use Rattle.serde_json.specs.Data.{Data, Members, object}
use Rattle.cdk_base.specs.declared.Setting.{Setting}
use Rattle.cdk_base.proofs.Parsed.{read_parsed}
use Rattle.cdk_base.proofs.ReadValues.{IsOrdered-read}
use Rattle.cdk_language.specs.Application.{application_of, children_in, head_in, root_in, with_settings}
use Rattle.cdk_language.specs.Construct as language
use Rattle.cdk_language.specs.Construct.{Application, Construct, Constructs}
use Rattle.cdk_meaning.specs.Names.{Each}
use Rattle.cdk_tree.specs.Placed.{Placed, constructs_of, placed_in, root_placed, walk, walk_children}
use Rattle.cdk_premises.proofs.ReadExpressions.{All, made, made_then}
use Rattle.cdk_premises.specs.MentionsLaws.{ApplicationsAreRooted, OperandsAreReadPlain}
use Rattle.cdk_premises.specs.OneTree.{IsRooted}
use Rattle.cdk_premises.specs.Operands.{HasPlainOperands, OperandsArePlain}
use Rattle.cdk_premises.proofs.Lists.{each_append}
use Rattle.cdk_premises.proofs.PlainConstructs.{ArePlainConstructs, IsPlainConstruct, document_read}

-- ---- the root

rooted_in : (ms : Members) → All IsRooted (root_in ms)
rooted_in ms = made_then IsRooted (λ x. option_map (language.construct x language.root) (children_in ms)) (head_in ms []) (λ x. made IsRooted (language.construct x language.root) (children_in ms) (λ cs. refl))

rooted_read : (d : Data) → All IsRooted (application_of d)
rooted_read (object ms) = rooted_in ms
rooted_read d = tt

still_rooted : (a : Application) (ss : List Setting) → IsRooted a → IsRooted (with_settings a ss)
still_rooted (language.construct h b cs) ss rooted = rooted

pub applications_are_rooted : ApplicationsAreRooted
applications_are_rooted d a ss is = let rooted = subst (All IsRooted) is (rooted_read d) in (rooted, still_rooted a ss rooted)

-- ---- the walk

abbrev IsPlainPlaced : Placed → Type 0
IsPlainPlaced c = HasPlainOperands c.body

mutual
  walk_plain : (n m : ℕ) (p : Placed) (c : Construct) → IsPlainConstruct c → Each IsPlainPlaced (walk n m p c)
  walk_plain n m p (language.construct h b cs) plain = (plain.0, children_plain (n + 1) n (placed_in n m p h b) cs plain.1)

  children_plain : (n m : ℕ) (p : Placed) (cs : Constructs) → ArePlainConstructs cs → Each IsPlainPlaced (walk_children n m p cs)
  children_plain n m p language.no_constructs plain = tt
  children_plain n m p (language.child c cs) plain =
      let later = n + length (walk n m p c) in
      each_append IsPlainPlaced (walk n m p c) (walk_children later m p cs) (walk_plain n m p c plain.0) (children_plain later m p cs plain.1)

tree_plain : (a : Application) → IsPlainConstruct a → OperandsArePlain (constructs_of a)
tree_plain (language.construct h b cs) plain = (plain.0, children_plain 1 0 (root_placed h b) cs plain.1)

still_plain : (a : Application) (ss : List Setting) → IsPlainConstruct a → IsPlainConstruct (with_settings a ss)
still_plain (language.construct h b cs) ss plain = plain

pub operands_are_read_plain : OperandsAreReadPlain
operands_are_read_plain bytes d a ss e clear is =
    let plain = subst (All IsPlainConstruct) is (document_read d (IsOrdered-read bytes d (read_parsed bytes d e), clear)) in
    (tree_plain a plain, tree_plain (with_settings a ss) (still_plain a ss plain))
