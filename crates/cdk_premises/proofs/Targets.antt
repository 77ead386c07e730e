-- The targets that a construct asks for are found, and serve: no finding tells otherwise. So they are among the stack's constructs.
use Rattle.std.proofs.Common.{◌≡◌, ◌<◌, ℕ, List, [], ◌∷◌, map, length, Bool, true, false, true≢false, Option, Some, None, refl, sym, ap, ◌∙◌, unwrap_or, inl, inr}
use Rattle.std.specs.Prelude.{◌||◌, ◌&&◌, is_none, not, ⊤}
use Rattle.std.specs.List.{list_any}
use Rattle.std.specs.Option.{option_map_or}
use Rattle.std.proofs.lemmas.Bool.{cases_lt, eq-eqb, not-false, or_parts}
use Rattle.std.proofs.lemmas.List.{get_or_past}
use Rattle.serde_json.specs.Data.{Members}
use Rattle.cdk_elements.specs.Kinds.{is_in, of_kind}
use Rattle.cdk_expansion.proofs.RightExpressions.{none_in_parts}
use Rattle.cdk_expansion.proofs.SoundFindings.{no_wrong_targets}
use Rattle.cdk_expansion.specs.Laws.{IsSound}
use Rattle.cdk_language.specs.Construct as language
use Rattle.cdk_language.specs.Construct.{Body}
use Rattle.cdk_meaning.specs.Names.{Each, IsIn}
use Rattle.cdk_tokens.specs.Marking.{target}
use Rattle.cdk_tree.proofs.Tests.{and_both}
use Rattle.cdk_tree.specs.Expected as asked
use Rattle.cdk_tree.specs.Expected.{Expected, expected_body, is_condition, is_mapping, is_missing, is_parameter, is_resource, is_wrong, serves}
use Rattle.cdk_tree.specs.Lists.{list_lazies}
use Rattle.cdk_tree.specs.PlaceFindings.{is_element}
use Rattle.cdk_tree.specs.Placed.{Placed, construct_at, find_path, nowhere}
use Rattle.cdk_tree.specs.declared.role.TargetRole.{TargetRole}
use Rattle.cdk_tree.specs.declared.role.TargetRole.TheVariants as roles
use Rattle.cdk_premises.specs.OneTree.{IsOneTree}
use Rattle.cdk_premises.proofs.ElementStacks.{stands_in_it}
use Rattle.cdk_premises.proofs.Lists.{is_picked}

-- ---- what is asked for is met

-- the target is found, and serves; in a condition it is no resource
pub record IsMet (cs : List Placed) (in_condition : Bool) (role : TargetRole) (t : List ℕ) : Type 0 where
  pub found : find_path cs t ≡ Some (target cs t)
  pub serving : serves role (construct_at cs (target cs t)).body ≡ true
  pub barred : (in_condition && is_resource (construct_at cs (target cs t)).body) ≡ false

abbrev pub IsMetAt : List Placed → Bool → Expected → Type 0
IsMetAt cs in_condition (asked.target role t) = IsMet cs in_condition role t
IsMetAt cs in_condition x = ⊤

module _ (cs : List Placed) (lazies : List Bool) (in_condition : Bool) (scopes : List Members) where
  found_one : (role : TargetRole) (t : List ℕ) (o : Option ℕ) → find_path cs t ≡ o → is_none o ≡ false
      → option_map_or (λ n. not (serves role (construct_at cs n).body) || (in_condition && is_resource (construct_at cs n).body)) o false ≡ false → IsMet cs in_condition role t
  found_one role t None is there right = absurd (true≢false there)
  found_one role t (Some n) is there right =
      let same : target cs t ≡ n = ap (λ o. unwrap_or o 0) is in
      let two = or_parts (not (serves role (construct_at cs n).body)) (in_condition && is_resource (construct_at cs n).body) right in
      record {
        found = is ∙ ap Some (sym same);
        serving = ap (λ k. serves role (construct_at cs k).body) same ∙ not-false (serves role (construct_at cs n).body) two.0;
        barred = ap (λ k. in_condition && is_resource (construct_at cs k).body) same ∙ two.1;
      }

  is_met : (x : Expected) → is_missing cs x ≡ false → is_wrong cs lazies in_condition scopes x ≡ false → IsMetAt cs in_condition x
  is_met (asked.target role t) there right = found_one role t (find_path cs t) refl there right
  is_met (asked.text_place e) there right = tt
  is_met (asked.list_place e) there right = tt

  are_met : (xs : List Expected) → list_any (is_missing cs) xs ≡ false → list_any (is_wrong cs lazies in_condition scopes) xs ≡ false → Each (IsMetAt cs in_condition) xs
  are_met [] there right = tt
  are_met (x ∷ xs) there right =
      let t = or_parts (is_missing cs x) (list_any (is_missing cs) xs) there in
      let r = or_parts (is_wrong cs lazies in_condition scopes x) (list_any (is_wrong cs lazies in_condition scopes) xs) right in
      (is_met x t.0 r.0, are_met xs t.1 r.1)

-- what the body of a construct asks for
abbrev pub BodyIsMet : List Placed → Body → Type 0
BodyIsMet cs b = Each (IsMetAt cs (is_condition b)) (expected_body b)

pub body_is_met : (cs : List Placed) → IsSound cs → (n : ℕ) → n < length cs → BodyIsMet cs (construct_at cs n).body
body_is_met cs sound n within =
    let c = construct_at cs n in
    let none = no_wrong_targets cs n within sound.targets in
    let there = none_in_parts (is_missing cs) (map (asked.target roles.Dependable) c.head.depends) (expected_body c.body) none.0 in
    let right = none_in_parts (is_wrong cs (list_lazies cs) (is_condition c.body) c.contexts) (map (asked.target roles.Dependable) c.head.depends) (expected_body c.body) none.1 in
    are_met cs (list_lazies cs) (is_condition c.body) c.contexts (expected_body c.body) there.1 right.1

-- ---- a construct of a kind

-- where there is no construct, none is of the kind
pub kind_within : (kind : Body → Bool) (cs : List Placed) (n : ℕ) → kind language.root ≡ false → kind (construct_at cs n).body ≡ true → n < length cs
kind_within kind cs n none is = elim (cases_lt n (length cs)) [
  | inl within ↦ within
  | inr past ↦ absurd (true≢false (sym is ∙ ap (λ (c : Placed). kind c.body) (get_or_past cs n nowhere past) ∙ none))
]

is_the_stack : (stack : ℕ) (o : Option ℕ) → o ≡ Some stack → is_in stack o ≡ true
is_the_stack stack o e = ap (is_in stack) e ∙ eq-eqb stack stack refl

-- an element of the kind is among the stack's
pub is_among_kind : (cs : List Placed) (stack : ℕ) → IsOneTree cs stack → (kind : Body → Bool) → ((b : Body) → kind b ≡ true → is_element b ≡ true) → kind language.root ≡ false
    → (n : ℕ) → kind (construct_at cs n).body ≡ true → IsIn n (of_kind cs stack kind)
is_among_kind cs stack tree kind element none n is =
    let within = kind_within kind cs n none is in
    let inside = is_the_stack stack (construct_at cs n).stack (stands_in_it cs stack tree n within (element (construct_at cs n).body is)) in
    is_picked (λ k. is_in stack (construct_at cs k).stack && kind (construct_at cs k).body) n (length cs) within (and_both (is_in stack (construct_at cs n).stack) (kind (construct_at cs n).body) inside is)

resource_is_element : (b : Body) → is_resource b ≡ true → is_element b ≡ true
resource_is_element (language.resource r) h = refl
resource_is_element b h = absurd (true≢false (sym h))

parameter_is_element : (b : Body) → is_parameter b ≡ true → is_element b ≡ true
parameter_is_element (language.parameter p) h = refl
parameter_is_element b h = absurd (true≢false (sym h))

condition_is_element : (b : Body) → is_condition b ≡ true → is_element b ≡ true
condition_is_element (language.condition_body c) h = refl
condition_is_element b h = absurd (true≢false (sym h))

mapping_is_element : (b : Body) → is_mapping b ≡ true → is_element b ≡ true
mapping_is_element (language.mapping m) h = refl
mapping_is_element b h = absurd (true≢false (sym h))

module _ (cs : List Placed) (stack : ℕ) (tree : IsOneTree cs stack) where
  pub resource_there : (n : ℕ) → is_resource (construct_at cs n).body ≡ true → IsIn n (of_kind cs stack is_resource)
  resource_there n is = is_among_kind cs stack tree is_resource resource_is_element refl n is

  pub parameter_there : (n : ℕ) → is_parameter (construct_at cs n).body ≡ true → IsIn n (of_kind cs stack is_parameter)
  parameter_there n is = is_among_kind cs stack tree is_parameter parameter_is_element refl n is

  pub condition_there : (n : ℕ) → is_condition (construct_at cs n).body ≡ true → IsIn n (of_kind cs stack is_condition)
  condition_there n is = is_among_kind cs stack tree is_condition condition_is_element refl n is

  pub mapping_there : (n : ℕ) → is_mapping (construct_at cs n).body ≡ true → IsIn n (of_kind cs stack is_mapping)
  mapping_there n is = is_among_kind cs stack tree is_mapping mapping_is_element refl n is
