-- Plain expressions and conditions: with no marker, context or lazy in them (AWS CDK's resolved values). A target, a condition or a
-- mapping is a construct's number in the tree, so that stacks share no name.
use Rattle.std.specs.Prelude.{◌≡◌, ℕ, ◌^◌, suc, ◌&&◌, ℤ, pos, negsuc, Bool, true, false, List, [], ◌∷◌, nat_lt, nat_le, codes, ⊤}
use Rattle.serde_json.specs.Data.{Num, unsigned, negative}
use Rattle.cdk_base.specs.Json.{is_whole, is_intrinsic_key}

-- The pseudo parameters (CloudFormation's pseudo parameter reference, without `AWS::NotificationARNs`).
pub data Pseudo : Type 0 where
  account_id : Pseudo
  partition : Pseudo
  region : Pseudo
  stack_id : Pseudo
  stack_name : Pseudo
  url_suffix : Pseudo
  no_value : Pseudo

abbrev pub pseudo_name : Pseudo → List ℕ
pseudo_name account_id = codes "AWS::AccountId"
pseudo_name partition = codes "AWS::Partition"
pseudo_name region = codes "AWS::Region"
pseudo_name stack_id = codes "AWS::StackId"
pseudo_name stack_name = codes "AWS::StackName"
pseudo_name url_suffix = codes "AWS::URLSuffix"
pseudo_name no_value = codes "AWS::NoValue"

mutual
  pub data Plain : Type 0 where
    text : List ℕ → Plain
    whole : ℤ → Plain
    truth : Bool → Plain
    list_of : Plains → Plain
    object_of : Fields → Plain
    pseudo : Pseudo → Plain
    ref : ℕ → Plain
    get_att : ℕ → List ℕ → Plain
    concat : Plains → Plain
    join : List ℕ → Plain → Plain
    select : ℕ → Plain → Plain
    split : List ℕ → Plain → Plain
    choice : ℕ → Plain → Plain → Plain
    find_in_map : ℕ → Plain → Plain → Plain
    import_value : List ℕ → Plain

  pub data Plains : Type 0 where
    no_plains : Plains
    plain : Plain → Plains → Plains

  pub data Fields : Type 0 where
    no_fields : Fields
    field : List ℕ → Plain → Fields → Fields

mutual
  pub data Condition : Type 0 where
    equals : Plain → Plain → Condition
    all_of : Conditions → Condition
    any_of : Conditions → Condition
    negation : Condition → Condition
    named : ℕ → Condition

  pub data Conditions : Type 0 where
    no_conditions : Conditions
    condition : Condition → Conditions → Conditions

-- ---- well formed

-- The number of JSON that a whole number is.
abbrev pub num_of : ℤ → Num
num_of (pos n) = unsigned n
num_of (negsuc n) = negative (negsuc n)

abbrev pub IsNonEmpty : List ℕ → Type 0
IsNonEmpty [] = ⊥
IsNonEmpty (c ∷ s) = ⊤

-- Whole numbers and indexes are within 64 bits, the delimiter of a split is not empty, and no key of an object makes it an intrinsic.
abbrev mutual
  pub IsWell : Plain → Type 0
  IsWell (text s) = ⊤
  IsWell (whole z) = is_whole (num_of z) ≡ true
  IsWell (truth b) = ⊤
  IsWell (list_of ps) = AreWell ps
  IsWell (object_of fs) = FieldsAreWell fs
  IsWell (pseudo p) = ⊤
  IsWell (ref t) = ⊤
  IsWell (get_att t a) = ⊤
  IsWell (concat ps) = AreWell ps
  IsWell (join d e) = IsWell e
  IsWell (select n e) = (nat_lt n (2 ^ 64) ≡ true) × IsWell e
  IsWell (split d e) = IsNonEmpty d × IsWell e
  IsWell (choice c x y) = IsWell x × IsWell y
  IsWell (find_in_map m x y) = IsWell x × IsWell y
  IsWell (import_value e) = ⊤

  pub AreWell : Plains → Type 0
  AreWell no_plains = ⊤
  AreWell (plain p ps) = IsWell p × AreWell ps

  pub FieldsAreWell : Fields → Type 0
  FieldsAreWell no_fields = ⊤
  FieldsAreWell (field k p fs) = (is_intrinsic_key k ≡ false) × IsWell p × FieldsAreWell fs

abbrev pub condition_count : Conditions → ℕ
condition_count no_conditions = 0
condition_count (condition c cs) = suc (condition_count cs)

-- `Fn::And` and `Fn::Or` have 2 to 10 parts.
abbrev pub are_few : Conditions → Bool
are_few cs = nat_le 2 (condition_count cs) && nat_le (condition_count cs) 10

abbrev mutual
  pub IsWellCondition : Condition → Type 0
  IsWellCondition (equals x y) = IsWell x × IsWell y
  IsWellCondition (all_of cs) = (are_few cs ≡ true) × AreWellConditions cs
  IsWellCondition (any_of cs) = (are_few cs ≡ true) × AreWellConditions cs
  IsWellCondition (negation c) = IsWellCondition c
  IsWellCondition (named c) = ⊤

  pub AreWellConditions : Conditions → Type 0
  AreWellConditions no_conditions = ⊤
  AreWellConditions (condition c cs) = IsWellCondition c × AreWellConditions cs
