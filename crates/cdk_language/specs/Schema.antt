-- The schemas 1 and 2 of an application, our own, as a table: what a place asks for is its role.
use Rattle.std.specs.Prelude.{ℕ, suc, ◌==◌, ◌||◌, ◌&&◌, List, [], ◌∷◌, length, Bool, true, false, not, codes, nat_lt, if◌then◌else◌, count_by, Option, Some, None, option_and_then}
use Rattle.std.specs.List.{list_any}
use Rattle.std.specs.Option.{is_some}
use Rattle.std.specs.Str.{bytes_eq}
use Rattle.serde_json.specs.Data.{Num, unsigned, negative, float, Data, null, number, string, array, object, Items, no_items, item, Members, no_members, member}
use Rattle.serde_json.specs.Find.{get_member, as_str}
use Rattle.cdk_base.specs.Json.{is_form_key}
use Rattle.cdk_language.specs.Application.{text_at, has_form_key}
use Rattle.cdk_language.specs.Sub.{Piece, literal, name, attribute, is_attribute, is_variable_name, pieces_of}
use Rattle.cdk_language.specs.declared.schema.Frame.{Frame}
use Rattle.cdk_language.specs.declared.schema.Frame.TheVariants as frames
use Rattle.cdk_language.specs.declared.schema.KindName.{KindName}
use Rattle.cdk_language.specs.declared.schema.KindName.TheVariants as kinds
use Rattle.cdk_language.specs.declared.schema.Role.{Role}
use Rattle.cdk_language.specs.declared.schema.Role.TheVariants as roles
use Rattle.cdk_language.specs.declared.schema.Schema.{Schema}
use Rattle.cdk_language.specs.declared.schema.Schema.TheVariants as schemas
use Rattle.cdk_language.specs.declared.schema.Within.{Within}
use Rattle.cdk_language.specs.declared.schema.Within.TheVariants as within

abbrev pub is : List ℕ → List ℕ → Bool
is k text = bytes_eq k text

abbrev pub lacks : List ℕ → Members → Bool
lacks k ms = not (is_some (get_member k ms))

-- ---- what an object is

abbrev pub kind_named : List ℕ → Option KindName
kind_named s =
    if is s (codes "stage") then Some kinds.Stage
    else if is s (codes "stack") then Some kinds.Stack
    else if is s (codes "group") then Some kinds.Group
    else if is s (codes "resource") then Some kinds.Resource
    else if is s (codes "parameter") then Some kinds.Parameter
    else if is s (codes "condition") then Some kinds.Condition
    else if is s (codes "mapping") then Some kinds.Mapping
    else if is s (codes "output") then Some kinds.Output
    else if is s (codes "lazy") then Some kinds.Lazy
    else None

abbrev pub kind_in : Members → Option KindName
kind_in ms = option_and_then kind_named (text_at (codes "kind") ms)

-- the member that a construct of the kind needs, beside `kind` and `id`
abbrev pub needed_member : KindName → List ℕ
needed_member kinds.Stage = codes "children"
needed_member kinds.Stack = codes "children"
needed_member kinds.Group = codes "children"
needed_member kinds.Resource = codes "type"
needed_member kinds.Parameter = codes "type"
needed_member kinds.Condition = codes "expression"
needed_member kinds.Mapping = codes "mappings"
needed_member kinds.Output = codes "value"
needed_member kinds.Lazy = codes "value"

abbrev pub schema_named : Option (List ℕ) → Schema
schema_named None = schemas.One
schema_named (Some s) = if is s (codes "2") then schemas.Two else schemas.One

abbrev pub construct_frame : Schema → Option KindName → Frame
construct_frame schema None = frames.Unknown
construct_frame schema (Some kind) = frames.Construct schema kind

abbrev pub frame_of : Role → Members → Frame
frame_of roles.Document ms = frames.Document (schema_named (text_at (codes "app") ms))
frame_of (roles.Construct schema) ms = construct_frame schema (kind_in ms)
frame_of roles.Context ms = frames.Literals
frame_of roles.Literal ms = frames.Literals
frame_of roles.FreeLiteral ms = frames.FreeLiterals
frame_of (roles.Entry schema) ms = frames.Entry schema
frame_of roles.Mapping ms = frames.Mapping
frame_of roles.MappingRow ms = frames.MappingRow
frame_of roles.Properties ms = frames.Properties
frame_of (roles.Expression w) ms = if has_form_key ms then frames.Form w else frames.Fields w
frame_of (roles.TextPlace w) ms = frames.Form w
frame_of (roles.Piece w) ms = frames.Form w
frame_of (roles.ListPlace w) ms = frames.Form w
frame_of (roles.SubVariables w) ms = frames.SubVariables w
frame_of roles.Condition ms = frames.Condition
frame_of role ms = frames.Anything

-- ---- the roles of members

abbrev pub document_member : Schema → List ℕ → Role
document_member schema k =
    if is k (codes "app") then roles.SchemaName
    else if is k (codes "children") then roles.Constructs schema
    else if is k (codes "context") then roles.Context
    else if is k (codes "aspects") then roles.Entries schema
    else roles.Nothing

-- what schema 2 adds
abbrev pub in_schema_2 : Schema → Role → Role
in_schema_2 schemas.One role = roles.Nothing
in_schema_2 schemas.Two role = role

-- a member that every element may have
abbrev pub element_member : Schema → List ℕ → Role
element_member schema k = if is k (codes "logicalId") then in_schema_2 schema roles.Text else roles.Nothing

abbrev pub kind_member : Schema → KindName → List ℕ → Role
kind_member schema kinds.Stage k =
    if is k (codes "children") then roles.Constructs schema
    else if is k (codes "aspects") then roles.Entries schema
    else roles.Nothing
kind_member schema kinds.Stack k =
    if is k (codes "children") then roles.Constructs schema
    else if is k (codes "aspects") then roles.Entries schema
    else if is k (codes "description") then roles.Text
    else if is k (codes "dependsOn") then roles.Texts
    else roles.Nothing
kind_member schema kinds.Group k =
    if is k (codes "children") then roles.Constructs schema
    else if is k (codes "aspects") then roles.Entries schema
    else if is k (codes "dependsOn") then roles.Texts
    else roles.Nothing
kind_member schema kinds.Resource k =
    if is k (codes "type") then roles.NonEmptyText
    else if is k (codes "properties") then roles.Properties
    else if is k (codes "condition") then roles.Text
    else if is k (codes "dependsOn") then roles.Texts
    else if is k (codes "aspects") then roles.Entries schema
    else if is k (codes "deletionPolicy") then roles.Policy
    else if is k (codes "updateReplacePolicy") then roles.Policy
    else element_member schema k
kind_member schema kinds.Parameter k =
    if is k (codes "type") then roles.ParameterType
    else if is k (codes "default") then roles.Text
    else if is k (codes "description") then roles.Text
    else element_member schema k
kind_member schema kinds.Condition k =
    if is k (codes "expression") then roles.Condition
    else element_member schema k
kind_member schema kinds.Mapping k =
    if is k (codes "mappings") then roles.Mapping
    else element_member schema k
kind_member schema kinds.Output k =
    if is k (codes "value") then roles.Expression within.Construct
    else if is k (codes "description") then roles.Text
    else if is k (codes "exportName") then roles.ExportName
    else if is k (codes "condition") then roles.Text
    else element_member schema k
kind_member schema kinds.Lazy k =
    if is k (codes "value") then roles.Expression within.Construct
    else roles.Nothing

abbrev pub construct_member : Schema → KindName → List ℕ → Role
construct_member schema kind k =
    if is k (codes "kind") then roles.Text
    else if is k (codes "id") then roles.Text
    else if is k (codes "context") then roles.Context
    else kind_member schema kind k

abbrev pub entry_member : Schema → List ℕ → Role
entry_member schema k =
    if is k (codes "name") then roles.Text
    else if is k (codes "with") then roles.FreeLiteral
    else if is k (codes "priority") then in_schema_2 schema roles.Priority
    else roles.Nothing

-- the argument of each form of an expression
abbrev pub form_member : Within → List ℕ → Role
form_member w k =
    if is k (codes "Ref") then roles.Text
    else if is k (codes "Fn::GetAtt") then roles.GetAttArguments
    else if is k (codes "Fn::Join") then roles.JoinArguments w
    else if is k (codes "Fn::Select") then roles.SelectArguments w
    else if is k (codes "Fn::Split") then roles.SplitArguments w
    else if is k (codes "Fn::If") then roles.IfArguments w
    else if is k (codes "Fn::FindInMap") then roles.FindInMapArguments w
    else if is k (codes "Fn::ImportValue") then roles.NonEmptyText
    else if is k (codes "Fn::Sub") then roles.SubArgument w
    else if is k (codes "CDK::Concat") then roles.ConcatArguments w
    else if is k (codes "CDK::Context") then roles.ContextArguments
    else if is k (codes "CDK::Lazy") then roles.Text
    else roles.Nothing

-- the argument of each form of a condition
abbrev pub condition_member : List ℕ → Role
condition_member k =
    if is k (codes "Fn::Equals") then roles.EqualsArguments
    else if is k (codes "Fn::And") then roles.ConditionArguments
    else if is k (codes "Fn::Or") then roles.ConditionArguments
    else if is k (codes "Fn::Not") then roles.NotArguments
    else if is k (codes "Condition") then roles.Text
    else roles.Nothing

abbrev pub member_role : Frame → List ℕ → Role
member_role frames.Anything k = roles.Anything
member_role frames.Unknown k = if is k (codes "kind") then roles.Nothing else roles.Anything
member_role (frames.Document schema) k = document_member schema k
member_role (frames.Construct schema kind) k = construct_member schema kind k
member_role (frames.Entry schema) k = entry_member schema k
member_role frames.Literals k = if is_form_key k then roles.Nothing else roles.Literal
member_role frames.FreeLiterals k = roles.FreeLiteral
member_role frames.Mapping k = roles.MappingRow
member_role frames.MappingRow k = roles.MappingLeaf
member_role frames.Properties k = if is_form_key k then roles.Nothing else roles.Expression within.Construct
member_role (frames.Fields w) k = roles.Expression w
member_role (frames.Form w) k = form_member w k
member_role (frames.SubVariables w) k = if is_variable_name k then roles.TextPlace w else roles.Nothing
member_role frames.Condition k = condition_member k

-- ---- the roles of items

abbrev pub first_else : ℕ → Role → Role → Role
first_else n role other = if n == 0 then role else other

abbrev pub item_role : Role → ℕ → Role
item_role (roles.Constructs schema) n = roles.Construct schema
item_role roles.Literal n = roles.Literal
item_role roles.FreeLiteral n = roles.FreeLiteral
item_role (roles.Entries schema) n = roles.Entry schema
item_role roles.Texts n = roles.Text
item_role (roles.Expression w) n = roles.Expression w
item_role (roles.ListPlace w) n = roles.Expression w
item_role roles.GetAttArguments n = first_else n roles.Text roles.Attribute
item_role (roles.JoinArguments w) n = first_else n roles.Text (roles.ListPlace w)
item_role (roles.SelectArguments w) n = first_else n roles.Index (roles.ListPlace w)
item_role (roles.SplitArguments w) n = first_else n roles.NonEmptyText (roles.TextPlace w)
item_role (roles.IfArguments w) n = first_else n roles.Text (roles.Expression w)
item_role (roles.FindInMapArguments w) n = first_else n roles.Text (roles.TextPlace w)
item_role (roles.SubArgument w) n = first_else n (roles.SubText w) (roles.SubVariables w)
item_role (roles.ConcatArguments w) n = roles.Piece w
item_role roles.ContextArguments n = first_else n roles.Text roles.Literal
item_role roles.EqualsArguments n = roles.TextPlace within.Condition
item_role roles.ConditionArguments n = roles.Condition
item_role roles.NotArguments n = roles.Condition
item_role role n = roles.Anything

-- ---- values that are not what their place asks for

abbrev pub is_null : Data → Bool
is_null null = true
is_null d = false

abbrev pub is_no_array : Data → Bool
is_no_array (array ds) = false
is_no_array d = true

abbrev pub is_no_object : Data → Bool
is_no_object (object ms) = false
is_no_object d = true

abbrev pub is_no_text : Data → Bool
is_no_text (string s) = false
is_no_text d = true

-- no text that meets the test
abbrev pub is_no_such_text : (List ℕ → Bool) → Data → Bool
is_no_such_text test (string s) = not (test s)
is_no_such_text test d = true

abbrev pub is_filled : List ℕ → Bool
is_filled s = not (length s == 0)

abbrev pub is_schema_name : List ℕ → Bool
is_schema_name s = is s (codes "1") || is s (codes "2")

abbrev pub is_policy_name : List ℕ → Bool
is_policy_name s = is s (codes "Delete") || (is s (codes "Retain") || is s (codes "Snapshot"))

abbrev pub is_parameter_type : List ℕ → Bool
is_parameter_type s = is s (codes "String") || (is s (codes "Number") || is s (codes "CommaDelimitedList"))

-- a byte with which a character begins in UTF-8
abbrev pub begins_character : ℕ → Bool
begins_character b = nat_lt b 128 || not (nat_lt b 192)

abbrev pub is_export_name : List ℕ → Bool
is_export_name s = not (count_by begins_character s == 0) && nat_lt (count_by begins_character s) 256

-- An array of from low to high items.
abbrev pub items_count : Items → ℕ
items_count no_items = 0
items_count (item d ds) = suc (items_count ds)

abbrev pub is_no_array_of : ℕ → ℕ → Data → Bool
is_no_array_of low high (array ds) = nat_lt (items_count ds) low || nat_lt high (items_count ds)
is_no_array_of low high d = true

-- a number that is not whole counts as 0 here
abbrev pub is_no_count_to : ℕ → Num → Bool
is_no_count_to most (unsigned n) = nat_lt most n
is_no_count_to most (negative z) = true
is_no_count_to most (float x) = false

abbrev pub is_no_priority : Data → Bool
is_no_priority (number n) = is_no_count_to 1000000 n
is_no_priority d = true

abbrev pub is_negative : Num → Bool
is_negative (unsigned n) = false
is_negative (negative z) = true
is_negative (float x) = false

abbrev pub is_no_index : Data → Bool
is_no_index (number n) = is_negative n
is_no_index d = true

abbrev pub is_no_scalar : Data → Bool
is_no_scalar null = true
is_no_scalar (array ds) = true
is_no_scalar (object ms) = true
is_no_scalar d = false

-- ---- objects

abbrev pub is_wrong_document : Data → Bool
is_wrong_document (object ms) = lacks (codes "app") ms || lacks (codes "children") ms
is_wrong_document d = true

abbrev pub lacks_of_kind : Option KindName → Members → Bool
lacks_of_kind None ms = false
lacks_of_kind (Some kind) ms = lacks (codes "id") ms || lacks (needed_member kind) ms

-- where `kind` is there but names no kind, the object itself is not wrong
abbrev pub is_wrong_construct : Data → Bool
is_wrong_construct (object ms) = lacks (codes "kind") ms || lacks_of_kind (kind_in ms) ms
is_wrong_construct d = true

abbrev pub is_wrong_entry : Data → Bool
is_wrong_entry (object ms) = lacks (codes "name") ms || lacks (codes "with") ms
is_wrong_entry d = true

-- ---- forms

abbrev pub is_form_name : List ℕ → Bool
is_form_name k = list_any (is k) (codes "Ref" ∷ codes "Fn::GetAtt" ∷ codes "Fn::Join" ∷ codes "Fn::Select" ∷ codes "Fn::Split" ∷ codes "Fn::If" ∷ codes "Fn::FindInMap" ∷ codes "Fn::ImportValue" ∷ codes "Fn::Sub" ∷ codes "CDK::Concat" ∷ codes "CDK::Context" ∷ codes "CDK::Lazy" ∷ [])

abbrev pub is_no_value : Option (List ℕ) → Bool
is_no_value None = false
is_no_value (Some s) = is s (codes "AWS::NoValue")

-- forms that may not stand in a condition
abbrev pub is_barred : Within → List ℕ → Data → Bool
is_barred within.Construct k d = false
is_barred within.Condition k d =
    list_any (is k) (codes "Fn::GetAtt" ∷ codes "Fn::If" ∷ codes "Fn::ImportValue" ∷ codes "CDK::Lazy" ∷ [])
    || (is k (codes "Ref") && is_no_value (as_str d))

-- an object of one member, whose key is that of a form that may stand here
abbrev pub is_form : Within → Members → Bool
is_form w no_members = false
is_form w (member k d (member l e ms)) = false
is_form w (member k d no_members) = is_form_name k && not (is_barred w k d)

abbrev pub is_wrong_expression : Within → Data → Bool
is_wrong_expression w null = true
is_wrong_expression w (object ms) = has_form_key ms && not (is_form w ms)
is_wrong_expression w d = false

abbrev pub is_wrong_in_text_place : Within → Data → Bool
is_wrong_in_text_place w null = true
is_wrong_in_text_place w (array ds) = true
is_wrong_in_text_place w (object ms) = not (is_form w ms)
is_wrong_in_text_place w d = false

abbrev pub is_wrong_in_list_place : Within → Data → Bool
is_wrong_in_list_place w (array ds) = false
is_wrong_in_list_place w (object ms) = not (is_form w ms)
is_wrong_in_list_place w d = true

-- a piece of a Sub's text that stands for a form that may not stand here
abbrev pub is_barred_piece : Within → Piece → Bool
is_barred_piece within.Construct p = false
is_barred_piece within.Condition (literal s) = false
is_barred_piece within.Condition (name x) = is x (codes "AWS::NoValue")
is_barred_piece within.Condition (attribute x a) = true

abbrev pub are_wrong_pieces : Within → Option (List Piece) → Bool
are_wrong_pieces w None = true
are_wrong_pieces w (Some ps) = list_any (is_barred_piece w) ps

abbrev pub is_wrong_sub_text : Within → List ℕ → Bool
is_wrong_sub_text w s = are_wrong_pieces w (pieces_of s)

abbrev pub is_wrong_in_sub_text : Within → Data → Bool
is_wrong_in_sub_text w (string s) = is_wrong_sub_text w s
is_wrong_in_sub_text w d = true

-- the text alone, or an array of the text and the variables
abbrev pub is_wrong_sub_argument : Within → Data → Bool
is_wrong_sub_argument w (string s) = is_wrong_sub_text w s
is_wrong_sub_argument w d = is_no_array_of 2 2 d

abbrev pub is_condition_name : List ℕ → Bool
is_condition_name k = list_any (is k) (codes "Fn::Equals" ∷ codes "Fn::And" ∷ codes "Fn::Or" ∷ codes "Fn::Not" ∷ codes "Condition" ∷ [])

abbrev pub is_condition_form : Members → Bool
is_condition_form no_members = false
is_condition_form (member k d (member l e ms)) = false
is_condition_form (member k d no_members) = is_condition_name k

abbrev pub is_wrong_condition : Data → Bool
is_wrong_condition (object ms) = not (is_condition_form ms)
is_wrong_condition d = true

-- ---- the table

abbrev pub is_wrong : Role → Data → Bool
is_wrong roles.Nothing d = true
is_wrong roles.Anything d = false
is_wrong roles.Document d = is_wrong_document d
is_wrong roles.SchemaName d = is_no_such_text is_schema_name d
is_wrong (roles.Constructs schema) d = is_no_array d
is_wrong (roles.Construct schema) d = is_wrong_construct d
is_wrong roles.Context d = is_no_object d
is_wrong roles.Literal d = is_null d
is_wrong roles.FreeLiteral d = is_null d
is_wrong (roles.Entries schema) d = is_no_array d
is_wrong (roles.Entry schema) d = is_wrong_entry d
is_wrong roles.Priority d = is_no_priority d
is_wrong roles.Text d = is_no_text d
is_wrong roles.NonEmptyText d = is_no_such_text is_filled d
is_wrong roles.Texts d = is_no_array d
is_wrong roles.Policy d = is_no_such_text is_policy_name d
is_wrong roles.ParameterType d = is_no_such_text is_parameter_type d
is_wrong roles.ExportName d = is_no_such_text is_export_name d
is_wrong roles.Mapping d = is_no_object d
is_wrong roles.MappingRow d = is_no_object d
is_wrong roles.MappingLeaf d = is_no_scalar d
is_wrong roles.Properties d = is_no_object d
is_wrong (roles.Expression w) d = is_wrong_expression w d
is_wrong (roles.TextPlace w) d = is_wrong_in_text_place w d
is_wrong (roles.Piece w) d = is_wrong_in_text_place w d
is_wrong (roles.ListPlace w) d = is_wrong_in_list_place w d
is_wrong roles.Attribute d = is_no_such_text is_attribute d
is_wrong roles.Index d = is_no_index d
is_wrong roles.GetAttArguments d = is_no_array_of 2 2 d
is_wrong (roles.JoinArguments w) d = is_no_array_of 2 2 d
is_wrong (roles.SelectArguments w) d = is_no_array_of 2 2 d
is_wrong (roles.SplitArguments w) d = is_no_array_of 2 2 d
is_wrong (roles.IfArguments w) d = is_no_array_of 3 3 d
is_wrong (roles.FindInMapArguments w) d = is_no_array_of 3 3 d
is_wrong (roles.SubArgument w) d = is_wrong_sub_argument w d
is_wrong (roles.SubText w) d = is_wrong_in_sub_text w d
is_wrong (roles.SubVariables w) d = is_no_object d
is_wrong (roles.ConcatArguments w) d = is_no_array d
is_wrong roles.ContextArguments d = is_no_array_of 1 2 d
is_wrong roles.Condition d = is_wrong_condition d
is_wrong roles.EqualsArguments d = is_no_array_of 2 2 d
is_wrong roles.ConditionArguments d = is_no_array_of 2 10 d
is_wrong roles.NotArguments d = is_no_array_of 1 1 d
