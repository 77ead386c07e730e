-- What stands in a template for constructs, with values as they are rendered (CloudFormation's template anatomy; the metadata's path
-- is AWS CDK's).
use Rattle.std.specs.Prelude.{ℕ, List, Option, None, option_map, codes}
use Rattle.serde_json.specs.Data.{Data, string, object, Members, no_members, member}
use Rattle.cdk_language.specs.Construct as language
use Rattle.cdk_language.specs.Construct.{Body, OutputBody, ParameterBody, ResourceBody}
use Rattle.cdk_language.specs.declared.construct.ParameterForm.{ParameterForm}
use Rattle.cdk_language.specs.declared.construct.ParameterForm.TheVariants as forms
use Rattle.cdk_language.specs.declared.construct.Policy.{Policy}
use Rattle.cdk_language.specs.declared.construct.Policy.TheVariants as policies
use Rattle.cdk_entries.specs.Members.{if_given, members_of, unless_empty}

-- ---- members

abbrev pub policy_name : Policy → List ℕ
policy_name policies.Delete = codes "Delete"
policy_name policies.Retain = codes "Retain"
policy_name policies.Snapshot = codes "Snapshot"

abbrev pub form_name : ParameterForm → List ℕ
form_name forms.Text = codes "String"
form_name forms.Number = codes "Number"
form_name forms.List = codes "CommaDelimitedList"

abbrev pub path_metadata : List ℕ → Data
path_metadata path = object (member (codes "aws:cdk:path") (string path) no_members)

abbrev pub export_name : List ℕ → Data
export_name t = object (member (codes "Name") (string t) no_members)

abbrev pub description_of : Body → Option (List ℕ)
description_of (language.stack d) = d
description_of b = None

-- ---- entries: keys in byte order

abbrev pub parameter_entry : ParameterBody → Data
parameter_entry p =
    object (if_given (codes "Default") (option_map string p.default)
    (if_given (codes "Description") (option_map string p.description)
    (member (codes "Type") (string (form_name p.form))
    no_members)))

-- the entry of a parameter or a mapping, and an empty object for any other construct
abbrev pub fixed_entry : Body → Data
fixed_entry (language.parameter p) = parameter_entry p
fixed_entry (language.mapping m) = object m
fixed_entry b = object no_members

-- ---- entries with a value as it is rendered, and conditions by their logical names

-- of a resource that waits for no other
abbrev pub resource_with : (List ℕ → List ℕ) → List ℕ → ResourceBody → Data → Members
resource_with named path r properties =
    if_given (codes "Condition") (option_map (λ t. string (named t)) r.condition)
    (if_given (codes "DeletionPolicy") (option_map (λ p. string (policy_name p)) r.deletion)
    (member (codes "Metadata") (path_metadata path)
    (if_given (codes "Properties") (unless_empty (members_of properties))
    (member (codes "Type") (string r.resource_type)
    (if_given (codes "UpdateReplacePolicy") (option_map (λ p. string (policy_name p)) r.replace)
    no_members)))))

abbrev pub output_with : (List ℕ → List ℕ) → OutputBody → Data → Members
output_with named o value =
    if_given (codes "Condition") (option_map (λ t. string (named t)) o.condition)
    (if_given (codes "Description") (option_map string o.description)
    (if_given (codes "Export") (option_map export_name o.export)
    (member (codes "Value") value
    no_members)))
