-- The values that templates are evaluated under, from outside (own; the pseudo parameters are CloudFormation's).
use Rattle.std.specs.Prelude.{ℕ, List, ◌++◌, Bool, Option, Some, None, unwrap_or, option_map, if◌then◌else◌, bytes_eq, codes}

pub record Values : Type 0 where
  -- what `Ref` of a resource gives, by stack name and logical name
  pub physical : List ℕ → List ℕ → Option (List ℕ)
  -- what `Fn::GetAtt` of a resource gives, by stack name, logical name and attribute
  pub attribute : List ℕ → List ℕ → List ℕ → Option (List ℕ)
  -- by stack name and logical name
  pub parameter : List ℕ → List ℕ → Option (List ℕ)
  -- by the pseudo parameter's whole name
  pub pseudo : List ℕ → Option (List ℕ)
  -- by the export's name
  pub export : List ℕ → Option (List ℕ)

-- the values where none is given
abbrev pub no_values : Values
no_values = record { physical = λ s l. None; attribute = λ s l a. None; parameter = λ s l. None; pseudo = λ n. None; export = λ e. None }

-- `stack.logical` where none is given
abbrev pub physical_text : Values → List ℕ → List ℕ → List ℕ
physical_text v stack logical = unwrap_or (v.physical stack logical) (stack ++ (codes "." ++ logical))

-- `stack.logical.attribute` where none is given
abbrev pub attribute_text : Values → List ℕ → List ℕ → List ℕ → List ℕ
attribute_text v stack logical a = unwrap_or (v.attribute stack logical a) (stack ++ (codes "." ++ (logical ++ (codes "." ++ a))))

-- of the pseudo parameters that a value may be given for
abbrev pub pseudo_default : List ℕ → Option (List ℕ)
pseudo_default n =
    if bytes_eq n (codes "AWS::AccountId") then Some (codes "111111111111")
    else (if bytes_eq n (codes "AWS::Partition") then Some (codes "aws")
    else (if bytes_eq n (codes "AWS::Region") then Some (codes "us-east-1")
    else (if bytes_eq n (codes "AWS::URLSuffix") then Some (codes "amazonaws.com")
    else None)))

-- the text of a pseudo parameter in a stack; `AWS::NoValue` and other names have none
abbrev pub pseudo_text : Values → List ℕ → List ℕ → Option (List ℕ)
pseudo_text v stack n =
    if bytes_eq n (codes "AWS::StackName") then Some stack
    else (if bytes_eq n (codes "AWS::StackId") then Some (codes "stack/" ++ stack)
    else option_map (unwrap_or (v.pseudo n)) (pseudo_default n))

abbrev pub is_no_value : List ℕ → Bool
is_no_value n = bytes_eq n (codes "AWS::NoValue")
