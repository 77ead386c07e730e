-- How a consuming stack spells what it uses (after AWS CDK's references between stacks; own).
use Rattle.std.specs.Prelude.{ℕ, List, [], Option, Some, None}
use Rattle.cdk_homes.specs.Homes.{Entry, spelled}
use Rattle.cdk_homes.specs.Views.{spelling_view}
use Rattle.cdk_homes.specs.declared.target.Home.{Home}
use Rattle.cdk_homes.specs.declared.target.Home.TheVariants.{Local, Import, ImportList}
use Rattle.cdk_homes.specs.declared.target.Spelling.{Spelling}
use Rattle.cdk_plain.specs.Rendered as rendered

-- of a name in such a home
abbrev pub home_at : Home → List ℕ → rendered.Home
home_at Local name = rendered.Local name
home_at Import name = rendered.Import name
home_at ImportList name = rendered.ImportList name

-- what was never put is spelled by the empty name; no checked application asks for it
abbrev pub home_of : Option (List ℕ × Home) → rendered.Home
home_of None = rendered.Local []
home_of (Some s) = home_at s.1 s.0

abbrev pub name_of : Option (List ℕ × Home) → List ℕ
name_of None = []
name_of (Some s) = s.0

-- in one consuming stack
abbrev pub homes_for : List Entry → ℕ → rendered.Homes
homes_for entries consumer = record {
  target = λ n. home_of (spelled entries consumer n None);
  attribute = λ n a. home_of (spelled entries consumer n (Some a));
  condition = λ n. name_of (spelled entries consumer n None);
  mapping = λ n. name_of (spelled entries consumer n None);
}

abbrev pub home_view : Spelling → rendered.Home
home_view s = home_of (Some (spelling_view s))
