-- What one component changes in the human part, for private clauses (own).
use Rattle.std.specs.Prelude.{ℕ, List, [], nat_eq, if◌then◌else◌}
use Rattle.std.specs.List.{ends_with}
use Rattle.cdk_names.specs.Names.{is_visible, is_shown, alphanumerics}

-- the component that was taken last, once c has been seen
abbrev pub next_last : List ℕ → List ℕ → List ℕ
next_last last c = if is_visible c then (if ends_with nat_eq last c then last else c) else last

-- what c adds
abbrev pub part_text : List ℕ → List ℕ → List ℕ
part_text last c = if is_visible c then (if ends_with nat_eq last c then [] else (if is_shown c then alphanumerics c else [])) else []
