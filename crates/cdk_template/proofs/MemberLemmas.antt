-- Members in their places, by key bytes.
use Rattle.std.proofs.Common.{◌≡◌, ℕ, List, Option, Less, nat_cmp, codes, refl, ap, ◌∙◌}
use Rattle.std.specs.Cmp.Lexicographic.{slice_cmp}
use Rattle.serde_json.specs.Data.{Data, Members, no_members, put}
use Rattle.cdk_entries.proofs.MemberLemmas.{GoesFirst, before_given, before_none, given_first}
use Rattle.cdk_entries.specs.Members.{if_given, put_given}

-- ---- sections

module _ (c d m o p r : Option Data) where
  abbrev pub resources_in : Members
  resources_in = if_given (codes "Resources") r no_members

  abbrev pub parameters_in : Members
  parameters_in = if_given (codes "Parameters") p resources_in

  abbrev pub outputs_in : Members
  outputs_in = if_given (codes "Outputs") o parameters_in

  abbrev pub mappings_in : Members
  mappings_in = if_given (codes "Mappings") m outputs_in

  abbrev pub described_in : Members
  described_in = if_given (codes "Description") d mappings_in

  abbrev pub conditions_in : Members
  conditions_in = if_given (codes "Conditions") c described_in

  before_resources : (k : List ℕ) → slice_cmp nat_cmp k (codes "Resources") ≡ Less → GoesFirst k resources_in
  before_resources k e = before_given k (codes "Resources") r no_members e (before_none k)

  before_parameters : (k : List ℕ) → slice_cmp nat_cmp k (codes "Resources") ≡ Less → slice_cmp nat_cmp k (codes "Parameters") ≡ Less → GoesFirst k parameters_in
  before_parameters k e f = before_given k (codes "Parameters") p resources_in f (before_resources k e)

  before_outputs : (k : List ℕ) → slice_cmp nat_cmp k (codes "Resources") ≡ Less → slice_cmp nat_cmp k (codes "Parameters") ≡ Less → slice_cmp nat_cmp k (codes "Outputs") ≡ Less → GoesFirst k outputs_in
  before_outputs k e f g = before_given k (codes "Outputs") o parameters_in g (before_parameters k e f)

  before_mappings : (k : List ℕ) → slice_cmp nat_cmp k (codes "Resources") ≡ Less → slice_cmp nat_cmp k (codes "Parameters") ≡ Less → slice_cmp nat_cmp k (codes "Outputs") ≡ Less → slice_cmp nat_cmp k (codes "Mappings") ≡ Less
      → GoesFirst k mappings_in
  before_mappings k e f g h = before_given k (codes "Mappings") m outputs_in h (before_outputs k e f g)

  put_resources : put_given (codes "Resources") r no_members ≡ resources_in
  put_resources = given_first (codes "Resources") r no_members (before_none (codes "Resources"))

  put_parameters : put_given (codes "Parameters") p resources_in ≡ parameters_in
  put_parameters = given_first (codes "Parameters") p resources_in (before_resources (codes "Parameters") refl)

  put_outputs : put_given (codes "Outputs") o parameters_in ≡ outputs_in
  put_outputs = given_first (codes "Outputs") o parameters_in (before_parameters (codes "Outputs") refl refl)

  put_mappings : put_given (codes "Mappings") m outputs_in ≡ mappings_in
  put_mappings = given_first (codes "Mappings") m outputs_in (before_outputs (codes "Mappings") refl refl refl)

  put_description : put_given (codes "Description") d mappings_in ≡ described_in
  put_description = given_first (codes "Description") d mappings_in (before_mappings (codes "Description") refl refl refl refl)

  put_conditions : put_given (codes "Conditions") c described_in ≡ conditions_in
  put_conditions =
      given_first (codes "Conditions") c described_in (before_given (codes "Conditions") (codes "Description") d mappings_in refl (before_mappings (codes "Conditions") refl refl refl refl))

  -- put in from the last one to the first
  pub sections_are :
      put_given (codes "Conditions") c (put_given (codes "Description") d (put_given (codes "Mappings") m (put_given (codes "Outputs") o (put_given (codes "Parameters") p (put_given (codes "Resources") r no_members)))))
      ≡ conditions_in
  sections_are =
      ap (put_given (codes "Conditions") c) (ap (put_given (codes "Description") d) (ap (put_given (codes "Mappings") m) (ap (put_given (codes "Outputs") o) (ap (put_given (codes "Parameters") p) put_resources
      ∙ put_parameters) ∙ put_outputs) ∙ put_mappings) ∙ put_description) ∙ put_conditions

pub sections_put : (c d m o p r : Option Data) {m₁ m₂ m₃ m₄ m₅ m₆ : Members} → m₁ ≡ put_given (codes "Resources") r no_members → m₂ ≡ put_given (codes "Parameters") p m₁ → m₃ ≡ put_given (codes "Outputs") o m₂
    → m₄ ≡ put_given (codes "Mappings") m m₃ → m₅ ≡ put_given (codes "Description") d m₄ → m₆ ≡ put_given (codes "Conditions") c m₅ → m₆ ≡ conditions_in c d m o p r
sections_put c d m o p r e₁ e₂ e₃ e₄ e₅ e₆ =
    e₆ ∙ ap (put_given (codes "Conditions") c) (e₅ ∙ ap (put_given (codes "Description") d) (e₄ ∙ ap (put_given (codes "Mappings") m) (e₃ ∙ ap (put_given (codes "Outputs") o) (e₂ ∙ ap (put_given (codes "Parameters") p) e₁))))
    ∙ sections_are c d m o p r
