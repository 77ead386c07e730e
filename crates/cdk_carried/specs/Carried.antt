-- The part of the language of applications that is carried so far (own): one stack in any groups.
use Rattle.std.specs.Prelude.{ℕ, ◌+◌, ◌&&◌, List, [], ◌∷◌, Bool, true, false, is_none, nat_le}
use Rattle.cdk_language.specs.Construct as construct
use Rattle.cdk_language.specs.Construct.{Application, Body, Construct, Constructs}

abbrev pub has_no_items : {A : Type 0} → List A → Bool
has_no_items [] = true
has_no_items (x ∷ xs) = false

-- no aspects and no dependsOn
abbrev pub has_carried_head : Construct → Bool
has_carried_head (construct.construct h b cs) = has_no_items h.aspects && has_no_items h.depends

-- everything but a stage, and an output with an export name
abbrev pub is_carried_body : Body → Bool
is_carried_body construct.stage = false
is_carried_body (construct.output o) = is_none o.export
is_carried_body b = true

abbrev mutual
  -- the heads and bodies of a construct and of all below it are carried
  pub has_carried_parts : Construct → Bool
  has_carried_parts (construct.construct h b cs) = has_carried_head (construct.construct h b cs) && is_carried_body b && have_carried_parts cs

  pub have_carried_parts : Constructs → Bool
  have_carried_parts construct.no_constructs = true
  have_carried_parts (construct.child c cs) = has_carried_parts c && have_carried_parts cs

-- each stack counts 1
abbrev pub body_stacks : Body → ℕ
body_stacks (construct.stack d) = 1
body_stacks b = 0

abbrev mutual
  -- how many stacks there are
  pub stacks : Construct → ℕ
  stacks (construct.construct h b cs) = body_stacks b + stacks_among cs

  pub stacks_among : Constructs → ℕ
  stacks_among construct.no_constructs = 0
  stacks_among (construct.child c cs) = stacks c + stacks_among cs

abbrev pub is_carried : Application → Bool
is_carried a = has_carried_parts a && nat_le (stacks a) 1
