-- A construct with an expression has a marked value, and that one's rendering is its own.
use Rattle.std.proofs.Common.{◌≡◌, ℕ, zero, suc, ◌+◌, List, [], ◌∷◌, true, Option, Some, None, refl, sym, ap, true≢false}
use Rattle.std.specs.Prelude.{is_some, option_and_then, option_map, slice_get}
use Rattle.serde_json.specs.Data.{Data}
use Rattle.cdk_expansion.specs.Own.{value_in}
use Rattle.cdk_keeping.specs.Keeping.{IsRendering}
use Rattle.cdk_language.specs.Construct as language
use Rattle.cdk_language.specs.Construct.{Body}
use Rattle.cdk_language.specs.Expression.{Expression}
use Rattle.cdk_leaves.specs.Ready.{Scope}
use Rattle.cdk_template.specs.Own.{spelling_of}
use Rattle.cdk_template.specs.Sources.{SpellsOwn}
use Rattle.cdk_tokens.specs.Whole as whole
use Rattle.cdk_tokens.specs.Whole.{count_in, marked_body, marked_from, marking, value_at}
use Rattle.cdk_tree.specs.Placed.{Placed, construct_at}

body_is_marked : (cs : List Placed) (at n : ℕ) (b : Body) → is_some (value_in b) ≡ true → is_some (whole.value_in (marked_body cs at n b)) ≡ true
body_is_marked cs at n (language.resource r) h = refl
body_is_marked cs at n (language.output o) h = refl
body_is_marked cs at n (language.lazy e) h = refl
body_is_marked cs at n b h = absurd (true≢false (sym h))

-- the constructs from the number `at` on
rest_is_marked : (cs : List Placed) (at n : ℕ) (rest : List Placed) (i : ℕ) → is_some (value_in (construct_at rest i).body) ≡ true
    → is_some (option_and_then whole.value_in (slice_get (marked_from cs at n rest) i)) ≡ true
rest_is_marked cs at n [] zero h = absurd (true≢false (sym h))
rest_is_marked cs at n [] (suc i) h = absurd (true≢false (sym h))
rest_is_marked cs at n (c ∷ rest) zero h = body_is_marked cs at n c.body h
rest_is_marked cs at n (c ∷ rest) (suc i) h = rest_is_marked cs (at + 1) (n + count_in c.body) rest i h

pub value_is_marked : (cs : List Placed) (n : ℕ) → is_some (value_in (construct_at cs n).body) ≡ true → is_some (value_at (marking cs) n) ≡ true
value_is_marked cs n h = rest_is_marked cs 0 0 cs n h

pub rendered_as_own : (cs : List Placed) (s : Scope) (n : ℕ) (d r : Data) → SpellsOwn cs s → is_some (value_in (construct_at cs n).body) ≡ true → value_at (marking cs) n ≡ Some d → IsRendering s d r
    → Some r ≡ option_map ((spelling_of cs).value n) (value_in (construct_at cs n).body)
rendered_as_own cs s n d r own some marked rendering = at (value_in (construct_at cs n).body) refl some
  where
    at : (o : Option Expression) → value_in (construct_at cs n).body ≡ o → is_some o ≡ true → Some r ≡ option_map ((spelling_of cs).value n) o
    at None is h = absurd (true≢false (sym h))
    at (Some e) is h = ap Some (own.values n e d r is marked rendering)
