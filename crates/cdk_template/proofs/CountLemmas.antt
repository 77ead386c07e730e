-- Counting a stack's constructs by the room that is left.
use Rattle.std.proofs.Common.{◌≡◌, ℕ, zero, suc, List, ◌∷◌, ◌++◌, map, length, Bool, true, false, cond, Option, Some, None, option_map, refl, sym, ap, ◌∙◌, arith}
use Rattle.std.specs.Prelude.{◌||◌, ◌&&◌, nat_lt}
use Rattle.std.proofs.lemmas.Bool.Decides.{nat_tests}
use Rattle.cdk_base.specs.declared.code.Code.TheVariants.{TooMany}
use Rattle.cdk_language.specs.Construct as language
use Rattle.cdk_language.specs.Construct.{Body}
use Rattle.cdk_tree.specs.Expected.{is_resource, is_parameter, is_mapping}
use Rattle.cdk_tree.specs.PlaceFindings.{first, when}
use Rattle.cdk_tree.specs.Placed.{Placed, construct_at}
use Rattle.cdk_tree.specs.declared.role.Found.{Found}
use Rattle.cdk_template.specs.Counts.{count_at}
use Rattle.cdk_template.specs.Room.{is_exceeded, is_over, one_less, room_beside, room_in}
use Rattle.cdk_elements.specs.Kinds.{among, is_in, is_output}
use Rattle.cdk_template.specs.declared.room.Room.{Room}

-- no room left is too little
abbrev pub is_over_after : Option Room → ℕ → ℕ → ℕ → ℕ → Bool
is_over_after None a p m o = true
is_over_after (Some room) a p m o = is_over room a p m o

abbrev pub is_exceeded_after : Option Room → List Placed → ℕ → List ℕ → Bool
is_exceeded_after o cs stack ns =
    is_over_after o (length (among cs stack is_resource ns)) (length (among cs stack is_parameter ns)) (length (among cs stack is_mapping ns)) (length (among cs stack is_output ns))

-- ---- tests

lt_none : (a : ℕ) → nat_lt 0 (suc a) ≡ true
lt_none a = grind (arith, nat_tests)

lt_both : (n a : ℕ) → nat_lt (suc n) (suc a) ≡ nat_lt n a
lt_both n a = grind (arith, nat_tests)

lt_zero : (n : ℕ) → nat_lt n 0 ≡ false
lt_zero n = grind (arith, nat_tests)

or_true : (b : Bool) → (b || true) ≡ true
or_true true = refl
or_true false = refl

pub and_false : (b : Bool) → (b && false) ≡ false
and_false true = refl
and_false false = refl

pub none_over : (room : Room) → is_over room 0 0 0 0 ≡ false
none_over room =
    ap (λ b. b || (nat_lt room.parameters 0 || (nat_lt room.mappings 0 || nat_lt room.outputs 0))) (lt_zero room.resources)
    ∙ ap (λ b. b || (nat_lt room.mappings 0 || nat_lt room.outputs 0)) (lt_zero room.parameters)
    ∙ ap (λ b. b || nat_lt room.outputs 0) (lt_zero room.mappings)
    ∙ lt_zero room.outputs

-- ---- one construct of a kind more

more_resources : (left : ℕ) (room : Room) (a p m o : ℕ)
    → (nat_lt left (suc a) || (nat_lt room.parameters p || (nat_lt room.mappings m || nat_lt room.outputs o))) ≡ is_over_after (option_map (λ n. record room { resources = n }) (one_less left)) a p m o
more_resources zero room a p m o = ap (λ b. b || (nat_lt room.parameters p || (nat_lt room.mappings m || nat_lt room.outputs o))) (lt_none a)
more_resources (suc n) room a p m o = ap (λ b. b || (nat_lt room.parameters p || (nat_lt room.mappings m || nat_lt room.outputs o))) (lt_both n a)

more_parameters : (left : ℕ) (room : Room) (a p m o : ℕ)
    → (nat_lt room.resources a || (nat_lt left (suc p) || (nat_lt room.mappings m || nat_lt room.outputs o))) ≡ is_over_after (option_map (λ n. record room { parameters = n }) (one_less left)) a p m o
more_parameters zero room a p m o = ap (λ b. nat_lt room.resources a || (b || (nat_lt room.mappings m || nat_lt room.outputs o))) (lt_none p) ∙ or_true (nat_lt room.resources a)
more_parameters (suc n) room a p m o = ap (λ b. nat_lt room.resources a || (b || (nat_lt room.mappings m || nat_lt room.outputs o))) (lt_both n p)

more_mappings : (left : ℕ) (room : Room) (a p m o : ℕ)
    → (nat_lt room.resources a || (nat_lt room.parameters p || (nat_lt left (suc m) || nat_lt room.outputs o))) ≡ is_over_after (option_map (λ n. record room { mappings = n }) (one_less left)) a p m o
more_mappings zero room a p m o =
    ap (λ b. nat_lt room.resources a || (nat_lt room.parameters p || (b || nat_lt room.outputs o))) (lt_none m)
    ∙ ap (λ b. nat_lt room.resources a || b) (or_true (nat_lt room.parameters p)) ∙ or_true (nat_lt room.resources a)
more_mappings (suc n) room a p m o = ap (λ b. nat_lt room.resources a || (nat_lt room.parameters p || (b || nat_lt room.outputs o))) (lt_both n m)

more_outputs : (left : ℕ) (room : Room) (a p m o : ℕ)
    → (nat_lt room.resources a || (nat_lt room.parameters p || (nat_lt room.mappings m || nat_lt left (suc o)))) ≡ is_over_after (option_map (λ n. record room { outputs = n }) (one_less left)) a p m o
more_outputs zero room a p m o =
    ap (λ b. nat_lt room.resources a || (nat_lt room.parameters p || (nat_lt room.mappings m || b))) (lt_none o)
    ∙ ap (λ b. nat_lt room.resources a || (nat_lt room.parameters p || b)) (or_true (nat_lt room.mappings m))
    ∙ ap (λ b. nat_lt room.resources a || b) (or_true (nat_lt room.parameters p)) ∙ or_true (nat_lt room.resources a)
more_outputs (suc n) room a p m o = ap (λ b. nat_lt room.resources a || (nat_lt room.parameters p || (nat_lt room.mappings m || b))) (lt_both n o)

one_more : (room : Room) (b : Body) (a p m o : ℕ)
    → is_over room (cond (is_resource b) (suc a) a) (cond (is_parameter b) (suc p) p) (cond (is_mapping b) (suc m) m) (cond (is_output b) (suc o) o) ≡ is_over_after (room_beside room b) a p m o
one_more room (language.resource x) a p m o = more_resources room.resources room a p m o
one_more room (language.parameter x) a p m o = more_parameters room.parameters room a p m o
one_more room (language.mapping x) a p m o = more_mappings room.mappings room a p m o
one_more room (language.output x) a p m o = more_outputs room.outputs room a p m o
one_more room language.root a p m o = refl
one_more room language.stage a p m o = refl
one_more room (language.stack d) a p m o = refl
one_more room language.group a p m o = refl
one_more room (language.condition_body c) a p m o = refl
one_more room (language.lazy e) a p m o = refl

-- ---- the construct of a number more

same_over : (room : Room) (a b p q m n o r : ℕ) → a ≡ b → p ≡ q → m ≡ n → o ≡ r → is_over room a p m o ≡ is_over room b q n r
same_over room a b p q m n o r e f g h = ap (λ x. is_over room x p m o) e ∙ ap (λ x. is_over room b x m o) f ∙ ap (λ x. is_over room b q x o) g ∙ ap (is_over room b q n) h

length-cond : (t : Bool) (n : ℕ) (ns : List ℕ) → length (cond t (n ∷ ns) ns) ≡ cond t (suc (length ns)) (length ns)
length-cond true n ns = refl
length-cond false n ns = refl

counted : (cs : List Placed) (stack : ℕ) (kind : Body → Bool) (n : ℕ) (ns : List ℕ) → is_in stack (construct_at cs n).stack ≡ true
    → length (among cs stack kind (n ∷ ns)) ≡ cond (kind (construct_at cs n).body) (suc (length (among cs stack kind ns))) (length (among cs stack kind ns))
counted cs stack kind n ns h =
    ap (λ t. length (cond (t && kind (construct_at cs n).body) (n ∷ among cs stack kind ns) (among cs stack kind ns))) h
    ∙ length-cond (kind (construct_at cs n).body) n (among cs stack kind ns)

passed : (cs : List Placed) (stack : ℕ) (kind : Body → Bool) (n : ℕ) (ns : List ℕ) → is_in stack (construct_at cs n).stack ≡ false
    → length (among cs stack kind (n ∷ ns)) ≡ length (among cs stack kind ns)
passed cs stack kind n ns h = ap (λ t. length (cond (t && kind (construct_at cs n).body) (n ∷ among cs stack kind ns) (among cs stack kind ns))) h

pub exceeded_more : (cs : List Placed) (stack : ℕ) (room : Room) (n : ℕ) (ns : List ℕ)
    → is_exceeded room cs stack (n ∷ ns) ≡ is_exceeded_after (room_in cs stack room n) cs stack ns
exceeded_more cs stack room n ns = by (is_in stack (construct_at cs n).stack) refl
  where
    by : (t : Bool) → is_in stack (construct_at cs n).stack ≡ t → is_exceeded room cs stack (n ∷ ns) ≡ is_exceeded_after (room_in cs stack room n) cs stack ns
    by true e =
        same_over room _ _ _ _ _ _ _ _ (counted cs stack is_resource n ns e) (counted cs stack is_parameter n ns e) (counted cs stack is_mapping n ns e) (counted cs stack is_output n ns e)
        ∙ one_more room (construct_at cs n).body _ _ _ _
        ∙ ap (λ t. is_exceeded_after (cond t (room_beside room (construct_at cs n).body) (Some room)) cs stack ns) (sym e)
    by false e =
        same_over room _ _ _ _ _ _ _ _ (passed cs stack is_resource n ns e) (passed cs stack is_parameter n ns e) (passed cs stack is_mapping n ns e) (passed cs stack is_output n ns e)
        ∙ ap (λ t. is_exceeded_after (cond t (room_beside room (construct_at cs n).body) (Some room)) cs stack ns) (sym e)

-- ---- the findings

pub first_too_many : (n : ℕ) (b : Bool) (rest : List Found) → b ≡ true → first (map (count_at n) (when b TooMany) ++ rest) ≡ Some (count_at n TooMany)
first_too_many n b rest e = ap (λ t. first (map (count_at n) (when t TooMany) ++ rest)) e
