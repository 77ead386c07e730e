-- An expression is right that is clean and in which no test finds anything: no wrong target, no marked run and no missing context.
use Rattle.std.proofs.Common.{◌≡◌, ℕ, List, [], ◌∷◌, ◌++◌, Bool, true, false, Option, Some, None, sym, ◌∙◌}
use Rattle.std.specs.Prelude.{is_none}
use Rattle.std.specs.List.{list_any}
use Rattle.std.specs.Option.{option_map_or}
use Rattle.std.proofs.lemmas.Bool.{or_parts}
use Rattle.std.proofs.lemmas.List.Folds.{list_any-append}
use Rattle.serde_json.specs.Data.{Data, Members}
use Rattle.cdk_language.specs.Expression as expression
use Rattle.cdk_language.specs.Expression.{Expression, Expressions, Fields}
use Rattle.cdk_language.specs.Runs.{is_marked_run}
use Rattle.cdk_tree.specs.Expected.{Expected, expected, expected_all, expected_fields, expected_pieces, finds_no_text, is_wrong, list_place, target, text_place}
use Rattle.cdk_tree.specs.Lists.{is_list_where, list_lazies}
use Rattle.cdk_tree.specs.Placed.{Placed, construct_at, found_value}
use Rattle.cdk_tree.specs.declared.role.TargetRole.TheVariants as roles
use Rattle.cdk_contexts.specs.Contexts.{any_marked_run, any_misses_context, fields_marked_run, fields_miss_context, has_marked_run, misses_context, pieces_literals}
use Rattle.cdk_expansion.specs.Clean.{AreClean, FieldsAreClean, IsClean, PiecesAreClean, is_clean_value}
use Rattle.cdk_expansion.specs.Right.{AreRight, FieldsAreRight, IsRight, PiecesAreRight}

-- where nothing in a list passes a test, nothing in its parts does
pub none_in_parts : {X : Type 0} (p : X → Bool) (xs ys : List X) → list_any p (xs ++ ys) ≡ false → (list_any p xs ≡ false) × (list_any p ys ≡ false)
none_in_parts p xs ys h = or_parts (list_any p xs) (list_any p ys) (sym (list_any-append p xs ys) ∙ h)

none_later : {X : Type 0} (p : X → Bool) (x : X) (xs : List X) → list_any p (x ∷ xs) ≡ false → list_any p xs ≡ false
none_later p x xs h = (or_parts (p x) (list_any p xs) h).1

-- what is clean if it is found is clean where it is found
found_is_clean : (o : Option Data) → option_map_or is_clean_value o true ≡ true → is_none o ≡ false → option_map_or is_clean_value o false ≡ true
found_is_clean (Some d) c m = c
found_is_clean None c m = cc

module _ (cs : List Placed) (at : ℕ) (in_condition : Bool) where
  abbrev scopes : List Members
  scopes = (construct_at cs at).contexts

  -- what is wrong at the construct
  abbrev pub is_wrong_here : Expected → Bool
  is_wrong_here = is_wrong cs (list_lazies cs) in_condition scopes

  abbrev pub asks_wrongly : List Expected → Bool
  asks_wrongly xs = list_any is_wrong_here xs

  -- of a piece: it is no list, its Context finds a text, and nothing is wrong inside
  piece_parts : (e : Expression) (es : Expressions) → asks_wrongly (expected_pieces (expression.expression e es)) ≡ false
      → (is_list_where cs (list_lazies cs) scopes e ≡ false) × (finds_no_text scopes e ≡ false) × (asks_wrongly (expected e) ≡ false) × (asks_wrongly (expected_pieces es) ≡ false)
  piece_parts e es h =
      let both = none_in_parts is_wrong_here (text_place e ∷ expected e) (expected_pieces es) h in
      let own = or_parts (is_wrong_here (text_place e)) (asks_wrongly (expected e)) both.0 in
      let piece = or_parts (is_list_where cs (list_lazies cs) scopes e) (finds_no_text scopes e) own.0 in
      (piece.0, piece.1, own.1, both.1)

  choice_parts : (c : List ℕ) (x y : Expression) → asks_wrongly (expected (expression.choice c x y)) ≡ false → (asks_wrongly (expected x) ≡ false) × (asks_wrongly (expected y) ≡ false)
  choice_parts c x y h = none_in_parts is_wrong_here (expected x) (expected y) (none_later is_wrong_here (target roles.Condition c) (expected x ++ expected y) h)

  -- of two text places one after another
  pub text_parts : (x y : Expression) → asks_wrongly ((text_place x ∷ expected x) ++ (text_place y ∷ expected y)) ≡ false → (asks_wrongly (expected x) ≡ false) × (asks_wrongly (expected y) ≡ false)
  text_parts x y h =
      let both = none_in_parts is_wrong_here (text_place x ∷ expected x) (text_place y ∷ expected y) h in
      (none_later is_wrong_here (text_place x) (expected x) both.0, none_later is_wrong_here (text_place y) (expected y) both.1)

  keys_parts : (m : List ℕ) (x y : Expression) → asks_wrongly (expected (expression.find_in_map m x y)) ≡ false → (asks_wrongly (expected x) ≡ false) × (asks_wrongly (expected y) ≡ false)
  keys_parts m x y h = text_parts x y (none_later is_wrong_here (target roles.Mapping m) ((text_place x ∷ expected x) ++ (text_place y ∷ expected y)) h)

  mutual
    pub is_right : (e : Expression) → IsClean cs at e → asks_wrongly (expected e) ≡ false → has_marked_run scopes e ≡ false → misses_context scopes e ≡ false → IsRight cs at e
    is_right (expression.text s) c t r m = c
    is_right (expression.whole z) c t r m = c
    is_right (expression.truth b) c t r m = tt
    is_right (expression.list es) c t r m = are_right es c t r m
    is_right (expression.object fs) c t r m = fields_are_right fs c t r m
    is_right (expression.pseudo p) c t r m = tt
    is_right (expression.ref x) c t r m = tt
    is_right (expression.get_att x a) c t r m = tt
    is_right (expression.concat es) c t r m =
        let runs = or_parts (is_marked_run [] (pieces_literals scopes es)) (any_marked_run scopes es) r in
        (pieces_are_right es c t runs.1 m, runs.0)
    is_right (expression.join d e) c t r m = is_right e c (none_later is_wrong_here (list_place e) (expected e) t) r m
    is_right (expression.select i e) c t r m = is_right e c (none_later is_wrong_here (list_place e) (expected e) t) r m
    is_right (expression.split d e) c t r m = is_right e c (none_later is_wrong_here (text_place e) (expected e) t) r m
    is_right (expression.choice b x y) c t r m =
        let ts = choice_parts b x y t in
        let rs = or_parts (has_marked_run scopes x) (has_marked_run scopes y) r in
        let ms = or_parts (misses_context scopes x) (misses_context scopes y) m in
        (is_right x c.0 ts.0 rs.0 ms.0, is_right y c.1 ts.1 rs.1 ms.1)
    is_right (expression.find_in_map k x y) c t r m =
        let ts = keys_parts k x y t in
        let rs = or_parts (has_marked_run scopes x) (has_marked_run scopes y) r in
        let ms = or_parts (misses_context scopes x) (misses_context scopes y) m in
        (is_right x c.0 ts.0 rs.0 ms.0, is_right y c.1 ts.1 rs.1 ms.1)
    is_right (expression.import_value x) c t r m = tt
    is_right (expression.context k d) c t r m = found_is_clean (found_value scopes k d) c m
    is_right (expression.lazy x) c t r m = tt

    are_right : (es : Expressions) → AreClean cs at es → asks_wrongly (expected_all es) ≡ false → any_marked_run scopes es ≡ false → any_misses_context scopes es ≡ false → AreRight cs at es
    are_right expression.no_expressions c t r m = tt
    are_right (expression.expression e es) c t r m =
        let ts = none_in_parts is_wrong_here (expected e) (expected_all es) t in
        let rs = or_parts (has_marked_run scopes e) (any_marked_run scopes es) r in
        let ms = or_parts (misses_context scopes e) (any_misses_context scopes es) m in
        (is_right e c.0 ts.0 rs.0 ms.0, are_right es c.1 ts.1 rs.1 ms.1)

    fields_are_right : (fs : Fields) → FieldsAreClean cs at fs → asks_wrongly (expected_fields fs) ≡ false → fields_marked_run scopes fs ≡ false → fields_miss_context scopes fs ≡ false → FieldsAreRight cs at fs
    fields_are_right expression.no_fields c t r m = tt
    fields_are_right (expression.field k e fs) c t r m =
        let ts = none_in_parts is_wrong_here (expected e) (expected_fields fs) t in
        let rs = or_parts (has_marked_run scopes e) (fields_marked_run scopes fs) r in
        let ms = or_parts (misses_context scopes e) (fields_miss_context scopes fs) m in
        (is_right e c.0 ts.0 rs.0 ms.0, fields_are_right fs c.1 ts.1 rs.1 ms.1)

    pieces_are_right : (es : Expressions) → PiecesAreClean cs at es → asks_wrongly (expected_pieces es) ≡ false → any_marked_run scopes es ≡ false → any_misses_context scopes es ≡ false → PiecesAreRight cs at es
    pieces_are_right expression.no_expressions c t r m = tt
    pieces_are_right (expression.expression e es) c t r m =
        let ts = piece_parts e es t in
        let rs = or_parts (has_marked_run scopes e) (any_marked_run scopes es) r in
        let ms = or_parts (misses_context scopes e) (any_misses_context scopes es) m in
        (c.0, ts.0, ts.1, is_right e c.1 ts.2 rs.0 ms.0, pieces_are_right es c.2 ts.3 rs.1 ms.1)
