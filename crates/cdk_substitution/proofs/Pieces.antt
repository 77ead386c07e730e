-- The pieces of a text, one after another.
use Rattle.std.proofs.Common.{◌≡◌, ℕ, ◌<◌, List, [], ◌∷◌, ◌++◌, length, Option, Some, None, option_map, Bor, bytes_eq, cond, Bool, true, false, Result, Ok, Err, refl, ap, sym, ◌∙◌, arith}
use Rattle.std.specs.Option.{unwrap_or}
use Rattle.std.specs.Result.{IfOk, OnOk}
use Rattle.std.proofs.lemmas.Bool.Decides.{same_from_decides, Decides-like}
use Rattle.std.proofs.lemmas.Slice.Eq.{bytes_eq-Decides}
use Rattle.cdk_language.specs.Application.{find_field, filled, ref_of}
use Rattle.cdk_language.specs.Expression as expression
use Rattle.cdk_language.specs.Expression.{Expression, Expressions, Fields, view, expressions_view}
use Rattle.cdk_language.proofs.Pieces.{pieces-literal, pieces-wrong, pieces-step}
use Rattle.cdk_language.specs.Sub.{Piece, literal, name, attribute, literal_before, pieces_of, first_piece_of, first_piece, no_piece, wrong_piece}
use Rattle.cdk_language.specs.declared.expression.Expr.{Expr}
use Rattle.cdk_substitution.specs.Steps.{before, literal_then, variable_in, Have, piece_expression, piece_then}
use Rattle.cdk_substitution.specs.declared.variables.Variables.{Variables}

pub before-push : (es : List Expr) (e : Expr) (rest : Expressions) → before es (expression.expression (view e) rest) ≡ before (es ++ e ∷ []) rest
before-push [] e rest = refl
before-push (x ∷ es) e rest = ap (expression.expression (view x)) (before-push es e rest)

pub before-none : (es : List Expr) → before es expression.no_expressions ≡ expressions_view es
before-none [] = refl
before-none (e ∷ es) = ap (expression.expression (view e)) (before-none es)

-- ---- variables

-- a name is compared with a key, or a key with a name
either_way : (a b : List ℕ) → bytes_eq a b ≡ bytes_eq b a
either_way a b = same_from_decides _ _ (bytes_eq-Decides a b) (Decides-like (bytes_eq b a) sym sym (bytes_eq-Decides b a))

abbrev seen : Option (Bor Expr) → Option Expression
seen o = option_map (λ e. view e.now) o

one_first : (b : Bool) (e : Bor Expr) (o : Option (Bor Expr)) → seen (cond b (Some e) o) ≡ cond b (Some (view e.now)) (seen o)
one_first true e o = refl
one_first false e o = refl

-- a field put over the variables
pub put_over : (old new : Option (Bor Expr)) (k : List ℕ) (e : Bor Expr) (n : List ℕ) (fs : Fields)
    → new ≡ cond (bytes_eq k n) (Some e) old → seen old ≡ find_field n fs → seen new ≡ find_field n (expression.field k (view e.now) fs)
put_over old new k e n fs is had =
    ap seen is ∙ one_first (bytes_eq k n) e old ∙ ap (cond (bytes_eq k n) (Some (view e.now))) had
    ∙ ap (λ b. cond b (Some (view e.now)) (find_field n fs)) (either_way k n)

-- ---- pieces

filled-piece : (vs : Variables) (fs : Fields) → Have vs fs → (p : Piece) (ps : List Piece) → filled fs (p ∷ ps) ≡ expression.expression (piece_expression vs p) (filled fs ps)
filled-piece vs fs have (literal s) ps = refl
filled-piece vs fs have (name x) ps = ap (λ o. expression.expression (unwrap_or o (ref_of x)) (filled fs ps)) (sym (have x))
filled-piece vs fs have (attribute x a) ps = refl

filled-literal : (fs : Fields) (s : List ℕ) (ps : List Piece) → filled fs (literal_before s ps) ≡ literal_then s (filled fs ps)
filled-literal fs [] ps = refl
filled-literal fs (x ∷ xs) ps = refl

-- all pieces as expressions
abbrev pub whole_of : Fields → Option (List Piece) → Option Expressions
whole_of fs ps = option_map (filled fs) ps

-- the pieces of the text are those found, and then those of the rest
abbrev pub Found : Fields → Option Expressions → List Expr → List ℕ → Type 0
Found fs all found rest = all ≡ option_map (before found) (whole_of fs (pieces_of rest))

pub none_found : (fs : Fields) (o : Option Expressions) → o ≡ option_map (before []) o
none_found fs None = refl
none_found fs (Some es) = refl

-- one piece more
more : (vs : Variables) (fs : Fields) → Have vs fs → (ps : Option (List Piece)) (lit : List ℕ) (p : Piece) (found pushed : List Expr)
    → ((r : Expressions) → before pushed r ≡ before found (piece_then vs lit p r))
    → option_map (before found) (whole_of fs (option_map (λ qs. literal_before lit (p ∷ qs)) ps)) ≡ option_map (before pushed) (whole_of fs ps)
more vs fs have None lit p found pushed push = refl
more vs fs have (Some ps) lit p found pushed push =
    ap (λ r. Some (before found r)) (filled-literal fs lit (p ∷ ps))
    ∙ ap (λ r. Some (before found (literal_then lit r))) (filled-piece vs fs have p ps)
    ∙ ap Some (sym (push (filled fs ps)))

pub piece_found : (vs : Variables) (fs : Fields) (all : Option Expressions) (found pushed : List Expr) (rest lit : List ℕ) (p : Piece) (after : List ℕ)
    → Have vs fs → Found fs all found rest → first_piece_of rest ≡ first_piece lit p after
    → ((r : Expressions) → before pushed r ≡ before found (piece_then vs lit p r)) → Found fs all pushed after
piece_found vs fs all found pushed rest lit p after have so_far cuts push =
    so_far ∙ ap (λ o. option_map (before found) (whole_of fs o)) (pieces-step rest lit p after cuts) ∙ more vs fs have (pieces_of after) lit p found pushed push

-- an expression behind a literal is a piece behind it
pub pushed_piece : (vs : Variables) (found pushed : List Expr) (lit : List ℕ) (p : Piece) (e : Expr)
    → ((r : Expressions) → before pushed r ≡ before found (literal_then lit r)) → view e ≡ piece_expression vs p → (rest : Expressions) → before (pushed ++ e ∷ []) rest ≡ before found (piece_then vs lit p rest)
pushed_piece vs found pushed lit p e push is rest =
    sym (before-push pushed e rest) ∙ ap (λ v. before pushed (expression.expression v rest)) is ∙ push (expression.expression (piece_expression vs p) rest)

pub wrong_found : (fs : Fields) (all : Option Expressions) (found : List Expr) (rest : List ℕ) → Found fs all found rest → first_piece_of rest ≡ wrong_piece → all ≡ None
wrong_found fs all found rest so_far wrong = so_far ∙ ap (λ o. option_map (before found) (whole_of fs o)) (pieces-wrong rest wrong)

-- the last literal
pub all_found : (fs : Fields) (all : Option Expressions) (found pushed : List Expr) (rest : List ℕ)
    → Found fs all found rest → first_piece_of rest ≡ no_piece → ((r : Expressions) → before pushed r ≡ before found (literal_then rest r)) → all ≡ Some (expressions_view pushed)
all_found fs all found pushed rest so_far none push =
    so_far ∙ ap (λ o. option_map (before found) (whole_of fs o)) (pieces-literal rest none)
    ∙ ap (λ r. Some (before found r)) (filled-literal fs rest []) ∙ ap Some (sym (push expression.no_expressions)) ∙ ap Some (before-none pushed)

-- the Concat of the pieces
pub concat_of : (fs : Fields) (ps : Option (List Piece)) (es : Expressions) → whole_of fs ps ≡ Some es → option_map (λ qs. expression.concat (filled fs qs)) ps ≡ Some (expression.concat es)
concat_of fs None es e = cc
concat_of fs (Some ps) es e = let same : filled fs ps ≡ es = cc in ap (λ r. Some (expression.concat r)) same

pub no_concat : (fs : Fields) (ps : Option (List Piece)) → whole_of fs ps ≡ None → option_map (λ qs. expression.concat (filled fs qs)) ps ≡ None
no_concat fs None e = refl
no_concat fs (Some ps) e = cc

-- ---- a literal

pub pushed_nothing : (found : List Expr) (s : List ℕ) → length s ≡ 0 → (rest : Expressions) → before found rest ≡ before found (literal_then s rest)
pushed_nothing found [] h rest = refl
pushed_nothing found (x ∷ xs) h rest = absurd (omega arith)

pub pushed_literal : (found : List Expr) (e : Expr) (s : List ℕ) → 0 < length s → view e ≡ expression.text s → (rest : Expressions) → before (found ++ e ∷ []) rest ≡ before found (literal_then s rest)
pushed_literal found e [] h is rest = absurd (omega arith)
pushed_literal found e (x ∷ xs) h is rest = sym (before-push found e rest) ∙ ap (λ v. before found (expression.expression v rest)) is

-- ---- what a call's answer is, told otherwise

pub told : {E : Type 0} (r : Result Expr E) (v w : Expression) → IfOk r (λ e. view e ≡ v) → v ≡ w → IfOk r (λ e. view e ≡ w)
told (Ok e) v w h is = h ∙ is
told (Err x) v w h is = tt

pub on_ok : {X E P Q : Type 0} (r : Result X E) → (P → Q) → OnOk r P → OnOk r Q
on_ok (Ok x) f h = f h
on_ok (Err x) f h = tt
