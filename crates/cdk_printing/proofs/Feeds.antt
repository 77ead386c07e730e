-- The line feeds of a report's text are those at the ends of its lines.
use Rattle.std.proofs.Common.{◌≡◌, ℕ, zero, suc, ◌+◌, ◌/◌, ◌%◌, ◌<◌, List, [], ◌∷◌, ◌++◌, length, Bool, true, false, ◌&&◌, nat_lt, cond, refl, sym, ap, ◌∙◌, arith, inl, inr, true≢false}
use Rattle.std.specs.Prelude.{◌==◌, pos, negsuc, decimal, codes, sum_by, if◌then◌else◌}
use Rattle.std.specs.Fmt.{digits, digits_onto, digit_glyph}
use Rattle.std.specs.List.{list_all}
use Rattle.std.specs.Char.{is_ascii_alphabetic, is_ascii_alphanumeric}
use Rattle.std.proofs.lemmas.Bool.{and_parts, cases_eq, cases_lt, ne_eqb}
use Rattle.std.proofs.lemmas.List.Sums.{sum_by-append, sum_by-cons}
use Rattle.json.specs.Print.{escape_byte, escape, quoted}
use Rattle.json.proofs.Printed.Strings.{escape_byte_plain}
use Rattle.serde_json.specs.Data.{Num, unsigned, negative, float, Data, null, boolean, number, string, array, object, Items, no_items, item, Members, no_members, member}
use Rattle.serde_json.specs.Written.{number_text, comma_if, compact_text, items_text, members_text}
use Rattle.cdk_names.specs.Forms.{is_logical, is_stack_name, is_stack_name_byte}
use Rattle.cdk_eval.specs.declared.fault.EvalFault.{EvalFault}
use Rattle.cdk_eval.specs.declared.fault.EvalFault.TheVariants.{NotText, NoItem, NoMapping, NoParameter, NoExport, NotMade, UnknownName, BadIntrinsic, ConditionLoop}
use Rattle.cdk_eval.specs.Outcomes.{Outcome, Value, Gone, Fault, Truth, Holds, Untold, OutputOutcome, OutputText, OutputNotMade, OutputFault}
use Rattle.cdk_eval.specs.Stack.{ResourceOutcome, StackOutcome, properties_of}
use Rattle.cdk_printing.specs.Lines.{name_text, fault_end, outcome_end, presence_end, output_end, property_line, property_lines, resource_line, resource_text, resource_texts, output_line, output_lines, stack_line, stack_text, report_text}
use Rattle.cdk_printing.specs.Count.{feeds, resource_lines, stack_lines, line_count}

feeds_append : (s t : List ℕ) → feeds (s ++ t) ≡ feeds s + feeds t
feeds_append s t = sum_by-append (λ c. cond (c == 10) 1 0) s t

-- of two texts that have none
none_of : (s t : List ℕ) → feeds s ≡ 0 → feeds t ≡ 0 → feeds (s ++ t) ≡ 0
none_of s t p q = let e = feeds_append s t in omega (arith, e)

-- a byte that is none
plain : (x : ℕ) (s : List ℕ) → (x ≡ 10 → ⊥) → feeds s ≡ 0 → feeds (x ∷ s) ≡ 0
plain x s other h =
    let one : ℕ = 1 in
    let e : cond (x == 10) one 0 ≡ 0 = rw (ne_eqb x 10 other) refl in
    let first = sum_by-cons (λ c. cond (c == 10) one 0) x s in
    omega (arith, first, e, h)

-- ---- numbers

glyph : (d : ℕ) (b : Bool) → (cond b (48 + d) (87 + d)) ≡ 10 → ⊥
glyph d true e = omega arith
glyph d false e = omega arith

either_digits : (b : Bool) (s t : List ℕ) → feeds s ≡ 0 → feeds t ≡ 0 → feeds (if b then s else t) ≡ 0
either_digits true s t p q = p
either_digits false s t p q = q

none_onto : (k n : ℕ) (acc : List ℕ) → feeds acc ≡ 0 → feeds (digits_onto k 10 false n acc) ≡ 0
none_onto zero n acc h = h
none_onto (suc k) n acc h =
    let more : feeds (digit_glyph false (n % 10) ∷ acc) ≡ 0 = plain (digit_glyph false (n % 10)) acc (glyph (n % 10) (nat_lt (n % 10) 10)) h in
    either_digits (n / 10 == 0) (digit_glyph false (n % 10) ∷ acc) (digits_onto k 10 false (n / 10) (digit_glyph false (n % 10) ∷ acc)) more (none_onto k (n / 10) (digit_glyph false (n % 10) ∷ acc) more)

none_in_decimal : (n : ℕ) → feeds (decimal n) ≡ 0
unfolding digits
none_in_decimal n = none_onto 64 n [] refl

none_in_number : (x : Num) → feeds (number_text x) ≡ 0
none_in_number (unsigned n) = none_in_decimal n
none_in_number (negative (pos n)) = none_in_decimal n
none_in_number (negative (negsuc n)) = plain 45 (decimal (suc n)) (λ e. omega arith) (none_in_decimal (suc n))
none_in_number (float x) = refl

-- ---- texts

-- the escapes of the bytes below n have none
abbrev none_below : ℕ → Bool
none_below zero = true
none_below (suc n) = (feeds (escape_byte n) == 0) && none_below n

none_at : (n : ℕ) → none_below n ≡ true → (x : ℕ) → x < n → (feeds (escape_byte x) == 0) ≡ true
none_at zero e x h = absurd (omega arith)
none_at (suc n) e x h =
    let p = and_parts (feeds (escape_byte n) == 0) (none_below n) e in
    elim (cases_eq x n) [ inl same ↦ rw same p.0 | inr other ↦ none_at n p.1 x (omega arith) ]

none_low : none_below 128 ≡ true
unfolding escape_byte
none_low = refl

none_in_byte : (x : ℕ) → feeds (escape_byte x) ≡ 0
none_in_byte x = elim (cases_lt x 128) [
  | inl low ↦ grind (arith, none_at 128 none_low x low)
  | inr high ↦ rw (escape_byte_plain x (λ e. omega arith) (λ e. omega arith) (omega arith)) (plain x [] (λ e. omega arith) refl)
]

none_in_escape : (s : List ℕ) → feeds (escape s) ≡ 0
none_in_escape [] = refl
none_in_escape (x ∷ s) = none_of (escape_byte x) (escape s) (none_in_byte x) (none_in_escape s)

pub none_in_quoted : (s : List ℕ) → feeds (quoted s) ≡ 0
none_in_quoted s = plain 34 (escape s ++ 34 ∷ []) (λ e. omega arith) (none_of (escape s) (34 ∷ []) (none_in_escape s) refl)

none_in_comma : (b : Bool) → feeds (comma_if b) ≡ 0
none_in_comma true = refl
none_in_comma false = refl

mutual
  pub none_in_value : (d : Data) → feeds (compact_text d) ≡ 0
  none_in_value null = refl
  none_in_value (boolean true) = refl
  none_in_value (boolean false) = refl
  none_in_value (number x) = none_in_number x
  none_in_value (string s) = none_in_quoted s
  none_in_value (array ds) = plain 91 (items_text false ds) (λ e. omega arith) (none_in_items false ds)
  none_in_value (object ms) = plain 123 (members_text false ms) (λ e. omega arith) (none_in_members false ms)

  none_in_items : (later : Bool) (ds : Items) → feeds (items_text later ds) ≡ 0
  none_in_items later no_items = refl
  none_in_items later (item d ds) =
      none_of (comma_if later) (compact_text d ++ items_text true ds) (none_in_comma later) (none_of (compact_text d) (items_text true ds) (none_in_value d) (none_in_items true ds))

  none_in_members : (later : Bool) (ms : Members) → feeds (members_text later ms) ≡ 0
  none_in_members later no_members = refl
  none_in_members later (member k d ms) =
      none_of (comma_if later) (quoted k ++ 58 ∷ (compact_text d ++ members_text true ms)) (none_in_comma later)
      (none_of (quoted k) (58 ∷ (compact_text d ++ members_text true ms)) (none_in_quoted k)
      (plain 58 (compact_text d ++ members_text true ms) (λ e. omega arith) (none_of (compact_text d) (members_text true ms) (none_in_value d) (none_in_members true ms))))

-- ---- names

-- bytes that all pass a test which no line feed passes
none_passing : (p : ℕ → Bool) → p 10 ≡ false → (s : List ℕ) → list_all p s ≡ true → feeds s ≡ 0
none_passing p low [] e = refl
none_passing p low (x ∷ s) e =
    let q = and_parts (p x) (list_all p s) e in
    plain x s (λ same. true≢false (sym q.0 ∙ ap p same ∙ low)) (none_passing p low s q.1)

none_after : (p q : ℕ → Bool) → p 10 ≡ false → q 10 ≡ false → (c : ℕ) (s : List ℕ) (b : Bool) → (p c && (list_all q s && b)) ≡ true → feeds (c ∷ s) ≡ 0
none_after p q low lower c s b e =
    let first = and_parts (p c) (list_all q s && b) e in
    let rest = and_parts (list_all q s) b first.1 in
    plain c s (λ same. true≢false (sym first.0 ∙ ap p same ∙ low)) (none_passing q lower s rest.0)

none_in_logical : (s : List ℕ) → is_logical s ≡ true → feeds s ≡ 0
none_in_logical [] e = refl
none_in_logical (c ∷ s) e = none_after is_ascii_alphabetic is_ascii_alphanumeric refl refl c s _ e

none_in_stack_name : (s : List ℕ) → is_stack_name s ≡ true → feeds s ≡ 0
none_in_stack_name [] e = refl
none_in_stack_name (c ∷ s) e = none_after is_ascii_alphabetic is_stack_name_byte refl refl c s _ e

none_in_name : (b : Bool) (s : List ℕ) → (b ≡ true → feeds s ≡ 0) → feeds (name_text b s) ≡ 0
none_in_name true s h = h refl
none_in_name false s h = none_in_quoted s

-- ---- ends of lines

none_in_fault : (f : EvalFault) → feeds (fault_end f) ≡ 0
none_in_fault NotText = refl
none_in_fault NoItem = refl
none_in_fault NoMapping = refl
none_in_fault NoParameter = refl
none_in_fault NoExport = refl
none_in_fault NotMade = refl
none_in_fault UnknownName = refl
none_in_fault BadIntrinsic = refl
none_in_fault ConditionLoop = refl

none_in_outcome : (o : Outcome) → feeds (outcome_end o) ≡ 0
none_in_outcome (Value d) = none_of (codes " = ") (compact_text d) refl (none_in_value d)
none_in_outcome Gone = refl
none_in_outcome (Fault f) = none_in_fault f

none_in_presence : (t : Truth) → feeds (presence_end t) ≡ 0
none_in_presence (Holds true) = refl
none_in_presence (Holds false) = refl
none_in_presence (Untold f) = none_in_fault f

none_in_output : (o : OutputOutcome) → feeds (output_end o) ≡ 0
none_in_output (OutputText t) = none_of (codes " = ") (quoted t) refl (none_in_quoted t)
none_in_output OutputNotMade = refl
none_in_output (OutputFault f) = none_in_fault f

-- ---- lines

-- a line of three parts, of which none has a line feed, has that at its end
one_line : (word name end : List ℕ) → feeds word ≡ 0 → feeds name ≡ 0 → feeds end ≡ 0 → feeds (word ++ (name ++ (end ++ codes "\n"))) ≡ 1
one_line word name end p q r =
    let first = feeds_append word (name ++ (end ++ codes "\n")) in
    let second = feeds_append name (end ++ codes "\n") in
    let third : feeds (end ++ codes "\n") ≡ feeds end + 1 = feeds_append end (codes "\n") in
    omega (arith, first, second, third)

of_properties : (ps : List (List ℕ × Outcome)) → feeds (property_lines ps) ≡ length ps
of_properties [] = refl
of_properties (p ∷ ps) =
    let here = one_line (codes "  ") (quoted p.0) (outcome_end p.1) refl (none_in_quoted p.0) (none_in_outcome p.1) in
    let e = feeds_append (property_line p) (property_lines ps) in
    let rest = of_properties ps in
    omega (arith, here, e, rest)

of_resource : (r : ResourceOutcome) → feeds (resource_text r) ≡ resource_lines r
of_resource r =
    let here = one_line (codes "resource ") (name_text (is_logical r.logical) r.logical) (presence_end r.presence) refl (none_in_name (is_logical r.logical) r.logical (none_in_logical r.logical)) (none_in_presence r.presence) in
    let e = feeds_append (resource_line r) (property_lines (properties_of r.presence r.properties)) in
    let rest = of_properties (properties_of r.presence r.properties) in
    omega (arith, here, e, rest)

of_resources : (rs : List ResourceOutcome) → feeds (resource_texts rs) ≡ sum_by resource_lines rs
of_resources [] = refl
of_resources (r ∷ rs) =
    let here = of_resource r in
    let e = feeds_append (resource_text r) (resource_texts rs) in
    let rest = of_resources rs in
    let more = sum_by-cons resource_lines r rs in
    omega (arith, here, e, rest, more)

of_outputs : (os : List (List ℕ × OutputOutcome)) → feeds (output_lines os) ≡ length os
of_outputs [] = refl
of_outputs (o ∷ os) =
    let here = one_line (codes "output ") (name_text (is_logical o.0) o.0) (output_end o.1) refl (none_in_name (is_logical o.0) o.0 (none_in_logical o.0)) (none_in_output o.1) in
    let e = feeds_append (output_line o) (output_lines os) in
    let rest = of_outputs os in
    omega (arith, here, e, rest)

of_stack : (s : StackOutcome) → feeds (stack_text s) ≡ stack_lines s
of_stack s =
    let here : feeds (stack_line s.name) ≡ 1 = one_line (codes "stack ") (name_text (is_stack_name s.name) s.name) [] refl (none_in_name (is_stack_name s.name) s.name (none_in_stack_name s.name)) refl in
    let first = feeds_append (stack_line s.name) (resource_texts s.resources ++ output_lines s.outputs) in
    let second = feeds_append (resource_texts s.resources) (output_lines s.outputs) in
    let resources = of_resources s.resources in
    let outputs = of_outputs s.outputs in
    omega (arith, here, first, second, resources, outputs)

pub feeds-report_text : (ss : List StackOutcome) → feeds (report_text ss) ≡ line_count ss
feeds-report_text [] = refl
feeds-report_text (s ∷ ss) =
    let here = of_stack s in
    let e = feeds_append (stack_text s) (report_text ss) in
    let rest = feeds-report_text ss in
    let more = sum_by-cons stack_lines s ss in
    omega (arith, here, e, rest, more)
