-- A longer store leaves what its parts say, and a log's last change comes last.
use Rattle.std.proofs.Common.{◌≡◌, ◌≤◌, ◌<◌, ℕ, zero, suc, get_or, cond, nat_eq, Option, Some, None, IfSome, ◌+◌, ◌-◌, Bool, true, false, ◌||◌, ◌&&◌, List, [], ◌∷◌, ◌++◌, length, take, drop, refl, ap, sym, ◌∙◌, arith, append_assoc, subst, length-append, length-drop, if◌then◌else◌}
use Rattle.std.proofs.lemmas.List.{take-append-le, drop-append-le, take_more}
use Rattle.std.proofs.lemmas.List.Folds.{list_all-append}
use Rattle.std.proofs.lemmas.Bool.Decides.{nat_tests}
use Rattle.std.specs.Option.{option_map, is_some}
use Rattle.std.specs.Ordering.{nat_cmp, eq_by_cmp}
use Rattle.std.specs.Cmp.Lexicographic.{slice_cmp, pointwise, texts_ties}
use Rattle.std.proofs.lemmas.Cmp.{nat_list_cmp_total}
use Rattle.std.specs.FinMap.{FinMap, empty, get, insert, remove, len, len-remove, len-insert, empty_of_len, len-empty, get-empty, get-insert, get-remove, same_map, slice_cmp-IsAntisymmetric, nat_cmp-IsAntisymmetric}
use Rattle.std.specs.Cmp.Derive.{both_true}
use Rattle.std.proofs.lemmas.Slice.Eq.{bytes_eq-Decides}
use Rattle.std.specs.FinSet as set
use Rattle.cdk_memory.specs.declared.stored.Part.{Part}
use Rattle.cdk_memory.specs.declared.stored.Change.{Change}
use Rattle.cdk_memory.specs.Stored.{part_of, lies_in, changed, after_log, log_lies_in, files_of, GivesName, after_names, names_lie_in, directories_of}

pub front : (a b : Bool) → (a && b) ≡ true → a ≡ true
front a b both = grind arith

pub back : (a b : Bool) → (a && b) ≡ true → b ≡ true
back a b both = grind arith

pub bounds : (n : ℕ) (p : Part) → lies_in n p ≡ true → (p.from ≤ p.to) × (p.to ≤ n)
bounds n p lies = (grind (arith, nat_tests), grind (arith, nat_tests))

pub part_longer : (store more : List ℕ) (p : Part) → lies_in (length store) p ≡ true → part_of (store ++ more) p ≡ part_of store p
part_longer store more p lies =
    let b = bounds (length store) p lies in
    let fits : p.from ≤ length store = omega (arith, b.0, b.1) in
    ap (take (p.to - p.from)) (drop-append-le p.from store more fits)
    ∙ take-append-le (p.to - p.from) (drop p.from store) more (omega (arith, b.0, b.1, length-drop p.from store))

pub lies_longer : (n k : ℕ) (p : Part) → n ≤ k → lies_in n p ≡ true → lies_in k p ≡ true
lies_longer n k p le lies = grind (arith, nat_tests)

pub log_longer : (store more : List ℕ) (log : List Change) (m : FinMap (slice_cmp nat_cmp) (List ℕ)) → log_lies_in (length store) log ≡ true → after_log (store ++ more) log m ≡ after_log store log m
log_longer store more [] m lies = refl
log_longer store more (c ∷ log) m lies =
    let here = front _ _ lies in
    let name = part_longer store more c.name (front _ _ here) in
    let bytes = part_longer store more c.bytes (back _ _ here) in
    ap (after_log (store ++ more) log) (λ i. if c.is_removal then remove m (name i) else insert m (name i) (bytes i))
    ∙ log_longer store more log (changed store c m) (back _ _ lies)

pub log_lies_longer : (n k : ℕ) (log : List Change) → n ≤ k → log_lies_in n log ≡ true → log_lies_in k log ≡ true
log_lies_longer n k [] le lies = refl
log_lies_longer n k (c ∷ log) le lies =
    let here = front _ _ lies in
    let a = lies_longer n k c.name le (front _ _ here) in
    let b = lies_longer n k c.bytes le (back _ _ here) in
    both_true (both_true a b) (log_lies_longer n k log le (back _ _ lies))

pub log_snoc : (store : List ℕ) (log : List Change) (c : Change) (m : FinMap (slice_cmp nat_cmp) (List ℕ)) → after_log store (log ++ c ∷ []) m ≡ changed store c (after_log store log m)
log_snoc store [] c m = refl
log_snoc store (x ∷ log) c m = log_snoc store log c (changed store x m)

-- a file that is set: its name and its bytes go to the store's end, and a change to the log's
pub set_is : (s0 n b s1 s2 : List ℕ) (log log2 : List Change) (np bp : Part) → s1 ≡ s0 ++ n → s2 ≡ s1 ++ b → lies_in (length s1) np ≡ true → part_of s1 np ≡ n → part_of s2 bp ≡ b → log_lies_in (length s0) log ≡ true → log2 ≡ log ++ record { name = np; bytes = bp; is_removal = false } ∷ [] → files_of s2 log2 ≡ insert (files_of s0 log) n b
set_is s0 n b s1 s2 log log2 np bp e1 e2 lies is_name is_bytes log_lies e =
    let more : s2 ≡ s0 ++ (n ++ b) = e2 ∙ ap (λ s. s ++ b) e1 ∙ append_assoc s0 n b in
    let name : part_of s2 np ≡ n = ap (λ s. part_of s np) e2 ∙ part_longer s1 b np lies ∙ is_name in
    let before : files_of s2 log ≡ files_of s0 log = ap (λ s. files_of s log) more ∙ log_longer s0 (n ++ b) log empty log_lies in
    ap (files_of s2) e ∙ log_snoc s2 log _ empty ∙ (λ i. insert (before i) (name i) (is_bytes i))

pub set_lies : (s0 n b s1 s2 : List ℕ) (log log2 : List Change) (np bp : Part) → s1 ≡ s0 ++ n → s2 ≡ s1 ++ b → lies_in (length s1) np ≡ true → lies_in (length s2) bp ≡ true → log_lies_in (length s0) log ≡ true → log2 ≡ log ++ record { name = np; bytes = bp; is_removal = false } ∷ [] → log_lies_in (length s2) log2 ≡ true
set_lies s0 n b s1 s2 log log2 np bp e1 e2 lies_name lies_bytes log_lies e =
    let l1 : length s1 ≡ length s0 + length n = ap length e1 ∙ length-append s0 n in
    let l2 : length s2 ≡ length s1 + length b = ap length e2 ∙ length-append s1 b in
    let name = lies_longer (length s1) (length s2) np (omega (arith, l2)) lies_name in
    let old = log_lies_longer (length s0) (length s2) log (omega (arith, l1, l2)) log_lies in
    ap (log_lies_in (length s2)) e ∙ list_all-append _ log _ ∙ grind (arith, name, old, lies_bytes)

-- a change's parts lie in the store, by its place in the log
pub change_lies : (n : ℕ) (log : List Change) (k : ℕ) (d : Change) → k < length log → log_lies_in n log ≡ true → (lies_in n (get_or log k d).name ≡ true) × (lies_in n (get_or log k d).bytes ≡ true)
change_lies n [] k d within lies = absurd (omega arith)
change_lies n (c ∷ log) zero d within lies = let here = front _ _ lies in (front _ _ here, back _ _ here)
change_lies n (c ∷ log) (suc k) d within lies = change_lies n log k d (omega arith) (back _ _ lies)

get_changed : (is_removal : Bool) (n bytes q : List ℕ) (m : FinMap (slice_cmp nat_cmp) (List ℕ)) → get (if is_removal then remove m n else insert m n bytes) q ≡ cond (pointwise nat_eq q n) (if is_removal then None else Some bytes) (get m q)
get_changed true n bytes q m = get-remove nat_list_cmp_total m n q ∙ ap (λ t. cond t None (get m q)) (sym (texts_ties q n))
get_changed false n bytes q m = get-insert nat_list_cmp_total m n bytes q ∙ ap (λ t. cond t (Some bytes) (get m q)) (sym (texts_ties q n))

-- what one change more does to a file
pub get_next : (store : List ℕ) (log : List Change) (k : ℕ) (d : Change) (q : List ℕ) → k < length log → get (files_of store (take (k + 1) log)) q ≡ cond (pointwise nat_eq q (part_of store (get_or log k d).name)) (if (get_or log k d).is_removal then None else Some (part_of store (get_or log k d).bytes)) (get (files_of store (take k log)) q)
get_next store log k d q within =
    let c = get_or log k d in
    ap (λ l. get (files_of store l) q) (take_more log k d within)
    ∙ ap (λ m. get m q) (log_snoc store (take k log) c empty)
    ∙ get_changed c.is_removal (part_of store c.name) (part_of store c.bytes) q (files_of store (take k log))

mapped : {A B : Type 0} (f : A → B) (t r : Bool) (x : A) (found : Option A) → option_map f (cond t (if r then None else Some x) found) ≡ cond t (if r then None else Some (f x)) (option_map f found)
mapped f true true x found = refl
mapped f true false x found = refl
mapped f false r x found = refl

pub find_step : (store : List ℕ) (log : List Change) (k : ℕ) (d : Change) (q n : List ℕ) (found next : Option Change) → k < length log → n ≡ q → next ≡ cond (pointwise nat_eq n (part_of store (get_or log k d).name)) (if (get_or log k d).is_removal then None else Some (get_or log k d)) found → get (files_of store (take k log)) q ≡ option_map (λ c. part_of store c.bytes) found → get (files_of store (take (k + 1) log)) q ≡ option_map (λ c. part_of store c.bytes) next
find_step store log k d q n found next within name step so_far =
    let c = get_or log k d in
    let bytes : Change → List ℕ = λ c. part_of store c.bytes in
    get_next store log k d q within
    ∙ (λ i. cond (pointwise nat_eq (sym name i) (part_of store c.name)) (if c.is_removal then None else Some (part_of store c.bytes)) (so_far i))
    ∙ sym (mapped bytes (pointwise nat_eq n (part_of store c.name)) c.is_removal c found)
    ∙ ap (option_map bytes) (sym step)

picked : {A : Type 0} (P : A → Type 0) (t r : Bool) (x : A) (found : Option A) → (t ≡ true → P x) → IfSome found P → IfSome (cond t (if r then None else Some x) found) P
picked P true true x found here before = tt
picked P true false x found here before = here refl
picked P false r x found here before = before

pub step_fits : (store : List ℕ) (log : List Change) (k : ℕ) (d : Change) (q n : List ℕ) (found next : Option Change) → k < length log → log_lies_in (length store) log ≡ true → n ≡ q → next ≡ cond (pointwise nat_eq n (part_of store (get_or log k d).name)) (if (get_or log k d).is_removal then None else Some (get_or log k d)) found → IfSome found (GivesName store q) → IfSome next (GivesName store q)
step_fits store log k d q n found next within lies name e before =
    let P : Option Change → Type 0 = λ o. IfSome o (GivesName store q) in
    let c = get_or log k d in
    let both = change_lies (length store) log k d within lies in
    let here : pointwise nat_eq n (part_of store c.name) ≡ true → GivesName store q c =
    λ is. record { name = ap (λ x. pointwise nat_eq x (part_of store c.name)) (sym name) ∙ is; name_lies = both.0; bytes_lie = both.1 } in
    subst P (sym e) (picked (GivesName store q) (pointwise nat_eq n (part_of store c.name)) c.is_removal c found here before)

same_text : (q k : List ℕ) → pointwise nat_eq q k ≡ true → q ≡ k
same_text q k is = (bytes_eq-Decides q k).0 is

-- a name that is not there is taken out by nothing
absent_at : (t : Bool) (o : Option (List ℕ)) → (t ≡ true → o ≡ None) → cond t None o ≡ o
absent_at true o none = sym (none refl)
absent_at false o none = refl

pub remove_absent : (m : FinMap (slice_cmp nat_cmp) (List ℕ)) (k : List ℕ) → get m k ≡ None → remove m k ≡ m
remove_absent m k none =
    same_map nat_list_cmp_total (slice_cmp-IsAntisymmetric nat_cmp-IsAntisymmetric) _ _
    (λ q. get-remove nat_list_cmp_total m k q
    ∙ absent_at (eq_by_cmp (slice_cmp nat_cmp) q k) (get m q)
    (λ tied. ap (get m) (same_text q k (texts_ties q k ∙ tied)) ∙ none))

positive : (n r : ℕ) → (n ≡ 0 → ⊥) → r ≡ n - 1 → r + 1 ≡ n
positive zero r full e = absurd (full refl)
positive (suc n) r full e = omega arith

true_is_false : true ≡ false → ⊥
true_is_false e = cc

-- a name that is there counts
pub len_of_remove : (m : FinMap (slice_cmp nat_cmp) (List ℕ)) (k : List ℕ) → is_some (get m k) ≡ true → len (remove m k) + 1 ≡ len m
len_of_remove m k some =
    let less : len (remove m k) ≡ cond (is_some (get m k)) (len m - 1) (len m) = len-remove nat_list_cmp_total m k in
    let less2 : len (remove m k) ≡ len m - 1 = less ∙ ap (λ b. cond b (len m - 1) (len m)) some in
    let full : len m ≡ 0 → ⊥ = λ zero_len. true_is_false (sym some ∙ ap (λ x. is_some (get x k)) (empty_of_len m zero_len) ∙ ap is_some (get-empty (slice_cmp nat_cmp) k)) in
    positive (len m) (len (remove m k)) full less2

-- a change that takes a name out
pub removed_is : (store : List ℕ) (log log2 : List Change) (q : List ℕ) (c : Change) → GivesName store q c → log2 ≡ log ++ record { name = c.name; bytes = c.name; is_removal = true } ∷ [] → files_of store log2 ≡ remove (files_of store log) q
removed_is store log log2 q c gives e =
    ap (files_of store) e ∙ log_snoc store log _ empty ∙ ap (remove (files_of store log)) (sym (same_text q (part_of store c.name) gives.name))

within_one : (t : Bool) (n r : ℕ) → r ≡ cond t n (n + 1) → r ≤ n + 1
within_one true n r e = omega arith
within_one false n r e = omega arith

pub live_of_insert : (m : FinMap (slice_cmp nat_cmp) (List ℕ)) (k v : List ℕ) → len (insert m k v) ≤ len m + 1
live_of_insert m k v = within_one (is_some (get m k)) (len m) (len (insert m k v)) (len-insert nat_list_cmp_total m k v)

-- the same for the names of directories
pub names_longer : (store more : List ℕ) (ps : List Part) (s : set.FinSet (slice_cmp nat_cmp)) → names_lie_in (length store) ps ≡ true → after_names (store ++ more) ps s ≡ after_names store ps s
names_longer store more [] s lies = refl
names_longer store more (p ∷ ps) s lies =
    ap (λ n. after_names (store ++ more) ps (set.insert s n)) (part_longer store more p (front _ _ lies))
    ∙ names_longer store more ps (set.insert s (part_of store p)) (back _ _ lies)

pub names_lie_longer : (n k : ℕ) (ps : List Part) → n ≤ k → names_lie_in n ps ≡ true → names_lie_in k ps ≡ true
names_lie_longer n k [] le lies = refl
names_lie_longer n k (p ∷ ps) le lies =
    let a = lies_longer n k p le (front _ _ lies) in
    let b = names_lie_longer n k ps le (back _ _ lies) in
    both_true a b

pub names_snoc : (store : List ℕ) (ps : List Part) (p : Part) (s : set.FinSet (slice_cmp nat_cmp)) → after_names store (ps ++ p ∷ []) s ≡ set.insert (after_names store ps s) (part_of store p)
names_snoc store [] p s = refl
names_snoc store (x ∷ ps) p s = names_snoc store ps p (set.insert s (part_of store x))

pub directory_is : (s0 n s1 : List ℕ) (ps ps2 : List Part) (p : Part) → s1 ≡ s0 ++ n → part_of s1 p ≡ n → names_lie_in (length s0) ps ≡ true → ps2 ≡ ps ++ p ∷ [] → directories_of s1 ps2 ≡ set.insert (directories_of s0 ps) n
directory_is s0 n s1 ps ps2 p e is lies e2 =
    let before : directories_of s1 ps ≡ directories_of s0 ps = ap (λ s. directories_of s ps) e ∙ names_longer s0 n ps set.empty lies in
    ap (directories_of s1) e2 ∙ names_snoc s1 ps p set.empty ∙ (λ i. set.insert (before i) (is i))

pub directory_lies : (s0 n s1 : List ℕ) (ps ps2 : List Part) (p : Part) → s1 ≡ s0 ++ n → lies_in (length s1) p ≡ true → names_lie_in (length s0) ps ≡ true → ps2 ≡ ps ++ p ∷ [] → names_lie_in (length s1) ps2 ≡ true
directory_lies s0 n s1 ps ps2 p e here lies e2 =
    let l1 : length s1 ≡ length s0 + length n = ap length e ∙ length-append s0 n in
    let old = names_lie_longer (length s0) (length s1) ps (omega (arith, l1)) lies in
    ap (names_lie_in (length s1)) e2 ∙ list_all-append (lies_in (length s1)) ps _ ∙ both_true old (both_true here refl)

pub has_next : (store : List ℕ) (ps : List Part) (k : ℕ) (d : Part) (q n : List ℕ) (found : Bool) → k < length ps → n ≡ q → set.contains (directories_of store (take k ps)) q ≡ found → set.contains (directories_of store (take (k + 1) ps)) q ≡ (pointwise nat_eq n (part_of store (get_or ps k d)) || found)
has_next store ps k d q n found within name so_far =
    ap (λ l. set.contains (directories_of store l) q) (take_more ps k d within)
    ∙ ap (λ s. set.contains s q) (names_snoc store (take k ps) (get_or ps k d) set.empty)
    ∙ set.contains-insert nat_list_cmp_total _ _ q
    ∙ (λ i. (sym (texts_ties q (part_of store (get_or ps k d))) ∙ ap (λ x. pointwise nat_eq x (part_of store (get_or ps k d))) (sym name)) i || so_far i)

less_one : (t : Bool) (n r : ℕ) → r ≡ cond t (n - 1) n → r ≤ n + 1
less_one true n r e = omega arith
less_one false n r e = omega arith

len_of_changed : (r : Bool) (n b : List ℕ) (m : FinMap (slice_cmp nat_cmp) (List ℕ)) → len (if r then remove m n else insert m n b) ≤ len m + 1
len_of_changed true n b m = less_one (is_some (get m n)) (len m) (len (remove m n)) (len-remove nat_list_cmp_total m n)
len_of_changed false n b m = live_of_insert m n b

-- no more names are there than the log has changes
pub live_of_log : (store : List ℕ) (log : List Change) (m : FinMap (slice_cmp nat_cmp) (List ℕ)) → len (after_log store log m) ≤ len m + length log
live_of_log store [] m = omega arith
live_of_log store (c ∷ log) m =
    omega (arith, live_of_log store log (changed store c m), len_of_changed c.is_removal (part_of store c.name) (part_of store c.bytes) m)

pub live_of_files : (store : List ℕ) (log : List Change) → len (files_of store log) ≤ length log
live_of_files store log = omega (arith, live_of_log store log empty, len-empty (slice_cmp nat_cmp) (List ℕ))
