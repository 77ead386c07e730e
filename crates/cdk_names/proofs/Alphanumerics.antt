-- Names have letters and digits alone, and fit in 255.
use Rattle.std.proofs.Common.{◌≡◌, ℕ, zero, suc, ◌*◌, ◌/◌, ◌%◌, ◌<◌, List, [], ◌∷◌, ◌++◌, length, length-append, take, get_or, Bool, true, false, cond, ◌&&◌, refl, ◌∙◌, arith, IfSome, filter, flat_map, nat_lt, nat_le}
use Rattle.std.proofs.lemmas.Bool.Decides.{nat_tests}
use Rattle.std.proofs.lemmas.List.{length-take}
use Rattle.std.proofs.lemmas.List.Folds.{list_all-append}
use Rattle.std.specs.Char.{is_ascii_alphanumeric}
use Rattle.std.specs.List.{list_all, join_with_byte}
use Rattle.std.specs.Int.{w32, to_le_bytes, byte_at}
use Rattle.md5.specs.Md5.{md5, digest_bytes}
use Rattle.cdk_names.specs.Names.{visible, is_shown, unrepeated, alphanumerics, upper_digit, upper_hex, human, hashed_name, name_of_visible}
use Rattle.cdk_names.specs.Laws.{IsAlphanumericName, UniqueIdsAreAlphanumeric}

-- ---- tests of all elements

pub and_both : (a b : Bool) → (a && b) ≡ true → (a ≡ true) × (b ≡ true)
and_both true b h = (refl, h)
and_both false b h = grind (arith, h)

pub both_and : (a b : Bool) → a ≡ true → b ≡ true → (a && b) ≡ true
both_and a b e f = rw e f

all_kept : (p : ℕ → Bool) (b : Bool) (x : ℕ) (xs : List ℕ) → p x ≡ b → list_all p xs ≡ true → list_all p (cond b (x ∷ xs) xs) ≡ true
all_kept p true x xs e h = both_and (p x) _ e h
all_kept p false x xs e h = h

all_filter : (p : ℕ → Bool) (xs : List ℕ) → list_all p (filter p xs) ≡ true
all_filter p [] = refl
all_filter p (x ∷ xs) = all_kept p (p x) x (filter p xs) refl (all_filter p xs)

all_take : (p : ℕ → Bool) (n : ℕ) (xs : List ℕ) → list_all p xs ≡ true → list_all p (take n xs) ≡ true
all_take p zero xs h = refl
all_take p (suc n) [] h = refl
all_take p (suc n) (x ∷ xs) h = let both = and_both (p x) (list_all p xs) h in both_and (p x) _ both.0 (all_take p n xs both.1)

pub all_append : (p : ℕ → Bool) (xs ys : List ℕ) → list_all p xs ≡ true → list_all p ys ≡ true → list_all p (xs ++ ys) ≡ true
all_append p xs ys h k = list_all-append p xs ys ∙ both_and _ _ h k

all_alphanumerics : (cs : List (List ℕ)) → list_all is_ascii_alphanumeric (flat_map alphanumerics cs) ≡ true
all_alphanumerics [] = refl
all_alphanumerics (c ∷ cs) = all_append is_ascii_alphanumeric (alphanumerics c) _ (all_filter is_ascii_alphanumeric c) (all_alphanumerics cs)

-- ---- the hash

abbrev is_byte : ℕ → Bool
is_byte b = nat_lt b 256

byte_at_lem : (i n : ℕ) → is_byte (byte_at i n) ≡ true
byte_at_lem i n = let low : byte_at i n < 256 = grind arith in grind (arith, nat_tests, low)

bytes_of_word : (n : ℕ) → list_all is_byte (to_le_bytes w32 n) ≡ true
bytes_of_word n = both_and _ _ (byte_at_lem 0 n) (both_and _ _ (byte_at_lem 1 n) (both_and _ _ (byte_at_lem 2 n) (both_and _ _ (byte_at_lem 3 n) refl)))

bytes_of_digest : (h : List ℕ) (n : ℕ) → list_all is_byte (digest_bytes h n) ≡ true
unfolding digest_bytes
bytes_of_digest h zero = refl
bytes_of_digest h (suc n) = all_append is_byte (digest_bytes h n) _ (bytes_of_digest h n) (bytes_of_word (get_or h n 0))

bytes_of_md5 : (m : List ℕ) → list_all is_byte (md5 m) ≡ true
unfolding md5
bytes_of_md5 m = bytes_of_digest _ 4

digit_is_alphanumeric : (n : ℕ) → n < 16 → is_ascii_alphanumeric (upper_digit n) ≡ true
digit_is_alphanumeric n h = grind (arith, nat_tests)

hex_of_byte : (b : ℕ) → is_byte b ≡ true → list_all is_ascii_alphanumeric (upper_hex b) ≡ true
hex_of_byte b h =
    let byte : b < 256 = grind (arith, nat_tests, h) in
    let high : b / 16 < 16 = omega (arith, byte) in
    let low : b % 16 < 16 = omega arith in
    both_and _ _ (digit_is_alphanumeric (b / 16) high) (both_and _ _ (digit_is_alphanumeric (b % 16) low) refl)

all_hex : (bs : List ℕ) → list_all is_byte bs ≡ true → list_all is_ascii_alphanumeric (flat_map upper_hex bs) ≡ true
all_hex [] h = refl
all_hex (b ∷ bs) h =
    let both = and_both (is_byte b) (list_all is_byte bs) h in
    all_append is_ascii_alphanumeric (upper_hex b) (flat_map upper_hex bs) (hex_of_byte b both.0) (all_hex bs both.1)

length-hex : (bs : List ℕ) → length (flat_map upper_hex bs) ≡ 2 * length bs
length-hex [] = refl
length-hex (b ∷ bs) = omega (arith, length-hex bs)

-- ---- whole names

pub hashed_name_lem : (cs : List (List ℕ)) → IsAlphanumericName (hashed_name cs)
hashed_name_lem cs =
    let digest = take 4 (md5 (join_with_byte 47 cs)) in
    let shown = flat_map alphanumerics (filter is_shown (unrepeated cs)) in
    record {
      fits = omega (arith, length-append (human cs) (flat_map upper_hex digest), length-take 240 shown, length-hex digest, length-take 4 (md5 (join_with_byte 47 cs)));
      alphanumeric = all_append is_ascii_alphanumeric (human cs) (flat_map upper_hex digest) (all_take is_ascii_alphanumeric 240 shown (all_alphanumerics (filter is_shown (unrepeated cs))))
          (all_hex digest (all_take is_byte 4 (md5 (join_with_byte 47 cs)) (bytes_of_md5 (join_with_byte 47 cs))));
    }

pub single_name : (c : List ℕ) (b : Bool) → nat_le (length (alphanumerics c)) 255 ≡ b → IsAlphanumericName (cond b (alphanumerics c) (hashed_name (c ∷ [])))
single_name c true e = record { fits = grind (arith, nat_tests, e); alphanumeric = all_filter is_ascii_alphanumeric c }
single_name c false e = hashed_name_lem (c ∷ [])

name_of_visible_lem : (cs : List (List ℕ)) → IfSome (name_of_visible cs) IsAlphanumericName
name_of_visible_lem [] = tt
name_of_visible_lem (c ∷ []) = single_name c _ refl
name_of_visible_lem (c ∷ d ∷ cs) = hashed_name_lem (c ∷ d ∷ cs)

pub unique_id_lem : UniqueIdsAreAlphanumeric
unique_id_lem cs = name_of_visible_lem (visible cs)
