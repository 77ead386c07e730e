-- A run that ends with a part of a marker's beginning, and goes on.
use Rattle.std.proofs.Common.{◌≡◌, ◌≢◌, ℕ, zero, suc, ◌+◌, ◌<◌, ◌≤◌, List, [], ◌∷◌, ◌++◌, slice_index, eqb, Bool, true, false, cond, Some, None, codes, refl, sym, ap, ◌∙◌, arith, append_assoc, append-nil}
use Rattle.std.specs.Prelude.{◌||◌, nat_eq}
use Rattle.std.specs.List.{starts_with}
use Rattle.std.proofs.lemmas.Bool.{eqb-true, eqb-false, ne_eqb}
use Rattle.cdk_base.specs.Marker.{has_marker}
use Rattle.cdk_language.specs.Runs.{Literals, no_literal, is_marked_run}
use Rattle.cdk_runs.specs.Reads.{Reads, opening, fresh, step}

-- ---- a test on two bytes, either way round

other_way : (a b : ℕ) (t : Bool) → eqb b a ≡ t → eqb a b ≡ false → eqb b a ≡ false
other_way a b false e f = e
other_way a b true e f = let same : b ≡ a = eqb-true b a e in ne_eqb b a (λ s. absurd (cc (ap (eqb a) s, e, ap (λ x. eqb x a) s)))

differs : (b a : ℕ) → eqb b a ≡ false → eqb a b ≡ false
differs b a e = other_way b a (eqb a b) refl e

-- ---- a byte after nothing

no_opening : (b : ℕ) (r : List ℕ) → eqb 36 b ≡ false → eqb 35 b ≡ false → has_marker (b ∷ r) ≡ has_marker r
no_opening b r e f = rw (e, f) refl

or_nothing : (x : Bool) → x ≡ (x || false)
or_nothing true = refl
or_nothing false = refl

either_sign : (r : List ℕ) → has_marker (35 ∷ r) ≡ has_marker (36 ∷ r)
either_sign r = ap (λ x. x || has_marker r) (or_nothing (starts_with nat_eq r (codes "{Token[")))

fresh_by : (b : ℕ) (r : List ℕ) (t u : Bool) → eqb b 36 ≡ t → eqb b 35 ≡ u → has_marker (b ∷ r) ≡ has_marker (opening (cond (t || u) 1 0) ++ r)
fresh_by b r true u e f = ap (λ x. has_marker (x ∷ r)) (eqb-true b 36 e)
fresh_by b r false true e f = ap (λ x. has_marker (x ∷ r)) (eqb-true b 35 f) ∙ either_sign r
fresh_by b r false false e f = no_opening b r (differs b 36 e) (differs b 35 f)

fresh-marker : (b : ℕ) (r : List ℕ) → has_marker (b ∷ r) ≡ has_marker (opening (fresh b) ++ r)
fresh-marker b r = fresh_by b r (eqb b 36) (eqb b 35) refl refl

-- ---- a byte after n matched ones

one_byte : (n c b : ℕ) (r : List ℕ) (t : Bool) → eqb b c ≡ t → has_marker (opening n ++ c ∷ r) ≡ has_marker (opening (n + 1) ++ r)
    → (eqb c b ≡ false → has_marker (opening n ++ b ∷ r) ≡ has_marker (b ∷ r)) → has_marker (opening n ++ b ∷ r) ≡ has_marker (opening (cond t (n + 1) (fresh b)) ++ r)
one_byte n c b r true e hit miss = ap (λ x. has_marker (opening n ++ x ∷ r)) (eqb-true b c e) ∙ hit
one_byte n c b r false e hit miss = miss (differs b c e) ∙ fresh-marker b r

step-marker : (n b : ℕ) (r : List ℕ) → n ≤ 8 → has_marker (opening n ++ b ∷ r) ≡ has_marker (opening (step n b) ++ r)
step-marker zero b r h = one_byte 0 36 b r (eqb b 36) refl refl (λ e. refl)
step-marker (suc zero) b r h = one_byte 1 123 b r (eqb b 123) refl refl (λ e. rw e refl)
step-marker (suc (suc zero)) b r h = one_byte 2 84 b r (eqb b 84) refl refl (λ e. rw e refl)
step-marker (suc (suc (suc zero))) b r h = one_byte 3 111 b r (eqb b 111) refl refl (λ e. rw e refl)
step-marker (suc (suc (suc (suc zero)))) b r h = one_byte 4 107 b r (eqb b 107) refl refl (λ e. rw e refl)
step-marker (suc (suc (suc (suc (suc zero))))) b r h = one_byte 5 101 b r (eqb b 101) refl refl (λ e. rw e refl)
step-marker (suc (suc (suc (suc (suc (suc zero)))))) b r h = one_byte 6 110 b r (eqb b 110) refl refl (λ e. rw e refl)
step-marker (suc (suc (suc (suc (suc (suc (suc zero))))))) b r h = one_byte 7 91 b r (eqb b 91) refl refl (λ e. rw e refl)
step-marker (suc (suc (suc (suc (suc (suc (suc (suc zero)))))))) b r h = refl
step-marker (suc (suc (suc (suc (suc (suc (suc (suc (suc n))))))))) b r h = absurd (omega arith)

-- ---- the same of a run that goes on with literals

pub run-step : (n b : ℕ) (s : List ℕ) (ps : Literals) → n ≤ 8 → is_marked_run (opening n ++ b ∷ s) ps ≡ is_marked_run (opening (step n b) ++ s) ps
run-step n b s [] h = step-marker n b s h
run-step n b s (None ∷ ps) h = ap (λ x. x || is_marked_run [] ps) (step-marker n b s h)
run-step n b s (Some t ∷ ps) h =
    ap (λ r. is_marked_run r ps) (append_assoc (opening n) (b ∷ s) t) ∙ run-step n b (s ++ t) ps h ∙ ap (λ r. is_marked_run r ps) (sym (append_assoc (opening (step n b)) s t))

fresh-bound : (t u : Bool) → cond (t || u) 1 0 ≤ 8
fresh-bound true u = omega arith
fresh-bound false true = omega arith
fresh-bound false false = omega arith

next-bound : (t : Bool) (n b : ℕ) → n < 8 → cond t (n + 1) (fresh b) ≤ 8
next-bound true n b h = omega arith
next-bound false n b h = fresh-bound (eqb b 36) (eqb b 35)

step_by : (t : Bool) (n b : ℕ) → eqb n 8 ≡ t → n ≤ 8 → cond t 8 (cond (eqb b (slice_index (codes "${Token[") n)) (n + 1) (fresh b)) ≤ 8
step_by true n b e h = omega arith
step_by false n b e h = next-bound (eqb b (slice_index (codes "${Token[") n)) n b (let ne : n ≢ 8 = eqb-false n 8 e in omega arith)

pub step-bound : (n b : ℕ) → n ≤ 8 → step n b ≤ 8
step-bound n b h = step_by (eqb n 8) n b refl h

-- ---- a whole marker's beginning stays

whole_run : (s : List ℕ) (ps : Literals) → is_marked_run (opening 8 ++ s) ps ≡ true
whole_run s [] = refl
whole_run s (None ∷ ps) = refl
whole_run s (Some t ∷ ps) = whole_run (s ++ t) ps

pub reads-whole : (more : Literals) → Reads 8 more 8
reads-whole more = record { bound = omega arith; same = λ ps. whole_run [] (more ++ ps) ∙ sym (whole_run [] ps) }

-- ---- what is no literal

part_only : (n : ℕ) → n < 8 → has_marker (opening n) ≡ false
part_only zero h = refl
part_only (suc zero) h = refl
part_only (suc (suc zero)) h = refl
part_only (suc (suc (suc zero))) h = refl
part_only (suc (suc (suc (suc zero)))) h = refl
part_only (suc (suc (suc (suc (suc zero))))) h = refl
part_only (suc (suc (suc (suc (suc (suc zero)))))) h = refl
part_only (suc (suc (suc (suc (suc (suc (suc zero))))))) h = refl
part_only (suc (suc (suc (suc (suc (suc (suc (suc n)))))))) h = absurd (omega arith)

pub reads-other : (n : ℕ) → n < 8 → Reads n no_literal 0
reads-other n h = record { bound = omega arith; same = λ ps. ap (λ x. x || is_marked_run [] ps) (part_only n h) }

-- ---- the end of a run

pub marked-end : (n : ℕ) → n ≤ 8 → has_marker (opening n) ≡ eqb n 8
marked-end zero h = refl
marked-end (suc zero) h = refl
marked-end (suc (suc zero)) h = refl
marked-end (suc (suc (suc zero))) h = refl
marked-end (suc (suc (suc (suc zero)))) h = refl
marked-end (suc (suc (suc (suc (suc zero))))) h = refl
marked-end (suc (suc (suc (suc (suc (suc zero)))))) h = refl
marked-end (suc (suc (suc (suc (suc (suc (suc zero))))))) h = refl
marked-end (suc (suc (suc (suc (suc (suc (suc (suc zero)))))))) h = refl
marked-end (suc (suc (suc (suc (suc (suc (suc (suc (suc n))))))))) h = absurd (omega arith)

-- ---- one after another

pub reads-both : (n m k : ℕ) (a b : Literals) → Reads n a m → Reads m b k → Reads n (a ++ b) k
reads-both n m k a b r s = record { bound = s.bound; same = λ ps. ap (is_marked_run (opening n)) (append_assoc a b ps) ∙ r.same (b ++ ps) ∙ s.same ps }

pub reads-none : (n : ℕ) → n ≤ 8 → Reads n [] n
reads-none n h = record { bound = h; same = λ ps. refl }

pub reads-three : (n m k j : ℕ) (a b c : List ℕ) → Reads n (Some a ∷ []) m → Reads m (Some b ∷ []) k → Reads k (Some c ∷ []) j → Reads n (Some (a ++ (b ++ c)) ∷ []) j
reads-three n m k j a b c r s t = record {
  bound = t.bound;
  same = λ more. ap (λ u. is_marked_run u more) (sym (append_assoc (opening n) a (b ++ c)) ∙ sym (append_assoc (opening n ++ a) b c))
      ∙ r.same (Some b ∷ Some c ∷ more) ∙ s.same (Some c ∷ more) ∙ t.same more;
}

pub marked-reads : (m : ℕ) (a : Literals) → Reads 0 a m → is_marked_run [] a ≡ eqb m 8
marked-reads m a r = ap (is_marked_run []) (sym (append-nil a)) ∙ r.same [] ∙ marked-end m r.bound
