use Rattle.std.proofs.Common.{◌≡◌, ℕ, List, [], ◌∷◌, ◌++◌, Bool, true, false, cond, Option, Some, Global, refl, ap, ◌∙◌}
use Rattle.std.specs.Prelude.{◌&&◌, bytes_eq, nat_eq, if◌then◌else◌}
use Rattle.std.specs.declared.vec.Vec.{Vec}
use Rattle.std.proofs.lemmas.Map.Text.{btree_map_updates_str}
use Rattle.cdk_eval.proofs.Reach.{bytes_same}
use Rattle.cdk_artifacts.specs.Queued.{numbers_of, numbers_at, occurrences, plus_if}
use Rattle.cdk_artifacts.proofs.Counting.{occurrences_push}
use Rattle.cdk_artifacts.proofs.dependents.Dependents.put.Goals as goal

put_at : (b : Bool) (v : Vec ℕ Global) (o : Option (Vec ℕ Global)) (old : List ℕ) (x k : ℕ) → (b ≡ true → v.items ≡ old ++ x ∷ []) → numbers_of o ≡ (if b then [] else old)
    → occurrences k (numbers_of (cond b (Some v) o)) ≡ plus_if (b && nat_eq x k) (occurrences k old)
put_at true v o old x k h e = ap (occurrences k) (h refl) ∙ occurrences_push k x old
put_at false v o old x k h e = ap (occurrences k) e

pub returns : goal.returns
returns c n k =
    let name = c.args.name.now in
    let old = c.args.self.now in
    let taken : c.take-numbers.result.items ≡ numbers_at old name = c.take-numbers.ensures.taken in
    let pushed : c.push.new.self.items ≡ c.take-numbers.result.items ++ c.args.number ∷ [] = c.in_ok-push.ensures.items in
    ap (λ o. occurrences k (numbers_of o)) (btree_map_updates_str name c.take-numbers.new.self.numbers c.insert.new.self (Some c.push.new.self) c.in_ok-insert.ensures.updates n)
    ∙ put_at (bytes_eq name n) c.push.new.self _ (numbers_at old n) c.args.number k
    (λ e. pushed ∙ ap (λ xs. xs ++ c.args.number ∷ []) (taken ∙ ap (numbers_at old) (bytes_same name n e))) (c.take-numbers.ensures.left n)
