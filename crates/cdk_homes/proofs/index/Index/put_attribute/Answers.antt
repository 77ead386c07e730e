-- The places of one attribute change, and those of the others stay.
use Rattle.std.proofs.Common.{rules, ◌≡◌, ℕ, List, Option, Some, None, option_and_then, cond, string_bytes, sym, ap, ◌∙◌}
use Rattle.std.specs.Str.{bytes_eq}
use Rattle.std.specs.BTreeMap.{get_by_text}
use Rattle.std.proofs.lemmas.Map.Text.{btree_map_updates_text}
use Rattle.std.proofs.lemmas.Result.{on_ok_weaker, on_err_weaker}
use Rattle.cdk_homes.specs.Homes.{is_pair}
use Rattle.cdk_homes.specs.Places.{place_in, place_of}
use Rattle.cdk_homes.proofs.PlaceLemmas.{text_put, text_kept}
use Rattle.cdk_homes.proofs.index.Index.put_attribute.Goals as goal

-- an attribute that is there
pub returns-in-Some-clause-ok : goal.returns-in-Some-clause-ok
returns-in-Some-clause-ok c =
    let i = c.args.self.now in
    let text = c.as_str.result.now in
    let m = c.get_mut.follows.lender c.put.new.self in
    let before : ℕ → ℕ → Option ℕ = λ x a. place_of c.in-Some.places.now x a in
    let updates : (q : List ℕ) → get_by_text m q ≡ cond (bytes_eq text q) (Some c.put.new.self) (get_by_text i.attributes q) =
    btree_map_updates_text text i.attributes m _ ((c.get_mut.follows.holds c.put.new.self).3 (search rules)) in
    on_ok_weaker c.put.result (λ new x a t.
    text_put i m c.put.new.self text c.args.consumer c.args.at c.args.place before updates
    (λ x a. ap (option_and_then (λ p. place_of p x a)) (sym c.in-Some.ensures.value)) new x a t
    ∙ ap (λ b. cond (is_pair c.args.consumer c.args.at (Some b) x a t) (Some c.args.place) (place_in i x a t)) c.as_str.ensures) c.put.ensures.ok

pub returns-in-Some-clause-err : goal.returns-in-Some-clause-err
returns-in-Some-clause-err c =
    let i = c.args.self.now in
    let text = c.as_str.result.now in
    let m = c.get_mut.follows.lender c.put.new.self in
    let before : ℕ → ℕ → Option ℕ = λ x a. place_of c.in-Some.places.now x a in
    let updates : (q : List ℕ) → get_by_text m q ≡ cond (bytes_eq text q) (Some c.put.new.self) (get_by_text i.attributes q) =
    btree_map_updates_text text i.attributes m _ ((c.get_mut.follows.holds c.put.new.self).3 (search rules)) in
    on_err_weaker c.put.result (λ same. text_kept i m c.put.new.self text before updates (λ x a. ap (option_and_then (λ p. place_of p x a)) (sym c.in-Some.ensures.value)) same) c.put.ensures.err

-- a new attribute
pub returns-clause-ok : goal.returns-clause-ok
returns-clause-ok c x a t =
    let i = c.args.self.now in
    let text = string_bytes c.in_ok-text.text in
    let same : text ≡ c.args.text.now = c.in_ok-text.ensures.ok ∙ c.as_str-2.ensures in
    let before : ℕ → ℕ → Option ℕ = λ x a. place_of c.new-places.result x a in
    let m = c.get_mut.follows.lender-at-none in
    let w = c.put-2.new.self in
    let missing : get_by_text i.attributes text ≡ None = ap (get_by_text i.attributes) (same ∙ sym c.as_str.ensures) ∙ sym c.in_default.ensures.value in
    text_put i c.insert.new.self w text c.args.consumer c.args.at c.args.place before
    (λ q. btree_map_updates_text text m c.insert.new.self (Some w) c.in_ok-insert.ensures.updates q
    ∙ ap (λ n. cond (bytes_eq text q) (Some w) (get_by_text n q)) c.get_mut.follows.holds-at-none)
    (λ x a. ap (option_and_then (λ p. place_of p x a)) missing ∙ sym (c.new-places.ensures x a)) c.in_ok-put.ensures.ok x a t
    ∙ ap (λ b. cond (is_pair c.args.consumer c.args.at (Some b) x a t) (Some c.args.place) (place_in i x a t)) same
