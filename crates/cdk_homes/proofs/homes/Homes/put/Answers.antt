-- The new entry has the last place.
use Rattle.std.proofs.Common.{rules, rules, ◌≡◌, ◌<◌, List, [], ◌∷◌, ◌++◌, length, map, sym, ap, ◌∙◌, arith}
use Rattle.std.specs.Prelude.{if◌then◌else◌, IsOk, Result, Ok, Err}
use Rattle.std.specs.Result.{is_ok}
use Rattle.std.specs.Vec.{vec_len, vec_capacity}
use Rattle.std.proofs.lemmas.List.{length-map, map_push}
use Rattle.cdk_homes.specs.Kept.{entries_in}
use Rattle.cdk_homes.specs.Views.{entry_view}
use Rattle.cdk_homes.specs.declared.entry.Entry.{Entry}
use Rattle.cdk_homes.proofs.EntryLemmas.{indexed-push}
use Rattle.cdk_homes.proofs.homes.Homes.put.Goals as goal

-- what is pushed where there is room
pushed : {T E X : Type 0} (r : Result T E) (new room items : List X) (x : X) → IsOk r → new ≡ (if is_ok r then room ++ x ∷ [] else room) → room ≡ items → new ≡ items ++ x ∷ []
pushed (Ok t) new room items x h e same = e ∙ ap (λ l. l ++ x ∷ []) same
pushed (Err t) new room items x h e same = absurd (cc h)

pub invariant_of-self-2 : goal.invariant_of-self-2
invariant_of-self-2 c =
    let es = entries_in c.args.self.now in
    let items = c.args.self.now.entries.items in
    let entry : Entry = record { consumer = c.args.consumer; target = c.args.target; name = c.args.name; how = c.args.how } in
    let room : vec_len c.reserve.new.self < vec_capacity c.reserve.new.self = omega (arith, c.in_ok-reserve.ensures.ok) in
    let grown : c.push.new.self.items ≡ items ++ entry ∷ [] =
    pushed c.push.result c.push.new.self.items c.reserve.new.self.items items entry (c.push.ensures.succeeds room) c.push.ensures.items c.reserve.ensures.items in
    let count : c.len.result ≡ length items = search rules in
    let last : c.len.result ≡ length es = count ∙ sym (length-map items entry_view) in
    record { indexed = λ x a t. indexed-push es (map entry_view c.push.new.self.items) (entry_view entry) c.requires.new (ap (map entry_view) grown ∙ map_push entry_view items entry) x a t c.len.result _ _ (c.in_ok-put.ensures.ok x a t) (c.args.self.now.indexed x a t) last }
