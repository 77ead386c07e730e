use Rattle.std.proofs.Common.{◌≡◌, ◌<◌, ◌∷◌, ◌++◌, [], length, true, Err, ap, sym, subst, ◌∙◌}
use Rattle.std.proofs.lemmas.Bool.{lt-ltb}
use Rattle.cdk_language.specs.Construct.{Construct, kind_view, nodes_view}
use Rattle.cdk_tree.specs.NodesView.{placed_nodes}
use Rattle.cdk_tree.specs.Placed.{Placed, construct_at, find_path, placed_in}
use Rattle.cdk_tree.specs.Slots.{fits_parent, head_of, is_scoped, placed_of, slot_in}
use Rattle.cdk_tree.specs.Walking.{waiting, Enters, Places}
use Rattle.cdk_tree.specs.declared.slot.Slot.{Slot}
use Rattle.cdk_tree.proofs.EnterLemmas.{enters, level_is_low, path_is_new, placed_in_scope, refuses}
use Rattle.cdk_tree.proofs.ScopeLemmas.{is_scoped-next}
use Rattle.cdk_tree.proofs.walking.enter.Goals as goal

is_slot : (c : goal.After-place-arg-1) → c.slot_in-slot.result ≡ slot_in (length (placed_nodes c.args.nodes)) c.args.next.parent c.slot.result.now c.take_apart-part.result.0
is_slot c = c.slot_in-slot.ensures ∙ ap (λ n. slot_in n c.args.next.parent c.slot.result.now c.take_apart-part.result.0) (c.new.ensures ∙ c.len.ensures)

pub slot_in-slot-requires : goal.slot_in-slot-requires
slot_in-slot-requires c =
    let cs = placed_nodes c.args.nodes in
    let m = c.args.next.parent in
    let part = c.take_apart-part.result.0 in
    subst (λ (p : Placed). p.level < 255) (sym c.slot.ensures.placed) (level_is_low cs m part.id (kind_view part.kind) c.in-Ok.ensures.0)

pub place-requires-clause-new : goal.place-requires-clause-new
place-requires-clause-new c =
    let cs = placed_nodes c.args.nodes in
    let part = c.take_apart-part.result.0 in
    ap (find_path cs) c.in-Ok.ensures.1 ∙ path_is_new cs c.args.next.parent part.id (kind_view part.kind) c.in-Ok.ensures.0

pub place-requires-clause-path : goal.place-requires-clause-path
place-requires-clause-path c =
    c.in-Ok.ensures.1 ∙ ap (λ (s : Slot). (placed_of (placed_nodes c.args.nodes) s).path) (sym (is_slot c))

pub place-requires-clause-parent : goal.place-requires-clause-parent
place-requires-clause-parent c =
    let n = length (placed_nodes c.args.nodes) in
    ap (λ (s : Slot). fits_parent n s.parent) (is_slot c) ∙ lt-ltb c.args.next.parent n c.requires

pub place-requires-clause-scopes : goal.place-requires-clause-scopes
place-requires-clause-scopes c =
    let cs = placed_nodes c.args.nodes in
    let P : Slot → Type 0 = λ s. is_scoped (cs ++ placed_of cs s ∷ []) (length cs) (placed_of cs s) ≡ true in
    subst P (sym (is_slot c)) (is_scoped-next cs c.args.next.parent c.slot.result.now c.take_apart-part.result.0 c.requires c.slot.ensures.placed c.slot.ensures.scopes)

pub returns-in-Err : goal.returns-in-Err
returns-in-Err c =
    let cs = placed_nodes c.args.nodes in
    let part = c.take_apart-part.result.0 in
    let same = waiting c.args.pending.now in
    let P : Construct → Type 0 = λ k. Enters (Err c.in-Err.fault) cs c.args.next.parent k same same in
    subst P (sym c.take_apart-part.ensures) (refuses c.in-Err.fault cs c.args.next.parent (head_of part) (kind_view part.kind) (nodes_view c.take_apart-part.result.1) same same c.in-Err.ensures)

pub returns : goal.returns
returns c =
    let cs = placed_nodes c.args.nodes in
    let m = c.args.next.parent in
    let part = c.take_apart-part.result.0 in
    let kids = nodes_view c.take_apart-part.result.1 in
    let before = waiting c.args.pending.now in
    let after = waiting c.place.new.pending in
    let scope = c.slot.result.now in
    let slot : c.slot_in-slot.result ≡ slot_in (length cs) m scope part = c.slot_in-slot.ensures ∙ ap (λ n. slot_in n m scope part) (c.new.ensures ∙ c.len.ensures) in
    let is : placed_of cs c.slot_in-slot.result ≡ placed_in (length cs) m (construct_at cs m) (head_of part) (kind_view part.kind)
    = ap (placed_of cs) slot ∙ placed_in_scope cs (length cs) m scope part c.slot.ensures.placed in
    let P : Construct → Type 0 = λ k. Enters c.place.result cs m k before after in
    let Q : Placed → Type 0 = λ p. Places c.place.result cs p kids before after in
    subst P (sym c.take_apart-part.ensures) (enters c.place.result cs m (head_of part) (kind_view part.kind) kids before after c.in-Ok.ensures.0 (subst Q is c.place.ensures))
