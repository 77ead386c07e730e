use Rattle.std.proofs.Common.{◌≡◌, ◌<◌, ℕ, length, Option, Some, None, option_map, true, refl, ap, sym, ◌∙◌, arith}
use Rattle.std.proofs.lemmas.Bool.{ltb-true}
use Rattle.std.specs.Prelude.{MatchOption}
use Rattle.std.specs.Option.{option_or}
use Rattle.serde_json.specs.Find.{get_member}
use Rattle.serde_json.specs.View.{view as json_view, members_view}
use Rattle.serde_json.proofs.Views.{view-lookup}
use Rattle.cdk_tree.specs.Placed.{Placed, look_up}
use Rattle.cdk_tree.specs.Slots.{contexts_above, fits_parent}
use Rattle.cdk_tree.specs.NodesView.{placed_nodes}
use Rattle.cdk_tree.proofs.nodes.Nodes.context.Goals as goal

parent_inside : (n len : ℕ) (p : Option ℕ) → n < len → fits_parent n p ≡ true → MatchOption p (Unit {0}) (λ m. m < len)
parent_inside n len None within fits = tt
parent_inside n len (Some m) within fits = let below : m < n = ltb-true m n fits in omega arith

pub returns-in-Some-get : goal.returns-in-Some-get
returns-in-Some-get c =
    let cs = placed_nodes c.args.self.now in
    let key = c.args.key.now in
    let slot = c.slot-slot.result.now in
    let own = members_view slot.part.context.entries in
    let rest = look_up key (contexts_above cs slot.parent) in
    let found : get_member key own ≡ Some (json_view c.in-Some-get.value.now) = sym (view-lookup key slot.part.context.entries) ∙ ap (option_map json_view) (sym c.in-Some-get.ensures.value) in
    sym (c.loop-next.invariant.same ∙ ap (λ p. look_up key (contexts_above cs p)) c.in-Some.is
    ∙ ap (λ (p : Placed). look_up key p.contexts) (sym c.slot-slot.ensures.placed) ∙ ap (λ o. option_or o rest) found)

pub loop-next-preserved : goal.loop-next-preserved
loop-next-preserved c =
    let cs = placed_nodes c.args.self.now in
    let key = c.args.key.now in
    let slot = c.slot-slot.result.now in
    let own = members_view slot.part.context.entries in
    let rest = look_up key (contexts_above cs slot.parent) in
    let none : get_member key own ≡ None = sym (view-lookup key slot.part.context.entries) ∙ ap (option_map json_view) (sym c.in_default-get.ensures.value) in
    record {
      inside = parent_inside c.in-Some.scope (length cs) slot.parent (rw c.in-Some.is at c.loop-next.invariant.inside) c.slot-slot.ensures.below;
      same = c.loop-next.invariant.same ∙ ap (λ p. look_up key (contexts_above cs p)) c.in-Some.is
          ∙ ap (λ (p : Placed). look_up key p.contexts) (sym c.slot-slot.ensures.placed) ∙ ap (λ o. option_or o rest) none;
    }

pub loop-next-init : goal.loop-next-init
loop-next-init c = record { inside = c.requires; same = refl }
