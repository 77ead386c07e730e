-- Sound constructs stay sound as the walk goes on, and it ends at the first thing that is wrong.
use Rattle.std.proofs.Common.{◌≡◌, ◌<◌, ◌≤◌, ℕ, ◌+◌, List, [], ◌∷◌, ◌++◌, length, Bool, true, false, Option, Some, None, Ok, Err, refl, sym, ap, ◌∙◌, subst, inl, inr, arith}
use Rattle.std.specs.Prelude.{not, is_some, if◌then◌else◌, ◌⊎◌}
use Rattle.std.specs.Str.{bytes_eq}
use Rattle.std.proofs.lemmas.Bool.{cases_lt}
use Rattle.std.proofs.lemmas.List.{append-nil, get_or_append_left, length-append}
use Rattle.std.proofs.Math.Seq.{get_or-append_seam}
use Rattle.cdk_base.specs.declared.code.Code.TheVariants.{BadId, SameId, BadPlace}
use Rattle.cdk_base.specs.declared.fault.Fault.{Fault}
use Rattle.cdk_base.specs.declared.fault.Fault.TheVariants as faults
use Rattle.cdk_language.specs.Construct as language
use Rattle.cdk_language.specs.Construct.{Body, Construct, Constructs, Head}
use Rattle.cdk_tree.proofs.Findings.{clean-next, wrong-next}
use Rattle.cdk_tree.proofs.Numbered.{is_some-position}
use Rattle.cdk_tree.proofs.PathLaw.{new_path}
use Rattle.cdk_tree.proofs.WalkLemmas.{all_placed-next, still_to_place-children, AreBelow-more, AreBelow-children, size_of_all-children}
use Rattle.cdk_tree.specs.NodesView.{placed_nodes}
use Rattle.cdk_tree.specs.PlaceFindings.{found_at, is_id, is_misplaced}
use Rattle.cdk_tree.specs.Placed.{Placed, construct_at, constructs_of, find_path, nowhere, path_in, placed_in, root_placed, walk_children}
use Rattle.cdk_tree.specs.Walking.{Waiting, all_placed, children_of, still_to_place, size, size_of_all, wrong_code, AreBelow, Completes, Enters, EntersRoot, IsSound, StandsIn}
use Rattle.cdk_tree.specs.declared.nodes.Nodes.{Nodes}

-- where nothing is wrong, the id is right and the path is new
nothing_wrong : (a t c : Bool) → (if not a then Some BadId else if t then Some SameId else if c then Some BadPlace else None) ≡ None → (a ≡ true) × (t ≡ false)
nothing_wrong false t c h = cc
nothing_wrong true true c h = cc
nothing_wrong true false c h = (refl, refl)

StandsIn-more : (cs : List Placed) (p : Placed) (k : ℕ) (q : Placed) (o : Option ℕ) → k < length cs → StandsIn cs k q o → StandsIn (cs ++ p ∷ []) k q o
StandsIn-more cs p k q None within stands = stands
StandsIn-more cs p k q (Some m) within stands =
    let less : m < k = stands.0 in
    (less, (stands.1.0 ∙ ap (λ (c : Placed). path_in c.path q.head.id) (sym (get_or_append_left cs (p ∷ []) nowhere m (omega arith))), stands.1.1))

module _ (cs : List Placed) (sound : IsSound cs) (m : ℕ) (within : m < length cs) (h : Head) (b : Body) (none : wrong_code cs m h.id b ≡ None) where
  abbrev next : Placed
  next = placed_in (length cs) m (construct_at cs m) h b

  abbrev done : List Placed
  done = cs ++ next ∷ []

  free : (is_id h.id ≡ true) × (is_some (find_path cs next.path) ≡ false)
  free = nothing_wrong (is_id h.id) (is_some (find_path cs next.path)) (is_misplaced (construct_at cs m).stack ((construct_at cs m).level + 1) b) none

  before : (k : ℕ) → k < length cs → construct_at done k ≡ construct_at cs k
  before k inside = get_or_append_left cs (next ∷ []) nowhere k inside

  itself : construct_at done (length cs) ≡ next
  itself = get_or-append_seam cs next [] nowhere

  fresh : (k : ℕ) → k < length cs → next.path ≡ (construct_at cs k).path → ⊥
  fresh k inside same = new_path cs sound next m within refl refl free.0 (sym (is_some-position (λ c. bytes_eq next.path c.path) cs) ∙ free.1) k inside same

  at_last : (k : ℕ) → k < length done → length cs ≤ k → k ≡ length cs
  at_last k inside past = omega (arith, length-append cs (next ∷ []))

  stands : (k : ℕ) → k < length done → StandsIn done k (construct_at done k) (construct_at done k).parent
  stands k inside = by (cases_lt k (length cs))
    where
      by : (k < length cs) ⊎ (length cs ≤ k) → StandsIn done k (construct_at done k) (construct_at done k).parent
      by (inl less) = subst (λ (q : Placed). StandsIn done k q q.parent) (sym (before k less)) (StandsIn-more cs next k (construct_at cs k) (construct_at cs k).parent less (sound.stands k less))
      by (inr past) =
          let last = at_last k inside past in
          let here : StandsIn done (length cs) next (Some m) = (within, (ap (λ (c : Placed). path_in c.path h.id) (sym (before m within)), free.0)) in
          subst (λ n. StandsIn done n (construct_at done n) (construct_at done n).parent) (sym last)
          (subst (λ (q : Placed). StandsIn done (length cs) q q.parent) (sym itself) here)

  apart : (j k : ℕ) → j < length done → k < length done → (construct_at done j).path ≡ (construct_at done k).path → j ≡ k
  apart j k left right same = by (cases_lt j (length cs)) (cases_lt k (length cs))
    where
      path : Placed → List ℕ
      path c = c.path

      by : (j < length cs) ⊎ (length cs ≤ j) → (k < length cs) ⊎ (length cs ≤ k) → j ≡ k
      by (inl jl) (inl kl) = sound.apart j k jl kl (ap (λ (c : Placed). c.path) (sym (before j jl)) ∙ same ∙ ap (λ (c : Placed). c.path) (before k kl))
      by (inl jl) (inr kp) = absurd (fresh j jl (sym (ap (λ (c : Placed). c.path) (sym (before j jl)) ∙ same ∙ ap (λ n. (construct_at done n).path) (at_last k right kp) ∙ ap (λ (c : Placed). c.path) itself)))
      by (inr jp) (inl kl) = absurd (fresh k kl (sym (ap (λ (c : Placed). c.path) itself) ∙ ap (λ n. (construct_at done n).path) (sym (at_last j left jp)) ∙ same ∙ ap (λ (c : Placed). c.path) (before k kl)))
      by (inr jp) (inr kp) = at_last j left jp ∙ sym (at_last k right kp)

  pub IsSound-next : IsSound done
  IsSound-next = record { clean = clean-next cs sound m within h b none; stands = stands; apart = apart }

-- ---- a step of the walk

pub record GoesOn (cs : List Placed) (m : ℕ) (c : Construct) (ws : List Waiting) (done : List Placed) (after : List Waiting) : Type 0 where
  pub sound : IsSound done
  pub below : AreBelow (length done) after
  pub all : all_placed cs ((m, c) ∷ ws) ≡ all_placed done after
  pub smaller : size_of_all after < size c + size_of_all ws

goes_on : (cs : List Placed) (m : ℕ) (h : Head) (b : Body) (kids : Constructs) (ws : List Waiting) (done : List Placed) (after : List Waiting) → IsSound cs → m < length cs → AreBelow (length cs) ws
    → wrong_code cs m h.id b ≡ None → done ≡ cs ++ placed_in (length cs) m (construct_at cs m) h b ∷ [] → after ≡ children_of (length cs) kids ++ ws → GoesOn cs m (language.construct h b kids) ws done after
goes_on cs m h b kids ws done after sound within below none placed left =
    let p = placed_in (length cs) m (construct_at cs m) h b in
    let grown : length (cs ++ p ∷ []) ≡ length cs + 1 = length-append cs (p ∷ []) in
    record {
      sound = subst IsSound (sym placed) (IsSound-next cs sound m within h b none);
      below = subst (λ n. AreBelow n after) (sym (ap length placed ∙ grown))
          (subst (AreBelow (length cs + 1)) (sym left) (AreBelow-children (length cs + 1) (length cs) kids ws (omega arith) (AreBelow-more (length cs) ws below)));
      all = all_placed-next cs m h b kids ws below ∙ ap (λ l. all_placed l (children_of (length cs) kids ++ ws)) (sym placed) ∙ ap (all_placed done) (sym left);
      smaller = omega (arith, ap size_of_all left, size_of_all-children (length cs) kids ws);
    }

pub next_ok : (t : Nodes) (cs : List Placed) (m : ℕ) (c : Construct) (ws after : List Waiting) → IsSound cs → m < length cs → AreBelow (length cs) ws → Enters (Ok t) cs m c ws after → GoesOn cs m c ws (placed_nodes t) after
next_ok t cs m (language.construct h b kids) ws after sound within below e = goes_on cs m h b kids ws (placed_nodes t) after sound within below e.0 e.1.0 e.1.1

pub next_err : (f : Fault) (cs : List Placed) (m : ℕ) (c : Construct) (ws after : List Waiting) → IsSound cs → m < length cs → Enters (Err f) cs m c ws after → Completes (Err f) (all_placed cs ((m, c) ∷ ws))
next_err faults.Memory cs m c ws after sound within e = tt
next_err (faults.App code place) cs m (language.construct h b kids) ws after sound within e =
    let n = length cs in
    let p = placed_in n m (construct_at cs m) h b in
    let kids_walk = walk_children (n + 1) n p kids in
    let rest = kids_walk ++ still_to_place cs (n + length (p ∷ kids_walk)) ws in
    wrong-next cs sound m within h b rest code e.0 ∙ ap (λ t. Some (found_at t code)) (sym e.1)
next_err (faults.Refused place name text) cs m c ws after sound within e = e

-- ---- the root

pub root_below : (t : Nodes) (c : Construct) (before after : List Waiting) → before ≡ [] → EntersRoot (Ok t) c before after → AreBelow (length (placed_nodes t)) after
root_below t (language.construct h b kids) before after none e =
    let one : length (placed_nodes t) ≡ 1 = ap length e.0 in
    subst (λ n. AreBelow n after) (sym one) (subst (AreBelow 1) (sym (e.1 ∙ ap (λ ws. children_of 0 kids ++ ws) none)) (AreBelow-children 1 0 kids [] (omega arith) tt))

pub root_all : (t : Nodes) (c : Construct) (before after : List Waiting) → before ≡ [] → EntersRoot (Ok t) c before after → all_placed (placed_nodes t) after ≡ constructs_of c
root_all t (language.construct h b kids) before after none e =
    let r = root_placed h b in
    ap (λ l. all_placed l after) e.0 ∙ ap (all_placed (r ∷ [])) (e.1 ∙ ap (λ ws. children_of 0 kids ++ ws) none)
    ∙ ap (λ l. r ∷ l) (still_to_place-children (r ∷ []) 0 1 kids [] ∙ append-nil (walk_children 1 0 r kids))
