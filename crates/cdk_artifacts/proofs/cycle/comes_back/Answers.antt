use Rattle.std.proofs.Common.{◌≡◌, List, ℕ, refl, sym, ap, ◌∙◌, subst, inl, length}
use Rattle.cdk_eval.specs.Manifest.{dependencies_of}
use Rattle.cdk_eval.specs.Reach.{comes_to}
use Rattle.cdk_eval.proofs.Order.{cycles_found}
use mathlib.Core.Path.{fun_ext}
use Rattle.cdk_artifacts.specs.Found.{has_name, texts_of}
use Rattle.cdk_artifacts.specs.Ways.{leads_in, Grows}
use Rattle.cdk_artifacts.proofs.Search.{Searches, begins, steps, finds, ends, one_step, texts_push}
use Rattle.cdk_artifacts.proofs.cycle.comes_back.Goals as goal

pub returns-then-branch : goal.returns-then-branch
returns-then-branch c ss h =
    let leads = leads_in c.args.index.now in
    let id = c.args.id.now in
    let same : leads ≡ dependencies_of ss = fun_ext h in
    let found = rw c.if-branch.true at c.in_ok-push_dependencies.ensures in
    sym (cycles_found ss 1 id (ap (λ f. comes_to f 1 id id) (sym same) ∙ one_step leads id id found))

pub search-init : goal.search-init
search-init c =
    let leads = leads_in c.args.index.now in
    let id = c.args.id.now in
    let pushed = rw c.if-branch.false at c.in_ok-push_dependencies.ensures in
    let s = has_name c.args.seen.now in
    let t = has_name c.push_dependencies.new.seen in
    let p = texts_of c.push_dependencies.new.open_ids in
    begins leads id s t p c.requires.unseen (subst (λ (o : List (List ℕ)). Grows (leads id) s t o p) (ap texts_of c.requires.none_waiting) pushed.0) pushed.1

pub returns-in_default : goal.returns-in_default
returns-in_default c ss h =
    let leads = leads_in c.args.index.now in
    let id = c.args.id.now in
    let s = has_name c.search.seen in
    let same : leads ≡ dependencies_of ss = fun_ext h in
    sym (ap (λ f. comes_to f (length ss) id id) (sym same) ∙ ends leads id s (subst (Searches leads id s) (ap texts_of c.in_default.ensures.0) c.search.invariant) (length ss) id (inl refl))

pub returns-then-branch-2 : goal.returns-then-branch-2
returns-then-branch-2 c ss h =
    let leads = leads_in c.args.index.now in
    let id = c.args.id.now in
    let next = c.in-Some.next.now in
    let same : leads ≡ dependencies_of ss = fun_ext h in
    let found = rw c.if-branch-2.true at c.in_ok-push_dependencies-2.ensures in
    let popped = texts_push c.pop.new.self c.search.waiting c.in-Some.next c.in-Some.ensures in
    let way = finds leads id (has_name c.search.seen) (texts_of c.pop.new.self) (texts_of c.search.waiting) next c.search.invariant popped found in
    sym (cycles_found ss way.0 id (ap (λ f. comes_to f way.0 id id) (sym same) ∙ way.1))

pub search-preserved : goal.search-preserved
search-preserved c =
    let leads = leads_in c.args.index.now in
    let id = c.args.id.now in
    let next = c.in-Some.next.now in
    let pushed = rw c.if-branch-2.false at c.in_ok-push_dependencies-2.ensures in
    let s = has_name c.search.seen in
    let t = has_name c.push_dependencies-in-search.new.seen in
    let o = texts_of c.pop.new.self in
    let p = texts_of c.push_dependencies-in-search.new.open_ids in
    let popped = texts_push c.pop.new.self c.search.waiting c.in-Some.next c.in-Some.ensures in
    steps leads id s t o p (texts_of c.search.waiting) next c.search.invariant popped pushed.0 pushed.1
